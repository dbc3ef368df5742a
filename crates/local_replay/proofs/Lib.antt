mod ListLaws
mod PartLaws
mod LocalSteps
mod NoteLaws
pub mod NoteSteps
mod StealLaws
mod WalkLaws
mod WalkMeaning
mod WalkSteps
