mod RaceCrossing
pub mod AloneRuns
pub mod ReadAnswers
mod HandedCalls
pub mod Joining
pub mod Judged
pub mod OneOrder
pub mod Linearizable
pub mod Working
pub mod Workers
pub mod Refused
mod BesideCalls
mod BesideRaced
mod CopiedPages
mod ExtendedPhases
mod MapPages
mod CopyLoop
mod CopiesKept
mod CopyScripts
mod CopyRecords
mod LastPhase
mod BesideWorked
mod CopyReads
mod SameContents
mod CopiedOver
