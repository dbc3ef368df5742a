mod JsonLemmas
mod SummaryLemmas
pub mod TurnLemmas
mod WorkedRecord
mod TicketsWorked
pub mod LogGrowth
pub mod LogNames
pub mod LogSteps
pub mod LogContents
pub mod CutLemmas
pub mod RunCuts
pub mod SerialPhases
pub mod ExactPhases
mod WorkedPhases
pub mod LogTickets
pub mod LogRecord
pub mod ListedAtRest
pub mod LogAnswers
pub mod EachAtRest
