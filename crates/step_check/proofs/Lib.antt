pub mod HeldLemmas
pub mod RunLemmas
pub mod ChangeRuns
pub mod PartLemmas
pub mod OpeningWords
mod OuterTurns
mod Enclosing
mod LocksTaken
mod TurnRuns
mod FlushLoops
mod FlushesOn
mod RunsTo
mod OfCalls
mod AllPlaces
mod ByTicket
mod Cases
mod TurnsJudged
pub mod First
pub mod Begun
pub mod LockSorts
pub mod Inside
pub mod Nested
pub mod InsideCalls
pub mod PlainNested
pub mod Owes
pub mod PlainLinks
pub mod SharedNests
pub mod SharedCounts
pub mod SharedAround
pub mod SharedGoing
pub mod SharedTurns
pub mod SharedStart
pub mod StepTurns
pub mod PlacedTurns
pub mod StrandCalls
pub mod StrandOrder
pub mod RecordLocks
pub mod InRecords
pub mod Judging
pub mod StepRuns
pub mod Reaches
pub mod GlobalTurns
pub mod Standing
pub mod OtherTurns
pub mod HeldRanks
pub mod GlobalStands
pub mod FreeFlushes
pub mod SharedDecided
