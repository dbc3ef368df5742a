pub mod BucketLaws
pub mod ContentLaws
pub mod HistoryLemmas
pub mod LockLemmas
pub mod VisitLemmas
mod WorkedRows
mod WorkedShrinks
pub mod Splits
pub mod StepRows
pub mod Ascending
mod Worked
mod SparedOnOwn
mod SparedOnOwnCalls
mod StolenPending
mod StolenPendingCalls
mod NoneLeft
mod NoneLeftCall
mod FlushReadsBits
mod FlushReadsBitsCalls
mod ForcedOnActive
mod ForcedOnActiveCalls
mod HeldOnOwn
mod HeldOnGlobal
mod NotAllowed
mod OwnOfEach
mod NotTraces
pub mod CostLemmas
pub mod CostLaws
mod WalksWorked
pub mod RowCounts
pub mod Loses
pub mod Cursors
pub mod KeepLaws
pub mod PlainLaws
mod RunSpare
mod RunOtherStack
mod RunEvictsItself
mod RunSparedOnOwn
mod RunStolen
mod RunForcedOnActive
mod RunCursor
mod RunFlushReadsBits
mod RunPerCpu
mod RunWalks
pub mod DoneLaws
pub mod LookLaws
pub mod OwnLaws
pub mod GlobalChoices
pub mod ShrinkProbes
pub mod RotationCounts
pub mod StealChoices
pub mod AcquireLeaves
pub mod PlacedLaws
pub mod EachTurn
pub mod AlwaysRemoved
pub mod NeverEmpty
pub mod ListContents
pub mod AlwaysGets
pub mod Giving
pub mod OwnGets
pub mod SharedGets
pub mod WalksDone
pub mod HandingAlong
pub mod PlainlyDone
pub mod OrderlyRuns
pub mod OnLocks
pub mod ListSums
pub mod Settled
pub mod ChaseDone
pub mod PlacedContents
pub mod ListTurns
pub mod ProbeLaws
pub mod Supplies
pub mod OwnDone
pub mod EvictingDone
pub mod OpeningSettled
pub mod TwoLists
pub mod SharedFrees
pub mod SharedTakes
pub mod SharedRound
pub mod SharedDone
pub mod BatchesDone
pub mod EvictingRuns
pub mod AnyStart
pub mod Cuts
pub mod RestCounts
mod SerialWorked
pub mod Permutes
pub mod BodiesKept
pub mod Balances
pub mod PlainRests
pub mod PlainOpening
pub mod ElementLemmas
pub mod FrameLemmas
pub mod RowLemmas
pub mod PairWords
pub mod OwnerSteps
pub mod HomeSteps
pub mod LockSteps
pub mod OpeningLemmas
pub mod OpeningLaws
pub mod StartLemmas
pub mod StepLaws
pub mod TotalLemmas
pub mod WholeLemmas
