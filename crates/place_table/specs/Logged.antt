-- The logs of a pass, one for each strand: which turns of buckets they have.
use Rattle.std.specs.Prelude.{◌≡◌, ℕ, All, List, [], ◌∷◌, map, filter, slice_get, Option, Some, MatchOption, Vec}
use Rattle.std.specs.Global.{Global}
use Rattle.map_types.specs.declared.attr.Shape.{Shape}
use Rattle.map_types.specs.declared.kind.DomainId.TheVariants.{Bucket}
use Rattle.place_words.specs.declared.history.StrandStep.{StrandStep}
use Rattle.place_words.specs.declared.turn_logs.LoggedTurn.{LoggedTurn}
use Rattle.place_words.specs.Locks.{lock_named}
use Rattle.place_words.specs.State.{is_bucket}
use Rattle.place_words.specs.TurnLogs.{turn_logged}
use Rattle.place_table.specs.declared.view.Ended.{Ended}
use Rattle.place_table.specs.declared.view.Turned.{Turned}
use Rattle.place_table.specs.Views.{place_of}

-- the step that a turn of a log is
abbrev pub step_logged : LoggedTurn → StrandStep
step_logged turn = record { lock = Bucket turn.bucket; index = turn.index }

-- a turn of a log is one of these turns, with its bucket, its place in the bucket's history and its entry
pub record IsTurnOf (shape : Shape) (steps : List Turned) (turn : LoggedTurn) : Type 0 where
  pub number : ℕ
  pub step : Turned
  pub there : slice_get steps number ≡ Some step
  pub lock_is : lock_named shape step.lock ≡ Bucket turn.bucket
  pub place_is : place_of step ≡ turn.index
  pub entry_is : step.entry ≡ turn_logged turn

-- the log of a strand has the recorded turns of buckets, in their order
pub record IsLogOf (shape : Shape) (steps : List Turned) (kept : List StrandStep) (log : List LoggedTurn) : Type 0 where
  pub steps_are : map step_logged log ≡ filter (λ (step : StrandStep). is_bucket step.lock) kept
  pub turns : All (IsTurnOf shape steps) log

-- a log for each of these strands
abbrev pub AreLogsOf : Shape → List Ended → List (Vec LoggedTurn Global) → Type 0
AreLogsOf shape [] [] = Unit {0}
AreLogsOf shape [] (log ∷ logs) = ⊥
AreLogsOf shape (strand ∷ strands) [] = ⊥
AreLogsOf shape (strand ∷ strands) (log ∷ logs) = IsLogOf shape strand.steps strand.kept log.items × AreLogsOf shape strands logs

-- or none is there, since memory for one wasn't found
abbrev pub HaveLogs : Shape → List Ended → Option (Vec (Vec LoggedTurn Global) Global) → Type 0
HaveLogs shape strands logs = MatchOption logs (Unit {0}) (λ v. AreLogsOf shape strands v.items)
