-- How phases are judged, entry by entry.
use Rattle.std.specs.Prelude.{◌≡◌, ◌⊎◌, ℕ, suc, ◌<◌, ◌≤◌, List, [], All, MatchOption, ⊤, Some, slice_get}
use Rattle.map_report.specs.declared.record.PhaseStart.{PhaseStart}

-- nothing was drawn and nothing marked by then
abbrev pub IsOpening : PhaseStart → Type 0
IsOpening start = start ≡ record { ticket = 0; marked = [] }

-- a ticket stands from the start of a phase on, and before the start of the next one
pub record IsOnTime (starts : List PhaseStart) (phase ticket : ℕ) : Type 0 where
  pub start : PhaseStart
  pub start_is : slice_get starts phase ≡ Some start
  pub from : start.ticket ≤ ticket
  pub to : MatchOption (slice_get starts (suc phase)) ⊤ (λ (next : PhaseStart). ticket < next.ticket)

-- The least of a number and of the places at which some of these items aren't right.
pub record IsLeastWrong {A : Type 0} (IsRight : ℕ → A → Type 0) (items : List A) (first least : ℕ) : Type 0 where
  pub within : least ≤ first
  pub right : (place : ℕ) → place < least → All (IsRight place) items
  pub wrong : (least ≡ first) ⊎ (All (IsRight least) items → ⊥)
