-- The places of the turns of buckets in logs, those of a bucket side by side, and how far they are found.
use Rattle.std.specs.Prelude.{◌≡◌, ◌⊎◌, ℕ, ◌+◌, ◌<◌, ◌≤◌, List, length, take, Option, None, unwrap_or, slice_index, slice_index_or, slice_set, nat_lt, if◌then◌else◌, Vec}
use Rattle.std.specs.Global.{Global}
use Rattle.std.specs.List.{sum_by}
use Rattle.place_words.specs.declared.turn_logs.LoggedTurn.{LoggedTurn}
use Rattle.place_words.specs.declared.turn_logs.TurnPlace.{TurnPlace}
use Rattle.place_table.specs.Leaving.{StandsInLogs}

-- how many turns a bucket has, none where its record is lost, and how many those before it have
abbrev pub turns_in : List (Option ℕ) → ℕ → ℕ
turns_in counts bucket = unwrap_or (slice_index_or counts bucket None) 0

abbrev pub turns_before : List (Option ℕ) → ℕ → ℕ
turns_before counts bucket = sum_by (λ count. unwrap_or count 0) (take bucket counts)

-- where the places of each bucket begin, and last where they end
pub record AreStarts (counts : List (Option ℕ)) (starts : List ℕ) : Type 0 where
  pub many : length starts ≡ length counts + 1
  pub each : (bucket : ℕ) → bucket ≤ length counts → slice_index starts bucket ≡ turns_before counts bucket

-- the places once one is written at a turn's, if the turn is counted
abbrev pub with_place : List (Option ℕ) → LoggedTurn → TurnPlace → List TurnPlace → List TurnPlace
with_place counts turn place places =
    if nat_lt turn.index (turns_in counts turn.bucket) then slice_set places (turns_before counts turn.bucket + turn.index) place else places

-- a turn of a bucket stands in a log before this one, or in this one among so many first
pub record StandsBefore (logs : List (Vec LoggedTurn Global)) (past passed bucket index : ℕ) : Type 0 where
  pub at : StandsInLogs logs bucket index
  pub before : (at.log < past) ⊎ ((at.log ≡ past) × (at.turn < passed))

-- a place is one of a turn of a bucket
pub record IsPlaceOf (logs : List (Vec LoggedTurn Global)) (bucket index : ℕ) (place : TurnPlace) : Type 0 where
  pub at : StandsInLogs logs bucket index
  pub place_is : place ≡ record { log = at.log; turn = at.turn }

-- the places of the turns so far are written
abbrev pub ArePlaced : List (Option ℕ) → List (Vec LoggedTurn Global) → ℕ → ℕ → List TurnPlace → Type 0
ArePlaced counts logs past passed places =
    (bucket index : ℕ) → StandsBefore logs past passed bucket index → index < turns_in counts bucket
    → IsPlaceOf logs bucket index (slice_index_or places (turns_before counts bucket + index) (record { log = 0; turn = 0 }))
