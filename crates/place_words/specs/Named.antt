-- Which turns the steps of a strand name in the histories of the locks.
use Rattle.std.specs.Prelude.{◌≡◌, ℕ, List, [], ◌∷◌, take, slice_get, Some, if◌then◌else◌}
use Rattle.map_types.specs.declared.kind.DomainId.{DomainId}
use Rattle.place_words.specs.declared.history.Entry.{Entry}
use Rattle.place_words.specs.declared.history.LockHistory.{LockHistory}
use Rattle.place_words.specs.declared.history.StrandStep.{StrandStep}
use Rattle.place_words.specs.Locks.{is_same_lock}
use Rattle.place_words.specs.Turns.{TurnAt}

-- the entries of a lock's history
abbrev pub entries_of : List LockHistory → DomainId → List Entry
entries_of [] lock = []
entries_of (history ∷ histories) lock =
    if is_same_lock history.lock lock then history.entries else entries_of histories lock

-- A step names a turn that a CPU made in the call of some number: the turn stands at the step's place in its lock's history,
-- after the entries before that place.
pub record Names (histories : List LockHistory) (cpu number : ℕ) (step : StrandStep) (at : TurnAt) : Type 0 where
  pub lock : step.lock ≡ at.turn.lock
  pub ticket : ℕ
  pub entry : slice_get (entries_of histories step.lock) step.index ≡ Some record { ticket = ticket; cpu = cpu; call = number; part = at.turn.part }
  pub earlier : at.earlier ≡ take step.index (entries_of histories step.lock)

-- each of these steps names each of these turns
abbrev pub NameAll : List LockHistory → ℕ → ℕ → List StrandStep → List TurnAt → Type 0
NameAll histories cpu number [] [] = Unit {0}
NameAll histories cpu number [] (turn ∷ turns) = ⊥
NameAll histories cpu number (step ∷ steps) [] = ⊥
NameAll histories cpu number (step ∷ steps) (turn ∷ turns) =
    Names histories cpu number step turn × NameAll histories cpu number steps turns
