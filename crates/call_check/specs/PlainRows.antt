-- The turns that steps name on a map that doesn't evict, and the spares before them.
use Rattle.std.specs.Prelude.{◌≡◌, ℕ, true, List, map, Option, Some}
use Rattle.map_types.specs.declared.attr.Shape.{Shape}
use Rattle.place_words.specs.declared.history.Entry.{Entry}
use Rattle.place_words.specs.declared.history.LockHistory.{LockHistory}
use Rattle.place_words.specs.declared.history.StrandStep.{StrandStep}
use Rattle.place_words.specs.Locks.{is_lock}
use Rattle.record_shape.specs.Fits.{AllFit}
use Rattle.call_check.specs.RightCalls.{named_by, spare_of_entry}

-- the spare of a CPU before the turn of a step
abbrev pub spare_at_step : List ℕ → Shape → List LockHistory → ℕ → StrandStep → Option ℕ
spare_at_step cuts shape histories cpu step = spare_of_entry cuts shape histories cpu (named_by histories step)

abbrev pub spares_at : List ℕ → Shape → List LockHistory → ℕ → List StrandStep → List (Option ℕ)
spares_at cuts shape histories cpu row = map (spare_at_step cuts shape histories cpu) row

-- each step names an entry under a lock of the map
pub record IsNamed (shape : Shape) (histories : List LockHistory) (step : StrandStep) : Type 0 where
  pub lock : is_lock shape step.lock ≡ true
  pub entry : Entry
  pub is : named_by histories step ≡ Some entry

abbrev pub AreNamed : Shape → List LockHistory → List StrandStep → Type 0
AreNamed shape histories row = AllFit (IsNamed shape histories) row
