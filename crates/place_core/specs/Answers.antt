-- What a core answers to a step.
use Rattle.std.specs.Prelude.{◌≡◌, length, Result, Ok, Err}
use Rattle.place_core.specs.declared.cells.Cells.{Cells}
use Rattle.place_words.specs.declared.step.Step.{Step}
use Rattle.place_core.specs.declared.refusal.CoreRefusal.{CoreRefusal}
use Rattle.place_core.specs.declared.refusal.CoreRefusal.TheVariants.{NotEnabled, NoMemory}
use Rattle.place_words.specs.Steps.{IsEnabled, after}
use Rattle.place_core.specs.CoreView.{CoreView, state_of, HeldOnce}

abbrev pub view_of : Cells → CoreView
view_of cells = record {
  shape = cells.shape;
  held = cells.held.items;
  lists = cells.lists.items;
  owners = cells.owners.items;
  homes = cells.homes.items;
  bits = cells.bits.items;
}

-- the same locks and elements are there
pub record KeepsRoom (before now : CoreView) : Type 0 where
  pub shape : now.shape ≡ before.shape
  pub locks : length now.lists ≡ length before.lists
  pub owners : length now.owners ≡ length before.owners
  pub homes : length now.homes ≡ length before.homes
  pub bits : length now.bits ≡ length before.bits
  pub held : HeldOnce now.held

-- the step may be done, and is done
pub record Does (before : CoreView) (step : Step) (now : CoreView) : Type 0 where
  pub enabled : IsEnabled before.shape (state_of before) step
  pub changed : state_of now ≡ after before.shape (state_of before) step
  pub room : KeepsRoom before now

-- A step is done, or it may not be done, or memory for it is not found. After a refusal nothing has changed.
abbrev pub Answers : CoreView → Step → CoreView → Result (Unit {0}) CoreRefusal → Type 0
Answers before step now (Ok done) = Does before step now
Answers before step now (Err NotEnabled) = (¬ IsEnabled before.shape (state_of before) step) × (now ≡ before)
Answers before step now (Err NoMemory) = now ≡ before
