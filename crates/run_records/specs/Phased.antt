-- What a pass that has all CPUs reads at the start of a phase.
use Rattle.std.specs.Prelude.{◌≡◌, ℕ, ◌<◌, ◌≤◌, Bool, true, Some, List, [], ◌++◌, filter}
use Rattle.std.specs.List.{range_with_len}
use Rattle.map_types.specs.declared.attr.Shape.{Shape}
use Rattle.place_table.specs.declared.view.Known.{Known}
use Rattle.place_table.specs.declared.view.Turned.{Turned}
use Rattle.place_table.specs.Idle.{LearnsAll}
use Rattle.place_table.specs.Passes.{PassView, TableView, IsInNoCall, IsKeptOf, IsPassOf}
use Rattle.place_table.specs.Views.{bit_seen, is_among}
use Rattle.map_report.specs.declared.record.PhaseStart.{PhaseStart}

-- a pass that has all CPUs and is in no call
pub record IsWhole (t : TableView) (p : PassView) : Type 0 where
  pub of_table : IsPassOf t p
  pub all_cpus : (cpu : ℕ) → cpu < t.shape.cpus → is_among cpu p.view.cpus ≡ true
  pub in_no_call : IsInNoCall p

-- what a pass has stays but for what it knows of turns and bits
pub record IsAsBefore (before after : PassView) : Type 0 where
  pub table : after.table ≡ before.table
  pub spares : after.spares ≡ before.spares
  pub shape : after.view.shape ≡ before.view.shape
  pub cpus : after.view.cpus ≡ before.view.cpus
  pub held : after.view.held ≡ before.view.held
  pub hand : after.view.hand ≡ before.view.hand
  pub carried : after.view.carried ≡ before.view.carried
  pub reached : after.view.reached ≡ before.view.reached
  pub refused : after.view.refused ≡ before.view.refused
  pub steps : after.view.steps ≡ before.view.steps
  pub kept : after.view.kept ≡ before.view.kept
  pub ended : after.view.ended ≡ before.view.ended
  pub lost : after.view.lost ≡ before.view.lost

-- The ticket word and every bit were read: the start of the phase tells them, and the pass knows them from then on, with the turns of
-- every lock. What it knew before is so.
pub record Started (t : TableView) (before after : PassView) (start : PhaseStart) : Type 0 where
  pub ticket_is : start.ticket ≡ before.view.reached
  pub learned : List Known
  pub learns : LearnsAll t.shape before.view learned
  pub known_is : after.view.known ≡ learned
  pub bits : ℕ → Bool
  pub marked_are : start.marked ≡ filter bits (range_with_len 0 t.shape.elements)
  pub seen : (e : ℕ) → e < t.shape.elements → bit_seen e after.view.bits ≡ Some (bits e)
  pub knew : (e : ℕ) (bit : Bool) → e < t.shape.elements → bit_seen e before.view.bits ≡ Some bit → bits e ≡ bit
  pub stays : IsAsBefore before after

-- The bits of so many elements were read, from element 0 on, and these were found set.
pub record SawBits (count : ℕ) (before after : PassView) (marked : List ℕ) : Type 0 where
  pub bits : ℕ → Bool
  pub marked_are : marked ≡ filter bits (range_with_len 0 count)
  pub seen : (e : ℕ) → e < count → bit_seen e after.view.bits ≡ Some (bits e)
  pub others : (e : ℕ) → count ≤ e → bit_seen e after.view.bits ≡ bit_seen e before.view.bits
  pub knew : (e : ℕ) (bit : Bool) → e < count → bit_seen e before.view.bits ≡ Some bit → bits e ≡ bit
  pub known : after.view.known ≡ before.view.known
  pub stays : IsAsBefore before after

-- What a pass that made calls has more: these turns, of which all or some are recorded. It forgets no turn that got no number, and no
-- lock whose record is lost.
pub record HasGone (shape : Shape) (before after : PassView) : Type 0 where
  pub made : List Turned
  pub steps : after.view.steps ≡ before.view.steps ++ made
  pub kept : IsKeptOf shape made before.view.kept after.view.kept
  pub refused : before.view.refused ≤ after.view.refused
  pub lost : after.view.lost ≡ [] → before.view.lost ≡ []
