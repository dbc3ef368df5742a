-- The table of the least map.
use Rattle.std.specs.Prelude.{◌≡◌, ℕ, ◌<◌, true, false}
use Rattle.map_types.specs.declared.attr.Shape.{Shape}
use Rattle.map_types.specs.declared.kind.MapKind.TheVariants.{Hash}
use Rattle.place_table.specs.Passes.{PassView, TableView, IsPassOf, HasBegun, IsInNoCall}
use Rattle.place_table.specs.Views.{is_among, is_in_hand_of}

-- a map of kind HASH with one CPU, one bucket and two elements
abbrev pub least : Shape
least = record { kind = Hash; cpus = 1; capacity = 1; elements = 2; buckets = 1; key_size = 1; value_size = 1; seed = 0; common = false }

-- A pass of all CPUs has begun and is in no call, and element 1 is in the hand of CPU 0.
pub record IsTurned (t : TableView) (p : PassView) : Type 0 where
  pub of_table : IsPassOf t p
  pub begun : HasBegun p
  pub on_cpu : p.cpu ≡ 0
  pub in_no_call : IsInNoCall p
  pub all_cpus : (c : ℕ) → c < t.shape.cpus → is_among c p.view.cpus ≡ true
  pub spare : is_in_hand_of 1 0 p.view.hand ≡ true
