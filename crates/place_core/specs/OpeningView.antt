-- The opening of a map as a core is seen.
use Rattle.std.specs.Prelude.{◌≡◌, false, [], map, replicate}
use Rattle.std.specs.List.{range_with_len}
use Rattle.map_types.specs.declared.attr.Shape.{Shape}
use Rattle.place_words.specs.Locks.{lock_count}
pub use Rattle.place_words.specs.OpeningState.{AreOpeningOwners}
use Rattle.place_words.specs.OpeningState.{opening_home, opening_lists}
use Rattle.place_core.specs.CoreView.{CoreView}

-- nobody holds a lock, and locks and elements are as they are at first
pub record IsOpening (shape : Shape) (core : CoreView) : Type 0 where
  pub shape_is : core.shape ≡ shape
  pub held : core.held ≡ []
  pub lists : core.lists ≡ map (opening_lists shape) (range_with_len 0 (lock_count shape))
  pub owners : AreOpeningOwners shape core.owners
  pub homes : core.homes ≡ map (opening_home shape) (range_with_len 0 shape.elements)
  pub bits : core.bits ≡ replicate shape.elements false
