-- A list of bodies that has room for more.
use Rattle.std.specs.Prelude.{ℕ, ◌+◌, ◌-◌, List, [], ◌∷◌}
use Rattle.map_types.specs.Stored.{Stored}

-- the bodies, and how many can be added before memory has to be found
pub record BodyList : Type 0 where
  pub bodies : List Stored
  pub spare : ℕ

-- the list after a push, and after a pop
abbrev pub pushed : Stored → BodyList → BodyList
pushed body list = record { bodies = body ∷ list.bodies; spare = list.spare - 1 }

abbrev pub popped_from : List Stored → ℕ → BodyList
popped_from [] spare = record { bodies = []; spare = spare }
popped_from (body ∷ bodies) spare = record { bodies = bodies; spare = spare + 1 }

abbrev pub popped : BodyList → BodyList
popped list = popped_from list.bodies list.spare
