-- The stack of a CPU's free elements.
use Rattle.std.specs.Prelude.{ℕ, List}
use Rattle.map_types.specs.Stored.{Stored}

-- the bodies, the top first, and how many there can be
pub record FreelistView : Type 0 where
  pub bodies : List Stored
  pub room : ℕ
