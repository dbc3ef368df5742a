-- The first place of a record where something isn't right.
use Rattle.std.specs.Prelude.{ℕ, ◌<◌, Option, Some, None}

-- the first of so many places that isn't right, or none where each is
abbrev pub IsFirstWrong : (ℕ → Type 0) → ℕ → Option ℕ → Type 0
IsFirstWrong IsRight count None = (place : ℕ) → place < count → IsRight place
IsFirstWrong IsRight count (Some first) = (first < count) × (IsRight first → ⊥) × ((place : ℕ) → place < first → IsRight place)
