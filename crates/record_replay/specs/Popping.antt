-- How a pop of a freelist is judged.
use Rattle.std.specs.Prelude.{◌≡◌, ℕ, Bool, MatchBool, List}
use Rattle.map_types.specs.ElementLists.{IsHead}
use Rattle.place_words.specs.Freelists.{without_top}

-- whether this element was on top, and then the stack is left without it
abbrev pub PopsTop : ℕ → List ℕ → List ℕ → Bool → Type 0
PopsTop element before now on_top = MatchBool on_top (IsHead element before × (now ≡ without_top before)) (IsHead element before → ⊥)
