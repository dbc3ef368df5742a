-- What is popped of stacks for the spares of a new map.
use Rattle.std.proofs.Common.{◌≡◌, ℕ, zero, suc, ◌==◌, Bool, not, List, [], ◌∷◌, length, Some, None, refl, ap}
use Rattle.std.specs.Prelude.{option_map, unwrap_or}
use Rattle.map_report.specs.Freelists.{stack_at, popped, spares_popped}

-- whether a stack isn't empty
abbrev pub has_top : List (List ℕ) → ℕ → Bool
has_top stacks cpu = not (length (stack_at stacks cpu) == 0)

-- one more spare, and the rest
abbrev pub with_spare : ℕ → List ℕ × List (List ℕ) → List ℕ × List (List ℕ)
with_spare spare rest = (spare ∷ rest.0, rest.1)

pub spares_next : (n : ℕ) (stacks : List (List ℕ)) (top : ℕ × List (List ℕ)) → popped 0 stacks ≡ Some top → spares_popped (suc n) stacks ≡ with_spare top.0 (spares_popped n top.1)
spares_next n stacks top is = ap (λ o. unwrap_or (option_map (λ (t : ℕ × List (List ℕ)). with_spare t.0 (spares_popped n t.1)) o) ([], stacks)) is

pub spares_end : (n : ℕ) (stacks : List (List ℕ)) → popped 0 stacks ≡ None → spares_popped n stacks ≡ ([], stacks)
spares_end zero stacks is = refl
spares_end (suc n) stacks is = ap (λ o. unwrap_or (option_map (λ (t : ℕ × List (List ℕ)). with_spare t.0 (spares_popped n t.1)) o) ([], stacks)) is
