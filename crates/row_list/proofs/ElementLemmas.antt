-- How often an element stands in a list.
use Rattle.std.proofs.Common.{◌≡◌, ◌≢◌, ℕ, suc, cond, List, [], ◌∷◌, refl, ap, arith}
use Rattle.std.specs.Prelude.{reverse}
use Rattle.std.proofs.lemmas.Grind.{reverse_onto}
use Rattle.map_types.specs.ElementLists.{times, IsIn, IsHead}
use Rattle.map_types.proofs.RowLemmas.{times_append, by_test}

pub times_here : (x e : ℕ) (xs : List ℕ) → x ≡ e → times e (x ∷ xs) ≡ suc (times e xs)
times_here x e xs is =
    by_test x e (λ b. cond b (suc (times e xs)) (times e xs) ≡ suc (times e xs)) (λ _. refl) (λ other. absurd (other is))

pub times_elsewhere : (x e : ℕ) (xs : List ℕ) → x ≢ e → times e (x ∷ xs) ≡ times e xs
times_elsewhere x e xs other =
    by_test x e (λ b. cond b (suc (times e xs)) (times e xs) ≡ times e xs) (λ is. absurd (other is)) (λ _. refl)

-- where it doesn't stand, it isn't the first, and not in the rest
pub absent_parts : (x e : ℕ) (xs : List ℕ) → times e (x ∷ xs) ≡ 0 → (x ≢ e) × (times e xs ≡ 0)
absent_parts x e xs =
    by_test x e (λ b. cond b (suc (times e xs)) (times e xs) ≡ 0 → (x ≢ e) × (times e xs ≡ 0)) (λ _ none. absurd (omega arith)) (λ other none. (other, none))

pub times_reverse : (e : ℕ) (xs : List ℕ) → times e (reverse xs) ≡ times e xs
times_reverse e [] = refl
times_reverse e (x ∷ xs) =
    let back = ap (times e) (reverse_onto xs x []) in
    let split = times_append e (reverse xs) (x ∷ []) in
    let joined = times_append e (x ∷ []) xs in
    let rest = times_reverse e xs in
    omega arith

pub head_is_in : (e : ℕ) (xs : List ℕ) → IsHead e xs → IsIn e xs
head_is_in e [] head = absurd head
head_is_in e (x ∷ xs) head = let here = times_here x e xs head in omega arith
