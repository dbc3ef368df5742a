-- Lists by how often a number stands in them.
use Rattle.std.proofs.Common.{◌≡◌, ℕ, zero, suc, ◌+◌, ◌<◌, ◌≤◌, Bool, true, false, cond, eqb, List, [], ◌∷◌, ◌++◌, length, map, get_or, IsPermutation, refl, ap, sym, ◌∙◌, subst, arith}
use Rattle.std.specs.List.{concat, flat_map, range_with_len}
use Rattle.std.proofs.lemmas.Bool.{ne_eqb}
use Rattle.std.proofs.lemmas.List.Sorted.{IsPermutation-refl, IsPermutation-trans, IsPermutation-cons, IsPermutation-middle, IsPermutation-sym}
use Rattle.map_types.specs.ElementLists.{one, times}
use Rattle.map_types.proofs.RowLemmas.{times_append, by_test}
use Rattle.place_words.specs.Totals.{sum_below}
use Rattle.place_words.proofs.ElementLemmas.{times_cons_same}
use Rattle.place_words.proofs.TotalLemmas.{sum_same}

-- How often a number stands in a list

split_at : (e : ℕ) (xs : List ℕ) → 0 < times e xs → (before : List ℕ) × (after : List ℕ) × (xs ≡ before ++ e ∷ after)
split_at e [] some = absurd (omega arith)
split_at e (x ∷ xs) some =
    by_test x e (λ b. 0 < cond b (suc (times e xs)) (times e xs) → (before : List ℕ) × (after : List ℕ) × (x ∷ xs ≡ before ++ e ∷ after))
    (λ is _. ([], xs, ap (λ y. y ∷ xs) is))
    (λ other there. let rest = split_at e xs there in (x ∷ rest.0, rest.1, ap (λ l. x ∷ l) rest.2)) some

times_middle : (e x : ℕ) (before after : List ℕ) → times e (before ++ x ∷ after) ≡ times e (x ∷ (before ++ after))
times_middle e x before after =
    let whole = times_append e before (x ∷ after) in
    let parts = times_append e before after in
    by_test x e (λ b. times e (before ++ x ∷ after) ≡ times e before + cond b (suc (times e after)) (times e after) → times e (before ++ x ∷ after) ≡ cond b (suc (times e (before ++ after))) (times e (before ++ after)))
    (λ _ is. omega arith) (λ _ is. omega arith) whole

times_rest : (e x : ℕ) (xs ys : List ℕ) → times e (x ∷ xs) ≡ times e (x ∷ ys) → times e xs ≡ times e ys
times_rest e x xs ys =
    by_test x e (λ b. cond b (suc (times e xs)) (times e xs) ≡ cond b (suc (times e ys)) (times e ys) → times e xs ≡ times e ys) (λ _ is. omega arith) (λ _ is. is)

-- where each number stands in two lists equally often, they are permutations
pub counts_permute : (xs ys : List ℕ) → ((e : ℕ) → times e xs ≡ times e ys) → IsPermutation xs ys
counts_permute [] [] same = IsPermutation-refl []
counts_permute [] (y ∷ ys) same = let here = same y in let there = times_cons_same y ys in let none : times y [] ≡ 0 = refl in absurd (omega arith)
counts_permute (x ∷ xs) ys same =
    let here = same x in
    let there = times_cons_same x xs in
    let split = split_at x ys (omega arith) in
    let rest = counts_permute xs (split.0 ++ split.1) (λ e. times_rest e x xs (split.0 ++ split.1) (same e ∙ ap (times e) split.2 ∙ times_middle e x split.0 split.1)) in
    subst (IsPermutation (x ∷ xs)) (sym split.2)
    (IsPermutation-trans (x ∷ xs) (x ∷ (split.0 ++ split.1)) (split.0 ++ x ∷ split.1) (IsPermutation-cons x xs (split.0 ++ split.1) rest) (IsPermutation-sym _ _ (IsPermutation-middle split.0 x split.1)))

pub times_range : (e a n : ℕ) → a ≤ e → e < a + n → times e (range_with_len a n) ≡ 1
times_range e a zero low high = absurd (omega arith)
times_range e a (suc n) low high =
    by_test a e (λ b. cond b (suc (times e (range_with_len (a + 1) n))) (times e (range_with_len (a + 1) n)) ≡ 1)
    (λ is. ap suc (times_below e (a + 1) n (omega arith)))
    (λ other. times_range e (a + 1) n (omega (arith, other)) (omega arith))
  where
    times_below : (e a n : ℕ) → e < a → times e (range_with_len a n) ≡ 0
    times_below e a zero below = refl
    times_below e a (suc n) below = ap (λ b. cond b (suc (times e (range_with_len (a + 1) n))) (times e (range_with_len (a + 1) n))) (ne_eqb a e (λ is. omega arith)) ∙ times_below e (a + 1) n (omega arith)

pub times_past : (e a n : ℕ) → a + n ≤ e → times e (range_with_len a n) ≡ 0
times_past e a zero past = refl
times_past e a (suc n) past =
    ap (λ b. cond b (suc (times e (range_with_len (a + 1) n))) (times e (range_with_len (a + 1) n))) (ne_eqb a e (λ is. omega arith)) ∙ times_past e (a + 1) n (omega arith)

-- Sums over lists

sum_first : (n : ℕ) (f : ℕ → ℕ) → sum_below (suc n) f ≡ f 0 + sum_below n (λ k. f (suc k))
sum_first zero f = omega arith
sum_first (suc n) f = let rest = sum_first n f in omega arith

pub times_flat_map : {X : Type 0} (f : X → List ℕ) (d : X) (e : ℕ) (xs : List X) → times e (flat_map f xs) ≡ sum_below (length xs) (λ k. times e (f (get_or xs k d)))
times_flat_map f d e [] = refl
times_flat_map f d e (x ∷ xs) =
    let parts = times_append e (f x) (flat_map f xs) in
    let rest = times_flat_map f d e xs in
    let first = sum_first (length xs) (λ k. times e (f (get_or (x ∷ xs) k d))) in
    omega arith

pub times_concat : (e : ℕ) (xs : List (List ℕ)) → times e (concat xs) ≡ sum_below (length xs) (λ k. times e (get_or xs k []))
times_concat e [] = refl
times_concat e (x ∷ xs) =
    let parts = times_append e x (concat xs) in
    let rest = times_concat e xs in
    let first = sum_first (length xs) (λ k. times e (get_or (x ∷ xs) k [])) in
    omega arith

pub times_made : (f : ℕ → ℕ) (e a n : ℕ) → times e (map f (range_with_len a n)) ≡ sum_below n (λ k. one (eqb (f (a + k)) e))
times_made f e a zero = refl
times_made f e a (suc n) =
    let rest = times_made f e (a + 1) n in
    let first = sum_first n (λ k. one (eqb (f (a + k)) e)) in
    by (eqb (f a) e) (ap (λ k. one (eqb (f k) e)) (let none : a + 0 ≡ a = omega arith in none)) first
    (rest ∙ sum_same n (λ k. one (eqb (f (a + 1 + k)) e)) (λ k. one (eqb (f (a + suc k)) e)) (λ k below. ap (λ m. one (eqb (f m) e)) (let same : a + 1 + k ≡ a + suc k = omega arith in same)))
  where
    by : (b : Bool) → one (eqb (f (a + 0)) e) ≡ one b → sum_below (suc n) (λ k. one (eqb (f (a + k)) e)) ≡ one (eqb (f (a + 0)) e) + sum_below n (λ k. one (eqb (f (a + suc k)) e))
        → times e (map f (range_with_len (a + 1) n)) ≡ sum_below n (λ k. one (eqb (f (a + suc k)) e))
        → cond b (suc (times e (map f (range_with_len (a + 1) n)))) (times e (map f (range_with_len (a + 1) n))) ≡ sum_below (suc n) (λ k. one (eqb (f (a + k)) e))
    by true here first rest = omega arith
    by false here first rest = omega arith
