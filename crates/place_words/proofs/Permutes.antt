-- Lists in which each number stands equally often are permutations of one another.
use Rattle.std.proofs.Common.{◌≡◌, ℕ, zero, suc, ◌+◌, ◌<◌, ◌≤◌, cond, ltb, List, [], ◌∷◌, ◌++◌, refl, ap, ◌∙◌, sym, subst, arith}
use Rattle.std.specs.Prelude.{IsPermutation}
use Rattle.std.specs.List.{range_with_len}
use Rattle.std.proofs.lemmas.Bool.{lt-ltb, le-ltb}
use Rattle.std.proofs.lemmas.List.Sorted.{IsPermutation-refl, IsPermutation-trans, IsPermutation-cons, IsPermutation-middle, IsPermutation-sym}
use Rattle.map_types.specs.ElementLists.{one, times}
use Rattle.map_types.proofs.RowLemmas.{by_test, times_append}
use Rattle.place_words.proofs.BucketLaws.{times_more}
use Rattle.place_words.proofs.ChaseDone.{times_one}

split_at : (e : ℕ) (xs : List ℕ) → 0 < times e xs → (before : List ℕ) × (after : List ℕ) × (xs ≡ before ++ e ∷ after)
split_at e [] some = absurd (omega arith)
split_at e (x ∷ xs) some =
    by_test x e (λ b. 0 < cond b (suc (times e xs)) (times e xs) → (before : List ℕ) × (after : List ℕ) × (x ∷ xs ≡ before ++ e ∷ after))
    (λ is there. ([], xs, ap (λ y. y ∷ xs) is))
    (λ other there. let rest = split_at e xs there in (x ∷ rest.0, rest.1, ap (λ (l : List ℕ). x ∷ l) rest.2))
    some

rest_alike : (e x : ℕ) (xs before after : List ℕ) → times e (x ∷ xs) ≡ times e (before ++ x ∷ after) → times e xs ≡ times e (before ++ after)
rest_alike e x xs before after same = omega (arith, same, times_more e x xs, times_more e x after, times_append e before (x ∷ after), times_append e before after)

pub counts_permute : (xs ys : List ℕ) → ((e : ℕ) → times e xs ≡ times e ys) → IsPermutation xs ys
counts_permute [] [] same = IsPermutation-refl []
counts_permute [] (y ∷ ys) same = absurd (omega (arith, same y, times_more y y ys, times_one y))
counts_permute (x ∷ xs) ys same =
    let split = split_at x ys (omega (arith, same x, times_more x x xs, times_one x)) in
    let rest = counts_permute xs (split.0 ++ split.1) (λ e. rest_alike e x xs split.0 split.1 (same e ∙ ap (times e) split.2)) in
    subst (IsPermutation (x ∷ xs)) (sym split.2)
    (IsPermutation-trans (x ∷ xs) (x ∷ (split.0 ++ split.1)) (split.0 ++ x ∷ split.1) (IsPermutation-cons x xs (split.0 ++ split.1) rest) (IsPermutation-sym _ _ (IsPermutation-middle split.0 x split.1)))

-- all numbers below a bound, each once
range_before : (e a n : ℕ) → e < a → times e (range_with_len a n) ≡ 0
range_before e a zero before = refl
range_before e a (suc n) before =
    by_test a e (λ b. cond b (suc (times e (range_with_len (a + 1) n))) (times e (range_with_len (a + 1) n)) ≡ 0)
    (λ is. absurd (omega (arith, is, before)))
    (λ other. range_before e (a + 1) n (omega (arith, before)))

range_count : (e a n : ℕ) → a ≤ e → times e (range_with_len a n) ≡ one (ltb e (a + n))
range_count e a zero from = sym (ap one (le-ltb e (a + 0) (omega (arith, from))))
range_count e a (suc n) from =
    by_test a e (λ b. cond b (suc (times e (range_with_len (a + 1) n))) (times e (range_with_len (a + 1) n)) ≡ one (ltb e (a + suc n)))
    (λ is. let here : one (ltb e (a + suc n)) ≡ 1 = ap one (lt-ltb e (a + suc n) (omega (arith, is))) in omega (arith, here, range_before e (a + 1) n (omega (arith, is))))
    (λ other. range_count e (a + 1) n (omega (arith, from, other)) ∙ ap (λ k. one (ltb e k)) (let same : (a + 1) + n ≡ a + suc n = omega arith in same))

pub numbers_count : (e n : ℕ) → times e (range_with_len 0 n) ≡ one (ltb e n)
numbers_count e n = range_count e 0 n (omega arith) ∙ ap (λ k. one (ltb e k)) (let same : 0 + n ≡ n = omega arith in same)
