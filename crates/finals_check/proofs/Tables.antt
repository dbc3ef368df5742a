-- A table of what was met, against how often each element stands in a list.
use Rattle.std.proofs.Common.{◌≡◌, ℕ, zero, suc, ◌+◌, ◌<◌, ◌≤◌, Bool, true, false, not, cond, eqb, ltb, List, [], ◌∷◌, length, get_or, set, replicate, None, refl, ap, sym, ◌∙◌, subst, ⊎_elim, arith}
use Rattle.std.specs.Prelude.{IsPermutation}
use Rattle.std.specs.List.{count_by, range_with_len}
use Rattle.std.proofs.lemmas.Bool.{and_from, and_parts, cases_lt, lt-ltb, le-ltb}
use Rattle.std.proofs.lemmas.List.{get_or-set_same, get_or-set_other, get_or-replicate, length-replicate}
use Rattle.std.proofs.lemmas.List.Recursion.{is_count_by}
use Rattle.std.proofs.lemmas.List.Sorted.{sum_by-IsPermutation}
use Rattle.std.proofs.Math.ListN.{get_or-eq_default}
use Rattle.map_types.specs.ElementLists.{one, times}
use Rattle.map_types.proofs.RowLemmas.{by_test}
use Rattle.place_words.proofs.Permutes.{counts_permute, numbers_count}
use Rattle.finals_check.specs.Marking.{all_met, are_once, is_full, is_new, met_after}

-- an element of the list wasn't met and stands there once, and each other one was met
abbrev pub Fill : List Bool → List ℕ → Type 0
Fill met es = (e : ℕ) → times e es + one (get_or met e true) ≡ 1

one_true : (b : Bool) → one b ≡ 1 → b ≡ true
one_true true is = refl
one_true false is = absurd (omega arith)

one_false : (b : Bool) → one b ≡ 0 → b ≡ false
one_false true is = absurd (omega arith)
one_false false is = refl

not_true : (b : Bool) → not b ≡ true → b ≡ false
not_true true is = absurd cc
not_true false is = refl

-- an element is new exactly where it has a place and wasn't met
new_parts : (met : List Bool) (x : ℕ) → is_new met x ≡ true → (x < length met) × (get_or met x true ≡ false)
new_parts met x new = ⊎_elim
    (λ (less : x < length met). (less, not_true (get_or met x true) (sym (ap (λ (b : Bool). cond b (not (get_or met x true)) false) (lt-ltb x (length met) less)) ∙ new)))
    (λ (past : length met ≤ x). absurd (let none : false ≡ true = sym (ap (λ (b : Bool). cond b (not (get_or met x true)) false) (le-ltb x (length met) past)) ∙ new in cc))
    (cases_lt x (length met))

new_from : (met : List Bool) (x : ℕ) → get_or met x true ≡ false → is_new met x ≡ true
new_from met x unmet = ⊎_elim
    (λ (less : x < length met). ap (λ (b : Bool). cond b (not (get_or met x true)) false) (lt-ltb x (length met) less) ∙ ap not unmet)
    (λ (past : length met ≤ x). absurd (let there : true ≡ false = sym (get_or-eq_default met true past) ∙ unmet in cc))
    (cases_lt x (length met))

all_from : (met : List Bool) → ((e : ℕ) → get_or met e true ≡ true) → all_met met ≡ true
all_from [] each = refl
all_from (one ∷ met) each = and_from one (all_met met) (each 0) (all_from met (λ e. each (suc e)))

all_at : (met : List Bool) → all_met met ≡ true → (e : ℕ) → get_or met e true ≡ true
all_at [] all e = refl
all_at (one ∷ met) all zero = (and_parts one (all_met met) all).0
all_at (one ∷ met) all (suc e) = all_at met (and_parts one (all_met met) all).1 e

-- one that fills the table is met by turns, each of its elements new
fill_rest : (met : List Bool) (x : ℕ) (es : List ℕ) → is_new met x ≡ true → Fill met (x ∷ es) → Fill (set met x true) es
fill_rest met x es new fill e =
    let parts = new_parts met x new in
    by_test x e (λ b. cond b (suc (times e es)) (times e es) + one (get_or met e true) ≡ 1 → times e es + one (get_or (set met x true) e true) ≡ 1)
    (λ is count.
    let now : get_or (set met x true) e true ≡ true = subst (λ (y : ℕ). get_or (set met x true) y true ≡ true) is (get_or-set_same met x true true parts.0) in
    let there : one (get_or (set met x true) e true) ≡ 1 = ap one now in omega arith)
    (λ other count. let same : one (get_or (set met x true) e true) ≡ one (get_or met e true) = ap one (get_or-set_other met x e true true (λ is. other (sym is))) in omega arith)
    (fill e)

fill_back : (met : List Bool) (x : ℕ) (es : List ℕ) → is_new met x ≡ true → Fill (set met x true) es → Fill met (x ∷ es)
fill_back met x es new fill e =
    let parts = new_parts met x new in
    let count = fill e in
    by_test x e (λ b. cond b (suc (times e es)) (times e es) + one (get_or met e true) ≡ 1)
    (λ is.
    let now : get_or (set met x true) e true ≡ true = subst (λ (y : ℕ). get_or (set met x true) y true ≡ true) is (get_or-set_same met x true true parts.0) in
    let there : one (get_or (set met x true) e true) ≡ 1 = ap one now in
    let before : one (get_or met e true) ≡ 0 = ap one (subst (λ (y : ℕ). get_or met y true ≡ false) is parts.1) in omega arith)
    (λ other. let same : one (get_or (set met x true) e true) ≡ one (get_or met e true) = ap one (get_or-set_other met x e true true (λ is. other (sym is))) in omega arith)

first_new : (met : List Bool) (x : ℕ) (es : List ℕ) → Fill met (x ∷ es) → is_new met x ≡ true
first_new met x es fill =
    by_test x x (λ b. cond b (suc (times x es)) (times x es) + one (get_or met x true) ≡ 1 → is_new met x ≡ true)
    (λ _ count. new_from met x (one_false (get_or met x true) (omega arith)))
    (λ other _. absurd (other refl))
    (fill x)

pub fills : (es : List ℕ) (met : List Bool) → Fill met es → is_full (met_after met es) ≡ true
fills [] met fill = all_from met (λ e. one_true (get_or met e true) (let count = fill e in omega arith))
fills (x ∷ es) met fill =
    let new = first_new met x es fill in
    ap (λ (b : Bool). is_full (cond b (met_after (set met x true) es) None)) new ∙ fills es (set met x true) (fill_rest met x es new fill)

pub filled : (es : List ℕ) (met : List Bool) → is_full (met_after met es) ≡ true → Fill met es
filled [] met full = λ e. let there : one (get_or met e true) ≡ 1 = ap one (all_at met full e) in omega arith
filled (x ∷ es) met full = by (is_new met x) refl (λ there. filled es (set met x true) there) full
  where
    by : (b : Bool) → is_new met x ≡ b → (is_full (met_after (set met x true) es) ≡ true → Fill (set met x true) es)
        → is_full (cond b (met_after (set met x true) es) None) ≡ true → Fill met (x ∷ es)
    by true new rest there = fill_back met x es new (rest there)
    by false new rest there = absurd cc

-- at first no element was met
unmet : (n e : ℕ) → one (ltb e n) + one (get_or (replicate n false) e true) ≡ 1
unmet n e = ⊎_elim
    (λ (less : e < n). let real : one (ltb e n) ≡ 1 = ap one (lt-ltb e n less) in let none : one (get_or (replicate n false) e true) ≡ 0 = ap one (get_or-replicate n e false true less) in omega arith)
    (λ (past : n ≤ e).
    let long : length (replicate n false) ≡ n = length-replicate n false in
    let none : one (ltb e n) ≡ 0 = ap one (le-ltb e n past) in
    let out : one (get_or (replicate n false) e true) ≡ 1 = ap one (get_or-eq_default (replicate n false) true (omega arith)) in omega arith)
    (cases_lt e n)

times_counts : (e : ℕ) (xs : List ℕ) → times e xs ≡ count_by (λ x. eqb x e) xs
times_counts e xs =
    is_count_by (times e) (λ x. eqb x e) refl (λ x ys. by_test x e (λ b. cond b (suc (times e ys)) (times e ys) ≡ cond b (1 + times e ys) (times e ys)) (λ _. omega arith) (λ _. refl)) xs

permuted_count : (n : ℕ) (es : List ℕ) → IsPermutation (range_with_len 0 n) es → (e : ℕ) → times e es ≡ one (ltb e n)
permuted_count n es permuted e =
    times_counts e es ∙ (sum_by-IsPermutation (λ x. cond (eqb x e) 1 0) (range_with_len 0 n) es permuted ∙ (sym (times_counts e (range_with_len 0 n)) ∙ numbers_count e n))

-- the test tells whether these are the elements of the map, each once
pub once_permutes : (n : ℕ) (es : List ℕ) → are_once n es ≡ true → IsPermutation (range_with_len 0 n) es
once_permutes n es once =
    counts_permute (range_with_len 0 n) es (λ e. numbers_count e n ∙ (let count = filled es (replicate n false) once e in let first = unmet n e in let same : one (ltb e n) ≡ times e es = omega arith in same))

pub permutes_once : (n : ℕ) (es : List ℕ) → IsPermutation (range_with_len 0 n) es → are_once n es ≡ true
permutes_once n es permuted = fills es (replicate n false) (λ e. let count = permuted_count n es permuted e in let first = unmet n e in omega arith)
