-- Numbers that are below how many there are, and of which none stood before, are all of them, each once.
use Rattle.std.proofs.Common.{◌≡◌, ℕ, zero, suc, ◌+◌, ◌<◌, ◌≤◌, true, false, ◌||◌, cond, eqb, ltb, List, [], ◌∷◌, length, get_or, take, drop, refl, ap, sym, ◌∙◌, subst, ⊎_elim, arith}
use Rattle.std.specs.Prelude.{IsPermutation}
use Rattle.std.specs.List.{list_any, count_by, IsDistinct, AllByRecursion, range_with_len}
use Rattle.std.proofs.lemmas.Bool.{ne_eqb, eq-eqb, cases_lt, lt-ltb, le-ltb}
use Rattle.std.proofs.lemmas.List.{take-append-drop, take_all}
use Rattle.std.proofs.lemmas.List.Recursion.{is_count_by}
use Rattle.std.proofs.lemmas.List.Sorted.{sum_by-IsPermutation}
use Rattle.std.proofs.lemmas.Map.Steps.{length-le_from_distinct_below}
use Rattle.std.proofs.Math.Seq.{take-suc, drop-cons}
use Rattle.map_types.specs.ElementLists.{one, times}
use Rattle.map_types.proofs.RowLemmas.{by_test, times_append}
use Rattle.place_words.proofs.Permutes.{counts_permute, numbers_count}

pub times_here : (x : ℕ) (xs : List ℕ) → times x (x ∷ xs) ≡ suc (times x xs)
times_here x xs = rw (eq-eqb x x refl) refl

-- where one stands that is there
pub standing : (e : ℕ) (xs : List ℕ) → 0 < times e xs → (g : ℕ) × (g < length xs) × (get_or xs g 0 ≡ e)
standing e [] some = absurd (omega arith)
standing e (x ∷ xs) some =
    by_test x e (λ b. 0 < cond b (suc (times e xs)) (times e xs) → (g : ℕ) × (g < length (x ∷ xs)) × (get_or (x ∷ xs) g 0 ≡ e))
    (λ is _. (0, omega arith, is))
    (λ _ there. let rest = standing e xs there in let less = rest.1 in (suc rest.0, omega arith, rest.2))
    some

-- what stands at a place is there
pub at_place : (xs : List ℕ) (g : ℕ) → g < length xs → times (get_or xs g 0) xs ≡ times (get_or xs g 0) (take g xs) + suc (times (get_or xs g 0) (drop (suc g) xs))
at_place xs g less =
    let t : ℕ = get_or xs g 0 in
    ap (times t) (sym (take-append-drop g xs)) ∙ (times_append t (take g xs) (drop g xs)
    ∙ ap (λ (n : ℕ). times t (take g xs) + n) (ap (times t) (drop-cons xs g 0 less) ∙ times_here t (drop (suc g) xs)))

none_equal : (e : ℕ) (xs : List ℕ) → times e xs ≡ 0 → AllByRecursion (λ y. eqb e y ≡ false) xs
none_equal e [] none = tt
none_equal e (x ∷ xs) none =
    by_test x e (λ b. cond b (suc (times e xs)) (times e xs) ≡ 0 → AllByRecursion (λ y. eqb e y ≡ false) (x ∷ xs))
    (λ _ more. absurd (omega arith))
    (λ other rest. (ne_eqb e x (λ is. other (sym is)), none_equal e xs rest)) none

distinct : (xs : List ℕ) → ((e : ℕ) → times e xs ≤ 1) → IsDistinct eqb xs
unfolding IsDistinct
distinct [] once = tt
distinct (x ∷ xs) once =
    let here = times_here x xs in
    let few = once x in
    (none_equal x xs (omega arith), distinct xs (λ e. by_test x e (λ b. cond b (suc (times e xs)) (times e xs) ≤ 1 → times e xs ≤ 1) (λ _ fewer. omega arith) (λ _ fewer. fewer) (once e)))

any_is_in : (q : ℕ) (xs : List ℕ) → list_any (eqb q) xs ≡ true → 0 < times q xs
any_is_in q [] any = absurd cc
any_is_in q (x ∷ xs) any =
    by_test x q (λ b. (eqb q x || list_any (eqb q) xs) ≡ true → 0 < cond b (suc (times q xs)) (times q xs))
    (λ _ _. omega arith)
    (λ other either. any_is_in q xs (let differs : eqb q x ≡ false = ne_eqb q x (λ is. other (sym is)) in rw differs at either)) any

module _ (ts : List ℕ) (below : (g : ℕ) → g < length ts → get_or ts g 0 < length ts) (fresh : (g : ℕ) → g < length ts → times (get_or ts g 0) (take g ts) ≡ 0) where
  few_before : (e g : ℕ) → g ≤ length ts → times e (take g ts) ≤ 1
  few_before e zero within = omega arith
  few_before e (suc g) within =
      let before = few_before e g (omega arith) in
      let none = fresh g (omega arith) in
      let t : ℕ = get_or ts g 0 in
      let longer : times e (take (suc g) ts) ≡ times e (take g ts) + times e (t ∷ []) = ap (times e) (take-suc ts g 0 (omega arith)) ∙ times_append e (take g ts) (t ∷ []) in
      by_test t e (λ b. times e (take (suc g) ts) ≡ times e (take g ts) + cond b 1 0 → times e (take (suc g) ts) ≤ 1)
      (λ is now. let none_here : times e (take g ts) ≡ 0 = ap (λ (x : ℕ). times x (take g ts)) (sym is) ∙ none in omega arith)
      (λ _ now. omega arith)
      longer

  few : (e : ℕ) → times e ts ≤ 1
  few e = let before = few_before e (length ts) (omega arith) in rw (take_all (length ts) ts (omega arith)) at before

  in_bound : (e : ℕ) → 0 < times e ts → e < length ts
  in_bound e some =
      let there = standing e ts some in
      let at = there.2 in
      let less = below there.0 there.1 in
      omega arith

  is_there : (e : ℕ) → e < length ts → 0 < times e ts
  is_there e less = ⊎_elim
      (λ (some : 0 < times e ts). some)
      (λ (none : times e ts ≤ 0).
      let more : List ℕ = e ∷ ts in
      let once : (q : ℕ) → times q more ≤ 1 = λ q. by_test e q (λ b. cond b (suc (times q ts)) (times q ts) ≤ 1) (λ is. let none_here : times q ts ≤ 0 = subst (λ (x : ℕ). times x ts ≤ 0) is none in omega arith) (λ _. few q) in
      let within : (q : ℕ) → list_any (eqb q) more ≡ true → q < length ts =
      λ q any. by_test e q (λ b. 0 < cond b (suc (times q ts)) (times q ts) → q < length ts) (λ is _. omega arith) (λ _ there. in_bound q there) (any_is_in q more any) in
      let many : length more ≤ length ts = length-le_from_distinct_below more (length ts) (distinct more once) within in
      absurd (omega arith))
      (cases_lt 0 (times e ts))

  counted : (e : ℕ) → times e ts ≡ one (ltb e (length ts))
  counted e = ⊎_elim
      (λ (less : e < length ts). let is : one (ltb e (length ts)) ≡ 1 = ap one (lt-ltb e (length ts) less) in let some = is_there e less in let once = few e in omega arith)
      (λ (past : length ts ≤ e).
      let is : one (ltb e (length ts)) ≡ 0 = ap one (le-ltb e (length ts) past) in
      ⊎_elim (λ (some : 0 < times e ts). absurd (let less = in_bound e some in omega arith)) (λ (none : times e ts ≤ 0). omega arith) (cases_lt 0 (times e ts)))
      (cases_lt e (length ts))

  pub each_once : IsPermutation (range_with_len 0 (length ts)) ts
  each_once = counts_permute (range_with_len 0 (length ts)) ts (λ e. numbers_count e (length ts) ∙ sym (counted e))

-- the converse

times_counts : (e : ℕ) (xs : List ℕ) → times e xs ≡ count_by (λ x. eqb x e) xs
times_counts e xs =
    is_count_by (times e) (λ x. eqb x e) refl (λ x ys. by_test x e (λ b. cond b (suc (times e ys)) (times e ys) ≡ cond b (1 + times e ys) (times e ys)) (λ _. omega arith) (λ _. refl)) xs

module _ (n : ℕ) (ts : List ℕ) (permuted : IsPermutation (range_with_len 0 n) ts) where
  count_is : (e : ℕ) → times e ts ≡ one (ltb e n)
  count_is e = times_counts e ts ∙ (sum_by-IsPermutation (λ x. cond (eqb x e) 1 0) (range_with_len 0 n) ts permuted ∙ (sym (times_counts e (range_with_len 0 n)) ∙ numbers_count e n))

  pub is_below : (g : ℕ) → g < length ts → get_or ts g 0 < n
  is_below g less =
      let e : ℕ = get_or ts g 0 in
      let there = at_place ts g less in
      let count = count_is e in
      ⊎_elim (λ (is : e < n). is) (λ (past : n ≤ e). absurd (let none : one (ltb e n) ≡ 0 = ap one (le-ltb e n past) in omega arith)) (cases_lt e n)

  pub none_earlier : (g : ℕ) → g < length ts → times (get_or ts g 0) (take g ts) ≡ 0
  none_earlier g less =
      let e : ℕ = get_or ts g 0 in
      let there = at_place ts g less in
      let count = count_is e in
      let within = is_below g less in
      let some : one (ltb e n) ≡ 1 = ap one (lt-ltb e n within) in
      omega arith
