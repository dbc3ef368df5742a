-- What the list functions of std tell of counts.
use Rattle.std.proofs.Common.{◌≡◌, ℕ, suc, ◌+◌, ◌<◌, ◌≤◌, Bool, true, false, ◌||◌, not, cond, eqb, ltb, List, [], ◌∷◌, ◌++◌, length, get_or, None, Some, refl, ap, ◌∙◌, sym, subst, ⊎_elim, arith}
use Rattle.std.specs.Prelude.{position, MatchBool, IsTrue}
use Rattle.std.specs.List.{list_any, remove, position_or_len, count_by}
use Rattle.std.specs.List.Sorted.{IsPermutation, IsSorted}
use Rattle.std.specs.Ordering.{nat_cmp, is_lt}
use lib.Pointwise.{pointwise}
use Rattle.std.proofs.lemmas.Bool.{cases_Bool, cases_eq, and_parts, and_from, ltb-true, ltb-false, lt-ltb, eq-eqb, eqb-true}
use Rattle.std.proofs.lemmas.Bool.Decides.{nat_tests}
use Rattle.std.proofs.lemmas.List.Sorted.{sum_by-IsPermutation}
use Rattle.std.proofs.lemmas.List.Recursion.{is_count_by}
use Rattle.map_types.specs.ElementLists.{times, without}
use Rattle.map_types.proofs.RowLemmas.{times_append, by_test}
use Rattle.place_words.proofs.ElementLemmas.{times_cons_same, times_cons_other}

pub any_is_in : (e : ℕ) (xs : List ℕ) → list_any (λ x. eqb x e) xs ≡ ltb 0 (times e xs)
any_is_in e [] = refl
any_is_in e (x ∷ xs) =
    by_test x e (λ b. (b || list_any (λ y. eqb y e) xs) ≡ ltb 0 (cond b (suc (times e xs)) (times e xs)))
    (λ _. sym (lt-ltb 0 (suc (times e xs)) (omega arith)))
    (λ _. any_is_in e xs)

-- the list without its first e
pub without_at : (e : ℕ) (xs : List ℕ) → position_or_len (λ x. eqb x e) xs < length xs → remove xs (position_or_len (λ x. eqb x e) xs) ≡ without e xs
without_at e [] within = absurd (omega arith)
without_at e (x ∷ xs) within =
    by_test x e (λ b. cond (not b) (1 + position_or_len (λ y. eqb y e) xs) 0 < suc (length xs) → remove (x ∷ xs) (cond (not b) (1 + position_or_len (λ y. eqb y e) xs) 0) ≡ cond b xs (x ∷ without e xs))
    (λ _ _. refl)
    (λ _ less. let next : 1 + position_or_len (λ y. eqb y e) xs ≡ suc (position_or_len (λ y. eqb y e) xs) = omega arith in
    ap (λ (i : ℕ). remove (x ∷ xs) i) next ∙ ap (λ (l : List ℕ). x ∷ l) (without_at e xs (omega arith)))
    within

pub without_none : (e : ℕ) (xs : List ℕ) → length xs ≤ position_or_len (λ x. eqb x e) xs → xs ≡ without e xs
without_none e [] past = refl
without_none e (x ∷ xs) past =
    by_test x e (λ b. suc (length xs) ≤ cond (not b) (1 + position_or_len (λ y. eqb y e) xs) 0 → x ∷ xs ≡ cond b xs (x ∷ without e xs))
    (λ _ less. absurd (omega arith))
    (λ _ less. ap (λ (l : List ℕ). x ∷ l) (without_none e xs (omega arith)))
    past

pub without_found : (e i : ℕ) (xs : List ℕ) → position (λ x. eqb x e) xs ≡ Some i → remove xs i ≡ without e xs
without_found e i xs found =
    ⊎_elim
    (λ (within : ltb (position_or_len (λ x. eqb x e) xs) (length xs) ≡ true).
    let at : Some (position_or_len (λ x. eqb x e) xs) ≡ Some i = sym (ap (λ b. cond b (Some (position_or_len (λ x. eqb x e) xs)) None) within) ∙ found in
    let same : position_or_len (λ x. eqb x e) xs ≡ i = cc in
    ap (remove xs) (sym same) ∙ without_at e xs (ltb-true _ _ within))
    (λ (past : ltb (position_or_len (λ x. eqb x e) xs) (length xs) ≡ false).
    let none : None ≡ Some i = sym (ap (λ b. cond b (Some (position_or_len (λ x. eqb x e) xs)) None) past) ∙ found in absurd cc)
    (cases_Bool (ltb (position_or_len (λ x. eqb x e) xs) (length xs)))

pub without_missing : (e : ℕ) (xs : List ℕ) → position (λ x. eqb x e) xs ≡ None → xs ≡ without e xs
without_missing e xs missing =
    ⊎_elim
    (λ (within : ltb (position_or_len (λ x. eqb x e) xs) (length xs) ≡ true).
    let some : Some (position_or_len (λ x. eqb x e) xs) ≡ None = sym (ap (λ b. cond b (Some (position_or_len (λ x. eqb x e) xs)) None) within) ∙ missing in absurd cc)
    (λ (past : ltb (position_or_len (λ x. eqb x e) xs) (length xs) ≡ false). without_none e xs (ltb-false _ _ past))
    (cases_Bool (ltb (position_or_len (λ x. eqb x e) xs) (length xs)))

-- Sorted lists with the same counts are one

times_counts : (e : ℕ) (xs : List ℕ) → times e xs ≡ count_by (λ x. eqb x e) xs
times_counts e xs =
    is_count_by (times e) (λ x. eqb x e) refl (λ x ys. by_test x e (λ b. cond b (suc (times e ys)) (times e ys) ≡ cond b (1 + times e ys) (times e ys)) (λ _. omega arith) (λ _. refl)) xs

pub times_permutation : (e : ℕ) (xs ys : List ℕ) → IsPermutation xs ys → times e ys ≡ times e xs
times_permutation e xs ys moved =
    times_counts e ys ∙ (sum_by-IsPermutation (λ x. cond (eqb x e) 1 0) xs ys moved ∙ sym (times_counts e xs))

abbrev IsBelow : ℕ → List ℕ → Type 0
IsBelow x xs = (e : ℕ) → 0 < times e xs → x ≤ e

abbrev Ascends : List ℕ → Type 0
Ascends [] = Unit {0}
Ascends (x ∷ xs) = IsBelow x xs × Ascends xs

-- an element of a list is its head or in the rest
head_or_rest : (e y : ℕ) (ys : List ℕ) (P : Type 0) → 0 < times e (y ∷ ys) → (y ≡ e → P) → (0 < times e ys → P) → P
head_or_rest e y ys P inside here rest =
    by_test y e (λ b. 0 < cond b (suc (times e ys)) (times e ys) → P) (λ is _. here is) (λ _ more. rest more) inside

cmp_le : (a b : ℕ) → is_lt (nat_cmp b a) ≡ false → a ≤ b
cmp_le a b is = grind (arith, nat_tests)

ascends_from : (xs : List ℕ) → ((k d : ℕ) → k + 1 < length xs → is_lt (nat_cmp (get_or xs (k + 1) d) (get_or xs k d)) ≡ false) → Ascends xs
ascends_from [] sorted = tt
ascends_from (x ∷ []) sorted = (λ e inside. absurd (omega arith), tt)
ascends_from (x ∷ y ∷ ys) sorted =
    let rest = ascends_from (y ∷ ys) (λ k d less.
    let next : k + 1 + 1 ≡ suc (k + 1) = omega arith in
    let here : k + 1 ≡ suc k = omega arith in
    subst (λ (i : ℕ). is_lt (nat_cmp (get_or (x ∷ y ∷ ys) i d) (get_or (y ∷ ys) k d)) ≡ false) next
    (subst (λ (i : ℕ). is_lt (nat_cmp (get_or (x ∷ y ∷ ys) (k + 1 + 1) d) (get_or (x ∷ y ∷ ys) i d)) ≡ false) here (sorted (k + 1) d (omega arith)))) in
    let first : x ≤ y = cmp_le x y (sorted 0 0 (omega arith)) in
    ((λ e inside. head_or_rest e y ys (x ≤ e) inside (λ is. omega arith) (λ more. let up = rest.0 e more in omega arith)), rest)

one_order : (xs ys : List ℕ) → Ascends xs → Ascends ys → ((e : ℕ) → times e xs ≡ times e ys) → xs ≡ ys
one_order [] [] up_x up_y same = refl
one_order [] (y ∷ ys) up_x up_y same = let here = same y in let more = times_cons_same y ys in absurd (omega arith)
one_order (x ∷ xs) [] up_x up_y same = let here = same x in let more = times_cons_same x xs in absurd (omega arith)
one_order (x ∷ xs) (y ∷ ys) up_x up_y same =
    let in_y : 0 < times x (y ∷ ys) = let here = same x in let more = times_cons_same x xs in omega arith in
    let in_x : 0 < times y (x ∷ xs) = let here = same y in let more = times_cons_same y ys in omega arith in
    let y_below : y ≤ x = head_or_rest x y ys (y ≤ x) in_y (λ is. omega arith) (λ more. up_y.0 x more) in
    let x_below : x ≤ y = head_or_rest y x xs (x ≤ y) in_x (λ is. omega arith) (λ more. up_x.0 y more) in
    let heads : x ≡ y = omega arith in
    let rest : xs ≡ ys = one_order xs ys up_x.1 up_y.1 (λ e. fewer e heads (same e)) in
    λ i. heads i ∷ rest i
  where
    fewer : (e : ℕ) → x ≡ y → times e (x ∷ xs) ≡ times e (y ∷ ys) → times e xs ≡ times e ys
    fewer e heads counts =
        ⊎_elim
        (λ (is : e ≡ x).
        let at_x : times e (x ∷ xs) ≡ suc (times e xs) = subst (λ (z : ℕ). times e (z ∷ xs) ≡ suc (times e xs)) is (times_cons_same e xs) in
        let at_y : times e (y ∷ ys) ≡ suc (times e ys) = subst (λ (z : ℕ). times e (z ∷ ys) ≡ suc (times e ys)) (is ∙ heads) (times_cons_same e ys) in
        omega arith)
        (λ (other : e ≡ x → ⊥). sym (times_cons_other e x xs other) ∙ (counts ∙ times_cons_other e y ys (λ is. other (is ∙ sym heads))))
        (cases_eq e x)

-- two lists, each sorted
pub sorted_same : (xs ys one other : List ℕ) → IsPermutation xs one → IsPermutation ys other → IsSorted nat_cmp one → IsSorted nat_cmp other → ((e : ℕ) → times e xs ≡ times e ys) → one ≡ other
sorted_same xs ys one other moved_x moved_y up_one up_other same =
    one_order one other
    (ascends_from one (λ k d less. up_one k d (omega arith) less))
    (ascends_from other (λ k d less. up_other k d (omega arith) less))
    (λ e. times_permutation e xs one moved_x ∙ (same e ∙ sym (times_permutation e ys other moved_y)))

pub same_sorted : (xs ys one other : List ℕ) → IsPermutation xs one → IsPermutation ys other → one ≡ other → (e : ℕ) → times e xs ≡ times e ys
same_sorted xs ys one other moved_x moved_y is e =
    sym (times_permutation e xs one moved_x) ∙ (ap (times e) is ∙ times_permutation e ys other moved_y)

-- lists that are compared element by element
pub pointwise_same : (xs ys : List ℕ) → pointwise eqb xs ys ≡ true → xs ≡ ys
pointwise_same [] [] same = refl
pointwise_same [] (y ∷ ys) same = absurd cc
pointwise_same (x ∷ xs) [] same = absurd cc
pointwise_same (x ∷ xs) (y ∷ ys) same =
    let both = and_parts (eqb x y) (pointwise eqb xs ys) same in
    let heads = eqb-true x y both.0 in
    let rest = pointwise_same xs ys both.1 in
    λ i. heads i ∷ rest i

pub pointwise_refl : (xs ys : List ℕ) → xs ≡ ys → pointwise eqb xs ys ≡ true
pointwise_refl xs ys same = subst (λ (zs : List ℕ). pointwise eqb xs zs ≡ true) same (itself xs)
  where
    itself : (zs : List ℕ) → pointwise eqb zs zs ≡ true
    itself [] = refl
    itself (z ∷ zs) = and_from (eqb z z) (pointwise eqb zs zs) (eq-eqb z z refl) (itself zs)

-- an element among the rows of a lock
pub row_in_first : (e : ℕ) (first second : List ℕ) → true ≡ ltb 0 (times e first) → 0 < times e (first ++ second)
row_in_first e first second inside = let some = ltb-true 0 (times e first) (sym inside) in omega (arith, times_append e first second)

pub row_in_second : (lru b : Bool) (e : ℕ) (first second : List ℕ) → lru ≡ true → false ≡ ltb 0 (times e first) → b ≡ ltb 0 (times e second) → MatchBool b (IsTrue lru → 0 < times e (first ++ second)) (IsTrue lru × (0 < times e (first ++ second) → ⊥))
row_in_second lru true e first second is none found = λ _. let some = ltb-true 0 (times e second) (sym found) in omega (arith, times_append e first second)
row_in_second lru false e first second is none found =
    (is, λ inside. let not_first = ltb-false 0 (times e first) (sym none) in let not_second = ltb-false 0 (times e second) (sym found) in omega (arith, times_append e first second))
