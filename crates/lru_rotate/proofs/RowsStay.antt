-- A rotation makes and loses no row.
use Rattle.std.proofs.Common.{◌≡◌, ℕ, suc, ◌+◌, ◌<◌, Bool, false, not, cond, eqb, List, [], ◌∷◌, ◌++◌, reverse, refl, ap, ◌∙◌, sym, subst, arith}
use Rattle.std.specs.Prelude.{IsPermutation, filter, count_by}
use Rattle.std.proofs.lemmas.List.{append_assoc, append-nil}
use Rattle.std.proofs.lemmas.List.Elements.{filter-append}
use Rattle.std.proofs.lemmas.List.Sorted.{IsPermutation-refl, IsPermutation-trans, IsPermutation-append, IsPermutation-append_left, IsPermutation-append_right, IsPermutation-append_comm, IsPermutation-reverse, IsPermutation-filter_both, sum_by-IsPermutation}
use Rattle.std.proofs.lemmas.List.Recursion.{is_count_by}
use Rattle.map_types.specs.ElementLists.{times, IsIn}
use Rattle.map_types.specs.declared.row.Row.{Row}
use Rattle.place_words.specs.declared.visits.Visit.{Visit}
use Rattle.map_types.specs.Listed.{elements_of, those, without_those}
use Rattle.place_words.specs.Rotation.{was_set, visited_elements, inactive_order}
use Rattle.map_types.proofs.RowLemmas.{by_test, AreOnce, times_rows-append, times_rows-cons}
use Rattle.place_words.proofs.VisitLemmas.{was_set_absent}
use Rattle.lru_rotate.proofs.ActiveWalk.{active_at, inactive_at}
use Rattle.lru_rotate.proofs.InactiveSteps.{order_splits, order_once, filter_turned}

permutes_same : {X : Type 0} (xs ys : List X) → xs ≡ ys → IsPermutation xs ys
permutes_same xs ys same = subst (IsPermutation xs) same (IsPermutation-refl xs)

permutes_past : {X : Type 0} (xs ys zs : List X) → IsPermutation (xs ++ (ys ++ zs)) (ys ++ (xs ++ zs))
permutes_past xs ys zs =
    subst (λ l. IsPermutation l (ys ++ (xs ++ zs))) (append_assoc xs ys zs)
    (subst (λ l. IsPermutation ((xs ++ ys) ++ zs) l) (append_assoc ys xs zs) (IsPermutation-append_left zs (xs ++ ys) (ys ++ xs) (IsPermutation-append_comm xs ys)))

-- two lists that are joined of three
sorted_out : (ones zeros left inactive : List Row) → IsPermutation (((ones ++ zeros) ++ left) ++ inactive) ((ones ++ left) ++ (zeros ++ inactive))
sorted_out ones zeros left inactive =
    let one : ((ones ++ zeros) ++ left) ++ inactive ≡ ones ++ (zeros ++ (left ++ inactive)) = append_assoc (ones ++ zeros) left inactive ∙ append_assoc ones zeros (left ++ inactive) in
    let other : ones ++ (left ++ (zeros ++ inactive)) ≡ (ones ++ left) ++ (zeros ++ inactive) = sym (append_assoc ones left (zeros ++ inactive)) in
    IsPermutation-trans _ _ _ (permutes_same _ _ one) (IsPermutation-trans _ _ _ (IsPermutation-append_right ones (zeros ++ (left ++ inactive)) (left ++ (zeros ++ inactive)) (permutes_past zeros left inactive)) (permutes_same _ _ other))

-- the first part
pub active_rows_stay : (active inactive visited left : List Row) (visits : List Visit) → reverse active ≡ visited ++ left → IsPermutation (active ++ inactive) (active_at visited left visits ++ inactive_at inactive visited visits)
active_rows_stay active inactive visited left visits order =
    let p : Row → Bool = λ row. was_set visits row.element in
    let q : Row → Bool = λ row. not (was_set visits row.element) in
    let turned : IsPermutation active (visited ++ left) = IsPermutation-trans _ _ _ (IsPermutation-reverse active) (permutes_same _ _ order) in
    let apart : IsPermutation visited (filter p visited ++ filter q visited) = IsPermutation-filter_both p q (λ row. refl) visited in
    let first : IsPermutation (active ++ inactive) (((filter p visited ++ filter q visited) ++ left) ++ inactive) =
    IsPermutation-append_left inactive active ((filter p visited ++ filter q visited) ++ left) (IsPermutation-trans _ _ _ turned (IsPermutation-append_left left visited (filter p visited ++ filter q visited) apart)) in
    let second : IsPermutation ((filter p visited ++ left) ++ (filter q visited ++ inactive)) ((reverse (filter p visited) ++ reverse left) ++ (reverse (filter q visited) ++ inactive)) =
    IsPermutation-append (filter p visited ++ left) (reverse (filter p visited) ++ reverse left) (filter q visited ++ inactive) (reverse (filter q visited) ++ inactive)
    (IsPermutation-append (filter p visited) (reverse (filter p visited)) left (reverse left) (IsPermutation-reverse (filter p visited)) (IsPermutation-reverse left))
    (IsPermutation-append_left inactive (filter q visited) (reverse (filter q visited)) (IsPermutation-reverse (filter q visited))) in
    IsPermutation-trans _ _ _ first (IsPermutation-trans _ _ _ (sorted_out (filter p visited) (filter q visited) left inactive) second)

-- none of these rows was visited
none_set : (visits : List Visit) (rows : List Row) → ((e : ℕ) → IsIn e (elements_of rows) → times e (visited_elements visits) ≡ 0) → those (was_set visits) rows ≡ []
none_set visits [] unseen = refl
none_set visits (row ∷ rows) unseen =
    let here : was_set visits row.element ≡ false = was_set_absent visits row.element (unseen row.element (omega (arith, times_rows-cons row rows))) in
    rw here (none_set visits rows (λ e is. unseen e (later row rows e is)))
  where
    later : (row : Row) (rows : List Row) (e : ℕ) → IsIn e (elements_of rows) → IsIn e (elements_of (row ∷ rows))
    later row rows e is = by_test row.element e (λ b. 0 < cond b (suc (times e (elements_of rows))) (times e (elements_of rows))) (λ _. omega arith) (λ _. is)

unseen : (visited left : List Row) (visits : List Visit) → AreOnce (visited ++ left) → visited_elements visits ≡ elements_of visited → (e : ℕ) → IsIn e (elements_of left) → times e (visited_elements visits) ≡ 0
unseen visited left visits once seen e is =
    let most = once e in
    let apart = times_rows-append e visited left in
    let same : times e (visited_elements visits) ≡ times e (elements_of visited) = ap (times e) seen in
    omega (arith, most, apart, same, is)

filtered_order : (p : Row → Bool) (first second rows order : List Row) → first ++ second ≡ rows → order ≡ reverse first ++ reverse second → IsPermutation (filter p rows) (filter p order)
filtered_order p first second rows order whole turned =
    let one : filter p rows ≡ filter p first ++ filter p second = ap (filter p) (sym whole) ∙ filter-append p first second in
    let other : filter p order ≡ reverse (filter p first) ++ reverse (filter p second) =
    ap (filter p) turned ∙ filter-append p (reverse first) (reverse second) ∙ ap (λ (xs : List Row). xs ++ filter p (reverse second)) (filter_turned p first) ∙ ap (λ (xs : List Row). reverse (filter p first) ++ xs) (filter_turned p second) in
    IsPermutation-trans _ _ _ (permutes_same _ _ one) (IsPermutation-trans _ _ _ (IsPermutation-append (filter p first) (reverse (filter p first)) (filter p second) (reverse (filter p second)) (IsPermutation-reverse (filter p first)) (IsPermutation-reverse (filter p second))) (permutes_same _ _ (sym other)))

-- the second part
pub inactive_rows_stay : (active inactive visited left : List Row) (cursor : _) (visits : List Visit) → AreOnce inactive → inactive_order cursor inactive ≡ visited ++ left → visited_elements visits ≡ elements_of visited
    → IsPermutation (active ++ inactive) ((reverse (those (was_set visits) visited) ++ active) ++ without_those (was_set visits) inactive)
inactive_rows_stay active inactive visited left cursor visits once order seen =
    let p : Row → Bool = λ row. was_set visits row.element in
    let q : Row → Bool = λ row. not (was_set visits row.element) in
    let kept : List Row = filter q inactive in
    let set : List Row = filter p visited in
    let split = order_splits cursor inactive in
    let same_set : IsPermutation (filter p inactive) (filter p (inactive_order cursor inactive)) = filtered_order p split.0 split.1 inactive (inactive_order cursor inactive) split.2 split.3 in
    let parted : filter p (inactive_order cursor inactive) ≡ set =
    ap (filter p) order ∙ filter-append p visited left ∙ ap (λ (xs : List Row). filter p visited ++ xs) (none_set visits left (unseen visited left visits (subst AreOnce order (order_once cursor inactive once)) seen)) ∙ append-nil (filter p visited) in
    let apart : IsPermutation inactive (filter p inactive ++ kept) = IsPermutation-filter_both p q (λ row. refl) inactive in
    let set_first : IsPermutation inactive (set ++ kept) = IsPermutation-trans _ _ _ apart (IsPermutation-append_left kept (filter p inactive) set (subst (IsPermutation (filter p inactive)) parted same_set)) in
    let joined : IsPermutation (active ++ inactive) (set ++ (active ++ kept)) = IsPermutation-trans _ _ _ (IsPermutation-append_right active inactive (set ++ kept) set_first) (permutes_past active set kept) in
    let turned : IsPermutation (set ++ (active ++ kept)) (reverse set ++ (active ++ kept)) = IsPermutation-append_left (active ++ kept) set (reverse set) (IsPermutation-reverse set) in
    IsPermutation-trans _ _ _ joined (IsPermutation-trans _ _ _ turned (permutes_same _ _ (sym (append_assoc (reverse set) active kept))))

-- an element stands as often in a list as in the same rows in another order
times_counts : (e : ℕ) (rows : List Row) → times e (elements_of rows) ≡ count_by (λ row. eqb row.element e) rows
times_counts e rows =
    is_count_by (λ xs. times e (elements_of xs)) (λ row. eqb row.element e) refl
    (λ row xs. by_test row.element e (λ b. cond b (suc (times e (elements_of xs))) (times e (elements_of xs)) ≡ cond b (1 + times e (elements_of xs)) (times e (elements_of xs))) (λ _. omega arith) (λ _. refl)) rows

pub times_permuted : (e : ℕ) (xs ys : List Row) → IsPermutation xs ys → times e (elements_of ys) ≡ times e (elements_of xs)
times_permuted e xs ys moved =
    times_counts e ys ∙ (sum_by-IsPermutation (λ row. cond (eqb row.element e) 1 0) xs ys moved ∙ sym (times_counts e xs))
