-- Rows of distinct elements: what is found, what stands beside it, and what is left without it.
use Rattle.std.proofs.Common.{◌≡◌, ◌≢◌, ℕ, suc, ◌+◌, ◌<◌, ◌≤◌, Bool, true, false, not, ◌||◌, cond, eqb, List, [], ◌∷◌, ◌++◌, length, Option, Some, None, refl, ap, sym, ◌∙◌, subst, arith}
use Rattle.std.specs.Prelude.{reverse, find, IsSome, ◌↔◌}
use Rattle.std.specs.List.{list_any, IsDistinct, AllByRecursion}
use Rattle.std.proofs.lemmas.Bool.{eqb-true, ne_eqb}
use Rattle.std.proofs.lemmas.List.{map-append, length-map, reverse-reverse, reverse-append, append_assoc}
use Rattle.std.proofs.lemmas.Map.Steps.{length-le_from_distinct_below}
use Rattle.std.proofs.lemmas.Option.{same_Some}
use Rattle.std.proofs.lemmas.Grind.{reverse_onto}
use Rattle.map_types.specs.ElementLists.{times, IsIn, IsHead}
use Rattle.map_types.specs.declared.row.Row.{Row}
use Rattle.map_types.specs.Listed.{elements_of}
use Rattle.map_types.proofs.RowLemmas.{by_test}
use Rattle.row_list.specs.RowWords.{is_of, row_of, without_row, head_row, tail_row, row_before_from, row_before, row_after, AreRows, spare_of}
use Rattle.row_list.proofs.ElementLemmas.{times_here, times_elsewhere, absent_parts, times_reverse, head_is_in}

pub elements_append : (xs ys : List Row) → elements_of (xs ++ ys) ≡ elements_of xs ++ elements_of ys
elements_append xs ys = map-append (λ (row : Row). row.element) xs ys

pub elements_reverse : (rows : List Row) → elements_of (reverse rows) ≡ reverse (elements_of rows)
elements_reverse [] = refl
elements_reverse (row ∷ rows) =
    let split : elements_of (reverse (row ∷ rows)) ≡ elements_of (reverse rows) ++ row.element ∷ [] =
    ap elements_of (reverse_onto rows row []) ∙ elements_append (reverse rows) (row ∷ []) in
    split ∙ ap (λ (front : List ℕ). front ++ row.element ∷ []) (elements_reverse rows) ∙ sym (reverse_onto (elements_of rows) row.element [])

pub times_rows_reverse : (e : ℕ) (rows : List Row) → times e (elements_of (reverse rows)) ≡ times e (elements_of rows)
times_rows_reverse e rows = ap (times e) (elements_reverse rows) ∙ times_reverse e (elements_of rows)

-- a list that reads so backwards
pub turned_split : {A : Type 0} (xs before : List A) (item : A) (after : List A) → reverse xs ≡ before ++ item ∷ after → xs ≡ reverse after ++ item ∷ reverse before
turned_split {A = A} xs before item after is =
    sym (reverse-reverse xs) ∙ ap reverse is ∙ reverse-append before (item ∷ after)
    ∙ ap (λ (ys : List A). ys ++ reverse before) (reverse-append (item ∷ []) after)
    ∙ append_assoc (reverse after) (item ∷ []) (reverse before)

-- Around the row of an element

pub row_of_split : (e : ℕ) (front : List Row) (row : Row) (back : List Row) → times e (elements_of front) ≡ 0 → row.element ≡ e → row_of e (front ++ row ∷ back) ≡ Some row
row_of_split e [] row back none is =
    by_test row.element e (λ b. cond b (Some row) (row_of e back) ≡ Some row) (λ _. refl) (λ other. absurd (other is))
row_of_split e (x ∷ front) row back none is =
    let parts = absent_parts x.element e (elements_of front) none in
    by_test x.element e (λ b. cond b (Some x) (row_of e (front ++ row ∷ back)) ≡ Some row) (λ here. absurd (parts.0 here)) (λ _. row_of_split e front row back parts.1 is)

pub row_of_absent : (e : ℕ) (rows : List Row) → times e (elements_of rows) ≡ 0 → row_of e rows ≡ None
row_of_absent e [] none = refl
row_of_absent e (x ∷ rows) none =
    let parts = absent_parts x.element e (elements_of rows) none in
    by_test x.element e (λ b. cond b (Some x) (row_of e rows) ≡ None) (λ here. absurd (parts.0 here)) (λ _. row_of_absent e rows parts.1)

pub without_absent : (e : ℕ) (rows : List Row) → times e (elements_of rows) ≡ 0 → without_row e rows ≡ rows
without_absent e [] none = refl
without_absent e (x ∷ rows) none =
    let parts = absent_parts x.element e (elements_of rows) none in
    by_test x.element e (λ b. cond (not b) (x ∷ without_row e rows) (without_row e rows) ≡ x ∷ rows) (λ here. absurd (parts.0 here)) (λ _. ap (λ (rest : List Row). x ∷ rest) (without_absent e rows parts.1))

pub without_split : (e : ℕ) (front : List Row) (row : Row) (back : List Row) → times e (elements_of front) ≡ 0 → row.element ≡ e → times e (elements_of back) ≡ 0 → without_row e (front ++ row ∷ back) ≡ front ++ back
without_split e [] row back none is gone =
    by_test row.element e (λ b. cond (not b) (row ∷ without_row e back) (without_row e back) ≡ back) (λ _. without_absent e back gone) (λ other. absurd (other is))
without_split e (x ∷ front) row back none is gone =
    let parts = absent_parts x.element e (elements_of front) none in
    by_test x.element e (λ b. cond (not b) (x ∷ without_row e (front ++ row ∷ back)) (without_row e (front ++ row ∷ back)) ≡ x ∷ (front ++ back)) (λ here. absurd (parts.0 here)) (λ _. ap (λ (rest : List Row). x ∷ rest) (without_split e front row back parts.1 is gone))

-- the last row, where `last` stands before the list
abbrev pub last_from : Option Row → List Row → Option Row
last_from last [] = last
last_from last (row ∷ rows) = last_from (Some row) rows

before_split : (last : Option Row) (e : ℕ) (front : List Row) (row : Row) (back : List Row) → times e (elements_of front) ≡ 0 → row.element ≡ e → row_before_from last e (front ++ row ∷ back) ≡ last_from last front
before_split last e [] row back none is =
    by_test row.element e (λ b. cond b last (row_before_from (Some row) e back) ≡ last) (λ _. refl) (λ other. absurd (other is))
before_split last e (x ∷ front) row back none is =
    let parts = absent_parts x.element e (elements_of front) none in
    by_test x.element e (λ b. cond b last (row_before_from (Some x) e (front ++ row ∷ back)) ≡ last_from (Some x) front) (λ here. absurd (parts.0 here)) (λ _. before_split (Some x) e front row back parts.1 is)

pub last_from_push : (last : Option Row) (rows : List Row) (row : Row) → last_from last (rows ++ row ∷ []) ≡ Some row
last_from_push last [] row = refl
last_from_push last (x ∷ rows) row = last_from_push (Some x) rows row

-- of a list that is kept tail first, the last is the first
pub last_of_reverse : (rows : List Row) → last_from None (reverse rows) ≡ head_row rows
last_of_reverse [] = refl
last_of_reverse (row ∷ rows) = ap (last_from None) (reverse_onto rows row []) ∙ last_from_push None (reverse rows) row

pub row_before_split : (e : ℕ) (front : List Row) (row : Row) (back : List Row) → times e (elements_of front) ≡ 0 → row.element ≡ e → row_before e (front ++ row ∷ back) ≡ last_from None front
row_before_split e front row back none is = before_split None e front row back none is

before_absent : (last : Option Row) (e : ℕ) (rows : List Row) → times e (elements_of rows) ≡ 0 → row_before_from last e rows ≡ None
before_absent last e [] none = refl
before_absent last e (x ∷ rows) none =
    let parts = absent_parts x.element e (elements_of rows) none in
    by_test x.element e (λ b. cond b last (row_before_from (Some x) e rows) ≡ None) (λ here. absurd (parts.0 here)) (λ _. before_absent (Some x) e rows parts.1)

pub row_before_absent : (e : ℕ) (rows : List Row) → times e (elements_of rows) ≡ 0 → row_before e rows ≡ None
row_before_absent e rows none = before_absent None e rows none

pub row_after_split : (e : ℕ) (front : List Row) (row : Row) (back : List Row) → times e (elements_of front) ≡ 0 → row.element ≡ e → row_after e (front ++ row ∷ back) ≡ head_row back
row_after_split e [] row back none is =
    by_test row.element e (λ b. cond b (head_row back) (row_after e back) ≡ head_row back) (λ _. refl) (λ other. absurd (other is))
row_after_split e (x ∷ front) row back none is =
    let parts = absent_parts x.element e (elements_of front) none in
    by_test x.element e (λ b. cond b (head_row (front ++ row ∷ back)) (row_after e (front ++ row ∷ back)) ≡ head_row back) (λ here. absurd (parts.0 here)) (λ _. row_after_split e front row back parts.1 is)

pub row_after_absent : (e : ℕ) (rows : List Row) → times e (elements_of rows) ≡ 0 → row_after e rows ≡ None
row_after_absent e [] none = refl
row_after_absent e (x ∷ rows) none =
    let parts = absent_parts x.element e (elements_of rows) none in
    by_test x.element e (λ b. cond b (head_row rows) (row_after e rows) ≡ None) (λ here. absurd (parts.0 here)) (λ _. row_after_absent e rows parts.1)

-- What is there

abbrev pub HasSome : Option Row → Type 0 → Type 0
HasSome found P = IsSome found ↔ P

pub tail_present : (rows : List Row) → HasSome (tail_row rows) (rows ≢ [])
tail_present [] = (λ some. absurd cc, λ some. absurd (some refl))
tail_present (row ∷ rows) =
    let there : IsSome (tail_row (row ∷ rows)) =
    let onto : (xs : List Row) → IsSome (head_row (xs ++ row ∷ [])) = λ xs. elim xs as (λ ys. IsSome (head_row (ys ++ row ∷ []))) [ [] ↦ refl | x ∷ ys ↦ refl ] in
    subst (λ (xs : List Row). IsSome (head_row xs)) (sym (reverse_onto rows row [])) (onto (reverse rows)) in
    (λ _ is. absurd cc, λ _. there)

pub row_present : (e : ℕ) (rows : List Row) → HasSome (row_of e rows) (IsIn e (elements_of rows))
row_present e [] = (λ some. absurd cc, λ is_in. absurd (omega arith))
row_present e (x ∷ rows) =
    let rest = row_present e rows in
    by_test x.element e (λ b. HasSome (cond b (Some x) (row_of e rows)) (0 < cond b (suc (times e (elements_of rows))) (times e (elements_of rows))))
    (λ _. (λ _. omega arith, λ _. refl))
    (λ _. rest)

before_present_from : (x : Row) (e : ℕ) (rows : List Row) → HasSome (row_before_from (Some x) e rows) (IsIn e (elements_of rows))
before_present_from x e [] = (λ some. absurd cc, λ is_in. absurd (omega arith))
before_present_from x e (y ∷ rows) =
    let rest = before_present_from y e rows in
    by_test y.element e (λ b. HasSome (cond b (Some x) (row_before_from (Some y) e rows)) (0 < cond b (suc (times e (elements_of rows))) (times e (elements_of rows))))
    (λ _. (λ _. omega arith, λ _. refl))
    (λ _. rest)

pub before_present : (e : ℕ) (rows : List Row) → HasSome (row_before e rows) (IsIn e (elements_of rows) × (¬ IsHead e (elements_of rows)))
before_present e [] = (λ some. absurd cc, λ is_in. absurd (let none = is_in.0 in omega arith))
before_present e (x ∷ rows) =
    let rest = before_present_from x e rows in
    by_test x.element e (λ b. HasSome (cond b None (row_before_from (Some x) e rows)) ((0 < cond b (suc (times e (elements_of rows))) (times e (elements_of rows))) × (¬ (x.element ≡ e))))
    (λ here. (λ some. absurd cc, λ both. absurd (both.1 here)))
    (λ other. (λ some. (rest.0 some, other), λ both. rest.1 both.0))

pushed_head : (e z x : ℕ) (zs : List ℕ) → IsHead e ((zs ++ z ∷ []) ++ x ∷ []) ↔ IsHead e (zs ++ z ∷ [])
pushed_head e z x [] = (λ h. h, λ h. h)
pushed_head e z x (w ∷ zs) = (λ h. h, λ h. h)

-- the last of a list stays where one is added at the head
last_stays : (e x y : ℕ) (ys : List ℕ) → IsHead e (reverse (x ∷ y ∷ ys)) ↔ IsHead e (reverse (y ∷ ys))
last_stays e x y ys =
    let short : reverse (y ∷ ys) ≡ reverse ys ++ y ∷ [] = reverse_onto ys y [] in
    let long : reverse (x ∷ y ∷ ys) ≡ (reverse ys ++ y ∷ []) ++ x ∷ [] = reverse_onto (y ∷ ys) x [] ∙ ap (λ (zs : List ℕ). zs ++ x ∷ []) short in
    subst (λ (zs : List ℕ). IsHead e zs ↔ IsHead e (reverse (y ∷ ys))) (sym long) (subst (λ (zs : List ℕ). IsHead e ((reverse ys ++ y ∷ []) ++ x ∷ []) ↔ IsHead e zs) (sym short) (pushed_head e y x (reverse ys)))

pub after_present : (e : ℕ) (rows : List Row) → times e (elements_of rows) ≤ 1 → HasSome (row_after e rows) (IsIn e (elements_of rows) × (¬ IsHead e (reverse (elements_of rows))))
after_present e [] once = (λ some. absurd cc, λ both. absurd (let none = both.0 in omega arith))
after_present e (x ∷ []) once =
    by_test x.element e (λ b. HasSome (cond b None None) ((0 < cond b 1 0) × (¬ (x.element ≡ e))))
    (λ here. (λ some. absurd cc, λ both. absurd (both.1 here)))
    (λ other. (λ some. absurd cc, λ both. absurd (let none = both.0 in omega arith)))
after_present e (x ∷ y ∷ rows) once =
    let els : List ℕ = elements_of rows in
    let last = last_stays e x.element y.element els in
    by_test x.element e (λ b. cond b (suc (times e (y.element ∷ els))) (times e (y.element ∷ els)) ≤ 1 → HasSome (cond b (Some y) (row_after e (y ∷ rows))) ((0 < cond b (suc (times e (y.element ∷ els))) (times e (y.element ∷ els))) × (¬ IsHead e (reverse (x.element ∷ y.element ∷ els)))))
    (λ _ few.
    let not_last : IsHead e (reverse (x.element ∷ y.element ∷ els)) → ⊥ = λ h.
    let there : 0 < times e (reverse (y.element ∷ els)) = head_is_in e (reverse (y.element ∷ els)) (last.0 h) in
    let same = times_reverse e (y.element ∷ els) in
    absurd (omega arith) in
    (λ _. (omega arith, not_last), λ _. refl))
    (λ _ few.
    let rest = after_present e (y ∷ rows) few in
    (λ some. let both = rest.0 some in (both.0, λ h. both.1 (last.0 h)), λ both. rest.1 (both.0, λ h. both.1 (last.1 h)))) once

-- What is left

pub gone_without : (e : ℕ) (rows : List Row) → times e (elements_of (without_row e rows)) ≡ 0
gone_without e [] = refl
gone_without e (x ∷ rows) =
    let rest = gone_without e rows in
    by_test x.element e (λ b. times e (elements_of (cond (not b) (x ∷ without_row e rows) (without_row e rows))) ≡ 0)
    (λ _. rest)
    (λ other. times_elsewhere x.element e (elements_of (without_row e rows)) other ∙ rest)

pub kept_without : (x e : ℕ) (rows : List Row) → x ≢ e → times x (elements_of (without_row e rows)) ≡ times x (elements_of rows)
kept_without x e [] other = refl
kept_without x e (y ∷ rows) other =
    let rest = kept_without x e rows other in
    by_test y.element e (λ b. times x (elements_of (cond (not b) (y ∷ without_row e rows) (without_row e rows))) ≡ times x (y.element ∷ elements_of rows))
    (λ here. rest ∙ sym (times_elsewhere y.element x (elements_of rows) (λ is. other (sym is ∙ here))))
    (λ _. ap (λ (n : ℕ). cond (eqb y.element x) (suc n) n) rest)

pub fewer_without : (x e : ℕ) (rows : List Row) → times x (elements_of (without_row e rows)) ≤ times x (elements_of rows)
fewer_without x e rows =
    by_test x e (λ _. times x (elements_of (without_row e rows)) ≤ times x (elements_of rows))
    (λ is. let none = ap (λ (n : ℕ). times n (elements_of (without_row e rows))) is ∙ gone_without e rows in omega arith)
    (λ other. let same = kept_without x e rows other in omega arith)

pub length_without : (e : ℕ) (rows : List Row) → length (without_row e rows) + times e (elements_of rows) ≡ length rows
length_without e [] = refl
length_without e (x ∷ rows) =
    let rest = length_without e rows in
    by_test x.element e (λ b. length (cond (not b) (x ∷ without_row e rows) (without_row e rows)) + cond b (suc (times e (elements_of rows))) (times e (elements_of rows)) ≡ suc (length rows))
    (λ _. omega arith)
    (λ _. omega arith)

pub without_are_rows : (e bound : ℕ) (rows : List Row) → AreRows bound rows → AreRows bound (without_row e rows)
without_are_rows e bound rows are = record {
  once = λ x. let fewer = fewer_without x e rows in let once = are.once x in omega arith;
  below = λ x is_in. let fewer = fewer_without x e rows in are.below x (omega arith);
  few = let long = length_without e rows in let few = are.few in omega arith;
  countable = are.countable;
}

-- What is found

pub found_is_in : (test : Row → Bool) (rows : List Row) (row : Row) → find test rows ≡ Some row → IsIn row.element (elements_of rows) × (test row ≡ true)
found_is_in test [] row found = absurd cc
found_is_in test (x ∷ rows) row found =
    elim (test x) as (λ b. test x ≡ b → cond b (Some x) (find test rows) ≡ Some row → IsIn row.element (elements_of (x ∷ rows)) × (test row ≡ true)) [
      | true ↦ λ passes here. let same : x ≡ row = same_Some x row here in (let first = times_here x.element row.element (elements_of rows) (ap (λ (r : Row). r.element) same) in omega arith, ap test (sym same) ∙ passes)
      | false ↦ λ _ there. let rest = found_is_in test rows row there in (in_rest x.element row.element (elements_of rows) rest.0, rest.1)
    ] refl found
  where
    in_rest : (y e : ℕ) (xs : List ℕ) → IsIn e xs → IsIn e (y ∷ xs)
    in_rest y e xs is_in = by_test y e (λ b. 0 < cond b (suc (times e xs)) (times e xs)) (λ _. omega arith) (λ _. is_in)

pub row_of_element : (e : ℕ) (rows : List Row) (row : Row) → row_of e rows ≡ Some row → row.element ≡ e
row_of_element e rows row found = eqb-true row.element e (found_is_in (is_of e) rows row found).1

pub row_of_left : (e : ℕ) (xs ys : List Row) (row : Row) → row_of e xs ≡ Some row → row_of e (xs ++ ys) ≡ Some row
row_of_left e [] ys row found = absurd cc
row_of_left e (x ∷ xs) ys row found =
    by_test x.element e (λ b. cond b (Some x) (row_of e xs) ≡ Some row → cond b (Some x) (row_of e (xs ++ ys)) ≡ Some row) (λ _ here. here) (λ _ there. row_of_left e xs ys row there) found

pub row_of_right : (e : ℕ) (xs ys : List Row) → row_of e xs ≡ None → row_of e (xs ++ ys) ≡ row_of e ys
row_of_right e [] ys none = refl
row_of_right e (x ∷ xs) ys none =
    by_test x.element e (λ b. cond b (Some x) (row_of e xs) ≡ None → cond b (Some x) (row_of e (xs ++ ys)) ≡ row_of e ys) (λ _ here. absurd cc) (λ _ there. row_of_right e xs ys there) none

-- Around the row of an element that is there

pub record Splits (e : ℕ) (rows front : List Row) (row : Row) (back : List Row) : Type 0 where
  pub around : rows ≡ front ++ row ∷ back
  pub its : row.element ≡ e
  pub not_before : times e (elements_of front) ≡ 0

pub splits : (e : ℕ) (rows : List Row) → IsIn e (elements_of rows) → (front : List Row) × (row : Row) × (back : List Row) × Splits e rows front row back
splits e [] is_in = absurd (omega arith)
splits e (x ∷ rows) is_in =
    by_test x.element e (λ b. 0 < cond b (suc (times e (elements_of rows))) (times e (elements_of rows)) → (front : List Row) × (row : Row) × (back : List Row) × Splits e (x ∷ rows) front row back)
    (λ here _. ([], x, rows, record { around = refl; its = here; not_before = refl }))
    (λ other there.
    let rest = splits e rows there in
    let apart = rest.3 in (
      x ∷ rest.0,
      rest.1,
      rest.2,
      record {
        around = ap (λ (xs : List Row). x ∷ xs) apart.around;
        its = apart.its;
        not_before = times_elsewhere x.element e (elements_of rest.0) other ∙ apart.not_before;
      },
    )) is_in

-- Room

none_equal : (e : ℕ) (xs : List ℕ) → times e xs ≡ 0 → AllByRecursion (λ y. eqb e y ≡ false) xs
none_equal e [] none = tt
none_equal e (x ∷ xs) none =
    let parts = absent_parts x e xs none in
    (ne_eqb e x (λ is. parts.0 (sym is)), none_equal e xs parts.1)

pub fewer_behind : (x e : ℕ) (xs : List ℕ) → times e (x ∷ xs) ≤ 1 → times e xs ≤ 1
fewer_behind x e xs =
    by_test x e (λ b. cond b (suc (times e xs)) (times e xs) ≤ 1 → times e xs ≤ 1) (λ _ few. omega arith) (λ _ few. few)

distinct_from_once : (xs : List ℕ) → ((e : ℕ) → times e xs ≤ 1) → IsDistinct eqb xs
unfolding IsDistinct
distinct_from_once [] once = tt
distinct_from_once (x ∷ xs) once =
    let here = times_here x x xs refl in
    let few = once x in
    (none_equal x xs (omega arith), distinct_from_once xs (λ e. fewer_behind x e xs (once e)))

any_is_in : (q : ℕ) (xs : List ℕ) → list_any (eqb q) xs ≡ true → 0 < times q xs
any_is_in q [] any = absurd cc
any_is_in q (x ∷ xs) any =
    by_test x q (λ b. (eqb q x || list_any (eqb q) xs) ≡ true → 0 < cond b (suc (times q xs)) (times q xs))
    (λ _ _. omega arith)
    (λ other either. any_is_in q xs (let differs : eqb q x ≡ false = ne_eqb q x (λ is. other (sym is)) in rw differs at either)) any

-- a list that an element below the bound isn't in has room for it
pub room_for : (bound e : ℕ) (rows : List Row) → AreRows bound rows → e < bound → times e (elements_of rows) ≡ 0 → 1 ≤ spare_of bound rows
room_for bound e rows are below absent =
    let xs : List ℕ = e ∷ elements_of rows in
    let here = times_here e e (elements_of rows) refl in
    let once : (q : ℕ) → times q xs ≤ 1 = λ q. by_test e q (λ b. cond b (suc (times q (elements_of rows))) (times q (elements_of rows)) ≤ 1) (λ is. let none = ap (λ (n : ℕ). times n (elements_of rows)) (sym is) ∙ absent in omega arith) (λ _. are.once q) in
    let within : (q : ℕ) → list_any (eqb q) xs ≡ true → q < bound = λ q any. by_test e q (λ b. 0 < cond b (suc (times q (elements_of rows))) (times q (elements_of rows)) → q < bound) (λ is _. omega arith) (λ _ there. are.below q there) (any_is_in q xs any) in
    let few = length-le_from_distinct_below xs bound (distinct_from_once xs once) within in
    let long = length-map rows (λ (row : Row). row.element) in
    omega arith
