-- Elements that a walk marked: those of its items that pass a test. What a list without them and a cursor are after one more.
use Rattle.std.proofs.Common.{◌≡◌, ◌≢◌, ℕ, suc, ◌<◌, Bool, true, false, not, cond, ◌&&◌, ◌||◌, eqb, List, [], ◌∷◌, ◌++◌, map, reverse, refl, ap, ◌∙◌, sym, subst, arith, inl, inr}
use Rattle.std.specs.Prelude.{Option, None, Some, filter, find, option_map, MatchOption}
use Rattle.std.specs.List.{list_any}
use Rattle.std.proofs.Math.Path.{fun_ext}
use Rattle.std.proofs.lemmas.Bool.{ne_eqb, eq-eqb, cases_Bool}
use Rattle.std.proofs.lemmas.List.{append-nil, reverse-append, reverse-reverse, append_assoc}
use Rattle.std.proofs.lemmas.List.Elements.{filter-append}
use Rattle.std.proofs.lemmas.List.Folds.{list_any-append}
use Rattle.map_types.specs.ElementLists.{times, IsIn}
use Rattle.map_types.specs.declared.row.Row.{Row}
use Rattle.map_types.specs.Listed.{elements_of, those, without_those, nearest_before, cursor_without}
use Rattle.map_types.proofs.RowLemmas.{by_test, eqb_turned, IsAbsent, AreOnce, alone, absent-filter, filter_absent, before_around}
use Rattle.place_words.proofs.VisitLemmas.{filter_twice}
use Rattle.row_list.specs.RowWords.{without_row}
use Rattle.row_list.proofs.RowLemmas.{splits}

pub or_false : (b : Bool) → (b || false) ≡ b
or_false true = refl
or_false false = refl

not_or : (a b : Bool) → not (a || b) ≡ (not a && not b)
not_or true b = refl
not_or false b = refl

pub and_true : (b : Bool) → (b && true) ≡ b
and_true true = refl
and_true false = refl

pub and_false : (b : Bool) → (b && false) ≡ false
and_false true = refl
and_false false = refl

-- those marked, and one more
abbrev pub and_one : (ℕ → Bool) → ℕ → ℕ → Bool
and_one gone e x = gone x || eqb e x

module _ {X : Type 0} (element : X → ℕ) (test : X → Bool) where
  abbrev pub marked : List X → ℕ → Bool
  marked xs e = list_any (λ x. eqb (element x) e && test x) xs

  marked_push : (xs : List X) (x : X) (e : ℕ) → marked (xs ++ x ∷ []) e ≡ (marked xs e || (eqb (element x) e && test x))
  marked_push xs x e =
      list_any-append (λ y. eqb (element y) e && test y) xs (x ∷ []) ∙ ap (λ (b : Bool). marked xs e || b) (or_false (eqb (element x) e && test x))

  pub marked_more : (xs : List X) (x : X) → test x ≡ true → marked (xs ++ x ∷ []) ≡ and_one (marked xs) (element x)
  marked_more xs x passes = fun_ext (λ e. marked_push xs x e ∙ rw (passes, and_true (eqb (element x) e)) refl)

  pub marked_same : (xs : List X) (x : X) → test x ≡ false → marked (xs ++ x ∷ []) ≡ marked xs
  marked_same xs x fails = fun_ext (λ e. marked_push xs x e ∙ rw (fails, and_false (eqb (element x) e)) (or_false (marked xs e)))

  pub unmarked : (xs : List X) (e : ℕ) → times e (map element xs) ≡ 0 → marked xs e ≡ false
  unmarked [] e absent = refl
  unmarked (x ∷ xs) e absent =
      let rest : ℕ = times e (map element xs) in
      by_test (element x) e (λ b. cond b (suc rest) rest ≡ 0 → ((b && test x) || marked xs e) ≡ false)
      (λ is none. absurd (omega arith))
      (λ other none. unmarked xs e none)
      absent

-- rows none of which is marked
pub unmarked_stay : (gone : ℕ → Bool) (rows : List Row) → ((e : ℕ) → IsIn e (elements_of rows) → gone e ≡ false) → without_those gone rows ≡ rows
unmarked_stay gone [] none = refl
unmarked_stay gone (row ∷ rows) none =
    let here : IsIn row.element (elements_of (row ∷ rows)) = rw (eq-eqb row.element row.element refl) (omega arith) in
    let rest = unmarked_stay gone rows (λ e is_in. none e (by_test row.element e (λ b. 0 < cond b (suc (times e (elements_of rows))) (times e (elements_of rows))) (λ _. omega arith) (λ _. is_in))) in
    rw (none row.element here, rest) refl

module _ (gone : ℕ → Bool) (e : ℕ) where
  pub without_one : (rows : List Row) → without_row e (without_those gone rows) ≡ without_those (and_one gone e) rows
  without_one rows =
      filter_twice (λ row. not (eqb row.element e)) (λ row. not (gone row.element)) (λ row. not (and_one gone e row.element))
      (λ row. rw (eqb_turned e row.element) (not_or (gone row.element) (eqb row.element e)))
      rows

  one_differs : (x : ℕ) → x ≢ e → and_one gone e x ≡ gone x
  one_differs x other = rw (ne_eqb e x (λ is. other (sym is))) (or_false (gone x))

  one_is : and_one gone e e ≡ true
  one_is = rw (eq-eqb e e refl) (or_true (gone e))
    where
      or_true : (b : Bool) → (b || true) ≡ true
      or_true true = refl
      or_true false = refl

-- the marked rows, where the last of these is marked now
pub those_one : (gone : ℕ → Bool) (rows : List Row) (row : Row) → IsAbsent row.element rows → those (and_one gone row.element) (rows ++ row ∷ []) ≡ those gone rows ++ row ∷ []
those_one gone rows row absent =
    let old = filter_absent (and_one gone row.element) gone row.element (one_differs gone row.element) rows absent in
    filter-append (λ r. and_one gone row.element r.element) rows (row ∷ []) ∙ rw (old, one_is gone row.element) refl

-- and where it isn't
pub those_same : (gone : ℕ → Bool) (rows : List Row) (row : Row) → gone row.element ≡ false → those gone (rows ++ row ∷ []) ≡ those gone rows
those_same gone rows row stays =
    filter-append (λ r. gone r.element) rows (row ∷ []) ∙ rw stays (append-nil (those gone rows))

-- a look for the first that passes, in a list that was filtered before
find_filtered : (p q r : Row → Bool) → ((x : Row) → r x ≡ (q x && p x)) → (rows : List Row) → find p (filter q rows) ≡ find r rows
find_filtered p q r both [] = refl
find_filtered p q r both (row ∷ rows) =
    let rest = find_filtered p q r both rows in
    let pass : (b : Bool) → find p (cond b (row ∷ filter q rows) (filter q rows)) ≡ cond (b && p row) (Some row) (find r rows) = λ b.
    elim b as (λ v. find p (cond v (row ∷ filter q rows) (filter q rows)) ≡ cond (v && p row) (Some row) (find r rows)) [
      | true ↦ ap (λ (o : Option Row). cond (p row) (Some row) o) rest
      | false ↦ rest
    ] in
    rw (both row) (pass (q row))

reverse_push : {A : Type 0} (xs : List A) (x : A) → reverse (x ∷ xs) ≡ reverse xs ++ x ∷ []
reverse_push xs x = reverse-append (x ∷ []) xs

filter_reverse : (p : Row → Bool) (rows : List Row) → reverse (filter p rows) ≡ filter p (reverse rows)
filter_reverse p [] = refl
filter_reverse p (row ∷ rows) =
    let rest = filter_reverse p rows in
    let turned : filter p (reverse (row ∷ rows)) ≡ filter p (reverse rows) ++ filter p (row ∷ []) =
    ap (filter p) (reverse_push rows row) ∙ filter-append p (reverse rows) (row ∷ []) in
    let pass : (b : Bool) → reverse (cond b (row ∷ filter p rows) (filter p rows)) ≡ filter p (reverse rows) ++ cond b (row ∷ []) [] = λ b.
    elim b as (λ v. reverse (cond v (row ∷ filter p rows) (filter p rows)) ≡ filter p (reverse rows) ++ cond v (row ∷ []) []) [
      | true ↦ reverse_push (filter p rows) row ∙ ap (λ (xs : List Row). xs ++ row ∷ []) rest
      | false ↦ rest ∙ sym (append-nil (filter p (reverse rows)))
    ] in
    pass (p row) ∙ sym turned

abbrev number : Row → ℕ
number row = row.element

-- the first unmarked one on the way from a row to the head
abbrev first_left : (ℕ → Bool) → List Row → Option ℕ
first_left gone path = option_map number (find (λ row. not (gone row.element)) path)

nearest_is : (gone : ℕ → Bool) (rows front back : List Row) (row : Row) → rows ≡ front ++ row ∷ back → IsAbsent row.element front → nearest_before row.element gone rows ≡ first_left gone (reverse front)
nearest_is gone rows front back row is absent = rw (is, before_around front back row absent) refl

-- Where the cursor stands is the first unmarked one on its way to the head.
cursor_is : (gone : ℕ → Bool) (rows front back : List Row) (row : Row) → rows ≡ front ++ row ∷ back → IsAbsent row.element front → cursor_without gone rows (Some row.element) ≡ first_left gone (row ∷ reverse front)
cursor_is gone rows front back row is absent =
    let near = nearest_is gone rows front back row is absent in
    elim (cases_Bool (gone row.element)) [
      | inl is_gone ↦ rw is_gone near
      | inr stays ↦ rw stays refl
    ]

module _ (gone : ℕ → Bool) (e : ℕ) (rows : List Row) (once : AreOnce rows) where
  nearest_left : (front back : List Row) (row : Row) → rows ≡ front ++ row ∷ back → row.element ≡ e → gone row.element ≡ false → nearest_before row.element (λ x. eqb x e) (without_those gone rows) ≡ first_left (and_one gone e) (reverse front)
  nearest_left front back row is its stays =
      let absent : IsAbsent row.element front = (alone front back row (subst AreOnce is once)).0 in
      let left : without_those gone rows ≡ without_those gone front ++ row ∷ without_those gone back =
      ap (without_those gone) is ∙ filter-append (λ r. not (gone r.element)) front (row ∷ back) ∙ rw stays refl in
      let absent_left : IsAbsent row.element (without_those gone front) = absent-filter (λ r. not (gone r.element)) row.element front absent in
      let near = nearest_is (λ x. eqb x e) (without_those gone rows) (without_those gone front) (without_those gone back) row left absent_left in
      near ∙ ap (λ (xs : List Row). first_left (λ x. eqb x e) xs) (filter_reverse (λ r. not (gone r.element)) front)
      ∙ ap (option_map number) (find_filtered (λ r. not (eqb r.element e)) (λ r. not (gone r.element)) (λ r. not (and_one gone e r.element)) (λ r. rw (eqb_turned e r.element) (not_or (gone r.element) (eqb r.element e))) (reverse front))

  on_the_way : (path more : List Row) → rows ≡ reverse path ++ more → cursor_without (λ x. eqb x e) (without_those gone rows) (first_left gone path) ≡ first_left (and_one gone e) path
  on_the_way [] more is = refl
  on_the_way (row ∷ path) more is =
      let split : rows ≡ reverse path ++ row ∷ more =
      is ∙ ap (λ (xs : List Row). xs ++ more) (reverse_push path row) ∙ append_assoc (reverse path) (row ∷ []) more in
      let rest = on_the_way path (row ∷ more) split in
      elim (cases_Bool (gone row.element)) [
        | inl is_gone ↦ rw is_gone rest
        | inr stays ↦ rw stays (
            let P : Bool → Bool → Type 0 = λ b d. cond b (nearest_before row.element (λ x. eqb x e) (without_those gone rows)) (Some row.element) ≡ option_map number (cond (not d) (Some row) (find (λ r. not (and_one gone e r.element)) path)) in
            by_test row.element e (λ b. P b (eqb e row.element))
            (λ here. rw (eq-eqb e row.element (sym here)) (
            nearest_left (reverse path) more row split here stays ∙ ap (λ (xs : List Row). first_left (and_one gone e) xs) (reverse-reverse path)))
            (λ other. rw (ne_eqb e row.element (λ is. other (sym is))) refl))
      ]

  -- Where an element leaves a list that others have left, a cursor that had moved off those goes where it goes when all leave.
  pub cursor_one : (at : Option ℕ) → MatchOption at (Unit {0}) (λ c. IsIn c (elements_of rows)) → cursor_without (λ x. eqb x e) (without_those gone rows) (cursor_without gone rows at) ≡ cursor_without (and_one gone e) rows at
  cursor_one None placed = refl
  cursor_one (Some c) placed =
      let apart = splits c rows placed in
      let front : List Row = apart.0 in
      let row : Row = apart.1 in
      let back : List Row = apart.2 in
      let around : rows ≡ front ++ row ∷ back = apart.3.around in
      let absent : IsAbsent row.element front = (alone front back row (subst AreOnce around once)).0 in
      let path : List Row = row ∷ reverse front in
      let turned : rows ≡ reverse path ++ back =
      around ∙ sym (append_assoc front (row ∷ []) back) ∙ ap (λ (xs : List Row). (xs ++ row ∷ []) ++ back) (sym (reverse-reverse front)) ∙ ap (λ (xs : List Row). xs ++ back) (sym (reverse_push (reverse front) row)) in
      let stood = cursor_is gone rows front back row around absent in
      let stands = cursor_is (and_one gone e) rows front back row around absent in
      let at : row.element ≡ c = apart.3.its in
      subst (λ (n : ℕ). cursor_without (λ x. eqb x e) (without_those gone rows) (cursor_without gone rows (Some n)) ≡ cursor_without (and_one gone e) rows (Some n)) at
      (ap (cursor_without (λ x. eqb x e) (without_those gone rows)) stood ∙ on_the_way path back turned ∙ sym stands)
