-- Rows of distinct elements: what a test finds in lists without an element, and lists that lose some.
use Rattle.std.proofs.Common.{◌≡◌, ◌≢◌, ℕ, suc, ◌+◌, ◌≤◌, Bool, true, false, not, cond, eqb, List, [], ◌∷◌, ◌++◌, reverse, length, refl, ap, sym, subst, ⊎_elim, arith}
use Rattle.std.specs.Prelude.{filter, find}
use Rattle.std.specs.List.{position_or_len}
use Rattle.std.proofs.lemmas.Bool.{ne_eqb, eq-eqb, cond_both}
use Rattle.std.proofs.lemmas.Bool.Decides.{eqb_tells}
use Rattle.std.proofs.lemmas.List.{reverse-append, append_assoc, map-append, take_at, length_push}
use Rattle.std.proofs.lemmas.List.Elements.{filter-append}
use Rattle.map_types.specs.ElementLists.{times}
use Rattle.map_types.specs.declared.row.Row.{Row}
use Rattle.map_types.specs.Listed.{elements_of, rows_before, rows_to}

-- a test of two numbers, by cases
pub by_test : (x y : ℕ) (F : Bool → Type 0) → (x ≡ y → F true) → (x ≢ y → F false) → F (eqb x y)
by_test x y F hit miss = ⊎_elim (λ t. subst F (sym t.0) (hit t.1)) (λ t. subst F (sym t.0) (miss t.1)) (eqb_tells x y)

pub eqb_turned : (x y : ℕ) → eqb x y ≡ eqb y x
eqb_turned x y = by_test x y (λ b. b ≡ eqb y x) (λ is. sym (eq-eqb y x (sym is))) (λ is_not. sym (ne_eqb y x (λ is. is_not (sym is))))

pub times_append : (e : ℕ) (xs ys : List ℕ) → times e (xs ++ ys) ≡ times e xs + times e ys
times_append e [] ys = omega arith
times_append e (x ∷ xs) ys =
    let rest = times_append e xs ys in
    by_test x e (λ b. cond b (suc (times e (xs ++ ys))) (times e (xs ++ ys)) ≡ cond b (suc (times e xs)) (times e xs) + times e ys)
    (λ _. omega arith)
    (λ _. rest)

-- an element doesn't stand in a list of rows
abbrev pub IsAbsent : ℕ → List Row → Type 0
IsAbsent e rows = times e (elements_of rows) ≡ 0

-- each element stands in it once at most
abbrev pub AreOnce : List Row → Type 0
AreOnce rows = (e : ℕ) → times e (elements_of rows) ≤ 1

pub times_rows-append : (e : ℕ) (xs ys : List Row) → times e (elements_of (xs ++ ys)) ≡ times e (elements_of xs) + times e (elements_of ys)
times_rows-append e xs ys = rw map-append (times_append e (elements_of xs) (elements_of ys))

pub times_rows-cons : (row : Row) (rows : List Row) → times row.element (elements_of (row ∷ rows)) ≡ suc (times row.element (elements_of rows))
times_rows-cons row rows = rw (eq-eqb row.element row.element refl) refl

pub times_rows-reverse : (e : ℕ) (rows : List Row) → times e (elements_of (reverse rows)) ≡ times e (elements_of rows)
times_rows-reverse e [] = refl
times_rows-reverse e (row ∷ rows) =
    let turned : reverse (row ∷ rows) ≡ reverse rows ++ row ∷ [] = reverse-append (row ∷ []) rows in
    let apart = times_rows-append e (reverse rows) (row ∷ []) in
    let before = times_rows-append e (row ∷ []) rows in
    let rest = times_rows-reverse e rows in
    rw turned (omega (arith, apart, before, rest))

pub absent_parts : (e : ℕ) (row : Row) (rows : List Row) → IsAbsent e (row ∷ rows) → (row.element ≢ e) × IsAbsent e rows
absent_parts e row rows =
    let rest : ℕ = times e (elements_of rows) in
    by_test row.element e (λ b. cond b (suc rest) rest ≡ 0 → (row.element ≢ e) × (rest ≡ 0))
    (λ is none. absurd (omega arith))
    (λ is_not none. (is_not, none))

pub absent_cons : (e : ℕ) (row : Row) (rows : List Row) → row.element ≢ e → IsAbsent e rows → IsAbsent e (row ∷ rows)
absent_cons e row rows other absent = rw (ne_eqb row.element e other) absent

pub absent-filter : (p : Row → Bool) (e : ℕ) (rows : List Row) → IsAbsent e rows → IsAbsent e (filter p rows)
absent-filter p e [] absent = refl
absent-filter p e (row ∷ rows) absent =
    let parts = absent_parts e row rows absent in
    let rest = absent-filter p e rows parts.1 in
    cond_both (p row) (row ∷ filter p rows) (filter p rows) (IsAbsent e)
    (λ _. absent_cons e row (filter p rows) parts.0 rest)
    (λ _. rest)

-- what a filter keeps was there
pub times_rows-filter : (p : Row → Bool) (e : ℕ) (rows : List Row) → times e (elements_of (filter p rows)) ≤ times e (elements_of rows)
times_rows-filter p e [] = omega arith
times_rows-filter p e (row ∷ rows) =
    let rest : times e (elements_of (filter p rows)) ≤ times e (elements_of rows) = times_rows-filter p e rows in
    let all : ℕ = times e (elements_of rows) in
    let kept : ℕ = times e (elements_of (filter p rows)) in
    cond_both (p row) (row ∷ filter p rows) (filter p rows) (λ xs. times e (elements_of xs) ≤ times e (elements_of (row ∷ rows)))
    (λ _. by_test row.element e (λ b. cond b (suc kept) kept ≤ cond b (suc all) all) (λ _. omega arith) (λ _. omega arith))
    (λ _. by_test row.element e (λ b. kept ≤ cond b (suc all) all) (λ _. omega arith) (λ _. omega arith))

pub absent-append : (e : ℕ) (xs ys : List Row) → IsAbsent e xs → IsAbsent e ys → IsAbsent e (xs ++ ys)
absent-append e xs ys first second =
    let apart = times_rows-append e xs ys in
    omega (arith, apart, first, second)

pub absent-reverse : (e : ℕ) (rows : List Row) → IsAbsent e rows → IsAbsent e (reverse rows)
absent-reverse e rows absent = rw (times_rows-reverse e rows) absent

-- Of rows of distinct elements one is named; it is in neither of the lists around it.
pub alone : (xs ys : List Row) (row : Row) → AreOnce (xs ++ row ∷ ys) → IsAbsent row.element xs × IsAbsent row.element ys
alone xs ys row once =
    let apart = times_rows-append row.element xs (row ∷ ys) in
    let here = times_rows-cons row ys in
    let most = once row.element in
    (omega (arith, apart, here, most), omega (arith, apart, here, most))

module _ (p q : ℕ → Bool) (e : ℕ) (agree : (x : ℕ) → x ≢ e → p x ≡ q x) where
  -- two tests that agree but at e keep the same of rows without e
  pub filter_absent : (rows : List Row) → IsAbsent e rows → filter (λ row. p row.element) rows ≡ filter (λ row. q row.element) rows
  filter_absent [] absent = refl
  filter_absent (row ∷ rows) absent =
      let parts = absent_parts e row rows absent in
      let rest = filter_absent rows parts.1 in
      rw (agree row.element parts.0, rest) refl

  pub find_absent : (rows : List Row) → IsAbsent e rows → find (λ row. p row.element) rows ≡ find (λ row. q row.element) rows
  find_absent [] absent = refl
  find_absent (row ∷ rows) absent =
      let parts = absent_parts e row rows absent in
      let rest = find_absent rows parts.1 in
      rw (agree row.element parts.0, rest) refl

-- a list without an element, and the rows on both sides of it
pub passes_absent : (e : ℕ) (rows : List Row) → IsAbsent e rows → filter (λ row. not (eqb row.element e)) rows ≡ rows
passes_absent e [] absent = refl
passes_absent e (row ∷ rows) absent =
    let parts = absent_parts e row rows absent in
    rw (ne_eqb row.element e parts.0) (ap (λ (xs : List Row). row ∷ xs) (passes_absent e rows parts.1))

pub passes_around : (xs ys : List Row) (row : Row) → IsAbsent row.element xs → IsAbsent row.element ys → filter (λ other. not (eqb other.element row.element)) (xs ++ row ∷ ys) ≡ xs ++ ys
passes_around xs ys row before after =
    let p : Row → Bool = λ other. not (eqb other.element row.element) in
    let apart = filter-append p xs (row ∷ ys) in
    let here : filter p (row ∷ ys) ≡ filter p ys = rw (eq-eqb row.element row.element refl) refl in
    cc (apart, here, passes_absent row.element xs before, passes_absent row.element ys after)

pub position_around : (xs ys : List Row) (row : Row) → IsAbsent row.element xs → position_or_len (λ other. eqb other.element row.element) (xs ++ row ∷ ys) ≡ length xs
position_around [] ys row before = rw (eq-eqb row.element row.element refl) refl
position_around (x ∷ xs) ys row before =
    let parts = absent_parts row.element x xs before in
    let rest = position_around xs ys row parts.1 in
    rw (ne_eqb x.element row.element parts.0) (omega (arith, rest))

pub before_around : (xs ys : List Row) (row : Row) → IsAbsent row.element xs → rows_before row.element (xs ++ row ∷ ys) ≡ xs
before_around xs ys row before = rw (position_around xs ys row before) (take_at xs (row ∷ ys) (length xs) refl)

pub to_around : (xs ys : List Row) (row : Row) → IsAbsent row.element xs → rows_to row.element (xs ++ row ∷ ys) ≡ xs ++ row ∷ []
to_around xs ys row before =
    let split : xs ++ row ∷ ys ≡ (xs ++ row ∷ []) ++ ys = sym (append_assoc xs (row ∷ []) ys) in
    rw (position_around xs ys row before, split) (take_at (xs ++ row ∷ []) ys (length xs + 1) (length_push xs row))
