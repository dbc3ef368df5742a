-- Rows of distinct elements, with one more or one less.
use Rattle.std.proofs.Common.{◌≡◌, ◌≢◌, ℕ, suc, ◌<◌, ◌≤◌, false, not, cond, eqb, List, [], ◌∷◌, ◌++◌, reverse, Option, Some, refl, ap, sym, ◌∙◌, inl, inr, arith, append_assoc}
use Rattle.std.proofs.lemmas.Bool.{cases_lt, ne_eqb}
use Rattle.std.proofs.lemmas.Grind.{reverse_onto}
use Rattle.map_types.specs.ElementLists.{times}
use Rattle.map_types.specs.declared.row.Row.{Row}
use Rattle.map_types.specs.Listed.{elements_of}
use Rattle.map_types.proofs.RowLemmas.{times_append, by_test}
use Rattle.row_list.specs.RowWords.{row_of, without_row, head_row, AreRows, spare_of}
use Rattle.row_list.proofs.ElementLemmas.{times_here}
use Rattle.row_list.proofs.RowLemmas.{elements_append, row_of_split, row_of_absent, times_rows_reverse}
use Rattle.linked_rows.proofs.LeadLemmas.{AreOnce, first_cell}

-- the mark is no row's
pub mark_apart : (mark : ℕ) (rows : List Row) → AreRows mark rows → times mark (elements_of rows) ≡ 0
mark_apart mark rows are =
    elim (cases_lt 0 (times mark (elements_of rows))) [
      | inl there ↦ absurd (let below = are.below mark there in omega arith)
      | inr none ↦ omega arith
    ]

pub once_in_ring : (mark : ℕ) (rows : List Row) → AreRows mark rows → AreOnce mark rows
once_in_ring mark rows are x =
    by_test mark x (λ b. cond b (suc (times x (elements_of rows))) (times x (elements_of rows)) ≤ 1)
    (λ is. let none = ap (λ (n : ℕ). times n (elements_of rows)) (sym is) ∙ mark_apart mark rows are in omega arith)
    (λ _. are.once x)

pub once_in_reverse : (mark : ℕ) (rows : List Row) → AreRows mark rows → AreOnce mark (reverse rows)
once_in_reverse mark rows are x =
    let same = ap (λ (n : ℕ). cond (eqb mark x) (suc n) n) (times_rows_reverse x rows) in
    let once = once_in_ring mark rows are x in
    omega arith

-- where a row stands, its element stands nowhere else
pub apart : (mark : ℕ) (rows front : List Row) (row : Row) (back : List Row) → AreRows mark rows → rows ≡ front ++ row ∷ back → (times row.element (elements_of front) ≡ 0) × (times row.element (elements_of back) ≡ 0)
apart mark rows front row back are around =
    let e = row.element in
    let count = ap (λ (xs : List Row). times e (elements_of xs)) around ∙ ap (times e) (elements_append front (row ∷ back)) ∙ times_append e (elements_of front) (elements_of (row ∷ back)) in
    let here = times_here e e (elements_of back) refl in
    let once = are.once e in
    (omega arith, omega arith)

pub row_here : (mark : ℕ) (rows front : List Row) (row : Row) (back : List Row) → AreRows mark rows → rows ≡ front ++ row ∷ back → row_of row.element rows ≡ Some row
row_here mark rows front row back are around =
    ap (row_of row.element) around ∙ row_of_split row.element front row back (apart mark rows front row back are around).0 refl

-- what stands at the cell of the first of some rows that stand there, or at the mark
pub first_behind : (mark : ℕ) (rows front back : List Row) → AreRows mark rows → rows ≡ front ++ back → row_of (first_cell back mark) rows ≡ head_row back
first_behind mark rows front [] are around = row_of_absent mark rows (mark_apart mark rows are)
first_behind mark rows front (row ∷ back) are around = row_here mark rows front row back are around

pub first_before : (mark : ℕ) (rows front back : List Row) → AreRows mark rows → rows ≡ reverse front ++ back → row_of (first_cell front mark) rows ≡ head_row front
first_before mark rows [] back are around = row_of_absent mark rows (mark_apart mark rows are)
first_before mark rows (row ∷ front) back are around =
    let split : rows ≡ reverse front ++ row ∷ back =
    around ∙ ap (λ (xs : List Row). xs ++ back) (reverse_onto front row []) ∙ append_assoc (reverse front) (row ∷ []) back in
    row_here mark rows (reverse front) row back are split

-- One row more

pub are_with : (mark : ℕ) (row : Row) (rows : List Row) → AreRows mark rows → 1 ≤ spare_of mark rows → row.element < mark → times row.element (elements_of rows) ≡ 0 → AreRows mark (row ∷ rows)
are_with mark row rows are spare below absent = record {
  once = λ x. by_test row.element x (λ b. cond b (suc (times x (elements_of rows))) (times x (elements_of rows)) ≤ 1) (λ is. let none = ap (λ (n : ℕ). times n (elements_of rows)) (sym is) ∙ absent in omega arith) (λ _. are.once x);
  below = λ x. by_test row.element x (λ b. 0 < cond b (suc (times x (elements_of rows))) (times x (elements_of rows)) → x < mark) (λ is _. omega arith) (λ _ there. are.below x there);
  few = omega arith;
  countable = are.countable;
}

-- One row less

pub row_of_kept : (x e : ℕ) (rows : List Row) → x ≢ e → row_of x (without_row e rows) ≡ row_of x rows
row_of_kept x e [] other = refl
row_of_kept x e (y ∷ rows) other =
    let rest = row_of_kept x e rows other in
    by_test y.element e (λ b. row_of x (cond (not b) (y ∷ without_row e rows) (without_row e rows)) ≡ cond (eqb y.element x) (Some y) (row_of x rows))
    (λ is. let differs : eqb y.element x ≡ false = ne_eqb y.element x (λ same. other (sym same ∙ is)) in rw differs rest)
    (λ _. ap (λ (found : Option Row). cond (eqb y.element x) (Some y) found) rest)
