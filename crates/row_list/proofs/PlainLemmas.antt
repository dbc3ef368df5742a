-- Rows that are kept tail first.
use Rattle.std.proofs.Common.{◌≡◌, ℕ, zero, suc, ◌+◌, ◌-◌, ◌<◌, ◌≤◌, Bool, true, false, cond, ltb, List, [], ◌∷◌, ◌++◌, length, take, drop, get_or, Some, None, refl, ap, sym, ◌∙◌, arith, append_assoc}
use Rattle.std.specs.Prelude.{reverse, position, remove, slice_get}
use Rattle.std.proofs.lemmas.List.{set_split, set-get_or, reverse-append, take_more, get_or_default}
use Rattle.std.proofs.lemmas.List.Quantifiers.{position-Some}
use Rattle.std.specs.List.{position_or_len}
use Rattle.std.proofs.lemmas.Bool.{eqb-true, ltb-false}
use Rattle.std.proofs.lemmas.List.Sums.{fails_before_first}
use Rattle.std.proofs.lemmas.Grind.{reverse_onto}
use Rattle.map_types.specs.ElementLists.{times}
use Rattle.map_types.specs.declared.row.Row.{Row}
use Rattle.map_types.specs.Listed.{elements_of}
use Rattle.map_types.proofs.RowLemmas.{times_append, by_test}
use Rattle.row_list.specs.RowWords.{is_of, row_of, without_row, head_row, row_before, row_after}
use Rattle.row_list.proofs.ElementLemmas.{times_here}
use Rattle.row_list.proofs.RowLemmas.{elements_append, times_rows_reverse, row_of_split, without_split, last_of_reverse, row_before_split, row_after_split}

pub around : (front back : List Row) (row : Row) → reverse (front ++ row ∷ back) ≡ reverse back ++ (row ∷ reverse front)
around front back row =
    reverse-append front (row ∷ back) ∙ ap (λ (rows : List Row). rows ++ reverse front) (reverse_onto back row []) ∙ append_assoc (reverse back) (row ∷ []) (reverse front)

-- where the row of an element lies, with what lies before and behind it
pub record Lies (e : ℕ) (items : List Row) (at : ℕ) (row : Row) : Type 0 where
  pub within : at < length items
  pub read : (d : Row) → get_or items at d ≡ row
  pub its : row.element ≡ e
  pub seen : reverse items ≡ reverse (drop (suc at) items) ++ (row ∷ reverse (take at items))
  pub not_before : times e (elements_of (reverse (drop (suc at) items))) ≡ 0
  pub not_after : times e (elements_of (reverse (take at items))) ≡ 0

absent_all : (e : ℕ) (items : List Row) → ((k : ℕ) (d : Row) → k < length items → is_of e (get_or items k d) ≡ false) → times e (elements_of items) ≡ 0
absent_all e [] fails = refl
absent_all e (x ∷ items) fails =
    let rest = absent_all e items (λ k d within. fails (suc k) d (omega arith)) in
    by_test x.element e (λ b. b ≡ false → cond b (suc (times e (elements_of items))) (times e (elements_of items)) ≡ 0) (λ _ is. absurd cc) (λ _ _. rest) (fails zero x (omega arith))

none_if : (b : Bool) (x : ℕ) → cond b (Some x) None ≡ None → b ≡ false
none_if true x none = cc
none_if false x none = refl

pub lies_nowhere : (e : ℕ) (items : List Row) → position (is_of e) items ≡ None → times e (elements_of (reverse items)) ≡ 0
lies_nowhere e items none =
    let past = ltb-false (position_or_len (is_of e) items) (length items) (none_if (ltb (position_or_len (is_of e) items) (length items)) (position_or_len (is_of e) items) none) in
    times_rows_reverse e items ∙ absent_all e items (λ k d within. fails_before_first (is_of e) items k d (omega arith))

abbrev pub some_row : Row
some_row = record { element = 0; hash = 0 }

pub lies : (e : ℕ) (items : List Row) (at : ℕ) → position (is_of e) items ≡ Some at → times e (elements_of (reverse items)) ≤ 1 → Lies e items at (get_or items at some_row)
lies e items at found once =
    let row = get_or items at some_row in
    let parts = position-Some (is_of e) items at some_row found in
    let within : at < length items = parts.0 in
    let its : row.element ≡ e = eqb-true row.element e parts.1 in
    let front = reverse (drop (suc at) items) in
    let back = reverse (take at items) in
    let seen : reverse items ≡ front ++ (row ∷ back) =
    ap reverse (sym (set-get_or items at some_row) ∙ set_split items at row within) ∙ around (take at items) (drop (suc at) items) row in
    let count = ap (λ (rows : List Row). times e (elements_of rows)) seen ∙ ap (times e) (elements_append front (row ∷ back)) ∙ times_append e (elements_of front) (elements_of (row ∷ back)) in
    let here = times_here row.element e (elements_of back) its in
    record {
      within = within;
      read = λ d. get_or_default items at d some_row within;
      its = its;
      seen = seen;
      not_before = omega arith;
      not_after = omega arith;
    }

-- The row at its place, and the two beside it

pub found_row : (e : ℕ) (items : List Row) (at : ℕ) (row : Row) → Lies e items at row → row_of e (reverse items) ≡ Some row
found_row e items at row lies =
    ap (row_of e) lies.seen ∙ row_of_split e (reverse (drop (suc at) items)) row (reverse (take at items)) lies.not_before lies.its

pub left_rows : (e : ℕ) (items : List Row) (at : ℕ) (row : Row) → Lies e items at row → reverse (remove items at) ≡ without_row e (reverse items)
left_rows e items at row lies =
    reverse-append (take at items) (drop (suc at) items) ∙ sym (ap (without_row e) lies.seen ∙ without_split e (reverse (drop (suc at) items)) row (reverse (take at items)) lies.not_before lies.its lies.not_after)

first_of_drop : (n : ℕ) (items : List Row) → head_row (drop n items) ≡ slice_get items n
first_of_drop zero [] = refl
first_of_drop zero (x ∷ items) = refl
first_of_drop (suc n) [] = refl
first_of_drop (suc n) (x ∷ items) = first_of_drop n items

pub row_towards_head : (e : ℕ) (items : List Row) (at : ℕ) (row : Row) → Lies e items at row → row_before e (reverse items) ≡ slice_get items (suc at)
row_towards_head e items at row lies =
    ap (row_before e) lies.seen ∙ row_before_split e (reverse (drop (suc at) items)) row (reverse (take at items)) lies.not_before lies.its ∙ last_of_reverse (drop (suc at) items) ∙ first_of_drop (suc at) items

last_of_take : (n : ℕ) (items : List Row) → n < length items → head_row (reverse (take (suc n) items)) ≡ Some (get_or items n some_row)
last_of_take n items within =
    let more : take (suc n) items ≡ take n items ++ get_or items n some_row ∷ [] =
    ap (λ (k : ℕ). take k items) (let one : suc n ≡ n + 1 = omega arith in one) ∙ take_more items n some_row within in
    ap (λ (rows : List Row). head_row (reverse rows)) more ∙ ap head_row (reverse-append (take n items) (get_or items n some_row ∷ []))

pub row_towards_tail : (e : ℕ) (items : List Row) (at : ℕ) (row : Row) → Lies e items at row → 0 < at → row_after e (reverse items) ≡ Some (get_or items (at - 1) some_row)
row_towards_tail e items at row lies inside =
    let one : at ≡ suc (at - 1) = omega arith in
    let far = lies.within in
    ap (row_after e) lies.seen ∙ row_after_split e (reverse (drop (suc at) items)) row (reverse (take at items)) lies.not_before lies.its ∙ ap (λ (k : ℕ). head_row (reverse (take k items))) one ∙ last_of_take (at - 1) items (omega arith)

pub row_at_tail : (e : ℕ) (items : List Row) (at : ℕ) (row : Row) → Lies e items at row → at ≡ 0 → row_after e (reverse items) ≡ None
row_at_tail e items at row lies first =
    ap (row_after e) lies.seen ∙ row_after_split e (reverse (drop (suc at) items)) row (reverse (take at items)) lies.not_before lies.its ∙ ap (λ (k : ℕ). head_row (reverse (take k items))) first
