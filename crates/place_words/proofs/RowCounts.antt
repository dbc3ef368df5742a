-- How many rows of an element there are in lists that are filtered, cut and turned.
use Rattle.std.proofs.Common.{◌≡◌, ℕ, suc, ◌+◌, ◌≤◌, Bool, true, false, not, cond, ◌&&◌, eqb, List, [], ◌∷◌, ◌++◌, take, drop, reverse, refl, ap, ◌∙◌, sym, arith}
use Rattle.std.proofs.lemmas.List.{take-append-drop, reverse-append}
use Rattle.map_types.specs.ElementLists.{times}
use Rattle.map_types.specs.declared.row.Row.{Row}
use Rattle.map_types.specs.Listed.{elements_of, those, without_those}
use Rattle.place_words.specs.RowMoves.{rows_of}
use Rattle.map_types.proofs.RowLemmas.{by_test}

abbrev pub any : ℕ → Bool
any hash = true

-- what a row counts for
abbrev pub weight : ℕ → (ℕ → Bool) → Row → ℕ
weight e of row = cond (eqb row.element e && of row.hash) 1 0

pub rows_more : (e : ℕ) (of : ℕ → Bool) (row : Row) (rows : List Row) → rows_of e of (row ∷ rows) ≡ weight e of row + rows_of e of rows
rows_more e of row rows = by (eqb row.element e && of row.hash) (rows_of e of rows)
  where
    by : (b : Bool) (n : ℕ) → cond b (suc n) n ≡ cond b 1 0 + n
    by true n = omega arith
    by false n = omega arith

pub rows_append : (e : ℕ) (of : ℕ → Bool) (xs ys : List Row) → rows_of e of (xs ++ ys) ≡ rows_of e of xs + rows_of e of ys
rows_append e of [] ys = omega arith
rows_append e of (x ∷ xs) ys = omega (arith, rows_more e of x (xs ++ ys), rows_more e of x xs, rows_append e of xs ys)

pub rows_reverse : (e : ℕ) (of : ℕ → Bool) (rows : List Row) → rows_of e of (reverse rows) ≡ rows_of e of rows
rows_reverse e of [] = refl
rows_reverse e of (row ∷ rows) =
    ap (rows_of e of) (reverse-append (row ∷ []) rows)
    ∙ omega (arith, rows_append e of (reverse rows) (row ∷ []), rows_more e of row [], rows_more e of row rows, rows_reverse e of rows)

pub rows_cut : (e : ℕ) (of : ℕ → Bool) (n : ℕ) (rows : List Row) → rows_of e of rows ≡ rows_of e of (take n rows) + rows_of e of (drop n rows)
rows_cut e of n rows = ap (rows_of e of) (sym (take-append-drop n rows)) ∙ rows_append e of (take n rows) (drop n rows)

-- all rows of an element, and those with some hash
pub rows_any : (e : ℕ) (rows : List Row) → rows_of e any rows ≡ times e (elements_of rows)
rows_any e [] = refl
rows_any e (row ∷ rows) = by (eqb row.element e) (rows_any e rows)
  where
    by : (b : Bool) → rows_of e any rows ≡ times e (elements_of rows) → cond (b && true) (suc (rows_of e any rows)) (rows_of e any rows) ≡ cond b (suc (times e (elements_of rows))) (times e (elements_of rows))
    by true same = ap suc same
    by false same = same

pub weight_least : (e : ℕ) (of : ℕ → Bool) (row : Row) → weight e of row ≤ weight e any row
weight_least e of row = by (eqb row.element e) (of row.hash)
  where
    by : (a b : Bool) → cond (a && b) 1 0 ≤ cond (a && true) 1 0
    by true true = omega arith
    by true false = omega arith
    by false b = omega arith

pub rows_least : (e : ℕ) (of : ℕ → Bool) (rows : List Row) → rows_of e of rows ≤ times e (elements_of rows)
rows_least e of [] = omega arith
rows_least e of (row ∷ rows) = omega (arith, rows_more e of row rows, rows_any e (row ∷ rows), rows_any e rows, rows_more e any row rows, weight_least e of row, rows_least e of rows)

-- a filter by elements keeps all rows of an element or none
no_choice : (b : Bool) (n : ℕ) → n ≡ 0 → cond b n 0 ≡ 0
no_choice true n none = none
no_choice false n none = refl

kept_weight : (e : ℕ) (of : ℕ → Bool) (f : ℕ → Bool) (row : Row) → cond (f row.element) (weight e of row) 0 ≡ cond (f e) (weight e of row) 0
kept_weight e of f row =
    let w : Bool → ℕ = λ b. cond (b && of row.hash) 1 0 in
    by_test row.element e (λ b. cond (f row.element) (w b) 0 ≡ cond (f e) (w b) 0)
    (λ same. ap (λ x. cond (f x) (w true) 0) same)
    (λ other. no_choice (f row.element) (w false) refl ∙ sym (no_choice (f e) (w false) refl))

choice_rows : (e : ℕ) (of : ℕ → Bool) (b : Bool) (row : Row) (rows : List Row) → rows_of e of (cond b (row ∷ rows) rows) ≡ cond b (weight e of row) 0 + rows_of e of rows
choice_rows e of true row rows = rows_more e of row rows
choice_rows e of false row rows = omega arith

sum_chosen : (b : Bool) (m n : ℕ) → cond b m 0 + cond b n 0 ≡ cond b (m + n) 0
sum_chosen true m n = refl
sum_chosen false m n = omega arith

pub rows_those : (e : ℕ) (of : ℕ → Bool) (f : ℕ → Bool) (rows : List Row) → rows_of e of (those f rows) ≡ cond (f e) (rows_of e of rows) 0
rows_those e of f [] = sym (no_choice (f e) 0 refl)
rows_those e of f (row ∷ rows) =
    let step = choice_rows e of (f row.element) row (those f rows) in
    let more : cond (f e) (rows_of e of (row ∷ rows)) 0 ≡ cond (f e) (weight e of row + rows_of e of rows) 0 = ap (λ n. cond (f e) n 0) (rows_more e of row rows) in
    omega (arith, step, kept_weight e of f row, rows_those e of f rows, sum_chosen (f e) (weight e of row) (rows_of e of rows), more)

cond_not : (b : Bool) (n : ℕ) → cond (not b) n 0 ≡ cond b 0 n
cond_not true n = refl
cond_not false n = refl

pub rows_without : (e : ℕ) (of : ℕ → Bool) (f : ℕ → Bool) (rows : List Row) → rows_of e of (without_those f rows) ≡ cond (f e) 0 (rows_of e of rows)
rows_without e of f rows = rows_those e of (λ x. not (f x)) rows ∙ cond_not (f e) (rows_of e of rows)

-- those and the others are all
pub rows_apart : (e : ℕ) (of : ℕ → Bool) (f : ℕ → Bool) (rows : List Row) → rows_of e of (those f rows) + rows_of e of (without_those f rows) ≡ rows_of e of rows
rows_apart e of f rows = by (f e) (rows_of e of rows) (rows_those e of f rows) (rows_without e of f rows)
  where
    by : {m n : ℕ} (b : Bool) (all : ℕ) → m ≡ cond b all 0 → n ≡ cond b 0 all → m + n ≡ all
    by true all p q = omega (arith, p, q)
    by false all p q = omega (arith, p, q)
