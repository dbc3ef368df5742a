-- Lists that are turned round, and lists whose front is taken off.
use Rattle.std.proofs.Common.{◌≡◌, ℕ, suc, ◌<◌, Bool, true, false, not, cond, eqb, ◌||◌, List, [], ◌∷◌, ◌++◌, reverse, length, drop, Option, Some, None, refl, ap, sym, ◌∙◌, arith}
use Rattle.std.specs.Prelude.{filter, option_to_list, IsSome}
use Rattle.std.specs.List.{list_any}
use Rattle.std.proofs.lemmas.Bool.{ne_eqb}
use Rattle.std.proofs.lemmas.List.{reverse-append, reverse-reverse, append-nil, map-append}
use Rattle.std.proofs.lemmas.List.Elements.{filter-append}
use Rattle.std.proofs.lemmas.List.Folds.{list_any-append}
use Rattle.map_types.specs.ElementLists.{times}
use Rattle.map_types.specs.declared.row.Row.{Row}
use Rattle.map_types.specs.Listed.{elements_of}
use Rattle.place_words.specs.declared.finals.LocalFinal.{LocalFinal}
use Rattle.place_words.specs.Logs.{final_local}
use Rattle.map_types.proofs.RowLemmas.{by_test}

pub turned : {A : Type 0} (x : A) (xs : List A) → reverse (x ∷ xs) ≡ reverse xs ++ x ∷ []
turned x xs = reverse-append (x ∷ []) xs

or_turned : (a b : Bool) → (a || (b || false)) ≡ (b || a)
or_turned true true = refl
or_turned true false = refl
or_turned false true = refl
or_turned false false = refl

pub any_reverse : {A : Type 0} (p : A → Bool) (xs : List A) → list_any p (reverse xs) ≡ list_any p xs
any_reverse p [] = refl
any_reverse p (x ∷ xs) =
    ap (list_any p) (turned x xs) ∙ list_any-append p (reverse xs) (x ∷ []) ∙ ap (λ (b : Bool). b || (p x || false)) (any_reverse p xs) ∙ or_turned (list_any p xs) (p x)

-- an element that isn't in a list stands in it no times
pub absent_is : (e : ℕ) (xs : List ℕ) → not (list_any (λ x. eqb x e) xs) ≡ eqb (times e xs) 0
absent_is e [] = refl
absent_is e (x ∷ xs) =
    by_test x e (λ b. not (b || list_any (λ y. eqb y e) xs) ≡ eqb (cond b (suc (times e xs)) (times e xs)) 0) (λ _. sym (ne_eqb (suc (times e xs)) 0 (λ is. omega (arith, is)))) (λ _. absent_is e xs)

pub filter_reverse : {A : Type 0} (p : A → Bool) (xs : List A) → filter p (reverse xs) ≡ reverse (filter p xs)
filter_reverse p [] = refl
filter_reverse p (x ∷ xs) =
    ap (filter p) (turned x xs) ∙ filter-append p (reverse xs) (x ∷ []) ∙ ap (λ (ys : List _). ys ++ filter p (x ∷ [])) (filter_reverse p xs) ∙ by_bool (p x) refl
  where
    by_bool : (b : Bool) → p x ≡ b → reverse (filter p xs) ++ filter p (x ∷ []) ≡ reverse (filter p (x ∷ xs))
    by_bool true is = rw is (sym (turned x (filter p xs)))
    by_bool false is = rw is (append-nil (reverse (filter p xs)))

-- the list without its last, which was its head when turned round
pub head_off : (before after : List ℕ) (head : Option ℕ) → before ≡ after ++ option_to_list head → (0 < length before → IsSome head)
    → drop 1 (reverse before) ≡ reverse after
head_off before after (Some head) is there = rw is (ap (drop 1) (reverse-append after (head ∷ [])))
head_off [] [] None is there = refl
head_off [] (x ∷ after) None is there = absurd cc
head_off (x ∷ before) after None is there = let some : IsSome {T = ℕ} None = there (omega arith) in absurd cc

-- the elements of rows, turned round twice
pub elements_turned : (rows : List Row) → reverse (elements_of (reverse rows)) ≡ elements_of rows
elements_turned [] = refl
elements_turned (row ∷ rows) =
    ap (λ (l : List Row). reverse (elements_of l)) (turned row rows) ∙ ap reverse (map-append (λ (r : Row). r.element) (reverse rows) (row ∷ []))
    ∙ reverse-append (elements_of (reverse rows)) (row.element ∷ []) ∙ ap (λ (l : List ℕ). row.element ∷ l) (elements_turned rows)

pub elements_reversed : (rows : List Row) → reverse (elements_of rows) ≡ elements_of (reverse rows)
elements_reversed rows = ap (λ (l : List Row). reverse (elements_of l)) (sym (reverse-reverse rows)) ∙ elements_turned (reverse rows)

-- lists that lie turned round, as finals tell them
pub last_is : (free : List ℕ) (pending : List Row) (steal : ℕ) (first second : List ℕ) (elements : List ℕ)
    → first ≡ reverse free → elements ≡ elements_of pending → second ≡ reverse elements
    → ◌≡◌ {A = LocalFinal} (record { free = first; pending = second; steal = steal }) (final_local (record { free = reverse free; pending = reverse pending; steal = steal }))
last_is free pending steal first second elements first_is elements_are second_is =
    let turned : second ≡ elements_of (reverse pending) = second_is ∙ ap reverse elements_are ∙ elements_reversed pending in
    rw (first_is, turned) refl
