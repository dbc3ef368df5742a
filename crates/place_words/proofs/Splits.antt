-- The first of a list that passes a test: what stands before it, it, and what stands after it.
use Rattle.std.proofs.Common.{◌≡◌, ℕ, zero, suc, ◌+◌, ◌<◌, Bool, true, false, cond, List, [], ◌∷◌, ◌++◌, length, take, drop, get_or, Option, Some, None, refl, sym, ap, ◌∙◌, subst, arith}
use Rattle.std.specs.Prelude.{find, slice_get, MatchOption, IsSome}
use Rattle.std.specs.List.{list_any, before_first, after_first, position_or_len}
use Rattle.std.proofs.lemmas.Bool.{or_parts}
use Rattle.std.proofs.lemmas.List.{take-append-drop, drop_more}
use Rattle.std.proofs.lemmas.List.Folds.{find_at, list_any_none}
use Rattle.std.proofs.lemmas.Option.{none-some, same_Some, slice_get_within, get_or_from_slice_get}

-- the value that is there, and what holds of it
pub record IsThere {X : Type 0} (found : Option X) (Fact : X → Type 0) : Type 0 where
  pub it : X
  pub is : found ≡ Some it
  pub fact : Fact it

pub there : {X : Type 0} (found : Option X) (Fact : X → Type 0) → MatchOption found ⊥ Fact → IsThere found Fact
there None Fact none = absurd none
there (Some x) Fact fact = record { it = x; is = refl; fact = fact }

pub some_there : {X : Type 0} (found : Option X) → IsSome found → IsThere found (λ x. Unit {0})
some_there None none = absurd cc
some_there (Some x) some = record { it = x; is = refl; fact = tt }

-- what is found passes, and where none is found none passes
find_here : {X : Type 0} (test : X → Bool) (y x : X) (rest : Option X) (b : Bool) → test y ≡ b → (rest ≡ Some x → test x ≡ true) → cond b (Some y) rest ≡ Some x → test x ≡ true
find_here test y x rest true is later found = subst (λ z. test z ≡ true) (same_Some y x found) is
find_here test y x rest false is later found = later found

pub find_passes : {X : Type 0} (test : X → Bool) (xs : List X) (x : X) → find test xs ≡ Some x → test x ≡ true
find_passes test [] x found = absurd (none-some x found)
find_passes test (y ∷ xs) x found = find_here test y x (find test xs) (test y) refl (λ later. find_passes test xs x later) found

find_not_here : {X : Type 0} (y : X) (rest : Option X) (b : Bool) → cond b (Some y) rest ≡ None → (b ≡ false) × (rest ≡ None)
find_not_here y rest true none = absurd (none-some y (sym none))
find_not_here y rest false none = (refl, none)

pub find_misses : {X : Type 0} (test : X → Bool) (xs : List X) (i : ℕ) (d : X) → find test xs ≡ None → i < length xs → test (get_or xs i d) ≡ false
find_misses test [] i d none within = absurd (omega arith)
find_misses test (y ∷ xs) zero d none within = (find_not_here y (find test xs) (test y) none).0
find_misses test (y ∷ xs) (suc i) d none within = find_misses test xs i d (find_not_here y (find test xs) (test y) none).1 (omega arith)

pub none_passes : {X : Type 0} (test : X → Bool) (xs : List X) → find test xs ≡ None → list_any test xs ≡ false
none_passes test xs none = list_any_none test xs (λ k d within. find_misses test xs k d none within)

-- a list with one that passes is what stands before it, it, and what stands after it
pub find_splits : {X : Type 0} (test : X → Bool) (xs : List X) (x : X) → find test xs ≡ Some x → xs ≡ before_first test xs ++ x ∷ after_first test xs
find_splits test xs x found =
    let place = position_or_len test xs in
    let there : slice_get xs place ≡ Some x = sym (find_at test xs) ∙ found in
    let within : place < length xs = slice_get_within xs place x there in
    let is : get_or xs place x ≡ x = get_or_from_slice_get xs place x x there in
    sym (take-append-drop place xs) ∙ ap (λ l. take place xs ++ l) (drop_more xs place x within) ∙ ap (λ y. take place xs ++ y ∷ drop (place + 1) xs) is

-- where none passes, none passes without the one in the middle
pub any_cut : {X : Type 0} (test : X → Bool) (front back : List X) (x : X) → list_any test (front ++ x ∷ back) ≡ false → (test x ≡ false) × (list_any test (front ++ back) ≡ false)
any_cut test [] back x none = or_parts (test x) (list_any test back) none
any_cut test (y ∷ front) back x none =
    let parts = or_parts (test y) (list_any test (front ++ x ∷ back)) none in
    let rest = any_cut test front back x parts.1 in
    (rest.0, rw (parts.0, rest.1) refl)
