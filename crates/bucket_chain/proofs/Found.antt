-- Where an element is found, and that it isn't.
use Rattle.std.proofs.Common.{◌≡◌, ℕ, zero, suc, ◌+◌, ◌<◌, ◌≤◌, Bool, true, false, not, cond, List, [], ◌∷◌, ◌++◌, length, drop, get_or, refl, ap, sym, ◌∙◌, arith}
use Rattle.std.specs.Prelude.{remove, position, find, slice_get, nat_lt, None, Some}
use Rattle.std.specs.List.{list_any, position_or_len, before_first, after_first}
use Rattle.std.proofs.lemmas.Bool.{ltb-false}
use Rattle.std.proofs.lemmas.List.Folds.{list_any_none}
use Rattle.std.proofs.lemmas.List.Sums.{fails_before_first}
use Rattle.std.proofs.lemmas.List.{get_or-map}
use Rattle.std.proofs.lemmas.List.Quantifiers.{position-Some}
use Rattle.std.proofs.lemmas.Slice.Eq.{bytes_eq-Decides}
use Rattle.map_types.specs.Stored.{Stored}
use Rattle.place_words.specs.Bodies.{has_key}
use Rattle.bucket_chain.specs.Places.{key_at}

some_if : (b : Bool) (x y : ℕ) → cond b (Some x) None ≡ Some y → (b ≡ true) × (x ≡ y)
some_if true x y some = (refl, cc)
some_if false x y some = cc

none_if : (b : Bool) (x : ℕ) → cond b (Some x) None ≡ None → b ≡ false
none_if true x none = cc
none_if false x none = refl

one_more : (n : ℕ) → 1 + n ≡ suc n
one_more n = omega arith

-- the first that passes is at its place, also where none does
pub find_at : {X : Type 0} (test : X → Bool) (xs : List X) → find test xs ≡ slice_get xs (position_or_len test xs)
find_at test [] = refl
find_at test (x ∷ xs) =
    elim (test x) as (λ b. cond b (Some x) (find test xs) ≡ slice_get (x ∷ xs) (cond (not b) (1 + position_or_len test xs) 0)) [
      | true ↦ refl
      | false ↦ find_at test xs ∙ sym (ap (slice_get (x ∷ xs)) (one_more (position_or_len test xs)))
    ]

pub position_none : {X : Type 0} (test : X → Bool) (xs : List X) → position test xs ≡ None → length xs ≤ position_or_len test xs
position_none test xs none =
    ltb-false (position_or_len test xs) (length xs) (none_if (nat_lt (position_or_len test xs) (length xs)) (position_or_len test xs) none)

pub position_some : {X : Type 0} (test : X → Bool) (xs : List X) (i : ℕ) → position test xs ≡ Some i → i ≡ position_or_len test xs
position_some test xs i some =
    sym (some_if (nat_lt (position_or_len test xs) (length xs)) (position_or_len test xs) i some).1

slice_get_past : {X : Type 0} (xs : List X) (i : ℕ) → length xs ≤ i → slice_get xs i ≡ None
slice_get_past [] i past = refl
slice_get_past (x ∷ xs) zero past = absurd (omega arith)
slice_get_past (x ∷ xs) (suc i) past = slice_get_past xs i (omega arith)

pub find_none : {X : Type 0} (test : X → Bool) (xs : List X) → position test xs ≡ None → find test xs ≡ None
find_none test xs none =
    find_at test xs ∙ slice_get_past xs (position_or_len test xs) (position_none test xs none)

pub find_some : {X : Type 0} (test : X → Bool) (xs : List X) (i : ℕ) → position test xs ≡ Some i → slice_get xs i ≡ find test xs
find_some test xs i some = ap (slice_get xs) (position_some test xs i some) ∙ sym (find_at test xs)

-- without the first that passes
pub rest_some : {X : Type 0} (test : X → Bool) (xs : List X) (i : ℕ) → position test xs ≡ Some i → remove xs i ≡ before_first test xs ++ after_first test xs
rest_some test xs i some =
    let next : suc (position_or_len test xs) ≡ position_or_len test xs + 1 = omega arith in
    ap (remove xs) (position_some test xs i some) ∙ ap (λ k. before_first test xs ++ drop k xs) next

-- where none is found, none passes
pub none_passes : {X : Type 0} (test : X → Bool) (xs : List X) → position test xs ≡ None → list_any test xs ≡ false
none_passes test xs none =
    let past = position_none test xs none in
    list_any_none test xs (λ k d within. fails_before_first test xs k d (omega arith))

-- the key that is looked for stands at its place
pub key_found : (key : List ℕ) (bodies : List Stored) (place : ℕ) → position (has_key key) bodies ≡ Some place → (place < length bodies) × (key_at place bodies ≡ key)
key_found key bodies place found =
    let blank : Stored = record { element = 0; key = []; values = [] } in
    let parts = position-Some (has_key key) bodies place blank found in
    let within : place < length bodies = parts.0 in
    let same : (get_or bodies place blank).key ≡ key = (bytes_eq-Decides (get_or bodies place blank).key key).0 parts.1 in
    (within, get_or-map (λ (body : Stored). body.key) bodies place blank [] within ∙ same)
