-- The values that keys have in lists of elements or entries, and what a change of one key does to them.
use Rattle.std.proofs.Common.{◌≡◌, ℕ, suc, ◌+◌, ◌≤◌, Bool, true, false, not, cond, List, [], ◌∷◌, ◌++◌, length, take, drop, Option, Some, None, refl, ap, sym, ◌∙◌, subst, arith, length-append}
use Rattle.std.specs.Prelude.{bytes_eq, find, filter}
use Rattle.std.specs.List.{before_first, after_first, position_or_len}
use Rattle.std.proofs.lemmas.Bool.{cond_both, not-true, not-false}
use Rattle.std.proofs.lemmas.Slice.Eq.{bytes_eq-Decides}

-- the values of each element that holds a key
abbrev pub hits : {X : Type 0} → (X → List ℕ) → (X → List (List ℕ)) → List ℕ → List X → List (List (List ℕ))
hits key_of values_of key [] = []
hits key_of values_of key (x ∷ xs) =
    cond (bytes_eq (key_of x) key) (values_of x ∷ hits key_of values_of key xs) (hits key_of values_of key xs)

-- what holds of two pairs of values, each where it is chosen, holds of the pair that is
pub both : {A B : Type 0} (R : A → B → Type 0) (choice : Bool) (x y : A) (z w : B) → (choice ≡ true → R x z) → (choice ≡ false → R y w) → R (cond choice x y) (cond choice z w)
both R true x y z w first second = first refl
both R false x y z w first second = second refl

pub hit : {X : Type 0} (key_of : X → List ℕ) (values_of : X → List (List ℕ)) (key : List ℕ) (x : X) (xs : List X) → bytes_eq (key_of x) key ≡ true → hits key_of values_of key (x ∷ xs) ≡ values_of x ∷ hits key_of values_of key xs
hit key_of values_of key x xs same = rw same refl

miss : {X : Type 0} (key_of : X → List ℕ) (values_of : X → List (List ℕ)) (key : List ℕ) (x : X) (xs : List X) → bytes_eq (key_of x) key ≡ false → hits key_of values_of key (x ∷ xs) ≡ hits key_of values_of key xs
miss key_of values_of key x xs differs = rw differs refl

-- an element holds one key
other_key : (a key other : List ℕ) → bytes_eq a key ≡ true → bytes_eq key other ≡ false → bytes_eq a other ≡ false
other_key a key other same differ =
    let equal : a ≡ key = (bytes_eq-Decides a key).0 same in
    ap (λ k. bytes_eq k other) equal ∙ differ

-- a list without the first that passes
abbrev out : {X : Type 0} → (X → Bool) → List X → List X
out test [] = []
out test (x ∷ xs) = cond (test x) xs (x ∷ out test xs)

one_more : (n : ℕ) → 1 + n ≡ suc n
one_more n = omega arith

later : (n : ℕ) → (1 + n) + 1 ≡ suc (n + 1)
later n = omega arith

out_is : {X : Type 0} (test : X → Bool) (xs : List X) → before_first test xs ++ after_first test xs ≡ out test xs
out_is test [] = refl
out_is test (x ∷ xs) =
    elim (test x) as (λ b. take (cond (not b) (1 + position_or_len test xs) 0) (x ∷ xs) ++ drop (cond (not b) (1 + position_or_len test xs) 0 + 1) (x ∷ xs) ≡ cond b xs (x ∷ out test xs)) [
      | true ↦ refl
      | false ↦
          ap (λ n. take n (x ∷ xs) ++ drop (1 + position_or_len test xs + 1) (x ∷ xs)) (one_more (position_or_len test xs))
          ∙ ap (λ n. (x ∷ take (position_or_len test xs) xs) ++ drop n (x ∷ xs)) (later (position_or_len test xs))
          ∙ ap (λ rest. x ∷ rest) (out_is test xs)
    ]

out_here : {X : Type 0} (key_of : X → List ℕ) (values_of : X → List (List ℕ)) (key : List ℕ) (xs : List X) → hits key_of values_of key (out (λ x. bytes_eq (key_of x) key) xs) ≡ drop 1 (hits key_of values_of key xs)
out_here key_of values_of key [] = refl
out_here {X = X} key_of values_of key (x ∷ xs) =
    both (λ (left : List X) (held : List (List (List ℕ))). hits key_of values_of key left ≡ drop 1 held) (bytes_eq (key_of x) key) _ _ _ _ (λ same. refl)
    (λ differs. miss key_of values_of key x _ differs ∙ out_here key_of values_of key xs)

out_elsewhere : {X : Type 0} (key_of : X → List ℕ) (values_of : X → List (List ℕ)) (key other : List ℕ) (xs : List X) → bytes_eq key other ≡ false → hits key_of values_of other (out (λ x. bytes_eq (key_of x) key) xs) ≡ hits key_of values_of other xs
out_elsewhere key_of values_of key other [] differ = refl
out_elsewhere {X = X} key_of values_of key other (x ∷ xs) differ =
    cond_both (bytes_eq (key_of x) key) _ _ (λ (left : List X). hits key_of values_of other left ≡ hits key_of values_of other (x ∷ xs))
    (λ same. sym (miss key_of values_of other x xs (other_key (key_of x) key other same differ)))
    (λ differs. ap (λ held. cond (bytes_eq (key_of x) other) (values_of x ∷ held) held) (out_elsewhere key_of values_of key other xs differ))

out_count : {X : Type 0} (key_of : X → List ℕ) (values_of : X → List (List ℕ)) (key : List ℕ) (xs : List X) → length (hits key_of values_of key xs) ≤ 1 → length (out (λ x. bytes_eq (key_of x) key) xs) + length (hits key_of values_of key xs) ≡ length xs
out_count key_of values_of key [] once = refl
out_count {X = X} key_of values_of key (x ∷ xs) once =
    both (λ (left : List X) (held : List (List (List ℕ))). length held ≤ 1 → length left + length held ≡ suc (length xs)) (bytes_eq (key_of x) key) _ _ _ _ (λ same few. omega arith)
    (λ differs few. omega (arith, out_count key_of values_of key xs few)) once

-- a list without all that pass
kept_here : {X : Type 0} (key_of : X → List ℕ) (values_of : X → List (List ℕ)) (key : List ℕ) (xs : List X) → hits key_of values_of key (filter (λ x. not (bytes_eq (key_of x) key)) xs) ≡ []
kept_here key_of values_of key [] = refl
kept_here {X = X} key_of values_of key (x ∷ xs) =
    cond_both (not (bytes_eq (key_of x) key)) _ _ (λ (left : List X). hits key_of values_of key left ≡ [])
    (λ differs. miss key_of values_of key x _ (not-true _ differs) ∙ kept_here key_of values_of key xs) (λ same. kept_here key_of values_of key xs)

kept_elsewhere : {X : Type 0} (key_of : X → List ℕ) (values_of : X → List (List ℕ)) (key other : List ℕ) (xs : List X) → bytes_eq key other ≡ false → hits key_of values_of other (filter (λ x. not (bytes_eq (key_of x) key)) xs) ≡ hits key_of values_of other xs
kept_elsewhere key_of values_of key other [] differ = refl
kept_elsewhere {X = X} key_of values_of key other (x ∷ xs) differ =
    cond_both (not (bytes_eq (key_of x) key)) _ _ (λ (left : List X). hits key_of values_of other left ≡ hits key_of values_of other (x ∷ xs))
    (λ differs. ap (λ held. cond (bytes_eq (key_of x) other) (values_of x ∷ held) held) (kept_elsewhere key_of values_of key other xs differ))
    (λ same. kept_elsewhere key_of values_of key other xs differ ∙ sym (miss key_of values_of other x xs (other_key (key_of x) key other (not-false _ same) differ)))

kept_count : {X : Type 0} (key_of : X → List ℕ) (values_of : X → List (List ℕ)) (key : List ℕ) (xs : List X) → length (filter (λ x. not (bytes_eq (key_of x) key)) xs) + length (hits key_of values_of key xs) ≡ length xs
kept_count key_of values_of key [] = refl
kept_count key_of values_of key (x ∷ xs) =
    elim (bytes_eq (key_of x) key) as (λ b. length (cond (not b) (x ∷ filter (λ x. not (bytes_eq (key_of x) key)) xs) (filter (λ x. not (bytes_eq (key_of x) key)) xs)) + length (cond b (values_of x ∷ hits key_of values_of key xs) (hits key_of values_of key xs)) ≡ suc (length xs)) [
      | true ↦ omega (arith, kept_count key_of values_of key xs)
      | false ↦ omega (arith, kept_count key_of values_of key xs)
    ]

-- What a change of a key leaves: the key has these values, the other keys have theirs, and the list is as much longer.
pub record Turned {X : Type 0} (key_of : X → List ℕ) (values_of : X → List (List ℕ)) (key : List ℕ) (held : List (List (List ℕ))) (old new : List X) : Type 0 where
  pub here : hits key_of values_of key new ≡ held
  pub elsewhere : (other : List ℕ) → bytes_eq key other ≡ false → hits key_of values_of other new ≡ hits key_of values_of other old
  pub count : length new + length (hits key_of values_of key old) ≡ length old + length held

none_after_first : (held : List (List (List ℕ))) → length held ≤ 1 → drop 1 held ≡ []
none_after_first [] once = refl
none_after_first (values ∷ []) once = refl
none_after_first (values ∷ more ∷ held) once = absurd (omega arith)

pub taken_first : {X : Type 0} (key_of : X → List ℕ) (values_of : X → List (List ℕ)) (key : List ℕ) (xs : List X) → length (hits key_of values_of key xs) ≤ 1
    → Turned key_of values_of key [] xs (before_first (λ x. bytes_eq (key_of x) key) xs ++ after_first (λ x. bytes_eq (key_of x) key) xs)
taken_first key_of values_of key xs once =
    subst (Turned key_of values_of key [] xs) (sym (out_is (λ x. bytes_eq (key_of x) key) xs)) (record {
      here = out_here key_of values_of key xs ∙ none_after_first (hits key_of values_of key xs) once;
      elsewhere = λ other differ. out_elsewhere key_of values_of key other xs differ;
      count = omega (arith, out_count key_of values_of key xs once);
    })

pub taken_all : {X : Type 0} (key_of : X → List ℕ) (values_of : X → List (List ℕ)) (key : List ℕ) (xs : List X) → Turned key_of values_of key [] xs (filter (λ x. not (bytes_eq (key_of x) key)) xs)
taken_all key_of values_of key xs = record {
  here = kept_here key_of values_of key xs;
  elsewhere = λ other differ. kept_elsewhere key_of values_of key other xs differ;
  count = omega (arith, kept_count key_of values_of key xs);
}

-- where the key isn't there, nothing changes
pub taken_none : {X : Type 0} (key_of : X → List ℕ) (values_of : X → List (List ℕ)) (key : List ℕ) (xs : List X) → hits key_of values_of key xs ≡ [] → Turned key_of values_of key [] xs xs
taken_none key_of values_of key xs none = record {
  here = none;
  elsewhere = λ other differ. refl;
  count = omega (arith, ap length none);
}

pub hits-append : {X : Type 0} (key_of : X → List ℕ) (values_of : X → List (List ℕ)) (key : List ℕ) (xs ys : List X) → hits key_of values_of key (xs ++ ys) ≡ hits key_of values_of key xs ++ hits key_of values_of key ys
hits-append key_of values_of key [] ys = refl
hits-append key_of values_of key (x ∷ xs) ys =
    elim (bytes_eq (key_of x) key) as (λ b. cond b (values_of x ∷ hits key_of values_of key (xs ++ ys)) (hits key_of values_of key (xs ++ ys)) ≡ cond b (values_of x ∷ hits key_of values_of key xs) (hits key_of values_of key xs) ++ hits key_of values_of key ys) [
      | true ↦ ap (λ held. values_of x ∷ held) (hits-append key_of values_of key xs ys)
      | false ↦ hits-append key_of values_of key xs ys
    ]

around_none : (first second : List (List (List ℕ))) (values : List (List ℕ)) → first ++ second ≡ [] → first ++ values ∷ second ≡ values ∷ []
around_none [] second values none = ap (λ held. values ∷ held) none
around_none (x ∷ first) second values none = cc

-- an element that holds the key, somewhere in a list without the key
pub put_in : {X : Type 0} (key_of : X → List ℕ) (values_of : X → List (List ℕ)) (key : List ℕ) (old before after : List X) (x : X) → bytes_eq (key_of x) key ≡ true → Turned key_of values_of key [] old (before ++ after)
    → Turned key_of values_of key (values_of x ∷ []) old (before ++ x ∷ after)
put_in key_of values_of key old before after x holds left = record {
  here =
      hits-append key_of values_of key before (x ∷ after) ∙ ap (λ held. hits key_of values_of key before ++ held) (hit key_of values_of key x after holds)
      ∙ around_none (hits key_of values_of key before) (hits key_of values_of key after) (values_of x) (sym (hits-append key_of values_of key before after) ∙ left.here);
  elsewhere = λ other differ.
      hits-append key_of values_of other before (x ∷ after) ∙ ap (λ held. hits key_of values_of other before ++ held) (miss key_of values_of other x after (other_key (key_of x) key other holds differ))
      ∙ sym (hits-append key_of values_of other before after) ∙ left.elsewhere other differ;
  count = omega (arith, left.count, length-append before (x ∷ after), length-append before after);
}

-- what a look-up of the key finds
abbrev pub Finds : {X : Type 0} → (X → List (List ℕ)) → Option X → List (List (List ℕ)) → Type 0
Finds values_of None held = held ≡ []
Finds values_of (Some x) held = held ≡ values_of x ∷ []

none_in : (held : List (List (List ℕ))) → suc (length held) ≤ 1 → held ≡ []
none_in [] once = refl
none_in (values ∷ held) once = absurd (omega arith)

pub finds : {X : Type 0} (key_of : X → List ℕ) (values_of : X → List (List ℕ)) (key : List ℕ) (xs : List X) → length (hits key_of values_of key xs) ≤ 1
    → Finds values_of (find (λ x. bytes_eq (key_of x) key) xs) (hits key_of values_of key xs)
finds key_of values_of key [] once = refl
finds {X = X} key_of values_of key (x ∷ xs) once =
    both (λ (found : Option X) (held : List (List (List ℕ))). length held ≤ 1 → Finds values_of found held) (bytes_eq (key_of x) key) _ _ _ _
    (λ same few. ap (λ held. values_of x ∷ held) (none_in (hits key_of values_of key xs) few)) (λ differs few. finds key_of values_of key xs few) once
