-- What next key answers: the key that follows in the order of buckets, where each key is in its own bucket.
use Rattle.std.proofs.Common.{◌≡◌, ◌≢◌, ℕ, suc, ◌+◌, ◌-◌, ◌<◌, Bool, true, false, not, cond, List, [], ◌∷◌, ◌++◌, drop, Option, Some, None, is_some, refl, ap, sym, ◌∙◌, arith}
use Rattle.std.specs.Prelude.{bytes_eq, find}
use Rattle.std.specs.List.{AllByRecursion, flat_map, range_with_len, after_first, position_or_len}
use Rattle.std.specs.Option.{option_or}
use Rattle.std.proofs.lemmas.Grind.{flat_map-append}
use Rattle.std.proofs.lemmas.List.Folds.{find-append}
use Rattle.std.proofs.lemmas.Option.{none-some}
use Rattle.std.proofs.lemmas.Slice.Eq.{bytes_eq-Decides}
use Rattle.key_hash.proofs.Buckets.{bucket_number-lt}
use Rattle.key_hash.specs.Jhash.{hash}
use Rattle.map_types.specs.Shape.{HasBounds}
use Rattle.map_types.specs.declared.attr.Shape.{Shape}
use Rattle.map_types.specs.Stored.{Stored}
use Rattle.place_words.specs.Bodies.{has_key, present, first_key, next_key}
use Rattle.place_words.specs.Logs.{State, bucket_at, Does, first_does, first_or, firsts, following, found_next, goes_on, next_does}
use Rattle.place_words.specs.Turns.{Turn, bucket_of_key}
use Rattle.place_words.specs.Walks.{buckets_from}
use Rattle.place_words.proofs.EachTurn.{AreWithin, first_within, others_within, range_within, buckets_within}
use Rattle.map_report.specs.Serial.{in_order, key_after, key_or_absent}
use Rattle.serial_laws.proofs.EachOnceOpening.{range-append}

-- A list behind its first that passes

one_more : (n : ℕ) → (1 + n) + 1 ≡ suc (n + 1)
one_more n = omega arith

pub after_cons : {X : Type 0} (test : X → Bool) (x : X) (xs : List X) → after_first test (x ∷ xs) ≡ cond (test x) xs (after_first test xs)
after_cons test x xs =
    elim (test x) as (λ b. drop (cond (not b) (1 + position_or_len test xs) 0 + 1) (x ∷ xs) ≡ cond b xs (after_first test xs)) [
      | true ↦ refl
      | false ↦ ap (λ n. drop n (x ∷ xs)) (one_more (position_or_len test xs))
    ]

-- where none of the first passes
pub after_none : {X : Type 0} (test : X → Bool) (xs ys : List X) → find test xs ≡ None → after_first test (xs ++ ys) ≡ after_first test ys
after_none test [] ys none = refl
after_none test (x ∷ xs) ys none =
    after_cons test x (xs ++ ys)
    ∙ (elim (test x) as (λ b. cond b (Some x) (find test xs) ≡ None → cond b (xs ++ ys) (after_first test (xs ++ ys)) ≡ after_first test ys) [
      | true ↦ λ some. absurd (none-some x (sym some))
      | false ↦ λ rest. after_none test xs ys rest
    ] none)

-- and where one does
after_some : {X : Type 0} (test : X → Bool) (xs ys : List X) (y : X) → find test xs ≡ Some y → after_first test (xs ++ ys) ≡ after_first test xs ++ ys
after_some test [] ys y some = absurd (none-some y some)
after_some test (x ∷ xs) ys y some =
    after_cons test x (xs ++ ys)
    ∙ (elim (test x) as (λ b. cond b (Some x) (find test xs) ≡ Some y → cond b (xs ++ ys) (after_first test (xs ++ ys)) ≡ cond b xs (after_first test xs) ++ ys) [
      | true ↦ λ here. refl
      | false ↦ λ rest. after_some test xs ys y rest
    ] some)
    ∙ ap (λ l. l ++ ys) (sym (after_cons test x xs))

-- Keys in their buckets

-- the keys of bodies are those of a bucket
abbrev pub AreOwn : Shape → ℕ → List Stored → Type 0
AreOwn shape bucket bodies = AllByRecursion (λ (stored : Stored). bucket_of_key shape stored.key ≡ bucket) bodies

pub none_there : (shape : Shape) (key : List ℕ) (bucket : ℕ) (bodies : List Stored) → AreOwn shape bucket bodies → bucket_of_key shape key ≢ bucket → present key bodies ≡ None
none_there shape key bucket [] own apart = refl
none_there shape key bucket (body ∷ bodies) own apart =
    elim (bytes_eq body.key key) as (λ b. bytes_eq body.key key ≡ b → cond b (Some body) (present key bodies) ≡ None) [
      | true ↦ λ same. absurd (apart (ap (bucket_of_key shape) (sym ((bytes_eq-Decides body.key key).0 same)) ∙ own.0))
      | false ↦ λ other. none_there shape key bucket bodies own.1 apart
    ] refl

or_none : (a b : Option Stored) → a ≡ None → b ≡ None → option_or a b ≡ None
or_none a b first second = ap (λ x. option_or x b) first ∙ second

-- nor in any of some other buckets
module _ (shape : Shape) (lie : ℕ → List Stored) (own : (bucket : ℕ) → bucket < shape.buckets → AreOwn shape bucket (lie bucket)) where
  abbrev IsOther : List ℕ → ℕ → Type 0
  IsOther key bucket = (bucket < shape.buckets) × (bucket_of_key shape key ≢ bucket)

  pub none_among : (key : List ℕ) (buckets : List ℕ) → AreWithin (IsOther key) buckets → present key (flat_map lie buckets) ≡ None
  none_among key [] within = refl
  none_among key (bucket ∷ buckets) within =
      let here : IsOther key bucket = first_within (IsOther key) bucket buckets within in
      find-append (has_key key) (lie bucket) (flat_map lie buckets)
      ∙ or_none (present key (lie bucket)) (present key (flat_map lie buckets))
      (none_there shape key bucket (lie bucket) (own bucket here.0) here.1)
      (none_among key buckets (others_within (IsOther key) bucket buckets within))

-- the buckets before that of a key, it, and those behind
pub buckets_split : (shape : Shape) (bucket : ℕ) → bucket < shape.buckets → buckets_from shape 0 ≡ range_with_len 0 bucket ++ bucket ∷ buckets_from shape (bucket + 1)
buckets_split shape bucket below =
    let count : ℕ = shape.buckets - (bucket + 1) in
    let start : 0 + bucket ≡ bucket = omega arith in
    let all : bucket + suc count ≡ shape.buckets - 0 = omega (arith, below) in
    ap (range_with_len 0) (sym all) ∙ sym (range-append 0 bucket (suc count)) ∙ ap (λ s. range_with_len 0 bucket ++ range_with_len s (suc count)) start

module _ (shape : Shape) (bounds : HasBounds shape) (lie : ℕ → List Stored) (own : (bucket : ℕ) → bucket < shape.buckets → AreOwn shape bucket (lie bucket)) where
  bucket_below : (key : List ℕ) → bucket_of_key shape key < shape.buckets
  bucket_below key = bucket_number-lt (hash key shape.seed) shape.buckets bounds.buckets_power

  abbrev before_key : List ℕ → List Stored
  before_key key = flat_map lie (range_with_len 0 (bucket_of_key shape key))

  abbrev behind_key : List ℕ → List Stored
  behind_key key = flat_map lie (buckets_from shape (bucket_of_key shape key + 1))

  pub order_split : (key : List ℕ) → in_order shape lie ≡ before_key key ++ (lie (bucket_of_key shape key) ++ behind_key key)
  order_split key =
      ap (flat_map lie) (buckets_split shape (bucket_of_key shape key) (bucket_below key))
      ∙ flat_map-append lie (range_with_len 0 (bucket_of_key shape key)) (bucket_of_key shape key ∷ buckets_from shape (bucket_of_key shape key + 1))

  pub none_before : (key : List ℕ) → present key (before_key key) ≡ None
  none_before key =
      none_among shape lie own key (range_with_len 0 (bucket_of_key shape key))
      (λ bucket there. let bound = (range_within 0 (bucket_of_key shape key) bucket there).1 in (omega (arith, bound, bucket_below key), λ same. absurd (omega (arith, bound, same))))

  pub none_behind : (key : List ℕ) → present key (behind_key key) ≡ None
  none_behind key =
      let from : ℕ = bucket_of_key shape key + 1 in
      none_among shape lie own key (buckets_from shape from)
      (λ bucket there. let bound = (range_within from (shape.buckets - from) bucket there).0 in (buckets_within shape from bucket there, λ same. absurd (omega (arith, bound, same))))

  or_right : (a b : Option Stored) → a ≡ None → option_or a b ≡ b
  or_right a b none = ap (λ x. option_or x b) none

  or_left : (a b : Option Stored) → b ≡ None → option_or a b ≡ a
  or_left None b none = none
  or_left (Some x) b none = refl

  -- a key is there where it is in its bucket
  pub present_in_order : (key : List ℕ) → present key (in_order shape lie) ≡ present key (lie (bucket_of_key shape key))
  present_in_order key =
      let here : List Stored = lie (bucket_of_key shape key) in
      ap (present key) (order_split key)
      ∙ find-append (has_key key) (before_key key) (here ++ behind_key key)
      ∙ or_right (present key (before_key key)) (present key (here ++ behind_key key)) (none_before key)
      ∙ find-append (has_key key) here (behind_key key)
      ∙ or_left (present key here) (present key (behind_key key)) (none_behind key)

  -- and what is behind it in its bucket is there before all later buckets
  pub behind_in_order : (key : List ℕ) (stored : Stored) → present key (lie (bucket_of_key shape key)) ≡ Some stored
      → after_first (has_key key) (in_order shape lie) ≡ after_first (has_key key) (lie (bucket_of_key shape key)) ++ behind_key key
  behind_in_order key stored is =
      let here : List Stored = lie (bucket_of_key shape key) in
      ap (after_first (has_key key)) (order_split key)
      ∙ after_none (has_key key) (before_key key) (here ++ behind_key key) (none_before key)
      ∙ after_some (has_key key) here (behind_key key) stored is

-- Replies

-- the first key of some buckets
first_split : (turns : List Turn) (here rest : List Stored) (later : Does) → later.reply ≡ key_or_absent (first_key rest) → (first_does turns (first_or (first_key here) later)).reply ≡ key_or_absent (first_key (here ++ rest))
first_split turns [] rest later is = is
first_split turns (body ∷ here) rest later is = refl

module _ (shape : Shape) (state : State) where
  pub firsts_reply : (buckets : List ℕ) → (firsts shape state buckets).reply ≡ key_or_absent (first_key (flat_map (bucket_at shape state) buckets))
  firsts_reply [] = refl
  firsts_reply (bucket ∷ buckets) = first_split [] (bucket_at shape state bucket) (flat_map (bucket_at shape state) buckets) (firsts shape state buckets) (firsts_reply buckets)

  abbrev later_bodies : List ℕ → List Stored
  later_bodies key = flat_map (bucket_at shape state) (buckets_from shape (bucket_of_key shape key + 1))

  behind_reply : (key : List ℕ) (rest : List Stored) → (goes_on shape state key (following (first_key rest))).reply ≡ key_or_absent (first_key (rest ++ later_bodies key))
  behind_reply key [] = firsts_reply (buckets_from shape (bucket_of_key shape key + 1))
  behind_reply key (body ∷ rest) = refl

  found_reply : (key : List ℕ) (found : Option Stored) → present key (bucket_at shape state (bucket_of_key shape key)) ≡ found → HasBounds shape → ((bucket : ℕ) → bucket < shape.buckets → AreOwn shape bucket (bucket_at shape state bucket))
      → (goes_on shape state key (found_next key (bucket_at shape state (bucket_of_key shape key)) found)).reply
      ≡ key_or_absent (cond (is_some found) (next_key key (in_order shape (bucket_at shape state))) (first_key (in_order shape (bucket_at shape state))))
  found_reply key None is bounds own = firsts_reply (buckets_from shape 0)
  found_reply key (Some stored) is bounds own =
      behind_reply key (after_first (has_key key) (bucket_at shape state (bucket_of_key shape key)))
      ∙ ap (λ l. key_or_absent (first_key l)) (sym (behind_in_order shape bounds (bucket_at shape state) own key stored is))

  -- Next key answers the key that follows in the order of buckets.
  pub next_reply : HasBounds shape → ((bucket : ℕ) → bucket < shape.buckets → AreOwn shape bucket (bucket_at shape state bucket)) → (key : Option (List ℕ))
      → (next_does shape state key).reply ≡ key_or_absent (key_after key (in_order shape (bucket_at shape state)))
  unfolding next_does
  next_reply bounds own None = firsts_reply (buckets_from shape 0)
  next_reply bounds own (Some key) =
      let lie : ℕ → List Stored = bucket_at shape state in
      found_reply key (present key (lie (bucket_of_key shape key))) refl bounds own
      ∙ ap (λ found. key_or_absent (cond (is_some found) (next_key key (in_order shape lie)) (first_key (in_order shape lie)))) (sym (present_in_order shape bounds lie own key))
