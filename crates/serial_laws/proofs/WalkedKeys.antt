-- Next key over a map that nobody changes gives each key once.
use Rattle.std.proofs.Common.{◌≡◌, ℕ, zero, suc, ◌+◌, ◌-◌, ◌<◌, ◌≤◌, Bool, true, false, cond, ◌||◌, List, [], ◌∷◌, ◌++◌, map, Option, Some, None, is_some, refl, ap, sym, ◌∙◌, subst, arith, append_assoc}
use Rattle.std.specs.Prelude.{bytes_eq, filter, option_to_list}
use Rattle.std.specs.List.{AllByRecursion, flat_map, range_with_len, list_any, after_first}
use Rattle.std.specs.Option.{option_or}
use Rattle.std.proofs.lemmas.Bool.{true≢false}
use Rattle.std.proofs.lemmas.List.Folds.{find-append, list_any-append}
use Rattle.std.proofs.lemmas.Option.{none-some}
use Rattle.std.proofs.lemmas.Slice.Eq.{bytes_eq-Decides}
use Rattle.map_types.specs.Shape.{HasBounds}
use Rattle.map_types.specs.Stored.{Stored}
use Rattle.map_types.specs.declared.attr.Shape.{Shape}
use Rattle.map_types.specs.declared.call.Verb.TheVariants.{Next}
use Rattle.place_words.specs.Bodies.{has_key, present, HasDistinctKeys, first_key, next_key}
use Rattle.place_words.specs.Logs.{bucket_at, does}
use Rattle.place_words.specs.Turns.{bucket_of_key}
use Rattle.place_words.specs.Walks.{buckets_from}
use Rattle.place_words.proofs.EachTurn.{AreWithin, first_within, others_within, range_within, buckets_within}
use Rattle.place_words.proofs.Splits.{none_passes}
use Rattle.map_report.specs.Serial.{in_order, key_after, key_or_absent}
use Rattle.serial_laws.specs.WalkLaws.{Moment, answer_at, Holds, GivesKeys}
use Rattle.serial_laws.proofs.NextKey.{AreOwn, none_among, next_reply, after_none, after_cons, present_in_order}

-- each key lies in its own bucket, and none twice
pub record HaveOwnKeys (shape : Shape) (lie : ℕ → List Stored) : Type 0 where
  pub own : (bucket : ℕ) → bucket < shape.buckets → AreOwn shape bucket (lie bucket)
  pub distinct : (bucket : ℕ) → bucket < shape.buckets → HasDistinctKeys (lie bucket)

-- Distinct keys

distinct_append : (front back : List Stored) → HasDistinctKeys front → HasDistinctKeys back → AllByRecursion (λ (body : Stored). list_any (has_key body.key) back ≡ false) front → HasDistinctKeys (front ++ back)
distinct_append [] back first second apart = second
distinct_append (body ∷ front) back first second apart = (
  list_any-append (has_key body.key) front back ∙ (λ i. first.0 i || apart.0 i),
  distinct_append front back first.1 second apart.1,
)

-- what lies in buckets from one on
module _ (shape : Shape) (lie : ℕ → List Stored) (keys : HaveOwnKeys shape lie) where
  -- no key of a bucket is in a later one
  apart_from : (bucket count : ℕ) → bucket + suc count ≤ shape.buckets → (bodies : List Stored) → AreOwn shape bucket bodies → AllByRecursion (λ (body : Stored). list_any (has_key body.key) (flat_map lie (range_with_len (bucket + 1) count)) ≡ false) bodies
  apart_from bucket count most [] own = tt
  apart_from bucket count most (body ∷ bodies) own = (
    none_passes (has_key body.key) (flat_map lie (range_with_len (bucket + 1) count))
        (none_among shape lie keys.own body.key (range_with_len (bucket + 1) count)
        (λ other there. let bound = range_within (bucket + 1) count other there in (omega (arith, bound.1, most), λ same. absurd (omega (arith, bound.0, same, own.0))))),
    apart_from bucket count most bodies own.1,
  )

  distinct_from : (bucket count : ℕ) → bucket + count ≤ shape.buckets → HasDistinctKeys (flat_map lie (range_with_len bucket count))
  distinct_from bucket zero most = tt
  distinct_from bucket (suc count) most =
      let below : bucket < shape.buckets = omega (arith, most) in
      distinct_append (lie bucket) (flat_map lie (range_with_len (bucket + 1) count)) (keys.distinct bucket below) (distinct_from (bucket + 1) count (omega (arith, most)))
      (apart_from bucket count most (lie bucket) (keys.own bucket below))

  pub distinct_in_order : HasDistinctKeys (in_order shape lie)
  distinct_in_order = distinct_from 0 (shape.buckets - 0) (omega arith)

-- The key behind a key

or_second : (a b : Bool) → (a || b) ≡ false → b ≡ false
or_second true b is = absurd cc
or_second false b is = is

differ : (first body : Stored) (bodies rest : List Stored) → bytes_eq first.key body.key ≡ true → list_any (has_key first.key) (bodies ++ body ∷ rest) ≡ false → ⊥
differ first body [] rest same none =
    let equal : first.key ≡ body.key = (bytes_eq-Decides first.key body.key).0 same in
    let holds : bytes_eq body.key first.key ≡ true = (bytes_eq-Decides body.key first.key).1 (sym equal) in
    true≢false (sym (ap (λ b. b || list_any (has_key first.key) rest) holds) ∙ none)
differ first body (other ∷ bodies) rest same none = differ first body bodies rest same (or_second (has_key first.key other) (list_any (has_key first.key) (bodies ++ body ∷ rest)) none)

not_before : (done : List Stored) (body : Stored) (rest : List Stored) → HasDistinctKeys (done ++ body ∷ rest) → present body.key done ≡ None
not_before [] body rest distinct = refl
not_before (first ∷ done) body rest distinct =
    elim (bytes_eq first.key body.key) as (λ b. bytes_eq first.key body.key ≡ b → cond b (Some first) (present body.key done) ≡ None) [
      | true ↦ λ same. absurd (differ first body done rest same distinct.0)
      | false ↦ λ other. not_before done body rest distinct.1
    ] refl

-- where a key stands in the middle, the first behind it follows
key_behind : (done : List Stored) (body : Stored) (rest : List Stored) → HasDistinctKeys (done ++ body ∷ rest) → key_after (Some body.key) (done ++ body ∷ rest) ≡ first_key rest
key_behind done body rest distinct =
    let none : present body.key done ≡ None = not_before done body rest distinct in
    let here : has_key body.key body ≡ true = (bytes_eq-Decides body.key body.key).1 refl in
    let found : present body.key (done ++ body ∷ rest) ≡ Some body =
    find-append (has_key body.key) done (body ∷ rest)
    ∙ ap (λ x. option_or x (present body.key (body ∷ rest))) none ∙ ap (λ b. cond b (Some body) (present body.key rest)) here in
    let behind : after_first (has_key body.key) (done ++ body ∷ rest) ≡ rest =
    after_none (has_key body.key) done (body ∷ rest) none ∙ after_cons (has_key body.key) body rest ∙ ap (λ b. cond b rest (after_first (has_key body.key) rest)) here in
    ap (λ f. cond (is_some f) (next_key body.key (done ++ body ∷ rest)) (first_key (done ++ body ∷ rest))) found ∙ ap first_key behind

-- The walk

-- what lies in the buckets, told at a moment
order_held : (shape : Shape) (lie : ℕ → List Stored) (moment : Moment) → Holds shape lie moment → (buckets : List ℕ) → AreWithin (λ bucket. bucket < shape.buckets) buckets → flat_map (bucket_at shape moment.state) buckets ≡ flat_map lie buckets
order_held shape lie moment holds [] within = refl
order_held shape lie moment holds (bucket ∷ buckets) within =
    let here = holds bucket (first_within (λ b. b < shape.buckets) bucket buckets within) in
    let rest = order_held shape lie moment holds buckets (others_within (λ b. b < shape.buckets) bucket buckets within) in
    λ i. here i ++ rest i

module _ (shape : Shape) (bounds : HasBounds shape) (lie : ℕ → List Stored) (keys : HaveOwnKeys shape lie) where
  -- next key answers the key that follows
  next_answer : (moment : Moment) → Holds shape lie moment → (from : Option (List ℕ)) → answer_at shape moment (Next from) ≡ key_or_absent (key_after from (in_order shape lie))
  unfolding does
  next_answer moment holds from =
      next_reply shape moment.state bounds (λ bucket below. subst (AreOwn shape bucket) (sym (holds bucket below)) (keys.own bucket below)) from
      ∙ ap (λ l. key_or_absent (key_after from l)) (order_held shape lie moment holds (buckets_from shape 0) (buckets_within shape 0))

  -- from where the first of these follows
  gives_from : (at : ℕ → Moment) → ((n : ℕ) → Holds shape lie (at n)) → (from : Option (List ℕ)) (done rest : List Stored) → in_order shape lie ≡ done ++ rest → key_after from (in_order shape lie) ≡ first_key rest
      → GivesKeys shape at from (map (λ (stored : Stored). stored.key) rest)
  gives_from at holds from done [] is follows = next_answer (at 0) (holds 0) from ∙ ap key_or_absent follows
  gives_from at holds from done (body ∷ rest) is follows =
      let more : in_order shape lie ≡ (done ++ body ∷ []) ++ rest = is ∙ sym (append_assoc done (body ∷ []) rest) in
      let distinct : HasDistinctKeys (done ++ body ∷ rest) = subst HasDistinctKeys is (distinct_in_order shape lie keys) in (
        next_answer (at 0) (holds 0) from ∙ ap key_or_absent follows,
        gives_from (λ n. at (suc n)) (λ n. holds (suc n)) (Some body.key) (done ++ body ∷ []) rest more (ap (key_after (Some body.key)) is ∙ key_behind done body rest distinct),
      )

  -- Next key gives all keys in their order.
  pub gives_keys : (at : ℕ → Moment) → ((n : ℕ) → Holds shape lie (at n)) → GivesKeys shape at None (map (λ (stored : Stored). stored.key) (in_order shape lie))
  gives_keys at holds = gives_from at holds None [] (in_order shape lie) refl refl

-- Each once

none_left : (key : List ℕ) (bodies : List Stored) → present key bodies ≡ None → filter (has_key key) bodies ≡ []
none_left key [] none = refl
none_left key (body ∷ bodies) none =
    elim (bytes_eq body.key key) as (λ b. cond b (Some body) (present key bodies) ≡ None → cond b (body ∷ filter (has_key key) bodies) (filter (has_key key) bodies) ≡ []) [
      | true ↦ λ some. absurd (none-some body (sym some))
      | false ↦ λ rest. none_left key bodies rest
    ] none

-- a key that isn't among some isn't found there
not_found : (key : List ℕ) (bodies : List Stored) → list_any (has_key key) bodies ≡ false → present key bodies ≡ None
not_found key [] none = refl
not_found key (body ∷ bodies) none =
    elim (bytes_eq body.key key) as (λ b. (b || list_any (has_key key) bodies) ≡ false → cond b (Some body) (present key bodies) ≡ None) [
      | true ↦ λ is. absurd cc
      | false ↦ λ rest. not_found key bodies rest
    ] none

once_of : (key : List ℕ) (bodies : List Stored) → HasDistinctKeys bodies → filter (has_key key) bodies ≡ option_to_list (present key bodies)
once_of key [] distinct = refl
once_of key (body ∷ bodies) distinct =
    elim (bytes_eq body.key key) as (λ b. bytes_eq body.key key ≡ b → cond b (body ∷ filter (has_key key) bodies) (filter (has_key key) bodies) ≡ option_to_list (cond b (Some body) (present key bodies))) [
      | true ↦ λ same. ap (λ rest. body ∷ rest)
          (none_left key bodies (not_found key bodies (subst (λ k. list_any (has_key k) bodies ≡ false) ((bytes_eq-Decides body.key key).0 same) distinct.0)))
      | false ↦ λ other. once_of key bodies distinct.1
    ] refl

pub each_once_in_order : (shape : Shape) → HasBounds shape → (lie : ℕ → List Stored) → HaveOwnKeys shape lie → (key : List ℕ) → filter (has_key key) (in_order shape lie) ≡ option_to_list (present key (lie (bucket_of_key shape key)))
each_once_in_order shape bounds lie keys key =
    once_of key (in_order shape lie) (distinct_in_order shape lie keys) ∙ ap option_to_list (present_in_order shape bounds lie keys.own key)
