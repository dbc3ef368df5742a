-- Distinct keys, over what is written and removed.
use Rattle.std.proofs.Common.{◌≡◌, ℕ, zero, suc, ◌<◌, Bool, true, false, ◌||◌, List, [], ◌∷◌, length, get_or, refl, ap, ◌∙◌, arith}
use Rattle.std.specs.Prelude.{remove, bytes_eq}
use Rattle.std.specs.List.{list_any}
use Rattle.std.proofs.lemmas.List.{get_or-map}
use Rattle.map_types.specs.Stored.{Stored}
use Rattle.place_words.specs.Bodies.{has_key, HasDistinctKeys}
use Rattle.place_words.proofs.BucketLaws.{bytes_differ}
use Rattle.bucket_chain.specs.Places.{key_at, values_at, with_values_at}

either_false : (a b : Bool) → (a || b) ≡ false → (a ≡ false) × (b ≡ false)
either_false true b neither = cc
either_false false b neither = (refl, neither)

both_false : (a b : Bool) → a ≡ false → b ≡ false → (a || b) ≡ false
both_false true b first second = cc
both_false false b first second = second

any_written : (key : List ℕ) (place : ℕ) (values : List (List ℕ)) (bodies : List Stored) → list_any (has_key key) (with_values_at place values bodies) ≡ list_any (has_key key) bodies
any_written key place values [] = refl
any_written key zero values (body ∷ bodies) = refl
any_written key (suc place) values (body ∷ bodies) =
    ap (λ b. has_key key body || b) (any_written key place values bodies)

pub distinct_written : (place : ℕ) (values : List (List ℕ)) (bodies : List Stored) → HasDistinctKeys bodies → HasDistinctKeys (with_values_at place values bodies)
distinct_written place values [] distinct = tt
distinct_written zero values (body ∷ bodies) distinct = distinct
distinct_written (suc place) values (body ∷ bodies) distinct =
    (any_written body.key place values bodies ∙ distinct.0, distinct_written place values bodies distinct.1)

absent_removed : (test : Stored → Bool) (place : ℕ) (bodies : List Stored) → list_any test bodies ≡ false → list_any test (remove bodies place) ≡ false
absent_removed test zero [] absent = refl
absent_removed test (suc place) [] absent = refl
absent_removed test zero (body ∷ bodies) absent = (either_false (test body) (list_any test bodies) absent).1
absent_removed test (suc place) (body ∷ bodies) absent =
    let parts = either_false (test body) (list_any test bodies) absent in
    both_false (test body) (list_any test (remove bodies place)) parts.0 (absent_removed test place bodies parts.1)

pub distinct_removed : (place : ℕ) (bodies : List Stored) → HasDistinctKeys bodies → HasDistinctKeys (remove bodies place)
distinct_removed zero [] distinct = tt
distinct_removed (suc place) [] distinct = tt
distinct_removed zero (body ∷ bodies) distinct = distinct.1
distinct_removed (suc place) (body ∷ bodies) distinct =
    (absent_removed (has_key body.key) place bodies distinct.0, distinct_removed place bodies distinct.1)

-- a key that no body has is not that of the body at a place
pub differs_at : (key : List ℕ) (place : ℕ) (bodies : List Stored) → list_any (has_key key) bodies ≡ false → place < length bodies → bytes_eq (key_at place bodies) key ≡ false
differs_at key place [] absent within = absurd (omega arith)
differs_at key zero (body ∷ bodies) absent within = (either_false (has_key key body) (list_any (has_key key) bodies) absent).0
differs_at key (suc place) (body ∷ bodies) absent within =
    differs_at key place bodies (either_false (has_key key body) (list_any (has_key key) bodies) absent).1 (omega arith)

-- a key is gone with its body
pub gone_removed : (place : ℕ) (bodies : List Stored) → HasDistinctKeys bodies → place < length bodies → list_any (has_key (key_at place bodies)) (remove bodies place) ≡ false
gone_removed place [] distinct within = absurd (omega arith)
gone_removed zero (body ∷ bodies) distinct within = distinct.0
gone_removed (suc place) (body ∷ bodies) distinct within =
    let inside : place < length bodies = omega arith in
    let other = bytes_differ (key_at place bodies) body.key (differs_at body.key place bodies distinct.0 inside) in
    both_false (has_key (key_at place bodies) body) (list_any (has_key (key_at place bodies)) (remove bodies place)) other (gone_removed place bodies distinct.1 inside)

pub values_at-is : (place : ℕ) (bodies : List Stored) (d : Stored) → place < length bodies → values_at place bodies ≡ (get_or bodies place d).values
values_at-is place bodies d within = get_or-map (λ (body : Stored). body.values) bodies place d [] within
