-- The bodies of a bucket that a pass holds: how many they are, what stands at a place, and that an absent key has no place.
use Rattle.std.proofs.Common.{◌≡◌, ℕ, zero, suc, ◌<◌, ◌≤◌, cond, List, length, get_or, ⊎_elim, sym, refl, ap, ◌∙◌, subst, arith, Some, None}
use Rattle.std.specs.List.{position_or_len}
use Rattle.std.specs.Prelude.{All, slice_get, nat_lt}
use Rattle.std.proofs.lemmas.Bool.{ltb-true}
use Rattle.std.proofs.lemmas.List.{length-map}
use Rattle.std.proofs.lemmas.Option.{slice_get_cases}
use Rattle.bucket_chain.specs.Places.{place_of_key}
use Rattle.bucket_chain.proofs.Found.{find_at}
use Rattle.map_types.specs.declared.attr.Shape.{Shape}
use Rattle.map_types.specs.ElementLists.{times}
use Rattle.map_types.specs.Shape.{HasBounds}
use Rattle.map_types.specs.Stored.{Stored, IsSized}
use Rattle.place_words.specs.Bodies.{has_key, present, numbers}
use Rattle.place_words.specs.declared.step.Lists.{Lists}
use Rattle.place_words.specs.State.{rows}
use Rattle.place_words.specs.Totals.{sum_below}
use Rattle.place_words.proofs.TotalLemmas.{length_counts}
use Rattle.place_table.specs.InBucket.{InBucket}
use Rattle.place_table.specs.Passes.{PassView, TableView}
use Rattle.place_table.proofs.Entries.{append_nil}
use Rattle.place_table.proofs.Worlds.{by_bool, some_is, none_some}

-- numbers below a bound, each at most once, are no more than that
sum_few : (n : ℕ) (f : ℕ → ℕ) → ((e : ℕ) → f e ≤ 1) → sum_below n f ≤ n
sum_few zero f few = omega arith
sum_few (suc n) f few =
    let rest = sum_few n f few in
    let last = few n in
    omega arith

pub few_of : (n : ℕ) (xs : List ℕ) → ((x : ℕ) → times x xs ≤ 1) → ((x : ℕ) → 0 < times x xs → x < n) → length xs ≤ n
few_of n xs once below =
    let counts = length_counts n xs none in
    let few = sum_few n (λ x. times x xs) once in
    omega arith
  where
    none : (x : ℕ) → n ≤ x → times x xs ≡ 0
    none x past = by_zero (times x xs) (below x)
      where
        by_zero : (m : ℕ) → (0 < m → x < n) → m ≡ 0
        by_zero zero real = refl
        by_zero (suc m) real = absurd (omega (arith, real (omega arith)))

-- an absent key has no place
pub nowhere : (key : List ℕ) (bodies : List Stored) → present key bodies ≡ None → place_of_key key bodies ≡ None
nowhere key bodies none =
    let place = position_or_len (has_key key) bodies in
    by_bool (nat_lt place (length bodies)) (λ z. cond z (Some place) None ≡ None)
    (λ below.
    let past = ltb-true place (length bodies) below in
    ⊎_elim
    (λ (x : (found : Stored) × (place < length bodies) × (slice_get bodies place ≡ Some found) × (get_or bodies place found ≡ found)). absurd (none_some (sym none ∙ (find_at (has_key key) bodies ∙ x.2))))
    (λ (x : (length bodies ≤ place) × (slice_get bodies place ≡ None)). let there = x.0 in absurd (omega arith))
    (slice_get_cases bodies place).1)
    (λ _. refl)

-- what stands at a place has the sizes of the map
pub sized_at : (shape : Shape) (bodies : List Stored) (place : ℕ) (body : Stored) → All (IsSized shape) bodies → slice_get bodies place ≡ Some body → IsSized shape body
sized_at shape bodies place body all at =
    ⊎_elim
    (λ (x : (found : Stored) × (place < length bodies) × (slice_get bodies place ≡ Some found) × (get_or bodies place found ≡ found)).
    subst (IsSized shape) (x.3 ∙ some_is (sym x.2 ∙ at)) (all place x.0 x.1))
    (λ (x : (length bodies ≤ place) × (slice_get bodies place ≡ None)). absurd (none_some (sym x.1 ∙ at)))
    (slice_get_cases bodies place).1

-- the elements of its bodies, as often as the bucket had them when it was taken
pub rows_taken : {t : TableView} {bucket : ℕ} {q : PassView} {bodies : List Stored} (b : InBucket t bucket q bodies) (x : ℕ) → times x (numbers bodies) ≡ times x (rows b.hold.now)
rows_taken {t} {bucket} {q} {bodies} b x = sym (ap (λ (l : Lists). times x (rows l)) b.now ∙ ap (times x) (append_nil (numbers bodies)))

-- a bucket has no more bodies than the map has elements
pub few_bodies : {t : TableView} {bucket : ℕ} {q : PassView} {bodies : List Stored} (b : InBucket t bucket q bodies) → HasBounds t.shape → length bodies < 4294967295
few_bodies {t} {bucket} {q} {bodies} b bounds =
    let few : length (numbers bodies) ≤ t.shape.elements = few_of t.shape.elements (numbers bodies) (λ x. subst (λ (n : ℕ). n ≤ 1) (sym (rows_taken b x)) (b.elements.rows_once x)) (λ x there. b.elements.rows_real x (subst (λ (n : ℕ). 0 < n) (rows_taken b x) there)) in
    let long = length-map bodies (λ (s : Stored). s.element) in
    let bound = bounds.elements_bounded in
    omega arith
