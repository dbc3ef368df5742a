-- What a callback that stops at a key is handed of some pairs.
use Rattle.std.proofs.Common.{◌≡◌, ℕ, true, false, cond, List, [], ◌∷◌, ◌++◌, Option, refl, ap}
use Rattle.std.specs.Prelude.{◌||◌}
use Rattle.std.specs.List.{AllByRecursion, list_any}
use Rattle.std.proofs.lemmas.Bool.{true≢false}
use Rattle.place_words.specs.Handing.{is_stop, up_to_stop}

module _ (stop : Option (List ℕ)) where
  -- all of them, where none stops it
  pub up_to_all : (pairs : List (List ℕ × List ℕ)) → list_any (is_stop stop) pairs ≡ false → up_to_stop stop pairs ≡ pairs
  up_to_all [] none = refl
  up_to_all (pair ∷ pairs) none =
      (elim (is_stop stop pair) as (λ b. b || list_any (is_stop stop) pairs ≡ false → pair ∷ cond b [] (up_to_stop stop pairs) ≡ pair ∷ pairs) [
        | true ↦ λ here. absurd (true≢false here)
        | false ↦ λ later. ap (λ (l : List (List ℕ × List ℕ)). pair ∷ l) (up_to_all pairs later)
      ]) none

  -- of two lists the first up to the stop, and where none of it stops the walk, the second too
  pub up_to_append : (first rest : List (List ℕ × List ℕ)) → up_to_stop stop (first ++ rest) ≡ up_to_stop stop first ++ cond (list_any (is_stop stop) first) [] (up_to_stop stop rest)
  up_to_append [] rest = refl
  up_to_append (pair ∷ first) rest =
      elim (is_stop stop pair) as (λ b. pair ∷ cond b [] (up_to_stop stop (first ++ rest)) ≡ pair ∷ (cond b [] (up_to_stop stop first) ++ cond (b || list_any (is_stop stop) first) [] (up_to_stop stop rest))) [
        | true ↦ refl
        | false ↦ ap (λ (l : List (List ℕ × List ℕ)). pair ∷ l) (up_to_append first rest)
      ]

  -- what holds of each of the pairs holds of each that is handed over
  pub up_to_keeps : (Holds : List ℕ × List ℕ → Type 0) (pairs : List (List ℕ × List ℕ)) → AllByRecursion Holds pairs → AllByRecursion Holds (up_to_stop stop pairs)
  up_to_keeps Holds [] all = tt
  up_to_keeps Holds (pair ∷ pairs) all = (
    all.0,
    elim (is_stop stop pair) as (λ b. AllByRecursion Holds (cond b [] (up_to_stop stop pairs))) [
      | true ↦ tt
      | false ↦ up_to_keeps Holds pairs all.1
    ],
  )
