-- The place of a key, and what is handed over up to it.
use Rattle.std.proofs.Common.{◌≡◌, ℕ, suc, ◌+◌, Bool, true, false, List, [], ◌∷◌, map, take, Option, None, Some, refl, ap, sym, ◌∙◌, arith}
use Rattle.std.specs.Prelude.{bytes_eq, if◌then◌else◌}
use Rattle.map_types.specs.declared.attr.Shape.{Shape}
use Rattle.map_types.specs.Stored.{Stored}
use Rattle.place_words.specs.Handing.{handed, up_to_stop}
use Rattle.trace_check.specs.Calls.{stops_in}
use Rattle.trace_check.specs.Pairs.{one_behind, key_place, stop_place}

-- a place in what is left, behind so many
abbrev pub places_behind : ℕ → Option ℕ → Option ℕ
places_behind n None = None
places_behind n (Some place) = Some (n + place)

pub behind_none : (o : Option ℕ) → o ≡ places_behind 0 o
behind_none None = refl
behind_none (Some place) = ap Some (omega arith)

pub behind_more : (n : ℕ) (o : Option ℕ) → places_behind n (one_behind o) ≡ places_behind (n + 1) o
behind_more n None = refl
behind_more n (Some place) = ap Some (omega arith)

module _ (shape : Shape) (cpu : ℕ) where
  pub goes_on : (key : List ℕ) (all : List Stored) → key_place key all ≡ None
      → (up_to_stop (Some key) (map (handed shape cpu) all) ≡ map (handed shape cpu) all) × (stops_in (Some key) (map (handed shape cpu) all) ≡ false)
  goes_on key [] none = (refl, refl)
  goes_on key (stored ∷ all) none = by (bytes_eq stored.key key) none (goes_on key all)
    where
      unstopped : (o : Option ℕ) → one_behind o ≡ None → o ≡ None
      unstopped None none = refl
      unstopped (Some place) some = absurd cc

      by : (b : Bool) → (if b then Some 0 else one_behind (key_place key all)) ≡ None
          → (key_place key all ≡ None → (up_to_stop (Some key) (map (handed shape cpu) all) ≡ map (handed shape cpu) all) × (stops_in (Some key) (map (handed shape cpu) all) ≡ false))
          → (handed shape cpu stored ∷ (if b then [] else up_to_stop (Some key) (map (handed shape cpu) all)) ≡ handed shape cpu stored ∷ map (handed shape cpu) all)
          × ((if b then true else stops_in (Some key) (map (handed shape cpu) all)) ≡ false)
      by true some later = absurd cc
      by false none later =
          let more = later (unstopped (key_place key all) none) in
          (ap (λ l. handed shape cpu stored ∷ l) more.0, more.1)

  pub stops_there : (key : List ℕ) (all : List Stored) (place : ℕ) → key_place key all ≡ Some place
      → (up_to_stop (Some key) (map (handed shape cpu) all) ≡ map (handed shape cpu) (take (suc place) all)) × (stops_in (Some key) (map (handed shape cpu) all) ≡ true)
  stops_there key [] place some = absurd cc
  stops_there key (stored ∷ all) place some = by (bytes_eq stored.key key) some (stops_there key all)
    where
      from : (o : Option ℕ) → one_behind o ≡ Some place → (before : ℕ) × ((o ≡ Some before) × (place ≡ suc before))
      from None none = absurd cc
      from (Some before) some = (before, (refl, cc))

      by : (b : Bool) → (if b then Some 0 else one_behind (key_place key all)) ≡ Some place
          → ((before : ℕ) → key_place key all ≡ Some before → (up_to_stop (Some key) (map (handed shape cpu) all) ≡ map (handed shape cpu) (take (suc before) all)) × (stops_in (Some key) (map (handed shape cpu) all) ≡ true))
          → (handed shape cpu stored ∷ (if b then [] else up_to_stop (Some key) (map (handed shape cpu) all)) ≡ map (handed shape cpu) (take (suc place) (stored ∷ all)))
          × ((if b then true else stops_in (Some key) (map (handed shape cpu) all)) ≡ true)
      by true at later = let first : 0 ≡ place = cc in (ap (λ n. handed shape cpu stored ∷ map (handed shape cpu) (take n all)) first, refl)
      by false at later =
          let earlier = from (key_place key all) at in
          let more = later earlier.0 earlier.1.0 in
          (ap (λ l. handed shape cpu stored ∷ l) more.0 ∙ ap (λ n. handed shape cpu stored ∷ map (handed shape cpu) (take n all)) (sym earlier.1.1), more.1)

  stopped_nowhere : (pairs : List (List ℕ × List ℕ)) → (up_to_stop None pairs ≡ pairs) × (stops_in None pairs ≡ false)
  stopped_nowhere [] = (refl, refl)
  stopped_nowhere (pair ∷ pairs) = let more = stopped_nowhere pairs in (ap (λ l. pair ∷ l) more.0, more.1)

  pub all_handed : (stop : Option (List ℕ)) (all : List Stored) → None ≡ stop_place stop all
      → (map (handed shape cpu) all ≡ up_to_stop stop (map (handed shape cpu) all)) × (false ≡ stops_in stop (map (handed shape cpu) all))
  all_handed None all none = let more = stopped_nowhere (map (handed shape cpu) all) in (sym more.0, sym more.1)
  all_handed (Some key) all none = let more = goes_on key all (sym none) in (sym more.0, sym more.1)

  pub some_handed : (stop : Option (List ℕ)) (all : List Stored) (place : ℕ) → Some place ≡ stop_place stop all
      → (map (handed shape cpu) (take (place + 1) all) ≡ up_to_stop stop (map (handed shape cpu) all)) × (true ≡ stops_in stop (map (handed shape cpu) all))
  some_handed None all place some = absurd cc
  some_handed (Some key) all place some =
      let more = stops_there key all place (sym some) in
      let one : place + 1 ≡ suc place = omega arith in
      (ap (λ n. map (handed shape cpu) (take n all)) one ∙ sym more.0, sym more.1)
