-- The phase of a call, and its place there.
use Rattle.std.proofs.Common.{◌≡◌, ℕ, suc, ◌+◌, ◌-◌, ◌<◌, ◌≤◌, List, length, drop, Some, ap, ◌∙◌, arith}
use Rattle.std.specs.Prelude.{slice_get}
use Rattle.place_words.specs.Phases.{phase_of, phase_count, calls_before, of_phase}
use Rattle.map_report.proofs.CutLemmas.{Rise, is_behind, is_within, is_phase}
use Rattle.record_shape.proofs.ByPlaces.{taken_at, at_dropped}

-- of so many calls
module _ (cuts : List ℕ) (all : ℕ) (rises : Rise 0 cuts all) where
  abbrev start : ℕ → ℕ
  start p = calls_before cuts all p

  pub record InPhase (place : ℕ) : Type 0 where
    pub m : ℕ
    pub place_is : place ≡ start (phase_of cuts (suc place)) + m
    pub within : suc place ≤ start (suc (phase_of cuts (suc place)))
    pub below : phase_of cuts (suc place) < phase_count cuts

  pub its_phase : (place : ℕ) → place < all → InPhase place
  its_phase place less =
      let behind = is_behind cuts all rises (suc place) (omega arith) in
      record { m = place - start (phase_of cuts (suc place)); place_is = omega (arith, behind); within = is_within cuts all rises (suc place) (omega (arith, less)); below = is_phase cuts all rises (suc place) }

  pub at_phase : {A : Type 0} (each : List A) → length each ≡ all → (p place m : ℕ) (x : A) → place ≡ start p + m → suc place ≤ start (suc p)
      → slice_get each place ≡ Some x → slice_get (of_phase cuts p each) m ≡ Some x
  at_phase each long p place m x is within at =
      let first : ℕ = calls_before cuts (length each) p in
      let first_is : first ≡ start p = ap (λ (l : ℕ). calls_before cuts l p) long in
      let last_is : calls_before cuts (length each) (suc p) ≡ start (suc p) = ap (λ (l : ℕ). calls_before cuts l (suc p)) long in
      let place_is : first + m ≡ place = omega (arith, first_is, is) in
      taken_at (calls_before cuts (length each) (suc p) - first) (drop first each) m x (omega (arith, is, within, first_is, last_is))
      (at_dropped first each m ∙ (ap (slice_get each) place_is ∙ at))
