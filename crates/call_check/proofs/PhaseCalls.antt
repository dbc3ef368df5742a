-- The calls of a phase, by their places among all.
use Rattle.std.proofs.Common.{◌≡◌, ℕ, zero, suc, ◌+◌, ◌-◌, ◌<◌, ◌≤◌, List, [], ◌∷◌, length, drop, Some, refl, ap, sym, ◌∙◌, arith}
use Rattle.std.specs.Prelude.{slice_get}
use Rattle.std.proofs.lemmas.List.{length-drop, length-take}
use Rattle.map_script.specs.declared.script.Script.{Script}
use Rattle.map_script.specs.WellFormed.{IsWellFormed}
use Rattle.place_words.specs.Phases.{phase_of, phase_count, calls_before, of_phase}
use Rattle.map_report.proofs.CutLemmas.{Rise, cuts_rise, before_end, next_phase, is_behind, is_within, is_phase, in_phase, last_end}
use Rattle.record_shape.proofs.ByPlaces.{at_taken, taken_at, at_dropped}

pub something_at : {A : Type 0} (xs : List A) (k : ℕ) → k < length xs → (x : A) × (slice_get xs k ≡ Some x)
something_at [] k less = absurd (omega (arith, less))
something_at (x ∷ xs) zero less = (x, refl)
something_at (x ∷ xs) (suc k) less = something_at xs k (omega (arith, less))

module _ (script : Script) (formed : IsWellFormed script) where
  abbrev cuts : List ℕ
  cuts = script.cuts

  abbrev all : ℕ
  all = length script.calls

  abbrev start : ℕ → ℕ
  start p = calls_before script.cuts (length script.calls) p

  pub rises : Rise 0 script.cuts (length script.calls)
  rises = cuts_rise 0 script.cuts (length script.calls) (omega arith) formed.phases.rise

  -- how many there are
  pub many : {A : Type 0} (p : ℕ) (each : List A) → length each ≡ all → start p + length (of_phase script.cuts p each) ≡ start (suc p)
  many p each long =
      let first : calls_before cuts (length each) p ≡ start p = ap (λ (l : ℕ). calls_before cuts l p) long in
      let last : calls_before cuts (length each) (suc p) ≡ start (suc p) = ap (λ (l : ℕ). calls_before cuts l (suc p)) long in
      let taken = length-take (calls_before cuts (length each) (suc p) - calls_before cuts (length each) p) (drop (calls_before cuts (length each) p) each) in
      let dropped = length-drop (calls_before cuts (length each) p) each in
      let up = next_phase cuts all rises p in
      let end = before_end cuts all rises (suc p) in
      omega (arith, first, last, taken, dropped, up, end, long)

  -- the one at a place of a phase
  pub at_all : {A : Type 0} (p : ℕ) (each : List A) → length each ≡ all → (m : ℕ) (x : A) → slice_get (of_phase script.cuts p each) m ≡ Some x → slice_get each (start p + m) ≡ Some x
  at_all p each long m x at =
      let first : ℕ = calls_before cuts (length each) p in
      ap (λ (l : ℕ). slice_get each (calls_before cuts l p + m)) (sym long)
      ∙ (sym (at_dropped first each m) ∙ at_taken (calls_before cuts (length each) (suc p) - first) (drop first each) m x at)

  pub phase_at : (p m : ℕ) → m < length (of_phase script.cuts p script.calls) → phase_of script.cuts (suc (start p + m)) ≡ p
  phase_at p m less = in_phase cuts all rises p (suc (start p + m)) (omega arith) (let whole = many p script.calls refl in omega (arith, whole, less))

  -- and that of a call in its phase
  pub record InPhase (place : ℕ) : Type 0 where
    pub m : ℕ
    pub place_is : place ≡ start (phase_of script.cuts (suc place)) + m
    pub within : suc place ≤ start (suc (phase_of script.cuts (suc place)))
    pub below : phase_of script.cuts (suc place) < phase_count script.cuts

  pub its_phase : (place : ℕ) → place < all → InPhase place
  its_phase place less =
      let p : ℕ = phase_of cuts (suc place) in
      let behind = is_behind cuts all rises (suc place) (omega arith) in
      record { m = place - start p; place_is = omega (arith, behind); within = is_within cuts all rises (suc place) (omega (arith, less)); below = is_phase cuts all rises (suc place) }

  pub at_phase : {A : Type 0} (each : List A) → length each ≡ all → (p place m : ℕ) (x : A) → place ≡ start p + m → suc place ≤ start (suc p)
      → slice_get each place ≡ Some x → slice_get (of_phase script.cuts p each) m ≡ Some x
  at_phase each long p place m x is within at =
      let first : ℕ = calls_before cuts (length each) p in
      let first_is : first ≡ start p = ap (λ (l : ℕ). calls_before cuts l p) long in
      let last_is : calls_before cuts (length each) (suc p) ≡ start (suc p) = ap (λ (l : ℕ). calls_before cuts l (suc p)) long in
      let place_is : first + m ≡ place = omega (arith, first_is, is) in
      taken_at (calls_before cuts (length each) (suc p) - first) (drop first each) m x (omega (arith, is, within, first_is, last_is))
      (at_dropped first each m ∙ (ap (slice_get each) place_is ∙ at))

  pub all_done : start (phase_count script.cuts) ≡ all
  all_done = last_end cuts all rises

  pub number_phase : (number : ℕ) → phase_of script.cuts number < phase_count script.cuts
  number_phase number = is_phase cuts all rises number
