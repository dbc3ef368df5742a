-- The parts of a race's strands, by phase and CPU: where each stands.
use Rattle.std.proofs.Common.{◌≡◌, ℕ, zero, suc, ◌+◌, ◌<◌, List, [], ◌∷◌, ◌++◌, length, map, Option, Some, None, refl, ap, sym, ◌∙◌, subst, arith, append-nil, inl, inr}
use Rattle.std.specs.Prelude.{slice_get}
use Rattle.std.specs.List.{AllByRecursion, flat_map, range_with_len}
use Rattle.std.proofs.lemmas.List.{map-append}
use Rattle.std.proofs.lemmas.List.Concat.{flat_map-append}
use Rattle.std.proofs.lemmas.Option.{none-some, same_Some}
use Rattle.map_types.specs.declared.attr.Shape.{Shape}
use Rattle.map_script.specs.declared.script.Script.{Script}
use Rattle.place_words.specs.declared.history.Strand.{Strand}
use Rattle.place_table.specs.Passes.{TableView}
use Rattle.run_records.specs.Parts.{Part, lone_cpu}
use Rattle.run_records.specs.Races.{calls_of, strands_by}
use Rattle.run_records.proofs.PartLemmas.{strand_of}
use Rattle.run_records.proofs.PhaseChain.{earlier_or_last}
use Rattle.run_records.proofs.PhaseParts.{Done, parts_of, parts_to}
use Rattle.serial_laws.proofs.ListPlaces.{made_at, made_there, all_standing, in_either, in_first, in_second, next_below}

-- the phase and the CPUs of a strand
abbrev pub named_by : Strand → ℕ × List ℕ
named_by strand = (strand.phase, strand.cpus)

module _ (t : TableView) (script : Script) (did : ℕ → Done) where
  abbrev shape : Shape
  shape = t.shape

  abbrev pub cpu_in : Option ℕ → ℕ → ℕ
  cpu_in None cpu = cpu
  cpu_in (Some c) cpu = 0

  -- the place of a CPU's strand in a phase
  abbrev pub place_of_strand : ℕ → ℕ → ℕ
  place_of_strand q cpu = length (parts_to t script did q) + cpu_in (lone_cpu (calls_of script q)) cpu

  -- a part of a phase: of one CPU where several make its calls, else of all, with the turns of the one that makes them
  abbrev pub part_by : ℕ → Option ℕ → ℕ → Part
  part_by q None cpu = record { phase = q; cpu = Some cpu; turns = (did q).turns cpu; kept = (did q).kept cpu }
  part_by q (Some c) cpu = record { phase = q; cpu = None; turns = (did q).turns c; kept = (did q).kept c }

  -- what stands at each place
  pub part_here : (q : ℕ) (lone : Option ℕ) (j : ℕ) (part : Part) → slice_get (parts_of t script q lone (did q)) j ≡ Some part → (part_by q lone j ≡ part) × ((lone ≡ None) → j < shape.cpus) × ((cpu : ℕ) → lone ≡ Some cpu → j ≡ 0)
  part_here q None j part at =
      let made = made_at (part_by q None) shape.cpus j part at in (sym made.1, λ _. made.0, λ cpu is. absurd (none-some cpu is))
  part_here q (Some c) zero part at = (same_Some (part_by q (Some c) 0) part at, λ is. absurd (none-some c (sym is)), λ cpu is. refl)
  part_here q (Some c) (suc j) part at = absurd (none-some part at)

  pub part_at : (p n : ℕ) (part : Part) → slice_get (parts_to t script did p) n ≡ Some part
      → (q : ℕ) × (j : ℕ) × (q < p) × (n ≡ length (parts_to t script did q) + j) × (slice_get (parts_of t script q (lone_cpu (calls_of script q)) (did q)) j ≡ Some part)
  unfolding parts_to
  part_at zero n part at = absurd (none-some part at)
  part_at (suc p) n part at =
      elim (in_either (parts_to t script did p) (parts_of t script p (lone_cpu (calls_of script p)) (did p)) n part at) [
        | inl first ↦ let was = part_at p n part first in (was.0, was.1, (let low = was.2 in omega (arith, low)), was.3, was.4)
        | inr here ↦ (p, here.0, omega arith, here.1, here.2)
      ]

  part_of_cpu : (q : ℕ) (lone : Option ℕ) (cpu : ℕ) → cpu < shape.cpus → slice_get (parts_of t script q lone (did q)) (cpu_in lone cpu) ≡ Some (part_by q lone cpu)
  part_of_cpu q None cpu real = made_there (part_by q None) shape.cpus cpu real
  part_of_cpu q (Some c) cpu real = refl

  pub part_there : (p q cpu : ℕ) → q < p → cpu < shape.cpus → slice_get (parts_to t script did p) (place_of_strand q cpu) ≡ Some (part_by q (lone_cpu (calls_of script q)) cpu)
  unfolding parts_to
  part_there zero q cpu low real = absurd (omega (arith, low))
  part_there (suc p) q cpu low real =
      elim (earlier_or_last q p low) [
        | inl before ↦ in_first (parts_to t script did p) (parts_of t script p (lone_cpu (calls_of script p)) (did p)) (place_of_strand q cpu) (part_by q (lone_cpu (calls_of script q)) cpu) (part_there p q cpu before real)
        | inr same ↦
            subst (λ (r : ℕ). slice_get (parts_to t script did p ++ parts_of t script p (lone_cpu (calls_of script p)) (did p)) (place_of_strand r cpu) ≡ Some (part_by r (lone_cpu (calls_of script r)) cpu)) (sym same)
            (in_second (parts_to t script did p) (parts_of t script p (lone_cpu (calls_of script p)) (did p)) (place_of_strand p cpu) (cpu_in (lone_cpu (calls_of script p)) cpu) (part_by p (lone_cpu (calls_of script p)) cpu) refl
            (part_of_cpu p (lone_cpu (calls_of script p)) cpu real))
      ]

  -- what holds of the parts of each phase holds of all
  pub each_part : (Q : Part → Type 0) (p : ℕ) → ((q : ℕ) → q < p → (cpu : ℕ) → (lone_cpu (calls_of script q) ≡ None → cpu < shape.cpus) → Q (part_by q (lone_cpu (calls_of script q)) cpu)) → AllByRecursion Q (parts_to t script did p)
  each_part Q p holds =
      all_standing Q (parts_to t script did p)
      (λ n part at.
      let its = part_at p n part at in
      let here = part_here its.0 (lone_cpu (calls_of script its.0)) its.1 part its.4 in
      subst Q here.0 (holds its.0 its.2 its.1 here.1))

  -- the phase and the CPUs of each strand
  strands_told_of : (q : ℕ) (lone : Option ℕ) → map named_by (map (strand_of shape) (parts_of t script q lone (did q))) ≡ strands_by shape.cpus q lone
  strands_told_of q None = each (range_with_len 0 shape.cpus)
    where
      each : (numbers : List ℕ) → map named_by (map (strand_of shape) (map (part_by q None) numbers)) ≡ map {B = ℕ × List ℕ} (λ cpu. (q, cpu ∷ [])) numbers
      each [] = refl
      each (cpu ∷ numbers) = ap (λ (l : List (ℕ × List ℕ)). (q, cpu ∷ []) ∷ l) (each numbers)
  strands_told_of q (Some c) = refl

  pub strands_told_to : (p : ℕ) → map named_by (map (strand_of shape) (parts_to t script did p)) ≡ flat_map (λ q. strands_by shape.cpus q (lone_cpu (calls_of script q))) (range_with_len 0 p)
  unfolding parts_to
  strands_told_to zero = refl
  strands_told_to (suc p) =
      let here : List Part = parts_of t script p (lone_cpu (calls_of script p)) (did p) in
      let before : List Part = parts_to t script did p in
      let its : ℕ → List (ℕ × List ℕ) = λ q. strands_by shape.cpus q (lone_cpu (calls_of script q)) in
      ap (map named_by) (map-append (strand_of shape) before here)
      ∙ map-append named_by (map (strand_of shape) before) (map (strand_of shape) here)
      ∙ (λ i. strands_told_to p i ++ strands_told_of p (lone_cpu (calls_of script p)) i)
      ∙ sym (ap (flat_map its) (next_below p) ∙ flat_map-append its (range_with_len 0 p) (p ∷ []) ∙ ap (λ (l : List (ℕ × List ℕ)). flat_map its (range_with_len 0 p) ++ l) (append-nil (its p)))
