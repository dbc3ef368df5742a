-- Each strand is right and none is missing exactly where what the definition of records says of strands holds.
use Rattle.std.proofs.Common.{◌≡◌, ℕ, zero, suc, ◌+◌, ◌<◌, true, eqb, List, [], ◌∷◌, length, Some, refl, ap, sym, ◌∙◌, subst, inl, inr, arith}
use Rattle.std.specs.Prelude.{MatchOption, None, Option, filter, slice_get}
use Rattle.std.specs.List.{list_any, range_with_len}
use Rattle.std.proofs.lemmas.Bool.{and_parts, cases_lt, eq-eqb, eqb-true}
use Rattle.std.proofs.lemmas.Option.{none-some, same_Some, slice_get_within}
use Rattle.map_script.specs.declared.script.Script.{Script}
use Rattle.place_words.specs.Phases.{phase_count}
use Rattle.place_words.specs.declared.history.Strand.{Strand}
use Rattle.map_report.specs.declared.record.RunRecord.{RunRecord}
use Rattle.map_report.specs.Record.{has_cpu}
use Rattle.record_shape.specs.WellShaped.{StrandFits, StrandsFit}
use Rattle.record_parts.specs.PartLaws.{StrandsAreJudged}
use Rattle.record_flaws.specs.StrandFlaws.{AreStrandsRight, EachStands, IsRightPlace, has_in_phase}
use Rattle.record_parts.proofs.CpuLists.{and_both, any_at, ascend_in, ascending_is, first_at, first_least, first_there, in_range, left_passes, passing_left}

-- the one at a place fits
pub strand_fits : (script : Script) (least : ℕ) (strands : List Strand) → StrandsFit script least strands → (n : ℕ) (strand : Strand) → slice_get strands n ≡ Some strand
    → (before : ℕ) × StrandFits script before strand
strand_fits script least [] fit n strand at = absurd (none-some strand at)
strand_fits script least (first ∷ strands) fit zero strand at = (least, subst (StrandFits script least) (same_Some first strand at) fit.0)
strand_fits script least (first ∷ strands) fit (suc n) strand at = strand_fits script first.phase strands fit.1 n strand at

module _ (script : Script) (kept : RunRecord) where
  abbrev range : List ℕ
  range = range_with_len 0 script.shape.cpus

  abbrev own : ℕ → ℕ → ℕ
  own p cpu = first_at (has_in_phase p cpu) kept.strands

  -- where each CPU has one strand in a phase, none stands in two
  module _ (strand_of : ℕ → ℕ → ℕ) (cpus_are : (n : ℕ) (strand : Strand) → slice_get kept.strands n ≡ Some strand → (strand.phase < phase_count script.cuts) × (strand.cpus ≡ filter (λ cpu. eqb (strand_of strand.phase cpu) n) range)) where
    of_cpu : (n : ℕ) (strand : Strand) → slice_get kept.strands n ≡ Some strand → (p cpu : ℕ) → strand.phase ≡ p → has_cpu cpu strand.cpus ≡ true → strand_of p cpu ≡ n
    of_cpu n strand at p cpu same there =
        let passes : eqb (strand_of strand.phase cpu) n ≡ true =
        left_passes (λ c. eqb (strand_of strand.phase c) n) cpu range (subst (λ (cpus : List ℕ). has_cpu cpu cpus ≡ true) (cpus_are n strand at).1 there) in
        subst (λ (q : ℕ). strand_of q cpu ≡ n) same (eqb-true (strand_of strand.phase cpu) n passes)

    pub apart_in : (place : ℕ) (strand : Strand) → slice_get kept.strands place ≡ Some strand → (earlier : ℕ) (other : Strand) → earlier < place → slice_get kept.strands earlier ≡ Some other
        → (cpu : ℕ) → has_cpu cpu strand.cpus ≡ true → has_in_phase strand.phase cpu other ≡ true → ⊥
    apart_in place strand at earlier other before at_other cpu there passes =
        let parts = and_parts (eqb other.phase strand.phase) (has_cpu cpu other.cpus) passes in
        let here = of_cpu place strand at strand.phase cpu refl there in
        let elsewhere = of_cpu earlier other at_other strand.phase cpu (eqb-true other.phase strand.phase parts.0) parts.1 in
        absurd (omega (arith, here, elsewhere, before))

  pub strands_right : StrandsFit script 0 kept.strands → ((place : ℕ) → place < suc (length kept.strands) → IsRightPlace script kept place) → AreStrandsRight script kept
  strands_right fit right = record {
    strand_of = own;
    in_strand = λ p cpu phase_in cpu_in.
        let found = first_there (has_in_phase p cpu) kept.strands ((right (length kept.strands) (omega arith)).each refl p cpu phase_in cpu_in) in
        subst (λ (o : _). MatchOption o ⊥ (λ (strand : Strand). strand.phase ≡ p)) (sym found.there) (eqb-true found.item.phase p (and_parts (eqb found.item.phase p) (has_cpu cpu found.item.cpus) found.passes).0);
    cpus_are = λ n strand at. ((strand_fits script 0 kept.strands fit n strand at).1.phase, are n strand at);
    steps = λ n strand at. ((right n (omega (arith, slice_get_within kept.strands n strand at))).strand strand at).own_steps.steps;
    own_calls = λ n strand at. ((right n (omega (arith, slice_get_within kept.strands n strand at))).strand strand at).own_calls;
  }
    where
      are : (n : ℕ) (strand : Strand) → slice_get kept.strands n ≡ Some strand → strand.cpus ≡ filter (λ cpu. eqb (own strand.phase cpu) n) range
      are n strand at =
          let fits = (strand_fits script 0 kept.strands fit n strand at).1 in
          let here = (right n (omega (arith, slice_get_within kept.strands n strand at))).strand strand at in
          ascending_is (λ cpu. eqb (own strand.phase cpu) n) 0 script.shape.cpus strand.cpus
          (let all : 0 + script.shape.cpus ≡ script.shape.cpus = omega arith in subst (Rattle.place_words.specs.Tickets.AscendIn 0 strand.cpus) (sym all) (ascend_in strand.cpus script.shape.cpus fits.cpus.below fits.cpus.ascending))
          (λ cpu there.
          let passes : has_in_phase strand.phase cpu strand ≡ true = and_both (eqb strand.phase strand.phase) (has_cpu cpu strand.cpus) (eq-eqb strand.phase strand.phase refl) there in
          let found = first_there (has_in_phase strand.phase cpu) kept.strands (any_at (has_in_phase strand.phase cpu) kept.strands n strand at passes) in
          let least = first_least (has_in_phase strand.phase cpu) kept.strands n strand at passes in
          elim (cases_lt (own strand.phase cpu) n) [
            | inl before ↦ absurd (here.own_steps.apart (own strand.phase cpu) found.item before found.there cpu there found.passes)
            | inr behind ↦ eq-eqb (own strand.phase cpu) n (omega (arith, least, behind))
          ])
          (λ cpu first last same.
          let is : own strand.phase cpu ≡ n = eqb-true (own strand.phase cpu) n same in
          let found = first_there (has_in_phase strand.phase cpu) kept.strands
          ((right (length kept.strands) (omega arith)).each refl strand.phase cpu fits.phase (omega (arith, last))) in
          let one : found.item ≡ strand = same_Some found.item strand (sym found.there ∙ (ap (slice_get kept.strands) is ∙ at)) in
          subst (λ (s : Strand). has_cpu cpu s.cpus ≡ true) one (and_parts (eqb found.item.phase strand.phase) (has_cpu cpu found.item.cpus) found.passes).1)

  pub places_right : AreStrandsRight script kept → (place : ℕ) → IsRightPlace script kept place
  places_right is place = record {
    strand = λ strand at. record { own_steps = record { apart = apart_in is.strand_of is.cpus_are place strand at; steps = is.steps place strand at }; own_calls = is.own_calls place strand at };
    each = λ _. each;
  }
    where
      each : EachStands script kept
      each p cpu phase_in cpu_in = by (slice_get kept.strands (is.strand_of p cpu)) refl (is.in_strand p cpu phase_in cpu_in)
        where
          by : (o : Option Strand) → slice_get kept.strands (is.strand_of p cpu) ≡ o → MatchOption o ⊥ (λ (strand : Strand). strand.phase ≡ p)
              → list_any (has_in_phase p cpu) kept.strands ≡ true
          by None at of_phase = absurd of_phase
          by (Some strand) at of_phase =
              let left : has_cpu cpu (filter (λ c. eqb (is.strand_of strand.phase c) (is.strand_of p cpu)) range) ≡ true =
              passing_left (λ c. eqb (is.strand_of strand.phase c) (is.strand_of p cpu)) cpu range (in_range cpu 0 script.shape.cpus (omega arith) (omega (arith, cpu_in)))
              (eq-eqb (is.strand_of strand.phase cpu) (is.strand_of p cpu) (ap (λ (q : ℕ). is.strand_of q cpu) of_phase)) in
              let there : has_cpu cpu strand.cpus ≡ true = subst (λ (cpus : List ℕ). has_cpu cpu cpus ≡ true) (sym (is.cpus_are (is.strand_of p cpu) strand at).1) left in
              any_at (has_in_phase p cpu) kept.strands (is.strand_of p cpu) strand at (and_both (eqb strand.phase p) (has_cpu cpu strand.cpus) (eq-eqb strand.phase p of_phase) there)

pub strands_are_judged : StrandsAreJudged
strands_are_judged script kept fit = (strands_right script kept fit, places_right script kept)
