-- What is known of each strand of a record.
use Rattle.std.proofs.Common.{◌≡◌, ℕ, zero, suc, ◌<◌, ◌≤◌, true, eqb, List, [], ◌∷◌, length, get_or, Some, refl, ap, subst, arith}
use Rattle.std.specs.Prelude.{All, filter, slice_get}
use Rattle.std.specs.List.{range_with_len}
use Rattle.std.proofs.lemmas.Bool.{and_parts, eqb-true}
use Rattle.std.proofs.lemmas.List.Elements.{All-nil, All-cons}
use Rattle.std.proofs.lemmas.Option.{none-some, same_Some, slice_get_read}
use Rattle.map_types.proofs.CreationLemmas.{bounds_of_shape}
use Rattle.map_script.specs.declared.script.Script.{Script}
use Rattle.map_script.specs.WellFormed.{IsWellFormed}
use Rattle.place_words.specs.declared.history.Strand.{Strand}
use Rattle.place_words.specs.Phases.{phase_count}
use Rattle.map_report.specs.declared.record.RunRecord.{RunRecord}
use Rattle.map_report.specs.Record.{has_cpu}
use Rattle.record_shape.specs.Fits.{AllFit}
use Rattle.record_shape.specs.WellShaped.{StrandFits, StrandsFit, WellShaped}
use Rattle.record_flaws.specs.StrandFlaws.{has_in_phase}
use Rattle.call_check.proofs.CpuLists.{left_passes}

-- the one at a place fits
pub strand_fits : (script : Script) (least : ℕ) (strands : List Strand) → StrandsFit script least strands → (n : ℕ) (strand : Strand) → slice_get strands n ≡ Some strand
    → (before : ℕ) × StrandFits script before strand
strand_fits script least [] fit n strand at = absurd (none-some strand at)
strand_fits script least (first ∷ strands) fit zero strand at = (least, subst (StrandFits script least) (same_Some first strand at) fit.0)
strand_fits script least (first ∷ strands) fit (suc n) strand at = strand_fits script first.phase strands fit.1 n strand at

below : (most more : ℕ) → most ≤ more → (xs : List ℕ) → AllFit (λ x. x < most) xs → All (λ x. x < more) xs
below most more less [] fit = All-nil (λ (x : ℕ). x < more)
below most more less (x ∷ xs) fit = All-cons (λ (x : ℕ). x < more) x xs (let first : x < most = fit.0 in omega (arith, first, less)) (below most more less xs fit.1)

module _ (script : Script) (kept : RunRecord) (formed : IsWellFormed script) (well : WellShaped script kept) (place : ℕ) (strand : Strand) (at : slice_get kept.strands place ≡ Some strand) where
  pub fits : StrandFits script (strand_fits script 0 kept.strands well.strands place strand at).0 strand
  fits = (strand_fits script 0 kept.strands well.strands place strand at).1

  pub phase_low : strand.phase < suc (length script.cuts)
  phase_low = fits.phase

  pub cpus_low : All (λ cpu. cpu < 16) strand.cpus
  cpus_low = below script.shape.cpus 16 (bounds_of_shape script.shape formed.shape).cpus_bounded strand.cpus fits.cpus.below

pub strand_at : (strands kept : List Strand) (place : ℕ) (strand : Strand) → strands ≡ kept → place < length kept → strand ≡ get_or strands place strand → slice_get kept place ≡ Some strand
strand_at strands kept place strand same less is =
    subst (λ (xs : List Strand). slice_get xs place ≡ Some strand) same (slice_get_read strands (length strands) place strand refl (omega (arith, less, ap length same)) is)

-- where each CPU has one strand in a phase, none stands in two
module _ (script : Script) (kept : RunRecord) (strand_of : ℕ → ℕ → ℕ)
    (cpus_are : (n : ℕ) (strand : Strand) → slice_get kept.strands n ≡ Some strand → (strand.phase < phase_count script.cuts) × (strand.cpus ≡ filter (λ cpu. eqb (strand_of strand.phase cpu) n) (range_with_len 0 script.shape.cpus))) where
  of_cpu : (n : ℕ) (strand : Strand) → slice_get kept.strands n ≡ Some strand → (p cpu : ℕ) → strand.phase ≡ p → has_cpu cpu strand.cpus ≡ true → strand_of p cpu ≡ n
  of_cpu n strand at p cpu same there =
      let passes : eqb (strand_of strand.phase cpu) n ≡ true =
      left_passes (λ c. eqb (strand_of strand.phase c) n) cpu (range_with_len 0 script.shape.cpus) (subst (λ (cpus : List ℕ). has_cpu cpu cpus ≡ true) (cpus_are n strand at).1 there) in
      subst (λ (q : ℕ). strand_of q cpu ≡ n) same (eqb-true (strand_of strand.phase cpu) n passes)

  pub apart_in : (place : ℕ) (strand : Strand) → slice_get kept.strands place ≡ Some strand → (earlier : ℕ) (other : Strand) → earlier < place → slice_get kept.strands earlier ≡ Some other
      → (cpu : ℕ) → has_cpu cpu strand.cpus ≡ true → has_in_phase strand.phase cpu other ≡ true → ⊥
  apart_in place strand at earlier other before at_other cpu there passes =
      let parts = and_parts (eqb other.phase strand.phase) (has_cpu cpu other.cpus) passes in
      let here = of_cpu place strand at strand.phase cpu refl there in
      let elsewhere = of_cpu earlier other at_other strand.phase cpu (eqb-true other.phase strand.phase parts.0) parts.1 in
      absurd (omega (arith, here, elsewhere, before))
