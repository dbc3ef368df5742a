-- Answers that the contracts of runs don't allow.
use Rattle.std.proofs.Common.{◌≡◌, ◌≢◌, ℕ, zero, suc, List, [], ◌∷◌, ◌++◌, map, Option, None, Some, refl, ap, sym, ◌∙◌, subst}
use Rattle.std.specs.Prelude.{MatchOption, slice_get}
use Rattle.std.specs.List.{AllByRecursion, flat_map, range_with_len}
use Rattle.std.proofs.lemmas.Option.{none-some, same_Some}
use Rattle.map_script.specs.declared.script.Script.{Script}
use Rattle.place_words.specs.declared.history.Strand.{Strand}
use Rattle.place_words.specs.Phases.{phase_count}
use Rattle.place_table.specs.Closing.{ClosedView}
use Rattle.map_report.specs.declared.record.RunRecord.{RunRecord}
use Rattle.run_records.specs.declared.pieces.Piece.{Piece}
use Rattle.run_endings.specs.Finish.{IsKeptFrom}
use Rattle.run_records.specs.Copies.{IsCopyOf}
use Rattle.run_records.specs.Parts.{lone_cpu, pieces_by}
use Rattle.run_records.specs.Races.{RanByMany, RanByOne, calls_of, strands_by, strands_in}
use Rattle.map_run.specs.Refusals.{KeptFromATable, LoneCallsByOne, LonePhaseIsWhole}

-- A record with no table behind it

not_kept_from : (kept : Option RunRecord) (closed : Option ClosedView) → kept ≢ None → closed ≡ None → IsKeptFrom IsCopyOf kept closed → ⊥
not_kept_from None closed some none from = some refl
not_kept_from (Some kept) None some none from = from
not_kept_from (Some kept) (Some closed) some none from = none-some closed (sym none)

pub kept_from_a_table : KeptFromATable
kept_from_a_table words left rest read_faults read_then before after write_faults written_then finish some none finishes =
    not_kept_from finish.kept finish.closed some none finishes.ends.closed

-- Calls of one CPU that workers run

abbrev first_cpu : List Piece → Option ℕ
first_cpu [] = Some 0
first_cpu (piece ∷ pieces) = piece.cpu

-- the first piece of workers is that of CPU 0
first_by : (p : ℕ) (counts : List ℕ) → first_cpu (pieces_by p 0 counts) ≡ Some 0
first_by p [] = refl
first_by p (count ∷ counts) = refl

pub lone_calls_by_one : LoneCallsByOne
lone_calls_by_one t p before calls cpu start now told pieces lone many ran =
    let one : RanByOne t p before calls cpu start now told pieces =
    subst (λ (c : Option ℕ). MatchOption c (RanByMany t p before calls start now told pieces) (λ (cpu : ℕ). RanByOne t p before calls cpu start now told pieces)) lone ran in
    none-some 0 (sym (ap first_cpu one.pieces_are) ∙ (ap first_cpu many.pieces_are ∙ first_by p many.counts))

-- The strands of a phase whose calls are all of one CPU

with_both : {X : Type 0} (P : X → Type 0) (xs ys : List X) → AllByRecursion P xs → AllByRecursion P ys → AllByRecursion P (xs ++ ys)
with_both P [] ys first second = second
with_both P (x ∷ xs) ys first second = (first.0, with_both P xs ys first.1 second)

abbrev told_of : Strand → ℕ × List ℕ
told_of strand = (strand.phase, strand.cpus)

module _ (script : Script) (p cpu : ℕ) (lone : lone_cpu (calls_of script p) ≡ Some cpu) where
  -- of this phase it has all CPUs
  abbrev IsWholeThere : ℕ × List ℕ → Type 0
  IsWholeThere of = of.0 ≡ p → of.1 ≡ range_with_len 0 script.shape.cpus

  by_workers : (q : ℕ) → lone_cpu (calls_of script q) ≡ None → (cpus : List ℕ) → AllByRecursion IsWholeThere (map (λ c. (q, c ∷ [])) cpus)
  by_workers q none [] = tt
  by_workers q none (c ∷ cpus) =
      ((λ (same : q ≡ p). absurd (none-some cpu (sym none ∙ (ap (λ (k : ℕ). lone_cpu (calls_of script k)) same ∙ lone)))), by_workers q none cpus)

  by_lone : (q : ℕ) (c : Option ℕ) → lone_cpu (calls_of script q) ≡ c → AllByRecursion IsWholeThere (strands_by script.shape.cpus q c)
  by_lone q None none = by_workers q none (range_with_len 0 script.shape.cpus)
  by_lone q (Some c) one = ((λ _. refl), tt)

  in_phases : (phases : List ℕ) → AllByRecursion IsWholeThere (flat_map (strands_in script) phases)
  in_phases [] = tt
  in_phases (q ∷ phases) =
      with_both IsWholeThere (strands_in script q) (flat_map (strands_in script) phases) (by_lone q (lone_cpu (calls_of script q)) refl) (in_phases phases)

  strand_there : (strands : List Strand) (i : ℕ) (strand : Strand) → AllByRecursion IsWholeThere (map told_of strands) → slice_get strands i ≡ Some strand → IsWholeThere (told_of strand)
  strand_there [] i strand all at = absurd (none-some strand at)
  strand_there (s ∷ strands) zero strand all at = subst (λ (x : Strand). IsWholeThere (told_of x)) (same_Some s strand at) all.0
  strand_there (s ∷ strands) (suc i) strand all at = strand_there strands i strand all.1 at

pub lone_phase_is_whole : LonePhaseIsWhole
lone_phase_is_whole script kept i p cpu strand lone at of part is =
    let all : AllByRecursion (IsWholeThere script p cpu lone) (map told_of kept.strands) =
    subst (AllByRecursion (IsWholeThere script p cpu lone)) (sym is.strand_each) (in_phases script p cpu lone (range_with_len 0 (phase_count script.cuts))) in
    part (strand_there script p cpu lone kept.strands i strand all at of)
