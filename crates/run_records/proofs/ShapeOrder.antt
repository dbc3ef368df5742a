-- The phases of the strands of a run never fall.
use Rattle.std.proofs.Common.{ℕ, zero, suc, ◌+◌, ◌≤◌, List, [], ◌∷◌, ◌++◌, map, sym, subst, arith}
use Rattle.std.specs.Prelude.{None, Some, Option}
use Rattle.std.specs.List.{flat_map, range_with_len}
use Rattle.std.proofs.lemmas.List.Concat.{flat_map-cons}
use Rattle.map_script.specs.declared.script.Script.{Script}
use Rattle.place_words.specs.declared.history.Strand.{Strand}
use Rattle.place_words.specs.Phases.{phase_count}
use Rattle.map_report.specs.declared.record.RunRecord.{RunRecord}
use Rattle.map_report.specs.Runs.{serial, strand_of_phase}
use Rattle.record_shape.specs.OfTable.{NeverFall}
use Rattle.run_records.specs.Parts.{lone_cpu}
use Rattle.run_records.specs.Races.{IsRaceRecord, calls_of, strands_by, strands_in}

-- The phases of a race's strands

abbrev Pair : Type 0
Pair = ℕ × List ℕ

abbrev phase_and_cpus : Strand → Pair
phase_and_cpus strand = (strand.phase, strand.cpus)

-- the phases of these never fall, and are below `to`, or the last is at most `to`
abbrev Rise : ℕ → List Pair → Type 0
Rise least [] = Unit {0}
Rise least (pair ∷ pairs) = (least ≤ pair.0) × Rise pair.0 pairs

-- so do they from a lower one on
rise_from : (low least : ℕ) (pairs : List Pair) → low ≤ least → Rise least pairs → Rise low pairs
rise_from low least [] less rise = tt
rise_from low least (pair ∷ pairs) less rise = (let first : least ≤ pair.0 = rise.0 in omega (arith, less, first), rise.1)

-- all of one phase, and then what rises from there on
rise_on : (p : ℕ) (cpus : List ℕ) (pairs : List Pair) → Rise p pairs → Rise p (map (λ cpu. (p, cpu ∷ [])) cpus ++ pairs)
rise_on p [] pairs rise = rise
rise_on p (cpu ∷ cpus) pairs rise = (omega arith, rise_on p cpus pairs rise)

module _ (script : Script) where
  rise_phase : (p : ℕ) (lone : Option ℕ) (pairs : List Pair) → Rise p pairs → Rise p (strands_by script.shape.cpus p lone ++ pairs)
  rise_phase p None pairs rise = rise_on p (range_with_len 0 script.shape.cpus) pairs rise
  rise_phase p (Some cpu) pairs rise = (omega arith, rise)

  rise_all : (p n : ℕ) → Rise p (flat_map (strands_in script) (range_with_len p n))
  rise_all p zero = tt
  rise_all p (suc n) =
      subst (Rise p) (sym (flat_map-cons (strands_in script) p (range_with_len (p + 1) n)))
      (rise_phase p (lone_cpu (calls_of script p)) (flat_map (strands_in script) (range_with_len (p + 1) n)) (rise_from p (p + 1) (flat_map (strands_in script) (range_with_len (p + 1) n)) (omega arith) (rise_all (p + 1) n)))

never_fall : (least : ℕ) (strands : List Strand) → Rise least (map phase_and_cpus strands) → NeverFall least strands
never_fall least [] rise = tt
never_fall least (strand ∷ strands) rise = (rise.0, never_fall strand.phase strands rise.1)

pub race_in_order : (script : Script) (kept : RunRecord) → IsRaceRecord script kept → NeverFall 0 kept.strands
race_in_order script kept is = never_fall 0 kept.strands (subst (Rise 0) (sym is.strand_each) (rise_all script 0 (phase_count script.cuts)))

-- The phases of the strands of a run in serial order

serial_rise : (script : Script) (least p n : ℕ) → least ≤ p → NeverFall least (map (strand_of_phase script) (range_with_len p n))
serial_rise script least p zero less = tt
serial_rise script least p (suc n) less = (less, serial_rise script p (p + 1) n (omega arith))

pub serial_in_order : (script : Script) → NeverFall 0 (serial script).strands
unfolding serial
serial_in_order script = serial_rise script 0 0 (phase_count script.cuts) (omega arith)
