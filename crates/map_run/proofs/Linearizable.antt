-- Records are linearizable where the starts of their phases never fall.
use Rattle.std.proofs.Common.{◌≡◌, ℕ, ◌<◌, ◌≤◌, inl, inr, List, [], ◌∷◌, ◌++◌, length, map, Some, refl, ap, sym, ◌∙◌, subst, arith}
use Rattle.std.specs.Prelude.{slice_get}
use Rattle.std.proofs.lemmas.List.Elements.{All-weaker}
use Rattle.std.proofs.lemmas.Option.{same_Some}
use Rattle.map_script.specs.declared.script.Script.{Script}
use Rattle.map_script.specs.WellFormed.{AreCuts, IsCallOn, IsWellFormed}
use Rattle.map_copy.specs.Copied.{Step}
use Rattle.map_copy.specs.CopyScripts.{extended}
use Rattle.map_copy.proofs.ScriptLemmas.{has_extended}
use Rattle.map_report.specs.declared.record.PhaseStart.{PhaseStart}
use Rattle.map_report.specs.declared.record.RunRecord.{RunRecord}
use Rattle.map_report.specs.Record.{StartsRise}
use Rattle.map_report.specs.Runs.{serial}
use Rattle.place_words.specs.Interleaving.{Drawn}
use Rattle.place_words.specs.Phases.{phase_count}
use Rattle.place_words.specs.Tickets.{all_entries}
use Rattle.run_records.specs.Races.{IsRaceRecord}
use Rattle.serial_laws.specs.Served.{IsCallFor, SuitsItsMap}
use Rattle.serial_laws.proofs.AnyRecord.{suited_is_record, suited_starts_rise}
use Rattle.serial_laws.proofs.ServedLemmas.{well_formed_suits}
use Rattle.turn_order.specs.Ordered.{ordered}
use Rattle.turn_order.specs.OrderLaws.{turn_count}
use Rattle.turn_order.proofs.Members.{IsAmong, among_back, contains_among}
use Rattle.step_check.proofs.Begun.{Stands}
use Rattle.race_words.proofs.Inner.{Ascend, CallsRise}
use Rattle.race_words.proofs.Phases.{ascend_of, calls_rise, ordered_in, phases_rise}
use Rattle.one_map.specs.Linear.{IsLinearizable}
use Rattle.one_map.proofs.AnyRecord.{records_are_one_map}
use Rattle.map_run.specs.Linear.{RecordsAreLinearizable, SerialIsLinearizable, YesIsOfOneMap}

among_stands : (y : Drawn) (xs : List Drawn) → IsAmong y xs → Stands y xs
among_stands y [] there = there
among_stands y (x ∷ xs) (inl same) = inl same
among_stands y (x ∷ xs) (inr later) = inr (among_stands y xs later)

rise_at : (before : List Drawn) (first : Drawn) (later : List Drawn) → CallsRise (before ++ first ∷ later) → (y : Drawn) → Stands y later → y.entry.cpu ≡ first.entry.cpu → first.entry.call ≤ y.entry.call
rise_at [] first later rise y there cpu = rise.0 y there cpu
rise_at (x ∷ before) first later rise y there cpu = rise_at before first later rise.1 y there cpu

ascend_at : (before : List Drawn) (first : Drawn) (later : List Drawn) → Ascend (before ++ first ∷ later) → (y : Drawn) → Stands y later → first.entry.ticket < y.entry.ticket
ascend_at [] first later ascend y there = ascend.0 y there
ascend_at (x ∷ before) first later ascend y there = ascend_at before first later ascend.1 y there

pub records_are_linearizable : RecordsAreLinearizable
records_are_linearizable script kept suits record_is rise = record {
  answered = records_are_one_map script kept suits record_is;
  in_phases = λ before first later is then inside.
      let there : IsAmong then later = contains_among then later inside in
      let all : Ascend (ordered kept.histories) = ascend_of 0 (ordered kept.histories) (turn_count kept.histories) (ordered_in script kept record_is) in
      phases_rise script kept record_is rise first then
      (subst (λ (l : List Drawn). IsAmong first l) (sym is) (among_back first before (first ∷ later) (inl refl)))
      (subst (λ (l : List Drawn). IsAmong then l) (sym is) (among_back then before (first ∷ later) (inr there)))
      (ascend_at before first later (subst (λ (l : List Drawn). Ascend l) is all) then (among_stands then later there));
  in_order = λ before first later is then inside cpu.
      rise_at before first later (subst (λ (l : List Drawn). CallsRise l) is (calls_rise script kept record_is rise)) then (among_stands then later (contains_among then later inside)) cpu;
}

-- Races, and the source of a copy

pub race_is_linearizable : (script : Script) (kept : RunRecord) → IsWellFormed script → IsRaceRecord script kept → IsLinearizable script kept
race_is_linearizable script kept formed race = records_are_linearizable script kept (well_formed_suits script formed) race.is_record race.starts_rise

extended_suits : (script : Script) (steps : List Step) → IsWellFormed script → SuitsItsMap (extended script steps)
extended_suits script steps formed =
    let on_its_map = has_extended script steps formed in
    record { shape = formed.shape; calls = All-weaker (IsCallOn script.shape) (IsCallFor script.shape) (λ call on. record { cpu = on.cpu; sizes = on.sizes }) (extended script steps).calls on_its_map.calls; phases = on_its_map.phases }

pub source_is_linearizable : (script : Script) (steps : List Step) (kept : RunRecord) → IsWellFormed script → IsRaceRecord (extended script steps) kept → IsLinearizable (extended script steps) kept
source_is_linearizable script steps kept formed race =
    records_are_linearizable (extended script steps) kept (extended_suits script steps formed) race.is_record race.starts_rise

-- Runs in serial order

pub serial_is_linearizable : SerialIsLinearizable
serial_is_linearizable script suits =
    records_are_linearizable script (serial script) suits (suited_is_record script suits) (suited_starts_rise script suits)

-- Reports that are judged right

-- where there is one phase, its start is 0
one_start : (phases : List PhaseStart) (count : ℕ) → length phases ≡ 1 → slice_get phases 0 ≡ Some (record { ticket = 0; marked = [] }) → AreCuts 0 count (map (λ (start : PhaseStart). start.ticket) phases)
one_start [] count one first = tt
one_start (start ∷ []) count one first =
    let none : start.ticket ≡ 0 = ap (λ (s : PhaseStart). s.ticket) (same_Some start (record { ticket = 0; marked = [] }) first) in
    (omega arith, omega (arith, none), tt)
one_start (start ∷ next ∷ later) count one first = absurd (omega (arith, one))

pub yes_is_of_one_map : YesIsOfOneMap
yes_is_of_one_map script report formed said =
    let suits = well_formed_suits script formed in
    let kept = said.0 in
    let record_is = said.3.0 in
    let linear : StartsRise kept → IsLinearizable script kept = λ rise. records_are_linearizable script kept suits record_is rise in
    record {
      kept = kept;
      report_is = said.2;
      answered = records_are_one_map script kept suits record_is;
      linear = linear;
      in_one_phase = λ one. linear (one_start kept.phases (length (all_entries kept.histories)) (record_is.one_each ∙ ap phase_count one) record_is.first);
    }
