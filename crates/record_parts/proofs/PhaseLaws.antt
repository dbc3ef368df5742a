-- Each phase is right exactly where what the definition of records says of phases holds.
use Rattle.std.proofs.Common.{◌≡◌, ℕ, Bool, true, false, eqb, List, [], ◌∷◌, length, get_or, refl, ap, sym, ◌∙◌, subst, inl, inr, arith}
use Rattle.std.specs.Prelude.{MatchBool}
use Rattle.map_script.specs.declared.script.Script.{Script}
use Rattle.map_script.specs.WellFormed.{HasPhases}
use Rattle.place_words.specs.declared.history.Entry.{Entry}
use Rattle.place_words.specs.Phases.{phase_of, phase_count}
use Rattle.map_report.proofs.CutLemmas.{cuts_rise, is_phase}
use Rattle.map_report.specs.declared.record.PhaseStart.{PhaseStart}
use Rattle.record_shape.specs.ShapedParts.{StartFits}
use Rattle.record_shape.specs.WellShaped.{StartsFit, SoManyFit, only_start}
use Rattle.record_parts.specs.PartLaws.{PhasesAreJudged, RecordsHaveTheirPhases}

-- there is a start for each phase of a script
pub one_each : (script : Script) (starts : List PhaseStart) → HasPhases script.version (length script.calls) script.cuts → StartsFit script starts → length starts ≡ phase_count script.cuts
one_each script starts phases fit = elim phases.known [
  | inl first ↦
      let other : eqb script.version 2 ≡ false = ap (λ (v : ℕ). eqb v 2) first.0 in
      let one : starts ≡ only_start ∷ [] = subst (λ (b : Bool). MatchBool b (SoManyFit (phase_count script.cuts) (StartFits script.shape) starts) (starts ≡ only_start ∷ [])) other fit in
      ap length one ∙ sym (ap phase_count first.1)
  | inr second ↦
      let this : eqb script.version 2 ≡ true = ap (λ (v : ℕ). eqb v 2) second in
      let many = subst (λ (b : Bool). MatchBool b (SoManyFit (phase_count script.cuts) (StartFits script.shape) starts) (starts ≡ only_start ∷ [])) this fit in
      many.1
]

pub phases_are_judged : PhasesAreJudged
phases_are_judged script kept phases fit =
    let one = one_each script kept.phases phases fit in
    let rise = cuts_rise 0 script.cuts (length script.calls) (omega arith) phases.rise in (
      λ right. record {
        one_each = one;
        first = (right 0 (omega (arith, one))).first refl;
        in_phases = λ k d in_all j e in_one.
            let entry : Entry = get_or (get_or kept.histories k d).entries j e in
            let p : ℕ = phase_of script.cuts entry.call in
            (right p (omega (arith, one, is_phase script.cuts (length script.calls) rise entry.call))).entries k d in_all j e in_one refl;
      },
      λ are p. record {
        first = λ _. are.first;
        entries = λ k d in_all j e in_one same. are.in_phases k d in_all j e in_one;
      },
    )

pub records_have_their_phases : RecordsHaveTheirPhases
records_have_their_phases script kept is = record { one_each = is.one_each; first = is.first; in_phases = is.in_phases }
