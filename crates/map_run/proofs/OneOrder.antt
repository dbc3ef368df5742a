-- The turns of a race in one order: what the laws of records make of the record of a race, and what is said of its report.
use Rattle.std.proofs.Common.{◌≡◌}
use Rattle.map_types.specs.Shape.{HasBounds}
use Rattle.map_script.specs.declared.script.Script.{Script}
use Rattle.map_report.specs.declared.record.RunRecord.{RunRecord}
use Rattle.place_words.specs.Interleaving.{CoreRun}
use Rattle.record_flaws.specs.declared.verdict.Said.TheVariants.{Judged}
use Rattle.record_flaws.specs.declared.verdict.Verdict.{Verdict}
use Rattle.record_flaws.specs.declared.verdict.Verdict.TheVariants.{Yes, No}
use Rattle.record_check.specs.Verdicts.{IsVerdict}
use Rattle.record_check.specs.VerdictLaws.{ReportsAreJudged}
use Rattle.run_records.specs.Races.{IsRaceRecord}
use Rattle.race_words.proofs.OwnersLook.{told_races_run}
use Rattle.map_run.specs.Judged.{RacesPass}

pub race_is_run : (script : Script) (kept : RunRecord) → HasBounds script.shape → IsRaceRecord script kept → CoreRun script.shape kept.histories
race_is_run script kept bounds race = told_races_run script kept bounds race.is_record race.starts_rise race.nests race.owners

pub races_pass : ReportsAreJudged → RacesPass
races_pass reports script kept copy said well ran is =
    let judged = reports script kept said well ran.4 is in
    by judged.0 judged.1 judged.2
  where
    by : (verdict : Verdict) → said ≡ Judged verdict → IsVerdict script kept verdict → said ≡ Judged Yes
    by Yes same verdict = same
    by (No flaw) same verdict = absurd (verdict.1 (ran.1.is_record, ran.2))
