-- Which verdict a well-shaped record of a well-formed script has.
use Rattle.std.specs.Prelude.{suc, Some, length}
use Rattle.map_script.specs.declared.script.Script.{Script}
use Rattle.place_words.specs.Interleaving.{CoreRun}
use Rattle.map_report.specs.declared.record.RunRecord.{RunRecord}
use Rattle.map_report.specs.Record.{IsRecord}
use Rattle.record_flaws.specs.First.{IsFirstWrong}
use Rattle.record_flaws.specs.PhaseFlaws.{ArePhasesRight, IsRightPhase}
use Rattle.record_flaws.specs.StrandFlaws.{AreStrandsRight, IsRightPlace}
use Rattle.record_order.specs.Tickets as tickets
use Rattle.record_flaws.specs.declared.verdict.Flaw.{Flaw}
use Rattle.record_flaws.specs.declared.verdict.Flaw.TheVariants as flaws
use Rattle.record_flaws.specs.declared.verdict.Verdict.{Verdict}
use Rattle.record_flaws.specs.declared.verdict.Verdict.TheVariants.{Yes, No}
use Rattle.record_check.specs.Flaws.{AreLegal, IsFirstTurn, AreCallsRight, IsFirstCall, AreFinalsRight, IsFirstStep}

-- Each flaw is judged where what stands above it is met, and is the first of its sort.
abbrev pub IsFlaw : Script → RunRecord → Flaw → Type 0
IsFlaw script kept (flaws.History lock index) = IsFirstTurn script kept lock index
IsFlaw script kept (flaws.Phase phase) =
    AreLegal script kept.histories × IsFirstWrong (IsRightPhase script kept) (length kept.phases) (Some phase)
IsFlaw script kept (flaws.Strand index) =
    AreLegal script kept.histories × ArePhasesRight script kept
    × IsFirstWrong (IsRightPlace script kept) (suc (length kept.strands)) (Some index)
IsFlaw script kept (flaws.Call call) =
    AreLegal script kept.histories × ArePhasesRight script kept × AreStrandsRight script kept × IsFirstCall script kept call
IsFlaw script kept flaws.Finals =
    AreLegal script kept.histories × ArePhasesRight script kept × AreStrandsRight script kept × AreCallsRight script kept
    × (AreFinalsRight script kept → ⊥)
IsFlaw script kept (flaws.Ticket lock index) =
    AreLegal script kept.histories × ArePhasesRight script kept × AreStrandsRight script kept × AreCallsRight script kept
    × AreFinalsRight script kept × tickets.IsFirstFlaw kept.histories kept.strands (record { lock = lock; index = index })
IsFlaw script kept (flaws.Step ticket) = IsRecord script kept × IsFirstStep script kept ticket

-- It is Yes exactly where the record is one of the script by the rules and its turns are a run of the core: where it is No there is a
-- flaw, and then it isn't such.
abbrev pub IsVerdict : Script → RunRecord → Verdict → Type 0
IsVerdict script kept Yes = IsRecord script kept × CoreRun script.shape kept.histories
IsVerdict script kept (No flaw) = IsFlaw script kept flaw × (IsRecord script kept × CoreRun script.shape kept.histories → ⊥)
