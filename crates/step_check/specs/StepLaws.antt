-- What decides whether the turns of a record, in the order of their tickets, are a run of the core.
use Rattle.std.specs.Prelude.{ℕ, [], length}
use Rattle.map_script.specs.declared.script.Script.{Script}
use Rattle.map_script.specs.WellFormed.{IsWellFormed}
use Rattle.map_report.specs.declared.record.RunRecord.{RunRecord}
use Rattle.map_report.specs.Record.{IsRecord}
use Rattle.place_words.specs.Histories.{opening_content}
use Rattle.place_words.specs.Interleaving.{AreEnabled, CoreRun}
use Rattle.place_words.specs.OpeningState.{opening}
use Rattle.turn_order.specs.Ordered.{interleaved_to, ordered}
use Rattle.step_check.specs.Refused.{RunTo}

-- the first turns of a record may be made in the core, and they run by words
abbrev pub AreMade : Script → RunRecord → ℕ → Type 0
AreMade script kept n = AreEnabled script.shape (opening script.shape) (interleaved_to n script.shape (opening_content script.shape) [] (ordered kept.histories))

abbrev pub AreJudged : Script → RunRecord → ℕ → Type 0
AreJudged script kept n = RunTo script.shape n (ordered kept.histories)

-- The first turns of a record may be made in the core exactly where words allow them.
abbrev pub WordsDecide : Type 0
WordsDecide = (script : Script) (kept : RunRecord) → IsWellFormed script → IsRecord script kept → (n : ℕ)
    → (AreJudged script kept n → AreMade script kept n) × (AreMade script kept n → AreJudged script kept n)

-- The turns of a record are a run of the core exactly where all of them may be made.
abbrev pub RunsInOrder : Type 0
RunsInOrder = (script : Script) (kept : RunRecord) → IsRecord script kept
    → (AreMade script kept (length (ordered kept.histories)) → CoreRun script.shape kept.histories)
    × (CoreRun script.shape kept.histories → AreMade script kept (length (ordered kept.histories)))
