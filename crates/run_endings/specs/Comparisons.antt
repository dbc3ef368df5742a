-- What is written of a run in mode `compare`.
use Rattle.std.specs.Prelude.{◌≡◌, ℕ, List, Option, IsTrue}
use Rattle.map_script.specs.declared.script.Script.{Script}
use Rattle.map_report.specs.declared.record.RunRecord.{RunRecord}
use Rattle.lru_compare.specs.Comparison.{comparison}
use Rattle.lru_compare.specs.Run.{strict}
use Rattle.run_words.specs.declared.words.Mode.TheVariants.{Compare}
use Rattle.run_words.specs.Words.{are_words, asked_of, mode_of}
use Rattle.run_endings.specs.Finish.{CopyKept, out}

-- It is the comparison of the record with the script's run with strict recency, since no option may stand there.
abbrev pub WritesComparison : Type 0
WritesComparison =
    (words : List (List ℕ)) (script : Script) (kept : RunRecord) (copy : Option CopyKept) → IsTrue (are_words words) → mode_of words ≡ Compare
    → out (asked_of words) script kept copy ≡ comparison script kept (strict script)
