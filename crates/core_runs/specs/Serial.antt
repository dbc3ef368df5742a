-- What is said of serial runs on the core.
use Rattle.std.specs.Prelude.{◌<◌, All}
use Rattle.map_types.specs.Creation.{IsShape}
use Rattle.map_types.specs.declared.call.Call.{Call}
use Rattle.map_script.specs.declared.script.Script.{Script}
use Rattle.map_report.specs.Runs.{serial}
use Rattle.place_words.specs.Interleaving.{CoreRun}

-- A map that can be created, and calls on its CPUs: each well-formed script has these, and so has that of a copy's puts.
pub record IsOnCpus (script : Script) : Type 0 where
  pub shape : IsShape script.shape
  pub cpus : All (λ (call : Call). call.cpu < script.shape.cpus) script.calls

-- The histories of the record in serial order are those of a run of the core.
abbrev pub RunsOnCore : Type 0
RunsOnCore = (script : Script) → IsOnCpus script → CoreRun script.shape (serial script).histories
