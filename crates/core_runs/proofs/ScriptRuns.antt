-- The record of every serial run of a script is a run of the core.
use Rattle.std.proofs.Common.{◌<◌}
use Rattle.std.proofs.lemmas.List.Elements.{All-weaker}
use Rattle.map_types.specs.declared.call.Call.{Call}
use Rattle.map_script.specs.declared.script.Script.{Script}
use Rattle.map_script.specs.WellFormed.{IsWellFormed, IsCallOn}
use Rattle.place_words.specs.Logs.{run, new_state}
use Rattle.place_words.proofs.AnyStart.{done_from, new_start}
use Rattle.place_words.proofs.OnLocks.{no_others}
use Rattle.map_report.specs.Runs.{serial}
use Rattle.map_report.proofs.LogNames.{entries_are}
use Rattle.map_report.proofs.LogTickets.{entries_counted}
use Rattle.place_words.specs.Interleaving.{CoreRun}
use Rattle.core_runs.specs.Serial.{IsOnCpus, RunsOnCore}
use Rattle.core_runs.proofs.CleanRuns.{serial_runs}

pub runs_on_core : RunsOnCore
unfolding serial
runs_on_core script on =
    let none = no_others script.shape on.shape script.calls on.cpus (done_from script.shape 1 script.calls (new_state script.shape) on.cpus (new_start script.shape on.shape)).0 in
    serial_runs script.shape on.shape script.calls on.cpus (serial script).histories (λ lock is. entries_are script.shape (run script.shape 1 script.calls (new_state script.shape)) none lock)
    (entries_counted script.shape script.calls none)

-- a well-formed script's calls are on its map's CPUs
pub well_formed_on_cpus : (script : Script) → IsWellFormed script → IsOnCpus script
well_formed_on_cpus script well = record {
  shape = well.shape;
  cpus = All-weaker (IsCallOn script.shape) (λ (call : Call). call.cpu < script.shape.cpus) (λ call is. is.cpu) script.calls well.calls;
}

pub serial_record_runs : (script : Script) → IsWellFormed script → CoreRun script.shape (serial script).histories
serial_record_runs script well = runs_on_core script (well_formed_on_cpus script well)
