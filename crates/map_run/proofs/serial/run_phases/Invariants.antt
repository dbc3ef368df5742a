use Rattle.std.proofs.Common.{◌≡◌, length}
use Rattle.place_words.specs.Phases.{calls_before}
use Rattle.map_batch.specs.Calls.{table_of}
use Rattle.run_records.specs.SerialPhases.{HaveRunPhases}
use Rattle.map_run.proofs.serial.run_phases.Given as goal

-- the phases so far were run
abbrev pub invariant-loop-phase : goal.invariant-loop-phase
invariant-loop-phase g l = record {
  ran : HaveRunPhases (table_of l.map) l.script l.phase l.pass l.replies.items l.starts.items l.pieces.items;
  first : l.first ≡ calls_before l.script.cuts (length l.script.calls) l.phase;
}
