use Rattle.map_batch.specs.Calls.{table_of}
use Rattle.run_records.specs.Races.{HaveComeTo}
use Rattle.map_run.proofs.race.race_phases.Given as goal

-- the phases so far were run
abbrev pub invariant-loop-phase : goal.invariant-loop-phase
invariant-loop-phase g l = HaveComeTo (table_of l.map) l.script l.phase l.pass l.told.replies.items l.told.starts.items l.told.pieces.items
