use Rattle.std.proofs.Common.{◌≡◌, ◌++◌, drop}
use Rattle.run_records.specs.Parts.{pieces_by}
use Rattle.map_run.proofs.race.pieces_of.Given as goal

-- the pieces of the CPUs so far
abbrev pub invariant-loop-count : goal.invariant-loop-count
invariant-loop-count l = record {
  cpu : l.cpu ≡ l.count-index;
  pieces : l.pieces.items ++ pieces_by l.phase l.cpu (drop l.count-index l.counts) ≡ pieces_by l.phase 0 l.counts;
}
