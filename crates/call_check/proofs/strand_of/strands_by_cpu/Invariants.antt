use Rattle.std.specs.Prelude.{◌≡◌, ◌+◌, ◌*◌, length}
use Rattle.call_check.proofs.StrandOf.{FirstLead}
use Rattle.call_check.proofs.strand_of.strands_by_cpu.Given as goal

abbrev pub invariant-loop-place : goal.invariant-loop-place
invariant-loop-place l = (length l.table.items ≡ (length l.script.cuts + 1) * 16) × FirstLead l.strands l.table.items l.place
