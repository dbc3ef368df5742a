use Rattle.std.proofs.Common.{◌-◌}
use Rattle.record_reading.proofs.CommaLemmas.{AreJoined}
use Rattle.record_reading.proofs.strand_lines.joined_numbers.Given as goal

abbrev pub invariant-loop-i : goal.invariant-loop-i
invariant-loop-i l = AreJoined l.below (l.below - l.i) l.text l.rest l.found
