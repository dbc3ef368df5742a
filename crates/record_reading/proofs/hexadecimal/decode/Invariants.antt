use Rattle.record_reading.proofs.DecodeLemmas.{DecodedSoFar}
use Rattle.record_reading.proofs.hexadecimal.decode.Given as goal

abbrev pub invariant-loop-i : goal.invariant-loop-i
invariant-loop-i l = DecodedSoFar l.worst l.i l.digits l.bytes
