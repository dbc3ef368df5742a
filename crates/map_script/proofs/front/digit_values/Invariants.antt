use Rattle.map_script.proofs.DigitLemmas.{AreValues}
use Rattle.map_script.proofs.front.digit_values.Given as goal

abbrev pub invariant-loop-i : goal.invariant-loop-i
invariant-loop-i l = AreValues l.digits l.values l.greatest l.i
