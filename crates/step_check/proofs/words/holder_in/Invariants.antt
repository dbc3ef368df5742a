use Rattle.std.proofs.Common.{◌≡◌, drop}
use Rattle.step_check.specs.WordsView.{holder_in}
use Rattle.step_check.proofs.words.holder_in.Given as goal

abbrev pub invariant-loop-taken : goal.invariant-loop-taken
invariant-loop-taken l = holder_in l.number l.held ≡ holder_in l.number (drop l.taken-index l.held)
