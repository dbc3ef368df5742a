use Rattle.std.specs.Prelude.{◌≡◌, ◌≤◌, take}
use Rattle.place_words.specs.Phases.{phase_of}
use Rattle.call_check.proofs.strand_of.phase_of.Given as goal

abbrev pub invariant-loop-cut : goal.invariant-loop-cut
invariant-loop-cut l = (l.phase ≡ phase_of (take l.cut-index l.cuts) l.call) × (l.phase ≤ l.cut-index)
