use Rattle.std.proofs.Common.{◌≡◌}
use Rattle.record_reading.specs.LineReaders.{step_part}
use Rattle.record_reading.specs.Readers.{whole}
use Rattle.record_reading.specs.Sections.{one_line}
use Rattle.record_reading.proofs.LoopLemmas.{ManySoFar}
use Rattle.record_reading.proofs.strands.read_steps.Given as goal

abbrev pub invariant-loop-place : goal.invariant-loop-place
invariant-loop-place l =
    ManySoFar (one_line (whole (step_part l.shape))) l.count l.place l.initial.lines.0 l.lines.0 l.steps × (l.lines.1 ≡ l.initial.lines.1)
