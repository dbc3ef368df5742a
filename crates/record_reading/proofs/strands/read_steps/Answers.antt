use Rattle.std.proofs.Common.{refl}
use Rattle.record_reading.specs.LineReaders.{step_part}
use Rattle.record_reading.specs.Readers.{whole}
use Rattle.record_reading.specs.Sections.{one_line}
use Rattle.record_reading.proofs.LoopLemmas.{many_start, many_none}
use Rattle.record_reading.proofs.strands.read_steps.Goals as goal

pub loop-place-init : goal.loop-place-init
loop-place-init c = (many_start (one_line (whole (step_part c.args.shape.now))) c.args.count c.args.lines.now.0 c.of-steps.result (cc), refl)

pub returns-in_default-clause-lines : goal.returns-in_default-clause-lines
returns-in_default-clause-lines c =
    many_none (one_line (whole (step_part c.args.shape.now))) c.args.count c.loop-place.place c.args.lines.now.0 c.loop-place.lines.0 c.loop-place.steps c.loop-place.invariant.0 c.loop-place-test.true c.read_step.new.lines.0 c.in_ok-step.field-0 c.in_ok-step.ensures.lines c.in_default.is
