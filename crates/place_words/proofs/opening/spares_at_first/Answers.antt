use Rattle.std.proofs.Common.{◌∙◌, arith}
use Rattle.place_words.specs.Openings.{opening_stack}
use Rattle.place_words.proofs.StartLemmas.{flat_next, spares_at_end}
use Rattle.place_words.proofs.opening.spares_at_first.Goals as goal

pub loop-cpu-preserved : goal.loop-cpu-preserved
loop-cpu-preserved c =
    flat_next (opening_stack c.args.shape.now) c.loop-cpu.cpu c.loop-cpu.list.items c.as_slice.result.now c.extend_from_slice.new.self.items c.loop-cpu.invariant (c.as_slice.ensures.value ∙ c.in_ok-stack.ensures) c.in_ok-extend_from_slice.ensures.items

pub returns : goal.returns
returns c =
    spares_at_end c.args.shape.now c.loop-cpu.cpu c.loop-cpu.list.items c.truncate.new.self.items c.loop-cpu.invariant (omega (arith, c.loop-cpu.auto.cpu-end, c.loop-cpu-test.false)) c.truncate.ensures.items
