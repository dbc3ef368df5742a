use Rattle.std.proofs.Common.{true, false, refl, arith}
use Rattle.elem_walk.specs.Walks.{Answers}
use Rattle.elem_walk.proofs.Stops.{none_passed, one_passed, says_at, stops_at, stops_nowhere}
use Rattle.elem_walk.proofs.walk.ElemWalk.hand_from.Goals as goal

pub loop-i-init : goal.loop-i-init
loop-i-init g c = (none_passed (Answers g.F.Fn c.args.self.now.call) c.args.from c.args.over.now.pairs c.requires.from, refl)

pub loop-i-preserved : goal.loop-i-preserved
loop-i-preserved g c =
    let says = says_at (Answers g.F.Fn c.args.self.now.call) c.loop-i.i c.key.result.now c.value.result.now c.answer.result false c.loop-i.invariant.1 c.key.ensures.bytes c.value.ensures.bytes c.answer.ensures c.if-answer.false in
    (one_passed (Answers g.F.Fn c.args.self.now.call) c.args.from c.args.over.now.pairs c.loop-i.i c.loop-i.auto.i (omega (arith, c.loop-i-test.true, c.len-i-end.ensures)) says c.loop-i.invariant.0, c.loop-i.invariant.1)

pub returns-then-answer : goal.returns-then-answer
returns-then-answer g c =
    let says = says_at (Answers g.F.Fn c.args.self.now.call) c.loop-i.i c.key.result.now c.value.result.now c.answer.result true c.loop-i.invariant.1 c.key.ensures.bytes c.value.ensures.bytes c.answer.ensures c.if-answer.true in
    stops_at {now = c.keep.new.self} c.args.from c.loop-i.i c.loop-i.auto.i (omega (arith, c.loop-i-test.true, c.len-i-end.ensures)) says c.loop-i.invariant.0 c.loop-i.invariant.1 c.keep.ensures

pub returns : goal.returns
returns g c = stops_nowhere c.args.from c.loop-i.i (omega (arith, c.loop-i-test.false, c.len-i-end.ensures)) c.loop-i.invariant.0 c.loop-i.invariant.1
