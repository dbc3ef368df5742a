use Rattle.std.proofs.Common.{List, length, ap, arith}
use Rattle.map_types.specs.Stored.{Stored}
use Rattle.map_batch.proofs.Emptied.{pushed_none, pushed_more, pushed_all, can_push_next, head_out, none_left}
use Rattle.map_batch.proofs.take_plain.push_all.Goals as goal

pub loop-done-init : goal.loop-done-init
loop-done-init g c = (pushed_none c.args.map.now c.args.bucket c.args.pass.now c.args.chain.now.bodies, omega (arith, c.len-count.ensures.count))

pub body_out-body-requires : goal.body_out-body-requires
body_out-body-requires g c = omega (arith, c.loop-done.invariant.1, c.loop-done-test.true)

pub push_out-requires-after_bounds : goal.push_out-requires-after_bounds
push_out-requires-after_bounds g c κs within =
    let body = c.body_out-body.result in
    let head = head_out c.loop-done.chain.bodies c.body_out-body.new.chain.bodies body c.body_out-body.ensures.found c.body_out-body.ensures.bodies in
    can_push_next body c.requires.inside c.requires.plain head c.loop-done.invariant.0

pub loop-done-preserved : goal.loop-done-preserved
loop-done-preserved g c =
    let body = c.body_out-body.result in
    let head = head_out c.loop-done.chain.bodies c.body_out-body.new.chain.bodies body c.body_out-body.ensures.found c.body_out-body.ensures.bodies in
    (pushed_more body head c.loop-done.invariant.0 c.push_out.ensures, omega (arith, c.loop-done.invariant.1, ap (λ (l : List Stored). length l) head))

pub returns : goal.returns
returns g c =
    let none = none_left c.loop-done.chain.bodies c.loop-done._done c.len-count.result c.loop-done.invariant.1 c.loop-done-test.false in
    (pushed_all none c.loop-done.invariant.0, none)
