use Rattle.std.proofs.Common.{arith}
use Rattle.lru_compare.proofs.Runs.{goes_on}
use Rattle.lru_compare.proofs.cache.replies_of.Goals as goal

pub loop-call-preserved : goal.loop-call-preserved
loop-call-preserved c =
    let next = goes_on c.args.cache.now c.loop-call.cache c.answer.new.self c.args.calls.now c.loop-call.call-index c.call-item.result c.loop-call.replies.items c.push.new.self.items c.in_ok-answer.field-0
    c.loop-call-test.true c.call-item.is c.in_ok-answer.ensures.held c.in_ok-answer.ensures.reply c.in_ok-push.ensures.items c.loop-call.invariant.held c.loop-call.invariant.replies in
    record { held = next.0; replies = next.1; count = omega (arith, next.2, c.loop-call.invariant.count) }
