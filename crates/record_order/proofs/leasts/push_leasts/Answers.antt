use Rattle.std.proofs.Common.{arith}
use Rattle.place_words.specs.Entries.{entry_read}
use Rattle.record_order.proofs.Loops.{least_more}
use Rattle.record_order.proofs.leasts.push_leasts.Goals as goal

pub loop-index-preserved : goal.loop-index-preserved
loop-index-preserved c =
    let entry = entry_read c.at.result in
    least_more c.args.entries.now c.loop-index.index entry (omega (arith, c.len-index-end.ensures, c.loop-index-test.true)) (c.at.ensures.whatever entry)
    c.loop-index.leasts.items c.push.new.self.items _ c.loop-index.least c.saturating_add-least.result c.saturating_add-least.ensures c.in_ok-push.ensures.items c.loop-index.invariant
