use Rattle.std.proofs.Common.{◌∙◌, sym, arith}
use Rattle.std.proofs.lemmas.Slice.Zip.{Zip-more, either_empty_from_Zip}
use Rattle.std.specs.Iterator.Adapters.{zip_first, zip_second}
use Rattle.std.specs.Slice.Iter.{iter_rest}
use Rattle.lru_compare.specs.Comparison.{hits, is_hit}
use Rattle.lru_compare.proofs.Counts.{all_counted, one_counted}
use Rattle.lru_compare.proofs.comparison.hits.Goals as goal

pub overflow_add-count : goal.overflow_add-count
overflow_add-count c =
    let more = Zip-more c.loop-call.call-iterator c.next.new.self c.next.result (c.in-Some.call, c.in-Some.reply) c.in-Some.is c.next.ensures.steps in
    let within = one_counted is_hit c.loop-call.count c.in-Some.call.now (iter_rest (zip_first c.next.new.self)) (iter_rest (zip_first c.loop-call.call-iterator)) c.args.calls.now
    c.in-Some.reply.now (iter_rest (zip_second c.next.new.self)) (iter_rest (zip_second c.loop-call.call-iterator)) c.args.replies.now
    c.loop-call.invariant more.0 more.1 (sym c.is_hit.ensures ∙ c.if-is_hit.true) in
    omega (arith, within, c.iter.ensures.bound, c.iter.ensures.len)

pub returns : goal.returns
returns c =
    all_counted is_hit c.loop-call.count (hits c.args.calls.now c.args.replies.now) (iter_rest (zip_first c.loop-call.call-iterator)) (iter_rest (zip_second c.loop-call.call-iterator))
    c.loop-call.invariant (either_empty_from_Zip c.loop-call.call-iterator c.next.new.self c.next.result c.in-None.is c.next.ensures.steps)
