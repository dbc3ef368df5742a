use Rattle.std.proofs.Common.{◌∙◌, sym, arith}
use Rattle.std.proofs.lemmas.Slice.Zip.{Zip-more, either_empty_from_Zip}
use Rattle.std.specs.Iterator.Adapters.{zip_first, zip_second}
use Rattle.std.specs.Slice.Iter.{iter_rest}
use Rattle.lru_compare.specs.Comparison.{are_equal, same}
use Rattle.lru_compare.proofs.Counts.{all_counted, one_counted}
use Rattle.lru_compare.proofs.comparison.same.Goals as goal

pub overflow_add-count : goal.overflow_add-count
overflow_add-count c =
    let more = Zip-more c.loop-reply.reply-iterator c.next.new.self c.next.result (c.in-Some.reply, c.in-Some.other) c.in-Some.is c.next.ensures.steps in
    let within = one_counted (λ pair. are_equal pair.0 pair.1) c.loop-reply.count c.in-Some.reply.now (iter_rest (zip_first c.next.new.self)) (iter_rest (zip_first c.loop-reply.reply-iterator)) c.args.replies.now
    c.in-Some.other.now (iter_rest (zip_second c.next.new.self)) (iter_rest (zip_second c.loop-reply.reply-iterator)) c.args.others.now
    c.loop-reply.invariant more.0 more.1 (sym c.are_equal.ensures ∙ c.if-are_equal.true) in
    omega (arith, within, c.iter.ensures.bound, c.iter.ensures.len)

pub returns : goal.returns
returns c =
    all_counted (λ pair. are_equal pair.0 pair.1) c.loop-reply.count (same c.args.replies.now c.args.others.now) (iter_rest (zip_first c.loop-reply.reply-iterator))
    (iter_rest (zip_second c.loop-reply.reply-iterator))
    c.loop-reply.invariant (either_empty_from_Zip c.loop-reply.reply-iterator c.next.new.self c.next.result c.in-None.is c.next.ensures.steps)
