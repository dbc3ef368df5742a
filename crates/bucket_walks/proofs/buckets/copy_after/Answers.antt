use Rattle.std.proofs.Common.{◌∙◌}
use Rattle.bucket_walks.proofs.Found.{next_last, next_some}
use Rattle.bucket_walks.proofs.buckets.copy_after.Goals as goal

pub returns-then-place-count-clause-follows : goal.returns-then-place-count-clause-follows
returns-then-place-count-clause-follows c =
    let found = c.in-Some.ensures in
    next_last c.args.key.now c.args.chain.now.bodies c.in-Some.place found.place found.holder found.found.0 (c.if-place-count.true ∙ c.len-count.ensures.count)

pub returns-clause-follows : goal.returns-clause-follows
returns-clause-follows c =
    let found = c.in-Some.ensures in
    next_some c.args.key.now c.args.chain.now.bodies c.in-Some.place c.copy_key.new.out found.place found.holder found.found.0 c.copy_key.ensures.key
