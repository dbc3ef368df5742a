use Rattle.map_types.proofs.CreationLemmas.{bounds_of_shape}
use Rattle.lru_compare.proofs.Runs.{run_told}
use Rattle.lru_compare.proofs.run.run.Goals as goal

pub new-requires : goal.new-requires
new-requires c = (bounds_of_shape c.args.script.now.shape c.requires.shape).some_capacity

pub returns : goal.returns
returns c =
    run_told c.args.script.now c.in_ok-cache.cache c.replies_of.new.cache c.as_slice.result.now c.in_ok-replies.replies.items c.of.result c.evicted.result
    c.in_ok-cache.ensures c.as_slice.ensures c.in_ok-replies.ensures.replies c.in_ok-replies.ensures.held c.of.ensures c.evicted.ensures
