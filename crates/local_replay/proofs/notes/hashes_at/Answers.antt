use Rattle.std.proofs.Common.{◌∙◌, nat_cmp}
use Rattle.std.specs.BTreeMap as tree
use Rattle.local_replay.proofs.NoteLaws.{found_more}
use Rattle.local_replay.proofs.notes.hashes_at.Goals as goal

pub loop-element-preserved : goal.loop-element-preserved
loop-element-preserved c =
    found_more (tree.get nat_cmp c.args.hashes.now) c.args.elements.now c.loop-element.element-index c.loop-element.found c.push.new.self c.copied.result c.loop-element-test.true c.loop-element.invariant
    (c.copied.ensures ∙ c.get.ensures.value) c.in_ok-push.ensures.added
