use Rattle.std.proofs.Common.{length, ap, ◌∙◌, arith}
use Rattle.std.specs.Prelude.{position}
use Rattle.percpu_values.specs.BodyList.{BodyList}
use Rattle.place_words.specs.Bodies.{has_key}
use Rattle.bucket_chain.proofs.Changes.{added_distinct}
use Rattle.bucket_chain.proofs.chain.Chain.add_head.Goals as goal

pub invariant_of-self : goal.invariant_of-self
invariant_of-self c =
    let seen = ap (λ (list : BodyList). list.bodies) c.self.view_is in
    let absent = ap (position (has_key c.args.body.key)) seen ∙ c.requires.absent in
    let distinct = added_distinct c.self.inside.cells c.push.new.self c.args.body c.push.ensures c.self.invariant.0 absent in
    let more = ap length c.push.ensures in
    let shown = ap length seen in
    (distinct, omega (arith, more, c.self.invariant.1), omega (arith, shown, c.self.invariant.1, c.requires.countable))
