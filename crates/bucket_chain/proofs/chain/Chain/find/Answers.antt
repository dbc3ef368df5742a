use Rattle.std.proofs.Common.{ap, ◌∙◌, arith}
use Rattle.std.specs.Prelude.{position}
use Rattle.percpu_values.specs.BodyList.{BodyList}
use Rattle.place_words.specs.Bodies.{has_key}
use Rattle.bucket_chain.proofs.Changes.{holder_of, found_of}
use Rattle.bucket_chain.proofs.chain.Chain.find.Goals as goal

pub position_of_key-requires : goal.position_of_key-requires
position_of_key-requires c = omega (arith, c.self.invariant.1, c.self.invariant.2)

pub returns-clause-holder : goal.returns-clause-holder
returns-clause-holder c =
    let seen = ap (λ (list : BodyList). list.bodies) c.self.view_is in
    holder_of c.args.key.now c.args.self.now.bodies c.position_of_key.result (c.position_of_key.ensures ∙ ap (position (has_key c.args.key.now)) seen)

pub returns-clause-found : goal.returns-clause-found
returns-clause-found c =
    let seen = ap (λ (list : BodyList). list.bodies) c.self.view_is in
    found_of c.args.key.now c.args.self.now.bodies c.position_of_key.result (c.position_of_key.ensures ∙ ap (position (has_key c.args.key.now)) seen)
