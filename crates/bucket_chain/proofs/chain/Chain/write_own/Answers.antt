use Rattle.std.proofs.Common.{List, ap, sym, ◌∙◌, arith}
use Rattle.map_types.specs.Parts.{written_own}
use Rattle.map_types.specs.Stored.{Stored}
use Rattle.percpu_values.specs.BodyList.{BodyList}
use Rattle.bucket_chain.specs.Places.{values_at, with_values_at}
use Rattle.bucket_chain.proofs.ByKey.{written_its_key}
use Rattle.bucket_chain.proofs.Changes.{distinct_as, written_distinct, written_long}
use Rattle.bucket_chain.proofs.chain.Chain.write_own.Goals as goal

pub invariant_of-self : goal.invariant_of-self
invariant_of-self c =
    let distinct = written_distinct c.self.inside.cells c.write_own.new.self c.args.place _ c.write_own.ensures c.self.invariant.0 in
    let long = written_long c.self.inside.cells c.write_own.new.self c.args.place _ c.write_own.ensures in
    (distinct, omega (arith, long, c.self.invariant.1), c.self.invariant.2)

pub returns-clause-of_key : goal.returns-clause-of_key
returns-clause-of_key c =
    let bodies = c.args.self.now.bodies in
    let seen = ap (λ (list : BodyList). list.bodies) c.self.view_is in
    let distinct = distinct_as c.self.inside.cells bodies (sym seen) c.self.invariant.0 in
    c.write_own.ensures ∙ ap (λ (now : List Stored). with_values_at c.args.place (written_own c.args.part c.args.value.now (values_at c.args.place now)) now) seen
    ∙ written_its_key c.args.place (written_own c.args.part c.args.value.now) bodies distinct c.requires.at_body
