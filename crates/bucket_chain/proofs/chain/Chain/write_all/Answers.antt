use Rattle.std.proofs.Common.{ℕ, List, length, ap, sym, ◌∙◌, arith}
use Rattle.map_types.specs.Parts.{part_size, values_in}
use Rattle.map_types.specs.Stored.{Stored}
use Rattle.percpu_values.specs.BodyList.{BodyList}
use Rattle.bucket_chain.specs.Places.{values_at, with_values_at}
use Rattle.bucket_chain.proofs.ByKey.{written_its_key}
use Rattle.bucket_chain.proofs.Changes.{distinct_as, written_distinct, written_long}
use Rattle.bucket_chain.proofs.chain.Chain.write_all.Goals as goal

pub invariant_of-self : goal.invariant_of-self
invariant_of-self c =
    let distinct = written_distinct c.self.inside.cells c.write_all.new.self c.args.place _ c.write_all.ensures c.self.invariant.0 in
    let long = written_long c.self.inside.cells c.write_all.new.self c.args.place _ c.write_all.ensures in
    (distinct, omega (arith, long, c.self.invariant.1), c.self.invariant.2)

pub returns-clause-of_key : goal.returns-clause-of_key
returns-clause-of_key c =
    let bodies = c.args.self.now.bodies in
    let seen = ap (λ (list : BodyList). list.bodies) c.self.view_is in
    let distinct = distinct_as c.self.inside.cells bodies (sym seen) c.self.invariant.0 in
    c.write_all.ensures ∙ ap (λ (now : List Stored). with_values_at c.args.place (values_in (length (values_at c.args.place now)) (part_size (values_at c.args.place now)) c.args.fields.now) now) seen
    ∙ written_its_key c.args.place (λ (values : List (List ℕ)). values_in (length values) (part_size values) c.args.fields.now) bodies distinct c.requires.at_body
