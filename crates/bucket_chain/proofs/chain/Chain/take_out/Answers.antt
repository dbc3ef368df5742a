use Rattle.std.proofs.Common.{◌≡◌, ◌<◌, Some, length, ap, sym, ◌∙◌, arith}
use Rattle.std.specs.Prelude.{remove, slice_get}
use Rattle.percpu_values.specs.BodyList.{BodyList}
use Rattle.bucket_chain.proofs.ByKey.{taken_by_key}
use Rattle.bucket_chain.proofs.Changes.{distinct_as, removed_distinct, removed_long, never_none}
use Rattle.bucket_chain.proofs.chain.Chain.take_out.Goals as goal

pub unreachable-requires : goal.unreachable-requires
unreachable-requires c =
    let within : c.args.place < length c.self.inside.cells = omega (arith, c.if-place-self.false, c.self.invariant.1) in
    never_none c.self.inside.cells c.args.place within (sym c.remove.ensures.taken ∙ c.in_default.is)

pub invariant_of-self : goal.invariant_of-self
invariant_of-self c =
    let cells = c.self.inside.cells in
    let within : c.args.place < length cells = omega (arith, c.if-place-self.false, c.self.invariant.1) in
    let distinct = removed_distinct cells c.remove.new.self c.args.place c.remove.ensures.rest c.self.invariant.0 in
    let fewer = removed_long cells c.remove.new.self c.args.place c.remove.ensures.rest within in
    (distinct, omega (arith, fewer, c.self.invariant.1), omega (arith, c.self.invariant.2))

pub returns-clause-of_key : goal.returns-clause-of_key
returns-clause-of_key c =
    let bodies = c.args.self.now.bodies in
    let seen = ap (λ (list : BodyList). list.bodies) c.self.view_is in
    let distinct = distinct_as c.self.inside.cells bodies (sym seen) c.self.invariant.0 in
    let found : slice_get bodies c.args.place ≡ Some c.in-Some.body = ap (λ now. slice_get now c.args.place) (sym seen) ∙ sym c.remove.ensures.taken ∙ c.in-Some.is in
    let taken = taken_by_key c.args.place bodies c.in-Some.body distinct found in
    (taken.0, c.remove.ensures.rest ∙ ap (λ now. remove now c.args.place) seen ∙ taken.1)
