use Rattle.std.proofs.Common.{◌≡◌, ◌∷◌, [], drop, ap, sym, ◌∙◌, arith}
use Rattle.std.specs.Prelude.{slice_get}
use Rattle.percpu_values.specs.Cells.{bodies_from}
use Rattle.percpu_values.specs.declared.cell.Cell.TheViews.{out-Cell}
use Rattle.bucket_chain.specs.Linked.{linked}
use Rattle.bucket_chain.proofs.Fronts.{drop_past, nothing_at, something_at, rest_more}
use Rattle.bucket_chain.proofs.Heads.{first_of}
use Rattle.bucket_chain.proofs.cells.Cells.body.Goals as goal

pub returns-in_default : goal.returns-in_default
returns-in_default c =
    let none : drop c.loop.counter c.args.self.now ≡ [] = c.loop.invariant ∙ ap linked c.in_default.is in
    sym (nothing_at c.args.place c.args.self.now (drop_past c.loop.counter c.args.place c.args.self.now none (omega (arith, c.loop-test.true))))

pub loop-preserved : goal.loop-preserved
loop-preserved c =
    let cell = c.deref.result.now in
    let at : drop c.loop.counter c.args.self.now ≡ (out-Cell cell).body ∷ linked (out-Cell cell).next =
    c.loop.invariant ∙ ap linked c.in-Some.is ∙ ap bodies_from (sym c.deref.ensures) ∙ first_of cell in
    sym (rest_more c.loop.counter c.args.self.now (out-Cell cell).body (linked (out-Cell cell).next) at)

pub returns-in-None : goal.returns-in-None
returns-in-None c =
    let none : drop c.loop.counter c.args.self.now ≡ [] = c.loop.invariant ∙ ap linked c.in-None.is in
    sym (nothing_at c.args.place c.args.self.now (drop_past c.loop.counter c.args.place c.args.self.now none (omega (arith, c.loop.auto.counter-end))))

pub returns-in-Some-rest : goal.returns-in-Some-rest
returns-in-Some-rest c =
    let cell = c.deref-in-Some-rest.result.now in
    let at : drop c.loop.counter c.args.self.now ≡ (out-Cell cell).body ∷ linked (out-Cell cell).next =
    c.loop.invariant ∙ ap linked c.in-Some-rest.is ∙ ap bodies_from (sym c.deref-in-Some-rest.ensures) ∙ first_of cell in
    let there : c.loop.counter ≡ c.args.place = omega (arith, c.loop-test.false, c.loop.auto.counter-end) in
    sym (ap (slice_get c.args.self.now) (sym there) ∙ something_at c.loop.counter c.args.self.now (out-Cell cell).body (linked (out-Cell cell).next) at)
