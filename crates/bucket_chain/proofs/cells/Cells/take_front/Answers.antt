use Rattle.std.proofs.Common.{◌≡◌, [], ◌∷◌, drop, reverse, ap, sym, ◌∙◌, arith}
use Rattle.bucket_chain.proofs.Fronts.{front_more, rest_more, drop_past, take_past}
use Rattle.bucket_chain.proofs.cells.Cells.take_front.Goals as goal

pub returns-in-None-clause-front : goal.returns-in-None-clause-front
returns-in-None-clause-front c =
    let none : drop c.loop.counter c.args.self.now ≡ [] = sym c.loop.invariant.1 ∙ c.in-None.ensures.0 in
    c.loop.invariant.0 ∙ ap reverse (take_past c.loop.counter c.args.place c.args.self.now none (omega (arith, c.loop-test.true)))

pub returns-in-None-clause-rest : goal.returns-in-None-clause-rest
returns-in-None-clause-rest c =
    let none : drop c.loop.counter c.args.self.now ≡ [] = sym c.loop.invariant.1 ∙ c.in-None.ensures.0 in
    c.in-None.ensures.1 ∙ sym (drop_past c.loop.counter c.args.place c.args.self.now none (omega (arith, c.loop-test.true)))

pub loop-preserved : goal.loop-preserved
loop-preserved c =
    let at : drop c.loop.counter c.args.self.now ≡ c.in-Some.body ∷ c.pop.new.self = sym c.loop.invariant.1 ∙ c.in-Some.ensures in (
      c.push.ensures ∙ front_more c.loop.counter c.args.self.now c.in-Some.body c.pop.new.self c.loop.front at c.loop.invariant.0,
      rest_more c.loop.counter c.args.self.now c.in-Some.body c.pop.new.self at,
    )
