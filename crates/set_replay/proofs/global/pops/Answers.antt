use Rattle.std.proofs.Common.{ap, sym, ◌∙◌}
use Rattle.map_types.specs.Stored.{Stored}
use Rattle.set_replay.proofs.GlobalLemmas.{no_head, pop_judged}
use Rattle.set_replay.proofs.global.pops.Goals as goal

pub returns-in-None : goal.returns-in-None
returns-in-None g c = no_head c.args.element c.args.set.now.free.bodies c.free_pop.result c.free_pop.ensures.top c.in-None.is

pub returns-in-Some : goal.returns-in-Some
returns-in-Some g c =
    pop_judged c.args.element c.element-top.result c.args.set.now c.free_pop.new.self c.args.marks.now.items c.in-Some.body (sym c.free_pop.ensures.top ∙ c.in-Some.is)
    (c.element-top.ensures ∙ ap (λ (b : Stored). b.element) c.body-in-Some.ensures) c.in-Some.ensures.known.0 c.in-Some.ensures.known.1 c.requires c.free_pop.ensures.exact
