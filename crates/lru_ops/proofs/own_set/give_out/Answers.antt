use Rattle.std.proofs.Common.{◌<◌, sym, ap, ◌∙◌, subst}
use Rattle.map_types.specs.Stored.{Stored}
use Rattle.lru_lists.specs.Sets.{SetView}
use Rattle.lru_ops.proofs.GivingOut.{gave_out}
use Rattle.lru_ops.proofs.own_set.give_out.Goals as goal

pub returns : goal.returns
returns c =
    let body = c.in_ok-body.body in
    gave_out c.args.table.now c.args.hash c.element-element.result c.args.lock c.args.set.now c.free_pop.new.self c.move_in.new.self c.args.pass.now c.claim.new.pass c.clear.new.pass body c.clear.result c.requires.can c.requires.lock
    (sym c.in_ok-body.ensures.top) (subst (λ (z : SetView). body.element < z.elements) c.free_pop.ensures.exact c.in_ok-body.ensures.known.0) c.free_pop.ensures.exact (c.element-element.ensures ∙ ap (λ (z : Stored). z.element) c.body.ensures)
    c.move_in.ensures.exact c.move_in.ensures.whole c.claim.ensures c.clear.ensures
