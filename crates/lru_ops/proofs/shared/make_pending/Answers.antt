use Rattle.std.proofs.Common.{ap, ◌∙◌}
use Rattle.map_types.specs.Stored.{Stored}
use Rattle.lru_ops.proofs.MadePending.{can_claim_free, can_clear_free, made_pending}
use Rattle.lru_ops.proofs.shared.make_pending.Goals as goal

pub claim-requires : goal.claim-requires
claim-requires c =
    can_claim_free c.element-element.result c.args.lock c.requires.can c.requires.lock c.in_ok-body.ensures.top (c.element-element.ensures ∙ ap (λ (z : Stored). z.element) c.body.ensures)

pub clear-requires : goal.clear-requires
clear-requires c =
    can_clear_free c.element-element.result c.args.lock c.requires.can c.in_ok-body.ensures.top (c.element-element.ensures ∙ ap (λ (z : Stored). z.element) c.body.ensures) c.claim.ensures

pub returns : goal.returns
returns c =
    made_pending c.args.table.now c.args.hash c.element-element.result c.args.lock c.args.lists.now c.pop_free.new.self c.add_pending.new.self c.args.pass.now c.claim.new.pass c.clear.new.pass c.in_ok-body.body c.clear.result c.requires.can c.requires.lock
    c.in_ok-body.ensures.top c.pop_free.ensures.exact (c.element-element.ensures ∙ ap (λ (z : Stored). z.element) c.body.ensures)
    c.add_pending.ensures.exact c.add_pending.ensures.whole c.claim.ensures c.clear.ensures
