use Rattle.std.proofs.Common.{ℕ, ap, ◌∙◌, sym, subst}
use Rattle.map_types.specs.Stored.{Stored}
use Rattle.lru_lists.specs.Sets.{taken_off}
use Rattle.map_types.specs.declared.kind.DomainId.TheVariants.{Global}
use Rattle.place_words.specs.declared.history.Part.TheVariants as parts
use Rattle.place_words.specs.declared.list_part.GlobalPart.{GlobalPart}
use Rattle.place_table.specs.declared.content.Content.TheVariants as contents
use Rattle.place_table.specs.Passes.{CanGive, Gave}
use Rattle.lru_ops.proofs.Pushes.{push_room, push_given, push_freed}
use Rattle.lru_ops.proofs.SharedPushes.{pushing_global, can_settle_global}
use Rattle.lru_ops.proofs.push.push_global.Goals as goal

pub settle-requires : goal.settle-requires
settle-requires g c =
    can_settle_global _ _ _ _ c.args.body c.in-Set.set _ _ c.requires.can (c.element-element.ensures ∙ ap (λ (b : Stored). b.element) c.body.ensures) c.in-Set.ensures c.clear.ensures

pub free_push-requires-clause-room : goal.free_push-requires-clause-room
free_push-requires-clause-room g c =
    let e_is = c.element-element.ensures ∙ ap (λ (b : Stored). b.element) c.body.ensures in
    let x = pushing_global _ _ _ _ _ c.args.body c.in-Set.set _ _ c.requires.evicts.1 c.requires.can e_is c.in-Set.ensures c.clear.ensures c.settle.ensures in
    push_room x c.take_off.new.self (c.take_off.ensures.exact ∙ ap (λ (n : ℕ). taken_off n c.in-Set.set) e_is)

pub give-requires-after_bounds : goal.give-requires-after_bounds
give-requires-after_bounds g c κs within =
    let e_is = c.element-element.ensures ∙ ap (λ (b : Stored). b.element) c.body.ensures in
    let x = pushing_global _ _ _ _ _ c.args.body c.in-Set.set _ _ c.requires.evicts.1 c.requires.can e_is c.in-Set.ensures c.clear.ensures c.settle.ensures in
    subst (λ (z : GlobalPart). CanGive c.args.table.now Global c.settle.new.pass (contents.Set c.free_push.new.self) (parts.Global z)) (sym c.push.ensures)
    (push_given x c.element-element.result c.take_off.new.self c.free_push.new.self e_is c.take_off.ensures.exact c.free_push.ensures.exact c.free_push.ensures.whole)

pub returns : goal.returns
returns g c =
    let e_is = c.element-element.ensures ∙ ap (λ (b : Stored). b.element) c.body.ensures in
    let x = pushing_global _ _ _ _ _ c.args.body c.in-Set.set _ _ c.requires.evicts.1 c.requires.can e_is c.in-Set.ensures c.clear.ensures c.settle.ensures in
    let may = push_given x c.element-element.result c.take_off.new.self c.free_push.new.self e_is c.take_off.ensures.exact c.free_push.ensures.exact c.free_push.ensures.whole in
    push_freed x c.element-element.result c.free_push.new.self c.give.new.pass e_is may (subst (λ (z : GlobalPart). Gave c.settle.new.pass c.give.new.pass (parts.Global z)) c.push.ensures c.give.ensures)
