use Rattle.std.proofs.Common.{ℕ, ap, ◌∙◌, sym, subst}
use Rattle.map_types.specs.Stored.{Stored}
use Rattle.lru_lists.specs.Sets.{taken_off}
use Rattle.place_words.specs.declared.history.Part.TheVariants as parts
use Rattle.place_words.specs.declared.list_part.OwnPart.{OwnPart}
use Rattle.place_table.specs.declared.content.Content.TheVariants as contents
use Rattle.place_table.specs.Passes.{CanGive, Gave}
use Rattle.map_types.specs.declared.kind.DomainId.TheVariants.{CpuLru}
use Rattle.place_words.specs.Takings.{set_of}
use Rattle.lru_ops.proofs.Pushes.{pushing, push_room, push_given, push_freed, freed_own}
use Rattle.lru_ops.proofs.push.push_own.Goals as goal

pub free_push-requires-clause-room : goal.free_push-requires-clause-room
free_push-requires-clause-room g c =
    let e_is = c.element-element.ensures ∙ ap (λ (b : Stored). b.element) c.body.ensures in
    let x = pushing _ _ _ _ _ c.args.body c.in-Set.set _ _ _ c.requires.evicts.1 c.requires.own_lists c.requires.can e_is c.set_of.ensures.value c.set_of.ensures.in_range c.in-Set.ensures c.clear.ensures c.settle.ensures in
    push_room x c.take_off.new.self (c.take_off.ensures.exact ∙ ap (λ (n : ℕ). taken_off n c.in-Set.set) e_is)

pub give-requires-after_bounds : goal.give-requires-after_bounds
give-requires-after_bounds g c κs within =
    let e_is = c.element-element.ensures ∙ ap (λ (b : Stored). b.element) c.body.ensures in
    let x = pushing _ _ _ _ _ c.args.body c.in-Set.set _ _ _ c.requires.evicts.1 c.requires.own_lists c.requires.can e_is c.set_of.ensures.value c.set_of.ensures.in_range c.in-Set.ensures c.clear.ensures c.settle.ensures in
    subst (λ (z : OwnPart). CanGive c.args.table.now (CpuLru c.set_of.result) c.settle.new.pass (contents.Set c.free_push.new.self) (parts.Own z)) (sym c.push.ensures)
    (push_given x c.element-element.result c.take_off.new.self c.free_push.new.self e_is c.take_off.ensures.exact c.free_push.ensures.exact c.free_push.ensures.whole)

pub returns : goal.returns
returns g c =
    let e_is = c.element-element.ensures ∙ ap (λ (b : Stored). b.element) c.body.ensures in
    let x = pushing _ _ _ _ _ c.args.body c.in-Set.set _ _ _ c.requires.evicts.1 c.requires.own_lists c.requires.can e_is c.set_of.ensures.value c.set_of.ensures.in_range c.in-Set.ensures c.clear.ensures c.settle.ensures in
    let may = push_given x c.element-element.result c.take_off.new.self c.free_push.new.self e_is c.take_off.ensures.exact c.free_push.ensures.exact c.free_push.ensures.whole in
    freed_own c.requires.own_lists (c.set_of.ensures.value ∙ ap (set_of c.args.table.now.shape) e_is)
    (push_freed x c.element-element.result c.free_push.new.self c.give.new.pass e_is may (subst (λ (z : OwnPart). Gave c.settle.new.pass c.give.new.pass (parts.Own z)) c.push.ensures c.give.ensures))
