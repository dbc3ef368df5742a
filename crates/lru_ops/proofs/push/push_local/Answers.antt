use Rattle.std.proofs.Common.{ℕ, refl, ap, ◌∙◌, sym, subst}
use Rattle.map_types.specs.declared.kind.DomainId.TheVariants.{Local}
use Rattle.map_types.specs.Stored.{Stored}
use Rattle.place_words.specs.declared.history.Part.TheVariants as parts
use Rattle.place_words.specs.declared.list_part.LocalPart.{LocalPart}
use Rattle.place_table.specs.declared.content.Content.TheVariants as contents
use Rattle.place_table.specs.Passes.{CanGive, Gave}
use Rattle.local_lists.specs.LocalLists.{without_pending}
use Rattle.lru_ops.proofs.SharedPushes.{was_pending, was_not_pending, pushing_local, local_push_room, local_given, local_freed, missing, left_given, left_moved}
use Rattle.lru_ops.proofs.push.push_local.Goals as goal

pub push_free-requires-clause-room : goal.push_free-requires-clause-room
push_free-requires-clause-room g c =
    let e_is = c.element-element.ensures ∙ ap (λ (b : Stored). b.element) c.body.ensures in
    let pending = was_pending c.element-element.result c.in-Local.lists.pending _ _ c.take_pending.ensures.present c.is_some.ensures c.if-is_some.true in
    let x = pushing_local _ _ _ _ _ c.args.body c.in-Local.lists c.args.cpu _ _ c.requires.evicts.1 c.requires.can e_is c.in-Local.ensures pending c.clear.ensures c.settle.ensures in
    local_push_room x c.take_pending.new.self (c.take_pending.ensures.exact ∙ ap (λ (n : ℕ). without_pending n c.in-Local.lists) e_is)

pub give-requires-after_bounds : goal.give-requires-after_bounds
give-requires-after_bounds g c κs within =
    let e_is = c.element-element.ensures ∙ ap (λ (b : Stored). b.element) c.body.ensures in
    let pending = was_pending c.element-element.result c.in-Local.lists.pending _ _ c.take_pending.ensures.present c.is_some.ensures c.if-is_some.true in
    let x = pushing_local _ _ _ _ _ c.args.body c.in-Local.lists c.args.cpu _ _ c.requires.evicts.1 c.requires.can e_is c.in-Local.ensures pending c.clear.ensures c.settle.ensures in
    subst (λ (z : LocalPart). CanGive c.args.table.now (Local c.args.cpu) c.settle.new.pass (contents.Local c.push_free.new.self) (parts.Local z)) (sym c.push.ensures)
    (local_given x c.element-element.result c.take_pending.new.self c.push_free.new.self e_is c.take_pending.ensures.exact c.push_free.ensures.exact c.push_free.ensures.whole)

pub give-requires-else-is_some-after_bounds : goal.give-requires-else-is_some-after_bounds
give-requires-else-is_some-after_bounds g c κs within =
    let e_is = c.element-element.ensures ∙ ap (λ (b : Stored). b.element) c.body.ensures in
    let none = was_not_pending c.element-element.result c.in-Local.lists.pending _ _ c.take_pending.ensures.present c.is_some.ensures c.if-is_some.false in
    let x = missing _ _ _ c.args.body c.in-Local.lists c.args.cpu _ c.requires.evicts.1 c.requires.can c.requires.lies e_is c.in-Local.ensures none in
    subst (λ (z : LocalPart). CanGive c.args.table.now (Local c.args.cpu) c.take.new.pass (contents.Local c.take_pending.new.self) (parts.Local z)) (sym c.push-else-is_some.ensures)
    (left_given x c.element-element.result c.take_pending.new.self e_is c.take_pending.ensures.exact)

pub returns-then-is_some : goal.returns-then-is_some
returns-then-is_some g c =
    let e_is = c.element-element.ensures ∙ ap (λ (b : Stored). b.element) c.body.ensures in
    let pending = was_pending c.element-element.result c.in-Local.lists.pending _ _ c.take_pending.ensures.present c.is_some.ensures c.if-is_some.true in
    let x = pushing_local _ _ _ _ _ c.args.body c.in-Local.lists c.args.cpu _ _ c.requires.evicts.1 c.requires.can e_is c.in-Local.ensures pending c.clear.ensures c.settle.ensures in
    let may = local_given x c.element-element.result c.take_pending.new.self c.push_free.new.self e_is c.take_pending.ensures.exact c.push_free.ensures.exact c.push_free.ensures.whole in
    local_freed x c.element-element.result c.push_free.new.self c.give.new.pass e_is may (subst (λ (z : LocalPart). Gave c.settle.new.pass c.give.new.pass (parts.Local z)) c.push.ensures c.give.ensures)

pub returns-else-is_some : goal.returns-else-is_some
returns-else-is_some g c =
    let e_is = c.element-element.ensures ∙ ap (λ (b : Stored). b.element) c.body.ensures in
    let none = was_not_pending c.element-element.result c.in-Local.lists.pending _ _ c.take_pending.ensures.present c.is_some.ensures c.if-is_some.false in
    let x = missing _ _ _ c.args.body c.in-Local.lists c.args.cpu _ c.requires.evicts.1 c.requires.can c.requires.lies e_is c.in-Local.ensures none in
    let may = left_given x c.element-element.result c.take_pending.new.self e_is c.take_pending.ensures.exact in (
      refl,
      left_moved x c.element-element.result c.take_pending.new.self c.give-else-is_some.new.pass e_is may
          (subst (λ (z : LocalPart). Gave c.take.new.pass c.give-else-is_some.new.pass (parts.Local z)) c.push-else-is_some.ensures c.give-else-is_some.ensures),
    )
