use Rattle.std.proofs.Common.{ap, ◌∙◌, sym, subst}
use Rattle.map_types.specs.declared.kind.DomainId.TheVariants.{Local}
use Rattle.map_types.specs.Stored.{Stored}
use Rattle.place_words.specs.declared.history.Part.TheVariants as parts
use Rattle.place_words.specs.declared.list_part.LocalPart.{LocalPart}
use Rattle.place_table.specs.declared.content.Content.TheVariants as contents
use Rattle.place_table.specs.Passes.{CanGive, Gave}
use Rattle.lru_ops.proofs.PackedParts.{refill_packed}
use Rattle.lru_ops.proofs.Popped.{may_make_pending, lock_taken, may_give_popped, got_free}
use Rattle.lru_ops.proofs.RefillTurns.{may_refill, may_make_more, lock_still, may_give_refilled, refilled_got, refilled_none}
use Rattle.lru_ops.proofs.shared.take_local.Goals as goal

pub make_pending-requires-clause-can : goal.make_pending-requires-clause-can
make_pending-requires-clause-can g c = may_make_pending c.requires.evicts c.requires.can c.cpu_of.ensures.value c.cpu_of.ensures.within c.in-Local.is c.take.ensures

pub make_pending-requires-clause-lock : goal.make_pending-requires-clause-lock
make_pending-requires-clause-lock g c = lock_taken c.requires.evicts c.requires.can c.cpu_of.ensures.value c.cpu_of.ensures.within c.in-Local.is c.take.ensures

pub give-requires-after_bounds : goal.give-requires-after_bounds
give-requires-after_bounds g c κs within =
    subst (λ (z : LocalPart). CanGive c.args.table.now (Local c.cpu_of.result) c.make_pending.new.pass (contents.Local c.make_pending.new.lists) (parts.Local z)) (sym c.pop.ensures)
    (may_give_popped c.requires.evicts c.requires.can c.cpu_of.ensures.value c.cpu_of.ensures.within c.in-Local.is c.take.ensures c.in-Some.ensures
    (c.element-element.ensures ∙ ap (λ (z : Stored). z.element) c.body.ensures))

pub returns-in-Some : goal.returns-in-Some
returns-in-Some g c =
    got_free c.requires.evicts c.requires.can c.cpu_of.ensures.value c.cpu_of.ensures.within c.in-Local.is c.take.ensures c.in-Some.ensures
    (c.element-element.ensures ∙ ap (λ (z : Stored). z.element) c.body.ensures)
    (subst (λ (z : LocalPart). Gave c.make_pending.new.pass c.give.new.pass (parts.Local z)) c.pop.ensures c.give.ensures)

pub refill-refilled-requires-clause-can : goal.refill-refilled-requires-clause-can
refill-refilled-requires-clause-can g c κs within = may_refill c.requires.evicts c.requires.can c.cpu_of.ensures.value c.cpu_of.ensures.within c.in-Local.is c.take.ensures c.in_default-make_pending.ensures

pub make_pending-got-requires-clause-can : goal.make_pending-got-requires-clause-can
make_pending-got-requires-clause-can g c =
    may_make_more c.requires.evicts c.requires.can c.cpu_of.ensures.value c.cpu_of.ensures.within c.in-Local.is c.take.ensures c.in_default-make_pending.ensures c.refill-refilled.ensures

pub make_pending-got-requires-clause-lock : goal.make_pending-got-requires-clause-lock
make_pending-got-requires-clause-lock g c =
    lock_still c.requires.evicts c.requires.can c.cpu_of.ensures.value c.cpu_of.ensures.within c.in-Local.is c.take.ensures c.in_default-make_pending.ensures c.refill-refilled.ensures

pub give-requires-2-after_bounds : goal.give-requires-2-after_bounds
give-requires-2-after_bounds g c κs within =
    may_give_refilled c.requires.evicts c.requires.can c.cpu_of.ensures.value c.cpu_of.ensures.within c.in-Local.is c.take.ensures c.in_default-make_pending.ensures c.refill-refilled.ensures
    c.args.hash c.make_pending-got.new.lists c.make_pending-got.new.pass c.make_pending-got.result c.packed_part-part.result c.make_pending-got.ensures c.element_of.ensures (refill_packed _ _ _ _ _ c.refill_part.ensures c.packed_part-part.ensures)

pub returns-in-Some-got : goal.returns-in-Some-got
returns-in-Some-got g c =
    refilled_got c.requires.evicts c.requires.can c.cpu_of.ensures.value c.cpu_of.ensures.within c.in-Local.is c.take.ensures c.in_default-make_pending.ensures c.refill-refilled.ensures
    c.args.hash c.make_pending-got.new.lists c.make_pending-got.new.pass c.packed_part-part.result c.in-Some-got.is c.make_pending-got.ensures c.element_of.ensures (refill_packed _ _ _ _ _ c.refill_part.ensures c.packed_part-part.ensures) c.give-2.ensures

pub returns-in-None : goal.returns-in-None
returns-in-None g c =
    refilled_none c.requires.evicts c.requires.can c.cpu_of.ensures.value c.cpu_of.ensures.within c.in-Local.is c.take.ensures c.in_default-make_pending.ensures c.refill-refilled.ensures
    c.args.hash c.make_pending-got.new.lists c.make_pending-got.new.pass c.packed_part-part.result c.in-None.is c.make_pending-got.ensures c.element_of.ensures c.steal_cursor-cursor.ensures.exact (refill_packed _ _ _ _ _ c.refill_part.ensures c.packed_part-part.ensures) c.give-2.ensures
