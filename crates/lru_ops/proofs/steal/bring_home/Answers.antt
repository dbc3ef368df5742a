use Rattle.std.proofs.Common.{sym, subst}
use Rattle.map_types.specs.declared.kind.DomainId.TheVariants.{Local}
use Rattle.place_words.specs.declared.history.Part.TheVariants as parts
use Rattle.place_words.specs.declared.list_part.LocalPart.{LocalPart}
use Rattle.place_table.specs.declared.content.Content.TheVariants as contents
use Rattle.place_table.specs.Passes.{CanGive, Gave}
use Rattle.lru_ops.proofs.BroughtHome.{may_come, is_absent, may_give_brought, brought_home}
use Rattle.lru_ops.proofs.steal.bring_home.Goals as goal

pub rehome-requires : goal.rehome-requires
rehome-requires g c = may_come c.requires.evicts c.requires.can c.cpu_of.ensures.value c.cpu_of.ensures.within c.in-Local.is c.take.ensures

pub add_pending-requires-clause-absent : goal.add_pending-requires-clause-absent
add_pending-requires-clause-absent g c = is_absent c.requires.evicts c.requires.can c.cpu_of.ensures.value c.cpu_of.ensures.within c.in-Local.is c.take.ensures c.rehome.ensures

pub give-requires-after_bounds : goal.give-requires-after_bounds
give-requires-after_bounds g c κs within =
    subst (λ (z : LocalPart). CanGive c.args.table.now (Local c.cpu_of.result) c.clear.new.pass (contents.Local c.set_steal_cursor.new.self) (parts.Local z)) (sym c.add.ensures)
    (may_give_brought c.requires.evicts c.requires.can c.cpu_of.ensures.value c.cpu_of.ensures.within c.in-Local.is c.take.ensures c.rehome.ensures
    c.args.from c.clear.ensures c.shape.ensures c.ring_next-cursor.ensures.exact c.ring_next-cursor.ensures.below c.add_pending.ensures.exact c.set_steal_cursor.ensures.exact c.set_steal_cursor.ensures.whole)

pub returns : goal.returns
returns g c =
    brought_home c.requires.evicts c.requires.can c.cpu_of.ensures.value c.cpu_of.ensures.within c.in-Local.is c.take.ensures c.rehome.ensures
    c.args.from c.clear.ensures c.shape.ensures c.ring_next-cursor.ensures.exact c.ring_next-cursor.ensures.below c.add_pending.ensures.exact c.set_steal_cursor.ensures.exact c.set_steal_cursor.ensures.whole
    (subst (λ (z : LocalPart). Gave c.clear.new.pass c.give.new.pass (parts.Local z)) c.add.ensures c.give.ensures)
