use Rattle.std.proofs.Common.{◌<◌, ℕ, Option, sym, subst}
use Rattle.std.specs.Prelude.{IfSome}
use Rattle.map_types.specs.declared.kind.DomainId.TheVariants as locks
use Rattle.place_table.specs.declared.content.Content.{Content}
use Rattle.place_table.specs.declared.content.Content.TheVariants as contents
use Rattle.place_table.specs.Passes.{TookLock, MayGiveBack, GaveBack}
use Rattle.lru_lists.specs.declared.notes.RotateNotes.{RotateNotes}
use Rattle.lru_lists.specs.declared.notes.ShrinkNotes.{ShrinkNotes}
use Rattle.lru_ops.specs.OwnTurns.{Worked, IsOwnTurn, in_turn}
use Rattle.lru_ops.proofs.GivingOut.{can_give_out}
use Rattle.lru_ops.proofs.OwnTurns.{own_set_there, can_work, may_give_own, acquired_own}
use Rattle.lru_ops.proofs.own_set.take_own.Goals as goal

pub work_under-shrunk-requires-clause-can : goal.work_under-shrunk-requires-clause-can
work_under-shrunk-requires-clause-can g c κs within =
    let t = c.args.table.now in
    let p = c.args.pass.now in
    let q = c.take.new.pass in
    let set = c.in-Set.set in
    let took = subst (λ (z : ℕ × Content). TookLock t (locks.CpuLru z.0) p q z.1) (λ i. (c.cpu_of.ensures.value i, c.in-Set.is i)) c.take.ensures in
    let few = subst (λ (n : ℕ). n < t.shape.cpus) c.cpu_of.ensures.value c.cpu_of.ensures.within in
    can_work t p q set c.requires.evicts.0 c.requires.evicts.1 (own_set_there t.shape p.cpu c.requires.evicts.1 c.requires.own_lists few) c.requires.can took

pub give_out-got-requires-clause-can : goal.give_out-got-requires-clause-can
give_out-got-requires-clause-can g c =
    let t = c.args.table.now in
    let p = c.args.pass.now in
    let q = c.take.new.pass in
    let set = c.in-Set.set in
    let took = subst (λ (z : ℕ × Content). TookLock t (locks.CpuLru z.0) p q z.1) (λ i. (c.cpu_of.ensures.value i, c.in-Set.is i)) c.take.ensures in
    let few = subst (λ (n : ℕ). n < t.shape.cpus) c.cpu_of.ensures.value c.cpu_of.ensures.within in
    can_give_out (can_work t p q set c.requires.evicts.0 c.requires.evicts.1 (own_set_there t.shape p.cpu c.requires.evicts.1 c.requires.own_lists few) c.requires.can took) c.work_under-shrunk.ensures

pub give-requires-after_bounds : goal.give-requires-after_bounds
give-requires-after_bounds g c κs within =
    let t = c.args.table.now in
    let p = c.args.pass.now in
    let q = c.take.new.pass in
    let set = c.in-Set.set in
    let w = c.work_under-shrunk in
    let took = subst (λ (z : ℕ × Content). TookLock t (locks.CpuLru z.0) p q z.1) (λ i. (c.cpu_of.ensures.value i, c.in-Set.is i)) c.take.ensures in
    let few = subst (λ (n : ℕ). n < t.shape.cpus) c.cpu_of.ensures.value c.cpu_of.ensures.within in
    let worked = subst (λ (z : RotateNotes × ShrinkNotes). Worked t (in_turn set z.0 z.1) (in_turn w.new.set w.new.turning w.new.shrinking) w.result q w.new.pass) (λ i. (c.empty-turning.ensures i, c.empty-shrinking.ensures i)) w.ensures in
    let told = subst (λ (z : Option ℕ). IfSome c.own_turn-part.result (IsOwnTurn c.args.hash w.new.turning w.result w.new.shrinking z)) c.element_of.ensures c.own_turn-part.ensures.told in
    subst (λ (n : ℕ). MayGiveBack t (locks.CpuLru n) c.give_out-got.new.pass (contents.Set c.give_out-got.new.set) c.own_turn-part.result) (sym c.cpu_of.ensures.value)
    (may_give_own c.args.hash c.give_out-got.new.set c.give_out-got.new.pass c.give_out-got.result c.requires.evicts.0 c.requires.evicts.1 c.requires.own_lists few c.requires.can took worked c.give_out-got.ensures c.own_turn-part.result told)

pub returns : goal.returns
returns g c =
    let t = c.args.table.now in
    let p = c.args.pass.now in
    let q = c.take.new.pass in
    let set = c.in-Set.set in
    let w = c.work_under-shrunk in
    let took = subst (λ (z : ℕ × Content). TookLock t (locks.CpuLru z.0) p q z.1) (λ i. (c.cpu_of.ensures.value i, c.in-Set.is i)) c.take.ensures in
    let few = subst (λ (n : ℕ). n < t.shape.cpus) c.cpu_of.ensures.value c.cpu_of.ensures.within in
    let worked = subst (λ (z : RotateNotes × ShrinkNotes). Worked t (in_turn set z.0 z.1) (in_turn w.new.set w.new.turning w.new.shrinking) w.result q w.new.pass) (λ i. (c.empty-turning.ensures i, c.empty-shrinking.ensures i)) w.ensures in
    let told = subst (λ (z : Option ℕ). IfSome c.own_turn-part.result (IsOwnTurn c.args.hash w.new.turning w.result w.new.shrinking z)) c.element_of.ensures c.own_turn-part.ensures.told in
    let gave = subst (λ (n : ℕ). GaveBack t (locks.CpuLru n) c.give_out-got.new.pass c.give.new.pass (contents.Set c.give_out-got.new.set) c.own_turn-part.result) c.cpu_of.ensures.value c.give.ensures in
    acquired_own c.args.hash c.give_out-got.new.set c.give_out-got.new.pass c.give_out-got.result c.requires.evicts.0 c.requires.evicts.1 c.requires.own_lists few c.requires.can took worked c.give_out-got.ensures c.own_turn-part.result told c.give.new.pass gave
