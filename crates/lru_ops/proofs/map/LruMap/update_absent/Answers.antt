use Rattle.std.proofs.Common.{ap, sym, subst, ◌∙◌, Some}
use Rattle.map_types.specs.Stored.{Stored}
use Rattle.place_words.specs.declared.bucket_part.Put.TheVariants as puts
use Rattle.place_table.specs.Passes.{TableView}
use Rattle.place_table.specs.BucketHeld.{HoldsBucket}
use Rattle.place_table.specs.BucketPuts.{AreUpdateArguments, IsOffered, PutsInPlace, Adds, asked_of, update_call}
use Rattle.lru_ops.proofs.Ends.{lru_of}
use Rattle.lru_ops.proofs.Offering.{offers_absent, offers_added}
use Rattle.lru_ops.proofs.map.LruMap.update_absent.Goals as goal

pub refuse_update-requires-clause-holds : goal.refuse_update-requires-clause-holds
refuse_update-requires-clause-holds g c κs within =
    let a = c.args in
    subst (λ (z : TableView). HoldsBucket z a.taken.number a.pass.now a.taken.chain.bodies) (sym c.self.view_is) c.requires.holds

pub returns-then-write-eq-BPF_EXIST-clause-ends : goal.returns-then-write-eq-BPF_EXIST-clause-ends
returns-then-write-eq-BPF_EXIST-clause-ends g c =
    let a = c.args in
    let e_is = c.element.ensures ∙ ap (λ (z : Stored). z.element) c.body.ensures in
    offers_absent c.requires.real c.requires.offered e_is
    (subst (λ (z : TableView). PutsInPlace z a.taken.number a.pass.now c.refuse_update.new.pass (asked_of a.write.side a.write.flags a.write.key.now a.write.value.now (Some c.element.result)) puts.Absent) c.self.view_is c.refuse_update.ensures)

pub add_key-requires-clause-holds : goal.add_key-requires-clause-holds
add_key-requires-clause-holds g c κs within =
    let a = c.args in
    subst (λ (z : TableView). HoldsBucket z a.taken.number a.pass.now a.taken.chain.bodies) (sym c.self.view_is) c.requires.holds

pub add_key-requires-clause-gives : goal.add_key-requires-clause-gives
add_key-requires-clause-gives g c κs within =
    let a = c.args in
    subst (λ (z : TableView). AreUpdateArguments z a.taken.number a.write.side a.write.key.now a.write.value.now) (sym c.self.view_is) c.requires.gives

pub add_key-requires-clause-offered : goal.add_key-requires-clause-offered
add_key-requires-clause-offered g c κs within =
    let a = c.args in
    subst (λ (z : TableView). IsOffered z a.taken.number a.pass.now a.body) (sym c.self.view_is) c.requires.offered

pub returns-clause-ends : goal.returns-clause-ends
returns-clause-ends g c =
    let a = c.args in
    offers_added (lru_of _ _ c.self.view_is c.self.invariant.1)
    (subst (λ (z : TableView). Adds z a.taken.number a.pass.now c.add_key.new.pass (update_call a.write.side a.write.flags a.write.key.now a.write.value.now) a.body.element) c.self.view_is c.add_key.ensures)
