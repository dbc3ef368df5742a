use Rattle.std.proofs.Common.{ap, sym, subst, ◌∙◌, Some}
use Rattle.map_types.specs.declared.attr.Shape.{Shape}
use Rattle.map_types.specs.Kind.{is_percpu}
use Rattle.map_types.specs.Stored.{Stored}
use Rattle.place_words.specs.declared.bucket_part.Put.TheVariants as puts
use Rattle.place_table.specs.Passes.{TableView}
use Rattle.place_table.specs.BucketHeld.{HoldsBucket}
use Rattle.place_table.specs.BucketPuts.{AreUpdateArguments, IsOffered, PutsInPlace, Writes, Replaces, asked_of, update_call}
use Rattle.place_table.proofs.BucketPuts.{exists_allowed}
use Rattle.lru_ops.proofs.Ends.{lru_of}
use Rattle.lru_ops.proofs.Offering.{offers_exists, offers_written, offers_replaced}
use Rattle.lru_ops.proofs.map.LruMap.update_present.Goals as goal

pub refuse_update-requires-clause-holds : goal.refuse_update-requires-clause-holds
refuse_update-requires-clause-holds g c κs within =
    let a = c.args in
    subst (λ (z : TableView). HoldsBucket z a.taken.number a.pass.now a.taken.chain.bodies) (sym c.self.view_is) c.requires.holds

pub refuse_update-requires-clause-allowed : goal.refuse_update-requires-clause-allowed
refuse_update-requires-clause-allowed g c κs within =
    exists_allowed c.self.inside.table.shape c.requires.at c.if-write-eq-BPF_NOEXIST.true

pub returns-then-write-eq-BPF_NOEXIST-clause-ends : goal.returns-then-write-eq-BPF_NOEXIST-clause-ends
returns-then-write-eq-BPF_NOEXIST-clause-ends g c =
    let a = c.args in
    let e_is = c.element.ensures ∙ ap (λ (z : Stored). z.element) c.body.ensures in
    offers_exists c.requires.real c.requires.offered e_is
    (subst (λ (z : TableView). PutsInPlace z a.taken.number a.pass.now c.refuse_update.new.pass (asked_of a.write.side a.write.flags a.write.key.now a.write.value.now (Some c.element.result)) puts.Exists) c.self.view_is c.refuse_update.ensures)

pub write_key-requires-clause-holds : goal.write_key-requires-clause-holds
write_key-requires-clause-holds g c κs within =
    let a = c.args in
    subst (λ (z : TableView). HoldsBucket z a.taken.number a.pass.now a.taken.chain.bodies) (sym c.self.view_is) c.requires.holds

pub write_key-requires-clause-gives : goal.write_key-requires-clause-gives
write_key-requires-clause-gives g c κs within =
    let a = c.args in
    subst (λ (z : TableView). AreUpdateArguments z a.taken.number a.write.side a.write.key.now a.write.value.now) (sym c.self.view_is) c.requires.gives

pub returns-then-is_percpu-clause-ends : goal.returns-then-is_percpu-clause-ends
returns-then-is_percpu-clause-ends g c =
    let a = c.args in
    let e_is = c.element.ensures ∙ ap (λ (z : Stored). z.element) c.body.ensures in
    offers_written c.requires.real c.requires.offered e_is (ap (λ (s : Shape). is_percpu s.kind) (sym (c.shape.ensures ∙ ap (λ (z : TableView). z.shape) c.self.view_is)) ∙ sym c.if-is_percpu.ensures)
    (subst (λ (z : TableView). Writes z a.taken.number a.pass.now c.write_key.new.pass (asked_of a.write.side a.write.flags a.write.key.now a.write.value.now (Some c.element.result))) c.self.view_is c.write_key.ensures)

pub replace_key-old-requires-clause-holds : goal.replace_key-old-requires-clause-holds
replace_key-old-requires-clause-holds g c κs within =
    let a = c.args in
    subst (λ (z : TableView). HoldsBucket z a.taken.number a.pass.now a.taken.chain.bodies) (sym c.self.view_is) c.requires.holds

pub replace_key-old-requires-clause-gives : goal.replace_key-old-requires-clause-gives
replace_key-old-requires-clause-gives g c κs within =
    let a = c.args in
    subst (λ (z : TableView). AreUpdateArguments z a.taken.number a.write.side a.write.key.now a.write.value.now) (sym c.self.view_is) c.requires.gives

pub replace_key-old-requires-clause-offered : goal.replace_key-old-requires-clause-offered
replace_key-old-requires-clause-offered g c κs within =
    let a = c.args in
    subst (λ (z : TableView). IsOffered z a.taken.number a.pass.now a.body) (sym c.self.view_is) c.requires.offered

pub returns-clause-ends : goal.returns-clause-ends
returns-clause-ends g c =
    let a = c.args in
    offers_replaced (lru_of _ _ c.self.view_is c.self.invariant.1) (ap (λ (s : Shape). is_percpu s.kind) (sym (c.shape.ensures ∙ ap (λ (z : TableView). z.shape) c.self.view_is)) ∙ sym c.if-is_percpu.ensures)
    (subst (λ (z : TableView). Replaces z a.taken.number a.pass.now c.replace_key-old.new.pass (update_call a.write.side a.write.flags a.write.key.now a.write.value.now) a.body.element c.replace_key-old.result) c.self.view_is c.replace_key-old.ensures)
