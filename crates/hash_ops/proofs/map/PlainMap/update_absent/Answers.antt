use Rattle.std.proofs.Common.{refl, sym, subst, None}
use Rattle.place_words.specs.declared.bucket_part.Put.TheVariants as puts
use Rattle.place_table.specs.Passes.{TableView}
use Rattle.place_table.specs.BucketHeld.{HoldsBucket}
use Rattle.place_table.specs.BucketPuts.{AreUpdateArguments, IsOffered, PutsInPlace, Adds, asked_of, update_call}
use Rattle.place_table.proofs.BucketUnder.{holds_bucket}
use Rattle.hash_ops.proofs.Added.{may_look, holds_looked, is_offered, answered_added, answered_full}
use Rattle.hash_ops.proofs.Between.{answered_put}
use Rattle.hash_ops.proofs.Under.{is_plain_of}
use Rattle.hash_ops.proofs.map.PlainMap.update_absent.Goals as goal

pub refuse_update-requires-clause-holds : goal.refuse_update-requires-clause-holds
refuse_update-requires-clause-holds g c κs within =
    let a = c.args in
    subst (λ (z : TableView). HoldsBucket z a.taken.number a.pass.now a.taken.chain.bodies) (sym c.self.view_is) (holds_bucket c.requires.inside)

pub returns-then-write-eq-BPF_EXIST-clause-ends : goal.returns-then-write-eq-BPF_EXIST-clause-ends
returns-then-write-eq-BPF_EXIST-clause-ends g c =
    let a = c.args in
    answered_put (is_plain_of _ _ c.self.view_is c.self.invariant) c.requires.spares c.requires.known c.requires.gives puts.Absent
    (subst (λ (z : TableView). PutsInPlace z a.taken.number a.pass.now c.refuse_update.new.pass (asked_of a.write.side a.write.flags a.write.key.now a.write.value.now None) puts.Absent) c.self.view_is c.refuse_update.ensures) refl refl

pub pop-requires-after_bounds : goal.pop-requires-after_bounds
pop-requires-after_bounds g c κs within = may_look c.requires.inside

pub add_key-requires-clause-holds : goal.add_key-requires-clause-holds
add_key-requires-clause-holds g c κs within =
    let a = c.args in
    subst (λ (z : TableView). HoldsBucket z a.taken.number c.pop.new.pass a.taken.chain.bodies) (sym c.self.view_is) (holds_looked (is_plain_of _ _ c.self.view_is c.self.invariant) c.requires.inside c.in-Some.ensures)

pub add_key-requires-clause-gives : goal.add_key-requires-clause-gives
add_key-requires-clause-gives g c κs within =
    let a = c.args in
    subst (λ (z : TableView). AreUpdateArguments z a.taken.number a.write.side a.write.key.now a.write.value.now) (sym c.self.view_is) c.requires.gives

pub add_key-requires-clause-offered : goal.add_key-requires-clause-offered
add_key-requires-clause-offered g c κs within =
    let a = c.args in
    subst (λ (z : TableView). IsOffered z a.taken.number c.pop.new.pass c.in-Some.body) (sym c.self.view_is) (is_offered (is_plain_of _ _ c.self.view_is c.self.invariant) c.requires.inside c.in-Some.ensures)

pub returns-in-Some-clause-ends : goal.returns-in-Some-clause-ends
returns-in-Some-clause-ends g c =
    let a = c.args in
    answered_added (is_plain_of _ _ c.self.view_is c.self.invariant) c.requires.inside a.write.side a.write.flags a.write.key.now a.write.value.now c.requires.known c.requires.gives c.requires.spares c.add_key.new.pass c.in-Some.ensures
    (subst (λ (z : TableView). Adds z a.taken.number c.pop.new.pass c.add_key.new.pass (update_call a.write.side a.write.flags a.write.key.now a.write.value.now) c.in-Some.body.element) c.self.view_is c.add_key.ensures)

pub refuse_update-requires-in-None-clause-holds : goal.refuse_update-requires-in-None-clause-holds
refuse_update-requires-in-None-clause-holds g c κs within =
    let a = c.args in
    subst (λ (z : TableView). HoldsBucket z a.taken.number c.pop.new.pass a.taken.chain.bodies) (sym c.self.view_is) (holds_looked (is_plain_of _ _ c.self.view_is c.self.invariant) c.requires.inside c.in-None.ensures)

pub returns-in-None-clause-ends : goal.returns-in-None-clause-ends
returns-in-None-clause-ends g c =
    let a = c.args in
    answered_full (is_plain_of _ _ c.self.view_is c.self.invariant) c.requires.inside a.write.side a.write.flags a.write.key.now a.write.value.now c.requires.known c.requires.gives c.requires.spares c.refuse_update-in-None.new.pass c.in-None.ensures
    (subst (λ (z : TableView). PutsInPlace z a.taken.number c.pop.new.pass c.refuse_update-in-None.new.pass (asked_of a.write.side a.write.flags a.write.key.now a.write.value.now None) puts.Full) c.self.view_is c.refuse_update-in-None.ensures)
