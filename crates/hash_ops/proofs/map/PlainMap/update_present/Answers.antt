use Rattle.std.proofs.Common.{refl, sym, subst, None}
use Rattle.place_words.specs.declared.bucket_part.Put.TheVariants as puts
use Rattle.place_table.specs.Passes.{TableView}
use Rattle.place_table.specs.BucketHeld.{HoldsBucket}
use Rattle.place_table.specs.BucketPuts.{AreUpdateArguments, PutsInPlace, Writes, asked_of}
use Rattle.place_table.proofs.BucketPuts.{exists_allowed}
use Rattle.place_table.proofs.BucketUnder.{holds_bucket}
use Rattle.hash_ops.proofs.Between.{answered_put}
use Rattle.hash_ops.proofs.Under.{is_plain_of}
use Rattle.hash_ops.proofs.map.PlainMap.update_present.Goals as goal

pub refuse_update-requires-clause-holds : goal.refuse_update-requires-clause-holds
refuse_update-requires-clause-holds g c κs within =
    let a = c.args in
    subst (λ (z : TableView). HoldsBucket z a.taken.number a.pass.now a.taken.chain.bodies) (sym c.self.view_is) (holds_bucket c.requires.inside)

pub refuse_update-requires-clause-allowed : goal.refuse_update-requires-clause-allowed
refuse_update-requires-clause-allowed g c κs within = exists_allowed c.self.inside.table.shape c.requires.at c.if-write-eq-BPF_NOEXIST.true

pub returns-then-write-eq-BPF_NOEXIST-clause-ends : goal.returns-then-write-eq-BPF_NOEXIST-clause-ends
returns-then-write-eq-BPF_NOEXIST-clause-ends g c =
    let a = c.args in
    answered_put (is_plain_of _ _ c.self.view_is c.self.invariant) c.requires.spares c.requires.known c.requires.gives puts.Exists
    (subst (λ (z : TableView). PutsInPlace z a.taken.number a.pass.now c.refuse_update.new.pass (asked_of a.write.side a.write.flags a.write.key.now a.write.value.now None) puts.Exists) c.self.view_is c.refuse_update.ensures) refl refl

pub write_key-requires-clause-holds : goal.write_key-requires-clause-holds
write_key-requires-clause-holds g c κs within =
    let a = c.args in
    subst (λ (z : TableView). HoldsBucket z a.taken.number a.pass.now a.taken.chain.bodies) (sym c.self.view_is) (holds_bucket c.requires.inside)

pub write_key-requires-clause-gives : goal.write_key-requires-clause-gives
write_key-requires-clause-gives g c κs within =
    let a = c.args in
    subst (λ (z : TableView). AreUpdateArguments z a.taken.number a.write.side a.write.key.now a.write.value.now) (sym c.self.view_is) c.requires.gives

pub returns-then-is_percpu-clause-ends : goal.returns-then-is_percpu-clause-ends
returns-then-is_percpu-clause-ends g c =
    let a = c.args in
    let w = subst (λ (z : TableView). Writes z a.taken.number a.pass.now c.write_key.new.pass (asked_of a.write.side a.write.flags a.write.key.now a.write.value.now None)) c.self.view_is c.write_key.ensures in
    answered_put (is_plain_of _ _ c.self.view_is c.self.invariant) c.requires.spares c.requires.known c.requires.gives (puts.Written w.written) w.gives refl refl
