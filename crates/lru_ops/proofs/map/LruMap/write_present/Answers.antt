use Rattle.std.proofs.Common.{refl, sym, subst, None}
use Rattle.place_words.specs.declared.bucket_part.Put.TheVariants as puts
use Rattle.place_table.specs.Passes.{TableView}
use Rattle.place_table.specs.BucketHeld.{HoldsBucket}
use Rattle.place_table.specs.BucketPuts.{AreUpdateArguments, PutsInPlace, Writes, asked_of}
use Rattle.lru_ops.proofs.map.LruMap.write_present.Goals as goal

pub write_key-requires-clause-holds : goal.write_key-requires-clause-holds
write_key-requires-clause-holds g c κs within =
    let a = c.args in
    subst (λ (z : TableView). HoldsBucket z a.taken.number a.pass.now a.taken.chain.bodies) (sym c.self.view_is) c.requires.holds

pub write_key-requires-clause-gives : goal.write_key-requires-clause-gives
write_key-requires-clause-gives g c κs within =
    let a = c.args in
    subst (λ (z : TableView). AreUpdateArguments z a.taken.number a.side a.key.now a.value.now) (sym c.self.view_is) c.requires.gives

pub returns-in-Some-clause-ends : goal.returns-in-Some-clause-ends
returns-in-Some-clause-ends g c =
    let a = c.args in
    let w = subst (λ (z : TableView). Writes z a.taken.number a.pass.now c.write_key.new.pass (asked_of a.side 2 a.key.now a.value.now None)) c.self.view_is c.write_key.ensures in
    record { put = puts.Written w.written; may_put = tt; gives = w.gives; reply_is = refl }

pub refuse_update-requires-clause-holds : goal.refuse_update-requires-clause-holds
refuse_update-requires-clause-holds g c κs within =
    let a = c.args in
    subst (λ (z : TableView). HoldsBucket z a.taken.number a.pass.now a.taken.chain.bodies) (sym c.self.view_is) c.requires.holds

pub returns-in-None-clause-ends : goal.returns-in-None-clause-ends
returns-in-None-clause-ends g c =
    let a = c.args in
    record { put = puts.Absent; may_put = tt; gives = subst (λ (z : TableView). PutsInPlace z a.taken.number a.pass.now c.refuse_update.new.pass (asked_of a.side 2 a.key.now a.value.now None) puts.Absent) c.self.view_is c.refuse_update.ensures; reply_is = refl }
