use Rattle.std.proofs.Common.{sym, subst}
use Rattle.place_table.specs.Passes.{TableView, CanSpare, Spared, CanKeepSpare}
use Rattle.place_table.specs.BucketHeld.{HoldsBucket}
use Rattle.place_table.specs.BucketPuts.{AreUpdateArguments, IsOffered, Replaces, update_call}
use Rattle.hash_ops.proofs.Replaced.{can_spare, holds_out, is_offered, can_keep, answered_replaced}
use Rattle.hash_ops.proofs.Under.{is_plain_of}
use Rattle.hash_ops.proofs.map.PlainMap.replace.Goals as goal

pub spare-requires : goal.spare-requires
spare-requires g c = subst (λ (z : TableView). CanSpare z c.args.pass.now) (sym c.self.view_is) (can_spare (is_plain_of _ _ c.self.view_is c.self.invariant) c.requires.single c.requires.inside c.requires.spares)

pub replace_key-spare-requires-clause-holds : goal.replace_key-spare-requires-clause-holds
replace_key-spare-requires-clause-holds g c κs within =
    let a = c.args in
    let spared = subst (λ (z : TableView). Spared z a.pass.now c.spare.new.pass c.spare.result) c.self.view_is c.spare.ensures in
    subst (λ (z : TableView). HoldsBucket z a.taken.number c.spare.new.pass a.taken.chain.bodies) (sym c.self.view_is) (holds_out (is_plain_of _ _ c.self.view_is c.self.invariant) c.requires.single c.requires.inside c.requires.spares spared c.in-Some.is)

pub replace_key-spare-requires-clause-gives : goal.replace_key-spare-requires-clause-gives
replace_key-spare-requires-clause-gives g c κs within =
    let a = c.args in
    subst (λ (z : TableView). AreUpdateArguments z a.taken.number a.write.side a.write.key.now a.write.value.now) (sym c.self.view_is) c.requires.gives

pub replace_key-spare-requires-clause-offered : goal.replace_key-spare-requires-clause-offered
replace_key-spare-requires-clause-offered g c κs within =
    let a = c.args in
    let spared = subst (λ (z : TableView). Spared z a.pass.now c.spare.new.pass c.spare.result) c.self.view_is c.spare.ensures in
    subst (λ (z : TableView). IsOffered z a.taken.number c.spare.new.pass c.in-Some.body) (sym c.self.view_is) (is_offered (is_plain_of _ _ c.self.view_is c.self.invariant) c.requires.single c.requires.inside c.requires.spares spared c.in-Some.is)

pub keep_spare-requires : goal.keep_spare-requires
keep_spare-requires g c =
    let a = c.args in
    let spared = subst (λ (z : TableView). Spared z a.pass.now c.spare.new.pass c.spare.result) c.self.view_is c.spare.ensures in
    let puts_it = subst (λ (z : TableView). Replaces z a.taken.number c.spare.new.pass c.replace_key-spare.new.pass (update_call a.write.side a.write.flags a.write.key.now a.write.value.now) c.in-Some.body.element c.replace_key-spare.result) c.self.view_is c.replace_key-spare.ensures in
    subst (λ (z : TableView). CanKeepSpare z c.replace_key-spare.result c.replace_key-spare.new.pass) (sym c.self.view_is)
    (can_keep (is_plain_of _ _ c.self.view_is c.self.invariant) c.requires.single c.requires.inside c.requires.spares spared c.in-Some.is puts_it)

pub returns : goal.returns
returns g c =
    let a = c.args in
    let spared = subst (λ (z : TableView). Spared z a.pass.now c.spare.new.pass c.spare.result) c.self.view_is c.spare.ensures in
    let puts_it = subst (λ (z : TableView). Replaces z a.taken.number c.spare.new.pass c.replace_key-spare.new.pass (update_call a.write.side a.write.flags a.write.key.now a.write.value.now) c.in-Some.body.element c.replace_key-spare.result) c.self.view_is c.replace_key-spare.ensures in
    answered_replaced (is_plain_of _ _ c.self.view_is c.self.invariant) c.requires.single c.requires.inside c.requires.spares spared c.in-Some.is puts_it c.keep_spare.new.pass c.keep_spare.ensures c.requires.known c.requires.gives
