use Rattle.std.proofs.Common.{ℕ, sym, subst, Some, None}
use Rattle.place_words.specs.declared.bucket_part.BucketPart.TheVariants.{Delete}
use Rattle.place_words.specs.declared.history.Part.TheVariants as parts
use Rattle.place_table.specs.Passes.{TableView}
use Rattle.place_table.specs.BucketHeld.{HoldsBucket}
use Rattle.place_table.specs.BucketTurns.{HasOut, IsWithout, GivenBack}
use Rattle.place_table.proofs.BucketUnder.{holds_bucket}
use Rattle.hash_ops.proofs.Gone.{can_push, without_pushed}
use Rattle.hash_ops.proofs.Keyed.{delete_missed, delete_done}
use Rattle.hash_ops.proofs.map.PlainMap.delete.Goals as goal

pub delete_from-requires-after_bounds : goal.delete_from-requires-after_bounds
delete_from-requires-after_bounds g c κs within =
    subst (λ (z : TableView). HoldsBucket z c.bucket_of_key-number.result c.enter-chain.new.pass c.enter-chain.result.bodies) (sym c.self.view_is) (holds_bucket c.enter-chain.ensures.inside)

pub push_out-element-requires-after_bounds : goal.push_out-element-requires-after_bounds
push_out-element-requires-after_bounds g c κs within =
    let found = c.in-Some.removed in
    let out = subst (λ (z : TableView). HasOut z c.bucket_of_key-number.result c.enter-chain.new.pass c.delete_from.new.pass c.enter-chain.result.bodies c.args.key.now found) c.self.view_is c.in-Some.ensures in
    can_push out

pub give_deleted-requires-after_bounds : goal.give_deleted-requires-after_bounds
give_deleted-requires-after_bounds g c κs within =
    let found = c.in-Some.removed in
    let out = subst (λ (z : TableView). HasOut z c.bucket_of_key-number.result c.enter-chain.new.pass c.delete_from.new.pass c.enter-chain.result.bodies c.args.key.now found) c.self.view_is c.in-Some.ensures in
    subst (λ (z : TableView). IsWithout z c.bucket_of_key-number.result c.push_out-element.new.pass c.args.key.now c.push_out-element.result found.chain.bodies) (sym c.self.view_is)
    (found.body, without_pushed out c.push_out-element.ensures.pushed, c.push_out-element.ensures.element)

pub returns-in-Some : goal.returns-in-Some
returns-in-Some g c =
    let found = c.in-Some.removed in
    let out = subst (λ (z : TableView). HasOut z c.bucket_of_key-number.result c.enter-chain.new.pass c.delete_from.new.pass c.enter-chain.result.bodies c.args.key.now found) c.self.view_is c.in-Some.ensures in
    delete_done c.requires.can c.enter-chain.ensures c.bucket_of_key-number.ensures.value out c.push_out-element.ensures.pushed
    (subst (λ (x : TableView × ℕ). GivenBack x.0 c.bucket_of_key-number.result c.push_out-element.new.pass c.give_deleted.new.pass (parts.Bucket (Delete c.args.key.now (Some x.1))) c.push_out-element.new.pass.view.hand) (λ i. (c.self.view_is i, c.push_out-element.ensures.element i)) c.give_deleted.ensures)

pub returns-in-None : goal.returns-in-None
returns-in-None g c =
    delete_missed c.requires.can c.enter-chain.ensures c.bucket_of_key-number.ensures.value
    (subst (λ (z : TableView). GivenBack z c.bucket_of_key-number.result c.enter-chain.new.pass c.delete_from.new.pass (parts.Bucket (Delete c.args.key.now None)) c.enter-chain.new.pass.view.hand) c.self.view_is c.in-None.ensures)
