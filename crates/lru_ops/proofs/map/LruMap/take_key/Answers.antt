use Rattle.std.proofs.Common.{ℕ, sym, subst, ap, ◌∙◌, Some, None}
use Rattle.map_types.specs.declared.kind.Side.TheVariants.{Sys}
use Rattle.map_types.specs.Sides.{value_read}
use Rattle.map_types.specs.Stored.{Stored}
use Rattle.place_words.specs.declared.bucket_part.BucketPart.TheVariants.{Take}
use Rattle.place_words.specs.declared.history.Part.TheVariants as parts
use Rattle.place_table.specs.Passes.{TableView}
use Rattle.place_table.specs.BucketHeld.{HoldsBucket}
use Rattle.place_table.specs.BucketTurns.{HasOut, IsWithoutValue, GivenBack}
use Rattle.place_table.proofs.BucketUnder.{holds_bucket}
use Rattle.lru_ops.proofs.Keys.{can_free, take_missed, take_done}
use Rattle.lru_ops.proofs.map.LruMap.take_key.Goals as goal

pub take_from-requires-clause-holds : goal.take_from-requires-clause-holds
take_from-requires-clause-holds g c κs within =
    subst (λ (z : TableView). HoldsBucket z c.bucket_of_key-number.result c.enter-chain.new.pass c.enter-chain.result.bodies) (sym c.self.view_is) (holds_bucket c.enter-chain.ensures.inside)

pub give_taken-requires-after_bounds : goal.give_taken-requires-after_bounds
give_taken-requires-after_bounds g c κs within =
    let found = c.in-Some.removed in
    let out = subst (λ (z : TableView). HasOut z c.bucket_of_key-number.result c.enter-chain.new.pass c.take_from.new.pass c.enter-chain.result.bodies c.args.key.now found) c.self.view_is c.in-Some.ensures.takes in
    let e_is = c.element-element.ensures ∙ ap (λ (z : Stored). z.element) c.body.ensures in
    let value = c.in-Some.ensures.read ∙ (λ i. value_read (c.self.view_is i).shape Sys (sym out.goes.cpu i) found.body.values) in
    subst (λ (z : TableView). IsWithoutValue z c.bucket_of_key-number.result c.take_from.new.pass c.args.key.now c.element-element.result c.take_from.new.out found.chain.bodies) (sym c.self.view_is) (found.body, out.without, e_is, value)

pub push_free-requires-after_bounds : goal.push_free-requires-after_bounds
push_free-requires-after_bounds g c κs within =
    let found = c.in-Some.removed in
    let out = subst (λ (z : TableView). HasOut z c.bucket_of_key-number.result c.enter-chain.new.pass c.take_from.new.pass c.enter-chain.result.bodies c.args.key.now found) c.self.view_is c.in-Some.ensures.takes in
    let e_is = c.element-element.ensures ∙ ap (λ (z : Stored). z.element) c.body.ensures in
    let gave = subst (λ (x : TableView × ℕ). GivenBack x.0 c.bucket_of_key-number.result c.take_from.new.pass c.give_taken.new.pass (parts.Bucket (Take c.args.key.now (Some (x.1, c.take_from.new.out)))) c.take_from.new.pass.view.hand) (λ i. (c.self.view_is i, e_is i)) c.give_taken.ensures in
    can_free c.requires.can c.enter-chain.ensures out gave

pub returns-in-Some-clause-called : goal.returns-in-Some-clause-called
returns-in-Some-clause-called g c =
    let found = c.in-Some.removed in
    let out = subst (λ (z : TableView). HasOut z c.bucket_of_key-number.result c.enter-chain.new.pass c.take_from.new.pass c.enter-chain.result.bodies c.args.key.now found) c.self.view_is c.in-Some.ensures.takes in
    let e_is = c.element-element.ensures ∙ ap (λ (z : Stored). z.element) c.body.ensures in
    let gave = subst (λ (x : TableView × ℕ). GivenBack x.0 c.bucket_of_key-number.result c.take_from.new.pass c.give_taken.new.pass (parts.Bucket (Take c.args.key.now (Some (x.1, c.take_from.new.out)))) c.take_from.new.pass.view.hand) (λ i. (c.self.view_is i, e_is i)) c.give_taken.ensures in
    take_done c.requires.can c.enter-chain.ensures c.bucket_of_key-number.ensures.value out gave c.push_free.ensures

pub returns-in-None-clause-called : goal.returns-in-None-clause-called
returns-in-None-clause-called g c =
    take_missed c.requires.can c.enter-chain.ensures c.bucket_of_key-number.ensures.value
    (subst (λ (z : TableView). GivenBack z c.bucket_of_key-number.result c.enter-chain.new.pass c.take_from.new.pass (parts.Bucket (Take c.args.key.now None)) c.enter-chain.new.pass.view.hand) c.self.view_is c.in-None.ensures.takes)
