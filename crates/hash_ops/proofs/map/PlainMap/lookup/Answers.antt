use Rattle.std.proofs.Common.{sym, subst}
use Rattle.place_table.specs.Calls.{reply_of_value}
use Rattle.place_table.specs.Passes.{TableView}
use Rattle.place_table.specs.BucketHeld.{HoldsBucket}
use Rattle.place_table.specs.BucketTurns.{LooksUp}
use Rattle.place_table.proofs.BucketUnder.{holds_bucket}
use Rattle.hash_ops.proofs.Keyed.{looked_up}
use Rattle.hash_ops.proofs.map.PlainMap.lookup.Goals as goal

pub look_up-requires-clause-holds : goal.look_up-requires-clause-holds
look_up-requires-clause-holds g c κs within =
    subst (λ (z : TableView). HoldsBucket z c.bucket_of_key-number.result c.enter-chain.new.pass c.enter-chain.result.bodies) (sym c.self.view_is) (holds_bucket c.enter-chain.ensures.inside)

pub returns-clause-called : goal.returns-clause-called
returns-clause-called g c =
    looked_up c.requires.can c.enter-chain.ensures c.bucket_of_key-number.ensures.value
    (subst (λ (z : TableView). LooksUp z c.bucket_of_key-number.result c.enter-chain.new.pass c.look_up.new.pass c.args.side c.args.key.now (reply_of_value c.look_up.result c.look_up.new.out)) c.self.view_is c.look_up.ensures.looks_up)
