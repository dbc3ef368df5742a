use Rattle.std.proofs.Common.{sym, subst}
use Rattle.place_table.specs.Passes.{TableView}
use Rattle.place_table.specs.BucketTurns.{CanEnter, Entered}
use Rattle.lru_ops.proofs.Ends.{lru_of}
use Rattle.lru_ops.proofs.map.LruMap.enter.Goals as goal

pub enter_bucket-requires-after_bounds : goal.enter_bucket-requires-after_bounds
enter_bucket-requires-after_bounds g c κs within = subst (λ (z : TableView). CanEnter z c.args.bucket c.args.pass.now) (sym c.self.view_is) c.requires

pub returns : goal.returns
returns g c =
    let entered = subst (λ (z : TableView). Entered z c.args.bucket c.args.pass.now c.enter_bucket.new.pass c.enter_bucket.result) c.self.view_is c.enter_bucket.ensures in
    record { evicts = lru_of _ _ c.self.view_is c.self.invariant.1; took = entered.took; inside = entered.inside }
