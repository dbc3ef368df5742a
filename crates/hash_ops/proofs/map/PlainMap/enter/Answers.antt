use Rattle.std.proofs.Common.{sym, subst}
use Rattle.place_table.specs.Passes.{TableView}
use Rattle.place_table.specs.BucketTurns.{CanEnter, Entered}
use Rattle.hash_ops.proofs.Under.{enters, is_plain_of, shares_none}
use Rattle.hash_ops.proofs.map.PlainMap.enter.Goals as goal

pub enter_bucket-requires-after_bounds : goal.enter_bucket-requires-after_bounds
enter_bucket-requires-after_bounds g c κs within =
    let can = c.requires.can in
    subst (λ (z : TableView). CanEnter z c.args.bucket c.args.pass.now) (sym c.self.view_is) record { of_table = can.of_table; begun = can.begun; no_lock = can.in_no_call.holds_nothing; there = c.requires.there }

pub returns : goal.returns
returns g c =
    enters (is_plain_of _ _ c.self.view_is c.self.invariant) (shares_none _ _ c.self.view_is c.self.invariant) c.requires.can
    (subst (λ (z : TableView). Entered z c.args.bucket c.args.pass.now c.enter_bucket.new.pass c.enter_bucket.result) c.self.view_is c.enter_bucket.ensures)
