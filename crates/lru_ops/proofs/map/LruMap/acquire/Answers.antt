use Rattle.std.proofs.Common.{sym, subst}
use Rattle.place_table.specs.Calls.{CanCall}
use Rattle.place_table.specs.Passes.{TableView}
use Rattle.lru_ops.specs.Lists.{Acquired}
use Rattle.lru_ops.proofs.map.LruMap.acquire.Goals as goal

pub acquire-requires-clause-can : goal.acquire-requires-clause-can
acquire-requires-clause-can g c κs within = subst (λ (z : TableView). CanCall z c.args.pass.now) (sym c.self.view_is) c.requires

pub acquire-requires-clause-evicts : goal.acquire-requires-clause-evicts
acquire-requires-clause-evicts g c κs within = c.self.invariant

pub returns : goal.returns
returns g c = subst (λ (z : TableView). Acquired z c.args.hash c.args.pass.now c.acquire.new.pass c.acquire.result) c.self.view_is c.acquire.ensures
