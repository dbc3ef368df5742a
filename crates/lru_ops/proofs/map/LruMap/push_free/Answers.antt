use Rattle.std.proofs.Common.{sym, subst}
use Rattle.place_table.specs.Passes.{TableView}
use Rattle.lru_ops.specs.Lists.{CanFree, Freed}
use Rattle.lru_ops.proofs.map.LruMap.push_free.Goals as goal

pub push_free-requires-clause-can : goal.push_free-requires-clause-can
push_free-requires-clause-can g c κs within = subst (λ (z : TableView). CanFree z c.args.body c.args.pass.now) (sym c.self.view_is) c.requires

pub push_free-requires-clause-evicts : goal.push_free-requires-clause-evicts
push_free-requires-clause-evicts g c κs within = c.self.invariant

pub returns : goal.returns
returns g c = subst (λ (z : TableView). Freed z c.args.body c.args.pass.now c.push_free.new.pass) c.self.view_is c.push_free.ensures
