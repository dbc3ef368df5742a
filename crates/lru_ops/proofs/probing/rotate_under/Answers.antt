use Rattle.std.proofs.Common.{sym, subst, rules}
use Rattle.place_table.specs.Passes.{PassView}
use Rattle.lru_ops.specs.GlobalWork.{Rotated}
use Rattle.lru_ops.proofs.GlobalWalk.{since_global, may_ask, rotated_global}
use Rattle.lru_ops.proofs.probing.rotate_under.Goals as goal

pub rotate-requires-clause-noted : goal.rotate-requires-clause-noted
rotate-requires-clause-noted g c = (sym c.requires.to, since_global c.requires.can c.requires.start c.requires.lock c.requires.to c.requires.rows)

pub rotate-requires-clause-asked : goal.rotate-requires-clause-asked
rotate-requires-clause-asked g c e listed = may_ask c.requires.can e listed

pub returns : goal.returns
returns g c =
    let a = c.args in
    let m = c.rotate.new in
    let e = c.rotate.ensures in
    let start = since_global c.requires.can c.requires.start c.requires.lock c.requires.to c.requires.rows in
    let done : Rotated a.table.now a.set.now m.set a.turning.now m.notes a.pass.now m.bits.pass.now =
    rotated_global c.requires.can c.requires.start c.requires.lock c.requires.to c.requires.rows (e.noted 0 (sym c.requires.to, start)).1 e.rotation e.rows e.whole e.only.probed in
    subst (λ (z : PassView). Rotated a.table.now a.set.now m.set a.turning.now m.notes a.pass.now z) (search rules) done
