use Rattle.std.proofs.Common.{sym, ◌∙◌, subst, rules}
use Rattle.place_table.specs.Passes.{PassView}
use Rattle.lru_ops.specs.Askings.{MayChase}
use Rattle.lru_ops.specs.GlobalWork.{ShrunkInto, both_lists}
use Rattle.lru_ops.proofs.GlobalWalk.{local_room, since_global, may_ask, may_chase, shrunk_into}
use Rattle.lru_ops.proofs.probing.shrink_under.Goals as goal

pub shrink_into-requires-clause-was_whole : goal.shrink_into-requires-clause-was_whole
shrink_into-requires-clause-was_whole g c = c.requires.can.walk.fits.whole

pub shrink_into-requires-clause-none_pending : goal.shrink_into-requires-clause-none_pending
shrink_into-requires-clause-none_pending g c = c.requires.can.none_pending

pub shrink_into-requires-clause-bound : goal.shrink_into-requires-clause-bound
shrink_into-requires-clause-bound g c = c.requires.can.bound ∙ sym c.requires.can.walk.fits.bound

pub shrink_into-requires-clause-apart : goal.shrink_into-requires-clause-apart
shrink_into-requires-clause-apart g c e = c.requires.can.apart e

pub shrink_into-requires-clause-room : goal.shrink_into-requires-clause-room
shrink_into-requires-clause-room g c = local_room c.args.tools.now.table.now c.args.set.now c.args.lists.now c.args.pass.now c.requires.can

pub shrink_into-requires-clause-noted : goal.shrink_into-requires-clause-noted
shrink_into-requires-clause-noted g c = (sym c.requires.to, since_global c.requires.can.walk c.requires.start c.requires.lock c.requires.to c.requires.rows)

pub shrink_into-requires-clause-asked : goal.shrink_into-requires-clause-asked
shrink_into-requires-clause-asked g c e listed = may_ask c.requires.can.walk e listed

pub shrink_into-requires-clause-probed : goal.shrink_into-requires-clause-probed
shrink_into-requires-clause-probed g c row found =
    subst (λ rows. MayChase c.args.tools.now.table.now rows c.args.pass.now row) (sym c.requires.rows) (may_chase c.requires.can.walk row found)

pub returns : goal.returns
returns g c =
    let a = c.args in
    let n = c.shrink_into.new in
    let f = c.shrink_into.ensures in
    let start = since_global c.requires.can.walk c.requires.start c.requires.lock c.requires.to c.requires.rows in
    let done : ShrunkInto a.tools.now.table.now a.target (both_lists a.set.now a.lists.now a.pass.now) (both_lists n.set n.lists n.probe.pass.now) a.shrinking.now n.notes =
    shrunk_into c.requires.can c.requires.start c.requires.lock c.requires.to c.requires.rows (f.noted 0 (sym c.requires.to, start)).1 f.shrinks f.whole f.local in
    subst (λ (z : PassView). ShrunkInto a.tools.now.table.now a.target (both_lists a.set.now a.lists.now a.pass.now) (both_lists n.set n.lists z) a.shrinking.now n.notes) (search rules) done
