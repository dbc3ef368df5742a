use Rattle.std.proofs.Common.{ap, ◌∙◌, arith}
use Rattle.row_list.proofs.RowLemmas.{room_for}
use Rattle.local_lists.specs.LocalLists.{LocalView, times_on}
use Rattle.local_lists.specs.declared.set.LocalLists.{LocalLists}
use Rattle.local_lists.proofs.set.LocalSet.add_pending.Goals as goal

pub push_head-requires-clause-room : goal.push_head-requires-clause-room
push_head-requires-clause-room g c =
    let e = c.args.row.element in
    let view : LocalLists g.row.R.Denot → LocalView = λ l. record { free = l.free; pending = g.R.Rows.rows l.pending; steal = l.steal; elements = g.R.Rows.bound l.pending } in
    let seen = ap view c.deref_mut.ensures.value ∙ c.self.view_is in
    let bound = ap (λ (lists : LocalView). lists.elements) seen in
    let same = ap (times_on e) seen in
    let absent = c.requires.absent in
    let below = c.requires.below in
    let rows = c.deref_mut.result.now.pending in
    room_for (g.R.Rows.bound rows) e (g.R.Rows.rows rows) (g.met.R.Rows.whole rows) (omega arith) (omega arith)
