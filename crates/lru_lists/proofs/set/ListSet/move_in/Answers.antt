use Rattle.std.proofs.Common.{ap, ◌∙◌, arith}
use Rattle.lru_lists.specs.Sets.{SetView, times_on}
use Rattle.lru_lists.specs.declared.set.Lists.{Lists}
use Rattle.row_list.proofs.RowLemmas.{room_for}
use Rattle.lru_lists.proofs.set.ListSet.move_in.Goals as goal

pub push_head-requires-clause-room : goal.push_head-requires-clause-room
push_head-requires-clause-room g c =
    let e = c.args.row.element in
    let view : Lists g.row.R.Denot → SetView = λ l. record { active = g.R.Rows.rows l.active; inactive = g.R.Rows.rows l.inactive; free = l.free; cursor = l.cursor; elements = g.R.Rows.bound l.active } in
    let seen = ap view c.deref_mut-lists.ensures.value ∙ c.self.view_is in
    let bound = ap (λ (set : SetView). set.elements) seen in
    let same = ap (times_on e) seen in
    let absent = c.requires.absent in
    let below = c.requires.below in
    let rows = c.deref_mut-lists.result.now.active in
    room_for (g.R.Rows.bound rows) e (g.R.Rows.rows rows) (g.met.R.Rows.whole rows) (omega arith) (omega arith)

pub push_head-requires-in-Inactive-clause-room : goal.push_head-requires-in-Inactive-clause-room
push_head-requires-in-Inactive-clause-room g c =
    let e = c.args.row.element in
    let view : Lists g.row.R.Denot → SetView = λ l. record { active = g.R.Rows.rows l.active; inactive = g.R.Rows.rows l.inactive; free = l.free; cursor = l.cursor; elements = g.R.Rows.bound l.inactive } in
    let seen = ap view c.deref_mut-lists.ensures.value in
    let bound = ap (λ (set : SetView). set.elements) seen in
    let one_bound = c.self.invariant.1 in
    let bound_was = ap (λ (set : SetView). set.elements) c.self.view_is in
    let same = ap (times_on e) seen in
    let same_was = ap (times_on e) c.self.view_is in
    let absent = c.requires.absent in
    let below = c.requires.below in
    let rows = c.deref_mut-lists.result.now.inactive in
    room_for (g.R.Rows.bound rows) e (g.R.Rows.rows rows) (g.met.R.Rows.whole rows) (omega arith) (omega arith)
