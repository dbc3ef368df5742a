use Rattle.std.proofs.Common.{List, ◌∙◌, ap, sym, subst}
use Rattle.map_types.specs.ElementLists.{times}
use Rattle.map_types.specs.Listed.{elements_of}
use Rattle.map_types.specs.declared.row.Row.{Row}
use Rattle.row_list.proofs.RowLemmas.{gone_without}
use Rattle.local_lists.specs.LocalLists.{IsLocal}
use Rattle.local_lists.specs.declared.set.LocalLists.{LocalLists}
use Rattle.local_lists.proofs.LocalLemmas.{taken_off}
use Rattle.local_lists.proofs.set.LocalSet.take_pending.Goals as goal

pub returns-clause-off : goal.returns-clause-off
returns-clause-off g c = ap (λ (rows : List Row). times c.args.element (elements_of rows)) c.take_out.ensures.rows ∙ gone_without c.args.element _

pub returns-clause-known : goal.returns-clause-known
returns-clause-known g c =
    let holds : LocalLists g.row.R.Denot → Type 0 = λ l. IsLocal (record { free = l.free; pending = g.R.Rows.rows l.pending; steal = l.steal; elements = g.R.Rows.bound l.pending }) in
    let was = subst holds (sym c.deref_mut.ensures.value) c.self.invariant in
    (taken_off c.args.element was c.take_out.ensures.taken c.take_out.ensures.rows c.take_out.ensures.bound).known

pub returns-clause-whole : goal.returns-clause-whole
returns-clause-whole g c =
    let holds : LocalLists g.row.R.Denot → Type 0 = λ l. IsLocal (record { free = l.free; pending = g.R.Rows.rows l.pending; steal = l.steal; elements = g.R.Rows.bound l.pending }) in
    let was = subst holds (sym c.deref_mut.ensures.value) c.self.invariant in
    (taken_off c.args.element was c.take_out.ensures.taken c.take_out.ensures.rows c.take_out.ensures.bound).whole

pub invariant_of-self : goal.invariant_of-self
invariant_of-self g c = returns-clause-whole g c
