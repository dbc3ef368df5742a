use Rattle.std.proofs.Common.{◌≡◌, List, ◌∷◌, length, ap, arith}
use Rattle.std.proofs.lemmas.List.{with_items_is}
use Rattle.map_types.specs.declared.row.Row.{Row}
use Rattle.linked_rows.proofs.FoundLemmas.{rows_are, linked_as_seen}
use Rattle.linked_rows.proofs.ChangeLemmas.{now_linked}
use Rattle.linked_rows.proofs.linked.LinkedRowsRows.push_head.Goals as goal

pub invariant_of-self : goal.invariant_of-self
invariant_of-self c =
    let list = c.args.self.now in
    let now = c.put_first.new.cells in
    let long : length now ≡ list.cells.len = omega arith in
    let linked = now_linked list.bound list.cells.items _ now _ (λ (rows : List Row). c.args.row ∷ rows) (with_items_is list.cells now long) c.deref_mut.ensures.value c.put_first.ensures in
    let counted = ap (λ (rows : List Row). length rows) (rows_are list.bound _ _ linked) in
    record { linked = linked_as_seen list.bound _ _ linked; counted = (let was = list.counted in omega arith) }

pub returns-clause-rows : goal.returns-clause-rows
returns-clause-rows c =
    let list = c.args.self.now in
    let now = c.put_first.new.cells in
    let long : length now ≡ list.cells.len = omega arith in
    rows_are list.bound _ _ (now_linked list.bound list.cells.items _ now _ (λ (rows : List Row). c.args.row ∷ rows) (with_items_is list.cells now long) c.deref_mut.ensures.value c.put_first.ensures)
