use Rattle.std.proofs.Common.{List, [], length, ap, sym}
use Rattle.map_types.specs.declared.row.Row.{Row}
use Rattle.linked_rows.proofs.FoundLemmas.{rows_are, linked_as_seen}
use Rattle.linked_rows.proofs.linked.LinkedRowsRows.with_room.Goals as goal

pub invariant_of-result : goal.invariant_of-result
invariant_of-result c = record {
  linked = linked_as_seen c.args.elements _ [] c.in_ok-no_rows.ensures;
  counted = sym (ap (λ (rows : List Row). length rows) (rows_are c.args.elements _ [] c.in_ok-no_rows.ensures));
}
