use Rattle.std.proofs.Common.{◌≡◌, ◌≤◌, take, drop}
use Rattle.map_types.specs.Listed.{elements_of}
use Rattle.linked_rows.specs.Cells.{rows_of}
use Rattle.linked_rows.proofs.LeadLemmas.{first_cell}
use Rattle.linked_rows.proofs.cells.elements_in.Given as goal

-- The elements of the rows that were met are told, and the next cell is that of the first row that is left.
abbrev pub invariant-loop : goal.invariant-loop
invariant-loop l =
    let rows = rows_of l.mark l.cells in record {
      told : l.elements.items ≡ elements_of (take l.counter rows);
      next : l.at ≡ first_cell (drop l.counter rows) l.mark;
      within : l.at ≤ l.mark;
    }
