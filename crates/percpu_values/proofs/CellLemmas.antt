-- A cell that is made.
use Rattle.std.proofs.Common.{◌≡◌, refl, ap, ◌∙◌}
use Rattle.percpu_values.specs.declared.cell.Cell.{Cell, Cell'}
use Rattle.percpu_values.specs.declared.cell.Cell.TheOpen.{Cell-F}
use Rattle.percpu_values.specs.declared.cell.Cell.TheViews.{out-Cell, out-roll-Cell, roll-Cell}
use Rattle.percpu_values.specs.Cells.{body_in}

body_out : (cell : Cell) → body_in cell ≡ (out-Cell cell).body
unfolding out-Cell denote.Hole.Carrier.out
body_out (Cell' body next) = refl

pub body_made : (fields : Cell-F Cell) → body_in (roll-Cell fields) ≡ fields.body
body_made fields = body_out (roll-Cell fields) ∙ ap (λ (one : Cell-F Cell). one.body) (out-roll-Cell fields)
