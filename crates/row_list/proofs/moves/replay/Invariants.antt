use Rattle.std.proofs.Common.{◌≡◌, drop, fold}
use Rattle.row_list.specs.Moves.{moved, CanMove}
use Rattle.row_list.proofs.moves.replay.Given as goal

-- The moves that are left can be made, and lead to where all of them lead.
abbrev pub invariant-loop-step : goal.invariant-loop-step
invariant-loop-step g l =
    let left = drop l.step-index l.moves in record {
      bound : g.R.Rows.bound l.rows ≡ g.R.Rows.bound l.fn.rows;
      can : CanMove (g.R.Rows.bound l.rows) (g.R.Rows.rows l.rows) left;
      leads : fold moved (g.R.Rows.rows l.rows) left ≡ fold moved (g.R.Rows.rows l.fn.rows) l.moves;
    }
