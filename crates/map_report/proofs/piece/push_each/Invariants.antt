use Rattle.std.proofs.Common.{◌≡◌, ◌++◌, drop, string_bytes}
use Rattle.std.specs.List.{flat_map}
use Rattle.map_report.proofs.piece.push_each.Given as goal

-- the text so far and the items that are left are all the items
abbrev pub invariant-loop-item : goal.invariant-loop-item
invariant-loop-item g l =
    string_bytes l.text ++ flat_map g.T.Piece.shown (drop l.item-index l.items) ≡ string_bytes l.initial.text ++ flat_map g.T.Piece.shown l.items
