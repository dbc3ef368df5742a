use Rattle.std.proofs.Common.{◌≡◌, take}
use Rattle.run_records.proofs.pieces.copies_of.Given as goal

-- the copies so far
abbrev pub invariant-loop-history : goal.invariant-loop-history
invariant-loop-history l = l.copies.items ≡ take l.history-index l.histories
