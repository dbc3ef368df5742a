use Rattle.std.specs.Prelude.{◌≡◌, take}
use Rattle.call_check.specs.Spares.{changes_of}
use Rattle.call_check.proofs.changes.changes_of.Given as goal

abbrev pub invariant-loop-history : goal.invariant-loop-history
invariant-loop-history l = l.changes.items ≡ changes_of l.cuts (take l.history-index l.histories)
