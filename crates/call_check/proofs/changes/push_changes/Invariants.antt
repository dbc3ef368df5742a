use Rattle.std.specs.Prelude.{◌≡◌, ◌++◌, take}
use Rattle.std.specs.List.{filter_map}
use Rattle.call_check.specs.Spares.{change_of}
use Rattle.call_check.proofs.changes.push_changes.Given as goal

abbrev pub invariant-loop-index : goal.invariant-loop-index
invariant-loop-index l = l.changes.items ≡ l.fn.changes.items ++ filter_map (change_of l.cuts) (take l.index l.entries)
