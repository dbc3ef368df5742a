use Rattle.std.specs.Prelude.{◌≡◌, ◌==◌, ◌<◌, ℕ, [], filter, length, slice_index_or, take}
use Rattle.call_check.specs.declared.changes.Change.{Change}
use Rattle.call_check.proofs.changes.by_cpu.Given as goal

abbrev pub invariant-loop-change : goal.invariant-loop-change
invariant-loop-change l = (length l.table.items ≡ l.cpus)
    × ((cpu : ℕ) → cpu < l.cpus → slice_index_or l.table.items cpu [] ≡ filter (λ (change : Change). change.cpu == cpu) (take l.change-index l.changes))
