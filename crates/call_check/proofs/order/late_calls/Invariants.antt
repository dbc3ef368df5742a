use Rattle.std.specs.Prelude.{◌≡◌, ◌+◌, ◌<◌, ℕ, false, length, slice_index_or, take}
use Rattle.std.specs.List.{list_any}
use Rattle.call_check.specs.Steps.{is_late}
use Rattle.call_check.proofs.order.late_calls.Given as goal

abbrev pub invariant-loop-strand : goal.invariant-loop-strand
invariant-loop-strand l = (length l.late.items ≡ l.calls + 1)
    × ((number : ℕ) → number < l.calls + 1 → slice_index_or l.late.items number false ≡ list_any (is_late l.histories.all number) (take l.strand-index l.strands))
