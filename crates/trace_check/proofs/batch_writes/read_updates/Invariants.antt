use Rattle.std.proofs.Common.{◌≡◌, drop}
use Rattle.place_words.specs.Walks.{updates_of}
use Rattle.trace_check.specs.BySpares.{read_writes_by}
use Rattle.trace_check.specs.Strand.{spare_before}
use Rattle.trace_check.proofs.batch_writes.read_updates.Given as goal

abbrev pub invariant-loop-done : goal.invariant-loop-done
invariant-loop-done l =
    read_writes_by l.shape l.cpu (spare_before l.spares) (updates_of l.pairs) 0 l.turns
    ≡ read_writes_by l.shape l.cpu (spare_before l.spares) (updates_of (drop l.done l.pairs)) l.done l.rest
