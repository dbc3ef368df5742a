use Rattle.std.proofs.Common.{◌≡◌, drop}
use Rattle.place_words.specs.Walks.{deletes_of}
use Rattle.trace_check.specs.BySpares.{Left, read_writes_by}
use Rattle.trace_check.proofs.batch_writes.read_deletes.Given as goal

abbrev pub invariant-loop-key : goal.invariant-loop-key
invariant-loop-key l =
    (l.done ≡ l.key-index)
    × ((spares : Left) → read_writes_by l.shape l.cpu spares (deletes_of l.keys) 0 l.turns
    ≡ read_writes_by l.shape l.cpu spares (deletes_of (drop l.key-index l.keys)) l.done l.rest)
