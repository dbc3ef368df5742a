use Rattle.std.proofs.Common.{◌≡◌, drop}
use Rattle.place_words.specs.Walks.{deletes_of}
use Rattle.evicting_traces.specs.Calls.{read_writes}
use Rattle.evicting_traces.proofs.batch_writes.read_deletes.Given as goal

abbrev pub invariant-loop-done : goal.invariant-loop-done
invariant-loop-done l = read_writes l.shape l.cpu (deletes_of l.keys) 0 l.seens ≡ read_writes l.shape l.cpu (deletes_of (drop l.done l.keys)) l.done l.rest
