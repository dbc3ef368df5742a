use Rattle.std.proofs.Common.{◌≡◌, ◌≤◌, [], length, min, take}
use Rattle.place_words.specs.Walks.{buckets_from}
use Rattle.evicting_traces.specs.Calls.{read_walks}
use Rattle.evicting_traces.proofs.batch_reads.read_walks.Given as goal

abbrev pub invariant-loop-bucket : goal.invariant-loop-bucket
invariant-loop-bucket l =
    (l.count ≤ length l.reply.taken.now)
    × (read_walks l.shape l.ask.remove (min l.ask.count l.shape.elements) (buckets_from l.shape l.from) [] l.seens
    ≡ read_walks l.shape l.ask.remove (min l.ask.count l.shape.elements) (buckets_from l.shape l.bucket) (take l.count l.reply.taken.now) l.rest)
