use Rattle.std.proofs.Common.{◌≡◌, ◌≤◌, [], length, take}
use Rattle.place_words.specs.Walks.{buckets_from}
use Rattle.trace_check.specs.Calls.{read_handing}
use Rattle.evicting_traces.specs.Reading.{turns_in}
use Rattle.evicting_traces.proofs.element_walks.read_handing.Given as goal

abbrev pub invariant-loop-bucket : goal.invariant-loop-bucket
invariant-loop-bucket l =
    (l.count ≤ length l.reply.taken.now)
    × (read_handing l.shape l.cpu l.stop (buckets_from l.shape 0) [] (turns_in l.seens)
    ≡ read_handing l.shape l.cpu l.stop (buckets_from l.shape l.bucket) (take l.count l.reply.taken.now) (turns_in l.rest))
