use Rattle.std.proofs.Common.{◌≡◌}
use Rattle.place_words.specs.Walks.{buckets_from}
use Rattle.trace_check.specs.Calls.{read_firsts}
use Rattle.evicting_traces.specs.Reading.{turns_in}
use Rattle.evicting_traces.proofs.next_key.read_firsts.Given as goal

abbrev pub invariant-loop-bucket : goal.invariant-loop-bucket
invariant-loop-bucket l = read_firsts (buckets_from l.shape l.from) (turns_in l.seens) ≡ read_firsts (buckets_from l.shape l.bucket) (turns_in l.rest)
