use Rattle.std.proofs.Common.{[], min}
use Rattle.place_words.specs.Walks.{buckets_from}
use Rattle.trace_check.proofs.WalkedPairs.{is_a_batch}
use Rattle.evicting_traces.proofs.WalkedSeens.{walks_batch}
use Rattle.evicting_traces.proofs.batch_reads.read_from.Goals as goal

pub returns-in_default : goal.returns-in_default
returns-in_default c = λ rest is.
    is_a_batch [] c.args.reply.now
    (walks_batch c.args.shape.now c.args.ask.remove (min c.args.ask.count c.args.shape.now.elements) (buckets_from c.args.shape.now c.args.from) [] c.args.seens.now rest
    c.args.reply.now is)
    c.in_default.not-Batch
