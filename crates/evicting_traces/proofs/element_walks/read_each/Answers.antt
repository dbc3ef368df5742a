use Rattle.std.proofs.Common.{ℕ, [], sym, ap, ◌∙◌}
use Rattle.place_words.specs.Walks.{buckets_from}
use Rattle.trace_check.specs.Calls.{read_each}
use Rattle.trace_check.proofs.WalkedPairs.{is_a_batch}
use Rattle.trace_check.proofs.HandedPairs.{handing_batch}
use Rattle.evicting_traces.specs.Reading.{turns_in}
use Rattle.evicting_traces.proofs.element_walks.read_each.Goals as goal

pub returns-in_default : goal.returns-in_default
returns-in_default c = λ rest is.
    is_a_batch [] c.args.reply.now
    (handing_batch c.args.shape.now c.args.cpu c.args.stop.now (buckets_from c.args.shape.now 0) [] (turns_in c.args.seens.now) rest c.args.reply.now
    (ap (λ (n : ℕ). read_each c.args.shape.now c.args.cpu c.args.stop.now n (turns_in c.args.seens.now)) (sym c.if-flags-ne0.false) ∙ is))
    c.in_default.not-Batch
