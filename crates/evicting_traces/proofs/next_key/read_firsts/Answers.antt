use Rattle.std.proofs.Common.{Some, ap, sym, ◌∙◌}
use Rattle.trace_check.proofs.Answering.{head_found, head_empty}
use Rattle.evicting_traces.specs.Reading.{turns_in}
use Rattle.evicting_traces.proofs.Answering.{this_turned}
use Rattle.evicting_traces.proofs.next_key.read_firsts.Goals as goal

pub returns-in-Some : goal.returns-in-Some
returns-in-Some c =
    this_turned c.args.reply.now c.in_ok-key.behind c.is_value.result
    (c.loop-bucket.invariant
    ∙ head_found c.args.shape.now c.loop-bucket.bucket (turns_in c.loop-bucket.rest) (turns_in c.in_ok-key.behind) c.in_ok-key.key.now c.as_slice.result.now c.loop-bucket-test.true
    c.in_ok-key.ensures (c.in-Some.is ∙ ap Some (sym c.as_slice.ensures)))
    c.is_value.ensures c.rest_if.ensures

pub loop-bucket-preserved : goal.loop-bucket-preserved
loop-bucket-preserved c =
    c.loop-bucket.invariant
    ∙ head_empty c.args.shape.now c.loop-bucket.bucket (turns_in c.loop-bucket.rest) (turns_in c.in_ok-key.behind) c.in_ok-key.key.now c.loop-bucket-test.true c.in_ok-key.ensures c.in-None.is
