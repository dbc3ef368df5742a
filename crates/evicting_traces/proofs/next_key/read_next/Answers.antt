use Rattle.trace_check.proofs.Answering.{next_of}
use Rattle.evicting_traces.specs.Reading.{turns_in}
use Rattle.evicting_traces.proofs.Answering.{also_turned}
use Rattle.evicting_traces.proofs.next_key.read_next.Goals as goal

pub returns-in-Some : goal.returns-in-Some
returns-in-Some c =
    also_turned c.args.reply.now c.read_after.result (next_of c.args.shape.now c.args.key.now c.in-Some.key c.as_slice.result.now (turns_in c.args.seens.now) c.in-Some.is c.as_slice.ensures) c.read_after.ensures
