use Rattle.trace_check.proofs.Answering.{also_read, next_of}
use Rattle.trace_check.proofs.next_key.read_next.Goals as goal

pub returns-in-Some : goal.returns-in-Some
returns-in-Some c =
    also_read c.args.reply.now c.read_after.result (next_of c.args.shape.now c.args.key.now c.in-Some.key c.as_slice.result.now c.args.turns.now c.in-Some.is c.as_slice.ensures) c.read_after.ensures
