use Rattle.trace_check.specs.Calls.{first_in}
use Rattle.evicting_traces.proofs.Alone.{alone_none, alone_other, alone_one}
use Rattle.evicting_traces.proofs.Ways.{at_none}
use Rattle.evicting_traces.proofs.next_key.read_head.Goals as goal

pub returns-in_err-part : goal.returns-in_err-part
returns-in_err-part c = at_none _ _ c.from_residual.result c.from_residual.ensures (alone_none c.args.bucket first_in c.args.seens.now c.in_err-part.ensures)

pub returns-in_err-key : goal.returns-in_err-key
returns-in_err-key c =
    at_none _ _ c.from_residual-in_err-key.result c.from_residual-in_err-key.ensures
    (alone_other c.args.bucket first_in c.args.seens.now c.in_ok-part.part.now c.in_ok-part.rest c.in_ok-part.ensures c.in_err-key.ensures)

pub returns : goal.returns
returns c = alone_one c.args.bucket first_in c.args.seens.now c.in_ok-part.part.now c.in_ok-part.rest c.in_ok-key.key.now c.in_ok-part.ensures c.in_ok-key.ensures
