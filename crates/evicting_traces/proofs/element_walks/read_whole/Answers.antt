use Rattle.std.proofs.Common.{false}
use Rattle.trace_check.specs.Calls.{walked_in}
use Rattle.evicting_traces.proofs.Alone.{alone_none, alone_other, alone_one}
use Rattle.evicting_traces.proofs.Ways.{at_none}
use Rattle.evicting_traces.proofs.element_walks.read_whole.Goals as goal

pub returns-in_err-part : goal.returns-in_err-part
returns-in_err-part c = at_none _ _ c.from_residual.result c.from_residual.ensures (alone_none c.args.bucket (walked_in false c.args.room) c.args.seens.now c.in_err-part.ensures)

pub returns-in_err-walked : goal.returns-in_err-walked
returns-in_err-walked c =
    at_none _ _ c.from_residual-in_err-walked.result c.from_residual-in_err-walked.ensures
    (alone_other c.args.bucket (walked_in false c.args.room) c.args.seens.now c.in_ok-part.part.now c.in_ok-part.rest c.in_ok-part.ensures c.in_err-walked.ensures)

pub returns : goal.returns
returns c =
    alone_one c.args.bucket (walked_in false c.args.room) c.args.seens.now c.in_ok-part.part.now c.in_ok-part.rest c.in_ok-walked.walked.now c.in_ok-part.ensures c.in_ok-walked.ensures
