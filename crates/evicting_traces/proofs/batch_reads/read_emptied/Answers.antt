use Rattle.std.proofs.Common.{None, Some}
use Rattle.evicting_traces.proofs.Ways.{at_none}
use Rattle.evicting_traces.proofs.Emptying.{emptied_none, emptied_other, emptied_one}
use Rattle.evicting_traces.proofs.batch_reads.read_emptied.Goals as goal

pub returns-in_err-part : goal.returns-in_err-part
returns-in_err-part c = at_none _ _ c.from_residual.result c.from_residual.ensures (emptied_none c.args.shape.now c.args.bucket c.args.remove c.args.room c.args.seens.now c.in_err-part.ensures)

pub returns-in_err-walked : goal.returns-in_err-walked
returns-in_err-walked c =
    at_none _ _ c.from_residual-in_err-walked.result c.from_residual-in_err-walked.ensures
    (emptied_other c.args.shape.now c.args.bucket c.args.remove c.args.room c.args.seens.now c.in_ok-part.part.now c.in_ok-part.rest c.in_ok-part.ensures c.in_err-walked.ensures)

pub returns-in_err-behind : goal.returns-in_err-behind
returns-in_err-behind c =
    at_none _ _ c.from_residual-in_err-behind.result c.from_residual-in_err-behind.ensures
    (emptied_one c.args.shape.now c.args.bucket c.args.remove c.args.room c.args.seens.now c.in_ok-part.part.now c.in_ok-part.rest c.in_ok-walked.walked.now None c.in_ok-part.ensures c.in_ok-walked.ensures
    (c.in_err-behind.ensures c.in_ok-walked.walked.now))

pub returns : goal.returns
returns c =
    emptied_one c.args.shape.now c.args.bucket c.args.remove c.args.room c.args.seens.now c.in_ok-part.part.now c.in_ok-part.rest c.in_ok-walked.walked.now (Some (c.in_ok-walked.walked.now, c.in_ok-behind.behind)) c.in_ok-part.ensures c.in_ok-walked.ensures
    (c.in_ok-behind.ensures c.in_ok-walked.walked.now)
