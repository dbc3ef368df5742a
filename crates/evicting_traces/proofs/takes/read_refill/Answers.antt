use Rattle.std.proofs.Common.{sym, ◌∙◌, None, Some}
use Rattle.evicting_traces.proofs.Telling.{refill_none, refill_empty, refill_one}
use Rattle.evicting_traces.proofs.takes.read_refill.Goals as goal

pub returns-in_err-given : goal.returns-in_err-given
returns-in_err-given c = c.from_residual.ensures ∙ sym (refill_none c.args.shape.now c.args.cpu c.args.hash c.args.seens.now c.in_err-given.ensures)

pub returns-in_err-last : goal.returns-in_err-last
returns-in_err-last c =
    c.from_residual-in_err-last.ensures ∙ sym (refill_empty c.args.shape.now c.args.cpu c.args.hash c.args.seens.now c.in_ok-given.given.now c.in_ok-given.rest c.in_ok-given.ensures c.in_err-last.ensures)

pub returns-in_err-refill : goal.returns-in_err-refill
returns-in_err-refill c =
    c.from_residual-in_err-refill.ensures
    ∙ sym (refill_one c.args.shape.now c.args.cpu c.args.hash c.args.seens.now c.in_ok-given.given.now c.in_ok-last.last.now c.in_ok-given.rest c.in_ok-last.behind None c.in_ok-given.ensures c.in_ok-last.ensures (sym c.in_err-refill.ensures))

pub returns : goal.returns
returns c =
    sym (refill_one c.args.shape.now c.args.cpu c.args.hash c.args.seens.now c.in_ok-given.given.now c.in_ok-last.last.now c.in_ok-given.rest c.in_ok-last.behind (Some c.in_ok-refill.refill) c.in_ok-given.ensures c.in_ok-last.ensures (sym c.in_ok-refill.ensures))
