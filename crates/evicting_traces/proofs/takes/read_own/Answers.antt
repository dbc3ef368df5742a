use Rattle.std.proofs.Common.{sym, ◌∙◌, None, Some}
use Rattle.evicting_traces.proofs.Telling.{own_none, own_one}
use Rattle.evicting_traces.proofs.takes.read_own.Goals as goal

pub returns-in_err-last : goal.returns-in_err-last
returns-in_err-last c = c.from_residual.ensures ∙ sym (own_none c.args.shape.now c.args.cpu c.args.hash c.args.seens.now c.in_err-last.ensures)

pub returns-in_err-got : goal.returns-in_err-got
returns-in_err-got c = c.from_residual-in_err-got.ensures ∙ sym (own_one c.args.shape.now c.args.cpu c.args.hash c.args.seens.now c.in_ok-last.last.now c.in_ok-last.rest None c.in_ok-last.ensures (sym c.in_err-got.ensures))

pub returns : goal.returns
returns c = sym (own_one c.args.shape.now c.args.cpu c.args.hash c.args.seens.now c.in_ok-last.last.now c.in_ok-last.rest (Some c.in_ok-got.got) c.in_ok-last.ensures (sym c.in_ok-got.ensures))
