use Rattle.std.proofs.Common.{None, Some, ap, sym, ◌∙◌}
use Rattle.place_words.specs.PlainTraces.{reply_of_gone}
use Rattle.evicting_traces.proofs.Ways.{at_none}
use Rattle.evicting_traces.proofs.KeyTelling.{here, delete_none, delete_other, delete_one}
use Rattle.evicting_traces.proofs.key_calls.read_delete.Goals as goal

pub returns-in_err-part : goal.returns-in_err-part
returns-in_err-part c = at_none _ _ c.from_residual.result c.from_residual.ensures (delete_none c.args.shape.now c.args.key.now c.args.seens.now (here c.args.seens.now c.in_err-part.ensures c.bucket_number.ensures.value))

pub returns-in_err-gone : goal.returns-in_err-gone
returns-in_err-gone c =
    at_none _ _ c.from_residual-in_err-gone.result c.from_residual-in_err-gone.ensures
    (delete_other c.args.shape.now c.args.key.now c.args.seens.now c.in_ok-part.part.now c.in_ok-part.rest (here c.args.seens.now c.in_ok-part.ensures c.bucket_number.ensures.value) (sym c.in_err-gone.ensures))

pub returns-in_err-behind : goal.returns-in_err-behind
returns-in_err-behind c =
    at_none _ _ c.from_residual-in_err-behind.result c.from_residual-in_err-behind.ensures
    (delete_one c.args.shape.now c.args.key.now c.args.seens.now c.in_ok-part.part.now c.in_ok-part.rest c.in_ok-gone.gone None (here c.args.seens.now c.in_ok-part.ensures c.bucket_number.ensures.value) (sym c.in_ok-gone.ensures) (c.in_err-behind.ensures (reply_of_gone c.in_ok-gone.gone)))

pub returns : goal.returns
returns c =
    delete_one c.args.shape.now c.args.key.now c.args.seens.now c.in_ok-part.part.now c.in_ok-part.rest c.in_ok-gone.gone (Some (reply_of_gone c.in_ok-gone.gone, c.in_ok-behind.behind)) (here c.args.seens.now c.in_ok-part.ensures c.bucket_number.ensures.value) (sym c.in_ok-gone.ensures) (c.in_ok-behind.ensures (reply_of_gone c.in_ok-gone.gone))
    ∙ ap (λ r. Some (r, c.in_ok-behind.behind)) (sym c.gone_refusal.ensures)
