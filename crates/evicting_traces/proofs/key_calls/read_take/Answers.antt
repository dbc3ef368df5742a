use Rattle.std.proofs.Common.{ℕ, Option, None, Some, ap, sym, ◌∙◌}
use Rattle.place_words.specs.PlainTraces.{reply_of_got}
use Rattle.evicting_traces.specs.Calls.{read_frees_one}
use Rattle.evicting_traces.proofs.Ways.{at_none}
use Rattle.evicting_traces.proofs.KeyTelling.{here, take_none, take_other, take_one}
use Rattle.evicting_traces.proofs.key_calls.read_take.Goals as goal

pub returns-in_err-part : goal.returns-in_err-part
returns-in_err-part c = at_none _ _ c.from_residual.result c.from_residual.ensures (take_none c.args.shape.now c.args.key.now c.args.seens.now (here c.args.seens.now c.in_err-part.ensures c.bucket_number.ensures.value))

pub returns-in_err-gone : goal.returns-in_err-gone
returns-in_err-gone c =
    at_none _ _ c.from_residual-in_err-gone.result c.from_residual-in_err-gone.ensures
    (take_other c.args.shape.now c.args.key.now c.args.seens.now c.in_ok-part.part.now c.in_ok-part.rest (here c.args.seens.now c.in_ok-part.ensures c.bucket_number.ensures.value) c.in_err-gone.ensures)

pub returns-in_err-behind : goal.returns-in_err-behind
returns-in_err-behind c =
    at_none _ _ c.from_residual-in_err-behind.result c.from_residual-in_err-behind.ensures
    (take_one c.args.shape.now c.args.key.now c.args.seens.now c.in_ok-part.part.now c.in_ok-part.rest c.in_ok-gone.gone.now None (here c.args.seens.now c.in_ok-part.ensures c.bucket_number.ensures.value) c.in_ok-gone.ensures
    (ap (λ (o : Option ℕ). read_frees_one c.args.shape.now (reply_of_got c.in_ok-gone.gone.now) o c.in_ok-part.rest) (sym c.element_gone.ensures) ∙ c.in_err-behind.ensures (reply_of_got c.in_ok-gone.gone.now)))

pub returns : goal.returns
returns c =
    take_one c.args.shape.now c.args.key.now c.args.seens.now c.in_ok-part.part.now c.in_ok-part.rest c.in_ok-gone.gone.now (Some (reply_of_got c.in_ok-gone.gone.now, c.in_ok-behind.behind)) (here c.args.seens.now c.in_ok-part.ensures c.bucket_number.ensures.value) c.in_ok-gone.ensures
    (ap (λ (o : Option ℕ). read_frees_one c.args.shape.now (reply_of_got c.in_ok-gone.gone.now) o c.in_ok-part.rest) (sym c.element_gone.ensures) ∙ c.in_ok-behind.ensures (reply_of_got c.in_ok-gone.gone.now))
