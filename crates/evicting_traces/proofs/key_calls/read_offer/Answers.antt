use Rattle.std.proofs.Common.{None, Some, ap, sym, ◌∙◌}
use Rattle.place_words.specs.PlainTraces.{reply_of_put}
use Rattle.evicting_traces.proofs.Ways.{at_none}
use Rattle.evicting_traces.proofs.KeyTelling.{here, offer_none, offer_other, offer_one, offer_not}
use Rattle.evicting_traces.proofs.key_calls.read_offer.Goals as goal

pub returns-in_err-part : goal.returns-in_err-part
returns-in_err-part c = at_none _ _ c.from_residual.result c.from_residual.ensures (offer_none c.args.shape.now c.args.asked.now.side c.args.asked.now.flags c.args.asked.now.key.now c.args.asked.now.value.now c.args.seens.now c.args.element (here c.args.seens.now c.in_err-part.ensures c.bucket_number.ensures.value))

pub returns-in_err-put : goal.returns-in_err-put
returns-in_err-put c = at_none _ _ c.from_residual-in_err-put.result c.from_residual-in_err-put.ensures (offer_other c.args.shape.now c.args.asked.now.side c.args.asked.now.flags c.args.asked.now.key.now c.args.asked.now.value.now c.args.seens.now c.args.element c.in_ok-part.part.now c.in_ok-part.rest (here c.args.seens.now c.in_ok-part.ensures c.bucket_number.ensures.value) (sym c.in_err-put.ensures))

pub returns-in_err-behind : goal.returns-in_err-behind
returns-in_err-behind c =
    at_none _ _ c.from_residual-in_err-behind.result c.from_residual-in_err-behind.ensures
    (offer_one c.args.shape.now c.args.asked.now.side c.args.asked.now.flags c.args.asked.now.key.now c.args.asked.now.value.now c.args.seens.now c.args.element c.in_ok-part.part.now c.in_ok-part.rest c.in_ok-put.put c.left_over.result None (here c.args.seens.now c.in_ok-part.ensures c.bucket_number.ensures.value) (sym c.in_ok-put.ensures) (sym c.may_put.ensures ∙ c.if-may_put.true) c.left_over.ensures (c.in_err-behind.ensures (reply_of_put c.in_ok-put.put)))

pub returns-in_ok-behind : goal.returns-in_ok-behind
returns-in_ok-behind c =
    offer_one c.args.shape.now c.args.asked.now.side c.args.asked.now.flags c.args.asked.now.key.now c.args.asked.now.value.now c.args.seens.now c.args.element c.in_ok-part.part.now c.in_ok-part.rest c.in_ok-put.put c.left_over.result (Some (reply_of_put c.in_ok-put.put, c.in_ok-behind.behind)) (here c.args.seens.now c.in_ok-part.ensures c.bucket_number.ensures.value) (sym c.in_ok-put.ensures) (sym c.may_put.ensures ∙ c.if-may_put.true) c.left_over.ensures
    (c.in_ok-behind.ensures (reply_of_put c.in_ok-put.put))
    ∙ ap (λ r. Some (r, c.in_ok-behind.behind)) (sym c.put_refusal.ensures)

pub returns-else-may_put : goal.returns-else-may_put
returns-else-may_put c = offer_not c.args.shape.now c.args.asked.now.side c.args.asked.now.flags c.args.asked.now.key.now c.args.asked.now.value.now c.args.seens.now c.args.element c.in_ok-part.part.now c.in_ok-part.rest c.in_ok-put.put (here c.args.seens.now c.in_ok-part.ensures c.bucket_number.ensures.value) (sym c.in_ok-put.ensures) (sym c.may_put.ensures ∙ c.if-may_put.false)
