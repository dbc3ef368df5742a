use Rattle.std.proofs.Common.{Some, ap, sym, ◌∙◌}
use Rattle.evicting_traces.proofs.Ways.{at_none}
use Rattle.evicting_traces.proofs.KeyTelling.{here, write_none, write_other, write_one, write_not}
use Rattle.evicting_traces.proofs.key_calls.read_write.Goals as goal

pub returns-in_err-part : goal.returns-in_err-part
returns-in_err-part c = at_none _ _ c.from_residual.result c.from_residual.ensures (write_none c.args.shape.now c.args.asked.now.side c.args.asked.now.flags c.args.asked.now.key.now c.args.asked.now.value.now c.args.seens.now (here c.args.seens.now c.in_err-part.ensures c.bucket_number.ensures.value))

pub returns-in_err-put : goal.returns-in_err-put
returns-in_err-put c = at_none _ _ c.from_residual-in_err-put.result c.from_residual-in_err-put.ensures (write_other c.args.shape.now c.args.asked.now.side c.args.asked.now.flags c.args.asked.now.key.now c.args.asked.now.value.now c.args.seens.now c.in_ok-part.part.now c.in_ok-part.rest (here c.args.seens.now c.in_ok-part.ensures c.bucket_number.ensures.value) (sym c.in_err-put.ensures))

pub returns-then-may_put_alone : goal.returns-then-may_put_alone
returns-then-may_put_alone c =
    write_one c.args.shape.now c.args.asked.now.side c.args.asked.now.flags c.args.asked.now.key.now c.args.asked.now.value.now c.args.seens.now c.in_ok-part.part.now c.in_ok-part.rest c.in_ok-put.put (here c.args.seens.now c.in_ok-part.ensures c.bucket_number.ensures.value) (sym c.in_ok-put.ensures) (sym c.may_put_alone.ensures ∙ c.if-may_put_alone.true)
    ∙ ap (λ r. Some (r, c.in_ok-part.rest)) (sym c.put_refusal.ensures)

pub returns-else-may_put_alone : goal.returns-else-may_put_alone
returns-else-may_put_alone c = write_not c.args.shape.now c.args.asked.now.side c.args.asked.now.flags c.args.asked.now.key.now c.args.asked.now.value.now c.args.seens.now c.in_ok-part.part.now c.in_ok-part.rest c.in_ok-put.put (here c.args.seens.now c.in_ok-part.ensures c.bucket_number.ensures.value) (sym c.in_ok-put.ensures) (sym c.may_put_alone.ensures ∙ c.if-may_put_alone.false)
