use Rattle.std.proofs.Common.{sym}
use Rattle.evicting_traces.proofs.Ways.{at_none}
use Rattle.evicting_traces.proofs.KeyTelling.{here, lookup_none, lookup_other, lookup_one}
use Rattle.evicting_traces.proofs.key_calls.read_lookup.Goals as goal

pub returns-in_err-part : goal.returns-in_err-part
returns-in_err-part c = at_none _ _ c.from_residual.result c.from_residual.ensures (lookup_none c.args.shape.now c.args.key.now c.args.seens.now c.args.side (here c.args.seens.now c.in_err-part.ensures c.bucket_number.ensures.value))

pub returns-in_err-got : goal.returns-in_err-got
returns-in_err-got c =
    at_none _ _ c.from_residual-in_err-got.result c.from_residual-in_err-got.ensures
    (lookup_other c.args.shape.now c.args.key.now c.args.seens.now c.args.side c.in_ok-part.part.now c.in_ok-part.rest (here c.args.seens.now c.in_ok-part.ensures c.bucket_number.ensures.value) (sym c.in_err-got.ensures))

pub returns : goal.returns
returns c = lookup_one c.args.shape.now c.args.key.now c.args.seens.now c.args.side c.in_ok-part.part.now c.in_ok-part.rest c.in_ok-got.got (here c.args.seens.now c.in_ok-part.ensures c.bucket_number.ensures.value) (sym c.in_ok-got.ensures)
