use Rattle.place_words.specs.Turns.{bucket_of_key}
use Rattle.trace_check.specs.Calls.{found_in}
use Rattle.evicting_traces.proofs.Alone.{alone_none, alone_other, alone_one}
use Rattle.evicting_traces.proofs.KeyTelling.{here}
use Rattle.evicting_traces.proofs.Ways.{at_none}
use Rattle.evicting_traces.proofs.next_key.read_found.Goals as goal

pub returns-in_err-part : goal.returns-in_err-part
returns-in_err-part c =
    at_none _ _ c.from_residual.result c.from_residual.ensures
    (alone_none (bucket_of_key c.args.shape.now c.args.key.now) (found_in c.args.key.now) c.args.seens.now (here c.args.seens.now c.in_err-part.ensures c.bucket_number.ensures.value))

pub returns-in_err-found : goal.returns-in_err-found
returns-in_err-found c =
    at_none _ _ c.from_residual-in_err-found.result c.from_residual-in_err-found.ensures
    (alone_other (bucket_of_key c.args.shape.now c.args.key.now) (found_in c.args.key.now) c.args.seens.now c.in_ok-part.part.now c.in_ok-part.rest (here c.args.seens.now c.in_ok-part.ensures c.bucket_number.ensures.value) c.in_err-found.ensures)

pub returns : goal.returns
returns c =
    alone_one (bucket_of_key c.args.shape.now c.args.key.now) (found_in c.args.key.now) c.args.seens.now c.in_ok-part.part.now c.in_ok-part.rest c.in_ok-found.found.now (here c.args.seens.now c.in_ok-part.ensures c.bucket_number.ensures.value) c.in_ok-found.ensures
