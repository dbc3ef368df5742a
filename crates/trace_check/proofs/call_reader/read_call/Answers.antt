use Rattle.std.proofs.Common.{length}
use Rattle.map_types.proofs.CreationLemmas.{bounds_of_shape}
use Rattle.trace_check.specs.BySpares.{read_plain_by}
use Rattle.trace_check.specs.Strand.{spare_before}
use Rattle.trace_check.proofs.CallsRead.{none_counted}
use Rattle.trace_check.proofs.call_reader.read_call.Goals as goal

pub read_rest-requires-clause-shape : goal.read_rest-requires-clause-shape
read_rest-requires-clause-shape c = bounds_of_shape c.args.shape.now c.requires.shape

pub returns-in_err-rest : goal.returns-in_err-rest
returns-in_err-rest c =
    rw c.from_residual.ensures
    (none_counted (length c.args.turns.now) (read_plain_by c.args.shape.now c.args.cpu (spare_before c.args.spares.now) c.args.verb.now c.args.turns.now) c.args.reply.now c.in_err-rest.ensures)
