use Rattle.trace_check.proofs.Fields.{field_is}
use Rattle.trace_check.proofs.pair_tests.field.Goals as goal

pub returns : goal.returns
returns c =
    field_is c.args.cpus c.args.cpu c.args.size c.next_multiple_of.result c.min.result c.min-2.result c.args.fields.now c.requires.cpu
    c.next_multiple_of.ensures.value c.min.ensures c.min-2.ensures
