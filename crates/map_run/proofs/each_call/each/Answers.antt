use Rattle.std.proofs.Common.{rules}
use Rattle.map_run.proofs.HandedCalls.{each_called, refused_handing}
use Rattle.map_run.proofs.each_call.each.Goals as goal

pub returns-in-Ok-clause-called : goal.returns-in-Ok-clause-called
returns-in-Ok-clause-called g c = each_called c.args.flags c.args.stop.now _ c.table-table.ensures.value c.requires.can c.in-Ok.ensures.3 (λ key value answer says bytes. search rules)

pub returns-in-Err-Einval-clause-called : goal.returns-in-Err-Einval-clause-called
returns-in-Err-Einval-clause-called g c =
    each_called c.args.flags c.args.stop.now _ c.table-table.ensures.value c.requires.can (refused_handing c.in-Err-Einval.field-0 c.in-Err-Einval.field-0-is c.in-Err-Einval.ensures) (λ key value answer says bytes. search rules)
