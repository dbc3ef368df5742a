use Rattle.std.proofs.Common.{refl, sym}
use Rattle.std.proofs.lemmas.Result.{IfOk-weaker}
use Rattle.map_batch.specs.Calls.{table_of}
use Rattle.map_run.proofs.BesideWorked.{others_ready, worked_beside}
use Rattle.map_run.proofs.copy_race.work_beside.Goals as goal

pub copy_and_work-requires-clause-ready : goal.copy_and_work-requires-clause-ready
copy_and_work-requires-clause-ready g c κs within =
    others_ready (table_of c.args.source.now) (table_of c.args.target.now) c.requires.split.0 c.in-Some.first.now c.in-Some.others.now c.args.workers.now (sym c.in-Some.ensures.cases.0) c.requires.split.1

pub returns : goal.returns
returns g c =
    IfOk-weaker c.copy_and_work.result _ _
    (λ puts copied. worked_beside (table_of c.args.source.now) (table_of c.args.target.now) c.args.before c.args.count c.args.calls.now c.in-Some.first.now c.copy_and_work.new.first c.in-Some.others.now c.copy_and_work.new.others c.args.workers.now _ c.args.put_pass.now _ puts.items
    (sym c.in-Some.ensures.cases.0) refl c.copy_and_work.auto.others c.copy_and_work.ensures.cpu copied c.copy_and_work.ensures.worked)
    c.copy_and_work.ensures.copied
