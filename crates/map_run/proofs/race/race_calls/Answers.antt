use Rattle.std.proofs.Common.{suc, ◌∙◌, ap}
use Rattle.map_types.specs.declared.attr.Shape.{Shape}
use Rattle.map_batch.specs.Calls.{table_of}
use Rattle.place_table.specs.Passes.{TableView}
use Rattle.map_run.proofs.Workers.{all_ended, each_ready}
use Rattle.map_run.proofs.race.race_calls.Goals as goal

pub work_all-requires-clause-first : goal.work_all-requires-clause-first
work_all-requires-clause-first g c κs within = each_ready (table_of c.args.map.now) c.args.pass.now 0 c.split_all.new.workers.items c.split_all.ensures.workers

pub join_all-requires-clause-ended : goal.join_all-requires-clause-ended
join_all-requires-clause-ended g c =
    let cpus_are = ap (λ (shape : Shape). shape.cpus) c.shape.ensures ∙ ap (λ (z : TableView). z.shape.cpus) c.table.ensures.value in (
      suc c.args.before,
      c.args.pass.now,
      all_ended (table_of c.args.map.now) (suc c.args.before) c.args.calls.now c.args.pass.now c.split_all.new.pass c.shape.result.now.cpus c.split_all.new.workers.items c.work_all.new.workers.items cpus_are
          c.split_all.ensures.split c.split_all.ensures.workers c.split_all.ensures.count c.in_ok-work_all.ensures.worked c.work_all.ensures.count,
    )

pub returns : goal.returns
returns g c =
    let cpus_are = ap (λ (shape : Shape). shape.cpus) c.shape.ensures ∙ ap (λ (z : TableView). z.shape.cpus) c.table.ensures.value in
    c.join_all.ensures (suc c.args.before) c.args.pass.now
    (all_ended (table_of c.args.map.now) (suc c.args.before) c.args.calls.now c.args.pass.now c.split_all.new.pass c.shape.result.now.cpus c.split_all.new.workers.items c.work_all.new.workers.items cpus_are
    c.split_all.ensures.split c.split_all.ensures.workers c.split_all.ensures.count c.in_ok-work_all.ensures.worked c.work_all.ensures.count)
