use Rattle.std.proofs.Common.{refl, sym, ◌∙◌, subst, rules, arith}
use Rattle.map_batch.specs.Calls.{table_of}
use Rattle.place_table.specs.Passes.{TableView, CanSplit}
use Rattle.map_run.specs.Workers.{AreSplitOff}
use Rattle.map_run.proofs.Workers.{whole_split, split_more, off_split, workers_more}
use Rattle.map_run.proofs.race.split_all.Goals as goal

pub loop-cpu-init : goal.loop-cpu-init
loop-cpu-init c = record {
  rest = whole_split (table_of c.args.map.now) c.args.pass.now c.requires.whole;
  workers = subst (AreSplitOff (table_of c.args.map.now) c.args.pass.now 0) (sym c.requires.room.0) tt;
  count = search rules;
  room = search rules;
}

pub split-part-requires : goal.split-part-requires
split-part-requires c =
    let rest = c.loop-cpu.invariant.rest in
    subst (λ (z : TableView). CanSplit z c.loop-cpu.cpu c.loop-cpu.pass) (sym c.table.ensures.value)
    record { of_table = rest.of_table; has_cpu = rest.here c.loop-cpu.cpu (omega arith) (omega arith); in_no_call = rest.in_no_call }

pub loop-cpu-preserved : goal.loop-cpu-preserved
loop-cpu-preserved c =
    let so_far = c.loop-cpu.invariant in
    record {
      rest = split_more so_far.rest c.split-part.ensures;
      workers = subst (AreSplitOff (table_of c.args.map.now) c.args.pass.now 0) (sym c.push_reserved.ensures.items)
          (workers_more (table_of c.args.map.now) c.args.pass.now 0 c.loop-cpu.cpu c.loop-cpu.workers.items _ so_far.workers (sym so_far.count ∙ omega arith) refl (off_split so_far.rest c.split-part.ensures) c.new.ensures);
      count = search rules;
      room = search rules;
    }
