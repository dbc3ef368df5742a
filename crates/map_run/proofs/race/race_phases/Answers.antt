use Rattle.std.proofs.Common.{◌≡◌, ◌+◌, suc, subst, arith}
use Rattle.map_batch.specs.Calls.{table_of}
use Rattle.run_records.specs.Races.{HaveComeTo}
use Rattle.map_run.proofs.race.race_phases.Goals as goal

pub loop-phase-preserved : goal.loop-phase-preserved
loop-phase-preserved g c =
    subst (λ k. HaveComeTo (table_of c.args.map.now) c.args.script.now k c.race_phase.new.pass c.race_phase.new.told.replies.items c.race_phase.new.told.starts.items c.race_phase.new.told.pieces.items)
    (let next : suc c.loop-phase.phase ≡ c.loop-phase.phase + 1 = omega arith in next) c.in_ok-race_phase.ensures

pub returns : goal.returns
returns g c =
    subst (λ k. HaveComeTo (table_of c.args.map.now) c.args.script.now k c.loop-phase.pass c.loop-phase.told.replies.items c.loop-phase.told.starts.items c.loop-phase.told.pieces.items)
    (let end : c.loop-phase.phase ≡ c.args.phases = omega arith in end) c.loop-phase.invariant
