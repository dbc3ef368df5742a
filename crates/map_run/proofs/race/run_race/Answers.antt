use Rattle.std.proofs.lemmas.Result.{IfOk-weaker}
use Rattle.run_records.specs.Races.{IsRaceRecord}
use Rattle.serial_laws.proofs.ServedLemmas.{well_formed, IsServed-from_script}
use Rattle.place_words.specs.Interleaving.{CoreRun}
use Rattle.one_map.specs.Linear.{IsLinearizable}
use Rattle.map_run.proofs.Linearizable.{race_is_linearizable}
use Rattle.map_run.proofs.OneOrder.{race_is_run}
use Rattle.map_run.proofs.race.run_race.Goals as goal

pub returns-clause-order : goal.returns-clause-order
returns-clause-order g c =
    IfOk-weaker c.race_script.result (λ kept. IsRaceRecord c.args.script.now kept.0) (λ kept. CoreRun c.args.script.now.shape kept.0.histories)
    (λ kept race. race_is_run c.args.script.now kept.0 (IsServed-from_script c.args.script.now c.requires.script).bounds race) c.race_script.ensures.record

pub returns-clause-linear : goal.returns-clause-linear
returns-clause-linear g c =
    IfOk-weaker c.race_script.result (λ kept. IsRaceRecord c.args.script.now kept.0) (λ kept. IsLinearizable c.args.script.now kept.0)
    (λ kept race. race_is_linearizable c.args.script.now kept.0 (well_formed c.args.script.now c.requires.script) race) c.race_script.ensures.record

pub race_script-requires-clause-shape : goal.race_script-requires-clause-shape
race_script-requires-clause-shape g c κs within = (well_formed c.args.script.now c.requires.script).shape

pub race_script-requires-clause-served : goal.race_script-requires-clause-served
race_script-requires-clause-served g c κs within = IsServed-from_script c.args.script.now c.requires.script

pub race_script-requires-clause-few : goal.race_script-requires-clause-few
race_script-requires-clause-few g c κs within = (well_formed c.args.script.now c.requires.script).few

pub race_script-requires-clause-phases : goal.race_script-requires-clause-phases
race_script-requires-clause-phases g c κs within = (well_formed c.args.script.now c.requires.script).phases

pub race_script-requires-clause-script : goal.race_script-requires-clause-script
race_script-requires-clause-script g c κs within = c.requires.script
