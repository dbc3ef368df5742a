use Rattle.serial_laws.proofs.ServedLemmas.{IsServed-from_script}
use Rattle.map_run.proofs.CopyScripts.{free_last, target_fits}
use Rattle.map_run.proofs.copy_race.run_copy.Goals as goal

pub copy_script-requires-clause-served : goal.copy_script-requires-clause-served
copy_script-requires-clause-served g c κs within = IsServed-from_script c.args.script.now c.requires.script

pub copy_script-requires-clause-free : goal.copy_script-requires-clause-free
copy_script-requires-clause-free g c κs within = free_last c.args.script.now c.in-Some.target c.requires.script c.in-Some.is

pub copy_script-requires-clause-fits : goal.copy_script-requires-clause-fits
copy_script-requires-clause-fits g c κs within = target_fits c.args.script.now c.in-Some.target c.requires.script c.in-Some.is
