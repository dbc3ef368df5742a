use Rattle.serial_laws.proofs.SerialLaws.{serial_laws}
use Rattle.serial_laws.proofs.ServedLemmas.{well_formed, IsServed-from_script}
use Rattle.map_run.proofs.serial.run_serial.Goals as goal

pub run_script-requires-clause-shape : goal.run_script-requires-clause-shape
run_script-requires-clause-shape g c κs within = (well_formed c.args.script.now c.requires.script).shape

pub run_script-requires-clause-served : goal.run_script-requires-clause-served
run_script-requires-clause-served g c κs within = IsServed-from_script c.args.script.now c.requires.script

pub run_script-requires-clause-few : goal.run_script-requires-clause-few
run_script-requires-clause-few g c κs within = (well_formed c.args.script.now c.requires.script).few

pub run_script-requires-clause-phases : goal.run_script-requires-clause-phases
run_script-requires-clause-phases g c κs within = (well_formed c.args.script.now c.requires.script).phases

pub returns-clause-laws : goal.returns-clause-laws
returns-clause-laws g c = serial_laws c.args.script.now c.requires.script

pub run_script-requires-clause-script : goal.run_script-requires-clause-script
run_script-requires-clause-script g c κs within = c.requires.script
