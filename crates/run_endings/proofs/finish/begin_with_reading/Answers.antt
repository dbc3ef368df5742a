use Rattle.std.proofs.Common.{Ok, Err}
use Rattle.map_script.specs.Reading.{read_as}
use Rattle.run_endings.specs.Finish.{form_of}
use Rattle.run_endings.proofs.Beginnings.{read_so}
use Rattle.run_endings.proofs.FewEntries.{IsScript-read_as}
use Rattle.run_endings.proofs.finish.begin_with_reading.Goals as goal

pub begin_with_script-requires-clause-read : goal.begin_with_script-requires-clause-read
begin_with_script-requires-clause-read g c =
    (c.requires.0, read_so (read_as (form_of c.args.asked.mode) c.requires.0) c.args.read (Ok c.in-Ok.script) c.in-Ok.is c.requires.2)

pub begin_with_script-requires-clause-script : goal.begin_with_script-requires-clause-script
begin_with_script-requires-clause-script g c =
    IsScript-read_as (form_of c.args.asked.mode) c.requires.0 c.in-Ok.script c.requires.1
    (read_so (read_as (form_of c.args.asked.mode) c.requires.0) c.args.read (Ok c.in-Ok.script) c.in-Ok.is c.requires.2)

pub returns-in-Ok-clause-due : goal.returns-in-Ok-clause-due
returns-in-Ok-clause-due g c = λ input reading.
    c.begin_with_script.ensures.due input (read_so (read_as (form_of c.args.asked.mode) input) c.args.read (Ok c.in-Ok.script) c.in-Ok.is reading)

pub returns-in-Ok-clause-early : goal.returns-in-Ok-clause-early
returns-in-Ok-clause-early g c = λ input reading.
    c.begin_with_script.ensures.early input (read_so (read_as (form_of c.args.asked.mode) input) c.args.read (Ok c.in-Ok.script) c.in-Ok.is reading)

pub returns-in-Err-clause-early : goal.returns-in-Err-clause-early
returns-in-Err-clause-early g c = λ input reading.
    c.end_without_script.ensures c.args.asked input (read_so (read_as (form_of c.args.asked.mode) input) c.args.read (Err c.in-Err.refusal) c.in-Err.is reading)
