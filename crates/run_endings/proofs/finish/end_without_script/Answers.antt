use Rattle.std.proofs.Common.{refl}
use Rattle.map_script.specs.declared.refusal.ScriptRefusal.TheVariants.{Fault, Create}
use Rattle.map_script.specs.Reading.{read_as}
use Rattle.run_endings.specs.Finish.{OutOfMemory, form_of}
use Rattle.run_endings.proofs.Beginnings.{refused_so}
use Rattle.run_endings.proofs.finish.end_without_script.Goals as goal

pub returns-in-Fault : goal.returns-in-Fault
returns-in-Fault g c = λ asked input reading.
    c.end_with_fault.ensures asked input (refused_so (read_as (form_of asked.mode) input) c.args.refusal (Fault c.in-Fault.line c.in-Fault.cause) c.in-Fault.is reading)

pub returns-in-Create : goal.returns-in-Create
returns-in-Create g c = λ asked input reading.
    c.end_with_refusal.ensures asked input (refused_so (read_as (form_of asked.mode) input) c.args.refusal (Create c.in-Create.why) c.in-Create.is reading)

pub returns-in-NoMemory : goal.returns-in-NoMemory
returns-in-NoMemory g c = λ asked input reading. record { ending = OutOfMemory; cause = tt; none = refl; delivered = c.end_with_line.ensures }
