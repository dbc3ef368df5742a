use Rattle.std.proofs.Common.{◌≡◌, ◌++◌, Result, Err, sym, subst, rules}
use Rattle.map_script.specs.declared.refusal.ScriptRefusal.{ScriptRefusal}
use Rattle.map_script.specs.declared.script.Script.{Script}
use Rattle.map_script.specs.declared.stage.Stage.{Stage}
use Rattle.map_script.specs.declared.stage.Stage.TheVariants as stages
use Rattle.map_script.specs.CallsSoFar.{calls_of}
use Rattle.map_script.specs.Pieces.{ReadsOn, read_on}
use Rattle.map_script.specs.Reading.{IsReading}
use Rattle.map_script.proofs.Stages.{calls_next, calls_refused}
use Rattle.map_script.proofs.reading.read_calls_on.Goals as goal

pub returns-in_err-read-clause-reads : goal.returns-in_err-read-clause-reads
returns-in_err-read-clause-reads c =
    let lines = c.args.lines.now.lines in
    let refusal = c.in_err-read.field-0.0 in
    let gives : c.from_residual.result ≡ Err refusal = search rules in
    let said : IsReading (Err refusal) (calls_of c.args.read lines) =
    subst (λ (r : Result Script ScriptRefusal). IsReading r (calls_of c.args.read lines)) c.in_err-read.was c.read_calls.ensures.read in
    subst (λ (r : Result Stage ScriptRefusal). ReadsOn (λ end more. read_on (stages.Calls c.args.read) end (lines ++ more)) r) (sym gives)
    (calls_refused c.args.read lines refusal said)

pub returns-clause-reads : goal.returns-clause-reads
returns-clause-reads c = calls_next c.args.read c.in_ok-read.read c.args.lines.now.lines c.in_ok-read.ensures.read
