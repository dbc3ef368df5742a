use Rattle.std.proofs.Common.{◌++◌, sym, subst}
use Rattle.map_script.specs.declared.script.Form.{Form}
use Rattle.map_script.specs.declared.script.Script.{Script}
use Rattle.map_script.specs.declared.stage.Stage.TheVariants as stages
use Rattle.map_script.specs.Pieces.{ReadsOn, read_on}
use Rattle.map_script.specs.Reading.{body_of}
use Rattle.map_script.proofs.Stages.{body_calls, body_spec, body_target}
use Rattle.map_script.proofs.reading.read_body.Goals as goal

pub returns-in-Calls-clause-reads : goal.returns-in-Calls-clause-reads
returns-in-Calls-clause-reads c =
    let head = c.args.head in
    let lines = c.args.lines.now.lines in
    let made = c.read_calls_on.result in
    subst (λ (form : Form). ReadsOn (λ end more. body_of form head.version head.attr head.shape end (lines ++ more)) made) (sym c.in-Calls.is)
    (body_calls head lines made
    (subst (λ (script : Script). ReadsOn (λ end more. read_on (stages.Calls script) end (lines ++ more)) made) c.none.ensures c.read_calls_on.ensures.reads))

pub returns-in-Generator-clause-reads : goal.returns-in-Generator-clause-reads
returns-in-Generator-clause-reads c =
    let head = c.args.head in
    let lines = c.args.lines.now.lines in
    subst (λ (form : Form). ReadsOn (λ end more. body_of form head.version head.attr head.shape end (lines ++ more)) c.read_spec.result) (sym c.in-Generator.is)
    (body_spec head lines c.read_spec.result c.read_spec.ensures.reads)

pub returns-in-Copy-clause-reads : goal.returns-in-Copy-clause-reads
returns-in-Copy-clause-reads c =
    let head = c.args.head in
    let lines = c.args.lines.now.lines in
    let made = c.read_target.result in
    subst (λ (form : Form). ReadsOn (λ end more. body_of form head.version head.attr head.shape end (lines ++ more)) made) (sym c.in-Copy.is)
    (body_target head lines made
    (subst (λ (script : Script). ReadsOn (λ end more. read_on (stages.Target script) end (lines ++ more)) made) c.none-in-Copy.ensures c.read_target.ensures.reads))
