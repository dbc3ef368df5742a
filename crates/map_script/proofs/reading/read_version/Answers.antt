use Rattle.std.proofs.Common.{◌≡◌, ◌++◌, Result, Ok, Err, sym, subst, rules}
use Rattle.map_script.specs.declared.refusal.ScriptRefusal.{ScriptRefusal}
use Rattle.map_script.specs.declared.stage.Stage.{Stage}
use Rattle.map_script.specs.Pieces.{ReadsOn}
use Rattle.map_script.specs.Grammar.{version_line}
use Rattle.map_script.specs.Reading.{at_line, version_of}
use Rattle.map_script.proofs.Stages.{version_next, version_fault}
use Rattle.map_script.proofs.reading.read_version.Goals as goal

pub returns-clause-reads : goal.returns-clause-reads
returns-clause-reads c =
    let said : at_line c.in-Some.line (version_line c.args.form) ≡ Ok c.in_ok-version.version = search rules in
    version_next c.args.form c.args.lines.now.lines c.next_line.new.self.lines c.in-Some.line c.in_ok-version.version c.read_map.result c.in-Some.ensures.line said c.read_map.ensures.reads

pub returns-in_err-version-clause-reads : goal.returns-in_err-version-clause-reads
returns-in_err-version-clause-reads c =
    let form = c.args.form in
    let lines = c.args.lines.now.lines in
    let refusal = c.in_err-version.field-0.0 in
    let said : at_line c.in-Some.line (version_line form) ≡ Err refusal = search rules in
    let gives : c.from_residual.result ≡ Err refusal = search rules in
    subst (λ (r : Result Stage ScriptRefusal). ReadsOn (λ end more. version_of form end (lines ++ more)) r) (sym gives)
    (version_fault form lines c.next_line.new.self.lines c.in-Some.line refusal c.in-Some.ensures.line said)
