use Rattle.std.proofs.Common.{◌≡◌, ◌++◌, Result, Ok, Err, refl, sym, subst, rules}
use Rattle.map_script.specs.declared.refusal.ScriptRefusal.{ScriptRefusal}
use Rattle.map_script.specs.declared.refusal.ScriptRefusal.TheVariants.{Create}
use Rattle.map_script.specs.declared.stage.Stage.{Stage}
use Rattle.map_script.specs.Pieces.{ReadsOn}
use Rattle.map_types.specs.Creation.{creation}
use Rattle.map_script.specs.Grammar.{map_line}
use Rattle.map_script.specs.Reading.{at_line, map_of}
use Rattle.map_script.proofs.Stages.{map_next, map_fault, map_refused}
use Rattle.map_script.proofs.reading.read_map.Goals as goal

pub returns-clause-reads : goal.returns-clause-reads
returns-clause-reads c =
    let said : at_line c.in-Some.line map_line ≡ Ok c.in_ok-attr.attr = search rules in
    let made : creation c.in_ok-attr.attr ≡ Ok c.in_ok-shape.shape = search rules in
    map_next c.args.form c.args.version c.args.lines.now.lines c.next_line.new.self.lines c.in-Some.line c.in_ok-attr.attr c.in_ok-shape.shape c.read_body.result c.in-Some.ensures.line said made c.read_body.ensures.reads

pub returns-in_err-attr-clause-reads : goal.returns-in_err-attr-clause-reads
returns-in_err-attr-clause-reads c =
    let form = c.args.form in
    let lines = c.args.lines.now.lines in
    let refusal = c.in_err-attr.field-0.0 in
    let said : at_line c.in-Some.line map_line ≡ Err refusal = search rules in
    let gives : c.from_residual.result ≡ Err refusal = search rules in
    subst (λ (r : Result Stage ScriptRefusal). ReadsOn (λ end more. map_of form c.args.version end (lines ++ more)) r) (sym gives)
    (map_fault form c.args.version lines c.next_line.new.self.lines c.in-Some.line refusal c.in-Some.ensures.line said)

pub returns-in_err-shape-clause-reads : goal.returns-in_err-shape-clause-reads
returns-in_err-shape-clause-reads c =
    let form = c.args.form in
    let lines = c.args.lines.now.lines in
    let why = c.in_err-shape.field-0.0 in
    let said : at_line c.in-Some.line map_line ≡ Ok c.in_ok-attr.attr = search rules in
    let made : creation c.in_ok-attr.attr ≡ Err why = search rules in
    let gives : c.from_residual-in_err-shape.result ≡ Err (Create why) = search rules in
    subst (λ (r : Result Stage ScriptRefusal). ReadsOn (λ end more. map_of form c.args.version end (lines ++ more)) r) (sym gives)
    (map_refused form c.args.version lines c.next_line.new.self.lines c.in-Some.line c.in_ok-attr.attr why (Create why) c.in-Some.ensures.line said made refl)
