use Rattle.std.proofs.Common.{◌≡◌, ℕ, Ok, subst, rules}
use Rattle.map_types.specs.Creation.{creation}
use Rattle.map_types.specs.declared.attr.CreateAttr.{CreateAttr}
use Rattle.map_script.specs.declared.script.Script.{Script}
use Rattle.map_script.specs.Grammar.{target_line}
use Rattle.map_script.specs.Reading.{at_line}
use Rattle.map_script.proofs.Stages.{target_next}
use Rattle.map_script.proofs.reading.read_target.Goals as goal

pub returns-clause-reads : goal.returns-clause-reads
returns-clause-reads c =
    let attr = c.in_ok-attr.attr in
    let asked : CreateAttr × ℕ = (attr, c.in_ok-attr.count) in
    let line = c.in-Some.line in
    let said : at_line line (target_line c.read.inside.head.attr) ≡ Ok asked = search rules in
    let made : creation attr ≡ Ok c.in_ok-shape.shape = search rules in
    target_next c.args.read c.args.lines.now.lines c.next_line.new.self.lines line asked c.in_ok-shape.shape c.read_copied.result c.in-Some.ensures.line
    (subst (λ (script : Script). at_line line (target_line script.attr) ≡ Ok asked) c.read.view_is said) made c.read_copied.ensures.reads
