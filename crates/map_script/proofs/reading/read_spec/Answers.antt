use Rattle.std.proofs.Common.{◌≡◌, ◌++◌, Ok, subst, rules}
use Rattle.map_script.specs.declared.script.Script.{Script}
use Rattle.map_script.specs.declared.stage.Stage.TheVariants as stages
use Rattle.map_script.specs.Grammar.{gen_line}
use Rattle.map_script.specs.Pieces.{ReadsOn, read_on}
use Rattle.map_script.specs.Reading.{at_line}
use Rattle.map_script.proofs.Stages.{spec_next}
use Rattle.map_script.proofs.reading.read_spec.Goals as goal

pub returns-clause-reads : goal.returns-clause-reads
returns-clause-reads c =
    let head = c.args.head in
    let rest = c.next_line.new.self.lines in
    let said : at_line c.in-Some.line (gen_line head.shape) ≡ Ok c.in_ok-spec.spec = search rules in
    spec_next head c.args.lines.now.lines rest c.in-Some.line c.in_ok-spec.spec c.read_nothing.result c.in-Some.ensures.line said
    (subst (λ (script : Script). ReadsOn (λ end more. read_on (stages.Whole script) end (rest ++ more)) c.read_nothing.result) c.with_spec.ensures c.read_nothing.ensures.reads)
