use Rattle.std.proofs.Common.{◌++◌, sym, subst}
use Rattle.map_script.specs.declared.stage.Stage.{Stage}
use Rattle.map_script.specs.Pieces.{ReadsOn, read_on}
use Rattle.map_script.proofs.reading.read_lines.Goals as goal

pub returns-in-Calls-clause-reads : goal.returns-in-Calls-clause-reads
returns-in-Calls-clause-reads c =
    subst (λ (stage : Stage). ReadsOn (λ end more. read_on stage end (c.args.lines.now.lines ++ more)) c.read_calls_on.result) (sym c.in-Calls.is) c.read_calls_on.ensures.reads

pub returns-in-Whole-clause-reads : goal.returns-in-Whole-clause-reads
returns-in-Whole-clause-reads c =
    subst (λ (stage : Stage). ReadsOn (λ end more. read_on stage end (c.args.lines.now.lines ++ more)) c.read_nothing.result) (sym c.in-Whole.is) c.read_nothing.ensures.reads

pub returns-in-Copy-clause-reads : goal.returns-in-Copy-clause-reads
returns-in-Copy-clause-reads c =
    subst (λ (stage : Stage). ReadsOn (λ end more. read_on stage end (c.args.lines.now.lines ++ more)) c.read_copied.result) (sym c.in-Copy.is) c.read_copied.ensures.reads

pub returns-in-Either-clause-reads : goal.returns-in-Either-clause-reads
returns-in-Either-clause-reads c =
    subst (λ (stage : Stage). ReadsOn (λ end more. read_on stage end (c.args.lines.now.lines ++ more)) c.read_either.result) (sym c.in-Either.is) c.read_either.ensures.reads
