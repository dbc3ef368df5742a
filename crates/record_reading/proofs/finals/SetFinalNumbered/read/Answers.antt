use Rattle.std.proofs.Common.{sym, subst, IfOk, List, ℕ}
use Rattle.std.proofs.lemmas.Bool.{cond-true, cond-false}
use Rattle.map_types.specs.declared.kind.DomainId.TheVariants.{Global, CpuLru}
use Rattle.map_report.specs.Words.{lock_name}
use Rattle.record_reading.specs.DumpReaders.{set_section}
use Rattle.record_reading.specs.Outcomes.{Reads}
use Rattle.record_reading.proofs.finals.SetFinalNumbered.read.Goals as goal

pub returns-then-shape-clause-lines : goal.returns-then-shape-clause-lines
returns-then-shape-clause-lines c =
    subst (λ (name : List ℕ). IfOk c.read_set.result (Reads (set_section c.args.shape.now name) c.args.lines.now.0 c.read_set.new.lines.0))
    (sym (cond-true c.args.shape.now.common (lock_name Global) (lock_name (CpuLru c.args.number)) c.if-shape.true)) c.read_set.ensures.lines

pub returns-else-shape-clause-lines : goal.returns-else-shape-clause-lines
returns-else-shape-clause-lines c =
    subst (λ (name : List ℕ). IfOk c.read_set-else-shape.result (Reads (set_section c.args.shape.now name) c.args.lines.now.0 c.read_set-else-shape.new.lines.0))
    (sym (cond-false c.args.shape.now.common (lock_name Global) (lock_name (CpuLru c.args.number)) c.if-shape.false)) c.read_set-else-shape.ensures.lines
