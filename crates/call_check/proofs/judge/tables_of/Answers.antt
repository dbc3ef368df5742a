use Rattle.std.proofs.Common.{◌≡◌, List, length, map, sym, subst}
use Rattle.std.specs.Prelude.{All}
use Rattle.place_words.specs.declared.history.LockHistory.{LockHistory}
use Rattle.place_words.specs.declared.history.Strand.{Strand}
use Rattle.map_report.specs.Record.{locks_of}
use Rattle.record_shape.specs.WellShaped.{lock_of}
use Rattle.call_check.specs.Steps.{Histories, StepsFit}
use Rattle.call_check.specs.GoneTables.{NameElements}
use Rattle.call_check.proofs.Homes.{all_fit}
use Rattle.call_check.proofs.WellNamed.{name_elements}
use Rattle.call_check.proofs.judge.tables_of.Goals as goal

pub late_calls-requires-clause-steps : goal.late_calls-requires-clause-steps
late_calls-requires-clause-steps c =
    subst (λ (h : Histories). All (λ (strand : Strand). StepsFit h.shape strand.steps) c.as_slice.result.now) (sym c.in_ok-histories.ensures)
    (all_fit c.args.script.now c.args.kept.now c.requires.script c.requires.shaped c.as_slice.result.now c.as_slice.ensures)

pub gone_by_cpu-requires-clause-locks : goal.gone_by_cpu-requires-clause-locks
gone_by_cpu-requires-clause-locks c =
    subst (λ (hs : List LockHistory). map lock_of hs ≡ locks_of c.args.script.now.shape) (sym c.as_slice-all.ensures) c.requires.shaped.locks

pub gone_by_cpu-requires-clause-elements : goal.gone_by_cpu-requires-clause-elements
gone_by_cpu-requires-clause-elements c =
    let shape = c.args.script.now.shape in
    subst (NameElements shape) (sym c.as_slice-all.ensures) (name_elements shape (length c.args.script.now.calls) c.args.kept.now.histories c.requires.shaped.histories)
