use Rattle.std.proofs.Common.{map, refl, subst, ℕ, List}
use Rattle.std.specs.Prelude.{IfOk, string_bytes}
use Rattle.run_records.specs.Copies.{IsCopyOf}
use Rattle.run_endings.specs.Finish.{Finishes, HasCause}
use Rattle.run_endings.specs.Runs.{IsTask}
use Rattle.run_endings.proofs.Endings.{ends_early, ends_judged, ends_run}
use Rattle.run_endings.proofs.Statuses.{status_of_cause}
use Rattle.run_ends.specs.SourceReads.{Rose}
use Rattle.map_run.specs.Finish.{RanAs}
use Rattle.record_check.specs.Said.{IsSaid}
use Rattle.map_run.proofs.finish.bpfmap.Goals as goal

pub returns-in-Ok-Run-clause-finish : goal.returns-in-Ok-Run-clause-finish
returns-in-Ok-Run-clause-finish g c =
    let words = map string_bytes c.args.words.now in
    subst (λ sink. Finishes IsCopyOf (HasCause RanAs IsSaid (map string_bytes c.args.words.now) (g.S.Source.left c.args.source.now) (g.S.Source.left c.begin.new.source) (Rose (g.S.Source.faults c.args.source.now) (g.S.Source.faults c.begin.new.source))) (g.K.Sink.written sink) (g.K.Sink.written c.end.new.sink) (Rose (g.K.Sink.faults sink) (g.K.Sink.faults c.end.new.sink)) c.end.result)
    (c.in-Ok-Run.ensures.unwritten refl)
    (ends_run IsCopyOf RanAs IsSaid words (subst (IsTask words (g.S.Source.left c.args.source.now) (g.S.Source.left c.begin.new.source)) c.in-Ok-Run.field-0-is c.in-Ok-Run.ensures.task) c.run_in-ran.ensures.ran c.run_in-ran.ensures.closed c.run_in-ran.ensures.copied c.end.ensures)

pub returns-in-Ok-Run-clause-status : goal.returns-in-Ok-Run-clause-status
returns-in-Ok-Run-clause-status g c =
    status_of_cause RanAs IsSaid (map string_bytes c.args.words.now) (g.S.Source.left c.args.source.now) (returns-in-Ok-Run-clause-finish g c)

pub returns-in-Ok-Judge-clause-finish : goal.returns-in-Ok-Judge-clause-finish
returns-in-Ok-Judge-clause-finish g c =
    let words = map string_bytes c.args.words.now in
    subst (λ sink. Finishes IsCopyOf (HasCause RanAs IsSaid (map string_bytes c.args.words.now) (g.S.Source.left c.args.source.now) (g.S.Source.left c.begin.new.source) (Rose (g.S.Source.faults c.args.source.now) (g.S.Source.faults c.begin.new.source))) (g.K.Sink.written sink) (g.K.Sink.written c.end_judged.new.sink) (Rose (g.K.Sink.faults sink) (g.K.Sink.faults c.end_judged.new.sink)) c.end_judged.result)
    (c.in-Ok-Judge.ensures.unwritten refl)
    (ends_judged IsCopyOf RanAs IsSaid words (subst (IsTask words (g.S.Source.left c.args.source.now) (g.S.Source.left c.begin.new.source)) c.in-Ok-Judge.field-0-is c.in-Ok-Judge.ensures.task)
    (subst (λ (bytes : List ℕ). IfOk c.judge-judged.result (IsSaid c.in-Ok-Judge.claim.script bytes)) c.as_slice.ensures.value c.judge-judged.ensures) c.end_judged.ensures)

pub returns-in-Ok-Judge-clause-status : goal.returns-in-Ok-Judge-clause-status
returns-in-Ok-Judge-clause-status g c =
    status_of_cause RanAs IsSaid (map string_bytes c.args.words.now) (g.S.Source.left c.args.source.now) (returns-in-Ok-Judge-clause-finish g c)

pub returns-in-Err-clause-finish : goal.returns-in-Err-clause-finish
returns-in-Err-clause-finish g c = ends_early IsCopyOf RanAs IsSaid (map string_bytes c.args.words.now) c.in-Err.ensures.early

pub returns-in-Err-clause-status : goal.returns-in-Err-clause-status
returns-in-Err-clause-status g c =
    let words = map string_bytes c.args.words.now in
    status_of_cause RanAs IsSaid words (g.S.Source.left c.args.source.now) (ends_early IsCopyOf RanAs IsSaid words c.in-Err.ensures.early)
