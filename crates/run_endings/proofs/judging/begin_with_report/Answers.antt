use Rattle.std.proofs.Common.{refl, ap, Err}
use Rattle.run_ends.specs.SourceReads.{Rose}
use Rattle.run_endings.specs.Finish.{OutOfMemory, ReadFault, TooLong}
use Rattle.run_endings.proofs.Reports.{err_by_report, ok_by_report}
use Rattle.run_endings.proofs.judging.begin_with_report.Goals as goal

pub returns-in-Ok-clause-early : goal.returns-in-Ok-clause-early
returns-in-Ok-clause-early g c = λ asked is.
    let whole = c.in-Ok.ensures.whole in
    err_by_report asked is (g.S.Source.left c.args.source.now) (g.S.Source.left c.read_all.new.source) (Rose (g.S.Source.faults c.args.source.now) (g.S.Source.faults c.read_all.new.source)) c.in-Ok.input.items (record { all = whole.0; short = whole.1 })
    c.begin_with_input.result (g.K.Sink.written c.args.sink.now) (g.K.Sink.written c.begin_with_input.new.sink) (Rose (g.K.Sink.faults c.args.sink.now) (g.K.Sink.faults c.begin_with_input.new.sink)) c.begin_with_input.ensures.early

pub returns-in-Ok-clause-claim : goal.returns-in-Ok-clause-claim
returns-in-Ok-clause-claim g c =
    let whole = c.in-Ok.ensures.whole in
    ok_by_report (g.S.Source.left c.args.source.now) (g.S.Source.left c.read_all.new.source) c.in-Ok.input.items (record { all = whole.0; short = whole.1 }) c.begin_with_input.result c.begin_with_input.ensures.claim

pub returns-in-Err-Failed-clause-early : goal.returns-in-Err-Failed-clause-early
returns-in-Err-Failed-clause-early g c = λ asked is. record {
  ending = ReadFault;
  cause = (c.in-Err-Failed.ensures.failed (ap Err c.in-Err-Failed.field-0-is), c.in-Err-Failed.ensures.bounded);
  none = refl;
  delivered = c.end_with_line.ensures;
}

pub returns-in-Err-TooLong-clause-early : goal.returns-in-Err-TooLong-clause-early
returns-in-Err-TooLong-clause-early g c = λ asked is.
    let taken = c.in-Err-TooLong.ensures.too_long (ap Err c.in-Err-TooLong.field-0-is) in
    record { ending = TooLong; cause = (taken.0, taken.1, taken.2); none = refl; delivered = c.end_with_line-in-Err-TooLong.ensures }

pub returns-in-Err-NoMemory-clause-early : goal.returns-in-Err-NoMemory-clause-early
returns-in-Err-NoMemory-clause-early g c = λ asked is. record { ending = OutOfMemory; cause = c.in-Err-NoMemory.ensures.bounded; none = refl; delivered = c.end_with_line-in-Err-NoMemory.ensures }
