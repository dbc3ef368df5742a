use Rattle.std.proofs.Common.{refl, ap, Err, subst}
use Rattle.map_script.specs.declared.script.Form.{Form}
use Rattle.map_script.specs.Reading.{read_as, IsReading}
use Rattle.run_ends.specs.SourceReads.{Rose}
use Rattle.run_endings.specs.Finish.{ReadFault, TooLong, OutOfMemory, form_of}
use Rattle.run_endings.proofs.Beginnings.{err_by_input, ok_by_input}
use Rattle.run_endings.proofs.finish.begin_with_source.Goals as goal

pub begin_with_reading-requires : goal.begin_with_reading-requires
begin_with_reading-requires g c =
    let whole = c.in-Ok.ensures.whole in
    (whole.0, whole.2, subst (λ (f : Form). IsReading c.in-Ok.read (read_as f whole.0)) c.form_of.ensures whole.3)

pub returns-in-Ok-clause-early : goal.returns-in-Ok-clause-early
returns-in-Ok-clause-early g c =
    let whole = c.in-Ok.ensures.whole in
    let read : IsReading c.in-Ok.read (read_as (form_of c.args.asked.mode) whole.0) = subst (λ (f : Form). IsReading c.in-Ok.read (read_as f whole.0)) c.form_of.ensures whole.3 in
    err_by_input c.args.asked c.requires (g.S.Source.left c.args.source.now) (g.S.Source.left c.script_from.new.source) (Rose (g.S.Source.faults c.args.source.now) (g.S.Source.faults c.script_from.new.source)) whole.0 (record { all = whole.1; short = whole.2 })
    c.begin_with_reading.result (g.K.Sink.written c.args.sink.now) (g.K.Sink.written c.begin_with_reading.new.sink) (Rose (g.K.Sink.faults c.args.sink.now) (g.K.Sink.faults c.begin_with_reading.new.sink)) (c.begin_with_reading.ensures.early whole.0 read)

pub returns-in-Ok-clause-due : goal.returns-in-Ok-clause-due
returns-in-Ok-clause-due g c =
    let whole = c.in-Ok.ensures.whole in
    let read : IsReading c.in-Ok.read (read_as (form_of c.args.asked.mode) whole.0) = subst (λ (f : Form). IsReading c.in-Ok.read (read_as f whole.0)) c.form_of.ensures whole.3 in
    ok_by_input c.args.asked c.requires (g.S.Source.left c.args.source.now) (g.S.Source.left c.script_from.new.source) (Rose (g.S.Source.faults c.args.source.now) (g.S.Source.faults c.script_from.new.source)) whole.0 (record { all = whole.1; short = whole.2 })
    c.begin_with_reading.result (c.begin_with_reading.ensures.due whole.0 read)

pub returns-in-Err-Failed-clause-early : goal.returns-in-Err-Failed-clause-early
returns-in-Err-Failed-clause-early g c = record {
  ending = ReadFault;
  cause = (c.in-Err-Failed.ensures.failed (ap Err c.in-Err-Failed.field-0-is), c.in-Err-Failed.ensures.bounded);
  none = refl;
  delivered = c.end_with_line.ensures;
}

pub returns-in-Err-TooLong-clause-early : goal.returns-in-Err-TooLong-clause-early
returns-in-Err-TooLong-clause-early g c = record {
  ending = TooLong;
  cause =
      let taken = c.in-Err-TooLong.ensures.too_long (ap Err c.in-Err-TooLong.field-0-is) in
      (taken.0, taken.1, taken.2);
  none = refl;
  delivered = c.end_with_line-in-Err-TooLong.ensures;
}

pub returns-in-Err-NoMemory-clause-early : goal.returns-in-Err-NoMemory-clause-early
returns-in-Err-NoMemory-clause-early g c = record { ending = OutOfMemory; cause = c.in-Err-NoMemory.ensures.bounded; none = refl; delivered = c.end_with_line-in-Err-NoMemory.ensures }
