use Rattle.std.proofs.Common.{map, refl, ap, Err}
use Rattle.std.specs.Prelude.{string_bytes}
use Rattle.run_ends.specs.SourceReads.{Rose}
use Rattle.run_endings.specs.Finish.{BadWords, OutOfMemory}
use Rattle.run_ends.proofs.Io.{TakesUpTo-none}
use Rattle.run_endings.proofs.Beginnings.{err_by_source, ok_by_source, same_asked}
use Rattle.run_endings.proofs.finish.begin.Goals as goal

pub returns-in-Err-Other-clause-early : goal.returns-in-Err-Other-clause-early
returns-in-Err-Other-clause-early g c = record {
  ending = BadWords;
  cause = (c.in-Err-Other.ensures.other (ap Err c.in-Err-Other.field-0-is), refl);
  none = refl;
  delivered = c.end_with_line.ensures;
}

pub returns-in-Err-NoMemory-clause-early : goal.returns-in-Err-NoMemory-clause-early
returns-in-Err-NoMemory-clause-early g c = record { ending = OutOfMemory; cause = TakesUpTo-none (g.S.Source.left c.args.source.now) 16777217; none = refl; delivered = c.end_with_line-in-Err-NoMemory.ensures }

pub returns-in-Ok-clause-early : goal.returns-in-Ok-clause-early
returns-in-Ok-clause-early g c =
    let words = map string_bytes c.args.words.now in
    let taken = c.in-Ok.ensures.taken in
    err_by_source words taken.0 c.in-Ok.asked (same_asked words c.in-Ok.asked taken.1 taken.2) (g.S.Source.left c.args.source.now) (g.S.Source.left c.begin_asked.new.source) (Rose (g.S.Source.faults c.args.source.now) (g.S.Source.faults c.begin_asked.new.source))
    c.begin_asked.result (g.K.Sink.written c.args.sink.now) (g.K.Sink.written c.begin_asked.new.sink) (Rose (g.K.Sink.faults c.args.sink.now) (g.K.Sink.faults c.begin_asked.new.sink)) c.begin_asked.ensures.early

pub returns-in-Ok-clause-task : goal.returns-in-Ok-clause-task
returns-in-Ok-clause-task g c =
    let words = map string_bytes c.args.words.now in
    let taken = c.in-Ok.ensures.taken in
    ok_by_source words taken.0 c.in-Ok.asked (same_asked words c.in-Ok.asked taken.1 taken.2) (g.S.Source.left c.args.source.now) (g.S.Source.left c.begin_asked.new.source) c.begin_asked.result c.begin_asked.ensures.task
