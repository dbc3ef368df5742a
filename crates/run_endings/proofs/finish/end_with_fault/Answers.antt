use Rattle.std.proofs.Common.{refl, ◌∙◌, subst}
use Rattle.run_ends.specs.SourceReads.{Rose}
use Rattle.run_endings.specs.Finish.{Faulty, OutOfMemory, IsDelivered}
use Rattle.run_endings.proofs.finish.end_with_fault.Goals as goal

pub returns-in_default : goal.returns-in_default
returns-in_default g c = λ asked input read. record { ending = OutOfMemory; cause = tt; none = refl; delivered = c.end_with_line.ensures }

pub returns : goal.returns
returns g c = λ asked input read. record {
  ending = Faulty c.args.line c.args.cause;
  cause = read;
  none = refl;
  delivered = subst (λ t. IsDelivered 1 t c.end_with_line-2.result (g.K.Sink.written c.args.sink.now) (g.K.Sink.written c.end_with_line-2.new.sink) (Rose (g.K.Sink.faults c.args.sink.now) (g.K.Sink.faults c.end_with_line-2.new.sink))) (c.as_slice.ensures.value ∙ c.in-Ok.ensures) c.end_with_line-2.ensures;
}
