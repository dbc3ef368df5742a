use Rattle.std.proofs.Common.{refl, ◌∙◌, subst}
use Rattle.run_ends.specs.SourceReads.{Rose}
use Rattle.run_endings.specs.Finish.{Refused, IsDelivered}
use Rattle.run_endings.proofs.finish.end_with_refusal.Goals as goal

pub returns : goal.returns
returns g c = λ asked input read. record {
  ending = Refused c.args.why;
  cause = read;
  none = refl;
  delivered = subst (λ t. IsDelivered 6 t c.end_with_line.result (g.K.Sink.written c.args.sink.now) (g.K.Sink.written c.end_with_line.new.sink) (Rose (g.K.Sink.faults c.args.sink.now) (g.K.Sink.faults c.end_with_line.new.sink))) (c.as_bytes.ensures.value ∙ c.refusal_line.ensures) c.end_with_line.ensures;
}
