use Rattle.std.proofs.Common.{refl, ◌∙◌, subst}
use Rattle.lru_compare.specs.declared.run.StrictRefusal.TheVariants.{Verb}
use Rattle.run_ends.specs.SourceReads.{Rose}
use Rattle.run_endings.specs.Finish.{OutOfMemory, Unfit, IsDelivered}
use Rattle.run_endings.proofs.finish.end_with_call.Goals as goal

pub returns-in_default : goal.returns-in_default
returns-in_default g c = λ asked input script read unfit. record { ending = OutOfMemory; cause = tt; none = refl; delivered = c.end_with_line.ensures }

pub returns : goal.returns
returns g c = λ asked input script read unfit. record {
  ending = Unfit (Verb c.args.call);
  cause = (script, read, unfit);
  none = refl;
  delivered = subst (λ t. IsDelivered 11 t c.end_with_line-2.result (g.K.Sink.written c.args.sink.now) (g.K.Sink.written c.end_with_line-2.new.sink) (Rose (g.K.Sink.faults c.args.sink.now) (g.K.Sink.faults c.end_with_line-2.new.sink))) (c.as_slice.ensures.value ∙ c.in-Ok.ensures) c.end_with_line-2.ensures;
}
