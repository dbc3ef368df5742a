use Rattle.std.proofs.Common.{refl, subst}
use Rattle.lru_compare.specs.declared.run.StrictRefusal.TheVariants.{Kind}
use Rattle.run_endings.specs.Finish.{OutOfMemory, Unfit}
use Rattle.run_endings.specs.Runs.{IsUnfit}
use Rattle.run_endings.proofs.finish.end_unfit.Goals as goal

pub returns-in-Kind : goal.returns-in-Kind
returns-in-Kind g c = λ asked input script read unfit. record {
  ending = Unfit Kind;
  cause = (script, read, subst (IsUnfit asked.mode script) c.in-Kind.is unfit);
  none = refl;
  delivered = c.end_with_line.ensures;
}

pub returns-in-Verb : goal.returns-in-Verb
returns-in-Verb g c = λ asked input script read unfit.
    c.end_with_call.ensures asked input script read (subst (IsUnfit asked.mode script) c.in-Verb.is unfit)

pub returns-in-NoMemory : goal.returns-in-NoMemory
returns-in-NoMemory g c = λ asked input script read unfit. record { ending = OutOfMemory; cause = tt; none = refl; delivered = c.end_with_line-in-NoMemory.ensures }
