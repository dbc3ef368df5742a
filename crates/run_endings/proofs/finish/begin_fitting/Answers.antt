use Rattle.std.proofs.Common.{refl, sym, ap, ◌∙◌}
use Rattle.run_endings.specs.Finish.{OutOfMemory}
use Rattle.run_endings.specs.Runs.{strictly_run}
use Rattle.run_endings.proofs.Beginnings.{strict_of_run, target_of_run}
use Rattle.run_endings.proofs.finish.begin_fitting.Goals as goal

pub returns-in-Ok-clause-due : goal.returns-in-Ok-clause-due
returns-in-Ok-clause-due g c = λ input is. record {
  read = c.args.script;
  is_read = is;
  fits = c.requires.fits;
  asked_is = refl;
  script_is = c.in-Ok.ensures.exact;
}

pub returns-in-Ok-clause-strict : goal.returns-in-Ok-clause-strict
returns-in-Ok-clause-strict g c =
    c.requires.strict ∙ sym (strict_of_run c.args.asked.mode c.args.script) ∙ ap (strictly_run c.args.asked.mode) (sym c.in-Ok.ensures.exact)

pub returns-in-Ok-clause-target : goal.returns-in-Ok-clause-target
returns-in-Ok-clause-target g c = target_of_run c.args.asked.mode c.args.script c.in-Ok.script c.requires.read c.in-Ok.ensures.exact

pub returns-in-Err-clause-early : goal.returns-in-Err-clause-early
returns-in-Err-clause-early g c = λ input. record { ending = OutOfMemory; cause = tt; none = refl; delivered = c.end_with_line.ensures }
