use Rattle.run_endings.proofs.finish.begin_with_script.Goals as goal

pub begin_fitting-requires-clause-fits : goal.begin_fitting-requires-clause-fits
begin_fitting-requires-clause-fits g c = c.in-Ok.ensures.0

pub begin_fitting-requires-clause-strict : goal.begin_fitting-requires-clause-strict
begin_fitting-requires-clause-strict g c = c.in-Ok.ensures.1

pub returns-in-Ok-clause-early : goal.returns-in-Ok-clause-early
returns-in-Ok-clause-early g c = λ input read. c.begin_fitting.ensures.early input

pub returns-in-Err-clause-early : goal.returns-in-Err-clause-early
returns-in-Err-clause-early g c = λ input read. c.end_unfit.ensures c.args.asked input c.args.script read c.in-Err.ensures
