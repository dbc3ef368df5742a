use Rattle.record_check.proofs.Verdicts.{phase_flaw, phases_right}
use Rattle.record_check.proofs.check.check_phases.Goals as goal

pub check_strands-requires-clause-phases : goal.check_strands-requires-clause-phases
check_strands-requires-clause-phases c = phases_right c.args.script.now c.args.kept.now c.requires.script c.requires.shaped c.in-None.ensures

pub returns-in-Some : goal.returns-in-Some
returns-in-Some c = phase_flaw c.args.script.now c.args.kept.now c.requires.script c.requires.shaped c.requires.replayed.legal c.in-Some.phase c.in-Some.ensures
