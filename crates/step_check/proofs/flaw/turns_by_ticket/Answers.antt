use Rattle.std.proofs.Common.{All, subst, sym}
use Rattle.step_check.specs.Places.{IsPlace}
use Rattle.step_check.proofs.OfCalls.{turns_numbered, turns_one_cpu}
use Rattle.step_check.proofs.flaw.turns_by_ticket.Goals as goal

pub outer_turns-requires-clause-calls : goal.outer_turns-requires-clause-calls
outer_turns-requires-clause-calls c =
    turns_numbered c.args.calls c.args.histories.now c.as_slice.result.now (subst (All (IsPlace c.args.histories.now)) (sym c.as_slice.ensures.value) c.in_ok-places.ensures.real) c.requires.calls

pub outer_turns-requires-clause-one_cpu : goal.outer_turns-requires-clause-one_cpu
outer_turns-requires-clause-one_cpu c =
    turns_one_cpu c.args.histories.now c.as_slice.result.now (subst (All (IsPlace c.args.histories.now)) (sym c.as_slice.ensures.value) c.in_ok-places.ensures.real) c.requires.one_cpu
