use Rattle.std.proofs.Common.{ℕ, ◌-◌}
use Rattle.lru_lists.specs.Sets.{IsSet}
use Rattle.lru_rotate.specs.Asking.{OnlyBits}
use Rattle.lru_rotate.proofs.InactiveSteps.{InactiveSoFar}
use Rattle.lru_rotate.proofs.inactive.visit_inactive.Given as goal

abbrev pub invariant-loop : goal.invariant-loop
invariant-loop g l = record {
  so_far : InactiveSoFar l.counter l.initial.set l.set l.at l.stop (g.B.Bits.calls l.initial.bits) (g.B.Bits.calls l.bits) l.initial.notes l.notes;
  whole : IsSet l.set;
  room : (n : ℕ) → g.B.Bits.can_note l.initial.bits n → g.B.Bits.can_note l.bits (n - l.counter);
  only : OnlyBits g.B.Bits.may_ask g.B.Bits.probes g.B.Bits.may_probe g.B.Bits.gives g.B.Bits.lender l.initial.bits l.bits;
}
