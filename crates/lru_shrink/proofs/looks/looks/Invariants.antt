use Rattle.std.proofs.Common.{◌<◌}
use Rattle.lru_shrink.specs.Asking.{terms_of}
use Rattle.lru_shrink.proofs.LookLoop.{Looking}
use Rattle.lru_shrink.proofs.looks.looks.Given as goal

abbrev pub invariant-loop-scan : goal.invariant-loop-scan
invariant-loop-scan g l =
    Looking (terms_of g.P.Bits.can_note g.P.Bits.may_ask g.P.Bits.may_probe g.P.Bits.gives g.P.Bits.lender) g.P.Bits.calls g.P.Bits.probes
    l.target l.fn.set l.set l.fn.probe l.probe l.fn.out l.out l.fn.notes l.notes l.at l.freed l._scan
    × (l.freed < l.target)
