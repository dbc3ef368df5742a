use Rattle.lru_shrink.specs.Asking.{terms_of}
use Rattle.lru_shrink.proofs.SearchLoop.{Unsparing}
use Rattle.lru_shrink.proofs.search.search_all.Given as goal

abbrev pub invariant-loop-try : goal.invariant-loop-try
invariant-loop-try g l =
    Unsparing (terms_of g.P.Bits.can_note g.P.Bits.may_ask g.P.Bits.may_probe g.P.Bits.gives g.P.Bits.lender) g.P.Bits.calls g.P.Bits.probes
    (g.R.Rows.rows l.fn.rows) l.fn.probe l.probe l.fn.notes l.notes l.at l._try
