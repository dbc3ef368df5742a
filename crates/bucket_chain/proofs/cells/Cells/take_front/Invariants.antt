use Rattle.std.proofs.Common.{◌≡◌, take, drop, reverse}
use Rattle.bucket_chain.proofs.cells.Cells.take_front.Given as goal

abbrev pub invariant-loop : goal.invariant-loop
invariant-loop l = (l.front ≡ reverse (take l.counter l.initial.self)) × (l.self ≡ drop l.counter l.initial.self)
