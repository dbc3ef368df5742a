use Rattle.std.proofs.Common.{◌≡◌, drop}
use Rattle.bucket_chain.specs.Linked.{linked}
use Rattle.bucket_chain.proofs.cells.Cells.body.Given as goal

abbrev pub invariant-loop : goal.invariant-loop
invariant-loop l = drop l.counter l.self ≡ linked l.rest
