use Rattle.place_words.specs.Bodies.{has_key}
use Rattle.bucket_chain.specs.Linked.{linked}
use Rattle.bucket_chain.proofs.Walks.{Walked}
use Rattle.bucket_chain.proofs.cells.Cells.position_of_key.Given as goal

abbrev pub invariant-loop-rest : goal.invariant-loop-rest
invariant-loop-rest l = Walked (has_key l.key) l.self l.place (linked l.rest)
