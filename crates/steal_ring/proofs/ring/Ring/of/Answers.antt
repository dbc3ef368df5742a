use Rattle.std.proofs.Common.{subst, List, ℕ}
use Rattle.steal_ring.specs.Rounds.{IsRound}
use Rattle.steal_ring.proofs.RoundLemmas.{ring_is_round, ring_is}
use Rattle.steal_ring.proofs.ring.Ring.of.Goals as goal

pub returns-clause-round : goal.returns-clause-round
returns-clause-round c =
    subst (λ (cpus : List ℕ). IsRound c.args.start c.args.cpus cpus) (ring_is c.args.start c.args.cpus) (ring_is_round c.args.start c.args.cpus c.requires)
