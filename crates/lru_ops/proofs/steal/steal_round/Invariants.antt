use Rattle.std.specs.Prelude.{◌<◌, All}
use Rattle.place_words.specs.Turns.{ring}
use Rattle.lru_ops.specs.Shared.{CanSteal}
use Rattle.lru_ops.proofs.StolenRounds.{MakesRound}
use Rattle.lru_ops.proofs.steal.steal_round.Given as goal

-- the pass may steal, from CPUs of the map, and what is still to come makes the whole round
abbrev pub invariant-loop-from : goal.invariant-loop-from
invariant-loop-from g l =
    CanSteal l.table l.pass
    × All (λ cpu. cpu < l.table.shape.cpus) l.from-iterator
    × MakesRound l.table l.hash l.from-iterator (ring l.cursor l.table.shape.cpus) l.fn.pass l.pass
