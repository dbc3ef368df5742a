use Rattle.steal_ring.specs.Rounds.{cpus_in}
use Rattle.std.proofs.Common.{◌++◌}
use Rattle.steal_ring.proofs.RoundLemmas.{first_gives, second_gives, one_less}
use Rattle.steal_ring.proofs.ring.RingIterator.next.Goals as goal

pub returns-in-Some-clause-steps : goal.returns-in-Some-clause-steps
returns-in-Some-clause-steps c =
    first_gives c.args.self.now c.self.inside.upwards c.next.new.self c.self.inside.wrapped c.in-Some.cpu c.self.view_is c.in-Some.ensures.steps

pub returns-in-Some-clause-goes : goal.returns-in-Some-clause-goes
returns-in-Some-clause-goes c =
    let gave = first_gives c.args.self.now c.self.inside.upwards c.next.new.self c.self.inside.wrapped c.in-Some.cpu c.self.view_is c.in-Some.ensures.steps in record {
      on = λ _. (tt, tt, one_less c.args.self.now (cpus_in c.next.new.self ++ cpus_in c.self.inside.wrapped) c.in-Some.cpu gave);
      keeps = tt;
      rests = λ _. tt;
    }

pub returns-in-None-clause-steps : goal.returns-in-None-clause-steps
returns-in-None-clause-steps c =
    second_gives c.args.self.now c.self.inside.upwards c.next.new.self c.self.inside.wrapped c.next-in-None.new.self c.next-in-None.result c.self.view_is c.in-None.ensures.steps c.next-in-None.ensures.steps
