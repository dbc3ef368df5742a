use Rattle.record_replay.proofs.PutBack.{absent_of, room_of}
use Rattle.record_replay.proofs.listed.put_back.Goals as goal

pub add_head-requires-clause-absent : goal.add_head-requires-clause-absent
add_head-requires-clause-absent c =
    absent_of c.loop-body.left.items c.pop.new.self.items c.loop-body.chain.bodies c.args.bodies.items c.in-Some.body c.in-Some.ensures.items c.loop-body.invariant c.requires.distinct

pub add_head-requires-clause-countable : goal.add_head-requires-clause-countable
add_head-requires-clause-countable c =
    room_of c.loop-body.left.items c.pop.new.self.items c.loop-body.chain.bodies c.args.bodies.items c.in-Some.body c.in-Some.ensures.items c.loop-body.invariant c.requires.few
