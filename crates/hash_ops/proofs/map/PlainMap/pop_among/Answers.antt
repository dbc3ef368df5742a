use Rattle.hash_ops.proofs.FreeTurns.{reach_on}
use Rattle.hash_ops.proofs.Pops.{looks_begin, looks_more, looks_give, looks_end}
use Rattle.hash_ops.proofs.map.PlainMap.pop_among.Goals as goal

pub loop-cpu-init : goal.loop-cpu-init
loop-cpu-init g c = looks_begin c.args.self.now c.args.from c.args.to c.args.pass.now

pub pop_from-requires-clause-can : goal.pop_from-requires-clause-can
pop_from-requires-clause-can g c κs within =
    reach_on c.args.self.now c.args.pass.now c.loop-cpu.pass c.loop-cpu.invariant.steps c.requires.can c.loop-cpu.invariant.reached

pub returns-in-Some : goal.returns-in-Some
returns-in-Some g c =
    let t = c.args.self.now in
    looks_give t c.args.from c.loop-cpu.cpu c.args.to c.args.pass.now c.loop-cpu.pass c.pop_from.new.pass c.in-Some.body c.loop-cpu.auto.cpu c.loop-cpu-test.true c.loop-cpu.invariant c.in-Some.ensures

pub loop-cpu-preserved : goal.loop-cpu-preserved
loop-cpu-preserved g c =
    let t = c.args.self.now in
    looks_more t c.args.from c.loop-cpu.cpu c.args.to c.args.pass.now c.loop-cpu.pass c.pop_from.new.pass c.loop-cpu.auto.cpu c.loop-cpu-test.true c.loop-cpu.invariant c.in_default.ensures

pub returns : goal.returns
returns g c = looks_end c.args.self.now c.args.from c.loop-cpu.cpu c.args.to c.args.pass.now c.loop-cpu.pass c.loop-cpu-test.false c.loop-cpu.invariant
