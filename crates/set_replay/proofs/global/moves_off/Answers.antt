use Rattle.std.proofs.Common.{refl, eqb}
use Rattle.place_words.specs.Bodies.{numbers}
use Rattle.set_replay.proofs.GlobalLemmas.{none_moved, moves_on, moves_stop, moved_full, moved_ends, all_moved, too_many}
use Rattle.set_replay.proofs.global.moves_off.Goals as goal

pub loop-i-init : goal.loop-i-init
loop-i-init g c = none_moved c.args.set.now c.args.marks.now.items c.requires.room c.requires.marks

pub loop-i-preserved : goal.loop-i-preserved
loop-i-preserved g c = moves_on c.args.free.now c.loop-i.i c.loop-i.invariant 0 c.loop-i-test.true c.pops.new.set c.pops.new.marks.items c.if-not-pops.ensures

pub returns-then-not-pops : goal.returns-then-not-pops
returns-then-not-pops g c = moves_stop c.args.free.now c.loop-i.i c.loop-i.invariant 0 c.loop-i-test.true c.if-not-pops.ensures

pub returns : goal.returns
returns g c =
    moved_ends c.args.free.now (all_moved c.args.free.now c.loop-i.i c.args.set.now c.loop-i.set c.loop-i.marks.items c.loop-i.invariant c.loop-i-test.false)
    c.free_len.result (eqb c.free_len.result 0) c.free_len.ensures.exact refl c.if-free-gt-TARGET.false c.if-free-eq-TARGET.false

pub returns-then-free-eq-TARGET : goal.returns-then-free-eq-TARGET
returns-then-free-eq-TARGET g c =
    moved_full c.args.free.now (all_moved c.args.free.now c.loop-i.i c.args.set.now c.loop-i.set c.loop-i.marks.items c.loop-i.invariant c.loop-i-test.false) c.if-free-eq-TARGET.true

pub returns-then-free-gt-TARGET : goal.returns-then-free-gt-TARGET
returns-then-free-gt-TARGET g c = too_many c.args.free.now (numbers c.args.set.now.free.bodies) c.if-free-gt-TARGET.true
