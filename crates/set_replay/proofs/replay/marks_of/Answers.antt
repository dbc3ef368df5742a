use Rattle.std.proofs.Common.{◌<◌, length, get_or, take, arith}
use Rattle.set_replay.proofs.MarkLemmas.{no_marks, marks_more, marks_within, all_marks}
use Rattle.set_replay.proofs.replay.marks_of.Goals as goal

pub loop-i-init : goal.loop-i-init
loop-i-init c = no_marks c.args.elements c.in_ok-marks.marks.items c.in_ok-marks.ensures

pub index_mut-requires : goal.index_mut-requires
index_mut-requires c =
    let within : get_or c.args.free.now c.loop-i.i 0 < length c.loop-i.marks.items = marks_within c.args.elements c.args.free.now c.loop-i.i (take c.loop-i.i c.args.free.now) c.loop-i.marks.items c.requires.below c.loop-i.invariant c.loop-i-test.true in
    grind (arith, within)

pub loop-i-preserved : goal.loop-i-preserved
loop-i-preserved c = marks_more c.args.elements c.args.free.now c.loop-i.i c.loop-i.marks.items c.requires.once c.requires.below c.loop-i.invariant c.loop-i-test.true

pub returns : goal.returns
returns c = all_marks c.args.elements c.args.free.now c.loop-i.i c.loop-i.marks.items c.loop-i.invariant c.loop-i-test.false
