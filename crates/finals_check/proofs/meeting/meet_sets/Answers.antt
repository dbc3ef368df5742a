use Rattle.std.proofs.Common.{◌++◌, arith}
use Rattle.place_words.specs.declared.finals.SetFinal.{SetFinal}
use Rattle.finals_check.proofs.MetLists.{loop_more, loop_none}
use Rattle.finals_check.proofs.meeting.meet_sets.Goals as goal

pub returns-then-not-meet_set : goal.returns-then-not-meet_set
returns-then-not-meet_set c = loop_none (λ (set : SetFinal). set.free ++ (set.active ++ set.inactive)) c.args.sets.now c.loop-set.set-index c.set-item.result c.loop-set.met _ (omega arith) c.set-item.is c.if-not-meet_set.ensures c.loop-set.invariant

pub loop-set-preserved : goal.loop-set-preserved
loop-set-preserved c = loop_more (λ (set : SetFinal). set.free ++ (set.active ++ set.inactive)) c.args.sets.now c.loop-set.set-index c.set-item.result c.loop-set.met c.meet_set.new.met _ (omega arith) c.set-item.is c.if-not-meet_set.ensures c.loop-set.invariant
