use Rattle.std.proofs.Common.{◌++◌, arith}
use Rattle.place_words.specs.declared.finals.LocalFinal.{LocalFinal}
use Rattle.finals_check.proofs.MetLists.{loop_more, loop_none}
use Rattle.finals_check.proofs.meeting.meet_locals.Goals as goal

pub returns-then-not-meet_local : goal.returns-then-not-meet_local
returns-then-not-meet_local c = loop_none (λ (local : LocalFinal). local.free ++ local.pending) c.args.locals.now c.loop-local.local-index c.local-item.result c.loop-local.met _ (omega arith) c.local-item.is c.if-not-meet_local.ensures c.loop-local.invariant

pub loop-local-preserved : goal.loop-local-preserved
loop-local-preserved c = loop_more (λ (local : LocalFinal). local.free ++ local.pending) c.args.locals.now c.loop-local.local-index c.local-item.result c.loop-local.met c.meet_local.new.met _ (omega arith) c.local-item.is c.if-not-meet_local.ensures c.loop-local.invariant
