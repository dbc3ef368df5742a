use Rattle.std.proofs.Common.{◌∙◌, ℕ, List, ap, arith}
use Rattle.finals_check.specs.Marking.{met_after}
use Rattle.finals_check.proofs.MetLists.{joined_more, joined_none}
use Rattle.finals_check.proofs.meeting.meet_freelists.Goals as goal

pub returns-then-not-meet : goal.returns-then-not-meet
returns-then-not-meet c = joined_none c.args.freelists.now c.loop-freelist.freelist-index c.freelist-item.result c.loop-freelist.met _ (omega arith) c.freelist-item.is (c.if-not-meet.ensures ∙ ap (λ (items : List ℕ). met_after c.loop-freelist.met items) c.as_slice.ensures) c.loop-freelist.invariant

pub loop-freelist-preserved : goal.loop-freelist-preserved
loop-freelist-preserved c = joined_more c.args.freelists.now c.loop-freelist.freelist-index c.freelist-item.result c.loop-freelist.met c.meet.new.met _ (omega arith) c.freelist-item.is (c.if-not-meet.ensures ∙ ap (λ (items : List ℕ). met_after c.loop-freelist.met items) c.as_slice.ensures) c.loop-freelist.invariant
