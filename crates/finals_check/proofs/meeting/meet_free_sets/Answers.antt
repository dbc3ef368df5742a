use Rattle.std.proofs.Common.{◌∙◌, ℕ, List, ap, arith}
use Rattle.place_words.specs.declared.finals.SetFinal.{SetFinal}
use Rattle.finals_check.specs.Marking.{met_after}
use Rattle.finals_check.proofs.MetLists.{loop_more, loop_none}
use Rattle.finals_check.proofs.meeting.meet_free_sets.Goals as goal

pub returns-then-not-meet : goal.returns-then-not-meet
returns-then-not-meet c = loop_none (λ (set : SetFinal). set.free) c.args.sets.now c.loop-set.set-index c.set-item.result c.loop-set.met _ (omega arith) c.set-item.is (c.if-not-meet.ensures ∙ ap (λ (items : List ℕ). met_after c.loop-set.met items) c.as_slice.ensures) c.loop-set.invariant

pub loop-set-preserved : goal.loop-set-preserved
loop-set-preserved c = loop_more (λ (set : SetFinal). set.free) c.args.sets.now c.loop-set.set-index c.set-item.result c.loop-set.met c.meet.new.met _ (omega arith) c.set-item.is (c.if-not-meet.ensures ∙ ap (λ (items : List ℕ). met_after c.loop-set.met items) c.as_slice.ensures) c.loop-set.invariant
