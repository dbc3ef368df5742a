use Rattle.std.proofs.Common.{◌∙◌, ℕ, List, ap, arith}
use Rattle.place_words.specs.declared.finals.LocalFinal.{LocalFinal}
use Rattle.finals_check.specs.Marking.{met_after}
use Rattle.finals_check.proofs.MetLists.{loop_more, loop_none}
use Rattle.finals_check.proofs.meeting.meet_free_locals.Goals as goal

pub returns-then-not-meet : goal.returns-then-not-meet
returns-then-not-meet c = loop_none (λ (local : LocalFinal). local.free) c.args.locals.now c.loop-local.local-index c.local-item.result c.loop-local.met _ (omega arith) c.local-item.is (c.if-not-meet.ensures ∙ ap (λ (items : List ℕ). met_after c.loop-local.met items) c.as_slice.ensures) c.loop-local.invariant

pub loop-local-preserved : goal.loop-local-preserved
loop-local-preserved c = loop_more (λ (local : LocalFinal). local.free) c.args.locals.now c.loop-local.local-index c.local-item.result c.loop-local.met c.meet.new.met _ (omega arith) c.local-item.is (c.if-not-meet.ensures ∙ ap (λ (items : List ℕ). met_after c.loop-local.met items) c.as_slice.ensures) c.loop-local.invariant
