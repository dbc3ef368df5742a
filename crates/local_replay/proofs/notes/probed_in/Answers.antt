use Rattle.std.proofs.Common.{◌∙◌, sym}
use Rattle.std.proofs.lemmas.List.{append-nil}
use Rattle.local_replay.proofs.NoteLaws.{looked, tries_more, tries_whole}
use Rattle.local_replay.proofs.notes.probed_in.Goals as goal

pub loop-attempt-init : goal.loop-attempt-init
loop-attempt-init c = c.in_ok-elements.ensures ∙ looked c.args.looks.now ∙ sym (append-nil _)

pub loop-attempt-preserved : goal.loop-attempt-preserved
loop-attempt-preserved c =
    tries_more _ c.args.tries.now c.loop-attempt.attempt-index _ c.loop-attempt.elements.items c.push.new.self.items c.loop-attempt-test.true c.loop-attempt.invariant c.in_ok-push.ensures.items

pub returns : goal.returns
returns c = tries_whole c.args.looks.now c.args.tries.now c.loop-attempt.attempt-index c.loop-attempt.elements.items c.loop-attempt-test.false c.loop-attempt.invariant
