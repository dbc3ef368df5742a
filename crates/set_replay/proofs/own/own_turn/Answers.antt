use Rattle.std.proofs.Common.{subst, sym, option_map}
use Rattle.place_words.specs.declared.packed.OwnAt.{OwnAt}
use Rattle.place_words.specs.Packed.{own_read}
use Rattle.replay_words.specs.declared.note.Note.TheVariants.{Nothing, Probes}
use Rattle.set_replay.specs.OwnTurns.{OwnShrinkJudged, GivingJudged, OwnTurned}
use Rattle.set_replay.proofs.OwnLemmas.{own_turned, own_pushed}
use Rattle.set_replay.proofs.own.own_turn.Goals as goal

pub returns-then-gives_out : goal.returns-then-gives_out
returns-then-gives_out g c =
    let t = c.in-Turn in
    let shrink = option_map (λ note. note.now) t.shrink in
    subst (λ (part : OwnAt). OwnTurned (own_read part) c.args.set.now c.gives_out.new.set (Probes c.in-Some.hashes)) (sym t.is)
    (own_turned t.hash t.active.now t.inactive.now shrink t.got c.args.set.now c.rotates.new.set c.own_shrinks.new.set c.gives_out.new.set c.in-Some.hashes c.in_ok-rotates-in-Turn.field-0
    c.if-not-branch.false c.in_ok-rotates-in-Turn.ensures
    (subst (OwnShrinkJudged shrink c.rotates.new.set c.own_shrinks.new.set) c.in-Some.is c.in_ok-hashes-in-Turn.ensures)
    (subst (GivingJudged t.hash t.got c.own_shrinks.new.set c.gives_out.new.set) c.if-gives_out.true c.gives_out.ensures))

pub returns-then-branch : goal.returns-then-branch
returns-then-branch g c =
    subst (λ (part : OwnAt). OwnTurned (own_read part) c.args.set.now c.pushes.new.set Nothing) (sym c.in-Push.is)
    (own_pushed c.in-Push.element c.args.set.now c.pushes.new.set c.in_ok-pushes-in-Push.field-0 c.if-branch.true c.in_ok-pushes-in-Push.ensures)
