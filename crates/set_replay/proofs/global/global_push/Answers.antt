use Rattle.std.proofs.Common.{◌<◌, Bool, length, subst, arith}
use Rattle.set_replay.specs.Pushing.{PushJudged}
use Rattle.set_replay.proofs.GlobalLemmas.{pushed_on, pushed_within}
use Rattle.set_replay.proofs.global.global_push.Goals as goal

pub index_mut-requires : goal.index_mut-requires
index_mut-requires g c =
    let within : c.args.element < length c.args.marks.now.items = pushed_within c.args.element c.args.set.now c.pushes.new.set c.args.marks.now.items c.in_ok-pushes.field-0 c.if-branch.true c.requires.marks c.in_ok-pushes.ensures in
    grind (arith, within)

pub returns-then-branch : goal.returns-then-branch
returns-then-branch g c = record {
  pushed = subst (λ (b : Bool). PushJudged c.args.element c.args.set.now c.pushes.new.set b) c.if-branch.true c.in_ok-pushes.ensures;
  marks = λ so. pushed_on c.args.element c.args.set.now c.pushes.new.set c.args.marks.now.items c.in_ok-pushes.field-0 c.if-branch.true c.requires.marks c.in_ok-pushes.ensures;
}
