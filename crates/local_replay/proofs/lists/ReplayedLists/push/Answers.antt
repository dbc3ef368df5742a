use Rattle.local_replay.proofs.PartLaws.{pushed_done, not_pushed}
use Rattle.local_replay.proofs.lists.ReplayedLists.push.Goals as goal

pub returns-in_ok-push : goal.returns-in_ok-push
returns-in_ok-push c =
    rw (c.if-done.true, ← c.self.view_is) (pushed_done c.self.inside.free.items c.push.new.self.items c.self.inside.pending.items c.in_ok-self-inside.field-0.items c.self.inside.steal c.args.element
    (rw (← c.deref.ensures.value) c.in_ok-self-inside.ensures) c.in_ok-push.ensures.items)

pub returns-else-done : goal.returns-else-done
returns-else-done c = rw c.if-done.false (not_pushed c.args.self.now c.args.element)
