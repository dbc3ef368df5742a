use Rattle.local_replay.proofs.PartLaws.{push_told, flushed_told}
use Rattle.local_replay.proofs.lists.ReplayedLists.may_push.Goals as goal

pub returns-then-done : goal.returns-then-done
returns-then-done c =
    rw (c.if-done.true, ← c.self.view_is) (push_told c.self.inside.free.items c.self.inside.pending.items c.self.inside.steal c.args.element c.has_row.result (rw (← c.deref.ensures.value) c.has_row.ensures))

pub returns-else-done : goal.returns-else-done
returns-else-done c =
    rw (c.if-done.false, ← c.self.view_is) (flushed_told c.self.inside.free.items c.self.inside.pending.items c.self.inside.steal c.args.element c.has_row-else-done.result (rw (← c.deref-else-done.ensures.value) c.has_row-else-done.ensures))
