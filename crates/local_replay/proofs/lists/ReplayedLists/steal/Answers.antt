use Rattle.std.proofs.Common.{◌<◌, ℕ, sym, subst}
use Rattle.local_replay.proofs.ListLaws.{head_off}
use Rattle.local_replay.proofs.PartLaws.{stolen_free, stolen_pending, stolen_nothing}
use Rattle.local_replay.proofs.lists.ReplayedLists.steal.Goals as goal

pub returns-in-Free : goal.returns-in-Free
returns-in-Free c = λ first second.
    let off = head_off c.self.inside.free.items c.pop-head.new.self.items c.pop-head.result c.pop-head.ensures.items
    (λ some. c.pop-head.ensures.variant.1 (subst (λ (n : ℕ). 0 < n) (sym c.self.inside.free.ok.0) some)) in
    rw (c.in-Free.is, ← c.self.view_is) (stolen_free c.self.inside.free.items c.pop-head.new.self.items c.self.inside.pending.items c.self.inside.steal c.in-Free.field-0 first second off)

pub returns-in_ok-self-inside-in-Pending : goal.returns-in_ok-self-inside-in-Pending
returns-in_ok-self-inside-in-Pending c = λ first second.
    rw (c.in-Pending.is, ← c.self.view_is) (stolen_pending c.self.inside.free.items c.self.inside.pending.items c.in_ok-self-inside-in-Pending.field-0.items c.self.inside.steal c.in-Pending.element first second
    (rw (← c.deref.ensures.value) c.in_ok-self-inside-in-Pending.ensures))

pub returns-in-Nothing : goal.returns-in-Nothing
returns-in-Nothing c = λ first second. rw c.in-Nothing.is (stolen_nothing c.args.self.now first second)
