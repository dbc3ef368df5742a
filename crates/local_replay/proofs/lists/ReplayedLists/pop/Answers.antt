use Rattle.std.proofs.Common.{◌<◌, ℕ, sym, subst}
use Rattle.local_replay.proofs.ListLaws.{head_off}
use Rattle.local_replay.proofs.PartLaws.{popped}
use Rattle.local_replay.proofs.lists.ReplayedLists.pop.Goals as goal

pub returns : goal.returns
returns c =
    let off = head_off c.self.inside.free.items c.pop-head.new.self.items c.pop-head.result c.pop-head.ensures.items
    (λ some. c.pop-head.ensures.variant.1 (subst (λ (n : ℕ). 0 < n) (sym c.self.inside.free.ok.0) some)) in
    rw (← c.self.view_is) (popped c.self.inside.free.items c.pop-head.new.self.items c.self.inside.pending.items c.push.new.self.items c.self.inside.steal c.args.hash c.args.element off c.in_ok-push.ensures.items)
