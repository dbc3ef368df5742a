use Rattle.local_replay.proofs.PartLaws.{added}
use Rattle.local_replay.proofs.lists.ReplayedLists.add.Goals as goal

pub returns : goal.returns
returns c =
    rw (← c.self.view_is) (added c.self.inside.free.items c.self.inside.pending.items c.push.new.self.items c.self.inside.steal c.args.hash c.args.element c.args.cursor c.in_ok-push.ensures.items)
