use Rattle.local_replay.proofs.PartLaws.{refilled}
use Rattle.local_replay.proofs.lists.ReplayedLists.refill.Goals as goal

pub returns : goal.returns
returns c = λ flushed.
    rw (← c.self.view_is) (refilled c.self.inside.free.items c.in_ok-self-inside.field-0.items c.args.gained.now c.self.inside.pending.items c.in_ok-self-inside-2.field-0.items c.self.inside.steal c.args.hash c.args.got flushed
    c.in_ok-self-inside.ensures c.in_ok-self-inside-2.ensures)
