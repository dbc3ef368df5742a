use Rattle.std.proofs.Common.{◌∙◌, ap}
use Rattle.map_types.specs.Listed.{elements_of}
use Rattle.local_replay.proofs.ListLaws.{last_is}
use Rattle.local_replay.proofs.lists.ReplayedLists.last.Goals as goal

pub returns : goal.returns
returns c =
    rw (← c.self.view_is) (last_is c.self.inside.free.items c.self.inside.pending.items c.self.inside.steal c.head_first.result c.head_first-2.result c.in_ok-elements_in.field-0.items c.head_first.ensures
    (c.in_ok-elements_in.ensures ∙ ap elements_of c.as_slice.ensures.value) c.head_first-2.ensures)
