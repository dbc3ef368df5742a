use Rattle.std.proofs.Common.{sym, ◌∙◌}
use Rattle.local_replay.proofs.PartLaws.{row_refuses, free_refuses, add_told}
use Rattle.local_replay.proofs.lists.ReplayedLists.may_add.Goals as goal

pub returns-then-has_row : goal.returns-then-has_row
returns-then-has_row c =
    rw (← c.self.view_is) (row_refuses c.args.shape.now c.self.inside.free.items c.self.inside.pending.items c.self.inside.steal c.args.element c.args.cursor (rw (← c.deref.ensures.value) (sym c.has_row.ensures ∙ c.if-has_row.true)))

pub returns-then-not-is_absent : goal.returns-then-not-is_absent
returns-then-not-is_absent c =
    rw (← c.self.view_is) (free_refuses c.args.shape.now c.self.inside.free.items c.self.inside.pending.items c.self.inside.steal c.args.element c.args.cursor (rw (← c.deref-2.ensures.value) (sym c.is_absent.ensures ∙ c.if-not-is_absent.true)))

pub returns : goal.returns
returns c =
    rw (← c.self.view_is) (add_told c.args.shape.now c.self.inside.free.items c.self.inside.pending.items c.self.inside.steal c.args.element c.args.cursor
    (rw (← c.deref.ensures.value) (sym c.has_row.ensures ∙ c.if-has_row.false)) (rw (← c.deref-2.ensures.value) (sym c.is_absent.ensures ∙ c.if-not-is_absent.false)))
