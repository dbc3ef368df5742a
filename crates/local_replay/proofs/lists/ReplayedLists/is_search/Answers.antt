use Rattle.std.proofs.Common.{sym, ◌∙◌}
use Rattle.std.proofs.lemmas.List.{nil_from_length}
use Rattle.std.proofs.lemmas.Bool.{eqb-true}
use Rattle.local_replay.proofs.StealLaws.{search_refuses, search_second, search_one}
use Rattle.local_replay.proofs.lists.ReplayedLists.is_search.Goals as goal

pub returns-then-not-is_sparing : goal.returns-then-not-is_sparing
returns-then-not-is_sparing c =
    rw (← c.self.view_is) (search_refuses c.self.inside.free.items c.self.inside.pending.items c.self.inside.steal c.args.first.now c.args.second.now (rw (← c.deref.ensures.value) (sym c.is_sparing.ensures ∙ c.if-not-is_sparing.true)))

pub returns-then-removes_none : goal.returns-then-removes_none
returns-then-removes_none c =
    rw (← c.self.view_is) (search_second c.self.inside.free.items c.self.inside.pending.items c.self.inside.steal c.args.first.now c.args.second.now (nil_from_length c.self.inside.free.items (sym c.self.inside.free.ok.0 ∙ eqb-true _ 0 (sym c.is_empty.ensures ∙ c.if-not-is_empty.false))) (rw (← c.deref.ensures.value) (sym c.is_sparing.ensures ∙ c.if-not-is_sparing.false)) (sym c.removes_none.ensures ∙ c.if-removes_none.true) c.is_unsparing.result
    (rw (← c.deref-then-removes_none.ensures.value) c.is_unsparing.ensures))

pub returns-else-removes_none : goal.returns-else-removes_none
returns-else-removes_none c =
    rw (← c.self.view_is) (search_one c.self.inside.free.items c.self.inside.pending.items c.self.inside.steal c.args.first.now c.args.second.now (nil_from_length c.self.inside.free.items (sym c.self.inside.free.ok.0 ∙ eqb-true _ 0 (sym c.is_empty.ensures ∙ c.if-not-is_empty.false))) (rw (← c.deref.ensures.value) (sym c.is_sparing.ensures ∙ c.if-not-is_sparing.false)) (sym c.removes_none.ensures ∙ c.if-removes_none.false) c.is_empty-else-removes_none.result c.is_empty-else-removes_none.ensures)
