use Rattle.std.proofs.Common.{sym, ◌∙◌}
use Rattle.std.proofs.lemmas.List.{nil_from_length}
use Rattle.std.proofs.lemmas.Bool.{eqb-true}
use Rattle.local_replay.proofs.PartLaws.{visits_refuse, refill_told}
use Rattle.local_replay.proofs.lists.ReplayedLists.may_refill.Goals as goal

pub returns-then-not-visits_all : goal.returns-then-not-visits_all
returns-then-not-visits_all c =
    rw (← c.self.view_is) (visits_refuse c.self.inside.free.items c.args.gained.now c.self.inside.pending.items c.args.flushed.now c.self.inside.steal c.args.got (rw (← c.deref.ensures.value) (sym c.visits_all.ensures ∙ c.if-not-visits_all.true)))

pub returns : goal.returns
returns c =
    rw (← c.self.view_is) (refill_told c.self.inside.free.items c.args.gained.now c.self.inside.pending.items c.args.flushed.now c.self.inside.steal c.args.got c.is_last.result
    (nil_from_length c.self.inside.free.items (sym c.self.inside.free.ok.0 ∙ eqb-true _ 0 (sym c.is_empty.ensures ∙ c.if-not-is_empty.false)))
    (rw (← c.deref.ensures.value) (sym c.visits_all.ensures ∙ c.if-not-visits_all.false)) c.is_last.ensures)
