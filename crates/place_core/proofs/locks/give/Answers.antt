use Rattle.std.proofs.Common.{sym, ◌∙◌, ap, not, eqb}
use Rattle.std.specs.Prelude.{filter}
use Rattle.place_core.specs.Answers.{view_of}
use Rattle.map_types.specs.ElementLists.{times}
use Rattle.place_core.proofs.CoreLemmas.{reads}
use Rattle.place_core.proofs.HeldLemmas.{did_give}
use Rattle.place_core.proofs.locks.give.Goals as goal

pub returns : goal.returns
returns c =
    let core = view_of c.args.cells.now in
    let under = c.index-under.result.now in
    let at = c.lock_number-number.result in
    let r = reads core c.args.lock c.args.cpu at under c.requires c.if-not-holds.ensures c.lock_number-number.ensures.exact c.index-under.ensures in
    did_give core c.args.cpu at c.args.lock under c.args.lists.now c.in_ok-now.now c.in_ok-held.held.items c.requires c.if-not-holds.ensures r c.if-not-has_own.ensures.0 c.if-not-has_own.ensures.1
    (λ e. ap (times e) (sym c.as_slice.ensures) ∙ (c.in_ok-have_same.ensures.0 c.if-not-branch.false e ∙ ap (times e) c.as_slice-2.ensures))
    (λ e. c.in_ok-have_same_rows.ensures.0 c.if-not-branch-2.false e)
    c.in_ok-now.ensures (c.in_ok-held.ensures ∙ ap (filter (λ hold. not (eqb hold.0 c.lock_number-number.result))) c.as_slice-3.ensures.value)
