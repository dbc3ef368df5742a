use Rattle.std.proofs.Common.{List, length, sym, ◌∙◌, subst}
use Rattle.place_words.specs.declared.history.LockHistory.{LockHistory}
use Rattle.record_shape.specs.Fits.{AllFit}
use Rattle.record_shape.specs.WellShaped.{HistoryFits}
use Rattle.record_check.proofs.Told.{left_read, told_by, whole_told}
use Rattle.record_check.proofs.check.are_finals_right.Goals as goal

pub last_spares-requires-clause-fit : goal.last_spares-requires-clause-fit
last_spares-requires-clause-fit c =
    subst (λ (histories : List LockHistory). AllFit (HistoryFits c.args.script.now.shape (length c.args.script.now.calls)) histories) (sym c.as_slice.ensures) c.requires.shaped.histories

pub returns-then-not-spares_told : goal.returns-then-not-spares_told
returns-then-not-spares_told c = λ are.
    c.if-not-spares_told.ensures
    (told_by c.args.script.now c.args.kept.now c.requires.shaped c.as_slice-2.result.now
    (c.as_slice-2.ensures.value
    ∙ left_read c.args.script.now c.args.kept.now c.as_slice.result.now c.in_ok-left.left.items c.as_slice.ensures c.in_ok-left.ensures) are)

pub returns : goal.returns
returns c =
    whole_told c.args.script.now c.args.kept.now c.requires.shaped c.as_slice-2.result.now
    (c.as_slice-2.ensures.value
    ∙ left_read c.args.script.now c.args.kept.now c.as_slice.result.now c.in_ok-left.left.items c.as_slice.ensures c.in_ok-left.ensures)
    c.if-not-spares_told.ensures c.finals_whole.result c.finals_whole.ensures
