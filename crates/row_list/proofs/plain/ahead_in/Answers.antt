use Rattle.std.proofs.Common.{sym, ◌∙◌, ◌<◌, arith, reverse}
use Rattle.row_list.proofs.RowLemmas.{row_after_absent}
use Rattle.row_list.proofs.PlainLemmas.{lies, lies_nowhere, row_towards_tail, row_at_tail}
use Rattle.row_list.proofs.plain.ahead_in.Goals as goal

pub returns-in_err-at : goal.returns-in_err-at
returns-in_err-at c =
    c.from_residual.ensures ∙ sym (row_after_absent c.args.element (reverse c.args.items.now) (lies_nowhere c.args.element c.args.items.now (sym c.in_err-at.ensures.exact)))

pub returns-then-at-eq0 : goal.returns-then-at-eq0
returns-then-at-eq0 c =
    let there = lies c.args.element c.args.items.now c.in_ok-at.at (sym c.in_ok-at.ensures.exact) (c.requires c.args.element) in
    sym (row_at_tail c.args.element c.args.items.now c.in_ok-at.at _ there c.if-at-eq0.true)

pub returns-else-at-eq0 : goal.returns-else-at-eq0
returns-else-at-eq0 c =
    let there = lies c.args.element c.args.items.now c.in_ok-at.at (sym c.in_ok-at.ensures.exact) (c.requires c.args.element) in
    let inside : 0 < c.in_ok-at.at = omega arith in
    sym (row_towards_tail c.args.element c.args.items.now c.in_ok-at.at _ there inside)
