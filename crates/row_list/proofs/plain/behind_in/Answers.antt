use Rattle.std.proofs.Common.{◌≡◌, ap, sym, ◌∙◌, ◌+◌, suc, arith, reverse}
use Rattle.std.specs.Prelude.{slice_get}
use Rattle.row_list.proofs.RowLemmas.{row_before_absent}
use Rattle.row_list.proofs.PlainLemmas.{lies, lies_nowhere, row_towards_head}
use Rattle.row_list.proofs.plain.behind_in.Goals as goal

pub returns-in_err-at : goal.returns-in_err-at
returns-in_err-at c =
    c.from_residual.ensures ∙ sym (row_before_absent c.args.element (reverse c.args.items.now) (lies_nowhere c.args.element c.args.items.now (sym c.in_err-at.ensures.exact)))

pub returns : goal.returns
returns c =
    let there = lies c.args.element c.args.items.now c.in_ok-at.at (sym c.in_ok-at.ensures.exact) (c.requires c.args.element) in
    let next : c.in_ok-at.at + 1 ≡ suc c.in_ok-at.at = omega arith in
    c.row_at.ensures ∙ ap (slice_get c.args.items.now) next ∙ sym (row_towards_head c.args.element c.args.items.now c.in_ok-at.at _ there)
