use Rattle.std.proofs.Common.{ap, sym, ◌∙◌, subst, Option, reverse}
use Rattle.map_types.specs.ElementLists.{IsIn, IsHead}
use Rattle.map_types.specs.declared.row.Row.{Row}
use Rattle.map_types.specs.Listed.{elements_of}
use Rattle.row_list.specs.RowWords.{row_after}
use Rattle.row_list.proofs.RowLemmas.{HasSome, after_present}
use Rattle.row_list.proofs.plain.PlainRowsRows.after.Goals as goal

pub returns-clause-present : goal.returns-clause-present
returns-clause-present c =
    let rows = reverse c.args.self.now.items.items in
    let there : Option Row → Type 0 = λ found. HasSome found (IsIn c.args.element (elements_of rows) × (¬ IsHead c.args.element (reverse (elements_of rows)))) in
    let is = c.ahead_in.ensures ∙ ap (λ items. row_after c.args.element (reverse items)) c.deref.ensures.value in
    subst there (sym is) (after_present c.args.element rows (c.args.self.now.whole.once c.args.element))
