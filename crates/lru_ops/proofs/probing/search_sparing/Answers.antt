use Rattle.std.proofs.Common.{sym, ap, ◌∙◌, subst, rules}
use Rattle.map_types.specs.ElementLists.{IsIn}
use Rattle.map_types.specs.Listed.{elements_of}
use Rattle.place_table.specs.Passes.{PassView}
use Rattle.row_list.specs.RowWords.{row_of}
use Rattle.lru_ops.specs.Askings.{MayChase}
use Rattle.lru_ops.specs.Thefts.{SearchedSparing}
use Rattle.lru_ops.proofs.ThiefWalk.{since_local, may_ask_pending, may_chase_pending, sparing_searched}
use Rattle.lru_ops.proofs.probing.search_sparing.Goals as goal

pub search_sparing-requires-clause-noted : goal.search_sparing-requires-clause-noted
search_sparing-requires-clause-noted g c = (sym c.requires.to, since_local c.requires.can c.requires.start c.requires.lock c.requires.to c.requires.rows)

pub search_sparing-requires-clause-asked : goal.search_sparing-requires-clause-asked
search_sparing-requires-clause-asked g c e inside = may_ask_pending c.requires.can e (subst (λ rows. IsIn e (elements_of rows)) c.pending.ensures.exact inside)

pub search_sparing-requires-clause-probed : goal.search_sparing-requires-clause-probed
search_sparing-requires-clause-probed g c row found =
    subst (λ rows. MayChase c.args.table.now rows c.args.pass.now row) (sym c.requires.rows) (may_chase_pending c.requires.can row (ap (row_of row.element) (sym c.pending.ensures.exact) ∙ found))

pub returns : goal.returns
returns g c =
    let a = c.args in
    let n = c.search_sparing.new in
    let e = c.search_sparing.ensures in
    let start = since_local c.requires.can c.requires.start c.requires.lock c.requires.to c.requires.rows in
    let done : SearchedSparing a.table.now a.lists.now.pending a.first.now n.notes a.pass.now n.probe.pass.now c.search_sparing.result =
    sparing_searched c.requires.can c.requires.start c.requires.to c.requires.rows (e.only.noted 0 (sym c.requires.to, start)).1 c.pending.ensures.exact e.search in
    subst (λ (z : PassView). SearchedSparing a.table.now a.lists.now.pending a.first.now n.notes a.pass.now z c.search_sparing.result) (search rules) done
