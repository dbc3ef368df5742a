use Rattle.std.proofs.Common.{sym, ap, ◌∙◌, subst, rules}
use Rattle.place_table.specs.Passes.{PassView}
use Rattle.row_list.specs.RowWords.{row_of}
use Rattle.lru_ops.specs.Askings.{MayChase}
use Rattle.lru_ops.specs.Thefts.{SearchedAll}
use Rattle.lru_ops.proofs.ThiefWalk.{since_local, may_chase_pending, all_searched}
use Rattle.lru_ops.proofs.probing.search_all.Goals as goal

pub search_all-requires-clause-noted : goal.search_all-requires-clause-noted
search_all-requires-clause-noted g c = (sym c.requires.to, since_local c.requires.can c.requires.start c.requires.lock c.requires.to c.requires.rows)

pub search_all-requires-clause-probed : goal.search_all-requires-clause-probed
search_all-requires-clause-probed g c row found =
    subst (λ rows. MayChase c.args.table.now rows c.args.pass.now row) (sym c.requires.rows) (may_chase_pending c.requires.can row (ap (row_of row.element) (sym c.pending.ensures.exact) ∙ found))

pub returns : goal.returns
returns g c =
    let a = c.args in
    let n = c.search_all.new in
    let e = c.search_all.ensures in
    let start = since_local c.requires.can c.requires.start c.requires.lock c.requires.to c.requires.rows in
    let done : SearchedAll a.table.now a.lists.now.pending a.second.now n.notes a.pass.now n.probe.pass.now c.search_all.result =
    all_searched c.requires.can c.requires.start c.requires.to c.requires.rows (e.only.noted 0 (sym c.requires.to, start)).1 c.pending.ensures.exact e.search e.calls in
    subst (λ (z : PassView). SearchedAll a.table.now a.lists.now.pending a.second.now n.notes a.pass.now z c.search_all.result) (search rules) done
