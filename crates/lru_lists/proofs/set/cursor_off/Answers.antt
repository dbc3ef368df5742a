use Rattle.lru_lists.proofs.CursorLemmas.{cursor_goes, is_under}
use Rattle.lru_lists.proofs.set.cursor_off.Goals as goal

pub returns-then-eq : goal.returns-then-eq
returns-then-eq g c =
    let e = c.args.element in
    let at = c.args.cursor in
    cursor_goes e (g.R.Rows.rows c.args.inactive.now) at c.neighbour_of.result c.neighbour_of.ensures c.requires (is_under at e c.if-eq.ensures)
