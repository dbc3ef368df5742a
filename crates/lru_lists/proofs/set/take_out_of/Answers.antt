use Rattle.std.proofs.Common.{◌∙◌, sym, arith, rules, ◌<◌}
use Rattle.map_types.specs.ElementLists.{times}
use Rattle.map_types.specs.Listed.{elements_of}
use Rattle.row_list.proofs.RowLemmas.{row_of_left, row_of_right, without_absent}
use Rattle.lru_lists.proofs.set.take_out_of.Goals as goal

pub returns-in-Some-clause-taken : goal.returns-in-Some-clause-taken
returns-in-Some-clause-taken g c =
    sym (row_of_left c.args.element (g.R.Rows.rows c.args.active.now) (g.R.Rows.rows c.args.inactive.now) c.in-Some.row (sym c.in-Some.ensures.taken))

pub returns-in-Some-clause-inactive : goal.returns-in-Some-clause-inactive
returns-in-Some-clause-inactive g c =
    let there : 0 < times c.args.element (elements_of (g.R.Rows.rows c.args.active.now)) = c.in-Some.ensures.present.0 (search rules) in
    let once = c.requires in
    sym (without_absent c.args.element (g.R.Rows.rows c.args.inactive.now) (omega arith))

pub returns-in-None-clause-taken : goal.returns-in-None-clause-taken
returns-in-None-clause-taken g c =
    c.take_out-in-None.ensures.taken ∙ sym (row_of_right c.args.element (g.R.Rows.rows c.args.active.now) (g.R.Rows.rows c.args.inactive.now) (sym c.in-None.ensures.taken))
