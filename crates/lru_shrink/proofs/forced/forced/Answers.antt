use Rattle.std.proofs.Common.{ap, ◌∙◌, sym}
use Rattle.row_list.specs.RowWords.{row_of}
use Rattle.lru_shrink.proofs.ForcedSearch.{on_forced, forced_none, forced_room, forced_one}
use Rattle.lru_shrink.proofs.forced.forced.Goals as goal

pub search_all-requires-clause-probed : goal.search_all-requires-clause-probed
search_all-requires-clause-probed g c =
    λ row is. c.requires.probed row
    (on_forced c.args.set.now c.rows.ensures.whole row.element row (ap (row_of row.element) (sym (c.rows.ensures.exact ∙ c.forced_list-list.ensures)) ∙ is))

-- nothing was found
pub returns-in_default-clause-part : goal.returns-in_default-clause-part
returns-in_default-clause-part g c =
    forced_none c.rows.ensures.whole (c.rows.ensures.exact ∙ c.forced_list-list.ensures) c.search_all.ensures.search c.in_default.is c.args.out.now

-- one was removed
pub returns-clause-part : goal.returns-clause-part
returns-clause-part g c =
    let walked = c.rows.ensures.exact ∙ c.forced_list-list.ensures in
    forced_one c.rows.ensures.whole walked c.search_all.ensures.search c.in-Some.is c.take_off.ensures.exact c.element.ensures c.body.ensures
    (forced_room c.rows.ensures.whole walked c.search_all.ensures.search c.in-Some.is c.requires.room) c.push.ensures
