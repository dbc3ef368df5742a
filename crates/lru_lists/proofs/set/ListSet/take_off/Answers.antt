use Rattle.std.proofs.Common.{◌≡◌, ◌∙◌, ap, sym, subst, Option, ◌++◌}
use Rattle.map_types.specs.declared.row.Row.{Row}
use Rattle.row_list.specs.RowWords.{row_of}
use Rattle.row_list.proofs.RowLemmas.{HasSome}
use Rattle.lru_lists.specs.Sets.{SetView, IsSet, IsListed, times_listed}
use Rattle.lru_lists.specs.declared.set.Lists.{Lists}
use Rattle.lru_lists.proofs.SetLemmas.{taken_off_is_set, off_after, listed_present, is_taken_off}
use Rattle.lru_lists.proofs.set.ListSet.take_off.Goals as goal

pub returns-clause-exact : goal.returns-clause-exact
returns-clause-exact g c =
    let view : Lists g.row.R.Denot → SetView = λ l. record { active = g.R.Rows.rows l.active; inactive = g.R.Rows.rows l.inactive; free = l.free; cursor = l.cursor; elements = g.R.Rows.bound l.active } in
    is_taken_off c.args.element c.args.self.now (view c.deref_mut-lists.result.now) (g.R.Rows.rows c.take_out_of.new.active) (g.R.Rows.rows c.take_out_of.new.inactive) c.cursor_off-lists.result (g.R.Rows.bound c.take_out_of.new.active) (ap view c.deref_mut-lists.ensures.value ∙ c.self.view_is) c.take_out_of.ensures.active c.take_out_of.ensures.inactive c.cursor_off-lists.ensures c.take_out_of.ensures.bounds.0

pub returns-clause-whole : goal.returns-clause-whole
returns-clause-whole g c =
    let holds = λ (now : SetView). IsSet now in
    subst holds (sym (returns-clause-exact g c)) (taken_off_is_set c.args.element c.args.self.now (subst holds c.self.view_is c.self.invariant.0))

pub returns-clause-off : goal.returns-clause-off
returns-clause-off g c = ap (times_listed c.args.element) (returns-clause-exact g c) ∙ off_after c.args.element c.args.self.now

pub returns-clause-present : goal.returns-clause-present
returns-clause-present g c =
    let e = c.args.element in
    let set = c.args.self.now in
    let rows = ap (λ (l : Lists g.row.R.Denot). g.R.Rows.rows l.active ++ g.R.Rows.rows l.inactive) c.deref_mut-lists.ensures.value ∙ ap (λ (now : SetView). now.active ++ now.inactive) c.self.view_is in
    let some : Option Row → Type 0 = λ row. HasSome row (IsListed e set) in
    subst some (sym (c.take_out_of.ensures.taken ∙ ap (row_of e) rows)) (listed_present e set)

pub invariant_of-self : goal.invariant_of-self
invariant_of-self g c =
    let bounds = c.take_out_of.ensures.bounds in
    let same : Lists g.row.R.Denot → Type 0 = λ l. g.R.Rows.bound l.inactive ≡ g.R.Rows.bound l.active in
    (returns-clause-whole g c, bounds.1 ∙ subst same (sym c.deref_mut-lists.ensures.value) c.self.invariant.1 ∙ sym bounds.0)
