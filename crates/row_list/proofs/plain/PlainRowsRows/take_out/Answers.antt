use Rattle.std.proofs.Common.{◌≡◌, ap, sym, ◌∙◌, subst, arith, reverse, List, Option, Some, None}
use Rattle.std.specs.Prelude.{position}
use Rattle.map_types.specs.ElementLists.{IsIn}
use Rattle.map_types.specs.declared.row.Row.{Row}
use Rattle.map_types.specs.Listed.{elements_of}
use Rattle.row_list.specs.RowWords.{is_of, without_row, AreRows}
use Rattle.row_list.proofs.RowLemmas.{HasSome, row_present, row_of_absent, without_absent, without_are_rows}
use Rattle.row_list.proofs.PlainLemmas.{lies, lies_nowhere, found_row, left_rows}
use Rattle.row_list.proofs.plain.PlainRowsRows.take_out.Goals as goal

pub returns-in_err-at-clause-taken : goal.returns-in_err-at-clause-taken
returns-in_err-at-clause-taken c =
    let items = c.args.self.now.items.items in
    let none : position (is_of c.args.element) items ≡ None = sym (c.in_err-at.ensures.exact ∙ ap (position (is_of c.args.element)) c.deref.ensures.value) in
    c.from_residual.ensures ∙ sym (row_of_absent c.args.element (reverse items) (lies_nowhere c.args.element items none))

pub returns-in_err-at-clause-present : goal.returns-in_err-at-clause-present
returns-in_err-at-clause-present c =
    let items = c.args.self.now.items.items in
    let none : position (is_of c.args.element) items ≡ None = sym (c.in_err-at.ensures.exact ∙ ap (position (is_of c.args.element)) c.deref.ensures.value) in
    let some : Option Row → Type 0 = λ row. HasSome row (IsIn c.args.element (elements_of (reverse items))) in
    let is = c.from_residual.ensures ∙ sym (row_of_absent c.args.element (reverse items) (lies_nowhere c.args.element items none)) in
    subst some (sym is) (row_present c.args.element (reverse items))

pub returns-in_err-at-clause-rows : goal.returns-in_err-at-clause-rows
returns-in_err-at-clause-rows c =
    let items = c.args.self.now.items.items in
    let none : position (is_of c.args.element) items ≡ None = sym (c.in_err-at.ensures.exact ∙ ap (position (is_of c.args.element)) c.deref.ensures.value) in
    sym (without_absent c.args.element (reverse items) (lies_nowhere c.args.element items none))

pub invariant_of-self : goal.invariant_of-self
invariant_of-self c =
    let items = c.args.self.now.items.items in
    let found : position (is_of c.args.element) items ≡ Some c.in_ok-at.at = sym (c.in_ok-at.ensures.exact ∙ ap (position (is_of c.args.element)) c.deref.ensures.value) in
    let there = lies c.args.element items c.in_ok-at.at found (c.args.self.now.whole.once c.args.element) in
    let left : reverse c.remove.new.self.items ≡ without_row c.args.element (reverse items) = ap reverse c.remove.ensures.items ∙ left_rows c.args.element items c.in_ok-at.at _ there in
    let are : List Row → Type 0 = λ rows. AreRows c.args.self.now.bound rows in
    let room = c.args.self.now.room in
    let kept = c.remove.ensures.capacity in
    record { whole = subst are (sym left) (without_are_rows c.args.element c.args.self.now.bound (reverse items) c.args.self.now.whole); room = omega arith }

pub returns-clause-taken : goal.returns-clause-taken
returns-clause-taken c =
    let items = c.args.self.now.items.items in
    let found : position (is_of c.args.element) items ≡ Some c.in_ok-at.at = sym (c.in_ok-at.ensures.exact ∙ ap (position (is_of c.args.element)) c.deref.ensures.value) in
    let there = lies c.args.element items c.in_ok-at.at found (c.args.self.now.whole.once c.args.element) in
    ap Some (c.remove.ensures.value ∙ there.read c.remove.result) ∙ sym (found_row c.args.element items c.in_ok-at.at _ there)

pub returns-clause-present : goal.returns-clause-present
returns-clause-present c =
    let items = c.args.self.now.items.items in
    let found : position (is_of c.args.element) items ≡ Some c.in_ok-at.at = sym (c.in_ok-at.ensures.exact ∙ ap (position (is_of c.args.element)) c.deref.ensures.value) in
    let there = lies c.args.element items c.in_ok-at.at found (c.args.self.now.whole.once c.args.element) in
    let some : Option Row → Type 0 = λ row. HasSome row (IsIn c.args.element (elements_of (reverse items))) in
    subst some (found_row c.args.element items c.in_ok-at.at _ there) (row_present c.args.element (reverse items))

pub returns-clause-rows : goal.returns-clause-rows
returns-clause-rows c =
    let items = c.args.self.now.items.items in
    let found : position (is_of c.args.element) items ≡ Some c.in_ok-at.at = sym (c.in_ok-at.ensures.exact ∙ ap (position (is_of c.args.element)) c.deref.ensures.value) in
    let there = lies c.args.element items c.in_ok-at.at found (c.args.self.now.whole.once c.args.element) in
    ap reverse c.remove.ensures.items ∙ left_rows c.args.element items c.in_ok-at.at _ there
