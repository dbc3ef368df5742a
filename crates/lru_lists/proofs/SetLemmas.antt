-- What the moves of a set keep.
use Rattle.std.proofs.Common.{◌≡◌, ℕ, eqb, List, ◌++◌, Option, Some, ap, ◌∙◌, arith}
use Rattle.map_types.specs.ElementLists.{times}
use Rattle.map_types.specs.declared.row.Row.{Row}
use Rattle.map_types.specs.Listed.{elements_of, cursor_without}
use Rattle.map_types.proofs.RowLemmas.{times_append}
use Rattle.row_list.specs.RowWords.{without_row}
use Rattle.row_list.proofs.RowLemmas.{elements_append, HasSome, row_present, row_of_element, gone_without, fewer_without}
use Rattle.lru_lists.specs.Sets.{SetView, IsSet, IsListed, times_listed, times_on, row_on, taken_off}
use Rattle.lru_lists.proofs.CursorLemmas.{cursor_stays}

pub taken_off_is_set : (e : ℕ) (set : SetView) → IsSet set → IsSet (taken_off e set)
taken_off_is_set e set is = record {
  once = λ x. let active = fewer_without x e set.active in let inactive = fewer_without x e set.inactive in let once = is.once x in omega arith;
  below = λ x on. let active = fewer_without x e set.active in let inactive = fewer_without x e set.inactive in is.below x (omega arith);
  placed = cursor_stays e set.inactive set.cursor is.placed;
  countable = is.countable;
}

pub off_after : (e : ℕ) (set : SetView) → times_listed e (taken_off e set) ≡ 0
off_after e set =
    let active = gone_without e set.active in
    let inactive = gone_without e set.inactive in
    omega arith

pub listed_present : (e : ℕ) (set : SetView) → HasSome (row_on e set) (IsListed e set)
listed_present e set =
    let there = row_present e (set.active ++ set.inactive) in
    let apart = ap (times e) (elements_append set.active set.inactive) ∙ times_append e (elements_of set.active) (elements_of set.inactive) in
    (λ some. let is_in = there.0 some in omega arith, λ listed. there.1 (omega arith))

-- the row that was taken off is that of the element, which is then on no list
pub its_row : (e : ℕ) (set : SetView) (row : Row) → row_on e set ≡ Some row → row.element ≡ e
its_row e set row found = row_of_element e (set.active ++ set.inactive) row found

pub on_none_after : (e : ℕ) (set : SetView) → IsSet set → IsListed e set → times_on e (taken_off e set) ≡ 0
on_none_after e set is listed =
    let off = off_after e set in
    let once = is.once e in
    omega arith

-- the fields after the cursor has left and the row was taken out are those of the set without the element
pub is_taken_off : (e : ℕ) (set left : SetView) (active inactive : List Row) (at : Option ℕ) (bound : ℕ) → left ≡ set → active ≡ without_row e left.active → inactive ≡ without_row e left.inactive → at ≡ cursor_without (λ x. eqb x e) left.inactive left.cursor → bound ≡ left.elements → record { active = active; inactive = inactive; free = left.free; cursor = at; elements = bound } ≡ taken_off e set
is_taken_off e set left active inactive at bound is of_active of_inactive of_cursor of_bound =
    let now : record { active = active; inactive = inactive; free = left.free; cursor = at; elements = bound } ≡ taken_off e left = λ i. record left { active = of_active i; inactive = of_inactive i; cursor = of_cursor i; elements = of_bound i } in
    now ∙ ap (taken_off e) is
