-- What is left of local lists when an element leaves pending.
use Rattle.std.proofs.Common.{◌≡◌, ℕ, ◌<◌, List, Option, Some, None, ap, sym, subst, arith}
use Rattle.std.specs.Prelude.{IfSome}
use Rattle.map_types.specs.ElementLists.{times, IsIn}
use Rattle.map_types.specs.Listed.{elements_of}
use Rattle.map_types.specs.declared.row.Row.{Row}
use Rattle.percpu_values.specs.BodyList.{BodyList}
use Rattle.row_list.specs.RowWords.{is_of, row_of, without_row}
use Rattle.row_list.proofs.RowLemmas.{gone_without, fewer_without, found_is_in, row_of_element}
use Rattle.local_lists.specs.LocalLists.{LocalView, IsLocal, times_on, without_pending}

-- they stay local lists
pub without_is_local : (e : ℕ) (lists : LocalView) → IsLocal lists → IsLocal (without_pending e lists)
without_is_local e lists is = record {
  once = λ x. let fewer = fewer_without x e lists.pending in let once = is.once x in omega arith;
  below = λ x on. let fewer = fewer_without x e lists.pending in is.below x (omega arith);
  countable = is.countable;
}

-- an element that was pending is on neither list then
pub on_none_after : (e : ℕ) (lists : LocalView) → IsLocal lists → IsIn e (elements_of lists.pending) → times_on e (without_pending e lists) ≡ 0
on_none_after e lists is is_in =
    let off = gone_without e lists.pending in
    let once = is.once e in
    omega arith

-- What is so of local lists after an element left pending, and of the row that it had there, if any.
pub record IsLeft (e : ℕ) (row : Option Row) (lists : LocalView) : Type 0 where
  pub known : IfSome row (λ row. (row.element ≡ e) × (e < lists.elements) × (times_on e lists ≡ 0))
  pub whole : IsLocal lists

-- the row that is found is that of the element, which is on neither list without it
known_row : (e : ℕ) (lists : LocalView) → IsLocal lists → (row : Option Row) → row ≡ row_of e lists.pending → IfSome row (λ row. (row.element ≡ e) × (e < lists.elements) × (times_on e (without_pending e lists) ≡ 0))
known_row e lists is None found = tt
known_row e lists is (Some row) found =
    let its = row_of_element e lists.pending row (sym found) in
    let there = ap (λ (e : ℕ). times e (elements_of lists.pending)) its in
    let is_in = (found_is_in (is_of e) lists.pending row (sym found)).0 in
    (its, is.below e (omega arith), on_none_after e lists is (omega arith))

-- the same of the fields
module _ {free : BodyList} {pending rest : List Row} {steal elements bound : ℕ} {row : Option Row} where
  pub taken_off : (e : ℕ) → IsLocal (record { free = free; pending = pending; steal = steal; elements = elements }) → row ≡ row_of e pending → rest ≡ without_row e pending → bound ≡ elements → IsLeft e row (record { free = free; pending = rest; steal = steal; elements = bound })
  taken_off e is found taken same =
      let was : LocalView = record { free = free; pending = pending; steal = steal; elements = elements } in
      let now : record { free = free; pending = rest; steal = steal; elements = bound } ≡ without_pending e was = λ i. record was { pending = taken i; elements = same i } in
      subst (λ (lists : LocalView). IsLeft e row lists) (sym now) (record {
        known = known_row e was is row found;
        whole = without_is_local e was is;
      })
