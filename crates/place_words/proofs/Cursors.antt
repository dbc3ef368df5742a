-- A cursor of a list set stays an inactive element or the mark.
use Rattle.std.proofs.Common.{◌≡◌, ℕ, suc, ◌+◌, ◌<◌, Bool, true, false, not, cond, eqb, List, [], ◌∷◌, ◌++◌, reverse, take, drop, Option, None, Some, refl, ap, ◌∙◌, sym, subst, arith}
use Rattle.std.specs.Prelude.{IfSome, find, option_map, option_and_then, slice_get}
use Rattle.std.specs.List.{position_or_len}
use Rattle.std.proofs.lemmas.List.{take-append-drop}
use Rattle.std.proofs.lemmas.Option.{same_Some}
use Rattle.place_words.proofs.Splits.{find_passes}
use Rattle.map_types.specs.declared.row.Row.{Row}
use Rattle.map_types.specs.ElementLists.{IsIn, times}
use Rattle.map_types.specs.Listed.{Listed, elements_of, without_those, rows_before, nearest_before, cursor_without}
use Rattle.map_types.proofs.RowLemmas.{by_test, times_rows-append, times_rows-reverse}
use Rattle.place_words.specs.declared.list_part.GlobalPart.{GlobalPart}
use Rattle.place_words.specs.declared.list_part.GlobalPart.TheVariants as global
use Rattle.place_words.specs.declared.list_part.OwnPart.{OwnPart}
use Rattle.place_words.specs.declared.list_part.OwnPart.TheVariants as own
use Rattle.place_words.specs.declared.visits.Look.{Look}
use Rattle.place_words.specs.declared.visits.Try.{Try}
use Rattle.place_words.specs.declared.visits.Visit.{Visit}
use Rattle.place_words.specs.Globals.{global_scans, global_after, with_flushed, flushed_rotated}
use Rattle.place_words.specs.Rotation.{active_rotated, inactive_rotated, inactive_visited, rotated, was_set}
use Rattle.place_words.specs.Sets.{ListSet, own_scans, own_after, row_with}
use Rattle.place_words.specs.Shrinking.{after_looks, after_tries, taken_off, forced_out, shrunk}
use Rattle.place_words.specs.declared.history.Part.{Part}
use Rattle.place_words.specs.declared.history.Part.TheVariants as parts
use Rattle.place_words.specs.Cursors.{IsCursorWithin, HasCursorWithin}
use Rattle.place_words.specs.Histories.{Content, content_after, in_bucket, on_freelist, in_locals, in_global, in_own}
use Rattle.map_types.specs.declared.attr.Shape.{Shape}

abbrev pub IsInside : Option ℕ → List Row → Type 0
IsInside cursor rows = IfSome cursor (λ e. IsIn e (elements_of rows))

pub find_inside : (test : Row → Bool) (rows : List Row) (row : Row) → find test rows ≡ Some row → IsIn row.element (elements_of rows)
find_inside test [] row is = absurd cc
find_inside test (first ∷ rows) row is =
    elim (test first) as (λ b. cond b (Some first) (find test rows) ≡ Some row → IsIn row.element (elements_of (first ∷ rows))) [
      | true ↦ λ found. subst (λ (r : Row). IsIn r.element (elements_of (first ∷ rows))) (same_Some first row found) (by_test first.element first.element (λ b. 0 < cond b (suc (times first.element (elements_of rows))) (times first.element (elements_of rows))) (λ same. omega arith) (λ other. absurd (other refl)))
      | false ↦ λ found. let rest = find_inside test rows row found in by_test first.element row.element (λ b. 0 < cond b (suc (times row.element (elements_of rows))) (times row.element (elements_of rows))) (λ same. omega arith) (λ other. rest)
    ] is

-- what isn't gone stays
kept_times : (gone : ℕ → Bool) (x : ℕ) → gone x ≡ false → (rows : List Row) → times x (elements_of (without_those gone rows)) ≡ times x (elements_of rows)
kept_times gone x stays [] = refl
kept_times gone x stays (row ∷ rows) =
    let rest = kept_times gone x stays rows in
    by_test row.element x (λ b. times x (elements_of (cond (not (gone row.element)) (row ∷ without_those gone rows) (without_those gone rows))) ≡ cond b (suc (times x (elements_of rows))) (times x (elements_of rows)))
    (λ same. ap (λ (b : Bool). times x (elements_of (cond (not b) (row ∷ without_those gone rows) (without_those gone rows)))) (ap gone same ∙ stays)
    ∙ by_test row.element x (λ b. cond b (suc (times x (elements_of (without_those gone rows)))) (times x (elements_of (without_those gone rows))) ≡ suc (times x (elements_of rows))) (λ is. ap suc rest) (λ other. absurd (other same)))
    (λ other. elim (gone row.element) as (λ b. times x (elements_of (cond (not b) (row ∷ without_those gone rows) (without_those gone rows))) ≡ times x (elements_of rows)) [
      | true ↦ rest
      | false ↦ by_test row.element x (λ b. cond b (suc (times x (elements_of (without_those gone rows)))) (times x (elements_of (without_those gone rows))) ≡ times x (elements_of rows)) (λ is. absurd (other is)) (λ _. rest)
    ])

nearest_inside : (e x : ℕ) (gone : ℕ → Bool) (rows : List Row) → nearest_before e gone rows ≡ Some x → IsIn x (elements_of (without_those gone rows))
nearest_inside e x gone rows is = go (find (λ (r : Row). not (gone r.element)) (reverse (rows_before e rows))) refl is
  where
    go : (found : Option Row) → find (λ (r : Row). not (gone r.element)) (reverse (rows_before e rows)) ≡ found → option_map (λ (r : Row). r.element) found ≡ Some x → IsIn x (elements_of (without_those gone rows))
    go None found none = absurd cc
    go (Some row) found some =
        let same : row.element ≡ x = same_Some row.element x some in
        let passes : not (gone row.element) ≡ true = find_passes (λ (r : Row). not (gone r.element)) (reverse (rows_before e rows)) row found in
        let stays : gone x ≡ false = subst (λ (y : ℕ). gone y ≡ false) same (by (gone row.element) passes) in
        let inside : IsIn row.element (elements_of (reverse (rows_before e rows))) = find_inside (λ (r : Row). not (gone r.element)) (reverse (rows_before e rows)) row found in
        let turned = times_rows-reverse row.element (rows_before e rows) in
        let place : ℕ = position_or_len (λ (r : Row). eqb r.element e) rows in
        let whole : times row.element (elements_of rows) ≡ times row.element (elements_of (take place rows)) + times row.element (elements_of (drop place rows)) =
        ap (λ (l : List Row). times row.element (elements_of l)) (sym (take-append-drop place rows)) ∙ times_rows-append row.element (take place rows) (drop place rows) in
        let there : IsIn row.element (elements_of rows) = omega (arith, inside, turned, whole) in
        subst (λ (k : ℕ). 0 < k) (sym (kept_times gone x stays rows)) (subst (λ (y : ℕ). IsIn y (elements_of rows)) same there)
      where
        by : (b : Bool) → not b ≡ true → b ≡ false
        by true is = absurd cc
        by false is = refl

cursor_kept : (gone : ℕ → Bool) (rows : List Row) (cursor : Option ℕ) → IsInside cursor rows → IsInside (cursor_without gone rows cursor) (without_those gone rows)
cursor_kept gone rows None inside = tt
cursor_kept gone rows (Some e) inside = by (gone e) refl
  where
    near : (o : Option ℕ) → nearest_before e gone rows ≡ o → IsInside o (without_those gone rows)
    near None is = tt
    near (Some x) is = nearest_inside e x gone rows is

    by : (b : Bool) → gone e ≡ b → IsInside (cond b (nearest_before e gone rows) (Some e)) (without_those gone rows)
    by true is = near (nearest_before e gone rows) refl
    by false is = subst (λ (k : ℕ). 0 < k) (sym (kept_times gone e is rows)) inside

-- more rows before
inside_more : (front rows : List Row) (cursor : Option ℕ) → IsInside cursor rows → IsInside cursor (front ++ rows)
inside_more front rows None inside = tt
inside_more front rows (Some e) inside = let sum = times_rows-append e front rows in omega (arith, sum, inside)

rotated_inside : (scans : ℕ) (set : Listed) (active inactive : List Visit) → IsInside (rotated scans set active inactive).cursor (rotated scans set active inactive).inactive
unfolding rotated inactive_rotated
rotated_inside scans set active inactive = go (slice_get (reverse (inactive_visited scans (active_rotated scans set active))) 0)
  where
    rows : List Row
    rows = (active_rotated scans set active).inactive

    near : (e : ℕ) (o : Option ℕ) → nearest_before e (was_set inactive) (active_rotated scans set active).inactive ≡ o → IsInside o (without_those (was_set inactive) (active_rotated scans set active).inactive)
    near e None is = tt
    near e (Some x) is = nearest_inside e x (was_set inactive) (active_rotated scans set active).inactive is

    go : (last : Option Row) → IsInside (option_and_then (λ (row : Row). nearest_before row.element (was_set inactive) (active_rotated scans set active).inactive) last) (without_those (was_set inactive) (active_rotated scans set active).inactive)
    go None = tt
    go (Some row) = near row.element (nearest_before row.element (was_set inactive) (active_rotated scans set active).inactive) refl

shrunk_inside : (set : Listed) (looks : List Look) (forced : List Try) → IsInside set.cursor set.inactive → IsInside (shrunk set looks forced).cursor (shrunk set looks forced).inactive
unfolding shrunk after_looks after_tries
shrunk_inside set looks forced inside =
    cursor_kept (forced_out forced) (without_those (taken_off looks) set.inactive) (cursor_without (taken_off looks) set.inactive set.cursor) (cursor_kept (taken_off looks) set.inactive set.cursor inside)

-- The turns of a list set
pub own_cursor : (part : OwnPart) (set : ListSet) → IsCursorWithin set → IsCursorWithin (own_after part set)
unfolding own_after
own_cursor (own.Turn hash active inactive None got) set inside = inside_more (row_with hash got) _ _ (rotated_inside own_scans set.lists active inactive)
own_cursor (own.Turn hash active inactive (Some note) got) set inside =
    inside_more (row_with hash got) _ _ (shrunk_inside (rotated own_scans set.lists active inactive) note.looks note.forced (rotated_inside own_scans set.lists active inactive))
own_cursor (own.Push e) set inside = cursor_kept (λ x. eqb x e) set.lists.inactive set.lists.cursor inside

pub global_cursor : (part : GlobalPart) (set : ListSet) → IsCursorWithin set → IsCursorWithin (global_after part set)
unfolding global_after
global_cursor (global.Turn flushed active inactive free None) set inside = rotated_inside global_scans (with_flushed flushed set).lists active inactive
global_cursor (global.Turn flushed active inactive free (Some note)) set inside =
    shrunk_inside (flushed_rotated flushed active inactive set).lists note.looks note.forced (rotated_inside global_scans (with_flushed flushed set).lists active inactive)
global_cursor (global.Push e) set inside = cursor_kept (λ x. eqb x e) set.lists.inactive set.lists.cursor inside

-- A turn under any lock
pub cursor_stays : (shape : Shape) (cpu : ℕ) (part : Part) (content : Content) → HasCursorWithin content → HasCursorWithin (content_after shape cpu part content)
cursor_stays shape cpu (parts.Bucket part) (in_bucket bodies) within = (tt, tt)
cursor_stays shape cpu (parts.Bucket part) (on_freelist stack) within = within
cursor_stays shape cpu (parts.Bucket part) (in_locals lists) within = within
cursor_stays shape cpu (parts.Bucket part) (in_global set) within = within
cursor_stays shape cpu (parts.Bucket part) (in_own set) within = within
cursor_stays shape cpu (parts.Free part) (in_bucket bodies) within = within
cursor_stays shape cpu (parts.Free part) (on_freelist stack) within = (tt, tt)
cursor_stays shape cpu (parts.Free part) (in_locals lists) within = within
cursor_stays shape cpu (parts.Free part) (in_global set) within = within
cursor_stays shape cpu (parts.Free part) (in_own set) within = within
cursor_stays shape cpu (parts.Local part) (in_bucket bodies) within = within
cursor_stays shape cpu (parts.Local part) (on_freelist stack) within = within
cursor_stays shape cpu (parts.Local part) (in_locals lists) within = (tt, tt)
cursor_stays shape cpu (parts.Local part) (in_global set) within = within
cursor_stays shape cpu (parts.Local part) (in_own set) within = within
cursor_stays shape cpu (parts.Global part) (in_bucket bodies) within = within
cursor_stays shape cpu (parts.Global part) (on_freelist stack) within = within
cursor_stays shape cpu (parts.Global part) (in_locals lists) within = within
cursor_stays shape cpu (parts.Global part) (in_global set) within = (global_cursor part set within.0, tt)
cursor_stays shape cpu (parts.Global part) (in_own set) within = within
cursor_stays shape cpu (parts.Own part) (in_bucket bodies) within = within
cursor_stays shape cpu (parts.Own part) (on_freelist stack) within = within
cursor_stays shape cpu (parts.Own part) (in_locals lists) within = within
cursor_stays shape cpu (parts.Own part) (in_global set) within = within
cursor_stays shape cpu (parts.Own part) (in_own set) within = (tt, own_cursor part set within.1)
