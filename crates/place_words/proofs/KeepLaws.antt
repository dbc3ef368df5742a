-- What each turn keeps: under its lock no element is lost and none comes from nowhere, and every row stays with its hash but
-- for those that vanish.
use Rattle.std.proofs.Common.{◌≡◌, ◌⊎◌, ℕ, zero, suc, ◌+◌, ◌<◌, ◌≤◌, Bool, true, false, not, cond, ◌&&◌, ◌||◌, eqb, List, [], ◌∷◌, ◌++◌, length, take, drop, reverse, map, refl, ap, ◌∙◌, sym, subst, arith, inl, inr}
use Rattle.std.specs.Prelude.{Option, None, Some, IsTrue, MatchBool, count_by, slice_get, filter}
use Rattle.std.proofs.lemmas.Bool.{cases_lt, or_parts, both_ways, ne_eqb}
use Rattle.std.proofs.lemmas.List.{take-append-drop}
use Rattle.map_types.specs.declared.attr.Shape.{Shape}
use Rattle.place_words.specs.declared.history.Part.{Part}
use Rattle.place_words.specs.declared.history.Part.TheVariants as parts
use Rattle.place_words.specs.declared.list_part.GlobalPart.TheVariants as global
use Rattle.place_words.specs.declared.list_part.LocalPart.{LocalPart}
use Rattle.place_words.specs.declared.list_part.LocalPart.TheVariants as local
use Rattle.place_words.specs.declared.list_part.OwnPart.TheVariants as own
use Rattle.place_words.specs.declared.list_part.Stolen.TheVariants.{Free, Pending, Nothing}
use Rattle.map_types.specs.declared.row.Row.{Row}
use Rattle.place_words.specs.declared.visits.Flush.{Flush}
use Rattle.place_words.specs.declared.visits.Look.{Look}
use Rattle.place_words.specs.declared.visits.Try.{Try}
use Rattle.place_words.specs.declared.visits.ShrinkNote.{ShrinkNote}
use Rattle.map_types.specs.ElementLists.{times, IsHead}
use Rattle.place_words.specs.Globals.{global_scans, global_target, with_flushed, flushed_rows, flushed_elements, flushed_rotated, shrunk_out, AreFlushed, AllowsGlobalShrink, AllowsOnGlobal, global_after}
use Rattle.place_words.specs.Histories.{Content, Allows, content_after, in_bucket, on_freelist, in_locals, in_global, in_own}
use Rattle.map_types.specs.Listed.{Listed, elements_of, without_those}
use Rattle.place_words.specs.Locals.{LocalLists, AllowsOnLocal, IsSearch, AreUnsparing, local_after}
use Rattle.place_words.specs.Moves.{elements_in, elements_of_set, brought, taken, KeepsElements}
use Rattle.place_words.specs.RowMoves.{rows_of, new_rows, rows_gone, IsOnce, KeepsRows}
use Rattle.place_words.specs.Rotation.{visited_elements, rotated}
use Rattle.place_words.specs.Sets.{ListSet, has_row, is_listed, unlisted, pushed_free, row_with, given_out, rotated_set, shrunk_into_free, own_scans, own_target, AllowsOwnShrink, AllowsOnOwn, own_after}
use Rattle.place_words.specs.Shrinking.{freed, look_removed, try_removed}
use Rattle.place_words.specs.Takings.{listed_rows, freed_by}
use Rattle.place_words.proofs.BucketLaws.{times_more, bucket_counts}
use Rattle.place_words.proofs.ContentLaws.{freelist_counts}
use Rattle.place_words.proofs.Loses.{in_set, AreOnceIn, Loses, loses_none, loses_both, once_after, lost_counted, rotation_loses, shrink_loses, out_where}
use Rattle.place_words.proofs.RowCounts.{any, rows_append, rows_cut, rows_reverse, rows_more, rows_any, rows_least, rows_without}
use Rattle.map_types.proofs.RowLemmas.{by_test, eqb_turned, times_append}

-- a set's elements are its free ones and its rows
pub in_elements : (set : ListSet) (e : ℕ) → times e (elements_of_set set) ≡ times e set.free + in_set e any set.lists
in_elements set e =
    omega (arith, times_append e set.free (elements_of set.lists.active ++ elements_of set.lists.inactive), times_append e (elements_of set.lists.active) (elements_of set.lists.inactive), rows_any e set.lists.active, rows_any e set.lists.inactive)

pub in_rows : (set : ListSet) (e : ℕ) (of : ℕ → Bool) → rows_of e of (set.lists.active ++ set.lists.inactive) ≡ in_set e of set.lists
in_rows set e of = rows_append e of set.lists.active set.lists.inactive

once_listed : (set : ListSet) → ((e : ℕ) → times e (elements_of_set set) ≤ 1) → AreOnceIn set.lists
once_listed set once e = omega (arith, in_elements set e, once e)

pub times_turned : (e : ℕ) (xs : List ℕ) → times e (reverse xs) ≡ times e xs
times_turned e [] = refl
times_turned e (x ∷ xs) =
    ap (times e) (Rattle.std.proofs.lemmas.List.reverse-append (x ∷ []) xs)
    ∙ omega (arith, times_append e (reverse xs) (x ∷ []), times_more e x [], times_more e x xs, times_turned e xs)

-- what is chosen by whether an element is among those that vanish
chosen : (n kept after : ℕ) → (n ≡ 0 → after ≡ kept) → (1 ≤ n → after ≡ 0) → after ≡ cond (eqb n 0) kept 0
chosen zero kept after stays goes = stays refl
chosen (suc n) kept after stays goes =
    let some : eqb (suc n) 0 ≡ false = ne_eqb (suc n) 0 (λ same. omega (arith, same)) in
    subst (λ (b : Bool). after ≡ cond b kept 0) (sym some) (goes (omega arith))

lost_rows : (a b : Listed) (out : List ℕ) → Loses a b out → (e : ℕ) (of : ℕ → Bool) → in_set e of b ≡ cond (eqb (times e out) 0) (in_set e of a) 0
lost_rows a b out loses e of = chosen (times e out) (in_set e of a) (in_set e of b) (loses.kept e of) (loses.lost e of)

-- A push: the element's rows vanish, and it is free

-- an element that has a row stands there
pub has_one : (e : ℕ) (rows : List Row) → has_row e rows ≡ true → 1 ≤ rows_of e any rows
has_one e [] has = absurd (both_ways false refl has)
has_one e (row ∷ rows) has =
    by_test row.element e (λ b. (b || has_row e rows) ≡ true → 1 ≤ cond (b && true) (suc (rows_of e any rows)) (rows_of e any rows)) (λ same is. omega arith) (λ other is. has_one e rows is) has

pub listed_one : (e : ℕ) (lists : Listed) → is_listed e lists ≡ true → 1 ≤ in_set e any lists
listed_one e lists is = by (has_row e lists.active) refl is
  where
    by : (b : Bool) → has_row e lists.active ≡ b → (b || has_row e lists.inactive) ≡ true → 1 ≤ in_set e any lists
    by true has either = omega (arith, has_one e lists.active has)
    by false has either = omega (arith, has_one e lists.inactive either)

-- one element, and what is left of a count without it
one_out : (e x : ℕ) (all left : ℕ) → left ≡ cond (eqb x e) 0 all → ((times x (e ∷ []) ≡ 0) × (left ≡ all)) ⊎ ((times x (e ∷ []) ≡ 1) × (left ≡ 0) × (x ≡ e))
one_out e x all left is =
    by_test e x (λ b. left ≡ cond b 0 all → ((cond b 1 0 ≡ zero) × (left ≡ all)) ⊎ ((cond b 1 0 ≡ suc zero) × (left ≡ 0) × (x ≡ e)))
    (λ same now. inr (refl, now, sym same))
    (λ other now. inl (refl, now))
    (is ∙ ap (λ (b : Bool). cond b 0 all) (eqb_turned x e))

unlisted_rows : (e x : ℕ) (of : ℕ → Bool) (lists : Listed) → in_set x of (unlisted e lists) ≡ cond (eqb x e) 0 (in_set x of lists)
unlisted_rows e x of lists =
    out_where (eqb x e) (rows_of x of lists.active) (rows_of x of lists.inactive) _ _ (rows_without x of (λ y. eqb y e) lists.active) (rows_without x of (λ y. eqb y e) lists.inactive)

push_loses : (e : ℕ) (lists : Listed) → is_listed e lists ≡ true → Loses lists (unlisted e lists) (e ∷ [])
push_loses e lists listed = record {
  kept = λ x of none. kept_by x of none (one_out e x (in_set x of lists) (in_set x of (unlisted e lists)) (unlisted_rows e x of lists));
  lost = λ x of some. lost_by x of some (one_out e x (in_set x of lists) (in_set x of (unlisted e lists)) (unlisted_rows e x of lists));
  was = λ x. was_by x (one_out e x (in_set x any lists) (in_set x any (unlisted e lists)) (unlisted_rows e x any lists));
}
  where
    Cases : ℕ → (ℕ → Bool) → Type 0
    Cases x of = ((times x (e ∷ []) ≡ 0) × (in_set x of (unlisted e lists) ≡ in_set x of lists)) ⊎ ((times x (e ∷ []) ≡ 1) × (in_set x of (unlisted e lists) ≡ 0) × (x ≡ e))

    kept_by : (x : ℕ) (of : ℕ → Bool) → times x (e ∷ []) ≡ 0 → Cases x of → in_set x of (unlisted e lists) ≡ in_set x of lists
    kept_by x of none (inl other) = other.1
    kept_by x of none (inr same) = absurd (omega (arith, none, same.0))

    lost_by : (x : ℕ) (of : ℕ → Bool) → 1 ≤ times x (e ∷ []) → Cases x of → in_set x of (unlisted e lists) ≡ 0
    lost_by x of some (inl other) = absurd (omega (arith, some, other.0))
    lost_by x of some (inr same) = same.1

    times_self : times e (e ∷ []) ≡ 1
    times_self = by_test e e (λ b. cond b 1 0 ≡ suc zero) (λ same. refl) (λ other. absurd (other refl))

    was_by : (x : ℕ) → Cases x any → times x (e ∷ []) ≤ in_set x any lists
    was_by x (inl other) = omega (arith, other.0)
    was_by x (inr same) = subst (λ y. times y (e ∷ []) ≤ in_set y any lists) (sym same.2) (omega (arith, times_self, listed_one e lists listed))

-- A turn of a set loses the rows of what it frees

module _ (before after : ListSet) (out : List ℕ) (loses : Loses before.lists after.lists out) (once : (e : ℕ) → times e (elements_of_set before) ≤ 1) where
  set_counted : (e : ℕ) → (times e (elements_of_set after) + times e before.free) + times e out ≡ times e (elements_of_set before) + times e after.free
  set_counted e =
      omega (arith, in_elements before e, in_elements after e, lost_counted before.lists after.lists out loses (once_listed before once) e)

  set_rows : (e : ℕ) (of : ℕ → Bool) → rows_of e of (after.lists.active ++ after.lists.inactive) ≡ cond (eqb (times e out) 0) (rows_of e of (before.lists.active ++ before.lists.inactive)) 0
  set_rows e of =
      in_rows after e of ∙ lost_rows before.lists after.lists out loses e of ∙ ap (λ n. cond (eqb (times e out) 0) n 0) (sym (in_rows before e of))

push_keeps : (e : ℕ) (set : ListSet) → is_listed e set.lists ≡ true → ((x : ℕ) → times x (elements_of_set set) ≤ 1) → (x : ℕ) → times x (elements_of_set (pushed_free e set)) ≡ times x (elements_of_set set)
push_keeps e set listed once x =
    let counted = set_counted set (pushed_free e set) (e ∷ []) (push_loses e set.lists listed) once x in
    omega (arith, counted, times_more x e set.free)

-- An own turn

own_shrink_loses : (shrink : Option ShrinkNote) (set : ListSet) → AreOnceIn set.lists → AllowsOwnShrink shrink set → Loses set.lists (shrunk_into_free shrink set).lists (freed_by shrink)
own_shrink_loses None set once allowed = loses_none set.lists
own_shrink_loses (Some note) set once allowed = shrink_loses own_scans own_target set.lists note.looks note.forced once allowed.2

own_shrink_free : (shrink : Option ShrinkNote) (set : ListSet) (e : ℕ) → times e (shrunk_into_free shrink set).free ≡ times e (freed_by shrink) + times e set.free
own_shrink_free None set e = omega arith
own_shrink_free (Some note) set e = omega (arith, times_append e (reverse (freed note.looks note.forced)) set.free, times_turned e (freed note.looks note.forced))

-- the head of a list goes to another
head_moves : (hash e : ℕ) (free : List ℕ) → times e (drop 1 free) + times e (elements_of (row_with hash (slice_get free 0))) ≡ times e free
head_moves hash e [] = refl
head_moves hash e (x ∷ free) = omega (arith, times_more e x free)

given_rows : (e : ℕ) (of : ℕ → Bool) (active given inactive : List Row) → rows_of e of (active ++ (given ++ inactive)) ≡ rows_of e of (active ++ inactive) + rows_of e of given
given_rows e of active given inactive =
    omega (arith, rows_append e of active (given ++ inactive), rows_append e of given inactive, rows_append e of active inactive)

module _ (hash : ℕ) (active inactive : _) (shrink : Option ShrinkNote) (got : Option ℕ) (set : ListSet) (once : (e : ℕ) → times e (elements_of_set set) ≤ 1) (allowed : AllowsOnOwn (own.Turn hash active inactive shrink got) set) where
  pub own_loses : Loses set.lists (shrunk_into_free shrink (rotated_set own_scans active inactive set)).lists (freed_by shrink)
  own_loses =
      let rotates = rotation_loses own_scans set.lists active inactive (once_listed set once) allowed.0 in
      let once_then = once_after set.lists (rotated own_scans set.lists active inactive) [] rotates (once_listed set once) in
      loses_both set.lists (rotated own_scans set.lists active inactive) _ [] (freed_by shrink) rotates (own_shrink_loses shrink (rotated_set own_scans active inactive set) once_then allowed.1)

  own_rows : (e : ℕ) (of : ℕ → Bool) → rows_of e of (listed_rows (in_own (own_after (own.Turn hash active inactive shrink got) set)))
      ≡ cond (eqb (times e (freed_by shrink)) 0) (rows_of e of (listed_rows (in_own set))) 0 + rows_of e of (row_with hash got)
  unfolding own_after
  own_rows e of =
      let after : ListSet = shrunk_into_free shrink (rotated_set own_scans active inactive set) in
      given_rows e of after.lists.active (row_with hash got) after.lists.inactive
      ∙ ap (λ n. n + rows_of e of (row_with hash got)) (set_rows set after (freed_by shrink) own_loses once e of)

  own_elements : (e : ℕ) → times e (elements_of_set (own_after (own.Turn hash active inactive shrink got) set)) ≡ times e (elements_of_set set)
  unfolding own_after
  own_elements e =
      let after : ListSet = shrunk_into_free shrink (rotated_set own_scans active inactive set) in
      let counted = set_counted set after (freed_by shrink) own_loses once e in
      let free = own_shrink_free shrink (rotated_set own_scans active inactive set) e in
      let at_end = in_elements (given_out hash got after) e in
      let at_first = in_elements after e in
      let rows = rows_append e any (row_with hash got) after.lists.inactive in
      let moved : times e (drop 1 after.free) + times e (elements_of (row_with hash got)) ≡ times e after.free =
      subst (λ (o : Option ℕ). times e (drop 1 after.free) + times e (elements_of (row_with hash o)) ≡ times e after.free) (sym allowed.2) (head_moves hash e after.free) in
      omega (arith, counted, free, at_end, at_first, rows, moved, rows_any e (row_with hash got))

-- A global turn

flush_step : (e : ℕ) (of : ℕ → Bool) (x : Flush) (b : Bool) (set_ones others all : List Flush) → rows_of e of (flushed_rows set_ones) + rows_of e of (flushed_rows others) ≡ rows_of e of (flushed_rows all)
    → rows_of e of (flushed_rows (cond b (x ∷ set_ones) set_ones)) + rows_of e of (flushed_rows (cond (not b) (x ∷ others) others)) ≡ rows_of e of (flushed_rows (x ∷ all))
flush_step e of x true set_ones others all rest =
    let row : Row = record { element = x.element; hash = x.hash } in
    omega (arith, rows_more e of row (flushed_rows set_ones), rows_more e of row (flushed_rows all), rest)
flush_step e of x false set_ones others all rest =
    let row : Row = record { element = x.element; hash = x.hash } in
    omega (arith, rows_more e of row (flushed_rows others), rows_more e of row (flushed_rows all), rest)

flush_parts : (e : ℕ) (of : ℕ → Bool) (flushed : List Flush) → rows_of e of (flushed_rows (filter (λ (f : Flush). f.bit) flushed)) + rows_of e of (flushed_rows (filter (λ (f : Flush). not f.bit) flushed)) ≡ rows_of e of (flushed_rows flushed)
flush_parts e of [] = refl
flush_parts e of (f ∷ flushed) = flush_step e of f f.bit (filter (λ (f : Flush). f.bit) flushed) (filter (λ (f : Flush). not f.bit) flushed) flushed (flush_parts e of flushed)

pub flush_named : (e : ℕ) (flushed : List Flush) → rows_of e any (flushed_rows flushed) ≡ times e (flushed_elements flushed)
flush_named e [] = refl
flush_named e (f ∷ flushed) = by_test f.element e (λ b. cond (b && true) (suc (rows_of e any (flushed_rows flushed))) (rows_of e any (flushed_rows flushed)) ≡ cond b (suc (times e (flushed_elements flushed))) (times e (flushed_elements flushed)))
    (λ same. ap suc (flush_named e flushed)) (λ other. flush_named e flushed)

pub flushed_in : (set : ListSet) (flushed : List Flush) (e : ℕ) (of : ℕ → Bool) → in_set e of (with_flushed flushed set).lists ≡ in_set e of set.lists + rows_of e of (flushed_rows flushed)
unfolding with_flushed
flushed_in set flushed e of =
    let set_ones : List Row = flushed_rows (filter (λ (f : Flush). f.bit) flushed) in
    let others : List Row = flushed_rows (filter (λ (f : Flush). not f.bit) flushed) in
    omega (arith, rows_append e of (reverse set_ones) set.lists.active, rows_append e of (reverse others) set.lists.inactive, rows_reverse e of set_ones, rows_reverse e of others, flush_parts e of flushed)

-- what isn't listed has no row
pub has_none : (e : ℕ) (rows : List Row) → has_row e rows ≡ false → rows_of e any rows ≡ 0
has_none e [] none = refl
has_none e (row ∷ rows) none =
    by_test row.element e (λ b. (b || has_row e rows) ≡ false → cond (b && true) (suc (rows_of e any rows)) (rows_of e any rows) ≡ zero) (λ same is. absurd cc) (λ other is. has_none e rows is) none

pub listed_none : (e : ℕ) (lists : Listed) → is_listed e lists ≡ false → in_set e any lists ≡ 0
listed_none e lists none =
    let parts = or_parts (has_row e lists.active) (has_row e lists.inactive) none in
    omega (arith, has_none e lists.active parts.0, has_none e lists.inactive parts.1)

flushed_outside : (set : ListSet) (flushed : List Flush) → AreFlushed set flushed → (e : ℕ) → (times e (flushed_elements flushed) ≤ 1) × (1 ≤ times e (flushed_elements flushed) → times e (elements_of_set set) ≡ 0)
flushed_outside set [] are e = (omega arith, λ some. absurd (omega (arith, some)))
flushed_outside set (f ∷ flushed) are e =
    let n : ℕ = times e (flushed_elements flushed) in
    let rest = flushed_outside set flushed are.2 e in
    by_test f.element e (λ b. (cond b (suc n) n ≤ 1) × (1 ≤ cond b (suc n) n → times e (elements_of_set set) ≡ 0))
    (λ same.
    let none : n ≡ 0 = subst (λ x. times x (flushed_elements flushed) ≡ 0) same are.1 in
    let not_listed : is_listed e set.lists ≡ false = subst (λ x. is_listed x set.lists ≡ false) same are.0.0 in
    let not_free : times e set.free ≡ 0 = subst (λ x. times x set.free ≡ 0) same are.0.1 in
    (omega (arith, none), λ some. omega (arith, in_elements set e, not_free, listed_none e set.lists not_listed)))
    (λ other. rest)

global_shrink_loses : (moved : ℕ) (shrink : Option ShrinkNote) (lists : Listed) → AreOnceIn lists → AllowsGlobalShrink moved shrink lists → Loses lists (shrunk_out shrink lists) (freed_by shrink)
global_shrink_loses moved None lists once allowed = loses_none lists
global_shrink_loses moved (Some note) lists once allowed = shrink_loses global_scans note.target lists note.looks note.forced once allowed.2

module _ (flushed : List Flush) (active inactive : _) (free : List ℕ) (shrink : Option ShrinkNote) (set : ListSet) (once : (e : ℕ) → times e (elements_of_set set) ≤ 1) (allowed : AllowsOnGlobal (global.Turn flushed active inactive free shrink) set) where
  once_flushed : AreOnceIn (with_flushed flushed set).lists
  once_flushed e =
      let outside = flushed_outside set flushed allowed.0 e in
      let whole = flushed_in set flushed e any in
      let named = flush_named e flushed in
      by outside.0 outside.1 whole named (cases_lt 0 (times e (flushed_elements flushed)))
    where
      by : times e (flushed_elements flushed) ≤ 1 → (1 ≤ times e (flushed_elements flushed) → times e (elements_of_set set) ≡ 0) → in_set e any (with_flushed flushed set).lists ≡ in_set e any set.lists + rows_of e any (flushed_rows flushed) → rows_of e any (flushed_rows flushed) ≡ times e (flushed_elements flushed) → (0 < times e (flushed_elements flushed)) ⊎ (times e (flushed_elements flushed) ≤ 0) → in_set e any (with_flushed flushed set).lists ≤ 1
      by most gone whole named (inl some) = omega (arith, most, gone some, whole, named, in_elements set e)
      by most gone whole named (inr none) = omega (arith, none, whole, named, in_elements set e, once e)

  global_loses : Loses (with_flushed flushed set).lists (shrunk_out shrink (flushed_rotated flushed active inactive set).lists) (freed_by shrink)
  global_loses =
      let lists : Listed = (with_flushed flushed set).lists in
      let rotates = rotation_loses global_scans lists active inactive once_flushed allowed.1 in
      let once_then = once_after lists (rotated global_scans lists active inactive) [] rotates once_flushed in
      loses_both lists (rotated global_scans lists active inactive) _ [] (freed_by shrink) rotates (global_shrink_loses _ shrink _ once_then allowed.3)

  global_rows : (e : ℕ) (of : ℕ → Bool) → rows_of e of (listed_rows (in_global (global_after (global.Turn flushed active inactive free shrink) set)))
      ≡ cond (eqb (times e (freed_by shrink)) 0) (rows_of e of (listed_rows (in_global set)) + rows_of e of (flushed_rows flushed)) 0
  unfolding global_after
  global_rows e of =
      let after : Listed = shrunk_out shrink (flushed_rotated flushed active inactive set).lists in
      rows_append e of after.active after.inactive ∙ lost_rows (with_flushed flushed set).lists after (freed_by shrink) global_loses e of
      ∙ ap (λ n. cond (eqb (times e (freed_by shrink)) 0) n 0) (flushed_in set flushed e of ∙ ap (λ n. n + rows_of e of (flushed_rows flushed)) (sym (in_rows set e of)))

  global_elements : (e : ℕ) → times e (elements_of_set (global_after (global.Turn flushed active inactive free shrink) set)) + times e (free ++ freed_by shrink)
      ≡ times e (elements_of_set set) + times e (flushed_elements flushed)
  unfolding global_after
  global_elements e =
      let after : ListSet = global_after (global.Turn flushed active inactive free shrink) set in
      let counted = lost_counted (with_flushed flushed set).lists after.lists (freed_by shrink) global_loses once_flushed e in
      let cut : times e set.free ≡ times e free + times e (drop global_target set.free) =
      ap (times e) (sym (take-append-drop global_target set.free)) ∙ times_append e (take global_target set.free) (drop global_target set.free) ∙ ap (λ (xs : List ℕ). times e xs + times e (drop global_target set.free)) (sym allowed.2) in
      omega (arith, in_elements after e, in_elements set e, counted, cut, flushed_in set flushed e any, flush_named e flushed, times_append e free (freed_by shrink))

-- Local lists

head_leaves : (e x : ℕ) (free : List ℕ) → IsHead e free → times x (drop 1 free) + times x (e ∷ []) ≡ times x free
head_leaves e x [] head = absurd head
head_leaves e x (top ∷ free) head = omega (arith, times_more x top free, ap (λ y. times x (y ∷ [])) head)

-- what a filter leaves was there
fewer : {A : Type 0} (name : A → ℕ) (p : A → Bool) (e : ℕ) (xs : List A) → times e (map name (filter p xs)) ≤ times e (map name xs)
fewer {A = A} name p e [] = omega arith
fewer {A = A} name p e (x ∷ xs) = step (p x) (filter p xs) (fewer name p e xs)
  where
    step : (b : Bool) (ys : List A) → times e (map name ys) ≤ times e (map name xs) → times e (map name (cond b (x ∷ ys) ys)) ≤ times e (map name (x ∷ xs))
    step true ys less = omega (arith, less, times_more e (name x) (map name ys), times_more e (name x) (map name xs))
    step false ys less = omega (arith, less, times_more e (name x) (map name xs))

-- a row that goes leaves the others
pending_out : (e x : ℕ) (of : ℕ → Bool) (pending : List Row) → rows_of x of (without_those (λ y. eqb y e) pending) ≡ cond (eqb (times x (e ∷ [])) 0) (rows_of x of pending) 0
pending_out e x of pending = by (one_out e x (rows_of x of pending) (rows_of x of (without_those (λ y. eqb y e) pending)) (rows_without x of (λ y. eqb y e) pending))
  where
    by : ((times x (e ∷ []) ≡ 0) × (rows_of x of (without_those (λ y. eqb y e) pending) ≡ rows_of x of pending)) ⊎ ((times x (e ∷ []) ≡ 1) × (rows_of x of (without_those (λ y. eqb y e) pending) ≡ 0) × (x ≡ e))
        → rows_of x of (without_those (λ y. eqb y e) pending) ≡ cond (eqb (times x (e ∷ [])) 0) (rows_of x of pending) 0
    by (inl other) = chosen (times x (e ∷ [])) (rows_of x of pending) _ (λ none. other.1) (λ some. absurd (omega (arith, some, other.0)))
    by (inr same) = chosen (times x (e ∷ [])) (rows_of x of pending) _ (λ none. absurd (omega (arith, none, same.0))) (λ some. same.1)

pending_less : (e x : ℕ) (pending : List Row) → 1 ≤ rows_of e any pending → rows_of x any pending ≤ 1 → rows_of x any (without_those (λ y. eqb y e) pending) + times x (e ∷ []) ≡ rows_of x any pending
pending_less e x pending there once = by (one_out e x (rows_of x any pending) (rows_of x any (without_those (λ y. eqb y e) pending)) (rows_without x any (λ y. eqb y e) pending))
  where
    by : ((times x (e ∷ []) ≡ 0) × (rows_of x any (without_those (λ y. eqb y e) pending) ≡ rows_of x any pending)) ⊎ ((times x (e ∷ []) ≡ 1) × (rows_of x any (without_those (λ y. eqb y e) pending) ≡ 0) × (x ≡ e))
        → rows_of x any (without_those (λ y. eqb y e) pending) + times x (e ∷ []) ≡ rows_of x any pending
    by (inl other) = omega (arith, other.0, other.1)
    by (inr same) = let here : 1 ≤ rows_of x any pending = subst (λ y. 1 ≤ rows_of y any pending) (sym same.2) there in omega (arith, same.0, same.1, here, once)

-- what a theft took was pending
freed_pending : (e : ℕ) (lists : LocalLists) (first : List Look) (second : List Try) → IsSearch lists first second → times e (freed first second) ≤ rows_of e any lists.pending + rows_of e any lists.pending
freed_pending e lists first second search =
    let looked = fewer (λ (look : Look). look.element) look_removed e first in
    let named : times e (map (λ (look : Look). look.element) first) ≡ rows_of e any (take (length first) (reverse lists.pending)) = ap (times e) search.sparing.from_tail ∙ sym (rows_any e (take (length first) (reverse lists.pending))) in
    let tried = fewer (λ (try : Try). try.element) try_removed e second in
    let cut = rows_cut e any (length first) (reverse lists.pending) in
    let turned = rows_reverse e any lists.pending in
    let parts_of = times_append e (map (λ (look : Look). look.element) (filter look_removed first)) (map (λ (try : Try). try.element) (filter try_removed second)) in
    omega (arith, looked, named, tried, cut, turned, parts_of, second_named (eqb (count_by look_removed first) 0) search.unsparing)
  where
    second_named : (b : Bool) → MatchBool b (AreUnsparing lists.pending second) (second ≡ []) → times e (map (λ (try : Try). try.element) second) ≤ rows_of e any lists.pending
    second_named true are =
        let rows : List Row = take (length second) (reverse lists.pending) in
        let named : times e (map (λ (try : Try). try.element) second) ≡ rows_of e any rows = ap (times e) are.from_tail ∙ sym (rows_any e rows) in
        omega (arith, named, rows_cut e any (length second) (reverse lists.pending), rows_reverse e any lists.pending)
    second_named false none = let empty : times e (map (λ (try : Try). try.element) second) ≡ 0 = ap (λ (tries : List Try). times e (map (λ (try : Try). try.element) tries)) none in omega (arith, empty)

pub stolen_there : (e : ℕ) (lists : LocalLists) (first : List Look) (second : List Try) → IsSearch lists first second → freed first second ≡ e ∷ [] → 1 ≤ rows_of e any lists.pending
stolen_there e lists first second search took =
    let some : times e (freed first second) ≡ 1 = ap (times e) took ∙ times_here e in
    omega (arith, some, freed_pending e lists first second search)
  where
    times_here : (e : ℕ) → times e (e ∷ []) ≡ 1
    times_here e = by_test e e (λ b. cond b 1 0 ≡ suc zero) (λ same. refl) (λ other. absurd (other refl))

pub in_local : (lists : LocalLists) (e : ℕ) → times e (elements_in (in_locals lists)) ≡ times e lists.free + rows_of e any lists.pending
in_local lists e = omega (arith, times_append e lists.free (elements_of lists.pending), rows_any e lists.pending)

abbrev KeepsLocal : LocalPart → LocalLists → Type 0
KeepsLocal part lists = (x : ℕ) → times x (elements_in (in_locals (local_after part lists))) + times x (taken (parts.Local part)) ≡ times x (elements_in (in_locals lists)) + times x (brought (parts.Local part))

module _ (shape : Shape) (lists : LocalLists) (once : IsOnce (in_locals lists)) where
  once_pending : (e : ℕ) → rows_of e any lists.pending ≤ 1
  once_pending e = omega (arith, once e, in_local lists e)

  local_elements : (part : LocalPart) → AllowsOnLocal shape part lists → KeepsLocal part lists
  unfolding local_after
  local_elements (local.Pop hash e) head x =
      omega (arith, in_local lists x, in_local (local_after (local.Pop hash e) lists) x, head_leaves e x lists.free head, rows_any x lists.pending, times_more x e (elements_of lists.pending), rows_any x (row_with hash (Some e) ++ lists.pending))
  local_elements (local.Refill hash flushed gained got) allowed x =
      let none : times x lists.free ≡ 0 = ap (times x) allowed.0 in
      let flushed_are : times x (visited_elements flushed) ≡ rows_of x any lists.pending = ap (times x) allowed.1 ∙ times_turned x (elements_of lists.pending) ∙ sym (rows_any x lists.pending) in
      let moved : times x (drop 1 (reverse gained)) + times x (elements_of (row_with hash got)) ≡ times x (reverse gained) =
      subst (λ (o : Option ℕ). times x (drop 1 (reverse gained)) + times x (elements_of (row_with hash o)) ≡ times x (reverse gained)) (sym allowed.2) (head_moves hash x (reverse gained)) in
      omega (arith, in_local lists x, in_local (local_after (local.Refill hash flushed gained got) lists) x, none, flushed_are, moved, times_turned x gained, rows_any x (row_with hash got))
  local_elements (local.Steal (Free e) first second) allowed x =
      omega (arith, in_local lists x, in_local (local_after (local.Steal (Free e) first second) lists) x, head_leaves e x lists.free allowed.0)
  local_elements (local.Steal (Pending e) first second) allowed x =
      omega (arith, in_local lists x, in_local (local_after (local.Steal (Pending e) first second) lists) x, pending_less e x lists.pending (stolen_there e lists first second allowed.0 allowed.1) (once_pending x))
  local_elements (local.Steal Nothing first second) allowed x = refl
  local_elements (local.Add hash e cursor) allowed x =
      omega (arith, in_local lists x, in_local (local_after (local.Add hash e cursor) lists) x, rows_any x lists.pending, times_more x e (elements_of lists.pending), rows_any x (row_with hash (Some e) ++ lists.pending))
  local_elements (local.Push e true) allowed x =
      omega (arith, in_local lists x, in_local (local_after (local.Push e true) lists) x, pending_less e x lists.pending (has_one e lists.pending allowed) (once_pending x), times_more x e lists.free)
  local_elements (local.Push e false) allowed x = refl

  local_rows : (part : LocalPart) → AllowsOnLocal shape part lists → (x : ℕ) (of : ℕ → Bool)
      → rows_of x of (local_after part lists).pending ≡ cond (eqb (times x (rows_gone (parts.Local part))) 0) (rows_of x of lists.pending + 0) 0 + rows_of x of (new_rows (parts.Local part))
  unfolding local_after
  local_rows (local.Pop hash e) allowed x of = omega (arith, rows_append x of (row_with hash (Some e)) lists.pending)
  local_rows (local.Refill hash flushed gained got) allowed x of =
      let flushed_are : times x (visited_elements flushed) ≡ times x (elements_of lists.pending) = ap (times x) allowed.1 ∙ times_turned x (elements_of lists.pending) in
      let gone : 0 ≡ cond (eqb (times x (visited_elements flushed)) 0) (rows_of x of lists.pending + 0) 0 =
      chosen (times x (visited_elements flushed)) (rows_of x of lists.pending + 0) 0 (λ none. omega (arith, none, flushed_are, rows_least x of lists.pending)) (λ some. refl) in
      omega (arith, gone)
  local_rows (local.Steal (Free e) first second) allowed x of = omega arith
  local_rows (local.Steal (Pending e) first second) allowed x of =
      let plain : rows_of x of lists.pending + 0 ≡ rows_of x of lists.pending = omega arith in
      pending_out e x of lists.pending ∙ ap (λ n. cond (eqb (times x (e ∷ [])) 0) n 0) (sym plain) ∙ omega arith
  local_rows (local.Steal Nothing first second) allowed x of = omega arith
  local_rows (local.Add hash e cursor) allowed x of = omega (arith, rows_append x of (row_with hash (Some e)) lists.pending)
  local_rows (local.Push e true) allowed x of =
      let plain : rows_of x of lists.pending + 0 ≡ rows_of x of lists.pending = omega arith in
      pending_out e x of lists.pending ∙ ap (λ n. cond (eqb (times x (e ∷ [])) 0) n 0) (sym plain) ∙ omega arith
  local_rows (local.Push e false) allowed x of = omega arith

-- All turns

pushed_shared : (e : ℕ) (set : ListSet) → IsTrue (is_listed e set.lists) → ((x : ℕ) → times x (elements_of_set set) ≤ 1) → (x : ℕ) → times x (elements_of_set (global_after (global.Push e) set)) + 0 ≡ times x (elements_of_set set) + 0
unfolding global_after
pushed_shared e set listed once x = omega (arith, push_keeps e set listed once x)

pushed_own : (e : ℕ) (set : ListSet) → IsTrue (is_listed e set.lists) → ((x : ℕ) → times x (elements_of_set set) ≤ 1) → (x : ℕ) → times x (elements_of_set (own_after (own.Push e) set)) + 0 ≡ times x (elements_of_set set) + 0
unfolding own_after
pushed_own e set listed once x = omega (arith, push_keeps e set listed once x)

pub keeps_elements : (shape : Shape) (cpu : ℕ) (part : Part) (content : Content) → Allows shape cpu part content → IsOnce content → KeepsElements shape cpu part content
keeps_elements shape cpu (parts.Bucket part) (in_bucket bodies) allowed once x = bucket_counts shape cpu bodies x part allowed
keeps_elements shape cpu (parts.Bucket part) (on_freelist stack) allowed once x = absurd allowed
keeps_elements shape cpu (parts.Bucket part) (in_locals lists) allowed once x = absurd allowed
keeps_elements shape cpu (parts.Bucket part) (in_global set) allowed once x = absurd allowed
keeps_elements shape cpu (parts.Bucket part) (in_own set) allowed once x = absurd allowed
keeps_elements shape cpu (parts.Free part) (in_bucket bodies) allowed once x = absurd allowed
keeps_elements shape cpu (parts.Free part) (on_freelist stack) allowed once x = freelist_counts part stack allowed x
keeps_elements shape cpu (parts.Free part) (in_locals lists) allowed once x = absurd allowed
keeps_elements shape cpu (parts.Free part) (in_global set) allowed once x = absurd allowed
keeps_elements shape cpu (parts.Free part) (in_own set) allowed once x = absurd allowed
keeps_elements shape cpu (parts.Local part) (in_bucket bodies) allowed once x = absurd allowed
keeps_elements shape cpu (parts.Local part) (on_freelist stack) allowed once x = absurd allowed
keeps_elements shape cpu (parts.Local part) (in_locals lists) allowed once x = local_elements shape lists once part allowed x
keeps_elements shape cpu (parts.Local part) (in_global set) allowed once x = absurd allowed
keeps_elements shape cpu (parts.Local part) (in_own set) allowed once x = absurd allowed
keeps_elements shape cpu (parts.Global part) (in_bucket bodies) allowed once x = absurd allowed
keeps_elements shape cpu (parts.Global part) (on_freelist stack) allowed once x = absurd allowed
keeps_elements shape cpu (parts.Global part) (in_locals lists) allowed once x = absurd allowed
keeps_elements shape cpu (parts.Global (global.Turn flushed active inactive free shrink)) (in_global set) allowed once x = global_elements flushed active inactive free shrink set once allowed x
keeps_elements shape cpu (parts.Global (global.Push e)) (in_global set) allowed once x = pushed_shared e set allowed once x
keeps_elements shape cpu (parts.Global part) (in_own set) allowed once x = absurd allowed
keeps_elements shape cpu (parts.Own part) (in_bucket bodies) allowed once x = absurd allowed
keeps_elements shape cpu (parts.Own part) (on_freelist stack) allowed once x = absurd allowed
keeps_elements shape cpu (parts.Own part) (in_locals lists) allowed once x = absurd allowed
keeps_elements shape cpu (parts.Own part) (in_global set) allowed once x = absurd allowed
keeps_elements shape cpu (parts.Own (own.Turn hash active inactive shrink got)) (in_own set) allowed once x = ap (λ n. n + 0) (own_elements hash active inactive shrink got set once allowed x)
keeps_elements shape cpu (parts.Own (own.Push e)) (in_own set) allowed once x = pushed_own e set allowed once x

-- rows that were there, with none brought or given
no_more : (n : ℕ) (gone rows after : ℕ) → after ≡ cond (eqb gone 0) rows 0 → after ≡ cond (eqb gone 0) (rows + 0) 0 + 0
no_more n gone rows after is = is ∙ ap (λ m. cond (eqb gone 0) m 0) (plain rows) ∙ omega arith
  where
    plain : (m : ℕ) → m ≡ m + 0
    plain m = omega arith

push_rows : (e : ℕ) (set : ListSet) → IsTrue (is_listed e set.lists) → ((x : ℕ) → times x (elements_of_set set) ≤ 1) → (x : ℕ) (of : ℕ → Bool)
    → rows_of x of ((pushed_free e set).lists.active ++ (pushed_free e set).lists.inactive) ≡ cond (eqb (times x (e ∷ [])) 0) (rows_of x of (set.lists.active ++ set.lists.inactive)) 0
push_rows e set listed once x of = set_rows set (pushed_free e set) (e ∷ []) (push_loses e set.lists listed) once x of

shared_push_rows : (e : ℕ) (set : ListSet) → IsTrue (is_listed e set.lists) → ((x : ℕ) → times x (elements_of_set set) ≤ 1) → (x : ℕ) (of : ℕ → Bool)
    → rows_of x of (listed_rows (in_global (global_after (global.Push e) set))) ≡ cond (eqb (times x (e ∷ [])) 0) (rows_of x of (listed_rows (in_global set)) + 0) 0 + 0
unfolding global_after
shared_push_rows e set listed once x of = no_more 0 (times x (e ∷ [])) (rows_of x of (set.lists.active ++ set.lists.inactive)) _ (push_rows e set listed once x of)

own_push_rows : (e : ℕ) (set : ListSet) → IsTrue (is_listed e set.lists) → ((x : ℕ) → times x (elements_of_set set) ≤ 1) → (x : ℕ) (of : ℕ → Bool)
    → rows_of x of (listed_rows (in_own (own_after (own.Push e) set))) ≡ cond (eqb (times x (e ∷ [])) 0) (rows_of x of (listed_rows (in_own set)) + 0) 0 + 0
unfolding own_after
own_push_rows e set listed once x of = no_more 0 (times x (e ∷ [])) (rows_of x of (set.lists.active ++ set.lists.inactive)) _ (push_rows e set listed once x of)

with_none : (gone rows given : ℕ) → cond (eqb gone 0) rows 0 + given ≡ cond (eqb gone 0) (rows + 0) 0 + given
with_none gone rows given = ap (λ m. cond (eqb gone 0) m 0 + given) (plain rows)
  where
    plain : (m : ℕ) → m ≡ m + 0
    plain m = omega arith

pub keeps_rows : (shape : Shape) (cpu : ℕ) (part : Part) (content : Content) → Allows shape cpu part content → IsOnce content → KeepsRows shape cpu part content
keeps_rows shape cpu (parts.Bucket part) (in_bucket bodies) allowed once e of = refl
keeps_rows shape cpu (parts.Bucket part) (on_freelist stack) allowed once e of = absurd allowed
keeps_rows shape cpu (parts.Bucket part) (in_locals lists) allowed once e of = absurd allowed
keeps_rows shape cpu (parts.Bucket part) (in_global set) allowed once e of = absurd allowed
keeps_rows shape cpu (parts.Bucket part) (in_own set) allowed once e of = absurd allowed
keeps_rows shape cpu (parts.Free part) (in_bucket bodies) allowed once e of = absurd allowed
keeps_rows shape cpu (parts.Free part) (on_freelist stack) allowed once e of = refl
keeps_rows shape cpu (parts.Free part) (in_locals lists) allowed once e of = absurd allowed
keeps_rows shape cpu (parts.Free part) (in_global set) allowed once e of = absurd allowed
keeps_rows shape cpu (parts.Free part) (in_own set) allowed once e of = absurd allowed
keeps_rows shape cpu (parts.Local part) (in_bucket bodies) allowed once e of = absurd allowed
keeps_rows shape cpu (parts.Local part) (on_freelist stack) allowed once e of = absurd allowed
keeps_rows shape cpu (parts.Local part) (in_locals lists) allowed once e of = local_rows shape lists once part allowed e of
keeps_rows shape cpu (parts.Local part) (in_global set) allowed once e of = absurd allowed
keeps_rows shape cpu (parts.Local part) (in_own set) allowed once e of = absurd allowed
keeps_rows shape cpu (parts.Global part) (in_bucket bodies) allowed once e of = absurd allowed
keeps_rows shape cpu (parts.Global part) (on_freelist stack) allowed once e of = absurd allowed
keeps_rows shape cpu (parts.Global part) (in_locals lists) allowed once e of = absurd allowed
keeps_rows shape cpu (parts.Global (global.Turn flushed active inactive free shrink)) (in_global set) allowed once e of =
    omega (arith, global_rows flushed active inactive free shrink set once allowed e of)
keeps_rows shape cpu (parts.Global (global.Push x)) (in_global set) allowed once e of = shared_push_rows x set allowed once e of
keeps_rows shape cpu (parts.Global part) (in_own set) allowed once e of = absurd allowed
keeps_rows shape cpu (parts.Own part) (in_bucket bodies) allowed once e of = absurd allowed
keeps_rows shape cpu (parts.Own part) (on_freelist stack) allowed once e of = absurd allowed
keeps_rows shape cpu (parts.Own part) (in_locals lists) allowed once e of = absurd allowed
keeps_rows shape cpu (parts.Own part) (in_global set) allowed once e of = absurd allowed
keeps_rows shape cpu (parts.Own (own.Turn hash active inactive shrink got)) (in_own set) allowed once e of =
    own_rows hash active inactive shrink got set once allowed e of ∙ with_none (times e (freed_by shrink)) (rows_of e of (listed_rows (in_own set))) (rows_of e of (row_with hash got))
keeps_rows shape cpu (parts.Own (own.Push x)) (in_own set) allowed once e of = own_push_rows x set allowed once e of

-- each element lies there once at most after a turn too, where none is brought that was there and isn't taken by the turn
pub once_stays : (shape : Shape) (cpu : ℕ) (part : Part) (content : Content) → Allows shape cpu part content → IsOnce content
    → ((e : ℕ) → times e (elements_in content) + times e (brought part) ≤ 1 + times e (taken part)) → IsOnce (content_after shape cpu part content)
once_stays shape cpu part content allowed once few e = omega (arith, keeps_elements shape cpu part content allowed once e, few e)
