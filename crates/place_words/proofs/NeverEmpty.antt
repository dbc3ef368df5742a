-- A list set that isn't empty stays so under a rotation, and a shrink of it frees an element. So a turn of such a set in serial
-- order gives one, and so does a theft from local lists that aren't empty.
use Rattle.std.proofs.Common.{◌≡◌, ◌≢◌, ◌⊎◌, ℕ, zero, suc, ◌+◌, ◌-◌, ◌<◌, ◌≤◌, Bool, true, false, not, ◌&&◌, ◌||◌, cond, eqb, ltb, List, [], ◌∷◌, ◌++◌, length, take, drop, reverse, map, refl, ap, sym, ◌∙◌, subst, arith, inl, inr}
use Rattle.std.specs.Prelude.{None, Some, count_by, filter, min, slice_get}
use Rattle.std.specs.List.{list_any}
use Rattle.std.proofs.lemmas.Bool.{cases_lt, both_ways, eqb-true, eqb-false, lt-ltb}
use Rattle.std.proofs.lemmas.List.{length-append, length-reverse, length-drop, length-take, length-map}
use Rattle.std.proofs.lemmas.List.Filters.{length-filter_both}
use Rattle.std.proofs.lemmas.List.Sums.{sum_by-cons}
use Rattle.std.proofs.lemmas.Option.{none-some}
use Rattle.map_types.specs.declared.row.Row.{Row}
use Rattle.map_types.specs.ElementLists.{times}
use Rattle.map_types.specs.Listed.{Listed, elements_of, those, without_those}
use Rattle.place_words.specs.declared.bucket_part.Seen.TheVariants.{Removed}
use Rattle.place_words.specs.declared.visits.Flush.{Flush}
use Rattle.place_words.specs.declared.visits.Look.{Look}
use Rattle.place_words.specs.declared.visits.ShrinkNote.{ShrinkNote}
use Rattle.place_words.specs.declared.visits.Try.{Try}
use Rattle.place_words.specs.declared.visits.Visit.{Visit}
use Rattle.place_words.specs.Choices.{without_bits, looks_over, forced_over, forced_after, shrink_of, active_visits, inactive_visits, bits_rotated, own_shrink, own_turn, own_got, flush_of, global_shrink, global_turn, refill_of, refill_got, sparing_over, stolen_of, steal_of, steal_got}
use Rattle.place_words.specs.Globals.{global_scans, global_target, with_flushed, flushed_rotated}
use Rattle.place_words.specs.Locals.{LocalLists, last_of}
use Rattle.place_words.specs.Rotation.{was_set, visited_elements, visits_of, active_visited, active_rotated, inactive_visited, inactive_rotated, rotated}
use Rattle.place_words.specs.Sets.{ListSet, own_scans, own_target, rotated_set, shrunk_into_free}
use Rattle.place_words.specs.Shrinking.{look_removed, try_removed, found_set, taken_off, after_looks, forced_rows, freed}
use Rattle.place_words.specs.Takings.{freed_by}
use Rattle.place_words.proofs.CostLemmas.{freed_count}
use Rattle.map_types.proofs.RowLemmas.{by_test}

-- how many rows are listed, and how many elements a set and local lists have
abbrev pub row_count : Listed → ℕ
row_count lists = length lists.active + length lists.inactive

abbrev pub set_count : ListSet → ℕ
set_count set = length set.free + row_count set.lists

abbrev pub local_count : LocalLists → ℕ
local_count lists = length lists.free + length lists.pending

-- Rows that are told by marks

-- what is marked is among the marked ones
marked_there : {X : Type 0} (element : X → ℕ) (mark : X → Bool) (xs : List X) (e : ℕ) → list_any (λ x. eqb (element x) e && mark x) xs ≡ true → 1 ≤ times e (map element xs)
marked_there element mark [] e is = absurd (both_ways false refl is)
marked_there element mark (x ∷ xs) e is =
    by_test (element x) e (λ b. ((b && mark x) || list_any (λ y. eqb (element y) e && mark y) xs) ≡ true → 1 ≤ cond b (suc (times e (map element xs))) (times e (map element xs)))
    (λ same now. omega arith)
    (λ other now. marked_there element mark xs e now)
    is

those_some : (p : ℕ → Bool) (e : ℕ) (rows : List Row) → p e ≡ true → 1 ≤ times e (elements_of rows) → 1 ≤ length (those p rows)
those_some p e [] is there = absurd (omega (arith, there))
those_some p e (row ∷ rows) is there =
    by_test row.element e (λ b. 1 ≤ cond b (suc (times e (elements_of rows))) (times e (elements_of rows)) → 1 ≤ length (cond (p row.element) (row ∷ those p rows) (those p rows)))
    (λ same some. subst (λ (b : Bool). 1 ≤ length (cond b (row ∷ those p rows) (those p rows))) (sym (ap p same ∙ is)) (omega arith))
    (λ other some. either (p row.element) (those_some p e rows is some))
    there
  where
    either : (b : Bool) → 1 ≤ length (those p rows) → 1 ≤ length (cond b (row ∷ those p rows) (those p rows))
    either true some = omega arith
    either false some = some

-- rows go to another list or stay, and none is lost
some_row : (p q : ℕ → Bool) (rows visited : List Row) → 1 ≤ length rows → ((e : ℕ) → p e ≡ true → (q e ≡ true) × (1 ≤ times e (elements_of visited)))
    → 1 ≤ length (those q visited) + length (without_those p rows)
some_row p q [] visited some moved = absurd (omega (arith, some))
some_row p q (row ∷ rows) visited some moved = by (p row.element) refl
  where
    by : (b : Bool) → p row.element ≡ b → 1 ≤ length (those q visited) + length (cond (not b) (row ∷ without_those p rows) (without_those p rows))
    by true goes = let there = moved row.element goes in omega (arith, those_some q row.element visited there.0 there.1)
    by false stays = omega arith

-- active gets some, or inactive was empty
grows : (active inactive all turned moved kept : ℕ) → 1 ≤ active + inactive → all ≡ turned + active → turned ≡ moved → (1 ≤ inactive → 1 ≤ moved + kept) → 1 ≤ all + kept
grows active inactive all turned moved kept some joined same rest = by (cases_lt 0 inactive)
  where
    by : (0 < inactive) ⊎ (inactive ≤ 0) → 1 ≤ all + kept
    by (inl there) = omega (arith, joined, same, rest there)
    by (inr gone) = omega (arith, joined, some, gone)

-- A rotation

visits_name : (bits : ℕ → Bool) (rows : List Row) → visited_elements (visits_of bits rows) ≡ elements_of rows
visits_name bits [] = refl
visits_name bits (row ∷ rows) = ap (λ (es : List ℕ). row.element ∷ es) (visits_name bits rows)

few_where : (b : Bool) (scans : ℕ) (rows : List Row) → length (cond b (take scans rows) []) ≤ length rows
few_where true scans rows = omega (arith, length-take scans rows)
few_where false scans rows = omega arith

few_visited : (scans : ℕ) (set : Listed) → length (active_visited scans set) ≤ length set.active
unfolding active_visited
few_visited scans set = omega (arith, few_where (ltb (length set.inactive) (length set.active)) scans (reverse set.active), length-reverse set.active)

active_counted : (scans : ℕ) (set : Listed) (visits : List Visit) → row_count (active_rotated scans set visits) ≡ row_count set
unfolding active_rotated
active_counted scans set visits =
    let visited : List Row = active_visited scans set in
    let goes : List Row = those (was_set visits) visited in
    let stays : List Row = without_those (was_set visits) visited in
    let left : List Row = drop (length visited) (reverse set.active) in
    let apart : length goes + length stays ≡ length visited =
    length-filter_both (λ (row : Row). was_set visits row.element) (λ (row : Row). not (was_set visits row.element)) (λ row. refl) visited in
    omega (arith, apart, length-append (reverse goes) (reverse left), length-append (reverse stays) set.inactive, length-reverse goes, length-reverse left, length-reverse stays, length-drop (length visited) (reverse set.active), length-reverse set.active, few_visited scans set)

inactive_some : (scans : ℕ) (set : Listed) (bits : ℕ → Bool) → 1 ≤ row_count set → 1 ≤ row_count (inactive_rotated scans set (visits_of bits (inactive_visited scans set)))
unfolding inactive_rotated
inactive_some scans set bits some =
    let visited : List Row = inactive_visited scans set in
    let set_there : ℕ → Bool = was_set (visits_of bits visited) in
    let moved : (e : ℕ) → set_there e ≡ true → (set_there e ≡ true) × (1 ≤ times e (elements_of visited)) =
    λ e is. (is, subst (λ (es : List ℕ). 1 ≤ times e es) (visits_name bits visited) (marked_there (λ (visit : Visit). visit.element) (λ (visit : Visit). visit.bit) (visits_of bits visited) e is)) in
    let joined = length-append (reverse (those set_there visited)) set.active in
    let turned = length-reverse (those set_there visited) in
    grows (length set.active) (length set.inactive) _ _ _ (length (without_those set_there set.inactive)) some joined turned (λ there. some_row set_there set_there set.inactive visited there moved)

pub rotated_some : (scans : ℕ) (bits : ℕ → Bool) (set : Listed) → 1 ≤ row_count set → 1 ≤ row_count (rotated scans set (active_visits scans bits set) (inactive_visits scans bits set))
unfolding rotated
rotated_some scans bits set some =
    inactive_some scans (active_rotated scans set (active_visits scans bits set)) (without_bits (visited_elements (active_visits scans bits set)) bits)
    (omega (arith, active_counted scans set (active_visits scans bits set), some))

-- A shrink

-- the looks are at the rows from the tail
look_names : (bit : Bool) (row : Row) (rows : List Row) (set_rest unset_rest : List Look)
    → map (λ (look : Look). look.element) set_rest ≡ elements_of (take (length set_rest) rows) → map (λ (look : Look). look.element) unset_rest ≡ elements_of (take (length unset_rest) rows)
    → let looks : List Look = cond bit ((record { element = row.element; bit = true; probed = None }) ∷ set_rest) ((record { element = row.element; bit = false; probed = Some Removed }) ∷ unset_rest) in
    map (λ (look : Look). look.element) looks ≡ elements_of (take (length looks) (row ∷ rows))
look_names true row rows set_rest unset_rest after_set after_unset = ap (λ (es : List ℕ). row.element ∷ es) after_set
look_names false row rows set_rest unset_rest after_set after_unset = ap (λ (es : List ℕ). row.element ∷ es) after_unset

looks_name : (bits : ℕ → Bool) (scans target : ℕ) (rows : List Row) → map (λ (look : Look). look.element) (looks_over bits scans target rows) ≡ elements_of (take (length (looks_over bits scans target rows)) rows)
looks_name bits scans target [] = refl
looks_name bits zero target (row ∷ rows) = refl
looks_name bits (suc scans) zero (row ∷ rows) = refl
looks_name bits (suc scans) (suc target) (row ∷ rows) =
    look_names (bits row.element) row rows _ _ (looks_name bits scans (suc target) rows) (looks_name bits scans target rows)

-- where no look removed anything, what left was found set
taken_is_set : (looks : List Look) (e : ℕ) → count_by look_removed looks ≡ 0 → taken_off looks e ≡ true → found_set looks e ≡ true
taken_is_set [] e none is = is
taken_is_set (look ∷ looks) e none is = by (look_removed look) (eqb look.element e) look.bit (sum_by-cons (λ (x : Look). cond (look_removed x) 1 0) look looks) (taken_is_set looks e) is
  where
    by : (gone same bit : Bool) → count_by look_removed (look ∷ looks) ≡ cond gone 1 0 + count_by look_removed looks → (count_by look_removed looks ≡ 0 → taken_off looks e ≡ true → found_set looks e ≡ true)
        → ((same && (bit || gone)) || taken_off looks e) ≡ true → ((same && bit) || found_set looks e) ≡ true
    by true same bit whole rest now = absurd (omega (arith, none, whole))
    by false true true whole rest now = refl
    by false true false whole rest now = rest (omega (arith, none, whole)) now
    by false false bit whole rest now = rest (omega (arith, none, whole)) now

looked_some : (bits : ℕ → Bool) (scans target : ℕ) (lists : Listed) → let looks : List Look = looks_over bits scans target (reverse lists.inactive) in
    count_by look_removed looks ≡ 0 → 1 ≤ row_count lists → 1 ≤ row_count (after_looks lists looks)
unfolding after_looks
looked_some bits scans target lists none some =
    let looks : List Look = looks_over bits scans target (reverse lists.inactive) in
    let visited : List Row = take (length looks) (reverse lists.inactive) in
    let moved : (e : ℕ) → taken_off looks e ≡ true → (found_set looks e ≡ true) × (1 ≤ times e (elements_of visited)) = λ e is.
    let found : found_set looks e ≡ true = taken_is_set looks e none is in
    (found, subst (λ (es : List ℕ). 1 ≤ times e es) (looks_name bits scans target (reverse lists.inactive)) (marked_there (λ (look : Look). look.element) (λ (look : Look). look.bit) looks e found)) in
    grows (length lists.active) (length lists.inactive) _ _ _ (length (without_those (taken_off looks) lists.inactive)) some
    (length-append (reverse (those (found_set looks) visited)) lists.active) (length-reverse (those (found_set looks) visited)) (λ there. some_row (taken_off looks) (found_set looks) lists.inactive visited there moved)

forced_there : (lists : Listed) → 1 ≤ row_count lists → 1 ≤ length (forced_rows lists)
forced_there lists some = by (eqb (length lists.inactive) 0) refl
  where
    by : (b : Bool) → eqb (length lists.inactive) 0 ≡ b → 1 ≤ length (cond b lists.active lists.inactive)
    by true is = omega (arith, some, eqb-true (length lists.inactive) 0 is)
    by false is = let other : length lists.inactive ≢ 0 = eqb-false (length lists.inactive) 0 is in omega (arith, other)

forced_one : (rows : List Row) → 1 ≤ length rows → 1 ≤ count_by try_removed (forced_over rows)
forced_one [] some = absurd (omega (arith, some))
forced_one (row ∷ rows) some = omega arith

-- what is forced where the looks removed nothing
forced_count : (looks : List Look) (rows : List Row) → (count_by look_removed looks ≡ 0 → 1 ≤ length rows) → 1 ≤ count_by look_removed looks + count_by try_removed (forced_after looks rows)
forced_count looks rows there = by (eqb (count_by look_removed looks) 0) refl
  where
    by : (b : Bool) → eqb (count_by look_removed looks) 0 ≡ b → 1 ≤ count_by look_removed looks + count_by try_removed (cond b (forced_over rows) [])
    by true is =
        let none : count_by look_removed looks ≡ 0 = eqb-true (count_by look_removed looks) 0 is in
        let turned : 1 ≤ count_by try_removed (forced_over rows) = forced_one rows (there none) in
        omega (arith, turned)
    by false is = let other : count_by look_removed looks ≢ 0 = eqb-false (count_by look_removed looks) 0 is in omega (arith, other)

pub shrink_frees : (scans target : ℕ) (bits : ℕ → Bool) (lists : Listed) → 1 ≤ row_count lists → 1 ≤ length (freed_by (Some (shrink_of scans target bits lists)))
unfolding shrink_of
shrink_frees scans target bits lists some =
    let looks : List Look = looks_over bits scans target (reverse lists.inactive) in
    let rows : List Row = forced_rows (after_looks lists looks) in
    omega (
      arith,
      freed_count looks (forced_after looks (reverse rows)),
      forced_count looks (reverse rows) (λ none. omega (arith, length-reverse rows, forced_there (after_looks lists looks) (looked_some bits scans target lists none some))),
    )

-- What a turn gives

first_some : (xs : List ℕ) → 1 ≤ length xs → slice_get xs 0 ≢ None
first_some [] some is = absurd (omega (arith, some))
first_some (x ∷ xs) some is = absurd (none-some x (sym is))

own_free : (bits : ℕ → Bool) (set : ListSet) → 1 ≤ set_count set → 1 ≤ length (shrunk_into_free (own_shrink bits set) set).free
own_free bits set some = by (eqb (length set.free) 0) refl
  where
    by : (b : Bool) → eqb (length set.free) 0 ≡ b → 1 ≤ length (shrunk_into_free (cond b (Some (shrink_of own_scans own_target bits set.lists)) None) set).free
    by true is =
        let note : ShrinkNote = shrink_of own_scans own_target bits set.lists in
        let out : List ℕ = freed note.looks note.forced in
        let frees : 1 ≤ length out = shrink_frees own_scans own_target bits set.lists (omega (arith, some, eqb-true (length set.free) 0 is)) in
        omega (arith, frees, length-reverse out, length-append (reverse out) set.free)
    by false is = let other : length set.free ≢ 0 = eqb-false (length set.free) 0 is in omega (arith, other)

pub own_gives : (key_hash : ℕ) (bits : ℕ → Bool) (set : ListSet) → 1 ≤ set_count set → own_got (own_turn key_hash bits set) ≢ None
unfolding own_turn
own_gives key_hash bits set some =
    let active : List Visit = active_visits own_scans bits set.lists in
    let inactive : List Visit = inactive_visits own_scans bits set.lists in
    let after : ListSet = rotated_set own_scans active inactive set in
    let there : 1 ≤ set_count after = by (cases_lt 0 (length set.free)) (rotated_some own_scans bits set.lists) in
    first_some (shrunk_into_free (own_shrink (bits_rotated own_scans bits set.lists) after) after).free (own_free (bits_rotated own_scans bits set.lists) after there)
  where
    by : {n : ℕ} → (0 < length set.free) ⊎ (length set.free ≤ 0) → (1 ≤ row_count set.lists → 1 ≤ n) → 1 ≤ length set.free + n
    by (inl free) rest = omega (arith, free)
    by (inr gone) rest = omega (arith, rest (omega (arith, some, gone)))

last_some : (xs : List ℕ) → 1 ≤ length xs → last_of xs ≢ None
last_some xs some is = first_some (reverse xs) (omega (arith, some, length-reverse xs)) is

flushed_count : (flushed : List Flush) (set : ListSet) → row_count (with_flushed flushed set).lists ≡ length flushed + row_count set.lists
unfolding with_flushed
flushed_count flushed set =
    let ones : List Flush = filter (λ (flush : Flush). flush.bit) flushed in
    let others : List Flush = filter (λ (flush : Flush). not flush.bit) flushed in
    let ones_rows : List Row = map Rattle.place_words.specs.Globals.flush_row ones in
    let other_rows : List Row = map Rattle.place_words.specs.Globals.flush_row others in
    let apart : length ones + length others ≡ length flushed = length-filter_both (λ (flush : Flush). flush.bit) (λ (flush : Flush). not flush.bit) (λ flush. refl) flushed in
    omega (
      arith,
      apart,
      length-append (reverse ones_rows) set.lists.active,
      length-append (reverse other_rows) set.lists.inactive,
      length-reverse ones_rows,
      length-reverse other_rows,
      length-map ones Rattle.place_words.specs.Globals.flush_row,
      length-map others Rattle.place_words.specs.Globals.flush_row,
    )

global_frees : (free : List ℕ) (bits : ℕ → Bool) (lists : Listed) → 1 ≤ length free + row_count lists → 1 ≤ length free + length (freed_by (global_shrink (length free) bits lists))
global_frees free bits lists some = by (cases_lt 0 (length free))
  where
    by : (0 < length free) ⊎ (length free ≤ 0) → 1 ≤ length free + length (freed_by (global_shrink (length free) bits lists))
    by (inl there) = omega (arith, there)
    by (inr gone) =
        let less : ltb (length free) global_target ≡ true = lt-ltb (length free) global_target (omega (arith, gone)) in
        let note : ShrinkNote = shrink_of global_scans (global_target - length free) bits lists in
        let frees : 1 ≤ length (freed_by (Some note)) = shrink_frees global_scans (global_target - length free) bits lists (omega (arith, some, gone)) in
        let all : 1 ≤ length (freed_by (cond (ltb (length free) global_target) (Some note) None)) = subst (λ (b : Bool). 1 ≤ length (freed_by (cond b (Some note) None))) (sym less) frees in
        omega (arith, all)

pub refill_gives : (key_hash : ℕ) (bits : ℕ → Bool) (pending : List Row) (set : ListSet) → 1 ≤ length pending + set_count set → refill_got (refill_of key_hash (global_turn bits pending set)) ≢ None
unfolding global_turn
refill_gives key_hash bits pending set some =
    let flushed : List Flush = map (flush_of bits) (reverse pending) in
    let now : Listed = (with_flushed flushed set).lists in
    let left : ℕ → Bool = without_bits (elements_of pending) bits in
    let free : List ℕ = take global_target set.free in
    let active : List Visit = active_visits global_scans left now in
    let inactive : List Visit = inactive_visits global_scans left now in
    let lists : Listed = (flushed_rotated flushed active inactive set).lists in
    let counted : row_count now ≡ length pending + row_count set.lists = flushed_count flushed set ∙ ap (λ n. n + row_count set.lists) (length-map (reverse pending) (flush_of bits) ∙ length-reverse pending) in
    let there : 1 ≤ length free + row_count lists = by (cases_lt 0 (length set.free)) (length-take global_target set.free) counted (rotated_some global_scans left now) in
    let all : List ℕ = free ++ freed_by (global_shrink (length free) (bits_rotated global_scans left now) lists) in
    last_some all (omega (arith, length-append free (freed_by (global_shrink (length free) (bits_rotated global_scans left now) lists)), global_frees free (bits_rotated global_scans left now) lists there))
  where
    by : {f rows n : ℕ} → (0 < length set.free) ⊎ (length set.free ≤ 0) → f ≡ min global_target (length set.free) → rows ≡ length pending + row_count set.lists → (1 ≤ rows → 1 ≤ n) → 1 ≤ f + n
    by (inl there) taken counted rest = omega (arith, there, taken)
    by (inr gone) taken counted rest = omega (arith, rest (omega (arith, some, gone, counted)))

stolen_some : (es : List ℕ) → 1 ≤ length es → Rattle.place_words.specs.Takings.stolen_element (stolen_of es) ≢ None
stolen_some [] some is = absurd (omega (arith, some))
stolen_some (e ∷ es) some is = absurd (none-some e (sym is))

pub steal_gives : (bits : ℕ → Bool) (free : List ℕ) (pending : List Row) → 1 ≤ length free + length pending → steal_got (steal_of bits free pending) ≢ None
steal_gives bits (e ∷ free) pending some is = absurd (none-some e (sym is))
steal_gives bits [] pending some is =
    let first : List Look = sparing_over bits (reverse pending) in
    let second : List Try = forced_after first (reverse pending) in
    stolen_some (freed first second) (omega (arith, freed_count first second, forced_count first (reverse pending) (λ none. omega (arith, some, length-reverse pending)))) is
