-- What a rotation, and a shrink into an empty free list, make of a set, beside what the probes settled.
use Rattle.std.proofs.Common.{◌≡◌, ◌≢◌, ℕ, ◌<◌, ◌≤◌, ◌+◌, ◌-◌, ◌^◌, cond, true, false, Bool, List, [], ◌∷◌, ◌++◌, map, length, sym, refl, ap, ◌∙◌, subst, Option, Some, None, append_assoc, arith}
use Rattle.std.specs.Prelude.{reverse, filter, option_map, unwrap_or, All, IsPermutation, is_some, suc}
use Rattle.std.specs.List.{cons_option, flat_map}
use Rattle.std.proofs.lemmas.List.{reverse-append, map-append, length-append}
use Rattle.std.proofs.lemmas.List.Elements.{filter-append, recursion_from_All, All-nil, All-cons, All-append, All-weaker}
use Rattle.std.proofs.lemmas.List.Sorted.{All-permutation, IsPermutation-reverse, length_permutation}
use Rattle.map_types.specs.declared.attr.Shape.{Shape}
use Rattle.map_types.specs.declared.row.Row.{Row}
use Rattle.map_types.specs.ElementLists.{times, without, IsIn}
use Rattle.map_types.specs.Listed.{Listed, elements_of}
use Rattle.map_types.specs.Stored.{Stored, IsSized}
use Rattle.map_types.proofs.RowLemmas.{times_append, by_test}
use Rattle.percpu_values.specs.BodyList.{BodyList}
use Rattle.place_words.specs.declared.bucket_part.Seen.{Seen}
use Rattle.place_words.specs.declared.bucket_part.Seen.TheVariants.{Removed, Held}
use Rattle.place_words.specs.declared.visits.Look.{Look}
use Rattle.place_words.specs.declared.visits.ShrinkNote.{ShrinkNote}
use Rattle.place_words.specs.declared.visits.Try.{Try}
use Rattle.place_words.specs.declared.visits.Visit.{Visit}
use Rattle.place_words.specs.Bodies.{numbers}
use Rattle.place_words.specs.Histories.{look_visit}
use Rattle.place_words.specs.Sets.{own_scans, own_target, rotated_set, shrunk_into_free}
use Rattle.place_words.specs.Shrinking.{IsShrink, is_removed, look_removed, try_removed, freed, shrunk}
use Rattle.place_words.specs.Takings.{look_probes as look_tries, walk_probes, stored_hash}
use Rattle.place_words.specs.declared.step.Lists.{Lists}
use Rattle.place_words.specs.State.{rows}
use Rattle.place_words.proofs.ElementLemmas.{times_cons_same, times_without_same, times_without_other}
use Rattle.place_table.specs.Contents.{set_told, lists_of_set, FitsSet}
use Rattle.place_table.proofs.Entries.{append_nil}
use Rattle.place_table.proofs.Worlds.{some_is, none_some}
use Rattle.row_list.specs.RowWords.{is_of, row_of}
use Rattle.row_list.proofs.ElementLemmas.{times_reverse}
use Rattle.row_list.proofs.RowLemmas.{elements_append, room_for, row_of_split}
use Rattle.lru_lists.specs.declared.bits.BitCall.{BitCall}
use Rattle.lru_lists.specs.declared.bits.BitCall.TheVariants as calls
use Rattle.lru_lists.specs.declared.bits.ProbeCall.{ProbeCall}
use Rattle.lru_lists.specs.declared.notes.RotateNotes.{RotateNotes}
use Rattle.lru_lists.specs.declared.notes.ShrinkNotes.{ShrinkNotes}
use Rattle.lru_lists.specs.Sets.{SetView, IsSet, IsListed, listed, row_on, times_listed, with_free}
use Rattle.lru_lists.proofs.NoteLemmas.{noted_none}
use Rattle.lru_lists.proofs.SetLemmas.{listed_present, its_row}
use Rattle.lru_rotate.specs.Rotating.{Rotation, cleared as cleared_visits}
use Rattle.lru_rotate.proofs.RowsStay.{times_permuted}
use Rattle.lru_shrink.specs.Asking.{Questions}
use Rattle.lru_shrink.specs.Shrunk.{probe_by, probes_of_looks, probes_of_tries, Shrink, AreStacked, look_probes, try_probes, cleared as cleared_looks}
use Rattle.lru_ops.specs.Askings.{lists_after}
use Rattle.lru_ops.specs.Evictions.{lists_with}
use Rattle.lru_ops.specs.OwnTurns.{no_bodies, ShrinksFree, rows_on, try_of, WorksOn, in_turn}
use Rattle.lru_ops.proofs.EvictTurns.{found_has}

-- Stacks of bodies

numbers_reverse : (bodies : List Stored) → numbers (reverse bodies) ≡ reverse (numbers bodies)
numbers_reverse [] = refl
numbers_reverse (body ∷ bodies) =
    ap numbers (reverse-append (body ∷ []) bodies)
    ∙ (map-append (λ (b : Stored). b.element) (reverse bodies) (body ∷ [])
    ∙ (ap (λ (l : List ℕ). l ++ body.element ∷ []) (numbers_reverse bodies) ∙ sym (reverse-append (body.element ∷ []) (numbers bodies))))

-- what came on a stack lies above what lay there, the first deepest
pub stacked_on : (gives : Stored → Type 0) (elements : List ℕ) (before after : BodyList) → AreStacked gives elements before after → numbers after.bodies ≡ reverse elements ++ numbers before.bodies
stacked_on gives elements before after s =
    ap (λ (z : BodyList). numbers z.bodies) s.stacked
    ∙ (map-append (λ (b : Stored). b.element) (reverse s.bodies) before.bodies ∙ ap (λ (l : List ℕ). l ++ numbers before.bodies) (numbers_reverse s.bodies ∙ ap reverse s.numbers))

pub stacked_numbers : (gives : Stored → Type 0) (elements : List ℕ) (before after : BodyList) → AreStacked gives elements before after → before.bodies ≡ [] → numbers after.bodies ≡ reverse elements
stacked_numbers gives elements before after s none = stacked_on gives elements before after s ∙ (ap (λ (l : List Stored). reverse elements ++ numbers l) none ∙ append_nil (reverse elements))

pub stacked_all : (P gives : Stored → Type 0) (elements : List ℕ) (before after : BodyList) → AreStacked gives elements before after → ((body : Stored) → gives body → P body) → All P before.bodies → All P after.bodies
stacked_all P gives elements before after s is all =
    subst (λ (z : BodyList). All P z.bodies) (sym s.stacked)
    (All-append P (reverse s.bodies) before.bodies (All-weaker gives P is (reverse s.bodies) (All-permutation gives s.bodies (reverse s.bodies) (IsPermutation-reverse s.bodies) s.given)) all)

stacked_given : (gives : Stored → Type 0) (elements : List ℕ) (before after : BodyList) → AreStacked gives elements before after → before.bodies ≡ [] → All gives after.bodies
stacked_given gives elements before after s none = stacked_all gives gives elements before after s (λ body given. given) (subst (All gives) (sym none) (All-nil gives))

pub stacked_rooms : (gives : Stored → Type 0) (elements : List ℕ) (before after : BodyList) → AreStacked gives elements before after → length after.bodies + after.spare ≡ length before.bodies + before.spare
stacked_rooms gives elements before after s =
    let bodies : length after.bodies ≡ length s.bodies + length before.bodies = ap (λ (z : BodyList). length z.bodies) s.stacked
    ∙ (length-append (reverse s.bodies) before.bodies ∙ ap (λ (n : ℕ). n + length before.bodies) (length_permutation _ _ (IsPermutation-reverse s.bodies))) in
    let spare : after.spare ≡ before.spare - length s.bodies = ap (λ (z : BodyList). z.spare) s.stacked in
    let fits = s.fits in
    omega (arith, bodies, spare, fits)

stacked_room : (gives : Stored → Type 0) (elements : List ℕ) (before after : BodyList) → AreStacked gives elements before after → before.bodies ≡ [] → length after.bodies + after.spare ≡ before.spare
stacked_room gives elements before after s none =
    let all = stacked_rooms gives elements before after s in
    let empty : length before.bodies ≡ 0 = ap length none in
    omega (arith, all, empty)

pub length_numbers : (bodies : List Stored) → length (numbers bodies) ≡ length bodies
length_numbers [] = refl
length_numbers (body ∷ bodies) = ap suc (length_numbers bodies)

-- Rows

pub listed_times : (e : ℕ) (set : SetView) → times e (elements_of (rows_on set)) ≡ times_listed e set
listed_times e set = ap (times e) (elements_append set.active set.inactive) ∙ times_append e (elements_of set.active) (elements_of set.inactive)

pub rows_once : (set : SetView) → IsSet set → (e : ℕ) → times e (elements_of (rows_on set)) ≤ 1
rows_once set whole e = let same = listed_times e set in let few = whole.once e in omega (arith, same, few)

pub rows_few : (bound : ℕ) (rows : List Row) → bound < 2 ^ 32 → ((e : ℕ) → times e (elements_of rows) ≤ 1) → ((e : ℕ) → IsIn e (elements_of rows) → e < bound) → length rows ≤ bound
rows_few bound [] countable once below = omega arith
rows_few bound (row ∷ rows) countable once below =
    let once_behind : (e : ℕ) → times e (elements_of rows) ≤ 1 = λ e. by_test row.element e (λ b. cond b (suc (times e (elements_of rows))) (times e (elements_of rows)) ≤ 1 → times e (elements_of rows) ≤ 1) (λ _ few. omega (arith, few)) (λ _ few. few) (once e) in
    let below_behind : (e : ℕ) → IsIn e (elements_of rows) → e < bound = λ e some. below e (by_test row.element e (λ b. 0 < cond b (suc (times e (elements_of rows))) (times e (elements_of rows))) (λ _. omega arith) (λ _. some)) in
    let few = rows_few bound rows countable once_behind below_behind in
    let here = times_cons_same row.element (elements_of rows) in
    let one = once row.element in
    let room = room_for bound row.element rows (record { once = once_behind; below = below_behind; few = few; countable = countable }) (below row.element (omega (arith, here))) (omega (arith, here, one)) in
    omega (arith, few, room)

-- a set has at most as many rows as its bound says
pub rows_bounded : (set : SetView) → IsSet set → length set.active + length set.inactive ≤ set.elements
rows_bounded set whole =
    subst (λ (n : ℕ). n ≤ set.elements) (length-append set.active set.inactive)
    (rows_few set.elements (rows_on set) whole.countable (rows_once set whole)
    (λ e some. whole.below e (let same = listed_times e set in omega (arith, some, same))))

-- The room of a set whose free list is empty

pub none_free : (bodies : List Stored) (n : ℕ) → n ≡ length bodies → n ≤ 0 → bodies ≡ []
none_free [] n is few = refl
none_free (body ∷ bodies) n is few = absurd (let zero : suc (length bodies) ≤ 0 = subst (λ (m : ℕ). m ≤ 0) is few in omega (arith, zero))

pub free_room : (shape : Shape) (set : SetView) → FitsSet shape set → set.free.bodies ≡ [] → length set.active + length set.inactive ≤ set.free.spare
free_room shape set fits none =
    let rows = rows_bounded set fits.whole in
    let room = fits.room in
    let empty : length set.free.bodies ≡ 0 = ap length none in
    let bound = fits.bound in
    omega (arith, rows, room, empty, bound)

pub own_row : (before : List Row) (rows : List Row) → ((e : ℕ) → times e (elements_of (before ++ rows)) ≤ 1) → All (λ (row : Row). row_of row.element (before ++ rows) ≡ Some row) rows
own_row before [] once = All-nil (λ (row : Row). row_of row.element (before ++ []) ≡ Some row)
own_row before (row ∷ rows) once =
    let P : Row → Type 0 = λ (r : Row). row_of r.element (before ++ row ∷ rows) ≡ Some r in
    let absent : times row.element (elements_of before) ≡ 0 =
    let all = once row.element in
    let parts = ap (times row.element) (elements_append before (row ∷ rows)) ∙ times_append row.element (elements_of before) (elements_of (row ∷ rows)) in
    let here = times_cons_same row.element (elements_of rows) in
    omega (arith, all, parts, here) in
    let same : (before ++ row ∷ []) ++ rows ≡ before ++ row ∷ rows = append_assoc before (row ∷ []) rows in
    All-cons P row rows (row_of_split row.element before row rows absent refl)
    (subst (λ (l : List Row). All (λ (r : Row). row_of r.element l ≡ Some r) rows) same
    (own_row (before ++ row ∷ []) rows (λ e. subst (λ (l : List Row). times e (elements_of l) ≤ 1) (sym same) (once e))))

pub own_rows : (set : SetView) → IsSet set → All (λ (row : Row). row_on row.element set ≡ Some row) (rows_on set)
own_rows set whole = own_row [] (rows_on set) (rows_once set whole)

pub row_has : (P : Row → Type 0) (set : SetView) (e : ℕ) (row : Row) → All P (rows_on set) → row_on e set ≡ Some row → P row
row_has P set e row all found = found_has P (is_of e) (rows_on set) row (recursion_from_All P (rows_on set) all) found

some_hash : (found : Option Row) (n : ℕ) → option_map (λ (row : Row). row.hash) found ≡ Some n → (row : Row) × (found ≡ Some row) × (row.hash ≡ n)
some_hash None n is = absurd (none_some is)
some_hash (Some row) n is = (row, refl, some_is is)

pub stored_row : (e n : ℕ) (set : SetView) → stored_hash e (rows_on set) ≡ Some n → (row : Row) × (row_on e set ≡ Some row) × (row.hash ≡ n)
stored_row e n set is = some_hash (row_on e set) n is

-- a row of a rotated set is the one that its element had before
pub rotated_row : (before after : SetView) → IsSet before → IsPermutation (rows_on before) (rows_on after) → (e : ℕ) (row : Row) → row_on e after ≡ Some row → row_on e before ≡ Some row
rotated_row before after whole moved e row found =
    let P : Row → Type 0 = λ (r : Row). row_on r.element before ≡ Some r in
    ap (λ (x : ℕ). row_on x before) (sym (its_row e after row found)) ∙ row_has P after e row (All-permutation P (rows_on before) (rows_on after) moved (own_rows before whole)) found

kept_by : (before after : SetView) → ((e : ℕ) (row : Row) → row_on e after ≡ Some row → row_on e before ≡ Some row) → (e h n : ℕ) → stored_hash e (rows_on before) ≡ Some h → stored_hash e (rows_on after) ≡ Some n → h ≡ n
kept_by before after same e h n was is =
    let one = stored_row e h before was in
    let other = stored_row e n after is in
    sym one.2 ∙ (ap (λ (r : Row). r.hash) (some_is (sym one.1 ∙ same e other.0 other.1)) ∙ other.2)

-- What probes settle

abbrev pub taken_by : List ProbeCall → List ℕ
taken_by probes = map (λ (probe : ProbeCall). probe.element) (filter (λ (probe : ProbeCall). is_removed probe.probed) probes)

abbrev pub taken_with : ℕ → Seen → List ℕ → List ℕ
taken_with e Removed taken = e ∷ taken
taken_with e (Held holder) taken = taken

pub taken_cons : (e hash : ℕ) (seen : Seen) (probes : List ProbeCall) → taken_by (record { element = e; hash = hash; probed = seen } ∷ probes) ≡ taken_with e seen (taken_by probes)
taken_cons e hash Removed probes = refl
taken_cons e hash (Held holder) probes = refl

free_with : (e : ℕ) (seen : Seen) (now : Lists) (taken : List ℕ) → reverse taken ++ (lists_with e seen now).free ≡ reverse (taken_with e seen taken) ++ now.free
free_with e Removed now taken = sym (ap (λ (l : List ℕ). l ++ now.free) (reverse-append (e ∷ []) taken) ∙ append_assoc (reverse taken) (e ∷ []) now.free)
free_with e (Held holder) now taken = refl

pub free_after : (probes : List ProbeCall) (now : Lists) → (lists_after probes now).free ≡ reverse (taken_by probes) ++ now.free
free_after [] now = refl
free_after (probe ∷ probes) now =
    free_after probes (lists_with probe.element probe.probed now)
    ∙ (free_with probe.element probe.probed now (taken_by probes)
    ∙ ap (λ (l : List ℕ). reverse l ++ now.free) (sym (taken_cons probe.element probe.hash probe.probed probes)))

pub row_gone : (x e : ℕ) (now : Lists) → times x (rows now) ≤ 1 → times x (without e now.first ++ without e now.second) ≡ times x (rows now) - times x (e ∷ [])
row_gone x e now once =
    let parts = times_append x now.first now.second in
    let left = times_append x (without e now.first) (without e now.second) in
    by_test e x (λ b. times x (without e now.first ++ without e now.second) ≡ times x (rows now) - cond b 1 0)
    (λ same.
    let first : times x (without e now.first) ≡ times x now.first - 1 = subst (λ (y : ℕ). times y (without e now.first) ≡ times y now.first - 1) same (times_without_same e now.first) in
    let second : times x (without e now.second) ≡ times x now.second - 1 = subst (λ (y : ℕ). times y (without e now.second) ≡ times y now.second - 1) same (times_without_same e now.second) in
    omega (arith, parts, left, first, second, once))
    (λ other.
    let first = times_without_other x e now.first (λ is. other (sym is)) in
    let second = times_without_other x e now.second (λ is. other (sym is)) in
    omega (arith, parts, left, first, second))

rows_with : (x e : ℕ) (seen : Seen) (now : Lists) (taken : List ℕ) → times x (rows now) ≤ 1 → times x (rows (lists_with e seen now)) - times x taken ≡ times x (rows now) - times x (taken_with e seen taken)
rows_with x e Removed now taken once =
    let gone = row_gone x e now once in
    by_test e x (λ b. times x (without e now.first ++ without e now.second) ≡ times x (rows now) - cond b 1 0 → times x (without e now.first ++ without e now.second) - times x taken ≡ times x (rows now) - cond b (suc (times x taken)) (times x taken))
    (λ _ is. omega (arith, is)) (λ _ is. omega (arith, is)) gone
rows_with x e (Held holder) now taken once = refl

once_with : (x e : ℕ) (seen : Seen) (now : Lists) → times x (rows now) ≤ 1 → times x (rows (lists_with e seen now)) ≤ 1
once_with x e Removed now once = let gone = row_gone x e now once in omega (arith, gone, once)
once_with x e (Held holder) now once = once

pub rows_after : (x : ℕ) (probes : List ProbeCall) (now : Lists) → times x (rows now) ≤ 1 → times x (rows (lists_after probes now)) ≡ times x (rows now) - times x (taken_by probes)
rows_after x [] now once = omega arith
rows_after x (probe ∷ probes) now once =
    rows_after x probes (lists_with probe.element probe.probed now) (once_with x probe.element probe.probed now once)
    ∙ (rows_with x probe.element probe.probed now (taken_by probes) once
    ∙ ap (λ (l : List ℕ). times x (rows now) - times x l) (sym (taken_cons probe.element probe.hash probe.probed probes)))

-- The probes of looks and of tries

look_cases : (b : Bool) (look : Look) (looks : List Look) → map (λ (l : Look). l.element) (cond b (look ∷ looks) looks) ≡ cond b (look.element ∷ map (λ (l : Look). l.element) looks) (map (λ (l : Look). l.element) looks)
look_cases true look looks = refl
look_cases false look looks = refl

looks_taken : (rows : List Row) (looks : List Look) → taken_by (probes_of_looks rows looks) ≡ map (λ (look : Look). look.element) (filter look_removed looks)
looks_taken rows [] = refl
looks_taken rows (look ∷ looks) =
    go look.probed (looks_taken rows looks) ∙ sym (look_cases (look_removed look) look (filter look_removed looks))
  where
    rest : List ℕ
    rest = map (λ (l : Look). l.element) (filter look_removed looks)

    go : (probed : Option Seen) → taken_by (probes_of_looks rows looks) ≡ rest
        → taken_by (cons_option (option_map (probe_by rows look.element) probed) (probes_of_looks rows looks)) ≡ cond (unwrap_or (option_map is_removed probed) false) (look.element ∷ rest) rest
    go None same = same
    go (Some Removed) same = ap (λ (l : List ℕ). look.element ∷ l) same
    go (Some (Held holder)) same = same

try_cases : (b : Bool) (try : Try) (tries : List Try) → map (λ (t : Try). t.element) (cond b (try ∷ tries) tries) ≡ cond b (try.element ∷ map (λ (t : Try). t.element) tries) (map (λ (t : Try). t.element) tries)
try_cases true try tries = refl
try_cases false try tries = refl

tries_taken : (rows : List Row) (tries : List Try) → taken_by (probes_of_tries rows tries) ≡ map (λ (try : Try). try.element) (filter try_removed tries)
tries_taken rows [] = refl
tries_taken rows (try ∷ tries) =
    go try.probed (tries_taken rows tries) ∙ sym (try_cases (try_removed try) try (filter try_removed tries))
  where
    rest : List ℕ
    rest = map (λ (t : Try). t.element) (filter try_removed tries)

    go : (seen : Seen) → taken_by (probes_of_tries rows tries) ≡ rest → taken_by (probe_by rows try.element seen ∷ probes_of_tries rows tries) ≡ cond (is_removed seen) (try.element ∷ rest) rest
    go Removed same = ap (λ (l : List ℕ). try.element ∷ l) same
    go (Held holder) same = same

taken_append : (first second : List ProbeCall) → taken_by (first ++ second) ≡ taken_by first ++ taken_by second
taken_append first second =
    ap (map (λ (probe : ProbeCall). probe.element)) (filter-append (λ (probe : ProbeCall). is_removed probe.probed) first second)
    ∙ map-append (λ (probe : ProbeCall). probe.element) (filter (λ (probe : ProbeCall). is_removed probe.probed) first) (filter (λ (probe : ProbeCall). is_removed probe.probed) second)

-- of a walk over some rows, and of a shrink of a set
pub walk_taken : (rows : List Row) (looks : List Look) (forced : List Try) → taken_by (probes_of_looks rows looks ++ probes_of_tries rows forced) ≡ freed looks forced
walk_taken rows looks forced = taken_append (probes_of_looks rows looks) (probes_of_tries rows forced) ∙ (λ i. looks_taken rows looks i ++ tries_taken rows forced i)

pub shrink_taken : (set : SetView) (looks : List Look) (forced : List Try) → taken_by (look_probes set looks ++ try_probes set forced) ≡ freed looks forced
shrink_taken set looks forced = walk_taken (rows_on set) looks forced

looks_tried : (rows : List Row) (looks : List Look) → map try_of (probes_of_looks rows looks) ≡ flat_map look_tries looks
looks_tried rows [] = refl
looks_tried rows (look ∷ looks) = go look.probed (looks_tried rows looks)
  where
    go : (probed : Option Seen) → map try_of (probes_of_looks rows looks) ≡ flat_map look_tries looks
        → map try_of (cons_option (option_map (probe_by rows look.element) probed) (probes_of_looks rows looks)) ≡ unwrap_or (option_map (λ seen. (record { element = look.element; probed = seen }) ∷ []) probed) [] ++ flat_map look_tries looks
    go None same = same
    go (Some seen) same = ap (λ (l : List Try). record { element = look.element; probed = seen } ∷ l) same

tries_tried : (rows : List Row) (tries : List Try) → map try_of (probes_of_tries rows tries) ≡ tries
tries_tried rows [] = refl
tries_tried rows (try ∷ tries) = ap (λ (l : List Try). try ∷ l) (tries_tried rows tries)

pub walk_tried : (rows : List Row) (looks : List Look) (forced : List Try) → map try_of (probes_of_looks rows looks ++ probes_of_tries rows forced) ≡ walk_probes looks forced
walk_tried rows looks forced = map-append try_of (probes_of_looks rows looks) (probes_of_tries rows forced) ∙ (λ i. looks_tried rows looks i ++ tries_tried rows forced i)

shrink_tried : (set : SetView) (looks : List Look) (forced : List Try) → map try_of (look_probes set looks ++ try_probes set forced) ≡ walk_probes looks forced
shrink_tried set looks forced = walk_tried (rows_on set) looks forced

pub looks_cleared : (looks : List Look) → cleared_looks looks ≡ map calls.Cleared (map look_visit looks)
looks_cleared [] = refl
looks_cleared (look ∷ looks) = ap (λ (l : List BitCall). calls.Cleared (look_visit look) ∷ l) (looks_cleared looks)

-- What a shrink stacked

module _ {before after : SetView} {asked asked_after : Questions} {gives : Stored → Type 0} {out out_after : BodyList} {notes notes_after : ShrinkNotes} {answer : ℕ}
    (s : Shrink own_scans own_target gives (record { set = before; asked = asked; out = out; notes = notes }) (record { set = after; asked = asked_after; out = out_after; notes = notes_after }) answer) (whole : IsSet before) (none : out.bodies ≡ []) where
  freed_times : (e : ℕ) → times e (numbers out_after.bodies) ≡ times e (freed s.looks s.forced)
  freed_times e = ap (times e) (stacked_numbers gives (freed s.looks s.forced) out out_after s.left none) ∙ times_reverse e (freed s.looks s.forced)

  pub freed_below : (e : ℕ) → IsIn e (numbers out_after.bodies) → e < after.elements
  freed_below e some =
      let same = freed_times e in
      let all = s.rows e in
      subst (λ (n : ℕ). e < n) (sym (ap (λ (z : SetView). z.elements) s.set)) (whole.below e (omega (arith, some, same, all)))

  pub freed_absent : (e : ℕ) → times_listed e after + times e (numbers out_after.bodies) ≤ 1
  freed_absent e =
      let same = freed_times e in
      let all = s.rows e in
      let once = whole.once e in
      omega (arith, same, all, once)

-- A rotation alone

module _ {shape : Shape} {scans : ℕ} {before middle : SetView} {calls_before calls_after : List BitCall} {turning turning_after : RotateNotes}
    (fits : FitsSet shape before) (r : Rotation scans before middle calls_before calls_after turning turning_after) (moved : IsPermutation (rows_on before) (rows_on middle)) (whole : IsSet middle) where
  pub rotated_free : middle.free ≡ before.free
  rotated_free = ap (λ (z : SetView). z.free) r.set

  pub fits_rotated : FitsSet shape middle
  fits_rotated = record {
    sized = subst (λ (z : BodyList). All (IsSized shape) z.bodies) (sym rotated_free) fits.sized;
    bound = ap (λ (z : SetView). z.elements) r.set ∙ fits.bound;
    room = ap (λ (z : BodyList). length z.bodies + z.spare) rotated_free ∙ fits.room;
    whole = whole;
  }

pub rotated_times : (before middle : SetView) → IsPermutation (rows_on before) (rows_on middle) → (e : ℕ) → times_listed e before ≡ times_listed e middle
rotated_times before middle moved e = sym (listed_times e before) ∙ (sym (times_permuted e (rows_on before) (rows_on middle) moved) ∙ listed_times e middle)

module _ {shape : Shape} {before middle : SetView} {calls_before calls_after : List BitCall} {turning turning_after : RotateNotes}
    (fits : FitsSet shape before) (r : Rotation own_scans before middle calls_before calls_after turning turning_after) (moved : IsPermutation (rows_on before) (rows_on middle)) (whole : IsSet middle) where
  same_free : middle.free ≡ before.free
  same_free = rotated_free fits r moved whole

  told_rotated : set_told middle ≡ rotated_set own_scans r.active r.inactive (set_told before)
  told_rotated = ap set_told r.set

  fits_middle : FitsSet shape middle
  fits_middle = fits_rotated fits r moved whole

  -- on both lists together
  both_times : (e : ℕ) → times e (elements_of before.active ++ elements_of before.inactive) ≡ times e (elements_of middle.active ++ elements_of middle.inactive)
  both_times e =
      times_append e (elements_of before.active) (elements_of before.inactive)
      ∙ (rotated_times before middle moved e ∙ sym (times_append e (elements_of middle.active) (elements_of middle.inactive)))

  row_was : (e : ℕ) (row : Row) → row_on e middle ≡ Some row → row_on e before ≡ Some row
  row_was = rotated_row before middle fits.whole moved

  some_free : {A : Type 0} (xs : List A) → 0 < length xs → xs ≢ []
  some_free xs long none = let zero = ap length none in omega (arith, long, zero)

  pub rotated_works : (shrinking : ShrinkNotes) (asked : List BitCall) → 0 < length middle.free.bodies → asked ≡ cleared_visits (r.active ++ r.inactive) → WorksOn shape (in_turn before turning shrinking) (in_turn middle turning_after shrinking) false (record { calls = asked; probes = [] })
  rotated_works shrinking asked long asked_is = record {
    active = r.active;
    inactive = r.inactive;
    looks = [];
    forced = [];
    noted_active = r.noted_active;
    noted_inactive = r.noted_inactive;
    noted_looks = noted_none shrinking.looks;
    noted_forced = noted_none shrinking.forced;
    visits = r.visits;
    shrinks = some_free (numbers before.free.bodies) (subst (λ (n : ℕ). 0 < n) (ap (λ (z : BodyList). length z.bodies) same_free ∙ sym (length_numbers before.free.bodies)) long);
    after_is = told_rotated;
    fits = fits_middle;
    calls_are = asked_is ∙ ap (λ (l : List Visit). map calls.Cleared (r.active ++ l)) (sym (append_nil r.inactive));
    probes_are = refl;
    same_free = ap (λ (z : BodyList). numbers z.bodies) (sym same_free);
    same_rows = both_times;
    rows_kept = kept_by before middle row_was;
  }

  -- and then a shrink into the free list, which was empty
  module _ {after : SetView} {told told_after : Questions} {gives : Stored → Type 0} {shrinking shrinking_after : ShrinkNotes}
      (s : ShrinksFree gives middle after told told_after shrinking shrinking_after) (none : middle.free.bodies ≡ []) (whole_after : IsSet after) where
    abbrev note : ShrinkNote
    note = record { target = own_target; looks = s.shrink.looks; forced = s.shrink.forced }

    abbrev gone : List ℕ
    gone = freed s.shrink.looks s.shrink.forced

    freed_numbers : numbers after.free.bodies ≡ reverse gone
    freed_numbers = ap (λ (z : SetView). numbers z.free.bodies) s.after_is ∙ stacked_numbers gives gone middle.free s.freed s.shrink.left none

    none_before : numbers before.free.bodies ≡ []
    none_before = ap (λ (z : BodyList). numbers z.bodies) (sym same_free) ∙ ap numbers none

    listed_left : listed after ≡ shrunk (listed middle) s.shrink.looks s.shrink.forced
    listed_left = ap listed s.after_is ∙ ap listed s.shrink.set

    told_shrunk : set_told after ≡ shrunk_into_free (Some note) (rotated_set own_scans r.active r.inactive (set_told before))
    told_shrunk =
        (λ i. record { lists = listed_left i; free = (freed_numbers ∙ sym (append_nil (reverse gone))) i })
        ∙ (λ i. record { lists = shrunk ((ap listed r.set) i) s.shrink.looks s.shrink.forced; free = reverse gone ++ (sym none_before) i })

    fits_shrunk : ((body : Stored) → gives body → IsSized shape body) → FitsSet shape after
    fits_shrunk is_sized =
        let room : length s.freed.bodies + s.freed.spare ≡ middle.free.spare = stacked_room gives gone middle.free s.freed s.shrink.left none in
        let all : length middle.free.bodies + middle.free.spare ≡ shape.elements = fits_middle.room in
        let empty : length middle.free.bodies ≡ 0 = ap length none in
        record {
          sized = subst (λ (z : SetView). All (IsSized shape) z.free.bodies) (sym s.after_is) (All-weaker gives (IsSized shape) is_sized s.freed.bodies (stacked_given gives gone middle.free s.freed s.shrink.left none));
          bound = ap (λ (z : SetView). z.elements) s.after_is ∙ (ap (λ (z : SetView). z.elements) s.shrink.set ∙ fits_middle.bound);
          room = ap (λ (z : SetView). length z.free.bodies + z.free.spare) s.after_is ∙ (let sum : length s.freed.bodies + s.freed.spare ≡ shape.elements = omega (arith, room, all, empty) in sum);
          whole = whole_after;
        }

    row_left : (e : ℕ) (row : Row) → row_on e after ≡ Some row → row_on e before ≡ Some row
    row_left e row found =
        let there : row_on e s.left ≡ Some row = ap (row_on e) (sym s.after_is) ∙ found in
        let listed_still : IsListed e s.left = (listed_present e s.left).0 (ap is_some there) in
        let rows = s.shrink.rows e in
        let once = whole.once e in
        let kept : times e gone ≡ 0 = omega (arith, listed_still, rows, once) in
        row_was e row (sym (s.shrink.same_rows e kept) ∙ there)

    pub shrunk_works : (asked : List BitCall) (made : List ProbeCall) → ((body : Stored) → gives body → IsSized shape body) → asked ≡ cleared_visits (r.active ++ r.inactive) ++ cleared_looks s.shrink.looks → made ≡ look_probes (with_free no_bodies middle) s.shrink.looks ++ try_probes (with_free no_bodies middle) s.shrink.forced
        → WorksOn shape (in_turn before turning shrinking) (in_turn after turning_after shrinking_after) true (record { calls = asked; probes = made })
    shrunk_works asked made is_sized asked_is made_is =
        let taken : taken_by made ≡ gone = ap taken_by made_is ∙ shrink_taken (with_free no_bodies middle) s.shrink.looks s.shrink.forced in
        record {
          active = r.active;
          inactive = r.inactive;
          looks = s.shrink.looks;
          forced = s.shrink.forced;
          noted_active = r.noted_active;
          noted_inactive = r.noted_inactive;
          noted_looks = s.shrink.noted_looks;
          noted_forced = s.shrink.noted_forced;
          visits = r.visits;
          shrinks = (none_before, refl, subst (λ (z : Listed). IsShrink own_scans own_target z s.shrink.looks s.shrink.forced) (ap listed r.set) s.shrink.shrinks);
          after_is = told_shrunk;
          fits = fits_shrunk is_sized;
          calls_are =
              asked_is ∙ (ap (λ (l : List BitCall). cleared_visits (r.active ++ r.inactive) ++ l) (looks_cleared s.shrink.looks)
              ∙ (sym (map-append calls.Cleared (r.active ++ r.inactive) (map look_visit s.shrink.looks)) ∙ ap (map calls.Cleared) (append_assoc r.active r.inactive (map look_visit s.shrink.looks))));
          probes_are = ap (map try_of) made_is ∙ shrink_tried (with_free no_bodies middle) s.shrink.looks s.shrink.forced;
          same_free = free_after made (lists_of_set (set_told before)) ∙ ((λ i. reverse (taken i) ++ none_before i) ∙ (append_nil (reverse gone) ∙ sym freed_numbers));
          same_rows = λ e.
              let once_before : times e (elements_of before.active ++ elements_of before.inactive) ≤ 1 = subst (λ (n : ℕ). n ≤ 1) (ap (times e) (elements_append before.active before.inactive)) (rows_once before fits.whole e) in
              let then = rows_after e made (lists_of_set (set_told before)) once_before in
              let same : times e (taken_by made) ≡ times e gone = ap (times e) taken in
              let turned : times e (elements_of before.active ++ elements_of before.inactive) ≡ times e (elements_of middle.active ++ elements_of middle.inactive) = both_times e in
              let parts : times e (elements_of middle.active ++ elements_of middle.inactive) ≡ times_listed e middle = times_append e (elements_of middle.active) (elements_of middle.inactive) in
              let left : times e (elements_of after.active ++ elements_of after.inactive) ≡ times_listed e s.left = times_append e (elements_of after.active) (elements_of after.inactive) ∙ ap (times_listed e) s.after_is in
              let rows_left = s.shrink.rows e in
              then ∙ (let count : times e (elements_of before.active ++ elements_of before.inactive) - times e (taken_by made) ≡ times e (elements_of after.active ++ elements_of after.inactive) = omega (arith, same, turned, parts, left, rows_left) in count);
          rows_kept = kept_by before after row_left;
        }
