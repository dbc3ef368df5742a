-- Turns of own sets: the hashes of what is probed, and what a shrink leaves.
use Rattle.std.proofs.Common.{◌≡◌, ℕ, zero, suc, cond, eqb, ◌≤◌, ◌+◌, Bool, true, false, List, [], ◌∷◌, ◌++◌, map, reverse, take, length, refl, ap, ◌∙◌, sym, subst, arith, append_assoc}
use Rattle.std.specs.Prelude.{All, Option, None, Some, MatchBool, IsPermutation, count_by, option_map, unwrap_or, slice_get}
use Rattle.std.specs.List.{flat_map}
use Rattle.std.proofs.lemmas.List.{append-nil, map-append}
use Rattle.std.proofs.lemmas.List.Elements.{All-nil, All-cons, All-head, All-tail}
use Rattle.std.proofs.lemmas.List.Sorted.{All-permutation}
use Rattle.std.proofs.lemmas.Option.{same_Some}
use Rattle.map_types.specs.ElementLists.{times}
use Rattle.map_types.specs.Listed.{Listed, elements_of}
use Rattle.map_types.specs.declared.row.Row.{Row}
use Rattle.map_types.proofs.RowLemmas.{by_test, times_append}
use Rattle.place_words.specs.declared.bucket_part.Seen.{Seen}
use Rattle.place_words.specs.declared.visits.Look.{Look}
use Rattle.place_words.specs.declared.visits.ShrinkNote.{ShrinkNote}
use Rattle.place_words.specs.declared.visits.Try.{Try}
use Rattle.place_words.specs.Shrinking.{IsShrink, AreTries, look_removed, after_looks, forced_rows, freed, shrunk}
use Rattle.place_words.specs.Takings.{look_probes, walk_probes, shrink_probes, stored_hash}
use Rattle.place_words.proofs.BucketLaws.{times_more}
use Rattle.place_words.proofs.RowCounts.{any, rows_any, rows_cut, rows_reverse}
use Rattle.place_words.proofs.ShrinkProbes.{forced_there, stored_there}
use Rattle.row_list.specs.RowWords.{row_of}
use Rattle.row_list.proofs.ElementLemmas.{times_here}
use Rattle.row_list.proofs.RowLemmas.{elements_append, row_of_absent, row_of_split, splits}
use Rattle.lru_lists.specs.Sets.{SetView, IsSet, listed, times_listed, with_free}
use Rattle.lru_lists.specs.declared.bits.ProbeCall.{ProbeCall}
use Rattle.lru_rotate.proofs.RowsStay.{times_permuted}
use Rattle.lru_shrink.specs.Shrunk.{probe_by, probes_of_looks, probes_of_tries}
use Rattle.map_types.specs.Stored.{Stored}
use Rattle.percpu_values.specs.BodyList.{BodyList}
use Rattle.place_words.specs.Bodies.{numbers}
use Rattle.place_words.specs.Sets.{ListSet, AllowsOwnShrink, given_out, own_after, rotated_set, shrunk_into_free}
use Rattle.place_words.specs.declared.list_part.OwnPart.TheVariants as own
use Rattle.place_words.specs.declared.visits.Visit.{Visit}
use Rattle.replay_words.specs.declared.note.Note.TheVariants.{Nothing, Probes}
use Rattle.set_replay.specs.Judged.{probes_by, RotationJudged, ShrinkJudged, ShrunkInto}
use Rattle.set_replay.specs.OwnTurns.{shrink_hashes, OwnShrunk, GivenOut, OwnTurned}
use Rattle.set_replay.specs.Pushing.{set_of, HasFreeRoom, PushJudged}

-- The probes of a shrink as those of tries

tries_of_look : (rows : List Row) (look : Look) (probed : Option Seen) → probes_of_looks rows ((record look { probed = probed }) ∷ []) ≡ probes_of_tries rows (look_probes (record look { probed = probed }))
tries_of_look rows look None = refl
tries_of_look rows look (Some seen) = refl

look_first : (rows : List Row) (look : Look) (looks : List Look) (probed : Option Seen)
    → probes_of_looks rows ((record look { probed = probed }) ∷ looks) ≡ probes_of_looks rows ((record look { probed = probed }) ∷ []) ++ probes_of_looks rows looks
look_first rows look looks None = refl
look_first rows look looks (Some seen) = refl

pub looks_as_tries : (rows : List Row) (looks : List Look) → probes_of_looks rows looks ≡ probes_of_tries rows (flat_map look_probes looks)
looks_as_tries rows [] = refl
looks_as_tries rows (look ∷ looks) =
    look_first rows look looks look.probed
    ∙ (ap (λ (l : List ProbeCall). l ++ probes_of_looks rows looks) (tries_of_look rows look look.probed)
    ∙ (ap (λ (l : List ProbeCall). probes_of_tries rows (look_probes look) ++ l) (looks_as_tries rows looks)
    ∙ sym (map-append (λ (try : Try). probe_by rows try.element try.probed) (look_probes look) (flat_map look_probes looks))))

pub both_as_tries : (set : SetView) (looks : List Look) (forced : List Try) → probes_by set looks forced ≡ probes_of_tries (set.active ++ set.inactive) (walk_probes looks forced)
both_as_tries set looks forced =
    ap (λ (l : List ProbeCall). l ++ probes_of_tries (set.active ++ set.inactive) forced) (looks_as_tries (set.active ++ set.inactive) looks)
    ∙ sym (map-append (λ (try : Try). probe_by (set.active ++ set.inactive) try.element try.probed) (flat_map look_probes looks) forced)

-- Their elements are listed

abbrev names : List Try → List ℕ
names tries = map (λ (try : Try). try.element) tries

look_named : (look : Look) (probed : Option Seen) (e : ℕ) → times e (names (look_probes (record look { probed = probed }))) ≤ times e (look.element ∷ [])
look_named look None e = omega arith
look_named look (Some seen) e = omega arith

looks_named : (looks : List Look) (e : ℕ) → times e (names (flat_map look_probes looks)) ≤ times e (map (λ (look : Look). look.element) looks)
looks_named [] e = omega arith
looks_named (look ∷ looks) e =
    let joined : times e (names (look_probes look ++ flat_map look_probes looks)) ≡ times e (names (look_probes look)) + times e (names (flat_map look_probes looks)) =
    ap (times e) (map-append (λ (probe : Try). probe.element) (look_probes look) (flat_map look_probes looks)) ∙ times_append e (names (look_probes look)) (names (flat_map look_probes looks)) in
    omega (arith, joined, look_named look look.probed e, looks_named looks e, times_more e look.element (map (λ (l : Look). l.element) looks))

taken_few : (n : ℕ) (rows : List Row) (e : ℕ) → times e (elements_of (take n (reverse rows))) ≤ times e (elements_of rows)
taken_few n rows e = omega (arith, rows_any e rows, rows_reverse e any rows, rows_cut e any n (reverse rows), rows_any e (take n (reverse rows)))

module _ (scans target : ℕ) (set : SetView) (looks : List Look) (forced : List Try) (is : IsShrink scans target (listed set) looks forced) (e : ℕ) where
  looks_listed : times e (names (flat_map look_probes looks)) ≤ times_listed e set
  looks_listed =
      let same : times e (map (λ (look : Look). look.element) looks) ≡ times e (elements_of (take (length looks) (reverse set.inactive))) = ap (times e) is.looked.from_tail in
      omega (arith, looks_named looks e, same, taken_few (length looks) set.inactive e)

  tries_listed : times e (names forced) ≤ times_listed e set
  tries_listed = by (eqb (count_by look_removed looks) 0) is.tried
    where
      by : (none : Bool) → MatchBool none (AreTries (after_looks (listed set) looks) forced) (forced ≡ []) → times e (names forced) ≤ times_listed e set
      by true tries =
          let same : times e (names forced) ≡ times e (elements_of (take (length forced) (reverse (forced_rows (after_looks (listed set) looks))))) = ap (times e) tries.from_tail in
          omega (arith, same, taken_few (length forced) (forced_rows (after_looks (listed set) looks)) e, forced_there (listed set) looks e, rows_any e set.active, rows_any e set.inactive)
      by false none = let same : times e (names forced) ≡ 0 = ap (λ (l : List Try). times e (names l)) none in omega (arith, same)

  pub probed_listed : 1 ≤ times e (names (walk_probes looks forced)) → 1 ≤ times e (elements_of (set.active ++ set.inactive))
  probed_listed some =
      let joined = ap (times e) (map-append (λ (probe : Try). probe.element) (flat_map look_probes looks) forced) ∙ times_append e (names (flat_map look_probes looks)) (names forced) in
      let rows = ap (times e) (elements_append set.active set.inactive) ∙ times_append e (elements_of set.active) (elements_of set.inactive) in
      omega (arith, some, joined, rows, looks_listed, tries_listed)

-- The hashes of probes

hash_told : (rows : List Row) (e : ℕ) (seen : Seen) → (hash : ℕ) × (stored_hash e rows ≡ Some hash) → Some (probe_by rows e seen).hash ≡ stored_hash e rows
hash_told rows e seen (hash, is) = ap (λ (h : Option ℕ). Some (unwrap_or h 0)) is ∙ sym is

hashes_told : (rows : List Row) (tries : List Try) → ((e : ℕ) → 1 ≤ times e (names tries) → 1 ≤ times e (elements_of rows))
    → map (λ (probe : ProbeCall). Some probe.hash) (probes_of_tries rows tries) ≡ map (λ (try : Try). stored_hash try.element rows) tries
hashes_told rows [] there = refl
hashes_told rows (try ∷ tries) there =
    let here = times_here try.element try.element (names tries) refl in
    ap (λ (h : Option ℕ). h ∷ map (λ (probe : ProbeCall). Some probe.hash) (probes_of_tries rows tries))
    (hash_told rows try.element try.probed (stored_there try.element rows (there try.element (omega (arith, here)))))
    ∙ ap (λ (l : List (Option ℕ)). stored_hash try.element rows ∷ l)
    (hashes_told rows tries (λ e some. there e (omega (arith, some, times_more e try.element (names tries)))))

-- what a shrink's probes tell are the stored hashes
pub shrink_told_hashes : (scans target : ℕ) (set : SetView) (note : ShrinkNote) (probes : List ProbeCall) (hashes : List (Option ℕ))
    → IsShrink scans target (listed set) note.looks note.forced → probes ≡ probes_by set note.looks note.forced → hashes ≡ map (λ (probe : ProbeCall). Some probe.hash) probes
    → hashes ≡ shrink_hashes (set.active ++ set.inactive) (Some note)
shrink_told_hashes scans target set note probes hashes is probed told =
    told ∙ (ap (map (λ (probe : ProbeCall). Some probe.hash)) (probed ∙ both_as_tries set note.looks note.forced)
    ∙ hashes_told (set.active ++ set.inactive) (walk_probes note.looks note.forced) (probed_listed scans target set note.looks note.forced is))

-- Rows that change places

own_row : (before : List Row) (rows : List Row) → ((e : ℕ) → times e (elements_of (before ++ rows)) ≤ 1) → All (λ (row : Row). row_of row.element (before ++ rows) ≡ Some row) rows
own_row before [] once = All-nil (λ (row : Row). row_of row.element (before ++ []) ≡ Some row)
own_row before (row ∷ rows) once =
    let P : Row → Type 0 = λ (r : Row). row_of r.element (before ++ row ∷ rows) ≡ Some r in
    let absent : times row.element (elements_of before) ≡ 0 =
    let all = once row.element in
    let parts = ap (times row.element) (elements_append before (row ∷ rows)) ∙ times_append row.element (elements_of before) (elements_of (row ∷ rows)) in
    let here = times_here row.element row.element (elements_of rows) refl in
    omega (arith, all, parts, here) in
    let same : (before ++ row ∷ []) ++ rows ≡ before ++ row ∷ rows = append_assoc before (row ∷ []) rows in
    All-cons P row rows (row_of_split row.element before row rows absent refl)
    (subst (λ (l : List Row). All (λ (r : Row). row_of r.element l ≡ Some r) rows) same
    (own_row (before ++ row ∷ []) rows (λ e. subst (λ (l : List Row). times e (elements_of l) ≤ 1) (sym same) (once e))))

has_found : (P : Row → Type 0) (e : ℕ) (rows : List Row) (row : Row) → All P rows → row_of e rows ≡ Some row → P row
has_found P e [] row all found = absurd cc
has_found P e (x ∷ rows) row all found =
    by_test x.element e (λ b. cond b (Some x) (row_of e rows) ≡ Some row → P row)
    (λ _ here. subst P (same_Some x row here) (All-head P x rows all))
    (λ _ there. has_found P e rows row (All-tail P x rows all) there) found

same_row : (rows moved : List Row) → ((e : ℕ) → times e (elements_of rows) ≤ 1) → IsPermutation rows moved → (e : ℕ) → row_of e moved ≡ row_of e rows
same_row rows moved once permutes e = go (times e (elements_of moved)) refl
  where
    go : (n : ℕ) → times e (elements_of moved) ≡ n → row_of e moved ≡ row_of e rows
    go zero none = row_of_absent e moved none ∙ sym (row_of_absent e rows (sym (times_permuted e rows moved permutes) ∙ none))
    go (suc n) is =
        let P : Row → Type 0 = λ (r : Row). row_of r.element rows ≡ Some r in
        let s = splits e moved (omega (arith, is)) in
        let found : row_of e moved ≡ Some s.1 = ap (row_of e) s.3.around ∙ row_of_split e s.0 s.1 s.2 s.3.not_before s.3.its in
        found ∙ sym (ap (λ (x : ℕ). row_of x rows) (sym s.3.its) ∙ has_found P e moved s.1 (All-permutation P rows moved permutes (own_row [] rows once)) found)

-- an element that has one row is found with the same hash wherever the rows stand
pub same_hash : (rows moved : List Row) → ((e : ℕ) → times e (elements_of rows) ≤ 1) → IsPermutation rows moved → (e : ℕ) → stored_hash e moved ≡ stored_hash e rows
same_hash rows moved once permutes e = ap (option_map (λ (row : Row). row.hash)) (same_row rows moved once permutes e)

pub same_hashes : (rows moved : List Row) (tries : List Try) → ((e : ℕ) → times e (elements_of rows) ≤ 1) → IsPermutation rows moved
    → map (λ (try : Try). stored_hash try.element moved) tries ≡ map (λ (try : Try). stored_hash try.element rows) tries
same_hashes rows moved [] once permutes = refl
same_hashes rows moved (try ∷ tries) once permutes =
    ap (λ (h : Option ℕ). h ∷ map (λ (try : Try). stored_hash try.element moved) tries) (same_hash rows moved once permutes try.element)
    ∙ ap (λ (l : List (Option ℕ)). stored_hash try.element rows ∷ l) (same_hashes rows moved tries once permutes)

-- rows that come to be those of a set are of distinct elements
pub rows_once : (e : ℕ) (rows : List Row) (set : SetView) → IsPermutation rows (set.active ++ set.inactive) → IsSet set → times e (elements_of rows) ≤ 1
rows_once e rows set permutes whole =
    let joined = ap (times e) (elements_append set.active set.inactive) ∙ times_append e (elements_of set.active) (elements_of set.inactive) in
    let once = whole.once e in
    omega (arith, joined, times_permuted e rows (set.active ++ set.inactive) permutes, once)

-- A shrink into a free list that was empty

pub none_left : (bodies : List Stored) → length bodies ≡ 0 → bodies ≡ []
none_left [] none = refl
none_left (body ∷ bodies) none = absurd (omega (arith, none))

pub own_shrunk : (note : ShrinkNote) (before swapped left after : SetView) (empty out out_after : BodyList) (probes : List ProbeCall) (hashes : List (Option ℕ)) (lawful : Bool)
    → HasFreeRoom before → length before.free.bodies ≡ 0 → note.target ≡ 4 → swapped ≡ with_free empty before → out ≡ before.free
    → lawful ≡ true → ShrinkJudged 4 note swapped left out out_after probes lawful → after ≡ with_free out_after left
    → hashes ≡ map (λ (probe : ProbeCall). Some probe.hash) probes → OwnShrunk (Some note) before after hashes
own_shrunk note before swapped left after empty out out_after probes hashes lawful room none target is_swapped is_out so judged is_after told = record {
  allowed = (no_free, target, subst (λ (n : ℕ). IsShrink 4 n (listed before) note.looks note.forced) target (subst (λ (l : Listed). IsShrink 4 note.target l note.looks note.forced) same_rows (judged.allowed so)));
  set = λ i. record { lists = lists_are i; free = free_is i };
  room = omega (arith, room, none, elements, judged.came.room, ap (λ (z : BodyList). z.spare) is_out, ap (λ (z : SetView). length z.free.bodies + z.free.spare) is_after);
  hashes = shrink_told_hashes 4 note.target swapped note probes hashes (judged.allowed so) into.probed told ∙ ap (λ (z : SetView). shrink_hashes (z.active ++ z.inactive) (Some note)) is_swapped;
}
  where
    into : ShrunkInto note.looks note.forced swapped left out_after probes
    into = judged.into so

    no_free : numbers before.free.bodies ≡ []
    no_free = ap numbers (none_left before.free.bodies none)

    same_rows : listed swapped ≡ listed before
    same_rows = ap listed is_swapped

    elements : after.elements ≡ before.elements
    elements = ap (λ (z : SetView). z.elements) is_after ∙ (ap (λ (z : SetView). z.elements) into.set ∙ ap (λ (z : SetView). z.elements) is_swapped)

    lists_are : listed after ≡ shrunk (listed before) note.looks note.forced
    lists_are = ap listed is_after ∙ (ap listed into.set ∙ ap (λ (l : Listed). shrunk l note.looks note.forced) same_rows)

    free_is : numbers after.free.bodies ≡ reverse (freed note.looks note.forced) ++ numbers before.free.bodies
    free_is =
        ap (λ (z : SetView). numbers z.free.bodies) is_after ∙ (into.freed ∙ (sym (append-nil (reverse (freed note.looks note.forced)))
        ∙ ap (λ (l : List ℕ). reverse (freed note.looks note.forced) ++ l) (sym no_free)))

-- A turn

pub own_turned : (hash : ℕ) (active inactive : List Visit) (shrink : Option ShrinkNote) (got : Option ℕ) (before turned left after : SetView) (hashes : List (Option ℕ)) (lawful : Bool)
    → lawful ≡ true → RotationJudged 4 active inactive before turned lawful → OwnShrunk shrink turned left hashes → GivenOut hash got left after
    → OwnTurned (own.Turn hash active inactive shrink got) before after (Probes hashes)
unfolding own_after
own_turned hash active inactive shrink got before turned left after hashes lawful so rotation shrinking giving = record {
  allowed = (rotation.allowed so, subst (AllowsOwnShrink shrink) rotated_is shrinking.allowed, giving.head ∙ ap (λ (z : ListSet). slice_get z.free 0) left_is);
  set = giving.set ∙ ap (given_out hash got) left_is;
  room = giving.room;
  noted = ap Probes (shrinking.hashes ∙ same_hashes (before.active ++ before.inactive) (turned.active ++ turned.inactive) (shrink_probes shrink) once rotation.rows);
}
  where
    rotated_is : set_of turned ≡ rotated_set 4 active inactive (set_of before)
    rotated_is = ap set_of (rotation.set so)

    left_is : set_of left ≡ shrunk_into_free shrink (rotated_set 4 active inactive (set_of before))
    left_is = shrinking.set ∙ ap (shrunk_into_free shrink) rotated_is

    once : (e : ℕ) → times e (elements_of (before.active ++ before.inactive)) ≤ 1
    once e = rows_once e (before.active ++ before.inactive) turned rotation.rows rotation.whole

pub own_pushed : (e : ℕ) (before after : SetView) (lawful : Bool) → lawful ≡ true → PushJudged e before after lawful → OwnTurned (own.Push e) before after Nothing
unfolding own_after
own_pushed e before after lawful so judged = record { allowed = judged.allowed so; set = judged.set so; room = judged.room so; noted = refl }
