-- Lists and sets over a turn of the global lists that fills local lists: what is flushed, and what is left of both.
use Rattle.std.proofs.Common.{◌≡◌, ℕ, ◌≤◌, ◌+◌, Bool, List, [], ◌∷◌, ◌++◌, map, drop, length, take, sym, ap, ◌∙◌, subst, Option, Some, append_assoc, arith}
use Rattle.std.specs.Prelude.{◌||◌, not, reverse, filter, option_map, All, IsPermutation}
use Rattle.std.proofs.lemmas.List.{map-append, reverse-append}
use Rattle.std.proofs.lemmas.List.Elements.{All-nil, All-cons, All-head, All-tail, All-append, All-filter, All-map}
use Rattle.std.proofs.lemmas.List.Sorted.{All-permutation, IsPermutation-reverse}
use Rattle.map_types.specs.declared.row.Row.{Row}
use Rattle.map_types.specs.ElementLists.{times}
use Rattle.map_types.specs.Listed.{Listed, elements_of}
use Rattle.map_types.proofs.RowLemmas.{times_append}
use Rattle.place_words.specs.declared.list_part.GlobalPart.TheVariants as global
use Rattle.place_words.specs.declared.visits.Flush.{Flush}
use Rattle.place_words.specs.declared.visits.ShrinkNote.{ShrinkNote}
use Rattle.place_words.specs.declared.visits.Visit.{Visit}
use Rattle.place_words.specs.Bodies.{numbers}
use Rattle.place_words.specs.Globals.{AllowsGlobalShrink, AllowsOnGlobal, AreFlushed, IsOutside, flush_row, flushed_elements, flushed_rows, flushed_rotated, global_after, global_scans, global_target, shrunk_out, with_flushed}
use Rattle.place_words.specs.Rotation.{AreRotationVisits}
use Rattle.place_words.specs.Sets.{ListSet, rotated_set}
use Rattle.place_words.specs.Takings.{stored_hash}
use Rattle.place_words.proofs.BucketLaws.{times_more}
use Rattle.place_words.proofs.GlobalChoices.{not_there}
use Rattle.place_words.proofs.ElementLemmas.{times_cons_same}
use Rattle.place_table.specs.declared.view.BitAsked.{BitAsked}
use Rattle.place_table.specs.Calls.{clears_found}
use Rattle.place_table.specs.Contents.{set_told}
use Rattle.place_table.specs.Known.{BitTouch}
use Rattle.place_table.proofs.Entries.{append_nil}
use Rattle.row_list.specs.RowWords.{row_of}
use Rattle.row_list.proofs.RowLemmas.{elements_append, times_rows_reverse}
use Rattle.lru_lists.specs.declared.bits.BitCall.{BitCall}
use Rattle.lru_lists.specs.declared.bits.BitCall.TheVariants as calls
use Rattle.lru_lists.specs.Sets.{SetView, listed, times_on}
use Rattle.lru_lists.proofs.SetLemmas.{its_row}
use Rattle.lru_ops.specs.Askings.{asked_after}
use Rattle.lru_ops.specs.OwnTurns.{rows_on}
use Rattle.lru_ops.proofs.Holders.{all_split}
use Rattle.lru_ops.proofs.SetWork.{listed_times, own_row, row_has, stored_row}
use Rattle.lru_ops.proofs.DoesOn.{asked_append}
use Rattle.lru_ops.proofs.RefillTurns.{elements_flushed}

-- What is flushed

-- each element as often as it was pending
pub flushed_times : (e : ℕ) (flushed : List Flush) (pending : List Row) → flushed_rows flushed ≡ reverse pending → times e (flushed_elements flushed) ≡ times e (elements_of pending)
flushed_times e flushed pending is =
    ap (times e) (sym (elements_flushed flushed)) ∙ (ap (λ (l : List Row). times e (elements_of l)) is ∙ times_rows_reverse e pending)

outside : (set : SetView) (e : ℕ) → times_on e set ≡ 0 → IsOutside (set_told set) e
outside set e none =
    let active : times e (elements_of set.active) ≡ 0 = omega (arith, none) in
    let inactive : times e (elements_of set.inactive) ≡ 0 = omega (arith, none) in (
      (λ i. not_there e set.active active i || not_there e set.inactive inactive i),
      omega (arith, none),
    )

-- from outside, each once
pub are_flushed : (set : SetView) (flushed : List Flush) → ((e : ℕ) → times_on e set + times e (flushed_elements flushed) ≤ 1) → AreFlushed (set_told set) flushed
are_flushed set [] apart = tt
are_flushed set (flush ∷ flushed) apart =
    let e : ℕ = flush.element in
    let rest : List ℕ = flushed_elements flushed in
    let once = apart e in
    let here = times_cons_same e rest in (
      outside set e (omega (arith, once, here)),
      omega (arith, once, here),
      are_flushed set flushed (λ x. let most = apart x in let more = times_more x e rest in omega (arith, most, more)),
    )

-- The set

module _ (set flushed_set rotated moved out : SetView) (flushed : List Flush) (active inactive : List Visit) (free : List ℕ) (note : Option ShrinkNote)
    (told_flushed : set_told flushed_set ≡ with_flushed flushed (set_told set))
    (told_rotated : set_told rotated ≡ rotated_set global_scans active inactive (set_told flushed_set))
    (told_moved : set_told moved ≡ record (set_told rotated) { free = drop global_target (numbers rotated.free.bodies) })
    (told_out : set_told out ≡ record (set_told moved) { lists = shrunk_out note (listed moved) }) where
  rotated_told : set_told rotated ≡ flushed_rotated flushed active inactive (set_told set)
  rotated_told = told_rotated ∙ ap (rotated_set global_scans active inactive) told_flushed

  same_free : numbers rotated.free.bodies ≡ numbers set.free.bodies
  unfolding with_flushed
  same_free = ap (λ (z : ListSet). z.free) rotated_told

  listed_moved : listed moved ≡ (flushed_rotated flushed active inactive (set_told set)).lists
  listed_moved = ap (λ (z : ListSet). z.lists) told_moved ∙ ap (λ (z : ListSet). z.lists) rotated_told

  pub turn_left : global_after (global.Turn flushed active inactive free note) (set_told set) ≡ set_told out
  unfolding global_after
  turn_left =
      sym (told_out
      ∙ (λ i. record { lists = shrunk_out note (listed_moved i); free = (ap (λ (z : ListSet). z.free) told_moved ∙ ap (drop global_target) same_free) i }))

  pub turn_allowed : AreFlushed (set_told set) flushed → AreRotationVisits global_scans (listed flushed_set) active inactive → free ≡ take global_target (numbers rotated.free.bodies) → AllowsGlobalShrink (length free) note (listed moved)
      → AllowsOnGlobal (global.Turn flushed active inactive free note) (set_told set)
  turn_allowed are visits free_is shrinks = (
    are,
    subst (λ (z : Listed). AreRotationVisits global_scans z active inactive) (ap (λ (z : ListSet). z.lists) told_flushed) visits,
    free_is ∙ ap (take global_target) same_free,
    subst (AllowsGlobalShrink (length free) note) listed_moved shrinks,
  )

-- Rows

-- The hash that is stored for an element among rows that were flushed to a set and rotated is that of before.
module _ (set flushed_set rotated moved : SetView) (flushed : List Flush) (told_flushed : set_told flushed_set ≡ with_flushed flushed (set_told set)) (turned : IsPermutation (rows_on flushed_set) (rows_on rotated)) (told_moved : listed moved ≡ listed rotated)
    (apart : (e : ℕ) → times_on e set + times e (flushed_elements flushed) ≤ 1) where
  abbrev there : List Row
  there = flushed_rows flushed ++ rows_on set

  once_there : (e : ℕ) → times e (elements_of there) ≤ 1
  once_there e =
      let parts : times e (elements_of there) ≡ times e (elements_of (flushed_rows flushed)) + times e (elements_of (rows_on set)) = ap (times e) (elements_append (flushed_rows flushed) (rows_on set)) ∙ times_append e (elements_of (flushed_rows flushed)) (elements_of (rows_on set)) in
      let names : times e (elements_of (flushed_rows flushed)) ≡ times e (flushed_elements flushed) = ap (times e) (elements_flushed flushed) in
      let rows = listed_times e set in
      let once = apart e in
      omega (arith, parts, names, rows, once)

  abbrev IsThere : Row → Type 0
  IsThere row = row_of row.element there ≡ Some row

  flushed_there : (test : Flush → Bool) → All IsThere (flushed_rows flushed) → All IsThere (reverse (flushed_rows (filter test flushed)))
  flushed_there test all =
      All-permutation IsThere (flushed_rows (filter test flushed)) (reverse (flushed_rows (filter test flushed))) (IsPermutation-reverse (flushed_rows (filter test flushed)))
      (All-map IsThere flush_row (filter test flushed) (All-filter test (λ (flush : Flush). IsThere (flush_row flush)) flushed (each flushed all)))
    where
      each : (those : List Flush) → All IsThere (flushed_rows those) → All (λ (flush : Flush). IsThere (flush_row flush)) those
      each [] all = All-nil (λ (flush : Flush). IsThere (flush_row flush))
      each (flush ∷ those) all = All-cons (λ (flush : Flush). IsThere (flush_row flush)) flush those (All-head IsThere (flush_row flush) (flushed_rows those) all) (each those (All-tail IsThere (flush_row flush) (flushed_rows those) all))

  rows_flushed : rows_on flushed_set ≡ (reverse (flushed_rows (filter (λ (flush : Flush). flush.bit) flushed)) ++ set.active) ++ (reverse (flushed_rows (filter (λ (flush : Flush). not flush.bit) flushed)) ++ set.inactive)
  unfolding with_flushed
  rows_flushed = ap (λ (z : ListSet). z.lists.active ++ z.lists.inactive) told_flushed

  all_there : All IsThere (rows_on moved)
  all_there =
      let parts = all_split IsThere (flushed_rows flushed) (rows_on set) (own_row [] there once_there) in
      let sides = all_split IsThere set.active set.inactive parts.1 in
      let first : List Row = reverse (flushed_rows (filter (λ (flush : Flush). flush.bit) flushed)) in
      let second : List Row = reverse (flushed_rows (filter (λ (flush : Flush). not flush.bit) flushed)) in
      subst (λ (z : Listed). All IsThere (z.active ++ z.inactive)) (sym told_moved)
      (All-permutation IsThere (rows_on flushed_set) (rows_on rotated) turned
      (subst (All IsThere) (sym rows_flushed)
      (All-append IsThere (first ++ set.active) (second ++ set.inactive)
      (All-append IsThere first set.active (flushed_there (λ (flush : Flush). flush.bit) parts.0) sides.0)
      (All-append IsThere second set.inactive (flushed_there (λ (flush : Flush). not flush.bit) parts.0) sides.1))))

  pub stored_before : (e h : ℕ) → stored_hash e (rows_on moved) ≡ Some h → stored_hash e there ≡ Some h
  stored_before e h is =
      let one = stored_row e h moved is in
      ap (λ (x : ℕ). stored_hash x there) (sym (its_row e moved one.0 one.1))
      ∙ (ap (option_map (λ (row : Row). row.hash)) (row_has IsThere moved e one.0 all_there one.1) ∙ ap Some one.2)

-- each flushed row is the one that its element had among those that were pending
pub flushed_stored : (flushed : List Flush) (pending : List Row) → flushed_rows flushed ≡ reverse pending → ((e : ℕ) → times e (elements_of pending) ≤ 1) → All (λ (flush : Flush). stored_hash flush.element pending ≡ Some flush.hash) flushed
flushed_stored flushed pending is once =
    let P : Row → Type 0 = λ (row : Row). row_of row.element pending ≡ Some row in
    each flushed (subst (All P) (sym is) (All-permutation P pending (reverse pending) (IsPermutation-reverse pending) (own_row [] pending once)))
  where
    each : (those : List Flush) → All (λ (row : Row). row_of row.element pending ≡ Some row) (flushed_rows those) → All (λ (flush : Flush). stored_hash flush.element pending ≡ Some flush.hash) those
    each [] all = All-nil (λ (flush : Flush). stored_hash flush.element pending ≡ Some flush.hash)
    each (flush ∷ those) all =
        All-cons (λ (f : Flush). stored_hash f.element pending ≡ Some f.hash) flush those
        (ap (option_map (λ (row : Row). row.hash)) (All-head (λ (row : Row). row_of row.element pending ≡ Some row) (flush_row flush) (flushed_rows those) all))
        (each those (All-tail (λ (row : Row). row_of row.element pending ≡ Some row) (flush_row flush) (flushed_rows those) all))

-- what came to a free list that was empty: first what moved, then what was freed
pub free_filled : (moved gone : List ℕ) → reverse gone ++ (reverse moved ++ []) ≡ reverse (moved ++ gone)
free_filled moved gone = ap (λ (l : List ℕ). reverse gone ++ l) (append_nil (reverse moved)) ∙ sym (reverse-append moved gone)

-- Bits, of flushes, of a rotation and of a shrink

asked_both : (a b : List Visit) (asked : List BitAsked) → asked_after (map calls.Cleared b) (asked_after (map calls.Cleared a) asked) ≡ asked_after (map calls.Cleared (a ++ b)) asked
asked_both a b asked = sym (ap (λ (l : List BitCall). asked_after l asked) (map-append calls.Cleared a b) ∙ asked_append (map calls.Cleared a) (map calls.Cleared b) asked)

in_a_row : (a b c d : List Visit) → (a ++ (b ++ c)) ++ d ≡ a ++ (b ++ (c ++ d))
in_a_row a b c d = append_assoc a (b ++ c) d ∙ ap (λ (l : List Visit). a ++ l) (append_assoc b c d)

pub asked_in_a_row : (a b c d : List Visit) (asked : List BitAsked) → asked_after (map calls.Cleared d) (asked_after (map calls.Cleared (b ++ c)) (asked_after (map calls.Cleared a) asked)) ≡ asked_after (map calls.Cleared (a ++ (b ++ (c ++ d)))) asked
asked_in_a_row a b c d asked =
    ap (asked_after (map calls.Cleared d)) (asked_both a (b ++ c) asked)
    ∙ (asked_both (a ++ (b ++ c)) d asked ∙ ap (λ (l : List Visit). asked_after (map calls.Cleared l) asked) (in_a_row a b c d))

pub bits_in_a_row : (a b c d : List Visit) → ((map clears_found a ++ map clears_found (b ++ c)) ++ []) ++ map clears_found d ≡ map clears_found (a ++ (b ++ (c ++ d)))
bits_in_a_row a b c d =
    ap (λ (l : List BitTouch). l ++ map clears_found d) (append_nil (map clears_found a ++ map clears_found (b ++ c)) ∙ sym (map-append clears_found a (b ++ c)))
    ∙ (sym (map-append clears_found (a ++ (b ++ c)) d) ∙ ap (map clears_found) (in_a_row a b c d))
