-- The turn of the global lists that is computed in serial order, with the refill around it, is one that the rules allow.
use Rattle.std.proofs.Common.{◌≡◌, ℕ, ◌<◌, ◌≤◌, Bool, true, false, List, [], ◌∷◌, ◌++◌, length, take, reverse, map, refl, ap, ◌∙◌, sym, subst, arith}
use Rattle.std.specs.Prelude.{None, Some, nat_lt, ◌-◌, if◌then◌else◌}
use Rattle.std.proofs.lemmas.List.{map-append, reverse-append}
use Rattle.map_types.specs.declared.attr.Shape.{Shape}
use Rattle.map_types.specs.declared.row.Row.{Row}
use Rattle.map_types.specs.ElementLists.{times}
use Rattle.map_types.specs.Listed.{Listed, elements_of}
use Rattle.place_words.specs.declared.history.Part.TheVariants as parts
use Rattle.place_words.specs.declared.list_part.LocalPart.{LocalPart}
use Rattle.place_words.specs.declared.list_part.LocalPart.TheVariants as local
use Rattle.place_words.specs.declared.visits.Flush.{Flush}
use Rattle.place_words.specs.declared.visits.Visit.{Visit}
use Rattle.place_words.specs.Choices.{without_bits, active_visits, inactive_visits, bits_rotated, shrink_of, flush_of, global_turn, refill_of}
use Rattle.place_words.specs.Globals.{global_scans, global_target, flush_visit, flushed_elements, flushed_rows, with_flushed, IsOutside, AreFlushed, AllowsGlobalShrink, AllowsOnGlobal}
use Rattle.place_words.specs.Histories.{in_global}
use Rattle.place_words.specs.Locals.{LocalLists, last_of, AllowsOnLocal}
use Rattle.place_words.specs.Moves.{elements_of_set, taken_from_global}
use Rattle.place_words.specs.Rotation.{visits_of, rotated}
use Rattle.place_words.specs.RowMoves.{gone_by_global}
use Rattle.place_words.specs.Sets.{ListSet, has_row, is_listed}
use Rattle.place_words.specs.Takings.{global_probes, rows_brought, listed_rows}
use Rattle.map_types.proofs.RowLemmas.{AreOnce, times_rows-append, times_rows-cons, times_rows-reverse}
use Rattle.place_words.proofs.BucketLaws.{times_more}
use Rattle.place_words.proofs.KeepLaws.{in_elements, has_one, listed_one, flushed_in}
use Rattle.place_words.proofs.LookLaws.{shrink_allowed}
use Rattle.place_words.proofs.Loses.{in_set}
use Rattle.place_words.proofs.OwnLaws.{visits_name, rotation_visits, shrink_where_probed, shrink_listed}
use Rattle.place_words.proofs.RotationCounts.{rotated_less}
use Rattle.place_words.proofs.RowCounts.{any, rows_any}
use Rattle.place_words.proofs.ShrinkProbes.{removed_tries, shrink_probed}

nat_lt_yes : (m n : ℕ) → nat_lt m n ≡ true → m < n
nat_lt_yes m n same = grind (arith, same)

nat_lt_no : (m n : ℕ) → nat_lt m n ≡ false → n ≤ m
nat_lt_no m n same = grind (arith, same)

global_shrink_where : (few : Bool) (moved : ℕ) (bits : ℕ → Bool) (lists : Listed) → nat_lt moved global_target ≡ few
    → AllowsGlobalShrink moved (if few then Some (shrink_of global_scans (global_target - moved) bits lists) else None) lists
unfolding shrink_of
global_shrink_where true moved bits lists few = (nat_lt_yes moved global_target few, refl, shrink_allowed global_scans (global_target - moved) bits lists)
global_shrink_where false moved bits lists few = nat_lt_no moved global_target few

-- all that is pending is flushed, tail first
abbrev pub now_flushed : (ℕ → Bool) → List Row → List Flush
now_flushed bits pending = map (flush_of bits) (reverse pending)

-- the computed turn of the global lists is allowed where the flushed elements come from outside
pub global_turn_allowed : (bits : ℕ → Bool) (pending : List Row) (set : ListSet) → AreFlushed set (now_flushed bits pending) → AllowsOnGlobal (global_turn bits pending set) set
unfolding global_turn
global_turn_allowed bits pending set flushed = (flushed, rotation_visits _ _ _, refl, global_shrink_where _ _ _ _ refl)

-- What is flushed

flush_rows_back : (bits : ℕ → Bool) (rows : List Row) → flushed_rows (map (flush_of bits) rows) ≡ rows
flush_rows_back bits [] = refl
flush_rows_back bits (row ∷ rows) = ap (λ (rest : List Row). row ∷ rest) (flush_rows_back bits rows)

pub flush_names : (bits : ℕ → Bool) (rows : List Row) → flushed_elements (map (flush_of bits) rows) ≡ elements_of rows
flush_names bits [] = refl
flush_names bits (row ∷ rows) = ap (λ (es : List ℕ). row.element ∷ es) (flush_names bits rows)

flush_visits : (bits : ℕ → Bool) (rows : List Row) → map flush_visit (map (flush_of bits) rows) ≡ visits_of bits rows
flush_visits bits [] = refl
flush_visits bits (row ∷ rows) = ap (λ (visits : List Visit). (record { element = row.element; bit = bits row.element }) ∷ visits) (flush_visits bits rows)

-- all that is pending is flushed with its hashes, tail first
pub with_hashes : (bits : ℕ → Bool) (pending : List Row) → flushed_rows (now_flushed bits pending) ≡ reverse pending
with_hashes bits pending = flush_rows_back bits (reverse pending)

pub elements_turned : (rows : List Row) → elements_of (reverse rows) ≡ reverse (elements_of rows)
elements_turned [] = refl
elements_turned (row ∷ rows) =
    ap elements_of (reverse-append (row ∷ []) rows) ∙ map-append (λ (r : Row). r.element) (reverse rows) (row ∷ [])
    ∙ ap (λ (es : List ℕ). es ++ row.element ∷ []) (elements_turned rows) ∙ sym (reverse-append (row.element ∷ []) (elements_of rows))

-- what has no row isn't listed
pub not_there : (e : ℕ) (rows : List Row) → times e (elements_of rows) ≡ 0 → has_row e rows ≡ false
not_there e rows none = by (has_row e rows) refl
  where
    by : (has : Bool) → has_row e rows ≡ has → has_row e rows ≡ false
    by true is = absurd (omega (arith, none, rows_any e rows, has_one e rows is))
    by false is = is

not_listed : (e : ℕ) (lists : Listed) → in_set e any lists ≡ 0 → is_listed e lists ≡ false
not_listed e lists none = by (is_listed e lists) refl
  where
    by : (is : Bool) → is_listed e lists ≡ is → is_listed e lists ≡ false
    by true is = absurd (omega (arith, none, listed_one e lists is))
    by false is = is

outside_set : (set : ListSet) (e : ℕ) → times e (elements_of_set set) ≡ 0 → IsOutside set e
outside_set set e none = (not_listed e set.lists (omega (arith, none, in_elements set e)), omega (arith, none, in_elements set e))

are_flushed : (bits : ℕ → Bool) (set : ListSet) (rows : List Row) → AreOnce rows → ((e : ℕ) → 1 ≤ times e (elements_of rows) → times e (elements_of_set set) ≡ 0) → AreFlushed set (map (flush_of bits) rows)
are_flushed bits set [] once outside = tt
are_flushed bits set (row ∷ rows) once outside =
    let here = times_rows-cons row rows in
    let most = once row.element in
    let rest : times row.element (elements_of rows) ≡ 0 = omega (arith, here, most) in (
      outside_set set row.element (outside row.element (omega (arith, here))),
      ap (times row.element) (flush_names bits rows) ∙ rest,
      are_flushed bits set rows
          (λ e. omega (arith, once e, times_more e row.element (elements_of rows)))
          (λ e some. outside e (omega (arith, some, times_more e row.element (elements_of rows)))),
    )

-- the computed turn of the global lists is allowed where no element is pending twice, and what is pending isn't there
pub global_turn_fits : (bits : ℕ → Bool) (pending : List Row) (set : ListSet) → AreOnce pending → ((e : ℕ) → 1 ≤ times e (elements_of pending) → times e (elements_of_set set) ≡ 0)
    → AllowsOnGlobal (global_turn bits pending set) set
global_turn_fits bits pending set once outside =
    global_turn_allowed bits pending set (are_flushed bits set (reverse pending)
    (λ e. omega (arith, once e, times_rows-reverse e pending))
    (λ e some. outside e (omega (arith, some, times_rows-reverse e pending))))

-- Its probes are tries of exactly the elements that its shrink frees, in order, and each removes.
pub global_probed : (bits : ℕ → Bool) (pending : List Row) (set : ListSet) → global_probes (global_turn bits pending set) ≡ removed_tries (gone_by_global (global_turn bits pending set))
unfolding global_turn
global_probed bits pending set = shrink_where_probed (nat_lt (length (take global_target set.free)) global_target) _ (shrink_probed global_scans _ _ _)

-- the rows that it brings are those that were pending
pub global_brings : (bits : ℕ → Bool) (pending : List Row) (set : ListSet) → rows_brought (parts.Global (global_turn bits pending set)) ≡ reverse pending
unfolding global_turn
global_brings bits pending set = with_hashes bits pending

-- each probe is of an element that was pending or listed there
pub global_gone_listed : (bits : ℕ → Bool) (pending : List Row) (set : ListSet) (e : ℕ)
    → times e (gone_by_global (global_turn bits pending set)) ≤ times e (elements_of (rows_brought (parts.Global (global_turn bits pending set)) ++ listed_rows (in_global set)))
unfolding global_turn
global_gone_listed bits pending set e =
    let flushed : List Flush = now_flushed bits pending in
    let now : Listed = (with_flushed flushed set).lists in
    let left : ℕ → Bool = without_bits (elements_of pending) bits in
    let active : List Visit = active_visits global_scans left now in
    let inactive : List Visit = inactive_visits global_scans left now in
    let moved : ℕ = length (take global_target set.free) in
    let gone = shrink_listed (nat_lt moved global_target) global_scans (global_target - moved) (bits_rotated global_scans left now) (rotated global_scans now active inactive) e in
    let brought = rows_any e (flushed_rows flushed) in
    let whole = times_rows-append e (flushed_rows flushed) (set.lists.active ++ set.lists.inactive) in
    let apart = times_rows-append e set.lists.active set.lists.inactive in
    omega (arith, gone, rotated_less global_scans now active inactive e, flushed_in set flushed e any, brought, whole, apart, rows_any e set.lists.active, rows_any e set.lists.inactive)

-- The refill around it

-- It tells the bits that the global turn found on what was pending, and brings what that moved off free and what it freed.
pub refill_is : (key_hash : ℕ) (bits : ℕ → Bool) (pending : List Row) (set : ListSet)
    → refill_of key_hash (global_turn bits pending set)
    ≡ local.Refill key_hash (visits_of bits (reverse pending)) (taken_from_global (global_turn bits pending set)) (last_of (taken_from_global (global_turn bits pending set)))
unfolding global_turn
refill_is key_hash bits pending set = ap (λ (visits : List Visit). local.Refill key_hash visits (taken_from_global (global_turn bits pending set)) (last_of (taken_from_global (global_turn bits pending set)))) (flush_visits bits (reverse pending))

-- the computed refill is allowed on local lists with nothing free
pub refill_allowed : (shape : Shape) (key_hash : ℕ) (bits : ℕ → Bool) (set : ListSet) (lists : LocalLists) → lists.free ≡ []
    → AllowsOnLocal shape (refill_of key_hash (global_turn bits lists.pending set)) lists
refill_allowed shape key_hash bits set lists none_free =
    subst (λ (part : LocalPart). AllowsOnLocal shape part lists) (sym (refill_is key_hash bits lists.pending set))
    (none_free, visits_name bits (reverse lists.pending) ∙ elements_turned lists.pending, refl)
