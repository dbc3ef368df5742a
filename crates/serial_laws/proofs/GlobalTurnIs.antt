-- On a map whose CPUs share lists, the turn of the global lists inside a refill is determined by the lists and the bits.
use Rattle.std.proofs.Common.{◌≡◌, ℕ, suc, ◌-◌, ◌<◌, ◌≤◌, Bool, true, false, not, cond, ◌||◌, eqb, List, [], ◌∷◌, ◌++◌, length, take, reverse, map, refl, ap, ◌∙◌, sym, subst, arith}
use Rattle.std.proofs.Math.Path.{fun_ext}
use Rattle.std.specs.Prelude.{Option, None, Some}
use Rattle.std.proofs.lemmas.Bool.{ne_eqb, lt-ltb, le-ltb}
use Rattle.map_types.specs.declared.attr.Shape.{Shape}
use Rattle.map_types.specs.declared.kind.DomainId.{DomainId}
use Rattle.map_types.specs.declared.row.Row.{Row}
use Rattle.map_types.specs.ElementLists.{times}
use Rattle.map_types.specs.Listed.{Listed, elements_of}
use Rattle.map_types.proofs.RowLemmas.{AreOnce, times_rows-reverse}
use Rattle.place_words.specs.declared.list_part.GlobalPart.{GlobalPart}
use Rattle.place_words.specs.declared.list_part.GlobalPart.TheVariants as global
use Rattle.place_words.specs.declared.visits.Flush.{Flush}
use Rattle.place_words.specs.declared.visits.ShrinkNote.{ShrinkNote}
use Rattle.place_words.specs.declared.visits.Try.{Try}
use Rattle.place_words.specs.declared.visits.Visit.{Visit}
use Rattle.place_words.specs.Choices.{among, without_bits, shrink_of, active_visits, inactive_visits, flush_of, global_shrink, global_turn}
use Rattle.place_words.specs.Globals.{global_scans, global_target, flush_visit, flushed_rows, with_flushed, flushed_rotated, AllowsGlobalShrink, AllowsOnGlobal}
use Rattle.place_words.specs.Histories.{Content, looks_told}
use Rattle.place_words.specs.Rotation.{visited_elements, visits_of, rotated}
use Rattle.place_words.specs.RowMoves.{rows_of}
use Rattle.place_words.specs.Sets.{ListSet}
use Rattle.place_words.specs.Shrinking.{IsShrink}
use Rattle.place_words.specs.Takings.{shrink_probes, Chase}
use Rattle.place_words.specs.Turns.{Turn, AreAllowed}
use Rattle.place_words.proofs.ChaseDone.{names_of}
use Rattle.place_words.proofs.KeepLaws.{flushed_in}
use Rattle.place_words.proofs.Loses.{in_set}
use Rattle.place_words.proofs.RotationCounts.{rotated_less}
use Rattle.place_words.proofs.RowCounts.{any, rows_append, rows_any}
use Rattle.serial_laws.proofs.LooksTold.{heads, tails, not_nil}
use Rattle.serial_laws.proofs.ProbesRemoved.{CanOnlyRemove}
use Rattle.serial_laws.proofs.TurnsMade.{FindBits, find_both, visits_found}
use Rattle.serial_laws.proofs.WalksTold.{note_is, active_is, inactive_is, told_then}

-- Flushes

named_flushes : (flushed : List Flush) → visited_elements (map flush_visit flushed) ≡ elements_of (flushed_rows flushed)
named_flushes [] = refl
named_flushes (flush ∷ flushed) = ap (λ (es : List ℕ). flush.element ∷ es) (named_flushes flushed)

flushes_by : (bits : ℕ → Bool) (rows : List Row) (flushed : List Flush) → flushed_rows flushed ≡ rows → map flush_visit flushed ≡ visits_of bits rows → flushed ≡ map (flush_of bits) rows
flushes_by bits [] [] hashes visits = refl
flushes_by bits [] (flush ∷ flushed) hashes visits = absurd (not_nil hashes)
flushes_by bits (row ∷ rows) [] hashes visits = absurd (not_nil (sym hashes))
flushes_by bits (row ∷ rows) (flush ∷ flushed) hashes visits =
    let row_is = heads _ _ _ _ hashes in
    let visit_is = heads _ _ _ _ visits in
    let rest = flushes_by bits rows flushed (tails _ _ _ _ hashes) (tails _ _ _ _ visits) in
    (λ i. record { element = (row_is i).element; hash = (row_is i).hash; bit = (visit_is i).bit } ∷ rest i)

pub flushes_are : (n : ℕ) (bits : ℕ → Bool) (rows : List Row) (flushed : List Flush) → AreOnce rows → ((e : ℕ) → 1 ≤ times e (elements_of rows) → e < n) → flushed_rows flushed ≡ rows → FindBits n bits (map flush_visit flushed)
    → flushed ≡ map (flush_of bits) rows
flushes_are n bits rows flushed once real hashes told =
    flushes_by bits rows flushed hashes (visits_found n bits rows (map flush_visit flushed) once real (named_flushes flushed ∙ ap elements_of hashes) told)

-- the same elements in another order clear the same bits
among_times : (es : List ℕ) (e : ℕ) → among es e ≡ not (eqb (times e es) 0)
among_times [] e = refl
among_times (x ∷ es) e = by (eqb x e) (among_times es e)
  where
    some : (n : ℕ) → true ≡ not (eqb (suc n) 0)
    some n = ap not (sym (ne_eqb (suc n) 0 (λ same. omega (arith, same))))

    by : (b : Bool) → among es e ≡ not (eqb (times e es) 0) → (b || among es e) ≡ not (eqb (cond b (suc (times e es)) (times e es)) 0)
    by true is = some (times e es)
    by false is = is

without_turned : (rows : List Row) (bits : ℕ → Bool) → without_bits (elements_of (reverse rows)) bits ≡ without_bits (elements_of rows) bits
without_turned rows bits =
    fun_ext (λ e. ap (λ (b : Bool). cond b false (bits e)) (among_times (elements_of (reverse rows)) e ∙ ap (λ (n : ℕ). not (eqb n 0)) (times_rows-reverse e rows) ∙ sym (among_times (elements_of rows) e)))

-- The shrink after a rotation

global_shrink_is : (moved : ℕ) (bits : ℕ → Bool) (lists : Listed) (shrink : Option ShrinkNote) → AllowsGlobalShrink moved shrink lists
    → ((note : ShrinkNote) → shrink ≡ Some note → note.target ≡ global_target - moved → IsShrink global_scans (global_target - moved) lists note.looks note.forced → note ≡ shrink_of global_scans (global_target - moved) bits lists)
    → shrink ≡ global_shrink moved bits lists
global_shrink_is moved bits lists None may note_is = ap (λ (b : Bool). cond b (Some (shrink_of global_scans (global_target - moved) bits lists)) None) (sym (le-ltb moved global_target may))
global_shrink_is moved bits lists (Some note) may note_is =
    ap Some (note_is note refl may.1 (subst (λ (target : ℕ). IsShrink global_scans target lists note.looks note.forced) may.1 may.2))
    ∙ ap (λ (b : Bool). cond b (Some (shrink_of global_scans (global_target - moved) bits lists)) None) (sym (lt-ltb moved global_target may.0))

-- what a turn of the global lists is after these flushes and visits
abbrev turn_from : ListSet → (ℕ → Bool) → List Flush → List Visit → List Visit → GlobalPart
turn_from set left flushed active inactive =
    let free : List ℕ = take global_target set.free in
    global.Turn flushed active inactive free (global_shrink (length free) (without_bits (visited_elements active ++ visited_elements inactive) left) (flushed_rotated flushed active inactive set).lists)

abbrev turn_after : ListSet → (ℕ → Bool) → List Flush → GlobalPart
turn_after set left flushed =
    turn_from set left flushed (active_visits global_scans left (with_flushed flushed set).lists) (inactive_visits global_scans left (with_flushed flushed set).lists)

-- A turn of the global lists that is allowed there, after the turns of its probes, flushes all that is pending with its hashes, and
-- tells the bits.
module _ (shape : Shape) (cpu : ℕ) (contents : DomainId → Content) (bits : ℕ → Bool) (pending : List Row) (set : ListSet) (flushed : List Flush) (active inactive : List Visit) (free : List ℕ) (shrink : Option ShrinkNote) where
  abbrev pub rows_there : List Row
  rows_there = flushed_rows flushed ++ (set.lists.active ++ set.lists.inactive)

  module _ (once : (e : ℕ) → rows_of e any rows_there ≤ 1) (real : (e : ℕ) → 1 ≤ rows_of e any rows_there → e < shape.elements)
      (can : (probes : List Try) → ((e : ℕ) → times e (names_of probes) ≤ rows_of e any rows_there) → CanOnlyRemove shape rows_there contents probes)
      (hashes : flushed_rows flushed ≡ reverse pending) (may : AllowsOnGlobal (global.Turn flushed active inactive free shrink) set)
      (told : FindBits shape.elements bits (map flush_visit flushed ++ (active ++ (inactive ++ looks_told shrink))))
      (turns : List Turn) (chase : Chase shape rows_there (shrink_probes shrink) turns) (allowed : AreAllowed shape cpu contents turns) where
    abbrev now : Listed
    now = (with_flushed flushed set).lists

    abbrev left : ℕ → Bool
    left = without_bits (visited_elements (map flush_visit flushed)) bits

    all_rows : (e : ℕ) → rows_of e any rows_there ≡ in_set e any now
    all_rows e = omega (arith, rows_append e any (flushed_rows flushed) (set.lists.active ++ set.lists.inactive), rows_append e any set.lists.active set.lists.inactive, flushed_in set flushed e any)

    pending_few : (e : ℕ) → times e (elements_of (reverse pending)) ≤ rows_of e any rows_there
    pending_few e =
        let same : times e (elements_of (flushed_rows flushed)) ≡ times e (elements_of (reverse pending)) = ap (λ (rows : List Row). times e (elements_of rows)) hashes in
        omega (arith, same, rows_any e (flushed_rows flushed), rows_append e any (flushed_rows flushed) (set.lists.active ++ set.lists.inactive))

    found_them : FindBits shape.elements bits (map flush_visit flushed) × FindBits shape.elements left (active ++ (inactive ++ looks_told shrink))
    found_them = find_both shape.elements bits (map flush_visit flushed) (active ++ (inactive ++ looks_told shrink)) told

    flushed_are : flushed ≡ map (flush_of bits) (reverse pending)
    flushed_are = flushes_are shape.elements bits (reverse pending) flushed (λ e. omega (arith, once e, pending_few e)) (λ e some. real e (omega (arith, some, pending_few e))) hashes found_them.0

    left_is : left ≡ without_bits (elements_of pending) bits
    left_is = ap (λ (es : List ℕ). without_bits es bits) (named_flushes flushed ∙ ap elements_of hashes) ∙ without_turned pending bits

    once_now : (e : ℕ) → in_set e any now ≤ 1
    once_now e = omega (arith, once e, all_rows e)

    real_now : (e : ℕ) → 1 ≤ in_set e any now → e < shape.elements
    real_now e some = real e (omega (arith, some, all_rows e))

    active_then : active ≡ active_visits global_scans left now
    active_then = active_is shape.elements global_scans left now active inactive (looks_told shrink) once_now real_now may.1 found_them.1

    inactive_then : inactive ≡ inactive_visits global_scans left now
    inactive_then = inactive_is shape.elements global_scans left now active inactive (looks_told shrink) once_now real_now may.1 found_them.1

    abbrev left_then : ℕ → Bool
    left_then = without_bits (visited_elements active ++ visited_elements inactive) left

    shrink_then : shrink ≡ global_shrink (length free) left_then (flushed_rotated flushed active inactive set).lists
    shrink_then =
        global_shrink_is (length free) left_then (flushed_rotated flushed active inactive set).lists shrink may.3
        (λ note is target shrinks.
        note_is shape cpu contents rows_there left_then (rotated global_scans now active inactive) once (λ e. omega (arith, all_rows e, rotated_less global_scans now active inactive e)) real can turns
        global_scans (global_target - length free) note target shrinks
        (subst (λ (s : Option ShrinkNote). FindBits shape.elements left_then (looks_told s)) is
        (told_then shape.elements global_scans left now active inactive (looks_told shrink) once_now real_now may.1 found_them.1))
        (subst (λ (s : Option ShrinkNote). Chase shape rows_there (shrink_probes s) turns) is chase) allowed)

    turned_from : global.Turn flushed active inactive free shrink ≡ turn_from set left flushed active inactive
    turned_from =
        ap (λ (s : Option ShrinkNote). global.Turn flushed active inactive free s) shrink_then
        ∙ ap (λ (f : List ℕ). global.Turn flushed active inactive f (global_shrink (length f) left_then (flushed_rotated flushed active inactive set).lists)) may.2

    pub global_turn_is : global.Turn flushed active inactive free shrink ≡ global_turn bits pending set
    unfolding global_turn
    global_turn_is = turned_from ∙ (λ i. turn_from set left flushed (active_then i) (inactive_then i)) ∙ (λ i. turn_after set (left_is i) (flushed_are i))
