-- The visits of a rotation, and the looks and tries of a shrink, are determined by the lists and the bits.
use Rattle.std.proofs.Common.{◌≡◌, ◌⊎◌, ℕ, ◌+◌, ◌<◌, ◌≤◌, Bool, true, false, cond, eqb, ltb, List, [], ◌∷◌, ◌++◌, length, take, reverse, map, refl, ap, ◌∙◌, sym, subst, inl, inr, arith}
use Rattle.std.specs.Prelude.{Option, None, Some, MatchBool, count_by}
use Rattle.std.specs.List.{flat_map}
use Rattle.std.proofs.lemmas.Bool.{eqb-true}
use Rattle.std.proofs.lemmas.List.{length-reverse, map-append}
use Rattle.map_types.specs.declared.attr.Shape.{Shape}
use Rattle.map_types.specs.declared.kind.DomainId.{DomainId}
use Rattle.map_types.specs.declared.row.Row.{Row}
use Rattle.map_types.specs.ElementLists.{times}
use Rattle.map_types.specs.Listed.{Listed, elements_of}
use Rattle.map_types.proofs.RowLemmas.{AreOnce, times_append}
use Rattle.place_words.specs.declared.bucket_part.Seen.{Seen}
use Rattle.place_words.specs.declared.visits.Look.{Look}
use Rattle.place_words.specs.declared.visits.ShrinkNote.{ShrinkNote}
use Rattle.place_words.specs.declared.visits.Try.{Try}
use Rattle.place_words.specs.declared.visits.Visit.{Visit}
use Rattle.place_words.specs.Choices.{without_bits, looks_over, forced_over, forced_after, shrink_of, active_visits, inactive_visits}
use Rattle.place_words.specs.Histories.{Content, look_visit, looks_told}
use Rattle.place_words.specs.Rotation.{visited_elements, visits_of, active_visited, active_rotated, inactive_visited, AreRotationVisits}
use Rattle.place_words.specs.RowMoves.{rows_of}
use Rattle.place_words.specs.Shrinking.{IsFirstEnd, AreTries, IsShrink, look_removed, forced_rows, after_looks}
use Rattle.place_words.specs.Takings.{look_probes, shrink_probes, Chase}
use Rattle.place_words.specs.Turns.{Turn, AreAllowed}
use Rattle.place_words.proofs.BucketLaws.{times_more}
use Rattle.place_words.proofs.ChaseDone.{names_of, AreRemoved}
use Rattle.place_words.proofs.LookLaws.{ends_at, tries_end}
use Rattle.place_words.proofs.Loses.{in_set, active_loses}
use Rattle.place_words.proofs.RotationCounts.{visited_few}
use Rattle.place_words.proofs.RowCounts.{any, rows_any, rows_cut, rows_reverse}
use Rattle.place_words.proofs.ShrinkProbes.{forced_there}
use Rattle.serial_laws.proofs.LooksTold.{NoneHeld, looks_computed, tries_computed}
use Rattle.serial_laws.proofs.ProbesRemoved.{CanOnlyRemove, walk_removed}
use Rattle.serial_laws.proofs.TurnsMade.{FindBits, without_both, find_both, visits_found}

-- Shrinks

pub visited_looks : (looks : List Look) → visited_elements (map look_visit looks) ≡ map (λ (look : Look). look.element) looks
visited_looks [] = refl
visited_looks (look ∷ looks) = ap (λ (es : List ℕ). look.element ∷ es) (visited_looks looks)

pub taken_few : (n : ℕ) (rows : List Row) (e : ℕ) → times e (elements_of (take n (reverse rows))) ≤ rows_of e any rows
taken_few n rows e = omega (arith, rows_reverse e any rows, rows_cut e any n (reverse rows), rows_any e (take n (reverse rows)))

once_taken : (n : ℕ) (rows : List Row) → AreOnce rows → AreOnce (take n (reverse rows))
once_taken n rows once e = omega (arith, once e, rows_any e rows, rows_reverse e any rows, rows_cut e any n (reverse rows), rows_any e (take n (reverse rows)))

module _ (n scans target : ℕ) (bits : ℕ → Bool) (lists : Listed) (looks : List Look) (forced : List Try) (is : IsShrink scans target lists looks forced) (once : AreOnce lists.inactive)
    (real : (e : ℕ) → 1 ≤ times e (elements_of lists.inactive) → e < n) (told : FindBits n bits (map look_visit looks)) (held : NoneHeld looks) (removed : AreRemoved forced) where
  looks_are : looks ≡ looks_over bits scans target (reverse lists.inactive)
  looks_are =
      looks_computed bits scans target (reverse lists.inactive) looks
      (visits_found n bits (take (length looks) (reverse lists.inactive)) (map look_visit looks) (once_taken (length looks) lists.inactive once)
      (λ e some. real e (omega (arith, some, taken_few (length looks) lists.inactive e, rows_any e lists.inactive))) (visited_looks looks ∙ is.looked.from_tail) told)
      is.looked.probed held
      (subst (λ n. IsFirstEnd (ends_at scans target n) looks) (sym (length-reverse lists.inactive)) is.looked.until)

  tries_are : forced ≡ forced_after looks (reverse (forced_rows (after_looks lists looks)))
  tries_are = by (eqb (count_by look_removed looks) 0) is.tried
    where
      by : (none : Bool) → MatchBool none (AreTries (after_looks lists looks) forced) (forced ≡ []) → forced ≡ cond none (forced_over (reverse (forced_rows (after_looks lists looks)))) []
      by true tries =
          tries_computed (reverse (forced_rows (after_looks lists looks))) forced tries.from_tail removed
          (subst (λ n. IsFirstEnd (tries_end n) forced) (sym (length-reverse (forced_rows (after_looks lists looks)))) tries.until)
      by false none = none

  pub shrink_is : record { target = target; looks = looks; forced = forced } ≡ shrink_of scans target bits lists
  unfolding shrink_of
  shrink_is =
      let tries : forced ≡ forced_after (looks_over bits scans target (reverse lists.inactive)) (reverse (forced_rows (after_looks lists (looks_over bits scans target (reverse lists.inactive))))) =
      tries_are ∙ ap (λ (l : List Look). forced_after l (reverse (forced_rows (after_looks lists l)))) looks_are in
      (λ i. record { target = target; looks = looks_are i; forced = tries i })

-- What is probed is listed

look_named : (look : Look) (probed : Option Seen) (e : ℕ) → times e (names_of (look_probes (record look { probed = probed }))) ≤ times e (look.element ∷ [])
look_named look None e = omega arith
look_named look (Some seen) e = omega arith

pub looks_named : (looks : List Look) (e : ℕ) → times e (names_of (flat_map look_probes looks)) ≤ times e (map (λ (look : Look). look.element) looks)
looks_named [] e = omega arith
looks_named (look ∷ looks) e =
    let joined : times e (names_of (look_probes look ++ flat_map look_probes looks)) ≡ times e (names_of (look_probes look)) + times e (names_of (flat_map look_probes looks)) =
    ap (times e) (map-append (λ (probe : Try). probe.element) (look_probes look) (flat_map look_probes looks)) ∙ times_append e (names_of (look_probes look)) (names_of (flat_map look_probes looks)) in
    omega (arith, joined, look_named look look.probed e, looks_named looks e, times_more e look.element (map (λ (l : Look). l.element) looks))

module _ (scans target : ℕ) (lists : Listed) (looks : List Look) (forced : List Try) (is : IsShrink scans target lists looks forced) (e : ℕ) where
  looks_listed : times e (names_of (flat_map look_probes looks)) ≤ in_set e any lists
  looks_listed =
      let same : times e (map (λ (look : Look). look.element) looks) ≡ times e (elements_of (take (length looks) (reverse lists.inactive))) = ap (times e) is.looked.from_tail in
      omega (arith, looks_named looks e, same, taken_few (length looks) lists.inactive e)

  tries_listed : times e (names_of forced) ≤ in_set e any lists
  tries_listed = by (eqb (count_by look_removed looks) 0) is.tried
    where
      by : (none : Bool) → MatchBool none (AreTries (after_looks lists looks) forced) (forced ≡ []) → times e (names_of forced) ≤ in_set e any lists
      by true tries =
          let same : times e (names_of forced) ≡ times e (elements_of (take (length forced) (reverse (forced_rows (after_looks lists looks))))) = ap (times e) tries.from_tail in
          omega (arith, same, taken_few (length forced) (forced_rows (after_looks lists looks)) e, rows_any e (forced_rows (after_looks lists looks)), forced_there lists looks e)
      by false none = let same : times e (names_of forced) ≡ 0 = ap (λ (l : List Try). times e (names_of l)) none in omega (arith, same)

pub which_tried : (looks : List Look) (forced : List Try) (Tries : Type 0) (none : Bool) → eqb (count_by look_removed looks) 0 ≡ none → MatchBool none Tries (forced ≡ []) → (forced ≡ []) ⊎ (count_by look_removed looks ≡ 0)
which_tried looks forced Tries true is tries = inr (eqb-true (count_by look_removed looks) 0 is)
which_tried looks forced Tries false is tries = inl tries

-- A shrink whose probes are answered by turns that are allowed, where each element that is listed lies in the bucket of its row.
module _ (shape : Shape) (cpu : ℕ) (contents : DomainId → Content) (rows : List Row) (bits : ℕ → Bool) (lists : Listed) (once : (e : ℕ) → rows_of e any rows ≤ 1)
    (fewer : (e : ℕ) → in_set e any lists ≤ rows_of e any rows) (real : (e : ℕ) → 1 ≤ rows_of e any rows → e < shape.elements) (can : (probes : List Try) → ((e : ℕ) → times e (names_of probes) ≤ rows_of e any rows) → CanOnlyRemove shape rows contents probes) (turns : List Turn) where
  pub note_is : (scans target : ℕ) (note : ShrinkNote) → note.target ≡ target → IsShrink scans target lists note.looks note.forced → FindBits shape.elements bits (looks_told (Some note)) → Chase shape rows (shrink_probes (Some note)) turns
      → AreAllowed shape cpu contents turns → note ≡ shrink_of scans target bits lists
  note_is scans target note target_is is told chase allowed =
      let gone = walk_removed shape cpu rows once contents note.looks note.forced turns
      (can (flat_map look_probes note.looks) (λ e. omega (arith, looks_listed scans target lists note.looks note.forced is e, fewer e)))
      (can note.forced (λ e. omega (arith, tries_listed scans target lists note.looks note.forced is e, fewer e)))
      (which_tried note.looks note.forced _ (eqb (count_by look_removed note.looks) 0) refl is.tried) chase allowed in
      let whole : record { target = target; looks = note.looks; forced = note.forced } ≡ shrink_of scans target bits lists =
      shrink_is shape.elements scans target bits lists note.looks note.forced is (λ e. omega (arith, rows_any e lists.inactive, fewer e, once e))
      (λ e some. real e (omega (arith, some, rows_any e lists.inactive, fewer e))) told gone.0 gone.1 in
      (λ i. record { target = target_is i; looks = note.looks; forced = note.forced }) ∙ whole

-- Rotations

active_few : (scans : ℕ) (lists : Listed) (e : ℕ) → rows_of e any (active_visited scans lists) ≤ rows_of e any lists.active
unfolding active_visited
active_few scans lists e = by (ltb (length lists.inactive) (length lists.active))
  where
    by : (b : Bool) → rows_of e any (cond b (take scans (reverse lists.active)) []) ≤ rows_of e any lists.active
    by true = omega (arith, rows_cut e any scans (reverse lists.active), rows_reverse e any lists.active)
    by false = omega arith

abbrev second_visits : ℕ → (ℕ → Bool) → Listed → List Visit → List Visit
second_visits scans bits lists active = visits_of (without_bits (visited_elements active) bits) (inactive_visited scans (active_rotated scans lists active))

-- The visits of a rotation that tell the bits, and what those told after them find.
module _ (n scans : ℕ) (bits : ℕ → Bool) (lists : Listed) (active inactive told : List Visit) (once : (e : ℕ) → in_set e any lists ≤ 1) (real : (e : ℕ) → 1 ≤ in_set e any lists → e < n) (visits : AreRotationVisits scans lists active inactive) (found_them : FindBits n bits (active ++ (inactive ++ told))) where
  first_found : FindBits n bits active × FindBits n (without_bits (visited_elements active) bits) (inactive ++ told)
  first_found = find_both n bits active (inactive ++ told) found_them

  then_found : FindBits n (without_bits (visited_elements active) bits) inactive × FindBits n (without_bits (visited_elements inactive) (without_bits (visited_elements active) bits)) told
  then_found = find_both n (without_bits (visited_elements active) bits) inactive told first_found.1

  pub active_is : active ≡ active_visits scans bits lists
  active_is =
      visits_found n bits (active_visited scans lists) active (λ e. omega (arith, rows_any e (active_visited scans lists), active_few scans lists e, once e))
      (λ e some. real e (omega (arith, some, rows_any e (active_visited scans lists), active_few scans lists e))) visits.of_active first_found.0

  second_few : (e : ℕ) → times e (elements_of (inactive_visited scans (active_rotated scans lists active))) ≤ in_set e any lists
  second_few e =
      omega (
        arith,
        rows_any e (inactive_visited scans (active_rotated scans lists active)),
        visited_few scans (active_rotated scans lists active) active e,
        active_loses scans lists active e any,
      )

  pub inactive_is : inactive ≡ inactive_visits scans bits lists
  inactive_is =
      visits_found n (without_bits (visited_elements active) bits) (inactive_visited scans (active_rotated scans lists active)) inactive
      (λ e. omega (arith, second_few e, once e)) (λ e some. real e (omega (arith, some, second_few e)))
      visits.of_inactive then_found.0
      ∙ ap (second_visits scans bits lists) active_is

  pub told_then : FindBits n (without_bits (visited_elements active ++ visited_elements inactive) bits) told
  told_then = subst (λ (now : ℕ → Bool). FindBits n now told) (without_both (visited_elements active) (visited_elements inactive) bits) then_found.1
