-- Turns of the global lists in a race, and those of a CPU's lists: what words allow of them may be done.
use Rattle.std.proofs.Common.{◌≡◌, ℕ, ◌+◌, ◌≤◌, true, ◌&&◌, ltb, List, ◌∷◌, ◌++◌, map, Option, refl, ap, ◌∙◌, sym, subst, arith, drop, take-append-drop}
use Rattle.std.specs.Prelude.{IsTrue}
use Rattle.std.specs.List.{flat_map}
use Rattle.map_types.specs.declared.attr.Shape.{Shape}
use Rattle.map_types.specs.declared.kind.DomainId.{DomainId}
use Rattle.map_types.specs.declared.kind.DomainId.TheVariants.{Local, Global}
use Rattle.map_types.specs.Kind.{is_lru}
use Rattle.map_types.specs.Shape.{HasBounds}
use Rattle.map_types.specs.ElementLists.{one, times}
use Rattle.map_types.proofs.RowLemmas.{times_append}
use Rattle.place_words.specs.declared.history.Part.TheVariants as parts
use Rattle.place_words.specs.declared.list_part.GlobalPart.{GlobalPart}
use Rattle.place_words.specs.declared.list_part.GlobalPart.TheVariants as global
use Rattle.place_words.specs.declared.visits.ShrinkNote.{ShrinkNote}
use Rattle.place_words.specs.declared.visits.Visit.{Visit}
use Rattle.place_words.specs.declared.visits.Flush.{Flush}
use Rattle.place_words.specs.Globals.{AllowsOnGlobal, global_after, global_target, flushed_elements}
use Rattle.place_words.specs.Histories.{in_global}
use Rattle.place_words.specs.Locks.{is_lock, lock_number}
use Rattle.place_words.specs.Openings.{is_free}
use Rattle.place_words.specs.RowMoves.{IsOnce}
use Rattle.place_words.specs.Sets.{ListSet}
use Rattle.place_words.specs.Takings.{freed_by}
use Rattle.place_words.proofs.KeepLaws.{keeps_elements}
use Rattle.place_words.proofs.LockLemmas.{named_by_number}
use Rattle.place_words.specs.declared.step.Lists.{Lists}
use Rattle.place_words.specs.declared.step.Step.TheVariants as steps
use Rattle.place_words.specs.Places.{has_row, lies_at}
use Rattle.place_words.specs.State.{State, rows, HasCursorInside}
use Rattle.place_words.specs.Steps.{after}
use Rattle.place_words.specs.declared.home.Home.TheVariants as homes
use Rattle.place_words.specs.Interleaving.{Event, does, set_lists, global_steps, freed_steps}
use Rattle.core_runs.specs.Words.{ListsAllow}
use Rattle.core_runs.proofs.Ties.{with_lists}
use Rattle.core_runs.proofs.Fits.{Fits, fits_alike, give_list_fits}
use Rattle.core_runs.proofs.Reduced.{Follows, follows_step, none}
use Rattle.core_runs.proofs.SharedMoves.{both_lists}
use Rattle.core_runs.proofs.SetsReduced.{gives_total, cursor_there}
use Rattle.core_runs.proofs.SharedReduced.{follows_flush, follows_freeing, follows_freed}
use Rattle.core_runs.proofs.OwnTurns.{stacked}
use Rattle.core_runs.proofs.OwnNest.{put_back, put_twice, free_apart}
use Rattle.core_runs.proofs.RefillNest.{three_parts}
use Rattle.place_words.proofs.Cursors.{global_cursor}

module _ {shape : Shape} (bounds : HasBounds shape) (lru : is_lru shape.kind ≡ true) (common : IsTrue shape.common) where
  pub once_global : {base out ins : ℕ → List ℕ} {lists : DomainId → Lists} {s : State} → Fits shape base out ins lists s → (set : ListSet) → lists Global ≡ set_lists set → IsOnce (in_global set)
  once_global {s = s} fits set lies e =
      let k : ℕ = lock_number shape Global in
      let at = fits.others Global common refl ∙ lies in
      let told : times e (rows (s.lists k)) ≡ one (ltb e shape.elements && has_row (is_lru shape.kind) Global (s.owner e) (lies_at k (fits.placed.place e))) =
      subst (λ (lock : DomainId). times e (rows (s.lists k)) ≡ one (ltb e shape.elements && has_row (is_lru shape.kind) lock (s.owner e) (lies_at k (fits.placed.place e)))) (named_by_number shape Global common) (fits.placed.placed.rows k e) in
      omega (
        arith,
        times_append e set.free (rows (set_lists set)),
        ap (λ (l : Lists). times e l.free) at,
        ap (λ (l : Lists). times e (rows l)) at,
        told,
        free_apart (ltb e shape.elements) (is_free (s.owner e)) (lies_at k (fits.placed.place e)) (is_lru shape.kind),
        fits.placed.placed.free k e,
      )

  -- A turn of the global lists inside a refill of the CPU's: the CPU's lists lose what is flushed, and gain what is free or freed.
  pub global_turn : {base owed : ℕ → List ℕ} {lists : DomainId → Lists} (cpu : ℕ) (flushed : List Flush) (active inactive : List Visit) (free : List ℕ) (shrink : Option ShrinkNote) (set : ListSet) (l : Lists) (s : State) (more : List Event)
      → IsTrue (is_lock shape (Local cpu)) → Fits shape base owed none lists s → lists (Local cpu) ≡ l → lists Global ≡ set_lists set → AllowsOnGlobal (global.Turn flushed active inactive free shrink) set
      → ((x : ℕ) → times x (flushed_elements flushed) ≤ times x (rows l)) → ((x : ℕ) → times x (freed_by shrink) ≤ times x (rows (set_lists set)) + times x (flushed_elements flushed))
      → ((t : State) (l' : Lists) → l'.free ≡ stacked (free ++ freed_by shrink) l.free → ((x : ℕ) → times x (rows l') + times x (flushed_elements flushed) ≡ times x (rows l))
      → Fits shape base owed none (with_lists Global (set_lists (global_after (global.Turn flushed active inactive free shrink) set)) (with_lists (Local cpu) l' lists)) t → Follows shape t more)
      → Follows shape s (map does (global_steps cpu (global.Turn flushed active inactive free shrink)) ++ does (steps.Give cpu Global (set_lists (global_after (global.Turn flushed active inactive free shrink) set))) ∷ more)
  unfolding ListsAllow global_after
  global_turn {base = base} {owed = owed} {lists = lists} cpu flushed active inactive free shrink set l s more local_is fits local_lies global_lies allowed flush_in freed_in next =
      let part : GlobalPart = global.Turn flushed active inactive free shrink in
      let F : List ℕ = flushed_elements flushed in
      let es : List ℕ = freed_by shrink in
      let g : Lists = set_lists set in
      let left : List ℕ = drop global_target set.free in
      let new : Lists = set_lists (global_after part set) in
      let gives : List Event = does (steps.Give cpu Global new) ∷ more in
      let is_once : IsOnce (in_global set) = once_global fits set global_lies in
      let split : set.free ≡ free ++ left = sym (take-append-drop global_target set.free) ∙ ap (λ (xs : List ℕ). xs ++ left) (sym allowed.2) in
      let cursor : HasCursorInside new = global_cursor part set (cursor_there bounds lru fits Global g common refl global_lies) in
      let start : Fits shape base owed none (both_lists cpu l g lists) s =
      fits_alike fits base owed none (both_lists cpu l g lists) (λ b. refl) (λ b. refl) (λ b. refl)
      (λ other _. sym (put_back Global g (with_lists (Local cpu) l lists) global_lies other ∙ put_back (Local cpu) l lists local_lies other)) in
      subst (Follows shape s) (sym (three_parts (map (λ e. steps.Rehome cpu e (homes.In Global)) F) (map (λ e. steps.Rehome cpu e (homes.In (Local cpu))) free) (flat_map (freed_steps cpu) es) gives))
      (follows_flush bounds lru common cpu local_is lists F l g s _ start flush_in
      (λ t l1 g1 l1_free l1_rows g1_free g1_rows fits1.
      follows_freeing bounds lru common cpu local_is lists free left l1 g1 t _ fits1 (g1_free ∙ split)
      (λ u l2 g2 l2_free l2_rows g2_free g2_rows fits2.
      follows_freed bounds lru common cpu local_is lists es l2 g2 u gives fits2 (λ x. omega (arith, freed_in x, g1_rows x, ap (times x) g2_rows))
      (λ v l3 g3 l3_free l3_rows g3_free g3_rows fits3.
      follows_step bounds v (steps.Give cpu Global new) more fits3.placed
      (gives_total bounds lru (with_lists (Local cpu) l3 lists) g3 new Global common refl fits3 tt (sym (g3_free ∙ g2_free))
      (λ x. omega (arith, keeps_elements shape cpu (parts.Global part) (in_global set) allowed is_once x, times_append x set.free (rows g), times_append x left (rows new), times_append x free es, times_append x free left, ap (times x) split, g1_rows x, ap (times x) g2_rows, g3_rows x))
      cursor)
      (λ can. next (after shape v (steps.Give cpu Global new)) l3
      (l3_free ∙ ap (stacked es) (l2_free ∙ ap (stacked free) l1_free) ∙ sym (Rattle.core_runs.proofs.RefillNest.stacked_both free es l.free))
      (λ x. omega (arith, l3_rows x, ap (times x) l2_rows, l1_rows x))
      (fits_alike (give_list_fits fits3 bounds cpu Global new common refl can) base owed none (with_lists Global new (with_lists (Local cpu) l3 lists)) (λ b. refl) (λ b. refl) (λ b. refl) (λ other _. put_twice Global new g3 (with_lists (Local cpu) l3 lists) other)))))))
