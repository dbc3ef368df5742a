-- The row at the tail of pending is flushed to the global lists, under both locks; and so all that is pending.
use Rattle.std.proofs.Common.{inl, inr, ◌≡◌, ◌≢◌, ℕ, ◌<◌, ◌≤◌, ◌+◌, cond, true, false, Bool, List, [], ◌∷◌, ◌++◌, map, length, sym, refl, ap, ◌∙◌, subst, Some, None, append_assoc, arith}
use Rattle.std.specs.Prelude.{◌⊎◌, IsTrue, All, reverse}
use Rattle.std.proofs.lemmas.Bool.{and_parts, ltb-true}
use Rattle.std.proofs.lemmas.List.{length-append, map-append, reverse-append, reverse-reverse}
use Rattle.map_types.specs.declared.attr.Shape.{Shape}
use Rattle.map_types.specs.declared.kind.DomainId.TheVariants.{Global, Local}
use Rattle.map_types.specs.declared.row.Row.{Row}
use Rattle.map_types.specs.ElementLists.{times, IsIn}
use Rattle.map_types.specs.Listed.{elements_of}
use Rattle.place_words.specs.declared.home.Home.TheVariants as homes
use Rattle.place_words.specs.declared.visits.Flush.{Flush}
use Rattle.place_words.specs.Bodies.{numbers}
use Rattle.place_words.specs.Codes.{home_code}
use Rattle.place_words.specs.Globals.{flush_row, flush_visit, flushed_elements, flushed_rows, with_flushed}
use Rattle.place_words.specs.Locks.{is_lock, lock_number, rank_of}
use Rattle.place_words.specs.Openings.{is_free}
use Rattle.place_words.specs.Takings.{stored_hash}
use Rattle.place_words.specs.declared.step.Lists.{Lists}
use Rattle.place_words.specs.State.{rows}
use Rattle.place_words.specs.Steps.{with_free, with_row, without_free, without_row}
use Rattle.place_words.specs.Wholeness.{all_of}
use Rattle.place_words.proofs.ElementLemmas.{times_cons_same}
use Rattle.place_table.specs.declared.view.Hold.{Hold}
use Rattle.place_table.specs.declared.view.Notes.{Notes}
use Rattle.place_table.specs.declared.view.View.{View}
use Rattle.place_table.specs.Calls.{clears_found}
use Rattle.place_table.specs.Contents.{set_told}
use Rattle.place_table.specs.Rules.{IsAboveAll}
use Rattle.place_table.specs.TurnNotes.{HasOnlyHash}
use Rattle.percpu_values.specs.BodyList.{BodyList}
use Rattle.map_types.proofs.CreationLemmas.{bounds_of_shape}
use Rattle.map_types.specs.Stored.{IsSized}
use Rattle.map_types.proofs.RowLemmas.{times_append, by_test}
use Rattle.place_table.specs.Known.{Learns}
use Rattle.place_table.specs.Passes.{PassView, TableView, CanClear, CanRehome, Cleared, Goes, Rehomed, with_view}
use Rattle.place_table.specs.Plays.{HoldsLock, IsKnownHome}
use Rattle.place_table.specs.Views.{is_among, is_in_hand_of, hold_at, now_at, with_came, with_clear, with_now, with_off, cleared as cleared_view, rehomed as rehomed_view, hold_with, holds_below, notes_below}
use Rattle.place_table.specs.Owners.{IsUnchangedAround, change_in}
use Rattle.place_table.proofs.Came.{come_from_other}
use Rattle.place_table.proofs.Entries.{append_nil}
use Rattle.place_table.proofs.Going.{goes_on, goes_nowhere, goes_noted, goes_of_table, goes_begun, learns_on, learns_none, learns_cleared, same_head}
use Rattle.place_table.proofs.Worlds.{hold_at_first, hold_at_other, some_is}
use Rattle.local_lists.specs.LocalLists.{LocalView, IsLocal, without_pending}
use Rattle.row_list.specs.RowWords.{tail_row, is_of, row_of, without_row as without_its_row}
use Rattle.row_list.proofs.RowLemmas.{elements_append, row_of_split}
use Rattle.lru_lists.specs.declared.bits.BitCall.TheVariants as calls
use Rattle.lru_lists.specs.declared.notes.Noted.{Noted}
use Rattle.lru_lists.specs.Notes.{AreNoted}
use Rattle.lru_lists.specs.Sets.{SetView, IsSet, moved_in, row_on, times_listed, times_on as times_on_set}
use Rattle.lru_lists.proofs.NoteLemmas.{noted_none, noted_more}
use Rattle.lru_ops.specs.Askings.{asked_after}
use Rattle.lru_ops.specs.GlobalWork.{HoldsGlobal, both_lists}
use Rattle.lru_ops.specs.Filling.{CanFill, Flushes, FlushedOne, FlushedAll, flushed_to, flushed_notes, off_notes}
use Rattle.lru_ops.proofs.Asked.{log_at, log_first, only_hash_on, other_local}
use Rattle.lru_ops.proofs.FlushRows.{tail_split, no_tail, without_tail, before_tail, found_front, found_tail, not_free, came_top, off_second, flushed_more}
use Rattle.lru_ops.proofs.GivingOut.{row_more, skip_row}
use Rattle.lru_ops.proofs.Holders.{saw_on, saw_on_none, saw_none, saw_nothing}
use Rattle.lru_ops.proofs.Removed.{changed_first, changed_second, goes_placed, learns_placed}
use Rattle.lru_ops.proofs.SetWork.{row_gone}
use Rattle.lru_ops.proofs.DoesOn.{asked_append}
use Rattle.lru_ops.proofs.OwnersAround.{freed_named, unchanged_named}

-- The set with a row more

pub times_one : (x e : ℕ) (xs : List ℕ) → times x (e ∷ xs) ≡ times x (e ∷ []) + times x xs
times_one x e xs = times_append x (e ∷ []) xs

moved_times : (b : Bool) (x : ℕ) (row : Row) (set : SetView) → times_listed x (moved_in row (flushed_to b) set) ≡ times_listed x set + times x (row.element ∷ [])
moved_times true x row set = let one = times_one x row.element (elements_of set.active) in omega (arith, one)
moved_times false x row set = let one = times_one x row.element (elements_of set.inactive) in omega (arith, one)

moved_free : (b : Bool) (row : Row) (set : SetView) → (moved_in row (flushed_to b) set).free ≡ set.free
moved_free true row set = refl
moved_free false row set = refl

moved_bound : (b : Bool) (row : Row) (set : SetView) → (moved_in row (flushed_to b) set).elements ≡ set.elements
moved_bound true row set = refl
moved_bound false row set = refl

absent_active : (row : Row) (set : SetView) → times_on_set row.element set ≡ 0 → times row.element (elements_of set.active) ≡ 0
absent_active row set none = omega (arith, none)

among_rows : (row x : Row) (front back : List Row) → times row.element (elements_of front) ≡ 0 → row_of x.element (front ++ row ∷ back) ≡ Some x → (x ≡ row) ⊎ (row_of x.element (front ++ back) ≡ Some x)
among_rows row x front back none found =
    by_test row.element x.element (λ _. (x ≡ row) ⊎ (row_of x.element (front ++ back) ≡ Some x))
    (λ same. inl (some_is (sym found ∙ row_of_split x.element front row back (subst (λ (n : ℕ). times n (elements_of front) ≡ 0) same none) same)))
    (λ other. inr (sym (skip_row (is_of x.element) row front back (by_test row.element x.element (λ b. b ≡ false) (λ same. absurd (other same)) (λ _. refl))) ∙ found))

moved_row : (b : Bool) (row : Row) (set : SetView) (x : Row) → times row.element (elements_of set.active) ≡ 0 → row_on x.element (moved_in row (flushed_to b) set) ≡ Some x → (x ≡ row) ⊎ (row_on x.element set ≡ Some x)
moved_row true row set x none found = among_rows row x [] (set.active ++ set.inactive) refl found
moved_row false row set x none found = among_rows row x set.active set.inactive none found

-- What is held

module _ {t : TableView} {set : SetView} {lists : LocalView} {p : PassView} (can : CanFill t set lists p) where
  abbrev pub global_hold : Hold
  global_hold = can.walk.holds.lists.hold

  abbrev pub local_hold : Hold
  local_hold = can.walk.holds.local

  pub both_held : p.view.held ≡ global_hold ∷ local_hold ∷ []
  both_held = can.walk.holds.lists.held ∙ ap (λ (l : List Hold). global_hold ∷ l) can.walk.holds.around

  shape_is : p.view.shape ≡ t.shape
  shape_is = can.walk.holds.lists.of_table.1

  pub global_number : lock_number p.view.shape Global ≡ global_hold.lock
  global_number = ap (λ (s : Shape). lock_number s Global) shape_is ∙ sym can.walk.holds.lists.lock_is

  pub local_number : lock_number p.view.shape (Local p.cpu) ≡ local_hold.lock
  local_number = ap (λ (s : Shape). lock_number s (Local p.cpu)) shape_is ∙ sym can.walk.holds.local_is

  pub apart_locks : lock_number p.view.shape (Local p.cpu) ≢ global_hold.lock
  apart_locks same = other_local t.shape p.cpu can.walk.holds.lists.there can.walk.holds.local_there (ap (λ (s : Shape). lock_number s (Local p.cpu)) (sym shape_is) ∙ (same ∙ can.walk.holds.lists.lock_is))

  local_at : hold_at (lock_number t.shape (Local p.cpu)) p.view.held ≡ Some local_hold
  local_at = (λ i. hold_at (lock_number (sym shape_is i) (Local p.cpu)) (both_held i)) ∙ (hold_at_other (lock_number p.view.shape (Local p.cpu)) global_hold (local_hold ∷ []) apart_locks ∙ ((λ i. hold_at (local_number i) (local_hold ∷ [])) ∙ hold_at_first local_hold []))

  pub global_at : hold_at (lock_number t.shape Global) p.view.held ≡ Some global_hold
  global_at = (λ i. hold_at (lock_number (sym shape_is i) Global) (both_held i)) ∙ ((λ i. hold_at (global_number i) (global_hold ∷ local_hold ∷ [])) ∙ hold_at_first global_hold (local_hold ∷ []))

  pub holds_own_local : HoldsLock t.shape p.view p.cpu (Local p.cpu)
  holds_own_local = record { hold = local_hold; there = can.walk.holds.local_there; held = local_at; cpu_is = can.walk.holds.local_cpu }

  -- its tail
  module _ {row : Row} (tail : Some row ≡ tail_row lists.pending) where
    abbrev e : ℕ
    e = row.element

    abbrev front : List Row
    front = (tail_split lists.pending row tail).0

    pending_is : lists.pending ≡ front ++ row ∷ []
    pending_is = (tail_split lists.pending row tail).1

    pending_times : (x : ℕ) → times x (elements_of lists.pending) ≡ times x (elements_of front) + times x (e ∷ [])
    pending_times x = ap (λ (l : List Row). times x (elements_of l)) pending_is ∙ (ap (times x) (elements_append front (row ∷ [])) ∙ times_append x (elements_of front) (e ∷ []))

    is_pending : 0 < times e (elements_of lists.pending)
    is_pending = let parts = pending_times e in let here = times_cons_same e [] in omega (arith, parts, here)

    none_in_front : times e (elements_of front) ≡ 0
    none_in_front = let once = can.fits.whole.once e in let parts = pending_times e in let here = times_cons_same e [] in omega (arith, once, parts, here)

    pub is_real : e < t.shape.elements
    is_real = let some = is_pending in subst (λ (n : ℕ). e < n) can.fits.bound (can.fits.whole.below e (omega (arith, some)))

    listed_there : 0 < times e (rows local_hold.now)
    listed_there = subst (λ (n : ℕ). 0 < n) (sym (can.same_rows e)) is_pending

    lies_there : IsIn e (all_of local_hold.now)
    lies_there = let all = times_append e local_hold.now.free (rows local_hold.now) in let some = listed_there in omega (arith, all, some)

    pub at_local : IsKnownHome t.shape p.view p.cpu e (homes.In (Local p.cpu))
    unfolding holds_own_local
    at_local = (holds_own_local, refl, lies_there)

    pub can_clear_tail : CanClear t e p
    can_clear_tail = record {
      of_table = can.walk.holds.lists.of_table;
      begun = can.walk.holds.lists.begun;
      real = is_real;
      allowed = inr (can.walk.holds.lists.evicts, (Local p.cpu, at_local));
    }

    pub absent_there : times_on_set e set ≡ 0
    absent_there = let once = can.apart e in let some = is_pending in omega (arith, once, some)

    pub below_there : e < set.elements
    below_there = subst (λ (n : ℕ). e < n) (sym can.walk.fits.bound) is_real

    -- its bit was cleared
    module _ {m : PassView} {bit : Bool} (clear : Cleared e p m bit) where
      to_m : Goes p m [] []
      to_m =
          let v : View = cleared_view clear.at e bit p.view in
          goes_noted v.notes v.bits v.touched v.readings p m clear.after_is

      held_m : m.view.held ≡ global_hold ∷ local_hold ∷ []
      held_m = ap (λ (z : PassView). z.view.held) clear.after_is ∙ both_held

      local_at_m : hold_at (lock_number t.shape (Local p.cpu)) m.view.held ≡ Some local_hold
      local_at_m = ap (λ (z : PassView). hold_at (lock_number t.shape (Local p.cpu)) z.view.held) clear.after_is ∙ local_at

      local_m : HoldsLock t.shape m.view m.cpu (Local p.cpu)
      local_m = record {
        hold = local_hold;
        there = can.walk.holds.local_there;
        held = local_at_m;
        cpu_is = can.walk.holds.local_cpu ∙ sym to_m.cpu;
      }

      global_m : HoldsLock t.shape m.view m.cpu Global
      global_m = record {
        hold = global_hold;
        there = can.walk.holds.lists.there;
        held = ap (λ (z : PassView). hold_at (lock_number t.shape Global) z.view.held) clear.after_is ∙ global_at;
        cpu_is = can.walk.holds.lists.cpu_is ∙ sym to_m.cpu;
      }

      at_local_m : IsKnownHome t.shape m.view m.cpu e (homes.In (Local p.cpu))
      unfolding local_m
      at_local_m = (local_m, refl, lies_there)

      none_around_m : IsUnchangedAround m.view e
      none_around_m =
          let noted_m : m.view.notes ≡ with_clear e bit (can.notes ∷ can.around ∷ can.below) = ap (λ (z : PassView). z.view.notes) clear.after_is ∙ ap (with_clear e bit) can.noted in
          (λ i. change_in e (holds_below (held_m i)) (notes_below (noted_m i)))
          ∙ unchanged_named can.walk.holds.lists global_hold local_hold can.notes can.around can.below both_held can.noted e

      pub can_go_global : CanRehome t e (homes.In Global) m
      can_go_global = record {
        of_table = goes_of_table t p m [] [] to_m can.walk.holds.lists.of_table;
        begun = goes_begun p m [] [] to_m can.walk.holds.lists.begun;
        common = can.common;
        real = is_real;
        from = homes.In (Local p.cpu);
        home = at_local_m;
        goes = global_m;
        around = λ _. none_around_m;
      }

      -- and it went to the global lists
      module _ {r : PassView} (home : Rehomed t e (homes.In Global) m r) where
        unfree : is_free home.owner ≡ false
        unfree = not_free home.owner (λ free. let none = home.fits.listed free (lock_number t.shape (Local p.cpu)) local_hold local_at_m in let some = listed_there in absurd (omega (arith, none, some)))

        went : r ≡ with_view m (rehomed_view home.at (homes.In (Local p.cpu)) (homes.In Global) home.owner e m.view)
        went =
            let left : home.from ≡ homes.In (Local p.cpu) = sym (home.known (homes.In (Local p.cpu)) at_local_m) in
            home.after_is ∙ (λ i. with_view m (rehomed_view home.at (left i) (homes.In Global) home.owner e m.view))

        to_r : Goes m r [] []
        to_r = goes_placed _ _ _ _ _ _ m r went

        abbrev pub global_then : Lists
        global_then = with_row Global e global_hold.now

        abbrev pub local_then : Lists
        local_then = without_row e local_hold.now

        local_number_m : lock_number m.view.shape (Local p.cpu) ≡ local_hold.lock
        local_number_m = ap (λ (s : Shape). lock_number s (Local p.cpu)) to_m.shape ∙ local_number

        global_number_m : lock_number m.view.shape Global ≡ global_hold.lock
        global_number_m = ap (λ (s : Shape). lock_number s Global) to_m.shape ∙ global_number

        apart_m : lock_number m.view.shape (Local p.cpu) ≢ global_hold.lock
        apart_m same = apart_locks (ap (λ (s : Shape). lock_number s (Local p.cpu)) (sym to_m.shape) ∙ same)

        abbrev joined : Bool → List Hold → List Hold
        joined b held = with_now (lock_number m.view.shape Global) (cond b (with_free e (now_at (lock_number m.view.shape Global) held)) (with_row Global e (now_at (lock_number m.view.shape Global) held))) held

        abbrev left : Bool → List Hold → List Hold
        left b held = with_now (lock_number m.view.shape (Local p.cpu)) (cond b (without_free e (now_at (lock_number m.view.shape (Local p.cpu)) held)) (without_row e (now_at (lock_number m.view.shape (Local p.cpu)) held))) held

        pub held_r : r.view.held ≡ hold_with global_hold global_then ∷ hold_with local_hold local_then ∷ []
        held_r =
            ap (λ (z : PassView). z.view.held) went
            ∙ ((λ i. joined (unfree i) (left (unfree i) (held_m i)))
            ∙ (ap (joined false) (changed_second (without_row e) (lock_number m.view.shape (Local p.cpu)) global_hold local_hold [] apart_m local_number_m)
            ∙ changed_first (with_row Global e) (lock_number m.view.shape Global) global_hold (hold_with local_hold local_then ∷ []) global_number_m))

        codes : home_code (homes.In (Local p.cpu)) ≢ home_code (homes.In Global)
        codes same =
            let few : p.cpu < t.shape.cpus = ltb-true p.cpu t.shape.cpus (and_parts t.shape.common _ can.walk.holds.local_there).1 in
            let bounded : t.shape.cpus ≤ 16 = (bounds_of_shape t.shape can.walk.holds.lists.is_shape).cpus_bounded in
            omega (arith, same, few, bounded)

        abbrev pub flush : Flush
        flush = record { element = e; hash = row.hash; bit = bit }

        noted_r : r.view.notes ≡ flushed_notes (flush ∷ []) (e ∷ can.notes.came) can.notes ∷ off_notes (flush ∷ []) can.around ∷ can.below
        noted_r =
            let gk : ℕ = lock_number m.view.shape Global in
            let lk : ℕ = lock_number m.view.shape (Local p.cpu) in
            let n : Notes = record can.notes { asked = record { element = e; bit = bit; cleared = true } ∷ can.notes.asked } in
            let noted_m : m.view.notes ≡ n ∷ can.around ∷ can.below = ap (λ (z : PassView). z.view.notes) clear.after_is ∙ ap (with_clear e bit) can.noted in
            ap (λ (z : PassView). z.view.notes) went
            ∙ (come_from_other m.view.shape (homes.In (Local p.cpu)) Global e m.view.held (with_off lk e m.view.held m.view.notes) codes
            ∙ ((λ i. with_came gk e (held_m i) (with_off lk e (held_m i) (noted_m i)))
            ∙ (ap (with_came gk e (global_hold ∷ local_hold ∷ [])) (off_second lk e global_hold local_hold [] n can.around can.below apart_m local_number_m)
            ∙ came_top gk e global_hold (local_hold ∷ []) n (record can.around { off = e ∷ can.around.off } ∷ can.below) global_number_m)))

        to_r_all : Goes p r [] []
        to_r_all = goes_on p m r [] [] [] [] to_m to_r

        hand_r : r.view.hand ≡ p.view.hand
        hand_r = ap (λ (z : PassView). z.view.hand) went ∙ ap (λ (z : PassView). z.view.hand) clear.after_is

        pub flushes_one : Flushes t (flush ∷ []) p r
        flushes_one = record {
          goes = to_r_all;
          global = global_hold;
          local = local_hold;
          was = both_held;
          global_now = global_then;
          local_now = local_then;
          held = held_r;
          notes = can.notes;
          around = can.around;
          below = can.below;
          was_noted = can.noted;
          came = e ∷ can.notes.came;
          noted = noted_r;
          hand = hand_r;
          carried = ap (λ (z : PassView). z.view.carried) went ∙ ap (λ (z : PassView). z.view.carried) clear.after_is;
          spares = ap (λ (z : PassView). z.spares) went ∙ ap (λ (z : PassView). z.spares) clear.after_is;
          saw = saw_on_none t.shape p m r [] (saw_none t.shape p m _ (ap (λ (z : PassView). z.view.touched) clear.after_is)) (saw_none t.shape m r _ (ap (λ (z : PassView). z.view.touched) went));
          learns = learns_on t.shape p.view m.view r.view [] [] (clears_found (flush_visit flush) ∷ []) []
              (subst (λ (z : PassView). Learns t.shape p.view z.view [] (clears_found (flush_visit flush) ∷ [])) (sym clear.after_is) (learns_cleared t.shape clear.at e bit p.view clear.known))
              (learns_placed t.shape _ _ _ _ _ _ m r went);
        }

        logs_r : (k : ℕ) → log_at k r.view.held ≡ log_at k p.view.held
        logs_r k =
            ap (log_at k) held_r
            ∙ (log_first k global_hold global_then (local_hold ∷ []) (hold_with local_hold local_then ∷ []) (log_first k local_hold local_then [] [] refl)
            ∙ ap (log_at k) (sym both_held))

        -- how the lists and the set are then
        abbrev set_then : SetView
        set_then = moved_in row (flushed_to bit) set

        abbrev lists_then : LocalView
        lists_then = without_pending e lists

        pending_then : lists_then.pending ≡ front
        pending_then = ap (without_its_row e) pending_is ∙ without_tail e front row refl none_in_front

        pending_less : (x : ℕ) → times x (elements_of lists_then.pending) + times x (e ∷ []) ≡ times x (elements_of lists.pending)
        pending_less x = let gone = ap (λ (l : List Row). times x (elements_of l)) pending_then in let parts = pending_times x in omega (arith, gone, parts)

        holds_r : HoldsGlobal t r
        holds_r = record {
          lists = record {
            of_table = goes_of_table t p r [] [] to_r_all can.walk.holds.lists.of_table;
            begun = goes_begun p r [] [] to_r_all can.walk.holds.lists.begun;
            is_shape = can.walk.holds.lists.is_shape;
            evicts = can.walk.holds.lists.evicts;
            there = can.walk.holds.lists.there;
            lists = can.walk.holds.lists.lists;
            hold = hold_with global_hold global_then;
            outer = hold_with local_hold local_then ∷ [];
            held = held_r;
            above = subst (λ (l : List Hold). IsAboveAll t.shape (rank_of Global) l) can.walk.holds.around can.walk.holds.lists.above;
            lock_is = can.walk.holds.lists.lock_is;
            cpu_is = can.walk.holds.lists.cpu_is ∙ sym to_r_all.cpu;
            notes = flushed_notes (flush ∷ []) (e ∷ can.notes.came) can.notes;
            below = off_notes (flush ∷ []) can.around ∷ can.below;
            notes_are = noted_r;
            freed = freed_named can.walk.holds.lists can.notes (can.around ∷ can.below) can.noted;
            unchanged = λ x. unchanged_named can.walk.holds.lists global_hold local_hold can.notes can.around can.below both_held can.noted x;
          };
          local_there = subst (λ (c : ℕ). IsTrue (is_lock t.shape (Local c))) (sym to_r_all.cpu) can.walk.holds.local_there;
          local = hold_with local_hold local_then;
          around = refl;
          local_is = can.walk.holds.local_is ∙ ap (λ (c : ℕ). lock_number t.shape (Local c)) (sym to_r_all.cpu);
          local_cpu = can.walk.holds.local_cpu ∙ sym to_r_all.cpu;
        }

        hands_r : (x cpu : ℕ) → is_among cpu r.view.cpus ≡ true → is_in_hand_of x cpu r.view.hand ≡ false
        hands_r x cpu among = ap (is_in_hand_of x cpu) hand_r ∙ can.hands_empty x cpu (ap (is_among cpu) (sym to_r_all.cpus) ∙ among)

        rows_then : (x : ℕ) → times x (rows global_then) ≡ times_listed x set_then
        rows_then x =
            let more = row_more x e global_hold.now.first global_hold.now.second in
            let one = times_one x e (rows global_hold.now) in
            let moved = moved_times bit x row set in
            let same = can.walk.same_rows x in
            omega (arith, more, one, moved, same)

        module _ (set_whole : IsSet set_then) (lists_whole : IsLocal lists_then) where
          pub fill_then : CanFill t set_then lists_then r
          unfolding holds_r
          fill_then = record {
            walk = record {
              holds = holds_r;
              fits = record {
                sized = subst (λ (z : BodyList). All (IsSized t.shape) z.bodies) (sym (moved_free bit row set)) can.walk.fits.sized;
                bound = moved_bound bit row set ∙ can.walk.fits.bound;
                room = ap (λ (z : BodyList). length z.bodies + z.spare) (moved_free bit row set) ∙ can.walk.fits.room;
                whole = set_whole;
              };
              same_free = can.walk.same_free ∙ ap (λ (z : BodyList). numbers z.bodies) (sym (moved_free bit row set));
              same_rows = rows_then;
              hashed = λ x found. hashed_then x (moved_row bit row set x (absent_active row set absent_there) found);
              in_no_hand = λ x cpu listed among. hands_r x cpu among;
            };
            common = can.common;
            fits = record {
              sized = can.fits.sized;
              bound = can.fits.bound;
              room = can.fits.room;
              whole = lists_whole;
              steal = can.fits.steal;
            };
            same_free = can.same_free;
            same_rows = λ x.
                let same = can.same_rows x in
                let once = can.fits.whole.once x in
                let gone = row_gone x e local_hold.now (omega (arith, same, once)) in
                let less = pending_less x in
                omega (arith, same, gone, less);
            apart = λ x.
                let once = can.apart x in
                let moved = moved_times bit x row set in
                let free = ap (λ (z : BodyList). times x (numbers z.bodies)) (moved_free bit row set) in
                let less = pending_less x in
                omega (arith, once, moved, free, less);
            hashed = λ x h stored. only_hash_on t.shape p.view r.view x h logs_r
                (can.hashed x h (ap (stored_hash x) pending_is ∙ found_front x h front row none_in_front (ap (stored_hash x) (sym pending_then) ∙ stored)));
            notes = flushed_notes (flush ∷ []) (e ∷ can.notes.came) can.notes;
            around = off_notes (flush ∷ []) can.around;
            below = can.below;
            noted = noted_r;
            hands_empty = hands_r;
          }
            where
              hashed_then : (x : Row) → (x ≡ row) ⊎ (row_on x.element set ≡ Some x) → HasOnlyHash t.shape r.view x.element x.hash
              hashed_then x (inl same) = only_hash_on t.shape p.view r.view x.element x.hash logs_r
                  (can.hashed x.element x.hash (ap (stored_hash x.element) pending_is ∙ (ap (λ (z : Row). stored_hash z.element (front ++ row ∷ [])) same ∙ (found_tail front row none_in_front ∙ ap (λ (z : Row). Some z.hash) (sym same)))))
              hashed_then x (inr was) = only_hash_on t.shape p.view r.view x.element x.hash logs_r (can.walk.hashed x was)

          pub flushed_one : FlushedOne t row (both_lists set lists p) (both_lists set_then lists_then r) flush
          flushed_one = record {
            row_is = refl;
            set_is = refl;
            lists_are = refl;
            leaves = fill_then;
            flushes = flushes_one;
          }

-- From the clauses of the calls
pub flushed_tail : {t : TableView} {set set_after : SetView} {lists lists_after : LocalView} {p m r : PassView} {row : Row} {bit : Bool} (can : CanFill t set lists p) (tail : Some row ≡ tail_row lists.pending) (clear : Cleared row.element p m bit) (home : Rehomed t row.element (homes.In Global) m r)
    → lists_after ≡ without_pending row.element lists → IsLocal lists_after → set_after ≡ moved_in row (flushed_to bit) set → IsSet set_after → FlushedOne t row (both_lists set lists p) (both_lists set_after lists_after r) (record { element = row.element; hash = row.hash; bit = bit })
flushed_tail {t} {set} {set_after} {lists} {lists_after} {p} {m} {r} {row} {bit} can tail clear home lists_are lists_whole set_is set_whole =
    subst (λ (z : SetView × LocalView). FlushedOne t row (both_lists set lists p) (both_lists z.0 z.1 r) (record { element = row.element; hash = row.hash; bit = bit })) (λ i. (sym set_is i, sym lists_are i))
    (flushed_one can tail clear home (subst IsSet set_is set_whole) (subst IsLocal lists_are lists_whole))

-- One flush after others

pub same_second : {A : Type 0} {x y a b : A} {xs ys : List A} → x ∷ a ∷ xs ≡ y ∷ b ∷ ys → a ≡ b
same_second e = cc

pub same_rest : {A : Type 0} {x y a b : A} {xs ys : List A} → x ∷ a ∷ xs ≡ y ∷ b ∷ ys → xs ≡ ys
same_rest e = cc

bits_on : (a b : List Flush) → map clears_found (map flush_visit a) ++ map clears_found (map flush_visit b) ≡ map clears_found (map flush_visit (a ++ b))
bits_on a b = sym (ap (map clears_found) (map-append flush_visit a b) ∙ map-append clears_found (map flush_visit a) (map flush_visit b))

notes_on : (a b : List Flush) (came mine : List ℕ) (n : Notes) → flushed_notes b came (flushed_notes a mine n) ≡ flushed_notes (a ++ b) came n
notes_on a b came mine n =
    λ i. record n { came = came; asked = sym ((λ j. asked_after ((ap (map calls.Cleared) (map-append flush_visit a b) ∙ map-append calls.Cleared (map flush_visit a) (map flush_visit b)) j) n.asked) ∙ asked_append (map calls.Cleared (map flush_visit a)) (map calls.Cleared (map flush_visit b)) n.asked) i }

offs_on : (a b : List Flush) (n : Notes) → off_notes b (off_notes a n) ≡ off_notes (a ++ b) n
offs_on a b n =
    let first : List ℕ = flushed_elements a in
    let second : List ℕ = flushed_elements b in
    λ i. record n { off = sym (ap (λ (l : List ℕ). reverse l ++ n.off) (map-append (λ (f : Flush). f.element) a b) ∙ (ap (λ (l : List ℕ). l ++ n.off) (reverse-append first second) ∙ append_assoc (reverse second) (reverse first) n.off)) i }

pub flushes_on : {t : TableView} {a b : List Flush} {p q r : PassView} → Flushes t a p q → Flushes t b q r → Flushes t (a ++ b) p r
flushes_on {t} {a} {b} {p} {q} {r} f g =
    let global : g.global ≡ hold_with f.global f.global_now = same_head (sym g.was ∙ f.held) in
    let local : g.local ≡ hold_with f.local f.local_now = same_second (sym g.was ∙ f.held) in
    let notes : g.notes ≡ flushed_notes a f.came f.notes = same_head (sym g.was_noted ∙ f.noted) in
    let around : g.around ≡ off_notes a f.around = same_second (sym g.was_noted ∙ f.noted) in
    let below : g.below ≡ f.below = same_rest (sym g.was_noted ∙ f.noted) in
    record {
      goes = goes_on p q r [] [] [] [] f.goes g.goes;
      global = f.global;
      local = f.local;
      was = f.was;
      global_now = g.global_now;
      local_now = g.local_now;
      held = g.held ∙ (λ i. hold_with (global i) g.global_now ∷ hold_with (local i) g.local_now ∷ []);
      notes = f.notes;
      around = f.around;
      below = f.below;
      was_noted = f.was_noted;
      came = g.came;
      noted = g.noted ∙ ((λ i. flushed_notes b g.came (notes i) ∷ off_notes b (around i) ∷ below i) ∙ (λ i. notes_on a b g.came f.came f.notes i ∷ offs_on a b f.around i ∷ f.below));
      hand = g.hand ∙ f.hand;
      carried = g.carried ∙ f.carried;
      spares = g.spares ∙ f.spares;
      saw = saw_on t.shape p q r [] [] f.saw g.saw;
      learns = subst (Learns t.shape p.view r.view []) (bits_on a b) (learns_on t.shape p.view q.view r.view [] [] (map clears_found (map flush_visit a)) (map clears_found (map flush_visit b)) f.learns g.learns);
    }

-- What the loop has flushed.
pub record FlushedSome (t : TableView) (set set_after : SetView) (lists lists_after : LocalView) (notes notes_after : Noted Flush) (p q : PassView) : Type 0 where
  pub flushed : List Flush
  pub noted : AreNoted flushed notes notes_after
  pub pending_is : lists.pending ≡ lists_after.pending ++ reverse (flushed_rows flushed)
  pub lists_are : lists_after ≡ record lists { pending = lists_after.pending }
  pub set_is : set_told set_after ≡ with_flushed flushed (set_told set)
  pub leaves : CanFill t set_after lists_after q
  pub flushes : Flushes t flushed p q

none_flushed : (set : SetView) → set_told set ≡ with_flushed [] (set_told set)
unfolding with_flushed
none_flushed set = refl

pub flushed_nothing : {t : TableView} {set : SetView} {lists : LocalView} {p : PassView} (notes : Noted Flush) → CanFill t set lists p → FlushedSome t set set lists lists notes notes p p
flushed_nothing {t} {set} {lists} {p} notes can = record {
  flushed = [];
  noted = noted_none notes;
  pending_is = sym (append_nil lists.pending);
  lists_are = refl;
  set_is = none_flushed set;
  leaves = can;
  flushes = record {
    goes = goes_nowhere p;
    global = global_hold can;
    local = local_hold can;
    was = both_held can;
    global_now = (global_hold can).now;
    local_now = (local_hold can).now;
    held = both_held can;
    notes = can.notes;
    around = can.around;
    below = can.below;
    was_noted = can.noted;
    came = can.notes.came;
    noted = can.noted;
    hand = refl;
    carried = refl;
    spares = refl;
    saw = saw_nothing t.shape p;
    learns = learns_none t.shape p.view;
  };
}

-- what is left of pending then, which is shorter
left_pending : {t : TableView} {middle set_after : SetView} {between lists_after : LocalView} {q r : PassView} {row : Row} {flush : Flush} → CanFill t middle between q → (tail : Some row ≡ tail_row between.pending) → FlushedOne t row (both_lists middle between q) (both_lists set_after lists_after r) flush → lists_after.pending ≡ (tail_split between.pending row tail).0
left_pending {t} {middle} {set_after} {between} {lists_after} {q} {r} {row} {flush} can tail one =
    let split = tail_split between.pending row tail in
    let front : List Row = split.0 in
    let once = can.fits.whole.once row.element in
    let none : times row.element (elements_of front) ≡ 0 = before_tail front row (let same : times row.element (elements_of between.pending) ≡ times row.element (elements_of (front ++ row ∷ [])) = ap (λ (l : List Row). times row.element (elements_of l)) split.1 in omega (arith, once, same)) in
    ap (λ (z : LocalView). z.pending) one.lists_are ∙ (ap (without_its_row row.element) split.1 ∙ without_tail row.element front row refl none)

pub fewer_pending : {t : TableView} {middle set_after : SetView} {between lists_after : LocalView} {q r : PassView} {row : Row} {flush : Flush} → CanFill t middle between q → Some row ≡ tail_row between.pending → FlushedOne t row (both_lists middle between q) (both_lists set_after lists_after r) flush → length lists_after.pending < length between.pending
fewer_pending {t} {middle} {set_after} {between} {lists_after} {q} {r} {row} {flush} can tail one =
    let split = tail_split between.pending row tail in
    let left : length lists_after.pending ≡ length split.0 = ap length (left_pending can tail one) in
    let all : length between.pending ≡ length split.0 + 1 = ap length split.1 ∙ length-append split.0 (row ∷ []) in
    omega (arith, left, all)

pub flushed_one_more : {t : TableView} {set middle set_after : SetView} {lists between lists_after : LocalView} {notes noted_before notes_after : Noted Flush} {p q r : PassView} {row : Row} {flush : Flush}
    → FlushedSome t set middle lists between notes noted_before p q → Some row ≡ tail_row between.pending → FlushedOne t row (both_lists middle between q) (both_lists set_after lists_after r) flush → AreNoted (flush ∷ []) noted_before notes_after → FlushedSome t set set_after lists lists_after notes notes_after p r
flushed_one_more {t} {set} {middle} {set_after} {lists} {between} {lists_after} {notes} {noted_before} {notes_after} {p} {q} {r} {row} {flush} so_far tail one noted =
    let split = tail_split between.pending row tail in
    let front : List Row = split.0 in
    let left : lists_after.pending ≡ front = left_pending so_far.leaves tail one in
    let turned : reverse (flushed_rows (so_far.flushed ++ flush ∷ [])) ≡ row ∷ reverse (flushed_rows so_far.flushed) =
    ap reverse (map-append flush_row so_far.flushed (flush ∷ [])) ∙ (reverse-append (flushed_rows so_far.flushed) (flush_row flush ∷ []) ∙ ap (λ (x : Row). x ∷ reverse (flushed_rows so_far.flushed)) one.row_is) in
    record {
      flushed = so_far.flushed ++ flush ∷ [];
      noted = noted_more so_far.flushed (flush ∷ []) notes noted_before notes_after so_far.noted noted;
      pending_is = so_far.pending_is
          ∙ (ap (λ (l : List Row). l ++ reverse (flushed_rows so_far.flushed)) split.1
          ∙ (append_assoc front (row ∷ []) (reverse (flushed_rows so_far.flushed)) ∙ (λ i. sym left i ++ sym turned i)));
      lists_are = one.lists_are ∙ (ap (without_pending row.element) so_far.lists_are ∙ ap (λ (l : List Row). record lists { pending = l }) (sym (ap (λ (z : LocalView). z.pending) one.lists_are)));
      set_is = flushed_more middle set_after (set_told set) so_far.flushed row flush one.row_is so_far.set_is one.set_is;
      leaves = one.leaves;
      flushes = flushes_on so_far.flushes one.flushes;
    }

pub flushed_all : {t : TableView} {set set_after : SetView} {lists lists_after : LocalView} {notes notes_after : Noted Flush} {p q : PassView} → FlushedSome t set set_after lists lists_after notes notes_after p q → None ≡ tail_row lists_after.pending → FlushedAll t (both_lists set lists p) (both_lists set_after lists_after q) notes notes_after
flushed_all {t} {set} {set_after} {lists} {lists_after} {notes} {notes_after} {p} {q} so_far none =
    let empty : lists_after.pending ≡ [] = no_tail lists_after.pending none in
    record {
      flushed = so_far.flushed;
      noted = so_far.noted;
      with_hashes = sym (ap reverse (so_far.pending_is ∙ ap (λ (l : List Row). l ++ reverse (flushed_rows so_far.flushed)) empty) ∙ reverse-reverse (flushed_rows so_far.flushed));
      set_is = so_far.set_is;
      lists_are = so_far.lists_are ∙ ap (λ (l : List Row). record lists { pending = l }) empty;
      leaves = so_far.leaves;
      flushes = so_far.flushes;
    }
