-- The head of the free list of the global lists goes to the local free list, under both locks; and so up to 128 of them.
use Rattle.std.proofs.Common.{inl, ◌≡◌, ◌≢◌, ℕ, ◌<◌, ◌≤◌, ◌+◌, zero, suc, true, false, List, [], ◌∷◌, ◌++◌, drop, take, length, sym, refl, ap, ◌∙◌, subst, Some, None, append_assoc, arith}
use Rattle.std.specs.Prelude.{◌^◌, IsTrue, reverse, slice_get}
use Rattle.std.proofs.lemmas.Bool.{and_parts, ltb-true}
use Rattle.std.proofs.lemmas.List.{length-append, reverse-append, take_at, take_all, drop_at, drop_all}
use Rattle.std.proofs.lemmas.List.Elements.{recursion_from_All, All-from_recursion, All-cons}
use Rattle.map_types.specs.declared.kind.DomainId.TheVariants.{Global, Local}
use Rattle.map_types.specs.declared.row.Row.{Row}
use Rattle.map_types.specs.ElementLists.{times, IsIn}
use Rattle.map_types.specs.Listed.{elements_of}
use Rattle.map_types.specs.Stored.{Stored, IsSized}
use Rattle.map_types.proofs.CreationLemmas.{bounds_of_shape}
use Rattle.map_types.proofs.RowLemmas.{times_append}
use Rattle.place_words.specs.declared.home.Home.TheVariants as homes
use Rattle.place_words.specs.declared.owner.Owner.TheVariants as owners
use Rattle.place_words.specs.Bodies.{numbers}
use Rattle.place_words.specs.Codes.{home_code}
use Rattle.place_words.specs.Globals.{global_target}
use Rattle.place_words.specs.Locks.{is_lock, lock_number, rank_of}
use Rattle.place_words.specs.Sets.{ListSet}
use Rattle.place_words.specs.declared.step.Lists.{Lists}
use Rattle.place_words.specs.State.{rows}
use Rattle.place_words.specs.Steps.{with_free, without_free}
use Rattle.place_words.proofs.ElementLemmas.{times_cons_same}
use Rattle.place_table.specs.declared.view.Hold.{Hold}
use Rattle.place_table.specs.declared.view.Notes.{Notes}
use Rattle.place_table.specs.Contents.{set_told}
use Rattle.place_table.specs.Passes.{PassView, TableView, CanRehome, Goes, Rehomed, with_view}
use Rattle.place_table.specs.Plays.{HoldsLock, IsKnownHome, IsKnownFree}
use Rattle.place_table.specs.Rules.{IsAboveAll}
use Rattle.place_table.specs.Views.{is_among, is_in_hand_of, now_at, with_now, with_came, rehomed as rehomed_view, hold_with}
use Rattle.place_table.proofs.Came.{come_from_other}
use Rattle.place_table.proofs.Entries.{append_nil}
use Rattle.place_table.proofs.Going.{goes_on, goes_nowhere, goes_of_table, goes_begun, learns_on, learns_none, same_head}
use Rattle.local_lists.specs.LocalLists.{LocalView, IsLocal, times_on, with_free as with_local_free}
use Rattle.local_lists.proofs.ToldLemmas.{pushed_room}
use Rattle.lru_lists.specs.declared.notes.Noted.{Noted}
use Rattle.lru_lists.specs.Notes.{AreNoted}
use Rattle.lru_lists.specs.Sets.{SetView, IsSet, with_free as with_set_free}
use Rattle.lru_lists.proofs.NoteLemmas.{noted_none, noted_more}
use Rattle.lru_ops.specs.Filling.{MovesFree, MovedOne, MovesOne, MovedAll, CanFill}
use Rattle.lru_ops.specs.GlobalWork.{HoldsGlobal, both_lists}
use Rattle.lru_ops.proofs.Asked.{log_at, log_first, only_hash_on}
use Rattle.lru_ops.proofs.Flushes.{both_held, global_hold, local_hold, global_at, global_number, local_number, apart_locks, holds_own_local, same_rest, same_second, times_one}
use Rattle.lru_ops.proofs.GivingOut.{popped_numbers, popped_room, popped_sized, some_first, first_of, head_number, without_head}
use Rattle.lru_ops.proofs.GlobalWalk.{free_rows, elements_of_free, length_free}
use Rattle.lru_ops.proofs.Holders.{saw_on, saw_none, saw_nothing}
use Rattle.lru_ops.proofs.Removed.{came_second, changed_first, changed_second, goes_placed, learns_placed}
use Rattle.lru_ops.proofs.SetWork.{rows_few, length_numbers}
use Rattle.lru_ops.proofs.OwnersAround.{freed_named, unchanged_around, unchanged_named}
use Rattle.percpu_values.specs.BodyList.{pushed, popped}

module _ {t : TableView} {set : SetView} {lists : LocalView} {p : PassView} {body : Stored} (can : CanFill t set lists p) (top : Some body ≡ slice_get set.free.bodies 0) where
  abbrev e : ℕ
  e = body.element

  free_times : (x : ℕ) → times x (numbers set.free.bodies) ≡ times x (e ∷ []) + times x (drop 1 (numbers set.free.bodies))
  free_times x = ap (times x) (head_number set.free.bodies body (sym top)) ∙ times_append x (e ∷ []) (drop 1 (numbers set.free.bodies))

  -- The local free list has room for it.
  pub room_free : 1 ≤ lists.free.spare
  room_free =
      let all : List Row = free_rows (e ∷ numbers lists.free.bodies) in
      let counts : (x : ℕ) → times x (elements_of all) ≡ times x (e ∷ []) + times x (numbers lists.free.bodies) = (λ x. ap (times x) (elements_of_free (e ∷ numbers lists.free.bodies)) ∙ times_append x (e ∷ []) (numbers lists.free.bodies)) in
      let once : (x : ℕ) → times x (elements_of all) ≤ 1 = (λ x. let count = counts x in let free = free_times x in let apart = can.apart x in omega (arith, count, free, apart)) in
      let countable : t.shape.elements < 2 ^ 32 = subst (λ (n : ℕ). n < 2 ^ 32) can.fits.bound can.fits.whole.countable in
      let few : length all ≤ t.shape.elements = rows_few t.shape.elements all countable once (λ x some. below_all x (subst (λ (n : ℕ). 0 < n) (counts x) some)) in
      let long : length all ≡ length (e ∷ numbers lists.free.bodies) = length_free (e ∷ numbers lists.free.bodies) in
      let bodies : length (numbers lists.free.bodies) ≡ length lists.free.bodies = length_numbers lists.free.bodies in
      let room = can.fits.room in
      omega (arith, few, long, bodies, room)
    where
      below_all : (x : ℕ) → 0 < times x (e ∷ []) + times x (numbers lists.free.bodies) → x < t.shape.elements
      below_all x some = go (times x (numbers lists.free.bodies)) refl
        where
          go : (n : ℕ) → times x (numbers lists.free.bodies) ≡ n → x < t.shape.elements
          go zero none = let free = free_times x in subst (λ (n : ℕ). x < n) can.walk.fits.bound (can.walk.fits.whole.below x (omega (arith, some, none, free)))
          go (suc n) is = subst (λ (n : ℕ). x < n) can.fits.bound (can.fits.whole.below x (omega (arith, is)))

  free_is : (global_hold can).now.free ≡ e ∷ drop 1 (numbers set.free.bodies)
  free_is = can.walk.same_free ∙ head_number set.free.bodies body (sym top)

  is_free : IsIn e (numbers set.free.bodies)
  is_free = let free = free_times e in let here = times_cons_same e [] in omega (arith, free, here)

  free_there : IsIn e (global_hold can).now.free
  free_there = subst (IsIn e) (sym can.walk.same_free) is_free

  pub is_real : e < t.shape.elements
  is_real = let some = is_free in subst (λ (n : ℕ). e < n) can.walk.fits.bound (can.walk.fits.whole.below e (omega (arith, some)))

  pub below_local : e < lists.elements
  below_local = subst (λ (n : ℕ). e < n) (sym can.fits.bound) is_real

  pub absent_local : times_on e lists ≡ 0
  absent_local = let once = can.apart e in let some = is_free in omega (arith, once, some)

  holds_global : HoldsLock t.shape p.view p.cpu Global
  holds_global = record {
    hold = global_hold can;
    there = can.walk.holds.lists.there;
    held = global_at can;
    cpu_is = can.walk.holds.lists.cpu_is;
  }

  at_global : IsKnownHome t.shape p.view p.cpu e (homes.In Global)
  unfolding holds_global
  at_global =
      let all = times_append e (global_hold can).now.free (rows (global_hold can).now) in
      let some = free_there in
      (holds_global, refl, omega (arith, all, some))

  known_free : IsKnownFree p.view e
  known_free = record {
    lock = lock_number t.shape Global;
    hold = global_hold can;
    held = global_at can;
    inside = free_there;
  }

  pub can_go_local : CanRehome t e (homes.In (Local p.cpu)) p
  can_go_local = record {
    of_table = can.walk.holds.lists.of_table;
    begun = can.walk.holds.lists.begun;
    common = can.common;
    real = is_real;
    from = homes.In Global;
    home = at_global;
    goes = (holds_own_local can, inl known_free);
    around = λ _. unchanged_around can.walk.holds.lists e;
  }

  -- and it went to the local lists
  module _ {r : PassView} (home : Rehomed t e (homes.In (Local p.cpu)) p r) where
    went : r ≡ with_view p (rehomed_view home.at (homes.In Global) (homes.In (Local p.cpu)) owners.Free e p.view)
    went =
        let left : home.from ≡ homes.In Global = sym (home.known (homes.In Global) at_global) in
        let owner : home.owner ≡ owners.Free = home.fits.on_held_free_list (lock_number t.shape Global) (global_hold can) (global_at can) free_there in
        home.after_is ∙ (λ i. with_view p (rehomed_view home.at (left i) (homes.In (Local p.cpu)) (owner i) e p.view))

    to_r : Goes p r [] []
    to_r = goes_placed _ _ _ _ _ _ p r went

    abbrev pub global_then : Lists
    global_then = without_free e (global_hold can).now

    abbrev pub local_then : Lists
    local_then = with_free e (local_hold can).now

    held_r : r.view.held ≡ hold_with (global_hold can) global_then ∷ hold_with (local_hold can) local_then ∷ []
    held_r =
        let gk : ℕ = lock_number p.view.shape Global in
        let lk : ℕ = lock_number p.view.shape (Local p.cpu) in
        ap (λ (z : PassView). z.view.held) went
        ∙ (ap (λ (l : List Hold). with_now lk (with_free e (now_at lk (with_now gk (without_free e (now_at gk l)) l))) (with_now gk (without_free e (now_at gk l)) l)) (both_held can)
        ∙ (ap (λ (l : List Hold). with_now lk (with_free e (now_at lk l)) l) (changed_first (without_free e) gk (global_hold can) (local_hold can ∷ []) (global_number can))
        ∙ changed_second (with_free e) lk (hold_with (global_hold can) global_then) (local_hold can) [] (apart_locks can) (local_number can)))

    codes : home_code (homes.In Global) ≢ home_code (homes.In (Local p.cpu))
    codes same =
        let few : p.cpu < t.shape.cpus = ltb-true p.cpu t.shape.cpus (and_parts t.shape.common _ can.walk.holds.local_there).1 in
        let bounded : t.shape.cpus ≤ 16 = (bounds_of_shape t.shape can.walk.holds.lists.is_shape).cpus_bounded in
        omega (arith, same, few, bounded)

    abbrev around_then : Notes
    around_then = record can.around { came = e ∷ can.around.came }

    noted_r : r.view.notes ≡ can.notes ∷ around_then ∷ can.below
    noted_r =
        let lk : ℕ = lock_number p.view.shape (Local p.cpu) in
        ap (λ (z : PassView). z.view.notes) went
        ∙ (come_from_other p.view.shape (homes.In Global) (Local p.cpu) e p.view.held p.view.notes codes
        ∙ ((λ i. with_came lk e (both_held can i) (can.noted i))
        ∙ came_second lk e (global_hold can) (local_hold can) [] (can.notes ∷ can.around ∷ can.below) (apart_locks can) (local_number can)))

    hand_r : r.view.hand ≡ p.view.hand
    hand_r = ap (λ (z : PassView). z.view.hand) went

    pub moves_one : MovesFree t (e ∷ []) p r
    moves_one = record {
      goes = to_r;
      global = global_hold can;
      local = local_hold can;
      was = both_held can;
      global_now = global_then;
      local_now = local_then;
      held = held_r;
      notes = can.notes;
      around = can.around;
      below = can.below;
      was_noted = can.noted;
      noted = noted_r;
      hand = hand_r;
      carried = ap (λ (z : PassView). z.view.carried) went;
      spares = ap (λ (z : PassView). z.spares) went;
      saw = saw_none t.shape p r _ (ap (λ (z : PassView). z.view.touched) went);
      learns = learns_placed t.shape _ _ _ _ _ _ p r went;
    }

    logs_r : (k : ℕ) → log_at k r.view.held ≡ log_at k p.view.held
    logs_r k =
        ap (log_at k) held_r
        ∙ (log_first k (global_hold can) global_then (local_hold can ∷ []) (hold_with (local_hold can) local_then ∷ []) (log_first k (local_hold can) local_then [] [] refl)
        ∙ ap (log_at k) (sym (both_held can)))

    -- how the lists and the set are then
    abbrev set_then : SetView
    set_then = with_set_free (popped set.free) set

    abbrev lists_then : LocalView
    lists_then = with_local_free (pushed body lists.free) lists

    popped_then : numbers set_then.free.bodies ≡ drop 1 (numbers set.free.bodies)
    popped_then = popped_numbers set.free.bodies set.free.spare

    holds_r : HoldsGlobal t r
    holds_r = record {
      lists = record {
        of_table = goes_of_table t p r [] [] to_r can.walk.holds.lists.of_table;
        begun = goes_begun p r [] [] to_r can.walk.holds.lists.begun;
        is_shape = can.walk.holds.lists.is_shape;
        evicts = can.walk.holds.lists.evicts;
        there = can.walk.holds.lists.there;
        lists = can.walk.holds.lists.lists;
        hold = hold_with (global_hold can) global_then;
        outer = hold_with (local_hold can) local_then ∷ [];
        held = held_r;
        above = subst (λ (l : List Hold). IsAboveAll t.shape (rank_of Global) l) can.walk.holds.around can.walk.holds.lists.above;
        lock_is = can.walk.holds.lists.lock_is;
        cpu_is = can.walk.holds.lists.cpu_is ∙ sym to_r.cpu;
        notes = can.notes;
        below = around_then ∷ can.below;
        notes_are = noted_r;
        freed = freed_named can.walk.holds.lists can.notes (can.around ∷ can.below) can.noted;
        unchanged = λ x. unchanged_named can.walk.holds.lists (global_hold can) (local_hold can) can.notes can.around can.below (both_held can) can.noted x;
      };
      local_there = subst (λ (c : ℕ). IsTrue (is_lock t.shape (Local c))) (sym to_r.cpu) can.walk.holds.local_there;
      local = hold_with (local_hold can) local_then;
      around = refl;
      local_is = can.walk.holds.local_is ∙ ap (λ (c : ℕ). lock_number t.shape (Local c)) (sym to_r.cpu);
      local_cpu = can.walk.holds.local_cpu ∙ sym to_r.cpu;
    }

    hands_r : (x cpu : ℕ) → is_among cpu r.view.cpus ≡ true → is_in_hand_of x cpu r.view.hand ≡ false
    hands_r x cpu among = ap (is_in_hand_of x cpu) hand_r ∙ can.hands_empty x cpu (ap (is_among cpu) (sym to_r.cpus) ∙ among)

    first_sized : IsSized t.shape body
    first_sized = first_of (IsSized t.shape) set.free.bodies body (recursion_from_All (IsSized t.shape) set.free.bodies can.walk.fits.sized) (sym top)

    module _ (set_whole : IsSet set_then) (lists_whole : IsLocal lists_then) where
      fill_then : CanFill t set_then lists_then r
      unfolding holds_r
      fill_then = record {
        walk = record {
          holds = holds_r;
          fits = record {
            sized = All-from_recursion (IsSized t.shape) (popped set.free).bodies (popped_sized (IsSized t.shape) set.free.bodies set.free.spare (recursion_from_All (IsSized t.shape) set.free.bodies can.walk.fits.sized));
            bound = can.walk.fits.bound;
            room = popped_room set.free.bodies set.free.spare (some_first set.free.bodies body (sym top)) ∙ can.walk.fits.room;
            whole = set_whole;
          };
          same_free = without_head e (global_hold can).now.free (drop 1 (numbers set.free.bodies)) free_is ∙ sym popped_then;
          same_rows = can.walk.same_rows;
          hashed = λ x found. only_hash_on t.shape p.view r.view x.element x.hash logs_r (can.walk.hashed x found);
          in_no_hand = λ x cpu listed among. hands_r x cpu among;
        };
        common = can.common;
        fits = record {
          sized = All-cons (IsSized t.shape) body lists.free.bodies first_sized can.fits.sized;
          bound = can.fits.bound;
          room = pushed_room body lists.free room_free ∙ can.fits.room;
          whole = lists_whole;
          steal = can.fits.steal;
        };
        same_free = ap (λ (l : List ℕ). e ∷ l) can.same_free;
        same_rows = can.same_rows;
        apart = λ x.
            let once = can.apart x in
            let was = free_times x in
            let is = ap (times x) popped_then in
            let more = times_one x e (numbers lists.free.bodies) in
            omega (arith, once, was, is, more);
        hashed = λ x h stored. only_hash_on t.shape p.view r.view x h logs_r (can.hashed x h stored);
        notes = can.notes;
        around = around_then;
        below = can.below;
        noted = noted_r;
        hands_empty = hands_r;
      }

      pub went_one : MovedOne t (both_lists set lists p) (both_lists set_then lists_then r) body
      went_one = record {
        set_is = refl;
        lists_are = refl;
        leaves = fill_then;
        moves = moves_one;
      }

-- From the clauses of the calls
module _ {t : TableView} {set : SetView} {lists : LocalView} {p : PassView} {body : Stored} {element cpu : ℕ} (can : CanFill t set lists p) (top : Some body ≡ slice_get set.free.bodies 0) (element_is : element ≡ body.element) (mine : cpu ≡ p.cpu) where
  pub may_go_local : CanRehome t element (homes.In (Local cpu)) p
  may_go_local = subst (λ (z : ℕ × ℕ). CanRehome t z.0 (homes.In (Local z.1)) p) (λ i. (sym element_is i, sym mine i)) (can_go_local can top)

  pub moved_one : {set_after : SetView} {lists_after : LocalView} {r : PassView} → Rehomed t element (homes.In (Local cpu)) p r → set_after ≡ with_set_free (popped set.free) set → IsSet set_after
      → lists_after ≡ with_local_free (pushed body lists.free) lists → IsLocal lists_after → MovesOne t (both_lists set lists p) (both_lists set_after lists_after r) (Some element)
  moved_one {set_after} {lists_after} {r} home set_is set_whole lists_are lists_whole =
      let there : Rehomed t body.element (homes.In (Local p.cpu)) p r = subst (λ (z : ℕ × ℕ). Rehomed t z.0 (homes.In (Local z.1)) p r) (λ i. (element_is i, mine i)) home in (
        body,
        sym top,
        element_is,
        subst (λ (z : SetView × LocalView). MovedOne t (both_lists set lists p) (both_lists z.0 z.1 r) body) (λ i. (sym set_is i, sym lists_are i))
            (went_one can top there (subst IsSet set_is set_whole) (subst IsLocal lists_are lists_whole)),
      )

-- One after others

pub moves_on : {t : TableView} {a b : List ℕ} {p q r : PassView} → MovesFree t a p q → MovesFree t b q r → MovesFree t (a ++ b) p r
moves_on {t} {a} {b} {p} {q} {r} f g =
    let global : g.global ≡ hold_with f.global f.global_now = same_head (sym g.was ∙ f.held) in
    let local : g.local ≡ hold_with f.local f.local_now = same_second (sym g.was ∙ f.held) in
    let notes : g.notes ≡ f.notes = same_head (sym g.was_noted ∙ f.noted) in
    let around : g.around ≡ record f.around { came = reverse a ++ f.around.came } = same_second (sym g.was_noted ∙ f.noted) in
    let below : g.below ≡ f.below = same_rest (sym g.was_noted ∙ f.noted) in
    let both : reverse b ++ (reverse a ++ f.around.came) ≡ reverse (a ++ b) ++ f.around.came = sym (ap (λ (l : List ℕ). l ++ f.around.came) (reverse-append a b) ∙ append_assoc (reverse b) (reverse a) f.around.came) in
    record {
      goes = goes_on p q r [] [] [] [] f.goes g.goes;
      global = f.global;
      local = f.local;
      was = f.was;
      global_now = g.global_now;
      local_now = g.local_now;
      held = g.held ∙ (λ i. hold_with (global i) g.global_now ∷ hold_with (local i) g.local_now ∷ []);
      notes = f.notes;
      around = f.around;
      below = f.below;
      was_noted = f.was_noted;
      noted = g.noted ∙ ((λ i. notes i ∷ record (around i) { came = reverse b ++ (around i).came } ∷ below i) ∙ (λ i. f.notes ∷ record f.around { came = both i } ∷ f.below));
      hand = g.hand ∙ f.hand;
      carried = g.carried ∙ f.carried;
      spares = g.spares ∙ f.spares;
      saw = saw_on t.shape p q r [] [] f.saw g.saw;
      learns = learns_on t.shape p.view q.view r.view [] [] [] [] f.learns g.learns;
    }

-- What the loop has moved.
pub record MovedSome (t : TableView) (set set_after : SetView) (lists lists_after : LocalView) (notes notes_after : Noted ℕ) (p q : PassView) (count : ℕ) : Type 0 where
  pub moved : List ℕ
  pub noted : AreNoted moved notes notes_after
  pub count_is : count ≡ length moved
  pub few : count ≤ global_target
  pub free_was : numbers set.free.bodies ≡ moved ++ numbers set_after.free.bodies
  pub set_is : set_told set_after ≡ record (set_told set) { free = numbers set_after.free.bodies }
  pub free_is : numbers lists_after.free.bodies ≡ reverse moved ++ numbers lists.free.bodies
  pub pending_is : lists_after.pending ≡ lists.pending
  pub steal_is : lists_after.steal ≡ lists.steal
  pub leaves : CanFill t set_after lists_after q
  pub moves : MovesFree t moved p q

pub moved_nothing : {t : TableView} {set : SetView} {lists : LocalView} {p : PassView} (notes : Noted ℕ) → CanFill t set lists p → MovedSome t set set lists lists notes notes p p 0
moved_nothing {t} {set} {lists} {p} notes can = record {
  moved = [];
  noted = noted_none notes;
  count_is = refl;
  few = (let low : 0 ≤ 128 = omega arith in low);
  free_was = refl;
  set_is = refl;
  free_is = refl;
  pending_is = refl;
  steal_is = refl;
  leaves = can;
  moves = record {
    goes = goes_nowhere p;
    global = global_hold can;
    local = local_hold can;
    was = both_held can;
    global_now = (global_hold can).now;
    local_now = (local_hold can).now;
    held = both_held can;
    notes = can.notes;
    around = can.around;
    below = can.below;
    was_noted = can.noted;
    noted = can.noted;
    hand = refl;
    carried = refl;
    spares = refl;
    saw = saw_nothing t.shape p;
    learns = learns_none t.shape p.view;
  };
}

pub moved_one_more : {t : TableView} {set middle set_after : SetView} {lists between lists_after : LocalView} {notes noted_before notes_after : Noted ℕ} {p q r : PassView} {count element : ℕ}
    → MovedSome t set middle lists between notes noted_before p q count → count < global_target → MovesOne t (both_lists middle between q) (both_lists set_after lists_after r) (Some element) → AreNoted (element ∷ []) noted_before notes_after → MovedSome t set set_after lists lists_after notes notes_after p r (count + 1)
moved_one_more {t} {set} {middle} {set_after} {lists} {between} {lists_after} {notes} {noted_before} {notes_after} {p} {q} {r} {count} {element} so_far under one noted =
    let body : Stored = one.0 in
    let did : MovedOne t (both_lists middle between q) (both_lists set_after lists_after r) body = one.3 in
    let free_after : numbers set_after.free.bodies ≡ drop 1 (numbers middle.free.bodies) = ap (λ (z : SetView). numbers z.free.bodies) did.set_is ∙ popped_numbers middle.free.bodies middle.free.spare in
    let split : numbers middle.free.bodies ≡ body.element ∷ numbers set_after.free.bodies = head_number middle.free.bodies body one.1 ∙ ap (λ (l : List ℕ). body.element ∷ l) (sym free_after) in
    let moved : List ℕ = so_far.moved ++ body.element ∷ [] in
    record {
      moved = moved;
      noted = noted_more so_far.moved (body.element ∷ []) notes noted_before notes_after so_far.noted (subst (λ (n : ℕ). AreNoted (n ∷ []) noted_before notes_after) one.2 noted);
      count_is = ap (λ (n : ℕ). n + 1) so_far.count_is ∙ sym (length-append so_far.moved (body.element ∷ []));
      few = omega (arith, under);
      free_was = so_far.free_was ∙ (ap (λ (l : List ℕ). so_far.moved ++ l) split ∙ sym (append_assoc so_far.moved (body.element ∷ []) (numbers set_after.free.bodies)));
      set_is = ap set_told did.set_is ∙ (ap (λ (z : ListSet). record z { free = numbers (popped middle.free).bodies }) so_far.set_is ∙ ap (λ (z : SetView). record (set_told set) { free = numbers z.free.bodies }) (sym did.set_is));
      free_is = ap (λ (z : LocalView). numbers z.free.bodies) did.lists_are
          ∙ (ap (λ (l : List ℕ). body.element ∷ l) so_far.free_is ∙ sym (ap (λ (l : List ℕ). l ++ numbers lists.free.bodies) (reverse-append so_far.moved (body.element ∷ []))));
      pending_is = ap (λ (z : LocalView). z.pending) did.lists_are ∙ so_far.pending_is;
      steal_is = ap (λ (z : LocalView). z.steal) did.lists_are ∙ so_far.steal_is;
      leaves = did.leaves;
      moves = moves_on so_far.moves did.moves;
    }

-- as many as a turn is to give
pub moved_enough : {t : TableView} {set set_after : SetView} {lists lists_after : LocalView} {notes notes_after : Noted ℕ} {p q : PassView} {count : ℕ} → MovedSome t set set_after lists lists_after notes notes_after p q count → global_target ≤ count → MovedAll t (both_lists set lists p) (both_lists set_after lists_after q) notes notes_after count
moved_enough {t} {set} {set_after} {lists} {lists_after} {notes} {notes_after} {p} {q} {count} so_far all =
    let few = so_far.few in
    let count_is = so_far.count_is in
    let long : length so_far.moved ≡ global_target = omega (arith, few, all, count_is) in
    record {
      moved = so_far.moved;
      noted = so_far.noted;
      moved_are = sym (ap (take global_target) so_far.free_was ∙ take_at so_far.moved (numbers set_after.free.bodies) global_target long);
      count_is = so_far.count_is;
      set_is = so_far.set_is ∙ ap (λ (l : List ℕ). record (set_told set) { free = l }) (sym (ap (drop global_target) so_far.free_was ∙ drop_at so_far.moved (numbers set_after.free.bodies) global_target long));
      free_is = so_far.free_is;
      pending_is = so_far.pending_is;
      steal_is = so_far.steal_is;
      leaves = so_far.leaves;
      moves = so_far.moves;
    }

-- or all, where they are fewer
pub moved_every : {t : TableView} {set middle set_after : SetView} {lists between lists_after : LocalView} {notes notes_after : Noted ℕ} {p q r : PassView} {count : ℕ} → MovedSome t set middle lists between notes notes_after p q count → MovesOne t (both_lists middle between q) (both_lists set_after lists_after r) None → MovedAll t (both_lists set lists p) (both_lists set_after lists_after r) notes notes_after count
moved_every {t} {set} {middle} {set_after} {lists} {between} {lists_after} {notes} {notes_after} {p} {q} {r} {count} so_far none =
    subst (λ (z : SetView × (LocalView × PassView)). MovedAll t (both_lists set lists p) (both_lists z.0 z.1.0 z.1.1) notes notes_after count) (λ i. (sym none.1 i, (sym none.2 i, sym none.3 i)))
    (let few = so_far.few in
    let count_is = so_far.count_is in
    let short : length so_far.moved ≤ global_target = omega (arith, few, count_is) in
    let all : numbers set.free.bodies ≡ so_far.moved = so_far.free_was ∙ (ap (λ (l : List Stored). so_far.moved ++ numbers l) none.0 ∙ append_nil so_far.moved) in
    record {
      moved = so_far.moved;
      noted = so_far.noted;
      moved_are = sym (ap (take global_target) all ∙ take_all global_target so_far.moved short);
      count_is = so_far.count_is;
      set_is = so_far.set_is ∙ ap (λ (l : List ℕ). record (set_told set) { free = l }) (ap numbers none.0 ∙ sym (ap (drop global_target) all ∙ drop_all global_target so_far.moved short));
      free_is = so_far.free_is;
      pending_is = so_far.pending_is;
      steal_is = so_far.steal_is;
      leaves = so_far.leaves;
      moves = so_far.moves;
    })
