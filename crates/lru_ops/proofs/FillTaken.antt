-- The lock of the global lists is taken by a pass that holds that of its CPU's local lists, for a turn that fills them.
use Rattle.std.proofs.Common.{◌≡◌, ℕ, ◌<◌, ◌≤◌, ◌+◌, ◌⊎◌, inl, inr, ⊎_elim, true, false, cond, List, [], ◌∷◌, ◌++◌, sym, refl, ap, ◌∙◌, subst, Some, None, arith}
use Rattle.std.specs.Prelude.{IsTrue, option_map}
use Rattle.std.proofs.Math.Nat.{eq-zero-or-pos}
use Rattle.map_types.specs.declared.kind.DomainId.{DomainId}
use Rattle.map_types.specs.declared.kind.DomainId.TheVariants.{Global, Local}
use Rattle.map_types.specs.declared.row.Row.{Row}
use Rattle.map_types.specs.ElementLists.{times, IsIn}
use Rattle.map_types.specs.Listed.{elements_of}
use Rattle.map_types.proofs.RowLemmas.{times_append, by_test}
use Rattle.place_words.specs.Bodies.{numbers}
use Rattle.place_words.specs.Histories.{Content, content, in_global}
use Rattle.place_words.specs.Locks.{is_lock, lock_named, lock_number, rank_of}
use Rattle.place_words.specs.Takings.{stored_hash}
use Rattle.place_words.proofs.LockLemmas.{named_by_number}
use Rattle.place_words.specs.declared.step.Lists.{Lists}
use Rattle.place_words.specs.State.{rows, is_bucket}
use Rattle.place_words.specs.Wholeness.{all_of}
use Rattle.place_table.specs.declared.content.Content.TheVariants as contents
use Rattle.place_table.specs.declared.view.Hold.{Hold}
use Rattle.place_table.specs.declared.view.Notes.{Notes}
use Rattle.place_table.specs.declared.view.View.{View}
use Rattle.place_table.specs.Contents.{set_told}
use Rattle.place_table.specs.Nested.{AreOutsideAll}
use Rattle.place_table.specs.Passes.{PassView, TableView, CanTake, Goes, TookLock}
use Rattle.place_table.specs.Rules.{IsAboveAll}
use Rattle.place_table.specs.StoredHashes.{stored_in}
use Rattle.place_table.specs.TurnNotes.{HasOnlyHash}
use Rattle.place_table.specs.Views.{hold_at, holding, is_among, is_in_hand_of, no_notes}
use Rattle.place_table.proofs.Going.{goes_took, goes_of_table, goes_begun}
use Rattle.place_table.proofs.StoredHashes.{stored_is_in, stored_listed}
use Rattle.place_table.proofs.Worlds.{hold_at_first, some_is, none_some}
use Rattle.local_lists.specs.LocalLists.{LocalView, times_on}
use Rattle.lru_lists.specs.Sets.{SetView, times_on as times_on_set}
use Rattle.lru_ops.specs.Filling.{CanFill}
use Rattle.lru_ops.specs.Refills.{CanRefill}
use Rattle.lru_ops.specs.GlobalWork.{CanWalk, HoldsGlobal}
use Rattle.lru_ops.specs.OwnTurns.{rows_on}
use Rattle.lru_ops.proofs.LocalTurns.{stored_pending}

-- The lock of the global lists comes after those of local lists.

local_named : {t : TableView} {lists : LocalView} {p : PassView} (can : CanRefill t lists p) → lock_named t.shape can.hold.lock ≡ Local p.cpu
local_named {t} {lists} {p} can = ap (lock_named t.shape) can.lock_is ∙ named_by_number t.shape (Local p.cpu) can.there

above_local : {t : TableView} {lists : LocalView} {p : PassView} (can : CanRefill t lists p) → IsAboveAll t.shape 2 (can.hold ∷ [])
above_local {t} {lists} {p} can =
    let low : 1 < 2 = omega arith in
    (subst (λ (d : DomainId). rank_of d < 2) (sym (local_named can)) low, tt)

pub can_take_global : {t : TableView} {lists : LocalView} {p : PassView} → CanRefill t lists p → CanTake t Global p
can_take_global {t} {lists} {p} can = record {
  of_table = can.of_table;
  begun = can.begun;
  there = can.common;
  above = subst (λ (l : List Hold). IsAboveAll t.shape 2 l × AreOutsideAll l p.view.steps) (sym can.held) (above_local can, (can.outside, tt));
}

-- which of two locks it is that is found
hold_at_two : (k : ℕ) (first second x : Hold) → hold_at k (first ∷ second ∷ []) ≡ Some x → ((first.lock ≡ k) × (first ≡ x)) ⊎ ((second.lock ≡ k) × (second ≡ x))
hold_at_two k first second x is =
    by_test first.lock k (λ b. cond b (Some first) (hold_at k (second ∷ [])) ≡ Some x → ((first.lock ≡ k) × (first ≡ x)) ⊎ ((second.lock ≡ k) × (second ≡ x)))
    (λ same f. inl (same, some_is f))
    (λ _ rest. by_test second.lock k (λ b. cond b (Some second) None ≡ Some x → ((first.lock ≡ k) × (first ≡ x)) ⊎ ((second.lock ≡ k) × (second ≡ x))) (λ same f. inr (same, some_is f)) (λ _ f. absurd (none_some f)) rest)
    is

-- what is stored for an element of the set, which is listed then
pub stored_global : (set : SetView) (e : ℕ) → stored_in (in_global (set_told set)) e ≡ stored_hash e (rows_on set)
unfolding stored_in
stored_global set e = refl

module _ {t : TableView} {lists : LocalView} {p q : PassView} {set : SetView} (can : CanRefill t lists p) (took : TookLock t Global p q (contents.Set set)) where
  to_q : Goes p q [] []
  to_q = goes_took t Global p q (contents.Set set) took

  view_q : q.view ≡ holding took.at took.hold p.view
  view_q = ap (λ (z : PassView). z.view) took.after_is

  held_q : q.view.held ≡ took.hold ∷ can.hold ∷ []
  held_q = ap (λ (v : View). v.held) view_q ∙ ap (λ (l : List Hold). took.hold ∷ l) can.held

  noted_q : q.view.notes ≡ no_notes ∷ no_notes ∷ can.below
  noted_q = ap (λ (v : View). v.notes) view_q ∙ ap (λ (l : List Notes). no_notes ∷ l) can.noted

  hands_q : (e cpu : ℕ) → is_among cpu q.view.cpus ≡ true → is_in_hand_of e cpu q.view.hand ≡ false
  hands_q e cpu among = ap (λ (v : View). is_in_hand_of e cpu v.hand) view_q ∙ can.hands_empty e cpu (ap (λ (v : View). is_among cpu v.cpus) (sym view_q) ∙ among)

  -- how often an element lies on the global lists, and on the local ones
  on_global : (e : ℕ) → times e (all_of took.hold.now) ≡ times_on_set e set
  on_global e =
      let is : times e (all_of took.hold.now) ≡ times e (numbers set.free.bodies ++ (elements_of set.active ++ elements_of set.inactive)) = ap (λ (l : Lists). times e (all_of l)) took.now in
      let all = times_append e (numbers set.free.bodies) (elements_of set.active ++ elements_of set.inactive) in
      let both = times_append e (elements_of set.active) (elements_of set.inactive) in
      omega (arith, is, all, both)

  on_local : (e : ℕ) → times e (all_of can.hold.now) ≡ times_on e lists
  on_local e =
      let is : times e (all_of can.hold.now) ≡ times e (numbers lists.free.bodies ++ (elements_of lists.pending ++ [])) = ap (λ (l : Lists). times e (all_of l)) can.now in
      let all = times_append e (numbers lists.free.bodies) (elements_of lists.pending ++ []) in
      let both = times_append e (elements_of lists.pending) [] in
      omega (arith, is, all, both)

  -- what lies on the global lists is not on the local ones
  none_local : (e : ℕ) → 0 < times_on_set e set → times_on e lists ≡ 0
  none_local e some =
      let inside : IsIn e (all_of took.hold.now) = subst (λ (n : ℕ). 0 < n) (sym (on_global e)) some in
      let found : hold_at can.hold.lock p.view.held ≡ Some can.hold = ap (hold_at can.hold.lock) can.held ∙ hold_at_first can.hold [] in
      sym (on_local e) ∙ took.alone can.evicts refl can.hold.lock e can.hold found (ap is_bucket (local_named can)) inside

  apart_q : (e : ℕ) → times_on_set e set + times_on e lists ≤ 1
  apart_q e =
      let one = took.fits.whole.once e in
      let other = can.fits.whole.once e in
      ⊎_elim
      (λ (none : times_on_set e set ≡ 0). omega (arith, none, other))
      (λ (some : 0 < times_on_set e set). let none = none_local e some in omega (arith, none, one))
      (eq-zero-or-pos (times_on_set e set))

  -- what an element has under each of the two locks
  global_stored : (k e h : ℕ) (hold : Hold) → took.hold.lock ≡ k → took.hold ≡ hold → stored_in (content t.shape (lock_named t.shape k) hold.log) e ≡ Some h → stored_hash e (rows_on set) ≡ Some h
  global_stored k e h hold lock is stored =
      let named : Global ≡ lock_named t.shape k = sym (named_by_number t.shape Global can.common) ∙ ap (lock_named t.shape) (sym took.lock_is ∙ lock) in
      sym (stored_global set e) ∙ (ap (λ (c : Content). stored_in c e) (took.told_is ∙ (λ i. content t.shape (named i) ((is i).log))) ∙ stored)

  local_stored : (k e h : ℕ) (hold : Hold) → can.hold.lock ≡ k → can.hold ≡ hold → stored_in (content t.shape (lock_named t.shape k) hold.log) e ≡ Some h → stored_hash e lists.pending ≡ Some h
  local_stored k e h hold lock is stored =
      let named : Local p.cpu ≡ lock_named t.shape k = sym (local_named can) ∙ ap (lock_named t.shape) lock in
      sym (stored_pending lists e) ∙ (ap (λ (c : Content). stored_in c e) (can.found ∙ (λ i. content t.shape (named i) ((is i).log))) ∙ stored)

  is_pending : (e h : ℕ) → stored_hash e lists.pending ≡ Some h → 0 < times_on e lists
  is_pending e h stored = let inside = stored_is_in e h lists.pending stored in omega (arith, inside)

  is_listed : (e h : ℕ) → stored_hash e (rows_on set) ≡ Some h → 0 < times_on_set e set
  is_listed e h stored =
      let inside : IsIn e (elements_of set.active ++ elements_of set.inactive) = stored_listed (in_global (set_told set)) e h (stored_global set e ∙ stored) in
      let both = times_append e (elements_of set.active) (elements_of set.inactive) in
      omega (arith, inside, both)

  not_both : {A : Type 0} (e h n : ℕ) → stored_hash e (rows_on set) ≡ Some h → stored_hash e lists.pending ≡ Some n → A
  not_both e h n listed pending =
      let one = is_listed e h listed in
      let other = is_pending e n pending in
      let once = apart_q e in
      absurd (omega (arith, one, other, once))

  hashed_pending : (e h : ℕ) → stored_hash e lists.pending ≡ Some h → HasOnlyHash t.shape q.view e h
  hashed_pending e h pending k n hold held stored =
      ⊎_elim
      (λ (z : (took.hold.lock ≡ k) × (took.hold ≡ hold)). not_both e n h (global_stored k e n hold z.0 z.1 stored) pending)
      (λ (z : (can.hold.lock ≡ k) × (can.hold ≡ hold)). some_is (sym (local_stored k e n hold z.0 z.1 stored) ∙ pending))
      (hold_at_two k took.hold can.hold hold (ap (hold_at k) (sym held_q) ∙ held))

  hashed_listed : (e h : ℕ) → stored_hash e (rows_on set) ≡ Some h → HasOnlyHash t.shape q.view e h
  hashed_listed e h listed k n hold held stored =
      ⊎_elim
      (λ (z : (took.hold.lock ≡ k) × (took.hold ≡ hold)). some_is (sym (global_stored k e n hold z.0 z.1 stored) ∙ listed))
      (λ (z : (can.hold.lock ≡ k) × (can.hold ≡ hold)). not_both e h n listed (local_stored k e n hold z.0 z.1 stored))
      (hold_at_two k took.hold can.hold hold (ap (hold_at k) (sym held_q) ∙ held))

  holds_q : HoldsGlobal t q
  holds_q = record {
    lists = record {
      of_table = goes_of_table t p q [] [] to_q can.of_table;
      begun = goes_begun p q [] [] to_q can.begun;
      is_shape = can.is_shape;
      evicts = can.evicts;
      there = can.common;
      lists = let low : 2 < 3 = omega arith in low;
      hold = took.hold;
      outer = can.hold ∷ [];
      held = held_q;
      above = above_local can;
      lock_is = took.lock_is;
      cpu_is = took.cpu_is ∙ sym to_q.cpu;
      notes = no_notes;
      below = no_notes ∷ can.below;
      notes_are = noted_q;
      freed = tt;
      unchanged = λ x. refl;
    };
    local_there = subst (λ (c : ℕ). IsTrue (is_lock t.shape (Local c))) (sym to_q.cpu) can.there;
    local = can.hold;
    around = refl;
    local_is = can.lock_is ∙ ap (λ (c : ℕ). lock_number t.shape (Local c)) (sym to_q.cpu);
    local_cpu = can.cpu_is ∙ sym to_q.cpu;
  }

  walk_q : CanWalk t set q
  unfolding holds_q
  walk_q = record {
    holds = holds_q;
    fits = took.fits;
    same_free = ap (λ (l : Lists). l.free) took.now;
    same_rows = λ e. ap (λ (l : Lists). times e (rows l)) took.now ∙ times_append e (elements_of set.active) (elements_of set.inactive);
    hashed = λ row found. hashed_listed row.element row.hash (ap (option_map (λ (r : Row). r.hash)) found);
    in_no_hand = λ e cpu listed among. hands_q e cpu among;
  }

  pub can_fill_taken : CanFill t set lists q
  unfolding holds_q walk_q
  can_fill_taken = record {
    walk = walk_q;
    common = can.common;
    fits = can.fits;
    same_free = ap (λ (l : Lists). l.free) can.now;
    same_rows = λ e.
        let is : times e (rows can.hold.now) ≡ times e (elements_of lists.pending ++ []) = ap (λ (l : Lists). times e (rows l)) can.now in
        let both = times_append e (elements_of lists.pending) [] in
        omega (arith, is, both);
    apart = apart_q;
    hashed = hashed_pending;
    notes = no_notes;
    around = no_notes;
    below = can.below;
    noted = noted_q;
    hands_empty = hands_q;
  }
