-- How an element is freed where the CPUs share lists: at the home that its home word shows, on a CPU's local lists where it is pending
-- there, else on the global lists.
use Rattle.std.proofs.Common.{◌+◌, ◌≡◌, ◌≢◌, ℕ, suc, ◌<◌, ◌≤◌, cond, eqb, Bool, true, false, List, [], ◌∷◌, ◌++◌, length, drop, inl, inr, ⊎_elim, sym, refl, ap, ◌∙◌, subst, append_assoc, arith, Option, Some}
use Rattle.std.specs.Prelude.{IsTrue, IsFalse, All, ◌^◌, ◌&&◌, ◌||◌, ◌↔◌, not, nat_lt, IsSome, is_some}
use Rattle.std.proofs.lemmas.List.Elements.{All-nil, All-cons}
use Rattle.std.proofs.lemmas.Bool.{eqb-true, cases_lt}
use Rattle.map_types.specs.declared.attr.Shape.{Shape}
use Rattle.map_types.specs.declared.kind.DomainId.{DomainId}
use Rattle.map_types.specs.declared.kind.DomainId.TheVariants.{Local, Global, CpuLru, Bucket, Freelist}
use Rattle.map_types.specs.declared.row.Row.{Row}
use Rattle.map_types.specs.Kind.{is_lru}
use Rattle.map_types.specs.Listed.{elements_of}
use Rattle.map_types.specs.Stored.{Stored, IsSized}
use Rattle.map_types.specs.ElementLists.{times, without, IsIn}
use Rattle.map_types.proofs.RowLemmas.{times_append, by_test}
use Rattle.row_list.specs.RowWords as row_words
use Rattle.row_list.specs.RowWords.{row_of}
use Rattle.row_list.proofs.RowLemmas.{without_absent}
use Rattle.lru_lists.specs.Sets.{SetView}
use Rattle.local_lists.specs.LocalLists.{LocalView, IsLocal, local_told, without_pending, with_free}
use Rattle.place_words.specs.declared.history.Entry.{Entry}
use Rattle.place_words.specs.declared.history.Part.{Part}
use Rattle.place_words.specs.declared.history.Part.TheVariants as parts
use Rattle.place_words.specs.declared.home.Home.{Home}
use Rattle.place_words.specs.declared.home.Home.TheVariants as homes
use Rattle.place_words.specs.declared.list_part.GlobalPart.TheVariants as global
use Rattle.place_words.specs.declared.list_part.LocalPart.TheVariants as local
use Rattle.place_words.specs.Codes.{home_code}
use Rattle.place_words.specs.Globals.{global_after}
use Rattle.place_words.specs.Histories as histories
use Rattle.place_words.specs.Histories.{content, in_locals}
use Rattle.place_words.specs.Locals.{local_after}
use Rattle.place_words.specs.Locks.{is_lock, lock_named, lock_number}
use Rattle.place_words.specs.Sets.{has_row}
use Rattle.place_words.specs.Takings.{FreesFlushed, freed_globally, ends_flushed}
use Rattle.place_words.specs.Turns.{Turn, TurnAt, on_lock, turns_of}
use Rattle.place_words.proofs.LockLemmas.{named_by_number, number_within}
use Rattle.place_words.specs.declared.step.Lists.{Lists}
use Rattle.place_words.specs.State.{rows}
use Rattle.place_words.specs.Steps as steps
use Rattle.place_words.specs.Wholeness.{all_of}
use Rattle.place_table.specs.declared.content.Content.TheVariants as contents
use Rattle.place_table.specs.declared.view.Hold.{Hold}
use Rattle.place_table.specs.declared.view.HomeIn.{HomeIn}
use Rattle.place_table.specs.declared.view.Turned.{Turned}
use Rattle.place_table.specs.declared.view.WordStep.{WordStep}
use Rattle.place_table.specs.Calls.{finds_moved_on}
use Rattle.place_table.specs.Contents.{content_told, lists_of, FitsLocal}
use Rattle.place_table.specs.Known.{BitTouch, Learns, KnowsAll, turn_at, IsBy}
use Rattle.place_table.specs.Passes.{PassView, TableView, TookLock, CanSettle, CanGive, Gave, Cleared, Settled, SawHome, with_view}
use Rattle.place_table.specs.Plays.{MayBeHome}
use Rattle.place_table.specs.Rules.{home_step}
use Rattle.place_table.specs.StoredHashes.{stored_in}
use Rattle.place_table.specs.Views.{hold_at, is_in_hand_of, home_known, with_reading, home_then, readings_then, without_in_hand, with_home_read, home_read, touching, no_notes, hold_with}
use Rattle.place_table.specs.Words.{home_word}
use Rattle.place_table.proofs.Entries.{append_nil}
use Rattle.place_table.proofs.FlushedLast.{flushed_told}
use Rattle.place_table.proofs.Readings.{reading_known}
use Rattle.place_table.proofs.Going.{goes_read, goes_of_table, goes_begun, learns_nothing}
use Rattle.place_table.proofs.Worlds.{true_false, by_bool, some_is, both_true}
use Rattle.lru_ops.specs.Lists.{Changed, CanFree, Freed, FreesFrom, ReadHomeFirst}
use Rattle.lru_ops.specs.Shared.{CanPushAt, LiesUnder, FreedBy, FoundMoved, HasTouched}
use Rattle.lru_ops.proofs.Ends.{changed_on}
use Rattle.lru_ops.proofs.Pushes.{Leads, TurnMade, IsPush, OnSet, Pushing, with_clear_of, fits_with, has_row_in, left_times, left_hash, none_lost, room_left, underway_taken, can_settle_listed, can_give_under, turn_made, can_give_pushed, freed, frees_on, touched_on}
use Rattle.lru_ops.proofs.OwnersAround.{global_no_probe, local_no_probe}
use Rattle.percpu_values.specs.BodyList.{pushed}

-- Homes that were read

-- what was known of a home is known at a take, as it is then
known_then : (e c : ℕ) (shape : Shape) (hold : Hold) (readings : List HomeIn) (old : HomeIn) → home_known e c readings ≡ Some old → (now : HomeIn) × (home_known e c (readings_then shape hold readings) ≡ Some now) × (now.home ≡ home_then shape hold e old.home)
known_then e c shape hold [] old known = absurd cc
known_then e c shape hold (x ∷ xs) old known =
    by_bool (eqb x.element e && eqb x.cpu c)
    (λ b. cond b (Some x) (home_known e c xs) ≡ Some old → (now : HomeIn) × (cond b (Some (record x { home = home_then shape hold x.element x.home })) (home_known e c (readings_then shape hold xs)) ≡ Some now) × (now.home ≡ home_then shape hold e old.home))
    (λ hit is. (
      record x { home = home_then shape hold x.element x.home },
      refl,
      ap (λ (z : ℕ). home_then shape hold z x.home) (eqb-true x.element e (both_true (eqb x.element e) (eqb x.cpu c) hit).0) ∙ ap (λ (z : HomeIn). home_then shape hold e z.home) (some_is is),
    ))
    (λ _ later. known_then e c shape hold xs old later) known

-- one that was read to be on local lists, and is on them no more, is on the global ones
then_global : (shape : Shape) (hold : Hold) (e c : ℕ) → lock_number shape (Local c) ≡ hold.lock → times e (rows hold.now) ≡ 0 → home_then shape hold e (homes.In (Local c)) ≡ homes.In Global
then_global shape hold e c at none =
    by_test c hold.lock (λ b. cond (b && eqb (times e (rows hold.now)) 0) (homes.In Global) (homes.In (Local c)) ≡ homes.In Global)
    (λ _. by_test (times e (rows hold.now)) 0 (λ b. cond b (homes.In Global) (homes.In (Local c)) ≡ homes.In Global) (λ _. refl) (λ some. absurd (some none)))
    (λ other. absurd (other at))

-- what is in hand and isn't carried, and on no local lists, is at home on the global ones
global_home : (shape : Shape) (home : Home) → IsTrue shape.common → IsTrue (is_lru shape.kind) → MayBeHome shape home → ((holder : ℕ) → home ≢ homes.Hand holder) → ((c : ℕ) → home ≢ homes.In (Local c)) → home ≡ homes.In Global
global_home shape homes.Unlisted common lru may no_hand no_local = absurd may
global_home shape (homes.In (Local c)) common lru may no_hand no_local = absurd (no_local c refl)
global_home shape (homes.In Global) common lru may no_hand no_local = refl
global_home shape (homes.In (CpuLru c)) common lru may no_hand no_local =
    true_false (sym (both_true (is_lru shape.kind) (not shape.common) (both_true (is_lru shape.kind && not shape.common) (nat_lt c shape.cpus) may.0).0).1 ∙ ap not common)
global_home shape (homes.In (Bucket bucket)) common lru may no_hand no_local = true_false may.1
global_home shape (homes.In (Freelist c)) common lru may no_hand no_local = true_false (sym (both_true (not (is_lru shape.kind)) (nat_lt c shape.cpus) may.0).0 ∙ ap not lru)
global_home shape (homes.Hand holder) common lru may no_hand no_local = absurd (no_hand holder refl)

-- The home of an element was read that is in hand and isn't carried.
pub record ReadsHome (t : TableView) (p q : PassView) (body : Stored) (home : Home) : Type 0 where
  pub lru : IsTrue (is_lru t.shape.kind)
  pub common : IsTrue t.shape.common
  pub can : CanFree t body p
  pub saw : SawHome t body.element p q home

pub reads_home : (t : TableView) (p q : PassView) (body : Stored) (home : Home) (e : ℕ) → IsTrue (is_lru t.shape.kind) → IsTrue t.shape.common → CanFree t body p → e ≡ body.element → SawHome t e p q home → ReadsHome t p q body home
reads_home t p q body home e lru common can e_is saw = record {
  lru = lru;
  common = common;
  can = can;
  saw = subst (λ (x : ℕ). SawHome t x p q home) e_is saw;
}

module _ {t : TableView} {p q : PassView} {body : Stored} {home : Home} (x : ReadsHome t p q body home) where
  may_be : MayBeHome t.shape home
  may_be = x.saw.fits.is_there x.lru

  -- what the look tells
  read_now : HomeIn
  read_now = record { element = body.element; cpu = p.cpu; home = home; at = x.saw.at; turns = x.saw.turns }

  read_here : home_known body.element p.cpu (with_reading x.saw.at x.saw.turns body.element home p.view.hand p.view.readings) ≡ Some read_now
  unfolding read_now
  read_here = reading_known x.saw.at x.saw.turns body.element p.cpu home p.view.hand p.view.readings x.can.in_hand

  pub can_push_at : (lock : DomainId) → home ≡ homes.In lock → CanPushAt t lock body q
  unfolding read_now
  can_push_at lock is =
      subst (λ (z : PassView). CanPushAt t lock body z) (sym x.saw.after_is) record {
        can = record { of_table = x.can.of_table; begun = x.can.begun; no_lock = x.can.no_lock; real = x.can.real; sized = x.can.sized; in_hand = x.can.in_hand; not_carried = x.can.not_carried };
        common = x.common;
        there = (subst (MayBeHome t.shape) is may_be).0;
        reading = read_now;
        read = read_here;
        home_is = is;
      }

  pub lies_under : (lock : DomainId) → home ≡ homes.In lock → LiesUnder t lock body.element q
  lies_under lock is =
      let there : IsTrue (is_lock t.shape lock) = (subst (MayBeHome t.shape) is may_be).0 in
      subst (λ (z : PassView). LiesUnder t lock body.element z) (sym x.saw.after_is)
      (λ logs knows. x.saw.fits.under_home x.lru lock (logs (lock_number t.shape lock)) is (ap (hold_at (lock_number t.shape lock)) x.can.no_lock)
      (knows.each (lock_number t.shape lock) (number_within t.shape lock there) (subst (λ (d : DomainId). IsTrue (is_lock t.shape d)) (sym (named_by_number t.shape lock there)) there)))

  -- and nothing else was done
  changed_read : Changed t p q [] [] []
  changed_read =
      subst (λ (z : PassView). Changed t p z [] [] []) (sym x.saw.after_is) record {
        told_are = tt;
        made = record {
          goes = goes_read (p.view.homes_read ++ record { element = body.element; home = home; at = x.saw.at; turns = x.saw.turns } ∷ []) (with_home_read body.element home p.view.held p.view.notes) p.view.bits (touching x.saw.at (home_word p.view.shape body.element) (Some (home_code home)) (home_code home) p.view) (with_reading x.saw.at x.saw.turns body.element home p.view.hand p.view.readings) p (with_view p (home_read x.saw.at x.saw.turns body.element home p.view)) refl;
          held = refl;
          notes = ap (λ (held : List Hold). with_home_read body.element home held p.view.notes) x.can.no_lock;
        };
        by_call = All-nil (IsBy p.cpu p.call);
        spares = refl;
        carried = refl;
        learns = subst (Learns t.shape p.view (home_read x.saw.at x.saw.turns body.element home p.view) []) (sym (ap (λ b. cond {A = List BitTouch} b [] []) x.lru)) (learns_nothing t.shape p.view (home_read x.saw.at x.saw.turns body.element home p.view) refl refl refl refl);
        none_moved = λ _ _ _. All-nil (λ (turn : Turned). IsFalse (finds_moved_on turn.entry.part));
      }

  is_global : ((c : ℕ) → home ≢ homes.In (Local c)) → home ≡ homes.In Global
  is_global no_local = global_home t.shape home x.common x.lru may_be (λ holder. x.saw.fits.of_hand p.cpu holder x.can.begun x.can.in_hand x.can.not_carried) no_local

  -- the reading is the first step on a word, and these turns free the element from there
  freed_from : (z : PassView) → HasTouched q z → (turns : List TurnAt) → FreesFrom home x.saw.turns body.element turns → (h : Home) × (first : ReadHomeFirst t p z body.element h) × FreesFrom h first.saw.turns body.element turns
  freed_from z more turns frees =
      let reading : WordStep = home_step t.shape (record { element = body.element; home = home }) x.saw.at in
      let read_so : q.view.touched ≡ p.view.touched ++ reading ∷ [] =
      ap (λ (y : PassView). y.view.touched) x.saw.after_is ∙ ap (λ (s : Shape). p.view.touched ++ home_step s (record { element = body.element; home = home }) x.saw.at ∷ []) x.can.of_table.1 in (
        home,
        record {
          read = q;
          saw = x.saw;
          later = more.steps;
          touched_are = more.steps_are ∙ (ap (λ (l : List WordStep). l ++ more.steps) read_so ∙ append_assoc p.view.touched (reading ∷ []) more.steps);
          homes_are = more.no_home ∙ ap (λ (y : PassView). y.view.homes_read) x.saw.after_is;
        },
        frees,
      )

  hand_since : (z : PassView) → z.view.hand ≡ without_in_hand body.element q.cpu q.view.hand → z.view.hand ≡ without_in_hand body.element p.cpu p.view.hand
  hand_since z hand = hand ∙ ap (λ (y : PassView). without_in_hand body.element y.cpu y.view.hand) x.saw.after_is

  -- freed where it is pending
  pub freed_pending : (c : ℕ) (z : PassView) → home ≡ homes.In (Local c) → FreedBy t (on_lock (Local c) (parts.Local (local.Push body.element true))) body q z → Freed t body p z
  freed_pending c z is by =
      let turns : List TurnAt = turn_at t.shape by.step ∷ [] in
      let are : turns_of turns ≡ on_lock (Local c) (parts.Local (local.Push body.element true)) ∷ [] = ap (λ (y : Turn). y ∷ []) by.turn_is in record {
        steps = by.step ∷ [];
        changed = changed_on changed_read by.changed;
        trace = frees_on t.shape body.element turns true x.common (inl (record { on = c; turns_are = are }));
        by_home = λ _. freed_from z by.touched turns (subst (λ (h : Home). FreesFrom h x.saw.turns body.element turns) (sym is) (inl are));
        hand = hand_since z by.hand;
      }

  -- freed on the global lists at once
  pub freed_global : (z : PassView) → ((c : ℕ) → home ≢ homes.In (Local c)) → FreedBy t (freed_globally body.element) body q z → Freed t body p z
  freed_global z no_local by =
      let turns : List TurnAt = turn_at t.shape by.step ∷ [] in
      let are : turns_of turns ≡ freed_globally body.element ∷ [] = ap (λ (y : Turn). y ∷ []) by.turn_is in record {
        steps = by.step ∷ [];
        changed = changed_on changed_read by.changed;
        trace = frees_on t.shape body.element turns true x.common (inr (inr are));
        by_home = λ _. freed_from z by.touched turns (subst (λ (h : Home). FreesFrom h x.saw.turns body.element turns) (sym (is_global no_local)) are);
        hand = hand_since z by.hand;
      }

  -- or after it was found to have moved on, flushed since the reading
  moved_since : (c : ℕ) (r : PassView) (moved : FoundMoved t c body q r) → IsTrue (ends_flushed body.element false (drop x.saw.turns moved.step.earlier))
  unfolding read_now
  moved_since c r moved = moved.since read_now (ap (λ (y : PassView). home_known body.element y.cpu y.view.readings) x.saw.after_is ∙ read_here)

  pub freed_moved : (c : ℕ) (left : Stored) (r z : PassView) → home ≡ homes.In (Local c) → (left ≡ body) × FoundMoved t c body q r → FreedBy t (freed_globally left.element) left r z → Freed t body p z
  freed_moved c left r z is found then =
      let moved = found.1 in
      let by : FreedBy t (freed_globally body.element) body r z = subst (λ (b : Stored). FreedBy t (freed_globally b.element) b r z) found.0 then in
      let turns : List TurnAt = turn_at t.shape moved.step ∷ turn_at t.shape by.step ∷ [] in
      let flushed : FreesFlushed body.element turns = record {
        on = c;
        first = turn_at t.shape moved.step;
        second = turn_at t.shape by.step;
        turns_are = refl;
        first_is = moved.turn_is;
        was_flushed = moved.was_flushed;
        second_is = by.turn_is;
      } in record {
        steps = moved.step ∷ by.step ∷ [];
        changed = changed_on changed_read (changed_on moved.changed by.changed);
        trace = frees_on t.shape body.element turns true x.common (inr (inl flushed));
        by_home = λ _. freed_from z (touched_on q r z moved.touched by.touched) turns (subst (λ (h : Home). FreesFrom h x.saw.turns body.element turns) (sym is) (inr (flushed, refl, moved_since c r moved)));
        hand = hand_since z (by.hand ∙ (λ i. without_in_hand body.element (moved.changed.made.goes.cpu i) (moved.hand i)));
      }

  pub can_push_global : ((c : ℕ) → home ≢ homes.In (Local c)) → CanPushAt t Global body q
  can_push_global no_local = can_push_at Global (is_global no_local)

-- Global lists

abbrev pub global_push : ℕ → Part
global_push e = parts.Global (global.Push e)

is_global_push : (shape : Shape) (e : ℕ) → IsPush shape e (global_push e)
is_global_push shape e = record {
  noted = λ v hold bit. fits_with shape v hold (global_push e) (with_clear_of e bit) refl ([], bit, [], refl, refl) refl tt refl refl refl;
  owners = λ v hold cpu bit. record { changes = λ x owner. refl; probed = λ x holder is. absurd (global_no_probe (global.Push e) x holder is) };
  bits = refl;
  none_told = refl;
  hands_on = λ all. refl;
  finds_it = refl;
  alone = refl;
}

on_global_lists : (shape : Shape) (e : ℕ) → OnSet shape Global e (global_push e)
unfolding global_after stored_in
on_global_lists shape e = record {
  lists = λ set. refl;
  after = λ cpu set. refl;
  allows = λ cpu set listed. listed;
  hashes = λ x set. refl;
  fits = λ set fits. fits;
  fit = λ set fits. fits;
}

-- the element is listed there at the take
listed_there : {t : TableView} {p q : PassView} {body : Stored} {set : SetView} → CanPushAt t Global body p → (took : TookLock t Global p q (contents.Set set)) → IsIn body.element (rows took.hold.now)
listed_there {t} {p} {q} {body} {set} can took =
    let then = known_then body.element p.cpu p.view.shape took.hold p.view.readings can.reading can.read in
    took.at_home body.element p.cpu then.0 took.within (ap (λ (z : PassView). home_known body.element p.cpu z.view.readings) took.after_is ∙ then.1)
    (then.2 ∙ ap (λ (h : Home). home_then p.view.shape took.hold body.element h) can.home_is)

pub pushing_global : (t : TableView) (p q r s : PassView) (body : Stored) (set : SetView) (e : ℕ) (bit : Bool) → IsTrue (is_lru t.shape.kind) → CanPushAt t Global body p → e ≡ body.element
    → TookLock t Global p q (contents.Set set) → Cleared e q r bit → Settled Global e r s → Pushing t Global global_push p q r s body set bit
pushing_global t p q r s body set e bit lru can e_is took clear settle = record {
  lru = lru;
  push = is_global_push t.shape body.element;
  on = on_global_lists t.shape body.element;
  is_there = can.there;
  can = can.can;
  took = took;
  listed = listed_there can took;
  clear = subst (λ (x : ℕ). Cleared x q r bit) e_is clear;
  settle = subst (λ (x : ℕ). Settled Global x r s) e_is settle;
}

-- where its bit was cleared it may settle
pub can_settle_global : (t : TableView) (p q r : PassView) (body : Stored) (set : SetView) (e : ℕ) (bit : Bool) → CanPushAt t Global body p → e ≡ body.element → TookLock t Global p q (contents.Set set) → Cleared e q r bit → CanSettle t e Global r
can_settle_global t p q r body set e bit can e_is took clear =
    subst (λ (x : ℕ). CanSettle t x Global r) (sym e_is) (can_settle_listed can.there can.can took (subst (λ (x : ℕ). Cleared x q r bit) e_is clear) refl (listed_there can took))

-- Local lists

abbrev pub local_push : Bool → ℕ → Part
local_push done e = parts.Local (local.Push e done)

is_local_push : (shape : Shape) (e : ℕ) → IsPush shape e (local_push true e)
is_local_push shape e = record {
  noted = λ v hold bit. fits_with shape v hold (local_push true e) (with_clear_of e bit) refl ([], bit, [], refl, refl) refl tt refl refl refl;
  owners = λ v hold cpu bit. record { changes = λ x owner. refl; probed = λ x holder is. absurd (local_no_probe (local.Push e true) x holder is) };
  bits = refl;
  none_told = refl;
  hands_on = λ all. refl;
  finds_it = refl;
  alone = refl;
}

no_row : (e : ℕ) (rows : List Row) → times e (elements_of rows) ≡ 0 → has_row e rows ≡ false
no_row e [] none = refl
no_row e (row ∷ rows) none =
    by_test row.element e (λ b. cond b (suc (times e (elements_of rows))) (times e (elements_of rows)) ≡ 0 → (b || has_row e rows) ≡ false) (λ _ some. absurd (omega (arith, some))) (λ _ later. no_row e rows later) none

-- the lists that are given back with the body at the head of the free list
abbrev pub given_lists : Stored → LocalView → LocalView
given_lists body lists = with_free (pushed body (without_pending body.element lists).free) (without_pending body.element lists)

module _ {t : TableView} {c : ℕ} {p q : PassView} {body : Stored} {lists : LocalView} (can : CanFree t body p) (took : TookLock t (Local c) p q (contents.Local lists)) where
  abbrev e : ℕ
  e = body.element

  abbrev pending_now : ℕ → ℕ
  pending_now x = times x (elements_of lists.pending)

  -- what is listed there is pending
  listed_now : (x : ℕ) → times x (rows took.hold.now) ≡ pending_now x
  listed_now x = ap (λ (l : Lists). times x (rows l)) took.now ∙ ap (times x) (append_nil (elements_of lists.pending))

  -- the free list has room
  pub local_room : 1 ≤ lists.free.spare
  local_room =
      let fits = took.fits in
      room_left lists.free.bodies lists.free.spare t.shape.elements e fits.room (subst (λ (n : ℕ). n < 2 ^ 32) fits.bound fits.whole.countable)
      (λ x. let once = fits.whole.once x in omega arith)
      (λ x inside. subst (λ (n : ℕ). x < n) fits.bound (fits.whole.below x (omega (arith, inside))))
      can.real (ap (λ (l : Lists). times e l.free) (sym took.now) ∙ (took.apart e p.cpu can.begun can.in_hand).0)

  -- where the element was pending it is freed
  local_leads : (cpu : ℕ) (back : LocalView) → IsIn e (elements_of lists.pending) → back ≡ given_lists body lists → IsLocal back
      → Leads t (Local c) cpu (contents.Local lists) (contents.Local back) (steps.with_free e (steps.without_row e took.hold.now)) (local_push true e)
  unfolding local_after stored_in
  local_leads cpu back pending is whole =
      let leads : content_told (Local c) (contents.Local back) ≡ in_locals (local_told (given_lists body lists)) = ap (λ (x : LocalView). content_told (Local c) (contents.Local x)) is in record {
        told_is = leads;
        fits = pushed_fits;
        allowed = has_row_in e lists.pending pending;
        same_free = λ x. ap (λ (z : histories.Content). times x (lists_of z).free) leads ∙ ap (λ (l : Lists). times x (e ∷ l.free)) (sym took.now);
        same_rows = λ x. ap (λ (z : histories.Content). times x (rows (lists_of z))) leads ∙ (rows_left x ∙ ap (λ (l : Lists). times x (rows (steps.without_row e l))) (sym took.now));
        none_gone = λ x inside. none_lost e x took.hold.now (subst (λ (l : Lists). IsIn x (rows l)) (sym took.now) inside);
        same_hashes = λ x n is_now. left_hash e x n lists.pending (sym (ap (λ (z : histories.Content). stored_in z x) leads) ∙ is_now);
      }
    where
      pushed_fits : FitsLocal t.shape back
      pushed_fits =
          let fits = took.fits in let room = fits.room in let some = local_room in record {
            sized = subst (λ (x : LocalView). All (IsSized t.shape) x.free.bodies) (sym is) (All-cons (IsSized t.shape) body lists.free.bodies can.sized fits.sized);
            bound = ap (λ (x : LocalView). x.elements) is ∙ fits.bound;
            room = ap (λ (x : LocalView). length x.free.bodies + x.free.spare) is ∙ omega arith;
            whole = whole;
            steal = subst (λ (x : LocalView). x.steal < t.shape.cpus) (sym is) fits.steal;
          }

      rows_left : (x : ℕ) → times x (elements_of (row_words.without_row e lists.pending) ++ []) ≡ times x (without e (elements_of lists.pending) ++ [])
      rows_left x =
          let once = took.fits.whole.once e in
          ap (times x) (append_nil (elements_of (row_words.without_row e lists.pending))) ∙ (left_times x e lists.pending (omega arith) ∙ sym (ap (times x) (append_nil (without e (elements_of lists.pending)))))

  -- and where it wasn't, nothing changes
  stays_leads : (cpu : ℕ) (back : LocalView) → pending_now e ≡ 0 → back ≡ without_pending e lists → Leads t (Local c) cpu (contents.Local lists) (contents.Local back) took.hold.now (local_push false e)
  unfolding local_after
  stays_leads cpu back none is =
      subst (λ (x : LocalView). Leads t (Local c) cpu (contents.Local lists) (contents.Local x) took.hold.now (local_push false e)) (sym (is ∙ ap (λ (l : List Row). record lists { pending = l }) (without_absent e lists.pending none))) same
    where
      same : Leads t (Local c) cpu (contents.Local lists) (contents.Local lists) took.hold.now (local_push false e)
      same = record {
        told_is = refl;
        fits = took.fits;
        allowed = no_row e lists.pending none;
        same_free = λ x. ap (λ (l : Lists). times x l.free) (sym took.now);
        same_rows = λ x. ap (λ (l : Lists). times x (rows l)) (sym took.now);
        none_gone = λ x inside. let now = ap (λ (l : Lists). times x (rows l)) took.now in let all = times_append x took.hold.now.free (rows took.hold.now) in omega (arith, inside);
        same_hashes = λ x n is_now. is_now;
      }

  -- A push of an element whose home was read as these lists, which is pending there no more
  module _ (read : CanPushAt t (Local c) body p) (none : pending_now e ≡ 0) where
    none_listed : times e (rows took.hold.now) ≡ 0
    none_listed = listed_now e ∙ none

    -- a pass that knows the turns of all locks finds none
    never_known : LiesUnder t (Local c) e p → (logs : ℕ → List Entry) → KnowsAll t.shape logs p.view → ⊥
    never_known lies logs knows =
        let k : ℕ = lock_number t.shape (Local c) in
        let there : IsTrue (is_lock t.shape (lock_named t.shape k)) = subst (λ (d : DomainId). IsTrue (is_lock t.shape d)) (sym (named_by_number t.shape (Local c) read.there)) read.there in
        let log_is : took.hold.log ≡ logs k = took.known (logs k) (knows.each k (number_within t.shape (Local c) read.there) there) in
        let now_is : took.hold.now ≡ lists_of (content t.shape (Local c) (logs k)) = took.now ∙ ap lists_of (took.told_is ∙ ap (content t.shape (Local c)) log_is) in
        let inside : IsIn e (all_of took.hold.now) = subst (λ (l : Lists). IsIn e (all_of l)) (sym now_is) (lies logs knows) in
        let all = times_append e took.hold.now.free (rows took.hold.now) in
        let none_free = (took.apart e p.cpu can.begun can.in_hand).0 in
        let none_there = none_listed in absurd (omega (arith, all, inside, none_free, none_there))

    pub may_leave : (back : LocalView) → back ≡ without_pending e lists → CanGive t (Local c) q (contents.Local back) (local_push false e)
    may_leave back is =
        can_give_under read.there can took (underway_taken read.there can took) (stays_leads q.cpu back none is)
        (fits_with t.shape q.view (hold_with took.hold took.hold.now) (local_push false e) no_notes refl refl refl tt refl refl refl)
        (record { changes = λ x owner. refl; probed = λ x holder is. absurd (local_no_probe (local.Push e false) x holder is) }) refl

    pub found_moved : {back : LocalView} (z : PassView) → IsTrue (is_lru t.shape.kind) → LiesUnder t (Local c) e p → CanGive t (Local c) q (contents.Local back) (local_push false e) → Gave q z (local_push false e) → FoundMoved t c body p z
    found_moved {back} z lru lies meant gave =
        let made : TurnMade t (Local c) took.hold (local_push false e) p q z =
        turn_made read.there can took (underway_taken read.there can took) z lru meant gave refl refl refl (λ common logs knows. absurd (never_known lies logs knows)) in
        let goes = made.changed.made.goes in
        let told = flushed_told t.shape c read.reading.turns e took.hold.log took.legal (took.moved_on e p.cpu c read.reading took.within refl read.read read.home_is none_listed) in
        let then = known_then e p.cpu p.view.shape took.hold p.view.readings read.reading read.read in
        let hand_is : z.view.hand ≡ p.view.hand = made.hand ∙ ap (λ (x : PassView). x.view.hand) took.after_is in record {
          step = made.step;
          changed = made.changed;
          touched = made.touched;
          turn_is = made.turn;
          was_flushed = subst (λ (l : List Entry). IsTrue (ends_flushed e false l)) (sym made.earlier) told.1;
          since = λ known found. subst (λ (z : ℕ × List Entry). IsTrue (ends_flushed e false (drop z.0 z.1))) (λ i. (ap (λ (h : HomeIn). h.turns) (some_is (sym read.read ∙ found)) i, sym made.earlier i)) told.0;
          hand = hand_is;
          can = record {
            can = record {
              of_table = goes_of_table t p z (made.step ∷ []) [] goes can.of_table;
              begun = goes_begun p z (made.step ∷ []) [] goes can.begun;
              no_lock = made.changed.made.held ∙ can.no_lock;
              real = can.real;
              sized = can.sized;
              in_hand = (λ i. is_in_hand_of e (goes.cpu i) (hand_is i)) ∙ can.in_hand;
              not_carried = (λ i. is_in_hand_of e (goes.cpu i) (made.changed.carried i)) ∙ can.not_carried;
            };
            common = read.common;
            there = read.common;
            reading = then.0;
            read = (λ i. home_known e (goes.cpu i) ((made.readings ∙ ap (λ (x : PassView). x.view.readings) took.after_is) i)) ∙ then.1;
            home_is = then.2 ∙ (ap (λ (h : Home). home_then p.view.shape took.hold e h) read.home_is ∙ then_global p.view.shape took.hold e c (sym took.lock_is) none_listed);
          };
        }

-- whether the element was pending is what taking its row answered
pub was_pending : (e : ℕ) (pending : List Row) (found : Option Row) (answer : Bool) → (IsSome found ↔ IsIn e (elements_of pending)) → answer ≡ is_some found → answer ≡ true → IsIn e (elements_of pending)
was_pending e pending found answer present answer_is is = present.0 (sym answer_is ∙ is)

pub was_not_pending : (e : ℕ) (pending : List Row) (found : Option Row) (answer : Bool) → (IsSome found ↔ IsIn e (elements_of pending)) → answer ≡ is_some found → answer ≡ false → times e (elements_of pending) ≡ 0
was_not_pending e pending found answer present answer_is is =
    ⊎_elim (λ (there : 0 < times e (elements_of pending)). true_false (sym (present.1 there) ∙ (sym answer_is ∙ is))) (λ (none : times e (elements_of pending) ≤ 0). omega arith) (cases_lt 0 (times e (elements_of pending)))

-- The element of a body was pending on local lists, its bit was cleared, and it settled there.
pub record PushingLocal (t : TableView) (c : ℕ) (p q r s : PassView) (body : Stored) (lists : LocalView) (bit : Bool) : Type 0 where
  pub lru : IsTrue (is_lru t.shape.kind)
  pub can : CanPushAt t (Local c) body p
  pub took : TookLock t (Local c) p q (contents.Local lists)
  pub pending : IsIn body.element (elements_of lists.pending)
  pub clear : Cleared body.element q r bit
  pub settle : Settled (Local c) body.element r s

pub pushing_local : (t : TableView) (p q r s : PassView) (body : Stored) (lists : LocalView) (c e : ℕ) (bit : Bool) → IsTrue (is_lru t.shape.kind) → CanPushAt t (Local c) body p → e ≡ body.element
    → TookLock t (Local c) p q (contents.Local lists) → IsIn e (elements_of lists.pending) → Cleared e q r bit → Settled (Local c) e r s → PushingLocal t c p q r s body lists bit
pushing_local t p q r s body lists c e bit lru can e_is took pending clear settle = record {
  lru = lru;
  can = can;
  took = took;
  pending = subst (λ (x : ℕ). IsIn x (elements_of lists.pending)) e_is pending;
  clear = subst (λ (x : ℕ). Cleared x q r bit) e_is clear;
  settle = subst (λ (x : ℕ). Settled (Local c) x r s) e_is settle;
}

module _ {t : TableView} {c : ℕ} {p q r s : PassView} {body : Stored} {lists : LocalView} {bit : Bool} (x : PushingLocal t c p q r s body lists bit) where
  pub local_push_room : (off : LocalView) → off ≡ without_pending body.element lists → 1 ≤ off.free.spare
  local_push_room off is = subst (λ (z : LocalView). 1 ≤ z.free.spare) (sym is) (local_room x.can.can x.took)

  pub local_given : (e : ℕ) (off back : LocalView) → e ≡ body.element → off ≡ without_pending e lists → back ≡ with_free (pushed body off.free) off → IsLocal back → CanGive t (Local c) s (contents.Local back) (local_push true e)
  local_given e off back e_is off_is is whole =
      subst (λ (n : ℕ). CanGive t (Local c) s (contents.Local back) (local_push true n)) (sym e_is)
      (can_give_pushed (is_local_push t.shape body.element) x.can.there x.can.can x.took x.clear x.settle
      (local_leads x.can.can x.took s.cpu back x.pending (is ∙ ap (λ (z : LocalView). with_free (pushed body z.free) z) (off_is ∙ ap (λ (n : ℕ). without_pending n lists) e_is)) whole))

  pub local_freed : (e : ℕ) (back : LocalView) (z : PassView) → e ≡ body.element → CanGive t (Local c) s (contents.Local back) (local_push true e) → Gave s z (local_push true e) → FreedBy t (on_lock (Local c) (local_push true body.element)) body p z
  local_freed e back z e_is meant gave =
      (freed (is_local_push t.shape body.element) x.can.there x.can.can x.took x.clear x.settle z x.lru (subst (λ (n : ℕ). CanGive t (Local c) s (contents.Local back) (local_push true n)) e_is meant) (subst (λ (n : ℕ). Gave s z (local_push true n)) e_is gave))

-- It was not pending there any more, and nothing was done.
pub record Missing (t : TableView) (c : ℕ) (p q : PassView) (body : Stored) (lists : LocalView) : Type 0 where
  pub lru : IsTrue (is_lru t.shape.kind)
  pub can : CanPushAt t (Local c) body p
  pub lies : LiesUnder t (Local c) body.element p
  pub took : TookLock t (Local c) p q (contents.Local lists)
  pub none : times body.element (elements_of lists.pending) ≡ 0

pub missing : (t : TableView) (p q : PassView) (body : Stored) (lists : LocalView) (c e : ℕ) → IsTrue (is_lru t.shape.kind) → CanPushAt t (Local c) body p → LiesUnder t (Local c) body.element p → e ≡ body.element
    → TookLock t (Local c) p q (contents.Local lists) → times e (elements_of lists.pending) ≡ 0 → Missing t c p q body lists
missing t p q body lists c e lru can lies e_is took none = record {
  lru = lru;
  can = can;
  lies = lies;
  took = took;
  none = subst (λ (x : ℕ). times x (elements_of lists.pending) ≡ 0) e_is none;
}

module _ {t : TableView} {c : ℕ} {p q : PassView} {body : Stored} {lists : LocalView} (x : Missing t c p q body lists) where
  pub left_given : (e : ℕ) (off : LocalView) → e ≡ body.element → off ≡ without_pending e lists → CanGive t (Local c) q (contents.Local off) (local_push false e)
  left_given e off e_is off_is =
      subst (λ (n : ℕ). CanGive t (Local c) q (contents.Local off) (local_push false n)) (sym e_is)
      (may_leave x.can.can x.took x.can x.none off (off_is ∙ ap (λ (n : ℕ). without_pending n lists) e_is))

  pub left_moved : (e : ℕ) (off : LocalView) (z : PassView) → e ≡ body.element → CanGive t (Local c) q (contents.Local off) (local_push false e) → Gave q z (local_push false e) → FoundMoved t c body p z
  left_moved e off z e_is meant gave =
      found_moved x.can.can x.took x.can x.none z x.lru x.lies (subst (λ (n : ℕ). CanGive t (Local c) q (contents.Local off) (local_push false n)) e_is meant) (subst (λ (n : ℕ). Gave q z (local_push false n)) e_is gave)
