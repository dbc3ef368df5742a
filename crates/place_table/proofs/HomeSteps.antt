-- The step on a home word: an element goes from the lists of a lock, or from a hand that carries it, to others.
use Rattle.std.proofs.Common.{◌≡◌, ◌≢◌, ℕ, ◌+◌, ◌<◌, ◌⊎◌, inl, inr, ⊎_elim, eqb, cond, Bool, true, false, List, [], ◌∷◌, ◌++◌, get_or, set, sym, refl, ap, ◌∙◌, subst, arith, get_or-set_other, get_or-set_same, None, Some, Option}
use Rattle.std.specs.Prelude.{◌&&◌, IsTrue, IsFalse, is_some}
use Rattle.std.proofs.lemmas.Bool.{and_parts, eq-eqb}
use mathlib.Core.Option.{some}
use lib.ListN.{get_elem?}
use Rattle.atomic_table.specs.Table.{State, Allows, keeps, stepped}
use Rattle.map_types.specs.declared.attr.Shape.{Shape}
use Rattle.map_types.specs.declared.kind.DomainId.{DomainId}
use Rattle.map_types.specs.declared.kind.DomainId.TheVariants.{Local, Global, CpuLru, Bucket, Freelist}
use Rattle.map_types.specs.Kind.{is_lru}
use Rattle.map_types.specs.Shape.{HasBounds}
use Rattle.map_types.proofs.CreationLemmas.{bounds_of_shape}
use Rattle.place_words.specs.declared.home.Home.{Home}
use Rattle.place_words.specs.declared.home.Home.TheVariants as homes
use Rattle.place_words.specs.declared.owner.Owner.{Owner}
use Rattle.place_words.specs.declared.owner.Owner.TheVariants as owners
use Rattle.place_words.specs.Codes.{home_code, HasHomeCode}
use Rattle.map_types.specs.ElementLists.{put, times, IsIn}
use Rattle.map_types.proofs.RowLemmas.{times_append, by_test}
use Rattle.place_words.specs.declared.history.Entry.{Entry}
use Rattle.place_words.specs.Histories.{content}
use Rattle.place_words.specs.Locks.{is_lock, lock_named, lock_number}
use Rattle.place_words.specs.Openings.{is_free}
use Rattle.place_words.proofs.LockLemmas.{named_by_number, number_of_named, number_within}
use Rattle.place_words.specs.declared.step.Lists.{Lists}
use Rattle.place_words.specs.declared.step.Step.TheVariants.{Rehome, Clear, Glance}
use Rattle.place_words.specs.State.{rows, is_bucket}
use Rattle.place_words.specs.Places.{ElementPlace, under_lock, carried, lies_at, has_row, home_of_place, MayOwn, MayLie}
use Rattle.place_words.specs.Steps.{Holds, left_by, joined_by, MayLeave, MayEnter, IsFreeOrInHand, CanRehome, after_leaving, after_joining, CanClear, IsHeldHome}
use Rattle.place_words.specs.Steps as steps
use Rattle.place_words.specs.Wholeness.{all_of, EachInOnePlace}
use Rattle.place_words.proofs.ElementLemmas.{at_put, put_here, put_else}
use Rattle.place_words.proofs.RowLemmas.{stands_where, free_is, lies_is, row_lies}
use Rattle.place_words.proofs.StepLaws.{step_keeps_places, step_keeps_ranks}
use Rattle.place_words.proofs.WholeLemmas.{each_in_one_place}
use Rattle.place_table.specs.declared.view.HomeRead.{HomeRead}
use Rattle.place_table.specs.declared.content.Behind.{Behind}
use Rattle.place_table.specs.declared.view.View.{View}
use Rattle.place_table.specs.declared.view.Hold.{Hold}
use Rattle.place_table.specs.declared.view.InHand.{InHand}
use Rattle.place_table.specs.declared.view.Notes.{Notes}
use Rattle.place_table.specs.Contents.{lists_of}
use Rattle.place_table.specs.Laws.{StepsAs, goes_by}
use Rattle.place_table.specs.Views.{is_among, hold_at, is_in_hand_of, known_log, now_at, with_now, with_places, held_without, held_with, carried_without, carried_with, with_come_home, with_left_home, came_at, without_readings, kept_hashes, noted, with_clear, with_home_read, with_reading, bits_with, touching, with_homes_read}
use Rattle.place_table.specs.Views as views
use Rattle.place_table.specs.Rules.{World, Rule, PassKnows, entries, AtHome, Ascends, is_home_of, StillHome, IsCounted, IsHashed, HasCome, hold, hold_of}
use Rattle.place_table.specs.Words.{owner_word, home_word, bit_word}
use Rattle.place_table.specs.Passes.{PassView, TableView, Carries, IsPassOf, HasBegun, with_view, Rehomed}
use Rattle.place_table.specs.Plays.{Seated, HoldsLock, IsKnownHome, IsKnownFree, MayBeHome, MayGoHome, OwnerFits, HomeFits, Rehomes, Clears, MayClear, SeesHome}
use Rattle.place_table.proofs.Hands.{ascends_now, carries_now, AreInHands, comes_to_hand, leaves_hand, stays_in_hand, IsHomeOfPass}
use Rattle.place_table.proofs.Locks.{allows_of}
use Rattle.place_table.proofs.Nesting.{lists_with, lists_without}
use Rattle.place_table.proofs.PlaceSteps.{IsHeldByPass, AreHeld, rowed_moved, now_is, held_moved, place_rule, hashes_kept, now_there, holds_there}
use Rattle.place_table.proofs.WordSteps.{clears_by, look_rule}
use Rattle.place_table.proofs.OwnersSeen.{owner_fits}
use Rattle.place_table.specs.declared.view.Ticket.TheVariants.{Unread}
use Rattle.place_table.specs.Words.{ticket_word}
use Rattle.place_table.specs.Rules.{logs_of}
use Rattle.place_table.specs.Owners.{IsUnchangedAround, IsHomeHere, is_held}
use Rattle.place_table.proofs.OwnersNoted.{kept_home_read, kept_come_home, kept_left_home}
use Rattle.place_table.proofs.OwnersOrder.{apart_there, keeps_known, owners_rehomed}
use Rattle.place_table.proofs.Worlds.{true_false, by_bool, none_some, both_true, some_is, has_mine, hand_is, in_hand_is, hold_of_mine, hashed_stands, hashed_away, IsAway}
use Rattle.place_table.proofs.Readings.{listed_at_home, without_home, still_flushed, still_is, IsNew, read_home_known, home_is_hand}
use Rattle.place_table.proofs.Rehomes.{rows_come, hashes_rehomed}
use Rattle.place_table.proofs.NotesDone.{noted_with, noted_without, noted_home_come, noted_left_home, noted_home, word_off}
use Rattle.place_table.proofs.Came.{came_home_read, came_with, came_without, came_home, came_left_home, come_from_other, came_here}
use Rattle.place_table.proofs.StoredHashes.{kept_there}
use Rattle.place_table.specs.declared.view.WordStep.{WordStep}
use Rattle.place_table.proofs.StepLog.{made}
use Rattle.place_table.proofs.CodeLemmas.{has_home_code, lies_has_code, one_home}
use Rattle.place_table.proofs.Counted.{turns_told, counted_now, homes_with}
use Rattle.place_table.proofs.MarksNoted.{on_same, marks_home_read, marks_with, marks_without, marks_come_home, marks_left_home}

-- the home is a lock that a CPU of the pass holds, or the hand of one
abbrev IsInReach : Shape → World → ℕ → Home → Type 0
IsInReach shape w pass homes.Unlisted = Unit {0}
IsInReach shape w pass (homes.In lock) = IsHeldByPass w pass (lock_number shape lock)
IsInReach shape w pass (homes.Hand c) = w.pass_of_cpu c ≡ pass

holds_in_reach : (shape : Shape) (w : World) (pass cpu : ℕ) (lock : DomainId) → w.pass_of_cpu cpu ≡ pass → Holds shape w.core cpu lock → IsHeldByPass w pass (lock_number shape lock)
holds_in_reach shape w pass cpu lock mine holds = record { cpu = cpu; holder_is = holds.held; mine = mine }

leaves_in_reach : (shape : Shape) (w : World) (pass cpu : ℕ) (home : Home) → w.pass_of_cpu cpu ≡ pass → MayLeave shape w.core cpu home → IsInReach shape w pass home
leaves_in_reach shape w pass cpu homes.Unlisted mine may = absurd may
leaves_in_reach shape w pass cpu (homes.In lock) mine may = holds_in_reach shape w pass cpu lock mine may
leaves_in_reach shape w pass cpu (homes.Hand c) mine may = ap w.pass_of_cpu may ∙ mine

enters_in_reach : (shape : Shape) (w : World) (pass cpu : ℕ) (owner : Owner) (home : Home) → w.pass_of_cpu cpu ≡ pass → MayEnter shape w.core cpu owner home → IsInReach shape w pass home
enters_in_reach shape w pass cpu owner homes.Unlisted mine may = absurd may
enters_in_reach shape w pass cpu owner (homes.In (Local c)) mine may = holds_in_reach shape w pass cpu (Local c) mine may.0
enters_in_reach shape w pass cpu owner (homes.In Global) mine may = holds_in_reach shape w pass cpu Global mine may
enters_in_reach shape w pass cpu owner (homes.In (CpuLru c)) mine may = absurd may
enters_in_reach shape w pass cpu owner (homes.In (Bucket bucket)) mine may = absurd may
enters_in_reach shape w pass cpu owner (homes.In (Freelist c)) mine may = absurd may
enters_in_reach shape w pass cpu owner (homes.Hand c) mine may = ap w.pass_of_cpu may.0 ∙ mine

reach_of_pass : (shape : Shape) (w : World) (pass : ℕ) (home : Home) → IsInReach shape w pass home → IsHomeOfPass w.pass_of_cpu pass home
reach_of_pass shape w pass homes.Unlisted reach = tt
reach_of_pass shape w pass (homes.In lock) reach = tt
reach_of_pass shape w pass (homes.Hand c) reach = reach

-- Lists under the locks, and what the pass knows of them

module _ (shape : Shape) (w : World) (pass : ℕ) (owner : Owner) (e : ℕ) (lists : ℕ → Lists) where
  under_left : (home : Home) → IsInReach shape w pass home → (k : ℕ) → (after_leaving shape home owner e lists k ≡ lists k) ⊎ IsHeldByPass w pass k
  under_left homes.Unlisted reach k = inl refl
  under_left (homes.In lock) reach k =
      at_put lists (lock_number shape lock) (left_by owner e (lists (lock_number shape lock))) (λ j l. (l ≡ lists j) ⊎ IsHeldByPass w pass j) k (inr reach) (λ _. inl refl)
  under_left (homes.Hand c) reach k = inl refl

  under_joined : (home : Home) → IsInReach shape w pass home → (k : ℕ) → (after_joining shape home owner e lists k ≡ lists k) ⊎ IsHeldByPass w pass k
  under_joined homes.Unlisted reach k = inl refl
  under_joined (homes.In lock) reach k =
      at_put lists (lock_number shape lock) (joined_by lock owner e (lists (lock_number shape lock))) (λ j l. (l ≡ lists j) ⊎ IsHeldByPass w pass j) k (inr reach) (λ _. inl refl)
  under_joined (homes.Hand c) reach k = inl refl

  held_left : (home : Home) (held : List Hold) → IsInReach shape w pass home → AreHeld w pass lists held → AreHeld w pass (after_leaving shape home owner e lists) (held_without shape home owner e held)
  held_left homes.Unlisted held reach are = are
  held_left (homes.In lock) held reach are =
      let k : ℕ = lock_number shape lock in
      subst (λ (l : Lists). AreHeld w pass (put lists k (left_by owner e (lists k))) (with_now k (left_by owner e l) held)) (sym (now_is w pass k lists held are reach))
      (held_moved w pass k lists held (left_by owner e (lists k)) are reach)
  held_left (homes.Hand c) held reach are = are

  held_joined : (home : Home) (held : List Hold) → IsInReach shape w pass home → AreHeld w pass lists held → AreHeld w pass (after_joining shape home owner e lists) (held_with shape home owner e held)
  held_joined homes.Unlisted held reach are = are
  held_joined (homes.In lock) held reach are =
      let k : ℕ = lock_number shape lock in
      subst (λ (l : Lists). AreHeld w pass (put lists k (joined_by lock owner e (lists k))) (with_now k (joined_by lock owner e l) held)) (sym (now_is w pass k lists held are reach))
      (held_moved w pass k lists held (joined_by lock owner e (lists k)) are reach)
  held_joined (homes.Hand c) held reach are = are

ascends_left : (shape : Shape) (home : Home) (owner : Owner) (e : ℕ) (held : List Hold) → Ascends shape held → Ascends shape (held_without shape home owner e held)
ascends_left shape homes.Unlisted owner e held ascends = ascends
ascends_left shape (homes.In lock) owner e held ascends = ascends_now shape _ _ held ascends
ascends_left shape (homes.Hand c) owner e held ascends = ascends

ascends_joined : (shape : Shape) (home : Home) (owner : Owner) (e : ℕ) (held : List Hold) → Ascends shape held → Ascends shape (held_with shape home owner e held)
ascends_joined shape homes.Unlisted owner e held ascends = ascends
ascends_joined shape (homes.In lock) owner e held ascends = ascends_now shape _ _ held ascends
ascends_joined shape (homes.Hand c) owner e held ascends = ascends

-- Elements that are carried

module _ (cpus pass e : ℕ) (pass_of_cpu : ℕ → ℕ) (f g : ℕ → Home) (carried : List InHand) (others : (x : ℕ) → x ≢ e → g x ≡ f x) (are : AreInHands is_home_of cpus pass pass_of_cpu f carried) where
  carried_left : (home : Home) → f e ≡ home → g e ≡ homes.Unlisted → AreInHands is_home_of cpus pass pass_of_cpu g (carried_without home e carried)
  carried_left homes.Unlisted was is = stays_in_hand is_home_of cpus pass e 0 pass_of_cpu f g carried others are (λ c. ap (is_home_of c) was) (λ c. ap (is_home_of c) is)
  carried_left (homes.In lock) was is = stays_in_hand is_home_of cpus pass e 0 pass_of_cpu f g carried others are (λ c. ap (is_home_of c) was) (λ c. ap (is_home_of c) is)
  carried_left (homes.Hand cpu) was is = leaves_hand is_home_of cpus pass e cpu pass_of_cpu f g carried others are (λ c. ap (is_home_of c) was) (λ c. ap (is_home_of c) is)

  carried_joined : (home : Home) → IsHomeOfPass pass_of_cpu pass home → f e ≡ homes.Unlisted → g e ≡ home → AreInHands is_home_of cpus pass pass_of_cpu g (carried_with home e carried)
  carried_joined homes.Unlisted ours was is = stays_in_hand is_home_of cpus pass e 0 pass_of_cpu f g carried others are (λ c. ap (is_home_of c) was) (λ c. ap (is_home_of c) is)
  carried_joined (homes.In lock) ours was is = stays_in_hand is_home_of cpus pass e 0 pass_of_cpu f g carried others are (λ c. ap (is_home_of c) was) (λ c. ap (is_home_of c) is)
  carried_joined (homes.Hand cpu) ours was is = comes_to_hand is_home_of cpus pass e cpu pass_of_cpu f g carried others are ours (λ c. ap (is_home_of c) was) (λ c. ap (is_home_of c) is)

-- what is noted once an element has gone from one home to another
abbrev notes_then : Shape → Home → Home → ℕ → View → List Notes
notes_then shape from to e v = with_come_home shape from to e v.held (with_left_home shape from to e v.held v.notes)

-- What the pass knows, as it is so

module _ (shape : Shape) (s : State Behind View) (r : Rule shape s) (pass : ℕ) (v : View) (at_pass : get_elem? s.views pass ≡ some v) (c e : ℕ) (has : is_among c v.cpus ≡ true) (real : e < shape.elements) where
  holds_known : (lock : DomainId) → HoldsLock shape v c lock → Holds shape r.world.core c lock
  holds_known lock holds = subst (λ (n : ℕ). Holds shape r.world.core n lock) holds.cpu_is (holds_there shape s r pass v at_pass lock holds.hold holds.held holds.there)

  -- an element on the lists of a lock lies there
  lies_there : (lock : DomainId) → IsTrue (is_lock shape lock) → IsFalse (is_bucket lock) → IsIn e (all_of (r.world.core.lists (lock_number shape lock))) → r.placed.place e ≡ under_lock (lock_number shape lock)
  lies_there lock is no_bucket inside =
      let k : ℕ = lock_number shape lock in
      let w = r.world in let p = r.placed.placed in
      let both = times_append e (w.core.lists k).free (rows (w.core.lists k)) in
      lies_is k (r.placed.place e)
      (⊎_elim
      (λ (free : 0 < times e (w.core.lists k).free). (and_parts (is_free (w.core.owner e)) (lies_at k (r.placed.place e)) (stands_where shape.elements e _ _ (p.free k e) free).stands).1)
      (λ (listed : 0 < times e (rows (w.core.lists k))).
      row_lies (is_lru shape.kind) lock (w.core.owner e) (lies_at k (r.placed.place e)) no_bucket
      (subst (λ (d : DomainId). has_row (is_lru shape.kind) d (w.core.owner e) (lies_at k (r.placed.place e)) ≡ true) (named_by_number shape lock is) (stands_where shape.elements e _ _ (p.rows k e) listed).stands))
      (one_of (times e (w.core.lists k).free) (times e (rows (w.core.lists k))) (omega arith)))
    where
      one_of : (m n : ℕ) → 0 < m + n → (0 < m) ⊎ (0 < n)
      one_of m n some_there = by_test m 0 (λ _. (0 < m) ⊎ (0 < n)) (λ none. inr (omega arith)) (λ more. inl (omega arith))

  pub home_known : (home : Home) → IsTrue (is_lru shape.kind) → IsKnownHome shape v c e home → r.world.core.home e ≡ home
  home_known homes.Unlisted lru known = absurd known
  home_known (homes.In lock) lru known =
      let k : ℕ = lock_number shape lock in
      let w = r.world in
      let inside = subst (λ (l : Lists). IsIn e (all_of l)) (now_there shape s r pass v at_pass k known.0.hold known.0.held) known.2 in
      let at = lies_there lock known.0.there known.1 inside in
      r.placed.placed.homes e real ∙ (ap (home_of_place shape) at ∙ (ap (λ (b : Bool). cond b (homes.In (lock_named shape k)) homes.Unlisted) lru ∙ ap homes.In (named_by_number shape lock known.0.there)))
  home_known (homes.Hand d) lru known =
      let w = r.world in let kn = r.knows pass v at_pass in
      home_is_hand c (w.core.home e) (both_true _ _ (sym (kn.carried e c (kn.within c has)) ∙ known.1)).0 ∙ ap homes.Hand (sym known.0)

  owner_known : is_in_hand_of e c v.hand ≡ true → r.world.core.owner e ≡ owners.Hand c
  owner_known in_hand = in_hand_is shape r.world pass v e c (r.knows pass v at_pass) has in_hand

  free_known : IsKnownFree v e → r.world.core.owner e ≡ owners.Free
  free_known known =
      let w = r.world in
      let inside : IsIn e (w.core.lists known.lock).free = subst (λ (l : Lists). IsIn e l.free) (now_there shape s r pass v at_pass known.lock known.hold known.held) known.inside in
      free_is (w.core.owner e) (and_parts (is_free (w.core.owner e)) (lies_at known.lock (r.placed.place e)) (stands_where shape.elements e _ _ (r.placed.placed.free known.lock e) inside).stands).0

  leaves_known : (home : Home) → IsKnownHome shape v c e home → MayLeave shape r.world.core c home
  leaves_known homes.Unlisted known = absurd known
  leaves_known (homes.In lock) known = holds_known lock known.0
  leaves_known (homes.Hand d) known = known.0

  enters_known : (home : Home) → MayGoHome shape v c e home → MayEnter shape r.world.core c (r.world.core.owner e) home
  enters_known homes.Unlisted may = absurd may
  enters_known (homes.In (Local d)) may = (
    holds_known (Local d) may.0,
    ⊎_elim
        (λ (free : IsKnownFree v e). subst (IsFreeOrInHand c) (sym (free_known free)) tt)
        (λ (in_hand : is_in_hand_of e c v.hand ≡ true). subst (IsFreeOrInHand c) (sym (owner_known in_hand)) refl)
        may.1,
  )
  enters_known (homes.In Global) may = holds_known Global may
  enters_known (homes.In (CpuLru d)) may = absurd may
  enters_known (homes.In (Bucket bucket)) may = absurd may
  enters_known (homes.In (Freelist d)) may = absurd may
  enters_known (homes.Hand d) may = (may.0, owner_known may.1)

  -- a lock where it may go is one that the CPU holds
  entered : (to : Home) → MayEnter shape r.world.core c (r.world.core.owner e) to → (lock : DomainId) → to ≡ homes.In lock → Holds shape r.world.core c lock
  entered to may lock at = go to may at
    where
      same_lock : (a b : DomainId) → homes.In a ≡ homes.In b → a ≡ b
      same_lock a b is = cc

      no_lock : (x : ℕ) → homes.Hand x ≡ homes.In lock → ⊥
      no_lock x is = cc

      go : (to : Home) → MayEnter shape r.world.core c (r.world.core.owner e) to → to ≡ homes.In lock → Holds shape r.world.core c lock
      go homes.Unlisted may at = absurd may
      go (homes.In (Local x)) may at = subst (Holds shape r.world.core c) (same_lock (Local x) lock at) may.0
      go (homes.In Global) may at = subst (Holds shape r.world.core c) (same_lock Global lock at) may
      go (homes.In (CpuLru x)) may at = absurd may
      go (homes.In (Bucket b)) may at = absurd may
      go (homes.In (Freelist x)) may at = absurd may
      go (homes.Hand x) may at = absurd (no_lock x at)

  -- what is in the hand of another CPU goes from a lock that this one holds to another that it holds
  goes_away : (to : Home) → CanRehome shape r.world.core c e to → (d : ℕ) (lock : DomainId) → r.world.core.owner e ≡ owners.Hand d → d ≢ c → to ≡ homes.In lock → IsAway shape r.world.core.holder r.world.core.holder (r.world.core.home e) d lock
  goes_away to can d lock in_hand other at = go (r.world.core.home e) refl
    where
      same_owner : (a b : ℕ) → owners.Hand a ≡ owners.Hand b → a ≡ b
      same_owner a b is = cc

      same_hand : (a b : ℕ) → homes.Hand a ≡ homes.Hand b → a ≡ b
      same_hand a b is = cc

      no_lock : (l : DomainId) (x : ℕ) → homes.In l ≡ homes.Hand x → ⊥
      no_lock l x is = cc

      evicts : IsTrue (is_lru shape.kind)
      evicts = (bounds_of_shape shape r.is_shape).common_evicts can.common

      carrier : (x : ℕ) → r.world.core.home e ≡ homes.Hand x → (place : ElementPlace) → r.placed.place e ≡ place → x ≡ d
      carrier x is (under_lock k) at_place = absurd (no_lock (lock_named shape k) x (sym (r.placed.placed.homes e real ∙ (ap (home_of_place shape) at_place ∙ ap (λ (b : Bool). cond b (homes.In (lock_named shape k)) homes.Unlisted) evicts)) ∙ is))
      carrier x is (carried y) at_place =
          let its : y ≡ x = same_hand y x (sym (r.placed.placed.homes e real ∙ (ap (home_of_place shape) at_place ∙ ap (λ (b : Bool). cond b (homes.Hand y) homes.Unlisted) evicts)) ∙ is) in
          let may : MayLie shape e (r.world.core.owner e) (carried y) = subst (MayLie shape e (r.world.core.owner e)) at_place (r.placed.placed.places e real) in
          sym its ∙ same_owner y d (sym may.1 ∙ in_hand)

      go : (from : Home) → r.world.core.home e ≡ from → IsAway shape r.world.core.holder r.world.core.holder (r.world.core.home e) d lock
      go homes.Unlisted is = absurd (subst (MayLeave shape r.world.core c) is can.from_there)
      go (homes.In from) is =
          let holds : Holds shape r.world.core c from = subst (MayLeave shape r.world.core c) is can.from_there in record {
            from = from;
            was = is;
            left = λ held. other (some_is (sym held ∙ holds.held));
            now = λ held. other (some_is (sym held ∙ (entered to can.to_there lock at).held));
          }
      go (homes.Hand x) is =
          let by_it : x ≡ c = subst (MayLeave shape r.world.core c) is can.from_there in
          absurd (other (sym (carrier x is (r.placed.place e) refl) ∙ by_it))

  -- what came stays noted, whatever lies under the locks
  came_then : (to : Home) (m : ℕ) → came_at m (held_with shape to (r.world.core.owner e) e (held_without shape (r.world.core.home e) (r.world.core.owner e) e v.held)) (notes_then v.shape (r.world.core.home e) to e v) ≡ came_at m v.held (notes_then v.shape (r.world.core.home e) to e v)
  came_then to m =
      let notes = notes_then v.shape (r.world.core.home e) to e v in
      came_with shape to (r.world.core.owner e) e m (held_without shape (r.world.core.home e) (r.world.core.owner e) e v.held) notes ∙ came_without shape (r.world.core.home e) (r.world.core.owner e) e m v.held notes

  came_still : (to : Home) (m x : ℕ) → is_among x (came_at m v.held v.notes) ≡ true → is_among x (came_at m (held_with shape to (r.world.core.owner e) e (held_without shape (r.world.core.home e) (r.world.core.owner e) e v.held)) (notes_then v.shape (r.world.core.home e) to e v)) ≡ true
  came_still to m x inside =
      let from : Home = r.world.core.home e in
      ap (is_among x) (came_then to m) ∙ came_home v.shape from to e m x v.held (with_left_home v.shape from to e v.held v.notes) (ap (is_among x) (came_left_home v.shape from to e m v.held v.notes) ∙ inside)

  -- a home that has the code of the one where it goes is that one
  stayed : (to : Home) → CanRehome shape r.world.core c e to → (lock : DomainId) → to ≡ homes.In lock → home_code (r.world.core.home e) ≡ home_code (homes.In lock) → r.world.core.home e ≡ homes.In lock
  stayed to can lock at same = one_home (w.core.home e) (homes.In lock) from_code (its_code lock (subst (MayEnter shape w.core c (w.core.owner e)) at can.to_there)) same
    where
      w : World
      w = r.world

      bounds : HasBounds shape
      bounds = bounds_of_shape shape r.is_shape

      from_code : HasHomeCode (w.core.home e)
      from_code = subst HasHomeCode (sym (r.placed.placed.homes e real)) (has_home_code shape e (w.core.owner e) (r.placed.place e) bounds (r.placed.placed.owners e real) (r.placed.placed.places e real))

      its_code : (lock : DomainId) → MayEnter shape w.core c (w.core.owner e) (homes.In lock) → HasHomeCode (homes.In lock)
      its_code (Local x) may = lies_has_code shape e true (Local x) bounds (bounds.common_evicts can.common) may.0.is_lock
      its_code Global may = tt
      its_code (CpuLru x) may = absurd may
      its_code (Bucket b) may = absurd may
      its_code (Freelist x) may = absurd may

  -- it comes to the lock where it goes, in the turn of that lock
  comes_there : (to : Home) → CanRehome shape r.world.core c e to → (lock : DomainId) → to ≡ homes.In lock → home_code (r.world.core.home e) ≢ home_code (homes.In lock)
      → is_among e (came_at (lock_number shape lock) (held_with shape to (r.world.core.owner e) e (held_without shape (r.world.core.home e) (r.world.core.owner e) e v.held)) (notes_then v.shape (r.world.core.home e) to e v)) ≡ true
  comes_there to can lock at moves =
      let w = r.world in let kn = r.knows pass v at_pass in
      let k : ℕ = lock_number shape lock in
      let from : Home = w.core.home e in
      let left : List Notes = with_left_home v.shape from to e v.held v.notes in
      let holds = entered to can.to_there lock at in
      let mine = has_mine shape w pass v c kn has in
      let found : hold_at k v.held ≡ Some (hold k c (w.log k) (w.core.lists k) (w.lost k)) = kn.held k ∙ (ap (λ (z : Option ℕ). hold_of pass w.pass_of_cpu k z (w.log k) (w.core.lists k) (w.lost k)) holds.held ∙ hold_of_mine w.pass_of_cpu pass k c (w.log k) (w.core.lists k) (w.lost k) mine) in
      ap (is_among e) (came_then to k)
      ∙ ((λ i. is_among e (came_at k v.held (with_come_home (kn.shape_is i) from (at i) e v.held left)))
      ∙ (ap (λ (z : List Notes). is_among e (came_at k v.held z)) (come_from_other shape from lock e v.held left moves) ∙ came_here shape v.touched k e (hold k c (w.log k) (w.core.lists k) (w.lost k)) v.held left (noted_left_home shape v.shape v.touched from to e v.held v.notes kn.noted) found))

  -- It comes there in the turn of the lock where it goes, or is in the hand of another CPU. Where that was its home already, it
  -- doesn't come, and what was known of it is so still.
  hashed_home : (to : Home) → CanRehome shape r.world.core c e to → IsTrue (is_lru shape.kind) → (d : ℕ) (lock : DomainId) → d < shape.cpus → is_in_hand_of e d v.hand ≡ true → to ≡ homes.In lock
      → IsHashed shape r.world.core.holder r.world.log r.world.hash (kept_hashes v.hand v.hashes) (came_at (lock_number shape lock) (held_with shape to (r.world.core.owner e) e (held_without shape (r.world.core.home e) (r.world.core.owner e) e v.held)) (notes_then v.shape (r.world.core.home e) to e v)) (lock_number shape lock) e d
  hashed_home to can lru d lock within in_hand at =
      let w = r.world in let kn = r.knows pass v at_pass in
      let k : ℕ = lock_number shape lock in
      let from : Home = w.core.home e in
      let came : List ℕ = came_at k (held_with shape to (w.core.owner e) e (held_without shape from (w.core.owner e) e v.held)) (notes_then v.shape from to e v) in
      by_test (home_code from) (home_code (homes.In lock)) (λ _. IsHashed shape w.core.holder w.log w.hash (kept_hashes v.hand v.hashes) came k e d)
      (λ same.
      hashed_stands shape w.core.holder w.core.holder w.log w.log w.hash w.hash v.hashes (kept_hashes v.hand v.hashes) (came_at k v.held v.notes) came k e d
      (λ m held. (held, refl)) (λ held. held) refl (kept_there e d v.hand v.hashes in_hand)
      (came_still to k e)
      (kn.hashed lru e d lock real within in_hand (stayed to can lock at same)))
      (λ moves. by_test d c (λ _. IsHashed shape w.core.holder w.log w.hash (kept_hashes v.hand v.hashes) came k e d)
      (λ same.
      let come : HasCome w.core.holder came k e d = record { held = (entered to can.to_there lock at).held ∙ ap Some (sym same); inside = comes_there to can lock at moves } in
      record { from = inr (inr come); row = λ _. inr (inr come) })
      (λ other.
      let owner_is : w.core.owner e ≡ owners.Hand d = hand_is d (w.core.owner e) (both_true _ _ (sym (kn.hands e d within) ∙ in_hand)).0 in
      let away = goes_away to can d lock owner_is other at in
      let j : ℕ = lock_number shape away.from in
      hashed_away shape w.core.holder w.core.holder w.log w.log w.hash w.hash v.hashes (kept_hashes v.hand v.hashes) (came_at j v.held v.notes) came j k e d away.left away.now (kept_there e d v.hand v.hashes in_hand) (kn.hashed lru e d away.from real within in_hand away.was)))

  -- the pass has the home that the element leaves, and that to which it goes
  lock_here : (lock : DomainId) → Holds shape r.world.core c lock → is_held (lock_number shape lock) v.held ≡ true
  lock_here lock holds =
      let w = r.world in let kn = r.knows pass v at_pass in let k : ℕ = lock_number shape lock in
      ap is_some (kn.held k ∙ (ap (λ (z : Option ℕ). hold_of pass w.pass_of_cpu k z (w.log k) (w.core.lists k) (w.lost k)) holds.held ∙ hold_of_mine w.pass_of_cpu pass k c (w.log k) (w.core.lists k) (w.lost k) (has_mine shape w pass v c kn has)))

  leaves_here : (from : Home) → MayLeave shape r.world.core c from → IsHomeHere shape v.cpus v.held from
  leaves_here homes.Unlisted may = may
  leaves_here (homes.In lock) may = lock_here lock may
  leaves_here (homes.Hand d) may = ap (λ (n : ℕ). is_among n v.cpus) may ∙ has

  enters_here : (to : Home) → MayEnter shape r.world.core c (r.world.core.owner e) to → IsHomeHere shape v.cpus v.held to
  enters_here homes.Unlisted may = may
  enters_here (homes.In lock) may = lock_here lock (entered (homes.In lock) may lock refl)
  enters_here (homes.Hand d) may = ap (λ (n : ℕ). is_among n v.cpus) may.0 ∙ has

  -- the home is another from now on
  home_rule : (to : Home) (cs : List (ℕ × Behind)) → v.ticket ≡ Unread → (IsTrue (is_lru shape.kind) → IsUnchangedAround v e) → (can : CanRehome shape r.world.core c e to)
      → (after : Rule shape (stepped s (home_word shape e) (home_code to) pass cs (with_places (held_with shape to (r.world.core.owner e) e (held_without shape (r.world.core.home e) (r.world.core.owner e) e v.held)) v.hand (carried_with to e (carried_without (r.world.core.home e) e v.carried)) (without_readings e v.readings) (notes_then v.shape (r.world.core.home e) to e v) (touching (made r.world) (home_word shape e) None (home_code to) v) v) keeps))
      × (after.world.core ≡ steps.rehomed shape r.world.core e to)
  home_rule to cs unread around can =
      let i : ℕ = home_word shape e in let code : ℕ = home_code to in
      let w = r.world in let kn = r.knows pass v at_pass in
      let owner : Owner = w.core.owner e in let from : Home = w.core.home e in
      let bounds = bounds_of_shape shape r.is_shape in
      let mine = has_mine shape w pass v c kn has in
      let left = leaves_in_reach shape w pass c from mine can.from_there in
      let joined = enters_in_reach shape w pass c owner to mine can.to_there in
      let away : ℕ → Lists = after_leaving shape from owner e w.core.lists in
      let lists : ℕ → Lists = after_joining shape to owner e away in
      let on_the_way : ℕ → Home = put w.core.home e homes.Unlisted in
      place_rule shape s r pass v at_pass lists w.core.owner (put w.core.home e to) i code c has (held_with shape to owner e (held_without shape from owner e v.held)) v.hand (carried_with to e (carried_without from e v.carried)) (without_readings e v.readings) (notes_then v.shape from to e v) (kept_hashes v.hand v.hashes) cs (omega arith) (omega arith)
      (λ x below. get_or-set_other s.words i (owner_word shape x) code 0 (λ y. omega arith) ∙ r.owner_words x below)
      (λ x below. at_put w.core.home e to (λ j h. j < shape.elements → get_or (set s.words i code) (home_word shape j) 0 ≡ home_code h) x
      (λ _. get_or-set_same s.words i code 0 (omega (arith, r.words)))
      (λ ne below. get_or-set_other s.words i (home_word shape x) code 0 (λ y. ne (omega arith)) ∙ r.home_words x below) below)
      (let notes = notes_then v.shape from to e v in noted_with shape v.touched to owner e (held_without shape from owner e v.held) notes (noted_without shape v.touched from owner e v.held notes (noted_home_come shape v.shape v.touched from to e v.held (with_left_home v.shape from to e v.held v.notes) (noted_left_home shape v.shape v.touched from to e v.held v.notes kn.noted))))
      (lists_with shape to owner e (held_without shape from owner e v.held) ∙ lists_without shape from owner e v.held)
      (let notes = notes_then v.shape from to e v in marks_with shape to owner e (held_without shape from owner e v.held) notes ∙ (marks_without shape from owner e v.held notes ∙ (marks_come_home v.shape from to e v.held (with_left_home v.shape from to e v.held v.notes) ∙ marks_left_home v.shape from to e v.held v.notes)))
      (λ lru none. owners_rehomed shape (get_or s.words (ticket_word shape) 0) w.core.owner w.core.home w.hash (logs_of w) s.views pass v _ e to at_pass (apart_there shape w s.views pass v r.knows at_pass)
      (leaves_here from can.from_there) (enters_here to can.to_there) unread (around lru) record {
        cpus = refl;
        held = lists_with shape to owner e (held_without shape from owner e v.held) ∙ lists_without shape from owner e v.held;
        changed = (kept_come_home v.shape from to e v.held (with_left_home v.shape from to e v.held v.notes)).0 ∙ (kept_left_home v.shape from to e v.held v.notes).0;
        read = (kept_come_home v.shape from to e v.held (with_left_home v.shape from to e v.held v.notes)).1 ∙ (kept_left_home v.shape from to e v.held v.notes).1;
        ticket = inl refl;
      } (r.owners lru none))
      record {
        under = λ k. ⊎_elim
            (λ (stays : lists k ≡ away k). ⊎_elim
            (λ (stayed : away k ≡ w.core.lists k). inl (stays ∙ stayed))
            (λ (by_pass : IsHeldByPass w pass k). inr by_pass)
            (under_left shape w pass owner e w.core.lists from left k))
            (λ (by_pass : IsHeldByPass w pass k). inr by_pass)
            (under_joined shape w pass owner e away to joined k);
        owners = λ _. inl refl;
        homes = λ x. at_put w.core.home e to (λ j h. (h ≡ w.core.home j) ⊎ (IsHomeOfPass w.pass_of_cpu pass (w.core.home j) × IsHomeOfPass w.pass_of_cpu pass h)) x
            (inr (reach_of_pass shape w pass from left, reach_of_pass shape w pass to joined)) (λ _. inl refl);
        are_held = held_joined shape w pass owner e away to (held_without shape from owner e v.held) joined (held_left shape w pass owner e w.core.lists from v.held left kn.held);
        ascends = ascends_joined shape to owner e (held_without shape from owner e v.held) (ascends_left shape from owner e v.held kn.ascends);
        in_hands = kn.hands;
        are_carried = carried_joined shape.cpus pass e w.pass_of_cpu on_the_way (put w.core.home e to) (carried_without from e v.carried) (λ x other. put_else w.core.home e to x other ∙ sym (put_else w.core.home e homes.Unlisted x other))
            (carried_left shape.cpus pass e w.pass_of_cpu w.core.home on_the_way v.carried (λ x other. put_else w.core.home e homes.Unlisted x other) kn.carried from refl (put_here w.core.home e homes.Unlisted))
            to (reach_of_pass shape w pass to joined) (put_here w.core.home e homes.Unlisted) (put_here w.core.home e to);
        placed = step_keeps_places shape w.core (Rehome c e to) bounds can r.placed;
        ranked = step_keeps_ranks shape w.core (Rehome c e to) can r.ranked;
        hashes = λ lru. hashes_rehomed shape w.core r.placed w.log w.hash (r.hashes lru) lru c e to can (step_keeps_places shape w.core (Rehome c e to) bounds can r.placed);
        are_hashes = (
          hashes_kept shape w pass v kn v.hand,
          (λ lru x d its x_real within in_hand at. by_test x e (λ _. IsHashed shape w.core.holder w.log w.hash (kept_hashes v.hand v.hashes) (came_at (lock_number shape its) (held_with shape to owner e (held_without shape from owner e v.held)) (notes_then v.shape from to e v)) (lock_number shape its) x d)
              (λ same. subst (λ (y : ℕ). IsHashed shape w.core.holder w.log w.hash (kept_hashes v.hand v.hashes) (came_at (lock_number shape its) (held_with shape to owner e (held_without shape from owner e v.held)) (notes_then v.shape from to e v)) (lock_number shape its) y d) (sym same)
              (hashed_home to can lru d its within (ap (λ (y : ℕ). is_in_hand_of y d v.hand) (sym same) ∙ in_hand) (sym (put_here w.core.home e to) ∙ (ap (put w.core.home e to) (sym same) ∙ at))))
              (λ other. let m : ℕ = lock_number shape its in
              hashed_stands shape w.core.holder w.core.holder w.log w.log w.hash w.hash v.hashes (kept_hashes v.hand v.hashes) (came_at m v.held v.notes) (came_at m (held_with shape to owner e (held_without shape from owner e v.held)) (notes_then v.shape from to e v)) m x d
              (λ i on. (on, refl)) (λ on. on) refl (kept_there x d v.hand v.hashes in_hand)
              (came_still to m x)
              (kn.hashed lru x d its x_real within in_hand (sym (put_else w.core.home e to x other) ∙ at)))),
        );
        are_rowed = λ lru. rowed_moved shape w pass v kn lru lists (held_with shape to owner e (held_without shape from owner e v.held)) (notes_then v.shape from to e v)
            (held_joined shape w pass owner e away to (held_without shape from owner e v.held) joined (held_left shape w pass owner e w.core.lists from v.held left kn.held)) (came_still to)
            (λ m x _ no_bucket inside. ⊎_elim
            (λ (was : IsIn x (rows (w.core.lists m))). inl was)
            (λ (its : (x ≡ e) × (to ≡ homes.In (lock_named shape m)) × (is_free owner ≡ false)).
            let number : lock_number shape (lock_named shape m) ≡ m = number_of_named shape m in
            by_test (home_code from) (home_code (homes.In (lock_named shape m))) (λ _. IsIn x (rows (w.core.lists m)) ⊎ (is_among x (came_at m (held_with shape to owner e (held_without shape from owner e v.held)) (notes_then v.shape from to e v)) ≡ true))
            (λ same. inl (subst (λ (z : ℕ × ℕ). IsIn z.0 (rows (w.core.lists z.1))) (λ i. (sym its.0 i, number i)) (listed_at_home shape w.core.holder w.core.lists w.core.owner w.core.home r.placed.place r.placed.placed w.log e (lock_named shape m) real its.2 (stayed to can (lock_named shape m) its.1 same))))
            (λ moves. inr ((λ i. is_among (its.0 i) (came_at (sym number i) (held_with shape to owner e (held_without shape from owner e v.held)) (notes_then v.shape from to e v))) ∙ comes_there to can (lock_named shape m) its.1 moves)))
            (rows_come shape w.core r.placed w.log w.hash (r.hashes lru) lru c e to can (step_keeps_places shape w.core (Rehome c e to) bounds can r.placed) m x no_bucket inside));
        at_home = λ x d its x_real in_hand theirs at. by_test x e (λ _. (w.core.home x ≡ homes.In its) ⊎ IsAway shape w.core.holder w.core.holder (w.core.home x) d its)
            (λ same. inr (subst (λ (y : ℕ). IsAway shape w.core.holder w.core.holder (w.core.home y) d its) (sym same)
            (goes_away to can d its (ap w.core.owner (sym same) ∙ in_hand) (λ is. theirs (ap w.pass_of_cpu is ∙ mine)) (sym (put_here w.core.home e to) ∙ (ap (put w.core.home e to) (sym same) ∙ at)))))
            (λ other. inl (sym (put_else w.core.home e to x other) ∙ at));
        are_read = λ x d read within found.
            let k = without_home x d read e v.readings found in let was = kn.readings x d read within k.1 in
            record { real = was.real; in_hand = was.in_hand; counted = was.counted; still = subst (λ (z : Home). StillHome shape w.core.holder w.log read.turns x z read.home) (sym (put_else w.core.home e to x k.0)) was.still };
        still = λ x d n read in_hand theirs still. by_test x e (λ _. StillHome shape w.core.holder w.log n x (put w.core.home e to x) read)
            (λ same. subst (λ (z : ℕ). StillHome shape w.core.holder w.log n z (put w.core.home e to z) read) (sym same) (subst (λ (z : Home). StillHome shape w.core.holder w.log n e z read) (sym (put_here w.core.home e to))
            (still_flushed shape w.core r.placed w.log w.hash r.hashes (bounds.common_evicts can.common) c e to can n d read (ap w.core.owner (sym same) ∙ in_hand) (λ is. theirs (ap w.pass_of_cpu is ∙ mine)) (subst (λ (z : ℕ). StillHome shape w.core.holder w.log n z (w.core.home z) read) same still))))
            (λ other. subst (λ (z : Home). StillHome shape w.core.holder w.log n x z read) (sym (put_else w.core.home e to x other)) still);
      }

pub rehomes_step : (shape : Shape) (slots pass : ℕ) (me : Seated) (c e : ℕ) (from to : Home) → IsTrue shape.common → e < shape.elements → is_among c me.0.cpus ≡ true → IsKnownHome shape me.0 c e from → MayGoHome shape me.0 c e to → me.0.ticket ≡ Unread → (IsTrue (is_lru shape.kind) → IsUnchangedAround me.0 e)
    → StepsAs shape slots pass me (home_word shape e) (λ _. home_code to) (goes_by shape (Rehome c e to)) (λ _. Rehomes e to me)
rehomes_step shape slots pass me c e from to common real has known may unread around s r wide at_pass _ =
    let v = me.0 in let w = r.world in let kn = r.knows pass v at_pass in
    let bounds = bounds_of_shape shape r.is_shape in
    let owner : Owner = w.core.owner e in
    let evicts : IsTrue (is_lru shape.kind) = bounds.common_evicts common in
    let is : w.core.home e ≡ from = home_known shape s r pass v at_pass c e has real from evicts known in
    let can : CanRehome shape w.core c e to = record {
      common = common;
      is_cpu = kn.within c has;
      real = real;
      from_there = subst (MayLeave shape w.core c) (sym is) (leaves_known shape s r pass v at_pass c e has real from known);
      to_there = enters_known shape s r pass v at_pass c e has real to may;
    } in
    let rule = home_rule shape s r pass v at_pass c e has real to me.1 unread around can in (
      with_places (held_with shape to owner e (held_without shape (w.core.home e) owner e v.held)) v.hand (carried_with to e (carried_without (w.core.home e) e v.carried)) (without_readings e v.readings) (notes_then v.shape (w.core.home e) to e v) (touching (made w) (home_word shape e) None (home_code to) v) v,
      keeps,
      tt,
      (rule.0, record { enabled = can; changed = rule.1 }),
      record {
        from = w.core.home e;
        known = λ cpu home mine at_home. sym (home_known shape s r pass v at_pass cpu e mine real home evicts (subst (λ (z : Shape). IsKnownHome z v cpu e home) kn.shape_is at_home));
        owner = owner;
        fits = subst (λ z. OwnerFits z v e owner) (sym kn.shape_is) (owner_fits shape s r pass v e at_pass real);
        at = made w;
        after_is = λ i. (with_places (held_with (sym kn.shape_is i) to owner e (held_without (sym kn.shape_is i) (w.core.home e) owner e v.held)) v.hand (carried_with to e (carried_without (w.core.home e) e v.carried)) (without_readings e v.readings) (notes_then v.shape (w.core.home e) to e v) (touching (made w) (home_word (sym kn.shape_is i) e) None (home_code to) v) v, me.1);
      },
    )

-- at the word and the code that a caller has
pub rehomes : (shape : Shape) (slots pass : ℕ) (me : Seated) (c e i code : ℕ) (from to : Home) → i ≡ home_word shape e → code ≡ home_code to → IsTrue shape.common → e < shape.elements → is_among c me.0.cpus ≡ true → IsKnownHome shape me.0 c e from → MayGoHome shape me.0 c e to → me.0.ticket ≡ Unread → (IsTrue (is_lru shape.kind) → IsUnchangedAround me.0 e)
    → Allows (Rule shape) slots pass me i (λ _. code) (λ _. Rehomes e to me)
rehomes shape slots pass me c e i code from to i_is code_is common real has known may unread around =
    subst (λ (z : ℕ × ℕ). Allows (Rule shape) slots pass me z.0 (λ _. z.1) (λ _. Rehomes e to me)) (λ n. (sym i_is n, sym code_is n))
    (allows_of shape slots pass me (home_word shape e) (λ _. home_code to) (goes_by shape (Rehome c e to)) (λ _. Rehomes e to me) (rehomes_step shape slots pass me c e from to common real has known may unread around))

-- the slots that the pass has
pub carries_rehomed : (shape : Shape) (from to : Home) (owner : Owner) (e : ℕ) (held : List Hold) (slots : List (ℕ × Behind)) → Carries shape held slots → Carries shape (held_with shape to owner e (held_without shape from owner e held)) slots
carries_rehomed shape from to owner e held slots carries = joined to (held_without shape from owner e held) (left from)
  where
    left : (from : Home) → Carries shape (held_without shape from owner e held) slots
    left homes.Unlisted = carries
    left (homes.In lock) = carries_now shape _ _ held slots carries
    left (homes.Hand c) = carries

    joined : (to : Home) (holds : List Hold) → Carries shape holds slots → Carries shape (held_with shape to owner e holds) slots
    joined homes.Unlisted holds carries = carries
    joined (homes.In lock) holds carries = carries_now shape _ _ holds slots carries
    joined (homes.Hand c) holds carries = carries

-- what a caller with a pass knows then
pub rehomed_of : (t : TableView) (e : ℕ) (to : Home) (before after : PassView) (old new : Seated) → IsPassOf t before → HasBegun before → old.0 ≡ before.view → Rehomes e to old new → after ≡ with_view before new.0 → Rehomed t e to before after
rehomed_of t e to before after old new of_table begun old_is moved after_is = record {
  from = moved.from;
  known = λ home. subst (λ (z : Shape × View). IsKnownHome z.0 z.1 before.cpu e home → home ≡ moved.from) (λ i. ((ap (λ (v : View). v.shape) old_is ∙ of_table.1) i, old_is i))
      (moved.known before.cpu home (ap (λ (v : View). is_among before.cpu v.cpus) old_is ∙ begun));
  owner = moved.owner;
  fits = subst (λ (z : Shape × View). OwnerFits z.0 z.1 e moved.owner) (λ i. ((ap (λ (v : View). v.shape) old_is ∙ of_table.1) i, old_is i)) moved.fits;
  at = moved.at;
  after_is = after_is ∙ (ap (λ (z : Seated). with_view before z.0) moved.after_is ∙ ap (λ (v : View). with_view before (views.rehomed moved.at moved.from to moved.owner e v)) old_is);
}

-- Clears, of what is in hand or stands at a home that is held

may_clear : (shape : Shape) (pass : ℕ) (v : View) (c e : ℕ) → is_among c v.cpus ≡ true → e < shape.elements → MayClear shape v c e
    → (s : State Behind View) (r : Rule shape s) → get_elem? s.views pass ≡ some v → IsHeldHome shape r.world.core c (r.world.core.home e) ⊎ (r.world.core.owner e ≡ owners.Hand c)
may_clear shape pass v c e has real may s r at_pass =
    ⊎_elim
    (λ (in_hand : is_in_hand_of e c v.hand ≡ true). inr (owner_known shape s r pass v at_pass c e has real in_hand))
    (λ (at_home : IsTrue (is_lru shape.kind) × ((lock : DomainId) × IsKnownHome shape v c e (homes.In lock))).
    inl (subst (IsHeldHome shape r.world.core c) (sym (home_known shape s r pass v at_pass c e has real (homes.In at_home.1.0) at_home.0 at_home.1.1)) (holds_known shape s r pass v at_pass c e has real at_home.1.0 at_home.1.1.0)))
    may

pub clears_step : (shape : Shape) (slots pass : ℕ) (me : Seated) (e c : ℕ) → e < shape.elements → is_among c me.0.cpus ≡ true → MayClear shape me.0 c e
    → StepsAs shape slots pass me (bit_word shape e) (λ _. 0) (goes_by shape (Clear c e)) (Clears e me)
clears_step shape slots pass me e c real cpu may = clears_by shape slots pass me e c real cpu (may_clear shape pass me.0 c e cpu real may)

pub clears : (shape : Shape) (slots pass : ℕ) (me : Seated) (e c i : ℕ) → i ≡ bit_word shape e → e < shape.elements → is_among c me.0.cpus ≡ true → MayClear shape me.0 c e
    → Allows (Rule shape) slots pass me i (λ _. 0) (Clears e me)
clears shape slots pass me e c i is real cpu may =
    subst (λ (z : ℕ). Allows (Rule shape) slots pass me z (λ _. 0) (Clears e me)) (sym is)
    (allows_of shape slots pass me (bit_word shape e) (λ _. 0) (goes_by shape (Clear c e)) (Clears e me) (clears_step shape slots pass me e c real cpu may))

-- Looks at a home

-- what a pass knows doesn't rule out the home that an element has
module _ (shape : Shape) (s : State Behind View) (r : Rule shape s) (pass : ℕ) (v : View) (at_pass : get_elem? s.views pass ≡ some v) (e : ℕ) (real : e < shape.elements) where
  whole : EachInOnePlace shape r.world.core
  whole = each_in_one_place shape r.world.core r.placed

  -- a lock of the map, or a hand on a map whose CPUs share lists
  may_be_home : is_lru shape.kind ≡ true → (home : Home) → r.world.core.home e ≡ home → MayBeHome shape home
  may_be_home lru homes.Unlisted is = absurd (whole.told lru e real is)
  may_be_home lru (homes.In lock) is = whole.home_there e lock real is
  may_be_home lru (homes.Hand c) is = (
    by_bool shape.common (λ b. b ≡ true) (λ _. refl) (λ own. absurd (no_lock (sym is ∙ whole.own lru own e real))),
    subst (MayOwn shape) (whole.carried e c real is).0 (whole.owned e real),
  )
    where
      no_lock : {lock : DomainId} → homes.Hand c ≡ homes.In lock → ⊥
      no_lock {lock} is = cc

  -- what is in the hand of a CPU of the pass has no other hand for its home, and that CPU carries it then
  in_no_hand : (cpu holder : ℕ) → is_among cpu v.cpus ≡ true → is_in_hand_of e cpu v.hand ≡ true → is_in_hand_of e cpu v.carried ≡ false → r.world.core.home e ≢ homes.Hand holder
  in_no_hand cpu holder has in_hand not_carried is =
      let w = r.world in let kn = r.knows pass v at_pass in
      let same : holder ≡ cpu = same_owner holder cpu (sym (whole.carried e holder real is).0 ∙ in_hand_is shape w pass v e cpu kn has in_hand) in
      true_false (sym (kn.carried e cpu (kn.within cpu has) ∙ both_hold (is_home_of cpu (w.core.home e)) (eqb (w.pass_of_cpu cpu) pass) (ap (is_home_of cpu) is ∙ eq-eqb holder cpu same) (eq-eqb (w.pass_of_cpu cpu) pass (has_mine shape w pass v cpu kn has))) ∙ not_carried)
    where
      same_owner : (a b : ℕ) → owners.Hand a ≡ owners.Hand b → a ≡ b
      same_owner a b is = cc

      both_hold : (a b : Bool) → a ≡ true → b ≡ true → (a && b) ≡ true
      both_hold a b one other = λ i. one i && other i

  -- a pass that knows the turns of a lock has all CPUs: where none of them holds it, nobody does
  nobody_holds : (k : ℕ) (log : List Entry) → hold_at k v.held ≡ None → known_log k v.known ≡ Some log → r.world.core.holder k ≡ None
  nobody_holds k log none known = ⊎_elim
      (λ (nothing : (v.known ≡ []) × (v.bits ≡ [])). absurd (none_some (sym (ap (known_log k) nothing.0) ∙ known)))
      (λ (all : (c : ℕ) → c < shape.cpus → is_among c v.cpus ≡ true). go all (w.core.holder k) refl)
      kn.only
    where
      w : World
      w = r.world

      kn : PassKnows shape w pass v
      kn = r.knows pass v at_pass

      go : ((c : ℕ) → c < shape.cpus → is_among c v.cpus ≡ true) → (holder : Option ℕ) → w.core.holder k ≡ holder → w.core.holder k ≡ None
      go all None is = is
      go all (Some c) is =
          let mine = has_mine shape w pass v c kn (all c (r.ranked.within c k is)) in
          absurd (none_some (sym none ∙ (kn.held k ∙ (ap (λ (z : Option ℕ). hold_of pass w.pass_of_cpu k z (w.log k) (w.core.lists k) (w.lost k)) is ∙ hold_of_mine w.pass_of_cpu pass k c (w.log k) (w.core.lists k) (w.lost k) mine))))

  -- and then it lies there, on the lists to which the turns of the lock lead
  lies_at_home : is_lru shape.kind ≡ true → (lock : DomainId) (log : List Entry) → r.world.core.home e ≡ homes.In lock → hold_at (lock_number shape lock) v.held ≡ None → known_log (lock_number shape lock) v.known ≡ Some log → IsIn e (all_of (lists_of (content shape lock log)))
  lies_at_home lru lock log is none known =
      let w = r.world in let kn = r.knows pass v at_pass in
      let k : ℕ = lock_number shape lock in
      let there = whole.home_there e lock real is in
      let named : lock_named shape k ≡ lock = named_by_number shape lock there.0 in
      let at = subst (λ (z : Option ℕ). AtHome shape k z (entries (w.log k)) (w.core.lists k) (w.lost k) (get_elem? s.homes k)) (nobody_holds k log none known) (r.homes k (number_within shape lock there.0) (ap (is_lock shape) named ∙ there.0)) in
      let lists_are : w.core.lists k ≡ lists_of (content shape lock log) = at.1 ∙ (λ i. lists_of (content shape (named i) (kn.known k log known i))) in
      let once : times e (all_of (w.core.lists k)) ≡ 1 = (whole.home lru e lock real there.0 there.1).0 is in
      subst (λ (l : Lists). IsIn e (all_of l)) lists_are (omega arith)

  home_fits : HomeFits shape v e (r.world.core.home e)
  home_fits = let w = r.world in record {
    plain = λ plain. whole.plain plain e real;
    lives = λ lru own. whole.own lru own e real;
    known = λ lru cpu known mine at_home. home_known shape s r pass v at_pass cpu e mine real known lru at_home;
    is_there = λ lru. may_be_home lru (w.core.home e) refl;
    of_hand = λ cpu holder has in_hand not_carried. in_no_hand cpu holder has in_hand not_carried;
    under_home = λ lru lock log is none known. lies_at_home lru lock log is none known;
  }

pub sees_home_step : (shape : Shape) (slots pass : ℕ) (me : Seated) (e : ℕ) → e < shape.elements → StepsAs shape slots pass me (home_word shape e) (λ n. n) (goes_by shape (Glance 0 e)) (SeesHome e me)
unfolding look_rule
sees_home_step shape slots pass me e real s r wide at_pass _ =
    let kn = r.knows pass me.0 at_pass in
    let w = r.world in
    let home : Home = w.core.home e in
    let turns : ℕ = turns_told shape w.touches home in
    let home_is : home ≡ home_of_place shape (r.placed.place e) = r.placed.placed.homes e real in
    let x : WordStep = record { at = made w; word = home_word shape e; seen = Some (home_code home); left = home_code home } in
    let homes_now : List HomeRead = me.0.homes_read ++ record { element = e; home = home; at = made w; turns = turns } ∷ [] in (
      with_homes_read homes_now (noted (with_home_read e home me.0.held me.0.notes) me.0.bits (touching (made w) (home_word shape e) (Some (home_code home)) (home_code home) me.0) (with_reading (made w) turns e home me.0.hand me.0.readings) me.0),
      keeps,
      tt,
      look_rule shape s r pass me.0 at_pass (with_home_read e home me.0.held me.0.notes) (λ k. came_home_read e home k me.0.held me.0.notes) (on_same _ _ (marks_home_read e home me.0.held me.0.notes)) (keeps_known shape w.core.owner w.core.home w.hash me.0 _ (kept_home_read e home me.0.held me.0.notes)) (home_word shape e) (home_code home) me.1 me.0.bits homes_now
          (homes_with shape w.touches me.0.homes_read (record { element = e; home = home; at = made w; turns = turns }) kn.homes_read (counted_now shape w.touches home))
          (with_reading (made w) turns e home me.0.hand me.0.readings)
          (λ x d read within found. ⊎_elim
          (λ (new : IsNew (made w) turns x d e home read me.0.hand). record {
            real = subst (λ (z : ℕ). z < shape.elements) (sym new.same) real;
            in_hand = subst (λ (z : ℕ). is_in_hand_of z d me.0.hand ≡ true) (sym new.same) new.in_hand;
            counted = subst (λ (z : (ℕ × ℕ) × Home). IsCounted shape w.touches z.0.0 z.0.1 z.1) (λ i. ((new.at_is i, new.turns_are i), new.home_is i)) (counted_now shape w.touches home);
            still = still_is shape w.core.holder w.log read.turns x (w.core.home x) read.home (ap w.core.home new.same ∙ new.home_is);
          })
          (λ (old : views.home_known x d me.0.readings ≡ Some read). kn.readings x d read within old)
          (read_home_known (made w) turns x d e home read me.0.hand me.0.readings found))
          (omega (arith, r.words)) (r.home_words e real)
          (omega arith)
          (noted_home shape me.0.touched (x ∷ []) me.0.held me.0.notes e home kn.noted (word_off shape me.0.touched x me.0.held me.0.notes kn.noted (omega arith)) (inl refl)) kn.bits kn.only e real,
      record {
        home = home;
        found_is = r.home_words e real;
        has_code = subst HasHomeCode (sym home_is) (has_home_code shape e (w.core.owner e) (r.placed.place e) (bounds_of_shape shape r.is_shape) (r.placed.placed.owners e real) (r.placed.placed.places e real));
        fits = subst (λ z. HomeFits z me.0 e home) (sym kn.shape_is) (home_fits shape s r pass me.0 at_pass e real);
        at = made w;
        turns = turns;
        after_is = λ i. (with_homes_read homes_now (noted (with_home_read e home me.0.held me.0.notes) me.0.bits (touching (made w) (home_word (sym kn.shape_is i) e) (Some (home_code home)) (home_code home) me.0) (with_reading (made w) turns e home me.0.hand me.0.readings) me.0), me.1);
      },
    )

pub sees_home : (shape : Shape) (slots pass : ℕ) (me : Seated) (e i : ℕ) → i ≡ home_word shape e → e < shape.elements → Allows (Rule shape) slots pass me i (λ n. n) (SeesHome e me)
sees_home shape slots pass me e i is real =
    subst (λ (z : ℕ). Allows (Rule shape) slots pass me z (λ n. n) (SeesHome e me)) (sym is)
    (allows_of shape slots pass me (home_word shape e) (λ n. n) (goes_by shape (Glance 0 e)) (SeesHome e me) (sees_home_step shape slots pass me e real))
