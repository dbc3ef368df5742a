-- Where what a probe removed goes, and what the probe leaves with that.
use Rattle.std.proofs.Common.{◌≡◌, ◌≢◌, ℕ, ◌<◌, ◌≤◌, ◌+◌, inr, ⊎_elim, cond, true, false, Bool, List, [], ◌∷◌, ◌++◌, sym, refl, ap, ◌∙◌, subst, None, Some, append_assoc, suc, arith}
use Rattle.std.specs.Prelude.{◌&&◌, ◌==◌, IsTrue}
use Rattle.std.proofs.Math.Nat.{eq-zero-or-pos}
use Rattle.std.proofs.lemmas.Bool.{and_parts, ltb-true}
use Rattle.map_types.specs.declared.attr.Shape.{Shape}
use Rattle.map_types.specs.declared.kind.DomainId.{DomainId}
use Rattle.map_types.specs.declared.kind.DomainId.TheVariants.{CpuLru, Global, Local}
use Rattle.map_types.specs.ElementLists.{times, without, IsIn}
use Rattle.map_types.specs.Stored.{Stored}
use Rattle.map_types.proofs.CreationLemmas.{bounds_of_shape}
use Rattle.map_types.proofs.RowLemmas.{times_append, by_test}
use Rattle.place_words.specs.declared.bucket_part.Seen.TheVariants.{Removed}
use Rattle.place_words.specs.declared.home.Home.{Home}
use Rattle.place_words.specs.declared.home.Home.TheVariants as homes
use Rattle.place_words.specs.declared.owner.Owner.TheVariants as owners
use Rattle.place_words.specs.Codes.{home_code}
use Rattle.place_words.specs.Locks.{is_lock, lock_number}
use Rattle.place_words.specs.declared.step.Lists.{Lists}
use Rattle.place_words.specs.State.{rows}
use Rattle.place_words.specs.Steps.{with_free, with_row, without_row}
use Rattle.place_words.specs.Wholeness.{all_of}
use Rattle.place_words.proofs.ElementLemmas.{times_cons_same}
use Rattle.place_table.specs.declared.view.Hold.{Hold}
use Rattle.place_table.specs.declared.view.HomeIn.{HomeIn}
use Rattle.place_table.specs.declared.view.InHand.{InHand}
use Rattle.place_table.specs.declared.view.Notes.{Notes}
use Rattle.place_table.specs.declared.view.WordStep.{WordStep}
use Rattle.place_table.specs.Known.{Learns}
use Rattle.place_table.specs.Passes.{PassView, TableView, CanRehome, CanSettle, Goes, Rehomed, Settled, with_view}
use Rattle.place_table.specs.Owners.{IsUnchangedAround, change_in}
use Rattle.place_table.specs.Plays.{HoldsLock, IsKnownHome}
use Rattle.place_table.specs.Views.{holds_below, notes_below, with_changed, is_in_hand_of, hold_at, now_at, with_now, with_came, with_in_hand, without_in_hand, with_places, settled as settled_view, rehomed as rehomed_view, hold_with}
use Rattle.place_table.specs.Words.{home_word, owner_word}
use Rattle.place_table.proofs.Came.{come_from_other}
use Rattle.place_table.proofs.Entries.{append_nil}
use Rattle.place_table.proofs.Going.{goes_on, goes_of_table, goes_begun, same_head, learns_before, learns_nothing, learns_on}
use Rattle.place_table.proofs.Hands.{in_hand_more}
use Rattle.place_table.proofs.Worlds.{hand_is, hold_at_first, hold_at_other, true_false}
use Rattle.lru_lists.specs.declared.bits.Probed.{Probed}
use Rattle.lru_lists.specs.declared.bits.Probed.TheVariants as answers
use Rattle.lru_ops.specs.declared.probing.Destination.{Destination}
use Rattle.lru_ops.specs.declared.probing.Destination.TheVariants.{OwnFree, LocalFree, OwnHand}
use Rattle.lru_ops.specs.Evictions.{HoldsFor, CanChase, CanPut, PutThere, EvictedWith, Evicted, Chased, ChasedFor, came_local, came_outside, removed_to, noted_to, taken_to, hand_left}
use Rattle.lru_ops.proofs.EvictTurns.{no_bucket, names_apart}
use Rattle.lru_ops.proofs.Holders.{saw_on_none, saw_none}
use Rattle.lru_ops.proofs.OwnersAround.{free_of_none, unchanged_around}

-- Hands

without_cons : (b : Bool) (x : InHand) (xs ys : List InHand) (rest : Bool) → (rest ≡ false → ys ≡ xs) → cond b true rest ≡ false → cond b ys (x ∷ ys) ≡ x ∷ xs
without_cons true x xs ys rest same none = true_false none
without_cons false x xs ys rest same none = ap (λ (l : List InHand). x ∷ l) (same none)

pub without_absent : (e cpu : ℕ) (hand : List InHand) → is_in_hand_of e cpu hand ≡ false → without_in_hand e cpu hand ≡ hand
without_absent e cpu [] none = refl
without_absent e cpu (x ∷ xs) none = without_cons ((x.element == e) && (x.cpu == cpu)) x xs (without_in_hand e cpu xs) (is_in_hand_of e cpu xs) (without_absent e cpu xs) none

-- what comes to a hand and leaves it leaves the hand as it was
pub comes_and_goes : (e cpu : ℕ) (hand : List InHand) → is_in_hand_of e cpu hand ≡ false → without_in_hand e cpu (with_in_hand e cpu hand) ≡ hand
comes_and_goes e cpu hand none =
    by_test e e (λ b. cond (b && (cpu == cpu)) (without_in_hand e cpu hand) (record { element = e; cpu = cpu } ∷ without_in_hand e cpu hand) ≡ hand)
    (λ _. by_test cpu cpu (λ b. cond b (without_in_hand e cpu hand) (record { element = e; cpu = cpu } ∷ without_in_hand e cpu hand) ≡ hand) (λ _. without_absent e cpu hand none) (λ other. absurd (other refl)))
    (λ other. absurd (other refl))

-- Lists

pub now_first : {outer : List Hold} (k : ℕ) (now : Lists) (hold : Hold) → k ≡ hold.lock → with_now k now (hold ∷ outer) ≡ hold_with hold now ∷ outer
now_first {outer} k now hold is = by_test hold.lock k (λ b. cond b (hold_with hold now ∷ outer) (hold ∷ with_now k now outer) ≡ hold_with hold now ∷ outer) (λ _. refl) (λ other. absurd (other (sym is)))

-- what is changed under the lock taken last, and under the one before it
pub changed_first : (f : Lists → Lists) (k : ℕ) (hold : Hold) (outer : List Hold) → k ≡ hold.lock → with_now k (f (now_at k (hold ∷ outer))) (hold ∷ outer) ≡ hold_with hold (f hold.now) ∷ outer
changed_first f k hold outer is =
    by_test hold.lock k (λ b. with_now k (f (cond b hold.now (now_at k outer))) (hold ∷ outer) ≡ hold_with hold (f hold.now) ∷ outer) (λ _. now_first k (f hold.now) hold is) (λ other. absurd (other (sym is)))

pub changed_second : (f : Lists → Lists) (k : ℕ) (hold local : Hold) (outer : List Hold) → k ≢ hold.lock → k ≡ local.lock → with_now k (f (now_at k (hold ∷ local ∷ outer))) (hold ∷ local ∷ outer) ≡ hold ∷ hold_with local (f local.now) ∷ outer
changed_second f k hold local outer other is =
    by_test hold.lock k (λ b. cond b (hold_with hold (f (cond b hold.now (now_at k (local ∷ outer)))) ∷ local ∷ outer) (hold ∷ with_now k (f (cond b hold.now (now_at k (local ∷ outer)))) (local ∷ outer)) ≡ hold ∷ hold_with local (f local.now) ∷ outer)
    (λ same. absurd (other (sym same)))
    (λ _. ap (λ (l : List Hold). hold ∷ l) (changed_first f k local outer is))

-- one that isn't listed there comes to local lists and is freed at once
pub without_gone : (e : ℕ) (xs : List ℕ) → times e xs ≡ 0 → without e xs ≡ xs
without_gone e [] none = refl
without_gone e (x ∷ xs) none =
    by_test x e (λ b. cond b (suc (times e xs)) (times e xs) ≡ 0 → cond b xs (x ∷ without e xs) ≡ x ∷ xs)
    (λ _ some. absurd (omega (arith, some)))
    (λ _ rest. ap (λ (l : List ℕ). x ∷ l) (without_gone e xs rest)) none

pub row_passes : (cpu e : ℕ) (now : Lists) → times e now.first ≡ 0 → without_row e (with_row (Local cpu) e now) ≡ without_row e now
row_passes cpu e now none =
    ap (λ (l : List ℕ). record (without_row e now) { first = l })
    (by_test e e (λ b. cond b now.first (e ∷ without e now.first) ≡ now.first) (λ _. refl) (λ other. absurd (other refl)) ∙ sym (without_gone e now.first none))

-- what comes to the lists of the lock before the one taken last
pub came_second : (k e : ℕ) (hold local : Hold) (outer : List Hold) (notes : List Notes) → k ≢ hold.lock → k ≡ local.lock → with_came k e (hold ∷ local ∷ outer) notes ≡ came_local e notes
came_second k e hold local outer [] other is = refl
came_second k e hold local outer (n ∷ []) other is =
    by_test hold.lock k (λ b. cond b (record n { came = e ∷ n.came } ∷ []) (n ∷ []) ≡ n ∷ []) (λ same. absurd (other (sym same))) (λ _. refl)
came_second k e hold local outer (n ∷ m ∷ below) other is =
    by_test hold.lock k (λ b. cond b (record n { came = e ∷ n.came } ∷ m ∷ below) (n ∷ with_came k e (local ∷ outer) (m ∷ below)) ≡ n ∷ record m { came = e ∷ m.came } ∷ below)
    (λ same. absurd (other (sym same)))
    (λ _. by_test local.lock k (λ b. n ∷ cond b (record m { came = e ∷ m.came } ∷ below) (m ∷ with_came k e outer below) ≡ n ∷ record m { came = e ∷ m.came } ∷ below) (λ _. refl) (λ no. absurd (no (sym is))))

-- what came to the local lists changed no owner
came_unchanged : (e : ℕ) (local same : Hold) (below : List Notes) → change_in e (local ∷ []) (came_outside e below) ≡ change_in e (same ∷ []) below
came_unchanged e local same [] = refl
came_unchanged e local same (n ∷ below) = refl

-- Passes whose elements are placed otherwise

pub goes_placed : (held : List Hold) (hand carried : List InHand) (readings : List HomeIn) (notes : List Notes) (touched : List WordStep) (p q : PassView) → q ≡ with_view p (with_places held hand carried readings notes touched p.view) → Goes p q [] []
goes_placed held hand carried readings notes touched p q is =
    subst (λ (z : PassView). Goes p z [] []) (sym is) record {
      table = refl;
      seat = refl;
      cpu = refl;
      call = refl;
      shape = refl;
      cpus = refl;
      steps = sym (append_nil p.view.steps);
      numbers = record { reached = omega arith; refused = omega arith; ascend = omega arith; exact = λ _. refl };
      kept = refl;
      ended = refl;
      lost_is = refl;
    }

pub learns_placed : (shape : Shape) (held : List Hold) (hand carried : List InHand) (readings : List HomeIn) (notes : List Notes) (touched : List WordStep) (p q : PassView) → q ≡ with_view p (with_places held hand carried readings notes touched p.view) → Learns shape p.view q.view [] []
learns_placed shape held hand carried readings notes touched p q is =
    subst (λ (z : PassView). Learns shape p.view z.view [] []) (sym is) (learns_nothing shape p.view (with_places held hand carried readings notes touched p.view) refl refl refl refl)

pub local_no_global : (cpu : ℕ) → Local cpu ≡ Global → ⊥
local_no_global cpu is = cc

pub one_home : (lock other : DomainId) → homes.In lock ≡ homes.In other → lock ≡ other
one_home lock other is = cc

module _ {t : TableView} {to : Destination} {e : ℕ} {r : PassView} (can : CanPut t to e r) where
  shape_is : r.view.shape ≡ t.shape
  shape_is = can.holds.of_table.1

  walk_number : (lock : DomainId) → can.lock ≡ lock → lock_number r.view.shape lock ≡ can.holds.hold.lock
  walk_number lock named = (λ i. lock_number (shape_is i) (sym named i)) ∙ sym can.holds.lock_is

  walk_held : hold_at (lock_number t.shape can.lock) r.view.held ≡ Some can.holds.hold
  walk_held =
      ap (hold_at (lock_number t.shape can.lock)) can.holds.held
      ∙ (ap (λ (n : ℕ). hold_at n (can.holds.hold ∷ can.holds.outer)) (sym can.holds.lock_is) ∙ hold_at_first can.holds.hold can.holds.outer)

  -- what is changed under the lock of the walk
  walk_changed : (f : Lists → Lists) (k : ℕ) → k ≡ can.holds.hold.lock → with_now k (f (now_at k r.view.held)) r.view.held ≡ hold_with can.holds.hold (f can.holds.hold.now) ∷ can.holds.outer
  walk_changed f k is = ap (λ (l : List Hold). with_now k (f (now_at k l)) l) can.holds.held ∙ changed_first f k can.holds.hold can.holds.outer is

  -- the walk's lock is the home of what it removed, and the CPU's hand has it
  at_home : IsKnownHome t.shape r.view r.cpu e (homes.In can.lock)
  at_home =
      let all : times e (can.holds.hold.now.free ++ rows can.holds.hold.now) ≡ times e can.holds.hold.now.free + times e (rows can.holds.hold.now) = times_append e can.holds.hold.now.free (rows can.holds.hold.now) in
      let some : 0 < times e (rows can.holds.hold.now) = can.listed in (
        record { hold = can.holds.hold; there = can.holds.there; held = walk_held; cpu_is = can.holds.cpu_is },
        no_bucket can.lock can.holds.lists,
        omega (arith, all, some),
      )

  from_walk : (lock : DomainId) (home : Home) (s : PassView) → can.lock ≡ lock → (re : Rehomed t e home r s) → s ≡ with_view r (rehomed_view re.at (homes.In lock) home (owners.Hand r.cpu) e r.view)
  from_walk lock home s named re =
      let from : re.from ≡ homes.In lock = sym (re.known (homes.In can.lock) at_home) ∙ ap homes.In named in
      let owner : re.owner ≡ owners.Hand r.cpu = hand_is r.cpu re.owner (re.fits.in_own_hand r.cpu can.holds.begun ∙ can.in_hand) in
      re.after_is ∙ (λ i. with_view r (rehomed_view re.at (from i) home (owner i) e r.view))

-- once it is known where it goes
pub can_go : {t : TableView} {to known : Destination} {e : ℕ} {r : PassView} → to ≡ known → CanPut t to e r → CanPut t known e r
can_go {t} {to} {known} {e} {r} is can = subst (λ (z : Destination). CanPut t z e r) is can

pub went_there : {t : TableView} {to known : Destination} {e : ℕ} {r s : PassView} → to ≡ known → PutThere t known e r s → PutThere t to e r s
went_there {t} {to} {known} {e} {r} {s} is put = subst (λ (z : Destination). PutThere t z e r s) (sym is) put

-- To the free list of the own set

module _ {t : TableView} {e : ℕ} {r : PassView} (can : CanPut t OwnFree e r) where
  pub can_free_own : (cpu : ℕ) → cpu ≡ r.cpu → CanSettle t e (CpuLru cpu) r
  can_free_own cpu mine =
      let own : can.lock ≡ CpuLru cpu = can.holds_for.0 ∙ ap CpuLru (sym mine) in
      subst (λ (d : DomainId). CanSettle t e d r) own record {
        of_table = can.holds.of_table;
        begun = can.holds.begun;
        hold = can.holds.hold;
        there = can.holds.there;
        held = walk_held can;
        cpu_is = can.holds.cpu_is;
        has_free_list = no_bucket can.lock can.holds.lists;
        in_hand = can.in_hand;
        listed = λ _. can.listed;
        around = λ _. free_of_none r.view e (unchanged_around can.holds e);
      }

  pub freed_own : (cpu : ℕ) (s : PassView) → cpu ≡ r.cpu → Settled (CpuLru cpu) e r s → PutThere t OwnFree e r s
  freed_own cpu s mine settled =
      let after : s ≡ with_view r (settled_view settled.0 (CpuLru cpu) e r.cpu r.view) = settled.1 in
      let k : ℕ = lock_number r.view.shape (CpuLru cpu) in
      let k_is : k ≡ can.holds.hold.lock = walk_number can (CpuLru cpu) (can.holds_for.0 ∙ ap CpuLru (sym mine)) in
      let free : Lists → Lists = (λ now. with_free e (without_row e now)) in
      record {
        goes = goes_placed _ _ _ _ _ _ r s after;
        held = ap (λ (z : PassView). z.view.held) after ∙ (walk_changed can free k k_is ∙ sym (ap (removed_to OwnFree e) can.holds.held));
        notes = ap (λ (z : PassView). z.view.notes) after;
        carried = ap (λ (z : PassView). z.view.carried) after;
        hand = ap (λ (z : PassView). z.view.hand) after;
        spares = ap (λ (z : PassView). z.spares) after;
        touched = record { at = settled.0; word = owner_word r.view.shape e; seen = None; left = 0 } ∷ [];
        touched_are = ap (λ (z : PassView). z.view.touched) after;
        learns = learns_placed t.shape _ _ _ _ _ _ r s after;
      }

-- To the hand

module _ {t : TableView} {e : ℕ} {r : PassView} (can : CanPut t OwnHand e r) where
  pub can_be_carried : (cpu : ℕ) → cpu ≡ r.cpu → CanRehome t e (homes.Hand cpu) r
  can_be_carried cpu mine =
      let from : ℕ = can.holds_for.0 in
      let there : IsTrue (is_lock t.shape (Local from)) = subst (λ (d : DomainId). IsTrue (is_lock t.shape d)) can.holds_for.1 can.holds.there in
      record {
        of_table = can.holds.of_table;
        begun = can.holds.begun;
        common = (and_parts t.shape.common _ there).0;
        real = can.real;
        from = homes.In can.lock;
        home = at_home can;
        goes = (mine, can.in_hand);
        around = λ _. unchanged_around can.holds e;
      }

  pub carried_off : (cpu : ℕ) (s : PassView) → cpu ≡ r.cpu → Rehomed t e (homes.Hand cpu) r s → PutThere t OwnHand e r s
  carried_off cpu s mine re =
      let from : DomainId = Local can.holds_for.0 in
      let after : s ≡ with_view r (rehomed_view re.at (homes.In from) (homes.Hand cpu) (owners.Hand r.cpu) e r.view) = from_walk can from (homes.Hand cpu) s can.holds_for.1 re in
      record {
        goes = goes_placed _ _ _ _ _ _ r s after;
        held = ap (λ (z : PassView). z.view.held) after ∙ (walk_changed can (without_row e) (lock_number r.view.shape from) (walk_number can from can.holds_for.1) ∙ sym (ap (removed_to OwnHand e) can.holds.held));
        notes = ap (λ (z : PassView). z.view.notes) after;
        carried = ap (λ (z : PassView). z.view.carried) after ∙ ap (λ (c : ℕ). with_in_hand e c r.view.carried) mine;
        hand = ap (λ (z : PassView). z.view.hand) after;
        spares = ap (λ (z : PassView). z.spares) after;
        touched = record { at = re.at; word = home_word r.view.shape e; seen = None; left = home_code (homes.Hand cpu) } ∷ [];
        touched_are = ap (λ (z : PassView). z.view.touched) after;
        learns = learns_placed t.shape _ _ _ _ _ _ r s after;
      }

-- To the local lists

module _ {t : TableView} {e : ℕ} {r : PassView} (can : CanPut t LocalFree e r) where
  -- the global lists, and the local ones
  abbrev walk : Hold
  walk = can.holds.hold

  abbrev local : Hold
  local = can.holds_for.2.1

  local_there : IsTrue (is_lock t.shape (Local r.cpu))
  local_there = can.holds_for.1

  global_there : IsTrue (is_lock t.shape Global)
  global_there = subst (λ (d : DomainId). IsTrue (is_lock t.shape d)) can.holds_for.0 can.holds.there

  both_held : r.view.held ≡ walk ∷ local ∷ []
  both_held = can.holds.held ∙ ap (λ (l : List Hold). walk ∷ l) (ap holds_below (sym can.holds.held ∙ can.holds_for.2.2))

  local_number : lock_number r.view.shape (Local r.cpu) ≡ local.lock
  local_number = ap (λ (s : Shape). lock_number s (Local r.cpu)) (shape_is can) ∙ sym can.holds_for.2.3

  local_other : lock_number r.view.shape (Local r.cpu) ≢ walk.lock
  local_other same =
      names_apart t.shape (Local r.cpu) Global local_there global_there (local_no_global r.cpu)
      (ap (λ (s : Shape). lock_number s (Local r.cpu)) (sym (shape_is can)) ∙ (same ∙ (can.holds.lock_is ∙ ap (lock_number t.shape) can.holds_for.0)))

  -- while other lists lie under both
  local_held : (now then : Lists) → hold_at (lock_number t.shape (Local r.cpu)) (hold_with walk now ∷ hold_with local then ∷ []) ≡ Some (hold_with local then)
  local_held now then =
      ap (λ (s : Shape). hold_at (lock_number s (Local r.cpu)) (hold_with walk now ∷ hold_with local then ∷ [])) (sym (shape_is can))
      ∙ (hold_at_other (lock_number r.view.shape (Local r.cpu)) (hold_with walk now) (hold_with local then ∷ []) local_other
      ∙ (ap (λ (n : ℕ). hold_at n (hold_with local then ∷ [])) local_number ∙ hold_at_first (hold_with local then) []))

  holds_local : HoldsLock t.shape r.view r.cpu (Local r.cpu)
  holds_local = record {
    hold = local;
    there = local_there;
    held = ap (hold_at (lock_number t.shape (Local r.cpu))) both_held ∙ local_held walk.now local.now;
    cpu_is = can.holds_for.2.4;
  }

  pub can_come_home : (cpu : ℕ) → cpu ≡ r.cpu → CanRehome t e (homes.In (Local cpu)) r
  can_come_home cpu mine =
      subst (λ (c : ℕ). CanRehome t e (homes.In (Local c)) r) (sym mine) record {
        of_table = can.holds.of_table;
        begun = can.holds.begun;
        common = global_there;
        real = can.real;
        from = homes.In can.lock;
        home = at_home can;
        goes = (holds_local, inr can.in_hand);
        around = λ _. unchanged_around can.holds e;
      }

  -- what is at home on the global lists is not on the local ones
  none_local : (home : Home) (s : PassView) → Rehomed t e home r s → times e local.now.first ≡ 0
  unfolding holds_local
  none_local home s re =
      ⊎_elim (λ (none : times e local.now.first ≡ 0). none)
      (λ (some : 0 < times e local.now.first).
      let all : times e (local.now.free ++ rows local.now) ≡ times e local.now.free + times e (rows local.now) = times_append e local.now.free (rows local.now) in
      let both : times e (rows local.now) ≡ times e local.now.first + times e local.now.second = times_append e local.now.first local.now.second in
      let there : IsIn e (all_of local.now) = omega (arith, all, both, some) in
      let from : homes.In (Local r.cpu) ≡ re.from = re.known (homes.In (Local r.cpu)) (holds_local, refl, there) in
      absurd (local_no_global r.cpu (one_home (Local r.cpu) Global (from ∙ (sym (re.known (homes.In can.lock) (at_home can)) ∙ ap homes.In can.holds_for.0)))))
      (eq-zero-or-pos (times e local.now.first))

  -- It came there ..
  abbrev home_lists : List Hold
  home_lists = hold_with walk (without_row e walk.now) ∷ hold_with local (with_row (Local r.cpu) e local.now) ∷ []

  come_home : (cpu : ℕ) (m : PassView) → cpu ≡ r.cpu → (re : Rehomed t e (homes.In (Local cpu)) r m) → m ≡ with_view r (rehomed_view re.at (homes.In Global) (homes.In (Local r.cpu)) (owners.Hand r.cpu) e r.view)
  come_home cpu m mine re =
      from_walk can Global (homes.In (Local cpu)) m can.holds_for.0 re ∙ ap (λ (c : ℕ). with_view r (rehomed_view re.at (homes.In Global) (homes.In (Local c)) (owners.Hand r.cpu) e r.view)) mine

  home_held : (at : ℕ) → (rehomed_view at (homes.In Global) (homes.In (Local r.cpu)) (owners.Hand r.cpu) e r.view).held ≡ home_lists
  home_held at =
      let k : ℕ = lock_number r.view.shape (Local r.cpu) in
      let from : ℕ = lock_number r.view.shape Global in
      let left : with_now from (without_row e (now_at from r.view.held)) r.view.held ≡ hold_with walk (without_row e walk.now) ∷ local ∷ [] =
      walk_changed can (without_row e) from (walk_number can Global can.holds_for.0) ∙ ap (λ (l : List Hold). hold_with walk (without_row e walk.now) ∷ l) (ap holds_below (sym can.holds.held ∙ both_held)) in
      ap (λ (l : List Hold). with_now k (with_row (Local r.cpu) e (now_at k l)) l) left
      ∙ changed_second (with_row (Local r.cpu) e) k (hold_with walk (without_row e walk.now)) local [] local_other local_number

  local_code : home_code (homes.In Global) ≢ home_code (homes.In (Local r.cpu))
  local_code same =
      let few : r.cpu < t.shape.cpus = ltb-true r.cpu t.shape.cpus (and_parts t.shape.common _ local_there).1 in
      let bounded : t.shape.cpus ≤ 16 = (bounds_of_shape t.shape can.holds.is_shape).cpus_bounded in
      omega (arith, same, few, bounded)

  home_noted : (at : ℕ) → (rehomed_view at (homes.In Global) (homes.In (Local r.cpu)) (owners.Hand r.cpu) e r.view).notes ≡ came_local e r.view.notes
  home_noted at =
      come_from_other r.view.shape (homes.In Global) (Local r.cpu) e r.view.held r.view.notes local_code
      ∙ (ap (λ (l : List Hold). with_came (lock_number r.view.shape (Local r.cpu)) e l r.view.notes) both_held ∙ came_second (lock_number r.view.shape (Local r.cpu)) e walk local [] r.view.notes local_other local_number)

  -- nothing was changed in the turn of the local lists
  none_around : (m : PassView) (at : ℕ) → m ≡ with_view r (rehomed_view at (homes.In Global) (homes.In (Local r.cpu)) (owners.Hand r.cpu) e r.view) → IsUnchangedAround m.view e
  none_around m at after =
      let noted : m.view.notes ≡ came_local e (can.holds.notes ∷ can.holds.below) = ap (λ (z : PassView). z.view.notes) after ∙ (home_noted at ∙ ap (came_local e) can.holds.notes_are) in
      let held : m.view.held ≡ home_lists = ap (λ (z : PassView). z.view.held) after ∙ home_held at in
      let around : can.holds.outer ≡ local ∷ [] = ap holds_below (sym can.holds.held ∙ can.holds_for.2.2) in
      (λ i. change_in e (holds_below (held i)) (notes_below (noted i)))
      ∙ (came_unchanged e (hold_with local (with_row (Local r.cpu) e local.now)) local can.holds.below
      ∙ (ap (λ (l : List Hold). change_in e l can.holds.below) (sym around) ∙ can.holds.unchanged e))

  pub can_free_local : (cpu : ℕ) (m : PassView) → cpu ≡ r.cpu → Rehomed t e (homes.In (Local cpu)) r m → CanSettle t e (Local cpu) m
  can_free_local cpu m mine re =
      let after = come_home cpu m mine re in
      let goes : Goes r m [] [] = goes_placed _ _ _ _ _ _ r m after in
      let row : times e (e ∷ (local.now.first ++ local.now.second)) ≡ suc (times e (local.now.first ++ local.now.second)) = times_cons_same e (local.now.first ++ local.now.second) in
      let listed : IsIn e (rows (with_row (Local r.cpu) e local.now)) = omega (arith, row) in
      subst (λ (c : ℕ). CanSettle t e (Local c) m) (sym mine) record {
        of_table = goes_of_table t r m [] [] goes can.holds.of_table;
        begun = goes_begun r m [] [] goes can.holds.begun;
        hold = hold_with local (with_row (Local r.cpu) e local.now);
        there = local_there;
        held = ap (λ (z : PassView). hold_at (lock_number t.shape (Local r.cpu)) z.view.held) after ∙ (ap (hold_at (lock_number t.shape (Local r.cpu))) (home_held re.at) ∙ local_held (without_row e walk.now) (with_row (Local r.cpu) e local.now));
        cpu_is = can.holds_for.2.4 ∙ sym goes.cpu;
        has_free_list = refl;
        in_hand = ap (λ (z : PassView). is_in_hand_of e z.cpu z.view.hand) after ∙ can.in_hand;
        listed = λ _. listed;
        around = λ _. free_of_none m.view e (none_around m re.at after);
      }

  -- .. and was freed there
  pub freed_local : (cpu : ℕ) (m s : PassView) → cpu ≡ r.cpu → Rehomed t e (homes.In (Local cpu)) r m → Settled (Local cpu) e m s → PutThere t LocalFree e r s
  freed_local cpu m s mine re settled =
      let after = come_home cpu m mine re in
      let goes : Goes r m [] [] = goes_placed _ _ _ _ _ _ r m after in
      let here : s ≡ with_view m (settled_view settled.0 (Local r.cpu) e m.cpu m.view) = settled.1 ∙ ap (λ (c : ℕ). with_view m (settled_view settled.0 (Local c) e m.cpu m.view)) mine in
      let k : ℕ = lock_number r.view.shape (Local r.cpu) in
      let free : Lists → Lists = (λ now. with_free e (without_row e now)) in
      let shape_same : m.view.shape ≡ r.view.shape = goes.shape in
      let held_is : m.view.held ≡ home_lists = ap (λ (z : PassView). z.view.held) after ∙ home_held re.at in
      let freed : with_now k (free (now_at k home_lists)) home_lists ≡ hold_with walk (without_row e walk.now) ∷ hold_with local (free (with_row (Local r.cpu) e local.now)) ∷ [] =
      changed_second free k (hold_with walk (without_row e walk.now)) (hold_with local (with_row (Local r.cpu) e local.now)) [] local_other local_number in
      let then : hold_with walk (without_row e walk.now) ∷ hold_with local (free (with_row (Local r.cpu) e local.now)) ∷ [] ≡ removed_to LocalFree e r.view.held =
      ap (λ (l : Lists). hold_with walk (without_row e walk.now) ∷ hold_with local (with_free e l) ∷ []) (row_passes r.cpu e local.now (none_local (homes.In (Local cpu)) m re)) ∙ sym (ap (removed_to LocalFree e) both_held) in
      record {
        goes = goes_on r m s [] [] [] [] goes (goes_placed _ _ _ _ _ _ m s here);
        held = ap (λ (z : PassView). z.view.held) here ∙ ((λ i. with_now (lock_number (shape_same i) (Local r.cpu)) (free (now_at (lock_number (shape_same i) (Local r.cpu)) (held_is i))) (held_is i)) ∙ (freed ∙ then));
        notes = ap (λ (z : PassView). z.view.notes) here ∙ (ap (λ (z : PassView). with_changed e owners.Free z.view.notes) after ∙ ap (with_changed e owners.Free) (home_noted re.at));
        carried = ap (λ (z : PassView). z.view.carried) here ∙ ap (λ (z : PassView). z.view.carried) after;
        hand = ap (λ (z : PassView). z.view.hand) here ∙ ap (λ (z : PassView). without_in_hand e z.cpu z.view.hand) after;
        spares = ap (λ (z : PassView). z.spares) here ∙ ap (λ (z : PassView). z.spares) after;
        touched = record { at = re.at; word = home_word r.view.shape e; seen = None; left = home_code (homes.In (Local r.cpu)) } ∷ record { at = settled.0; word = owner_word m.view.shape e; seen = None; left = 0 } ∷ [];
        touched_are = ap (λ (z : PassView). z.view.touched) here
            ∙ (ap (λ (z : PassView). z.view.touched ++ record { at = settled.0; word = owner_word m.view.shape e; seen = None; left = 0 } ∷ []) after
            ∙ append_assoc r.view.touched (record { at = re.at; word = home_word r.view.shape e; seen = None; left = home_code (homes.In (Local r.cpu)) } ∷ []) (record { at = settled.0; word = owner_word m.view.shape e; seen = None; left = 0 } ∷ []));
        learns = learns_on t.shape r.view m.view s.view [] [] [] [] (learns_placed t.shape _ _ _ _ _ _ r m after) (learns_placed t.shape _ _ _ _ _ _ m s here);
      }

-- A probe, and then where what it removed goes

-- the same locks are held for the walk
pub still_for : (t : TableView) (to : Destination) (lock : DomainId) (p r : PassView) → r.cpu ≡ p.cpu → r.view.held ≡ p.view.held → HoldsFor t to lock p → HoldsFor t to lock r
still_for t OwnFree lock p r cpu held h = (h.0 ∙ ap CpuLru (sym cpu), (h.1.0, held ∙ h.1.1))
still_for t LocalFree lock p r cpu held h =
    (h.0, subst (λ (c : ℕ). IsTrue (is_lock t.shape (Local c))) (sym cpu) h.1, (h.2.0, h.2.1, held ∙ h.2.2, h.2.3 ∙ sym cpu, h.2.4 ∙ sym cpu))
still_for t OwnHand lock p r cpu held h = (h.0, h.1, (h.2.0, held ∙ h.2.1))

left_in_hand : (to : Destination) (e cpu : ℕ) (hand : List InHand) → is_in_hand_of e cpu hand ≡ false → hand_left to e cpu (with_in_hand e cpu hand) ≡ taken_to to cpu e hand
left_in_hand OwnFree e cpu hand none = comes_and_goes e cpu hand none
left_in_hand LocalFree e cpu hand none = comes_and_goes e cpu hand none
left_in_hand OwnHand e cpu hand none = refl

module _ {t : TableView} {to : Destination} {bucket e : ℕ} {p : PassView} (chase : CanChase t to bucket e p) where
  can_put : (r : PassView) → EvictedWith t bucket e p r Removed → CanPut t to e r
  can_put r done =
      let h = chase.can.holds in
      let m = chase.can.may in
      let one : m.hold ≡ h.hold = same_head (sym m.held ∙ h.held) in
      record {
        lock = chase.can.lock;
        holds = record {
          of_table = goes_of_table t p r (done.turn ∷ []) [] done.goes h.of_table;
          begun = goes_begun p r (done.turn ∷ []) [] done.goes h.begun;
          is_shape = h.is_shape;
          evicts = h.evicts;
          there = h.there;
          lists = h.lists;
          hold = h.hold;
          outer = h.outer;
          held = done.held ∙ h.held;
          above = h.above;
          lock_is = h.lock_is;
          cpu_is = h.cpu_is ∙ sym done.goes.cpu;
          notes = h.notes;
          below = h.below;
          notes_are = done.notes ∙ h.notes_are;
          freed = h.freed;
          unchanged = h.unchanged;
        };
        holds_for = still_for t to chase.can.lock p r done.goes.cpu done.held chase.holds_for;
        real = m.real;
        listed = subst (λ (z : Hold). IsIn e (rows z.now)) one m.listed;
        in_hand = (λ i. is_in_hand_of e (done.goes.cpu i) (done.hand i)) ∙ in_hand_more e p.cpu p.view.hand;
      }

  chased_removed : (r s : PassView) → EvictedWith t bucket e p r Removed → PutThere t to e r s → Chased t to bucket e p s Removed
  chased_removed r s done put =
      let none : is_in_hand_of e p.cpu p.view.hand ≡ false = chase.can.may.in_no_hand p.cpu chase.can.holds.begun in
      record {
        turn = done.turn;
        goes = goes_on p r s (done.turn ∷ []) [] [] [] done.goes put.goes;
        held = put.held ∙ ap (removed_to to e) done.held;
        notes = put.notes ∙ ap (noted_to to e) done.notes;
        carried = put.carried ∙ (λ i. taken_to to (done.goes.cpu i) e (done.carried i));
        hand = put.hand ∙ ((λ i. hand_left to e (done.goes.cpu i) (done.hand i)) ∙ left_in_hand to e p.cpu p.view.hand none);
        spares = put.spares ∙ done.spares;
        is_evict = done.is_evict;
        saw = saw_on_none t.shape p r s (done.turn ∷ []) done.saw (saw_none t.shape r s put.touched put.touched_are);
        learns = learns_before t.shape p.view r.view s.view (done.turn ∷ []) done.learns put.learns;
      }

  pub can_put_for : (r : PassView) (answer : Probed) (body : Stored) → answer ≡ answers.Removed body → Evicted t bucket e p r answer → CanPut t to e r
  can_put_for r answer body is done =
      let known : Evicted t bucket e p r (answers.Removed body) = subst (Evicted t bucket e p r) is done in
      can_put r known.evicted

  pub chased_for_removed : (r s : PassView) (answer : Probed) (body : Stored) → answer ≡ answers.Removed body → Evicted t bucket e p r answer → PutThere t to e r s → ChasedFor t to bucket e p s answer
  chased_for_removed r s answer body is done put =
      let known : Evicted t bucket e p r (answers.Removed body) = subst (Evicted t bucket e p r) is done in
      subst (ChasedFor t to bucket e p s) (sym is) (record { chased = chased_removed r s known.evicted put; body = known.body })
