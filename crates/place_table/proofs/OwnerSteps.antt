-- The steps on an owner word: an element comes to a hand or leaves it, and what lies under a lock that is held changes.
use Rattle.std.proofs.Common.{◌≡◌, ℕ, ◌+◌, ◌<◌, ◌⊎◌, inl, inr, eqb, cond, ⊎_elim, Bool, true, false, List, ◌∷◌, Option, get_or, set, sym, refl, ap, ◌∙◌, subst, arith, Some, get_or-set_other, get_or-set_same}
use Rattle.std.specs.Prelude.{◌&&◌, IsTrue, IsFalse, is_some}
use Rattle.std.proofs.lemmas.Bool.{and_parts, eqb-true}
use Rattle.std.proofs.lemmas.Bool.Decides.{nat_tests}
use mathlib.Core.Option.{some}
use lib.ListN.{get_elem?}
use Rattle.atomic_table.specs.Table.{State, Act, Valid, Allows, keeps, stepped, carried_after}
use Rattle.map_types.specs.declared.attr.Shape.{Shape}
use Rattle.map_types.specs.declared.kind.DomainId.{DomainId}
use Rattle.map_types.specs.declared.kind.DomainId.TheVariants.{Bucket}
use Rattle.map_types.specs.Kind.{is_lru}
use Rattle.map_types.proofs.CreationLemmas.{bounds_of_shape}
use Rattle.place_words.specs.declared.owner.Owner.{Owner}
use Rattle.place_words.specs.declared.owner.Owner.TheVariants as owners
use Rattle.place_words.specs.declared.home.Home.TheVariants as homes
use Rattle.place_words.specs.Codes.{owner_code}
use Rattle.map_types.specs.ElementLists.{put, IsIn, IsHead}
use Rattle.map_types.proofs.RowLemmas.{by_test}
use Rattle.place_words.specs.Locks.{is_lock, lock_number}
use Rattle.place_words.specs.Openings.{is_free}
use Rattle.place_words.specs.declared.step.Lists.{Lists}
use Rattle.place_words.specs.declared.step.Step.{Step}
use Rattle.place_words.specs.declared.step.Step.TheVariants.{Claim, Settle, Attach, Detach}
use Rattle.place_words.specs.State.{rows, is_bucket}
use Rattle.place_words.specs.Places.{Placed, ElementPlace, under_lock, carried, lies_at, home_of_place, MayLie}
use Rattle.place_words.specs.Ranks.{Ranked}
use Rattle.place_words.specs.Steps.{lists_under, with_free, without_free, with_row, without_row, with_owner, CanClaim, CanSettle, CanAttach, IsLockHome, IsInHeldBucket, IsEnabled, after, CoreStep}
use Rattle.place_words.proofs.ElementLemmas.{at_put, put_here, put_else}
use Rattle.place_words.proofs.OwnerSteps.{was_inside}
use Rattle.place_words.proofs.RowLemmas.{stands_where, free_is, head_is_in, lies_is, rows_with_row_other, rows_without_row_other, rows_without_row_same}
use Rattle.place_words.proofs.StepLaws.{step_keeps_places, step_keeps_ranks}
use Rattle.place_table.specs.declared.content.Behind.{Behind}
use Rattle.place_table.specs.declared.view.Notes.{Notes}
use Rattle.place_table.specs.declared.view.View.{View}
use Rattle.place_table.specs.declared.view.Hold.{Hold}
use Rattle.place_table.specs.declared.view.InHand.{InHand}
use Rattle.place_table.specs.declared.view.HashIn.{HashIn}
use Rattle.key_hash.specs.Bucket.{bucket_number}
use Rattle.place_table.specs.Laws.{StepsAs, goes_by}
use Rattle.place_table.specs.Views as views
use Rattle.place_table.specs.Views.{is_among, hold_at, is_in_hand_of, now_at, now_under, with_now, with_came, with_in_hand, without_in_hand, moved, kept_readings, kept_hashes, hash_known, came_at}
use Rattle.place_table.specs.Rules.{Rule, World, PassKnows, AreNoted, is_hand_of, is_home_of, IsHashOf, IsHashed, HasCome, HasRow, IsBrought, marks_under}
use Rattle.place_table.specs.Words.{owner_word, home_word}
use Rattle.place_table.specs.Plays.{Seated, Claims, Settles, Attaches, Detaches}
use Rattle.place_table.proofs.Hands.{ascends_now, AreInHands, comes_to_hand, leaves_hand, was_in_hand, IsOwnerOfPass}
use Rattle.place_table.proofs.Locks.{allows_of}
use Rattle.place_table.proofs.Nesting.{lists_now}
use Rattle.place_table.proofs.PlaceSteps.{IsHeldByPass, AreHashes, rowed_moved, now_is, held_moved, place_rule, held_there, by_pass_there, now_there, holds_there, readings_kept, hashes_kept}
use Rattle.place_table.proofs.Came.{came_now, came_more, came_here}
use Rattle.place_table.proofs.HashSteps.{lies_home, row_of_bucket, hashed_kept}
use Rattle.place_words.specs.Locks.{lock_named}
use Rattle.place_words.proofs.LockLemmas.{named_by_number}
use Rattle.place_table.specs.Rules.{HashesRight, hold_of}
use Rattle.place_table.specs.Views.{bucket_known}
use Rattle.place_table.proofs.Locks.{elements_there}
use Rattle.place_words.proofs.LockLemmas.{number_of_named}
use Rattle.place_table.specs.declared.view.Ticket.TheVariants.{Unread}
use Rattle.place_table.specs.Words.{ticket_word}
use Rattle.place_table.specs.Rules.{logs_of}
use Rattle.place_table.specs.Views.{with_changed}
use Rattle.place_table.specs.Owners.{IsUnchangedAround, IsFreeAround, IsHomeHere, IsBucketHere, IsKept}
use Rattle.place_table.proofs.OwnersNoted.{KeepsOwners, kept_came, kept_changed, came_changed, marks_changed, noted_changed, noted_first}
use Rattle.place_table.proofs.OwnersOrder.{IsHad, MayChange, apart_there, owners_changed}
use Rattle.place_table.proofs.StoredHashes.{lies_on, in_all, bucket_noted, hashes_claimed, hashes_settled, hashes_attached, hashes_detached}
use Rattle.place_table.proofs.Worlds.{hold_of_mine}
use Rattle.place_table.proofs.WordSteps.{in_held_bucket}
use Rattle.place_table.proofs.Worlds.{true_false, by_bool, both_true, some_is, in_hand_is, hashed_stands}
use Rattle.place_table.proofs.NotesDone.{noted_came, noted_now}
use Rattle.place_table.proofs.StepLog.{made}
use Rattle.place_table.proofs.MarksNoted.{marks_now, marks_came}

module _ (shape : Shape) (s : State Behind View) (r : Rule shape s) (pass : ℕ) (v : View) (at_pass : get_elem? s.views pass ≡ some v) (lock : DomainId) (h : Hold) (found : hold_at (lock_number shape lock) v.held ≡ Some h)
    (e : ℕ) (owner : Owner) (hand : List InHand) (notes : List Notes) (hashes : List HashIn) (cs : List (ℕ × Behind)) (real : e < shape.elements) (was : IsOwnerOfPass r.world.pass_of_cpu pass (r.world.core.owner e)) (is : IsOwnerOfPass r.world.pass_of_cpu pass owner)
    (in_hands : AreInHands is_hand_of shape.cpus pass r.world.pass_of_cpu (put r.world.core.owner e owner) hand) (are_noted : AreNoted shape v.touched v.held notes)
    (more : (m x : ℕ) → is_among x (came_at m v.held v.notes) ≡ true → is_among x (came_at m v.held notes) ≡ true) (same_marks : marks_under v.held notes ≡ marks_under v.held v.notes)
    (may_change : IsTrue (is_lru shape.kind) → MayChange shape r.world.core.owner r.world.core.home r.world.hash v e owner) (same_owners : KeepsOwners (with_changed e owner v.notes) notes) where
  -- the element has this owner from now on, and under the lock lies this
  owner_rule : (now : Lists) → (IsFalse (is_bucket (lock_named shape (lock_number shape lock))) → (x : ℕ) → IsIn x (rows now) → IsIn x (rows (r.world.core.lists (lock_number shape lock))) ⊎ (is_among x (came_at (lock_number shape lock) v.held notes) ≡ true)) → AreHashes shape r.world r.world.core.home hand hashes (with_now (lock_number shape lock) now v.held) notes → (IsTrue (is_lru shape.kind) → HashesRight shape r.world.core.holder (put r.world.core.lists (lock_number shape lock) now) (put r.world.core.owner e owner) r.world.log r.world.hash) → Placed shape (with_owner shape r.world.core e owner lock now) → Ranked shape (with_owner shape r.world.core e owner lock now)
      → (after : Rule shape (stepped s (owner_word shape e) (owner_code owner) pass cs (record (moved (made r.world) (lock_number shape lock) now hand notes (owner_word shape e) (owner_code owner) v) { hashes = hashes }) keeps)) × (after.world.core ≡ with_owner shape r.world.core e owner lock now)
  owner_rule now come are_hashes right placed ranked =
      let i : ℕ = owner_word shape e in let k : ℕ = lock_number shape lock in let code : ℕ = owner_code owner in
      let w = r.world in let kn = r.knows pass v at_pass in
      let by_pass = by_pass_there shape s r pass v at_pass k h found in
      let at = held_there shape s r pass v at_pass k h found in
      let held_by : is_among h.cpu v.cpus ≡ true = kn.cpus h.cpu (r.ranked.within h.cpu k at.holder_is) ∙ by_test (w.pass_of_cpu h.cpu) pass (λ t. t ≡ true) (λ _. refl) (λ n. absurd (n at.mine)) in
      place_rule shape s r pass v at_pass (put w.core.lists k now) (put w.core.owner e owner) w.core.home i code h.cpu held_by (with_now k now v.held) hand v.carried (kept_readings hand v.readings) notes hashes cs (omega arith) (omega arith)
      (λ x below. at_put w.core.owner e owner (λ j o. j < shape.elements → get_or (set s.words i code) (owner_word shape j) 0 ≡ owner_code o) x
      (λ _. get_or-set_same s.words i code 0 (omega (arith, r.words)))
      (λ ne below. get_or-set_other s.words i (owner_word shape x) code 0 (λ y. ne (omega arith)) ∙ r.owner_words x below) below)
      (λ x below. get_or-set_other s.words i (home_word shape x) code 0 (λ y. omega arith) ∙ r.home_words x below)
      (noted_now shape v.touched k now v.held notes are_noted) (lists_now k now v.held) (marks_now k now v.held notes ∙ same_marks)
      (λ lru none. owners_changed shape (get_or s.words (ticket_word shape) 0) w.core.owner w.core.home w.hash (logs_of w) s.views pass v _ e owner at_pass (apart_there shape w s.views pass v r.knows at_pass) (may_change lru)
      record { cpus = refl; held = lists_now k now v.held; changed = same_owners.0; read = same_owners.1; ticket = inl refl } (r.owners lru none))
      record {
        under = λ m. at_put w.core.lists k now (λ j l. (l ≡ w.core.lists j) ⊎ IsHeldByPass w pass j) m (inr by_pass) (λ _. inl refl);
        owners = λ x. at_put w.core.owner e owner (λ j o. (o ≡ w.core.owner j) ⊎ (IsOwnerOfPass w.pass_of_cpu pass (w.core.owner j) × IsOwnerOfPass w.pass_of_cpu pass o)) x (inr (was, is)) (λ _. inl refl);
        homes = λ _. inl refl;
        are_held = held_moved w pass k w.core.lists v.held now kn.held by_pass;
        ascends = ascends_now shape k now v.held kn.ascends;
        in_hands = in_hands;
        are_carried = kn.carried;
        placed = placed;
        ranked = ranked;
        hashes = right;
        are_hashes = are_hashes;
        are_rowed = λ lru. rowed_moved shape w pass v kn lru (put w.core.lists k now) (with_now k now v.held) notes (held_moved w pass k w.core.lists v.held now kn.held by_pass)
            (λ m x before. ap (is_among x) (came_now k m now v.held notes) ∙ more m x before)
            (λ m x _ no_bucket. at_put w.core.lists k now (λ j l. IsFalse (is_bucket (lock_named shape j)) → IsIn x (rows l) → IsIn x (rows (w.core.lists j)) ⊎ (is_among x (came_at j (with_now k now v.held) notes) ≡ true)) m
            (λ at_k inside. ⊎_elim (λ (was : IsIn x (rows (w.core.lists k))). inl was) (λ (comes : is_among x (came_at k v.held notes) ≡ true). inr (ap (is_among x) (came_now k k now v.held notes) ∙ comes)) (come at_k x inside))
            (λ _ _ inside. inl inside) no_bucket);
        at_home = λ _ _ _ _ _ _ at. inl at;
        are_read = readings_kept shape w pass v kn hand;
        still = λ _ _ _ _ _ _ still. still;
      }

  -- a step of the core that does so
  owner_step : (step : Step) (change : Lists → Lists) → ((now : Lists) → AreHashes shape r.world r.world.core.home hand hashes (with_now (lock_number shape lock) now v.held) notes) → (IsFalse (is_bucket (lock_named shape (lock_number shape lock))) → (x : ℕ) → IsIn x (rows (change (r.world.core.lists (lock_number shape lock)))) → IsIn x (rows (r.world.core.lists (lock_number shape lock))) ⊎ (is_among x (came_at (lock_number shape lock) v.held notes) ≡ true))
      → IsEnabled shape r.world.core step → after shape r.world.core step ≡ with_owner shape r.world.core e owner lock (change (lists_under shape r.world.core lock))
      → (IsTrue (is_lru shape.kind) → HashesRight shape r.world.core.holder (put r.world.core.lists (lock_number shape lock) (change (lists_under shape r.world.core lock))) (put r.world.core.owner e owner) r.world.log r.world.hash)
      → (nv : View) × (a : Act Behind) × Valid s.homes cs a × ((now : Rule shape (stepped s (owner_word shape e) (owner_code owner) pass cs nv a)) × CoreStep shape r.world.core step now.world.core)
      × ((at : ℕ) × ◌≡◌ {A = Seated} (nv, carried_after cs a) (record (moved at (lock_number v.shape lock) (change (now_under lock v)) hand notes (owner_word v.shape e) (owner_code owner) v) { hashes = hashes }, cs))
  owner_step step change are_hashes come can after_is right =
      let k : ℕ = lock_number shape lock in
      let w = r.world in let kn = r.knows pass v at_pass in
      let bounds = bounds_of_shape shape r.is_shape in
      let rule = owner_rule (change (w.core.lists k)) come (are_hashes (change (w.core.lists k))) right (subst (Placed shape) after_is (step_keeps_places shape w.core step bounds can r.placed)) (subst (Ranked shape) after_is (step_keeps_ranks shape w.core step can r.ranked)) in
      let told : w.core.lists k ≡ now_under lock v =
      sym (now_is w pass k w.core.lists v.held kn.held (by_pass_there shape s r pass v at_pass k h found)) ∙ ap (λ (z : Shape). now_at (lock_number z lock) v.held) (sym kn.shape_is) in (
        record (moved (made w) k (change (w.core.lists k)) hand notes (owner_word shape e) (owner_code owner) v) { hashes = hashes },
        keeps,
        tt,
        (rule.0, record { enabled = can; changed = rule.1 ∙ sym after_is }),
        (made w, (λ i. (record (moved (made w) (lock_number (sym kn.shape_is i) lock) (change (told i)) hand notes (owner_word (sym kn.shape_is i) e) (owner_code owner) v) { hashes = hashes }, cs))),
      )

-- of a lock that the pass holds: its CPU is one of the pass's, and what lies there has its home here
module _ (shape : Shape) (s : State Behind View) (r : Rule shape s) (pass : ℕ) (v : View) (at_pass : get_elem? s.views pass ≡ some v) (k : ℕ) (hold : Hold) (found : hold_at k v.held ≡ Some hold) where
  pub cpu_here : is_among hold.cpu v.cpus ≡ true
  cpu_here =
      let w = r.world in let kn = r.knows pass v at_pass in let at = held_there shape s r pass v at_pass k hold found in
      kn.cpus hold.cpu (r.ranked.within hold.cpu k at.holder_is) ∙ by_test (w.pass_of_cpu hold.cpu) pass (λ t. t ≡ true) (λ _. refl) (λ n. absurd (n at.mine))

  pub home_here : (e : ℕ) → IsTrue (is_lru shape.kind) → e < shape.elements → r.placed.place e ≡ under_lock k → IsHomeHere shape v.cpus v.held (r.world.core.home e)
  home_here e lru real lies =
      subst (IsHomeHere shape v.cpus v.held) (sym (r.placed.placed.homes e real ∙ (ap (home_of_place shape) lies ∙ ap (λ (b : Bool). cond b (homes.In (lock_named shape k)) homes.Unlisted) lru)))
      (ap (λ (j : ℕ). is_some (hold_at j v.held)) (number_of_named shape k) ∙ ap is_some found)

  -- what the rule of owners asks of a pass that changes one
  changes_here : (e : ℕ) (to : Owner) → v.ticket ≡ Unread → IsUnchangedAround v e ⊎ (IsFreeAround v e × (r.world.core.owner e ≡ owners.Free → ⊥))
      → IsHad shape v (r.world.core.home e) (r.world.core.owner e) → IsHomeHere shape v.cpus v.held (r.world.core.home e) ⊎ IsBucketHere shape v.held (r.world.hash e) → IsKept shape v.cpus v.held (r.world.core.home e) (r.world.hash e) to
      → MayChange shape r.world.core.owner r.world.core.home r.world.hash v e to
  changes_here e to unread around had shut kept =
      let first = noted_first shape v.touched k hold v.held v.notes found (r.knows pass v at_pass).noted in
      record { had = had; shut = shut; kept = kept; unread = unread; around = around; hold = first.0; below = first.1; held_are = first.2; notes = first.3; others = first.4; notes_are = first.5 }

-- the lock of a bucket that is held, as that of a stored hash
bucket_here : (v : View) (k : ℕ) (hold : Hold) → hold_at k v.held ≡ Some hold → (hash : ℕ) (shape : Shape) (bucket : ℕ) → bucket_number hash shape.buckets ≡ bucket → k ≡ lock_number shape (Bucket bucket) → IsBucketHere shape v.held hash
bucket_here v k hold found hash shape bucket of_bucket k_is = ap (λ (j : ℕ). is_some (hold_at j v.held)) (ap (λ (b : ℕ). lock_number shape (Bucket b)) of_bucket ∙ sym k_is) ∙ ap is_some found

not_free : {c : ℕ} → owners.Free ≡ owners.Hand c → ⊥
not_free {c} is = cc

bucket_not_free : {b : ℕ} → owners.Free ≡ owners.Bucket b → ⊥
bucket_not_free {b} is = cc

-- what came stays noted as an owner is changed
more_changed : (v : View) (e : ℕ) (to : Owner) (m x : ℕ) → is_among x (came_at m v.held v.notes) ≡ true → is_among x (came_at m v.held (with_changed e to v.notes)) ≡ true
more_changed v e to m x before = ap (is_among x) (came_changed e to m v.held v.notes) ∙ before

-- a step, at the word, the code and the view that a caller has
at_caller : (shape : Shape) (slots pass : ℕ) (me : Seated) (i j code number : ℕ) (view told : ℕ → View) → i ≡ j → code ≡ number → ((at : ℕ) → view at ≡ told at)
    → Allows (Rule shape) slots pass me j (λ _. number) (λ _ after. (at : ℕ) × (after ≡ (told at, me.1))) → Allows (Rule shape) slots pass me i (λ _. code) (λ _ after. (at : ℕ) × (after ≡ (view at, me.1)))
at_caller shape slots pass me i j code number view told i_is code_is view_is allows =
    subst (λ (z : ℕ × ℕ × (ℕ → View)). Allows (Rule shape) slots pass me z.0 (λ _. z.1) (λ _ after. (at : ℕ) × (after ≡ (z.2 at, me.1)))) (λ n. (sym i_is n, sym code_is n, (λ at. sym (view_is at) n))) allows

-- Claim

pub claims_step : (shape : Shape) (slots pass : ℕ) (me : Seated) (e : ℕ) (lock : DomainId) (hold : Hold) → e < shape.elements → IsTrue (is_lock shape lock) → hold_at (lock_number shape lock) me.0.held ≡ Some hold → IsHead e hold.now.free
    → me.0.ticket ≡ Unread → (IsTrue (is_lru shape.kind) → IsUnchangedAround me.0 e)
    → StepsAs shape slots pass me (owner_word shape e) (λ _. 1 + hold.cpu) (goes_by shape (Claim hold.cpu e lock)) (λ _. Claims lock e hold.cpu me)
claims_step shape slots pass me e lock hold real is found head unread around s r wide at_pass _ =
    let k : ℕ = lock_number shape lock in
    let v = me.0 in let w = r.world in let kn = r.knows pass v at_pass in
    let at = held_there shape s r pass v at_pass k hold found in
    let first : IsHead e (w.core.lists k).free = subst (λ (z : Lists). IsHead e z.free) (now_there shape s r pass v at_pass k hold found) head in
    let can : CanClaim shape w.core hold.cpu e lock = record { holds = holds_there shape s r pass v at_pass lock hold found is; real = real; head = first } in
    let stands = stands_where shape.elements e _ _ (r.placed.placed.free k e) (head_is_in e _ first) in
    let was : w.core.owner e ≡ owners.Free = free_is (w.core.owner e) (and_parts (is_free (w.core.owner e)) (lies_at k (r.placed.place e)) stands.stands).0 in
    let came : List Notes = with_came (lock_number v.shape lock) e v.held v.notes in
    let more : (m x : ℕ) → is_among x (came_at m v.held v.notes) ≡ true → is_among x (came_at m v.held (with_changed e (owners.Hand hold.cpu) came)) ≡ true = λ m x before.
    ap (is_among x) (came_changed e (owners.Hand hold.cpu) m v.held came) ∙ came_more (lock_number v.shape lock) e m x v.held v.notes before in
    let holds_cpu : is_among hold.cpu v.cpus ≡ true = cpu_here shape s r pass v at_pass k hold found in
    let here : IsTrue (is_lru shape.kind) → IsHomeHere shape v.cpus v.held (w.core.home e) = λ lru.
    home_here shape s r pass v at_pass k hold found e lru real (lies_is k (r.placed.place e) (and_parts (is_free (w.core.owner e)) (lies_at k (r.placed.place e)) stands.stands).1) in
    owner_step shape s r pass v at_pass lock hold found e (owners.Hand hold.cpu) (with_in_hand e hold.cpu v.hand) (with_changed e (owners.Hand hold.cpu) came) (kept_hashes (with_in_hand e hold.cpu v.hand) v.hashes) me.1 real (subst (IsOwnerOfPass w.pass_of_cpu pass) (sym was) tt) at.mine
    (comes_to_hand is_hand_of shape.cpus pass e hold.cpu w.pass_of_cpu w.core.owner (put w.core.owner e (owners.Hand hold.cpu)) v.hand (λ x. put_else w.core.owner e (owners.Hand hold.cpu) x) kn.hands
    at.mine (λ c. ap (is_hand_of c) was) (λ c. ap (is_hand_of c) (put_here w.core.owner e (owners.Hand hold.cpu)))) (noted_changed shape v.touched e (owners.Hand hold.cpu) v.held came (noted_came shape v.touched (lock_number v.shape lock) e v.held v.notes kn.noted))
    more (marks_changed e (owners.Hand hold.cpu) v.held came ∙ marks_came (lock_number v.shape lock) e v.held v.notes)
    (λ lru. changes_here shape s r pass v at_pass k hold found e (owners.Hand hold.cpu) unread (inl (around lru)) (subst (IsHad shape v (w.core.home e)) (sym was) (here lru)) (inl (here lru)) (holds_cpu, inl (here lru)))
    (kept_changed e (owners.Hand hold.cpu) v.notes came (kept_came (lock_number v.shape lock) e v.held v.notes))
    (Claim hold.cpu e lock) (λ l. with_row lock e (without_free e l))
    (λ now. (
      hashes_kept shape w pass v kn (with_in_hand e hold.cpu v.hand),
      λ lru x d its x_real within in_hand at_home.
          by_bool (eqb e x && eqb hold.cpu d) (λ t. (eqb e x && eqb hold.cpu d) ≡ t → cond t true (is_in_hand_of x d v.hand) ≡ true → IsHashed shape w.core.holder w.log w.hash (kept_hashes (with_in_hand e hold.cpu v.hand) v.hashes) (came_at (lock_number shape its) (with_now k now v.held) (with_changed e (owners.Hand hold.cpu) came)) (lock_number shape its) x d)
          (λ hit _ _.
          let both = both_true _ _ hit in
          let same : e ≡ x = eqb-true e x both.0 in
          let its_k : k ≡ lock_number shape its = lies_home shape w.core.lists w.core.owner w.core.home r.placed.place r.placed.placed lru x its x_real at_home k
          (ap r.placed.place (sym same) ∙ lies_is k (r.placed.place e) (and_parts (is_free (w.core.owner e)) (lies_at k (r.placed.place e)) stands.stands).1) in
          let come : HasCome w.core.holder (came_at (lock_number shape its) (with_now k now v.held) (with_changed e (owners.Hand hold.cpu) came)) (lock_number shape its) x d = record {
            held = ap w.core.holder (sym its_k) ∙ (at.holder_is ∙ ap Some (eqb-true hold.cpu d both.1));
            inside = ap (is_among x) (came_now k (lock_number shape its) now v.held (with_changed e (owners.Hand hold.cpu) came) ∙ came_changed e (owners.Hand hold.cpu) (lock_number shape its) v.held came)
                ∙ ((λ i. is_among (sym same i) (came_at (sym its_k i) v.held (with_came (lock_number (kn.shape_is i) lock) e v.held v.notes))) ∙ came_here shape v.touched k e hold v.held v.notes kn.noted found);
          } in
          record { from = inr (inr come); row = λ _. inr (inr come) })
          (λ _ _ there. hashed_kept shape w pass v kn k now (with_in_hand e hold.cpu v.hand) (with_changed e (owners.Hand hold.cpu) came) more lru x d its x_real within there in_hand at_home) refl in_hand,
    ))
    (λ _ x inside. by_test x e (λ _. IsIn x (rows (w.core.lists k)) ⊎ (is_among x (came_at k v.held (with_changed e (owners.Hand hold.cpu) came)) ≡ true))
    (λ same. inr (ap (is_among x) (came_changed e (owners.Hand hold.cpu) k v.held came) ∙ (λ i. is_among (same i) (came_at k v.held (with_came (lock_number (kn.shape_is i) lock) e v.held v.notes))) ∙ came_here shape v.touched k e hold v.held v.notes kn.noted found))
    (λ other. inl (let same = rows_with_row_other lock x e (without_free e (w.core.lists k)) other in omega (arith, same, inside))))
    can refl
    (λ lru. hashes_claimed shape w.core.holder w.core.lists w.core.owner w.core.home r.placed.place r.placed.placed w.log w.hash (r.hashes lru) lock k e hold.cpu at.holder_is first)

pub claims : (shape : Shape) (slots pass : ℕ) (me : Seated) (e c i code : ℕ) (lock : DomainId) (hold : Hold) (view : ℕ → View) → i ≡ owner_word shape e → code ≡ 1 + c → hold.cpu ≡ c → ((at : ℕ) → view at ≡ views.claimed at lock e c me.0)
    → e < shape.elements → IsTrue (is_lock shape lock) → hold_at (lock_number shape lock) me.0.held ≡ Some hold → IsHead e hold.now.free → me.0.ticket ≡ Unread → (IsTrue (is_lru shape.kind) → IsUnchangedAround me.0 e)
    → Allows (Rule shape) slots pass me i (λ _. code) (λ _ after. (at : ℕ) × (after ≡ (view at, me.1)))
claims shape slots pass me e c i code lock hold view i_is code_is cpu_is view_is real is found head unread around =
    at_caller shape slots pass me i _ code _ view _ i_is (code_is ∙ ap (λ (n : ℕ). 1 + n) (sym cpu_is)) (λ at. view_is at ∙ ap (λ (n : ℕ). views.claimed at lock e n me.0) (sym cpu_is))
    (allows_of shape slots pass me (owner_word shape e) (λ _. 1 + hold.cpu) (goes_by shape (Claim hold.cpu e lock)) (λ _. Claims lock e hold.cpu me) (claims_step shape slots pass me e lock hold real is found head unread around))

-- Settle

-- an element leaves a hand
hashes_left : (shape : Shape) (w : World) (pass : ℕ) (v : View) → PassKnows shape w pass v → (k e cpu : ℕ) (to : Owner) (now : Lists) → AreHashes shape w w.core.home (without_in_hand e cpu v.hand) (kept_hashes (without_in_hand e cpu v.hand) v.hashes) (with_now k now v.held) (with_changed e to v.notes)
hashes_left shape w pass v kn k e cpu to now = (
  hashes_kept shape w pass v kn (without_in_hand e cpu v.hand),
  λ lru x d its x_real within in_hand at_home. hashed_kept shape w pass v kn k now (without_in_hand e cpu v.hand) (with_changed e to v.notes) (more_changed v e to) lru x d its x_real within (was_in_hand e cpu x d v.hand in_hand) in_hand at_home,
)

pub settles_step : (shape : Shape) (slots pass : ℕ) (me : Seated) (e : ℕ) (lock : DomainId) (hold : Hold) → e < shape.elements → IsTrue (is_lock shape lock) → hold_at (lock_number shape lock) me.0.held ≡ Some hold → IsFalse (is_bucket lock)
    → is_among hold.cpu me.0.cpus ≡ true → is_in_hand_of e hold.cpu me.0.hand ≡ true → (IsTrue (is_lru shape.kind) → IsIn e (rows hold.now)) → me.0.ticket ≡ Unread → (IsTrue (is_lru shape.kind) → IsFreeAround me.0 e)
    → StepsAs shape slots pass me (owner_word shape e) (λ _. 0) (goes_by shape (Settle hold.cpu e lock)) (λ _. Settles lock e hold.cpu me)
settles_step shape slots pass me e lock hold real is found has_free_list has in_hand listed unread around s r wide at_pass _ =
    let v = me.0 in let w = r.world in let kn = r.knows pass v at_pass in
    let at = held_there shape s r pass v at_pass (lock_number shape lock) hold found in
    let was : w.core.owner e ≡ owners.Hand hold.cpu = in_hand_is shape w pass v e hold.cpu kn has in_hand in
    let can : CanSettle shape w.core hold.cpu e lock = record {
      holds = holds_there shape s r pass v at_pass lock hold found is;
      has_free_list = has_free_list;
      real = real;
      in_hand = was;
      listed = λ lru. subst (λ (z : Lists). IsIn e (rows z)) (now_there shape s r pass v at_pass (lock_number shape lock) hold found) (listed lru);
    } in
    let here : IsTrue (is_lru shape.kind) → IsHomeHere shape v.cpus v.held (w.core.home e) = λ lru.
    home_here shape s r pass v at_pass (lock_number shape lock) hold found e lru real (lies_on shape w.core.lists w.core.owner w.core.home r.placed.place r.placed.placed (lock_number shape lock) e (subst (λ (d : DomainId). IsFalse (is_bucket d)) (sym (named_by_number shape lock is)) has_free_list) (in_all e (w.core.lists (lock_number shape lock)) (can.listed lru))) in
    owner_step shape s r pass v at_pass lock hold found e owners.Free (without_in_hand e hold.cpu v.hand) (with_changed e owners.Free v.notes) (kept_hashes (without_in_hand e hold.cpu v.hand) v.hashes) me.1 real (subst (IsOwnerOfPass w.pass_of_cpu pass) (sym was) at.mine) tt
    (leaves_hand is_hand_of shape.cpus pass e hold.cpu w.pass_of_cpu w.core.owner (put w.core.owner e owners.Free) v.hand (λ x. put_else w.core.owner e owners.Free x) kn.hands
    (λ c. ap (is_hand_of c) was) (λ c. ap (is_hand_of c) (put_here w.core.owner e owners.Free))) (noted_changed shape v.touched e owners.Free v.held v.notes kn.noted) (more_changed v e owners.Free) (marks_changed e owners.Free v.held v.notes)
    (λ lru. changes_here shape s r pass v at_pass (lock_number shape lock) hold found e owners.Free unread (inr (around lru, (λ free. not_free (sym free ∙ was)))) (subst (IsHad shape v (w.core.home e)) (sym was) has) (inl (here lru)) (here lru))
    (refl, refl)
    (Settle hold.cpu e lock) (λ l. with_free e (without_row e l)) (hashes_left shape w pass v kn (lock_number shape lock) e hold.cpu owners.Free)
    (λ _ x inside. by_test x e (λ _. IsIn x (rows (w.core.lists (lock_number shape lock))) ⊎ (is_among x (came_at (lock_number shape lock) v.held (with_changed e owners.Free v.notes)) ≡ true))
    (λ same.
    let none = rows_without_row_same e (w.core.lists (lock_number shape lock)) ((elements_there shape s r (lock_number shape lock)).rows_once e) in
    let there : IsIn e (rows (without_row e (w.core.lists (lock_number shape lock)))) = subst (λ (z : ℕ). IsIn z (rows (without_row e (w.core.lists (lock_number shape lock))))) same inside in
    absurd (omega (arith, none, there)))
    (λ other. inl (let stays = rows_without_row_other x e (w.core.lists (lock_number shape lock)) other in omega (arith, stays, inside))))
    can refl
    (λ lru. hashes_settled shape w.core.holder w.core.lists w.core.owner w.core.home r.placed.place r.placed.placed w.log w.hash (r.hashes lru) lock (lock_number shape lock) e hold.cpu at.holder_is (subst (λ (d : DomainId). IsFalse (is_bucket d)) (sym (named_by_number shape lock is)) has_free_list) (can.listed lru) ((elements_there shape s r (lock_number shape lock)).rows_once e))

pub settles : (shape : Shape) (slots pass : ℕ) (me : Seated) (e c i code : ℕ) (lock : DomainId) (hold : Hold) (view : ℕ → View) → i ≡ owner_word shape e → code ≡ 0 → hold.cpu ≡ c → ((at : ℕ) → view at ≡ views.settled at lock e c me.0)
    → e < shape.elements → IsTrue (is_lock shape lock) → hold_at (lock_number shape lock) me.0.held ≡ Some hold → IsFalse (is_bucket lock)
    → is_among c me.0.cpus ≡ true → is_in_hand_of e c me.0.hand ≡ true → (IsTrue (is_lru shape.kind) → IsIn e (rows hold.now)) → me.0.ticket ≡ Unread → (IsTrue (is_lru shape.kind) → IsFreeAround me.0 e)
    → Allows (Rule shape) slots pass me i (λ _. code) (λ _ after. (at : ℕ) × (after ≡ (view at, me.1)))
settles shape slots pass me e c i code lock hold view i_is code_is cpu_is view_is real is found has_free_list has in_hand listed unread around =
    at_caller shape slots pass me i _ code 0 view _ i_is code_is (λ at. view_is at ∙ ap (λ (n : ℕ). views.settled at lock e n me.0) (sym cpu_is))
    (allows_of shape slots pass me (owner_word shape e) (λ _. 0) (goes_by shape (Settle hold.cpu e lock)) (λ _. Settles lock e hold.cpu me)
    (settles_step shape slots pass me e lock hold real is found has_free_list (ap (λ (n : ℕ). is_among n me.0.cpus) cpu_is ∙ has) (ap (λ (n : ℕ). is_in_hand_of e n me.0.hand) cpu_is ∙ in_hand) listed unread around))

-- Attach

same_hand : (a b : ℕ) → owners.Hand a ≡ owners.Hand b → a ≡ b
same_hand a b is = cc

-- the home of what a CPU has in hand and doesn't carry is a lock
lock_home : (shape : Shape) (s : State Behind View) (r : Rule shape s) (pass : ℕ) (v : View) → get_elem? s.views pass ≡ some v → (e c : ℕ) → e < shape.elements → is_among c v.cpus ≡ true → r.world.core.owner e ≡ owners.Hand c
    → IsTrue (is_lru shape.kind) → is_in_hand_of e c v.carried ≡ false → IsLockHome (r.world.core.home e)
lock_home shape s r pass v at_pass e c real has was lru free_hand = go (r.placed.place e) refl
  where
    go : (place : ElementPlace) → r.placed.place e ≡ place → IsLockHome (r.world.core.home e)
    go (under_lock k) is =
        subst IsLockHome (sym (r.placed.placed.homes e real ∙ (ap (home_of_place shape) is ∙ ap (λ (b : Bool). cond b (homes.In (lock_named shape k)) homes.Unlisted) lru))) tt
    go (carried x) is =
        let w = r.world in let kn = r.knows pass v at_pass in
        let may : MayLie shape e (w.core.owner e) (carried x) = subst (MayLie shape e (w.core.owner e)) is (r.placed.placed.places e real) in
        let home_is : w.core.home e ≡ homes.Hand c = r.placed.placed.homes e real ∙ (ap (home_of_place shape) is ∙ (ap (λ (b : Bool). cond b (homes.Hand x) homes.Unlisted) lru ∙ ap homes.Hand (same_hand x c (sym may.1 ∙ was)))) in
        let it_is : is_home_of c (w.core.home e) ≡ true = ap (is_home_of c) home_is ∙ by_test c c (λ t. t ≡ true) (λ _. refl) (λ n. absurd (n refl)) in
        let ours : eqb (w.pass_of_cpu c) pass ≡ true = sym (kn.cpus c (kn.within c has)) ∙ has in
        true_false (sym (kn.carried e c (kn.within c has) ∙ (λ i. it_is i && ours i)) ∙ free_hand)

pub attaches_step : (shape : Shape) (slots pass : ℕ) (me : Seated) (e bucket : ℕ) (hold : Hold) → e < shape.elements → bucket < shape.buckets → hold_at (lock_number shape (Bucket bucket)) me.0.held ≡ Some hold
    → is_among hold.cpu me.0.cpus ≡ true → is_in_hand_of e hold.cpu me.0.hand ≡ true
    → (IsTrue (is_lru shape.kind) → is_in_hand_of e hold.cpu me.0.carried ≡ false)
    → (IsTrue (is_lru shape.kind) → (bucket_known e hold.cpu me.0.hashes ≡ Some bucket) × ((k : ℕ) (other : Hold) → hold_at k me.0.held ≡ Some other → k ≡ lock_number shape (Bucket bucket)))
    → me.0.ticket ≡ Unread → (IsTrue (is_lru shape.kind) → IsFreeAround me.0 e)
    → StepsAs shape slots pass me (owner_word shape e) (λ _. 32 + bucket) (goes_by shape (Attach hold.cpu e bucket)) (λ _. Attaches bucket e hold.cpu me)
attaches_step shape slots pass me e bucket hold real there found has in_hand not_carried hashed unread around s r wide at_pass _ =
    let lock : DomainId = Bucket bucket in
    let v = me.0 in let w = r.world in let kn = r.knows pass v at_pass in
    let at = held_there shape s r pass v at_pass (lock_number shape lock) hold found in
    let is : IsTrue (is_lock shape lock) = grind (arith, nat_tests) in
    let was : w.core.owner e ≡ owners.Hand hold.cpu = in_hand_is shape w pass v e hold.cpu kn has in_hand in
    let can : CanAttach shape w.core hold.cpu e bucket =
    record { holds = holds_there shape s r pass v at_pass lock hold found is; real = real; in_hand = was; not_carried = λ lru. lock_home shape s r pass v at_pass e hold.cpu real has was lru (not_carried lru) } in
    let of_bucket : IsTrue (is_lru shape.kind) → bucket_number (w.hash e) shape.buckets ≡ bucket = λ lru.
    let known = bucket_noted e hold.cpu bucket v.hashes (hashed lru).0 in (kn.hashes e hold.cpu known.0 (kn.within hold.cpu has) known.1).bucket_is ∙ known.2 in
    owner_step shape s r pass v at_pass lock hold found e (owners.Bucket bucket) (without_in_hand e hold.cpu v.hand) (with_changed e (owners.Bucket bucket) v.notes) (kept_hashes (without_in_hand e hold.cpu v.hand) v.hashes) me.1 real (subst (IsOwnerOfPass w.pass_of_cpu pass) (sym was) at.mine) tt
    (leaves_hand is_hand_of shape.cpus pass e hold.cpu w.pass_of_cpu w.core.owner (put w.core.owner e (owners.Bucket bucket)) v.hand (λ x. put_else w.core.owner e (owners.Bucket bucket) x) kn.hands
    (λ c. ap (is_hand_of c) was) (λ c. ap (is_hand_of c) (put_here w.core.owner e (owners.Bucket bucket)))) (noted_changed shape v.touched e (owners.Bucket bucket) v.held v.notes kn.noted) (more_changed v e (owners.Bucket bucket)) (marks_changed e (owners.Bucket bucket) v.held v.notes)
    (λ lru. changes_here shape s r pass v at_pass (lock_number shape lock) hold found e (owners.Bucket bucket) unread (inr (around lru, (λ free. not_free (sym free ∙ was)))) (subst (IsHad shape v (w.core.home e)) (sym was) has) (inr (bucket_here v (lock_number shape lock) hold found (w.hash e) shape bucket (of_bucket lru) refl)) (ap is_some found))
    (refl, refl)
    (Attach hold.cpu e bucket) (λ l. with_row lock e l) (hashes_left shape w pass v kn (lock_number shape lock) e hold.cpu (owners.Bucket bucket))
    (λ no_bucket. true_false (sym (ap is_bucket (named_by_number shape lock is)) ∙ no_bucket))
    can refl
    (λ lru. hashes_attached shape w.core.holder w.core.lists w.core.owner w.core.home r.placed.place r.placed.placed w.log w.hash (r.hashes lru) lock (lock_number shape lock) e hold.cpu at.holder_is
    (ap is_bucket (named_by_number shape lock is)) bucket (of_bucket lru) was
    (λ m nb held.
    let only : m ≡ lock_number shape lock = (hashed lru).1 m _ (kn.held m ∙ (ap (λ (z : Option ℕ). hold_of pass w.pass_of_cpu m z (w.log m) (w.core.lists m) (w.lost m)) held ∙ hold_of_mine w.pass_of_cpu pass m hold.cpu (w.log m) (w.core.lists m) (w.lost m) at.mine)) in
    true_false (sym (ap is_bucket (ap (lock_named shape) only ∙ named_by_number shape lock is)) ∙ nb)))

pub attaches : (shape : Shape) (slots pass : ℕ) (me : Seated) (e bucket c i code : ℕ) (hold : Hold) (view : ℕ → View) → i ≡ owner_word shape e → code ≡ 32 + bucket → hold.cpu ≡ c → ((at : ℕ) → view at ≡ views.attached at bucket e c me.0)
    → e < shape.elements → bucket < shape.buckets → hold_at (lock_number shape (Bucket bucket)) me.0.held ≡ Some hold → is_among c me.0.cpus ≡ true → is_in_hand_of e c me.0.hand ≡ true
    → (IsTrue (is_lru shape.kind) → is_in_hand_of e c me.0.carried ≡ false)
    → (IsTrue (is_lru shape.kind) → (bucket_known e c me.0.hashes ≡ Some bucket) × ((k : ℕ) (other : Hold) → hold_at k me.0.held ≡ Some other → k ≡ lock_number shape (Bucket bucket)))
    → me.0.ticket ≡ Unread → (IsTrue (is_lru shape.kind) → IsFreeAround me.0 e)
    → Allows (Rule shape) slots pass me i (λ _. code) (λ _ after. (at : ℕ) × (after ≡ (view at, me.1)))
attaches shape slots pass me e bucket c i code hold view i_is code_is cpu_is view_is real there found has in_hand not_carried hashed unread around =
    at_caller shape slots pass me i _ code _ view _ i_is code_is (λ at. view_is at ∙ ap (λ (n : ℕ). views.attached at bucket e n me.0) (sym cpu_is))
    (allows_of shape slots pass me (owner_word shape e) (λ _. 32 + bucket) (goes_by shape (Attach hold.cpu e bucket)) (λ _. Attaches bucket e hold.cpu me)
    (attaches_step shape slots pass me e bucket hold real there found (ap (λ (n : ℕ). is_among n me.0.cpus) cpu_is ∙ has) (ap (λ (n : ℕ). is_in_hand_of e n me.0.hand) cpu_is ∙ in_hand) (λ lru. ap (λ (n : ℕ). is_in_hand_of e n me.0.carried) cpu_is ∙ not_carried lru) (λ lru. (ap (λ (n : ℕ). bucket_known e n me.0.hashes) cpu_is ∙ (hashed lru).0, (hashed lru).1)) unread around))

-- Detach

pub detaches_step : (shape : Shape) (slots pass : ℕ) (me : Seated) (e bucket : ℕ) (hold : Hold) → bucket < shape.buckets → hold_at (lock_number shape (Bucket bucket)) me.0.held ≡ Some hold → IsIn e hold.now.first
    → me.0.ticket ≡ Unread → (IsTrue (is_lru shape.kind) → IsFreeAround me.0 e)
    → StepsAs shape slots pass me (owner_word shape e) (λ _. 1 + hold.cpu) (goes_by shape (Detach hold.cpu e bucket)) (λ _. Detaches bucket e hold.cpu me)
detaches_step shape slots pass me e bucket hold there found inside unread around s r wide at_pass _ =
    let lock : DomainId = Bucket bucket in
    let v = me.0 in let w = r.world in let kn = r.knows pass v at_pass in
    let at = held_there shape s r pass v at_pass (lock_number shape lock) hold found in
    let bounds = bounds_of_shape shape r.is_shape in
    let can : IsInHeldBucket shape w.core hold.cpu e bucket = (in_held_bucket shape s r pass v e bucket hold at_pass there found inside).0 in
    let was : w.core.owner e ≡ owners.Bucket bucket = was_inside shape w.core r.placed.place bounds r.placed.placed hold.cpu e bucket can in
    let hand : List InHand = with_in_hand e hold.cpu v.hand in
    let new : HashIn = record { element = e; cpu = hold.cpu; bucket = bucket; given = false } in
    let kept : List HashIn = kept_hashes hand v.hashes in
    let notes : List Notes = with_changed e (owners.Hand hold.cpu) v.notes in
    owner_step shape s r pass v at_pass lock hold found e (owners.Hand hold.cpu) (with_in_hand e hold.cpu v.hand) (with_changed e (owners.Hand hold.cpu) v.notes) (cond (is_lru v.shape.kind) (new ∷ kept_hashes (with_in_hand e hold.cpu v.hand) v.hashes) (kept_hashes (with_in_hand e hold.cpu v.hand) v.hashes)) me.1 can.real (subst (IsOwnerOfPass w.pass_of_cpu pass) (sym was) tt) at.mine
    (comes_to_hand is_hand_of shape.cpus pass e hold.cpu w.pass_of_cpu w.core.owner (put w.core.owner e (owners.Hand hold.cpu)) v.hand (λ x. put_else w.core.owner e (owners.Hand hold.cpu) x) kn.hands
    at.mine (λ c. ap (is_hand_of c) was) (λ c. ap (is_hand_of c) (put_here w.core.owner e (owners.Hand hold.cpu)))) (noted_changed shape v.touched e (owners.Hand hold.cpu) v.held v.notes kn.noted) (more_changed v e (owners.Hand hold.cpu)) (marks_changed e (owners.Hand hold.cpu) v.held v.notes)
    (λ lru. let it = bucket_here v (lock_number shape lock) hold found (w.hash e) shape bucket ((r.hashes lru).in_bucket e bucket was) refl in
    changes_here shape s r pass v at_pass (lock_number shape lock) hold found e (owners.Hand hold.cpu) unread (inr (around lru, (λ free. bucket_not_free (sym free ∙ was)))) (subst (IsHad shape v (w.core.home e)) (sym was) (ap is_some found)) (inr it) (cpu_here shape s r pass v at_pass (lock_number shape lock) hold found, inr it))
    (refl, refl)
    (Detach hold.cpu e bucket) (λ l. without_row e l)
    (λ now. by_bool (is_lru shape.kind) (λ t. is_lru shape.kind ≡ t → AreHashes shape w w.core.home hand (cond (is_lru v.shape.kind) (new ∷ kept) kept) (with_now (lock_number shape lock) now v.held) notes)
    (λ lru _. subst (λ (t : Bool). AreHashes shape w w.core.home hand (cond t (new ∷ kept) kept) (with_now (lock_number shape lock) now v.held) notes) (sym (ap (λ z. is_lru z.kind) kn.shape_is ∙ lru)) (
      (λ x d noted within known. by_bool (eqb e x && eqb hold.cpu d) (λ t. (eqb e x && eqb hold.cpu d) ≡ t → cond t (Some new) (hash_known x d kept) ≡ Some noted → IsHashOf shape w.hash hand x d noted.bucket)
          (λ hit _ is. record {
            in_hand = ap (λ (t : Bool). cond t true (is_in_hand_of x d v.hand)) hit;
            bucket_is = ap (λ (y : ℕ). bucket_number (w.hash y) shape.buckets) (sym (eqb-true e x (both_true _ _ hit).0)) ∙ ((r.hashes lru).in_bucket e bucket was ∙ ap (λ (n : HashIn). n.bucket) (some_is is));
          })
          (λ _ _ is. hashes_kept shape w pass v kn hand x d noted within is) refl known),
      (λ _ x d its x_real within in_hand at_home. by_bool (eqb e x && eqb hold.cpu d) (λ t. (eqb e x && eqb hold.cpu d) ≡ t → cond t true (is_in_hand_of x d v.hand) ≡ true → IsHashed shape w.core.holder w.log w.hash (new ∷ kept) (came_at (lock_number shape its) (with_now (lock_number shape lock) now v.held) notes) (lock_number shape its) x d)
          (λ hit _ _. let same : e ≡ x = eqb-true e x (both_true _ _ hit).0 in record {
            from = inr (inl record { noted = new; last = ap (λ (t : Bool). cond t (Some new) (hash_known x d kept)) hit; given_is = refl });
            row = λ _. ⊎_elim (λ (had : HasRow shape w.log w.hash (lock_number shape its) x). inl had) (λ (brought : IsBrought shape w.core.holder w.log w.hash (lock_number shape its) x). inr (inl brought))
                (row_of_bucket shape w.core.holder w.core.lists w.core.owner w.core.home r.placed.place r.placed.placed w.log w.hash (r.hashes lru) lru x its x_real at_home (ap (λ (y : ℕ). is_free (w.core.owner y)) (sym same) ∙ ap is_free was) bucket (ap w.core.owner (sym same) ∙ was));
          })
          (λ miss _ there. hashed_stands shape w.core.holder w.core.holder w.log w.log w.hash w.hash kept (new ∷ kept) (came_at (lock_number shape its) (with_now (lock_number shape lock) now v.held) notes) (came_at (lock_number shape its) (with_now (lock_number shape lock) now v.held) notes) (lock_number shape its) x d
          (λ i on. (on, refl)) (λ on. on) refl (ap (λ (t : Bool). cond t (Some new) (hash_known x d kept)) miss) (λ inside. inside)
          (hashed_kept shape w pass v kn (lock_number shape lock) now hand notes (more_changed v e (owners.Hand hold.cpu)) lru x d its x_real within there in_hand at_home)) refl in_hand),
    ))
    (λ plain _. subst (λ (t : Bool). AreHashes shape w w.core.home hand (cond t (new ∷ kept) kept) (with_now (lock_number shape lock) now v.held) notes) (sym (ap (λ z. is_lru z.kind) kn.shape_is ∙ plain)) (
      hashes_kept shape w pass v kn hand,
      (λ lru. true_false (sym lru ∙ plain)),
    )) refl)
    (λ no_bucket. true_false (sym (ap is_bucket (named_by_number shape lock (let is : IsTrue (is_lock shape lock) = grind (arith, nat_tests) in is))) ∙ no_bucket))
    can refl
    (λ lru. hashes_detached shape w.core.holder w.core.lists w.core.owner w.core.home r.placed.place r.placed.placed w.log w.hash (r.hashes lru) lock (lock_number shape lock) e hold.cpu at.holder_is (ap is_bucket (named_by_number shape lock (let is : IsTrue (is_lock shape lock) = grind (arith, nat_tests) in is))) bucket was)

pub detaches : (shape : Shape) (slots pass : ℕ) (me : Seated) (e bucket c i code : ℕ) (hold : Hold) (view : ℕ → View) → i ≡ owner_word shape e → code ≡ 1 + c → hold.cpu ≡ c → ((at : ℕ) → view at ≡ views.detached at bucket e c me.0)
    → bucket < shape.buckets → hold_at (lock_number shape (Bucket bucket)) me.0.held ≡ Some hold → IsIn e hold.now.first
    → me.0.ticket ≡ Unread → (IsTrue (is_lru shape.kind) → IsFreeAround me.0 e)
    → Allows (Rule shape) slots pass me i (λ _. code) (λ _ after. (at : ℕ) × (after ≡ (view at, me.1)))
detaches shape slots pass me e bucket c i code hold view i_is code_is cpu_is view_is there found inside unread around =
    at_caller shape slots pass me i _ code _ view _ i_is (code_is ∙ ap (λ (n : ℕ). 1 + n) (sym cpu_is)) (λ at. view_is at ∙ ap (λ (n : ℕ). views.detached at bucket e n me.0) (sym cpu_is))
    (allows_of shape slots pass me (owner_word shape e) (λ _. 1 + hold.cpu) (goes_by shape (Detach hold.cpu e bucket)) (λ _. Detaches bucket e hold.cpu me)
    (detaches_step shape slots pass me e bucket hold there found inside unread around))
