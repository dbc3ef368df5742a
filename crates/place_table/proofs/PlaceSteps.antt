-- Elements change places: what lies under locks that CPUs of a pass hold changes, and so may the owners and the homes of
-- elements that no other pass has in hand.
use Rattle.std.proofs.Common.{true, None, ◌≡◌, ℕ, ◌<◌, ◌≤◌, ◌⊎◌, ⊎_elim, eqb, List, length, get_or, set, sym, refl, ap, ◌∙◌, subst, arith, Option, Some, length-set, get_or-set_other, [], ◌∷◌, inl, inr}
use Rattle.std.specs.Prelude.{◌&&◌, IsTrue, IsFalse}
use mathlib.Core.Option.{some}
use lib.ListN.{get_elem?}
use Rattle.atomic_table.specs.Table.{State, keeps, stepped}
use Rattle.atomic_table.proofs.Lists.{at_set}
use Rattle.map_types.specs.declared.attr.Shape.{Shape}
use Rattle.map_types.specs.declared.kind.DomainId.{DomainId}
use Rattle.place_words.specs.declared.home.Home.{Home}
use Rattle.place_words.specs.declared.home.Home.TheVariants as homed
use Rattle.place_words.specs.declared.owner.Owner.{Owner}
use Rattle.place_words.specs.declared.owner.Owner.TheVariants as owned
use Rattle.place_words.specs.Codes.{owner_code, home_code}
use Rattle.map_types.specs.ElementLists.{put, IsIn}
use Rattle.place_words.specs.Histories.{content}
use Rattle.place_words.specs.Locks.{is_lock, lock_count, lock_number, lock_named}
use Rattle.place_words.specs.declared.step.Lists.{Lists}
use Rattle.place_words.specs.State as cores
use Rattle.place_words.specs.State.{rows, is_bucket}
use Rattle.place_words.specs.Places.{Placed}
use Rattle.place_words.specs.Ranks.{Ranked}
use Rattle.place_words.specs.Steps.{Holds}
use Rattle.place_words.proofs.ElementLemmas.{at_put}
use Rattle.place_table.specs.declared.content.Behind.{Behind}
use Rattle.place_table.specs.declared.view.View.{View}
use Rattle.place_table.specs.declared.view.Hold.{Hold}
use Rattle.place_table.specs.declared.view.InHand.{InHand}
use Rattle.place_table.specs.declared.view.HashIn.{HashIn}
use Rattle.place_table.specs.declared.view.Notes.{Notes}
use Rattle.place_table.specs.Views.{hold_at, now_at, with_now, with_places, home_known, hash_known, kept_hashes, kept_readings, touching, is_among, is_in_hand_of, came_at}
use Rattle.place_table.specs.Tickets.{Tickets, NoneLost}
use Rattle.place_table.specs.Owners.{Owners}
use Rattle.place_table.proofs.Nesting.{without_lists}
use Rattle.place_table.proofs.TicketLemmas.{tickets_stay}
use Rattle.place_table.specs.Rules.{World, Rule, PassKnows, HashesRight, AreRowed, AtHome, Ascends, entries, hold, hold_of, is_hand_of, is_home_of, StillHome, IsReading, IsHashOf, IsHashed, AreNoted, logs_of, marks_under}
use Rattle.place_table.specs.Words.{owner_word, home_word, bit_word, ticket_word}
use Rattle.map_types.specs.Kind.{is_lru}
use Rattle.place_table.specs.StoredHashes.{stored_in}
use Rattle.place_table.proofs.StoredHashes.{kept_known}
use Rattle.place_table.proofs.Hands.{now_at_is, hold_at_now, hold_at_else, AreInHands, IsOwnerOfPass, IsHomeOfPass, not_their_owner, not_their_home}
use Rattle.place_table.proofs.Worlds.{true_false, hold_of_mine, IsMineOrFree, hold_of_other, HoldIs, hold_of_is, others, IsAway, lock_still_lost, past_stays, tagged_stays, SameStrands}
use Rattle.place_table.proofs.Readings.{kept_home}
use Rattle.place_table.specs.declared.view.HomeIn.{HomeIn}
use Rattle.place_table.proofs.StepLog.{made, time_more, givers_other, touches_with, lead_with, of_strands_with, strand_with, past_same, other_same}
use Rattle.place_table.specs.declared.view.WordStep.{WordStep}
use Rattle.place_table.proofs.Locks.{there}
use Rattle.place_table.proofs.NotesDone.{word_off, noted_more}
use Rattle.place_table.proofs.Counted.{counted_more, reading_more, homes_more}
use Rattle.place_table.proofs.MarksNoted.{marked_on, on_same}

-- a CPU of the pass holds the lock
pub record IsHeldByPass (w : World) (pass k : ℕ) : Type 0 where
  pub cpu : ℕ
  pub holder_is : w.core.holder k ≡ Some cpu
  pub mine : w.pass_of_cpu cpu ≡ pass

-- these are the locks that a pass holds, where such lists lie under the locks
abbrev pub AreHeld : World → ℕ → (ℕ → Lists) → List Hold → Type 0
AreHeld w pass lists held = (k : ℕ) → hold_at k held ≡ hold_of pass w.pass_of_cpu k (w.core.holder k) (w.log k) (lists k) (w.lost k)

-- a lock that is held, as the pass has it
hold_there : (w : World) (pass k : ℕ) (lists : Lists) (by_pass : IsHeldByPass w pass k) → hold_of pass w.pass_of_cpu k (w.core.holder k) (w.log k) lists (w.lost k) ≡ Some (hold k by_pass.cpu (w.log k) lists (w.lost k))
hold_there w pass k lists by_pass =
    ap (λ (z : Option ℕ). hold_of pass w.pass_of_cpu k z (w.log k) lists (w.lost k)) by_pass.holder_is ∙ hold_of_mine w.pass_of_cpu pass k by_pass.cpu (w.log k) lists (w.lost k) by_pass.mine

-- what the pass knows to lie under a lock does
pub now_is : (w : World) (pass k : ℕ) (lists : ℕ → Lists) (held : List Hold) → AreHeld w pass lists held → IsHeldByPass w pass k → now_at k held ≡ lists k
now_is w pass k lists held are by_pass = now_at_is k held (hold k by_pass.cpu (w.log k) (lists k) (w.lost k)) (are k ∙ hold_there w pass k (lists k) by_pass)

-- the lists under one lock change
pub held_moved : (w : World) (pass k : ℕ) (lists : ℕ → Lists) (held : List Hold) (now : Lists) → AreHeld w pass lists held → IsHeldByPass w pass k → AreHeld w pass (put lists k now) (with_now k now held)
held_moved w pass k lists held now are by_pass m =
    let h : Hold = hold k by_pass.cpu (w.log k) (lists k) (w.lost k) in
    at_put lists k now (λ i l. hold_at i (with_now k now held) ≡ hold_of pass w.pass_of_cpu i (w.core.holder i) (w.log i) l (w.lost i)) m
    (hold_at_now k now held h (are k ∙ hold_there w pass k (lists k) by_pass) ∙ sym (hold_there w pass k now by_pass))
    (λ other. hold_at_else k m now held other ∙ are m)

-- the core, with other places
abbrev pub core_moved : World → (ℕ → Lists) → (ℕ → Owner) → (ℕ → Home) → cores.State
core_moved w lists owner home = record { holder = w.core.holder; lists = lists; owner = owner; home = home; bit = w.core.bit }

-- these are the hashes of what is in hand, where these homes, hands, holds and notes are
abbrev pub AreHashes : Shape → World → (ℕ → Home) → List InHand → List HashIn → List Hold → List Notes → Type 0
AreHashes shape w home hand hashes held notes =
    ((e c : ℕ) (noted : HashIn) → c < shape.cpus → hash_known e c hashes ≡ Some noted → IsHashOf shape w.hash hand e c noted.bucket)
    × (IsTrue (is_lru shape.kind) → (e c : ℕ) (lock : DomainId) → e < shape.elements → c < shape.cpus → is_in_hand_of e c hand ≡ true → home e ≡ homed.In lock → IsHashed shape w.core.holder w.log w.hash hashes (came_at (lock_number shape lock) held notes) (lock_number shape lock) e c)

-- What a step shows that changes places, and what the pass knows then.
pub record MovesPlaces (shape : Shape) (w : World) (pass : ℕ) (lists : ℕ → Lists) (owner : ℕ → Owner) (home : ℕ → Home) (held : List Hold) (hand carried : List InHand) (readings : List HomeIn) (notes : List Notes) (noted : List HashIn) : Type 0 where
  pub under : (k : ℕ) → (lists k ≡ w.core.lists k) ⊎ IsHeldByPass w pass k
  pub owners : (e : ℕ) → (owner e ≡ w.core.owner e) ⊎ (IsOwnerOfPass w.pass_of_cpu pass (w.core.owner e) × IsOwnerOfPass w.pass_of_cpu pass (owner e))
  pub homes : (e : ℕ) → (home e ≡ w.core.home e) ⊎ (IsHomeOfPass w.pass_of_cpu pass (w.core.home e) × IsHomeOfPass w.pass_of_cpu pass (home e))
  pub are_held : AreHeld w pass lists held
  pub ascends : Ascends shape held
  pub in_hands : AreInHands is_hand_of shape.cpus pass w.pass_of_cpu owner hand
  pub are_carried : AreInHands is_home_of shape.cpus pass w.pass_of_cpu home carried
  pub placed : Placed shape (core_moved w lists owner home)
  pub ranked : Ranked shape (core_moved w lists owner home)
  pub hashes : IsTrue (is_lru shape.kind) → HashesRight shape w.core.holder lists owner w.log w.hash
  pub are_read : (e c : ℕ) (read : HomeIn) → c < shape.cpus → home_known e c readings ≡ Some read → IsReading shape w.core.holder w.log home w.touches hand e c read
  pub are_hashes : AreHashes shape w home hand noted held notes
  pub are_rowed : IsTrue (is_lru shape.kind) → AreRowed shape w.hash held notes
  -- and what others have in hand, and what they read of it
  pub at_home : (e c : ℕ) (lock : DomainId) → e < shape.elements → w.core.owner e ≡ owned.Hand c → ¬ (w.pass_of_cpu c ≡ pass) → home e ≡ homed.In lock → (w.core.home e ≡ homed.In lock) ⊎ IsAway shape w.core.holder w.core.holder (w.core.home e) c lock
  pub still : (e c n : ℕ) (read : Home) → w.core.owner e ≡ owned.Hand c → ¬ (w.pass_of_cpu c ≡ pass) → StillHome shape w.core.holder w.log n e (w.core.home e) read → StillHome shape w.core.holder w.log n e (home e) read

module _ (shape : Shape) (s : State Behind View) (r : Rule shape s) (pass : ℕ) (v : View) (at_pass : get_elem? s.views pass ≡ some v) (lists : ℕ → Lists) (owner : ℕ → Owner) (home : ℕ → Home) where
  moved_world : World → WordStep → World
  moved_world w x = record {
    core = core_moved w lists owner home;
    log = w.log;
    lost = w.lost;
    pass_of_cpu = w.pass_of_cpu;
    pass_of_strand = w.pass_of_strand;
    cpus_of_strand = w.cpus_of_strand;
    current = w.current;
    past = w.past;
    next = w.next;
    hash = w.hash;
    touches = touches_with w pass x;
  }

  -- the word i becomes n, by a CPU of the pass
  pub place_rule : (i n : ℕ) (c : ℕ) (mine : is_among c v.cpus ≡ true) (held : List Hold) (hand carried : List InHand) (readings : List HomeIn) (notes : List Notes) (hashes : List HashIn) (cs : List (ℕ × Behind)) → lock_count shape ≤ i → i < bit_word shape 0
      → ((e : ℕ) → e < shape.elements → get_or (set s.words i n) (owner_word shape e) 0 ≡ owner_code (owner e))
      → ((e : ℕ) → e < shape.elements → get_or (set s.words i n) (home_word shape e) 0 ≡ home_code (home e))
      → AreNoted shape v.touched held notes → without_lists held ≡ without_lists v.held → marks_under held notes ≡ marks_under v.held v.notes
      → (IsTrue (is_lru shape.kind) → NoneLost shape r.world.lost → Owners shape (get_or s.words (ticket_word shape) 0) owner home r.world.hash (logs_of r.world) (set s.views pass (record (with_places held hand carried readings notes (touching (made r.world) i None n v) v) { hashes = hashes })))
      → MovesPlaces shape r.world pass lists owner home held hand carried readings notes hashes
      → (after : Rule shape (stepped s i n pass cs (record (with_places held hand carried readings notes (touching (made r.world) i None n v) v) { hashes = hashes }) keeps)) × (after.world.core ≡ core_moved r.world lists owner home)
  unfolding moved_world
  place_rule i n c mine held hand carried readings notes hashes cs above below owner_words home_words are_noted same_holds same_marks owned moves =
      let w = r.world in
      let x : WordStep = record { at = made w; word = i; seen = None; left = n } in
      let w' : World = moved_world w x in
      let kn = r.knows pass v at_pass in
      let nv : View = record (with_places held hand carried readings notes (touching (made w) i None n v) v) { hashes = hashes } in
      let same : SameStrands w w' = record { pass_of_strand = λ _. refl; cpus_of_strand = λ _. refl; next = refl; current = λ _. refl; past = λ _. refl; pass_of_cpu = λ _. refl; still = λ _ z. z } in (
        record {
          world = w';
          is_shape = r.is_shape;
          words = length-set s.words i n ∙ r.words;
          slots = r.slots;
          lock_words = λ k real. get_or-set_other s.words i k n 0 (λ y. omega arith) ∙ r.lock_words k real;
          owner_words = owner_words;
          home_words = home_words;
          bit_words = λ e real. get_or-set_other s.words i (bit_word shape e) n 0 (λ y. omega arith) ∙ r.bit_words e real;
          placed = moves.placed;
          ranked = moves.ranked;
          hashes = moves.hashes;
          legal = r.legal;
          real = r.real;
          unmarked = λ plain y is_set. marked_on s.views pass v nv at_pass (on_same (marks_under v.held v.notes) (marks_under held notes) same_marks) y (r.unmarked plain y is_set);
          homes = λ k real there. ⊎_elim
              (λ (stays : lists k ≡ w.core.lists k). subst (λ (l : Lists). AtHome shape k (w.core.holder k) (entries (w.log k)) l (w.lost k) (get_elem? s.homes k)) (sym stays) (r.homes k real there))
              (λ (by_pass : IsHeldByPass w pass k). subst (λ (z : Option ℕ). AtHome shape k z (entries (w.log k)) (w.core.lists k) (w.lost k) (get_elem? s.homes k) → AtHome shape k z (entries (w.log k)) (lists k) (w.lost k) (get_elem? s.homes k)) (sym by_pass.holder_is) (λ z. z) (r.homes k real there))
              (moves.under k);
          seated = λ c less. subst (λ (z : ℕ). w.pass_of_cpu c < z) (sym (length-set s.views pass nv)) (r.seated c less);
          tagged = λ k. tagged_stays w w' (length s.views) (length (set s.views pass nv)) (w.log k) (sym (length-set s.views pass nv)) same (r.tagged k);
          in_time = time_more w.touches (w.current pass, x) r.in_time refl;
          gave_back = λ k real. givers_other k w.touches (w.current pass, x) (λ at _. omega arith) ∙ r.gave_back k real;
          lead = lead_with shape s r (w.current pass) x (omega (arith, r.words, below)) tt;
          tickets = subst (λ (z : ℕ). Tickets shape z (logs_of w) w.lost w.pass_of_cpu (set s.views pass nv)) (sym (get_or-set_other s.words i (ticket_word shape) n 0 (λ y. omega arith)))
              (tickets_stay shape (get_or s.words (ticket_word shape) 0) (logs_of w) w.lost w.pass_of_cpu s.views pass v nv at_pass record { reached = refl; refused = refl; steps = refl; ended = refl; ticket = inl (refl, same_holds) } r.tickets);
          owners = λ lru none. subst (λ (z : ℕ). Owners shape z owner home w.hash (logs_of w) (set s.views pass nv)) (sym (get_or-set_other s.words i (ticket_word shape) n 0 (λ y. omega arith))) (owned lru none);
          of_strands = of_strands_with shape w pass v kn x w' (length s.views) (length (set s.views pass nv)) (there s.views pass v at_pass) (sym (length-set s.views pass nv)) same r.of_strands;
          knows = λ j u f. ⊎_elim
              (λ t. subst (λ (z : ℕ × View). PassKnows shape w' z.0 z.1) (λ i. (sym t.0 i, t.1 i)) record {
                shape_is = kn.shape_is;
                cpus = kn.cpus;
                within = kn.within;
                held = moves.are_held;
                ascends = moves.ascends;
                hands = moves.in_hands;
                carried = moves.are_carried;
                hashes = moves.are_hashes.0;
                hashed = moves.are_hashes.1;
                rowed = moves.are_rowed;
                homes_read = homes_more shape w.touches (w.current pass, x) v.homes_read kn.homes_read;
                readings = λ e d read within found. reading_more shape w.core.holder w.log home w.touches (w.current pass, x) hand e d read (moves.are_read e d read within found);
                known = kn.known;
                bits = kn.bits;
                only = kn.only;
                losses = λ k among. lock_still_lost shape w w' k (λ lo. lo) (kn.losses k among);
                noted = noted_more shape v.touched (x ∷ []) held notes are_noted (word_off shape v.touched x held notes are_noted above);
                strand = strand_with shape w pass v kn x w' same (λ _. refl) (λ _ z. z) refl;
                past = past_stays shape w w' pass (w.past pass) v.ended same (λ _ _ _ _. refl) (λ _ z. z) (λ t among _. past_same shape w pass v kn x t among) kn.past;
                apart = kn.apart;
                idle = λ empty. true_false (sym mine ∙ ap (is_among c) empty);
              })
              (λ t. let ku = r.knows j u t.1 in others shape w w' j u same ku
              (λ k. ⊎_elim
              (λ (stays : lists k ≡ w.core.lists k). ap (λ (l : Lists). hold_of j w.pass_of_cpu k (w.core.holder k) (w.log k) l (w.lost k)) stays)
              (λ (by_pass : IsHeldByPass w pass k).
              let mine : IsMineOrFree w.pass_of_cpu pass (w.core.holder k) = subst (IsMineOrFree w.pass_of_cpu pass) (sym by_pass.holder_is) by_pass.mine in
              hold_of_other w.pass_of_cpu pass j k (w.core.holder k) (w.log k) (lists k) (w.lost k) mine t.0 ∙ sym (hold_of_other w.pass_of_cpu pass j k (w.core.holder k) (w.log k) (w.core.lists k) (w.lost k) mine t.0))
              (moves.under k))
              (λ e c _. ⊎_elim
              (λ (stays : owner e ≡ w.core.owner e). ap (λ (o : Owner). is_hand_of c o && eqb (w.pass_of_cpu c) j) stays)
              (λ (ours : IsOwnerOfPass w.pass_of_cpu pass (w.core.owner e) × IsOwnerOfPass w.pass_of_cpu pass (owner e)). not_their_owner w.pass_of_cpu pass j c (owner e) ours.1 t.0 ∙ sym (not_their_owner w.pass_of_cpu pass j c (w.core.owner e) ours.0 t.0))
              (moves.owners e))
              (λ e c _. ⊎_elim
              (λ (stays : home e ≡ w.core.home e). ap (λ (h : Home). is_home_of c h && eqb (w.pass_of_cpu c) j) stays)
              (λ (ours : IsHomeOfPass w.pass_of_cpu pass (w.core.home e) × IsHomeOfPass w.pass_of_cpu pass (home e)). not_their_home w.pass_of_cpu pass j c (home e) ours.1 t.0 ∙ sym (not_their_home w.pass_of_cpu pass j c (w.core.home e) ours.0 t.0))
              (moves.homes e))
              (λ _ _ _. refl)
              (λ _ z. z)
              ku.known
              ku.bits
              (λ _ _ _ _. refl)
              (λ e c lock e_real in_hand theirs at. moves.at_home e c lock e_real in_hand (λ ours. t.0 (sym theirs ∙ ours)) at)
              (λ _ _ _ _ _ _. refl)
              (λ tag own. other_same shape w pass v kn x j tag t.0 own)
              (λ read. counted_more shape w.touches (w.current pass, x) read.at read.turns read.home)
              (λ e c read _ in_hand theirs _ still. moves.still e c read.turns read.home in_hand (λ ours. t.0 (sym theirs ∙ ours)) still))
              (at_set s.views pass j nv u f);
        },
        refl,
      )

-- readings of what is still in hand, where no home changes
pub readings_kept : (shape : Shape) (w : World) (pass : ℕ) (v : View) (kn : PassKnows shape w pass v) (hand : List InHand) → (e c : ℕ) (read : HomeIn) → c < shape.cpus → home_known e c (kept_readings hand v.readings) ≡ Some read → IsReading shape w.core.holder w.log w.core.home w.touches hand e c read
readings_kept shape w pass v kn hand e c read within found =
    let k = kept_home e c read hand v.readings found in let was = kn.readings e c read within k.0 in record { real = was.real; in_hand = k.1; counted = was.counted; still = was.still }

-- hashes of what is still in hand
pub hashes_kept : (shape : Shape) (w : World) (pass : ℕ) (v : View) (kn : PassKnows shape w pass v) (hand : List InHand) → (e c : ℕ) (noted : HashIn) → c < shape.cpus → hash_known e c (kept_hashes hand v.hashes) ≡ Some noted → IsHashOf shape w.hash hand e c noted.bucket
hashes_kept shape w pass v kn hand e c noted within found =
    let k = kept_known e c noted hand v.hashes found in record { in_hand = k.1; bucket_is = (kn.hashes e c noted within k.0).bucket_is }

-- what is listed under the locks that are held has its row or came, where it was listed there before or came now
pub rowed_moved : (shape : Shape) (w : World) (pass : ℕ) (v : View) → PassKnows shape w pass v → IsTrue (is_lru shape.kind) → (lists : ℕ → Lists) (held : List Hold) (notes : List Notes) → AreHeld w pass lists held
    → ((m e : ℕ) → is_among e (came_at m v.held v.notes) ≡ true → is_among e (came_at m held notes) ≡ true)
    → ((m e : ℕ) → IsHeldByPass w pass m → IsFalse (is_bucket (lock_named shape m)) → IsIn e (rows (lists m)) → IsIn e (rows (w.core.lists m)) ⊎ (is_among e (came_at m held notes) ≡ true))
    → AreRowed shape w.hash held notes
rowed_moved shape w pass v kn lru lists held notes are more come k e found_hold found no_bucket inside =
    let at = hold_of_is w.pass_of_cpu pass k (w.core.holder k) (w.log k) (lists k) (w.lost k) found_hold (sym (are k) ∙ found) in
    let by_pass : IsHeldByPass w pass k = record { cpu = found_hold.cpu; holder_is = at.holder_is; mine = at.mine } in
    let there : IsIn e (rows (lists k)) = subst (λ (z : Hold). IsIn e (rows z.now)) at.hold_is inside in
    let before : hold_at k v.held ≡ Some (hold k found_hold.cpu (w.log k) (w.core.lists k) (w.lost k)) = kn.held k ∙ hold_there w pass k (w.core.lists k) by_pass in
    ⊎_elim
    (λ (listed : IsIn e (rows (w.core.lists k))). ⊎_elim
    (λ (had : stored_in (content shape (lock_named shape k) (entries (w.log k))) e ≡ Some (w.hash e)). inl (ap (λ (z : Hold). stored_in (content shape (lock_named shape k) z.log) e) at.hold_is ∙ had))
    (λ (was : is_among e (came_at k v.held v.notes) ≡ true). inr (more k e was))
    (kn.rowed lru k e (hold k found_hold.cpu (w.log k) (w.core.lists k) (w.lost k)) before no_bucket listed))
    (λ (now : is_among e (came_at k held notes) ≡ true). inr now)
    (come k e by_pass no_bucket there)

-- a lock that the pass knows to be held
module _ (shape : Shape) (s : State Behind View) (r : Rule shape s) (pass : ℕ) (v : View) (at_pass : get_elem? s.views pass ≡ some v) (k : ℕ) (h : Hold) (found : hold_at k v.held ≡ Some h) where
  pub held_there : HoldIs r.world.pass_of_cpu pass k (r.world.core.holder k) (r.world.log k) (r.world.core.lists k) (r.world.lost k) h
  held_there =
      let w = r.world in let kn = r.knows pass v at_pass in
      hold_of_is w.pass_of_cpu pass k (w.core.holder k) (w.log k) (w.core.lists k) (w.lost k) h (sym (kn.held k) ∙ found)

  pub by_pass_there : IsHeldByPass r.world pass k
  by_pass_there = record { cpu = h.cpu; holder_is = held_there.holder_is; mine = held_there.mine }

  -- what the pass knows to lie there does
  pub now_there : h.now ≡ r.world.core.lists k
  now_there = ap (λ (z : Hold). z.now) held_there.hold_is

pub holds_there : (shape : Shape) (s : State Behind View) (r : Rule shape s) (pass : ℕ) (v : View) (at_pass : get_elem? s.views pass ≡ some v) (lock : DomainId) (h : Hold) → hold_at (lock_number shape lock) v.held ≡ Some h
    → IsTrue (is_lock shape lock) → Holds shape r.world.core h.cpu lock
holds_there shape s r pass v at_pass lock h found is =
    let at = held_there shape s r pass v at_pass (lock_number shape lock) h found in
    record { is_cpu = r.ranked.within h.cpu (lock_number shape lock) at.holder_is; is_lock = is; held = at.holder_is }
