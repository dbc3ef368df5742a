-- The step by which a lock is taken, with its slot.
use Rattle.std.proofs.Common.{◌≡◌, ℕ, zero, suc, ◌+◌, ◌<◌, ◌≤◌, ◌⊎◌, inl, inr, ⊎_elim, eqb, cond, Bool, true, false, List, [], ◌∷◌, length, get_or, set, sym, refl, ap, ◌∙◌, subst, arith, Option, Some, None, length-set, get_or-set_other, get_or-set_same}
use Rattle.std.specs.Prelude.{◌&&◌, IsTrue, IsFalse, nat_lt}
use Rattle.std.proofs.lemmas.Bool.{ltb-true}
use mathlib.Core.Option.{some, none, some-ne-none}
use mathlib.Core.Option as maybe
use lib.ListN.{get_elem?}
use prog.Atomic.{either}
use Rattle.atomic_table.specs.Table.{State, Allows, Act, Valid, keeps, takes, stepped, carried_after, step}
use Rattle.atomic_table.proofs.Lists.{at_set, set_again, set_here, set_else, exchanged}
use Rattle.map_types.specs.declared.attr.Shape.{Shape}
use Rattle.map_types.specs.declared.kind.DomainId.{DomainId}
use Rattle.map_types.specs.declared.kind.DomainId.TheVariants.{Local, Global, CpuLru, Bucket, Freelist}
use Rattle.map_types.proofs.CreationLemmas.{bounds_of_shape}
use Rattle.map_types.proofs.RowLemmas.{by_test}
use Rattle.place_words.specs.declared.history.Entry.{Entry}
use Rattle.place_words.specs.declared.home.Home.{Home}
use Rattle.place_words.specs.declared.home.Home.TheVariants as homes
use Rattle.map_types.specs.ElementLists.{put, one, times, IsIn}
use Rattle.place_words.specs.Histories.{content, IsLegal}
use Rattle.place_words.specs.Locks.{is_lock, lock_named, lock_number, lock_count, rank_of}
use Rattle.place_words.specs.Takings.{set_of}
use Rattle.place_words.proofs.LockLemmas.{named_by_number, number_of_named, number_within}
use Rattle.place_words.specs.declared.step.Lists.{Lists}
use Rattle.place_words.specs.declared.step.Step.TheVariants.{Take}
use Rattle.place_words.specs.declared.owner.Owner.{Owner}
use Rattle.place_words.specs.declared.owner.Owner.TheVariants as owners
use Rattle.place_words.specs.Openings.{is_free}
use Rattle.place_words.specs.Places.{lies_at, has_row}
use Rattle.map_types.specs.Kind.{is_lru}
use Rattle.place_words.specs.State as cores
use Rattle.place_words.specs.State.{rows, is_bucket, HasOnlyItsLists, HasCursorInside}
use Rattle.place_words.specs.Steps.{CanTake, taken}
use Rattle.place_words.proofs.ElementLemmas.{at_put}
use Rattle.place_words.proofs.StepLaws.{step_keeps_places, step_keeps_ranks}
use Rattle.place_table.specs.declared.content.Behind.{Behind}
use Rattle.place_table.specs.declared.view.View.{View}
use Rattle.place_table.specs.declared.view.Hold.{Hold}
use Rattle.place_table.specs.Contents.{lists_of}
use Rattle.place_table.specs.Laws.{StepsAs, goes_if, goes_by}
use Rattle.place_table.specs.StoredHashes.{stored_in}
use Rattle.place_table.specs.Views.{is_among, hold_at, holding, home_then, came_at, no_notes}
use Rattle.place_table.specs.Nested.{MayTake}
use Rattle.place_table.specs.Rules.{World, Rule, PassKnows, AtHome, IsSlotAfter, entries, hold, hold_of, IsAboveAll, logs_of, AreTagged, IsFresh, AreOfStrands, StillHome, IsCounted, HasRow, IsBrought, LeadTo, IsMarked}
use Rattle.place_table.specs.Words.{lock_code, owner_word, home_word, bit_word, ticket_word, opening_words}
use Rattle.place_table.specs.Plays.{Seated, Tries, AreElements, IsApartFromHands}
use Rattle.place_table.proofs.StoredHashes.{lies_on_one}
use Rattle.place_table.proofs.Came.{came_other}
use Rattle.place_table.proofs.HashSteps.{hashed_taken}
use Rattle.place_table.proofs.Worlds.{by_bool, true_false, some_is, none_some, hold_of_mine, hold_of_other, hold_of_is, hold_at_first, hold_at_other, above_each, has_mine, in_hand_is, lock_still_lost, others, past_stays, tagged_stays, SameStrands, hash_stands, hand_is, both_true}
use Rattle.place_table.proofs.Readings.{still_took, then_known, then_still, at_home_then, listed_in_set, flushed_off}
use Rattle.place_table.specs.Flushes.{flushed_since}
use Rattle.place_words.specs.Wholeness.{all_of}
use Rattle.place_table.specs.declared.view.WordStep.{WordStep}
use Rattle.place_table.proofs.StepLog.{made, time_more, givers_other, touches_with, lead_with, of_strands_with, strand_with, past_same, other_same}
use Rattle.place_table.proofs.NotesDone.{none_off}
use Rattle.place_table.specs.declared.view.Ticket.TheVariants.{Unread}
use Rattle.place_table.specs.Tickets.{Tickets}
use Rattle.place_table.specs.Owners.{Owners}
use Rattle.place_table.proofs.OwnersOrder.{owners_taken}
use Rattle.place_table.proofs.Nesting.{holds_taken, keep_taken, above_taken, outside_taken, none_inside}
use Rattle.place_table.proofs.TicketLemmas.{tickets_stay}
use Rattle.place_table.specs.declared.view.HomeIn.{HomeIn}
use Rattle.place_table.proofs.Counted.{counted_more, counted_then, homes_more}
use Rattle.place_table.proofs.MarksNoted.{marked_on}

-- a step that is told as one of the core is one that the rule allows
pub allows_of : (shape : Shape) (slots pass : ℕ) (me : Seated) (i : ℕ) (f : ℕ → ℕ) (goes : ℕ → cores.State → cores.State → Type 0) (told_then : ℕ → Seated → Type 0)
    → StepsAs shape slots pass me i f goes told_then → Allows (Rule shape) slots pass me i f told_then
allows_of shape slots pass me i f goes told_then steps s r wide at small =
    let x = steps s r wide at small in (x.0, x.1, x.2, x.3.0, x.4)

-- a seat that is there
pub there : {A : Type 0} (l : List A) (i : ℕ) (a : A) → get_elem? l i ≡ some a → i < length l
there [] i a e = absurd (some-ne-none a (sym e))
there (x ∷ xs) zero a e = omega arith
there (x ∷ xs) (suc i) a e = let h = there xs i a e in omega arith

pub seat_at : {A : Type 0} (l : List A) (i : ℕ) → i < length l → (a : A) × (get_elem? l i ≡ some a)
seat_at [] i h = absurd (omega arith)
seat_at (x ∷ xs) zero h = (x, refl)
seat_at (x ∷ xs) (suc i) h = seat_at xs i (omega arith)

pub found_at : (l : List ℕ) (i : ℕ) → i < length l → get_elem? l i ≡ some (get_or l i 0)
found_at [] i h = absurd (omega arith)
found_at (x ∷ xs) zero h = refl
found_at (x ∷ xs) (suc i) h = found_at xs i (omega arith)

-- the rule holds of the same words and views, of the same world
pub same_rule : (shape : Shape) (s : State Behind View) (r : Rule shape s) (words : List ℕ) (views : List View) → words ≡ s.words → views ≡ s.views → Rule shape record { words = words; homes = s.homes; views = views }
same_rule shape s r words views e f = record {
  world = r.world;
  is_shape = r.is_shape;
  words = ap length e ∙ r.words;
  slots = r.slots;
  lock_words = λ k below. ap (λ (l : List ℕ). get_or l k 0) e ∙ r.lock_words k below;
  owner_words = λ x below. ap (λ (l : List ℕ). get_or l (owner_word shape x) 0) e ∙ r.owner_words x below;
  home_words = λ x below. ap (λ (l : List ℕ). get_or l (home_word shape x) 0) e ∙ r.home_words x below;
  bit_words = λ x below. ap (λ (l : List ℕ). get_or l (bit_word shape x) 0) e ∙ r.bit_words x below;
  placed = r.placed;
  ranked = r.ranked;
  hashes = r.hashes;
  legal = r.legal;
  real = r.real;
  unmarked = λ plain y is_set. subst (λ (l : List View). IsMarked l y) (sym f) (r.unmarked plain y is_set);
  homes = r.homes;
  seated = λ c less. subst (λ (l : List View). r.world.pass_of_cpu c < length l) (sym f) (r.seated c less);
  tagged = λ k. subst (λ (l : List View). AreTagged r.world (length l) (r.world.log k)) (sym f) (r.tagged k);
  lead = λ i below. subst (λ (l : List ℕ). LeadTo i (get_or (opening_words shape) i 0) r.world.touches (get_or l i 0)) (sym e) (r.lead i below);
  in_time = r.in_time;
  of_strands = subst (λ (l : List View). AreOfStrands r.world (length l) r.world.touches) (sym f) r.of_strands;
  gave_back = r.gave_back;
  tickets = subst (λ (z : List ℕ × List View). Tickets shape (get_or z.0 (ticket_word shape) 0) (logs_of r.world) r.world.lost r.world.pass_of_cpu z.1) (λ i. (sym e i, sym f i)) r.tickets;
  owners = λ lru none. subst (λ (z : List ℕ × List View). Owners shape (get_or z.0 (ticket_word shape) 0) r.world.core.owner r.world.core.home r.world.hash (logs_of r.world) z.1) (λ i. (sym e i, sym f i)) (r.owners lru none);
  knows = λ j u at. r.knows j u (sym (ap (λ (l : List View). get_elem? l j) f) ∙ at);
}

-- what lies under a lock that nobody holds
pub free_home : (shape : Shape) (k : ℕ) (holder : Option ℕ) (log : List Entry) (lists : Lists) (lost : Bool) (x : maybe.Option (maybe.Option Behind)) → holder ≡ None → AtHome shape k holder log lists lost x
    → ((b : Behind) × (x ≡ some (some b)) × IsSlotAfter shape k log lost b) × (lists ≡ lists_of (content shape (lock_named shape k) log))
free_home shape k holder log lists lost x e p = subst (λ (z : Option ℕ). AtHome shape k z log lists lost x) e p

pub code_of_none : (holder : Option ℕ) → lock_code holder ≡ 0 → holder ≡ None
code_of_none None e = refl
code_of_none (Some c) e = absurd (omega arith)

pub at_most_one : {n : ℕ} (b : Bool) → n ≡ one b → n ≤ 1
at_most_one true e = omega (arith, e)
at_most_one false e = omega (arith, e)

pub below_by : {n : ℕ} (a b : ℕ) (c : Bool) → n ≡ one (nat_lt a b && c) → 0 < n → a < b
below_by {n} a b c e some_there = by_bool (nat_lt a b) (λ t. n ≡ one (t && c) → a < b)
    (λ is _. ltb-true a b is) (λ _ f. absurd (omega (arith, f))) e

-- the elements that lie under a lock are the map's, each once
pub elements_there : (shape : Shape) (s : State Behind View) (r : Rule shape s) (k : ℕ) → AreElements shape (r.world.core.lists k)
elements_there shape s r k = record {
  free_once = λ e. at_most_one _ (r.placed.placed.free k e);
  rows_once = λ e. at_most_one _ (r.placed.placed.rows k e);
  free_real = λ e some_there. below_by e shape.elements _ (r.placed.placed.free k e) some_there;
  rows_real = λ e some_there. below_by e shape.elements _ (r.placed.placed.rows k e) some_there;
}

-- and what is in the hand of a CPU of a pass is on no free list and in no bucket
pub apart_there : (shape : Shape) (s : State Behind View) (r : Rule shape s) (pass : ℕ) (v : View) → get_elem? s.views pass ≡ some v → (k : ℕ) → IsApartFromHands v (lock_named shape k) (r.world.core.lists k)
apart_there shape s r pass v at_pass k e c has in_hand =
    let w = r.world in let kn = r.knows pass v at_pass in
    let owner : w.core.owner e ≡ owners.Hand c = in_hand_is shape w pass v e c kn has in_hand in (
      r.placed.placed.free k e ∙ (ap (λ (o : Owner). one (nat_lt e shape.elements && (is_free o && lies_at k (r.placed.place e)))) owner ∙ none_and (nat_lt e shape.elements)),
      λ apart. r.placed.placed.rows k e ∙ ((λ i. one (nat_lt e shape.elements && has_row (is_lru shape.kind) (lock_named shape k) (owner i) (lies_at k (r.placed.place e))))
          ∙ (ap (λ (b : Bool). one (nat_lt e shape.elements && b)) (⊎_elim
          (λ (plain : is_lru v.shape.kind ≡ false). ap (λ (b : Bool). has_row b (lock_named shape k) (owners.Hand c) (lies_at k (r.placed.place e))) (ap (λ z. is_lru z.kind) (sym kn.shape_is) ∙ plain) ∙ no_row (lock_named shape k) (lies_at k (r.placed.place e)))
          (λ (bucket : IsTrue (is_bucket (lock_named shape k))). no_row_there (is_lru shape.kind) (lock_named shape k) (lies_at k (r.placed.place e)) bucket)
          apart) ∙ none_and (nat_lt e shape.elements))),
    )
  where
    none_and : (b : Bool) → one (b && false) ≡ 0
    none_and true = refl
    none_and false = refl

    no_row : (lock : DomainId) (here : Bool) → has_row false lock (owners.Hand c) here ≡ false
    no_row (Local x) here = refl
    no_row Global here = refl
    no_row (CpuLru x) here = refl
    no_row (Bucket x) here = refl
    no_row (Freelist x) here = refl

    no_row_there : (lru : Bool) (lock : DomainId) (here : Bool) → IsTrue (is_bucket lock) → has_row lru lock (owners.Hand c) here ≡ false
    no_row_there lru (Local x) here bucket = true_false (sym bucket)
    no_row_there lru Global here bucket = true_false (sym bucket)
    no_row_there lru (CpuLru x) here bucket = true_false (sym bucket)
    no_row_there lru (Bucket x) here bucket = refl
    no_row_there lru (Freelist x) here bucket = true_false (sym bucket)

module _ (shape : Shape) (slots pass : ℕ) (me : Seated) (lock : DomainId) (c : ℕ) (cpu : is_among c me.0.cpus ≡ true) (is : IsTrue (is_lock shape lock)) (may : MayTake shape lock me.0) (unread : me.0.ticket ≡ Unread) where
  above : IsAboveAll shape (rank_of lock) me.0.held
  above = above_taken shape lock me.0 may

  can_take : (s : State Behind View) (r : Rule shape s) → get_elem? s.views pass ≡ some me.0 → r.world.core.holder (lock_number shape lock) ≡ None → CanTake shape r.world.core c lock
  can_take s r at free =
      let kn = r.knows pass me.0 at in let mine = has_mine shape r.world pass me.0 c kn cpu in record {
        is_cpu = kn.within c cpu;
        is_lock = is;
        nobody = free;
        above = λ j holds. above_each shape (rank_of lock) me.0.held j (hold j c (r.world.log j) (r.world.core.lists j) (r.world.lost j)) above
            (kn.held j ∙ (ap (λ (z : Option ℕ). hold_of pass r.world.pass_of_cpu j z (r.world.log j) (r.world.core.lists j) (r.world.lost j)) holds
            ∙ hold_of_mine r.world.pass_of_cpu pass j c (r.world.log j) (r.world.core.lists j) (r.world.lost j) mine));
      }

  took_step : World → WordStep
  took_step w = record { at = made w; word = lock_number shape lock; seen = Some 0; left = 1 + c }

  took_world : World → World
  took_world w = record { core = taken shape w.core c lock; log = w.log; lost = w.lost; pass_of_cpu = w.pass_of_cpu; pass_of_strand = w.pass_of_strand; cpus_of_strand = w.cpus_of_strand; current = w.current; past = w.past; next = w.next; hash = w.hash; touches = touches_with w pass (took_step w) }

  took_hold : World → Hold
  took_hold w = hold (lock_number shape lock) c (w.log (lock_number shape lock)) (w.core.lists (lock_number shape lock)) (w.lost (lock_number shape lock))

  took_rule : (s : State Behind View) (r : Rule shape s) → get_elem? s.views pass ≡ some me.0 → r.world.core.holder (lock_number shape lock) ≡ None
      → (after : Rule shape record { words = set s.words (lock_number shape lock) (1 + c); homes = set s.homes (lock_number shape lock) none; views = set s.views pass (holding (made r.world) (took_hold r.world) me.0) })
      × goes_by shape (Take c lock) 0 r.world.core after.world.core
  unfolding took_step took_world took_hold
  took_rule s r at_pass free =
      let k : ℕ = lock_number shape lock in
      let v = me.0 in let w = r.world in let kn = r.knows pass v at_pass in let mine = has_mine shape w pass v c kn cpu in
      let real : k < lock_count shape = number_within shape lock is in
      let h : Hold = hold k c (w.log k) (w.core.lists k) (w.lost k) in
      let w' : World = took_world w in
      let nv : View = holding (made w) h v in
      let x : WordStep = took_step w in
      let can = can_take s r at_pass free in
      let named = named_by_number shape lock is in
      let above_named : IsAboveAll shape (rank_of (lock_named shape k)) v.held = subst (λ (d : DomainId). IsAboveAll shape (rank_of d) v.held) (sym named) above in
      let bounds = bounds_of_shape shape r.is_shape in
      let same : SameStrands w w' = record { pass_of_strand = λ _. refl; cpus_of_strand = λ _. refl; next = refl; current = λ _. refl; past = λ _. refl; pass_of_cpu = λ _. refl; still = λ _ z. z } in (
        record {
          world = w';
          is_shape = r.is_shape;
          words = length-set s.words k (1 + c) ∙ r.words;
          slots = length-set s.homes k none ∙ r.slots;
          lock_words = λ m below. at_put w.core.holder k (Some c) (λ i x. i < lock_count shape → get_or (set s.words k (1 + c)) i 0 ≡ lock_code x) m
              (λ _. get_or-set_same s.words k (1 + c) 0 (omega (arith, r.words, real)))
              (λ ne below. get_or-set_other s.words k m (1 + c) 0 (λ y. ne (omega arith)) ∙ r.lock_words m below) below;
          owner_words = λ x below. get_or-set_other s.words k (owner_word shape x) (1 + c) 0 (λ y. omega (arith, real)) ∙ r.owner_words x below;
          home_words = λ x below. get_or-set_other s.words k (home_word shape x) (1 + c) 0 (λ y. omega (arith, real)) ∙ r.home_words x below;
          bit_words = λ x below. get_or-set_other s.words k (bit_word shape x) (1 + c) 0 (λ y. omega (arith, real)) ∙ r.bit_words x below;
          placed = step_keeps_places shape w.core (Take c lock) bounds can r.placed;
          ranked = step_keeps_ranks shape w.core (Take c lock) can r.ranked;
          hashes = λ lru. let right = r.hashes lru in record {
            in_bucket = right.in_bucket;
            have = λ m x no_bucket inside.
                let held_on : (j d : ℕ) → w.core.holder j ≡ Some d → put w.core.holder k (Some c) j ≡ Some d = λ j d. at_put w.core.holder k (Some c) (λ i ho. w.core.holder i ≡ Some d → ho ≡ Some d) j (λ at. absurd (none_some (sym free ∙ at))) (λ _ at. at) in
                ⊎_elim
                (λ (had : HasRow shape w.log w.hash m x). inl record { stored = had.stored })
                (⊎_elim
                (λ (fresh : IsFresh w.core.holder w.core.owner m x). inr (inl record { cpu = fresh.cpu; held = held_on m fresh.cpu fresh.held; in_hand = fresh.in_hand }))
                (λ (brought : IsBrought shape w.core.holder w.log w.hash m x). inr (inr record { cpu = brought.cpu; from = brought.from; held = held_on m brought.cpu brought.held; holds = held_on brought.from brought.cpu brought.holds; low = brought.low; row = record { stored = brought.row.stored } })))
                (right.have m x no_bucket inside);
          };
          legal = r.legal;
          real = r.real;
          unmarked = λ plain y is_set. marked_on s.views pass v nv at_pass (λ x inside. inside) y (r.unmarked plain y is_set);
          homes = λ m below there_is. at_put w.core.holder k (Some c) (λ i x. i < lock_count shape → IsTrue (is_lock shape (lock_named shape i)) → AtHome shape i x (entries (w.log i)) (w.core.lists i) (w.lost i) (get_elem? (set s.homes k none) i)) m
              (λ _ _. set_here s.homes k none (omega (arith, r.slots, real)))
              (λ ne below there_is. subst (λ z. AtHome shape m (w.core.holder m) (entries (w.log m)) (w.core.lists m) (w.lost m) z) (sym (set_else s.homes k m none ne)) (r.homes m below there_is)) below there_is;
          seated = λ x less. subst (λ (z : ℕ). w.pass_of_cpu x < z) (sym (length-set s.views pass nv)) (r.seated x less);
          tagged = λ m. tagged_stays w w' (length s.views) (length (set s.views pass nv)) (w.log m) (sym (length-set s.views pass nv)) same (r.tagged m);
          in_time = time_more w.touches (w.current pass, x) r.in_time refl;
          gave_back = λ m below. givers_other m w.touches (w.current pass, x) (λ _ zero_left. absurd (omega (arith, zero_left))) ∙ r.gave_back m below;
          lead = lead_with shape s r (w.current pass) x (omega (arith, r.words, real)) (sym (r.lock_words k real ∙ ap lock_code free));
          tickets = subst (λ (z : ℕ). Tickets shape z (logs_of w) w.lost w.pass_of_cpu (set s.views pass nv)) (sym (get_or-set_other s.words k (ticket_word shape) (1 + c) 0 (λ y. omega (arith, real))))
              (tickets_stay shape (get_or s.words (ticket_word shape) 0) (logs_of w) w.lost w.pass_of_cpu s.views pass v nv at_pass record { reached = refl; refused = refl; steps = refl; ended = refl; ticket = inr (unread, unread, holds_taken shape h v.held above_named, keep_taken shape h v.held v.steps above_named (λ global. outside_taken shape lock v may (sym named ∙ global))) } r.tickets);
          of_strands = of_strands_with shape w pass v kn x w' (length s.views) (length (set s.views pass nv)) (there s.views pass v at_pass) (sym (length-set s.views pass nv)) same r.of_strands;
          owners = λ lru none. subst (λ (z : ℕ). Owners shape z w.core.owner w.core.home w.hash (logs_of w) (set s.views pass nv)) (sym (get_or-set_other s.words k (ticket_word shape) (1 + c) 0 (λ y. omega (arith, real))))
              (owners_taken shape (get_or s.words (ticket_word shape) 0) w.core.owner w.core.home w.hash (logs_of w) s.views pass v nv h at_pass unread unread refl refl refl (r.owners lru none));
          knows = λ j u f. ⊎_elim
              (λ t. subst (λ (z : ℕ × View). PassKnows shape w' z.0 z.1) (λ i. (sym t.0 i, t.1 i)) record {
                shape_is = kn.shape_is;
                cpus = kn.cpus;
                within = kn.within;
                held = λ m. at_put w.core.holder k (Some c) (λ i x. hold_at i (h ∷ v.held) ≡ hold_of pass w.pass_of_cpu i x (w.log i) (w.core.lists i) (w.lost i)) m
                    (hold_at_first h v.held ∙ sym (hold_of_mine w.pass_of_cpu pass k c (w.log k) (w.core.lists k) (w.lost k) mine))
                    (λ ne. hold_at_other m h v.held ne ∙ kn.held m);
                ascends = (above_named, kn.ascends);
                hands = kn.hands;
                carried = kn.carried;
                hashes = λ x d noted within found. hash_stands shape w.hash w'.hash v.hand x d noted.bucket (kn.hashes x d noted within found) (λ _. refl);
                hashed = λ lru x d at real_x within in_hand at_home.
                    let owner_is : w.core.owner x ≡ owners.Hand d = hand_is d (w.core.owner x) (both_true _ _ (sym (kn.hands x d within) ∙ in_hand)).0 in
                    hashed_taken shape w.core.holder w.core.lists w.core.owner w.core.home r.placed.place r.placed.placed w.log w.hash (r.hashes lru) lru x at real_x at_home (ap is_free owner_is)
                    k c free h refl v.held v.notes v.hashes d (kn.hashed lru x d at real_x within in_hand at_home);
                rowed = λ lru m x hold found no_bucket inside. by_test h.lock m (λ t. cond t (Some h) (hold_at m v.held) ≡ Some hold → (stored_in (content shape (lock_named shape m) hold.log) x ≡ Some (w.hash x)) ⊎ (is_among x (came_at m (h ∷ v.held) (no_notes ∷ v.notes)) ≡ true))
                    (λ same at.
                    let is : h ≡ hold = some_is at in
                    let here : k ≡ m = same in
                    let listed : IsIn x (rows (w.core.lists m)) = subst (λ (z : ℕ). IsIn x (rows (w.core.lists z))) here (subst (λ (z : Hold). IsIn x (rows z.now)) (sym is) inside) in
                    let none_holds : w.core.holder m ≡ None = ap w.core.holder (sym here) ∙ free in
                    ⊎_elim
                    (λ (had : HasRow shape w.log w.hash m x). inl (ap (λ (z : Hold). stored_in (content shape (lock_named shape m) z.log) x) (sym is) ∙ (ap (λ (z : ℕ). stored_in (content shape (lock_named shape m) (entries (w.log z))) x) here ∙ had.stored)))
                    (⊎_elim
                    (λ (fresh : IsFresh w.core.holder w.core.owner m x). absurd (none_some (sym none_holds ∙ fresh.held)))
                    (λ (brought : IsBrought shape w.core.holder w.log w.hash m x). absurd (none_some (sym none_holds ∙ brought.held))))
                    ((r.hashes lru).have m x no_bucket listed))
                    (λ other at. ⊎_elim
                    (λ (had : stored_in (content shape (lock_named shape m) hold.log) x ≡ Some (w.hash x)). inl had)
                    (λ (come : is_among x (came_at m v.held v.notes) ≡ true). inr (ap (is_among x) (came_other m h v.held (no_notes ∷ v.notes) (λ y. other (sym y))) ∙ come))
                    (kn.rowed lru m x hold at no_bucket inside)) found;
                homes_read = homes_more shape w.touches (w.current pass, took_step w) v.homes_read kn.homes_read;
                readings = λ x d read within found.
                    let then = then_known x d read v.shape h v.readings found in
                    let was = kn.readings x d then.0 within then.1 in
                    let owner_is : w.core.owner x ≡ owners.Hand d = hand_is d (w.core.owner x) (both_true _ _ (sym (kn.hands x d within) ∙ was.in_hand)).0 in
                    let old : HomeIn = then.0 in let same_then = then.2 in
                    let is : home_then shape h x old.home ≡ read.home = ap (λ (z : Shape). home_then z h x old.home) (sym kn.shape_is) ∙ same_then.home_is in
                    record {
                      real = was.real;
                      in_hand = was.in_hand;
                      counted = counted_more shape w.touches (w.current pass, took_step w) read.at read.turns read.home
                          (subst (λ (z : (ℕ × ℕ) × Home). IsCounted shape w.touches z.0.0 z.0.1 z.1) (λ i. ((same_then.at_is i, same_then.turns_are i), is i)) (counted_then shape h x w.touches old.at old.turns old.home was.counted));
                      still = still_took shape w.core.holder w.log k c read.turns x (w.core.home x) read.home
                          (subst (λ (z : ℕ × Home). StillHome shape w.core.holder w.log z.0 x (w.core.home x) z.1) (λ i. (same_then.turns_are i, is i)) (then_still shape w.core.holder w.core.lists w.core.owner w.core.home r.placed.place r.placed.placed w.log h refl old.turns x d old.home was.real owner_is was.still));
                    };
                known = kn.known;
                bits = kn.bits;
                only = kn.only;
                losses = λ j among. lock_still_lost shape w w' j (λ lo. lo) (kn.losses j among);
                noted = (v.touched, [], made w, refl, real, none_off (h ∷ v.held), record { marks = tt; asked = tt; owners = tt; homes = tt }, kn.noted);
                strand = strand_with shape w pass v kn x w' same (λ _. refl) (λ _ z. z) refl;
                past = past_stays shape w w' pass (w.past pass) v.ended same (λ _ _ _ _. refl) (λ _ z. z) (λ t among _. past_same shape w pass v kn x t among) kn.past;
                apart = kn.apart;
                idle = λ empty. true_false (sym cpu ∙ ap (is_among c) empty);
              })
              (λ t. let ku = r.knows j u t.1 in others shape w w' j u same ku
              (λ m. at_put w.core.holder k (Some c) (λ i x. hold_of j w.pass_of_cpu i x (w.log i) (w.core.lists i) (w.lost i) ≡ hold_of j w.pass_of_cpu i (w.core.holder i) (w.log i) (w.core.lists i) (w.lost i)) m
              (hold_of_other w.pass_of_cpu pass j k (Some c) (w.log k) (w.core.lists k) (w.lost k) mine t.0 ∙ ap (λ (z : Option ℕ). hold_of j w.pass_of_cpu k z (w.log k) (w.core.lists k) (w.lost k)) (sym free))
              (λ _. refl))
              (λ _ _ _. refl)
              (λ _ _ _. refl)
              (λ _ _ _. refl)
              (λ _ z. z)
              ku.known
              ku.bits
              (λ _ _ _ _. refl)
              (λ _ _ _ _ _ _ at. inl at)
              (λ _ _ _ _ _ _. refl)
              (λ tag own. other_same shape w pass v kn x j tag t.0 own)
              (λ read. counted_more shape w.touches (w.current pass, x) read.at read.turns read.home)
              (λ y d read _ _ _ _ still. still_took shape w.core.holder w.log k c read.turns y (w.core.home y) read.home still))
              (at_set s.views pass j nv u f);
        },
        record { enabled = can; changed = refl },
      )

  pub tries : StepsAs shape slots pass me (lock_number shape lock) (λ n. either (eqb n 0) (1 + c) n) (goes_if shape 0 (Take c lock)) (Tries (step slots (lock_number shape lock) 0 (1 + c) none) me)
  unfolding took_hold same_rule
  tries s r wide at_pass _ =
      let k : ℕ = lock_number shape lock in
      let found : ℕ = get_or s.words k 0 in
      let real : k < lock_count shape = number_within shape lock is in
      let named = named_by_number shape lock is in
      exchanged found 0 (1 + c) (λ x. (v : View) × (a : Act Behind) × Valid s.homes me.1 a × ((after : Rule shape (stepped s k x pass me.1 v a)) × goes_if shape 0 (Take c lock) found r.world.core after.world.core) × Tries (step slots k 0 (1 + c) none) me found (v, carried_after me.1 a))
      (λ hit.
      let w = r.world in let kn = r.knows pass me.0 at_pass in
      let free : w.core.holder k ≡ None = code_of_none (w.core.holder k) (sym (r.lock_words k real) ∙ hit) in
      let home = free_home shape k (w.core.holder k) (entries (w.log k)) (w.core.lists k) (w.lost k) (get_elem? s.homes k) free (r.homes k real (subst (λ (d : DomainId). IsTrue (is_lock shape d)) (sym named) is)) in
      let h : Hold = hold k c (w.log k) (w.core.lists k) (w.lost k) in
      let rule = took_rule s r at_pass free in (
        holding (made w) h me.0,
        takes k home.0.0,
        home.0.1,
        (rule.0, ((λ _. rule.1), λ miss. absurd (miss hit))),
        (
          (λ _. record {
            behind = home.0.0;
            hold = h;
            lock = refl;
            cpu_is = omega arith;
            at = made w;
            after_is = refl;
            reads = subst (λ z. IsSlotAfter z k (entries (w.log k)) (w.lost k) home.0.0) (sym kn.shape_is) home.0.2;
            now = home.1 ∙ ap (λ z. lists_of (content z (lock_named z k) (entries (w.log k)))) (sym kn.shape_is);
            elements = subst (λ z. AreElements z (w.core.lists k)) (sym kn.shape_is) (elements_there shape s r k);
            apart = subst (λ z. IsApartFromHands me.0 (lock_named z k) (w.core.lists k)) (sym kn.shape_is) (apart_there shape s r pass me.0 at_pass k);
            legal = subst (λ z. IsLegal z (lock_named z k) (entries (w.log k))) (sym kn.shape_is) (r.legal k);
            known = λ log f. kn.known k log f;
            outside = none_inside shape w.lost k (logs_of w) me.0.steps me.0.held
                (kn.held k ∙ ap (λ (z : Option ℕ). hold_of pass w.pass_of_cpu k z (w.log k) (w.core.lists k) (w.lost k)) free) kn.strand.stand (r.tickets.known pass me.0 at_pass).nested;
            at_home = λ x d other read within found read_is at.
                let then = then_known x d read me.0.shape h me.0.readings found in
                let old : HomeIn = then.0 in let same_then = then.2 in
                let less : d < shape.cpus = subst (λ z. d < z.cpus) kn.shape_is within in
                let was = kn.readings x d then.0 less then.1 in
                let owner_is : w.core.owner x ≡ owners.Hand d = hand_is d (w.core.owner x) (both_true _ _ (sym (kn.hands x d less) ∙ was.in_hand)).0 in
                let is : home_then shape h x old.home ≡ homes.In other = ap (λ (z : Shape). home_then z h x old.home) (sym kn.shape_is) ∙ (same_then.home_is ∙ read_is) in
                at_home_then shape w.core.holder w.core.lists w.core.owner w.core.home r.placed.place r.placed.placed w.log h refl old.turns x d other old.home was.real owner_is was.still is (ap (λ (z : Shape). lock_number z other) (sym kn.shape_is) ∙ at);
            moved_on = λ x d f read within named found read_is none.
                let less : d < shape.cpus = subst (λ z. d < z.cpus) kn.shape_is within in
                let was = kn.readings x d read less found in
                let owner_is : w.core.owner x ≡ owners.Hand d = hand_is d (w.core.owner x) (both_true _ _ (sym (kn.hands x d less) ∙ was.in_hand)).0 in
                subst (λ (z : Shape). flushed_since z (lock_named z k) read.turns x (entries (w.log k)) ≡ true) (sym kn.shape_is)
                (flushed_off shape w.core.holder w.core.lists w.core.owner w.core.home r.placed.place r.placed.placed w.log k read.turns x f was.real (ap is_free owner_is) (ap (λ (z : Shape). lock_named z k) (sym kn.shape_is) ∙ named) free none (subst (StillHome shape w.core.holder w.log read.turns x (w.core.home x)) read_is was.still));
            alone = λ lru no_bucket j x other found nor_other inside.
                let at = hold_of_is w.pass_of_cpu pass j (w.core.holder j) (w.log j) (w.core.lists j) (w.lost j) other (sym (kn.held j) ∙ found) in
                ap (λ (z : Hold). times x (all_of z.now)) at.hold_is
                ∙ lies_on_one shape w.core.lists w.core.owner w.core.home r.placed.place r.placed.placed k j x (λ same. none_some (sym free ∙ (ap w.core.holder (sym same) ∙ at.holder_is)))
                (subst (λ (z : Shape). IsFalse (is_bucket (lock_named z k))) kn.shape_is no_bucket) (subst (λ (z : Shape). IsFalse (is_bucket (lock_named z j))) kn.shape_is nor_other) inside;
            lives = λ lru own x d real mine in_hand at.
                let owner_is : w.core.owner x ≡ owners.Hand d = in_hand_is shape w pass me.0 x d kn mine in_hand in
                subst (λ (j : ℕ). IsIn x (rows (w.core.lists j))) (ap (λ (z : Shape). lock_number z (CpuLru (set_of z x))) (sym kn.shape_is) ∙ at)
                (listed_in_set shape w.core.holder w.core.lists w.core.owner w.core.home r.placed.place r.placed.placed w.log x (subst (λ (z : Shape). x < z.elements) kn.shape_is real) (ap is_free owner_is)
                (ap (λ (z : Shape). is_lru z.kind) (sym kn.shape_is) ∙ lru) (ap (λ (z : Shape). z.common) (sym kn.shape_is) ∙ own));
          }),
          λ miss. absurd (miss hit),
        ),
      ))
      (λ miss. (
        me.0,
        keeps,
        tt,
        (same_rule shape s r (set s.words k found) (set s.views pass me.0) (set_again s.words k found (found_at s.words k (omega (arith, r.words, real)))) (set_again s.views pass me.0 at_pass), ((λ hit. absurd (miss hit)), λ _. refl)),
        ((λ hit. absurd (miss hit)), λ _. refl),
      ))

-- the same, at the number and the code that a caller has
pub tries_at : (shape : Shape) (slots pass : ℕ) (me : Seated) (k c code : ℕ) → is_among c me.0.cpus ≡ true → IsTrue (is_lock shape (lock_named shape k)) → MayTake shape (lock_named shape k) me.0 → me.0.ticket ≡ Unread → code ≡ 1 + c
    → Allows (Rule shape) slots pass me k (λ n. either (eqb n 0) code n) (Tries (step slots k 0 code none) me)
tries_at shape slots pass me k c code cpu is may unread code_is =
    subst (λ (z : ℕ × ℕ). Allows (Rule shape) slots pass me z.0 (λ n. either (eqb n 0) z.1 n) (Tries (step slots z.0 0 z.1 none) me)) (λ i. (number_of_named shape k i, sym code_is i))
    (allows_of shape slots pass me (lock_number shape (lock_named shape k)) (λ n. either (eqb n 0) (1 + c) n) (goes_if shape 0 (Take c (lock_named shape k))) (Tries (step slots (lock_number shape (lock_named shape k)) 0 (1 + c) none) me)
    (tries shape slots pass me (lock_named shape k) c cpu is may unread))
