-- A CPU is split off to a new pass.
use Rattle.std.proofs.Common.{◌≡◌, ◌≢◌, ℕ, suc, ◌<◌, ⊎_elim, inl, eqb, cond, Bool, true, false, List, [], ◌∷◌, ◌++◌, length, set, sym, refl, ap, ◌∙◌, subst, arith, Option, Some, None, length-set, length-append, get_or}
use Rattle.std.specs.Prelude.{◌&&◌, IsTrue}
use lib.ListN.{get_elem?}
use mathlib.Core.Option.{some}
use Rattle.atomic_table.specs.Table.{State, Splits}
use Rattle.atomic_table.proofs.Lists.{at_set}
use Rattle.map_types.specs.declared.attr.Shape.{Shape}
use Rattle.map_types.specs.ElementLists.{put}
use Rattle.map_types.specs.Kind.{is_lru}
use Rattle.map_types.specs.declared.kind.DomainId.{DomainId}
use Rattle.map_types.proofs.RowLemmas.{by_test}
use Rattle.place_words.specs.declared.home.Home.TheVariants as homes
use Rattle.place_words.specs.Locks.{lock_number}
use Rattle.place_table.specs.declared.view.Hold.{Hold}
use Rattle.place_words.specs.declared.step.Lists.{Lists}
use Rattle.place_words.proofs.ElementLemmas.{at_put, put_here, put_else}
use Rattle.place_table.specs.declared.content.Behind.{Behind}
use Rattle.place_table.specs.declared.view.View.{View}
use Rattle.place_table.specs.declared.view.InHand.{InHand}
use Rattle.place_table.specs.Views.{is_among, hold_at, is_in_hand_of, kept_hashes, came_at, without_cpu, in_hand_of, in_other_hands, all_strands, split_from, split_off}
use Rattle.place_table.specs.Words.{ticket_word}
use Rattle.place_table.proofs.OwnersOrder.{owners_idle, owners_more}
use Rattle.place_table.proofs.TicketsShared.{tickets_split}
use Rattle.place_table.specs.Rules.{Tagged, World, hold, hold_of, is_hand_of, is_home_of, IsStrand, ArePast, IsHashed, PassKnows, Rule, logs_of}
use Rattle.place_table.proofs.StoredHashes.{kept_there}
use Rattle.place_table.proofs.Worlds.{true_false, none_some, has_mine, lock_still_lost, hashed_stands}
use Rattle.place_table.proofs.Locks.{there}
use Rattle.place_table.proofs.StrandMoves.{at_more, no_turns_yet, no_touches_yet, of_strands_move, SameTurns, GoesTo, StaysListed, strand_moves, past_moves, tagged_moves, done, past_done, among_done, fresh_done, is_one, not_one}
use Rattle.place_table.proofs.PlaceSteps.{readings_kept, hashes_kept}
use Rattle.place_table.proofs.MarksNoted.{marked_on, marked_longer, none_marked}

-- CPUs and hands without one CPU, and of one CPU alone

pub among_without_same : (c : ℕ) (cs : List ℕ) → is_among c (without_cpu c cs) ≡ false
among_without_same c [] = refl
among_without_same c (x ∷ xs) =
    by_test x c (λ b. is_among c (cond b (without_cpu c xs) (x ∷ without_cpu c xs)) ≡ false)
    (λ _. among_without_same c xs)
    (λ other. by_test x c (λ b. cond b true (is_among c (without_cpu c xs)) ≡ false) (λ e. absurd (other e)) (λ _. among_without_same c xs))

pub among_without_other : (d c : ℕ) (cs : List ℕ) → d ≢ c → is_among d (without_cpu c cs) ≡ is_among d cs
among_without_other d c [] other = refl
among_without_other d c (x ∷ xs) other =
    by_test x c (λ b. is_among d (cond b (without_cpu c xs) (x ∷ without_cpu c xs)) ≡ cond (eqb x d) true (is_among d xs))
    (λ e. by_test x d (λ b. is_among d (without_cpu c xs) ≡ cond b true (is_among d xs)) (λ f. absurd (other (sym f ∙ e))) (λ _. among_without_other d c xs other))
    (λ _. ap (λ y. cond (eqb x d) true y) (among_without_other d c xs other))

pub and_false : (b : Bool) → (b && false) ≡ false
and_false true = refl
and_false false = refl

pub others_same : (e c : ℕ) (hand : List InHand) → is_in_hand_of e c (in_other_hands c hand) ≡ false
others_same e c [] = refl
others_same e c (x ∷ xs) =
    by_test x.cpu c (λ b. is_in_hand_of e c (cond b (in_other_hands c xs) (x ∷ in_other_hands c xs)) ≡ false)
    (λ _. others_same e c xs)
    (λ other. by_test x.cpu c (λ b. cond (eqb x.element e && b) true (is_in_hand_of e c (in_other_hands c xs)) ≡ false)
    (λ f. absurd (other f))
    (λ _. ap (λ b. cond b true (is_in_hand_of e c (in_other_hands c xs))) (and_false (eqb x.element e)) ∙ others_same e c xs))

pub others_other : (e d c : ℕ) (hand : List InHand) → d ≢ c → is_in_hand_of e d (in_other_hands c hand) ≡ is_in_hand_of e d hand
others_other e d c [] other = refl
others_other e d c (x ∷ xs) other =
    by_test x.cpu c (λ b. is_in_hand_of e d (cond b (in_other_hands c xs) (x ∷ in_other_hands c xs)) ≡ cond (eqb x.element e && eqb x.cpu d) true (is_in_hand_of e d xs))
    (λ f. others_other e d c xs other
    ∙ by_test x.cpu d (λ b. is_in_hand_of e d xs ≡ cond (eqb x.element e && b) true (is_in_hand_of e d xs)) (λ g. absurd (other (sym g ∙ f))) (λ _. ap (λ b. cond b true (is_in_hand_of e d xs)) (sym (and_false (eqb x.element e)))))
    (λ _. ap (λ y. cond (eqb x.element e && eqb x.cpu d) true y) (others_other e d c xs other))

pub own_same : (e c : ℕ) (hand : List InHand) → is_in_hand_of e c (in_hand_of c hand) ≡ is_in_hand_of e c hand
own_same e c [] = refl
own_same e c (x ∷ xs) =
    by_test x.cpu c (λ b. is_in_hand_of e c (cond b (x ∷ in_hand_of c xs) (in_hand_of c xs)) ≡ cond (eqb x.element e && b) true (is_in_hand_of e c xs))
    (λ f. by_test x.cpu c (λ b. cond (eqb x.element e && b) true (is_in_hand_of e c (in_hand_of c xs)) ≡ cond (eqb x.element e && true) true (is_in_hand_of e c xs))
    (λ _. ap (λ y. cond (eqb x.element e && true) true y) (own_same e c xs))
    (λ other. absurd (other f)))
    (λ _. own_same e c xs ∙ ap (λ b. cond b true (is_in_hand_of e c xs)) (sym (and_false (eqb x.element e))))

pub own_other : (e d c : ℕ) (hand : List InHand) → d ≢ c → is_in_hand_of e d (in_hand_of c hand) ≡ false
own_other e d c [] other = refl
own_other e d c (x ∷ xs) other =
    by_test x.cpu c (λ b. is_in_hand_of e d (cond b (x ∷ in_hand_of c xs) (in_hand_of c xs)) ≡ false)
    (λ f. by_test x.cpu d (λ b. cond (eqb x.element e && b) true (is_in_hand_of e d (in_hand_of c xs)) ≡ false)
    (λ g. absurd (other (sym g ∙ f)))
    (λ _. ap (λ b. cond b true (is_in_hand_of e d (in_hand_of c xs))) (and_false (eqb x.element e)) ∙ own_other e d c xs other))
    (λ _. own_other e d c xs other)

module _ (shape : Shape) (id c : ℕ) (v : View) (cpu : is_among c v.cpus ≡ true) (no_lock : v.held ≡ []) where
  -- the world after, where so many passes were there
  cut : World → ℕ → World
  cut w n = record {
    core = w.core;
    log = w.log;
    lost = w.lost;
    pass_of_cpu = put w.pass_of_cpu c n;
    pass_of_strand = put (put (λ t. cond (eqb (w.pass_of_strand t) id) n (w.pass_of_strand t)) w.next id) (suc w.next) n;
    cpus_of_strand = put (put w.cpus_of_strand w.next (without_cpu c v.cpus)) (suc w.next) (c ∷ []);
    current = put (put w.current id w.next) n (suc w.next);
    past = put (put w.past id []) n (done w id);
    next = suc (suc w.next);
    hash = w.hash;
    touches = w.touches;
  }

  -- of a strand that was there
  cut_pass_of_strand : (w : World) (n t : ℕ) → t < w.next → (cut w n).pass_of_strand t ≡ cond (eqb (w.pass_of_strand t) id) n (w.pass_of_strand t)
  unfolding cut
  cut_pass_of_strand w n t old = put_else _ (suc w.next) n t (λ e. omega arith) ∙ put_else _ w.next id t (λ e. omega arith)

  cut_cpus_of_strand : (w : World) (n t : ℕ) → t < w.next → (cut w n).cpus_of_strand t ≡ w.cpus_of_strand t
  unfolding cut
  cut_cpus_of_strand w n t old = put_else _ (suc w.next) (c ∷ []) t (λ e. omega arith) ∙ put_else w.cpus_of_strand w.next _ t (λ e. omega arith)

  kept_by_other : (w : World) (n j t : ℕ) → j ≢ id → t < w.next → w.pass_of_strand t ≡ j → GoesTo w (cut w n) j t
  kept_by_other w n j t other old e =
      (cut_pass_of_strand w n t old ∙ (by_test (w.pass_of_strand t) id (λ b. cond b n (w.pass_of_strand t) ≡ w.pass_of_strand t) (λ f. absurd (other (sym e ∙ f))) (λ _. refl) ∙ e), cut_cpus_of_strand w n t old)

  kept_by_new : (w : World) (n t : ℕ) → t < w.next → w.pass_of_strand t ≡ id → GoesTo w (cut w n) n t
  kept_by_new w n t old e =
      (cut_pass_of_strand w n t old ∙ by_test (w.pass_of_strand t) id (λ b. cond b n (w.pass_of_strand t) ≡ n) (λ _. refl) (λ f. absurd (f e)), cut_cpus_of_strand w n t old)

  -- of passes other than the two
  cut_current : (w : World) (n j : ℕ) → j ≢ id → j ≢ n → (cut w n).current j ≡ w.current j
  unfolding cut
  cut_current w n j not_id not_new = put_else _ n (suc w.next) j not_new ∙ put_else w.current id w.next j not_id

  cut_past : (w : World) (n j : ℕ) → j ≢ id → j ≢ n → (cut w n).past j ≡ w.past j
  unfolding cut
  cut_past w n j not_id not_new = put_else _ n _ j not_new ∙ put_else w.past id [] j not_id

  theirs : (w : World) (n j d : ℕ) → w.pass_of_cpu c ≡ id → j ≢ id → j ≢ n → eqb (put w.pass_of_cpu c n d) j ≡ eqb (w.pass_of_cpu d) j
  theirs w n j d mine not_id not_new =
      at_put w.pass_of_cpu c n (λ i x. eqb x j ≡ eqb (w.pass_of_cpu i) j) d
      (not_one n j (λ f. not_new (sym f)) ∙ sym (not_one (w.pass_of_cpu c) j (λ f. not_id (sym f ∙ mine)))) (λ _. refl)

  hold_left : (w : World) (n k : ℕ) (holder : Option ℕ) (log : List Tagged) (lists : Lists) (lost : Bool) → id ≢ n → hold_of id w.pass_of_cpu k holder log lists lost ≡ None → hold_of id (put w.pass_of_cpu c n) k holder log lists lost ≡ None
  hold_left w n k None log lists lost apart e = refl
  hold_left w n k (Some d) log lists lost apart e =
      at_put w.pass_of_cpu c n (λ i x. cond (eqb (w.pass_of_cpu i) id) (Some (hold k i log lists lost)) None ≡ None → cond (eqb x id) (Some (hold k i log lists lost)) None ≡ None) d
      (λ _. ap (λ b. cond b (Some (hold k c log lists lost)) None) (not_one n id (λ f. apart (sym f)))) (λ _ f. f) e

  hold_right : (w : World) (n k : ℕ) (holder : Option ℕ) (log : List Tagged) (lists : Lists) (lost : Bool) → w.pass_of_cpu c ≡ id → ((d : ℕ) → holder ≡ Some d → w.pass_of_cpu d < n) → hold_of id w.pass_of_cpu k holder log lists lost ≡ None → hold_of n (put w.pass_of_cpu c n) k holder log lists lost ≡ None
  hold_right w n k None log lists lost mine below e = refl
  hold_right w n k (Some d) log lists lost mine below e =
      at_put w.pass_of_cpu c n (λ i x. cond (eqb (w.pass_of_cpu i) id) (Some (hold k i log lists lost)) None ≡ None → w.pass_of_cpu i < n → cond (eqb x n) (Some (hold k i log lists lost)) None ≡ None) d
      (λ f _. absurd (none_some (sym f ∙ ap (λ b. cond b (Some (hold k c log lists lost)) None) (ap (λ (z : ℕ). eqb z id) mine ∙ is_one id))))
      (λ _ _ less. ap (λ b. cond b (Some (hold k d log lists lost)) None) (not_one (w.pass_of_cpu d) n (λ f. omega arith))) e (below d refl)

  hold_else : (w : World) (n j k : ℕ) (holder : Option ℕ) (log : List Tagged) (lists : Lists) (lost : Bool) → w.pass_of_cpu c ≡ id → j ≢ id → j ≢ n → hold_of j (put w.pass_of_cpu c n) k holder log lists lost ≡ hold_of j w.pass_of_cpu k holder log lists lost
  hold_else w n j k None log lists lost mine not_id not_new = refl
  hold_else w n j k (Some d) log lists lost mine not_id not_new = ap (λ b. cond b (Some (hold k d log lists lost)) None) (theirs w n j d mine not_id not_new)

  cons_nil : {A : Type 0} {x : A} {xs : List A} → x ∷ xs ≡ [] → ⊥
  cons_nil {A} {x} {xs} e = cc

  same_turns : (w : World) (n : ℕ) → SameTurns w (cut w n)
  unfolding cut
  same_turns w n = record { log = λ _. refl; lost = λ _. refl; next = omega arith; touches = refl }

  -- what a pass has in hand, by owners or by homes: F tells whose hand an element is in
  hand_right : (w : World) (n e d : ℕ) (F : ℕ → Bool) (hand : List InHand) → w.pass_of_cpu c ≡ id → (d ≢ c → w.pass_of_cpu d < n) → (is_in_hand_of e c hand ≡ (F c && eqb (w.pass_of_cpu c) id)) → is_in_hand_of e d (in_hand_of c hand) ≡ (F d && eqb (put w.pass_of_cpu c n d) n)
  hand_right w n e d F hand mine below own =
      at_put w.pass_of_cpu c n (λ i x. (i ≢ c → w.pass_of_cpu i < n) → is_in_hand_of e i (in_hand_of c hand) ≡ (F i && eqb x n)) d
      (λ _. own_same e c hand ∙ (own ∙ ap (λ t. F c && t) (ap (λ (z : ℕ). eqb z id) mine ∙ (is_one id ∙ sym (is_one n)))))
      (λ other low. own_other e d c hand other ∙ sym (ap (λ t. F d && t) (not_one (w.pass_of_cpu d) n (λ f. let less = low other in omega arith)) ∙ and_false (F d))) below

  hand_left : (w : World) (n e d : ℕ) (F : ℕ → Bool) (hand : List InHand) → id ≢ n → (d ≢ c → is_in_hand_of e d hand ≡ (F d && eqb (w.pass_of_cpu d) id)) → is_in_hand_of e d (in_other_hands c hand) ≡ (F d && eqb (put w.pass_of_cpu c n d) id)
  hand_left w n e d F hand apart own =
      at_put w.pass_of_cpu c n (λ i x. (i ≢ c → is_in_hand_of e i hand ≡ (F i && eqb (w.pass_of_cpu i) id)) → is_in_hand_of e i (in_other_hands c hand) ≡ (F i && eqb x id)) d
      (λ _. others_same e c hand ∙ sym (ap (λ t. F c && t) (not_one n id (λ f. apart (sym f))) ∙ and_false (F c)))
      (λ other is. others_other e d c hand other ∙ is other) own

  -- what is known of stored hashes goes with the hand
  hashed_apart : (w : World) → PassKnows shape w id v → IsTrue (is_lru shape.kind) → (hand : List InHand) (e d : ℕ) (lock : DomainId) → e < shape.elements → d < shape.cpus → is_in_hand_of e d v.hand ≡ true → is_in_hand_of e d hand ≡ true → w.core.home e ≡ homes.In lock
      → IsHashed shape w.core.holder w.log w.hash (kept_hashes hand v.hashes) [] (lock_number shape lock) e d
  hashed_apart w kn lru hand e d lock real within was there at =
      let k : ℕ = lock_number shape lock in
      hashed_stands shape w.core.holder w.core.holder w.log w.log w.hash w.hash v.hashes (kept_hashes hand v.hashes) (came_at k v.held v.notes) [] k e d
      (λ i on. (on, refl)) (λ on. on) refl (kept_there e d hand v.hashes there)
      (λ inside. ap (λ (l : List Hold). is_among e (came_at k l v.notes)) (sym no_lock) ∙ inside) (kn.hashed lru e d lock real within was at)

  -- the new pass
  right : (s : State Behind View) (r : Rule shape s) → get_elem? s.views id ≡ some v → PassKnows shape (cut r.world (length s.views)) (length s.views) (split_off c v)
  unfolding cut
  right s r at_id =
      let w : World = r.world in let n : ℕ = length s.views in let kn = r.knows id v at_id in let mine = has_mine shape w id v c kn cpu in let w' : World = cut w n in record {
        shape_is = kn.shape_is;
        cpus = λ d less. at_put w.pass_of_cpu c n (λ i x. i < shape.cpus → cond (eqb c i) true false ≡ eqb x n) d
            (λ _. ap (λ b. cond b true false) (is_one c) ∙ sym (is_one n))
            (λ other b. ap (λ t. cond t true false) (not_one c d (λ e. other (sym e))) ∙ sym (not_one (w.pass_of_cpu d) n (λ e. let q = r.seated d b in omega arith))) less;
        within = λ d among. by_test c d (λ b. cond b true false ≡ true → d < shape.cpus) (λ e _. subst (λ (z : ℕ). z < shape.cpus) e (kn.within c cpu)) (λ _ f. true_false (sym f)) among;
        held = λ k. sym (hold_right w n k (w.core.holder k) (w.log k) (w.core.lists k) (w.lost k) mine (λ d e. r.seated d (r.ranked.within d k e)) (sym (kn.held k) ∙ ap (hold_at k) no_lock));
        ascends = tt;
        noted = tt;
        hands = λ e d less. hand_right w n e d (λ i. is_hand_of i (w.core.owner e)) v.hand mine (λ _. r.seated d less) (kn.hands e c (kn.within c cpu));
        carried = λ e d less. hand_right w n e d (λ i. is_home_of i (w.core.home e)) v.carried mine (λ _. r.seated d less) (kn.carried e c (kn.within c cpu));
        hashes = hashes_kept shape w id v kn (in_hand_of c v.hand);
        hashed = λ lru e d lock real within in_hand at. by_test d c (λ _. IsHashed shape w.core.holder w.log w.hash (kept_hashes (in_hand_of c v.hand) v.hashes) [] (lock_number shape lock) e d)
            (λ same. hashed_apart w kn lru (in_hand_of c v.hand) e d lock real within (ap (λ (z : ℕ). is_in_hand_of e z v.hand) same ∙ (sym (own_same e c v.hand) ∙ (ap (λ (z : ℕ). is_in_hand_of e z (in_hand_of c v.hand)) (sym same) ∙ in_hand))) in_hand at)
            (λ other. true_false (sym in_hand ∙ own_other e d c v.hand other));
        rowed = λ lru k e hold found. absurd (none_some found);
        homes_read = tt;
        readings = readings_kept shape w id v kn (in_hand_of c v.hand);
        known = λ k log f. absurd (none_some f);
        bits = λ e bit f. absurd (none_some f);
        only = inl (refl, refl);
        losses = λ k among. lock_still_lost shape w w' k (λ found. found) (kn.losses k among);
        strand = subst (λ (z : ℕ). IsStrand shape w' n z (c ∷ []) [] [] []) (sym (put_here (put w.current id w.next) n (suc w.next))) record {
          pass_of_strand = put_here (put (λ t. cond (eqb (w.pass_of_strand t) id) n (w.pass_of_strand t)) w.next id) (suc w.next) n;
          numbered = omega arith;
          cpus_of_strand = put_here (put w.cpus_of_strand w.next (without_cpu c v.cpus)) (suc w.next) (c ∷ []);
          steps_are = λ k. sym (no_turns_yet w n (suc w.next) 0 (w.log k) (omega arith) (r.tagged k));
          stand = tt;
          kept_are = λ k below is found. refl;
          touched_are = sym (no_touches_yet w n (suc w.next) w.touches (omega arith) r.of_strands);
        };
        past = subst (λ z. ArePast shape w' n z (all_strands v)) (sym (put_here (put w.past id []) n (done w id)))
            (past_moves shape w w' id n (done w id) (all_strands v) (same_turns w n) (λ t old e. kept_by_new w n t old e) (past_done shape w id v kn.strand kn.past kn.apart));
        apart = ap (λ z. is_among z (put (put w.past id []) n (done w id) n)) (put_here (put w.current id w.next) n (suc w.next))
            ∙ (ap (is_among (suc w.next)) (put_here (put w.past id []) n (done w id)) ∙ fresh_done shape w id (suc w.next) v kn.strand kn.past (omega arith));
        idle = λ e. absurd (cons_nil e);
      }

  -- the old one
  left : (s : State Behind View) (r : Rule shape s) → get_elem? s.views id ≡ some v → id ≢ length s.views → PassKnows shape (cut r.world (length s.views)) id (split_from c v)
  unfolding cut
  left s r at_id apart =
      let w : World = r.world in let n : ℕ = length s.views in let kn = r.knows id v at_id in let w' : World = cut w n in record {
        shape_is = kn.shape_is;
        cpus = λ d less. at_put w.pass_of_cpu c n (λ i x. i < shape.cpus → is_among i (without_cpu c v.cpus) ≡ eqb x id) d
            (λ _. among_without_same c v.cpus ∙ sym (not_one n id (λ e. apart (sym e))))
            (λ other b. among_without_other d c v.cpus other ∙ kn.cpus d b) less;
        within = λ d among. by_test d c (λ _. d < shape.cpus)
            (λ e. true_false (sym among ∙ (ap (λ (z : ℕ). is_among z (without_cpu c v.cpus)) e ∙ among_without_same c v.cpus)))
            (λ other. kn.within d (sym (among_without_other d c v.cpus other) ∙ among));
        held = λ k. sym (hold_left w n k (w.core.holder k) (w.log k) (w.core.lists k) (w.lost k) apart (sym (kn.held k) ∙ ap (hold_at k) no_lock));
        ascends = tt;
        noted = tt;
        hands = λ e d less. hand_left w n e d (λ i. is_hand_of i (w.core.owner e)) v.hand apart (λ _. kn.hands e d less);
        carried = λ e d less. hand_left w n e d (λ i. is_home_of i (w.core.home e)) v.carried apart (λ _. kn.carried e d less);
        hashes = hashes_kept shape w id v kn (in_other_hands c v.hand);
        hashed = λ lru e d lock real within in_hand at. by_test d c (λ _. IsHashed shape w.core.holder w.log w.hash (kept_hashes (in_other_hands c v.hand) v.hashes) [] (lock_number shape lock) e d)
            (λ same. true_false (sym in_hand ∙ (ap (λ (z : ℕ). is_in_hand_of e z (in_other_hands c v.hand)) same ∙ others_same e c v.hand)))
            (λ other. hashed_apart w kn lru (in_other_hands c v.hand) e d lock real within (sym (others_other e d c v.hand other) ∙ in_hand) in_hand at);
        rowed = λ lru k e hold found. absurd (none_some found);
        homes_read = tt;
        readings = readings_kept shape w id v kn (in_other_hands c v.hand);
        known = λ k log f. absurd (none_some f);
        bits = λ e bit f. absurd (none_some f);
        only = inl (refl, refl);
        losses = λ k among. lock_still_lost shape w w' k (λ found. found) (kn.losses k among);
        strand = subst (λ (z : ℕ). IsStrand shape w' id z (without_cpu c v.cpus) [] [] []) (sym (put_else (put w.current id w.next) n (suc w.next) id apart ∙ put_here w.current id w.next)) record {
          pass_of_strand = put_else (put (λ t. cond (eqb (w.pass_of_strand t) id) n (w.pass_of_strand t)) w.next id) (suc w.next) n w.next (λ e. omega arith) ∙ put_here (λ t. cond (eqb (w.pass_of_strand t) id) n (w.pass_of_strand t)) w.next id;
          numbered = omega arith;
          cpus_of_strand = put_else (put w.cpus_of_strand w.next (without_cpu c v.cpus)) (suc w.next) (c ∷ []) w.next (λ e. omega arith) ∙ put_here w.cpus_of_strand w.next (without_cpu c v.cpus);
          steps_are = λ k. sym (no_turns_yet w n w.next 0 (w.log k) (omega arith) (r.tagged k));
          stand = tt;
          kept_are = λ k below is found. refl;
          touched_are = sym (no_touches_yet w n w.next w.touches (omega arith) r.of_strands);
        };
        past = subst (λ z. ArePast shape w' id z []) (sym (put_else (put w.past id []) n (done w id) id apart ∙ put_here w.past id [])) tt;
        apart = ap (λ z. is_among (put (put w.current id w.next) n (suc w.next) id) z) (put_else (put w.past id []) n (done w id) id apart ∙ put_here w.past id []);
        idle = λ _. ((refl, tt), tt);
      }

  -- any other
  beside : (s : State Behind View) (r : Rule shape s) → get_elem? s.views id ≡ some v → (j : ℕ) (u : View) → get_elem? s.views j ≡ some u → j ≢ id → PassKnows shape (cut r.world (length s.views)) j u
  unfolding cut
  beside s r at_id j u at_j not_id =
      let w : World = r.world in let n : ℕ = length s.views in let mine = has_mine shape w id v c (r.knows id v at_id) cpu in
      let ku = r.knows j u at_j in let w' : World = cut w n in
      let not_new : j ≢ n = (let below = there s.views j u at_j in λ e. omega arith) in record {
        shape_is = ku.shape_is;
        cpus = λ d less. ku.cpus d less ∙ sym (theirs w n j d mine not_id not_new);
        within = ku.within;
        held = λ k. ku.held k ∙ sym (hold_else w n j k (w.core.holder k) (w.log k) (w.core.lists k) (w.lost k) mine not_id not_new);
        ascends = ku.ascends;
        noted = ku.noted;
        hands = λ e d less. ku.hands e d less ∙ ap (λ b. is_hand_of d (w.core.owner e) && b) (sym (theirs w n j d mine not_id not_new));
        carried = λ e d less. ku.carried e d less ∙ ap (λ b. is_home_of d (w.core.home e) && b) (sym (theirs w n j d mine not_id not_new));
        hashes = λ e d noted within found. ku.hashes e d noted within found;
        hashed = ku.hashed;
        rowed = ku.rowed;
        homes_read = ku.homes_read;
        readings = ku.readings;
        known = ku.known;
        bits = ku.bits;
        only = ku.only;
        losses = λ k among. lock_still_lost shape w w' k (λ found. found) (ku.losses k among);
        strand = subst (λ (z : ℕ). IsStrand shape w' j z u.cpus u.steps u.kept u.touched) (sym (cut_current w n j not_id not_new))
            (strand_moves shape w w' j j (w.current j) u.cpus u.steps u.kept u.touched (same_turns w n) (λ old e. kept_by_other w n j (w.current j) not_id old e) ku.strand);
        past = subst (λ z. ArePast shape w' j z u.ended) (sym (cut_past w n j not_id not_new))
            (past_moves shape w w' j j (w.past j) u.ended (same_turns w n) (λ t old e. kept_by_other w n j t not_id old e) ku.past);
        apart = ap (λ z. is_among z (w'.past j)) (cut_current w n j not_id not_new) ∙ (ap (is_among (w.current j)) (cut_past w n j not_id not_new) ∙ ku.apart);
        idle = ku.idle;
      }

  -- the strand of a turn
  listed_on : (w : World) (n t : ℕ) → id < n → w.pass_of_strand t < n → t < w.next → is_among t (w.current (w.pass_of_strand t) ∷ w.past (w.pass_of_strand t)) ≡ true → StaysListed w (cut w n) (suc n) t
  unfolding cut
  listed_on w n t here below old among =
      by_test (w.pass_of_strand t) id (λ _. StaysListed w (cut w n) (suc n) t)
      (λ own. let to = kept_by_new w n t old own in (
        (let g : (cut w n).pass_of_strand t ≡ n = to.0 in omega arith),
        omega arith,
        to.1,
        subst (λ (z : ℕ). is_among t ((cut w n).current z ∷ (cut w n).past z) ≡ true) (sym to.0)
            (ap (λ (z : ℕ). is_among t (z ∷ put (put w.past id []) n (done w id) n)) (put_here (put w.current id w.next) n (suc w.next))
            ∙ (ap (λ z. is_among t (suc w.next ∷ z)) (put_here (put w.past id []) n (done w id))
            ∙ by_test (suc w.next) t (λ b. cond b true (is_among t (done w id)) ≡ true) (λ _. refl)
            (λ _. among_done w id t (subst (λ (z : ℕ). is_among t (w.current z ∷ w.past z) ≡ true) own among)))),
      ))
      (λ other. let to = kept_by_other w n (w.pass_of_strand t) t other old refl in let not_new : w.pass_of_strand t ≢ n = (λ e. omega arith) in (
        (let g : (cut w n).pass_of_strand t ≡ w.pass_of_strand t = to.0 in omega arith),
        omega arith,
        to.1,
        subst (λ (z : ℕ). is_among t ((cut w n).current z ∷ (cut w n).past z) ≡ true) (sym to.0)
            (ap (λ (z : ℕ). is_among t (z ∷ (cut w n).past (w.pass_of_strand t))) (cut_current w n (w.pass_of_strand t) other not_new)
            ∙ (ap (λ z. is_among t (w.current (w.pass_of_strand t) ∷ z)) (cut_past w n (w.pass_of_strand t) other not_new) ∙ among)),
      ))

  pub splits : Splits (Rule shape) id v (split_from c v) (split_off c v)
  unfolding cut
  splits s r at_id =
      let w : World = r.world in let n : ℕ = length s.views in
      let here : id < n = there s.views id v at_id in let apart : id ≢ n = (λ e. omega arith) in
      let long : length (set s.views id (split_from c v) ++ split_off c v ∷ []) ≡ suc n = omega (arith, length-append (set s.views id (split_from c v)) (split_off c v ∷ []), length-set s.views id (split_from c v)) in
      let w' : World = cut w n in record {
        world = w';
        is_shape = r.is_shape;
        words = r.words;
        slots = r.slots;
        lock_words = r.lock_words;
        owner_words = r.owner_words;
        home_words = r.home_words;
        bit_words = r.bit_words;
        placed = r.placed;
        ranked = r.ranked;
        hashes = r.hashes;
        legal = r.legal;
        real = r.real;
        unmarked = λ plain y is_set. marked_longer (set s.views id (split_from c v)) (split_off c v ∷ []) y
            (marked_on s.views id v (split_from c v) at_id (none_marked v.held v.notes [] no_lock) y (r.unmarked plain y is_set));
        homes = r.homes;
        seated = λ d less. at_put w.pass_of_cpu c n (λ i x. i < shape.cpus → x < length (set s.views id (split_from c v) ++ split_off c v ∷ [])) d (λ _. omega (arith, long)) (λ _ b. let q = r.seated d b in omega (arith, long)) less;
        tagged = λ k. tagged_moves w w' n (length (set s.views id (split_from c v) ++ split_off c v ∷ [])) (w.log k)
            (λ t below old among. subst (λ (z : ℕ). StaysListed w w' z t) (sym long) (listed_on w n t here below old among)) (r.tagged k);
        in_time = r.in_time;
        gave_back = r.gave_back;
        lead = r.lead;
        tickets = tickets_split shape (get_or s.words (ticket_word shape) 0) (logs_of w) w.lost w.pass_of_cpu (put w.pass_of_cpu c n) s.views id c v at_id no_lock
            (λ d other. put_else w.pass_of_cpu c n d (λ same. other (ap w.pass_of_cpu same ∙ has_mine shape w id v c (r.knows id v at_id) cpu))) ((r.knows id v at_id).within c cpu) (put_here w.pass_of_cpu c n ∙ sym (length-set s.views id (split_from c v))) r.tickets;
        owners = λ lru none. owners_more shape (get_or s.words (ticket_word shape) 0) w.core.owner w.core.home w.hash (logs_of w) (set s.views id (split_from c v)) (split_off c v) record { held = refl; notes = refl; unread = refl }
            (owners_idle shape (get_or s.words (ticket_word shape) 0) w.core.owner w.core.home w.hash (logs_of w) s.views id v (split_from c v) at_id no_lock record { held = refl; notes = refl; unread = refl } (r.owners lru none));
        of_strands = of_strands_move w w' n (length (set s.views id (split_from c v) ++ split_off c v ∷ [])) w.touches
            (λ t below old among. subst (λ (z : ℕ). StaysListed w w' z t) (sym long) (listed_on w n t here below old among)) r.of_strands;
        knows = λ j u f. ⊎_elim
            (λ g. ⊎_elim
            (λ t. subst (λ (z : ℕ × View). PassKnows shape w' z.0 z.1) (λ i. (sym t.0 i, t.1 i)) (left s r at_id apart))
            (λ t. beside s r at_id j u t.1 t.0)
            (at_set s.views id j (split_from c v) u g))
            (λ t. subst (λ (z : ℕ × View). PassKnows shape w' z.0 z.1) (λ i. (sym (t.0 ∙ length-set s.views id (split_from c v)) i, t.1 i)) (right s r at_id))
            (at_more (set s.views id (split_from c v)) (split_off c v) u j f);
      }

  -- and no step of the core
  pub splits_no_step : (s : State Behind View) (r : Rule shape s) → get_elem? s.views id ≡ some v
      → (after : Rule shape record { words = s.words; homes = s.homes; views = set s.views id (split_from c v) ++ split_off c v ∷ [] }) × (after.world.core ≡ r.world.core)
  unfolding cut splits
  splits_no_step s r at_id = (splits s r at_id, refl)
