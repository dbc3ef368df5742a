-- A pass takes in another.
use Rattle.std.proofs.Common.{◌≡◌, ◌≢◌, ℕ, suc, ◌<◌, ◌⊎◌, ⊎_elim, inl, inr, eqb, cond, Bool, true, false, List, [], ◌∷◌, ◌++◌, length, set, sym, refl, ap, ◌∙◌, subst, arith, Option, Some, None, length-set, get_or}
use Rattle.std.specs.Prelude.{◌&&◌}
use Rattle.std.proofs.lemmas.Bool.{eq-eqb, eqb-true}
use lib.ListN.{get_elem?}
use mathlib.Core.Option.{some}
use Rattle.atomic_table.specs.Table.{State, Joins}
use Rattle.atomic_table.proofs.Lists.{at_set}
use Rattle.map_types.specs.declared.attr.Shape.{Shape}
use Rattle.map_types.specs.ElementLists.{put}
use Rattle.map_types.proofs.RowLemmas.{by_test}
use Rattle.place_words.specs.declared.step.Lists.{Lists}
use Rattle.place_words.proofs.ElementLemmas.{put_here, put_else}
use Rattle.place_table.specs.declared.content.Behind.{Behind}
use Rattle.place_table.specs.declared.view.View.{View}
use Rattle.place_table.specs.declared.view.InHand.{InHand}
use Rattle.place_table.specs.declared.view.HashIn.{HashIn}
use Rattle.place_table.specs.declared.view.Hold.{Hold}
use Rattle.place_table.specs.declared.view.Notes.{Notes}
use Rattle.place_words.specs.Locks.{lock_number}
use Rattle.place_table.specs.Views.{is_among, hold_at, is_in_hand_of, in_no_hand_of, hash_known, came_at, current_strand, all_strands, joined, spent, home_known}
use Rattle.place_table.specs.Words.{ticket_word}
use Rattle.place_table.proofs.OwnersOrder.{owners_idle}
use Rattle.place_table.proofs.TicketsShared.{tickets_joined}
use Rattle.place_table.specs.Rules.{Tagged, World, hold, hold_of, is_hand_of, is_home_of, IsStrand, ArePast, IsLostLock, IsHashed, HasHash, HasCome, HasRow, IsBrought, PassKnows, Rule, logs_of}
use Rattle.place_table.proofs.Worlds.{true_false, by_bool, none_some, both_true, lock_still_lost}
use Rattle.place_table.proofs.Locks.{there}
use Rattle.place_table.proofs.Splits.{and_false}
use Rattle.place_table.proofs.StrandMoves.{among_append, among_later, no_turns_yet, no_touches_yet, of_strands_move, SameTurns, GoesTo, StaysListed, strand_moves, past_moves, tagged_moves, past_pass_of_strand, not_theirs, past_append, done, past_done, among_done, fresh_done, no_steps_append, not_one}
use Rattle.place_table.proofs.Readings.{append_home, or_there}
use Rattle.place_table.proofs.MarksNoted.{marked_on, none_marked}

-- what is known, and what is in hand, in one of two lists
known_append : (e d : ℕ) (noted : HashIn) (xs ys : List HashIn) → hash_known e d (xs ++ ys) ≡ Some noted → (hash_known e d xs ≡ Some noted) ⊎ (hash_known e d ys ≡ Some noted)
known_append e d noted [] ys found = inr found
known_append e d noted (x ∷ xs) ys found =
    by_bool (eqb x.element e && eqb x.cpu d) (λ t. cond t (Some x) (hash_known e d (xs ++ ys)) ≡ Some noted → (cond t (Some x) (hash_known e d xs) ≡ Some noted) ⊎ (hash_known e d ys ≡ Some noted))
    (λ _ f. inl f) (λ _ f. known_append e d noted xs ys f) found

known_first : (e d : ℕ) (noted : HashIn) (xs ys : List HashIn) → hash_known e d xs ≡ Some noted → hash_known e d (xs ++ ys) ≡ Some noted
known_first e d noted [] ys found = absurd (none_some found)
known_first e d noted (x ∷ xs) ys found =
    by_bool (eqb x.element e && eqb x.cpu d) (λ t. cond t (Some x) (hash_known e d xs) ≡ Some noted → cond t (Some x) (hash_known e d (xs ++ ys)) ≡ Some noted)
    (λ _ f. f) (λ _ f. known_first e d noted xs ys f) found

known_second : (e d : ℕ) (xs ys : List HashIn) → hash_known e d xs ≡ None → hash_known e d (xs ++ ys) ≡ hash_known e d ys
known_second e d [] ys none = refl
known_second e d (x ∷ xs) ys none =
    by_bool (eqb x.element e && eqb x.cpu d) (λ t. cond t (Some x) (hash_known e d xs) ≡ None → cond t (Some x) (hash_known e d (xs ++ ys)) ≡ hash_known e d ys)
    (λ _ f. absurd (none_some (sym f))) (λ _ f. known_second e d xs ys f) none

none_noted : (e d : ℕ) (hashes : List HashIn) (known : Option HashIn) → hash_known e d hashes ≡ known → ((noted : HashIn) → hash_known e d hashes ≡ Some noted → ⊥) → hash_known e d hashes ≡ None
none_noted e d hashes None is none = is
none_noted e d hashes (Some noted) is none = absurd (none noted is)

-- what is known of the stored hash of an element in hand, where no lock is held and more is noted
hashed_with : (shape : Shape) (holder : ℕ → Option ℕ) (log : ℕ → List Tagged) (hash : ℕ → ℕ) (hashes hashes' : List HashIn) (notes : List Notes) (held : List Hold) (k e c : ℕ) → held ≡ [] → ((noted : HashIn) → hash_known e c hashes ≡ Some noted → hash_known e c hashes' ≡ Some noted)
    → IsHashed shape holder log hash hashes (came_at k held notes) k e c → IsHashed shape holder log hash hashes' [] k e c
hashed_with shape holder log hash hashes hashes' notes held k e c none_held more is = record {
  from = ⊎_elim
      (λ (gave : HasHash true hashes e c). inl record { noted = gave.noted; last = more gave.noted gave.last; given_is = gave.given_is })
      (⊎_elim
      (λ (off : HasHash false hashes e c). inr (inl record { noted = off.noted; last = more off.noted off.last; given_is = off.given_is }))
      (λ (come : HasCome holder (came_at k held notes) k e c). no_came come))
      is.from;
  row = λ on. ⊎_elim
      (λ (had : HasRow shape log hash k e). inl had)
      (⊎_elim
      (λ (brought : IsBrought shape holder log hash k e). inr (inl brought))
      (λ (come : HasCome holder (came_at k held notes) k e c). no_came come))
      (is.row on);
}
  where
    no_came : {A : Type 0} → HasCome holder (came_at k held notes) k e c → A
    no_came {A} come = true_false (sym come.inside ∙ ap (λ (l : List Hold). is_among e (came_at k l notes)) none_held)

pub hand_append : (e d : ℕ) (xs ys : List InHand) → is_in_hand_of e d (xs ++ ys) ≡ cond (is_in_hand_of e d xs) true (is_in_hand_of e d ys)
hand_append e d [] ys = refl
hand_append e d (x ∷ xs) ys = go (eqb x.element e && eqb x.cpu d) (hand_append e d xs ys)
  where
    go : (b : Bool) → is_in_hand_of e d (xs ++ ys) ≡ cond (is_in_hand_of e d xs) true (is_in_hand_of e d ys) → cond b true (is_in_hand_of e d (xs ++ ys)) ≡ cond (cond b true (is_in_hand_of e d xs)) true (is_in_hand_of e d ys)
    go true later = refl
    go false later = later

-- what is in a hand that is none of these
same_test : (x : InHand) → (eqb x.element x.element && eqb x.cpu x.cpu) ≡ true
same_test x = (λ i. eq-eqb x.element x.element refl i && eq-eqb x.cpu x.cpu refl i)

pub in_others : (e d : ℕ) (cpus : List ℕ) (hand : List InHand) → is_among d cpus ≡ false → is_in_hand_of e d (in_no_hand_of cpus hand) ≡ is_in_hand_of e d hand
in_others e d cpus [] apart = refl
in_others e d cpus (x ∷ xs) apart =
    by_bool (is_among x.cpu cpus) (λ t. is_among x.cpu cpus ≡ t → is_in_hand_of e d (cond t (in_no_hand_of cpus xs) (x ∷ in_no_hand_of cpus xs)) ≡ cond (eqb x.element e && eqb x.cpu d) true (is_in_hand_of e d xs))
    (λ _ among. in_others e d cpus xs apart
    ∙ by_bool (eqb x.element e && eqb x.cpu d) (λ t. (eqb x.element e && eqb x.cpu d) ≡ t → is_in_hand_of e d xs ≡ cond t true (is_in_hand_of e d xs))
    (λ _ hit. true_false (sym among ∙ (ap (λ (c : ℕ). is_among c cpus) (eqb-true x.cpu d (both_true (eqb x.element e) (eqb x.cpu d) hit).1) ∙ apart))) (λ _ _. refl) refl)
    (λ _ _. ap (cond (eqb x.element e && eqb x.cpu d) true) (in_others e d cpus xs apart)) refl

pub in_no_others : (e d : ℕ) (cpus : List ℕ) (hand : List InHand) → is_in_hand_of e d (in_no_hand_of cpus hand) ≡ true → is_among d cpus ≡ false
in_no_others e d cpus [] in_hand = true_false (sym in_hand)
in_no_others e d cpus (x ∷ xs) in_hand =
    by_bool (is_among x.cpu cpus) (λ t. is_among x.cpu cpus ≡ t → is_in_hand_of e d (cond t (in_no_hand_of cpus xs) (x ∷ in_no_hand_of cpus xs)) ≡ true → is_among d cpus ≡ false)
    (λ _ _ later. in_no_others e d cpus xs later)
    (λ _ none here.
    by_bool (eqb x.element e && eqb x.cpu d) (λ t. (eqb x.element e && eqb x.cpu d) ≡ t → cond t true (is_in_hand_of e d (in_no_hand_of cpus xs)) ≡ true → is_among d cpus ≡ false)
    (λ _ hit _. ap (λ (c : ℕ). is_among c cpus) (sym (eqb-true x.cpu d (both_true (eqb x.element e) (eqb x.cpu d) hit).1)) ∙ none)
    (λ _ _ later. in_no_others e d cpus xs later) refl here)
    refl in_hand

-- where none of it is in these hands, all stays
none_taken : (cpus : List ℕ) (hand : List InHand) → ((e d : ℕ) → is_in_hand_of e d hand ≡ true → is_among d cpus ≡ false) → in_no_hand_of cpus hand ≡ hand
none_taken cpus [] apart = refl
none_taken cpus (x ∷ xs) apart =
    (λ i. cond (apart x.element x.cpu (ap (λ (t : Bool). cond t true (is_in_hand_of x.element x.cpu xs)) (same_test x)) i) (in_no_hand_of cpus xs) (x ∷ in_no_hand_of cpus xs))
    ∙ ap (λ (l : List InHand). x ∷ l) (none_taken cpus xs (λ e d later. apart e d (or_there (eqb x.element e && eqb x.cpu d) (is_in_hand_of e d xs) later)))

both_or : (x p q : Bool) → cond (x && p) true (x && q) ≡ (x && cond p true q)
both_or true p q = refl
both_or false p q = refl

-- what is among two lists is among one of them
pub in_either : (a b : Bool) (P : Type 0) → (a ≡ true → P) → (b ≡ true → P) → cond a true b ≡ true → P
in_either true b P first second is = first refl
in_either false b P first second is = second is

append_empty : (xs ys : List ℕ) → xs ++ ys ≡ [] → (xs ≡ []) × (ys ≡ [])
append_empty [] ys e = (refl, e)
append_empty (x ∷ xs) ys e = absurd cc

module _ (shape : Shape) (id other : ℕ) (v u : View) (apart : other ≢ id) (no_lock : v.held ≡ []) (nor_lock : u.held ≡ []) where
  -- the pass that has it then
  fold_in : ℕ → ℕ
  fold_in x = cond (eqb x other) id x

  merged : World → World
  merged w = record {
    core = w.core;
    log = w.log;
    lost = w.lost;
    pass_of_cpu = λ c. fold_in (w.pass_of_cpu c);
    pass_of_strand = put (put (λ t. fold_in (w.pass_of_strand t)) w.next id) (suc w.next) other;
    cpus_of_strand = put (put w.cpus_of_strand w.next (v.cpus ++ u.cpus)) (suc w.next) [];
    current = put (put w.current id w.next) other (suc w.next);
    past = put (put w.past id (done w id ++ done w other)) other [];
    next = suc (suc w.next);
    hash = w.hash;
    touches = w.touches;
  }

  fold_id : (x : ℕ) → eqb (fold_in x) id ≡ cond (eqb x id) true (eqb x other)
  unfolding fold_in
  fold_id x =
      by_test x other (λ b. eqb (cond b id x) id ≡ cond (eqb x id) true b)
      (λ e. by_test id id (λ b. b ≡ cond (eqb x id) true true) (λ _. go (eqb x id)) (λ n. absurd (n refl)))
      (λ _. go2 (eqb x id))
    where
      go : (b : Bool) → true ≡ cond b true true
      go true = refl
      go false = refl

      go2 : (b : Bool) → b ≡ cond b true false
      go2 true = refl
      go2 false = refl

  fold_other : (x : ℕ) → eqb (fold_in x) other ≡ false
  unfolding fold_in
  fold_other x = by_test x other (λ b. eqb x other ≡ b → eqb (cond b id x) other ≡ false) (λ _ _. not_one id other (λ e. apart (sym e))) (λ _ h. h) refl

  fold_else : (x j : ℕ) → j ≢ id → j ≢ other → eqb (fold_in x) j ≡ eqb x j
  unfolding fold_in
  fold_else x j not_id not_other =
      by_test x other (λ t. eqb (cond t id x) j ≡ eqb x j) (λ e. not_one id j (λ f. not_id (sym f)) ∙ sym (not_one x j (λ f. not_other (sym f ∙ e)))) (λ _. refl)

  fold_same : (x j : ℕ) → x ≡ j → j ≢ other → fold_in x ≡ j
  unfolding fold_in
  fold_same x j e not_other = by_test x other (λ t. cond t id x ≡ j) (λ f. absurd (not_other (sym e ∙ f))) (λ _. e)

  fold_here : (x : ℕ) → x ≡ other → fold_in x ≡ id
  unfolding fold_in
  fold_here x e = by_test x other (λ t. cond t id x ≡ id) (λ _. refl) (λ f. absurd (f e))

  fold_below : (x n : ℕ) → id < n → x < n → fold_in x < n
  unfolding fold_in
  fold_below x n a b = by_test x other (λ t. cond t id x < n) (λ _. a) (λ _. b)

  old_cpus_of_strand : (w : World) (t : ℕ) → t < w.next → (merged w).cpus_of_strand t ≡ w.cpus_of_strand t
  unfolding merged
  old_cpus_of_strand w t old = put_else _ (suc w.next) [] t (λ e. omega arith) ∙ put_else w.cpus_of_strand w.next _ t (λ e. omega arith)

  old_pass_of_strand : (w : World) (t : ℕ) → t < w.next → (merged w).pass_of_strand t ≡ fold_in (w.pass_of_strand t)
  unfolding merged
  old_pass_of_strand w t old = put_else _ (suc w.next) other t (λ e. omega arith) ∙ put_else _ w.next id t (λ e. omega arith)

  kept_still : (w : World) (j t : ℕ) → j ≢ other → t < w.next → w.pass_of_strand t ≡ j → GoesTo w (merged w) j t
  kept_still w j t not_other old e = (old_pass_of_strand w t old ∙ fold_same (w.pass_of_strand t) j e not_other, old_cpus_of_strand w t old)

  kept_over : (w : World) (t : ℕ) → t < w.next → w.pass_of_strand t ≡ other → GoesTo w (merged w) id t
  kept_over w t old e = (old_pass_of_strand w t old ∙ fold_here (w.pass_of_strand t) e, old_cpus_of_strand w t old)

  hold_both : (w : World) (k : ℕ) (holder : Option ℕ) (log : List Tagged) (lists : Lists) (lost : Bool) → hold_of id w.pass_of_cpu k holder log lists lost ≡ None → hold_of other w.pass_of_cpu k holder log lists lost ≡ None → hold_of id (λ c. fold_in (w.pass_of_cpu c)) k holder log lists lost ≡ None
  hold_both w k None log lists lost a b = refl
  hold_both w k (Some d) log lists lost a b = ap (λ t. cond t (Some (hold k d log lists lost)) None) (fold_id (w.pass_of_cpu d)) ∙ go (eqb (w.pass_of_cpu d) id) (eqb (w.pass_of_cpu d) other) a b
    where
      go : (p q : Bool) → cond p (Some (hold k d log lists lost)) None ≡ None → cond q (Some (hold k d log lists lost)) None ≡ None → cond (cond p true q) (Some (hold k d log lists lost)) None ≡ None
      go true q a b = a
      go false q a b = b

  hold_spent : (w : World) (k : ℕ) (holder : Option ℕ) (log : List Tagged) (lists : Lists) (lost : Bool) → hold_of other (λ c. fold_in (w.pass_of_cpu c)) k holder log lists lost ≡ None
  hold_spent w k None log lists lost = refl
  hold_spent w k (Some d) log lists lost = ap (λ t. cond t (Some (hold k d log lists lost)) None) (fold_other (w.pass_of_cpu d))

  hold_else : (w : World) (j k : ℕ) (holder : Option ℕ) (log : List Tagged) (lists : Lists) (lost : Bool) → j ≢ id → j ≢ other → hold_of j (λ c. fold_in (w.pass_of_cpu c)) k holder log lists lost ≡ hold_of j w.pass_of_cpu k holder log lists lost
  hold_else w j k None log lists lost not_id not_other = refl
  hold_else w j k (Some d) log lists lost not_id not_other = ap (λ t. cond t (Some (hold k d log lists lost)) None) (fold_else (w.pass_of_cpu d) j not_id not_other)

  -- what two passes have in hand, by owners or by homes
  hand_both : (w : World) (e d : ℕ) (mine : Bool) (xs ys : List InHand) → is_in_hand_of e d xs ≡ (mine && eqb (w.pass_of_cpu d) id) → is_in_hand_of e d ys ≡ (mine && eqb (w.pass_of_cpu d) other) → is_in_hand_of e d (xs ++ ys) ≡ (mine && eqb (fold_in (w.pass_of_cpu d)) id)
  hand_both w e d mine xs ys first second =
      hand_append e d xs ys ∙ ((λ i. cond (first i) true (second i)) ∙ (both_or mine (eqb (w.pass_of_cpu d) id) (eqb (w.pass_of_cpu d) other) ∙ ap (λ t. mine && t) (sym (fold_id (w.pass_of_cpu d)))))

  among_first_done : (w : World) (t : ℕ) → is_among t (w.current id ∷ w.past id) ≡ true → is_among t (done w id ++ done w other) ≡ true
  among_first_done w t among = among_append t (done w id) (done w other) ∙ ap (λ c. cond c true (is_among t (done w other))) (among_done w id t among)

  among_last_done : (w : World) (t : ℕ) → is_among t (w.current other ∷ w.past other) ≡ true → is_among t (done w id ++ done w other) ≡ true
  among_last_done w t among =
      among_append t (done w id) (done w other) ∙ (ap (λ c. cond (is_among t (done w id)) true c) (among_done w other t among) ∙ go (is_among t (done w id)))
    where
      go : (c : Bool) → cond c true true ≡ true
      go true = refl
      go false = refl

  -- of the two passes, and of others
  new_current : (w : World) → (merged w).current id ≡ w.next
  unfolding merged
  new_current w = put_else (put w.current id w.next) other (suc w.next) id (λ e. apart (sym e)) ∙ put_here w.current id w.next

  new_past : (w : World) → (merged w).past id ≡ done w id ++ done w other
  unfolding merged
  new_past w = put_else (put w.past id (done w id ++ done w other)) other [] id (λ e. apart (sym e)) ∙ put_here w.past id (done w id ++ done w other)

  else_current : (w : World) (j : ℕ) → j ≢ id → j ≢ other → (merged w).current j ≡ w.current j
  unfolding merged
  else_current w j not_id not_other = put_else _ other (suc w.next) j not_other ∙ put_else w.current id w.next j not_id

  else_past : (w : World) (j : ℕ) → j ≢ id → j ≢ other → (merged w).past j ≡ w.past j
  unfolding merged
  else_past w j not_id not_other = put_else _ other [] j not_other ∙ put_else w.past id _ j not_id

  same_turns : (w : World) → SameTurns w (merged w)
  unfolding merged
  same_turns w = record { log = λ _. refl; lost = λ _. refl; next = omega arith; touches = refl }

  -- nothing is in a hand of both
  hands_apart : (s : State Behind View) (r : Rule shape s) → get_elem? s.views id ≡ some v → get_elem? s.views other ≡ some u → (e d : ℕ) → is_in_hand_of e d u.hand ≡ true → is_among d v.cpus ≡ false
  hands_apart s r at_id at_other e d in_hand =
      let w : World = r.world in let kn = r.knows id v at_id in let ku = r.knows other u at_other in
      by_bool (is_among d v.cpus) (λ t. is_among d v.cpus ≡ t → t ≡ false)
      (λ _ among.
      let real = kn.within d among in
      let mine = eqb-true (w.pass_of_cpu d) id (sym (kn.cpus d real) ∙ among) in
      let theirs = eqb-true (w.pass_of_cpu d) other (both_true (is_hand_of d (w.core.owner e)) (eqb (w.pass_of_cpu d) other) (sym (ku.hands e d real) ∙ in_hand)).1 in
      absurd (apart (sym theirs ∙ mine)))
      (λ _ _. refl) refl

  -- the pass with the CPUs of both
  abbrev both_hands : View
  both_hands = record (joined v u) { hand = v.hand ++ u.hand }

  both_know_all : (s : State Behind View) (r : Rule shape s) → get_elem? s.views id ≡ some v → get_elem? s.views other ≡ some u → PassKnows shape (merged r.world) id both_hands
  unfolding merged
  both_know_all s r at_id at_other =
      let w : World = r.world in let w' : World = merged w in let kn = r.knows id v at_id in let ku = r.knows other u at_other in
      let first = past_done shape w id v kn.strand kn.past kn.apart in let second = past_done shape w other u ku.strand ku.past ku.apart in record {
        shape_is = kn.shape_is;
        cpus = λ d less. among_append d v.cpus u.cpus ∙ ((λ i. cond (kn.cpus d less i) true (ku.cpus d less i)) ∙ sym (fold_id (w.pass_of_cpu d)));
        within = λ d among. in_either (is_among d v.cpus) (is_among d u.cpus) (d < shape.cpus) (kn.within d) (ku.within d) (sym (among_append d v.cpus u.cpus) ∙ among);
        held = λ k. sym (hold_both w k (w.core.holder k) (w.log k) (w.core.lists k) (w.lost k) (sym (kn.held k) ∙ ap (hold_at k) no_lock) (sym (ku.held k) ∙ ap (hold_at k) nor_lock));
        ascends = tt;
        noted = tt;
        hands = λ e d less. hand_both w e d (is_hand_of d (w.core.owner e)) v.hand u.hand (kn.hands e d less) (ku.hands e d less);
        carried = λ e d less. hand_both w e d (is_home_of d (w.core.home e)) v.carried u.carried (kn.carried e d less) (ku.carried e d less);
        hashes = λ e d noted within found. ⊎_elim
            (λ (first : hash_known e d v.hashes ≡ Some noted). let is = kn.hashes e d noted within first in record { in_hand = hand_append e d v.hand u.hand ∙ ap (λ (t : Bool). cond t true (is_in_hand_of e d u.hand)) is.in_hand; bucket_is = is.bucket_is })
            (λ (second : hash_known e d u.hashes ≡ Some noted). let is = ku.hashes e d noted within second in record { in_hand = hand_append e d v.hand u.hand ∙ or_there (is_in_hand_of e d v.hand) (is_in_hand_of e d u.hand) is.in_hand; bucket_is = is.bucket_is })
            (known_append e d noted v.hashes u.hashes found);
        hashed = λ lru e d lock real within in_hand at. let k : ℕ = lock_number shape lock in
            by_bool (is_in_hand_of e d v.hand) (λ t. is_in_hand_of e d v.hand ≡ t → IsHashed shape w.core.holder w.log w.hash (v.hashes ++ u.hashes) [] k e d)
            (λ first _. hashed_with shape w.core.holder w.log w.hash v.hashes (v.hashes ++ u.hashes) v.notes v.held k e d no_lock (λ noted found. known_first e d noted v.hashes u.hashes found) (kn.hashed lru e d lock real within first at))
            (λ not_first _. hashed_with shape w.core.holder w.log w.hash u.hashes (v.hashes ++ u.hashes) u.notes u.held k e d nor_lock
            (λ noted found. known_second e d v.hashes u.hashes (none_noted e d v.hashes (hash_known e d v.hashes) refl (λ before known. true_false (sym (kn.hashes e d before within known).in_hand ∙ not_first))) ∙ found)
            (ku.hashed lru e d lock real within (sym (hand_append e d v.hand u.hand ∙ ap (λ (t : Bool). cond t true (is_in_hand_of e d u.hand)) not_first) ∙ in_hand) at)) refl;
        rowed = λ lru k e hold found. absurd (none_some found);
        homes_read = tt;
        readings = λ e d read within found. ⊎_elim
            (λ (first : home_known e d v.readings ≡ Some read). let is = kn.readings e d read within first in record { real = is.real; in_hand = hand_append e d v.hand u.hand ∙ ap (λ (t : Bool). cond t true (is_in_hand_of e d u.hand)) is.in_hand; counted = is.counted; still = is.still })
            (λ (second : home_known e d u.readings ≡ Some read). let is = ku.readings e d read within second in record { real = is.real; in_hand = hand_append e d v.hand u.hand ∙ or_there (is_in_hand_of e d v.hand) (is_in_hand_of e d u.hand) is.in_hand; counted = is.counted; still = is.still })
            (append_home e d read v.readings u.readings found);
        known = λ k log f. absurd (none_some f);
        bits = λ e bit f. absurd (none_some f);
        only = inl (refl, refl);
        losses = λ k among. lock_still_lost shape w w' k (λ found. found) (in_either (is_among k v.lost) (is_among k u.lost) (IsLostLock shape w k) (kn.losses k) (ku.losses k) (sym (among_append k v.lost u.lost) ∙ among));
        strand = subst (λ (z : ℕ). IsStrand shape w' id z (v.cpus ++ u.cpus) [] [] []) (sym (new_current w)) record {
          pass_of_strand = put_else (put (λ t. fold_in (w.pass_of_strand t)) w.next id) (suc w.next) other w.next (λ e. omega arith) ∙ put_here (λ t. fold_in (w.pass_of_strand t)) w.next id;
          numbered = omega arith;
          cpus_of_strand = put_else (put w.cpus_of_strand w.next (v.cpus ++ u.cpus)) (suc w.next) [] w.next (λ e. omega arith) ∙ put_here w.cpus_of_strand w.next (v.cpus ++ u.cpus);
          steps_are = λ k. sym (no_turns_yet w (length s.views) w.next 0 (w.log k) (omega arith) (r.tagged k));
          stand = tt;
          kept_are = λ k below is found. refl;
          touched_are = sym (no_touches_yet w (length s.views) w.next w.touches (omega arith) r.of_strands);
        };
        past = subst (λ z. ArePast shape w' id z (all_strands v ++ all_strands u)) (sym (new_past w))
            (past_append shape w' id (done w id) (done w other) (all_strands v) (all_strands u)
            (past_moves shape w w' id id (done w id) (all_strands v) (same_turns w) (λ t old e. kept_still w id t (λ f. apart (sym f)) old e) first)
            (past_moves shape w w' other id (done w other) (all_strands u) (same_turns w) (λ t old e. kept_over w t old e) second)
            (λ t among. not_theirs shape w id other t (done w other) (all_strands u) second (past_pass_of_strand shape w id t (done w id) (all_strands v) first among) (λ f. apart (sym f))));
        apart = ap (λ z. is_among z (w'.past id)) (new_current w) ∙ (ap (is_among w.next) (new_past w) ∙ (among_append w.next (done w id) (done w other)
            ∙ (ap (λ b. cond b true (is_among w.next (done w other))) (fresh_done shape w id w.next v kn.strand kn.past (omega arith)) ∙ fresh_done shape w other w.next u ku.strand ku.past (omega arith))));
        idle = λ e. let none = append_empty v.cpus u.cpus e in let a = kn.idle none.0 in let b = ku.idle none.1 in
            ((refl, tt), no_steps_append (all_strands v) (all_strands u) (no_steps_append v.ended (current_strand v ∷ []) a.1 (a.0, tt)) (no_steps_append u.ended (current_strand u ∷ []) b.1 (b.0, tt)));
      }

  both_know : (s : State Behind View) (r : Rule shape s) → get_elem? s.views id ≡ some v → get_elem? s.views other ≡ some u → PassKnows shape (merged r.world) id (joined v u)
  both_know s r at_id at_other =
      subst (λ (hand : List InHand). PassKnows shape (merged r.world) id (record (joined v u) { hand = v.hand ++ hand })) (sym (none_taken v.cpus u.hand (hands_apart s r at_id at_other)))
      (both_know_all s r at_id at_other)

  -- what is left of the other
  spent_knows : (s : State Behind View) (r : Rule shape s) → get_elem? s.views other ≡ some u → PassKnows shape (merged r.world) other (spent u.shape)
  unfolding merged
  spent_knows s r at_other =
      let w : World = r.world in let w' : World = merged w in let ku = r.knows other u at_other in record {
        shape_is = ku.shape_is;
        cpus = λ d less. sym (fold_other (w.pass_of_cpu d));
        within = λ d among. true_false (sym among);
        held = λ k. sym (hold_spent w k (w.core.holder k) (w.log k) (w.core.lists k) (w.lost k));
        ascends = tt;
        noted = tt;
        hands = λ e d less. sym (ap (λ t. is_hand_of d (w.core.owner e) && t) (fold_other (w.pass_of_cpu d)) ∙ and_false (is_hand_of d (w.core.owner e)));
        carried = λ e d less. sym (ap (λ t. is_home_of d (w.core.home e) && t) (fold_other (w.pass_of_cpu d)) ∙ and_false (is_home_of d (w.core.home e)));
        hashes = λ e d noted within found. absurd (none_some found);
        hashed = λ lru e d lock real within in_hand at. true_false (sym in_hand);
        rowed = λ lru k e hold found. absurd (none_some found);
        homes_read = tt;
        readings = λ e d read within found. absurd (none_some found);
        known = λ k log f. absurd (none_some f);
        bits = λ e bit f. absurd (none_some f);
        only = inl (refl, refl);
        losses = λ k among. true_false (sym among);
        strand = subst (λ (z : ℕ). IsStrand shape w' other z [] [] [] []) (sym (put_here (put w.current id w.next) other (suc w.next))) record {
          pass_of_strand = put_here (put (λ t. fold_in (w.pass_of_strand t)) w.next id) (suc w.next) other;
          numbered = omega arith;
          cpus_of_strand = put_here (put w.cpus_of_strand w.next (v.cpus ++ u.cpus)) (suc w.next) [];
          steps_are = λ k. sym (no_turns_yet w (length s.views) (suc w.next) 0 (w.log k) (omega arith) (r.tagged k));
          stand = tt;
          kept_are = λ k below is found. refl;
          touched_are = sym (no_touches_yet w (length s.views) (suc w.next) w.touches (omega arith) r.of_strands);
        };
        past = subst (λ z. ArePast shape w' other z []) (sym (put_here (put w.past id (done w id ++ done w other)) other [])) tt;
        apart = ap (λ z. is_among (w'.current other) z) (put_here (put w.past id (done w id ++ done w other)) other []);
        idle = λ _. ((refl, tt), tt);
      }

  -- any other pass
  beside : (s : State Behind View) (r : Rule shape s) (j : ℕ) (x : View) → get_elem? s.views j ≡ some x → j ≢ id → j ≢ other → PassKnows shape (merged r.world) j x
  unfolding merged
  beside s r j x at_j not_id not_other =
      let w : World = r.world in let w' : World = merged w in let kx = r.knows j x at_j in record {
        shape_is = kx.shape_is;
        cpus = λ d less. kx.cpus d less ∙ sym (fold_else (w.pass_of_cpu d) j not_id not_other);
        within = kx.within;
        held = λ k. kx.held k ∙ sym (hold_else w j k (w.core.holder k) (w.log k) (w.core.lists k) (w.lost k) not_id not_other);
        ascends = kx.ascends;
        noted = kx.noted;
        hands = λ e d less. kx.hands e d less ∙ ap (λ b. is_hand_of d (w.core.owner e) && b) (sym (fold_else (w.pass_of_cpu d) j not_id not_other));
        carried = λ e d less. kx.carried e d less ∙ ap (λ b. is_home_of d (w.core.home e) && b) (sym (fold_else (w.pass_of_cpu d) j not_id not_other));
        hashes = λ e d noted within found. kx.hashes e d noted within found;
        hashed = kx.hashed;
        rowed = kx.rowed;
        homes_read = kx.homes_read;
        readings = kx.readings;
        known = kx.known;
        bits = kx.bits;
        only = kx.only;
        losses = λ k among. lock_still_lost shape w w' k (λ found. found) (kx.losses k among);
        strand = subst (λ (z : ℕ). IsStrand shape w' j z x.cpus x.steps x.kept x.touched) (sym (else_current w j not_id not_other))
            (strand_moves shape w w' j j (w.current j) x.cpus x.steps x.kept x.touched (same_turns w) (λ old e. kept_still w j (w.current j) not_other old e) kx.strand);
        past = subst (λ z. ArePast shape w' j z x.ended) (sym (else_past w j not_id not_other))
            (past_moves shape w w' j j (w.past j) x.ended (same_turns w) (λ t old e. kept_still w j t not_other old e) kx.past);
        apart = ap (λ z. is_among z (w'.past j)) (else_current w j not_id not_other) ∙ (ap (is_among (w.current j)) (else_past w j not_id not_other) ∙ kx.apart);
        idle = kx.idle;
      }

  -- the strand of a turn
  listed_on : (w : World) (n t : ℕ) → id < n → w.pass_of_strand t < n → t < w.next → is_among t (w.current (w.pass_of_strand t) ∷ w.past (w.pass_of_strand t)) ≡ true → StaysListed w (merged w) n t
  unfolding merged
  listed_on w n t here below old among =
      let w' : World = merged w in
      by_test (w.pass_of_strand t) other (λ _. StaysListed w (merged w) n t)
      (λ own. let to = kept_over w t old own in (
        (let g : w'.pass_of_strand t ≡ id = to.0 in omega arith),
        omega arith,
        to.1,
        subst (λ (z : ℕ). is_among t (w'.current z ∷ w'.past z) ≡ true) (sym to.0)
            (among_later t (w'.current id) (w'.past id) (ap (is_among t) (new_past w) ∙ among_last_done w t (subst (λ (z : ℕ). is_among t (w.current z ∷ w.past z) ≡ true) own among))),
      ))
      (λ not_other. by_test (w.pass_of_strand t) id (λ _. StaysListed w (merged w) n t)
      (λ own. let to = kept_still w id t (λ f. apart (sym f)) old own in (
        (let g : w'.pass_of_strand t ≡ id = to.0 in omega arith),
        omega arith,
        to.1,
        subst (λ (z : ℕ). is_among t (w'.current z ∷ w'.past z) ≡ true) (sym to.0)
            (among_later t (w'.current id) (w'.past id) (ap (is_among t) (new_past w) ∙ among_first_done w t (subst (λ (z : ℕ). is_among t (w.current z ∷ w.past z) ≡ true) own among))),
      ))
      (λ not_id. let to = kept_still w (w.pass_of_strand t) t not_other old refl in (
        (let g : w'.pass_of_strand t ≡ w.pass_of_strand t = to.0 in omega arith),
        omega arith,
        to.1,
        subst (λ (z : ℕ). is_among t (w'.current z ∷ w'.past z) ≡ true) (sym to.0)
            (ap (λ (z : ℕ). is_among t (z ∷ w'.past (w.pass_of_strand t))) (else_current w (w.pass_of_strand t) not_id not_other)
            ∙ (ap (λ z. is_among t (w.current (w.pass_of_strand t) ∷ z)) (else_past w (w.pass_of_strand t) not_id not_other) ∙ among)),
      )))

  pub joins : Joins (Rule shape) id v other u (joined v u) (spent u.shape)
  unfolding merged fold_in
  joins s r at_id _ at_there =
      let w : World = r.world in let w' : World = merged w in let both : View = joined v u in let gone : View = spent u.shape in
      let at_other : get_elem? s.views other ≡ some u = ⊎_elim (λ t. absurd (apart t.0)) (λ t. t.1) (at_set s.views id other both u at_there) in
      let here : id < length s.views = there s.views id v at_id in
      let long : length (set (set s.views id both) other gone) ≡ length s.views = length-set (set s.views id both) other gone ∙ length-set s.views id both in record {
        world = w';
        is_shape = r.is_shape;
        words = r.words;
        slots = r.slots;
        lock_words = r.lock_words;
        owner_words = r.owner_words;
        home_words = r.home_words;
        bit_words = r.bit_words;
        placed = r.placed;
        ranked = r.ranked;
        hashes = r.hashes;
        legal = r.legal;
        real = r.real;
        unmarked = λ plain y is_set. marked_on (set s.views id both) other u gone at_there (none_marked u.held u.notes gone.notes nor_lock) y
            (marked_on s.views id v both at_id (none_marked v.held v.notes both.notes no_lock) y (r.unmarked plain y is_set));
        homes = r.homes;
        seated = λ d less. subst (λ (z : ℕ). fold_in (w.pass_of_cpu d) < z) (sym long) (fold_below (w.pass_of_cpu d) (length s.views) here (r.seated d less));
        tagged = λ k. tagged_moves w w' (length s.views) (length (set (set s.views id both) other gone)) (w.log k)
            (λ t below old among. subst (λ (z : ℕ). StaysListed w w' z t) (sym long) (listed_on w (length s.views) t here below old among)) (r.tagged k);
        in_time = r.in_time;
        gave_back = r.gave_back;
        lead = r.lead;
        tickets = tickets_joined shape (get_or s.words (ticket_word shape) 0) (logs_of w) w.lost w.pass_of_cpu (λ d. fold_in (w.pass_of_cpu d)) s.views id other v u at_id at_other no_lock nor_lock
            (λ d not_id not_other. by_test (w.pass_of_cpu d) other (λ b. cond b id (w.pass_of_cpu d) ≡ w.pass_of_cpu d) (λ same. absurd (not_other same)) (λ _. refl))
            (λ d which. by_test (w.pass_of_cpu d) other (λ b. cond b id (w.pass_of_cpu d) ≡ id) (λ _. refl)
            (λ not_other. ⊎_elim (λ (mine : w.pass_of_cpu d ≡ id). mine) (λ (theirs : w.pass_of_cpu d ≡ other). absurd (not_other theirs)) which)) apart r.tickets;
        owners = λ lru none. owners_idle shape (get_or s.words (ticket_word shape) 0) w.core.owner w.core.home w.hash (logs_of w) (set s.views id both) other u gone at_there nor_lock record { held = refl; notes = refl; unread = refl }
            (owners_idle shape (get_or s.words (ticket_word shape) 0) w.core.owner w.core.home w.hash (logs_of w) s.views id v both at_id no_lock record { held = refl; notes = refl; unread = refl } (r.owners lru none));
        of_strands = of_strands_move w w' (length s.views) (length (set (set s.views id both) other gone)) w.touches
            (λ t below old among. subst (λ (z : ℕ). StaysListed w w' z t) (sym long) (listed_on w (length s.views) t here below old among)) r.of_strands;
        knows = λ j x f. ⊎_elim
            (λ t. subst (λ (z : ℕ × View). PassKnows shape w' z.0 z.1) (λ i. (sym t.0 i, t.1 i)) (spent_knows s r at_other))
            (λ g. ⊎_elim
            (λ t. subst (λ (z : ℕ × View). PassKnows shape w' z.0 z.1) (λ i. (sym t.0 i, t.1 i)) (both_know s r at_id at_other))
            (λ t. beside s r j x t.1 t.0 g.0)
            (at_set s.views id j both x g.1))
            (at_set (set s.views id both) other j gone x f);
      }

  -- and no step of the core
  pub joins_no_step : (s : State Behind View) (r : Rule shape s) → get_elem? s.views id ≡ some v → get_elem? (set s.views id (joined v u)) other ≡ some u
      → (after : Rule shape record { words = s.words; homes = s.homes; views = set (set s.views id (joined v u)) other (spent u.shape) }) × (after.world.core ≡ r.world.core)
  unfolding merged joins
  joins_no_step s r at_id at_there = (joins s r at_id apart at_there, refl)
