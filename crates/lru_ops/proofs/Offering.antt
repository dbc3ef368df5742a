-- Updates: from the turn of the key's bucket to what the call leaves.
use Rattle.std.proofs.Common.{◌≡◌, ℕ, ◌<◌, ◌≤◌, Bool, cond, true, false, List, [], ◌∷◌, ◌++◌, map, inl, inr, sym, refl, ap, ◌∙◌, subst, arith, Option, Some, None}
use Rattle.std.specs.Prelude.{IsTrue, IsFalse, MatchBool, option_map, Result, Ok, Err, ◌&&◌, ◌==◌}
use Rattle.std.proofs.lemmas.List.{map-append}
use Rattle.std.proofs.lemmas.List.Elements.{All-nil}
use Rattle.key_hash.specs.Jhash.{hash}
use Rattle.map_types.specs.declared.call.Verb.TheVariants as verbs
use Rattle.map_types.specs.declared.kind.DomainId.TheVariants.{Bucket}
use Rattle.map_types.specs.declared.kind.Side.{Side}
use Rattle.map_types.specs.declared.refusal.Errno.TheVariants as errnos
use Rattle.map_types.specs.declared.reply.Reply.{Reply}
use Rattle.map_types.specs.declared.reply.Reply.TheVariants.{Done, Refused}
use Rattle.map_types.specs.Kind.{is_lru, is_percpu}
use Rattle.map_types.specs.Stored.{Stored, IsSized}
use Rattle.map_types.proofs.RowLemmas.{by_test}
use Rattle.percpu_values.specs.BodyList.{BodyList}
use Rattle.place_words.specs.declared.bucket_part.BucketPart.{BucketPart}
use Rattle.place_words.specs.declared.bucket_part.Put.{Put}
use Rattle.place_words.specs.declared.bucket_part.Put.TheVariants as puts
use Rattle.place_words.specs.declared.history.Part.{Part}
use Rattle.place_words.specs.declared.history.Part.TheVariants as parts
use Rattle.place_words.specs.Evicting.{FreesOne, left_over, IsOfferTrace, IsWriteTrace, IsEvictingUpdate}
use Rattle.place_words.specs.Turns.{Turn, TurnAt, bucket_of_key, on_lock, on_bucket_of}
use Rattle.place_table.specs.BucketPuts.{PutsInPlace, Writes, Adds, Replaces, update_part}
use Rattle.place_table.specs.declared.view.InHand.{InHand}
use Rattle.place_table.specs.declared.view.Turned.{Turned}
use Rattle.place_table.specs.Calls.{CanCall, Called, CalledWhole, spare_element, finds_moved_on}
use Rattle.place_table.specs.Known.{BitTouch, Learns, turn_of, turn_at, IsBy}
use Rattle.place_table.specs.Passes.{PassView, TableView}
use Rattle.place_table.specs.Views.{is_in_hand_of, bucket_known, with_in_hand, without_in_hand}
use Rattle.place_table.proofs.Entries.{append_nil}
use Rattle.place_table.proofs.Going.{goes_nowhere, goes_of_table, goes_begun, learns_none}
use Rattle.place_table.proofs.Hands.{in_hand_more, in_hand_more_else, in_hand_less, in_hand_less_else, hand_back}
use Rattle.place_table.proofs.Worlds.{by_bool, true_false, some_is, none_some}
use Rattle.lru_ops.specs.declared.map.LruRefusal.{LruRefusal}
use Rattle.lru_ops.specs.declared.map.LruRefusal.TheVariants as refusals
use Rattle.lru_ops.specs.Calls.{FoundNoElement, Updates}
use Rattle.lru_ops.specs.Lists.{Changed, Acquired, CanFree}
use Rattle.lru_ops.specs.Offers.{asked_of, IsOffered, Offers, PutsAlone, OfferEnds, AloneEnds, CanFreeLeft, HasFreedLeft, CanOffer, IsOutOfHand, HasOffered, OfferAnswers, hand_after, offer_of, update_call}
use Rattle.lru_ops.specs.Under.{Enters, GivenBack, IsOut}
use Rattle.lru_ops.proofs.Ends.{changed_on, changed_given, in_no_hand, called_changed, trace_here}

-- Turns of the bucket of a key

-- the turn is one of the bucket of the key
turn_here : {t : TableView} {bucket : ℕ} {q s : PassView} {part : BucketPart} {hand : List InHand} (key : List ℕ) → bucket ≡ bucket_of_key t.shape key → (given : GivenBack t bucket q s (parts.Bucket part) hand) → turn_of t.shape given.told ≡ on_bucket_of t.shape key part
turn_here {t} {bucket} {q} {s} {part} {hand} key here given = given.turn ∙ ap (λ (b : ℕ). on_lock (Bucket b) (parts.Bucket part)) here

-- Calls that take no element

module _ {t : TableView} {bucket : ℕ} {p q : PassView} {chain : BodyList} (can : CanCall t p) (enters : Enters t bucket p q chain) where
  lru : IsTrue (is_lru t.shape.kind)
  lru = enters.evicts

  hand_kept : {s : PassView} {part : Part} → GivenBack t bucket q s part q.view.hand → (e c : ℕ) → is_in_hand_of e c s.view.hand ≡ is_in_hand_of e c p.view.hand
  hand_kept given e c = ap (is_in_hand_of e c) (given.hand_is ∙ ap (λ (z : PassView). z.view.hand) enters.took.after_is)

  -- a value for each CPU, and BPF_EXIST
  module _ (s : PassView) (side : Side) (key value : List ℕ) (here : bucket ≡ bucket_of_key t.shape key) (percpu : is_percpu t.shape.kind ≡ true) where
    wrote_alone : (reply : Reply) → PutsAlone t bucket q s (update_call side 2 key value) reply → Called t p s (verbs.Update side 2 key value) reply
    wrote_alone reply a =
        let turns : List TurnAt = map (turn_at t.shape) (a.gives.told ∷ []) in
        let trace : IsWriteTrace t.shape side 2 key value turns reply = record { put = a.put; may_put = a.may_put; turns_are = ap (λ (x : Turn). x ∷ []) (turn_here key here a.gives); reply_is = a.reply_is } in
        called_changed (verbs.Update side 2 key value) reply can lru (changed_given can.in_no_call.holds_nothing enters a.gives) (hand_kept a.gives)
        (trace_here t.shape p.cpu (spare_element p) (verbs.Update side 2 key value) turns reply lru
        (inr (known, subst (λ b. MatchBool (b && (2 == 2)) (IsWriteTrace t.shape side 2 key value turns reply) (IsOfferTrace t.shape p.cpu side 2 key value turns reply)) (sym percpu) trace)))
      where
        known : 2 ≤ 2
        known = omega arith

    pub updates_alone : (result : Result (Unit {0}) LruRefusal) → AloneEnds t bucket q s (update_call side 2 key value) result → Updates t p s (update_call side 2 key value) result
    updates_alone (Ok done) ends = wrote_alone Done ends
    updates_alone (Err refusals.Einval) ends = absurd ends
    updates_alone (Err refusals.Enoent) ends = wrote_alone (Refused errnos.Enoent) ends
    updates_alone (Err refusals.Eexist) ends = absurd ends
    updates_alone (Err refusals.Enomem) ends = absurd ends

-- The turn of an update that was offered an element, from what was put there by a pass that holds the bucket

-- what was offered may be left over
stays_out : {t : TableView} {bucket : ℕ} {q : PassView} {body : Stored} → body.element < t.shape.elements → IsOffered t bucket q body → IsOut t (Some body)
stays_out real offered = (real, offered.sized)

module _ {t : TableView} {bucket : ℕ} {q s : PassView} {side : Side} {flags : ℕ} {key value : List ℕ} {body : Stored} (real : body.element < t.shape.elements) (offered : IsOffered t bucket q body) {e : ℕ} (e_is : e ≡ body.element) where
  pub offers_exists : PutsInPlace t bucket q s (asked_of side flags key value (Some e)) puts.Exists → Offers t bucket q s (offer_of side flags key value body.element) (Some body) (Refused errnos.Eexist)
  offers_exists given = record { put = puts.Exists; may_put = tt; gives = subst (λ (n : ℕ). PutsInPlace t bucket q s (asked_of side flags key value (Some n)) puts.Exists) e_is given; left_is = refl; is_out = stays_out real offered; reply_is = refl }

  pub offers_absent : PutsInPlace t bucket q s (asked_of side flags key value (Some e)) puts.Absent → Offers t bucket q s (offer_of side flags key value body.element) (Some body) (Refused errnos.Enoent)
  offers_absent given = record { put = puts.Absent; may_put = tt; gives = subst (λ (n : ℕ). PutsInPlace t bucket q s (asked_of side flags key value (Some n)) puts.Absent) e_is given; left_is = refl; is_out = stays_out real offered; reply_is = refl }

  pub offers_written : IsTrue (is_percpu t.shape.kind) → Writes t bucket q s (asked_of side flags key value (Some e)) → Offers t bucket q s (offer_of side flags key value body.element) (Some body) Done
  offers_written percpu w = record { put = puts.Written w.written; may_put = percpu; gives = subst (λ (n : ℕ). PutsInPlace t bucket q s (asked_of side flags key value (Some n)) (puts.Written w.written)) e_is w.gives; left_is = refl; is_out = stays_out real offered; reply_is = refl }

module _ {t : TableView} {bucket : ℕ} {q s : PassView} {side : Side} {flags : ℕ} {key value : List ℕ} {e : ℕ} (lru : IsTrue (is_lru t.shape.kind)) where
  pub offers_added : Adds t bucket q s (update_call side flags key value) e → Offers t bucket q s (offer_of side flags key value e) None Done
  offers_added given = record {
    put = puts.Added e;
    may_put = refl;
    gives = subst (λ (offer : Option ℕ). GivenBack t bucket q s (update_part (asked_of side flags key value offer) (puts.Added e)) (without_in_hand e q.cpu q.view.hand)) (ap (λ b. cond b (Some e) None) lru) given;
    left_is = refl;
    is_out = tt;
    reply_is = refl;
  }

  pub offers_replaced : {old : Stored} → is_percpu t.shape.kind ≡ false → Replaces t bucket q s (update_call side flags key value) e old → Offers t bucket q s (offer_of side flags key value e) (Some old) Done
  offers_replaced {old} single r = record {
    put = puts.Replaced e old.element;
    may_put = (refl, single);
    gives = subst (λ (offer : Option ℕ). GivenBack t bucket q s (update_part (asked_of side flags key value offer) (puts.Replaced e old.element)) (with_in_hand old.element q.cpu (without_in_hand e q.cpu q.view.hand))) (ap (λ b. cond b (Some e) None) lru) r.gives;
    left_is = refl;
    is_out = r.is_out;
    reply_is = refl;
  }

-- Hands

-- without the element that is left over
abbrev hand_less : Option ℕ → ℕ → List InHand → List InHand
hand_less None cpu hand = hand
hand_less (Some e) cpu hand = without_in_hand e cpu hand

module _ (e cpu : ℕ) (hand : List InHand) where
  -- the CPU has nothing else in hand
  abbrev IsOnly : Type 0
  IsOnly = (x : ℕ) → is_in_hand_of x cpu hand ≡ true → x ≡ e

  none_left : IsOnly → (x : ℕ) → is_in_hand_of x cpu (without_in_hand e cpu hand) ≡ false
  none_left only x =
      by_test x e (λ _. is_in_hand_of x cpu (without_in_hand e cpu hand) ≡ false)
      (λ same. ap (λ n. is_in_hand_of n cpu (without_in_hand e cpu hand)) same ∙ in_hand_less e cpu hand)
      (λ other. in_hand_less_else x cpu e cpu hand (λ same _. other same)
      ∙ by_bool (is_in_hand_of x cpu hand) (λ z. is_in_hand_of x cpu hand ≡ z → z ≡ false) (λ yes _. absurd (other (only x yes))) (λ _ _. refl) refl)

  out_after : IsOnly → (put : Put) (x c : ℕ) → is_in_hand_of x c (hand_less (left_over e put) cpu (hand_after e put cpu hand)) ≡ is_in_hand_of x c (without_in_hand e cpu hand)
  out_after only (puts.Added added) x c = refl
  out_after only (puts.Replaced new old) x c = hand_back old cpu (without_in_hand e cpu hand) (none_left only old) x c
  out_after only (puts.Written written) x c = refl
  out_after only puts.Exists x c = refl
  out_after only puts.Absent x c = refl
  out_after only puts.Full x c = refl

  left_in_hand : is_in_hand_of e cpu hand ≡ true → (put : Put) (x : ℕ) → Some x ≡ left_over e put → is_in_hand_of x cpu (hand_after e put cpu hand) ≡ true
  left_in_hand there (puts.Added added) x is = absurd (none_some (sym is))
  left_in_hand there (puts.Replaced new old) x is = subst (λ n. is_in_hand_of n cpu (with_in_hand old cpu (without_in_hand e cpu hand)) ≡ true) (sym (some_is is)) (in_hand_more old cpu (without_in_hand e cpu hand))
  left_in_hand there (puts.Written written) x is = subst (λ n. is_in_hand_of n cpu hand ≡ true) (sym (some_is is)) there
  left_in_hand there puts.Exists x is = subst (λ n. is_in_hand_of n cpu hand ≡ true) (sym (some_is is)) there
  left_in_hand there puts.Absent x is = subst (λ n. is_in_hand_of n cpu hand ≡ true) (sym (some_is is)) there
  left_in_hand there puts.Full x is = subst (λ n. is_in_hand_of n cpu hand ≡ true) (sym (some_is is)) there

-- An element that was taken

-- what is left over was freed, by these turns
record LeftFreed (t : TableView) (left : Option ℕ) (r s : PassView) : Type 0 where
  pub steps : List Turned
  pub changed : Changed t r s steps steps []
  pub frees : FreesOne t.shape left (map (turn_at t.shape) steps)
  pub hand : s.view.hand ≡ hand_less left r.cpu r.view.hand

changed_nothing : (t : TableView) (r : PassView) → Changed t r r [] [] []
changed_nothing t r = record {
  told_are = tt;
  made = record { goes = goes_nowhere r; held = refl; notes = refl };
  by_call = All-nil (IsBy r.cpu r.call);
  spares = refl;
  carried = refl;
  learns = subst (Learns t.shape r.view r.view []) (by_bool (is_lru t.shape.kind) (λ (b : Bool). ◌≡◌ {A = List BitTouch} [] (cond b [] [])) (λ _. refl) (λ _. refl)) (learns_none t.shape r.view);
  none_moved = λ _ _ _. All-nil (λ (turn : Turned). IsFalse (finds_moved_on turn.entry.part));
}

left_freed : {t : TableView} {r s : PassView} (left : Option Stored) → HasFreedLeft t left r s → LeftFreed t (option_map (λ (body : Stored). body.element) left) r s
left_freed {t} {r} {s} None freed = record {
  steps = [];
  changed = subst (λ (z : PassView). Changed t r z [] [] []) (sym freed) (changed_nothing t r);
  frees = refl;
  hand = ap (λ (z : PassView). z.view.hand) freed;
}
left_freed {t} {r} {s} (Some body) freed = record { steps = freed.steps; changed = freed.changed; frees = freed.trace; hand = freed.hand }

module _ {t : TableView} {bucket : ℕ} {p q : PassView} {chain : BodyList} {key : List ℕ} {body : Stored} (can : CanOffer t key body p) (here : bucket ≡ bucket_of_key t.shape key) (enters : Enters t bucket p q chain) where
  pub is_offered : IsOffered t bucket q body
  is_offered =
      let after_is = enters.took.after_is in record {
        sized = can.taken.sized;
        in_hand = ap (λ (z : PassView). is_in_hand_of body.element z.cpu z.view.hand) after_is ∙ can.in_hand;
        not_carried = λ _. ap (λ (z : PassView). is_in_hand_of body.element z.cpu z.view.carried) after_is ∙ ap (is_in_hand_of body.element p.cpu) can.carries_nothing;
        hashed = λ _. ap (λ (z : PassView). bucket_known body.element z.cpu z.view.hashes) after_is ∙ (can.taken.hashed ∙ ap Some (sym here));
      }

  -- what is in the CPU's hand once the bucket was given back can be freed
  module _ {r : PassView} {part : Part} {hand : List InHand} (given : GivenBack t bucket q r part hand) where
    can_free_here : (one : Stored) → one.element < t.shape.elements → IsSized t.shape one → is_in_hand_of one.element q.cpu hand ≡ true → CanFree t one r
    can_free_here one real sized in_hand = record {
      of_table = goes_of_table t q r (given.step ∷ []) given.lost given.goes enters.inside.of_table;
      begun = goes_begun q r (given.step ∷ []) given.lost given.goes enters.inside.begun;
      no_lock = given.held;
      real = real;
      sized = sized;
      in_hand = (λ i. is_in_hand_of one.element (given.goes.cpu i) (given.hand_is i)) ∙ in_hand;
      not_carried = ap (is_in_hand_of one.element r.cpu) (given.carried ∙ (ap (λ (z : PassView). z.view.carried) enters.took.after_is ∙ can.carries_nothing));
    }

  -- the hand after the bucket's turn, from that before it
  hand_from : (r s : PassView) {part : Part} (left : Option ℕ) (put : Put) → (given : GivenBack t bucket q r part (hand_after body.element put q.cpu q.view.hand)) → left ≡ left_over body.element put → s.view.hand ≡ hand_less left r.cpu r.view.hand → IsOutOfHand body.element p s
  hand_from r s {part} left put given left_is hand x c =
      ap (is_in_hand_of x c) (hand ∙ (λ i. hand_less (left_is i) (given.goes.cpu i) (given.hand_is i)))
      ∙ (ap (λ (z : PassView). is_in_hand_of x c (hand_less (left_over body.element put) z.cpu (hand_after body.element put z.cpu z.view.hand))) enters.took.after_is
      ∙ out_after body.element p.cpu p.view.hand can.no_other put x c)

  module _ (r : PassView) (side : Side) (flags : ℕ) (value : List ℕ) (left : Option Stored) where
    can_free_over : {reply : Reply} → Offers t bucket q r (offer_of side flags key value body.element) left reply → CanFreeLeft t left r
    can_free_over {reply} o = go left o.is_out o.left_is
      where
        go : (left : Option Stored) → IsOut t left → option_map (λ (one : Stored). one.element) left ≡ left_over body.element o.put → CanFreeLeft t left r
        go None out is = tt
        go (Some one) out is = can_free_here o.gives one out.0 out.1 (left_in_hand body.element q.cpu q.view.hand is_offered.in_hand o.put one.element is)

    offered_done : (s : PassView) {reply : Reply} → Offers t bucket q r (offer_of side flags key value body.element) left reply → HasFreedLeft t left r s → HasOffered t p s (offer_of side flags key value body.element) reply
    offered_done s {reply} o freed =
        let f : LeftFreed t (option_map (λ (one : Stored). one.element) left) r s = left_freed left freed in record {
          steps = o.gives.step ∷ f.steps;
          told = o.gives.told ∷ f.steps;
          lost = o.gives.lost;
          changed = changed_on (changed_given can.no_lock enters o.gives) f.changed;
          trace = record {
            put = o.put;
            may_put = o.may_put;
            at_bucket = turn_at t.shape o.gives.told;
            freeing = map (turn_at t.shape) f.steps;
            turns_are = refl;
            bucket_is = turn_here key here o.gives;
            frees = subst (λ (z : Option ℕ). FreesOne t.shape z (map (turn_at t.shape) f.steps)) o.left_is f.frees;
            reply_is = o.reply_is;
          };
          hand = hand_from r s (option_map (λ (one : Stored). one.element) left) o.put o.gives o.left_is f.hand;
        }

    pub can_free_ends : (answer : Result (Unit {0}) LruRefusal) → OfferEnds t bucket q r (offer_of side flags key value body.element) left answer → CanFreeLeft t left r
    can_free_ends (Ok done) ends = can_free_over ends
    can_free_ends (Err refusals.Einval) ends = absurd ends
    can_free_ends (Err refusals.Enoent) ends = can_free_over ends
    can_free_ends (Err refusals.Eexist) ends = can_free_over ends
    can_free_ends (Err refusals.Enomem) ends = absurd ends

    pub offer_answers : (s : PassView) (answer : Result (Unit {0}) LruRefusal) → OfferEnds t bucket q r (offer_of side flags key value body.element) left answer → HasFreedLeft t left r s → OfferAnswers t p s (offer_of side flags key value body.element) answer
    offer_answers s (Ok done) ends freed = offered_done s ends freed
    offer_answers s (Err refusals.Einval) ends freed = absurd ends
    offer_answers s (Err refusals.Enoent) ends freed = offered_done s ends freed
    offer_answers s (Err refusals.Eexist) ends freed = offered_done s ends freed
    offer_answers s (Err refusals.Enomem) ends freed = absurd ends

-- A whole update

module _ {t : TableView} {p : PassView} (q : PassView) (side : Side) (flags : ℕ) (key value : List ℕ) (can : CanCall t p) (lru : IsTrue (is_lru t.shape.kind)) (known : flags ≤ 2) (takes : (is_percpu t.shape.kind && (flags == 2)) ≡ false) where
  offer_trace : {turns : List TurnAt} {reply : Reply} → IsOfferTrace t.shape p.cpu side flags key value turns reply → IsEvictingUpdate t.shape p.cpu side flags key value turns reply
  offer_trace {turns} {reply} trace = inr (known, subst (λ b. MatchBool b (IsWriteTrace t.shape side flags key value turns reply) (IsOfferTrace t.shape p.cpu side flags key value turns reply)) (sym takes) trace)

  -- none was taken
  pub took_none : Acquired t (hash key t.shape.seed) p q None → FoundNoElement t side flags key value p q
  took_none a = record {
    called =
        called_changed (verbs.Update side flags key value) (Refused errnos.Enomem) can lru a.changed (λ e c. ap (is_in_hand_of e c) a.hand)
        (trace_here t.shape p.cpu (spare_element p) (verbs.Update side flags key value) (map (turn_at t.shape) a.told) (Refused errnos.Enomem) lru
        (offer_trace record { got = None; taking = map (turn_at t.shape) a.told; rest = []; turns_are = sym (append_nil (map (turn_at t.shape) a.told)); takes = a.trace; offers = (refl, refl) }));
    none = a.none;
    saw = a.saw;
  }

  module _ {body : Stored} (a : Acquired t (hash key t.shape.seed) p q (Some body)) where
    pub can_offer : CanOffer t key body q
    can_offer =
        let goes = a.changed.made.goes in record {
          of_table = goes_of_table t p q a.steps a.lost goes can.of_table;
          begun = goes_begun p q a.steps a.lost goes can.begun;
          no_lock = a.changed.made.held ∙ can.in_no_call.holds_nothing;
          carries_nothing = a.changed.carried ∙ can.in_no_call.carries_nothing;
          taken = a.taken;
          in_hand = (λ i. is_in_hand_of body.element (goes.cpu i) (a.hand i)) ∙ in_hand_more body.element p.cpu p.view.hand;
          no_other = λ x there.
              let there_before : is_in_hand_of x p.cpu (with_in_hand body.element p.cpu p.view.hand) ≡ true = (λ i. is_in_hand_of x (sym goes.cpu i) (sym a.hand i)) ∙ there in
              by_test x body.element (λ _. x ≡ body.element) (λ same. same)
              (λ other. true_false (sym there_before ∙ (in_hand_more_else x p.cpu body.element p.cpu p.view.hand (λ same _. other same) ∙ in_no_hand can lru x p.cpu can.begun)));
        }

    hand_out : (s : PassView) → IsOutOfHand body.element q s → (x c : ℕ) → is_in_hand_of x c s.view.hand ≡ is_in_hand_of x c p.view.hand
    hand_out s hand x c =
        hand x c ∙ ((λ i. is_in_hand_of x c (without_in_hand body.element (a.changed.made.goes.cpu i) (a.hand i)))
        ∙ hand_back body.element p.cpu p.view.hand (in_no_hand can lru body.element p.cpu can.begun) x c)

    took_one : (s : PassView) (reply : Reply) → HasOffered t q s (offer_of side flags key value body.element) reply → Called t p s (verbs.Update side flags key value) reply
    took_one s reply o =
        called_changed (verbs.Update side flags key value) reply can lru (changed_on a.changed o.changed) (hand_out s o.hand)
        (trace_here t.shape p.cpu (spare_element p) (verbs.Update side flags key value) (map (turn_at t.shape) (a.told ++ o.told)) reply lru
        (offer_trace record {
          got = Some body.element;
          taking = map (turn_at t.shape) a.told;
          rest = map (turn_at t.shape) o.told;
          turns_are = map-append (turn_at t.shape) a.told o.told;
          takes = a.trace;
          offers = o.trace;
        }))

    pub updates_offered : (s : PassView) (answer : Result (Unit {0}) LruRefusal) → OfferAnswers t q s (offer_of side flags key value body.element) answer → Updates t p s (update_call side flags key value) answer
    updates_offered s (Ok done) answers = took_one s Done answers
    updates_offered s (Err refusals.Einval) answers = absurd answers
    updates_offered s (Err refusals.Enoent) answers = took_one s (Refused errnos.Enoent) answers
    updates_offered s (Err refusals.Eexist) answers = took_one s (Refused errnos.Eexist) answers
    updates_offered s (Err refusals.Enomem) answers = absurd answers

by_either : (evicts : Bool) (P Q : Type 0) → P → Q → MatchBool evicts P Q
by_either true P Q first second = first
by_either false P Q first second = second

either_same : (evicts : Bool) (spare : Option ℕ) → spare ≡ cond evicts spare spare
either_same true spare = refl
either_same false spare = refl

-- flags that are unknown are refused, and nothing was done
pub called_unknown : {t : TableView} {p : PassView} (side : Side) (flags : ℕ) (key value : List ℕ) → CanCall t p → 2 < flags → CalledWhole t p p (verbs.Update side flags key value) (Refused errnos.Einval)
called_unknown {t} {p} side flags key value can unknown =
    let changed = changed_nothing t p in (
      record {
        steps = [];
        told = [];
        lost = [];
        told_are = tt;
        leaves = record {
          made = changed.made;
          in_no_call = can.in_no_call;
          by_call = changed.by_call;
          other_spares = λ other _. refl;
          bits = λ plain. refl;
          learns = changed.learns;
        };
        trace = by_either (is_lru t.shape.kind) _ _ (inl (unknown, refl, refl)) (inl (unknown, refl, refl));
        none_moved = changed.none_moved;
        spare = either_same (is_lru t.shape.kind) (spare_element p);
      },
      refl,
    )
