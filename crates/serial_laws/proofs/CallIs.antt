-- What a call on one key does on a map that evicts is determined by its trace: its turns and its reply are those of a run in
-- serial order.
use Rattle.std.proofs.Common.{◌≡◌, ℕ, ◌+◌, Bool, true, false, ◌&&◌, eqb, List, [], ◌∷◌, ◌++◌, refl, ap, ◌∙◌, sym, subst, inl, inr, arith}
use Rattle.std.specs.Prelude.{Option, None, Some, MatchBool, MatchOption, option_map, option_to_list, nat_lt}
use Rattle.std.proofs.lemmas.Bool.{cond-true, cond-false, lt-ltb, le-ltb}
use Rattle.std.proofs.lemmas.List.{map-append}
use Rattle.map_types.specs.declared.attr.Shape.{Shape}
use Rattle.map_types.specs.declared.call.Verb.{Verb}
use Rattle.map_types.specs.declared.call.Verb.TheVariants as verbs
use Rattle.map_types.specs.declared.kind.DomainId.{DomainId}
use Rattle.map_types.specs.declared.kind.DomainId.TheVariants.{Bucket}
use Rattle.map_types.specs.declared.kind.Side.{Side}
use Rattle.map_types.specs.declared.kind.Side.TheVariants.{Sys}
use Rattle.map_types.specs.declared.refusal.Errno.TheVariants.{Enomem}
use Rattle.map_types.specs.declared.reply.Reply.{Reply}
use Rattle.map_types.specs.declared.reply.Reply.TheVariants.{Refused}
use Rattle.map_types.specs.ElementLists.{times}
use Rattle.map_types.specs.Kind.{is_lru, is_percpu}
use Rattle.map_types.specs.Stored.{Stored}
use Rattle.key_hash.specs.Jhash.{hash}
use Rattle.place_words.specs.declared.bucket_part.BucketPart.{BucketPart}
use Rattle.place_words.specs.declared.bucket_part.BucketPart.TheVariants.{Lookup, Update, Delete, Take}
use Rattle.place_words.specs.declared.bucket_part.Put.{Put}
use Rattle.place_words.specs.declared.history.Part.TheVariants as parts
use Rattle.place_words.specs.Buckets.{AllowsInBucket, AllowsPut}
use Rattle.place_words.specs.Evicting.{FreesOne, left_over, OffersOne, IsOfferTrace, IsWriteTrace, IsEvictingUpdate, IsEvictingDelete, IsEvictingTake, IsEvictingTrace}
use Rattle.place_words.specs.Histories.{Content, Allows}
use Rattle.place_words.specs.Logs.{State, Taking, lies_in, bucket_at, present_in, turned, all_turned, acquired, freeing, all_freed, taken_out, Does, first_does, put_offered, put_alone, puts_in, offered, evicting_does, got_by, key_does}
use Rattle.place_words.specs.Moves.{brought_to_bucket, taken_from_bucket}
use Rattle.place_words.specs.PlainTraces.{element_gone, reply_of_put, reply_of_got, reply_of_gone, IsLookupTrace}
use Rattle.place_words.specs.Turns.{Turn, TurnAt, turns_of, on_lock, on_bucket_of, bucket_of_key}
use Rattle.place_words.proofs.DoneLaws.{IsKeyVerb, lies_a_bucket}
use Rattle.place_words.proofs.EvictingDone.{IsAtRest, IsOffered, offered_put, delete_moves, take_moves, out_is, settled_then}
use Rattle.place_words.proofs.PlacedContents.{lies_after_all}
use Rattle.place_words.proofs.Settled.{IsSettled, settled_anywhere}
use Rattle.place_words.proofs.Supplies.{Supplies}
use Rattle.place_words.proofs.PlainLaws.{second_chosen}
use Rattle.serial_laws.proofs.Decides.{Decides}
use Rattle.serial_laws.proofs.FoundIn.{lookup_gets, take_gets, delete_gets, offered_puts, alone_puts}
use Rattle.serial_laws.proofs.KeyCalls.{IsAs}
use Rattle.serial_laws.proofs.TurnsMade.{IsMade, AreMade, EachTurn, made_both, each_both}

pub first_of : (b : Bool) (A B : Type 0) → b ≡ true → MatchBool b A B → A
first_of true A B is it = it
first_of false A B is it = absurd cc

-- a turn of a bucket is allowed on what lies there
pub in_bucket_there : (shape : Shape) (cpu : ℕ) (state : State) (bucket : ℕ) (part : BucketPart) (at : TurnAt) → at.turn ≡ on_lock (Bucket bucket) (parts.Bucket part) → IsMade shape cpu at state → AllowsInBucket shape cpu part (bucket_at shape state bucket)
in_bucket_there shape cpu state bucket part at is made =
    subst (Allows shape cpu (parts.Bucket part)) (lies_a_bucket shape state bucket)
    (subst (λ (turn : Turn). Allows shape cpu turn.part (lies_in shape state turn.lock)) is made.allowed)

-- and a single one
pub one_there : (shape : Shape) (cpu number : ℕ) (state : State) (bucket : ℕ) (part : BucketPart) (turns : List TurnAt) → turns_of turns ≡ on_lock (Bucket bucket) (parts.Bucket part) ∷ [] → AreMade shape cpu number turns state → AllowsInBucket shape cpu part (bucket_at shape state bucket)
one_there shape cpu number state bucket part [] is made = absurd (none is)
  where
    none : {x : Turn} → [] ≡ x ∷ [] → ⊥
    none same = grind (arith, same)
one_there shape cpu number state bucket part (at ∷ turns) is made = in_bucket_there shape cpu state bucket part at (first at.turn _ _ _ is) made.0
  where
    first : (x y : Turn) (xs ys : List Turn) → x ∷ xs ≡ y ∷ ys → x ≡ y
    first x y xs ys same = ap (λ (l : List Turn). head_or x l) same
      where
        head_or : Turn → List Turn → Turn
        head_or d [] = d
        head_or d (t ∷ ts) = t

allows_put : (shape : Shape) (cpu : ℕ) (side : Side) (flags : ℕ) (key value : List ℕ) (offer : Option ℕ) (put : Put) (bodies : List Stored) → AllowsInBucket shape cpu (Update side flags key value offer put) bodies → AllowsPut shape flags key put bodies
unfolding AllowsInBucket
allows_put shape cpu side flags key value offer put bodies may = may

module _ (Fact : State → Turn → Type 0) (shape : Shape) (cpu number : ℕ) (supplies : Supplies shape cpu) (decides : Decides Fact shape cpu) where
  -- what is left over is freed
  frees_is : (left : Option ℕ) (turns : List TurnAt) (state : State) (home : ℕ) → IsSettled shape (lies_in shape state) home (option_to_list left) → FreesOne shape left turns → AreMade shape cpu number turns state → EachTurn Fact shape cpu number turns state
      → turns_of turns ≡ all_freed shape cpu number state (option_to_list left)
  frees_is None turns state home settled frees made each = ap turns_of frees
  frees_is (Some e) turns state home settled frees made each = decides.frees number state home e [] turns settled frees made each

  -- a turn of a bucket, and the freeing after it
  bucket_and_freed : (state : State) (bucket : ℕ) (part : BucketPart) (hand : List ℕ) (left : Option ℕ) (at : TurnAt) (freeing : List TurnAt) → IsSettled shape (lies_in shape state) bucket hand
      → ((x : ℕ) → times x (brought_to_bucket part) + times x (option_to_list left) ≡ times x (taken_from_bucket part) + times x hand)
      → at.turn ≡ on_lock (Bucket bucket) (parts.Bucket part) → FreesOne shape left freeing → AreMade shape cpu number (at ∷ freeing) state → EachTurn Fact shape cpu number (at ∷ freeing) state
      → turns_of (at ∷ freeing) ≡ on_lock (Bucket bucket) (parts.Bucket part) ∷ all_freed shape cpu number (turned shape cpu number (on_lock (Bucket bucket) (parts.Bucket part)) state) (option_to_list left)
  bucket_and_freed state bucket part hand left at freeing settled moved is frees made each =
      let may = in_bucket_there shape cpu state bucket part at is made.0 in
      let rest = frees_is left freeing (turned shape cpu number (on_lock (Bucket bucket) (parts.Bucket part)) state) bucket
      (settled_then shape cpu number supplies state bucket part hand (option_to_list left) settled may moved) frees
      (subst (λ (turn : Turn). AreMade shape cpu number freeing (turned shape cpu number turn state)) is made.1)
      (subst (λ (turn : Turn). EachTurn Fact shape cpu number freeing (turned shape cpu number turn state)) is each.1) in
      (λ i. is i ∷ rest i)

  module _ (state : State) (rests : IsAtRest shape (lies_in shape state)) (lru : is_lru shape.kind ≡ true) (turns : List TurnAt) (reply : Reply) (made : AreMade shape cpu number turns state) (each : EachTurn Fact shape cpu number turns state) where
    at_key : (key : List ℕ) → IsSettled shape (lies_in shape state) (bucket_of_key shape key) []
    at_key key = settled_anywhere (bucket_of_key shape key) rests

    lookup_is : (side : Side) (key : List ℕ) → IsLookupTrace shape side key (turns_of turns) reply → IsAs (key_does shape cpu number state (verbs.Lookup side key)) turns reply
    unfolding key_does
    lookup_is side key trace =
        let found : Option Stored = present_in shape state key in
        let may = one_there shape cpu number state (bucket_of_key shape key) (Lookup side key trace.got) turns trace.turns_are made in
        let got : trace.got ≡ got_by shape side cpu found = lookup_gets shape side cpu key (bucket_at shape state (bucket_of_key shape key)) trace.got found refl may in
        record {
          turns_are = trace.turns_are ∙ ap (λ (g : Option (ℕ × List ℕ)). on_bucket_of shape key (Lookup side key g) ∷ []) got;
          reply_is = trace.reply_is ∙ ap reply_of_got got;
        }

    delete_is : (key : List ℕ) → IsEvictingDelete shape key turns reply → IsAs (key_does shape cpu number state (verbs.Delete key)) turns reply
    unfolding key_does
    delete_is key trace =
        let found : Option Stored = present_in shape state key in
        let bucket : ℕ = bucket_of_key shape key in
        let there : AreMade shape cpu number (trace.at_bucket ∷ trace.freeing) state = subst (λ (l : List TurnAt). AreMade shape cpu number l state) trace.turns_are made in
        let may = in_bucket_there shape cpu state bucket (Delete key trace.gone) trace.at_bucket trace.bucket_is there.0 in
        let gone : trace.gone ≡ option_map (λ (stored : Stored). stored.element) found = delete_gets shape cpu key (bucket_at shape state bucket) trace.gone found refl may in
        let turns_then = bucket_and_freed state bucket (Delete key trace.gone) [] trace.gone trace.at_bucket trace.freeing (at_key key) (delete_moves key trace.gone) trace.bucket_is trace.frees there (subst (λ (l : List TurnAt). EachTurn Fact shape cpu number l state) trace.turns_are each) in
        record {
          turns_are = ap turns_of trace.turns_are ∙ turns_then ∙ sym (out_is shape cpu number supplies state rests lru trace.gone (on_bucket_of shape key (Delete key trace.gone)))
              ∙ ap (λ (g : Option ℕ). taken_out shape cpu number state (option_to_list g) (on_bucket_of shape key (Delete key g))) gone;
          reply_is = trace.reply_is ∙ ap reply_of_gone gone;
        }

    take_is : (key : List ℕ) → IsEvictingTake shape key turns reply → IsAs (key_does shape cpu number state (verbs.Take key)) turns reply
    unfolding key_does
    take_is key trace =
        let found : Option Stored = present_in shape state key in
        let bucket : ℕ = bucket_of_key shape key in
        let there : AreMade shape cpu number (trace.at_bucket ∷ trace.freeing) state = subst (λ (l : List TurnAt). AreMade shape cpu number l state) trace.turns_are made in
        let may = in_bucket_there shape cpu state bucket (Take key trace.gone) trace.at_bucket trace.bucket_is there.0 in
        let gone : trace.gone ≡ got_by shape Sys cpu found = take_gets shape cpu key (bucket_at shape state bucket) trace.gone found refl may in
        let turns_then = bucket_and_freed state bucket (Take key trace.gone) [] (element_gone trace.gone) trace.at_bucket trace.freeing (at_key key) (take_moves key trace.gone) trace.bucket_is trace.frees there (subst (λ (l : List TurnAt). EachTurn Fact shape cpu number l state) trace.turns_are each) in
        record {
          turns_are = ap turns_of trace.turns_are ∙ turns_then ∙ sym (out_is shape cpu number supplies state rests lru (element_gone trace.gone) (on_bucket_of shape key (Take key trace.gone)))
              ∙ ap (λ (g : Option (ℕ × List ℕ)). taken_out shape cpu number state (option_to_list (element_gone g)) (on_bucket_of shape key (Take key g))) gone;
          reply_is = trace.reply_is ∙ ap reply_of_got gone;
        }

    module _ (side : Side) (flags : ℕ) (key value : List ℕ) where
      write_is : IsWriteTrace shape side flags key value turns reply → IsAs (puts_in shape side flags key value (put_alone (present_in shape state key))) turns reply
      write_is trace =
          let found : Option Stored = present_in shape state key in
          let bucket : ℕ = bucket_of_key shape key in
          let may = one_there shape cpu number state bucket (Update side flags key value None trace.put) turns trace.turns_are made in
          let put : trace.put ≡ put_alone found = alone_puts shape flags key (bucket_at shape state bucket) trace.put found refl trace.may_put (allows_put shape cpu side flags key value None trace.put (bucket_at shape state bucket) may) in
          record {
            turns_are = trace.turns_are ∙ ap (λ (p : Put). on_bucket_of shape key (Update side flags key value None p) ∷ []) put;
            reply_is = trace.reply_is ∙ ap reply_of_put put;
          }

      -- an element that was taken is offered
      offers_is : (later : State) (e : ℕ) (rest : List TurnAt) → IsSettled shape (lies_in shape later) (bucket_of_key shape key) (e ∷ []) → AreMade shape cpu number rest later → EachTurn Fact shape cpu number rest later
          → OffersOne shape side flags key value e rest reply → IsAs (offered shape cpu number side flags key value later (Some e)) rest reply
      offers_is later e rest settled made_rest each_rest offers =
          let found : Option Stored = present_in shape later key in
          let bucket : ℕ = bucket_of_key shape key in
          let bodies : List Stored = bucket_at shape later bucket in
          let there : AreMade shape cpu number (offers.at_bucket ∷ offers.freeing) later = subst (λ (l : List TurnAt). AreMade shape cpu number l later) offers.turns_are made_rest in
          let may = in_bucket_there shape cpu later bucket (Update side flags key value (Some e) offers.put) offers.at_bucket offers.bucket_is there.0 in
          let put : offers.put ≡ put_offered shape flags e found = offered_puts shape flags key bodies e offers.put found refl offers.may_put (allows_put shape cpu side flags key value (Some e) offers.put bodies may) in
          let may_then : IsOffered shape flags key bodies e offers.put = subst (IsOffered shape flags key bodies e) (sym put) (offered_put shape flags key bodies e found refl) in
          let turns_then = bucket_and_freed later bucket (Update side flags key value (Some e) offers.put) (e ∷ []) (left_over e offers.put) offers.at_bucket offers.freeing settled may_then.moved offers.bucket_is offers.frees there (subst (λ (l : List TurnAt). EachTurn Fact shape cpu number l later) offers.turns_are each_rest) in
          record {
            turns_are = ap turns_of offers.turns_are ∙ turns_then
                ∙ ap (λ (p : Put). on_bucket_of shape key (Update side flags key value (Some e) p) ∷ all_freed shape cpu number (turned shape cpu number (on_bucket_of shape key (Update side flags key value (Some e) p)) later) (option_to_list (left_over e p))) put;
            reply_is = offers.reply_is ∙ ap reply_of_put put;
          }

      offered_is : (later : State) (got : Option ℕ) (rest : List TurnAt) → IsSettled shape (lies_in shape later) (bucket_of_key shape key) (option_to_list got) → AreMade shape cpu number rest later → EachTurn Fact shape cpu number rest later
          → MatchOption got ((rest ≡ []) × (reply ≡ Refused Enomem)) (λ e. OffersOne shape side flags key value e rest reply) → IsAs (offered shape cpu number side flags key value later got) rest reply
      offered_is later None rest settled made_rest each_rest offers = record { turns_are = ap turns_of offers.0; reply_is = offers.1 }
      offered_is later (Some e) rest settled made_rest each_rest offers = offers_is later e rest settled made_rest each_rest offers

      abbrev taking_here : Taking
      taking_here = acquired shape cpu number (hash key shape.seed) state

      offer_is : IsOfferTrace shape cpu side flags key value turns reply
          → IsAs (first_does taking_here.turns (offered shape cpu number side flags key value (all_turned shape cpu number taking_here.turns state) taking_here.got)) turns reply
      offer_is trace =
          let parts_made = made_both shape cpu number trace.taking trace.rest state (subst (λ (l : List TurnAt). AreMade shape cpu number l state) trace.turns_are made) in
          let parts_each = each_both shape cpu number Fact trace.taking trace.rest state (subst (λ (l : List TurnAt). EachTurn Fact shape cpu number l state) trace.turns_are each) in
          let is = decides.takes number (hash key shape.seed) state trace.got trace.taking (at_key key) trace.takes parts_made.0 parts_each.0 in
          let taken = supplies.takes number (hash key shape.seed) state (at_key key) in
          let settled : IsSettled shape (lies_in shape (all_turned shape cpu number (turns_of trace.taking) state)) (bucket_of_key shape key) (option_to_list trace.got) =
          subst (λ (l : List Turn). IsSettled shape (lies_in shape (all_turned shape cpu number l state)) (bucket_of_key shape key) (option_to_list trace.got)) (sym is.turns_are)
          (subst (λ (g : Option ℕ). IsSettled shape (lies_in shape (all_turned shape cpu number taking_here.turns state)) (bucket_of_key shape key) (option_to_list g)) (sym is.got_is)
          (subst (λ (contents : DomainId → Content). IsSettled shape contents (bucket_of_key shape key) (option_to_list taking_here.got)) (sym (lies_after_all shape cpu number taking_here.turns state)) taken.settled)) in
          let rest = offered_is (all_turned shape cpu number (turns_of trace.taking) state) trace.got trace.rest settled parts_made.1 parts_each.1 trace.offers in
          record {
            turns_are = ap turns_of trace.turns_are ∙ map-append (λ (at : TurnAt). at.turn) trace.taking trace.rest ∙ ap (λ (l : List Turn). turns_of trace.taking ++ l) rest.turns_are
                ∙ (λ i. is.turns_are i ++ (offered shape cpu number side flags key value (all_turned shape cpu number (is.turns_are i) state) (is.got_is i)).turns);
            reply_is = rest.reply_is ∙ (λ i. (offered shape cpu number side flags key value (all_turned shape cpu number (is.turns_are i) state) (is.got_is i)).reply);
          }

      evicting_is : (alone : Bool) → (is_percpu shape.kind && eqb flags 2) ≡ alone → MatchBool (is_percpu shape.kind && eqb flags 2) (IsWriteTrace shape side flags key value turns reply) (IsOfferTrace shape cpu side flags key value turns reply)
          → IsAs (evicting_does shape cpu number side flags key value state) turns reply
      evicting_is true both trace =
          subst (λ (did : Does). IsAs did turns reply) (sym (cond-true (is_percpu shape.kind && eqb flags 2) _ _ both)) (write_is (first_of (is_percpu shape.kind && eqb flags 2) _ _ both trace))
      evicting_is false many trace =
          subst (λ (did : Does). IsAs did turns reply) (sym (cond-false (is_percpu shape.kind && eqb flags 2) _ _ many)) (offer_is (second_chosen (is_percpu shape.kind && eqb flags 2) _ _ many trace))

      update_is : IsEvictingUpdate shape cpu side flags key value turns reply → IsAs (key_does shape cpu number state (verbs.Update side flags key value)) turns reply
      unfolding key_does
      update_is (inl refused) =
          subst (λ (did : Does). IsAs did turns reply) (sym (cond-true (nat_lt 2 flags) _ _ (lt-ltb 2 flags refused.0)))
          (record { turns_are = ap turns_of refused.1; reply_is = refused.2 })
      update_is (inr done) =
          subst (λ (did : Does). IsAs did turns reply) (sym (cond-false (nat_lt 2 flags) _ _ (le-ltb 2 flags done.0) ∙ cond-true (is_lru shape.kind) _ _ lru))
          (evicting_is (is_percpu shape.kind && eqb flags 2) refl done.1)

    -- the four calls on one key
    pub key_is : (verb : Verb) → IsKeyVerb verb → IsEvictingTrace shape cpu verb turns reply → IsAs (key_does shape cpu number state verb) turns reply
    key_is (verbs.Lookup side key) is trace = lookup_is side key trace
    key_is (verbs.Update side flags key value) is trace = update_is side flags key value trace
    key_is (verbs.Delete key) is trace = delete_is key trace
    key_is (verbs.Take key) is trace = take_is key trace
    key_is (verbs.Next key) is trace = absurd is
    key_is (verbs.BatchRead remove count start flags) is trace = absurd is
    key_is (verbs.BatchUpdate flags pairs) is trace = absurd is
    key_is (verbs.BatchDelete flags keys) is trace = absurd is
    key_is (verbs.Each flags stop) is trace = absurd is
