-- On a map that evicts each call on one key does in serial order what the rules say, and the map is settled again after it.
use Rattle.std.proofs.Common.{◌≡◌, ◌≢◌, ℕ, ◌+◌, ◌≤◌, Bool, true, false, cond, ◌&&◌, eqb, List, [], ◌∷◌, reverse, refl, ap, ◌∙◌, sym, subst, inl, inr, arith}
use Rattle.std.specs.Prelude.{Option, None, Some, MatchOption, IsTrue, IsFalse, option_map, option_to_list, nat_lt}
use Rattle.std.proofs.lemmas.Bool.{cond-true, eqb-true, eqb-false, ltb-true, ltb-false, and_parts}
use Rattle.map_types.specs.declared.attr.Shape.{Shape}
use Rattle.map_types.specs.declared.call.Verb.{Verb}
use Rattle.map_types.specs.declared.call.Verb.TheVariants as verbs
use Rattle.map_types.specs.declared.kind.DomainId.{DomainId}
use Rattle.map_types.specs.declared.kind.DomainId.TheVariants.{Bucket}
use Rattle.map_types.specs.declared.kind.Side.{Side}
use Rattle.map_types.specs.declared.kind.Side.TheVariants.{Sys}
use Rattle.map_types.specs.declared.refusal.Errno.TheVariants.{Einval}
use Rattle.map_types.specs.declared.reply.Reply.TheVariants.{Refused}
use Rattle.map_types.specs.ElementLists.{times}
use Rattle.map_types.specs.Kind.{is_lru, is_percpu}
use Rattle.map_types.specs.Stored.{Stored}
use Rattle.key_hash.specs.Jhash.{hash}
pub use Rattle.place_words.specs.AtRest.{IsAtRest}
use Rattle.place_words.specs.declared.bucket_part.BucketPart.{BucketPart}
use Rattle.place_words.specs.declared.bucket_part.BucketPart.TheVariants.{Lookup, Update, Delete, Take}
use Rattle.place_words.specs.declared.bucket_part.Put.{Put}
use Rattle.place_words.specs.declared.bucket_part.Put.TheVariants as puts
use Rattle.place_words.specs.declared.history.Part.TheVariants as parts
use Rattle.place_words.specs.Bodies.{present}
use Rattle.place_words.specs.Buckets.{AllowsInBucket, AllowsPut}
use Rattle.place_words.specs.Evicting.{FreesOne, MayPut, MayPutAlone, left_over, OffersOne, IsEvictingTrace}
use Rattle.place_words.specs.Histories.{Content, Allows}
use Rattle.place_words.specs.Logs.{State, lies_in, bucket_at, present_in, turned, all_turned, placed, acquired, freeing, all_freed, taken_out, Does, first_does, put_offered, put_alone, puts_in, offered, evicting_does, got_by, key_does}
use Rattle.place_words.specs.Moves.{brought_to_bucket, taken_from_bucket, brought_by_put, taken_by_put}
use Rattle.place_words.specs.PlainTraces.{element_gone, reply_of_got, reply_of_gone}
use Rattle.place_words.specs.Turns.{Turn, on_lock, on_bucket_of, bucket_of_key, after_turns, AreAllowed}
use Rattle.place_words.specs.Walks.{FreesAll}
use Rattle.place_words.proofs.DoneLaws.{allowed_both, found_reads, found_deletes, found_takes, IsKeyVerb}
use Rattle.place_words.proofs.PlacedContents.{after_both, lies_after_all}
use Rattle.place_words.proofs.PlacedLaws.{placed-append, lies_after}
use Rattle.place_words.proofs.PlainLaws.{chosen_second}
use Rattle.place_words.proofs.Settled.{IsSettled, settled_anywhere, one_bucket, bucket_turned}
use Rattle.place_words.proofs.Supplies.{first_of_two, IsTaken, Supplies}

-- A call's turns are a trace of it with its reply, each may be made at its place, and then nothing is in hand.
pub record IsServed (shape : Shape) (cpu number : ℕ) (state : State) (verb : Verb) (did : Does) : Type 0 where
  pub trace : IsEvictingTrace shape cpu verb (placed shape cpu number did.turns state) did.reply
  pub allowed : AreAllowed shape cpu (lies_in shape state) did.turns
  pub settled : IsAtRest shape (after_turns shape cpu (lies_in shape state) did.turns)

-- What an update puts that was offered an element

pub record IsOffered (shape : Shape) (flags : ℕ) (key : List ℕ) (bodies : List Stored) (e : ℕ) (put : Put) : Type 0 where
  pub may : AllowsPut shape flags key put bodies
  pub may_put : MayPut shape e put
  pub moved : (x : ℕ) → times x (brought_by_put put) + times x (option_to_list (left_over e put)) ≡ times x (taken_by_put put) + times x (e ∷ [])

module _ (shape : Shape) (flags : ℕ) (key : List ℕ) (bodies : List Stored) where
  with_old : (old : Stored) (Fact : Stored → Type 0) → present key bodies ≡ Some old → Fact old → MatchOption (present key bodies) ⊥ Fact
  with_old old Fact is fact = subst (λ (o : Option Stored). MatchOption o ⊥ Fact) (sym is) fact

  absent_offered : (e : ℕ) (two : Bool) → eqb flags 2 ≡ two → present key bodies ≡ None → IsOffered shape flags key bodies e (cond two puts.Absent (puts.Added e))
  absent_offered e true flag absent = record { may = (absent, eqb-true flags 2 flag); may_put = tt; moved = λ x. refl }
  absent_offered e false flag absent = record { may = (absent, eqb-false flags 2 flag); may_put = refl; moved = λ x. omega arith }

  present_offered : (e : ℕ) (old : Stored) (one percpu : Bool) → eqb flags 1 ≡ one → is_percpu shape.kind ≡ percpu → present key bodies ≡ Some old
      → IsOffered shape flags key bodies e (cond one puts.Exists (cond percpu (puts.Written old.element) (puts.Replaced e old.element)))
  present_offered e old true percpu flag kind is = record { may = with_old old (λ body. flags ≡ 1) is (eqb-true flags 1 flag); may_put = tt; moved = λ x. refl }
  present_offered e old false true flag kind is = record {
    may = with_old old (λ body. (body.element ≡ old.element) × (flags ≢ 1) × IsTrue (is_percpu shape.kind)) is (refl, eqb-false flags 1 flag, kind);
    may_put = kind;
    moved = λ x. refl;
  }
  present_offered e old false false flag kind is = record {
    may = with_old old (λ body. (body.element ≡ old.element) × (flags ≢ 1) × IsFalse (is_percpu shape.kind)) is (refl, eqb-false flags 1 flag, kind);
    may_put = (refl, kind);
    moved = λ x. omega arith;
  }

  pub offered_put : (e : ℕ) (found : Option Stored) → present key bodies ≡ found → IsOffered shape flags key bodies e (put_offered shape flags e found)
  offered_put e None is = absent_offered e (eqb flags 2) refl is
  offered_put e (Some old) is = present_offered e old (eqb flags 1) (is_percpu shape.kind) refl refl is

  -- and one that only writes in place
  alone_put : (found : Option Stored) → present key bodies ≡ found → is_percpu shape.kind ≡ true → flags ≡ 2 → AllowsPut shape flags key (put_alone found) bodies
  alone_put None is kind two = (is, two)
  alone_put (Some old) is kind two = with_old old (λ body. (body.element ≡ old.element) × (flags ≢ 1) × IsTrue (is_percpu shape.kind)) is (refl, (λ one. omega (arith, one, two)), kind)

may_put_alone : (found : Option Stored) → MayPutAlone (put_alone found)
may_put_alone None = tt
may_put_alone (Some old) = tt

alone_moves : (found : Option Stored) (x : ℕ) → times x (brought_by_put (put_alone found)) + 0 ≡ times x (taken_by_put (put_alone found)) + 0
alone_moves None x = refl
alone_moves (Some old) x = refl

-- what a delete takes out
pub delete_moves : (key : List ℕ) (gone : Option ℕ) (x : ℕ) → times x (brought_to_bucket (Delete key gone)) + times x (option_to_list gone) ≡ times x (taken_from_bucket (Delete key gone)) + times x []
delete_moves key None x = refl
delete_moves key (Some e) x = omega arith

pub take_moves : (key : List ℕ) (gone : Option (ℕ × List ℕ)) (x : ℕ) → times x (brought_to_bucket (Take key gone)) + times x (option_to_list (element_gone gone)) ≡ times x (taken_from_bucket (Take key gone)) + times x []
take_moves key None x = refl
take_moves key (Some e) x = omega arith

one_turned : (gone : Option ℕ) → reverse (option_to_list gone) ≡ option_to_list gone
one_turned None = refl
one_turned (Some e) = refl

module _ (shape : Shape) (cpu number : ℕ) (supplies : Supplies shape cpu) where
  -- elements that were in hand are freed one after another
  pub record AreFreed (state : State) (home : ℕ) (es : List ℕ) (turns : List Turn) : Type 0 where
    pub frees : FreesAll shape es (placed shape cpu number turns state)
    pub allowed : AreAllowed shape cpu (lies_in shape state) turns
    pub settled : IsSettled shape (after_turns shape cpu (lies_in shape state) turns) home []

  pub freed_all : (es : List ℕ) (state : State) (home : ℕ) → IsSettled shape (lies_in shape state) home es → AreFreed state home es (all_freed shape cpu number state es)
  freed_all [] state home settled = record { frees = refl; allowed = tt; settled = settled }
  freed_all (e ∷ es) state home settled =
      let turn : Turn = freeing shape state e in
      let later : State = turned shape cpu number turn state in
      let one = supplies.frees number state home e es settled in
      let same = lies_after shape cpu number turn state in
      let rest = freed_all es later home (subst (λ (contents : DomainId → Content). IsSettled shape contents home es) (sym same) one.settled) in
      record {
        frees = (placed shape cpu number (turn ∷ []) state, placed shape cpu number (all_freed shape cpu number later es) later, (refl, one.frees, rest.frees));
        allowed = (one.allowed, subst (λ (contents : DomainId → Content). AreAllowed shape cpu contents (all_freed shape cpu number later es)) same rest.allowed);
        settled = subst (λ (contents : DomainId → Content). IsSettled shape (after_turns shape cpu contents (all_freed shape cpu number later es)) home []) same rest.settled;
      }

  pub frees_one : (gone : Option ℕ) (state : State) (home : ℕ) → IsSettled shape (lies_in shape state) home (option_to_list gone) → FreesOne shape gone (placed shape cpu number (all_freed shape cpu number state (option_to_list gone)) state)
  frees_one None state home settled = refl
  frees_one (Some e) state home settled = (supplies.frees number state home e [] settled).frees

  -- A turn of a bucket, and then what is left in hand is freed.
  module _ (state : State) (bucket : ℕ) (part : BucketPart) (hand left : List ℕ) (settled : IsSettled shape (lies_in shape state) bucket hand) (may : AllowsInBucket shape cpu part (bucket_at shape state bucket))
      (moved : (x : ℕ) → times x (brought_to_bucket part) + times x left ≡ times x (taken_from_bucket part) + times x hand) where
    abbrev turn_there : Turn
    turn_there = on_lock (Bucket bucket) (parts.Bucket part)

    abbrev state_then : State
    state_then = turned shape cpu number turn_there state

    pub settled_then : IsSettled shape (lies_in shape state_then) bucket left
    settled_then =
        subst (λ (contents : DomainId → Content). IsSettled shape contents bucket left) (sym (lies_after shape cpu number turn_there state))
        (bucket_turned shape cpu (lies_in shape state) bucket part hand left settled may moved)

    pub bucket_allowed : Allows shape cpu (parts.Bucket part) (lies_in shape state (Bucket bucket))
    bucket_allowed = subst (Allows shape cpu (parts.Bucket part)) (sym (one_bucket (lies_in shape state (Bucket bucket)) (settled.fit (Bucket bucket)))) may

    pub freed_allowed : AreAllowed shape cpu (lies_in shape state) (turn_there ∷ all_freed shape cpu number state_then left)
    freed_allowed =
        (bucket_allowed, subst (λ (contents : DomainId → Content). AreAllowed shape cpu contents (all_freed shape cpu number state_then left)) (lies_after shape cpu number turn_there state) (freed_all left state_then bucket settled_then).allowed)

    pub freed_settled : IsSettled shape (after_turns shape cpu (lies_in shape state) (turn_there ∷ all_freed shape cpu number state_then left)) bucket []
    freed_settled =
        subst (λ (contents : DomainId → Content). IsSettled shape (after_turns shape cpu contents (all_freed shape cpu number state_then left)) bucket []) (lies_after shape cpu number turn_there state)
        (freed_all left state_then bucket settled_then).settled

  module _ (state : State) (rest_now : IsAtRest shape (lies_in shape state)) (lru : is_lru shape.kind ≡ true) where
    abbrev here : List ℕ → List Stored
    here key = bucket_at shape state (bucket_of_key shape key)

    at_key : (key : List ℕ) → IsSettled shape (lies_in shape state) (bucket_of_key shape key) []
    at_key key = settled_anywhere (bucket_of_key shape key) rest_now

    pub lookup_served : (side : Side) (key : List ℕ) → IsServed shape cpu number state (verbs.Lookup side key) (key_does shape cpu number state (verbs.Lookup side key))
    unfolding key_does
    lookup_served side key =
        let got : Option (ℕ × List ℕ) = got_by shape side cpu (present_in shape state key) in
        let may : AllowsInBucket shape cpu (Lookup side key got) (here key) = found_reads shape side cpu key (here key) (present_in shape state key) refl in
        record {
          trace = record { got = got; turns_are = refl; reply_is = refl };
          allowed = (bucket_allowed state (bucket_of_key shape key) (Lookup side key got) [] [] (at_key key) may (λ x. refl), tt);
          settled = settled_anywhere 0 (bucket_turned shape cpu (lies_in shape state) (bucket_of_key shape key) (Lookup side key got) [] [] (at_key key) may (λ x. refl));
        }

    pub out_is : (gone : Option ℕ) (turn : Turn) → taken_out shape cpu number state (option_to_list gone) turn ≡ turn ∷ all_freed shape cpu number (turned shape cpu number turn state) (option_to_list gone)
    out_is gone turn =
        cond-true (is_lru shape.kind) _ _ lru ∙ ap (λ (es : List ℕ). turn ∷ all_freed shape cpu number (turned shape cpu number turn state) es) (one_turned gone)

    pub delete_served : (key : List ℕ) → IsServed shape cpu number state (verbs.Delete key) (key_does shape cpu number state (verbs.Delete key))
    unfolding key_does
    delete_served key =
        let gone : Option ℕ = option_map (λ (stored : Stored). stored.element) (present_in shape state key) in
        let turn : Turn = on_bucket_of shape key (Delete key gone) in
        let may : AllowsInBucket shape cpu (Delete key gone) (here key) = found_deletes shape cpu key (here key) (present_in shape state key) refl in
        let bucket : ℕ = bucket_of_key shape key in
        subst (λ (turns : List Turn). IsServed shape cpu number state (verbs.Delete key) (record { turns = turns; reply = reply_of_gone gone })) (sym (out_is gone turn))
        (record {
          trace = record {
            gone = gone;
            at_bucket = record { turn = turn; earlier = state.logs (Bucket bucket) };
            freeing = placed shape cpu number (all_freed shape cpu number (turned shape cpu number turn state) (option_to_list gone)) (turned shape cpu number turn state);
            turns_are = refl;
            bucket_is = refl;
            frees = frees_one gone (turned shape cpu number turn state) bucket (settled_then state bucket (Delete key gone) [] (option_to_list gone) (at_key key) may (delete_moves key gone));
            reply_is = refl;
          };
          allowed = freed_allowed state bucket (Delete key gone) [] (option_to_list gone) (at_key key) may (delete_moves key gone);
          settled = settled_anywhere 0 (freed_settled state bucket (Delete key gone) [] (option_to_list gone) (at_key key) may (delete_moves key gone));
        })

    pub take_served : (key : List ℕ) → IsServed shape cpu number state (verbs.Take key) (key_does shape cpu number state (verbs.Take key))
    unfolding key_does
    take_served key =
        let gone : Option (ℕ × List ℕ) = got_by shape Sys cpu (present_in shape state key) in
        let turn : Turn = on_bucket_of shape key (Take key gone) in
        let may : AllowsInBucket shape cpu (Take key gone) (here key) = found_takes shape cpu key (here key) (present_in shape state key) refl in
        let bucket : ℕ = bucket_of_key shape key in
        let out : List ℕ = option_to_list (element_gone gone) in
        subst (λ (turns : List Turn). IsServed shape cpu number state (verbs.Take key) (record { turns = turns; reply = reply_of_got gone })) (sym (out_is (element_gone gone) turn))
        (record {
          trace = record {
            gone = gone;
            at_bucket = record { turn = turn; earlier = state.logs (Bucket bucket) };
            freeing = placed shape cpu number (all_freed shape cpu number (turned shape cpu number turn state) out) (turned shape cpu number turn state);
            turns_are = refl;
            bucket_is = refl;
            frees = frees_one (element_gone gone) (turned shape cpu number turn state) bucket (settled_then state bucket (Take key gone) [] out (at_key key) may (take_moves key gone));
            reply_is = refl;
          };
          allowed = freed_allowed state bucket (Take key gone) [] out (at_key key) may (take_moves key gone);
          settled = settled_anywhere 0 (freed_settled state bucket (Take key gone) [] out (at_key key) may (take_moves key gone));
        })

    module _ (side : Side) (flags : ℕ) (key value : List ℕ) where
      abbrev IsDoneBy : Does → Type 0
      IsDoneBy did = IsServed shape cpu number state (verbs.Update side flags key value) did

      pub may_update : (offer : Option ℕ) (put : Put) (bodies : List Stored) → AllowsPut shape flags key put bodies → AllowsInBucket shape cpu (Update side flags key value offer put) bodies
      unfolding AllowsInBucket
      may_update offer put bodies may = may

      -- an element is offered to the bucket, and what is left over is freed
      offers_one : (later : State) (e : ℕ) → IsSettled shape (lies_in shape later) (bucket_of_key shape key) (e ∷ [])
          → (OffersOne shape side flags key value e (placed shape cpu number (offered shape cpu number side flags key value later (Some e)).turns later) (offered shape cpu number side flags key value later (Some e)).reply)
          × AreAllowed shape cpu (lies_in shape later) (offered shape cpu number side flags key value later (Some e)).turns
          × IsSettled shape (after_turns shape cpu (lies_in shape later) (offered shape cpu number side flags key value later (Some e)).turns) (bucket_of_key shape key) []
      offers_one later e settled =
          let bucket : ℕ = bucket_of_key shape key in
          let done : Put = put_offered shape flags e (present_in shape later key) in
          let part : BucketPart = Update side flags key value (Some e) done in
          let turn : Turn = on_bucket_of shape key part in
          let left : List ℕ = option_to_list (left_over e done) in
          let put = offered_put shape flags key (bucket_at shape later bucket) e (present_in shape later key) refl in
          let may : AllowsInBucket shape cpu part (bucket_at shape later bucket) = may_update (Some e) done (bucket_at shape later bucket) put.may in (
            record {
              put = done;
              may_put = put.may_put;
              at_bucket = record { turn = turn; earlier = later.logs (Bucket bucket) };
              freeing = placed shape cpu number (all_freed shape cpu number (turned shape cpu number turn later) left) (turned shape cpu number turn later);
              turns_are = refl;
              bucket_is = refl;
              frees = frees_one (left_over e done) (turned shape cpu number turn later) bucket (settled_then later bucket part (e ∷ []) left settled may put.moved);
              reply_is = refl;
            },
            freed_allowed later bucket part (e ∷ []) left settled may put.moved,
            freed_settled later bucket part (e ∷ []) left settled may put.moved,
          )

      offer_served : (few : flags ≤ 2) (many : (is_percpu shape.kind && eqb flags 2) ≡ false) (turns : List Turn) (got : Option ℕ) → IsTaken shape cpu number (hash key shape.seed) state (record { turns = turns; got = got })
          → IsDoneBy (first_does turns (offered shape cpu number side flags key value (all_turned shape cpu number turns state) got))
      offer_served few many turns None taken = record {
        trace = inr (
          few,
          chosen_second _ _ _ many (record {
            got = None;
            taking = placed shape cpu number turns state;
            rest = [];
            turns_are = placed-append shape cpu number turns [] state;
            takes = taken.takes;
            offers = (refl, refl);
          }),
        );
        allowed = allowed_both shape cpu (lies_in shape state) turns [] taken.allowed tt;
        settled = subst (IsAtRest shape) (sym (after_both shape cpu (lies_in shape state) turns [])) (settled_anywhere 0 taken.settled);
      }
      offer_served few many turns (Some e) taken =
          let later : State = all_turned shape cpu number turns state in
          let same = lies_after_all shape cpu number turns state in
          let one = offers_one later e (subst (λ (contents : DomainId → Content). IsSettled shape contents (bucket_of_key shape key) (e ∷ [])) (sym same) taken.settled) in
          let rest : List Turn = (offered shape cpu number side flags key value later (Some e)).turns in
          record {
            trace = inr (
              few,
              chosen_second _ _ _ many (record {
                got = Some e;
                taking = placed shape cpu number turns state;
                rest = placed shape cpu number rest later;
                turns_are = placed-append shape cpu number turns rest state;
                takes = taken.takes;
                offers = one.0;
              }),
            );
            allowed = allowed_both shape cpu (lies_in shape state) turns rest taken.allowed (subst (λ (contents : DomainId → Content). AreAllowed shape cpu contents rest) same one.1);
            settled = subst (IsAtRest shape) (sym (after_both shape cpu (lies_in shape state) turns rest))
                (settled_anywhere 0 (subst (λ (contents : DomainId → Content). IsSettled shape (after_turns shape cpu contents rest) (bucket_of_key shape key) []) same one.2));
          }

      alone_served : (few : flags ≤ 2) → (is_percpu shape.kind && eqb flags 2) ≡ true → IsDoneBy (puts_in shape side flags key value (put_alone (present_in shape state key)))
      alone_served few both =
          let found : Option Stored = present_in shape state key in
          let kinds = and_parts (is_percpu shape.kind) (eqb flags 2) both in
          let bucket : ℕ = bucket_of_key shape key in
          let part : BucketPart = Update side flags key value None (put_alone found) in
          let may : AllowsInBucket shape cpu part (here key) = may_update None (put_alone found) (here key) (alone_put shape flags key (here key) found refl kinds.0 (eqb-true flags 2 kinds.1)) in
          record {
            trace = inr (few, first_of_two (is_percpu shape.kind && eqb flags 2) _ _ both (record { put = put_alone found; may_put = may_put_alone found; turns_are = refl; reply_is = refl }));
            allowed = (bucket_allowed state bucket part [] [] (at_key key) may (alone_moves found), tt);
            settled = settled_anywhere 0 (bucket_turned shape cpu (lies_in shape state) bucket part [] [] (at_key key) may (alone_moves found));
          }

      update_where : (alone : Bool) → (is_percpu shape.kind && eqb flags 2) ≡ alone → flags ≤ 2
          → IsDoneBy (cond alone (puts_in shape side flags key value (put_alone (present_in shape state key))) (first_does (acquired shape cpu number (hash key shape.seed) state).turns
          (offered shape cpu number side flags key value (all_turned shape cpu number (acquired shape cpu number (hash key shape.seed) state).turns state) (acquired shape cpu number (hash key shape.seed) state).got)))
      update_where true both few = alone_served few both
      update_where false many few =
          offer_served few many (acquired shape cpu number (hash key shape.seed) state).turns (acquired shape cpu number (hash key shape.seed) state).got (supplies.takes number (hash key shape.seed) state (at_key key))

      update_flags : (many : Bool) → nat_lt 2 flags ≡ many → IsDoneBy (cond many (record { turns = []; reply = Refused Einval }) (evicting_does shape cpu number side flags key value state))
      update_flags true more = record { trace = inl (ltb-true 2 flags more, refl, refl); allowed = tt; settled = rest_now }
      update_flags false few = update_where (is_percpu shape.kind && eqb flags 2) refl (ltb-false 2 flags few)

      pub update_served : IsDoneBy (key_does shape cpu number state (verbs.Update side flags key value))
      unfolding key_does
      update_served =
          subst (λ (did : Does). IsDoneBy (cond (nat_lt 2 flags) (record { turns = []; reply = Refused Einval }) did)) (sym (cond-true (is_lru shape.kind) _ _ lru)) (update_flags (nat_lt 2 flags) refl)

    -- the four calls on one key
    pub key_served : (verb : Verb) → IsKeyVerb verb → IsServed shape cpu number state verb (key_does shape cpu number state verb)
    key_served (verbs.Lookup side key) is = lookup_served side key
    key_served (verbs.Update side flags key value) is = update_served side flags key value
    key_served (verbs.Delete key) is = delete_served key
    key_served (verbs.Take key) is = take_served key
    key_served (verbs.Next key) is = absurd is
    key_served (verbs.BatchRead remove count start flags) is = absurd is
    key_served (verbs.BatchUpdate flags pairs) is = absurd is
    key_served (verbs.BatchDelete flags keys) is = absurd is
    key_served (verbs.Each flags stop) is = absurd is
