-- What a call on one key does on a map that doesn't evict is determined by its trace: its turns and its reply are those of a run in
-- serial order.
use Rattle.std.proofs.Common.{◌≡◌, ◌≢◌, ℕ, Bool, true, false, cond, eqb, List, [], ◌∷◌, ◌++◌, map, refl, ap, ◌∙◌, sym, subst, inl, inr, append-nil, append_assoc}
use Rattle.std.specs.Prelude.{Option, None, Some, MatchOption, IsTrue, IsFalse, option_map, option_to_list, unwrap_or, slice_get, nat_lt}
use Rattle.std.proofs.lemmas.Bool.{cond-true, cond-false, eq-eqb, ne_eqb, lt-ltb, le-ltb}
use Rattle.map_types.specs.declared.attr.Shape.{Shape}
use Rattle.map_types.specs.declared.call.Verb.{Verb}
use Rattle.map_types.specs.declared.call.Verb.TheVariants as verbs
use Rattle.map_types.specs.declared.kind.DomainId.{DomainId}
use Rattle.map_types.specs.declared.kind.DomainId.TheVariants.{Bucket, Freelist}
use Rattle.map_types.specs.declared.kind.Side.{Side}
use Rattle.map_types.specs.declared.kind.Side.TheVariants.{Sys}
use Rattle.map_types.specs.declared.reply.Reply.{Reply}
use Rattle.map_types.specs.ElementLists.{IsHead}
use Rattle.map_types.specs.Kind.{is_lru, is_percpu}
use Rattle.map_types.specs.Stored.{Stored}
use Rattle.place_words.specs.declared.bucket_part.BucketPart.{BucketPart}
use Rattle.place_words.specs.declared.bucket_part.BucketPart.TheVariants.{Lookup, Update, Delete, Take}
use Rattle.place_words.specs.declared.bucket_part.Put.{Put}
use Rattle.place_words.specs.declared.bucket_part.Put.TheVariants as puts
use Rattle.place_words.specs.declared.free_part.FreePart.TheVariants.{Pushed, Popped, FoundEmpty}
use Rattle.place_words.specs.declared.history.Part.TheVariants as parts
use Rattle.place_words.specs.Buckets.{AllowsInBucket, AllowsPut}
use Rattle.place_words.specs.Histories.{Content, Allows, content_after, on_freelist}
use Rattle.place_words.specs.Logs.{State, Taking, lies_in, bucket_at, freelist_at, present_in, after_turns_of, popped_or, popped, taken_out, Does, first_does, put_popped, puts_in, plain_does, got_by, key_does}
use Rattle.place_words.specs.PlainTraces.{found_empty, pushes, reply_of_got, reply_of_gone, element_gone, IsLookupTrace, LooksFor, IsPutTrace, IsUpdateTrace, IsDeleteTrace, IsTakeTrace, IsPlainTrace}
use Rattle.place_words.specs.Turns.{Turn, TurnAt, turns_of, ring, on_bucket_of, on_freelist_of, bucket_of_key, after_turn, AreAllowed}
use Rattle.place_words.proofs.DoneLaws.{IsKeyVerb, lies_a_bucket, lies_a_freelist}
use Rattle.place_words.proofs.PlainLaws.{second_chosen}
use Rattle.serial_laws.proofs.KeyCalls.{IsAs, DecidesKeys}
use Rattle.serial_laws.proofs.FoundIn.{lookup_gets, take_gets, delete_gets}
use Rattle.serial_laws.proofs.TurnsMade.{AreMade, made_allowed}

-- Freelists

either : (b : Bool) (content : Content) → cond b content content ≡ content
either true content = refl
either false content = refl

head_on_top : (e : ℕ) (stack : List ℕ) → IsHead e stack → slice_get stack 0 ≡ Some e
head_on_top e [] is = absurd is
head_on_top e (x ∷ stack) is = ap Some is

module _ (shape : Shape) (cpu number : ℕ) (state : State) where
  -- buckets and freelists are as they were
  record AreAsBefore (contents : DomainId → Content) : Type 0 where
    buckets : (bucket : ℕ) → contents (Bucket bucket) ≡ lies_in shape state (Bucket bucket)
    freelists : (c : ℕ) → contents (Freelist c) ≡ on_freelist (freelist_at shape state c)

  before : AreAsBefore (lies_in shape state)
  before = record { buckets = λ bucket. refl; freelists = lies_a_freelist shape state }

  -- so they are after a freelist was found empty
  still_before : (from : ℕ) (contents : DomainId → Content) → AreAsBefore contents → AreAsBefore (after_turn shape cpu contents (on_freelist_of from FoundEmpty))
  still_before from contents as_before = record {
    buckets = as_before.buckets;
    freelists = λ c. ap (λ (content : Content). cond (eqb from c) (content_after shape cpu (parts.Free FoundEmpty) content) content) (as_before.freelists c)
        ∙ either (eqb from c) (on_freelist (freelist_at shape state c));
  }

  -- a pop passes by freelists that were found empty, and what comes after them is allowed on what lay there before
  record PassesBy (passed others : List ℕ) (rest : List Turn) : Type 0 where
    popped_is : popped shape state (passed ++ others) ≡ after_turns_of (found_empty passed) (popped shape state others)
    contents : DomainId → Content
    as_before : AreAsBefore contents
    allowed : AreAllowed shape cpu contents rest

  passes_by : (passed others : List ℕ) (rest : List Turn) (contents : DomainId → Content) → AreAsBefore contents → AreAllowed shape cpu contents (found_empty passed ++ rest) → PassesBy passed others rest
  passes_by [] others rest contents as_before allowed = record { popped_is = refl; contents = contents; as_before = as_before; allowed = allowed }
  passes_by (from ∷ passed) others rest contents as_before allowed =
      let empty : freelist_at shape state from ≡ [] = subst (Allows shape cpu (parts.Free FoundEmpty)) (as_before.freelists from) allowed.0 in
      let later = passes_by passed others rest (after_turn shape cpu contents (on_freelist_of from FoundEmpty)) (still_before from contents as_before) allowed.1 in
      record {
        popped_is = ap (λ (stack : List ℕ). popped_or from (slice_get stack 0) (popped shape state (passed ++ others))) empty
            ∙ ap (after_turns_of (on_freelist_of from FoundEmpty ∷ [])) later.popped_is;
        contents = later.contents;
        as_before = later.as_before;
        allowed = later.allowed;
      }

  -- A turn of a key's bucket

  abbrev here : List ℕ → List Stored
  here key = bucket_at shape state (bucket_of_key shape key)

  in_its_bucket : (contents : DomainId → Content) (key : List ℕ) (part : BucketPart) → AreAsBefore contents → Allows shape cpu (parts.Bucket part) (contents (Bucket (bucket_of_key shape key))) → AllowsInBucket shape cpu part (here key)
  in_its_bucket contents key part as_before may =
      subst (Allows shape cpu (parts.Bucket part)) (as_before.buckets (bucket_of_key shape key) ∙ lies_a_bucket shape state (bucket_of_key shape key)) may

  pushed_then : (gone : Option ℕ) (key : List ℕ) (part : BucketPart) → AreAllowed shape cpu (lies_in shape state) (pushes cpu gone ++ on_bucket_of shape key part ∷ []) → AllowsInBucket shape cpu part (here key)
  pushed_then None key part allowed = in_its_bucket (lies_in shape state) key part before allowed.0
  pushed_then (Some e) key part allowed = in_its_bucket (lies_in shape state) key part before allowed.1.0

  -- What an update puts

  module _ (side : Side) (flags : ℕ) (key value : List ℕ) where
    abbrev does_where : Option Stored → Does
    does_where found = plain_does shape cpu side flags key value state found

    abbrev puts_it : Put → Does
    puts_it put = puts_in shape side flags key value put

    allows_put : (put : Put) → AllowsInBucket shape cpu (Update side flags key value None put) (here key) → AllowsPut shape flags key put (here key)
    unfolding AllowsInBucket
    allows_put put may = may

    -- the bucket's turn, after these turns of freelists
    put_there : (contents : DomainId → Content) (put : Put) → AreAsBefore contents → AreAllowed shape cpu contents (on_bucket_of shape key (Update side flags key value None put) ∷ []) → AllowsPut shape flags key put (here key)
    put_there contents put as_before allowed = allows_put put (in_its_bucket contents key (Update side flags key value None put) as_before allowed.0)

    -- an absent key that is to be added, with what a pop gave
    adds : (taking : Taking) (found : Option Stored) → found ≡ None → flags ≢ 2 → popped shape state (ring cpu shape.cpus) ≡ taking → does_where found ≡ first_does taking.turns (puts_it (put_popped taking.got))
    adds taking found none other is =
        ap does_where none ∙ cond-false (eqb flags 2) _ _ (ne_eqb flags 2 other) ∙ ap (λ (got : Taking). first_does got.turns (puts_it (put_popped got.got))) is

    is_absent : (found : Option Stored) → found ≡ None → flags ≡ 2 → does_where found ≡ puts_it puts.Absent
    is_absent found none two = ap does_where none ∙ cond-true (eqb flags 2) _ _ (eq-eqb flags 2 two)

    exists : (found : Option Stored) → MatchOption found ⊥ (λ (body : Stored). flags ≡ 1) → does_where found ≡ puts_it puts.Exists
    exists None there = absurd there
    exists (Some body) there = ap puts_it (cond-true (eqb flags 1) _ _ (eq-eqb flags 1 there))

    written : (found : Option Stored) (e : ℕ) → MatchOption found ⊥ (λ (body : Stored). (body.element ≡ e) × (flags ≢ 1) × IsTrue (is_percpu shape.kind)) → does_where found ≡ puts_it (puts.Written e)
    written None e there = absurd there
    written (Some body) e there = ap puts_it (cond-false (eqb flags 1) _ _ (ne_eqb flags 1 there.1) ∙ cond-true (is_percpu shape.kind) _ _ there.2 ∙ ap puts.Written there.0)

    replaced : (found : Option Stored) (new old : ℕ) → MatchOption found ⊥ (λ (body : Stored). (body.element ≡ old) × (flags ≢ 1) × IsFalse (is_percpu shape.kind)) → state.spares cpu ≡ Some new → does_where found ≡ puts_it (puts.Replaced new old)
    replaced None new old there spare = absurd there
    replaced (Some body) new old there spare =
        ap puts_it (cond-false (eqb flags 1) _ _ (ne_eqb flags 1 there.1) ∙ cond-false (is_percpu shape.kind) _ _ there.2 ∙ (λ i. puts.Replaced (unwrap_or (spare i) 0) (there.0 i)))

    -- where nothing was looked at before
    at_once : (put : Put) (looks : List Turn) → looks ≡ [] → AreAllowed shape cpu (lies_in shape state) (looks ++ on_bucket_of shape key (Update side flags key value None put) ∷ []) → AllowsPut shape flags key put (here key)
    at_once put looks none allowed =
        put_there (lies_in shape state) put before (subst (λ (turns : List Turn). AreAllowed shape cpu (lies_in shape state) (turns ++ on_bucket_of shape key (Update side flags key value None put) ∷ [])) none allowed)

    no_looks : (put : Put) (looks : List Turn) → looks ≡ [] → puts_it put ≡ first_does looks (puts_it put)
    no_looks put looks none = ap (λ (turns : List Turn). first_does turns (puts_it put)) (sym none)

    puts_as : (put : Put) (looks : List Turn) → LooksFor shape cpu (state.spares cpu) put looks → AreAllowed shape cpu (lies_in shape state) (looks ++ on_bucket_of shape key (Update side flags key value None put) ∷ [])
        → does_where (present_in shape state key) ≡ first_does looks (puts_it put)
    puts_as (puts.Added e) looks looked allowed =
        let turn : Turn = on_bucket_of shape key (Update side flags key value None (puts.Added e)) in
        let last : List Turn = on_freelist_of looked.giver (Popped e) ∷ turn ∷ [] in
        let made : AreAllowed shape cpu (lies_in shape state) (found_empty looked.passed ++ last) =
        subst (AreAllowed shape cpu (lies_in shape state)) (ap (λ (turns : List Turn). turns ++ turn ∷ []) looked.turns_are ∙ append_assoc (found_empty looked.passed) (on_freelist_of looked.giver (Popped e) ∷ []) (turn ∷ [])) allowed in
        let past = passes_by looked.passed (looked.giver ∷ looked.left) last (lies_in shape state) before made in
        let top : slice_get (freelist_at shape state looked.giver) 0 ≡ Some e =
        head_on_top e (freelist_at shape state looked.giver) (subst (Allows shape cpu (parts.Free (Popped e))) (past.as_before.freelists looked.giver) past.allowed.0) in
        let may : AllowsPut shape flags key (puts.Added e) (here key) = allows_put (puts.Added e) (in_its_bucket past.contents key (Update side flags key value None (puts.Added e)) past.as_before past.allowed.1.0) in
        let taking : Taking = record { turns = looks; got = Some e } in
        adds taking (present_in shape state key) may.0 may.1
        (ap (popped shape state) looked.ring_is ∙ past.popped_is
        ∙ ap (λ (got : Option ℕ). after_turns_of (found_empty looked.passed) (popped_or looked.giver got (popped shape state looked.left))) top
        ∙ ap (λ (turns : List Turn). record { turns = turns; got = Some e }) (sym looked.turns_are))
    puts_as (puts.Replaced new old) looks looked allowed =
        replaced (present_in shape state key) new old (at_once (puts.Replaced new old) looks looked.0 allowed) looked.1 ∙ no_looks (puts.Replaced new old) looks looked.0
    puts_as (puts.Written e) looks looked allowed = written (present_in shape state key) e (at_once (puts.Written e) looks looked allowed) ∙ no_looks (puts.Written e) looks looked
    puts_as puts.Exists looks looked allowed = exists (present_in shape state key) (at_once puts.Exists looks looked allowed) ∙ no_looks puts.Exists looks looked
    puts_as puts.Absent looks looked allowed =
        let may = at_once puts.Absent looks looked allowed in
        is_absent (present_in shape state key) may.0 may.1 ∙ no_looks puts.Absent looks looked
    puts_as puts.Full looks looked allowed =
        let cpus : List ℕ = ring cpu shape.cpus in
        let turn : Turn = on_bucket_of shape key (Update side flags key value None puts.Full) in
        let past = passes_by cpus [] (turn ∷ []) (lies_in shape state) before (subst (λ (turns : List Turn). AreAllowed shape cpu (lies_in shape state) (turns ++ turn ∷ [])) looked allowed) in
        let may : AllowsPut shape flags key puts.Full (here key) = put_there past.contents puts.Full past.as_before past.allowed in
        let taking : Taking = record { turns = looks; got = None } in
        adds taking (present_in shape state key) may.0 may.1
        (ap (popped shape state) (sym (append-nil cpus)) ∙ past.popped_is
        ∙ ap (λ (turns : List Turn). record { turns = turns; got = None }) (append-nil (found_empty cpus) ∙ sym looked))

  -- Calls

  module _ (plain : is_lru shape.kind ≡ false) (turns : List TurnAt) (reply : Reply) (made : AreMade shape cpu number turns state) where
    -- the turns as the trace tells them
    allowed_as : (told : List Turn) → turns_of turns ≡ told → AreAllowed shape cpu (lies_in shape state) told
    allowed_as told is = subst (AreAllowed shape cpu (lies_in shape state)) is (made_allowed shape cpu number turns state made)

    pushed_as : (gone : Option ℕ) → map (λ e. on_freelist_of cpu (Pushed e)) (option_to_list gone) ≡ pushes cpu gone
    pushed_as None = refl
    pushed_as (Some e) = refl

    out_is : (gone : Option ℕ) (turn : Turn) → taken_out shape cpu number state (option_to_list gone) turn ≡ pushes cpu gone ++ turn ∷ []
    out_is gone turn = cond-false (is_lru shape.kind) _ _ plain ∙ ap (λ (first : List Turn). first ++ turn ∷ []) (pushed_as gone)

    lookup_is : (side : Side) (key : List ℕ) → IsLookupTrace shape side key (turns_of turns) reply → IsAs (key_does shape cpu number state (verbs.Lookup side key)) turns reply
    unfolding key_does
    lookup_is side key trace =
        let may = in_its_bucket (lies_in shape state) key (Lookup side key trace.got) before (allowed_as (on_bucket_of shape key (Lookup side key trace.got) ∷ []) trace.turns_are).0 in
        let got : trace.got ≡ got_by shape side cpu (present_in shape state key) = lookup_gets shape side cpu key (here key) trace.got (present_in shape state key) refl may in
        record {
          turns_are = trace.turns_are ∙ ap (λ (g : Option (ℕ × List ℕ)). on_bucket_of shape key (Lookup side key g) ∷ []) got;
          reply_is = trace.reply_is ∙ ap reply_of_got got;
        }

    delete_is : (key : List ℕ) → IsDeleteTrace shape cpu key (turns_of turns) reply → IsAs (key_does shape cpu number state (verbs.Delete key)) turns reply
    unfolding key_does
    delete_is key trace =
        let may = pushed_then trace.gone key (Delete key trace.gone) (allowed_as (pushes cpu trace.gone ++ on_bucket_of shape key (Delete key trace.gone) ∷ []) trace.turns_are) in
        let gone : trace.gone ≡ option_map (λ (stored : Stored). stored.element) (present_in shape state key) = delete_gets shape cpu key (here key) trace.gone (present_in shape state key) refl may in
        record {
          turns_are = trace.turns_are ∙ sym (out_is trace.gone (on_bucket_of shape key (Delete key trace.gone)))
              ∙ ap (λ (g : Option ℕ). taken_out shape cpu number state (option_to_list g) (on_bucket_of shape key (Delete key g))) gone;
          reply_is = trace.reply_is ∙ ap reply_of_gone gone;
        }

    take_is : (key : List ℕ) → IsTakeTrace shape cpu key (turns_of turns) reply → IsAs (key_does shape cpu number state (verbs.Take key)) turns reply
    unfolding key_does
    take_is key trace =
        let may = pushed_then (element_gone trace.gone) key (Take key trace.gone) (allowed_as (pushes cpu (element_gone trace.gone) ++ on_bucket_of shape key (Take key trace.gone) ∷ []) trace.turns_are) in
        let gone : trace.gone ≡ got_by shape Sys cpu (present_in shape state key) = take_gets shape cpu key (here key) trace.gone (present_in shape state key) refl may in
        record {
          turns_are = trace.turns_are ∙ sym (out_is (element_gone trace.gone) (on_bucket_of shape key (Take key trace.gone)))
              ∙ ap (λ (g : Option (ℕ × List ℕ)). taken_out shape cpu number state (option_to_list (element_gone g)) (on_bucket_of shape key (Take key g))) gone;
          reply_is = trace.reply_is ∙ ap reply_of_got gone;
        }

    update_is : (side : Side) (flags : ℕ) (key value : List ℕ) → IsUpdateTrace shape cpu (state.spares cpu) side flags key value (turns_of turns) reply → IsAs (key_does shape cpu number state (verbs.Update side flags key value)) turns reply
    unfolding key_does
    update_is side flags key value (inl refused) =
        subst (λ (did : Does). IsAs did turns reply) (sym (cond-true (nat_lt 2 flags) _ _ (lt-ltb 2 flags refused.0)))
        (record { turns_are = refused.1; reply_is = refused.2 })
    update_is side flags key value (inr done) =
        let trace : IsPutTrace shape cpu (state.spares cpu) side flags key value (turns_of turns) reply = done.1 in
        let did = puts_as side flags key value trace.put trace.looks trace.looks_are (allowed_as (trace.looks ++ on_bucket_of shape key (Update side flags key value None trace.put) ∷ []) trace.turns_are) in
        subst (λ (did : Does). IsAs did turns reply) (sym (cond-false (nat_lt 2 flags) _ _ (le-ltb 2 flags done.0) ∙ cond-false (is_lru shape.kind) _ _ plain ∙ did))
        (record { turns_are = trace.turns_are; reply_is = trace.reply_is })

    -- the four calls on one key
    pub plain_key_is : (verb : Verb) → IsKeyVerb verb → IsPlainTrace shape cpu (state.spares cpu) verb (turns_of turns) reply → IsAs (key_does shape cpu number state verb) turns reply
    plain_key_is (verbs.Lookup side key) is trace = lookup_is side key trace
    plain_key_is (verbs.Update side flags key value) is trace = update_is side flags key value trace
    plain_key_is (verbs.Delete key) is trace = delete_is key trace
    plain_key_is (verbs.Take key) is trace = take_is key trace
    plain_key_is (verbs.Next key) is trace = absurd is
    plain_key_is (verbs.BatchRead remove count start flags) is trace = absurd is
    plain_key_is (verbs.BatchUpdate flags pairs) is trace = absurd is
    plain_key_is (verbs.BatchDelete flags keys) is trace = absurd is
    plain_key_is (verbs.Each flags stop) is trace = absurd is

-- Calls on one key ask nothing of the state, nor of their turns but that they are made there.
pub plain_decides : (Fact : State → Turn → Type 0) (shape : Shape) (cpu : ℕ) → is_lru shape.kind ≡ false → DecidesKeys Fact shape cpu (λ state. Unit {0})
plain_decides Fact shape cpu plain = record {
  key_is = λ number state verb turns reply good is trace made each. plain_key_is shape cpu number state plain turns reply made verb is (second_chosen (is_lru shape.kind) _ _ plain trace);
  stays = λ number state verb good is. tt;
}
