-- On a map that doesn't evict each call on one key does in serial order what the rules say: its turns are a trace of it with its
-- reply, and each may be made at its place.
use Rattle.std.proofs.Common.{◌≡◌, ◌≢◌, ℕ, ◌≤◌, Bool, true, false, cond, eqb, List, [], ◌∷◌, ◌++◌, map, refl, ap, ◌∙◌, sym, subst, inl, inr}
use Rattle.std.proofs.Math.Path.{fun_ext}
use Rattle.std.specs.Prelude.{Option, None, Some, MatchOption, IsTrue, IsFalse, slice_get, unwrap_or, option_map, option_to_list, nat_lt}
use Rattle.std.proofs.lemmas.Bool.{eqb-true, eqb-false, ltb-true, ltb-false}
use Rattle.std.proofs.lemmas.Option.{none-some, same_Some}
use Rattle.map_types.specs.declared.attr.Shape.{Shape}
use Rattle.map_types.specs.declared.call.Verb.{Verb}
use Rattle.map_types.specs.declared.call.Verb.TheVariants as verbs
use Rattle.map_types.specs.declared.kind.DomainId.{DomainId}
use Rattle.map_types.specs.declared.kind.DomainId.TheVariants.{Bucket, Freelist}
use Rattle.map_types.specs.declared.kind.Side.{Side}
use Rattle.map_types.specs.declared.kind.Side.TheVariants.{Sys}
use Rattle.map_types.specs.declared.refusal.Errno.TheVariants.{Einval}
use Rattle.map_types.specs.declared.reply.Reply.TheVariants.{Refused}
use Rattle.map_types.specs.Kind.{is_lru, is_percpu}
use Rattle.map_types.specs.Sides.{value_read}
use Rattle.map_types.specs.Stored.{Stored}
use Rattle.place_words.specs.declared.bucket_part.BucketPart.{BucketPart}
use Rattle.place_words.specs.declared.bucket_part.BucketPart.TheVariants.{Lookup, Update, Delete, Take}
use Rattle.place_words.specs.declared.bucket_part.Put.{Put}
use Rattle.place_words.specs.declared.bucket_part.Put.TheVariants as puts
use Rattle.place_words.specs.declared.free_part.FreePart.TheVariants.{Pushed, Popped, FoundEmpty}
use Rattle.place_words.specs.declared.history.Entry.{Entry}
use Rattle.place_words.specs.declared.history.Part.{Part}
use Rattle.place_words.specs.declared.history.Part.TheVariants as parts
use Rattle.place_words.specs.Bodies.{present}
use Rattle.place_words.specs.Buckets.{AllowsInBucket, AllowsPut}
use Rattle.map_types.specs.ElementLists.{IsHead}
use Rattle.place_words.specs.Histories.{Content, Allows, content_after, opening_content, replayed, in_bucket, on_freelist, in_locals, in_global, in_own, bucket_in, freelist_in}
use Rattle.place_words.specs.Locks.{is_same_lock}
use Rattle.place_words.specs.Logs.{State, lies_in, bucket_at, freelist_at, present_in, Taking, popped, popped_or, Does, first_does, put_present, put_popped, puts_in, plain_does, got_by, taken_out, key_does}
use Rattle.place_words.specs.PlainTraces.{IsPlainTrace, LooksFor, found_empty, pushes, element_gone}
use Rattle.place_words.specs.Turns.{Turn, ring, on_bucket_of, on_freelist_of, bucket_of_key, after_turn, after_turns, AreAllowed}

-- What lies under a bucket's lock is a bucket, and under a freelist's a freelist

abbrev IsABucket : Content → Type 0
IsABucket (in_bucket bodies) = Unit {0}
IsABucket (on_freelist stack) = ⊥
IsABucket (in_locals lists) = ⊥
IsABucket (in_global set) = ⊥
IsABucket (in_own set) = ⊥

abbrev IsAFreelist : Content → Type 0
IsAFreelist (in_bucket bodies) = ⊥
IsAFreelist (on_freelist stack) = Unit {0}
IsAFreelist (in_locals lists) = ⊥
IsAFreelist (in_global set) = ⊥
IsAFreelist (in_own set) = ⊥

bucket_after_turn : (shape : Shape) (cpu : ℕ) (part : Part) (before : Content) → IsABucket before → IsABucket (content_after shape cpu part before)
bucket_after_turn shape cpu (parts.Bucket part) (in_bucket bodies) is = tt
bucket_after_turn shape cpu (parts.Free part) (in_bucket bodies) is = tt
bucket_after_turn shape cpu (parts.Local part) (in_bucket bodies) is = tt
bucket_after_turn shape cpu (parts.Global part) (in_bucket bodies) is = tt
bucket_after_turn shape cpu (parts.Own part) (in_bucket bodies) is = tt
bucket_after_turn shape cpu part (on_freelist stack) is = absurd is
bucket_after_turn shape cpu part (in_locals lists) is = absurd is
bucket_after_turn shape cpu part (in_global set) is = absurd is
bucket_after_turn shape cpu part (in_own set) is = absurd is

freelist_after_turn : (shape : Shape) (cpu : ℕ) (part : Part) (before : Content) → IsAFreelist before → IsAFreelist (content_after shape cpu part before)
freelist_after_turn shape cpu (parts.Bucket part) (on_freelist stack) is = tt
freelist_after_turn shape cpu (parts.Free part) (on_freelist stack) is = tt
freelist_after_turn shape cpu (parts.Local part) (on_freelist stack) is = tt
freelist_after_turn shape cpu (parts.Global part) (on_freelist stack) is = tt
freelist_after_turn shape cpu (parts.Own part) (on_freelist stack) is = tt
freelist_after_turn shape cpu part (in_bucket bodies) is = absurd is
freelist_after_turn shape cpu part (in_locals lists) is = absurd is
freelist_after_turn shape cpu part (in_global set) is = absurd is
freelist_after_turn shape cpu part (in_own set) is = absurd is

replay_keeps : (P : Content → Type 0) (shape : Shape) → ((cpu : ℕ) (part : Part) (before : Content) → P before → P (content_after shape cpu part before)) → (before : Content) (entries : List Entry) → P before → P (replayed shape before entries)
unfolding replayed
replay_keeps P shape keeps before [] is = is
replay_keeps P shape keeps before (entry ∷ entries) is = replay_keeps P shape keeps (content_after shape entry.cpu entry.part before) entries (keeps entry.cpu entry.part before is)

one_bucket : (here : Content) → IsABucket here → here ≡ in_bucket (unwrap_or (bucket_in here) [])
one_bucket (in_bucket bodies) is = refl
one_bucket (on_freelist stack) is = absurd is
one_bucket (in_locals lists) is = absurd is
one_bucket (in_global set) is = absurd is
one_bucket (in_own set) is = absurd is

one_freelist : (here : Content) → IsAFreelist here → here ≡ on_freelist (unwrap_or (freelist_in here) [])
one_freelist (in_bucket bodies) is = absurd is
one_freelist (on_freelist stack) is = refl
one_freelist (in_locals lists) is = absurd is
one_freelist (in_global set) is = absurd is
one_freelist (in_own set) is = absurd is

pub lies_a_bucket : (shape : Shape) (state : State) (bucket : ℕ) → lies_in shape state (Bucket bucket) ≡ in_bucket (bucket_at shape state bucket)
lies_a_bucket shape state bucket = one_bucket _ (replay_keeps IsABucket shape (bucket_after_turn shape) (in_bucket []) (state.logs (Bucket bucket)) tt)

pub lies_a_freelist : (shape : Shape) (state : State) (cpu : ℕ) → lies_in shape state (Freelist cpu) ≡ on_freelist (freelist_at shape state cpu)
lies_a_freelist shape state cpu = one_freelist _ (replay_keeps IsAFreelist shape (freelist_after_turn shape) (opening_content shape (Freelist cpu)) (state.logs (Freelist cpu)) tt)

-- What a call finds

pub found_reads : (shape : Shape) (side : Side) (cpu : ℕ) (key : List ℕ) (bodies : List Stored) (found : Option Stored) → present key bodies ≡ found → AllowsInBucket shape cpu (Lookup side key (got_by shape side cpu found)) bodies
unfolding AllowsInBucket
found_reads shape side cpu key bodies None is = is
found_reads shape side cpu key bodies (Some body) is = subst (λ (o : Option Stored). MatchOption o ⊥ (λ (b : Stored). (b.element ≡ body.element) × (value_read shape side cpu body.values ≡ value_read shape side cpu b.values))) (sym is) (refl, refl)

-- A call's turns are a trace of it with its reply, and each may be made at its place.
pub record IsPlainlyDone (shape : Shape) (cpu : ℕ) (state : State) (verb : Verb) (did : Does) : Type 0 where
  pub trace : IsPlainTrace shape cpu (state.spares cpu) verb did.turns did.reply
  pub allowed : AreAllowed shape cpu (lies_in shape state) did.turns

module _ (shape : Shape) (cpu : ℕ) (state : State) where
  abbrev here : List ℕ → List Stored
  here key = bucket_at shape state (bucket_of_key shape key)

  -- a turn of a key's bucket
  in_its_bucket : (contents : DomainId → Content) (key : List ℕ) (part : BucketPart) → contents (Bucket (bucket_of_key shape key)) ≡ lies_in shape state (Bucket (bucket_of_key shape key)) → AllowsInBucket shape cpu part (here key)
      → AreAllowed shape cpu contents (on_bucket_of shape key part ∷ [])
  in_its_bucket contents key part same may =
      (subst (Allows shape cpu (parts.Bucket part)) (sym (same ∙ lies_a_bucket shape state (bucket_of_key shape key))) may, tt)

  lookup_done : (number : ℕ) (side : Side) (key : List ℕ) → IsPlainlyDone shape cpu state (verbs.Lookup side key) (key_does shape cpu number state (verbs.Lookup side key))
  unfolding key_does
  lookup_done number side key = record {
    trace = record { got = got_by shape side cpu (present_in shape state key); turns_are = refl; reply_is = refl };
    allowed = in_its_bucket (lies_in shape state) key _ refl (found_reads shape side cpu key (here key) (present_in shape state key) refl);
  }

-- Freelists that are found empty leave everything as it is

empty_leaves : (shape : Shape) (cpu : ℕ) (before : Content) → content_after shape cpu (parts.Free FoundEmpty) before ≡ before
empty_leaves shape cpu (in_bucket bodies) = refl
empty_leaves shape cpu (on_freelist stack) = refl
empty_leaves shape cpu (in_locals lists) = refl
empty_leaves shape cpu (in_global set) = refl
empty_leaves shape cpu (in_own set) = refl

pub either_same : (b : Bool) (x y : Content) → x ≡ y → cond b x y ≡ y
either_same true x y same = same
either_same false x y same = refl

pub after_empty : (shape : Shape) (cpu giver : ℕ) (contents : DomainId → Content) → after_turn shape cpu contents (on_freelist_of giver FoundEmpty) ≡ contents
after_empty shape cpu giver contents =
    fun_ext (λ lock. either_same (is_same_lock (Freelist giver) lock) _ _ (empty_leaves shape cpu (contents lock)))

-- what a pop found: all freelists empty, or one that gives an element
LookedAt : List ℕ → List Turn → Option ℕ → Type 0
LookedAt cpus turns None = turns ≡ found_empty cpus
LookedAt cpus turns (Some e) = (passed : List ℕ) × (giver : ℕ) × (left : List ℕ) × (cpus ≡ passed ++ giver ∷ left) × (turns ≡ found_empty passed ++ on_freelist_of giver (Popped e) ∷ [])

looked_later : (from : ℕ) (cpus : List ℕ) (turns : List Turn) (got : Option ℕ) → LookedAt cpus turns got → LookedAt (from ∷ cpus) (on_freelist_of from FoundEmpty ∷ turns) got
unfolding LookedAt
looked_later from cpus turns None looked = ap (λ (xs : List Turn). on_freelist_of from FoundEmpty ∷ xs) looked
looked_later from cpus turns (Some e) looked = (from ∷ looked.0, looked.1, looked.2, ap (λ (xs : List ℕ). from ∷ xs) looked.3, ap (λ (xs : List Turn). on_freelist_of from FoundEmpty ∷ xs) looked.4)

record IsPopped (shape : Shape) (cpu : ℕ) (state : State) (cpus : List ℕ) (taking : Taking) : Type 0 where
  looked : LookedAt cpus taking.turns taking.got
  allowed : AreAllowed shape cpu (lies_in shape state) taking.turns
  buckets : (bucket : ℕ) → after_turns shape cpu (lies_in shape state) taking.turns (Bucket bucket) ≡ lies_in shape state (Bucket bucket)

none_on_top : (stack : List ℕ) → slice_get stack 0 ≡ None → stack ≡ []
none_on_top [] none = refl
none_on_top (x ∷ stack) none = absurd (none-some x (sym none))

on_top : (e : ℕ) (stack : List ℕ) → slice_get stack 0 ≡ Some e → IsHead e stack
on_top e [] some = absurd (none-some e some)
on_top e (x ∷ stack) some = same_Some x e some

pop_step : (shape : Shape) (cpu : ℕ) (state : State) (from : ℕ) (others : List ℕ) (top : Option ℕ) (later : Taking) → slice_get (freelist_at shape state from) 0 ≡ top → IsPopped shape cpu state others later
    → IsPopped shape cpu state (from ∷ others) (popped_or from top later)
unfolding LookedAt
pop_step shape cpu state from others (Some e) later is rest = record {
  looked = ([], from, others, refl, refl);
  allowed = (subst (Allows shape cpu (parts.Free (Popped e))) (sym (lies_a_freelist shape state from)) (on_top e (freelist_at shape state from) is), tt);
  buckets = λ bucket. refl;
}
pop_step shape cpu state from others None later is rest = record {
  looked = looked_later from others later.turns later.got rest.looked;
  allowed = (
    subst (Allows shape cpu (parts.Free FoundEmpty)) (sym (lies_a_freelist shape state from)) (none_on_top (freelist_at shape state from) is),
    subst (λ (contents : DomainId → Content). AreAllowed shape cpu contents later.turns) (sym (after_empty shape cpu from (lies_in shape state))) rest.allowed,
  );
  buckets = λ bucket. ap (λ (contents : DomainId → Content). after_turns shape cpu contents later.turns (Bucket bucket)) (after_empty shape cpu from (lies_in shape state)) ∙ rest.buckets bucket;
}

pops : (shape : Shape) (cpu : ℕ) (state : State) (cpus : List ℕ) → IsPopped shape cpu state cpus (popped shape state cpus)
unfolding LookedAt
pops shape cpu state [] = record { looked = refl; allowed = tt; buckets = λ bucket. refl }
pops shape cpu state (from ∷ others) = pop_step shape cpu state from others (slice_get (freelist_at shape state from) 0) (popped shape state others) refl (pops shape cpu state others)

-- Updates

pub allowed_both : (shape : Shape) (cpu : ℕ) (contents : DomainId → Content) (first second : List Turn) → AreAllowed shape cpu contents first → AreAllowed shape cpu (after_turns shape cpu contents first) second → AreAllowed shape cpu contents (first ++ second)
allowed_both shape cpu contents [] second one two = two
allowed_both shape cpu contents (turn ∷ first) second one two = (one.0, allowed_both shape cpu (after_turn shape cpu contents turn) first second one.1 two)

module _ (shape : Shape) (flags : ℕ) (key : List ℕ) (bodies : List Stored) (spare : Option ℕ) (old : Stored) (is : present key bodies ≡ Some old) where
  with_old : (Fact : Stored → Type 0) → Fact old → MatchOption (present key bodies) ⊥ Fact
  with_old Fact fact = subst (λ (o : Option Stored). MatchOption o ⊥ Fact) (sym is) fact

  present_put : (one percpu : Bool) → eqb flags 1 ≡ one → is_percpu shape.kind ≡ percpu → AllowsPut shape flags key (cond one puts.Exists (cond percpu (puts.Written old.element) (puts.Replaced (unwrap_or spare 0) old.element))) bodies
  present_put true percpu flag kind = with_old (λ body. flags ≡ 1) (eqb-true flags 1 flag)
  present_put false true flag kind = with_old (λ body. (body.element ≡ old.element) × (flags ≢ 1) × IsTrue (is_percpu shape.kind)) (refl, eqb-false flags 1 flag, kind)
  present_put false false flag kind = with_old (λ body. (body.element ≡ old.element) × (flags ≢ 1) × IsFalse (is_percpu shape.kind)) (refl, eqb-false flags 1 flag, kind)

  present_looks : (cpu : ℕ) (one percpu : Bool) → (percpu ≡ false → spare ≡ Some (unwrap_or spare 0)) → LooksFor shape cpu spare (cond one puts.Exists (cond percpu (puts.Written old.element) (puts.Replaced (unwrap_or spare 0) old.element))) []
  present_looks cpu true percpu there = refl
  present_looks cpu false true there = refl
  present_looks cpu false false there = (refl, there refl)

popped_looks : (shape : Shape) (cpu : ℕ) (spare : Option ℕ) (turns : List Turn) (got : Option ℕ) → LookedAt (ring cpu shape.cpus) turns got → LooksFor shape cpu spare (put_popped got) turns
unfolding LookedAt
popped_looks shape cpu spare turns None looked = looked
popped_looks shape cpu spare turns (Some e) looked = record { passed = looked.0; giver = looked.1; left = looked.2; ring_is = looked.3; turns_are = looked.4 }

popped_put : (shape : Shape) (flags : ℕ) (key : List ℕ) (bodies : List Stored) (got : Option ℕ) → is_lru shape.kind ≡ false → present key bodies ≡ None → flags ≢ 2 → AllowsPut shape flags key (put_popped got) bodies
popped_put shape flags key bodies None plain absent other = (absent, other, plain)
popped_put shape flags key bodies (Some e) plain absent other = (absent, other)

module _ (shape : Shape) (cpu : ℕ) (state : State) (side : Side) (flags : ℕ) (key value : List ℕ) (plain : is_lru shape.kind ≡ false) (few : flags ≤ 2) where
  may_put : (put : Put) → AllowsPut shape flags key put (here shape cpu state key) → AllowsInBucket shape cpu (Update side flags key value None put) (here shape cpu state key)
  unfolding AllowsInBucket
  may_put put may = may

  put_done : (put : Put) (looks : List Turn) → LooksFor shape cpu (state.spares cpu) put looks → AreAllowed shape cpu (lies_in shape state) looks
      → ((bucket : ℕ) → after_turns shape cpu (lies_in shape state) looks (Bucket bucket) ≡ lies_in shape state (Bucket bucket)) → AllowsPut shape flags key put (here shape cpu state key)
      → IsPlainlyDone shape cpu state (verbs.Update side flags key value) (first_does looks (puts_in shape side flags key value put))
  put_done put looks looked allowed same may = record {
    trace = inr (few, record { put = put; looks = looks; looks_are = looked; turns_are = refl; reply_is = refl });
    allowed = allowed_both shape cpu (lies_in shape state) looks _ allowed
        (in_its_bucket shape cpu state (after_turns shape cpu (lies_in shape state) looks) key _ (same (bucket_of_key shape key)) (may_put put may));
  }

  absent_done : (two : Bool) → eqb flags 2 ≡ two → present_in shape state key ≡ None
      → IsPlainlyDone shape cpu state (verbs.Update side flags key value) (cond two (puts_in shape side flags key value puts.Absent) (first_does (popped shape state (ring cpu shape.cpus)).turns (puts_in shape side flags key value (put_popped (popped shape state (ring cpu shape.cpus)).got))))
  absent_done true flag absent = put_done puts.Absent [] refl tt (λ bucket. refl) (absent, eqb-true flags 2 flag)
  absent_done false flag absent =
      let found = pops shape cpu state (ring cpu shape.cpus) in
      put_done (put_popped (popped shape state (ring cpu shape.cpus)).got) (popped shape state (ring cpu shape.cpus)).turns
      (popped_looks shape cpu (state.spares cpu) _ _ found.looked) found.allowed found.buckets
      (popped_put shape flags key (here shape cpu state key) _ plain absent (eqb-false flags 2 flag))

  plain_done : (found : Option Stored) → present_in shape state key ≡ found → (is_percpu shape.kind ≡ false → state.spares cpu ≡ Some (unwrap_or (state.spares cpu) 0))
      → IsPlainlyDone shape cpu state (verbs.Update side flags key value) (plain_does shape cpu side flags key value state found)
  plain_done None absent spare = absent_done (eqb flags 2) refl absent
  plain_done (Some old) is spare =
      put_done (put_present shape flags (state.spares cpu) old) []
      (present_looks shape flags key (here shape cpu state key) (state.spares cpu) old is cpu (eqb flags 1) (is_percpu shape.kind) spare) tt (λ bucket. refl)
      (present_put shape flags key (here shape cpu state key) (state.spares cpu) old is (eqb flags 1) (is_percpu shape.kind) refl refl)

-- Deletes and takes

pub found_deletes : (shape : Shape) (cpu : ℕ) (key : List ℕ) (bodies : List Stored) (found : Option Stored) → present key bodies ≡ found → AllowsInBucket shape cpu (Delete key (option_map (λ (stored : Stored). stored.element) found)) bodies
unfolding AllowsInBucket
found_deletes shape cpu key bodies None is = is
found_deletes shape cpu key bodies (Some body) is = subst (λ (o : Option Stored). MatchOption o ⊥ (λ (b : Stored). b.element ≡ body.element)) (sym is) refl

pub found_takes : (shape : Shape) (cpu : ℕ) (key : List ℕ) (bodies : List Stored) (found : Option Stored) → present key bodies ≡ found → AllowsInBucket shape cpu (Take key (got_by shape Sys cpu found)) bodies
unfolding AllowsInBucket
found_takes shape cpu key bodies None is = is
found_takes shape cpu key bodies (Some body) is = subst (λ (o : Option Stored). MatchOption o ⊥ (λ (b : Stored). (b.element ≡ body.element) × (value_read shape Sys cpu body.values ≡ value_read shape Sys cpu b.values))) (sym is) (refl, refl)

pushed_as : (cpu : ℕ) (gone : Option ℕ) → map (λ e. on_freelist_of cpu (Pushed e)) (option_to_list gone) ≡ pushes cpu gone
pushed_as cpu None = refl
pushed_as cpu (Some e) = refl

pub second_of : (b : Bool) (x y : List Turn) → b ≡ false → cond b x y ≡ y
second_of true x y is = absurd cc
second_of false x y is = refl

module _ (shape : Shape) (cpu number : ℕ) (state : State) (plain : is_lru shape.kind ≡ false) where
  out_is : (gone : Option ℕ) (turn : Turn) → taken_out shape cpu number state (option_to_list gone) turn ≡ pushes cpu gone ++ turn ∷ []
  out_is gone turn = second_of (is_lru shape.kind) _ _ plain ∙ ap (λ (xs : List Turn). xs ++ turn ∷ []) (pushed_as cpu gone)

  push_allowed : (gone : Option ℕ) (key : List ℕ) (part : BucketPart) → AllowsInBucket shape cpu part (here shape cpu state key) → AreAllowed shape cpu (lies_in shape state) (pushes cpu gone ++ on_bucket_of shape key part ∷ [])
  push_allowed None key part may = in_its_bucket shape cpu state (lies_in shape state) key part refl may
  push_allowed (Some e) key part may =
      (subst (Allows shape cpu (parts.Free (Pushed e))) (sym (lies_a_freelist shape state cpu)) tt, in_its_bucket shape cpu state (after_turn shape cpu (lies_in shape state) (on_freelist_of cpu (Pushed e))) key part refl may)

  delete_done : (key : List ℕ) → IsPlainlyDone shape cpu state (verbs.Delete key) (key_does shape cpu number state (verbs.Delete key))
  unfolding key_does
  delete_done key =
      let gone : Option ℕ = option_map (λ (stored : Stored). stored.element) (present_in shape state key) in
      record {
        trace = record { gone = gone; turns_are = out_is gone (on_bucket_of shape key (Delete key gone)); reply_is = refl };
        allowed = subst (AreAllowed shape cpu (lies_in shape state)) (sym (out_is gone (on_bucket_of shape key (Delete key gone))))
            (push_allowed gone key _ (found_deletes shape cpu key (here shape cpu state key) (present_in shape state key) refl));
      }

  take_done : (key : List ℕ) → IsPlainlyDone shape cpu state (verbs.Take key) (key_does shape cpu number state (verbs.Take key))
  unfolding key_does
  take_done key =
      let gone : Option (ℕ × List ℕ) = got_by shape Sys cpu (present_in shape state key) in
      let turn : Turn = on_bucket_of shape key (Take key gone) in
      record {
        trace = record { gone = gone; turns_are = out_is (element_gone gone) turn; reply_is = refl };
        allowed = subst (AreAllowed shape cpu (lies_in shape state)) (sym (out_is (element_gone gone) turn))
            (push_allowed (element_gone gone) key _ (found_takes shape cpu key (here shape cpu state key) (present_in shape state key) refl));
      }

  update_where : (side : Side) (flags : ℕ) (key value : List ℕ) (many lru : Bool) (evicting : Does) → nat_lt 2 flags ≡ many → lru ≡ false → (is_percpu shape.kind ≡ false → state.spares cpu ≡ Some (unwrap_or (state.spares cpu) 0))
      → IsPlainlyDone shape cpu state (verbs.Update side flags key value) (cond many (record { turns = []; reply = Refused Einval }) (cond lru evicting (plain_does shape cpu side flags key value state (present_in shape state key))))
  update_where side flags key value true lru evicting more is spare = record { trace = inl (ltb-true 2 flags more, refl, refl); allowed = tt }
  update_where side flags key value false true evicting few is spare = absurd cc
  update_where side flags key value false false evicting few is spare = plain_done shape cpu state side flags key value plain (ltb-false 2 flags few) (present_in shape state key) refl spare

  update_done : (side : Side) (flags : ℕ) (key value : List ℕ) → (is_percpu shape.kind ≡ false → state.spares cpu ≡ Some (unwrap_or (state.spares cpu) 0)) → IsPlainlyDone shape cpu state (verbs.Update side flags key value) (key_does shape cpu number state (verbs.Update side flags key value))
  unfolding key_does
  update_done side flags key value spare = update_where side flags key value (nat_lt 2 flags) (is_lru shape.kind) _ refl plain spare

-- a call on one key
abbrev pub IsKeyVerb : Verb → Type 0
IsKeyVerb (verbs.Lookup side key) = Unit {0}
IsKeyVerb (verbs.Update side flags key value) = Unit {0}
IsKeyVerb (verbs.Delete key) = Unit {0}
IsKeyVerb (verbs.Take key) = Unit {0}
IsKeyVerb (verbs.Next key) = ⊥
IsKeyVerb (verbs.BatchRead remove count start flags) = ⊥
IsKeyVerb (verbs.BatchUpdate flags pairs) = ⊥
IsKeyVerb (verbs.BatchDelete flags keys) = ⊥
IsKeyVerb (verbs.Each flags stop) = ⊥

-- The four calls on one key. On a map whose elements have one value the CPU has its spare.
pub key_done : (shape : Shape) (cpu number : ℕ) (state : State) → is_lru shape.kind ≡ false → (is_percpu shape.kind ≡ false → state.spares cpu ≡ Some (unwrap_or (state.spares cpu) 0))
    → (verb : Verb) → IsKeyVerb verb → IsPlainlyDone shape cpu state verb (key_does shape cpu number state verb)
key_done shape cpu number state plain spare (verbs.Lookup side key) served = lookup_done shape cpu state number side key
key_done shape cpu number state plain spare (verbs.Update side flags key value) served = update_done shape cpu number state plain side flags key value spare
key_done shape cpu number state plain spare (verbs.Delete key) served = delete_done shape cpu number state plain key
key_done shape cpu number state plain spare (verbs.Take key) served = take_done shape cpu number state plain key
key_done shape cpu number state plain spare (verbs.Next key) served = absurd served
key_done shape cpu number state plain spare (verbs.BatchRead remove count start flags) served = absurd served
key_done shape cpu number state plain spare (verbs.BatchUpdate flags pairs) served = absurd served
key_done shape cpu number state plain spare (verbs.BatchDelete flags keys) served = absurd served
key_done shape cpu number state plain spare (verbs.Each flags stop) served = absurd served
