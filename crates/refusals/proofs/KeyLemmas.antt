-- What lookups and updates of a key did, on a map of any kind.
use Rattle.std.proofs.Common.{◌≡◌, ℕ, Bool, true, false, cond, ⊎_elim, List, [], ◌∷◌, map, refl, ap, sym, ◌∙◌, subst, Option, None, Some, MatchOption}
use Rattle.std.specs.Prelude.{◌≢◌, ◌==◌, ◌&&◌, IsSome, IsTrue, IsFalse, bytes_eq}
use Rattle.std.proofs.lemmas.Option.{none-some}
use Rattle.std.proofs.lemmas.Slice.Eq.{bytes_eq-Decides}
use Rattle.map_types.specs.declared.attr.Shape.{Shape}
use Rattle.map_types.specs.declared.call.Verb.TheVariants as verbs
use Rattle.map_types.specs.declared.kind.DomainId.TheVariants.{Bucket}
use Rattle.map_types.specs.declared.kind.Side.{Side}
use Rattle.map_types.specs.declared.refusal.Errno.TheVariants.{E2big, Enoent, Enomem, Einval}
use Rattle.map_types.specs.declared.reply.Reply.TheVariants.{Done, Value, Refused}
use Rattle.map_types.specs.Kind.{is_lru, is_percpu}
use Rattle.map_types.specs.Sides.{value_read, new_values, values_written}
use Rattle.map_types.specs.Stored.{Stored}
use Rattle.place_words.specs.declared.bucket_part.BucketPart.{BucketPart}
use Rattle.place_words.specs.declared.bucket_part.BucketPart.TheVariants.{Lookup, Update}
use Rattle.place_words.specs.declared.bucket_part.Put.{Put}
use Rattle.place_words.specs.declared.bucket_part.Put.TheVariants as puts
use Rattle.place_words.specs.Bodies.{has_key, present, without_key}
use Rattle.place_words.specs.Buckets.{IsAbsent, IsPresentWith, AllowsInBucket, new_stored, written_over, bucket_after}
use Rattle.place_words.specs.Evicting.{IsEvictingUpdate, OffersOne, MayPut, MayPutAlone}
use Rattle.place_words.specs.PlainTraces.{IsLookupTrace, IsUpdateTrace, reply_of_got, reply_of_put}
use Rattle.place_words.specs.Turns.{Turn, TurnAt, turns_of, bucket_of_key, on_bucket_of}
use Rattle.place_table.specs.declared.view.Turned.{Turned}
use Rattle.place_table.specs.Calls.{Called, spare_element}
use Rattle.place_table.specs.Known.{turn_at}
use Rattle.place_table.specs.Passes.{PassView, TableView}
use Rattle.refusals.specs.Made.{lay, bodies_in, IsOfBucketOf, Did, AllDid, MadeUpdate}
use Rattle.refusals.specs.Keys.{EnoentIsAbsent, ValueLiesThere, HoldsWritten, DoneIsWritten, NoexistFindsNone, ExistFindsIt, E2bigIsPlain, EnomemIsEvicting}
use Rattle.refusals.proofs.KeyTraces.{by_kind, lookup_trace, PutTurn, done_turn}
use Rattle.refusals.proofs.MadeLemmas.{called_did, did_single, did_at, allowed_there, left_there}

-- Keys in buckets

pub present_weaker : (P Q : Stored → Type 0) (found : Option Stored) → ((body : Stored) → P body → Q body) → MatchOption found ⊥ P → MatchOption found ⊥ Q
present_weaker P Q None weaker is = absurd is
present_weaker P Q (Some body) weaker is = weaker body is

first_found : (key : List ℕ) (body : Stored) (bodies : List Stored) → has_key key body ≡ true → present key (body ∷ bodies) ≡ Some body
first_found key body bodies has = rw has refl

other_found : (key : List ℕ) (body : Stored) (bodies : List Stored) → has_key key body ≡ false → present key (body ∷ bodies) ≡ present key bodies
other_found key body bodies hasnt = rw hasnt refl

is_its_key : (key : List ℕ) → bytes_eq key key ≡ true
is_its_key key = (bytes_eq-Decides key key).1 refl

pub new_there : (shape : Shape) (side : Side) (cpu e : ℕ) (key value : List ℕ) (bodies : List Stored) → present key (new_stored shape side cpu e key value ∷ bodies) ≡ Some (new_stored shape side cpu e key value)
new_there shape side cpu e key value bodies = first_found key (new_stored shape side cpu e key value) bodies (is_its_key key)

module _ (shape : Shape) (side : Side) (cpu : ℕ) (key value : List ℕ) where
  over_it : Stored → Stored
  over_it body = record body { values = values_written shape side cpu body.values value }

  written_first : (body : Stored) → has_key key body ≡ true → written_over shape side cpu key value body ≡ over_it body
  unfolding over_it
  written_first body has = ap (λ (b : Bool). cond b (record body { values = values_written shape side cpu body.values value }) body) has

  written_other : (body : Stored) → has_key key body ≡ false → written_over shape side cpu key value body ≡ body
  written_other body hasnt = ap (λ (b : Bool). cond b (record body { values = values_written shape side cpu body.values value }) body) hasnt

  over_has : (body : Stored) → has_key key body ≡ true → has_key key (over_it body) ≡ true
  unfolding over_it
  over_has body has = has

  abbrev Over : Option Stored → Stored → Type 0
  Over found body = MatchOption found ⊥ (λ old. body.values ≡ values_written shape side cpu old.values value)

  over_is : (body : Stored) → Over (Some body) (over_it body)
  unfolding over_it
  over_is body = refl

  abbrev WrittenIn : List Stored → Type 0
  WrittenIn bodies = MatchOption (present key (map (written_over shape side cpu key value) bodies)) ⊥ (Over (present key bodies))

  written_there : (bodies : List Stored) → IsSome (present key bodies) → WrittenIn bodies
  written_there [] there = absurd cc
  written_there (body ∷ bodies) there = by (has_key key body) refl (λ more. written_there bodies more)
    where
      by : (b : Bool) → has_key key body ≡ b → (IsSome (present key bodies) → WrittenIn bodies) → WrittenIn (body ∷ bodies)
      by true has next =
          subst (λ (x : Stored). MatchOption (present key (x ∷ map (written_over shape side cpu key value) bodies)) ⊥ (Over (present key (body ∷ bodies)))) (sym (written_first body has))
          (subst (λ (o : Option Stored). MatchOption o ⊥ (Over (present key (body ∷ bodies)))) (sym (first_found key (over_it body) (map (written_over shape side cpu key value) bodies) (over_has body has)))
          (subst (λ (o : Option Stored). Over o (over_it body)) (sym (first_found key body bodies has)) (over_is body)))
      by false hasnt next =
          subst (λ (x : Stored). MatchOption (present key (x ∷ map (written_over shape side cpu key value) bodies)) ⊥ (Over (present key (body ∷ bodies)))) (sym (written_other body hasnt))
          (subst (λ (o : Option Stored). MatchOption o ⊥ (Over (present key (body ∷ bodies)))) (sym (other_found key body (map (written_over shape side cpu key value) bodies) hasnt))
          (subst (λ (o : Option Stored). MatchOption (present key (map (written_over shape side cpu key value) bodies)) ⊥ (Over o)) (sym (other_found key body bodies hasnt))
          (next (subst (λ (o : Option Stored). IsSome o) (other_found key body bodies hasnt) there))))

pub is_there : (P : Stored → Type 0) (found : Option Stored) → MatchOption found ⊥ P → IsSome found
is_there P None is = absurd is
is_there P (Some body) is = refl

pub absent_not_there : (found : Option Stored) → found ≡ None → IsSome found → ⊥
absent_not_there None none there = absurd cc
absent_not_there (Some x) none there = absurd cc

-- Lookups

module _ (shape : Shape) (cpu : ℕ) (side : Side) (key : List ℕ) (steps : List Turned) where
  looked_at : (part : BucketPart) → AllDid shape cpu steps (on_bucket_of shape key part ∷ []) → (step : Turned) × (steps ≡ step ∷ []) × IsOfBucketOf shape key step × AllowsInBucket shape cpu part (bodies_in (lay shape step))
  looked_at part did =
      let one = did_single shape cpu steps (on_bucket_of shape key part) did in
      (one.0, one.1, one.2.lock_is, allowed_there shape cpu part (lay shape one.0) one.2.allowed)

  missed : (got : Option (ℕ × List ℕ)) → AllDid shape cpu steps (on_bucket_of shape key (Lookup side key got) ∷ []) → Refused Enoent ≡ reply_of_got got
      → (step : Turned) × (steps ≡ step ∷ []) × IsOfBucketOf shape key step × IsAbsent key (bodies_in (lay shape step))
  unfolding AllowsInBucket
  missed None did is = looked_at (Lookup side key None) did
  missed (Some got) did is = absurd cc

  read : (got : Option (ℕ × List ℕ)) (bytes : List ℕ) → AllDid shape cpu steps (on_bucket_of shape key (Lookup side key got) ∷ []) → Value bytes ≡ reply_of_got got
      → (step : Turned) × (steps ≡ step ∷ []) × IsOfBucketOf shape key step × IsPresentWith key (bodies_in (lay shape step)) (λ body. bytes ≡ value_read shape side cpu body.values)
  unfolding AllowsInBucket
  read None bytes did is = absurd cc
  read (Some got) bytes did is =
      let one = looked_at (Lookup side key (Some got)) did in
      let same : bytes ≡ got.1 = told is in
      (one.0, one.1, one.2, present_weaker (λ body. (body.element ≡ got.0) × (got.1 ≡ value_read shape side cpu body.values)) (λ body. bytes ≡ value_read shape side cpu body.values) (present key (bodies_in (lay shape one.0))) (λ body is. same ∙ is.1) one.3)
    where
      told : Value bytes ≡ Value got.1 → bytes ≡ got.1
      told e = cc

pub enoent_is_absent : EnoentIsAbsent
enoent_is_absent t before after side key called =
    let trace : IsLookupTrace t.shape side key (turns_of (map (turn_at t.shape) called.told)) (Refused Enoent) = lookup_trace t.shape before.cpu (spare_element before) side key (map (turn_at t.shape) called.told) (Refused Enoent) called.trace in
    missed t.shape before.cpu side key called.steps trace.got
    (subst (λ (turns : List Turn). AllDid t.shape before.cpu called.steps turns) trace.turns_are (called_did t before after (verbs.Lookup side key) (Refused Enoent) called)) trace.reply_is

pub value_lies_there : ValueLiesThere
value_lies_there t before after side key bytes called =
    let trace : IsLookupTrace t.shape side key (turns_of (map (turn_at t.shape) called.told)) (Value bytes) = lookup_trace t.shape before.cpu (spare_element before) side key (map (turn_at t.shape) called.told) (Value bytes) called.trace in
    read t.shape before.cpu side key called.steps trace.got bytes
    (subst (λ (turns : List Turn). AllDid t.shape before.cpu called.steps turns) trace.turns_are (called_did t before after (verbs.Lookup side key) (Value bytes) called)) trace.reply_is

-- Updates that are done

first_of : {X : Type 0} (b : Bool) (x y : X) → b ≡ true → cond b x y ≡ x
first_of true x y is = refl
first_of false x y is = absurd cc

second_of : {X : Type 0} (b : Bool) (x y : X) → b ≡ false → cond b x y ≡ y
second_of true x y is = absurd cc
second_of false x y is = refl

module _ (shape : Shape) (cpu : ℕ) (side : Side) (flags : ℕ) (key value : List ℕ) (offer : Option ℕ) where
  -- the values of an element after the turn, by what the key had before it
  abbrev AreWritten : Option Stored → List (List ℕ) → Type 0
  AreWritten was values =
      MatchOption was (values ≡ new_values shape side cpu value) (λ old. values ≡ cond (is_percpu shape.kind) (values_written shape side cpu old.values value) (new_values shape side cpu value))

  abbrev Holds : List Stored → List Stored → Type 0
  Holds now old = MatchOption (present key now) ⊥ (λ body. AreWritten (present key old) body.values)

  new_holds : (e : ℕ) (rest old : List Stored) → AreWritten (present key old) (new_values shape side cpu value) → Holds (new_stored shape side cpu e key value ∷ rest) old
  new_holds e rest old are = subst (λ (o : Option Stored). MatchOption o ⊥ (λ body. AreWritten (present key old) body.values)) (sym (new_there shape side cpu e key value rest)) are

  new_of_absent : (was : Option Stored) → was ≡ None → AreWritten was (new_values shape side cpu value)
  new_of_absent None none = refl
  new_of_absent (Some old) none = absurd (none-some old (sym none))

  new_of_single : (old : ℕ) (was : Option Stored) → MatchOption was ⊥ (λ body. (body.element ≡ old) × (flags ≢ 1) × IsFalse (is_percpu shape.kind)) → AreWritten was (new_values shape side cpu value)
  new_of_single old None there = absurd there
  new_of_single old (Some body) there = sym (second_of (is_percpu shape.kind) (values_written shape side cpu body.values value) (new_values shape side cpu value) there.2)

  over_of_percpu : (e : ℕ) (was : Option Stored) (body : Stored) → MatchOption was ⊥ (λ body. (body.element ≡ e) × (flags ≢ 1) × IsTrue (is_percpu shape.kind)) → Over shape side cpu key value was body → AreWritten was body.values
  over_of_percpu e None body there over = absurd there
  over_of_percpu e (Some old) body there over = over ∙ sym (first_of (is_percpu shape.kind) (values_written shape side cpu old.values value) (new_values shape side cpu value) there.2)

  put_holds : (put : Put) (bodies : List Stored) → Done ≡ reply_of_put put → AllowsInBucket shape cpu (Update side flags key value offer put) bodies → Holds (bucket_after shape cpu (Update side flags key value offer put) bodies) bodies
  unfolding AllowsInBucket bucket_after
  put_holds (puts.Added e) bodies is allowed = new_holds e bodies bodies (new_of_absent (present key bodies) allowed.0)
  put_holds (puts.Replaced new old) bodies is allowed = new_holds new (without_key key bodies) bodies (new_of_single old (present key bodies) allowed)
  put_holds (puts.Written e) bodies is allowed =
      present_weaker (Over shape side cpu key value (present key bodies)) (λ body. AreWritten (present key bodies) body.values)
      (present key (map (written_over shape side cpu key value) bodies)) (λ body over. over_of_percpu e (present key bodies) body allowed over)
      (written_there shape side cpu key value bodies (is_there (λ body. (body.element ≡ e) × (flags ≢ 1) × IsTrue (is_percpu shape.kind)) (present key bodies) allowed))
  put_holds puts.Exists bodies is allowed = absurd cc
  put_holds puts.Absent bodies is allowed = absurd cc
  put_holds puts.Full bodies is allowed = absurd cc

module _ (shape : Shape) (cpu : ℕ) (side : Side) (key value : List ℕ) (offer : Option ℕ) (bodies : List Stored) where
  noexist_none : (put : Put) → Done ≡ reply_of_put put → AllowsInBucket shape cpu (Update side 1 key value offer put) bodies → IsAbsent key bodies
  unfolding AllowsInBucket
  noexist_none (puts.Added e) is allowed = allowed.0
  noexist_none (puts.Replaced new old) is allowed = absurd (never (present key bodies) allowed)
    where
      never : (found : Option Stored) → MatchOption found ⊥ (λ body. (body.element ≡ old) × (◌≢◌ {A = ℕ} 1 1) × IsFalse (is_percpu shape.kind)) → ⊥
      never None there = there
      never (Some body) there = there.1 refl
  noexist_none (puts.Written e) is allowed = absurd (never (present key bodies) allowed)
    where
      never : (found : Option Stored) → MatchOption found ⊥ (λ body. (body.element ≡ e) × (◌≢◌ {A = ℕ} 1 1) × IsTrue (is_percpu shape.kind)) → ⊥
      never None there = there
      never (Some body) there = there.1 refl
  noexist_none puts.Exists is allowed = absurd cc
  noexist_none puts.Absent is allowed = absurd cc
  noexist_none puts.Full is allowed = absurd cc

  exist_some : (put : Put) → Done ≡ reply_of_put put → AllowsInBucket shape cpu (Update side 2 key value offer put) bodies → IsSome (present key bodies)
  unfolding AllowsInBucket
  exist_some (puts.Added e) is allowed = absurd (allowed.1 refl)
  exist_some (puts.Replaced new old) is allowed = is_there (λ body. (body.element ≡ old) × (◌≢◌ {A = ℕ} 2 1) × IsFalse (is_percpu shape.kind)) (present key bodies) allowed
  exist_some (puts.Written e) is allowed = is_there (λ body. (body.element ≡ e) × (◌≢◌ {A = ℕ} 2 1) × IsTrue (is_percpu shape.kind)) (present key bodies) allowed
  exist_some puts.Exists is allowed = absurd cc
  exist_some puts.Absent is allowed = absurd cc
  exist_some puts.Full is allowed = absurd cc

module _ (t : TableView) (before after : PassView) (side : Side) (flags : ℕ) (key value : List ℕ) (called : Called t before after (verbs.Update side flags key value) Done) where
  -- an update that is done made its turn, of which this holds where it holds by what was allowed there
  made_update : (Fact : Turned → Type 0)
      → ((offer : Option ℕ) (put : Put) (step : Turned) → Done ≡ reply_of_put put → Did t.shape before.cpu step (on_bucket_of t.shape key (Update side flags key value offer put)) → Fact step)
      → MadeUpdate t.shape before.cpu side flags key value called.steps Fact
  made_update Fact holds =
      let turn : PutTurn t.shape side flags key value (turns_of (map (turn_at t.shape) called.told)) Done = done_turn t.shape before.cpu (spare_element before) side flags key value (map (turn_at t.shape) called.told) called.trace in
      let at = did_at t.shape before.cpu called.steps turn.front (on_bucket_of t.shape key (Update side flags key value turn.offer turn.put)) turn.back
      (subst (λ (turns : List Turn). AllDid t.shape before.cpu called.steps turns) turn.turns_are (called_did t before after (verbs.Update side flags key value) Done called)) in
      (at.front, at.step, at.back, turn.offer, turn.put, at.steps_are, at.did, holds turn.offer turn.put at.step turn.reply_is at.did)

pub done_is_written : DoneIsWritten
done_is_written t before after side flags key value called =
    made_update t before after side flags key value called (λ step. HoldsWritten t.shape side before.cpu key value step)
    (λ offer put step is did.
    subst (λ (now : List Stored). Holds t.shape before.cpu side flags key value offer now (bodies_in (lay t.shape step))) (sym (left_there t.shape before.cpu step (Bucket (bucket_of_key t.shape key)) (Update side flags key value offer put) did))
    (put_holds t.shape before.cpu side flags key value offer put (bodies_in (lay t.shape step)) is (allowed_there t.shape before.cpu (Update side flags key value offer put) (lay t.shape step) did.allowed)))

pub noexist_finds_none : NoexistFindsNone
noexist_finds_none t before after side key value called =
    made_update t before after side 1 key value called (λ step. IsAbsent key (bodies_in (lay t.shape step)))
    (λ offer put step is did. noexist_none t.shape before.cpu side key value offer (bodies_in (lay t.shape step)) put is (allowed_there t.shape before.cpu (Update side 1 key value offer put) (lay t.shape step) did.allowed))

pub exist_finds_it : ExistFindsIt
exist_finds_it t before after side key value called =
    made_update t before after side 2 key value called (λ step. IsSome (present key (bodies_in (lay t.shape step))))
    (λ offer put step is did. exist_some t.shape before.cpu side key value offer (bodies_in (lay t.shape step)) put is (allowed_there t.shape before.cpu (Update side 2 key value offer put) (lay t.shape step) did.allowed))

-- Updates that are refused

module _ (shape : Shape) (cpu : ℕ) (side : Side) (flags : ℕ) (key value : List ℕ) where
  alone_not_full : (put : Put) → MayPutAlone put → Refused E2big ≡ reply_of_put put → ⊥
  alone_not_full (puts.Added e) may is = may
  alone_not_full (puts.Replaced new old) may is = may
  alone_not_full (puts.Written e) may is = absurd cc
  alone_not_full puts.Exists may is = may
  alone_not_full puts.Absent may is = absurd cc
  alone_not_full puts.Full may is = may

  offered_not_full : (e : ℕ) (put : Put) → MayPut shape e put → Refused E2big ≡ reply_of_put put → ⊥
  offered_not_full e (puts.Added added) may is = absurd cc
  offered_not_full e (puts.Replaced new old) may is = absurd cc
  offered_not_full e (puts.Written written) may is = absurd cc
  offered_not_full e puts.Exists may is = absurd cc
  offered_not_full e puts.Absent may is = absurd cc
  offered_not_full e puts.Full may is = may

  offer_not_full : (got : Option ℕ) (rest : List TurnAt) → MatchOption got ((rest ≡ []) × (Refused E2big ≡ Refused Enomem)) (λ e. OffersOne shape side flags key value e rest (Refused E2big)) → ⊥
  offer_not_full None rest offers = let other : Refused E2big ≡ Refused Enomem = offers.1 in absurd cc
  offer_not_full (Some e) rest offers = offered_not_full e offers.put offers.may_put offers.reply_is

  evicting_not_full : (turns : List TurnAt) → IsEvictingUpdate shape cpu side flags key value turns (Refused E2big) → ⊥
  evicting_not_full turns trace =
      ⊎_elim (λ unknown. let other : Refused E2big ≡ Refused Einval = unknown.2 in absurd cc)
      (λ known. by_kind (is_percpu shape.kind && (flags == 2)) known.1 (λ _ alone. alone_not_full alone.put alone.may_put alone.reply_is) (λ _ offer. offer_not_full offer.got offer.rest offer.offers))
      trace

  pub put_finds_element : (put : Put) → Refused Enomem ≡ reply_of_put put → ⊥
  put_finds_element (puts.Added e) is = absurd cc
  put_finds_element (puts.Replaced new old) is = absurd cc
  put_finds_element (puts.Written e) is = absurd cc
  put_finds_element puts.Exists is = absurd cc
  put_finds_element puts.Absent is = absurd cc
  put_finds_element puts.Full is = absurd cc

  plain_finds_element : (spare : Option ℕ) (turns : List Turn) → IsUpdateTrace shape cpu spare side flags key value turns (Refused Enomem) → ⊥
  plain_finds_element spare turns trace =
      ⊎_elim (λ unknown. let other : Refused Enomem ≡ Refused Einval = unknown.2 in absurd cc) (λ known. put_finds_element known.1.put known.1.reply_is) trace

pub e2big_is_plain : E2bigIsPlain
e2big_is_plain t before after side flags key value called =
    by_kind (is_lru t.shape.kind) called.trace
    (λ lru evicting. absurd (evicting_not_full t.shape before.cpu side flags key value (map (turn_at t.shape) called.told) evicting))
    (λ plain _. plain)

pub enomem_is_evicting : EnomemIsEvicting
enomem_is_evicting t before after side flags key value called =
    by_kind (is_lru t.shape.kind) called.trace
    (λ lru _. lru)
    (λ plain trace. absurd (plain_finds_element t.shape before.cpu side flags key value (spare_element before) (turns_of (map (turn_at t.shape) called.told)) trace))
