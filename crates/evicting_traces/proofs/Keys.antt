-- Calls on one key are read.
use Rattle.std.proofs.Common.{◌≡◌, ℕ, ◌<◌, ◌≤◌, Bool, true, List, [], ◌∷◌, ◌++◌, Option, None, Some, refl, ap, ◌∙◌, arith, ⊎_elim}
use Rattle.std.specs.Prelude.{◌==◌, ◌&&◌, nat_lt, not, MatchBool, MatchOption}
use Rattle.std.proofs.Common.{inl, inr}
use Rattle.std.proofs.lemmas.Bool.{and_parts, and_from, eqb-true, eq-eqb, ltb-true, ltb-false, not-true, not_from_false}
use Rattle.map_types.specs.declared.attr.Shape.{Shape}
use Rattle.map_types.specs.declared.call.Verb.TheVariants as verbs
use Rattle.map_types.specs.declared.kind.DomainId.TheVariants.{Bucket}
use Rattle.map_types.specs.declared.kind.Side.{Side}
use Rattle.map_types.specs.declared.refusal.Errno.TheVariants.{Enomem, Einval}
use Rattle.map_types.specs.declared.reply.Reply.{Reply}
use Rattle.map_types.specs.declared.reply.Reply.TheVariants.{Refused}
use Rattle.map_types.specs.Kind.{is_percpu}
use Rattle.key_hash.specs.Jhash.{hash}
use Rattle.place_words.specs.declared.bucket_part.BucketPart.{BucketPart}
use Rattle.place_words.specs.declared.bucket_part.BucketPart.TheVariants.{Lookup, Update, Delete, Take}
use Rattle.place_words.specs.declared.bucket_part.Put.{Put}
use Rattle.place_words.specs.declared.bucket_part.Put.TheVariants as puts
use Rattle.place_words.specs.declared.history.Part.TheVariants as parts
use Rattle.place_words.specs.Evicting.{MayPut, left_over, OffersOne, IsOfferTrace, MayPutAlone, IsWriteTrace, IsEvictingUpdate, IsEvictingDelete, IsEvictingTake, IsEvictingTrace}
use Rattle.place_words.specs.PlainTraces.{reply_of_got, reply_of_put, reply_of_gone, element_gone}
use Rattle.place_words.specs.Takings.{Acquires}
use Rattle.place_words.specs.Turns.{Turn, TurnAt, turns_of, on_lock, on_bucket_of, bucket_of_key}
use Rattle.trace_check.specs.Reading.{of_bucket, checked}
use Rattle.trace_check.specs.Calls.{got_in, gone_in, taken_in}
use Rattle.evicting_traces.specs.Reading.{Reads, IsReaderAt, read_nothing, read_if, read_turn}
use Rattle.evicting_traces.specs.Parts.{on, put_of}
use Rattle.evicting_traces.specs.Calls.{read_frees_one, read_acquires, read_at, read_lookup, read_delete, read_take, may_put, may_put_alone, read_put, read_offer, after_taking, read_offers, read_write, read_update}
use Rattle.evicting_traces.specs.Laws.{ReadsEvictingKeys}
use Rattle.evicting_traces.proofs.Readers.{IsNothing, nothing_reader, never_reader, IsAs, as_reader, same_reader, match_reader, if_reader, IsThen, then_reader, IsOne, one_reader}
use Rattle.evicting_traces.proofs.Tests.{checked_told, checked_so, Tells, tells_bucket, tells_on, tells_got, tells_gone, tells_taken, tells_put}
use Rattle.evicting_traces.proofs.Freeing.{one_of, of_one, AreOne, turn_reader, FreesOneAnd, frees_one_reader}
use Rattle.evicting_traces.proofs.Taking.{reads_takings}

-- one turn, and those behind it
pub record Heads (turns behind : List TurnAt) (turn : Turn) : Type 0 where
  pub at : TurnAt
  pub turns_are : turns ≡ at ∷ behind
  pub turn_is : at.turn ≡ turn

pub heads : (turns front behind : List TurnAt) (turn : Turn) → turns ≡ front ++ behind → turns_of front ≡ turn ∷ [] → Heads turns behind turn
heads turns front behind turn is first =
    let one = one_of front turn first in
    record { at = one.at; turns_are = is ∙ ap (λ (l : List TurnAt). l ++ behind) one.turns_are; turn_is = one.turn_is }

pub bucket_reader : {A : Type 0} (shape : Shape) (cpu bucket : ℕ) (of : A → BucketPart) (says : BucketPart → Option A) → Tells of says
    → IsReaderAt shape cpu (AreOne (λ a. on_lock (Bucket bucket) (parts.Bucket (of a)))) (read_turn (on (Bucket bucket) (of_bucket says)))
bucket_reader shape cpu bucket of says tells =
    turn_reader shape cpu (λ a. on_lock (Bucket bucket) (parts.Bucket (of a))) (on (Bucket bucket) (of_bucket says))
    (tells_on (Bucket bucket) (λ a. parts.Bucket (of a)) (of_bucket says) (tells_bucket of says tells))

module _ (shape : Shape) (cpu : ℕ) where
  abbrev AtBucket : {A : Type 0} → List ℕ → (A → BucketPart) → List TurnAt → A → Type 0
  AtBucket key of = AreOne (λ a. on_bucket_of shape key (of a))

  at_reader : {A : Type 0} (key : List ℕ) (of : A → BucketPart) (says : BucketPart → Option A) → Tells of says → IsReaderAt shape cpu (AtBucket key of) (read_at shape key says)
  at_reader key of says tells = bucket_reader shape cpu (bucket_of_key shape key) of says tells

  lookup_reader : (side : Side) (key : List ℕ) → IsReaderAt shape cpu (IsEvictingTrace shape cpu (verbs.Lookup side key)) (read_lookup shape side key)
  lookup_reader side key =
      same_reader (IsAs reply_of_got (AtBucket key (Lookup side key))) (IsEvictingTrace shape cpu (verbs.Lookup side key)) (read_lookup shape side key)
      (λ turns reply is. record { got = is.0; turns_are = is.1.0; reply_is = is.1.1 })
      (λ turns reply is. (is.got, (is.turns_are, is.reply_is)))
      (as_reader reply_of_got (AtBucket key (Lookup side key)) (read_at shape key (got_in side key)) (at_reader key (Lookup side key) (got_in side key) (tells_got side key)))

  delete_reader : (key : List ℕ) → IsReaderAt shape cpu (IsEvictingDelete shape key) (read_delete shape key)
  delete_reader key =
      same_reader (IsThen (AtBucket key (Delete key)) Rest) (IsEvictingDelete shape key) (read_delete shape key)
      (λ turns reply is.
      let first = heads turns is.front is.behind (on_bucket_of shape key (Delete key is.middle)) is.turns_are is.first in
      record { gone = is.middle; at_bucket = first.at; freeing = is.behind; turns_are = first.turns_are; bucket_is = first.turn_is; frees = is.second.0; reply_is = is.second.1 })
      (λ turns reply is. record {
        middle = is.gone;
        front = is.at_bucket ∷ [];
        behind = is.freeing;
        turns_are = is.turns_are;
        first = of_one (is.at_bucket ∷ []) (on_bucket_of shape key (Delete key is.gone)) is.at_bucket refl is.bucket_is;
        second = (is.frees, is.reply_is);
      })
      (then_reader (AtBucket key (Delete key)) Rest (read_at shape key (gone_in key)) (λ gone. read_frees_one shape (reply_of_gone gone) gone)
      (at_reader key (Delete key) (gone_in key) (tells_gone key)) (λ gone. frees_one_reader shape cpu (reply_of_gone gone) gone))
    where
      Rest : Option ℕ → List TurnAt → Reply → Type 0
      Rest gone = FreesOneAnd shape (reply_of_gone gone) gone

  take_reader : (key : List ℕ) → IsReaderAt shape cpu (IsEvictingTake shape key) (read_take shape key)
  take_reader key =
      same_reader (IsThen (AtBucket key (Take key)) Rest) (IsEvictingTake shape key) (read_take shape key)
      (λ turns reply is.
      let first = heads turns is.front is.behind (on_bucket_of shape key (Take key is.middle)) is.turns_are is.first in
      record { gone = is.middle; at_bucket = first.at; freeing = is.behind; turns_are = first.turns_are; bucket_is = first.turn_is; frees = is.second.0; reply_is = is.second.1 })
      (λ turns reply is. record {
        middle = is.gone;
        front = is.at_bucket ∷ [];
        behind = is.freeing;
        turns_are = is.turns_are;
        first = of_one (is.at_bucket ∷ []) (on_bucket_of shape key (Take key is.gone)) is.at_bucket refl is.bucket_is;
        second = (is.frees, is.reply_is);
      })
      (then_reader (AtBucket key (Take key)) Rest (read_at shape key (taken_in key)) (λ gone. read_frees_one shape (reply_of_got gone) (element_gone gone))
      (at_reader key (Take key) (taken_in key) (tells_taken key)) (λ gone. frees_one_reader shape cpu (reply_of_got gone) (element_gone gone)))
    where
      Rest : Option (ℕ × List ℕ) → List TurnAt → Reply → Type 0
      Rest gone = FreesOneAnd shape (reply_of_got gone) (element_gone gone)

  -- what an update may put
  may_so : (e : ℕ) (put : Put) → MayPut shape e put → may_put shape e put ≡ true
  may_so e (puts.Added added) is = eq-eqb added e is
  may_so e (puts.Replaced new old) is = and_from (new == e) (not (is_percpu shape.kind)) (eq-eqb new e is.0) (not_from_false (is_percpu shape.kind) is.1)
  may_so e (puts.Written written) is = is
  may_so e puts.Exists is = refl
  may_so e puts.Absent is = refl
  may_so e puts.Full is = absurd is

  may_only : (e : ℕ) (put : Put) → may_put shape e put ≡ true → MayPut shape e put
  may_only e (puts.Added added) is = eqb-true added e is
  may_only e (puts.Replaced new old) is =
      let told = and_parts (new == e) (not (is_percpu shape.kind)) is in
      (eqb-true new e told.0, not-true (is_percpu shape.kind) told.1)
  may_only e (puts.Written written) is = is
  may_only e puts.Exists is = tt
  may_only e puts.Absent is = tt
  may_only e puts.Full is = absurd cc

  alone_so : (put : Put) → MayPutAlone put → may_put_alone put ≡ true
  alone_so (puts.Added added) is = absurd is
  alone_so (puts.Replaced new old) is = absurd is
  alone_so (puts.Written written) is = refl
  alone_so puts.Exists is = absurd is
  alone_so puts.Absent is = refl
  alone_so puts.Full is = absurd is

  alone_only : (put : Put) → may_put_alone put ≡ true → MayPutAlone put
  alone_only (puts.Added added) is = absurd cc
  alone_only (puts.Replaced new old) is = absurd cc
  alone_only (puts.Written written) is = tt
  alone_only puts.Exists is = absurd cc
  alone_only puts.Absent is = tt
  alone_only puts.Full is = absurd cc

  module _ (side : Side) (flags : ℕ) (key value : List ℕ) where
    abbrev part_of : Option ℕ → Put → BucketPart
    part_of offer put = Update side flags key value offer put

    abbrev says : Option ℕ → Turn → Option Put
    says offer = on (Bucket (bucket_of_key shape key)) (of_bucket (put_of side flags key value offer))

    -- a bucket's turn that puts what may be put
    abbrev Puts : Option ℕ → (Put → Bool) → TurnAt → Put → Type 0
    Puts offer may at put = (may put ≡ true) × (at.turn ≡ on_bucket_of shape key (part_of offer put))

    tells_update : (offer : Option ℕ) → Tells (λ put. on_bucket_of shape key (part_of offer put)) (says offer)
    tells_update offer =
        tells_on (Bucket (bucket_of_key shape key)) (λ put. parts.Bucket (part_of offer put)) (of_bucket (put_of side flags key value offer))
        (tells_bucket (part_of offer) (put_of side flags key value offer) (tells_put side flags key value offer))

    put_reader : (offer : Option ℕ) (may : Put → Bool) → IsReaderAt shape cpu (IsOne (Puts offer may)) (read_put shape side flags key value offer may)
    put_reader offer may =
        one_reader (Puts offer may) (λ seen. checked may (says offer seen.turn))
        (λ at put is. checked_so may (says offer at.turn) put (ap (says offer) is.1 ∙ (tells_update offer).says_it put) is.0)
        (λ at put legal is. let told = checked_told may (says offer at.turn) put is in (told.1, (tells_update offer).says_only at.turn put told.0))

    write_reader : IsReaderAt shape cpu (IsWriteTrace shape side flags key value) (read_write shape side flags key value)
    write_reader =
        same_reader (IsAs reply_of_put (IsOne (Puts None may_put_alone))) (IsWriteTrace shape side flags key value) (read_write shape side flags key value)
        (λ turns reply is. record {
          put = is.0;
          may_put = alone_only is.0 is.1.0.is.0;
          turns_are = of_one turns (on_bucket_of shape key (part_of None is.0)) is.1.0.at is.1.0.turns_are is.1.0.is.1;
          reply_is = is.1.1;
        })
        (λ turns reply is.
        let one = one_of turns (on_bucket_of shape key (part_of None is.put)) is.turns_are in
        (is.put, (record { at = one.at; turns_are = one.turns_are; is = (alone_so is.put is.may_put, one.turn_is) }, is.reply_is)))
        (as_reader reply_of_put (IsOne (Puts None may_put_alone)) (read_put shape side flags key value None may_put_alone) (put_reader None may_put_alone))

    abbrev Rest : ℕ → Put → List TurnAt → Reply → Type 0
    Rest e put = FreesOneAnd shape (reply_of_put put) (left_over e put)

    abbrev Offers : ℕ → List TurnAt → Reply → Type 0
    Offers e turns reply = OffersOne shape side flags key value e turns reply

    offer_reader : (e : ℕ) → IsReaderAt shape cpu (Offers e) (read_offer shape side flags key value e)
    offer_reader e =
        same_reader (IsThen (IsOne (Puts (Some e) (may_put shape e))) (Rest e)) (Offers e) (read_offer shape side flags key value e)
        (λ turns reply is. record {
          put = is.middle;
          may_put = may_only e is.middle is.first.is.0;
          at_bucket = is.first.at;
          freeing = is.behind;
          turns_are = is.turns_are ∙ ap (λ (l : List TurnAt). l ++ is.behind) is.first.turns_are;
          bucket_is = is.first.is.1;
          frees = is.second.0;
          reply_is = is.second.1;
        })
        (λ turns reply is. record {
          middle = is.put;
          front = is.at_bucket ∷ [];
          behind = is.freeing;
          turns_are = is.turns_are;
          first = record { at = is.at_bucket; turns_are = refl; is = (may_so e is.put is.may_put, is.bucket_is) };
          second = (is.frees, is.reply_is);
        })
        (then_reader (IsOne (Puts (Some e) (may_put shape e))) (Rest e) (read_put shape side flags key value (Some e) (may_put shape e)) (λ put. read_frees_one shape (reply_of_put put) (left_over e put))
        (put_reader (Some e) (may_put shape e)) (λ put. frees_one_reader shape cpu (reply_of_put put) (left_over e put)))

    abbrev Taken : List TurnAt → Option ℕ → Type 0
    Taken turns got = Acquires shape cpu (hash key shape.seed) got turns

    abbrev AfterTaking : Option ℕ → List TurnAt → Reply → Type 0
    AfterTaking got turns reply = MatchOption got (IsNothing (Refused Enomem) turns reply) (λ e. Offers e turns reply)

    after_reader : (got : Option ℕ) → IsReaderAt shape cpu (AfterTaking got) (after_taking (Refused Enomem) (read_offer shape side flags key value) got)
    after_reader None = nothing_reader (Refused Enomem)
    after_reader (Some e) = offer_reader e

    offers_reader : IsReaderAt shape cpu (IsOfferTrace shape cpu side flags key value) (read_offers shape cpu side flags key value)
    offers_reader =
        same_reader (IsThen Taken AfterTaking) (IsOfferTrace shape cpu side flags key value) (read_offers shape cpu side flags key value)
        (λ turns reply is. record { got = is.middle; taking = is.front; rest = is.behind; turns_are = is.turns_are; takes = is.first; offers = is.second })
        (λ turns reply is. record { middle = is.got; front = is.taking; behind = is.rest; turns_are = is.turns_are; first = is.takes; second = is.offers })
        (then_reader Taken AfterTaking (read_acquires shape cpu (hash key shape.seed)) (after_taking (Refused Enomem) (read_offer shape side flags key value)) (reads_takings shape cpu (hash key shape.seed)) after_reader)

    abbrev Within : List TurnAt → Reply → Type 0
    Within turns reply =
        MatchBool (is_percpu shape.kind && (flags == 2)) (IsWriteTrace shape side flags key value turns reply) (IsOfferTrace shape cpu side flags key value turns reply)

    abbrev read_within : Reads Reply
    read_within = read_if (is_percpu shape.kind && (flags == 2)) (read_write shape side flags key value) (read_offers shape cpu side flags key value)

    abbrev Updates : List TurnAt → Reply → Type 0
    Updates turns reply = IsEvictingUpdate shape cpu side flags key value turns reply

    update_reader : IsReaderAt shape cpu Updates (read_update shape cpu side flags key value)
    update_reader =
        if_reader (nat_lt 2 flags) Updates (read_nothing (Refused Einval)) read_within
        (λ above.
        let more : 2 < flags = ltb-true 2 flags above in
        same_reader (IsNothing (Refused Einval)) Updates (read_nothing (Refused Einval))
        (λ turns reply is. inl (more, is.0, is.1))
        (λ turns reply is. ⊎_elim (λ refused. (refused.1, refused.2)) (λ one. let below : flags ≤ 2 = one.0 in absurd (omega (arith, more, below))) is)
        (nothing_reader (Refused Einval)))
        (λ within.
        let most : flags ≤ 2 = ltb-false 2 flags within in
        same_reader Within Updates read_within
        (λ turns reply is. inr (most, is))
        (λ turns reply is. ⊎_elim (λ refused. let more : 2 < flags = refused.0 in absurd (omega (arith, more, most))) (λ one. one.1) is)
        (match_reader (is_percpu shape.kind && (flags == 2)) (IsWriteTrace shape side flags key value) (IsOfferTrace shape cpu side flags key value)
        (read_write shape side flags key value) (read_offers shape cpu side flags key value) write_reader offers_reader))

pub reads_keys : ReadsEvictingKeys
reads_keys shape cpu (verbs.Lookup side key) = lookup_reader shape cpu side key
reads_keys shape cpu (verbs.Update side flags key value) = update_reader shape cpu side flags key value
reads_keys shape cpu (verbs.Delete key) = delete_reader shape cpu key
reads_keys shape cpu (verbs.Take key) = take_reader shape cpu key
reads_keys shape cpu (verbs.Next key) = never_reader (IsEvictingTrace shape cpu (verbs.Next key)) (λ turns reply is. is)
reads_keys shape cpu (verbs.BatchRead remove count start flags) = never_reader (IsEvictingTrace shape cpu (verbs.BatchRead remove count start flags)) (λ turns reply is. is)
reads_keys shape cpu (verbs.BatchUpdate flags pairs) = never_reader (IsEvictingTrace shape cpu (verbs.BatchUpdate flags pairs)) (λ turns reply is. is)
reads_keys shape cpu (verbs.BatchDelete flags keys) = never_reader (IsEvictingTrace shape cpu (verbs.BatchDelete flags keys)) (λ turns reply is. is)
reads_keys shape cpu (verbs.Each flags stop) = never_reader (IsEvictingTrace shape cpu (verbs.Each flags stop)) (λ turns reply is. is)
