-- Every call on a map that doesn't evict is read as its trace.
use Rattle.std.proofs.Common.{◌≡◌, ℕ, ◌+◌, Bool, true, false, List, [], ◌∷◌, Option, None, Some, ap, ◌∙◌, sym, subst}
use Rattle.std.specs.Prelude.{◌==◌, nat_lt, min, unwrap_or, MatchBool, MatchOption}
use Rattle.map_types.specs.declared.attr.Shape.{Shape}
use Rattle.map_types.specs.declared.call.Verb.{Verb}
use Rattle.map_types.specs.declared.call.Verb.TheVariants as verbs
use Rattle.map_types.specs.declared.refusal.Errno.TheVariants.{Enoent, Einval}
use Rattle.map_types.specs.declared.reply.Reply.{Reply}
use Rattle.map_types.specs.declared.reply.Reply.TheVariants.{Done, Value, Refused}
use Rattle.map_types.specs.Kind.{is_lru}
use Rattle.place_words.specs.declared.bucket_part.NextFound.{NextFound}
use Rattle.place_words.specs.declared.bucket_part.NextFound.TheVariants as nexts
use Rattle.place_words.specs.Evicting.{IsEvictingTrace}
use Rattle.place_words.specs.Handing.{IsHandingTrace, StopsAt}
use Rattle.place_words.specs.PlainTraces.{IsPlainTrace, spare_after}
use Rattle.place_words.specs.Turns.{Turn, TurnAt, turns_of, bucket_of_key}
use Rattle.place_words.specs.Walks.{buckets_from, Firsts, GoesOn, IsNextTrace, IsReadTrace, IsKeyTrace, Walks, spare_left, updates_of, deletes_of}
use Rattle.trace_check.specs.Reading.{Reads, IsReader, read_as}
use Rattle.trace_check.specs.Calls.{Answer, read_key, read_next, read_batch, read_each}
use Rattle.trace_check.specs.Laws.{IsReaderAt, ReadsCalls}
use Rattle.trace_check.proofs.Readers.{IsNothing, IsAs, as_reader, same_reader}
use Rattle.trace_check.proofs.Walking.{reads_next}
use Rattle.trace_check.proofs.Writing.{reads_keys, reads_write_batches}
use Rattle.trace_check.proofs.Batches.{PlainWalks, PlainRead, batch_reads, walks_there, walks_back, walks_spare}
use Rattle.trace_check.proofs.Handing.{each_reads, each_spare}
use Rattle.trace_check.proofs.Lifting.{none_of, lifted, spare_of_turns}

-- what leaves the spare as it is
abbrev Answers : Option ℕ → (List Turn → Reply → Type 0) → List Turn → Answer → Type 0
Answers spare Rel xs answer = Rel xs answer.0 × (answer.1 ≡ spare_after spare xs)

kept_reader : (spare : Option ℕ) (Rel : List Turn → Reply → Type 0) (read : Reads Reply) → ((xs : List Turn) (reply : Reply) → Rel xs reply → spare_after spare xs ≡ spare) → IsReader Rel read → IsReader (Answers spare Rel) (read_as (λ reply. (reply, spare)) read)
kept_reader spare Rel read keeps reads =
    same_reader (IsAs with_spare Rel) (Answers spare Rel) (read_as with_spare read)
    (λ xs answer is.
    (subst (Rel xs) (sym (ap (λ (a : Answer). a.0) is.1.1)) is.1.0, ap (λ (a : Answer). a.1) is.1.1 ∙ sym (keeps xs is.0 is.1.0)))
    (λ xs answer is. (answer.0, (is.0, ap (λ (o : Option ℕ). (answer.0, o)) (is.1 ∙ keeps xs answer.0 is.0))))
    (as_reader with_spare Rel read reads)
  where
    with_spare : Reply → Answer
    with_spare reply = (reply, spare)

firsts_spare : (spare : Option ℕ) (buckets : List ℕ) (xs : List Turn) (reply : Reply) → Firsts buckets xs reply → spare_after spare xs ≡ spare
firsts_spare spare [] xs reply is = ap (spare_after spare) is.0
firsts_spare spare (bucket ∷ buckets) xs reply is = ap (spare_after spare) is.2 ∙ by is.0 (firsts_spare spare buckets is.1 reply) is.3
  where
    by : (key : Option (List ℕ)) → (Firsts buckets is.1 reply → spare_after spare is.1 ≡ spare)
        → MatchOption key (Firsts buckets is.1 reply) (λ first. (is.1 ≡ []) × (reply ≡ Value first)) → spare_after spare is.1 ≡ spare
    by None more goes = more goes
    by (Some key) more ends = ap (spare_after spare) ends.0

on_spare : (shape : Shape) (key : List ℕ) (spare : Option ℕ) (found : NextFound) (xs : List Turn) (reply : Reply) → GoesOn shape key found xs reply → spare_after spare xs ≡ spare
on_spare shape key spare nexts.Absent xs reply is = firsts_spare spare (buckets_from shape 0) xs reply is
on_spare shape key spare nexts.Last xs reply is = firsts_spare spare (buckets_from shape (bucket_of_key shape key + 1)) xs reply is
on_spare shape key spare (nexts.Key next) xs reply is = ap (spare_after spare) is.0

next_spare : (shape : Shape) (spare : Option ℕ) (key : Option (List ℕ)) (xs : List Turn) (reply : Reply) → IsNextTrace shape key xs reply → spare_after spare xs ≡ spare
next_spare shape spare None xs reply is = firsts_spare spare (buckets_from shape 0) xs reply is
next_spare shape spare (Some key) xs reply is = ap (spare_after spare) is.turns_are ∙ on_spare shape key spare is.found is.rest reply is.goes_on

module _ (shape : Shape) (cpu : ℕ) (remove : Bool) (count : ℕ) (start : Option ℕ) where
  limit : ℕ
  limit = min count shape.elements

  from : List ℕ
  from = buckets_from shape (unwrap_or start 0)

  read_spare : (spare : Option ℕ) (b c d : Bool) (xs : List Turn) (reply : Reply)
      → MatchBool b (MatchBool c (IsNothing Done xs reply) (MatchBool d (PlainWalks shape cpu remove limit from [] xs reply) (IsNothing (Refused Enoent) xs reply))) (IsNothing (Refused Einval) xs reply) → spare_after spare xs ≡ spare
  unfolding limit from
  read_spare spare true true d xs reply is = ap (spare_after spare) is.0
  read_spare spare true false true xs reply is = walks_spare shape cpu remove limit spare from [] xs reply is
  read_spare spare true false false xs reply is = ap (spare_after spare) is.0
  read_spare spare false c d xs reply is = ap (spare_after spare) is.0

  module _ (plain : is_lru shape.kind ≡ false) where
    read_there : (b c d : Bool) (turns : List TurnAt) (reply : Reply)
        → MatchBool b (MatchBool c ((turns ≡ []) × (reply ≡ Done)) (MatchBool d (Walks shape cpu remove limit from [] turns reply) ((turns ≡ []) × (reply ≡ Refused Enoent)))) ((turns ≡ []) × (reply ≡ Refused Einval))
        → MatchBool b (MatchBool c (IsNothing Done (turns_of turns) reply) (MatchBool d (PlainWalks shape cpu remove limit from [] (turns_of turns) reply) (IsNothing (Refused Enoent) (turns_of turns) reply))) (IsNothing (Refused Einval) (turns_of turns) reply)
    unfolding limit from
    read_there true true d turns reply is = (ap turns_of is.0, is.1)
    read_there true false true turns reply is = walks_there shape cpu remove limit plain from [] turns reply is
    read_there true false false turns reply is = (ap turns_of is.0, is.1)
    read_there false c d turns reply is = (ap turns_of is.0, is.1)

    read_back : (b c d : Bool) (turns : List TurnAt) (reply : Reply)
        → MatchBool b (MatchBool c (IsNothing Done (turns_of turns) reply) (MatchBool d (PlainWalks shape cpu remove limit from [] (turns_of turns) reply) (IsNothing (Refused Enoent) (turns_of turns) reply))) (IsNothing (Refused Einval) (turns_of turns) reply)
        → MatchBool b (MatchBool c ((turns ≡ []) × (reply ≡ Done)) (MatchBool d (Walks shape cpu remove limit from [] turns reply) ((turns ≡ []) × (reply ≡ Refused Enoent)))) ((turns ≡ []) × (reply ≡ Refused Einval))
    unfolding limit from
    read_back true true d turns reply is = (none_of turns is.0, is.1)
    read_back true false true turns reply is = walks_back shape cpu remove limit plain from [] turns reply is
    read_back true false false turns reply is = (none_of turns is.0, is.1)
    read_back false c d turns reply is = (none_of turns is.0, is.1)

module _ (shape : Shape) (cpu : ℕ) (spare : Option ℕ) (plain : is_lru shape.kind ≡ false) where
  lift_call : (Rel : List TurnAt → Reply → Type 0) (Plain : List Turn → Reply → Type 0) (read : Reads Answer)
      → ((turns : List TurnAt) (reply : Reply) → Rel turns reply → Plain (turns_of turns) reply) → ((turns : List TurnAt) (reply : Reply) → Plain (turns_of turns) reply → Rel turns reply)
      → IsReader (Answers spare Plain) read → IsReaderAt (λ turns (answer : Answer). Rel turns answer.0 × (answer.1 ≡ spare_left shape spare turns)) read
  lift_call Rel Plain read there back reads =
      lifted (λ turns (answer : Answer). Rel turns answer.0 × (answer.1 ≡ spare_left shape spare turns)) (Answers spare Plain) read
      (λ turns answer is. (there turns answer.0 is.0, is.1 ∙ spare_of_turns shape spare turns plain))
      (λ turns answer is. (back turns answer.0 is.0, is.1 ∙ sym (spare_of_turns shape spare turns plain)))
      reads

  pub key_call : (verb : Verb) → IsReaderAt (λ turns (answer : Answer). IsKeyTrace shape cpu spare verb turns answer.0 × (answer.1 ≡ spare_left shape spare turns)) (read_key shape cpu spare verb)
  key_call verb =
      lift_call (IsKeyTrace shape cpu spare verb) (IsPlainTrace shape cpu spare verb) (read_key shape cpu spare verb)
      (λ turns reply is. subst (λ (b : Bool). MatchBool b (IsEvictingTrace shape cpu verb turns reply) (IsPlainTrace shape cpu spare verb (turns_of turns) reply)) plain is)
      (λ turns reply is. subst (λ (b : Bool). MatchBool b (IsEvictingTrace shape cpu verb turns reply) (IsPlainTrace shape cpu spare verb (turns_of turns) reply)) (sym plain) is)
      (reads_keys shape cpu spare verb)

pub reads_calls : ReadsCalls
unfolding limit from
reads_calls shape cpu spare (verbs.Lookup side key) plain = key_call shape cpu spare plain (verbs.Lookup side key)
reads_calls shape cpu spare (verbs.Update side flags key value) plain = key_call shape cpu spare plain (verbs.Update side flags key value)
reads_calls shape cpu spare (verbs.Delete key) plain = key_call shape cpu spare plain (verbs.Delete key)
reads_calls shape cpu spare (verbs.Take key) plain = key_call shape cpu spare plain (verbs.Take key)
reads_calls shape cpu spare (verbs.Next key) plain =
    lift_call shape cpu spare plain (λ turns reply. IsNextTrace shape key (turns_of turns) reply) (IsNextTrace shape key) (read_as (λ reply. (reply, spare)) (read_next shape key))
    (λ turns reply is. is) (λ turns reply is. is)
    (kept_reader spare (IsNextTrace shape key) (read_next shape key) (next_spare shape spare key) (reads_next shape key))
reads_calls shape cpu spare (verbs.BatchRead remove count start flags) plain =
    lift_call shape cpu spare plain (IsReadTrace shape cpu remove count start flags) (PlainRead shape cpu remove count start flags) (read_as (λ reply. (reply, spare)) (read_batch shape cpu remove count start flags))
    (λ turns reply is. read_there shape cpu remove count start plain (flags == 0) (count == 0) (nat_lt (unwrap_or start 0) shape.buckets) turns reply is)
    (λ turns reply is. read_back shape cpu remove count start plain (flags == 0) (count == 0) (nat_lt (unwrap_or start 0) shape.buckets) turns reply is)
    (kept_reader spare (PlainRead shape cpu remove count start flags) (read_batch shape cpu remove count start flags)
    (λ xs reply is. read_spare shape cpu remove count start spare (flags == 0) (count == 0) (nat_lt (unwrap_or start 0) shape.buckets) xs reply is) (batch_reads shape cpu remove count start flags))
reads_calls shape cpu spare (verbs.BatchUpdate flags pairs) plain = reads_write_batches shape cpu spare flags (updates_of pairs) plain
reads_calls shape cpu spare (verbs.BatchDelete flags keys) plain = reads_write_batches shape cpu spare flags (deletes_of keys) plain
reads_calls shape cpu spare (verbs.Each flags stop) plain =
    lift_call shape cpu spare plain (λ turns reply. IsHandingTrace shape cpu (StopsAt stop) flags (turns_of turns) reply) (IsHandingTrace shape cpu (StopsAt stop) flags) (read_as (λ reply. (reply, spare)) (read_each shape cpu stop flags))
    (λ turns reply is. is) (λ turns reply is. is)
    (kept_reader spare (IsHandingTrace shape cpu (StopsAt stop) flags) (read_each shape cpu stop flags) (each_spare shape cpu stop spare flags) (each_reads shape cpu stop flags))
