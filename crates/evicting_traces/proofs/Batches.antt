-- Batch reads and batch writes are read.
use Rattle.std.proofs.Common.{◌≡◌, ℕ, suc, ◌-◌, Bool, true, List, [], ◌∷◌, ◌++◌, length, map, Option, None, Some, refl, ap, sym, subst}
use Rattle.std.specs.Prelude.{◌==◌, nat_lt, min, reverse, unwrap_or, MatchBool, MatchOption, if◌then◌else◌}
use Rattle.map_types.specs.declared.attr.Shape.{Shape}
use Rattle.map_types.specs.declared.call.Verb.{Verb}
use Rattle.map_types.specs.declared.kind.DomainId.TheVariants.{Bucket}
use Rattle.map_types.specs.declared.refusal.Errno.{Errno}
use Rattle.map_types.specs.declared.refusal.Errno.TheVariants.{Enoent, Einval}
use Rattle.map_types.specs.declared.reply.Reply.{Reply}
use Rattle.map_types.specs.declared.reply.Reply.TheVariants.{Done, Refused, Batch, Count}
use Rattle.map_types.specs.Kind.{is_lru}
use Rattle.place_words.specs.declared.bucket_part.BucketPart.TheVariants.{Walk}
use Rattle.place_words.specs.declared.bucket_part.Walked.{Walked}
use Rattle.place_words.specs.declared.bucket_part.Walked.TheVariants.{Over, Taken}
use Rattle.place_words.specs.declared.free_part.FreePart.TheVariants.{Pushed}
use Rattle.place_words.specs.declared.history.Part.TheVariants as parts
use Rattle.place_words.specs.Evicting.{IsEvictingTrace}
use Rattle.place_words.specs.PlainTraces.{IsPlainTrace, spare_after}
use Rattle.place_words.specs.Turns.{Turn, TurnAt, turns_of, on_lock, on_freelist_of}
use Rattle.place_words.specs.Walks.{buckets_from, IsFreedAfter, AfterWalk, Walks, IsReadTrace, walked_out, pair_of, stopped_at, IsKeyTrace, spare_left, refused_with, Writes, IsWriteBatch}
use Rattle.trace_check.specs.Reading.{of_bucket}
use Rattle.trace_check.specs.Calls.{walked_in}
use Rattle.evicting_traces.specs.Reading.{Reads, IsReaderAt, read_nothing, read_if, read_turn}
use Rattle.evicting_traces.specs.Parts.{on}
use Rattle.evicting_traces.specs.Calls.{read_frees_all, read_emptied, after_bucket, read_walks, read_batch, read_key, after_write, read_writes, read_write_batch}
use Rattle.evicting_traces.proofs.Readers.{IsNothing, nothing_reader, same_reader, match_reader, IsThen, then_reader}
use Rattle.evicting_traces.proofs.Tests.{tells_walked}
use Rattle.evicting_traces.proofs.Freeing.{of_one, AreOne, FreesAnd, frees_all_reader}
use Rattle.evicting_traces.proofs.Keys.{heads, bucket_reader, reads_keys}

module _ (shape : Shape) (cpu : ℕ) where
  module _ (bucket : ℕ) (remove : Bool) (room : ℕ) where
    abbrev walk : Walked → Turn
    walk result = on_lock (Bucket bucket) (parts.Bucket (Walk remove room result))

    abbrev Emptied : List TurnAt → Walked → Type 0
    Emptied turns result = IsFreedAfter shape (walk result) (walked_out remove result) turns

    abbrev Rest : Walked → List TurnAt → Walked → Type 0
    Rest result = FreesAnd shape result (reverse (walked_out remove result))

    emptied_reader : IsReaderAt shape cpu Emptied (read_emptied shape bucket remove room)
    emptied_reader =
        same_reader (IsThen (AreOne walk) Rest) Emptied (read_emptied shape bucket remove room)
        (λ turns result is.
        let first = heads turns is.front is.behind (walk is.middle) is.turns_are is.first in
        subst (Emptied turns) (sym is.second.1) (record { at_bucket = first.at; freeing = is.behind; turns_are = first.turns_are; bucket_is = first.turn_is; frees = is.second.0 }))
        (λ turns result is. record {
          middle = result;
          front = is.at_bucket ∷ [];
          behind = is.freeing;
          turns_are = is.turns_are;
          first = of_one (is.at_bucket ∷ []) (walk result) is.at_bucket refl is.bucket_is;
          second = (is.frees, refl);
        })
        (then_reader (AreOne walk) Rest (read_turn (on (Bucket bucket) (of_bucket (walked_in remove room)))) (λ result. read_frees_all shape result (reverse (walked_out remove result)))
        (bucket_reader shape cpu bucket (Walk remove room) (walked_in remove room) (tells_walked remove room)) (λ result. frees_all_reader shape cpu result (reverse (walked_out remove result))))

  module _ (remove : Bool) (limit : ℕ) where
    abbrev WalksOn : List ℕ → List (List ℕ × List ℕ) → List TurnAt → Reply → Type 0
    WalksOn buckets taken turns reply = Walks shape cpu remove limit buckets taken turns reply

    abbrev After : ℕ → List ℕ → List (List ℕ × List ℕ) → Walked → List TurnAt → Reply → Type 0
    After bucket buckets taken result turns reply = AfterWalk bucket taken turns reply result (λ now. WalksOn buckets now turns reply)

    after_reader : (bucket : ℕ) (buckets : List ℕ) (taken : List (List ℕ × List ℕ)) → ((now : List (List ℕ × List ℕ)) → IsReaderAt shape cpu (WalksOn buckets now) (read_walks shape remove limit buckets now)) → (result : Walked)
        → IsReaderAt shape cpu (After bucket buckets taken result) (after_bucket bucket taken (λ now. read_walks shape remove limit buckets now) result)
    after_reader bucket buckets taken more (Over n) = nothing_reader (Batch (stopped_at taken) taken bucket)
    after_reader bucket buckets taken more (Taken all) = more (taken ++ map pair_of all)

    walks_reader : is_lru shape.kind ≡ true → (buckets : List ℕ) (taken : List (List ℕ × List ℕ)) → IsReaderAt shape cpu (WalksOn buckets taken) (read_walks shape remove limit buckets taken)
    walks_reader evicts [] taken = nothing_reader (Batch (Some Enoent) taken shape.buckets)
    walks_reader evicts (bucket ∷ buckets) taken =
        same_reader (IsThen (Emptied bucket remove room) (After bucket buckets taken)) (WalksOn (bucket ∷ buckets) taken) (read_walks shape remove limit (bucket ∷ buckets) taken)
        (λ turns reply is. (is.middle, is.front, is.behind, (is.turns_are, subst (λ (b : Bool). Either b is.middle is.front) (sym evicts) is.first, is.second)))
        (λ turns reply is. record { middle = is.0; front = is.1; behind = is.2; turns_are = is.3.0; first = subst (λ (b : Bool). Either b is.0 is.1) evicts is.3.1; second = is.3.2 })
        (then_reader (Emptied bucket remove room) (After bucket buckets taken) (read_emptied shape bucket remove room) (after_bucket bucket taken (λ now. read_walks shape remove limit buckets now))
        (emptied_reader bucket remove room) (after_reader bucket buckets taken (walks_reader evicts buckets)))
      where
        room : ℕ
        room = limit - length taken

        Either : Bool → Walked → List TurnAt → Type 0
        Either b result one =
            MatchBool b (Emptied bucket remove room one result) (turns_of one ≡ map (λ e. on_freelist_of cpu (Pushed e)) (walked_out remove result) ++ walk bucket remove room result ∷ [])

  pub batch_reader : is_lru shape.kind ≡ true → (remove : Bool) (count : ℕ) (start : Option ℕ) (flags : ℕ) → IsReaderAt shape cpu (IsReadTrace shape cpu remove count start flags) (read_batch shape remove count start flags)
  batch_reader evicts remove count start flags =
      match_reader (flags == 0) Counted (IsNothing (Refused Einval)) counted (read_nothing (Refused Einval))
      (match_reader (count == 0) (IsNothing Done) Started (read_nothing Done) started (nothing_reader Done)
      (match_reader (nat_lt (unwrap_or start 0) shape.buckets) WalkedOn (IsNothing (Refused Enoent)) walked_on (read_nothing (Refused Enoent))
      (walks_reader remove (min count shape.elements) evicts (buckets_from shape (unwrap_or start 0)) []) (nothing_reader (Refused Enoent))))
      (nothing_reader (Refused Einval))
    where
      WalkedOn : List TurnAt → Reply → Type 0
      WalkedOn = WalksOn remove (min count shape.elements) (buckets_from shape (unwrap_or start 0)) []

      walked_on : Reads Reply
      walked_on = read_walks shape remove (min count shape.elements) (buckets_from shape (unwrap_or start 0)) []

      Started : List TurnAt → Reply → Type 0
      Started turns reply = MatchBool (nat_lt (unwrap_or start 0) shape.buckets) (WalkedOn turns reply) (IsNothing (Refused Enoent) turns reply)

      started : Reads Reply
      started = read_if (nat_lt (unwrap_or start 0) shape.buckets) walked_on (read_nothing (Refused Enoent))

      Counted : List TurnAt → Reply → Type 0
      Counted turns reply = MatchBool (count == 0) (IsNothing Done turns reply) (Started turns reply)

      counted : Reads Reply
      counted = read_if (count == 0) (read_nothing Done) started

  -- calls on one key, in a row; a map that evicts has no spares
  pub key_reader : is_lru shape.kind ≡ true → (spare : Option ℕ) (verb : Verb) → IsReaderAt shape cpu (IsKeyTrace shape cpu spare verb) (read_key shape cpu verb)
  key_reader evicts spare verb =
      same_reader (IsEvictingTrace shape cpu verb) (IsKeyTrace shape cpu spare verb) (read_key shape cpu verb)
      (λ turns reply is. subst (λ (b : Bool). MatchBool b (IsEvictingTrace shape cpu verb turns reply) (IsPlainTrace shape cpu spare verb (turns_of turns) reply)) (sym evicts) is)
      (λ turns reply is. subst (λ (b : Bool). MatchBool b (IsEvictingTrace shape cpu verb turns reply) (IsPlainTrace shape cpu spare verb (turns_of turns) reply)) evicts is)
      (reads_keys shape cpu verb)

  module _ (spare : Option ℕ) where
    abbrev WritesOn : List Verb → ℕ → List TurnAt → Reply → Type 0
    WritesOn entries done turns reply = Writes shape cpu spare entries done turns reply

    abbrev AfterWrite : List Verb → ℕ → Option Errno → Option ℕ → List TurnAt → Reply → Type 0
    AfterWrite entries done refused left turns reply =
        MatchOption refused (Writes shape cpu left entries (suc done) turns reply) (λ errno. (turns ≡ []) × (reply ≡ Count (Some errno) done))

    write_reader : (entries : List Verb) (done : ℕ) → IsReaderAt shape cpu (WritesOn entries (suc done)) (read_writes shape cpu entries (suc done)) → (refused : Option Errno)
        → IsReaderAt shape cpu (AfterWrite entries done refused spare) (after_write done (read_writes shape cpu entries (suc done)) refused)
    write_reader entries done more None = more
    write_reader entries done more (Some errno) = nothing_reader (Count (Some errno) done)

    kept : is_lru shape.kind ≡ true → (turns : List TurnAt) → spare_left shape spare turns ≡ spare
    kept evicts turns = ap (λ (b : Bool). if b then spare else spare_after spare (turns_of turns)) evicts

    writes_reader : is_lru shape.kind ≡ true → (entries : List Verb) (done : ℕ) → IsReaderAt shape cpu (WritesOn entries done) (read_writes shape cpu entries done)
    writes_reader evicts [] done = nothing_reader (Count None done)
    writes_reader evicts (entry ∷ entries) done =
        same_reader (IsThen (IsKeyTrace shape cpu spare entry) Behind) (WritesOn (entry ∷ entries) done) (read_writes shape cpu (entry ∷ entries) done)
        (λ turns reply is.
        (is.middle, is.front, is.behind, (is.turns_are, is.first, subst (λ (left : Option ℕ). AfterWrite entries done (refused_with is.middle) left is.behind reply) (sym (kept evicts is.front)) is.second)))
        (λ turns reply is. record {
          middle = is.0;
          front = is.1;
          behind = is.2;
          turns_are = is.3.0;
          first = is.3.1;
          second = subst (λ (left : Option ℕ). AfterWrite entries done (refused_with is.0) left is.2 reply) (kept evicts is.1) is.3.2;
        })
        (then_reader (IsKeyTrace shape cpu spare entry) Behind (read_key shape cpu entry) (λ answer. after_write done (read_writes shape cpu entries (suc done)) (refused_with answer))
        (key_reader evicts spare entry) (λ answer. write_reader entries done (writes_reader evicts entries (suc done)) (refused_with answer)))
      where
        Behind : Reply → List TurnAt → Reply → Type 0
        Behind answer = AfterWrite entries done (refused_with answer) spare

    pub write_batch_reader : is_lru shape.kind ≡ true → (flags : ℕ) (entries : List Verb) → IsReaderAt shape cpu (IsWriteBatch shape cpu spare flags entries) (read_write_batch shape cpu flags entries)
    write_batch_reader evicts flags entries =
        match_reader (flags == 0) (WritesOn entries 0) (IsNothing (Refused Einval)) (read_writes shape cpu entries 0) (read_nothing (Refused Einval)) (writes_reader evicts entries 0) (nothing_reader (Refused Einval))
