-- The turns of next key and of batches, of maps of any kind, in the order in which the locks are given back, and the replies
-- that go with them. The rules are those of the kernel's `htab_map_get_next_key`, `__htab_map_lookup_and_delete_batch`,
-- `generic_map_update_batch` and `generic_map_delete_batch`.
use Rattle.std.specs.Prelude.{◌≡◌, ℕ, suc, ◌+◌, ◌-◌, ◌==◌, nat_lt, min, Bool, MatchBool, MatchOption, List, [], ◌∷◌, ◌++◌, map, length, reverse, slice_get, unwrap_or, Option, None, Some, if◌then◌else◌}
use Rattle.std.specs.List.{range_with_len}
use Rattle.map_types.specs.declared.attr.Shape.{Shape}
use Rattle.map_types.specs.declared.call.Verb.{Verb}
use Rattle.map_types.specs.declared.call.Verb.TheVariants as verbs
use Rattle.map_types.specs.declared.kind.DomainId.TheVariants.{Bucket}
use Rattle.map_types.specs.declared.kind.Side.TheVariants.{Sys}
use Rattle.map_types.specs.declared.refusal.Errno.{Errno}
use Rattle.map_types.specs.declared.refusal.Errno.TheVariants.{Enoent, Enospc, Einval}
use Rattle.map_types.specs.declared.reply.Reply.{Reply}
use Rattle.map_types.specs.declared.reply.Reply.TheVariants.{Done, Value, Refused, Batch, Count}
use Rattle.map_types.specs.Kind.{is_lru}
use Rattle.map_types.specs.Stored.{Stored}
use Rattle.place_words.specs.declared.bucket_part.BucketPart.TheVariants.{Next, First, Walk}
use Rattle.place_words.specs.declared.bucket_part.NextFound.{NextFound}
use Rattle.place_words.specs.declared.bucket_part.NextFound.TheVariants as nexts
use Rattle.place_words.specs.declared.bucket_part.Walked.{Walked}
use Rattle.place_words.specs.declared.bucket_part.Walked.TheVariants.{Over, Taken}
use Rattle.place_words.specs.declared.free_part.FreePart.TheVariants.{Pushed}
use Rattle.place_words.specs.declared.history.Part.TheVariants as parts
use Rattle.place_words.specs.Bodies.{numbers}
use Rattle.place_words.specs.Evicting.{IsEvictingTrace}
use Rattle.place_words.specs.PlainTraces.{IsPlainTrace, spare_after}
use Rattle.place_words.specs.Takings.{Frees}
use Rattle.place_words.specs.Turns.{Turn, TurnAt, turns_of, on_lock, on_bucket_of, on_freelist_of, bucket_of_key}

-- the buckets from one on
abbrev pub buckets_from : Shape → ℕ → List ℕ
buckets_from shape bucket = range_with_len bucket (shape.buckets - bucket)

-- The heads of these buckets are looked at in order, each in a turn of its own, up to the first bucket that isn't empty.
abbrev pub Firsts : List ℕ → List Turn → Reply → Type 0
Firsts [] turns reply = (turns ≡ []) × (reply ≡ Refused Enoent)
Firsts (bucket ∷ buckets) turns reply =
    (key : Option (List ℕ)) × (rest : List Turn)
    × (turns ≡ on_lock (Bucket bucket) (parts.Bucket (First key)) ∷ rest)
    × MatchOption key (Firsts buckets rest reply) (λ first. (rest ≡ []) × (reply ≡ Value first))

-- The key after a key in its bucket; where that was the last one, the first key of the later buckets; where it is absent,
-- that of all buckets.
abbrev pub GoesOn : Shape → List ℕ → NextFound → List Turn → Reply → Type 0
GoesOn shape key nexts.Absent turns reply = Firsts (buckets_from shape 0) turns reply
GoesOn shape key nexts.Last turns reply = Firsts (buckets_from shape (bucket_of_key shape key + 1)) turns reply
GoesOn shape key (nexts.Key next) turns reply = (turns ≡ []) × (reply ≡ Value next)

pub record IsAfterTrace (shape : Shape) (key : List ℕ) (turns : List Turn) (reply : Reply) : Type 0 where
  pub found : NextFound
  pub rest : List Turn
  pub turns_are : turns ≡ on_bucket_of shape key (Next key found) ∷ rest
  pub goes_on : GoesOn shape key found rest reply

abbrev pub IsNextTrace : Shape → Option (List ℕ) → List Turn → Reply → Type 0
IsNextTrace shape None turns reply = Firsts (buckets_from shape 0) turns reply
IsNextTrace shape (Some key) turns reply = IsAfterTrace shape key turns reply

-- elements are freed one after another
abbrev pub FreesAll : Shape → List ℕ → List TurnAt → Type 0
FreesAll shape [] turns = turns ≡ []
FreesAll shape (e ∷ es) turns =
    (one : List TurnAt) × (others : List TurnAt) × ((turns ≡ one ++ others) × Frees shape e one × FreesAll shape es others)

-- A bucket's turn with the freeing of the elements that it took out. On a map that doesn't evict the CPU pushes them on its
-- freelist inside the turn, in the order taken. On one that evicts they are freed after it, last taken first.
pub record IsFreedAfter (shape : Shape) (turn : Turn) (gone : List ℕ) (turns : List TurnAt) : Type 0 where
  pub at_bucket : TurnAt
  pub freeing : List TurnAt
  pub turns_are : turns ≡ at_bucket ∷ freeing
  pub bucket_is : at_bucket.turn ≡ turn
  pub frees : FreesAll shape (reverse gone) freeing

abbrev pub TakesOut : Shape → ℕ → Turn → List ℕ → List TurnAt → Type 0
TakesOut shape cpu turn gone turns =
    MatchBool (is_lru shape.kind)
    (IsFreedAfter shape turn gone turns)
    (turns_of turns ≡ map (λ e. on_freelist_of cpu (Pushed e)) gone ++ turn ∷ [])

-- what a walk takes out of its bucket
abbrev pub walked_out : Bool → Walked → List ℕ
walked_out remove (Over n) = []
walked_out remove (Taken all) = if remove then numbers all else []

-- the key of an element, and the value that the system call reads of it, as a bucket's turn tells them
abbrev pub pair_of : Stored → List ℕ × List ℕ
pair_of stored = (stored.key, unwrap_or (slice_get stored.values 0) [])

-- A bucket for which there is no room ends the batch: with ENOSPC where nothing was taken yet, else without an error.
abbrev pub stopped_at : List (List ℕ × List ℕ) → Option Errno
stopped_at [] = Some Enospc
stopped_at (pair ∷ pairs) = None

-- Buckets are taken whole, in order, each in one turn, as long as there is room for what they hold. `limit` is how many
-- elements the batch may take, and `taken` what it took before. After the last bucket it answers ENOENT.
abbrev pub AfterWalk : ℕ → List (List ℕ × List ℕ) → List TurnAt → Reply → Walked → (List (List ℕ × List ℕ) → Type 0) → Type 0
AfterWalk bucket taken rest reply (Over n) GoesOnWith = (rest ≡ []) × (reply ≡ Batch (stopped_at taken) taken bucket)
AfterWalk bucket taken rest reply (Taken all) GoesOnWith = GoesOnWith (taken ++ map pair_of all)

abbrev pub Walks : Shape → ℕ → Bool → ℕ → List ℕ → List (List ℕ × List ℕ) → List TurnAt → Reply → Type 0
Walks shape cpu remove limit [] taken turns reply = (turns ≡ []) × (reply ≡ Batch (Some Enoent) taken shape.buckets)
Walks shape cpu remove limit (bucket ∷ buckets) taken turns reply =
    (result : Walked) × (one : List TurnAt) × (rest : List TurnAt)
    × ((turns ≡ one ++ rest)
    × TakesOut shape cpu (on_lock (Bucket bucket) (parts.Bucket (Walk remove (limit - length taken) result))) (walked_out remove result) one
    × AfterWalk bucket taken rest reply result (λ now. Walks shape cpu remove limit buckets now rest reply))

-- A batch read. Flags that aren't 0 are refused with EINVAL, a count of 0 gives nothing, and a start past the last bucket is
-- refused with ENOENT. The count that is used is at most the number of elements.
abbrev pub IsReadTrace : Shape → ℕ → Bool → ℕ → Option ℕ → ℕ → List TurnAt → Reply → Type 0
IsReadTrace shape cpu remove count start flags turns reply =
    MatchBool (flags == 0)
    (MatchBool (count == 0)
    ((turns ≡ []) × (reply ≡ Done))
    (MatchBool (nat_lt (unwrap_or start 0) shape.buckets)
    (Walks shape cpu remove (min count shape.elements) (buckets_from shape (unwrap_or start 0)) [] turns reply)
    ((turns ≡ []) × (reply ≡ Refused Enoent))))
    ((turns ≡ []) × (reply ≡ Refused Einval))

-- The turns of a call on one key, on a CPU with this spare, and its reply.
abbrev pub IsKeyTrace : Shape → ℕ → Option ℕ → Verb → List TurnAt → Reply → Type 0
IsKeyTrace shape cpu spare verb turns reply =
    MatchBool (is_lru shape.kind)
    (IsEvictingTrace shape cpu verb turns reply)
    (IsPlainTrace shape cpu spare verb (turns_of turns) reply)

-- The spare of a CPU after turns of its calls. A map that evicts has no spares.
abbrev pub spare_left : Shape → Option ℕ → List TurnAt → Option ℕ
spare_left shape spare turns = if is_lru shape.kind then spare else spare_after spare (turns_of turns)

-- the error with which a call on one key was refused
abbrev pub refused_with : Reply → Option Errno
refused_with Done = None
refused_with (Value bytes) = None
refused_with (Refused errno) = Some errno
refused_with (Batch stop taken next) = None
refused_with (Count stop done) = None

-- A batch write makes the calls of its entries in order, up to the first that is refused. `done` counts those before it.
abbrev pub Writes : Shape → ℕ → Option ℕ → List Verb → ℕ → List TurnAt → Reply → Type 0
Writes shape cpu spare [] done turns reply = (turns ≡ []) × (reply ≡ Count None done)
Writes shape cpu spare (entry ∷ entries) done turns reply =
    (answer : Reply) × (one : List TurnAt) × (rest : List TurnAt)
    × ((turns ≡ one ++ rest) × IsKeyTrace shape cpu spare entry one answer
    × MatchOption (refused_with answer)
    (Writes shape cpu (spare_left shape spare one) entries (suc done) rest reply)
    (λ errno. (rest ≡ []) × (reply ≡ Count (Some errno) done)))

-- flags that aren't 0 are refused before anything is done
abbrev pub IsWriteBatch : Shape → ℕ → Option ℕ → ℕ → List Verb → List TurnAt → Reply → Type 0
IsWriteBatch shape cpu spare flags entries turns reply =
    MatchBool (flags == 0) (Writes shape cpu spare entries 0 turns reply) ((turns ≡ []) × (reply ≡ Refused Einval))

-- the entries of a batch update are updates by the system call with BPF_ANY (0), and those of a batch delete are deletes
abbrev pub updates_of : List (List ℕ × List ℕ) → List Verb
updates_of pairs = map (λ (pair : List ℕ × List ℕ). verbs.Update Sys 0 pair.0 pair.1) pairs

abbrev pub deletes_of : List (List ℕ) → List Verb
deletes_of keys = map (λ (key : List ℕ). verbs.Delete key) keys
