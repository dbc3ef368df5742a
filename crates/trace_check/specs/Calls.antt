-- The calls on a map that doesn't evict, read from turns: which beginning of them is the call's, with which reply, and which spare
-- it leaves the CPU. The turns determine the reply.
use Rattle.std.specs.Prelude.{ℕ, suc, ◌+◌, ◌-◌, ◌==◌, ◌&&◌, nat_lt, min, not, Bool, true, false, List, [], ◌∷◌, ◌++◌, length, map, unwrap_or, Option, None, Some, bytes_eq, if◌then◌else◌}
use Rattle.map_types.specs.declared.attr.Shape.{Shape}
use Rattle.map_types.specs.declared.call.Verb.{Verb}
use Rattle.map_types.specs.declared.call.Verb.TheVariants as verbs
use Rattle.map_types.specs.declared.kind.Side.{Side}
use Rattle.map_types.specs.declared.refusal.Errno.{Errno}
use Rattle.map_types.specs.declared.refusal.Errno.TheVariants.{Enoent, Einval}
use Rattle.map_types.specs.declared.reply.Reply.{Reply}
use Rattle.map_types.specs.declared.reply.Reply.TheVariants.{Done, Value, Refused, Batch, Count}
use Rattle.place_words.specs.declared.bucket_part.BucketPart.{BucketPart}
use Rattle.place_words.specs.declared.bucket_part.BucketPart.TheVariants.{Lookup, Update, Delete, Take, Next, First, Walk, Evict}
use Rattle.place_words.specs.declared.bucket_part.Put.{Put}
use Rattle.place_words.specs.declared.bucket_part.Put.TheVariants as puts
use Rattle.place_words.specs.declared.bucket_part.NextFound.{NextFound}
use Rattle.place_words.specs.declared.bucket_part.NextFound.TheVariants as nexts
use Rattle.place_words.specs.declared.bucket_part.Walked.{Walked}
use Rattle.place_words.specs.declared.bucket_part.Walked.TheVariants.{Over, Taken}
use Rattle.place_words.specs.declared.free_part.FreePart.TheVariants.{Pushed}
use Rattle.place_words.specs.Handing.{handed, is_stop, up_to_stop}
use Rattle.place_words.specs.Walks.{buckets_from, walked_out, pair_of, stopped_at, refused_with, updates_of, deletes_of}
use Rattle.place_words.specs.Turns.{Turn, bucket_of_key, ring, on_freelist_of}
use Rattle.place_words.specs.PlainTraces.{found_empty, pushes, reply_of_got, reply_of_put, reply_of_gone, element_gone, spare_after_put}
use Rattle.trace_check.specs.Reading.{Reads, read_nothing, read_as, read_then, read_at, when, same_side, same_turns, are_pops}

-- a reply, and the spare that the CPU has then
abbrev pub Answer : Type 0
Answer = Reply × Option ℕ

-- Lookup: one turn.
abbrev pub got_in : Side → List ℕ → BucketPart → Option (Option (ℕ × List ℕ))
got_in side key (Lookup s k got) = when (same_side side s && bytes_eq key k) got
got_in side key (Update s flags k value offer put) = None
got_in side key (Delete k _) = None
got_in side key (Take k _) = None
got_in side key (Next k found) = None
got_in side key (First k) = None
got_in side key (Walk remove room result) = None
got_in side key (Evict e probed) = None

abbrev pub read_got : Shape → Side → List ℕ → Reads (Option (ℕ × List ℕ))
read_got shape side key = read_at (bucket_of_key shape key) (got_in side key) (λ got before. same_turns [] before)

abbrev pub read_lookup : Shape → Option ℕ → Side → List ℕ → Reads Answer
read_lookup shape spare side key = read_as (λ got. (reply_of_got got, spare)) (read_got shape side key)

-- Delete, and take.
abbrev pub gone_in : List ℕ → BucketPart → Option (Option ℕ)
gone_in key (Lookup s k got) = None
gone_in key (Update s flags k value offer put) = None
gone_in key (Delete k gone) = when (bytes_eq key k) gone
gone_in key (Take k _) = None
gone_in key (Next k found) = None
gone_in key (First k) = None
gone_in key (Walk remove room result) = None
gone_in key (Evict e probed) = None

abbrev pub read_gone : Shape → ℕ → List ℕ → Reads (Option ℕ)
read_gone shape cpu key = read_at (bucket_of_key shape key) (gone_in key) (λ gone before. same_turns (pushes cpu gone) before)

abbrev pub read_delete : Shape → ℕ → Option ℕ → List ℕ → Reads Answer
read_delete shape cpu spare key = read_as (λ gone. (reply_of_gone gone, spare)) (read_gone shape cpu key)

abbrev pub taken_in : List ℕ → BucketPart → Option (Option (ℕ × List ℕ))
taken_in key (Lookup s k got) = None
taken_in key (Update s flags k value offer put) = None
taken_in key (Delete k _) = None
taken_in key (Take k gone) = when (bytes_eq key k) gone
taken_in key (Next k found) = None
taken_in key (First k) = None
taken_in key (Walk remove room result) = None
taken_in key (Evict e probed) = None

abbrev pub read_taken : Shape → ℕ → List ℕ → Reads (Option (ℕ × List ℕ))
read_taken shape cpu key =
    read_at (bucket_of_key shape key) (taken_in key) (λ gone before. same_turns (pushes cpu (element_gone gone)) before)

abbrev pub read_take : Shape → ℕ → Option ℕ → List ℕ → Reads Answer
read_take shape cpu spare key = read_as (λ gone. (reply_of_got gone, spare)) (read_taken shape cpu key)

-- Update: what the bucket's turn puts says what stands before it.
abbrev pub put_in : Side → ℕ → List ℕ → List ℕ → BucketPart → Option Put
put_in side flags key value (Lookup s k got) = None
put_in side flags key value (Update s f k v None put) = when (((same_side side s && flags == f) && bytes_eq key k) && bytes_eq value v) put
put_in side flags key value (Update s f k v (Some offer) put) = None
put_in side flags key value (Delete k _) = None
put_in side flags key value (Take k _) = None
put_in side flags key value (Next k found) = None
put_in side flags key value (First k) = None
put_in side flags key value (Walk remove room result) = None
put_in side flags key value (Evict e probed) = None

abbrev pub is_spare : Option ℕ → ℕ → Bool
is_spare None new = false
is_spare (Some e) new = e == new

abbrev pub looks_for : Shape → ℕ → Option ℕ → Put → List Turn → Bool
looks_for shape cpu spare (puts.Added e) before = are_pops (ring cpu shape.cpus) e before
looks_for shape cpu spare (puts.Replaced new old) before = same_turns [] before && is_spare spare new
looks_for shape cpu spare (puts.Written e) before = same_turns [] before
looks_for shape cpu spare puts.Exists before = same_turns [] before
looks_for shape cpu spare puts.Absent before = same_turns [] before
looks_for shape cpu spare puts.Full before = same_turns (found_empty (ring cpu shape.cpus)) before

abbrev pub read_what_was_put : Shape → ℕ → Option ℕ → Side → ℕ → List ℕ → List ℕ → Reads Put
read_what_was_put shape cpu spare side flags key value =
    read_at (bucket_of_key shape key) (put_in side flags key value) (looks_for shape cpu spare)

abbrev pub read_put : Shape → ℕ → Option ℕ → Side → ℕ → List ℕ → List ℕ → Reads Answer
read_put shape cpu spare side flags key value =
    read_as (λ put. (reply_of_put put, spare_after_put spare put)) (read_what_was_put shape cpu spare side flags key value)

abbrev pub read_update : Shape → ℕ → Option ℕ → Side → ℕ → List ℕ → List ℕ → Reads Answer
read_update shape cpu spare side flags key value turns =
    if nat_lt 2 flags then read_nothing (Refused Einval, spare) turns else read_put shape cpu spare side flags key value turns

-- Next key: the heads of buckets, and what follows a key.
abbrev pub first_in : BucketPart → Option (Option (List ℕ))
first_in (Lookup s k got) = None
first_in (Update s flags k value offer put) = None
first_in (Delete k _) = None
first_in (Take k _) = None
first_in (Next k found) = None
first_in (First k) = Some k
first_in (Walk remove room result) = None
first_in (Evict e probed) = None

abbrev pub read_head : ℕ → Reads (Option (List ℕ))
read_head bucket = read_at bucket first_in (λ key before. same_turns [] before)

abbrev pub after_first : Reads Reply → Option (List ℕ) → Reads Reply
after_first more None = more
after_first more (Some key) = read_nothing (Value key)

abbrev pub read_firsts : List ℕ → Reads Reply
read_firsts [] = read_nothing (Refused Enoent)
read_firsts (bucket ∷ buckets) = read_then (read_head bucket) (after_first (read_firsts buckets))

abbrev pub found_in : List ℕ → BucketPart → Option NextFound
found_in key (Lookup s k got) = None
found_in key (Update s flags k value offer put) = None
found_in key (Delete k _) = None
found_in key (Take k _) = None
found_in key (Next k found) = when (bytes_eq key k) found
found_in key (First k) = None
found_in key (Walk remove room result) = None
found_in key (Evict e probed) = None

abbrev pub read_found : Shape → List ℕ → Reads NextFound
read_found shape key = read_at (bucket_of_key shape key) (found_in key) (λ found before. same_turns [] before)

abbrev pub read_on : Shape → List ℕ → NextFound → Reads Reply
read_on shape key nexts.Absent = read_firsts (buckets_from shape 0)
read_on shape key nexts.Last = read_firsts (buckets_from shape (bucket_of_key shape key + 1))
read_on shape key (nexts.Key next) = read_nothing (Value next)

abbrev pub read_next : Shape → Option (List ℕ) → Reads Reply
read_next shape None = read_firsts (buckets_from shape 0)
read_next shape (Some key) = read_then (read_found shape key) (read_on shape key)

-- Buckets that are taken whole, by a batch read or a walk over all elements.
abbrev pub same_bool : Bool → Bool → Bool
same_bool true b = b
same_bool false b = not b

abbrev pub walked_in : Bool → ℕ → BucketPart → Option Walked
walked_in remove room (Lookup s k got) = None
walked_in remove room (Update s flags k value offer put) = None
walked_in remove room (Delete k _) = None
walked_in remove room (Take k _) = None
walked_in remove room (Next k found) = None
walked_in remove room (First k) = None
walked_in remove room (Walk r n result) = when (same_bool remove r && room == n) result
walked_in remove room (Evict e probed) = None

abbrev pub pushes_all : ℕ → List ℕ → List Turn
pushes_all cpu gone = map (λ e. on_freelist_of cpu (Pushed e)) gone

abbrev pub read_bucket : ℕ → ℕ → Bool → ℕ → Reads Walked
read_bucket cpu bucket remove room =
    read_at bucket (walked_in remove room) (λ result before. same_turns (pushes_all cpu (walked_out remove result)) before)

abbrev pub after_bucket : ℕ → List (List ℕ × List ℕ) → (List (List ℕ × List ℕ) → Reads Reply) → Walked → Reads Reply
after_bucket bucket taken more (Over n) = read_nothing (Batch (stopped_at taken) taken bucket)
after_bucket bucket taken more (Taken all) = more (taken ++ map pair_of all)

abbrev pub read_walks : Shape → ℕ → Bool → ℕ → List ℕ → List (List ℕ × List ℕ) → Reads Reply
read_walks shape cpu remove limit [] taken = read_nothing (Batch (Some Enoent) taken shape.buckets)
read_walks shape cpu remove limit (bucket ∷ buckets) taken =
    read_then (read_bucket cpu bucket remove (limit - length taken)) (after_bucket bucket taken (λ now. read_walks shape cpu remove limit buckets now))

abbrev pub read_if : {A : Type 0} → Bool → Reads A → Reads A → Reads A
read_if test one other turns = if test then one turns else other turns

abbrev pub read_batch : Shape → ℕ → Bool → ℕ → Option ℕ → ℕ → Reads Reply
read_batch shape cpu remove count start flags =
    read_if (flags == 0)
    (read_if (count == 0)
    (read_nothing Done)
    (read_if (nat_lt (unwrap_or start 0) shape.buckets)
    (read_walks shape cpu remove (min count shape.elements) (buckets_from shape (unwrap_or start 0)) [])
    (read_nothing (Refused Enoent))))
    (read_nothing (Refused Einval))

-- A call on one key, and batch writes, which are such calls in a row.
abbrev pub read_never : {A : Type 0} → Reads A
read_never turns = None

abbrev pub read_key : Shape → ℕ → Option ℕ → Verb → Reads Answer
read_key shape cpu spare (verbs.Lookup side key) = read_lookup shape spare side key
read_key shape cpu spare (verbs.Update side flags key value) = read_update shape cpu spare side flags key value
read_key shape cpu spare (verbs.Delete key) = read_delete shape cpu spare key
read_key shape cpu spare (verbs.Take key) = read_take shape cpu spare key
read_key shape cpu spare (verbs.Next key) = read_never
read_key shape cpu spare (verbs.BatchRead remove count start flags) = read_never
read_key shape cpu spare (verbs.BatchUpdate flags pairs) = read_never
read_key shape cpu spare (verbs.BatchDelete flags keys) = read_never
read_key shape cpu spare (verbs.Each flags stop) = read_never

abbrev pub after_write : ℕ → Option ℕ → (Option ℕ → Reads Answer) → Option Errno → Reads Answer
after_write done left more None = more left
after_write done left more (Some errno) = read_nothing (Count (Some errno) done, left)

abbrev pub read_writes : Shape → ℕ → Option ℕ → List Verb → ℕ → Reads Answer
read_writes shape cpu spare [] done = read_nothing (Count None done, spare)
read_writes shape cpu spare (entry ∷ entries) done =
    read_then (read_key shape cpu spare entry) (λ answer. after_write done answer.1 (λ left. read_writes shape cpu left entries (suc done)) (refused_with answer.0))

abbrev pub read_write_batch : Shape → ℕ → Option ℕ → ℕ → List Verb → Reads Answer
read_write_batch shape cpu spare flags entries =
    read_if (flags == 0) (read_writes shape cpu spare entries 0) (read_nothing (Refused Einval, spare))

-- A walk over all elements.
abbrev pub stops_in : Option (List ℕ) → List (List ℕ × List ℕ) → Bool
stops_in stop [] = false
stops_in stop (pair ∷ pairs) = if is_stop stop pair then true else stops_in stop pairs

abbrev pub after_handing : Shape → ℕ → Option (List ℕ) → ℕ → List (List ℕ × List ℕ) → (List (List ℕ × List ℕ) → Reads Reply) → Walked → Reads Reply
after_handing shape cpu stop bucket before more (Over n) = read_nothing (Batch None before bucket)
after_handing shape cpu stop bucket before more (Taken all) =
    read_if (stops_in stop (map (handed shape cpu) all))
    (read_nothing (Batch None (before ++ up_to_stop stop (map (handed shape cpu) all)) (suc bucket)))
    (more (before ++ up_to_stop stop (map (handed shape cpu) all)))

abbrev pub read_whole : ℕ → ℕ → Reads Walked
read_whole bucket room = read_at bucket (walked_in false room) (λ result before. same_turns [] before)

abbrev pub read_handing : Shape → ℕ → Option (List ℕ) → List ℕ → List (List ℕ × List ℕ) → Reads Reply
read_handing shape cpu stop [] before = read_nothing (Batch None before shape.buckets)
read_handing shape cpu stop (bucket ∷ buckets) before =
    read_then (read_whole bucket (shape.elements - length before))
    (after_handing shape cpu stop bucket before (λ now. read_handing shape cpu stop buckets now))

abbrev pub read_each : Shape → ℕ → Option (List ℕ) → ℕ → Reads Reply
read_each shape cpu stop flags = read_if (flags == 0) (read_handing shape cpu stop (buckets_from shape 0) []) (read_nothing (Refused Einval))

-- Every call on a map that doesn't evict. What isn't a write leaves the spare as it is.
abbrev pub read_plain : Shape → ℕ → Option ℕ → Verb → Reads Answer
read_plain shape cpu spare (verbs.Lookup side key) = read_lookup shape spare side key
read_plain shape cpu spare (verbs.Update side flags key value) = read_update shape cpu spare side flags key value
read_plain shape cpu spare (verbs.Delete key) = read_delete shape cpu spare key
read_plain shape cpu spare (verbs.Take key) = read_take shape cpu spare key
read_plain shape cpu spare (verbs.Next key) = read_as (λ reply. (reply, spare)) (read_next shape key)
read_plain shape cpu spare (verbs.BatchRead remove count start flags) = read_as (λ reply. (reply, spare)) (read_batch shape cpu remove count start flags)
read_plain shape cpu spare (verbs.BatchUpdate flags pairs) = read_write_batch shape cpu spare flags (updates_of pairs)
read_plain shape cpu spare (verbs.BatchDelete flags keys) = read_write_batch shape cpu spare flags (deletes_of keys)
read_plain shape cpu spare (verbs.Each flags stop) = read_as (λ reply. (reply, spare)) (read_each shape cpu stop flags)
