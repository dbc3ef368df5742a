-- Turns worked by hand on a map of two elements and one bucket, for two CPUs that share lists. CPU 0 has refilled its local lists from
-- the global ones, which gave it elements 0 and 1, and 1 went to pending. Now it pops 0 for a second key. For a third it refills again:
-- both pending elements are flushed, nothing is free, and a shrink evicts both, of which the third key gets 0.
use Rattle.std.specs.Prelude.{◌≡◌, ℕ, true, false, List, [], ◌∷◌, None, Some, drop}
use Rattle.map_types.specs.declared.attr.Shape.{Shape}
use Rattle.map_types.specs.declared.call.Verb.{Verb}
use Rattle.map_types.specs.declared.call.Verb.TheVariants as verbs
use Rattle.map_types.specs.declared.kind.DomainId.{DomainId}
use Rattle.map_types.specs.declared.kind.DomainId.TheVariants.{Local, Global, Bucket}
use Rattle.map_types.specs.declared.kind.MapKind.TheVariants.{LruHash}
use Rattle.map_types.specs.declared.kind.Side.TheVariants.{Prog}
use Rattle.map_types.specs.declared.reply.Reply.TheVariants.{Done}
use Rattle.key_hash.specs.Jhash.{hash}
use Rattle.place_words.specs.declared.bucket_part.BucketPart.{BucketPart}
use Rattle.place_words.specs.declared.bucket_part.BucketPart.TheVariants.{Update, Evict}
use Rattle.place_words.specs.declared.bucket_part.Put.TheVariants.{Added}
use Rattle.place_words.specs.declared.bucket_part.Seen.TheVariants.{Removed}
use Rattle.place_words.specs.declared.history.Entry.{Entry}
use Rattle.place_words.specs.declared.history.Part.{Part}
use Rattle.place_words.specs.declared.history.Part.TheVariants as parts
use Rattle.place_words.specs.declared.list_part.GlobalPart.TheVariants as global
use Rattle.place_words.specs.declared.list_part.LocalPart.TheVariants as local
use Rattle.place_words.specs.declared.visits.Flush.{Flush}
use Rattle.place_words.specs.declared.visits.Look.{Look}
use Rattle.place_words.specs.declared.visits.Visit.{Visit}
use Rattle.place_words.specs.Turns.{TurnAt, on_lock}
use Rattle.evicting_traces.specs.Reading.{all_seen}
use Rattle.evicting_traces.specs.Laws.{read_count}

abbrev pub shape : Shape
shape = record { kind = LruHash; cpus = 2; capacity = 2; elements = 2; buckets = 1; key_size = 1; value_size = 1; seed = 0; common = true }

-- the hash of a key of one byte
abbrev pub hash_of : ℕ → ℕ
hash_of byte = hash (byte ∷ []) 0

abbrev pub visit : ℕ → Visit
visit e = record { element = e; bit = false }

abbrev pub entry : Part → Entry
entry part = record { ticket = 0; cpu = 0; call = 0; part = part }

-- a turn of CPU 0 behind these
abbrev pub turn_at : DomainId → List Part → Part → TurnAt
turn_at lock [] part = record { turn = on_lock lock part; earlier = [] }
turn_at lock (first ∷ []) part = record { turn = on_lock lock part; earlier = entry first ∷ [] }
turn_at lock (first ∷ (second ∷ more)) part = record { turn = on_lock lock part; earlier = entry first ∷ entry second ∷ [] }

abbrev pub at_bucket : BucketPart → TurnAt
at_bucket part = turn_at (Bucket 0) [] (parts.Bucket part)

abbrev pub put : ℕ → BucketPart
put byte = Update Prog 0 (byte ∷ []) (7 ∷ []) (Some 0) (Added 0)

-- what was done before, and the pop
abbrev pub given_first : Part
given_first = parts.Global (global.Turn [] [] [] (0 ∷ 1 ∷ []) (Some (record { target = 126; looks = []; forced = [] })))

abbrev pub refilled_first : Part
refilled_first = parts.Local (local.Refill (hash_of 1) [] (0 ∷ 1 ∷ []) (Some 1))

abbrev pub popped : Part
popped = parts.Local (local.Pop (hash_of 2) 0)

abbrev pub second_key : List TurnAt
second_key = turn_at (Local 0) (refilled_first ∷ []) popped ∷ at_bucket (put 2) ∷ []

-- the second refill
abbrev pub flush : ℕ → ℕ → Flush
flush e byte = record { element = e; hash = hash_of byte; bit = false }

abbrev pub look : ℕ → Look
look e = record { element = e; bit = false; probed = Some Removed }

abbrev pub given : Part
given =
    parts.Global (global.Turn (flush 1 1 ∷ flush 0 2 ∷ []) [] (visit 1 ∷ visit 0 ∷ []) [] (Some (record { target = 128; looks = look 1 ∷ look 0 ∷ []; forced = [] })))

abbrev pub refilled : Part
refilled = parts.Local (local.Refill (hash_of 3) (visit 1 ∷ visit 0 ∷ []) (1 ∷ 0 ∷ []) (Some 0))

abbrev pub third_key : List TurnAt
third_key =
    at_bucket (Evict 1 Removed) ∷ at_bucket (Evict 0 Removed) ∷ turn_at Global (given_first ∷ []) given
    ∷ turn_at (Local 0) (refilled_first ∷ popped ∷ []) refilled ∷ at_bucket (put 3) ∷ []

abbrev pub on_other_lists : List TurnAt
on_other_lists =
    at_bucket (Evict 1 Removed) ∷ at_bucket (Evict 0 Removed) ∷ turn_at Global (given_first ∷ []) given
    ∷ turn_at (Local 0) (refilled_first ∷ []) refilled ∷ at_bucket (put 3) ∷ []

-- The second key's update has two turns, and the third key's five. It isn't read without the turn of a probe, nor as a call of CPU 1,
-- nor where the refill found other lists.
abbrev pub update : ℕ → Verb
update byte = verbs.Update Prog 0 (byte ∷ []) (7 ∷ [])

abbrev pub ReadInTurn : Type 0
ReadInTurn =
    (read_count shape 0 (update 2) (all_seen shape second_key) ≡ Some (2, Done))
    × (read_count shape 0 (update 3) (all_seen shape third_key) ≡ Some (5, Done))
    × (read_count shape 0 (update 3) (all_seen shape (drop 1 third_key)) ≡ None)
    × (read_count shape 0 (update 3) (all_seen shape on_other_lists) ≡ None)
    × (read_count shape 1 (update 3) (all_seen shape third_key) ≡ None)
