-- Walks over a map of any kind that nobody changes meanwhile: next key from the start on gives each key once and then ENOENT,
-- and batch reads that remove nothing give each key once, with its value as the system call reads it.
use Rattle.std.specs.Prelude.{◌≡◌, ℕ, suc, ◌+◌, ◌<◌, ◌≤◌, nat_lt, not, ◌&&◌, Bool, true, false, min, filter, map, length, take, List, [], ◌∷◌, ◌++◌, Option, Some, None, IsSome, option_map, option_to_list, unwrap_or, if◌then◌else◌}
use Rattle.map_types.specs.declared.attr.Shape.{Shape}
use Rattle.map_types.specs.declared.call.Verb.{Verb}
use Rattle.map_types.specs.declared.call.Verb.TheVariants.{Next, BatchRead}
use Rattle.map_types.specs.declared.refusal.Errno.{Errno}
use Rattle.map_types.specs.declared.refusal.Errno.TheVariants.{Enoent, Enomem, E2big, Eexist, Einval, Enospc}
use Rattle.map_types.specs.declared.reply.Reply.{Reply}
use Rattle.map_types.specs.declared.reply.Reply.TheVariants.{Done, Value, Refused, Batch, Count}
use Rattle.map_types.specs.Stored.{Stored}
use Rattle.map_script.specs.declared.script.Script.{Script}
use Rattle.place_words.specs.Bodies.{has_key, present}
use Rattle.place_words.specs.Logs.{State, bucket_at, does, new_state, run}
use Rattle.place_words.specs.Turns.{bucket_of_key}
use Rattle.map_report.specs.Serial.{in_order, pair_read}

-- a moment of a run at which a call is made: by which CPU, as the call of which number, and what is known of the map
pub record Moment : Type 0 where
  pub cpu : ℕ
  pub number : ℕ
  pub state : State

-- what the call is answered
abbrev pub answer_at : Shape → Moment → Verb → Reply
answer_at shape moment verb = (does shape moment.cpu moment.number moment.state verb).reply

-- this lies in the map's buckets at a moment
abbrev pub Holds : Shape → (ℕ → List Stored) → Moment → Type 0
Holds shape lie moment = (bucket : ℕ) → bucket < shape.buckets → bucket_at shape moment.state bucket ≡ lie bucket

-- Next key, asked at one moment after the other, at first from a key or from the start, and then from each key that it answered:
-- it answers these keys, and then ENOENT.
abbrev pub GivesKeys : Shape → (ℕ → Moment) → Option (List ℕ) → List (List ℕ) → Type 0
GivesKeys shape at from [] = answer_at shape (at 0) (Next from) ≡ Refused Enoent
GivesKeys shape at from (key ∷ keys) = (answer_at shape (at 0) (Next from) ≡ Value key) × GivesKeys shape (λ n. at (suc n)) (Some key) keys

-- whether a batch stopped with ENOENT
abbrev pub is_enoent : Option Errno → Bool
is_enoent None = false
is_enoent (Some Enoent) = true
is_enoent (Some E2big) = false
is_enoent (Some Enomem) = false
is_enoent (Some Eexist) = false
is_enoent (Some Einval) = false
is_enoent (Some Enospc) = false

-- Where the batch behind one starts that was answered so: where that one ended, also where it answers ENOSPC. A count of 0 is answered
-- with `Done`, and the next one starts where it did.
abbrev pub start_behind : Option ℕ → Reply → Option ℕ
start_behind start Done = start
start_behind start (Value bytes) = start
start_behind start (Refused errno) = start
start_behind start (Batch stop taken next) = Some next
start_behind start (Count stop done) = start

-- what a batch gives with those behind it
abbrev pub read_more : Reply → Option (List (List ℕ × List ℕ)) → Option (List (List ℕ × List ℕ))
read_more Done later = later
read_more (Value bytes) later = None
read_more (Refused errno) later = None
read_more (Batch stop taken next) later = if is_enoent stop then Some taken else option_map (λ rest. taken ++ rest) later
read_more (Count stop done) later = None

-- Batch reads that remove nothing, with these counts, at one moment after the other, at first from the start or from a bucket, and
-- then each from where the last one left off, up to the first whose pairs come with ENOENT: what they give together. None where
-- none of them comes so far.
abbrev pub read_through : Shape → (ℕ → Moment) → Option ℕ → List ℕ → Option (List (List ℕ × List ℕ))
read_through shape at start [] = None
read_through shape at start (count ∷ counts) =
    let reply : Reply = answer_at shape (at 0) (BatchRead false count start 0) in
    read_more reply (read_through shape (λ n. at (suc n)) (start_behind start reply) counts)

-- a batch with this count has room for the bucket that it starts at, if it starts at one
abbrev pub has_room : Shape → (ℕ → List Stored) → ℕ → ℕ → Bool
has_room shape lie start count = if nat_lt start shape.buckets then nat_lt 0 count && not (nat_lt (min count shape.elements) (length (lie start))) else true

-- how many of such batches have it
abbrev pub with_room : Shape → (ℕ → List Stored) → (ℕ → Moment) → Option ℕ → List ℕ → ℕ
with_room shape lie at start [] = 0
with_room shape lie at start (count ∷ counts) =
    let reply : Reply = answer_at shape (at 0) (BatchRead false count start 0) in
    (if has_room shape lie (unwrap_or start 0) count then 1 else 0) + with_room shape lie (λ n. at (suc n)) (start_behind start reply) counts

-- Next key and batch lookups over these buckets, at any moments at which the map holds them.
pub record WalksGiveAll (shape : Shape) (lie : ℕ → List Stored) (at : ℕ → Moment) : Type 0 where
  -- next key gives all keys in the order of buckets, and then ENOENT
  pub keys : GivesKeys shape at None (map (λ (stored : Stored). stored.key) (in_order shape lie))
  -- Batch reads, whatever their counts are, have given all pairs in that order once one of them answers ENOENT. The values are those
  -- that the system call reads, which are the same on each CPU (here CPU 0).
  pub pairs : (counts : List ℕ) (pairs : List (List ℕ × List ℕ)) → read_through shape at None counts ≡ Some pairs → pairs ≡ map (pair_read shape 0) (in_order shape lie)
  -- and one of them does, once as many as there are buckets had room for the bucket that they start at
  pub ends : (counts : List ℕ) → shape.buckets ≤ with_room shape lie at None counts → IsSome (read_through shape at None counts)
  -- in that order the element of each key that is there stands once, and no other one of that key
  pub once : (key : List ℕ) → filter (has_key key) (in_order shape lie) ≡ option_to_list (present key (lie (bucket_of_key shape key)))

-- what lies in the buckets before the call of an index in a script's run
abbrev pub buckets_before : Script → ℕ → ℕ → List Stored
buckets_before script n = bucket_at script.shape (run script.shape 1 (take n script.calls) (new_state script.shape))

-- Next key and batch lookups over the map as it is before a call of the run, if nobody changes it meanwhile.
abbrev pub WalkLaws : Script → Type 0
WalkLaws script = (n : ℕ) (at : ℕ → Moment) → ((k : ℕ) → Holds script.shape (buckets_before script n) (at k)) → WalksGiveAll script.shape (buckets_before script n) at
