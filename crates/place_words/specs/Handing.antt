-- The walk over all elements of a map of any kind, which hands each of them to a callback that may stop it: its turns, in the order
-- in which the locks are given back, and the reply that goes with them. That each element is handed to a callback, which may stop the
-- walk, is the rule of the kernel's `bpf_for_each_hash_elem`. That each bucket is copied in one turn of its lock, with room for as many
-- elements as the map has, that the callback is called after the turn, that no bit is set, and that the reply tells where the walk ended,
-- is this project's own.
use Rattle.std.specs.Prelude.{◌≡◌, ℕ, suc, ◌-◌, ◌==◌, Bool, true, false, MatchBool, List, [], ◌∷◌, ◌++◌, map, length, Option, None, Some, bytes_eq, if◌then◌else◌}
use Rattle.map_types.specs.declared.attr.Shape.{Shape}
use Rattle.map_types.specs.declared.kind.DomainId.TheVariants.{Bucket}
use Rattle.map_types.specs.declared.refusal.Errno.TheVariants.{Einval}
use Rattle.map_types.specs.declared.reply.Reply.{Reply}
use Rattle.map_types.specs.declared.reply.Reply.TheVariants.{Refused, Batch}
use Rattle.map_types.specs.Kind.{is_percpu}
use Rattle.map_types.specs.Parts.{part_at, values_in}
use Rattle.map_types.specs.Stored.{Stored}
use Rattle.place_words.specs.declared.bucket_part.BucketPart.TheVariants.{Walk}
use Rattle.place_words.specs.declared.bucket_part.Walked.{Walked}
use Rattle.place_words.specs.declared.bucket_part.Walked.TheVariants.{Over, Taken}
use Rattle.place_words.specs.declared.history.Part.TheVariants as parts
use Rattle.place_words.specs.Turns.{Turn, on_lock}
use Rattle.place_words.specs.Walks.{buckets_from, pair_of}

-- what a program on a CPU reads where the system call reads this: on the per-CPU kinds the value in that CPU's field
abbrev pub program_value : Shape → ℕ → List ℕ → List ℕ
program_value shape cpu value = if is_percpu shape.kind then part_at cpu (values_in shape.cpus shape.value_size value) else value

-- an element that a bucket's turn tells, as the callback gets it on a CPU: its key, and its value as a program reads it there
abbrev pub handed : Shape → ℕ → Stored → List ℕ × List ℕ
handed shape cpu stored = (stored.key, program_value shape cpu (pair_of stored).1)

-- what a callback may answer for a pair; true stops the walk
abbrev pub Callback : Type 1
Callback = List ℕ × List ℕ → Bool → Type 0

-- These of the pairs are handed over: each in order, up to and including the first for which the callback answers true. And whether it
-- did, which stops the walk.
abbrev pub HandsOver : Callback → List (List ℕ × List ℕ) → List (List ℕ × List ℕ) → Bool → Type 0
HandsOver Says [] over stopped = (over ≡ []) × (stopped ≡ false)
HandsOver Says (pair ∷ pairs) over stopped =
    (stops : Bool) × (rest : List (List ℕ × List ℕ))
    × ((over ≡ pair ∷ rest) × Says pair stops × MatchBool stops ((rest ≡ []) × (stopped ≡ true)) (HandsOver Says pairs rest stopped))

-- What stands behind a bucket's turn. A bucket for which there is no room ends the walk, which answers its number. Else its elements are
-- handed over; in the bucket in which the walk is stopped it ends, and answers the number behind it; or it goes on with these pairs.
abbrev pub AfterHanding : Shape → ℕ → Callback → ℕ → List (List ℕ × List ℕ) → List Turn → Reply → Walked → (List (List ℕ × List ℕ) → Type 0) → Type 0
AfterHanding shape cpu Says bucket before rest reply (Over n) GoesOnWith = (rest ≡ []) × (reply ≡ Batch None before bucket)
AfterHanding shape cpu Says bucket before rest reply (Taken all) GoesOnWith =
    (over : List (List ℕ × List ℕ)) × (stopped : Bool)
    × (HandsOver Says (map (handed shape cpu) all) over stopped
    × MatchBool stopped ((rest ≡ []) × (reply ≡ Batch None (before ++ over) (suc bucket))) (GoesOnWith (before ++ over)))

-- Buckets are taken whole, in order, each in one turn that leaves it as it is. There is room for as many elements as the map has, less
-- those that were handed over `before`. Behind the last bucket the number of buckets is answered.
abbrev pub HandsOverBuckets : Shape → ℕ → Callback → List ℕ → List (List ℕ × List ℕ) → List Turn → Reply → Type 0
HandsOverBuckets shape cpu Says [] before turns reply = (turns ≡ []) × (reply ≡ Batch None before shape.buckets)
HandsOverBuckets shape cpu Says (bucket ∷ buckets) before turns reply =
    (result : Walked) × (rest : List Turn)
    × ((turns ≡ on_lock (Bucket bucket) (parts.Bucket (Walk false (shape.elements - length before) result)) ∷ rest)
    × AfterHanding shape cpu Says bucket before rest reply result (λ now. HandsOverBuckets shape cpu Says buckets now rest reply))

-- A walk over all elements. Flags that aren't 0 are refused with EINVAL before anything is looked at.
abbrev pub IsHandingTrace : Shape → ℕ → Callback → ℕ → List Turn → Reply → Type 0
IsHandingTrace shape cpu Says flags turns reply =
    MatchBool (flags == 0) (HandsOverBuckets shape cpu Says (buckets_from shape 0) [] turns reply) ((turns ≡ []) × (reply ≡ Refused Einval))

-- the callback of a script's walk answers true at one key, or at none
abbrev pub is_stop : Option (List ℕ) → List ℕ × List ℕ → Bool
is_stop None pair = false
is_stop (Some stop) pair = bytes_eq pair.0 stop

abbrev pub StopsAt : Option (List ℕ) → Callback
StopsAt stop pair answer = answer ≡ is_stop stop pair

-- those of the pairs that are handed over to it
abbrev pub up_to_stop : Option (List ℕ) → List (List ℕ × List ℕ) → List (List ℕ × List ℕ)
up_to_stop stop [] = []
up_to_stop stop (pair ∷ pairs) = pair ∷ (if is_stop stop pair then [] else up_to_stop stop pairs)
