-- What walks over the buckets did, once they answer: what says otherwise is refused.
use Rattle.std.specs.Prelude.{◌≡◌, ◌≢◌, ℕ, ◌+◌, ◌-◌, ◌<◌, min, ◌⊎◌, Bool, false, List, [], ◌∷◌, ◌++◌, map, length, unwrap_or, Option, None, Some}
use Rattle.std.specs.List.{flat_map, range_with_len}
use Rattle.map_types.specs.declared.attr.Shape.{Shape}
use Rattle.map_types.specs.declared.call.Verb.TheVariants as verbs
use Rattle.map_types.specs.declared.kind.DomainId.TheVariants.{Bucket}
use Rattle.map_types.specs.declared.refusal.Errno.{Errno}
use Rattle.map_types.specs.declared.refusal.Errno.TheVariants.{Enoent, Enospc}
use Rattle.map_types.specs.declared.reply.Reply.{Reply}
use Rattle.map_types.specs.declared.reply.Reply.TheVariants.{Value, Refused, Batch}
use Rattle.map_types.specs.Kind.{is_lru}
use Rattle.place_words.specs.declared.bucket_part.BucketPart.{BucketPart}
use Rattle.place_words.specs.declared.bucket_part.BucketPart.TheVariants.{First, Walk}
use Rattle.place_words.specs.declared.free_part.FreePart.{FreePart}
use Rattle.place_words.specs.declared.free_part.FreePart.TheVariants.{Pushed}
use Rattle.place_words.specs.declared.history.Part.{Part}
use Rattle.place_words.specs.declared.history.Part.TheVariants as parts
use Rattle.place_words.specs.Bodies.{next_key}
use Rattle.place_words.specs.Buckets.{IsAbsent, IsPresentWith, as_read}
use Rattle.place_words.specs.Turns.{Turn, on_lock, bucket_of_key}
use Rattle.place_words.specs.Walks.{pair_of, walked_out}
use Rattle.place_words.specs.Locks.{lock_named}
use Rattle.place_table.specs.declared.view.Turned.{Turned}
use Rattle.place_table.specs.Calls.{Called}
use Rattle.place_table.specs.Known.{turn_of}
use Rattle.place_table.specs.Passes.{PassView, TableView}
use Rattle.refusals.specs.Made.{lay, bodies_in, AllDid}

-- Next key

-- the heads of so many buckets, from one on, were looked at, each in a turn, and each bucket was found empty
abbrev pub found_no_head : ℕ → ℕ → List Turn
found_no_head from number = map (λ bucket. on_lock (Bucket bucket) (parts.Bucket (First None))) (range_with_len from number)

-- A walk found each bucket empty, from one on, up to the first that isn't, and answers the key at the head of that one; or up to the last
-- bucket of the map, and answers ENOENT.
abbrev pub LeavesOutNone : Shape → ℕ → ℕ → List Turned → Reply → Type 0
LeavesOutNone shape cpu from steps reply =
    ((reply ≡ Refused Enoent) × AllDid shape cpu steps (found_no_head from (shape.buckets - from)))
    ⊎ ((number : ℕ) × (key : List ℕ) × (reply ≡ Value key)
    × AllDid shape cpu steps (found_no_head from number ++ on_lock (Bucket (from + number)) (parts.Bucket (First (Some key))) ∷ []))

-- A walk with no key begins at the first bucket.
abbrev pub FirstKeyLeavesOutNone : Type 0
FirstKeyLeavesOutNone =
    (t : TableView) (before after : PassView) (reply : Reply) (called : Called t before after (verbs.Next None) reply) → LeavesOutNone t.shape before.cpu 0 called.steps reply

-- One behind a key that doesn't lie in its bucket does so too, after the turn of that bucket.
abbrev pub AbsentKeyStartsOver : Type 0
AbsentKeyStartsOver =
    (t : TableView) (before after : PassView) (key : List ℕ) (reply : Reply) (called : Called t before after (verbs.Next (Some key)) reply)
    → (first : Turned) (rest : List Turned) → called.steps ≡ first ∷ rest → IsAbsent key (bodies_in (lay t.shape first))
    → LeavesOutNone t.shape before.cpu 0 rest reply

-- One behind the last key of its bucket goes on at the next bucket.
abbrev pub LastKeyGoesOn : Type 0
LastKeyGoesOn =
    (t : TableView) (before after : PassView) (key : List ℕ) (reply : Reply) (called : Called t before after (verbs.Next (Some key)) reply)
    → (first : Turned) (rest : List Turned) → called.steps ≡ first ∷ rest → IsPresentWith key (bodies_in (lay t.shape first)) (λ body. next_key key (bodies_in (lay t.shape first)) ≡ None)
    → LeavesOutNone t.shape before.cpu (bucket_of_key t.shape key + 1) rest reply

-- Batch reads

-- the keys and values that lay in the bucket of a turn, from the head on, as the system call reads them on a CPU
abbrev pub pairs_lay : Shape → ℕ → Turned → List (List ℕ × List ℕ)
pairs_lay shape cpu step = map pair_of (map (as_read shape cpu) (bodies_in (lay shape step)))

-- A batch read gives all that lay in the buckets of its turns, each from the head on. Where it answers ENOENT that is so of all its turns;
-- else of all but the last, and there was no room for what lay in the bucket of that one. The turns that free what was taken are of no
-- bucket.
abbrev pub GivesWholeBuckets : Type 0
GivesWholeBuckets =
    (t : TableView) (before after : PassView) (remove : Bool) (count : ℕ) (start : Option ℕ) (flags : ℕ) (stop : Option Errno) (taken : List (List ℕ × List ℕ)) (next : ℕ)
    → (called : Called t before after (verbs.BatchRead remove count start flags) (Batch stop taken next))
    → (whole : List Turned) × (rest : List Turned) × (called.steps ≡ whole ++ rest) × (taken ≡ flat_map (pairs_lay t.shape before.cpu) whole)
    × (((stop ≡ Some Enoent) × (rest ≡ []))
    ⊎ ((stop ≢ Some Enoent) × (step : Turned) × (rest ≡ step ∷ []) × (min count t.shape.elements < length taken + length (bodies_in (lay t.shape step)))))

-- A batch lookup makes one turn of each bucket, from the one where it starts on; where it answers ENOENT, up to the last bucket of the map.
abbrev pub ReadsInOrder : Type 0
ReadsInOrder =
    (t : TableView) (before after : PassView) (count : ℕ) (start : Option ℕ) (flags : ℕ) (stop : Option Errno) (taken : List (List ℕ × List ℕ)) (next : ℕ)
    → (called : Called t before after (verbs.BatchRead false count start flags) (Batch stop taken next))
    → (map (λ (step : Turned). lock_named t.shape step.lock) called.steps ≡ map Bucket (range_with_len (unwrap_or start 0) (length called.steps)))
    × (stop ≡ Some Enoent → length called.steps ≡ t.shape.buckets - unwrap_or start 0)

-- A batch read that answers ENOSPC gives nothing.
abbrev pub EnospcTakesNothing : Type 0
EnospcTakesNothing =
    (t : TableView) (before after : PassView) (remove : Bool) (count : ℕ) (start : Option ℕ) (flags : ℕ) (taken : List (List ℕ × List ℕ)) (next : ℕ)
    → Called t before after (verbs.BatchRead remove count start flags) (Batch (Some Enospc) taken next) → taken ≡ []

-- what a turn pushes on a freelist, and what it takes out of a bucket that it empties, from the head on
abbrev pub pushed_free : FreePart → List ℕ
pushed_free (Pushed e) = e ∷ []
pushed_free part = []

abbrev pub pushed_by : Part → List ℕ
pushed_by (parts.Free part) = pushed_free part
pushed_by part = []

abbrev pub emptied_in_bucket : BucketPart → List ℕ
emptied_in_bucket (Walk remove room result) = walked_out remove result
emptied_in_bucket part = []

abbrev pub emptied_by : Part → List ℕ
emptied_by (parts.Bucket part) = emptied_in_bucket part
emptied_by part = []

-- On a map that doesn't evict a batch take pushes what it takes out in the order in which it lay, each bucket from the head on.
abbrev pub TakenArePushedInOrder : Type 0
TakenArePushedInOrder =
    (t : TableView) (before after : PassView) (remove : Bool) (count : ℕ) (start : Option ℕ) (flags : ℕ) (reply : Reply) → is_lru t.shape.kind ≡ false
    → (called : Called t before after (verbs.BatchRead remove count start flags) reply)
    → flat_map (λ (turn : Turn). pushed_by turn.part) (map (turn_of t.shape) called.told) ≡ flat_map (λ (turn : Turn). emptied_by turn.part) (map (turn_of t.shape) called.told)
