-- What batch writes on a map of any kind did, once they answer: what says otherwise is refused.
use Rattle.std.specs.Prelude.{◌≡◌, ℕ, ◌<◌, List, [], ◌∷◌, ◌++◌, Option, None, Some, MatchOption, map, length, slice_index_or}
use Rattle.std.specs.List.{sum_by}
use Rattle.map_types.specs.declared.call.Verb.TheVariants as verbs
use Rattle.map_types.specs.declared.refusal.Errno.{Errno}
use Rattle.map_types.specs.declared.refusal.Errno.TheVariants.{Enoent}
use Rattle.map_types.specs.declared.reply.Reply.TheVariants.{Count}
use Rattle.place_words.specs.declared.bucket_part.BucketPart.{BucketPart}
use Rattle.place_words.specs.declared.bucket_part.BucketPart.TheVariants.{Update, Delete}
use Rattle.place_words.specs.declared.bucket_part.Put.{Put}
use Rattle.place_words.specs.declared.bucket_part.Put.TheVariants as puts
use Rattle.place_words.specs.declared.history.Part.{Part}
use Rattle.place_words.specs.declared.history.Part.TheVariants as parts
use Rattle.place_words.specs.Turns.{Turn, on_bucket_of}
use Rattle.place_table.specs.Calls.{Called}
use Rattle.place_table.specs.Known.{turn_of}
use Rattle.place_table.specs.Passes.{PassView, TableView}

-- how many entries a part does: an update that puts its value, and a delete that finds its key; and how many it refuses as absent
abbrev pub puts_value : Put → ℕ
puts_value (puts.Added e) = 1
puts_value (puts.Replaced new old) = 1
puts_value (puts.Written e) = 1
puts_value put = 0

abbrev pub finds_key : Option ℕ → ℕ
finds_key None = 0
finds_key (Some e) = 1

abbrev pub done_in_bucket : BucketPart → ℕ
done_in_bucket (Update side flags key value offer put) = puts_value put
done_in_bucket (Delete key out) = finds_key out
done_in_bucket part = 0

abbrev pub done_in : Part → ℕ
done_in (parts.Bucket part) = done_in_bucket part
done_in part = 0

abbrev pub misses_key : Option ℕ → ℕ
misses_key None = 1
misses_key (Some e) = 0

abbrev pub missed_in_bucket : BucketPart → ℕ
missed_in_bucket (Delete key out) = misses_key out
missed_in_bucket part = 0

abbrev pub missed_in : Part → ℕ
missed_in (parts.Bucket part) = missed_in_bucket part
missed_in part = 0

abbrev pub count : (Part → ℕ) → List Turn → ℕ
count f turns = sum_by (λ (turn : Turn). f turn.part) turns

-- A batch write that tells no stop did each of its entries, and one that stops is refused an entry that it has.
abbrev pub UpdatesDoEach : Type 0
UpdatesDoEach =
    (t : TableView) (before after : PassView) (flags : ℕ) (pairs : List (List ℕ × List ℕ)) (stop : Option Errno) (done : ℕ)
    → Called t before after (verbs.BatchUpdate flags pairs) (Count stop done) → MatchOption stop (done ≡ length pairs) (λ errno. done < length pairs)

abbrev pub DeletesDoEach : Type 0
DeletesDoEach =
    (t : TableView) (before after : PassView) (flags : ℕ) (keys : List (List ℕ)) (stop : Option Errno) (done : ℕ)
    → Called t before after (verbs.BatchDelete flags keys) (Count stop done) → MatchOption stop (done ≡ length keys) (λ errno. done < length keys)

-- A batch write counts the entries that its turns did, and no other: not the one with which it stopped.
abbrev pub UpdatesAreCounted : Type 0
UpdatesAreCounted =
    (t : TableView) (before after : PassView) (flags : ℕ) (pairs : List (List ℕ × List ℕ)) (stop : Option Errno) (done : ℕ)
    → (called : Called t before after (verbs.BatchUpdate flags pairs) (Count stop done)) → count done_in (map (turn_of t.shape) called.told) ≡ done

abbrev pub DeletesAreCounted : Type 0
DeletesAreCounted =
    (t : TableView) (before after : PassView) (flags : ℕ) (keys : List (List ℕ)) (stop : Option Errno) (done : ℕ)
    → (called : Called t before after (verbs.BatchDelete flags keys) (Count stop done)) → count done_in (map (turn_of t.shape) called.told) ≡ done

-- No turn of a batch delete that tells no stop missed its key. One that tells a stop tells ENOENT: it found no such key in its last turn,
-- that of the key behind those that it counts, and missed none before it.
abbrev pub NoneWasMissed : Type 0
NoneWasMissed =
    (t : TableView) (before after : PassView) (flags : ℕ) (keys : List (List ℕ)) (done : ℕ)
    → (called : Called t before after (verbs.BatchDelete flags keys) (Count None done)) → count missed_in (map (turn_of t.shape) called.told) ≡ 0

abbrev pub StopsAtTheFirstMissed : Type 0
StopsAtTheFirstMissed =
    (t : TableView) (before after : PassView) (flags : ℕ) (keys : List (List ℕ)) (errno : Errno) (done : ℕ)
    → (called : Called t before after (verbs.BatchDelete flags keys) (Count (Some errno) done))
    → (errno ≡ Enoent)
    × (turns : List Turn) × (map (turn_of t.shape) called.told ≡ turns ++ on_bucket_of t.shape (slice_index_or keys done []) (Delete (slice_index_or keys done []) None) ∷ []) × (count missed_in turns ≡ 0)
