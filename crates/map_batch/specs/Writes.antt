-- What batch writes on a map of any kind answer, and what they leave.
use Rattle.std.specs.Prelude.{◌≡◌, ◌≢◌, ◌⊎◌, ℕ, suc, ◌<◌, List, [], ◌∷◌, map, reverse, take, length, None, MatchBool, MatchOption, Result, Ok, Err}
use Rattle.map_types.specs.declared.attr.Shape.{Shape}
use Rattle.map_types.specs.declared.call.Verb.TheVariants.{BatchUpdate, BatchDelete}
use Rattle.map_types.specs.declared.kind.DomainId.TheVariants.{Bucket}
use Rattle.map_types.specs.declared.kind.Side.TheVariants.{Sys}
use Rattle.map_types.specs.declared.refusal.Errno.{Errno}
use Rattle.map_types.specs.declared.refusal.Errno.TheVariants as errnos
use Rattle.map_types.specs.declared.reply.Reply.{Reply}
use Rattle.map_types.specs.declared.reply.Reply.TheVariants.{Count, Refused}
use Rattle.map_types.specs.Kind.{is_lru}
use Rattle.map_types.specs.Pairs.{key_of, value_of, pair_at}
use Rattle.place_words.specs.Locks.{lock_number}
use Rattle.place_words.specs.Turns.{bucket_of_key}
use Rattle.place_table.specs.Calls.{Called, CalledWhole}
use Rattle.place_table.specs.Passes.{PassView, TableView}
use Rattle.map_batch.specs.declared.writes.BatchCount.{BatchCount}
use Rattle.map_batch.specs.declared.writes.WriteRefusal.{WriteRefusal}
use Rattle.map_batch.specs.declared.writes.WriteRefusal.TheVariants as writes
use Rattle.map_batch.specs.Calls.{Updates, MayRefuse, update_call}

-- the lock of the bucket of a pair's key
abbrev pub bucket_lock : Shape → List ℕ × List ℕ → ℕ
bucket_lock shape pair = lock_number shape (Bucket (bucket_of_key shape pair.0))

-- some of these numbers, in their order: each place of the list gives its number once, or not at all
abbrev pub AreSomeOf : List ℕ → List ℕ → Type 0
AreSomeOf [] some = some ≡ []
AreSomeOf (number ∷ numbers) some = AreSomeOf numbers some ⊎ ((others : List ℕ) × (some ≡ number ∷ others) × AreSomeOf numbers others)

-- A batch update did what its turns tell, and answered so, after it began the updates of these pairs. On a map that doesn't evict each
-- of them gave back no lock without a part but the bucket of its own key, and that one once at most; what the last one gave back so
-- comes first.
abbrev pub BatchUpdated : TableView → PassView → PassView → ℕ → List (List ℕ × List ℕ) → List (List ℕ × List ℕ) → Reply → Type 0
BatchUpdated t before after flags pairs begun reply =
    MatchBool (is_lru t.shape.kind)
    (Called t before after (BatchUpdate flags pairs) reply)
    ((called : Called t before after (BatchUpdate flags pairs) reply) × AreSomeOf (reverse (map (bucket_lock t.shape) begun)) called.lost)

-- A batch update ended at an entry: so many pairs before it were updated, and then its own update, by the system call with BPF_ANY (0),
-- was refused so, and left this.
pub record EndsAt (t : TableView) (before after : PassView) (pairs : List (List ℕ × List ℕ)) (done : ℕ) (errno : Errno) : Type 0 where
  pub within : done < length pairs
  pub between : PassView
  pub entries : BatchUpdated t before between 0 (take done pairs) (take done pairs) (Count None done)
  pub refused : Updates t between after (update_call Sys 0 (key_of (pair_at pairs done)) (value_of (pair_at pairs done))) (Err errno)
  pub may : MayRefuse t.shape.kind 0 errno

-- Where no entry of a batch update was refused, all are done. Else the first that was refused comes after those that are done, and its
-- error is the batch's stop.
abbrev pub UpdatesUpTo : TableView → PassView → PassView → List (List ℕ × List ℕ) → BatchCount → Type 0
UpdatesUpTo t before after pairs count =
    MatchOption count.stop (count.done ≡ length pairs) (λ errno. EndsAt t before after pairs count.done errno)

-- What a batch update answers. EINVAL comes exactly where flags aren't 0, and before anything is looked at. It takes no memory that it
-- needs. Where it stopped, the entry after those that are done was begun too.
abbrev pub UpdatesBatch : TableView → PassView → PassView → ℕ → List (List ℕ × List ℕ) → Result BatchCount WriteRefusal → Type 0
UpdatesBatch t before after flags pairs (Ok count) =
    (flags ≡ 0) × BatchUpdated t before after flags pairs (take (suc count.done) pairs) (Count count.stop count.done) × UpdatesUpTo t before after pairs count
UpdatesBatch t before after flags pairs (Err writes.Einval) =
    (flags ≢ 0) × (after ≡ before) × CalledWhole t before after (BatchUpdate flags pairs) (Refused errnos.Einval)

-- A delete is refused with ENOENT alone.
abbrev pub DeletesUpTo : List (List ℕ) → BatchCount → Type 0
DeletesUpTo keys count = MatchOption count.stop (count.done ≡ length keys) (λ errno. (errno ≡ errnos.Enoent) × (count.done < length keys))

-- What a batch delete answers. EINVAL comes exactly where flags aren't 0, and before anything is looked at. It takes no memory that it
-- needs.
abbrev pub DeletesBatch : TableView → PassView → PassView → ℕ → List (List ℕ) → Result BatchCount WriteRefusal → Type 0
DeletesBatch t before after flags keys (Ok count) =
    (flags ≡ 0) × Called t before after (BatchDelete flags keys) (Count count.stop count.done) × DeletesUpTo keys count
DeletesBatch t before after flags keys (Err writes.Einval) =
    (flags ≢ 0) × (after ≡ before) × CalledWhole t before after (BatchDelete flags keys) (Refused errnos.Einval)
