-- What calls on one key of a map that doesn't evict did, once they answer: what says otherwise is refused.
use Rattle.std.specs.Prelude.{◌≡◌, ℕ, false, All, List, [], ◌∷◌, ◌++◌, map, None, Some, IsSome}
use Rattle.map_types.specs.declared.call.Verb.TheVariants as verbs
use Rattle.map_types.specs.declared.kind.Side.{Side}
use Rattle.map_types.specs.declared.refusal.Errno.TheVariants.{E2big}
use Rattle.map_types.specs.declared.reply.Reply.{Reply}
use Rattle.map_types.specs.declared.reply.Reply.TheVariants.{Done, Refused}
use Rattle.map_types.specs.Kind.{is_lru, is_percpu}
use Rattle.map_types.specs.Stored.{Stored}
use Rattle.place_words.specs.declared.bucket_part.BucketPart.TheVariants.{Update, Delete}
use Rattle.place_words.specs.declared.bucket_part.Put.TheVariants as puts
use Rattle.place_words.specs.declared.free_part.FreePart.TheVariants.{Pushed}
use Rattle.place_words.specs.Bodies.{present}
use Rattle.place_words.specs.Buckets.{IsPresentWith}
use Rattle.place_words.specs.PlainTraces.{found_empty}
use Rattle.place_words.specs.Turns.{ring, on_bucket_of, on_freelist_of}
use Rattle.place_table.specs.declared.view.Turned.{Turned}
use Rattle.place_table.specs.Calls.{Called, spare_element}
use Rattle.place_table.specs.Known.{turn_of}
use Rattle.place_table.specs.Passes.{PassView, TableView}
use Rattle.place_table.specs.Views.{is_among}
use Rattle.hash_ops.specs.Calls.{Updated, update_call}
use Rattle.refusals.specs.Made.{lay, left, bodies_in, AllDid}

-- An update that answers E2BIG took the lock of each freelist, from the CPU's own upwards, and found each empty; and in the key's bucket,
-- whose lock was given back last, no such key lay.
abbrev pub E2bigLooksAtEach : Type 0
E2bigLooksAtEach =
    (t : TableView) (before after : PassView) (side : Side) (flags : ℕ) (key value : List ℕ) → is_lru t.shape.kind ≡ false
    → (called : Called t before after (verbs.Update side flags key value) (Refused E2big))
    → AllDid t.shape before.cpu called.steps (found_empty (ring before.cpu t.shape.cpus) ++ on_bucket_of t.shape key (Update side flags key value None puts.Full) ∷ [])

-- Each of its looks was given back with its part, as it was made.
abbrev pub LooksAreTold : Type 0
LooksAreTold =
    (t : TableView) (before after : PassView) (side : Side) (flags : ℕ) (key value : List ℕ) → is_lru t.shape.kind ≡ false
    → (updated : Updated t before after (update_call side flags key value) (Refused E2big))
    → (looks : List Turned) × (last : Turned) × (updated.0.steps ≡ looks ++ last ∷ []) × (map (turn_of t.shape) looks ≡ found_empty (ring before.cpu t.shape.cpus))
    × All (λ (look : Turned). is_among look.lock updated.0.lost ≡ false) looks

-- An update of a key that lies in its bucket made no turn but that bucket's: it looked at no freelist.
abbrev pub PresentKeyPopsNothing : Type 0
PresentKeyPopsNothing =
    (t : TableView) (before after : PassView) (side : Side) (flags : ℕ) (key value : List ℕ) (reply : Reply) → is_lru t.shape.kind ≡ false
    → (called : Called t before after (verbs.Update side flags key value) reply)
    → (looks : List Turned) (step : Turned) → called.steps ≡ looks ++ step ∷ [] → IsSome (present key (bodies_in (lay t.shape step))) → looks ≡ []

-- Where there is one value for each key, and the update is done, the key then has the element that was the CPU's spare, and its old
-- element is the spare.
abbrev pub PresentKeyTakesTheSpare : Type 0
PresentKeyTakesTheSpare =
    (t : TableView) (before after : PassView) (side : Side) (flags : ℕ) (key value : List ℕ) → is_lru t.shape.kind ≡ false → is_percpu t.shape.kind ≡ false
    → (called : Called t before after (verbs.Update side flags key value) Done)
    → (looks : List Turned) (step : Turned) → called.steps ≡ looks ++ step ∷ []
    → (old : Stored) → present key (bodies_in (lay t.shape step)) ≡ Some old
    → (spare_element after ≡ Some old.element) × IsPresentWith key (bodies_in (left t.shape step)) (λ body. spare_element before ≡ Some body.element)

-- A delete that is done made two turns, in the order in which their locks were given back: in one it pushed its element on the CPU's own
-- freelist, and in the other it took it out of the key's bucket.
abbrev pub DeletedIsPushed : Type 0
DeletedIsPushed =
    (t : TableView) (before after : PassView) (key : List ℕ) → is_lru t.shape.kind ≡ false → (called : Called t before after (verbs.Delete key) Done)
    → (e : ℕ) × AllDid t.shape before.cpu called.steps (on_freelist_of before.cpu (Pushed e) ∷ on_bucket_of t.shape key (Delete key (Some e)) ∷ [])
