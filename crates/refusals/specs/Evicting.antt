-- What calls on one key of a map that evicts did, once they answer: what says otherwise is refused.
use Rattle.std.specs.Prelude.{◌≡◌, ℕ, ◌==◌, Bool, true, false, IsTrue, IsFalse, List, [], ◌∷◌, ◌++◌, None, Some, find, length, reverse, if◌then◌else◌}
use Rattle.std.specs.List.{flat_map, sum_by}
use Rattle.map_types.specs.declared.call.Verb.TheVariants as verbs
use Rattle.map_types.specs.declared.kind.DomainId.{DomainId}
use Rattle.map_types.specs.declared.kind.DomainId.TheVariants.{Local, Global, CpuLru, Bucket}
use Rattle.map_types.specs.declared.kind.Side.{Side}
use Rattle.map_types.specs.declared.kind.Side.TheVariants.{Prog, Sys}
use Rattle.map_types.specs.declared.refusal.Errno.TheVariants.{Enomem}
use Rattle.map_types.specs.declared.reply.Reply.{Reply}
use Rattle.map_types.specs.declared.reply.Reply.TheVariants.{Done, Value, Refused}
use Rattle.map_types.specs.declared.row.Row.{Row}
use Rattle.map_types.specs.ElementLists.{IsHead}
use Rattle.map_types.specs.Kind.{is_lru}
use Rattle.key_hash.specs.Bucket.{bucket_number}
use Rattle.place_words.specs.declared.bucket_part.BucketPart.{BucketPart}
use Rattle.place_words.specs.declared.bucket_part.BucketPart.TheVariants.{Delete, Evict}
use Rattle.place_words.specs.declared.bucket_part.Seen.{Seen}
use Rattle.place_words.specs.declared.history.Part.{Part}
use Rattle.place_words.specs.declared.history.Part.TheVariants as parts
use Rattle.place_words.specs.declared.list_part.GlobalPart.{GlobalPart}
use Rattle.place_words.specs.declared.list_part.GlobalPart.TheVariants as global
use Rattle.place_words.specs.declared.list_part.LocalPart.{LocalPart}
use Rattle.place_words.specs.declared.list_part.LocalPart.TheVariants as local
use Rattle.place_words.specs.declared.list_part.OwnPart.TheVariants as own
use Rattle.place_words.specs.declared.list_part.Stolen.{Stolen}
use Rattle.place_words.specs.declared.list_part.Stolen.TheVariants.{Pending, Nothing}
use Rattle.place_words.specs.declared.visits.Look.{Look}
use Rattle.place_words.specs.declared.visits.ShrinkNote.{ShrinkNote}
use Rattle.place_words.specs.declared.visits.Try.{Try}
use Rattle.place_words.specs.declared.visits.Visit.{Visit}
use Rattle.place_words.specs.Buckets.{IsPresentWith}
use Rattle.place_words.specs.Histories.{Content, in_locals, marks}
use Rattle.place_words.specs.Locals.{LocalLists}
use Rattle.place_words.specs.Locks.{lock_named}
use Rattle.place_words.specs.Sets.{has_row}
use Rattle.place_words.specs.Shrinking.{freed}
use Rattle.place_words.specs.Takings.{probes_of, rows_brought, listed_rows, freed_by, ends_flushed}
use Rattle.place_words.specs.Turns.{on_lock, on_bucket_of, ring}
use Rattle.place_table.specs.declared.view.Turned.{Turned}
use Rattle.place_table.specs.Calls.{Called}
use Rattle.place_table.specs.Passes.{PassView, TableView}
use Rattle.place_table.specs.Views.{bit_seen, has_all}
use Rattle.refusals.specs.Made.{lay, left, bodies_in, free_in, Did}

-- Bits

-- The system call's lookup made one turn, which sets no bit; and where the pass has all CPUs, each bit is known as it was before.
abbrev pub SystemLookupSetsNone : Type 0
SystemLookupSetsNone =
    (t : TableView) (before after : PassView) (key : List ℕ) (reply : Reply) (called : Called t before after (verbs.Lookup Sys key) reply)
    → (step : Turned) × (called.steps ≡ step ∷ []) × (marks t.shape step.entry.part ≡ [])
    × (has_all before.view ≡ true → (e : ℕ) → bit_seen e after.view.bits ≡ bit_seen e before.view.bits)

-- A program's lookup that answers a value made one turn, which sets the bit of the element that has the key; and where the pass has all
-- CPUs, that bit is known as set.
abbrev pub ProgramLookupSetsIt : Type 0
ProgramLookupSetsIt =
    (t : TableView) (before after : PassView) (key bytes : List ℕ) → is_lru t.shape.kind ≡ true → (called : Called t before after (verbs.Lookup Prog key) (Value bytes))
    → (e : ℕ) × (step : Turned) × (called.steps ≡ step ∷ []) × (marks t.shape step.entry.part ≡ e ∷ [])
    × (has_all before.view ≡ true → bit_seen e after.view.bits ≡ Some true)
    × IsPresentWith key (bodies_in (lay t.shape step)) (λ body. body.element ≡ e)

-- Deletes

-- A delete that is done took the key's element out of the key's bucket in its first turn, and in its last one put it at the head of a
-- free list.
abbrev pub DeletedIsFreed : Type 0
DeletedIsFreed =
    (t : TableView) (before after : PassView) (key : List ℕ) → is_lru t.shape.kind ≡ true → (called : Called t before after (verbs.Delete key) Done)
    → (e : ℕ) × (first : Turned) × (others : List Turned) × (last : Turned) × (called.steps ≡ first ∷ (others ++ last ∷ []))
    × Did t.shape before.cpu first (on_bucket_of t.shape key (Delete key (Some e))) × IsHead e (free_in (left t.shape last))

-- Where CPUs share lists and a delete made three turns, it looked for its element on local lists in the second and found it moved on; and
-- the last turn of those lists that put the element on pending or took it off was a flush.
abbrev pub MovedOnWasFlushed : Type 0
MovedOnWasFlushed =
    (t : TableView) (before after : PassView) (key : List ℕ) → is_lru t.shape.kind ≡ true → t.shape.common ≡ true → (called : Called t before after (verbs.Delete key) Done)
    → (first second third : Turned) → called.steps ≡ first ∷ second ∷ third ∷ []
    → (e : ℕ) × (on : ℕ) × Did t.shape before.cpu first (on_bucket_of t.shape key (Delete key (Some e)))
    × Did t.shape before.cpu second (on_lock (Local on) (parts.Local (local.Push e false))) × IsTrue (ends_flushed e false second.earlier)

-- Updates that find no element

-- whether a theft got nothing
abbrev pub found_nothing : Stolen → Bool
found_nothing Nothing = true
found_nothing stolen = false

-- the CPU in whose local lists a turn looked for an element and found none
abbrev pub local_cpu : DomainId → List ℕ
local_cpu (Local cpu) = cpu ∷ []
local_cpu lock = []

abbrev pub cpus_tried_by : DomainId → LocalPart → List ℕ
cpus_tried_by lock (local.Steal got first second) = if found_nothing got then local_cpu lock else []
cpus_tried_by lock part = []

abbrev pub cpus_tried_in : DomainId → Part → List ℕ
cpus_tried_in lock (parts.Local part) = cpus_tried_by lock part
cpus_tried_in lock part = []

-- the turn of the global lists moved nothing over from free, and freed nothing
abbrev pub GainsNothingThere : GlobalPart → Type 0
GainsNothingThere (global.Turn flushed active inactive free shrink) = free ++ freed_by shrink ≡ []
GainsNothingThere (global.Push e) = ⊥

abbrev pub GainsNothing : Part → Type 0
GainsNothing (parts.Global part) = GainsNothingThere part
GainsNothing part = ⊥

-- Where CPUs share lists, an update that answers ENOMEM tells a turn of the global lists that moved nothing over from free and freed
-- nothing, then one of its CPU's local lists, which were these, and after that a look for an element in the local lists of each CPU, in one
-- whole round from the CPU on at which the next theft was to start, and none was found.
abbrev pub NoneAfterARound : Type 0
NoneAfterARound =
    (t : TableView) (before after : PassView) (side : Side) (flags : ℕ) (key value : List ℕ) → is_lru t.shape.kind ≡ true → t.shape.common ≡ true
    → (called : Called t before after (verbs.Update side flags key value) (Refused Enomem))
    → (front : List Turned) × (global_turn : Turned) × (local_turn : Turned) × (thefts : List Turned) × (lists : LocalLists)
    × (called.told ≡ front ++ global_turn ∷ local_turn ∷ thefts)
    × GainsNothing global_turn.entry.part
    × (lock_named t.shape local_turn.lock ≡ Local before.cpu) × (lay t.shape local_turn ≡ in_locals lists)
    × (flat_map (λ (told : Turned). cpus_tried_in (lock_named t.shape told.lock) told.entry.part) thefts ≡ ring lists.steal t.shape.cpus)

-- Where a CPU has lists of its own, such an update ends with a turn of those in which a shrink was made that freed nothing.
abbrev pub NoneAfterAShrink : Type 0
NoneAfterAShrink =
    (t : TableView) (before after : PassView) (side : Side) (flags : ℕ) (key value : List ℕ) → is_lru t.shape.kind ≡ true → t.shape.common ≡ false
    → (called : Called t before after (verbs.Update side flags key value) (Refused Enomem))
    → (others : List Turned) × (last : Turned) × (hash : ℕ) × (active : List Visit) × (inactive : List Visit) × (note : ShrinkNote)
    × (called.steps ≡ others ++ last ∷ []) × (freed note.looks note.forced ≡ [])
    × Did t.shape before.cpu last (on_lock (CpuLru before.cpu) (parts.Own (own.Turn hash active inactive (Some note) None)))

-- Lists

-- An eviction that an update made is a turn of the bucket of the hash that its element's row has on the list of a later turn.
abbrev pub EvictionsGoByTheHash : Type 0
EvictionsGoByTheHash =
    (t : TableView) (before after : PassView) (side : Side) (flags : ℕ) (key value : List ℕ) (reply : Reply) → is_lru t.shape.kind ≡ true
    → (called : Called t before after (verbs.Update side flags key value) reply)
    → (front back : List Turned) (step : Turned) (e : ℕ) (seen : Seen) → called.told ≡ front ++ step ∷ back → step.entry.part ≡ parts.Bucket (Evict e seen)
    → (between : List Turned) × (list : Turned) × (others : List Turned) × (row : Row) × (back ≡ between ++ list ∷ others)
    × (find (λ row. row.element == e) (rows_brought list.entry.part ++ listed_rows (lay t.shape list)) ≡ Some row)
    × (lock_named t.shape step.lock ≡ Bucket (bucket_number row.hash t.shape.buckets))

-- how many evictions a part is
abbrev pub evicted_in_bucket : BucketPart → ℕ
evicted_in_bucket (Evict e seen) = 1
evicted_in_bucket part = 0

abbrev pub evicted_in : Part → ℕ
evicted_in (parts.Bucket part) = evicted_in_bucket part
evicted_in part = 0

-- An update tells as many evictions as its turns of lists tell probes.
abbrev pub ProbesAreTurns : Type 0
ProbesAreTurns =
    (t : TableView) (before after : PassView) (side : Side) (flags : ℕ) (key value : List ℕ) (reply : Reply) → is_lru t.shape.kind ≡ true
    → (called : Called t before after (verbs.Update side flags key value) reply)
    → sum_by (λ (told : Turned). evicted_in told.entry.part) called.told ≡ sum_by (λ (told : Turned). length (probes_of told.entry.part)) called.told

-- what is pending there
abbrev pub pending_in : Content → List Row
pending_in (in_locals lists) = lists.pending
pending_in lies = []

-- what a refill of local lists found pending there, the last first
abbrev pub refilled_local : LocalPart → List Row → List Row
refilled_local (local.Refill hash flushed gained got) pending = reverse pending
refilled_local part pending = []

abbrev pub refilled : Part → Content → List Row
refilled (parts.Local part) lies = refilled_local part (pending_in lies)
refilled part lies = []

-- What an update tells that it flushed to the global lists is what was pending on the local lists that it refilled, the last first, each
-- element with the hash of its row.
abbrev pub FlushedKeepTheirHashes : Type 0
FlushedKeepTheirHashes =
    (t : TableView) (before after : PassView) (side : Side) (flags : ℕ) (key value : List ℕ) (reply : Reply) → is_lru t.shape.kind ≡ true
    → (called : Called t before after (verbs.Update side flags key value) reply)
    → flat_map (λ (x : Turned). rows_brought x.entry.part) called.told ≡ flat_map (λ (x : Turned). refilled x.entry.part (lay t.shape x)) called.told

-- What an update tells that it stole from pending isn't pending there after that turn.
abbrev pub StolenIsGone : Type 0
StolenIsGone =
    (t : TableView) (before after : PassView) (side : Side) (flags : ℕ) (key value : List ℕ) (reply : Reply) (called : Called t before after (verbs.Update side flags key value) reply)
    → (front back : List Turned) (told : Turned) (e : ℕ) (first : List Look) (second : List Try) → called.told ≡ front ++ told ∷ back
    → told.entry.part ≡ parts.Local (local.Steal (Pending e) first second) → IsFalse (has_row e (pending_in (left t.shape told)))
