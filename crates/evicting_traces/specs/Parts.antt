-- What turns tell, if they are those that a call asks for.
use Rattle.std.specs.Prelude.{ℕ, ◌==◌, ◌&&◌, Bool, true, false, List, [], ◌∷◌, Option, None, Some, bytes_eq, if◌then◌else◌}
use Rattle.map_types.specs.declared.attr.Shape.{Shape}
use Rattle.map_types.specs.declared.kind.DomainId.{DomainId}
use Rattle.map_types.specs.declared.kind.DomainId.TheVariants.{Local, Global, CpuLru, Bucket, Freelist}
use Rattle.map_types.specs.declared.kind.Side.{Side}
use Rattle.key_hash.specs.Bucket.{bucket_number}
use Rattle.place_words.specs.declared.bucket_part.BucketPart.{BucketPart}
use Rattle.place_words.specs.declared.bucket_part.BucketPart.TheVariants as bucket
use Rattle.place_words.specs.declared.bucket_part.Put.{Put}
use Rattle.place_words.specs.declared.bucket_part.Seen.{Seen}
use Rattle.place_words.specs.declared.bucket_part.Seen.TheVariants.{Removed, Held}
use Rattle.place_words.specs.declared.history.Part.{Part}
use Rattle.place_words.specs.declared.history.Part.TheVariants as parts
use Rattle.place_words.specs.declared.list_part.GlobalPart.{GlobalPart}
use Rattle.place_words.specs.declared.list_part.GlobalPart.TheVariants as global
use Rattle.place_words.specs.declared.list_part.LocalPart.{LocalPart}
use Rattle.place_words.specs.declared.list_part.LocalPart.TheVariants as local
use Rattle.place_words.specs.declared.list_part.OwnPart.{OwnPart}
use Rattle.place_words.specs.declared.list_part.OwnPart.TheVariants as own
use Rattle.place_words.specs.declared.list_part.Stolen.{Stolen}
use Rattle.place_words.specs.declared.visits.Flush.{Flush}
use Rattle.place_words.specs.declared.visits.Look.{Look}
use Rattle.place_words.specs.declared.visits.ShrinkNote.{ShrinkNote}
use Rattle.place_words.specs.declared.visits.Try.{Try}
use Rattle.place_words.specs.declared.visits.Visit.{Visit}
use Rattle.place_words.specs.Locks.{is_same_lock}
use Rattle.place_words.specs.Turns.{Turn}
use Rattle.replay_words.specs.declared.note.Note.{Note}
use Rattle.replay_words.specs.declared.note.Note.TheVariants.{Nothing, Probes, Refill}
use Rattle.trace_check.specs.Reading.{when, same_side}
use Rattle.trace_check.specs.Calls.{same_bool}

-- by the lock, and by the sort of part
abbrev pub on : {A : Type 0} → DomainId → (Part → Option A) → Turn → Option A
on lock says turn = if is_same_lock turn.lock lock then says turn.part else None

abbrev pub of_local : {A : Type 0} → (LocalPart → Option A) → Part → Option A
of_local says (parts.Bucket part) = None
of_local says (parts.Free part) = None
of_local says (parts.Local part) = says part
of_local says (parts.Global part) = None
of_local says (parts.Own part) = None

abbrev pub of_global : {A : Type 0} → (GlobalPart → Option A) → Part → Option A
of_global says (parts.Bucket part) = None
of_global says (parts.Free part) = None
of_global says (parts.Local part) = None
of_global says (parts.Global part) = says part
of_global says (parts.Own part) = None

abbrev pub of_own : {A : Type 0} → (OwnPart → Option A) → Part → Option A
of_own says (parts.Bucket part) = None
of_own says (parts.Free part) = None
of_own says (parts.Local part) = None
of_own says (parts.Global part) = None
of_own says (parts.Own part) = says part

-- the CPU whose local lists these are
abbrev pub local_of : DomainId → Option ℕ
local_of (Local cpu) = Some cpu
local_of Global = None
local_of (CpuLru cpu) = None
local_of (Bucket number) = None
local_of (Freelist cpu) = None

-- whether two rows of visits are one
abbrev pub visit_of : ℕ → Bool → Visit
visit_of e bit = record { element = e; bit = bit }

abbrev pub same_visit : Visit → Visit → Bool
same_visit visit other = (visit.element == other.element) && same_bool visit.bit other.bit

abbrev pub same_visits : List Visit → List Visit → Bool
same_visits [] [] = true
same_visits [] (other ∷ others) = false
same_visits (visit ∷ visits) [] = false
same_visits (visit ∷ visits) (other ∷ others) = same_visit visit other && same_visits visits others

-- turns of local lists: a pop, a refill by these visits that gained these elements, a theft, what was brought home, and a push
abbrev pub popped_in : ℕ → LocalPart → Option ℕ
popped_in hash (local.Pop h e) = when (hash == h) e
popped_in hash (local.Refill h visits gained got) = None
popped_in hash (local.Steal got first second) = None
popped_in hash (local.Add h e cursor) = None
popped_in hash (local.Push e done) = None

abbrev pub refilled_in : ℕ → List Visit → List ℕ → LocalPart → Option (Option ℕ)
refilled_in hash flushed gained (local.Pop h e) = None
refilled_in hash flushed gained (local.Refill h visits elements got) = when (((hash == h) && same_visits flushed visits) && bytes_eq gained elements) got
refilled_in hash flushed gained (local.Steal got first second) = None
refilled_in hash flushed gained (local.Add h e cursor) = None
refilled_in hash flushed gained (local.Push e done) = None

abbrev pub Theft : Type 0
Theft = Stolen × List Look × List Try

abbrev pub stolen_in : LocalPart → Option Theft
stolen_in (local.Pop h e) = None
stolen_in (local.Refill h visits gained got) = None
stolen_in (local.Steal got first second) = Some (got, first, second)
stolen_in (local.Add h e cursor) = None
stolen_in (local.Push e done) = None

abbrev pub added_in : ℕ → ℕ → ℕ → LocalPart → Option (Unit {0})
added_in hash e cursor (local.Pop h x) = None
added_in hash e cursor (local.Refill h visits gained got) = None
added_in hash e cursor (local.Steal got first second) = None
added_in hash e cursor (local.Add h x next) = when (((hash == h) && (e == x)) && (cursor == next)) tt
added_in hash e cursor (local.Push x done) = None

abbrev pub pushed_in : ℕ → Bool → LocalPart → Option (Unit {0})
pushed_in e done (local.Pop h x) = None
pushed_in e done (local.Refill h visits gained got) = None
pushed_in e done (local.Steal got first second) = None
pushed_in e done (local.Add h x cursor) = None
pushed_in e done (local.Push x did) = when ((e == x) && same_bool done did) tt

-- of the global lists, and of a CPU's own: a turn that gives elements, and a push
abbrev pub Giving : Type 0
Giving = List Flush × List Visit × List Visit × List ℕ × Option ShrinkNote

abbrev pub given_in : GlobalPart → Option Giving
given_in (global.Turn flushed active inactive free shrink) = Some (flushed, active, inactive, free, shrink)
given_in (global.Push e) = None

abbrev pub freed_in : ℕ → GlobalPart → Option (Unit {0})
freed_in e (global.Turn flushed active inactive free shrink) = None
freed_in e (global.Push x) = when (e == x) tt

abbrev pub OwnGiving : Type 0
OwnGiving = List Visit × List Visit × Option ShrinkNote × Option ℕ

abbrev pub own_given_in : ℕ → OwnPart → Option OwnGiving
own_given_in hash (own.Turn h active inactive shrink got) = when (hash == h) (active, inactive, shrink, got)
own_given_in hash (own.Push e) = None

abbrev pub own_freed_in : ℕ → OwnPart → Option (Unit {0})
own_freed_in e (own.Turn h active inactive shrink got) = None
own_freed_in e (own.Push x) = when (e == x) tt

-- an update that was offered this
abbrev pub same_offer : Option ℕ → Option ℕ → Bool
same_offer None None = true
same_offer None (Some x) = false
same_offer (Some e) None = false
same_offer (Some e) (Some x) = e == x

abbrev pub put_of : Side → ℕ → List ℕ → List ℕ → Option ℕ → BucketPart → Option Put
put_of side flags key value offer (bucket.Lookup s k got) = None
put_of side flags key value offer (bucket.Update s f k v o put) =
    when ((((same_side side s && (flags == f)) && bytes_eq key k) && bytes_eq value v) && same_offer offer o) put
put_of side flags key value offer (bucket.Delete k _) = None
put_of side flags key value offer (bucket.Take k _) = None
put_of side flags key value offer (bucket.Next k found) = None
put_of side flags key value offer (bucket.First k) = None
put_of side flags key value offer (bucket.Walk remove room result) = None
put_of side flags key value offer (bucket.Evict e probed) = None

-- A bucket's turn in which an element was to be evicted, and whether it is the answer to a probe.
abbrev pub try_of : ℕ → Seen → Try
try_of e probed = record { element = e; probed = probed }

abbrev pub evicted_in : BucketPart → Option Try
evicted_in (bucket.Lookup s k got) = None
evicted_in (bucket.Update s f k v o put) = None
evicted_in (bucket.Delete k _) = None
evicted_in (bucket.Take k _) = None
evicted_in (bucket.Next k found) = None
evicted_in (bucket.First k) = None
evicted_in (bucket.Walk remove room result) = None
evicted_in (bucket.Evict e probed) = Some (try_of e probed)

abbrev pub same_seen : Seen → Seen → Bool
same_seen Removed Removed = true
same_seen Removed (Held cpu) = false
same_seen (Held cpu) Removed = false
same_seen (Held cpu) (Held other) = cpu == other

abbrev pub is_try : Try → Option Try → Bool
is_try probe None = false
is_try probe (Some other) = (probe.element == other.element) && same_seen probe.probed other.probed

abbrev pub evicted : Part → Option Try
evicted (parts.Bucket part) = evicted_in part
evicted (parts.Free part) = None
evicted (parts.Local part) = None
evicted (parts.Global part) = None
evicted (parts.Own part) = None

abbrev pub is_answer : Shape → Try → Option ℕ → Turn → Bool
is_answer shape probe None turn = false
is_answer shape probe (Some hash) turn = is_same_lock turn.lock (Bucket (bucket_number hash shape.buckets)) && is_try probe (evicted turn.part)

-- whether these turns answer the probes, of elements with these hashes, in their order
abbrev pub are_answers : Shape → List Try → List (Option ℕ) → List Turn → Bool
are_answers shape [] hashes [] = true
are_answers shape [] hashes (turn ∷ turns) = false
are_answers shape (probe ∷ probes) hashes [] = false
are_answers shape (probe ∷ probes) [] (turn ∷ turns) = false
are_answers shape (probe ∷ probes) (hash ∷ hashes) (turn ∷ turns) = is_answer shape probe hash turn && are_answers shape probes hashes turns

-- what was noted: the stored hashes of what was probed, and where a round of thefts begins if these were pending
abbrev pub hashes_noted : Note → List (Option ℕ)
hashes_noted Nothing = []
hashes_noted (Probes hashes) = hashes
hashes_noted (Refill hashes steal) = []

abbrev pub steal_noted : List ℕ → Note → Option ℕ
steal_noted pending Nothing = None
steal_noted pending (Probes hashes) = None
steal_noted pending (Refill hashes steal) = when (bytes_eq pending hashes) steal
