-- How an element is taken for a new key of a map that evicts, and how one is freed: the turns in the order in which their
-- locks are given back. The rules are those of the kernel's `bpf_common_lru_pop_free`, `bpf_percpu_lru_pop_free`,
-- `bpf_common_lru_push_free`, `bpf_percpu_lru_push_free` and `htab_lru_map_delete_node`.
use Rattle.std.specs.Prelude.{◌≡◌, ◌⊎◌, ℕ, ◌+◌, ◌==◌, ◌/◌, Bool, true, false, ◌&&◌, IsTrue, MatchBool, MatchOption, List, [], ◌∷◌, ◌++◌, map, reverse, find, option_map, unwrap_or, Option, None, Some, if◌then◌else◌}
use Rattle.std.specs.List.{list_any, flat_map}
use Rattle.map_types.specs.declared.attr.Shape.{Shape}
use Rattle.map_types.specs.declared.kind.DomainId.{DomainId}
use Rattle.map_types.specs.declared.kind.DomainId.TheVariants.{Local, Global, CpuLru, Bucket}
use Rattle.key_hash.specs.Bucket.{bucket_number}
use Rattle.place_words.specs.declared.bucket_part.BucketPart.TheVariants.{Evict}
use Rattle.place_words.specs.declared.history.Entry.{Entry}
use Rattle.place_words.specs.declared.history.Part.{Part}
use Rattle.place_words.specs.declared.history.Part.TheVariants as parts
use Rattle.place_words.specs.declared.list_part.GlobalPart.{GlobalPart}
use Rattle.place_words.specs.declared.list_part.GlobalPart.TheVariants as global
use Rattle.place_words.specs.declared.list_part.LocalPart.{LocalPart}
use Rattle.place_words.specs.declared.list_part.LocalPart.TheVariants as local
use Rattle.place_words.specs.declared.list_part.OwnPart.{OwnPart}
use Rattle.place_words.specs.declared.list_part.OwnPart.TheVariants as own
use Rattle.place_words.specs.declared.list_part.Stolen.{Stolen}
use Rattle.place_words.specs.declared.list_part.Stolen.TheVariants.{Free, Pending, Nothing}
use Rattle.map_types.specs.declared.row.Row.{Row}
use Rattle.place_words.specs.declared.visits.Flush.{Flush}
use Rattle.place_words.specs.declared.visits.Look.{Look}
use Rattle.place_words.specs.declared.visits.ShrinkNote.{ShrinkNote}
use Rattle.place_words.specs.declared.visits.Try.{Try}
use Rattle.place_words.specs.declared.visits.Visit.{Visit}
use Rattle.place_words.specs.Histories.{Content, in_bucket, on_freelist, in_locals, in_global, in_own}
use Rattle.place_words.specs.Globals.{flushed_rows, flush_visit}
use Rattle.place_words.specs.Locals.{LocalLists}
use Rattle.place_words.specs.Shrinking.{freed}
use Rattle.place_words.specs.Turns.{Turn, TurnAt, turns_of, found, on_lock, ring}

-- the rows that are listed there
abbrev pub listed_rows : Content → List Row
listed_rows (in_bucket bodies) = []
listed_rows (on_freelist stack) = []
listed_rows (in_locals lists) = lists.pending
listed_rows (in_global set) = set.lists.active ++ set.lists.inactive
listed_rows (in_own set) = set.lists.active ++ set.lists.inactive

-- the rows that a part brings there before it probes
abbrev pub rows_brought : Part → List Row
rows_brought (parts.Bucket part) = []
rows_brought (parts.Free part) = []
rows_brought (parts.Local part) = []
rows_brought (parts.Global (global.Turn flushed active inactive free shrink)) = flushed_rows flushed
rows_brought (parts.Global (global.Push e)) = []
rows_brought (parts.Own part) = []

-- the probes of walks, in their order: of a look whose bit wasn't set, and of each try
abbrev pub look_probes : Look → List Try
look_probes look = unwrap_or (option_map (λ seen. (record { element = look.element; probed = seen }) ∷ []) look.probed) []

abbrev pub walk_probes : List Look → List Try → List Try
walk_probes looks tries = flat_map look_probes looks ++ tries

abbrev pub shrink_probes : Option ShrinkNote → List Try
shrink_probes None = []
shrink_probes (Some note) = walk_probes note.looks note.forced

-- the probes of a list turn
abbrev pub local_probes : LocalPart → List Try
local_probes (local.Pop hash e) = []
local_probes (local.Refill hash flushed gained got) = []
local_probes (local.Steal got first second) = walk_probes first second
local_probes (local.Add hash e cursor) = []
local_probes (local.Push e done) = []

abbrev pub global_probes : GlobalPart → List Try
global_probes (global.Turn flushed active inactive free shrink) = shrink_probes shrink
global_probes (global.Push e) = []

abbrev pub own_probes : OwnPart → List Try
own_probes (own.Turn hash active inactive shrink got) = shrink_probes shrink
own_probes (own.Push e) = []

abbrev pub probes_of : Part → List Try
probes_of (parts.Bucket part) = []
probes_of (parts.Free part) = []
probes_of (parts.Local part) = local_probes part
probes_of (parts.Global part) = global_probes part
probes_of (parts.Own part) = own_probes part

-- the stored hash of an element, and a turn of the bucket of a hash
abbrev pub stored_hash : ℕ → List Row → Option ℕ
stored_hash e rows = option_map (λ row. row.hash) (find (λ row. row.element == e) rows)

abbrev pub evicts : Shape → Try → ℕ → Turn
evicts shape probe hash =
    on_lock (Bucket (bucket_number hash shape.buckets)) (parts.Bucket (Evict probe.element probe.probed))

-- Each probe in order is answered by a turn of the bucket of the stored hash, among these rows, of its element.
abbrev pub Chase : Shape → List Row → List Try → List Turn → Type 0
Chase shape rows [] [] = Unit {0}
Chase shape rows [] (turn ∷ turns) = ⊥
Chase shape rows (probe ∷ probes) [] = ⊥
Chase shape rows (probe ∷ probes) (turn ∷ turns) =
    (option_map (evicts shape probe) (stored_hash probe.element rows) ≡ Some turn) × Chase shape rows probes turns

-- A turn of a list lock with the turns of its probes, which are given back before it.
pub record IsChased (shape : Shape) (lock : DomainId) (part : Part) (turns : List TurnAt) : Type 0 where
  pub probing : List TurnAt
  pub last : TurnAt
  pub turns_are : turns ≡ probing ++ last ∷ []
  pub last_is : last.turn ≡ on_lock lock part
  pub chase : Chase shape (rows_brought part ++ listed_rows (found shape last)) (probes_of part) (turns_of probing)

-- On a map whose CPUs have list sets of their own: one turn of the own set.
pub record TakesOwn (shape : Shape) (cpu hash : ℕ) (got : Option ℕ) (turns : List TurnAt) : Type 0 where
  pub active : List Visit
  pub inactive : List Visit
  pub shrink : Option ShrinkNote
  pub chased : IsChased shape (CpuLru cpu) (parts.Own (own.Turn hash active inactive shrink got)) turns

-- On a map whose CPUs share lists: the head of the own local free list.
abbrev pub TakesFree : ℕ → ℕ → Option ℕ → List TurnAt → Type 0
TakesFree cpu hash None turns = ⊥
TakesFree cpu hash (Some e) turns = turns_of turns ≡ on_lock (Local cpu) (parts.Local (local.Pop hash e)) ∷ []

-- the elements that a shrink freed
abbrev pub freed_by : Option ShrinkNote → List ℕ
freed_by None = []
freed_by (Some note) = freed note.looks note.forced

-- Or a refill: a turn of the global lists inside one of the own local lists, which were these. All that is pending is
-- flushed with its hashes, and what the global turn moved off free and what it freed comes to the local free list.
pub record Refills (shape : Shape) (cpu hash : ℕ) (lists : LocalLists) (got : Option ℕ) (turns : List TurnAt) : Type 0 where
  pub flushed : List Flush
  pub active : List Visit
  pub inactive : List Visit
  pub free : List ℕ
  pub shrink : Option ShrinkNote
  pub inner : List TurnAt
  pub last : TurnAt
  pub turns_are : turns ≡ inner ++ last ∷ []
  pub chased : IsChased shape Global (parts.Global (global.Turn flushed active inactive free shrink)) inner
  pub last_is : last.turn ≡ on_lock (Local cpu) (parts.Local (local.Refill hash (map flush_visit flushed) (free ++ freed_by shrink) got))
  pub found_there : found shape last ≡ in_locals lists
  pub with_hashes : flushed_rows flushed ≡ reverse lists.pending

-- the element that was stolen, and the CPU after one in the ring
abbrev pub stolen_element : Stolen → Option ℕ
stolen_element (Free e) = Some e
stolen_element (Pending e) = Some e
stolen_element Nothing = None

abbrev pub ring_next : ℕ → ℕ → ℕ
ring_next cpu cpus = if cpu + 1 == cpus then 0 else cpu + 1

-- what is stolen from a CPU comes to the own pending list, and the next theft starts at the CPU after that one
abbrev pub brings_home : Shape → ℕ → ℕ → ℕ → ℕ → Turn
brings_home shape cpu hash from e = on_lock (Local cpu) (parts.Local (local.Add hash e (ring_next from shape.cpus)))

-- A round of thefts over the local lists of these CPUs, up to the first that gives an element. That one is brought home.
abbrev pub Steals : Shape → ℕ → ℕ → List ℕ → Option ℕ → List TurnAt → Type 0
Steals shape cpu hash [] got turns = (turns ≡ []) × (got ≡ None)
Steals shape cpu hash (from ∷ others) got turns =
    (tried : List TurnAt) × (rest : List TurnAt) × (stolen : Stolen) × (first : List Look) × (second : List Try) × (turns ≡ tried ++ rest)
    × IsChased shape (Local from) (parts.Local (local.Steal stolen first second)) tried
    × MatchOption (stolen_element stolen)
    (Steals shape cpu hash others got rest)
    (λ e. (got ≡ Some e) × (turns_of rest ≡ brings_home shape cpu hash from e ∷ []))

-- A refill, and where that got nothing, a round of thefts from the own cursor on.
pub record TakesByRefill (shape : Shape) (cpu hash : ℕ) (got : Option ℕ) (turns : List TurnAt) : Type 0 where
  pub lists : LocalLists
  pub gave : Option ℕ
  pub refilling : List TurnAt
  pub stealing : List TurnAt
  pub turns_are : turns ≡ refilling ++ stealing
  pub refills : Refills shape cpu hash lists gave refilling
  pub steals : MatchOption gave
      (Steals shape cpu hash (ring lists.steal shape.cpus) got stealing)
      (λ e. (stealing ≡ []) × (got ≡ Some e))

-- A CPU takes an element for a key of this hash, or finds none.
abbrev pub Acquires : Shape → ℕ → ℕ → Option ℕ → List TurnAt → Type 0
Acquires shape cpu hash got turns =
    MatchBool shape.common
    (TakesFree cpu hash got turns ⊎ TakesByRefill shape cpu hash got turns)
    (TakesOwn shape cpu hash got turns)

-- Whether the last of these parts that put an element on pending or took it off was a refill that flushed it. `before` is
-- the answer where no part did either. A theft from the free list does neither, nor does a push that finds the element gone.
abbrev pub is_one : ℕ → Option ℕ → Bool
is_one e None = false
is_one e (Some x) = x == e

abbrev pub stolen_pending : Stolen → Option ℕ
stolen_pending (Free e) = None
stolen_pending (Pending e) = Some e
stolen_pending Nothing = None

abbrev pub has_visit : ℕ → List Visit → Bool
has_visit e visits = list_any (λ visit. visit.element == e) visits

abbrev pub flushed_by_local : ℕ → LocalPart → Bool → Bool
flushed_by_local e (local.Pop hash element) before = if element == e then false else before
flushed_by_local e (local.Refill hash flushed gained got) before = if has_visit e flushed then true else (if is_one e got then false else before)
flushed_by_local e (local.Steal got first second) before = if is_one e (stolen_pending got) then false else before
flushed_by_local e (local.Add hash element cursor) before = if element == e then false else before
flushed_by_local e (local.Push element done) before = if done && (element == e) then false else before

abbrev pub flushed_by : ℕ → Part → Bool → Bool
flushed_by e (parts.Local part) before = flushed_by_local e part before
flushed_by e (parts.Bucket part) before = before
flushed_by e (parts.Free part) before = before
flushed_by e (parts.Global part) before = before
flushed_by e (parts.Own part) before = before

abbrev pub ends_flushed : ℕ → Bool → List Entry → Bool
ends_flushed e before [] = before
ends_flushed e before (entry ∷ entries) = ends_flushed e (flushed_by e entry.part before) entries

-- The element was pending and is freed there. Or it isn't pending where its home was read, since a refill flushed it, and is
-- freed on the global lists. Or its home was the global lists already.
pub record FreesPending (e : ℕ) (turns : List TurnAt) : Type 0 where
  pub on : ℕ
  pub turns_are : turns_of turns ≡ on_lock (Local on) (parts.Local (local.Push e true)) ∷ []

abbrev pub freed_globally : ℕ → Turn
freed_globally e = on_lock Global (parts.Global (global.Push e))

pub record FreesFlushed (e : ℕ) (turns : List TurnAt) : Type 0 where
  pub on : ℕ
  pub first : TurnAt
  pub second : TurnAt
  pub turns_are : turns ≡ first ∷ second ∷ []
  pub first_is : first.turn ≡ on_lock (Local on) (parts.Local (local.Push e false))
  pub was_flushed : IsTrue (ends_flushed e false first.earlier)
  pub second_is : second.turn ≡ freed_globally e

-- the CPU in whose own set an element lives
abbrev pub set_of : Shape → ℕ → ℕ
set_of shape e = e / (shape.elements / shape.cpus)

-- an element is freed
abbrev pub Frees : Shape → ℕ → List TurnAt → Type 0
Frees shape e turns =
    MatchBool shape.common
    (FreesPending e turns ⊎ (FreesFlushed e turns ⊎ (turns_of turns ≡ freed_globally e ∷ [])))
    (turns_of turns ≡ on_lock (CpuLru (set_of shape e)) (parts.Own (own.Push e)) ∷ [])
