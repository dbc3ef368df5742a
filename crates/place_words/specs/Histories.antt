-- What lies under each lock of a map, of any kind, after the turns of its history, which histories are legal, and what a
-- turn does to the bits of elements.
use Rattle.std.specs.Prelude.{ℕ, Bool, List, [], ◌∷◌, ◌++◌, map, Option, None, Some, MatchOption, option_map, unwrap_or, if◌then◌else◌}
use Rattle.map_types.specs.declared.attr.Shape.{Shape}
use Rattle.map_types.specs.declared.kind.DomainId.{DomainId}
use Rattle.map_types.specs.declared.kind.DomainId.TheVariants.{Local, Global, CpuLru, Bucket, Freelist}
use Rattle.map_types.specs.Kind.{is_lru}
use Rattle.map_types.specs.Stored.{Stored}
use Rattle.place_words.specs.declared.history.Entry.{Entry}
use Rattle.place_words.specs.declared.history.Part.{Part}
use Rattle.place_words.specs.declared.history.Part.TheVariants as parts
use Rattle.place_words.specs.declared.list_part.GlobalPart.{GlobalPart}
use Rattle.place_words.specs.declared.list_part.GlobalPart.TheVariants as global
use Rattle.place_words.specs.declared.list_part.LocalPart.{LocalPart}
use Rattle.place_words.specs.declared.list_part.LocalPart.TheVariants as local
use Rattle.place_words.specs.declared.list_part.OwnPart.{OwnPart}
use Rattle.place_words.specs.declared.list_part.OwnPart.TheVariants as own
use Rattle.place_words.specs.declared.visits.Look.{Look}
use Rattle.place_words.specs.declared.visits.ShrinkNote.{ShrinkNote}
use Rattle.place_words.specs.declared.visits.Visit.{Visit}
use Rattle.place_words.specs.Buckets.{AllowsInBucket, bucket_after, bucket_marks}
use Rattle.place_words.specs.Freelists.{AllowsOnFreelist, freelist_after}
use Rattle.place_words.specs.Openings.{opening_free}
use Rattle.place_words.specs.Rotation.{visited_elements}
use Rattle.place_words.specs.Sets.{ListSet, new_set, AllowsOnOwn, own_after}
use Rattle.place_words.specs.Locals.{LocalLists, new_locals, AllowsOnLocal, local_after}
use Rattle.place_words.specs.Globals.{AllowsOnGlobal, global_after, flush_visit}

-- What lies under a lock: the elements of a bucket, the stack of a freelist, a CPU's local lists, the global lists, or a
-- CPU's own lists.
pub data Content : Type 0 where
  in_bucket : List Stored → Content
  on_freelist : List ℕ → Content
  in_locals : LocalLists → Content
  in_global : ListSet → Content
  in_own : ListSet → Content

-- the bucket that lies there, none where something else does; and so on
abbrev pub bucket_in : Content → Option (List Stored)
bucket_in (in_bucket bodies) = Some bodies
bucket_in (on_freelist stack) = None
bucket_in (in_locals lists) = None
bucket_in (in_global set) = None
bucket_in (in_own set) = None

abbrev pub freelist_in : Content → Option (List ℕ)
freelist_in (in_bucket bodies) = None
freelist_in (on_freelist stack) = Some stack
freelist_in (in_locals lists) = None
freelist_in (in_global set) = None
freelist_in (in_own set) = None

abbrev pub locals_in : Content → Option LocalLists
locals_in (in_bucket bodies) = None
locals_in (on_freelist stack) = None
locals_in (in_locals lists) = Some lists
locals_in (in_global set) = None
locals_in (in_own set) = None

abbrev pub global_in : Content → Option ListSet
global_in (in_bucket bodies) = None
global_in (on_freelist stack) = None
global_in (in_locals lists) = None
global_in (in_global set) = Some set
global_in (in_own set) = None

abbrev pub own_in : Content → Option ListSet
own_in (in_bucket bodies) = None
own_in (on_freelist stack) = None
own_in (in_locals lists) = None
own_in (in_global set) = None
own_in (in_own set) = Some set

-- where a CPU's turn may be this part: each sort of part under its sort of lock alone
abbrev pub Allows : Shape → ℕ → Part → Content → Type 0
Allows shape cpu (parts.Bucket part) content = MatchOption (bucket_in content) ⊥ (AllowsInBucket shape cpu part)
Allows shape cpu (parts.Free part) content = MatchOption (freelist_in content) ⊥ (AllowsOnFreelist part)
Allows shape cpu (parts.Local part) content = MatchOption (locals_in content) ⊥ (AllowsOnLocal shape part)
Allows shape cpu (parts.Global part) content = MatchOption (global_in content) ⊥ (AllowsOnGlobal part)
Allows shape cpu (parts.Own part) content = MatchOption (own_in content) ⊥ (AllowsOnOwn part)

-- what lies there after a part that was allowed
abbrev pub content_after : Shape → ℕ → Part → Content → Content
content_after shape cpu (parts.Bucket part) content =
    unwrap_or (option_map (λ bodies. in_bucket (bucket_after shape cpu part bodies)) (bucket_in content)) content
content_after shape cpu (parts.Free part) content =
    unwrap_or (option_map (λ stack. on_freelist (freelist_after part stack)) (freelist_in content)) content
content_after shape cpu (parts.Local part) content =
    unwrap_or (option_map (λ lists. in_locals (local_after part lists)) (locals_in content)) content
content_after shape cpu (parts.Global part) content =
    unwrap_or (option_map (λ set. in_global (global_after part set)) (global_in content)) content
content_after shape cpu (parts.Own part) content =
    unwrap_or (option_map (λ set. in_own (own_after part set)) (own_in content)) content

-- What lies there at first: buckets and local lists are empty, and a CPU steals first from itself. Freelists have their
-- shares without the spares, the global lists have every element free, and own lists have their runs.
abbrev pub opening_content : Shape → DomainId → Content
opening_content shape (Local cpu) = in_locals (new_locals cpu)
opening_content shape Global = in_global (new_set (opening_free shape Global))
opening_content shape (CpuLru cpu) = in_own (new_set (opening_free shape (CpuLru cpu)))
opening_content shape (Bucket bucket) = in_bucket []
opening_content shape (Freelist cpu) = on_freelist (opening_free shape (Freelist cpu))

-- from some content on, what lies there after the turns in order, and whether each of them may be made at its place
unfoldable pub replayed : Shape → Content → List Entry → Content
replayed shape content [] = content
replayed shape content (entry ∷ entries) = replayed shape (content_after shape entry.cpu entry.part content) entries

unfoldable pub AllAllowed : Shape → Content → List Entry → Type 0
AllAllowed shape content [] = Unit {0}
AllAllowed shape content (entry ∷ entries) =
    Allows shape entry.cpu entry.part content × AllAllowed shape (content_after shape entry.cpu entry.part content) entries

-- what lies under a lock after the turns of its history
abbrev pub content : Shape → DomainId → List Entry → Content
content shape lock entries = replayed shape (opening_content shape lock) entries

-- a history replays by the kernel's rules
abbrev pub IsLegal : Shape → DomainId → List Entry → Type 0
IsLegal shape lock entries = AllAllowed shape (opening_content shape lock) entries

-- the elements whose bits a part sets: none on a map that doesn't evict
abbrev pub marks : Shape → Part → List ℕ
marks shape (parts.Bucket part) = if is_lru shape.kind then bucket_marks part else []
marks shape (parts.Free part) = []
marks shape (parts.Local part) = []
marks shape (parts.Global part) = []
marks shape (parts.Own part) = []

-- The bits that a part tells of what it cleared, in order: of each element that it flushed, that a rotation visited, and
-- that a shrink looked at. A forced shrink asks for no bit.
abbrev pub look_visit : Look → Visit
look_visit look = record { element = look.element; bit = look.bit }

abbrev pub looks_told : Option ShrinkNote → List Visit
looks_told None = []
looks_told (Some note) = map look_visit note.looks

abbrev pub global_bits : GlobalPart → List Visit
global_bits (global.Turn flushed active inactive free shrink) = map flush_visit flushed ++ (active ++ (inactive ++ looks_told shrink))
global_bits (global.Push e) = []

abbrev pub own_bits : OwnPart → List Visit
own_bits (own.Turn hash active inactive shrink got) = active ++ (inactive ++ looks_told shrink)
own_bits (own.Push e) = []

abbrev pub bits_cleared : Part → List Visit
bits_cleared (parts.Bucket part) = []
bits_cleared (parts.Free part) = []
bits_cleared (parts.Local part) = []
bits_cleared (parts.Global part) = global_bits part
bits_cleared (parts.Own part) = own_bits part

-- The bits that a part tells of what it only read: a theft's walk that spares set bits. Those of a refill are told by the
-- turn of the global lists inside it.
abbrev pub local_reads : LocalPart → List Visit
local_reads (local.Pop hash e) = []
local_reads (local.Refill hash flushed gained got) = []
local_reads (local.Steal got first second) = map look_visit first
local_reads (local.Add hash e cursor) = []
local_reads (local.Push e done) = []

abbrev pub bits_read : Part → List Visit
bits_read (parts.Bucket part) = []
bits_read (parts.Free part) = []
bits_read (parts.Local part) = local_reads part
bits_read (parts.Global part) = []
bits_read (parts.Own part) = []

-- Besides, a part clears the bit of the element that it makes pending or inactive for a new key, and of one that is pushed
-- free. What is evicted, and what moves from one free list to another, keeps its bit.
abbrev pub got_cleared : Option ℕ → List ℕ
got_cleared None = []
got_cleared (Some e) = e ∷ []

abbrev pub push_cleared : ℕ → Bool → List ℕ
push_cleared e done = if done then e ∷ [] else []

abbrev pub local_also : LocalPart → List ℕ
local_also (local.Pop hash e) = e ∷ []
local_also (local.Refill hash flushed gained got) = got_cleared got
local_also (local.Steal got first second) = []
local_also (local.Add hash e cursor) = e ∷ []
local_also (local.Push e done) = push_cleared e done

abbrev pub global_also : GlobalPart → List ℕ
global_also (global.Turn flushed active inactive free shrink) = []
global_also (global.Push e) = e ∷ []

abbrev pub own_also : OwnPart → List ℕ
own_also (own.Turn hash active inactive shrink got) = got_cleared got
own_also (own.Push e) = e ∷ []

abbrev pub also_cleared : Part → List ℕ
also_cleared (parts.Bucket part) = []
also_cleared (parts.Free part) = []
also_cleared (parts.Local part) = local_also part
also_cleared (parts.Global part) = global_also part
also_cleared (parts.Own part) = own_also part

-- all elements whose bits a part clears
abbrev pub clears : Part → List ℕ
clears part = visited_elements (bits_cleared part) ++ also_cleared part
