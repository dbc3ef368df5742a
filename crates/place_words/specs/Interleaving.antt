-- The one order of all turns of a record, each turned into steps of the core.
use Rattle.std.specs.Prelude.{◌≡◌, ℕ, ◌==◌, nat_lt, Bool, true, false, not, ◌&&◌, IsTrue, List, [], ◌∷◌, ◌++◌, map, length, filter, option_to_list, unwrap_or, Option, None, Some, if◌then◌else◌}
use Rattle.std.specs.List.{flat_map, range_with_len}
use Rattle.map_types.specs.declared.attr.Shape.{Shape}
use Rattle.map_types.specs.declared.kind.DomainId.{DomainId}
use Rattle.map_types.specs.declared.kind.DomainId.TheVariants.{Local, Global, CpuLru, Bucket, Freelist}
use Rattle.map_types.specs.Kind.{is_lru}
use Rattle.map_types.specs.Listed.{elements_of}
use Rattle.place_words.specs.declared.bucket_part.BucketPart.{BucketPart}
use Rattle.place_words.specs.declared.bucket_part.BucketPart.TheVariants.{Lookup, Update, Delete, Take, Next, First, Walk, Evict}
use Rattle.place_words.specs.declared.bucket_part.Put.{Put}
use Rattle.place_words.specs.declared.bucket_part.Put.TheVariants as puts
use Rattle.place_words.specs.declared.bucket_part.Seen.TheVariants.{Removed, Held}
use Rattle.place_words.specs.declared.free_part.FreePart.{FreePart}
use Rattle.place_words.specs.declared.free_part.FreePart.TheVariants.{Pushed, Popped, FoundEmpty}
use Rattle.place_words.specs.declared.history.Entry.{Entry}
use Rattle.place_words.specs.declared.history.LockHistory.{LockHistory}
use Rattle.place_words.specs.declared.history.Part.{Part}
use Rattle.place_words.specs.declared.history.Part.TheVariants as parts
use Rattle.place_words.specs.declared.home.Home.TheVariants as homes
use Rattle.place_words.specs.declared.list_part.GlobalPart.{GlobalPart}
use Rattle.place_words.specs.declared.list_part.GlobalPart.TheVariants as global
use Rattle.place_words.specs.declared.list_part.LocalPart.{LocalPart}
use Rattle.place_words.specs.declared.list_part.LocalPart.TheVariants as local
use Rattle.place_words.specs.declared.list_part.OwnPart.{OwnPart}
use Rattle.place_words.specs.declared.list_part.OwnPart.TheVariants as own
use Rattle.place_words.specs.declared.list_part.Stolen.{Stolen}
use Rattle.place_words.specs.declared.list_part.Stolen.TheVariants.{Free, Pending, Nothing}
use Rattle.place_words.specs.declared.owner.Owner.TheVariants as owners
use Rattle.place_words.specs.Bodies.{numbers}
use Rattle.place_words.specs.Choices.{among}
use Rattle.place_words.specs.Globals.{flushed_elements}
use Rattle.place_words.specs.Histories.{Content, in_bucket, on_freelist, in_locals, in_global, in_own, opening_content}
use Rattle.place_words.specs.Locks.{rank_of, is_lock, is_same_lock}
use Rattle.place_words.specs.Moves.{taken_from_bucket}
use Rattle.place_words.specs.Named.{entries_of}
use Rattle.place_words.specs.Sets.{ListSet}
use Rattle.place_words.specs.Takings.{freed_by}
use Rattle.place_words.specs.Tickets.{all_entries}
use Rattle.place_words.specs.Turns.{Turn, on_lock, after_turn}
use Rattle.place_words.specs.declared.step.Lists.{Lists}
use Rattle.place_words.specs.declared.step.Step.{Step}
use Rattle.place_words.specs.declared.step.Step.TheVariants as steps
use Rattle.place_words.specs.OpeningState.{opening}
use Rattle.place_words.specs.State.{State}
use Rattle.place_words.specs.Steps.{IsEnabled, after}

-- A turn of a run: its lock, and its entry in the history of that lock. The entry has the ticket that the turn drew before it gave
-- the lock back.
pub record Drawn : Type 0 where
  pub lock : DomainId
  pub entry : Entry

-- what was done under which lock
abbrev pub turn_of : Drawn → Turn
turn_of drawn = on_lock drawn.lock drawn.entry.part

-- Which turns enclose which

-- A turn of a freelist is made inside that of the bucket which follows it in its call, an eviction inside the list turn whose
-- probes it answers, and a turn of the global lists that is no push inside the refill. No other turn is made inside one.
abbrev pub is_eviction : BucketPart → Bool
is_eviction (Lookup side key got) = false
is_eviction (Update side flags key value offer put) = false
is_eviction (Delete key removed) = false
is_eviction (Take key removed) = false
is_eviction (Next key found) = false
is_eviction (First key) = false
is_eviction (Walk remove room result) = false
is_eviction (Evict e probed) = true

abbrev pub is_global_turn : GlobalPart → Bool
is_global_turn (global.Turn flushed active inactive free shrink) = true
is_global_turn (global.Push e) = false

abbrev pub is_inner : Part → Bool
is_inner (parts.Bucket part) = is_eviction part
is_inner (parts.Free part) = true
is_inner (parts.Local part) = false
is_inner (parts.Global part) = is_global_turn part
is_inner (parts.Own part) = false

-- The turn that encloses an inner one is the first later one of its call whose lock has a lower rank: locks are taken in the order
-- of their ranks, and given back the other way round.
abbrev pub encloses : Drawn → Drawn → Bool
encloses outer inner =
    (is_inner inner.entry.part && nat_lt (rank_of outer.lock) (rank_of inner.lock))
    && (outer.entry.cpu == inner.entry.cpu && outer.entry.call == inner.entry.call)

-- all turns that enclose one, outermost first, among those that come after it
unfoldable pub enclosing : Drawn → List Drawn → List Drawn
enclosing inner [] = []
enclosing inner (outer ∷ later) =
    if encloses outer inner then enclosing outer later ++ outer ∷ [] else enclosing inner later

-- What a turn does to the words of its elements. Bits and readings are left out.

abbrev pub put_steps : ℕ → ℕ → Put → List Step
put_steps cpu bucket (puts.Added e) = steps.Attach cpu e bucket ∷ []
put_steps cpu bucket (puts.Replaced new old) = steps.Attach cpu new bucket ∷ steps.Detach cpu old bucket ∷ []
put_steps cpu bucket (puts.Written e) = []
put_steps cpu bucket puts.Exists = []
put_steps cpu bucket puts.Absent = []
put_steps cpu bucket puts.Full = []

abbrev pub detaches : ℕ → ℕ → List ℕ → List Step
detaches cpu bucket es = map (λ e. steps.Detach cpu e bucket) es

-- What is deleted or taken from a bucket of a map that doesn't evict is detached in the turn of the freelist to which it is pushed.
abbrev pub leave_steps : Bool → ℕ → ℕ → List ℕ → List Step
leave_steps lru cpu bucket es = if lru then detaches cpu bucket es else []

abbrev pub bucket_steps : Shape → ℕ → ℕ → BucketPart → List Step
bucket_steps shape cpu bucket (Lookup side key got) = []
bucket_steps shape cpu bucket (Update side flags key value offer put) = put_steps cpu bucket put
bucket_steps shape cpu bucket (Delete key removed) = leave_steps (is_lru shape.kind) cpu bucket (taken_from_bucket (Delete key removed))
bucket_steps shape cpu bucket (Take key removed) = leave_steps (is_lru shape.kind) cpu bucket (taken_from_bucket (Take key removed))
bucket_steps shape cpu bucket (Next key found) = []
bucket_steps shape cpu bucket (First key) = []
bucket_steps shape cpu bucket (Walk remove room result) = leave_steps (is_lru shape.kind) cpu bucket (taken_from_bucket (Walk remove room result))
bucket_steps shape cpu bucket (Evict e probed) = detaches cpu bucket (taken_from_bucket (Evict e probed))

-- the bucket of a bucket's lock
abbrev pub bucket_of_lock : DomainId → Option ℕ
bucket_of_lock (Local cpu) = None
bucket_of_lock Global = None
bucket_of_lock (CpuLru cpu) = None
bucket_of_lock (Bucket bucket) = Some bucket
bucket_of_lock (Freelist cpu) = None

abbrev pub push_steps : ℕ → ℕ → Option ℕ → DomainId → List Step
push_steps cpu e None lock = steps.Settle cpu e lock ∷ []
push_steps cpu e (Some bucket) lock = steps.Detach cpu e bucket ∷ steps.Settle cpu e lock ∷ []

abbrev pub freelist_steps : ℕ → Option ℕ → DomainId → FreePart → List Step
freelist_steps cpu bucket lock (Pushed e) = push_steps cpu e bucket lock
freelist_steps cpu bucket lock (Popped e) = steps.Claim cpu e lock ∷ []
freelist_steps cpu bucket lock FoundEmpty = []

abbrev pub claims : ℕ → DomainId → Option ℕ → List Step
claims cpu lock got = map (λ e. steps.Claim cpu e lock) (option_to_list got)

abbrev pub to_hand : ℕ → ℕ → Step
to_hand cpu e = steps.Rehome cpu e (homes.Hand cpu)

abbrev pub steal_steps : ℕ → DomainId → Stolen → List Step
steal_steps cpu lock (Free e) = steps.Claim cpu e lock ∷ to_hand cpu e ∷ []
steal_steps cpu lock (Pending e) = to_hand cpu e ∷ []
steal_steps cpu lock Nothing = []

abbrev pub local_steps : ℕ → DomainId → LocalPart → List Step
local_steps cpu lock (local.Pop hash e) = steps.Claim cpu e lock ∷ []
local_steps cpu lock (local.Refill hash flushed gained got) = claims cpu lock got
local_steps cpu lock (local.Steal got first second) = steal_steps cpu lock got
local_steps cpu lock (local.Add hash e cursor) = steps.Rehome cpu e (homes.In (Local cpu)) ∷ []
local_steps cpu lock (local.Push e true) = steps.Settle cpu e lock ∷ []
local_steps cpu lock (local.Push e false) = []

-- an element that a shrink of the global lists freed
abbrev pub freed_steps : ℕ → ℕ → List Step
freed_steps cpu e = steps.Rehome cpu e (homes.In (Local cpu)) ∷ steps.Settle cpu e (Local cpu) ∷ []

abbrev pub global_steps : ℕ → GlobalPart → List Step
global_steps cpu (global.Turn flushed active inactive free shrink) =
    map (λ e. steps.Rehome cpu e (homes.In Global)) (flushed_elements flushed)
    ++ map (λ e. steps.Rehome cpu e (homes.In (Local cpu))) free
    ++ flat_map (freed_steps cpu) (freed_by shrink)
global_steps cpu (global.Push e) = steps.Settle cpu e Global ∷ []

abbrev pub own_steps : ℕ → DomainId → OwnPart → List Step
own_steps cpu lock (own.Turn hash active inactive shrink got) = map (λ e. steps.Settle cpu e lock) (freed_by shrink) ++ claims cpu lock got
own_steps cpu lock (own.Push e) = steps.Settle cpu e lock ∷ []

-- The steps of a part under a lock. `around` is the bucket whose turn encloses this one, where one does.
abbrev pub part_steps : Shape → ℕ → DomainId → Option ℕ → Part → List Step
part_steps shape cpu lock around (parts.Bucket part) = bucket_steps shape cpu (unwrap_or (bucket_of_lock lock) 0) part
part_steps shape cpu lock around (parts.Free part) = freelist_steps cpu around lock part
part_steps shape cpu lock around (parts.Local part) = local_steps cpu lock part
part_steps shape cpu lock around (parts.Global part) = global_steps cpu part
part_steps shape cpu lock around (parts.Own part) = own_steps cpu lock part

-- the bucket of the innermost of the turns that enclose one
abbrev pub bucket_around : List Drawn → Option ℕ
bucket_around [] = None
bucket_around (outer ∷ []) = bucket_of_lock outer.lock
bucket_around (outer ∷ next ∷ inner) = bucket_around (next ∷ inner)

-- What happens at one moment: a step of the core, or a probe sees an element in the hand of a CPU.
pub data Event : Type 0 where
  does : Step → Event
  sees : ℕ → ℕ → Event

-- a probe that finds an element in a hand
abbrev pub seen_in : BucketPart → List Event
seen_in (Lookup side key got) = []
seen_in (Update side flags key value offer put) = []
seen_in (Delete key removed) = []
seen_in (Take key removed) = []
seen_in (Next key found) = []
seen_in (First key) = []
seen_in (Walk remove room result) = []
seen_in (Evict e Removed) = []
seen_in (Evict e (Held holder)) = sees e holder ∷ []

abbrev pub seen_by : Part → List Event
seen_by (parts.Bucket part) = seen_in part
seen_by (parts.Free part) = []
seen_by (parts.Local part) = []
seen_by (parts.Global part) = []
seen_by (parts.Own part) = []

-- a list set as the core has it: elements alone
abbrev pub set_lists : ListSet → Lists
set_lists set = record {
  free = set.free;
  first = elements_of set.lists.active;
  second = elements_of set.lists.inactive;
  cursor = set.lists.cursor;
}

-- and what lies under any lock
abbrev pub lists_in : Content → Lists
lists_in (in_bucket bodies) = record { free = []; first = numbers bodies; second = []; cursor = None }
lists_in (on_freelist stack) = record { free = stack; first = []; second = []; cursor = None }
lists_in (in_locals lists) = record { free = lists.free; first = elements_of lists.pending; second = []; cursor = None }
lists_in (in_global set) = set_lists set
lists_in (in_own set) = set_lists set

-- the taking of the lock of a turn
abbrev pub takes : Drawn → Event
takes drawn = does (steps.Take drawn.entry.cpu drawn.lock)

-- those of these turns whose locks haven't been taken yet; `begun` has the tickets of the others
abbrev pub not_begun : List ℕ → List Drawn → List Drawn
not_begun begun turns = filter (λ (drawn : Drawn). not (among begun drawn.entry.ticket)) turns

abbrev pub tickets_of : List Drawn → List ℕ
tickets_of turns = map (λ (drawn : Drawn). drawn.entry.ticket) turns

-- One turn: the locks of the turns that enclose it are taken, outermost first, and its own, as far as they haven't been; then
-- come its steps and what it sees, and then it gives its lock back with what lies there after it.
unfoldable pub turn_events : Shape → List Drawn → List ℕ → Lists → Drawn → List Event
turn_events shape around begun lists drawn =
    map takes (not_begun begun (around ++ drawn ∷ []))
    ++ map does (part_steps shape drawn.entry.cpu drawn.lock (bucket_around around) drawn.entry.part)
    ++ seen_by drawn.entry.part
    ++ does (steps.Give drawn.entry.cpu drawn.lock lists) ∷ []

-- The turns in the order of their tickets, from what lies under the locks and from the turns that have begun.
unfoldable pub interleaved : Shape → (DomainId → Content) → List ℕ → List Drawn → List Event
interleaved shape contents begun [] = []
interleaved shape contents begun (drawn ∷ later) =
    let around : List Drawn = enclosing drawn later in
    let now : DomainId → Content = after_turn shape drawn.entry.cpu contents (turn_of drawn) in
    turn_events shape around begun (lists_in (now drawn.lock)) drawn
    ++ interleaved shape now (drawn.entry.ticket ∷ tickets_of around ++ begun) later

-- Each step may be done in its place, and what is seen is so.
unfoldable pub AreEnabled : Shape → State → List Event → Type 0
AreEnabled shape s [] = Unit {0}
AreEnabled shape s (does step ∷ events) = IsEnabled shape s step × AreEnabled shape (after shape s step) events
AreEnabled shape s (sees e holder ∷ events) = (s.owner e ≡ owners.Hand holder) × AreEnabled shape s events

-- the entries of turns, and the turns of one lock, both in the order of all
abbrev pub entry_of : Drawn → Entry
entry_of drawn = drawn.entry

abbrev pub drawn_on : DomainId → List Drawn → List Drawn
drawn_on lock turns = filter (λ (drawn : Drawn). is_same_lock drawn.lock lock) turns

-- The turns of histories, in the order of their tickets, are a run of the core: each step is enabled in its place from the opening
-- of the map, and each probe that finds an element held finds it in that CPU's hand. The tickets are 0, 1, 2 and so on up to the number
-- of all entries, and on each lock of the map the turns are its history, with their tickets. Nothing is asked of strands: in a
-- record tickets ascend in each, so it has its turns in the order of the run.
pub record CoreRun (shape : Shape) (histories : List LockHistory) : Type 0 where
  pub turns : List Drawn
  pub in_order : tickets_of turns ≡ range_with_len 0 (length (all_entries histories))
  pub histories_are : (lock : DomainId) → IsTrue (is_lock shape lock) → map entry_of (drawn_on lock turns) ≡ entries_of histories lock
  pub are_enabled : AreEnabled shape (opening shape) (interleaved shape (opening_content shape) [] turns)
