-- The turns that the calls of a serial run make, on plain lists, as its record tells them.
use Rattle.std.specs.Prelude.{ℕ, suc, ◌+◌, ◌-◌, ◌==◌, not, nat_lt, min, Bool, false, List, [], ◌∷◌, ◌++◌, length, map, filter, Option, None, Some, option_map, unwrap_or, slice_get, slice_index, slice_index_or, if◌then◌else◌}
use Rattle.std.specs.List.{list_any, range_with_len, before_first}
use Rattle.map_types.specs.declared.attr.Shape.{Shape}
use Rattle.map_types.specs.declared.call.Call.{Call}
use Rattle.map_types.specs.declared.call.Verb.{Verb}
use Rattle.map_types.specs.declared.call.Verb.TheVariants as verbs
use Rattle.map_types.specs.declared.kind.DomainId.{DomainId}
use Rattle.map_types.specs.declared.kind.DomainId.TheVariants.{Local, Global, CpuLru, Bucket, Freelist}
use Rattle.map_types.specs.declared.kind.Side.{Side}
use Rattle.map_types.specs.declared.kind.Side.TheVariants.{Sys}
use Rattle.map_types.specs.declared.refusal.Errno.{Errno}
use Rattle.map_types.specs.declared.reply.Reply.{Reply}
use Rattle.map_types.specs.Kind.{is_percpu}
use Rattle.map_types.specs.Stored.{Stored}
use Rattle.place_words.specs.declared.bucket_part.BucketPart.TheVariants.{Lookup, Update, Delete, Take, Next, First, Walk}
use Rattle.place_words.specs.declared.bucket_part.NextFound.{NextFound}
use Rattle.place_words.specs.declared.bucket_part.NextFound.TheVariants as nexts
use Rattle.place_words.specs.declared.bucket_part.Put.{Put}
use Rattle.place_words.specs.declared.bucket_part.Put.TheVariants as puts
use Rattle.place_words.specs.declared.bucket_part.Walked.TheVariants.{Over, Taken}
use Rattle.place_words.specs.declared.finals.Finals.{Finals}
use Rattle.place_words.specs.declared.free_part.FreePart.TheVariants.{Popped, Pushed}
use Rattle.place_words.specs.declared.history.Entry.{Entry}
use Rattle.place_words.specs.declared.history.LockHistory.{LockHistory}
use Rattle.place_words.specs.declared.history.Part.TheVariants as parts
use Rattle.place_words.specs.declared.history.Strand.{Strand}
use Rattle.place_words.specs.declared.history.StrandStep.{StrandStep}
use Rattle.place_words.specs.Bodies.{present, first_key, numbers}
use Rattle.place_words.specs.Buckets.{as_read}
use Rattle.place_words.specs.Handing.{is_stop}
use Rattle.place_words.specs.Histories.{Content, in_bucket, on_freelist, in_locals, in_global, in_own}
use Rattle.place_words.specs.Locals.{new_locals}
use Rattle.place_words.specs.Sets.{new_set}
use Rattle.place_words.specs.Locks.{is_lock, is_same_lock, lock_named, lock_count}
use Rattle.place_words.specs.Logs.{found_next, got_by}
use Rattle.place_words.specs.Traces.{Turn, ring, on_bucket_of, on_freelist_of, found_empty, pushes, element_gone}
use Rattle.place_words.specs.Turns.{on_lock}
use Rattle.place_words.specs.Walks.{buckets_from, refused_with}
use Rattle.map_report.specs.Buckets.{bucket_of_key}
use Rattle.map_report.specs.Freelists.{stack_at, first_not_empty}
use Rattle.map_report.specs.Serial.{bucket_at, in_bucket_at, pair_read, program_pair, if_emptied, after_update, after_delete, after_call}

-- what lies under each lock of a map that doesn't evict, which has no lists but buckets and freelists
abbrev pub content_under : Finals → DomainId → Content
content_under lists (Local cpu) = in_locals (new_locals cpu)
content_under lists Global = in_global (new_set [])
content_under lists (CpuLru cpu) = in_own (new_set [])
content_under lists (Bucket bucket) = in_bucket (slice_index_or lists.buckets bucket [])
content_under lists (Freelist cpu) = on_freelist (stack_at lists.freelists cpu)

-- the spare that a CPU has
abbrev pub spare_at : Finals → ℕ → Option ℕ
spare_at lists cpu = slice_get lists.spares cpu

-- A pop looks at the freelists in ring order, and ends at the first that isn't empty.
abbrev pub pop_turns : ℕ → List (List ℕ) → Option ℕ → List Turn
pop_turns cpu stacks None = found_empty (ring cpu (length stacks))
pop_turns cpu stacks (Some giver) =
    found_empty (before_first (λ c. not (length (stack_at stacks c) == 0)) (ring cpu (length stacks)))
    ++ on_freelist_of giver (Popped (slice_index (stack_at stacks giver) 0)) ∷ []

-- what an update puts where the key's element is there, and where it isn't: what was popped says whether the map is full
abbrev pub put_present : Shape → ℕ → ℕ → Finals → Stored → Put
put_present shape cpu flags lists old =
    if flags == 1 then puts.Exists
    else (if is_percpu shape.kind then puts.Written old.element else puts.Replaced (slice_index lists.spares cpu) old.element)

abbrev pub put_popped : List (List ℕ) → Option ℕ → Put
put_popped stacks None = puts.Full
put_popped stacks (Some giver) = puts.Added (slice_index (stack_at stacks giver) 0)

abbrev pub update_turns : Shape → Side → ℕ → ℕ → List ℕ → List ℕ → Finals → Option Stored → List Turn
update_turns shape side cpu flags key value lists (Some old) =
    on_bucket_of shape key (Update side flags key value None (put_present shape cpu flags lists old)) ∷ []
update_turns shape side cpu flags key value lists None =
    if flags == 2 then on_bucket_of shape key (Update side flags key value None puts.Absent) ∷ []
    else pop_turns cpu lists.freelists (first_not_empty cpu lists.freelists)
    ++ on_bucket_of shape key (Update side flags key value None (put_popped lists.freelists (first_not_empty cpu lists.freelists))) ∷ []

abbrev pub turns_of_update : Shape → Side → ℕ → ℕ → List ℕ → List ℕ → Finals → List Turn
turns_of_update shape side cpu flags key value lists =
    if nat_lt 2 flags then [] else update_turns shape side cpu flags key value lists (present key (bucket_at shape lists key))

abbrev pub turns_of_delete : Shape → ℕ → List ℕ → Finals → List Turn
turns_of_delete shape cpu key lists =
    let gone = option_map (λ (stored : Stored). stored.element) (present key (bucket_at shape lists key)) in
    pushes cpu gone ++ on_bucket_of shape key (Delete key gone) ∷ []

-- the heads of buckets are looked at, up to the first that isn't empty
abbrev pub unless_found : Option (List ℕ) → List Turn → List Turn
unless_found None later = later
unless_found (Some key) later = []

abbrev pub first_turns : Finals → List ℕ → List Turn
first_turns lists [] = []
first_turns lists (bucket ∷ buckets) =
    let first = first_key (in_bucket_at lists bucket) in
    on_lock (Bucket bucket) (parts.Bucket (First first)) ∷ unless_found first (first_turns lists buckets)

-- a key's bucket is looked at, and others where what follows the key isn't there
abbrev pub turns_behind : Shape → List ℕ → Finals → NextFound → List Turn
turns_behind shape key lists nexts.Absent = first_turns lists (buckets_from shape 0)
turns_behind shape key lists nexts.Last = first_turns lists (buckets_from shape (bucket_of_key shape key + 1))
turns_behind shape key lists (nexts.Key next) = []

abbrev pub next_turns : Shape → Option (List ℕ) → Finals → List Turn
next_turns shape None lists = first_turns lists (buckets_from shape 0)
next_turns shape (Some key) lists =
    let found = found_next key (bucket_at shape lists key) (present key (bucket_at shape lists key)) in
    on_bucket_of shape key (Next key found) ∷ turns_behind shape key lists found

-- A batch read takes each bucket whole in a turn. The elements that it removes are pushed inside that turn, in the order taken.
abbrev pub pushing_turns : ℕ → List ℕ → Turn → List Turn
pushing_turns cpu elements turn = map (λ e. on_freelist_of cpu (Pushed e)) elements ++ turn ∷ []

abbrev pub read_turns : Shape → ℕ → Bool → ℕ → List ℕ → List (List ℕ × List ℕ) → Finals → List Turn
read_turns shape cpu remove limit [] taken lists = []
read_turns shape cpu remove limit (bucket ∷ buckets) taken lists =
    let bodies = in_bucket_at lists bucket in
    let room = limit - length taken in
    if nat_lt room (length bodies) then on_lock (Bucket bucket) (parts.Bucket (Walk remove room (Over (length bodies)))) ∷ []
    else pushing_turns cpu (if remove then numbers bodies else []) (on_lock (Bucket bucket) (parts.Bucket (Walk remove room (Taken (map (as_read shape cpu) bodies)))))
    ++ read_turns shape cpu remove limit buckets (taken ++ map (pair_read shape cpu) bodies) (if_emptied remove cpu bucket lists)

abbrev pub turns_of_read : Shape → ℕ → Bool → ℕ → ℕ → Finals → List Turn
turns_of_read shape cpu remove count start lists =
    if count == 0 then []
    else if nat_lt start shape.buckets then read_turns shape cpu remove (min count shape.elements) (buckets_from shape start) [] lists
    else []

-- A walk over all elements takes each bucket whole in a turn, up to the one in which it stops. It has room for the elements of the map,
-- less those that it took before.
abbrev pub handing_turns : Shape → ℕ → Option (List ℕ) → List ℕ → ℕ → Finals → List Turn
handing_turns shape cpu stop [] before lists = []
handing_turns shape cpu stop (bucket ∷ buckets) before lists =
    let bodies = in_bucket_at lists bucket in
    on_lock (Bucket bucket) (parts.Bucket (Walk false (shape.elements - before) (Taken (map (as_read shape cpu) bodies))))
    ∷ (if list_any (is_stop stop) (map (program_pair shape cpu) bodies) then [] else handing_turns shape cpu stop buckets (before + length bodies) lists)

-- the turns of entries, up to the first that is refused
abbrev pub unless_refused : Option Errno → List Turn → List Turn
unless_refused None later = later
unless_refused (Some errno) later = []

abbrev pub each_turns : {A : Type 0} → (A → Finals → Finals × Reply) → (A → Finals → List Turn) → List A → Finals → List Turn
each_turns one turns [] lists = []
each_turns one turns (entry ∷ entries) lists =
    turns entry lists ++ unless_refused (refused_with (one entry lists).1) (each_turns one turns entries (one entry lists).0)

-- the turns of a call on a CPU, in the order in which their locks are given back
unfoldable pub call_turns : Shape → ℕ → Verb → Finals → List Turn
call_turns shape cpu (verbs.Lookup side key) lists =
    on_bucket_of shape key (Lookup side key (got_by shape side cpu (present key (bucket_at shape lists key)))) ∷ []
call_turns shape cpu (verbs.Update side flags key value) lists = turns_of_update shape side cpu flags key value lists
call_turns shape cpu (verbs.Delete key) lists = turns_of_delete shape cpu key lists
call_turns shape cpu (verbs.Take key) lists =
    let gone = got_by shape Sys cpu (present key (bucket_at shape lists key)) in
    pushes cpu (element_gone gone) ++ on_bucket_of shape key (Take key gone) ∷ []
call_turns shape cpu (verbs.Next key) lists = next_turns shape key lists
call_turns shape cpu (verbs.BatchRead remove count start flags) lists =
    if flags == 0 then turns_of_read shape cpu remove count (unwrap_or start 0) lists else []
call_turns shape cpu (verbs.BatchUpdate flags pairs) lists =
    if flags == 0 then each_turns (λ (pair : List ℕ × List ℕ). after_update shape Sys cpu 0 pair.0 pair.1) (λ (pair : List ℕ × List ℕ). turns_of_update shape Sys cpu 0 pair.0 pair.1) pairs lists else []
call_turns shape cpu (verbs.BatchDelete flags keys) lists =
    if flags == 0 then each_turns (after_delete shape cpu) (turns_of_delete shape cpu) keys lists else []
call_turns shape cpu (verbs.Each flags stop) lists = if flags == 0 then handing_turns shape cpu stop (buckets_from shape 0) 0 lists else []

-- a turn with its lock, as an entry of that lock's history
abbrev pub Happened : Type 0
Happened = DomainId × Entry

abbrev pub happened : ℕ → ℕ → ℕ → Turn → Happened
happened cpu call ticket turn = (turn.lock, record { ticket = ticket; cpu = cpu; call = call; part = turn.part })

-- those of a call, the first of which has this ticket
abbrev pub all_happened : ℕ → ℕ → ℕ → List Turn → List Happened
all_happened cpu call ticket [] = []
all_happened cpu call ticket (turn ∷ turns) = happened cpu call ticket turn ∷ all_happened cpu call (suc ticket) turns

-- the turns of calls in their order, from a state of the map on, where the first turn has this ticket and the first call this number
abbrev pub turns_from : Shape → Finals → ℕ → ℕ → List Call → List Happened
turns_from shape lists ticket number [] = []
turns_from shape lists ticket number (call ∷ calls) =
    let turns : List Turn = call_turns shape call.cpu call.verb lists in
    all_happened call.cpu number ticket turns
    ++ turns_from shape (after_call shape call.cpu call.verb lists).0 (ticket + length turns) (suc number) calls

-- those on one lock are its history
abbrev pub entries_on : DomainId → List Happened → List Entry
entries_on lock [] = []
entries_on lock (turn ∷ turns) = if is_same_lock turn.0 lock then turn.1 ∷ entries_on lock turns else entries_on lock turns

-- one history for each lock of the map, in the order of the locks' numbers
abbrev pub history_on : Shape → List Happened → ℕ → LockHistory
history_on shape turns k = record { lock = lock_named shape k; entries = entries_on (lock_named shape k) turns }

abbrev pub histories_of_turns : Shape → List Happened → List LockHistory
histories_of_turns shape turns =
    map (history_on shape turns) (filter (λ k. is_lock shape (lock_named shape k)) (range_with_len 0 (lock_count shape)))

-- each turn is a step, which names its place among the turns on its lock
abbrev pub steps_from : List Happened → List Happened → List StrandStep
steps_from before [] = []
steps_from before (turn ∷ turns) =
    record { lock = turn.0; index = length (entries_on turn.0 before) } ∷ steps_from (before ++ turn ∷ []) turns

-- one strand of all CPUs has the turns of a phase, behind those of the phases before it
abbrev pub strand_of_turns : Shape → ℕ → List Happened → List Happened → Strand
strand_of_turns shape phase before turns = record { phase = phase; cpus = range_with_len 0 shape.cpus; steps = steps_from before turns }
