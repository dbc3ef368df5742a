-- A run of a map of any kind in serial order: the calls of a script one after another. What is known of the map at each
-- moment is the log of each lock, which bits are set, and each CPU's spare. What lies under a lock is what its log leads to.
use Rattle.std.specs.Prelude.{ℕ, suc, ◌+◌, ◌-◌, ◌==◌, nat_lt, min, Bool, true, false, ◌&&◌, List, [], ◌∷◌, ◌++◌, map, length, filter, find, reverse, slice_get, option_map, option_to_list, unwrap_or, Option, None, Some, if◌then◌else◌}
use Rattle.std.specs.List.{flat_map, list_any, range_with_len}
use Rattle.map_types.specs.declared.attr.Shape.{Shape}
use Rattle.map_types.specs.declared.call.Call.{Call}
use Rattle.map_types.specs.declared.call.Verb.{Verb}
use Rattle.map_types.specs.declared.call.Verb.TheVariants as verbs
use Rattle.map_types.specs.declared.kind.DomainId.{DomainId}
use Rattle.map_types.specs.declared.kind.DomainId.TheVariants.{Local, Global, CpuLru, Bucket, Freelist}
use Rattle.map_types.specs.declared.kind.Side.{Side}
use Rattle.map_types.specs.declared.kind.Side.TheVariants.{Sys}
use Rattle.map_types.specs.declared.refusal.Errno.{Errno}
use Rattle.map_types.specs.declared.refusal.Errno.TheVariants.{Enoent, Enomem, Einval}
use Rattle.map_types.specs.declared.reply.Reply.{Reply}
use Rattle.map_types.specs.declared.reply.Reply.TheVariants.{Done, Value, Refused, Batch, Count}
use Rattle.map_types.specs.Kind.{is_lru, is_percpu}
use Rattle.map_types.specs.Sides.{value_read}
use Rattle.map_types.specs.Stored.{Stored}
use Rattle.key_hash.specs.Jhash.{hash}
use Rattle.place_words.specs.declared.bucket_part.BucketPart.TheVariants.{Lookup, Update, Delete, Take, Next, First, Walk}
use Rattle.place_words.specs.declared.bucket_part.NextFound.{NextFound}
use Rattle.place_words.specs.declared.bucket_part.NextFound.TheVariants as nexts
use Rattle.place_words.specs.declared.bucket_part.Put.{Put}
use Rattle.place_words.specs.declared.bucket_part.Put.TheVariants as puts
use Rattle.place_words.specs.declared.bucket_part.Walked.{Walked}
use Rattle.place_words.specs.declared.bucket_part.Walked.TheVariants.{Over, Taken}
use Rattle.place_words.specs.declared.finals.Finals.{Finals}
use Rattle.place_words.specs.declared.finals.LocalFinal.{LocalFinal}
use Rattle.place_words.specs.declared.finals.SetFinal.{SetFinal}
use Rattle.place_words.specs.declared.free_part.FreePart.TheVariants.{Pushed, Popped, FoundEmpty}
use Rattle.place_words.specs.declared.history.Entry.{Entry}
use Rattle.place_words.specs.declared.history.Part.{Part}
use Rattle.place_words.specs.declared.history.Part.TheVariants as parts
use Rattle.place_words.specs.declared.list_part.GlobalPart.{GlobalPart}
use Rattle.place_words.specs.declared.list_part.LocalPart.{LocalPart}
use Rattle.place_words.specs.declared.list_part.LocalPart.TheVariants as local
use Rattle.place_words.specs.declared.list_part.OwnPart.{OwnPart}
use Rattle.place_words.specs.declared.list_part.OwnPart.TheVariants as own
use Rattle.place_words.specs.declared.visits.Try.{Try}
use Rattle.place_words.specs.Bodies.{present, first_key, next_key}
use Rattle.place_words.specs.Buckets.{as_read}
use Rattle.place_words.specs.Choices.{without_bits, with_bits, own_turn, own_got, global_turn, refill_of, refill_got, steal_of, steal_got}
use Rattle.map_types.specs.ElementLists.{put}
use Rattle.place_words.specs.Evicting.{left_over}
use Rattle.place_words.specs.Handing.{handed, is_stop, up_to_stop}
use Rattle.place_words.specs.Histories.{Content, content, marks, clears, bucket_in, freelist_in, locals_in, global_in, own_in}
use Rattle.map_types.specs.Listed.{elements_of}
use Rattle.place_words.specs.Locals.{LocalLists, new_locals}
use Rattle.place_words.specs.Locks.{is_lock, is_same_lock}
use Rattle.place_words.specs.Openings.{first_spares}
use Rattle.place_words.specs.PlainTraces.{spare_after_part, reply_of_put, reply_of_got, reply_of_gone, element_gone}
use Rattle.place_words.specs.Sets.{ListSet, new_set, has_row}
use Rattle.place_words.specs.Takings.{listed_rows, rows_brought, probes_of, stored_hash, evicts, brings_home, freed_globally, set_of}
use Rattle.place_words.specs.Traces.{IsTrace}
use Rattle.place_words.specs.Turns.{Turn, TurnAt, AreLegalAt, ring, on_lock, bucket_of_key, on_bucket_of, on_freelist_of}
use Rattle.place_words.specs.Walks.{buckets_from, stopped_at, pair_of, walked_out, refused_with, updates_of, deletes_of}

-- What is known of a map

pub record State : Type 0 where
  -- the ticket of the next turn, which is how many were made
  pub next_ticket : ℕ
  pub logs : DomainId → List Entry
  pub bits : ℕ → Bool
  pub spares : ℕ → Option ℕ

-- what lies under a lock, and each sort of it
abbrev pub lies_in : Shape → State → DomainId → Content
lies_in shape state lock = content shape lock (state.logs lock)

abbrev pub bucket_at : Shape → State → ℕ → List Stored
bucket_at shape state bucket = unwrap_or (bucket_in (lies_in shape state (Bucket bucket))) []

abbrev pub freelist_at : Shape → State → ℕ → List ℕ
freelist_at shape state cpu = unwrap_or (freelist_in (lies_in shape state (Freelist cpu))) []

abbrev pub locals_at : Shape → State → ℕ → LocalLists
locals_at shape state cpu = unwrap_or (locals_in (lies_in shape state (Local cpu))) (new_locals cpu)

abbrev pub globals_at : Shape → State → ListSet
globals_at shape state = unwrap_or (global_in (lies_in shape state Global)) (new_set [])

abbrev pub own_at : Shape → State → ℕ → ListSet
own_at shape state cpu = unwrap_or (own_in (lies_in shape state (CpuLru cpu))) (new_set [])

-- the element that holds a key
abbrev pub present_in : Shape → State → List ℕ → Option Stored
present_in shape state key = present key (bucket_at shape state (bucket_of_key shape key))

-- A turn of a CPU in the call of some number is the last entry of its lock's log, with the next ticket; it sets and clears bits,
-- and leaves the CPU its spare.
abbrev pub turned : Shape → ℕ → ℕ → Turn → State → State
turned shape cpu number turn state = record state {
  next_ticket = suc state.next_ticket;
  logs = λ lock. if is_same_lock turn.lock lock then state.logs lock ++ (record { ticket = state.next_ticket; cpu = cpu; call = number; part = turn.part }) ∷ [] else state.logs lock;
  bits = with_bits (marks shape turn.part) (without_bits (clears turn.part) state.bits);
  spares = if is_lru shape.kind then state.spares else put state.spares cpu (spare_after_part (state.spares cpu) turn.part);
}

abbrev pub all_turned : Shape → ℕ → ℕ → List Turn → State → State
all_turned shape cpu number [] state = state
all_turned shape cpu number (turn ∷ turns) state = all_turned shape cpu number turns (turned shape cpu number turn state)

-- Taking and freeing

-- what was taken, and the turns that took it
pub record Taking : Type 0 where
  pub turns : List Turn
  pub got : Option ℕ

-- turns that come first, and what is taken later, where nothing was got before
abbrev pub after_turns_of : List Turn → Taking → Taking
after_turns_of turns later = record { turns = turns ++ later.turns; got = later.got }

abbrev pub got_or : Option ℕ → Taking → Taking
got_or None later = later
got_or (Some e) later = record { turns = []; got = Some e }

-- a list turn with the turns of its probes before it
abbrev pub probed : Shape → State → DomainId → Part → List Turn
probed shape state lock part =
    flat_map (λ (probe : Try). option_to_list (option_map (evicts shape probe) (stored_hash probe.element (rows_brought part ++ listed_rows (lies_in shape state lock))))) (probes_of part)
    ++ on_lock lock part ∷ []

-- from the own set
unfoldable pub taken_own : Shape → ℕ → ℕ → State → Taking
taken_own shape cpu key_hash state =
    let part : OwnPart = own_turn key_hash state.bits (own_at shape state cpu) in
    record { turns = probed shape state (CpuLru cpu) (parts.Own part); got = own_got part }

-- by a round of thefts over the local lists of these CPUs, up to the first that gives an element
abbrev pub home_or : Shape → ℕ → ℕ → ℕ → Option ℕ → Taking → Taking
home_or shape cpu key_hash from None later = later
home_or shape cpu key_hash from (Some e) later = record { turns = brings_home shape cpu key_hash from e ∷ []; got = Some e }

abbrev pub stolen : Shape → ℕ → ℕ → State → List ℕ → Taking
stolen shape cpu key_hash state [] = record { turns = []; got = None }
stolen shape cpu key_hash state (from ∷ others) =
    let lists : LocalLists = locals_at shape state from in
    let part : LocalPart = steal_of state.bits lists.free lists.pending in
    after_turns_of (probed shape state (Local from) (parts.Local part)) (home_or shape cpu key_hash from (steal_got part) (stolen shape cpu key_hash state others))

-- by a refill from the global lists, and where that gives nothing by a round of thefts from the own cursor on
unfoldable pub refilled : Shape → ℕ → ℕ → ℕ → State → LocalLists → Taking
refilled shape cpu number key_hash state lists =
    let inner : GlobalPart = global_turn state.bits lists.pending (globals_at shape state) in
    let refill : LocalPart = refill_of key_hash inner in
    let turns : List Turn = probed shape state Global (parts.Global inner) ++ on_lock (Local cpu) (parts.Local refill) ∷ [] in
    after_turns_of turns (got_or (refill_got refill) (stolen shape cpu key_hash (all_turned shape cpu number turns state) (ring lists.steal shape.cpus)))

-- the head of the own local free list, or a refill
abbrev pub taken_shared : Shape → ℕ → ℕ → ℕ → State → LocalLists → List ℕ → Taking
taken_shared shape cpu number key_hash state lists (e ∷ free) = record { turns = on_lock (Local cpu) (parts.Local (local.Pop key_hash e)) ∷ []; got = Some e }
taken_shared shape cpu number key_hash state lists [] = refilled shape cpu number key_hash state lists

unfoldable pub acquired : Shape → ℕ → ℕ → ℕ → State → Taking
acquired shape cpu number key_hash state =
    if shape.common then taken_shared shape cpu number key_hash state (locals_at shape state cpu) (locals_at shape state cpu).free
    else taken_own shape cpu key_hash state

-- An element is freed where it lives: on the local lists where it is pending, else on the global ones; or on its own set.
abbrev pub freed_at : ℕ → Option ℕ → Turn
freed_at e None = freed_globally e
freed_at e (Some cpu) = on_lock (Local cpu) (parts.Local (local.Push e true))

unfoldable pub freeing : Shape → State → ℕ → Turn
freeing shape state e =
    if shape.common then freed_at e (find (λ cpu. has_row e (locals_at shape state cpu).pending) (range_with_len 0 shape.cpus))
    else on_lock (CpuLru (set_of shape e)) (parts.Own (own.Push e))

-- elements are freed one after another
abbrev pub all_freed : Shape → ℕ → ℕ → State → List ℕ → List Turn
all_freed shape cpu number state [] = []
all_freed shape cpu number state (e ∷ es) =
    let turn : Turn = freeing shape state e in turn ∷ all_freed shape cpu number (turned shape cpu number turn state) es

-- Elements that a bucket's turn took out: pushed on the CPU's freelist inside it, or freed after it, last taken first.
abbrev pub taken_out : Shape → ℕ → ℕ → State → List ℕ → Turn → List Turn
taken_out shape cpu number state gone turn =
    if is_lru shape.kind then turn ∷ all_freed shape cpu number (turned shape cpu number turn state) (reverse gone)
    else map (λ e. on_freelist_of cpu (Pushed e)) gone ++ turn ∷ []

-- a map that doesn't evict pops in ring order from the first freelist that isn't empty
abbrev pub popped_or : ℕ → Option ℕ → Taking → Taking
popped_or from None later = after_turns_of (on_freelist_of from FoundEmpty ∷ []) later
popped_or from (Some e) later = record { turns = on_freelist_of from (Popped e) ∷ []; got = Some e }

abbrev pub popped : Shape → State → List ℕ → Taking
popped shape state [] = record { turns = []; got = None }
popped shape state (from ∷ others) = popped_or from (slice_get (freelist_at shape state from) 0) (popped shape state others)

-- Calls

-- what a call does: its turns and its reply
pub record Does : Type 0 where
  pub turns : List Turn
  pub reply : Reply

abbrev pub first_does : List Turn → Does → Does
first_does turns later = record { turns = turns ++ later.turns; reply = later.reply }

-- what an update puts that was offered an element, and one that was offered none
abbrev pub put_offered : Shape → ℕ → ℕ → Option Stored → Put
put_offered shape flags e None = if flags == 2 then puts.Absent else puts.Added e
put_offered shape flags e (Some old) =
    if flags == 1 then puts.Exists else (if is_percpu shape.kind then puts.Written old.element else puts.Replaced e old.element)

abbrev pub put_alone : Option Stored → Put
put_alone None = puts.Absent
put_alone (Some old) = puts.Written old.element

abbrev pub puts_in : Shape → Side → ℕ → List ℕ → List ℕ → Put → Does
puts_in shape side flags key value done =
    record { turns = on_bucket_of shape key (Update side flags key value None done) ∷ []; reply = reply_of_put done }

-- on a map that evicts
abbrev pub offered : Shape → ℕ → ℕ → Side → ℕ → List ℕ → List ℕ → State → Option ℕ → Does
offered shape cpu number side flags key value state None = record { turns = []; reply = Refused Enomem }
offered shape cpu number side flags key value state (Some e) =
    let done : Put = put_offered shape flags e (present_in shape state key) in
    let turn : Turn = on_bucket_of shape key (Update side flags key value (Some e) done) in
    record { turns = turn ∷ all_freed shape cpu number (turned shape cpu number turn state) (option_to_list (left_over e done)); reply = reply_of_put done }

abbrev pub evicting_does : Shape → ℕ → ℕ → Side → ℕ → List ℕ → List ℕ → State → Does
evicting_does shape cpu number side flags key value state =
    if is_percpu shape.kind && (flags == 2) then puts_in shape side flags key value (put_alone (present_in shape state key))
    else (let got : Taking = acquired shape cpu number (hash key shape.seed) state in
    first_does got.turns (offered shape cpu number side flags key value (all_turned shape cpu number got.turns state) got.got))

-- on one that doesn't
abbrev pub put_popped : Option ℕ → Put
put_popped None = puts.Full
put_popped (Some e) = puts.Added e

abbrev pub put_present : Shape → ℕ → Option ℕ → Stored → Put
put_present shape flags spare old =
    if flags == 1 then puts.Exists else (if is_percpu shape.kind then puts.Written old.element else puts.Replaced (unwrap_or spare 0) old.element)

abbrev pub plain_does : Shape → ℕ → Side → ℕ → List ℕ → List ℕ → State → Option Stored → Does
plain_does shape cpu side flags key value state (Some old) = puts_in shape side flags key value (put_present shape flags (state.spares cpu) old)
plain_does shape cpu side flags key value state None =
    if flags == 2 then puts_in shape side flags key value puts.Absent
    else (let got : Taking = popped shape state (ring cpu shape.cpus) in first_does got.turns (puts_in shape side flags key value (put_popped got.got)))

-- what a side reads of a key's element
abbrev pub got_by : Shape → Side → ℕ → Option Stored → Option (ℕ × List ℕ)
got_by shape side cpu None = None
got_by shape side cpu (Some stored) = Some (stored.element, value_read shape side cpu stored.values)

-- The calls on one key. Flags above BPF_EXIST (2) are refused before anything is looked at. The others are told below.
unfoldable pub key_does : Shape → ℕ → ℕ → State → Verb → Does
key_does shape cpu number state (verbs.Lookup side key) =
    let got : Option (ℕ × List ℕ) = got_by shape side cpu (present_in shape state key) in
    record { turns = on_bucket_of shape key (Lookup side key got) ∷ []; reply = reply_of_got got }
key_does shape cpu number state (verbs.Update side flags key value) =
    if nat_lt 2 flags then record { turns = []; reply = Refused Einval }
    else (if is_lru shape.kind then evicting_does shape cpu number side flags key value state
    else plain_does shape cpu side flags key value state (present_in shape state key))
key_does shape cpu number state (verbs.Delete key) =
    let gone : Option ℕ = option_map (λ (stored : Stored). stored.element) (present_in shape state key) in
    record { turns = taken_out shape cpu number state (option_to_list gone) (on_bucket_of shape key (Delete key gone)); reply = reply_of_gone gone }
key_does shape cpu number state (verbs.Take key) =
    let gone : Option (ℕ × List ℕ) = got_by shape Sys cpu (present_in shape state key) in
    record { turns = taken_out shape cpu number state (option_to_list (element_gone gone)) (on_bucket_of shape key (Take key gone)); reply = reply_of_got gone }
key_does shape cpu number state (verbs.Next key) = record { turns = []; reply = Refused Einval }
key_does shape cpu number state (verbs.BatchRead remove count start flags) = record { turns = []; reply = Refused Einval }
key_does shape cpu number state (verbs.BatchUpdate flags pairs) = record { turns = []; reply = Refused Einval }
key_does shape cpu number state (verbs.BatchDelete flags keys) = record { turns = []; reply = Refused Einval }
key_does shape cpu number state (verbs.Each flags stop) = record { turns = []; reply = Refused Einval }

-- Next key

abbrev pub first_or : Option (List ℕ) → Does → Does
first_or None later = later
first_or (Some key) later = record { turns = []; reply = Value key }

abbrev pub firsts : Shape → State → List ℕ → Does
firsts shape state [] = record { turns = []; reply = Refused Enoent }
firsts shape state (bucket ∷ buckets) =
    let key : Option (List ℕ) = first_key (bucket_at shape state bucket) in
    first_does (on_lock (Bucket bucket) (parts.Bucket (First key)) ∷ []) (first_or key (firsts shape state buckets))

abbrev pub following : Option (List ℕ) → NextFound
following None = nexts.Last
following (Some key) = nexts.Key key

abbrev pub found_next : List ℕ → List Stored → Option Stored → NextFound
found_next key bucket None = nexts.Absent
found_next key bucket (Some stored) = following (next_key key bucket)

abbrev pub goes_on : Shape → State → List ℕ → NextFound → Does
goes_on shape state key nexts.Absent = firsts shape state (buckets_from shape 0)
goes_on shape state key nexts.Last = firsts shape state (buckets_from shape (bucket_of_key shape key + 1))
goes_on shape state key (nexts.Key next) = record { turns = []; reply = Value next }

unfoldable pub next_does : Shape → State → Option (List ℕ) → Does
next_does shape state None = firsts shape state (buckets_from shape 0)
next_does shape state (Some key) =
    let found : NextFound = found_next key (bucket_at shape state (bucket_of_key shape key)) (present_in shape state key) in
    first_does (on_bucket_of shape key (Next key found) ∷ []) (goes_on shape state key found)

-- Batches

-- what a walk finds in a bucket with this room
abbrev pub walked : Shape → ℕ → ℕ → List Stored → Walked
walked shape cpu room bucket = if nat_lt room (length bucket) then Over (length bucket) else Taken (map (as_read shape cpu) bucket)

abbrev pub after_walk : ℕ → List (List ℕ × List ℕ) → Walked → (List (List ℕ × List ℕ) → Does) → Does
after_walk bucket taken_before (Over n) later = record { turns = []; reply = Batch (stopped_at taken_before) taken_before bucket }
after_walk bucket taken_before (Taken all) later = later (taken_before ++ map pair_of all)

abbrev pub walks : Shape → ℕ → ℕ → Bool → ℕ → State → List ℕ → List (List ℕ × List ℕ) → Does
walks shape cpu number remove limit state [] taken_before = record { turns = []; reply = Batch (Some Enoent) taken_before shape.buckets }
walks shape cpu number remove limit state (bucket ∷ buckets) taken_before =
    let room : ℕ = limit - length taken_before in
    let result : Walked = walked shape cpu room (bucket_at shape state bucket) in
    let turns : List Turn = taken_out shape cpu number state (walked_out remove result) (on_lock (Bucket bucket) (parts.Bucket (Walk remove room result))) in
    first_does turns (after_walk bucket taken_before result (λ now. walks shape cpu number remove limit (all_turned shape cpu number turns state) buckets now))

unfoldable pub read_does : Shape → ℕ → ℕ → State → Bool → ℕ → Option ℕ → ℕ → Does
read_does shape cpu number state remove count start flags =
    if flags == 0 then
    (if count == 0 then record { turns = []; reply = Done }
    else (if nat_lt (unwrap_or start 0) shape.buckets then walks shape cpu number remove (min count shape.elements) state (buckets_from shape (unwrap_or start 0)) []
    else record { turns = []; reply = Refused Enoent }))
    else record { turns = []; reply = Refused Einval }

-- entries are done in order, up to the first that is refused
abbrev pub counted_or : Option Errno → ℕ → Does → Does
counted_or None done later = later
counted_or (Some errno) done later = record { turns = []; reply = Count (Some errno) done }

abbrev pub writes : Shape → ℕ → ℕ → State → List Verb → ℕ → Does
writes shape cpu number state [] done = record { turns = []; reply = Count None done }
writes shape cpu number state (entry ∷ entries) done =
    let one : Does = key_does shape cpu number state entry in
    first_does one.turns (counted_or (refused_with one.reply) done (writes shape cpu number (all_turned shape cpu number one.turns state) entries (suc done)))

abbrev pub write_does : Shape → ℕ → ℕ → State → ℕ → List Verb → Does
write_does shape cpu number state flags entries =
    if flags == 0 then writes shape cpu number state entries 0 else record { turns = []; reply = Refused Einval }

-- Walks over all elements. Each bucket is told as it lies there; what is told of it is handed over up to the key at which the walk
-- stops, and the walk ends behind that key's bucket.

abbrev pub after_handing : Shape → ℕ → Option (List ℕ) → ℕ → List (List ℕ × List ℕ) → Walked → (List (List ℕ × List ℕ) → Does) → Does
after_handing shape cpu stop bucket before (Over n) later = record { turns = []; reply = Batch None before bucket }
after_handing shape cpu stop bucket before (Taken all) later =
    let now : List (List ℕ × List ℕ) = before ++ up_to_stop stop (map (handed shape cpu) all) in
    if list_any (is_stop stop) (map (handed shape cpu) all) then record { turns = []; reply = Batch None now (suc bucket) } else later now

abbrev pub hands : Shape → ℕ → State → Option (List ℕ) → List ℕ → List (List ℕ × List ℕ) → Does
hands shape cpu state stop [] before = record { turns = []; reply = Batch None before shape.buckets }
hands shape cpu state stop (bucket ∷ buckets) before =
    let room : ℕ = shape.elements - length before in
    let result : Walked = walked shape cpu room (bucket_at shape state bucket) in
    first_does (on_lock (Bucket bucket) (parts.Bucket (Walk false room result)) ∷ []) (after_handing shape cpu stop bucket before result (λ now. hands shape cpu state stop buckets now))

unfoldable pub each_does : Shape → ℕ → State → ℕ → Option (List ℕ) → Does
each_does shape cpu state flags stop =
    if flags == 0 then hands shape cpu state stop (buckets_from shape 0) [] else record { turns = []; reply = Refused Einval }

-- Every call

unfoldable pub does : Shape → ℕ → ℕ → State → Verb → Does
does shape cpu number state (verbs.Lookup side key) = key_does shape cpu number state (verbs.Lookup side key)
does shape cpu number state (verbs.Update side flags key value) = key_does shape cpu number state (verbs.Update side flags key value)
does shape cpu number state (verbs.Delete key) = key_does shape cpu number state (verbs.Delete key)
does shape cpu number state (verbs.Take key) = key_does shape cpu number state (verbs.Take key)
does shape cpu number state (verbs.Next key) = next_does shape state key
does shape cpu number state (verbs.BatchRead remove count start flags) = read_does shape cpu number state remove count start flags
does shape cpu number state (verbs.BatchUpdate flags pairs) = write_does shape cpu number state flags (updates_of pairs)
does shape cpu number state (verbs.BatchDelete flags keys) = write_does shape cpu number state flags (deletes_of keys)
does shape cpu number state (verbs.Each flags stop) = each_does shape cpu state flags stop

-- Runs

-- a new map: no lock has had a turn, no bit is set, and on HASH each CPU has a spare
abbrev pub new_state : Shape → State
new_state shape = record { next_ticket = 0; logs = λ lock. []; bits = λ e. false; spares = slice_get (first_spares shape shape.kind) }

-- the map after calls in their order, where the first has this number, and their replies
abbrev pub after_one : Shape → ℕ → Call → State → State
after_one shape number call state = all_turned shape call.cpu number (does shape call.cpu number state call.verb).turns state

abbrev pub run : Shape → ℕ → List Call → State → State
run shape number [] state = state
run shape number (call ∷ calls) state = run shape (suc number) calls (after_one shape number call state)

abbrev pub answers : Shape → ℕ → List Call → State → List Reply
answers shape number [] state = []
answers shape number (call ∷ calls) state =
    (does shape call.cpu number state call.verb).reply ∷ answers shape (suc number) calls (after_one shape number call state)

-- what a map holds: of the locks that it has, what lies under each
abbrev pub final_set : ListSet → SetFinal
final_set set = record {
  active = elements_of set.lists.active;
  inactive = elements_of set.lists.inactive;
  free = set.free;
  cursor = set.lists.cursor;
}

abbrev pub final_local : LocalLists → LocalFinal
final_local lists = record { free = lists.free; pending = elements_of lists.pending; steal = lists.steal }

abbrev pub where_lock : {A : Type 0} → Shape → (ℕ → DomainId) → (ℕ → A) → List ℕ → List A
where_lock shape lock tell names = map tell (filter (λ name. is_lock shape (lock name)) names)

unfoldable pub finals_of : Shape → State → Finals
finals_of shape state =
    let cpus : List ℕ = range_with_len 0 shape.cpus in
    record {
      buckets = where_lock shape Bucket (bucket_at shape state) (range_with_len 0 shape.buckets);
      freelists = where_lock shape Freelist (freelist_at shape state) cpus;
      spares = flat_map (λ cpu. option_to_list (state.spares cpu)) cpus;
      sets = where_lock shape (λ one. Global) (λ one. final_set (globals_at shape state)) (range_with_len 0 1) ++ where_lock shape CpuLru (λ cpu. final_set (own_at shape state cpu)) cpus;
      locals = where_lock shape Local (λ cpu. final_local (locals_at shape state cpu)) cpus;
      marked = filter state.bits (range_with_len 0 shape.elements);
    }

-- turns with what the log of their lock had before each
abbrev pub placed : Shape → ℕ → ℕ → List Turn → State → List TurnAt
placed shape cpu number [] state = []
placed shape cpu number (turn ∷ turns) state =
    (record { turn = turn; earlier = state.logs turn.lock }) ∷ placed shape cpu number turns (turned shape cpu number turn state)

-- A call in serial order does what the rules say: its turns are a trace of the call with its reply, and each may be made at
-- its place. What lies under the locks then, and the bits and spares, are by `turned` what these turns make of them.
pub record IsDone (shape : Shape) (cpu number : ℕ) (verb : Verb) (state : State) : Type 0 where
  pub trace : IsTrace shape cpu (state.spares cpu) verb (placed shape cpu number (does shape cpu number state verb).turns state) (does shape cpu number state verb).reply
  pub legal : AreLegalAt shape cpu (placed shape cpu number (does shape cpu number state verb).turns state)
