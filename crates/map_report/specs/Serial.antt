-- A run of a map that doesn't evict in serial order: the calls of a script one after another, on plain lists. The rules
-- are those of the kernel's `htab_map_lookup_elem` and `htab_percpu_map_lookup_elem`, `htab_map_update_elem` and
-- `htab_percpu_map_update_elem`, `bpf_percpu_hash_copy` and `bpf_percpu_hash_update` for the system call,
-- `htab_map_delete_elem`, `htab_map_lookup_and_delete_elem` and `htab_percpu_map_lookup_and_delete_elem`,
-- `htab_map_get_next_key`, `__htab_map_lookup_and_delete_batch`, `generic_map_update_batch`, `generic_map_delete_batch` and
-- `bpf_for_each_hash_elem`.
use Rattle.std.specs.Prelude.{ℕ, suc, ◌-◌, ◌==◌, nat_lt, min, Bool, true, false, List, [], ◌∷◌, ◌++◌, length, map, Option, Some, None, is_some, unwrap_or, replicate, slice_index, slice_index_or, slice_set, if◌then◌else◌}
use Rattle.std.specs.List.{flat_map}
use Rattle.map_types.specs.declared.attr.Shape.{Shape}
use Rattle.map_types.specs.declared.call.Call.{Call}
use Rattle.map_types.specs.declared.call.Verb.{Verb}
use Rattle.map_types.specs.declared.call.Verb.TheVariants.{Lookup, Update, Delete, Take, Next, BatchRead, BatchUpdate, BatchDelete, Each}
use Rattle.map_types.specs.declared.kind.MapKind.{MapKind}
use Rattle.map_types.specs.declared.kind.MapKind.TheVariants.{Hash, PercpuHash, LruHash, LruPercpuHash}
use Rattle.map_types.specs.declared.kind.Side.{Side}
use Rattle.map_types.specs.declared.kind.Side.TheVariants.{Prog, Sys}
use Rattle.map_types.specs.declared.refusal.Errno.{Errno}
use Rattle.map_types.specs.declared.refusal.Errno.TheVariants.{Enoent, E2big, Eexist, Einval}
use Rattle.map_types.specs.declared.reply.Reply.{Reply}
use Rattle.map_types.specs.declared.reply.Reply.TheVariants.{Done, Value, Refused, Batch, Count}
use Rattle.map_types.specs.Kind.{is_percpu}
use Rattle.map_types.specs.Sides.{value_read, values_written}
use Rattle.map_types.specs.Stored.{Stored}
use Rattle.place_words.specs.declared.finals.Finals.{Finals}
use Rattle.place_words.specs.Bodies.{present, without_key, first_key, next_key, numbers}
pub use Rattle.place_words.specs.Buckets.{new_stored}
use Rattle.place_words.specs.Handing.{up_to_stop}
use Rattle.place_words.specs.Walks.{buckets_from, stopped_at, refused_with}
use Rattle.map_report.specs.Buckets.{bucket_of_key, with_in_place}
use Rattle.map_report.specs.Freelists.{opening_stacks, spares_popped, popped, pushed}

-- a map of kind HASH has a spare element for each CPU, and one of another kind has none
abbrev pub has_spares : MapKind → Bool
has_spares Hash = true
has_spares PercpuHash = false
has_spares LruHash = false
has_spares LruPercpuHash = false

abbrev pub spare_count : Shape → ℕ
spare_count shape = if has_spares shape.kind then shape.cpus else 0

-- A new map: each bucket is empty, and each element is on its CPU's freelist, but for the spares, which CPU 0 has popped
-- one after another (the kernel's `alloc_extra_elems`; that CPU 0 pops them is this project's own).
unfoldable pub opening : Shape → Finals
opening shape =
    let split = spares_popped (spare_count shape) (opening_stacks shape.elements shape.cpus) in
    record { buckets = replicate shape.buckets []; freelists = split.1; spares = split.0; sets = []; locals = []; marked = [] }

-- the bucket of a key, and the map with another list there
abbrev pub bucket_at : Shape → Finals → List ℕ → List Stored
bucket_at shape lists key = slice_index_or lists.buckets (bucket_of_key shape key) []

abbrev pub with_bucket : Shape → Finals → List ℕ → List Stored → Finals
with_bucket shape lists key bucket = record lists { buckets = slice_set lists.buckets (bucket_of_key shape key) bucket }

-- a side's lookup on a CPU answers the value of the key's element, or ENOENT
abbrev pub value_or_absent : Shape → Side → ℕ → Option Stored → Reply
value_or_absent shape side cpu None = Refused Enoent
value_or_absent shape side cpu (Some stored) = Value (value_read shape side cpu stored.values)

-- A present key of a map that has spares: the CPU's spare is the new element, at the bucket's head, and the old one
-- becomes the spare.
abbrev pub replaced : Shape → Side → ℕ → List ℕ → List ℕ → Finals → Stored → Finals
replaced shape side cpu key value lists old =
    record (with_bucket shape lists key (new_stored shape side cpu (slice_index lists.spares cpu) key value ∷ without_key key (bucket_at shape lists key)))
    { spares = slice_set lists.spares cpu old.element }

-- A present key of a map with a value for each CPU: the value is written in place.
abbrev pub written : Shape → Side → ℕ → List ℕ → List ℕ → Finals → Stored → Finals
written shape side cpu key value lists old =
    with_bucket shape lists key (with_in_place key (record old { values = values_written shape side cpu old.values value }) (bucket_at shape lists key))

-- An absent key: an element is popped, and the map is full where there is none.
abbrev pub added : Shape → Side → ℕ → List ℕ → List ℕ → Finals → Option (ℕ × List (List ℕ)) → Finals × Reply
added shape side cpu key value lists None = (lists, Refused E2big)
added shape side cpu key value lists (Some top) =
    (record (with_bucket shape lists key (new_stored shape side cpu top.0 key value ∷ bucket_at shape lists key)) { freelists = top.1 }, Done)

-- BPF_NOEXIST (1) refuses a present key, and BPF_EXIST (2) an absent one.
abbrev pub updated : Shape → Side → ℕ → ℕ → List ℕ → List ℕ → Finals → Option Stored → Finals × Reply
updated shape side cpu flags key value lists (Some old) =
    if flags == 1 then (lists, Refused Eexist)
    else (if is_percpu shape.kind then written shape side cpu key value lists old else replaced shape side cpu key value lists old, Done)
updated shape side cpu flags key value lists None =
    if flags == 2 then (lists, Refused Enoent) else added shape side cpu key value lists (popped cpu lists.freelists)

-- a deleted element goes to the calling CPU's freelist
abbrev pub deleted : Shape → ℕ → List ℕ → Finals → Reply → Option Stored → Finals × Reply
deleted shape cpu key lists reply None = (lists, Refused Enoent)
deleted shape cpu key lists reply (Some old) =
    (record (with_bucket shape lists key (without_key key (bucket_at shape lists key))) { freelists = pushed cpu old.element lists.freelists }, reply)

-- an update, where a flag above 2 is refused before anything is looked at; that BPF_F_LOCK (4) is among those that are
-- refused is this project's own
abbrev pub after_update : Shape → Side → ℕ → ℕ → List ℕ → List ℕ → Finals → Finals × Reply
after_update shape side cpu flags key value lists =
    if nat_lt 2 flags then (lists, Refused Einval)
    else updated shape side cpu flags key value lists (present key (bucket_at shape lists key))

abbrev pub after_delete : Shape → ℕ → List ℕ → Finals → Finals × Reply
after_delete shape cpu key lists = deleted shape cpu key lists Done (present key (bucket_at shape lists key))

-- what lies in the bucket of a number
abbrev pub in_bucket_at : Finals → ℕ → List Stored
in_bucket_at lists bucket = slice_index_or lists.buckets bucket []

-- all that lies in buckets, bucket after bucket, each from its head
abbrev pub in_order : Shape → (ℕ → List Stored) → List Stored
in_order shape lie = flat_map lie (buckets_from shape 0)

-- The key that follows a key among bodies. Where no key is given, or it isn't there, the first one follows.
abbrev pub key_after : Option (List ℕ) → List Stored → Option (List ℕ)
key_after None bodies = first_key bodies
key_after (Some key) bodies = if is_some (present key bodies) then next_key key bodies else first_key bodies

abbrev pub key_or_absent : Option (List ℕ) → Reply
key_or_absent None = Refused Enoent
key_or_absent (Some key) = Value key

-- a key with the value that the system call reads of it on a CPU, which is the same on each
abbrev pub pair_read : Shape → ℕ → Stored → List ℕ × List ℕ
pair_read shape cpu stored = (stored.key, value_read shape Sys cpu stored.values)

-- elements go to a CPU's freelist in their order
abbrev pub all_pushed : ℕ → List ℕ → List (List ℕ) → List (List ℕ)
all_pushed cpu [] stacks = stacks
all_pushed cpu (element ∷ elements) stacks = all_pushed cpu elements (pushed cpu element stacks)

-- a bucket is emptied, and its elements go to the calling CPU's freelist
abbrev pub emptied : ℕ → ℕ → Finals → Finals
emptied cpu bucket lists = record lists {
  buckets = slice_set lists.buckets bucket [];
  freelists = all_pushed cpu (numbers (in_bucket_at lists bucket)) lists.freelists;
}

abbrev pub if_emptied : Bool → ℕ → ℕ → Finals → Finals
if_emptied remove cpu bucket lists = if remove then emptied cpu bucket lists else lists

-- A batch read of these buckets takes each of them whole, as long as there is room for what it holds. A batch may take
-- `limit` pairs, and has taken these before. One that removes empties each bucket that it takes.
abbrev pub read_on : Shape → ℕ → Bool → ℕ → List ℕ → List (List ℕ × List ℕ) → Finals → Finals × Reply
read_on shape cpu remove limit [] taken lists = (lists, Batch (Some Enoent) taken shape.buckets)
read_on shape cpu remove limit (bucket ∷ buckets) taken lists =
    if nat_lt (limit - length taken) (length (in_bucket_at lists bucket)) then (lists, Batch (stopped_at taken) taken bucket)
    else read_on shape cpu remove limit buckets (taken ++ map (pair_read shape cpu) (in_bucket_at lists bucket)) (if_emptied remove cpu bucket lists)

-- A batch takes as many pairs as the map has elements at most. One of no pairs does nothing, wherever it starts, and any other
-- answers ENOENT where it starts past the last bucket.
abbrev pub after_read : Shape → ℕ → Bool → ℕ → ℕ → Finals → Finals × Reply
after_read shape cpu remove count start lists =
    if count == 0 then (lists, Done)
    else if nat_lt start shape.buckets then read_on shape cpu remove (min count shape.elements) (buckets_from shape start) [] lists
    else (lists, Refused Enoent)

-- Entries are done one after another, up to the first that is refused. `done` counts those before it.
abbrev pub unless_stopped : {X : Type 0} → Option Errno → ℕ → X → X × Reply → X × Reply
unless_stopped None done now later = later
unless_stopped (Some errno) done now later = (now, Count (Some errno) done)

abbrev pub each_done : {A X : Type 0} → (A → X → X × Reply) → List A → ℕ → X → X × Reply
each_done one [] done now = (now, Count None done)
each_done one (entry ∷ entries) done now =
    unless_stopped (refused_with (one entry now).1) done (one entry now).0 (each_done one entries (suc done) (one entry now).0)

-- batches and walks over all elements know no flags
abbrev pub unless_flags : {X : Type 0} → ℕ → X → X × Reply → X × Reply
unless_flags flags now after = if flags == 0 then after else (now, Refused Einval)

-- an element's key, and its value as a program reads it on a CPU
abbrev pub program_pair : Shape → ℕ → Stored → List ℕ × List ℕ
program_pair shape cpu stored = (stored.key, value_read shape Prog cpu stored.values)

-- the number behind the bucket of the key at which a walk stops, where that is there, or else the number of buckets
abbrev pub next_behind : Shape → Option (List ℕ) → List Stored → ℕ
next_behind shape None bodies = shape.buckets
next_behind shape (Some key) bodies = if is_some (present key bodies) then suc (bucket_of_key shape key) else shape.buckets

-- A walk over all elements hands over each element in the order of buckets, as a program on its CPU reads it, up to and including the key
-- at which it stops, and answers where it ended.
abbrev pub handing_reply : Shape → ℕ → Option (List ℕ) → List Stored → Reply
handing_reply shape cpu stop bodies =
    Batch None (up_to_stop stop (map (program_pair shape cpu) bodies)) (next_behind shape stop bodies)

-- What a call on a CPU does to the map, and what it answers. A take answers as the system call's lookup. The entries of a batch
-- update are updates by the system call with BPF_ANY (0), and those of a batch delete are deletes.
unfoldable pub after_call : Shape → ℕ → Verb → Finals → Finals × Reply
after_call shape cpu (Lookup side key) lists = (lists, value_or_absent shape side cpu (present key (bucket_at shape lists key)))
after_call shape cpu (Update side flags key value) lists = after_update shape side cpu flags key value lists
after_call shape cpu (Delete key) lists = after_delete shape cpu key lists
after_call shape cpu (Take key) lists =
    deleted shape cpu key lists (value_or_absent shape Sys cpu (present key (bucket_at shape lists key))) (present key (bucket_at shape lists key))
after_call shape cpu (Next key) lists = (lists, key_or_absent (key_after key (in_order shape (in_bucket_at lists))))
after_call shape cpu (BatchRead remove count start flags) lists = unless_flags flags lists (after_read shape cpu remove count (unwrap_or start 0) lists)
after_call shape cpu (BatchUpdate flags pairs) lists =
    unless_flags flags lists (each_done (λ (pair : List ℕ × List ℕ). after_update shape Sys cpu 0 pair.0 pair.1) pairs 0 lists)
after_call shape cpu (BatchDelete flags keys) lists = unless_flags flags lists (each_done (after_delete shape cpu) keys 0 lists)
after_call shape cpu (Each flags stop) lists = unless_flags flags lists (lists, handing_reply shape cpu stop (in_order shape (in_bucket_at lists)))

-- the replies of calls in their order, from a state of the map on
abbrev pub replies_from : Shape → Finals → List Call → List Reply
replies_from shape lists [] = []
replies_from shape lists (call ∷ calls) =
    (after_call shape call.cpu call.verb lists).1 ∷ replies_from shape (after_call shape call.cpu call.verb lists).0 calls

-- the map after them
abbrev pub lists_after : Shape → Finals → List Call → Finals
lists_after shape lists [] = lists
lists_after shape lists (call ∷ calls) = lists_after shape (after_call shape call.cpu call.verb lists).0 calls
