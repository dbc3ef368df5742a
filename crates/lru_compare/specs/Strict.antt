-- A run of a map of strict recency, which evicts the pair that was used least recently and no other: the calls of a script one
-- after another, on a list of pairs, the most recently used first.
use Rattle.std.specs.Prelude.{ℕ, suc, ◌-◌, ◌==◌, nat_lt, Bool, true, false, List, [], ◌∷◌, length, take, Option, Some, None, is_some, if◌then◌else◌, bytes_eq}
use Rattle.std.specs.Map.{lookup, remove_entry}
use Rattle.map_types.specs.declared.call.Call.{Call}
use Rattle.map_types.specs.declared.call.Verb.{Verb}
use Rattle.map_types.specs.declared.call.Verb.TheVariants.{Lookup, Update, Delete, Take, Next, BatchRead, BatchUpdate, BatchDelete, Each}
use Rattle.map_types.specs.declared.kind.MapKind.{MapKind}
use Rattle.map_types.specs.declared.kind.MapKind.TheVariants.{Hash, PercpuHash, LruHash, LruPercpuHash}
use Rattle.map_types.specs.declared.kind.Side.{Side}
use Rattle.map_types.specs.declared.kind.Side.TheVariants.{Prog, Sys}
use Rattle.map_types.specs.declared.refusal.Errno.{Errno}
use Rattle.map_types.specs.declared.refusal.Errno.TheVariants.{Enoent, Eexist, Einval}
use Rattle.map_types.specs.declared.reply.Reply.{Reply}
use Rattle.map_types.specs.declared.reply.Reply.TheVariants.{Done, Value, Refused}

-- keys with their values, the most recently used first
abbrev pub Pairs : Type 0
Pairs = List (List ℕ × List ℕ)

-- what such a map holds: how many pairs it may have, its pairs, and how many it has evicted
pub record Held : Type 0 where
  pub capacity : ℕ
  pub pairs : Pairs
  pub evicted : ℕ

-- a new one is empty
abbrev pub holds_none : ℕ → Held
holds_none capacity = record { capacity = capacity; pairs = []; evicted = 0 }

abbrev pub with_pairs : Held → Pairs → Held
with_pairs held pairs = record held { pairs = pairs }

-- the value of a key, and the pairs without the key's
abbrev pub value_of : List ℕ → Held → Option (List ℕ)
value_of key held = lookup (bytes_eq key) held.pairs

abbrev pub without : List ℕ → Held → Pairs
without key held = remove_entry (bytes_eq key) held.pairs

-- Why an update with these flags is refused, if it is: the flags aren't known, the key is there and was to be new (BPF_NOEXIST,
-- 1), or it isn't there and was to be (BPF_EXIST, 2).
abbrev pub refusal : ℕ → Bool → Option Errno
refusal flags is_there =
    if nat_lt 2 flags then Some Einval
    else if is_there then (if flags == 1 then Some Eexist else None)
    else (if flags == 2 then Some Enoent else None)

-- where there are more pairs than the capacity, the last one goes, and counts as evicted
abbrev pub within_capacity : Held → Held
within_capacity held =
    if nat_lt held.capacity (length held.pairs)
    then record { capacity = held.capacity; pairs = take (length held.pairs - 1) held.pairs; evicted = suc held.evicted }
    else held

-- An update that is refused changes nothing. Else its pair is put first, and the key's older pair goes.
abbrev pub unless_refused : Option Errno → Held → Held → Held × Reply
unless_refused None after before = (within_capacity after, Done)
unless_refused (Some errno) after before = (before, Refused errno)

abbrev pub put_in : ℕ → List ℕ → List ℕ → Held → Held × Reply
put_in flags key value held =
    unless_refused (refusal flags (is_some (value_of key held))) (with_pairs held ((key, value) ∷ without key held)) held

-- a program's lookup that finds its key moves the pair to the front, and the system call's changes nothing
abbrev pub used_by : Side → List ℕ → List ℕ → Held → Held
used_by Prog key value held = with_pairs held ((key, value) ∷ without key held)
used_by Sys key value held = held

abbrev pub looked_up : Side → List ℕ → Option (List ℕ) → Held → Held × Reply
looked_up side key None held = (held, Refused Enoent)
looked_up side key (Some value) held = (used_by side key value held, Value value)

-- a delete and a take remove the pair, or answer ENOENT
abbrev pub taken_out : List ℕ → (List ℕ → Reply) → Option (List ℕ) → Held → Held × Reply
taken_out key answer None held = (held, Refused Enoent)
taken_out key answer (Some value) held = (with_pairs held (without key held), answer value)

-- What a call makes of such a map, and what it answers. No other call is made on it (`refused`).
unfoldable pub after_call : Verb → Held → Held × Reply
after_call (Lookup side key) held = looked_up side key (value_of key held) held
after_call (Update side flags key value) held = put_in flags key value held
after_call (Delete key) held = taken_out key (λ value. Done) (value_of key held) held
after_call (Take key) held = taken_out key Value (value_of key held) held
after_call (Next key) held = (held, Refused Einval)
after_call (BatchRead remove count start flags) held = (held, Refused Einval)
after_call (BatchUpdate flags pairs) held = (held, Refused Einval)
after_call (BatchDelete flags keys) held = (held, Refused Einval)
after_call (Each flags stop) held = (held, Refused Einval)

-- the replies of calls in their order, and what the map holds after them
abbrev pub replies_from : Held → List Call → List Reply
replies_from held [] = []
replies_from held (call ∷ calls) = (after_call call.verb held).1 ∷ replies_from (after_call call.verb held).0 calls

abbrev pub held_after : Held → List Call → Held
held_after held [] = held
held_after held (call ∷ calls) = held_after (after_call call.verb held).0 calls

-- a lookup, an update, a delete or a take
abbrev pub is_asked : Verb → Bool
is_asked (Lookup side key) = true
is_asked (Update side flags key value) = true
is_asked (Delete key) = true
is_asked (Take key) = true
is_asked (Next key) = false
is_asked (BatchRead remove count start flags) = false
is_asked (BatchUpdate flags pairs) = false
is_asked (BatchDelete flags keys) = false
is_asked (Each flags stop) = false

abbrev pub is_lru_hash : MapKind → Bool
is_lru_hash Hash = false
is_lru_hash PercpuHash = false
is_lru_hash LruHash = true
is_lru_hash LruPercpuHash = false
