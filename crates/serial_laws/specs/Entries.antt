-- A map that doesn't evict, as its user sees it: keys with their values, and room for so many of them. It knows no
-- elements, freelists or spares, and of buckets only how many there are, and so no order of keys: which ones next key, batch reads and
-- walks over all elements tell, where they don't tell all, is not for it to say.
use Rattle.std.specs.Prelude.{◌≡◌, ℕ, ◌<◌, ◌≤◌, ◌==◌, nat_lt, not, Bool, List, [], ◌∷◌, ◌++◌, length, Option, Some, None, is_some, IsSome, MatchOption, find, filter, unwrap_or, bytes_eq, if◌then◌else◌, ⊤}
use Rattle.std.specs.List.{AllByRecursion}
use Rattle.map_types.specs.declared.attr.Shape.{Shape}
use Rattle.map_types.specs.declared.call.Call.{Call}
use Rattle.map_types.specs.declared.call.Verb.{Verb}
use Rattle.map_types.specs.declared.call.Verb.TheVariants.{Lookup, Update, Delete, Take, Next, BatchRead, BatchUpdate, BatchDelete, Each}
use Rattle.map_types.specs.declared.kind.Side.{Side}
use Rattle.map_types.specs.declared.kind.Side.TheVariants.{Prog, Sys}
use Rattle.map_types.specs.declared.refusal.Errno.{Errno}
use Rattle.map_types.specs.declared.refusal.Errno.TheVariants.{Enoent, E2big, Eexist, Einval}
use Rattle.map_types.specs.declared.reply.Reply.{Reply}
use Rattle.map_types.specs.declared.reply.Reply.TheVariants.{Done, Value, Refused, Batch, Count}
use Rattle.map_types.specs.Sides.{value_read, values_written, new_values}
use Rattle.map_report.specs.Serial.{each_done, unless_flags}

-- a key with its values: one for each CPU on the kinds that keep them apart, else one
pub record Entry : Type 0 where
  pub key : List ℕ
  pub values : List (List ℕ)

abbrev pub has_key : List ℕ → Entry → Bool
has_key key entry = bytes_eq entry.key key

abbrev pub entry_of : List ℕ → List Entry → Option Entry
entry_of key entries = find (has_key key) entries

abbrev pub without : List ℕ → List Entry → List Entry
without key entries = filter (λ entry. not (has_key key entry)) entries

-- what a side's lookup on a CPU answers
abbrev pub read : Shape → Side → ℕ → Option Entry → Reply
read shape side cpu None = Refused Enoent
read shape side cpu (Some entry) = Value (value_read shape side cpu entry.values)

-- the values of a key over which, or into which, a side writes a value on a CPU
abbrev pub values_put : Shape → Side → ℕ → List ℕ → Option Entry → List (List ℕ)
values_put shape side cpu value None = new_values shape side cpu value
values_put shape side cpu value (Some entry) = values_written shape side cpu entry.values value

abbrev pub put : Shape → Side → ℕ → List ℕ → List ℕ → List Entry → List Entry
put shape side cpu key value entries =
    record { key = key; values = values_put shape side cpu value (entry_of key entries) } ∷ without key entries

-- Why an update with these flags is refused, if it is: the flags aren't known, the key is there and was to be new
-- (BPF_NOEXIST, 1), it isn't there and was to be (BPF_EXIST, 2), or it would come to a map that is full.
abbrev pub refusal : ℕ → ℕ → Bool → ℕ → Option Errno
refusal capacity flags is_there count =
    if nat_lt 2 flags then Some Einval
    else if is_there then (if flags == 1 then Some Eexist else None)
    else if flags == 2 then Some Enoent
    else if count == capacity then Some E2big
    else None

-- a refused update leaves the entries as they were
abbrev pub unless : {A : Type 0} → Option Errno → A → A → A × Reply
unless None before after = (after, Done)
unless (Some errno) before after = (before, Refused errno)

-- what is left where the key is taken out, and the answer, which is ENOENT where it isn't there
abbrev pub taken_out : List ℕ → Reply → Option Entry → List Entry → List Entry × Reply
taken_out key reply None entries = (entries, Refused Enoent)
taken_out key reply (Some entry) entries = (without key entries, reply)

-- an update
abbrev pub put_in : Shape → Side → ℕ → ℕ → List ℕ → List ℕ → List Entry → List Entry × Reply
put_in shape side cpu flags key value entries =
    unless (refusal shape.capacity flags (is_some (entry_of key entries)) (length entries)) entries
    (put shape side cpu key value entries)

abbrev pub took_out : List ℕ → List Entry → List Entry × Reply
took_out key entries = taken_out key Done (entry_of key entries) entries

-- the entries without the keys that a batch read told
abbrev pub without_all : List (List ℕ × List ℕ) → List Entry → List Entry
without_all [] entries = entries
without_all (pair ∷ pairs) entries = without_all pairs (without pair.0 entries)

abbrev pub without_told : Reply → List Entry → List Entry
without_told Done entries = entries
without_told (Value bytes) entries = entries
without_told (Refused errno) entries = entries
without_told (Batch stop taken next) entries = without_all taken entries
without_told (Count stop done) entries = entries

-- Next key answers ENOENT where there is no key. Else it answers what it told.
abbrev pub told_next : Reply → List Entry → Reply
told_next told [] = Refused Enoent
told_next told (entry ∷ entries) = told

-- A batch read with a count of 0 does nothing. Any other answers what it told, and one that removes leaves the entries without the
-- keys that it told.
abbrev pub read_out : Bool → ℕ → Reply → List Entry → List Entry × Reply
read_out remove count told entries =
    if count == 0 then (entries, Done) else (if remove then without_told told entries else entries, told)

-- What a call on a CPU makes of the entries, and what it answers. Batch updates and batch deletes are their single calls one
-- after another, up to the first that is refused. In which order walks go over the keys isn't known here. So what a walk told,
-- the next key, the pairs of a batch or what was handed over, is handed in. A call whose flags aren't 0 where they are to be is
-- EINVAL, whatever it told.
unfoldable pub answered : Shape → ℕ → Verb → Reply → List Entry → List Entry × Reply
answered shape cpu (Lookup side key) told entries = (entries, read shape side cpu (entry_of key entries))
answered shape cpu (Update side flags key value) told entries = put_in shape side cpu flags key value entries
answered shape cpu (Delete key) told entries = took_out key entries
answered shape cpu (Take key) told entries = taken_out key (read shape Sys cpu (entry_of key entries)) (entry_of key entries) entries
answered shape cpu (Next key) told entries = (entries, told_next told entries)
answered shape cpu (BatchRead remove count start flags) told entries = unless_flags flags entries (read_out remove count told entries)
answered shape cpu (BatchUpdate flags pairs) told entries =
    unless_flags flags entries (each_done (λ (pair : List ℕ × List ℕ). put_in shape Sys cpu 0 pair.0 pair.1) pairs 0 entries)
answered shape cpu (BatchDelete flags keys) told entries = unless_flags flags entries (each_done took_out keys 0 entries)
answered shape cpu (Each flags stop) told entries = unless_flags flags entries (entries, told)

-- the answers to calls in their order, from entries on, and the entries after them, where the calls told these replies
abbrev pub answers_from : Shape → List Entry → List Call → List Reply → List Reply
answers_from shape entries [] told = []
answers_from shape entries (call ∷ calls) [] = []
answers_from shape entries (call ∷ calls) (reply ∷ told) =
    (answered shape call.cpu call.verb reply entries).1 ∷ answers_from shape (answered shape call.cpu call.verb reply entries).0 calls told

abbrev pub entries_after : Shape → List Entry → List Call → List Reply → List Entry
entries_after shape entries [] told = entries
entries_after shape entries (call ∷ calls) [] = entries
entries_after shape entries (call ∷ calls) (reply ∷ told) = entries_after shape (answered shape call.cpu call.verb reply entries).0 calls told

-- What walks tell is there.

-- the key has an entry, and the value is the one that the system call reads of it, which is the same on each CPU (here CPU 0)
abbrev pub IsThere : Shape → List Entry → List ℕ × List ℕ → Type 0
IsThere shape entries pair = MatchOption (entry_of pair.0 entries) ⊥ (λ entry. pair.1 ≡ value_read shape Sys 0 entry.values)

-- A walk may end here: there is no key at all, or the given one is there.
abbrev pub WalkMayEnd : Option (List ℕ) → List Entry → Type 0
WalkMayEnd None entries = entries ≡ []
WalkMayEnd (Some key) entries = entry_of key entries ≡ None → entries ≡ []

-- next key tells a key that has an entry, or ENOENT where a walk may end
abbrev pub TellsKey : Option (List ℕ) → List Entry → Reply → Type 0
TellsKey from entries Done = ⊥
TellsKey from entries (Value key) = IsSome (entry_of key entries)
TellsKey from entries (Refused errno) = (errno ≡ Enoent) × WalkMayEnd from entries
TellsKey from entries (Batch stop taken next) = ⊥
TellsKey from entries (Count stop done) = ⊥

-- a batch read that starts at some bucket tells pairs that are there, or ENOENT where it starts past the last bucket
abbrev pub TellsPairs : Shape → ℕ → List Entry → Reply → Type 0
TellsPairs shape start entries Done = ⊥
TellsPairs shape start entries (Value bytes) = ⊥
TellsPairs shape start entries (Refused errno) = (errno ≡ Enoent) × (shape.buckets ≤ start)
TellsPairs shape start entries (Batch stop taken next) = (start < shape.buckets) × AllByRecursion (IsThere shape entries) taken
TellsPairs shape start entries (Count stop done) = ⊥

-- the key has an entry, and the value is the one that a program reads of it on this CPU
abbrev pub IsThereFor : Shape → ℕ → List Entry → List ℕ × List ℕ → Type 0
IsThereFor shape cpu entries pair = MatchOption (entry_of pair.0 entries) ⊥ (λ entry. pair.1 ≡ value_read shape Prog cpu entry.values)

-- no two of the pairs have one key
abbrev pub HasNoKeyTwice : List (List ℕ × List ℕ) → Type 0
HasNoKeyTwice pairs = (key : List ℕ) → length (filter (λ (pair : List ℕ × List ℕ). bytes_eq pair.0 key) pairs) ≤ 1

-- the last of the pairs has this key
abbrev pub EndsAt : List ℕ → List (List ℕ × List ℕ) → Type 0
EndsAt key pairs = (before : List (List ℕ × List ℕ)) × (value : List ℕ) × (pairs ≡ before ++ (key, value) ∷ [])

-- as many pairs as there are entries; or, where a walk is to stop at a key that is there, that one's is the last
abbrev pub HandsAll : Option (List ℕ) → List Entry → List (List ℕ × List ℕ) → Type 0
HandsAll None entries over = length over ≡ length entries
HandsAll (Some key) entries over = MatchOption (entry_of key entries) (length over ≡ length entries) (λ entry. EndsAt key over)

-- A walk over all elements ends with no error, and tells pairs that are there, none of them twice: all, or, where the key at which it is to
-- stop is there, some of which that one's is the last. Their order, and where the walk ends, isn't said here, but on the lists.
abbrev pub TellsHanded : Shape → ℕ → Option (List ℕ) → List Entry → Reply → Type 0
TellsHanded shape cpu stop entries Done = ⊥
TellsHanded shape cpu stop entries (Value bytes) = ⊥
TellsHanded shape cpu stop entries (Refused errno) = ⊥
TellsHanded shape cpu stop entries (Batch error over next) =
    (error ≡ None) × AllByRecursion (IsThereFor shape cpu entries) over × HasNoKeyTwice over × HandsAll stop entries over
TellsHanded shape cpu stop entries (Count error done) = ⊥

-- Of a batch read whose flags aren't 0, or whose count is 0, `answered` says all, and of a walk over all elements whose flags aren't 0.
abbrev pub TellsThere : Shape → ℕ → List Entry → Verb → Reply → Type 0
TellsThere shape cpu entries (Lookup side key) reply = ⊤
TellsThere shape cpu entries (Update side flags key value) reply = ⊤
TellsThere shape cpu entries (Delete key) reply = ⊤
TellsThere shape cpu entries (Take key) reply = ⊤
TellsThere shape cpu entries (Next key) reply = TellsKey key entries reply
TellsThere shape cpu entries (BatchRead remove count start flags) reply =
    flags ≡ 0 → 0 < count → TellsPairs shape (unwrap_or start 0) entries reply
TellsThere shape cpu entries (BatchUpdate flags pairs) reply = ⊤
TellsThere shape cpu entries (BatchDelete flags keys) reply = ⊤
TellsThere shape cpu entries (Each flags stop) reply = flags ≡ 0 → TellsHanded shape cpu stop entries reply
