-- Calls that are told the spare of their CPU before each of their turns, in the place of one that is handed on from turn to turn.
use Rattle.std.specs.Prelude.{◌≡◌, ℕ, suc, ◌==◌, MatchBool, MatchOption, List, [], ◌∷◌, ◌++◌, length, Option, None, Some}
use Rattle.map_types.specs.declared.attr.Shape.{Shape}
use Rattle.map_types.specs.declared.call.Verb.{Verb}
use Rattle.map_types.specs.declared.call.Verb.TheVariants as verbs
use Rattle.map_types.specs.declared.refusal.Errno.{Errno}
use Rattle.map_types.specs.declared.refusal.Errno.TheVariants.{Einval}
use Rattle.map_types.specs.declared.reply.Reply.{Reply}
use Rattle.map_types.specs.declared.reply.Reply.TheVariants.{Refused, Count}
use Rattle.place_words.specs.Traces.{IsTrace}
use Rattle.place_words.specs.Turns.{TurnAt}
use Rattle.place_words.specs.Walks.{IsKeyTrace, refused_with, updates_of, deletes_of}
use Rattle.trace_check.specs.Reading.{Reads, read_nothing, read_as, read_then}
use Rattle.trace_check.specs.Calls.{Answer, read_if, read_key, read_plain}

-- the spare of a CPU before the first of some turns
abbrev pub Spares : Type 0
Spares = List TurnAt → Option ℕ

-- A batch write, each of whose entries finds the spare that its CPU has before the entry's turns.
abbrev pub WritesBy : Shape → ℕ → Spares → List Verb → ℕ → List TurnAt → Reply → Type 0
WritesBy shape cpu spares [] done turns reply = (turns ≡ []) × (reply ≡ Count None done)
WritesBy shape cpu spares (entry ∷ entries) done turns reply =
    (answer : Reply) × (one : List TurnAt) × (rest : List TurnAt)
    × ((turns ≡ one ++ rest) × IsKeyTrace shape cpu (spares one) entry one answer
    × MatchOption (refused_with answer)
    (WritesBy shape cpu spares entries (suc done) rest reply)
    (λ errno. (rest ≡ []) × (reply ≡ Count (Some errno) done)))

abbrev pub IsWriteBatchBy : Shape → ℕ → Spares → ℕ → List Verb → List TurnAt → Reply → Type 0
IsWriteBatchBy shape cpu spares flags entries turns reply =
    MatchBool (flags == 0) (WritesBy shape cpu spares entries 0 turns reply) ((turns ≡ []) × (reply ≡ Refused Einval))

-- The turns of a call, and its reply. Only updates find a spare.
abbrev pub IsTraceBy : Shape → ℕ → Spares → Verb → List TurnAt → Reply → Type 0
IsTraceBy shape cpu spares (verbs.Lookup side key) turns reply = IsTrace shape cpu None (verbs.Lookup side key) turns reply
IsTraceBy shape cpu spares (verbs.Update side flags key value) turns reply = IsTrace shape cpu (spares turns) (verbs.Update side flags key value) turns reply
IsTraceBy shape cpu spares (verbs.Delete key) turns reply = IsTrace shape cpu None (verbs.Delete key) turns reply
IsTraceBy shape cpu spares (verbs.Take key) turns reply = IsTrace shape cpu None (verbs.Take key) turns reply
IsTraceBy shape cpu spares (verbs.Next key) turns reply = IsTrace shape cpu None (verbs.Next key) turns reply
IsTraceBy shape cpu spares (verbs.BatchRead remove count start flags) turns reply = IsTrace shape cpu None (verbs.BatchRead remove count start flags) turns reply
IsTraceBy shape cpu spares (verbs.BatchUpdate flags pairs) turns reply = IsWriteBatchBy shape cpu spares flags (updates_of pairs) turns reply
IsTraceBy shape cpu spares (verbs.BatchDelete flags keys) turns reply = IsTrace shape cpu None (verbs.BatchDelete flags keys) turns reply
IsTraceBy shape cpu spares (verbs.Each flags stop) turns reply = IsTrace shape cpu None (verbs.Each flags stop) turns reply

-- The readers: the spare before a turn goes by how many turns are left, that one included.
abbrev pub Left : Type 0
Left = ℕ → Option ℕ

abbrev pub read_reply : Reads Answer → Reads Reply
read_reply read = read_as (λ answer. answer.0) read

abbrev pub read_key_by : Shape → ℕ → Left → Verb → Reads Reply
read_key_by shape cpu spares verb turns = read_reply (read_key shape cpu (spares (length turns)) verb) turns

-- only the error with which an entry was refused, if it was
abbrev pub read_entry : Shape → ℕ → Left → Verb → Reads (Option Errno)
read_entry shape cpu spares entry = read_as (λ reply. refused_with reply) (read_key_by shape cpu spares entry)

abbrev pub after_write_by : ℕ → Reads Reply → Option Errno → Reads Reply
after_write_by done more None = more
after_write_by done more (Some errno) = read_nothing (Count (Some errno) done)

abbrev pub read_writes_by : Shape → ℕ → Left → List Verb → ℕ → Reads Reply
read_writes_by shape cpu spares [] done = read_nothing (Count None done)
read_writes_by shape cpu spares (entry ∷ entries) done =
    read_then (read_entry shape cpu spares entry) (after_write_by done (read_writes_by shape cpu spares entries (suc done)))

abbrev pub read_write_batch_by : Shape → ℕ → Left → ℕ → List Verb → Reads Reply
read_write_batch_by shape cpu spares flags entries =
    read_if (flags == 0) (read_writes_by shape cpu spares entries 0) (read_nothing (Refused Einval))

abbrev pub read_plain_by : Shape → ℕ → Left → Verb → Reads Reply
read_plain_by shape cpu spares (verbs.Lookup side key) = read_reply (read_plain shape cpu None (verbs.Lookup side key))
read_plain_by shape cpu spares (verbs.Update side flags key value) = read_key_by shape cpu spares (verbs.Update side flags key value)
read_plain_by shape cpu spares (verbs.Delete key) = read_reply (read_plain shape cpu None (verbs.Delete key))
read_plain_by shape cpu spares (verbs.Take key) = read_reply (read_plain shape cpu None (verbs.Take key))
read_plain_by shape cpu spares (verbs.Next key) = read_reply (read_plain shape cpu None (verbs.Next key))
read_plain_by shape cpu spares (verbs.BatchRead remove count start flags) = read_reply (read_plain shape cpu None (verbs.BatchRead remove count start flags))
read_plain_by shape cpu spares (verbs.BatchUpdate flags pairs) = read_write_batch_by shape cpu spares flags (updates_of pairs)
read_plain_by shape cpu spares (verbs.BatchDelete flags keys) = read_write_batch_by shape cpu spares flags (deletes_of keys)
read_plain_by shape cpu spares (verbs.Each flags stop) = read_reply (read_plain shape cpu None (verbs.Each flags stop))
