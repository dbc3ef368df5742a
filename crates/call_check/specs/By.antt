-- The trace of a call by the spares that its CPU has before each of its turns. They aren't carried from turn to turn here, since
-- which turn is earlier goes by tickets.
use Rattle.std.specs.Prelude.{◌≡◌, ℕ, suc, ◌==◌, MatchBool, MatchOption, List, [], ◌∷◌, ◌++◌, Option, None, Some}
use Rattle.map_types.specs.declared.attr.Shape.{Shape}
use Rattle.map_types.specs.declared.call.Verb.{Verb}
use Rattle.map_types.specs.declared.call.Verb.TheVariants as verbs
use Rattle.map_types.specs.declared.refusal.Errno.TheVariants.{Einval}
use Rattle.map_types.specs.declared.reply.Reply.{Reply}
use Rattle.map_types.specs.declared.reply.Reply.TheVariants.{Refused, Count}
use Rattle.place_words.specs.Traces.{IsTrace}
use Rattle.place_words.specs.Turns.{TurnAt}
use Rattle.place_words.specs.Walks.{IsKeyTrace, refused_with, updates_of, deletes_of}

-- the calls of a batch write's entries, in order, up to the first that is refused, each by the spare before its first turn
abbrev pub WritesBy : Shape → ℕ → (List TurnAt → Option ℕ) → List Verb → ℕ → List TurnAt → Reply → Type 0
WritesBy shape cpu spares [] done turns reply = (turns ≡ []) × (reply ≡ Count None done)
WritesBy shape cpu spares (entry ∷ entries) done turns reply =
    (answer : Reply) × (one : List TurnAt) × (rest : List TurnAt)
    × ((turns ≡ one ++ rest) × IsKeyTrace shape cpu (spares one) entry one answer
    × MatchOption (refused_with answer)
    (WritesBy shape cpu spares entries (suc done) rest reply)
    (λ errno. (rest ≡ []) × (reply ≡ Count (Some errno) done)))

abbrev pub IsBatchBy : Shape → ℕ → (List TurnAt → Option ℕ) → ℕ → List Verb → List TurnAt → Reply → Type 0
IsBatchBy shape cpu spares flags entries turns reply =
    MatchBool (flags == 0) (WritesBy shape cpu spares entries 0 turns reply) ((turns ≡ []) × (reply ≡ Refused Einval))

-- the spare plays a part in updates alone
abbrev pub IsTraceBy : Shape → ℕ → (List TurnAt → Option ℕ) → Verb → List TurnAt → Reply → Type 0
IsTraceBy shape cpu spares (verbs.Lookup side key) turns reply = IsTrace shape cpu None (verbs.Lookup side key) turns reply
IsTraceBy shape cpu spares (verbs.Update side flags key value) turns reply = IsTrace shape cpu (spares turns) (verbs.Update side flags key value) turns reply
IsTraceBy shape cpu spares (verbs.Delete key) turns reply = IsTrace shape cpu None (verbs.Delete key) turns reply
IsTraceBy shape cpu spares (verbs.Take key) turns reply = IsTrace shape cpu None (verbs.Take key) turns reply
IsTraceBy shape cpu spares (verbs.Next key) turns reply = IsTrace shape cpu None (verbs.Next key) turns reply
IsTraceBy shape cpu spares (verbs.BatchRead remove count start flags) turns reply = IsTrace shape cpu None (verbs.BatchRead remove count start flags) turns reply
IsTraceBy shape cpu spares (verbs.BatchUpdate flags pairs) turns reply = IsBatchBy shape cpu spares flags (updates_of pairs) turns reply
IsTraceBy shape cpu spares (verbs.BatchDelete flags keys) turns reply = IsBatchBy shape cpu spares flags (deletes_of keys) turns reply
IsTraceBy shape cpu spares (verbs.Each flags stop) turns reply = IsTrace shape cpu None (verbs.Each flags stop) turns reply
