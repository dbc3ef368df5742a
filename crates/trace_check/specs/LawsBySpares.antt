-- What the readers of calls promise that are told the spare before each turn.
use Rattle.std.specs.Prelude.{◌≡◌, ℕ, ◌-◌, ◌≤◌, false, List, ◌∷◌, ◌++◌, length, take, Option, None, Some}
use Rattle.map_types.specs.declared.attr.Shape.{Shape}
use Rattle.map_types.specs.declared.call.Verb.{Verb}
use Rattle.map_types.specs.declared.reply.Reply.{Reply}
use Rattle.map_types.specs.Kind.{is_lru}
use Rattle.place_words.specs.Turns.{Turn, TurnAt, turns_of}
use Rattle.trace_check.specs.BySpares.{Spares, Left, IsTraceBy, read_plain_by}
use Rattle.trace_check.specs.Laws.{FoundAt}
use Rattle.trace_check.specs.Reading.{Reads}

-- The spares of these turns are told by how many turns are left.
abbrev pub AreSpares : Spares → Left → List TurnAt → Type 0
AreSpares spares left turns =
    (before one rest : List TurnAt) (at : TurnAt) → turns ≡ before ++ ((at ∷ one) ++ rest) → spares (at ∷ one) ≡ left (length ((at ∷ one) ++ rest))

pub record IsReaderBy (Rel : List TurnAt → Reply → Type 0) (read : Reads Reply) (turns : List TurnAt) : Type 0 where
  pub sound : (rest : List Turn) (reply : Reply) → read (turns_of turns) ≡ Some (reply, rest) → FoundAt Rel turns rest reply
  pub complete : (one more : List TurnAt) (reply : Reply) → turns ≡ one ++ more → Rel one reply → read (turns_of turns) ≡ Some (reply, turns_of more)

abbrev pub ReadsCallsBy : Type 0
ReadsCallsBy = (shape : Shape) (cpu : ℕ) (spares : Spares) (left : Left) (verb : Verb) → is_lru shape.kind ≡ false → (turns : List TurnAt) → AreSpares spares left turns →
    IsReaderBy (IsTraceBy shape cpu spares verb) (read_plain_by shape cpu left verb) turns

-- How many turns at the beginning are the call's, and its reply.
abbrev pub counted_by : ℕ → Option (Reply × List Turn) → Option (ℕ × Reply)
counted_by n None = None
counted_by n (Some found) = Some (n - length found.1, found.0)

abbrev pub read_count_by : Shape → ℕ → Left → Verb → List Turn → Option (ℕ × Reply)
read_count_by shape cpu left verb turns = counted_by (length turns) (read_plain_by shape cpu left verb turns)

abbrev pub AreCallBy : Shape → ℕ → Spares → Verb → List TurnAt → ℕ → Reply → Type 0
AreCallBy shape cpu spares verb turns n reply = (n ≤ length turns) × IsTraceBy shape cpu spares verb (take n turns) reply

abbrev pub CountsTurnsBy : Type 0
CountsTurnsBy = (shape : Shape) (cpu : ℕ) (spares : Spares) (left : Left) (verb : Verb) → is_lru shape.kind ≡ false → (turns : List TurnAt) → AreSpares spares left turns →
    (n : ℕ) (reply : Reply) →
    (read_count_by shape cpu left verb (turns_of turns) ≡ Some (n, reply) → AreCallBy shape cpu spares verb turns n reply)
    × (AreCallBy shape cpu spares verb turns n reply → read_count_by shape cpu left verb (turns_of turns) ≡ Some (n, reply))

-- No two beginnings of the same turns are one call's.
abbrev pub OneBeginningBy : Type 0
OneBeginningBy = (shape : Shape) (cpu : ℕ) (spares : Spares) (left : Left) (verb : Verb) → is_lru shape.kind ≡ false → (turns : List TurnAt) → AreSpares spares left turns →
    (n m : ℕ) (first second : Reply) → AreCallBy shape cpu spares verb turns n first → AreCallBy shape cpu spares verb turns m second → (n ≡ m) × (first ≡ second)
