-- What the readers of calls promise.
use Rattle.std.specs.Prelude.{◌≡◌, ℕ, ◌-◌, ◌≤◌, false, List, ◌++◌, length, take, Option, None, Some}
use Rattle.map_types.specs.declared.attr.Shape.{Shape}
use Rattle.map_types.specs.declared.call.Verb.TheVariants as verbs
use Rattle.map_types.specs.declared.call.Verb.{Verb}
use Rattle.map_types.specs.declared.kind.Side.{Side}
use Rattle.place_words.specs.PlainTraces.{IsPlainTrace, spare_after}
use Rattle.map_types.specs.Kind.{is_lru}
use Rattle.place_words.specs.Turns.{Turn, TurnAt, turns_of}
use Rattle.place_words.specs.Traces.{IsTrace}
use Rattle.place_words.specs.Walks.{IsNextTrace, IsWriteBatch, spare_left}
use Rattle.trace_check.specs.Reading.{Reads, IsReader}
use Rattle.trace_check.specs.Calls.{Answer, read_lookup, read_delete, read_take, read_update, read_next, read_write_batch, read_plain}

-- the turns of a call on one key, its reply, and the spare that it leaves
abbrev pub IsKeyCall : Shape → ℕ → Option ℕ → Verb → List Turn → Answer → Type 0
IsKeyCall shape cpu spare verb turns answer = IsPlainTrace shape cpu spare verb turns answer.0 × (answer.1 ≡ spare_after spare turns)

abbrev pub ReadsLookups : Type 0
ReadsLookups = (shape : Shape) (cpu : ℕ) (spare : Option ℕ) (side : Side) (key : List ℕ) →
    IsReader (IsKeyCall shape cpu spare (verbs.Lookup side key)) (read_lookup shape spare side key)

abbrev pub ReadsDeletes : Type 0
ReadsDeletes = (shape : Shape) (cpu : ℕ) (spare : Option ℕ) (key : List ℕ) →
    IsReader (IsKeyCall shape cpu spare (verbs.Delete key)) (read_delete shape cpu spare key)

abbrev pub ReadsTakes : Type 0
ReadsTakes = (shape : Shape) (cpu : ℕ) (spare : Option ℕ) (key : List ℕ) →
    IsReader (IsKeyCall shape cpu spare (verbs.Take key)) (read_take shape cpu spare key)

abbrev pub ReadsUpdates : Type 0
ReadsUpdates = (shape : Shape) (cpu : ℕ) (spare : Option ℕ) (side : Side) (flags : ℕ) (key value : List ℕ) →
    IsReader (IsKeyCall shape cpu spare (verbs.Update side flags key value)) (read_update shape cpu spare side flags key value)

abbrev pub ReadsNext : Type 0
ReadsNext = (shape : Shape) (key : Option (List ℕ)) → IsReader (IsNextTrace shape key) (read_next shape key)

-- The same of turns that have what came before them on their locks.
pub record FoundAt {A : Type 0} (Rel : List TurnAt → A → Type 0) (turns : List TurnAt) (rest : List Turn) (a : A) : Type 0 where
  pub one : List TurnAt
  pub more : List TurnAt
  pub turns_are : turns ≡ one ++ more
  pub rest_is : turns_of more ≡ rest
  pub is : Rel one a

pub record IsReaderAt {A : Type 0} (Rel : List TurnAt → A → Type 0) (read : Reads A) : Type 0 where
  pub sound : (turns : List TurnAt) (rest : List Turn) (a : A) → read (turns_of turns) ≡ Some (a, rest) → FoundAt Rel turns rest a
  pub complete : (turns : List TurnAt) (rest : List Turn) (a : A) → Rel turns a → read (turns_of turns ++ rest) ≡ Some (a, rest)

abbrev pub IsBatchCall : Shape → ℕ → Option ℕ → ℕ → List Verb → List TurnAt → Answer → Type 0
IsBatchCall shape cpu spare flags entries turns answer =
    IsWriteBatch shape cpu spare flags entries turns answer.0 × (answer.1 ≡ spare_left shape spare turns)

abbrev pub ReadsWriteBatches : Type 0
ReadsWriteBatches = (shape : Shape) (cpu : ℕ) (spare : Option ℕ) (flags : ℕ) (entries : List Verb) → is_lru shape.kind ≡ false →
    IsReaderAt (IsBatchCall shape cpu spare flags entries) (read_write_batch shape cpu spare flags entries)

-- Every call on a map that doesn't evict: its turns, its reply, and the spare that it leaves the CPU.
abbrev pub IsCall : Shape → ℕ → Option ℕ → Verb → List TurnAt → Answer → Type 0
IsCall shape cpu spare verb turns answer = IsTrace shape cpu spare verb turns answer.0 × (answer.1 ≡ spare_left shape spare turns)

abbrev pub ReadsCalls : Type 0
ReadsCalls = (shape : Shape) (cpu : ℕ) (spare : Option ℕ) (verb : Verb) → is_lru shape.kind ≡ false →
    IsReaderAt (IsCall shape cpu spare verb) (read_plain shape cpu spare verb)

-- How many turns at the beginning are the call's, and what it answers.
abbrev pub counted : ℕ → Option (Answer × List Turn) → Option (ℕ × Answer)
counted n None = None
counted n (Some found) = Some (n - length found.1, found.0)

abbrev pub read_count : Shape → ℕ → Option ℕ → Verb → List Turn → Option (ℕ × Answer)
read_count shape cpu spare verb turns = counted (length turns) (read_plain shape cpu spare verb turns)

-- So many turns from here on are the call's, with this answer.
abbrev pub AreCall : Shape → ℕ → Option ℕ → Verb → List TurnAt → ℕ → Answer → Type 0
AreCall shape cpu spare verb turns n answer = (n ≤ length turns) × IsCall shape cpu spare verb (take n turns) answer

-- A number of turns is read exactly where so many are the call's; so none is read exactly where no beginning of them is.
abbrev pub CountsTurns : Type 0
CountsTurns = (shape : Shape) (cpu : ℕ) (spare : Option ℕ) (verb : Verb) → is_lru shape.kind ≡ false → (turns : List TurnAt) (n : ℕ) (answer : Answer) →
    (read_count shape cpu spare verb (turns_of turns) ≡ Some (n, answer) → AreCall shape cpu spare verb turns n answer)
    × (AreCall shape cpu spare verb turns n answer → read_count shape cpu spare verb (turns_of turns) ≡ Some (n, answer))

-- No two beginnings of the same turns are traces of one call, and its reply follows from its turns.
abbrev pub OneBeginning : Type 0
OneBeginning = (shape : Shape) (cpu : ℕ) (spare : Option ℕ) (verb : Verb) → is_lru shape.kind ≡ false → (turns : List TurnAt) (n m : ℕ) (first second : Answer) →
    AreCall shape cpu spare verb turns n first → AreCall shape cpu spare verb turns m second → (n ≡ m) × (first ≡ second)
