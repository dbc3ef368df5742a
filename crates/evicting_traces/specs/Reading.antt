-- Reading at the beginning of turns of a map that evicts, each with what its moment tells: what was read there, and the turns behind it.
use Rattle.std.specs.Prelude.{◌≡◌, ◌≢◌, MatchOption, ℕ, ◌-◌, Bool, true, false, List, [], ◌∷◌, ◌++◌, map, length, drop, Option, None, Some, if◌then◌else◌}
use Rattle.map_types.specs.declared.attr.Shape.{Shape}
use Rattle.place_words.specs.declared.history.Entry.{Entry}
use Rattle.place_words.specs.declared.history.Part.{Part}
use Rattle.place_words.specs.declared.history.Part.TheVariants as parts
use Rattle.place_words.specs.declared.list_part.LocalPart.{LocalPart}
use Rattle.place_words.specs.declared.list_part.LocalPart.TheVariants as local
use Rattle.place_words.specs.Takings.{ends_flushed}
use Rattle.place_words.specs.Turns.{Turn, TurnAt, found, IsLegalAt}
use Rattle.replay_words.specs.declared.note.Note.{Note}
use Rattle.replay_words.specs.Notes.{note_of}

-- A turn with what was noted of its moment. Of a push that found its element gone also whether a refill had flushed it.
pub record Seen : Type 0 where
  pub turn : Turn
  pub note : Note
  pub flushed : Bool

abbrev pub seen_of : Turn → Note → Bool → Seen
seen_of turn note flushed = record { turn = turn; note = note; flushed = flushed }

abbrev pub local_flushed : List Entry → LocalPart → Bool
local_flushed earlier (local.Pop hash e) = false
local_flushed earlier (local.Refill hash flushed gained got) = false
local_flushed earlier (local.Steal got first second) = false
local_flushed earlier (local.Add hash e cursor) = false
local_flushed earlier (local.Push e done) = if done then false else ends_flushed e false earlier

abbrev pub was_flushed : List Entry → Part → Bool
was_flushed earlier (parts.Bucket part) = false
was_flushed earlier (parts.Free part) = false
was_flushed earlier (parts.Local part) = local_flushed earlier part
was_flushed earlier (parts.Global part) = false
was_flushed earlier (parts.Own part) = false

abbrev pub seen_at : Shape → TurnAt → Seen
seen_at shape at = seen_of at.turn (note_of (found shape at) at.turn.part) (was_flushed at.earlier at.turn.part)

abbrev pub all_seen : Shape → List TurnAt → List Seen
all_seen shape turns = map (seen_at shape) turns

-- Turns of which the refills are allowed where they stand. Of the others nothing is asked.
abbrev pub refills : LocalPart → Bool
refills (local.Pop hash e) = false
refills (local.Refill hash flushed gained got) = true
refills (local.Steal got first second) = false
refills (local.Add hash e cursor) = false
refills (local.Push e done) = false

abbrev pub is_refill : Part → Bool
is_refill (parts.Bucket part) = false
is_refill (parts.Free part) = false
is_refill (parts.Local part) = refills part
is_refill (parts.Global part) = false
is_refill (parts.Own part) = false

abbrev pub IsRefillLegal : Shape → ℕ → TurnAt → Type 0
IsRefillLegal shape cpu at = is_refill at.turn.part ≡ true → IsLegalAt shape cpu at

abbrev pub AreRefillsLegal : Shape → ℕ → List TurnAt → Type 0
AreRefillsLegal shape cpu [] = Unit {0}
AreRefillsLegal shape cpu (at ∷ turns) = IsRefillLegal shape cpu at × AreRefillsLegal shape cpu turns

-- a reader of such turns: none where no beginning of them is what it reads
abbrev pub Reads : Type 0 → Type 0
Reads A = List Seen → Option (A × List Seen)

-- Turns at their places of which a beginning was read, and what is left.
pub record FoundAt {A : Type 0} (shape : Shape) (Rel : List TurnAt → A → Type 0) (turns : List TurnAt) (rest : List Seen) (a : A) : Type 0 where
  pub one : List TurnAt
  pub more : List TurnAt
  pub turns_are : turns ≡ one ++ more
  pub rest_is : all_seen shape more ≡ rest
  pub is : Rel one a

-- What is read of a CPU's turns, of which the refills are allowed where they stand, is in the relation; and what is in it is read, whatever follows.
pub record IsReaderAt {A : Type 0} (shape : Shape) (cpu : ℕ) (Rel : List TurnAt → A → Type 0) (read : Reads A) : Type 0 where
  pub sound : (turns : List TurnAt) (rest : List Seen) (a : A) → AreRefillsLegal shape cpu turns → read (all_seen shape turns) ≡ Some (a, rest) → FoundAt shape Rel turns rest a
  pub complete : (turns : List TurnAt) (rest : List Seen) (a : A) → Rel turns a → read (all_seen shape turns ++ rest) ≡ Some (a, rest)

-- nothing is read, and this answered; or nothing is ever read
abbrev pub read_nothing : {A : Type 0} → A → Reads A
read_nothing a seens = Some (a, seens)

abbrev pub read_never : {A : Type 0} → Reads A
read_never seens = None

-- what was read is told in another way
abbrev pub told : {A B : Type 0} → (A → B) → Option (A × List Seen) → Option (B × List Seen)
told f None = None
told f (Some found) = Some (f found.0, found.1)

abbrev pub read_as : {A B : Type 0} → (A → B) → Reads A → Reads B
read_as f read seens = told f (read seens)

-- one after another: what comes second may go by what the first answered
abbrev pub then_read : {A B : Type 0} → (A → Reads B) → Option (A × List Seen) → Option (B × List Seen)
then_read next None = None
then_read next (Some found) = next found.0 found.1

abbrev pub read_then : {A B : Type 0} → Reads A → (A → Reads B) → Reads B
read_then first next seens = then_read next (first seens)

-- the one, or where that isn't there the other
abbrev pub or_else : {A : Type 0} → Option (A × List Seen) → Option (A × List Seen) → Option (A × List Seen)
or_else None other = other
or_else (Some found) other = Some found

abbrev pub read_or : {A : Type 0} → Reads A → Reads A → Reads A
read_or one other seens = or_else (one seens) (other seens)

abbrev pub read_if : {A : Type 0} → Bool → Reads A → Reads A → Reads A
read_if test one other seens = if test then one seens else other seens

-- one turn
abbrev pub with_rest : {A : Type 0} → List Seen → Option A → Option (A × List Seen)
with_rest rest None = None
with_rest rest (Some a) = Some (a, rest)

abbrev pub read_seen : {A : Type 0} → (Seen → Option A) → Reads A
read_seen says [] = None
read_seen says (seen ∷ seens) = with_rest seens (says seen)

abbrev pub read_turn : {A : Type 0} → (Turn → Option A) → Reads A
read_turn says = read_seen (λ (seen : Seen). says seen.turn)

-- turns that are read by what they are alone
abbrev pub passed : {A : Type 0} → List Seen → Option (A × List Turn) → Option (A × List Seen)
passed seens None = None
passed seens (Some found) = Some (found.0, drop (length seens - length found.1) seens)

abbrev pub turns_in : List Seen → List Turn
turns_in seens = map (λ (seen : Seen). seen.turn) seens

abbrev pub read_turns : {A : Type 0} → (List Turn → Option (A × List Turn)) → Reads A
read_turns read seens = passed seens (read (turns_in seens))

-- whether this was read, and with which turns behind it, also where turns are read by what they are alone
abbrev pub IsSeenAs : {A : Type 0} → Option (A × List Seen) → A → Option (List Seen) → Type 0
IsSeenAs found a result = MatchOption result ((rest : List Seen) → found ≢ Some (a, rest)) (λ rest. found ≡ Some (a, rest))

abbrev pub IsTurnsAs : {A : Type 0} → Option (A × List Turn) → A → Option (List Seen) → Type 0
IsTurnsAs found a result = MatchOption result ((rest : List Turn) → found ≢ Some (a, rest)) (λ rest. found ≡ Some (a, turns_in rest))
