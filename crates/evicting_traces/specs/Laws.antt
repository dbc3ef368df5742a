-- What the readers of calls on maps that evict promise.
use Rattle.std.specs.Prelude.{◌≡◌, ◌≢◌, MatchOption, ℕ, ◌-◌, ◌≤◌, true, List, length, take, Option, None, Some}
use Rattle.map_types.specs.declared.attr.Shape.{Shape}
use Rattle.map_types.specs.declared.call.Verb.{Verb}
use Rattle.map_types.specs.declared.reply.Reply.{Reply}
use Rattle.map_types.specs.Kind.{is_lru}
use Rattle.place_words.specs.Takings.{Acquires, Frees}
use Rattle.place_words.specs.Evicting.{IsEvictingTrace}
use Rattle.place_words.specs.Traces.{IsTrace}
use Rattle.place_words.specs.Turns.{TurnAt}
use Rattle.evicting_traces.specs.Reading.{Seen, all_seen, AreRefillsLegal, IsReaderAt}
use Rattle.evicting_traces.specs.Calls.{read_frees, read_acquires, read_key, read_evicting}

-- how an element is freed, and how one is taken
abbrev pub ReadsFrees : Type 0
ReadsFrees = (shape : Shape) (cpu e : ℕ) → IsReaderAt shape cpu (λ turns (u : Unit {0}). Frees shape e turns) (read_frees shape e)

abbrev pub ReadsTakings : Type 0
ReadsTakings = (shape : Shape) (cpu hash : ℕ) → IsReaderAt shape cpu (λ turns got. Acquires shape cpu hash got turns) (read_acquires shape cpu hash)

-- the calls on one key
abbrev pub ReadsEvictingKeys : Type 0
ReadsEvictingKeys = (shape : Shape) (cpu : ℕ) (verb : Verb) → IsReaderAt shape cpu (IsEvictingTrace shape cpu verb) (read_key shape cpu verb)

-- Every call on a map that evicts. Its turns are the same whatever spare there is.
abbrev pub ReadsEvictingCalls : Type 0
ReadsEvictingCalls = (shape : Shape) (cpu : ℕ) (spare : Option ℕ) (verb : Verb) → is_lru shape.kind ≡ true →
    IsReaderAt shape cpu (IsTrace shape cpu spare verb) (read_evicting shape cpu verb)

-- How many turns at the beginning are the call's, and what it answers.
abbrev pub counted : ℕ → Option (Reply × List Seen) → Option (ℕ × Reply)
counted n None = None
counted n (Some found) = Some (n - length found.1, found.0)

abbrev pub read_count : Shape → ℕ → Verb → List Seen → Option (ℕ × Reply)
read_count shape cpu verb seens = counted (length seens) (read_evicting shape cpu verb seens)

-- whether so many turns were read as a call with this reply, up to these that are left
abbrev pub IsCountedAs : List Seen → Option (Reply × List Seen) → Reply → Option (List Seen) → Type 0
IsCountedAs seens found reply result =
    MatchOption result ((n : ℕ) → counted (length seens) found ≢ Some (n, reply)) (λ rest. counted (length seens) found ≡ Some (length seens - length rest, reply))

-- So many turns from here on are the call's, with this reply.
abbrev pub AreCall : Shape → ℕ → Option ℕ → Verb → List TurnAt → ℕ → Reply → Type 0
AreCall shape cpu spare verb turns n reply = (n ≤ length turns) × IsTrace shape cpu spare verb (take n turns) reply

-- A number of turns, of which the refills are allowed, is read exactly where so many are the call's; so none is read exactly where no beginning is.
abbrev pub CountsTurns : Type 0
CountsTurns = (shape : Shape) (cpu : ℕ) (spare : Option ℕ) (verb : Verb) → is_lru shape.kind ≡ true → (turns : List TurnAt) (n : ℕ) (reply : Reply) →
    (AreRefillsLegal shape cpu turns → read_count shape cpu verb (all_seen shape turns) ≡ Some (n, reply) → AreCall shape cpu spare verb turns n reply)
    × (AreCall shape cpu spare verb turns n reply → read_count shape cpu verb (all_seen shape turns) ≡ Some (n, reply))

-- No two beginnings of the same turns are traces of one call, and its reply follows from its turns.
abbrev pub OneBeginning : Type 0
OneBeginning = (shape : Shape) (cpu : ℕ) (spare : Option ℕ) (verb : Verb) → is_lru shape.kind ≡ true → (turns : List TurnAt) (n m : ℕ) (first second : Reply) →
    AreCall shape cpu spare verb turns n first → AreCall shape cpu spare verb turns m second → (n ≡ m) × (first ≡ second)
