-- What a closed table leaves: each history leads to what lay under its lock, and each turn is a step of one strand.
use Rattle.std.specs.Prelude.{◌≡◌, ℕ, suc, ◌<◌, ◌≤◌, ◌^◌, Bool, true, false, not, All, List, [], ◌∷◌, length, map, filter, Option, None, Some, slice_get, slice_index_or, option_map, IsTrue, nat_lt, if◌then◌else◌}
use Rattle.std.specs.List.{range_with_len, list_any, flat_map}
use mathlib.Core.Option.{some}
use lib.ListN.{get_elem?}
use Rattle.map_types.specs.declared.attr.Shape.{Shape}
use Rattle.map_types.specs.Kind.{is_lru}
use Rattle.map_types.specs.Stored.{Stored, IsSized}
use Rattle.place_words.specs.declared.finals.Finals.{Finals}
use Rattle.place_words.specs.declared.history.Entry.{Entry}
use Rattle.place_words.specs.declared.history.LockHistory.{LockHistory}
use Rattle.place_words.specs.declared.history.Strand.{Strand}
use Rattle.place_words.specs.Histories.{content, IsLegal}
use Rattle.place_words.specs.Locks.{is_lock, lock_named, lock_number, lock_count}
use Rattle.place_words.specs.Logs.{State, finals_of}
use Rattle.place_words.specs.Strands.{AreSharedOut, places_on}
use Rattle.place_words.specs.State as cores
use Rattle.place_words.specs.Places.{Placed}
use Rattle.place_table.specs.declared.content.Behind.{Behind}
use Rattle.place_table.specs.Contents.{lists_of}
use Rattle.place_table.specs.Elements.{HoldsEachOnce}
use Rattle.place_table.specs.declared.view.Ended.{Ended}
use Rattle.place_table.specs.Views.{is_among, is_in_hand_of, known_log, bit_seen, all_strands, is_recorded}
use Rattle.place_table.specs.Rules.{IsSlotAfter, is_hand_of, turns_on, indexes, StandIn, Touch, touches_of, LeadTo}
use Rattle.place_table.specs.Passes.{PassView, spare_of}
use Rattle.place_table.specs.Words.{word_count, owner_word, home_word, bit_word, opening_words, lock_code}
use Rattle.place_words.specs.Codes.{owner_code, home_code}
use Rattle.map_types.specs.ElementLists.{one, times}
use Rattle.place_words.specs.Tickets.{tickets_of, AscendIn}
use Rattle.place_table.specs.Tickets.{EachAscends}
use Rattle.place_table.specs.Nested.{AreNested}
use Rattle.place_words.specs.Real.{IsAlwaysReal}
use Rattle.owner_words.specs.Owners.{OwnersTold}
pub use Rattle.place_table.specs.StrandTurns.{numbered, turns_by, AreTurnsOf}

-- what is handed out
pub record ClosedView : Type 0 where
  pub histories : List LockHistory
  pub strands : List Strand
  pub finals : Finals
  pub lost : Bool

-- what stands in the slots at the end, of the locks that the map has: the turns of each, and what they lead to
pub record AreSlots (shape : Shape) (log : ℕ → List Entry) (lost : ℕ → Bool) (slots : List Behind) : Type 0 where
  pub counted : length slots ≡ lock_count shape
  pub each : (k : ℕ) → k < lock_count shape → IsTrue (is_lock shape (lock_named shape k)) → (behind : Behind) × (get_elem? slots k ≡ some behind) × IsSlotAfter shape k (log k) (lost k) behind

-- the locks that the map has, by number
abbrev pub has_lock : Shape → ℕ → Bool
has_lock shape k = is_lock shape (lock_named shape k)

abbrev pub all_locks : Shape → List ℕ
all_locks shape = filter (has_lock shape) (range_with_len 0 (lock_count shape))

-- one history for each lock whose record isn't lost, in the order of the locks' numbers
abbrev pub history_of : Shape → (ℕ → List Entry) → ℕ → LockHistory
history_of shape log k = record { lock = lock_named shape k; entries = log k }

abbrev pub histories_of : Shape → (ℕ → List Entry) → (ℕ → Bool) → List LockHistory
histories_of shape log lost = map (history_of shape log) (filter (λ k. not (lost k)) (all_locks shape))

-- The strands a step of which is recorded, in order, each with its CPUs ascending. A table knows of no phases.
abbrev pub strand_told : Shape → Ended → Strand
strand_told shape strand = record { phase = 0; cpus = filter (λ cpu. is_among cpu strand.cpus) (range_with_len 0 shape.cpus); steps = strand.kept }

abbrev pub strands_told : Shape → List Ended → List Strand
strands_told shape strands = map (strand_told shape) (filter is_recorded strands)

-- what is known of the map once the turns of its locks were made, with these bits and the spares that are kept; the next ticket counts
-- for nothing in it
abbrev pub state_left : Shape → (ℕ → List Entry) → (ℕ → Bool) → List (Option Stored) → State
state_left shape log bit spares = record {
  next_ticket = 0;
  logs = λ lock. log (lock_number shape lock);
  bits = bit;
  spares = λ cpu. option_map (λ (body : Stored). body.element) (spare_of cpu spares);
}

-- What is handed out of the turns and the strands, and what the map holds then, as it is told of a run in serial order: of each
-- lock that the map has, what its turns lead to.
pub record IsLeft (shape : Shape) (log : ℕ → List Entry) (lost : ℕ → Bool) (bit : ℕ → Bool) (strands_lost : Bool) (strands : List Ended) (spares : List (Option Stored)) (closed : ClosedView) : Type 0 where
  pub histories_are : closed.histories ≡ histories_of shape log lost
  pub lost_is : closed.lost ≡ list_any lost (all_locks shape)
  pub strands_are : closed.strands ≡ (if strands_lost then [] else strands_told shape strands)
  pub finals_are : closed.finals ≡ finals_of shape (state_left shape log bit spares)

-- Steps in the order in which they were made, each after at least so many: each has a number above that of the one before it.
abbrev pub AreInOrder : ℕ → List Touch → Type 0
AreInOrder n [] = Unit {0}
AreInOrder n (x ∷ xs) = (n ≤ x.1.at) × AreInOrder (suc x.1.at) xs

-- each of these is a step of one of so many strands
abbrev pub AreBelow : ℕ → List Touch → Type 0
AreBelow n [] = Unit {0}
AreBelow n (x ∷ xs) = (x.0 < n) × AreBelow n xs

-- The steps on words are those of the strands, in the order in which they were made: each saw what the one before it on its word
-- left, from what the word was at first to what it is, and each strand has its steps in order. Their numbers ascend; those that are
-- left out were made by passes without a CPU, which only read.
pub record AreTouchesOf (shape : Shape) (strands : List Ended) (words : List ℕ) : Type 0 where
  -- each with its strand, by its place among them
  pub touches : List Touch
  pub in_order : AreInOrder 0 touches
  pub lead : (i : ℕ) → i < word_count shape → LeadTo i (slice_index_or (opening_words shape) i 0) touches (slice_index_or words i 0)
  pub of_strands : (n : ℕ) (strand : Ended) → slice_get strands n ≡ Some strand → strand.touched ≡ touches_of n touches
  pub within : AreBelow (length strands) touches

-- the turns of all locks of the map
abbrev pub all_turns : Shape → (ℕ → List Entry) → List Entry
all_turns shape log = flat_map log (all_locks shape)

-- The tickets of the turns are the numbers below `drawn`, each once. They ascend in each history and in each strand.
pub record HaveTickets (shape : Shape) (log : ℕ → List Entry) (strands : List Ended) (drawn : ℕ) : Type 0 where
  pub each_once : (t : ℕ) → times t (tickets_of (all_turns shape log)) ≡ one (nat_lt t drawn)
  pub in_histories : (k : ℕ) → k < lock_count shape → IsTrue (has_lock shape k) → AscendIn 0 (tickets_of (log k)) drawn
  pub in_strands : EachAscends strands drawn

-- words tell who holds each lock, owners, homes and bits
pub record AreWordsOf (shape : Shape) (core : cores.State) (words : List ℕ) : Type 0 where
  pub locks : (k : ℕ) → k < lock_count shape → slice_index_or words k 0 ≡ lock_code (core.holder k)
  pub owners : (e : ℕ) → e < shape.elements → slice_index_or words (owner_word shape e) 0 ≡ owner_code (core.owner e)
  pub homes : (e : ℕ) → e < shape.elements → slice_index_or words (home_word shape e) 0 ≡ home_code (core.home e)
  pub bits : (e : ℕ) → e < shape.elements → slice_index_or words (bit_word shape e) 0 ≡ one (core.bit e)

-- What a closed table was: the turns of its locks, and who had what.
pub record IsClosed (shape : Shape) (pass : PassView) (closed : ClosedView) : Type 0 where
  pub log : ℕ → List Entry
  pub lost : ℕ → Bool
  pub core : cores.State
  -- every history replays, nobody holds a lock, and each element is in its place
  pub legal : (k : ℕ) → IsLegal shape (lock_named shape k) (log k)
  pub nobody : (k : ℕ) → core.holder k ≡ None
  pub placed : Placed shape core
  pub lists_are : (k : ℕ) → k < lock_count shape → IsTrue (has_lock shape k) → core.lists k ≡ lists_of (content shape (lock_named shape k) (log k))
  -- under a lock of the map there lay, after any number of the lock's turns, only elements of the map, each once at most
  pub real : (k : ℕ) → k < lock_count shape → IsTrue (has_lock shape k) → IsAlwaysReal shape (lock_named shape k) (log k)
  pub hands : (e c : ℕ) → c < shape.cpus → is_hand_of c (core.owner e) ≡ is_in_hand_of e c pass.view.hand
  -- and what the pass has in hand is an element of the map, in the hand of one of its CPUs
  pub in_hand : (e c : ℕ) → is_in_hand_of e c pass.view.hand ≡ true → (e < shape.elements) × (c < shape.cpus)
  pub sized : (bucket : ℕ) → bucket < shape.buckets → All (IsSized shape) (slice_index_or closed.finals.buckets bucket [])
  -- so what is handed out of the map has each element once, whether a record is lost or not
  pub elements : HoldsEachOnce shape closed.finals
  -- what the pass knew is so, and every turn is one of its strands
  pub known : (k : ℕ) (turns : List Entry) → known_log k pass.view.known ≡ Some turns → log k ≡ turns
  pub bits : (e : ℕ) (bit : Bool) → bit_seen e pass.view.bits ≡ Some bit → core.bit e ≡ bit
  pub turns : (k : ℕ) → AreTurnsOf k (all_strands pass.view) (log k)
  -- and stands there right after what the strand has before it
  pub stand : (n : ℕ) (strand : Ended) → slice_get (all_strands pass.view) n ≡ Some strand → StandIn log strand.steps
  -- turns are nested as locks were held, and no lock is held now: each that was held around a turn has a later one in the strand
  pub nested : (n : ℕ) (strand : Ended) → slice_get (all_strands pass.view) n ≡ Some strand → AreNested shape lost strand.steps []
  -- on a map that doesn't evict no bit is set
  pub unmarked : is_lru shape.kind ≡ false → (e : ℕ) → e < shape.elements → core.bit e ≡ false
  -- the words at the end, which tell holders, owners, homes and bits, are what all steps of the strands on them lead to
  pub words : List ℕ
  pub words_told : AreWordsOf shape core words
  pub touches : AreTouchesOf shape (all_strands pass.view) words
  -- of a lock whose record isn't lost each turn is recorded
  pub recorded : (n : ℕ) (strand : Ended) → slice_get (all_strands pass.view) n ≡ Some strand
      → (k : ℕ) → k < lock_count shape → IsTrue (has_lock shape k) → lost k ≡ false → places_on (lock_named shape k) strand.kept ≡ indexes (turns_on k strand.steps)
  -- whether strands that had ended are lost, and with them the record of every lock
  pub strands_lost : Bool
  pub all_lost : strands_lost ≡ true → (k : ℕ) → lost k ≡ true
  -- how many tickets were drawn, which is what the pass knows the ticket word to have reached; where no record is lost each turn has
  -- one
  pub drawn : ℕ
  pub drawn_is : drawn ≡ pass.view.reached
  pub ticketed : closed.lost ≡ false → HaveTickets shape log (all_strands pass.view) drawn
  pub all_drawn : closed.lost ≡ false → pass.view.refused ≡ 0
  -- and on a map that evicts, where no record is lost, the turns tell the owners of elements in the order of tickets
  pub owners : IsTrue (is_lru shape.kind) → closed.lost ≡ false → OwnersTold shape (λ lock. log (lock_number shape lock))
  -- tickets are numbers of 64 bits
  pub counted : drawn < 2 ^ 64
  -- where the pass gave a lock back without a part, a record is lost
  pub losses : (k : ℕ) → is_among k pass.view.lost ≡ true → closed.lost ≡ true
  -- what is handed out is this, and the turns that are recorded are shared out among the strands
  pub left : IsLeft shape log lost core.bit strands_lost (all_strands pass.view) pass.spares closed
  pub shared_out : (k : ℕ) → k < lock_count shape → IsTrue (has_lock shape k) → lost k ≡ false → AreSharedOut (lock_named shape k) closed.strands (log k)
