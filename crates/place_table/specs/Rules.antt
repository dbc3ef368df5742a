-- The rule of the table. It holds between any two steps on its words.
use Rattle.std.specs.Prelude.{◌+◌, ◌≡◌, ◌≢◌, ◌⊎◌, ℕ, suc, ◌==◌, ◌<◌, ◌≤◌, Bool, true, false, ◌&&◌, List, [], ◌∷◌, ◌++◌, length, take, Option, None, Some, MatchOption, MatchBool, IsTrue, slice_index_or, if◌then◌else◌, IsFalse}
use mathlib.Core.Option.{some, none}
use mathlib.Core.Option as maybe
use lib.ListN.{get_elem?}
use Rattle.atomic_table.specs.Table as table
use Rattle.map_types.specs.declared.attr.Shape.{Shape}
use Rattle.map_types.specs.declared.kind.DomainId.{DomainId}
use Rattle.map_types.specs.declared.kind.DomainId.TheVariants.{Local, Global}
use Rattle.map_types.specs.Creation.{IsShape}
use Rattle.map_types.specs.Kind.{is_lru}
use Rattle.place_words.specs.declared.history.Entry.{Entry}
use Rattle.place_words.specs.declared.history.StrandStep.{StrandStep}
use Rattle.place_words.specs.declared.home.Home.{Home}
use Rattle.place_words.specs.declared.home.Home.TheVariants as homes
use Rattle.place_words.specs.declared.owner.Owner.{Owner}
use Rattle.place_words.specs.declared.owner.Owner.TheVariants as owners
use Rattle.place_words.specs.Codes.{owner_code, home_code}
use Rattle.map_types.specs.ElementLists.{one, IsIn}
use Rattle.place_words.specs.Histories.{content, IsLegal}
use Rattle.place_words.specs.Locks.{is_lock, lock_named, lock_number, lock_count, rank_of}
use Rattle.place_words.specs.Strands.{places_on}
use Rattle.place_words.specs.declared.step.Lists.{Lists}
use Rattle.key_hash.specs.Bucket.{bucket_number}
use Rattle.place_words.specs.State as cores
use Rattle.place_words.specs.State.{rows, is_bucket}
use Rattle.place_table.specs.StoredHashes.{stored_in}
use Rattle.place_words.specs.Places.{Placed}
use Rattle.place_words.specs.Ranks.{Ranked}
use Rattle.place_table.specs.declared.content.Content.{Content}
use Rattle.place_table.specs.declared.content.Behind.{Behind}
use Rattle.place_table.specs.declared.view.View.{View}
use Rattle.place_table.specs.declared.view.Hold.{Hold}
use Rattle.place_table.specs.declared.view.InHand.{InHand}
use Rattle.place_table.specs.declared.view.HashIn.{HashIn}
use Rattle.place_table.specs.declared.view.HomeIn.{HomeIn}
use Rattle.place_table.specs.declared.view.HomeRead.{HomeRead}
use Rattle.place_table.specs.declared.view.Turned.{Turned}
use Rattle.place_table.specs.declared.view.Ended.{Ended}
use Rattle.place_table.specs.Flushes.{flushed_since}
use Rattle.place_table.specs.SlotTurns.{HasTurns}
use Rattle.place_table.specs.declared.view.WordStep.{WordStep}
use Rattle.place_table.specs.Tickets.{Tickets, NoneLost}
use Rattle.place_table.specs.Owners.{Owners}
use Rattle.place_words.specs.Real.{IsAlwaysReal}
use Rattle.place_table.specs.Words.{word_count, owner_word, home_word, bit_word, ticket_word, lock_code, opening_words}
use Rattle.place_table.specs.Contents.{content_told, lists_of, FitsLock}
use Rattle.place_table.specs.Views.{is_among, hold_at, is_in_hand_of, known_log, bit_seen, place_of, hash_known, home_known, came_at}
pub use Rattle.place_table.specs.Views.{IsAboveAll, Ascends}
use Rattle.place_table.specs.declared.view.Notes.{Notes}
use Rattle.place_table.specs.declared.view.OwnerSeen.{OwnerSeen}
use Rattle.place_table.specs.declared.view.BitAsked.{BitAsked}
use Rattle.place_table.specs.declared.view.HomeSeen.{HomeSeen}

-- a turn, with the number of the strand that it is a step of
abbrev pub Tagged : Type 0
Tagged = ℕ × Entry

abbrev pub entries : List Tagged → List Entry
entries [] = []
entries (turn ∷ turns) = turn.1 ∷ entries turns

-- a step on a word, with the number of the strand that made it
abbrev pub Touch : Type 0
Touch = ℕ × WordStep

-- What is true of all locks, elements and passes, whoever works there.
pub record World : Type 0 where
  -- who holds each lock, what lies under it at this step, and of each element its owner, home and bit
  pub core : cores.State
  -- of a lock: its turns, and whether the record of them is lost
  pub log : ℕ → List Tagged
  pub lost : ℕ → Bool
  -- of a CPU the pass that has it
  pub pass_of_cpu : ℕ → ℕ
  -- strands have numbers: of a strand the pass that has it and its CPUs, of a pass its current strand and those that
  -- have ended, and the first number that no strand has
  pub pass_of_strand : ℕ → ℕ
  pub cpus_of_strand : ℕ → List ℕ
  pub current : ℕ → ℕ
  pub past : ℕ → List ℕ
  pub next : ℕ
  -- of an element the stored hash: that of the row that it was last given
  pub hash : ℕ → ℕ
  -- the steps on all words, in the order in which they were made
  pub touches : List Touch

-- what is recorded in the slot of a lock: its turns, or of a bucket how many there are; or nothing where that is lost
abbrev pub KeptAs : DomainId → Bool → List Entry → Behind → Type 0
KeptAs lock lost log behind = MatchOption behind.history (lost ≡ true) (λ turns. (lost ≡ false) × HasTurns lock log turns)

-- what stands in the slot of a lock that isn't held: what its turns lead to, and the record of them
pub record IsSlotAfter (shape : Shape) (k : ℕ) (log : List Entry) (lost : Bool) (behind : Behind) : Type 0 where
  pub here : Content
  pub content_is : behind.content ≡ Some here
  pub told_is : content_told (lock_named shape k) here ≡ content shape (lock_named shape k) log
  pub fits : FitsLock shape (lock_named shape k) here
  pub kept : KeptAs (lock_named shape k) lost log behind

-- While a lock is held its slot is out. Else what stands there is what its turns lead to.
abbrev pub AtHome : Shape → ℕ → Option ℕ → List Entry → Lists → Bool → maybe.Option (maybe.Option Behind) → Type 0
AtHome shape k None log lists lost slot =
    ((behind : Behind) × (slot ≡ some (some behind)) × IsSlotAfter shape k log lost behind) × (lists ≡ lists_of (content shape (lock_named shape k) log))
AtHome shape k (Some cpu) log lists lost slot = slot ≡ some none

abbrev pub hold : ℕ → ℕ → List Tagged → Lists → Bool → Hold
hold k cpu log lists lost = record { lock = k; cpu = cpu; log = entries log; now = lists; lost = lost }

-- the hold that a pass has of a lock, by who holds it
abbrev pub hold_of : ℕ → (ℕ → ℕ) → ℕ → Option ℕ → List Tagged → Lists → Bool → Option Hold
hold_of pass pass_of_cpu k None log lists lost = None
hold_of pass pass_of_cpu k (Some cpu) log lists lost = if pass_of_cpu cpu == pass then Some (hold k cpu log lists lost) else None

abbrev pub is_hand_of : ℕ → Owner → Bool
is_hand_of cpu (owners.Hand c) = c == cpu
is_hand_of cpu owner = false

abbrev pub is_home_of : ℕ → Home → Bool
is_home_of cpu (homes.Hand c) = c == cpu
is_home_of cpu home = false

-- the turns on one lock of a strand, each with its place in the lock's history
abbrev pub turns_on : ℕ → List Turned → List (ℕ × Entry)
turns_on k [] = []
turns_on k (step ∷ steps) = if step.lock == k then (place_of step, step.entry) ∷ turns_on k steps else turns_on k steps

-- the turns of one strand in a lock's history, which begins at this place
abbrev pub turns_of : ℕ → ℕ → List Tagged → List (ℕ × Entry)
turns_of strand place [] = []
turns_of strand place (turn ∷ turns) =
    if turn.0 == strand then (place, turn.1) ∷ turns_of strand (suc place) turns else turns_of strand (suc place) turns

-- the steps of one strand on words
abbrev pub touches_of : ℕ → List Touch → List WordStep
touches_of strand [] = []
touches_of strand (x ∷ xs) = if x.0 == strand then x.1 ∷ touches_of strand xs else touches_of strand xs

-- Steps in the order in which they were made, of which so many had been made before: each tells how many came before it.
abbrev pub AreInTime : ℕ → List Touch → Type 0
AreInTime n [] = Unit {0}
AreInTime n (x ∷ xs) = (x.1.at ≡ n) × AreInTime (suc n) xs

-- the strands that gave a lock back, in order: those of the steps on its word that left 0
abbrev pub givers : ℕ → List Touch → List ℕ
givers k [] = []
givers k (x ∷ xs) = if (x.1.word == k) && (x.1.left == 0) then x.0 ∷ givers k xs else givers k xs

-- the strands of turns, in order
abbrev pub strands_of : List Tagged → List ℕ
strands_of [] = []
strands_of (turn ∷ turns) = turn.0 ∷ strands_of turns

-- none of these steps is on this word
abbrev pub AreOff : ℕ → List WordStep → Type 0
AreOff word [] = Unit {0}
AreOff word (x ∷ xs) = (x.word ≢ word) × AreOff word xs

-- Steps that lead a word from one number to another: what each of those on it saw is what the one before it left.
abbrev pub IsSeen : Option ℕ → ℕ → Type 0
IsSeen seen now = MatchOption seen (Unit {0}) (λ found. found ≡ now)

abbrev pub LeadTo : ℕ → ℕ → List Touch → ℕ → Type 0
LeadTo word from [] to = from ≡ to
LeadTo word from (x ∷ xs) to =
    MatchBool (x.1.word == word) (IsSeen x.1.seen from × LeadTo word x.1.left xs to) (LeadTo word from xs to)

abbrev pub indexes : List (ℕ × Entry) → List ℕ
indexes [] = []
indexes (turn ∷ turns) = turn.0 ∷ indexes turns

-- a turn stands in the history of its lock right after the turns that it has before it
pub record StandsIn (log : List Entry) (step : Turned) : Type 0 where
  pub later : List Entry
  pub log_is : log ≡ step.earlier ++ step.entry ∷ later

-- each of these turns does, in the histories of all locks
abbrev pub StandIn : (ℕ → List Entry) → List Turned → Type 0
StandIn log [] = Unit {0}
StandIn log (step ∷ steps) = StandsIn (log step.lock) step × StandIn log steps

-- the turns of all locks
abbrev pub logs_of : World → ℕ → List Entry
logs_of world k = entries (world.log k)

-- A strand of a pass: on each lock its steps are the turns with its number, each after the turns before it there, and those
-- that are recorded are all of them where the record isn't lost. Its steps on words are those with its number, in their order.
pub record IsStrand (shape : Shape) (world : World) (pass strand : ℕ) (cpus : List ℕ) (steps : List Turned) (kept : List StrandStep) (touched : List WordStep) : Type 0 where
  pub pass_of_strand : world.pass_of_strand strand ≡ pass
  pub numbered : strand < world.next
  pub cpus_of_strand : world.cpus_of_strand strand ≡ cpus
  pub steps_are : (k : ℕ) → turns_on k steps ≡ turns_of strand 0 (world.log k)
  pub stand : StandIn (logs_of world) steps
  pub kept_are : (k : ℕ) → k < lock_count shape → IsTrue (is_lock shape (lock_named shape k)) → world.lost k ≡ false → places_on (lock_named shape k) kept ≡ indexes (turns_on k steps)
  pub touched_are : touched ≡ touches_of strand world.touches

abbrev pub ArePast : Shape → World → ℕ → List ℕ → List Ended → Type 0
ArePast shape world pass [] [] = Unit {0}
ArePast shape world pass [] (e ∷ es) = ⊥
ArePast shape world pass (strand ∷ strands) [] = ⊥
ArePast shape world pass (strand ∷ strands) (e ∷ es) =
    IsStrand shape world pass strand e.cpus e.steps e.kept e.touched × (is_among strand strands ≡ false) × ArePast shape world pass strands es

-- each turn is a step of a strand of a pass that is there, and the strand has its CPU
pub record IsTagged (world : World) (passes : ℕ) (turn : Tagged) : Type 0 where
  pub seated : world.pass_of_strand turn.0 < passes
  pub numbered : turn.0 < world.next
  pub has_cpu : is_among turn.1.cpu (world.cpus_of_strand turn.0) ≡ true
  pub listed : is_among turn.0 (world.current (world.pass_of_strand turn.0) ∷ world.past (world.pass_of_strand turn.0)) ≡ true

abbrev pub AreTagged : World → ℕ → List Tagged → Type 0
AreTagged world passes [] = Unit {0}
AreTagged world passes (turn ∷ turns) = IsTagged world passes turn × AreTagged world passes turns

-- each step on a word is one of a strand of a pass that is there
pub record IsOfStrand (world : World) (passes strand : ℕ) : Type 0 where
  pub seated : world.pass_of_strand strand < passes
  pub numbered : strand < world.next
  pub listed : is_among strand (world.current (world.pass_of_strand strand) ∷ world.past (world.pass_of_strand strand)) ≡ true

abbrev pub AreOfStrands : World → ℕ → List Touch → Type 0
AreOfStrands world passes [] = Unit {0}
AreOfStrands world passes (x ∷ xs) = IsOfStrand world passes x.0 × AreOfStrands world passes xs

-- steps that only read
abbrev pub AreReads : List WordStep → Type 0
AreReads [] = Unit {0}
AreReads (x ∷ xs) = (x.seen ≡ Some x.left) × AreReads xs

abbrev pub HaveNoSteps : List Ended → Type 0
HaveNoSteps [] = Unit {0}
HaveNoSteps (e ∷ es) = ((e.steps ≡ []) × AreReads e.touched) × HaveNoSteps es

-- a lock of the map, the record of whose turns is lost
pub record IsLostLock (shape : Shape) (world : World) (k : ℕ) : Type 0 where
  pub below : k < lock_count shape
  pub there : IsTrue (is_lock shape (lock_named shape k))
  pub lost : world.lost k ≡ true

-- the CPU that holds the lock has the element in hand
pub record IsFresh (holder : ℕ → Option ℕ) (owner : ℕ → Owner) (k e : ℕ) : Type 0 where
  pub cpu : ℕ
  pub held : holder k ≡ Some cpu
  pub in_hand : owner e ≡ owners.Hand cpu

-- an element has a row in what a lock's turns lead to, with its stored hash
pub record HasRow (shape : Shape) (log : ℕ → List Tagged) (hash : ℕ → ℕ) (k e : ℕ) : Type 0 where
  pub stored : stored_in (content shape (lock_named shape k) (entries (log k))) e ≡ Some (hash e)

-- the CPU that holds the lock brought the element from a lock of lower rank, which it still holds and where it had its row
pub record IsBrought (shape : Shape) (holder : ℕ → Option ℕ) (log : ℕ → List Tagged) (hash : ℕ → ℕ) (k e : ℕ) : Type 0 where
  pub cpu : ℕ
  pub from : ℕ
  pub held : holder k ≡ Some cpu
  pub holds : holder from ≡ Some cpu
  pub low : rank_of (lock_named shape from) < rank_of (lock_named shape k)
  pub row : HasRow shape log hash from e

-- On a map that evicts: where an element is in a bucket, its stored hash is of that bucket. Each listed element has a row with it
-- since the lock was last given back, or the lock's holder has the element in hand, or brought it there.
pub record HashesRight (shape : Shape) (holder : ℕ → Option ℕ) (lists : ℕ → Lists) (owner : ℕ → Owner) (log : ℕ → List Tagged) (hash : ℕ → ℕ) : Type 0 where
  pub in_bucket : (e b : ℕ) → owner e ≡ owners.Bucket b → bucket_number (hash e) shape.buckets ≡ b
  pub have : (k e : ℕ) → IsFalse (is_bucket (lock_named shape k)) → IsIn e (rows (lists k)) → HasRow shape log hash k e ⊎ (IsFresh holder owner k e ⊎ IsBrought shape holder log hash k e)

-- the stored hash of an element in the hand of a CPU is of this bucket
pub record IsHashOf (shape : Shape) (hash : ℕ → ℕ) (hand : List InHand) (e c b : ℕ) : Type 0 where
  pub in_hand : is_in_hand_of e c hand ≡ true
  pub bucket_is : bucket_number (hash e) shape.buckets ≡ b

-- the CPU holds the lock, and the element is among those that came there in the turn under way: the pass claimed it or brought it in
pub record HasCome (holder : ℕ → Option ℕ) (came : List ℕ) (k e c : ℕ) : Type 0 where
  pub held : holder k ≡ Some c
  pub inside : is_among e came ≡ true

-- what the pass noted last of the stored hash of an element in the hand of a CPU: it gave the hash, or it detached the element
-- from the bucket of the hash
pub record HasHash (given : Bool) (hashes : List HashIn) (e c : ℕ) : Type 0 where
  pub noted : HashIn
  pub last : hash_known e c hashes ≡ Some noted
  pub given_is : noted.given ≡ given

-- Of an element in the hand of a CPU of the pass that is listed under a lock: its stored hash is of the bucket of the last one that
-- the pass gave it since it last was free or in a bucket; or of the bucket from which the pass detached it, and the pass has given
-- it none since; or the pass claimed it or brought it in during a turn still under way. Where the CPU holds the lock, the element
-- has a row there with its stored hash since the lock was last given back, or was brought, or has come in the turn under way.
pub record IsHashed (shape : Shape) (holder : ℕ → Option ℕ) (log : ℕ → List Tagged) (hash : ℕ → ℕ) (hashes : List HashIn) (came : List ℕ) (k e c : ℕ) : Type 0 where
  pub from : HasHash true hashes e c ⊎ (HasHash false hashes e c ⊎ HasCome holder came k e c)
  pub row : holder k ≡ Some c → HasRow shape log hash k e ⊎ (IsBrought shape holder log hash k e ⊎ HasCome holder came k e c)

-- An element was flushed from the local lists under this lock, in a turn behind its first n ones: whoever did it still holds the
-- lock, under which it was pending when it was taken, or the last of the turns behind those that put the element on pending or took
-- it off flushed it.
abbrev pub WasFlushed : Shape → (ℕ → Option ℕ) → (ℕ → List Tagged) → ℕ → ℕ → ℕ → Type 0
WasFlushed shape holder log k n e =
    ((cpu : ℕ) × (h : ℕ) × (holder k ≡ Some cpu) × (stored_in (content shape (lock_named shape k) (entries (log k))) e ≡ Some h))
    ⊎ (flushed_since shape (lock_named shape k) n e (entries (log k)) ≡ true)

-- What a reading of a home still says of the home that is: a local lock, which had had n turns, is still the home, or the home is the
-- global lists and the element was flushed from the local ones since; any other home is still the home.
abbrev pub StillHome : Shape → (ℕ → Option ℕ) → (ℕ → List Tagged) → ℕ → ℕ → Home → Home → Type 0
StillHome shape holder log n e now (homes.In (Local c)) =
    (now ≡ homes.In (Local c)) ⊎ ((now ≡ homes.In Global) × IsTrue (is_lock shape (Local c)) × WasFlushed shape holder log (lock_number shape (Local c)) n e)
StillHome shape holder log n e now read = now ≡ read

-- Where a home was read as local lists by the step with this number, so many turns had ended under their lock: it had been given back
-- so often by the steps on words before that one.
abbrev pub IsCounted : Shape → List Touch → ℕ → ℕ → Home → Type 0
IsCounted shape touches at n (homes.In (Local c)) = (at ≤ length touches) × (n ≡ length (givers (lock_number shape (Local c)) (take at touches)))
IsCounted shape touches at n read = Unit {0}

-- and of each of these looks at homes
abbrev pub AreReadingsCounted : Shape → List Touch → List HomeRead → Type 0
AreReadingsCounted shape touches [] = Unit {0}
AreReadingsCounted shape touches (x ∷ xs) = IsCounted shape touches x.at x.turns x.home × AreReadingsCounted shape touches xs

-- a reading of the home of an element in the hand of a CPU
pub record IsReading (shape : Shape) (holder : ℕ → Option ℕ) (log : ℕ → List Tagged) (home : ℕ → Home) (touches : List Touch) (hand : List InHand) (e c : ℕ) (read : HomeIn) : Type 0 where
  pub real : e < shape.elements
  pub in_hand : is_in_hand_of e c hand ≡ true
  pub counted : IsCounted shape touches read.at read.turns read.home
  pub still : StillHome shape holder log read.turns e (home e) read.home

-- The steps by which a lock was taken, a bit set, a bit cleared or read, an owner read, and a home read, each with its number.
abbrev pub take_step : Hold → ℕ → WordStep
take_step hold at = record { at = at; word = hold.lock; seen = Some 0; left = 1 + hold.cpu }

abbrev pub mark_step : Shape → ℕ → ℕ → WordStep
mark_step shape e at = record { at = at; word = bit_word shape e; seen = None; left = 1 }

abbrev pub bit_step : Shape → BitAsked → ℕ → WordStep
bit_step shape x at = record {
  at = at;
  word = bit_word shape x.element;
  seen = Some (one x.bit);
  left = if x.cleared then 0 else one x.bit;
}

abbrev pub owner_step : Shape → OwnerSeen → ℕ → WordStep
owner_step shape x at = record { at = at; word = owner_word shape x.element; seen = Some (owner_code x.owner); left = owner_code x.owner }

abbrev pub home_step : Shape → HomeSeen → ℕ → WordStep
home_step shape x at = record { at = at; word = home_word shape x.element; seen = Some (home_code x.home); left = home_code x.home }

-- one of these steps is this one, whenever it was made
abbrev pub HasStep : (ℕ → WordStep) → List WordStep → Type 0
HasStep x [] = ⊥
HasStep x (y ∷ ys) = (y ≡ x y.at) ⊎ HasStep x ys

-- each of these was done by one of these steps
abbrev pub AreDone : {A : Type 0} → (A → ℕ → WordStep) → List WordStep → List A → Type 0
AreDone by steps [] = Unit {0}
AreDone by steps (x ∷ xs) = HasStep (by x) steps × AreDone by steps xs

-- what is noted of a turn was done by one of these steps
pub record IsDone (shape : Shape) (steps : List WordStep) (notes : Notes) : Type 0 where
  pub marks : AreDone (mark_step shape) steps notes.marks
  pub asked : AreDone (bit_step shape) steps notes.asked
  pub owners : AreDone (owner_step shape) steps notes.owners
  pub homes : AreDone (home_step shape) steps notes.homes

-- On a map that evicts: what is listed under one of these locks, which is no bucket's, has a row there with its stored hash since the
-- lock was taken, or has come in the turn under way.
abbrev pub AreRowed : Shape → (ℕ → ℕ) → List Hold → List Notes → Type 0
AreRowed shape hash held notes =
    (k e : ℕ) (hold : Hold) → hold_at k held ≡ Some hold → IsFalse (is_bucket (lock_named shape k)) → IsIn e (rows hold.now)
    → (stored_in (content shape (lock_named shape k) hold.log) e ≡ Some (hash e)) ⊎ (is_among e (came_at k held notes) ≡ true)

-- none of these steps is on the word of one of these locks
abbrev pub AreOffHeld : List Hold → List WordStep → Type 0
AreOffHeld [] steps = Unit {0}
AreOffHeld (hold ∷ holds) steps = AreOff hold.lock steps × AreOffHeld holds steps

-- What is noted in the turn of a lock that is held, which is one of the map's, was done after the lock was taken. Since then the
-- pass has made no step on the word of that lock, or of one taken before it that is still held: so this was its last take. The
-- locks were taken one after another, and what is noted under one of them was done before the next one was taken, or handed on
-- when that was given back.
abbrev pub AreNoted : Shape → List WordStep → List Hold → List Notes → Type 0
AreNoted shape steps [] notes = Unit {0}
AreNoted shape steps (hold ∷ holds) [] = ⊥
AreNoted shape steps (hold ∷ holds) (n ∷ notes) =
    (before : List WordStep) × (behind : List WordStep) × (at : ℕ) × (steps ≡ before ++ take_step hold at ∷ behind)
    × (hold.lock < lock_count shape) × AreOffHeld (hold ∷ holds) behind × IsDone shape behind n × AreNoted shape before holds notes

-- What a pass knows is so.
pub record PassKnows (shape : Shape) (world : World) (pass : ℕ) (v : View) : Type 0 where
  pub shape_is : v.shape ≡ shape
  -- each CPU is in one pass
  pub cpus : (c : ℕ) → c < shape.cpus → is_among c v.cpus ≡ (world.pass_of_cpu c == pass)
  pub within : (c : ℕ) → is_among c v.cpus ≡ true → c < shape.cpus
  -- the locks that its CPUs hold, with what lies there
  pub held : (k : ℕ) → hold_at k v.held ≡ hold_of pass world.pass_of_cpu k (world.core.holder k) (world.log k) (world.core.lists k) (world.lost k)
  pub ascends : Ascends shape v.held
  -- the elements in the hands of its CPUs
  pub hands : (e c : ℕ) → c < shape.cpus → is_in_hand_of e c v.hand ≡ (is_hand_of c (world.core.owner e) && (world.pass_of_cpu c == pass))
  -- those of them that are carried
  pub carried : (e c : ℕ) → c < shape.cpus → is_in_hand_of e c v.carried ≡ (is_home_of c (world.core.home e) && (world.pass_of_cpu c == pass))
  -- and the buckets of stored hashes, on a map that evicts of each that is listed
  pub hashes : (e c : ℕ) (noted : HashIn) → c < shape.cpus → hash_known e c v.hashes ≡ Some noted → IsHashOf shape world.hash v.hand e c noted.bucket
  pub hashed : IsTrue (is_lru shape.kind) → (e c : ℕ) (lock : DomainId) → e < shape.elements → c < shape.cpus → is_in_hand_of e c v.hand ≡ true → world.core.home e ≡ homes.In lock
      → IsHashed shape world.core.holder world.log world.hash v.hashes (came_at (lock_number shape lock) v.held v.notes) (lock_number shape lock) e c
  -- and what is listed under the locks that are held
  pub rowed : IsTrue (is_lru shape.kind) → AreRowed shape world.hash v.held v.notes
  -- and the homes that were read of what is in hand
  pub readings : (e c : ℕ) (read : HomeIn) → c < shape.cpus → home_known e c v.readings ≡ Some read → IsReading shape world.core.holder world.log world.core.home world.touches v.hand e c read
  -- and of each look at a home that it keeps how many turns local lists had had then
  pub homes_read : AreReadingsCounted shape world.touches v.homes_read
  -- what only a pass with all CPUs keeps: turns of locks and bits
  pub known : (k : ℕ) (log : List Entry) → known_log k v.known ≡ Some log → entries (world.log k) ≡ log
  pub bits : (e : ℕ) (bit : Bool) → bit_seen e v.bits ≡ Some bit → world.core.bit e ≡ bit
  pub only : ((v.known ≡ []) × (v.bits ≡ [])) ⊎ ((c : ℕ) → c < shape.cpus → is_among c v.cpus ≡ true)
  -- the locks that it gave back without a part
  pub losses : (k : ℕ) → is_among k v.lost ≡ true → IsLostLock shape world k
  -- what it has noted in its turns under way was done in them
  pub noted : AreNoted shape v.touched v.held v.notes
  -- its strands
  pub strand : IsStrand shape world pass (world.current pass) v.cpus v.steps v.kept v.touched
  pub past : ArePast shape world pass (world.past pass) v.ended
  pub apart : is_among (world.current pass) (world.past pass) ≡ false
  -- one that has no CPU has no turns, and has only read words
  pub idle : v.cpus ≡ [] → ((v.steps ≡ []) × AreReads v.touched) × HaveNoSteps v.ended

-- the elements whose bits were set in the turns of the locks that are held
abbrev pub marks_under : List Hold → List Notes → List ℕ
marks_under [] notes = []
marks_under (hold ∷ holds) [] = []
marks_under (hold ∷ holds) (n ∷ notes) = n.marks ++ marks_under holds notes

-- a pass set the bit of an element in a turn under way
pub record IsMarked (views : List View) (e : ℕ) : Type 0 where
  pub pass : ℕ
  pub view : View
  pub seat : get_elem? views pass ≡ some view
  pub noted : IsIn e (marks_under view.held view.notes)

pub record Rule (shape : Shape) (s : table.State Behind View) : Type 0 where
  pub world : World
  pub is_shape : IsShape shape
  pub words : length s.words ≡ word_count shape
  pub slots : length s.homes ≡ lock_count shape
  -- the words tell holders, owners, homes and bits
  pub lock_words : (k : ℕ) → k < lock_count shape → slice_index_or s.words k 0 ≡ lock_code (world.core.holder k)
  pub owner_words : (e : ℕ) → e < shape.elements → slice_index_or s.words (owner_word shape e) 0 ≡ owner_code (world.core.owner e)
  pub home_words : (e : ℕ) → e < shape.elements → slice_index_or s.words (home_word shape e) 0 ≡ home_code (world.core.home e)
  pub bit_words : (e : ℕ) → e < shape.elements → slice_index_or s.words (bit_word shape e) 0 ≡ one (world.core.bit e)
  -- read as a state of the core, the elements are in their places and the locks of each CPU are ranked
  pub placed : Placed shape world.core
  pub ranked : Ranked shape world.core
  -- stored hashes are those of the buckets
  pub hashes : IsTrue (is_lru shape.kind) → HashesRight shape world.core.holder world.core.lists world.core.owner world.log world.hash
  -- every history replays, and leads to what lies at home
  pub legal : (k : ℕ) → IsLegal shape (lock_named shape k) (entries (world.log k))
  -- under a lock of the map there lay, after any number of the lock's turns, only elements of the map, each once at most
  pub real : (k : ℕ) → k < lock_count shape → IsTrue (is_lock shape (lock_named shape k)) → IsAlwaysReal shape (lock_named shape k) (entries (world.log k))
  pub homes : (k : ℕ) → k < lock_count shape → IsTrue (is_lock shape (lock_named shape k))
      → AtHome shape k (world.core.holder k) (entries (world.log k)) (world.core.lists k) (world.lost k) (get_elem? s.homes k)
  -- on a map that doesn't evict, which has no marks to tell of a turn, a bit is set only in a turn under way
  pub unmarked : is_lru shape.kind ≡ false → (e : ℕ) → world.core.bit e ≡ true → IsMarked s.views e
  -- each CPU is in a pass, each turn in a strand, and what each pass knows is so
  pub seated : (c : ℕ) → c < shape.cpus → world.pass_of_cpu c < length s.views
  pub tagged : (k : ℕ) → AreTagged world (length s.views) (world.log k)
  -- The steps on words are in the order in which they were made. Those on each word lead from what it was at first to what it is,
  -- each is one of a strand, and a lock's turns are those of the strands that gave it back, in order.
  pub in_time : AreInTime 0 world.touches
  pub lead : (i : ℕ) → i < word_count shape → LeadTo i (slice_index_or (opening_words shape) i 0) world.touches (slice_index_or s.words i 0)
  pub of_strands : AreOfStrands world (length s.views) world.touches
  pub gave_back : (k : ℕ) → k < lock_count shape → givers k world.touches ≡ strands_of (world.log k)
  -- each turn has its ticket
  pub tickets : Tickets shape (slice_index_or s.words (ticket_word shape) 0) (logs_of world) world.lost world.pass_of_cpu s.views
  -- and on a map that evicts, where no record is lost, the turns tell owners in the order of tickets
  pub owners : IsTrue (is_lru shape.kind) → NoneLost shape world.lost → Owners shape (slice_index_or s.words (ticket_word shape) 0) world.core.owner world.core.home world.hash (logs_of world) s.views
  pub knows : (pass : ℕ) (v : View) → get_elem? s.views pass ≡ some v → PassKnows shape world pass v
