-- What each step on a word tells of the pass that makes it. Its number, `at`, is how many steps on words had been made before it.
-- A pass doesn't know it: the rule ties it to the order of all steps.
use Rattle.std.specs.Prelude.{◌≡◌, ◌≢◌, ◌⊎◌, ◌&&◌, ℕ, ◌<◌, ◌≤◌, ◌-◌, Bool, true, false, List, [], ◌∷◌, ◌++◌, length, Option, None, Some, MatchOption, IsTrue, IsFalse}
use Rattle.atomic_table.specs.Table as table
use Rattle.atomic_table.specs.Table.{Me, rest}
use Rattle.map_types.specs.declared.attr.Shape.{Shape}
use Rattle.map_types.specs.declared.kind.DomainId.{DomainId}
use Rattle.map_types.specs.declared.kind.DomainId.TheVariants.{Local, Global, CpuLru, Bucket}
use Rattle.map_types.specs.Kind.{is_lru}
use Rattle.place_words.specs.declared.history.Entry.{Entry}
use Rattle.place_words.specs.declared.history.Part.{Part}
use Rattle.place_words.specs.declared.history.StrandStep.{StrandStep}
use Rattle.place_words.specs.declared.owner.Owner.{Owner}
use Rattle.place_words.specs.declared.owner.Owner.TheVariants.{Free}
use Rattle.place_words.specs.declared.owner.Owner.TheVariants as owners
use Rattle.key_hash.specs.Bucket.{bucket_number}
use Rattle.place_words.specs.declared.home.Home.{Home}
use Rattle.place_words.specs.declared.home.Home.TheVariants as homes
use Rattle.place_words.specs.Codes.{owner_code, home_code, HasHomeCode}
use Rattle.map_types.specs.ElementLists.{one, times, IsIn}
use Rattle.place_words.specs.Histories as histories
use Rattle.place_words.specs.Histories.{content, content_after, Allows, IsLegal}
use Rattle.place_words.specs.Locks.{is_lock, lock_named, lock_number}
use Rattle.place_words.specs.Takings.{set_of}
use Rattle.place_words.specs.declared.step.Lists.{Lists}
use Rattle.place_words.specs.State.{rows, is_bucket}
use Rattle.place_words.specs.Places.{is_in_bucket, MayOwn}
use Rattle.place_words.specs.Wholeness.{all_of}
use Rattle.place_table.specs.declared.content.Content.{Content}
use Rattle.place_table.specs.declared.content.Behind.{Behind}
use Rattle.place_table.specs.declared.view.Known.{Known}
use Rattle.place_table.specs.declared.view.View.{View}
use Rattle.place_table.specs.Idle.{LearnsAll}
use Rattle.place_table.specs.declared.view.Hold.{Hold}
use Rattle.place_table.specs.declared.view.InHand.{InHand}
use Rattle.place_table.specs.declared.view.HashIn.{HashIn}
use Rattle.place_table.specs.declared.view.HomeIn.{HomeIn}
use Rattle.place_table.specs.declared.view.Notes.{Notes}
use Rattle.place_table.specs.declared.view.Ticket.TheVariants.{Drawn}
use Rattle.place_table.specs.Words.{ticket_bound}
use Rattle.place_table.specs.Tickets.{IsTaken}
use Rattle.place_table.specs.Nested.{IsInside, AreOutside}
use Rattle.place_table.specs.Owners.{InnermostOwnersFit}
pub use Rattle.place_table.specs.Owners.{IsListedHere}
use Rattle.place_table.specs.Contents.{content_told, lists_of, FitsLock}
use Rattle.place_table.specs.SlotTurns.{HasTurns}
use Rattle.place_table.specs.Views.{is_among, hold_at, is_in_hand_of, bucket_known, known_log, bit_seen, holding, given, losing, ticket_read, ticket_drawn, ticket_seen, learning, has_all, reached_by, ticket_of, kept_step, holds_below, moved, with_hashes, claimed, settled, attached, detached, marked, cleared, bit_read, owner_read, home_read, rehomed, home_known, came_last}
use Rattle.place_table.specs.Rules.{IsSlotAfter, is_hand_of}
use Rattle.place_table.specs.TurnNotes.{HasOnlyHash, NotesFit, InnermostFits}
use Rattle.place_table.specs.StoredHashes.{stored_in}
use Rattle.place_table.specs.Flushes.{flushes, flushed_since}

-- a seat at the table: what it knows, and the slots that it has
abbrev pub Seated : Type 0
Seated = Me Behind View

-- each element stands at most once among the free ones of a lock and among the others, and is one of the map's
pub record AreElements (shape : Shape) (lists : Lists) : Type 0 where
  pub free_once : (e : ℕ) → times e lists.free ≤ 1
  pub rows_once : (e : ℕ) → times e (rows lists) ≤ 1
  pub free_real : (e : ℕ) → IsIn e lists.free → e < shape.elements
  pub rows_real : (e : ℕ) → IsIn e (rows lists) → e < shape.elements

-- What is in the hand of a CPU of the pass is on no free list and in no bucket. On a map that evicts it may be listed under a lock
-- that is no bucket.
abbrev pub IsApartFromHands : View → DomainId → Lists → Type 0
IsApartFromHands v lock lists =
    (e cpu : ℕ) → is_among cpu v.cpus ≡ true → is_in_hand_of e cpu v.hand ≡ true
    → (times e lists.free ≡ 0) × ((is_lru v.shape.kind ≡ false) ⊎ IsTrue (is_bucket lock) → times e (rows lists) ≡ 0)

-- A lock was taken by a CPU: its slot, and what the pass knows of it from then on.
pub record Took (k cpu : ℕ) (before after : Seated) : Type 0 where
  pub behind : Behind
  pub hold : Hold
  pub lock : hold.lock ≡ k
  pub cpu_is : hold.cpu ≡ cpu
  pub at : ℕ
  pub after_is : after ≡ (holding at hold before.0, (k, behind) ∷ before.1)
  pub reads : IsSlotAfter before.0.shape k hold.log hold.lost behind
  pub now : hold.now ≡ lists_of (content before.0.shape (lock_named before.0.shape k) hold.log)
  pub elements : AreElements before.0.shape hold.now
  pub apart : IsApartFromHands before.0 (lock_named before.0.shape k) hold.now
  pub legal : IsLegal before.0.shape (lock_named before.0.shape k) hold.log
  pub known : (log : List Entry) → known_log k before.0.known ≡ Some log → hold.log ≡ log
  -- no turn of the strand was made while it was held so
  pub outside : AreOutside k hold.log before.0.steps
  -- an element whose home was read, and is known to be this lock, is listed under it
  pub at_home : (e c : ℕ) (lock : DomainId) (read : HomeIn) → c < before.0.shape.cpus → home_known e c after.0.readings ≡ Some read → read.home ≡ homes.In lock → lock_number before.0.shape lock ≡ k
      → IsIn e (rows hold.now)
  -- and one whose home was read as local lists under this lock, and which is pending there no more, was flushed from them since
  pub moved_on : (e c d : ℕ) (read : HomeIn) → c < before.0.shape.cpus → lock_named before.0.shape k ≡ Local d → home_known e c before.0.readings ≡ Some read → read.home ≡ homes.In (Local d) → times e (rows hold.now) ≡ 0
      → flushed_since before.0.shape (lock_named before.0.shape k) read.turns e hold.log ≡ true
  -- what lies on the lists of this lock lies on those of no other that is held
  pub alone : IsTrue (is_lru before.0.shape.kind) → IsFalse (is_bucket (lock_named before.0.shape k))
      → (j e : ℕ) (other : Hold) → hold_at j before.0.held ≡ Some other → IsFalse (is_bucket (lock_named before.0.shape j)) → IsIn e (all_of hold.now)
      → times e (all_of other.now) ≡ 0
  -- where each CPU has a list set of its own, what is in the hand of a CPU of the pass is listed in the set where it lives
  pub lives : IsTrue (is_lru before.0.shape.kind) → before.0.shape.common ≡ false
      → (e c : ℕ) → e < before.0.shape.elements → is_among c before.0.cpus ≡ true → is_in_hand_of e c before.0.hand ≡ true → lock_number before.0.shape (CpuLru (set_of before.0.shape e)) ≡ k
      → IsIn e (rows hold.now)

-- a lock is tried: it is taken where nobody held it, else nothing changes
abbrev pub Tries : table.Step Behind → Seated → ℕ → Seated → Type 0
Tries step before found after =
    (found ≡ step.first → Took step.word (step.second - 1) before after) × (found ≢ step.first → after ≡ before)

-- what lay under a lock when it was taken, and what is put back there, as histories tell it
abbrev pub taken_out : Shape → Hold → histories.Content
taken_out shape hold = content shape (lock_named shape hold.lock) hold.log

abbrev pub put_back : Shape → Hold → Content → histories.Content
put_back shape hold here = content_told (lock_named shape hold.lock) here

-- an element came in the turn under way, and is in the CPU's hand
abbrev pub has_come_to_hand : View → Hold → ℕ → Bool
has_come_to_hand v hold e = is_in_hand_of e hold.cpu v.hand && is_among e (came_last v.notes)

-- a row that is put back may be the one that its element had under this lock, or, where it came in this turn, under another one
abbrev pub MayComeFrom : View → Hold → ℕ → ℕ → Type 0
MayComeFrom v hold j e = (j ≡ hold.lock) ⊎ (is_among e (came_last v.notes) ≡ true)

-- Of an element that hasn't come to the CPU's hand in this turn, the row that is put back has the hash of the row that it had under this lock
-- when that was taken, and, where it came in this turn, of each row that it had under another lock that the pass holds.
abbrev pub KeepsHashes : Shape → View → Hold → Content → Type 0
KeepsHashes shape v hold here =
    (j e h n : ℕ) (other : Hold) → hold_at j v.held ≡ Some other → MayComeFrom v hold j e → has_come_to_hand v hold e ≡ false
    → stored_in (content shape (lock_named shape j) other.log) e ≡ Some h → stored_in (put_back shape hold here) e ≡ Some n → h ≡ n

-- what was pending when a local lock was taken, and is on its lists no more, was flushed by the turn, or the CPU carries it
abbrev pub WentOff : Shape → View → Hold → Part → Type 0
WentOff shape v hold part =
    (c e h : ℕ) → lock_named shape hold.lock ≡ Local c → stored_in (taken_out shape hold) e ≡ Some h → times e (all_of hold.now) ≡ 0
    → (is_in_hand_of e hold.cpu v.carried ≡ true) ⊎ (flushes e part ≡ true)

-- What is put back: a part of a CPU that is allowed leads to it, and it has the elements that lie there at this step. On a map that
-- evicts a row has a new hash only where its element came in this turn and is in the CPU's hand, and what is gone from local lists is
-- flushed or carried.
pub record MayPut (shape : Shape) (v : View) (hold : Hold) (by : ℕ) (part : Part) (here : Content) : Type 0 where
  pub cpu : is_among by v.cpus ≡ true
  pub told_is : put_back shape hold here ≡ content_after shape by part (taken_out shape hold)
  pub fits : FitsLock shape (lock_named shape hold.lock) here
  pub allowed : Allows shape by part (taken_out shape hold)
  pub same_free : (e : ℕ) → times e (lists_of (put_back shape hold here)).free ≡ times e hold.now.free
  pub same_rows : (e : ℕ) → times e (rows (lists_of (put_back shape hold here))) ≡ times e (rows hold.now)
  pub rows_kept : IsTrue (is_lru shape.kind) → KeepsHashes shape v hold here
  pub gone : IsTrue (is_lru shape.kind) → WentOff shape v hold part

-- The history has the entry, or of a bucket counts it, where it isn't lost, and then the strand has its step. That the log of the pass has
-- the entry of a bucket's turn is said of the pass.
abbrev pub IsRecorded : Shape → View → Hold → Entry → List StrandStep → Behind → Type 0
IsRecorded shape v hold entry kept behind =
    MatchOption behind.history (kept ≡ v.kept)
    (λ turns. (hold.lost ≡ false) × HasTurns (lock_named shape hold.lock) (hold.log ++ entry ∷ []) turns × (kept ≡ v.kept ++ kept_step shape hold.lock (length hold.log) ∷ []))

-- where it has the entry, the entry has the ticket that was drawn
abbrev pub HasItsTicket : View → Entry → Behind → Type 0
HasItsTicket v entry behind = MatchOption behind.history (Unit {0}) (λ _. v.ticket ≡ Drawn entry.ticket)

pub record MayGive (shape : Shape) (v : View) (hold : Hold) (entry : Entry) (kept : List StrandStep) (behind : Behind) : Type 0 where
  pub here : Content
  pub content_is : behind.content ≡ Some here
  pub may_put : MayPut shape v hold entry.cpu entry.part here
  pub taken : IsTaken v.ticket
  pub numbered : entry.ticket ≡ ticket_of v
  pub ticketed : HasItsTicket v entry behind
  pub records : IsRecorded shape v hold entry kept behind
  pub inside : IsInside shape entry.part (holds_below v.held)
  pub noted : InnermostFits shape v hold entry.part v.notes
  pub owners_fit : IsTrue (is_lru shape.kind) → InnermostOwnersFit shape v hold entry.cpu entry.part v.notes

-- the steps that are recorded after a turn: the one of the turn too, or none more where the record of the lock is lost
abbrev pub IsKeptOrLost : View → Hold → List StrandStep → Type 0
IsKeptOrLost v hold kept = (kept ≡ v.kept) ⊎ (kept ≡ v.kept ++ kept_step v.shape hold.lock (length hold.log) ∷ [])

-- the lock taken last, and those below it
abbrev pub IsInnermost : View → Hold → List Hold → Type 0
IsInnermost v hold below = v.held ≡ hold ∷ below

-- the lock taken last was given back with this entry, and these steps are recorded then
pub record GivesBack (entry : Entry) (kept : List StrandStep) (before after : Seated) : Type 0 where
  pub hold : Hold
  pub below : List Hold
  pub innermost : IsInnermost before.0 hold below
  pub kept_is : IsKeptOrLost before.0 hold kept
  pub numbered : entry.ticket ≡ ticket_of before.0
  pub ticket_is : (kept ≡ before.0.kept) ⊎ (before.0.ticket ≡ Drawn entry.ticket)
  pub at : ℕ
  pub after_is : after ≡ (given at hold entry kept before.0, rest before.1)

-- the entry of a CPU's turn in a call
abbrev pub entry_by : ℕ → ℕ → ℕ → Part → Entry
entry_by ticket cpu call part = record { ticket = ticket; cpu = cpu; call = call; part = part }

-- the same with nothing recorded, by some part of this CPU and call that leads to what was put back
pub record GivesSome (cpu call : ℕ) (before after : Seated) : Type 0 where
  pub hold : Hold
  pub below : List Hold
  pub behind : Behind
  pub part : Part
  pub innermost : IsInnermost before.0 hold below
  pub slot : before.1 ≡ (hold.lock, behind) ∷ rest before.1
  pub may : MayGive before.0.shape before.0 hold (entry_by (ticket_of before.0) cpu call part) before.0.kept behind
  pub notes : Notes
  pub notes_below : List Notes
  pub notes_are : before.0.notes ≡ notes ∷ notes_below
  pub notes_fit : NotesFit before.0.shape before.0 hold part notes
  pub at : ℕ
  pub after_is : after ≡ (losing at hold (entry_by (ticket_of before.0) cpu call part) before.0, rest before.1)

-- other lists lie under a lock that is held, other elements are in hand, with these hashes, and these notes are made
abbrev pub Moves : ℕ → Lists → List InHand → List HashIn → List Notes → ℕ → ℕ → Seated → Seated → Type 0
Moves k now hand hashes notes word left before after =
    (at : ℕ) × (after ≡ (with_hashes hashes (moved at k now hand notes word left before.0), before.1))

-- the head of a lock's free list came to the hand of a CPU
abbrev pub Claims : DomainId → ℕ → ℕ → Seated → Seated → Type 0
Claims lock e cpu before after = (at : ℕ) × (after ≡ (claimed at lock e cpu before.0, before.1))

-- an element in the hand of a CPU went to the head of a lock's free list
abbrev pub Settles : DomainId → ℕ → ℕ → Seated → Seated → Type 0
Settles lock e cpu before after = (at : ℕ) × (after ≡ (settled at lock e cpu before.0, before.1))

-- an element in the hand of a CPU went to the head of a bucket
abbrev pub Attaches : ℕ → ℕ → ℕ → Seated → Seated → Type 0
Attaches bucket e cpu before after = (at : ℕ) × (after ≡ (attached at bucket e cpu before.0, before.1))

-- an element of a bucket came to the hand of a CPU
abbrev pub Detaches : ℕ → ℕ → ℕ → Seated → Seated → Type 0
Detaches bucket e cpu before after = (at : ℕ) × (after ≡ (detached at bucket e cpu before.0, before.1))

-- What the ticket word may be, as a pass knows: at least the number that it is known to have reached, and where the pass has all CPUs
-- exactly what it is known to be. Where a turn got no ticket it is 2^63 or more.
pub record WordFits (v : View) (found : ℕ) : Type 0 where
  pub reached : v.reached ≤ found
  pub exact : has_all v ≡ true → found ≡ reached_by v.ticket v.reached
  pub refused : (v.refused ≡ 0) ⊎ (ticket_bound ≤ found)

-- the ticket word was read
pub record ReadsTicket (before : Seated) (found : ℕ) (after : Seated) : Type 0 where
  pub fits : WordFits before.0 found
  pub at : ℕ
  pub after_is : after ≡ (ticket_read at found before.0, before.1)

-- a ticket was drawn
pub record DrawsTicket (before : Seated) (found : ℕ) (after : Seated) : Type 0 where
  pub fits : WordFits before.0 found
  pub at : ℕ
  pub after_is : after ≡ (ticket_drawn at found before.0, before.1)

-- the ticket word was read by a pass that draws none
pub record SeesTicket (before : Seated) (found : ℕ) (after : Seated) : Type 0 where
  pub fits : WordFits before.0 found
  pub at : ℕ
  -- where the pass has all CPUs, it knows the turns of each lock from then on
  pub learned : List Known
  pub learns : has_all before.0 ≡ true → LearnsAll before.0.shape before.0 learned
  pub after_is : after ≡ (learning learned (ticket_seen at found before.0), before.1)

-- Both, one after the other: no ticket was drawn where the word was too high.
abbrev pub TakesTicket : Seated → Option ℕ → Seated → Type 0
TakesTicket before None after =
    (found : ℕ) × (at : ℕ) × WordFits before.0 found × (ticket_bound ≤ found)
    × (after ≡ (ticket_read at found before.0, before.1))
TakesTicket before (Some t) after =
    (found : ℕ) × (at : ℕ) × (behind : ℕ) × WordFits before.0 found × (found < ticket_bound)
    × WordFits (ticket_read at found before.0) t
    × (after ≡ (ticket_drawn behind t (ticket_read at found before.0), before.1))

-- a bit was set
abbrev pub Marks : ℕ → Seated → Seated → Type 0
Marks e before after = (at : ℕ) × (after ≡ (marked at e before.0, before.1))

-- the last hash that an element in the CPU's hand was given is of this bucket, and no lock but the bucket's is held
abbrev pub IsHashedInto : Shape → View → ℕ → ℕ → ℕ → Type 0
IsHashedInto shape v bucket e cpu =
    (bucket_known e cpu v.hashes ≡ Some bucket) × ((k : ℕ) (other : Hold) → hold_at k v.held ≡ Some other → k ≡ lock_number shape (Bucket bucket))

-- where the pass knew the bit, this is it
abbrev pub IsKnownBit : ℕ → Bool → View → Type 0
IsKnownBit e bit v = (known : Bool) → bit_seen e v.bits ≡ Some known → bit ≡ known

-- a bit was cleared, and was this before
pub record Clears (e : ℕ) (before : Seated) (found : ℕ) (after : Seated) : Type 0 where
  pub bit : Bool
  pub found_is : found ≡ one bit
  pub known : IsKnownBit e bit before.0
  pub at : ℕ
  pub after_is : after ≡ (cleared at e bit before.0, before.1)

-- a bit was read
pub record SeesBit (e : ℕ) (before : Seated) (found : ℕ) (after : Seated) : Type 0 where
  pub bit : Bool
  pub found_is : found ≡ one bit
  pub known : IsKnownBit e bit before.0
  pub at : ℕ
  pub after_is : after ≡ (bit_read at e bit before.0, before.1)

-- an element is not listed under a lock that is held
abbrev pub IsNoneListed : View → ℕ → Type 0
IsNoneListed v e = (k : ℕ) (hold : Hold) → hold_at k v.held ≡ Some hold → times e (rows hold.now) ≡ 0

-- An owner that what the pass knows doesn't rule out: the element is in a bucket that is held exactly where it lies there,
-- it is free where it lies on a free list that is held and not where it is listed under such a lock, and it is in the hand of
-- a CPU of the pass exactly where the pass knows of it. One that is listed here is in no bucket but that of its stored hash.
pub record OwnerFits (shape : Shape) (v : View) (e : ℕ) (owner : Owner) : Type 0 where
  pub in_held_bucket : (bucket : ℕ) (hold : Hold) → bucket < shape.buckets → hold_at (lock_number shape (Bucket bucket)) v.held ≡ Some hold
      → times e (rows hold.now) ≡ one (is_in_bucket bucket owner)
  pub on_held_free_list : (k : ℕ) (hold : Hold) → hold_at k v.held ≡ Some hold → IsIn e hold.now.free → owner ≡ Free
  pub listed : owner ≡ Free → IsNoneListed v e
  pub in_own_hand : (cpu : ℕ) → is_among cpu v.cpus ≡ true → is_hand_of cpu owner ≡ is_in_hand_of e cpu v.hand
  pub of_hash : IsTrue (is_lru shape.kind) → (hash bucket : ℕ) → IsListedHere shape v e → HasOnlyHash shape v e hash → owner ≡ owners.Bucket bucket
      → bucket ≡ bucket_number hash shape.buckets

-- an owner was read
pub record SeesOwner (e : ℕ) (before : Seated) (found : ℕ) (after : Seated) : Type 0 where
  pub owner : Owner
  pub found_is : found ≡ owner_code owner
  pub exists_there : MayOwn before.0.shape owner
  pub fits : OwnerFits before.0.shape before.0 e owner
  pub at : ℕ
  pub after_is : after ≡ (owner_read at e owner before.0, before.1)

-- the CPU holds the lock, as the pass knows
pub record HoldsLock (shape : Shape) (v : View) (cpu : ℕ) (lock : DomainId) : Type 0 where
  pub hold : Hold
  pub there : IsTrue (is_lock shape lock)
  pub held : hold_at (lock_number shape lock) v.held ≡ Some hold
  pub cpu_is : hold.cpu ≡ cpu

-- The home of an element, as the pass knows it: the element stands on the lists of a lock that the CPU holds, or the CPU
-- carries it.
abbrev pub IsKnownHome : Shape → View → ℕ → ℕ → Home → Type 0
IsKnownHome shape v cpu e homes.Unlisted = ⊥
IsKnownHome shape v cpu e (homes.In lock) =
    (holds : HoldsLock shape v cpu lock) × IsFalse (is_bucket lock) × IsIn e (all_of holds.hold.now)
IsKnownHome shape v cpu e (homes.Hand c) = (c ≡ cpu) × (is_in_hand_of e cpu v.carried ≡ true)

-- what may be the home of an element of a map that evicts: a lock of the map that isn't a bucket's, or on one whose CPUs share lists
-- the hand of a CPU
abbrev pub MayBeHome : Shape → Home → Type 0
MayBeHome shape homes.Unlisted = ⊥
MayBeHome shape (homes.In lock) = IsTrue (is_lock shape lock) × IsFalse (is_bucket lock)
MayBeHome shape (homes.Hand cpu) = IsTrue shape.common × (cpu < shape.cpus)

-- A home that what the pass knows doesn't rule out. A map that doesn't evict tells of none. On one that does, where each CPU has a
-- list set of its own, an element's home is the set in which it lives; and a home that the pass knows is the one that is read. What
-- is in the hand of a CPU of the pass has no hand for its home, unless that CPU carries it. Where the home is a lock that nobody
-- holds, as a pass with all CPUs knows, the element lies under it.
pub record HomeFits (shape : Shape) (v : View) (e : ℕ) (home : Home) : Type 0 where
  pub plain : is_lru shape.kind ≡ false → home ≡ homes.Unlisted
  pub lives : IsTrue (is_lru shape.kind) → shape.common ≡ false → home ≡ homes.In (CpuLru (set_of shape e))
  pub known : IsTrue (is_lru shape.kind) → (cpu : ℕ) (known : Home) → is_among cpu v.cpus ≡ true → IsKnownHome shape v cpu e known → home ≡ known
  pub is_there : IsTrue (is_lru shape.kind) → MayBeHome shape home
  pub of_hand : (cpu holder : ℕ) → is_among cpu v.cpus ≡ true → is_in_hand_of e cpu v.hand ≡ true → is_in_hand_of e cpu v.carried ≡ false → home ≢ homes.Hand holder
  pub under_home : IsTrue (is_lru shape.kind) → (lock : DomainId) (log : List Entry) → home ≡ homes.In lock → hold_at (lock_number shape lock) v.held ≡ None → known_log (lock_number shape lock) v.known ≡ Some log
      → IsIn e (all_of (lists_of (content shape lock log)))

-- a home was read
pub record SeesHome (e : ℕ) (before : Seated) (found : ℕ) (after : Seated) : Type 0 where
  pub home : Home
  pub found_is : found ≡ home_code home
  pub has_code : HasHomeCode home
  pub fits : HomeFits before.0.shape before.0 e home
  pub at : ℕ
  -- where the home is local lists, how many turns their lock had had
  pub turns : ℕ
  pub after_is : after ≡ (home_read at turns e home before.0, before.1)

-- A bit may be cleared of what is in the CPU's hand, and on a map that evicts of what stands on the lists of a lock that the
-- CPU holds.
abbrev pub MayClear : Shape → View → ℕ → ℕ → Type 0
MayClear shape v cpu e =
    (is_in_hand_of e cpu v.hand ≡ true) ⊎ (IsTrue (is_lru shape.kind) × ((lock : DomainId) × IsKnownHome shape v cpu e (homes.In lock)))

-- it is free, as the pass knows
pub record IsKnownFree (v : View) (e : ℕ) : Type 0 where
  pub lock : ℕ
  pub hold : Hold
  pub held : hold_at lock v.held ≡ Some hold
  pub inside : IsIn e hold.now.free

-- Where it may go: to the lists of a lock that the CPU holds, or to its hand. To local lists goes only what is free or in
-- the CPU's hand, to its hand only what is in it.
abbrev pub MayGoHome : Shape → View → ℕ → ℕ → Home → Type 0
MayGoHome shape v cpu e (homes.In (Local c)) =
    HoldsLock shape v cpu (Local c) × (IsKnownFree v e ⊎ (is_in_hand_of e cpu v.hand ≡ true))
MayGoHome shape v cpu e (homes.In Global) = HoldsLock shape v cpu Global
MayGoHome shape v cpu e (homes.Hand c) = (c ≡ cpu) × (is_in_hand_of e cpu v.hand ≡ true)
MayGoHome shape v cpu e to = ⊥

-- An element went to this home from the one that it had, and each home that the pass knew it to have is that one. Which of
-- the lists it left and joined goes by its owner.
pub record Rehomes (e : ℕ) (to : Home) (before after : Seated) : Type 0 where
  pub from : Home
  pub known : (cpu : ℕ) (home : Home) → is_among cpu before.0.cpus ≡ true → IsKnownHome before.0.shape before.0 cpu e home → home ≡ from
  pub owner : Owner
  pub fits : OwnerFits before.0.shape before.0 e owner
  pub at : ℕ
  pub after_is : after ≡ (rehomed at from to owner e before.0, before.1)
