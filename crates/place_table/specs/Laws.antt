-- Each operation on a word of the table is the step of the core that has its name, and the rule holds before and after it.
use Rattle.std.specs.Prelude.{◌≡◌, ◌≢◌, ◌⊎◌, ℕ, ◌+◌, ◌<◌, ◌==◌, true, false, List, [], ◌∷◌, ◌++◌, None, Some, IsTrue, IsFalse, length, slice_index, slice_set}
use mathlib.Core.Option.{some, none}
use lib.ListN.{get_elem?}
use prog.Atomic.{either}
use Rattle.atomic_table.specs.Table as table
use Rattle.atomic_table.specs.Table.{Me, Act, Valid, gives, stepped, carried_after, step}
use Rattle.map_types.specs.declared.attr.Shape.{Shape}
use Rattle.map_types.specs.declared.kind.DomainId.{DomainId}
use Rattle.map_types.specs.declared.kind.DomainId.TheVariants.{Bucket}
use Rattle.place_words.specs.declared.history.Entry.{Entry}
use Rattle.place_words.specs.declared.history.StrandStep.{StrandStep}
use Rattle.place_words.specs.declared.home.Home.{Home}
use Rattle.place_words.specs.Codes.{home_code}
use Rattle.map_types.specs.ElementLists.{IsIn, IsHead}
use Rattle.map_types.specs.Kind.{is_lru}
use Rattle.place_words.specs.Histories.{content, content_after, Allows}
use Rattle.place_words.specs.Locks.{is_lock, lock_named, lock_number}
use Rattle.place_words.specs.declared.step.Step.{Step}
use Rattle.place_words.specs.declared.step.Step.TheVariants.{Take, Give, Claim, Settle, Attach, Detach, Rehome, Mark, Clear, Glance}
use Rattle.place_words.specs.State as cores
use Rattle.place_words.specs.State.{rows, is_bucket}
use Rattle.place_words.specs.Steps.{CoreStep}
use Rattle.place_table.specs.declared.content.Behind.{Behind}
use Rattle.place_table.specs.declared.view.View.{View}
use Rattle.place_table.specs.declared.view.Hold.{Hold}
use Rattle.place_table.specs.declared.view.Ticket.TheVariants.{Unread, Drawing}
use Rattle.place_table.specs.Contents.{content_told, lists_of}
use Rattle.place_table.specs.declared.content.Content.{Content}
use Rattle.place_table.specs.Nested.{MayTake}
use Rattle.place_table.specs.Views.{is_among, hold_at, is_in_hand_of, given, with_lost, split_from, split_off, joined, spent}
use Rattle.place_table.specs.Rules.{Rule, logs_of}
use Rattle.place_table.specs.Words.{owner_word, home_word, bit_word, ticket_word}
use Rattle.place_table.specs.Owners.{IsUnchangedAround, IsFreeAround}
use Rattle.place_table.specs.Plays.{Seated, MayGive, Tries, GivesBack, ReadsTicket, DrawsTicket, SeesTicket, Claims, Settles, Attaches, Detaches, Marks, Clears, SeesBit, SeesOwner, SeesHome, IsKnownHome, MayGoHome, Rehomes, MayClear, IsInnermost, IsHashedInto}

-- A step on the word i, which becomes f of what it was, by a pass with this seat: whatever the table is then, if the rule
-- holds, there are a view and an act of the seat after which the rule holds again, the core has gone on as it may, and this
-- is told.
abbrev pub StepsAs : Shape → ℕ → ℕ → Seated → ℕ → (ℕ → ℕ) → (ℕ → cores.State → cores.State → Type 0) → (ℕ → Seated → Type 0) → Type 0
StepsAs shape slots pass me i f goes told =
    (s : table.State Behind View) (r : Rule shape s)
    → length s.homes ≡ slots → get_elem? s.views pass ≡ some me.0 → slice_index s.words i < 18446744073709551616
    → (v : View) × (a : Act Behind) × Valid s.homes me.1 a
    × ((after : Rule shape (stepped s i (f (slice_index s.words i)) pass me.1 v a)) × goes (slice_index s.words i) r.world.core after.world.core)
    × told (slice_index s.words i) (v, carried_after me.1 a)

-- the core takes this step, whatever number was found
abbrev pub goes_by : Shape → Step → ℕ → cores.State → cores.State → Type 0
goes_by shape step found before after = CoreStep shape before step after

-- the core takes this step where this number was found, and stays where another was
abbrev pub goes_if : Shape → ℕ → Step → ℕ → cores.State → cores.State → Type 0
goes_if shape wanted step found before after =
    (found ≡ wanted → CoreStep shape before step after) × (found ≢ wanted → after ≡ before)

-- a word of a lock that is swapped from 0 to 1 and the CPU: any other number stays
abbrev pub taken_by : ℕ → ℕ → ℕ
taken_by c n = either (n == 0) (1 + c) n

-- a lock is taken by the swap of its word from 0 to 1 and the CPU
abbrev pub TakeIsStep : Type 0
TakeIsStep =
    (shape : Shape) (slots pass : ℕ) (me : Seated) (lock : DomainId) (c : ℕ)
    → is_among c me.0.cpus ≡ true → IsTrue (is_lock shape lock) → MayTake shape lock me.0 → me.0.ticket ≡ Unread
    → StepsAs shape slots pass me (lock_number shape lock) (taken_by c)
    (goes_if shape 0 (Take c lock)) (Tries (step slots (lock_number shape lock) 0 (1 + c) none) me)

-- it is given back by a store of 0, with its slot, in which stands what an allowed entry leads to
abbrev pub GiveIsStep : Type 0
GiveIsStep =
    (shape : Shape) (slots pass : ℕ) (v : View) (behind : Behind) (slots_below : List (ℕ × Behind)) (lock : DomainId) (hold : Hold) (below : List Hold)
    → IsInnermost v hold below → IsTrue (is_lock shape lock) → hold.lock ≡ lock_number shape lock
    → (entry : Entry) (kept : List StrandStep) (may : MayGive shape v hold entry kept behind)
    → StepsAs shape slots pass (v, (lock_number shape lock, behind) ∷ slots_below) (lock_number shape lock) (λ _. 0)
    (goes_by shape (Give hold.cpu lock (lists_of (content_told lock may.here)))) (λ _. GivesBack entry kept (v, (lock_number shape lock, behind) ∷ slots_below))

-- What is given back with a lock is what an allowed turn makes of what lay there at the take, to which the lock's turns had led. From then
-- on this turn is its last one, and no other lock has another turn.
pub record LeadsOn (shape : Shape) (k : ℕ) (entry : Entry) (behind : Behind) (before after : ℕ → List Entry) : Type 0 where
  pub here : Content
  pub content_is : behind.content ≡ Some here
  pub allowed : Allows shape entry.cpu entry.part (content shape (lock_named shape k) (before k))
  pub told_is : content_told (lock_named shape k) here ≡ content_after shape entry.cpu entry.part (content shape (lock_named shape k) (before k))
  pub log_is : after k ≡ before k ++ entry ∷ []
  pub others : (m : ℕ) → m ≢ k → after m ≡ before m

-- So it is of each lock that is given back, whether its turns are recorded or not: where no history is put back with it, as where no part is
-- given, the pass may know that the record is lost.
abbrev pub GiveLeadsOn : Type 0
GiveLeadsOn =
    (shape : Shape) (pass : ℕ) (v : View) (behind : Behind) (slots_below : List (ℕ × Behind)) (lock : DomainId) (hold : Hold) (below : List Hold)
    → IsInnermost v hold below → IsTrue (is_lock shape lock) → hold.lock ≡ lock_number shape lock
    → (entry : Entry) (kept : List StrandStep) → MayGive shape v hold entry kept behind
    → (lost : List ℕ) → (lost ≡ v.lost) ⊎ ((behind.history ≡ None) × (lost ≡ hold.lock ∷ v.lost))
    → (s : table.State Behind View) (r : Rule shape s) → get_elem? s.views pass ≡ some v
    → (at : ℕ) × ((after : Rule shape (stepped s (lock_number shape lock) 0 pass ((lock_number shape lock, behind) ∷ slots_below) (with_lost lost (given at hold entry kept v)) gives))
    × LeadsOn shape (lock_number shape lock) entry behind (logs_of r.world) (logs_of after.world))

-- A step on an owner or a home, and a look at an owner, is made while no ticket is drawn for a turn. On a map that evicts such a step asks
-- besides what the turns around made of the element's owner.

-- the pass holds this lock, with what lies there
abbrev pub IsHeld : Shape → Seated → DomainId → Hold → Type 0
IsHeld shape me lock hold = hold_at (lock_number shape lock) me.0.held ≡ Some hold

-- a bit is set by a store of 1, of an element of a bucket that is held
abbrev pub MarkIsStep : Type 0
MarkIsStep =
    (shape : Shape) (slots pass : ℕ) (me : Seated) (e bucket : ℕ) (hold : Hold)
    → bucket < shape.buckets → IsHeld shape me (Bucket bucket) hold → IsIn e hold.now.first
    → StepsAs shape slots pass me (bit_word shape e) (λ _. 1)
    (goes_by shape (Mark hold.cpu e bucket)) (λ _. Marks e me)

-- it is cleared by a swap with 0, of an element in the hand or on the lists of a lock that is held
abbrev pub ClearIsStep : Type 0
ClearIsStep =
    (shape : Shape) (slots pass : ℕ) (me : Seated) (e c : ℕ)
    → e < shape.elements → is_among c me.0.cpus ≡ true → MayClear shape me.0 c e
    → StepsAs shape slots pass me (bit_word shape e) (λ _. 0)
    (goes_by shape (Clear c e)) (Clears e me)

-- a bit, an owner or a home is read by a load, which changes nothing; any CPU of the map may look
abbrev pub GlanceIsStep : Type 0
GlanceIsStep =
    (shape : Shape) (slots pass : ℕ) (me : Seated) (e : ℕ)
    → e < shape.elements
    → StepsAs shape slots pass me (bit_word shape e) (λ n. n) (goes_by shape (Glance 0 e)) (SeesBit e me)
    × (me.0.ticket ≡ Unread → StepsAs shape slots pass me (owner_word shape e) (λ n. n) (goes_by shape (Glance 0 e)) (SeesOwner e me))
    × StepsAs shape slots pass me (home_word shape e) (λ n. n) (goes_by shape (Glance 0 e)) (SeesHome e me)

-- The head of a lock's free list comes to the hand of the CPU that holds the lock, by a store of 1 and the CPU.
abbrev pub ClaimIsStep : Type 0
ClaimIsStep =
    (shape : Shape) (slots pass : ℕ) (me : Seated) (e : ℕ) (lock : DomainId) (hold : Hold)
    → e < shape.elements → IsTrue (is_lock shape lock) → IsHeld shape me lock hold → IsHead e hold.now.free
    → me.0.ticket ≡ Unread → (IsTrue (is_lru shape.kind) → IsUnchangedAround me.0 e)
    → StepsAs shape slots pass me (owner_word shape e) (λ _. 1 + hold.cpu)
    (goes_by shape (Claim hold.cpu e lock)) (λ _. Claims lock e hold.cpu me)

-- It goes to the head of a lock's free list by a store of 0. On a map that evicts it is listed there.
abbrev pub SettleIsStep : Type 0
SettleIsStep =
    (shape : Shape) (slots pass : ℕ) (me : Seated) (e : ℕ) (lock : DomainId) (hold : Hold)
    → e < shape.elements → IsTrue (is_lock shape lock) → IsHeld shape me lock hold → IsFalse (is_bucket lock)
    → is_among hold.cpu me.0.cpus ≡ true → is_in_hand_of e hold.cpu me.0.hand ≡ true
    → (IsTrue (is_lru shape.kind) → IsIn e (rows hold.now))
    → me.0.ticket ≡ Unread → (IsTrue (is_lru shape.kind) → IsFreeAround me.0 e)
    → StepsAs shape slots pass me (owner_word shape e) (λ _. 0)
    (goes_by shape (Settle hold.cpu e lock)) (λ _. Settles lock e hold.cpu me)

-- It goes to the head of a bucket by a store of 32 and the bucket. On a map that evicts the CPU doesn't carry it, and the last hash
-- that it was given is of the bucket.
abbrev pub AttachIsStep : Type 0
AttachIsStep =
    (shape : Shape) (slots pass : ℕ) (me : Seated) (e bucket : ℕ) (hold : Hold)
    → e < shape.elements → bucket < shape.buckets → IsHeld shape me (Bucket bucket) hold
    → is_among hold.cpu me.0.cpus ≡ true → is_in_hand_of e hold.cpu me.0.hand ≡ true
    → (IsTrue (is_lru shape.kind) → is_in_hand_of e hold.cpu me.0.carried ≡ false)
    → (IsTrue (is_lru shape.kind) → IsHashedInto shape me.0 bucket e hold.cpu)
    → me.0.ticket ≡ Unread → (IsTrue (is_lru shape.kind) → IsFreeAround me.0 e)
    → StepsAs shape slots pass me (owner_word shape e) (λ _. 32 + bucket)
    (goes_by shape (Attach hold.cpu e bucket)) (λ _. Attaches bucket e hold.cpu me)

-- An element of a bucket comes to the hand of the CPU that holds the bucket, by a store of 1 and the CPU.
abbrev pub DetachIsStep : Type 0
DetachIsStep =
    (shape : Shape) (slots pass : ℕ) (me : Seated) (e bucket : ℕ) (hold : Hold)
    → bucket < shape.buckets → IsHeld shape me (Bucket bucket) hold → IsIn e hold.now.first
    → me.0.ticket ≡ Unread → (IsTrue (is_lru shape.kind) → IsFreeAround me.0 e)
    → StepsAs shape slots pass me (owner_word shape e) (λ _. 1 + hold.cpu)
    (goes_by shape (Detach hold.cpu e bucket)) (λ _. Detaches bucket e hold.cpu me)

-- The home of an element becomes another by a store of its code, and the element goes from the one's lists to the head of
-- the other's.
abbrev pub RehomeIsStep : Type 0
RehomeIsStep =
    (shape : Shape) (slots pass : ℕ) (me : Seated) (c e : ℕ) (from to : Home)
    → IsTrue shape.common → e < shape.elements → is_among c me.0.cpus ≡ true → IsKnownHome shape me.0 c e from → MayGoHome shape me.0 c e to
    → me.0.ticket ≡ Unread → (IsTrue (is_lru shape.kind) → IsUnchangedAround me.0 e)
    → StepsAs shape slots pass me (home_word shape e) (λ _. home_code to)
    (goes_by shape (Rehome c e to)) (λ _. Rehomes e to me)

-- The ticket word is read by a load: by a pass that holds a lock, before a ticket is drawn for the turn, and by one that draws none. A
-- ticket is drawn by a pass that is about to, by an addition of 1. None is a step of the core.
abbrev pub stays : ℕ → cores.State → cores.State → Type 0
stays found before after = after ≡ before

abbrev pub TicketIsNoStep : Type 0
TicketIsNoStep =
    (shape : Shape) (slots pass : ℕ) (me : Seated)
    → ((hold : Hold) (below : List Hold) → IsInnermost me.0 hold below → me.0.ticket ≡ Unread → StepsAs shape slots pass me (ticket_word shape) (λ n. n) stays (ReadsTicket me))
    × (me.0.ticket ≡ Drawing → StepsAs shape slots pass me (ticket_word shape) (λ n. 1 + n) stays (DrawsTicket me))
    × (me.0.ticket ≡ Unread → StepsAs shape slots pass me (ticket_word shape) (λ n. n) stays (SeesTicket me))

-- the table once a CPU is split off the pass to a new one, and once the pass has taken in another
abbrev pub once_split : table.State Behind View → ℕ → ℕ → View → table.State Behind View
once_split s pass c v = record s { views = slice_set s.views pass (split_from c v) ++ split_off c v ∷ [] }

abbrev pub once_joined : table.State Behind View → ℕ → ℕ → View → View → table.State Behind View
once_joined s pass other v u = record s { views = slice_set (slice_set s.views pass (joined v u)) other (spent u.shape) }

-- A CPU is split off, and passes are joined: no step of the core is made, and the rule holds again.
abbrev pub SplitIsNoStep : Type 0
SplitIsNoStep =
    (shape : Shape) (pass c : ℕ) (v : View) → is_among c v.cpus ≡ true → v.held ≡ []
    → (s : table.State Behind View) (r : Rule shape s) → get_elem? s.views pass ≡ some v
    → (after : Rule shape (once_split s pass c v)) × (after.world.core ≡ r.world.core)

abbrev pub JoinIsNoStep : Type 0
JoinIsNoStep =
    (shape : Shape) (pass other : ℕ) (v u : View) → v.held ≡ [] → u.held ≡ [] → ¬ (other ≡ pass)
    → (s : table.State Behind View) (r : Rule shape s) → get_elem? s.views pass ≡ some v → get_elem? (slice_set s.views pass (joined v u)) other ≡ some u
    → (after : Rule shape (once_joined s pass other v u)) × (after.world.core ≡ r.world.core)
