-- What a caller of the table knows of its pass: what each call asks, and what it leaves. The number of a call's step on a word,
-- `at`, is how many steps on words had been made before it.
use Rattle.std.specs.Prelude.{◌≡◌, ◌≢◌, ◌⊎◌, ℕ, suc, ◌<◌, ◌≤◌, Bool, true, false, List, [], ◌∷◌, ◌++◌, map, filter, Option, None, Some, MatchOption, IfSome, IsTrue, IsFalse, All, Vec, slice_index_or}
use Rattle.std.specs.Global.{Global}
use Rattle.std.specs.List.{range_with_len}
use Rattle.atomic_table.specs.Seated.{TableId}
use Rattle.map_types.specs.declared.attr.Shape.{Shape}
use Rattle.map_types.specs.declared.kind.DomainId.{DomainId}
use Rattle.map_types.specs.declared.kind.DomainId.TheVariants.{Local, CpuLru, Bucket}
use Rattle.map_types.specs.declared.kind.MapKind.TheVariants.{Hash}
use Rattle.map_types.specs.Stored.{Stored, IsSized}
use Rattle.place_words.specs.declared.history.Entry.{Entry}
use Rattle.place_words.specs.declared.history.Part.{Part}
use Rattle.place_words.specs.declared.history.StrandStep.{StrandStep}
use Rattle.place_words.specs.declared.owner.Owner.{Owner}
use Rattle.place_words.specs.declared.home.Home.{Home}
use Rattle.place_words.specs.declared.home.Home.TheVariants as homes
use Rattle.map_types.specs.Kind.{is_lru}
use Rattle.place_words.specs.Codes.{HasHomeCode}
use Rattle.map_types.specs.ElementLists.{times, IsIn, IsHead}
use Rattle.place_words.specs.Histories.{content, IsLegal}
use Rattle.place_words.specs.Locks.{lock_number, lock_named, is_lock}
use Rattle.place_words.specs.Takings.{set_of}
use Rattle.place_words.specs.State.{rows, is_bucket}
use Rattle.place_words.specs.Places.{MayOwn}
use Rattle.place_words.specs.Wholeness.{all_of}
use Rattle.place_table.specs.Flushes.{flushed_since}
use Rattle.place_table.specs.declared.content.Content.{Content}
use Rattle.place_table.specs.declared.content.Behind.{Behind}
use Rattle.place_table.specs.declared.strands.FinishedStrand.{FinishedStrand}
use Rattle.place_table.specs.declared.view.Known.{Known}
use Rattle.place_table.specs.declared.view.View.{View}
use Rattle.place_table.specs.Idle.{LearnsAll}
use Rattle.place_table.specs.declared.view.Hold.{Hold}
use Rattle.place_table.specs.declared.view.InHand.{InHand}
use Rattle.place_table.specs.declared.view.HomeIn.{HomeIn}
use Rattle.place_table.specs.declared.view.Notes.{Notes}
use Rattle.place_table.specs.declared.view.Turned.{Turned}
use Rattle.place_table.specs.declared.view.Ended.{Ended}
use Rattle.place_table.specs.Contents.{content_told, lists_of, FitsLock}
use Rattle.place_table.specs.Views.{is_among, hold_at, is_in_hand_of, known_log, first_view, place_of, kept_step, holding, given, losing, claimed, settled, attached, detached, marked, cleared, bit_read, owner_read, home_read, ticket_seen, learning, rehomed, is_recorded, split_from, split_off, joined, home_known}
use Rattle.place_table.specs.Rules.{KeptAs}
use Rattle.place_table.specs.Logged.{IsLogOf, HaveLogs}
use Rattle.place_table.specs.declared.strands.TurnsMade.{TurnsMade}
use Rattle.place_table.specs.Plays.{AreElements, IsApartFromHands, MayPut, IsInnermost, IsKeptOrLost, IsKnownBit, OwnerFits, IsKnownHome, HomeFits, MayGoHome, MayClear, TakesTicket, IsHashedInto}
use Rattle.place_table.specs.declared.view.Ticket.{Ticket}
use Rattle.place_table.specs.declared.view.Ticket.TheVariants.{Unread}
use Rattle.place_table.specs.declared.view.WordStep.{WordStep}
use Rattle.place_table.specs.Views.{ticketed, ticket_of, next, has_all}
use Rattle.place_words.specs.Tickets.{AscendIn}
use Rattle.place_table.specs.Nested.{IsInside, AreOutside, MayTake}
use Rattle.place_table.specs.Owners.{IsUnchangedAround, IsFreeAround, OwnersFit}
use Rattle.place_table.specs.Tickets.{turn_tickets}
use Rattle.place_table.specs.TurnNotes.{NotesFit}

-- What a pass is seen as: the table that it is of, its place among the table's passes, the CPU and the call of its last
-- `begin`, what it knows, and the spares that it keeps, by CPU.
pub record PassView : Type 0 where
  pub table : TableId
  pub seat : ℕ
  pub cpu : ℕ
  pub call : ℕ
  pub view : View
  pub spares : List (Option Stored)

-- what the table is seen as
pub record TableView : Type 0 where
  pub id : TableId
  pub shape : Shape

-- the slots that a pass has, lock by lock: the content is out, and the record is that of the hold
abbrev pub Carries : Shape → List Hold → List (ℕ × Behind) → Type 0
Carries shape [] [] = Unit {0}
Carries shape [] (x ∷ xs) = ⊥
Carries shape (hold ∷ holds) [] = ⊥
Carries shape (hold ∷ holds) (x ∷ xs) =
    (x.0 ≡ hold.lock) × (x.1.content ≡ None) × KeptAs (lock_named shape hold.lock) hold.lost hold.log x.1 × Carries shape holds xs

-- a slot whose content is out
abbrev pub without_content : Behind → Behind
without_content behind = record behind { content = None }

-- the spare that is kept for a CPU
abbrev pub spare_of : ℕ → List (Option Stored) → Option Stored
spare_of cpu spares = slice_index_or spares cpu None

-- a spare that is kept has the sizes of the map
abbrev pub SparesFit : View → List (Option Stored) → Type 0
SparesFit v spares = (cpu : ℕ) (body : Stored) → spare_of cpu spares ≡ Some body → IsSized v.shape body

-- what is in hand is of the map, and in the hand of one of these CPUs
abbrev pub HandsReal : Shape → List ℕ → List InHand → Type 0
HandsReal shape cpus hand = (e cpu : ℕ) → is_in_hand_of e cpu hand ≡ true → (e < shape.elements) × (is_among cpu cpus ≡ true)

-- for each CPU that a map may have, whether it is among these
unfoldable pub flags_of : List ℕ → List Bool
flags_of cpus = map (λ cpu. is_among cpu cpus) (range_with_len 0 16)

-- Of the strands that have ended those are kept a step of which is recorded, with its CPUs and these steps; or no list of them
-- is there, since memory for one wasn't found.
abbrev pub finished_of : Ended → FinishedStrand
finished_of strand = record { cpus = flags_of strand.cpus; steps = strand.kept }

abbrev pub AreFinished : List Ended → Option (Vec FinishedStrand Global) → Type 0
AreFinished strands kept = MatchOption kept (Unit {0}) (λ v. v.items ≡ map finished_of (filter is_recorded strands))

-- the CPUs of a strand are the map's
abbrev pub HasCpusOf : Shape → Ended → Type 0
HasCpusOf shape strand = (cpu : ℕ) → is_among cpu strand.cpus ≡ true → cpu < shape.cpus

-- what holds of each pass
pub record IsPass (v : View) (slots : List (ℕ × Behind)) (strand : List StrandStep) (spares : List (Option Stored)) (cpus : List Bool) (made : TurnsMade) : Type 0 where
  pub carries : Carries v.shape v.held slots
  pub strand_is : strand ≡ v.kept
  pub log_is : IsLogOf v.shape v.steps v.kept made.log.items
  pub cpus_are : cpus ≡ flags_of v.cpus
  pub ended_are : AreFinished v.ended made.ended
  pub logs_are : HaveLogs v.shape v.ended made.logs
  pub spares_fit : SparesFit v spares
  -- its CPUs are the map's, and so are those of its strands, and what is in their hands
  pub within : (cpu : ℕ) → is_among cpu v.cpus ≡ true → cpu < v.shape.cpus
  pub ended_within : All (HasCpusOf v.shape) v.ended
  pub hands_real : HandsReal v.shape v.cpus v.hand
  -- between two calls no ticket is about to be drawn, nor is one drawn
  pub unread : v.ticket ≡ Unread

abbrev pub IsPassOf : TableView → PassView → Type 0
IsPassOf t p = (p.table ≡ t.id) × (p.view.shape ≡ t.shape)

-- its last `begin` named a CPU that it still has
abbrev pub HasBegun : PassView → Type 0
HasBegun p = is_among p.cpu p.view.cpus ≡ true

abbrev pub with_view : PassView → View → PassView
with_view p v = record p { view = v }

abbrev pub with_spares : PassView → List (Option Stored) → PassView
with_spares p spares = record p { spares = spares }

-- The CPUs of a pass have nothing in hand but the spares that it keeps. Only a map of kind HASH has spares: on the others nothing
-- is in hand.
abbrev pub HasOnlyKept : PassView → Type 0
HasOnlyKept p =
    (e cpu : ℕ) → is_among cpu p.view.cpus ≡ true → is_in_hand_of e cpu p.view.hand ≡ true
    → (body : Stored) × (spare_of cpu p.spares ≡ Some body) × (body.element ≡ e) × (p.view.shape.kind ≡ Hash)

-- They have nothing in hand but spares, which may be out: of a CPU whose spare is out, it is the one element in its hand.
abbrev pub HasOnlySpares : PassView → Type 0
HasOnlySpares p =
    (e cpu : ℕ) → is_among cpu p.view.cpus ≡ true → is_in_hand_of e cpu p.view.hand ≡ true
    → (p.view.shape.kind ≡ Hash)
    × MatchOption (spare_of cpu p.spares) ((other : ℕ) → is_in_hand_of other cpu p.view.hand ≡ true → other ≡ e) (λ body. body.element ≡ e)

-- A pass is in no call: it holds no lock, its CPUs have nothing in hand but the spares that it keeps, none of which is out, and
-- no element's home is in a hand of theirs.
pub record IsInNoCall (p : PassView) : Type 0 where
  pub holds_nothing : p.view.held ≡ []
  pub spares_only : HasOnlyKept p
  pub spares_in_hand : (cpu : ℕ) (body : Stored) → spare_of cpu p.spares ≡ Some body → is_in_hand_of body.element cpu p.view.hand ≡ true
  pub none_out : p.view.shape.kind ≡ Hash → (cpu : ℕ) → is_among cpu p.view.cpus ≡ true → (body : Stored) × (spare_of cpu p.spares ≡ Some body)
  pub carries_nothing : p.view.carried ≡ []

-- the first pass of a table, which has all CPUs and knows all
pub record IsFirstPass (t : TableView) (p : PassView) : Type 0 where
  pub table_is : p.table ≡ t.id
  pub view_is : p.view ≡ first_view t.shape
  pub in_no_call : IsInNoCall p

-- a call begins
abbrev pub begun : PassView → ℕ → ℕ → PassView
begun p cpu call = record p { cpu = cpu; call = call }

-- take asks for a lock that the map has, above all that are held; for the global lists only where no turn was made yet since what is held
-- was taken
pub record CanTake (t : TableView) (lock : DomainId) (p : PassView) : Type 0 where
  pub of_table : IsPassOf t p
  pub begun : HasBegun p
  pub there : IsTrue (is_lock t.shape lock)
  pub above : MayTake t.shape lock p.view

-- What take leaves: the lock is held, and what lies there is what its turns lead to. Where the pass knew the turns, these
-- are they.
pub record TookLock (t : TableView) (lock : DomainId) (before after : PassView) (here : Content) : Type 0 where
  pub hold : Hold
  pub lock_is : hold.lock ≡ lock_number t.shape lock
  pub cpu_is : hold.cpu ≡ before.cpu
  -- the CPU of the pass is one of the map's
  pub within : before.cpu < t.shape.cpus
  pub at : ℕ
  pub after_is : after ≡ with_view before (holding at hold before.view)
  pub told_is : content_told lock here ≡ content t.shape lock hold.log
  pub fits : FitsLock t.shape lock here
  pub now : hold.now ≡ lists_of (content_told lock here)
  pub elements : AreElements t.shape hold.now
  pub apart : IsApartFromHands before.view lock hold.now
  pub legal : IsLegal t.shape lock hold.log
  pub known : (log : List Entry) → known_log (lock_number t.shape lock) before.view.known ≡ Some log → hold.log ≡ log
  -- no turn of the strand was made while it was held so
  pub outside : AreOutside hold.lock hold.log before.view.steps
  -- an element whose home was read, and is known to be this lock, is listed under it
  pub at_home : (e c : ℕ) (read : HomeIn) → c < t.shape.cpus → home_known e c after.view.readings ≡ Some read → read.home ≡ homes.In lock → IsIn e (rows hold.now)
  -- and one whose home was read as these local lists, and which is pending there no more, was flushed from them since
  pub moved_on : (e c d : ℕ) (read : HomeIn) → c < t.shape.cpus → lock ≡ Local d → home_known e c before.view.readings ≡ Some read → read.home ≡ homes.In (Local d) → times e (rows hold.now) ≡ 0
      → flushed_since t.shape lock read.turns e hold.log ≡ true
  -- what lies on the lists of this lock lies on those of no other that is held
  pub alone : IsTrue (is_lru t.shape.kind) → IsFalse (is_bucket lock)
      → (k e : ℕ) (other : Hold) → hold_at k before.view.held ≡ Some other → IsFalse (is_bucket (lock_named t.shape k)) → IsIn e (all_of hold.now)
      → times e (all_of other.now) ≡ 0
  -- where each CPU has a list set of its own, what is in the hand of a CPU of the pass is listed in the set where it lives
  pub lives : IsTrue (is_lru t.shape.kind) → t.shape.common ≡ false
      → (e c : ℕ) → is_among c before.view.cpus ≡ true → is_in_hand_of e c before.view.hand ≡ true → lock ≡ CpuLru (set_of t.shape e)
      → IsIn e (rows hold.now)

abbrev pub entry_of : PassView → ℕ → Part → Entry
entry_of p ticket part = record { ticket = ticket; cpu = p.cpu; call = p.call; part = part }

-- What give asks: the lock is the last one taken, the part is allowed on what lay there at the take and leads to what is
-- put back; this has the elements that lie there at this step; the part tells what was done and read in the turn; and where it is that
-- of an inner turn, the lock taken before is one inside whose turns such a turn is made. On a map that evicts the part tells what was
-- made of owners.
pub record CanGive (t : TableView) (lock : DomainId) (p : PassView) (here : Content) (part : Part) : Type 0 where
  pub of_table : IsPassOf t p
  pub begun : HasBegun p
  pub hold : Hold
  pub below : List Hold
  pub innermost : IsInnermost p.view hold below
  pub notes : Notes
  pub notes_below : List Notes
  pub notes_are : p.view.notes ≡ notes ∷ notes_below
  pub there : IsTrue (is_lock t.shape lock)
  pub lock_is : hold.lock ≡ lock_number t.shape lock
  pub may_put : MayPut t.shape p.view hold p.cpu part here
  pub inside : IsInside t.shape part below
  pub notes_fit : NotesFit t.shape p.view hold part notes
  pub owners_fit : IsTrue (is_lru t.shape.kind) → OwnersFit t.shape p.view hold p.cpu part notes

-- The ticket word was read, and a ticket was drawn where it was low enough.
pub record TookTicket (before : View) : Type 0 where
  pub drawn : Option ℕ
  pub ticket : Ticket
  pub reached : ℕ
  pub touched : List WordStep
  pub takes : TakesTicket (before, []) drawn (ticketed ticket reached touched before, [])

-- The number of the turn that ends when its lock is given back: at least the next number before, and exactly that where the pass has all CPUs. The next
-- number is then one more than it. What the ticket word is known to have reached doesn't fall, nor does the count of turns without a
-- ticket.
pub record IsNumbered (before : View) (number : ℕ) (after : View) : Type 0 where
  pub reached : before.reached ≤ after.reached
  pub refused : before.refused ≤ after.refused
  pub ascends : next before ≤ number
  pub next_is : next after ≡ suc number
  pub exact : has_all before ≡ true → number ≡ next before

abbrev pub ready : (v : View) → TookTicket v → View
ready v took = ticketed took.ticket took.reached took.touched v

-- what give leaves: the strand has one step more, which is recorded, or lost with the history of the lock
pub record Gave (before after : PassView) (part : Part) : Type 0 where
  pub hold : Hold
  pub below : List Hold
  pub innermost : IsInnermost before.view hold below
  pub kept : List StrandStep
  pub kept_is : IsKeptOrLost before.view hold kept
  pub took : TookTicket before.view
  -- its number, which is the ticket that was drawn where the step is recorded
  pub ticket : ℕ
  pub numbered : IsNumbered before.view ticket after.view
  pub ticket_is : (kept ≡ before.view.kept) ⊎ (took.drawn ≡ Some ticket)
  pub at : ℕ
  pub after_is : after ≡ with_view before (given at hold (entry_of before ticket part) kept (ready before.view took))

-- where there is no part, some part could be given
abbrev pub CanGiveSome : TableView → DomainId → PassView → Content → Type 0
CanGiveSome t lock p here = (part : Part) × CanGive t lock p here part

abbrev pub MayGiveBack : TableView → DomainId → PassView → Content → Option Part → Type 0
MayGiveBack t lock p here part = MatchOption part (CanGiveSome t lock p here) (λ given_part. CanGive t lock p here given_part)

-- and then nothing is recorded, some part that could be given stands for it, and the pass knows that the record is lost
pub record GaveSome (t : TableView) (lock : DomainId) (before after : PassView) (here : Content) : Type 0 where
  pub part : Part
  pub can : CanGive t lock before here part
  pub took : TookTicket before.view
  pub at : ℕ
  pub numbered : IsNumbered before.view (ticket_of (ready before.view took)) after.view
  pub after_is : after ≡ with_view before (losing at can.hold (entry_of before (ticket_of (ready before.view took)) part) (ready before.view took))

abbrev pub GaveBack : TableView → DomainId → PassView → PassView → Content → Option Part → Type 0
GaveBack t lock before after here part =
    MatchOption part (GaveSome t lock before after here) (λ given_part. Gave before after given_part)

-- the ticket word: the pass has all CPUs, so it is what the pass knows it to be
pub record SawTicket (before after : PassView) (found : ℕ) : Type 0 where
  pub exact : found ≡ before.view.reached
  pub at : ℕ
  -- from then on it knows the turns of each lock
  pub learned : List Known
  pub learns : LearnsAll before.view.shape before.view learned
  pub after_is : after ≡ with_view before (learning learned (ticket_seen at found before.view))

-- mark and detach ask for an element of a bucket that the CPU holds
pub record CanMark (t : TableView) (e bucket : ℕ) (p : PassView) : Type 0 where
  pub of_table : IsPassOf t p
  pub begun : HasBegun p
  pub hold : Hold
  pub real : e < t.shape.elements
  pub there : bucket < t.shape.buckets
  pub held : hold_at (lock_number t.shape (Bucket bucket)) p.view.held ≡ Some hold
  pub cpu_is : hold.cpu ≡ p.cpu
  pub inside : IsIn e hold.now.first

-- on a map that evicts, detach asks besides that the element, where it was changed in the turns around, was set free there
pub record CanDetach (t : TableView) (e bucket : ℕ) (p : PassView) : Type 0 where
  pub there : CanMark t e bucket p
  pub around : IsTrue (is_lru t.shape.kind) → IsFreeAround p.view e

-- Attach asks for an element in the CPU's hand, and for a bucket that the CPU holds. On a map that evicts, where the element was changed in
-- the turns around, it was set free.
pub record CanAttach (t : TableView) (e bucket : ℕ) (p : PassView) : Type 0 where
  pub of_table : IsPassOf t p
  pub begun : HasBegun p
  pub hold : Hold
  pub there : bucket < t.shape.buckets
  pub held : hold_at (lock_number t.shape (Bucket bucket)) p.view.held ≡ Some hold
  pub cpu_is : hold.cpu ≡ p.cpu
  pub in_hand : is_in_hand_of e p.cpu p.view.hand ≡ true
  -- on a map that evicts the CPU doesn't carry it
  pub not_carried : IsTrue (is_lru t.shape.kind) → is_in_hand_of e p.cpu p.view.carried ≡ false
  -- there the last hash that the element was given is of that bucket, and no other lock is held
  pub hashed : IsTrue (is_lru t.shape.kind) → IsHashedInto t.shape p.view bucket e p.cpu
  pub around : IsTrue (is_lru t.shape.kind) → IsFreeAround p.view e

-- Claim asks for the head of the free list of a lock that the CPU holds. On a map that evicts it wasn't changed in the turns around.
pub record CanClaim (t : TableView) (e : ℕ) (lock : DomainId) (p : PassView) : Type 0 where
  pub of_table : IsPassOf t p
  pub begun : HasBegun p
  pub hold : Hold
  pub real : e < t.shape.elements
  pub there : IsTrue (is_lock t.shape lock)
  pub held : hold_at (lock_number t.shape lock) p.view.held ≡ Some hold
  pub cpu_is : hold.cpu ≡ p.cpu
  pub head : IsHead e hold.now.free
  pub around : IsTrue (is_lru t.shape.kind) → IsUnchangedAround p.view e

-- Settle asks for an element in the CPU's hand, and for a lock that the CPU holds and that has a free list. On a map that
-- evicts the element is listed there, and where it was changed in the turns around, it was set free.
pub record CanSettle (t : TableView) (e : ℕ) (lock : DomainId) (p : PassView) : Type 0 where
  pub of_table : IsPassOf t p
  pub begun : HasBegun p
  pub hold : Hold
  pub there : IsTrue (is_lock t.shape lock)
  pub held : hold_at (lock_number t.shape lock) p.view.held ≡ Some hold
  pub cpu_is : hold.cpu ≡ p.cpu
  pub has_free_list : IsFalse (is_bucket lock)
  pub in_hand : is_in_hand_of e p.cpu p.view.hand ≡ true
  pub listed : IsTrue (is_lru t.shape.kind) → IsIn e (rows hold.now)
  pub around : IsTrue (is_lru t.shape.kind) → IsFreeAround p.view e

-- Rehome asks for an element and for a home where it may go, on a map whose CPUs share its lists. The pass knows the home
-- that the element has: lists under a lock that the CPU holds, or the hand of the CPU, which carries it. On a map that evicts it wasn't
-- changed in the turns around.
pub record CanRehome (t : TableView) (e : ℕ) (to : Home) (p : PassView) : Type 0 where
  pub of_table : IsPassOf t p
  pub begun : HasBegun p
  pub common : IsTrue t.shape.common
  pub real : e < t.shape.elements
  pub from : Home
  pub home : IsKnownHome t.shape p.view p.cpu e from
  pub goes : MayGoHome t.shape p.view p.cpu e to
  pub around : IsTrue (is_lru t.shape.kind) → IsUnchangedAround p.view e

-- What it leaves: the element is gone from the home that it had, and each home that the pass knew it to have is this one.
-- It is carried by the CPU, or at the head of a list of the lock that it went to. Its owner, which stays, tells which list:
-- the free one where it is free, else pending or inactive.
pub record Rehomed (t : TableView) (e : ℕ) (to : Home) (before after : PassView) : Type 0 where
  pub from : Home
  pub known : (home : Home) → IsKnownHome t.shape before.view before.cpu e home → home ≡ from
  pub owner : Owner
  pub fits : OwnerFits t.shape before.view e owner
  pub at : ℕ
  pub after_is : after ≡ with_view before (rehomed at from to owner e before.view)

-- what claim, settle, attach, detach and mark leave
abbrev pub Claimed : DomainId → ℕ → PassView → PassView → Type 0
Claimed lock e before after = (at : ℕ) × (after ≡ with_view before (claimed at lock e before.cpu before.view))

abbrev pub Settled : DomainId → ℕ → PassView → PassView → Type 0
Settled lock e before after = (at : ℕ) × (after ≡ with_view before (settled at lock e before.cpu before.view))

abbrev pub Attached : ℕ → ℕ → PassView → PassView → Type 0
Attached bucket e before after = (at : ℕ) × (after ≡ with_view before (attached at bucket e before.cpu before.view))

abbrev pub Detached : ℕ → ℕ → PassView → PassView → Type 0
Detached bucket e before after = (at : ℕ) × (after ≡ with_view before (detached at bucket e before.cpu before.view))

abbrev pub Marked : ℕ → PassView → PassView → Type 0
Marked e before after = (at : ℕ) × (after ≡ with_view before (marked at e before.view))

-- spares are those of a map of kind HASH
pub record CanSpare (t : TableView) (p : PassView) : Type 0 where
  pub of_table : IsPassOf t p
  pub begun : HasBegun p
  pub hash : t.shape.kind ≡ Hash

-- only what is kept for one CPU differs
abbrev pub SparesDiffer : ℕ → List (Option Stored) → List (Option Stored) → Type 0
SparesDiffer cpu before after = (other : ℕ) → other ≢ cpu → spare_of other after ≡ spare_of other before

-- the CPU's spare is handed out, where it isn't out
pub record Spared (t : TableView) (before after : PassView) (body : Option Stored) : Type 0 where
  pub body_is : body ≡ spare_of before.cpu before.spares
  pub sized : IfSome body (IsSized t.shape)
  pub out : spare_of before.cpu after.spares ≡ None
  pub others : SparesDiffer before.cpu before.spares after.spares
  pub after_is : after ≡ with_spares before after.spares

-- the CPU's spare is out, and an element in its hand is to be it from now on
pub record CanKeepSpare (t : TableView) (body : Stored) (p : PassView) : Type 0 where
  pub of_table : IsPassOf t p
  pub begun : HasBegun p
  pub hash : t.shape.kind ≡ Hash
  pub out : spare_of p.cpu p.spares ≡ None
  pub in_hand : is_in_hand_of body.element p.cpu p.view.hand ≡ true
  pub sized : IsSized t.shape body

pub record KeptSpare (body : Stored) (before after : PassView) : Type 0 where
  pub here : spare_of before.cpu after.spares ≡ Some body
  pub others : SparesDiffer before.cpu before.spares after.spares
  pub after_is : after ≡ with_spares before after.spares

-- Clear asks for an element in the CPU's hand, or, on a map that evicts, on the lists of a lock that the CPU holds.
pub record CanClear (t : TableView) (e : ℕ) (p : PassView) : Type 0 where
  pub of_table : IsPassOf t p
  pub begun : HasBegun p
  pub real : e < t.shape.elements
  pub allowed : MayClear t.shape p.view p.cpu e

-- a look asks for an element of the map
pub record CanLook (t : TableView) (e : ℕ) (p : PassView) : Type 0 where
  pub of_table : IsPassOf t p
  pub real : e < t.shape.elements

pub record Cleared (e : ℕ) (before after : PassView) (bit : Bool) : Type 0 where
  pub known : IsKnownBit e bit before.view
  pub at : ℕ
  pub after_is : after ≡ with_view before (cleared at e bit before.view)

pub record SawBit (e : ℕ) (before after : PassView) (bit : Bool) : Type 0 where
  pub known : IsKnownBit e bit before.view
  pub at : ℕ
  pub after_is : after ≡ with_view before (bit_read at e bit before.view)

pub record SawOwner (t : TableView) (e : ℕ) (before after : PassView) (owner : Owner) : Type 0 where
  pub exists_there : MayOwn t.shape owner
  pub fits : OwnerFits t.shape before.view e owner
  pub at : ℕ
  pub after_is : after ≡ with_view before (owner_read at e owner before.view)

pub record SawHome (t : TableView) (e : ℕ) (before after : PassView) (home : Home) : Type 0 where
  pub has_code : HasHomeCode home
  pub fits : HomeFits t.shape before.view e home
  pub at : ℕ
  -- where the home is local lists, how many turns their lock had had
  pub turns : ℕ
  pub after_is : after ≡ with_view before (home_read at turns e home before.view)

-- Of these turns, in order, some are recorded behind what was recorded before.
abbrev pub IsKeptOf : Shape → List Turned → List StrandStep → List StrandStep → Type 0
IsKeptOf shape [] before after = after ≡ before
IsKeptOf shape (step ∷ steps) before after =
    IsKeptOf shape steps before after ⊎ IsKeptOf shape steps (before ++ kept_step shape step.lock (place_of step) ∷ []) after

-- the numbers of these turns are n and those that follow it, up to m
abbrev pub AreCounted : ℕ → List Turned → ℕ → Type 0
AreCounted n [] m = m ≡ n
AreCounted n (step ∷ steps) m = (step.entry.ticket ≡ n) × AreCounted (suc n) steps m

-- The numbers of these turns: they ascend, from what was next before to what is next then, and where the pass has all CPUs
-- they are all the numbers between, each once. Nothing of what is known of the ticket word is forgotten.
pub record AreNumbered (before after : View) (more : List Turned) : Type 0 where
  pub reached : before.reached ≤ after.reached
  pub refused : before.refused ≤ after.refused
  pub ascend : AscendIn (next before) (turn_tickets more) (next after)
  pub exact : has_all before ≡ true → AreCounted (next before) more (next after)

-- What is left of a pass after calls: it is of its table, in its call and has its CPUs as before; its strand has these turns
-- more, of which all or some are recorded; and it gave these locks back without a part.
pub record Goes (before after : PassView) (more : List Turned) (lost : List ℕ) : Type 0 where
  pub table : after.table ≡ before.table
  pub seat : after.seat ≡ before.seat
  pub cpu : after.cpu ≡ before.cpu
  pub call : after.call ≡ before.call
  pub shape : after.view.shape ≡ before.view.shape
  pub cpus : after.view.cpus ≡ before.view.cpus
  pub steps : after.view.steps ≡ before.view.steps ++ more
  pub numbers : AreNumbered before.view after.view more
  pub kept : IsKeptOf before.view.shape more before.view.kept after.view.kept
  pub ended : after.view.ended ≡ before.view.ended
  pub lost_is : after.view.lost ≡ lost ++ before.view.lost

-- and the same locks are held, with what was noted under them
pub record Made (before after : PassView) (more : List Turned) (lost : List ℕ) : Type 0 where
  pub goes : Goes before after more lost
  pub held : after.view.held ≡ before.view.held
  pub notes : after.view.notes ≡ before.view.notes

-- and no element was moved
pub record Went (before after : PassView) (more : List Turned) (lost : List ℕ) : Type 0 where
  pub made : Made before after more lost
  pub spares : after.spares ≡ before.spares
  pub hand : after.view.hand ≡ before.view.hand
  pub carried : after.view.carried ≡ before.view.carried

-- split asks for a CPU that the pass has, in no call
pub record CanSplit (t : TableView) (cpu : ℕ) (p : PassView) : Type 0 where
  pub of_table : IsPassOf t p
  pub has_cpu : is_among cpu p.view.cpus ≡ true
  pub in_no_call : IsInNoCall p

-- What it leaves: the new pass has the CPU, its hand and its spare, and all strands, which have ended; the other CPUs, their
-- hands and spares stay. Both are in no call. `after` differs from `before` in its view and its spares alone.
pub record Split (cpu : ℕ) (before after off : PassView) : Type 0 where
  pub after_is : after ≡ with_spares (with_view before (split_from cpu before.view)) after.spares
  pub spare_gone : spare_of cpu after.spares ≡ None
  pub spares_stay : SparesDiffer cpu before.spares after.spares
  pub table : off.table ≡ before.table
  pub view_is : off.view ≡ split_off cpu before.view
  pub spare_is : spare_of cpu off.spares ≡ spare_of cpu before.spares
  pub no_others : (other : ℕ) → other ≢ cpu → spare_of other off.spares ≡ None
  pub in_no_call : IsInNoCall after
  pub off_in_no_call : IsInNoCall off

-- join asks for two passes of the table that are in no call
pub record CanJoin (t : TableView) (p other : PassView) : Type 0 where
  pub of_table : IsPassOf t p
  pub other_of_table : IsPassOf t other
  pub in_no_call : IsInNoCall p
  pub other_in_no_call : IsInNoCall other

-- the first of two spares that is there
abbrev pub either_spare : Option Stored → Option Stored → Option Stored
either_spare (Some body) other = Some body
either_spare None other = other

-- What it leaves: the pass has the CPUs of both, their hands and spares, and the strands of both, which have ended. It is in no call.
-- `after` differs from `before` in its view and its spares alone.
pub record Joined (before other after : PassView) : Type 0 where
  pub after_is : after ≡ with_spares (with_view before (joined before.view other.view)) after.spares
  pub spares_are : (cpu : ℕ) → spare_of cpu after.spares ≡ either_spare (spare_of cpu before.spares) (spare_of cpu other.spares)
  pub in_no_call : IsInNoCall after
