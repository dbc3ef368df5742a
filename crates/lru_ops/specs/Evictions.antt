-- The turn of a bucket that a probe makes, by a pass that holds a lock of lists, and where an element goes that it removes.
use Rattle.std.specs.Prelude.{◌≡◌, ℕ, ◌<◌, true, false, IsTrue, List, [], ◌∷◌, ◌++◌, All, None, Some}
use Rattle.map_types.specs.declared.attr.Shape.{Shape}
use Rattle.map_types.specs.declared.kind.DomainId.{DomainId}
use Rattle.map_types.specs.declared.kind.DomainId.TheVariants.{Bucket, CpuLru, Global, Local}
use Rattle.map_types.specs.declared.row.Row.{Row}
use Rattle.map_types.specs.Creation.{IsShape}
use Rattle.map_types.specs.ElementLists.{IsIn}
use Rattle.map_types.specs.Kind.{is_lru}
use Rattle.map_types.specs.Stored.{Stored, IsSized}
use Rattle.key_hash.specs.Bucket.{bucket_number}
use Rattle.place_words.specs.declared.bucket_part.BucketPart.TheVariants.{Evict}
use Rattle.place_words.specs.declared.bucket_part.Seen.{Seen}
use Rattle.place_words.specs.declared.bucket_part.Seen.TheVariants.{Removed, Held}
use Rattle.place_words.specs.declared.history.Entry.{Entry}
use Rattle.place_words.specs.declared.history.Part.TheVariants as parts
use Rattle.place_words.specs.declared.owner.Owner.{Owner}
use Rattle.place_words.specs.declared.owner.Owner.TheVariants.{Free, Hand}
use Rattle.place_words.specs.Bodies.{body_of, without_element}
use Rattle.place_words.specs.Histories.{in_bucket, content, IsLegal}
use Rattle.place_words.specs.Locks.{is_lock, lock_number, rank_of}
use Rattle.place_words.specs.declared.step.Lists.{Lists}
use Rattle.place_words.specs.State.{rows}
use Rattle.place_words.specs.Steps.{with_free, without_row}
use Rattle.place_table.specs.declared.view.Hold.{Hold}
use Rattle.place_table.specs.declared.view.InHand.{InHand}
use Rattle.place_table.specs.declared.view.Notes.{Notes}
use Rattle.place_table.specs.declared.view.OwnerSeen.{OwnerSeen}
use Rattle.place_table.specs.declared.view.Turned.{Turned}
use Rattle.place_table.specs.declared.view.WordStep.{WordStep}
use Rattle.place_table.specs.Calls.{TellsTurn}
use Rattle.place_table.specs.Contents.{lists_of}
use Rattle.place_table.specs.Known.{Learns}
use Rattle.place_table.specs.Nested.{IsLocalLast}
use Rattle.place_table.specs.Owners.{change_in}
use Rattle.place_table.specs.Passes.{PassView, TableView, IsPassOf, HasBegun, Goes}
use Rattle.place_table.specs.Rules.{owner_step, HasStep, IsAboveAll}
use Rattle.place_table.specs.TurnNotes.{HasOnlyHash}
use Rattle.place_table.specs.Views.{is_among, is_in_hand_of, known_log, no_notes, with_in_hand, without_in_hand, holds_below, notes_below, with_changed, with_owner_read, hold_with}
use Rattle.lru_ops.specs.declared.probing.Destination.{Destination}
use Rattle.lru_ops.specs.declared.probing.Destination.TheVariants.{OwnFree, LocalFree, OwnHand}
use Rattle.lru_lists.specs.declared.bits.Probed.{Probed}
use Rattle.lru_lists.specs.Probes.{seen_of, IfRemoved}

-- each of these elements was set free
abbrev pub AreFreed : List OwnerSeen → Type 0
AreFreed [] = Unit {0}
AreFreed (x ∷ xs) = (x.owner ≡ Free) × AreFreed xs

-- The pass holds a lock of lists, taken last, and perhaps one of lower rank. The owners that it changed in the turn of the lock taken last
-- are those of elements that it set free there, and in the turn around it changed none.
pub record HoldsLists (t : TableView) (lock : DomainId) (p : PassView) : Type 0 where
  pub of_table : IsPassOf t p
  pub begun : HasBegun p
  pub is_shape : IsShape t.shape
  pub evicts : IsTrue (is_lru t.shape.kind)
  pub there : IsTrue (is_lock t.shape lock)
  pub lists : rank_of lock < 3
  pub hold : Hold
  pub outer : List Hold
  pub held : p.view.held ≡ hold ∷ outer
  pub above : IsAboveAll t.shape (rank_of lock) outer
  pub lock_is : hold.lock ≡ lock_number t.shape lock
  pub cpu_is : hold.cpu ≡ p.cpu
  pub notes : Notes
  pub below : List Notes
  pub notes_are : p.view.notes ≡ notes ∷ below
  pub freed : AreFreed notes.changed
  pub unchanged : (e : ℕ) → change_in e outer below ≡ None

-- An element may be probed by this hash where it is listed there now, each row that it had under a lock that is held, when that was
-- taken, has the hash, and it is in no hand of the pass.
pub record MayProbe (t : TableView) (p : PassView) (row : Row) : Type 0 where
  pub real : row.element < t.shape.elements
  pub hold : Hold
  pub outer : List Hold
  pub held : p.view.held ≡ hold ∷ outer
  pub listed : IsIn row.element (rows hold.now)
  pub hashed : HasOnlyHash t.shape p.view row.element row.hash
  pub in_no_hand : (cpu : ℕ) → is_among cpu p.view.cpus ≡ true → is_in_hand_of row.element cpu p.view.hand ≡ false

-- The bucket is that of the stored hash of the element. Where the pass holds the global lists, it took them inside local ones.
pub record CanProbe (t : TableView) (bucket e : ℕ) (p : PassView) : Type 0 where
  pub lock : DomainId
  pub holds : HoldsLists t lock p
  pub under : lock ≡ Global → IsLocalLast t.shape holds.outer
  pub hash : ℕ
  pub may : MayProbe t p (record { element = e; hash = hash })
  pub bucket_is : bucket ≡ bucket_number hash t.shape.buckets
  pub there : bucket < t.shape.buckets

-- The pass took this bucket then, in which these bodies lie as its turns left them.
pub record Inside (t : TableView) (bucket e : ℕ) (q : PassView) (bodies : List Stored) : Type 0 where
  pub lock : DomainId
  pub of_table : IsPassOf t q
  pub begun : HasBegun q
  pub real : e < t.shape.elements
  pub there : bucket < t.shape.buckets
  pub hold : Hold
  pub lists : Hold
  pub outer : List Hold
  pub below : List Notes
  pub held : q.view.held ≡ hold ∷ lists ∷ outer
  pub above : IsAboveAll t.shape 3 (lists ∷ outer)
  pub notes : q.view.notes ≡ no_notes ∷ below
  pub lock_is : hold.lock ≡ lock_number t.shape (Bucket bucket)
  pub cpu_is : hold.cpu ≡ q.cpu
  pub content_is : in_bucket bodies ≡ content t.shape (Bucket bucket) hold.log
  pub legal : IsLegal t.shape (Bucket bucket) hold.log
  pub now : hold.now ≡ lists_of (in_bucket bodies)
  pub sized : All (IsSized t.shape) bodies
  pub known : (log : List Entry) → known_log (lock_number t.shape (Bucket bucket)) q.view.known ≡ Some log → hold.log ≡ log
  pub evicts : IsTrue (is_lru t.shape.kind)
  pub lists_there : IsTrue (is_lock t.shape lock)
  pub lists_are : rank_of lock < 3
  pub lists_lock : lists.lock ≡ lock_number t.shape lock
  pub under : lock ≡ Global → IsLocalLast t.shape outer
  pub in_no_hand : (cpu : ℕ) → is_among cpu q.view.cpus ≡ true → is_in_hand_of e cpu q.view.hand ≡ false
  pub listed : IsIn e (rows lists.now)
  pub hash : ℕ
  pub hashed : HasOnlyHash t.shape q.view e hash
  pub bucket_is : bucket ≡ bucket_number hash t.shape.buckets
  pub around : (owner : Owner) → change_in e (lists ∷ outer) below ≡ Some owner → owner ≡ Free

-- and the body of the element was taken out of them
pub record TakenOut (t : TableView) (bucket e : ℕ) (q : PassView) (left : List Stored) : Type 0 where
  pub bodies : List Stored
  pub inside : Inside t bucket e q bodies
  pub body : Stored
  pub taken : Some body ≡ body_of e bodies
  pub left_is : left ≡ without_element e bodies

-- the turn is a probe of this bucket for this element, by this CPU in this call, with this answer, and tells what was read in it
pub record IsEvict (shape : Shape) (cpu call bucket e : ℕ) (seen : Seen) (turn : Turned) : Type 0 where
  pub lock : turn.lock ≡ lock_number shape (Bucket bucket)
  pub entry : turn.entry ≡ record { ticket = turn.entry.ticket; cpu = cpu; call = call; part = parts.Bucket (Evict e seen) }
  pub tells : TellsTurn shape turn turn.entry.part

-- Where the turn is a probe that found its element in the hand of a CPU, one of these steps on words read the owner of the element
-- so.
abbrev pub SawHolder : Shape → List WordStep → Turned → Type 0
SawHolder shape touched turn =
    (e holder : ℕ) → turn.entry.part ≡ parts.Bucket (Evict e (Held holder))
    → HasStep (owner_step shape (record { element = e; owner = Hand holder })) touched

-- The pass made these steps on words meanwhile. They read the holders that these turns tell.
pub record SawHolders (shape : Shape) (before after : PassView) (turns : List Turned) : Type 0 where
  pub touched : List WordStep
  pub touched_are : after.view.touched ≡ before.view.touched ++ touched
  pub saw : All (SawHolder shape touched) turns

-- what a probe brings to the hand
abbrev pub hand_with : ℕ → ℕ → Seen → List InHand → List InHand
hand_with cpu e Removed hand = with_in_hand e cpu hand
hand_with cpu e (Held holder) hand = hand

-- what a probe read of an owner, as it is noted of the turn around it
abbrev pub owners_probed : ℕ → Seen → List Notes → List Notes
owners_probed e Removed below = below
owners_probed e (Held holder) below = with_owner_read e (Hand holder) below

-- The bucket was given back with the turn. What the probe read is noted of the turn around it.
pub record EndedWith (t : TableView) (bucket e : ℕ) (q s : PassView) (seen : Seen) : Type 0 where
  pub turn : Turned
  pub goes : Goes q s (turn ∷ []) []
  pub held : s.view.held ≡ holds_below q.view.held
  pub notes : s.view.notes ≡ owners_probed e seen (notes_below q.view.notes)
  pub carried : s.view.carried ≡ q.view.carried
  pub hand : s.view.hand ≡ hand_with q.cpu e seen q.view.hand
  pub spares : s.spares ≡ q.spares
  pub is_evict : IsEvict t.shape q.cpu q.call bucket e seen turn
  pub saw : SawHolders t.shape q s (turn ∷ [])
  pub learns : Learns t.shape q.view s.view (turn ∷ []) []

pub record Ended (t : TableView) (bucket e : ℕ) (q s : PassView) (answer : Probed) : Type 0 where
  pub ended : EndedWith t bucket e q s (seen_of answer)
  pub body : IfRemoved answer (λ body. (body.element ≡ e) × IsSized t.shape body)

-- What a probe leaves of a pass: one turn more, and in the hand what it removed.
pub record EvictedWith (t : TableView) (bucket e : ℕ) (p s : PassView) (seen : Seen) : Type 0 where
  pub turn : Turned
  pub goes : Goes p s (turn ∷ []) []
  pub held : s.view.held ≡ p.view.held
  pub notes : s.view.notes ≡ owners_probed e seen p.view.notes
  pub carried : s.view.carried ≡ p.view.carried
  pub hand : s.view.hand ≡ hand_with p.cpu e seen p.view.hand
  pub spares : s.spares ≡ p.spares
  pub is_evict : IsEvict t.shape p.cpu p.call bucket e seen turn
  pub saw : SawHolders t.shape p s (turn ∷ [])
  pub learns : Learns t.shape p.view s.view (turn ∷ []) []

pub record Evicted (t : TableView) (bucket e : ℕ) (p s : PassView) (answer : Probed) : Type 0 where
  pub evicted : EvictedWith t bucket e p s (seen_of answer)
  pub body : IfRemoved answer (λ body. (body.element ≡ e) × IsSized t.shape body)

-- what a probe leaves under the own set's lock once its element is settled: what it removed is at the head of the free list
abbrev pub lists_with : ℕ → Seen → Lists → Lists
lists_with e Removed now = with_free e (without_row e now)
lists_with e (Held holder) now = now

-- Where an element goes that a probe removed: to the head of the free list of the set whose lock was taken last; from there to the
-- local lists whose lock was taken before it, and to the head of their free list; or to the CPU's hand, which carries it from there.
abbrev pub goes_free : ℕ → List Hold → List Hold
goes_free e [] = []
goes_free e (hold ∷ outer) = hold_with hold (with_free e (without_row e hold.now)) ∷ outer

abbrev pub freed_outside : ℕ → List Hold → List Hold
freed_outside e [] = []
freed_outside e (local ∷ outer) = hold_with local (with_free e (without_row e local.now)) ∷ outer

abbrev pub goes_local : ℕ → List Hold → List Hold
goes_local e [] = []
goes_local e (hold ∷ outer) = hold_with hold (without_row e hold.now) ∷ freed_outside e outer

abbrev pub goes_off : ℕ → List Hold → List Hold
goes_off e [] = []
goes_off e (hold ∷ outer) = hold_with hold (without_row e hold.now) ∷ outer

abbrev pub removed_to : Destination → ℕ → List Hold → List Hold
removed_to OwnFree e held = goes_free e held
removed_to LocalFree e held = goes_local e held
removed_to OwnHand e held = goes_off e held

-- what a probe leaves under the locks that are held, once what it removed went there
abbrev pub held_with : Destination → ℕ → Seen → List Hold → List Hold
held_with to e Removed held = removed_to to e held
held_with to e (Held holder) held = held

-- in the hand of the CPU, and among what it carries
abbrev pub taken_to : Destination → ℕ → ℕ → List InHand → List InHand
taken_to OwnFree cpu e hand = hand
taken_to LocalFree cpu e hand = hand
taken_to OwnHand cpu e hand = with_in_hand e cpu hand

abbrev pub taken_with : Destination → ℕ → ℕ → Seen → List InHand → List InHand
taken_with to cpu e Removed hand = taken_to to cpu e hand
taken_with to cpu e (Held holder) hand = hand

-- what a probe removed was in the CPU's hand, and is in it no more where it was freed
abbrev pub hand_left : Destination → ℕ → ℕ → List InHand → List InHand
hand_left OwnFree e cpu hand = without_in_hand e cpu hand
hand_left LocalFree e cpu hand = without_in_hand e cpu hand
hand_left OwnHand e cpu hand = hand

-- and in the notes: what comes to the local lists is noted there, and what is freed in the turn of the walk
abbrev pub came_outside : ℕ → List Notes → List Notes
came_outside e [] = []
came_outside e (n ∷ below) = record n { came = e ∷ n.came } ∷ below

abbrev pub came_local : ℕ → List Notes → List Notes
came_local e [] = []
came_local e (n ∷ below) = n ∷ came_outside e below

abbrev pub noted_to : Destination → ℕ → List Notes → List Notes
noted_to OwnFree e notes = with_changed e Free notes
noted_to LocalFree e notes = with_changed e Free (came_local e notes)
noted_to OwnHand e notes = notes

abbrev pub noted_with : Destination → ℕ → Seen → List Notes → List Notes
noted_with to e Removed notes = noted_to to e (owners_probed e Removed notes)
noted_with to e (Held holder) notes = owners_probed e (Held holder) notes

-- The walk's lock and what is held beside it: the own set alone; the global lists within the own local lists; or local lists alone, on
-- a map whose CPUs share lists.
abbrev pub HoldsFor : TableView → Destination → DomainId → PassView → Type 0
HoldsFor t OwnFree lock p = (lock ≡ CpuLru p.cpu) × ((hold : Hold) × (p.view.held ≡ hold ∷ []))
HoldsFor t LocalFree lock p =
    (lock ≡ Global) × IsTrue (is_lock t.shape (Local p.cpu)) × ((hold : Hold) × (local : Hold) × (p.view.held ≡ hold ∷ local ∷ []) × (local.lock ≡ lock_number t.shape (Local p.cpu)) × (local.cpu ≡ p.cpu))
HoldsFor t OwnHand lock p = (from : ℕ) × (lock ≡ Local from) × ((hold : Hold) × (p.view.held ≡ hold ∷ []))

-- What a probe removed is in the CPU's hand and is listed under the lock of the walk still.
pub record CanPut (t : TableView) (to : Destination) (e : ℕ) (r : PassView) : Type 0 where
  pub lock : DomainId
  pub holds : HoldsLists t lock r
  pub holds_for : HoldsFor t to lock r
  pub real : e < t.shape.elements
  pub listed : IsIn e (rows holds.hold.now)
  pub in_hand : is_in_hand_of e r.cpu r.view.hand ≡ true

-- It went there: no turn was made, and only places, notes of what came and of what was freed, and steps on words are others.
pub record PutThere (t : TableView) (to : Destination) (e : ℕ) (r s : PassView) : Type 0 where
  pub goes : Goes r s [] []
  pub held : s.view.held ≡ removed_to to e r.view.held
  pub notes : s.view.notes ≡ noted_to to e r.view.notes
  pub carried : s.view.carried ≡ taken_to to r.cpu e r.view.carried
  pub hand : s.view.hand ≡ hand_left to e r.cpu r.view.hand
  pub spares : s.spares ≡ r.spares
  pub touched : List WordStep
  pub touched_are : s.view.touched ≡ r.view.touched ++ touched
  pub learns : Learns t.shape r.view s.view [] []

-- a walk under this lock may probe for this element, and what that removes may go there
pub record CanChase (t : TableView) (to : Destination) (bucket e : ℕ) (p : PassView) : Type 0 where
  pub can : CanProbe t bucket e p
  pub holds_for : HoldsFor t to can.lock p

-- What a probe of an element leaves of a pass that holds the walk's lock: one turn more, and what it removed went there.
pub record Chased (t : TableView) (to : Destination) (bucket e : ℕ) (p s : PassView) (seen : Seen) : Type 0 where
  pub turn : Turned
  pub goes : Goes p s (turn ∷ []) []
  pub held : s.view.held ≡ held_with to e seen p.view.held
  pub notes : s.view.notes ≡ noted_with to e seen p.view.notes
  pub carried : s.view.carried ≡ taken_with to p.cpu e seen p.view.carried
  pub hand : s.view.hand ≡ taken_with to p.cpu e seen p.view.hand
  pub spares : s.spares ≡ p.spares
  pub is_evict : IsEvict t.shape p.cpu p.call bucket e seen turn
  pub saw : SawHolders t.shape p s (turn ∷ [])
  pub learns : Learns t.shape p.view s.view (turn ∷ []) []

pub record ChasedFor (t : TableView) (to : Destination) (bucket e : ℕ) (p s : PassView) (answer : Probed) : Type 0 where
  pub chased : Chased t to bucket e p s (seen_of answer)
  pub body : IfRemoved answer (λ body. (body.element ≡ e) × IsSized t.shape body)
