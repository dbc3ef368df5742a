-- The owners of elements on a map that evicts, in the order of tickets: what the rule says of them, and what a pass that changes one,
-- or tells of one that it read, is asked.
use Rattle.std.specs.Prelude.{◌≡◌, ◌⊎◌, ℕ, suc, ◌==◌, Bool, true, List, [], ◌∷◌, Option, None, Some, is_some, IsTrue, IsFalse, if◌then◌else◌}
use mathlib.Core.Option.{some}
use lib.ListN.{get_elem?}
use Rattle.key_hash.specs.Bucket.{bucket_number}
use Rattle.map_types.specs.declared.attr.Shape.{Shape}
use Rattle.map_types.specs.declared.kind.DomainId.{DomainId}
use Rattle.map_types.specs.declared.kind.DomainId.TheVariants.{Bucket}
use Rattle.map_types.specs.ElementLists.{IsIn}
use Rattle.owner_words.specs.Owners.{OwnersTold, owner_told}
use Rattle.place_words.specs.declared.bucket_part.BucketPart.TheVariants.{Evict}
use Rattle.place_words.specs.declared.bucket_part.Seen.TheVariants.{Held}
use Rattle.place_words.specs.declared.history.Entry.{Entry}
use Rattle.place_words.specs.declared.history.Part.{Part}
use Rattle.place_words.specs.declared.history.Part.TheVariants as parts
use Rattle.place_words.specs.declared.home.Home.{Home}
use Rattle.place_words.specs.declared.home.Home.TheVariants as homes
use Rattle.place_words.specs.declared.owner.Owner.{Owner}
use Rattle.place_words.specs.declared.owner.Owner.TheVariants as owners
use Rattle.place_words.specs.declared.owner.Owner.TheVariants.{Free, Hand}
use Rattle.place_words.specs.Locks.{lock_named, lock_number}
use Rattle.place_words.specs.State.{rows, is_bucket}
use Rattle.place_table.specs.declared.view.View.{View}
use Rattle.place_table.specs.declared.view.Hold.{Hold}
use Rattle.place_table.specs.declared.view.Notes.{Notes}
use Rattle.place_table.specs.declared.view.OwnerSeen.{OwnerSeen}
use Rattle.place_table.specs.declared.view.Ticket.{Ticket}
use Rattle.place_table.specs.declared.view.Ticket.TheVariants.{Drawn}
use Rattle.place_table.specs.TurnNotes.{HasOnlyHash, WasReadInHand}
use Rattle.place_table.specs.Views.{is_among, hold_at, holds_below, notes_below, owners_last}

-- Changes

-- what an element was changed to last, none where it wasn't changed, and its owner after these changes
abbrev pub changed_to : ℕ → List OwnerSeen → Option Owner
changed_to e [] = None
changed_to e (x ∷ xs) = if x.element == e then Some x.owner else changed_to e xs

abbrev pub owner_left : List OwnerSeen → ℕ → Owner → Owner
owner_left [] e owner = owner
owner_left (x ∷ xs) e owner = if x.element == e then x.owner else owner_left xs e owner

-- an owner, or else another one
abbrev pub first_of : Option Owner → Option Owner → Option Owner
first_of None later = later
first_of (Some owner) later = Some owner

-- the same in the turns of locks that are held, those taken last first
abbrev pub change_in : ℕ → List Hold → List Notes → Option Owner
change_in e [] notes = None
change_in e (hold ∷ holds) [] = None
change_in e (hold ∷ holds) (n ∷ notes) = first_of (changed_to e n.changed) (change_in e holds notes)

-- What a pass is asked

-- in no turn around that of the lock taken last was the element changed
abbrev pub IsUnchangedAround : View → ℕ → Type 0
IsUnchangedAround v e = change_in e (holds_below v.held) (notes_below v.notes) ≡ None

-- where it was changed there, it was set free (so it wasn't, as what is free is in no hand, no bucket and no row)
abbrev pub IsFreeAround : View → ℕ → Type 0
IsFreeAround v e = (owner : Owner) → change_in e (holds_below v.held) (notes_below v.notes) ≡ Some owner → owner ≡ Free

-- it is listed under a lock that is held, which is no bucket
pub record IsListedHere (shape : Shape) (v : View) (e : ℕ) : Type 0 where
  pub lock : ℕ
  pub hold : Hold
  pub held : hold_at lock v.held ≡ Some hold
  pub no_bucket : IsFalse (is_bucket (lock_named shape lock))
  pub listed : IsIn e (rows hold.now)

-- An element that a probe found in a hand is listed under a lock that is held. Each row that it had under one of these when that was taken
-- has one hash, which is of the probed bucket; it may have had none. Where it was changed in the turns around it was set free.
pub record IsProbed (shape : Shape) (v : View) (lock : DomainId) (e : ℕ) : Type 0 where
  pub listed : IsListedHere shape v e
  pub hash : ℕ
  pub only : HasOnlyHash shape v e hash
  pub lock_is : lock ≡ Bucket (bucket_number hash shape.buckets)
  pub around : IsFreeAround v e

-- The part of a CPU tells just what was made of owners in the turn; and an element of which it tells that a probe found it in a hand may be
-- told so.
pub record OwnersFit (shape : Shape) (v : View) (hold : Hold) (cpu : ℕ) (part : Part) (notes : Notes) : Type 0 where
  pub changes : (e : ℕ) (owner : Owner) → owner_left notes.changed e owner ≡ owner_told shape (lock_named shape hold.lock) cpu part e owner
  pub probed : (e holder : ℕ) → part ≡ parts.Bucket (Evict e (Held holder)) → IsProbed shape v (lock_named shape hold.lock) e

-- the same of the innermost turn
abbrev pub InnermostOwnersFit : Shape → View → Hold → ℕ → Part → List Notes → Type 0
InnermostOwnersFit shape v hold cpu part [] = ⊥
InnermostOwnersFit shape v hold cpu part (notes ∷ below) = OwnersFit shape v hold cpu part notes

-- What the rule says

-- of locks that are held, or of their notes, those whose turn has drawn no ticket
abbrev pub behind_first : {A : Type 0} → List A → List A
behind_first [] = []
behind_first (x ∷ xs) = xs

abbrev pub undrawn : {A : Type 0} → Ticket → List A → List A
undrawn (Drawn t) xs = behind_first xs
undrawn ticket xs = xs

-- what the pass has made of an element in turns that have drawn no ticket
abbrev pub changing : ℕ → View → Option Owner
changing e v = change_in e (undrawn v.ticket v.held) (undrawn v.ticket v.notes)

abbrev pub is_held : ℕ → List Hold → Bool
is_held k holds = is_some (hold_at k holds)

-- a home is a lock that is held, or the hand of one of these CPUs
abbrev pub IsHomeHere : Shape → List ℕ → List Hold → Home → Type 0
IsHomeHere shape cpus holds homes.Unlisted = ⊥
IsHomeHere shape cpus holds (homes.In lock) = is_held (lock_number shape lock) holds ≡ true
IsHomeHere shape cpus holds (homes.Hand cpu) = is_among cpu cpus ≡ true

-- the lock of the bucket of this hash is held
abbrev pub IsBucketHere : Shape → List Hold → ℕ → Type 0
IsBucketHere shape holds hash = is_held (lock_number shape (Bucket (bucket_number hash shape.buckets))) holds ≡ true

-- What keeps others from an element with such an owner, home and stored hash: where it is free the pass has its home, where it is in a
-- bucket it holds that, and where it is in a hand of the pass it has its home, or holds the bucket of its stored hash; it is in no other
-- hand.
abbrev pub IsKept : Shape → List ℕ → List Hold → Home → ℕ → Owner → Type 0
IsKept shape cpus holds home hash owners.Free = IsHomeHere shape cpus holds home
IsKept shape cpus holds home hash (owners.Bucket bucket) = is_held (lock_number shape (Bucket bucket)) holds ≡ true
IsKept shape cpus holds home hash (owners.Hand cpu) = (is_among cpu cpus ≡ true) × (IsHomeHere shape cpus holds home ⊎ IsBucketHere shape holds hash)

pub record IsGuarded (shape : Shape) (owner : ℕ → Owner) (home : ℕ → Home) (hash : ℕ → ℕ) (cpus : List ℕ) (holds : List Hold) (e : ℕ) (to : Owner) : Type 0 where
  pub owner_is : owner e ≡ to
  pub kept : IsKept shape cpus holds (home e) (hash e) to

-- What was changed in a turn has the owner that it got, and is kept from others by that turn's lock and those taken before it.
abbrev pub AreGuarded : Shape → (ℕ → Owner) → (ℕ → Home) → (ℕ → ℕ) → List ℕ → List Hold → List Notes → Type 0
AreGuarded shape owner home hash cpus [] notes = Unit {0}
AreGuarded shape owner home hash cpus (hold ∷ holds) [] = Unit {0}
AreGuarded shape owner home hash cpus (hold ∷ holds) (n ∷ notes) =
    ((e : ℕ) (to : Owner) → changed_to e n.changed ≡ Some to → IsGuarded shape owner home hash cpus (hold ∷ holds) e to)
    × AreGuarded shape owner home hash cpus holds notes

-- a turn that has drawn its ticket leads from the owners before it to those after it
abbrev pub IsDrawnFor : (ℕ → ℕ → Owner) → Ticket → List Notes → Type 0
IsDrawnFor canon (Drawn t) (n ∷ notes) = (e : ℕ) → canon (suc t) e ≡ owner_left n.changed e (canon t e)
IsDrawnFor canon ticket notes = Unit {0}

-- it is in the hand of one of these CPUs
abbrev pub IsInHandHere : List ℕ → Owner → Type 0
IsInHandHere cpus (owners.Hand cpu) = is_among cpu cpus ≡ true
IsInHandHere cpus owner = ⊥

-- the lock taken last is a bucket's
abbrev pub IsBucketLast : Shape → List Hold → Type 0
IsBucketLast shape [] = ⊥
IsBucketLast shape (hold ∷ holds) = IsTrue (is_bucket (lock_named shape hold.lock))

-- While the lock taken last is a bucket's, no other pass can change the owner of an element: this one has its home, and has it in hand or
-- holds the bucket of its stored hash.
pub record IsProtected (shape : Shape) (owner : ℕ → Owner) (home : ℕ → Home) (hash : ℕ → ℕ) (v : View) (e : ℕ) : Type 0 where
  pub last : IsBucketLast shape v.held
  pub at_home : IsHomeHere shape v.cpus v.held (home e)
  pub kept : IsInHandHere v.cpus (owner e) ⊎ IsBucketHere shape v.held (hash e)

-- its owner before the ticket of the turn of the lock taken last; where that has drawn none, its owner now
abbrev pub owner_before : (ℕ → ℕ → Owner) → (ℕ → Owner) → Ticket → ℕ → Owner
owner_before canon owner (Drawn t) e = canon t e
owner_before canon owner ticket e = owner e

pub record KnowsOwners (shape : Shape) (canon : ℕ → ℕ → Owner) (owner : ℕ → Owner) (home : ℕ → Home) (hash : ℕ → ℕ) (v : View) : Type 0 where
  pub guarded : AreGuarded shape owner home hash v.cpus (undrawn v.ticket v.held) (undrawn v.ticket v.notes)
  pub drawn : IsDrawnFor canon v.ticket v.notes
  -- an owner that was read as a hand in the turn of a bucket, where no other pass can change it: the element was in that hand before the
  -- turn's ticket, or the pass has changed it
  pub looked : (e holder : ℕ) → WasReadInHand e holder (owners_last v.notes) → IsProtected shape owner home hash v e
      → IsTrue (is_some (change_in e v.held v.notes)) ⊎ (owner_before canon owner v.ticket e ≡ Hand holder)

-- no pass has changed the element in a turn that has drawn no ticket
abbrev pub IsUnchanging : List View → ℕ → Type 0
IsUnchanging views e = (pass : ℕ) (v : View) → get_elem? views pass ≡ some v → changing e v ≡ None

-- The turns lead from the owners at the opening to those after each ticket drawn, and the last of these are the owners that are, but
-- for those that were changed in turns that have drawn no ticket; what each pass has changed and read fits these.
pub record Owners (shape : Shape) (word : ℕ) (owner : ℕ → Owner) (home : ℕ → Home) (hash : ℕ → ℕ) (log : ℕ → List Entry) (views : List View) : Type 0 where
  pub told : OwnersTold shape (λ lock. log (lock_number shape lock))
  pub now : (e : ℕ) → IsUnchanging views e → told.owner word e ≡ owner e
  pub known : (pass : ℕ) (v : View) → get_elem? views pass ≡ some v → KnowsOwners shape told.owner owner home hash v
