-- Turns inside turns: which locks were held at a turn, what was their history then, and how long each was held on.
use Rattle.std.specs.Prelude.{◌≡◌, ◌≢◌, ℕ, ◌==◌, ◌<◌, Bool, false, List, [], ◌∷◌, Option, Some, MatchBool, IsTrue, option_map}
use Rattle.map_types.specs.declared.attr.Shape.{Shape}
use Rattle.map_types.specs.declared.kind.DomainId.{DomainId}
use Rattle.map_types.specs.declared.kind.DomainId.TheVariants.{Global}
use Rattle.place_words.specs.declared.history.Entry.{Entry}
use Rattle.place_words.specs.declared.history.Part.{Part}
use Rattle.place_words.specs.declared.history.Part.TheVariants as parts
use Rattle.place_words.specs.Interleaving.{is_inner}
use Rattle.place_words.specs.Locks.{lock_named, rank_of}
use Rattle.place_words.specs.State.{is_bucket}
use Rattle.place_words.specs.Tickets.{AscendIn, tickets_of}
use Rattle.place_table.specs.declared.view.Hold.{Hold}
use Rattle.place_table.specs.declared.view.View.{View}
use Rattle.place_table.specs.declared.view.Turned.{Turned}
use Rattle.place_table.specs.declared.view.Ended.{Ended}
use Rattle.place_table.specs.Views.{hold_at, is_local, IsAboveAll, Ascends}

-- of these locks that are held the one taken last is that of local lists
abbrev pub IsLocalLast : Shape → List Hold → Type 0
IsLocalLast shape [] = ⊥
IsLocalLast shape (hold ∷ holds) = IsTrue (is_local (lock_named shape hold.lock))

-- the locks inside whose turns an inner turn is made, with those held besides: a bucket's around a turn of a freelist; one of lists around
-- an eviction, and where that is the global lists', local lists were taken right before it; and local lists' around a turn of the global
-- ones
abbrev pub MayBeAround : Shape → Part → DomainId → List Hold → Type 0
MayBeAround shape (parts.Bucket part) lock others = (rank_of lock < 3) × (lock ≡ Global → IsLocalLast shape others)
MayBeAround shape (parts.Free part) lock others = IsTrue (is_bucket lock)
MayBeAround shape (parts.Local part) lock others = ⊥
MayBeAround shape (parts.Global part) lock others = IsTrue (is_local lock)
MayBeAround shape (parts.Own part) lock others = ⊥

-- of these locks that are held the one taken last is such a lock
pub record IsAround (shape : Shape) (part : Part) (held : List Hold) : Type 0 where
  pub outer : Hold
  pub others : List Hold
  pub held_are : held ≡ outer ∷ others
  pub may_be : MayBeAround shape part (lock_named shape outer.lock) others

-- an inner turn is made while it is held
abbrev pub IsInside : Shape → Part → List Hold → Type 0
IsInside shape part held = MatchBool (is_inner part) (IsAround shape part held) (Unit {0})

-- the turns before, of a lock that is held
abbrev pub log_held : ℕ → List Hold → Option (List Entry)
log_held k held = option_map (λ (hold : Hold). hold.log) (hold_at k held)

-- A lock that is held with these turns before is held on while these turns of the strand are made, up to the first of its own, which
-- comes right after those; where there is none, it is held still.
abbrev pub IsHeldOn : ℕ → List Entry → List Turned → List Hold → Type 0
IsHeldOn k log [] held = log_held k held ≡ Some log
IsHeldOn k log (step ∷ steps) held =
    MatchBool (step.lock == k) (step.earlier ≡ log) ((log_held k step.moment.held ≡ Some log) × IsHeldOn k log steps held)

-- Where local lists are held, and the global ones with them, what was made in that hold of the local lists was made in that hold of the
-- global ones: the turns before tell one hold of a lock from another.
abbrev pub IsWithGlobal : Shape → Turned → List Hold → Type 0
IsWithGlobal shape step held =
    (k g : ℕ) (log globals : List Entry) → IsTrue (is_local (lock_named shape k)) → lock_named shape g ≡ Global
    → log_held k held ≡ Some log → log_held g held ≡ Some globals → log_held k step.moment.held ≡ Some log → log_held g step.moment.held ≡ Some globals

-- so it is at each later turn of the strand, and now
abbrev pub StaysWithGlobal : Shape → Turned → List Turned → List Hold → Type 0
StaysWithGlobal shape step [] held = IsWithGlobal shape step held
StaysWithGlobal shape step (later ∷ steps) held = IsWithGlobal shape step later.moment.held × StaysWithGlobal shape step steps held

-- none of these turns was made while this lock was held with these turns before
abbrev pub AreOutside : ℕ → List Entry → List Turned → Type 0
AreOutside k log [] = Unit {0}
AreOutside k log (step ∷ steps) = (log_held k step.moment.held ≢ Some log) × AreOutside k log steps

-- nor while one of these was, as they are held
abbrev pub AreOutsideAll : List Hold → List Turned → Type 0
AreOutsideAll [] steps = Unit {0}
AreOutsideAll (hold ∷ holds) steps = AreOutside hold.lock hold.log steps × AreOutsideAll holds steps

-- A lock may be taken above all that are held; the global lists only where no turn of the strand was made yet while one of these was
-- held so.
abbrev pub MayTake : Shape → DomainId → View → Type 0
MayTake shape Global v = IsAboveAll shape (rank_of Global) v.held × AreOutsideAll v.held v.steps
MayTake shape lock v = IsAboveAll shape (rank_of lock) v.held

-- The locks held at a turn, when its lock was given back: the last one taken was its own, and those around it have lower ranks, and
-- were held on. An inner turn has one around it. In a hold of local lists, what was made before a turn of the global lists was made
-- inside that one. The turn has a ticket above those of all turns that stood before in the history of each of these locks, where that
-- isn't lost: it was drawn while they were held.
pub record IsNested (shape : Shape) (lost : ℕ → Bool) (step : Turned) (later : List Turned) (held : List Hold) : Type 0 where
  pub own : Hold
  pub around : List Hold
  pub held_are : step.moment.held ≡ own ∷ around
  pub lock_is : own.lock ≡ step.lock
  pub earlier_is : own.log ≡ step.earlier
  pub ascends : Ascends shape step.moment.held
  pub inside : IsInside shape step.entry.part around
  pub held_on : (k : ℕ) (log : List Entry) → log_held k around ≡ Some log → IsHeldOn k log later held
  pub with_global : StaysWithGlobal shape step later held
  pub above : (k : ℕ) (log : List Entry) → log_held k step.moment.held ≡ Some log → lost k ≡ false → AscendIn 0 (tickets_of log) step.entry.ticket

-- each of these turns of a strand, which now holds these locks
abbrev pub AreNested : Shape → (ℕ → Bool) → List Turned → List Hold → Type 0
AreNested shape lost [] held = Unit {0}
AreNested shape lost (step ∷ steps) held = IsNested shape lost step steps held × AreNested shape lost steps held

-- and those of each strand that has ended, with no lock held
abbrev pub EachNested : Shape → (ℕ → Bool) → List Ended → Type 0
EachNested shape lost [] = Unit {0}
EachNested shape lost (strand ∷ strands) = AreNested shape lost strand.steps [] × EachNested shape lost strands
