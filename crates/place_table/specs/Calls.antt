-- What each call on a map leaves of its pass: the turns that it adds to the pass's strand are a trace of the call, with the
-- answer that it gives.
use Rattle.std.specs.Prelude.{◌≡◌, ◌⊎◌, ℕ, Bool, true, false, not, IsTrue, IsFalse, All, List, [], ◌∷◌, ◌++◌, map, flat_map, Option, None, Some, Result, Ok, Err, if◌then◌else◌}
use Rattle.map_types.specs.declared.attr.Shape.{Shape}
use Rattle.map_types.specs.declared.call.Verb.{Verb}
use Rattle.map_types.specs.declared.refusal.Absent.{Absent}
use Rattle.map_types.specs.declared.refusal.Errno.TheVariants as errnos
use Rattle.map_types.specs.declared.reply.Reply.{Reply}
use Rattle.map_types.specs.declared.reply.Reply.TheVariants.{Done, Value, Refused}
use Rattle.map_types.specs.Kind.{is_lru}
use Rattle.map_types.specs.ElementLists.{times}
use Rattle.map_types.specs.Stored.{Stored}
use Rattle.place_words.specs.declared.history.Entry.{Entry}
use Rattle.place_words.specs.declared.history.Part.{Part}
use Rattle.place_words.specs.declared.history.Part.TheVariants as parts
use Rattle.place_words.specs.declared.list_part.LocalPart.{LocalPart}
use Rattle.place_words.specs.declared.list_part.LocalPart.TheVariants as local
use Rattle.place_words.specs.declared.visits.Visit.{Visit}
use Rattle.place_words.specs.Histories.{content, content_after, Allows, marks, bits_cleared, bits_read, also_cleared, clears}
use Rattle.place_words.specs.Locks.{lock_named}
use Rattle.place_words.specs.Traces.{IsTrace}
use Rattle.place_words.specs.Walks.{spare_left}
use Rattle.place_table.specs.declared.view.Hold.{Hold}
use Rattle.place_table.specs.declared.view.Moment.{Moment}
use Rattle.place_table.specs.declared.view.Notes.{Notes}
use Rattle.place_table.specs.declared.view.Turned.{Turned}
use Rattle.place_table.specs.declared.view.View.{View}
use Rattle.place_table.specs.Known.{BitTouch, Learns, KnowsAll, turn_at, IsBy}
use Rattle.place_table.specs.Passes.{PassView, TableView, IsPassOf, HasBegun, IsInNoCall, Made, SparesDiffer, spare_of}
use Rattle.place_table.specs.Plays.{WentOff}
use Rattle.place_table.specs.TurnNotes.{NotesFit, clears_noted}
use Rattle.place_table.specs.Views.{is_among, spent}

-- a call asks that its pass is of the map, has begun, and is in no other call
pub record CanCall (t : TableView) (p : PassView) : Type 0 where
  pub of_table : IsPassOf t p
  pub begun : HasBegun p
  pub in_no_call : IsInNoCall p

-- the element of the spare that a pass keeps for its CPU
abbrev pub element_of : Option Stored → Option ℕ
element_of None = None
element_of (Some body) = Some body.element

abbrev pub spare_element : PassView → Option ℕ
spare_element p = element_of (spare_of p.cpu p.spares)

-- Bits

-- a bit is set; one is cleared, with what it was; one is cleared, whatever it was
abbrev pub sets_bit : ℕ → BitTouch
sets_bit e = record { element = e; seen = None; left = true }

abbrev pub clears_found : Visit → BitTouch
clears_found visit = record { element = visit.element; seen = Some visit.bit; left = false }

abbrev pub clears_bit : ℕ → BitTouch
clears_bit e = record { element = e; seen = None; left = false }

-- and one is read, and left as it was
abbrev pub reads_bit : Visit → BitTouch
reads_bit visit = record { element = visit.element; seen = Some visit.bit; left = visit.bit }

-- the steps on bits that a part tells, and those of some turns in their order; on a map that doesn't evict there are none
abbrev pub bits_of_part : Shape → Part → List BitTouch
bits_of_part shape part = map reads_bit (bits_read part) ++ map sets_bit (marks shape part) ++ map clears_found (bits_cleared part) ++ map clears_bit (also_cleared part)

abbrev pub bits_of_turns : Shape → List Turned → List BitTouch
bits_of_turns shape steps = if is_lru shape.kind then flat_map (λ (step : Turned). bits_of_part shape step.entry.part) steps else []

-- Turns

-- A push that found its element pending no more, since it had been flushed after its home was read.
abbrev pub found_moved_on : LocalPart → Bool
found_moved_on (local.Push e done) = not done
found_moved_on part = false

abbrev pub finds_moved_on : Part → Bool
finds_moved_on (parts.Local part) = found_moved_on part
finds_moved_on part = false

-- A pass that has all CPUs, and knows the turns of all locks, finds no element moved on that it frees: nobody else can flush one after
-- its home was read.
abbrev pub FindNoneMoved : TableView → PassView → List Turned → Type 0
FindNoneMoved t before told =
    IsTrue t.shape.common → (logs : ℕ → List Entry) → KnowsAll t.shape logs before.view → All (λ (turn : Turned). IsFalse (finds_moved_on turn.entry.part)) told

-- What a call leaves, whatever it answers: these turns were made by its CPU in it, and these locks it gave back without a part,
-- so that their record is lost; the pass is in no call; only the spare of its CPU may be another. Each turn is allowed on what the turns of its lock before
-- it lead to. Where the pass has all CPUs, the turns of each lock go on from what it knew of that lock, and it knows afterwards
-- what they lead to, of each lock that it knew before or gave back; and likewise each bit by these steps. On a map that doesn't
-- evict it knows no more and no less of bits.
pub record Leaves (t : TableView) (before after : PassView) (steps : List Turned) (lost : List ℕ) (touches : List BitTouch) : Type 0 where
  pub made : Made before after steps lost
  pub in_no_call : IsInNoCall after
  pub by_call : All (IsBy before.cpu before.call) steps
  pub other_spares : SparesDiffer before.cpu before.spares after.spares
  pub bits : is_lru t.shape.kind ≡ false → after.view.bits ≡ before.view.bits
  pub learns : Learns t.shape before.view after.view steps touches

-- what a pass knows that knows no more than this of a moment
abbrev pub view_then : Shape → Moment → View
view_then shape moment = record (spent shape) { held = moment.held; hand = moment.hand; carried = moment.carried; notes = moment.notes }

-- A part tells a turn that was made: it tells what was done and read in the turn, as was noted when its lock was given back, and what was gone
-- from local lists by then is flushed by it, or was carried. The bits that it tells are what the first clears of the turn found, in their
-- order.
pub record TellsTurn (shape : Shape) (turn : Turned) (part : Part) : Type 0 where
  pub hold : Hold
  pub below : List Hold
  pub innermost : turn.moment.held ≡ hold ∷ below
  pub lock_is : hold.lock ≡ turn.lock
  pub log_is : hold.log ≡ turn.earlier
  pub notes : Notes
  pub notes_below : List Notes
  pub notes_are : turn.moment.notes ≡ notes ∷ notes_below
  pub notes_fit : NotesFit shape (view_then shape turn.moment) hold part notes
  pub first_clears : (behind : List Visit) × (clears_noted notes ≡ bits_cleared part ++ behind)
  pub gone : IsTrue (is_lru shape.kind) → WentOff shape (view_then shape turn.moment) hold part

-- A turn, and another that could have been made in its place: of the same lock after the same turns, by the same CPU in the same
-- call, with a part that is allowed there too, sets bits of the same elements and clears bits of the same ones, and leaves the same.
pub record CouldBe (shape : Shape) (step told : Turned) : Type 0 where
  pub lock : told.lock ≡ step.lock
  pub earlier : told.earlier ≡ step.earlier
  pub cpu : told.entry.cpu ≡ step.entry.cpu
  pub call : told.entry.call ≡ step.entry.call
  pub moment : told.moment ≡ step.moment
  pub allowed : Allows shape told.entry.cpu told.entry.part (content shape (lock_named shape step.lock) step.earlier)
  pub same_marks : marks shape told.entry.part ≡ marks shape step.entry.part
  pub same_clears : (e : ℕ) → times e (clears told.entry.part) ≡ times e (clears step.entry.part)
  pub leaves : content_after shape told.entry.cpu told.entry.part (content shape (lock_named shape step.lock) step.earlier)
      ≡ content_after shape step.entry.cpu step.entry.part (content shape (lock_named shape step.lock) step.earlier)

-- A turn as a call tells it: the one that was made; or, where the lock was given back without a part, one that could have been. Whichever
-- it is, it tells what was done and read in the turn.
abbrev pub IsTold : Shape → List ℕ → Turned → Turned → Type 0
IsTold shape lost step told =
    ((told ≡ step) ⊎ ((is_among step.lock lost ≡ true) × CouldBe shape step told)) × TellsTurn shape step told.entry.part

abbrev pub AreTold : Shape → List ℕ → List Turned → List Turned → Type 0
AreTold shape lost [] [] = Unit {0}
AreTold shape lost [] (told ∷ others) = ⊥
AreTold shape lost (step ∷ steps) [] = ⊥
AreTold shape lost (step ∷ steps) (told ∷ others) = IsTold shape lost step told × AreTold shape lost steps others

-- The turns as the call tells them, each after the turns of its lock before it, are a trace of the call with this reply, and
-- nothing else; in serial order none that is freed is found to have moved on; the CPU's spare is then the one that they leave. Where
-- no lock was given back without a part, they are those that were made.
pub record Called (t : TableView) (before after : PassView) (verb : Verb) (reply : Reply) : Type 0 where
  pub steps : List Turned
  pub lost : List ℕ
  pub told : List Turned
  pub told_are : AreTold t.shape lost steps told
  pub leaves : Leaves t before after steps lost (bits_of_turns t.shape told)
  pub trace : IsTrace t.shape before.cpu (spare_element before) verb (map (turn_at t.shape) told) reply
  pub none_moved : FindNoneMoved t before told
  pub spare : spare_element after ≡ spare_left t.shape (spare_element before) (map (turn_at t.shape) told)

-- The same, and no lock was given back without a part. A record may still be lost, where give found no memory for the entry: only
-- close tells that.
abbrev pub CalledWhole : TableView → PassView → PassView → Verb → Reply → Type 0
CalledWhole t before after verb reply = (called : Called t before after verb reply) × (called.lost ≡ [])

-- what a lookup or a take answers, and what a delete does
abbrev pub reply_of_value : Result (Unit {0}) Absent → List ℕ → Reply
reply_of_value (Ok done) value = Value value
reply_of_value (Err absent) value = Refused errnos.Enoent

abbrev pub reply_of_done : Result (Unit {0}) Absent → Reply
reply_of_done (Ok done) = Done
reply_of_done (Err absent) = Refused errnos.Enoent
