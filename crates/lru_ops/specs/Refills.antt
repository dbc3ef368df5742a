-- A refill of a CPU's local free list, within a turn of its local lists: what it asks and what it leaves, and what that turn tells of it.
use Rattle.std.specs.Prelude.{◌≡◌, ℕ, true, false, IsTrue, List, [], ◌∷◌, ◌++◌, map, reverse, Option, ◌≢◌, IsFalse, All, IfSome}
use Rattle.map_types.specs.ElementLists.{times}
use Rattle.place_words.specs.declared.history.Part.TheVariants as parts
use Rattle.place_words.specs.declared.list_part.GlobalPart.TheVariants as global
use Rattle.place_words.specs.declared.visits.Flush.{Flush}
use Rattle.place_words.specs.declared.visits.Look.{Look}
use Rattle.place_words.specs.declared.visits.ShrinkNote.{ShrinkNote}
use Rattle.place_words.specs.declared.visits.Try.{Try}
use Rattle.place_words.specs.declared.visits.Visit.{Visit}
use Rattle.place_words.specs.Bodies.{numbers}
use Rattle.place_words.specs.Globals.{flush_visit, flushed_elements, flushed_rows}
use Rattle.place_words.specs.Shrinking.{freed}
use Rattle.place_words.specs.Takings.{IsChased, freed_by}
use Rattle.place_words.specs.declared.step.Lists.{Lists}
use Rattle.place_words.specs.State.{rows}
use Rattle.place_table.specs.declared.view.Hold.{Hold}
use Rattle.place_table.specs.declared.view.Notes.{Notes}
use Rattle.place_table.specs.Calls.{AreTold, bits_of_turns, finds_moved_on}
use Rattle.place_table.specs.Contents.{FitsLocal, lists_of}
use Rattle.place_table.specs.Known.{Learns, IsBy, turn_at}
use Rattle.place_table.specs.Nested.{AreOutside}
use Rattle.place_table.specs.Passes.{PassView, TableView, Goes, IsPassOf, HasBegun}
use Rattle.place_table.specs.TurnNotes.{TellsFlush}
use Rattle.place_table.specs.Views.{is_among, is_in_hand_of, no_notes, hold_with}
use Rattle.local_lists.specs.LocalLists.{LocalView, local_told}
use Rattle.lru_lists.specs.declared.notes.Noted.{Noted}
use Rattle.lru_lists.specs.declared.notes.Noted.TheVariants.{Kept}
use Rattle.lru_lists.specs.declared.notes.ShrinkNotes.{ShrinkNotes}
use Rattle.lru_lists.specs.Notes.{AreNoted}
use Rattle.lru_ops.specs.declared.refill.Refilled.{Refilled}
use Rattle.lru_ops.specs.Evictions.{SawHolders}
use Rattle.map_types.specs.declared.kind.DomainId.TheVariants.{Global, Local}
use Rattle.map_types.specs.Creation.{IsShape}
use Rattle.map_types.specs.Kind.{is_lru}
use Rattle.place_words.specs.Histories.{in_locals, content}
use Rattle.place_words.specs.Locks.{is_lock, lock_number}
use Rattle.place_table.specs.declared.view.Turned.{Turned}
use Rattle.lru_ops.specs.Lists.{GaveNone}

-- The pass holds the lock of its CPU's local lists and no other, and these are the lists as they were taken: nothing is free on them.
-- Nothing was done under the lock yet, no turn was made while it was held so, and nothing is in hand.
pub record CanRefill (t : TableView) (lists : LocalView) (p : PassView) : Type 0 where
  pub of_table : IsPassOf t p
  pub begun : HasBegun p
  pub is_shape : IsShape t.shape
  pub evicts : IsTrue (is_lru t.shape.kind)
  pub common : IsTrue t.shape.common
  pub there : IsTrue (is_lock t.shape (Local p.cpu))
  pub hold : Hold
  pub held : p.view.held ≡ hold ∷ []
  pub lock_is : hold.lock ≡ lock_number t.shape (Local p.cpu)
  pub cpu_is : hold.cpu ≡ p.cpu
  pub outside : AreOutside hold.lock hold.log p.view.steps
  pub found : in_locals (local_told lists) ≡ content t.shape (Local p.cpu) hold.log
  pub now : hold.now ≡ lists_of (in_locals (local_told lists))
  pub fits : FitsLocal t.shape lists
  pub none_free : lists.free.bodies ≡ []
  pub below : List Notes
  pub noted : p.view.notes ≡ no_notes ∷ below
  pub hands_empty : (e cpu : ℕ) → is_among cpu p.view.cpus ≡ true → is_in_hand_of e cpu p.view.hand ≡ false

-- What a refill leaves: a turn of the global lists was made, with its probes, which flushed all that was pending with its hashes. What
-- it moved off free and what it freed is on the local free list, the last on top. `told` says the same, where memory for that was found.
pub record FilledFrom (t : TableView) (lists lists_after : LocalView) (p q : PassView) (told : Option Refilled) : Type 0 where
  pub flushed : List Flush
  pub active : List Visit
  pub inactive : List Visit
  pub free : List ℕ
  pub shrink : Option ShrinkNote
  pub with_hashes : flushed_rows flushed ≡ reverse lists.pending
  pub none_pending : lists_after.pending ≡ []
  pub steal_is : lists_after.steal ≡ lists.steal
  pub free_is : numbers lists_after.free.bodies ≡ reverse (free ++ freed_by shrink)
  pub fits : FitsLocal t.shape lists_after
  pub told_is : IfSome told (λ (refilled : Refilled). (refilled.flushed ≡ map flush_visit flushed) × (refilled.gained ≡ free ++ freed_by shrink))
  -- the turns that were made, and as they are told
  pub steps : List Turned
  pub told_steps : List Turned
  pub lost : List ℕ
  pub told_are : AreTold t.shape lost steps told_steps
  pub goes : Goes p q steps lost
  pub by_call : All (IsBy p.cpu p.call) steps
  pub elsewhere : All (λ (step : Turned). step.lock ≢ lock_number t.shape (Local p.cpu)) steps
  pub stay : All (λ (turn : Turned). IsFalse (finds_moved_on turn.entry.part)) told_steps
  pub chased : IsChased t.shape Global (parts.Global (global.Turn flushed active inactive free shrink)) (map (turn_at t.shape) told_steps)
  pub none : lists_after.free.bodies ≡ [] → GaveNone t.shape p.cpu told_steps
  -- what lies under the lock of the local lists, and what was noted there
  pub hold : Hold
  pub now : Lists
  pub was : p.view.held ≡ hold ∷ []
  pub held : q.view.held ≡ hold_with hold now ∷ []
  pub same_free : now.free ≡ numbers lists_after.free.bodies
  pub no_rows : (e : ℕ) → times e (rows now) ≡ 0
  pub notes : Notes
  pub below : List Notes
  pub was_noted : p.view.notes ≡ no_notes ∷ below
  pub noted : q.view.notes ≡ notes ∷ below
  pub no_marks : notes.marks ≡ []
  pub none_asked : notes.asked ≡ []
  pub none_changed : notes.changed ≡ []
  pub told_inside : All (TellsFlush notes.flushed) (map flush_visit flushed)
  pub off_is : notes.off ≡ reverse (flushed_elements flushed)
  -- and the rest of the pass
  pub hand : q.view.hand ≡ p.view.hand
  pub carried : q.view.carried ≡ p.view.carried
  pub spares : q.spares ≡ p.spares
  pub saw : SawHolders t.shape p q (steps ++ told_steps)
  pub learns : Learns t.shape p.view q.view steps (bits_of_turns t.shape told_steps)

-- What the turn of the local lists tells of it, where the notes of that were kept: the flushes as visits, and what came to the local
-- free list, in the order in which it came.
abbrev pub IsToldRefill : Noted Flush → Noted ℕ → ShrinkNotes → Refilled → Type 0
IsToldRefill flushing moving shrinking told =
    (flushed : List Flush) → (free : List ℕ) → (looks : List Look) → (forced : List Try)
    → AreNoted flushed (Kept []) flushing → AreNoted free (Kept []) moving → AreNoted looks (Kept []) shrinking.looks → AreNoted forced (Kept []) shrinking.forced
    → (told.flushed ≡ map flush_visit flushed) × (told.gained ≡ free ++ freed looks forced)
