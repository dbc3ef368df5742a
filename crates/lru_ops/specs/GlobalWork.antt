-- A turn of the global lists while their lock is held within that of the CPU's local lists: they are rotated, and shrunk into the
-- local free list.
use Rattle.std.specs.Prelude.{◌≡◌, ℕ, ◌+◌, ◌≤◌, true, false, IsTrue, IsPermutation, All, List, [], ◌∷◌, length, Some}
use Rattle.map_types.specs.declared.kind.DomainId.TheVariants.{Global, Local}
use Rattle.map_types.specs.declared.row.Row.{Row}
use Rattle.map_types.specs.ElementLists.{times}
use Rattle.map_types.specs.Stored.{Stored, IsSized}
use Rattle.percpu_values.specs.BodyList.{BodyList}
use Rattle.place_words.specs.Bodies.{numbers}
use Rattle.place_words.specs.Globals.{global_scans}
use Rattle.place_words.specs.Locks.{is_lock, lock_number}
use Rattle.place_words.specs.State.{rows}
use Rattle.place_table.specs.declared.view.Hold.{Hold}
use Rattle.place_table.specs.Contents.{FitsSet}
use Rattle.place_table.specs.Passes.{PassView, TableView}
use Rattle.place_table.specs.TurnNotes.{HasOnlyHash}
use Rattle.place_table.specs.Views.{is_among, is_in_hand_of}
use Rattle.local_lists.specs.LocalLists.{LocalView, IsLocal, with_free}
use Rattle.lru_lists.specs.declared.bits.BitCall.{BitCall}
use Rattle.lru_lists.specs.declared.bits.ProbeCall.{ProbeCall}
use Rattle.lru_lists.specs.declared.notes.RotateNotes.{RotateNotes}
use Rattle.lru_lists.specs.declared.notes.ShrinkNotes.{ShrinkNotes}
use Rattle.lru_lists.specs.Sets.{SetView, IsListed, row_on, times_listed}
use Rattle.lru_rotate.specs.Rotating.{Rotation}
use Rattle.lru_shrink.specs.Asking.{Questions}
use Rattle.lru_shrink.specs.Shrunk.{Shrink}
use Rattle.lru_ops.specs.declared.probing.Destination.TheVariants.{LocalFree}
use Rattle.lru_ops.specs.Askings.{Does}
use Rattle.lru_ops.specs.Evictions.{HoldsLists}
use Rattle.lru_ops.specs.OwnTurns.{rows_on}

-- The pass holds the lock of the global lists, within that of its CPU's local lists, and no other.
pub record HoldsGlobal (t : TableView) (p : PassView) : Type 0 where
  pub lists : HoldsLists t Global p
  pub local_there : IsTrue (is_lock t.shape (Local p.cpu))
  pub local : Hold
  pub around : lists.outer ≡ local ∷ []
  pub local_is : local.lock ≡ lock_number t.shape (Local p.cpu)
  pub local_cpu : local.cpu ≡ p.cpu

-- This is the set of the global lists as the pass has it: under their lock these elements are free, in this order, and each element
-- is listed as often as in the set, in whatever order. The rows may be probed: each has the only hash that its element had under a
-- lock that is held, when that was taken, and none of the elements is in a hand of the pass.
pub record CanWalk (t : TableView) (set : SetView) (p : PassView) : Type 0 where
  pub holds : HoldsGlobal t p
  pub fits : FitsSet t.shape set
  pub same_free : holds.lists.hold.now.free ≡ numbers set.free.bodies
  pub same_rows : (e : ℕ) → times e (rows holds.lists.hold.now) ≡ times_listed e set
  pub hashed : (row : Row) → row_on row.element set ≡ Some row → HasOnlyHash t.shape p.view row.element row.hash
  pub in_no_hand : (e cpu : ℕ) → IsListed e set → is_among cpu p.view.cpus ≡ true → is_in_hand_of e cpu p.view.hand ≡ false

-- The set was rotated by this pass. No row was made or lost.
pub record Rotated (t : TableView) (before after : SetView) (notes notes_after : RotateNotes) (p q : PassView) : Type 0 where
  pub calls : List BitCall
  pub rotation : Rotation global_scans before after [] calls notes notes_after
  pub rows : IsPermutation (rows_on before) (rows_on after)
  pub does : Does t LocalFree (rows_on before) calls [] p q
  pub leaves : CanWalk t after q

-- And these are the local lists as the pass has them, with bodies of the map's sizes and room for every element: nothing is pending,
-- under their lock these elements are free, in this order, and nothing is listed. No element is free there and listed in the set.
pub record CanShrinkInto (t : TableView) (set : SetView) (lists : LocalView) (p : PassView) : Type 0 where
  pub walk : CanWalk t set p
  pub sized : All (IsSized t.shape) lists.free.bodies
  pub bound : lists.elements ≡ t.shape.elements
  pub room : length lists.free.bodies + lists.free.spare ≡ t.shape.elements
  pub whole : IsLocal lists
  pub none_pending : lists.pending ≡ []
  pub same_free : walk.holds.local.now.free ≡ numbers lists.free.bodies
  pub no_rows : (e : ℕ) → times e (rows walk.holds.local.now) ≡ 0
  pub apart : (e : ℕ) → times_listed e set + times e (numbers lists.free.bodies) ≤ 1

-- A moment of a shrink into local lists: the set and these lists, what was asked so far, and the notes.
pub record IntoMoment : Type 0 where
  pub set : SetView
  pub lists : LocalView
  pub asked : Questions
  pub notes : ShrinkNotes

-- A set was shrunk, and what was freed came on top of the free list of these local lists.
pub record ShrinksInto (target : ℕ) (gives : Stored → Type 0) (before after : IntoMoment) : Type 0 where
  pub free : BodyList
  pub answer : ℕ
  pub shrink : Shrink global_scans target gives
      (record { set = before.set; asked = before.asked; out = before.lists.free; notes = before.notes })
      (record { set = after.set; asked = after.asked; out = free; notes = after.notes }) answer
  pub lists_are : after.lists ≡ with_free free before.lists

-- A moment of a turn of the global lists: their set, the local lists of a CPU, and the pass that holds the locks of both.
pub record BothLists : Type 0 where
  pub set : SetView
  pub lists : LocalView
  pub pass : PassView

abbrev pub both_lists : SetView → LocalView → PassView → BothLists
both_lists set lists pass = record { set = set; lists = lists; pass = pass }

-- The set was shrunk so by this pass.
pub record ShrunkInto (t : TableView) (target : ℕ) (before after : BothLists) (notes notes_after : ShrinkNotes) : Type 0 where
  pub calls : List BitCall
  pub probes : List ProbeCall
  pub shrinks : ShrinksInto target (IsSized t.shape)
      (record { set = before.set; lists = before.lists; asked = record { calls = []; probes = [] }; notes = notes })
      (record { set = after.set; lists = after.lists; asked = record { calls = calls; probes = probes }; notes = notes_after })
  pub does : Does t LocalFree (rows_on before.set) calls probes before.pass after.pass
  pub leaves : CanShrinkInto t after.set after.lists after.pass
