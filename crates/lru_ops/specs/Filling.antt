-- A turn of the global lists while their lock and that of a CPU's local lists are held: it flushes all that is pending, is rotated,
-- moves free elements to the local free list, and shrinks into that for what lacks.
use Rattle.std.specs.Prelude.{◌≡◌, ◌⊎◌, ℕ, ◌+◌, ◌≤◌, Bool, true, false, IsTrue, List, [], ◌∷◌, ◌++◌, map, reverse, Option, None, Some, zero, suc, All, drop, length, slice_get, take}
use Rattle.map_types.specs.declared.row.Row.{Row}
use Rattle.map_types.specs.ElementLists.{times}
use Rattle.map_types.specs.Listed.{elements_of}
use Rattle.place_words.specs.declared.history.Part.{Part}
use Rattle.place_words.specs.declared.history.Part.TheVariants as parts
use Rattle.place_words.specs.declared.list_part.GlobalPart.TheVariants as global
use Rattle.place_words.specs.declared.visits.Flush.{Flush}
use Rattle.place_words.specs.declared.visits.Look.{Look}
use Rattle.place_words.specs.declared.visits.ShrinkNote.{ShrinkNote}
use Rattle.place_words.specs.declared.visits.Try.{Try}
use Rattle.place_words.specs.declared.visits.Visit.{Visit}
use Rattle.place_words.specs.Bodies.{numbers}
use Rattle.place_words.specs.Globals.{flush_row, flush_visit, flushed_elements, flushed_rows, with_flushed, AllowsOnGlobal, global_after, global_target}
use Rattle.place_words.specs.Shrinking.{freed}
use Rattle.place_words.specs.Takings.{stored_hash, freed_by, shrink_probes}
use Rattle.place_words.specs.declared.step.Lists.{Lists}
use Rattle.place_words.specs.State.{rows}
use Rattle.place_table.specs.declared.view.Hold.{Hold}
use Rattle.place_table.specs.declared.view.Notes.{Notes}
use Rattle.place_table.specs.Calls.{clears_found}
use Rattle.place_table.specs.Contents.{FitsLocal, set_told, FitsSet}
use Rattle.place_table.specs.Known.{Learns}
use Rattle.place_table.specs.Passes.{PassView, TableView, Goes}
use Rattle.place_table.specs.TurnNotes.{HasOnlyHash}
use Rattle.place_table.specs.Views.{is_among, is_in_hand_of, no_notes, hold_with}
use Rattle.local_lists.specs.LocalLists.{LocalView, times_on, without_pending, with_free as with_local_free}
use Rattle.lru_lists.specs.declared.bits.BitCall.TheVariants as calls
use Rattle.lru_lists.specs.declared.name.ListName.{ListName}
use Rattle.lru_lists.specs.declared.name.ListName.TheVariants.{Active, Inactive}
use Rattle.lru_lists.specs.declared.notes.Noted.{Noted}
use Rattle.lru_lists.specs.declared.notes.Noted.TheVariants.{Kept, Lost}
use Rattle.lru_lists.specs.declared.notes.RotateNotes.{RotateNotes}
use Rattle.lru_lists.specs.declared.notes.ShrinkNotes.{ShrinkNotes}
use Rattle.lru_lists.specs.Notes.{AreNoted}
use Rattle.lru_lists.specs.Sets.{SetView, moved_in, times_on as times_on_set, row_on, times_listed, with_free}
use Rattle.lru_ops.specs.declared.refill.GlobalNotes.{GlobalNotes}
use Rattle.lru_ops.specs.Askings.{asked_after, AreEvicts, owners_after, changed_after}
use Rattle.lru_ops.specs.Evictions.{SawHolders}
use Rattle.lru_ops.specs.GlobalWork.{BothLists, CanWalk, ShrunkInto}
use Rattle.map_types.specs.Stored.{Stored}
use Rattle.place_words.specs.declared.list_part.GlobalPart.{GlobalPart}
use Rattle.place_words.specs.Histories.{bits_cleared}
use Rattle.place_table.specs.declared.view.Turned.{Turned}
use Rattle.lru_lists.specs.declared.bits.ProbeCall.{ProbeCall}
use Rattle.lru_ops.specs.OwnTurns.{try_of}
use Rattle.lru_ops.specs.declared.probing.Destination.TheVariants.{LocalFree}
use Rattle.percpu_values.specs.BodyList.{pushed, popped}

-- What is pending is flushed

-- The pass holds both locks, and these are the global and the local lists as it has them: under the local lock these elements are free,
-- in this order, and each is listed as often as it is pending. No element stands twice. Each that is pending has the only hash that it
-- had under a lock that is held, when that was taken. What was noted of both turns is named. Nothing is in hand.
pub record CanFill (t : TableView) (set : SetView) (lists : LocalView) (p : PassView) : Type 0 where
  pub walk : CanWalk t set p
  pub common : IsTrue t.shape.common
  pub fits : FitsLocal t.shape lists
  pub same_free : walk.holds.local.now.free ≡ numbers lists.free.bodies
  pub same_rows : (e : ℕ) → times e (rows walk.holds.local.now) ≡ times e (elements_of lists.pending)
  pub apart : (e : ℕ) → times_on_set e set + times_on e lists ≤ 1
  pub hashed : (e h : ℕ) → stored_hash e lists.pending ≡ Some h → HasOnlyHash t.shape p.view e h
  pub notes : Notes
  pub around : Notes
  pub below : List Notes
  pub noted : p.view.notes ≡ notes ∷ around ∷ below
  pub hands_empty : (e cpu : ℕ) → is_among cpu p.view.cpus ≡ true → is_in_hand_of e cpu p.view.hand ≡ false

-- where a flushed element goes
abbrev pub flushed_to : Bool → ListName
flushed_to true = Active
flushed_to false = Inactive

-- What flushes leave in the notes of the turn of the global lists, and in those of the turn of the local lists around it.
abbrev pub flushed_notes : List Flush → List ℕ → Notes → Notes
flushed_notes flushed came n = record n { came = came; asked = asked_after (map calls.Cleared (map flush_visit flushed)) n.asked }

abbrev pub off_notes : List Flush → Notes → Notes
off_notes flushed n = record n { off = reverse (flushed_elements flushed) ++ n.off }

-- What these flushes leave of the pass: each bit was cleared under the lock of the global lists. Other lists lie under the two locks
-- then, other elements came, and nothing else was done.
pub record Flushes (t : TableView) (flushed : List Flush) (p q : PassView) : Type 0 where
  pub goes : Goes p q [] []
  pub global : Hold
  pub local : Hold
  pub was : p.view.held ≡ global ∷ local ∷ []
  pub global_now : Lists
  pub local_now : Lists
  pub held : q.view.held ≡ hold_with global global_now ∷ hold_with local local_now ∷ []
  pub notes : Notes
  pub around : Notes
  pub below : List Notes
  pub was_noted : p.view.notes ≡ notes ∷ around ∷ below
  pub came : List ℕ
  pub noted : q.view.notes ≡ flushed_notes flushed came notes ∷ off_notes flushed around ∷ below
  pub hand : q.view.hand ≡ p.view.hand
  pub carried : q.view.carried ≡ p.view.carried
  pub spares : q.spares ≡ p.spares
  pub saw : SawHolders t.shape p q []
  pub learns : Learns t.shape p.view q.view [] (map clears_found (map flush_visit flushed))

-- The row at the tail of pending was flushed.
pub record FlushedOne (t : TableView) (row : Row) (before after : BothLists) (flush : Flush) : Type 0 where
  pub row_is : flush_row flush ≡ row
  pub set_is : after.set ≡ moved_in row (flushed_to flush.bit) before.set
  pub lists_are : after.lists ≡ without_pending row.element before.lists
  pub leaves : CanFill t after.set after.lists after.pass
  pub flushes : Flushes t (flush ∷ []) before.pass after.pass

-- All that was pending was flushed, from the tail.
pub record FlushedAll (t : TableView) (before after : BothLists) (notes notes_after : Noted Flush) : Type 0 where
  pub flushed : List Flush
  pub noted : AreNoted flushed notes notes_after
  pub with_hashes : flushed_rows flushed ≡ reverse before.lists.pending
  pub set_is : set_told after.set ≡ with_flushed flushed (set_told before.set)
  pub lists_are : after.lists ≡ record before.lists { pending = [] }
  pub leaves : CanFill t after.set after.lists after.pass
  pub flushes : Flushes t flushed before.pass after.pass

-- Free elements that move

-- What they leave of the pass, once they moved in this order: each is noted to have come to the local lists. Other lists lie under the
-- two locks then, and nothing else was done.
pub record MovesFree (t : TableView) (moved : List ℕ) (p q : PassView) : Type 0 where
  pub goes : Goes p q [] []
  pub global : Hold
  pub local : Hold
  pub was : p.view.held ≡ global ∷ local ∷ []
  pub global_now : Lists
  pub local_now : Lists
  pub held : q.view.held ≡ hold_with global global_now ∷ hold_with local local_now ∷ []
  pub notes : Notes
  pub around : Notes
  pub below : List Notes
  pub was_noted : p.view.notes ≡ notes ∷ around ∷ below
  pub noted : q.view.notes ≡ notes ∷ record around { came = reverse moved ++ around.came } ∷ below
  pub hand : q.view.hand ≡ p.view.hand
  pub carried : q.view.carried ≡ p.view.carried
  pub spares : q.spares ≡ p.spares
  pub saw : SawHolders t.shape p q []
  pub learns : Learns t.shape p.view q.view [] []

-- The body at the head of the free list of the set went to the head of the local free list.
pub record MovedOne (t : TableView) (before after : BothLists) (body : Stored) : Type 0 where
  pub set_is : after.set ≡ with_free (popped before.set.free) before.set
  pub lists_are : after.lists ≡ with_local_free (pushed body before.lists.free) before.lists
  pub leaves : CanFill t after.set after.lists after.pass
  pub moves : MovesFree t (body.element ∷ []) before.pass after.pass

abbrev pub MovesOne : TableView → BothLists → BothLists → Option ℕ → Type 0
MovesOne t before after None = (before.set.free.bodies ≡ []) × (after.set ≡ before.set) × (after.lists ≡ before.lists) × (after.pass ≡ before.pass)
MovesOne t before after (Some e) =
    (body : Stored) × (slice_get before.set.free.bodies 0 ≡ Some body) × (e ≡ body.element) × MovedOne t before after body

-- Free elements of the set went over, one after another from the head: as many as a turn is to give, or all where they are fewer.
pub record MovedAll (t : TableView) (before after : BothLists) (notes notes_after : Noted ℕ) (count : ℕ) : Type 0 where
  pub moved : List ℕ
  pub noted : AreNoted moved notes notes_after
  pub moved_are : moved ≡ take global_target (numbers before.set.free.bodies)
  pub count_is : count ≡ length moved
  pub set_is : set_told after.set ≡ record (set_told before.set) { free = drop global_target (numbers before.set.free.bodies) }
  pub free_is : numbers after.lists.free.bodies ≡ reverse moved ++ numbers before.lists.free.bodies
  pub pending_is : after.lists.pending ≡ before.lists.pending
  pub steal_is : after.lists.steal ≡ before.lists.steal
  pub leaves : CanFill t after.set after.lists after.pass
  pub moves : MovesFree t moved before.pass after.pass

-- The whole turn

-- the set was shrunk for so many as lack, where some do
abbrev pub ShrinksLacking : TableView → ℕ → BothLists → BothLists → ShrinkNotes → ShrinkNotes → Type 0
ShrinksLacking t zero before after notes notes_after =
    (after.set ≡ before.set) × (after.lists ≡ before.lists) × (notes_after ≡ notes) × (after.pass ≡ before.pass)
ShrinksLacking t (suc n) before after notes notes_after = ShrunkInto t (suc n) before after notes notes_after

-- nothing was done under the two locks that were taken last
abbrev pub AreFresh : PassView → Type 0
AreFresh p = (below : List Notes) × (p.view.notes ≡ no_notes ∷ no_notes ∷ below)

-- what is told of a shrink of the global lists, where there was one
abbrev pub global_note : Bool → ℕ → List Look → List Try → Option ShrinkNote
global_note true target looks forced = Some (record { target = target; looks = looks; forced = forced })
global_note false target looks forced = None

-- some lack
abbrev pub lacks : ℕ → Bool
lacks zero = false
lacks (suc n) = true

-- the turn as it is told
abbrev pub turn_told : List Flush → List Visit → List Visit → List ℕ → ℕ → List Look → List Try → GlobalPart
turn_told flushed active inactive free target looks forced = global.Turn flushed active inactive free (global_note (lacks target) target looks forced)

-- The global lists before they are given back: what was done since they were taken, as the turn tells it, and what it noted. `target`
-- elements lacked.
pub record FilledUp (t : TableView) (before after : BothLists) (noting noting_after : GlobalNotes) (target : ℕ) : Type 0 where
  pub flushed : List Flush
  pub active : List Visit
  pub inactive : List Visit
  pub free : List ℕ
  pub looks : List Look
  pub forced : List Try
  pub noted_flushed : AreNoted flushed noting.flushed noting_after.flushed
  pub noted_active : AreNoted active noting.turning.active noting_after.turning.active
  pub noted_inactive : AreNoted inactive noting.turning.inactive noting_after.turning.inactive
  pub noted_free : AreNoted free noting.moved noting_after.moved
  pub noted_looks : AreNoted looks noting.shrinking.looks noting_after.shrinking.looks
  pub noted_forced : AreNoted forced noting.shrinking.forced noting_after.shrinking.forced
  -- the turn may be so, and what it leaves of the set is there
  pub allowed : AllowsOnGlobal (turn_told flushed active inactive free target looks forced) (set_told before.set)
  pub left : global_after (turn_told flushed active inactive free target looks forced) (set_told before.set) ≡ set_told after.set
  pub fits : FitsSet t.shape after.set
  pub freed_is : freed looks forced ≡ freed_by (global_note (lacks target) target looks forced)
  -- all that was pending was flushed, with its hashes, and what moved and what was freed is on the local free list
  pub with_hashes : flushed_rows flushed ≡ reverse before.lists.pending
  pub none_pending : after.lists.pending ≡ []
  pub steal_is : after.lists.steal ≡ before.lists.steal
  pub free_is : numbers after.lists.free.bodies ≡ reverse (free ++ freed looks forced)
  pub lists_fit : FitsLocal t.shape after.lists
  -- the turns that were made are probes of the rows that were there or flushed
  pub turns : List Turned
  pub probes : List ProbeCall
  pub goes : Goes before.pass after.pass turns []
  pub walked : List Row
  pub are_evicts : AreEvicts t.shape before.pass.cpu before.pass.call walked probes turns
  pub stored : (e h : ℕ) → stored_hash e walked ≡ Some h → stored_hash e (flushed_rows flushed ++ (before.set.active ++ before.set.inactive)) ≡ Some h
  pub tried : map try_of probes ≡ shrink_probes (global_note (lacks target) target looks forced)
  -- what lies under the two locks
  pub global : Hold
  pub local : Hold
  pub was : before.pass.view.held ≡ global ∷ local ∷ []
  pub global_now : Lists
  pub local_now : Lists
  pub held : after.pass.view.held ≡ hold_with global global_now ∷ hold_with local local_now ∷ []
  pub same_free : global_now.free ≡ numbers after.set.free.bodies
  pub same_rows : (e : ℕ) → times e (rows global_now) ≡ times_listed e after.set
  pub local_free : local_now.free ≡ numbers after.lists.free.bodies
  pub no_rows : (e : ℕ) → times e (rows local_now) ≡ 0
  pub hashed : (row : Row) → row_on row.element after.set ≡ Some row → HasOnlyHash t.shape after.pass.view row.element row.hash
  pub flushed_hashed : All (λ (flush : Flush). HasOnlyHash t.shape after.pass.view flush.element flush.hash) flushed
  -- what was noted
  pub notes : Notes
  pub around : Notes
  pub below : List Notes
  pub was_noted : before.pass.view.notes ≡ no_notes ∷ no_notes ∷ below
  pub noted : after.pass.view.notes ≡ notes ∷ around ∷ below
  pub no_marks : notes.marks ≡ []
  pub asked_is : notes.asked ≡ asked_after (map calls.Cleared (bits_cleared (parts.Global (turn_told flushed active inactive free target looks forced)))) []
  pub owners_are : notes.owners ≡ owners_after probes []
  pub changed_is : notes.changed ≡ changed_after LocalFree probes []
  pub none_off : notes.off ≡ []
  pub around_marks : around.marks ≡ []
  pub around_asked : around.asked ≡ []
  pub around_changed : around.changed ≡ []
  pub around_flushed : around.flushed ≡ []
  pub around_off : around.off ≡ reverse (flushed_elements flushed)
  -- and the rest of the pass
  pub hand : after.pass.view.hand ≡ before.pass.view.hand
  pub carried : after.pass.view.carried ≡ before.pass.view.carried
  pub spares : after.pass.spares ≡ before.pass.spares
  pub saw : SawHolders t.shape before.pass after.pass turns
  pub learns : Learns t.shape before.pass.view after.pass.view turns (map clears_found (bits_cleared (parts.Global (turn_told flushed active inactive free target looks forced))))

-- the entry of the turn, where all notes were kept
abbrev pub IsGlobalTurn : Noted Flush → RotateNotes → Noted ℕ → Bool → ℕ → ShrinkNotes → Part → Type 0
IsGlobalTurn flushing turning moving shrunk target shrinking part =
    (flushed : List Flush) → (active inactive : List Visit) → (free : List ℕ) → (looks : List Look) → (forced : List Try)
    → AreNoted flushed (Kept []) flushing → AreNoted active (Kept []) turning.active → AreNoted inactive (Kept []) turning.inactive
    → AreNoted free (Kept []) moving → AreNoted looks (Kept []) shrinking.looks → AreNoted forced (Kept []) shrinking.forced
    → part ≡ parts.Global (global.Turn flushed active inactive free (global_note shrunk target looks forced))

-- a note of the turn was lost: of the flushes, of the rotation, of what moved, or of the shrink, where there was one
abbrev pub LostInTurn : Noted Flush → RotateNotes → Noted ℕ → Bool → ShrinkNotes → Type 0
LostInTurn flushing turning moving shrunk shrinking =
    (flushing ≡ Lost)
    ⊎ ((turning.active ≡ Lost) ⊎ ((turning.inactive ≡ Lost) ⊎ ((moving ≡ Lost) ⊎ ((shrunk ≡ true) × ((shrinking.looks ≡ Lost) ⊎ (shrinking.forced ≡ Lost))))))
