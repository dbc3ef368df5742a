-- A turn of a CPU's own set: it is rotated, it is shrunk where nothing is free, and the head of its free list is given out.
use Rattle.std.specs.Prelude.{◌≡◌, ◌⊎◌, ℕ, ◌<◌, Bool, true, false, List, [], ◌++◌, map, slice_get, Option, None, Some}
use Rattle.map_types.specs.declared.attr.Shape.{Shape}
use Rattle.map_types.specs.declared.kind.DomainId.TheVariants.{CpuLru}
use Rattle.map_types.specs.declared.row.Row.{Row}
use Rattle.map_types.specs.ElementLists.{times}
use Rattle.map_types.specs.Stored.{Stored, IsSized}
use Rattle.percpu_values.specs.BodyList.{BodyList, popped}
use Rattle.place_words.specs.declared.history.Part.{Part}
use Rattle.place_words.specs.declared.history.Part.TheVariants as parts
use Rattle.place_words.specs.declared.list_part.OwnPart.TheVariants as own
use Rattle.place_words.specs.declared.visits.Look.{Look}
use Rattle.place_words.specs.declared.visits.ShrinkNote.{ShrinkNote}
use Rattle.place_words.specs.declared.visits.Try.{Try}
use Rattle.place_words.specs.declared.visits.Visit.{Visit}
use Rattle.place_words.specs.Bodies.{numbers}
use Rattle.place_words.specs.Histories.{in_own, content, looks_told}
use Rattle.place_words.specs.Rotation.{AreRotationVisits}
use Rattle.place_words.specs.Sets.{own_scans, own_target, rotated_set, shrunk_into_free, AllowsOwnShrink}
use Rattle.place_words.specs.Takings.{shrink_probes, stored_hash}
use Rattle.place_words.specs.State.{rows}
use Rattle.place_table.specs.Views.{is_among, is_in_hand_of}
use Rattle.place_table.specs.Contents.{set_told, lists_of_set, FitsSet}
use Rattle.place_table.specs.Passes.{PassView, TableView, Claimed, Cleared}
use Rattle.lru_lists.specs.declared.bits.BitCall.{BitCall}
use Rattle.lru_lists.specs.declared.bits.BitCall.TheVariants as calls
use Rattle.lru_lists.specs.declared.bits.ProbeCall.{ProbeCall}
use Rattle.lru_lists.specs.declared.name.ListName.TheVariants.{Inactive}
use Rattle.lru_lists.specs.declared.notes.Noted.TheVariants as noted
use Rattle.lru_lists.specs.declared.notes.RotateNotes.{RotateNotes}
use Rattle.lru_lists.specs.declared.notes.ShrinkNotes.{ShrinkNotes}
use Rattle.lru_lists.specs.Notes.{AreNoted}
use Rattle.lru_lists.specs.Sets.{SetView, listed, moved_in, with_free}
use Rattle.lru_shrink.specs.Asking.{Questions}
use Rattle.lru_shrink.specs.Shrunk.{Shrink}
use Rattle.lru_ops.specs.declared.probing.Destination.TheVariants.{OwnFree}
use Rattle.lru_ops.specs.Askings.{Does, lists_after}
use Rattle.lru_ops.specs.Evictions.{HoldsLists}

-- The pass holds the lock of its CPU's own set and no other, and its CPUs have nothing in hand.
pub record HoldsOwnSet (t : TableView) (p : PassView) : Type 0 where
  pub lists : HoldsLists t (CpuLru p.cpu) p
  pub alone : lists.outer ≡ []
  pub hands_empty : (e cpu : ℕ) → is_among cpu p.view.cpus ≡ true → is_in_hand_of e cpu p.view.hand ≡ false

-- no bodies, and room for none
abbrev pub no_bodies : BodyList
no_bodies = record { bodies = []; spare = 0 }

-- A set was shrunk into its free list, which was empty.
pub record ShrinksFree (gives : Stored → Type 0) (before after : SetView) (asked asked_after : Questions) (notes notes_after : ShrinkNotes) : Type 0 where
  pub left : SetView
  pub freed : BodyList
  pub answer : ℕ
  pub shrink : Shrink own_scans own_target gives
      (record { set = with_free no_bodies before; asked = asked; out = before.free; notes = notes })
      (record { set = left; asked = asked_after; out = freed; notes = notes_after }) answer
  pub after_is : after ≡ with_free freed left

-- what is told of a shrink, where there was one
abbrev pub note_of : Bool → List Look → List Try → Option ShrinkNote
note_of true looks forced = Some (record { target = own_target; looks = looks; forced = forced })
note_of false looks forced = None

abbrev pub rows_on : SetView → List Row
rows_on set = set.active ++ set.inactive

abbrev pub try_of : ProbeCall → Try
try_of probe = record { element = probe.element; probed = probe.probed }

-- A set at a moment of its turn, and what is noted of its rotation and of its shrink.
pub record SetInTurn : Type 0 where
  pub set : SetView
  pub turning : RotateNotes
  pub shrinking : ShrinkNotes

abbrev pub in_turn : SetView → RotateNotes → ShrinkNotes → SetInTurn
in_turn set turning shrinking = record { set = set; turning = turning; shrinking = shrinking }

-- What a rotation and a shrink made of a set, which asked for these bits and probed these rows, in their order.
pub record WorksOn (shape : Shape) (before after : SetInTurn) (shrunk : Bool) (asked : Questions) : Type 0 where
  pub active : List Visit
  pub inactive : List Visit
  pub looks : List Look
  pub forced : List Try
  pub noted_active : AreNoted active before.turning.active after.turning.active
  pub noted_inactive : AreNoted inactive before.turning.inactive after.turning.inactive
  pub noted_looks : AreNoted looks before.shrinking.looks after.shrinking.looks
  pub noted_forced : AreNoted forced before.shrinking.forced after.shrinking.forced
  pub visits : AreRotationVisits own_scans (listed before.set) active inactive
  pub shrinks : AllowsOwnShrink (note_of shrunk looks forced) (rotated_set own_scans active inactive (set_told before.set))
  pub after_is : set_told after.set ≡ shrunk_into_free (note_of shrunk looks forced) (rotated_set own_scans active inactive (set_told before.set))
  pub fits : FitsSet shape after.set
  pub calls_are : asked.calls ≡ map calls.Cleared (active ++ (inactive ++ looks_told (note_of shrunk looks forced)))
  pub probes_are : map try_of asked.probes ≡ shrink_probes (note_of shrunk looks forced)
  -- what the probes removed was settled as the set has it, and each row that is left is one that was there
  pub same_free : (lists_after asked.probes (lists_of_set (set_told before.set))).free ≡ numbers after.set.free.bodies
  pub same_rows : (e : ℕ) → times e (rows (lists_after asked.probes (lists_of_set (set_told before.set)))) ≡ times e (rows (lists_of_set (set_told after.set)))
  pub rows_kept : (e h n : ℕ) → stored_hash e (rows_on before.set) ≡ Some h → stored_hash e (rows_on after.set) ≡ Some n → h ≡ n

-- The pass holds its own set's lock, and this is the set, as it was taken.
pub record CanWork (t : TableView) (set : SetView) (p : PassView) : Type 0 where
  pub holds : HoldsOwnSet t p
  pub fits : FitsSet t.shape set
  pub found : in_own (set_told set) ≡ content t.shape (CpuLru p.cpu) holds.lists.hold.log
  pub now : holds.lists.hold.now ≡ lists_of_set (set_told set)

-- The set was rotated, and shrunk where nothing was free, by this pass.
pub record Worked (t : TableView) (before after : SetInTurn) (shrunk : Bool) (p q : PassView) : Type 0 where
  pub calls : List BitCall
  pub probes : List ProbeCall
  pub works : WorksOn t.shape before after shrunk (record { calls = calls; probes = probes })
  pub does : Does t OwnFree (rows_on before.set) calls probes p q

-- The pass knows the free list of its own set, whose lock it holds.
pub record CanGiveOut (t : TableView) (set : SetView) (p : PassView) : Type 0 where
  pub holds : HoldsOwnSet t p
  pub fits : FitsSet t.shape set
  pub free_is : holds.lists.hold.now.free ≡ numbers set.free.bodies

-- The body at the head of the free list was taken: its element was claimed and its bit cleared, and it is the head of inactive
-- with this hash.
pub record GaveOut (t : TableView) (hash : ℕ) (before after : SetView) (p q : PassView) (body : Stored) : Type 0 where
  pub head : slice_get before.free.bodies 0 ≡ Some body
  pub after_is : after ≡ moved_in (record { element = body.element; hash = hash }) Inactive (with_free (popped before.free) before)
  pub fits : FitsSet t.shape after
  pub real : body.element < t.shape.elements
  pub sized : IsSized t.shape body
  pub middle : PassView
  pub claimed : Claimed (CpuLru p.cpu) body.element p middle
  pub bit : Bool
  pub cleared : Cleared body.element middle q bit

-- what is given out, if anything is free
abbrev pub GivesOut : TableView → ℕ → SetView → SetView → PassView → PassView → Option Stored → Type 0
GivesOut t hash before after p q None = (before.free.bodies ≡ []) × (after ≡ before) × (q ≡ p)
GivesOut t hash before after p q (Some body) = GaveOut t hash before after p q body

-- the part of the turn
abbrev pub own_part : ℕ → List Visit → List Visit → Option ShrinkNote → Option ℕ → Part
own_part hash active inactive shrink got = parts.Own (own.Turn hash active inactive shrink got)

-- what is told where all notes were kept
abbrev pub IsOwnTurn : ℕ → RotateNotes → Bool → ShrinkNotes → Option ℕ → Part → Type 0
IsOwnTurn hash turning shrunk shrinking got part =
    (active inactive : List Visit) → (looks : List Look) → (forced : List Try)
    → AreNoted active (noted.Kept []) turning.active → AreNoted inactive (noted.Kept []) turning.inactive
    → AreNoted looks (noted.Kept []) shrinking.looks → AreNoted forced (noted.Kept []) shrinking.forced
    → part ≡ own_part hash active inactive (note_of shrunk looks forced) got

-- a note of the rotation was lost, or one of the shrink, where there was one
abbrev pub LostSome : RotateNotes → Bool → ShrinkNotes → Type 0
LostSome turning shrunk shrinking =
    (turning.active ≡ noted.Lost) ⊎ ((turning.inactive ≡ noted.Lost) ⊎ ((shrunk ≡ true) × ((shrinking.looks ≡ noted.Lost) ⊎ (shrinking.forced ≡ noted.Lost))))
