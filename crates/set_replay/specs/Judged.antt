-- What is judged of the turns of list sets.
use Rattle.std.specs.Prelude.{◌≡◌, ◌+◌, ◌<◌, ◌≤◌, ℕ, length, Bool, true, false, List, [], ◌++◌, reverse, IsPermutation}
use Rattle.map_types.specs.ElementLists.{times, IsIn}
use Rattle.percpu_values.specs.BodyList.{BodyList}
use Rattle.place_words.specs.Rotation.{rotated, AreRotationVisits}
use Rattle.place_words.specs.Bodies.{numbers}
use Rattle.place_words.specs.Shrinking.{IsShrink, shrunk, freed}
use Rattle.place_words.specs.declared.bucket_part.Seen.{Seen}
use Rattle.place_words.specs.declared.bucket_part.Seen.TheVariants.{Held}
use Rattle.place_words.specs.declared.visits.Look.{Look}
use Rattle.place_words.specs.declared.visits.ShrinkNote.{ShrinkNote}
use Rattle.place_words.specs.declared.visits.Try.{Try}
use Rattle.place_words.specs.declared.visits.Visit.{Visit}
use Rattle.lru_lists.specs.Notes.{AreNoted}
use Rattle.lru_lists.specs.Sets.{SetView, IsSet, listed, times_listed, with_listed}
use Rattle.lru_lists.specs.declared.bits.ProbeCall.{ProbeCall}
use Rattle.lru_lists.specs.declared.notes.Noted.{Noted}
use Rattle.lru_lists.specs.declared.notes.Noted.TheVariants.{Kept}
use Rattle.lru_lists.specs.declared.notes.RotateNotes.{RotateNotes}
use Rattle.lru_lists.specs.declared.notes.ShrinkNotes.{ShrinkNotes}
use Rattle.lru_shrink.specs.Shrunk.{look_probes, try_probes}
use Rattle.set_replay.specs.ByPlace.{ByPlace, visit_bits, look_bits, look_seens, try_seens}

-- A rotation whose visits have the bits that are told, by place, and its notes.
pub record ToldRotation (scans : ℕ) (bits : List Bool) (before after : SetView) (notes : RotateNotes) : Type 0 where
  pub active : List Visit
  pub inactive : List Visit
  pub visits : AreRotationVisits scans (listed before) active inactive
  pub set : after ≡ with_listed (rotated scans (listed before) active inactive) before
  pub rows : IsPermutation (before.active ++ before.inactive) (after.active ++ after.inactive)
  pub whole : IsSet after
  pub by_place : ByPlace false bits (visit_bits (active ++ inactive))
  pub noted_active : AreNoted active (Kept []) notes.active
  pub noted_inactive : AreNoted inactive (Kept []) notes.inactive

-- What an entry tells of a rotation is lawful exactly where these are the visits of one, and the set is then as after it. No
-- row is made or lost.
pub record RotationJudged (scans : ℕ) (active inactive : List Visit) (before after : SetView) (lawful : Bool) : Type 0 where
  pub allowed : lawful ≡ true → AreRotationVisits scans (listed before) active inactive
  pub set : lawful ≡ true → after ≡ with_listed (rotated scans (listed before) active inactive) before
  pub rows : IsPermutation (before.active ++ before.inactive) (after.active ++ after.inactive)
  pub whole : IsSet after
  pub refused : lawful ≡ false → AreRotationVisits scans (listed before) active inactive → ⊥

-- Notes were kept, and whether they are what is told.
pub record KeptSame {T : Type 0} (notes : Noted T) (told : List T) (same : Bool) : Type 0 where
  pub kept : List T
  pub is : notes ≡ Kept kept
  pub same_then : same ≡ true → kept ≡ told
  pub same_where : kept ≡ told → same ≡ true

-- the probes of a shrink by the rows that it began with, which tell the hashes of their elements
abbrev pub probes_by : SetView → List Look → List Try → List ProbeCall
probes_by set looks forced = look_probes set looks ++ try_probes set forced

-- What a shrink into an empty stack leaves: the set, the elements that it freed, the last first, and what it probed.
pub record ShrunkInto (looks : List Look) (forced : List Try) (before after : SetView) (out : BodyList) (probes : List ProbeCall) : Type 0 where
  pub set : after ≡ with_listed (shrunk (listed before) looks forced) before
  pub freed : numbers out.bodies ≡ reverse (freed looks forced)
  pub probed : probes ≡ probes_by before looks forced

-- What came on the stack is none of the set's, each once, and took its room.
pub record AreOut (after : SetView) (out out_after : BodyList) : Type 0 where
  pub below : (e : ℕ) → IsIn e (numbers out_after.bodies) → e < after.elements
  pub once : (e : ℕ) → times_listed e after + times e (numbers out_after.bodies) ≤ 1
  pub room : length out_after.bodies + out_after.spare ≡ out.spare

-- A shrink that found the bits and the answers that are told, by place, and its notes.
pub record ToldShrink (scans target : ℕ) (bits : List Bool) (seens : List Seen) (before after : SetView) (out out_after : BodyList) (probes : List ProbeCall) (notes : ShrinkNotes) : Type 0 where
  pub looks : List Look
  pub forced : List Try
  pub shrinks : IsShrink scans target (listed before) looks forced
  pub into : ShrunkInto looks forced before after out_after probes
  pub came : AreOut after out out_after
  pub bits_by_place : ByPlace false bits (look_bits looks)
  pub seens_by_place : ByPlace (Held 0) seens (look_seens looks ++ try_seens forced)
  pub noted_looks : AreNoted looks (Kept []) notes.looks
  pub noted_forced : AreNoted forced (Kept []) notes.forced

-- What an entry tells of a shrink is lawful exactly where these are the looks and the tries of one, and the set is then as
-- after it.
pub record ShrinkJudged (scans : ℕ) (note : ShrinkNote) (before after : SetView) (out out_after : BodyList) (probes : List ProbeCall) (lawful : Bool) : Type 0 where
  pub allowed : lawful ≡ true → IsShrink scans note.target (listed before) note.looks note.forced
  pub into : lawful ≡ true → ShrunkInto note.looks note.forced before after out_after probes
  pub came : AreOut after out out_after
  pub refused : lawful ≡ false → IsShrink scans note.target (listed before) note.looks note.forced → ⊥
