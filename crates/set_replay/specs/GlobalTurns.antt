-- What is judged of the turns of the global set.
use Rattle.std.specs.Prelude.{◌≡◌, ℕ, ◌<◌, Bool, false, not, MatchBool, All, List, ◌++◌, take, drop, length, filter, reverse, slice_get, slice_index_or, Option, Some, MatchOption, IsPermutation, if◌then◌else◌}
use Rattle.map_types.specs.ElementLists.{one, times}
use Rattle.place_words.specs.declared.history.Part.{Part}
use Rattle.place_words.specs.declared.history.Part.TheVariants as parts
use Rattle.place_words.specs.declared.list_part.GlobalPart.{GlobalPart}
use Rattle.place_words.specs.declared.list_part.GlobalPart.TheVariants as global
use Rattle.place_words.specs.declared.visits.Flush.{Flush}
use Rattle.place_words.specs.declared.visits.ShrinkNote.{ShrinkNote}
use Rattle.place_words.specs.Bodies.{numbers}
use Rattle.place_words.specs.Globals.{AllowsGlobalShrink, AllowsOnGlobal, AreFlushed, flush_row, flushed_rows, global_after, global_target, shrunk_out}
use Rattle.map_types.specs.declared.attr.Shape.{Shape}
use Rattle.place_words.specs.Histories.{Allows, in_global}
use Rattle.lru_lists.specs.Sets.{SetView, listed, moved_in, times_on, with_free}
use Rattle.lru_lists.specs.declared.name.ListName.{ListName}
use Rattle.lru_lists.specs.declared.name.ListName.TheVariants.{Active, Inactive}
use Rattle.percpu_values.specs.BodyList.{popped}
use Rattle.replay_words.specs.declared.note.Note.{Note}
use Rattle.replay_words.specs.Notes.{note_of}
use Rattle.set_replay.specs.OwnTurns.{shrink_hashes}
use Rattle.set_replay.specs.Pushing.{set_of, HasFreeRoom}
use Rattle.set_replay.specs.Replayed.{EntryMade}

-- the elements that a part flushes are below a bound
abbrev pub FlushesBelow : ℕ → Part → Type 0
FlushesBelow elements (parts.Bucket part) = Unit {0}
FlushesBelow elements (parts.Free part) = Unit {0}
FlushesBelow elements (parts.Local part) = Unit {0}
FlushesBelow elements (parts.Global (global.Turn flushed active inactive free shrink)) = All (λ (flush : Flush). flush.element < elements) flushed
FlushesBelow elements (parts.Global (global.Push e)) = Unit {0}
FlushesBelow elements (parts.Own part) = Unit {0}

-- Exactly the free elements of a set are marked.
pub record AreMarked (marks : List Bool) (set : SetView) : Type 0 where
  pub long : length marks ≡ set.elements
  pub each : (e : ℕ) → times e (numbers set.free.bodies) ≡ one (slice_index_or marks e false)

-- the list that a flushed element comes to
abbrev pub list_of : Bool → ListName
list_of bit = if bit then Active else Inactive

-- An element that is nowhere in a set comes there.
abbrev pub ComingJudged : Flush → SetView → SetView → Bool → Type 0
ComingJudged flush before after lawful =
    MatchBool lawful ((times_on flush.element before ≡ 0) × (after ≡ moved_in (flush_row flush) (list_of flush.bit) before)) (times_on flush.element before ≡ 0 → ⊥)

-- flushed elements at the heads of active and inactive
abbrev pub with_flushes : List Flush → SetView → SetView
with_flushes flushed set = record set {
  active = reverse (flushed_rows (filter (λ (flush : Flush). flush.bit) flushed)) ++ set.active;
  inactive = reverse (flushed_rows (filter (λ (flush : Flush). not flush.bit) flushed)) ++ set.inactive;
}

-- Flushed elements came from outside, each once, and no other row was made or lost.
pub record Flushed (flushed : List Flush) (before after : SetView) : Type 0 where
  pub allowed : AreFlushed (set_of before) flushed
  pub set : after ≡ with_flushes flushed before
  pub rows : IsPermutation (flushed_rows flushed ++ (before.active ++ before.inactive)) (after.active ++ after.inactive)

abbrev pub FlushJudged : List Flush → SetView → SetView → Bool → Type 0
FlushJudged flushed before after lawful = MatchBool lawful (Flushed flushed before after) (AreFlushed (set_of before) flushed → ⊥)

-- The head of free, where it is this, leaves.
pub record PoppedOff (e : ℕ) (before after : SetView) (marks : List Bool) : Type 0 where
  pub head : slice_get (numbers before.free.bodies) 0 ≡ Some e
  pub set : after ≡ with_free (popped before.free) before
  pub marked : AreMarked marks after

abbrev pub PopJudged : ℕ → SetView → SetView → List Bool → Bool → Type 0
PopJudged e before after marks lawful = MatchBool lawful (PoppedOff e before after marks) (slice_get (numbers before.free.bodies) 0 ≡ Some e → ⊥)

-- As many as a turn is to give leave the head of free.
pub record MovedOff (free : List ℕ) (before after : SetView) (marks : List Bool) : Type 0 where
  pub taken : free ≡ take global_target (numbers before.free.bodies)
  pub left : numbers after.free.bodies ≡ drop global_target (numbers before.free.bodies)
  pub lists : listed after ≡ listed before
  pub bound : after.elements ≡ before.elements
  pub room : HasFreeRoom after
  pub marked : AreMarked marks after

abbrev pub MovingJudged : List ℕ → SetView → SetView → List Bool → Bool → Type 0
MovingJudged free before after marks lawful =
    MatchBool lawful (MovedOff free before after marks) (free ≡ take global_target (numbers before.free.bodies) → ⊥)

-- The global set's shrink, or none, was allowed and made: the hashes that are told are those of its probes.
pub record GlobalShrunk (moved : ℕ) (shrink : Option ShrinkNote) (before after : SetView) (told : List (Option ℕ)) : Type 0 where
  pub allowed : AllowsGlobalShrink moved shrink (listed before)
  pub lists : listed after ≡ shrunk_out shrink (listed before)
  pub free : after.free ≡ before.free
  pub bound : after.elements ≡ before.elements
  pub hashes : told ≡ shrink_hashes (before.active ++ before.inactive) shrink

abbrev pub GlobalShrinkJudged : ℕ → Option ShrinkNote → SetView → SetView → Option (List (Option ℕ)) → Type 0
GlobalShrinkJudged moved shrink before after answer =
    MatchOption answer (AllowsGlobalShrink moved shrink (listed before) → ⊥) (GlobalShrunk moved shrink before after)

-- A turn of the global set was allowed and made, with what is noted of it.
pub record GlobalTurned (part : GlobalPart) (before after : SetView) (marks : List Bool) (note : Note) : Type 0 where
  pub allowed : AllowsOnGlobal part (set_of before)
  pub set : set_of after ≡ global_after part (set_of before)
  pub bound : after.elements ≡ before.elements
  pub room : HasFreeRoom after
  pub marked : AreMarked marks after
  pub noted : note ≡ note_of (in_global (set_of before)) (parts.Global part)

abbrev pub GlobalTurnJudged : GlobalPart → SetView → SetView → List Bool → Option Note → Type 0
GlobalTurnJudged part before after marks answer =
    MatchOption answer (AllowsOnGlobal part (set_of before) → ⊥) (GlobalTurned part before after marks)

-- The turn of an entry was allowed and made on the global set, with what is noted of it.
pub record GlobalMade (part : Part) (before after : SetView) (marks : List Bool) (note : Note) : Type 0 where
  pub made : EntryMade in_global part before after note
  pub marked : AreMarked marks after
  pub bound : after.elements ≡ before.elements

abbrev pub GlobalEntryJudged : Part → SetView → SetView → List Bool → Option Note → Type 0
GlobalEntryJudged part before after marks answer =
    MatchOption answer ((shape : Shape) (cpu : ℕ) → Allows shape cpu part (in_global (set_of before)) → ⊥) (GlobalMade part before after marks)

-- Exactly these elements are marked.
pub record AreMarksOf (free : List ℕ) (elements : ℕ) (marks : List Bool) : Type 0 where
  pub long : length marks ≡ elements
  pub each : (e : ℕ) → times e free ≡ one (slice_index_or marks e false)
