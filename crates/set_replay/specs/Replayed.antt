-- What the replay of the history of a list set answers.
use Rattle.std.specs.Prelude.{◌≡◌, ℕ, List, Option, MatchOption}
use Rattle.map_types.specs.declared.attr.Shape.{Shape}
use Rattle.map_types.specs.declared.kind.DomainId.{DomainId}
use Rattle.place_words.specs.declared.history.Entry.{Entry}
use Rattle.place_words.specs.declared.history.Part.{Part}
use Rattle.place_words.specs.Histories.{Content, Allows, content_after}
use Rattle.place_words.specs.Logs.{final_set}
use Rattle.place_words.specs.Sets.{ListSet, new_set}
use Rattle.lru_lists.specs.Sets.{SetView, IsSet}
use Rattle.replay_words.specs.declared.note.Note.{Note}
use Rattle.replay_words.specs.Notes.{note_of, notes_of}
use Rattle.replay_words.specs.Replays.{Leads}
use Rattle.set_replay.specs.declared.replay.ReplayedSet.{ReplayedSet}
use Rattle.set_replay.specs.Pushing.{set_of, HasFreeRoom}

-- All turns are allowed and lead to a set, which is told as the end of a run tells it, and this is noted of them. `lies` says
-- under which sort of lock a set lies.
pub record IsReplayedSet (shape : Shape) (lock : DomainId) (lies : ListSet → Content) (entries : List Entry) (replayed : ReplayedSet) : Type 0 where
  pub set : ListSet
  pub leads : Leads shape lock entries (lies set)
  pub last : replayed.last ≡ final_set set
  pub notes : replayed.notes ≡ notes_of shape lock entries

-- Nothing is listed and these are free, with room for all elements.
pub record Opens (elements : ℕ) (free : List ℕ) (set : SetView) : Type 0 where
  pub is : set_of set ≡ new_set free
  pub room : HasFreeRoom set
  pub bound : set.elements ≡ elements
  pub whole : IsSet set

-- The turn of an entry was allowed and made, with what is noted of it; or it isn't allowed. Neither goes by the shape or the CPU.
pub record EntryMade (lies : ListSet → Content) (part : Part) (before after : SetView) (note : Note) : Type 0 where
  pub allowed : (shape : Shape) (cpu : ℕ) → Allows shape cpu part (lies (set_of before))
  pub left : (shape : Shape) (cpu : ℕ) → lies (set_of after) ≡ content_after shape cpu part (lies (set_of before))
  pub room : HasFreeRoom after
  pub noted : note ≡ note_of (lies (set_of before)) part

abbrev pub EntryJudged : (ListSet → Content) → Part → SetView → SetView → Option Note → Type 0
EntryJudged lies part before after answer =
    MatchOption answer ((shape : Shape) (cpu : ℕ) → Allows shape cpu part (lies (set_of before)) → ⊥) (EntryMade lies part before after)
