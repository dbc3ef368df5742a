-- What a replay of the history of a CPU's local lists answers.
use Rattle.std.specs.Prelude.{◌≡◌, ℕ, ◌<◌, IsFalse, List, [], reverse, Option}
use Rattle.map_types.specs.declared.attr.Shape.{Shape}
use Rattle.map_types.specs.declared.kind.DomainId.TheVariants.{Local}
use Rattle.map_types.specs.ElementLists.{times}
use Rattle.map_types.specs.Listed.{elements_of}
use Rattle.place_words.specs.declared.history.Entry.{Entry}
use Rattle.place_words.specs.declared.list_part.LocalPart.{LocalPart}
use Rattle.place_words.specs.declared.visits.Visit.{Visit}
use Rattle.place_words.specs.Histories.{in_locals}
use Rattle.place_words.specs.Locals.{LocalLists, AllowsOnLocal, last_of, local_after}
use Rattle.place_words.specs.Logs.{final_local}
use Rattle.place_words.specs.Rotation.{visited_elements}
use Rattle.place_words.specs.Sets.{has_row}
use Rattle.replay_words.specs.declared.note.Note.{Note}
use Rattle.replay_words.specs.Notes.{local_note, notes_of}
use Rattle.replay_words.specs.Replays.{Leads}
use Rattle.local_replay.specs.declared.replay.ReplayedLocals.{ReplayedLocals}

-- where an element that was stolen may come, and where the lists may be filled up
abbrev pub CanAdd : Shape → ℕ → ℕ → LocalLists → Type 0
CanAdd shape e cursor lists = IsFalse (has_row e lists.pending) × (times e lists.free ≡ 0) × (cursor < shape.cpus)

abbrev pub CanRefill : List Visit → List ℕ → Option ℕ → LocalLists → Type 0
CanRefill flushed gained got lists =
    (lists.free ≡ []) × (visited_elements flushed ≡ reverse (elements_of lists.pending)) × (got ≡ last_of gained)

-- The part is allowed on these lists and leads to those, and this is noted of it.
pub record IsTurn (shape : Shape) (part : LocalPart) (before now : LocalLists) (note : Note) : Type 0 where
  pub allowed : AllowsOnLocal shape part before
  pub leads : now ≡ local_after part before
  pub noted : note ≡ local_note (in_locals before) part

-- All entries are allowed, and lead to lists that are told so; these are the notes of their turns.
pub record LeadsToLocals (shape : Shape) (cpu : ℕ) (entries : List Entry) (replayed : ReplayedLocals) : Type 0 where
  pub lists : LocalLists
  pub leads : Leads shape (Local cpu) entries (in_locals lists)
  pub last : replayed.last ≡ final_local lists
  pub notes : replayed.notes ≡ notes_of shape (Local cpu) entries
