-- What the traces of calls ask of the moments at which turns of list locks were made.
use Rattle.std.specs.Prelude.{ℕ, suc, List, [], ◌∷◌, ◌++◌, map, reverse, take, Option}
use Rattle.map_types.specs.declared.attr.Shape.{Shape}
use Rattle.map_types.specs.declared.kind.DomainId.{DomainId}
use Rattle.map_types.specs.declared.row.Row.{Row}
use Rattle.place_words.specs.declared.history.Entry.{Entry}
use Rattle.place_words.specs.declared.history.Part.{Part}
use Rattle.place_words.specs.declared.history.Part.TheVariants as parts
use Rattle.place_words.specs.declared.list_part.GlobalPart.{GlobalPart}
use Rattle.place_words.specs.declared.list_part.GlobalPart.TheVariants as global
use Rattle.place_words.specs.declared.list_part.LocalPart.{LocalPart}
use Rattle.place_words.specs.declared.list_part.LocalPart.TheVariants as local
use Rattle.place_words.specs.declared.list_part.OwnPart.{OwnPart}
use Rattle.place_words.specs.declared.list_part.OwnPart.TheVariants as own
use Rattle.place_words.specs.declared.visits.Try.{Try}
use Rattle.place_words.specs.Histories.{Content, in_bucket, on_freelist, in_locals, in_global, in_own, content}
use Rattle.place_words.specs.Locals.{LocalLists}
use Rattle.place_words.specs.Takings.{listed_rows, rows_brought, probes_of, stored_hash}
use Rattle.replay_words.specs.declared.note.Note.{Note}
use Rattle.replay_words.specs.declared.note.Note.TheVariants.{Nothing, Probes, Refill}

-- the stored hashes of what a part probes, among what lies there and what the part brings
abbrev pub probed_hashes : Content → Part → List (Option ℕ)
probed_hashes content part = map (λ (probe : Try). stored_hash probe.element (rows_brought part ++ listed_rows content)) (probes_of part)

-- what was pending, from the tail on, and where a round of thefts began
abbrev pub refill_note : Content → Note
refill_note (in_bucket bodies) = Nothing
refill_note (on_freelist stack) = Nothing
refill_note (in_locals lists) = Refill (map (λ (row : Row). row.hash) (reverse lists.pending)) lists.steal
refill_note (in_global set) = Nothing
refill_note (in_own set) = Nothing

abbrev pub local_note : Content → LocalPart → Note
local_note content (local.Pop hash e) = Nothing
local_note content (local.Refill hash flushed gained got) = refill_note content
local_note content (local.Steal got first second) = Probes (probed_hashes content (parts.Local (local.Steal got first second)))
local_note content (local.Add hash e cursor) = Nothing
local_note content (local.Push e done) = Nothing

abbrev pub global_note : Content → GlobalPart → Note
global_note content (global.Turn flushed active inactive free shrink) = Probes (probed_hashes content (parts.Global (global.Turn flushed active inactive free shrink)))
global_note content (global.Push e) = Nothing

abbrev pub own_note : Content → OwnPart → Note
own_note content (own.Turn hash active inactive shrink got) = Probes (probed_hashes content (parts.Own (own.Turn hash active inactive shrink got)))
own_note content (own.Push e) = Nothing

-- what is noted of a turn, by what lay there before it
abbrev pub note_of : Content → Part → Note
note_of content (parts.Bucket part) = Nothing
note_of content (parts.Free part) = Nothing
note_of content (parts.Local part) = local_note content part
note_of content (parts.Global part) = global_note content part
note_of content (parts.Own part) = own_note content part

-- the notes of the turns of a history, `earlier` being those before them
abbrev pub notes_after : Shape → DomainId → List Entry → List Entry → List Note
notes_after shape lock earlier [] = []
notes_after shape lock earlier (entry ∷ entries) =
    note_of (content shape lock earlier) entry.part ∷ notes_after shape lock (earlier ++ entry ∷ []) entries

abbrev pub notes_of : Shape → DomainId → List Entry → List Note
notes_of shape lock entries = notes_after shape lock [] entries
