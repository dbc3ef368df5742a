-- What is known of the turns that steps name on a map that evicts.
use Rattle.std.specs.Prelude.{◌≡◌, ℕ, Bool, false, true, List, [], map, slice_get, slice_index_or, Some}
use Rattle.map_types.specs.declared.attr.Shape.{Shape}
use Rattle.map_types.specs.declared.kind.DomainId.{DomainId}
use Rattle.map_types.specs.declared.kind.DomainId.TheVariants.{Local, Global, CpuLru, Bucket, Freelist}
use Rattle.map_types.specs.Kind.{is_lru}
use Rattle.place_words.specs.declared.history.Entry.{Entry}
use Rattle.place_words.specs.declared.history.LockHistory.{LockHistory}
use Rattle.place_words.specs.declared.history.StrandStep.{StrandStep}
use Rattle.place_words.specs.Locks.{is_lock}
use Rattle.place_words.specs.Named.{entries_of}
use Rattle.map_report.specs.Record.{locks_of}
use Rattle.record_shape.specs.ShapedParts.{PartFits}
use Rattle.record_shape.specs.WellShaped.{lock_of}
use Rattle.replay_words.specs.declared.note.Note.{Note}
use Rattle.replay_words.specs.declared.note.Note.TheVariants.{Nothing}
use Rattle.call_check.specs.GoneTables.{gone_by_cpu}
use Rattle.call_check.specs.Judged.{AreNoted}

-- There is a history for each lock, with parts of the lock's kind. Of the turns of locks of lists it is known what was noted, and which
-- are pushes that found their element gone since a refill had flushed it.
pub record AreKnown (shape : Shape) (histories : List LockHistory) (notes : List (List Note)) (gone : List (List Bool)) (nothing : Note) : Type 0 where
  pub evicts : is_lru shape.kind ≡ true
  pub locks : map lock_of histories ≡ locks_of shape
  pub fit : (lock : DomainId) (index : ℕ) (entry : Entry) → is_lock shape lock ≡ true → slice_get (entries_of histories lock) index ≡ Some entry → PartFits shape lock entry.part
  pub noted : AreNoted shape histories notes
  pub gone_are : gone ≡ gone_by_cpu shape histories
  pub nothing_is : nothing ≡ Nothing

-- what the tables tell of the turn that a step names
abbrev pub note_in : List (List Note) → Note → ℕ → ℕ → Note
note_in notes nothing place index = slice_index_or (slice_index_or notes place []) index nothing

abbrev pub noted_on : Shape → List (List Note) → Note → DomainId → ℕ → Note
noted_on shape notes nothing (Local cpu) index = note_in notes nothing cpu index
noted_on shape notes nothing Global index = note_in notes nothing shape.cpus index
noted_on shape notes nothing (CpuLru cpu) index = note_in notes nothing cpu index
noted_on shape notes nothing (Bucket bucket) index = nothing
noted_on shape notes nothing (Freelist cpu) index = nothing

abbrev pub noted_at : Shape → List (List Note) → Note → StrandStep → Note
noted_at shape notes nothing step = noted_on shape notes nothing step.lock step.index

abbrev pub gone_on : List (List Bool) → DomainId → ℕ → Bool
gone_on gone (Local cpu) index = slice_index_or (slice_index_or gone cpu []) index false
gone_on gone Global index = false
gone_on gone (CpuLru cpu) index = false
gone_on gone (Bucket bucket) index = false
gone_on gone (Freelist cpu) index = false

abbrev pub gone_at : List (List Bool) → StrandStep → Bool
gone_at gone step = gone_on gone step.lock step.index
