-- Which records are well shaped for a script. A text is the report of one such record, or it is no report; whether a map could have done
-- what the record tells isn't asked here. A record has no version: its text has that of the script, and so has the form of its phases.
use Rattle.std.specs.Prelude.{◌≡◌, ◌<◌, ◌≤◌, ◌==◌, ℕ, List, [], ◌∷◌, length, map, MatchBool, if◌then◌else◌}
use Rattle.map_types.specs.declared.attr.Shape.{Shape}
use Rattle.map_types.specs.declared.kind.DomainId.{DomainId}
use Rattle.map_types.specs.Kind.{is_lru}
use Rattle.place_words.specs.declared.finals.Finals.{Finals}
use Rattle.place_words.specs.declared.history.LockHistory.{LockHistory}
use Rattle.place_words.specs.declared.history.Strand.{Strand}
use Rattle.place_words.specs.Phases.{phase_count}
use Rattle.map_script.specs.declared.script.Script.{Script}
use Rattle.map_report.specs.declared.record.PhaseStart.{PhaseStart}
use Rattle.map_report.specs.declared.record.RunRecord.{RunRecord}
use Rattle.map_report.specs.Record.{locks_of}
use Rattle.map_report.specs.Serial.{spare_count}
use Rattle.record_shape.specs.Fits.{AllFit}
use Rattle.record_shape.specs.ShapedParts.{AreElements, CpusFit, EntryFits, IsElement, IsU64, LocalListsFit, MarksFit, RepliesFit, SetFits, StartFits, StepFits, StoredFits}

-- there are so many, and each fits
abbrev pub SoManyFit : {A : Type 0} → ℕ → (A → Type 0) → List A → Type 0
SoManyFit count Fits items = AllFit Fits items × (length items ≡ count)

-- A lock's entries are of its kind, and of calls of the script. A length is a number of 64 bits.
pub record HistoryFits (shape : Shape) (calls : ℕ) (history : LockHistory) : Type 0 where
  pub entries : AllFit (EntryFits shape calls history.lock) history.entries
  pub counted : IsU64 (length history.entries)

abbrev pub lock_of : LockHistory → DomainId
lock_of history = history.lock

-- Of a script of version 2 there is a start for each phase. Of one of version 1 there is one alone, at which nothing was drawn and
-- nothing marked.
abbrev pub only_start : PhaseStart
only_start = record { ticket = 0; marked = [] }

abbrev pub StartsFit : Script → List PhaseStart → Type 0
StartsFit script starts =
    MatchBool (script.version == 2) (SoManyFit (phase_count script.cuts) (StartFits script.shape) starts) (starts ≡ only_start ∷ [])

-- A strand is of a phase of the script, and not of one before the phase of the strand before it. A script of version 1 has no cuts, and
-- so the phase 0 alone.
pub record StrandFits (script : Script) (least : ℕ) (strand : Strand) : Type 0 where
  pub in_order : least ≤ strand.phase
  pub phase : strand.phase < phase_count script.cuts
  pub cpus : CpusFit script.shape strand.cpus
  pub steps : AllFit (StepFits script.shape) strand.steps
  pub counted : IsU64 (length strand.steps)

abbrev pub StrandsFit : Script → ℕ → List Strand → Type 0
StrandsFit script least [] = Unit {0}
StrandsFit script least (strand ∷ more) = StrandFits script least strand × StrandsFit script strand.phase more

-- how many lists a map has of each sort
abbrev pub freelist_count : Shape → ℕ
freelist_count shape = if is_lru shape.kind then 0 else shape.cpus

abbrev pub set_count : Shape → ℕ
set_count shape = if is_lru shape.kind then (if shape.common then 1 else shape.cpus) else 0

abbrev pub local_count : Shape → ℕ
local_count shape = if is_lru shape.kind then (if shape.common then shape.cpus else 0) else 0

-- at the end only a map that evicts tells which elements are marked
abbrev pub MarkedFit : Shape → List ℕ → Type 0
MarkedFit shape elements = MatchBool (is_lru shape.kind) (MarksFit shape elements) (elements ≡ [])

pub record FinalsFit (shape : Shape) (finals : Finals) : Type 0 where
  pub buckets : SoManyFit shape.buckets (AllFit (StoredFits shape)) finals.buckets
  pub freelists : SoManyFit (freelist_count shape) (AreElements shape) finals.freelists
  pub spares : SoManyFit (spare_count shape) (IsElement shape) finals.spares
  pub sets : SoManyFit (set_count shape) (SetFits shape) finals.sets
  pub locals : SoManyFit (local_count shape) (LocalListsFit shape) finals.locals
  pub marked : MarkedFit shape finals.marked

pub record WellShaped (script : Script) (kept : RunRecord) : Type 0 where
  -- one reply for each call
  pub replies : RepliesFit script.shape script.calls kept.replies
  -- one history for each lock, in the order of the locks, with entries of the lock's kind and of calls of the script
  pub locks : map lock_of kept.histories ≡ locks_of script.shape
  pub histories : AllFit (HistoryFits script.shape (length script.calls)) kept.histories
  -- one start for each phase
  pub phases : StartsFit script kept.phases
  -- strands of the script's phases, which never fall, with CPUs that ascend
  pub strands : StrandsFit script 0 kept.strands
  -- what the map holds, in as many lists as its kind has
  pub finals : FinalsFit script.shape kept.finals
