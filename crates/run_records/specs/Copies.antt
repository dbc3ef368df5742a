-- What is kept of a run beside what its table left.
use Rattle.std.specs.Prelude.{◌≡◌, ℕ, ◌==◌, Bool, false, not, All, List, [], ◌∷◌, ◌++◌, length, map, filter}
use Rattle.std.specs.List.{flat_map}
use Rattle.map_types.specs.declared.reply.Reply.{Reply}
use Rattle.place_words.specs.declared.history.Strand.{Strand}
use Rattle.place_table.specs.Closing.{ClosedView}
use Rattle.map_report.specs.declared.record.PhaseStart.{PhaseStart}
use Rattle.map_report.specs.declared.record.RunRecord.{RunRecord}
use Rattle.map_report.specs.Record.{Ascend}
use Rattle.run_records.specs.declared.pieces.Piece.{Piece}
use Rattle.run_records.specs.Parts.{cut_strands}

-- whether a strand has a step
abbrev pub has_step : Strand → Bool
has_step strand = not (length strand.steps == 0)

-- Strands that a table left, each cut where the phase of its steps changes: one after another each has the steps of the next of these
-- strands, which are of its CPUs, in phases that ascend.
abbrev pub IsCutOf : List Strand → List Strand → Type 0
IsCutOf parts [] = parts ≡ []
IsCutOf parts (strand ∷ strands) =
    (mine : List Strand) × (rest : List Strand) × (parts ≡ mine ++ rest) × (strand.steps ≡ flat_map (λ (part : Strand). part.steps) mine)
    × All (λ (part : Strand). part.cpus ≡ strand.cpus) mine × Ascend (map (λ (part : Strand). part.phase) mine) × IsCutOf rest strands

-- What is kept of a run is what its table left when it was closed, whose strands are cut by phase; it tells no strand that has no step.
-- No record of a lock was lost.
pub record IsCopyOf (kept : RunRecord) (closed : ClosedView) : Type 0 where
  pub histories : kept.histories ≡ closed.histories
  pub strands : IsCutOf (filter has_step kept.strands) closed.strands
  pub finals : kept.finals ≡ closed.finals
  pub whole : closed.lost ≡ false

-- the record of a run whose calls were answered so, which had these pieces and starts of phases, and whose table left this when it was
-- closed
abbrev pub record_left : ℕ → List Piece → List Reply → List PhaseStart → ClosedView → RunRecord
record_left cpus pieces replies starts closed = record {
  replies = replies;
  histories = closed.histories;
  strands = cut_strands cpus pieces closed.strands;
  finals = closed.finals;
  phases = starts;
}
