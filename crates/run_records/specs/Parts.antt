-- The strands of a run, cut by phase: each strand of the record is what one CPU did in a phase, or all did.
use Rattle.std.specs.Prelude.{◌≡◌, ℕ, suc, ◌==◌, ◌+◌, ◌-◌, nat_lt, Bool, not, All, List, [], ◌∷◌, ◌++◌, Option, None, Some, length, map, filter, take, drop, if◌then◌else◌}
use Rattle.std.specs.List.{flat_map, range_with_len, list_any}
use Rattle.map_types.specs.declared.attr.Shape.{Shape}
use Rattle.map_types.specs.declared.call.Call.{Call}
use Rattle.place_words.specs.declared.history.Strand.{Strand}
use Rattle.place_words.specs.declared.history.StrandStep.{StrandStep}
use Rattle.place_table.specs.declared.view.Ended.{Ended}
use Rattle.place_table.specs.declared.view.Turned.{Turned}
use Rattle.place_table.specs.Views.{is_among}
use Rattle.map_report.specs.Record.{Ascend}
use Rattle.run_records.specs.declared.pieces.Piece.{Piece}
use Rattle.run_records.specs.declared.pieces.Place.{Place}

-- In a phase what one CPU did, or all did: its turns, and the steps that are recorded of them.
pub record Part : Type 0 where
  pub phase : ℕ
  -- none stands for all CPUs
  pub cpu : Option ℕ
  pub turns : List Turned
  pub kept : List StrandStep

abbrev pub cpus_of : ℕ → Option ℕ → List ℕ
cpus_of cpus None = range_with_len 0 cpus
cpus_of cpus (Some cpu) = cpu ∷ []

abbrev pub has_turns : Part → Bool
has_turns part = not (length part.turns == 0)

-- the CPUs of a strand, in ascending order
abbrev pub cpus_in : Shape → Ended → List ℕ
cpus_in shape strand = filter (λ cpu. is_among cpu strand.cpus) (range_with_len 0 shape.cpus)

-- Strands are cut into parts, one after another: each strand has the turns of the next parts, which are of its CPUs, in phases that
-- ascend.
abbrev pub AreCut : Shape → List Part → List Ended → Type 0
AreCut shape parts [] = parts ≡ []
AreCut shape parts (strand ∷ strands) =
    (mine : List Part) × (rest : List Part) × (parts ≡ mine ++ rest)
    × (strand.steps ≡ flat_map (λ (part : Part). part.turns) mine) × (strand.kept ≡ flat_map (λ (part : Part). part.kept) mine)
    × All (λ (part : Part). cpus_in shape strand ≡ cpus_of shape.cpus part.cpu) mine × Ascend (map (λ (part : Part). part.phase) mine)
    × AreCut shape rest strands

-- the steps of the first strand
abbrev pub first_steps : List Strand → List StrandStep
first_steps [] = []
first_steps (strand ∷ strands) = strand.steps

-- the strands with so many steps of the first taken away
abbrev pub behind_steps : ℕ → List Strand → List Strand
behind_steps count [] = []
behind_steps count (strand ∷ strands) =
    if nat_lt count (length strand.steps) then record { phase = strand.phase; cpus = strand.cpus; steps = drop count strand.steps } ∷ strands else strands

-- what is left of strands behind so many steps of the first, and from a place on
abbrev pub left_in : ℕ → List Strand → List Strand
left_in steps [] = []
left_in steps (strand ∷ strands) = record { phase = strand.phase; cpus = strand.cpus; steps = drop steps strand.steps } ∷ strands

abbrev pub left_at : Place → List Strand → List Strand
left_at place strands = left_in place.steps (drop place.strands strands)

-- the place behind so many steps more of a strand of so many, or behind that strand where it has no more than these
abbrev pub place_behind : ℕ → Place → ℕ → Place
place_behind all place count =
    if nat_lt count (all - place.steps) then record { strands = place.strands; steps = place.steps + count } else record { strands = place.strands + 1; steps = 0 }

-- the strands that a table left, cut into pieces of so many steps each
abbrev pub cut_strands : ℕ → List Piece → List Strand → List Strand
cut_strands cpus [] strands = []
cut_strands cpus (piece ∷ pieces) strands =
    record { phase = piece.phase; cpus = cpus_of cpus piece.cpu; steps = take piece.count (first_steps strands) } ∷ cut_strands cpus pieces (behind_steps piece.count strands)

-- the pieces of a phase, one for each CPU, from one on, with so many steps each
abbrev pub pieces_by : ℕ → ℕ → List ℕ → List Piece
pieces_by phase cpu [] = []
pieces_by phase cpu (count ∷ counts) = (record { phase = phase; cpu = Some cpu; count = count }) ∷ pieces_by phase (suc cpu) counts

-- of a phase's calls the CPU that makes them all, CPU 0 where there is no call, and none where several CPUs make them
abbrev pub lone_cpu : List Call → Option ℕ
lone_cpu [] = Some 0
lone_cpu (call ∷ calls) = if list_any (λ (other : Call). not (other.cpu == call.cpu)) calls then None else Some call.cpu
