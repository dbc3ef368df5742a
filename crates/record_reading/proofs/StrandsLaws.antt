-- The laws of strands and of the starts of phases.
use Rattle.std.proofs.Common.{◌≡◌, ℕ, ◌≤◌, ◌^◌, ◌==◌, Bool, true, false, List, [], ◌∷◌, ◌++◌, length, map, None, refl, ap, ◌∙◌, arith}
use Rattle.std.specs.Prelude.{codes, MatchBool, if◌then◌else◌}
use Rattle.std.specs.List.{flat_map, range_with_len}
use Rattle.std.proofs.lemmas.Bool.{lt-ltb}
use Rattle.map_types.specs.declared.attr.Shape.{Shape}
use Rattle.map_types.specs.declared.kind.DomainId.TheVariants.{Bucket}
use Rattle.place_words.specs.declared.history.Strand.{Strand}
use Rattle.place_words.specs.declared.history.StrandStep.{StrandStep}
use Rattle.place_words.specs.Phases.{phase_count}
use Rattle.map_script.specs.declared.script.Script.{Script}
use Rattle.map_report.specs.declared.record.PhaseStart.{PhaseStart}
use Rattle.map_report.specs.History.{step_line, strand_lines, phase_line, phase_lines}
use Rattle.map_report.specs.Words.{numbered}
use Rattle.record_reading.specs.LineReaders.{StrandHead, strand_head, phase_start}
use Rattle.record_reading.specs.Readers.{behind, AllFit}
use Rattle.record_reading.specs.RecordReaders.{strand_of, steps_section, phase_read, strands_section, starts_section}
use Rattle.record_reading.specs.Sections.{Line, Section, one_line, for_each, no_line}
use Rattle.record_shape.specs.WellShaped.{SoManyFit, only_start, StartsFit, StrandsFit}
use Rattle.record_shape.specs.ShapedParts.{StartFits, StepFits}
use Rattle.record_reading.proofs.SectionLaws.{ReadsLine, Tells, NoStop, line_tells, no_line_tells}
use Rattle.record_reading.proofs.MadeLaws.{told_tells, many_tells, NoHead}
use Rattle.record_reading.proofs.AnyLaws.{any_print, AnyFits, AnyStops, any_tells}
use Rattle.record_reading.proofs.WholeLaws.{NoWord, numbered_plain}
use Rattle.record_reading.proofs.BucketLaws.{Small}
use Rattle.record_reading.proofs.LineLaws.{step_reads, whole_reads}
use Rattle.record_reading.proofs.StrandLaws.{strand_head_text, StrandHeadFits, strand_head_reads, phase_start_reads}

abbrev some_step : StrandStep
some_step = record { lock = Bucket 0; index = 0 }

module _ (script : Script) (small : Small script.shape) (some_bucket : 1 ≤ script.shape.buckets) (few_phases : phase_count script.cuts ≤ 2 ^ 64) (one_phase : (script.version == 2) ≡ false → phase_count script.cuts ≡ 1) where
  abbrev shape : Shape
  shape = script.shape

  abbrev phases : ℕ
  phases = phase_count script.cuts

  heads : (least : ℕ) → ReadsLine (strand_head_text script.version) (StrandHeadFits shape phases least) (strand_head script.version shape phases least)
  heads least = strand_head_reads script.version shape phases small.cpus few_phases one_phase least

  some_step_fits : StepFits shape some_step
  some_step_fits = record { lock = lt-ltb 0 shape.buckets (omega arith); index = omega arith }

  step_lines : StrandStep → List Line
  step_lines step = step_line step ∷ []

  abbrev StepsFit : StrandHead → List StrandStep → Type 0
  StepsFit head steps = AllFit (StepFits shape) steps × (length steps ≡ head.1.1)

  abbrev steps_print : StrandHead → List StrandStep → List Line
  steps_print head steps = flat_map step_lines steps

  bodies : (least : ℕ) (head : StrandHead) → StrandHeadFits shape phases least head → Tells (steps_print head) (StepsFit head) NoStop (steps_section shape head)
  unfolding step_lines
  bodies least head fits = many_tells (line_tells (whole_reads (step_reads shape small)) (some_step, some_step_fits)) head.1.1

  abbrev Item : Type 0
  Item = StrandHead × List StrandStep

  abbrev ItemsFit : ℕ → List Item → Type 0
  ItemsFit least items = AnyFits heads bodies phase_read least items

  abbrev items_print : ℕ → List Item → List Line
  items_print least items = any_print heads bodies phase_read least items

  abbrev ItemsStop : ℕ → List Item → List Line → Type 0
  ItemsStop least items rest = AnyStops heads bodies phase_read least items rest

  abbrev part_of : Strand → Item
  part_of strand = ((strand.phase, (strand.cpus, length strand.steps)), strand.steps)

  abbrev pub StrandsStop : ℕ → List Strand → List Line → Type 0
  StrandsStop least [] rest = NoHead (strand_head script.version shape phases least) rest
  StrandsStop least (strand ∷ more) rest = StrandsStop strand.phase more rest

  parts_same : (strands : List Strand) → map strand_of (map part_of strands) ≡ strands
  parts_same [] = refl
  parts_same (strand ∷ more) = ap (λ (l : List Strand). strand ∷ l) (parts_same more)

  parts_fit : (least : ℕ) (strands : List Strand) → StrandsFit script least strands → ItemsFit least (map part_of strands)
  parts_fit least [] fits = tt
  parts_fit least (strand ∷ more) fits =
      (((fits.0.in_order, (fits.0.phase, (fits.0.cpus, fits.0.counted))), (fits.0.steps, refl)), parts_fit strand.phase more fits.1)

  strands_fit : (least : ℕ) (items : List Item) → ItemsFit least items → StrandsFit script least (map strand_of items)
  strands_fit least [] fits = tt
  strands_fit least (x ∷ items) fits =
      let head = fits.0.0 in
      (record { in_order = head.0; phase = head.1.0; cpus = head.1.1.0; steps = fits.0.1.0; counted = omega (arith, head.1.1.1, fits.0.1.1) }, strands_fit x.0.0 items fits.1)

  as_lines : (steps : List StrandStep) → map step_line steps ≡ flat_map step_lines steps
  unfolding step_lines
  as_lines [] = refl
  as_lines (step ∷ steps) = ap (λ (l : List Line). step_line step ∷ l) (as_lines steps)

  strand_prints : (x : Item) → length x.1 ≡ x.0.1.1 → strand_lines script.version (strand_of x) ≡ strand_head_text script.version x.0 ∷ flat_map step_lines x.1
  strand_prints x is =
      ap (λ (n : ℕ). strand_head_text script.version (x.0.0, (x.0.1.0, n)) ∷ map step_line x.1) is
      ∙ ap (λ (l : List Line). strand_head_text script.version x.0 ∷ l) (as_lines x.1)

  strands_print : (least : ℕ) (items : List Item) → ItemsFit least items → flat_map (strand_lines script.version) (map strand_of items) ≡ items_print least items
  strands_print least [] fits = refl
  strands_print least (x ∷ items) fits = λ i. strand_prints x fits.0.1.1 i ++ strands_print x.0.0 items fits.1 i

  stops_made : (least : ℕ) (items : List Item) (rest : List Line) → ItemsStop least items rest → StrandsStop least (map strand_of items) rest
  stops_made least [] rest stops = stops
  stops_made least (x ∷ items) rest stops = stops_made x.0.0 items rest stops

  stops_part : (least : ℕ) (items : List Item) (rest : List Line) → StrandsStop least (map strand_of items) rest → ItemsStop least items rest
  stops_part least [] rest stops = stops
  stops_part least (x ∷ items) rest stops = stops_part x.0.0 items rest stops

  pub strands_tell : Tells (flat_map (strand_lines script.version)) (StrandsFit script 0) (StrandsStop 0) (strands_section script)
  strands_tell =
      told_tells (any_tells heads bodies phase_read 0) (map strand_of) (flat_map (strand_lines script.version)) (StrandsFit script 0) (StrandsStop 0)
      (λ strands fits. (map part_of strands, parts_same strands, parts_fit 0 strands fits)) (strands_print 0) (strands_fit 0) (λ items rest fits stops. stops_made 0 items rest stops) (λ items rest fits stops. stops_part 0 items rest stops)

  -- what doesn't begin with their word
  no_head : (least : ℕ) (line : Line) → behind (codes "strand ") line ≡ None → strand_head script.version shape phases least line ≡ None
  unfolding strand_head
  no_head least line none = rw none refl

  pub strands_stop : (least : ℕ) (strands : List Strand) (rest : List Line) → NoWord (codes "strand ") rest → StrandsStop least strands rest
  strands_stop least [] [] none = tt
  strands_stop least [] (line ∷ rest) none = no_head least line none
  strands_stop least (strand ∷ more) rest none = strands_stop strand.phase more rest none

  -- ---- the starts of phases

  start_lines : ℕ → PhaseStart → List Line
  start_lines phase start = phase_line phase start ∷ []

  some_start : StartFits shape only_start
  some_start = record { ticket = omega arith; marked = record { below = tt; ascending = refl } }

  many_starts : Tells (numbered start_lines 0) (SoManyFit phases (StartFits shape)) NoStop (for_each (λ phase. one_line (phase_start shape phase)) (range_with_len 0 phases))
  unfolding start_lines
  many_starts = numbered_plain start_lines (StartFits shape) (λ phase. line_tells (phase_start_reads shape small.elements phase) (only_start, some_start)) 0 phases

  abbrev StartsAre : Bool → List PhaseStart → Type 0
  StartsAre many starts = MatchBool many (SoManyFit phases (StartFits shape) starts) (starts ≡ only_start ∷ [])

  abbrev starts_print : Bool → List PhaseStart → List Line
  starts_print many starts = if many then numbered (λ number start. phase_line number start ∷ []) 0 starts else []

  abbrev starts_read : Bool → Section (List PhaseStart)
  starts_read many = if many then for_each (λ phase. one_line (phase_start shape phase)) (range_with_len 0 phases) else no_line (only_start ∷ [])

  starts_of : (many : Bool) → Tells (starts_print many) (StartsAre many) NoStop (starts_read many)
  unfolding start_lines
  starts_of true = many_starts
  starts_of false = no_line_tells (λ starts. []) (only_start ∷ []) refl

  pub starts_tell : Tells (phase_lines script.version) (StartsFit script) NoStop (starts_section script)
  starts_tell = starts_of (script.version == 2)
