-- Strands, each with its steps.
use Rattle.std.proofs.Common.{◌≡◌, ℕ, zero, suc, ◌≤◌, List, [], ◌∷◌, ◌++◌, length, Option, Some, None, Ok, Err, refl, sym, ap, ◌∙◌, arith}
use Rattle.place_words.specs.declared.history.Strand.{Strand}
use Rattle.place_words.specs.declared.history.StrandStep.{StrandStep}
use Rattle.place_words.specs.Phases.{phase_count}
use Rattle.map_script.specs.declared.script.Script.{Script}
use Rattle.record_reading.specs.LineReaders.{step_part, StrandHead, strand_head}
use Rattle.record_reading.specs.Outcomes.{Reads}
use Rattle.record_reading.specs.Readers.{whole}
use Rattle.record_reading.specs.RecordReaders.{strand_of, steps_section, phase_read, strands_section}
use Rattle.record_reading.specs.Sections.{Line, Section, line_says, one_line, so_many}
use Rattle.record_reading.proofs.AnyLemmas.{Shrinks, AnySoFar, begin, more, fails, stops, ended}
use Rattle.record_reading.proofs.LoopLemmas.{none_read}
use Rattle.record_reading.proofs.SectionLaws.{from_ok, went_on}

-- ---- no section of lines gives lines back

line_shrinks : {A : Type 0} (read : Line → Option A) (lines : List Line) (a : A) (rest : List Line) → one_line read lines ≡ Ok (a, rest) → length rest ≤ length lines
unfolding line_says
line_shrinks {A} read [] a rest h = absurd (cc)
line_shrinks {A} read (line ∷ lines) a rest h = by (read line) h
  where
    by : (o : Option A) → line_says o line lines ≡ Ok (a, rest) → length rest ≤ length (line ∷ lines)
    by (Some b) e = omega (arith, ap length (ap (λ (p : A × List Line). p.1) (from_ok (b, lines) (a, rest) e)))
    by None e = absurd (cc)

pub many_shrinks : {A : Type 0} (read : Line → Option A) (count : ℕ) (lines : List Line) (found : List A) (rest : List Line) → so_many count (one_line read) lines ≡ Ok (found, rest) → length rest ≤ length lines
many_shrinks {A} read zero lines found rest h = omega (arith, ap length (ap (λ (p : List A × List Line). p.1) (from_ok ([], lines) (found, rest) h)))
many_shrinks {A} read (suc count) lines found rest h =
    let made = went_on _ _ (found, rest) h in
    let both = went_on (one_line read lines) _ made.0 made.1 in
    let more = went_on (so_many count (one_line read) both.0.1) _ made.0 both.2 in
    omega (
      arith,
      line_shrinks read lines both.0.0 both.0.1 both.1,
      many_shrinks read count both.0.1 more.0.0 more.0.1 more.1,
      ap length (ap (λ (p : (A × List A) × List Line). p.1) (from_ok ((both.0.0, more.0.0), more.0.1) made.0 more.2)),
      ap length (ap (λ (p : List A × List Line). p.1) (from_ok _ (found, rest) made.2)),
    )

-- ---- strands

module _ (script : Script) where
  abbrev head : ℕ → Line → Option StrandHead
  head = strand_head script.version script.shape (phase_count script.cuts)

  abbrev steps : StrandHead → Section (List StrandStep)
  steps = steps_section script.shape

  pub steps_shrink : Shrinks steps
  steps_shrink h lines found rest e = many_shrinks (whole (step_part script.shape)) h.1.1 lines found rest e

  pub record StrandsSoFar (least : ℕ) (old new : List Line) (found : List Strand) : Type 0 where
    pub so_far : AnySoFar head steps phase_read steps_shrink strand_of 0 least old new found

pub at_phases : (script : Script) (least : ℕ) (line : Line) (phases : ℕ) → phases ≡ phase_count script.cuts → (read : Option StrandHead) → read ≡ strand_head script.version script.shape phases least line
    → read ≡ strand_head script.version script.shape (phase_count script.cuts) least line
at_phases script least line phases is read h = h ∙ ap (λ n. strand_head script.version script.shape n least line) is

pub strands_start : (script : Script) (old : List Line) (found : List Strand) → found ≡ [] → StrandsSoFar script 0 old old found
strands_start script old found none = record { so_far = begin (head script) (steps script) phase_read (steps_shrink script) strand_of 0 0 old found refl none }

pub strands_more : (script : Script) (least : ℕ) (old new : List Line) (found : List Strand) → StrandsSoFar script least old new found → (line : Line) (behind : List Line) → new ≡ line ∷ behind → (phase : ℕ) (cpus : List ℕ) (count : ℕ)
    → Some (phase, (cpus, count)) ≡ strand_head script.version script.shape (phase_count script.cuts) least line → (found_steps : List StrandStep) (rest : List Line) → so_many count (one_line (whole (step_part script.shape))) behind ≡ Ok (found_steps, rest)
    → StrandsSoFar script phase old rest (found ++ (record { phase = phase; cpus = cpus; steps = found_steps }) ∷ [])
strands_more script least old new found so line behind is phase cpus count h found_steps rest e =
    record { so_far = more (head script) (steps script) phase_read (steps_shrink script) strand_of so.so_far line behind is (phase, (cpus, count)) (sym h) found_steps rest e }

pub strands_none : (script : Script) (least : ℕ) (old new : List Line) (found : List Strand) → StrandsSoFar script least old new found → (line : Line) (behind : List Line) → new ≡ line ∷ behind → (phase : ℕ) (cpus : List ℕ) (count : ℕ)
    → Some (phase, (cpus, count)) ≡ strand_head script.version script.shape (phase_count script.cuts) least line → (found_steps : Option (List StrandStep)) (rest : List Line) → Reads (so_many count (one_line (whole (step_part script.shape)))) behind rest found_steps → found_steps ≡ None
    → strands_section script old ≡ Err rest
strands_none script least old new found so line behind is phase cpus count h found_steps rest e none =
    fails (head script) (steps script) phase_read (steps_shrink script) strand_of so.so_far line behind is (phase, (cpus, count)) (sym h) rest
    (none_read (so_many count (one_line (whole (step_part script.shape)))) behind rest found_steps e none)

pub strands_done : (script : Script) (least : ℕ) (old new : List Line) (found : List Strand) → StrandsSoFar script least old new found → (line : Line) (behind : List Line) → new ≡ line ∷ behind → (read : Option StrandHead)
    → read ≡ strand_head script.version script.shape (phase_count script.cuts) least line → read ≡ None → strands_section script old ≡ Ok (found, new)
strands_done script least old new found so line behind is read h none =
    stops (head script) (steps script) phase_read (steps_shrink script) strand_of so.so_far line behind is (sym h ∙ none)

pub strands_end : (script : Script) (least : ℕ) (old new : List Line) (found : List Strand) → StrandsSoFar script least old new found → new ≡ [] → strands_section script old ≡ Ok (found, new)
strands_end script least old new found so is = ended (head script) (steps script) phase_read (steps_shrink script) strand_of so.so_far is
