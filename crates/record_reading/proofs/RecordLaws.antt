-- The laws of a whole report: it is read as the one well-shaped record that it tells, or up to the first line with which no report of a
-- well-shaped record goes on.
use Rattle.std.proofs.Common.{◌≡◌, ℕ, suc, ◌≤◌, ◌<◌, ◌^◌, ◌==◌, Bool, true, false, List, [], ◌∷◌, ◌++◌, length, None, Result, Ok, Err, subst, refl, sym, ap, ◌∙◌, arith, append_assoc}
use Rattle.std.specs.Prelude.{codes, if◌then◌else◌}
use Rattle.std.proofs.lemmas.List.{append-nil}
use Rattle.std.specs.List.{flat_map}
use Rattle.map_types.specs.declared.attr.Shape.{Shape}
use Rattle.map_types.specs.Shape.{HasBounds}
use Rattle.place_words.specs.declared.history.Strand.{Strand}
use Rattle.place_words.specs.Phases.{phase_count}
use Rattle.map_script.specs.declared.script.Script.{Script}
use Rattle.map_report.specs.declared.record.PhaseStart.{PhaseStart}
use Rattle.map_report.specs.declared.record.RunRecord.{RunRecord}
use Rattle.map_report.specs.Dump.{dump_lines}
use Rattle.map_report.specs.History.{lock_lines, record_line, phase_line, phase_lines, strand_lines}
use Rattle.map_report.specs.Record.{locks_of}
use Rattle.map_report.specs.Text.{map_line, reply_line, report_lines}
use Rattle.map_report.specs.Words.{numbered}
use Rattle.record_reading.specs.ReadRecord.{with_both}
use Rattle.record_reading.specs.Readers.{behind}
use Rattle.record_reading.specs.RecordReaders.{Parts, record_of, record_section, ended_there, read_lines}
use Rattle.record_reading.specs.Sections.{Line}
use Rattle.record_shape.specs.WellShaped.{StartsFit, StrandsFit, FinalsFit, WellShaped}
use Rattle.record_shape.specs.ShapedParts.{RepliesFit}
use Rattle.record_reading.proofs.SectionLaws.{Tells, line_tells, next_tells}
use Rattle.record_reading.proofs.MadeLaws.{told_tells}
use Rattle.record_reading.proofs.WholeLaws.{NoWord, reads_whole, FailsAt, fails_in, fails_behind}
use Rattle.record_reading.proofs.BucketLaws.{Small}
use Rattle.record_reading.proofs.AnswerLaws.{answers_tell}
use Rattle.record_reading.proofs.DumpSections.{list_lines, finals_lines, FinalsStop, finals_tell, lists_no_word, finals_no_word, numbered_no_word, bucket_no_list, strand_no_list, strand_no_bucket, lock_no_list, lock_no_bucket, same_dump}
use Rattle.record_reading.proofs.FinalsLaws.{buckets_stop}
use Rattle.record_reading.proofs.HistoryLaws.{HistoriesAre, HistoriesStop, histories_tell, are_to, are_from, histories_stop}
use Rattle.record_reading.proofs.LocksLaws.{small_of, locks_distinct, locks_fit}
use Rattle.record_reading.proofs.StrandsLaws.{StrandsStop, strands_tell, strands_stop, starts_tell}
use Rattle.record_reading.proofs.ToEndLaws.{the_line_reads}

-- what is asked of a script
pub record IsReadable (script : Script) : Type 0 where
  pub bounds : HasBounds script.shape
  pub few_calls : length script.calls < 2 ^ 64
  pub few_phases : phase_count script.cuts ≤ 2 ^ 64
  pub one_phase : (script.version == 2) ≡ false → phase_count script.cuts ≡ 1

group_report : (m : Line) (r : List Line) (c : Line) (l p s d : List Line) (e : Line) → m ∷ (r ++ (c ∷ (l ++ p ++ s)) ++ d ++ e ∷ []) ≡ (m ∷ []) ++ (r ++ ((c ∷ []) ++ (l ++ (p ++ (s ++ (d ++ (e ∷ [])))))))
group_report m r c l p s d e = simp append_assoc

from_ok_record : (one other : RunRecord) → ◌≡◌ {A = Result RunRecord (List Line)} (Ok one) (Ok other) → one ≡ other
from_ok_record one other e = cc

from_err_lines : (one other : List Line) → ◌≡◌ {A = Result RunRecord (List Line)} (Err one) (Err other) → one ≡ other
from_err_lines one other e = cc

module _ (script : Script) (readable : IsReadable script) where
  abbrev pub shape : Shape
  shape = script.shape

  abbrev pub small : Small shape
  small = small_of shape readable.bounds

  pub some_bucket : 1 ≤ shape.buckets
  some_bucket = omega (arith, readable.bounds.some_capacity, readable.bounds.capacity_in_buckets)

  pub some_element : 1 ≤ shape.elements
  some_element = omega (arith, readable.bounds.some_capacity, readable.bounds.capacity_in_elements)

  pub few_buckets : shape.buckets ≤ 2 ^ 64
  few_buckets = omega (arith, readable.bounds.buckets_bounded)

  abbrev pub version_line : Line
  version_line = record_line (record { number = suc script.version })

  -- ---- the sections, as they are printed

  abbrev pub behind_strands : RunRecord → List Line
  behind_strands kept = finals_lines shape kept.finals ++ (codes "end" ∷ [])

  abbrev pub behind_histories : RunRecord → List Line
  behind_histories kept = phase_lines script.version kept.phases ++ (flat_map (strand_lines script.version) kept.strands ++ behind_strands kept)

  abbrev pub record_lines : RunRecord → List Line
  record_lines kept =
      (map_line shape ∷ []) ++ (numbered (λ number told. reply_line number told ∷ []) 1 kept.replies ++ ((version_line ∷ []) ++ (flat_map lock_lines kept.histories ++ behind_histories kept)))

  abbrev pub RecordStops : RunRecord → List Line → Type 0
  RecordStops kept rest =
      HistoriesStop shape small readable.bounds.some_cpu (length script.calls) readable.few_calls (locks_of shape) kept.histories (behind_histories kept ++ rest)
      × StrandsStop script small some_bucket readable.few_phases readable.one_phase 0 kept.strands (behind_strands kept ++ rest)
      × FinalsStop shape small some_element few_buckets kept.finals ((codes "end" ∷ []) ++ rest)

  parts_of : RunRecord → Parts
  parts_of kept = (tt, (kept.replies, (tt, (kept.histories, (kept.phases, (kept.strands, (kept.finals, tt)))))))

  abbrev PartsFit : Parts → Type 0
  PartsFit x =
      Unit {0} × (RepliesFit shape script.calls x.1.0 × (Unit {0} × (HistoriesAre shape small readable.bounds.some_cpu (length script.calls) readable.few_calls (locks_of shape) x.1.1.1.0
      × (StartsFit script x.1.1.1.1.0 × (StrandsFit script 0 x.1.1.1.1.1.0 × (FinalsFit shape x.1.1.1.1.1.1.0 × Unit {0}))))))

  parts_fit : (kept : RunRecord) → WellShaped script kept → PartsFit (parts_of kept)
  unfolding parts_of
  parts_fit kept well =
      (tt, (well.replies, (tt, (are_from shape small readable.bounds.some_cpu (length script.calls) readable.few_calls (locks_of shape) kept.histories (locks_fit shape readable.bounds) well.locks well.histories, (well.phases, (well.strands, (well.finals, tt)))))))

  record_fits : (x : Parts) → PartsFit x → WellShaped script (record_of x)
  record_fits x fits =
      let are = are_to shape small readable.bounds.some_cpu (length script.calls) readable.few_calls (locks_of shape) x.1.1.1.0 fits.1.1.1.0 in
      record { replies = fits.1.0; locks = are.0; histories = are.1; phases = fits.1.1.1.1.0; strands = fits.1.1.1.1.1.0; finals = fits.1.1.1.1.1.1.0 }

  pub record_tells : Tells record_lines (WellShaped script) RecordStops (record_section script)
  unfolding parts_of
  record_tells =
      told_tells
      (next_tells (line_tells (the_line_reads (map_line shape)) (tt, tt)) (λ _ _. next_tells (answers_tell shape small script.calls) (λ _ _. next_tells (line_tells (the_line_reads version_line) (tt, tt))
      (λ _ _. next_tells (histories_tell shape small readable.bounds.some_cpu (length script.calls) readable.few_calls (locks_of shape)) (λ _ _. next_tells (starts_tell script small some_bucket readable.few_phases readable.one_phase)
      (λ _ _. next_tells (strands_tell script small some_bucket readable.few_phases readable.one_phase) (λ _ _. next_tells (finals_tell shape small some_element few_buckets) (λ _ _. line_tells (the_line_reads (codes "end")) (tt, tt)))))))))
      record_of record_lines (WellShaped script) RecordStops
      (λ kept well. (parts_of kept, refl, parts_fit kept well)) (λ x fits. refl) record_fits
      (λ x rest fits stops. (stops.1.1.1.0, stops.1.1.1.1.1.0, stops.1.1.1.1.1.1.0)) (λ x rest fits stops. (tt, (tt, (tt, (stops.0, (tt, (stops.1, (stops.2, tt))))))))

  -- ---- what follows on each section

  strands_no_word : (strands : List Strand) (rest : List Line) → NoWord (codes "lock ") rest → NoWord (codes "lock ") (flat_map (strand_lines script.version) strands ++ rest)
  unfolding behind
  strands_no_word [] rest none = none
  strands_no_word (strand ∷ strands) rest none = refl

  start_no_word : (number : ℕ) (start : PhaseStart) (more : List Line) → NoWord (codes "lock ") more → NoWord (codes "lock ") ((phase_line number start ∷ []) ++ more)
  unfolding behind
  start_no_word number start more none = refl

  starts_by : (many : Bool) (starts : List PhaseStart) (rest : List Line) → NoWord (codes "lock ") rest → NoWord (codes "lock ") ((if many then numbered (λ number start. phase_line number start ∷ []) 0 starts else []) ++ rest)
  starts_by true starts rest none = numbered_no_word (codes "lock ") (λ number start. phase_line number start ∷ []) start_no_word 0 starts rest none
  starts_by false starts rest none = none

  end_no_word : (word : List ℕ) → behind word (codes "end") ≡ None → NoWord word ((codes "end" ∷ []) ++ [])
  end_no_word word none = none

  behind_strands_no_word : (kept : RunRecord) → NoWord (codes "strand ") (behind_strands kept ++ [])
  unfolding behind
  behind_strands_no_word kept =
      subst (NoWord (codes "strand ")) (sym (append_assoc (finals_lines shape kept.finals) (codes "end" ∷ []) []))
      (finals_no_word shape (codes "strand ") strand_no_list strand_no_bucket kept.finals ((codes "end" ∷ []) ++ []) (end_no_word (codes "strand ") refl))

  group_behind : (p s f e : List Line) → (p ++ (s ++ (f ++ e))) ++ [] ≡ p ++ (s ++ (f ++ (e ++ [])))
  group_behind p s f e = simp append_assoc

  behind_histories_no_word : (kept : RunRecord) → NoWord (codes "lock ") (behind_histories kept ++ [])
  unfolding behind
  behind_histories_no_word kept =
      subst (NoWord (codes "lock ")) (sym (group_behind (phase_lines script.version kept.phases) (flat_map (strand_lines script.version) kept.strands) (finals_lines shape kept.finals) (codes "end" ∷ [])))
      (starts_by (script.version == 2) kept.phases _ (strands_no_word kept.strands _ (finals_no_word shape (codes "lock ") lock_no_list lock_no_bucket kept.finals ((codes "end" ∷ []) ++ []) (end_no_word (codes "lock ") refl))))

  buckets_end : (kept : RunRecord) → NoWord (codes "bucket") (list_lines shape kept.finals ++ ((codes "end" ∷ []) ++ []))
  unfolding behind
  buckets_end kept = lists_no_word shape (codes "bucket") bucket_no_list kept.finals ((codes "end" ∷ []) ++ []) (end_no_word (codes "bucket") refl)

  pub record_stops : (kept : RunRecord) → WellShaped script kept → RecordStops kept []
  record_stops kept well =
      let are = are_from shape small readable.bounds.some_cpu (length script.calls) readable.few_calls (locks_of shape) kept.histories (locks_fit shape readable.bounds) well.locks well.histories in (
        histories_stop shape small readable.bounds.some_cpu (length script.calls) readable.few_calls (locks_of shape) kept.histories (behind_histories kept ++ []) (locks_distinct shape readable.bounds) are (behind_histories_no_word kept),
        strands_stop script small some_bucket readable.few_phases readable.one_phase 0 kept.strands (behind_strands kept ++ []) (behind_strands_no_word kept),
        buckets_stop shape small few_buckets 0 shape.buckets kept.finals.buckets (list_lines shape kept.finals ++ ((codes "end" ∷ []) ++ [])) (omega (arith, few_buckets)) (buckets_end kept),
      )

  -- ---- these are the lines of a report

  pub same_lines : (kept : RunRecord) → WellShaped script kept → report_lines script kept with_both ≡ record_lines kept
  same_lines kept well =
      group_report (map_line shape) (numbered (λ number told. reply_line number told ∷ []) 1 kept.replies) version_line (flat_map lock_lines kept.histories) (phase_lines script.version kept.phases)
      (flat_map (strand_lines script.version) kept.strands) (dump_lines shape kept.finals) (codes "end")
      ∙ ap (λ (d : List Line). (map_line shape ∷ []) ++ (numbered (λ number told. reply_line number told ∷ []) 1 kept.replies ++ ((version_line ∷ []) ++ (flat_map lock_lines kept.histories ++ (phase_lines script.version kept.phases ++ (flat_map (strand_lines script.version) kept.strands ++ (d ++ (codes "end" ∷ [])))))))) (same_dump shape kept.finals well.finals)

  -- ---- what is read

  pub reads_each : (kept : RunRecord) → WellShaped script kept → read_lines script (report_lines script kept with_both) ≡ Ok kept
  unfolding read_lines
  reads_each kept well = ap (λ l. ended_there (record_section script l)) (same_lines kept well) ∙ ap ended_there (reads_whole record_tells record_stops kept well)

  -- what was read to the end is the report of a well-shaped record
  pub reads_right : (lines : List Line) (kept : RunRecord) → read_lines script lines ≡ Ok kept → (lines ≡ report_lines script kept with_both) × WellShaped script kept
  unfolding read_lines
  reads_right lines kept h = from_read (record_section script lines) refl h
    where
      from_read : (o : Result (RunRecord × List Line) (List Line)) → record_section script lines ≡ o → ended_there o ≡ Ok kept → (lines ≡ report_lines script kept with_both) × WellShaped script kept
      from_read (Ok (found, [])) is e =
          let law = record_tells.right lines found [] is in
          let same : found ≡ kept = from_ok_record found kept e in
          subst (λ (k : RunRecord). (lines ≡ report_lines script k with_both) × WellShaped script k) same (law.0 ∙ append-nil (record_lines found) ∙ sym (same_lines found law.1), law.1)
      from_read (Ok (found, line ∷ rest)) is e = absurd (cc)
      from_read (Err rest) is e = absurd (cc)

  -- where reading fails: the lines before begin the report of some well-shaped record, and with the next line of none
  pub reads_fail : (lines rest : List Line) → read_lines script lines ≡ Err rest → FailsAt record_tells record_stops lines rest
  unfolding read_lines
  reads_fail lines rest h = from_read (record_section script lines) refl h
    where
      from_read : (o : Result (RunRecord × List Line) (List Line)) → record_section script lines ≡ o → ended_there o ≡ Err rest → FailsAt record_tells record_stops lines rest
      from_read (Ok (found, [])) is e = absurd (cc)
      from_read (Ok (found, line ∷ left)) is e = subst (FailsAt record_tells record_stops lines) (from_err_lines (line ∷ left) rest e) (fails_behind record_tells record_stops lines found line left is)
      from_read (Err left) is e = subst (FailsAt record_tells record_stops lines) (from_err_lines left rest e) (fails_in record_tells record_stops lines left is)
