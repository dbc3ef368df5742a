-- The laws of reading a report.
use Rattle.std.proofs.Common.{◌≡◌, ◌≢◌, ℕ, zero, suc, ◌≤◌, ◌+◌, ◌-◌, List, [], ◌∷◌, ◌++◌, length, take, Result, Ok, Err, subst, refl, sym, ap, ◌∙◌, arith, append_assoc, length-append}
use Rattle.std.specs.List.{flat_map}
use Rattle.std.proofs.Math.Seq.{take-append_seam}
use Rattle.std.proofs.lemmas.List.{append-nil}
use Rattle.map_script.specs.declared.script.Script.{Script}
use Rattle.map_report.specs.declared.record.RunRecord.{RunRecord}
use Rattle.map_report.specs.Text.{ended, report, report_lines}
use Rattle.record_reading.specs.Readers.{AllFit}
use Rattle.record_reading.specs.ReadRecord.{with_both, text_of, BeginsText, lines_of, IsFault, record_or_line, read_text}
use Rattle.record_reading.specs.RecordReaders.{read_lines}
use Rattle.record_reading.specs.Sections.{Line}
use Rattle.record_reading.specs.TextLines.{lines_in, IsPlain}
use Rattle.record_shape.specs.WellShaped.{WellShaped}
use Rattle.record_reading.proofs.PrintedLines.{report_plain}
use Rattle.record_reading.proofs.RecordLaws.{IsReadable, record_lines, record_tells, record_stops, same_lines, reads_each, reads_right, reads_fail}
use Rattle.record_reading.proofs.TextLinesLaws.{lines_are, lines_plain, lines_back}
use Rattle.record_reading.proofs.WholeLaws.{FailsAt}

flat_both : (xs ys : List Line) → flat_map ended (xs ++ ys) ≡ flat_map ended xs ++ flat_map ended ys
flat_both [] ys = refl
flat_both (x ∷ xs) ys = ap (λ t. ended x ++ t) (flat_both xs ys) ∙ sym (append_assoc (ended x) (flat_map ended xs) (flat_map ended ys))

take_plain : (n : ℕ) (lines : List Line) → AllFit IsPlain lines → AllFit IsPlain (take n lines)
take_plain zero lines plain = tt
take_plain (suc n) [] plain = tt
take_plain (suc n) (line ∷ lines) plain = (plain.0, take_plain n lines plain.1)

take_one_more : (before : List Line) (line : Line) (left : List Line) → take (suc (length before)) (before ++ line ∷ left) ≡ before ++ line ∷ []
take_one_more [] line left = refl
take_one_more (x ∷ before) line left = ap (λ (l : List Line). x ∷ l) (take_one_more before line left)

-- fewer of the first lines, and what is behind them
take_fewer : (fewer n : ℕ) (lines : List Line) → fewer ≤ n → (later : List Line) × (take n lines ≡ take fewer lines ++ later)
take_fewer zero n lines less = (take n lines, refl)
take_fewer (suc fewer) zero lines less = absurd (omega (arith, less))
take_fewer (suc fewer) (suc n) [] less = ([], refl)
take_fewer (suc fewer) (suc n) (line ∷ lines) less = let later = take_fewer fewer n lines (omega (arith, less)) in (later.0, ap (λ (l : List Line). line ∷ l) later.1)

module _ (script : Script) (readable : IsReadable script) where
  abbrev printed : RunRecord → List Line
  printed kept = report_lines script kept with_both

  printed_plain : (kept : RunRecord) → AllFit IsPlain (printed kept)
  printed_plain kept = report_plain script kept with_both

  lines_of_text : (kept : RunRecord) → lines_in (text_of script kept) ≡ (printed kept, [])
  unfolding report lines_in
  lines_of_text kept =
      ap lines_in (sym (append-nil (flat_map ended (printed kept)))) ∙ lines_back (printed kept) [] (printed_plain kept) ∙ ap (λ (l : List Line). (l, [])) (append-nil (printed kept))

  -- what a text begins with, its lines begin with
  begins_lines : (lines : List Line) → AllFit IsPlain lines → (b : BeginsText script lines) → (m : List Line) × (printed b.kept ≡ lines ++ m)
  begins_lines lines plain b =
      let e = sym (lines_of_text b.kept) ∙ ap lines_in b.begins ∙ lines_back lines b.more plain in
      ((lines_in b.more).0, ap (λ (p : List Line × List ℕ). p.0) e)

  lines_begin : (lines : List Line) (kept : RunRecord) (later : List Line) → WellShaped script kept → printed kept ≡ lines ++ later → BeginsText script lines
  unfolding report
  lines_begin lines kept later well is = record { kept = kept; well = well; more = flat_map ended later; begins = ap (flat_map ended) is ∙ flat_both lines later }

  -- a text that begins with some lines begins with fewer
  begins_fewer : (fewer n : ℕ) (lines : List Line) → fewer ≤ n → BeginsText script (take n lines) → BeginsText script (take fewer lines)
  begins_fewer fewer n lines less b =
      let later = take_fewer fewer n lines less in
      record {
        kept = b.kept;
        well = b.well;
        more = flat_map ended later.0 ++ b.more;
        begins = b.begins ∙ ap (λ l. flat_map ended l ++ b.more) later.1 ∙ ap (λ t. t ++ b.more) (flat_both (take fewer lines) later.0) ∙ append_assoc (flat_map ended (take fewer lines)) (flat_map ended later.0) b.more;
      }

  -- ---- the clauses

  pub text_back : (kept : RunRecord) → WellShaped script kept → read_text script (text_of script kept) ≡ Ok kept
  unfolding read_text
  text_back kept well =
      ap (λ (p : List Line × List ℕ). record_or_line p (read_lines script p.0)) (lines_of_text kept) ∙ ap (record_or_line (printed kept, [])) (reads_each script readable kept well)

  from_ok_of : (one other : RunRecord) → ◌≡◌ {A = Result RunRecord ℕ} (Ok one) (Ok other) → one ≡ other
  from_ok_of one other e = cc

  pub text_right : (text : List ℕ) (kept : RunRecord) → read_text script text ≡ Ok kept → (text_of script kept ≡ text) × WellShaped script kept
  unfolding read_text report
  text_right text kept h = by (lines_in text) (read_lines script (lines_of text)) refl refl h
    where
      by : (parts : List Line × List ℕ) (o : Result RunRecord (List Line)) → lines_in text ≡ parts → read_lines script (lines_of text) ≡ o → record_or_line parts o ≡ Ok kept → (text_of script kept ≡ text) × WellShaped script kept
      by (lines, []) (Ok found) parts_are is e =
          let same : found ≡ kept = from_ok_of found kept e in
          let law = reads_right script readable (lines_of text) kept (is ∙ ap (λ k. Ok k) same) in
          let whole : text ≡ flat_map ended (lines_of text) ++ [] = lines_are text ∙ ap (λ (p : List Line × List ℕ). flat_map ended (lines_of text) ++ p.1) parts_are in
          (sym (whole ∙ append-nil (flat_map ended (lines_of text)) ∙ ap (flat_map ended) law.0), law.1)
      by (lines, c ∷ rest) (Ok found) parts_are is e = absurd (cc)
      by (lines, []) (Err left) parts_are is e = absurd (cc)
      by (lines, c ∷ rest) (Err left) parts_are is e = absurd (cc)

  from_err_of : (one other : ℕ) → ◌≡◌ {A = Result RunRecord ℕ} (Err one) (Err other) → one ≡ other
  from_err_of one other e = cc

  not_other : (kept : RunRecord) (n : ℕ) → ◌≡◌ {A = Result RunRecord ℕ} (Ok kept) (Err n) → ⊥
  not_other kept n e = absurd (cc)

  none_is : (text : List ℕ) (n : ℕ) → read_text script text ≡ Err n → (kept : RunRecord) → WellShaped script kept → text_of script kept ≢ text
  none_is text n h kept well is = not_other kept n (sym (text_back kept well) ∙ ap (read_text script) is ∙ h)

  -- a line fails
  at_failure : (text : List ℕ) (left : List Line) → read_lines script (lines_of text) ≡ Err left → ((kept : RunRecord) → WellShaped script kept → text_of script kept ≢ text) → IsFault script text (suc (length (lines_of text) - length left))
  at_failure text left is none =
      let lines = lines_of text in
      let at = reads_fail script readable lines left is in
      let long : length lines ≡ length at.before + length left = ap length at.lines_are ∙ length-append at.before left in
      let n : length lines - length left ≡ length at.before = omega (arith, long) in
      let n1 : suc (length lines - length left) - 1 ≡ length at.before = omega (arith, long) in
      let first : take (suc (length lines - length left) - 1) lines ≡ at.before = ap (λ k. take k lines) n1 ∙ ap (take (length at.before)) at.lines_are ∙ take-append_seam at.before left in
      record {
        some = omega arith;
        within = omega (arith, n, long);
        before = λ fewer less. begins_fewer fewer (suc (length lines - length left) - 1) lines (omega (arith, less)) (subst (BeginsText script) (sym first) (lines_begin at.before at.kept at.later at.fits (same_lines script readable at.kept at.fits ∙ at.begins)));
        at_line = λ less. goes_on left at refl (omega (arith, n, long, less)) n;
        no_record = none;
      }
    where
      goes_on : (rest : List Line) (at : FailsAt (record_tells script readable) (record_stops script readable) (lines_of text) left) → left ≡ rest → 1 ≤ length left → length (lines_of text) - length left ≡ length at.before
          → BeginsText script (take (suc (length (lines_of text) - length left)) (lines_of text)) → ⊥
      goes_on [] at rest_is some n b = absurd (omega (arith, ap length rest_is, some))
      goes_on (line ∷ more) at rest_is some n b =
          let lines = lines_of text in
          let first : take (suc (length lines - length left)) lines ≡ at.before ++ line ∷ [] =
          ap (λ k. take (suc k) lines) n ∙ ap (take (suc (length at.before))) (at.lines_are ∙ ap (λ l. at.before ++ l) rest_is) ∙ take_one_more at.before line more in
          let goes = begins_lines (take (suc (length lines - length left)) lines) (take_plain (suc (length lines - length left)) lines (lines_plain text).0) b in
          let e : record_lines script readable b.kept ≡ at.before ++ line ∷ goes.0 =
          sym (same_lines script readable b.kept b.well) ∙ goes.1 ∙ ap (λ l. l ++ goes.0) first ∙ append_assoc at.before (line ∷ []) goes.0 in
          at.never line more rest_is b.kept goes.0 b.well e

  -- each line is read, and there is a rest
  at_rest : (text : List ℕ) (kept : RunRecord) → read_lines script (lines_of text) ≡ Ok kept → ((kept : RunRecord) → WellShaped script kept → text_of script kept ≢ text) → IsFault script text (suc (length (lines_of text)))
  at_rest text kept is none =
      let lines = lines_of text in
      let law = reads_right script readable lines kept is in
      record {
        some = omega arith;
        within = omega arith;
        before = λ fewer less. begins_fewer fewer (suc (length lines) - 1) lines (omega (arith, less)) (subst (BeginsText script) (sym (take_all lines)) (lines_begin lines kept [] law.1 (sym law.0 ∙ sym (append-nil lines))));
        at_line = λ less. absurd (omega (arith, less));
        no_record = none;
      }
    where
      take_all : (lines : List Line) → take (suc (length lines) - 1) lines ≡ lines
      take_all lines = (let e : suc (length lines) - 1 ≡ length lines = omega arith in ap (λ k. take k lines) e) ∙ ap (take (length lines)) (sym (append-nil lines)) ∙ take-append_seam lines []

  pub text_fault : (text : List ℕ) (n : ℕ) → read_text script text ≡ Err n → IsFault script text n
  unfolding read_text
  text_fault text n h = by (lines_in text) (read_lines script (lines_of text)) refl refl h
    where
      by : (parts : List Line × List ℕ) (o : Result RunRecord (List Line)) → lines_in text ≡ parts → read_lines script (lines_of text) ≡ o → record_or_line parts o ≡ Err n → IsFault script text n
      by (lines, []) (Ok found) parts_are is e = absurd (cc)
      by (lines, c ∷ rest) (Ok found) parts_are is e =
          subst (IsFault script text) (ap (λ (p : List Line × List ℕ). suc (length p.0)) parts_are ∙ from_err_of (suc (length lines)) n e) (at_rest text found is (none_is text n h))
      by (lines, []) (Err left) parts_are is e =
          subst (IsFault script text) (ap (λ (p : List Line × List ℕ). suc (length p.0 - length left)) parts_are ∙ from_err_of (suc (length lines - length left)) n e) (at_failure text left is (none_is text n h))
      by (lines, c ∷ rest) (Err left) parts_are is e =
          subst (IsFault script text) (ap (λ (p : List Line × List ℕ). suc (length p.0 - length left)) parts_are ∙ from_err_of (suc (length lines - length left)) n e) (at_failure text left is (none_is text n h))
