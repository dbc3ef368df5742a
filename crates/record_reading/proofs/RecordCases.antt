-- What a whole text is read as, by how far its sections were read.
use Rattle.std.proofs.Common.{◌≡◌, ℕ, suc, ◌+◌, ◌-◌, ◌==◌, cond, Bool, true, false, List, [], ◌∷◌, length, Result, Ok, Err, refl, sym, ap, ◌∙◌, arith}
use Rattle.std.specs.Prelude.{◌≢◌, count_by, MatchBool, if◌then◌else◌}
use Rattle.std.proofs.lemmas.Bool.{eqb-true}
use Rattle.std.proofs.lemmas.List.Recursion.{is_count_by}
use Rattle.map_script.specs.declared.script.Script.{Script}
use Rattle.map_script.specs.Lines.{is_line_feed}
use Rattle.map_script.specs.WellFormed.{IsWellFormed}
use Rattle.map_report.specs.declared.record.RunRecord.{RunRecord}
use Rattle.record_reading.specs.ReadRecord.{IsFault, lines_of, record_or_line, read_text}
use Rattle.record_reading.specs.RecordAnswers.{IsRecordIn}
use Rattle.record_reading.specs.RecordReaders.{record_section, ended_there, read_lines}
use Rattle.record_reading.specs.Sections.{Line}
use Rattle.record_reading.specs.TextLines.{with_letter, lines_in}
use Rattle.record_reading.proofs.ReadLaws.{text_back, text_right, text_fault}
use Rattle.record_reading.proofs.Suits.{readable_of}

abbrev Left : Type 0
Left = List Line × List ℕ

-- ---- a text that is over, and how many lines it has

no_line : (line : Line) (lines : List Line) → ◌≡◌ {A = List Line} (line ∷ lines) [] → ⊥
no_line line lines e = absurd (cc)

no_letter : (c : ℕ) (text : List ℕ) → ◌≡◌ {A = List ℕ} (c ∷ text) [] → ⊥
no_letter c text e = absurd (cc)

-- lines of which there is one
pub line_stays : (first : Line) (parts : Left) → ◌≢◌ {A = Left} (first ∷ parts.0, parts.1) ([], [])
line_stays first parts = λ is. no_line first parts.0 (ap (λ (l : Left). l.0) is)

-- a text without a line
pub over_where : (text : List ℕ) (is_over : Bool) → is_over ≡ (length text == 0) → MatchBool is_over (◌≡◌ {A = Left} ([], text) ([], [])) (◌≢◌ {A = Left} ([], text) ([], []))
over_where [] true is = refl
over_where [] false is = absurd (cc)
over_where (c ∷ text) true is = absurd (omega (arith, eqb-true (length (c ∷ text)) 0 (sym is)))
over_where (c ∷ text) false is = λ same. no_letter c text (ap (λ (l : Left). l.1) same)

letter_adds_none : (c : ℕ) (parts : Left) → length (with_letter c parts).0 ≡ length parts.0
letter_adds_none c ([], rest) = refl
letter_adds_none c (line ∷ lines, rest) = refl

one_more : (c : ℕ) (text : List ℕ) → length (lines_of (c ∷ text)) ≡ cond (is_line_feed c) (1 + length (lines_of text)) (length (lines_of text))
unfolding lines_in
one_more c text = by (c == 10)
  where
    by : (b : Bool) → length (if b then ([] ∷ (lines_in text).0, (lines_in text).1) else with_letter c (lines_in text)).0 ≡ cond b (1 + length (lines_of text)) (length (lines_of text))
    by true = omega arith
    by false = letter_adds_none c (lines_in text)

pub counted : (text : List ℕ) → count_by is_line_feed text ≡ length (lines_of text)
unfolding lines_in
counted text = sym (is_count_by (λ (t : List ℕ). length (lines_of t)) is_line_feed refl one_more text)

-- ---- what is read

module _ (script : Script) (text : List ℕ) (old left : Left) (whole : old ≡ lines_in text) where
  abbrev fault : ℕ
  fault = suc (length (lines_of text) - length left.0)

  read_by : (o : Result (RunRecord × List Line) (List Line)) → record_section script old.0 ≡ o → read_text script text ≡ record_or_line (lines_in text) (ended_there o)
  unfolding read_text read_lines
  read_by o is = ap (λ (l : Left). record_or_line (lines_in text) (ended_there (record_section script l.0))) (sym whole) ∙ ap (λ r. record_or_line (lines_in text) (ended_there r)) is

  at_line : (parts : Left) (rest : List Line) → record_or_line parts (Err rest) ≡ Err (suc (length parts.0 - length rest))
  at_line (lines, []) rest = refl
  at_line (lines, c ∷ more) rest = refl

  at_rest : (parts : Left) (kept : RunRecord) → parts.1 ≢ [] → record_or_line parts (Ok kept) ≡ Err (suc (length parts.0 - 0))
  at_rest (lines, []) kept some = absurd (some refl)
  at_rest (lines, c ∷ more) kept some = ap (λ n. Err (suc n)) {x = length lines} {y = length lines - 0} (omega arith)

  at_over : (parts : Left) (kept : RunRecord) → parts.1 ≡ [] → record_or_line parts (Ok kept) ≡ Ok kept
  at_over (lines, []) kept none = refl
  at_over (lines, c ∷ more) kept none = absurd (cc)

  read_over : (kept : RunRecord) → record_section script old.0 ≡ Ok (kept, left.0) → left.1 ≡ old.1 → left ≡ ([], []) → read_text script text ≡ Ok kept
  read_over kept is rest over =
      read_by (Ok (kept, [])) (is ∙ ap (λ (l : Left). Ok (kept, l.0)) over)
      ∙ at_over (lines_in text) kept (ap (λ (l : Left). l.1) (sym whole) ∙ sym rest ∙ ap (λ (l : Left). l.1) over)

  read_left : (kept : RunRecord) (parts : Left) → left ≡ parts → record_section script old.0 ≡ Ok (kept, left.0) → left.1 ≡ old.1 → left ≢ ([], []) → read_text script text ≡ Err fault
  read_left kept (line ∷ lines, more) are is rest some =
      read_by (Ok (kept, line ∷ lines)) (is ∙ ap (λ (l : Left). Ok (kept, l.0)) are) ∙ at_line (lines_in text) (line ∷ lines)
      ∙ ap (λ (l : Left). Err (suc (length (lines_of text) - length l.0))) (sym are)
  read_left kept ([], c ∷ more) are is rest some =
      read_by (Ok (kept, [])) (is ∙ ap (λ (l : Left). Ok (kept, l.0)) are)
      ∙ at_rest (lines_in text) kept (λ none. no_letter c more (sym (ap (λ (l : Left). l.1) are) ∙ rest ∙ ap (λ (l : Left). l.1) whole ∙ none))
      ∙ ap (λ (l : Left). Err (suc (length (lines_of text) - length l.0))) (sym are)
  read_left kept ([], []) are is rest some = absurd (some are)

  read_fails : record_section script old.0 ≡ Err left.0 → read_text script text ≡ Err fault
  read_fails is = read_by (Err left.0) is ∙ at_line (lines_in text) left.0

-- ---- what is answered

same_record : (one other : RunRecord) → ◌≡◌ {A = Result RunRecord ℕ} (Ok one) (Ok other) → one ≡ other
same_record one other e = cc

module _ (script : Script) (well : IsWellFormed script) (text : List ℕ) (old left : Left) (whole : old ≡ lines_in text) where
  pub is_record : (kept : RunRecord) → record_section script old.0 ≡ Ok (kept, left.0) → left.1 ≡ old.1 → left ≡ ([], []) → IsRecordIn script text (Ok kept)
  is_record kept is rest over =
      let read = read_over script text old left whole kept is rest over in
      let law = text_right script (readable_of script well) text kept read in
      (law.1, law.0, λ other fits same. same_record other kept (sym (text_back script (readable_of script well) other fits) ∙ ap (read_text script) same ∙ read))

  pub at_left : (kept : RunRecord) → record_section script old.0 ≡ Ok (kept, left.0) → left.1 ≡ old.1 → left ≢ ([], []) → (n : ℕ) → n ≡ suc (length (lines_of text) - length left.0) → IsFault script text n
  at_left kept is rest some n line = text_fault script (readable_of script well) text n (read_left script text old left whole kept left refl is rest some ∙ ap (λ k. Err k) (sym line))

  pub at_fault : record_section script old.0 ≡ Err left.0 → (n : ℕ) → n ≡ suc (length (lines_of text) - length left.0) → IsFault script text n
  at_fault is n line = text_fault script (readable_of script well) text n (read_fails script text old left whole is ∙ ap (λ k. Err k) (sym line))
