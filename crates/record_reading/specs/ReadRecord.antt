-- A report is read back: which record it tells, or which of its lines is the first at fault.
use Rattle.std.specs.Prelude.{◌≡◌, ◌≢◌, ◌<◌, ◌≤◌, ◌-◌, ℕ, suc, List, [], ◌∷◌, ◌++◌, true, false, length, take, Result, Ok, Err}
use Rattle.std.specs.List.{flat_map}
use Rattle.map_script.specs.declared.script.Script.{Script}
use Rattle.map_report.specs.declared.record.Options.{Options}
use Rattle.map_report.specs.declared.record.RunRecord.{RunRecord}
use Rattle.map_report.specs.Text.{ended, report}
use Rattle.record_reading.specs.RecordReaders.{read_lines}
use Rattle.record_reading.specs.Sections.{Line}
use Rattle.record_reading.specs.TextLines.{lines_in}
use Rattle.record_shape.specs.WellShaped.{WellShaped}

-- a report with its history and its dump
abbrev pub with_both : Options
with_both = record { history = true; dump = true; json = false }

abbrev pub text_of : Script → RunRecord → List ℕ
text_of script kept = report script kept with_both

-- the text of a well-shaped record begins with these lines
pub record BeginsText (script : Script) (lines : List Line) : Type 0 where
  pub kept : RunRecord
  pub well : WellShaped script kept
  pub more : List ℕ
  pub begins : text_of script kept ≡ flat_map ended lines ++ more

-- the lines of a text, without what is behind the last line feed
abbrev pub lines_of : List ℕ → List Line
lines_of text = (lines_in text).0

-- `n` is the least number of lines that no well-shaped record's text begins with. Where there is none such, and the text is no such
-- record's, it is the number of lines plus 1.
pub record IsFault (script : Script) (text : List ℕ) (n : ℕ) : Type 0 where
  pub some : 1 ≤ n
  pub within : n ≤ suc (length (lines_of text))
  pub before : (fewer : ℕ) → fewer < n → BeginsText script (take fewer (lines_of text))
  pub at_line : n ≤ length (lines_of text) → BeginsText script (take n (lines_of text)) → ⊥
  -- it says more than `at_line` only where `n` is the number of lines plus 1
  pub no_record : (kept : RunRecord) → WellShaped script kept → text_of script kept ≢ text

-- ---- how it is computed

-- where a text's lines are read, and there may be a rest
abbrev pub record_or_line : List Line × List ℕ → Result RunRecord (List Line) → Result RunRecord ℕ
record_or_line (lines, []) (Ok kept) = Ok kept
record_or_line (lines, c ∷ rest) (Ok kept) = Err (suc (length lines))
record_or_line (lines, rest) (Err left) = Err (suc (length lines - length left))

unfoldable pub read_text : Script → List ℕ → Result RunRecord ℕ
read_text script text = record_or_line (lines_in text) (read_lines script (lines_of text))
