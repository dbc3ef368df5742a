-- An input that is put together is divided where it was.
use Rattle.std.proofs.Common.{◌≡◌, ℕ, true, false, List, [], ◌∷◌, ◌++◌, All, codes, refl, sym, ap, ◌∙◌}
use Rattle.std.proofs.lemmas.List.{append_assoc}
use Rattle.std.proofs.lemmas.List.Concat.{flat_map-cons}
use Rattle.std.proofs.lemmas.List.Elements.{All-cons, All-head, All-nil, All-tail}
use Rattle.std.proofs.lemmas.List.Splits.{join_with_byte-slice_split, slice_split_at, slice_split_none}
use Rattle.std.specs.List.{list_any}
use Rattle.map_script.specs.Lines.{is_line_feed}
use Rattle.run_endings.specs.Divided.{all_lines, divides, is_divided, report_part, script_part}
use Rattle.run_endings.specs.Divisions.{DividesAtTheEnd, DividesThere, IsScriptLine, text_of_lines}
use Rattle.run_endings.proofs.Dividing.{any_no, any_yes, ended, report_in, report_no, report_yes, script_in, script_no, script_yes}

-- the first line of a text that begins with a whole one
line_first : (line rest : List ℕ) → All (λ x. is_line_feed x ≡ false) line → all_lines (ended line ++ rest) ≡ line ∷ all_lines rest
line_first line rest none =
    ap all_lines (append_assoc line (codes "\n") rest) ∙ slice_split_at is_line_feed line 10 rest none refl

-- what an input is divided into
pub record Divides (input script report : List ℕ) : Type 0 where
  pub divided : is_divided input ≡ true
  pub script_is : script_part input ≡ script
  pub report_is : report_part input ≡ report

-- a line more before it
line_more : (line : List ℕ) (input script report : List ℕ) → IsScriptLine line → Divides input script report → Divides (ended line ++ input) (ended line ++ script) report
line_more line input script report is divides_there =
    let lines = line_first line input is.one in
    record {
      divided = ap (list_any divides) lines ∙ any_no line (all_lines input) is.other ∙ divides_there.divided;
      script_is = ap script_in lines ∙ script_no line (all_lines input) is.other ∙ ap (λ l. ended line ++ l) divides_there.script_is;
      report_is = ap report_in lines ∙ report_no line (all_lines input) is.other ∙ divides_there.report_is;
    }

all_more : (lines : List (List ℕ)) (input report : List ℕ) → All IsScriptLine lines → Divides input [] report → Divides (text_of_lines lines ++ input) (text_of_lines lines) report
all_more [] input report are there = there
all_more (line ∷ lines) input report are there =
    let more = line_more line (text_of_lines lines ++ input) (text_of_lines lines) report (All-head IsScriptLine line lines are) (all_more lines input report (All-tail IsScriptLine line lines are) there) in
    let parts : text_of_lines (line ∷ lines) ++ input ≡ ended line ++ (text_of_lines lines ++ input) =
    ap (λ l. l ++ input) (flat_map-cons ended line lines) ∙ append_assoc (ended line) (text_of_lines lines) input in
    record {
      divided = ap is_divided parts ∙ more.divided;
      script_is = ap script_part parts ∙ more.script_is ∙ sym (flat_map-cons ended line lines);
      report_is = ap report_part parts ∙ more.report_is;
    }

-- the line that divides
of_percents : All (λ x. is_line_feed x ≡ false) (codes "%%")
of_percents = All-cons (λ x. is_line_feed x ≡ false) 37 (37 ∷ []) refl (All-cons (λ x. is_line_feed x ≡ false) 37 [] refl (All-nil (λ x. is_line_feed x ≡ false)))

divided_first : (report : List ℕ) → Divides (codes "%%\n" ++ report) [] report
divided_first report =
    let lines : all_lines (codes "%%\n" ++ report) ≡ codes "%%" ∷ all_lines report = slice_split_at is_line_feed (codes "%%") 10 report of_percents refl in
    record {
      divided = ap (list_any divides) lines ∙ any_yes (codes "%%") (all_lines report) refl;
      script_is = ap script_in lines ∙ script_yes (codes "%%") (all_lines report) refl;
      report_is = ap report_in lines ∙ report_yes (codes "%%") (all_lines report) refl ∙ join_with_byte-slice_split 10 report;
    }

divided_last : Divides (codes "%%") [] []
divided_last =
    let lines : all_lines (codes "%%") ≡ codes "%%" ∷ [] = slice_split_none is_line_feed (codes "%%") of_percents in
    record {
      divided = ap (list_any divides) lines ∙ any_yes (codes "%%") [] refl;
      script_is = ap script_in lines ∙ script_yes (codes "%%") [] refl;
      report_is = ap report_in lines ∙ report_yes (codes "%%") [] refl;
    }

pub divides_there : DividesThere
divides_there lines report are =
    let there = all_more lines (codes "%%\n" ++ report) report are (divided_first report) in
    let parts = append_assoc (text_of_lines lines) (codes "%%\n") report in (ap is_divided parts ∙ there.divided, ap script_part parts ∙ there.script_is, ap report_part parts ∙ there.report_is)

pub divides_at_the_end : DividesAtTheEnd
divides_at_the_end lines are =
    let there = all_more lines (codes "%%") [] are divided_last in (there.divided, there.script_is, there.report_is)
