-- What an input of mode `check` that is put together is divided into.
use Rattle.std.specs.Prelude.{◌≡◌, ℕ, true, false, All, List, [], ◌++◌, codes, flat_map}
use Rattle.map_script.specs.Lines.{is_line_feed}
use Rattle.run_endings.specs.Divided.{divides, is_divided, report_part, script_part}

-- a line as a script may have it: it has no line feed of its own, and isn't `%%`
pub record IsScriptLine (line : List ℕ) : Type 0 where
  pub one : All (λ byte. is_line_feed byte ≡ false) line
  pub other : divides line ≡ false

-- the lines, each with its line feed
abbrev pub text_of_lines : List (List ℕ) → List ℕ
text_of_lines lines = flat_map (λ line. line ++ codes "\n") lines

-- The lines of a script, a line `%%`, and any report behind it are divided there.
abbrev pub DividesThere : Type 0
DividesThere =
    (lines : List (List ℕ)) (report : List ℕ) → All IsScriptLine lines → let input = text_of_lines lines ++ codes "%%\n" ++ report in
    (is_divided input ≡ true) × (script_part input ≡ text_of_lines lines) × (report_part input ≡ report)

-- Behind the lines of a script the input may end with `%%`: the report is empty then.
abbrev pub DividesAtTheEnd : Type 0
DividesAtTheEnd =
    (lines : List (List ℕ)) → All IsScriptLine lines → let input = text_of_lines lines ++ codes "%%" in
    (is_divided input ≡ true) × (script_part input ≡ text_of_lines lines) × (report_part input ≡ [])
