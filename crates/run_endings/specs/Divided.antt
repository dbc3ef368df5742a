-- How the input of mode `check` is divided: a script, a line that is exactly `%%`, and behind it a report.
use Rattle.std.specs.Prelude.{ℕ, Bool, List, ◌++◌, codes, bytes_eq, flat_map}
use Rattle.std.specs.List.{slice_split, before_first, after_first, join_with_byte, list_any}
use Rattle.map_script.specs.Lines.{is_line_feed}

-- whether a line divides: it is exactly `%%`
abbrev pub divides : List ℕ → Bool
divides line = bytes_eq line (codes "%%")

-- The lines of an input: what stands between its line feeds. So behind the last line feed stands one more line, which may be empty.
abbrev pub all_lines : List ℕ → List (List ℕ)
all_lines input = slice_split is_line_feed input

-- whether one of its lines divides it
abbrev pub is_divided : List ℕ → Bool
is_divided input = list_any divides (all_lines input)

-- the script: the lines before the first that divides, each with its line feed
abbrev pub script_part : List ℕ → List ℕ
script_part input = flat_map (λ line. line ++ codes "\n") (before_first divides (all_lines input))

-- the report: the lines behind it with the line feeds between them, which is nothing where the input ends with the line that divides
abbrev pub report_part : List ℕ → List ℕ
report_part input = join_with_byte 10 (after_first divides (all_lines input))
