-- The lines of a text.
use Rattle.std.specs.Prelude.{◌≡◌, ◌==◌, ℕ, not, Bool, true, List, [], ◌∷◌, if◌then◌else◌}
use Rattle.std.specs.List.{list_all}
use Rattle.record_reading.specs.Sections.{Line}

-- a letter before the first line, and before the rest where there is no line
abbrev pub with_letter : ℕ → List Line × List ℕ → List Line × List ℕ
with_letter c ([], rest) = ([], c ∷ rest)
with_letter c (line ∷ lines, rest) = ((c ∷ line) ∷ lines, rest)

-- A line is what a line feed ends. Behind the last one there may be a rest, which is no line.
unfoldable pub lines_in : List ℕ → List Line × List ℕ
lines_in [] = ([], [])
lines_in (c ∷ text) = if c == 10 then ([] ∷ (lines_in text).0, (lines_in text).1) else with_letter c (lines_in text)

-- no line feed
abbrev pub is_plain : List ℕ → Bool
is_plain text = list_all (λ c. not (c == 10)) text

abbrev pub IsPlain : List ℕ → Type 0
IsPlain text = is_plain text ≡ true
