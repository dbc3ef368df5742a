-- The words in which it is said what changes nothing of what a text is read as.
use Rattle.std.specs.Prelude.{ℕ, not, Bool, true, List, [], ◌∷◌}
use Rattle.std.specs.List.{list_all}
use Rattle.map_script.specs.Lines.{is_line_feed}

-- no byte is a line feed
abbrev pub in_one_line : List ℕ → Bool
in_one_line bytes = list_all (λ byte. not (is_line_feed byte)) bytes

-- the line ends here: the text ends, or a line feed stands next
abbrev pub ends_line : List ℕ → Bool
ends_line [] = true
ends_line (byte ∷ bytes) = is_line_feed byte
