-- How the bytes of a text fall into lines, and what a line says.
use Rattle.std.specs.Prelude.{ℕ, ◌+◌, ◌==◌, ◌&&◌, ◌||◌, not, nat_le, Bool, List, [], ◌∷◌, length, filter, count_by, Result, Ok, Err, if◌then◌else◌}
use Rattle.std.specs.List.{slice_split, before_first, list_all}
use Rattle.map_script.specs.declared.refusal.Cause.{Cause}
use Rattle.map_script.specs.declared.refusal.Cause.TheVariants.{Byte}

abbrev pub is_line_feed : ℕ → Bool
is_line_feed byte = byte == 10

-- space, tab and carriage return
abbrev pub is_blank : ℕ → Bool
is_blank byte = byte == 32 || byte == 9 || byte == 13

-- `#`, from which on a line is a comment
abbrev pub is_hash : ℕ → Bool
is_hash byte = byte == 35

-- what may stand outside a comment: blanks and visible characters
abbrev pub is_allowed : ℕ → Bool
is_allowed byte = is_blank byte || (nat_le 33 byte && nat_le byte 126)

-- a line without its comment
abbrev pub before_comment : List ℕ → List ℕ
before_comment line = before_first is_hash line

-- the tokens of a line without its comment: what stands between its blanks
abbrev pub tokens_of : List ℕ → List (List ℕ)
tokens_of line = filter (λ token. not (length token == 0)) (slice_split is_blank line)

-- what a line says outside its comment: its tokens, and whether each byte may stand there
pub record Said : Type 0 where
  pub tokens : List (List ℕ)
  pub allowed : Bool

-- a line without its comment
abbrev pub said_in : List ℕ → Said
said_in line = record { tokens = tokens_of line; allowed = list_all is_allowed line }

-- a line with its comment
abbrev pub said_by : List ℕ → Said
said_by line = said_in (before_comment line)

-- its tokens, or that a byte may not stand there
abbrev pub tokens_said : Said → Result (List (List ℕ)) Cause
tokens_said said = if said.allowed then Ok said.tokens else Err Byte

-- a line with its number
pub record Line : Type 0 where
  pub number : ℕ
  pub says : Said

-- lines, numbered from here on
abbrev pub numbered : ℕ → List (List ℕ) → List Line
numbered number [] = []
numbered number (line ∷ lines) = record { number = number; says = said_by line } ∷ numbered (number + 1) lines

-- no token and no byte that may not stand there
abbrev pub is_nothing : Said → Bool
is_nothing said = said.allowed && length said.tokens == 0

-- the lines of a text that say something, in order, where its first line has this number
abbrev pub lines_from : ℕ → List ℕ → List Line
lines_from number text = filter (λ line. not (is_nothing line.says)) (numbered number (slice_split is_line_feed text))

abbrev pub lines_of : List ℕ → List Line
lines_of text = lines_from 1 text

-- the number of a fault at the end of a text, where its first line has this number
abbrev pub end_from : ℕ → List ℕ → ℕ
end_from number text = count_by is_line_feed text + number

abbrev pub end_number : List ℕ → ℕ
end_number text = end_from 1 text
