-- The lines of a text that are still to be read.
use Rattle.std.specs.Prelude.{ℕ, List}
use Rattle.map_script.specs.Lines.{Line, lines_from, end_from}

-- the number of the first line of the text; the lines that say something, in order; and the number of a fault at their end
pub record Unread : Type 0 where
  pub number : ℕ
  pub lines : List Line
  pub end : ℕ

abbrev pub unread_from : ℕ → List ℕ → Unread
unread_from number text =
    record { number = number; lines = lines_from number text; end = end_from number text }
