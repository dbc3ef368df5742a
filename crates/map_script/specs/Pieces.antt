-- Reading a script in pieces. A stage is what the lines so far lead to, and a reader keeps the stage and the line that isn't
-- whole yet.
use Rattle.std.specs.Prelude.{◌≡◌, ℕ, ◌+◌, List, [], ◌∷◌, ◌++◌, count_by, Some, Result, Ok, Err}
use Rattle.map_script.specs.declared.refusal.Cause.TheVariants.{Gen}
use Rattle.map_script.specs.declared.refusal.ScriptRefusal.{ScriptRefusal}
use Rattle.map_script.specs.declared.refusal.ScriptRefusal.TheVariants.{Fault, Create, NoMemory}
use Rattle.map_script.specs.declared.script.Form.{Form}
use Rattle.map_script.specs.declared.script.GenSpec.{GenSpec}
use Rattle.map_script.specs.declared.script.Script.{Script}
use Rattle.map_script.specs.declared.stage.Head.{Head}
use Rattle.map_script.specs.declared.stage.Stage.{Stage}
use Rattle.map_script.specs.declared.stage.Stage.TheVariants as stages
use Rattle.map_script.specs.Lines.{Line, is_line_feed, lines_from, end_from}
use Rattle.map_script.specs.Places.{◌>>=◌}
use Rattle.map_script.specs.Reading.{at_line, spec_of, script_of, map_of, version_of, read_as}
use Rattle.map_script.specs.CallsSoFar.{calls_of}
use Rattle.map_script.specs.CopySoFar.{copied_of, target_on, unless_held}

-- a script of form Generator
abbrev pub spec_script : Head → GenSpec → Script
spec_script head spec = script_of head.version head.attr head.shape [] [] (Some spec)

-- what lines are read as behind those that led to a stage; end is the line of what
-- is missing at the end of the text
abbrev pub read_on : Stage → ℕ → List Line → Result Script ScriptRefusal
read_on (stages.Start form) end lines = version_of form end lines
read_on (stages.Version form version) end lines = map_of form version end lines
read_on (stages.Calls script) end lines = calls_of script lines
read_on (stages.Map head) end lines = do
  spec ← spec_of head.shape end lines
  Ok (spec_script head spec)
read_on (stages.Whole script) end [] = Ok script
read_on (stages.Whole script) end (line ∷ lines) = at_line line (λ tokens. Err Gen)
read_on (stages.Target script) end lines = target_on script end lines
read_on (stages.Copy copying) end lines = unless_held copying.held lines (copied_of copying.read copying.target lines)
read_on (stages.Either fault) end lines = unless_held (Some fault.copier) lines (Err (Fault fault.line fault.cause))

-- the same, where those lines may be refused
abbrev pub read_behind : Result Stage ScriptRefusal → ℕ → List Line → Result Script ScriptRefusal
read_behind (Ok stage) end lines = read_on stage end lines
read_behind (Err refusal) end lines = Err refusal

-- Lines were read, and read tells what they and any lines behind them are read as: those behind are read on from the stage
-- that was returned, or the refusal that was returned is that of all of them, unless memory ran out.
abbrev pub ReadsOn : (ℕ → List Line → Result Script ScriptRefusal) → Result Stage ScriptRefusal → Type 0
ReadsOn read (Ok stage) = (end : ℕ) (more : List Line) → read end more ≡ read_on stage end more
ReadsOn read (Err (Fault line cause)) = (end : ℕ) (more : List Line) → read end more ≡ Err (Fault line cause)
ReadsOn read (Err (Create refusal)) = (end : ℕ) (more : List Line) → read end more ≡ Err (Create refusal)
ReadsOn read (Err NoMemory) = Unit {0}

-- the last byte of a text is a line feed
abbrev pub EndsWithLineFeed : List ℕ → Type 0
EndsWithLineFeed text = (front : List ℕ) × (text ≡ front ++ 10 ∷ [])

-- What a reader keeps: the stage to which the whole lines lead, or why one of them is refused, or NoMemory where it has
-- failed; the bytes of the line that isn't whole yet; and how many line feeds were fed.
pub record Reader : Type 0 where
  pub read : Result Stage ScriptRefusal
  pub line : List ℕ
  pub line_feeds : ℕ

-- what a text is read as behind lines with so many line feeds
abbrev pub text_behind : Result Stage ScriptRefusal → ℕ → List ℕ → Result Script ScriptRefusal
text_behind read line_feeds text = read_behind read (end_from (line_feeds + 1) text) (lines_from (line_feeds + 1) text)

-- A reader stands for bytes: any rest, behind the line that isn't whole yet, is read as those bytes and the rest.
abbrev pub StandsFor : Form → Reader → List ℕ → Type 0
StandsFor form reader bytes =
    (rest : List ℕ) → text_behind reader.read reader.line_feeds (reader.line ++ rest) ≡ read_as form (bytes ++ rest)

-- A reader was fed a piece: it stands for what it stood for and the piece, whose line feeds are counted.
pub record IsFed (before : Reader) (piece : List ℕ) (after : Reader) : Type 0 where
  pub stands : (form : Form) (bytes : List ℕ) → StandsFor form before bytes → StandsFor form after (bytes ++ piece)
  pub counted : after.line_feeds ≡ before.line_feeds + count_by is_line_feed piece
