-- Reading the lines of a script of form Copy, one after another.
use Rattle.std.specs.Prelude.{◌≡◌, ℕ, ◌==◌, List, [], ◌∷◌, ◌++◌, Option, None, Some, Result, Ok, Err, if◌then◌else◌}
use Rattle.map_types.specs.declared.attr.Shape.{Shape}
use Rattle.map_types.specs.declared.call.Call.{Call}
use Rattle.map_script.specs.declared.body.Body.{Body}
use Rattle.map_script.specs.declared.body.BodyLine.{BodyLine}
use Rattle.map_script.specs.declared.body.BodyLine.TheVariants as says
use Rattle.map_script.specs.declared.copied.NumberedLine.{NumberedLine}
use Rattle.map_script.specs.declared.copied.Stop.{Stop}
use Rattle.map_script.specs.declared.copied.Stop.TheVariants.{Refused, Either}
use Rattle.map_script.specs.declared.refusal.Cause.{Cause}
use Rattle.map_script.specs.declared.refusal.ScriptRefusal.{ScriptRefusal}
use Rattle.map_script.specs.declared.refusal.ScriptRefusal.TheVariants.{Fault, Create, NoMemory}
use Rattle.map_script.specs.declared.stage.EitherFault.{EitherFault}
use Rattle.map_script.specs.Lines.{Line}
use Rattle.map_script.specs.Places.{Tokens}
use Rattle.map_script.specs.Reading.{of_line, begins_phase, copied_from}
use Rattle.map_script.specs.CopySoFar.{unless_held}

-- The line of the first call of CPU 0 in the phase that lasts, behind a call more.
abbrev pub held_call : Option ℕ → ℕ → Call → Option ℕ
held_call (Some copier) number call = Some copier
held_call None number call = if call.cpu == 0 then Some number else None

-- The same behind any line more: where a phase begins there is none yet.
abbrev pub held_by : Option ℕ → ℕ → BodyLine → Option ℕ
held_by held number says.Phase = None
held_by held number (says.Call call) = held_call held number call

abbrev pub held_behind : Option ℕ → NumberedLine → Option ℕ
held_behind held next = held_by held next.number next.says

abbrev pub either_fault : ℕ → ℕ → Cause → EitherFault
either_fault copier line cause = record { copier = copier; line = line; cause = cause }

-- What a line with a cause comes to. Where a call of CPU 0 was met before it in its phase, the lines behind them tell which of the
-- two is the fault: this one too, where it begins a phase.
abbrev pub stop_at : Option ℕ → Line → Cause → Stop
stop_at None line cause = Refused (Fault line.number cause)
stop_at (Some copier) line cause =
    if begins_phase line then Refused (Fault line.number cause) else Either (either_fault copier line.number cause)

-- the first of some lines, with its number, is read as this, and the rest stands behind it
pub record FirstNumbered (read : Tokens → Result BodyLine Cause) (lines : List Line) (next : NumberedLine) (rest : List Line) : Type 0 where
  pub line : Line
  pub first : lines ≡ line ∷ rest
  pub number : next.number ≡ line.number
  pub reads : of_line line read ≡ Ok next.says

-- the first of some lines has a cause, and stops the reading
pub record FirstStops (read : Tokens → Result BodyLine Cause) (held : Option ℕ) (lines : List Line) (stop : Stop) (rest : List Line) : Type 0 where
  pub line : Line
  pub first : lines ≡ line ∷ rest
  pub cause : Cause
  pub reads : of_line line read ≡ Err cause
  pub stops : stop ≡ stop_at held line cause

-- what the first of some lines is read as, or that there is none, or what stops the reading there, unless memory ran out
abbrev pub IsNextCopied : (Tokens → Result BodyLine Cause) → Option ℕ → List Line → List Line → Result (Option NumberedLine) Stop → Type 0
IsNextCopied read held lines rest (Ok (Some next)) = FirstNumbered read lines next rest
IsNextCopied read held lines rest (Ok None) = lines ≡ []
IsNextCopied read held lines rest (Err (Refused NoMemory)) = Unit {0}
IsNextCopied read held lines rest (Err (Refused (Fault line cause))) = FirstStops read held lines (Refused (Fault line cause)) rest
IsNextCopied read held lines rest (Err (Refused (Create refusal))) = FirstStops read held lines (Refused (Create refusal)) rest
IsNextCopied read held lines rest (Err (Either fault)) = FirstStops read held lines (Either fault) rest

-- what lines say behind what the lines before them say, where a call of CPU 0 may have been met in the phase that lasts
abbrev pub copied_behind : ℕ → Shape → Option ℕ → Body → List Line → Result Body ScriptRefusal
copied_behind version shape held body lines = unless_held held lines (copied_from version shape body lines)

-- Lines were read, up to those that are left. The lines behind them are read on from the calls and cuts that were found, and from
-- the call of CPU 0 that is held back; or it is told what stopped the reading, unless memory ran out.
abbrev pub ReadsCopied : ℕ → Shape → (List Line → Result Body ScriptRefusal) → Body → List Line → Result (ℕ × Option ℕ) Stop → Type 0
ReadsCopied version shape read found rest (Ok answer) = (more : List Line) → read more ≡ copied_behind version shape answer.1 found more
ReadsCopied version shape read found rest (Err (Refused (Fault line cause))) = (more : List Line) → read more ≡ Err (Fault line cause)
ReadsCopied version shape read found rest (Err (Refused (Create refusal))) = (more : List Line) → read more ≡ Err (Create refusal)
ReadsCopied version shape read found rest (Err (Refused NoMemory)) = Unit {0}
ReadsCopied version shape read found rest (Err (Either fault)) =
    (more : List Line) → read more ≡ unless_held (Some fault.copier) (rest ++ more) (Err (Fault fault.line fault.cause))
