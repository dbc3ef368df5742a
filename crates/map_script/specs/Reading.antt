-- What a text is read as: a script, or the first fault, or a map that can't be created.
use Rattle.std.specs.Prelude.{◌≡◌, ℕ, ◌+◌, ◌==◌, ◌&&◌, not, nat_lt, nat_le, Bool, true, false, List, [], ◌∷◌, ◌++◌, length, Option, Some, None, Result, Ok, Err, if◌then◌else◌, codes}
use Rattle.std.specs.List.{list_any}
use Rattle.map_types.specs.Creation.{creation}
use Rattle.map_types.specs.declared.attr.CreateAttr.{CreateAttr}
use Rattle.map_types.specs.declared.attr.Shape.{Shape}
use Rattle.map_types.specs.declared.call.Call.{Call}
use Rattle.map_types.specs.declared.refusal.CreateRefusal.{CreateRefusal}
use Rattle.map_script.specs.declared.body.Body.{Body}
use Rattle.map_script.specs.declared.body.BodyLine.{BodyLine}
use Rattle.map_script.specs.declared.body.BodyLine.TheVariants as says
use Rattle.map_script.specs.declared.refusal.Cause.{Cause}
use Rattle.map_script.specs.declared.refusal.Cause.TheVariants.{Version, Map, Gen, Calls, Room, Phases, Copier}
use Rattle.map_script.specs.declared.refusal.Cause.TheVariants as causes
use Rattle.map_script.specs.declared.refusal.ScriptRefusal.{ScriptRefusal}
use Rattle.map_script.specs.declared.refusal.ScriptRefusal.TheVariants.{Fault, Create, NoMemory}
use Rattle.map_script.specs.declared.script.Form.{Form}
use Rattle.map_script.specs.declared.script.Form.TheVariants as forms
use Rattle.map_script.specs.declared.script.GenSpec.{GenSpec}
use Rattle.map_script.specs.declared.script.Script.{Script}
use Rattle.map_script.specs.declared.script.Target.{Target}
use Rattle.map_script.specs.Grammar.{version_line, map_line, gen_line, target_line, call_line, starts_phase, phase_line, reply_bytes, reply_room}
use Rattle.map_script.specs.Lines.{Line, tokens_said, lines_of, end_number}
use Rattle.map_script.specs.Places.{◌>>=◌, Tokens, is_next}

-- a cause, at a line
abbrev pub or_fault : {A : Type 0} → ℕ → Result A Cause → Result A ScriptRefusal
or_fault number (Ok found) = Ok found
or_fault number (Err cause) = Err (Fault number cause)

-- what a line is read as
abbrev pub of_line : {A : Type 0} → Line → (Tokens → Result A Cause) → Result A Cause
of_line line reading = tokens_said line.says >>= reading

-- the same, where a cause is a fault of the line
abbrev pub at_line : {A : Type 0} → Line → (Tokens → Result A Cause) → Result A ScriptRefusal
at_line line reading = or_fault line.number (of_line line reading)

abbrev pub or_create : {A : Type 0} → Result A CreateRefusal → Result A ScriptRefusal
or_create (Ok found) = Ok found
or_create (Err refusal) = Err (Create refusal)

-- a call that is well formed, is one of the first 200,000, and with which the replies have at most 67,108,864 bytes
abbrev pub call_within : ℕ → Shape → ℕ → ℕ → Tokens → Result Call Cause
call_within version shape count room tokens = do
  call ← call_line version shape tokens
  if nat_lt count 200000
      then (if nat_le (room + reply_bytes shape call.verb) 67108864 then Ok call else Err Room)
      else Err Calls

-- a `phase` line that is well formed, behind at most 62 others: of 64 phases the first has none
abbrev pub phase_within : ℕ → Tokens → Result (Unit {0}) Cause
phase_within cuts tokens = do
  started ← phase_line tokens
  if nat_lt cuts 63 then Ok started else Err Phases

-- a line behind the map line, behind so many calls whose replies may have so many bytes, and so many `phase` lines: it starts
-- a phase, or it is a call
abbrev pub body_line : ℕ → Shape → ℕ → ℕ → ℕ → Tokens → Result BodyLine Cause
body_line version shape count room cuts tokens =
    if starts_phase version tokens
    then (phase_within cuts tokens >>= λ started. Ok says.Phase)
    else (call_within version shape count room tokens >>= λ call. Ok (says.Call call))

-- calls, and how many of them stand before each `phase` line
abbrev pub body_with : List Call → List ℕ → Body
body_with calls cuts = record { calls = calls; cuts = cuts }

abbrev pub no_body : Body
no_body = body_with [] []

-- what a line more says: another call, or a cut behind the calls so far
abbrev pub with_next : Body → BodyLine → Body
with_next body (says.Call call) = body_with (body.calls ++ call ∷ []) body.cuts
with_next body says.Phase = body_with body.calls (body.cuts ++ length body.calls ∷ [])

-- a line, behind what the lines before it say
abbrev pub line_behind : ℕ → Shape → Body → Tokens → Result BodyLine Cause
line_behind version shape body tokens =
    body_line version shape (length body.calls) (reply_room shape body.calls) (length body.cuts) tokens

-- what lines say, behind what those before them say
abbrev pub body_from : ℕ → Shape → Body → List Line → Result Body ScriptRefusal
body_from version shape body [] = Ok body
body_from version shape body (line ∷ lines) = do
  next ← at_line line (line_behind version shape body)
  body_from version shape (with_next body next) lines

-- In a script of version 2 a line whose first token is `phase` begins a phase, also where something is wrong with the line.
abbrev pub begins_phase : Line → Bool
begins_phase line = is_next (codes "phase") line.says.tokens

-- one of these lines begins a phase
abbrev pub phase_begins : List Line → Bool
phase_begins lines = list_any begins_phase lines

-- In the last phase of a script of form Copy, CPU 0 copies. So it has no call there. A phase is the last where no line behind
-- begins one.
abbrev pub unless_copier : List Line → BodyLine → Result BodyLine Cause
unless_copier behind (says.Call call) = if call.cpu == 0 && not (phase_begins behind) then Err Copier else Ok (says.Call call)
unless_copier behind says.Phase = Ok says.Phase

-- what lines of such a script say, behind what those before them say
abbrev pub copied_from : ℕ → Shape → Body → List Line → Result Body ScriptRefusal
copied_from version shape body [] = Ok body
copied_from version shape body (line ∷ lines) = do
  next ← at_line line (λ tokens. line_behind version shape body tokens >>= unless_copier lines)
  copied_from version shape (with_next body next) lines

-- the one generator line, behind which no line stands
abbrev pub spec_of : Shape → ℕ → List Line → Result GenSpec ScriptRefusal
spec_of shape end [] = Err (Fault end Gen)
spec_of shape end (line ∷ []) = at_line line (gen_line shape)
spec_of shape end (line ∷ next ∷ lines) = do
  spec ← at_line line (gen_line shape)
  at_line next (λ tokens. Err Gen)

abbrev pub script_of : ℕ → CreateAttr → Shape → List Call → List ℕ → Option GenSpec → Script
script_of version attr shape calls cuts spec =
    record { version = version; attr = attr; shape = shape; calls = calls; cuts = cuts; spec = spec; target = None }

abbrev pub target_with : CreateAttr → Shape → ℕ → Target
target_with attr shape count = record { attr = attr; shape = shape; count = count }

-- a script of form Copy
abbrev pub copy_of : ℕ → CreateAttr → Shape → List Call → List ℕ → Target → Script
copy_of version attr shape calls cuts target =
    record { version = version; attr = attr; shape = shape; calls = calls; cuts = cuts; spec = None; target = Some target }

-- The target line, and what stands behind it. Where the target can't be created no later line is judged.
unfoldable pub target_of : ℕ → CreateAttr → Shape → ℕ → List Line → Result Script ScriptRefusal
target_of version attr shape end [] = Err (Fault end causes.Target)
target_of version attr shape end (line ∷ lines) = do
  asked ← at_line line (target_line attr)
  made ← or_create (creation asked.0)
  body ← copied_from version shape no_body lines
  Ok (copy_of version attr shape body.calls body.cuts (target_with asked.0 made asked.1))

-- what stands behind the map line
unfoldable pub body_of : Form → ℕ → CreateAttr → Shape → ℕ → List Line → Result Script ScriptRefusal
body_of forms.Calls version attr shape end lines = do
  body ← body_from version shape no_body lines
  Ok (script_of version attr shape body.calls body.cuts None)
body_of forms.Generator version attr shape end lines = do
  spec ← spec_of shape end lines
  Ok (script_of version attr shape [] [] (Some spec))
body_of forms.Copy version attr shape end lines = target_of version attr shape end lines

-- the map line, and what stands behind it. Where the map can't be created no later line is judged.
unfoldable pub map_of : Form → ℕ → ℕ → List Line → Result Script ScriptRefusal
map_of form version end [] = Err (Fault end Map)
map_of form version end (line ∷ lines) = do
  attr ← at_line line map_line
  shape ← or_create (creation attr)
  body_of form version attr shape end lines

-- the version line, and what stands behind it
unfoldable pub version_of : Form → ℕ → List Line → Result Script ScriptRefusal
version_of form end [] = Err (Fault end Version)
version_of form end (line ∷ lines) = do
  version ← at_line line (version_line form)
  map_of form version end lines

-- what a text is read as, which is never NoMemory
unfoldable pub read_as : Form → List ℕ → Result Script ScriptRefusal
read_as form text = version_of form (end_number text) (lines_of text)

-- the form that gives scripts with a target
abbrev pub is_copy : Form → Bool
is_copy forms.Calls = false
is_copy forms.Generator = false
is_copy forms.Copy = true

-- some text is read as this script in this form
abbrev pub IsReadAs : Form → Script → Type 0
IsReadAs form script = (text : List ℕ) × (read_as form text ≡ Ok script)

-- what was returned is what was to be read, unless memory ran out
abbrev pub IsReading : {A : Type 0} → Result A ScriptRefusal → Result A ScriptRefusal → Type 0
IsReading (Ok found) read = read ≡ Ok found
IsReading (Err (Fault line cause)) read = read ≡ Err (Fault line cause)
IsReading (Err (Create refusal)) read = read ≡ Err (Create refusal)
IsReading (Err NoMemory) read = Unit {0}
