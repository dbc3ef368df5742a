-- A script of form Copy, with the calls that were read so far.
use Rattle.std.specs.Prelude.{ℕ, List, [], ◌∷◌, Option, None, Some, Result, Ok, Err, if◌then◌else◌}
use Rattle.map_types.specs.Creation.{creation}
use Rattle.map_script.specs.declared.refusal.Cause.TheVariants.{Copier}
use Rattle.map_script.specs.declared.refusal.Cause.TheVariants as causes
use Rattle.map_script.specs.declared.refusal.ScriptRefusal.{ScriptRefusal}
use Rattle.map_script.specs.declared.refusal.ScriptRefusal.TheVariants.{Fault}
use Rattle.map_script.specs.declared.script.Script.{Script}
use Rattle.map_script.specs.declared.script.Target.{Target}
use Rattle.map_script.specs.Grammar.{target_line}
use Rattle.map_script.specs.Lines.{Line}
use Rattle.map_script.specs.Places.{◌>>=◌}
use Rattle.map_script.specs.Reading.{at_line, or_create, body_with, phase_begins, copied_from, target_with, copy_of}

-- the same calls and cuts with those of further lines, and the target
abbrev pub copied_of : Script → Target → List Line → Result Script ScriptRefusal
copied_of script target lines = do
  body ← copied_from script.version script.shape (body_with script.calls script.cuts) lines
  Ok (copy_of script.version script.attr script.shape body.calls body.cuts target)

-- the target line, and the lines behind it
abbrev pub target_on : Script → ℕ → List Line → Result Script ScriptRefusal
target_on script end [] = Err (Fault end causes.Target)
target_on script end (line ∷ lines) = do
  asked ← at_line line (target_line script.attr)
  made ← or_create (creation asked.0)
  copied_of script (target_with asked.0 made asked.1) lines

-- Before lines, a call of CPU 0 may have been met in the phase that lasts: at the line with this number. Where none of the lines
-- begins a phase that phase is the last one, and the call is the fault.
abbrev pub unless_held : {A : Type 0} → Option ℕ → List Line → Result A ScriptRefusal → Result A ScriptRefusal
unless_held None lines read = read
unless_held (Some number) lines read = if phase_begins lines then read else Err (Fault number Copier)
