-- A script without its target, with the calls that were read so far.
use Rattle.std.specs.Prelude.{◌≡◌, ℕ, ◌≤◌, List, length, None, Result, Ok}
use Rattle.map_types.specs.Creation.{IsShape}
use Rattle.map_types.specs.declared.attr.Shape.{Shape}
use Rattle.map_types.specs.declared.call.Call.{Call}
use Rattle.map_script.specs.declared.refusal.ScriptRefusal.{ScriptRefusal}
use Rattle.map_script.specs.declared.script.Script.{Script}
use Rattle.map_script.specs.Grammar.{reply_room}
use Rattle.map_script.specs.Lines.{Line}
use Rattle.map_script.specs.Places.{◌>>=◌}
use Rattle.map_script.specs.Reading.{body_with, body_from, script_of}

-- the same script, with the calls and cuts of further lines
abbrev pub calls_of : Script → List Line → Result Script ScriptRefusal
calls_of script lines = do
  body ← body_from script.version script.shape (body_with script.calls script.cuts) lines
  Ok (script_of script.version script.attr script.shape body.calls body.cuts None)

-- its calls are on a map that can be created, and are within the limits: their replies may have so many bytes
pub record AreWithin (shape : Shape) (calls : List Call) (room : ℕ) : Type 0 where
  pub created : IsShape shape
  pub replies : room ≡ reply_room shape calls
  pub fits : room ≤ 67108864
  pub few : length calls ≤ 200000
