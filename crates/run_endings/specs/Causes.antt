-- What the status of a run tells of its input.
use Rattle.std.specs.Prelude.{◌≡◌, ℕ, List, Option, Err, IsTrue, MatchBool}
use Rattle.map_script.specs.declared.refusal.Cause.{Cause}
use Rattle.map_script.specs.declared.refusal.ScriptRefusal.TheVariants.{Fault}
use Rattle.map_script.specs.declared.script.Form.TheVariants.{Calls}
use Rattle.map_script.specs.Reading.{read_as}
use Rattle.run_endings.specs.Divided.{is_divided, script_part}
use Rattle.run_endings.specs.Finish.{IsInput, form_of, judges}
use Rattle.run_words.specs.declared.words.Mode.{Mode}

-- An input was read to its end, and what it is read as in a mode is a fault. Where a report is judged, a line divides the input, and what
-- stands before it is read as a fault. The input is what was left where the source tells that; of another source only that some text is
-- such.
pub record IsFaulty (mode : Mode) (before after : Option (List ℕ)) : Type 0 where
  pub input : List ℕ
  pub is_input : IsInput before after input
  pub line : ℕ
  pub cause : Cause
  pub faulty : MatchBool (judges mode) (IsTrue (is_divided input) × (read_as Calls (script_part input) ≡ Err (Fault line cause))) (read_as (form_of mode) input ≡ Err (Fault line cause))
