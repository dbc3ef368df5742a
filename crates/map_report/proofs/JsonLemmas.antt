-- The values that are written as JSON, and what they are seen as.
use Rattle.map_report.specs.Text.{map_line}
use Rattle.map_report.specs.History.{history_lines}
use Rattle.std.proofs.Common.{◌≡◌, ℕ, List, [], ◌∷◌, map, Bool, true, false, Option, Some, None, String, Vec, Global, string_bytes, refl, ap, ◌∙◌, rules}
use Rattle.std.specs.List.{flat_map}
use Rattle.std.specs.Prelude.{codes}
use Rattle.serde_json.specs.Data.{string, array, Members, member, put}
use Rattle.serde_json.specs.View.{view, items_of, items_view}
use Rattle.serde_json.specs.Written.{has_float, items_have_float, members_have_float}
use Rattle.serde_json.specs.declared.value.Value.{Value, Array, the_lemmas}
use Rattle.serde_json.specs.declared.value.Value as values
use Rattle.serde_json.proofs.Views.{view-Array}
use Rattle.map_script.specs.declared.script.GenSpec.{GenSpec}
use Rattle.map_script.specs.declared.script.Script.{Script}
use Rattle.map_report.specs.declared.record.Options.{Options}
use Rattle.map_report.specs.declared.record.RunRecord.{RunRecord}
use Rattle.map_report.specs.Json.{texts, asked, answers, json_object}

pub view-String : (s : String Global) → view (values.String s) ≡ string (string_bytes s)
view-String s = search (rules, the_lemmas)

items_are : (lines : List (String Global)) → items_view (map values.String lines) ≡ items_of (map string (map string_bytes lines))
items_are [] = refl
items_are (s ∷ lines) = rw (view-String s, items_are lines)

-- an array of the values of texts
pub array_is : (v : Vec Value Global) (lines : List (String Global)) → v.items ≡ map values.String lines → view (Array v) ≡ texts (map string_bytes lines)
array_is v lines is = view-Array v ∙ rw is (ap array (items_are lines))

-- each line is one text
pub each_line : (lines : List (List ℕ)) → flat_map (λ line. line ∷ []) lines ≡ lines
each_line [] = refl
each_line (line ∷ lines) = ap (λ rest. line ∷ rest) (each_line lines)

no_floats : (lines : List (List ℕ)) → items_have_float (items_of (map string lines)) ≡ false
no_floats [] = refl
no_floats (line ∷ lines) = no_floats lines

asked_without : (wanted : Bool) (name : List ℕ) (lines : List (List ℕ)) (others : Members) → members_have_float others ≡ false → members_have_float (asked wanted name lines others) ≡ false
asked_without true name lines others e = rw (no_floats lines) e
asked_without false name lines others e = e

answers_without : (script : Script) (kept : RunRecord) (spec : Option GenSpec) → members_have_float (answers script kept spec) ≡ false
answers_without script kept None = rw (no_floats _) refl
answers_without script kept (Some spec) = rw (no_floats _) refl

pub object_without : (script : Script) (kept : RunRecord) (options : Options) → has_float (json_object script kept options) ≡ false
object_without script kept options =
    asked_without options.dump _ _ _ (asked_without options.history (codes "history") (history_lines script.version kept) (member (codes "map") (string (map_line script.shape)) (answers script kept script.spec)) (answers_without script kept script.spec))

-- the map's line comes before the answers
pub map_is_first : (script : Script) (kept : RunRecord) (spec : Option GenSpec) (line : List ℕ) → put (codes "map") (string line) (answers script kept spec) ≡ member (codes "map") (string line) (answers script kept spec)
map_is_first script kept None line = refl
map_is_first script kept (Some spec) line = refl
