-- A report as JSON.
use Rattle.std.specs.Prelude.{ℕ, List, ◌++◌, map, Bool, Option, None, Some, codes, if◌then◌else◌}
use Rattle.serde_json.specs.Data.{Data, string, array, object, Members, no_members, member}
use Rattle.serde_json.specs.View.{items_of}
use Rattle.serde_json.specs.Written.{compact_text}
use Rattle.map_script.specs.declared.script.GenSpec.{GenSpec}
use Rattle.map_script.specs.declared.script.Script.{Script}
use Rattle.map_report.specs.declared.record.Options.{Options}
use Rattle.map_report.specs.declared.record.RunRecord.{RunRecord}
use Rattle.map_report.specs.Dump.{dump_lines}
use Rattle.map_report.specs.History.{history_lines}
use Rattle.map_report.specs.Summary.{summary_lines}
use Rattle.map_report.specs.Text.{map_line, reply_text}

-- an array of texts
abbrev pub texts : List (List ℕ) → Data
texts lines = array (items_of (map string lines))

-- a member, where it is asked for, and the others behind it
abbrev pub asked : Bool → List ℕ → List (List ℕ) → Members → Members
asked wanted name lines others = if wanted then member name (texts lines) others else others

-- what the calls answered: the replies, or their summary where the calls are generated
abbrev pub answers : Script → RunRecord → Option GenSpec → Members
answers script kept None = member (codes "replies") (texts (map reply_text kept.replies)) no_members
answers script kept (Some spec) = member (codes "summary") (texts (summary_lines script kept)) no_members

-- The lines of a report, by their kind.
abbrev pub json_object : Script → RunRecord → Options → Data
json_object script kept options = object
    (asked options.dump (codes "dump") (dump_lines script.shape kept.finals)
    (asked options.history (codes "history") (history_lines script.version kept)
    (member (codes "map") (string (map_line script.shape))
    (answers script kept script.spec))))

-- one object with no blank between its parts, and a line feed
unfoldable pub json : Script → RunRecord → Options → List ℕ
json script kept options = compact_text (json_object script kept options) ++ codes "\n"
