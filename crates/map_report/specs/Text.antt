-- The text of a report.
use Rattle.std.specs.Prelude.{ℕ, List, [], ◌∷◌, ◌++◌, length, Option, Some, None, codes, decimal, if◌then◌else◌}
use Rattle.std.specs.List.{flat_map}
use Rattle.hex.specs.Hex.{encode_lower}
use Rattle.map_types.specs.declared.attr.Shape.{Shape}
use Rattle.map_types.specs.declared.refusal.Errno.{Errno}
use Rattle.map_types.specs.declared.reply.Reply.{Reply}
use Rattle.map_types.specs.declared.reply.Reply.TheVariants.{Done, Value, Refused, Batch, Count}
use Rattle.map_script.specs.Canonical.{kind_name}
use Rattle.map_script.specs.declared.script.Script.{Script}
use Rattle.map_report.specs.declared.record.Options.{Options}
use Rattle.map_report.specs.declared.record.RunRecord.{RunRecord}
use Rattle.map_report.specs.Dump.{dump_lines}
use Rattle.map_report.specs.History.{history_lines}
use Rattle.map_report.specs.Words.{errno_name, number_text, numbered}

-- a word, and then `KIND capacity N elements N buckets N`
abbrev pub shape_line : List ℕ → Shape → List ℕ
shape_line word shape =
    word ++ kind_name shape.kind ++ (codes " capacity" ++ number_text shape.capacity)
    ++ (codes " elements" ++ number_text shape.elements) ++ (codes " buckets" ++ number_text shape.buckets)

-- `map KIND capacity N elements N buckets N`
abbrev pub map_line : Shape → List ℕ
map_line shape = shape_line (codes "map ") shape

-- `ok`, or the error at which a batch stopped
abbrev pub stop_name : Option Errno → List ℕ
stop_name None = codes "ok"
stop_name (Some errno) = errno_name errno

abbrev pub pair_text : List ℕ × List ℕ → List ℕ
pair_text pair = codes " " ++ encode_lower pair.0 ++ codes "=" ++ encode_lower pair.1

abbrev pub reply_text : Reply → List ℕ
reply_text Done = codes "ok"
reply_text (Value bytes) = codes "ok " ++ encode_lower bytes
reply_text (Refused errno) = errno_name errno
reply_text (Batch stop taken next) =
    stop_name stop ++ codes " taken " ++ decimal (length taken) ++ codes " next " ++ decimal next ++ flat_map pair_text taken
reply_text (Count stop done) = stop_name stop ++ codes " done " ++ decimal done

-- a reply with its number
abbrev pub reply_line : ℕ → Reply → List ℕ
reply_line number reply = decimal number ++ codes " " ++ reply_text reply

-- What is printed of a run: a line for the map, one for each reply, numbered from 1, what happened and what the map holds
-- where that is asked for, and `end`. All but the last line:
abbrev pub told_lines : Script → RunRecord → Options → List (List ℕ)
told_lines script kept options =
    map_line script.shape ∷ numbered (λ number reply. reply_line number reply ∷ []) 1 kept.replies
    ++ (if options.history then history_lines script.version kept else [])
    ++ (if options.dump then dump_lines script.shape kept.finals else [])

abbrev pub report_lines : Script → RunRecord → Options → List (List ℕ)
report_lines script kept options = told_lines script kept options ++ codes "end" ∷ []

-- each line is ended by a line feed
abbrev pub ended : List ℕ → List ℕ
ended line = line ++ codes "\n"

unfoldable pub report : Script → RunRecord → Options → List ℕ
report script kept options = flat_map ended (report_lines script kept options)
