-- The text of a copy: the report of the source, and behind it what came of the copy, and what the target has.
use Rattle.std.specs.Prelude.{ℕ, List, [], ◌∷◌, ◌++◌, length, Option, None, Some, is_some, codes, sum_by, if◌then◌else◌}
use Rattle.std.specs.List.{flat_map}
use Rattle.map_types.specs.declared.attr.Shape.{Shape}
use Rattle.map_types.specs.declared.refusal.Errno.{Errno}
use Rattle.map_types.specs.declared.reply.Reply.{Reply}
use Rattle.map_types.specs.declared.reply.Reply.TheVariants.{Count}
use Rattle.map_types.specs.Replies.{error_of}
use Rattle.map_script.specs.declared.script.Script.{Script}
use Rattle.map_report.specs.declared.record.Options.{Options}
use Rattle.map_report.specs.declared.record.RunRecord.{RunRecord}
use Rattle.map_report.specs.Dump.{dump_lines}
use Rattle.map_report.specs.History.{history_lines}
use Rattle.map_report.specs.Summary.{total_line}
use Rattle.map_report.specs.Text.{ended, shape_line, told_lines}
use Rattle.map_report.specs.Words.{errno_name}

-- `target KIND capacity N elements N buckets N`
abbrev pub target_line : Shape → List ℕ
target_line shape = shape_line (codes "target ") shape

-- how many entries a put did, and all of them
abbrev pub done_by : Reply → ℕ
done_by (Count stop done) = done
done_by reply = 0

abbrev pub copied : List Reply → ℕ
copied puts = sum_by done_by puts

-- The error of the first put that stopped, where one did. A copy ends there.
abbrev pub stop_of : List Reply → Option Errno
stop_of [] = None
stop_of (put ∷ puts) = if is_some (error_of put) then error_of put else stop_of puts

-- `stop NAME`, and `stop -` where none did
abbrev pub stop_text : Option Errno → List ℕ
stop_text None = codes "-"
stop_text (Some errno) = errno_name errno

abbrev pub stop_line : Option Errno → List ℕ
stop_line stop = codes "stop " ++ stop_text stop

-- What came of a copy: which map the target is, how many reads of the source were made, how many entries the puts did, and the error
-- of the put that stopped.
abbrev pub outcome_lines : Shape → List Reply → List Reply → List (List ℕ)
outcome_lines shape reads puts =
    target_line shape ∷ total_line (codes "reads") (length reads) ∷ total_line (codes "copied") (copied puts)
    ∷ stop_line (stop_of puts) ∷ []

-- What happened in the target and what it holds, where that is asked for. Its calls, the puts, are a script of version 1.
abbrev pub target_lines : Shape → RunRecord → Options → List (List ℕ)
target_lines shape target options =
    (if options.history then history_lines 1 target else []) ++ (if options.dump then dump_lines shape target.finals else [])

-- What is printed of a copy: the report of the source without its last line, what came of the copy, what the target has, and `end`.
-- The replies of the target are those of the puts.
abbrev pub copy_lines : Script → RunRecord → Shape → RunRecord → List Reply → Options → List (List ℕ)
copy_lines script kept shape target reads options =
    told_lines script kept options ++ outcome_lines shape reads target.replies ++ target_lines shape target options
    ++ codes "end" ∷ []

unfoldable pub copy_text : Script → RunRecord → Shape → RunRecord → List Reply → Options → List ℕ
copy_text script kept shape target reads options = flat_map ended (copy_lines script kept shape target reads options)
