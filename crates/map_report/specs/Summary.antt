-- The summary of a run: how many calls ended how, how many elements were evicted, and how many are present.
use Rattle.std.specs.Prelude.{ℕ, ◌==◌, Bool, true, false, List, [], ◌∷◌, ◌++◌, length, map, Option, Some, None, codes, count_by, sum_by, if◌then◌else◌}
use Rattle.std.specs.List.{flat_map}
use Rattle.map_types.specs.declared.refusal.Errno.{Errno}
use Rattle.map_types.specs.declared.refusal.Errno.TheVariants.{Enoent, E2big, Enomem, Eexist, Einval, Enospc}
use Rattle.map_types.specs.declared.reply.Reply.{Reply}
use Rattle.map_types.specs.Replies.{error_of}
use Rattle.map_script.specs.declared.script.Script.{Script}
use Rattle.place_words.specs.declared.bucket_part.BucketPart.TheVariants.{Evict}
use Rattle.place_words.specs.declared.bucket_part.Seen.TheVariants.{Removed}
use Rattle.place_words.specs.declared.history.LockHistory.{LockHistory}
use Rattle.place_words.specs.declared.history.Part.{Part}
use Rattle.place_words.specs.declared.history.Part.TheVariants as parts
use Rattle.map_report.specs.declared.record.Options.{Options}
use Rattle.map_report.specs.declared.record.RunRecord.{RunRecord}
use Rattle.map_report.specs.Dump.{dump_lines}
use Rattle.map_report.specs.History.{history_lines}
use Rattle.map_report.specs.Text.{ended, map_line, stop_name}
use Rattle.map_report.specs.Words.{number_text}

-- the kernel's number of an error, and 0 for none
abbrev pub error_number : Option Errno → ℕ
error_number None = 0
error_number (Some Enoent) = 2
error_number (Some E2big) = 7
error_number (Some Enomem) = 12
error_number (Some Eexist) = 17
error_number (Some Einval) = 22
error_number (Some Enospc) = 28

-- the reply names this error, or none
abbrev pub names : Option Errno → Reply → Bool
names error reply = error_number (error_of reply) == error_number error

-- a word and a number
abbrev pub total_line : List ℕ → ℕ → List ℕ
total_line word total = word ++ number_text total

-- `ok` or an error's name, and how many replies name it
abbrev pub outcome_line : List Reply → Option Errno → List ℕ
outcome_line replies error = total_line (stop_name error) (count_by (names error) replies)

-- none and each error, in the order of their lines
unfoldable pub outcomes : List (Option Errno)
outcomes = None ∷ Some Einval ∷ Some Enoent ∷ Some Eexist ∷ Some E2big ∷ Some Enomem ∷ Some Enospc ∷ []

-- a turn of a bucket that took an element out for a key that an update brings
abbrev pub evicts : Part → Bool
evicts (parts.Bucket (Evict element Removed)) = true
evicts part = false

abbrev pub evicted_under : LockHistory → ℕ
evicted_under history = count_by (λ entry. evicts entry.part) history.entries

abbrev pub evicted : List LockHistory → ℕ
evicted histories = sum_by evicted_under histories

-- the elements in buckets at the end
abbrev pub present : {A : Type 0} → List (List A) → ℕ
present buckets = sum_by length buckets

abbrev pub element_lines : RunRecord → List (List ℕ)
element_lines kept =
    total_line (codes "evicted") (evicted kept.histories) ∷ total_line (codes "present") (present kept.finals.buckets) ∷ []

unfoldable pub summary_lines : Script → RunRecord → List (List ℕ)
summary_lines script kept =
    total_line (codes "calls") (length script.calls) ∷ map (outcome_line kept.replies) outcomes ++ element_lines kept

-- What is printed of a run in place of its replies.
unfoldable pub summary : Script → RunRecord → Options → List ℕ
summary script kept options =
    flat_map ended (map_line script.shape ∷ summary_lines script kept
    ++ (if options.history then history_lines script.version kept else [])
    ++ (if options.dump then dump_lines script.shape kept.finals else [])
    ++ codes "end" ∷ [])
