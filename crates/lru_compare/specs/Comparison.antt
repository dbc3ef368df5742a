-- What is printed of a script's run beside its run with strict recency: the capacity, how many lookups there were and how many of
-- them found their key, how many elements or pairs were evicted, and how many calls were answered alike.
use Rattle.std.specs.Prelude.{ℕ, ◌==◌, ◌&&◌, Bool, true, false, List, ◌++◌, Some, codes, bytes_eq, count_by, zip}
use Rattle.map_types.specs.declared.call.Call.{Call}
use Rattle.map_types.specs.declared.call.Verb.{Verb}
use Rattle.map_types.specs.declared.call.Verb.TheVariants.{Lookup}
use Rattle.map_types.specs.declared.refusal.Errno.{Errno}
use Rattle.map_types.specs.declared.reply.Reply.{Reply}
use Rattle.map_types.specs.declared.reply.Reply.TheVariants.{Done, Value, Refused, Batch, Count}
use Rattle.map_script.specs.declared.script.Script.{Script}
use Rattle.map_report.specs.declared.record.RunRecord.{RunRecord}
use Rattle.map_report.specs.Summary.{error_number, evicted, total_line}
use Rattle.map_report.specs.Text.{ended}
use Rattle.map_report.specs.Words.{number_text}
use Rattle.lru_compare.specs.declared.run.StrictOut.{StrictOut}

-- a lookup of either side; a take is none
abbrev pub is_lookup : Verb → Bool
is_lookup (Lookup side key) = true
is_lookup other = false

abbrev pub lookups : List Call → ℕ
lookups calls = count_by (λ call. is_lookup call.verb) calls

abbrev pub is_value : Reply → Bool
is_value (Value bytes) = true
is_value other = false

-- a lookup that answered a value
abbrev pub is_hit : Call × Reply → Bool
is_hit answered = is_lookup answered.0.verb && is_value answered.1

-- how many lookups did
abbrev pub hits : List Call → List Reply → ℕ
hits calls replies = count_by is_hit (zip calls replies)

-- the reply gives no more than that the call is done; it gives this value; it refuses the call with this error
abbrev pub is_done : Reply → Bool
is_done Done = true
is_done other = false

abbrev pub gives : List ℕ → Reply → Bool
gives value (Value other) = bytes_eq value other
gives value other = false

abbrev pub refuses : Errno → Reply → Bool
refuses errno (Refused other) = error_number (Some errno) == error_number (Some other)
refuses errno other = false

-- Two replies are equal. Lookups, updates, deletes and takes have no other replies than the first three.
abbrev pub are_equal : Reply → Reply → Bool
are_equal Done other = is_done other
are_equal (Value value) other = gives value other
are_equal (Refused errno) other = refuses errno other
are_equal (Batch stop taken next) other = false
are_equal (Count stop done) other = false

-- how many calls have equal replies
abbrev pub same : List Reply → List Reply → ℕ
same replies others = count_by (λ pair. are_equal pair.0 pair.1) (zip replies others)

-- a word and a number; which map, and how many lookups found their key in it, and how many it evicted
unfoldable pub count_text : List ℕ → ℕ → List ℕ
count_text word count = ended (total_line word count)

unfoldable pub map_text : List ℕ → ℕ → ℕ → List ℕ
map_text word found evicted = ended (word ++ codes " hits" ++ number_text found ++ codes " evicted" ++ number_text evicted)

-- What is printed of a script's run and of what its run with strict recency answered.
unfoldable pub comparison : Script → RunRecord → StrictOut → List ℕ
comparison script kept strict =
    count_text (codes "compare capacity") script.shape.capacity
    ++ count_text (codes "lookups") (lookups script.calls)
    ++ map_text (codes "map") (hits script.calls kept.replies) (evicted kept.histories)
    ++ map_text (codes "strict") (hits script.calls strict.replies) strict.evicted
    ++ count_text (codes "same") (same kept.replies strict.replies)
    ++ codes "end\n"
