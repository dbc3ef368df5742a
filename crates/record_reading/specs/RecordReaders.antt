-- How the lines of a report are read, section by section.
use Rattle.std.specs.Prelude.{◌==◌, ◌&&◌, ℕ, suc, nat_le, List, [], ◌∷◌, length, map, Option, Some, None, Result, Ok, Err, codes, if◌then◌else◌}
use Rattle.std.specs.List.{range_with_len}
use Rattle.map_types.specs.declared.attr.Shape.{Shape}
use Rattle.map_types.specs.declared.kind.DomainId.{DomainId}
use Rattle.map_types.specs.declared.kind.DomainId.TheVariants.{Global, CpuLru}
use Rattle.map_types.specs.declared.reply.Reply.{Reply}
use Rattle.map_types.specs.Kind.{is_lru}
use Rattle.map_types.specs.Stored.{Stored}
use Rattle.place_words.specs.declared.finals.Finals.{Finals}
use Rattle.place_words.specs.declared.finals.LocalFinal.{LocalFinal}
use Rattle.place_words.specs.declared.finals.SetFinal.{SetFinal}
use Rattle.place_words.specs.declared.history.Entry.{Entry}
use Rattle.place_words.specs.declared.history.LockHistory.{LockHistory}
use Rattle.place_words.specs.declared.history.Strand.{Strand}
use Rattle.place_words.specs.declared.history.StrandStep.{StrandStep}
use Rattle.place_words.specs.Locks.{is_same_lock}
use Rattle.place_words.specs.Phases.{phase_count}
use Rattle.map_script.specs.declared.script.Script.{Script}
use Rattle.map_report.specs.declared.record.PhaseStart.{PhaseStart}
use Rattle.map_report.specs.declared.record.RunRecord.{RunRecord}
use Rattle.map_report.specs.History.{record_line}
use Rattle.map_report.specs.Record.{locks_of}
use Rattle.map_report.specs.Serial.{spare_count}
use Rattle.map_report.specs.Text.{map_line}
use Rattle.map_report.specs.Words.{lock_name}
use Rattle.record_reading.specs.Answers.{with_numbers, reply_of}
use Rattle.record_reading.specs.DumpReaders.{stored_part, freelist_section, spare_part, set_section, local_section}
use Rattle.record_reading.specs.LineReaders.{entry, lock_head, step_part, StrandHead, strand_head, marks, phase_start}
use Rattle.record_reading.specs.Readers.{◌>>=◌, whole, word_then, the_line}
use Rattle.record_reading.specs.Sections.{Line, Section, no_line, one_line, told, with_next, for_each, so_many, if_there, any_number}
use Rattle.record_shape.specs.WellShaped.{only_start, freelist_count, set_count, local_count}

-- ---- replies

abbrev pub replies_section : Script → Section (List Reply)
replies_section script = for_each (λ call. one_line (reply_of script.shape call)) (with_numbers 1 script.calls)

-- ---- histories: a lock with no entry has no line

unfoldable pub history_head : Shape → ℕ → DomainId → Line → Option ℕ
history_head shape calls lock line =
    whole (lock_head shape) line >>= (λ head. if is_same_lock head.0 lock && (nat_le 1 head.1 && nat_le 1 calls) then Some head.1 else None)

abbrev pub history_of : DomainId → Option (ℕ × List Entry) → LockHistory
history_of lock None = record { lock = lock; entries = [] }
history_of lock (Some told) = record { lock = lock; entries = told.1 }

abbrev pub history_section : Shape → ℕ → DomainId → Section LockHistory
history_section shape calls lock =
    told (history_of lock) (if_there (history_head shape calls lock) (λ count. so_many count (one_line (whole (entry shape calls lock)))))

abbrev pub histories_section : Script → Section (List LockHistory)
histories_section script = for_each (history_section script.shape (length script.calls)) (locks_of script.shape)

-- ---- the starts of phases

abbrev pub starts_section : Script → Section (List PhaseStart)
starts_section script =
    if script.version == 2 then for_each (λ phase. one_line (phase_start script.shape phase)) (range_with_len 0 (phase_count script.cuts))
    else no_line (only_start ∷ [])

-- ---- strands

abbrev pub strand_of : StrandHead × List StrandStep → Strand
strand_of read = record { phase = read.0.0; cpus = read.0.1.0; steps = read.1 }

abbrev pub steps_section : Shape → StrandHead → Section (List StrandStep)
steps_section shape head = so_many head.1.1 (one_line (whole (step_part shape)))

abbrev pub phase_read : ℕ → StrandHead → ℕ
phase_read least head = head.0

abbrev pub strands_section : Script → Section (List Strand)
strands_section script =
    told (map strand_of) (any_number (strand_head script.version script.shape (phase_count script.cuts)) (steps_section script.shape) phase_read 0)

-- ---- what the map holds

abbrev pub stored_of : Stored × Unit {0} → Stored
stored_of read = read.0

abbrev pub bucket_head : Shape → ℕ → Unit {0} → Line → Option Stored
bucket_head shape bucket _ = whole (stored_part shape bucket)

abbrev pub bucket_section : Shape → ℕ → Section (List Stored)
bucket_section shape bucket =
    told (map stored_of) (any_number (bucket_head shape bucket) (λ _. no_line tt) (λ _ _. tt) tt)

-- the names of sets: one for all CPUs, or one for each
abbrev pub set_name : Shape → ℕ → List ℕ
set_name shape number = if shape.common then lock_name Global else lock_name (CpuLru number)

abbrev pub marked_section : Shape → Section (List ℕ)
marked_section shape = if is_lru shape.kind then one_line (word_then (codes "marked") (marks shape)) else no_line []

abbrev pub Lists : Type 0
Lists = List (List Stored) × (List (List ℕ) × (List ℕ × (List SetFinal × (List LocalFinal × List ℕ))))

abbrev pub finals_of : Lists → Finals
finals_of x = record { buckets = x.0; freelists = x.1.0; spares = x.1.1.0; sets = x.1.1.1.0; locals = x.1.1.1.1.0; marked = x.1.1.1.1.1 }

abbrev pub finals_section : Shape → Section Finals
finals_section shape =
    told finals_of (with_next (for_each (bucket_section shape) (range_with_len 0 shape.buckets)) (λ _. with_next (for_each (freelist_section shape) (range_with_len 0 (freelist_count shape)))
    (λ _. with_next (for_each (λ cpu. one_line (spare_part shape cpu)) (range_with_len 0 (spare_count shape))) (λ _. with_next (for_each (λ number. set_section shape (set_name shape number)) (range_with_len 0 (set_count shape)))
    (λ _. with_next (for_each (local_section shape) (range_with_len 0 (local_count shape))) (λ _. marked_section shape))))))

-- ---- a whole report

abbrev pub Parts : Type 0
Parts = Unit {0} × (List Reply × (Unit {0} × (List LockHistory × (List PhaseStart × (List Strand × (Finals × Unit {0}))))))

abbrev pub record_of : Parts → RunRecord
record_of x = record { replies = x.1.0; histories = x.1.1.1.0; phases = x.1.1.1.1.0; strands = x.1.1.1.1.1.0; finals = x.1.1.1.1.1.1.0 }

abbrev pub record_section : Script → Section RunRecord
record_section script =
    told record_of (with_next (one_line (the_line (map_line script.shape))) (λ _. with_next (replies_section script)
    (λ _. with_next (one_line (the_line (record_line (record { number = suc script.version })))) (λ _. with_next (histories_section script) (λ _. with_next (starts_section script)
    (λ _. with_next (strands_section script) (λ _. with_next (finals_section script.shape) (λ _. one_line (the_line (codes "end"))))))))))

-- no line is left behind
abbrev pub at_end : RunRecord × List Line → Result RunRecord (List Line)
at_end (kept, []) = Ok kept
at_end (kept, line ∷ rest) = Err (line ∷ rest)

abbrev pub ended_there : Result (RunRecord × List Line) (List Line) → Result RunRecord (List Line)
ended_there (Ok read) = at_end read
ended_there (Err rest) = Err rest

-- the record that these lines tell, or the lines from the first one on that doesn't fit
unfoldable pub read_lines : Script → List Line → Result RunRecord (List Line)
read_lines script lines = ended_there (record_section script lines)
