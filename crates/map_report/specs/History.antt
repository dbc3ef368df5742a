-- What happened under each lock and in which order, line by line.
use Rattle.std.specs.Prelude.{ℕ, suc, ◌==◌, List, [], ◌∷◌, ◌++◌, length, map, codes, decimal, if◌then◌else◌}
use Rattle.std.specs.List.{flat_map}
use Rattle.place_words.specs.declared.history.Entry.{Entry}
use Rattle.place_words.specs.declared.history.LockHistory.{LockHistory}
use Rattle.place_words.specs.declared.history.Part.{Part}
use Rattle.place_words.specs.declared.history.Part.TheVariants as parts
use Rattle.place_words.specs.declared.history.Strand.{Strand}
use Rattle.place_words.specs.declared.history.StrandStep.{StrandStep}
use Rattle.map_report.specs.declared.record.PhaseStart.{PhaseStart}
use Rattle.map_report.specs.declared.record.RunRecord.{RunRecord}
use Rattle.map_report.specs.declared.history.RecordVersion.{RecordVersion}
use Rattle.map_report.specs.BucketParts.{bucket_part_text, free_part_text}
use Rattle.map_report.specs.ListParts.{local_part_text, global_part_text, own_part_text}
use Rattle.map_report.specs.Words.{lock_name, number_text, numbered}

abbrev pub part_text : Part → List ℕ
part_text (parts.Bucket part) = bucket_part_text part
part_text (parts.Free part) = free_part_text part
part_text (parts.Local part) = local_part_text part
part_text (parts.Global part) = global_part_text part
part_text (parts.Own part) = own_part_text part

-- `TICKET CPU CALL PART`
abbrev pub entry_line : Entry → List ℕ
entry_line entry = decimal entry.ticket ++ number_text entry.cpu ++ number_text entry.call ++ codes " " ++ part_text entry.part

-- `lock NAME N` and its entries, of a lock that has an entry
abbrev pub lock_line : LockHistory → List ℕ
lock_line history = codes "lock " ++ lock_name history.lock ++ number_text (length history.entries)

abbrev pub lock_lines : LockHistory → List (List ℕ)
lock_lines history =
    if length history.entries == 0 then [] else lock_line history ∷ map entry_line history.entries

-- `at NAME I`
abbrev pub step_line : StrandStep → List ℕ
step_line step = codes "at " ++ lock_name step.lock ++ number_text step.index

-- numbers with commas between them
abbrev pub joined : List ℕ → List ℕ
joined [] = []
joined (number ∷ others) = decimal number ++ flat_map (λ other. codes "," ++ decimal other) others

-- `record 2`, the first line; `record 3` where the script is of version 2
abbrev pub record_line : RecordVersion → List ℕ
record_line version = codes "record" ++ number_text version.number

-- `phase P TICKET marked` and the marked elements, of a phase's start; only a script of version 2 has these lines
abbrev pub phase_line : ℕ → PhaseStart → List ℕ
phase_line number start =
    codes "phase" ++ number_text number ++ number_text start.ticket ++ codes " marked" ++ flat_map number_text start.marked

abbrev pub phase_lines : ℕ → List PhaseStart → List (List ℕ)
phase_lines version starts =
    if version == 2 then numbered (λ number start. phase_line number start ∷ []) 0 starts else []

-- `strand CPUS N` and its steps; `strand P CPUS N`, with its phase, where the script is of version 2
abbrev pub phase_name : ℕ → ℕ → List ℕ
phase_name version phase = if version == 2 then decimal phase ++ codes " " else []

abbrev pub strand_line : ℕ → Strand → List ℕ
strand_line version strand =
    codes "strand " ++ phase_name version strand.phase ++ joined strand.cpus ++ number_text (length strand.steps)

abbrev pub strand_lines : ℕ → Strand → List (List ℕ)
strand_lines version strand = strand_line version strand ∷ map step_line strand.steps

-- the lines of a record of a script of this version
abbrev pub history_lines : ℕ → RunRecord → List (List ℕ)
history_lines version kept =
    record_line (record { number = suc version }) ∷ flat_map lock_lines kept.histories ++ phase_lines version kept.phases
    ++ flat_map (strand_lines version) kept.strands
