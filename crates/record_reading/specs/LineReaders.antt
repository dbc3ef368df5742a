-- How the lines of a history are read.
use Rattle.std.specs.Prelude.{◌+◌, ◌==◌, ℕ, zero, suc, nat_le, List, [], ◌∷◌, ◌++◌, Option, Some, codes, if◌then◌else◌}
use Rattle.map_types.specs.declared.attr.Shape.{Shape}
use Rattle.map_types.specs.declared.kind.DomainId.{DomainId}
use Rattle.map_types.specs.declared.kind.DomainId.TheVariants.{Local, Global, CpuLru, Bucket, Freelist}
use Rattle.place_words.specs.declared.history.Entry.{Entry}
use Rattle.place_words.specs.declared.history.Part.{Part}
use Rattle.place_words.specs.declared.history.Part.TheVariants as parts
use Rattle.place_words.specs.declared.history.StrandStep.{StrandStep}
use Rattle.place_words.specs.Locks.{is_lock}
use Rattle.map_report.specs.declared.record.PhaseStart.{PhaseStart}
use Rattle.map_report.specs.Words.{number_text}
use Rattle.record_reading.specs.Readers.{Reader, ◌>>=◌, behind, after, nothing, both, made, either, number, tested, whole, word_then, first_then, made_of, passing, numbers_to_end, ascends}
use Rattle.record_reading.specs.BucketReaders.{u32_text, bucket_part, free_part}
use Rattle.record_reading.specs.ListReaders.{local_part, global_part, own_part}

-- ---- locks

unfoldable pub name_part : Reader DomainId
name_part =
    either (made Local (after (codes "local") u32_text))
    (either (made (λ _. Global) (after (codes "global") nothing))
    (either (made CpuLru (after (codes "lru") u32_text))
    (either (made Bucket (after (codes "bucket") u32_text)) (made Freelist (after (codes "freelist") u32_text)))))

unfoldable pub lock_part : Shape → Reader DomainId
lock_part shape = tested (is_lock shape) name_part

-- ---- entries: `TICKET CPU CALL PART`

unfoldable pub part_of : Shape → DomainId → Reader Part
part_of shape (Bucket _) = made parts.Bucket (bucket_part shape)
part_of shape (Freelist _) = made parts.Free (free_part shape)
part_of shape (Local _) = made parts.Local (local_part shape)
part_of shape Global = made parts.Global (global_part shape)
part_of shape (CpuLru _) = made parts.Own (own_part shape)

abbrev pub entry_of : ℕ × (ℕ × (ℕ × Part)) → Entry
entry_of x = record { ticket = x.0; cpu = x.1.0; call = x.1.1.0; part = x.1.1.1 }

unfoldable pub entry : Shape → ℕ → DomainId → Reader Entry
entry shape calls lock =
    made entry_of (both (number 18446744073709551616) (λ _. both (after (codes " ") (number shape.cpus))
    (λ _. both (tested (nat_le 1) (after (codes " ") (number (calls + 1)))) (λ _. after (codes " ") (part_of shape lock)))))

-- ---- `lock NAME N`

unfoldable pub lock_head : Shape → Reader (DomainId × ℕ)
lock_head shape = after (codes "lock ") (both (lock_part shape) (λ _. after (codes " ") (number 18446744073709551616)))

-- ---- `at NAME I`

abbrev pub step_of : DomainId × ℕ → StrandStep
step_of x = record { lock = x.0; index = x.1 }

unfoldable pub step_part : Shape → Reader StrandStep
step_part shape = made step_of (after (codes "at ") (both (lock_part shape) (λ _. after (codes " ") (number 18446744073709551616))))

-- ---- `strand CPUS N`, `strand P CPUS N`

-- numbers behind commas, at most so many
abbrev pub behind_commas : ℕ → ℕ → Reader (List ℕ)
behind_commas below zero text = Some ([], text)
behind_commas below (suc n) text =
    either (made (λ (x : ℕ × List ℕ). x.0 ∷ x.1) (after (codes ",") (both (number below) (λ _. behind_commas below n)))) (made (λ _. []) nothing) text

unfoldable pub joined_numbers : ℕ → Reader (List ℕ)
joined_numbers below =
    either (made (λ (x : ℕ × List ℕ). x.0 ∷ x.1) (both (number below) (λ _. behind_commas below below))) (made (λ _. []) nothing)

-- the CPUs of a strand, and how many steps it has
unfoldable pub strand_rest : Shape → Reader (List ℕ × ℕ)
strand_rest shape = both (tested ascends (joined_numbers shape.cpus)) (λ _. after (codes " ") (number 18446744073709551616))

-- the phase of a strand, which stands there where the script is of version 2
unfoldable pub phase_front : ℕ → ℕ → Reader ℕ
phase_front version phases text =
    if version == 2 then number phases text >>= (λ n. behind (codes " ") n.1 >>= (λ rest. Some (n.0, rest))) else Some (0, text)

-- a phase, CPUs and a number of steps
abbrev pub StrandHead : Type 0
StrandHead = ℕ × (List ℕ × ℕ)

-- `strand CPUS N`, and with its phase `strand P CPUS N`; the phases of strands never fall
unfoldable pub strand_head : ℕ → Shape → ℕ → ℕ → List ℕ → Option StrandHead
strand_head version shape phases least =
    passing (λ (head : StrandHead). nat_le least head.0) (word_then (codes "strand ") (first_then (phase_front version phases) (whole (strand_rest shape))))

-- ---- `phase P TICKET marked` and elements

unfoldable pub marks : Shape → List ℕ → Option (List ℕ)
marks shape = passing ascends (numbers_to_end shape.elements)

abbrev pub start_of : ℕ × List ℕ → PhaseStart
start_of x = record { ticket = x.0; marked = x.1 }

unfoldable pub phase_start : Shape → ℕ → List ℕ → Option PhaseStart
phase_start shape phase =
    made_of start_of (word_then (codes "phase" ++ number_text phase) (first_then (after (codes " ") (number 18446744073709551616)) (word_then (codes " marked") (marks shape))))
