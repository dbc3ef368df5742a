-- Which steps of a strand lie there, packed or as they are.
use Rattle.std.specs.Prelude.{◌<◌, ◌++◌, ◌-◌, ℕ, List, length, map, nat_lt, if◌then◌else◌, vec_capacity}
use Rattle.map_types.specs.declared.kind.DomainId.{DomainId}
use Rattle.map_types.specs.declared.kind.DomainId.TheVariants.{Local, Global, CpuLru, Bucket, Freelist}
use Rattle.place_words.specs.declared.history.StrandStep.{StrandStep}
use Rattle.place_words.specs.declared.strand_steps.PackedStep.{PackedStep}
use Rattle.place_words.specs.declared.strand_steps.StepBuffer.{StepBuffer}
use Rattle.place_words.specs.declared.strand_steps.StepRow.{StepRow}

-- the lock of a code: 0 is the global lists, 1 to 16 the local lists of CPUs 0 to 15, 17 to 32 their own list sets, 33 to 48 their
-- freelists, and from 49 on the buckets. It is neither the lock's number nor a home's code.
abbrev pub lock_of_code : ℕ → DomainId
lock_of_code code =
    if nat_lt code 1 then Global
    else if nat_lt code 17 then Local (code - 1)
    else if nat_lt code 33 then CpuLru (code - 17)
    else if nat_lt code 49 then Freelist (code - 33)
    else Bucket (code - 49)

abbrev pub step_unpacked : PackedStep → StrandStep
step_unpacked packed = record { lock = lock_of_code packed.lock; index = packed.index }

-- the packed steps, and behind them those that stand as they are
abbrev pub steps_in : List PackedStep → List StrandStep → List StrandStep
steps_in packed plain = map step_unpacked packed ++ plain

abbrev pub steps_made : StepBuffer → List StrandStep
steps_made made = steps_in made.packed.items made.plain.items

-- the steps that are read where they lie
abbrev pub row_read : StepRow → List StrandStep
row_read row = steps_in row.packed.now row.plain.now

-- there is room for one step more, packed or not
abbrev pub HasRoom : StepBuffer → Type 0
HasRoom made = (length made.packed.items < vec_capacity made.packed) × (length made.plain.items < vec_capacity made.plain)
