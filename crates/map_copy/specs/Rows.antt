-- Copies worked by hand, of a map with five elements. Two of four keys are in bucket 2, the others in bucket 3.
use Rattle.std.specs.Prelude.{ℕ, ◌+◌, false, List, [], ◌∷◌, Option, None, Some}
use Rattle.map_types.specs.declared.attr.Shape.{Shape}
use Rattle.map_types.specs.declared.kind.MapKind.TheVariants.{Hash}
use Rattle.map_types.specs.declared.refusal.Errno.{Errno}
use Rattle.map_types.specs.declared.refusal.Errno.TheVariants.{Enoent, Enospc, E2big}
use Rattle.map_types.specs.declared.reply.Reply.{Reply}
use Rattle.map_types.specs.declared.reply.Reply.TheVariants.{Batch, Count}
use Rattle.map_copy.specs.Answers.{AreAnswered}
use Rattle.map_copy.specs.Copied.{Read, Step, read_of}
use Rattle.map_copy.specs.Plans.{IsCopied}

abbrev pub source : Shape
source = record { kind = Hash; cpus = 1; capacity = 4; elements = 5; buckets = 4; key_size = 1; value_size = 1; seed = 0; common = false }

abbrev pub pair : ℕ → List ℕ × List ℕ
pair key = (key ∷ [], (160 + key) ∷ [])

abbrev pub step : Read → Reply → Option Reply → Step
step read page put = record { read = read; page = page; put = put }

-- One pair has no room for bucket 2, two pairs have; the buckets are put one after the other, and the second put ends so.
abbrev pub steps : Option Errno → ℕ → List Step
steps stop done =
    step (read_of 1 0) (Batch (Some Enospc) [] 2) None
    ∷ step (read_of 2 2) (Batch None (pair 4 ∷ pair 3 ∷ []) 3) (Some (Count None 2))
    ∷ step (read_of 2 3) (Batch (Some Enoent) (pair 2 ∷ pair 1 ∷ []) 4) (Some (Count stop done))
    ∷ []

-- It ends with ENOENT, whether the target has room for all four keys or only for two.
abbrev pub CopiesAll : Type 0
CopiesAll = IsCopied 1 5 (steps None 2) × AreAnswered source (steps None 2)

abbrev pub StopsFull : Type 0
StopsFull = IsCopied 1 5 (steps (Some E2big) 0)

-- Where the target is full after its first page, the copy ends there, and the second page isn't read.
abbrev pub StopsEarly : Type 0
StopsEarly = IsCopied 2 5 (step (read_of 2 0) (Batch None (pair 4 ∷ pair 3 ∷ []) 3) (Some (Count (Some E2big) 1)) ∷ [])

-- A source without keys is read once, and nothing is put.
abbrev pub CopiesNone : Type 0
CopiesNone = IsCopied 7 5 (step (read_of 7 0) (Batch (Some Enoent) [] 4) None ∷ [])
