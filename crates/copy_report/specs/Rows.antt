-- What is told of copies worked by hand. The source has two of four keys in one bucket and two in another, and the first read asks for one
-- pair.
use Rattle.std.specs.Prelude.{◌≡◌, ℕ, ◌+◌, false, List, [], ◌∷◌, Option, None, Some, codes}
use Rattle.map_types.specs.declared.attr.Shape.{Shape}
use Rattle.map_types.specs.declared.kind.MapKind.TheVariants.{Hash}
use Rattle.map_types.specs.declared.refusal.Errno.{Errno}
use Rattle.map_types.specs.declared.refusal.Errno.TheVariants.{Enoent, Enospc, E2big}
use Rattle.map_types.specs.declared.reply.Reply.{Reply}
use Rattle.map_types.specs.declared.reply.Reply.TheVariants.{Batch, Count}
use Rattle.copy_report.specs.CopyText.{outcome_lines}

abbrev pub target : ℕ → Shape
target capacity =
    record { kind = Hash; cpus = 1; capacity = capacity; elements = capacity + 1; buckets = capacity; key_size = 1; value_size = 1; seed = 0; common = false }

abbrev pub pair : ℕ → List ℕ × List ℕ
pair key = (key ∷ [], (160 + key) ∷ [])

abbrev pub reads : List Reply
reads =
    Batch (Some Enospc) [] 2 ∷ Batch None (pair 4 ∷ pair 3 ∷ []) 3 ∷ Batch (Some Enoent) (pair 2 ∷ pair 1 ∷ []) 4 ∷ []

abbrev pub puts : Option Errno → ℕ → List Reply
puts stop done = Count None 2 ∷ Count stop done ∷ []

-- The target has room for all of them,
abbrev pub TellsAll : Type 0
TellsAll = outcome_lines (target 4) reads (puts None 2)
    ≡ codes "target hash capacity 4 elements 5 buckets 4" ∷ codes "reads 3" ∷ codes "copied 4" ∷ codes "stop -" ∷ []

-- or for two.
abbrev pub TellsStop : Type 0
TellsStop = outcome_lines (target 2) reads (puts (Some E2big) 0)
    ≡ codes "target hash capacity 2 elements 3 buckets 2" ∷ codes "reads 3" ∷ codes "copied 2" ∷ codes "stop e2big" ∷ []
