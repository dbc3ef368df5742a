-- Of the local lists of each CPU, which turns are pushes that found their element gone since a refill had flushed it.
use Rattle.std.specs.Prelude.{ℕ, Bool, All, List, map, if◌then◌else◌}
use Rattle.std.specs.List.{range_with_len}
use Rattle.map_types.specs.declared.attr.Shape.{Shape}
use Rattle.map_types.specs.declared.kind.DomainId.{DomainId}
use Rattle.map_types.specs.declared.kind.DomainId.TheVariants.{Local, Global, CpuLru, Bucket, Freelist}
use Rattle.place_words.specs.declared.history.LockHistory.{LockHistory}
use Rattle.place_words.specs.Named.{entries_of}
use Rattle.call_check.specs.Moved.{AreGoneBelow, were_gone}

-- where the history of a lock of lists stands on a map that evicts: those of lists come first
abbrev pub list_place : Shape → DomainId → ℕ
list_place shape (Local cpu) = cpu
list_place shape Global = shape.cpus
list_place shape (CpuLru cpu) = cpu
list_place shape (Bucket bucket) = 0
list_place shape (Freelist cpu) = 0

-- how many CPUs have local lists
abbrev pub local_lists : Shape → ℕ
local_lists shape = if shape.common then shape.cpus else 0

abbrev pub gone_by_cpu : Shape → List LockHistory → List (List Bool)
gone_by_cpu shape histories = map (λ (cpu : ℕ). were_gone (entries_of histories (Local cpu))) (range_with_len 0 (local_lists shape))

-- the elements that such pushes name are the map's
abbrev pub NameElements : Shape → List LockHistory → Type 0
NameElements shape histories = All (λ (history : LockHistory). AreGoneBelow shape.elements history.entries) histories
