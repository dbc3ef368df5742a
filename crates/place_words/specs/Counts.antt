-- How much turns did: how many moves between lists and looks at list locks they made, and how many elements they flushed and
-- evicted. And how much an update of a map that evicts does at most.
use Rattle.std.specs.Prelude.{ℕ, ◌+◌, ◌≤◌, Bool, true, false, List, length, count_by, option_map, unwrap_or, Option, None, Some}
use Rattle.std.specs.List.{sum_by}
use Rattle.place_words.specs.declared.bucket_part.BucketPart.{BucketPart}
use Rattle.place_words.specs.declared.bucket_part.BucketPart.TheVariants.{Lookup, Update, Delete, Take, Next, First, Walk, Evict}
use Rattle.place_words.specs.declared.history.Part.{Part}
use Rattle.place_words.specs.declared.history.Part.TheVariants as parts
use Rattle.place_words.specs.declared.list_part.GlobalPart.{GlobalPart}
use Rattle.place_words.specs.declared.list_part.GlobalPart.TheVariants as global
use Rattle.place_words.specs.declared.list_part.LocalPart.{LocalPart}
use Rattle.place_words.specs.declared.list_part.LocalPart.TheVariants as local
use Rattle.place_words.specs.declared.list_part.OwnPart.{OwnPart}
use Rattle.place_words.specs.declared.list_part.OwnPart.TheVariants as own
use Rattle.place_words.specs.declared.visits.Look.{Look}
use Rattle.place_words.specs.declared.visits.ShrinkNote.{ShrinkNote}
use Rattle.place_words.specs.declared.visits.Visit.{Visit}
use Rattle.map_types.specs.ElementLists.{one}
use Rattle.place_words.specs.Shrinking.{is_removed, try_removed}
use Rattle.place_words.specs.Takings.{stolen_element}
use Rattle.place_words.specs.Turns.{Turn}

-- how many there are of what may be there
abbrev pub one_where : Option ℕ → ℕ
one_where None = 0
one_where (Some e) = 1

-- a rotation moves each that it visits on active, and on inactive each whose bit was set
abbrev pub rotation_moves : List Visit → List Visit → ℕ
rotation_moves active inactive = length active + count_by (λ (visit : Visit). visit.bit) inactive

-- a shrink moves each that it looks at, unless it is in a hand, and each that it removes by force
abbrev pub look_moves : Look → Bool
look_moves look = unwrap_or (option_map is_removed look.probed) true

abbrev pub shrink_moves : Option ShrinkNote → ℕ
shrink_moves None = 0
shrink_moves (Some note) = count_by look_moves note.looks + count_by try_removed note.forced

abbrev pub local_moves : LocalPart → ℕ
local_moves (local.Pop hash e) = 1
local_moves (local.Refill hash flushed gained got) = one_where got
local_moves (local.Steal got first second) = one_where (stolen_element got)
local_moves (local.Add hash e cursor) = 1
local_moves (local.Push e done) = one done

abbrev pub global_moves : GlobalPart → ℕ
global_moves (global.Turn flushed active inactive free shrink) =
    length flushed + (rotation_moves active inactive + (length free + shrink_moves shrink))
global_moves (global.Push e) = 1

abbrev pub own_moves : OwnPart → ℕ
own_moves (own.Turn hash active inactive shrink got) = rotation_moves active inactive + (shrink_moves shrink + one_where got)
own_moves (own.Push e) = 1

-- the moves of turns
abbrev pub part_moves : Part → ℕ
part_moves (parts.Bucket part) = 0
part_moves (parts.Free part) = 0
part_moves (parts.Local part) = local_moves part
part_moves (parts.Global part) = global_moves part
part_moves (parts.Own part) = own_moves part

abbrev pub in_all : (Part → ℕ) → List Turn → ℕ
in_all count turns = sum_by (λ (turn : Turn). count turn.part) turns

abbrev pub moves : List Turn → ℕ
moves turns = in_all part_moves turns

-- the elements that were flushed
abbrev pub global_flushes : GlobalPart → ℕ
global_flushes (global.Turn flushed active inactive free shrink) = length flushed
global_flushes (global.Push e) = 0

abbrev pub part_flushes : Part → ℕ
part_flushes (parts.Bucket part) = 0
part_flushes (parts.Free part) = 0
part_flushes (parts.Local part) = 0
part_flushes (parts.Global part) = global_flushes part
part_flushes (parts.Own part) = 0

abbrev pub flushes : List Turn → ℕ
flushes turns = in_all part_flushes turns

-- the looks: the turns of list locks
abbrev pub is_list_part : Part → Bool
is_list_part (parts.Bucket part) = false
is_list_part (parts.Free part) = false
is_list_part (parts.Local part) = true
is_list_part (parts.Global part) = true
is_list_part (parts.Own part) = true

abbrev pub looks : List Turn → ℕ
looks turns = in_all (λ part. one (is_list_part part)) turns

-- the evictions: the turns of buckets that removed an element for a list
abbrev pub evicts_one : BucketPart → Bool
evicts_one (Lookup side key got) = false
evicts_one (Update side flags key value offer put) = false
evicts_one (Delete key _) = false
evicts_one (Take key _) = false
evicts_one (Next key found) = false
evicts_one (First key) = false
evicts_one (Walk remove room result) = false
evicts_one (Evict e probed) = is_removed probed

abbrev pub is_eviction : Part → Bool
is_eviction (parts.Bucket part) = evicts_one part
is_eviction (parts.Free part) = false
is_eviction (parts.Local part) = false
is_eviction (parts.Global part) = false
is_eviction (parts.Own part) = false

abbrev pub evictions : List Turn → ℕ
evictions turns = in_all (λ part. one (is_eviction part)) turns

-- What an update does at most where the CPUs share lists: 514 moves beside those that it flushed, a look at each CPU's local
-- lists and five more, and 128 evictions.
pub record IsWithinShared (cpus : ℕ) (turns : List Turn) : Type 0 where
  pub moves_at_most : moves turns ≤ flushes turns + 514
  pub looks_at_most : looks turns ≤ cpus + 5
  pub evictions_at_most : evictions turns ≤ 128

-- and where each CPU has lists of its own
pub record IsWithinOwn (turns : List Turn) : Type 0 where
  pub moves_at_most : moves turns ≤ 15
  pub looks_at_most : looks turns ≤ 2
  pub evictions_at_most : evictions turns ≤ 4
