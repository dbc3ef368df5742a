-- The local lists of a CPU and their turns. The rules are those of the kernel's `bpf_common_lru_pop_free`,
-- `bpf_lru_list_pop_free_to_local`, `__local_list_pop_free`, `__local_list_pop_pending`, `__local_list_add_pending` and
-- `bpf_common_lru_push_free`. Lists are head first.
use Rattle.std.specs.Prelude.{◌≡◌, ℕ, ◌<◌, ◌==◌, Bool, true, false, not, ◌||◌, IsTrue, IsFalse, MatchBool, List, [], ◌∷◌, ◌++◌, map, length, take, drop, reverse, count_by, All, is_some, slice_get, option_map, unwrap_or, Option, Some}
use Rattle.map_types.specs.declared.attr.Shape.{Shape}
use Rattle.place_words.specs.declared.list_part.LocalPart.{LocalPart}
use Rattle.place_words.specs.declared.list_part.LocalPart.TheVariants.{Pop, Refill, Steal, Add, Push}
use Rattle.place_words.specs.declared.list_part.Stolen.{Stolen}
use Rattle.place_words.specs.declared.list_part.Stolen.TheVariants.{Free, Pending, Nothing}
use Rattle.map_types.specs.declared.row.Row.{Row}
use Rattle.place_words.specs.declared.visits.Look.{Look}
use Rattle.place_words.specs.declared.visits.Try.{Try}
use Rattle.map_types.specs.ElementLists.{IsHead, times}
use Rattle.map_types.specs.Listed.{elements_of, without_those}
use Rattle.place_words.specs.Rotation.{visited_elements}
use Rattle.place_words.specs.Shrinking.{IsFirstEnd, look_removed, ends_removed, freed}
use Rattle.place_words.specs.Sets.{has_row, row_with}

-- the free elements, the pending ones with their hashes, and the CPU from which the next theft starts
pub record LocalLists : Type 0 where
  pub free : List ℕ
  pub pending : List Row
  pub steal : ℕ

-- new local lists are empty, and the first theft starts at this CPU
abbrev pub new_locals : ℕ → LocalLists
new_locals cpu = record { free = []; pending = []; steal = cpu }

-- the last of a list, none where it is empty
abbrev pub last_of : {A : Type 0} → List A → Option A
last_of xs = slice_get (reverse xs) 0

-- These are the looks of the walk over pending that spares set bits. They go from the tail, and end with the first that is
-- removed, or are all of it. An element is probed exactly where its bit isn't set.
pub record AreSparing (rows : List Row) (looks : List Look) : Type 0 where
  pub from_tail : map (λ look. look.element) looks ≡ elements_of (take (length looks) (reverse rows))
  pub probed : All (λ look. is_some look.probed ≡ not look.bit) looks
  pub until : IsFirstEnd (λ walk. unwrap_or (option_map look_removed (last_of walk)) false || length walk == length rows) looks

-- These are the tries of the walk that spares none.
pub record AreUnsparing (rows : List Row) (tries : List Try) : Type 0 where
  pub from_tail : map (λ try. try.element) tries ≡ elements_of (take (length tries) (reverse rows))
  pub until : IsFirstEnd (λ walk. ends_removed walk || length walk == length rows) tries

-- nothing is free here, and the walks are made: the second one where the first removed nothing
pub record IsSearch (lists : LocalLists) (first : List Look) (second : List Try) : Type 0 where
  pub none_free : lists.free ≡ []
  pub sparing : AreSparing lists.pending first
  pub unsparing : MatchBool (count_by look_removed first == 0) (AreUnsparing lists.pending second) (second ≡ [])

-- what was stolen: the head of free without a walk, what a walk removed, or nothing
abbrev pub AllowsSteal : Stolen → List Look → List Try → LocalLists → Type 0
AllowsSteal (Free e) first second lists = IsHead e lists.free × (first ≡ []) × (second ≡ [])
AllowsSteal (Pending e) first second lists = IsSearch lists first second × (freed first second ≡ e ∷ [])
AllowsSteal Nothing first second lists = IsSearch lists first second × (freed first second ≡ [])

-- An element that is freed goes to the free list where it is pending here. Else nothing changes: it had been flushed, which the
-- call's turns tell.
abbrev pub AllowsPush : ℕ → Bool → LocalLists → Type 0
AllowsPush e true lists = IsTrue (has_row e lists.pending)
AllowsPush e false lists = IsFalse (has_row e lists.pending)

-- where a turn may be this part
abbrev pub AllowsOnLocal : Shape → LocalPart → LocalLists → Type 0
AllowsOnLocal shape (Pop hash e) lists = IsHead e lists.free
AllowsOnLocal shape (Refill hash flushed gained got) lists =
    (lists.free ≡ []) × (visited_elements flushed ≡ reverse (elements_of lists.pending)) × (got ≡ last_of gained)
AllowsOnLocal shape (Steal got first second) lists = AllowsSteal got first second lists
AllowsOnLocal shape (Add hash e cursor) lists =
    IsFalse (has_row e lists.pending) × (times e lists.free ≡ 0) × (cursor < shape.cpus)
AllowsOnLocal shape (Push e done) lists = AllowsPush e done lists

-- an element comes to the head of pending with this hash
abbrev pub made_pending : ℕ → ℕ → LocalLists → LocalLists
made_pending hash e lists = record lists { pending = row_with hash (Some e) ++ lists.pending }

-- an element leaves pending
abbrev pub not_pending : ℕ → LocalLists → LocalLists
not_pending e lists = record lists { pending = without_those (λ x. x == e) lists.pending }

abbrev pub after_steal : Stolen → LocalLists → LocalLists
after_steal (Free e) lists = record lists { free = drop 1 lists.free }
after_steal (Pending e) lists = not_pending e lists
after_steal Nothing lists = lists

abbrev pub after_push : ℕ → Bool → LocalLists → LocalLists
after_push e true lists = record (not_pending e lists) { free = e ∷ lists.free }
after_push e false lists = lists

-- the lists after a part that was allowed there
unfoldable pub local_after : LocalPart → LocalLists → LocalLists
local_after (Pop hash e) lists = made_pending hash e (record lists { free = drop 1 lists.free })
local_after (Refill hash flushed gained got) lists =
    record { free = drop 1 (reverse gained); pending = row_with hash got; steal = lists.steal }
local_after (Steal got first second) lists = after_steal got lists
local_after (Add hash e cursor) lists = record (made_pending hash e lists) { steal = cursor }
local_after (Push e done) lists = after_push e done lists
