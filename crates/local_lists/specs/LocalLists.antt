-- The local lists of a CPU of an evicting map whose CPUs share the global lists: free and pending elements, and the cursor of
-- its thefts. The rules are those of the kernel's `__local_list_pop_free`, `__local_list_add_pending`,
-- `__local_list_pop_pending` and `bpf_common_lru_push_free`. Lists are head first.
use Rattle.std.specs.Prelude.{ℕ, ◌+◌, ◌-◌, ◌<◌, ◌≤◌, ◌^◌, List, [], ◌∷◌}
use Rattle.map_types.specs.ElementLists.{times}
use Rattle.map_types.specs.Listed.{elements_of}
use Rattle.map_types.specs.declared.row.Row.{Row}
use Rattle.percpu_values.specs.BodyList.{BodyList}
use Rattle.place_words.specs.Bodies.{numbers}
use Rattle.place_words.specs.Locals.{LocalLists}
use Rattle.row_list.specs.RowWords.{without_row}

-- `steal` is the CPU where the next theft starts, and `elements` a bound of the elements that the lists may have.
pub record LocalView : Type 0 where
  pub free : BodyList
  pub pending : List Row
  pub steal : ℕ
  pub elements : ℕ

-- as histories tell them
abbrev pub local_told : LocalView → LocalLists
local_told lists = record { free = numbers lists.free.bodies; pending = lists.pending; steal = lists.steal }

-- how often an element stands on the two lists
abbrev pub times_on : ℕ → LocalView → ℕ
times_on e lists = times e (elements_of lists.pending) + times e (numbers lists.free.bodies)

-- Each element stands on one list at most, once, and is below the bound.
pub record IsLocal (lists : LocalView) : Type 0 where
  pub once : (e : ℕ) → times_on e lists ≤ 1
  pub below : (e : ℕ) → 0 < times_on e lists → e < lists.elements
  pub countable : lists.elements < 2 ^ 32

-- new local lists are empty, with room for all elements on the free list, and the first theft starts at this CPU
abbrev pub empty_local : ℕ → ℕ → LocalView
empty_local elements cpu = record {
  free = record { bodies = []; spare = elements };
  pending = [];
  steal = cpu;
  elements = elements;
}

abbrev pub with_free : BodyList → LocalView → LocalView
with_free free lists = record lists { free = free }

-- a row comes to the head of pending, and the row of an element leaves it
abbrev pub with_pending_row : Row → LocalView → LocalView
with_pending_row row lists = record lists { pending = row ∷ lists.pending }

abbrev pub without_pending : ℕ → LocalView → LocalView
without_pending e lists = record lists { pending = without_row e lists.pending }

abbrev pub with_steal : ℕ → LocalView → LocalView
with_steal cpu lists = record lists { steal = cpu }
