-- The turns of the global lists' lock. The rules are those of the kernel's `__local_list_flush`, `__bpf_lru_list_rotate`,
-- `bpf_lru_list_pop_free_to_local`, `__bpf_lru_list_shrink` and `bpf_lru_list_push_free`. Lists are head first.
use Rattle.std.specs.Prelude.{◌≡◌, ℕ, ◌-◌, ◌<◌, ◌≤◌, not, IsTrue, IsFalse, List, [], ◌∷◌, ◌++◌, map, length, take, drop, reverse, filter, Option, None, Some}
use Rattle.place_words.specs.declared.list_part.GlobalPart.{GlobalPart}
use Rattle.place_words.specs.declared.list_part.GlobalPart.TheVariants.{Turn, Push}
use Rattle.map_types.specs.declared.row.Row.{Row}
use Rattle.place_words.specs.declared.visits.Flush.{Flush}
use Rattle.place_words.specs.declared.visits.ShrinkNote.{ShrinkNote}
use Rattle.place_words.specs.declared.visits.Visit.{Visit}
use Rattle.map_types.specs.ElementLists.{times}
use Rattle.map_types.specs.Listed.{Listed}
use Rattle.place_words.specs.Rotation.{AreRotationVisits}
use Rattle.place_words.specs.Shrinking.{IsShrink, shrunk}
use Rattle.place_words.specs.Sets.{ListSet, is_listed, pushed_free, rotated_set}

-- the global set is rotated and shrunk with this scan limit, and a turn is to give so many elements
abbrev pub global_scans : ℕ
global_scans = 128

abbrev pub global_target : ℕ
global_target = 128

-- the row of a flushed element, and its visit without the hash
abbrev pub flush_row : Flush → Row
flush_row flush = record { element = flush.element; hash = flush.hash }

abbrev pub flush_visit : Flush → Visit
flush_visit flush = record { element = flush.element; bit = flush.bit }

abbrev pub flushed_elements : List Flush → List ℕ
flushed_elements flushed = map (λ (flush : Flush). flush.element) flushed

-- Flushed elements go one after another to the head of active where their bit was set, else to that of inactive.
abbrev pub flushed_rows : List Flush → List Row
flushed_rows flushed = map flush_row flushed

unfoldable pub with_flushed : List Flush → ListSet → ListSet
with_flushed flushed set = record set {
  lists = record set.lists {
    active = reverse (flushed_rows (filter (λ (flush : Flush). flush.bit) flushed)) ++ set.lists.active;
    inactive = reverse (flushed_rows (filter (λ (flush : Flush). not flush.bit) flushed)) ++ set.lists.inactive;
  };
}

-- an element is nowhere in the set
abbrev pub IsOutside : ListSet → ℕ → Type 0
IsOutside set e = IsFalse (is_listed e set.lists) × (times e set.free ≡ 0)

-- flushed elements come from outside, each once
abbrev pub AreFlushed : ListSet → List Flush → Type 0
AreFlushed set [] = Unit {0}
AreFlushed set (flush ∷ flushed) =
    IsOutside set flush.element × (times flush.element (flushed_elements flushed) ≡ 0) × AreFlushed set flushed

-- the set is shrunk exactly where so many free elements are too few, for what lacks
abbrev pub AllowsGlobalShrink : ℕ → Option ShrinkNote → Listed → Type 0
AllowsGlobalShrink moved None lists = global_target ≤ moved
AllowsGlobalShrink moved (Some note) lists =
    (moved < global_target) × (note.target ≡ global_target - moved) × IsShrink global_scans note.target lists note.looks note.forced

-- the elements that a shrink frees leave the set
abbrev pub shrunk_out : Option ShrinkNote → Listed → Listed
shrunk_out None lists = lists
shrunk_out (Some note) lists = shrunk lists note.looks note.forced

-- the set after the flush and the rotation of a turn
abbrev pub flushed_rotated : List Flush → List Visit → List Visit → ListSet → ListSet
flushed_rotated flushed active inactive set = rotated_set global_scans active inactive (with_flushed flushed set)

-- where a turn may be this part
abbrev pub AllowsOnGlobal : GlobalPart → ListSet → Type 0
AllowsOnGlobal (Turn flushed active inactive free shrink) set =
    AreFlushed set flushed
    × AreRotationVisits global_scans (with_flushed flushed set).lists active inactive
    × (free ≡ take global_target set.free)
    × AllowsGlobalShrink (length free) shrink (flushed_rotated flushed active inactive set).lists
AllowsOnGlobal (Push e) set = IsTrue (is_listed e set.lists)

-- the set after a part that was allowed there
unfoldable pub global_after : GlobalPart → ListSet → ListSet
global_after (Turn flushed active inactive free shrink) set = record {
  lists = shrunk_out shrink (flushed_rotated flushed active inactive set).lists;
  free = drop global_target set.free;
}
global_after (Push e) set = pushed_free e set
