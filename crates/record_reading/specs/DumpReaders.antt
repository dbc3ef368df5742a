-- How the lines of what a map holds are read.
use Rattle.std.specs.Prelude.{ℕ, List, [], ◌++◌, Option, codes}
use Rattle.map_types.specs.declared.attr.Shape.{Shape}
use Rattle.map_types.specs.declared.kind.DomainId.TheVariants.{Local, Bucket, Freelist}
use Rattle.map_types.specs.Sides.{part_count}
use Rattle.map_types.specs.Stored.{Stored}
use Rattle.place_words.specs.declared.finals.LocalFinal.{LocalFinal}
use Rattle.place_words.specs.declared.finals.SetFinal.{SetFinal}
use Rattle.map_report.specs.Words.{lock_name, number_text}
use Rattle.record_reading.specs.Readers.{Reader, after, both, made, bytes, option, times, whole, word_then, numbers_to_end}
use Rattle.record_reading.specs.BucketReaders.{u32_text, element_text, key_text}
use Rattle.record_reading.specs.Sections.{Section, one_line, told, with_next}

-- ---- `bucket B E KEY` and a value for each part

abbrev pub held_of : ℕ × (List ℕ × List (List ℕ)) → Stored
held_of x = record { element = x.0; key = x.1.0; values = x.1.1 }

unfoldable pub stored_part : Shape → ℕ → Reader Stored
stored_part shape bucket =
    made held_of (after (lock_name (Bucket bucket)) (both (element_text shape) (λ _. both (key_text shape) (λ _. times (part_count shape) (after (codes " ") (bytes shape.value_size))))))

-- ---- lists of elements

-- a list by its name
unfoldable pub list_named : Shape → List ℕ → List ℕ → Option (List ℕ)
list_named shape name = word_then name (numbers_to_end shape.elements)

-- `freelist C` and its elements
abbrev pub freelist_section : Shape → ℕ → Section (List ℕ)
freelist_section shape cpu = one_line (list_named shape (lock_name (Freelist cpu) ++ []))

-- `spare C E`
unfoldable pub spare_part : Shape → ℕ → List ℕ → Option ℕ
spare_part shape cpu = word_then (codes "spare" ++ number_text cpu) (whole (element_text shape))

-- ---- the lists of a set and where its cursor stands

unfoldable pub cursor_part : Shape → List ℕ → List ℕ → Option (Option ℕ)
cursor_part shape name = word_then (name ++ codes " cursor") (whole (option shape.elements))

abbrev pub SetLists : Type 0
SetLists = List ℕ × (List ℕ × (List ℕ × Option ℕ))

abbrev pub set_of : SetLists → SetFinal
set_of x = record { active = x.0; inactive = x.1.0; free = x.1.1.0; cursor = x.1.1.1 }

abbrev pub set_section : Shape → List ℕ → Section SetFinal
set_section shape name =
    told set_of (with_next (one_line (list_named shape (name ++ codes " active"))) (λ _. with_next (one_line (list_named shape (name ++ codes " inactive")))
    (λ _. with_next (one_line (list_named shape (name ++ codes " free"))) (λ _. one_line (cursor_part shape name)))))

-- ---- the lists of a CPU, and the CPU from which it steals next

unfoldable pub steal_part : List ℕ → List ℕ → Option ℕ
steal_part name = word_then (name ++ codes " steal") (whole u32_text)

abbrev pub local_of : List ℕ × (List ℕ × ℕ) → LocalFinal
local_of x = record { free = x.0; pending = x.1.0; steal = x.1.1 }

abbrev pub local_section : Shape → ℕ → Section LocalFinal
local_section shape cpu =
    told local_of (with_next (one_line (list_named shape (lock_name (Local cpu) ++ codes " free"))) (λ _. with_next (one_line (list_named shape (lock_name (Local cpu) ++ codes " pending")))
    (λ _. one_line (steal_part (lock_name (Local cpu))))))
