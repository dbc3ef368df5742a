-- What a map holds, line by line.
use Rattle.std.specs.Prelude.{ℕ, Bool, List, [], ◌∷◌, ◌++◌, map, Option, Some, None, codes, if◌then◌else◌}
use Rattle.std.specs.List.{flat_map}
use Rattle.map_types.specs.declared.attr.Shape.{Shape}
use Rattle.map_types.specs.declared.kind.DomainId.TheVariants.{Local, Global, CpuLru, Bucket, Freelist}
use Rattle.map_types.specs.Kind.{is_lru}
use Rattle.map_types.specs.Stored.{Stored}
use Rattle.place_words.specs.declared.finals.Finals.{Finals}
use Rattle.place_words.specs.declared.finals.LocalFinal.{LocalFinal}
use Rattle.place_words.specs.declared.finals.SetFinal.{SetFinal}
use Rattle.map_report.specs.Words.{bytes_text, lock_name, number_text, numbered, option_text}

-- `bucket B E KEY` and a VALUE for each part
abbrev pub stored_line : ℕ → Stored → List ℕ
stored_line bucket stored =
    lock_name (Bucket bucket) ++ number_text stored.element ++ bytes_text stored.key ++ flat_map bytes_text stored.values

abbrev pub bucket_lines : ℕ → List Stored → List (List ℕ)
bucket_lines bucket elements = map (stored_line bucket) elements

-- a list that lies under a lock, by the lock's name and its own
abbrev pub list_line : List ℕ → List ℕ → List ℕ → List ℕ
list_line lock name elements = lock ++ name ++ flat_map number_text elements

-- a word with a number, where there are many of it
abbrev pub name_text : List ℕ → Option ℕ → List ℕ
name_text word None = word
name_text word (Some number) = word ++ number_text number

-- `freelist C` and its elements, top first
abbrev pub freelist_lines : ℕ → List ℕ → List (List ℕ)
freelist_lines cpu elements = list_line (lock_name (Freelist cpu)) [] elements ∷ []

-- `spare C E`
abbrev pub spare_line : ℕ → ℕ → List ℕ
spare_line cpu element = codes "spare" ++ number_text cpu ++ number_text element

-- the lists of a set, head first, and where its cursor stands
abbrev pub cursor_line : List ℕ → Option ℕ → List ℕ
cursor_line lock cursor = lock ++ codes " cursor" ++ option_text cursor

unfoldable pub set_lines : List ℕ → SetFinal → List (List ℕ)
set_lines lock set =
    list_line lock (codes " active") set.active ∷ list_line lock (codes " inactive") set.inactive
    ∷ list_line lock (codes " free") set.free ∷ cursor_line lock set.cursor ∷ []

-- the local lists of a CPU, head first, and the CPU from which it steals next
abbrev pub steal_line : List ℕ → ℕ → List ℕ
steal_line lock steal = lock ++ codes " steal" ++ number_text steal

abbrev pub local_lines : ℕ → LocalFinal → List (List ℕ)
local_lines cpu lists =
    list_line (lock_name (Local cpu)) (codes " free") lists.free ∷ list_line (lock_name (Local cpu)) (codes " pending") lists.pending
    ∷ steal_line (lock_name (Local cpu)) lists.steal ∷ []

-- `marked` and the elements whose bit is 1, in the order in which they are kept
abbrev pub marked_line : List ℕ → List ℕ
marked_line elements = codes "marked" ++ flat_map number_text elements

-- A map that doesn't evict has freelists, and HASH has spares.
abbrev pub plain_lines : Finals → List (List ℕ)
plain_lines finals =
    numbered freelist_lines 0 finals.freelists ++ numbered (λ cpu element. spare_line cpu element ∷ []) 0 finals.spares

-- One that evicts has the global set and local lists for each CPU, or a set for each CPU.
abbrev pub common_lines : Finals → List (List ℕ)
common_lines finals = flat_map (set_lines (lock_name Global)) finals.sets ++ numbered local_lines 0 finals.locals

abbrev pub own_lines : Finals → List (List ℕ)
own_lines finals = numbered (λ cpu set. set_lines (lock_name (CpuLru cpu)) set) 0 finals.sets

abbrev pub evicting_lines : Bool → Finals → List (List ℕ)
evicting_lines common finals = (if common then common_lines finals else own_lines finals) ++ marked_line finals.marked ∷ []

-- A line for each element of each bucket, head first, and then the free elements.
abbrev pub dump_lines : Shape → Finals → List (List ℕ)
dump_lines shape finals =
    numbered bucket_lines 0 finals.buckets ++ (if is_lru shape.kind then evicting_lines shape.common finals else plain_lines finals)
