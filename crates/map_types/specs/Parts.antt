-- The values of an element: a part for each CPU on the kinds that have a value for each CPU, else one part. The rules are
-- those of the kernel's `pcpu_copy_value`, `pcpu_init_value` and `bpf_percpu_hash_copy`. That the bytes past a value in
-- its field are read as 0 is this project's own.
use Rattle.std.specs.Prelude.{◌≡◌, ℕ, zero, suc, ◌-◌, List, [], ◌∷◌, ◌++◌, length, map, take, drop, replicate, slice_index_or, slice_set}
use Rattle.std.specs.List.{concat}
use Rattle.map_types.specs.ValueLen.{round8}

-- so many bytes 0
abbrev pub zeros : ℕ → List ℕ
zeros n = replicate n 0

-- so many parts of a size in bytes, all of them 0
abbrev pub zero_parts : ℕ → ℕ → List (List ℕ)
zero_parts parts size = replicate parts (zeros size)

-- all parts have one size
abbrev pub AreOfSize : ℕ → List (List ℕ) → Type 0
AreOfSize size [] = Unit {0}
AreOfSize size (part ∷ parts) = (length part ≡ size) × AreOfSize size parts

-- the size of the first part, which is that of all where they have one size
abbrev pub part_size : List (List ℕ) → ℕ
part_size [] = 0
part_size (part ∷ parts) = length part

-- the part of a CPU
abbrev pub part_at : ℕ → List (List ℕ) → List ℕ
part_at part values = slice_index_or values part []

-- a value in its field: what is left of a multiple of 8 bytes is 0
abbrev pub field_of : List ℕ → List ℕ
field_of value = value ++ zeros (round8 (length value) - length value)

-- the fields of all parts end to end, as the system call reads them
abbrev pub fields_of : List (List ℕ) → List ℕ
fields_of values = concat (map field_of values)

-- The values that lie in so many fields, each at the head of its field: the bytes past it aren't kept. They are what the
-- system call writes, over the values of an element as well as into a new one.
abbrev pub values_in : ℕ → ℕ → List ℕ → List (List ℕ)
values_in zero size fields = []
values_in (suc parts) size fields = take size fields ∷ values_in parts size (drop (round8 size) fields)

-- a program writes the part of its CPU, and no other
abbrev pub written_own : ℕ → List ℕ → List (List ℕ) → List (List ℕ)
written_own part value values = slice_set values part value

-- in a new element it writes that part and zeroes the others
abbrev pub new_own : ℕ → ℕ → List ℕ → List (List ℕ)
new_own parts part value = slice_set (zero_parts parts (length value)) part value
