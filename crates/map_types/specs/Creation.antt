-- By which rules a map is created, after the kernel's `htab_map_alloc_check` and `htab_map_alloc`. This project's own
-- are the order of the checks, the limits, and that these are refused: other flags, elements that aren't made in
-- advance, and a seed beside the flag for a seed of 0.
use Rattle.std.specs.Prelude.{◌≡◌, ℕ, ◌+◌, ◌*◌, Bool, not, ◌&&◌, ◌||◌, ◌==◌, nat_lt, if◌then◌else◌, bit_and, Option, None, Some, Result, Ok, Err}
use Rattle.std.specs.Int.{next_multiple_of}
use Rattle.std.specs.Option.{option_or, option_map}
use Rattle.map_types.specs.declared.attr.CreateAttr.{CreateAttr}
use Rattle.map_types.specs.declared.refusal.CreateRefusal.{CreateRefusal}
use Rattle.map_types.specs.declared.refusal.CreateRefusal.TheVariants as refusals
use Rattle.map_types.specs.declared.refusal.Limit.{Limit}
use Rattle.map_types.specs.declared.refusal.Limit.TheVariants as limits
use Rattle.map_types.specs.declared.kind.MapKind.{MapKind}
use Rattle.map_types.specs.declared.kind.MapKind.TheVariants.{Hash, PercpuHash, LruHash, LruPercpuHash}
use Rattle.map_types.specs.declared.attr.Shape.{Shape}
use Rattle.map_types.specs.declared.kind.Side.TheVariants.{Sys}
use Rattle.map_types.specs.Kind.{is_lru}
use Rattle.map_types.specs.Powers.{least_power_from}
use Rattle.map_types.specs.ValueLen.{value_len_of}

-- a flag, which is one bit, is set
abbrev pub has_flag : ℕ → ℕ → Bool
has_flag flags flag = not (bit_and flags flag == 0)

-- BPF_F_NO_PREALLOC is 1, BPF_F_NO_COMMON_LRU is 2, BPF_F_ZERO_SEED is 64
abbrev pub wants_no_prealloc : CreateAttr → Bool
wants_no_prealloc attr = has_flag attr.flags 1

abbrev pub wants_own_lists : CreateAttr → Bool
wants_own_lists attr = has_flag attr.flags 2

abbrev pub wants_zero_seed : CreateAttr → Bool
wants_zero_seed attr = has_flag attr.flags 64

-- some flag is none of these three
abbrev pub has_other_flag : CreateAttr → Bool
has_other_flag attr = not (bit_and attr.flags (1 + 2 + 64) == attr.flags)

-- no entries, or keys or values of no bytes
abbrev pub has_zero_size : CreateAttr → Bool
has_zero_size attr = attr.max_entries == 0 || attr.key_size == 0 || attr.value_size == 0

-- Why the flags are refused: one isn't known; lists of each CPU's own are asked for, and the map doesn't evict; or
-- elements are not to be made in advance, to which a map that evicts has an answer of its own.
unfoldable pub flags_refusal : CreateAttr → Option CreateRefusal
flags_refusal attr =
    if has_other_flag attr then Some refusals.Einval
    else if wants_own_lists attr && not (is_lru attr.kind) then Some refusals.Einval
    else if wants_no_prealloc attr && is_lru attr.kind then Some refusals.Enotsupp
    else if wants_no_prealloc attr then Some refusals.Einval
    else None

-- Why the sizes or the seed are refused: there would be nothing to hold, or the seed is to be 0 and isn't.
unfoldable pub contents_refusal : CreateAttr → Option CreateRefusal
contents_refusal attr =
    if has_zero_size attr then Some refusals.Einval
    else if wants_zero_seed attr && not (attr.seed == 0) then Some refusals.Einval
    else None

-- How many keys the map can hold: the entries asked for, rounded up to a multiple of the CPUs where each CPU has lists
-- of its own.
abbrev pub capacity_of : CreateAttr → ℕ
capacity_of attr =
    if wants_own_lists attr then next_multiple_of attr.max_entries attr.cpus else attr.max_entries

-- How many elements there are: a map of kind HASH has a spare one for each CPU.
abbrev pub elements_of : MapKind → ℕ → ℕ → ℕ
elements_of Hash capacity cpus = capacity + cpus
elements_of PercpuHash capacity cpus = capacity
elements_of LruHash capacity cpus = capacity
elements_of LruPercpuHash capacity cpus = capacity

-- what the map is, if it is created
unfoldable pub shape_of : CreateAttr → Shape
shape_of attr =
    let capacity = capacity_of attr in
    record {
      kind = attr.kind;
      cpus = attr.cpus;
      capacity = capacity;
      elements = elements_of attr.kind capacity attr.cpus;
      buckets = least_power_from capacity;
      key_size = attr.key_size;
      value_size = attr.value_size;
      seed = attr.seed;
      common = is_lru attr.kind && not (wants_own_lists attr);
    }

-- the bytes of the keys and values of all elements
abbrev pub pool_of : Shape → ℕ
pool_of shape = shape.elements * (shape.key_size + value_len_of shape Sys)

-- The first limit that the map would pass: 1 to 16 CPUs, entries, bytes of a key, bytes of a value, bytes in all.
unfoldable pub limit_passed : CreateAttr → Option Limit
limit_passed attr =
    if attr.cpus == 0 || nat_lt 16 attr.cpus then Some limits.Cpus
    else if nat_lt 65536 attr.max_entries then Some limits.Max
    else if nat_lt 512 attr.key_size then Some limits.Key
    else if nat_lt 4096 attr.value_size then Some limits.Value
    else if nat_lt 268435456 (pool_of (shape_of attr)) then Some limits.Pool
    else None

-- the first reason against the map: its flags, then its sizes and its seed, then the limits
unfoldable pub refusal_of : CreateAttr → Option CreateRefusal
refusal_of attr =
    option_or (flags_refusal attr) (option_or (contents_refusal attr) (option_map refusals.Limit (limit_passed attr)))

-- the shape, unless there is a reason against it
abbrev pub shape_unless : Option CreateRefusal → Shape → Result Shape CreateRefusal
shape_unless None shape = Ok shape
shape_unless (Some refusal) shape = Err refusal

-- what the creation of a map answers
unfoldable pub creation : CreateAttr → Result Shape CreateRefusal
creation attr = shape_unless (refusal_of attr) (shape_of attr)

-- some attributes are accepted as this shape
pub record IsShape (shape : Shape) : Type 0 where
  pub attr : CreateAttr
  pub accepted : creation attr ≡ Ok shape
