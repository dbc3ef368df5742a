-- The words and numbers of a report.
use Rattle.std.specs.Prelude.{ℕ, ◌+◌, List, [], ◌∷◌, ◌++◌, length, Bool, true, false, Option, Some, None, codes, decimal}
use Rattle.std.specs.Int.{w32, to_be_bytes}
use Rattle.std.specs.List.{flat_map}
use Rattle.hex.specs.Hex.{encode_lower}
use Rattle.map_types.specs.declared.kind.DomainId.{DomainId}
use Rattle.map_types.specs.declared.kind.DomainId.TheVariants.{Local, Global, CpuLru, Bucket, Freelist}
use Rattle.map_types.specs.declared.kind.Side.{Side}
use Rattle.map_types.specs.declared.kind.Side.TheVariants.{Prog, Sys}
use Rattle.map_types.specs.declared.refusal.Errno.{Errno}
use Rattle.map_types.specs.declared.refusal.Errno.TheVariants.{Enoent, E2big, Enomem, Eexist, Einval, Enospc}

abbrev pub errno_name : Errno → List ℕ
errno_name Enoent = codes "enoent"
errno_name E2big = codes "e2big"
errno_name Enomem = codes "enomem"
errno_name Eexist = codes "eexist"
errno_name Einval = codes "einval"
errno_name Enospc = codes "enospc"

abbrev pub side_name : Side → List ℕ
side_name Prog = codes "prog"
side_name Sys = codes "sys"

abbrev pub bit_text : Bool → List ℕ
bit_text true = codes "1"
bit_text false = codes "0"

-- a number, and bytes, behind a blank
abbrev pub number_text : ℕ → List ℕ
number_text number = codes " " ++ decimal number

abbrev pub bytes_text : List ℕ → List ℕ
bytes_text bytes = codes " " ++ encode_lower bytes

-- a number behind a blank, and `-` where there is none
abbrev pub option_text : Option ℕ → List ℕ
option_text (Some number) = number_text number
option_text None = codes " -"

abbrev pub lock_name : DomainId → List ℕ
lock_name (Local cpu) = codes "local" ++ number_text cpu
lock_name Global = codes "global"
lock_name (CpuLru cpu) = codes "lru" ++ number_text cpu
lock_name (Bucket bucket) = codes "bucket" ++ number_text bucket
lock_name (Freelist cpu) = codes "freelist" ++ number_text cpu

-- a hash of 32 bits as 8 hexadecimal digits, the highest first
unfoldable pub hash_digits : ℕ → List ℕ
hash_digits hash = encode_lower (to_be_bytes w32 hash)

-- how many there are, and then each
unfoldable pub counted : {A : Type 0} → (A → List ℕ) → List A → List ℕ
counted text items = number_text (length items) ++ flat_map text items

-- what each of the items gives with its number, where they are numbered from this one on
abbrev pub numbered : {A B : Type 0} → (ℕ → A → List B) → ℕ → List A → List B
numbered give number [] = []
numbered give number (item ∷ items) = give number item ++ numbered give (number + 1) items
