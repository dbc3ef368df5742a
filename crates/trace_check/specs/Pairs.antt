-- The pairs of a reply against what buckets' turns tell.
use Rattle.std.specs.Prelude.{ℕ, suc, if◌then◌else◌, Bool, true, false, ◌&&◌, List, [], ◌∷◌, Option, None, Some, bytes_eq}
use Rattle.map_types.specs.declared.attr.Shape.{Shape}
use Rattle.map_types.specs.Stored.{Stored}
use Rattle.place_words.specs.Handing.{handed}
use Rattle.place_words.specs.Walks.{pair_of}

-- a pair, as the system call reads it, or a program on a CPU
abbrev pub pair_for : Shape → Option ℕ → Stored → List ℕ × List ℕ
pair_for shape None stored = pair_of stored
pair_for shape (Some cpu) stored = handed shape cpu stored

abbrev pub same_pair : List ℕ × List ℕ → List ℕ × List ℕ → Bool
same_pair one other = bytes_eq one.0 other.0 && bytes_eq one.1 other.1

-- whether these pairs are the first of those
abbrev pub are_first : List (List ℕ × List ℕ) → List (List ℕ × List ℕ) → Bool
are_first [] given = true
are_first (pair ∷ pairs) [] = false
are_first (pair ∷ pairs) (other ∷ given) = same_pair pair other && are_first pairs given

-- at which of these elements a callback that stops at a key is stopped
abbrev pub one_behind : Option ℕ → Option ℕ
one_behind None = None
one_behind (Some place) = Some (suc place)

abbrev pub key_place : List ℕ → List Stored → Option ℕ
key_place key [] = None
key_place key (stored ∷ others) = if bytes_eq stored.key key then Some 0 else one_behind (key_place key others)

abbrev pub stop_place : Option (List ℕ) → List Stored → Option ℕ
stop_place None all = None
stop_place (Some key) all = key_place key all
