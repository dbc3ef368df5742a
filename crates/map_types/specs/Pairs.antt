-- Keys and values that lie end to end.
use Rattle.std.specs.Prelude.{◌≡◌, length, ℕ, zero, suc, List, [], ◌∷◌, map, take, drop, slice_index_or}
use Rattle.std.specs.List.{concat}

-- the first n keys of a size, each with its value
abbrev pub pairs_of : ℕ → ℕ → ℕ → List ℕ → List ℕ → List (List ℕ × List ℕ)
pairs_of zero key_size value_size keys values = []
pairs_of (suc n) key_size value_size keys values =
    (take key_size keys, take value_size values) ∷ pairs_of n key_size value_size (drop key_size keys) (drop value_size values)

-- the pair at an index
abbrev pub pair_at : List (List ℕ × List ℕ) → ℕ → List ℕ × List ℕ
pair_at pairs i = slice_index_or pairs i ([], [])

-- the key of a pair, and its value
abbrev pub key_of : List ℕ × List ℕ → List ℕ
key_of pair = pair.0

abbrev pub value_of : List ℕ × List ℕ → List ℕ
value_of pair = pair.1

-- the keys of all pairs end to end, and the values
abbrev pub joined_keys : List (List ℕ × List ℕ) → List ℕ
joined_keys pairs = concat (map key_of pairs)

abbrev pub joined_values : List (List ℕ × List ℕ) → List ℕ
joined_values pairs = concat (map value_of pairs)

-- every key has one size, and every value another
abbrev pub HaveSizes : ℕ → ℕ → List (List ℕ × List ℕ) → Type 0
HaveSizes key_size value_size [] = Unit {0}
HaveSizes key_size value_size (pair ∷ pairs) =
    (length (key_of pair) ≡ key_size) × (length (value_of pair) ≡ value_size) × HaveSizes key_size value_size pairs
