-- How values lie in memory.
use Rattle.std.specs.Prelude.{ℕ, zero, suc, List, [], ◌∷◌, take, drop}

-- so many parts of a size, which lie end to end
abbrev pub parts_of : ℕ → ℕ → List ℕ → List (List ℕ)
parts_of zero size bytes = []
parts_of (suc parts) size bytes = take size bytes ∷ parts_of parts size (drop size bytes)
