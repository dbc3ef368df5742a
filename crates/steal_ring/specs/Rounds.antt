-- A round over the CPUs of a map, which starts at one of them. The rule is that of the kernel's `bpf_common_lru_pop_free`.
use Rattle.std.specs.Prelude.{◌≡◌, ℕ, ◌-◌, ◌<◌, All, List, [], ◌∷◌}
use Rattle.std.specs.List.{range_with_len}
use Rattle.std.specs.declared.ops.Range.{Range}
use Rattle.map_types.specs.ElementLists.{times, IsHead}
use Rattle.place_words.specs.Takings.{ring_next}

-- after each CPU comes the next one in the ring
abbrev pub Wraps : ℕ → List ℕ → Type 0
Wraps cpus [] = Unit {0}
Wraps cpus (cpu ∷ []) = Unit {0}
Wraps cpus (cpu ∷ next ∷ others) = (next ≡ ring_next cpu cpus) × Wraps cpus (next ∷ others)

-- The round starts at that CPU and goes on with wrapping. Each CPU of the map is there once, and no other.
pub record IsRound (start cpus : ℕ) (round : List ℕ) : Type 0 where
  pub starts : IsHead start round
  pub wraps : Wraps cpus round
  pub once : (cpu : ℕ) → cpu < cpus → times cpu round ≡ 1
  pub below : All (λ cpu. cpu < cpus) round

-- the CPUs of a range
abbrev pub cpus_in : Range ℕ → List ℕ
cpus_in range = range_with_len range.start (range.end - range.start)
