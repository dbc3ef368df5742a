-- How the elements of a map are spread over its CPUs at first. The rule is that of the kernel's `pcpu_freelist_populate`.
use Rattle.std.specs.Prelude.{ℕ, zero, suc, ◌+◌, ◌*◌, ◌/◌, ◌%◌, min, nat_lt, List, [], ◌∷◌, if◌then◌else◌}

-- The elements are spread in order over the CPUs. The first CPUs get one more where they don't come out even.
abbrev pub share_first : ℕ → ℕ → ℕ → ℕ
share_first elements cpus cpu = cpu * (elements / cpus) + min cpu (elements % cpus)

abbrev pub share_count : ℕ → ℕ → ℕ → ℕ
share_count elements cpus cpu = elements / cpus + (if nat_lt cpu (elements % cpus) then 1 else 0)

-- n elements from a on, each pushed at the head in order, so that the greatest is on top
abbrev pub pushed_from : ℕ → ℕ → List ℕ
pushed_from a zero = []
pushed_from a (suc n) = (a + n) ∷ pushed_from a n
