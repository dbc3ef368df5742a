-- That elements are spread evenly over CPUs.
use Rattle.std.specs.Prelude.{ℕ, ◌+◌, ◌<◌, ◌≤◌}
use Rattle.place_words.specs.Shares.{share_count}

-- a share of this many elements differs from that of any CPU by one at most
abbrev pub IsEvenShare : ℕ → ℕ → ℕ → Type 0
IsEvenShare elements cpus count =
    (other : ℕ) → other < cpus → (count ≤ share_count elements cpus other + 1) × (share_count elements cpus other ≤ count + 1)
