-- Powers of two.
use Rattle.std.specs.Prelude.{ℕ, zero, suc, ◌*◌, nat_lt, if◌then◌else◌}

-- The least power of two that is n or more: that of n + 1 is that of n, or twice that where n + 1 is above it.
unfoldable pub least_power_from : ℕ → ℕ
least_power_from zero = 1
least_power_from (suc n) =
    if nat_lt n (least_power_from n) then least_power_from n else 2 * least_power_from n
