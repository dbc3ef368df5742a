-- `least_power_from n` is the least power of two that is n or more, and no other number is.
use Rattle.std.proofs.Common.{◌≡◌, ℕ, zero, suc, ◌*◌, ◌/◌, ◌^◌, ◌<◌, ◌≤◌, max, true, false, cond, ltb, refl, ap, ◌∙◌, sym, ⊎_elim, arith}
use Rattle.std.specs.Int.{IsPowerOfTwo, IsNextPowerOfTwo}
use Rattle.std.proofs.Math.Nat.{pow-succ'}
use Rattle.std.proofs.Math.Pow.{pow_mono}
use Rattle.std.proofs.lemmas.Bool.{cases_Bool, cases_lt, cases_order, ltb-true, ltb-false}
use Rattle.std.proofs.lemmas.Nat.{pow_pos}
use Rattle.map_types.specs.Powers.{least_power_from}

-- a power of two isn't 0
pub power_pos : (p : ℕ) → IsPowerOfTwo p → 0 < p
power_pos p power = let above : 0 < 2 ^ power.0 = pow_pos power.0 in omega (arith, power.1)

-- twice a power of two is one
doubled : (p : ℕ) → IsPowerOfTwo p → IsPowerOfTwo (2 * p)
doubled p power = (suc power.0, ap (λ x. 2 * x) power.1 ∙ sym (pow-succ' 2 power.0))

-- the step of `least_power_from`
next_step : (n p : ℕ) → IsNextPowerOfTwo n p → IsNextPowerOfTwo (suc n) (cond (ltb n p) p (2 * p))
next_step n p next =
    let above = power_pos p next.0 in
    ⊎_elim
    (λ (below : ltb n p ≡ true).
    let small : n < p = ltb-true n p below in
    rw below (next.0, omega arith, omega (arith, next.2)))
    (λ (past : ltb n p ≡ false).
    let large : p ≤ n = ltb-false n p past in
    rw past (doubled p next.0, omega (arith, next.1), omega (arith, next.1)))
    (cases_Bool (ltb n p))

pub least_power_next : (n : ℕ) → IsNextPowerOfTwo n (least_power_from n)
unfolding least_power_from
least_power_next zero = ((0, refl), omega arith, omega arith)
least_power_next (suc n) = next_step n (least_power_from n) (least_power_next n)

-- of two powers the lesser is at most half of the greater
half_above : (j k : ℕ) → j < k → 2 * 2 ^ j ≤ 2 ^ k
half_above j k less =
    let grown : 2 ^ suc j ≤ 2 ^ k = pow_mono less in
    omega (arith, pow-succ' 2 j)

lesser_is_not_next : (n p q : ℕ) (j k : ℕ) → p ≡ 2 ^ j → q ≡ 2 ^ k → n ≤ p → q / 2 < max 1 n → j < k → ⊥
lesser_is_not_next n p q j k p_is q_is above least less =
    let apart : 2 * 2 ^ j ≤ 2 ^ k = half_above j k less in
    let some : 0 < 2 ^ j = pow_pos j in
    omega arith

pub one_next_power : (n p q : ℕ) → IsNextPowerOfTwo n p → IsNextPowerOfTwo n q → p ≡ q
one_next_power n p q at_p at_q =
    let j = at_p.0.0 in
    let k = at_q.0.0 in
    ⊎_elim
    (λ (same : j ≡ k). at_p.0.1 ∙ ap (λ x. 2 ^ x) same ∙ sym at_q.0.1)
    (⊎_elim
    (λ (less : j < k). absurd (lesser_is_not_next n p q j k at_p.0.1 at_q.0.1 at_p.1 at_q.2 less))
    (λ (more : k < j). absurd (lesser_is_not_next n q p k j at_q.0.1 at_p.0.1 at_q.1 at_p.2 more)))
    (cases_order j k)

-- the least power of two that is n or more, by its parts
pub least_power_is : (n p : ℕ) → IsPowerOfTwo p → n ≤ p → p / 2 < max 1 n → p ≡ least_power_from n
least_power_is n p power above least = one_next_power n p (least_power_from n) (power, above, least) (least_power_next n)

-- a power of two that is below 2 ^ 18 is at most 2 ^ 17
pub power_below : (p : ℕ) → IsPowerOfTwo p → p < 262144 → p ≤ 131072
power_below p power below =
    ⊎_elim
    (λ (low : power.0 < 18). let grown : 2 ^ power.0 ≤ 2 ^ 17 = pow_mono {i = power.0} {j = 17} (omega arith) in omega (arith, power.1))
    (λ (high : 18 ≤ power.0). let grown : 2 ^ 18 ≤ 2 ^ power.0 = pow_mono high in omega (arith, power.1))
    (cases_lt power.0 18)
