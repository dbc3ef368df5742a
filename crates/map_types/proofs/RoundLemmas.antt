-- A number of at most 65,536 rounded up to a multiple of 1 to 16.
use Rattle.std.proofs.Common.{◌≡◌, ℕ, ◌+◌, ◌-◌, ◌*◌, ◌/◌, ◌%◌, ◌<◌, ◌≤◌, ap, ◌∙◌, ⊎_elim, arith}
use Rattle.std.specs.Int.{next_multiple_of}
use Rattle.std.proofs.Math.Nat.{sub-zero, div-add-mod, mod_self, mod-eq_of_lt, mul-mod_right}
use Rattle.std.proofs.lemmas.Bool.{cases_eq, cases_lt}

-- how much is added: nothing to a multiple, and to others what is left to the next one
rest_of_multiple : (m c : ℕ) → m % c ≡ 0 → (c - m % c) % c ≡ 0
rest_of_multiple m c multiple = rw (multiple, sub-zero) (mod_self c)

rest_of_other : (m c : ℕ) → 1 ≤ c → (m % c ≡ 0 → ⊥) → (c - m % c) % c ≡ c - m % c
rest_of_other m c some other = let above : 0 < m % c = omega arith in mod-eq_of_lt (omega arith)

pub multiple : (m c : ℕ) → 1 ≤ c → next_multiple_of m c % c ≡ 0
multiple m c some =
    ⊎_elim
    (λ (is : m % c ≡ 0).
    let none = rest_of_multiple m c is in
    let same : m + (c - m % c) % c ≡ m = omega arith in
    ap (λ r. r % c) same ∙ is)
    (λ (other : m % c ≡ 0 → ⊥).
    let rest = rest_of_other m c some other in
    let parts = div-add-mod m c in
    let below : m % c < c = omega arith in
    let whole : m + (c - m % c) % c ≡ c * (m / c + 1) = omega arith in
    ap (λ r. r % c) whole ∙ mul-mod_right c (m / c + 1))
    (cases_eq (m % c) 0)

pub rounded_up : (m c : ℕ) → m ≤ next_multiple_of m c
rounded_up m c = omega arith

-- at most 14 are added, or 15 to a multiple of 16, of which 65,536 is one
pub rounded_below : (m c : ℕ) → 1 ≤ c → c ≤ 16 → m ≤ 65536 → next_multiple_of m c ≤ 65550
rounded_below m c some few bounded =
    ⊎_elim
    (λ (less : c < 16). omega arith)
    (λ (most : 16 ≤ c).
    let sixteen : c ≡ 16 = omega arith in
    rw sixteen (omega arith))
    (cases_lt c 16)
