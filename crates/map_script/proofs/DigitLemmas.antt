-- Digits that are decoded and judged in one pass.
use Rattle.std.proofs.Common.{◌≡◌, ◌⊎◌, inl, inr, ℕ, ◌+◌, ◌*◌, ◌%◌, ◌<◌, ◌≤◌, List, length, take, drop, slice_index, slice_set, Option, Some, None, Ok, refl, sym, subst, ap, arith, get_or-set_other}
use Rattle.std.proofs.lemmas.Bool.{cases_eq}
use Rattle.std.proofs.lemmas.Grind.{get_or-set_at}
use Rattle.std.specs.Prelude.{MatchOption}
use Rattle.hex.specs.Hex.{decode_pairs, pair_value, hex_digit_value, digit_or_error}
use Rattle.hex.proofs.Pairs.{prepend, decode_step}

-- the value of a digit, and 255 of any other byte
abbrev pub IsDigitValue : ℕ → ℕ → Type 0
IsDigitValue byte value = MatchOption (hex_digit_value byte) (value ≡ 255) (λ v. value ≡ v)

digit_read : (o : Option ℕ) (byte i value : ℕ) → MatchOption o (value ≡ 255) (λ v. value ≡ v) → value < 16 → digit_or_error byte i o ≡ Ok value
digit_read None byte i value h small = absurd (omega arith)
digit_read (Some v) byte i value h small = ap Ok (sym h)

pair_read : (a b i high low : ℕ) → IsDigitValue a high → IsDigitValue b low → high < 16 → low < 16 → pair_value a b i ≡ Ok ((high * 16 % 256 + low) % 256)
pair_read a b i high low is_high is_low small_high small_low =
    let first = digit_read (hex_digit_value a) a i high is_high small_high in
    let second = digit_read (hex_digit_value b) b (i + 1) low is_low small_low in
    let whole : (high * 16 % 256 + low) % 256 ≡ high * 16 + low = omega arith in
    rw (first, second, whole) refl

-- two digits more
pub two_more : (s out : List ℕ) (i high low : ℕ) → 2 * i + 1 < length s → i < length out
    → IsDigitValue (slice_index s (2 * i)) high → IsDigitValue (slice_index s (2 * i + 1)) low → high < 16 → low < 16
    → decode_pairs 0 s ≡ prepend (take i out) (decode_pairs (2 * i) (drop (2 * i) s))
    → decode_pairs 0 s ≡ prepend (take (i + 1) (slice_set out i ((high * 16 % 256 + low) % 256))) (decode_pairs (2 * (i + 1)) (drop (2 * (i + 1)) s))
two_more s out i high low fits room is_high is_low small_high small_low so_far =
    decode_step s out i ((high * 16 % 256 + low) % 256) fits room (pair_read (slice_index s (2 * i)) (slice_index s (2 * i + 1)) (2 * i) high low is_high is_low small_high small_low) so_far

-- each value so far is its digit's, and no more than the greatest
abbrev pub AreValues : List ℕ → List ℕ → ℕ → ℕ → Type 0
AreValues digits values greatest i =
    (j : ℕ) → j < i → IsDigitValue (slice_index digits j) (slice_index values j) × (slice_index values j ≤ greatest)

-- one value more
pub value_added : (digits values : List ℕ) (greatest now i value : ℕ) → i < length values → IsDigitValue (slice_index digits i) value → greatest ≤ now → value ≤ now
    → AreValues digits values greatest i → AreValues digits (slice_set values i value) now (i + 1)
value_added digits values greatest now i value room is grows within before j below =
    elim (cases_eq j i) [
      | inl one ↦
          let there : slice_index (slice_set values i value) j ≡ value = get_or-set_at values i j value 0 one room in
          rw there (subst (λ k. IsDigitValue (slice_index digits k) value) (sym one) is, within)
      | inr other ↦
          let same : slice_index (slice_set values i value) j ≡ slice_index values j = get_or-set_other values i j value 0 other in
          let so_far = before j (omega arith) in
          let least = so_far.1 in
          rw same (so_far.0, omega arith)
    ]
