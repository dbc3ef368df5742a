-- A number's bytes, against those of a `u32` that are written over zeros.
use Rattle.std.proofs.Common.{◌≡◌, inl, inr, ℕ, ◌+◌, ◌-◌, ◌%◌, ◌^◌, ◌<◌, ◌≤◌, List, ◌∷◌, ◌++◌, length, map, take, drop, get_or, replicate, min, sym, ap, ◌∙◌, arith, length-append}
use Rattle.std.specs.Int.{w32, to_le_bytes, bytes_low_first}
use Rattle.std.specs.List.{range_with_len}
use Rattle.std.proofs.Math.Nat.{div-one, div-eq_of_lt, pow-le-pow_right}
use Rattle.std.proofs.lemmas.Bool.{cases_lt}
use Rattle.std.proofs.lemmas.List.{drop-replicate, length-replicate, get_or_append_left, get_or-append_right, get_or-replicate}
use Rattle.std.proofs.lemmas.List.FromFn.{take-map-range_with_len, length-map-range_with_len, get_or-map-range_with_len, fill_by_all}
use Rattle.workload_gen.specs.Generated.{byte_of, little_endian}

-- the lowest byte, for which nothing is divided
first_byte : (number : ℕ) → number % 256 ≡ byte_of number 0
first_byte number = ap (λ (n : ℕ). n % 256) (sym (div-one number))

-- the bytes behind the fourth are 0
byte_past : (number i : ℕ) → number < 2 ^ 32 → 4 ≤ i → byte_of number i ≡ 0
byte_past number i below past =
    let wide : 256 ^ 4 ≤ 256 ^ i = pow-le-pow_right (omega arith) past in
    let small : number < 256 ^ i = omega arith in
    ap (λ (n : ℕ). n % 256) (div-eq_of_lt small)

-- so many of the four
low_written : (number count : ℕ) → count ≤ 4 → take count (to_le_bytes w32 number) ≡ map (byte_of number) (range_with_len 0 count)
low_written number count within =
    ap (λ (byte : ℕ). take count (byte ∷ bytes_low_first 1 3 number)) (first_byte number) ∙ take-map-range_with_len (byte_of number) 0 4 count within

-- what so many of the four leave of the zeros that they are written over
zeros_past : (size count : ℕ) (low bytes : List ℕ) → length low ≡ count → bytes ≡ replicate size 0 → drop (0 + length low) bytes ≡ replicate (size - count) 0
zeros_past size count low bytes long are =
    let past : 0 + length low ≡ count = omega (arith, long) in
    ap (λ (n : ℕ). drop n bytes) past ∙ ap (drop count) are ∙ drop-replicate count size 0

-- a number's bytes, as many as there is room for, written over zeros
pub written_over : (number size count : ℕ) (low bytes : List ℕ) → number < 2 ^ 32 → count ≡ min 4 size → low ≡ to_le_bytes w32 number → bytes ≡ replicate size 0
    → take count low ++ drop (0 + length (take count low)) bytes ≡ little_endian size number
written_over number size count low bytes below counted is are =
    let front : List ℕ = take count low in
    let rest : List ℕ = drop (0 + length front) bytes in
    let numbered : front ≡ map (byte_of number) (range_with_len 0 count) = ap (take count) is ∙ low_written number count (omega arith) in
    let long : length front ≡ count = ap length numbered ∙ length-map-range_with_len (byte_of number) 0 count in
    let zeros : rest ≡ replicate (size - count) 0 = zeros_past size count front bytes long are in
    let left : length rest ≡ size - count = ap length zeros ∙ length-replicate (size - count) 0 in
    let each : (k : ℕ) → k < size → get_or (front ++ rest) k 0 ≡ byte_of number k = λ k within. elim (cases_lt k count) [
      | inl here ↦
          get_or_append_left front rest 0 k (omega arith) ∙ ap (λ (b : List ℕ). get_or b k 0) numbered
          ∙ get_or-map-range_with_len (byte_of number) 0 count k k 0 here (omega arith)
      | inr behind ↦
          get_or-append_right front rest count k 0 long behind ∙ ap (λ (b : List ℕ). get_or b (k - count) 0) zeros
          ∙ get_or-replicate (size - count) (k - count) 0 0 (omega arith) ∙ sym (byte_past number k below (omega arith))
    ] in
    fill_by_all (byte_of number) (front ++ rest) size 0 (omega (arith, length-append front rest)) each
