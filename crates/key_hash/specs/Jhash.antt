-- The hash of a key, as the kernel's `jhash` has it, on lists of bytes. A word is a number below
-- 2 ^ 32, and sums and differences of words are taken modulo 2 ^ 32.
use Rattle.std.specs.Prelude.{ℕ, ◌+◌, ◌-◌, ◌%◌, ◌^◌, List, [], ◌∷◌, ◌++◌, length, replicate, bit_xor, slice_range}
use Rattle.std.specs.Int.{w32, rotate_left, from_le_bytes}

-- the three words that the hash works on
pub record Words : Type 0 where
  pub a : ℕ
  pub b : ℕ
  pub c : ℕ

-- the sum and the difference of two words
abbrev pub add : ℕ → ℕ → ℕ
add x y = (x + y) % 2 ^ 32

abbrev pub subtract : ℕ → ℕ → ℕ
subtract x y = (x + (2 ^ 32 - y)) % 2 ^ 32

-- the word, rotated to the left by some places (the kernel's `rol32`)
abbrev pub rotate : ℕ → ℕ → ℕ
rotate x places = rotate_left w32 x places

-- Each word begins as a constant, the key's length and the seed, added up.
unfoldable pub start : ℕ → ℕ → Words
start key_len seed =
    let word = (0xdeadbeef + key_len + seed) % 2 ^ 32 in
    record { a = word; b = word; c = word }

-- Twelve bytes are added to the words, as three little-endian words.
unfoldable pub add_block : Words → List ℕ → Words
add_block w block = record {
  a = add w.a (from_le_bytes w32 (slice_range block 0 4));
  b = add w.b (from_le_bytes w32 (slice_range block 4 8));
  c = add w.c (from_le_bytes w32 (slice_range block 8 12));
}

-- `a -= c; a ^= rol32(c, places); c += b`: the row of the mix that changes a, and with it c
unfoldable pub mix_a : ℕ → Words → Words
mix_a places w = record w { a = bit_xor (subtract w.a w.c) (rotate w.c places); c = add w.c w.b }

-- `b -= a; b ^= rol32(a, places); a += c`
unfoldable pub mix_b : ℕ → Words → Words
mix_b places w = record w { b = bit_xor (subtract w.b w.a) (rotate w.a places); a = add w.a w.c }

-- `c -= b; c ^= rol32(b, places); b += a`
unfoldable pub mix_c : ℕ → Words → Words
mix_c places w = record w { c = bit_xor (subtract w.c w.b) (rotate w.b places); b = add w.b w.a }

-- The mix after each block that is not the last: six rows, each with its rotation.
unfoldable pub mix : Words → Words
mix w =
    let w = mix_a 4 w in
    let w = mix_b 6 w in
    let w = mix_c 8 w in
    let w = mix_a 16 w in
    let w = mix_b 19 w in
    mix_c 4 w

-- `c ^= b; c -= rol32(b, places)`: the row of the final mix that changes c
unfoldable pub finish_c : ℕ → Words → Words
finish_c places w = record w { c = subtract (bit_xor w.c w.b) (rotate w.b places) }

-- `a ^= c; a -= rol32(c, places)`
unfoldable pub finish_a : ℕ → Words → Words
finish_a places w = record w { a = subtract (bit_xor w.a w.c) (rotate w.c places) }

-- `b ^= a; b -= rol32(a, places)`
unfoldable pub finish_b : ℕ → Words → Words
finish_b places w = record w { b = subtract (bit_xor w.b w.a) (rotate w.a places) }

-- The final mix, after the last block: seven rows.
unfoldable pub finish : Words → Words
finish w =
    let w = finish_c 14 w in
    let w = finish_a 11 w in
    let w = finish_b 25 w in
    let w = finish_c 16 w in
    let w = finish_a 4 w in
    let w = finish_b 14 w in
    finish_c 24 w

-- the last bytes, with zeros up to twelve
abbrev pub padded : List ℕ → List ℕ
padded bytes = bytes ++ replicate (12 - length bytes) 0

-- While more than twelve bytes are left, the next twelve are added and mixed in. The last ones, one
-- to twelve of them, are added with zeros after them, and the final mix ends the hash. A key of no
-- bytes leaves the words as they begin.
unfoldable pub absorb : Words → List ℕ → Words
absorb w [] = w
absorb w (b0 ∷ b1 ∷ b2 ∷ b3 ∷ b4 ∷ b5 ∷ b6 ∷ b7 ∷ b8 ∷ b9 ∷ b10 ∷ b11 ∷ next ∷ rest) =
    let block = b0 ∷ b1 ∷ b2 ∷ b3 ∷ b4 ∷ b5 ∷ b6 ∷ b7 ∷ b8 ∷ b9 ∷ b10 ∷ b11 ∷ [] in
    absorb (mix (add_block w block)) (next ∷ rest)
absorb w last = finish (add_block w (padded last))

-- the hash of a key under a seed: the third word at the end
unfoldable pub hash : List ℕ → ℕ → ℕ
hash key seed = (absorb (start (length key) seed) key).c
