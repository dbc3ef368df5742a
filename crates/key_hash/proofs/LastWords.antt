-- The last bytes of a key, with zeros after them, word by word.
use Rattle.std.proofs.Common.{◌≡◌, ℕ, zero, suc, ◌+◌, ◌-◌, ◌<◌, List, [], ◌∷◌, ◌++◌, length, take, drop, get_or, replicate, refl, sym, ◌∙◌, get_or-take, get_or-drop, arith}
use Rattle.std.specs.Int.{w32, from_le_bytes}
use Rattle.key_hash.specs.Jhash.{Words, add, add_block, padded}

all_zeros : (n k : ℕ) → ◌≡◌ {A = ℕ} (get_or (replicate n 0) k 0) 0
all_zeros zero k = refl
all_zeros (suc n) zero = refl
all_zeros (suc n) (suc k) = all_zeros n k

zeros_unseen : (bytes : List ℕ) (n k : ℕ) → get_or (bytes ++ replicate n 0) k 0 ≡ get_or bytes k 0
zeros_unseen [] n k = all_zeros n k
zeros_unseen (b ∷ bytes) n zero = refl
zeros_unseen (b ∷ bytes) n (suc k) = zeros_unseen bytes n k

same_word : (xs ys : List ℕ) → ((i : ℕ) → i < 4 → get_or xs i 0 ≡ get_or ys i 0) → from_le_bytes w32 xs ≡ from_le_bytes w32 ys
same_word xs ys same =
    let first = same 0 (omega arith) in
    let second = same 1 (omega arith) in
    let third = same 2 (omega arith) in
    let fourth = same 3 (omega arith) in
    rw (first, second, third, fourth) refl

-- the word at a place is that of the bytes from there on
word_padded : (bytes : List ℕ) (n place : ℕ) → from_le_bytes w32 (take 4 (drop place (bytes ++ replicate n 0))) ≡ from_le_bytes w32 (drop place bytes)
word_padded bytes n place =
    same_word (take 4 (drop place (bytes ++ replicate n 0))) (drop place bytes) (λ i few. get_or-take 4 (drop place (bytes ++ replicate n 0)) i 0 few ∙ get_or-drop place (bytes ++ replicate n 0) i 0 ∙ zeros_unseen bytes n (place + i) ∙ sym (get_or-drop place bytes i 0))

pub adds_last : (w : Words) (bytes : List ℕ) (a b c : ℕ) → a ≡ from_le_bytes w32 (drop 0 bytes) → b ≡ from_le_bytes w32 (drop 4 bytes) → c ≡ from_le_bytes w32 (drop 8 bytes) → record { a = add w.a a; b = add w.b b; c = add w.c c } ≡ add_block w (padded bytes)
unfolding add_block
adds_last w bytes a b c first second third =
    let zeros = 12 - length bytes in
    let is_a = first ∙ sym (word_padded bytes zeros 0) in
    let is_b = second ∙ sym (word_padded bytes zeros 4) in
    let is_c = third ∙ sym (word_padded bytes zeros 8) in
    rw (is_a, is_b, is_c) refl
