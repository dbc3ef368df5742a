-- How the hash takes a block of a key, and its last bytes.
use Rattle.std.proofs.Common.{◌≡◌, ℕ, ◌+◌, ◌<◌, ◌≤◌, List, [], ◌∷◌, length, take, drop, refl, arith}
use Rattle.key_hash.specs.Jhash.{Words, add_block, mix, finish, padded, absorb}

-- more than twelve bytes: the first twelve are added and mixed in
absorb-block : (w : Words) (bytes : List ℕ) → 12 < length bytes → absorb w bytes ≡ absorb (mix (add_block w (take 12 bytes))) (drop 12 bytes)
unfolding absorb
absorb-block w (b0 ∷ b1 ∷ b2 ∷ b3 ∷ b4 ∷ b5 ∷ b6 ∷ b7 ∷ b8 ∷ b9 ∷ b10 ∷ b11 ∷ next ∷ rest) h = refl
absorb-block w few h = absurd (omega arith)

-- one to twelve bytes: they are padded and added, and the final mix follows
absorb-last : (w : Words) (bytes : List ℕ) → 1 ≤ length bytes → length bytes ≤ 12 → absorb w bytes ≡ finish (add_block w (padded bytes))
unfolding absorb
absorb-last w [] h g = absurd (omega arith)
absorb-last w (b0 ∷ b1 ∷ b2 ∷ b3 ∷ b4 ∷ b5 ∷ b6 ∷ b7 ∷ b8 ∷ b9 ∷ b10 ∷ b11 ∷ next ∷ rest) h g = absurd (omega arith)
absorb-last w few h g = refl

-- A block that bytes follow, added to w and mixed in, leaves the words v and what is left of the bytes.
pub takes_block : (w added v : Words) (bytes block left : List ℕ) → 1 ≤ length left → (block ≡ take 12 bytes) × (left ≡ drop 12 bytes) × (length left + 12 ≡ length bytes) → added ≡ add_block w block → v ≡ mix added → absorb v left ≡ absorb w bytes
takes_block w added v bytes block left some cut is_added is_mixed =
    let step = absorb-block w bytes (omega arith) in
    cc

-- The last bytes, padded, added to w and mixed for the last time.
pub takes_last : (w added : Words) (bytes : List ℕ) → 1 ≤ length bytes → length bytes ≤ 12 → added ≡ add_block w (padded bytes) → finish added ≡ absorb w bytes
takes_last w added bytes some few is_added =
    let step = absorb-last w bytes some few in
    cc
