-- Bytes that are the first ones of an array.
use Rattle.std.proofs.Common.{◌≡◌, refl, ℕ, ◌+◌, ◌≤◌, List, ◌++◌, length, take, drop, ap, ◌∙◌, sym, append_assoc, arith, length-append, length-drop}
use Rattle.std.proofs.lemmas.List.{take-append-drop, take_at, take_all, take-append-le, drop-append-le, length-take-le, drop-drop}

-- a list after bytes are written over those at a place
abbrev written_at : ℕ → List ℕ → List ℕ → List ℕ
written_at start source bytes = take start bytes ++ (source ++ drop (start + length source) bytes)

-- a write that stays within the first part of a list leaves what is behind it
front_written : (front rest source : List ℕ) (start : ℕ) → start + length source ≤ length front → written_at start source (front ++ rest) ≡ written_at start source front ++ rest
front_written front rest source start fits =
    let before = take-append-le start front rest (omega arith) in
    let after = drop-append-le (start + length source) front rest fits in
    let past : List ℕ = drop (start + length source) front in
    rw (before, after) (sym (append_assoc (take start front) (source ++ past) rest ∙ ap (λ bytes. take start front ++ bytes) (append_assoc source past rest)))

length-written : (front source : List ℕ) (start : ℕ) → start + length source ≤ length front → length (written_at start source front) ≡ length front
length-written front source start fits =
    let past : List ℕ = drop (start + length source) front in
    omega (arith, length-append (take start front) (source ++ past), length-append source past, length-take-le start front (omega arith), length-drop (start + length source) front)

first_written : (len start : ℕ) (bytes source : List ℕ) → len ≤ length bytes → start + length source ≤ len → take len (written_at start source bytes) ≡ written_at start source (take len bytes)
first_written len start bytes source within fits =
    let front : List ℕ = take len bytes in
    let rest : List ℕ = drop len bytes in
    let long : length front ≡ len = length-take-le len bytes within in
    let room : start + length source ≤ length front = omega arith in
    let split : bytes ≡ front ++ rest = sym (take-append-drop len bytes) in
    ap (λ all. take len (written_at start source all)) split ∙ ap (take len) (front_written front rest source start room) ∙ take_at (written_at start source front) rest len (length-written front source start room ∙ long)

-- so bytes that are copied to a part of the array are written to those that it stands for
pub copied_within : (len start count : ℕ) (bytes source now copied : List ℕ) → len ≤ length bytes → take len bytes ≡ now → start + length source ≤ length now → count ≡ length source → copied ≡ source → take len (take start bytes ++ (copied ++ drop count (drop start bytes))) ≡ take start now ++ (source ++ drop (start + length source) now)
copied_within len start count bytes source now copied within seen fits counted same =
    let long : length now ≡ len = sym (ap length seen) ∙ length-take-le len bytes within in
    let behind : drop count (drop start bytes) ≡ drop (start + length source) bytes =
    drop-drop count start bytes ∙ ap (λ n. drop (start + n) bytes) counted in
    ap (λ past. take len (take start bytes ++ (copied ++ past))) behind ∙ ap (λ (piece : List ℕ). take len (take start bytes ++ (piece ++ drop (start + length source) bytes))) same ∙ first_written len start bytes source within (omega arith) ∙ ap (written_at start source) seen

-- bytes of which so many are copied to the front of others
pub front_taken : (source new rest : List ℕ) (n : ℕ) → length source ≡ n → new ≡ take n source → take (length source) (new ++ rest) ≡ source
front_taken source new rest n long copied =
    let whole : take n source ≡ source = take_all n source (omega (arith, long)) in
    let same : new ≡ source = copied ∙ whole in
    rw same (take_at source rest (length source) refl)
