-- The CPU at a place of a ring.
use Rattle.std.proofs.Common.{◌≡◌, ℕ, suc, ◌+◌, ◌-◌, ◌<◌, ◌≤◌, List, [], ◌∷◌, length, drop, get_or, refl, ap, ◌∙◌, arith, length-append, length-drop}
use Rattle.std.specs.List.{range_with_len}
use Rattle.std.proofs.Math.Seq.{drop-cons}
use Rattle.std.proofs.lemmas.List.{get_or_append_left, get_or-append_right}
use Rattle.std.proofs.lemmas.List.FromFn.{get_or-range_with_len, length-range_with_len}
use Rattle.place_words.specs.Turns.{ring}

ring_length : (cpu cpus : ℕ) → cpu < cpus → length (ring cpu cpus) ≡ cpus
ring_length cpu cpus below =
    let one = length-range_with_len cpu (cpus - cpu) in
    let two = length-range_with_len 0 cpu in
    length-append (range_with_len cpu (cpus - cpu)) (range_with_len 0 cpu) ∙ omega (arith, one, two)

there : (cpu cpus place : ℕ) → cpu < cpus → place < cpus → drop place (ring cpu cpus) ≡ get_or (ring cpu cpus) place 0 ∷ drop (place + 1) (ring cpu cpus)
there cpu cpus place below within =
    let long = ring_length cpu cpus below in
    let one : suc place ≡ place + 1 = omega arith in
    drop-cons (ring cpu cpus) place 0 (omega (arith, long)) ∙ ap (λ n. get_or (ring cpu cpus) place 0 ∷ drop n (ring cpu cpus)) one

pub upwards : (cpu cpus place : ℕ) → cpu < cpus → place < cpus → place < cpus - cpu → drop place (ring cpu cpus) ≡ (cpu + place) ∷ drop (place + 1) (ring cpu cpus)
upwards cpu cpus place below within before =
    let long = length-range_with_len cpu (cpus - cpu) in
    there cpu cpus place below within
    ∙ ap (λ c. c ∷ drop (place + 1) (ring cpu cpus))
    (get_or_append_left (range_with_len cpu (cpus - cpu)) (range_with_len 0 cpu) 0 place (omega (arith, long)) ∙ get_or-range_with_len cpu (cpus - cpu) place 0 before)

from_zero : (n : ℕ) → 0 + n ≡ n
from_zero n = omega arith

pub wrapped : (cpu cpus place : ℕ) → cpu < cpus → place < cpus → cpus - cpu ≤ place → drop place (ring cpu cpus) ≡ (place - (cpus - cpu)) ∷ drop (place + 1) (ring cpu cpus)
wrapped cpu cpus place below within behind =
    there cpu cpus place below within
    ∙ ap (λ c. c ∷ drop (place + 1) (ring cpu cpus))
    (get_or-append_right (range_with_len cpu (cpus - cpu)) (range_with_len 0 cpu) (cpus - cpu) place 0 (length-range_with_len cpu (cpus - cpu)) behind
    ∙ get_or-range_with_len 0 cpu (place - (cpus - cpu)) 0 (omega arith) ∙ from_zero (place - (cpus - cpu)))

nothing : {A : Type 0} (xs : List A) → length xs ≤ 0 → xs ≡ []
nothing [] none = refl
nothing (x ∷ xs) some = absurd (omega arith)

pub past : (cpu cpus place : ℕ) → cpu < cpus → cpus ≤ place → drop place (ring cpu cpus) ≡ []
past cpu cpus place below behind =
    let long = ring_length cpu cpus below in
    let left = length-drop place (ring cpu cpus) in
    nothing (drop place (ring cpu cpus)) (omega (arith, long, left))
