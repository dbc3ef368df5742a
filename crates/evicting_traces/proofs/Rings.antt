-- The CPU at a place of a round.
use Rattle.std.proofs.Common.{◌≡◌, ℕ, suc, ◌+◌, ◌-◌, ◌<◌, ◌≤◌, [], ◌∷◌, length, drop, get_or, ap, ◌∙◌, arith, length-append, length-drop}
use Rattle.std.specs.List.{range_with_len}
use Rattle.std.proofs.Math.Seq.{drop-cons}
use Rattle.std.proofs.lemmas.List.{get_or_append_left, get_or-append_right}
use Rattle.std.proofs.lemmas.List.FromFn.{get_or-range_with_len, length-range_with_len}
use Rattle.place_words.specs.Turns.{ring}
use Rattle.evicting_traces.proofs.Ways.{nothing}

ring_length : (start cpus : ℕ) → length (ring start cpus) ≡ cpus - start + start
ring_length start cpus =
    let one = length-range_with_len start (cpus - start) in
    let two = length-range_with_len 0 start in
    length-append (range_with_len start (cpus - start)) (range_with_len 0 start) ∙ omega (arith, one, two)

there : (start cpus place : ℕ) → place < cpus - start + start → drop place (ring start cpus) ≡ get_or (ring start cpus) place 0 ∷ drop (place + 1) (ring start cpus)
there start cpus place within =
    let long = ring_length start cpus in
    let one : suc place ≡ place + 1 = omega arith in
    drop-cons (ring start cpus) place 0 (omega (arith, long, within)) ∙ ap (λ n. get_or (ring start cpus) place 0 ∷ drop n (ring start cpus)) one

pub upwards : (start cpus place : ℕ) → place < cpus - start + start → place < cpus - start → drop place (ring start cpus) ≡ (start + place) ∷ drop (place + 1) (ring start cpus)
upwards start cpus place within before =
    let long = length-range_with_len start (cpus - start) in
    there start cpus place within
    ∙ ap (λ c. c ∷ drop (place + 1) (ring start cpus))
    (get_or_append_left (range_with_len start (cpus - start)) (range_with_len 0 start) 0 place (omega (arith, long, before)) ∙ get_or-range_with_len start (cpus - start) place 0 before)

from_zero : (n : ℕ) → 0 + n ≡ n
from_zero n = omega arith

pub wrapped : (start cpus place : ℕ) → place < cpus - start + start → cpus - start ≤ place → drop place (ring start cpus) ≡ (place - (cpus - start)) ∷ drop (place + 1) (ring start cpus)
wrapped start cpus place within behind =
    there start cpus place within
    ∙ ap (λ c. c ∷ drop (place + 1) (ring start cpus))
    (get_or-append_right (range_with_len start (cpus - start)) (range_with_len 0 start) (cpus - start) place 0 (length-range_with_len start (cpus - start)) behind
    ∙ get_or-range_with_len 0 start (place - (cpus - start)) 0 (omega (arith, within, behind)) ∙ from_zero (place - (cpus - start)))

pub past : (start cpus place : ℕ) → cpus - start + start ≤ place → drop place (ring start cpus) ≡ []
past start cpus place behind =
    let long = ring_length start cpus in
    let left = length-drop place (ring start cpus) in
    nothing (drop place (ring start cpus)) (omega (arith, long, left, behind))
