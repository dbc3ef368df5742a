-- Bits that turns tell without clearing them.
use Rattle.std.proofs.Common.{◌≡◌, ℕ, ◌<◌, ◌≤◌, Bool, List, [], ◌∷◌, refl, ap, ◌∙◌, subst, arith}
use Rattle.map_types.specs.declared.attr.Shape.{Shape}
use Rattle.map_types.specs.declared.row.Row.{Row}
use Rattle.map_types.specs.ElementLists.{times}
use Rattle.map_types.specs.Listed.{elements_of}
use Rattle.place_words.specs.declared.visits.Visit.{Visit}
use Rattle.place_words.specs.Histories.{bits_read}
use Rattle.place_words.specs.Logs.{State}
use Rattle.place_words.specs.Rotation.{visited_elements, visits_of}
use Rattle.place_words.specs.Turns.{Turn}
use Rattle.place_words.proofs.BucketLaws.{times_more}
use Rattle.place_words.proofs.ChaseDone.{times_one}
use Rattle.serial_laws.proofs.TurnsMade.{found_of, found_rows}

-- the bits of so many elements that these visits read
abbrev pub ReadBits : ℕ → (ℕ → Bool) → List Visit → Type 0
ReadBits n bits [] = Unit {0}
ReadBits n bits (visit ∷ visits) = (visit.element < n → visit.bit ≡ bits visit.element) × ReadBits n bits visits

-- a turn tells what it reads of bits as they are at its moment
abbrev pub ReadsBits : Shape → State → Turn → Type 0
ReadsBits shape state turn = ReadBits shape.elements state.bits (bits_read turn.part)

read_are : (n : ℕ) (bits : ℕ → Bool) (visits : List Visit) → ((e : ℕ) → 1 ≤ times e (visited_elements visits) → e < n) → ReadBits n bits visits → visits ≡ found_of bits (visited_elements visits)
read_are n bits [] real read = refl
read_are n bits (visit ∷ visits) real read =
    let named = λ (e : ℕ). times_more e visit.element (visited_elements visits) in
    let rest : visits ≡ found_of bits (visited_elements visits) = read_are n bits visits (λ e some. real e (omega (arith, some, named e))) read.1 in
    let bit : visit.bit ≡ bits visit.element = read.0 (real visit.element (omega (arith, named visit.element, times_one visit.element))) in
    (λ i. record { element = visit.element; bit = bit i } ∷ rest i)

pub visits_read : (n : ℕ) (bits : ℕ → Bool) (rows : List Row) (visits : List Visit) → ((e : ℕ) → 1 ≤ times e (elements_of rows) → e < n) → visited_elements visits ≡ elements_of rows → ReadBits n bits visits → visits ≡ visits_of bits rows
visits_read n bits rows visits real named read =
    read_are n bits visits (λ e some. real e (subst (λ (es : List ℕ). 1 ≤ times e es) named some)) read ∙ ap (found_of bits) named ∙ found_rows bits rows
