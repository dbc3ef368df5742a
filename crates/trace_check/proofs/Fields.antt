-- The value in a CPU's field.
use Rattle.std.proofs.Common.{◌≡◌, ℕ, zero, suc, ◌+◌, ◌-◌, ◌*◌, ◌<◌, min, List, [], ◌∷◌, length, take, drop, refl, ap, sym, ◌∙◌, arith, length-drop}
use Rattle.std.proofs.lemmas.List.{take_min, take_all, drop_min}
use Rattle.map_types.specs.Parts.{part_at, values_in}
use Rattle.map_types.specs.ValueLen.{round8}

drop_none : (n : ℕ) → drop {A = ℕ} n [] ≡ []
drop_none zero = refl
drop_none (suc n) = refl

dropped_twice : (n m : ℕ) (xs : List ℕ) → drop n (drop m xs) ≡ drop (m + n) xs
dropped_twice n zero xs = let same : n ≡ 0 + n = omega arith in ap (λ (k : ℕ). drop k xs) same
dropped_twice n (suc m) [] =
    let more : suc m + n ≡ suc (m + n) = omega arith in
    drop_none n ∙ sym (ap (λ (k : ℕ). drop k []) more)
dropped_twice n (suc m) (x ∷ xs) =
    let more : suc m + n ≡ suc (m + n) = omega arith in
    dropped_twice n m xs ∙ sym (ap (λ (k : ℕ). drop k (x ∷ xs)) more)

at_field : (cpus cpu size : ℕ) (fields : List ℕ) → cpu < cpus → part_at cpu (values_in cpus size fields) ≡ take size (drop (cpu * round8 size) fields)
at_field zero cpu size fields below = absurd (omega arith)
at_field (suc cpus) zero size fields below =
    let none : 0 * round8 size ≡ 0 = omega arith in
    sym (ap (λ (k : ℕ). take size (drop k fields)) none)
at_field (suc cpus) (suc cpu) size fields below =
    let more : round8 size + cpu * round8 size ≡ suc cpu * round8 size = times_more cpu (round8 size) in
    at_field cpus cpu size (drop (round8 size) fields) (omega arith)
    ∙ ap (take size) (dropped_twice (cpu * round8 size) (round8 size) fields ∙ ap (λ (k : ℕ). drop k fields) more)
  where
    times_more : (n m : ℕ) → m + n * m ≡ suc n * m
    times_more n m = search arith

all_left : (start : ℕ) (xs : List ℕ) → take (length xs - start) (drop start xs) ≡ drop start xs
all_left start xs = let long = length-drop start xs in take_all (length xs - start) (drop start xs) (omega (arith, long))

pub field_is : (cpus cpu size field start long : ℕ) (fields : List ℕ) → cpu < cpus → field ≡ round8 size → start ≡ min (cpu * field) (length fields)
    → long ≡ min size (length (take (length fields - start) (drop start fields)))
    → take long (take (length fields - start) (drop start fields)) ≡ part_at cpu (values_in cpus size fields)
field_is cpus cpu size field start long fields below field_size start_is long_is =
    let rest = take (length fields - start) (drop start fields) in
    ap (λ (n : ℕ). take n rest) long_is ∙ take_min size rest ∙ ap (take size) (all_left start fields)
    ∙ ap (λ (n : ℕ). take size (drop n fields)) start_is ∙ ap (take size) (drop_min (cpu * field) fields)
    ∙ ap (λ (n : ℕ). take size (drop (cpu * n) fields)) field_size
    ∙ sym (at_field cpus cpu size fields below)
