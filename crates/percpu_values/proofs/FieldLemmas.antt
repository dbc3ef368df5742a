-- Fields that lie end to end.
use Rattle.std.proofs.Common.{◌≡◌, ℕ, zero, suc, ◌+◌, ◌-◌, ◌*◌, ◌<◌, ◌≤◌, List, [], ◌∷◌, ◌++◌, length, take, drop, refl, ap, ◌∙◌, sym, arith, add-one, append_assoc, append-nil, length-drop, length-append}
use Rattle.std.specs.List.{concat}
use Rattle.std.proofs.Math.Nat.{suc-mul, zero-mul}
use Rattle.std.proofs.lemmas.List.{length-replicate, drop-drop, take_at, drop_at, length-take-le}
use Rattle.map_types.specs.ValueLen.{round8}
use Rattle.map_types.specs.Parts.{zeros, AreOfSize, part_size, field_of, fields_of, values_in}
use Rattle.percpu_values.specs.Layout.{parts_of}
use Rattle.percpu_values.proofs.PartLemmas.{part_inside, length-parts_of, parts_of-more, parts_of-concat, sizes-parts_of_some, seen_count, seen_size}

pub concat-push : (xs : List (List ℕ)) (x : List ℕ) → concat (xs ++ x ∷ []) ≡ concat xs ++ x
concat-push [] x = append-nil x
concat-push (y ∷ xs) x = ap (λ bytes. y ++ bytes) (concat-push xs x) ∙ sym (append_assoc y (concat xs) x)

pub fields_of-push : (values : List (List ℕ)) (value : List ℕ) → fields_of (values ++ value ∷ []) ≡ fields_of values ++ field_of value
fields_of-push [] value = append-nil (field_of value)
fields_of-push (first ∷ values) value =
    ap (λ bytes. field_of first ++ bytes) (fields_of-push values value) ∙ sym (append_assoc (field_of first) (fields_of values) (field_of value))

-- a value is not longer than its field
pub round8_above : (n : ℕ) → n ≤ round8 n
round8_above n = omega arith

pub length-field_of : (value : List ℕ) → length (field_of value) ≡ round8 (length value)
length-field_of value =
    omega (arith, round8_above (length value), length-append value (zeros (round8 (length value) - length value)), length-replicate {A = ℕ} (round8 (length value) - length value) 0)

pub length-fields_of : (size : ℕ) (values : List (List ℕ)) → AreOfSize size values → length (fields_of values) ≡ length values * round8 size
length-fields_of size [] sizes = rw zero-mul refl
length-fields_of size (value ∷ values) sizes =
    let rest = length-fields_of size values sizes.1 in
    let first : length (field_of value) ≡ round8 size = length-field_of value ∙ ap round8 sizes.0 in
    omega (arith, rest, first, length-append (field_of value) (fields_of values), suc-mul (length values) (round8 size))

pub length-concat : (size : ℕ) (values : List (List ℕ)) → AreOfSize size values → length (concat values) ≡ length values * size
length-concat size [] sizes = rw zero-mul refl
length-concat size (value ∷ values) sizes =
    let rest = length-concat size values sizes.1 in
    omega (arith, rest, sizes.0, length-append value (concat values), suc-mul (length values) size)

-- Pieces are laid end to end over a buffer, one after another: what is done so far, and then the buffer from there on.
pub laid_more : (at next : ℕ) (done piece start now : List ℕ) → length done ≡ at → now ≡ done ++ drop at start → length piece ≡ next → at + next ≤ length start → take at now ++ (piece ++ drop (at + next) now) ≡ (done ++ piece) ++ drop (at + next) start
laid_more at next done piece start now long so_far sized inside =
    let front : take at now ≡ done = ap (take at) so_far ∙ take_at done (drop at start) at long in
    let back : drop (at + next) now ≡ drop (at + next) start =
    sym (drop-drop next at now) ∙ ap (drop next) (ap (drop at) so_far ∙ drop_at done (drop at start) at long) ∙ drop-drop next at start in
    rw (front, back) (sym (append_assoc done piece (drop (at + next) start)))

pub length-values_in : (n size : ℕ) (fields : List ℕ) → length (values_in n size fields) ≡ n
length-values_in zero size fields = refl
length-values_in (suc n) size fields = ap suc (length-values_in n size (drop (round8 size) fields))

-- the values in as many fields as there are have their size
pub sizes-values_in : (n size : ℕ) (fields : List ℕ) → n * round8 size ≤ length fields → AreOfSize size (values_in n size fields)
sizes-values_in zero size fields long = tt
sizes-values_in (suc n) size fields long =
    let one = suc-mul n (round8 size) in
    let above = round8_above size in
    (length-take-le size fields (omega arith), sizes-values_in n size (drop (round8 size) fields) (omega (arith, length-drop (round8 size) fields)))

-- values that are laid in fields lie in these fields
pub values_in-fields_of : (size : ℕ) (values : List (List ℕ)) → AreOfSize size values → values_in (length values) size (fields_of values) ≡ values
values_in-fields_of size [] sizes = refl
values_in-fields_of size (value ∷ values) sizes =
    let pad : List ℕ = zeros (round8 (length value) - length value) in
    let head : take size (field_of value ++ fields_of values) ≡ value =
    ap (take size) (append_assoc value pad (fields_of values)) ∙ take_at value (pad ++ fields_of values) size sizes.0 in
    let tail : drop (round8 size) (field_of value ++ fields_of values) ≡ fields_of values =
    drop_at (field_of value) (fields_of values) (round8 size) (length-field_of value ∙ ap round8 sizes.0) in
    ap (λ (z : List ℕ × List ℕ). z.0 ∷ values_in (length values) size z.1) (λ i. (head i, tail i)) ∙ ap (λ rest. value ∷ rest) (values_in-fields_of size values sizes.1)

value_more : (i size : ℕ) (fields : List ℕ) → take size (drop (i * round8 size) (drop (round8 size) fields)) ≡ take size (drop (suc i * round8 size) fields)
value_more i size fields =
    let along : round8 size + i * round8 size ≡ suc i * round8 size = omega (arith, suc-mul i (round8 size)) in
    ap (take size) (drop-drop (i * round8 size) (round8 size) fields ∙ ap (λ k. drop k fields) along)

pub values_in-more : (n size : ℕ) (fields : List ℕ) → values_in (n + 1) size fields ≡ values_in n size fields ++ take size (drop (n * round8 size) fields) ∷ []
values_in-more zero size fields = rw zero-mul refl
values_in-more (suc n) size fields =
    let rest = values_in-more n size (drop (round8 size) fields) in
    rw add-one (ap (λ values. take size fields ∷ values) (rw add-one at rest)) ∙ ap (λ value. take size fields ∷ (values_in n size (drop (round8 size) fields) ++ value ∷ [])) (value_more n size fields)

-- one part more in its field
pub parts_laid : (n size i field : ℕ) (bytes start now after value : List ℕ) → field ≡ round8 size → length bytes ≡ n * size → length start ≡ n * round8 size → i < n → now ≡ fields_of (parts_of i size bytes) ++ drop (i * round8 size) start → value ≡ take size (drop (i * size) bytes) → after ≡ take (i * field) now ++ (field_of value ++ drop ((i * field) + field) now) → after ≡ fields_of (parts_of (i + 1) size bytes) ++ drop ((i + 1) * round8 size) start
parts_laid n size i field bytes start now after value rounded fill exact within so_far is laid =
    let done : List ℕ = fields_of (parts_of i size bytes) in
    let below = part_inside n size i within in
    let room = part_inside n (round8 size) i within in
    let front_sizes : AreOfSize size (parts_of i size bytes) = sizes-parts_of_some i size bytes (omega arith) in
    let long : length done ≡ i * round8 size =
    length-fields_of size (parts_of i size bytes) front_sizes ∙ ap (λ k. k * round8 size) (length-parts_of i size bytes) in
    let sized : length value ≡ size =
    ap length is ∙ length-take-le size (drop (i * size) bytes) (omega (arith, length-drop (i * size) bytes)) in
    let piece_long : length (field_of value) ≡ round8 size = length-field_of value ∙ ap round8 sized in
    let placed : after ≡ take (i * round8 size) now ++ (field_of value ++ drop ((i * round8 size) + round8 size) now) =
    laid ∙ ap (λ k. take (i * k) now ++ (field_of value ++ drop ((i * k) + k) now)) rounded in
    let step = laid_more (i * round8 size) (round8 size) done (field_of value) start now long so_far piece_long (omega arith) in
    let more : done ++ field_of value ≡ fields_of (parts_of (i + 1) size bytes) =
    sym (ap fields_of (parts_of-more i size bytes) ∙ fields_of-push (parts_of i size bytes) (take size (drop (i * size) bytes)) ∙ ap (λ part. done ++ field_of part) (sym is)) in
    let along : (i * round8 size) + round8 size ≡ (i + 1) * round8 size = omega (arith, suc-mul i (round8 size)) in
    placed ∙ step ∙ ap (λ xs. xs ++ drop ((i * round8 size) + round8 size) start) more ∙ ap (λ k. fields_of (parts_of (i + 1) size bytes) ++ drop k start) along

-- a value that is taken from its field has room at its part
pub value_fits : (n size i field : ℕ) (fields value : List ℕ) → field ≡ round8 size → length fields ≡ n * round8 size → i < n → value ≡ take size (drop (i * field) fields) → (i * size) + length value ≤ n * size
value_fits n size i field fields value rounded exact within is =
    let below = part_inside n size i within in
    let room = part_inside n (round8 size) i within in
    let above = round8_above size in
    let from : value ≡ take size (drop (i * round8 size) fields) = is ∙ ap (λ k. take size (drop (i * k) fields)) rounded in
    omega (arith, ap length from, length-take-le size (drop (i * round8 size) fields) (omega (arith, length-drop (i * round8 size) fields)))

-- one value more from its field
pub values_laid : (n size i field : ℕ) (fields start now after value : List ℕ) → field ≡ round8 size → length start ≡ n * size → length fields ≡ n * round8 size → i < n → now ≡ concat (values_in i size fields) ++ drop (i * size) start → value ≡ take size (drop (i * field) fields) → after ≡ take (i * size) now ++ (value ++ drop ((i * size) + length value) now) → after ≡ concat (values_in (i + 1) size fields) ++ drop ((i + 1) * size) start
values_laid n size i field fields start now after value rounded fill exact within so_far is laid =
    let done : List ℕ = concat (values_in i size fields) in
    let below = part_inside n size i within in
    let room = part_inside n (round8 size) i within in
    let above = round8_above size in
    let front_sizes : AreOfSize size (values_in i size fields) = sizes-values_in i size fields (omega arith) in
    let long : length done ≡ i * size =
    length-concat size (values_in i size fields) front_sizes ∙ ap (λ k. k * size) (length-values_in i size fields) in
    let from : value ≡ take size (drop (i * round8 size) fields) = is ∙ ap (λ k. take size (drop (i * k) fields)) rounded in
    let sized : length value ≡ size =
    ap length from ∙ length-take-le size (drop (i * round8 size) fields) (omega (arith, length-drop (i * round8 size) fields)) in
    let placed : after ≡ take (i * size) now ++ (value ++ drop ((i * size) + size) now) =
    laid ∙ ap (λ k. take (i * size) now ++ (value ++ drop ((i * size) + k) now)) sized in
    let step = laid_more (i * size) size done value start now long so_far sized (omega arith) in
    let more : done ++ value ≡ concat (values_in (i + 1) size fields) =
    sym (ap concat (values_in-more i size fields) ∙ concat-push (values_in i size fields) (take size (drop (i * round8 size) fields)) ∙ ap (λ part. done ++ part) (sym from)) in
    let along : (i * size) + size ≡ (i + 1) * size = omega (arith, suc-mul i size) in
    placed ∙ step ∙ ap (λ xs. xs ++ drop ((i * size) + size) start) more ∙ ap (λ k. concat (values_in (i + 1) size fields) ++ drop k start) along

-- values that are seen as parts, after all of them are written from their fields
pub seen_in_fields : (n size : ℕ) (bytes now fields : List ℕ) (values : List (List ℕ)) → parts_of n size bytes ≡ values → length bytes ≡ n * size → length fields ≡ n * round8 size → now ≡ concat (values_in n size fields) → parts_of n size now ≡ values_in (length values) (part_size values) fields
seen_in_fields zero size bytes now fields values seen fill exact is =
    let none : length values ≡ 0 = seen_count zero size bytes values seen in
    sym (ap (λ k. values_in k (part_size values) fields) none)
seen_in_fields (suc n) size bytes now fields values seen fill exact is =
    let count : length values ≡ suc n = seen_count (suc n) size bytes values seen in
    let sized : part_size values ≡ size = seen_size (suc n) size bytes values seen fill (omega arith) in
    let long = length-values_in (suc n) size fields in
    let back = parts_of-concat size (values_in (suc n) size fields) (sizes-values_in (suc n) size fields (omega arith)) in
    ap (parts_of (suc n) size) is ∙ ap (λ k. parts_of k size (concat (values_in (suc n) size fields))) (sym long) ∙ back ∙ ap (λ k. values_in k size fields) (sym count) ∙ ap (λ k. values_in (length values) k fields) (sym sized)
