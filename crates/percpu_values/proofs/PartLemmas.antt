-- Parts that lie end to end: how many there are, which one is at an index, what a write leaves, and that they are got back.
use Rattle.std.proofs.Common.{◌≡◌, ℕ, zero, suc, ◌+◌, ◌-◌, ◌*◌, ◌<◌, ◌≤◌, List, [], ◌∷◌, ◌++◌, length, take, drop, refl, ap, subst, ◌∙◌, sym, arith, zero-add, add-one, length-append, length-drop}
use Rattle.std.specs.Prelude.{slice_set}
use Rattle.std.specs.List.{concat}
use Rattle.std.proofs.Math.Nat.{suc-mul, zero-mul}
use Rattle.std.proofs.lemmas.List.{length-replicate, drop-drop, take_at, drop_at, length-take-le, take-append-le, drop-append-le, take-take, drop-take, take-replicate, drop-replicate}
use Rattle.map_types.specs.Parts.{zeros, zero_parts, AreOfSize, part_size, part_at}
use Rattle.map_types.proofs.PairLemmas.{piece_more, piece_first, rest_fills, take_fills}
use Rattle.percpu_values.specs.Layout.{parts_of}

-- a part lies inside
pub part_inside : (n size i : ℕ) → i < n → (i * size) + size ≤ n * size
part_inside zero size i within = absurd (omega arith)
part_inside (suc n) size zero within = omega (arith, suc-mul n size, zero-mul size)
part_inside (suc n) size (suc i) within = omega (arith, part_inside n size i (omega arith), suc-mul n size, suc-mul i size)

pub length-parts_of : (n size : ℕ) (bytes : List ℕ) → length (parts_of n size bytes) ≡ n
length-parts_of zero size bytes = refl
length-parts_of (suc n) size bytes = ap suc (length-parts_of n size (drop size bytes))

pub part_at-parts_of : (n size i : ℕ) (bytes : List ℕ) → i < n → part_at i (parts_of n size bytes) ≡ take size (drop (i * size) bytes)
part_at-parts_of zero size i bytes within = absurd (omega arith)
part_at-parts_of (suc n) size zero bytes within = piece_first size bytes
part_at-parts_of (suc n) size (suc i) bytes within =
    part_at-parts_of n size i (drop size bytes) (omega arith) ∙ piece_more i size bytes

pub sizes-parts_of : (n size : ℕ) (bytes : List ℕ) → length bytes ≡ n * size → AreOfSize size (parts_of n size bytes)
sizes-parts_of zero size bytes fill = tt
sizes-parts_of (suc n) size bytes fill =
    (take_fills n size bytes fill, sizes-parts_of n size (drop size bytes) (rest_fills n size bytes fill))

-- the size of parts that have one size
pub part_size-of : (size : ℕ) (values : List (List ℕ)) → AreOfSize size values → 0 < length values → part_size values ≡ size
part_size-of size [] sizes some = absurd (omega arith)
part_size-of size (value ∷ values) sizes some = sizes.0

pub one_size : (size : ℕ) (values : List (List ℕ)) → AreOfSize size values → AreOfSize (part_size values) values
one_size size [] sizes = tt
one_size size (value ∷ values) sizes =
    let sized = λ (k : ℕ). AreOfSize k (value ∷ values) in
    subst sized (sym sizes.0) sizes

-- the first of more than no parts is as long as all
pub part_size-parts_of : (n size : ℕ) (bytes : List ℕ) → length bytes ≡ n * size → 0 < n → part_size (parts_of n size bytes) ≡ size
part_size-parts_of n size bytes fill some =
    part_size-of size (parts_of n size bytes) (sizes-parts_of n size bytes fill) (omega (arith, length-parts_of n size bytes))

-- so many fields as there are parts, of a size that follows from that of the parts
pub fields_long : (n size : ℕ) (bytes : List ℕ) (round : ℕ → ℕ) → length bytes ≡ n * size → length (parts_of n size bytes) * round (part_size (parts_of n size bytes)) ≡ n * round size
fields_long zero size bytes round fill = rw (zero-mul, zero-mul) refl
fields_long (suc n) size bytes round fill =
    let first = take_fills n size bytes fill in
    let long = length-parts_of n size (drop size bytes) in
    rw (first, long) refl

pub parts_of-zeros : (n size : ℕ) → parts_of n size (zeros (n * size)) ≡ zero_parts n size
parts_of-zeros zero size = refl
parts_of-zeros (suc n) size =
    let long : size ≤ suc n * size = omega (arith, suc-mul n size) in
    let first = take-replicate {X = ℕ} size (suc n * size) 0 long in
    let left : suc n * size - size ≡ n * size = omega (arith, suc-mul n size) in
    let rest = drop-replicate {X = ℕ} size (suc n * size) 0 ∙ ap zeros left in
    rw (first, rest, parts_of-zeros n size) refl

-- parts that are laid end to end are got back
pub parts_of-concat : (size : ℕ) (values : List (List ℕ)) → AreOfSize size values → parts_of (length values) size (concat values) ≡ values
parts_of-concat size [] sizes = refl
parts_of-concat size (value ∷ values) sizes =
    let rest = parts_of-concat size values sizes.1 in
    let first = take_at value (concat values) size sizes.0 in
    let others = drop_at value (concat values) size sizes.0 in
    rw (first, others, rest) refl

-- a write of the first part, and one of a later part
written_first : (n size : ℕ) (bytes value : List ℕ) → length value ≡ size → parts_of (suc n) size (value ++ drop size bytes) ≡ value ∷ parts_of n size (drop size bytes)
written_first n size bytes value exact =
    let first = take_at value (drop size bytes) size exact in
    let others = drop_at value (drop size bytes) size exact in
    rw (first, others) refl

pub parts_of-written : (n size i : ℕ) (bytes value : List ℕ) → length bytes ≡ n * size → length value ≡ size → i < n → parts_of n size (take (i * size) bytes ++ (value ++ drop ((i * size) + size) bytes)) ≡ slice_set (parts_of n size bytes) i value
parts_of-written zero size i bytes value fill exact within = absurd (omega arith)
parts_of-written (suc n) size zero bytes value fill exact within =
    rw (zero-mul, zero-add) (written_first n size bytes value exact)
parts_of-written (suc n) size (suc i) bytes value fill exact within =
    let before : List ℕ = take (suc i * size) bytes in
    let after : List ℕ = value ++ drop ((suc i * size) + size) bytes in
    let inside : (suc i * size) + size ≤ suc n * size = part_inside (suc n) size (suc i) within in
    let one : size ≤ suc i * size = omega (arith, suc-mul i size) in
    let before_long : length before ≡ suc i * size = length-take-le (suc i * size) bytes (omega arith) in
    let first : take size (before ++ after) ≡ take size bytes =
    take-append-le size before after (omega arith) ∙ take-take size (suc i * size) bytes one in
    let sum : size + i * size ≡ suc i * size = omega (arith, suc-mul i size) in
    let middle : drop size before ≡ take (i * size) (drop size bytes) =
    ap (λ k. drop size (take k bytes)) (sym sum) ∙ drop-take size (i * size) bytes in
    let far : drop ((suc i * size) + size) bytes ≡ drop ((i * size) + size) (drop size bytes) =
    ap (λ k. drop k bytes) (omega arith) ∙ sym (drop-drop ((i * size) + size) size bytes) in
    let rest : drop size (before ++ after) ≡ take (i * size) (drop size bytes) ++ (value ++ drop ((i * size) + size) (drop size bytes)) =
    drop-append-le size before after (omega arith) ∙ ap (λ xs. xs ++ after) middle ∙ ap (λ xs. take (i * size) (drop size bytes) ++ (value ++ xs)) far in
    let others = parts_of-written n size i (drop size bytes) value (rest_fills n size bytes fill) exact (omega arith) in
    rw (first, rest, others) refl

-- a write leaves as many bytes as there were
pub written_fills : (len start : ℕ) (bytes now value : List ℕ) → length bytes ≡ len → start + length value ≤ len → now ≡ take start bytes ++ (value ++ drop (start + length value) bytes) → length now ≡ len
written_fills len start bytes now value fill room is =
    let past : List ℕ = drop (start + length value) bytes in
    omega (arith, ap length is, length-append (take start bytes) (value ++ past), length-append value past, length-take-le start bytes (omega arith), length-drop (start + length value) bytes)

-- one part more at the end
pub parts_of-more : (n size : ℕ) (bytes : List ℕ) → parts_of (n + 1) size bytes ≡ parts_of n size bytes ++ take size (drop (n * size) bytes) ∷ []
parts_of-more zero size bytes = rw zero-mul refl
parts_of-more (suc n) size bytes =
    let rest = parts_of-more n size (drop size bytes) in
    rw add-one (ap (λ parts. take size bytes ∷ parts) (rw add-one at rest)) ∙ ap (λ part. take size bytes ∷ (parts_of n size (drop size bytes) ++ part ∷ [])) (piece_more n size bytes)

-- what is known of values that are seen as parts: they have one size, and so many fields of it
pub seen_sizes : (n size : ℕ) (bytes : List ℕ) (values : List (List ℕ)) → parts_of n size bytes ≡ values → length bytes ≡ n * size → AreOfSize (part_size values) values
seen_sizes n size bytes values seen fill =
    let sized = λ (now : List (List ℕ)). AreOfSize (part_size now) now in
    subst sized seen (one_size size (parts_of n size bytes) (sizes-parts_of n size bytes fill))

pub seen_count : (n size : ℕ) (bytes : List ℕ) (values : List (List ℕ)) → parts_of n size bytes ≡ values → length values ≡ n
seen_count n size bytes values seen = ap length (sym seen) ∙ length-parts_of n size bytes

pub seen_size : (n size : ℕ) (bytes : List ℕ) (values : List (List ℕ)) → parts_of n size bytes ≡ values → length bytes ≡ n * size → 0 < n → part_size values ≡ size
seen_size n size bytes values seen fill some =
    ap part_size (sym seen) ∙ part_size-parts_of n size bytes fill some

pub seen_fields : (n size : ℕ) (bytes : List ℕ) (values : List (List ℕ)) (round : ℕ → ℕ) → parts_of n size bytes ≡ values → length bytes ≡ n * size → length values * round (part_size values) ≡ n * round size
seen_fields n size bytes values round seen fill =
    ap (λ (now : List (List ℕ)). length now * round (part_size now)) (sym seen) ∙ fields_long n size bytes round fill

-- a place in values that are seen as parts, and a value of their size there
pub seen_inside : (n size i : ℕ) (bytes : List ℕ) (values : List (List ℕ)) → parts_of n size bytes ≡ values → i < length values → i < n
seen_inside n size i bytes values seen within = omega (arith, seen_count n size bytes values seen)

pub seen_exact : (n size i : ℕ) (bytes value : List ℕ) (values : List (List ℕ)) → parts_of n size bytes ≡ values → length bytes ≡ n * size → i < length values → length value ≡ part_size values → length value ≡ size
seen_exact n size i bytes value values seen fill within exact =
    let inside : i < n = seen_inside n size i bytes values seen within in
    exact ∙ seen_size n size bytes values seen fill (omega arith)

pub seen_room : (n size i : ℕ) (bytes value : List ℕ) (values : List (List ℕ)) → parts_of n size bytes ≡ values → length bytes ≡ n * size → i < length values → length value ≡ part_size values → (i * size) + length value ≤ n * size
seen_room n size i bytes value values seen fill within exact =
    let inside = part_inside n size i (seen_inside n size i bytes values seen within) in
    omega (arith, inside, seen_exact n size i bytes value values seen fill within exact)

pub seen_written : (n size i : ℕ) (bytes now value : List ℕ) (values : List (List ℕ)) → parts_of n size bytes ≡ values → length bytes ≡ n * size → i < length values → length value ≡ part_size values → now ≡ take (i * size) bytes ++ (value ++ drop ((i * size) + length value) bytes) → parts_of n size now ≡ slice_set values i value
seen_written n size i bytes now value values seen fill within exact is =
    let sized = seen_exact n size i bytes value values seen fill within exact in
    let inside = seen_inside n size i bytes values seen within in
    let written = parts_of-written n size i bytes value fill sized inside in
    let at : now ≡ take (i * size) bytes ++ (value ++ drop ((i * size) + size) bytes) =
    is ∙ ap (λ k. take (i * size) bytes ++ (value ++ drop ((i * size) + k) bytes)) sized in
    ap (parts_of n size) at ∙ written ∙ ap (λ (old : List (List ℕ)). slice_set old i value) seen

pub seen_filled : (n size i : ℕ) (bytes before now value : List ℕ) (values : List (List ℕ)) → parts_of n size bytes ≡ values → length bytes ≡ n * size → i < length values → length value ≡ part_size values → length before ≡ n * size → now ≡ take (i * size) before ++ (value ++ drop ((i * size) + length value) before) → length now ≡ n * size
seen_filled n size i bytes before now value values seen fill within exact same is =
    written_fills (n * size) (i * size) before now value same (seen_room n size i bytes value values seen fill within exact) is

-- the same over bytes that are 0
pub seen_new : (n size i : ℕ) (bytes zeroed now value : List ℕ) (values : List (List ℕ)) → parts_of n size bytes ≡ values → length bytes ≡ n * size → i < length values → length value ≡ part_size values → zeroed ≡ zeros (length bytes) → now ≡ take (i * size) zeroed ++ (value ++ drop ((i * size) + length value) zeroed) → parts_of n size now ≡ slice_set (zero_parts (length values) (length value)) i value
seen_new n size i bytes zeroed now value values seen fill within exact blank is =
    let sized = seen_exact n size i bytes value values seen fill within exact in
    let inside = seen_inside n size i bytes values seen within in
    let count = seen_count n size bytes values seen in
    let blank_is : zeroed ≡ zeros (n * size) = blank ∙ ap zeros fill in
    let all : parts_of n size zeroed ≡ zero_parts (length values) (length value) =
    ap (parts_of n size) blank_is ∙ parts_of-zeros n size ∙ ap (λ k. zero_parts k size) (sym count) ∙ ap (zero_parts (length values)) (sym sized) in
    let long : length zeroed ≡ n * size = ap length blank_is ∙ length-replicate {A = ℕ} (n * size) 0 in
    let same : length (zero_parts (length values) (length value)) ≡ n = length-replicate {A = List ℕ} (length values) (zeros (length value)) ∙ count in
    let first : part_size (zero_parts (length values) (length value)) ≡ size =
    ap part_size (sym all) ∙ part_size-parts_of n size zeroed long (omega arith) in
    seen_written n size i zeroed now value (zero_parts (length values) (length value)) all long (omega arith) (sized ∙ sym first) is

-- the first parts have their size also where more follow
pub sizes-parts_of_some : (n size : ℕ) (bytes : List ℕ) → n * size ≤ length bytes → AreOfSize size (parts_of n size bytes)
sizes-parts_of_some zero size bytes long = tt
sizes-parts_of_some (suc n) size bytes long =
    let one = suc-mul n size in
    (length-take-le size bytes (omega arith), sizes-parts_of_some n size (drop size bytes) (omega (arith, length-drop size bytes)))
