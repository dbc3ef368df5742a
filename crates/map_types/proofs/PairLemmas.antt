-- Pairs that lie end to end: how many there are, which one is at an index, and that the buffers are got back.
use Rattle.std.proofs.Common.{sym, append_assoc, append-nil, ◌≡◌, ℕ, zero, suc, ◌+◌, ◌*◌, ◌<◌, List, [], ◌∷◌, ◌++◌, length, take, drop, refl, ap, ◌∙◌, arith, length-drop}
use Rattle.std.proofs.Math.Nat.{suc-mul, zero-mul}
use Rattle.std.proofs.lemmas.List.{drop-drop, take-append-drop, take_at, drop_at, length-take-le}
use Rattle.map_types.specs.Pairs.{pairs_of, pair_at, joined_keys, joined_values, HaveSizes}

pub length-pairs_of : (n key_size value_size : ℕ) (keys values : List ℕ) → length (pairs_of n key_size value_size keys values) ≡ n
length-pairs_of zero key_size value_size keys values = refl
length-pairs_of (suc n) key_size value_size keys values =
    ap suc (length-pairs_of n key_size value_size (drop key_size keys) (drop value_size values))

-- one more piece to go over
pub piece_more : (i size : ℕ) (bytes : List ℕ) → take size (drop (i * size) (drop size bytes)) ≡ take size (drop (suc i * size) bytes)
piece_more i size bytes =
    let along : size + i * size ≡ suc i * size = omega (arith, suc-mul i size) in
    ap (take size) (drop-drop (i * size) size bytes ∙ ap (λ k. drop k bytes) along)

pub piece_first : (size : ℕ) (bytes : List ℕ) → take size bytes ≡ take size (drop (zero * size) bytes)
piece_first size bytes = rw zero-mul refl

pub key_at : (n key_size value_size i : ℕ) (keys values : List ℕ) → i < n → (pair_at (pairs_of n key_size value_size keys values) i).0 ≡ take key_size (drop (i * key_size) keys)
key_at zero key_size value_size i keys values within = absurd (omega arith)
key_at (suc n) key_size value_size zero keys values within = piece_first key_size keys
key_at (suc n) key_size value_size (suc i) keys values within =
    key_at n key_size value_size i (drop key_size keys) (drop value_size values) (omega arith) ∙ piece_more i key_size keys

pub value_at : (n key_size value_size i : ℕ) (keys values : List ℕ) → i < n → (pair_at (pairs_of n key_size value_size keys values) i).1 ≡ take value_size (drop (i * value_size) values)
value_at zero key_size value_size i keys values within = absurd (omega arith)
value_at (suc n) key_size value_size zero keys values within = piece_first value_size values
value_at (suc n) key_size value_size (suc i) keys values within =
    value_at n key_size value_size i (drop key_size keys) (drop value_size values) (omega arith) ∙ piece_more i value_size values

-- what follows the first piece is as long as the other pieces
pub rest_fills : (n size : ℕ) (bytes : List ℕ) → length bytes ≡ suc n * size → length (drop size bytes) ≡ n * size
rest_fills n size bytes fill = omega (arith, length-drop size bytes, suc-mul n size)

none_left : (size : ℕ) (bytes : List ℕ) → length bytes ≡ zero * size → [] ≡ bytes
none_left size [] fill = refl
none_left size (b ∷ bytes) fill = absurd (omega (arith, zero-mul size))

pub joined_keys-pairs_of : (n key_size value_size : ℕ) (keys values : List ℕ) → length keys ≡ n * key_size → joined_keys (pairs_of n key_size value_size keys values) ≡ keys
joined_keys-pairs_of zero key_size value_size keys values fill = none_left key_size keys fill
joined_keys-pairs_of (suc n) key_size value_size keys values fill =
    let rest = joined_keys-pairs_of n key_size value_size (drop key_size keys) (drop value_size values) (rest_fills n key_size keys fill) in
    ap (λ bytes. take key_size keys ++ bytes) rest ∙ take-append-drop key_size keys

pub joined_values-pairs_of : (n key_size value_size : ℕ) (keys values : List ℕ) → length values ≡ n * value_size → joined_values (pairs_of n key_size value_size keys values) ≡ values
joined_values-pairs_of zero key_size value_size keys values fill = none_left value_size values fill
joined_values-pairs_of (suc n) key_size value_size keys values fill =
    let rest = joined_values-pairs_of n key_size value_size (drop key_size keys) (drop value_size values) (rest_fills n value_size values fill) in
    ap (λ bytes. take value_size values ++ bytes) rest ∙ take-append-drop value_size values

-- n pieces and no more: the sizes of pairs that are taken from buffers
pub take_fills : (n size : ℕ) (bytes : List ℕ) → length bytes ≡ suc n * size → length (take size bytes) ≡ size
take_fills n size bytes fill = length-take-le size bytes (omega (arith, suc-mul n size))

pub HaveSizes-pairs_of : (n key_size value_size : ℕ) (keys values : List ℕ) → length keys ≡ n * key_size → length values ≡ n * value_size → HaveSizes key_size value_size (pairs_of n key_size value_size keys values)
HaveSizes-pairs_of zero key_size value_size keys values keys_fill values_fill = tt
HaveSizes-pairs_of (suc n) key_size value_size keys values keys_fill values_fill = (
  take_fills n key_size keys keys_fill,
  take_fills n value_size values values_fill,
  HaveSizes-pairs_of n key_size value_size (drop key_size keys) (drop value_size values) (rest_fills n key_size keys keys_fill) (rest_fills n value_size values values_fill),
)

-- pairs whose keys and values are laid end to end are got back
pub pairs_of-joined : (pairs : List (List ℕ × List ℕ)) (key_size value_size : ℕ) → HaveSizes key_size value_size pairs → pairs_of (length pairs) key_size value_size (joined_keys pairs) (joined_values pairs) ≡ pairs
pairs_of-joined [] key_size value_size sizes = refl
pairs_of-joined (pair ∷ pairs) key_size value_size sizes =
    let rest = pairs_of-joined pairs key_size value_size sizes.2 in
    let first_key = take_at pair.0 (joined_keys pairs) key_size sizes.0 in
    let first_value = take_at pair.1 (joined_values pairs) value_size sizes.1 in
    let other_keys = drop_at pair.0 (joined_keys pairs) key_size sizes.0 in
    let other_values = drop_at pair.1 (joined_values pairs) value_size sizes.1 in
    rw (first_key, first_value, other_keys, other_values, rest) refl

pub same_pairs : (count key_size value_size : ℕ) (keys values : List ℕ) (pairs : List (List ℕ × List ℕ)) → HaveSizes key_size value_size pairs → length pairs ≡ count → joined_keys pairs ≡ keys → joined_values pairs ≡ values → pairs_of count key_size value_size keys values ≡ pairs
same_pairs count key_size value_size keys values pairs sizes counted keys_are values_are =
    rw (← counted, ← keys_are, ← values_are) (pairs_of-joined pairs key_size value_size sizes)

-- one more pair at the end
pub joined_keys-push : (pairs : List (List ℕ × List ℕ)) (pair : List ℕ × List ℕ) → joined_keys (pairs ++ pair ∷ []) ≡ joined_keys pairs ++ pair.0
joined_keys-push [] pair = append-nil pair.0
joined_keys-push (first ∷ pairs) pair =
    ap (λ bytes. first.0 ++ bytes) (joined_keys-push pairs pair) ∙ sym (append_assoc first.0 (joined_keys pairs) pair.0)

pub joined_values-push : (pairs : List (List ℕ × List ℕ)) (pair : List ℕ × List ℕ) → joined_values (pairs ++ pair ∷ []) ≡ joined_values pairs ++ pair.1
joined_values-push [] pair = append-nil pair.1
joined_values-push (first ∷ pairs) pair =
    ap (λ bytes. first.1 ++ bytes) (joined_values-push pairs pair) ∙ sym (append_assoc first.1 (joined_values pairs) pair.1)

pub HaveSizes-push : (pairs : List (List ℕ × List ℕ)) (pair : List ℕ × List ℕ) (key_size value_size : ℕ) → HaveSizes key_size value_size pairs → length pair.0 ≡ key_size → length pair.1 ≡ value_size → HaveSizes key_size value_size (pairs ++ pair ∷ [])
HaveSizes-push [] pair key_size value_size sizes key value = (key, value, tt)
HaveSizes-push (first ∷ pairs) pair key_size value_size sizes key value =
    (sizes.0, sizes.1, HaveSizes-push pairs pair key_size value_size sizes.2 key value)
