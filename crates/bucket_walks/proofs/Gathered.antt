-- The pairs that a batch lookup gathers: how many there are, what one more pair makes of them, and what a bucket does.
use Rattle.std.proofs.Common.{◌≡◌, ℕ, zero, suc, ◌+◌, ◌-◌, ◌*◌, ◌<◌, ◌≤◌, List, [], ◌∷◌, ◌++◌, length, map, take, drop, sym, refl, ap, ◌∙◌, subst, arith, Some}
use Rattle.std.specs.Prelude.{slice_get}
use Rattle.std.proofs.Math.Nat.{suc-mul, mul-le-mul_right}
use Rattle.std.proofs.lemmas.List.{take_more, take-take, drop-take, length-take, length-take-le, length-drop, map-append, length-append, append_assoc}
use Rattle.std.proofs.lemmas.Option.{get_or_from_slice_get, slice_get_within}
use Rattle.map_types.specs.declared.attr.Shape.{Shape}
use Rattle.map_types.specs.declared.kind.Side.{Side}
use Rattle.map_types.specs.declared.kind.Side.TheVariants.{Sys}
use Rattle.map_types.specs.Pairs.{pairs_of}
use Rattle.map_types.specs.Sides.{value_read}
use Rattle.map_types.specs.Stored.{Stored, IsSized}
use Rattle.map_types.specs.ValueLen.{value_len_of}
use Rattle.percpu_values.proofs.SideLemmas.{length-value_read}
use Rattle.map_types.proofs.PairLemmas.{length-pairs_of, joined_keys-pairs_of, joined_values-pairs_of, HaveSizes-pairs_of, HaveSizes-push, joined_keys-push, joined_values-push, same_pairs}
use Rattle.bucket_walks.specs.contracts.room.ReadRoom.{the_view}
use Rattle.bucket_walks.specs.declared.room.ReadRoom.TheInside.{Inside}
use Rattle.place_words.specs.Buckets.{as_read}
use Rattle.place_words.specs.Walks.{pair_of}
use Rattle.bucket_walks.specs.BatchReads.{PairsSoFar, IsOfSide, with_pairs, all_read}

-- The buffers, and what they are seen as

-- there is room for one piece more
pub room_left : (count limit size long capacity : ℕ) → count < limit → long ≡ count * size → limit * size ≤ capacity → long + size ≤ capacity
room_left count limit size long capacity below fill room =
    let one : suc count ≤ limit = omega (arith, below) in
    omega (arith, suc-mul count size, mul-le-mul_right {m = suc count} {n = limit} size one, fill, room)

-- and it fills the next places
pub fill_more : (count size : ℕ) (bytes now piece : List ℕ) → length bytes ≡ count * size → now ≡ bytes ++ piece → length piece ≡ size → length now ≡ (count + 1) * size
fill_more count size bytes now piece fill is sized =
    ap length is ∙ (omega (arith, length-append bytes piece, suc-mul count size, fill, sized))

-- the first pieces of a size
piece_kept : (n size : ℕ) (bytes : List ℕ) → take size (take (suc n * size) bytes) ≡ take size bytes
piece_kept n size bytes = take-take size (suc n * size) bytes (omega (arith, suc-mul n size))

pieces_kept : (n size : ℕ) (bytes : List ℕ) → drop size (take (suc n * size) bytes) ≡ take (n * size) (drop size bytes)
pieces_kept n size bytes = let long : suc n * size ≡ size + n * size = omega (arith, suc-mul n size) in ap (λ (k : ℕ). drop size (take k bytes)) long ∙ drop-take size (n * size) bytes

-- and the pairs of these
pub pairs_kept : (n m key_size value_size : ℕ) (keys values : List ℕ) → n ≤ m → pairs_of n key_size value_size (take (n * key_size) keys) (take (n * value_size) values) ≡ take n (pairs_of m key_size value_size keys values)
pairs_kept zero m key_size value_size keys values le = sym (take_none (pairs_of m key_size value_size keys values))
  where
    take_none : (pairs : List (List ℕ × List ℕ)) → take 0 pairs ≡ []
    take_none [] = refl
    take_none (pair ∷ pairs) = refl
pairs_kept (suc n) zero key_size value_size keys values le = absurd (omega (arith, le))
pairs_kept (suc n) (suc m) key_size value_size keys values le =
    (λ i. (piece_kept n key_size keys i, piece_kept n value_size values i) ∷ pairs_of n key_size value_size (pieces_kept n key_size keys i) (pieces_kept n value_size values i))
    ∙ ap (λ (l : List (List ℕ × List ℕ)). (take key_size keys, take value_size values) ∷ l) (pairs_kept n m key_size value_size (drop key_size keys) (drop value_size values) (omega (arith, le)))

-- the pieces that are kept fill their places
pub kept_fill : (n m size : ℕ) (bytes : List ℕ) → n ≤ m → length bytes ≡ m * size → length (take (n * size) bytes) ≡ n * size
kept_fill n m size bytes le fill = let less = mul-le-mul_right {m = n} {n = m} size le in omega (arith, length-take (n * size) bytes, less, fill)

-- the piece at an index is whole
pub piece_sized : (i count size : ℕ) (bytes piece : List ℕ) → i < count → length bytes ≡ count * size → piece ≡ take size (drop (i * size) bytes) → length piece ≡ size
piece_sized i count size bytes piece below fill is =
    let one : suc i ≤ count = omega (arith, below) in
    ap length is ∙ length-take-le size (drop (i * size) bytes) (omega (arith, length-drop (i * size) bytes, suc-mul i size, mul-le-mul_right {m = suc i} {n = count} size one, fill))

abbrev pub seen_as : List (List ℕ × List ℕ) → ℕ → ℕ → ℕ → PairsSoFar
seen_as pairs limit key_size value_size = record { pairs = pairs; limit = limit; key_size = key_size; value_size = value_size }

module _ (room : Inside) {now : PairsSoFar} (view : the_view room ≡ now) where
  abbrev gathered : List (List ℕ × List ℕ)
  gathered = pairs_of room.count room.key_size room.value_size room.keys.items room.values.items

  pub counted : length now.pairs ≡ room.count
  counted = ap (λ (p : PairsSoFar). length p.pairs) (sym view) ∙ length-pairs_of room.count room.key_size room.value_size room.keys.items room.values.items

  limit_is : now.limit ≡ room.limit
  limit_is = ap (λ (p : PairsSoFar). p.limit) (sym view)

  pub left_is : room.limit - room.count ≡ now.limit - length now.pairs
  left_is = λ i. sym limit_is i - sym counted i

  -- the piece at an index of a buffer
  pub there : (i : ℕ) → i < length now.pairs → i < room.count
  there i lt = omega (arith, counted, lt)

  pub within : room.count ≤ room.limit → length now.pairs ≤ now.limit
  within le = omega (arith, counted, limit_is, le)

  pub below : length now.pairs < now.limit → room.count < room.limit
  below lt = omega (arith, counted, limit_is, lt)

  -- the sizes are those of the map
  module _ (shape : Shape) (side : Side) (of_map : IsOfSide shape side now) where
    key_size_is : room.key_size ≡ shape.key_size
    key_size_is = ap (λ (p : PairsSoFar). p.key_size) view ∙ of_map.keys

    value_size_is : room.value_size ≡ value_len_of shape side
    value_size_is = ap (λ (p : PairsSoFar). p.value_size) view ∙ of_map.values

    pub key_fits : (capacity : ℕ) → length now.pairs < now.limit → length room.keys.items ≡ room.count * room.key_size → room.limit * room.key_size ≤ capacity → length room.keys.items + shape.key_size ≤ capacity
    key_fits capacity lt fill fits =
        subst (λ (n : ℕ). length room.keys.items + n ≤ capacity) key_size_is (room_left room.count room.limit room.key_size (length room.keys.items) capacity (below lt) fill fits)

    pub value_fits : (capacity : ℕ) → length now.pairs < now.limit → length room.values.items ≡ room.count * room.value_size → room.limit * room.value_size ≤ capacity → length room.values.items + value_len_of shape side ≤ capacity
    value_fits capacity lt fill fits =
        subst (λ (n : ℕ). length room.values.items + n ≤ capacity) value_size_is (room_left room.count room.limit room.value_size (length room.values.items) capacity (below lt) fill fits)

    pub key_sized : (body : Stored) → IsSized shape body → length body.key ≡ room.key_size
    key_sized body sized = sized.key_sized ∙ sym key_size_is

    pub value_sized : (cpu : ℕ) (body : Stored) → IsSized shape body → cpu < shape.cpus → length (value_read shape side cpu body.values) ≡ room.value_size
    value_sized cpu body sized on = length-value_read shape side cpu body.values (record { counted = sized.parts_counted; sized = sized.parts_sized }) on ∙ sym value_size_is

  -- the first pairs alone
  pub few_kept : (n : ℕ) → n ≤ length now.pairs → n ≤ room.count
  few_kept n le = omega (arith, counted, le)

  pub keeps : (n : ℕ) (keys values : List ℕ) → n ≤ length now.pairs → keys ≡ take (n * room.key_size) room.keys.items → values ≡ take (n * room.value_size) room.values.items
      → seen_as (pairs_of n room.key_size room.value_size keys values) room.limit room.key_size room.value_size ≡ record now { pairs = take n now.pairs }
  keeps n keys values le keys_are values_are =
      (λ i. seen_as (pairs_of n room.key_size room.value_size (keys_are i) (values_are i)) room.limit room.key_size room.value_size)
      ∙ ((λ i. seen_as (pairs_kept n room.count room.key_size room.value_size room.keys.items room.values.items (few_kept n le) i) room.limit room.key_size room.value_size)
      ∙ ap (λ (p : PairsSoFar). record p { pairs = take n p.pairs }) view)

  -- one pair more
  pub pair_more : (key value keys values : List ℕ) → length room.keys.items ≡ room.count * room.key_size → length room.values.items ≡ room.count * room.value_size → length key ≡ room.key_size → length value ≡ room.value_size → keys ≡ room.keys.items ++ key → values ≡ room.values.items ++ value
      → seen_as (pairs_of (room.count + 1) room.key_size room.value_size keys values) room.limit room.key_size room.value_size ≡ with_pairs now ((key, value) ∷ [])
  pair_more key value keys values keys_fill values_fill key_is value_is keys_are values_are =
      let pair : List ℕ × List ℕ = (key, value) in
      let counted_more : length (gathered ++ pair ∷ []) ≡ room.count + 1 = omega (arith, length-append gathered (pair ∷ []), length-pairs_of room.count room.key_size room.value_size room.keys.items room.values.items) in
      let more : pairs_of (room.count + 1) room.key_size room.value_size keys values ≡ gathered ++ pair ∷ [] =
      same_pairs (room.count + 1) room.key_size room.value_size keys values (gathered ++ pair ∷ [])
      (HaveSizes-push gathered pair room.key_size room.value_size (HaveSizes-pairs_of room.count room.key_size room.value_size room.keys.items room.values.items keys_fill values_fill) key_is value_is)
      counted_more
      (joined_keys-push gathered pair ∙ (ap (λ l. l ++ key) (joined_keys-pairs_of room.count room.key_size room.value_size room.keys.items room.values.items keys_fill) ∙ sym keys_are))
      (joined_values-push gathered pair ∙ (ap (λ l. l ++ value) (joined_values-pairs_of room.count room.key_size room.value_size room.keys.items room.values.items values_fill) ∙ sym values_are)) in
      (λ i. record { pairs = more i; limit = room.limit; key_size = room.key_size; value_size = room.value_size }) ∙ ap (λ (p : PairsSoFar). with_pairs p (pair ∷ [])) view

-- Bodies one after another

-- what is made of each body, up to the next one
pub map_more : {X Y : Type 0} (f : X → Y) (xs : List X) (place : ℕ) (x : X) → slice_get xs place ≡ Some x → map f (take (place + 1) xs) ≡ map f (take place xs) ++ f x ∷ []
map_more f xs place x at =
    ap (map f) (take_more xs place x (slice_get_within xs place x at) ∙ ap (λ y. take place xs ++ y ∷ []) (get_or_from_slice_get xs place x x at)) ∙ map-append f (take place xs) (x ∷ [])

module _ (shape : Shape) (cpu : ℕ) (bodies : List Stored) (place : ℕ) (body : Stored) (at : slice_get bodies place ≡ Some body) where
  pub copies_more : (copies now : List Stored) (copy : Stored) → copies ≡ all_read shape cpu (take place bodies) → copy ≡ as_read shape cpu body → now ≡ copies ++ copy ∷ [] → now ≡ all_read shape cpu (take (place + 1) bodies)
  copies_more copies now copy so_far is pushed = pushed ∙ ((λ i. so_far i ++ is i ∷ []) ∙ sym (map_more (as_read shape cpu) bodies place body at))

  pub pairs_more : (before out now : PairsSoFar) → out ≡ with_pairs before (map pair_of (all_read shape cpu (take place bodies))) → now ≡ with_pairs out ((body.key, value_read shape Sys cpu body.values) ∷ [])
      → now ≡ with_pairs before (map pair_of (all_read shape cpu (take (place + 1) bodies)))
  pairs_more before out now so_far added =
      let pair : List ℕ × List ℕ = pair_of (as_read shape cpu body) in
      let gathered : List (List ℕ × List ℕ) = map pair_of (all_read shape cpu (take place bodies)) in
      let more : gathered ++ pair ∷ [] ≡ map pair_of (all_read shape cpu (take (place + 1) bodies)) =
      sym (ap (map pair_of) (map_more (as_read shape cpu) bodies place body at) ∙ map-append pair_of (all_read shape cpu (take place bodies)) (as_read shape cpu body ∷ [])) in
      added ∙ (ap (λ (p : PairsSoFar). with_pairs p (pair ∷ [])) so_far ∙ ((λ i. seen_as (append_assoc before.pairs gathered (pair ∷ []) i) before.limit before.key_size before.value_size) ∙ ap (with_pairs before) more))
