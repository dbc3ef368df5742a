-- Pairs of a key and a value that are read one after another.
use Rattle.std.proofs.Common.{◌≡◌, ℕ, suc, ◌*◌, ◌+◌, List, [], ◌∷◌, ◌++◌, length, Some, None, sym, ap, ◌∙◌, arith}
use Rattle.map_types.specs.declared.attr.Shape.{Shape}
use Rattle.map_types.specs.declared.kind.Side.{Side}
use Rattle.map_types.specs.Pairs.{HaveSizes, joined_keys, joined_values}
use Rattle.map_types.specs.ValueLen.{value_len_of}
use Rattle.map_types.proofs.PairLemmas.{joined_keys-push, joined_values-push, HaveSizes-push}
use Rattle.std.proofs.lemmas.List.{length-append}
use Rattle.std.specs.Prelude.{codes, if◌then◌else◌}
use Rattle.record_reading.specs.Readers.{◌>>=◌, after, behind, both, bytes, times}
use Rattle.record_reading.specs.ReplyReaders.{pair}
use Rattle.record_reading.specs.BucketReaders.{value, is_padded}
use Rattle.record_reading.proofs.Laws.{bound, from_some, if_some}
use Rattle.record_reading.proofs.LeafLemmas.{bytes_sized}
use Rattle.record_reading.proofs.TimesLemmas.{IsSoFar, times_more, times_none, times_done}

-- the pairs so far, which lie end to end
pub record PairsSoFar (shape : Shape) (side : Side) (count left : ℕ) (text rest keys values : List ℕ) : Type 0 where
  pub found : List (List ℕ × List ℕ)
  pub so_far : IsSoFar (pair shape side) count left text rest found
  pub has_keys : joined_keys found ≡ keys
  pub has_values : joined_values found ≡ values
  pub sizes : HaveSizes shape.key_size (value_len_of shape side) found
  pub many : length found + left ≡ count

value_sized : (shape : Shape) (side : Side) (text found rest : List ℕ) → value shape side text ≡ Some (found, rest) → length found ≡ value_len_of shape side
unfolding value
value_sized shape side text found rest is =
    let read = bound (bytes (value_len_of shape side) text) (λ a. if is_padded shape side a.0 then Some a else None) (found, rest) is in
    let same = (if_some (is_padded shape side read.0.0) read.0 (found, rest) read.2).1 in
    ap (λ (p : List ℕ × List ℕ). length p.0) (sym same) ∙ bytes_sized (value_len_of shape side) text read.0.0 read.0.1 read.1

-- a value behind its sign
behind_sign : (shape : Shape) (side : Side) (text found rest : List ℕ) → after (codes "=") (value shape side) text ≡ Some (found, rest) → length found ≡ value_len_of shape side
behind_sign shape side text found rest is =
    let sign = bound (behind (codes "=") text) (value shape side) (found, rest) is in
    value_sized shape side sign.0 found rest sign.2

-- a key and a value
key_value : (shape : Shape) (side : Side) (text found_key found rest : List ℕ) → both (bytes shape.key_size) (λ _. after (codes "=") (value shape side)) text ≡ Some ((found_key, found), rest)
    → (length found_key ≡ shape.key_size) × (length found ≡ value_len_of shape side)
key_value shape side text found_key found rest is =
    let key = bound (bytes shape.key_size text) (λ a. after (codes "=") (value shape side) a.1 >>= (λ b. Some ((a.0, b.0), b.1))) ((found_key, found), rest) is in
    let behind_key = bound (after (codes "=") (value shape side) key.0.1) (λ b. Some ((key.0.0, b.0), b.1)) ((found_key, found), rest) key.2 in
    let same = from_some ((key.0.0, behind_key.0.0), behind_key.0.1) ((found_key, found), rest) behind_key.2 in (
      ap (λ (p : (List ℕ × List ℕ) × List ℕ). length p.0.0) (sym same) ∙ bytes_sized shape.key_size text key.0.0 key.0.1 key.1,
      ap (λ (p : (List ℕ × List ℕ) × List ℕ). length p.0.1) (sym same) ∙ behind_sign shape side key.0.1 behind_key.0.0 behind_key.0.1 behind_key.1,
    )

pair_sizes : (shape : Shape) (side : Side) (text rest key found : List ℕ) → pair shape side text ≡ Some ((key, found), rest) → (length key ≡ shape.key_size) × (length found ≡ value_len_of shape side)
unfolding pair
pair_sizes shape side text rest key found is =
    let blank = bound (behind (codes " ") text) (both (bytes shape.key_size) (λ _. after (codes "=") (value shape side))) ((key, found), rest) is in
    key_value shape side blank.0 key found rest blank.2

pub pairs_more : (shape : Shape) (side : Side) (count full left : ℕ) (text rest keys values : List ℕ) → PairsSoFar shape side count full text rest keys values → full ≡ suc left
    → (key value after : List ℕ) → pair shape side rest ≡ Some ((key, value), after) → PairsSoFar shape side count left text after (keys ++ key) (values ++ value)
pairs_more shape side count full left text rest keys values so is key value after read =
    let sizes = pair_sizes shape side rest after key value read in
    record {
      found = so.found ++ (key, value) ∷ [];
      so_far = times_more (pair shape side) count full left text rest so.found so.so_far is (key, value) after read;
      has_keys = joined_keys-push so.found (key, value) ∙ ap (λ k. k ++ key) so.has_keys;
      has_values = joined_values-push so.found (key, value) ∙ ap (λ v. v ++ value) so.has_values;
      sizes = HaveSizes-push so.found (key, value) shape.key_size (value_len_of shape side) so.sizes sizes.0 sizes.1;
      many = omega (arith, so.many, is, length-append so.found ((key, value) ∷ []));
    }

pub pairs_none : (shape : Shape) (side : Side) (count full left : ℕ) (text rest keys values : List ℕ) → PairsSoFar shape side count full text rest keys values → full ≡ suc left → pair shape side rest ≡ None → times count (pair shape side) text ≡ None
pairs_none shape side count full left text rest keys values so is read = times_none (pair shape side) count full left text rest so.found so.so_far is read

-- how long the buffers are
joined_long : (key_size value_size : ℕ) (found : List (List ℕ × List ℕ)) → HaveSizes key_size value_size found → (length (joined_keys found) ≡ length found * key_size) × (length (joined_values found) ≡ length found * value_size)
joined_long key_size value_size [] sizes = (omega arith, omega arith)
joined_long key_size value_size (pair ∷ found) sizes =
    let more = joined_long key_size value_size found sizes.2 in
    (length-append pair.0 (joined_keys found) ∙ omega (arith, sizes.0, more.0), length-append pair.1 (joined_values found) ∙ omega (arith, sizes.1, more.1))

pub pairs_fill : (shape : Shape) (side : Side) (count full : ℕ) (text rest keys values : List ℕ) → PairsSoFar shape side count full text rest keys values → full ≡ 0 → (length keys ≡ count * shape.key_size) × (length values ≡ count * value_len_of shape side)
pairs_fill shape side count full text rest keys values so is =
    let long = joined_long shape.key_size (value_len_of shape side) so.found so.sizes in
    let all : length so.found ≡ count = omega (arith, so.many, is) in
    (ap length (sym so.has_keys) ∙ long.0 ∙ ap (λ n. n * shape.key_size) all, ap length (sym so.has_values) ∙ long.1 ∙ ap (λ n. n * value_len_of shape side) all)

-- what is made of the buffers is what was found
pub pairs_done : (shape : Shape) (side : Side) (count full : ℕ) (text rest keys values : List ℕ) → PairsSoFar shape side count full text rest keys values → full ≡ 0 → (made : List (List ℕ × List ℕ))
    → ((pairs : List (List ℕ × List ℕ)) → HaveSizes shape.key_size (value_len_of shape side) pairs → length pairs ≡ count → joined_keys pairs ≡ keys → joined_values pairs ≡ values → made ≡ pairs)
    → times count (pair shape side) text ≡ Some (made, rest)
pairs_done shape side count full text rest keys values so is made joined =
    let same : made ≡ so.found = joined so.found so.sizes (omega (arith, so.many, is)) so.has_keys so.has_values in
    times_done (pair shape side) count full text rest so.found so.so_far is ∙ ap (λ (l : List (List ℕ × List ℕ)). Some (l, rest)) (sym same)
