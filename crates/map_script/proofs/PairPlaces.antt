-- Reading pairs one after another.
use Rattle.std.proofs.Common.{◌≡◌, ℕ, ◌+◌, ◌*◌, List, [], ◌∷◌, ◌++◌, length, Result, Ok, sym, ap, subst, ◌∙◌, length-append, arith}
use Rattle.map_types.specs.Pairs.{pairs_of}
use Rattle.map_types.proofs.PairLemmas.{length-pairs_of, joined_keys-pairs_of, joined_values-pairs_of, HaveSizes-pairs_of, same_pairs, joined_keys-push, joined_values-push, HaveSizes-push}
use Rattle.map_types.specs.ValueLen.{value_len_of}
use Rattle.map_types.specs.declared.attr.Shape.{Shape}
use Rattle.map_types.specs.declared.kind.Side.TheVariants.{Sys}
use Rattle.map_script.specs.declared.refusal.Cause.{Cause}
use Rattle.map_script.specs.Grammar.{pairs_to_end}
use Rattle.map_script.specs.Places.{Tokens, bytes}
use Rattle.map_script.proofs.Fronts.{with_front, fronted, front_more}
use Rattle.map_script.proofs.PlaceLemmas.{bytes_found, bytes_has}

-- one more pair at the end of the buffers
pub pairs_more : (n key_size value_size : ℕ) (keys values key value : List ℕ) → length keys ≡ n * key_size → length values ≡ n * value_size → length key ≡ key_size → length value ≡ value_size
    → pairs_of (n + 1) key_size value_size (keys ++ key) (values ++ value) ≡ pairs_of n key_size value_size keys values ++ (key, value) ∷ []
pairs_more n key_size value_size keys values key value keys_fill values_fill key_fits value_fits =
    let front = pairs_of n key_size value_size keys values in
    same_pairs (n + 1) key_size value_size (keys ++ key) (values ++ value) (front ++ (key, value) ∷ [])
    (HaveSizes-push front (key, value) key_size value_size (HaveSizes-pairs_of n key_size value_size keys values keys_fill values_fill) key_fits value_fits)
    (omega (arith, length-append front ((key, value) ∷ []), length-pairs_of n key_size value_size keys values))
    (joined_keys-push front (key, value) ∙ ap (λ bytes. bytes ++ key) (joined_keys-pairs_of n key_size value_size keys values keys_fill))
    (joined_values-push front (key, value) ∙ ap (λ bytes. bytes ++ value) (joined_values-pairs_of n key_size value_size keys values values_fill))

-- a key and a value, and then the pairs behind them
pub pairs_first : (shape : Shape) (tokens middle rest : Tokens) (key value : List ℕ) → bytes shape.key_size tokens ≡ Ok (key, middle) → bytes (value_len_of shape Sys) middle ≡ Ok (value, rest)
    → pairs_to_end shape tokens ≡ with_front ((key, value) ∷ []) (pairs_to_end shape rest)
pairs_first shape [] middle rest key value key_is value_is = absurd cc
pairs_first shape (first ∷ []) middle rest key value key_is value_is =
    let here = bytes_found shape.key_size first key [] middle key_is in
    let P : Tokens → Type 0 = λ tokens. bytes (value_len_of shape Sys) tokens ≡ Ok (value, rest) in
    let none : P [] = subst P (sym here.1) value_is in
    absurd cc
pairs_first shape (first ∷ second ∷ others) middle rest key value key_is value_is =
    let here = bytes_found shape.key_size first key (second ∷ others) middle key_is in
    let P : Tokens → Type 0 = λ tokens. bytes (value_len_of shape Sys) tokens ≡ Ok (value, rest) in
    let then : P (second ∷ others) = subst P (sym here.1) value_is in
    let there = bytes_found (value_len_of shape Sys) second value others rest then in
    rw (here.0, there.0, there.1) (fronted (key, value) (pairs_to_end shape rest))

filled_more : (n size : ℕ) (xs x : List ℕ) → length xs ≡ n * size → length x ≡ size → length (xs ++ x) ≡ (n + 1) * size
filled_more n size xs x fill fits = omega (arith, length-append xs x, fill, fits)

-- a turn of the loop: the buffers are filled, and the pairs so far with those of the places that are left are all
pub pairs_step : (shape : Shape) (n : ℕ) (keys values key value : List ℕ) (tokens middle rest : Tokens) {size : ℕ} {keys_now values_now : List ℕ} {all : Result (List (List ℕ × List ℕ)) Cause} → size ≡ value_len_of shape Sys
    → length keys ≡ n * shape.key_size → length values ≡ n * size
    → bytes shape.key_size tokens ≡ Ok (key, middle) → bytes size middle ≡ Ok (value, rest) → keys_now ≡ keys ++ key → values_now ≡ values ++ value
    → with_front (pairs_of n shape.key_size size keys values) (pairs_to_end shape tokens) ≡ all
    → (length keys_now ≡ (n + 1) * shape.key_size) × (length values_now ≡ (n + 1) * size)
    × (with_front (pairs_of (n + 1) shape.key_size size keys_now values_now) (pairs_to_end shape rest) ≡ all)
pairs_step shape n keys values key value tokens middle rest {size} size_is keys_fill values_fill key_is value_is keys_are values_are so_far =
    let key_fits = bytes_has shape.key_size tokens middle key key_is in
    let value_fits = bytes_has size middle rest value value_is in
    let there : bytes (value_len_of shape Sys) middle ≡ Ok (value, rest) = rw (← size_is) value_is in
    let more = pairs_more n shape.key_size size keys values key value keys_fill values_fill key_fits value_fits in
    let first = pairs_first shape tokens middle rest key value key_is there in (
      rw keys_are (filled_more n shape.key_size keys key keys_fill key_fits),
      rw values_are (filled_more n size values value values_fill value_fits),
      rw (keys_are, values_are, more, front_more, ← first) so_far,
    )
