-- What the places of a line give.
use Rattle.std.proofs.Common.{◌≡◌, ℕ, ◌*◌, ◌==◌, Bool, true, false, cond, List, [], ◌∷◌, length, Result, Ok, Err, bytes_eq, refl, sym, ap, ◌∙◌, arith}
use Rattle.std.specs.List.{list_all}
use Rattle.std.proofs.lemmas.Bool.{eqb-true}
use Rattle.std.proofs.lemmas.List.Sums.{AllPass-from_list_all}
use Rattle.hex.specs.Hex.{is_hex_digit}
use Rattle.hex.proofs.HexLemmas.{decode_of-ok, decode_of-digits}
use Rattle.map_script.specs.declared.refusal.Cause.{Cause}
use Rattle.map_script.specs.declared.refusal.Cause.TheVariants.{Digits, Length}
use Rattle.map_script.specs.Reading.{or_fault}
use Rattle.map_script.specs.Places.{◌>>=◌, Tokens, token, decoded, bytes_in, bytes}

-- what a step found, where the step behind it found something
pub step_found : {A B E : Type 0} (found : Result A E) (next : A → Result B E) (y : B) → (found >>= next) ≡ Ok y → (x : A) × (found ≡ Ok x) × (next x ≡ Ok y)
step_found (Ok x) next y is = (x, refl, is)
step_found (Err e) next y is = absurd cc

pub at_found : {A : Type 0} (number : ℕ) (read : Result A Cause) (x : A) → or_fault number read ≡ Ok x → read ≡ Ok x
at_found number (Ok found) x is = cc
at_found number (Err cause) x is = absurd cc

pub chosen : {A E : Type 0} (test : Bool) (found : Result A E) (e : E) (y : A) → cond test found (Err e) ≡ Ok y → (test ≡ true) × (found ≡ Ok y)
chosen true found e y is = (refl, is)
chosen false found e y is = absurd cc

pub same_ok : {A E : Type 0} (read : Result A E) (x y : A) → read ≡ Ok x → read ≡ Ok y → x ≡ y
same_ok (Ok z) x y is_x is_y = cc
same_ok (Err e) x y is_x is_y = absurd cc

-- the parts of a pair that was found
pub same_parts : {A B E : Type 0} (read : Result (A × B) E) (a x : A) (b y : B) → read ≡ Ok (a, b) → read ≡ Ok (x, y) → (a ≡ x) × (b ≡ y)
same_parts {A = A} {B = B} read a x b y is_ab is_xy =
    let same = same_ok read (a, b) (x, y) is_ab is_xy in
    (ap (λ (parts : A × B). parts.0) same, ap (λ (parts : A × B). parts.1) same)

pub token_found : (tokens rest : Tokens) (first : List ℕ) → token tokens ≡ Ok (first, rest) → tokens ≡ first ∷ rest
token_found [] rest first is = absurd cc
token_found (found ∷ others) rest first is =
    let same = same_parts (token (found ∷ others)) found first others rest refl is in
    cc

-- what a comparison with a text told of a word
pub comparison_told : (word : List ℕ) {text other : List ℕ} {was answer : Bool} → was ≡ bytes_eq word other → other ≡ text → was ≡ answer → bytes_eq word text ≡ answer
comparison_told word is same was_so = sym (is ∙ ap (bytes_eq word) same) ∙ was_so

-- digits, two for each of so many bytes
decoded_has : (size : ℕ) (word : List ℕ) → list_all is_hex_digit word ≡ true → length word ≡ 2 * size → length (decoded word) ≡ size
decoded_has size word digits sized =
    let made = decode_of-digits word (omega arith) (AllPass-from_list_all is_hex_digit word digits) in
    let long = decode_of-ok word made.0 made.1 in
    rw made.1 (omega (arith, long.2))

pub bytes_in_has : (size : ℕ) (word found : List ℕ) → bytes_in size word ≡ Ok found → length found ≡ size
bytes_in_has size word found is =
    let digits = chosen (list_all is_hex_digit word) (cond (length word == 2 * size) (Ok (decoded word)) (Err Length)) Digits found is in
    let sized = chosen (length word == 2 * size) (Ok (decoded word)) Length found digits.1 in
    let same : decoded word ≡ found = cc (sized.1) in
    rw (← same) (decoded_has size word digits.0 (eqb-true (length word) (2 * size) sized.0))

-- the first token has the bytes, and the others are left
pub bytes_found : (size : ℕ) (first found : List ℕ) (others rest : Tokens) → bytes size (first ∷ others) ≡ Ok (found, rest) → (bytes_in size first ≡ Ok found) × (others ≡ rest)
bytes_found size first found others rest is =
    let made = step_found (bytes_in size first) (λ bytes. Ok (bytes, others)) (found, rest) is in
    let same = same_parts (bytes size (first ∷ others)) made.0 found others rest (is ∙ sym made.2) is in
    (made.1 ∙ ap Ok same.0, same.1)

pub bytes_has : (size : ℕ) (tokens rest : Tokens) (found : List ℕ) → bytes size tokens ≡ Ok (found, rest) → length found ≡ size
bytes_has size [] rest found is = absurd cc
bytes_has size (first ∷ others) rest found is =
    bytes_in_has size first found (bytes_found size first found others rest is).0
