-- Numbers, flags, kinds and bytes as tokens: what a token that is read as one tells of it, and that the canonical token
-- is read as it.
use Rattle.std.proofs.Common.{◌≡◌, ℕ, ◌*◌, ◌≤◌, ◌==◌, ◌&&◌, Bool, true, false, cond, not, nat_le, List, [], ◌∷◌, length, Option, Some, None, Result, Ok, refl, sym, ap, ◌∙◌, inl, inr, arith}
use Rattle.std.specs.Prelude.{IfSome, IfOk, bytes_eq, codes, decimal, option_map, unwrap_or}
use Rattle.std.specs.Char.{is_ascii_digit}
use Rattle.std.specs.List.{list_all, AllPass}
use Rattle.std.specs.Result.{result_ok}
use Rattle.std.specs.Str.Parse.{AllDigits, digits_value}
use Rattle.std.proofs.lemmas.Bool.{and_parts, and_from, cond-true, cond-false, cond_both, cases_eq, leb-true, le-leb, eq-eqb, eqb-true, ne_eqb, not_from_false, false_from_ne_true}
use Rattle.std.proofs.lemmas.Fmt.{decimal_is_IsNumeral, length-decimal-le}
use Rattle.std.proofs.lemmas.List.Sums.{AllPass-from_list_all, list_all-from_AllPass}
use Rattle.std.proofs.lemmas.Slice.Eq.{bytes_eq-Decides}
use Rattle.std.proofs.lemmas.Str.Parse.{digit_from_value}
use Rattle.hex.specs.Hex.{IsBytes, encode_lower, is_hex_digit, lower_digits}
use Rattle.hex.specs.declared.error.FromHexError.{FromHexError}
use Rattle.hex.proofs.HexLemmas.{decode_of-encode_lower, decode_of-ok, decode_of-digits, length-encode_with}
use Rattle.map_types.specs.declared.kind.MapKind.{MapKind}
use Rattle.map_types.specs.declared.kind.MapKind.TheVariants.{Hash, PercpuHash, LruHash, LruPercpuHash}
use Rattle.map_script.specs.declared.refusal.Cause.{Cause}
use Rattle.map_script.specs.Canonical.{kind_name, flag_token, start_token}
use Rattle.map_script.specs.Grammar.{kind_of}
use Rattle.map_script.specs.Places.{decoded, start_of, flag_of, bytes_in}
use Rattle.map_script.specs.Tokens.{is_numeral, number_of}
use Rattle.map_script.specs.Plain.{is_mark, is_token}

-- a test that follows from another
list_all_weaker : (p q : ℕ → Bool) → ((byte : ℕ) → p byte ≡ true → q byte ≡ true) → (bytes : List ℕ) → list_all p bytes ≡ true → list_all q bytes ≡ true
list_all_weaker p q weaker [] h = refl
list_all_weaker p q weaker (byte ∷ bytes) h =
    let parts = and_parts (p byte) (list_all p bytes) h in
    and_from (q byte) (list_all q bytes) (weaker byte parts.0) (list_all_weaker p q weaker bytes parts.1)

is_mark_between : (byte : ℕ) → 48 ≤ byte → byte ≤ 126 → is_mark byte ≡ true
is_mark_between byte low high =
    and_from (nat_le 33 byte && nat_le byte 126) (not (byte == 35))
    (and_from (nat_le 33 byte) (nat_le byte 126) (le-leb 33 byte (omega arith)) (le-leb byte 126 high))
    (not_from_false (byte == 35) (ne_eqb byte 35 (λ same. omega arith)))

-- a token from the test of its bytes
pub is_token_from : (p : ℕ → Bool) → ((byte : ℕ) → p byte ≡ true → is_mark byte ≡ true) → (token : List ℕ) → 1 ≤ length token → list_all p token ≡ true → is_token token ≡ true
is_token_from p marks token some all =
    and_from (nat_le 1 (length token)) (list_all is_mark token) (le-leb 1 (length token) some) (list_all_weaker p is_mark marks token all)

-- ---- numbers

abbrev pub IsNumber : ℕ → Type 0
IsNumber n = n ≤ 4294967295

pub number_of_gives : (token : List ℕ) → IfSome (number_of token) IsNumber
number_of_gives token =
    let value = digits_value 10 token in
    cond_both (is_numeral token && nat_le value 4294967295) (Some value) None (λ o. IfSome o IsNumber)
    (λ is. leb-true value 4294967295 (and_parts (is_numeral token) (nat_le value 4294967295) is).1) (λ is_not. tt)

all_digits : (digits : List ℕ) → AllDigits 10 digits → list_all is_ascii_digit digits ≡ true
all_digits [] h = refl
all_digits (c ∷ digits) h =
    let range = digit_from_value c h.0 in
    and_from (is_ascii_digit c) (list_all is_ascii_digit digits) (and_from (nat_le 48 c) (nat_le c 57) (le-leb 48 c range.0) (le-leb c 57 range.1)) (all_digits digits h.1)

pub digit_is_mark : (c : ℕ) → is_ascii_digit c ≡ true → is_mark c ≡ true
digit_is_mark c h =
    let parts = and_parts (nat_le 48 c) (nat_le c 57) h in
    let high : c ≤ 57 = leb-true c 57 parts.1 in
    is_mark_between c (leb-true 48 c parts.0) (omega arith)

-- a choice that found something
chosen_some : (test : Bool) (value found : ℕ) → cond test (Some value) None ≡ Some found → test ≡ true
chosen_some true value found is = refl
chosen_some false value found is = absurd cc

-- what is read as a number is a token
pub number_is_token : (token : List ℕ) (n : ℕ) → number_of token ≡ Some n → is_token token ≡ true
number_is_token token n is =
    let value = digits_value 10 token in
    let both = and_parts (is_numeral token) (nat_le value 4294967295) (chosen_some (is_numeral token && nat_le value 4294967295) value n is) in
    let digits = and_parts (nat_le 1 (length token) && nat_le (length token) 10) (list_all is_ascii_digit token) both.0 in
    let bounds = and_parts (nat_le 1 (length token)) (nat_le (length token) 10) digits.0 in
    is_token_from is_ascii_digit digit_is_mark token (leb-true 1 (length token) bounds.0) digits.1

decimal_digits : (n : ℕ) → IsNumber n → list_all is_ascii_digit (decimal n) ≡ true
decimal_digits n h = all_digits (decimal n) (decimal_is_IsNumeral n (omega arith)).0.1

pub is_token-decimal : (n : ℕ) → IsNumber n → is_token (decimal n) ≡ true
is_token-decimal n h =
    is_token_from is_ascii_digit digit_is_mark (decimal n) (decimal_is_IsNumeral n (omega arith)).0.0 (decimal_digits n h)

pub number_of-decimal : (n : ℕ) → IsNumber n → number_of (decimal n) ≡ Some n
number_of-decimal n h =
    let token = decimal n in
    let numeral = decimal_is_IsNumeral n (omega arith) in
    let value : digits_value 10 token ≡ n = numeral.1 in
    let short : length token ≤ 10 = length-decimal-le 10 n (omega arith) (omega arith) (omega arith) in
    let is : is_numeral token ≡ true = and_from (nat_le 1 (length token) && nat_le (length token) 10) (list_all is_ascii_digit token) (and_from (nat_le 1 (length token)) (nat_le (length token) 10) (le-leb 1 (length token) numeral.0.0) (le-leb (length token) 10 short)) (decimal_digits n h) in
    cond-true (is_numeral token && nat_le (digits_value 10 token) 4294967295) (Some (digits_value 10 token)) None (and_from (is_numeral token) (nat_le (digits_value 10 token) 4294967295) is (le-leb (digits_value 10 token) 4294967295 (omega arith)))
    ∙ ap (λ (v : ℕ). Some v) value

-- ---- names beside numbers

-- a token that is a number is no word that isn't one
no_word : (token name : List ℕ) (n : ℕ) → number_of token ≡ Some n → number_of name ≡ None → bytes_eq token name ≡ false
no_word token name n is is_not =
    false_from_ne_true (bytes_eq token name) (λ same.
    let e : token ≡ name = (bytes_eq-Decides token name).0 same in
    cc (sym is ∙ ap number_of e ∙ is_not))

flag_of_number : (token : List ℕ) (n : ℕ) → number_of token ≡ Some n → flag_of token ≡ Some n
flag_of_number token n is =
    cond-false (bytes_eq token (codes "any")) _ _ (no_word token (codes "any") n is refl)
    ∙ cond-false (bytes_eq token (codes "noexist")) _ _ (no_word token (codes "noexist") n is refl)
    ∙ cond-false (bytes_eq token (codes "exist")) _ _ (no_word token (codes "exist") n is refl) ∙ is

pub flag_of_gives : (token : List ℕ) → IfSome (flag_of token) IsNumber
flag_of_gives token =
    let P : Option ℕ → Type 0 = λ o. IfSome o IsNumber in
    cond_both (bytes_eq token (codes "any")) _ _ P (λ is. omega arith) (λ other.
    cond_both (bytes_eq token (codes "noexist")) _ _ P (λ is. omega arith) (λ other.
    cond_both (bytes_eq token (codes "exist")) _ _ P (λ is. omega arith) (λ other. number_of_gives token)))

-- a word is this token, or what it is otherwise
named_or : (word name : List ℕ) (value n : ℕ) (other : Option ℕ) → is_token name ≡ true → (other ≡ Some n → is_token word ≡ true) → cond (bytes_eq word name) (Some value) other ≡ Some n → is_token word ≡ true
named_or word name value n other token otherwise is = go (bytes_eq word name) refl is
  where
    go : (same : Bool) → bytes_eq word name ≡ same → cond same (Some value) other ≡ Some n → is_token word ≡ true
    go true same found = ap is_token ((bytes_eq-Decides word name).0 same) ∙ token
    go false same found = otherwise found

-- what is read as flags is a token
pub flag_is_token : (word : List ℕ) (n : ℕ) → flag_of word ≡ Some n → is_token word ≡ true
flag_is_token word n is =
    let third = cond (bytes_eq word (codes "exist")) (Some 2) (number_of word) in
    let second = cond (bytes_eq word (codes "noexist")) (Some 1) third in
    named_or word (codes "any") 0 n second refl
    (named_or word (codes "noexist") 1 n third refl (named_or word (codes "exist") 2 n (number_of word) refl (number_is_token word n)))
    is

flag_token_number : (n : ℕ) → (n ≡ 0 → ⊥) → (n ≡ 1 → ⊥) → (n ≡ 2 → ⊥) → flag_token n ≡ decimal n
flag_token_number n not_0 not_1 not_2 =
    cond-false (n == 0) _ _ (ne_eqb n 0 not_0) ∙ cond-false (n == 1) _ _ (ne_eqb n 1 not_1) ∙ cond-false (n == 2) _ _ (ne_eqb n 2 not_2)

-- a flag is one of three names or a number
by_flag : (P : ℕ → Type 0) → P 0 → P 1 → P 2 → ((n : ℕ) → IsNumber n → flag_token n ≡ decimal n → P n) → (n : ℕ) → IsNumber n → P n
by_flag P at_0 at_1 at_2 above n h =
    elim (cases_eq n 0) [
      | inl is_0 ↦ rw is_0 at_0
      | inr not_0 ↦
          elim (cases_eq n 1) [
            | inl is_1 ↦ rw is_1 at_1
            | inr not_1 ↦
                elim (cases_eq n 2) [ inl is_2 ↦ rw is_2 at_2 | inr not_2 ↦ above n h (flag_token_number n not_0 not_1 not_2) ]
          ]
    ]

pub flag_of-flag_token : (n : ℕ) → IsNumber n → flag_of (flag_token n) ≡ Some n
flag_of-flag_token =
    by_flag (λ n. flag_of (flag_token n) ≡ Some n) refl refl refl
    (λ n h text. ap flag_of text ∙ flag_of_number (decimal n) n (number_of-decimal n h))

pub is_token-flag_token : (n : ℕ) → IsNumber n → is_token (flag_token n) ≡ true
is_token-flag_token =
    by_flag (λ n. is_token (flag_token n) ≡ true) refl refl refl (λ n h text. ap is_token text ∙ is_token-decimal n h)

-- ---- where a batch read starts

abbrev pub IsStart : Option ℕ → Type 0
IsStart None = Unit {0}
IsStart (Some n) = IsNumber n

some_start : (o : Option ℕ) → IfSome o IsNumber → IfSome (option_map (λ n. Some n) o) IsStart
some_start None h = tt
some_start (Some n) h = h

pub start_of_gives : (token : List ℕ) → IfSome (start_of token) IsStart
start_of_gives token =
    cond_both (bytes_eq token (codes "-")) _ _ (λ o. IfSome o IsStart) (λ is. tt) (λ other. some_start (number_of token) (number_of_gives token))

pub start_of-start_token : (start : Option ℕ) → IsStart start → start_of (start_token start) ≡ Some start
start_of-start_token None h = refl
start_of-start_token (Some n) h =
    let is = number_of-decimal n h in
    cond-false (bytes_eq (decimal n) (codes "-")) _ _ (no_word (decimal n) (codes "-") n is refl)
    ∙ ap (option_map (λ (v : ℕ). Some v)) is

pub is_token-start_token : (start : Option ℕ) → IsStart start → is_token (start_token start) ≡ true
is_token-start_token None h = refl
is_token-start_token (Some n) h = is_token-decimal n h

-- ---- kinds

pub kind_of-kind_name : (kind : MapKind) → kind_of (kind_name kind) ≡ Some kind
kind_of-kind_name Hash = refl
kind_of-kind_name PercpuHash = refl
kind_of-kind_name LruHash = refl
kind_of-kind_name LruPercpuHash = refl

pub is_token-kind_name : (kind : MapKind) → is_token (kind_name kind) ≡ true
is_token-kind_name Hash = refl
is_token-kind_name PercpuHash = refl
is_token-kind_name LruHash = refl
is_token-kind_name LruPercpuHash = refl

-- ---- bytes

pub record AreBytes (size : ℕ) (bytes : List ℕ) : Type 0 where
  pub sized : length bytes ≡ size
  pub small : IsBytes bytes

-- twice as many digits are bytes of this size
decoded_bytes : (size : ℕ) (token : List ℕ) → AllPass is_hex_digit token → length token ≡ 2 * size → AreBytes size (decoded token)
decoded_bytes size token digits sized =
    let found = decode_of-digits token (omega arith) digits in
    let facts = decode_of-ok token found.0 found.1 in
    let same : decoded token ≡ found.0 = ap (λ (r : Result (List ℕ) FromHexError). unwrap_or (result_ok r) []) found.1 in
    rw same record { sized = omega (arith, facts.2); small = facts.3 }

pub bytes_in_gives : (size : ℕ) (token : List ℕ) → IfOk (bytes_in size token) (AreBytes size)
bytes_in_gives size token =
    let P : Result (List ℕ) Cause → Type 0 = λ r. IfOk r (AreBytes size) in
    cond_both (list_all is_hex_digit token) _ _ P
    (λ digits. cond_both (length token == 2 * size) _ _ P
    (λ same. decoded_bytes size token (AllPass-from_list_all is_hex_digit token digits) (eqb-true (length token) (2 * size) same)) (λ other. tt))
    (λ other. tt)

encoded_digits : (bytes : List ℕ) → IsBytes bytes → list_all is_hex_digit (encode_lower bytes) ≡ true
encoded_digits bytes small =
    list_all-from_AllPass is_hex_digit (encode_lower bytes) (decode_of-ok (encode_lower bytes) bytes (decode_of-encode_lower bytes small)).1

pub bytes_in-encode_lower : (size : ℕ) (bytes : List ℕ) → AreBytes size bytes → bytes_in size (encode_lower bytes) ≡ Ok bytes
bytes_in-encode_lower size bytes h =
    let token = encode_lower bytes in
    let sized : length bytes ≡ size = h.sized in
    let long : length token ≡ 2 * size = omega (arith, length-encode_with lower_digits bytes) in
    cond-true (list_all is_hex_digit token) _ _ (encoded_digits bytes h.small)
    ∙ cond-true (length token == 2 * size) _ _ (eq-eqb (length token) (2 * size) long)
    ∙ ap (λ (r : Result (List ℕ) FromHexError). Ok (unwrap_or (result_ok r) [])) (decode_of-encode_lower bytes h.small)

hex_digit_range : (c : ℕ) → is_hex_digit c ≡ true → (48 ≤ c) × (c ≤ 126)
hex_digit_range c h = grind arith

pub hex_digit_is_mark : (c : ℕ) → is_hex_digit c ≡ true → is_mark c ≡ true
hex_digit_is_mark c h = let range = hex_digit_range c h in is_mark_between c range.0 range.1

pub is_token-encode_lower : (size : ℕ) (bytes : List ℕ) → 1 ≤ size → AreBytes size bytes → is_token (encode_lower bytes) ≡ true
is_token-encode_lower size bytes some h =
    let sized : length bytes ≡ size = h.sized in
    is_token_from is_hex_digit hex_digit_is_mark (encode_lower bytes) (omega (arith, length-encode_with lower_digits bytes)) (encoded_digits bytes h.small)
