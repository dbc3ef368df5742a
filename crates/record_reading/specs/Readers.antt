-- Parts of a line, each read from its front: what it says, and what stands behind it.
use Rattle.std.specs.Prelude.{ℕ, suc, zero, ◌*◌, ◌/◌, ◌==◌, ◌&&◌, ◌||◌, not, nat_le, nat_lt, Bool, true, false, List, [], ◌∷◌, length, take, drop, Option, Some, None, codes, if◌then◌else◌, bytes_eq}
use Rattle.std.specs.Char.{is_ascii_digit}
use Rattle.std.specs.Int.{w32, from_be_bytes}
use Rattle.std.specs.List.{slice_index}
use Rattle.std.specs.Str.Parse.{digits_value}
use Rattle.hex.specs.Hex.{encode_lower}
use Rattle.map_script.specs.Places.{decoded}
pub use Rattle.record_shape.specs.Fits.{AllFit, ascends_above, ascends}

-- what is read from the front of a text, and what stands behind it
abbrev pub Front : Type 0 → Type 0
Front A = Option (A × List ℕ)

abbrev pub Reader : Type 0 → Type 0
Reader A = List ℕ → Front A

-- the next part, where the one before it was read
infixl 10 ◌>>=◌
abbrev pub ◌>>=◌ : {A B : Type 0} → Option A → (A → Option B) → Option B
(Some found) >>= next = next found
None >>= next = None

-- the first that is found
unfoldable pub or_else : {A : Type 0} → Option A → Option A → Option A
or_else (Some found) other = Some found
or_else None other = other

-- what stands behind a word
unfoldable pub behind : List ℕ → List ℕ → Option (List ℕ)
behind [] text = Some text
behind (c ∷ word) [] = None
behind (c ∷ word) (d ∷ text) = if c == d then behind word text else None

-- a word, and then what is read behind it
abbrev pub after : {A : Type 0} → List ℕ → Reader A → Reader A
after word read text = behind word text >>= read

-- nothing more
abbrev pub nothing : Reader (Unit {0})
nothing text = Some (tt, text)

-- one part and then another, which may depend on it
abbrev pub both : {A B : Type 0} → Reader A → (A → Reader B) → Reader (A × B)
both first second text = first text >>= (λ a. second a.0 a.1 >>= (λ b. Some ((a.0, b.0), b.1)))

-- what is made of a part
abbrev pub made : {A B : Type 0} → (A → B) → Reader A → Reader B
made make read text = read text >>= (λ a. Some (make a.0, a.1))

-- one way to read, and where that fails another
abbrev pub either : {A : Type 0} → Reader A → Reader A → Reader A
either first second text = or_else (first text) (second text)

-- the digits at the front of a text, and what stands behind them
unfoldable pub digits_of : List ℕ → List ℕ
digits_of [] = []
digits_of (c ∷ text) = if is_ascii_digit c then c ∷ digits_of text else []

unfoldable pub behind_digits : List ℕ → List ℕ
behind_digits [] = []
behind_digits (c ∷ text) = if is_ascii_digit c then behind_digits text else c ∷ text

-- digits as numbers are written: at least one, and more than one only where the first isn't 0
abbrev pub is_written : List ℕ → Bool
is_written digits = nat_le 1 (length digits) && (length digits == 1 || not (slice_index digits 0 == 48))

-- a number below this one
unfoldable pub number : ℕ → Reader ℕ
number below text =
    if is_written (digits_of text) && nat_lt (digits_value 10 (digits_of text)) below
    then Some (digits_value 10 (digits_of text), behind_digits text) else None

-- a hexadecimal digit as they are written
abbrev pub is_lower_hex : ℕ → Bool
is_lower_hex c = is_ascii_digit c || (nat_le 97 c && nat_le c 102)

-- so many bytes
unfoldable pub bytes : ℕ → Reader (List ℕ)
bytes size text =
    if length (take (2 * size) text) == 2 * size && bytes_eq (encode_lower (decoded (take (2 * size) text))) (take (2 * size) text)
    then Some (decoded (take (2 * size) text), drop (2 * size) text) else None

-- a hash of 8 hexadecimal digits
abbrev pub hash : Reader ℕ
hash = made (from_be_bytes w32) (bytes 4)

-- so many of something
abbrev pub times : {A : Type 0} → ℕ → Reader A → Reader (List A)
times zero read text = Some ([], text)
times (suc n) read text = read text >>= (λ a. times n read a.1 >>= (λ more. Some (a.0 ∷ more.0, more.1)))

-- how many there are, and then each
abbrev pub counted : {A : Type 0} → Reader A → Reader (List A)
counted read text = after (codes " ") (number 18446744073709551616) text >>= (λ count. times count.0 read count.1)

-- what a text says as a whole
abbrev pub whole : {A : Type 0} → Reader A → List ℕ → Option A
whole read text = read text >>= (λ a. if length a.1 == 0 then Some a.0 else None)

-- a number, or `-` where there is none
abbrev pub option : ℕ → Reader (Option ℕ)
option below = either (made (λ n. Some n) (after (codes " ") (number below))) (made (λ _. None) (after (codes " -") nothing))

abbrev pub bit : Reader Bool
bit = either (made (λ _. true) (after (codes "1") nothing)) (made (λ _. false) (after (codes "0") nothing))

-- a part that passes a test
abbrev pub tested : {A : Type 0} → (A → Bool) → Reader A → Reader A
tested test read text = read text >>= (λ a. if test a.0 then Some a else None)

-- a part and a colon
abbrev pub colon : {A : Type 0} → Reader A → Reader A
colon read text = read text >>= (λ a. behind (codes ":") a.1 >>= (λ rest. Some (a.0, rest)))

-- ---- to the end of a line

-- what stands behind a word
abbrev pub word_then : {A : Type 0} → List ℕ → (List ℕ → Option A) → List ℕ → Option A
word_then word read text = behind word text >>= read

-- one part, and what stands behind it to the end
abbrev pub first_then : {A B : Type 0} → Reader A → (List ℕ → Option B) → List ℕ → Option (A × B)
first_then first read text = first text >>= (λ a. read a.1 >>= (λ b. Some (a.0, b)))

-- what is made of a line
abbrev pub made_of : {A B : Type 0} → (A → B) → (List ℕ → Option A) → List ℕ → Option B
made_of make read text = read text >>= (λ a. Some (make a))

-- a line that passes a test
abbrev pub passing : {A : Type 0} → (A → Bool) → (List ℕ → Option A) → List ℕ → Option A
passing test read text = read text >>= (λ a. if test a then Some a else None)

-- this very line
unfoldable pub the_line : List ℕ → List ℕ → Option (Unit {0})
the_line line text = if bytes_eq text line then Some tt else None

-- numbers below one, each behind a blank; at most so many
unfoldable pub blank_numbers : ℕ → ℕ → List ℕ → Option (List ℕ)
blank_numbers below most [] = Some []
blank_numbers below zero (c ∷ text) = None
blank_numbers below (suc most) (c ∷ text) =
    after (codes " ") (number below) (c ∷ text) >>= (λ n. blank_numbers below most n.1 >>= (λ more. Some (n.0 ∷ more)))

-- each has a letter at least, so there are no more than letters
unfoldable pub numbers_to_end : ℕ → List ℕ → Option (List ℕ)
numbers_to_end below text = blank_numbers below (length text) text

-- bytes of some size that isn't 0
unfoldable pub some_bytes : List ℕ → Option (List ℕ)
some_bytes text = whole (tested (λ found. nat_le 1 (length found)) (bytes (length text / 2))) text
