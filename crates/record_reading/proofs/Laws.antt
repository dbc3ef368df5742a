-- The laws of readers.
use Rattle.std.proofs.Common.{◌≡◌, ℕ, suc, zero, ◌*◌, ◌^◌, ◌<◌, ◌≤◌, ◌==◌, ◌||◌, ◌⊎◌, not, cond, subst, Bool, true, false, List, [], ◌∷◌, ◌++◌, length, take, drop, get_or, Option, Some, None, Result, Ok, Err, refl, sym, ap, ◌∙◌, inl, inr, arith, append_assoc, nat_le, nat_lt}
use Rattle.std.specs.Prelude.{codes, decimal, unwrap_or}
use Rattle.std.specs.Char.{is_ascii_digit}
use Rattle.std.specs.Int.{w32, to_be_bytes, from_be_bytes}
use Rattle.std.specs.List.{flat_map, slice_index}
use Rattle.std.specs.Result.{result_ok}
use Rattle.std.specs.Str.Parse.{AllDigits, digits_value}
use Rattle.std.proofs.lemmas.Bool.{and_parts, and_from, cond-true, cond-false, cond_both, leb-true, le-leb, ltb-true, lt-ltb, eq-eqb, eqb-true, ne_eqb, not_from_false}
use Rattle.std.proofs.lemmas.Fmt.{decimal_is_IsNumeral, decimal-digits_value, first_decimal, decimal_nonempty, decimal_digit}
use Rattle.std.proofs.Math.Seq.{take-append_seam, drop-append_seam}
use Rattle.std.proofs.lemmas.List.{take-append-drop, append-nil}
use Rattle.std.proofs.lemmas.Nat.{from_be_bytes-to_be_bytes_4, be_bytes_4}
use Rattle.std.proofs.lemmas.Slice.Eq.{bytes_eq-Decides}
use Rattle.std.proofs.lemmas.Str.Parse.{digit_from_value, numerals_by_value, tells_digits}
use Rattle.hex.specs.Hex.{IsBytes, encode_lower, decode_of, lower_digits}
use Rattle.hex.specs.declared.error.FromHexError.{FromHexError}
use Rattle.hex.proofs.HexLemmas.{decode_of-encode_lower, decode_of-ok, length-encode_with}
use Rattle.map_script.specs.Places.{decoded}
use Rattle.map_report.specs.Words as report
use Rattle.record_reading.specs.Readers.{AllFit, option, bit, Reader, ◌>>=◌, or_else, behind, after, nothing, both, made, either, digits_of, behind_digits, is_written, number, bytes, hash, times, counted, tested, colon}
use Rattle.record_shape.specs.ShapedParts.{AreBytes, OptionFits}

-- a text that doesn't begin with a digit
abbrev pub NoDigit : List ℕ → Type 0
NoDigit [] = Unit {0}
NoDigit (c ∷ text) = is_ascii_digit c ≡ false

-- a text that doesn't begin with a digit or a colon
abbrev pub Stops : List ℕ → Type 0
Stops [] = Unit {0}
Stops (c ∷ text) = (is_ascii_digit c || c == 58) ≡ false

no_first : (x y : Bool) → (x || y) ≡ false → x ≡ false
no_first true y h = h
no_first false y h = refl

no_digit : (text : List ℕ) → Stops text → NoDigit text
no_digit [] stops = tt
no_digit (c ∷ text) stops = no_first (is_ascii_digit c) (c == 58) stops

pub record Reads {A : Type 0} (print : A → List ℕ) (Fits : A → Type 0) (read : Reader A) : Type 0 where
  pub back : (a : A) (rest : List ℕ) → Fits a → Stops rest → read (print a ++ rest) ≡ Some (a, rest)
  pub right : (text : List ℕ) (a : A) (rest : List ℕ) → read text ≡ Some (a, rest) → (text ≡ print a ++ rest) × Fits a

-- what it prints doesn't go on with digits
pub record Opens {A : Type 0} (print : A → List ℕ) (Fits : A → Type 0) : Type 0 where
  pub opens : (a : A) (rest : List ℕ) → Fits a → Stops rest → Stops (print a ++ rest)

-- ---- steps

pub bound : {A B : Type 0} (m : Option A) (next : A → Option B) (b : B) → (m >>= next) ≡ Some b → (a : A) × (m ≡ Some a) × (next a ≡ Some b)
bound (Some a) next b h = (a, refl, h)
bound None next b h = absurd (cc)

pub found_first : {A : Type 0} (m n : Option A) (a : A) → or_else m n ≡ Some a → (m ≡ Some a) ⊎ (n ≡ Some a)
unfolding or_else
found_first (Some b) n a h = inl h
found_first None n a h = inr h

pub from_some : {A : Type 0} (x y : A) → Some x ≡ Some y → x ≡ y
from_some x y h = cc

pub if_some : {A : Type 0} (b : Bool) (x y : A) → cond b (Some x) None ≡ Some y → (b ≡ true) × (x ≡ y)
if_some true x y h = (refl, from_some x y h)
if_some false x y h = absurd (cc)

-- ---- words

pub behind_back : (word rest : List ℕ) → behind word (word ++ rest) ≡ Some rest
unfolding behind
behind_back [] rest = refl
behind_back (c ∷ word) rest = cond-true (c == c) (behind word (word ++ rest)) None (eq-eqb c c refl) ∙ behind_back word rest

pub behind_right : (word text rest : List ℕ) → behind word text ≡ Some rest → text ≡ word ++ rest
unfolding behind
behind_right [] text rest h = cc
behind_right (c ∷ word) [] rest h = absurd (cc)
behind_right (c ∷ word) (d ∷ text) rest h =
    cond_both (c == d) (behind word text) None (λ o. o ≡ Some rest → ◌≡◌ {A = List ℕ} (d ∷ text) (c ∷ (word ++ rest)))
    (λ same found. let e : c ≡ d = eqb-true c d same in let more = behind_right word text rest found in cc) (λ other found. absurd (cc)) h

-- ---- combinations

pub nothing_reads : Reads (λ _. []) (λ _. Unit {0}) nothing
nothing_reads = record { back = λ a rest fits stops. refl; right = λ text a rest h. (ap (λ (p : Unit {0} × List ℕ). p.1) (from_some (tt, text) (a, rest) h), tt) }

module _ {A : Type 0} {print : A → List ℕ} {Fits : A → Type 0} {read : Reader A} (reads : Reads print Fits read) (word : List ℕ) where
  after_back : (a : A) (rest : List ℕ) → Fits a → Stops rest → after word read ((word ++ print a) ++ rest) ≡ Some (a, rest)
  after_back a rest fits stops =
      rw (append_assoc, behind_back) (reads.back a rest fits stops)

  after_right : (text : List ℕ) (a : A) (rest : List ℕ) → after word read text ≡ Some (a, rest) → (text ≡ (word ++ print a) ++ rest) × Fits a
  after_right text a rest h =
      let step = bound (behind word text) read (a, rest) h in
      let more = reads.right step.0 a rest step.2 in
      (behind_right word text step.0 step.1 ∙ ap (λ t. word ++ t) more.0 ∙ sym (append_assoc word (print a) rest), more.1)

  pub after_reads : Reads (λ a. word ++ print a) Fits (after word read)
  after_reads = record { back = after_back; right = after_right }

module _ {A B : Type 0} {print : A → List ℕ} {Fits : A → Type 0} {read : Reader A} (reads : Reads print Fits read) {print_next : A → B → List ℕ} {FitsNext : A → B → Type 0} {read_next : A → Reader B} (nexts : (a : A) → Reads (print_next a) (FitsNext a) (read_next a)) (opens : (a : A) → Opens (print_next a) (FitsNext a)) where
  both_back : (x : A × B) (rest : List ℕ) → (Fits x.0 × FitsNext x.0 x.1) → Stops rest → both read read_next ((print x.0 ++ print_next x.0 x.1) ++ rest) ≡ Some (x, rest)
  both_back x rest fits stops =
      let first = reads.back x.0 (print_next x.0 x.1 ++ rest) fits.0 ((opens x.0).opens x.1 rest fits.1 stops) in
      let second = (nexts x.0).back x.1 rest fits.1 stops in
      rw (append_assoc, first, second) refl

  both_right : (text : List ℕ) (x : A × B) (rest : List ℕ) → both read read_next text ≡ Some (x, rest) → (text ≡ (print x.0 ++ print_next x.0 x.1) ++ rest) × (Fits x.0 × FitsNext x.0 x.1)
  both_right text x rest h =
      let step = bound (read text) _ (x, rest) h in
      let a = step.0 in
      let next = bound (read_next a.0 a.1) _ (x, rest) step.2 in
      let b = next.0 in
      let same = from_some ((a.0, b.0), b.1) (x, rest) next.2 in
      let one = reads.right text a.0 a.1 step.1 in
      let two = (nexts a.0).right a.1 b.0 b.1 next.1 in
      let e : text ≡ (print a.0 ++ print_next a.0 b.0) ++ b.1 = one.0 ∙ ap (λ t. print a.0 ++ t) two.0 ∙ sym (append_assoc (print a.0) (print_next a.0 b.0) b.1) in
      subst (λ (p : (A × B) × List ℕ). (text ≡ (print p.0.0 ++ print_next p.0.0 p.0.1) ++ p.1) × (Fits p.0.0 × FitsNext p.0.0 p.0.1)) same (e, (one.1, two.1))

  pub both_reads : Reads (λ x. print x.0 ++ print_next x.0 x.1) (λ x. Fits x.0 × FitsNext x.0 x.1) (both read read_next)
  both_reads = record { back = both_back; right = both_right }

-- what is made of a part, which prints as the part does
module _ {A B : Type 0} {print : A → List ℕ} {Fits : A → Type 0} {read : Reader A} (reads : Reads print Fits read) (make : A → B) (print_made : B → List ℕ) (FitsMade : B → Type 0) where
  pub made_back : (a : A) (prints : print_made (make a) ≡ print a) (rest : List ℕ) → Fits a → Stops rest → made make read (print_made (make a) ++ rest) ≡ Some (make a, rest)
  made_back a prints rest fits stops = rw (prints, reads.back a rest fits stops) refl

  pub made_right : (prints : (a : A) → Fits a → print_made (make a) ≡ print a) → ((a : A) → Fits a → FitsMade (make a)) → (text : List ℕ) (b : B) (rest : List ℕ) → made make read text ≡ Some (b, rest) → (text ≡ print_made b ++ rest) × FitsMade b
  made_right prints fits text b rest h =
      let step = bound (read text) _ (b, rest) h in
      let a = step.0 in
      let same = from_some (make a.0, a.1) (b, rest) step.2 in
      let one = reads.right text a.0 a.1 step.1 in
      let e : text ≡ print_made (make a.0) ++ a.1 = one.0 ∙ ap (λ t. t ++ a.1) (sym (prints a.0 one.1)) in
      subst (λ (p : B × List ℕ). (text ≡ print_made p.0 ++ p.1) × FitsMade p.0) same (e, fits a.0 one.1)

-- one way or another
pub either_right : {A : Type 0} (print : A → List ℕ) (Fits : A → Type 0) (first second : Reader A)
    → ((text : List ℕ) (a : A) (rest : List ℕ) → first text ≡ Some (a, rest) → (text ≡ print a ++ rest) × Fits a)
    → ((text : List ℕ) (a : A) (rest : List ℕ) → second text ≡ Some (a, rest) → (text ≡ print a ++ rest) × Fits a)
    → (text : List ℕ) (a : A) (rest : List ℕ) → either first second text ≡ Some (a, rest) → (text ≡ print a ++ rest) × Fits a
either_right print Fits first second one two text a rest h =
    elim (found_first (first text) (second text) (a, rest) h) [ inl is ↦ one text a rest is | inr is ↦ two text a rest is ]

-- so many
module _ {A : Type 0} {print : A → List ℕ} {Fits : A → Type 0} {read : Reader A} (reads : Reads print Fits read) (opens : Opens print Fits) where
  all_stop : (items : List A) (rest : List ℕ) → AllFit Fits items → Stops rest → Stops (flat_map print items ++ rest)
  all_stop [] rest fits stops = stops
  all_stop (a ∷ more) rest fits stops = rw (append_assoc) (opens.opens a (flat_map print more ++ rest) fits.0 (all_stop more rest fits.1 stops))

  pub times_back : (items : List A) (rest : List ℕ) → AllFit Fits items → Stops rest → times (length items) read (flat_map print items ++ rest) ≡ Some (items, rest)
  times_back [] rest fits stops = refl
  times_back (a ∷ more) rest fits stops =
      let one = reads.back a (flat_map print more ++ rest) fits.0 (all_stop more rest fits.1 stops) in
      let two = times_back more rest fits.1 stops in
      rw (append_assoc, one, two) refl

  pub times_right : (n : ℕ) (text : List ℕ) (items : List A) (rest : List ℕ) → times n read text ≡ Some (items, rest) → (text ≡ flat_map print items ++ rest) × AllFit Fits items × (length items ≡ n)
  times_right zero text items rest h =
      subst (λ (p : List A × List ℕ). (text ≡ flat_map print p.0 ++ p.1) × AllFit Fits p.0 × (length p.0 ≡ zero)) (from_some ([], text) (items, rest) h) (refl, tt, refl)
  times_right (suc n) text items rest h =
      let step = bound (read text) _ (items, rest) h in
      let a = step.0 in
      let next = bound (times n read a.1) _ (items, rest) step.2 in
      let b = next.0 in
      let same = from_some (a.0 ∷ b.0, b.1) (items, rest) next.2 in
      let one = reads.right text a.0 a.1 step.1 in
      let two = times_right n a.1 b.0 b.1 next.1 in
      let e : text ≡ (print a.0 ++ flat_map print b.0) ++ b.1 = one.0 ∙ ap (λ t. print a.0 ++ t) two.0 ∙ sym (append_assoc (print a.0) (flat_map print b.0) b.1) in
      subst (λ (p : List A × List ℕ). (text ≡ flat_map print p.0 ++ p.1) × AllFit Fits p.0 × (length p.0 ≡ suc n)) same (e, (one.1, two.1), omega (arith, two.2))

-- ---- numbers

pub digits_split : (text : List ℕ) → text ≡ digits_of text ++ behind_digits text
unfolding digits_of behind_digits
digits_split [] = refl
digits_split (c ∷ text) =
    elim (is_ascii_digit c) as (λ b. ◌≡◌ {A = List ℕ} (c ∷ text) (cond b (c ∷ digits_of text) [] ++ cond b (behind_digits text) (c ∷ text))) [
      | true ↦ ap (λ t. c ∷ t) (digits_split text)
      | false ↦ refl
    ]

pub digits_all : (text : List ℕ) → AllDigits 10 (digits_of text)
unfolding digits_of
digits_all [] = tt
digits_all (c ∷ text) =
    cond_both (is_ascii_digit c) (c ∷ digits_of text) [] (AllDigits 10)
    (λ is. let parts = and_parts (nat_le 48 c) (nat_le c 57) is in tells_digits.more c (digits_of text) (leb-true 48 c parts.0, leb-true c 57 parts.1) (digits_all text)) (λ is_not. tt)

is_digit : (c : ℕ) (ds : List ℕ) → AllDigits 10 (c ∷ ds) → is_ascii_digit c ≡ true
is_digit c ds h = let range = digit_from_value c h.0 in and_from (nat_le 48 c) (nat_le c 57) (le-leb 48 c range.0) (le-leb c 57 range.1)

digits_front : (ds rest : List ℕ) → AllDigits 10 ds → NoDigit rest → (digits_of (ds ++ rest) ≡ ds) × (behind_digits (ds ++ rest) ≡ rest)
unfolding digits_of behind_digits
digits_front [] [] all stops = (refl, refl)
digits_front [] (c ∷ rest) all stops = (cond-false (is_ascii_digit c) _ _ stops, cond-false (is_ascii_digit c) _ _ stops)
digits_front (c ∷ ds) rest all stops =
    let is = is_digit c ds all in
    let more = digits_front ds rest all.1 stops in
    (cond-true (is_ascii_digit c) _ _ is ∙ ap (λ t. c ∷ t) more.0, cond-true (is_ascii_digit c) _ _ is ∙ more.1)

or_second : (x y : Bool) → y ≡ true → (x || y) ≡ true
or_second true y h = refl
or_second false y h = h

either_holds : (x y : Bool) → (x || y) ≡ true → (x ≡ true) ⊎ (y ≡ true)
either_holds true y h = inl refl
either_holds false y h = inr h

one_digit_if_zero : (ds : List ℕ) → (length ds == 1 || not (slice_index ds 0 == 48)) ≡ true → get_or ds 0 0 ≡ 48 → length ds ≡ 1
one_digit_if_zero ds h zero_first =
    elim (either_holds (length ds == 1) _ h) [
      | inl is ↦ eqb-true (length ds) 1 is
      | inr is_not ↦ absurd (cc (sym is_not ∙ ap not (eq-eqb (get_or ds 0 0) 48 zero_first)))
    ]

decimal_written : (n : ℕ) → n < 2 ^ 64 → is_written (decimal n) ≡ true
decimal_written zero h = rw (decimal_digit 0 (omega arith)) refl
decimal_written (suc n) h =
    let ds = decimal (suc n) in
    let first : 48 < get_or ds 0 0 = first_decimal (suc n) (omega arith) h in
    and_from (nat_le 1 (length ds)) _ (le-leb 1 (length ds) (decimal_nonempty (suc n) h)) (or_second (length ds == 1) (not (slice_index ds 0 == 48)) (not_from_false (slice_index ds 0 == 48) (ne_eqb (slice_index ds 0) 48 (λ same. omega arith))))

module _ (below : ℕ) (small : below ≤ 2 ^ 64) where
  pub number_back : (n : ℕ) (rest : List ℕ) → n < below → NoDigit rest → number below (decimal n ++ rest) ≡ Some (n, rest)
  unfolding number
  number_back n rest fits stops =
      let numeral = decimal_is_IsNumeral n (omega arith) in
      let front = digits_front (decimal n) rest numeral.0.1 stops in
      rw (front.0, front.1) (cond-true _ _ _ (and_from (is_written (decimal n)) _ (decimal_written n (omega arith)) (rw (numeral.1) (lt-ltb n below fits))) ∙ ap (λ (v : ℕ). Some (v, rest)) numeral.1)

  number_right : (text : List ℕ) (n : ℕ) (rest : List ℕ) → number below text ≡ Some (n, rest) → (text ≡ decimal n ++ rest) × (n < below)
  unfolding number
  number_right text n rest h =
      let ds = digits_of text in
      let v = digits_value 10 ds in
      let is = if_some _ (v, behind_digits text) (n, rest) h in
      let parts = and_parts (is_written ds) (nat_lt v below) is.0 in
      let less : v < below = ltb-true v below parts.1 in
      let written = and_parts (nat_le 1 (length ds)) _ parts.0 in
      let some : 1 ≤ length ds = leb-true 1 (length ds) written.0 in
      let e : decimal v ≡ ds = decimal-digits_value (numerals_by_value (AllDigits 10) tells_digits) ds (digits_all text) (omega arith) (one_digit_if_zero ds written.1) (omega arith) in
      subst (λ (p : ℕ × List ℕ). (text ≡ decimal p.0 ++ p.1) × (p.0 < below)) is.1 (digits_split text ∙ ap (λ t. t ++ behind_digits text) (sym e), less)

  pub number_reads : Reads decimal (λ n. n < below) (number below)
  number_reads = record { back = λ n rest fits stops. number_back n rest fits (no_digit rest stops); right = number_right }

-- ---- bytes

decoded_small : (r : Result (List ℕ) FromHexError) (digits : List ℕ) → decode_of digits ≡ r → IsBytes (unwrap_or (result_ok r) [])
decoded_small (Ok found) digits h = (decode_of-ok digits found h).3
decoded_small (Err e) digits h = λ i. omega arith

module _ (size : ℕ) where
  bytes_back : (found : List ℕ) (rest : List ℕ) → AreBytes size found → bytes size (encode_lower found ++ rest) ≡ Some (found, rest)
  unfolding bytes
  bytes_back found rest fits =
      let digits = encode_lower found in
      let sized : length found ≡ size = fits.sized in
      let long : length digits ≡ 2 * size = omega (arith, length-encode_with lower_digits found) in
      let front : take (2 * size) (digits ++ rest) ≡ digits = ap (λ n. take n (digits ++ rest)) (sym long) ∙ take-append_seam digits rest in
      let others : drop (2 * size) (digits ++ rest) ≡ rest = ap (λ n. drop n (digits ++ rest)) (sym long) ∙ drop-append_seam digits rest in
      let is : decoded digits ≡ found = ap (λ (r : Result (List ℕ) FromHexError). unwrap_or (result_ok r) []) (decode_of-encode_lower found fits.small) in
      rw (front, others) (cond-true _ _ _ (and_from (length digits == 2 * size) _ (eq-eqb (length digits) (2 * size) long) ((bytes_eq-Decides (encode_lower (decoded digits)) digits).1 (ap encode_lower is))) ∙ ap (λ (v : List ℕ). Some (v, rest)) is)

  bytes_right : (text : List ℕ) (found : List ℕ) (rest : List ℕ) → bytes size text ≡ Some (found, rest) → (text ≡ encode_lower found ++ rest) × AreBytes size found
  unfolding bytes
  bytes_right text found rest h =
      let digits = take (2 * size) text in
      let is = if_some _ (decoded digits, drop (2 * size) text) (found, rest) h in
      let parts = and_parts (length digits == 2 * size) _ is.0 in
      let long : length digits ≡ 2 * size = eqb-true (length digits) (2 * size) parts.0 in
      let same : encode_lower (decoded digits) ≡ digits = (bytes_eq-Decides (encode_lower (decoded digits)) digits).0 parts.1 in
      let sized : length (decoded digits) ≡ size = omega (arith, long, length-encode_with lower_digits (decoded digits), ap length same) in
      let whole : text ≡ digits ++ drop (2 * size) text = sym (take-append-drop (2 * size) text) in
      subst (λ (p : List ℕ × List ℕ). (text ≡ encode_lower p.0 ++ p.1) × AreBytes size p.0) is.1
      (whole ∙ ap (λ t. t ++ drop (2 * size) text) (sym same), record { sized = sized; small = decoded_small (decode_of digits) digits refl })

  pub bytes_reads : Reads encode_lower (AreBytes size) (bytes size)
  bytes_reads = record { back = λ found rest fits stops. bytes_back found rest fits; right = bytes_right }

-- ---- hashes

small_4 : (a b c d : ℕ) → a < 256 → b < 256 → c < 256 → d < 256 → IsBytes (a ∷ b ∷ c ∷ d ∷ [])
small_4 a b c d is_a is_b is_c is_d zero = is_a
small_4 a b c d is_a is_b is_c is_d (suc zero) = is_b
small_4 a b c d is_a is_b is_c is_d (suc (suc zero)) = is_c
small_4 a b c d is_a is_b is_c is_d (suc (suc (suc zero))) = is_d
small_4 a b c d is_a is_b is_c is_d (suc (suc (suc (suc i)))) = omega arith

hash_back : (h : ℕ) (rest : List ℕ) → h < 2 ^ 32 → hash (report.hash_digits h ++ rest) ≡ Some (h, rest)
unfolding report.hash_digits
hash_back h rest fits =
    let sized : AreBytes 4 (to_be_bytes w32 h) = record { sized = refl; small = small_4 _ _ _ _ (omega arith) (omega arith) (omega arith) (omega arith) } in
    rw (bytes_back 4 (to_be_bytes w32 h) rest sized, from_be_bytes-to_be_bytes_4 h fits) refl

pub hash_reads : Reads report.hash_digits (λ h. h < 2 ^ 32) hash
unfolding report.hash_digits
hash_reads = record {
  back = λ h rest fits stops. hash_back h rest fits;
  right = made_right (bytes_reads 4) (from_be_bytes w32) report.hash_digits (λ h. h < 2 ^ 32) (λ found fits. ap encode_lower (be_bytes_4 found (from_be_bytes w32 found) fits.sized fits.small refl)) (λ found fits. omega (arith, fits.small 0, fits.small 1, fits.small 2, fits.small 3));
}

-- ---- how many, and then each

pub number_text_reads : (below : ℕ) → below ≤ 2 ^ 64 → Reads report.number_text (λ n. n < below) (after (codes " ") (number below))
number_text_reads below small = after_reads (number_reads below small) (codes " ")

module _ {A : Type 0} {print : A → List ℕ} {Fits : A → Type 0} {read : Reader A} (reads : Reads print Fits read) (opens : Opens print Fits) where
  counted_back : (items : List A) (rest : List ℕ) → (length items < 2 ^ 64) × AllFit Fits items → Stops rest → counted read (report.counted print items ++ rest) ≡ Some (items, rest)
  unfolding report.counted
  counted_back items rest fits stops =
      let one = (number_text_reads (2 ^ 64) (omega arith)).back (length items) (flat_map print items ++ rest) fits.0 (all_stop reads opens items rest fits.1 stops) in
      let two = times_back reads opens items rest fits.1 stops in
      rw (append_assoc, one) two

  counted_right : (text : List ℕ) (items : List A) (rest : List ℕ) → counted read text ≡ Some (items, rest) → (text ≡ report.counted print items ++ rest) × ((length items < 2 ^ 64) × AllFit Fits items)
  unfolding report.counted
  counted_right text items rest h =
      let step = bound (after (codes " ") (number 18446744073709551616) text) _ (items, rest) h in
      let n = step.0 in
      let one = (number_text_reads (2 ^ 64) (omega arith)).right text n.0 n.1 step.1 in
      let two = times_right reads opens n.0 n.1 items rest step.2 in
      let e : text ≡ (report.number_text n.0 ++ flat_map print items) ++ rest = one.0 ∙ ap (λ t. report.number_text n.0 ++ t) two.0 ∙ sym (append_assoc (report.number_text n.0) (flat_map print items) rest) in
      (rw two.2 e, (omega (arith, one.1, two.2), two.1))

  pub counted_reads : Reads (report.counted print) (λ items. (length items < 2 ^ 64) × AllFit Fits items) (counted read)
  counted_reads = record { back = counted_back; right = counted_right }

-- ---- a number or `-`, and a bit

module _ (below : ℕ) (small : below ≤ 2 ^ 64) where
  option_back : (o : Option ℕ) (rest : List ℕ) → OptionFits below o → Stops rest → option below (report.option_text o ++ rest) ≡ Some (o, rest)
  unfolding behind number digits_of or_else
  option_back None rest fits stops = refl
  option_back (Some n) rest fits stops = rw ((number_reads below small).back n rest fits stops) refl

  option_right : (text : List ℕ) (o : Option ℕ) (rest : List ℕ) → option below text ≡ Some (o, rest) → (text ≡ report.option_text o ++ rest) × OptionFits below o
  option_right =
      either_right report.option_text (OptionFits below) (made (λ n. Some n) (after (codes " ") (number below))) (made (λ _. None) (after (codes " -") nothing))
      (made_right (number_text_reads below small) (λ n. Some n) report.option_text (OptionFits below) (λ n fits. refl) (λ n fits. fits))
      (made_right (after_reads nothing_reads (codes " -")) (λ _. None) report.option_text (OptionFits below) (λ n fits. refl) (λ n fits. fits))

  pub option_reads : Reads report.option_text (OptionFits below) (option below)
  option_reads = record { back = option_back; right = option_right }

bit_back : (b : Bool) (rest : List ℕ) → bit (report.bit_text b ++ rest) ≡ Some (b, rest)
unfolding behind or_else
bit_back true rest = refl
bit_back false rest = refl

pub bit_reads : Reads report.bit_text (λ _. Unit {0}) bit
bit_reads = record {
  back = λ b rest fits stops. bit_back b rest;
  right =
      either_right report.bit_text (λ _. Unit {0}) (made (λ _. true) (after (codes "1") nothing)) (made (λ _. false) (after (codes "0") nothing))
      (made_right (after_reads nothing_reads (codes "1")) (λ _. true) report.bit_text (λ _. Unit {0}) (λ n fits. refl) (λ n fits. fits))
      (made_right (after_reads nothing_reads (codes "0")) (λ _. false) report.bit_text (λ _. Unit {0}) (λ n fits. refl) (λ n fits. fits));
}

-- ---- ways to read that stand one behind another

pub or_here : {A : Type 0} (m n : Option A) {a : A} → m ≡ Some a → or_else m n ≡ Some a
unfolding or_else
or_here m n h = rw h refl

pub or_next : {A : Type 0} (m n : Option A) {r : Option A} → m ≡ None → n ≡ r → or_else m n ≡ r
unfolding or_else
or_next m n h e = rw h e

-- what is made of a part, with the laws of what prints it
pub record Makes {A B : Type 0} (make : A → B) (print : B → List ℕ) (Fits : B → Type 0) (read : Reader B) : Type 0 where
  pub back : (a : A) (rest : List ℕ) → Fits (make a) → Stops rest → read (print (make a) ++ rest) ≡ Some (make a, rest)
  pub right : (text : List ℕ) (b : B) (rest : List ℕ) → read text ≡ Some (b, rest) → (text ≡ print b ++ rest) × Fits b

pub makes : {A B : Type 0} {print : A → List ℕ} {FitsPart : A → Type 0} {read : Reader A} (reads : Reads print FitsPart read) (make : A → B) (print_made : B → List ℕ) (Fits : B → Type 0)
    → ((a : A) → print_made (make a) ≡ print a) → ((a : A) → FitsPart a → Fits (make a)) → ((a : A) → Fits (make a) → FitsPart a)
    → Makes make print_made Fits (made make read)
makes reads make print_made Fits prints to from = record {
  back = λ a rest fits stops. made_back reads make print_made Fits a (prints a) rest (from a fits) stops;
  right = made_right reads make print_made Fits (λ a fits. prints a) to;
}

-- a text that begins with a mark
pub record Marked {A : Type 0} (print : A → List ℕ) : Type 0 where
  pub marked : (a : A) (rest : List ℕ) → Stops (print a ++ rest)

pub marked_opens : {A : Type 0} {print : A → List ℕ} {Fits : A → Type 0} → Marked print → Opens print Fits
marked_opens marked = record { opens = λ a rest fits stops. marked.marked a rest }

-- tested
module _ {A : Type 0} {print : A → List ℕ} {Fits : A → Type 0} {read : Reader A} (reads : Reads print Fits read) (test : A → Bool) where
  tested_right : (text : List ℕ) (a : A) (rest : List ℕ) → tested test read text ≡ Some (a, rest) → (text ≡ print a ++ rest) × (Fits a × (test a ≡ true))
  tested_right text a rest h =
      let step = bound (read text) _ (a, rest) h in
      let is = if_some (test step.0.0) step.0 (a, rest) step.2 in
      let one = reads.right text step.0.0 step.0.1 step.1 in
      subst (λ (p : A × List ℕ). (text ≡ print p.0 ++ p.1) × (Fits p.0 × (test p.0 ≡ true))) is.1 (one.0, (one.1, is.0))

  pub tested_reads : Reads print (λ a. Fits a × (test a ≡ true)) (tested test read)
  tested_reads = record { back = λ a rest fits stops. rw (reads.back a rest fits.0 stops) (cond-true (test a) _ _ fits.1); right = tested_right }

-- what a word alone says
pub word_makes : {B : Type 0} (word : List ℕ) (b : B) (print : B → List ℕ) (Fits : B → Type 0) → print b ≡ word → Fits b → Makes (λ (_ : Unit {0}). b) print Fits (made (λ _. b) (after word nothing))
word_makes word b print Fits prints fits =
    makes (after_reads nothing_reads word) (λ _. b) print Fits (λ _. prints ∙ sym (append-nil word)) (λ _ _. fits) (λ _ _. tt)

-- a word where there is none, and else something that doesn't begin with it
module _ {A : Type 0} {print : Option A → List ℕ} {Fits : Option A → Type 0} (word : List ℕ) (prints : print None ≡ word) (fits_none : Fits None) {some : Reader (Option A)} (found : Makes (λ a. Some a) print Fits some) (apart : (a : A) (rest : List ℕ) → behind word (print (Some a) ++ rest) ≡ None) where
  none_or_back : (o : Option A) (rest : List ℕ) → Fits o → Stops rest → either (made (λ _. None) (after word nothing)) some (print o ++ rest) ≡ Some (o, rest)
  none_or_back None rest fits stops = or_here _ _ ((word_makes word None print Fits prints fits_none).back tt rest fits stops)
  none_or_back (Some a) rest fits stops = or_next _ _ (rw (apart a rest) refl) (found.back a rest fits stops)

  pub none_or_reads : Reads print Fits (either (made (λ _. None) (after word nothing)) some)
  none_or_reads = record { back = none_or_back; right = either_right print Fits _ _ (word_makes word None print Fits prints fits_none).right found.right }

-- ---- parts that end by themselves

pub record Exact {A : Type 0} (print : A → List ℕ) (Fits : A → Type 0) (read : Reader A) : Type 0 where
  pub back : (a : A) (rest : List ℕ) → Fits a → read (print a ++ rest) ≡ Some (a, rest)
  pub right : (text : List ℕ) (a : A) (rest : List ℕ) → read text ≡ Some (a, rest) → (text ≡ print a ++ rest) × Fits a

pub bytes_exact : (size : ℕ) → Exact encode_lower (AreBytes size) (bytes size)
bytes_exact size = record { back = bytes_back size; right = bytes_right size }

pub hash_exact : Exact report.hash_digits (λ h. h < 2 ^ 32) hash
hash_exact = record { back = hash_back; right = hash_reads.right }

pub bit_exact : Exact report.bit_text (λ _. Unit {0}) bit
bit_exact = record { back = λ b rest fits. bit_back b rest; right = bit_reads.right }

-- a part and a colon
module _ {A : Type 0} (print : A → List ℕ) (Fits : A → Type 0) (read : Reader A) (right : (text : List ℕ) (a : A) (rest : List ℕ) → read text ≡ Some (a, rest) → (text ≡ print a ++ rest) × Fits a) where
  pub colon_right : (text : List ℕ) (a : A) (rest : List ℕ) → colon read text ≡ Some (a, rest) → (text ≡ (print a ++ codes ":") ++ rest) × Fits a
  colon_right text a rest h =
      let step = bound (read text) _ (a, rest) h in
      let found = step.0 in
      let next = bound (behind (codes ":") found.1) _ (a, rest) step.2 in
      let same = from_some (found.0, next.0) (a, rest) next.2 in
      let one = right text found.0 found.1 step.1 in
      let two = behind_right (codes ":") found.1 next.0 next.1 in
      let e : text ≡ (print found.0 ++ codes ":") ++ next.0 = one.0 ∙ ap (λ t. print found.0 ++ t) two ∙ sym (append_assoc (print found.0) (codes ":") next.0) in
      subst (λ (p : A × List ℕ). (text ≡ (print p.0 ++ codes ":") ++ p.1) × Fits p.0) same (e, one.1)

colon_back : {A : Type 0} (print : A → List ℕ) (read : Reader A) (a : A) (rest : List ℕ) → read (print a ++ (codes ":" ++ rest)) ≡ Some (a, codes ":" ++ rest) → colon read ((print a ++ codes ":") ++ rest) ≡ Some (a, rest)
colon_back print read a rest h = rw (append_assoc, h, behind_back (codes ":") rest) refl

pub number_colon_exact : (below : ℕ) → below ≤ 2 ^ 64 → Exact (λ n. report.number_text n ++ codes ":") (λ n. n < below) (colon (after (codes " ") (number below)))
number_colon_exact below small = record { back = back; right = colon_right report.number_text (λ n. n < below) (after (codes " ") (number below)) (number_text_reads below small).right }
  where
    back : (n : ℕ) (rest : List ℕ) → n < below → colon (after (codes " ") (number below)) ((report.number_text n ++ codes ":") ++ rest) ≡ Some (n, rest)
    back n rest fits =
        let e : after (codes " ") (number below) (report.number_text n ++ (codes ":" ++ rest)) ≡ Some (n, codes ":" ++ rest) = rw (append_assoc, behind_back) (number_back below small n (codes ":" ++ rest) fits refl) in
        colon_back report.number_text (after (codes " ") (number below)) n rest e

pub exact_colon : {A : Type 0} {print : A → List ℕ} {Fits : A → Type 0} {read : Reader A} → Exact print Fits read → Exact (λ a. print a ++ codes ":") Fits (colon read)
exact_colon {A} {print} {Fits} {read} exact = record { back = λ a rest fits. colon_back print read a rest (exact.back a (codes ":" ++ rest) fits); right = colon_right print Fits read exact.right }

module _ {A B : Type 0} {print : A → List ℕ} {Fits : A → Type 0} {read : Reader A} (exact : Exact print Fits read) {print_next : A → B → List ℕ} {FitsNext : A → B → Type 0} {read_next : A → Reader B} (nexts : (a : A) → Reads (print_next a) (FitsNext a) (read_next a)) where
  exact_back : (x : A × B) (rest : List ℕ) → (Fits x.0 × FitsNext x.0 x.1) → Stops rest → both read read_next ((print x.0 ++ print_next x.0 x.1) ++ rest) ≡ Some (x, rest)
  exact_back x rest fits stops =
      let first = exact.back x.0 (print_next x.0 x.1 ++ rest) fits.0 in
      let second = (nexts x.0).back x.1 rest fits.1 stops in
      rw (append_assoc, first, second) refl

  exact_right : (text : List ℕ) (x : A × B) (rest : List ℕ) → both read read_next text ≡ Some (x, rest) → (text ≡ (print x.0 ++ print_next x.0 x.1) ++ rest) × (Fits x.0 × FitsNext x.0 x.1)
  exact_right text x rest h =
      let step = bound (read text) _ (x, rest) h in
      let a = step.0 in
      let next = bound (read_next a.0 a.1) _ (x, rest) step.2 in
      let b = next.0 in
      let same = from_some ((a.0, b.0), b.1) (x, rest) next.2 in
      let one = exact.right text a.0 a.1 step.1 in
      let two = (nexts a.0).right a.1 b.0 b.1 next.1 in
      let e : text ≡ (print a.0 ++ print_next a.0 b.0) ++ b.1 = one.0 ∙ ap (λ t. print a.0 ++ t) two.0 ∙ sym (append_assoc (print a.0) (print_next a.0 b.0) b.1) in
      subst (λ (p : (A × B) × List ℕ). (text ≡ (print p.0.0 ++ print_next p.0.0 p.0.1) ++ p.1) × (Fits p.0.0 × FitsNext p.0.0 p.0.1)) same (e, (one.1, two.1))

  pub exact_both : Reads (λ x. print x.0 ++ print_next x.0 x.1) (λ x. Fits x.0 × FitsNext x.0 x.1) (both read read_next)
  exact_both = record { back = exact_back; right = exact_right }
