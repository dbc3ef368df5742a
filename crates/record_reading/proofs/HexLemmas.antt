-- Digits in lower case are what their bytes are written as.
use Rattle.std.proofs.Common.{◌≡◌, ℕ, zero, suc, ◌<◌, ◌≤◌, ◌+◌, ◌*◌, ◌/◌, ◌%◌, ◌==◌, ◌&&◌, ◌||◌, not, nat_le, nat_lt, Bool, true, false, List, [], ◌∷◌, ◌++◌, length, take, drop, Option, Some, None, Result, Ok, Err, refl, sym, ap, ◌∙◌, inl, inr, arith}
use Rattle.std.specs.Char.{is_ascii_digit}
use Rattle.std.proofs.Math.Seq.{take-append_seam}
use Rattle.std.proofs.lemmas.List.{take-append-drop, length-take, length-append}
use Rattle.std.specs.List.{list_all, slice_index, range_with_len}
use Rattle.std.proofs.lemmas.Bool.{cases_eq, and_parts, and_from, eqb-true, ltb-true, leb-true}
use Rattle.hex.specs.Hex.{IsBytes, ◌>>=◌, encode_lower, encode_with, decode_of, decode_pairs, hex_digit_value, lower_digits}
use Rattle.hex.specs.declared.error.FromHexError.{FromHexError}
use Rattle.hex.proofs.HexLemmas.{decode_of-even, decode_of-ok, length-encode_with}
use Rattle.record_reading.specs.Readers.{is_lower_hex, bytes}
use Rattle.record_shape.specs.ShapedParts.{AreBytes}
use Rattle.record_reading.proofs.Laws.{bytes_reads, bytes_exact}

ok_same : {A E : Type 0} (x y : A) → ◌≡◌ {A = Result A E} (Ok x) (Ok y) → x ≡ y
ok_same x y h = cc

abbrev value_or : Option ℕ → ℕ
value_or None = 16
value_or (Some v) = v

abbrev reads_back : ℕ → Bool
reads_back c = not (is_lower_hex c) || (nat_lt (value_or (hex_digit_value c)) 16 && slice_index lower_digits (value_or (hex_digit_value c)) == c)

all_at : (p : ℕ → Bool) (a n c : ℕ) → list_all p (range_with_len a n) ≡ true → a ≤ c → c < a + n → p c ≡ true
all_at p a zero c all low high = absurd (omega arith)
all_at p a (suc n) c all low high =
    let parts = and_parts (p a) (list_all p (range_with_len (a + 1) n)) all in
    elim (cases_eq c a) [ inl is ↦ rw is (parts.0) | inr other ↦ all_at p (a + 1) n c parts.1 (omega arith) (omega arith) ]

below_103 : (c : ℕ) → is_lower_hex c ≡ true → c < 103
below_103 c is = by (is_ascii_digit c) refl is
  where
    by : (b : Bool) → is_ascii_digit c ≡ b → (b || (nat_le 97 c && nat_le c 102)) ≡ true → c < 103
    by true digit h = let high = leb-true c 57 (and_parts (nat_le 48 c) (nat_le c 57) digit).1 in omega arith
    by false digit h = let high = leb-true c 102 (and_parts (nat_le 97 c) (nat_le c 102) h).1 in omega arith

second_holds : (x y : Bool) → x ≡ true → (not x || y) ≡ true → y ≡ true
second_holds true y is h = h
second_holds false y is h = absurd (cc)

found_value : (c : ℕ) (o : Option ℕ) → hex_digit_value c ≡ o → (nat_lt (value_or o) 16 && slice_index lower_digits (value_or o) == c) ≡ true → (v : ℕ) × (hex_digit_value c ≡ Some v) × (v < 16) × (slice_index lower_digits v ≡ c)
found_value c None is h = absurd (cc)
found_value c (Some v) is h =
    let parts = and_parts (nat_lt v 16) (slice_index lower_digits v == c) h in
    (v, is, ltb-true v 16 parts.0, eqb-true (slice_index lower_digits v) c parts.1)

cons_found : (b : ℕ) (r : Result (List ℕ) FromHexError) (found : List ℕ) → (r >>= (λ bs. Ok (b ∷ bs))) ≡ Ok found → (bs : List ℕ) × (r ≡ Ok bs) × (b ∷ bs ≡ found)
cons_found b (Ok bs) found h = (bs, refl, ok_same (b ∷ bs) found h)
cons_found b (Err e) found h = absurd (cc)

pub lower_reads_back : (c : ℕ) → is_lower_hex c ≡ true → (v : ℕ) × (hex_digit_value c ≡ Some v) × (v < 16) × (slice_index lower_digits v ≡ c)
lower_reads_back c is =
    let holds : reads_back c ≡ true = all_at reads_back 0 103 c refl (omega arith) (omega (arith, below_103 c is)) in
    found_value c (hex_digit_value c) refl (second_holds (is_lower_hex c) _ is holds)

pub pairs_back : (i : ℕ) (s found : List ℕ) → list_all is_lower_hex s ≡ true → decode_pairs i s ≡ Ok found → encode_lower found ≡ s
unfolding decode_pairs encode_with
pairs_back i [] found lower h = ap encode_lower (sym (ok_same [] found h))
pairs_back i (d ∷ []) found lower h = absurd (cc)
pairs_back i (high ∷ low ∷ rest) found lower h =
    let rest_lower = and_parts (is_lower_hex low) (list_all is_lower_hex rest) (and_parts (is_lower_hex high) (is_lower_hex low && list_all is_lower_hex rest) lower).1 in
    let one = lower_reads_back high (and_parts (is_lower_hex high) (is_lower_hex low && list_all is_lower_hex rest) lower).0 in
    let two = lower_reads_back low rest_lower.0 in
    let more = cons_found (one.0 * 16 + two.0) (decode_pairs (i + 2) rest) found (rw (one.1, two.1) at h) in
    read_back one.0 two.0 more.0 two.2 one.3 two.3 (pairs_back (i + 2) rest more.0 rest_lower.1 more.1) more.2
  where
    read_back : (one two : ℕ) (more : List ℕ) → two < 16 → slice_index lower_digits one ≡ high → slice_index lower_digits two ≡ low → encode_lower more ≡ rest → (one * 16 + two) ∷ more ≡ found → encode_lower found ≡ high ∷ low ∷ rest
    read_back one two more small is_high is_low rests is =
        let above : (one * 16 + two) / 16 ≡ one = omega (arith, small) in
        let below : (one * 16 + two) % 16 ≡ two = omega (arith, small) in
        ap encode_lower (sym is)
        ∙ (λ i. slice_index lower_digits (above i) ∷ slice_index lower_digits (below i) ∷ rests i)
        ∙ (λ i. is_high i ∷ is_low i ∷ rest)

at_index : (p : ℕ → Bool) (xs : List ℕ) (k : ℕ) → list_all p xs ≡ true → k < length xs → p (slice_index xs k) ≡ true
at_index p [] k all less = absurd (omega arith)
at_index p (x ∷ xs) zero all less = (and_parts (p x) (list_all p xs) all).0
at_index p (x ∷ xs) (suc k) all less = at_index p xs k (and_parts (p x) (list_all p xs) all).1 (omega arith)

encoded_lower : (found : List ℕ) → IsBytes found → list_all is_lower_hex (encode_lower found) ≡ true
unfolding encode_with
encoded_lower [] small = refl
encoded_lower (b ∷ found) small =
    let b_small : b < 256 = small 0 in
    and_from (is_lower_hex (slice_index lower_digits (b / 16))) _ (at_index is_lower_hex lower_digits (b / 16) refl (omega arith))
    (and_from (is_lower_hex (slice_index lower_digits (b % 16))) _ (at_index is_lower_hex lower_digits (b % 16) refl (omega arith)) (encoded_lower found (λ i. small (suc i))))

module _ (size : ℕ) (text : List ℕ) where
  by_found : (o : Option (List ℕ × List ℕ)) → bytes size text ≡ o → ((found rest : List ℕ) → text ≡ encode_lower found ++ rest → AreBytes size found → ⊥) → o ≡ None
  by_found None is never = refl
  by_found (Some found) is never = let law = (bytes_reads size).right text found.0 found.1 is in absurd (never found.0 found.1 law.0 law.1)

  pub bytes_short : length text < 2 * size → bytes size text ≡ None
  bytes_short short =
      by_found (bytes size text) refl
      (λ found rest e fits. omega (arith, ap length e, length-append (encode_lower found) rest, length-encode_with lower_digits found, fits.sized, short))

  pub bytes_other : list_all is_lower_hex (take (2 * size) text) ≡ false → bytes size text ≡ None
  bytes_other other =
      by_found (bytes size text) refl
      (λ found rest e fits.
      let long : length (encode_lower found) ≡ 2 * size = omega (arith, length-encode_with lower_digits found, fits.sized) in
      let front : take (2 * size) text ≡ encode_lower found = ap (take (2 * size)) e ∙ ap (λ n. take n (encode_lower found ++ rest)) (sym long) ∙ take-append_seam (encode_lower found) rest in
      absurd (cc (sym other ∙ ap (list_all is_lower_hex) front ∙ encoded_lower found fits.small)))

  pub bytes_found : (found : List ℕ) → 2 * size ≤ length text → list_all is_lower_hex (take (2 * size) text) ≡ true → decode_of (take (2 * size) text) ≡ Ok found → bytes size text ≡ Some (found, drop (2 * size) text)
  bytes_found found long lower decodes =
      let digits = take (2 * size) text in
      let facts = decode_of-ok digits found decodes in
      let same : encode_lower found ≡ digits = pairs_back 0 digits found lower (sym (decode_of-even digits facts.0) ∙ decodes) in
      let sized : AreBytes size found = record { sized = omega (arith, facts.2, length-take (2 * size) text); small = facts.3 } in
      ap (bytes size) (sym (take-append-drop (2 * size) text) ∙ ap (λ t. t ++ drop (2 * size) text) (sym same)) ∙ (bytes_exact size).back found (drop (2 * size) text) sized
