-- Digits that are judged and decoded in one pass.
use Rattle.std.proofs.Common.{◌≡◌, ℕ, ◌+◌, ◌*◌, ◌%◌, ◌<◌, ◌≤◌, ◌&&◌, Bool, true, false, List, length, take, drop, get_or, slice_index, slice_set, Option, Some, None, Ok, refl, sym, ap, ◌∙◌, inl, inr, arith, nat_lt}
use Rattle.std.specs.Prelude.{MatchBool, MatchOption}
use Rattle.std.specs.Int.{w32, from_be_bytes}
use Rattle.std.specs.List.{list_all}
use Rattle.std.proofs.lemmas.Bool.{and_from, cases_lt, lt-ltb, le-ltb}
use Rattle.std.proofs.lemmas.List.{take_all}
use Rattle.std.proofs.lemmas.List.Folds.{list_all_more, list_all_kept}
use Rattle.hex.specs.Hex.{decode_of, decode_pairs, hex_digit_value}
use Rattle.hex.proofs.Pairs.{prepend}
use Rattle.map_script.proofs.DigitLemmas.{two_more}
use Rattle.record_reading.specs.Readers.{is_lower_hex, bytes, hash}
use Rattle.record_reading.proofs.HexLemmas.{bytes_short, bytes_other, bytes_found}

-- the value of a digit as they are written, and 255 of any other byte
abbrev pub IsLowerValue : ℕ → ℕ → Type 0
IsLowerValue byte value = MatchBool (is_lower_hex byte) ((hex_digit_value byte ≡ Some value) × (value < 16)) (value ≡ 255)

-- The pairs of digits before this one: all are digits where the greatest value is below 16, and then their bytes and those of what
-- is left are all.
pub record DecodedSoFar (worst pair : ℕ) (digits bytes : List ℕ) : Type 0 where
  pub fine : worst < 16 → list_all is_lower_hex (take (2 * pair) digits) ≡ true
  pub bad : 16 ≤ worst → list_all is_lower_hex (take (2 * pair) digits) ≡ false
  pub decoded : worst < 16 → decode_pairs 0 digits ≡ prepend (take pair bytes) (decode_pairs (2 * pair) (drop (2 * pair) digits))

lower_small : (b : Bool) (o : Option ℕ) (value : ℕ) → MatchBool b ((o ≡ Some value) × (value < 16)) (value ≡ 255) → value < 16 → (b ≡ true) × (o ≡ Some value)
lower_small true o value is small = (refl, is.0)
lower_small false o value is small = absurd (omega arith)

lower_large : (b : Bool) (o : Option ℕ) (value : ℕ) → MatchBool b ((o ≡ Some value) × (value < 16)) (value ≡ 255) → 16 ≤ value → b ≡ false
lower_large true o value is large = absurd (omega (arith, is.1))
lower_large false o value is large = refl

found_digit : (o : Option ℕ) (value : ℕ) → o ≡ Some value → MatchOption o (value ≡ 255) (λ v. value ≡ v)
found_digit None value is = absurd (cc)
found_digit (Some v) value is = sym (ap (λ (o : Option ℕ). value_in o) is)
  where
    value_in : Option ℕ → ℕ
    value_in None = 0
    value_in (Some v) = v

false_right : (a b : Bool) → b ≡ false → (a && b) ≡ false
false_right true b is = is
false_right false b is = refl

pub pair_more : (digits bytes : List ℕ) (pair worst high low now : ℕ) → 2 * pair + 1 < length digits → pair < length bytes
    → IsLowerValue (slice_index digits (2 * pair)) high → IsLowerValue (slice_index digits (2 * pair + 1)) low
    → (now < 16 → (worst < 16) × (high < 16) × (low < 16)) → (16 ≤ now → (worst < 16 → high < 16 → low < 16 → ⊥))
    → DecodedSoFar worst pair digits bytes
    → DecodedSoFar now (pair + 1) digits (slice_set bytes pair ((high * 16 % 256 + low) % 256))
pair_more digits bytes pair worst high low now fits room is_high is_low small large so_far =
    let p = is_lower_hex in
    let one : list_all p (take (2 * pair + 1) digits) ≡ (list_all p (take (2 * pair) digits) && p (get_or digits (2 * pair) 0)) = list_all_more p digits (2 * pair) 0 (omega arith) in
    let two : list_all p (take (2 * pair + 1 + 1) digits) ≡ (list_all p (take (2 * pair + 1) digits) && p (get_or digits (2 * pair + 1) 0)) = list_all_more p digits (2 * pair + 1) 0 fits in
    let same : list_all p (take (2 * (pair + 1)) digits) ≡ list_all p (take (2 * pair + 1 + 1) digits) = ap (λ n. list_all p (take n digits)) (omega arith) in
    record {
      fine = λ less.
          let s = small less in
          let h = lower_small _ (hex_digit_value (slice_index digits (2 * pair))) high is_high s.1 in
          let l = lower_small _ (hex_digit_value (slice_index digits (2 * pair + 1))) low is_low s.2 in
          same ∙ two ∙ and_from _ _ (one ∙ and_from _ _ (so_far.fine s.0) h.0) l.0;
      bad = λ more.
          elim (cases_lt low 16) [
            | inr low_large ↦ same ∙ two ∙ false_right _ _ (lower_large _ (hex_digit_value (slice_index digits (2 * pair + 1))) low is_low low_large)
            | inl low_small ↦ elim (cases_lt high 16) [
              | inr high_large ↦ same ∙ list_all_kept p digits (2 * pair + 1) (one ∙ false_right _ _ (lower_large _ (hex_digit_value (slice_index digits (2 * pair))) high is_high high_large))
              | inl high_small ↦ elim (cases_lt worst 16) [
                | inr worst_large ↦ same ∙ list_all_kept p digits (2 * pair + 1) (list_all_kept p digits (2 * pair) (so_far.bad worst_large))
                | inl worst_small ↦ absurd (large more worst_small high_small low_small)
              ]
            ]
          ];
      decoded = λ less.
          let s = small less in
          let h = lower_small _ (hex_digit_value (slice_index digits (2 * pair))) high is_high s.1 in
          let l = lower_small _ (hex_digit_value (slice_index digits (2 * pair + 1))) low is_low s.2 in
          two_more digits bytes pair high low fits room (found_digit _ high h.1) (found_digit _ low l.1) s.1 s.2 (so_far.decoded s.0);
    }

-- all of them
pub judged : (worst pair : ℕ) (digits out : List ℕ) → DecodedSoFar worst pair digits out → length digits ≡ 2 * pair → nat_lt worst 16 ≡ list_all is_lower_hex digits
judged worst pair digits out so_far all =
    let whole : take (2 * pair) digits ≡ digits = take_all (2 * pair) digits (omega arith) in
    elim (cases_lt worst 16) [
      | inl less ↦ lt-ltb worst 16 less ∙ sym (sym (ap (list_all is_lower_hex) whole) ∙ so_far.fine less)
      | inr more ↦ le-ltb worst 16 more ∙ sym (sym (ap (list_all is_lower_hex) whole) ∙ so_far.bad more)
    ]

-- ---- hashes

hash_none : (text : List ℕ) → bytes 4 text ≡ None → hash text ≡ None
hash_none text none = rw none refl

pub hash_short : (text : List ℕ) → length text < 8 → hash text ≡ None
hash_short text short = hash_none text (bytes_short 4 text (omega arith))

pub hash_other : (text : List ℕ) → list_all is_lower_hex (take 8 text) ≡ false → hash text ≡ None
hash_other text other = hash_none text (bytes_other 4 text other)

pub hash_found : (text found : List ℕ) → 8 ≤ length text → list_all is_lower_hex (take 8 text) ≡ true → decode_of (take 8 text) ≡ Ok found → hash text ≡ Some (from_be_bytes w32 found, drop 8 text)
hash_found text found long lower decodes = rw (bytes_found 4 text found (omega arith) lower decodes) refl
