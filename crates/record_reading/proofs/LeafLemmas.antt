-- Words and digits at the front of a text, as the code finds them.
use Rattle.std.proofs.Common.{◌≡◌, ℕ, zero, suc, ◌<◌, ◌≤◌, not, Bool, true, false, List, [], ◌∷◌, ◌++◌, length, take, drop, get_or, Option, Some, None, refl, sym, ap, ◌∙◌, arith, length-take}
use Rattle.std.specs.Prelude.{IsUtf8}
use Rattle.std.specs.Char.{is_ascii_digit}
use Rattle.std.specs.Str.Parse.{AllDigits}
use Rattle.std.proofs.Math.Seq.{take-append_seam}
use Rattle.std.proofs.lemmas.List.{take-append-drop}
use Rattle.std.proofs.lemmas.Fmt.{IsAscii-from_digits}
use Rattle.std.proofs.lemmas.Str.{IsUtf8-from_ascii}
use Rattle.record_reading.specs.Readers.{behind, digits_of, behind_digits, bytes}
use Rattle.record_reading.proofs.Laws.{behind_back, behind_right, bytes_reads}

pub behind_is : (word text : List ℕ) → take (length word) text ≡ word → behind word text ≡ Some (drop (length word) text)
behind_is word text e =
    ap (behind word) (sym (take-append-drop (length word) text) ∙ ap (λ t. t ++ drop (length word) text) e) ∙ behind_back word (drop (length word) text)

pub behind_not : (word text : List ℕ) → (take (length word) text ≡ word → ⊥) → behind word text ≡ None
behind_not word text other = by (behind word text) refl
  where
    by : (o : Option (List ℕ)) → behind word text ≡ o → o ≡ None
    by None is = refl
    by (Some rest) is = absurd (other (ap (take (length word)) (behind_right word text rest is) ∙ take-append_seam word rest))

pub behind_short : (word text : List ℕ) → length text < length word → behind word text ≡ None
behind_short word text short = behind_not word text (λ e. omega (arith, ap length e, length-take (length word) text))

pub digits_utf8 : (ds : List ℕ) → AllDigits 10 ds → IsUtf8 ds
digits_utf8 ds all = IsUtf8-from_ascii ds (IsAscii-from_digits ds all)

-- so many digits, and no digit behind them
pub digits_counted : (count : ℕ) (text : List ℕ) → count ≤ length text → ((i : ℕ) → i < count → is_ascii_digit (get_or text i 0) ≡ true) → (count < length text → is_ascii_digit (get_or text count 0) ≡ false) → (digits_of text ≡ take count text) × (behind_digits text ≡ drop count text)
unfolding digits_of behind_digits
digits_counted zero [] within all ends = (refl, refl)
digits_counted zero (c ∷ text) within all ends = (rw (ends (omega arith)) refl, rw (ends (omega arith)) refl)
digits_counted (suc count) [] within all ends = absurd (omega arith)
digits_counted (suc count) (c ∷ text) within all ends =
    let here : is_ascii_digit c ≡ true = all 0 (omega arith) in
    let more = digits_counted count text (omega arith) (λ i less. all (suc i) (omega arith)) (λ less. ends (omega arith)) in
    (rw here (ap (λ t. c ∷ t) more.0), rw here more.1)

pub not_false : (b : Bool) → not b ≡ false → b ≡ true
not_false true h = refl
not_false false h = sym h

-- nothing stands before a text
pub behind_nothing : (text : List ℕ) → behind [] text ≡ Some text
unfolding behind
behind_nothing text = refl

-- as many bytes as are asked for
pub bytes_sized : (size : ℕ) (text found rest : List ℕ) → bytes size text ≡ Some (found, rest) → length found ≡ size
bytes_sized size text found rest is = ((bytes_reads size).right text found rest is).1.sized
