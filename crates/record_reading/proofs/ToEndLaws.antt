-- The laws of what is read to the end of its line.
use Rattle.std.proofs.Common.{◌≡◌, ℕ, zero, suc, ◌<◌, ◌≤◌, ◌^◌, ◌*◌, ◌/◌, nat_le, Bool, true, List, [], ◌∷◌, ◌++◌, length, subst, Option, Some, None, refl, sym, ap, ◌∙◌, arith, length-append}
use Rattle.std.specs.Prelude.{codes, bytes_eq}
use Rattle.std.specs.List.{flat_map}
use Rattle.std.proofs.lemmas.Bool.{cond-true, leb-true, le-leb}
use Rattle.std.proofs.lemmas.Slice.Eq.{bytes_eq-Decides}
use Rattle.hex.specs.Hex.{encode_lower, lower_digits}
use Rattle.hex.proofs.HexLemmas.{length-encode_with}
use Rattle.map_report.specs.Words.{number_text}
use Rattle.record_reading.specs.Readers.{Reader, behind, after, number, bytes, whole, tested, word_then, first_then, made_of, passing, the_line, blank_numbers, numbers_to_end, some_bytes, AllFit}
use Rattle.record_shape.specs.ShapedParts.{AreSomeBytes}
use Rattle.record_reading.proofs.SectionLaws.{ReadsLine}
use Rattle.record_reading.proofs.Laws.{Stops, bound, if_some, from_some, behind_back, behind_right, tested_reads, bytes_reads, number_text_reads}
use Rattle.record_reading.proofs.LineLaws.{whole_reads}

-- ---- combinations

module _ {A : Type 0} {print : A → List ℕ} {Fits : A → Type 0} {read : List ℕ → Option A} (reads : ReadsLine print Fits read) where
  pub word_then_reads : (word : List ℕ) → ReadsLine (λ a. word ++ print a) Fits (word_then word read)
  word_then_reads word = record {
    back = λ a fits. rw (behind_back word (print a)) (reads.back a fits);
    right = λ text a h.
        let rest = bound (behind word text) read a h in
        let law = reads.right rest.0 a rest.2 in
        (behind_right word text rest.0 rest.1 ∙ ap (λ t. word ++ t) law.0, law.1);
  }

  pub passing_reads : (test : A → Bool) → ReadsLine print (λ a. Fits a × (test a ≡ true)) (passing test read)
  passing_reads test = record {
    back = λ a fits. rw (reads.back a fits.0) (cond-true (test a) (Some a) None fits.1);
    right = λ text a h.
        let found = bound (read text) _ a h in
        let is = if_some (test found.0) found.0 a found.2 in
        let law = reads.right text found.0 found.1 in
        subst (λ (b : A). (text ≡ print b) × (Fits b × (test b ≡ true))) is.1 (law.0, (law.1, is.0));
  }

  -- another way to say the same
  pub same_reads : (print_other : A → List ℕ) (FitsOther : A → Type 0) → ((a : A) → print_other a ≡ print a) → ((a : A) → Fits a → FitsOther a) → ((a : A) → FitsOther a → Fits a) → ReadsLine print_other FitsOther read
  same_reads print_other FitsOther same to from = record {
    back = λ a fits. ap read (same a) ∙ reads.back a (from a fits);
    right = λ text a h. let law = reads.right text a h in (law.0 ∙ sym (same a), to a law.1);
  }

  module _ {B : Type 0} (make : A → B) (parts : B → A) (same : (b : B) → make (parts b) ≡ b) (print_made : B → List ℕ) (FitsMade : B → Type 0)
      (prints : (a : A) → print_made (make a) ≡ print a) (to : (a : A) → Fits a → FitsMade (make a)) (from : (a : A) → FitsMade (make a) → Fits a) where
    made_back_of : (a : A) → FitsMade (make a) → made_of make read (print_made (make a)) ≡ Some (make a)
    made_back_of a fits = rw (prints a, reads.back a (from a fits)) refl

    pub made_of_reads : ReadsLine print_made FitsMade (made_of make read)
    made_of_reads = record {
      back = λ b. subst (λ (c : B). FitsMade c → made_of make read (print_made c) ≡ Some c) (same b) (made_back_of (parts b));
      right = λ text b h.
          let found = bound (read text) _ b h in
          let law = reads.right text found.0 found.1 in
          subst (λ (c : B). (text ≡ print_made c) × FitsMade c) (from_some (make found.0) b found.2) (law.0 ∙ sym (prints found.0), to found.0 law.1);
    }

module _ {A B : Type 0} (print : A → List ℕ) {Fits : A → Type 0} {first : Reader A} {print_end : B → List ℕ} {FitsEnd : B → Type 0} {read : List ℕ → Option B}
    (back : (a : A) (b : B) → Fits a → FitsEnd b → first (print a ++ print_end b) ≡ Some (a, print_end b))
    (right : (text : List ℕ) (a : A) (rest : List ℕ) → first text ≡ Some (a, rest) → (text ≡ print a ++ rest) × Fits a) (ends : ReadsLine print_end FitsEnd read) where
  pub first_then_reads : ReadsLine (λ x. print x.0 ++ print_end x.1) (λ x. Fits x.0 × FitsEnd x.1) (first_then first read)
  first_then_reads = record {
    back = λ x fits. rw (back x.0 x.1 fits.0 fits.1, ends.back x.1 fits.1) refl;
    right = λ text x h.
        let one = bound (first text) _ x h in
        let two = bound (read one.0.1) _ x one.2 in
        let law = right text one.0.0 one.0.1 one.1 in
        let more = ends.right one.0.1 two.0 two.1 in
        subst (λ (y : A × B). (text ≡ print y.0 ++ print_end y.1) × (Fits y.0 × FitsEnd y.1)) (from_some (one.0.0, two.0) x two.2) (law.0 ∙ ap (λ t. print one.0.0 ++ t) more.0, (law.1, more.1));
  }

-- ---- a line as it stands

pub the_line_reads : (line : List ℕ) → ReadsLine (λ (_ : Unit {0}). line) (λ _. Unit {0}) (the_line line)
unfolding the_line
the_line_reads line = record {
  back = λ a fits. cond-true (bytes_eq line line) (Some tt) None ((bytes_eq-Decides line line).1 refl);
  right = λ text a h. let is = if_some (bytes_eq text line) tt a h in ((bytes_eq-Decides text line).0 is.0, tt);
}

-- ---- numbers

module _ (below : ℕ) (small : below ≤ 2 ^ 64) where
  abbrev Below : List ℕ → Type 0
  Below numbers = AllFit (λ n. n < below) numbers

  numbers_stop : (numbers : List ℕ) → Stops (flat_map number_text numbers)
  numbers_stop [] = tt
  numbers_stop (n ∷ more) = refl

  blank_back : (most : ℕ) (numbers : List ℕ) → length numbers ≤ most → Below numbers → blank_numbers below most (flat_map number_text numbers) ≡ Some numbers
  unfolding blank_numbers
  blank_back most [] few fits = refl
  blank_back zero (n ∷ more) few fits = absurd (omega arith)
  blank_back (suc most) (n ∷ more) few fits =
      rw ((number_text_reads below small).back n (flat_map number_text more) fits.0 (numbers_stop more), blank_back most more (omega arith) fits.1) refl

  blank_right : (most : ℕ) (text numbers : List ℕ) → blank_numbers below most text ≡ Some numbers → (text ≡ flat_map number_text numbers) × Below numbers
  unfolding blank_numbers
  blank_right most [] numbers h = subst (λ (l : List ℕ). (◌≡◌ {A = List ℕ} [] (flat_map number_text l)) × Below l) (from_some [] numbers h) (refl, tt)
  blank_right zero (c ∷ text) numbers h = absurd (cc)
  blank_right (suc most) (c ∷ text) numbers h =
      let one = bound (after (codes " ") (number below) (c ∷ text)) _ numbers h in
      let two = bound (blank_numbers below most one.0.1) _ numbers one.2 in
      let law = (number_text_reads below small).right (c ∷ text) one.0.0 one.0.1 one.1 in
      let more = blank_right most one.0.1 two.0 two.1 in
      subst (λ (l : List ℕ). (◌≡◌ {A = List ℕ} (c ∷ text) (flat_map number_text l)) × Below l) (from_some (one.0.0 ∷ two.0) numbers two.2) (law.0 ∙ ap (λ t. number_text one.0.0 ++ t) more.0, (law.1, more.1))

  few_numbers : (numbers : List ℕ) → length numbers ≤ length (flat_map number_text numbers)
  few_numbers [] = omega arith
  few_numbers (n ∷ more) = omega (arith, few_numbers more, length-append (number_text n) (flat_map number_text more))

  pub numbers_reads : ReadsLine (flat_map number_text) Below (numbers_to_end below)
  unfolding numbers_to_end
  numbers_reads = record { back = λ numbers fits. blank_back (length (flat_map number_text numbers)) numbers (few_numbers numbers) fits; right = λ text. blank_right (length text) text }

-- ---- bytes of some size

half : (n : ℕ) → (2 * n) / 2 ≡ n
half n = omega arith

pub some_bytes_reads : ReadsLine encode_lower AreSomeBytes some_bytes
unfolding some_bytes
some_bytes_reads = record {
  back = λ found fits.
      let size : length (encode_lower found) / 2 ≡ length found = ap (λ n. n / 2) (length-encode_with lower_digits found) ∙ half (length found) in
      subst (λ n. whole (tested (λ b. nat_le 1 (length b)) (bytes n)) (encode_lower found) ≡ Some found) (sym size)
      ((whole_reads (tested_reads (bytes_reads (length found)) (λ b. nat_le 1 (length b)))).back found (record { sized = refl; small = fits.small }, le-leb 1 (length found) fits.some));
  right = λ text found h.
      let law = (whole_reads (tested_reads (bytes_reads (length text / 2)) (λ b. nat_le 1 (length b)))).right text found h in
      (law.0, record { some = leb-true 1 (length found) law.1.1; small = law.1.0.small });
}
