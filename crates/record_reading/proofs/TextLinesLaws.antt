-- The lines of a text, and the text of lines.
use Rattle.std.proofs.Common.{◌≡◌, ◌==◌, not, ℕ, Bool, true, false, List, [], ◌∷◌, ◌++◌, refl, sym, ap, ◌∙◌, append_assoc}
use Rattle.std.specs.List.{flat_map}
use Rattle.std.proofs.lemmas.Bool.{and_parts, and_from, cond_both, cond-false, eqb-true, not_from_false}
use Rattle.std.specs.Prelude.{codes}
use Rattle.map_report.specs.Text.{ended}
use Rattle.record_reading.specs.Readers.{AllFit}
use Rattle.record_reading.specs.Sections.{Line}
use Rattle.record_reading.specs.TextLines.{with_letter, lines_in, is_plain, IsPlain}

pub plain_both : (one other : List ℕ) → IsPlain one → IsPlain other → IsPlain (one ++ other)
plain_both [] other plain plain_other = plain_other
plain_both (c ∷ one) other plain plain_other =
    let parts = and_parts (not (c == 10)) (is_plain one) plain in
    and_from (not (c == 10)) (is_plain (one ++ other)) parts.0 (plain_both one other parts.1 plain_other)

no_feed : (b : Bool) → not b ≡ true → b ≡ false
no_feed true h = sym h
no_feed false h = refl

abbrev ended_text : List Line × List ℕ → List ℕ
ended_text parts = flat_map ended parts.0 ++ parts.1

letter_text : (c : ℕ) (parts : List Line × List ℕ) → ended_text (with_letter c parts) ≡ c ∷ ended_text parts
letter_text c ([], rest) = refl
letter_text c (line ∷ lines, rest) = refl

pub lines_are : (text : List ℕ) → text ≡ ended_text (lines_in text)
unfolding lines_in
lines_are [] = refl
lines_are (c ∷ text) =
    cond_both (c == 10) ([] ∷ (lines_in text).0, (lines_in text).1) (with_letter c (lines_in text)) (λ p. ◌≡◌ {A = List ℕ} (c ∷ text) (ended_text p))
    (λ is. (λ i. eqb-true c 10 is i ∷ lines_are text i)) (λ is_not. ap (λ (t : List ℕ). c ∷ t) (lines_are text) ∙ sym (letter_text c (lines_in text)))

letter_plain : (c : ℕ) (parts : List Line × List ℕ) → (c == 10) ≡ false → AllFit IsPlain parts.0 × IsPlain parts.1 → AllFit IsPlain (with_letter c parts).0 × IsPlain (with_letter c parts).1
letter_plain c ([], rest) is_not plain = (tt, and_from (not (c == 10)) (is_plain rest) (not_from_false (c == 10) is_not) plain.1)
letter_plain c (line ∷ lines, rest) is_not plain = ((and_from (not (c == 10)) (is_plain line) (not_from_false (c == 10) is_not) plain.0.0, plain.0.1), plain.1)

pub lines_plain : (text : List ℕ) → AllFit IsPlain (lines_in text).0 × IsPlain (lines_in text).1
unfolding lines_in
lines_plain [] = (tt, refl)
lines_plain (c ∷ text) =
    cond_both (c == 10) ([] ∷ (lines_in text).0, (lines_in text).1) (with_letter c (lines_in text)) (λ p. AllFit IsPlain p.0 × IsPlain p.1)
    (λ is. ((refl, (lines_plain text).0), (lines_plain text).1)) (λ is_not. letter_plain c (lines_in text) is_not (lines_plain text))

letter_not : (c : ℕ) (text : List ℕ) → not (c == 10) ≡ true → lines_in (c ∷ text) ≡ with_letter c (lines_in text)
unfolding lines_in
letter_not c text h = cond-false (c == 10) _ _ (no_feed (c == 10) h)

rest_back : (rest : List ℕ) → IsPlain rest → lines_in rest ≡ ([], rest)
unfolding lines_in
rest_back [] plain = refl
rest_back (c ∷ rest) plain =
    let parts = and_parts (not (c == 10)) (is_plain rest) plain in
    letter_not c rest parts.0 ∙ ap (with_letter c) (rest_back rest parts.1)

line_back : (line : Line) (text : List ℕ) → IsPlain line → lines_in (line ++ (codes "\n" ++ text)) ≡ (line ∷ (lines_in text).0, (lines_in text).1)
unfolding lines_in
line_back [] text plain = refl
line_back (c ∷ line) text plain =
    let parts = and_parts (not (c == 10)) (is_plain line) plain in
    letter_not c (line ++ (codes "\n" ++ text)) parts.0 ∙ ap (with_letter c) (line_back line text parts.1)

-- lines and any text behind them
pub lines_back : (lines : List Line) (text : List ℕ) → AllFit IsPlain lines → lines_in (flat_map ended lines ++ text) ≡ (lines ++ (lines_in text).0, (lines_in text).1)
lines_back [] text plain = refl
lines_back (line ∷ lines) text plain =
    ap lines_in (append_assoc (ended line) (flat_map ended lines) text ∙ append_assoc line (codes "\n") (flat_map ended lines ++ text))
    ∙ line_back line (flat_map ended lines ++ text) plain.0
    ∙ ap (λ (p : List Line × List ℕ). (line ∷ p.0, p.1)) (lines_back lines text plain.1)
