-- The first line feed ends the first line.
use Rattle.std.proofs.Common.{◌≡◌, ℕ, zero, suc, ◌+◌, ◌<◌, ◌==◌, true, false, List, [], ◌∷◌, length, take, drop, get_or, refl, ap, ◌∙◌, arith}
use Rattle.std.proofs.lemmas.Bool.{cond-true, cond-false}
use Rattle.record_reading.specs.Sections.{Line}
use Rattle.record_reading.specs.TextLines.{with_letter, lines_in}

-- a line before these
abbrev line_before : Line → List Line × List ℕ → List Line × List ℕ
line_before line lines = (line ∷ lines.0, lines.1)

no_feed : (c : ℕ) (text : List ℕ) → (c == 10) ≡ false → lines_in (c ∷ text) ≡ with_letter c (lines_in text)
unfolding lines_in
no_feed c text other = cond-false (c == 10) (line_before [] (lines_in text)) (with_letter c (lines_in text)) other

cut_at : (text : List ℕ) (i : ℕ) → i < length text → (get_or text i 0 == 10) ≡ true → ((k : ℕ) → k < i → (get_or text k 0 == 10) ≡ false) → lines_in text ≡ line_before (take i text) (lines_in (drop (suc i) text))
unfolding lines_in
cut_at [] i inside here before = absurd (omega arith)
cut_at (c ∷ text) zero inside here before = cond-true (c == 10) (line_before [] (lines_in text)) (with_letter c (lines_in text)) here
cut_at (c ∷ text) (suc i) inside here before =
    no_feed c text (before 0 (omega arith)) ∙ ap (with_letter c) (cut_at text i (omega arith) here (λ k less. before (suc k) (omega arith)))

pub first_line : (text : List ℕ) (i : ℕ) → i < length text → (get_or text i 0 == 10) ≡ true → ((k : ℕ) → k < i → (get_or text k 0 == 10) ≡ false) → lines_in text ≡ (take i text ∷ (lines_in (drop (i + 1) text)).0, (lines_in (drop (i + 1) text)).1)
first_line text i inside here before = cut_at text i inside here before ∙ ap (λ n. line_before (take i text) (lines_in (drop n text))) {x = suc i} {y = i + 1} (omega arith)

pub no_line : (text : List ℕ) → ((k : ℕ) → k < length text → (get_or text k 0 == 10) ≡ false) → lines_in text ≡ ([], text)
unfolding lines_in
no_line [] free = refl
no_line (c ∷ text) free = no_feed c text (free 0 (omega arith)) ∙ ap (with_letter c) (no_line text (λ k less. free (suc k) (omega arith)))
