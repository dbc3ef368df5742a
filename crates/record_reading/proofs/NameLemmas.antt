-- Words that stand one behind another, and lines that are known.
use Rattle.std.proofs.Common.{◌≡◌, ℕ, ◌<◌, ◌==◌, cond, true, false, List, [], ◌∷◌, ◌++◌, length, Option, Some, None, refl, sym, ap, ◌∙◌, arith, length-append}
use Rattle.std.specs.Prelude.{bytes_eq, codes, decimal}
use Rattle.std.proofs.lemmas.Bool.{cond_both, cond-true}
use Rattle.std.proofs.lemmas.List.{append-nil}
use Rattle.std.proofs.lemmas.Slice.Eq.{bytes_eq-Decides}
use Rattle.map_report.specs.Words.{number_text}
use Rattle.record_reading.specs.Readers.{◌>>=◌, behind, the_line}
use Rattle.record_reading.proofs.Laws.{behind_back, behind_right}
use Rattle.record_reading.proofs.LineLaws.{length_zero}

pub behind_both : (one other text : List ℕ) → behind (one ++ other) text ≡ (behind one text >>= behind other)
unfolding behind
behind_both [] other text = refl
behind_both (c ∷ one) other [] = refl
behind_both (c ∷ one) other (d ∷ text) =
    elim (c == d) as (λ b. cond b (behind (one ++ other) text) None ≡ (cond b (behind one text) None >>= behind other)) [
      | true ↦ behind_both one other text
      | false ↦ refl
    ]

-- where one isn't there, and where one is
pub behind_neither : (one other text : List ℕ) → behind one text ≡ None → behind (one ++ other) text ≡ None
behind_neither one other text none = behind_both one other text ∙ ap (λ (o : Option (List ℕ)). o >>= behind other) none

pub behind_then : (one other text rest : List ℕ) → behind one text ≡ Some rest → behind (one ++ other) text ≡ behind other rest
behind_then one other text rest found = behind_both one other text ∙ ap (λ (o : Option (List ℕ)). o >>= behind other) found

pub blank_not : (n : ℕ) (text : List ℕ) → behind (codes " ") text ≡ None → behind (number_text n) text ≡ None
blank_not n text none = behind_neither (codes " ") (decimal n) text none

pub blank_then : (n : ℕ) (text rest : List ℕ) → behind (codes " ") text ≡ Some rest → behind (number_text n) text ≡ behind (decimal n) rest
blank_then n text rest found = behind_then (codes " ") (decimal n) text rest found

-- ---- a line as it stands

not_this : (line text : List ℕ) → (text ≡ line → ⊥) → the_line line text ≡ None
unfolding the_line
not_this line text other =
    cond_both (bytes_eq text line) (Some (tt {0})) None (λ (o : Option (Unit {0})). o ≡ None) (λ same. absurd (other ((bytes_eq-Decides text line).0 same))) (λ not_same. refl)

pub line_not : (line text : List ℕ) → behind line text ≡ None → the_line line text ≡ None
line_not line text none = not_this line text (λ e. let found = ap (behind line) (e ∙ sym (append-nil line)) ∙ behind_back line [] in absurd (cc (sym none ∙ found)))

pub line_is : (line text rest : List ℕ) → behind line text ≡ Some rest → length rest ≡ 0 → the_line line text ≡ Some tt
unfolding the_line
line_is line text rest found over =
    let is : text ≡ line = behind_right line text rest found ∙ ap (λ t. line ++ t) (length_zero rest over) ∙ append-nil line in
    cond-true (bytes_eq text line) (Some tt) None ((bytes_eq-Decides text line).1 is)

pub line_longer : (line text rest : List ℕ) → behind line text ≡ Some rest → 0 < length rest → the_line line text ≡ None
line_longer line text rest found longer =
    not_this line text (λ e. omega (arith, longer, ap length (behind_right line text rest found), ap length e, length-append line rest))
