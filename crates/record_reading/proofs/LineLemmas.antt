-- A line that is read, from the next one of those that are left.
use Rattle.std.proofs.Common.{◌≡◌, List, [], ◌∷◌, drop, Option, Some, None, Ok, Err, sym, ap, ◌∙◌}
use Rattle.record_reading.specs.Sections.{Line, line_says, one_line}

pub line_found : {A : Type 0} (read : Line → Option A) (lines behind : List Line) → behind ≡ drop 1 lines → (line : Line) → lines ≡ line ∷ drop 1 lines → (a : A) → Some a ≡ read line → one_line read lines ≡ Ok (a, behind)
unfolding line_says
line_found read lines behind passed line is a h =
    ap (one_line read) is ∙ ap (λ f. line_says f line (drop 1 lines)) (sym h) ∙ ap (λ (l : List Line). Ok (a, l)) (sym passed)

pub line_other : {A : Type 0} (read : Line → Option A) (lines : List Line) (line : Line) → lines ≡ line ∷ drop 1 lines → (found : Option A) → found ≡ read line → found ≡ None → one_line read lines ≡ Err lines
unfolding line_says
line_other read lines line is found h none =
    ap (one_line read) is ∙ ap (λ f. line_says f line (drop 1 lines)) (sym h ∙ none) ∙ ap (λ (l : List Line). Err l) (sym is)

pub line_missing : {A : Type 0} (read : Line → Option A) (lines : List Line) → lines ≡ [] → one_line read lines ≡ Err lines
line_missing read lines is = ap (one_line read) is ∙ ap (λ (l : List Line). Err l) (sym is)
