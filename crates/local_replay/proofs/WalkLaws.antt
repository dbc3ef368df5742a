-- Walks over rows, one row after another.
use Rattle.std.proofs.Common.{◌≡◌, ◌≢◌, ℕ, suc, ◌+◌, ◌<◌, ◌≤◌, Bool, true, false, ◌&&◌, eqb, List, [], ◌∷◌, length, drop, get_or, refl, ap, sym, ◌∙◌, subst}
use Rattle.std.proofs.lemmas.Bool.{eq-eqb}
use Rattle.std.proofs.lemmas.List.{drop_more, drop_all}
use Rattle.map_types.specs.declared.row.Row.{Row}
use Rattle.map_types.specs.Listed.{elements_of}
use Rattle.map_types.proofs.RowLemmas.{by_test}
use Rattle.place_words.specs.declared.visits.Visit.{Visit}
use Rattle.place_words.specs.Rotation.{visited_elements}
use Rattle.local_replay.specs.Walks.{visits_are}

-- one row and one visit on
visits_on : (rows : List Row) (visits : List Visit) (i : ℕ) (row : Row) (visit : Visit) → i < length rows → i < length visits
    → visits_are (drop i rows) (drop i visits) ≡ (eqb (get_or visits i visit).element (get_or rows i row).element && visits_are (drop (i + 1) rows) (drop (i + 1) visits))
unfolding visits_are
visits_on rows visits i row visit r v =
    ap (λ (l : List Row). visits_are l (drop i visits)) (drop_more rows i row r) ∙ ap (visits_are (get_or rows i row ∷ drop (i + 1) rows)) (drop_more visits i visit v)

some_row : Row
some_row = record { element = 0; hash = 0 }

some_visit : Visit
some_visit = record { element = 0; bit = false }

pub visits_next : (rows : List Row) (visits : List Visit) (i : ℕ) (b all : Bool) → i < length visits → length visits ≡ length rows → b ≡ true
    → ((row : Row) (visit : Visit) → b ≡ eqb (get_or visits i visit).element (get_or rows i row).element)
    → visits_are (drop i rows) (drop i visits) ≡ all → visits_are (drop (i + 1) rows) (drop (i + 1) visits) ≡ all
visits_next rows visits i b all within same hit told so_far =
    let on = visits_on rows visits i some_row some_visit (subst (λ (n : ℕ). i < n) same within) within in
    sym (on ∙ ap (λ (x : Bool). x && visits_are (drop (i + 1) rows) (drop (i + 1) visits)) (sym (told some_row some_visit) ∙ hit)) ∙ so_far

pub visits_stop : (rows : List Row) (visits : List Visit) (i : ℕ) (b all : Bool) → i < length visits → length visits ≡ length rows → b ≡ false
    → ((row : Row) (visit : Visit) → b ≡ eqb (get_or visits i visit).element (get_or rows i row).element)
    → visits_are (drop i rows) (drop i visits) ≡ all → false ≡ all
visits_stop rows visits i b all within same miss told so_far =
    let on = visits_on rows visits i some_row some_visit (subst (λ (n : ℕ). i < n) same within) within in
    sym (on ∙ ap (λ (x : Bool). x && visits_are (drop (i + 1) rows) (drop (i + 1) visits)) (sym (told some_row some_visit) ∙ miss)) ∙ so_far

pub visits_end : (rows : List Row) (visits : List Visit) (i : ℕ) (all : Bool) → length visits ≤ i → length visits ≡ length rows
    → visits_are (drop i rows) (drop i visits) ≡ all → true ≡ all
unfolding visits_are
visits_end rows visits i all past same so_far =
    sym (ap (λ (l : List Row). visits_are l (drop i visits)) (drop_all i rows (subst (λ (n : ℕ). n ≤ i) same past)) ∙ ap (visits_are []) (drop_all i visits past)) ∙ so_far

pub visits_short : (rows : List Row) (visits : List Visit) → length visits ≢ length rows → visits_are rows visits ≡ false
unfolding visits_are
visits_short [] [] unlike = absurd (unlike refl)
visits_short [] (visit ∷ visits) unlike = refl
visits_short (row ∷ rows) [] unlike = refl
visits_short (row ∷ rows) (visit ∷ visits) unlike =
    by_test visit.element row.element (λ b. (b && visits_are rows visits) ≡ false) (λ _. visits_short rows visits (λ is. unlike (ap suc is))) (λ _. refl)

pub visits_told : (rows : List Row) (visits : List Visit) → visits_are rows visits ≡ true → visited_elements visits ≡ elements_of rows
unfolding visits_are
visits_told [] [] = λ told. refl
visits_told [] (visit ∷ visits) = λ told. absurd cc
visits_told (row ∷ rows) [] = λ told. absurd cc
visits_told (row ∷ rows) (visit ∷ visits) =
    by_test visit.element row.element (λ b. (b && visits_are rows visits) ≡ true → visited_elements (visit ∷ visits) ≡ elements_of (row ∷ rows))
    (λ is told. let rest = visits_told rows visits told in cc) (λ _ told. absurd cc)

pub visits_tell : (rows : List Row) (visits : List Visit) → visited_elements visits ≡ elements_of rows → visits_are rows visits ≡ true
unfolding visits_are
visits_tell [] [] is = refl
visits_tell [] (visit ∷ visits) is = absurd cc
visits_tell (row ∷ rows) [] is = absurd cc
visits_tell (row ∷ rows) (visit ∷ visits) is =
    let first : visit.element ≡ row.element = cc in
    let rest : visited_elements visits ≡ elements_of rows = cc in
    rw (eq-eqb visit.element row.element first) (visits_tell rows visits rest)
