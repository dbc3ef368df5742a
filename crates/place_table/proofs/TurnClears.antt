-- How often a turn clears the bit of each element: as often as its part tells. So two parts that fit the same notes clear alike.
use Rattle.std.proofs.Common.{◌+◌, ◌≡◌, ℕ, suc, cond, Bool, true, false, eqb, List, [], ◌∷◌, ◌++◌, sym, ap, ◌∙◌, arith}
use Rattle.std.proofs.lemmas.List.{map-append}
use Rattle.map_types.specs.declared.attr.Shape.{Shape}
use Rattle.map_types.specs.ElementLists.{times}
use Rattle.map_types.proofs.RowLemmas.{times_append}
use Rattle.place_words.specs.declared.history.Part.{Part}
use Rattle.place_words.specs.declared.visits.Visit.{Visit}
use Rattle.place_words.specs.Histories.{bits_cleared, also_cleared, clears}
use Rattle.place_words.specs.Rotation.{visited_elements}
use Rattle.place_table.specs.declared.view.View.{View}
use Rattle.place_table.specs.declared.view.Hold.{Hold}
use Rattle.place_table.specs.declared.view.Notes.{Notes}
use Rattle.place_table.specs.TurnNotes.{AreCleared, NotesFit, clears_noted}
use Rattle.place_table.proofs.Entries.{append_nil}

-- one of a list, wherever it stands
swapped : (b : Bool) (m n : ℕ) → n + cond b (suc m) m ≡ cond b (suc n) n + m
swapped true m n = omega arith
swapped false m n = omega arith

times_among : (e : ℕ) (xs ys : List ℕ) (x : ℕ) → times e (xs ++ x ∷ ys) ≡ times e (x ∷ (xs ++ ys))
times_among e xs ys x = times_append e xs (x ∷ ys) ∙ (swapped (eqb x e) (times e ys) (times e xs) ∙ sym (times_append e (x ∷ xs) ys))

pub clears_counted : (e : ℕ) (also : List ℕ) (told cleared : List Visit) → AreCleared also told cleared → times e (visited_elements cleared) ≡ times e (visited_elements told ++ also)
clears_counted e [] told cleared are = ap (λ (l : List Visit). times e (visited_elements l)) are ∙ sym (ap (times e) (append_nil (visited_elements told)))
clears_counted e (x ∷ xs) told cleared are =
    let element : Visit → ℕ = λ visit. visit.element in
    let before = visited_elements are.0 in
    let behind = visited_elements are.2 in
    let rest = clears_counted e xs told (are.0 ++ are.2) are.4 in
    ap (λ (l : List Visit). times e (visited_elements l)) are.3
    ∙ (ap (times e) (map-append element are.0 (record { element = x; bit = are.1 } ∷ are.2))
    ∙ (times_among e before behind x
    ∙ (ap (λ n. cond (eqb x e) (suc n) n) (ap (times e) (sym (map-append element are.0 are.2)) ∙ rest)
    ∙ sym (times_among e (visited_elements told) xs x))))

-- two parts that fit the same notes
pub same_clears : (shape : Shape) (v w : View) (hold other : Hold) (part stands : Part) (notes : Notes) → NotesFit shape v hold part notes → NotesFit shape w other stands notes → (e : ℕ) → times e (clears part) ≡ times e (clears stands)
same_clears shape v w hold other part stands notes fit fits e =
    sym (clears_counted e (also_cleared part) (bits_cleared part) (clears_noted notes) fit.clears_are)
    ∙ clears_counted e (also_cleared stands) (bits_cleared stands) (clears_noted notes) fits.clears_are
