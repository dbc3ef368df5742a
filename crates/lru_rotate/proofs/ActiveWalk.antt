-- The visits of active from the tail, one after another: what the lists are after each.
use Rattle.std.proofs.Common.{◌≡◌, true, false, List, [], ◌∷◌, ◌++◌, reverse, refl, ap, ◌∙◌, sym}
use Rattle.std.specs.Prelude.{Some}
use Rattle.std.proofs.lemmas.List.{reverse-append, reverse-reverse, append_assoc, append-nil}
use Rattle.map_types.specs.ElementLists.{times}
use Rattle.map_types.specs.declared.row.Row.{Row}
use Rattle.place_words.specs.declared.visits.Visit.{Visit}
use Rattle.map_types.specs.Listed.{elements_of, those, without_those}
use Rattle.place_words.specs.Rotation.{was_set, visited_elements}
use Rattle.map_types.proofs.RowLemmas.{IsAbsent, AreOnce, alone, absent-filter, absent-append, absent-reverse, passes_around}
use Rattle.place_words.proofs.VisitLemmas.{visit_of, those_push, without_push}
use Rattle.row_list.specs.RowWords.{without_row, tail_row}

-- active and inactive where `visited` of active have been visited and `left` haven't, in their order from the tail
abbrev pub active_at : List Row → List Row → List Visit → List Row
active_at visited left visits = reverse (those (was_set visits) visited) ++ reverse left

abbrev pub inactive_at : List Row → List Row → List Visit → List Row
inactive_at inactive visited visits = reverse (without_those (was_set visits) visited) ++ inactive

reverse_cons : (row : Row) (rows : List Row) → reverse (row ∷ rows) ≡ reverse rows ++ row ∷ []
reverse_cons row rows = reverse-append (row ∷ []) rows

pub reverse_push : (rows : List Row) (row : Row) → reverse (rows ++ row ∷ []) ≡ row ∷ reverse rows
reverse_push rows row = reverse-append rows (row ∷ [])

-- the next one to visit is the tail
pub next_is_tail : (front left : List Row) (row : Row) → tail_row (front ++ reverse (row ∷ left)) ≡ Some row
next_is_tail front left row =
    let turned : reverse (front ++ reverse (row ∷ left)) ≡ row ∷ (left ++ reverse front) =
    reverse-append front (reverse (row ∷ left)) ∙ ap (λ (xs : List Row). xs ++ reverse front) (reverse-reverse (row ∷ left)) in
    rw turned refl

module _ (visited left : List Row) (visits : List Visit) (row : Row) (once : AreOnce (visited ++ row ∷ left)) (so_far : visited_elements visits ≡ elements_of visited) where
  before_it : IsAbsent row.element visited
  before_it = (alone visited left row once).0

  after_it : IsAbsent row.element left
  after_it = (alone visited left row once).1

  unseen : times row.element (visited_elements visits) ≡ 0
  unseen = ap (times row.element) so_far ∙ before_it

  -- active without the row
  active_without : without_row row.element (active_at visited (row ∷ left) visits) ≡ active_at visited left visits
  active_without =
      let front : List Row = reverse (those (was_set visits) visited) in
      let shape : active_at visited (row ∷ left) visits ≡ (front ++ reverse left) ++ row ∷ [] =
      ap (λ (xs : List Row). front ++ xs) (reverse_cons row left) ∙ sym (append_assoc front (reverse left) (row ∷ [])) in
      let absent : IsAbsent row.element (front ++ reverse left) =
      absent-append row.element front (reverse left) (absent-reverse row.element (those (was_set visits) visited) (absent-filter (λ r. was_set visits r.element) row.element visited before_it)) (absent-reverse row.element left after_it) in
      rw shape (passes_around (front ++ reverse left) [] row absent refl ∙ append-nil (front ++ reverse left))

  -- it goes to the head of active where its bit was set, and inactive stays
  pub active_set : row ∷ without_row row.element (active_at visited (row ∷ left) visits) ≡ active_at (visited ++ row ∷ []) left (visits ++ visit_of row true ∷ [])
  active_set =
      let kept = those_push visits row true unseen visited before_it in
      rw (active_without, kept, reverse_push (those (was_set visits) visited) row) refl

  pub inactive_set : (inactive : List Row) → inactive_at inactive visited visits ≡ inactive_at inactive (visited ++ row ∷ []) (visits ++ visit_of row true ∷ [])
  inactive_set inactive =
      let kept = without_push visits row true unseen visited before_it in
      rw (kept, append-nil (without_those (was_set visits) visited)) refl

  -- and to the head of inactive where it wasn't
  pub active_clear : without_row row.element (active_at visited (row ∷ left) visits) ≡ active_at (visited ++ row ∷ []) left (visits ++ visit_of row false ∷ [])
  active_clear =
      let kept = those_push visits row false unseen visited before_it in
      rw (active_without, kept, append-nil (those (was_set visits) visited)) refl

  pub inactive_clear : (inactive : List Row) → row ∷ inactive_at inactive visited visits ≡ inactive_at inactive (visited ++ row ∷ []) (visits ++ visit_of row false ∷ [])
  inactive_clear inactive =
      let kept = without_push visits row false unseen visited before_it in
      rw (kept, reverse_push (without_those (was_set visits) visited) row) refl
