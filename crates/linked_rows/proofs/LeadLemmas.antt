-- What leads from cell to cell over rows, and how it changes with one link.
use Rattle.std.proofs.Common.{◌≡◌, ◌≢◌, ℕ, suc, ◌<◌, ◌≤◌, List, [], ◌∷◌, ◌++◌, refl, ap, sym, ◌∙◌, map, drop, get_or, reverse, cond, append-nil, arith}
use Rattle.std.proofs.lemmas.Grind.{reverse_onto}
use Rattle.map_types.specs.ElementLists.{times, IsIn}
use Rattle.map_types.specs.declared.row.Row.{Row}
use Rattle.map_types.specs.Listed.{elements_of}
use Rattle.map_types.proofs.RowLemmas.{by_test}
use Rattle.row_list.proofs.ElementLemmas.{times_here, absent_parts}
use Rattle.row_list.proofs.RowLemmas.{fewer_behind}
use Rattle.linked_rows.specs.Cells.{IsRing}

-- `next` leads from one cell over those of the rows, in order, to another.
abbrev pub Leads : (ℕ → ℕ) → ℕ → List Row → ℕ → Type 0
Leads next start [] end = next start ≡ end
Leads next start (row ∷ rows) end = (next start ≡ row.element) × Leads next row.element rows end

leads_listed : (next : ℕ → ℕ) (start : ℕ) (rows : List Row) (end : ℕ) → map next (start ∷ elements_of rows) ≡ elements_of rows ++ end ∷ [] → Leads next start rows end
leads_listed next start [] end listed = ap (λ (xs : List ℕ). get_or xs 0 0) listed
leads_listed next start (row ∷ rows) end listed =
    (ap (λ (xs : List ℕ). get_or xs 0 0) listed, leads_listed next row.element rows end (ap (drop 1) listed))

listed_leads : (next : ℕ → ℕ) (start : ℕ) (rows : List Row) (end : ℕ) → Leads next start rows end → map next (start ∷ elements_of rows) ≡ elements_of rows ++ end ∷ []
listed_leads next start [] end leads = ap (λ (x : ℕ). x ∷ []) leads
listed_leads next start (row ∷ rows) end leads =
    ap (λ (x : ℕ). x ∷ map next (row.element ∷ elements_of rows)) leads.0 ∙ ap (λ (xs : List ℕ). row.element ∷ xs) (listed_leads next row.element rows end leads.1)

pub leads_round : (next : ℕ → ℕ) (mark : ℕ) (rows : List Row) → IsRing next mark rows → Leads next mark rows mark
leads_round next mark rows ring = leads_listed next mark rows mark ring

pub is_ring : (next : ℕ → ℕ) (mark : ℕ) (rows : List Row) → Leads next mark rows mark → IsRing next mark rows
is_ring next mark rows leads = listed_leads next mark rows mark leads

-- the cell of the first row, and that of the last, where `end` stands behind the rows and `start` before them
abbrev pub first_cell : List Row → ℕ → ℕ
first_cell [] end = end
first_cell (row ∷ rows) end = row.element

abbrev pub last_cell : ℕ → List Row → ℕ
last_cell start [] = start
last_cell start (row ∷ rows) = last_cell row.element rows

first_pushed : (rows : List Row) (row : Row) (end : ℕ) → first_cell (rows ++ row ∷ []) end ≡ first_cell rows row.element
first_pushed [] row end = refl
first_pushed (x ∷ rows) row end = refl

pub last_is_first : (start : ℕ) (rows : List Row) → last_cell start rows ≡ first_cell (reverse rows) start
last_is_first start [] = refl
last_is_first start (row ∷ rows) =
    last_is_first row.element rows ∙ sym (ap (λ (xs : List Row). first_cell xs start) (reverse_onto rows row []) ∙ first_pushed (reverse rows) row start)

pub leads_first : (f : ℕ → ℕ) (start : ℕ) (rows : List Row) (end : ℕ) → Leads f start rows end → f start ≡ first_cell rows end
leads_first f start [] end leads = leads
leads_first f start (row ∷ rows) end leads = leads.0

pub leads_at : (f : ℕ → ℕ) (start : ℕ) (front : List Row) (row : Row) (back : List Row) (end : ℕ) → Leads f start (front ++ row ∷ back) end → f row.element ≡ first_cell back end
leads_at f start [] row back end leads = leads_first f row.element back end leads.1
leads_at f start (x ∷ front) row back end leads = leads_at f x.element front row back end leads.1

-- Cells that are met once

abbrev pub AreOnce : ℕ → List Row → Type 0
AreOnce start rows = (x : ℕ) → times x (start ∷ elements_of rows) ≤ 1

start_apart : (start : ℕ) (rows : List Row) → AreOnce start rows → times start (elements_of rows) ≡ 0
start_apart start rows once =
    let here = times_here start start (elements_of rows) refl in
    let few = once start in
    omega arith

once_behind : (start : ℕ) (row : Row) (rows : List Row) → AreOnce start (row ∷ rows) → AreOnce row.element rows
once_behind start row rows once = λ x. fewer_behind start x (row.element ∷ elements_of rows) (once x)

differs : (x y : ℕ) (xs : List ℕ) → times y xs ≡ 0 → IsIn x xs → x ≢ y
differs x y xs none is_in = λ is. let same = ap (λ (n : ℕ). times n xs) is in absurd (omega arith)

start_is_in : (start : ℕ) (xs : List ℕ) → IsIn start (start ∷ xs)
start_is_in start xs = let here = times_here start start xs refl in omega arith

is_in_behind : (y x : ℕ) (xs : List ℕ) → IsIn x xs → IsIn x (y ∷ xs)
is_in_behind y x xs is_in = by_test y x (λ b. 0 < cond b (suc (times x xs)) (times x xs)) (λ _. omega arith) (λ _. is_in)

-- none that doesn't stand among cells is their last
not_last : (x start : ℕ) (front back : List Row) → times x (start ∷ elements_of (front ++ back)) ≡ 0 → x ≢ last_cell start front
not_last x start [] back none = λ is. (absent_parts start x (elements_of back) none).0 (sym is)
not_last x start (row ∷ front) back none =
    not_last x row.element front back (absent_parts start x (row.element ∷ elements_of (front ++ back)) none).1

not_last_of : (x start : ℕ) (rows : List Row) → times x (start ∷ elements_of rows) ≡ 0 → x ≢ last_cell start rows
not_last_of x start rows none =
    not_last x start rows [] (ap (λ (xs : List Row). times x (start ∷ elements_of xs)) (append-nil rows) ∙ none)

-- One link changes

leads_still : (f g : ℕ → ℕ) (start : ℕ) (rows : List Row) (end : ℕ) → ((x : ℕ) → IsIn x (start ∷ elements_of rows) → g x ≡ f x) → Leads f start rows end → Leads g start rows end
leads_still f g start [] end same leads = same start (start_is_in start []) ∙ leads
leads_still f g start (row ∷ rows) end same leads = (
  same start (start_is_in start (row.element ∷ elements_of rows)) ∙ leads.0,
  leads_still f g row.element rows end (λ x is_in. same x (is_in_behind start x (row.element ∷ elements_of rows) is_in)) leads.1,
)

-- what led on from one cell leads on from another
leads_from : (f g : ℕ → ℕ) (old new : ℕ) (rows : List Row) (end : ℕ) → g new ≡ f old → ((x : ℕ) → IsIn x (elements_of rows) → g x ≡ f x) → Leads f old rows end → Leads g new rows end
leads_from f g old new [] end there same leads = there ∙ leads
leads_from f g old new (row ∷ rows) end there same leads = (there ∙ leads.0, leads_still f g row.element rows end same leads.1)

pub leads_without : (f g : ℕ → ℕ) (start : ℕ) (front : List Row) (row : Row) (back : List Row) (end : ℕ) → AreOnce start (front ++ row ∷ back) → g (last_cell start front) ≡ f row.element → ((x : ℕ) → x ≢ last_cell start front → g x ≡ f x) → Leads f start (front ++ row ∷ back) end → Leads g start (front ++ back) end
leads_without f g start [] row back end once there elsewhere leads =
    let apart = absent_parts row.element start (elements_of back) (start_apart start (row ∷ back) once) in
    leads_from f g row.element start back end there (λ x is_in. elsewhere x (differs x start (elements_of back) apart.1 is_in)) leads.1
leads_without f g start (x ∷ front) row back end once there elsewhere leads =
    let apart = start_apart start (x ∷ (front ++ row ∷ back)) once in (
      elsewhere start (not_last start x.element front (row ∷ back) apart) ∙ leads.0,
      leads_without f g x.element front row back end (once_behind start x (front ++ row ∷ back) once) there elsewhere leads.1,
    )

pub leads_with_first : (f g : ℕ → ℕ) (start : ℕ) (row : Row) (rows : List Row) (end : ℕ) → AreOnce start rows → times row.element (elements_of rows) ≡ 0 → g start ≡ row.element → g row.element ≡ f start → ((x : ℕ) → x ≢ start → x ≢ row.element → g x ≡ f x) → Leads f start rows end → Leads g start (row ∷ rows) end
leads_with_first f g start row rows end once absent there next elsewhere leads = (
  there,
  leads_from f g start row.element rows end next (λ x is_in. elsewhere x (differs x start (elements_of rows) (start_apart start rows once) is_in) (differs x row.element (elements_of rows) absent is_in)) leads,
)

pub leads_with_last : (f g : ℕ → ℕ) (start : ℕ) (rows : List Row) (row : Row) (end : ℕ) → AreOnce start rows → times row.element (start ∷ elements_of rows) ≡ 0 → g (last_cell start rows) ≡ row.element → g row.element ≡ end → ((x : ℕ) → x ≢ last_cell start rows → x ≢ row.element → g x ≡ f x) → Leads f start rows end → Leads g start (rows ++ row ∷ []) end
leads_with_last f g start [] row end once absent there next elsewhere leads = (there, next)
leads_with_last f g start (x ∷ rows) row end once absent there next elsewhere leads =
    let apart = start_apart start (x ∷ rows) once in
    let parts = absent_parts start row.element (x.element ∷ elements_of rows) absent in (
      elsewhere start (not_last_of start x.element rows apart) (λ is. parts.0 is) ∙ leads.0,
      leads_with_last f g x.element rows row end (once_behind start x rows once) parts.1 there next elsewhere leads.1,
    )
