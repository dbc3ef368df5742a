-- What one more visit changes in the words of a rotation.
use Rattle.std.proofs.Common.{◌≡◌, ◌≢◌, ℕ, suc, Bool, true, false, not, cond, ◌&&◌, ◌||◌, eqb, List, [], ◌∷◌, ◌++◌, refl, ap, ◌∙◌, sym, arith}
use Rattle.std.specs.Prelude.{filter}
use Rattle.std.specs.List.{list_any}
use Rattle.std.proofs.lemmas.Bool.{ne_eqb, eq-eqb}
use Rattle.std.proofs.lemmas.List.Elements.{filter-append, filter_agree}
use Rattle.std.proofs.lemmas.List.Folds.{list_any-append}
use Rattle.map_types.specs.ElementLists.{times}
use Rattle.map_types.specs.declared.row.Row.{Row}
use Rattle.place_words.specs.declared.visits.Visit.{Visit}
use Rattle.map_types.specs.Listed.{those, without_those}
use Rattle.place_words.specs.Rotation.{was_set, visited_elements}
use Rattle.map_types.proofs.RowLemmas.{by_test, eqb_turned, IsAbsent, filter_absent}

abbrev pub visit_of : Row → Bool → Visit
visit_of row bit = record { element = row.element; bit = bit }

or_false : (b : Bool) → (b || false) ≡ b
or_false true = refl
or_false false = refl

pub was_set_push : (visits : List Visit) (visit : Visit) (e : ℕ) → was_set (visits ++ visit ∷ []) e ≡ (was_set visits e || (eqb visit.element e && visit.bit))
was_set_push visits visit e =
    let p : Visit → Bool = λ v. eqb v.element e && v.bit in
    list_any-append p visits (visit ∷ []) ∙ ap (λ (b : Bool). list_any p visits || b) (or_false (p visit))

pub was_set_other : (visits : List Visit) (visit : Visit) (e : ℕ) → e ≢ visit.element → was_set visits e ≡ was_set (visits ++ visit ∷ []) e
was_set_other visits visit e other =
    let step = was_set_push visits visit e in
    let misses : eqb visit.element e ≡ false = ne_eqb visit.element e (λ is. other (sym is)) in
    sym (rw misses at step ∙ or_false (was_set visits e))

pub was_set_absent : (visits : List Visit) (e : ℕ) → times e (visited_elements visits) ≡ 0 → was_set visits e ≡ false
was_set_absent [] e absent = refl
was_set_absent (visit ∷ visits) e absent =
    let rest : ℕ = times e (visited_elements visits) in
    by_test visit.element e (λ b. cond b (suc rest) rest ≡ 0 → ((b && visit.bit) || was_set visits e) ≡ false)
    (λ is none. absurd (omega arith))
    (λ other none. was_set_absent visits e none)
    absent

pub was_set_new : (visits : List Visit) (visit : Visit) → times visit.element (visited_elements visits) ≡ 0 → was_set (visits ++ visit ∷ []) visit.element ≡ visit.bit
was_set_new visits visit absent = rw (was_set_push visits visit visit.element, was_set_absent visits visit.element absent, eq-eqb visit.element visit.element refl) refl

module _ (visits : List Visit) (row : Row) (bit : Bool) (unseen : times row.element (visited_elements visits) ≡ 0) where
  -- the visited rows whose bit was set, and those whose bit wasn't, after one more visit
  pub those_push : (rows : List Row) → IsAbsent row.element rows → those (was_set (visits ++ visit_of row bit ∷ [])) (rows ++ row ∷ []) ≡ those (was_set visits) rows ++ cond bit (row ∷ []) []
  those_push rows absent =
      let seen = was_set_new visits (visit_of row bit) unseen in
      let old = filter_absent (was_set (visits ++ visit_of row bit ∷ [])) (was_set visits) row.element (λ x other. sym (was_set_other visits (visit_of row bit) x other)) rows absent in
      filter-append (λ r. was_set (visits ++ visit_of row bit ∷ []) r.element) rows (row ∷ []) ∙ rw (old, seen) refl

  pub without_push : (rows : List Row) → IsAbsent row.element rows → without_those (was_set (visits ++ visit_of row bit ∷ [])) (rows ++ row ∷ []) ≡ without_those (was_set visits) rows ++ cond (not bit) (row ∷ []) []
  without_push rows absent =
      let seen = was_set_new visits (visit_of row bit) unseen in
      let old = filter_absent (λ x. not (was_set (visits ++ visit_of row bit ∷ []) x)) (λ x. not (was_set visits x)) row.element (λ x other. ap not (sym (was_set_other visits (visit_of row bit) x other))) rows absent in
      filter-append (λ r. not (was_set (visits ++ visit_of row bit ∷ []) r.element)) rows (row ∷ []) ∙ rw (old, seen) refl

and_false : (b : Bool) → (b && false) ≡ false
and_false true = refl
and_false false = refl

and_true : (b : Bool) → (b && true) ≡ b
and_true true = refl
and_true false = refl

not_or : (a b : Bool) → not (a || b) ≡ (not a && not b)
not_or true b = refl
not_or false b = refl

filter_choice : {X : Type 0} (p : X → Bool) (b : Bool) (x : X) (xs : List X) → filter p (cond b (x ∷ xs) xs) ≡ cond (b && p x) (x ∷ filter p xs) (filter p xs)
filter_choice p true x xs = refl
filter_choice p false x xs = refl

-- a list filtered twice
pub filter_twice : {X : Type 0} (p q r : X → Bool) → ((x : X) → r x ≡ (q x && p x)) → (xs : List X) → filter p (filter q xs) ≡ filter r xs
filter_twice p q r both [] = refl
filter_twice p q r both (x ∷ xs) =
    rw (both x, ← filter_twice p q r both xs) (filter_choice p (q x) x (filter q xs))

-- what is left of a list after one more visit
pub goes_on_push : (visits : List Visit) (row : Row) (rows : List Row) → filter (λ other. not (eqb other.element row.element)) (without_those (was_set visits) rows) ≡ without_those (was_set (visits ++ visit_of row true ∷ [])) rows
goes_on_push visits row rows =
    filter_twice (λ other. not (eqb other.element row.element)) (λ other. not (was_set visits other.element)) (λ other. not (was_set (visits ++ visit_of row true ∷ []) other.element))
    (λ other. rw (was_set_push visits (visit_of row true) other.element, and_true (eqb row.element other.element), eqb_turned row.element other.element) (not_or (was_set visits other.element) (eqb other.element row.element)))
    rows

pub stays_push : (visits : List Visit) (row : Row) (rows : List Row) → without_those (was_set visits) rows ≡ without_those (was_set (visits ++ visit_of row false ∷ [])) rows
stays_push visits row rows =
    filter_agree (λ other. not (was_set visits other.element)) (λ other. not (was_set (visits ++ visit_of row false ∷ []) other.element))
    (λ other. rw (was_set_push visits (visit_of row false) other.element, and_false (eqb row.element other.element), or_false (was_set visits other.element)) refl)
    rows
