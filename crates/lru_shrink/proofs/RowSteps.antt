-- What is left of the rows of a set by a row that is taken off, and by a look.
use Rattle.std.proofs.Common.{◌≡◌, ◌≢◌, ℕ, suc, ◌+◌, true, false, not, cond, eqb, List, [], ◌∷◌, ◌++◌, map, length, refl, ap, ◌∙◌, sym, subst, arith, inl, inr}
use Rattle.std.specs.Prelude.{Option, None, Some, is_some, count_by}
use Rattle.std.proofs.lemmas.Bool.{ne_eqb, cases_Bool}
use Rattle.std.proofs.lemmas.List.Elements.{filter-append}
use Rattle.map_types.specs.ElementLists.{times}
use Rattle.place_words.specs.declared.bucket_part.Seen.{Seen}
use Rattle.map_types.specs.declared.row.Row.{Row}
use Rattle.place_words.specs.declared.visits.Look.{Look}
use Rattle.map_types.specs.Listed.{elements_of}
use Rattle.map_types.proofs.RowLemmas.{by_test}
use Rattle.place_words.specs.Shrinking.{look_removed}
use Rattle.row_list.specs.RowWords.{row_of, without_row}
use Rattle.row_list.proofs.ElementLemmas.{times_here}
use Rattle.row_list.proofs.RowLemmas.{gone_without, kept_without, length_without}
use Rattle.lru_lists.specs.Sets.{SetView, IsSet, IsListed, row_on, times_listed, moved_to, taken_off}
use Rattle.lru_lists.specs.declared.name.ListName.TheVariants.{Active}
use Rattle.lru_lists.proofs.SetLemmas.{listed_present}
use Rattle.lru_shrink.specs.Shrunk.{after_look, removed_by_looks}
use Rattle.lru_shrink.proofs.LookWalk.{at_true, at_false}

-- the row of another element is found without the one
row_of_without : (x e : ℕ) (rows : List Row) → x ≢ e → row_of x (without_row e rows) ≡ row_of x rows
row_of_without x e [] other = refl
row_of_without x e (row ∷ rows) other =
    let rest = row_of_without x e rows other in
    by_test row.element e (λ b. row_of x (cond (not b) (row ∷ without_row e rows) (without_row e rows)) ≡ row_of x (row ∷ rows))
    (λ here. rest ∙ rw (ne_eqb row.element x (λ is. other (sym is ∙ here))) refl)
    (λ _. ap (λ (found : Option Row). cond (eqb row.element x) (Some row) found) rest)

module _ (set : SetView) (row : Row) (whole : IsSet set) (its : row_on row.element set ≡ Some row) where
  abbrev e : ℕ
  e = row.element

  listed_here : IsListed row.element set
  listed_here = (listed_present row.element set).0 (rw its refl)

  without_both : without_row row.element set.active ++ without_row row.element set.inactive ≡ without_row row.element (set.active ++ set.inactive)
  without_both = sym (filter-append (λ r. not (eqb r.element row.element)) set.active set.inactive)

  pub row_off : (x : ℕ) → x ≢ row.element → row_on x (taken_off row.element set) ≡ row_on x set
  row_off x other = ap (row_of x) without_both ∙ row_of_without x row.element (set.active ++ set.inactive) other

  row_moved : (x : ℕ) → row_on x (moved_to row.element Active set) ≡ row_on x set
  row_moved x =
      rw its (by_test row.element x (λ b. cond b (Some row) (row_on x (taken_off row.element set)) ≡ row_on x set)
      (λ here. sym its ∙ ap (λ (n : ℕ). row_on n set) here)
      (λ other. row_off x (λ is. other (sym is))))

  pub times_off : (x : ℕ) → times_listed x (taken_off row.element set) + times x (row.element ∷ []) ≡ times_listed x set
  times_off x =
      by_test row.element x (λ b. times_listed x (taken_off row.element set) + cond b 1 0 ≡ times_listed x set)
      (λ here.
      let none = gone_without row.element set.active in
      let none_there = gone_without row.element set.inactive in
      let most = whole.once row.element in
      let listed = listed_here in
      subst (λ (n : ℕ). times_listed n (taken_off row.element set) + 1 ≡ times_listed n set) here (omega arith))
      (λ other.
      let kept = kept_without x row.element set.active (λ is. other (sym is)) in
      let kept_there = kept_without x row.element set.inactive (λ is. other (sym is)) in
      omega arith)

  times_moved : (x : ℕ) → times_listed x (moved_to row.element Active set) ≡ times_listed x set
  times_moved x =
      let off = times_off x in
      rw its (by_test row.element x (λ b. times_listed x (taken_off row.element set) + cond b 1 0 ≡ times_listed x set → cond b (suc (times x (elements_of (without_row row.element set.active)))) (times x (elements_of (without_row row.element set.active))) + times x (elements_of (without_row row.element set.inactive)) ≡ times_listed x set)
      (λ _ sum. omega arith)
      (λ _ sum. omega arith) off)

  pub number_off : (length (taken_off row.element set).active + length (taken_off row.element set).inactive) + 1 ≡ length set.active + length set.inactive
  number_off =
      let active = length_without row.element set.active in
      let inactive = length_without row.element set.inactive in
      let most = whole.once row.element in
      let listed = listed_here in
      omega arith

  number_moved : length (moved_to row.element Active set).active + length (moved_to row.element Active set).inactive ≡ length set.active + length set.inactive
  number_moved = let off = number_off in rw its (omega arith)

  -- after a look
  module _ (look : Look) (named : look.element ≡ row.element) (probed : is_some look.probed ≡ not look.bit) where
    unprobed : look.bit ≡ true → look_removed look ≡ false
    unprobed is_set = none_removed look.probed (probed ∙ ap not is_set)
      where
        none_removed : (seen : Option Seen) → is_some seen ≡ false → look_removed (record { element = 0; bit = true; probed = seen }) ≡ false
        none_removed None none = refl
        none_removed (Some seen) none = absurd cc

    moved_at : look.bit ≡ true → after_look look set ≡ moved_to row.element Active set
    moved_at is_set = at_true look.bit (moved_to look.element Active set) (cond (look_removed look) (taken_off look.element set) set) is_set ∙ ap (λ (n : ℕ). moved_to n Active set) named

    off_at : look.bit ≡ false → look_removed look ≡ true → after_look look set ≡ taken_off row.element set
    off_at is_clear removed =
        at_false look.bit (moved_to look.element Active set) (cond (look_removed look) (taken_off look.element set) set) is_clear
        ∙ at_true (look_removed look) (taken_off look.element set) set removed ∙ ap (λ (n : ℕ). taken_off n set) named

    stays_at : look.bit ≡ false → look_removed look ≡ false → after_look look set ≡ set
    stays_at is_clear held =
        at_false look.bit (moved_to look.element Active set) (cond (look_removed look) (taken_off look.element set) set) is_clear
        ∙ at_false (look_removed look) (taken_off look.element set) set held

    removes : look_removed look ≡ true → removed_by_looks (look ∷ []) ≡ row.element ∷ []
    removes removed = ap (λ (xs : List Look). map (λ (l : Look). l.element) xs) (at_true (look_removed look) (look ∷ []) [] removed) ∙ ap (λ (n : ℕ). n ∷ []) named

    keeps : look_removed look ≡ false → removed_by_looks (look ∷ []) ≡ []
    keeps held = ap (λ (xs : List Look). map (λ (l : Look). l.element) xs) (at_false (look_removed look) (look ∷ []) [] held)

    pub times_look : (x : ℕ) → times_listed x (after_look look set) + times x (removed_by_looks (look ∷ [])) ≡ times_listed x set
    times_look x = elim (cases_Bool look.bit) [
      | inl is_set ↦ rw (moved_at is_set, keeps (unprobed is_set)) (let same = times_moved x in omega arith)
      | inr is_clear ↦ elim (cases_Bool (look_removed look)) [
        | inl removed ↦ rw (off_at is_clear removed, removes removed) (times_off x)
        | inr held ↦ rw (stays_at is_clear held, keeps held) (omega arith)
      ]
    ]

    pub row_look : (x : ℕ) → times x (removed_by_looks (look ∷ [])) ≡ 0 → row_on x (after_look look set) ≡ row_on x set
    row_look x absent = elim (cases_Bool look.bit) [
      | inl is_set ↦ rw (moved_at is_set) (row_moved x)
      | inr is_clear ↦ elim (cases_Bool (look_removed look)) [
        | inl removed ↦
            let gone : times x (row.element ∷ []) ≡ 0 = ap (times x) (sym (removes removed)) ∙ absent in
            rw (off_at is_clear removed) (row_off x (λ is. absurd (omega (arith, gone, times_here row.element x [] (sym is)))))
        | inr held ↦ rw (stays_at is_clear held) refl
      ]
    ]

    pub number_look : (length (after_look look set).active + length (after_look look set).inactive) + count_by look_removed (look ∷ []) ≡ length set.active + length set.inactive
    number_look = elim (cases_Bool look.bit) [
      | inl is_set ↦ rw (moved_at is_set, counts_none (unprobed is_set)) (let same = number_moved in omega arith)
      | inr is_clear ↦ elim (cases_Bool (look_removed look)) [
        | inl removed ↦ rw (off_at is_clear removed, counts_one removed) number_off
        | inr held ↦ rw (stays_at is_clear held, counts_none held) (omega arith)
      ]
    ]
      where
        counts_one : look_removed look ≡ true → count_by look_removed (look ∷ []) ≡ 1
        counts_one removed = ap (λ (n : ℕ). 0 + n) (at_true (look_removed look) 1 0 removed)

        counts_none : look_removed look ≡ false → count_by look_removed (look ∷ []) ≡ 0
        counts_none held = ap (λ (n : ℕ). 0 + n) (at_false (look_removed look) 1 0 held)
