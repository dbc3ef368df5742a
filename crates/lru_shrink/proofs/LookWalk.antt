-- Looks at inactive from the tail, one after another: what the set is after each.
use Rattle.std.proofs.Common.{◌≡◌, ℕ, ◌+◌, Bool, true, false, not, cond, ◌||◌, eqb, List, [], ◌∷◌, ◌++◌, map, reverse, length, take, refl, ap, ◌∙◌, sym, arith, inl, inr}
use Rattle.std.specs.Prelude.{Some}
use Rattle.std.proofs.lemmas.Bool.{cases_Bool}
use Rattle.std.proofs.lemmas.List.{reverse-append, append_assoc, length-map, length-append, take_at}
use Rattle.std.proofs.lemmas.List.Elements.{filter-append}
use Rattle.map_types.specs.ElementLists.{times}
use Rattle.map_types.specs.declared.row.Row.{Row}
use Rattle.place_words.specs.declared.visits.Look.{Look}
use Rattle.map_types.specs.Listed.{Listed, elements_of, those, without_those, cursor_without}
use Rattle.place_words.specs.Shrinking.{look_removed, found_set, taken_off as leave, after_looks}
use Rattle.map_types.proofs.RowLemmas.{IsAbsent, AreOnce, alone, absent-append, absent-filter, absent-reverse, times_rows-append, times_rows-cons, times_rows-reverse}
use Rattle.row_list.specs.RowWords.{row_of, without_row, head_row, row_before}
use Rattle.row_list.proofs.RowLemmas.{row_of_split, without_absent, last_of_reverse, row_before_split, turned_split}
use Rattle.lru_lists.specs.Sets.{SetView, IsSet, IsListed, listed, row_on, moved_to, taken_off, with_listed}
use Rattle.lru_lists.specs.declared.name.ListName.TheVariants.{Active}
use Rattle.lru_shrink.specs.Shrunk.{after_look}
use Rattle.lru_shrink.proofs.Marks.{and_one, marked_more, marked_same, unmarked, unmarked_stay, without_one, those_one, those_same, cursor_one}

abbrev pub look_element : Look → ℕ
look_element look = look.element

abbrev pub looked_at : List Look → List ℕ
looked_at looks = map look_element looks

-- whether a look moves its row or takes it off
abbrev pub leaves : Look → Bool
leaves look = look.bit || look_removed look

reverse_push : {A : Type 0} (xs : List A) (x : A) → reverse (xs ++ x ∷ []) ≡ x ∷ reverse xs
reverse_push xs x = reverse-append xs (x ∷ [])

pub at_true : {X : Type 0} (b : Bool) (x y : X) → b ≡ true → cond b x y ≡ x
at_true b x y is = rw is refl

pub at_false : {X : Type 0} (b : Bool) (x y : X) → b ≡ false → cond b x y ≡ y
at_false b x y is = rw is refl

pub or_true : (a b : Bool) → a ≡ true → (a || b) ≡ true
or_true a b is = rw is refl

pub or_other : (a b : Bool) → b ≡ true → (a || b) ≡ true
or_other true b is = refl
or_other false b is = is

pub or_none : (a b : Bool) → a ≡ false → b ≡ false → (a || b) ≡ false
or_none a b is then = rw (is, then) refl

pub same_listed : (a b : Listed) → a.active ≡ b.active → a.inactive ≡ b.inactive → a.cursor ≡ b.cursor → a ≡ b
same_listed a b active inactive cursor =
    let same : record { active = a.active; inactive = a.inactive; cursor = a.cursor } ≡ record { active = b.active; inactive = b.inactive; cursor = b.cursor } = rw (active, inactive, cursor) refl in
    same

-- A set before any look; the rows looked at so far, the next one, and those that are left, in their order from the tail.
module _ (set : SetView) (whole : IsSet set) (visited left : List Row) (row : Row) (looks : List Look)
    (order : reverse set.inactive ≡ visited ++ row ∷ left) (seen : looked_at looks ≡ elements_of visited) where
  abbrev now : SetView
  now = with_listed (after_looks (listed set) looks) set

  split : set.inactive ≡ reverse left ++ row ∷ reverse visited
  split = turned_split set.inactive visited row left order

  once_inactive : AreOnce set.inactive
  once_inactive = λ e. let most = whole.once e in omega arith

  once : AreOnce (visited ++ row ∷ left)
  once = λ e. let most = once_inactive e in let turned = times_rows-reverse e set.inactive in let same = ap (λ (xs : List Row). times e (elements_of xs)) order in omega arith

  pub not_visited : IsAbsent row.element visited
  not_visited = (alone visited left row once).0

  not_left : IsAbsent row.element left
  not_left = (alone visited left row once).1

  is_inactive : times row.element (elements_of set.inactive) ≡ 1
  is_inactive =
      let most = once_inactive row.element in
      let same = ap (λ (xs : List Row). times row.element (elements_of xs)) split in
      let apart = times_rows-append row.element (reverse left) (row ∷ reverse visited) in
      let here = times_rows-cons row (reverse visited) in
      omega arith

  not_active : IsAbsent row.element set.active
  not_active = let most = whole.once row.element in let here = is_inactive in omega arith

  pub was_listed : IsListed row.element set
  was_listed = let here = is_inactive in omega arith

  pub was_its : row_on row.element set ≡ Some row
  was_its =
      let front : List Row = set.active ++ reverse left in
      let whole_list : set.active ++ set.inactive ≡ front ++ row ∷ reverse visited =
      ap (λ (xs : List Row). set.active ++ xs) split ∙ sym (append_assoc set.active (reverse left) (row ∷ reverse visited)) in
      let absent : IsAbsent row.element front = absent-append row.element set.active (reverse left) not_active (absent-reverse row.element left not_left) in
      ap (row_of row.element) whole_list ∙ row_of_split row.element front row (reverse visited) absent refl

  many : length looks ≡ length visited
  many = sym (length-map looks look_element) ∙ ap (length {A = ℕ}) seen ∙ length-map visited (λ (r : Row). r.element)

  looked : take (length looks) (reverse set.inactive) ≡ visited
  looked = rw order (take_at visited (row ∷ left) (length looks) (sym many))

  looked_more : (look : Look) → take (length (looks ++ look ∷ [])) (reverse set.inactive) ≡ visited ++ row ∷ []
  looked_more look =
      let longer : length (looks ++ look ∷ []) ≡ length (visited ++ row ∷ []) = length-append looks (look ∷ []) ∙ ap (λ (n : ℕ). n + 1) many ∙ sym (length-append visited (row ∷ [])) in
      ap (λ (xs : List Row). take (length (looks ++ look ∷ [])) xs) (order ∙ sym (append_assoc visited (row ∷ []) left))
      ∙ take_at (visited ++ row ∷ []) left (length (looks ++ look ∷ [])) (sym longer)

  unseen : times row.element (looked_at looks) ≡ 0
  unseen = ap (times row.element) seen ∙ not_visited

  active_is : (after_looks (listed set) looks).active ≡ reverse (those (found_set looks) visited) ++ set.active
  unfolding after_looks
  active_is = ap (λ (xs : List Row). reverse (those (found_set looks) xs) ++ set.active) looked

  not_in_active : IsAbsent row.element (after_looks (listed set) looks).active
  not_in_active =
      rw active_is (absent-append row.element (reverse (those (found_set looks) visited)) set.active
      (absent-reverse row.element (those (found_set looks) visited) (absent-filter (λ r. found_set looks r.element) row.element visited not_visited)) not_active)

  -- what is left of inactive: the next row stands behind all that weren't looked at
  inactive_is : (after_looks (listed set) looks).inactive ≡ reverse left ++ row ∷ without_those (leave looks) (reverse visited)
  unfolding after_looks
  inactive_is =
      let behind : without_those (leave looks) (reverse left) ≡ reverse left = unmarked_stay (leave looks) (reverse left) (λ e is_in. unmarked look_element leaves looks e (
      let most = once e in
      let apart = times_rows-append e visited (row ∷ left) in
      let rest = times_rows-append e (row ∷ []) left in
      let turned = times_rows-reverse e left in
      let same = ap (times e) seen in
      omega arith)) in
      ap (without_those (leave looks)) split
      ∙ filter-append (λ r. not (leave looks r.element)) (reverse left) (row ∷ reverse visited)
      ∙ rw (behind, unmarked look_element leaves looks row.element unseen) refl

  pub next_row : row_before row.element (after_looks (listed set) looks).inactive ≡ head_row left
  next_row =
      ap (row_before row.element) inactive_is ∙ row_before_split row.element (reverse left) row (without_those (leave looks) (reverse visited)) (absent-reverse row.element left not_left) refl ∙ last_of_reverse left

  pub is_listed : IsListed row.element now
  is_listed =
      let same = ap (λ (xs : List Row). times row.element (elements_of xs)) inactive_is in
      let apart = times_rows-append row.element (reverse left) (row ∷ without_those (leave looks) (reverse visited)) in
      let here = times_rows-cons row (without_those (leave looks) (reverse visited)) in
      omega arith

  pub its_row : row_on row.element now ≡ Some row
  its_row =
      let rest : List Row = without_those (leave looks) (reverse visited) in
      let active : List Row = (after_looks (listed set) looks).active in
      let whole_list : active ++ (after_looks (listed set) looks).inactive ≡ (active ++ reverse left) ++ row ∷ rest =
      ap (λ (xs : List Row). active ++ xs) inactive_is ∙ sym (append_assoc active (reverse left) (row ∷ rest)) in
      let absent : IsAbsent row.element (active ++ reverse left) = absent-append row.element active (reverse left) not_in_active (absent-reverse row.element left not_left) in
      ap (row_of row.element) whole_list ∙ row_of_split row.element (active ++ reverse left) row rest absent refl

  -- One more look, at the next row
  module _ (look : Look) (its : look.element ≡ row.element) where
    abbrev then : Listed
    then = after_looks (listed set) (looks ++ look ∷ [])

    cursor_more : leaves look ≡ true → then.cursor ≡ cursor_without (λ x. eqb x row.element) (after_looks (listed set) looks).inactive (after_looks (listed set) looks).cursor
    unfolding after_looks
    cursor_more goes =
        let more = marked_more look_element leaves looks look goes in
        let named = ap (λ (e : ℕ). and_one (leave looks) e) its in
        ap (λ (gone : ℕ → Bool). cursor_without gone set.inactive set.cursor) (more ∙ named)
        ∙ sym (cursor_one (leave looks) row.element set.inactive once_inactive set.cursor whole.placed)

    inactive_more : leaves look ≡ true → then.inactive ≡ without_row row.element (after_looks (listed set) looks).inactive
    unfolding after_looks
    inactive_more goes =
        let more = marked_more look_element leaves looks look goes in
        let named = ap (λ (e : ℕ). and_one (leave looks) e) its in
        ap (λ (gone : ℕ → Bool). without_those gone set.inactive) (more ∙ named) ∙ sym (without_one (leave looks) row.element set.inactive)

    active_set : look.bit ≡ true → then.active ≡ row ∷ (after_looks (listed set) looks).active
    unfolding after_looks
    active_set is_set =
        let more = marked_more look_element (λ l. l.bit) looks look is_set ∙ ap (λ (e : ℕ). and_one (found_set looks) e) its in
        ap (λ (xs : List Row). reverse (those (found_set (looks ++ look ∷ [])) xs) ++ set.active) (looked_more look)
        ∙ ap (λ (found : ℕ → Bool). reverse (those found (visited ++ row ∷ [])) ++ set.active) more
        ∙ ap (λ (xs : List Row). reverse xs ++ set.active) (those_one (found_set looks) visited row not_visited)
        ∙ ap (λ (xs : List Row). xs ++ set.active) (reverse_push (those (found_set looks) visited) row)
        ∙ ap (λ (xs : List Row). row ∷ xs) (sym active_is)

    active_clear : look.bit ≡ false → then.active ≡ (after_looks (listed set) looks).active
    unfolding after_looks
    active_clear is_clear =
        let same = marked_same look_element (λ l. l.bit) looks look is_clear in
        let unset = unmarked look_element (λ l. l.bit) looks row.element unseen in
        ap (λ (xs : List Row). reverse (those (found_set (looks ++ look ∷ [])) xs) ++ set.active) (looked_more look)
        ∙ ap (λ (found : ℕ → Bool). reverse (those found (visited ++ row ∷ [])) ++ set.active) same
        ∙ ap (λ (xs : List Row). reverse xs ++ set.active) (those_same (found_set looks) visited row unset)
        ∙ sym active_is

    stays_same : look.bit ≡ false → leaves look ≡ false → then ≡ after_looks (listed set) looks
    unfolding after_looks
    stays_same is_clear stays =
        let same = marked_same look_element leaves looks look stays in
        same_listed then (after_looks (listed set) looks) (active_clear is_clear)
        (ap (λ (gone : ℕ → Bool). without_those gone set.inactive) same) (ap (λ (gone : ℕ → Bool). cursor_without gone set.inactive set.cursor) same)

    moved : Listed
    moved = record {
      active = row ∷ (after_looks (listed set) looks).active;
      inactive = without_row row.element (after_looks (listed set) looks).inactive;
      cursor = cursor_without (λ x. eqb x row.element) (after_looks (listed set) looks).inactive (after_looks (listed set) looks).cursor;
    }

    off : Listed
    off = record {
      active = (after_looks (listed set) looks).active;
      inactive = without_row row.element (after_looks (listed set) looks).inactive;
      cursor = cursor_without (λ x. eqb x row.element) (after_looks (listed set) looks).inactive (after_looks (listed set) looks).cursor;
    }

    active_stays : without_row row.element (after_looks (listed set) looks).active ≡ (after_looks (listed set) looks).active
    active_stays = without_absent row.element (after_looks (listed set) looks).active not_in_active

    moved_is : moved_to row.element Active now ≡ with_listed moved set
    unfolding moved
    moved_is = rw (its_row, active_stays) refl

    off_is : taken_off row.element now ≡ with_listed off set
    unfolding off
    off_is = rw active_stays refl

    -- the set after one more look is what that look makes of it
    pub one_more : with_listed then set ≡ after_look look now
    unfolding moved off
    one_more =
        let there : SetView = moved_to look.element Active now in
        let out : SetView = taken_off look.element now in
        let other : SetView = cond (look_removed look) out now in
        elim (cases_Bool look.bit) [
          | inl is_set ↦
              let goes : leaves look ≡ true = or_true look.bit (look_removed look) is_set in
              ap (λ (rows : Listed). with_listed rows set) (same_listed then moved (active_set is_set) (inactive_more goes) (cursor_more goes))
              ∙ sym moved_is ∙ ap (λ (e : ℕ). moved_to e Active now) (sym its) ∙ sym (at_true look.bit there other is_set)
          | inr is_clear ↦
              elim (cases_Bool (look_removed look)) [
                | inl removed ↦
                    let goes : leaves look ≡ true = or_other look.bit (look_removed look) removed in
                    ap (λ (rows : Listed). with_listed rows set) (same_listed then off (active_clear is_clear) (inactive_more goes) (cursor_more goes))
                    ∙ sym off_is ∙ ap (λ (e : ℕ). taken_off e now) (sym its) ∙ sym (at_true (look_removed look) out now removed) ∙ sym (at_false look.bit there other is_clear)
                | inr held ↦
                    ap (λ (rows : Listed). with_listed rows set) (stays_same is_clear (or_none look.bit (look_removed look) is_clear held))
                    ∙ sym (at_false (look_removed look) out now held) ∙ sym (at_false look.bit there other is_clear)
              ]
        ]
