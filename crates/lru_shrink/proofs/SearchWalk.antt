-- Items of a walk over rows, and the elements that they removed. A search ends with the first item that removes one, or with
-- the rows.
use Rattle.std.proofs.Common.{◌≡◌, ℕ, ◌<◌, ◌≤◌, ◌+◌, Bool, true, false, cond, ◌||◌, eqb, List, [], ◌∷◌, ◌++◌, map, reverse, length, take, refl, ap, ◌∙◌, sym, subst, arith}
use Rattle.std.specs.Prelude.{All, filter, count_by, option_map, unwrap_or, slice_get}
use Rattle.std.proofs.lemmas.List.{take-append-le, length-append, length-map, length-take-le, map-append, reverse-append}
use Rattle.std.proofs.lemmas.List.Elements.{All-nil, All-push, All-head, All-tail, All-take, filter-append}
use Rattle.std.proofs.lemmas.List.Sums.{length-filter}
use Rattle.std.proofs.lemmas.Bool.{ne_eqb, eq-eqb}
use Rattle.map_types.specs.ElementLists.{times}
use Rattle.map_types.proofs.RowLemmas.{times_append}
use Rattle.place_words.specs.Shrinking.{IsFirstEnd}
use Rattle.lru_shrink.proofs.LookWalk.{at_false, or_true, or_other, or_none}

module _ {X : Type 0} (element : X → ℕ) (removed : X → Bool) where
  abbrev pub AreHeld : List X → Type 0
  AreHeld items = All (λ item. removed item ≡ false) items

  abbrev pub removed_of : List X → List ℕ
  removed_of items = map element (filter removed items)

  pub held_none : (items : List X) → AreHeld items → removed_of items ≡ []
  held_none [] held = refl
  held_none (item ∷ items) held =
      rw (at_false (removed item) (item ∷ filter removed items) (filter removed items) (All-head (λ (x : X). removed x ≡ false) item items held)) (held_none items (All-tail (λ (x : X). removed x ≡ false) item items held))

  pub removed_push : (items : List X) (item : X) → removed_of (items ++ item ∷ []) ≡ removed_of items ++ removed_of (item ∷ [])
  removed_push items item = ap (map element) (filter-append removed items (item ∷ [])) ∙ map-append element (filter removed items) (filter removed (item ∷ []))

  pub times_push : (e : ℕ) (items : List X) (item : X) → times e (removed_of (items ++ item ∷ [])) ≡ times e (removed_of items) + times e (removed_of (item ∷ []))
  times_push e items item = ap (times e) (removed_push items item) ∙ times_append e (removed_of items) (removed_of (item ∷ []))

  pub length_removed : (items : List X) → length (removed_of items) ≡ count_by removed items
  length_removed items = length-map (filter removed items) element ∙ length-filter removed items

  pub removed_last : (items : List X) (item : X) → AreHeld items → removed_of (items ++ item ∷ []) ≡ removed_of (item ∷ [])
  removed_last items item held = removed_push items item ∙ ap (λ (xs : List ℕ). xs ++ removed_of (item ∷ [])) (held_none items held)

  -- one item by the elements that it removed
  pub one_held : (item : X) → removed_of (item ∷ []) ≡ [] → removed item ≡ false
  one_held item none = go (removed item) none
    where
      go : (b : Bool) → map element (cond b (item ∷ []) []) ≡ [] → b ≡ false
      go true none = absurd cc
      go false none = refl

  pub one_removed : (item : X) (e : ℕ) → removed_of (item ∷ []) ≡ e ∷ [] → (removed item ≡ true) × (element item ≡ e)
  one_removed item e some = go (removed item) some
    where
      go : (b : Bool) → map element (cond b (item ∷ []) []) ≡ e ∷ [] → (b ≡ true) × (element item ≡ e)
      go true some = (refl, cc)
      go false some = absurd cc

  -- the search of so many rows ends
  abbrev pub ends : ℕ → List X → Bool
  ends n walk = unwrap_or (option_map removed (slice_get (reverse walk) 0)) false || eqb (length walk) n

  last_held : (items : List X) → AreHeld items → unwrap_or (option_map removed (slice_get (reverse items) 0)) false ≡ false
  last_held items held = first_held (reverse items) (held_turned items held)
    where
      held_turned : (xs : List X) → AreHeld xs → AreHeld (reverse xs)
      held_turned [] held = All-nil (λ (x : X). removed x ≡ false)
      held_turned (x ∷ xs) held =
          subst AreHeld (sym (reverse-append (x ∷ []) xs)) (All-push (λ (y : X). removed y ≡ false) (reverse xs) x (held_turned xs (All-tail (λ (y : X). removed y ≡ false) x xs held)) (All-head (λ (y : X). removed y ≡ false) x xs held))

      first_held : (xs : List X) → AreHeld xs → unwrap_or (option_map removed (slice_get xs 0)) false ≡ false
      first_held [] held = refl
      first_held (x ∷ xs) held = All-head (λ (y : X). removed y ≡ false) x xs held

  last_removed : (items : List X) (item : X) → removed item ≡ true → unwrap_or (option_map removed (slice_get (reverse (items ++ item ∷ [])) 0)) false ≡ true
  last_removed items item is = rw (reverse-append items (item ∷ [])) is

  goes_on : (n k : ℕ) (items : List X) → AreHeld items → k ≤ length items → k < n → ends n (take k items) ≡ false
  goes_on n k items held within below =
      let long = length-take-le k items within in
      or_none (unwrap_or (option_map removed (slice_get (reverse (take k items)) 0)) false) (eqb (length (take k items)) n)
      (last_held (take k items) (All-take (λ (x : X). removed x ≡ false) k items held))
      (ne_eqb (length (take k items)) n (λ is. absurd (omega arith)))

  pub ends_at_removed : (n : ℕ) (items : List X) (item : X) → AreHeld items → length items < n → removed item ≡ true → IsFirstEnd (ends n) (items ++ item ∷ [])
  ends_at_removed n items item held fewer is = record {
    here = or_true (unwrap_or (option_map removed (slice_get (reverse (items ++ item ∷ [])) 0)) false) (eqb (length (items ++ item ∷ [])) n) (last_removed items item is);
    not_before = λ k below.
        let longer = length-append items (item ∷ []) in
        subst (λ (walk : List X). ends n walk ≡ false) (sym (take-append-le k items (item ∷ []) (omega arith))) (goes_on n k items held (omega arith) (omega arith));
  }

  pub ends_at_all : (n : ℕ) (items : List X) → AreHeld items → length items ≡ n → IsFirstEnd (ends n) items
  ends_at_all n items held all = record {
    here = or_other (unwrap_or (option_map removed (slice_get (reverse items) 0)) false) (eqb (length items) n) (eq-eqb (length items) n all);
    not_before = λ k below. goes_on n k items held (omega arith) (omega arith);
  }
