-- A list by a number of each member: where another number puts all members in the same order, it gives the same list.
use Rattle.std.proofs.Common.{◌≡◌, ◌⊎◌, inl, inr, ℕ, zero, suc, ◌+◌, ◌<◌, ◌≤◌, Bool, true, false, cond, eqb, ltb, List, [], ◌∷◌, ◌++◌, refl, ap, sym, ◌∙◌, arith}
use Rattle.std.specs.Prelude.{filter}
use Rattle.std.specs.List.{flat_map, range_with_len}
use Rattle.std.proofs.lemmas.Bool.{cases_eq, cases_lt, eq-eqb, eqb-true, lt-ltb, le-ltb, ne_eqb}
use Rattle.std.proofs.lemmas.List.Elements.{filter-append}
use Rattle.turn_order.proofs.Members.{IsAmong, filter_among, flat_among}
use Rattle.call_check.proofs.BelowTicket.{range_among}
use Rattle.call_check.proofs.ByTicket.{filters_turned}

module _ {A : Type 0} where
  -- those with a number, number after number
  abbrev pub by_key : (A → ℕ) → ℕ → ℕ → List A → List A
  by_key key from n xs = flat_map (λ k. filter (λ (x : A). eqb (key x) k) xs) (range_with_len from n)

  -- one more, before the first that isn't below it
  insert_by : (A → ℕ) → A → List A → List A
  insert_by key x [] = x ∷ []
  insert_by key x (y ∷ ys) = cond (ltb (key y) (key x)) (y ∷ insert_by key x ys) (x ∷ y ∷ ys)

  insert_past : (key : A → ℕ) (x : A) (ys zs : List A) → ((y : A) → IsAmong y ys → key y < key x) → insert_by key x (ys ++ zs) ≡ ys ++ insert_by key x zs
  unfolding insert_by
  insert_past key x [] zs below = refl
  insert_past key x (y ∷ ys) zs below =
      ap (λ (b : Bool). cond b (y ∷ insert_by key x (ys ++ zs)) (x ∷ y ∷ (ys ++ zs))) (lt-ltb (key y) (key x) (below y (inl refl)))
      ∙ ap (λ (l : List A). y ∷ l) (insert_past key x ys zs (λ z there. below z (inr there)))

  insert_first : (key : A → ℕ) (x : A) (zs : List A) → ((z : A) → IsAmong z zs → key x ≤ key z) → insert_by key x zs ≡ x ∷ zs
  unfolding insert_by
  insert_first key x [] above = refl
  insert_first key x (z ∷ zs) above = ap (λ (b : Bool). cond b (z ∷ insert_by key x zs) (x ∷ z ∷ zs)) (le-ltb (key z) (key x) (above z (inl refl)))

  insert_agree : (key other : A → ℕ) (x : A) (ys : List A) → ((y : A) → IsAmong y ys → ltb (key y) (key x) ≡ ltb (other y) (other x)) → insert_by key x ys ≡ insert_by other x ys
  unfolding insert_by
  insert_agree key other x [] same = refl
  insert_agree key other x (y ∷ ys) same =
      ap (λ (b : Bool). cond b (y ∷ insert_by key x ys) (x ∷ y ∷ ys)) (same y (inl refl))
      ∙ ap (λ (l : List A). cond (ltb (other y) (other x)) (y ∷ l) (x ∷ y ∷ ys)) (insert_agree key other x ys (λ z there. same z (inr there)))

  module _ (key : A → ℕ) where
    its_key : (k : ℕ) (xs : List A) (y : A) → IsAmong y (filter (λ (x : A). eqb (key x) k) xs) → (IsAmong y xs) × (key y ≡ k)
    its_key k xs y there = let found = filter_among (λ (x : A). eqb (key x) k) y xs there in (found.0, eqb-true (key y) k found.1)

    among_by : (from n : ℕ) (xs : List A) (y : A) → IsAmong y (by_key key from n xs) → (IsAmong y xs) × (from ≤ key y)
    among_by from n xs y there =
        let found = flat_among (λ k. filter (λ (x : A). eqb (key x) k) xs) y (range_with_len from n) there in
        let its = its_key found.0 xs y found.2 in
        let least = (range_among from n found.0 found.1).0 in
        (its.0, omega (arith, least, its.1))

    apart_from : (from : ℕ) (x : A) (xs : List A) → (key x ≡ from → ⊥) → filter (λ (y : A). eqb (key y) from) (x ∷ xs) ≡ filter (λ (y : A). eqb (key y) from) xs
    apart_from from x xs other = ap (λ (b : Bool). cond b (x ∷ filter (λ (y : A). eqb (key y) from) xs) (filter (λ (y : A). eqb (key y) from) xs)) (ne_eqb (key x) from other)

    -- a member whose number isn't in the range
    not_in : (from n : ℕ) (x : A) (xs : List A) → (key x < from) ⊎ (from + n ≤ key x) → by_key key from n (x ∷ xs) ≡ by_key key from n xs
    not_in from zero x xs off = refl
    not_in from (suc n) x xs off =
        ap (λ (l : List A). l ++ by_key key (from + 1) n (x ∷ xs)) (apart_from from x xs (other off))
        ∙ ap (λ (l : List A). filter (λ (y : A). eqb (key y) from) xs ++ l) (not_in (from + 1) n x xs (later off))
      where
        other : (key x < from) ⊎ (from + suc n ≤ key x) → key x ≡ from → ⊥
        other (inl below) same = absurd (omega (arith, below, same))
        other (inr above) same = absurd (omega (arith, above, same))

        later : (key x < from) ⊎ (from + suc n ≤ key x) → (key x < from + 1) ⊎ (from + 1 + n ≤ key x)
        later (inl below) = inl (omega (arith, below))
        later (inr above) = inr (omega (arith, above))

    -- and one whose number is
    is_in : (from n : ℕ) (x : A) (xs : List A) → from ≤ key x → key x < from + n → by_key key from n (x ∷ xs) ≡ insert_by key x (by_key key from n xs)
    is_in from zero x xs least within = absurd (omega (arith, least, within))
    is_in from (suc n) x xs least within = by (cases_eq (key x) from) (λ other. is_in (from + 1) n x xs (omega (arith, least, other)) (omega (arith, within)))
      where
        by : (key x ≡ from) ⊎ (key x ≡ from → ⊥) → ((key x ≡ from → ⊥) → by_key key (from + 1) n (x ∷ xs) ≡ insert_by key x (by_key key (from + 1) n xs))
            → by_key key from (suc n) (x ∷ xs) ≡ insert_by key x (by_key key from (suc n) xs)
        by (inl is) rest =
            ap (λ (b : Bool). cond b (x ∷ filter (λ (y : A). eqb (key y) from) xs) (filter (λ (y : A). eqb (key y) from) xs) ++ by_key key (from + 1) n (x ∷ xs)) (eq-eqb (key x) from is)
            ∙ (ap (λ (l : List A). x ∷ (filter (λ (y : A). eqb (key y) from) xs ++ l)) (not_in (from + 1) n x xs (inl (omega (arith, is))))
            ∙ sym (insert_first key x (by_key key from (suc n) xs) (λ z there. let above = (among_by from (suc n) xs z there).1 in omega (arith, above, is))))
        by (inr other) rest =
            ap (λ (l : List A). l ++ by_key key (from + 1) n (x ∷ xs)) (apart_from from x xs other)
            ∙ (ap (λ (l : List A). filter (λ (y : A). eqb (key y) from) xs ++ l) (rest other)
            ∙ sym (insert_past key x (filter (λ (y : A). eqb (key y) from) xs) (by_key key (from + 1) n xs)
            (λ y there. let its = (its_key from xs y there).1 in omega (arith, its, least, other))))

    -- of those that pass a test
    pub passing : (p : A → Bool) (from n : ℕ) (xs : List A) → filter p (by_key key from n xs) ≡ by_key key from n (filter p xs)
    passing p from zero xs = refl
    passing p from (suc n) xs =
        filter-append p (filter (λ (x : A). eqb (key x) from) xs) (by_key key (from + 1) n xs)
        ∙ (ap (λ (l : List A). l ++ filter p (by_key key (from + 1) n xs)) (filters_turned p (λ (x : A). eqb (key x) from) xs)
        ∙ ap (λ (l : List A). filter (λ (x : A). eqb (key x) from) (filter p xs) ++ l) (passing p (from + 1) n xs))

  pub same_order : (key other : A → ℕ) (most bound : ℕ) (xs : List A)
      → ((x y : A) → IsAmong x xs → IsAmong y xs → ltb (key y) (key x) ≡ ltb (other y) (other x)) → ((x : A) → IsAmong x xs → ltb (key x) most ≡ ltb (other x) bound)
      → by_key key 0 most xs ≡ by_key other 0 bound xs
  same_order key other most bound [] order below = none key most 0 ∙ sym (none other bound 0)
    where
      none : (k : A → ℕ) (n from : ℕ) → by_key k from n [] ≡ []
      none k zero from = refl
      none k (suc n) from = none k n (from + 1)
  same_order key other most bound (x ∷ xs) order below =
      by (cases_lt (key x) most) (cases_lt (other x) bound)
      (same_order key other most bound xs (λ y z one two. order y z (inr one) (inr two)) (λ y there. below y (inr there)))
    where
      by : (key x < most) ⊎ (most ≤ key x) → (other x < bound) ⊎ (bound ≤ other x) → by_key key 0 most xs ≡ by_key other 0 bound xs → by_key key 0 most (x ∷ xs) ≡ by_key other 0 bound (x ∷ xs)
      by (inl one) (inl two) rest =
          is_in key 0 most x xs (omega arith) (omega (arith, one))
          ∙ (ap (insert_by key x) rest
          ∙ (insert_agree key other x (by_key other 0 bound xs) (λ y there. order x y (inl refl) (inr (among_by other 0 bound xs y there).0))
          ∙ sym (is_in other 0 bound x xs (omega arith) (omega (arith, two)))))
      by (inr one) (inr two) rest = not_in key 0 most x xs (inr (omega (arith, one))) ∙ (rest ∙ sym (not_in other 0 bound x xs (inr (omega (arith, two)))))
      by (inl one) (inr two) rest = absurd (let no : true ≡ false = sym (lt-ltb (key x) most one) ∙ (below x (inl refl) ∙ le-ltb (other x) bound two) in cc)
      by (inr one) (inl two) rest = absurd (let no : true ≡ false = sym (lt-ltb (other x) bound two) ∙ (sym (below x (inl refl)) ∙ le-ltb (key x) most one) in cc)
