-- The first ticket that is wrong, by the table of those that were used.
use Rattle.std.proofs.Common.{◌≡◌, ◌⊎◌, inl, inr, ℕ, zero, suc, ◌+◌, ◌<◌, ◌≤◌, Bool, true, false, ◌||◌, cond, ltb, List, [], ◌∷◌, length, get_or, take, drop, set, replicate, ap, sym, ◌∙◌, subst, ⊎_elim, arith, Some}
use Rattle.std.specs.Prelude.{MatchOption}
use Rattle.std.proofs.lemmas.Bool.{cases_lt, lt-ltb, le-ltb}
use Rattle.std.proofs.lemmas.List.{drop_all, length-set, get_or-set_same, get_or-set_other, get_or-replicate, length-replicate}
use Rattle.std.proofs.Math.Seq.{take-suc, drop-cons}
use Rattle.map_types.specs.ElementLists.{times}
use Rattle.map_types.proofs.RowLemmas.{by_test, times_append}
use Rattle.record_order.specs.TicketTables.{is_wrong, first_wrong}

-- nothing is wrong with the ticket of this number
pub record IsFine (ts leasts : List ℕ) (g : ℕ) : Type 0 where
  pub below : get_or ts g 0 < length ts
  pub fresh : times (get_or ts g 0) (take g ts) ≡ 0
  pub high : get_or leasts g 0 ≤ get_or ts g 0

pub record IsFirst (ts leasts : List ℕ) (g : ℕ) : Type 0 where
  pub within : g < length ts
  pub wrong : IsFine ts leasts g → ⊥
  pub before : (k : ℕ) → k < g → IsFine ts leasts k

-- those that were used are marked
abbrev AreMarked : List ℕ → ℕ → List Bool → Type 0
AreMarked ts g used = (t : ℕ) → t < length ts → get_or used t false ≡ ltb 0 (times t (take g ts))

module _ (ts leasts : List ℕ) where
  -- a ticket whose test passes is fine, and one whose test fails isn't
  tested : (g : ℕ) (used : List Bool) → length used ≡ length ts → AreMarked ts g used
      → ((is_wrong used (get_or ts g 0) (get_or leasts g 0) ≡ true) × (IsFine ts leasts g → ⊥)) ⊎ ((is_wrong used (get_or ts g 0) (get_or leasts g 0) ≡ false) × IsFine ts leasts g)
  tested g used long marked =
      let t : ℕ = get_or ts g 0 in
      let least : ℕ = get_or leasts g 0 in
      ⊎_elim
      (λ (less : t < length ts).
      let room : ltb t (length used) ≡ true = lt-ltb t (length used) (omega arith) in
      let mark = marked t less in
      ⊎_elim
      (λ (was : 0 < times t (take g ts)).
      let bit : get_or used t false ≡ true = mark ∙ lt-ltb 0 (times t (take g ts)) was in
      inl (ap (λ (b : Bool). cond b (get_or used t false || ltb t least) true) room ∙ ap (λ (b : Bool). b || ltb t least) bit, λ fine. let none = fine.fresh in omega arith))
      (λ (new : times t (take g ts) ≤ 0).
      let bit : get_or used t false ≡ false = mark ∙ le-ltb 0 (times t (take g ts)) new in
      let tells : is_wrong used t least ≡ ltb t least = ap (λ (b : Bool). cond b (get_or used t false || ltb t least) true) room ∙ ap (λ (b : Bool). b || ltb t least) bit in
      ⊎_elim
      (λ (low : t < least). inl (tells ∙ lt-ltb t least low, λ fine. let high = fine.high in omega arith))
      (λ (high : least ≤ t). inr (tells ∙ le-ltb t least high, record { below = less; fresh = omega arith; high = high }))
      (cases_lt t least))
      (cases_lt 0 (times t (take g ts))))
      (λ (past : length ts ≤ t).
      let none : ltb t (length used) ≡ false = le-ltb t (length used) (omega arith) in
      inl (ap (λ (b : Bool). cond b (get_or used t false || ltb t least) true) none, λ fine. let below = fine.below in omega arith))
      (cases_lt t (length ts))

  marks_more : (g : ℕ) (used : List Bool) → g < length ts → length used ≡ length ts → get_or ts g 0 < length ts → AreMarked ts g used → AreMarked ts (suc g) (set used (get_or ts g 0) true)
  marks_more g used within long below marked t less =
      let new : ℕ = get_or ts g 0 in
      let longer : times t (take (suc g) ts) ≡ times t (take g ts) + times t (new ∷ []) = ap (times t) (take-suc ts g 0 within) ∙ times_append t (take g ts) (new ∷ []) in
      by_test new t (λ b. times t (take (suc g) ts) ≡ times t (take g ts) + cond b 1 0 → get_or (set used new true) t false ≡ ltb 0 (times t (take (suc g) ts)))
      (λ is now. subst (λ (x : ℕ). get_or (set used x true) t false ≡ ltb 0 (times t (take (suc g) ts))) (sym is) (get_or-set_same used t true false (omega arith) ∙ sym (lt-ltb 0 (times t (take (suc g) ts)) (omega arith))))
      (λ other now. get_or-set_other used new t true false (λ is. other (sym is)) ∙ (marked t less ∙ ap (ltb 0) (let same : times t (take g ts) ≡ times t (take (suc g) ts) = omega arith in same)))
      longer

  found : (left g : ℕ) (used : List Bool) → g + left ≡ length ts → length used ≡ length ts → AreMarked ts g used → ((k : ℕ) → k < g → IsFine ts leasts k)
      → MatchOption (first_wrong g used (drop g ts) leasts) ((k : ℕ) → k < length ts → IsFine ts leasts k) (IsFirst ts leasts)
  found zero g used count long marked fine =
      rw (drop_all g ts (omega arith)) (λ k less. fine k (omega arith))
  found (suc left) g used count long marked fine =
      let t : ℕ = get_or ts g 0 in
      rw (drop-cons ts g 0 (omega arith)) (⊎_elim
      (λ (bad : (is_wrong used t (get_or leasts g 0) ≡ true) × (IsFine ts leasts g → ⊥)).
      subst (λ (b : Bool). MatchOption (cond b (Some g) (first_wrong (suc g) (set used t true) (drop (suc g) ts) leasts)) ((k : ℕ) → k < length ts → IsFine ts leasts k) (IsFirst ts leasts)) (sym bad.0)
      (record { within = omega arith; wrong = bad.1; before = fine }))
      (λ (good : (is_wrong used t (get_or leasts g 0) ≡ false) × IsFine ts leasts g).
      subst (λ (b : Bool). MatchOption (cond b (Some g) (first_wrong (suc g) (set used t true) (drop (suc g) ts) leasts)) ((k : ℕ) → k < length ts → IsFine ts leasts k) (IsFirst ts leasts)) (sym good.0)
      (let below = good.1.below in
      found left (suc g) (set used t true) (omega arith) (length-set used t true ∙ long) (marks_more g used (omega arith) long below marked)
      (λ k less. ⊎_elim (λ (before : k < g). fine k before) (λ (here : g ≤ k). let is : g ≡ k = omega arith in subst (IsFine ts leasts) is good.1) (cases_lt k g))))
      (tested g used long marked))

  pub found_first : MatchOption (first_wrong 0 (replicate (length ts) false) ts leasts) ((k : ℕ) → k < length ts → IsFine ts leasts k) (IsFirst ts leasts)
  found_first =
      found (length ts) 0 (replicate (length ts) false) (omega arith) (length-replicate (length ts) false)
      (λ t less. get_or-replicate (length ts) t false false less) (λ k less. absurd (omega arith))
