-- How often an element stands in a list that changed.
use Rattle.std.proofs.Common.{◌≡◌, ◌≢◌, ℕ, suc, ◌-◌, ◌<◌, cond, eqb, List, [], ◌∷◌, Option, Some, refl, ap, ◌∙◌, sym, subst, arith}
use Rattle.map_types.specs.ElementLists.{put, times, without, before_from}
use Rattle.map_types.proofs.RowLemmas.{by_test}

module _ {A : Type 0} where
  -- what holds of the new value at i, and of each other value, holds after
  pub at_put : (f : ℕ → A) (i : ℕ) (x : A) (F : ℕ → A → Type 0) (j : ℕ) → F i x → (j ≢ i → F j (f j)) → F j (put f i x j)
  unfolding put
  at_put f i x F j here other =
      by_test j i (λ b. F j (cond b x (f j))) (λ is. subst (λ (k : ℕ). F k x) (sym is) here) (λ is_not. other is_not)

  pub put_here : (f : ℕ → A) (i : ℕ) (x : A) → put f i x i ≡ x
  put_here f i x = at_put f i x (λ j y. j ≡ i → y ≡ x) i (λ _. refl) (λ is_not is. absurd (is_not is)) refl

  pub put_else : (f : ℕ → A) (i : ℕ) (x : A) (j : ℕ) → j ≢ i → put f i x j ≡ f j
  put_else f i x j other = at_put f i x (λ k y. k ≢ i → y ≡ f k) j (λ m. absurd (m refl)) (λ _ _. refl) other

pub times_cons_same : (e : ℕ) (xs : List ℕ) → times e (e ∷ xs) ≡ suc (times e xs)
times_cons_same e xs =
    by_test e e (λ b. cond b (suc (times e xs)) (times e xs) ≡ suc (times e xs)) (λ _. refl) (λ is_not. absurd (is_not refl))

pub times_cons_other : (x e : ℕ) (xs : List ℕ) → x ≢ e → times x (e ∷ xs) ≡ times x xs
times_cons_other x e xs other =
    by_test e x (λ b. cond b (suc (times x xs)) (times x xs) ≡ times x xs) (λ is. absurd (other (sym is))) (λ _. refl)

pub times_without_same : (e : ℕ) (xs : List ℕ) → times e (without e xs) ≡ times e xs - 1
times_without_same e [] = refl
times_without_same e (x ∷ xs) =
    let rest = times_without_same e xs in
    by_test x e (λ b. times e (cond b xs (x ∷ without e xs)) ≡ cond b (suc (times e xs)) (times e xs) - 1)
    (λ _. omega arith)
    (λ other. by_test x e (λ b. cond b (suc (times e (without e xs))) (times e (without e xs)) ≡ times e xs - 1) (λ is. absurd (other is)) (λ _. rest))

pub times_without_other : (x e : ℕ) (xs : List ℕ) → x ≢ e → times x (without e xs) ≡ times x xs
times_without_other x e [] other = refl
times_without_other x e (y ∷ ys) other =
    by_test y e (λ b. times x (cond b ys (y ∷ without e ys)) ≡ cond (eqb y x) (suc (times x ys)) (times x ys))
    (λ same. by_test y x (λ b. times x ys ≡ cond b (suc (times x ys)) (times x ys)) (λ here. absurd (other (sym here ∙ same))) (λ _. refl))
    (λ _. ap (λ (k : ℕ). cond (eqb y x) (suc k) k) (times_without_other x e ys other))

-- the element before e stays in the list without e
pub before_stays : (last : Option ℕ) (e p : ℕ) (xs : List ℕ) → before_from last e xs ≡ Some p → (last ≡ Some p → ⊥) → 0 < times p (without e xs)
before_stays last e p [] is elsewhere = absurd cc
before_stays last e p (x ∷ xs) is elsewhere =
    by_test x e (λ b. cond b last (before_from (Some x) e xs) ≡ Some p → 0 < times p (cond b xs (x ∷ without e xs)))
    (λ _ found. absurd (elsewhere found))
    (λ _ found. by_test x p (λ b. 0 < cond b (suc (times p (without e xs))) (times p (without e xs)))
    (λ _. omega arith)
    (λ other. before_stays (Some x) e p xs found (λ here. other cc))) is
