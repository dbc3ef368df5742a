-- The opening contents: each element is free under one lock, or the spare of one CPU.
use Rattle.std.proofs.Common.{◌≡◌, ◌≢◌, ℕ, zero, suc, ◌+◌, ◌-◌, ◌*◌, ◌/◌, ◌%◌, ◌<◌, ◌≤◌, Bool, true, false, cond, leb, List, [], ◌∷◌, refl, ap, ◌∙◌, sym, subst, ⊎_elim, inl, inr, ◌⊎◌, arith}
use Rattle.std.specs.Prelude.{filter}
use Rattle.std.proofs.Math.Nat.{suc-mul, zero-mul, div-add-mod, div-eq_of_lt-le}
use Rattle.std.proofs.lemmas.Bool.{cases_Bool, cases_eq, cases_lt, lt-ltb, le-ltb, leb-true, leb-false}
use Rattle.map_types.specs.declared.attr.Shape.{Shape}
use Rattle.map_types.specs.Shape.{HasBounds}
use Rattle.map_types.specs.ElementLists.{times}
use Rattle.place_words.specs.Openings.{opening_stack}
use Rattle.place_words.specs.Shares.{share_first, share_count, pushed_from}
use Rattle.place_words.proofs.ElementLemmas.{times_cons_same, times_cons_other}

-- Lists of elements that were pushed in order

pub pushed_out : (a n e : ℕ) → (e < a) ⊎ (a + n ≤ e) → times e (pushed_from a n) ≡ 0
pushed_out a zero e out = refl
pushed_out a (suc n) e out =
    let apart : e ≢ a + n = λ is. ⊎_elim (λ (low : e < a). omega arith) (λ (high : a + suc n ≤ e). omega arith) out in
    times_cons_other e (a + n) (pushed_from a n) apart ∙ pushed_out a n e (⊎_elim (λ (low : e < a). inl low) (λ (high : a + suc n ≤ e). inr (omega arith)) out)

pub pushed_in : (a n e : ℕ) → a ≤ e → e < a + n → times e (pushed_from a n) ≡ 1
pushed_in a zero e from_a below = absurd (omega arith)
pushed_in a (suc n) e from_a below =
    ⊎_elim
    (λ (is : e ≡ a + n). subst (λ (x : ℕ). times e (x ∷ pushed_from a n) ≡ 1) is (times_cons_same e (pushed_from a n) ∙ ap suc (pushed_out a n e (inr (omega arith)))))
    (λ (other : e ≡ a + n → ⊥). times_cons_other e (a + n) (pushed_from a n) other ∙ pushed_in a n e from_a (omega arith))
    (cases_eq e (a + n))

pub times_filter : (p : ℕ → Bool) (e : ℕ) (xs : List ℕ) → times e (filter p xs) ≡ cond (p e) (times e xs) 0
times_filter p e [] = none (p e)
  where
    none : (b : Bool) → times e [] ≡ cond b (times e []) 0
    none true = refl
    none false = refl
times_filter p e (x ∷ xs) =
    let rest = times_filter p e xs in
    ⊎_elim
    (λ (here : x ≡ e). subst (λ (y : ℕ). times e (cond (p y) (y ∷ filter p xs) (filter p xs)) ≡ cond (p e) (times e (y ∷ xs)) 0) (sym here) (at_e (p e) rest))
    (λ (other : x ≡ e → ⊥). else_rest (p x) other ∙ (rest ∙ ap (λ (n : ℕ). cond (p e) n 0) (sym (times_cons_other e x xs (λ is. other (sym is))))))
    (cases_eq x e)
  where
    at_e : (b : Bool) → times e (filter p xs) ≡ cond b (times e xs) 0 → times e (cond b (e ∷ filter p xs) (filter p xs)) ≡ cond b (times e (e ∷ xs)) 0
    at_e true rest = times_cons_same e (filter p xs) ∙ (ap suc rest ∙ sym (times_cons_same e xs))
    at_e false rest = rest

    else_rest : (b : Bool) → (x ≡ e → ⊥) → times e (cond b (x ∷ filter p xs) (filter p xs)) ≡ times e (filter p xs)
    else_rest true other = times_cons_other e x (filter p xs) (λ is. other (sym is))
    else_rest false other = refl

-- Shares

pub first_next : (shape : Shape) (c : ℕ) → share_first shape.elements shape.cpus (suc c) ≡ share_first shape.elements shape.cpus c + share_count shape.elements shape.cpus c
first_next shape c =
    let q = shape.elements / shape.cpus in
    let more : suc c * q ≡ c * q + q = suc-mul c q in
    ⊎_elim
    (λ (less : c < shape.elements % shape.cpus). rw (lt-ltb c (shape.elements % shape.cpus) less) (omega arith))
    (λ (past : shape.elements % shape.cpus ≤ c). rw (le-ltb c (shape.elements % shape.cpus) past) (omega arith))
    (cases_lt c (shape.elements % shape.cpus))

pub first_rises : (shape : Shape) (c d : ℕ) → share_first shape.elements shape.cpus c ≤ share_first shape.elements shape.cpus (d + c)
first_rises shape c zero = let same : 0 + c ≡ c = omega arith in subst (λ (x : ℕ). share_first shape.elements shape.cpus c ≤ share_first shape.elements shape.cpus x) (sym same) (omega arith)
first_rises shape c (suc d) =
    let same : suc d + c ≡ suc (d + c) = omega arith in
    let below = first_rises shape c d in
    let next = first_next shape (d + c) in
    subst (λ (x : ℕ). share_first shape.elements shape.cpus c ≤ share_first shape.elements shape.cpus x) (sym same) (omega arith)

pub first_up : (shape : Shape) (c d : ℕ) → c ≤ d → share_first shape.elements shape.cpus c ≤ share_first shape.elements shape.cpus d
first_up shape c d less =
    let apart : d - c + c ≡ d = omega arith in
    subst (λ (x : ℕ). share_first shape.elements shape.cpus c ≤ share_first shape.elements shape.cpus x) apart (first_rises shape c (d - c))

pub first_of_all : (shape : Shape) → 1 ≤ shape.cpus → share_first shape.elements shape.cpus shape.cpus ≡ shape.elements
first_of_all shape some =
    let parts = div-add-mod shape.elements shape.cpus in
    let below : shape.elements % shape.cpus < shape.cpus = omega arith in
    omega arith

-- the CPU in whose share an element is: the last one of at most m whose share doesn't begin after it
pub sharer : Shape → ℕ → ℕ → ℕ
sharer shape zero e = 0
sharer shape (suc m) e = cond (leb (share_first shape.elements shape.cpus (suc m)) e) (suc m) (sharer shape m e)

pub record Shares (shape : Shape) (m e c : ℕ) : Type 0 where
  pub among : c ≤ m
  pub from_there : share_first shape.elements shape.cpus c ≤ e
  pub below_next : (d : ℕ) → c < d → d ≤ m → e < share_first shape.elements shape.cpus d

pub shares : (shape : Shape) (m e : ℕ) → Shares shape m e (sharer shape m e)
unfolding sharer
shares shape zero e = record { among = omega arith; from_there = let none = zero-mul (shape.elements / shape.cpus) in omega arith; below_next = λ d more few. absurd (omega arith) }
shares shape (suc m) e =
    ⊎_elim
    (λ (here : leb (share_first shape.elements shape.cpus (suc m)) e ≡ true). subst (λ b. Shares shape (suc m) e (cond b (suc m) (sharer shape m e))) (sym here) record { among = omega arith; from_there = leb-true _ _ here; below_next = λ d more few. absurd (omega arith) })
    (λ (below : leb (share_first shape.elements shape.cpus (suc m)) e ≡ false).
    let rest = shares shape m e in
    subst (λ b. Shares shape (suc m) e (cond b (suc m) (sharer shape m e))) (sym below) record {
      among = let few = rest.among in omega arith;
      from_there = rest.from_there;
      below_next = λ d more few. ⊎_elim
          (λ (is : d ≡ suc m). subst (λ (x : ℕ). e < share_first shape.elements shape.cpus x) (sym is) (leb-false _ _ below))
          (λ (other : d ≡ suc m → ⊥). rest.below_next d more (omega arith))
          (cases_eq d (suc m));
    })
    (cases_Bool (leb (share_first shape.elements shape.cpus (suc m)) e))

module _ (shape : Shape) (bounds : HasBounds shape) (e : ℕ) (real : e < shape.elements) where
  -- the CPU in whose share the element is
  pub its_cpu : ℕ
  its_cpu = sharer shape shape.cpus e

  pub its_share : Shares shape shape.cpus e (its_cpu)
  unfolding its_cpu
  its_share = shares shape shape.cpus e

  pub its_cpu_is : its_cpu < shape.cpus
  its_cpu_is =
      let share = its_share in
      let whole = first_of_all shape bounds.some_cpu in
      let among = share.among in
      ⊎_elim
      (λ (last : its_cpu ≡ shape.cpus). let past : share_first shape.elements shape.cpus shape.cpus ≤ e = subst (λ (c : ℕ). share_first shape.elements shape.cpus c ≤ e) last share.from_there in absurd (omega arith))
      (λ (other : its_cpu ≡ shape.cpus → ⊥). omega arith)
      (cases_eq its_cpu shape.cpus)

  pub in_its_stack : times e (opening_stack shape its_cpu) ≡ 1
  unfolding opening_stack
  in_its_stack =
      let share = its_share in
      let next = first_next shape its_cpu in
      let few = its_cpu_is in
      pushed_in (share_first shape.elements shape.cpus its_cpu) (share_count shape.elements shape.cpus its_cpu) e share.from_there (let below = share.below_next (suc its_cpu) (omega arith) (omega arith) in omega arith)

  pub in_no_other : (c : ℕ) → c < shape.cpus → c ≢ its_cpu → times e (opening_stack shape c) ≡ 0
  unfolding opening_stack
  in_no_other c few other =
      let share = its_share in
      let next = first_next shape c in
      pushed_out (share_first shape.elements shape.cpus c) (share_count shape.elements shape.cpus c) e
      (⊎_elim
      (λ (less : c < its_cpu). let up = first_up shape (suc c) its_cpu (omega arith) in let here = share.from_there in inr (omega arith))
      (λ (more : its_cpu ≤ c). inl (share.below_next c (omega arith) (omega arith)))
      (cases_lt c its_cpu))

  -- where each CPU has as many
  pub its_quotient : shape.elements % shape.cpus ≡ 0 → its_cpu ≡ e / (shape.elements / shape.cpus)
  its_quotient even =
      let share = its_share in
      let few = its_cpu_is in
      let q = shape.elements / shape.cpus in
      let below = share.below_next (suc its_cpu) (omega arith) (omega arith) in
      let here = share.from_there in
      let first_is : share_first shape.elements shape.cpus its_cpu ≡ its_cpu * q = omega arith in
      let next_is : share_first shape.elements shape.cpus (suc its_cpu) ≡ suc its_cpu * q = omega arith in
      let one_more : (its_cpu + 1) * q ≡ suc its_cpu * q = ap (λ (x : ℕ). x * q) (omega arith) in
      sym (div-eq_of_lt-le q (omega arith) (omega arith))

-- an element past the last is in no stack
pub in_none : (shape : Shape) → HasBounds shape → (e c : ℕ) → shape.elements ≤ e → c < shape.cpus → times e (opening_stack shape c) ≡ 0
unfolding opening_stack
in_none shape bounds e c past few =
    let next = first_next shape c in
    let up = first_up shape (suc c) shape.cpus (omega arith) in
    let whole = first_of_all shape bounds.some_cpu in
    pushed_out (share_first shape.elements shape.cpus c) (share_count shape.elements shape.cpus c) e (inr (omega arith))
