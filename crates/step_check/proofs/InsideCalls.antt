-- What is pushed inside turns, from the turns of each call alone.
use Rattle.std.proofs.Common.{◌≡◌, ℕ, ◌+◌, inl, inr, Bool, true, false, ◌&&◌, cond, eqb, ltb, List, [], ◌∷◌, ◌++◌, map, Option, Some, refl, ap, ◌∙◌, sym, subst, ⊎_elim, arith}
use Rattle.std.specs.Prelude.{filter}
use Rattle.std.proofs.lemmas.Bool.{cases_Bool, cond-true, cond-false, eqb-true, eq-eqb}
use Rattle.map_types.specs.declared.kind.DomainId.TheVariants.{Bucket}
use Rattle.map_types.specs.ElementLists.{times}
use Rattle.place_words.specs.Locks.{rank_of}
use Rattle.place_words.specs.Interleaving.{Drawn, turn_of, is_inner, encloses}
use Rattle.step_check.proofs.Begun.{Stands, HaveOwnTickets}
use Rattle.step_check.proofs.Inside.{around_of, pushed_by, is_turn, pushed_in, inside, InBucket, ArePushedInside}
use Rattle.step_check.proofs.Nested.{left_of, Nested, OfCall, nested_pays, nested_pushes, no_more, next}

-- the turns of a call
abbrev pub its : ℕ → List Drawn → List Drawn
its call turns = filter (λ (y : Drawn). eqb y.entry.call call) turns

pub its_stands : (call : ℕ) (turns : List Drawn) (y : Drawn) → Stands y (its call turns) → Stands y turns × (y.entry.call ≡ call)
its_stands call [] y at = absurd at
its_stands call (x ∷ later) y at = by (λ there. its_stands call later y there) (eqb x.entry.call call) refl at
  where
    by : (Stands y (its call later) → Stands y later × (y.entry.call ≡ call)) → (b : Bool) → eqb x.entry.call call ≡ b → Stands y (cond b (x ∷ its call later) (its call later)) → Stands y (x ∷ later) × (y.entry.call ≡ call)
    by rest true is (inl same) = (inl same, sym (ap (λ (d : Drawn). d.entry.call) same) ∙ eqb-true x.entry.call call is)
    by rest true is (inr there) = (inr (rest there).0, (rest there).1)
    by rest false is there = (inr (rest there).0, (rest there).1)

pub stands_its : (call : ℕ) (turns : List Drawn) (y : Drawn) → Stands y turns → y.entry.call ≡ call → Stands y (its call turns)
stands_its call [] y at is = absurd at
stands_its call (x ∷ later) y (inl same) is =
    subst (λ (b : Bool). Stands y (cond b (x ∷ its call later) (its call later))) (sym (eq-eqb x.entry.call call (ap (λ (d : Drawn). d.entry.call) same ∙ is))) (inl same)
stands_its call (x ∷ later) y (inr at) is = by (eqb x.entry.call call) (stands_its call later y at is)
  where
    by : (b : Bool) → Stands y (its call later) → Stands y (cond b (x ∷ its call later) (its call later))
    by true there = inr there
    by false there = there

own_its : (call : ℕ) (turns : List Drawn) → HaveOwnTickets turns → HaveOwnTickets (its call turns)
own_its call [] own = tt
own_its call (x ∷ later) own = by (eqb x.entry.call call) (own_its call later own.1)
  where
    by : (b : Bool) → HaveOwnTickets (its call later) → HaveOwnTickets (cond b (x ∷ its call later) (its call later))
    by true rest = (λ y at. own.0 y (its_stands call later y at).0, rest)
    by false rest = rest

and_false : (a : Bool) → (a && false) ≡ false
and_false true = refl
and_false false = refl

-- What is around a turn is found among the turns of its call.
around_its : (call : ℕ) (x : Drawn) (later : List Drawn) → x.entry.call ≡ call → around_of x later ≡ around_of x (its call later)
around_its call x [] is = refl
around_its call x (z ∷ later) is =
    ⊎_elim
    (λ (mine : eqb z.entry.call call ≡ true).
    ap (λ (o : Option Drawn). cond (encloses z x) (Some z) o) (around_its call x later is)
    ∙ sym (ap (around_of x) (cond-true (eqb z.entry.call call) (z ∷ its call later) (its call later) mine)))
    (λ (other : eqb z.entry.call call ≡ false).
    let outside : encloses z x ≡ false =
    ap (λ (b : Bool). (is_inner x.entry.part && ltb (rank_of z.lock) (rank_of x.lock)) && (eqb z.entry.cpu x.entry.cpu && b)) (ap (eqb z.entry.call) is ∙ other)
    ∙ ap (λ (b : Bool). (is_inner x.entry.part && ltb (rank_of z.lock) (rank_of x.lock)) && b) (and_false (eqb z.entry.cpu x.entry.cpu))
    ∙ and_false (is_inner x.entry.part && ltb (rank_of z.lock) (rank_of x.lock)) in
    cond-false (encloses z x) (Some z) (around_of x later) outside
    ∙ around_its call x later is
    ∙ sym (ap (around_of x) (cond-false (eqb z.entry.call call) (z ∷ its call later) (its call later) other)))
    (cases_Bool (eqb z.entry.call call))

-- So is what is pushed inside one.
inside_its : (y : Drawn) (turns : List Drawn) → inside y turns ≡ inside y (its y.entry.call turns)
inside_its y [] = refl
inside_its y (x ∷ later) =
    ⊎_elim
    (λ (mine : eqb x.entry.call y.entry.call ≡ true).
    ap (λ (o : Option Drawn). pushed_in (eqb x.entry.call y.entry.call && is_turn y o) x.entry.part ++ inside y later) (around_its y.entry.call x later (eqb-true x.entry.call y.entry.call mine))
    ∙ ap (λ (l : List ℕ). pushed_in (eqb x.entry.call y.entry.call && is_turn y (around_of x (its y.entry.call later))) x.entry.part ++ l) (inside_its y later)
    ∙ sym (ap (inside y) (cond-true (eqb x.entry.call y.entry.call) (x ∷ its y.entry.call later) (its y.entry.call later) mine)))
    (λ (other : eqb x.entry.call y.entry.call ≡ false).
    ap (λ (b : Bool). pushed_in (b && is_turn y (around_of x later)) x.entry.part ++ inside y later) other
    ∙ inside_its y later
    ∙ sym (ap (inside y) (cond-false (eqb x.entry.call y.entry.call) (x ∷ its y.entry.call later) (its y.entry.call later) other)))
    (cases_Bool (eqb x.entry.call y.entry.call))

pushed_its : (turns : List Drawn) → ((call : ℕ) → ArePushedInside (its call turns)) → ArePushedInside turns
pushed_its [] each = tt
pushed_its (x ∷ later) each =
    let mine : ArePushedInside (x ∷ its x.entry.call later) =
    subst ArePushedInside (cond-true (eqb x.entry.call x.entry.call) (x ∷ its x.entry.call later) (its x.entry.call later) (eq-eqb x.entry.call x.entry.call refl)) (each x.entry.call) in (
      ⊎_elim
          (λ (quiet : pushed_by x.entry.part ≡ []). inl quiet)
          (λ (there : InBucket (around_of x (its x.entry.call later))). inr (subst InBucket (sym (around_its x.entry.call x later refl)) there))
          mine.0,
      pushed_its later (λ call. rest call (eqb x.entry.call call) (each call)),
    )
  where
    rest : (call : ℕ) (b : Bool) → ArePushedInside (cond b (x ∷ its call later) (its call later)) → ArePushedInside (its call later)
    rest call true are = are.1
    rest call false are = are

-- The turns of a call are of one CPU, and nested.
pub record CallNested (turns : List Drawn) (call : ℕ) : Type 0 where
  pub cpu : ℕ
  pub of : OfCall cpu call (its call turns)
  pub nested : Nested [] (map turn_of (its call turns))

-- Then each turn of a bucket takes out what is pushed inside it,
pub bucket_pays : (turns : List Drawn) → HaveOwnTickets turns → ((call : ℕ) → CallNested turns call) → (y : Drawn) → Stands y turns → (b : ℕ) → y.lock ≡ Bucket b → (e : ℕ) → times e (inside y turns) ≡ times e (left_of y.entry.part)
bucket_pays turns own each y at b lock_is e =
    let c : CallNested turns y.entry.call = each y.entry.call in
    let mine : List Drawn = its y.entry.call turns in
    let paid : times e (cond (is_turn y (next mine)) [] []) + times e (inside y mine) ≡ times e (left_of y.entry.part) =
    nested_pays c.cpu y.entry.call [] mine c.of (own_its y.entry.call turns own) c.nested y (stands_its y.entry.call turns y at refl) b lock_is e in
    omega (arith, paid, ap (times e) (no_more (is_turn y (next mine))), ap (times e) (inside_its y turns))

-- and each push is made inside one.
pub pushed_inside : (turns : List Drawn) → ((call : ℕ) → CallNested turns call) → ArePushedInside turns
pushed_inside turns each = pushed_its turns (λ call. nested_pushes (each call).cpu call [] (its call turns) (each call).of (each call).nested)
