-- Turns that have begun and are still to come, among those from a moment on: until such a turn comes, no other turn is of its lock, and each
-- turn of its CPU is made inside it.
use Rattle.std.proofs.Common.{◌≡◌, ◌≢◌, ◌⊎◌, inl, inr, ◌<◌, ◌≤◌, Bool, true, false, ◌&&◌, cond, eqb, ltb, List, [], ◌∷◌, ◌++◌, refl, ap, ◌∙◌, sym, subst, ⊎_elim, arith}
use Rattle.std.proofs.lemmas.Bool.{and_parts, eqb-true, ltb-true}
use Rattle.place_words.specs.Interleaving.{Drawn, is_inner, encloses, enclosing}
use Rattle.place_words.specs.Locks.{rank_of}
use Rattle.step_check.proofs.Begun.{Stands, HaveOwnTickets, stands_around, stands_in}

-- `Done` holds of each turn that encloses it.
abbrev pub IsOpen : (Drawn → Type 0) → Drawn → List Drawn → Type 0
IsOpen Done y [] = ⊥
IsOpen Done y (x ∷ more) =
    ((x ≡ y) × ((z : Drawn) → Stands z (enclosing x more) → Done z))
    ⊎ ((x.lock ≢ y.lock) × (x.entry.cpu ≡ y.entry.cpu → Stands y (enclosing x more)) × IsOpen Done y more)

pub open_stands : (Done : Drawn → Type 0) (y : Drawn) (turns : List Drawn) → IsOpen Done y turns → Stands y turns
open_stands Done y [] opened = opened
open_stands Done y (x ∷ more) (inl here) = inl here.0
open_stands Done y (x ∷ more) (inr waits) = inr (open_stands Done y more waits.2)

pub open_more : (Done Then : Drawn → Type 0) → ((z : Drawn) → Done z → Then z) → (y : Drawn) (turns : List Drawn) → IsOpen Done y turns → IsOpen Then y turns
open_more Done Then more y [] opened = opened
open_more Done Then more y (x ∷ rest) (inl here) = inl (here.0, λ z at. more z (here.1 z at))
open_more Done Then more y (x ∷ rest) (inr waits) = inr (waits.0, waits.1, open_more Done Then more y rest waits.2)

-- One turn that has begun on a lock is alone.
pub one_open : (Done Then : Drawn → Type 0) (y z : Drawn) (turns : List Drawn) → IsOpen Done y turns → IsOpen Then z turns → y.lock ≡ z.lock → y ≡ z
one_open Done Then y z [] opened also same = absurd opened
one_open Done Then y z (x ∷ more) (inl here) (inl there) same = sym here.0 ∙ there.0
one_open Done Then y z (x ∷ more) (inl here) (inr waits) same = absurd (waits.0 (ap (λ (d : Drawn). d.lock) here.0 ∙ same))
one_open Done Then y z (x ∷ more) (inr waits) (inl here) same = absurd (waits.0 (ap (λ (d : Drawn). d.lock) here.0 ∙ sym same))
one_open Done Then y z (x ∷ more) (inr waits) (inr also) same = one_open Done Then y z more waits.2 also.2 same

-- Ranks

-- what a turn that encloses another has with it
pub record Around (outer inner : Drawn) : Type 0 where
  pub inner_is : is_inner inner.entry.part ≡ true
  pub lower : rank_of outer.lock < rank_of inner.lock
  pub cpu : outer.entry.cpu ≡ inner.entry.cpu
  pub call : outer.entry.call ≡ inner.entry.call

pub around_one : (outer inner : Drawn) → encloses outer inner ≡ true → Around outer inner
around_one outer inner is =
    let both = and_parts (is_inner inner.entry.part && ltb (rank_of outer.lock) (rank_of inner.lock)) (eqb outer.entry.cpu inner.entry.cpu && eqb outer.entry.call inner.entry.call) is in
    let ranks = and_parts (is_inner inner.entry.part) (ltb (rank_of outer.lock) (rank_of inner.lock)) both.0 in
    let its = and_parts (eqb outer.entry.cpu inner.entry.cpu) (eqb outer.entry.call inner.entry.call) both.1 in
    record {
      inner_is = ranks.0;
      lower = ltb-true (rank_of outer.lock) (rank_of inner.lock) ranks.1;
      cpu = eqb-true outer.entry.cpu inner.entry.cpu its.0;
      call = eqb-true outer.entry.call inner.entry.call its.1;
    }

pub around_each : (x : Drawn) (later : List Drawn) (y : Drawn) → Stands y (enclosing x later) → Around y x
unfolding enclosing
around_each x [] y at = absurd at
around_each x (z ∷ later) y at = by (encloses z x) refl at (around_each z later y) (around_each x later y)
  where
    by : (b : Bool) → encloses z x ≡ b → Stands y (cond b (enclosing z later ++ z ∷ []) (enclosing x later)) → (Stands y (enclosing z later) → Around y z) → (Stands y (enclosing x later) → Around y x) → Around y x
    by false is there outer rest = rest there
    by true is there outer rest =
        let mine : Around z x = around_one z x is in
        ⊎_elim
        (λ (above : Stands y (enclosing z later)).
        let far : Around y z = outer above in
        record { inner_is = mine.inner_is; lower = omega (arith, far.lower, mine.lower); cpu = far.cpu ∙ mine.cpu; call = far.call ∙ mine.call })
        (λ (last : Stands y (z ∷ [])). ⊎_elim (λ (same : z ≡ y). subst (λ (d : Drawn). Around d x) same mine) (λ none. absurd none) last)
        (stands_in y (enclosing z later) (z ∷ []) there)

-- Of two turns around one, the second of which has no higher rank, and the first of which is done with all around it, the second is done.
pub whole_of : (Done : Drawn → Type 0) (x : Drawn) (later : List Drawn) (y t : Drawn) → HaveOwnTickets later → Stands y (enclosing x later) → Stands t (enclosing x later) → IsOpen Done y later → rank_of t.lock ≤ rank_of y.lock
    → (y ≡ t) ⊎ Done t
unfolding enclosing
whole_of Done x [] y t own at there opened low = absurd at
whole_of Done x (z ∷ later) y t own at there opened low = by (encloses z x) at there opened (λ one two is. whole_of Done z later y t own.1 one two is low) (λ one two is. whole_of Done x later y t own.1 one two is low)
  where
    last : (d : Drawn) → Stands d (z ∷ []) → z ≡ d
    last d one = ⊎_elim (λ (same : z ≡ d). same) (λ none. absurd none) one

    by : (b : Bool) → Stands y (cond b (enclosing z later ++ z ∷ []) (enclosing x later)) → Stands t (cond b (enclosing z later ++ z ∷ []) (enclosing x later)) → IsOpen Done y (z ∷ later)
        → (Stands y (enclosing z later) → Stands t (enclosing z later) → IsOpen Done y later → (y ≡ t) ⊎ Done t)
        → (Stands y (enclosing x later) → Stands t (enclosing x later) → IsOpen Done y later → (y ≡ t) ⊎ Done t)
        → (y ≡ t) ⊎ Done t
    by false one two (inl here) above rest = absurd (own.0 y (stands_around x y later one) (ap (λ (d : Drawn). d.entry.ticket) (sym here.0)))
    by false one two (inr waits) above rest = rest one two waits.2
    by true one two (inl here) above rest = ⊎_elim
        (λ (far : Stands t (enclosing z later)). inr (here.1 t far))
        (λ (near : Stands t (z ∷ [])). inl (sym here.0 ∙ last t near))
        (stands_in t (enclosing z later) (z ∷ []) two)
    by true one two (inr waits) above rest = ⊎_elim
        (λ (far : Stands y (enclosing z later)). ⊎_elim
        (λ (also : Stands t (enclosing z later)). above far also waits.2)
        (λ (near : Stands t (z ∷ [])).
        let around : Around y z = around_each z later y far in
        absurd (omega (arith, around.lower, low, ap (λ (d : Drawn). rank_of d.lock) (last t near))))
        (stands_in t (enclosing z later) (z ∷ []) two))
        (λ (near : Stands y (z ∷ [])). absurd (waits.0 (ap (λ (d : Drawn). d.lock) (last y near))))
        (stands_in y (enclosing z later) (z ∷ []) one)
