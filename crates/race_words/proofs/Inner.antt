-- What is made inside a turn before it comes: each turn of its CPU until then, where inner turns follow one another and calls of a CPU
-- don't fall back.
use Rattle.std.proofs.Common.{◌≡◌, ◌≢◌, ◌⊎◌, inl, inr, ◌<◌, ◌≤◌, Bool, true, false, cond, List, [], ◌∷◌, ◌++◌, refl, ◌∙◌, sym, ⊎_elim, arith}
use Rattle.std.proofs.lemmas.Bool.{and_from, cases_lt, eq-eqb, lt-ltb, true≢false}
use Rattle.place_words.specs.Interleaving.{Drawn, is_inner, encloses, enclosing}
use Rattle.place_words.specs.Locks.{rank_of}
use Rattle.step_check.proofs.Begun.{Stands, HaveOwnTickets, stands_around, stands_in, stands_left}
use Rattle.race_words.proofs.Open.{IsOpen, Around, around_one, around_each}

-- the turns of its call from an inner one on, up to the first that encloses it
abbrev pub InnerBefore : Drawn → List Drawn → Type 0
InnerBefore x [] = Unit {0}
InnerBefore x (w ∷ more) = (encloses w x ≡ true) ⊎ ((w.entry.cpu ≡ x.entry.cpu → w.entry.call ≡ x.entry.call → is_inner w.entry.part ≡ true) × InnerBefore x more)

-- of each turn that was made inside another
abbrev pub InnersTogether : List Drawn → Type 0
InnersTogether [] = Unit {0}
InnersTogether (x ∷ later) = ((t : Drawn) → Stands t (enclosing x later) → InnerBefore x later) × InnersTogether later

-- tickets ascend, and so do the calls of each CPU
abbrev pub Ascend : List Drawn → Type 0
Ascend [] = Unit {0}
Ascend (x ∷ later) = ((y : Drawn) → Stands y later → x.entry.ticket < y.entry.ticket) × Ascend later

abbrev pub CallsRise : List Drawn → Type 0
CallsRise [] = Unit {0}
CallsRise (x ∷ later) = ((y : Drawn) → Stands y later → y.entry.cpu ≡ x.entry.cpu → x.entry.call ≤ y.entry.call) × CallsRise later

-- no turn of its lock stands between a turn and one that was made inside it
abbrev pub Apart : List Drawn → Type 0
Apart [] = Unit {0}
Apart (x ∷ later) = ((t : Drawn) → Stands t (enclosing x later) → (z : Drawn) → Stands z later → z.lock ≡ t.lock → t.entry.ticket ≤ z.entry.ticket) × Apart later

pub ascend_own : (turns : List Drawn) → Ascend turns → HaveOwnTickets turns
ascend_own [] ascend = tt
ascend_own (x ∷ later) ascend = (λ y at same. omega (arith, ascend.0 y at, same), ascend_own later ascend.1)

pub encloses_from : (outer inner : Drawn) → Around outer inner → encloses outer inner ≡ true
encloses_from outer inner a =
    and_from _ _ (and_from _ _ a.inner_is (lt-ltb (rank_of outer.lock) (rank_of inner.lock) a.lower))
    (and_from _ _ (eq-eqb outer.entry.cpu inner.entry.cpu a.cpu) (eq-eqb outer.entry.call inner.entry.call a.call))

-- an inner turn and another one of its call
record Like (x w : Drawn) : Type 0 where
  first : is_inner x.entry.part ≡ true
  second : is_inner w.entry.part ≡ true
  cpu : w.entry.cpu ≡ x.entry.cpu
  call : w.entry.call ≡ x.entry.call

not_lower : (x w : Drawn) → Like x w → encloses w x ≡ false → rank_of x.lock ≤ rank_of w.lock
not_lower x w like outside = ⊎_elim
    (λ (less : rank_of w.lock < rank_of x.lock). absurd (true≢false (sym (encloses_from w x (record { inner_is = like.first; lower = less; cpu = like.cpu; call = like.call })) ∙ outside)))
    (λ (low : rank_of x.lock ≤ rank_of w.lock). low)
    (cases_lt (rank_of w.lock) (rank_of x.lock))

-- What encloses an inner turn encloses each behind it whose lock has no lower rank.
inside_too : (x w : Drawn) (more : List Drawn) (t : Drawn) → Like x w → rank_of x.lock ≤ rank_of w.lock → InnerBefore x more → Stands t (enclosing x more) → Stands t (enclosing w more)
unfolding enclosing
inside_too x w [] t like low inner at = at
inside_too x w (v ∷ more) t like low inner at = by (encloses v x) refl (encloses v w) refl inner at (λ alike rank rest there. inside_too x v more t alike rank rest there) (λ rest there. inside_too x w more t like low rest there)
  where
    by : (a : Bool) → encloses v x ≡ a → (b : Bool) → encloses v w ≡ b → InnerBefore x (v ∷ more) → Stands t (cond a (enclosing v more ++ v ∷ []) (enclosing x more))
        → (Like x v → rank_of x.lock ≤ rank_of v.lock → InnerBefore x more → Stands t (enclosing x more) → Stands t (enclosing v more))
        → (InnerBefore x more → Stands t (enclosing x more) → Stands t (enclosing w more))
        → Stands t (cond b (enclosing v more ++ v ∷ []) (enclosing w more))
    by true is true also rest there through on = there
    by true is false also rest there through on =
        let near : Around v x = around_one v x is in
        absurd (true≢false (sym (encloses_from v w (record { inner_is = like.second; lower = omega (arith, near.lower, low); cpu = near.cpu ∙ sym like.cpu; call = near.call ∙ sym like.call })) ∙ also))
    by false is true also (inl outer) there through on = absurd (true≢false (sym outer ∙ is))
    by false is false also (inl outer) there through on = absurd (true≢false (sym outer ∙ is))
    by false is true also (inr rest) there through on =
        let near : Around v w = around_one v w also in
        let cpu : v.entry.cpu ≡ x.entry.cpu = near.cpu ∙ like.cpu in
        let call : v.entry.call ≡ x.entry.call = near.call ∙ like.call in
        let alike : Like x v = record { first = like.first; second = rest.0 cpu call; cpu = cpu; call = call } in
        stands_left t (enclosing v more) (v ∷ []) (through alike (not_lower x v alike is) rest.1 there)
    by false is false also (inr rest) there through on = on rest.1 there

-- So until it comes, a turn that encloses one has no other turn of its lock before it, and all of its CPU inside it.
opens : (Done : Drawn → Type 0) (x : Drawn) (later : List Drawn) (t : Drawn) → Stands t (enclosing x later) → InnerBefore x later → InnersTogether later → Ascend later
    → ((y : Drawn) → Stands y later → y.entry.cpu ≡ x.entry.cpu → x.entry.call ≤ y.entry.call) → CallsRise later
    → ((z : Drawn) → Stands z later → z.lock ≡ t.lock → t.entry.ticket ≤ z.entry.ticket) → ((z : Drawn) → Stands z (enclosing x later) → Done z) → IsOpen Done t later
unfolding enclosing
opens Done x [] t at inner together ascend behind rise alone done = at
opens Done x (w ∷ more) t at inner together ascend behind rise alone done =
    by (encloses w x) refl at inner (λ z there. done z there)
    (λ far all. opens Done w more t far (together.0 t far) together.1 ascend.1 rise.0 rise.1 (λ z there same. alone z (inr there) same) all)
    (λ there rest all. opens Done x more t there rest together.1 ascend.1 (λ y its cpu. behind y (inr its) cpu) rise.1 (λ z its same. alone z (inr its) same) all)
  where
    other : Stands t more → w.lock ≢ t.lock
    other there same = omega (arith, alone w (inl refl) same, ascend.0 t there)

    by : (a : Bool) → encloses w x ≡ a → Stands t (cond a (enclosing w more ++ w ∷ []) (enclosing x more)) → InnerBefore x (w ∷ more)
        → ((z : Drawn) → Stands z (cond a (enclosing w more ++ w ∷ []) (enclosing x more)) → Done z)
        → (Stands t (enclosing w more) → ((z : Drawn) → Stands z (enclosing w more) → Done z) → IsOpen Done t more)
        → (Stands t (enclosing x more) → InnerBefore x more → ((z : Drawn) → Stands z (enclosing x more) → Done z) → IsOpen Done t more)
        → IsOpen Done t (w ∷ more)
    by true is there rest all through on = ⊎_elim
        (λ (far : Stands t (enclosing w more)). inr (other (stands_around w t more far), λ _. far, through far (λ z its. all z (stands_left z (enclosing w more) (w ∷ []) its))))
        (λ (near : Stands t (w ∷ [])). inl (⊎_elim (λ (same : w ≡ t). same) (λ none. absurd none) near, λ z its. all z (stands_left z (enclosing w more) (w ∷ []) its)))
        (stands_in t (enclosing w more) (w ∷ []) there)
    by false is there (inl outer) all through on = absurd (true≢false (sym outer ∙ is))
    by false is there (inr rest) all through on =
        let around : Around t x = around_each x more t there in
        inr (
          other (stands_around x t more there),
          λ cpu.
              let mine : w.entry.cpu ≡ x.entry.cpu = cpu ∙ around.cpu in
              let first : x.entry.call ≤ w.entry.call = behind w (inl refl) mine in
              let last : w.entry.call ≤ t.entry.call = rise.0 t (stands_around x t more there) (sym cpu) in
              let call : w.entry.call ≡ x.entry.call = omega (arith, first, last, around.call) in
              let alike : Like x w = record { first = around.inner_is; second = rest.0 mine call; cpu = mine; call = call } in
              inside_too x w more t alike (not_lower x w alike is) rest.1 there,
          on there rest.1 all,
        )

-- what begins with each turn
abbrev pub AreOpen : List Drawn → Type 0
AreOpen [] = Unit {0}
AreOpen (x ∷ later) = ((t : Drawn) → Stands t (enclosing x later) → IsOpen (λ z. Stands z (enclosing x later)) t later) × AreOpen later

pub are_open : (turns : List Drawn) → InnersTogether turns → Ascend turns → CallsRise turns → Apart turns → AreOpen turns
are_open [] together ascend rise apart = tt
are_open (x ∷ later) together ascend rise apart = (
  λ t at. opens (λ z. Stands z (enclosing x later)) x later t at (together.0 t at) together.1 ascend.1 rise.0 rise.1 (apart.0 t at) (λ z there. there),
  are_open later together.1 ascend.1 rise.1 apart.1,
)
