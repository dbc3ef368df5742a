-- Which locks are held between turns that words allow: those of the turns that have begun and are still to come. So the locks of the next
-- turn and of those around it may be taken.
use Rattle.std.proofs.Common.{◌≡◌, ◌≢◌, ◌⊎◌, inl, inr, ℕ, ◌<◌, ◌≤◌, Bool, true, false, not, cond, List, [], ◌∷◌, ◌++◌, map, Option, None, Some, refl, ap, ◌∙◌, sym, subst, ⊎_elim, arith}
use Rattle.std.specs.Prelude.{IsTrue}
use Rattle.std.proofs.lemmas.Bool.{cases_lt, true≢false}
use Rattle.map_types.specs.declared.attr.Shape.{Shape}
use Rattle.map_types.specs.declared.kind.DomainId.{DomainId}
use Rattle.map_types.specs.ElementLists.{put}
use Rattle.place_words.specs.Choices.{among}
use Rattle.place_words.specs.Interleaving.{Drawn, Event, encloses, enclosing, takes, not_begun, turn_events}
use Rattle.place_words.specs.Locks.{rank_of, is_lock, lock_number, lock_named}
use Rattle.place_words.specs.declared.step.Lists.{Lists}
use Rattle.place_words.specs.declared.step.Step.TheVariants as steps
use Rattle.place_words.proofs.ElementLemmas.{at_put, put_here, put_else}
use Rattle.place_words.proofs.LockLemmas.{named_by_number}
use Rattle.core_runs.specs.Words.{Words, WordsAllow, words_after, RunsByWords}
use Rattle.core_runs.proofs.Fits.{number_apart}
use Rattle.core_runs.proofs.RaceLinks.{AreOnLocks}
use Rattle.step_check.specs.Ran.{words_over}
use Rattle.step_check.proofs.Begun.{Stands, HaveOwnTickets, Held, Made, begun_after, HasTicket, stands_around, stands_in, stands_left, stands_right, by_ticket, not_begun_stands, taken_or_begun, begun_by, itself_begun, around_begun, before_begun, holder_after}
use Rattle.step_check.proofs.PlainLinks.{on_stands}
use Rattle.race_words.proofs.Open.{IsOpen, open_more, one_open, around_each, whole_of}
use Rattle.race_words.proofs.Inner.{AreOpen}

abbrev pub IsBegun : List ℕ → Drawn → Type 0
IsBegun begun z = among begun z.entry.ticket ≡ true

-- a turn that has begun and is still to come, for which a CPU holds the lock of a number
pub record HeldFor (shape : Shape) (begun : List ℕ) (turns : List Drawn) (k c : ℕ) : Type 0 where
  pub turn : Drawn
  pub stands : Stands turn turns
  pub has : IsBegun begun turn
  pub number : lock_number shape turn.lock ≡ k
  pub cpu : turn.entry.cpu ≡ c

-- The locks that are held are those of the turns that have begun, and these are opened.
pub record Holding (shape : Shape) (w : Words) (begun : List ℕ) (turns : List Drawn) : Type 0 where
  pub held : (y : Drawn) → Stands y turns → IsBegun begun y → w.holder (lock_number shape y.lock) ≡ Some y.entry.cpu
  pub opened : (y : Drawn) → Stands y turns → IsBegun begun y → IsOpen (IsBegun begun) y turns
  pub only : (k c : ℕ) → w.holder k ≡ Some c → HeldFor shape begun turns k c

-- at first
pub holding_none : (shape : Shape) (w : Words) (turns : List Drawn) → ((k : ℕ) → w.holder k ≡ None) → Holding shape w [] turns
holding_none shape w turns none = record {
  held = λ y at has. absurd (true≢false (sym has));
  opened = λ y at has. absurd (true≢false (sym has));
  only = λ k c some. absurd (nothing (w.holder k) c (none k) some);
}
  where
    nothing : (o : Option ℕ) (c : ℕ) → o ≡ None → o ≡ Some c → ⊥
    nothing o c none some = cc

-- two locks of a map with one number are one
pub same_number : (shape : Shape) (a b : DomainId) → IsTrue (is_lock shape a) → IsTrue (is_lock shape b) → lock_number shape a ≡ lock_number shape b → a ≡ b
same_number shape a b is_a is_b same = sym (named_by_number shape a is_a) ∙ (ap (lock_named shape) same ∙ named_by_number shape b is_b)

pub holding_held : {shape : Shape} {w : Words} {begun : List ℕ} {turns : List Drawn} → AreOnLocks shape turns → Holding shape w begun turns → Held shape w begun turns
holding_held {shape} {w} {begun} {turns} on h = record {
  held = h.held;
  apart = λ y z at there has also same.
      one_open (IsBegun begun) (IsBegun begun) y z turns (h.opened y at has) (h.opened z there also) (same_number shape y.lock z.lock (on_stands shape turns on y at) (on_stands shape turns on z there) same);
}

-- Ranks

abbrev RanksRise : List Drawn → Type 0
RanksRise [] = Unit {0}
RanksRise (y ∷ ys) = ((z : Drawn) → Stands z ys → rank_of y.lock < rank_of z.lock) × RanksRise ys

ranks_last : (ys : List Drawn) (x : Drawn) → RanksRise ys → ((y : Drawn) → Stands y ys → rank_of y.lock < rank_of x.lock) → RanksRise (ys ++ x ∷ [])
ranks_last [] x rise below = (λ z none. absurd none, tt)
ranks_last (y ∷ ys) x rise below = (
  λ z at. ⊎_elim (λ (here : Stands z ys). rise.0 z here) (λ (last : Stands z (x ∷ [])). ⊎_elim (λ (same : x ≡ z). subst (λ (d : Drawn). rank_of y.lock < rank_of d.lock) same (below y (inl refl))) (λ none. absurd none) last) (stands_in z ys (x ∷ []) at),
  ranks_last ys x rise.1 (λ z at. below z (inr at)),
)

ranks_around : (x : Drawn) (later : List Drawn) → RanksRise (enclosing x later)
unfolding enclosing
ranks_around x [] = tt
ranks_around x (z ∷ later) = by (encloses z x) (ranks_around z later) (ranks_around x later)
  where
    by : (b : Bool) → RanksRise (enclosing z later) → RanksRise (enclosing x later) → RanksRise (cond b (enclosing z later ++ z ∷ []) (enclosing x later))
    by true above rest = ranks_last (enclosing z later) z above (λ y at. (around_each z later y at).lower)
    by false above rest = rest

ranks_fewer : (begun : List ℕ) (ys : List Drawn) → RanksRise ys → RanksRise (not_begun begun ys)
ranks_fewer begun [] rise = tt
ranks_fewer begun (y ∷ ys) rise = by (among begun y.entry.ticket) (ranks_fewer begun ys rise.1)
  where
    by : (b : Bool) → RanksRise (not_begun begun ys) → RanksRise (cond (not b) (y ∷ not_begun begun ys) (not_begun begun ys))
    by true rest = rest
    by false rest = (λ z at. rise.0 z (not_begun_stands begun z ys at), rest)

-- what is left has not begun
pub left_not_begun : (begun : List ℕ) (y : Drawn) (xs : List Drawn) → Stands y (not_begun begun xs) → among begun y.entry.ticket ≡ false
left_not_begun begun y [] at = absurd at
left_not_begun begun y (x ∷ xs) at = by (among begun x.entry.ticket) refl at (left_not_begun begun y xs)
  where
    by : (b : Bool) → among begun x.entry.ticket ≡ b → Stands y (cond (not b) (x ∷ not_begun begun xs) (not_begun begun xs)) → (Stands y (not_begun begun xs) → among begun y.entry.ticket ≡ false) → among begun y.entry.ticket ≡ false
    by true is there rest = rest there
    by false is (inl same) rest = subst (λ (d : Drawn). among begun d.entry.ticket ≡ false) same is
    by false is (inr there) rest = rest there

-- Locks of rising ranks, which nobody holds, above all that their CPU holds

record MayTake (shape : Shape) (w : Words) (cpu : ℕ) (t : Drawn) : Type 0 where
  cpu_is : t.entry.cpu ≡ cpu
  is : IsTrue (is_lock shape t.lock)
  nobody : w.holder (lock_number shape t.lock) ≡ None
  above : (j : ℕ) → w.holder j ≡ Some cpu → rank_of (lock_named shape j) < rank_of t.lock

runs_takes : (shape : Shape) (cpu : ℕ) → cpu < shape.cpus → (ts : List Drawn) (w : Words) → RanksRise ts → ((t : Drawn) → Stands t ts → MayTake shape w cpu t) → RunsByWords shape w (map takes ts)
unfolding RunsByWords WordsAllow words_after
runs_takes shape cpu within [] w rise may = tt
runs_takes shape cpu within (t ∷ ts) w rise may =
    let one : MayTake shape w cpu t = may t (inl refl) in (
      record {
        is_cpu = subst (λ (c : ℕ). c < shape.cpus) (sym one.cpu_is) within;
        is_lock = one.is;
        nobody = one.nobody;
        above = λ j mine. one.above j (mine ∙ ap Some one.cpu_is);
      },
      runs_takes shape cpu within ts (words_after shape w (steps.Take t.entry.cpu t.lock)) rise.1 (λ u at.
          let next : MayTake shape w cpu u = may u (inr at) in
          let higher : rank_of t.lock < rank_of u.lock = rise.0 u at in
          let apart : lock_number shape u.lock ≢ lock_number shape t.lock = number_apart shape u.lock t.lock next.is one.is (λ same. omega (arith, higher, ap rank_of same)) in
          record {
            cpu_is = next.cpu_is;
            is = next.is;
            nobody = put_else w.holder (lock_number shape t.lock) (Some t.entry.cpu) (lock_number shape u.lock) apart ∙ next.nobody;
            above = λ j. at_put w.holder (lock_number shape t.lock) (Some t.entry.cpu) (λ i h. h ≡ Some cpu → rank_of (lock_named shape i) < rank_of u.lock) j
                (λ _. subst (λ (l : DomainId). rank_of l < rank_of u.lock) (sym (named_by_number shape t.lock one.is)) higher)
                (λ _ mine. next.above j mine);
          }),
    )

-- who holds a lock then
pub record TakenFor (shape : Shape) (ts : List Drawn) (k c : ℕ) : Type 0 where
  pub turn : Drawn
  pub stands : Stands turn ts
  pub number : lock_number shape turn.lock ≡ k
  pub cpu : turn.entry.cpu ≡ c

taken_or_held : (shape : Shape) (ts : List Drawn) (w : Words) (k c : ℕ) → (words_over shape w (map takes ts)).holder k ≡ Some c → TakenFor shape ts k c ⊎ (w.holder k ≡ Some c)
unfolding words_over words_after
taken_or_held shape [] w k c is = inr is
taken_or_held shape (t ∷ ts) w k c is =
    ⊎_elim
    (λ (rest : TakenFor shape ts k c). inl (record { turn = rest.turn; stands = inr rest.stands; number = rest.number; cpu = rest.cpu }))
    (λ (then : put w.holder (lock_number shape t.lock) (Some t.entry.cpu) k ≡ Some c).
    at_put w.holder (lock_number shape t.lock) (Some t.entry.cpu) (λ j h. j ≡ k → h ≡ Some c → TakenFor shape (t ∷ ts) k c ⊎ (w.holder k ≡ Some c)) k
    (λ same mine. inl (record { turn = t; stands = inl refl; number = same; cpu = some_is t.entry.cpu c mine }))
    (λ _ same mine. inr mine)
    refl then)
    (taken_or_held shape ts (words_after shape w (steps.Take t.entry.cpu t.lock)) k c is)
  where
    some_is : (a b : ℕ) → (◌≡◌ {A = Option ℕ} (Some a) (Some b)) → a ≡ b
    some_is a b e = cc

-- Locks stay with their CPU, and so do other locks than these.
takes_stay : (shape : Shape) (cpu : ℕ) (ts : List Drawn) (w : Words) (k : ℕ) → w.holder k ≡ Some cpu → ((t : Drawn) → Stands t ts → t.entry.cpu ≡ cpu) → (words_over shape w (map takes ts)).holder k ≡ Some cpu
unfolding words_over words_after
takes_stay shape cpu [] w k is its = is
takes_stay shape cpu (t ∷ ts) w k is its =
    takes_stay shape cpu ts (words_after shape w (steps.Take t.entry.cpu t.lock)) k
    (at_put w.holder (lock_number shape t.lock) (Some t.entry.cpu) (λ j h. j ≡ k → h ≡ Some cpu) k (λ _. ap Some (its t (inl refl))) (λ _ _. is) refl)
    (λ u at. its u (inr at))

takes_give : (shape : Shape) (cpu : ℕ) (ts : List Drawn) (w : Words) (t : Drawn) → Stands t ts → ((u : Drawn) → Stands u ts → u.entry.cpu ≡ cpu) → (words_over shape w (map takes ts)).holder (lock_number shape t.lock) ≡ Some cpu
unfolding words_over words_after
takes_give shape cpu [] w t at its = absurd at
takes_give shape cpu (u ∷ ts) w t (inl same) its =
    takes_stay shape cpu ts (words_after shape w (steps.Take u.entry.cpu u.lock)) (lock_number shape t.lock)
    (subst (λ (d : Drawn). put w.holder (lock_number shape u.lock) (Some u.entry.cpu) (lock_number shape d.lock) ≡ Some cpu) same (put_here w.holder (lock_number shape u.lock) (Some u.entry.cpu) ∙ ap Some (its u (inl refl))))
    (λ v at. its v (inr at))
takes_give shape cpu (u ∷ ts) w t (inr at) its = takes_give shape cpu ts (words_after shape w (steps.Take u.entry.cpu u.lock)) t at (λ v there. its v (inr there))

takes_keep : (shape : Shape) (ts : List Drawn) (w : Words) (k : ℕ) (h : Option ℕ) → w.holder k ≡ h → ((t : Drawn) → Stands t ts → k ≢ lock_number shape t.lock) → (words_over shape w (map takes ts)).holder k ≡ h
unfolding words_over words_after
takes_keep shape [] w k h is other = is
takes_keep shape (t ∷ ts) w k h is other =
    takes_keep shape ts (words_after shape w (steps.Take t.entry.cpu t.lock)) k h (put_else w.holder (lock_number shape t.lock) (Some t.entry.cpu) k (other t (inl refl)) ∙ is) (λ u at. other u (inr at))

none_or_some : (o : Option ℕ) → ((c : ℕ) → o ≡ Some c → ⊥) → o ≡ None
none_or_some None never = refl
none_or_some (Some c) never = absurd (never c refl)

module _ {shape : Shape} {w : Words} {begun : List ℕ} {x : Drawn} {later : List Drawn} (on : AreOnLocks shape (x ∷ later)) (own : HaveOwnTickets (x ∷ later)) (opened : AreOpen (x ∷ later)) (holding : Holding shape w begun (x ∷ later)) where
  abbrev locks : List Drawn
  locks = enclosing x later ++ x ∷ []

  -- one of these is the turn, or encloses it
  lock_is : (t : Drawn) → Stands t locks → Stands t (enclosing x later) ⊎ (x ≡ t)
  lock_is t at = ⊎_elim
      (λ (above : Stands t (enclosing x later)). inl above)
      (λ (last : Stands t (x ∷ [])). ⊎_elim (λ (same : x ≡ t). inr same) (λ none. absurd none) last)
      (stands_in t (enclosing x later) (x ∷ []) at)

  lock_stands : (t : Drawn) → Stands t locks → Stands t (x ∷ later)
  lock_stands t at = ⊎_elim (λ (above : Stands t (enclosing x later)). inr (stands_around x t later above)) (λ (same : x ≡ t). inl same) (lock_is t at)

  -- its lock isn't that of a turn that has begun
  pub free_of : (t : Drawn) → Stands t locks → among begun t.entry.ticket ≡ false → (y : Drawn) → Stands y (x ∷ later) → IsBegun begun y → y.lock ≢ t.lock
  free_of t at fresh y there has same = by (holding.opened y there has) (lock_is t at)
    where
      begun_too : y ≡ t → ⊥
      begun_too is = true≢false (sym (subst (λ (d : Drawn). IsBegun begun d) is has) ∙ fresh)

      by : IsOpen (IsBegun begun) y (x ∷ later) → Stands t (enclosing x later) ⊎ (x ≡ t) → ⊥
      by (inl here) (inl above) = omega (arith, (around_each x later t above).lower, ap (λ (d : Drawn). rank_of d.lock) here.0, ap rank_of same)
      by (inl here) (inr is) = begun_too (sym here.0 ∙ is)
      by (inr waits) (inl above) = begun_too (one_open (IsBegun begun) (λ z. Stands z (enclosing x later)) y t later waits.2 (opened.0 t above) same)
      by (inr waits) (inr is) = waits.0 (ap (λ (d : Drawn). d.lock) is ∙ sym same)

  -- its rank is above those of the locks that the CPU holds
  above_all : (t : Drawn) → Stands t locks → among begun t.entry.ticket ≡ false → (y : Drawn) → Stands y (x ∷ later) → IsBegun begun y → y.entry.cpu ≡ x.entry.cpu → rank_of y.lock < rank_of t.lock
  above_all t at fresh y there has cpu = by (holding.opened y there has) (lock_is t at)
    where
      begun_too : {A : Type 0} → IsBegun begun t → A
      begun_too is = absurd (true≢false (sym is ∙ fresh))

      by : IsOpen (IsBegun begun) y (x ∷ later) → Stands t (enclosing x later) ⊎ (x ≡ t) → rank_of y.lock < rank_of t.lock
      by (inl here) (inl above) = begun_too (here.1 t above)
      by (inl here) (inr is) = begun_too (subst (λ (d : Drawn). IsBegun begun d) (sym here.0 ∙ is) has)
      by (inr waits) (inl above) = ⊎_elim
          (λ (less : rank_of y.lock < rank_of t.lock). less)
          (λ (low : rank_of t.lock ≤ rank_of y.lock). ⊎_elim
          (λ (same : y ≡ t). begun_too (subst (λ (d : Drawn). IsBegun begun d) same has))
          (λ (done : IsBegun begun t). begun_too done)
          (whole_of (IsBegun begun) x later y t own.1 (waits.1 (sym cpu)) above waits.2 low))
          (cases_lt (rank_of y.lock) (rank_of t.lock))
      by (inr waits) (inr is) = subst (λ (d : Drawn). rank_of y.lock < rank_of d.lock) is (around_each x later y (waits.1 (sym cpu))).lower

  -- The locks of a turn and of those around it may be taken, as far as they haven't been.
  pub takes_run : x.entry.cpu < shape.cpus → RunsByWords shape w (map takes (not_begun begun locks))
  takes_run within =
      runs_takes shape x.entry.cpu within (not_begun begun locks) w
      (ranks_fewer begun locks (ranks_last (enclosing x later) x (ranks_around x later) (λ y at. (around_each x later y at).lower)))
      (λ t at.
      let there : Stands t locks = not_begun_stands begun t locks at in
      let fresh : among begun t.entry.ticket ≡ false = left_not_begun begun t locks at in
      let here : IsTrue (is_lock shape t.lock) = on_stands shape (x ∷ later) on t (lock_stands t there) in
      record {
        cpu_is = ⊎_elim (λ (above : Stands t (enclosing x later)). (around_each x later t above).cpu) (λ (same : x ≡ t). ap (λ (d : Drawn). d.entry.cpu) (sym same)) (lock_is t there);
        is = here;
        nobody = none_or_some (w.holder (lock_number shape t.lock)) (λ c is.
            let for : HeldFor shape begun (x ∷ later) (lock_number shape t.lock) c = holding.only (lock_number shape t.lock) c is in
            free_of t there fresh for.turn for.stands for.has (same_number shape for.turn.lock t.lock (on_stands shape (x ∷ later) on for.turn for.stands) here for.number));
        above = λ j mine.
            let for : HeldFor shape begun (x ∷ later) j x.entry.cpu = holding.only j x.entry.cpu mine in
            subst (λ (l : DomainId). rank_of l < rank_of t.lock)
            (sym (ap (lock_named shape) (sym for.number) ∙ named_by_number shape for.turn.lock (on_stands shape (x ∷ later) on for.turn for.stands)))
            (above_all t there fresh for.turn for.stands for.has for.cpu);
      })

  -- who holds which lock then
  abbrev after_takes : Words
  after_takes = words_over shape w (map takes (not_begun begun locks))

  lock_cpu : (t : Drawn) → Stands t locks → t.entry.cpu ≡ x.entry.cpu
  lock_cpu t at = ⊎_elim (λ (above : Stands t (enclosing x later)). (around_each x later t above).cpu) (λ (same : x ≡ t). ap (λ (d : Drawn). d.entry.cpu) (sym same)) (lock_is t at)

  taken_cpu : (t : Drawn) → Stands t (not_begun begun locks) → t.entry.cpu ≡ x.entry.cpu
  taken_cpu t at = lock_cpu t (not_begun_stands begun t locks at)

  pub lock_held : (t : Drawn) → Stands t locks → after_takes.holder (lock_number shape t.lock) ≡ Some x.entry.cpu
  lock_held t at = ⊎_elim
      (λ (has : IsBegun begun t). takes_stay shape x.entry.cpu (not_begun begun locks) w (lock_number shape t.lock) (holding.held t (lock_stands t at) has ∙ ap Some (lock_cpu t at)) taken_cpu)
      (λ (new : Stands t (not_begun begun locks)). takes_give shape x.entry.cpu (not_begun begun locks) w t new taken_cpu)
      (taken_or_begun begun t locks at)

  other_held : (y : Drawn) → Stands y (x ∷ later) → IsBegun begun y → after_takes.holder (lock_number shape y.lock) ≡ Some y.entry.cpu
  other_held y at has =
      takes_keep shape (not_begun begun locks) w (lock_number shape y.lock) (Some y.entry.cpu) (holding.held y at has)
      (λ t there same.
      let mine : Stands t locks = not_begun_stands begun t locks there in
      free_of t mine (left_not_begun begun t locks there) y at has
      (same_number shape y.lock t.lock (on_stands shape (x ∷ later) on y at) (on_stands shape (x ∷ later) on t (lock_stands t mine)) same))

  -- Once the locks are taken each turn that has begun is this one, or opened behind it on another lock.
  abbrev Behind : Drawn → Type 0
  Behind y = (x ≡ y) ⊎ ((x.lock ≢ y.lock) × IsOpen (IsBegun (begun_after x later begun)) y later)

  around_behind : (t : Drawn) → Stands t (enclosing x later) → (x.lock ≢ t.lock) × IsOpen (IsBegun (begun_after x later begun)) t later
  around_behind t above = (
    λ same. omega (arith, (around_each x later t above).lower, ap rank_of same),
    open_more (λ z. Stands z (enclosing x later)) (IsBegun (begun_after x later begun)) (λ z there. around_begun x later begun z there) t later (opened.0 t above),
  )

  begun_is : (y : Drawn) → Stands y (x ∷ later) → IsBegun (begun_after x later begun) y → (Stands y locks ⊎ IsBegun begun y) × Behind y
  begun_is y at has = ⊎_elim
      (λ (its : x.entry.ticket ≡ y.entry.ticket).
      let it : x ≡ y = by_ticket (x ∷ later) x y own (inl refl) at its in
      (inl (stands_right y (enclosing x later) (x ∷ []) (inl it)), inl it))
      (λ (rest : HasTicket (enclosing x later) y.entry.ticket ⊎ (among begun y.entry.ticket ≡ true)). ⊎_elim
      (λ (above : HasTicket (enclosing x later) y.entry.ticket).
      let it : above.turn ≡ y = by_ticket (x ∷ later) above.turn y own (inr (stands_around x above.turn later above.stands)) at above.is in
      let there : Stands y (enclosing x later) = subst (λ (d : Drawn). Stands d (enclosing x later)) it above.stands in
      (inl (stands_left y (enclosing x later) (x ∷ []) there), inr (around_behind y there)))
      (λ (before : IsBegun begun y). (inr before, by y (holding.opened y at before)))
      rest)
      (begun_by x later begun y.entry.ticket has)
    where
      by : (y : Drawn) → IsOpen (IsBegun begun) y (x ∷ later) → Behind y
      by y (inl here) = inl here.0
      by y (inr waits) = inr (waits.0, open_more (IsBegun begun) (IsBegun (begun_after x later begun)) (λ z its. before_begun x later begun z.entry.ticket its) y later waits.2)

  one_behind : (y z : Drawn) → Behind y → Behind z → y.lock ≡ z.lock → y ≡ z
  one_behind y z (inl one) (inl two) same = sym one ∙ two
  one_behind y z (inl one) (inr two) same = absurd (two.0 (ap (λ (d : Drawn). d.lock) one ∙ same))
  one_behind y z (inr one) (inl two) same = absurd (one.0 (ap (λ (d : Drawn). d.lock) two ∙ sym same))
  one_behind y z (inr one) (inr two) same = one_open (IsBegun (begun_after x later begun)) (IsBegun (begun_after x later begun)) y z later one.1 two.1 same

  -- What is known of the words of its block, whatever lists it gives back.
  pub made_here : (lists : Lists) → Made shape w lists x later begun []
  unfolding RunsByWords
  made_here lists = record {
    taken = after_takes;
    taken_is = refl;
    now = words_over shape w (turn_events shape (enclosing x later) begun lists x);
    now_is = refl;
    at_its_place = at_place;
    after_it = record {
      held = λ y at has.
          ap (λ (f : ℕ → Option ℕ). f (lock_number shape y.lock)) (holder_after shape (enclosing x later) begun lists x w)
          ∙ put_else after_takes.holder (lock_number shape x.lock) None (lock_number shape y.lock)
          (λ same. own.0 y at (ap (λ (d : Drawn). d.entry.ticket) (at_place.apart y x (inr at) (inl refl) has (itself_begun x later begun) same)))
          ∙ at_place.held y (inr at) has;
      apart = λ y z at there has also same. at_place.apart y z (inr at) (inr there) has also same;
    };
    given = ap (λ (f : ℕ → Option ℕ). f (lock_number shape x.lock)) (holder_after shape (enclosing x later) begun lists x w) ∙ put_here after_takes.holder (lock_number shape x.lock) None;
    goes_on = tt;
  }
    where
      at_place : Held shape after_takes (begun_after x later begun) (x ∷ later)
      at_place = record {
        held = λ y at has. ⊎_elim
            (λ (mine : Stands y locks). lock_held y mine ∙ ap Some (sym (lock_cpu y mine)))
            (λ (before : IsBegun begun y). other_held y at before)
            (begun_is y at has).0;
        apart = λ y z at there has also same.
            one_behind y z (begun_is y at has).1 (begun_is z there also).1
            (same_number shape y.lock z.lock (on_stands shape (x ∷ later) on y at) (on_stands shape (x ∷ later) on z there) same);
      }

  -- After its block the locks that are held are again those of turns that have begun.
  pub holding_after : {lists : Lists} {more : List Event} (made : Made shape w lists x later begun more) → Holding shape made.now (begun_after x later begun) later
  holding_after {lists} made = record {
    held = λ y at has. made.after_it.held y at has;
    opened = λ y at has. still_open y at (begun_is y (inr at) has).1;
    only = λ k c is. left k c (sym (ap (λ (f : ℕ → Option ℕ). f k) (ap (λ (v : Words). v.holder) made.now_is ∙ holder_after shape (enclosing x later) begun lists x w)) ∙ is);
  }
    where
      still_open : (y : Drawn) → Stands y later → Behind y → IsOpen (IsBegun (begun_after x later begun)) y later
      still_open y at (inl same) = absurd (own.0 y at (ap (λ (d : Drawn). d.entry.ticket) (sym same)))
      still_open y at (inr waits) = waits.1

      none_some : {A : Type 0} (c : ℕ) → (◌≡◌ {A = Option ℕ} None (Some c)) → A
      none_some c e = absurd cc

      -- it isn't the turn itself
      not_it : (k : ℕ) (y : Drawn) → k ≢ lock_number shape x.lock → lock_number shape y.lock ≡ k → x ≡ y → ⊥
      not_it k y other number same = other (sym number ∙ ap (λ (d : Drawn). lock_number shape d.lock) (sym same))

      still : (k c : ℕ) → k ≢ lock_number shape x.lock → TakenFor shape (not_begun begun locks) k c ⊎ (w.holder k ≡ Some c) → HeldFor shape (begun_after x later begun) later k c
      still k c other (inl taken) =
          ⊎_elim
          (λ (above : Stands taken.turn (enclosing x later)).
          record { turn = taken.turn; stands = stands_around x taken.turn later above; has = around_begun x later begun taken.turn above; number = taken.number; cpu = taken.cpu })
          (λ (same : x ≡ taken.turn). absurd (not_it k taken.turn other taken.number same))
          (lock_is taken.turn (not_begun_stands begun taken.turn locks taken.stands))
      still k c other (inr is) =
          let for : HeldFor shape begun (x ∷ later) k c = holding.only k c is in
          ⊎_elim
          (λ (same : x ≡ for.turn). absurd (not_it k for.turn other for.number same))
          (λ (there : Stands for.turn later). record { turn = for.turn; stands = there; has = before_begun x later begun for.turn.entry.ticket for.has; number = for.number; cpu = for.cpu })
          for.stands

      left : (k c : ℕ) → put after_takes.holder (lock_number shape x.lock) None k ≡ Some c → HeldFor shape (begun_after x later begun) later k c
      left k c = at_put after_takes.holder (lock_number shape x.lock) None (λ j h. h ≡ Some c → HeldFor shape (begun_after x later begun) later j c) k
          (λ is. none_some c is)
          (λ other is. still k c other (taken_or_held shape (not_begun begun locks) w k c is))
