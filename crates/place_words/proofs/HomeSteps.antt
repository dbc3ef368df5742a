-- The step that moves an element from one lock's lists to another's keeps the places.
use Rattle.std.proofs.Common.{◌≡◌, ◌≢◌, ℕ, suc, ◌+◌, ◌<◌, Bool, true, false, ◌&&◌, cond, ltb, refl, ap, ◌∙◌, sym, subst, ⊎_elim, arith}
use Rattle.std.specs.Prelude.{IsTrue}
use Rattle.std.proofs.lemmas.Bool.{cases_eq, and_right}
use Rattle.map_types.specs.declared.attr.Shape.{Shape}
use Rattle.map_types.specs.declared.kind.DomainId.{DomainId}
use Rattle.map_types.specs.declared.kind.DomainId.TheVariants.{Local, Global, CpuLru, Bucket, Freelist}
use Rattle.map_types.specs.Kind.{is_lru}
use Rattle.map_types.specs.Shape.{HasBounds}
use Rattle.place_words.specs.declared.owner.Owner.{Owner}
use Rattle.place_words.specs.declared.owner.Owner.TheVariants as owners
use Rattle.place_words.specs.declared.home.Home.{Home}
use Rattle.place_words.specs.declared.home.Home.TheVariants as homes
use Rattle.place_words.specs.Locks.{is_lock, lock_number, lock_named}
use Rattle.place_words.proofs.LockLemmas.{named_by_number, number_of_named}
use Rattle.place_words.specs.declared.step.Lists.{Lists}
use Rattle.map_types.specs.ElementLists.{put, one, times}
use Rattle.place_words.specs.Openings.{is_free}
use Rattle.place_words.specs.State.{State, rows, is_bucket, HasOnlyItsLists, HasCursorInside}
use Rattle.place_words.specs.Places.{ElementPlace, under_lock, carried, lies_at, has_row, home_of_place, MayLie, MayLieUnder, FreePlaced, RowsPlaced, ListsFit, CursorsInside, HomesTold, PlacedAt, Placed}
use Rattle.place_words.specs.Steps.{left_by, joined_by, after_leaving, MayLeave, MayEnter, CanRehome, rehomed}
use Rattle.place_words.proofs.ElementLemmas.{at_put, put_here, put_else, times_cons_same, times_cons_other, times_without_same, times_without_other}
use Rattle.place_words.proofs.FrameLemmas.{counted, MovesAt, DiffersAt, differs_put, differs_not, all_but_one, free_moved, rows_moved, fit_put, cursors_put}
use Rattle.place_words.proofs.RowLemmas.{at_most_one, lies_here, lies_elsewhere, rows_with_row_other, is_listing, rows_with_row_same, free_with_row, rows_without_row_other, rows_without_row_same, no_row_free, no_row_away, row_of_lying, lock_listing, fit_with_row, fit_with_free, fit_without_free, fit_without_row, cursor_with_row, cursor_without_row}
use Rattle.place_words.proofs.OwnerSteps.{no_bucket_under}

-- What is right of lists, owners and places while an element is on its way.
pub record Counted (shape : Shape) (lists : ℕ → Lists) (owner : ℕ → Owner) (place : ℕ → ElementPlace) : Type 0 where
  pub free : FreePlaced shape lists owner place
  pub rows : RowsPlaced shape lists owner place
  pub fit : ListsFit shape lists
  pub cursors : CursorsInside lists

free_count : (shape : Shape) (lists : ℕ → Lists) (owner : ℕ → Owner) (place : ℕ → ElementPlace) (j e : ℕ) → e < shape.elements → FreePlaced shape lists owner place → times e (lists j).free ≡ one (is_free (owner e) && lies_at j (place e))
free_count shape lists owner place j e real free = free j e ∙ counted shape.elements e _ real

row_count : (shape : Shape) (lists : ℕ → Lists) (owner : ℕ → Owner) (place : ℕ → ElementPlace) (j e : ℕ) → e < shape.elements → RowsPlaced shape lists owner place → times e (rows (lists j)) ≡ one (has_row (is_lru shape.kind) (lock_named shape j) (owner e) (lies_at j (place e)))
row_count shape lists owner place j e real rows = rows j e ∙ counted shape.elements e _ real

-- the lists under a lock whose element e leaves or comes
fit_left : (lock : DomainId) (o : Owner) (e : ℕ) (l : Lists) → HasOnlyItsLists lock l → HasOnlyItsLists lock (left_by o e l)
fit_left lock owners.Free e l fit = fit_without_free lock e l fit
fit_left lock (owners.Bucket bucket) e l fit = fit_without_row lock e l fit
fit_left lock (owners.Hand cpu) e l fit = fit_without_row lock e l fit

cursor_left : (o : Owner) (e : ℕ) (l : Lists) → HasCursorInside l → HasCursorInside (left_by o e l)
cursor_left owners.Free e l inside = inside
cursor_left (owners.Bucket bucket) e l inside = cursor_without_row e l inside
cursor_left (owners.Hand cpu) e l inside = cursor_without_row e l inside

fit_joined : (lock : DomainId) (o : Owner) (e : ℕ) (l : Lists) → is_bucket lock ≡ false → HasOnlyItsLists lock l → HasOnlyItsLists lock (joined_by lock o e l)
fit_joined lock owners.Free e l no_bucket fit = fit_with_free lock e l no_bucket fit
fit_joined lock (owners.Bucket bucket) e l no_bucket fit = fit_with_row lock e l fit
fit_joined lock (owners.Hand cpu) e l no_bucket fit = fit_with_row lock e l fit

cursor_joined : (lock : DomainId) (o : Owner) (e : ℕ) (l : Lists) → HasCursorInside l → HasCursorInside (joined_by lock o e l)
cursor_joined lock owners.Free e l inside = inside
cursor_joined lock (owners.Bucket bucket) e l inside = cursor_with_row lock e l inside
cursor_joined lock (owners.Hand cpu) e l inside = cursor_with_row lock e l inside

others_left_free : (o : Owner) (x e : ℕ) (l : Lists) → x ≢ e → times x (left_by o e l).free ≡ times x l.free
others_left_free owners.Free x e l other = times_without_other x e l.free other
others_left_free (owners.Bucket bucket) x e l other = refl
others_left_free (owners.Hand cpu) x e l other = refl

others_left_rows : (o : Owner) (x e : ℕ) (l : Lists) → x ≢ e → times x (rows (left_by o e l)) ≡ times x (rows l)
others_left_rows owners.Free x e l other = refl
others_left_rows (owners.Bucket bucket) x e l other = rows_without_row_other x e l other
others_left_rows (owners.Hand cpu) x e l other = rows_without_row_other x e l other

others_joined_free : (lock : DomainId) (o : Owner) (x e : ℕ) (l : Lists) → x ≢ e → times x (joined_by lock o e l).free ≡ times x l.free
others_joined_free lock owners.Free x e l other = times_cons_other x e l.free other
others_joined_free lock (owners.Bucket bucket) x e l other = ap (times x) (free_with_row lock e l)
others_joined_free lock (owners.Hand cpu) x e l other = ap (times x) (free_with_row lock e l)

others_joined_rows : (lock : DomainId) (o : Owner) (x e : ℕ) (l : Lists) → x ≢ e → times x (rows (joined_by lock o e l)) ≡ times x (rows l)
others_joined_rows lock owners.Free x e l other = refl
others_joined_rows lock (owners.Bucket bucket) x e l other = rows_with_row_other lock x e l other
others_joined_rows lock (owners.Hand cpu) x e l other = rows_with_row_other lock x e l other

-- an element that leaves stands in none of the lock's lists
left_free : (o : Owner) (e k : ℕ) (p : ElementPlace) (l : Lists) → times e l.free ≡ one (is_free o && lies_at k p) → times e (left_by o e l).free ≡ 0
left_free owners.Free e k p l was = let few = at_most_one (lies_at k p) in let less = times_without_same e l.free in omega arith
left_free (owners.Bucket bucket) e k p l was = was
left_free (owners.Hand cpu) e k p l was = was

left_rows : (lru : Bool) (lock : DomainId) (o : Owner) (here : Bool) (e : ℕ) (l : Lists) → times e (rows l) ≡ one (has_row lru lock o here) → times e (rows (left_by o e l)) ≡ 0
left_rows lru lock owners.Free here e l was = was ∙ ap one (no_row_free lru lock here)
left_rows lru lock (owners.Bucket bucket) here e l was = let few = at_most_one (has_row lru lock (owners.Bucket bucket) here) in rows_without_row_same e l (omega arith)
left_rows lru lock (owners.Hand cpu) here e l was = let few = at_most_one (has_row lru lock (owners.Hand cpu) here) in rows_without_row_same e l (omega arith)

-- and one that comes stands in one of them
joined_free : (lock : DomainId) (o : Owner) (e k : ℕ) (l : Lists) → times e l.free ≡ 0 → times e (joined_by lock o e l).free ≡ one (is_free o && lies_at k (under_lock k))
joined_free lock owners.Free e k l none = times_cons_same e l.free ∙ (ap suc none ∙ ap one (sym (lies_here k)))
joined_free lock (owners.Bucket bucket) e k l none = ap (times e) (free_with_row lock e l) ∙ none
joined_free lock (owners.Hand cpu) e k l none = ap (times e) (free_with_row lock e l) ∙ none

joined_rows : (lru : Bool) (lock : DomainId) (o : Owner) (e : ℕ) (l : Lists) → is_bucket lock ≡ false → lru ≡ is_listing lock → times e (rows l) ≡ 0 → times e (rows (joined_by lock o e l)) ≡ one (has_row lru lock o true)
joined_rows lru lock owners.Free e l no_bucket listing none = none ∙ ap one (sym (no_row_free lru lock true))
joined_rows lru lock (owners.Bucket bucket) e l no_bucket listing none =
    rows_with_row_same lock e l no_bucket ∙ (ap (λ (n : ℕ). n + one (is_listing lock)) none ∙ (omega arith ∙ ap one (sym (row_of_lying lru lock (owners.Bucket bucket) no_bucket refl listing))))
joined_rows lru lock (owners.Hand cpu) e l no_bucket listing none =
    rows_with_row_same lock e l no_bucket ∙ (ap (λ (n : ℕ). n + one (is_listing lock)) none ∙ (omega arith ∙ ap one (sym (row_of_lying lru lock (owners.Hand cpu) no_bucket refl listing))))

module _ (shape : Shape) (lists : ℕ → Lists) (owner : ℕ → Owner) (place : ℕ → ElementPlace) (bounds : HasBounds shape) (e : ℕ) (real : e < shape.elements) (at_first : Counted shape lists owner place) where
  -- It leaves the lists of the lock under which it lies.
  pub leaves : (lock : DomainId) (cpu : ℕ) → IsTrue (is_lock shape lock) → is_bucket lock ≡ false → place e ≡ under_lock (lock_number shape lock)
      → Counted shape (put lists (lock_number shape lock) (left_by (owner e) e (lists (lock_number shape lock)))) owner (put place e (carried cpu))
  leaves lock cpu is no_bucket lay =
      let named = named_by_number shape lock is in
      let moves : MovesAt shape lists owner place (lock_number shape lock) e (left_by (owner e) e (lists (lock_number shape lock))) (owner e) (carried cpu) = record {
        others_free = λ x other. others_left_free (owner e) x e (lists (lock_number shape lock)) other;
        others_rows = λ x other. others_left_rows (owner e) x e (lists (lock_number shape lock)) other;
        free_here = left_free (owner e) e (lock_number shape lock) (place e) (lists (lock_number shape lock)) (free_count shape lists owner place (lock_number shape lock) e real at_first.free) ∙ ap one (sym (and_right (is_free (owner e)) false refl));
        row_here = left_rows (is_lru shape.kind) (lock_named shape (lock_number shape lock)) (owner e) _ e (lists (lock_number shape lock)) (row_count shape lists owner place (lock_number shape lock) e real at_first.rows) ∙ ap one (sym (ap (λ (d : DomainId). has_row (is_lru shape.kind) d (owner e) false) named ∙ no_row_away (is_lru shape.kind) lock (owner e) no_bucket));
        free_else = λ j apart. ap (λ b. is_free (owner e) && b) (sym (ap (lies_at j) lay ∙ lies_elsewhere j (lock_number shape lock) apart));
        row_else = λ j apart. ap (has_row (is_lru shape.kind) (lock_named shape j) (owner e)) (sym (ap (lies_at j) lay ∙ lies_elsewhere j (lock_number shape lock) apart));
      } in
      record {
        free = free_moved shape lists owner owner place (put place e (carried cpu)) (lock_number shape lock) e _ (owner e) (carried cpu) real moves (differs_not owner e) (differs_put place e (carried cpu)) at_first.free;
        rows = rows_moved shape lists owner owner place (put place e (carried cpu)) (lock_number shape lock) e _ (owner e) (carried cpu) real moves (differs_not owner e) (differs_put place e (carried cpu)) at_first.rows;
        fit = fit_put shape lists (lock_number shape lock) _ (subst (λ (d : DomainId). HasOnlyItsLists d (left_by (owner e) e (lists (lock_number shape lock)))) (sym named) (fit_left lock (owner e) e _ (subst (λ (d : DomainId). HasOnlyItsLists d (lists (lock_number shape lock))) named (at_first.fit (lock_number shape lock))))) at_first.fit;
        cursors = cursors_put lists (lock_number shape lock) _ (cursor_left (owner e) e _ (at_first.cursors (lock_number shape lock))) at_first.cursors;
      }

  -- It comes, from a hand that carries it, to the lists of a lock.
  pub joins : (lock : DomainId) (cpu : ℕ) (place' : ℕ → ElementPlace) → IsTrue (is_lock shape lock) → is_bucket lock ≡ false → place e ≡ carried cpu → DiffersAt place place' e (under_lock (lock_number shape lock))
      → Counted shape (put lists (lock_number shape lock) (joined_by lock (owner e) e (lists (lock_number shape lock)))) owner place'
  joins lock cpu place' is no_bucket away differs =
      let named = named_by_number shape lock is in
      let no_free : times e (lists (lock_number shape lock)).free ≡ 0 = free_count shape lists owner place (lock_number shape lock) e real at_first.free ∙ ap one (ap (λ (p : ElementPlace). is_free (owner e) && lies_at (lock_number shape lock) p) away ∙ and_right (is_free (owner e)) false refl) in
      let no_row : times e (rows (lists (lock_number shape lock))) ≡ 0 = row_count shape lists owner place (lock_number shape lock) e real at_first.rows ∙ ap one ((λ i. has_row (is_lru shape.kind) (named i) (owner e) (lies_at (lock_number shape lock) (away i))) ∙ no_row_away (is_lru shape.kind) lock (owner e) no_bucket) in
      let moves : MovesAt shape lists owner place (lock_number shape lock) e (joined_by lock (owner e) e (lists (lock_number shape lock))) (owner e) (under_lock (lock_number shape lock)) = record {
        others_free = λ x other. others_joined_free lock (owner e) x e (lists (lock_number shape lock)) other;
        others_rows = λ x other. others_joined_rows lock (owner e) x e (lists (lock_number shape lock)) other;
        free_here = joined_free lock (owner e) e (lock_number shape lock) (lists (lock_number shape lock)) no_free;
        row_here = joined_rows (is_lru shape.kind) lock (owner e) e (lists (lock_number shape lock)) no_bucket (lock_listing shape lock bounds is no_bucket) no_row ∙ ap one (sym (λ i. has_row (is_lru shape.kind) (named i) (owner e) (lies_here (lock_number shape lock) i)));
        free_else = λ j apart. ap (λ b. is_free (owner e) && b) (lies_elsewhere j (lock_number shape lock) apart ∙ sym (ap (lies_at j) away));
        row_else = λ j apart. ap (has_row (is_lru shape.kind) (lock_named shape j) (owner e)) (lies_elsewhere j (lock_number shape lock) apart ∙ sym (ap (lies_at j) away));
      } in
      record {
        free = free_moved shape lists owner owner place place' (lock_number shape lock) e _ (owner e) (under_lock (lock_number shape lock)) real moves (differs_not owner e) differs at_first.free;
        rows = rows_moved shape lists owner owner place place' (lock_number shape lock) e _ (owner e) (under_lock (lock_number shape lock)) real moves (differs_not owner e) differs at_first.rows;
        fit = fit_put shape lists (lock_number shape lock) _ (subst (λ (d : DomainId). HasOnlyItsLists d (joined_by lock (owner e) e (lists (lock_number shape lock)))) (sym named) (fit_joined lock (owner e) e _ no_bucket (subst (λ (d : DomainId). HasOnlyItsLists d (lists (lock_number shape lock))) named (at_first.fit (lock_number shape lock))))) at_first.fit;
        cursors = cursors_put lists (lock_number shape lock) _ (cursor_joined lock (owner e) e _ (at_first.cursors (lock_number shape lock))) at_first.cursors;
      }

-- places that are alike
counted_along : (shape : Shape) (lists : ℕ → Lists) (owner : ℕ → Owner) (place place' : ℕ → ElementPlace) → ((x : ℕ) → place' x ≡ place x) → Counted shape lists owner place → Counted shape lists owner place'
counted_along shape lists owner place place' same at_first = record {
  free = λ k x. at_first.free k x ∙ ap (λ (p : ElementPlace). one (ltb x shape.elements && (is_free (owner x) && lies_at k p))) (sym (same x));
  rows = λ k x. at_first.rows k x ∙ ap (λ (p : ElementPlace). one (ltb x shape.elements && has_row (is_lru shape.kind) (lock_named shape k) (owner x) (lies_at k p))) (sym (same x));
  fit = at_first.fit;
  cursors = at_first.cursors;
}

module _ (shape : Shape) (s : State) (place : ℕ → ElementPlace) (bounds : HasBounds shape) (placed : PlacedAt shape s.lists s.owner s.home place) where
  module _ (cpu e : ℕ) (to : Home) (can : CanRehome shape s cpu e to) where
    evicts : is_lru shape.kind ≡ true
    evicts = bounds.common_evicts can.common

    counted_now : Counted shape s.lists s.owner place
    counted_now = record { free = placed.free; rows = placed.rows; fit = placed.fit; cursors = placed.cursors }

    -- the place by the home
    home_lies : (lock : DomainId) (p : ElementPlace) → homes.In lock ≡ home_of_place shape p → MayLie shape e (s.owner e) p → IsTrue (is_lock shape lock) → (p ≡ under_lock (lock_number shape lock)) × (is_bucket lock ≡ false)
    home_lies lock (under_lock j) told may is =
        let at_j : homes.In lock ≡ homes.In (lock_named shape j) = told ∙ ap (λ b. cond b (homes.In (lock_named shape j)) homes.Unlisted) evicts in
        let same : lock ≡ lock_named shape j = cc in
        (ap under_lock (sym (ap (lock_number shape) same ∙ number_of_named shape j)), no_bucket_under shape e lock (subst (MayLieUnder shape e) (sym same) may))
    home_lies lock (carried c) told may is =
        let clash : homes.In lock ≡ homes.Hand c = told ∙ ap (λ b. cond b (homes.Hand c) homes.Unlisted) evicts in absurd cc

    home_carried : (c : ℕ) (p : ElementPlace) → homes.Hand c ≡ home_of_place shape p → p ≡ carried c
    home_carried c (under_lock j) told =
        let clash : homes.Hand c ≡ homes.In (lock_named shape j) = told ∙ ap (λ b. cond b (homes.In (lock_named shape j)) homes.Unlisted) evicts in absurd cc
    home_carried c (carried d) told =
        let same : homes.Hand c ≡ homes.Hand d = told ∙ ap (λ b. cond b (homes.Hand d) homes.Unlisted) evicts in ap carried (sym cc)

    -- it is on its way, carried by the CPU
    left : (home : Home) → home ≡ home_of_place shape (place e) → MayLeave shape s cpu home → Counted shape (after_leaving shape home (s.owner e) e s.lists) s.owner (put place e (carried cpu))
    left homes.Unlisted told may = absurd may
    left (homes.In lock) told may =
        let lay = home_lies lock (place e) told (placed.places e can.real) may.is_lock in
        leaves shape s.lists s.owner place bounds e can.real counted_now lock cpu may.is_lock lay.1 lay.0
    left (homes.Hand c) told may =
        let away : place e ≡ carried cpu = home_carried c (place e) told ∙ ap carried may in
        counted_along shape s.lists s.owner place (put place e (carried cpu)) (λ x. same x) counted_now
      where
        same : (x : ℕ) → put place e (carried cpu) x ≡ place x
        same x = at_put place e (carried cpu) (λ j p. p ≡ place j) x (sym (home_carried c (place e) told ∙ ap carried may)) (λ _. refl)

    told_both : (p : ElementPlace) (home : Home) → home ≡ home_of_place shape p → HomesTold shape (put s.home e home) (put place e p)
    told_both p home told j r =
        ⊎_elim
        (λ (is : j ≡ e). ap (put s.home e home) is ∙ (put_here s.home e home ∙ (told ∙ sym (ap (home_of_place shape) (ap (put place e p) is ∙ put_here place e p)))))
        (λ (other : j ≡ e → ⊥). put_else s.home e home j other ∙ (placed.homes j r ∙ sym (ap (home_of_place shape) (put_else place e p j other))))
        (cases_eq j e)

    on_the_way : Counted shape (after_leaving shape (s.home e) (s.owner e) e s.lists) s.owner (put place e (carried cpu))
    on_the_way = left (s.home e) (placed.homes e can.real) can.from_there

    come_to : (lock : DomainId) → IsTrue (is_lock shape lock) → is_bucket lock ≡ false → MayLieUnder shape e lock → Placed shape (rehomed shape s e (homes.In lock))
    come_to lock is no_bucket may =
        let k = lock_number shape lock in
        let named = named_by_number shape lock is in
        let differs : DiffersAt (put place e (carried cpu)) (put place e (under_lock k)) e (under_lock k) =
        record { here = put_here place e (under_lock k); else_same = λ j other. put_else place e (under_lock k) j other ∙ sym (put_else place e (carried cpu) j other) } in
        let now = joins shape (after_leaving shape (s.home e) (s.owner e) e s.lists) s.owner (put place e (carried cpu)) bounds e can.real on_the_way lock cpu (put place e (under_lock k)) is no_bucket (put_here place e (carried cpu)) differs in
        record {
          place = put place e (under_lock k);
          placed = record {
            free = now.free;
            rows = now.rows;
            owners = placed.owners;
            places = all_but_one shape.elements place (put place e (under_lock k)) e (under_lock k) (λ j p. MayLie shape j (s.owner j) p) (differs_put place e (under_lock k)) (λ _. subst (MayLieUnder shape e) (sym named) may) placed.places;
            homes = told_both (under_lock k) (homes.In lock) (sym (ap (λ b. cond b (homes.In (lock_named shape k)) homes.Unlisted) evicts ∙ ap homes.In named));
            fit = now.fit;
            cursors = now.cursors;
          };
        }

    come : (target : Home) → MayEnter shape s cpu (s.owner e) target → Placed shape (rehomed shape s e target)
    come homes.Unlisted may = absurd may
    come (homes.In (Local c)) may = come_to (Local c) may.0.is_lock refl may.0.is_lock
    come (homes.In Global) may = come_to Global may.is_lock refl may.is_lock
    come (homes.In (CpuLru c)) may = absurd may
    come (homes.In (Bucket bucket)) may = absurd may
    come (homes.In (Freelist c)) may = absurd may
    come (homes.Hand c) may = record {
      place = put place e (carried cpu);
      placed = record {
        free = on_the_way.free;
        rows = on_the_way.rows;
        owners = placed.owners;
        places = all_but_one shape.elements place (put place e (carried cpu)) e (carried cpu) (λ j p. MayLie shape j (s.owner j) p) (differs_put place e (carried cpu)) (λ _. (can.common, may.1)) placed.places;
        homes = told_both (carried cpu) (homes.Hand c) (ap homes.Hand may.0 ∙ sym (ap (λ b. cond b (homes.Hand cpu) homes.Unlisted) evicts));
        fit = on_the_way.fit;
        cursors = on_the_way.cursors;
      };
    }

    pub rehome_keeps : Placed shape (rehomed shape s e to)
    rehome_keeps = come to can.to_there
