-- The steps that change an element's owner keep the places.
use Rattle.std.proofs.Common.{◌≡◌, ◌≢◌, ℕ, suc, ◌+◌, ◌-◌, ◌<◌, ◌≤◌, Bool, true, false, not, ◌&&◌, cond, ltb, refl, ap, ◌∙◌, sym, subst, ⊎_elim, arith}
use Rattle.std.specs.Prelude.{IsTrue}
use Rattle.std.proofs.lemmas.Bool.{cases_Bool, and_parts, and_right, ltb-true, eq-eqb, ne_eqb}
use Rattle.map_types.specs.declared.attr.Shape.{Shape}
use Rattle.map_types.specs.declared.kind.DomainId.{DomainId}
use Rattle.map_types.specs.declared.kind.DomainId.TheVariants.{Local, Global, CpuLru, Bucket, Freelist}
use Rattle.map_types.specs.Kind.{is_lru}
use Rattle.map_types.specs.Shape.{HasBounds}
use Rattle.place_words.specs.declared.owner.Owner.{Owner}
use Rattle.place_words.specs.declared.owner.Owner.TheVariants as owners
use Rattle.place_words.specs.declared.home.Home.TheVariants as homes
use Rattle.place_words.specs.Locks.{is_lock, lock_number, lock_named}
use Rattle.place_words.proofs.LockLemmas.{named_by_number, one_number}
use Rattle.map_types.specs.ElementLists.{put, one, times}
use Rattle.map_types.proofs.RowLemmas.{times_append}
use Rattle.place_words.specs.Openings.{is_free}
use Rattle.place_words.specs.State.{State, rows, is_bucket, HasOnlyItsLists}
use Rattle.place_words.specs.Places.{ElementPlace, under_lock, carried, lies_at, is_in_bucket, has_row, home_of_place, MayLie, MayLieUnder, PlacedAt, Placed}
use Rattle.place_words.specs.Steps.{lists_under, with_free, without_free, with_row, without_row, CanClaim, claimed, CanSettle, settled, IsLockHome, CanAttach, attached, IsInHeldBucket, detached}
use Rattle.place_words.proofs.ElementLemmas.{times_cons_same, times_cons_other, times_without_same, times_without_other}
use Rattle.place_words.proofs.FrameLemmas.{counted, MovesAt, differs_put, differs_not, all_but_one, placed_moved}
use Rattle.place_words.proofs.RowLemmas.{Stands, stands_where, lies_is, lies_here, lies_elsewhere, free_is, bucket_is, head_is_in, rows_with_row_other, is_listing, rows_with_row_same, free_with_row, rows_without_row_other, rows_without_row_same, no_row_free, same_row, no_row_hand_away, no_row_hand_plain, row_lies, row_of_lying, lock_listing, fit_with_row, fit_with_free, fit_without_free, fit_without_row, cursor_with_row, cursor_without_row}

-- under the lock of a place there is no bucket
pub no_bucket_under : (shape : Shape) (e : ℕ) (lock : DomainId) → MayLieUnder shape e lock → is_bucket lock ≡ false
no_bucket_under shape e (Local cpu) may = refl
no_bucket_under shape e Global may = refl
no_bucket_under shape e (CpuLru cpu) may = refl
no_bucket_under shape e (Bucket bucket) may = absurd may
no_bucket_under shape e (Freelist cpu) may = refl

module _ (shape : Shape) (s : State) (place : ℕ → ElementPlace) (bounds : HasBounds shape) (placed : PlacedAt shape s.lists s.owner s.home place) where
  -- an element in hand is on no free list, and in no bucket
  not_free_count : (k e : ℕ) → e < shape.elements → is_free (s.owner e) ≡ false → times e (s.lists k).free ≡ 0
  not_free_count k e real taken = placed.free k e ∙ (counted shape.elements e _ real ∙ ap (λ (f : Bool). one (f && lies_at k (place e))) taken)

  row_count : (k e : ℕ) → e < shape.elements → times e (rows (s.lists k)) ≡ one (has_row (is_lru shape.kind) (lock_named shape k) (s.owner e) (lies_at k (place e)))
  row_count k e real = placed.rows k e ∙ counted shape.elements e _ real

  -- Claim

  module _ (cpu e : ℕ) (lock : DomainId) (can : CanClaim shape s cpu e lock) where
    named : lock_named shape (lock_number shape lock) ≡ lock
    named = named_by_number shape lock can.holds.is_lock

    there : Stands shape.elements e (is_free (s.owner e) && lies_at (lock_number shape lock) (place e))
    there = stands_where shape.elements e _ _ (placed.free (lock_number shape lock) e) (head_is_in e _ can.head)

    was_free : s.owner e ≡ owners.Free
    was_free = free_is _ (and_parts (is_free (s.owner e)) (lies_at (lock_number shape lock) (place e)) there.stands).0

    lay : place e ≡ under_lock (lock_number shape lock)
    lay = lies_is _ _ (and_parts (is_free (s.owner e)) (lies_at (lock_number shape lock) (place e)) there.stands).1

    under : MayLieUnder shape e (lock_named shape (lock_number shape lock))
    under = subst (MayLie shape e (s.owner e)) lay (placed.places e there.real)

    no_bucket : is_bucket lock ≡ false
    no_bucket = no_bucket_under shape e lock (subst (MayLieUnder shape e) named under)

    pub claim_moves : MovesAt shape s.lists s.owner place (lock_number shape lock) e (with_row lock e (without_free e (lists_under shape s lock))) (owners.Hand cpu) (under_lock (lock_number shape lock))
    claim_moves =
        let l = lists_under shape s lock in
        let m = without_free e l in
        let once : times e l.free ≡ 1 = placed.free (lock_number shape lock) e ∙ (counted shape.elements e _ there.real ∙ ap one there.stands) in
        let none : times e (rows l) ≡ 0 = row_count (lock_number shape lock) e there.real ∙ ap one (ap (λ (o : Owner). has_row (is_lru shape.kind) (lock_named shape (lock_number shape lock)) o (lies_at (lock_number shape lock) (place e))) was_free ∙ no_row_free _ _ _) in
        record {
          others_free = λ x other. ap (times x) (free_with_row lock e m) ∙ times_without_other x e l.free other;
          others_rows = λ x other. rows_with_row_other lock x e m other;
          free_here = ap (times e) (free_with_row lock e m) ∙ (times_without_same e l.free ∙ ap (λ (n : ℕ). n - 1) once);
          row_here = rows_with_row_same lock e m no_bucket ∙ (ap (λ (n : ℕ). n + one (is_listing lock)) none ∙ (omega arith ∙ ap one (sym (row_now (lock_number shape lock)))));
          free_else = λ j apart. sym (ap (λ (p : ElementPlace). is_free (s.owner e) && lies_at j p) lay ∙ and_right (is_free (s.owner e)) _ (lies_elsewhere j (lock_number shape lock) apart));
          row_else = λ j apart. ap (has_row (is_lru shape.kind) (lock_named shape j) (owners.Hand cpu)) (lies_elsewhere j (lock_number shape lock) apart) ∙ (no_row_hand_away _ _ cpu ∙ sym (ap (λ (o : Owner). has_row (is_lru shape.kind) (lock_named shape j) o (lies_at j (place e))) was_free ∙ no_row_free _ _ _));
        }
      where
        row_now : (j : ℕ) → has_row (is_lru shape.kind) (lock_named shape (lock_number shape lock)) (owners.Hand cpu) (lies_at (lock_number shape lock) (under_lock (lock_number shape lock))) ≡ is_listing lock
        row_now j = (λ i. has_row (is_lru shape.kind) (named i) (owners.Hand cpu) (lies_here (lock_number shape lock) i)) ∙ row_of_lying _ lock (owners.Hand cpu) no_bucket refl (lock_listing shape lock bounds can.holds.is_lock no_bucket)

    pub claim_keeps : Placed shape (claimed shape s cpu e lock)
    claim_keeps =
        let l = lists_under shape s lock in
        let fit : HasOnlyItsLists lock l = subst (λ (d : DomainId). HasOnlyItsLists d l) named (placed.fit (lock_number shape lock)) in
        record {
          place = place;
          placed = placed_moved shape s.lists s.owner _ s.home s.home place place (lock_number shape lock) e _ (owners.Hand cpu) (under_lock (lock_number shape lock)) there.real placed claim_moves
              (differs_put s.owner e (owners.Hand cpu)) record { here = lay; else_same = λ _ _. refl } placed.homes can.holds.is_cpu under
              (subst (λ (d : DomainId). HasOnlyItsLists d (with_row lock e (without_free e l))) (sym named) (fit_with_row lock e _ (fit_without_free lock e l fit)))
              (cursor_with_row lock e (without_free e l) (placed.cursors (lock_number shape lock)));
        }

  -- Settle

  module _ (cpu e : ℕ) (lock : DomainId) (can : CanSettle shape s cpu e lock) where
    settle_named : lock_named shape (lock_number shape lock) ≡ lock
    settle_named = named_by_number shape lock can.holds.is_lock

    hand_is_taken : is_free (s.owner e) ≡ false
    hand_is_taken = ap is_free can.in_hand

    -- on a map that evicts, the element lies under the lock
    listed_lies : is_lru shape.kind ≡ true → place e ≡ under_lock (lock_number shape lock)
    listed_lies lru =
        let row = stands_where shape.elements e _ _ (placed.rows (lock_number shape lock) e) (can.listed lru) in
        lies_is _ _ (row_lies _ lock (s.owner e) _ can.has_free_list (subst (λ (d : DomainId). has_row (is_lru shape.kind) d (s.owner e) (lies_at (lock_number shape lock) (place e)) ≡ true) settle_named row.stands))

    at_most_once : times e (rows (lists_under shape s lock)) ≤ 1
    at_most_once = subst (λ (n : ℕ). n ≤ 1) (sym (row_count (lock_number shape lock) e can.real)) (one_at_most _)
      where
        one_at_most : (b : Bool) → one b ≤ 1
        one_at_most true = omega arith
        one_at_most false = omega arith

    -- where it stood, it stood in no row elsewhere
    no_row_before : (j : ℕ) → j ≢ lock_number shape lock → has_row (is_lru shape.kind) (lock_named shape j) (s.owner e) (lies_at j (place e)) ≡ false
    no_row_before j apart =
        ⊎_elim
        (λ (lru : is_lru shape.kind ≡ true). (λ i. has_row (is_lru shape.kind) (lock_named shape j) (can.in_hand i) ((ap (lies_at j) (listed_lies lru) ∙ lies_elsewhere j (lock_number shape lock) apart) i)) ∙ no_row_hand_away _ _ cpu)
        (λ (plain : is_lru shape.kind ≡ false). (λ i. has_row (plain i) (lock_named shape j) (can.in_hand i) (lies_at j (place e))) ∙ no_row_hand_plain _ cpu _)
        (cases_Bool (is_lru shape.kind))

    pub settle_moves : MovesAt shape s.lists s.owner place (lock_number shape lock) e (with_free e (without_row e (lists_under shape s lock))) owners.Free (under_lock (lock_number shape lock))
    settle_moves =
        let l = lists_under shape s lock in
        record {
          others_free = λ x other. times_cons_other x e l.free other;
          others_rows = λ x other. rows_without_row_other x e l other;
          free_here = times_cons_same e l.free ∙ (ap suc (not_free_count (lock_number shape lock) e can.real hand_is_taken) ∙ ap one (sym (lies_here (lock_number shape lock))));
          row_here = rows_without_row_same e l at_most_once ∙ ap one (sym (no_row_free _ _ _));
          free_else = λ j apart. lies_elsewhere j (lock_number shape lock) apart ∙ sym (ap (λ f. f && lies_at j (place e)) hand_is_taken);
          row_else = λ j apart. no_row_free _ _ _ ∙ sym (no_row_before j apart);
        }

    plain_under : (d : DomainId) → is_lru shape.kind ≡ false → is_bucket d ≡ false → IsTrue (is_lock shape d) → MayLieUnder shape e d
    plain_under (Local c) plain is_not is = is
    plain_under Global plain is_not is = is
    plain_under (CpuLru c) plain is_not is =
        let lru : is_lru shape.kind ≡ true = (and_parts (is_lru shape.kind) (not shape.common) (and_parts _ (ltb c shape.cpus) is).0).0 in absurd cc
    plain_under (Bucket bucket) plain is_not is = absurd cc
    plain_under (Freelist c) plain is_not is = is

    settle_under : MayLieUnder shape e (lock_named shape (lock_number shape lock))
    settle_under =
        ⊎_elim
        (λ (lru : is_lru shape.kind ≡ true). lying (s.owner e) (place e) (listed_lies lru) (placed.places e can.real))
        (λ (plain : is_lru shape.kind ≡ false). subst (MayLieUnder shape e) (sym settle_named) (plain_under lock plain can.has_free_list can.holds.is_lock))
        (cases_Bool (is_lru shape.kind))
      where
        lying : (o : Owner) (p : ElementPlace) → p ≡ under_lock (lock_number shape lock) → MayLie shape e o p → MayLieUnder shape e (lock_named shape (lock_number shape lock))
        lying o p is may = subst (MayLie shape e o) is may

    told_plain : (p : ElementPlace) → is_lru shape.kind ≡ false → home_of_place shape p ≡ homes.Unlisted
    told_plain (under_lock j) plain = ap (λ lru. cond lru (homes.In (lock_named shape j)) homes.Unlisted) plain
    told_plain (carried c) plain = ap (λ lru. cond lru (homes.Hand c) homes.Unlisted) plain

    settle_told : s.home e ≡ home_of_place shape (under_lock (lock_number shape lock))
    settle_told =
        ⊎_elim
        (λ (lru : is_lru shape.kind ≡ true). placed.homes e can.real ∙ ap (home_of_place shape) (listed_lies lru))
        (λ (plain : is_lru shape.kind ≡ false). placed.homes e can.real ∙ (told_plain (place e) plain ∙ sym (told_plain (under_lock (lock_number shape lock)) plain)))
        (cases_Bool (is_lru shape.kind))

    pub settle_keeps : Placed shape (settled shape s e lock)
    settle_keeps =
        let l = lists_under shape s lock in
        let fit : HasOnlyItsLists lock l = subst (λ (d : DomainId). HasOnlyItsLists d l) settle_named (placed.fit (lock_number shape lock)) in
        record {
          place = put place e (under_lock (lock_number shape lock));
          placed = placed_moved shape s.lists s.owner _ s.home s.home place (put place e (under_lock (lock_number shape lock))) (lock_number shape lock) e _ owners.Free (under_lock (lock_number shape lock)) can.real placed settle_moves
              (differs_put s.owner e owners.Free) (differs_put place e (under_lock (lock_number shape lock)))
              (all_but_one shape.elements place (put place e (under_lock (lock_number shape lock))) e (under_lock (lock_number shape lock)) (λ j p. s.home j ≡ home_of_place shape p) (differs_put place e (under_lock (lock_number shape lock))) (λ _. settle_told) placed.homes)
              tt settle_under
              (subst (λ (d : DomainId). HasOnlyItsLists d (with_free e (without_row e l))) (sym settle_named) (fit_with_free lock e _ can.has_free_list (fit_without_row lock e l fit)))
              (cursor_without_row e l (placed.cursors (lock_number shape lock)));
        }

  -- two owners that aren't free, one of them this bucket, differ in no other bucket
  elsewhere_alike : (cpu bucket : ℕ) → IsTrue (is_lock shape (Bucket bucket)) → (j : ℕ) → j ≢ lock_number shape (Bucket bucket) → (b : ℕ) → lock_named shape j ≡ Bucket b → is_in_bucket b (owners.Bucket bucket) ≡ is_in_bucket b (owners.Hand cpu)
  elsewhere_alike cpu bucket is j apart b at_j =
      ne_eqb bucket b (λ same. apart (one_number shape j (lock_number shape (Bucket bucket)) (at_j ∙ (ap Bucket (sym same) ∙ sym (named_by_number shape (Bucket bucket) is)))))

  -- Attach

  module _ (cpu e bucket : ℕ) (can : CanAttach shape s cpu e bucket) where
    attach_named : lock_named shape (lock_number shape (Bucket bucket)) ≡ Bucket bucket
    attach_named = named_by_number shape (Bucket bucket) can.holds.is_lock

    pub attach_moves : MovesAt shape s.lists s.owner place (lock_number shape (Bucket bucket)) e (with_row (Bucket bucket) e (lists_under shape s (Bucket bucket))) (owners.Bucket bucket) (place e)
    attach_moves =
        let l = lists_under shape s (Bucket bucket) in
        let none : times e (rows l) ≡ 0 = row_count (lock_number shape (Bucket bucket)) e can.real ∙ (λ i. one (has_row (is_lru shape.kind) (attach_named i) (can.in_hand i) (lies_at (lock_number shape (Bucket bucket)) (place e)))) in
        record {
          others_free = λ x other. refl;
          others_rows = λ x other. times_cons_other x e (rows l) other;
          free_here = not_free_count (lock_number shape (Bucket bucket)) e can.real (ap is_free can.in_hand);
          row_here = times_cons_same e (rows l) ∙ (ap suc none ∙ sym ((λ i. one (has_row (is_lru shape.kind) (attach_named i) (owners.Bucket bucket) (lies_at (lock_number shape (Bucket bucket)) (place e)))) ∙ ap one (eq-eqb bucket bucket refl)));
          free_else = λ j apart. sym (ap (λ (o : Owner). is_free o && lies_at j (place e)) can.in_hand);
          row_else = λ j apart. same_row _ (lock_named shape j) (owners.Bucket bucket) (owners.Hand cpu) _ refl (elsewhere_alike cpu bucket can.holds.is_lock j apart) ∙ sym (ap (λ (o : Owner). has_row (is_lru shape.kind) (lock_named shape j) o (lies_at j (place e))) can.in_hand);
        }

    -- it isn't carried
    attach_lies : (p : ElementPlace) → (is_lru shape.kind ≡ true → IsLockHome (home_of_place shape p)) → MayLie shape e (s.owner e) p → MayLie shape e (owners.Bucket bucket) p
    attach_lies (under_lock j) home may = may
    attach_lies (carried c) home may =
        let lru = bounds.common_evicts may.0 in
        absurd (subst IsLockHome (ap (λ b. cond b (homes.Hand c) homes.Unlisted) lru) (home lru))

    pub attach_keeps : Placed shape (attached shape s e bucket)
    attach_keeps =
        let l = lists_under shape s (Bucket bucket) in
        let fit : HasOnlyItsLists (Bucket bucket) l = subst (λ (d : DomainId). HasOnlyItsLists d l) attach_named (placed.fit (lock_number shape (Bucket bucket))) in
        record {
          place = place;
          placed = placed_moved shape s.lists s.owner _ s.home s.home place place (lock_number shape (Bucket bucket)) e _ (owners.Bucket bucket) (place e) can.real placed attach_moves
              (differs_put s.owner e (owners.Bucket bucket)) (differs_not place e) placed.homes (ltb-true bucket shape.buckets can.holds.is_lock)
              (attach_lies (place e) (λ lru. subst IsLockHome (placed.homes e can.real) (can.not_carried lru)) (placed.places e can.real))
              (subst (λ (d : DomainId). HasOnlyItsLists d (with_row (Bucket bucket) e l)) (sym attach_named) fit)
              (placed.cursors (lock_number shape (Bucket bucket)));
        }

  -- Detach

  module _ (cpu e bucket : ℕ) (can : IsInHeldBucket shape s cpu e bucket) where
    detach_named : lock_named shape (lock_number shape (Bucket bucket)) ≡ Bucket bucket
    detach_named = named_by_number shape (Bucket bucket) can.holds.is_lock

    detach_row : Stands shape.elements e (has_row (is_lru shape.kind) (lock_named shape (lock_number shape (Bucket bucket))) (s.owner e) (lies_at (lock_number shape (Bucket bucket)) (place e)))
    detach_row =
        let l = lists_under shape s (Bucket bucket) in
        let whole = times_append e l.first l.second in
        let inside = can.inside in
        let some : 0 < times e (rows l) = omega arith in
        stands_where shape.elements e _ _ (placed.rows (lock_number shape (Bucket bucket)) e) some

    pub was_inside : s.owner e ≡ owners.Bucket bucket
    was_inside = bucket_is bucket (s.owner e) (subst (λ (d : DomainId). has_row (is_lru shape.kind) d (s.owner e) (lies_at (lock_number shape (Bucket bucket)) (place e)) ≡ true) detach_named detach_row.stands)

    pub detach_moves : MovesAt shape s.lists s.owner place (lock_number shape (Bucket bucket)) e (without_row e (lists_under shape s (Bucket bucket))) (owners.Hand cpu) (place e)
    detach_moves =
        let l = lists_under shape s (Bucket bucket) in
        let once : times e (rows l) ≡ 1 = row_count (lock_number shape (Bucket bucket)) e detach_row.real ∙ ap one detach_row.stands in
        record {
          others_free = λ x other. refl;
          others_rows = λ x other. rows_without_row_other x e l other;
          free_here = not_free_count (lock_number shape (Bucket bucket)) e detach_row.real (ap is_free was_inside);
          row_here = rows_without_row_same e l (omega arith) ∙ sym (λ i. one (has_row (is_lru shape.kind) (detach_named i) (owners.Hand cpu) (lies_at (lock_number shape (Bucket bucket)) (place e))));
          free_else = λ j apart. sym (ap (λ (o : Owner). is_free o && lies_at j (place e)) was_inside);
          row_else = λ j apart. sym (ap (λ (o : Owner). has_row (is_lru shape.kind) (lock_named shape j) o (lies_at j (place e))) was_inside ∙ same_row _ (lock_named shape j) (owners.Bucket bucket) (owners.Hand cpu) _ refl (elsewhere_alike cpu bucket can.holds.is_lock j apart));
        }

    detach_lies : (p : ElementPlace) → MayLie shape e (s.owner e) p → MayLie shape e (owners.Hand cpu) p
    detach_lies (under_lock j) may = may
    detach_lies (carried c) may = let clash : owners.Bucket bucket ≡ owners.Hand c = sym was_inside ∙ may.1 in absurd cc

    pub detach_keeps : Placed shape (detached shape s cpu e bucket)
    detach_keeps =
        let l = lists_under shape s (Bucket bucket) in
        let fit : HasOnlyItsLists (Bucket bucket) l = subst (λ (d : DomainId). HasOnlyItsLists d l) detach_named (placed.fit (lock_number shape (Bucket bucket))) in
        record {
          place = place;
          placed = placed_moved shape s.lists s.owner _ s.home s.home place place (lock_number shape (Bucket bucket)) e _ (owners.Hand cpu) (place e) detach_row.real placed detach_moves
              (differs_put s.owner e (owners.Hand cpu)) (differs_not place e) placed.homes can.holds.is_cpu
              (detach_lies (place e) (placed.places e detach_row.real))
              (subst (λ (d : DomainId). HasOnlyItsLists d (without_row e l)) (sym detach_named) (fit_without_row (Bucket bucket) e l fit))
              (cursor_without_row e l (placed.cursors (lock_number shape (Bucket bucket))));
        }
