-- A state of the core of which the holders of all locks and the lists under them are known: what each step of any CPU makes of it.
use Rattle.std.proofs.Common.{◌≡◌, ◌≢◌, ℕ, ◌<◌, ◌≤◌, Bool, true, false, ◌&&◌, ltb, List, ◌∷◌, Option, None, Some, refl, ap, ◌∙◌, sym, subst, arith}
use Rattle.std.specs.Prelude.{IsTrue, IsFalse, if◌then◌else◌}
use Rattle.std.proofs.lemmas.Bool.{cases_Bool, cond-true, cond-false}
use Rattle.map_types.specs.declared.attr.Shape.{Shape}
use Rattle.map_types.specs.declared.kind.DomainId.{DomainId}
use Rattle.map_types.specs.declared.kind.DomainId.TheVariants.{Bucket}
use Rattle.map_types.specs.Kind.{is_lru}
use Rattle.map_types.specs.Shape.{HasBounds}
use Rattle.map_types.specs.ElementLists.{put, one, times, IsIn, IsHead}
use Rattle.map_types.proofs.RowLemmas.{times_append}
use Rattle.place_words.specs.declared.owner.Owner.{Owner}
use Rattle.place_words.specs.declared.owner.Owner.TheVariants as owners
use Rattle.place_words.specs.Locks.{rank_of, is_lock, lock_number, lock_named, is_same_lock}
use Rattle.place_words.specs.Openings.{is_free}
use Rattle.place_words.proofs.LockLemmas.{named_by_number, number_of_named, same_lock, other_lock}
use Rattle.place_words.specs.declared.step.Lists.{Lists}
use Rattle.place_words.specs.declared.step.Step.{Step}
use Rattle.place_words.specs.declared.step.Step.TheVariants as steps
use Rattle.place_words.specs.Places.{Placed, lies_at, has_row}
use Rattle.place_words.specs.State.{State, rows, is_bucket, HasOnlyItsLists, HasCursorInside}
use Rattle.place_words.specs.Steps.{IsEnabled, after, lists_under, with_free, without_free, with_row, without_row, CanTake, CanGive, IsLockHome}
use Rattle.place_words.proofs.ElementLemmas.{at_put}
use Rattle.place_words.proofs.RowLemmas.{Stands, stands_where, free_is, head_is_in}
use Rattle.place_words.proofs.StepLaws.{step_keeps_places}

-- other lists under one lock
abbrev pub with_lists : DomainId → Lists → (DomainId → Lists) → DomainId → Lists
with_lists lock new lists other = if is_same_lock lock other then new else lists other

-- another holder of one lock
abbrev pub with_holder : DomainId → Option ℕ → (DomainId → Option ℕ) → DomainId → Option ℕ
with_holder lock new hold other = if is_same_lock lock other then new else hold other

-- These are the holders of the locks, whichever CPUs hold any; these are the lists; and each element that is known to be in the hand
-- of a CPU is in it.
pub record IsTiedBy (shape : Shape) (hold : DomainId → Option ℕ) (lists : DomainId → Lists) (Known : ℕ → ℕ → Type 0) (s : State) : Type 0 where
  pub holders : (k : ℕ) → s.holder k ≡ hold (lock_named shape k)
  pub lists_are : (k : ℕ) → s.lists k ≡ lists (lock_named shape k)
  pub placed : Placed shape s
  pub known : (c e : ℕ) → Known c e → (e < shape.elements) × (s.owner e ≡ owners.Hand c)

-- a step may be done, and leads to such a state
pub record DidBy (shape : Shape) (hold : DomainId → Option ℕ) (lists : DomainId → Lists) (Known : ℕ → ℕ → Type 0) (s : State) (step : Step) : Type 0 where
  pub enabled : IsEnabled shape s step
  pub tied : IsTiedBy shape hold lists Known (after shape s step)

pub lists_here : (lock : DomainId) (new : Lists) (lists : DomainId → Lists) → with_lists lock new lists lock ≡ new
lists_here lock new lists = cond-true (is_same_lock lock lock) new (lists lock) (same_lock lock)

pub lists_else : (lock other : DomainId) (new : Lists) (lists : DomainId → Lists) → lock ≢ other → with_lists lock new lists other ≡ lists other
lists_else lock other new lists apart = cond-false (is_same_lock lock other) new (lists other) (other_lock lock other apart)

-- a function of numbers and one of names that agree still do where both change at one lock
pub put_named : {A : Type 0} (shape : Shape) (lock : DomainId) → IsTrue (is_lock shape lock) → (f : ℕ → A) (g : DomainId → A) → ((k : ℕ) → f k ≡ g (lock_named shape k)) → (x : A) (k : ℕ)
    → put f (lock_number shape lock) x k ≡ (if is_same_lock lock (lock_named shape k) then x else g (lock_named shape k))
put_named shape lock is f g same x k =
    at_put f (lock_number shape lock) x (λ j y. y ≡ (if is_same_lock lock (lock_named shape j) then x else g (lock_named shape j))) k
    (sym (cond-true (is_same_lock lock (lock_named shape (lock_number shape lock))) x _ (ap (is_same_lock lock) (named_by_number shape lock is) ∙ same_lock lock)))
    (λ other. same k ∙ sym (cond-false (is_same_lock lock (lock_named shape k)) x _ (other_lock lock (lock_named shape k) (λ here. other (sym (number_of_named shape k) ∙ ap (lock_number shape) (sym here))))))

module _ {shape : Shape} (bounds : HasBounds shape) {cpu : ℕ} (within : cpu < shape.cpus) {hold : DomainId → Option ℕ} {lists : DomainId → Lists} {Known : ℕ → ℕ → Type 0} {s : State} (tied : IsTiedBy shape hold lists Known s) where
  -- what lies under a lock
  pub under_by : (lock : DomainId) → IsTrue (is_lock shape lock) → lists_under shape s lock ≡ lists lock
  under_by lock is = tied.lists_are (lock_number shape lock) ∙ ap lists (named_by_number shape lock is)

  pub held_by : (lock : DomainId) → IsTrue (is_lock shape lock) → hold lock ≡ Some cpu → s.holder (lock_number shape lock) ≡ Some cpu
  held_by lock is mine = tied.holders (lock_number shape lock) ∙ ap hold (named_by_number shape lock is) ∙ mine

  -- a free element is one of the map's, and free
  pub free_by : (lock : DomainId) (e : ℕ) → IsTrue (is_lock shape lock) → IsIn e (lists lock).free → (e < shape.elements) × (s.owner e ≡ owners.Free)
  free_by lock e is inside =
      let there = stands_where shape.elements e (times e (s.lists (lock_number shape lock)).free) (is_free (s.owner e) && lies_at (lock_number shape lock) (tied.placed.place e)) (tied.placed.placed.free (lock_number shape lock) e)
      (subst (λ (l : Lists). IsIn e l.free) (sym (under_by lock is)) inside) in
      (there.real, free_is (s.owner e) (Rattle.std.proofs.lemmas.Bool.and_parts (is_free (s.owner e)) _ there.stands).0)

  -- Take
  pub take_by : (lock : DomainId) → IsTrue (is_lock shape lock) → hold lock ≡ None → ((other : DomainId) → hold other ≡ Some cpu → rank_of other < rank_of lock)
      → DidBy shape (with_holder lock (Some cpu) hold) lists Known s (steps.Take cpu lock)
  take_by lock is nobody above =
      let can : CanTake shape s cpu lock = record {
        is_cpu = within;
        is_lock = is;
        nobody = tied.holders (lock_number shape lock) ∙ (ap hold (named_by_number shape lock is) ∙ nobody);
        above = λ j mine. above (lock_named shape j) (sym (tied.holders j) ∙ mine);
      } in
      record {
        enabled = can;
        tied = record {
          holders = put_named shape lock is s.holder hold tied.holders (Some cpu);
          lists_are = tied.lists_are;
          placed = step_keeps_places shape s (steps.Take cpu lock) bounds can tied.placed;
          known = tied.known;
        };
      }

-- where only one element's owner changed, and the lists under one lock
owner_known : (shape : Shape) {Known : ℕ → ℕ → Type 0} (s : State) (e : ℕ) (o : Owner) (Later : ℕ → ℕ → Type 0) → ((c x : ℕ) → Known c x → (x < shape.elements) × (s.owner x ≡ owners.Hand c)) → e < shape.elements
    → ((c x : ℕ) → Later c x → (x ≡ e → o ≡ owners.Hand c) × (x ≢ e → Known c x)) → (c x : ℕ) → Later c x → (x < shape.elements) × (put s.owner e o x ≡ owners.Hand c)
owner_known shape s e o Later known real from c x later =
    at_put s.owner e o (λ y owner. y ≡ x → (x < shape.elements) × (owner ≡ owners.Hand c)) x
    (λ same. (omega (arith, same, real), (from c x later).0 (sym same)))
    (λ other same. known c x ((from c x later).1 other)) refl

module _ {shape : Shape} (bounds : HasBounds shape) {cpu : ℕ} (within : cpu < shape.cpus) {hold : DomainId → Option ℕ} {lists : DomainId → Lists} {Known : ℕ → ℕ → Type 0} {s : State} (tied : IsTiedBy shape hold lists Known s) where
  -- what is made of the lists under a lock
  changed : (lock : DomainId) (is : IsTrue (is_lock shape lock)) (change : Lists → Lists) (new : Lists) → change (lists lock) ≡ new
      → (k : ℕ) → put s.lists (lock_number shape lock) (change (lists_under shape s lock)) k ≡ with_lists lock new lists (lock_named shape k)
  changed lock is change new made k =
      ap (λ (l : Lists). put s.lists (lock_number shape lock) l k) (ap change (under_by bounds within tied lock is) ∙ made) ∙ put_named shape lock is s.lists lists tied.lists_are new k

  -- Claim
  pub claim_by : (lock : DomainId) (e : ℕ) (rest : List ℕ) (new : Lists) (Later : ℕ → ℕ → Type 0) → IsTrue (is_lock shape lock) → hold lock ≡ Some cpu
      → (lists lock).free ≡ e ∷ rest → with_row lock e (without_free e (lists lock)) ≡ new → ((c x : ℕ) → Later c x → (x ≡ e → c ≡ cpu) × (x ≢ e → Known c x))
      → DidBy shape hold (with_lists lock new lists) Later s (steps.Claim cpu e lock)
  claim_by lock e rest new Later is mine free made from =
      let inside : IsIn e (lists lock).free = subst (λ (xs : List ℕ). IsIn e xs) (sym free) (head_is_in e (e ∷ rest) refl) in
      let real = free_by bounds within tied lock e is inside in
      let can : IsEnabled shape s (steps.Claim cpu e lock) = record {
        holds = record { is_cpu = within; is_lock = is; held = held_by bounds within tied lock is mine };
        real = real.0;
        head = subst (λ (l : Lists). IsHead e l.free) (sym (under_by bounds within tied lock is)) (subst (λ (xs : List ℕ). IsHead e xs) (sym free) refl);
      } in
      record {
        enabled = can;
        tied = record {
          holders = tied.holders;
          lists_are = changed lock is (λ l. with_row lock e (without_free e l)) new made;
          placed = step_keeps_places shape s (steps.Claim cpu e lock) bounds can tied.placed;
          known = owner_known shape s e (owners.Hand cpu) Later tied.known real.0 (λ c x later. ((λ same. ap owners.Hand (sym ((from c x later).0 same))), (from c x later).1));
        };
      }

  -- Attach
  pub attach_by : (bucket e : ℕ) (new : Lists) (Later : ℕ → ℕ → Type 0) → IsTrue (is_lock shape (Bucket bucket)) → hold (Bucket bucket) ≡ Some cpu → Known cpu e
      → (IsTrue (is_lru shape.kind) → IsLockHome (s.home e)) → with_row (Bucket bucket) e (lists (Bucket bucket)) ≡ new → ((c x : ℕ) → Later c x → Known c x × (x ≢ e))
      → DidBy shape hold (with_lists (Bucket bucket) new lists) Later s (steps.Attach cpu e bucket)
  attach_by bucket e new Later is mine hand home made from =
      let real = tied.known cpu e hand in
      let can : IsEnabled shape s (steps.Attach cpu e bucket) = record {
        holds = record { is_cpu = within; is_lock = is; held = held_by bounds within tied (Bucket bucket) is mine };
        real = real.0;
        in_hand = real.1;
        not_carried = home;
      } in
      record {
        enabled = can;
        tied = record {
          holders = tied.holders;
          lists_are = changed (Bucket bucket) is (with_row (Bucket bucket) e) new made;
          placed = step_keeps_places shape s (steps.Attach cpu e bucket) bounds can tied.placed;
          known = owner_known shape s e (owners.Bucket bucket) Later tied.known real.0 (λ c x later. ((λ same. absurd ((from c x later).1 same)), (λ other. (from c x later).0)));
        };
      }

  -- Detach
  pub detach_by : (bucket e : ℕ) (new : Lists) (Later : ℕ → ℕ → Type 0) → IsTrue (is_lock shape (Bucket bucket)) → hold (Bucket bucket) ≡ Some cpu
      → IsIn e (lists (Bucket bucket)).first → without_row e (lists (Bucket bucket)) ≡ new → ((c x : ℕ) → Later c x → (x ≡ e → c ≡ cpu) × (x ≢ e → Known c x))
      → DidBy shape hold (with_lists (Bucket bucket) new lists) Later s (steps.Detach cpu e bucket)
  detach_by bucket e new Later is mine inside made from =
      let there : IsIn e (lists_under shape s (Bucket bucket)).first = subst (λ (l : Lists). IsIn e l.first) (sym (under_by bounds within tied (Bucket bucket) is)) inside in
      let at : Stands shape.elements e _ = stands_where shape.elements e (times e (rows (s.lists (lock_number shape (Bucket bucket))))) (has_row (is_lru shape.kind) (lock_named shape (lock_number shape (Bucket bucket))) (s.owner e) (lies_at (lock_number shape (Bucket bucket)) (tied.placed.place e))) (tied.placed.placed.rows (lock_number shape (Bucket bucket)) e)
      (omega (arith, there, times_append e (lists_under shape s (Bucket bucket)).first (lists_under shape s (Bucket bucket)).second)) in
      let can : IsEnabled shape s (steps.Detach cpu e bucket) = record {
        holds = record { is_cpu = within; is_lock = is; held = held_by bounds within tied (Bucket bucket) is mine };
        real = at.real;
        inside = there;
      } in
      record {
        enabled = can;
        tied = record {
          holders = tied.holders;
          lists_are = changed (Bucket bucket) is (without_row e) new made;
          placed = step_keeps_places shape s (steps.Detach cpu e bucket) bounds can tied.placed;
          known = owner_known shape s e (owners.Hand cpu) Later tied.known at.real (λ c x later. ((λ same. ap owners.Hand (sym ((from c x later).0 same))), (from c x later).1));
        };
      }

  -- Settle
  pub settle_by : (lock : DomainId) (e : ℕ) (new : Lists) (Later : ℕ → ℕ → Type 0) → IsTrue (is_lock shape lock) → IsFalse (is_bucket lock) → hold lock ≡ Some cpu → Known cpu e
      → (IsTrue (is_lru shape.kind) → IsIn e (rows (lists lock))) → with_free e (without_row e (lists lock)) ≡ new → ((c x : ℕ) → Later c x → Known c x × (x ≢ e))
      → DidBy shape hold (with_lists lock new lists) Later s (steps.Settle cpu e lock)
  settle_by lock e new Later is list mine hand listed made from =
      let real = tied.known cpu e hand in
      let can : IsEnabled shape s (steps.Settle cpu e lock) = record {
        holds = record { is_cpu = within; is_lock = is; held = held_by bounds within tied lock is mine };
        has_free_list = list;
        real = real.0;
        in_hand = real.1;
        listed = λ lru. subst (λ (l : Lists). IsIn e (rows l)) (sym (under_by bounds within tied lock is)) (listed lru);
      } in
      record {
        enabled = can;
        tied = record {
          holders = tied.holders;
          lists_are = changed lock is (λ l. with_free e (without_row e l)) new made;
          placed = step_keeps_places shape s (steps.Settle cpu e lock) bounds can tied.placed;
          known = owner_known shape s e owners.Free Later tied.known real.0 (λ c x later. ((λ same. absurd ((from c x later).1 same)), (λ other. (from c x later).0)));
        };
      }

-- Give
one_at_most : (b : Bool) → one b ≤ 1
one_at_most true = omega arith
one_at_most false = omega arith

module _ {shape : Shape} (bounds : HasBounds shape) {cpu : ℕ} (within : cpu < shape.cpus) {hold : DomainId → Option ℕ} {lists : DomainId → Lists} {Known : ℕ → ℕ → Type 0} {s : State} (lock : DomainId) (mine : hold lock ≡ Some cpu) (tied : IsTiedBy shape hold lists Known s) where
  pub give_by : (new : Lists) → IsTrue (is_lock shape lock) → HasOnlyItsLists lock new → ((e : ℕ) → times e new.free ≡ times e (lists lock).free)
      → ((e : ℕ) → times e (rows new) ≡ times e (rows (lists lock))) → HasCursorInside new → DidBy shape (with_holder lock None hold) (with_lists lock new lists) Known s (steps.Give cpu lock new)
  give_by new is fit free row cursor =
      let at : lists_under shape s lock ≡ lists lock = under_by bounds within tied lock is in
      let same_free : (e : ℕ) → times e new.free ≡ times e (lists_under shape s lock).free = λ e. free e ∙ ap (λ (l : Lists). times e l.free) (sym at) in
      let same_rows : (e : ℕ) → times e (rows new) ≡ times e (rows (lists_under shape s lock)) = λ e. row e ∙ ap (λ (l : Lists). times e (rows l)) (sym at) in
      let can : CanGive shape s cpu lock new = record {
        holds = record { is_cpu = within; is_lock = is; held = held_by bounds within tied lock is mine };
        fit = fit;
        same_free = same_free;
        same_rows = same_rows;
        free_once = λ e. omega (arith, same_free e, tied.placed.placed.free (lock_number shape lock) e, one_at_most (ltb e shape.elements && (is_free (s.owner e) && lies_at (lock_number shape lock) (tied.placed.place e))));
        rows_once = λ e. omega (arith, same_rows e, tied.placed.placed.rows (lock_number shape lock) e, one_at_most (ltb e shape.elements && has_row (is_lru shape.kind) (lock_named shape (lock_number shape lock)) (s.owner e) (lies_at (lock_number shape lock) (tied.placed.place e))));
        cursor = cursor;
      } in
      record {
        enabled = can;
        tied = record {
          holders = put_named shape lock is s.holder hold tied.holders None;
          lists_are = put_named shape lock is s.lists lists tied.lists_are new;
          placed = step_keeps_places shape s (steps.Give cpu lock new) bounds can tied.placed;
          known = tied.known;
        };
      }

  -- lists that are given back as they are
  pub give_same_by : (new : Lists) → IsTrue (is_lock shape lock) → lists lock ≡ new → DidBy shape (with_holder lock None hold) (with_lists lock new lists) Known s (steps.Give cpu lock new)
  give_same_by new is same =
      let at : lists_under shape s lock ≡ new = under_by bounds within tied lock is ∙ same in
      give_by new is
      (subst (HasOnlyItsLists lock) at (subst (λ (l : DomainId). HasOnlyItsLists l (lists_under shape s lock)) (named_by_number shape lock is) (tied.placed.placed.fit (lock_number shape lock))))
      (λ e. ap (λ (l : Lists). times e l.free) (sym same))
      (λ e. ap (λ (l : Lists). times e (rows l)) (sym same))
      (subst HasCursorInside at (tied.placed.placed.cursors (lock_number shape lock)))
