-- What the moves between lists of different locks make of a state of the core, where the CPUs share lists.
use Rattle.std.proofs.Common.{◌≡◌, ◌≢◌, ℕ, ◌<◌, Bool, true, false, ◌&&◌, List, Some, refl, ap, ◌∙◌, sym, subst}
use Rattle.std.specs.Prelude.{IsTrue, IsFalse, if◌then◌else◌}
use Rattle.std.proofs.lemmas.Bool.{and_parts, true≢false}
use Rattle.map_types.specs.declared.attr.Shape.{Shape}
use Rattle.map_types.specs.declared.kind.DomainId.{DomainId}
use Rattle.map_types.specs.declared.kind.DomainId.TheVariants.{Local}
use Rattle.map_types.specs.Kind.{is_lru}
use Rattle.map_types.specs.Shape.{HasBounds}
use Rattle.map_types.specs.ElementLists.{put, times, IsIn}
use Rattle.place_words.specs.declared.home.Home.{Home}
use Rattle.place_words.specs.declared.home.Home.TheVariants as homes
use Rattle.place_words.specs.declared.owner.Owner.{Owner}
use Rattle.place_words.specs.declared.owner.Owner.TheVariants as owners
use Rattle.place_words.specs.Locks.{is_lock, lock_number, lock_named}
use Rattle.place_words.specs.Openings.{is_free}
use Rattle.place_words.proofs.LockLemmas.{named_by_number}
use Rattle.place_words.specs.declared.step.Lists.{Lists}
use Rattle.place_words.specs.declared.step.Step.TheVariants as steps
use Rattle.place_words.specs.Places.{home_of_place, under_lock, lies_at, has_row}
use Rattle.place_words.specs.State.{State, rows, is_bucket}
use Rattle.place_words.specs.Steps.{IsEnabled, lists_under, with_free, without_free, with_row, without_row, MayEnter, MayLeave, left_by, joined_by, after_leaving, after_joining}
use Rattle.place_words.proofs.ElementLemmas.{put_else}
use Rattle.place_words.proofs.RowLemmas.{stands_where, lies_is, row_lies, no_row_free}
use Rattle.place_words.proofs.StepLaws.{step_keeps_places}
use Rattle.core_runs.proofs.Tied.{IsTied, Did, with_lists, holder_of, put_named, under, held_there}

pub not_free : (o : Owner) (lru : Bool) (lock : DomainId) (here : Bool) → has_row lru lock o here ≡ true → is_free o ≡ false
not_free owners.Free lru lock here row = absurd (true≢false (sym row ∙ no_row_free lru lock here))
not_free (owners.Bucket b) lru lock here row = refl
not_free (owners.Hand c) lru lock here row = refl

pub home_under : (shape : Shape) (k : ℕ) → is_lru shape.kind ≡ true → home_of_place shape (under_lock k) ≡ homes.In (lock_named shape k)
home_under shape k lru = rw lru refl

-- an element that lies under a lock, free or listed
pub record LiesThere (shape : Shape) (s : State) (lock : DomainId) (e : ℕ) (free : Bool) : Type 0 where
  pub real : e < shape.elements
  pub home : s.home e ≡ homes.In lock
  pub is : is_free (s.owner e) ≡ free

module _ {shape : Shape} (bounds : HasBounds shape) (lru : is_lru shape.kind ≡ true) {cpu : ℕ} (within : cpu < shape.cpus) {held : List DomainId} {lists : DomainId → Lists} {Known : ℕ → ℕ → Type 0} {s : State} (tied : IsTied shape cpu held lists Known s) where
  home_there : (lock : DomainId) (e : ℕ) → IsTrue (is_lock shape lock) → e < shape.elements → lies_at (lock_number shape lock) (tied.placed.place e) ≡ true → s.home e ≡ homes.In lock
  home_there lock e is real lies =
      tied.placed.placed.homes e real ∙ ap (home_of_place shape) (lies_is (lock_number shape lock) (tied.placed.place e) lies) ∙ home_under shape (lock_number shape lock) lru ∙ ap homes.In (named_by_number shape lock is)

  pub free_lies : (lock : DomainId) (e : ℕ) → IsTrue (is_lock shape lock) → IsIn e (lists lock).free → LiesThere shape s lock e true
  free_lies lock e is inside =
      let number : ℕ = lock_number shape lock in
      let there = stands_where shape.elements e (times e (s.lists number).free) (is_free (s.owner e) && lies_at number (tied.placed.place e)) (tied.placed.placed.free number e)
      (subst (λ (l : Lists). IsIn e l.free) (sym (under bounds within tied lock is)) inside) in
      let parts = and_parts (is_free (s.owner e)) (lies_at number (tied.placed.place e)) there.stands in
      record { real = there.real; home = home_there lock e is there.real parts.1; is = parts.0 }

  pub row_lies_there : (lock : DomainId) (e : ℕ) → IsTrue (is_lock shape lock) → IsFalse (is_bucket lock) → IsIn e (rows (lists lock)) → LiesThere shape s lock e false
  row_lies_there lock e is list inside =
      let number : ℕ = lock_number shape lock in
      let there = stands_where shape.elements e (times e (rows (s.lists number))) (has_row (is_lru shape.kind) (lock_named shape number) (s.owner e) (lies_at number (tied.placed.place e))) (tied.placed.placed.rows number e)
      (subst (λ (l : Lists). IsIn e (rows l)) (sym (under bounds within tied lock is)) inside) in
      let stands : has_row (is_lru shape.kind) lock (s.owner e) (lies_at number (tied.placed.place e)) ≡ true =
      subst (λ (l : DomainId). has_row (is_lru shape.kind) l (s.owner e) (lies_at number (tied.placed.place e)) ≡ true) (named_by_number shape lock is) there.stands in
      record {
        real = there.real;
        home = home_there lock e is there.real (row_lies (is_lru shape.kind) lock (s.owner e) (lies_at number (tied.placed.place e)) list stands);
        is = not_free (s.owner e) (is_lru shape.kind) lock (lies_at number (tied.placed.place e)) stands;
      }

  -- A move from one lock's lists to another's, free or listed
  pub moved_tied : (from to : DomainId) (e : ℕ) (free : Bool) (left joined : Lists) → from ≢ to → IsTrue shape.common → IsTrue (is_lock shape from) → IsTrue (is_lock shape to) → holder_of cpu held from ≡ Some cpu
      → LiesThere shape s from e free → MayEnter shape s cpu (s.owner e) (homes.In to)
      → (if free then without_free e (lists from) else without_row e (lists from)) ≡ left → (if free then with_free e (lists to) else with_row to e (lists to)) ≡ joined
      → Did shape cpu held (with_lists to joined (with_lists from left lists)) Known s (steps.Rehome cpu e (homes.In to))
  moved_tied from to e free left joined apart common is_from is_to mine lies enter left_is joined_is =
      let a : ℕ = lock_number shape from in
      let b : ℕ = lock_number shape to in
      let can : IsEnabled shape s (steps.Rehome cpu e (homes.In to)) = record {
        common = common;
        is_cpu = within;
        real = lies.real;
        from_there = subst (MayLeave shape s cpu) (sym lies.home) (record { is_cpu = within; is_lock = is_from; held = held_there bounds within tied from is_from mine });
        to_there = enter;
      } in
      let numbers : b ≢ a = λ same. apart (sym (named_by_number shape from is_from) ∙ ap (lock_named shape) (sym same) ∙ named_by_number shape to is_to) in
      let left_there : left_by (s.owner e) e (s.lists a) ≡ left =
      ap (λ (x : Bool). if x then without_free e (s.lists a) else without_row e (s.lists a)) lies.is
      ∙ ap (λ (l : Lists). if free then without_free e l else without_row e l) (under bounds within tied from is_from) ∙ left_is in
      let leaving : after_leaving shape (s.home e) (s.owner e) e s.lists ≡ put s.lists a left = ap (λ (h : Home). after_leaving shape h (s.owner e) e s.lists) lies.home ∙ ap (put s.lists a) left_there in
      let joining : joined_by to (s.owner e) e (put s.lists a left b) ≡ joined =
      ap (λ (l : Lists). joined_by to (s.owner e) e l) (put_else s.lists a left b numbers ∙ under bounds within tied to is_to)
      ∙ ap (λ (x : Bool). if x then with_free e (lists to) else with_row to e (lists to)) lies.is ∙ joined_is in
      let after_is : after_joining shape (homes.In to) (s.owner e) e (after_leaving shape (s.home e) (s.owner e) e s.lists) ≡ put (put s.lists a left) b joined =
      ap (λ (f : ℕ → Lists). after_joining shape (homes.In to) (s.owner e) e f) leaving ∙ ap (put (put s.lists a left) b) joining in
      record {
        enabled = can;
        tied = record {
          holders = tied.holders;
          lists_are = λ k. ap (λ (f : ℕ → Lists). f k) after_is ∙ put_named shape to is_to (put s.lists a left) (with_lists from left lists) (put_named shape from is_from s.lists lists tied.lists_are left) joined k;
          placed = step_keeps_places shape s (steps.Rehome cpu e (homes.In to)) bounds can tied.placed;
          known = tied.known;
        };
      }

  -- A listed element of the hand leaves all lists.
  pub taken_away_tied : (from : DomainId) (e : ℕ) (left : Lists) → IsTrue shape.common → IsTrue (is_lock shape from) → holder_of cpu held from ≡ Some cpu → LiesThere shape s from e false → Known cpu e → without_row e (lists from) ≡ left
      → Did shape cpu held (with_lists from left lists) Known s (steps.Rehome cpu e (homes.Hand cpu))
  taken_away_tied from e left common is_from mine lies hand left_is =
      let a : ℕ = lock_number shape from in
      let can : IsEnabled shape s (steps.Rehome cpu e (homes.Hand cpu)) = record {
        common = common;
        is_cpu = within;
        real = lies.real;
        from_there = subst (MayLeave shape s cpu) (sym lies.home) (record { is_cpu = within; is_lock = is_from; held = held_there bounds within tied from is_from mine });
        to_there = (refl, (tied.known cpu e hand).1);
      } in
      let left_there : left_by (s.owner e) e (s.lists a) ≡ left =
      ap (λ (x : Bool). if x then without_free e (s.lists a) else without_row e (s.lists a)) lies.is ∙ ap (without_row e) (under bounds within tied from is_from) ∙ left_is in
      let leaving : after_leaving shape (s.home e) (s.owner e) e s.lists ≡ put s.lists a left = ap (λ (h : Home). after_leaving shape h (s.owner e) e s.lists) lies.home ∙ ap (put s.lists a) left_there in
      record {
        enabled = can;
        tied = record {
          holders = tied.holders;
          lists_are = λ k. ap (λ (f : ℕ → Lists). f k) leaving ∙ put_named shape from is_from s.lists lists tied.lists_are left k;
          placed = step_keeps_places shape s (steps.Rehome cpu e (homes.Hand cpu)) bounds can tied.placed;
          known = tied.known;
        };
      }

  -- And one that is carried comes to the lists of a CPU.
  pub brought_tied : (to : DomainId) (c e : ℕ) (joined : Lists) → to ≡ Local c → IsTrue shape.common → IsTrue (is_lock shape (Local c)) → holder_of cpu held (Local c) ≡ Some cpu → Known cpu e → s.home e ≡ homes.Hand cpu → with_row (Local c) e (lists (Local c)) ≡ joined
      → Did shape cpu held (with_lists (Local c) joined lists) Known s (steps.Rehome cpu e (homes.In (Local c)))
  brought_tied to c e joined to_is common is_to mine hand home joined_is =
      let b : ℕ = lock_number shape (Local c) in
      let owner : s.owner e ≡ owners.Hand cpu = (tied.known cpu e hand).1 in
      let can : IsEnabled shape s (steps.Rehome cpu e (homes.In (Local c))) = record {
        common = common;
        is_cpu = within;
        real = (tied.known cpu e hand).0;
        from_there = subst (MayLeave shape s cpu) (sym home) refl;
        to_there = (record { is_cpu = within; is_lock = is_to; held = held_there bounds within tied (Local c) is_to mine }, subst (Rattle.place_words.specs.Steps.IsFreeOrInHand cpu) (sym owner) refl);
      } in
      let joining : joined_by (Local c) (s.owner e) e (s.lists b) ≡ joined =
      ap (λ (o : Owner). joined_by (Local c) o e (s.lists b)) owner ∙ ap (with_row (Local c) e) (under bounds within tied (Local c) is_to) ∙ joined_is in
      let after_is : after_joining shape (homes.In (Local c)) (s.owner e) e (after_leaving shape (s.home e) (s.owner e) e s.lists) ≡ put s.lists b joined =
      ap (λ (h : Home). after_joining shape (homes.In (Local c)) (s.owner e) e (after_leaving shape h (s.owner e) e s.lists)) home ∙ ap (put s.lists b) joining in
      record {
        enabled = can;
        tied = record {
          holders = tied.holders;
          lists_are = λ k. ap (λ (f : ℕ → Lists). f k) after_is ∙ put_named shape (Local c) is_to s.lists lists tied.lists_are joined k;
          placed = step_keeps_places shape s (steps.Rehome cpu e (homes.In (Local c))) bounds can tied.placed;
          known = tied.known;
        };
      }
