-- A core whose lists are changed at one place has the state that the step says.
use Rattle.std.proofs.Common.{◌≡◌, ℕ, zero, suc, ◌<◌, ◌≤◌, Bool, true, false, List, [], ◌∷◌, length, get_or, set, refl, ap, ◌∙◌, sym, subst, arith, get_or-set_same, get_or-set_other, length-set}
use Rattle.map_types.specs.declared.kind.DomainId.{DomainId}
use Rattle.map_types.specs.declared.kind.DomainId.TheVariants.{Bucket}
use Rattle.place_words.specs.declared.owner.Owner.{Owner}
use Rattle.place_words.specs.declared.owner.Owner.TheVariants as owners
use Rattle.place_words.specs.Locks.{lock_number}
use Rattle.place_words.proofs.LockLemmas.{number_within}
use Rattle.place_words.specs.declared.step.Lists.{Lists}
use Rattle.place_words.specs.declared.step.Step.{Step}
use Rattle.place_words.specs.declared.step.Step.TheVariants.{Claim, Settle, Attach, Detach, Mark}
use Rattle.map_types.specs.ElementLists.{put, times, IsIn, IsHead}
use Rattle.place_words.specs.State.{no_lists, rows, is_bucket}
use Rattle.std.specs.Prelude.{IsTrue}
use Rattle.map_types.specs.Kind.{is_lru}
use Rattle.map_types.proofs.RowLemmas.{times_append}
use Rattle.place_words.specs.Steps.{IsEnabled, after, Holds, with_owner, with_bit, with_free, without_free, with_row, without_row, CanClaim, IsLockHome, IsInHeldBucket}
use Rattle.place_core.specs.CoreView.{CoreView, state_of, IsCore}
use Rattle.place_core.specs.Answers.{Does}
use Rattle.place_words.proofs.ElementLemmas.{at_put}
use Rattle.place_words.proofs.RowLemmas.{at_most_one, stands_where, head_is_in}

-- a list that is set at one place, as a function
pub put_set : {A : Type 0} (l : List A) (i : ℕ) (x d : A) → i < length l → (λ (j : ℕ). get_or (set l i x) j d) ≡ put (λ (j : ℕ). get_or l j d) i x
put_set l i x d within = λ t j. at_each j t
  where
    at_each : (j : ℕ) → get_or (set l i x) j d ≡ put (λ (k : ℕ). get_or l k d) i x j
    at_each j = at_put (λ (k : ℕ). get_or l k d) i x (λ k y. get_or (set l i x) k d ≡ y) j (get_or-set_same l i x d within) (λ other. get_or-set_other l i j x d other)

-- the lock that a CPU holds is there
pub lock_within : (core : CoreView) (lock : DomainId) (cpu : ℕ) → IsCore core → Holds core.shape (state_of core) cpu lock → lock_number core.shape lock < length core.lists
lock_within core lock cpu is holds = let within = number_within core.shape lock holds.is_lock in omega (arith, is.locks)

-- what a core has under a lock, as an index reads it
pub at_any : {A : Type 0} (l : List A) (i : ℕ) (x d : A) → i < length l → x ≡ get_or l i x → get_or l i d ≡ x
at_any [] i x d within is = absurd (omega arith)
at_any (y ∷ ys) zero x d within is = sym is
at_any (y ∷ ys) (suc i) x d within is = at_any ys i x d (omega arith) is

-- one lock's lists and one element's owner
pub did_owner : (core : CoreView) (step : Step) (e : ℕ) (o : Owner) (lock : DomainId) (at : ℕ) (now : Lists) → IsCore core → at ≡ lock_number core.shape lock → at < length core.lists → e < core.shape.elements
    → IsEnabled core.shape (state_of core) step → after core.shape (state_of core) step ≡ with_owner core.shape (state_of core) e o lock now
    → Does core step record { shape = core.shape; held = core.held; lists = set core.lists at now; owners = set core.owners e o; homes = core.homes; bits = core.bits }
did_owner core step e o lock at now is at_is within real enabled leads =
    let there : e < length core.owners = omega (arith, is.owners) in
    record {
      enabled = enabled;
      changed = (λ i. record {
        holder = (state_of core).holder;
        lists = (put_set core.lists at now no_lists within ∙ ap (λ (k : ℕ). put (state_of core).lists k now) at_is) i;
        owner = put_set core.owners e o owners.Free there i;
        home = (state_of core).home;
        bit = (state_of core).bit;
      }) ∙ sym leads;
      room = record {
        shape = refl;
        locks = length-set core.lists at now;
        owners = length-set core.owners e o;
        homes = refl;
        bits = refl;
        held = is.held;
      };
    }

-- one element's bit
pub did_bit : (core : CoreView) (step : Step) (e : ℕ) (b : Bool) → IsCore core → e < core.shape.elements
    → IsEnabled core.shape (state_of core) step → after core.shape (state_of core) step ≡ with_bit (state_of core) e b
    → Does core step record { shape = core.shape; held = core.held; lists = core.lists; owners = core.owners; homes = core.homes; bits = set core.bits e b }
did_bit core step e b is real enabled leads =
    let there : e < length core.bits = omega (arith, is.bits) in
    record {
      enabled = enabled;
      changed = (λ i. record {
        holder = (state_of core).holder;
        lists = (state_of core).lists;
        owner = (state_of core).owner;
        home = (state_of core).home;
        bit = put_set core.bits e b false there i;
      }) ∙ sym leads;
      room = record { shape = refl; locks = refl; owners = refl; homes = refl; bits = length-set core.bits e b; held = is.held };
    }

-- what stands in a list of a core is an element
pub free_is_real : (core : CoreView) (e k : ℕ) → IsCore core → IsIn e ((state_of core).lists k).free → e < core.shape.elements
free_is_real core e k is inside = (stands_where core.shape.elements e _ _ (is.placed.placed.free k e) inside).real

pub row_is_real : (core : CoreView) (e k : ℕ) → IsCore core → IsIn e ((state_of core).lists k).first → e < core.shape.elements
row_is_real core e k is inside =
    let whole = times_append e ((state_of core).lists k).first ((state_of core).lists k).second in
    let some : IsIn e (rows ((state_of core).lists k)) = omega arith in
    (stands_where core.shape.elements e _ _ (is.placed.placed.rows k e) some).real

-- and stands there once
pub free_once : (core : CoreView) (e k : ℕ) → IsCore core → times e ((state_of core).lists k).free ≤ 1
free_once core e k is = subst (λ n. n ≤ 1) (sym (is.placed.placed.free k e)) (at_most_one _)

pub rows_once : (core : CoreView) (e k : ℕ) → IsCore core → times e (rows ((state_of core).lists k)) ≤ 1
rows_once core e k is = subst (λ n. n ≤ 1) (sym (is.placed.placed.rows k e)) (at_most_one _)

-- what is read of a core: the lists under a lock
pub record ReadsLists (core : CoreView) (lock : DomainId) (at : ℕ) (under : Lists) : Type 0 where
  pub at_is : at ≡ lock_number core.shape lock
  pub within : at < length core.lists
  pub under_is : (state_of core).lists (lock_number core.shape lock) ≡ under

pub reads : (core : CoreView) (lock : DomainId) (cpu at : ℕ) (under : Lists) → IsCore core → Holds core.shape (state_of core) cpu lock → at ≡ lock_number core.shape lock → under ≡ get_or core.lists at under → ReadsLists core lock at under
reads core lock cpu at under is holds at_is found =
    let there = lock_within core lock cpu is holds in
    let within : at < length core.lists = omega arith in
    record { at_is = at_is; within = within; under_is = ap (λ (k : ℕ). get_or core.lists k no_lists) (sym at_is) ∙ at_any core.lists at under no_lists within found }

pub did_claim : (core : CoreView) (cpu e : ℕ) (lock : DomainId) (at : ℕ) (under left now : Lists) → IsCore core → Holds core.shape (state_of core) cpu lock → ReadsLists core lock at under → IsHead e under.free → left ≡ without_free e under → now ≡ with_row lock e left
    → Does core (Claim cpu e lock) record { shape = core.shape; held = core.held; lists = set core.lists at now; owners = set core.owners e (owners.Hand cpu); homes = core.homes; bits = core.bits }
did_claim core cpu e lock at under left now is holds r head left_is now_is =
    let first = subst (λ (l : Lists). IsHead e l.free) (sym r.under_is) head in
    let real = free_is_real core e (lock_number core.shape lock) is (head_is_in e _ first) in
    let can : CanClaim core.shape (state_of core) cpu e lock = record { holds = holds; real = real; head = first } in
    did_owner core (Claim cpu e lock) e (owners.Hand cpu) lock at now is r.at_is r.within real can
    (ap (λ (l : Lists). with_owner core.shape (state_of core) e (owners.Hand cpu) lock (with_row lock e (without_free e l))) r.under_is ∙ ap (with_owner core.shape (state_of core) e (owners.Hand cpu) lock) (ap (with_row lock e) (sym left_is) ∙ sym now_is))

pub did_settle : (core : CoreView) (cpu e : ℕ) (lock : DomainId) (at : ℕ) (under left now : Lists) → IsCore core → Holds core.shape (state_of core) cpu lock → ReadsLists core lock at under → is_bucket lock ≡ false → e < core.shape.elements → (state_of core).owner e ≡ owners.Hand cpu → (IsTrue (is_lru core.shape.kind) → IsIn e (rows under)) → left ≡ without_row e under → now ≡ with_free e left
    → Does core (Settle cpu e lock) record { shape = core.shape; held = core.held; lists = set core.lists at now; owners = set core.owners e owners.Free; homes = core.homes; bits = core.bits }
did_settle core cpu e lock at under left now is holds r no_bucket real in_hand listed left_is now_is =
    did_owner core (Settle cpu e lock) e owners.Free lock at now is r.at_is r.within real
    record { holds = holds; has_free_list = no_bucket; real = real; in_hand = in_hand; listed = λ lru. subst (λ (l : Lists). IsIn e (rows l)) (sym r.under_is) (listed lru) }
    (ap (λ (l : Lists). with_owner core.shape (state_of core) e owners.Free lock (with_free e (without_row e l))) r.under_is ∙ ap (with_owner core.shape (state_of core) e owners.Free lock) (ap (with_free e) (sym left_is) ∙ sym now_is))

pub did_attach : (core : CoreView) (cpu e bucket : ℕ) (at : ℕ) (under now : Lists) → IsCore core → Holds core.shape (state_of core) cpu (Bucket bucket) → ReadsLists core (Bucket bucket) at under → e < core.shape.elements → (state_of core).owner e ≡ owners.Hand cpu → (IsTrue (is_lru core.shape.kind) → IsLockHome ((state_of core).home e)) → now ≡ with_row (Bucket bucket) e under
    → Does core (Attach cpu e bucket) record { shape = core.shape; held = core.held; lists = set core.lists at now; owners = set core.owners e (owners.Bucket bucket); homes = core.homes; bits = core.bits }
did_attach core cpu e bucket at under now is holds r real in_hand home now_is =
    did_owner core (Attach cpu e bucket) e (owners.Bucket bucket) (Bucket bucket) at now is r.at_is r.within real
    record { holds = holds; real = real; in_hand = in_hand; not_carried = home }
    (ap (λ (l : Lists). with_owner core.shape (state_of core) e (owners.Bucket bucket) (Bucket bucket) (with_row (Bucket bucket) e l)) r.under_is ∙ ap (with_owner core.shape (state_of core) e (owners.Bucket bucket) (Bucket bucket)) (sym now_is))

in_held_bucket : (core : CoreView) (cpu e bucket : ℕ) (at : ℕ) (under : Lists) → IsCore core → Holds core.shape (state_of core) cpu (Bucket bucket) → ReadsLists core (Bucket bucket) at under → IsIn e under.first → IsInHeldBucket core.shape (state_of core) cpu e bucket
in_held_bucket core cpu e bucket at under is holds r inside =
    let there = subst (λ (l : Lists). IsIn e l.first) (sym r.under_is) inside in
    record { holds = holds; real = row_is_real core e (lock_number core.shape (Bucket bucket)) is there; inside = there }

pub did_detach : (core : CoreView) (cpu e bucket : ℕ) (at : ℕ) (under now : Lists) → IsCore core → Holds core.shape (state_of core) cpu (Bucket bucket) → ReadsLists core (Bucket bucket) at under → IsIn e under.first → now ≡ without_row e under
    → Does core (Detach cpu e bucket) record { shape = core.shape; held = core.held; lists = set core.lists at now; owners = set core.owners e (owners.Hand cpu); homes = core.homes; bits = core.bits }
did_detach core cpu e bucket at under now is holds r inside now_is =
    let can = in_held_bucket core cpu e bucket at under is holds r inside in
    did_owner core (Detach cpu e bucket) e (owners.Hand cpu) (Bucket bucket) at now is r.at_is r.within can.real can
    (ap (λ (l : Lists). with_owner core.shape (state_of core) e (owners.Hand cpu) (Bucket bucket) (without_row e l)) r.under_is ∙ ap (with_owner core.shape (state_of core) e (owners.Hand cpu) (Bucket bucket)) (sym now_is))

pub did_mark : (core : CoreView) (cpu e bucket : ℕ) (at : ℕ) (under : Lists) → IsCore core → Holds core.shape (state_of core) cpu (Bucket bucket) → ReadsLists core (Bucket bucket) at under → IsIn e under.first
    → Does core (Mark cpu e bucket) record { shape = core.shape; held = core.held; lists = core.lists; owners = core.owners; homes = core.homes; bits = set core.bits e true }
did_mark core cpu e bucket at under is holds r inside =
    let can = in_held_bucket core cpu e bucket at under is holds r inside in
    did_bit core (Mark cpu e bucket) e true is can.real can refl

-- that an element which stands under a lock that is read is there
pub read_free_real : (core : CoreView) (e : ℕ) (lock : DomainId) (at : ℕ) (under : Lists) → IsCore core → ReadsLists core lock at under → IsHead e under.free → e < length core.owners
read_free_real core e lock at under is r head =
    let real = free_is_real core e (lock_number core.shape lock) is (head_is_in e _ (subst (λ (l : Lists). IsHead e l.free) (sym r.under_is) head)) in omega (arith, is.owners)

pub read_row_real : (core : CoreView) (e : ℕ) (lock : DomainId) (at : ℕ) (under : Lists) → IsCore core → ReadsLists core lock at under → IsIn e under.first → e < core.shape.elements
read_row_real core e lock at under is r inside =
    row_is_real core e (lock_number core.shape lock) is (subst (λ (l : Lists). IsIn e l.first) (sym r.under_is) inside)
