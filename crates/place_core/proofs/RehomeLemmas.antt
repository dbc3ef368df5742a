-- The lists of a core after an element went from one lock to another.
use Rattle.std.proofs.Common.{◌≡◌, ◌≢◌, ℕ, ◌<◌, List, length, get_or, set, refl, ap, ◌∙◌, sym, subst, arith, length-set}
use Rattle.std.specs.Prelude.{IsTrue}
use Rattle.map_types.specs.declared.kind.DomainId.{DomainId}
use Rattle.place_words.specs.declared.owner.Owner.{Owner}
use Rattle.place_words.specs.declared.owner.Owner.TheVariants as owners
use Rattle.place_words.specs.declared.home.Home.{Home}
use Rattle.place_words.specs.declared.home.Home.TheVariants as homes
use Rattle.place_words.specs.Locks.{lock_number}
use Rattle.place_words.specs.declared.step.Lists.{Lists}
use Rattle.place_words.specs.declared.step.Step.TheVariants.{Rehome}
use Rattle.map_types.specs.ElementLists.{put}
use Rattle.place_words.specs.State.{no_lists}
use Rattle.place_words.specs.Steps.{left_by, joined_by, after_leaving, after_joining, MayLeave, MayEnter, CanRehome}
use Rattle.place_core.specs.CoreView.{CoreView, state_of, IsCore}
use Rattle.place_core.specs.Answers.{Does}
use Rattle.place_words.proofs.ElementLemmas.{put_here, put_else}
use Rattle.place_core.proofs.CoreLemmas.{put_set, at_any}
use Rattle.place_core.proofs.HeldLemmas.{did_rehome}

pub under_here : (lists : List Lists) (other number : ℕ) (now : Lists) → number ≡ other → now ≡ put (λ (k : ℕ). get_or lists k no_lists) other now number
under_here lists other number now is =
    sym (ap (put (λ (k : ℕ). get_or lists k no_lists) other now) is ∙ put_here (λ (k : ℕ). get_or lists k no_lists) other now)

pub under_else : (lists : List Lists) (other number : ℕ) (now found : Lists) → number < length lists → number ≢ other → found ≡ get_or lists number found → found ≡ put (λ (k : ℕ). get_or lists k no_lists) other now number
under_else lists other number now found within apart is =
    sym (put_else (λ (k : ℕ). get_or lists k no_lists) other now number apart ∙ at_any lists number found no_lists within is)

module _ (core : CoreView) (e : ℕ) (owner : Owner) where
  left_lists : (from : DomainId) (first : ℕ) (under left : Lists) → first < length core.lists → under ≡ get_or core.lists first under → left ≡ left_by owner e under → first ≡ lock_number core.shape from
      → (λ (k : ℕ). get_or (set core.lists first left) k no_lists) ≡ after_leaving core.shape (homes.In from) owner e (state_of core).lists
  left_lists from first under left within found left_is first_is =
      let there = at_any core.lists first under no_lists within found in
      put_set core.lists first left no_lists within ∙ (ap (put (state_of core).lists first) (left_is ∙ ap (left_by owner e) (sym there)) ∙ ap (λ (k : ℕ). put (state_of core).lists k (left_by owner e ((state_of core).lists k))) first_is)

  joined_lists : (target : DomainId) (second : ℕ) (under joined : Lists) → second < length core.lists → under ≡ get_or core.lists second under → joined ≡ joined_by target owner e under → second ≡ lock_number core.shape target
      → (λ (k : ℕ). get_or (set core.lists second joined) k no_lists) ≡ after_joining core.shape (homes.In target) owner e (state_of core).lists
  joined_lists target second under joined within found joined_is second_is =
      let there = at_any core.lists second under no_lists within found in
      put_set core.lists second joined no_lists within ∙ (ap (put (state_of core).lists second) (joined_is ∙ ap (joined_by target owner e) (sym there)) ∙ ap (λ (k : ℕ). put (state_of core).lists k (joined_by target owner e ((state_of core).lists k))) second_is)

  both_lists : (from target : DomainId) (first second : ℕ) (under left middle joined : Lists) → first < length core.lists → second < length core.lists → under ≡ get_or core.lists first under → left ≡ left_by owner e under → first ≡ lock_number core.shape from
      → middle ≡ put (state_of core).lists first left second → joined ≡ joined_by target owner e middle → second ≡ lock_number core.shape target
      → (λ (k : ℕ). get_or (set (set core.lists first left) second joined) k no_lists) ≡ after_joining core.shape (homes.In target) owner e (after_leaving core.shape (homes.In from) owner e (state_of core).lists)
  both_lists from target first second under left middle joined within there found left_is first_is middle_is joined_is second_is =
      let gone = left_lists from first under left within found left_is first_is in
      let long : second < length (set core.lists first left) = subst (λ (n : ℕ). second < n) (sym (length-set core.lists first left)) there in
      put_set (set core.lists first left) second joined no_lists long
      ∙ (ap (put (λ (k : ℕ). get_or (set core.lists first left) k no_lists) second) (joined_is ∙ ap (joined_by target owner e) (middle_is ∙ ap (λ (f : ℕ → Lists). f second) (sym (put_set core.lists first left no_lists within))))
      ∙ ((λ i. put (gone i) second (joined_by target owner e (gone i second)))
      ∙ ap (λ (k : ℕ). put (after_leaving core.shape (homes.In from) owner e (state_of core).lists) k (joined_by target owner e (after_leaving core.shape (homes.In from) owner e (state_of core).lists k))) second_is))

-- the owner and the home that were read are those of the state
pub record ReadsWords (core : CoreView) (e : ℕ) (owner : Owner) (home : Home) : Type 0 where
  pub owner_is : (state_of core).owner e ≡ owner
  pub home_is : (state_of core).home e ≡ home

pub reads_words : (core : CoreView) (e : ℕ) (owner : Owner) (home : Home) → IsCore core → e < core.shape.elements → owner ≡ get_or core.owners e owner → home ≡ get_or core.homes e home → ReadsWords core e owner home
reads_words core e owner home is real owner_is home_is =
    let in_owners : e < length core.owners = omega (arith, is.owners) in
    let in_homes : e < length core.homes = omega (arith, is.homes) in
    record { owner_is = at_any core.owners e owner owners.Free in_owners owner_is; home_is = at_any core.homes e home homes.Unlisted in_homes home_is }

pub can_rehome : (core : CoreView) (cpu e : ℕ) (to : Home) (owner : Owner) (home : Home) → IsTrue core.shape.common → cpu < core.shape.cpus → e < core.shape.elements → ReadsWords core e owner home → MayLeave core.shape (state_of core) cpu home → MayEnter core.shape (state_of core) cpu owner to → CanRehome core.shape (state_of core) cpu e to
can_rehome core cpu e to owner home common few real words leave enter = record {
  common = common;
  is_cpu = few;
  real = real;
  from_there = subst (MayLeave core.shape (state_of core) cpu) (sym words.home_is) leave;
  to_there = subst (λ (o : Owner). MayEnter core.shape (state_of core) cpu o to) (sym words.owner_is) enter;
}

-- the step is done where the lists are as it says for this owner and this home
pub does_rehome : (core : CoreView) (cpu e : ℕ) (to : Home) (owner : Owner) (home : Home) (lists : List Lists) → IsCore core → ReadsWords core e owner home → CanRehome core.shape (state_of core) cpu e to → length lists ≡ length core.lists
    → (λ (k : ℕ). get_or lists k no_lists) ≡ after_joining core.shape to owner e (after_leaving core.shape home owner e (state_of core).lists)
    → Does core (Rehome cpu e to) record { shape = core.shape; held = core.held; lists = lists; owners = core.owners; homes = set core.homes e to; bits = core.bits }
does_rehome core cpu e to owner home lists is words can long leads =
    did_rehome core cpu e to lists is can.real can long (leads ∙ (λ i. after_joining core.shape to (sym words.owner_is i) e (after_leaving core.shape (sym words.home_is i) (sym words.owner_is i) e (state_of core).lists)))

module _ (core : CoreView) (cpu e : ℕ) (to : Home) (owner : Owner) (home : Home) (is : IsCore core) (words : ReadsWords core e owner home) (can : CanRehome core.shape (state_of core) cpu e to) where
  pub rehome_both : (from target : DomainId) (first second : ℕ) (under left middle joined : Lists) → home ≡ homes.In from → to ≡ homes.In target → first < length core.lists → second < length core.lists → under ≡ get_or core.lists first under → left ≡ left_by owner e under → first ≡ lock_number core.shape from
      → middle ≡ put (state_of core).lists first left second → joined ≡ joined_by target owner e middle → second ≡ lock_number core.shape target
      → Does core (Rehome cpu e to) record { shape = core.shape; held = core.held; lists = set (set core.lists first left) second joined; owners = core.owners; homes = set core.homes e to; bits = core.bits }
  rehome_both from target first second under left middle joined home_is to_is within there found left_is first_is middle_is joined_is second_is =
      does_rehome core cpu e to owner home (set (set core.lists first left) second joined) is words can (length-set (set core.lists first left) second joined ∙ length-set core.lists first left)
      (both_lists core e owner from target first second under left middle joined within there found left_is first_is middle_is joined_is second_is ∙ (λ i. after_joining core.shape (sym to_is i) owner e (after_leaving core.shape (sym home_is i) owner e (state_of core).lists)))

  pub rehome_off : (from : DomainId) (hand first : ℕ) (under left : Lists) → home ≡ homes.In from → to ≡ homes.Hand hand → first < length core.lists → under ≡ get_or core.lists first under → left ≡ left_by owner e under → first ≡ lock_number core.shape from
      → Does core (Rehome cpu e to) record { shape = core.shape; held = core.held; lists = set core.lists first left; owners = core.owners; homes = set core.homes e to; bits = core.bits }
  rehome_off from hand first under left home_is to_is within found left_is first_is =
      does_rehome core cpu e to owner home (set core.lists first left) is words can (length-set core.lists first left)
      (left_lists core e owner from first under left within found left_is first_is ∙ (λ i. after_joining core.shape (sym to_is i) owner e (after_leaving core.shape (sym home_is i) owner e (state_of core).lists)))

  pub rehome_on : (target : DomainId) (hand second : ℕ) (under joined : Lists) → home ≡ homes.Hand hand → to ≡ homes.In target → second < length core.lists → under ≡ get_or core.lists second under → joined ≡ joined_by target owner e under → second ≡ lock_number core.shape target
      → Does core (Rehome cpu e to) record { shape = core.shape; held = core.held; lists = set core.lists second joined; owners = core.owners; homes = set core.homes e to; bits = core.bits }
  rehome_on target hand second under joined home_is to_is within found joined_is second_is =
      does_rehome core cpu e to owner home (set core.lists second joined) is words can (length-set core.lists second joined)
      (joined_lists core e owner target second under joined within found joined_is second_is ∙ (λ i. after_joining core.shape (sym to_is i) owner e (after_leaving core.shape (sym home_is i) owner e (state_of core).lists)))

  pub rehome_carried : (hand other : ℕ) → home ≡ homes.Hand hand → to ≡ homes.Hand other
      → Does core (Rehome cpu e to) record { shape = core.shape; held = core.held; lists = core.lists; owners = core.owners; homes = set core.homes e to; bits = core.bits }
  rehome_carried hand other home_is to_is =
      does_rehome core cpu e to owner home core.lists is words can refl (λ i. after_joining core.shape (sym to_is i) owner e (after_leaving core.shape (sym home_is i) owner e (state_of core).lists))
