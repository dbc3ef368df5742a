-- The locks that are held: one more, and one less.
use Rattle.std.proofs.Common.{◌≡◌, ◌≢◌, ℕ, ◌<◌, ◌≤◌, Bool, true, false, ◌||◌, not, cond, eqb, ltb, List, [], ◌∷◌, ◌++◌, length, get_or, set, Option, None, Some, refl, ap, ◌∙◌, sym, subst, ⊎_elim, inl, ◌⊎◌, arith, length-set}
use Rattle.std.specs.Prelude.{filter, is_some, IsTrue, MatchBool}
use Rattle.std.specs.List.{list_all}
use Rattle.std.proofs.lemmas.Bool.{cases_Bool, and_parts, and_cases, or_cases, or_parts, not-true, not-false, ltb-true, ltb-false, eqb-true, eq-eqb, ne_eqb}
use Rattle.map_types.specs.declared.attr.Shape.{Shape}
use Rattle.map_types.specs.declared.kind.DomainId.{DomainId}
use Rattle.place_words.specs.Locks.{rank_of, is_lock, lock_number, lock_named}
use Rattle.place_words.specs.declared.owner.Owner.{Owner}
use Rattle.place_words.specs.declared.owner.Owner.TheVariants as owners
use Rattle.place_words.specs.declared.home.Home.{Home}
use Rattle.place_words.specs.declared.home.Home.TheVariants as homes
use Rattle.place_words.specs.declared.step.Lists.{Lists}
use Rattle.place_words.specs.declared.step.Step.TheVariants.{Take, Give, Rehome, Clear}
use Rattle.map_types.specs.ElementLists.{put, times}
use Rattle.map_types.proofs.RowLemmas.{by_test}
use Rattle.place_words.specs.State.{no_lists, rows, HasOnlyItsLists, HasCursorInside}
use Rattle.place_words.specs.Steps.{Holds, CanTake, CanRehome, IsHeldHome, after_leaving, after_joining}
use Rattle.place_core.specs.CoreView.{CoreView, holder_in, AreHolds, state_of, IsCore}
use Rattle.place_core.specs.Answers.{Does}
use Rattle.place_words.proofs.ElementLemmas.{at_put}
use Rattle.place_core.proofs.CoreLemmas.{put_set, ReadsLists, at_any, did_bit, free_once, rows_once}

holder_new : (k cpu : ℕ) (held : List (ℕ × ℕ)) → holder_in k held ≡ None → holder_in k (held ++ (k, cpu) ∷ []) ≡ Some cpu
holder_new k cpu [] none = ap (λ b. cond {A = Option ℕ} b (Some cpu) None) (eq-eqb k k refl)
holder_new k cpu (h ∷ hs) none =
    by_test h.0 k (λ b. cond {A = Option ℕ} b (Some h.1) (holder_in k hs) ≡ None → cond {A = Option ℕ} b (Some h.1) (holder_in k (hs ++ (k, cpu) ∷ [])) ≡ Some cpu)
    (λ _ some. absurd cc)
    (λ _ rest. holder_new k cpu hs rest) none

holder_other : (j k cpu : ℕ) (held : List (ℕ × ℕ)) → j ≢ k → holder_in j (held ++ (k, cpu) ∷ []) ≡ holder_in j held
holder_other j k cpu [] other = ap (λ b. cond {A = Option ℕ} b (Some cpu) None) (ne_eqb k j (λ is. other (sym is)))
holder_other j k cpu (h ∷ hs) other = ap (λ o. cond {A = Option ℕ} (eqb h.0 j) (Some h.1) o) (holder_other j k cpu hs other)

holder_kept : (j k cpu c : ℕ) (held : List (ℕ × ℕ)) → holder_in j held ≡ Some c → holder_in j (held ++ (k, cpu) ∷ []) ≡ Some c
holder_kept j k cpu c [] is = absurd cc
holder_kept j k cpu c (h ∷ hs) is =
    by_test h.0 j (λ b. cond {A = Option ℕ} b (Some h.1) (holder_in j hs) ≡ Some c → cond {A = Option ℕ} b (Some h.1) (holder_in j (hs ++ (k, cpu) ∷ [])) ≡ Some c)
    (λ _ here. here)
    (λ _ rest. holder_kept j k cpu c hs rest) is

holds_more : (k cpu : ℕ) (held holds : List (ℕ × ℕ)) → holder_in k held ≡ None → AreHolds held holds → AreHolds (held ++ (k, cpu) ∷ []) (holds ++ (k, cpu) ∷ [])
holds_more k cpu held [] none are = (holder_new k cpu held none, tt)
holds_more k cpu held (h ∷ hs) none are = (holder_kept h.0 k cpu h.1 held are.0, holds_more k cpu held hs none are.1)

-- without the hold of a lock
holder_gone : (k : ℕ) (held : List (ℕ × ℕ)) → holder_in k (filter (λ hold. not (eqb hold.0 k)) held) ≡ None
holder_gone k [] = refl
holder_gone k (h ∷ hs) =
    ⊎_elim
    (λ (is : eqb h.0 k ≡ true). ap (λ b. holder_in k (cond {A = List (ℕ × ℕ)} (not b) (h ∷ filter (λ hold. not (eqb hold.0 k)) hs) (filter (λ hold. not (eqb hold.0 k)) hs))) is ∙ holder_gone k hs)
    (λ (other : eqb h.0 k ≡ false). ap (λ b. holder_in k (cond {A = List (ℕ × ℕ)} (not b) (h ∷ filter (λ hold. not (eqb hold.0 k)) hs) (filter (λ hold. not (eqb hold.0 k)) hs))) other ∙ (ap (λ b. cond {A = Option ℕ} b (Some h.1) (holder_in k (filter (λ hold. not (eqb hold.0 k)) hs))) other ∙ holder_gone k hs))
    (cases_Bool (eqb h.0 k))

holder_left : (j k : ℕ) (held : List (ℕ × ℕ)) → j ≢ k → holder_in j (filter (λ hold. not (eqb hold.0 k)) held) ≡ holder_in j held
holder_left j k [] apart = refl
holder_left j k (h ∷ hs) apart =
    ⊎_elim
    (λ (is : eqb h.0 k ≡ true). ap (λ b. holder_in j (cond {A = List (ℕ × ℕ)} (not b) (h ∷ filter (λ hold. not (eqb hold.0 k)) hs) (filter (λ hold. not (eqb hold.0 k)) hs))) is ∙ (holder_left j k hs apart ∙ sym (ap (λ b. cond {A = Option ℕ} b (Some h.1) (holder_in j hs)) (ne_eqb h.0 j (λ same. apart (sym same ∙ eqb-true h.0 k is))))))
    (λ (other : eqb h.0 k ≡ false). ap (λ b. holder_in j (cond {A = List (ℕ × ℕ)} (not b) (h ∷ filter (λ hold. not (eqb hold.0 k)) hs) (filter (λ hold. not (eqb hold.0 k)) hs))) other ∙ ap (λ o. cond {A = Option ℕ} (eqb h.0 j) (Some h.1) o) (holder_left j k hs apart))
    (cases_Bool (eqb h.0 k))

holds_less : (k : ℕ) (held holds : List (ℕ × ℕ)) → AreHolds held holds → AreHolds (filter (λ hold. not (eqb hold.0 k)) held) (filter (λ hold. not (eqb hold.0 k)) holds)
holds_less k held [] are = tt
holds_less k held (h ∷ hs) are =
    ⊎_elim
    (λ (is : eqb h.0 k ≡ true). subst (λ b. AreHolds (filter (λ hold. not (eqb hold.0 k)) held) (cond {A = List (ℕ × ℕ)} (not b) (h ∷ filter (λ hold. not (eqb hold.0 k)) hs) (filter (λ hold. not (eqb hold.0 k)) hs))) (sym is) (holds_less k held hs are.1))
    (λ (other : eqb h.0 k ≡ false). subst (λ b. AreHolds (filter (λ hold. not (eqb hold.0 k)) held) (cond {A = List (ℕ × ℕ)} (not b) (h ∷ filter (λ hold. not (eqb hold.0 k)) hs) (filter (λ hold. not (eqb hold.0 k)) hs))) (sym other)
    (holder_left h.0 k held (λ same. let is : eqb h.0 k ≡ true = eq-eqb h.0 k same in cc) ∙ are.0, holds_less k held hs are.1))
    (cases_Bool (eqb h.0 k))

-- ranks of what is held
abbrev pub is_below : Shape → ℕ → ℕ → (ℕ × ℕ) → Bool
is_below shape cpu rank hold = not (eqb hold.1 cpu) || ltb (rank_of (lock_named shape hold.0)) rank

all_below : (shape : Shape) (cpu rank j : ℕ) (held : List (ℕ × ℕ)) → list_all (is_below shape cpu rank) held ≡ true → holder_in j held ≡ Some cpu → rank_of (lock_named shape j) < rank
all_below shape cpu rank j [] all is = absurd cc
all_below shape cpu rank j (h ∷ hs) all is =
    let parts = and_parts (is_below shape cpu rank h) (list_all (is_below shape cpu rank) hs) all in
    by_test h.0 j (λ b. cond {A = Option ℕ} b (Some h.1) (holder_in j hs) ≡ Some cpu → rank_of (lock_named shape j) < rank)
    (λ here found. let same : h.1 ≡ cpu = cc in
    ⊎_elim
    (λ (other : not (eqb h.1 cpu) ≡ true). let is_not = not-true (eqb h.1 cpu) other in let is_one = eq-eqb h.1 cpu same in absurd cc)
    (λ (low : ltb (rank_of (lock_named shape h.0)) rank ≡ true). subst (λ (x : ℕ). rank_of (lock_named shape x) < rank) here (ltb-true _ _ low))
    (or_cases (not (eqb h.1 cpu)) (ltb (rank_of (lock_named shape h.0)) rank) parts.0))
    (λ _ rest. all_below shape cpu rank j hs parts.1 rest) is

not_all_below : (shape : Shape) (cpu rank : ℕ) (held holds : List (ℕ × ℕ)) → AreHolds held holds → list_all (is_below shape cpu rank) holds ≡ false → ((j : ℕ) → holder_in j held ≡ Some cpu → rank_of (lock_named shape j) < rank) → ⊥
not_all_below shape cpu rank held [] are some all = absurd cc
not_all_below shape cpu rank held (h ∷ hs) are some all =
    ⊎_elim
    (λ (here : is_below shape cpu rank h ≡ false).
    let parts = or_parts (not (eqb h.1 cpu)) (ltb (rank_of (lock_named shape h.0)) rank) here in
    let same = eqb-true h.1 cpu (not-false (eqb h.1 cpu) parts.0) in
    let low = all h.0 (are.0 ∙ ap Some same) in
    let high = ltb-false (rank_of (lock_named shape h.0)) rank parts.1 in
    omega arith)
    (λ (rest : list_all (is_below shape cpu rank) hs ≡ false). not_all_below shape cpu rank held hs are.1 rest all)
    (and_cases (is_below shape cpu rank h) (list_all (is_below shape cpu rank) hs) some)

-- the steps
pub did_take : (core : CoreView) (cpu number : ℕ) (lock : DomainId) (held : List (ℕ × ℕ)) → IsCore core → cpu < core.shape.cpus → IsTrue (is_lock core.shape lock) → number ≡ lock_number core.shape lock → holder_in number core.held ≡ None → list_all (is_below core.shape cpu (rank_of lock)) core.held ≡ true → held ≡ core.held ++ (number, cpu) ∷ []
    → Does core (Take cpu lock) record { shape = core.shape; held = held; lists = core.lists; owners = core.owners; homes = core.homes; bits = core.bits }
did_take core cpu number lock held is few is_one number_is nobody below held_is =
    subst (λ (hs : List (ℕ × ℕ)). Does core (Take cpu lock) record { shape = core.shape; held = hs; lists = core.lists; owners = core.owners; homes = core.homes; bits = core.bits }) (sym held_is) record {
      enabled = record { is_cpu = few; is_lock = is_one; nobody = ap (λ (k : ℕ). holder_in k core.held) (sym number_is) ∙ nobody; above = λ j at_j. all_below core.shape cpu (rank_of lock) j core.held below at_j };
      changed = λ i. record {
        holder = ((λ t k. holder_at k t) ∙ ap (λ (k : ℕ). put (state_of core).holder k (Some cpu)) number_is) i;
        lists = (state_of core).lists;
        owner = (state_of core).owner;
        home = (state_of core).home;
        bit = (state_of core).bit;
      };
      room = record { shape = refl; locks = refl; owners = refl; homes = refl; bits = refl; held = holds_more number cpu core.held core.held nobody is.held };
    }
  where
    holder_at : (k : ℕ) → holder_in k (core.held ++ (number, cpu) ∷ []) ≡ put (λ (j : ℕ). holder_in j core.held) number (Some cpu) k
    holder_at k = at_put (λ (j : ℕ). holder_in j core.held) number (Some cpu) (λ j h. holder_in j (core.held ++ (number, cpu) ∷ []) ≡ h) k (holder_new number cpu core.held nobody) (λ other. holder_other k number cpu core.held other)

pub no_take : (core : CoreView) (cpu : ℕ) (lock : DomainId) → IsCore core → list_all (is_below core.shape cpu (rank_of lock)) core.held ≡ false → CanTake core.shape (state_of core) cpu lock → ⊥
no_take core cpu lock is some can = not_all_below core.shape cpu (rank_of lock) core.held core.held is.held some can.above

pub did_give : (core : CoreView) (cpu number : ℕ) (lock : DomainId) (under lists now : Lists) (held : List (ℕ × ℕ)) → IsCore core → Holds core.shape (state_of core) cpu lock → ReadsLists core lock number under → HasOnlyItsLists lock lists → HasCursorInside lists
    → ((e : ℕ) → times e lists.free ≡ times e under.free) → ((e : ℕ) → times e (rows lists) ≡ times e (rows under)) → now ≡ lists → held ≡ filter (λ hold. not (eqb hold.0 number)) core.held
    → Does core (Give cpu lock lists) record { shape = core.shape; held = held; lists = set core.lists number now; owners = core.owners; homes = core.homes; bits = core.bits }
did_give core cpu number lock under lists now held is holds r own cursor same_free same_rows now_is held_is =
    subst (λ (x : List (ℕ × ℕ) × Lists). Does core (Give cpu lock lists) record { shape = core.shape; held = x.0; lists = set core.lists number x.1; owners = core.owners; homes = core.homes; bits = core.bits }) (λ i. (sym held_is i, sym now_is i)) record {
      enabled = record {
        holds = holds;
        fit = own;
        same_free = free_stays;
        same_rows = rows_stay;
        free_once = λ e. subst (λ n. n ≤ 1) (sym (free_stays e)) (free_once core e (lock_number core.shape lock) is);
        rows_once = λ e. subst (λ n. n ≤ 1) (sym (rows_stay e)) (rows_once core e (lock_number core.shape lock) is);
        cursor = cursor;
      };
      changed = λ i. record {
        holder = ((λ t k. holder_at k t) ∙ ap (λ (k : ℕ). put (state_of core).holder k None) r.at_is) i;
        lists = (put_set core.lists number lists no_lists r.within ∙ ap (λ (k : ℕ). put (state_of core).lists k lists) r.at_is) i;
        owner = (state_of core).owner;
        home = (state_of core).home;
        bit = (state_of core).bit;
      };
      room = record { shape = refl; locks = length-set core.lists number lists; owners = refl; homes = refl; bits = refl; held = holds_less number core.held core.held is.held };
    }
  where
    free_stays : (e : ℕ) → times e lists.free ≡ times e ((state_of core).lists (lock_number core.shape lock)).free
    free_stays e = same_free e ∙ ap (λ (l : Lists). times e l.free) (sym r.under_is)

    rows_stay : (e : ℕ) → times e (rows lists) ≡ times e (rows ((state_of core).lists (lock_number core.shape lock)))
    rows_stay e = same_rows e ∙ ap (λ (l : Lists). times e (rows l)) (sym r.under_is)

    holder_at : (k : ℕ) → holder_in k (filter (λ hold. not (eqb hold.0 number)) core.held) ≡ put (λ (j : ℕ). holder_in j core.held) number None k
    holder_at k = at_put (λ (j : ℕ). holder_in j core.held) number None (λ j h. holder_in j (filter (λ hold. not (eqb hold.0 number)) core.held) ≡ h) k (holder_gone number core.held) (λ other. holder_left k number core.held other)

pub none_of : (o : Option ℕ) (b : Bool) → b ≡ is_some o → b ≡ false → o ≡ None
none_of None b is none = refl
none_of (Some x) b is none = absurd cc

-- a fact, where another one fails
pub either_left : (P Q : Type 0) (b : Bool) → (Q → ⊥) → MatchBool b P (P → ⊥) → MatchBool b (P ⊎ Q) (P ⊎ Q → ⊥)
either_left P Q true fails holds = inl holds
either_left P Q false fails holds = λ either. ⊎_elim (λ (p : P). holds p) (λ (q : Q). fails q) either

-- an element's home, and the lists that it leaves and joins
pub did_rehome : (core : CoreView) (cpu e : ℕ) (to : Home) (lists : List Lists) → IsCore core → e < core.shape.elements → CanRehome core.shape (state_of core) cpu e to → length lists ≡ length core.lists
    → (λ (k : ℕ). get_or lists k no_lists) ≡ after_joining core.shape to ((state_of core).owner e) e (after_leaving core.shape ((state_of core).home e) ((state_of core).owner e) e (state_of core).lists)
    → Does core (Rehome cpu e to) record { shape = core.shape; held = core.held; lists = lists; owners = core.owners; homes = set core.homes e to; bits = core.bits }
did_rehome core cpu e to lists is real can as_long leads =
    let there : e < length core.homes = omega (arith, is.homes) in
    record {
      enabled = can;
      changed = λ i. record {
        holder = (state_of core).holder;
        lists = leads i;
        owner = (state_of core).owner;
        home = put_set core.homes e to homes.Unlisted there i;
        bit = (state_of core).bit;
      };
      room = record { shape = refl; locks = as_long; owners = refl; homes = length-set core.homes e to; bits = refl; held = is.held };
    }

pub did_clear : (core : CoreView) (cpu e : ℕ) (owner : Owner) (home : Home) → IsCore core → cpu < core.shape.cpus → e < core.shape.elements → owner ≡ get_or core.owners e owner → home ≡ get_or core.homes e home → IsHeldHome core.shape (state_of core) cpu home ⊎ (owner ≡ owners.Hand cpu)
    → Does core (Clear cpu e) record { shape = core.shape; held = core.held; lists = core.lists; owners = core.owners; homes = core.homes; bits = set core.bits e false }
did_clear core cpu e owner home is few real owner_is home_is allowed =
    let in_owners : e < length core.owners = omega (arith, is.owners) in
    let in_homes : e < length core.homes = omega (arith, is.homes) in
    let at_owner = at_any core.owners e owner owners.Free in_owners owner_is in
    let at_home = at_any core.homes e home homes.Unlisted in_homes home_is in
    did_bit core (Clear cpu e) e false is real
    record { is_cpu = few; real = real; allowed = subst (λ (x : Owner × Home). IsHeldHome core.shape (state_of core) cpu x.1 ⊎ (x.0 ≡ owners.Hand cpu)) (λ i. (sym at_owner i, sym at_home i)) allowed } refl
