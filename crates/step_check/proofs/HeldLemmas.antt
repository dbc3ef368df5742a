-- The locks that are held: one more, and one less.
use Rattle.std.proofs.Common.{◌≡◌, ◌≢◌, ℕ, zero, suc, ◌<◌, ◌≤◌, Bool, true, false, ◌||◌, not, cond, eqb, ltb, List, [], ◌∷◌, ◌++◌, length, get_or, set, Option, None, Some, refl, ap, ◌∙◌, sym, subst, ⊎_elim, arith, length-set, get_or-set_same, get_or-set_other}
use Rattle.std.specs.Prelude.{filter, is_some, IsTrue, MatchBool}
use Rattle.std.proofs.lemmas.List.{get_or_past}
use Rattle.std.specs.List.{list_all}
use Rattle.std.proofs.lemmas.Bool.{cases_Bool, and_parts, and_cases, or_cases, or_parts, not-true, not-false, ltb-true, ltb-false, eqb-true, eq-eqb, ne_eqb}
use Rattle.map_types.specs.declared.attr.Shape.{Shape}
use Rattle.map_types.specs.declared.kind.DomainId.{DomainId}
use Rattle.map_types.specs.ElementLists.{put}
use Rattle.map_types.proofs.RowLemmas.{by_test}
use Rattle.place_words.specs.Locks.{rank_of, is_lock, lock_number, lock_named}
use Rattle.place_words.specs.declared.owner.Owner.{Owner}
use Rattle.place_words.specs.declared.owner.Owner.TheVariants as owners
use Rattle.place_words.specs.declared.home.Home.{Home}
use Rattle.place_words.specs.declared.home.Home.TheVariants as homes
use Rattle.place_words.proofs.ElementLemmas.{at_put}
use Rattle.core_runs.specs.Words.{HoldsWord, TakesWord, with_holder_word, with_owner_word}
use Rattle.step_check.specs.WordsView.{WordsView, holder_in, AreHolds, words_in, AreWords}
use Rattle.step_check.specs.Answers.{Did, with_home_word}

holder_new : (k cpu : ℕ) (held : List (ℕ × ℕ)) → holder_in k held ≡ None → holder_in k (held ++ (k, cpu) ∷ []) ≡ Some cpu
holder_new k cpu [] none = ap (λ b. cond {A = Option ℕ} b (Some cpu) None) (eq-eqb k k refl)
holder_new k cpu (h ∷ hs) none =
    by_test h.0 k (λ b. cond {A = Option ℕ} b (Some h.1) (holder_in k hs) ≡ None → cond {A = Option ℕ} b (Some h.1) (holder_in k (hs ++ (k, cpu) ∷ [])) ≡ Some cpu)
    (λ _ some. absurd cc)
    (λ _ rest. holder_new k cpu hs rest) none

holder_other : (j k cpu : ℕ) (held : List (ℕ × ℕ)) → j ≢ k → holder_in j (held ++ (k, cpu) ∷ []) ≡ holder_in j held
holder_other j k cpu [] other = ap (λ b. cond {A = Option ℕ} b (Some cpu) None) (ne_eqb k j (λ is. other (sym is)))
holder_other j k cpu (h ∷ hs) other = ap (λ o. cond {A = Option ℕ} (eqb h.0 j) (Some h.1) o) (holder_other j k cpu hs other)

holder_kept : (j k cpu c : ℕ) (held : List (ℕ × ℕ)) → holder_in j held ≡ Some c → holder_in j (held ++ (k, cpu) ∷ []) ≡ Some c
holder_kept j k cpu c [] is = absurd cc
holder_kept j k cpu c (h ∷ hs) is =
    by_test h.0 j (λ b. cond {A = Option ℕ} b (Some h.1) (holder_in j hs) ≡ Some c → cond {A = Option ℕ} b (Some h.1) (holder_in j (hs ++ (k, cpu) ∷ [])) ≡ Some c)
    (λ _ here. here)
    (λ _ rest. holder_kept j k cpu c hs rest) is

holds_more : (k cpu : ℕ) (held holds : List (ℕ × ℕ)) → holder_in k held ≡ None → AreHolds held holds → AreHolds (held ++ (k, cpu) ∷ []) (holds ++ (k, cpu) ∷ [])
holds_more k cpu held [] none are = (holder_new k cpu held none, tt)
holds_more k cpu held (h ∷ hs) none are = (holder_kept h.0 k cpu h.1 held are.0, holds_more k cpu held hs none are.1)

-- without the hold of a lock
holder_gone : (k : ℕ) (held : List (ℕ × ℕ)) → holder_in k (filter (λ hold. not (eqb hold.0 k)) held) ≡ None
holder_gone k [] = refl
holder_gone k (h ∷ hs) =
    ⊎_elim
    (λ (is : eqb h.0 k ≡ true). ap (λ b. holder_in k (cond {A = List (ℕ × ℕ)} (not b) (h ∷ filter (λ hold. not (eqb hold.0 k)) hs) (filter (λ hold. not (eqb hold.0 k)) hs))) is ∙ holder_gone k hs)
    (λ (other : eqb h.0 k ≡ false). ap (λ b. holder_in k (cond {A = List (ℕ × ℕ)} (not b) (h ∷ filter (λ hold. not (eqb hold.0 k)) hs) (filter (λ hold. not (eqb hold.0 k)) hs))) other ∙ (ap (λ b. cond {A = Option ℕ} b (Some h.1) (holder_in k (filter (λ hold. not (eqb hold.0 k)) hs))) other ∙ holder_gone k hs))
    (cases_Bool (eqb h.0 k))

holder_left : (j k : ℕ) (held : List (ℕ × ℕ)) → j ≢ k → holder_in j (filter (λ hold. not (eqb hold.0 k)) held) ≡ holder_in j held
holder_left j k [] apart = refl
holder_left j k (h ∷ hs) apart =
    ⊎_elim
    (λ (is : eqb h.0 k ≡ true). ap (λ b. holder_in j (cond {A = List (ℕ × ℕ)} (not b) (h ∷ filter (λ hold. not (eqb hold.0 k)) hs) (filter (λ hold. not (eqb hold.0 k)) hs))) is ∙ (holder_left j k hs apart ∙ sym (ap (λ b. cond {A = Option ℕ} b (Some h.1) (holder_in j hs)) (ne_eqb h.0 j (λ same. apart (sym same ∙ eqb-true h.0 k is))))))
    (λ (other : eqb h.0 k ≡ false). ap (λ b. holder_in j (cond {A = List (ℕ × ℕ)} (not b) (h ∷ filter (λ hold. not (eqb hold.0 k)) hs) (filter (λ hold. not (eqb hold.0 k)) hs))) other ∙ ap (λ o. cond {A = Option ℕ} (eqb h.0 j) (Some h.1) o) (holder_left j k hs apart))
    (cases_Bool (eqb h.0 k))

holds_less : (k : ℕ) (held holds : List (ℕ × ℕ)) → AreHolds held holds → AreHolds (filter (λ hold. not (eqb hold.0 k)) held) (filter (λ hold. not (eqb hold.0 k)) holds)
holds_less k held [] are = tt
holds_less k held (h ∷ hs) are =
    ⊎_elim
    (λ (is : eqb h.0 k ≡ true). subst (λ b. AreHolds (filter (λ hold. not (eqb hold.0 k)) held) (cond {A = List (ℕ × ℕ)} (not b) (h ∷ filter (λ hold. not (eqb hold.0 k)) hs) (filter (λ hold. not (eqb hold.0 k)) hs))) (sym is) (holds_less k held hs are.1))
    (λ (other : eqb h.0 k ≡ false). subst (λ b. AreHolds (filter (λ hold. not (eqb hold.0 k)) held) (cond {A = List (ℕ × ℕ)} (not b) (h ∷ filter (λ hold. not (eqb hold.0 k)) hs) (filter (λ hold. not (eqb hold.0 k)) hs))) (sym other)
    (holder_left h.0 k held (λ same. let is : eqb h.0 k ≡ true = eq-eqb h.0 k same in cc) ∙ are.0, holds_less k held hs are.1))
    (cases_Bool (eqb h.0 k))

-- ranks of what is held
abbrev pub is_below : Shape → ℕ → ℕ → (ℕ × ℕ) → Bool
is_below shape cpu rank hold = not (eqb hold.1 cpu) || ltb (rank_of (lock_named shape hold.0)) rank

all_below : (shape : Shape) (cpu rank j : ℕ) (held : List (ℕ × ℕ)) → list_all (is_below shape cpu rank) held ≡ true → holder_in j held ≡ Some cpu → rank_of (lock_named shape j) < rank
all_below shape cpu rank j [] all is = absurd cc
all_below shape cpu rank j (h ∷ hs) all is =
    let parts = and_parts (is_below shape cpu rank h) (list_all (is_below shape cpu rank) hs) all in
    by_test h.0 j (λ b. cond {A = Option ℕ} b (Some h.1) (holder_in j hs) ≡ Some cpu → rank_of (lock_named shape j) < rank)
    (λ here found. let same : h.1 ≡ cpu = cc in
    ⊎_elim
    (λ (other : not (eqb h.1 cpu) ≡ true). let is_not = not-true (eqb h.1 cpu) other in let is_one = eq-eqb h.1 cpu same in absurd cc)
    (λ (low : ltb (rank_of (lock_named shape h.0)) rank ≡ true). subst (λ (x : ℕ). rank_of (lock_named shape x) < rank) here (ltb-true _ _ low))
    (or_cases (not (eqb h.1 cpu)) (ltb (rank_of (lock_named shape h.0)) rank) parts.0))
    (λ _ rest. all_below shape cpu rank j hs parts.1 rest) is

not_all_below : (shape : Shape) (cpu rank : ℕ) (held holds : List (ℕ × ℕ)) → AreHolds held holds → list_all (is_below shape cpu rank) holds ≡ false → ((j : ℕ) → holder_in j held ≡ Some cpu → rank_of (lock_named shape j) < rank) → ⊥
not_all_below shape cpu rank held [] are some all = absurd cc
not_all_below shape cpu rank held (h ∷ hs) are some all =
    ⊎_elim
    (λ (here : is_below shape cpu rank h ≡ false).
    let parts = or_parts (not (eqb h.1 cpu)) (ltb (rank_of (lock_named shape h.0)) rank) here in
    let same = eqb-true h.1 cpu (not-false (eqb h.1 cpu) parts.0) in
    let low = all h.0 (are.0 ∙ ap Some same) in
    let high = ltb-false (rank_of (lock_named shape h.0)) rank parts.1 in
    omega arith)
    (λ (rest : list_all (is_below shape cpu rank) hs ≡ false). not_all_below shape cpu rank held hs are.1 rest all)
    (and_cases (is_below shape cpu rank h) (list_all (is_below shape cpu rank) hs) some)

-- the steps
pub did_take : (kept : WordsView) (cpu number : ℕ) (lock : DomainId) (held : List (ℕ × ℕ)) → AreWords kept → cpu < kept.shape.cpus → IsTrue (is_lock kept.shape lock) → number ≡ lock_number kept.shape lock → holder_in number kept.held ≡ None
    → list_all (is_below kept.shape cpu (rank_of lock)) kept.held ≡ true → held ≡ kept.held ++ (number, cpu) ∷ []
    → Did kept (TakesWord kept.shape (words_in kept) cpu lock) (with_holder_word (words_in kept) (lock_number kept.shape lock) (Some cpu)) record { shape = kept.shape; held = held; owners = kept.owners; homes = kept.homes }
did_take kept cpu number lock held is few is_one number_is nobody below held_is =
    subst (λ (hs : List (ℕ × ℕ)). Did kept (TakesWord kept.shape (words_in kept) cpu lock) (with_holder_word (words_in kept) (lock_number kept.shape lock) (Some cpu)) record { shape = kept.shape; held = hs; owners = kept.owners; homes = kept.homes }) (sym held_is) record {
      allowed = record { is_cpu = few; is_lock = is_one; nobody = ap (λ (k : ℕ). holder_in k kept.held) (sym number_is) ∙ nobody; above = λ j at_j. all_below kept.shape cpu (rank_of lock) j kept.held below at_j };
      changed = λ i. record {
        holder = ((λ t k. holder_at k t) ∙ ap (λ (k : ℕ). put (words_in kept).holder k (Some cpu)) number_is) i;
        owner = (words_in kept).owner;
        home = (words_in kept).home;
      };
      shape = refl;
      are = record { is_shape = is.is_shape; owners = is.owners; homes = is.homes; held = holds_more number cpu kept.held kept.held nobody is.held };
    }
  where
    holder_at : (k : ℕ) → holder_in k (kept.held ++ (number, cpu) ∷ []) ≡ put (λ (j : ℕ). holder_in j kept.held) number (Some cpu) k
    holder_at k = at_put (λ (j : ℕ). holder_in j kept.held) number (Some cpu) (λ j h. holder_in j (kept.held ++ (number, cpu) ∷ []) ≡ h) k (holder_new number cpu kept.held nobody) (λ other. holder_other k number cpu kept.held other)

pub no_take : (kept : WordsView) (cpu : ℕ) (lock : DomainId) → AreWords kept → list_all (is_below kept.shape cpu (rank_of lock)) kept.held ≡ false → TakesWord kept.shape (words_in kept) cpu lock → ⊥
no_take kept cpu lock is some can = not_all_below kept.shape cpu (rank_of lock) kept.held kept.held is.held some can.above

pub did_give : (kept : WordsView) (cpu number : ℕ) (lock : DomainId) (held : List (ℕ × ℕ)) → AreWords kept → HoldsWord kept.shape (words_in kept) cpu lock → number ≡ lock_number kept.shape lock → held ≡ filter (λ hold. not (eqb hold.0 number)) kept.held
    → Did kept (HoldsWord kept.shape (words_in kept) cpu lock) (with_holder_word (words_in kept) (lock_number kept.shape lock) None) record { shape = kept.shape; held = held; owners = kept.owners; homes = kept.homes }
did_give kept cpu number lock held is holds number_is held_is =
    subst (λ (hs : List (ℕ × ℕ)). Did kept (HoldsWord kept.shape (words_in kept) cpu lock) (with_holder_word (words_in kept) (lock_number kept.shape lock) None) record { shape = kept.shape; held = hs; owners = kept.owners; homes = kept.homes }) (sym held_is) record {
      allowed = holds;
      changed = λ i. record {
        holder = ((λ t k. holder_at k t) ∙ ap (λ (k : ℕ). put (words_in kept).holder k None) number_is) i;
        owner = (words_in kept).owner;
        home = (words_in kept).home;
      };
      shape = refl;
      are = record { is_shape = is.is_shape; owners = is.owners; homes = is.homes; held = holds_less number kept.held kept.held is.held };
    }
  where
    holder_at : (k : ℕ) → holder_in k (filter (λ hold. not (eqb hold.0 number)) kept.held) ≡ put (λ (j : ℕ). holder_in j kept.held) number None k
    holder_at k = at_put (λ (j : ℕ). holder_in j kept.held) number None (λ j h. holder_in j (filter (λ hold. not (eqb hold.0 number)) kept.held) ≡ h) k (holder_gone number kept.held) (λ other. holder_left k number kept.held other)

pub none_of : (o : Option ℕ) (b : Bool) → b ≡ is_some o → b ≡ false → o ≡ None
none_of None b is none = refl
none_of (Some x) b is none = absurd cc

-- one element's owner, and one element's home
put_set : {A : Type 0} (l : List A) (i : ℕ) (x d : A) → i < length l → (λ (j : ℕ). get_or (set l i x) j d) ≡ put (λ (j : ℕ). get_or l j d) i x
put_set l i x d within = λ t j. at_each j t
  where
    at_each : (j : ℕ) → get_or (set l i x) j d ≡ put (λ (k : ℕ). get_or l k d) i x j
    at_each j = at_put (λ (k : ℕ). get_or l k d) i x (λ k y. get_or (set l i x) k d ≡ y) j (get_or-set_same l i x d within) (λ other. get_or-set_other l i j x d other)

-- what an index reads
pub at_any : {A : Type 0} (l : List A) (i : ℕ) (x d : A) → i < length l → x ≡ get_or l i x → get_or l i d ≡ x
at_any [] i x d within is = absurd (omega arith)
at_any (y ∷ ys) zero x d within is = sym is
at_any (y ∷ ys) (suc i) x d within is = at_any ys i x d (omega arith) is

pub owner_read : (kept : WordsView) (e : ℕ) (o : Owner) → AreWords kept → e < kept.shape.elements → o ≡ get_or kept.owners e o → (words_in kept).owner e ≡ o
owner_read kept e o is real found = at_any kept.owners e o owners.Free (subst (λ (n : ℕ). e < n) (sym is.owners) real) found

pub home_read : (kept : WordsView) (e : ℕ) (h : Home) → AreWords kept → e < kept.shape.elements → h ≡ get_or kept.homes e h → (words_in kept).home e ≡ h
home_read kept e h is real found = at_any kept.homes e h homes.Unlisted (subst (λ (n : ℕ). e < n) (sym is.homes) real) found

pub did_owner : (kept : WordsView) (may : Type 0) (e : ℕ) (o : Owner) → AreWords kept → e < kept.shape.elements → may
    → Did kept may (with_owner_word (words_in kept) e o) record { shape = kept.shape; held = kept.held; owners = set kept.owners e o; homes = kept.homes }
did_owner kept may e o is real can = record {
  allowed = can;
  changed = λ i. record {
    holder = (words_in kept).holder;
    owner = put_set kept.owners e o owners.Free (subst (λ (n : ℕ). e < n) (sym is.owners) real) i;
    home = (words_in kept).home;
  };
  shape = refl;
  are = record { is_shape = is.is_shape; owners = length-set kept.owners e o ∙ is.owners; homes = is.homes; held = is.held };
}

pub did_home : (kept : WordsView) (may : Type 0) (e : ℕ) (to : Home) → AreWords kept → e < kept.shape.elements → may
    → Did kept may (with_home_word (words_in kept) e to) record { shape = kept.shape; held = kept.held; owners = kept.owners; homes = set kept.homes e to }
did_home kept may e to is real can = record {
  allowed = can;
  changed = λ i. record {
    holder = (words_in kept).holder;
    owner = (words_in kept).owner;
    home = put_set kept.homes e to homes.Unlisted (subst (λ (n : ℕ). e < n) (sym is.homes) real) i;
  };
  shape = refl;
  are = record { is_shape = is.is_shape; owners = is.owners; homes = length-set kept.homes e to ∙ is.homes; held = is.held };
}

-- an element that isn't there is in no hand
pub past_free : (kept : WordsView) (e hand : ℕ) → AreWords kept → kept.shape.elements ≤ e → (words_in kept).owner e ≡ owners.Hand hand → ⊥
past_free kept e hand is past in_hand =
    let free : (words_in kept).owner e ≡ owners.Free = get_or_past kept.owners e owners.Free (subst (λ (n : ℕ). n ≤ e) (sym is.owners) past) in
    let both : owners.Free ≡ owners.Hand hand = sym free ∙ in_hand in cc

pub seen_there : (kept : WordsView) (e hand : ℕ) (o : Owner) (answer : Bool) → AreWords kept → e < kept.shape.elements → o ≡ get_or kept.owners e o → MatchBool answer (o ≡ owners.Hand hand) (o ≢ owners.Hand hand)
    → MatchBool answer ((words_in kept).owner e ≡ owners.Hand hand) ((words_in kept).owner e ≢ owners.Hand hand)
seen_there kept e hand o answer is real found seen = subst (λ (x : Owner). MatchBool answer (x ≡ owners.Hand hand) (x ≢ owners.Hand hand)) (sym (owner_read kept e o is real found)) seen
