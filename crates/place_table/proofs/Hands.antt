-- The locks that a pass holds and the elements in its hands, as one element moves.
use Rattle.std.proofs.Common.{◌≡◌, ◌≢◌, ℕ, ◌<◌, eqb, cond, Bool, true, false, List, [], ◌∷◌, sym, refl, ap, ◌∙◌, subst, Option, Some}
use Rattle.std.specs.Prelude.{◌&&◌}
use Rattle.map_types.specs.Stored.{Stored}
use Rattle.map_types.specs.declared.attr.Shape.{Shape}
use Rattle.map_types.proofs.RowLemmas.{by_test}
use Rattle.place_words.specs.declared.history.StrandStep.{StrandStep}
use Rattle.place_words.specs.declared.home.Home.{Home}
use Rattle.place_words.specs.declared.home.Home.TheVariants as homes
use Rattle.place_words.specs.declared.owner.Owner.{Owner}
use Rattle.place_words.specs.declared.owner.Owner.TheVariants as owners
use Rattle.place_words.specs.Locks.{lock_named, rank_of}
use Rattle.place_words.specs.declared.step.Lists.{Lists}
use Rattle.place_table.specs.declared.content.Behind.{Behind}
use Rattle.place_table.specs.declared.view.Hold.{Hold}
use Rattle.place_table.specs.declared.view.InHand.{InHand}
use Rattle.place_table.specs.declared.strands.TurnsMade.{TurnsMade}
use Rattle.place_table.specs.declared.view.Notes.{Notes}
use Rattle.place_table.specs.declared.view.View.{View}
use Rattle.place_table.specs.Passes.{Carries, HandsReal, IsPass}
use Rattle.place_table.specs.Plays.{Seated}
use Rattle.place_table.specs.Rules.{is_hand_of, is_home_of, IsAboveAll, Ascends}
use Rattle.place_table.specs.Views.{is_among, hold_at, is_in_hand_of, now_at, with_now, with_in_hand, without_in_hand, with_places}
use Rattle.place_table.proofs.Worlds.{by_bool, some_is, none_some}
use Rattle.place_table.specs.declared.view.HomeIn.{HomeIn}
use Rattle.place_table.specs.declared.view.HashIn.{HashIn}
use Rattle.place_table.specs.declared.view.WordStep.{WordStep}

-- Locks that are held

-- a hold, with other lists under the lock
abbrev pub with_lists : Lists → Hold → Hold
with_lists now hold = record { lock = hold.lock; cpu = hold.cpu; log = hold.log; now = now; lost = hold.lost }

pub now_at_is : (k : ℕ) (holds : List Hold) (x : Hold) → hold_at k holds ≡ Some x → now_at k holds ≡ x.now
now_at_is k [] x e = absurd (none_some e)
now_at_is k (hold ∷ holds) x e =
    by_test hold.lock k (λ b. cond b (Some hold) (hold_at k holds) ≡ Some x → cond b hold.now (now_at k holds) ≡ x.now)
    (λ _ f. ap (λ (y : Hold). y.now) (some_is f))
    (λ _ f. now_at_is k holds x f) e

pub hold_at_now : (k : ℕ) (now : Lists) (holds : List Hold) (x : Hold) → hold_at k holds ≡ Some x → hold_at k (with_now k now holds) ≡ Some (with_lists now x)
hold_at_now k now [] x e = absurd (none_some e)
hold_at_now k now (hold ∷ holds) x e =
    by_test hold.lock k (λ b. cond b (Some hold) (hold_at k holds) ≡ Some x → hold_at k (cond b (with_lists now hold ∷ holds) (hold ∷ with_now k now holds)) ≡ Some (with_lists now x))
    (λ same f. by_test hold.lock k (λ b. cond b (Some (with_lists now hold)) (hold_at k holds) ≡ Some (with_lists now x)) (λ _. ap (λ (y : Hold). Some (with_lists now y)) (some_is f)) (λ other. absurd (other same)))
    (λ other f. by_test hold.lock k (λ b. cond b (Some hold) (hold_at k (with_now k now holds)) ≡ Some (with_lists now x)) (λ same. absurd (other same)) (λ _. hold_at_now k now holds x f)) e

pub hold_at_else : (k m : ℕ) (now : Lists) (holds : List Hold) → m ≢ k → hold_at m (with_now k now holds) ≡ hold_at m holds
hold_at_else k m now [] other = refl
hold_at_else k m now (hold ∷ holds) other =
    by_test hold.lock k (λ b. hold_at m (cond b (with_lists now hold ∷ holds) (hold ∷ with_now k now holds)) ≡ hold_at m (hold ∷ holds))
    (λ same. by_test hold.lock m (λ b. cond b (Some (with_lists now hold)) (hold_at m holds) ≡ cond b (Some hold) (hold_at m holds)) (λ is. absurd (other (sym is ∙ same))) (λ _. refl))
    (λ _. ap (cond (eqb hold.lock m) (Some hold)) (hold_at_else k m now holds other))

-- the locks that are held are the same, and so are their ranks
above_now : (shape : Shape) (rank k : ℕ) (now : Lists) (holds : List Hold) → IsAboveAll shape rank holds → IsAboveAll shape rank (with_now k now holds)
above_now shape rank k now [] above = tt
above_now shape rank k now (hold ∷ holds) above =
    by_test hold.lock k (λ b. IsAboveAll shape rank (cond b (with_lists now hold ∷ holds) (hold ∷ with_now k now holds)))
    (λ _. above)
    (λ _. (above.0, above_now shape rank k now holds above.1))

pub ascends_now : (shape : Shape) (k : ℕ) (now : Lists) (holds : List Hold) → Ascends shape holds → Ascends shape (with_now k now holds)
ascends_now shape k now [] ascends = tt
ascends_now shape k now (hold ∷ holds) ascends =
    by_test hold.lock k (λ b. Ascends shape (cond b (with_lists now hold ∷ holds) (hold ∷ with_now k now holds)))
    (λ _. ascends)
    (λ _. (above_now shape (rank_of (lock_named shape hold.lock)) k now holds ascends.0, ascends_now shape k now holds ascends.1))

-- and so are the slots that the pass has
pub carries_now : (shape : Shape) (k : ℕ) (now : Lists) (holds : List Hold) (slots : List (ℕ × Behind)) → Carries shape holds slots → Carries shape (with_now k now holds) slots
carries_now shape k now [] [] carries = tt
carries_now shape k now [] (x ∷ xs) carries = absurd carries
carries_now shape k now (hold ∷ holds) [] carries = absurd carries
carries_now shape k now (hold ∷ holds) (x ∷ xs) carries =
    by_test hold.lock k (λ b. Carries shape (cond b (with_lists now hold ∷ holds) (hold ∷ with_now k now holds)) (x ∷ xs))
    (λ _. carries)
    (λ _. (carries.0, carries.1, carries.2, carries_now shape k now holds xs carries.3))

-- Elements in hand

pub in_hand_more : (e cpu : ℕ) (hand : List InHand) → is_in_hand_of e cpu (with_in_hand e cpu hand) ≡ true
in_hand_more e cpu hand =
    by_test e e (λ b. cond (b && eqb cpu cpu) true (is_in_hand_of e cpu hand) ≡ true)
    (λ _. by_test cpu cpu (λ b. cond b true (is_in_hand_of e cpu hand) ≡ true) (λ _. refl) (λ other. absurd (other refl)))
    (λ other. absurd (other refl))

pub in_hand_more_else : (x c e cpu : ℕ) (hand : List InHand) → (x ≡ e → c ≡ cpu → ⊥) → is_in_hand_of x c (with_in_hand e cpu hand) ≡ is_in_hand_of x c hand
in_hand_more_else x c e cpu hand other =
    by_test e x (λ b. cond (b && eqb cpu c) true (is_in_hand_of x c hand) ≡ is_in_hand_of x c hand)
    (λ same. by_test cpu c (λ b. cond b true (is_in_hand_of x c hand) ≡ is_in_hand_of x c hand) (λ is. absurd (other (sym same) (sym is))) (λ _. refl))
    (λ _. refl)

pub in_hand_less : (e cpu : ℕ) (hand : List InHand) → is_in_hand_of e cpu (without_in_hand e cpu hand) ≡ false
in_hand_less e cpu [] = refl
in_hand_less e cpu (x ∷ xs) = go (eqb x.element e && eqb x.cpu cpu) refl (in_hand_less e cpu xs)
  where
    go : (b : Bool) → (eqb x.element e && eqb x.cpu cpu) ≡ b → is_in_hand_of e cpu (without_in_hand e cpu xs) ≡ false
        → is_in_hand_of e cpu (cond b (without_in_hand e cpu xs) (x ∷ without_in_hand e cpu xs)) ≡ false
    go true _ below = below
    go false is below = ap (λ b. cond b true (is_in_hand_of e cpu (without_in_hand e cpu xs))) is ∙ below

pub in_hand_less_else : (x c e cpu : ℕ) (hand : List InHand) → (x ≡ e → c ≡ cpu → ⊥) → is_in_hand_of x c (without_in_hand e cpu hand) ≡ is_in_hand_of x c hand
in_hand_less_else x c e cpu [] other = refl
in_hand_less_else x c e cpu (y ∷ ys) other =
    let below : is_in_hand_of x c (without_in_hand e cpu ys) ≡ is_in_hand_of x c ys = in_hand_less_else x c e cpu ys other in
    let kept : is_in_hand_of x c (y ∷ without_in_hand e cpu ys) ≡ is_in_hand_of x c (y ∷ ys) = ap (cond (eqb y.element x && eqb y.cpu c) true) below in
    by_test y.element e (λ b. is_in_hand_of x c (cond (b && eqb y.cpu cpu) (without_in_hand e cpu ys) (y ∷ without_in_hand e cpu ys)) ≡ is_in_hand_of x c (y ∷ ys))
    (λ element. by_test y.cpu cpu (λ b. is_in_hand_of x c (cond b (without_in_hand e cpu ys) (y ∷ without_in_hand e cpu ys)) ≡ is_in_hand_of x c (y ∷ ys))
    (λ hand. below ∙ (by_test y.element x (λ b. is_in_hand_of x c ys ≡ cond (b && eqb y.cpu c) true (is_in_hand_of x c ys))
    (λ is. by_test y.cpu c (λ b. is_in_hand_of x c ys ≡ cond b true (is_in_hand_of x c ys)) (λ same. absurd (other (sym is ∙ element) (sym same ∙ hand))) (λ _. refl))
    (λ _. refl)))
    (λ _. kept))
    (λ _. kept)

-- what comes to a hand where it wasn't, and leaves it again, leaves all hands as they were
pub hand_back : (e cpu : ℕ) (hand : List InHand) → is_in_hand_of e cpu hand ≡ false → (x c : ℕ) → is_in_hand_of x c (without_in_hand e cpu (with_in_hand e cpu hand)) ≡ is_in_hand_of x c hand
hand_back e cpu hand none x c =
    let here : is_in_hand_of e cpu (without_in_hand e cpu (with_in_hand e cpu hand)) ≡ is_in_hand_of e cpu hand = in_hand_less e cpu (with_in_hand e cpu hand) ∙ sym none in
    let else : (x ≡ e → c ≡ cpu → ⊥) → is_in_hand_of x c (without_in_hand e cpu (with_in_hand e cpu hand)) ≡ is_in_hand_of x c hand =
    λ other. in_hand_less_else x c e cpu (with_in_hand e cpu hand) other ∙ in_hand_more_else x c e cpu hand other in
    by_test x e (λ _. is_in_hand_of x c (without_in_hand e cpu (with_in_hand e cpu hand)) ≡ is_in_hand_of x c hand)
    (λ same. by_test c cpu (λ _. is_in_hand_of x c (without_in_hand e cpu (with_in_hand e cpu hand)) ≡ is_in_hand_of x c hand)
    (λ mine. (λ i. is_in_hand_of (same i) (mine i) (without_in_hand e cpu (with_in_hand e cpu hand))) ∙ (here ∙ (λ i. is_in_hand_of (sym same i) (sym mine i) hand)))
    (λ other. else (λ _ mine. other mine)))
    (λ other. else (λ same _. other same))

-- Who has an element goes by its owner, and who carries it by its home.
module _ {A : Type 0} (is_of : ℕ → A → Bool) where
  -- these are the elements in the hands of a pass
  abbrev pub AreInHands : ℕ → ℕ → (ℕ → ℕ) → (ℕ → A) → List InHand → Type 0
  AreInHands cpus pass pass_of_cpu f hand = (x c : ℕ) → c < cpus → is_in_hand_of x c hand ≡ (is_of c (f x) && eqb (pass_of_cpu c) pass)

  module _ (cpus pass e cpu : ℕ) (pass_of_cpu : ℕ → ℕ) (f g : ℕ → A) (hand : List InHand) (others : (x : ℕ) → x ≢ e → g x ≡ f x) (are : AreInHands cpus pass pass_of_cpu f hand) where
    -- an element comes to a hand
    pub comes_to_hand : pass_of_cpu cpu ≡ pass → ((c : ℕ) → is_of c (f e) ≡ false) → ((c : ℕ) → is_of c (g e) ≡ eqb cpu c) → AreInHands cpus pass pass_of_cpu g (with_in_hand e cpu hand)
    comes_to_hand mine was is x c less =
        by_test x e (λ _. is_in_hand_of x c (with_in_hand e cpu hand) ≡ (is_of c (g x) && eqb (pass_of_cpu c) pass))
        (λ same. subst (λ (y : ℕ). is_in_hand_of y c (with_in_hand e cpu hand) ≡ (is_of c (g y) && eqb (pass_of_cpu c) pass)) (sym same)
        (by_test cpu c (λ b. is_in_hand_of e c (with_in_hand e cpu hand) ≡ (b && eqb (pass_of_cpu c) pass))
        (λ here. ap (λ (d : ℕ). is_in_hand_of e d (with_in_hand e cpu hand)) (sym here)
        ∙ (in_hand_more e cpu hand ∙ by_test (pass_of_cpu c) pass (λ b. true ≡ b) (λ _. refl) (λ other. absurd (other (ap pass_of_cpu (sym here) ∙ mine)))))
        (λ else_where. in_hand_more_else e c e cpu hand (λ _ there. else_where (sym there)) ∙ (are e c less ∙ ap (λ b. b && eqb (pass_of_cpu c) pass) (was c)))
        ∙ sym (ap (λ b. b && eqb (pass_of_cpu c) pass) (is c))))
        (λ other. in_hand_more_else x c e cpu hand (λ same _. other same) ∙ (are x c less ∙ ap (λ y. is_of c y && eqb (pass_of_cpu c) pass) (sym (others x other))))

    -- it leaves a hand
    pub leaves_hand : ((c : ℕ) → is_of c (f e) ≡ eqb cpu c) → ((c : ℕ) → is_of c (g e) ≡ false) → AreInHands cpus pass pass_of_cpu g (without_in_hand e cpu hand)
    leaves_hand was is x c less =
        by_test x e (λ _. is_in_hand_of x c (without_in_hand e cpu hand) ≡ (is_of c (g x) && eqb (pass_of_cpu c) pass))
        (λ same. subst (λ (y : ℕ). is_in_hand_of y c (without_in_hand e cpu hand) ≡ (is_of c (g y) && eqb (pass_of_cpu c) pass)) (sym same)
        (by_test cpu c (λ b. is_of c (f e) ≡ b → is_in_hand_of e c (without_in_hand e cpu hand) ≡ false)
        (λ here _. ap (λ (d : ℕ). is_in_hand_of e d (without_in_hand e cpu hand)) (sym here) ∙ in_hand_less e cpu hand)
        (λ else_where none_there. in_hand_less_else e c e cpu hand (λ _ there. else_where (sym there)) ∙ (are e c less ∙ ap (λ b. b && eqb (pass_of_cpu c) pass) none_there))
        (was c)
        ∙ sym (ap (λ b. b && eqb (pass_of_cpu c) pass) (is c))))
        (λ other. in_hand_less_else x c e cpu hand (λ same _. other same) ∙ (are x c less ∙ ap (λ y. is_of c y && eqb (pass_of_cpu c) pass) (sym (others x other))))

    -- it is in no hand, before and after
    pub stays_in_hand : ((c : ℕ) → is_of c (f e) ≡ false) → ((c : ℕ) → is_of c (g e) ≡ false) → AreInHands cpus pass pass_of_cpu g hand
    stays_in_hand was is x c less =
        are x c less ∙ ap (λ b. b && eqb (pass_of_cpu c) pass)
        (by_test x e (λ _. is_of c (f x) ≡ is_of c (g x)) (λ same. ap (λ (y : ℕ). is_of c (f y)) same ∙ (was c ∙ sym (ap (λ (y : ℕ). is_of c (g y)) same ∙ is c))) (λ other. ap (is_of c) (sym (others x other))))

-- an owner or a home that is no hand, or the hand of a CPU of the pass
abbrev pub IsOwnerOfPass : (ℕ → ℕ) → ℕ → Owner → Type 0
IsOwnerOfPass pass_of_cpu pass owners.Free = Unit {0}
IsOwnerOfPass pass_of_cpu pass (owners.Bucket bucket) = Unit {0}
IsOwnerOfPass pass_of_cpu pass (owners.Hand c) = pass_of_cpu c ≡ pass

abbrev pub IsHomeOfPass : (ℕ → ℕ) → ℕ → Home → Type 0
IsHomeOfPass pass_of_cpu pass homes.Unlisted = Unit {0}
IsHomeOfPass pass_of_cpu pass (homes.In lock) = Unit {0}
IsHomeOfPass pass_of_cpu pass (homes.Hand c) = pass_of_cpu c ≡ pass

-- it is no hand of another pass
not_their_cpu : (pass_of_cpu : ℕ → ℕ) (pass j c d : ℕ) → pass_of_cpu d ≡ pass → j ≢ pass → (eqb d c && eqb (pass_of_cpu c) j) ≡ false
not_their_cpu pass_of_cpu pass j c d ours other =
    by_test d c (λ b. (b && eqb (pass_of_cpu c) j) ≡ false)
    (λ same. by_test (pass_of_cpu c) j (λ b. b ≡ false) (λ theirs. absurd (other (sym theirs ∙ (ap pass_of_cpu (sym same) ∙ ours)))) (λ _. refl))
    (λ _. refl)

pub not_their_owner : (pass_of_cpu : ℕ → ℕ) (pass j c : ℕ) (owner : Owner) → IsOwnerOfPass pass_of_cpu pass owner → j ≢ pass → (is_hand_of c owner && eqb (pass_of_cpu c) j) ≡ false
not_their_owner pass_of_cpu pass j c owners.Free ours other = refl
not_their_owner pass_of_cpu pass j c (owners.Bucket bucket) ours other = refl
not_their_owner pass_of_cpu pass j c (owners.Hand d) ours other = not_their_cpu pass_of_cpu pass j c d ours other

pub not_their_home : (pass_of_cpu : ℕ → ℕ) (pass j c : ℕ) (home : Home) → IsHomeOfPass pass_of_cpu pass home → j ≢ pass → (is_home_of c home && eqb (pass_of_cpu c) j) ≡ false
not_their_home pass_of_cpu pass j c homes.Unlisted ours other = refl
not_their_home pass_of_cpu pass j c (homes.In lock) ours other = refl
not_their_home pass_of_cpu pass j c (homes.Hand d) ours other = not_their_cpu pass_of_cpu pass j c d ours other

-- what is in hand is the map's and in these CPUs' hands, also with one of the map's elements more, or with one less
pub real_with : (shape : Shape) (cpus : List ℕ) (e cpu : ℕ) (hand : List InHand) → HandsReal shape cpus hand → e < shape.elements → is_among cpu cpus ≡ true → HandsReal shape cpus (with_in_hand e cpu hand)
real_with shape cpus e cpu hand all real mine x c in_hand =
    by_test e x (λ b. cond (b && eqb cpu c) true (is_in_hand_of x c hand) ≡ true → (x < shape.elements) × (is_among c cpus ≡ true))
    (λ same. by_test cpu c (λ b. cond (true && b) true (is_in_hand_of x c hand) ≡ true → (x < shape.elements) × (is_among c cpus ≡ true))
    (λ own _. (subst (λ (y : ℕ). y < shape.elements) same real, subst (λ (d : ℕ). is_among d cpus ≡ true) own mine))
    (λ _ f. all x c f))
    (λ _ f. all x c f) in_hand

-- what is in hand without an element was in hand
pub was_in_hand : (e cpu x c : ℕ) (hand : List InHand) → is_in_hand_of x c (without_in_hand e cpu hand) ≡ true → is_in_hand_of x c hand ≡ true
was_in_hand e cpu x c [] is = is
was_in_hand e cpu x c (one ∷ others) is = by_bool ((eqb one.element e) && (eqb one.cpu cpu))
    (λ b. is_in_hand_of x c (cond b (without_in_hand e cpu others) (one ∷ without_in_hand e cpu others)) ≡ true → cond (eqb one.element x && eqb one.cpu c) true (is_in_hand_of x c others) ≡ true)
    (λ _ f. or_true (eqb one.element x && eqb one.cpu c) (was_in_hand e cpu x c others f))
    (λ _ f. by_bool (eqb one.element x && eqb one.cpu c) (λ b. cond b true (is_in_hand_of x c (without_in_hand e cpu others)) ≡ true → cond b true (is_in_hand_of x c others) ≡ true)
    (λ _ _. refl) (λ _ later. was_in_hand e cpu x c others later) f) is
  where
    or_true : (b : Bool) → is_in_hand_of x c others ≡ true → cond b true (is_in_hand_of x c others) ≡ true
    or_true true f = refl
    or_true false f = f

pub real_without : (shape : Shape) (cpus : List ℕ) (e cpu : ℕ) (hand : List InHand) → HandsReal shape cpus hand → HandsReal shape cpus (without_in_hand e cpu hand)
real_without shape cpus e cpu hand all x c in_hand = all x c (was_in_hand e cpu x c hand in_hand)

-- a pass whose elements have moved
pub is_pass_moved : {flags : List Bool} {past : TurnsMade} (v : View) (slots : List (ℕ × Behind)) (strand : List StrandStep) (spares : List (Option Stored)) (held : List Hold) (hand carried : List InHand) (readings : List HomeIn) (notes : List Notes) (touched : List WordStep) (hashes : List HashIn) (after : Seated) → IsPass v slots strand spares flags past
    → Carries v.shape held slots → HandsReal v.shape v.cpus hand → after ≡ (record (with_places held hand carried readings notes touched v) { hashes = hashes }, slots) → IsPass after.0 after.1 strand spares flags past
is_pass_moved {flags} {past} v slots strand spares held hand carried readings notes touched hashes after pass carries real after_is =
    subst (λ (z : Seated). IsPass z.0 z.1 strand spares flags past) (sym after_is) record {
      carries = carries;
      strand_is = pass.strand_is;
      cpus_are = pass.cpus_are;
      log_is = pass.log_is;
      ended_are = pass.ended_are;
      logs_are = pass.logs_are;
      spares_fit = pass.spares_fit;
      within = pass.within;
      ended_within = pass.ended_within;
      hands_real = real;
      unread = pass.unread;
    }
