-- How what is true of the table changes at one lock or element, and what stays for the passes that make no step.
use Rattle.std.proofs.Common.{◌≡◌, ◌≢◌, ℕ, zero, suc, ◌<◌, ◌⊎◌, inl, inr, ⊎_elim, eqb, cond, Bool, true, false, List, [], ◌∷◌, ◌++◌, sym, refl, ap, ◌∙◌, subst, arith, Option, Some, None}
use Rattle.std.specs.Prelude.{◌&&◌, IsFalse}
use Rattle.std.proofs.lemmas.Bool.{eqb-true}
use Rattle.map_types.specs.declared.attr.Shape.{Shape}
use Rattle.place_words.specs.declared.history.Entry.{Entry}
use Rattle.place_words.specs.declared.history.StrandStep.{StrandStep}
use Rattle.place_words.specs.declared.owner.Owner.{Owner}
use Rattle.place_words.specs.declared.owner.Owner.TheVariants as owners
use Rattle.key_hash.specs.Bucket.{bucket_number}
use Rattle.map_types.specs.ElementLists.{put, IsIn}
use Rattle.place_words.specs.Histories.{content}
use Rattle.place_words.specs.Locks.{lock_named, lock_number, rank_of}
use Rattle.place_words.specs.declared.step.Lists.{Lists}
use Rattle.place_words.specs.State.{rows, is_bucket}
use Rattle.place_table.specs.declared.view.View.{View}
use Rattle.place_table.specs.declared.view.Hold.{Hold}
use Rattle.place_table.specs.declared.view.InHand.{InHand}
use Rattle.place_table.specs.declared.view.HashIn.{HashIn}
use Rattle.place_table.specs.StoredHashes.{stored_in}
use Rattle.place_table.specs.declared.view.Turned.{Turned}
use Rattle.place_table.specs.declared.view.Ended.{Ended}
use Rattle.place_table.specs.declared.view.WordStep.{WordStep}
use Rattle.place_table.specs.Views.{is_among, hold_at, is_in_hand_of, known_log, bit_seen, has_all_below, hash_known, came_at}
use Rattle.place_table.specs.Rules.{Tagged, entries, World, hold, hold_of, is_hand_of, is_home_of, IsAboveAll, turns_of, StandIn, logs_of, IsStrand, ArePast, IsTagged, AreTagged, IsLostLock, PassKnows, IsHashOf, IsHashed, HasHash, HasCome, HasRow, IsBrought, touches_of, Touch, IsOfStrand, AreOfStrands, StillHome, IsCounted, AreReadingsCounted}
use Rattle.place_words.specs.declared.home.Home.{Home}
use Rattle.place_words.specs.declared.home.Home.TheVariants as homes
use Rattle.map_types.specs.declared.kind.DomainId.{DomainId}
use Rattle.map_types.proofs.RowLemmas.{by_test}
use Rattle.place_table.specs.declared.view.HomeIn.{HomeIn}
use Rattle.place_table.specs.declared.view.HomeRead.{HomeRead}

-- the same of four functions that change at one place
pub at_put4 : {A B C D : Type 0} (f : ℕ → A) (g : ℕ → B) (h : ℕ → C) (l : ℕ → D) (i : ℕ) (x : A) (y : B) (z : C) (u : D) (F : ℕ → A → B → C → D → Type 0) (j : ℕ)
    → F i x y z u → (j ≢ i → F j (f j) (g j) (h j) (l j)) → F j (put f i x j) (put g i y j) (put h i z j) (put l i u j)
unfolding put
at_put4 f g h l i x y z u F j here other =
    by_test j i (λ b. F j (cond b x (f j)) (cond b y (g j)) (cond b z (h j)) (cond b u (l j))) (λ e. subst (λ (k : ℕ). F k x y z u) (sym e) here) (λ n. other n)

pub true_false : {A : Type 0} → true ≡ false → A
true_false {A} e = absurd cc

pub by_bool : (b : Bool) (F : Bool → Type 0) → (b ≡ true → F true) → (b ≡ false → F false) → F b
by_bool true F hit miss = hit refl
by_bool false F hit miss = miss refl

pub some_is : {A : Type 0} {x y : A} → Some x ≡ Some y → x ≡ y
some_is {A} {x} {y} e = cc

pub none_some : {A : Type 0} {x : A} → None ≡ Some x → ⊥
none_some {A} {x} e = cc

-- Holds

pub hold_of_mine : (pass_of_cpu : ℕ → ℕ) (pass k c : ℕ) (log : List Tagged) (lists : Lists) (lost : Bool) → pass_of_cpu c ≡ pass → hold_of pass pass_of_cpu k (Some c) log lists lost ≡ Some (hold k c log lists lost)
hold_of_mine pass_of_cpu pass k c log lists lost mine =
    by_test (pass_of_cpu c) pass (λ b. cond b (Some (hold k c log lists lost)) None ≡ Some (hold k c log lists lost)) (λ _. refl) (λ other. absurd (other mine))

-- a lock is free, or held by a CPU of the pass
abbrev pub IsMineOrFree : (ℕ → ℕ) → ℕ → Option ℕ → Type 0
IsMineOrFree pass_of_cpu pass None = Unit {0}
IsMineOrFree pass_of_cpu pass (Some c) = pass_of_cpu c ≡ pass

pub hold_of_other : (pass_of_cpu : ℕ → ℕ) (pass j k : ℕ) (holder : Option ℕ) (log : List Tagged) (lists : Lists) (lost : Bool) → IsMineOrFree pass_of_cpu pass holder → j ≢ pass → hold_of j pass_of_cpu k holder log lists lost ≡ None
hold_of_other pass_of_cpu pass j k None log lists lost mine other = refl
hold_of_other pass_of_cpu pass j k (Some c) log lists lost mine other =
    by_test (pass_of_cpu c) j (λ b. cond b (Some (hold k c log lists lost)) None ≡ None) (λ e. absurd (other (sym e ∙ mine))) (λ _. refl)

-- from what a pass knows of a lock to what is so
pub record HoldIs (pass_of_cpu : ℕ → ℕ) (pass k : ℕ) (holder : Option ℕ) (log : List Tagged) (lists : Lists) (lost : Bool) (x : Hold) : Type 0 where
  pub holder_is : holder ≡ Some x.cpu
  pub mine : pass_of_cpu x.cpu ≡ pass
  pub hold_is : x ≡ hold k x.cpu log lists lost

pub hold_of_is : (pass_of_cpu : ℕ → ℕ) (pass k : ℕ) (holder : Option ℕ) (log : List Tagged) (lists : Lists) (lost : Bool) (x : Hold) → hold_of pass pass_of_cpu k holder log lists lost ≡ Some x → HoldIs pass_of_cpu pass k holder log lists lost x
hold_of_is pass_of_cpu pass k None log lists lost x e = absurd (none_some e)
hold_of_is pass_of_cpu pass k (Some c) log lists lost x e =
    by_test (pass_of_cpu c) pass (λ b. cond b (Some (hold k c log lists lost)) None ≡ Some x → HoldIs pass_of_cpu pass k (Some c) log lists lost x)
    (λ mine f. let same = some_is f in let cpu : c ≡ x.cpu = ap (λ (y : Hold). y.cpu) same in record {
      holder_is = ap Some cpu;
      mine = subst (λ (d : ℕ). pass_of_cpu d ≡ pass) cpu mine;
      hold_is = sym same ∙ ap (λ (d : ℕ). hold k d log lists lost) cpu;
    })
    (λ _ f. absurd (none_some f)) e

pub hold_at_first : (hold : Hold) (holds : List Hold) → hold_at hold.lock (hold ∷ holds) ≡ Some hold
hold_at_first hold holds =
    by_test hold.lock hold.lock (λ b. cond b (Some hold) (hold_at hold.lock holds) ≡ Some hold) (λ _. refl) (λ n. absurd (n refl))

pub hold_at_other : (k : ℕ) (hold : Hold) (holds : List Hold) → k ≢ hold.lock → hold_at k (hold ∷ holds) ≡ hold_at k holds
hold_at_other k hold holds other =
    by_test hold.lock k (λ b. cond b (Some hold) (hold_at k holds) ≡ hold_at k holds) (λ e. absurd (other (sym e))) (λ _. refl)

-- a lock that is not below itself stands nowhere further in
pub none_below : (shape : Shape) (k : ℕ) (holds : List Hold) → IsAboveAll shape (rank_of (lock_named shape k)) holds → hold_at k holds ≡ None
none_below shape k [] above = refl
none_below shape k (hold ∷ holds) above =
    by_test hold.lock k (λ b. cond b (Some hold) (hold_at k holds) ≡ None)
    (λ e. let low : rank_of (lock_named shape k) < rank_of (lock_named shape k) = subst (λ (x : ℕ). rank_of (lock_named shape x) < rank_of (lock_named shape k)) e above.0 in absurd (omega arith))
    (λ _. none_below shape k holds above.1)

-- the rank is above that of each lock held
pub above_each : (shape : Shape) (rank : ℕ) (holds : List Hold) (k : ℕ) (x : Hold) → IsAboveAll shape rank holds → hold_at k holds ≡ Some x → rank_of (lock_named shape k) < rank
above_each shape rank [] k x above e = absurd (none_some e)
above_each shape rank (hold ∷ holds) k x above e =
    by_test hold.lock k (λ b. cond b (Some hold) (hold_at k holds) ≡ Some x → rank_of (lock_named shape k) < rank)
    (λ same _. subst (λ (i : ℕ). rank_of (lock_named shape i) < rank) same above.0)
    (λ _ f. above_each shape rank holds k x above.1 f) e

-- Hands

pub hand_is : (cpu : ℕ) (owner : Owner) → is_hand_of cpu owner ≡ true → owner ≡ owners.Hand cpu
hand_is cpu owners.Free e = true_false (sym e)
hand_is cpu (owners.Bucket bucket) e = true_false (sym e)
hand_is cpu (owners.Hand c) e = ap owners.Hand (eqb-true c cpu e)

pub both_true : (a b : Bool) → (a && b) ≡ true → (a ≡ true) × (b ≡ true)
both_true true b e = (refl, e)
both_true false b e = true_false (sym e)

pub has_mine : (shape : Shape) (w : World) (pass : ℕ) (v : View) (c : ℕ) → PassKnows shape w pass v → is_among c v.cpus ≡ true → w.pass_of_cpu c ≡ pass
has_mine shape w pass v c kn has = eqb-true (w.pass_of_cpu c) pass (sym (kn.cpus c (kn.within c has)) ∙ has)

pub in_hand_is : (shape : Shape) (w : World) (pass : ℕ) (v : View) (e c : ℕ) → PassKnows shape w pass v → is_among c v.cpus ≡ true → is_in_hand_of e c v.hand ≡ true → w.core.owner e ≡ owners.Hand c
in_hand_is shape w pass v e c kn has there =
    hand_is c (w.core.owner e) (both_true _ _ (sym (kn.hands e c (kn.within c has)) ∙ there)).0

-- where a pass has a CPU, what its CPUs have in hand is what it knows to be in their hands
pub own_hand : (shape : Shape) (w : World) (pass : ℕ) (v : View) (e c : ℕ) → PassKnows shape w pass v → is_among c v.cpus ≡ true → is_hand_of c (w.core.owner e) ≡ is_in_hand_of e c v.hand
own_hand shape w pass v e c kn has =
    let mine = has_mine shape w pass v c kn has in
    sym (kn.hands e c (kn.within c has) ∙ and_true (is_hand_of c (w.core.owner e)) (w.pass_of_cpu c) mine)
  where
    and_true : (b : Bool) (x : ℕ) → x ≡ pass → (b && eqb x pass) ≡ b
    and_true b x e = by_test x pass (λ t. (b && t) ≡ b) (λ _. go b) (λ n. absurd (n e))
      where
        go : (b : Bool) → (b && true) ≡ b
        go true = refl
        go false = refl

-- All CPUs

pub all_here : (n : ℕ) (cpus : List ℕ) → ((c : ℕ) → c < n → is_among c cpus ≡ true) → has_all_below n cpus ≡ true
all_here zero cpus all = refl
all_here (suc n) cpus all =
    (λ i. all n (let low : n < suc n = omega arith in low) i && has_all_below n cpus) ∙ all_here n cpus (λ c less. all c (omega arith))

pub here_all : (n : ℕ) (cpus : List ℕ) → has_all_below n cpus ≡ true → (c : ℕ) → c < n → is_among c cpus ≡ true
here_all zero cpus all c less = absurd (omega arith)
here_all (suc n) cpus all c less =
    let parts = both_true (is_among n cpus) (has_all_below n cpus) all in
    ⊎_elim
    (λ (last : c ≡ n). subst (λ (x : ℕ). is_among x cpus ≡ true) (sym last) parts.0)
    (λ (below : c < n). here_all n cpus parts.1 c below)
    (let either : (c ≡ n) ⊎ (c < n) = last_or_below c n less in either)
  where
    last_or_below : (c n : ℕ) → c < suc n → (c ≡ n) ⊎ (c < n)
    last_or_below c n less = by_test c n (λ b. (c ≡ n) ⊎ (c < n)) (λ e. inl e) (λ other. inr (omega arith))

-- a pass other than this one, which has a CPU of the map, knows no turns and no bits
pub knows_none : (shape : Shape) (w : World) (pass j : ℕ) (u : View) (c : ℕ) → PassKnows shape w j u → c < shape.cpus → w.pass_of_cpu c ≡ pass → j ≢ pass → (u.known ≡ []) × (u.bits ≡ [])
knows_none shape w pass j u c ku real mine other =
    ⊎_elim
    (λ (none_known : (u.known ≡ []) × (u.bits ≡ [])). none_known)
    (λ (all : (c : ℕ) → c < shape.cpus → is_among c u.cpus ≡ true). absurd (other (sym (has_mine shape w j u c ku (all c real)) ∙ mine)))
    ku.only

pub among_first : (t : ℕ) (ts : List ℕ) → is_among t (t ∷ ts) ≡ true
among_first t ts = by_test t t (λ b. cond b true (is_among t ts) ≡ true) (λ _. refl) (λ n. absurd (n refl))

-- Strands

-- turns stand where they stood
abbrev pub StillStand : World → World → Type 0
StillStand w w' = (steps : List Turned) → StandIn (logs_of w) steps → StandIn (logs_of w') steps

pub strand_stays : (shape : Shape) (w w' : World) (pass t : ℕ) (cpus : List ℕ) (steps : List Turned) (kept : List StrandStep) (touched : List WordStep)
    → w'.pass_of_strand t ≡ pass → (t < w.next → t < w'.next) → w'.cpus_of_strand t ≡ w.cpus_of_strand t → ((k : ℕ) → turns_of t 0 (w'.log k) ≡ turns_of t 0 (w.log k)) → StillStand w w' → ((k : ℕ) → w'.lost k ≡ false → w.lost k ≡ false)
    → touches_of t w'.touches ≡ touches_of t w.touches → IsStrand shape w pass t cpus steps kept touched → IsStrand shape w' pass t cpus steps kept touched
strand_stays shape w w' pass t cpus steps kept touched pass_of_strand numbered cpus_of_strand same still losses touches st = record {
  pass_of_strand = pass_of_strand;
  numbered = numbered st.numbered;
  cpus_of_strand = cpus_of_strand ∙ st.cpus_of_strand;
  steps_are = λ k. st.steps_are k ∙ sym (same k);
  stand = still steps st.stand;
  kept_are = λ k below is lo. st.kept_are k below is (losses k lo);
  touched_are = st.touched_are ∙ sym touches;
}

-- strands have the same passes, CPUs and numbers, and their turns stand where they stood
pub record SameStrands (w w' : World) : Type 0 where
  pub pass_of_strand : (t : ℕ) → w'.pass_of_strand t ≡ w.pass_of_strand t
  pub cpus_of_strand : (t : ℕ) → w'.cpus_of_strand t ≡ w.cpus_of_strand t
  pub next : w'.next ≡ w.next
  pub current : (pass : ℕ) → w'.current pass ≡ w.current pass
  pub past : (pass : ℕ) → w'.past pass ≡ w.past pass
  pub pass_of_cpu : (c : ℕ) → w'.pass_of_cpu c ≡ w.pass_of_cpu c
  pub still : StillStand w w'

pub past_stays : (shape : Shape) (w w' : World) (pass : ℕ) (ts : List ℕ) (es : List Ended) → SameStrands w w'
    → ((t k : ℕ) → is_among t ts ≡ true → w.pass_of_strand t ≡ pass → turns_of t 0 (w'.log k) ≡ turns_of t 0 (w.log k)) → ((k : ℕ) → w'.lost k ≡ false → w.lost k ≡ false)
    → ((t : ℕ) → is_among t ts ≡ true → w.pass_of_strand t ≡ pass → touches_of t w'.touches ≡ touches_of t w.touches) → ArePast shape w pass ts es → ArePast shape w' pass ts es
past_stays shape w w' pass [] [] same turns losses touches p = tt
past_stays shape w w' pass [] (e ∷ es) same turns losses touches p = absurd p
past_stays shape w w' pass (t ∷ ts) [] same turns losses touches p = absurd p
past_stays shape w w' pass (t ∷ ts) (e ∷ es) same turns losses touches p = (
  strand_stays shape w w' pass t e.cpus e.steps e.kept e.touched (same.pass_of_strand t ∙ p.0.pass_of_strand) (λ less. subst (λ (n : ℕ). t < n) (sym same.next) less) (same.cpus_of_strand t)
      (λ k. turns t k (among_first t ts) p.0.pass_of_strand) same.still losses (touches t (among_first t ts) p.0.pass_of_strand) p.0,
  p.1,
  past_stays shape w w' pass ts es same
      (λ u k among. turns u k (later u among)) losses (λ u among. touches u (later u among)) p.2,
)
  where
    later : (u : ℕ) → is_among u ts ≡ true → is_among u (t ∷ ts) ≡ true
    later u among = by_test t u (λ b. cond b true (is_among u ts) ≡ true) (λ _. refl) (λ _. among)

-- each step on a word stays in its strand
pub of_strands_stay : (w w' : World) (n m : ℕ) (xs : List Touch) → n ≡ m → SameStrands w w' → AreOfStrands w n xs → AreOfStrands w' m xs
of_strands_stay w w' n m [] e same are = tt
of_strands_stay w w' n m (x ∷ xs) e same are = (
  record {
    seated = subst (λ (z : ℕ). w'.pass_of_strand x.0 < z) e (subst (λ (z : ℕ). z < n) (sym (same.pass_of_strand x.0)) are.0.seated);
    numbered = subst (λ (z : ℕ). x.0 < z) (sym same.next) are.0.numbered;
    listed = ap (λ (z : ℕ). is_among x.0 (w'.current z ∷ w'.past z)) (same.pass_of_strand x.0)
        ∙ ((λ i. is_among x.0 (same.current (w.pass_of_strand x.0) i ∷ same.past (w.pass_of_strand x.0) i)) ∙ are.0.listed);
  },
  of_strands_stay w w' n m xs e same are.1,
)

pub of_strands_more : (w : World) (n : ℕ) (xs : List Touch) (x : Touch) → AreOfStrands w n xs → IsOfStrand w n x.0 → AreOfStrands w n (xs ++ x ∷ [])
of_strands_more w n [] x are last = (last, tt)
of_strands_more w n (y ∷ ys) x are last = (are.0, of_strands_more w n ys x are.1 last)

-- each turn stays in its strand
pub tagged_stays : (w w' : World) (n m : ℕ) (log : List Tagged) → n ≡ m → SameStrands w w' → AreTagged w n log → AreTagged w' m log
tagged_stays w w' n m [] e same tagged = tt
tagged_stays w w' n m (x ∷ xs) e same tagged = (
  record {
    seated = subst (λ (z : ℕ). w'.pass_of_strand x.0 < z) e (subst (λ (z : ℕ). z < n) (sym (same.pass_of_strand x.0)) tagged.0.seated);
    numbered = subst (λ (z : ℕ). x.0 < z) (sym same.next) tagged.0.numbered;
    has_cpu = ap (is_among x.1.cpu) (same.cpus_of_strand x.0) ∙ tagged.0.has_cpu;
    listed = ap (λ (z : ℕ). is_among x.0 (w'.current z ∷ w'.past z)) (same.pass_of_strand x.0)
        ∙ ((λ i. is_among x.0 (same.current (w.pass_of_strand x.0) i ∷ same.past (w.pass_of_strand x.0) i)) ∙ tagged.0.listed);
  },
  tagged_stays w w' n m xs e same tagged.1,
)

pub tagged_more : (w : World) (n : ℕ) (log : List Tagged) (x : Tagged) → AreTagged w n log → IsTagged w n x → AreTagged w n (log ++ x ∷ [])
tagged_more w n [] x tagged last = (last, tt)
tagged_more w n (y ∷ ys) x tagged last = (tagged.0, tagged_more w n ys x tagged.1 last)

-- a record that is lost stays lost
pub still_lost : (was is : Bool) → (is ≡ false → was ≡ false) → was ≡ true → is ≡ true
still_lost was true found lost = refl
still_lost was false found lost = true_false (sym lost ∙ found refl)

pub lock_still_lost : (shape : Shape) (w w' : World) (k : ℕ) → (w'.lost k ≡ false → w.lost k ≡ false) → IsLostLock shape w k → IsLostLock shape w' k
lock_still_lost shape w w' k found is =
    record { below = is.below; there = is.there; lost = still_lost (w.lost k) (w'.lost k) found is.lost }

-- what is known of a stored hash that stays
pub hash_stands : (shape : Shape) (hash hash' : ℕ → ℕ) (hand : List InHand) (e c b : ℕ) → IsHashOf shape hash hand e c b → (is_in_hand_of e c hand ≡ true → hash' e ≡ hash e) → IsHashOf shape hash' hand e c b
hash_stands shape hash hash' hand e c b is stays =
    record { in_hand = is.in_hand; bucket_is = ap (λ (h : ℕ). bucket_number h shape.buckets) (stays is.in_hand) ∙ is.bucket_is }

-- a lock that a pass holds as before has the holder and the turns that it had
same_hold : (pass_of_cpu pass_of_cpu' : ℕ → ℕ) (j k c : ℕ) (holder holder' : Option ℕ) (log log' : List Tagged) (lists lists' : Lists) (lost lost' : Bool) → pass_of_cpu c ≡ j → hold_of j pass_of_cpu' k holder' log' lists' lost' ≡ hold_of j pass_of_cpu k holder log lists lost → holder ≡ Some c → (holder' ≡ Some c) × (entries log' ≡ entries log)
same_hold pass_of_cpu pass_of_cpu' j k c holder holder' log log' lists lists' lost lost' mine same held =
    let is = hold_of_is pass_of_cpu' j k holder' log' lists' lost' (hold k c log lists lost) (same ∙ (ap (λ (z : Option ℕ). hold_of j pass_of_cpu k z log lists lost) held ∙ hold_of_mine pass_of_cpu j k c log lists lost mine)) in
    (is.holder_is, sym (ap (λ (h : Hold). h.log) is.hold_is))

-- where the locks that a CPU holds stay, with their turns, what is known of the stored hash of an element in its hand does
pub hashed_stands : (shape : Shape) (holder holder' : ℕ → Option ℕ) (log log' : ℕ → List Tagged) (hash hash' : ℕ → ℕ) (hashes hashes' : List HashIn) (came came' : List ℕ) (k e c : ℕ)
    → ((m : ℕ) → holder m ≡ Some c → (holder' m ≡ Some c) × (entries (log' m) ≡ entries (log m))) → (holder' k ≡ Some c → holder k ≡ Some c) → hash' e ≡ hash e
    → hash_known e c hashes' ≡ hash_known e c hashes → (is_among e came ≡ true → is_among e came' ≡ true)
    → IsHashed shape holder log hash hashes came k e c → IsHashed shape holder' log' hash' hashes' came' k e c
hashed_stands shape holder holder' log log' hash hash' hashes hashes' came came' k e c forth back stays noted inside is = record {
  from = ⊎_elim
      (λ (gave : HasHash true hashes e c). inl record { noted = gave.noted; last = noted ∙ gave.last; given_is = gave.given_is })
      (⊎_elim
      (λ (off : HasHash false hashes e c). inr (inl record { noted = off.noted; last = noted ∙ off.last; given_is = off.given_is }))
      (λ (come : HasCome holder came k e c). inr (inr (comes come))))
      is.from;
  row = λ held. let was = back held in ⊎_elim
      (λ (had : HasRow shape log hash k e). inl (row k was had))
      (⊎_elim
      (λ (br : IsBrought shape holder log hash k e).
      let same : br.cpu ≡ c = some_is (sym br.held ∙ was) in
      let from : holder br.from ≡ Some c = br.holds ∙ ap Some same in
      inr (inl record { cpu = c; from = br.from; held = held; holds = (forth br.from from).0; low = br.low; row = row br.from from br.row }))
      (λ (come : HasCome holder came k e c). inr (inr (comes come))))
      (is.row was);
}
  where
    comes : HasCome holder came k e c → HasCome holder' came' k e c
    comes come = record { held = (forth k come.held).0; inside = inside come.inside }

    row : (m : ℕ) → holder m ≡ Some c → HasRow shape log hash m e → HasRow shape log' hash' m e
    row m held had = record { stored = ap (λ (l : List Entry). stored_in (content shape (lock_named shape m) l) e) (forth m held).1 ∙ (had.stored ∙ ap Some (sym stays)) }

-- the home of an element in the hand of a CPU goes from a lock that the CPU doesn't hold to another that it doesn't hold
pub record IsAway (shape : Shape) (holder holder' : ℕ → Option ℕ) (home : Home) (c : ℕ) (lock : DomainId) : Type 0 where
  pub from : DomainId
  pub was : home ≡ homes.In from
  pub left : holder (lock_number shape from) ≡ Some c → ⊥
  pub now : holder' (lock_number shape lock) ≡ Some c → ⊥

-- then where its stored hash is from stays, and of its row nothing is asked
pub hashed_away : (shape : Shape) (holder holder' : ℕ → Option ℕ) (log log' : ℕ → List Tagged) (hash hash' : ℕ → ℕ) (hashes hashes' : List HashIn) (came came' : List ℕ) (j k e c : ℕ) → (holder j ≡ Some c → ⊥) → (holder' k ≡ Some c → ⊥) → hash_known e c hashes' ≡ hash_known e c hashes
    → IsHashed shape holder log hash hashes came j e c → IsHashed shape holder' log' hash' hashes' came' k e c
hashed_away shape holder holder' log log' hash hash' hashes hashes' came came' j k e c left now noted is = record {
  from = ⊎_elim
      (λ (gave : HasHash true hashes e c). inl record { noted = gave.noted; last = noted ∙ gave.last; given_is = gave.given_is })
      (⊎_elim
      (λ (off : HasHash false hashes e c). inr (inl record { noted = off.noted; last = noted ∙ off.last; given_is = off.given_is }))
      (λ (come : HasCome holder came j e c). absurd (left come.held)))
      is.from;
  row = λ held. absurd (now held);
}

-- the looks at homes, where each stays counted
pub homes_stay : (shape : Shape) (touches touches' : List Touch) → ((read : HomeIn) → IsCounted shape touches read.at read.turns read.home → IsCounted shape touches' read.at read.turns read.home)
    → (homes_read : List HomeRead) → AreReadingsCounted shape touches homes_read → AreReadingsCounted shape touches' homes_read
homes_stay shape touches touches' stays [] are = tt
homes_stay shape touches touches' stays (x ∷ xs) are =
    (stays (record { element = x.element; cpu = 0; home = x.home; at = x.at; turns = x.turns }) are.0, homes_stay shape touches touches' stays xs are.1)

-- THE FRAME. What a pass knows stays where its own locks, hands and strands do, and where what it keeps of turns and bits
-- is still so.
pub others : (shape : Shape) (w w' : World) (j : ℕ) (u : View) → SameStrands w w' → PassKnows shape w j u
    → ((k : ℕ) → hold_of j w'.pass_of_cpu k (w'.core.holder k) (w'.log k) (w'.core.lists k) (w'.lost k) ≡ hold_of j w.pass_of_cpu k (w.core.holder k) (w.log k) (w.core.lists k) (w.lost k))
    → ((e c : ℕ) → c < shape.cpus → (is_hand_of c (w'.core.owner e) && eqb (w'.pass_of_cpu c) j) ≡ (is_hand_of c (w.core.owner e) && eqb (w.pass_of_cpu c) j))
    → ((e c : ℕ) → c < shape.cpus → (is_home_of c (w'.core.home e) && eqb (w'.pass_of_cpu c) j) ≡ (is_home_of c (w.core.home e) && eqb (w.pass_of_cpu c) j))
    → ((t k : ℕ) → w.pass_of_strand t ≡ j → turns_of t 0 (w'.log k) ≡ turns_of t 0 (w.log k))
    → ((k : ℕ) → w'.lost k ≡ false → w.lost k ≡ false)
    → ((k : ℕ) (log : List Entry) → known_log k u.known ≡ Some log → entries (w'.log k) ≡ log)
    → ((e : ℕ) (bit : Bool) → bit_seen e u.bits ≡ Some bit → w'.core.bit e ≡ bit)
    → ((e c : ℕ) → w.core.owner e ≡ owners.Hand c → w.pass_of_cpu c ≡ j → w'.hash e ≡ w.hash e)
    → ((e c : ℕ) (lock : DomainId) → e < shape.elements → w.core.owner e ≡ owners.Hand c → w.pass_of_cpu c ≡ j → w'.core.home e ≡ homes.In lock → (w.core.home e ≡ homes.In lock) ⊎ IsAway shape w.core.holder w'.core.holder (w.core.home e) c lock)
    → ((k e : ℕ) (hold : Hold) → hold_at k u.held ≡ Some hold → IsFalse (is_bucket (lock_named shape k)) → IsIn e (rows hold.now) → w'.hash e ≡ w.hash e)
    → ((t : ℕ) → w.pass_of_strand t ≡ j → touches_of t w'.touches ≡ touches_of t w.touches)
    → ((read : HomeIn) → IsCounted shape w.touches read.at read.turns read.home → IsCounted shape w'.touches read.at read.turns read.home)
    → ((e c : ℕ) (read : HomeIn) → e < shape.elements → w.core.owner e ≡ owners.Hand c → w.pass_of_cpu c ≡ j → IsCounted shape w.touches read.at read.turns read.home → StillHome shape w.core.holder w.log read.turns e (w.core.home e) read.home → StillHome shape w'.core.holder w'.log read.turns e (w'.core.home e) read.home)
    → PassKnows shape w' j u
others shape w w' j u same kn holds hands carried turns losses known bits hashes at_home listed touches counts readings = record {
  shape_is = kn.shape_is;
  cpus = λ c less. kn.cpus c less ∙ sym (ap (λ (z : ℕ). eqb z j) (same.pass_of_cpu c));
  within = kn.within;
  held = λ k. kn.held k ∙ sym (holds k);
  ascends = kn.ascends;
  hands = λ e c less. kn.hands e c less ∙ sym (hands e c less);
  carried = λ e c less. kn.carried e c less ∙ sym (carried e c less);
  hashed = λ lru e c lock real within in_hand at.
      let is = both_true _ _ (sym (kn.hands e c within) ∙ in_hand) in
      let own : w.core.owner e ≡ owners.Hand c = hand_is c (w.core.owner e) is.0 in
      let theirs : w.pass_of_cpu c ≡ j = eqb-true (w.pass_of_cpu c) j is.1 in
      let k : ℕ = lock_number shape lock in ⊎_elim
      (λ (stays : w.core.home e ≡ homes.In lock). hashed_stands shape w.core.holder w'.core.holder w.log w'.log w.hash w'.hash u.hashes u.hashes (came_at k u.held u.notes) (came_at k u.held u.notes) k e c
      (λ m held. same_hold w.pass_of_cpu w'.pass_of_cpu j m c (w.core.holder m) (w'.core.holder m) (w.log m) (w'.log m) (w.core.lists m) (w'.core.lists m) (w.lost m) (w'.lost m) theirs (holds m) held)
      (λ held. (same_hold w'.pass_of_cpu w.pass_of_cpu j k c (w'.core.holder k) (w.core.holder k) (w'.log k) (w.log k) (w'.core.lists k) (w.core.lists k) (w'.lost k) (w.lost k) (same.pass_of_cpu c ∙ theirs) (sym (holds k)) held).0)
      (hashes e c own theirs) refl (λ inside. inside) (kn.hashed lru e c lock real within in_hand stays))
      (λ (away : IsAway shape w.core.holder w'.core.holder (w.core.home e) c lock). let j : ℕ = lock_number shape away.from in
      hashed_away shape w.core.holder w'.core.holder w.log w'.log w.hash w'.hash u.hashes u.hashes (came_at j u.held u.notes) (came_at k u.held u.notes) j k e c away.left away.now refl (kn.hashed lru e c away.from real within in_hand away.was))
      (at_home e c lock real own theirs at);
  rowed = λ lru k e hold found no_bucket inside. ⊎_elim
      (λ (had : stored_in (content shape (lock_named shape k) hold.log) e ≡ Some (w.hash e)). inl (had ∙ ap Some (sym (listed k e hold found no_bucket inside))))
      (λ (come : is_among e (came_at k u.held u.notes) ≡ true). inr come)
      (kn.rowed lru k e hold found no_bucket inside);
  hashes = λ e c noted within found. hash_stands shape w.hash w'.hash u.hand e c noted.bucket (kn.hashes e c noted within found)
      (λ in_hand. let is = both_true _ _ (sym (kn.hands e c within) ∙ in_hand) in hashes e c (hand_is c (w.core.owner e) is.0) (eqb-true (w.pass_of_cpu c) j is.1));
  readings = λ e c read within found. let was = kn.readings e c read within found in let is = both_true _ _ (sym (kn.hands e c within) ∙ was.in_hand) in
      record { real = was.real; in_hand = was.in_hand; counted = counts read was.counted; still = readings e c read was.real (hand_is c (w.core.owner e) is.0) (eqb-true (w.pass_of_cpu c) j is.1) was.counted was.still };
  homes_read = homes_stay shape w.touches w'.touches counts u.homes_read kn.homes_read;
  known = known;
  bits = bits;
  only = kn.only;
  losses = λ k among. lock_still_lost shape w w' k (losses k) (kn.losses k among);
  noted = kn.noted;
  strand = subst (λ (z : ℕ). IsStrand shape w' j z u.cpus u.steps u.kept u.touched) (sym (same.current j))
      (strand_stays shape w w' j (w.current j) u.cpus u.steps u.kept u.touched (same.pass_of_strand (w.current j) ∙ kn.strand.pass_of_strand) (λ less. subst (λ (n : ℕ). w.current j < n) (sym same.next) less) (same.cpus_of_strand (w.current j))
      (λ k. turns (w.current j) k kn.strand.pass_of_strand) same.still losses (touches (w.current j) kn.strand.pass_of_strand) kn.strand);
  past = subst (λ (z : List ℕ). ArePast shape w' j z u.ended) (sym (same.past j))
      (past_stays shape w w' j (w.past j) u.ended same (λ t k _ own. turns t k own) losses (λ t _ own. touches t own) kn.past);
  apart = (λ i. is_among (same.current j i) (same.past j i)) ∙ kn.apart;
  idle = kn.idle;
}
