-- Strands that go from one pass to another, and those of a pass once its current one has ended.
use Rattle.std.proofs.Common.{◌≡◌, ◌≢◌, ℕ, zero, suc, ◌<◌, ◌≤◌, ◌⊎◌, inl, inr, ⊎_elim, eqb, cond, Bool, true, false, List, [], ◌∷◌, ◌++◌, length, sym, refl, ap, ◌∙◌, subst, arith}
use mathlib.Core.Option.{some, some-ne-none, some-injective}
use lib.ListN.{get_elem?}
use Rattle.map_types.specs.declared.attr.Shape.{Shape}
use Rattle.map_types.proofs.RowLemmas.{by_test}
use Rattle.place_words.specs.declared.history.Entry.{Entry}
use Rattle.place_words.specs.declared.history.StrandStep.{StrandStep}
use Rattle.place_table.specs.declared.view.View.{View}
use Rattle.place_table.specs.declared.view.Turned.{Turned}
use Rattle.place_table.specs.declared.view.Ended.{Ended}
use Rattle.place_table.specs.declared.view.WordStep.{WordStep}
use Rattle.place_table.specs.Views.{is_among, current_strand, all_strands}
use Rattle.place_table.specs.Rules.{Tagged, entries, World, turns_of, StandIn, IsStrand, ArePast, AreTagged, HaveNoSteps, Touch, touches_of, AreOfStrands}
use Rattle.place_table.proofs.Worlds.{true_false, among_first}

pub at_more : {A : Type 0} (l : List A) (a b : A) (j : ℕ) → get_elem? (l ++ a ∷ []) j ≡ some b → (get_elem? l j ≡ some b) ⊎ ((j ≡ length l) × (a ≡ b))
at_more [] a b zero e = inr (refl, some-injective a b e)
at_more [] a b (suc j) e = absurd (some-ne-none b (sym e))
at_more (x ∷ xs) a b zero e = inl e
at_more (x ∷ xs) a b (suc j) e = ⊎_elim (λ t. inl t) (λ t. inr (ap suc t.0, t.1)) (at_more xs a b j e)

pub among_append : (d : ℕ) (xs ys : List ℕ) → is_among d (xs ++ ys) ≡ cond (is_among d xs) true (is_among d ys)
among_append d [] ys = refl
among_append d (x ∷ xs) ys =
    by_test x d (λ b. cond b true (is_among d (xs ++ ys)) ≡ cond (cond b true (is_among d xs)) true (is_among d ys)) (λ _. refl) (λ _. among_append d xs ys)

pub among_later : (x t : ℕ) (ts : List ℕ) → is_among x ts ≡ true → is_among x (t ∷ ts) ≡ true
among_later x t ts among = by_test t x (λ b. cond b true (is_among x ts) ≡ true) (λ _. refl) (λ _. among)

-- a number that no strand has yet
pub no_turns_yet : (w : World) (n t i : ℕ) (log : List Tagged) → w.next ≤ t → AreTagged w n log → turns_of t i log ≡ []
no_turns_yet w n t i [] fresh tagged = refl
no_turns_yet w n t i (x ∷ xs) fresh tagged =
    by_test x.0 t (λ b. cond {A = List (ℕ × Entry)} b ((i, x.1) ∷ turns_of t (suc i) xs) (turns_of t (suc i) xs) ≡ [])
    (λ e. let below : x.0 < w.next = tagged.0.numbered in absurd (omega arith))
    (λ _. no_turns_yet w n t (suc i) xs fresh tagged.1)

pub no_touches_yet : (w : World) (n t : ℕ) (xs : List Touch) → w.next ≤ t → AreOfStrands w n xs → touches_of t xs ≡ []
no_touches_yet w n t [] fresh are = refl
no_touches_yet w n t (x ∷ xs) fresh are =
    by_test x.0 t (λ b. cond {A = List WordStep} b (x.1 ∷ touches_of t xs) (touches_of t xs) ≡ [])
    (λ e. let below : x.0 < w.next = are.0.numbered in absurd (omega arith))
    (λ _. no_touches_yet w n t xs fresh are.1)

not_past : (shape : Shape) (w : World) (pass t : ℕ) (ts : List ℕ) (es : List Ended) → w.next ≤ t → ArePast shape w pass ts es → is_among t ts ≡ false
not_past shape w pass t [] [] fresh p = refl
not_past shape w pass t [] (e ∷ es) fresh p = absurd p
not_past shape w pass t (u ∷ us) [] fresh p = absurd p
not_past shape w pass t (u ∷ us) (e ∷ es) fresh p =
    by_test u t (λ b. cond b true (is_among t us) ≡ false)
    (λ same. let below : u < w.next = p.0.numbered in absurd (omega arith))
    (λ _. not_past shape w pass t us es fresh p.2)

-- turns stay, and numbers that are in use
pub record SameTurns (w w' : World) : Type 0 where
  pub log : (k : ℕ) → w'.log k ≡ w.log k
  pub lost : (k : ℕ) → w'.lost k ≡ w.lost k
  pub next : w.next ≤ w'.next
  pub touches : w'.touches ≡ w.touches

-- the strand of a number is of another pass, with the CPUs that it had
abbrev pub GoesTo : World → World → ℕ → ℕ → Type 0
GoesTo w w' pass t = (w'.pass_of_strand t ≡ pass) × (w'.cpus_of_strand t ≡ w.cpus_of_strand t)

pub strand_moves : (shape : Shape) (w w' : World) (pass to t : ℕ) (cpus : List ℕ) (steps : List Turned) (kept : List StrandStep) (touched : List WordStep) → SameTurns w w' → (t < w.next → w.pass_of_strand t ≡ pass → GoesTo w w' to t)
    → IsStrand shape w pass t cpus steps kept touched → IsStrand shape w' to t cpus steps kept touched
strand_moves shape w w' pass to t cpus steps kept touched same goes st =
    let g = goes st.numbered st.pass_of_strand in record {
      pass_of_strand = g.0;
      numbered = (let below : t < w.next = st.numbered in omega (arith, same.next));
      cpus_of_strand = g.1 ∙ st.cpus_of_strand;
      steps_are = λ k. st.steps_are k ∙ ap (turns_of t 0) (sym (same.log k));
      stand = subst (λ (log : ℕ → List Entry). StandIn log steps) (sym (λ i k. entries (same.log k i))) st.stand;
      kept_are = λ k below there found. st.kept_are k below there (sym (same.lost k) ∙ found);
      touched_are = st.touched_are ∙ ap (touches_of t) (sym same.touches);
    }

pub past_moves : (shape : Shape) (w w' : World) (pass to : ℕ) (ts : List ℕ) (es : List Ended) → SameTurns w w' → ((t : ℕ) → t < w.next → w.pass_of_strand t ≡ pass → GoesTo w w' to t) → ArePast shape w pass ts es → ArePast shape w' to ts es
past_moves shape w w' pass to [] [] same goes p = tt
past_moves shape w w' pass to [] (e ∷ es) same goes p = absurd p
past_moves shape w w' pass to (t ∷ ts) [] same goes p = absurd p
past_moves shape w w' pass to (t ∷ ts) (e ∷ es) same goes p =
    (strand_moves shape w w' pass to t e.cpus e.steps e.kept e.touched same (goes t) p.0, p.1, past_moves shape w w' pass to ts es same goes p.2)

-- each turn stays in a strand of a pass that is there
abbrev pub StaysListed : World → World → ℕ → ℕ → Type 0
StaysListed w w' passes t = (w'.pass_of_strand t < passes) × (t < w'.next) × (w'.cpus_of_strand t ≡ w.cpus_of_strand t) × (is_among t (w'.current (w'.pass_of_strand t) ∷ w'.past (w'.pass_of_strand t)) ≡ true)

pub tagged_moves : (w w' : World) (n m : ℕ) (log : List Tagged) → ((t : ℕ) → w.pass_of_strand t < n → t < w.next → is_among t (w.current (w.pass_of_strand t) ∷ w.past (w.pass_of_strand t)) ≡ true → StaysListed w w' m t)
    → AreTagged w n log → AreTagged w' m log
tagged_moves w w' n m [] stays tagged = tt
tagged_moves w w' n m (x ∷ xs) stays tagged =
    let to = stays x.0 tagged.0.seated tagged.0.numbered tagged.0.listed in
    (record { seated = to.0; numbered = to.1; has_cpu = ap (is_among x.1.cpu) to.2 ∙ tagged.0.has_cpu; listed = to.3 }, tagged_moves w w' n m xs stays tagged.1)

pub of_strands_move : (w w' : World) (n m : ℕ) (xs : List Touch) → ((t : ℕ) → w.pass_of_strand t < n → t < w.next → is_among t (w.current (w.pass_of_strand t) ∷ w.past (w.pass_of_strand t)) ≡ true → StaysListed w w' m t)
    → AreOfStrands w n xs → AreOfStrands w' m xs
of_strands_move w w' n m [] stays are = tt
of_strands_move w w' n m (x ∷ xs) stays are =
    let to = stays x.0 are.0.seated are.0.numbered are.0.listed in
    (record { seated = to.0; numbered = to.1; listed = to.3 }, of_strands_move w w' n m xs stays are.1)

-- a strand that has ended is kept by its pass
pub past_pass_of_strand : (shape : Shape) (w : World) (pass t : ℕ) (ts : List ℕ) (es : List Ended) → ArePast shape w pass ts es → is_among t ts ≡ true → w.pass_of_strand t ≡ pass
past_pass_of_strand shape w pass t [] [] p among = true_false (sym among)
past_pass_of_strand shape w pass t [] (e ∷ es) p among = absurd p
past_pass_of_strand shape w pass t (u ∷ us) [] p among = absurd p
past_pass_of_strand shape w pass t (u ∷ us) (e ∷ es) p among =
    by_test u t (λ b. cond b true (is_among t us) ≡ true → w.pass_of_strand t ≡ pass)
    (λ same _. subst (λ (z : ℕ). w.pass_of_strand z ≡ pass) same p.0.pass_of_strand)
    (λ _ f. past_pass_of_strand shape w pass t us es p.2 f) among

pub not_theirs : (shape : Shape) (w : World) (pass other t : ℕ) (ts : List ℕ) (es : List Ended) → ArePast shape w other ts es → w.pass_of_strand t ≡ pass → pass ≢ other → is_among t ts ≡ false
not_theirs shape w pass other t ts es p mine apart = go (is_among t ts) refl
  where
    go : (b : Bool) → is_among t ts ≡ b → b ≡ false
    go true h = absurd (apart (sym mine ∙ past_pass_of_strand shape w other t ts es p h))
    go false h = refl

pub past_append : (shape : Shape) (w : World) (pass : ℕ) (ts us : List ℕ) (es fs : List Ended) → ArePast shape w pass ts es → ArePast shape w pass us fs → ((t : ℕ) → is_among t ts ≡ true → is_among t us ≡ false) → ArePast shape w pass (ts ++ us) (es ++ fs)
past_append shape w pass [] us [] fs p q apart = q
past_append shape w pass [] us (e ∷ es) fs p q apart = absurd p
past_append shape w pass (t ∷ ts) us [] fs p q apart = absurd p
past_append shape w pass (t ∷ ts) us (e ∷ es) fs p q apart = (
  p.0,
  among_append t ts us ∙ (ap (λ b. cond b true (is_among t us)) p.1 ∙ apart t (among_first t ts)),
  past_append shape w pass ts us es fs p.2 q (λ x among. apart x (among_later x t ts among)),
)

-- the numbers of a pass's strands once the current one has ended
pub done : World → ℕ → List ℕ
done w pass = w.past pass ++ w.current pass ∷ []

pub past_done : (shape : Shape) (w : World) (pass : ℕ) (v : View) → IsStrand shape w pass (w.current pass) v.cpus v.steps v.kept v.touched → ArePast shape w pass (w.past pass) v.ended → is_among (w.current pass) (w.past pass) ≡ false → ArePast shape w pass (done w pass) (all_strands v)
unfolding done
past_done shape w pass v st p apart =
    past_append shape w pass (w.past pass) (w.current pass ∷ []) v.ended (current_strand v ∷ []) p (st, refl, tt)
    (λ t among. by_test (w.current pass) t (λ b. cond b true false ≡ false) (λ e. true_false (sym among ∙ (ap (λ (z : ℕ). is_among z (w.past pass)) (sym e) ∙ apart))) (λ _. refl))

pub among_done : (w : World) (pass t : ℕ) → is_among t (w.current pass ∷ w.past pass) ≡ true → is_among t (done w pass) ≡ true
unfolding done
among_done w pass t among =
    among_append t (w.past pass) (w.current pass ∷ [])
    ∙ by_test (w.current pass) t (λ b. cond b true (is_among t (w.past pass)) ≡ true → cond (is_among t (w.past pass)) true (cond b true false) ≡ true)
    (λ _ _. go (is_among t (w.past pass)))
    (λ _ f. ap (λ b. cond b true false) f) among
  where
    go : (b : Bool) → cond b true true ≡ true
    go true = refl
    go false = refl

pub fresh_done : (shape : Shape) (w : World) (pass t : ℕ) (v : View) → IsStrand shape w pass (w.current pass) v.cpus v.steps v.kept v.touched → ArePast shape w pass (w.past pass) v.ended → w.next ≤ t → is_among t (done w pass) ≡ false
unfolding done
fresh_done shape w pass t v st p fresh =
    among_append t (w.past pass) (w.current pass ∷ [])
    ∙ (ap (λ b. cond b true (is_among t (w.current pass ∷ []))) (not_past shape w pass t (w.past pass) v.ended fresh p)
    ∙ by_test (w.current pass) t (λ b. cond b true false ≡ false) (λ e. let below : w.current pass < w.next = st.numbered in absurd (omega arith)) (λ _. refl))

pub no_steps_append : (es fs : List Ended) → HaveNoSteps es → HaveNoSteps fs → HaveNoSteps (es ++ fs)
no_steps_append [] fs p q = q
no_steps_append (e ∷ es) fs p q = (p.0, no_steps_append es fs p.1 q)

-- what two passes have of CPUs and numbers: the tests that come out one way
pub is_one : (x : ℕ) → eqb x x ≡ true
is_one x = by_test x x (λ b. b ≡ true) (λ _. refl) (λ n. absurd (n refl))

pub not_one : (x y : ℕ) → x ≢ y → eqb x y ≡ false
not_one x y other = by_test x y (λ b. b ≡ false) (λ e. absurd (other e)) (λ _. refl)
