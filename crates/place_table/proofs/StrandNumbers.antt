-- Strands by their numbers: each turn of a lock is one of this pass's strands, and which.
use Rattle.std.proofs.Common.{◌≡◌, ◌≢◌, ℕ, zero, suc, ◌+◌, ◌<◌, eqb, cond, Bool, true, false, List, [], ◌∷◌, length, sym, refl, ap, ◌∙◌, subst, arith, Some}
use Rattle.std.specs.Prelude.{slice_get}
use Rattle.std.proofs.lemmas.Bool.{eqb-true}
use Rattle.std.proofs.lemmas.Option.{slice_get_within}
use Rattle.map_types.specs.declared.attr.Shape.{Shape}
use Rattle.map_types.proofs.RowLemmas.{by_test}
use Rattle.place_words.specs.declared.history.Entry.{Entry}
use Rattle.place_table.specs.declared.view.Ended.{Ended}
use Rattle.place_table.specs.Views.{is_among}
use Rattle.place_table.specs.Rules.{World, Tagged, entries, turns_of, IsStrand, ArePast, IsTagged, AreTagged}
use Rattle.place_table.specs.Closing.{numbered, turns_by, AreTurnsOf}
use Rattle.place_table.proofs.Worlds.{true_false, some_is, none_some, among_first}

-- the place of a number in a list
abbrev pub place_in : ℕ → List ℕ → ℕ
place_in t [] = 0
place_in t (u ∷ us) = cond (eqb u t) 0 (suc (place_in t us))

-- the number of the strand of a turn, by its place in the history
abbrev pub tag_at : List Tagged → ℕ → ℕ
tag_at [] place = 0
tag_at (x ∷ xs) zero = x.0
tag_at (x ∷ xs) (suc place) = tag_at xs place

-- what is said of the turn at a place
pub tagged_at : (w : World) (n : ℕ) (log : List Tagged) (place : ℕ) (entry : Entry) → AreTagged w n log → slice_get (entries log) place ≡ Some entry → IsTagged w n (tag_at log place, entry)
tagged_at w n [] place entry tagged found = absurd (none_some found)
tagged_at w n (x ∷ xs) zero entry tagged found = subst (λ (z : Entry). IsTagged w n (x.0, z)) (some_is found) tagged.0
tagged_at w n (x ∷ xs) (suc place) entry tagged found = tagged_at w n xs place entry tagged.1 found

pub cons_nil : {A : Type 0} {x : A} {xs : List A} → x ∷ xs ≡ [] → ⊥
cons_nil {A} {x} {xs} e = cc

-- the strand of a turn has a turn
pub has_turn : (log : List Tagged) (i place : ℕ) → place < length (entries log) → turns_of (tag_at log place) i log ≡ [] → ⊥
has_turn [] i place less none = absurd (omega arith)
has_turn (x ∷ xs) i zero less none =
    by_test x.0 x.0 (λ b. cond {A = List (ℕ × Entry)} b ((i, x.1) ∷ turns_of x.0 (suc i) xs) (turns_of x.0 (suc i) xs) ≡ [] → ⊥) (λ _ f. cons_nil f) (λ n. absurd (n refl)) none
has_turn (x ∷ xs) i (suc place) less none =
    by_test x.0 (tag_at xs place) (λ b. cond {A = List (ℕ × Entry)} b ((i, x.1) ∷ turns_of (tag_at xs place) (suc i) xs) (turns_of (tag_at xs place) (suc i) xs) ≡ [] → ⊥)
    (λ _ f. cons_nil f) (λ _ f. has_turn xs (suc i) place (omega arith) f) none

-- the turns with a number are those of a place, where the two are told alike
turns_alike : (strand_at : ℕ → ℕ) (n t i : ℕ) (log : List Tagged) → ((place : ℕ) → place < length (entries log) → eqb (strand_at (i + place)) n ≡ eqb (tag_at log place) t)
    → turns_of t i log ≡ turns_by strand_at n (numbered i (entries log))
turns_alike strand_at n t i [] alike = refl
turns_alike strand_at n t i (x ∷ xs) alike =
    let more : (place : ℕ) → place < length (entries xs) → eqb (strand_at (suc i + place)) n ≡ eqb (tag_at xs place) t =
    (λ place less. ap (λ (z : ℕ). eqb (strand_at z) n) (omega arith) ∙ alike (suc place) (omega arith)) in
    let here : eqb (strand_at i) n ≡ eqb x.0 t = ap (λ (z : ℕ). eqb (strand_at z) n) (omega arith) ∙ alike 0 (omega arith) in
    let rest = turns_alike strand_at n t (suc i) xs more in
    ap (λ (l : List (ℕ × Entry)). cond {A = List (ℕ × Entry)} (eqb x.0 t) ((i, x.1) ∷ l) l) rest
    ∙ ap (λ (b : Bool). cond {A = List (ℕ × Entry)} b ((i, x.1) ∷ turns_by strand_at n (numbered (suc i) (entries xs))) (turns_by strand_at n (numbered (suc i) (entries xs)))) (sym here)

-- ---- the strands of a pass with their numbers

pub as_long : (shape : Shape) (w : World) (pass : ℕ) (ts : List ℕ) (es : List Ended) → ArePast shape w pass ts es → length ts ≡ length es
as_long shape w pass [] [] past = refl
as_long shape w pass [] (x ∷ xs) past = absurd past
as_long shape w pass (t ∷ ts) [] past = absurd past
as_long shape w pass (t ∷ ts) (x ∷ xs) past = ap suc (as_long shape w pass ts xs past.2)

pub place_within : (t : ℕ) (ts : List ℕ) → is_among t ts ≡ true → place_in t ts < length ts
place_within t [] among = true_false (sym among)
place_within t (u ∷ us) among =
    by_test u t (λ b. cond b true (is_among t us) ≡ true → cond b 0 (suc (place_in t us)) < suc (length us)) (λ _ _. omega arith) (λ _ f. let less = place_within t us f in omega arith) among

-- the strand at a place, with its number
pub record StrandAt (shape : Shape) (w : World) (pass : ℕ) (ts : List ℕ) (n : ℕ) (e : Ended) : Type 0 where
  pub number : ℕ
  pub listed : is_among number ts ≡ true
  pub is : IsStrand shape w pass number e.cpus e.steps e.kept e.touched
  pub alike : (t : ℕ) → is_among t ts ≡ true → eqb (place_in t ts) n ≡ eqb t number

pub same_true : (t u : ℕ) → t ≡ u → true ≡ eqb t u
same_true t u e = by_test t u (λ b. true ≡ b) (λ _. refl) (λ other. absurd (other e))

pub other_false : (t u : ℕ) → t ≢ u → false ≡ eqb t u
other_false t u other = by_test t u (λ b. false ≡ b) (λ e. absurd (other e)) (λ _. refl)

pub one_less : (a b : ℕ) → eqb (suc a) (suc b) ≡ eqb a b
one_less a b =
    by_test a b (λ t. eqb (suc a) (suc b) ≡ t) (λ e. sym (same_true (suc a) (suc b) (ap suc e))) (λ other. sym (other_false (suc a) (suc b) (λ e. other (omega arith))))

pub strand_here : (shape : Shape) (w : World) (pass : ℕ) (ts : List ℕ) (es : List Ended) (n : ℕ) (e : Ended) → ArePast shape w pass ts es → slice_get es n ≡ Some e → StrandAt shape w pass ts n e
strand_here shape w pass [] [] n e past found = absurd (none_some found)
strand_here shape w pass [] (x ∷ xs) n e past found = absurd past
strand_here shape w pass (u ∷ us) [] n e past found = absurd past
strand_here shape w pass (u ∷ us) (x ∷ xs) zero e past found = record {
  number = u;
  listed = among_first u us;
  is = subst (λ (z : Ended). IsStrand shape w pass u z.cpus z.steps z.kept z.touched) (some_is found) past.0;
  alike = λ t among. by_test u t (λ b. eqb (cond b 0 (suc (place_in t us))) 0 ≡ eqb t u) (λ same. same_true t u (sym same)) (λ other. sym (other_false (suc (place_in t us)) 0 (omega arith)) ∙ other_false t u (λ e. other (sym e)));
}
strand_here shape w pass (u ∷ us) (x ∷ xs) (suc n) e past found =
    let there = strand_here shape w pass us xs n e past.2 found in record {
      number = there.number;
      listed = by_test u there.number (λ b. cond b true (is_among there.number us) ≡ true) (λ _. refl) (λ _. there.listed);
      is = there.is;
      alike = λ t among.
          by_test u t (λ b. cond b true (is_among t us) ≡ true → eqb (cond b 0 (suc (place_in t us))) (suc n) ≡ eqb t there.number)
          (λ same _. sym (other_false 0 (suc n) (omega arith)) ∙ other_false t there.number (λ is. true_false (sym there.listed ∙ (ap (λ (z : ℕ). is_among z us) (sym is ∙ sym same) ∙ past.1))))
          (λ _ f. one_less (place_in t us) n ∙ there.alike t f) among;
    }

-- Turns of which each is one of these strands are shared out among them.
pub are_turns_of : (shape : Shape) (w : World) (pass passes k : ℕ) (ts : List ℕ) (es : List Ended) → ArePast shape w pass ts es → AreTagged w passes (w.log k)
    → ((place : ℕ) → place < length (entries (w.log k)) → is_among (tag_at (w.log k) place) ts ≡ true) → AreTurnsOf k es (entries (w.log k))
are_turns_of shape w pass passes k ts es past tagged listed = record {
  strand_at = λ place. place_in (tag_at (w.log k) place) ts;
  within = λ place less. subst (λ (n : ℕ). place_in (tag_at (w.log k) place) ts < n) (as_long shape w pass ts es past) (place_within (tag_at (w.log k) place) ts (listed place less));
  has_cpu = λ place entry strand at_place at_strand.
      let t : ℕ = tag_at (w.log k) place in
      let here = strand_here shape w pass ts es (place_in t ts) strand past at_strand in
      let is : t ≡ here.number = eqb-true t here.number (sym (here.alike t (listed place (slice_get_within (entries (w.log k)) place entry at_place))) ∙ sym (same_true (place_in t ts) (place_in t ts) refl)) in
      ap (is_among entry.cpu) (sym here.is.cpus_of_strand ∙ ap w.cpus_of_strand (sym is)) ∙ (tagged_at w passes (w.log k) place entry tagged at_place).has_cpu;
  turns = λ n strand at_strand.
      let here = strand_here shape w pass ts es n strand past at_strand in
      here.is.steps_are k ∙ turns_alike (λ place. place_in (tag_at (w.log k) place) ts) n here.number 0 (w.log k)
      (λ place less. ap (λ (z : ℕ). eqb (place_in (tag_at (w.log k) z) ts) n) (omega arith) ∙ here.alike (tag_at (w.log k) place) (listed place less));
}
