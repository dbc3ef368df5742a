-- One step more on a word, of the current strand of a pass.
use Rattle.std.proofs.Common.{◌≡◌, ◌≢◌, ℕ, suc, ◌+◌, ◌<◌, eqb, cond, arith, true, false, List, [], ◌∷◌, ◌++◌, length, get_or, set, sym, refl, ap, ◌∙◌, subst, Some, get_or-set_other, get_or-set_same}
use Rattle.std.specs.Prelude.{MatchBool, ◌&&◌}
use Rattle.std.proofs.lemmas.Bool.{eqb-true}
use Rattle.atomic_table.specs.Table.{State}
use Rattle.map_types.specs.declared.attr.Shape.{Shape}
use Rattle.map_types.proofs.RowLemmas.{by_test}
use Rattle.place_table.specs.declared.content.Behind.{Behind}
use Rattle.place_table.specs.declared.view.View.{View}
use Rattle.place_table.specs.declared.view.WordStep.{WordStep}
use Rattle.place_table.specs.Views.{is_among}
use Rattle.place_table.specs.Words.{word_count, opening_words}
use Rattle.place_table.specs.Rules.{World, Rule, PassKnows, Tagged, Touch, AreInTime, givers, strands_of, touches_of, turns_of, IsSeen, LeadTo, IsStrand, AreOfStrands, AreReads}
use Rattle.place_table.proofs.Entries.{touches_of_same, touches_of_other}
use Rattle.place_table.proofs.Worlds.{true_false, by_bool, both_true, among_first, SameStrands, of_strands_stay, of_strands_more}

-- What leads a word on

lead_here : (i from to : ℕ) (xs : List Touch) (t : ℕ) (x : WordStep) → x.word ≡ i → LeadTo i from xs to → IsSeen x.seen to → LeadTo i from (xs ++ (t, x) ∷ []) x.left
lead_here i from to [] t x is lead seen = by_test x.word i (λ b. MatchBool b (IsSeen x.seen from × (x.left ≡ x.left)) (from ≡ x.left)) (λ _. (subst (IsSeen x.seen) (sym lead) seen, refl)) (λ n. absurd (n is))
lead_here i from to (y ∷ ys) t x is lead seen =
    by_test y.1.word i
    (λ b. MatchBool b (IsSeen y.1.seen from × LeadTo i y.1.left ys to) (LeadTo i from ys to) → MatchBool b (IsSeen y.1.seen from × LeadTo i y.1.left (ys ++ (t, x) ∷ []) x.left) (LeadTo i from (ys ++ (t, x) ∷ []) x.left))
    (λ _ l. (l.0, lead_here i y.1.left to ys t x is l.1 seen)) (λ _ l. lead_here i from to ys t x is l seen) lead

lead_else : (i from to : ℕ) (xs : List Touch) (t : ℕ) (x : WordStep) → x.word ≢ i → LeadTo i from xs to → LeadTo i from (xs ++ (t, x) ∷ []) to
lead_else i from to [] t x other lead = by_test x.word i (λ b. MatchBool b (IsSeen x.seen from × (x.left ≡ to)) (from ≡ to)) (λ same. absurd (other same)) (λ _. lead)
lead_else i from to (y ∷ ys) t x other lead =
    by_test y.1.word i
    (λ b. MatchBool b (IsSeen y.1.seen from × LeadTo i y.1.left ys to) (LeadTo i from ys to) → MatchBool b (IsSeen y.1.seen from × LeadTo i y.1.left (ys ++ (t, x) ∷ []) to) (LeadTo i from (ys ++ (t, x) ∷ []) to))
    (λ _ l. (l.0, lead_else i y.1.left to ys t x other l.1)) (λ _ l. lead_else i from to ys t x other l) lead

-- each word is what the steps lead to, where the word of the step is what it left
pub lead_set : (i from : ℕ) (words : List ℕ) (xs : List Touch) (t : ℕ) (x : WordStep) → x.word < length words → IsSeen x.seen (get_or words x.word 0) → LeadTo i from xs (get_or words i 0) → LeadTo i from (xs ++ (t, x) ∷ []) (get_or (set words x.word x.left) i 0)
lead_set i from words xs t x inside seen lead =
    by_test x.word i (λ _. LeadTo i from (xs ++ (t, x) ∷ []) (get_or (set words x.word x.left) i 0))
    (λ same. subst (LeadTo i from (xs ++ (t, x) ∷ [])) (sym (ap (λ (z : ℕ). get_or (set words x.word x.left) z 0) (sym same) ∙ get_or-set_same words x.word x.left 0 inside))
    (lead_here i from (get_or words i 0) xs t x same lead (subst (λ (z : ℕ). IsSeen x.seen (get_or words z 0)) same seen)))
    (λ other. subst (LeadTo i from (xs ++ (t, x) ∷ [])) (sym (get_or-set_other words x.word i x.left 0 (λ same. other (sym same)))) (lead_else i from (get_or words i 0) xs t x other lead))

-- In the order in which they were made

-- the number of the next step
abbrev pub made : World → ℕ
made w = length w.touches

time_from : (n : ℕ) (xs : List Touch) (x : Touch) → AreInTime n xs → x.1.at ≡ length xs + n → AreInTime n (xs ++ x ∷ [])
time_from n [] x are next = (omega (arith, next), tt)
time_from n (y ∷ ys) x are next = (are.0, time_from (suc n) ys x are.1 (let later : x.1.at ≡ length ys + suc n = omega (arith, next) in later))

pub time_more : (xs : List Touch) (x : Touch) → AreInTime 0 xs → x.1.at ≡ length xs → AreInTime 0 (xs ++ x ∷ [])
time_more xs x are next = time_from 0 xs x are (omega (arith, next))

-- The strands that gave a lock back

pub givers_other : (k : ℕ) (xs : List Touch) (x : Touch) → (x.1.word ≡ k → x.1.left ≡ 0 → ⊥) → givers k (xs ++ x ∷ []) ≡ givers k xs
givers_other k [] x other =
    by_bool (eqb x.1.word k && eqb x.1.left 0) (λ b. (eqb x.1.word k && eqb x.1.left 0) ≡ b → cond {A = List ℕ} b (x.0 ∷ []) [] ≡ [])
    (λ _ is. let parts = both_true _ _ is in absurd (other (eqb-true x.1.word k parts.0) (eqb-true x.1.left 0 parts.1))) (λ _ _. refl) refl
givers_other k (y ∷ ys) x other =
    ap (λ (l : List ℕ). cond {A = List ℕ} (eqb y.1.word k && eqb y.1.left 0) (y.0 ∷ l) l) (givers_other k ys x other)

pub givers_here : (k : ℕ) (xs : List Touch) (x : Touch) → x.1.word ≡ k → x.1.left ≡ 0 → givers k (xs ++ x ∷ []) ≡ givers k xs ++ x.0 ∷ []
givers_here k [] x at zero_left =
    by_test x.1.word k (λ b. cond {A = List ℕ} (b && eqb x.1.left 0) (x.0 ∷ []) [] ≡ x.0 ∷ [])
    (λ _. by_test x.1.left 0 (λ b. cond {A = List ℕ} b (x.0 ∷ []) [] ≡ x.0 ∷ []) (λ _. refl) (λ n. absurd (n zero_left))) (λ n. absurd (n at))
givers_here k (y ∷ ys) x at zero_left =
    let rest = givers_here k ys x at zero_left in
    by_bool (eqb y.1.word k && eqb y.1.left 0) (λ b. cond {A = List ℕ} b (y.0 ∷ givers k (ys ++ x ∷ [])) (givers k (ys ++ x ∷ [])) ≡ cond {A = List ℕ} b (y.0 ∷ givers k ys) (givers k ys) ++ x.0 ∷ [])
    (λ _. ap (λ (l : List ℕ). y.0 ∷ l) rest) (λ _. rest)

pub strands_more : (log : List Tagged) (x : Tagged) → strands_of (log ++ x ∷ []) ≡ strands_of log ++ x.0 ∷ []
strands_more [] x = refl
strands_more (y ∷ ys) x = ap (λ (l : List ℕ). y.0 ∷ l) (strands_more ys x)

-- The steps of the strands

-- those of all strands with one more
abbrev pub touches_with : World → ℕ → WordStep → List Touch
touches_with w pass x = w.touches ++ (w.current pass, x) ∷ []

pub reads_more : (xs : List WordStep) (x : WordStep) → AreReads xs → x.seen ≡ Some x.left → AreReads (xs ++ x ∷ [])
reads_more [] x are is = (is, tt)
reads_more (y ∷ ys) x are is = (are.0, reads_more ys x are.1 is)

module _ (shape : Shape) (w : World) (pass : ℕ) (v : View) (kn : PassKnows shape w pass v) (x : WordStep) where
  pub mine_more : v.touched ++ x ∷ [] ≡ touches_of (w.current pass) (touches_with w pass x)
  mine_more = ap (λ (l : List WordStep). l ++ x ∷ []) kn.strand.touched_are ∙ sym (touches_of_same (w.current pass) w.touches x)

  pub past_same : (t : ℕ) → is_among t (w.past pass) ≡ true → touches_of t (touches_with w pass x) ≡ touches_of t w.touches
  past_same t among = touches_of_other t (w.current pass) w.touches x (λ same. true_false (sym among ∙ (ap (λ (z : ℕ). is_among z (w.past pass)) (sym same) ∙ kn.apart)))

  pub other_same : (j t : ℕ) → j ≢ pass → w.pass_of_strand t ≡ j → touches_of t (touches_with w pass x) ≡ touches_of t w.touches
  other_same j t other own = touches_of_other t (w.current pass) w.touches x (λ same. other (sym own ∙ (ap w.pass_of_strand (sym same) ∙ kn.strand.pass_of_strand)))

  -- in another world of the same strands
  pub of_strands_with : (w' : World) (n m : ℕ) → pass < n → n ≡ m → SameStrands w w' → AreOfStrands w n w.touches → AreOfStrands w' m (touches_with w pass x)
  of_strands_with w' n m below long same are =
      of_strands_stay w w' n m (touches_with w pass x) long same
      (of_strands_more w n w.touches (w.current pass, x) are record {
        seated = subst (λ (z : ℕ). z < n) (sym kn.strand.pass_of_strand) below;
        numbered = kn.strand.numbered;
        listed = subst (λ (z : ℕ). is_among (w.current pass) (w.current z ∷ w.past z) ≡ true) (sym kn.strand.pass_of_strand) (among_first (w.current pass) (w.past pass));
      })

  pub strand_with : (w' : World) → SameStrands w w' → ((k : ℕ) → turns_of (w.current pass) 0 (w'.log k) ≡ turns_of (w.current pass) 0 (w.log k)) → ((k : ℕ) → w'.lost k ≡ false → w.lost k ≡ false) → w'.touches ≡ touches_with w pass x
      → IsStrand shape w' pass (w.current pass) v.cpus v.steps v.kept (v.touched ++ x ∷ [])
  strand_with w' same turns losses is = record {
    pass_of_strand = same.pass_of_strand (w.current pass) ∙ kn.strand.pass_of_strand;
    numbered = subst (λ (n : ℕ). w.current pass < n) (sym same.next) kn.strand.numbered;
    cpus_of_strand = same.cpus_of_strand (w.current pass) ∙ kn.strand.cpus_of_strand;
    steps_are = λ k. kn.strand.steps_are k ∙ sym (turns k);
    stand = same.still v.steps kn.strand.stand;
    kept_are = λ k within there lo. kn.strand.kept_are k within there (losses k lo);
    touched_are = mine_more ∙ ap (touches_of (w.current pass)) (sym is);
  }

-- the words after the step
pub lead_with : (shape : Shape) (s : State Behind View) (r : Rule shape s) (t : ℕ) (x : WordStep) → x.word < length s.words → IsSeen x.seen (get_or s.words x.word 0)
    → (i : ℕ) → i < word_count shape → LeadTo i (get_or (opening_words shape) i 0) (r.world.touches ++ (t, x) ∷ []) (get_or (set s.words x.word x.left) i 0)
lead_with shape s r t x inside seen i below = lead_set i (get_or (opening_words shape) i 0) s.words r.world.touches t x inside seen (r.lead i below)
