-- The steps on words, as those of the strands of one pass.
use Rattle.std.proofs.Common.{◌≡◌, ℕ, suc, ◌<◌, ◌≤◌, arith, eqb, cond, Bool, true, false, List, [], ◌∷◌, length, get_or, sym, refl, ap, ◌∙◌, subst, Some}
use Rattle.std.specs.Prelude.{MatchBool}
use Rattle.map_types.specs.declared.attr.Shape.{Shape}
use Rattle.map_types.proofs.RowLemmas.{by_test}
use Rattle.place_table.specs.declared.view.Ended.{Ended}
use Rattle.place_table.specs.declared.view.WordStep.{WordStep}
use Rattle.place_table.specs.Views.{is_among}
use Rattle.place_table.specs.Words.{word_count, opening_words}
use Rattle.place_table.specs.Rules.{World, Touch, AreInTime, touches_of, IsSeen, LeadTo, IsOfStrand, AreOfStrands, ArePast, AreReads}
use Rattle.place_table.specs.Closing.{AreTouchesOf, AreInOrder, AreBelow}
use Rattle.place_table.proofs.Worlds.{true_false, by_bool}
use Rattle.place_table.proofs.StrandNumbers.{place_in, place_within, as_long, strand_here, other_false}

-- those of these strands, each with the place of its strand
abbrev pub retagged : List ℕ → List Touch → List Touch
retagged ts [] = []
retagged ts (x ∷ xs) = cond (is_among x.0 ts) ((place_in x.0 ts, x.1) ∷ retagged ts xs) (retagged ts xs)

first_read : (x : Touch) (xs : List Touch) → AreReads (touches_of x.0 (x ∷ xs)) → x.1.seen ≡ Some x.1.left
first_read x xs are =
    by_test x.0 x.0 (λ b. AreReads (cond {A = List WordStep} b (x.1 ∷ touches_of x.0 xs) (touches_of x.0 xs)) → x.1.seen ≡ Some x.1.left) (λ _ f. f.0) (λ n. absurd (n refl)) are

later_reads : (t : ℕ) (x : Touch) (xs : List Touch) → AreReads (touches_of t (x ∷ xs)) → AreReads (touches_of t xs)
later_reads t x xs are =
    by_test x.0 t (λ b. AreReads (cond {A = List WordStep} b (x.1 ∷ touches_of t xs) (touches_of t xs)) → AreReads (touches_of t xs)) (λ _ f. f.1) (λ _ f. f) are

seen_same : (x : WordStep) (from : ℕ) → x.seen ≡ Some x.left → IsSeen x.seen from → x.left ≡ from
seen_same x from is seen = subst (λ z. IsSeen z from) is seen

-- what only reads may be left out
lead_on : (w : World) (n : ℕ) (ts : List ℕ) (i from to : ℕ) (xs : List Touch) → AreOfStrands w n xs → ((t : ℕ) → IsOfStrand w n t → is_among t ts ≡ false → AreReads (touches_of t xs)) → LeadTo i from xs to → LeadTo i from (retagged ts xs) to
lead_on w n ts i from to [] are reads lead = lead
lead_on w n ts i from to (x ∷ xs) are reads lead =
    by_bool (is_among x.0 ts) (λ b. LeadTo i from (cond b ((place_in x.0 ts, x.1) ∷ retagged ts xs) (retagged ts xs)) to)
    (λ _. by_test x.1.word i
    (λ b. MatchBool b (IsSeen x.1.seen from × LeadTo i x.1.left xs to) (LeadTo i from xs to) → MatchBool b (IsSeen x.1.seen from × LeadTo i x.1.left (retagged ts xs) to) (LeadTo i from (retagged ts xs) to))
    (λ _ l. (l.0, lead_on w n ts i x.1.left to xs are.1 (λ t of out. later_reads t x xs (reads t of out)) l.1))
    (λ _ l. lead_on w n ts i from to xs are.1 (λ t of out. later_reads t x xs (reads t of out)) l) lead)
    (λ out. by_test x.1.word i
    (λ b. MatchBool b (IsSeen x.1.seen from × LeadTo i x.1.left xs to) (LeadTo i from xs to) → LeadTo i from (retagged ts xs) to)
    (λ _ l. subst (λ (b : ℕ). LeadTo i b (retagged ts xs) to) (seen_same x.1 from (first_read x xs (reads x.0 are.0 out)) l.0)
    (lead_on w n ts i x.1.left to xs are.1 (λ t of gone. later_reads t x xs (reads t of gone)) l.1))
    (λ _ l. lead_on w n ts i from to xs are.1 (λ t of gone. later_reads t x xs (reads t of gone)) l) lead)

below_all : (ts : List ℕ) (n : ℕ) (xs : List Touch) → length ts ≡ n → AreBelow n (retagged ts xs)
below_all ts n [] long = tt
below_all ts n (x ∷ xs) long =
    by_bool (is_among x.0 ts) (λ b. AreBelow n (cond b ((place_in x.0 ts, x.1) ∷ retagged ts xs) (retagged ts xs)))
    (λ among. (subst (λ (z : ℕ). place_in x.0 ts < z) long (place_within x.0 ts among), below_all ts n xs long)) (λ _. below_all ts n xs long)

-- those of one strand stay
alike_on : (ts : List ℕ) (n number : ℕ) → is_among number ts ≡ true → ((t : ℕ) → is_among t ts ≡ true → eqb (place_in t ts) n ≡ eqb t number) → (xs : List Touch) → touches_of number xs ≡ touches_of n (retagged ts xs)
alike_on ts n number listed alike [] = refl
alike_on ts n number listed alike (x ∷ xs) =
    let rest = alike_on ts n number listed alike xs in
    by_bool (is_among x.0 ts) (λ b. cond {A = List WordStep} (eqb x.0 number) (x.1 ∷ touches_of number xs) (touches_of number xs) ≡ touches_of n (cond b ((place_in x.0 ts, x.1) ∷ retagged ts xs) (retagged ts xs)))
    (λ among. ap (λ (l : List WordStep). cond {A = List WordStep} (eqb x.0 number) (x.1 ∷ l) l) rest ∙ ap (λ (b : Bool). cond {A = List WordStep} b (x.1 ∷ touches_of n (retagged ts xs)) (touches_of n (retagged ts xs))) (sym (alike x.0 among)))
    (λ out. ap (λ (b : Bool). cond {A = List WordStep} b (x.1 ∷ touches_of number xs) (touches_of number xs)) (sym (other_false x.0 number (λ same. true_false (sym listed ∙ (ap (λ (z : ℕ). is_among z ts) (sym same) ∙ out))))) ∙ rest)

-- in the order in which they were made
in_order : (n m : ℕ) (ts : List ℕ) (xs : List Touch) → n ≤ m → AreInTime m xs → AreInOrder n (retagged ts xs)
in_order n m ts [] low are = tt
in_order n m ts (x ∷ xs) low are =
    by_bool (is_among x.0 ts) (λ b. AreInOrder n (cond b ((place_in x.0 ts, x.1) ∷ retagged ts xs) (retagged ts xs)))
    (λ _. (omega (arith, low, are.0), in_order (suc x.1.at) (suc m) ts xs (omega (arith, are.0)) are.1)) (λ _. in_order n (suc m) ts xs (omega (arith, low)) are.1)

pub are_touches_of : (shape : Shape) (w : World) (pass passes : ℕ) (ts : List ℕ) (es : List Ended) (words : List ℕ) → ArePast shape w pass ts es → AreInTime 0 w.touches → AreOfStrands w passes w.touches
    → ((i : ℕ) → i < word_count shape → LeadTo i (get_or (opening_words shape) i 0) w.touches (get_or words i 0)) → ((t : ℕ) → IsOfStrand w passes t → is_among t ts ≡ false → AreReads (touches_of t w.touches)) → AreTouchesOf shape es words
are_touches_of shape w pass passes ts es words past time of lead reads = record {
  touches = retagged ts w.touches;
  in_order = in_order 0 0 ts w.touches (omega arith) time;
  lead = λ i below. lead_on w passes ts i (get_or (opening_words shape) i 0) (get_or words i 0) w.touches of reads (lead i below);
  of_strands = λ n strand at. let here = strand_here shape w pass ts es n strand past at in here.is.touched_are ∙ alike_on ts n here.number here.listed here.alike w.touches;
  within = below_all ts (length es) w.touches (as_long shape w pass ts es past);
}
