-- The laws of the line above a strand's steps, and of the line of a phase's start.
use Rattle.std.proofs.Common.{◌≡◌, ℕ, zero, suc, ◌<◌, ◌≤◌, ◌^◌, ◌+◌, ◌==◌, cond, nat_le, nat_lt, Bool, true, false, List, [], ◌∷◌, ◌++◌, length, subst, Option, Some, refl, sym, ap, ◌∙◌, arith, append_assoc}
use Rattle.std.specs.Prelude.{codes, decimal}
use Rattle.std.specs.List.{flat_map}
use Rattle.std.proofs.lemmas.List.{append-nil}
use Rattle.std.proofs.lemmas.Bool.{and_parts, eqb-true, ltb-true, leb-true, le-leb}
use Rattle.map_types.specs.declared.attr.Shape.{Shape}
use Rattle.map_report.specs.History.{joined, phase_name, phase_line}
use Rattle.map_report.specs.Words.{number_text}
use Rattle.record_reading.specs.Readers.{Reader, nothing, ◌>>=◌, behind, after, both, made, or_else, number, digits_of, tested, whole, AllFit, ascends_above, ascends}
use Rattle.record_reading.specs.LineReaders.{behind_commas, joined_numbers, strand_rest, phase_front, StrandHead, strand_head, marks, start_of, phase_start}
use Rattle.record_shape.specs.ShapedParts.{CpusFit, StartFits}
use Rattle.record_reading.proofs.SectionLaws.{ReadsLine}
use Rattle.record_reading.proofs.Laws.{either_right, bound, if_some, from_some, number_back, number_reads, number_text_reads, behind_right}
use Rattle.record_reading.proofs.LineLaws.{commas_text, commas_back, commas_no_digit, length_zero}
use Rattle.record_reading.proofs.ToEndLaws.{word_then_reads, passing_reads, same_reads, made_of_reads, first_then_reads, numbers_reads}

group_strand : (c n m r : List ℕ) → ((c ++ n) ++ m) ++ r ≡ c ++ (n ++ (m ++ r))
group_strand c n m r = simp append_assoc

group_phase : (p n t m e : List ℕ) → p ++ n ++ t ++ m ++ e ≡ (p ++ n) ++ (t ++ (m ++ e))
group_phase p n t m e = simp append_assoc

-- ascending numbers below a bound are few
few_above : (least below : ℕ) (numbers : List ℕ) → ascends_above least numbers ≡ true → AllFit (λ n. n < below) numbers → least < below → length numbers + least < below
few_above least below [] above all less = omega arith
few_above least below (n ∷ more) above all less =
    let parts = and_parts (nat_lt least n) (ascends_above n more) above in
    let one : least < n = ltb-true least n parts.0 in
    omega (arith, few_above n below more parts.1 all.1 all.0)

-- what a reader takes is what is printed
abbrev Rights : {A : Type 0} → (A → List ℕ) → (A → Type 0) → Reader A → Type 0
Rights {A} print Fits read = (text : List ℕ) (a : A) (rest : List ℕ) → read text ≡ Some (a, rest) → (text ≡ print a ++ rest) × Fits a

rights_after : {A : Type 0} (print : A → List ℕ) (Fits : A → Type 0) (read : Reader A) → Rights print Fits read → (word : List ℕ) → Rights (λ a. word ++ print a) Fits (after word read)
rights_after print Fits read right word text a rest h =
    let step = bound (behind word text) read (a, rest) h in
    let more = right step.0 a rest step.2 in
    (behind_right word text step.0 step.1 ∙ ap (λ t. word ++ t) more.0 ∙ sym (append_assoc word (print a) rest), more.1)

rights_both : {A B : Type 0} (print : A → List ℕ) (Fits : A → Type 0) (read : Reader A) → Rights print Fits read → (print_next : B → List ℕ) (FitsNext : B → Type 0) (next : Reader B) → Rights print_next FitsNext next
    → Rights (λ x. print x.0 ++ print_next x.1) (λ x. Fits x.0 × FitsNext x.1) (both read (λ _. next))
rights_both {A} {B} print Fits read right print_next FitsNext next right_next text x rest h =
    let one = bound (read text) _ (x, rest) h in
    let two = bound (next one.0.1) _ (x, rest) one.2 in
    joins one.0.0 one.0.1 two.0.0 two.0.1 (right text one.0.0 one.0.1 one.1) (right_next one.0.1 two.0.0 two.0.1 two.1) (from_some ((one.0.0, two.0.0), two.0.1) (x, rest) two.2)
  where
    joins : (a : A) (middle : List ℕ) (b : B) (left : List ℕ) → (text ≡ print a ++ middle) × Fits a → (middle ≡ print_next b ++ left) × FitsNext b → ◌≡◌ {A = (A × B) × List ℕ} ((a, b), left) (x, rest) → (text ≡ (print x.0 ++ print_next x.1) ++ rest) × (Fits x.0 × FitsNext x.1)
    joins a middle b left first second same =
        subst (λ (p : (A × B) × List ℕ). (text ≡ (print p.0.0 ++ print_next p.0.1) ++ p.1) × (Fits p.0.0 × FitsNext p.0.1)) same
        (first.0 ∙ ap (λ t. print a ++ t) second.0 ∙ sym (append_assoc (print a) (print_next b) left), (first.1, second.1))

rights_made : {A B : Type 0} (print : A → List ℕ) (Fits : A → Type 0) (read : Reader A) → Rights print Fits read → (make : A → B) (print_made : B → List ℕ) (FitsMade : B → Type 0) → ((a : A) → print_made (make a) ≡ print a) → ((a : A) → Fits a → FitsMade (make a)) → Rights print_made FitsMade (made make read)
rights_made {A} {B} print Fits read right make print_made FitsMade prints to text b rest h =
    let one = bound (read text) _ (b, rest) h in
    let law = right text one.0.0 one.0.1 one.1 in
    subst (λ (p : B × List ℕ). (text ≡ print_made p.0 ++ p.1) × FitsMade p.0) (from_some (make one.0.0, one.0.1) (b, rest) one.2) (law.0 ∙ ap (λ t. t ++ one.0.1) (sym (prints one.0.0)), to one.0.0 law.1)

rights_tested : {A : Type 0} (print : A → List ℕ) (Fits : A → Type 0) (read : Reader A) → Rights print Fits read → (test : A → Bool) → Rights print (λ a. Fits a × (test a ≡ true)) (tested test read)
rights_tested {A} print Fits read right test text a rest h =
    let step = bound (read text) _ (a, rest) h in
    let is = if_some (test step.0.0) step.0 (a, rest) step.2 in
    let one = right text step.0.0 step.0.1 step.1 in
    subst (λ (p : A × List ℕ). (text ≡ print p.0 ++ p.1) × (Fits p.0 × (test p.0 ≡ true))) is.1 (one.0, (one.1, is.0))

rights_whole : {A : Type 0} (print : A → List ℕ) (Fits : A → Type 0) (read : Reader A) → Rights print Fits read → (text : List ℕ) (a : A) → whole read text ≡ Some a → (text ≡ print a) × Fits a
rights_whole {A} print Fits read right text a h =
    let step = bound (read text) _ a h in
    let is = if_some (length step.0.1 == 0) step.0.0 a step.2 in
    let none : step.0.1 ≡ [] = length_zero step.0.1 (eqb-true (length step.0.1) 0 is.0) in
    let one = right text step.0.0 step.0.1 step.1 in
    let e : text ≡ print step.0.0 = one.0 ∙ ap (λ t. print step.0.0 ++ t) none ∙ append-nil (print step.0.0) in
    subst (λ (b : A). (text ≡ print b) × Fits b) is.1 (e, one.1)

module _ (below : ℕ) (small : below ≤ 2 ^ 64) where
  abbrev Below : List ℕ → Type 0
  Below numbers = AllFit (λ n. n < below) numbers

  abbrev numbered_pair : ℕ × List ℕ → List ℕ
  numbered_pair x = x.0 ∷ x.1

  abbrev PairBelow : ℕ × List ℕ → Type 0
  PairBelow x = (x.0 < below) × Below x.1

  no_number : (print : List ℕ → List ℕ) → print [] ≡ [] → Rights print Below (made (λ _. []) nothing)
  no_number print none text numbers rest h =
      subst (λ (p : List ℕ × List ℕ). (text ≡ print p.0 ++ p.1) × Below p.0) (from_some ([], text) (numbers, rest) h) (ap (λ t. t ++ text) (sym none), tt)

  one_and_more : (most : ℕ) → Rights (commas_text below small) Below (behind_commas below most) → Rights (λ x. decimal x.0 ++ commas_text below small x.1) PairBelow (both (number below) (λ _. behind_commas below most))
  one_and_more most more = rights_both decimal (λ n. n < below) (number below) (number_reads below small).right (commas_text below small) Below (behind_commas below most) more

  commas_right : (most : ℕ) → Rights (commas_text below small) Below (behind_commas below most)
  unfolding commas_text
  commas_right zero = no_number (commas_text below small) refl
  commas_right (suc most) =
      either_right (commas_text below small) Below _ _
      (rights_made (λ x. codes "," ++ (decimal x.0 ++ commas_text below small x.1)) PairBelow (after (codes ",") (both (number below) (λ _. behind_commas below most)))
      (rights_after (λ x. decimal x.0 ++ commas_text below small x.1) PairBelow (both (number below) (λ _. behind_commas below most)) (one_and_more most (commas_right most)) (codes ","))
      numbered_pair (commas_text below small) Below (λ x. append_assoc (codes ",") (decimal x.0) (commas_text below small x.1)) (λ x fits. fits)) (no_number (commas_text below small) refl)

  joined_right : Rights joined Below (joined_numbers below)
  unfolding joined_numbers commas_text
  joined_right =
      either_right joined Below _ _
      (rights_made (λ x. decimal x.0 ++ commas_text below small x.1) PairBelow (both (number below) (λ _. behind_commas below below)) (one_and_more below (commas_right below)) numbered_pair joined Below (λ x. refl) (λ x fits. fits))
      (no_number joined refl)

  joined_back : (numbers : List ℕ) (rest : List ℕ) → AllFit (λ n. n < below) numbers → ascends numbers ≡ true → joined_numbers below (joined numbers ++ (codes " " ++ rest)) ≡ Some (numbers, codes " " ++ rest)
  unfolding joined_numbers or_else number digits_of behind commas_text
  joined_back [] rest all up = refl
  joined_back (n ∷ more) rest all up =
      let few : length more ≤ below = omega (arith, few_above n below more up all.1 all.0) in
      let one = number_back below small n (commas_text below small more ++ (codes " " ++ rest)) all.0 (commas_no_digit below small more (codes " " ++ rest) refl) in
      let two = commas_back below small below more (codes " " ++ rest) (all.1, few) (refl, refl) in
      rw (append_assoc, one, two) refl

module _ (shape : Shape) (small : shape.cpus ≤ 2 ^ 64) where
  rest_text : List ℕ × ℕ → List ℕ
  rest_text x = joined x.0 ++ number_text x.1

  rest_back : (x : List ℕ × ℕ) → CpusFit shape x.0 × (x.1 < 2 ^ 64) → whole (strand_rest shape) (rest_text x) ≡ Some x
  unfolding strand_rest behind rest_text
  rest_back x fits =
      let one = joined_back shape.cpus small x.0 (decimal x.1) fits.0.below fits.0.ascending in
      let two : number 18446744073709551616 (decimal x.1) ≡ Some (x.1, []) = ap (number 18446744073709551616) (sym (append-nil (decimal x.1))) ∙ number_back 18446744073709551616 (omega arith) x.1 [] fits.1 tt in
      rw (one, fits.0.ascending, two) refl

  rest_right : (text : List ℕ) (x : List ℕ × ℕ) → whole (strand_rest shape) text ≡ Some x → (text ≡ rest_text x) × (CpusFit shape x.0 × (x.1 < 2 ^ 64))
  unfolding strand_rest rest_text
  rest_right text x h =
      let cpus : Rights joined (λ l. Below shape.cpus small l × (ascends l ≡ true)) (tested ascends (joined_numbers shape.cpus)) = rights_tested joined (Below shape.cpus small) (joined_numbers shape.cpus) (joined_right shape.cpus small) ascends in
      let law =
      rights_whole (λ (x : List ℕ × ℕ). joined x.0 ++ number_text x.1) (λ x. (Below shape.cpus small x.0 × (ascends x.0 ≡ true)) × (x.1 < 2 ^ 64)) (strand_rest shape)
      (rights_both joined (λ l. Below shape.cpus small l × (ascends l ≡ true)) (tested ascends (joined_numbers shape.cpus)) cpus number_text (λ n. n < 2 ^ 64) (after (codes " ") (number 18446744073709551616)) (number_text_reads 18446744073709551616 (omega arith)).right) text x h in
      (law.0, (record { below = law.1.0.0; ascending = law.1.0.1 }, law.1.1))

  pub strand_rest_reads : ReadsLine (λ x. joined x.0 ++ number_text x.1) (λ x. CpusFit shape x.0 × (x.1 < 2 ^ 64)) (whole (strand_rest shape))
  unfolding rest_text
  strand_rest_reads = record { back = rest_back; right = rest_right }

-- ---- the phase of a strand

module _ (phases : ℕ) (small : phases ≤ 2 ^ 64) where
  -- whether it stands there
  front_of : Bool → List ℕ → Option (ℕ × List ℕ)
  front_of there text = cond there (number phases text >>= (λ n. behind (codes " ") n.1 >>= (λ rest. Some (n.0, rest)))) (Some (0, text))

  name_of : Bool → ℕ → List ℕ
  name_of there n = cond there (decimal n ++ codes " ") []

  of_back : (there : Bool) (one : there ≡ false → phases ≡ 1) (n : ℕ) (rest : List ℕ) → n < phases → front_of there (name_of there n ++ rest) ≡ Some (n, rest)
  unfolding front_of name_of behind
  of_back true one n rest less = rw (append_assoc, number_back phases small n (codes " " ++ rest) less refl) refl
  of_back false one n rest less = let e : 0 ≡ n = omega (arith, one refl) in ap (λ (k : ℕ). Some (k, rest)) e

  of_right : (there : Bool) (one : there ≡ false → phases ≡ 1) (text : List ℕ) (n : ℕ) (rest : List ℕ) → front_of there text ≡ Some (n, rest) → (text ≡ name_of there n ++ rest) × (n < phases)
  unfolding front_of name_of
  of_right true one text n rest h =
      let first = bound (number phases text) _ (n, rest) h in
      let second = bound (behind (codes " ") first.0.1) _ (n, rest) first.2 in
      let law = (number_reads phases small).right text first.0.0 first.0.1 first.1 in
      let e : text ≡ (decimal first.0.0 ++ codes " ") ++ second.0 =
      law.0 ∙ ap (λ t. decimal first.0.0 ++ t) (behind_right (codes " ") first.0.1 second.0 second.1) ∙ sym (append_assoc (decimal first.0.0) (codes " ") second.0) in
      subst (λ (p : ℕ × List ℕ). (text ≡ (decimal p.0 ++ codes " ") ++ p.1) × (p.0 < phases)) (from_some (first.0.0, second.0) (n, rest) second.2) (e, law.1)
  of_right false one text n rest h =
      subst (λ (p : ℕ × List ℕ). (text ≡ p.1) × (p.0 < phases)) (from_some (0, text) (n, rest) h) (refl, omega (arith, one refl))

  module _ (version : ℕ) (one : (version == 2) ≡ false → phases ≡ 1) where
    pub front_back : (n : ℕ) (rest : List ℕ) → n < phases → phase_front version phases (phase_name version n ++ rest) ≡ Some (n, rest)
    unfolding phase_front front_of name_of
    front_back = of_back (version == 2) one

    pub front_right : (text : List ℕ) (n : ℕ) (rest : List ℕ) → phase_front version phases text ≡ Some (n, rest) → (text ≡ phase_name version n ++ rest) × (n < phases)
    unfolding phase_front front_of name_of
    front_right = of_right (version == 2) one

-- ---- the line above a strand's steps

abbrev pub strand_head_text : ℕ → StrandHead → List ℕ
strand_head_text version head = codes "strand " ++ phase_name version head.0 ++ joined head.1.0 ++ number_text head.1.1

abbrev pub StrandHeadFits : Shape → ℕ → ℕ → StrandHead → Type 0
StrandHeadFits shape phases least head = (least ≤ head.0) × ((head.0 < phases) × (CpusFit shape head.1.0 × (head.1.1 < 2 ^ 64)))

pub strand_head_reads : (version : ℕ) (shape : Shape) (phases : ℕ) → shape.cpus ≤ 2 ^ 64 → phases ≤ 2 ^ 64 → ((version == 2) ≡ false → phases ≡ 1) → (least : ℕ) → ReadsLine (strand_head_text version) (StrandHeadFits shape phases least) (strand_head version shape phases least)
unfolding strand_head
strand_head_reads version shape phases few_cpus few_phases one least =
    same_reads
    (passing_reads (word_then_reads (first_then_reads (phase_name version) {Fits = λ n. n < phases}
    (λ n x fits _. front_back phases few_phases version one n (joined x.0 ++ number_text x.1) fits) (front_right phases few_phases version one) (strand_rest_reads shape few_cpus)) (codes "strand ")) (λ (head : StrandHead). nat_le least head.0))
    (strand_head_text version) (StrandHeadFits shape phases least) (λ head. group_strand (codes "strand ") (phase_name version head.0) (joined head.1.0) (number_text head.1.1))
    (λ head fits. (leb-true least head.0 fits.1, fits.0)) (λ head fits. (fits.1, le-leb least head.0 fits.0))

-- ---- the start of a phase

pub phase_start_reads : (shape : Shape) → shape.elements ≤ 2 ^ 64 → (phase : ℕ) → ReadsLine (phase_line phase) (StartFits shape) (phase_start shape phase)
unfolding phase_start marks
phase_start_reads shape small phase =
    let ticket = number_text_reads 18446744073709551616 (omega arith) in
    made_of_reads
    (word_then_reads (first_then_reads number_text (λ n marked fits _. ticket.back n (codes " marked" ++ flat_map number_text marked) fits refl) ticket.right (word_then_reads (passing_reads (numbers_reads shape.elements small) ascends) (codes " marked"))) (codes "phase" ++ number_text phase))
    start_of (λ start. (start.ticket, start.marked)) (λ start. refl) (phase_line phase) (StartFits shape) (λ x. group_phase (codes "phase") (number_text phase) (number_text x.0) (codes " marked") (flat_map number_text x.1))
    (λ x fits. record { ticket = fits.0; marked = record { below = fits.1.0; ascending = fits.1.1 } }) (λ x fits. (fits.ticket, (fits.marked.below, fits.marked.ascending)))
