-- A closed table of which no record is lost: what its pass knew of losses, and the strands that it leaves.
use Rattle.std.proofs.Common.{◌≡◌, ◌≢◌, ℕ, zero, suc, ◌+◌, ◌<◌, ◌≤◌, ◌⊎◌, Bool, true, false, not, ◌||◌, cond, List, [], ◌∷◌, ◌++◌, length, map, refl, ap, sym, ◌∙◌, inl, inr, arith}
use Rattle.std.specs.Prelude.{IsTrue, filter, if◌then◌else◌}
use Rattle.std.specs.List.{list_any, range_with_len}
use Rattle.std.proofs.lemmas.Bool.{cases_eq, lt-ltb, ne_eqb}
use Rattle.map_types.specs.declared.attr.Shape.{Shape}
use Rattle.map_types.specs.declared.kind.DomainId.TheVariants.{Bucket}
use Rattle.map_types.specs.Shape.{HasBounds}
use Rattle.map_types.proofs.RowLemmas.{by_test}
use Rattle.place_words.specs.declared.history.Strand.{Strand}
use Rattle.place_words.specs.declared.history.StrandStep.{StrandStep}
use Rattle.place_words.specs.Locks.{is_lock, lock_number, lock_count}
use Rattle.place_words.proofs.LockLemmas.{named_by_number, number_within}
use Rattle.place_table.specs.declared.view.Ended.{Ended}
use Rattle.place_table.specs.declared.view.Turned.{Turned}
use Rattle.place_table.specs.declared.view.WordStep.{WordStep}
use Rattle.place_table.specs.declared.view.View.{View}
use Rattle.place_table.specs.Closing.{ClosedView, IsClosed, has_lock, strand_told, strands_told}
use Rattle.place_table.specs.Passes.{PassView}
use Rattle.place_table.specs.Views.{is_among, all_strands, current_strand}
use Rattle.serial_laws.proofs.ListPlaces.{all_pass}

-- Locks of which no record is lost

or_left : (b c : Bool) → (b || c) ≡ false → b ≡ false
or_left true c none = none
or_left false c none = refl

or_right : (b c : Bool) → (b || c) ≡ false → c ≡ false
or_right true c none = cc
or_right false c none = none

pub none_of : (has lost : ℕ → Bool) (a n k : ℕ) → list_any lost (filter has (range_with_len a n)) ≡ false → a ≤ k → k < a + n → has k ≡ true → lost k ≡ false
none_of has lost a zero k none low high there = absurd (omega arith)
none_of has lost a (suc n) k none low high there = by (has a) refl none (cases_eq a k) (none_of has lost (a + 1) n k)
  where
    by : (b : Bool) → has a ≡ b → list_any lost (cond b (a ∷ filter has (range_with_len (a + 1) n)) (filter has (range_with_len (a + 1) n))) ≡ false → (a ≡ k) ⊎ (a ≢ k)
        → (list_any lost (filter has (range_with_len (a + 1) n)) ≡ false → a + 1 ≤ k → k < a + 1 + n → has k ≡ true → lost k ≡ false) → lost k ≡ false
    by true is none (inl here) rest = ap lost (sym here) ∙ or_left (lost a) _ none
    by false is none (inl here) rest = cc
    by true is none (inr other) rest = rest (or_right (lost a) _ none) (omega arith) (omega arith) there
    by false is none (inr other) rest = rest none (omega arith) (omega arith) there

module _ (shape : Shape) (p : PassView) (closed : ClosedView) (ends : IsClosed shape p closed) (whole : closed.lost ≡ false) where
  pub none_lost : (k : ℕ) → k < lock_count shape → IsTrue (has_lock shape k) → ends.lost k ≡ false
  none_lost k below there =
      none_of (has_lock shape) ends.lost 0 (lock_count shape) k (sym ends.left.lost_is ∙ whole) (omega arith) (omega arith) there

  -- each map has a bucket, whose record isn't lost, and so the strands aren't
  strands_stay : HasBounds shape → (b : Bool) → ends.strands_lost ≡ b → b ≡ false
  strands_stay bounds false is = refl
  strands_stay bounds true is =
      let some : 0 < shape.buckets = let capacity = bounds.some_capacity in let buckets = bounds.capacity_in_buckets in omega arith in
      let real : IsTrue (is_lock shape (Bucket 0)) = lt-ltb 0 shape.buckets some in
      let k : ℕ = lock_number shape (Bucket 0) in
      let there : IsTrue (has_lock shape k) = ap (is_lock shape) (named_by_number shape (Bucket 0) real) ∙ real in
      let kept : ends.lost k ≡ false = none_lost k (number_within shape (Bucket 0) real) there in
      let gone : ends.lost k ≡ true = ends.all_lost is k in
      cc

  pub strands_are_told : HasBounds shape → closed.strands ≡ strands_told shape (all_strands p.view)
  strands_are_told bounds =
      ends.left.strands_are ∙ ap (λ (b : Bool). if b then [] else strands_told shape (all_strands p.view)) (strands_stay bounds ends.strands_lost refl)

  -- the pass knew of no loss
  none_known : (lost : List ℕ) → p.view.lost ≡ lost → lost ≡ []
  none_known [] is = refl
  none_known (k ∷ lost) is =
      let there : is_among k (k ∷ lost) ≡ true = by_test k k (λ b. cond b true (is_among k lost) ≡ true) (λ _. refl) (λ other. absurd (other refl)) in
      let told : closed.lost ≡ true = ends.losses k (ap (is_among k) is ∙ there) in
      cc

  pub no_losses : p.view.lost ≡ []
  no_losses = none_known p.view.lost refl

-- A pass with all CPUs of which no strand has ended

-- the strand of all CPUs, where it has a step
abbrev pub strands_of : Shape → List StrandStep → List Strand
strands_of shape [] = []
strands_of shape (step ∷ steps) = record { phase = 0; cpus = range_with_len 0 shape.cpus; steps = step ∷ steps } ∷ []

one_told : (shape : Shape) (cpus : List ℕ) (steps : List Turned) (kept : List StrandStep) (touched : List WordStep) → filter (λ cpu. is_among cpu cpus) (range_with_len 0 shape.cpus) ≡ range_with_len 0 shape.cpus
    → strands_told shape (record { cpus = cpus; steps = steps; kept = kept; touched = touched } ∷ []) ≡ strands_of shape kept
one_told shape cpus steps [] touched all = refl
one_told shape cpus steps (step ∷ kept) touched all =
    let left : Strand = record { phase = 0; cpus = filter (λ cpu. is_among cpu cpus) (range_with_len 0 shape.cpus); steps = step ∷ kept } in
    let there : strands_told shape (record { cpus = cpus; steps = steps; kept = step ∷ kept; touched = touched } ∷ []) ≡ left ∷ [] =
    ap (λ b. map (strand_told shape) (cond (not b) (record { cpus = cpus; steps = steps; kept = step ∷ kept; touched = touched } ∷ []) [])) (ne_eqb (suc (length kept)) 0 (λ is. omega arith)) in
    there ∙ (λ i. record { phase = 0; cpus = all i; steps = step ∷ kept } ∷ [])

pub told_of_one : (shape : Shape) (v : View) → v.ended ≡ [] → ((cpu : ℕ) → cpu < shape.cpus → is_among cpu v.cpus ≡ true) → strands_told shape (all_strands v) ≡ strands_of shape v.kept
told_of_one shape v none all =
    ap (λ (strands : List Ended). strands_told shape (strands ++ current_strand v ∷ [])) none
    ∙ one_told shape v.cpus v.steps v.kept v.touched (all_pass (λ cpu. is_among cpu v.cpus) 0 shape.cpus (λ cpu low high. all cpu (omega arith)))
