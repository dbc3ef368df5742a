-- Steps that name entries of some CPUs in order, on each lock: step after step.
use Rattle.std.proofs.Common.{◌≡◌, ◌⊎◌, ℕ, zero, suc, ◌≤◌, Bool, true, false, cond, leb, List, [], ◌∷◌, ◌++◌, length, Some, None, refl, ap, sym, ◌∙◌, subst, inl, inr, arith}
use Rattle.std.specs.Prelude.{slice_get}
use Rattle.std.proofs.lemmas.Bool.{and_parts, both_ways, cases_Bool, cases_eq, cases_lt, eq-eqb, ne_eqb}
use Rattle.map_types.specs.declared.attr.Shape.{Shape}
use Rattle.map_types.specs.declared.kind.DomainId.{DomainId}
use Rattle.map_types.specs.ElementLists.{put}
use Rattle.place_words.specs.declared.history.Entry.{Entry}
use Rattle.place_words.specs.declared.history.LockHistory.{LockHistory}
use Rattle.place_words.specs.declared.history.StrandStep.{StrandStep}
use Rattle.place_words.specs.Locks.{is_lock, is_same_lock, lock_named, lock_number}
use Rattle.place_words.specs.Strands.{places_on}
use Rattle.place_words.proofs.LockLemmas.{named_by_number, one_lock, same_lock}
use Rattle.map_report.specs.Record.{entries_of, places_in}
use Rattle.record_shape.specs.Fits.{AllFit}
use Rattle.record_shape.specs.ShapedParts.{StepFits}
use Rattle.record_parts.specs.StrandTables.{are_named, is_own}
use Rattle.record_flaws.specs.StrandFlaws.{passes}
use Rattle.record_parts.proofs.CpuLists.{and_both}

-- these places ascend from a number on, and entries there pass a test
abbrev pub AreTaken : (Entry → Bool) → List Entry → ℕ → List ℕ → Type 0
AreTaken test entries from [] = Unit {0}
AreTaken test entries from (x ∷ xs) = (from ≤ x) × (passes test (slice_get entries x) ≡ true) × AreTaken test entries (suc x) xs

pub leb_true : (m n : ℕ) → leb m n ≡ true → m ≤ n
leb_true m n is = grind (arith, Rattle.std.proofs.lemmas.Bool.Decides.nat_tests)

pub true_leb : (m n : ℕ) → m ≤ n → leb m n ≡ true
true_leb m n is = grind (arith, Rattle.std.proofs.lemmas.Bool.Decides.nat_tests)

pub put_here : (from : ℕ → ℕ) (k x : ℕ) → put from k x k ≡ x
unfolding put
put_here from k x = ap (λ (b : Bool). cond b x (from k)) (eq-eqb k k refl)

pub put_elsewhere : (from : ℕ → ℕ) (k x j : ℕ) → (j ≡ k → ⊥) → put from k x j ≡ from j
unfolding put
put_elsewhere from k x j other = ap (λ (b : Bool). cond b x (from j)) (ne_eqb j k other)

one_number : (shape : Shape) (lock other : DomainId) → is_lock shape lock ≡ true → is_lock shape other ≡ true → lock_number shape lock ≡ lock_number shape other → lock ≡ other
one_number shape lock other is is_other same = sym (named_by_number shape lock is) ∙ (ap (lock_named shape) same ∙ named_by_number shape other is_other)

module _ (shape : Shape) (histories : List LockHistory) (test : Entry → Bool) where
  abbrev NamesAt : (ℕ → ℕ) → List StrandStep → DomainId → Type 0
  NamesAt from steps lock = AreTaken test (entries_of histories lock) (from (lock_number shape lock)) (places_on lock steps)

  pub named_taken : (from : ℕ → ℕ) (steps : List StrandStep) → AllFit (StepFits shape) steps → are_named shape histories test from steps ≡ true
      → (lock : DomainId) → is_lock shape lock ≡ true → NamesAt from steps lock
  named_taken from [] fit named lock is = tt
  named_taken from (step ∷ steps) fit named lock is =
      let parts = and_parts _ (are_named shape histories test (put from (lock_number shape step.lock) (suc step.index)) steps) named in
      let here = and_parts (passes test (slice_get (entries_of histories step.lock) step.index)) (leb (from (lock_number shape step.lock)) step.index) parts.0 in
      by (is_same_lock step.lock lock) refl here.0 (leb_true _ _ here.1) (named_taken (put from (lock_number shape step.lock) (suc step.index)) steps fit.1 parts.1 lock is)
    where
      by : (b : Bool) → is_same_lock step.lock lock ≡ b → passes test (slice_get (entries_of histories step.lock) step.index) ≡ true → from (lock_number shape step.lock) ≤ step.index
          → AreTaken test (entries_of histories lock) (put from (lock_number shape step.lock) (suc step.index) (lock_number shape lock)) (places_on lock steps)
          → AreTaken test (entries_of histories lock) (from (lock_number shape lock)) (cond b (step.index ∷ places_on lock steps) (places_on lock steps))
      by true same passing least rest =
          let one : step.lock ≡ lock = one_lock step.lock lock same in
          let next : put from (lock_number shape step.lock) (suc step.index) (lock_number shape lock) ≡ suc step.index =
          ap (λ (l : DomainId). put from (lock_number shape l) (suc step.index) (lock_number shape lock)) one ∙ put_here from (lock_number shape lock) (suc step.index) in (
            subst (λ (l : DomainId). from (lock_number shape l) ≤ step.index) one least,
            subst (λ (l : DomainId). passes test (slice_get (entries_of histories l) step.index) ≡ true) one passing,
            subst (λ (n : ℕ). AreTaken test (entries_of histories lock) n (places_on lock steps)) next rest,
          )
      by false other passing least rest =
          let apart : lock_number shape lock ≡ lock_number shape step.lock → ⊥ = λ one.
          both_ways (is_same_lock step.lock lock) other (ap (λ (l : DomainId). is_same_lock l lock) (sym (one_number shape lock step.lock is fit.0.lock one)) ∙ same_lock lock) in
          subst (λ (n : ℕ). AreTaken test (entries_of histories lock) n (places_on lock steps)) (put_elsewhere from (lock_number shape step.lock) (suc step.index) (lock_number shape lock) apart) rest

  pub taken_named : (from : ℕ → ℕ) (steps : List StrandStep) → AllFit (StepFits shape) steps → ((lock : DomainId) → is_lock shape lock ≡ true → NamesAt from steps lock)
      → are_named shape histories test from steps ≡ true
  taken_named from [] fit taken = refl
  taken_named from (step ∷ steps) fit taken =
      let mine : AreTaken test (entries_of histories step.lock) (from (lock_number shape step.lock)) (step.index ∷ places_on step.lock steps) =
      subst (λ (b : Bool). AreTaken test (entries_of histories step.lock) (from (lock_number shape step.lock)) (cond b (step.index ∷ places_on step.lock steps) (places_on step.lock steps)))
      (same_lock step.lock) (taken step.lock fit.0.lock) in
      and_both _ (are_named shape histories test (put from (lock_number shape step.lock) (suc step.index)) steps)
      (and_both (passes test (slice_get (entries_of histories step.lock) step.index)) (leb (from (lock_number shape step.lock)) step.index) mine.1 (true_leb _ _ mine.0))
      (taken_named (put from (lock_number shape step.lock) (suc step.index)) steps fit.1 (λ lock is. by lock is (is_same_lock step.lock lock) refl (taken lock is) mine.2))
    where
      by : (lock : DomainId) → is_lock shape lock ≡ true → (b : Bool) → is_same_lock step.lock lock ≡ b
          → AreTaken test (entries_of histories lock) (from (lock_number shape lock)) (cond b (step.index ∷ places_on lock steps) (places_on lock steps))
          → AreTaken test (entries_of histories step.lock) (suc step.index) (places_on step.lock steps)
          → AreTaken test (entries_of histories lock) (put from (lock_number shape step.lock) (suc step.index) (lock_number shape lock)) (places_on lock steps)
      by lock is true same all mine =
          let one : step.lock ≡ lock = one_lock step.lock lock same in
          let next : suc step.index ≡ put from (lock_number shape step.lock) (suc step.index) (lock_number shape lock) =
          sym (ap (λ (l : DomainId). put from (lock_number shape l) (suc step.index) (lock_number shape lock)) one ∙ put_here from (lock_number shape lock) (suc step.index)) in
          subst (λ (n : ℕ). AreTaken test (entries_of histories lock) n (places_on lock steps)) next
          (subst (λ (l : DomainId). AreTaken test (entries_of histories l) (suc step.index) (places_on l steps)) one mine)
      by lock is false other all mine =
          let apart : lock_number shape lock ≡ lock_number shape step.lock → ⊥ = λ one.
          both_ways (is_same_lock step.lock lock) other (ap (λ (l : DomainId). is_same_lock l lock) (sym (one_number shape lock step.lock is fit.0.lock one)) ∙ same_lock lock) in
          subst (λ (n : ℕ). AreTaken test (entries_of histories lock) n (places_on lock steps)) (sym (put_elsewhere from (lock_number shape step.lock) (suc step.index) (lock_number shape lock) apart)) all

-- Against all places of entries that pass

pub record IsPart (xs ys : List ℕ) : Type 0 where
  pub most : length xs ≤ length ys
  pub whole : length xs ≡ length ys → xs ≡ ys

at_front : {A : Type 0} (front : List A) (x : A) (rest : List A) (place : ℕ) → place ≡ length front → slice_get (front ++ x ∷ rest) place ≡ Some x
at_front [] x rest place is = ap (slice_get (x ∷ rest)) is
at_front (y ∷ front) x rest zero is = absurd (omega (arith, is))
at_front (y ∷ front) x rest (suc place) is = at_front front x rest place (omega (arith, is))

past_end : {A : Type 0} (front : List A) (place : ℕ) → length front ≤ place → slice_get (front ++ []) place ≡ None
past_end [] place past = refl
past_end (y ∷ front) zero past = absurd (omega (arith, past))
past_end (y ∷ front) (suc place) past = past_end front place (omega (arith, past))

one_in_front : {A : Type 0} (front : List A) (x : A) (rest : List A) → front ++ x ∷ rest ≡ (front ++ x ∷ []) ++ rest
one_in_front [] x rest = refl
one_in_front (y ∷ front) x rest = ap (λ (l : List _). y ∷ l) (one_in_front front x rest)

length_front : {A : Type 0} (front : List A) (x : A) (place : ℕ) → place ≡ length front → suc place ≡ length (front ++ x ∷ [])
length_front front x place is = omega (arith, is, Rattle.std.proofs.lemmas.List.length-append front (x ∷ []))

module _ (cuts : List ℕ) (phase : ℕ) (cpus : List ℕ) where
  abbrev own : Entry → Bool
  own = is_own cuts phase cpus

  pub taken_part : (rest front : List Entry) (place : ℕ) (xs : List ℕ) → place ≡ length front → AreTaken own (front ++ rest) place xs → IsPart xs (places_in cuts phase cpus place rest)
  taken_part [] front place [] is taken = record { most = omega arith; whole = λ _. refl }
  taken_part [] front place (x ∷ xs) is taken =
      absurd (let none : false ≡ true = sym (ap (passes own) (past_end front x (omega (arith, is, taken.0)))) ∙ taken.1 in cc)
  taken_part (entry ∷ rest) front place [] is taken = record { most = omega arith; whole = λ same. nothing (places_in cuts phase cpus place (entry ∷ rest)) same }
    where
      nothing : (ys : List ℕ) → 0 ≡ length ys → [] ≡ ys
      nothing [] same = refl
      nothing (y ∷ ys) same = absurd (omega (arith, same))
  taken_part (entry ∷ rest) front place (x ∷ xs) is taken =
      let moved : AreTaken own ((front ++ entry ∷ []) ++ rest) place (x ∷ xs) = subst (λ (es : List Entry). AreTaken own es place (x ∷ xs)) (one_in_front front entry rest) taken in
      by (own entry) refl (cases_eq place x)
      (λ same. taken_part rest (front ++ entry ∷ []) (suc place) xs (length_front front entry place is) (subst (λ (n : ℕ). AreTaken own ((front ++ entry ∷ []) ++ rest) (suc n) xs) (sym same) moved.2))
      (λ other. taken_part rest (front ++ entry ∷ []) (suc place) (x ∷ xs) (length_front front entry place is) (omega (arith, other, taken.0), moved.1, moved.2))
    where
      by : (b : Bool) → own entry ≡ b → (place ≡ x) ⊎ (place ≡ x → ⊥) → (place ≡ x → IsPart xs (places_in cuts phase cpus (suc place) rest)) → ((place ≡ x → ⊥) → IsPart (x ∷ xs) (places_in cuts phase cpus (suc place) rest))
          → IsPart (x ∷ xs) (cond b (place ∷ places_in cuts phase cpus (suc place) rest) (places_in cuts phase cpus (suc place) rest))
      by b test (inl same) here later = with_here b test
        where
          passing : own entry ≡ true
          passing = sym (ap (passes own) (at_front front entry rest x (sym same ∙ is))) ∙ taken.1

          with_here : (b : Bool) → own entry ≡ b → IsPart (x ∷ xs) (cond b (place ∷ places_in cuts phase cpus (suc place) rest) (places_in cuts phase cpus (suc place) rest))
          with_here false not_so = absurd (both_ways (own entry) not_so passing)
          with_here true so =
              let part = here same in
              record {
                most = omega (arith, part.most);
                whole = λ counted. ap (λ (n : ℕ). n ∷ xs) (sym same) ∙ ap (λ (l : List ℕ). place ∷ l) (part.whole (omega (arith, counted)));
              }
      by true so (inr other) here later = let part = later other in record { most = omega (arith, part.most); whole = λ counted. absurd (omega (arith, counted, part.most)) }
      by false not_so (inr other) here later = later other

  pub all_taken : (rest front : List Entry) (place : ℕ) → place ≡ length front → AreTaken own (front ++ rest) place (places_in cuts phase cpus place rest)
  all_taken [] front place is = tt
  all_taken (entry ∷ rest) front place is =
      by (own entry) refl (subst (λ (es : List Entry). AreTaken own es (suc place) (places_in cuts phase cpus (suc place) rest)) (sym (one_in_front front entry rest)) (all_taken rest (front ++ entry ∷ []) (suc place) (length_front front entry place is)))
    where
      lower : (es : List Entry) (from to : ℕ) (xs : List ℕ) → from ≤ to → AreTaken own es to xs → AreTaken own es from xs
      lower es from to [] less are = tt
      lower es from to (x ∷ xs) less are = (omega (arith, less, are.0), are.1, are.2)

      by : (b : Bool) → own entry ≡ b → AreTaken own (front ++ entry ∷ rest) (suc place) (places_in cuts phase cpus (suc place) rest)
          → AreTaken own (front ++ entry ∷ rest) place (cond b (place ∷ places_in cuts phase cpus (suc place) rest) (places_in cuts phase cpus (suc place) rest))
      by true so later = (omega arith, ap (passes own) (at_front front entry rest place is) ∙ so, later)
      by false not_so later = lower (front ++ entry ∷ rest) place (suc place) (places_in cuts phase cpus (suc place) rest) (omega arith) later
