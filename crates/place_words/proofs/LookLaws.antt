-- The shrink that is computed in serial order is one that the rules allow, whatever the bits and the lists are.
use Rattle.std.proofs.Common.{◌≡◌, ℕ, zero, suc, ◌<◌, ◌+◌, ◌==◌, ◌||◌, Bool, true, false, List, [], ◌∷◌, length, take, reverse, map, refl, ap, ◌∙◌, subst, arith}
use Rattle.std.specs.Prelude.{None, Some, MatchBool, count_by, if◌then◌else◌}
use Rattle.std.proofs.lemmas.List.{length-reverse}
use Rattle.std.proofs.lemmas.List.Sums.{sum_by-cons}
use Rattle.map_types.specs.declared.row.Row.{Row}
use Rattle.map_types.specs.Listed.{Listed, elements_of}
use Rattle.place_words.specs.declared.bucket_part.Seen.TheVariants.{Removed}
use Rattle.place_words.specs.declared.visits.Look.{Look}
use Rattle.place_words.specs.declared.visits.Try.{Try}
use Rattle.place_words.specs.Choices.{looks_over, forced_over, shrink_of}
use Rattle.place_words.specs.Shrinking.{IsFirstEnd, AreLooks, AreTries, IsShrink, look_removed, ends_removed, forced_rows, after_looks}
use Rattle.place_words.proofs.Worked.{AreProbed, probed0, probed_more}

-- a look at a row whose bit is set, and one that removes
abbrev pub spared : Row → Look
spared row = record { element = row.element; bit = true; probed = None }

abbrev pub removed : Row → Look
removed row = record { element = row.element; bit = false; probed = Some Removed }

abbrev pub ElementsFrom : List Look → List Row → Type 0
ElementsFrom looks rows = map (λ (look : Look). look.element) looks ≡ elements_of (take (length looks) rows)

pub elements_step : (bit : Bool) (row : Row) (rows : List Row) (if_set if_not : List Look) → ElementsFrom if_set rows → ElementsFrom if_not rows → ElementsFrom (if bit then spared row ∷ if_set else removed row ∷ if_not) (row ∷ rows)
elements_step true row rows if_set if_not a b = ap (λ es. row.element ∷ es) a
elements_step false row rows if_set if_not a b = ap (λ es. row.element ∷ es) b

pub elements_from : (bits : ℕ → Bool) (scans target : ℕ) (rows : List Row) → ElementsFrom (looks_over bits scans target rows) rows
elements_from bits scans target [] = refl
elements_from bits zero target (row ∷ rows) = refl
elements_from bits (suc scans) zero (row ∷ rows) = refl
elements_from bits (suc scans) (suc target) (row ∷ rows) =
    elements_step (bits row.element) row rows (looks_over bits scans (suc target) rows) (looks_over bits scans target rows)
    (elements_from bits scans (suc target) rows) (elements_from bits scans target rows)

pub probed_step : (bit : Bool) (row : Row) (if_set if_not : List Look) → AreProbed if_set → AreProbed if_not → AreProbed (if bit then spared row ∷ if_set else removed row ∷ if_not)
probed_step true row if_set if_not a b = probed_more (spared row) if_set refl a
probed_step false row if_set if_not a b = probed_more (removed row) if_not refl b

pub probed_by : (bits : ℕ → Bool) (scans target : ℕ) (rows : List Row) → AreProbed (looks_over bits scans target rows)
probed_by bits scans target [] = probed0
probed_by bits zero target (row ∷ rows) = probed0
probed_by bits (suc scans) zero (row ∷ rows) = probed0
probed_by bits (suc scans) (suc target) (row ∷ rows) =
    probed_step (bits row.element) row (looks_over bits scans (suc target) rows) (looks_over bits scans target rows)
    (probed_by bits scans (suc target) rows) (probed_by bits scans target rows)

abbrev pub ends_at : ℕ → ℕ → ℕ → List Look → Bool
ends_at scans target rows walk = length walk == scans || (count_by look_removed walk == target || length walk == rows)

suc_eq : (a b : ℕ) → (suc a == suc b) ≡ (a == b)
suc_eq a b = grind (arith)

zero_eq : (b : ℕ) → (0 == suc b) ≡ false
zero_eq b = grind (arith)

or_same : (a b c x y z : Bool) → a ≡ x → b ≡ y → c ≡ z → (a || (b || c)) ≡ (x || (y || z))
or_same a b c x y z p q r = grind (arith, p, q, r)

pub shift_set : (row : Row) (scans target rows : ℕ) (walk : List Look) → ends_at (suc scans) (suc target) (suc rows) (spared row ∷ walk) ≡ ends_at scans (suc target) rows walk
shift_set row scans target rows walk = or_same _ _ _ _ _ _ (suc_eq (length walk) scans) refl (suc_eq (length walk) rows)

pub count_suc : (row : Row) (walk : List Look) → count_by look_removed (removed row ∷ walk) ≡ suc (count_by look_removed walk)
count_suc row walk =
    let counted : count_by look_removed (removed row ∷ walk) ≡ 1 + count_by look_removed walk = sum_by-cons _ (removed row) walk in
    omega (arith, counted)

pub shift_not : (row : Row) (scans target rows : ℕ) (walk : List Look) → ends_at (suc scans) (suc target) (suc rows) (removed row ∷ walk) ≡ ends_at scans target rows walk
shift_not row scans target rows walk = or_same _ _ _ _ _ _ (suc_eq (length walk) scans) (ap (λ n. n == suc target) (count_suc row walk) ∙ suc_eq (count_by look_removed walk) target) (suc_eq (length walk) rows)

pub none_ends : (scans target rows : ℕ) → ends_at (suc scans) (suc target) (suc rows) [] ≡ false
none_ends scans target rows = or_same _ _ _ _ _ _ (zero_eq scans) (zero_eq target) (zero_eq rows)

ends_set : (row : Row) (scans target rows : ℕ) (walk : List Look) → IsFirstEnd (ends_at scans (suc target) rows) walk → (k : ℕ) → k < suc (length walk)
    → ends_at (suc scans) (suc target) (suc rows) (take k (spared row ∷ walk)) ≡ false
ends_set row scans target rows walk a zero below = none_ends scans target rows
ends_set row scans target rows walk a (suc k) below =
    shift_set row scans target rows (take k walk) ∙ a.not_before k (omega (arith, below))

ends_not : (row : Row) (scans target rows : ℕ) (walk : List Look) → IsFirstEnd (ends_at scans target rows) walk → (k : ℕ) → k < suc (length walk)
    → ends_at (suc scans) (suc target) (suc rows) (take k (removed row ∷ walk)) ≡ false
ends_not row scans target rows walk a zero below = none_ends scans target rows
ends_not row scans target rows walk a (suc k) below =
    shift_not row scans target rows (take k walk) ∙ a.not_before k (omega (arith, below))

ends_step : (bit : Bool) (row : Row) (scans target rows : ℕ) (if_set if_not : List Look)
    → IsFirstEnd (ends_at scans (suc target) rows) if_set → IsFirstEnd (ends_at scans target rows) if_not
    → IsFirstEnd (ends_at (suc scans) (suc target) (suc rows)) (if bit then spared row ∷ if_set else removed row ∷ if_not)
ends_step true row scans target rows if_set if_not a b = record { here = shift_set row scans target rows if_set ∙ a.here; not_before = ends_set row scans target rows if_set a }
ends_step false row scans target rows if_set if_not a b = record { here = shift_not row scans target rows if_not ∙ b.here; not_before = ends_not row scans target rows if_not b }

or_true : (a b : Bool) → (a || (b || true)) ≡ true
or_true true b = refl
or_true false true = refl
or_true false false = refl

pub or_mid : (a b : Bool) → (a || (true || b)) ≡ true
or_mid true b = refl
or_mid false b = refl

pub ends_by : (bits : ℕ → Bool) (scans target : ℕ) (rows : List Row) → IsFirstEnd (ends_at scans target (length rows)) (looks_over bits scans target rows)
ends_by bits scans target [] = record { here = or_true (0 == scans) (0 == target); not_before = λ k below. absurd (omega (arith, below)) }
ends_by bits zero target (row ∷ rows) = record { here = refl; not_before = λ k below. absurd (omega (arith, below)) }
ends_by bits (suc scans) zero (row ∷ rows) = record { here = or_mid (0 == suc scans) (0 == suc (length rows)); not_before = λ k below. absurd (omega (arith, below)) }
ends_by bits (suc scans) (suc target) (row ∷ rows) =
    ends_step (bits row.element) row scans target (length rows) (looks_over bits scans (suc target) rows) (looks_over bits scans target rows)
    (ends_by bits scans (suc target) rows) (ends_by bits scans target rows)

looks_allowed : (scans target : ℕ) (bits : ℕ → Bool) (lists : Listed) → AreLooks scans target lists (looks_over bits scans target (reverse lists.inactive))
looks_allowed scans target bits lists = record {
  from_tail = elements_from bits scans target (reverse lists.inactive);
  probed = probed_by bits scans target (reverse lists.inactive);
  until = subst (λ n. IsFirstEnd (ends_at scans target n) (looks_over bits scans target (reverse lists.inactive)))
      (length-reverse lists.inactive) (ends_by bits scans target (reverse lists.inactive));
}

abbrev pub tries_end : ℕ → List Try → Bool
tries_end n walk = ends_removed walk || length walk == n

not_empty : (row : Row) (rest : List Row) (n : ℕ) → length (row ∷ rest) ≡ n → (k : ℕ) → k < 1 → tries_end n (take k (forced_over (row ∷ rest))) ≡ false
not_empty row rest n same zero below = grind (arith, same)
not_empty row rest n same (suc k) below = absurd (omega (arith, below))

pub tries_until : (tail : List Row) (n : ℕ) → length tail ≡ n → IsFirstEnd (tries_end n) (forced_over tail)
tries_until [] n same = record { here = grind (arith, same); not_before = λ k below. absurd (omega (arith, below)) }
tries_until (row ∷ rest) n same = record { here = refl; not_before = not_empty row rest n same }

pub tries_name : (tail : List Row) → map (λ (try : Try). try.element) (forced_over tail) ≡ elements_of (take (length (forced_over tail)) tail)
tries_name [] = refl
tries_name (row ∷ rest) = refl

tries_allowed : (lists : Listed) → AreTries lists (forced_over (reverse (forced_rows lists)))
tries_allowed lists = record {
  from_tail = tries_name (reverse (forced_rows lists));
  until = tries_until (reverse (forced_rows lists)) (length (forced_rows lists)) (length-reverse (forced_rows lists));
}

tried_where : (none : Bool) (lists : Listed) → MatchBool none
    (AreTries lists (if none then forced_over (reverse (forced_rows lists)) else []))
    ((if none then forced_over (reverse (forced_rows lists)) else []) ≡ [])
tried_where true lists = tries_allowed lists
tried_where false lists = refl

pub shrink_allowed : (scans target : ℕ) (bits : ℕ → Bool) (lists : Listed)
    → IsShrink scans target lists (shrink_of scans target bits lists).looks (shrink_of scans target bits lists).forced
unfolding shrink_of
shrink_allowed scans target bits lists = record {
  looked = looks_allowed scans target bits lists;
  tried = tried_where (count_by look_removed (looks_over bits scans target (reverse lists.inactive)) == 0)
      (after_looks lists (looks_over bits scans target (reverse lists.inactive)));
}
