-- How much a shrink, a rotation and a round of probes do at most.
use Rattle.std.proofs.Common.{◌≡◌, ℕ, zero, suc, ◌+◌, ◌<◌, ◌≤◌, Bool, true, false, cond, ◌||◌, eqb, List, [], ◌∷◌, ◌++◌, length, take, reverse, map, get_or, refl, ap, ◌∙◌, sym, subst, arith, inl, inr, ⊎_elim}
use Rattle.std.specs.Prelude.{Option, None, Some, count_by, filter, slice_get, option_map, unwrap_or, MatchBool}
use Rattle.std.specs.List.{flat_map}
use Rattle.std.proofs.lemmas.Bool.{eq-eqb, eqb-true, cases_Bool, cases_lt, both_ways}
use Rattle.std.proofs.lemmas.List.{length-map, length-take, length-take-le, length-append, take_all, take_more, reverse-append}
use Rattle.std.proofs.lemmas.List.Sums.{count_by_more_no, count_by_more_yes, length-filter, sum_by-append, sum_by-cons}
use Rattle.place_words.specs.declared.bucket_part.Seen.{Seen}
use Rattle.place_words.specs.declared.bucket_part.Seen.TheVariants.{Removed, Held}
use Rattle.map_types.specs.declared.row.Row.{Row}
use Rattle.place_words.specs.declared.visits.Look.{Look}
use Rattle.place_words.specs.declared.visits.Try.{Try}
use Rattle.place_words.specs.declared.visits.Visit.{Visit}
use Rattle.map_types.specs.Listed.{Listed, elements_of}
use Rattle.place_words.specs.Rotation.{AreRotationVisits, active_visited, inactive_visited, inactive_order, active_rotated, visited_elements}
use Rattle.place_words.specs.Shrinking.{AreLooks, AreTries, IsShrink, IsFirstEnd, look_removed, try_removed, ends_removed, after_looks, freed}
use Rattle.place_words.specs.Takings.{look_probes, walk_probes}

-- Looks

or_left : (a b : Bool) → a ≡ true → (a || b) ≡ true
or_left true b same = refl
or_left false b same = absurd (both_ways false refl same)

or_right : (a b : Bool) → b ≡ true → (a || b) ≡ true
or_right true b same = refl
or_right false b same = same

-- as many looks as the scan limit at most
pub few_looks : (scans target : ℕ) (set : Listed) (looks : List Look) → AreLooks scans target set looks → length looks ≤ scans
few_looks scans target set looks are =
    ⊎_elim
    (λ past.
    let long = length-take-le scans looks (omega arith) in
    let ends = or_left (eqb (length (take scans looks)) scans) (eqb (count_by look_removed (take scans looks)) target || eqb (length (take scans looks)) (length set.inactive)) (eq-eqb (length (take scans looks)) scans long) in
    absurd (both_ways (eqb (length (take scans looks)) scans || (eqb (count_by look_removed (take scans looks)) target || eqb (length (take scans looks)) (length set.inactive))) (are.until.not_before scans past) ends))
    (λ within. within)
    (cases_lt scans (length looks))

-- and as many removed ones as the target
module _ (scans target : ℕ) (set : Listed) (looks : List Look) (are : AreLooks scans target set looks) where
  not_yet : (k : ℕ) → k < length looks → count_by look_removed (take k looks) ≡ target → ⊥
  not_yet k below same =
      let walk : List Look = take k looks in
      let ends = or_right (eqb (length walk) scans) (eqb (count_by look_removed walk) target || eqb (length walk) (length set.inactive))
      (or_left (eqb (count_by look_removed walk) target) (eqb (length walk) (length set.inactive)) (eq-eqb (count_by look_removed walk) target same)) in
      both_ways (eqb (length walk) scans || (eqb (count_by look_removed walk) target || eqb (length walk) (length set.inactive))) (are.until.not_before k below) ends

  up_to : (k : ℕ) → k ≤ length looks → count_by look_removed (take k looks) ≤ target
  up_to zero within = omega arith
  up_to (suc k) within =
      let d : Look = record { element = 0; bit = true; probed = None } in
      let before = up_to k (omega (arith, within)) in
      let here : k < length looks = omega (arith, within) in
      let next : k + 1 ≡ suc k = omega arith in
      elim (cases_Bool (look_removed (get_or looks k d))) [
        | inl removed ↦
            let counted = count_by_more_yes look_removed looks k d here removed in
            let other : count_by look_removed (take k looks) ≡ target → ⊥ = not_yet k here in
            subst (λ n. count_by look_removed (take n looks) ≤ target) next (less counted before other)
        | inr held ↦
            subst (λ n. count_by look_removed (take n looks) ≤ target) next (omega (arith, count_by_more_no look_removed looks k d here held, before))
      ]
    where
      less : {a b t : ℕ} → a ≡ b + 1 → b ≤ t → (b ≡ t → ⊥) → a ≤ t
      less {a} {b} {t} is most other = ⊎_elim (λ below. omega (arith, is, below)) (λ past. absurd (other (omega (arith, most, past)))) (cases_lt b t)

  pub few_removed : count_by look_removed looks ≤ target
  few_removed = subst (λ (walk : List Look). count_by look_removed walk ≤ target) (take_all (length looks) looks (omega arith)) (up_to (length looks) (omega arith))

-- Tries

last_ends : (walk : List Try) (try : Try) → ends_removed (walk ++ try ∷ []) ≡ try_removed try
last_ends walk try = ap (λ (turned : List Try). unwrap_or (option_map try_removed (slice_get turned 0)) false) (reverse-append walk (try ∷ []))

-- a walk that ends with the first that is removed removes one at most
module _ (ends_too : List Try → Bool) (tries : List Try) (are : IsFirstEnd (λ walk. ends_removed walk || ends_too walk) tries) where
  none_before : (k : ℕ) → k < length tries → count_by try_removed (take k tries) ≡ 0
  none_before zero below = refl
  none_before (suc k) below =
      let d : Try = record { element = 0; probed = Removed } in
      let here : k < length tries = omega (arith, below) in
      let next : k + 1 ≡ suc k = omega arith in
      let before = none_before k here in
      elim (cases_Bool (try_removed (get_or tries k d))) [
        | inl removed ↦
            let walk : List Try = take (suc k) tries in
            let is : walk ≡ take k tries ++ get_or tries k d ∷ [] = ap (λ n. take n tries) (sym next) ∙ take_more tries k d here in
            let ends : ends_removed walk ≡ true = ap ends_removed is ∙ last_ends (take k tries) (get_or tries k d) ∙ removed in
            absurd (both_ways (ends_removed walk || ends_too walk) (are.not_before (suc k) below) (or_left (ends_removed walk) (ends_too walk) ends))
        | inr held ↦
            ap (λ n. count_by try_removed (take n tries)) (sym next) ∙ count_by_more_no try_removed tries k d here held ∙ before
      ]

  one_more_at_most : (k : ℕ) → k < length tries → count_by try_removed (take (k + 1) tries) ≤ count_by try_removed (take k tries) + 1
  one_more_at_most k below =
      let d : Try = record { element = 0; probed = Removed } in
      elim (cases_Bool (try_removed (get_or tries k d))) [
        | inl removed ↦ omega (arith, count_by_more_yes try_removed tries k d below removed)
        | inr held ↦ omega (arith, count_by_more_no try_removed tries k d below held)
      ]

  at_end : (n : ℕ) → n ≡ length tries → count_by try_removed (take n tries) ≤ 1
  at_end zero same = omega arith
  at_end (suc k) same =
      let below : k < length tries = omega (arith, same) in
      let next : k + 1 ≡ suc k = omega arith in
      subst (λ n. count_by try_removed (take n tries) ≤ 1) next (omega (arith, one_more_at_most k below, none_before k below))

  pub one_removed : count_by try_removed tries ≤ 1
  one_removed = subst (λ (walk : List Try). count_by try_removed walk ≤ 1) (take_all (length tries) tries (omega arith)) (at_end (length tries) refl)

-- Shrinks: at most the target, or one by force
pub shrink_removes : (scans target : ℕ) (set : Listed) (looks : List Look) (forced : List Try) → 1 ≤ target → IsShrink scans target set looks forced
    → count_by look_removed looks + count_by try_removed forced ≤ target
shrink_removes scans target set looks forced some is = by_force (eqb (count_by look_removed looks) 0) refl is.tried
  where
    by_force : (none : Bool) → eqb (count_by look_removed looks) 0 ≡ none → MatchBool none (AreTries (after_looks set looks) forced) (forced ≡ []) → count_by look_removed looks + count_by try_removed forced ≤ target
    by_force true none tried = omega (arith, eqb-true (count_by look_removed looks) 0 none, one_removed _ forced tried.until, some)
    by_force false none tried =
        let empty : count_by try_removed forced ≡ 0 = ap (count_by try_removed) tried in
        omega (arith, few_removed scans target set looks is.looked, empty)

pub forces_one : (scans target : ℕ) (set : Listed) (looks : List Look) (forced : List Try) → IsShrink scans target set looks forced → count_by try_removed forced ≤ 1
forces_one scans target set looks forced is = by_force (eqb (count_by look_removed looks) 0) is.tried
  where
    by_force : (none : Bool) → MatchBool none (AreTries (after_looks set looks) forced) (forced ≡ []) → count_by try_removed forced ≤ 1
    by_force true tried = one_removed _ forced tried.until
    by_force false tried = let empty : count_by try_removed forced ≡ 0 = ap (count_by try_removed) tried in omega (arith, empty)

-- Rotations: as many visits as the scan limit in each part
few_where : (test : Bool) (scans : ℕ) (rows : List Row) → length (cond test (take scans rows) []) ≤ scans
few_where true scans rows = omega (arith, length-take scans rows)
few_where false scans rows = omega arith

few_active : (scans : ℕ) (set : Listed) → length (active_visited scans set) ≤ scans
unfolding active_visited
few_active scans set = few_where _ scans (reverse set.active)

pub few_inactive : (scans : ℕ) (set : Listed) → length (inactive_visited scans set) ≤ scans
unfolding inactive_visited
few_inactive scans set = omega (arith, length-take scans (inactive_order set.cursor set.inactive))

as_many : (visits : List Visit) (rows : List Row) → visited_elements visits ≡ elements_of rows → length visits ≡ length rows
as_many visits rows same =
    sym (length-map visits (λ (visit : Visit). visit.element)) ∙ ap (length {A = ℕ}) same ∙ length-map rows (λ (row : Row). row.element)

pub few_visits : (scans : ℕ) (set : Listed) (active inactive : List Visit) → AreRotationVisits scans set active inactive
    → (length active ≤ scans) × (length inactive ≤ scans)
few_visits scans set active inactive visits = (
  omega (arith, as_many active _ visits.of_active, few_active scans set),
  omega (arith, as_many inactive _ visits.of_inactive, few_inactive scans (active_rotated scans set active)),
)

-- Probes: those of walks remove what the looks and the tries removed
look_probed : (element : ℕ) (bit : Bool) (probed : Option Seen) → let look : Look = record { element = element; bit = bit; probed = probed } in
    count_by try_removed (look_probes look) ≡ cond (look_removed look) 1 0
look_probed element bit None = refl
look_probed element bit (Some Removed) = refl
look_probed element bit (Some (Held cpu)) = refl

pub count_append : {X : Type 0} (p : X → Bool) (xs ys : List X) → count_by p (xs ++ ys) ≡ count_by p xs + count_by p ys
count_append p xs ys = sum_by-append (λ x. cond (p x) 1 0) xs ys

flat_removes : (looks : List Look) → count_by try_removed (flat_map look_probes looks) ≡ count_by look_removed looks
flat_removes [] = refl
flat_removes (look ∷ looks) =
    let parts = count_append try_removed (look_probes look) (flat_map look_probes looks) in
    let here = look_probed look.element look.bit look.probed in
    let whole = sum_by-cons (λ (x : Look). cond (look_removed x) 1 0) look looks in
    omega (arith, parts, here, whole, flat_removes looks)

pub walks_remove : (looks : List Look) (tries : List Try) → count_by try_removed (walk_probes looks tries) ≡ count_by look_removed looks + count_by try_removed tries
walks_remove looks tries = omega (arith, count_append try_removed (flat_map look_probes looks) tries, flat_removes looks)

pub freed_count : (looks : List Look) (tries : List Try) → length (freed looks tries) ≡ count_by look_removed looks + count_by try_removed tries
freed_count looks tries =
    let whole = length-append (map (λ (look : Look). look.element) (filter look_removed looks)) (map (λ (try : Try). try.element) (filter try_removed tries)) in
    let first = length-map (filter look_removed looks) (λ (look : Look). look.element) in
    let second = length-map (filter try_removed tries) (λ (try : Try). try.element) in
    omega (arith, whole, first, second, length-filter look_removed looks, length-filter try_removed tries)
