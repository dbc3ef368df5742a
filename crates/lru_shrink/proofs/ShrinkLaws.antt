-- Laws of every shrink: how far it goes, and that it spares elements whose bit was set.
use Rattle.std.proofs.Common.{◌≡◌, ℕ, suc, ◌<◌, ◌≤◌, Bool, true, false, not, cond, ◌||◌, eqb, List, [], ◌∷◌, map, reverse, length, take, drop, refl, ap, ◌∙◌, sym, subst, arith, inl, inr, ⊎_elim}
use Rattle.std.specs.Prelude.{Option, None, Some, All, filter, count_by, is_some, MatchBool}
use Rattle.std.proofs.lemmas.Bool.{eq-eqb, eqb-true, cases_Bool, or_cases, cases_lt, both_ways}
use Rattle.std.proofs.lemmas.List.{length-map, length-take, length-take-le, length-drop, length-reverse, take-append-drop}
use Rattle.std.proofs.lemmas.List.Elements.{All-head, All-tail}
use Rattle.std.proofs.lemmas.List.Sums.{length-filter}
use Rattle.map_types.specs.ElementLists.{times, IsIn}
use Rattle.place_words.specs.declared.bucket_part.Seen.{Seen}
use Rattle.map_types.specs.declared.row.Row.{Row}
use Rattle.place_words.specs.declared.visits.Look.{Look}
use Rattle.place_words.specs.declared.visits.Try.{Try}
use Rattle.map_types.specs.Listed.{Listed, elements_of}
use Rattle.place_words.specs.Shrinking.{AreLooks, AreTries, IsShrink, look_removed, after_looks, forced_rows}
use Rattle.map_types.proofs.RowLemmas.{by_test, times_append, times_rows-append}
use Rattle.lru_shrink.specs.Shrunk.{SparesUsed, removed_by_looks, removed_by_tries}
use Rattle.lru_shrink.proofs.LookWalk.{looked_at, look_element, or_true}

-- as many looks as the scan limit at most
pub few_looks : (scans target : ℕ) (set : Listed) (looks : List Look) → AreLooks scans target set looks → length looks ≤ scans
few_looks scans target set looks are =
    ⊎_elim
    (λ past.
    let long = length-take-le scans looks (omega arith) in
    let goes_on = are.until.not_before scans past in
    let ends = or_true (eqb (length (take scans looks)) scans) (eqb (count_by look_removed (take scans looks)) target || eqb (length (take scans looks)) (length set.inactive)) (eq-eqb (length (take scans looks)) scans long) in
    absurd (both_ways (eqb (length (take scans looks)) scans || (eqb (count_by look_removed (take scans looks)) target || eqb (length (take scans looks)) (length set.inactive))) goes_on ends))
    (λ within. within)
    (cases_lt scans (length looks))

-- as many tries as the list that is walked has rows at most
pub few_tries : (set : Listed) (tries : List Try) → AreTries set tries → length tries ≤ length (forced_rows set)
few_tries set tries are =
    let same = ap (length {A = ℕ}) are.from_tail in
    let tried = length-map tries (λ (try : Try). try.element) in
    let walked = length-map (take (length tries) (reverse (forced_rows set))) (λ (row : Row). row.element) in
    let most = length-take (length tries) (reverse (forced_rows set)) in
    let turned = length-reverse (forced_rows set) in
    omega arith

none_counted : (look : Look) (looks : List Look) → count_by look_removed (look ∷ looks) ≡ 0 → (look_removed look ≡ false) × (count_by look_removed looks ≡ 0)
none_counted look looks none =
    let whole = length-filter look_removed (look ∷ looks) in
    let rest = length-filter look_removed looks in
    elim (cases_Bool (look_removed look)) [
      | inl removed ↦
          let longer : length (filter look_removed (look ∷ looks)) ≡ suc (length (filter look_removed looks)) = rw removed refl in
          absurd (omega arith)
      | inr held ↦
          let same : length (filter look_removed (look ∷ looks)) ≡ length (filter look_removed looks) = rw held refl in
          (held, omega arith)
    ]

module _ (bits removable : ℕ → Bool) where
  abbrev Tell : Look → Type 0
  Tell look = (look.bit ≡ bits look.element) × (look.bit ≡ false → look_removed look ≡ removable look.element)

  -- an element that a look removed has no set bit
  unset_removed : (looks : List Look) (e : ℕ) → All (λ look. is_some look.probed ≡ not look.bit) looks → All Tell looks → IsIn e (removed_by_looks looks) → bits e ≡ true → ⊥
  unset_removed [] e probed tell is_in is_set = absurd (omega arith)
  unset_removed (look ∷ looks) e probed tell is_in is_set =
      let rest = unset_removed looks e (All-tail (λ (l : Look). is_some l.probed ≡ not l.bit) look looks probed) (All-tail Tell look looks tell) in
      let told = All-head Tell look looks tell in
      let asked = All-head (λ (l : Look). is_some l.probed ≡ not l.bit) look looks probed in
      elim (cases_Bool (look_removed look)) [
        | inl removed ↦
            let here : IsIn e (look.element ∷ removed_by_looks looks) = subst (λ (xs : List Look). IsIn e (map look_element xs)) (let one : filter look_removed (look ∷ looks) ≡ look ∷ filter look_removed looks = rw removed refl in one) is_in in
            by_test look.element e (λ b. 0 < cond b (suc (times e (removed_by_looks looks))) (times e (removed_by_looks looks)) → ⊥)
            (λ is _. let bit : look.bit ≡ true = told.0 ∙ ap bits is ∙ is_set in unprobed look.probed (asked ∙ ap not bit) removed)
            (λ other there. rest there is_set) here
        | inr held ↦
            rest (subst (λ (xs : List Look). IsIn e (map look_element xs)) (let one : filter look_removed (look ∷ looks) ≡ filter look_removed looks = rw held refl in one) is_in) is_set
      ]
    where
      unprobed : (seen : Option Seen) → is_some seen ≡ false → look_removed (record { element = 0; bit = true; probed = seen }) ≡ true → ⊥
      unprobed None none removed = absurd cc
      unprobed (Some seen) none removed = absurd cc

  -- Where no look removed any, each that they came by with no set bit can't be removed.
  unset_held : (looks : List Look) (e : ℕ) → All Tell looks → count_by look_removed looks ≡ 0 → IsIn e (looked_at looks) → bits e ≡ false → removable e ≡ false
  unset_held [] e tell none is_in unset = absurd (omega arith)
  unset_held (look ∷ looks) e tell none is_in unset =
      let parts = none_counted look looks none in
      let told = All-head Tell look looks tell in
      by_test look.element e (λ b. 0 < cond b (suc (times e (looked_at looks))) (times e (looked_at looks)) → removable e ≡ false)
      (λ is _. sym (ap removable is) ∙ sym (told.1 (told.0 ∙ ap bits is ∙ unset)) ∙ parts.0)
      (λ other there. unset_held looks e (All-tail Tell look looks tell) parts.1 there unset) is_in

-- Where no look removed any, they came by all within the scan limit.
all_within : (scans target : ℕ) (set : Listed) (looks : List Look) (e : ℕ) → 1 ≤ target → AreLooks scans target set looks → count_by look_removed looks ≡ 0 → IsIn e (elements_of (take scans (reverse set.inactive))) → IsIn e (looked_at looks)
all_within scans target set looks e some are none is_in =
    elim (or_cases (eqb (length looks) scans) (eqb (count_by look_removed looks) target || eqb (length looks) (length set.inactive)) are.until.here) [
      | inl scanned ↦
          let same : length looks ≡ scans = eqb-true (length looks) scans scanned in
          let all : looked_at looks ≡ elements_of (take scans (reverse set.inactive)) = are.from_tail ∙ ap (λ (n : ℕ). elements_of (take n (reverse set.inactive))) same in
          subst (λ (xs : List ℕ). IsIn e xs) (sym all) is_in
      | inr other ↦ elim (or_cases (eqb (count_by look_removed looks) target) (eqb (length looks) (length set.inactive)) other) [
        | inl reached ↦ absurd (let is = eqb-true (count_by look_removed looks) target reached in omega arith)
        | inr whole ↦
            let same : length looks ≡ length set.inactive = eqb-true (length looks) (length set.inactive) whole in
            let turned = length-reverse set.inactive in
            let all = ap (times e) are.from_tail in
            let parts = times_rows-append e (take (length looks) (reverse set.inactive)) (drop (length looks) (reverse set.inactive)) in
            let joined = ap (λ (xs : List Row). times e (elements_of xs)) (take-append-drop (length looks) (reverse set.inactive)) in
            let behind = times_none (drop (length looks) (reverse set.inactive)) (let left = length-drop (length looks) (reverse set.inactive) in omega arith) in
            let parts_too = times_rows-append e (take scans (reverse set.inactive)) (drop scans (reverse set.inactive)) in
            let joined_too = ap (λ (xs : List Row). times e (elements_of xs)) (take-append-drop scans (reverse set.inactive)) in
            omega arith
      ]
    ]
  where
    times_none : (rows : List Row) → length rows ≡ 0 → times e (elements_of rows) ≡ 0
    times_none [] empty = refl
    times_none (row ∷ rows) empty = absurd (omega arith)

forced_since : (b : Bool) (P Q : Type 0) → MatchBool b P Q → (Q → ⊥) → b ≡ true
forced_since true P Q is not_q = refl
forced_since false P Q is not_q = absurd (not_q is)

pub spares_used : (scans target : ℕ) (set : Listed) (looks : List Look) (forced : List Try) → 1 ≤ target → IsShrink scans target set looks forced → SparesUsed scans set looks forced
spares_used scans target set looks forced some is bits removable tell evicted other is_freed is_set within unset =
    let apart = times_append evicted (removed_by_looks looks) (removed_by_tries forced) in
    let not_looked = unset_removed bits removable looks evicted is.looked.probed tell in
    let tried : IsIn evicted (removed_by_tries forced) = ⊎_elim (λ (in_looks : 0 < times evicted (removed_by_looks looks)). absurd (not_looked in_looks is_set)) (λ (none : times evicted (removed_by_looks looks) ≤ 0). omega arith) (cases_lt 0 (times evicted (removed_by_looks looks))) in
    let none : eqb (count_by look_removed looks) 0 ≡ true = forced_since (eqb (count_by look_removed looks) 0) (AreTries (after_looks set looks) forced) (forced ≡ []) is.tried (λ empty. absurd (let no = ap (λ (xs : List Try). times evicted (removed_by_tries xs)) empty in omega arith)) in
    let zero = eqb-true (count_by look_removed looks) 0 none in
    unset_held bits removable looks other tell zero (all_within scans target set looks other some is.looked zero within) unset
