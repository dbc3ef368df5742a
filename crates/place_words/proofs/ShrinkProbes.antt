-- What a shrink that is computed in serial order frees: exactly what it probes, each from a row that is listed, and something
-- wherever anything is listed.
use Rattle.std.proofs.Common.{◌≡◌, ℕ, zero, suc, ◌≤◌, Bool, true, false, cond, eqb, List, [], ◌∷◌, ◌++◌, length, take, reverse, map, refl, ap, ◌∙◌, sym, arith, ⊎_elim}
use Rattle.std.specs.Prelude.{Some, filter, find, count_by, option_map, if◌then◌else◌}
use Rattle.std.specs.List.{flat_map}
use Rattle.std.proofs.lemmas.Bool.{cases_lt, both_ways, eqb-true, eq-eqb}
use Rattle.std.proofs.lemmas.List.{map-append, nil_from_length, length-reverse, length-map}
use Rattle.std.proofs.lemmas.List.Sums.{length-filter}
use Rattle.map_types.specs.declared.row.Row.{Row}
use Rattle.map_types.specs.ElementLists.{times}
use Rattle.map_types.specs.Listed.{Listed, elements_of, those, without_those}
use Rattle.place_words.specs.declared.bucket_part.Seen.TheVariants.{Removed}
use Rattle.place_words.specs.declared.visits.Look.{Look}
use Rattle.place_words.specs.declared.visits.Try.{Try}
use Rattle.place_words.specs.Choices.{looks_over, forced_over, forced_after, shrink_of}
use Rattle.place_words.specs.Shrinking.{look_removed, try_removed, found_set, taken_off, after_looks, forced_rows, freed}
use Rattle.place_words.specs.Takings.{look_probes, walk_probes, shrink_probes, stored_hash}
use Rattle.map_types.proofs.RowLemmas.{by_test, times_append, times_rows-append, times_rows-reverse}
use Rattle.place_words.specs.RowMoves.{rows_of}
use Rattle.place_words.proofs.BucketLaws.{times_more}
use Rattle.place_words.proofs.CostLemmas.{freed_count}
use Rattle.place_words.proofs.LookLaws.{spared, removed}
use Rattle.place_words.proofs.Worked.{not_nil}
use Rattle.place_words.proofs.Loses.{in_set, removed_ones, removed_by_force}
use Rattle.place_words.proofs.RowCounts.{any, rows_append, rows_reverse, rows_cut, rows_any, rows_those, rows_without}

-- a probe that takes the element out of its bucket
abbrev pub removed_try : ℕ → Try
removed_try e = record { element = e; probed = Removed }

abbrev pub removed_tries : List ℕ → List Try
removed_tries es = map (λ (e : ℕ). removed_try e) es

pub removed_names : (es : List ℕ) → map (λ (try : Try). try.element) (removed_tries es) ≡ es
removed_names [] = refl
removed_names (e ∷ es) = ap (λ (rest : List ℕ). e ∷ rest) (removed_names es)

-- Probes

-- each probe of these looks removes, and they are what the looks freed
abbrev pub AreProbesOf : List Look → Type 0
AreProbesOf looks = flat_map look_probes looks ≡ removed_tries (removed_ones looks)

pub probes_step : (bit : Bool) (row : Row) (if_set if_not : List Look) → AreProbesOf if_set → AreProbesOf if_not → AreProbesOf (if bit then spared row ∷ if_set else removed row ∷ if_not)
probes_step true row if_set if_not a b = a
probes_step false row if_set if_not a b = ap (λ (tries : List Try). removed_try row.element ∷ tries) b

looks_probe : (bits : ℕ → Bool) (scans target : ℕ) (rows : List Row) → AreProbesOf (looks_over bits scans target rows)
looks_probe bits scans target [] = refl
looks_probe bits zero target (row ∷ rows) = refl
looks_probe bits (suc scans) zero (row ∷ rows) = refl
looks_probe bits (suc scans) (suc target) (row ∷ rows) =
    probes_step (bits row.element) row (looks_over bits scans (suc target) rows) (looks_over bits scans target rows)
    (looks_probe bits scans (suc target) rows) (looks_probe bits scans target rows)

forced_probe : (rows : List Row) → forced_over rows ≡ removed_tries (removed_by_force (forced_over rows))
forced_probe [] = refl
forced_probe (row ∷ rows) = refl

pub after_probe : (looks : List Look) (rows : List Row) → forced_after looks rows ≡ removed_tries (removed_by_force (forced_after looks rows))
after_probe looks rows = by (eqb (count_by look_removed looks) 0)
  where
    by : (none : Bool) → cond none (forced_over rows) [] ≡ removed_tries (removed_by_force (cond none (forced_over rows) []))
    by true = forced_probe rows
    by false = refl

pub walks_probe : (looks : List Look) (tries : List Try) → AreProbesOf looks → tries ≡ removed_tries (removed_by_force tries) → walk_probes looks tries ≡ removed_tries (freed looks tries)
walks_probe looks tries a b =
    ap (λ (first : List Try). first ++ tries) a ∙ ap (λ (second : List Try). removed_tries (removed_ones looks) ++ second) b
    ∙ sym (map-append (λ (e : ℕ). removed_try e) (removed_ones looks) (removed_by_force tries))

-- the probes of a shrink are tries of exactly the elements that it frees, in order, and each removes
pub shrink_probed : (scans target : ℕ) (bits : ℕ → Bool) (lists : Listed)
    → shrink_probes (Some (shrink_of scans target bits lists)) ≡ removed_tries (freed (shrink_of scans target bits lists).looks (shrink_of scans target bits lists).forced)
unfolding shrink_of
shrink_probed scans target bits lists =
    let looks : List Look = looks_over bits scans target (reverse lists.inactive) in
    walks_probe looks (forced_after looks (reverse (forced_rows (after_looks lists looks)))) (looks_probe bits scans target (reverse lists.inactive)) (after_probe looks (reverse (forced_rows (after_looks lists looks))))

-- What is freed was listed

pub off_step : (e : ℕ) (bit : Bool) (row : Row) (rows : List Row) (if_set if_not : List Look) → times e (removed_ones if_set) ≤ times e (elements_of rows) → times e (removed_ones if_not) ≤ times e (elements_of rows)
    → times e (removed_ones (if bit then spared row ∷ if_set else removed row ∷ if_not)) ≤ times e (elements_of (row ∷ rows))
off_step e true row rows if_set if_not a b = omega (arith, a, times_more e row.element (elements_of rows))
off_step e false row rows if_set if_not a b = omega (arith, b, times_more e row.element (elements_of rows), times_more e row.element (removed_ones if_not))

looked_there : (bits : ℕ → Bool) (scans target : ℕ) (rows : List Row) (e : ℕ) → times e (removed_ones (looks_over bits scans target rows)) ≤ times e (elements_of rows)
looked_there bits scans target [] e = omega arith
looked_there bits zero target (row ∷ rows) e = omega arith
looked_there bits (suc scans) zero (row ∷ rows) e = omega arith
looked_there bits (suc scans) (suc target) (row ∷ rows) e =
    off_step e (bits row.element) row rows (looks_over bits scans (suc target) rows) (looks_over bits scans target rows)
    (looked_there bits scans (suc target) rows e) (looked_there bits scans target rows e)

pub forced_one : (rows : List Row) (e : ℕ) → times e (removed_by_force (forced_over rows)) ≤ times e (elements_of rows)
forced_one [] e = omega arith
forced_one (row ∷ rows) e = omega (arith, times_more e row.element (elements_of rows), times_more e row.element [])

pub forced_few : (rows : List Row) (e : ℕ) → times e (removed_by_force (forced_over rows)) ≤ 1
forced_few [] e = omega arith
forced_few (row ∷ rows) e = omega (arith, times_more e row.element [], by (eqb row.element e))
  where
    by : (b : Bool) → cond b 1 0 ≤ 1
    by true = omega arith
    by false = omega arith

looked_none : (looks : List Look) → count_by look_removed looks ≡ 0 → removed_ones looks ≡ []
looked_none looks none =
    nil_from_length (removed_ones looks) (length-map (filter look_removed looks) (λ (look : Look). look.element) ∙ length-filter look_removed looks ∙ none)

-- what looks and a forced walk after them free of an element
pub freed_bound : (looks : List Look) (rows : List Row) (e n : ℕ) → times e (removed_ones looks) ≤ n → (1 ≤ times e (elements_of rows) → 1 ≤ n) → times e (freed looks (forced_after looks rows)) ≤ n
freed_bound looks rows e n few there = by (eqb (count_by look_removed looks) 0) refl
  where
    by : (none : Bool) → eqb (count_by look_removed looks) 0 ≡ none → times e (freed looks (cond none (forced_over rows) [])) ≤ n
    by true is =
        let empty : times e (removed_ones looks) ≡ 0 = ap (times e) (looked_none looks (eqb-true (count_by look_removed looks) 0 is)) in
        let whole = times_append e (removed_ones looks) (removed_by_force (forced_over rows)) in
        ⊎_elim
        (λ some. omega (arith, whole, empty, forced_few rows e, there some))
        (λ none. omega (arith, whole, empty, forced_one rows e, none))
        (cases_lt 0 (times e (elements_of rows)))
    by false is = omega (arith, times_append e (removed_ones looks) [], few)

chosen_less : (b : Bool) (n : ℕ) → cond b n 0 ≤ n
chosen_less true n = omega arith
chosen_less false n = omega arith

other_less : (b : Bool) (n : ℕ) → cond b 0 n ≤ n
other_less true n = omega arith
other_less false n = omega arith

either_less : (b : Bool) (e n : ℕ) (first second : List Row) → rows_of e any first ≤ n → rows_of e any second ≤ n → times e (elements_of (cond b first second)) ≤ n
either_less true e n first second p q = omega (arith, rows_any e first, p)
either_less false e n first second p q = omega (arith, rows_any e second, q)

pub forced_there : (lists : Listed) (looks : List Look) (e : ℕ) → times e (elements_of (forced_rows (after_looks lists looks))) ≤ in_set e any lists
unfolding after_looks
forced_there lists looks e =
    let walked : List Row = take (length looks) (reverse lists.inactive) in
    let active : List Row = reverse (those (found_set looks) walked) ++ lists.active in
    let inactive : List Row = without_those (taken_off looks) lists.inactive in
    let joined = rows_append e any (reverse (those (found_set looks) walked)) lists.active in
    let turned = rows_reverse e any (those (found_set looks) walked) in
    let set_ones = rows_those e any (found_set looks) walked in
    let others = rows_without e any (taken_off looks) lists.inactive in
    let cut = rows_cut e any (length looks) (reverse lists.inactive) in
    let whole = rows_reverse e any lists.inactive in
    either_less (eqb (length inactive) 0) e (in_set e any lists) active inactive
    (omega (arith, joined, turned, set_ones, cut, whole, chosen_less (found_set looks e) (rows_of e any walked)))
    (omega (arith, others, other_less (taken_off looks e) (rows_of e any lists.inactive)))

-- what a shrink frees was listed, as often
pub freed_listed : (scans target : ℕ) (bits : ℕ → Bool) (lists : Listed) (e : ℕ)
    → times e (freed (shrink_of scans target bits lists).looks (shrink_of scans target bits lists).forced) ≤ times e (elements_of (lists.active ++ lists.inactive))
unfolding shrink_of
freed_listed scans target bits lists e =
    let looks : List Look = looks_over bits scans target (reverse lists.inactive) in
    let rows : List Row = forced_rows (after_looks lists looks) in
    let whole = times_rows-append e lists.active lists.inactive in
    let active = rows_any e lists.active in
    let inactive = rows_any e lists.inactive in
    let forced = forced_there lists looks e in
    let turned = times_rows-reverse e rows in
    freed_bound looks (reverse rows) e (times e (elements_of (lists.active ++ lists.inactive)))
    (omega (arith, whole, looked_there bits scans target (reverse lists.inactive) e, times_rows-reverse e lists.inactive))
    (λ some. omega (arith, some, whole, active, inactive, forced, turned))

-- An element that has a row has a stored hash

pub stored_there : (e : ℕ) (rows : List Row) → 1 ≤ times e (elements_of rows) → (hash : ℕ) × (stored_hash e rows ≡ Some hash)
stored_there e [] some = absurd (omega (arith, some))
stored_there e (row ∷ rows) some =
    by_test row.element e (λ b. 1 ≤ cond b (suc (times e (elements_of rows))) (times e (elements_of rows)) → (hash : ℕ) × (option_map (λ (r : Row). r.hash) (cond b (Some row) (find (λ (r : Row). eqb r.element e) rows)) ≡ Some hash))
    (λ same is. (row.hash, refl))
    (λ other is. stored_there e rows is)
    some

-- Where anything is listed something is freed

pub off_none : (looks : List Look) (rows : List Row) → freed looks (forced_after looks rows) ≡ [] → (count_by look_removed looks ≡ 0) × (rows ≡ [])
off_none looks rows none = by (eqb (count_by look_removed looks) 0) refl none
  where
    over_none : (rows : List Row) → count_by try_removed (forced_over rows) ≡ 0 → rows ≡ []
    over_none [] is = refl
    over_none (row ∷ rows) is = absurd (omega (arith, is))

    by : (one : Bool) → eqb (count_by look_removed looks) 0 ≡ one → freed looks (cond one (forced_over rows) []) ≡ [] → (count_by look_removed looks ≡ 0) × (rows ≡ [])
    by true is empty =
        let counted = freed_count looks (forced_over rows) in
        let zero_long : length (freed looks (forced_over rows)) ≡ 0 = ap (length {A = ℕ}) empty in
        (eqb-true (count_by look_removed looks) 0 is, over_none rows (omega (arith, counted, zero_long)))
    by false is empty =
        let counted = freed_count looks [] in
        let zero_long : length (freed looks []) ≡ 0 = ap (length {A = ℕ}) empty in
        let none : count_by look_removed looks ≡ 0 = omega (arith, counted, zero_long) in
        absurd (both_ways (eqb (count_by look_removed looks) 0) is (eq-eqb (count_by look_removed looks) 0 none))

pub append_empty : {A : Type 0} (xs ys : List A) → xs ++ ys ≡ [] → (xs ≡ []) × (ys ≡ [])
append_empty [] ys none = (refl, none)
append_empty (x ∷ xs) ys none = absurd (not_nil none)

pub reverse_empty : {A : Type 0} (xs : List A) → reverse xs ≡ [] → xs ≡ []
reverse_empty xs none = nil_from_length xs (sym (length-reverse xs) ∙ ap length none)
