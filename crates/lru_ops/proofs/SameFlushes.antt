-- Turns of the global lists that may be made on the same set and clear the same bits, in one order, flush the same elements.
use Rattle.std.proofs.Common.{inl, inr, ◌≡◌, ℕ, ◌<◌, ◌≤◌, ◌+◌, cond, true, false, Bool, List, [], ◌∷◌, ◌++◌, map, take, reverse, length, sym, refl, ap, ◌∙◌, subst, Option, Some, None, arith}
use Rattle.std.specs.Prelude.{All, suc}
use Rattle.std.proofs.lemmas.List.{map-append}
use Rattle.std.proofs.lemmas.List.Elements.{All-nil, All-cons, All-weaker}
use Rattle.map_types.specs.declared.attr.Shape.{Shape}
use Rattle.map_types.specs.ElementLists.{times, IsIn}
use Rattle.map_types.specs.Listed.{Listed, elements_of}
use Rattle.map_types.proofs.RowLemmas.{times_append, by_test}
use Rattle.place_words.specs.declared.history.Part.{Part}
use Rattle.place_words.specs.declared.history.Part.TheVariants as parts
use Rattle.place_words.specs.declared.list_part.GlobalPart.{GlobalPart}
use Rattle.place_words.specs.declared.list_part.GlobalPart.TheVariants as global
use Rattle.place_words.specs.declared.visits.Flush.{Flush}
use Rattle.place_words.specs.declared.visits.Look.{Look}
use Rattle.place_words.specs.declared.visits.ShrinkNote.{ShrinkNote}
use Rattle.place_words.specs.declared.visits.Visit.{Visit}
use Rattle.place_words.specs.Globals.{AllowsGlobalShrink, AllowsOnGlobal, AreFlushed, flush_visit, flushed_elements, flushed_rows, global_scans, with_flushed}
use Rattle.place_words.specs.Histories.{Content, in_global, Allows, also_cleared, bits_cleared, global_also, global_bits, look_visit, looks_told}
use Rattle.place_words.specs.Rotation.{active_rotated, active_visited, inactive_visited, rotated, visited_elements, AreRotationVisits}
use Rattle.place_words.specs.RowMoves.{rows_of}
use Rattle.place_words.specs.Sets.{ListSet}
use Rattle.place_words.specs.Shrinking.{AreLooks}
use Rattle.place_words.proofs.KeepLaws.{flushed_in, listed_none, listed_one}
use Rattle.place_words.proofs.Loses.{in_set, active_loses}
use Rattle.place_words.proofs.RotationCounts.{rotated_less, visited_few}
use Rattle.place_words.proofs.RowCounts.{any, rows_any, rows_cut, rows_reverse}
use Rattle.place_words.proofs.ElementLemmas.{times_cons_same}
use Rattle.place_table.specs.declared.view.Notes.{Notes}
use Rattle.place_table.specs.TurnNotes.{AreCleared, TellsFlush}
use Rattle.place_table.specs.Views.{passed_on}
use Rattle.place_table.proofs.Entries.{append_nil}
use Rattle.lru_ops.proofs.RefillTurns.{elements_flushed}

-- Two lists of visits that begin with flushes

same_first : {A : Type 0} {x y : A} {xs ys : List A} → x ∷ xs ≡ y ∷ ys → x ≡ y
same_first e = cc

same_rest : {A : Type 0} {x y : A} {xs ys : List A} → x ∷ xs ≡ y ∷ ys → xs ≡ ys
same_rest e = cc

some_none : {A : Type 0} {x : A} {xs : List A} → x ∷ xs ≡ [] → ⊥
some_none e = cc

-- The first flushes come from outside, each once, where `there` counts what was there. What follows the second ones was there or is
-- among them. So the second ones tell all of the first.
pub all_told : (there : ℕ → ℕ) (flushed others : List Flush) (rest told : List Visit) → map flush_visit flushed ++ rest ≡ map flush_visit others ++ told
    → ((e : ℕ) → IsIn e (flushed_elements flushed) → there e + times e (flushed_elements flushed) ≤ 1) → ((e : ℕ) → IsIn e (visited_elements told) → 0 < there e + times e (flushed_elements others))
    → All (TellsFlush others) (map flush_visit flushed)
all_told there [] others rest told same once seen = All-nil (TellsFlush others)
all_told there (flush ∷ flushed) [] rest [] same once seen = absurd (some_none same)
all_told there (flush ∷ flushed) [] rest (visit ∷ told) same once seen =
    let e : ℕ = flush.element in
    let one : e ≡ visit.element = ap (λ (v : Visit). v.element) (same_first same) in
    let twice : times e (e ∷ flushed_elements flushed) ≡ suc (times e (flushed_elements flushed)) = times_cons_same e (flushed_elements flushed) in
    let few : there e + times e (e ∷ flushed_elements flushed) ≤ 1 = once e (omega (arith, twice)) in
    let first : times visit.element (visit.element ∷ visited_elements told) ≡ suc (times visit.element (visited_elements told)) = times_cons_same visit.element (visited_elements told) in
    let was : 0 < there visit.element + 0 = seen visit.element (omega (arith, first)) in
    let was_here : 0 < there e + 0 = subst (λ (x : ℕ). 0 < there x + 0) (sym one) was in
    absurd (omega (arith, twice, few, was_here))
all_told there (flush ∷ flushed) (other ∷ others) rest told same once seen =
    let one : flush_visit flush ≡ flush_visit other = same_first same in
    let e_is : flush.element ≡ other.element = ap (λ (v : Visit). v.element) one in
    let also : ℕ → ℕ = λ e. there e + times e (flush.element ∷ []) in
    let behind : All (TellsFlush others) (map flush_visit flushed) =
    all_told also flushed others rest told (same_rest same)
    (λ e inside.
    let both : times e (flush.element ∷ flushed_elements flushed) ≡ times e (flush.element ∷ []) + times e (flushed_elements flushed) = times_append e (flush.element ∷ []) (flushed_elements flushed) in
    let in_rest : 0 < times e (flushed_elements flushed) = inside in
    let few : there e + times e (flush.element ∷ flushed_elements flushed) ≤ 1 = once e (omega (arith, both, in_rest)) in
    omega (arith, both, few))
    (λ e inside.
    let both : times e (other.element ∷ flushed_elements others) ≡ times e (other.element ∷ []) + times e (flushed_elements others) = times_append e (other.element ∷ []) (flushed_elements others) in
    let first : times e (flush.element ∷ []) ≡ times e (other.element ∷ []) = ap (λ (x : ℕ). times e (x ∷ [])) e_is in
    let was : 0 < there e + times e (other.element ∷ flushed_elements others) = seen e inside in
    omega (arith, both, first, was)) in
    All-cons (TellsFlush (other ∷ others)) (flush_visit flush) (map flush_visit flushed) (inl (sym one))
    (All-weaker (TellsFlush others) (TellsFlush (other ∷ others)) (λ visit tells. inr tells) (map flush_visit flushed) behind)

-- What is flushed comes from outside, each element once

once_flushed : (set : ListSet) (flushed : List Flush) (e : ℕ) → AreFlushed set flushed → IsIn e (flushed_elements flushed) → in_set e any set.lists + times e (flushed_elements flushed) ≤ 1
once_flushed set [] e are inside = let some : 0 < 0 = inside in absurd (omega (arith, some))
once_flushed set (flush ∷ flushed) e are inside =
    let n : ℕ = times e (flushed_elements flushed) in
    by_test flush.element e (λ b. 0 < cond b (suc n) n → in_set e any set.lists + cond b (suc n) n ≤ 1)
    (λ same _.
    let none : in_set e any set.lists ≡ 0 = subst (λ (x : ℕ). in_set x any set.lists ≡ 0) same (listed_none flush.element set.lists are.0.0) in
    let once : times e (flushed_elements flushed) ≡ 0 = subst (λ (x : ℕ). times x (flushed_elements flushed) ≡ 0) same are.1 in
    omega (arith, none, once))
    (λ _ later. once_flushed set flushed e are.2 later) inside

-- What a rotation visits and a shrink looks at is listed

active_few : (scans : ℕ) (lists : Listed) (e : ℕ) → rows_of e any (active_visited scans lists) ≤ rows_of e any lists.active
unfolding active_visited
active_few scans lists e = by _
  where
    by : (b : Bool) → rows_of e any (cond b (take scans (reverse lists.active)) []) ≤ rows_of e any lists.active
    by true = omega (arith, rows_cut e any scans (reverse lists.active), rows_reverse e any lists.active)
    by false = omega arith

looks_visited : (looks : List Look) → visited_elements (map look_visit looks) ≡ map (λ (look : Look). look.element) looks
looks_visited [] = refl
looks_visited (look ∷ looks) = ap (λ (l : List ℕ). look.element ∷ l) (looks_visited looks)

module _ (scans : ℕ) (lists : Listed) (active inactive : List Visit) (visits : AreRotationVisits scans lists active inactive) (e : ℕ) where
  active_listed : times e (visited_elements active) ≤ in_set e any lists
  active_listed =
      let same : times e (visited_elements active) ≡ times e (elements_of (active_visited scans lists)) = ap (times e) visits.of_active in
      let counted = rows_any e (active_visited scans lists) in
      let few = active_few scans lists e in
      omega (arith, same, counted, few)

  inactive_listed : times e (visited_elements inactive) ≤ in_set e any lists
  inactive_listed =
      let first : Listed = active_rotated scans lists active in
      let same : times e (visited_elements inactive) ≡ times e (elements_of (inactive_visited scans first)) = ap (times e) visits.of_inactive in
      let counted = rows_any e (inactive_visited scans first) in
      let few : rows_of e any (inactive_visited scans first) ≤ rows_of e any first.inactive = visited_few scans first inactive e in
      let still : in_set e any first ≡ in_set e any lists = active_loses scans lists active e any in
      omega (arith, same, counted, few, still)

  looks_listed : (target : ℕ) (looks : List Look) → AreLooks scans target (rotated scans lists active inactive) looks → times e (visited_elements (map look_visit looks)) ≤ in_set e any lists
  looks_listed target looks are =
      let then : Listed = rotated scans lists active inactive in
      let same : times e (visited_elements (map look_visit looks)) ≡ times e (elements_of (take (length looks) (reverse then.inactive))) = ap (times e) (looks_visited looks ∙ are.from_tail) in
      let counted = rows_any e (take (length looks) (reverse then.inactive)) in
      let cut = rows_cut e any (length looks) (reverse then.inactive) in
      let turned = rows_reverse e any then.inactive in
      let less : in_set e any then ≤ in_set e any lists = rotated_less scans lists active inactive e in
      omega (arith, same, counted, cut, turned, less)

-- Parts

-- the flushes that a part tells
abbrev pub flushes_on : GlobalPart → List Flush
flushes_on (global.Turn flushed active inactive free shrink) = flushed
flushes_on (global.Push e) = []

abbrev pub flushes_told : Part → List Flush
flushes_told (parts.Bucket part) = []
flushes_told (parts.Free part) = []
flushes_told (parts.Local part) = []
flushes_told (parts.Global part) = flushes_on part
flushes_told (parts.Own part) = []

shrink_listed : (moved : ℕ) (shrink : Option ShrinkNote) (lists : Listed) (active inactive : List Visit) (e : ℕ) → AreRotationVisits global_scans lists active inactive → AllowsGlobalShrink moved shrink (rotated global_scans lists active inactive) → times e (visited_elements (looks_told shrink)) ≤ in_set e any lists
shrink_listed moved None lists active inactive e visits allowed = omega arith
shrink_listed moved (Some note) lists active inactive e visits allowed = looks_listed global_scans lists active inactive visits e note.target note.looks allowed.2.looked

-- what the rest of a turn visits was there, or was flushed
rest_there : (set : ListSet) (flushed : List Flush) (active inactive : List Visit) (free : List ℕ) (shrink : Option ShrinkNote) (e : ℕ) → AllowsOnGlobal (global.Turn flushed active inactive free shrink) set
    → IsIn e (visited_elements (active ++ (inactive ++ looks_told shrink))) → 0 < in_set e any set.lists + times e (flushed_elements flushed)
rest_there set flushed active inactive free shrink e allowed inside =
    let lists : Listed = (with_flushed flushed set).lists in
    let some : 0 < times e (visited_elements (active ++ (inactive ++ looks_told shrink))) = inside in
    let first : times e (visited_elements (active ++ (inactive ++ looks_told shrink))) ≡ times e (visited_elements active) + times e (visited_elements (inactive ++ looks_told shrink)) =
    ap (times e) (map-append (λ (v : Visit). v.element) active (inactive ++ looks_told shrink)) ∙ times_append e (visited_elements active) (visited_elements (inactive ++ looks_told shrink)) in
    let second : times e (visited_elements (inactive ++ looks_told shrink)) ≡ times e (visited_elements inactive) + times e (visited_elements (looks_told shrink)) =
    ap (times e) (map-append (λ (v : Visit). v.element) inactive (looks_told shrink)) ∙ times_append e (visited_elements inactive) (visited_elements (looks_told shrink)) in
    let one = active_listed global_scans lists active inactive allowed.1 e in
    let other = inactive_listed global_scans lists active inactive allowed.1 e in
    let last = shrink_listed (length free) shrink lists active inactive e allowed.1 allowed.3 in
    let all : in_set e any lists ≡ in_set e any set.lists + rows_of e any (flushed_rows flushed) = flushed_in set flushed e any in
    let counted : rows_of e any (flushed_rows flushed) ≡ times e (flushed_elements flushed) = rows_any e (flushed_rows flushed) ∙ ap (times e) (elements_flushed flushed) in
    omega (arith, some, first, second, one, other, last, all, counted)

-- a list of one
only_one : {A : Type 0} (before behind : List A) (x : A) (all : List A) → all ≡ before ++ x ∷ behind → before ++ behind ≡ [] → all ≡ x ∷ []
only_one [] behind x all is none = is ∙ ap (λ l. x ∷ l) none
only_one (y ∷ before) behind x all is none = absurd (some_none none)

-- A part that was allowed on the same set, and whose clears these are, tells these flushes.
pub same_flushes : (set : ListSet) (flushed : List Flush) (rest : List Visit) (part : GlobalPart) → AreFlushed set flushed → AllowsOnGlobal part set → AreCleared (global_also part) (global_bits part) (map flush_visit flushed ++ rest)
    → All (TellsFlush (flushes_on part)) (map flush_visit flushed)
same_flushes set flushed rest (global.Turn others active inactive free shrink) are allowed cleared =
    all_told (λ e. in_set e any set.lists) flushed others rest (active ++ (inactive ++ looks_told shrink)) cleared (λ e inside. once_flushed set flushed e are inside)
    (λ e inside. rest_there set others active inactive free shrink e allowed inside)
same_flushes set flushed rest (global.Push x) are allowed cleared =
    let visit : Visit = record { element = x; bit = cleared.1 } in
    all_told (λ e. in_set e any set.lists) flushed [] rest (visit ∷ []) (only_one cleared.0 cleared.2 visit (map flush_visit flushed ++ rest) cleared.3 cleared.4) (λ e inside. once_flushed set flushed e are inside)
    (λ e inside.
    let one : 1 ≤ in_set x any set.lists = listed_one x set.lists allowed in
    by_test x e (λ b. 0 < cond b 1 0 → 0 < in_set e any set.lists + 0)
    (λ same _. let here : 1 ≤ in_set e any set.lists = subst (λ (y : ℕ). 1 ≤ in_set y any set.lists) same one in omega (arith, here))
    (λ _ none. absurd (omega (arith, none))) inside)

-- What lies there tells which parts may be made: what one of the global lists hands on is what it flushed.
pub flushes_passed : (shape : Shape) (cpu : ℕ) (part : Part) (there : Content) (set : ListSet) (inner n : Notes) (below : List Notes) → in_global set ≡ there → Allows shape cpu part there
    → passed_on part (inner ∷ n ∷ below) ≡ record n { flushed = n.flushed ++ flushes_told part } ∷ below
flushes_passed shape cpu part there set inner n below is allowed = go part (subst (Allows shape cpu part) (sym is) allowed)
  where
    go : (part : Part) → Allows shape cpu part (in_global set) → passed_on part (inner ∷ n ∷ below) ≡ record n { flushed = n.flushed ++ flushes_told part } ∷ below
    go (parts.Bucket part) allowed = absurd allowed
    go (parts.Free part) allowed = absurd allowed
    go (parts.Local part) allowed = absurd allowed
    go (parts.Global (global.Turn flushed active inactive free shrink)) allowed = refl
    go (parts.Global (global.Push e)) allowed = (λ i. record n { flushed = sym (append_nil n.flushed) i } ∷ below)
    go (parts.Own part) allowed = absurd allowed

pub flushes_same : (shape : Shape) (cpu : ℕ) (part : Part) (there : Content) (set : ListSet) (flushed : List Flush) (rest : List Visit) → in_global set ≡ there → Allows shape cpu part there → AreFlushed set flushed
    → AreCleared (also_cleared part) (bits_cleared part) (map flush_visit flushed ++ rest) → All (TellsFlush (flushes_told part)) (map flush_visit flushed)
flushes_same shape cpu part there set flushed rest is allowed are cleared = go part (subst (Allows shape cpu part) (sym is) allowed) cleared
  where
    go : (part : Part) → Allows shape cpu part (in_global set) → AreCleared (also_cleared part) (bits_cleared part) (map flush_visit flushed ++ rest) → All (TellsFlush (flushes_told part)) (map flush_visit flushed)
    go (parts.Bucket part) allowed cleared = absurd allowed
    go (parts.Free part) allowed cleared = absurd allowed
    go (parts.Local part) allowed cleared = absurd allowed
    go (parts.Global part) allowed cleared = same_flushes set flushed rest part are allowed cleared
    go (parts.Own part) allowed cleared = absurd allowed
