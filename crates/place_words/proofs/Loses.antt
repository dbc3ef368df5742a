-- What a rotation and a shrink leave of the rows of a set: a rotation all, a shrink all but those of the elements that it frees.
use Rattle.std.proofs.Common.{◌≡◌, ◌⊎◌, ℕ, zero, suc, ◌+◌, ◌<◌, ◌≤◌, Bool, true, false, not, cond, ◌&&◌, ◌||◌, eqb, List, [], ◌∷◌, ◌++◌, length, take, drop, reverse, map, refl, ap, ◌∙◌, sym, subst, arith, inl, inr}
use Rattle.std.specs.Prelude.{Option, None, Some, All, filter, count_by, is_some, MatchBool}
use Rattle.std.specs.List.{position_or_len}
use Rattle.std.proofs.lemmas.Bool.{cases_lt, both_ways}
use Rattle.std.proofs.lemmas.List.Elements.{All-head, All-tail}
use Rattle.place_words.specs.declared.bucket_part.Seen.{Seen}
use Rattle.place_words.specs.declared.bucket_part.Seen.TheVariants.{Removed, Held}
use Rattle.map_types.specs.declared.row.Row.{Row}
use Rattle.place_words.specs.declared.visits.Look.{Look}
use Rattle.place_words.specs.declared.visits.Try.{Try}
use Rattle.place_words.specs.declared.visits.Visit.{Visit}
use Rattle.map_types.specs.ElementLists.{times, one}
use Rattle.map_types.specs.Listed.{Listed, elements_of, those, without_those, rows_to, rows_after}
use Rattle.place_words.specs.Rotation.{was_set, visited_elements, active_visited, active_rotated, inactive_order, inactive_visited, inactive_rotated, rotated, AreRotationVisits}
use Rattle.place_words.specs.RowMoves.{rows_of}
use Rattle.place_words.specs.Shrinking.{AreTries, IsShrink, look_removed, try_removed, found_set, taken_off, after_looks, forced_rows, forced_out, after_tries, shrunk, freed}
use Rattle.place_words.proofs.RowCounts.{any, rows_append, rows_reverse, rows_cut, rows_any, rows_least, rows_those, rows_without, rows_apart}
use Rattle.map_types.proofs.RowLemmas.{by_test, times_append}

-- the rows of an element in a set
abbrev pub in_set : ℕ → (ℕ → Bool) → Listed → ℕ
in_set e of set = rows_of e of set.active + rows_of e of set.inactive

abbrev pub AreOnceIn : Listed → Type 0
AreOnceIn set = (e : ℕ) → in_set e any set ≤ 1

-- One set becomes another and loses the rows of these elements.
pub record Loses (before after : Listed) (out : List ℕ) : Type 0 where
  pub kept : (e : ℕ) (of : ℕ → Bool) → times e out ≡ 0 → in_set e of after ≡ in_set e of before
  pub lost : (e : ℕ) (of : ℕ → Bool) → 1 ≤ times e out → in_set e of after ≡ 0
  pub was : (e : ℕ) → times e out ≤ in_set e any before

pub loses_none : (set : Listed) → Loses set set []
loses_none set = record { kept = λ e of none. refl; lost = λ e of some. absurd (omega (arith, some)); was = λ e. omega arith }

pub loses_both : (a b c : Listed) (first second : List ℕ) → Loses a b first → Loses b c second → Loses a c (first ++ second)
loses_both a b c first second one_loses two_loses = record {
  kept = λ e of none. two_loses.kept e of (omega (arith, none, times_append e first second)) ∙ one_loses.kept e of (omega (arith, none, times_append e first second));
  lost = λ e of some. by_first e of some (cases_lt 0 (times e first));
  was = λ e. most e (cases_lt 0 (times e first));
}
  where
    by_first : (e : ℕ) (of : ℕ → Bool) → 1 ≤ times e (first ++ second) → (0 < times e first) ⊎ (times e first ≤ 0) → in_set e of c ≡ 0
    by_first e of some (inl gone) =
        let none : times e second ≡ 0 = omega (arith, two_loses.was e, one_loses.lost e any gone) in
        two_loses.kept e of none ∙ one_loses.lost e of gone
    by_first e of some (inr stays) = two_loses.lost e of (omega (arith, some, stays, times_append e first second))

    most : (e : ℕ) → (0 < times e first) ⊎ (times e first ≤ 0) → times e (first ++ second) ≤ in_set e any a
    most e (inl gone) = omega (arith, times_append e first second, two_loses.was e, one_loses.lost e any gone, one_loses.was e)
    most e (inr stays) =
        let same = one_loses.kept e any (omega (arith, stays)) in
        omega (arith, times_append e first second, two_loses.was e, same, stays)

pub once_after : (a b : Listed) (out : List ℕ) → Loses a b out → AreOnceIn a → AreOnceIn b
once_after a b out loses once e = by_out (cases_lt 0 (times e out))
  where
    by_out : (0 < times e out) ⊎ (times e out ≤ 0) → in_set e any b ≤ 1
    by_out (inl gone) = omega (arith, loses.lost e any gone)
    by_out (inr stays) = omega (arith, loses.kept e any (omega (arith, stays)), once e)

-- how many rows of an element were there, and are lost
pub lost_counted : (a b : Listed) (out : List ℕ) → Loses a b out → AreOnceIn a → (e : ℕ) → in_set e any b + times e out ≡ in_set e any a
lost_counted a b out loses once e = by_out (cases_lt 0 (times e out))
  where
    by_out : (0 < times e out) ⊎ (times e out ≤ 0) → in_set e any b + times e out ≡ in_set e any a
    by_out (inl gone) = omega (arith, loses.lost e any gone, loses.was e, once e)
    by_out (inr stays) = omega (arith, loses.kept e any (omega (arith, stays)), stays)

-- Rotation

pub seen_set : (visits : List Visit) (e : ℕ) → was_set visits e ≡ true → 1 ≤ times e (visited_elements visits)
seen_set [] e set = absurd (both_ways false refl set)
seen_set (visit ∷ visits) e set =
    by_test visit.element e (λ b. ((b && visit.bit) || was_set visits e) ≡ true → 1 ≤ cond b (suc (times e (visited_elements visits))) (times e (visited_elements visits)))
    (λ same is. omega arith)
    (λ other is. seen_set visits e is)
    set

prefix_of : {A : Type 0} (n : ℕ) (xs : List A) → take (length (take n xs)) xs ≡ take n xs
prefix_of zero xs = refl
prefix_of (suc n) [] = refl
prefix_of (suc n) (x ∷ xs) = ap (λ l. x ∷ l) (prefix_of n xs)

prefix_where : (b : Bool) (scans : ℕ) (rows : List Row) → take (length (cond b (take scans rows) [])) rows ≡ cond b (take scans rows) []
prefix_where true scans rows = prefix_of scans rows
prefix_where false scans rows = refl

active_prefix : (scans : ℕ) (set : Listed) → take (length (active_visited scans set)) (reverse set.active) ≡ active_visited scans set
unfolding active_visited
active_prefix scans set = prefix_where _ scans (reverse set.active)

pub active_loses : (scans : ℕ) (set : Listed) (visits : List Visit) (e : ℕ) (of : ℕ → Bool) → in_set e of (active_rotated scans set visits) ≡ in_set e of set
unfolding active_rotated
active_loses scans set visits e of =
    let visited : List Row = active_visited scans set in
    let left : List Row = drop (length visited) (reverse set.active) in
    let apart = rows_apart e of (was_set visits) visited in
    let active = rows_append e of (reverse (those (was_set visits) visited)) (reverse left) in
    let inactive = rows_append e of (reverse (without_those (was_set visits) visited)) set.inactive in
    let cut = rows_cut e of (length visited) (reverse set.active) in
    let same : rows_of e of (take (length visited) (reverse set.active)) ≡ rows_of e of visited = ap (rows_of e of) (active_prefix scans set) in
    omega (arith, apart, active, inactive, cut, same, rows_reverse e of (those (was_set visits) visited), rows_reverse e of left, rows_reverse e of (without_those (was_set visits) visited), rows_reverse e of set.active)

pub order_rows : (cursor : Option ℕ) (rows : List Row) (e : ℕ) (of : ℕ → Bool) → rows_of e of (inactive_order cursor rows) ≡ rows_of e of rows
unfolding inactive_order
order_rows None rows e of = rows_reverse e of rows
order_rows (Some c) rows e of =
    let n : ℕ = position_or_len (λ (row : Row). eqb row.element c) rows + 1 in
    omega (arith, rows_append e of (reverse (rows_to c rows)) (reverse (rows_after c rows)), rows_reverse e of (rows_to c rows), rows_reverse e of (rows_after c rows), rows_cut e of n rows)

-- of an element that is among the first rows there is none among the others
only_there : (e : ℕ) (of : ℕ → Bool) (n : ℕ) (rows : List Row) → rows_of e any rows ≤ 1 → 1 ≤ times e (elements_of (take n rows)) → rows_of e of rows ≡ rows_of e of (take n rows)
only_there e of n rows once there =
    omega (arith, rows_cut e of n rows, rows_cut e any n rows, once, there, rows_any e (take n rows), rows_any e (drop n rows), rows_least e of (drop n rows))

moved_where : (b : Bool) (active visited inactive one_set kept : ℕ) → one_set ≡ cond b visited 0 → kept ≡ cond b 0 inactive → (b ≡ true → inactive ≡ visited) → (one_set + active) + kept ≡ active + inactive
moved_where true active visited inactive one_set kept p q same = omega (arith, p, q, same refl)
moved_where false active visited inactive one_set kept p q same = omega (arith, p, q)

inactive_loses : (scans : ℕ) (set : Listed) (visits : List Visit) → AreOnceIn set → visited_elements visits ≡ elements_of (inactive_visited scans set) → (e : ℕ) (of : ℕ → Bool)
    → in_set e of (inactive_rotated scans set visits) ≡ in_set e of set
unfolding inactive_rotated inactive_visited
inactive_loses scans set visits once seen e of =
    let order : List Row = inactive_order set.cursor set.inactive in
    let visited : List Row = take scans order in
    let joined = rows_append e of (reverse (those (was_set visits) visited)) set.active in
    let turned = rows_reverse e of (those (was_set visits) visited) in
    let whole = moved_where (was_set visits e) (rows_of e of set.active) (rows_of e of visited) (rows_of e of set.inactive) (rows_of e of (those (was_set visits) visited)) (rows_of e of (without_those (was_set visits) set.inactive))
    (rows_those e of (was_set visits) visited) (rows_without e of (was_set visits) set.inactive)
    (λ is.
    let there : 1 ≤ times e (elements_of visited) = subst (λ (es : List ℕ). 1 ≤ times e es) seen (seen_set visits e is) in
    let all = order_rows set.cursor set.inactive e any in
    let few : rows_of e any order ≤ 1 = omega (arith, all, once e) in
    sym (order_rows set.cursor set.inactive e of) ∙ only_there e of scans order few there) in
    omega (arith, joined, turned, whole)

pub rotation_loses : (scans : ℕ) (set : Listed) (active inactive : List Visit) → AreOnceIn set → AreRotationVisits scans set active inactive → Loses set (rotated scans set active inactive) []
unfolding rotated
rotation_loses scans set active inactive once visits =
    let first : Listed = active_rotated scans set active in
    let once_first : AreOnceIn first = λ e. omega (arith, active_loses scans set active e any, once e) in
    record {
      kept = λ e of none. inactive_loses scans first inactive once_first visits.of_inactive e of ∙ active_loses scans set active e of;
      lost = λ e of some. absurd (omega (arith, some));
      was = λ e. omega arith;
    }

-- Looks

abbrev names : List Look → List ℕ
names looks = map (λ (look : Look). look.element) looks

abbrev pub removed_ones : List Look → List ℕ
removed_ones looks = map (λ (look : Look). look.element) (filter look_removed looks)

abbrev AreToldBy : List Look → ℕ → Type 0
AreToldBy looks e = (one (found_set looks e) + times e (removed_ones looks) ≡ one (taken_off looks e)) × (one (taken_off looks e) ≤ times e (names looks))

-- one look more, by its bit and its probe
look_step : (e x : ℕ) (bit : Bool) (probed : Option Seen) (looks : List Look) → is_some probed ≡ not bit
    → times e (names ((record { element = x; bit = bit; probed = probed }) ∷ looks)) ≤ 1 → (times e (names looks) ≤ 1 → AreToldBy looks e)
    → AreToldBy ((record { element = x; bit = bit; probed = probed }) ∷ looks) e
look_step e x true (Some seen) looks fits once rest = absurd cc
look_step e x false None looks fits once rest = absurd cc
look_step e x true None looks fits once rest =
    let n : ℕ = times e (names looks) in
    let t : ℕ = times e (removed_ones looks) in
    let f : Bool = found_set looks e in
    let k : Bool = taken_off looks e in
    by_test x e (λ b. cond b (suc n) n ≤ 1 → (one ((b && true) || f) + t ≡ one ((b && true) || k)) × (one ((b && true) || k) ≤ cond b (suc n) n))
    (λ same most. let told = rest (omega (arith, most)) in (omega (arith, told.0, told.1, most), omega arith))
    (λ other most. rest most)
    once
look_step e x false (Some Removed) looks fits once rest =
    let n : ℕ = times e (names looks) in
    let t : ℕ = times e (removed_ones looks) in
    let f : Bool = found_set looks e in
    let k : Bool = taken_off looks e in
    by_test x e (λ b. cond b (suc n) n ≤ 1 → (one ((b && false) || f) + cond b (suc t) t ≡ one ((b && true) || k)) × (one ((b && true) || k) ≤ cond b (suc n) n))
    (λ same most. let told = rest (omega (arith, most)) in (omega (arith, told.0, told.1, most), omega arith))
    (λ other most. rest most)
    once
look_step e x false (Some (Held cpu)) looks fits once rest =
    let n : ℕ = times e (names looks) in
    let t : ℕ = times e (removed_ones looks) in
    let f : Bool = found_set looks e in
    let k : Bool = taken_off looks e in
    by_test x e (λ b. cond b (suc n) n ≤ 1 → (one ((b && false) || f) + t ≡ one ((b && false) || k)) × (one ((b && false) || k) ≤ cond b (suc n) n))
    (λ same most. let told = rest (omega (arith, most)) in (told.0, omega (arith, told.1)))
    (λ other most. rest most)
    once

abbrev Fits : Look → Type 0
Fits look = is_some look.probed ≡ not look.bit

looks_told : (e : ℕ) (looks : List Look) → All (λ look. is_some look.probed ≡ not look.bit) looks → times e (names looks) ≤ 1 → AreToldBy looks e
looks_told e [] probed once = (refl, omega arith)
looks_told e (look ∷ looks) probed once =
    look_step e look.element look.bit look.probed looks (All-head Fits look looks probed) once (λ most. looks_told e looks (All-tail Fits look looks probed) most)

-- what a choice is, and what it counts for
abbrev Choice : Bool → Type 0
Choice b = ((b ≡ true) × (one b ≡ 1)) ⊎ ((b ≡ false) × (one b ≡ 0))

choice : (b : Bool) → Choice b
choice true = inl (refl, refl)
choice false = inr (refl, refl)

module _ (set : Listed) (looks : List Look) (once : AreOnceIn set) (from_tail : names looks ≡ elements_of (take (length looks) (reverse set.inactive))) (probed : All (λ look. is_some look.probed ≡ not look.bit) looks) where
  abbrev walked : List Row
  walked = take (length looks) (reverse set.inactive)

  walked_times : (e : ℕ) → times e (names looks) ≡ rows_of e any walked
  walked_times e = ap (times e) from_tail ∙ sym (rows_any e walked)

  walked_few : (e : ℕ) → rows_of e any walked ≤ rows_of e any set.inactive
  walked_few e = omega (arith, rows_cut e any (length looks) (reverse set.inactive), rows_reverse e any set.inactive)

  told : (e : ℕ) → AreToldBy looks e
  told e = looks_told e looks probed (omega (arith, walked_times e, walked_few e, once e))

  looked_over : (e : ℕ) (of : ℕ → Bool) → in_set e of (after_looks set looks) ≡ (cond (found_set looks e) (rows_of e of walked) 0 + rows_of e of set.active) + cond (taken_off looks e) 0 (rows_of e of set.inactive)
  unfolding after_looks
  looked_over e of =
      omega (arith, rows_append e of (reverse (those (found_set looks) walked)) set.active, rows_reverse e of (those (found_set looks) walked), rows_those e of (found_set looks) walked, rows_without e of (taken_off looks) set.inactive)

  all_walked : (e : ℕ) (of : ℕ → Bool) → 1 ≤ times e (names looks) → rows_of e of set.inactive ≡ rows_of e of walked
  all_walked e of there =
      let few : rows_of e any (reverse set.inactive) ≤ 1 = omega (arith, rows_reverse e any set.inactive, once e) in
      let here : 1 ≤ times e (elements_of walked) = omega (arith, there, walked_times e, rows_any e walked) in
      sym (rows_reverse e of set.inactive) ∙ only_there e of (length looks) (reverse set.inactive) few here

  both_where : (e : ℕ) (of : ℕ → Bool) (f k : Bool) (walked_n active inactive : ℕ) → Choice f → Choice k → one f ≡ one k → (k ≡ true → inactive ≡ walked_n) → (cond f walked_n 0 + active) + cond k 0 inactive ≡ active + inactive
  both_where e of true true walked_n active inactive f_is k_is same moved = omega (arith, moved refl)
  both_where e of true false walked_n active inactive f_is k_is same moved = absurd (omega (arith, same))
  both_where e of false true walked_n active inactive f_is k_is same moved = absurd (omega (arith, same))
  both_where e of false false walked_n active inactive f_is k_is same moved = omega arith

  gone_where : (f k : Bool) (walked_n active inactive : ℕ) → one f ≡ 0 → one k ≡ 1 → active ≡ 0 → (cond f walked_n 0 + active) + cond k 0 inactive ≡ 0
  gone_where true k walked_n active inactive f_is k_is none = absurd (omega (arith, f_is))
  gone_where false true walked_n active inactive f_is k_is none = omega (arith, none)
  gone_where false false walked_n active inactive f_is k_is none = absurd (omega (arith, k_is))

  one_most : (b : Bool) → one b ≤ 1
  one_most true = omega arith
  one_most false = omega arith

  is_one : (b : Bool) → b ≡ true → one b ≡ 1
  is_one b same = ap one same

  looks_lose : Loses set (after_looks set looks) (removed_ones looks)
  looks_lose = record {
    kept = λ e of none.
        looked_over e of ∙ both_where e of (found_set looks e) (taken_off looks e) (rows_of e of walked) (rows_of e of set.active) (rows_of e of set.inactive) (choice _) (choice _) (omega (arith, (told e).0, none))
        (λ off. all_walked e of (omega (arith, is_one (taken_off looks e) off, (told e).1)));
    lost = λ e of some.
        let most = one_most (taken_off looks e) in
        let tells = told e in
        let none : rows_of e of set.active ≡ 0 = omega (arith, tells.0, tells.1, some, walked_times e, walked_few e, once e, rows_any e set.active, rows_least e of set.active) in
        looked_over e of ∙ gone_where (found_set looks e) (taken_off looks e) (rows_of e of walked) (rows_of e of set.active) (rows_of e of set.inactive) (omega (arith, tells.0, some, most)) (omega (arith, tells.0, some, most)) none;
    was = λ e. omega (arith, (told e).0, (told e).1, walked_times e, walked_few e);
  }

-- Tries

abbrev tried_names : List Try → List ℕ
tried_names tries = map (λ (try : Try). try.element) tries

abbrev pub removed_by_force : List Try → List ℕ
removed_by_force tries = map (λ (try : Try). try.element) (filter try_removed tries)

abbrev AreForced : List Try → ℕ → Type 0
AreForced tries e = (times e (removed_by_force tries) ≡ one (forced_out tries e)) × (one (forced_out tries e) ≤ times e (tried_names tries))

try_step : (e x : ℕ) (seen : Seen) (tries : List Try) → times e (tried_names ((record { element = x; probed = seen }) ∷ tries)) ≤ 1 → (times e (tried_names tries) ≤ 1 → AreForced tries e)
    → AreForced ((record { element = x; probed = seen }) ∷ tries) e
try_step e x Removed tries once rest =
    let n : ℕ = times e (tried_names tries) in
    let t : ℕ = times e (removed_by_force tries) in
    let f : Bool = forced_out tries e in
    by_test x e (λ b. cond b (suc n) n ≤ 1 → (cond b (suc t) t ≡ one ((b && true) || f)) × (one ((b && true) || f) ≤ cond b (suc n) n))
    (λ same most. let forced = rest (omega (arith, most)) in (omega (arith, forced.0, forced.1, most), omega arith))
    (λ other most. rest most)
    once
try_step e x (Held cpu) tries once rest =
    let n : ℕ = times e (tried_names tries) in
    let t : ℕ = times e (removed_by_force tries) in
    let f : Bool = forced_out tries e in
    by_test x e (λ b. cond b (suc n) n ≤ 1 → (t ≡ one ((b && false) || f)) × (one ((b && false) || f) ≤ cond b (suc n) n))
    (λ same most. let forced = rest (omega (arith, most)) in (forced.0, omega (arith, forced.1)))
    (λ other most. rest most)
    once

tries_forced : (e : ℕ) (tries : List Try) → times e (tried_names tries) ≤ 1 → AreForced tries e
tries_forced e [] once = (refl, omega arith)
tries_forced e (try ∷ tries) once = try_step e try.element try.probed tries once (λ most. tries_forced e tries most)

pub out_where : (b : Bool) (active inactive m n : ℕ) → m ≡ cond b 0 active → n ≡ cond b 0 inactive → m + n ≡ cond b 0 (active + inactive)
out_where true active inactive m n p q = omega (arith, p, q)
out_where false active inactive m n p q = omega (arith, p, q)

tried_over : (set : Listed) (tries : List Try) (e : ℕ) (of : ℕ → Bool) → in_set e of (after_tries set tries) ≡ cond (forced_out tries e) 0 (in_set e of set)
unfolding after_tries
tried_over set tries e of =
    out_where (forced_out tries e) (rows_of e of set.active) (rows_of e of set.inactive) _ _ (rows_without e of (forced_out tries) set.active) (rows_without e of (forced_out tries) set.inactive)

when_not : (b : Bool) (n : ℕ) → one b ≡ 0 → cond b 0 n ≡ n
when_not true n none = absurd (omega (arith, none))
when_not false n none = refl

when_so : (b : Bool) (n : ℕ) → 1 ≤ one b → cond b 0 n ≡ 0
when_so true n some = refl
when_so false n some = absurd (omega (arith, some))

tries_lose : (set : Listed) (tries : List Try) → AreOnceIn set → ((e : ℕ) → times e (tried_names tries) ≤ in_set e any set) → Loses set (after_tries set tries) (removed_by_force tries)
tries_lose set tries once there = record {
  kept = λ e of none. tried_over set tries e of ∙ when_not (forced_out tries e) (in_set e of set) (omega (arith, (tries_forced e tries (omega (arith, there e, once e))).0, none));
  lost = λ e of some. tried_over set tries e of ∙ when_so (forced_out tries e) (in_set e of set) (omega (arith, (tries_forced e tries (omega (arith, there e, once e))).0, some));
  was = λ e. let forced = tries_forced e tries (omega (arith, there e, once e)) in omega (arith, forced.0, forced.1, there e);
}

forced_there : (set : Listed) (tries : List Try) (e : ℕ) → AreTries set tries → times e (tried_names tries) ≤ in_set e any set
forced_there set tries e are =
    let rows : List Row = forced_rows set in
    let named : times e (tried_names tries) ≡ rows_of e any (take (length tries) (reverse rows)) = ap (times e) are.from_tail ∙ sym (rows_any e (take (length tries) (reverse rows))) in
    omega (arith, named, rows_cut e any (length tries) (reverse rows), rows_reverse e any rows, of_either (eqb (length set.inactive) 0))
  where
    of_either : (b : Bool) → rows_of e any (cond b set.active set.inactive) ≤ in_set e any set
    of_either true = omega arith
    of_either false = omega arith

-- A shrink

pub shrink_loses : (scans target : ℕ) (set : Listed) (looks : List Look) (forced : List Try) → AreOnceIn set → IsShrink scans target set looks forced → Loses set (shrunk set looks forced) (freed looks forced)
unfolding shrunk
shrink_loses scans target set looks forced once is =
    let after : Listed = after_looks set looks in
    let looked = looks_lose set looks once is.looked.from_tail is.looked.probed in
    let once_then = once_after set after (removed_ones looks) looked once in
    loses_both set after (after_tries after forced) (removed_ones looks) (removed_by_force forced) looked
    (tries_lose after forced once_then (λ e. there e (eqb (count_by look_removed looks) 0) is.tried))
  where
    there : (e : ℕ) (none : Bool) → MatchBool none (AreTries (after_looks set looks) forced) (forced ≡ []) → times e (tried_names forced) ≤ in_set e any (after_looks set looks)
    there e true tried = forced_there (after_looks set looks) forced e tried
    there e false tried = let empty : times e (tried_names forced) ≡ 0 = ap (λ (tries : List Try). times e (tried_names tries)) tried in omega (arith, empty)
