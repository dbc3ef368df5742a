-- Both parts of a rotation together.
use Rattle.std.proofs.Common.{◌≡◌, ℕ, suc, ◌-◌, ◌*◌, ◌<◌, ◌≤◌, Bool, true, false, cond, ltb, List, [], ◌∷◌, ◌++◌, reverse, length, take, drop, refl, ap, ◌∙◌, sym, arith}
use Rattle.std.specs.Prelude.{IsPermutation}
use Rattle.std.proofs.lemmas.List.{append_assoc, map-append, take-append-drop, drop_min, length-take, length-map, length-append}
use Rattle.map_types.specs.ElementLists.{times, IsIn}
use Rattle.map_types.specs.declared.row.Row.{Row}
use Rattle.place_words.specs.declared.visits.Visit.{Visit}
use Rattle.map_types.specs.Listed.{Listed, elements_of}
use Rattle.place_words.specs.Rotation.{visited_elements, active_visited, active_rotated, inactive_order, inactive_visited, inactive_rotated, rotated}
use Rattle.place_words.proofs.CostLemmas.{few_inactive}
use Rattle.map_types.proofs.RowLemmas.{by_test, times_rows-append}
use Rattle.lru_lists.specs.declared.bits.BitCall.{BitCall}
use Rattle.lru_lists.specs.declared.bits.BitCall.TheVariants.{Cleared}
use Rattle.lru_lists.specs.declared.notes.Noted.{Noted}
use Rattle.lru_lists.specs.declared.notes.RotateNotes.{RotateNotes}
use Rattle.lru_lists.specs.Sets.{SetView, IsSet, IsListed, listed, with_listed}
use Rattle.lru_rotate.specs.Asking.{bit_after}
use Rattle.lru_rotate.specs.Rotating.{cleared, ActivePart, InactivePart, Rotation}
use Rattle.lru_rotate.proofs.ActiveSteps.{inactive_once}
use Rattle.lru_rotate.proofs.ActiveSteps as first
use Rattle.lru_rotate.proofs.InactiveStep as second
use Rattle.lru_rotate.proofs.RowsStay.{active_rows_stay, inactive_rows_stay, times_permuted}

part_of : (b : Bool) (scans : ℕ) (order : List Row) → order ≡ cond b (take scans order) [] ++ drop (length (cond b (take scans order) [])) order
part_of true scans order = sym (rw (length-take scans order, drop_min scans order) (take-append-drop scans order))
part_of false scans order = refl

active_order : (scans : ℕ) (set : Listed) → reverse set.active ≡ active_visited scans set ++ drop (length (active_visited scans set)) (reverse set.active)
unfolding active_visited
active_order scans set = part_of (ltb (length set.inactive) (length set.active)) scans (reverse set.active)

inactive_walk : (scans : ℕ) (set : Listed) → inactive_order set.cursor set.inactive ≡ inactive_visited scans set ++ drop scans (inactive_order set.cursor set.inactive)
unfolding inactive_visited
inactive_walk scans set = sym (take-append-drop scans (inactive_order set.cursor set.inactive))

short_part : (b : Bool) (scans : ℕ) (order : List Row) → length (cond b (take scans order) []) ≤ scans
short_part true scans order = omega (arith, length-take scans order)
short_part false scans order = omega arith

active_few : (scans : ℕ) (set : Listed) → length (active_visited scans set) ≤ scans
unfolding active_visited
active_few scans set = short_part (ltb (length set.inactive) (length set.active)) scans (reverse set.active)

-- as many visits as rows
many_visits : (visits : List Visit) (rows : List Row) → visited_elements visits ≡ elements_of rows → length visits ≡ length rows
many_visits visits rows seen = omega (arith, ap length seen, length-map visits (λ v. v.element), length-map rows (λ r. r.element))

module _ (scans : ℕ) (before after : SetView) (calls calls_after : List BitCall) (notes notes_after : Noted Visit) where
  pub active_part_few : (part : ActivePart scans before after calls calls_after notes notes_after) → length part.visits ≤ scans
  active_part_few part = omega (arith, many_visits part.visits (active_visited scans (listed before)) part.visited, active_few scans (listed before))

  pub inactive_part_few : (part : InactivePart scans before after calls calls_after notes notes_after) → length part.visits ≤ scans
  inactive_part_few part = omega (arith, many_visits part.visits (inactive_visited scans (listed before)) part.visited, few_inactive scans (listed before))

  pub active_part_rows : ActivePart scans before after calls calls_after notes notes_after → IsPermutation (before.active ++ before.inactive) (after.active ++ after.inactive)
  active_part_rows part =
      let stay = active_rows_stay before.active before.inactive (active_visited scans (listed before)) (drop (length (active_visited scans (listed before))) (reverse before.active)) part.visits (active_order scans (listed before)) in
      rw (part.set, first.rotated_by scans (listed before) part.visits (active_visited scans (listed before)) refl) stay

  pub inactive_part_rows : IsSet before → InactivePart scans before after calls calls_after notes notes_after → IsPermutation (before.active ++ before.inactive) (after.active ++ after.inactive)
  inactive_part_rows whole part =
      let stay = inactive_rows_stay before.active before.inactive (inactive_visited scans (listed before)) (drop scans (inactive_order before.cursor before.inactive)) before.cursor part.visits (inactive_once before whole) (inactive_walk scans (listed before)) part.visited in
      rw (part.set, second.rotated_by scans (listed before) part.visits (inactive_visited scans (listed before)) refl) stay

  -- what is inactive after the first part was listed before
  pub was_listed : ActivePart scans before after calls calls_after notes notes_after → (e : ℕ) → IsIn e (elements_of after.inactive) → IsListed e before
  was_listed part e is =
      let same = times_permuted e (before.active ++ before.inactive) (after.active ++ after.inactive) (active_part_rows part) in
      omega (arith, is, same, times_rows-append e before.active before.inactive, times_rows-append e after.active after.inactive)

bit_stays_unset : (e : ℕ) (visits : List Visit) → bit_after e false (cleared visits) ≡ false
bit_stays_unset e [] = refl
bit_stays_unset e (visit ∷ visits) = by_test visit.element e (λ b. bit_after e (cond b false false) (cleared visits) ≡ false) (λ _. bit_stays_unset e visits) (λ _. bit_stays_unset e visits)

-- each visited element's bit is unset, and each other one is as it was
pub bit_unset : (e : ℕ) (bit : Bool) (visits : List Visit) → IsIn e (visited_elements visits) → bit_after e bit (cleared visits) ≡ false
bit_unset e bit [] is = absurd (omega arith)
bit_unset e bit (visit ∷ visits) is =
    let rest : ℕ = times e (visited_elements visits) in
    by_test visit.element e (λ b. 0 < cond b (suc rest) rest → bit_after e (cond b false bit) (cleared visits) ≡ false)
    (λ _ _. bit_stays_unset e visits)
    (λ _ later. bit_unset e bit visits later)
    is

pub bit_kept : (e : ℕ) (bit : Bool) (visits : List Visit) → times e (visited_elements visits) ≡ 0 → bit_after e bit (cleared visits) ≡ bit
bit_kept e bit [] none = refl
bit_kept e bit (visit ∷ visits) none =
    let rest : ℕ = times e (visited_elements visits) in
    by_test visit.element e (λ b. cond b (suc rest) rest ≡ 0 → bit_after e (cond b false bit) (cleared visits) ≡ bit)
    (λ _ some. absurd (omega arith))
    (λ _ later. bit_kept e bit visits later)
    none

pub rotation_of : (scans : ℕ) (before mid after : SetView) (calls calls_mid calls_after : List BitCall) (notes notes_after : RotateNotes)
    → ActivePart scans before mid calls calls_mid notes.active notes_after.active → InactivePart scans mid after calls_mid calls_after notes.inactive notes_after.inactive
    → Rotation scans before after calls calls_after notes notes_after
unfolding rotated
rotation_of scans before mid after calls calls_mid calls_after notes notes_after one other =
    let between : listed mid ≡ active_rotated scans (listed before) one.visits = ap listed one.set in
    record {
      active = one.visits;
      inactive = other.visits;
      visits = record { of_active = one.visited; of_inactive = other.visited ∙ ap (λ (s : Listed). elements_of (inactive_visited scans s)) between };
      set = other.set ∙ ap (λ (s : SetView). with_listed (inactive_rotated scans (listed s) other.visits) s) one.set;
      asked = other.asked ∙ ap (λ (xs : List BitCall). xs ++ cleared other.visits) one.asked ∙ append_assoc calls (cleared one.visits) (cleared other.visits) ∙ ap (λ (xs : List BitCall). calls ++ xs) (sym (map-append (λ v. Cleared v) one.visits other.visits));
      noted_active = one.noted;
      noted_inactive = other.noted;
      few = omega (arith, active_part_few scans before mid calls calls_mid notes.active notes_after.active one, inactive_part_few scans mid after calls_mid calls_after notes.inactive notes_after.inactive other);
      unset = λ e bit is. bit_unset e bit (one.visits ++ other.visits) is;
      others = λ e bit none. bit_kept e bit (one.visits ++ other.visits) none;
    }

-- of calls that may be noted, those of the second part
pub made_few : (scans : ℕ) (before after : SetView) (calls calls_after : List BitCall) (notes notes_after : Noted Visit) → ActivePart scans before after calls calls_after notes notes_after → scans ≤ 2 * scans - (length calls_after - length calls)
made_few scans before after calls calls_after notes notes_after part =
    omega (arith, active_part_few scans before after calls calls_after notes notes_after part, ap length part.asked, length-append calls (cleared part.visits), length-map part.visits (λ v. Cleared v))
