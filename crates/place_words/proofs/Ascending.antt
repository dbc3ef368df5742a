-- Numbers that ascend, and the tickets of turns in their order.
use Rattle.std.proofs.Common.{◌≡◌, ℕ, zero, suc, ◌<◌, ◌≤◌, cond, List, [], ◌∷◌, ◌++◌, refl, ap, ◌∙◌, subst, arith, Some}
use Rattle.std.specs.Prelude.{slice_get}
use Rattle.std.proofs.lemmas.Option.{none-some, same_Some}
use Rattle.map_types.specs.ElementLists.{times}
use Rattle.map_types.proofs.RowLemmas.{by_test}
use Rattle.place_words.specs.declared.history.Entry.{Entry}
use Rattle.place_words.specs.Tickets.{AscendIn, tickets_of}

pub ascend_to : (from : ℕ) (xs : List ℕ) (to more : ℕ) → to ≤ more → AscendIn from xs to → AscendIn from xs more
ascend_to from [] to more less are = let low : from ≤ to = are in omega arith
ascend_to from (x ∷ xs) to more less are = (are.0, ascend_to (suc x) xs to more less are.1)

pub ascend_from : (low from : ℕ) (xs : List ℕ) (to : ℕ) → low ≤ from → AscendIn from xs to → AscendIn low xs to
ascend_from low from [] to less are = let within : from ≤ to = are in omega arith
ascend_from low from (x ∷ xs) to less are = let first : from ≤ x = are.0 in (omega arith, are.1)

-- one after the other
pub ascend_on : (from middle to : ℕ) (xs ys : List ℕ) → AscendIn from xs middle → AscendIn middle ys to → AscendIn from (xs ++ ys) to
ascend_on from middle to [] ys are more = ascend_from from middle ys to are more
ascend_on from middle to (x ∷ xs) ys are more = (are.0, ascend_on (suc x) middle to xs ys are.1 more)

pub ascend_more : (from : ℕ) (xs : List ℕ) (to x more : ℕ) → to ≤ x → x < more → AscendIn from xs to → AscendIn from (xs ++ x ∷ []) more
ascend_more from [] to x more low high are = let first : from ≤ to = are in (omega arith, omega arith)
ascend_more from (y ∷ ys) to x more low high are = (are.0, ascend_more (suc y) ys to x more low high are.1)

pub ascend_within : (from : ℕ) (xs : List ℕ) (to : ℕ) → AscendIn from xs to → from ≤ to
ascend_within from [] to are = are
ascend_within from (x ∷ xs) to are = let low : from ≤ x = are.0 in let rest : suc x ≤ to = ascend_within (suc x) xs to are.1 in omega arith

pub tickets_more : (xs : List Entry) (e : Entry) → tickets_of (xs ++ e ∷ []) ≡ tickets_of xs ++ e.ticket ∷ []
tickets_more [] e = refl
tickets_more (x ∷ xs) e = ap (λ (l : List ℕ). x.ticket ∷ l) (tickets_more xs e)

pub tickets_append : (xs ys : List Entry) → tickets_of (xs ++ ys) ≡ tickets_of xs ++ tickets_of ys
tickets_append [] ys = refl
tickets_append (x ∷ xs) ys = ap (λ (l : List ℕ). x.ticket ∷ l) (tickets_append xs ys)

-- the ticket at a place is below
pub ticket_below : (from : ℕ) (xs : List Entry) (to place : ℕ) (e : Entry) → AscendIn from (tickets_of xs) to → slice_get xs place ≡ Some e → e.ticket < to
ticket_below from [] to place e are at = absurd (none-some e at)
ticket_below from (x ∷ xs) to zero e are at = let rest : suc x.ticket ≤ to = ascend_within (suc x.ticket) (tickets_of xs) to are.1 in subst (λ (z : Entry). z.ticket < to) (same_Some x e at) rest
ticket_below from (x ∷ xs) to (suc place) e are at = ticket_below (suc x.ticket) xs to place e are.1 at

-- Each stands once

pub none_before : (t from : ℕ) (xs : List ℕ) (to : ℕ) → AscendIn from xs to → t < from → times t xs ≡ 0
none_before t from [] to are less = refl
none_before t from (x ∷ xs) to are less =
    let low : from ≤ x = are.0 in
    by_test x t (λ b. cond b (suc (times t xs)) (times t xs) ≡ 0) (λ same. absurd (omega (arith, same, low, less))) (λ _. none_before t (suc x) xs to are.1 (omega arith))

pub none_past : (t from : ℕ) (xs : List ℕ) (to : ℕ) → AscendIn from xs to → to ≤ t → times t xs ≡ 0
none_past t from [] to are past = refl
none_past t from (x ∷ xs) to are past =
    by_test x t (λ b. cond b (suc (times t xs)) (times t xs) ≡ 0) (λ same. absurd (let less = ascend_within (suc x) xs to are.1 in omega (arith, same, less, past))) (λ _. none_past t (suc x) xs to are.1 past)

-- one that stands at a place stands once
pub one_there : (t from : ℕ) (xs : List Entry) (to place : ℕ) (e : Entry) → AscendIn from (tickets_of xs) to → slice_get xs place ≡ Some e → e.ticket ≡ t → times t (tickets_of xs) ≡ 1
one_there t from [] to place e are at is = absurd (none-some e at)
one_there t from (x ∷ xs) to zero e are at is =
    let same : x.ticket ≡ t = ap (λ (z : Entry). z.ticket) (same_Some x e at) ∙ is in
    by_test x.ticket t (λ b. cond b (suc (times t (tickets_of xs))) (times t (tickets_of xs)) ≡ 1)
    (λ _. ap suc (none_before t (suc x.ticket) (tickets_of xs) to are.1 (omega (arith, same)))) (λ other. absurd (other same))
one_there t from (x ∷ xs) to (suc place) e are at is =
    let rest = one_there t (suc x.ticket) xs to place e are.1 at is in
    by_test x.ticket t (λ b. cond b (suc (times t (tickets_of xs))) (times t (tickets_of xs)) ≡ 1)
    (λ same. let none = none_before t (suc x.ticket) (tickets_of xs) to are.1 (omega (arith, same)) in absurd (omega (arith, none, rest))) (λ _. rest)

-- the place of one that stands there
pub record Found (t : ℕ) (xs : List Entry) : Type 0 where
  pub place : ℕ
  pub entry : Entry
  pub at : slice_get xs place ≡ Some entry
  pub ticket_is : entry.ticket ≡ t

pub found_in : (t : ℕ) (xs : List Entry) → 0 < times t (tickets_of xs) → Found t xs
found_in t [] inside = absurd (omega arith)
found_in t (x ∷ xs) inside =
    by_test x.ticket t (λ b. 0 < cond b (suc (times t (tickets_of xs))) (times t (tickets_of xs)) → Found t (x ∷ xs))
    (λ same _. record { place = 0; entry = x; at = refl; ticket_is = same })
    (λ _ later. let rest = found_in t xs later in record { place = suc rest.place; entry = rest.entry; at = rest.at; ticket_is = rest.ticket_is }) inside
