-- Turns whose tickets ascend: such lists are one where they have the same members.
use Rattle.std.proofs.Common.{◌≡◌, inl, inr, ℕ, zero, suc, ◌+◌, ◌≤◌, Bool, true, false, cond, List, [], ◌∷◌, refl, ap, sym, ◌∙◌, subst, arith}
use Rattle.std.specs.Prelude.{filter}
use Rattle.std.specs.List.{range_with_len}
use Rattle.place_words.specs.Interleaving.{Drawn, tickets_of}
use Rattle.place_words.specs.Tickets.{AscendIn}
use Rattle.place_words.proofs.Ascending.{ascend_from}
use Rattle.turn_order.proofs.Members.{IsAmong}

-- a turn's ticket is at least the first one's, and below the bound
pub ticket_from : (from : ℕ) (xs : List Drawn) (to : ℕ) (z : Drawn) → AscendIn from (tickets_of xs) to → IsAmong z xs → from ≤ z.entry.ticket
ticket_from from [] to z ascend there = absurd there
ticket_from from (x ∷ xs) to z ascend (inl same) = subst (λ (w : Drawn). from ≤ w.entry.ticket) same ascend.0
ticket_from from (x ∷ xs) to z ascend (inr later) = let low : from ≤ x.entry.ticket = ascend.0 in let rest = ticket_from (suc x.entry.ticket) xs to z ascend.1 later in omega arith

pub from_low : (low from : ℕ) (xs : List Drawn) (to : ℕ) → low ≤ from → AscendIn from (tickets_of xs) to → AscendIn low (tickets_of xs) to
from_low low from xs to less ascend = ascend_from low from (tickets_of xs) to less ascend

pub ascend_filter : (p : Drawn → Bool) (from : ℕ) (xs : List Drawn) (to : ℕ) → AscendIn from (tickets_of xs) to → AscendIn from (tickets_of (filter p xs)) to
ascend_filter p from [] to ascend = ascend
ascend_filter p from (x ∷ xs) to ascend = by (p x) (ascend_filter p (suc x.entry.ticket) xs to ascend.1)
  where
    by : (b : Bool) → AscendIn (suc x.entry.ticket) (tickets_of (filter p xs)) to → AscendIn from (tickets_of (cond b (x ∷ filter p xs) (filter p xs))) to
    by true rest = (ascend.0, rest)
    by false rest = let low : from ≤ x.entry.ticket = ascend.0 in from_low from (suc x.entry.ticket) (filter p xs) to (omega arith) rest

pub range_ascends : (from n : ℕ) → AscendIn from (range_with_len from n) (from + n)
range_ascends from zero = omega arith
range_ascends from (suc n) =
    let one : from + 1 ≡ suc from = omega arith in
    let end : (from + 1) + n ≡ from + suc n = omega arith in
    (omega arith, subst (λ (to : ℕ). AscendIn (suc from) (range_with_len (from + 1) n) to) end (subst (λ (low : ℕ). AscendIn low (range_with_len (from + 1) n) ((from + 1) + n)) one (range_ascends (from + 1) n)))

-- what isn't first comes later
later_than : (from : ℕ) (x : Drawn) (ys : List Drawn) (to : ℕ) (z : Drawn) → AscendIn (suc x.entry.ticket) (tickets_of ys) to → IsAmong z ys → x ≡ z → ⊥
later_than from x ys to z ascend there same = let after = ticket_from (suc x.entry.ticket) ys to z ascend there in let equal : x.entry.ticket ≡ z.entry.ticket = ap (λ (w : Drawn). w.entry.ticket) same in absurd (omega arith)

first_same : (x y : Drawn) (xs ys : List Drawn) (to : ℕ) → AscendIn (suc x.entry.ticket) (tickets_of xs) to → AscendIn (suc y.entry.ticket) (tickets_of ys) to → IsAmong x (y ∷ ys) → IsAmong y (x ∷ xs) → x ≡ y
first_same x y xs ys to one other (inl same) back = sym same
first_same x y xs ys to one other (inr later) (inl same) = same
first_same x y xs ys to one other (inr later) (inr earlier) =
    let above = ticket_from (suc y.entry.ticket) ys to x other later in let below = ticket_from (suc x.entry.ticket) xs to y one earlier in absurd (omega arith)

pub one_list : (low from : ℕ) (xs ys : List Drawn) (to : ℕ) → AscendIn low (tickets_of xs) to → AscendIn from (tickets_of ys) to
    → ((z : Drawn) → IsAmong z xs → IsAmong z ys) → ((z : Drawn) → IsAmong z ys → IsAmong z xs) → xs ≡ ys
one_list low from [] [] to one other there back = refl
one_list low from [] (y ∷ ys) to one other there back = absurd (back y (inl refl))
one_list low from (x ∷ xs) [] to one other there back = absurd (there x (inl refl))
one_list low from (x ∷ xs) (y ∷ ys) to one other there back =
    let same : x ≡ y = first_same x y xs ys to one.1 other.1 (there x (inl refl)) (back y (inl refl)) in
    ap (λ (l : List Drawn). x ∷ l) (one_list (suc x.entry.ticket) (suc y.entry.ticket) xs ys to one.1 other.1 (λ z inside. forth z inside (there z (inr inside)) same) (λ z inside. back_on z inside (back z (inr inside)) same)) ∙ ap (λ (w : Drawn). w ∷ ys) same
  where
    forth : (z : Drawn) → IsAmong z xs → IsAmong z (y ∷ ys) → x ≡ y → IsAmong z ys
    forth z inside (inl first) same = absurd (later_than low x xs to z one.1 inside (same ∙ first))
    forth z inside (inr later) same = later

    back_on : (z : Drawn) → IsAmong z ys → IsAmong z (x ∷ xs) → x ≡ y → IsAmong z xs
    back_on z inside (inl first) same = absurd (later_than from y ys to z other.1 inside (sym same ∙ first))
    back_on z inside (inr later) same = later

-- With the same tickets one inclusion is enough.
pub one_by_tickets : (low from : ℕ) (xs ys : List Drawn) (to : ℕ) → AscendIn low (tickets_of xs) to → AscendIn from (tickets_of ys) to → tickets_of xs ≡ tickets_of ys
    → ((z : Drawn) → IsAmong z xs → IsAmong z ys) → xs ≡ ys
one_by_tickets low from [] [] to one other tickets there = refl
one_by_tickets low from [] (y ∷ ys) to one other tickets there = absurd cc
one_by_tickets low from (x ∷ xs) [] to one other tickets there = absurd cc
one_by_tickets low from (x ∷ xs) (y ∷ ys) to one other tickets there =
    let same : x ≡ y = first (there x (inl refl)) in
    ap (λ (l : List Drawn). x ∷ l) (one_by_tickets (suc x.entry.ticket) (suc y.entry.ticket) xs ys to one.1 other.1 (let rest : tickets_of xs ≡ tickets_of ys = cc in rest) (λ z inside. forth z inside (there z (inr inside)) same)) ∙ ap (λ (w : Drawn). w ∷ ys) same
  where
    first : IsAmong x (y ∷ ys) → x ≡ y
    first (inl is) = sym is
    first (inr later) = let above = ticket_from (suc y.entry.ticket) ys to x other.1 later in let equal : x.entry.ticket ≡ y.entry.ticket = cc in absurd (omega arith)

    forth : (z : Drawn) → IsAmong z xs → IsAmong z (y ∷ ys) → x ≡ y → IsAmong z ys
    forth z inside (inl is) same = absurd (later_than low x xs to z one.1 inside (same ∙ is))
    forth z inside (inr later) same = later
