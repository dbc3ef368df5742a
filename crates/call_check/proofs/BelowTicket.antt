-- Turns and entries below a ticket, against those in the order of all tickets.
use Rattle.std.proofs.Common.{◌≡◌, ◌⊎◌, inl, inr, ℕ, zero, suc, ◌+◌, ◌-◌, ◌<◌, ◌≤◌, Bool, true, false, cond, eqb, ltb, List, [], ◌∷◌, ◌++◌, refl, ap, sym, ◌∙◌, subst, arith}
use Rattle.std.specs.Prelude.{filter, Some, slice_get, take}
use Rattle.std.specs.List.{flat_map, range_with_len}
use Rattle.std.proofs.lemmas.Bool.{cond-true, cond-false, eq-eqb, eqb-true, lt-ltb, le-ltb, ne_eqb, cases_eq, cases_lt}
use Rattle.std.proofs.lemmas.Grind.{flat_map-append}
use Rattle.std.proofs.lemmas.List.{append-nil}
use Rattle.std.proofs.lemmas.List.Elements.{filter-append}
use Rattle.place_words.specs.declared.history.Entry.{Entry}
use Rattle.place_words.specs.declared.history.LockHistory.{LockHistory}
use Rattle.place_words.specs.Interleaving.{Drawn}
use Rattle.place_words.specs.Phases.{drawn_before}
use Rattle.place_words.specs.Tickets as by_entry
use Rattle.place_words.specs.Tickets.{AscendIn}
use Rattle.turn_order.specs.Ordered.{all_drawn, with_ticket, ordered}
use Rattle.turn_order.specs.OrderLaws.{turn_count, AreDrawnOnce}
use Rattle.turn_order.proofs.Members.{IsAmong, flat_among, filter_among}
use Rattle.turn_order.proofs.TicketOrder.{all_ordered, ordered_all}
use Rattle.call_check.proofs.PlacedTurns.{take_drawn}
use Rattle.call_check.proofs.Filtered.{keeps_all, keeps_none}
use Rattle.call_check.specs.RightCalls.{entries_below, ticket_bound}

-- the turns below a ticket, those of a call, and those of the calls before one, call after call, each by its tickets
abbrev pub drawn_below : ℕ → List Drawn → List Drawn
drawn_below ticket turns = flat_map (λ t. with_ticket t turns) (range_with_len 0 ticket)

abbrev pub drawn_of : ℕ → List Drawn → List Drawn
drawn_of number turns = filter (λ (drawn : Drawn). eqb drawn.entry.call number) turns

abbrev pub drawn_earlier : ℕ → List Drawn → List Drawn
drawn_earlier number turns = flat_map (λ n. drawn_below ticket_bound (drawn_of n turns)) (range_with_len 0 number)

-- Ranges

pub range_split : (from a b : ℕ) → range_with_len from (a + b) ≡ range_with_len from a ++ range_with_len (from + a) b
range_split from zero b =
    let none : 0 + b ≡ b = omega arith in
    let same : from ≡ from + 0 = omega arith in
    ap (range_with_len from) none ∙ ap (λ (k : ℕ). range_with_len k b) same
range_split from (suc a) b =
    let one : (suc a) + b ≡ suc (a + b) = omega arith in
    let next : (from + 1) + a ≡ from + suc a = omega arith in
    ap (range_with_len from) one ∙ ap (λ (l : List ℕ). from ∷ l) (range_split (from + 1) a b ∙ ap (λ (k : ℕ). range_with_len (from + 1) a ++ range_with_len k b) next)

pub range_among : (from n t : ℕ) → IsAmong t (range_with_len from n) → (from ≤ t) × (t < from + n)
range_among from zero t there = absurd there
range_among from (suc n) t (inl same) = (omega (arith, same), omega (arith, same))
range_among from (suc n) t (inr later) = let rest = range_among (from + 1) n t later in (omega (arith, rest.0), omega (arith, rest.1))

pub none_among : {A : Type 0} (xs : List A) → ((x : A) → IsAmong x xs → ⊥) → xs ≡ []
none_among [] none = refl
none_among (x ∷ xs) none = absurd (none x (inl refl))

-- Entries of one history

abbrev entries_between : ℕ → ℕ → List Entry → List Entry
entries_between from n entries = flat_map (λ t. filter (λ (entry : Entry). eqb entry.ticket t) entries) (range_with_len from n)

none_lower : (t from : ℕ) (xs : List Entry) (to : ℕ) → t ≤ from → AscendIn from (by_entry.tickets_of xs) to → drawn_before t xs ≡ []
none_lower t from [] to low ascend = refl
none_lower t from (x ∷ xs) to low ascend =
    let first : from ≤ x.ticket = ascend.0 in
    cond-false (ltb x.ticket t) (x ∷ drawn_before t xs) (drawn_before t xs) (le-ltb x.ticket t (omega (arith, first, low))) ∙ none_lower t (suc x.ticket) xs to (omega (arith, first, low)) ascend.1

none_with : (t from : ℕ) (xs : List Entry) (to : ℕ) → t < from → AscendIn from (by_entry.tickets_of xs) to → filter (λ (entry : Entry). eqb entry.ticket t) xs ≡ []
none_with t from [] to low ascend = refl
none_with t from (x ∷ xs) to low ascend =
    let first : from ≤ x.ticket = ascend.0 in
    cond-false (eqb x.ticket t) (x ∷ filter (λ (entry : Entry). eqb entry.ticket t) xs) (filter (λ (entry : Entry). eqb entry.ticket t) xs) (ne_eqb x.ticket t (λ same. absurd (omega (arith, same, first, low))))
    ∙ none_with t (suc x.ticket) xs to (omega (arith, first, low)) ascend.1

none_between : (from n : ℕ) → entries_between from n [] ≡ []
none_between from zero = refl
none_between from (suc n) = none_between (from + 1) n

-- an entry below the range is in none of it
first_off : (from n : ℕ) (x : Entry) (xs : List Entry) → x.ticket < from → entries_between from n (x ∷ xs) ≡ entries_between from n xs
first_off from zero x xs low = refl
first_off from (suc n) x xs low =
    ap (λ (l : List Entry). l ++ entries_between (from + 1) n (x ∷ xs))
    (cond-false (eqb x.ticket from) (x ∷ filter (λ (entry : Entry). eqb entry.ticket from) xs) (filter (λ (entry : Entry). eqb entry.ticket from) xs) (ne_eqb x.ticket from (λ same. absurd (omega (arith, same, low)))))
    ∙ ap (λ (l : List Entry). filter (λ (entry : Entry). eqb entry.ticket from) xs ++ l) (first_off (from + 1) n x xs (omega (arith, low)))

between_is : (from n : ℕ) (xs : List Entry) (to : ℕ) → AscendIn from (by_entry.tickets_of xs) to → entries_between from n xs ≡ drawn_before (from + n) xs
between_is from zero xs to ascend = sym (none_lower (from + 0) from xs to (omega arith) ascend)
between_is from (suc n) [] to ascend = none_between (from + 1) n
between_is from (suc n) (x ∷ xs) to ascend = by (λ ys later. between_is (from + 1) n ys to later) (cases_eq x.ticket from)
  where
    more : (from + 1) + n ≡ from + suc n
    more = omega arith

    by : ((ys : List Entry) → AscendIn (from + 1) (by_entry.tickets_of ys) to → entries_between (from + 1) n ys ≡ drawn_before ((from + 1) + n) ys) → (x.ticket ≡ from) ⊎ (x.ticket ≡ from → ⊥) → entries_between from (suc n) (x ∷ xs) ≡ drawn_before (from + suc n) (x ∷ xs)
    by each (inl same) =
        let next : suc x.ticket ≡ from + 1 = omega (arith, same) in
        let rest : AscendIn (from + 1) (by_entry.tickets_of xs) to = subst (λ (k : ℕ). AscendIn k (by_entry.tickets_of xs) to) next ascend.1 in
        ap (λ (l : List Entry). l ++ entries_between (from + 1) n (x ∷ xs))
        (cond-true (eqb x.ticket from) (x ∷ filter (λ (entry : Entry). eqb entry.ticket from) xs) (filter (λ (entry : Entry). eqb entry.ticket from) xs) (eq-eqb x.ticket from same)
        ∙ ap (λ (l : List Entry). x ∷ l) (none_with from (from + 1) xs to (omega arith) rest))
        ∙ (ap (λ (l : List Entry). x ∷ l) (first_off (from + 1) n x xs (omega (arith, same)) ∙ (each xs rest ∙ ap (λ (k : ℕ). drawn_before k xs) more))
        ∙ sym (cond-true (ltb x.ticket (from + suc n)) (x ∷ drawn_before (from + suc n) xs) (drawn_before (from + suc n) xs) (lt-ltb x.ticket (from + suc n) (omega (arith, same)))))
    by each (inr other) =
        let least : from ≤ x.ticket = ascend.0 in
        let past : from < x.ticket = omega (arith, least, other) in
        let later : AscendIn (from + 1) (by_entry.tickets_of (x ∷ xs)) to = (omega (arith, past), ascend.1) in
        ap (λ (l : List Entry). l ++ entries_between (from + 1) n (x ∷ xs)) (none_with from (from + 1) (x ∷ xs) to (omega arith) later)
        ∙ (each (x ∷ xs) later ∙ ap (λ (k : ℕ). drawn_before k (x ∷ xs)) more)

pub below_is : (t : ℕ) (xs : List Entry) (to : ℕ) → AscendIn 0 (by_entry.tickets_of xs) to → entries_below t xs ≡ drawn_before t xs
below_is t xs to ascend = let same : 0 + t ≡ t = omega arith in between_is 0 t xs to ascend ∙ ap (λ (k : ℕ). drawn_before k xs) same

-- below an entry's ticket are those before its place
pub below_at : (xs : List Entry) (to i : ℕ) (e : Entry) → AscendIn 0 (by_entry.tickets_of xs) to → slice_get xs i ≡ Some e → entries_below e.ticket xs ≡ take i xs
below_at xs to i e ascend at = below_is e.ticket xs to ascend ∙ sym (take_drawn 0 xs to i e ascend at)

-- Turns of all locks

abbrev between : ℕ → ℕ → List Drawn → List Drawn
between from n turns = flat_map (λ t. with_ticket t turns) (range_with_len from n)

between_split : (from a b : ℕ) (turns : List Drawn) → between from (a + b) turns ≡ between from a turns ++ between (from + a) b turns
between_split from a b turns =
    ap (flat_map (λ t. with_ticket t turns)) (range_split from a b) ∙ flat_map-append (λ t. with_ticket t turns) (range_with_len from a) (range_with_len (from + a) b)

between_has : (from n : ℕ) (turns : List Drawn) (x : Drawn) → IsAmong x (between from n turns) → IsAmong x turns × (from ≤ x.entry.ticket) × (x.entry.ticket < from + n)
between_has from n turns x there =
    let found = flat_among (λ t. with_ticket t turns) x (range_with_len from n) there in
    let kept = filter_among (λ (drawn : Drawn). eqb drawn.entry.ticket found.0) x turns found.2 in
    let is : x.entry.ticket ≡ found.0 = eqb-true x.entry.ticket found.0 kept.1 in
    let within = range_among from n found.0 found.1 in
    (kept.0, omega (arith, is, within.0), omega (arith, is, within.1))

-- the order of two tests doesn't matter
pub tests_turned : {A : Type 0} (p q : A → Bool) (xs : List A) → filter p (filter q xs) ≡ filter q (filter p xs)
tests_turned p q [] = refl
tests_turned p q (x ∷ xs) = by (p x) refl (q x) refl (tests_turned p q xs)
  where
    by : (b : Bool) → p x ≡ b → (c : Bool) → q x ≡ c → filter p (filter q xs) ≡ filter q (filter p xs) → filter p (cond c (x ∷ filter q xs) (filter q xs)) ≡ filter q (cond b (x ∷ filter p xs) (filter p xs))
    by true is true is_too rest =
        cond-true (p x) (x ∷ filter p (filter q xs)) (filter p (filter q xs)) is ∙ (ap (λ (l : List _). x ∷ l) rest ∙ sym (cond-true (q x) (x ∷ filter q (filter p xs)) (filter q (filter p xs)) is_too))
    by true is false is_not rest = rest ∙ sym (cond-false (q x) (x ∷ filter q (filter p xs)) (filter q (filter p xs)) is_not)
    by false is true is_too rest = cond-false (p x) (x ∷ filter p (filter q xs)) (filter p (filter q xs)) is ∙ rest
    by false is false is_not rest = rest

between_filter : (p : Drawn → Bool) (from n : ℕ) (turns : List Drawn) → between from n (filter p turns) ≡ filter p (between from n turns)
between_filter p from zero turns = refl
between_filter p from (suc n) turns =
    ap (λ (l : List Drawn). l ++ between (from + 1) n (filter p turns)) (tests_turned (λ (drawn : Drawn). eqb drawn.entry.ticket from) p turns)
    ∙ (ap (λ (l : List Drawn). filter p (with_ticket from turns) ++ l) (between_filter p (from + 1) n turns)
    ∙ sym (filter-append p (with_ticket from turns) (between (from + 1) n turns)))

-- those below a ticket among those below a greater one
cut_at : (t d : ℕ) (turns : List Drawn) → filter (λ (drawn : Drawn). ltb drawn.entry.ticket t) (drawn_below (t + d) turns) ≡ drawn_below t turns
cut_at t d turns =
    let start : 0 + t ≡ t = omega arith in
    ap (filter (λ (drawn : Drawn). ltb drawn.entry.ticket t)) (between_split 0 t d turns)
    ∙ (filter-append (λ (drawn : Drawn). ltb drawn.entry.ticket t) (between 0 t turns) (between (0 + t) d turns)
    ∙ (ap (λ (l : List Drawn). l ++ filter (λ (drawn : Drawn). ltb drawn.entry.ticket t) (between (0 + t) d turns))
    (keeps_all (λ (drawn : Drawn). ltb drawn.entry.ticket t) (between 0 t turns) (λ x there. let low = (between_has 0 t turns x there).2 in lt-ltb x.entry.ticket t (omega (arith, low))))
    ∙ (ap (λ (l : List Drawn). between 0 t turns ++ l)
    (keeps_none (λ (drawn : Drawn). ltb drawn.entry.ticket t) (between (0 + t) d turns) (λ x there. let high = (between_has (0 + t) d turns x there).1 in le-ltb x.entry.ticket t (omega (arith, high))))
    ∙ append-nil (between 0 t turns))))

-- no ticket is past all
past_all : (n d : ℕ) (turns : List Drawn) → ((x : Drawn) → IsAmong x turns → x.entry.ticket < n) → drawn_below (n + d) turns ≡ drawn_below n turns
past_all n d turns low =
    between_split 0 n d turns
    ∙ (ap (λ (l : List Drawn). between 0 n turns ++ l)
    (none_among (between (0 + n) d turns) (λ x there. let has = between_has (0 + n) d turns x there in absurd (let less = low x has.0 in let least = has.1 in omega (arith, less, least))))
    ∙ append-nil (between 0 n turns))

module _ (histories : List LockHistory) (once : AreDrawnOnce histories) where
  pub ticket_within : (x : Drawn) → IsAmong x (all_drawn histories) → x.entry.ticket < turn_count histories
  ticket_within x there = let high = (between_has 0 (turn_count histories) (all_drawn histories) x (all_ordered histories once x there)).2 in omega (arith, high)

  pub below_ordered : (t : ℕ) → drawn_below t (all_drawn histories) ≡ filter (λ (drawn : Drawn). ltb drawn.entry.ticket t) (ordered histories)
  below_ordered t = by (cases_lt (turn_count histories) t)
    where
      by : (turn_count histories < t) ⊎ (t ≤ turn_count histories) → drawn_below t (all_drawn histories) ≡ filter (λ (drawn : Drawn). ltb drawn.entry.ticket t) (ordered histories)
      by (inl past) =
          let n : ℕ = turn_count histories in
          let d : ℕ = t - n in
          let is : n + d ≡ t = omega (arith, past) in
          ap (λ (k : ℕ). drawn_below k (all_drawn histories)) (sym is)
          ∙ (past_all n d (all_drawn histories) ticket_within
          ∙ sym (keeps_all (λ (drawn : Drawn). ltb drawn.entry.ticket t) (ordered histories) (λ x there. let low = ticket_within x (ordered_all histories x there) in lt-ltb x.entry.ticket t (omega (arith, low, past)))))
      by (inr within) =
          let n : ℕ = turn_count histories in
          let d : ℕ = n - t in
          let is : t + d ≡ n = omega (arith, within) in
          sym (cut_at t d (all_drawn histories)) ∙ ap (λ (k : ℕ). filter (λ (drawn : Drawn). ltb drawn.entry.ticket t) (drawn_below k (all_drawn histories))) is

  -- the turns of a call, and of these the ones below a ticket
  pub of_call_below : (t number : ℕ) → drawn_below t (drawn_of number (all_drawn histories)) ≡ filter (λ (drawn : Drawn). ltb drawn.entry.ticket t) (drawn_of number (ordered histories))
  of_call_below t number =
      between_filter (λ (drawn : Drawn). eqb drawn.entry.call number) 0 t (all_drawn histories)
      ∙ (ap (drawn_of number) (below_ordered t) ∙ tests_turned (λ (drawn : Drawn). eqb drawn.entry.call number) (λ (drawn : Drawn). ltb drawn.entry.ticket t) (ordered histories))

  pub of_call : ((x : Drawn) → IsAmong x (all_drawn histories) → x.entry.ticket < ticket_bound) → (number : ℕ) → drawn_below ticket_bound (drawn_of number (all_drawn histories)) ≡ drawn_of number (ordered histories)
  of_call low number =
      of_call_below ticket_bound number
      ∙ keeps_all (λ (drawn : Drawn). ltb drawn.entry.ticket ticket_bound) (drawn_of number (ordered histories))
      (λ x there. lt-ltb x.entry.ticket ticket_bound (low x (ordered_all histories x (filter_among (λ (drawn : Drawn). eqb drawn.entry.call number) x (ordered histories) there).0)))
