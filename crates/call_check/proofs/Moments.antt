-- By calls, and in a call by tickets: the turns before such a moment are those of the calls before, call after call, each by its tickets,
-- and then those of its call below its ticket.
use Rattle.std.proofs.Common.{◌≡◌, ◌⊎◌, inl, inr, ℕ, zero, suc, ◌+◌, ◌*◌, ◌<◌, ◌≤◌, eqb, List, [], ◌∷◌, ◌++◌, refl, ap, sym, ◌∙◌, arith}
use Rattle.std.specs.Prelude.{filter}
use Rattle.std.specs.List.{flat_map, range_with_len}
use Rattle.std.proofs.Math.Nat.{mul-le-mul_right, suc-mul, zero-mul}
use Rattle.std.proofs.lemmas.Bool.{cases_eq, cases_lt, cond-true, cond-false, eq-eqb, ne_eqb}
use Rattle.std.proofs.lemmas.Grind.{flat_map-append}
use Rattle.std.proofs.lemmas.List.{append-nil}
use Rattle.place_words.specs.Interleaving.{Drawn}
use Rattle.turn_order.specs.Ordered.{with_ticket}
use Rattle.turn_order.proofs.Members.{IsAmong}
use Rattle.call_check.specs.RightCalls.{ticket_bound}
use Rattle.call_check.proofs.BelowTicket.{drawn_below, drawn_earlier, drawn_of, range_split}

-- a moment is that of one call and one ticket
one_call : (bound a s b t : ℕ) → s < bound → t < bound → a * bound + s ≡ b * bound + t → a ≡ b
one_call bound a s b t low under same = by (cases_lt a b) (cases_lt b a)
  where
    by : (a < b) ⊎ (b ≤ a) → (b < a) ⊎ (a ≤ b) → a ≡ b
    by (inl less) other = absurd (let up = mul-le-mul_right {m = suc a} {n = b} bound less in let next = suc-mul a bound in omega (arith, up, next, low, under, same))
    by (inr most) (inl less) = absurd (let up = mul-le-mul_right {m = suc b} {n = a} bound less in let next = suc-mul b bound in omega (arith, up, next, low, under, same))
    by (inr most) (inr least) = omega (arith, most, least)

module _ (bound : ℕ) where
  abbrev moment : Drawn → ℕ
  moment drawn = drawn.entry.call * bound + drawn.entry.ticket

  -- so the turns at it are those of the call that have the ticket
  at_moment : (number ticket : ℕ) → ticket < bound → (turns : List Drawn) → ((x : Drawn) → IsAmong x turns → x.entry.ticket < bound)
      → filter (λ (drawn : Drawn). eqb (moment drawn) (number * bound + ticket)) turns ≡ with_ticket ticket (drawn_of number turns)
  at_moment number ticket under [] low = refl
  at_moment number ticket under (x ∷ turns) low =
      by (cases_eq x.entry.call number) (cases_eq x.entry.ticket ticket) (at_moment number ticket under turns (λ y there. low y (inr there)))
    where
      first : x.entry.ticket < bound
      first = low x (inl refl)

      by : (x.entry.call ≡ number) ⊎ (x.entry.call ≡ number → ⊥) → (x.entry.ticket ≡ ticket) ⊎ (x.entry.ticket ≡ ticket → ⊥)
          → filter (λ (drawn : Drawn). eqb (moment drawn) (number * bound + ticket)) turns ≡ with_ticket ticket (drawn_of number turns)
          → filter (λ (drawn : Drawn). eqb (moment drawn) (number * bound + ticket)) (x ∷ turns) ≡ with_ticket ticket (drawn_of number (x ∷ turns))
      by (inl call) (inl is) rest =
          cond-true (eqb (moment x) (number * bound + ticket)) (x ∷ filter (λ (drawn : Drawn). eqb (moment drawn) (number * bound + ticket)) turns) (filter (λ (drawn : Drawn). eqb (moment drawn) (number * bound + ticket)) turns)
          (eq-eqb (moment x) (number * bound + ticket) (ap (λ (n : ℕ). n * bound + x.entry.ticket) call ∙ ap (λ (t : ℕ). number * bound + t) is))
          ∙ (ap (λ (l : List Drawn). x ∷ l) rest
          ∙ (sym (cond-true (eqb x.entry.ticket ticket) (x ∷ with_ticket ticket (drawn_of number turns)) (with_ticket ticket (drawn_of number turns)) (eq-eqb x.entry.ticket ticket is))
          ∙ ap (with_ticket ticket) (sym (cond-true (eqb x.entry.call number) (x ∷ drawn_of number turns) (drawn_of number turns) (eq-eqb x.entry.call number call)))))
      by (inl call) (inr other) rest =
          cond-false (eqb (moment x) (number * bound + ticket)) (x ∷ filter (λ (drawn : Drawn). eqb (moment drawn) (number * bound + ticket)) turns) (filter (λ (drawn : Drawn). eqb (moment drawn) (number * bound + ticket)) turns)
          (ne_eqb (moment x) (number * bound + ticket) (λ same. other (let here : x.entry.call * bound ≡ number * bound = ap (λ (n : ℕ). n * bound) call in omega (arith, same, here))))
          ∙ (rest
          ∙ (sym (cond-false (eqb x.entry.ticket ticket) (x ∷ with_ticket ticket (drawn_of number turns)) (with_ticket ticket (drawn_of number turns)) (ne_eqb x.entry.ticket ticket other))
          ∙ ap (with_ticket ticket) (sym (cond-true (eqb x.entry.call number) (x ∷ drawn_of number turns) (drawn_of number turns) (eq-eqb x.entry.call number call)))))
      by (inr apart) either rest =
          cond-false (eqb (moment x) (number * bound + ticket)) (x ∷ filter (λ (drawn : Drawn). eqb (moment drawn) (number * bound + ticket)) turns) (filter (λ (drawn : Drawn). eqb (moment drawn) (number * bound + ticket)) turns)
          (ne_eqb (moment x) (number * bound + ticket) (λ same. apart (one_call bound x.entry.call x.entry.ticket number ticket first under same)))
          ∙ (rest
          ∙ ap (with_ticket ticket) (sym (cond-false (eqb x.entry.call number) (x ∷ drawn_of number turns) (drawn_of number turns) (ne_eqb x.entry.call number apart))))

  abbrev between_moments : ℕ → ℕ → List Drawn → List Drawn
  between_moments from n turns = flat_map (λ m. filter (λ (drawn : Drawn). eqb (moment drawn) m) turns) (range_with_len from n)

  module _ (turns : List Drawn) (low : (x : Drawn) → IsAmong x turns → x.entry.ticket < bound) where
    in_call : (number from n : ℕ) → from + n ≤ bound → between_moments (number * bound + from) n turns ≡ flat_map (λ t. with_ticket t (drawn_of number turns)) (range_with_len from n)
    in_call number from zero within = refl
    in_call number from (suc n) within =
        let next : number * bound + from + 1 ≡ number * bound + (from + 1) = omega arith in
        ap (λ (l : List Drawn). l ++ between_moments (number * bound + from + 1) n turns) (at_moment number from (omega (arith, within)) turns low)
        ∙ ap (λ (l : List Drawn). with_ticket from (drawn_of number turns) ++ l) (ap (λ (k : ℕ). between_moments k n turns) next ∙ in_call number (from + 1) n (omega (arith, within)))

    split_at : (a b : ℕ) → between_moments 0 (a + b) turns ≡ between_moments 0 a turns ++ between_moments a b turns
    split_at a b =
        let same : 0 + a ≡ a = omega arith in
        ap (flat_map (λ m. filter (λ (drawn : Drawn). eqb (moment drawn) m) turns)) (range_split 0 a b ∙ ap (λ (k : ℕ). range_with_len 0 a ++ range_with_len k b) same)
        ∙ flat_map-append (λ m. filter (λ (drawn : Drawn). eqb (moment drawn) m) turns) (range_with_len 0 a) (range_with_len a b)

    abbrev calls_before : ℕ → List Drawn
    calls_before number = flat_map (λ n. drawn_below bound (drawn_of n turns)) (range_with_len 0 number)

    whole_call : (number : ℕ) → between_moments (number * bound) bound turns ≡ drawn_below bound (drawn_of number turns)
    whole_call number =
        let same : number * bound ≡ number * bound + 0 = omega arith in
        ap (λ (k : ℕ). between_moments k bound turns) same ∙ in_call number 0 bound (omega arith)

    one_more : (number : ℕ) → calls_before (suc number) ≡ calls_before number ++ drawn_below bound (drawn_of number turns)
    one_more number =
        let next : suc number ≡ number + 1 = omega arith in
        let same : 0 + number ≡ number = omega arith in
        ap calls_before next
        ∙ (ap (flat_map (λ n. drawn_below bound (drawn_of n turns))) (range_split 0 number 1 ∙ ap (λ (k : ℕ). range_with_len 0 number ++ range_with_len k 1) same)
        ∙ (flat_map-append (λ n. drawn_below bound (drawn_of n turns)) (range_with_len 0 number) (range_with_len number 1)
        ∙ ap (λ (l : List Drawn). calls_before number ++ l) (append-nil (drawn_below bound (drawn_of number turns)))))

    whole_calls : (number : ℕ) → between_moments 0 (number * bound) turns ≡ calls_before number
    whole_calls zero = ap (λ (k : ℕ). between_moments 0 k turns) (zero-mul bound)
    whole_calls (suc number) =
        let next : suc number * bound ≡ number * bound + bound = let is = suc-mul number bound in omega (arith, is) in
        ap (λ (k : ℕ). between_moments 0 k turns) next
        ∙ (split_at (number * bound) bound
        ∙ (ap (λ (l : List Drawn). l ++ between_moments (number * bound) bound turns) (whole_calls number)
        ∙ (ap (λ (l : List Drawn). calls_before number ++ l) (whole_call number) ∙ sym (one_more number))))

    to_moment : (number ticket : ℕ) → ticket ≤ bound → between_moments 0 (number * bound + ticket) turns ≡ calls_before number ++ drawn_below ticket (drawn_of number turns)
    to_moment number ticket within =
        let same : number * bound ≡ number * bound + 0 = omega arith in
        split_at (number * bound) ticket
        ∙ (ap (λ (l : List Drawn). l ++ between_moments (number * bound) ticket turns) (whole_calls number)
        ∙ ap (λ (l : List Drawn). calls_before number ++ l) (ap (λ (k : ℕ). between_moments k ticket turns) same ∙ in_call number 0 ticket (omega (arith, within))))

abbrev pub call_moment : Drawn → ℕ
call_moment drawn = drawn.entry.call * ticket_bound + drawn.entry.ticket

abbrev pub turns_by_call : ℕ → List Drawn → List Drawn
turns_by_call moment turns = flat_map (λ m. filter (λ (drawn : Drawn). eqb (call_moment drawn) m) turns) (range_with_len 0 moment)

module _ (turns : List Drawn) (low : (x : Drawn) → IsAmong x turns → x.entry.ticket < ticket_bound) where
  pub before_ticket : (number ticket : ℕ) → ticket ≤ ticket_bound → turns_by_call (number * ticket_bound + ticket) turns ≡ drawn_earlier number turns ++ drawn_below ticket (drawn_of number turns)
  before_ticket number ticket within = to_moment ticket_bound turns low number ticket within

  pub before_call : (number : ℕ) → turns_by_call (number * ticket_bound) turns ≡ drawn_earlier number turns
  before_call number = whole_calls ticket_bound turns low number
