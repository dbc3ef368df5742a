-- Where along the turns of a CPU in a phase the numbers of the calls don't fall as the tickets rise, its turns by phases and tickets are
-- those by calls and tickets.
use Rattle.std.proofs.Common.{◌≡◌, ◌⊎◌, inl, inr, ℕ, suc, ◌+◌, ◌*◌, ◌<◌, ◌≤◌, Bool, true, false, cond, eqb, ltb, List, [], ◌∷◌, length, ap, sym, ◌∙◌, arith}
use Rattle.std.specs.Prelude.{filter}
use Rattle.std.proofs.Math.Nat.{mul-le-mul_right, suc-mul}
use Rattle.std.proofs.lemmas.Bool.{cases_lt, eqb-true, lt-ltb, le-ltb}
use Rattle.place_words.specs.declared.history.LockHistory.{LockHistory}
use Rattle.place_words.specs.Interleaving.{Drawn}
use Rattle.place_words.specs.Phases.{phase_of}
use Rattle.turn_order.specs.Ordered.{all_drawn}
use Rattle.turn_order.proofs.Members.{IsAmong, filter_among}
use Rattle.call_check.specs.RightCalls.{moment_of, ticket_bound, turns_before}
use Rattle.call_check.proofs.KeyOrder.{passing, same_order}
use Rattle.call_check.proofs.Moments.{call_moment, turns_by_call}

-- of two turns of a CPU in one phase the one with the lower ticket isn't of a later call
abbrev pub CallsRise : List ℕ → List LockHistory → Type 0
CallsRise cuts histories =
    (x y : Drawn) → IsAmong x (all_drawn histories) → IsAmong y (all_drawn histories) → x.entry.cpu ≡ y.entry.cpu → phase_of cuts x.entry.call ≡ phase_of cuts y.entry.call
    → x.entry.ticket ≤ y.entry.ticket → x.entry.call ≤ y.entry.call

-- calls of later phases have greater numbers
fewer : (cuts : List ℕ) (a b : ℕ) → a ≤ b → phase_of cuts a ≤ phase_of cuts b
fewer [] a b less = omega arith
fewer (cut ∷ cuts) a b less = by (cases_lt cut a) (cases_lt cut b) (fewer cuts a b less)
  where
    counted : (c : ℕ) (t : Bool) → ltb cut c ≡ t → phase_of (cut ∷ cuts) c ≡ cond t (suc (phase_of cuts c)) (phase_of cuts c)
    counted c true is = ap (λ (u : Bool). length (cond u (cut ∷ filter (λ (k : ℕ). ltb k c) cuts) (filter (λ (k : ℕ). ltb k c) cuts))) is
    counted c false is = ap (λ (u : Bool). length (cond u (cut ∷ filter (λ (k : ℕ). ltb k c) cuts) (filter (λ (k : ℕ). ltb k c) cuts))) is

    by : (cut < a) ⊎ (a ≤ cut) → (cut < b) ⊎ (b ≤ cut) → phase_of cuts a ≤ phase_of cuts b → phase_of (cut ∷ cuts) a ≤ phase_of (cut ∷ cuts) b
    by (inl one) (inl two) rest = let here = counted a true (lt-ltb cut a one) in let there = counted b true (lt-ltb cut b two) in omega (arith, here, there, rest)
    by (inr one) (inl two) rest = let here = counted a false (le-ltb cut a one) in let there = counted b true (lt-ltb cut b two) in omega (arith, here, there, rest)
    by (inr one) (inr two) rest = let here = counted a false (le-ltb cut a one) in let there = counted b false (le-ltb cut b two) in omega (arith, here, there, rest)
    by (inl one) (inr two) rest = absurd (omega (arith, one, two, less))

-- two numbers as one
pub below_by_first : (bound a s b t : ℕ) → s < bound → a < b → a * bound + s < b * bound + t
below_by_first bound a s b t low less = let up = mul-le-mul_right {m = suc a} {n = b} bound less in let next = suc-mul a bound in omega (arith, up, next, low)

below_by_second : (bound a s b t : ℕ) → a ≤ b → s < t → a * bound + s < b * bound + t
below_by_second bound a s b t most less = let up = mul-le-mul_right {m = a} {n = b} bound most in omega (arith, up, less)

most_by_both : (bound a s b t : ℕ) → a ≤ b → s ≤ t → a * bound + s ≤ b * bound + t
most_by_both bound a s b t most least = let up = mul-le-mul_right {m = a} {n = b} bound most in omega (arith, up, least)

both_less : (a b c d : ℕ) → a < b → c < d → ltb a b ≡ ltb c d
both_less a b c d one two = lt-ltb a b one ∙ sym (lt-ltb c d two)

both_least : (a b c d : ℕ) → b ≤ a → d ≤ c → ltb a b ≡ ltb c d
both_least a b c d one two = le-ltb a b one ∙ sym (le-ltb c d two)

module _ (cuts : List ℕ) (histories : List LockHistory) (low : (x : Drawn) → IsAmong x (all_drawn histories) → x.entry.ticket < ticket_bound) (rise : CallsRise cuts histories) where
  abbrev phase_moment : Drawn → ℕ
  phase_moment drawn = moment_of cuts drawn.entry

  abbrev phase : Drawn → ℕ
  phase drawn = phase_of cuts drawn.entry.call

  -- of two turns of a CPU either moment tells the earlier one
  one_order : (x y : Drawn) → IsAmong x (all_drawn histories) → IsAmong y (all_drawn histories) → x.entry.cpu ≡ y.entry.cpu → ltb (phase_moment y) (phase_moment x) ≡ ltb (call_moment y) (call_moment x)
  one_order x y one two same = by (cases_lt (phase y) (phase x)) (cases_lt (phase x) (phase y)) (cases_lt y.entry.ticket x.entry.ticket)
    where
      later_call : (a b : ℕ) → phase_of cuts a < phase_of cuts b → a < b
      later_call a b less = elim (cases_lt a b) [
        | inl is ↦ is
        | inr most ↦ absurd (let up = fewer cuts b a most in omega (arith, up, less))
      ]

      by : (phase y < phase x) ⊎ (phase x ≤ phase y) → (phase x < phase y) ⊎ (phase y ≤ phase x) → (y.entry.ticket < x.entry.ticket) ⊎ (x.entry.ticket ≤ y.entry.ticket)
          → ltb (phase_moment y) (phase_moment x) ≡ ltb (call_moment y) (call_moment x)
      by (inl less) other tickets =
          both_less (phase_moment y) (phase_moment x) (call_moment y) (call_moment x)
          (below_by_first ticket_bound (phase y) y.entry.ticket (phase x) x.entry.ticket (low y two) less)
          (below_by_first ticket_bound y.entry.call y.entry.ticket x.entry.call x.entry.ticket (low y two) (later_call y.entry.call x.entry.call less))
      by (inr most) (inl less) tickets =
          let first : phase_moment x < phase_moment y = below_by_first ticket_bound (phase x) x.entry.ticket (phase y) y.entry.ticket (low x one) less in
          let second : call_moment x < call_moment y = below_by_first ticket_bound x.entry.call x.entry.ticket y.entry.call y.entry.ticket (low x one) (later_call x.entry.call y.entry.call less) in
          both_least (phase_moment y) (phase_moment x) (call_moment y) (call_moment x) (omega (arith, first)) (omega (arith, second))
      by (inr most) (inr least) (inl less) =
          both_less (phase_moment y) (phase_moment x) (call_moment y) (call_moment x)
          (below_by_second ticket_bound (phase y) y.entry.ticket (phase x) x.entry.ticket least less)
          (below_by_second ticket_bound y.entry.call y.entry.ticket x.entry.call x.entry.ticket (rise y x two one (sym same) (omega (arith, most, least)) (omega (arith, less))) less)
      by (inr most) (inr least) (inr behind) =
          both_least (phase_moment y) (phase_moment x) (call_moment y) (call_moment x)
          (most_by_both ticket_bound (phase x) x.entry.ticket (phase y) y.entry.ticket most behind)
          (most_by_both ticket_bound x.entry.call x.entry.ticket y.entry.call y.entry.ticket (rise x y one two same (omega (arith, most, least)) behind) behind)

  module _ (cpu : ℕ) where
    abbrev own : List Drawn → List Drawn
    own turns = filter (λ (drawn : Drawn). eqb drawn.entry.cpu cpu) turns

    own_among : (x : Drawn) → IsAmong x (own (all_drawn histories)) → IsAmong x (all_drawn histories) × (x.entry.cpu ≡ cpu)
    own_among x there = let found = filter_among (λ (drawn : Drawn). eqb drawn.entry.cpu cpu) x (all_drawn histories) there in (found.0, eqb-true x.entry.cpu cpu found.1)

    by_either : (most bound : ℕ) → ((x : Drawn) → IsAmong x (own (all_drawn histories)) → ltb (phase_moment x) most ≡ ltb (call_moment x) bound)
        → own (turns_before cuts most (all_drawn histories)) ≡ own (turns_by_call bound (all_drawn histories))
    by_either most bound below =
        passing phase_moment (λ (drawn : Drawn). eqb drawn.entry.cpu cpu) 0 most (all_drawn histories)
        ∙ (same_order phase_moment call_moment most bound (own (all_drawn histories))
        (λ x y one two. let first = own_among x one in let second = own_among y two in one_order x y first.0 second.0 (first.1 ∙ sym second.1)) below
        ∙ sym (passing call_moment (λ (drawn : Drawn). eqb drawn.entry.cpu cpu) 0 bound (all_drawn histories)))

    -- before one of its turns
    pub before_own : (x : Drawn) → IsAmong x (all_drawn histories) → x.entry.cpu ≡ cpu
        → filter (λ (drawn : Drawn). eqb drawn.entry.cpu cpu) (turns_before cuts (moment_of cuts x.entry) (all_drawn histories))
        ≡ filter (λ (drawn : Drawn). eqb drawn.entry.cpu cpu) (turns_by_call (x.entry.call * ticket_bound + x.entry.ticket) (all_drawn histories))
    before_own x there on = by_either (phase_moment x) (call_moment x) (λ y inside. let its = own_among y inside in one_order x y there its.0 (on ∙ sym its.1))

    -- and at the end
    pub at_end : ((x : Drawn) → IsAmong x (all_drawn histories) → (phase_of cuts x.entry.call < ticket_bound) × (x.entry.call < ticket_bound))
        → filter (λ (drawn : Drawn). eqb drawn.entry.cpu cpu) (turns_before cuts (ticket_bound * ticket_bound) (all_drawn histories))
        ≡ filter (λ (drawn : Drawn). eqb drawn.entry.cpu cpu) (turns_by_call (ticket_bound * ticket_bound) (all_drawn histories))
    at_end few =
        by_either (ticket_bound * ticket_bound) (ticket_bound * ticket_bound)
        (λ x inside.
        let there = (own_among x inside).0 in
        let first = below_by_first ticket_bound (phase x) x.entry.ticket ticket_bound 0 (low x there) (few x there).0 in
        let second = below_by_first ticket_bound x.entry.call x.entry.ticket ticket_bound 0 (low x there) (few x there).1 in
        both_less (phase_moment x) (ticket_bound * ticket_bound) (call_moment x) (ticket_bound * ticket_bound) (omega (arith, first)) (omega (arith, second)))
