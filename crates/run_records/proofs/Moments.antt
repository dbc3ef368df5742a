-- The turns of every lock at the moments between the phases of a run, and what the last of these moments tells of each phase.
use Rattle.std.proofs.Common.{◌≡◌, ◌≢◌, ℕ, zero, suc, ◌+◌, ◌-◌, ◌<◌, ◌≤◌, Bool, true, ◌&&◌, cond, eqb, List, [], ◌∷◌, length, map, Option, Some, refl, ap, sym, ◌∙◌, ◌⊎◌, inl, inr, subst, arith}
use Rattle.std.specs.Prelude.{MatchBool, All, filter, slice_get, ◌==◌}
use Rattle.std.specs.List.{AllByRecursion, range_with_len}
use Rattle.std.proofs.lemmas.Bool.{cases_lt, cases_eq, lt-ltb, le-ltb, eq-eqb, eqb-true, and_from, and_parts}
use Rattle.std.proofs.lemmas.List.Elements.{All-nil, All-append, All-weaker, filter_passes, recursion_from_All}
use Rattle.std.proofs.lemmas.Option.{none-some, same_Some}
use Rattle.map_types.specs.declared.attr.Shape.{Shape}
use Rattle.map_types.specs.declared.call.Call.{Call}
use Rattle.map_types.specs.declared.reply.Reply.{Reply}
use Rattle.map_script.specs.declared.script.Script.{Script}
use Rattle.map_types.proofs.RowLemmas.{by_test}
use Rattle.place_words.specs.declared.history.Entry.{Entry}
use Rattle.place_words.specs.Phases.{drawn_before, phase_of, calls_before, of_phase}
use Rattle.place_words.specs.Tickets.{AscendIn, tickets_of}
use Rattle.place_words.specs.Walks.{spare_left}
use Rattle.place_words.proofs.Ascending.{ascend_within, ascend_from}
use Rattle.place_table.specs.declared.view.Turned.{Turned}
use Rattle.place_table.specs.Closing.{numbered}
use Rattle.place_table.specs.Known.{turn_at, IsBy}
use Rattle.place_table.specs.Rules.{turns_on, indexes}
use Rattle.place_table.specs.Tickets.{turn_tickets}
use Rattle.place_table.specs.Views.{place_of}
use Rattle.map_report.specs.Record.{has_cpu, places_in}
use Rattle.map_report.proofs.CutLemmas.{Rise, next_phase, in_phase as phase_is}
use Rattle.map_report.proofs.LogSteps.{has_within}
use Rattle.map_report.proofs.RunCuts.{phase_long}
use Rattle.run_records.specs.Work.{AreCallsBy}
use Rattle.serial_laws.proofs.HistoryTurns.{by_bool}
use Rattle.serial_laws.proofs.ListPlaces.{all_at, kept_stands, passing_kept}
use Rattle.run_records.proofs.RaceCalls.{has_one}
use Rattle.run_records.proofs.OwnCalls.{Begins}

-- The turns of every lock at a moment: each is one of the turns that CPUs made in the phases before this one, and these stand there.
pub record IsMoment (cpus : ℕ) (turns : ℕ → ℕ → List Turned) (q : ℕ) (log : ℕ → List Entry) : Type 0 where
  pub covered : (k place : ℕ) (entry : Entry) → slice_get (log k) place ≡ Some entry
      → (r : ℕ) × (cpu : ℕ) × (j : ℕ) × (r < q) × (cpu < cpus) × (slice_get (turns_on k (turns r cpu)) j ≡ Some (place, entry))
  pub there : (r cpu : ℕ) → r < q → cpu < cpus → (k j place : ℕ) (entry : Entry) → slice_get (turns_on k (turns r cpu)) j ≡ Some (place, entry) → slice_get (log k) place ≡ Some entry

-- Histories that go on

-- What a history was earlier is what it has below a ticket, where each entry of then stands at its place and is below, and each other
-- one isn't.
drawn_then : (n : ℕ) (log final : List Entry)
    → ((place : ℕ) (entry : Entry) → slice_get log place ≡ Some entry → (slice_get final place ≡ Some entry) × (entry.ticket < n))
    → ((place : ℕ) (entry : Entry) → slice_get final place ≡ Some entry → (slice_get log place ≡ Some entry) ⊎ (n ≤ entry.ticket)) → drawn_before n final ≡ log
drawn_then n [] [] stays splits = refl
drawn_then n (x ∷ log) [] stays splits = absurd (none-some x (stays 0 x refl).0)
drawn_then n [] (entry ∷ final) stays splits = elim (splits 0 entry refl) [
  | inl here ↦ absurd (none-some entry here)
  | inr past ↦ ap (λ (b : Bool). cond b (entry ∷ drawn_before n final) (drawn_before n final)) (le-ltb entry.ticket n past)
      ∙ drawn_then n [] final (λ place e is. absurd (none-some e is)) (λ place e is. splits (suc place) e is)
]
drawn_then n (x ∷ log) (entry ∷ final) stays splits =
    let here = stays 0 x refl in
    let same : entry ≡ x = same_Some entry x here.0 in
    let rest = drawn_then n log final (λ place e is. stays (suc place) e is) (λ place e is. splits (suc place) e is) in
    ap (λ (b : Bool). cond b (entry ∷ drawn_before n final) (drawn_before n final)) (lt-ltb entry.ticket n (subst (λ (e : Entry). e.ticket < n) (sym same) here.1))
    ∙ (λ i. same i ∷ rest i)

-- what holds of each turn's entry holds of those on a lock
of_turn : (P : Entry → Type 0) (k : ℕ) (steps : List Turned) → AllByRecursion (λ (step : Turned). P step.entry) steps → (j place : ℕ) (entry : Entry) → slice_get (turns_on k steps) j ≡ Some (place, entry) → P entry
of_turn P k [] holds j place entry is = absurd (none-some (place, entry) is)
of_turn P k (step ∷ steps) holds j place entry is =
    by_bool (eqb step.lock k) (λ b. slice_get (cond b ((place_of step, step.entry) ∷ turns_on k steps) (turns_on k steps)) j ≡ Some (place, entry) → P entry)
    (λ _. first j (λ m. of_turn P k steps holds.1 m place entry)) (λ _. of_turn P k steps holds.1 j place entry) is
  where
    first : (m : ℕ) → ((n : ℕ) → slice_get (turns_on k steps) n ≡ Some (place, entry) → P entry) → slice_get ((place_of step, step.entry) ∷ turns_on k steps) m ≡ Some (place, entry) → P entry
    first zero more found = subst P (ap (λ (x : ℕ × Entry). x.1) (same_Some (place_of step, step.entry) (place, entry) found)) holds.0
    first (suc m) more found = more m found

-- the tickets of turns that ascend are within
drawn_in : (low from to : ℕ) (steps : List Turned) → low ≤ from → AscendIn from (turn_tickets steps) to → AllByRecursion (λ (step : Turned). (low ≤ step.entry.ticket) × (step.entry.ticket < to)) steps
drawn_in low from to [] less are = tt
drawn_in low from to (step ∷ steps) less are =
    let first : from ≤ step.entry.ticket = are.0 in
    let rest : suc step.entry.ticket ≤ to = ascend_within (suc step.entry.ticket) (turn_tickets steps) to are.1 in
    ((omega (arith, less, first), rest), drawn_in low (suc step.entry.ticket) to steps (omega (arith, less, first)) are.1)

-- the entries of a history, by their places in it
numbered_at : (a : ℕ) (log : List Entry) (i : ℕ) (x : ℕ × Entry) → slice_get (numbered a log) i ≡ Some x → (slice_get log i ≡ Some x.1) × (x.0 ≡ a + i)
numbered_at a [] i x is = absurd (none-some x is)
numbered_at a (entry ∷ log) zero x is =
    let same : (a, entry) ≡ x = same_Some (a, entry) x is in
    (ap (λ (y : ℕ × Entry). Some y.1) same, sym (ap (λ (y : ℕ × Entry). y.0) same) ∙ (let none : a ≡ a + 0 = omega arith in none))
numbered_at a (entry ∷ log) (suc i) x is =
    let rest = numbered_at (suc a) log i x is in
    (rest.0, omega (arith, rest.1))

numbered_there : (a : ℕ) (log : List Entry) (i : ℕ) (entry : Entry) → slice_get log i ≡ Some entry → slice_get (numbered a log) i ≡ Some (a + i, entry)
numbered_there a [] i entry is = absurd (none-some entry is)
numbered_there a (first ∷ log) zero entry is =
    let same : first ≡ entry = same_Some first entry is in
    let none : a ≡ a + 0 = omega arith in
    λ i. Some (none i, same i)
numbered_there a (first ∷ log) (suc i) entry is =
    let next : suc a + i ≡ a + suc i = omega arith in
    numbered_there (suc a) log i entry is ∙ ap (λ (place : ℕ). Some (place, entry)) next

-- Turns whose tickets ascend

abbrev drawn_by : List (ℕ × Entry) → List ℕ
drawn_by [] = []
drawn_by (turn ∷ turns) = turn.1.ticket ∷ drawn_by turns

abbrev Inside : List (ℕ × Entry) → List (ℕ × Entry) → Type 0
Inside xs ys = (j : ℕ) (x : ℕ × Entry) → slice_get xs j ≡ Some x → (i : ℕ) × (slice_get ys i ≡ Some x)

from_on : (from to : ℕ) (xs : List (ℕ × Entry)) → AscendIn from (drawn_by xs) to → (j : ℕ) (x : ℕ × Entry) → slice_get xs j ≡ Some x → from ≤ x.1.ticket
from_on from to [] are j x is = absurd (none-some x is)
from_on from to (y ∷ xs) are zero x is = subst (λ (z : ℕ × Entry). from ≤ z.1.ticket) (same_Some y x is) are.0
from_on from to (y ∷ xs) are (suc j) x is =
    let first : from ≤ y.1.ticket = are.0 in
    let rest = from_on (suc y.1.ticket) to xs are.1 j x is in omega (arith, first, rest)

first_same : (x y : ℕ × Entry) (xs ys : List (ℕ × Entry)) (to up : ℕ) → AscendIn (suc x.1.ticket) (drawn_by xs) to → AscendIn (suc y.1.ticket) (drawn_by ys) up
    → (i j : ℕ) → slice_get (y ∷ ys) i ≡ Some x → slice_get (x ∷ xs) j ≡ Some y → x ≡ y
first_same x y xs ys to up first second zero j there here = sym (same_Some y x there)
first_same x y xs ys to up first second (suc i) zero there here = same_Some x y here
first_same x y xs ys to up first second (suc i) (suc j) there here =
    absurd (omega (arith, from_on (suc y.1.ticket) up ys second i x there, from_on (suc x.1.ticket) to xs first j y here))

rest_inside : (x y : ℕ × Entry) (xs ys : List (ℕ × Entry)) (to : ℕ) → x ≡ y → AscendIn (suc x.1.ticket) (drawn_by xs) to → Inside (x ∷ xs) (y ∷ ys) → Inside xs ys
rest_inside x y xs ys to same are into j z is = at (into (suc j) z is).0 (into (suc j) z is).1
  where
    at : (i : ℕ) → slice_get (y ∷ ys) i ≡ Some z → (n : ℕ) × (slice_get ys n ≡ Some z)
    at zero found =
        let later = from_on (suc x.1.ticket) to xs are j z is in
        let one : x.1.ticket ≡ z.1.ticket = ap (λ (t : ℕ × Entry). t.1.ticket) (same ∙ same_Some y z found) in
        absurd (omega (arith, later, one))
    at (suc i) found = (i, found)

-- turns that ascend by their tickets are the same list where they are the same turns
same_turns : (xs ys : List (ℕ × Entry)) (a b to up : ℕ) → AscendIn a (drawn_by xs) to → AscendIn b (drawn_by ys) up → Inside xs ys → Inside ys xs → xs ≡ ys
same_turns [] [] a b to up first second into back = refl
same_turns [] (y ∷ ys) a b to up first second into back = absurd (none-some y (back 0 y refl).1)
same_turns (x ∷ xs) [] a b to up first second into back = absurd (none-some x (into 0 x refl).1)
same_turns (x ∷ xs) (y ∷ ys) a b to up first second into back =
    let there = into 0 x refl in
    let here = back 0 y refl in
    let same : x ≡ y = first_same x y xs ys to up first.1 second.1 there.0 here.0 there.1 here.1 in
    let rest =
    same_turns xs ys (suc x.1.ticket) (suc y.1.ticket) to up first.1 second.1 (rest_inside x y xs ys to same first.1 into)
    (rest_inside y x ys xs up (sym same) second.1 back) in
    λ i. same i ∷ rest i

-- those of a history do, and those of a strand
some_ascend : (test : ℕ × Entry → Bool) (from to a : ℕ) (log : List Entry) → AscendIn from (tickets_of log) to → AscendIn from (drawn_by (filter test (numbered a log))) to
some_ascend test from to a [] are = are
some_ascend test from to a (entry ∷ log) are =
    let first : from ≤ entry.ticket = are.0 in
    let rest = some_ascend test (suc entry.ticket) to (suc a) log are.1 in
    let kept : List (ℕ × Entry) = filter test (numbered (suc a) log) in
    by_bool (test (a, entry)) (λ b. AscendIn from (drawn_by (cond b ((a, entry) ∷ kept) kept)) to) (λ _. (first, rest))
    (λ _. ascend_from from (suc entry.ticket) (drawn_by kept) to (omega (arith, first)) rest)

turns_ascend : (k from to : ℕ) (steps : List Turned) → AscendIn from (turn_tickets steps) to → AscendIn from (drawn_by (turns_on k steps)) to
turns_ascend k from to [] are = are
turns_ascend k from to (step ∷ steps) are =
    let first : from ≤ step.entry.ticket = are.0 in
    let rest = turns_ascend k (suc step.entry.ticket) to steps are.1 in
    let kept : List (ℕ × Entry) = turns_on k steps in
    by_bool (eqb step.lock k) (λ b. AscendIn from (drawn_by (cond b ((place_of step, step.entry) ∷ kept) kept)) to) (λ _. (first, rest))
    (λ _. ascend_from from (suc step.entry.ticket) (drawn_by kept) to (omega (arith, first)) rest)

-- Places of a phase

-- the entries of a CPU in a phase, with their places
abbrev pub is_of : List ℕ → ℕ → ℕ → ℕ × Entry → Bool
is_of cuts q cpu turn = (phase_of cuts turn.1.call == q) && (turn.1.cpu == cpu)

-- their places, as a record tells them
pub places_told : (cuts : List ℕ) (q cpu a : ℕ) (log : List Entry) → indexes (filter (is_of cuts q cpu) (numbered a log)) ≡ places_in cuts q (cpu ∷ []) a log
places_told cuts q cpu a [] = refl
places_told cuts q cpu a (entry ∷ log) =
    let rest = places_told cuts q cpu (suc a) log in
    let kept : List (ℕ × Entry) = filter (is_of cuts q cpu) (numbered (suc a) log) in
    let phase : Bool = eqb (phase_of cuts entry.call) q in
    ap (λ (b : Bool). indexes (cond (phase && b) ((a, entry) ∷ kept) kept)) (sym (has_one cpu entry.cpu))
    ∙ by_bool (phase && has_cpu entry.cpu (cpu ∷ [])) (λ b. indexes (cond b ((a, entry) ∷ kept) kept) ≡ cond b (a ∷ places_in cuts q (cpu ∷ []) (suc a) log) (places_in cuts q (cpu ∷ []) (suc a) log))
    (λ _. ap (λ (places : List ℕ). a ∷ places) rest) (λ _. rest)

-- two lists of CPUs have the same places where they have the same CPUs of that phase's entries
places_same : (cuts : List ℕ) (q : ℕ) (some others : List ℕ) (a : ℕ) (log : List Entry)
    → ((i : ℕ) (entry : Entry) → slice_get log i ≡ Some entry → phase_of cuts entry.call ≡ q → has_cpu entry.cpu some ≡ has_cpu entry.cpu others) → places_in cuts q some a log ≡ places_in cuts q others a log
places_same cuts q some others a [] same = refl
places_same cuts q some others a (entry ∷ log) same =
    let rest = places_same cuts q some others (suc a) log (λ i e is. same (suc i) e is) in
    let goes : (b : Bool) → cond b (a ∷ places_in cuts q some (suc a) log) (places_in cuts q some (suc a) log) ≡ cond b (a ∷ places_in cuts q others (suc a) log) (places_in cuts q others (suc a) log)
    = λ b. ap (λ (places : List ℕ). cond b (a ∷ places) places) rest in
    goes (eqb (phase_of cuts entry.call) q && has_cpu entry.cpu some)
    ∙ ap (λ (b : Bool). cond b (a ∷ places_in cuts q others (suc a) log) (places_in cuts q others (suc a) log))
    (by_bool (eqb (phase_of cuts entry.call) q) (λ b. eqb (phase_of cuts entry.call) q ≡ b → (b && has_cpu entry.cpu some) ≡ (b && has_cpu entry.cpu others))
    (λ _ is. same 0 entry refl (eqb-true (phase_of cuts entry.call) q is)) (λ _ is. refl) refl)

-- The moments of a run: the numbers of tickets that were drawn by each of them ascend, the turns of a phase have theirs between, and
-- the last moment is the end.
module _ (cpus : ℕ) (turns : ℕ → ℕ → List Turned) (bounds : ℕ → ℕ) (last : ℕ) (rise : (q : ℕ) → q < last → bounds q ≤ bounds (suc q))
    (within : (q cpu : ℕ) → q < last → cpu < cpus → AscendIn (bounds q) (turn_tickets (turns q cpu)) (bounds (suc q))) (end : ℕ → List Entry) (ends : IsMoment cpus turns last end) where
  goes_up : (a d : ℕ) → d + a ≤ last → bounds a ≤ bounds (d + a)
  goes_up a zero high = let same : 0 + a ≡ a = omega arith in subst (λ (q : ℕ). bounds a ≤ bounds q) (sym same) (omega arith)
  goes_up a (suc d) high =
      let same : suc d + a ≡ suc (d + a) = omega arith in
      let rest = goes_up a d (omega (arith, high)) in
      let up = rise (d + a) (omega (arith, high)) in
      subst (λ (q : ℕ). bounds a ≤ bounds q) (sym same) (omega (arith, rest, up))

  pub never_falls : (a b : ℕ) → a ≤ b → b ≤ last → bounds a ≤ bounds b
  never_falls a b low high =
      let d : ℕ = ◌-◌ b a in
      let same : d + a ≡ b = omega (arith, low) in
      subst (λ (q : ℕ). bounds a ≤ bounds q) same (goes_up a d (omega (arith, same, high)))

  -- a turn of a phase has a ticket of that phase
  pub turn_in : (r cpu : ℕ) → r < last → cpu < cpus → (k j place : ℕ) (entry : Entry) → slice_get (turns_on k (turns r cpu)) j ≡ Some (place, entry) → (bounds r ≤ entry.ticket) × (entry.ticket < bounds (suc r))
  turn_in r cpu low real k j place entry is =
      of_turn (λ (e : Entry). (bounds r ≤ e.ticket) × (e.ticket < bounds (suc r))) k (turns r cpu)
      (drawn_in (bounds r) (bounds r) (bounds (suc r)) (turns r cpu) (omega arith) (within r cpu low real)) j place entry is

  -- each entry at the end is a turn of some phase, with a ticket of that phase
  pub ticket_in : (k place : ℕ) (entry : Entry) → slice_get (end k) place ≡ Some entry
      → (r : ℕ) × (cpu : ℕ) × (j : ℕ) × (r < last) × (cpu < cpus) × (slice_get (turns_on k (turns r cpu)) j ≡ Some (place, entry)) × (bounds r ≤ entry.ticket) × (entry.ticket < bounds (suc r))
  ticket_in k place entry is =
      let its = ends.covered k place entry is in
      let drawn = turn_in its.0 its.1 its.3 its.4 k its.2 place entry its.5 in
      (its.0, its.1, its.2, its.3, its.4, its.5, drawn.0, drawn.1)

  -- The turns of a lock at the start of a phase are those at the end with tickets below that phase's.
  pub then_is : (q : ℕ) → q ≤ last → (log : ℕ → List Entry) → IsMoment cpus turns q log → (k : ℕ) → drawn_before (bounds q) (end k) ≡ log k
  then_is q high log is k = drawn_then (bounds q) (log k) (end k) stays splits
    where
      stays : (place : ℕ) (entry : Entry) → slice_get (log k) place ≡ Some entry → (slice_get (end k) place ≡ Some entry) × (entry.ticket < bounds q)
      stays place entry at =
          let its = is.covered k place entry at in
          let low : its.0 < last = omega (arith, its.3, high) in
          let drawn = turn_in its.0 its.1 low its.4 k its.2 place entry its.5 in
          let up = never_falls (suc its.0) q its.3 high in
          (ends.there its.0 its.1 low its.4 k its.2 place entry its.5, omega (arith, drawn.1, up))

      splits : (place : ℕ) (entry : Entry) → slice_get (end k) place ≡ Some entry → (slice_get (log k) place ≡ Some entry) ⊎ (bounds q ≤ entry.ticket)
      splits place entry at =
          let its = ticket_in k place entry at in
          elim (cases_lt its.0 q) [
            | inl before ↦ inl (is.there its.0 its.1 before its.4 k its.2 place entry its.5)
            | inr past ↦ inr (let up = never_falls q its.0 past (omega (arith, its.3)) in omega (arith, its.6, up))
          ]

  -- Where the turns of a phase are of calls of that phase, and each CPU's of that CPU
  module _ (cuts : List ℕ) (made : (q cpu : ℕ) → q < last → cpu < cpus → All (λ (step : Turned). (step.entry.cpu ≡ cpu) × (phase_of cuts step.entry.call ≡ q)) (turns q cpu)) where
    -- a turn of a phase is of a call of that phase, and its CPU's
    pub its_phase : (r cpu : ℕ) → r < last → cpu < cpus → (k j place : ℕ) (entry : Entry) → slice_get (turns_on k (turns r cpu)) j ≡ Some (place, entry) → (entry.cpu ≡ cpu) × (phase_of cuts entry.call ≡ r)
    its_phase r cpu low real k j place entry is =
        of_turn (λ (e : Entry). (e.cpu ≡ cpu) × (phase_of cuts e.call ≡ r)) k (turns r cpu)
        (recursion_from_All (λ (step : Turned). (step.entry.cpu ≡ cpu) × (phase_of cuts step.entry.call ≡ r)) (turns r cpu) (made r cpu low real)) j place entry is

    -- so each entry at the end has a ticket of its call's phase
    pub in_phase : (k place : ℕ) (entry : Entry) → slice_get (end k) place ≡ Some entry
        → (phase_of cuts entry.call < last) × (entry.cpu < cpus) × (bounds (phase_of cuts entry.call) ≤ entry.ticket) × (entry.ticket < bounds (suc (phase_of cuts entry.call)))
    in_phase k place entry is =
        let its = ticket_in k place entry is in
        let of_it = its_phase its.0 its.1 its.3 its.4 k its.2 place entry its.5 in (
          subst (λ (r : ℕ). r < last) (sym of_it.1) its.3,
          subst (λ (cpu : ℕ). cpu < cpus) (sym of_it.0) its.4,
          subst (λ (r : ℕ). bounds r ≤ entry.ticket) (sym of_it.1) its.6,
          subst (λ (r : ℕ). entry.ticket < bounds (suc r)) (sym of_it.1) its.7,
        )

    -- The turns of a CPU in a phase on a lock are its entries in that lock's turns for calls of the phase, in order.
    pub turns_are : (q cpu : ℕ) → q < last → cpu < cpus → (k drawn : ℕ) → AscendIn 0 (tickets_of (end k)) drawn → turns_on k (turns q cpu) ≡ filter (is_of cuts q cpu) (numbered 0 (end k))
    turns_are q cpu low real k drawn ascend =
        same_turns mine told (bounds q) 0 (bounds (suc q)) drawn (turns_ascend k (bounds q) (bounds (suc q)) (turns q cpu) (within q cpu low real)) (some_ascend (is_of cuts q cpu) 0 drawn 0 (end k) ascend)
        into back
      where
        mine : List (ℕ × Entry)
        mine = turns_on k (turns q cpu)

        told : List (ℕ × Entry)
        told = filter (is_of cuts q cpu) (numbered 0 (end k))

        into : Inside mine told
        into j x is =
            let of_it = its_phase q cpu low real k j x.0 x.1 is in
            let none : 0 + x.0 ≡ x.0 = omega arith in
            passing_kept (is_of cuts q cpu) (numbered 0 (end k)) x.0 x
            (numbered_there 0 (end k) x.0 x.1 (ends.there q cpu low real k j x.0 x.1 is) ∙ ap (λ (place : ℕ). Some (place, x.1)) none)
            (and_from (eqb (phase_of cuts x.1.call) q) (eqb x.1.cpu cpu) (eq-eqb (phase_of cuts x.1.call) q of_it.1) (eq-eqb x.1.cpu cpu of_it.0))

        back : Inside told mine
        back m x is =
            let found = kept_stands (is_of cuts q cpu) (numbered 0 (end k)) m x is in
            let at = numbered_at 0 (end k) found.0 x found.1 in
            let place : found.0 ≡ x.0 = omega (arith, at.1) in
            let its = ends.covered k x.0 x.1 (ap (slice_get (end k)) (sym place) ∙ at.0) in
            let of_it = its_phase its.0 its.1 its.3 its.4 k its.2 x.0 x.1 its.5 in
            let passes = and_parts (eqb (phase_of cuts x.1.call) q) (eqb x.1.cpu cpu) (all_at (λ (y : ℕ × Entry). is_of cuts q cpu y ≡ true) told (filter_passes (is_of cuts q cpu) (numbered 0 (end k))) m x is) in
            let phase : its.0 ≡ q = sym of_it.1 ∙ eqb-true (phase_of cuts x.1.call) q passes.0 in
            let own : its.1 ≡ cpu = sym of_it.0 ∙ eqb-true x.1.cpu cpu passes.1 in
            (its.2, (λ i. slice_get (turns_on k (turns (sym phase i) (sym own i))) its.2) ∙ its.5)

    pub places_are : (q cpu : ℕ) → q < last → cpu < cpus → (k drawn : ℕ) → AscendIn 0 (tickets_of (end k)) drawn → indexes (turns_on k (turns q cpu)) ≡ places_in cuts q (cpu ∷ []) 0 (end k)
    places_are q cpu low real k drawn ascend = ap indexes (turns_are q cpu low real k drawn ascend) ∙ places_told cuts q cpu 0 (end k)

    -- where no other CPU made a turn in the phase they are those of all CPUs
    pub places_alone : (q cpu : ℕ) → q < last → cpu < cpus → ((other : ℕ) → other < cpus → other ≢ cpu → turns q other ≡ []) → (k drawn : ℕ) → AscendIn 0 (tickets_of (end k)) drawn
        → indexes (turns_on k (turns q cpu)) ≡ places_in cuts q (range_with_len 0 cpus) 0 (end k)
    places_alone q cpu low real alone k drawn ascend = places_are q cpu low real k drawn ascend ∙ places_same cuts q (cpu ∷ []) (range_with_len 0 cpus) 0 (end k) same
      where
        same : (i : ℕ) (entry : Entry) → slice_get (end k) i ≡ Some entry → phase_of cuts entry.call ≡ q → has_cpu entry.cpu (cpu ∷ []) ≡ has_cpu entry.cpu (range_with_len 0 cpus)
        same i entry is phase =
            let its = ends.covered k i entry is in
            let of_it = its_phase its.0 its.1 its.3 its.4 k its.2 i entry its.5 in
            let here : its.0 ≡ q = sym of_it.1 ∙ phase in
            elim (cases_eq its.1 cpu) [
              | inl own ↦ has_one cpu entry.cpu ∙ eq-eqb entry.cpu cpu (of_it.0 ∙ own) ∙ sym (has_within entry.cpu 0 cpus (omega arith) (subst (λ (c : ℕ). c < 0 + cpus) (sym of_it.0) (omega (arith, its.4))))
              | inr other ↦ absurd (none-some (i, entry) ((λ n. slice_get (turns_on k (sym (ap (λ (r : ℕ). turns r its.1) here ∙ alone its.1 its.4 other) n)) its.2) ∙ its.5))
            ]

-- The calls of a CPU in a phase

-- a turn of this CPU, in a call with a number from one on and below another
abbrev pub IsAmong : ℕ → ℕ → ℕ → Turned → Type 0
IsAmong cpu from to step = (step.entry.cpu ≡ cpu) × (from ≤ step.entry.call) × (step.entry.call < to)

-- the turns of a CPU's calls are of these calls
pub calls_by : (shape : Shape) (cpu number : ℕ) (calls : List Call) (spare last : Option ℕ) (replies : List Reply) (steps : List Turned) → AreCallsBy shape cpu number calls spare last replies steps
    → All (λ (step : Turned). (step.entry.cpu ≡ cpu) × (number ≤ step.entry.call) × (step.entry.call < number + length calls)) steps
calls_by shape cpu number [] spare last replies steps are = subst (All (IsAmong cpu number (number + 0))) (sym are.1) (All-nil (IsAmong cpu number (number + 0)))
calls_by shape cpu number (call ∷ calls) spare last replies steps are =
    by_test call.cpu cpu
    (λ b. MatchBool b (Begins shape cpu number call calls spare last replies steps) (AreCallsBy shape cpu (suc number) calls spare last replies steps) → All Its steps)
    (λ is first.
    subst (All Its) (sym first.4)
    (All-append Its first.0 first.1
    (All-weaker (IsBy call.cpu number) Its (λ step by. (by.0 ∙ is, omega (arith, by.1), omega (arith, by.1))) first.0 first.6.by_call)
    (later first.1 (calls_by shape cpu (suc number) calls (spare_left shape spare (map (turn_at shape) first.0)) last first.3 first.1 first.7))))
    (λ other others. later steps (calls_by shape cpu (suc number) calls spare last replies steps others))
    are
  where
    Its : Turned → Type 0
    Its = IsAmong cpu number (number + suc (length calls))

    later : (some : List Turned) → All (IsAmong cpu (suc number) (suc number + length calls)) some → All Its some
    later some all = All-weaker (IsAmong cpu (suc number) (suc number + length calls)) Its (λ step of_it. (of_it.0, omega (arith, of_it.1), omega (arith, of_it.2))) some all

-- where they are the calls of a phase each turn is of that phase
pub calls_in : (script : Script) → Rise 0 script.cuts (length script.calls) → (q cpu : ℕ) (spare last : Option ℕ) (replies : List Reply) (steps : List Turned)
    → AreCallsBy script.shape cpu (suc (calls_before script.cuts (length script.calls) q)) (of_phase script.cuts q script.calls) spare last replies steps
    → All (λ (step : Turned). (step.entry.cpu ≡ cpu) × (phase_of script.cuts step.entry.call ≡ q)) steps
calls_in script rise q cpu spare last replies steps are =
    let at : ℕ = calls_before script.cuts (length script.calls) q in
    let to : ℕ = calls_before script.cuts (length script.calls) (suc q) in
    let up : at ≤ to = next_phase script.cuts (length script.calls) rise q in
    let long : length (of_phase script.cuts q script.calls) ≡ to - at = phase_long script rise q in
    All-weaker (IsAmong cpu (suc at) (suc at + length (of_phase script.cuts q script.calls))) (λ (step : Turned). (step.entry.cpu ≡ cpu) × (phase_of script.cuts step.entry.call ≡ q))
    (λ step of_it. (of_it.0, phase_is script.cuts (length script.calls) rise q step.entry.call (omega (arith, of_it.1)) (omega (arith, of_it.1, of_it.2, long, up)))) steps
    (calls_by script.shape cpu (suc at) (of_phase script.cuts q script.calls) spare last replies steps are)
