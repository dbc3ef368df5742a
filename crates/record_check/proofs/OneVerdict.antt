-- Two verdicts on a record are one. What is asked of a record stands in an order, and a flaw's place there is its rank: all that is
-- asked before it is met, and what is asked at it isn't. So two flaws have one rank, and as each is the first of its sort they are one.
use Rattle.std.proofs.Common.{◌≡◌, ℕ, zero, suc, ◌<◌, ◌≤◌, List, [], ◌∷◌, ◌++◌, length, refl, ap, sym, ◌∙◌, subst, ⊎_elim, arith, Some}
use Rattle.std.specs.Prelude.{slice_get}
use Rattle.std.proofs.lemmas.Bool.{cases_lt, cases_order}
use Rattle.std.proofs.lemmas.Option.{same_Some}
use Rattle.map_types.specs.declared.attr.Shape.{Shape}
use Rattle.map_types.specs.declared.kind.DomainId.{DomainId}
use Rattle.map_types.specs.declared.kind.DomainId.TheVariants.{Global}
use Rattle.map_script.specs.declared.script.Script.{Script}
use Rattle.map_script.specs.WellFormed.{IsWellFormed}
use Rattle.map_report.specs.declared.record.RunRecord.{RunRecord}
use Rattle.place_words.specs.declared.history.LockHistory.{LockHistory}
use Rattle.place_words.specs.declared.history.Strand.{Strand}
use Rattle.place_words.specs.declared.history.StrandStep.{StrandStep}
use Rattle.place_words.specs.Histories.{Content, opening_content}
use Rattle.place_words.specs.Interleaving.{AreEnabled, CoreRun, Drawn, Event, enclosing, lists_in, tickets_of, turn_events, turn_of}
use Rattle.place_words.specs.OpeningState.{opening}
use Rattle.place_words.specs.State.{State}
use Rattle.place_words.specs.Tickets.{AreTicketed}
use Rattle.place_words.specs.Turns.{after_turn}
use Rattle.record_shape.specs.WellShaped.{WellShaped}
use Rattle.replay_words.specs.Replays.{IsFirstFlaw}
use Rattle.turn_order.specs.Ordered.{interleaved_to, ordered}
use Rattle.step_check.proofs.Reaches.{enabled_apart, enabled_both, state_after}
use Rattle.step_check.proofs.StepRuns.{run_made}
use Rattle.call_check.proofs.RecordCalls.{last_spares, right_at}
use Rattle.record_flaws.specs.First.{IsFirstWrong}
use Rattle.record_flaws.specs.PhaseFlaws.{ArePhasesRight}
use Rattle.record_flaws.specs.StrandFlaws.{AreStrandsRight}
use Rattle.record_flaws.specs.declared.verdict.Flaw.{Flaw}
use Rattle.record_flaws.specs.declared.verdict.Flaw.TheVariants as flaws
use Rattle.record_flaws.specs.declared.verdict.Verdict.TheVariants.{Yes, No}
use Rattle.record_parts.proofs.OwnCalls.{records_have_their_strands}
use Rattle.record_parts.proofs.PhaseLaws.{phases_are_judged, records_have_their_phases}
use Rattle.record_parts.proofs.StrandLaws.{strands_are_judged}
use Rattle.record_order.specs.Tickets as tickets
use Rattle.record_order.specs.TicketTables.{place_of}
use Rattle.record_order.proofs.Law.{where_none_is_wrong}
use Rattle.record_order.proofs.Named.{names_entries}
use Rattle.record_order.proofs.Places.{place_back}
use Rattle.record_check.specs.Flaws.{AreCallsRight, AreFinalsRight, AreLegal, AreMade, IsFirstStep, IsFirstTurn}
use Rattle.record_check.specs.Replayed.{IsHistoryFlaw}
use Rattle.record_check.specs.VerdictLaws.{OneVerdict}
use Rattle.record_check.specs.Verdicts.{IsFlaw}
use Rattle.record_check.proofs.Laws.{flaw_refutes_legal, one_flaw}

-- Each first place is one

first_wrong : (IsRight : ℕ → Type 0) (count place other : ℕ) → IsFirstWrong IsRight count (Some place) → IsFirstWrong IsRight count (Some other) → place ≡ other
first_wrong IsRight count place other first second = ⊎_elim
    (λ (same : place ≡ other). same)
    (λ apart. ⊎_elim (λ (less : place < other). absurd (first.1 (second.2 place less))) (λ (more : other < place). absurd (second.1 (first.2 other more))) apart)
    (cases_order place other)

one_ticket : (histories : List LockHistory) (strands : List Strand) (place other : StrandStep) → tickets.IsFirstFlaw histories strands place → tickets.IsFirstFlaw histories strands other → place ≡ other
one_ticket histories strands place other first second = ⊎_elim
    (λ (same : tickets.number_of histories place ≡ tickets.number_of histories other).
    same_Some place other (sym (place_back histories place first.stands) ∙ (ap (place_of histories) same ∙ place_back histories other second.stands)))
    (λ apart. ⊎_elim
    (λ (less : tickets.number_of histories place < tickets.number_of histories other). absurd (second.none_before place first.stands less first.wrong))
    (λ (more : tickets.number_of histories other < tickets.number_of histories place). absurd (first.none_before other second.stands more second.wrong))
    apart)
    (cases_order (tickets.number_of histories place) (tickets.number_of histories other))

-- where the first turns may be made, fewer of them may
made_fewer : (shape : Shape) (n m : ℕ) → n ≤ m → (contents : DomainId → Content) (begun : List ℕ) (turns : List Drawn) (s : State)
    → AreEnabled shape s (interleaved_to m shape contents begun turns) → AreEnabled shape s (interleaved_to n shape contents begun turns)
unfolding interleaved_to AreEnabled
made_fewer shape zero m within contents begun turns s made = tt
made_fewer shape (suc n) zero within contents begun turns s made = absurd (omega (arith, within))
made_fewer shape (suc n) (suc m) within contents begun [] s made = tt
made_fewer shape (suc n) (suc m) within contents begun (drawn ∷ later) s made =
    let around : List Drawn = enclosing drawn later in
    let now : DomainId → Content = after_turn shape drawn.entry.cpu contents (turn_of drawn) in
    let then : List ℕ = drawn.entry.ticket ∷ tickets_of around ++ begun in
    let first : List Event = turn_events shape around begun (lists_in (now drawn.lock)) drawn in
    let both = enabled_apart shape first (interleaved_to m shape now then later) s made in
    enabled_both shape first (interleaved_to n shape now then later) s both.0
    (made_fewer shape n m (omega (arith, within)) now then later (state_after shape s first) both.1)

module _ (script : Script) (kept : RunRecord) where
  fewer : (n m : ℕ) → n ≤ m → AreMade script kept m → AreMade script kept n
  fewer n m within made = made_fewer script.shape n m within (opening_content script.shape) [] (ordered kept.histories) (opening script.shape) made

  one_step : (ticket other : ℕ) → IsFirstStep script kept ticket → IsFirstStep script kept other → ticket ≡ other
  one_step ticket other first second = ⊎_elim
      (λ (same : ticket ≡ other). same)
      (λ apart. ⊎_elim
      (λ (less : ticket < other). absurd (first.refused (fewer (suc ticket) other (omega (arith, less)) second.before)))
      (λ (more : other < ticket). absurd (second.refused (fewer (suc other) ticket (omega (arith, more)) first.before)))
      apart)
      (cases_order ticket other)

  flaw_of : (lock : DomainId) (index : ℕ) (turn : IsFirstTurn script kept lock index) → IsHistoryFlaw script.shape kept.histories turn.place index
  flaw_of lock index turn = record {
    history = turn.history;
    there = turn.there;
    before = turn.before;
    first = subst (λ (l : DomainId). IsFirstFlaw script.shape l turn.history.entries index) (sym turn.lock_is) turn.first;
  }

  one_turn : (place other : StrandStep) → IsFirstTurn script kept place.lock place.index → IsFirstTurn script kept other.lock other.index
      → flaws.History place.lock place.index ≡ flaws.History other.lock other.index
  one_turn place other turn second =
      let one = one_flaw script.shape kept.histories turn.place place.index second.place other.index (flaw_of place.lock place.index turn) (flaw_of other.lock other.index second) in
      let same : turn.history ≡ second.history = same_Some turn.history second.history (sym turn.there ∙ (ap (slice_get kept.histories) one.0 ∙ second.there)) in
      let lock : place.lock ≡ other.lock = sym turn.lock_is ∙ (ap (λ (h : LockHistory). h.lock) same ∙ second.lock_is) in
      ap (λ (z : DomainId × ℕ). flaws.History z.0 z.1) (λ i. (lock i, one.1 i))

  -- What is asked of a record, in its order

  abbrev Asked : ℕ → Type 0
  Asked zero = AreLegal script kept.histories
  Asked (suc zero) = ArePhasesRight script kept
  Asked (suc (suc zero)) = AreStrandsRight script kept
  Asked (suc (suc (suc zero))) = AreCallsRight script kept
  Asked (suc (suc (suc (suc zero)))) = AreFinalsRight script kept
  Asked (suc (suc (suc (suc (suc zero))))) = AreTicketed kept.histories kept.strands
  Asked (suc (suc (suc (suc (suc (suc n)))))) = CoreRun script.shape kept.histories

  -- so many of these are met
  abbrev AreMet : ℕ → Type 0
  AreMet zero = Unit {0}
  AreMet (suc n) = AreMet n × Asked n

  met_at : (n m : ℕ) → n < m → AreMet m → Asked n
  met_at n zero less met = absurd (omega (arith, less))
  met_at n (suc m) less met = ⊎_elim
      (λ (before : n < m). met_at n m before met.0)
      (λ (from : m ≤ n). let same : m ≡ n = omega (arith, less, from) in subst Asked same met.1)
      (cases_lt n m)

-- Flaws by their rank and their place, which is 0 for finals. What has no lock of its own is put to the global one.

abbrev rank : Flaw → ℕ
rank (flaws.History lock index) = 0
rank (flaws.Phase phase) = 1
rank (flaws.Strand index) = 2
rank (flaws.Call call) = 3
rank flaws.Finals = 4
rank (flaws.Ticket lock index) = 5
rank (flaws.Step ticket) = 6

abbrev at_index : ℕ → StrandStep
at_index index = record { lock = Global; index = index }

abbrev its_place : Flaw → StrandStep
its_place (flaws.History lock index) = record { lock = lock; index = index }
its_place (flaws.Phase phase) = at_index phase
its_place (flaws.Strand index) = at_index index
its_place (flaws.Call call) = at_index call
its_place flaws.Finals = at_index 0
its_place (flaws.Ticket lock index) = record { lock = lock; index = index }
its_place (flaws.Step ticket) = at_index ticket

abbrev flaw_at : ℕ → StrandStep → Flaw
flaw_at zero place = flaws.History place.lock place.index
flaw_at (suc zero) place = flaws.Phase place.index
flaw_at (suc (suc zero)) place = flaws.Strand place.index
flaw_at (suc (suc (suc zero))) place = flaws.Call place.index
flaw_at (suc (suc (suc (suc zero)))) place = flaws.Finals
flaw_at (suc (suc (suc (suc (suc zero))))) place = flaws.Ticket place.lock place.index
flaw_at (suc (suc (suc (suc (suc (suc n)))))) place = flaws.Step place.index

by_rank : (flaw : Flaw) → flaw_at (rank flaw) (its_place flaw) ≡ flaw
by_rank (flaws.History lock index) = refl
by_rank (flaws.Phase phase) = refl
by_rank (flaws.Strand index) = refl
by_rank (flaws.Call call) = refl
by_rank flaws.Finals = refl
by_rank (flaws.Ticket lock index) = refl
by_rank (flaws.Step ticket) = refl

module _ (script : Script) (kept : RunRecord) (formed : IsWellFormed script) (shaped : WellShaped script kept) where
  -- what is asked before a flaw's rank is met
  meets : (flaw : Flaw) → IsFlaw script kept flaw → AreMet script kept (rank flaw)
  meets (flaws.History lock index) is = tt
  meets (flaws.Phase phase) is = (tt, is.0)
  meets (flaws.Strand index) is = ((tt, is.0), is.1)
  meets (flaws.Call call) is = (((tt, is.0), is.1), is.2)
  meets flaws.Finals is = ((((tt, is.0), is.1), is.2), is.3)
  meets (flaws.Ticket lock index) is = (((((tt, is.0), is.1), is.2), is.3), is.4)
  meets (flaws.Step ticket) (is, step) =
      let finals : AreFinalsRight script kept = record { contents = is.contents; whole = record { spares = λ cpu _. last_spares script kept formed shaped is cpu; finals = is.finals } } in
      let calls : AreCallsRight script kept = λ place less. right_at script kept formed shaped is place less in
      ((((((tt, is.legal), records_have_their_phases script kept is), records_have_their_strands script kept formed shaped is), calls), finals), is.tickets)

  -- and what is asked at its rank isn't
  refutes : (flaw : Flaw) → IsFlaw script kept flaw → Asked script kept (rank flaw) → ⊥
  refutes (flaws.History lock index) turn legal = flaw_refutes_legal script.shape kept.histories turn.place index (flaw_of script kept lock index turn) legal
  refutes (flaws.Phase phase) (legal, first) right = first.1 ((phases_are_judged script kept formed.phases shaped.phases).1 right phase)
  refutes (flaws.Strand index) (legal, phases, first) right = first.1 ((strands_are_judged script kept shaped.strands).1 right index)
  refutes (flaws.Call call) (legal, phases, strands, (place, is_call, first)) right = first.1 (right place first.0)
  refutes flaws.Finals (legal, phases, strands, calls, wrong) right = wrong right
  refutes (flaws.Ticket lock index) (legal, phases, strands, calls, finals, first) right =
      (where_none_is_wrong script.shape kept.histories kept.strands (names_entries script kept shaped strands.steps)).1 right (record { lock = lock; index = index }) first.stands first.wrong
  refutes (flaws.Step ticket) (is, step) run =
      step.refused (fewer script kept (suc ticket) (length (ordered kept.histories)) (omega (arith, step.drawn)) (run_made script kept is run))

  -- two flaws of one rank are one
  one_at : (n : ℕ) (place other : StrandStep) → IsFlaw script kept (flaw_at n place) → IsFlaw script kept (flaw_at n other) → flaw_at n place ≡ flaw_at n other
  one_at zero place other first second = one_turn script kept place other first second
  one_at (suc zero) place other first second = ap flaws.Phase (first_wrong _ _ place.index other.index first.1 second.1)
  one_at (suc (suc zero)) place other first second = ap flaws.Strand (first_wrong _ _ place.index other.index first.2 second.2)
  one_at (suc (suc (suc zero))) place other (_, _, _, (at, is_call, first)) (_, _, _, (at_other, is_other, second)) =
      ap flaws.Call (is_call ∙ (ap suc (first_wrong _ _ at at_other first second) ∙ sym is_other))
  one_at (suc (suc (suc (suc zero)))) place other first second = refl
  one_at (suc (suc (suc (suc (suc zero))))) place other first second =
      ap (λ (p : StrandStep). flaws.Ticket p.lock p.index) (one_ticket kept.histories kept.strands place other first.5 second.5)
  one_at (suc (suc (suc (suc (suc (suc n)))))) place other first second = ap flaws.Step (one_step script kept place.index other.index first.1 second.1)

  one_of_two : (flaw other : Flaw) → IsFlaw script kept flaw → IsFlaw script kept other → flaw ≡ other
  one_of_two flaw other first second = ⊎_elim
      (λ (same : rank flaw ≡ rank other).
      let here : IsFlaw script kept (flaw_at (rank flaw) (its_place flaw)) = subst (IsFlaw script kept) (sym (by_rank flaw)) first in
      let there : IsFlaw script kept (flaw_at (rank flaw) (its_place other)) =
      subst (λ (n : ℕ). IsFlaw script kept (flaw_at n (its_place other))) (sym same) (subst (IsFlaw script kept) (sym (by_rank other)) second) in
      sym (by_rank flaw) ∙ (one_at (rank flaw) (its_place flaw) (its_place other) here there ∙ (ap (λ (n : ℕ). flaw_at n (its_place other)) same ∙ by_rank other)))
      (λ apart. ⊎_elim
      (λ (less : rank flaw < rank other). absurd (refutes flaw first (met_at script kept (rank flaw) (rank other) less (meets other second))))
      (λ (more : rank other < rank flaw). absurd (refutes other second (met_at script kept (rank other) (rank flaw) more (meets flaw first))))
      apart)
      (cases_order (rank flaw) (rank other))

pub one_verdict : OneVerdict
one_verdict script kept Yes Yes formed shaped is second = refl
one_verdict script kept Yes (No flaw) formed shaped is second = absurd (second.1 is)
one_verdict script kept (No flaw) Yes formed shaped is second = absurd (is.1 second)
one_verdict script kept (No flaw) (No other) formed shaped is second = ap No (one_of_two script kept formed shaped flaw other is.0 second.0)
