-- The turns of a record in the order of their tickets: phases don't fall, nor do the calls of a CPU, and each CPU uses what it has in hand.
use Rattle.std.proofs.Common.{◌≡◌, inl, inr, ℕ, zero, suc, ◌+◌, ◌<◌, ◌≤◌, Bool, true, false, ◌&&◌, cond, eqb, ltb, List, [], ◌∷◌, ◌++◌, length, map, Option, None, Some, refl, ap, sym, ◌∙◌, subst, ⊎_elim, arith}
use Rattle.std.specs.Prelude.{filter, slice_get, MatchOption, ⊤}
use Rattle.std.specs.List.{range_with_len}
use Rattle.std.proofs.lemmas.Bool.{cases_lt, cond-true, cond-false, eq-eqb, ne_eqb, eqb-true, lt-ltb, le-ltb, ltb-true}
use Rattle.std.proofs.lemmas.Option.{none-some, same_Some}
use Rattle.map_types.specs.ElementLists.{put}
use Rattle.map_types.specs.Kind.{is_lru}
use Rattle.map_types.proofs.RowLemmas.{by_test}
use Rattle.map_script.specs.declared.script.Script.{Script}
use Rattle.map_script.specs.WellFormed.{AreCuts}
use Rattle.place_words.specs.declared.history.Strand.{Strand}
use Rattle.place_words.specs.Interleaving.{Drawn, turn_of, tickets_of}
use Rattle.place_words.specs.Named.{entries_of}
use Rattle.place_words.specs.Phases.{phase_of, phase_count, calls_before, of_phase}
use Rattle.place_words.specs.Tickets.{AscendIn, ticket_at}
use Rattle.place_words.proofs.ElementLemmas.{put_here, put_else}
use Rattle.map_report.specs.declared.record.PhaseStart.{PhaseStart}
use Rattle.map_report.specs.declared.record.RunRecord.{RunRecord}
use Rattle.map_report.specs.Record.{IsRecord, StartsRise, IsInItsPhase, has_cpu}
use Rattle.turn_order.specs.Ordered.{ordered}
use Rattle.turn_order.specs.OrderLaws.{turn_count}
use Rattle.turn_order.proofs.InOrder.{ascend_filter, ticket_from}
use Rattle.turn_order.proofs.LockOrder.{in_history}
use Rattle.turn_order.proofs.Members.{IsAmong, among_all, among_filter, filter_among, place_among}
use Rattle.turn_order.proofs.TicketOrder.{among_range, ordered_ascend}
use Rattle.step_check.proofs.Begun.{Stands}
use Rattle.step_check.proofs.InRecords.{any_here, cpu_within, of_strand, phase_within}
use Rattle.step_check.proofs.RecordLocks.{each_of, record_once, record_apart, record_lock, record_ascend}
use Rattle.step_check.proofs.StepTurns.{drawn_by}
use Rattle.step_check.proofs.StrandCalls.{keeps_all, keeps_none, picks_less}
use Rattle.step_check.proofs.StrandOrder.{in_strand, strand_is}
use Rattle.race_words.proofs.Hands.{Hand, hand, HandRuns, hand_after}
use Rattle.race_words.proofs.Inner.{Ascend, CallsRise}
use Rattle.race_words.proofs.PlainRuns.{HandsAlong}
use Rattle.race_words.proofs.StrandHands.{is_own, own, OwnRuns, own_both, TurnsRise, strand_hands, strand_rises}
use Rattle.place_words.specs.declared.history.StrandStep.{StrandStep}

-- Members

pub stands_among : (y : Drawn) (xs : List Drawn) → Stands y xs → IsAmong y xs
stands_among y [] at = at
stands_among y (x ∷ xs) (inl same) = inl same
stands_among y (x ∷ xs) (inr at) = inr (stands_among y xs at)

pub ascend_of : (from : ℕ) (xs : List Drawn) (to : ℕ) → AscendIn from (tickets_of xs) to → Ascend xs
ascend_of from [] to ascend = tt
ascend_of from (x ∷ xs) to ascend =
    (λ y at. let above = ticket_from (suc x.entry.ticket) xs to y ascend.1 (stands_among y xs at) in omega (arith, above), ascend_of (suc x.entry.ticket) xs to ascend.1)

-- a number that doesn't fall along turns
abbrev pub Climbs : (Drawn → ℕ) → List Drawn → Type 0
Climbs f [] = Unit {0}
Climbs f (x ∷ xs) = ((y : Drawn) → IsAmong y xs → f x ≤ f y) × Climbs f xs

pub climbs_filter : (f : Drawn → ℕ) (p : Drawn → Bool) (xs : List Drawn) → Climbs f xs → Climbs f (filter p xs)
climbs_filter f p [] climbs = tt
climbs_filter f p (x ∷ xs) climbs = by (p x) (climbs_filter f p xs climbs.1)
  where
    by : (b : Bool) → Climbs f (filter p xs) → Climbs f (cond b (x ∷ filter p xs) (filter p xs))
    by true rest = (λ y there. climbs.0 y (filter_among p y xs there).0, rest)
    by false rest = rest

-- those with the least number come first
pub least_first : (f : Drawn → ℕ) (p : ℕ) (xs : List Drawn) → Climbs f xs → ((x : Drawn) → IsAmong x xs → p ≤ f x) → filter (λ x. eqb (f x) p) xs ++ filter (λ x. ltb p (f x)) xs ≡ xs
least_first f p [] climbs least = refl
least_first f p (x ∷ xs) climbs least = ⊎_elim
    (λ (above : p < f x).
    ap (λ (l : List Drawn). l ++ filter (λ x. ltb p (f x)) (x ∷ xs))
    (keeps_none (λ x. eqb (f x) p) (x ∷ xs) (λ y there. ne_eqb (f y) p (λ same. omega (arith, same, above, far y there))))
    ∙ keeps_all (λ x. ltb p (f x)) (x ∷ xs) (λ y there. lt-ltb p (f y) (omega (arith, above, far y there))))
    (λ (low : f x ≤ p).
    let same : f x ≡ p = omega (arith, low, least x (inl refl)) in
    ap (λ (l : List Drawn). l ++ filter (λ x. ltb p (f x)) (x ∷ xs)) (cond-true (eqb (f x) p) (x ∷ filter (λ x. eqb (f x) p) xs) (filter (λ x. eqb (f x) p) xs) (eq-eqb (f x) p same))
    ∙ ap (λ (l : List Drawn). (x ∷ filter (λ x. eqb (f x) p) xs) ++ l) (cond-false (ltb p (f x)) (x ∷ filter (λ x. ltb p (f x)) xs) (filter (λ x. ltb p (f x)) xs) (le-ltb p (f x) low))
    ∙ ap (λ (l : List Drawn). x ∷ l) (least_first f p xs climbs.1 (λ y there. least y (inr there))))
    (cases_lt p (f x))
  where
    far : (y : Drawn) → IsAmong y (x ∷ xs) → f x ≤ f y
    far y (inl same) = omega (arith, ap f same)
    far y (inr there) = climbs.0 y there

-- by classes
by_classes : (f : Drawn → ℕ) (cpu : ℕ) (spare : ℕ → Option ℕ) (m p : ℕ) (xs : List Drawn) → Climbs f xs → ((x : Drawn) → IsAmong x xs → (p ≤ f x) × (f x < p + m))
    → ((q : ℕ) → p ≤ q → q < p + m → OwnRuns cpu (spare q) (filter (λ x. eqb (f x) q) xs) (spare (suc q))) → OwnRuns cpu (spare p) xs (spare (p + m))
by_classes f cpu spare zero p [] climbs within each = let same : p + 0 ≡ p = omega arith in ap (λ (q : ℕ). hand (spare q) None) (sym same)
by_classes f cpu spare zero p (x ∷ xs) climbs within each = let both = within x (inl refl) in absurd (omega (arith, both.0, both.1))
by_classes f cpu spare (suc m) p xs climbs within each =
    let later : List Drawn = filter (λ x. ltb p (f x)) xs in
    let next : suc p + m ≡ p + suc m = omega arith in
    subst (λ (l : List Drawn). OwnRuns cpu (spare p) l (spare (p + suc m))) (least_first f p xs climbs (λ x there. (within x there).0))
    (own_both cpu (spare p) (spare (suc p)) (spare (p + suc m)) (filter (λ x. eqb (f x) p) xs) later (each p (omega arith) (omega arith))
    (subst (λ (k : ℕ). OwnRuns cpu (spare (suc p)) later (spare k)) next
    (by_classes f cpu spare m (suc p) later (climbs_filter f (λ x. ltb p (f x)) xs climbs)
    (λ x there.
    let found = filter_among (λ x. ltb p (f x)) x xs there in
    let above = ltb-true p (f x) found.1 in
    let both = within x found.0 in
    (omega (arith, above), omega (arith, both.1)))
    (λ q low high.
    subst (λ (l : List Drawn). OwnRuns cpu (spare q) l (spare (suc q)))
    (sym (picks_less (λ x. eqb (f x) q) (λ x. ltb p (f x)) xs (λ x there is. lt-ltb p (f x) (let same = eqb-true (f x) q is in omega (arith, same, low)))))
    (each q (omega (arith, low)) (omega (arith, high)))))))

-- what two tests pick behind a third, where they are alike
picks_alike : (p q r : Drawn → Bool) (xs : List Drawn) → ((x : Drawn) → p x ≡ true → q x ≡ r x) → filter p (filter q xs) ≡ filter p (filter r xs)
picks_alike p q r [] alike = refl
picks_alike p q r (x ∷ xs) alike = by (p x) refl (q x) refl (r x) refl (picks_alike p q r xs alike)
  where
    both : (b c d : Bool) → p x ≡ b → (b ≡ true → c ≡ d) → filter p (filter q xs) ≡ filter p (filter r xs) → filter p (cond c (x ∷ filter q xs) (filter q xs)) ≡ filter p (cond d (x ∷ filter r xs) (filter r xs))
    both true true true is same rest = cond-true (p x) _ _ is ∙ ap (λ (l : List Drawn). x ∷ l) rest ∙ sym (cond-true (p x) _ _ is)
    both true false false is same rest = rest
    both true true false is same rest = absurd (let no : true ≡ false = same refl in cc)
    both true false true is same rest = absurd (let no : false ≡ true = same refl in cc)
    both false true true is same rest = cond-false (p x) _ _ is ∙ rest ∙ sym (cond-false (p x) _ _ is)
    both false false false is same rest = rest
    both false true false is same rest = cond-false (p x) _ _ is ∙ rest
    both false false true is same rest = rest ∙ sym (cond-false (p x) _ _ is)

    by : (b : Bool) → p x ≡ b → (c : Bool) → q x ≡ c → (d : Bool) → r x ≡ d → filter p (filter q xs) ≡ filter p (filter r xs) → filter p (cond c (x ∷ filter q xs) (filter q xs)) ≡ filter p (cond d (x ∷ filter r xs) (filter r xs))
    by b is c q_is d r_is rest = both b c d is (λ yes. sym q_is ∙ alike x (is ∙ yes) ∙ r_is) rest

-- Calls of turns whose tickets ascend

rise_member : (from : ℕ) (xs : List Drawn) → TurnsRise from xs → (x : Drawn) → IsAmong x xs → from ≤ x.entry.call
rise_member from [] rise x there = absurd there
rise_member from (y ∷ xs) rise x (inl same) = subst (λ (w : Drawn). from ≤ w.entry.call) same rise.0
rise_member from (y ∷ xs) rise x (inr later) = let rest = rise_member y.entry.call xs rise.1 x later in omega (arith, rise.0, rest)

of_two : (from low : ℕ) (xs : List Drawn) (to : ℕ) → TurnsRise low xs → AscendIn from (tickets_of xs) to → (x y : Drawn) → IsAmong x xs → IsAmong y xs → x.entry.ticket < y.entry.ticket → x.entry.call ≤ y.entry.call
of_two from low [] to rise ascend x y one two less = absurd one
of_two from low (z ∷ xs) to rise ascend x y (inl first) (inl second) less = absurd (omega (arith, less, ap (λ (w : Drawn). w.entry.ticket) first, ap (λ (w : Drawn). w.entry.ticket) second))
of_two from low (z ∷ xs) to rise ascend x y (inl first) (inr two) less = let rest = rise_member z.entry.call xs rise.1 y two in omega (arith, rest, ap (λ (w : Drawn). w.entry.call) first)
of_two from low (z ∷ xs) to rise ascend x y (inr one) (inl second) less =
    let above = ticket_from (suc z.entry.ticket) xs to x ascend.1 one in absurd (omega (arith, above, less, ap (λ (w : Drawn). w.entry.ticket) second))
of_two from low (z ∷ xs) to rise ascend x y (inr one) (inr two) less = of_two (suc z.entry.ticket) z.entry.call xs to rise.1 ascend.1 x y one two less

-- calls of later phases have greater numbers
fewer : (cuts : List ℕ) (a b : ℕ) → a ≤ b → phase_of cuts a ≤ phase_of cuts b
fewer [] a b less = omega arith
fewer (cut ∷ cuts) a b less = by (ltb cut a) refl (ltb cut b) refl (fewer cuts a b less)
  where
    by : (c : Bool) → ltb cut a ≡ c → (d : Bool) → ltb cut b ≡ d → phase_of cuts a ≤ phase_of cuts b
        → length (cond c (cut ∷ filter (λ (k : ℕ). ltb k a) cuts) (filter (λ (k : ℕ). ltb k a) cuts)) ≤ length (cond d (cut ∷ filter (λ (k : ℕ). ltb k b) cuts) (filter (λ (k : ℕ). ltb k b) cuts))
    by true is true also rest = omega (arith, rest)
    by true is false also rest = let low = ltb-true cut a is in absurd (let no : true ≡ false = sym (lt-ltb cut b (omega (arith, low, less))) ∙ also in cc)
    by false is true also rest = omega (arith, rest)
    by false is false also rest = rest

-- Starts of phases

at_least : (least count : ℕ) (ps : List PhaseStart) → AreCuts least count (map (λ (p : PhaseStart). p.ticket) ps) → (j : ℕ) (b : PhaseStart) → slice_get ps j ≡ Some b → least ≤ b.ticket
at_least least count [] cuts j b at = absurd (none-some b at)
at_least least count (p ∷ ps) cuts zero b at = omega (arith, cuts.0, ap (λ (q : PhaseStart). q.ticket) (same_Some p b at))
at_least least count (p ∷ ps) cuts (suc j) b at = let rest = at_least p.ticket count ps cuts.2 j b at in omega (arith, cuts.0, rest)

-- before a start there is another, which isn't later
record StartsBy (ps : List PhaseStart) (i : ℕ) (b : PhaseStart) : Type 0 where
  start : PhaseStart
  at : slice_get ps i ≡ Some start
  low : start.ticket ≤ b.ticket

starts_by : (least count : ℕ) (ps : List PhaseStart) → AreCuts least count (map (λ (p : PhaseStart). p.ticket) ps) → (i j : ℕ) (b : PhaseStart) → i ≤ j → slice_get ps j ≡ Some b → StartsBy ps i b
starts_by least count [] cuts i j b low at = absurd (none-some b at)
starts_by least count (p ∷ ps) cuts zero zero b low at = record { start = p; at = refl; low = omega (arith, ap (λ (q : PhaseStart). q.ticket) (same_Some p b at)) }
starts_by least count (p ∷ ps) cuts zero (suc j) b low at = record { start = p; at = refl; low = at_least p.ticket count ps cuts.2 j b at }
starts_by least count (p ∷ ps) cuts (suc i) zero b low at = absurd (omega (arith, low))
starts_by least count (p ∷ ps) cuts (suc i) (suc j) b low at =
    let rest : StartsBy ps i b = starts_by p.ticket count ps cuts.2 i j b (omega (arith, low)) at in
    record { start = rest.start; at = rest.at; low = rest.low }

module _ (script : Script) (kept : RunRecord) (record_is : IsRecord script kept) where
  abbrev turns : List Drawn
  turns = ordered kept.histories

  abbrev phase_at : Drawn → ℕ
  phase_at x = phase_of script.cuts x.entry.call

  pub ordered_in : AscendIn 0 (tickets_of turns) (turn_count kept.histories)
  ordered_in = ordered_ascend kept.histories (record_once script kept record_is)

  in_phase : (x : Drawn) → IsAmong x turns → IsInItsPhase script.cuts kept.phases x.entry
  in_phase x there =
      among_all (IsInItsPhase script.cuts kept.phases) x.entry (entries_of kept.histories x.lock) (each_of (IsInItsPhase script.cuts kept.phases) kept.histories record_is.in_phases x.lock)
      (in_history kept.histories (record_once script kept record_is) (record_apart script kept record_is) x there)

  -- the strand of a CPU in a phase
  record StrandAt (p cpu : ℕ) : Type 0 where
    number : ℕ
    strand : Strand
    at : slice_get kept.strands number ≡ Some strand
    phase_is : strand.phase ≡ p
    has : has_cpu cpu strand.cpus ≡ true

  some_strand : (p : ℕ) (found : Option Strand) → MatchOption found ⊥ (λ (strand : Strand). strand.phase ≡ p) → (strand : Strand) × (found ≡ Some strand) × (strand.phase ≡ p)
  some_strand p None is = absurd is
  some_strand p (Some strand) is = (strand, refl, is)

  strand_at : (p cpu : ℕ) → p < phase_count script.cuts → cpu < script.shape.cpus → StrandAt p cpu
  strand_at p cpu few within =
      let number : ℕ = record_is.strand_of p cpu in
      let some = some_strand p (slice_get kept.strands number) (record_is.in_strand p cpu few within) in
      record {
        number = number;
        strand = some.0;
        at = some.1;
        phase_is = some.2;
        has = subst (λ (cpus : List ℕ). has_cpu cpu cpus ≡ true) (sym (record_is.cpus_are number some.0 some.1).1)
            (any_here cpu (filter (λ c. eqb (record_is.strand_of some.0.phase c) number) (range_with_len 0 script.shape.cpus))
            (among_filter (λ c. eqb (record_is.strand_of some.0.phase c) number) cpu (range_with_len 0 script.shape.cpus)
            (eq-eqb (record_is.strand_of some.0.phase cpu) number (ap (λ (q : ℕ). record_is.strand_of q cpu) some.2))
            (among_range cpu 0 script.shape.cpus (omega arith) (omega (arith, within)))));
      }

  module _ {p cpu : ℕ} (its : StrandAt p cpu) where
    abbrev steps : List StrandStep
    steps = its.strand.steps

    abbrev of_its : Drawn → Bool
    of_its x = in_strand script.cuts its.strand.phase its.strand.cpus x.entry

    strand_turns : drawn_by kept.histories its.strand.steps ≡ filter of_its turns
    strand_turns =
        strand_is kept.histories (record_once script kept record_is) (record_apart script kept record_is) script.cuts its.strand.phase its.strand.cpus its.strand.steps
        (λ lock one. record_is.steps its.number its.strand its.at lock (record_lock script kept record_is lock one))
        (among_all (λ (s : Strand). AscendIn 0 (map (ticket_at kept.histories) s.steps) (turn_count kept.histories)) its.strand kept.strands record_is.tickets.in_strands (place_among its.strand kept.strands its.number its.at))

    strand_climbs : (x y : Drawn) → IsAmong x turns → IsAmong y turns → of_its x ≡ true → of_its y ≡ true → x.entry.ticket < y.entry.ticket → x.entry.call ≤ y.entry.call
    strand_climbs x y one two mine too less =
        let first : ℕ = suc (calls_before script.cuts (length script.calls) its.strand.phase) in
        let rise : TurnsRise first (filter of_its turns) =
        subst (λ (l : List Drawn). TurnsRise first l) strand_turns
        (strand_rises script.shape kept.histories (turn_count kept.histories) (record_ascend script kept record_is) its.strand.cpus first (of_phase script.cuts its.strand.phase script.calls) (of_phase script.cuts its.strand.phase kept.replies)
        (record_is.spares its.strand.phase) (record_is.spares (suc its.strand.phase)) its.strand.steps (record_is.calls_are its.number its.strand its.at)) in
        of_two 0 first (filter of_its turns) (turn_count kept.histories) rise (ascend_filter of_its 0 turns (turn_count kept.histories) ordered_in) x y (among_filter of_its x turns mine one) (among_filter of_its y turns too two) less

    strand_own : is_lru script.shape.kind ≡ false → OwnRuns cpu (record_is.spares p cpu) (filter (λ x. eqb (phase_at x) p) turns) (record_is.spares (suc p) cpu)
    strand_own plain =
        let runs : OwnRuns cpu (record_is.spares its.strand.phase cpu) (drawn_by kept.histories its.strand.steps) (record_is.spares (suc its.strand.phase) cpu) =
        strand_hands script.shape plain kept.histories (turn_count kept.histories) (record_ascend script kept record_is) its.strand.cpus (suc (calls_before script.cuts (length script.calls) its.strand.phase))
        (of_phase script.cuts its.strand.phase script.calls) (of_phase script.cuts its.strand.phase kept.replies) (record_is.spares its.strand.phase) (record_is.spares (suc its.strand.phase)) its.strand.steps
        (record_is.calls_are its.number its.strand its.at) cpu its.has in
        let same : own cpu (drawn_by kept.histories its.strand.steps) ≡ own cpu (filter (λ x. eqb (phase_at x) p) turns) =
        ap (own cpu) strand_turns
        ∙ picks_alike (is_own cpu) of_its (λ x. eqb (phase_at x) p) turns (λ x is.
        ap (λ (c : ℕ). eqb (phase_at x) its.strand.phase && has_cpu c its.strand.cpus) (eqb-true x.entry.cpu cpu is)
        ∙ ap (λ (b : Bool). eqb (phase_at x) its.strand.phase && b) its.has
        ∙ and_true (eqb (phase_at x) its.strand.phase)
        ∙ ap (eqb (phase_at x)) its.phase_is) in
        subst (λ (l : List Drawn). HandRuns (hand (record_is.spares p cpu) None) (map turn_of l) (hand (record_is.spares (suc p) cpu) None)) same
        (subst (λ (q : ℕ). OwnRuns cpu (record_is.spares q cpu) (drawn_by kept.histories its.strand.steps) (record_is.spares (suc q) cpu)) its.phase_is runs)
      where
        and_true : (b : Bool) → (b && true) ≡ b
        and_true true = refl
        and_true false = refl

  -- Where the tickets of the starts of phases never fall
  module _ (rise : StartsRise kept) where
    -- phases don't fall as tickets rise
    pub phases_rise : (x y : Drawn) → IsAmong x turns → IsAmong y turns → x.entry.ticket < y.entry.ticket → phase_at x ≤ phase_at y
    phases_rise x y one two less = ⊎_elim
        (λ (back : phase_at y < phase_at x).
        let its = in_phase x one in
        let other = in_phase y two in
        let next : StartsBy kept.phases (suc (phase_at y)) its.start = starts_by 0 _ kept.phases rise (suc (phase_at y)) (phase_at x) its.start (omega (arith, back)) its.start_is in
        let before : y.entry.ticket < next.start.ticket = subst (λ (o : Option PhaseStart). MatchOption o ⊤ (λ (p : PhaseStart). y.entry.ticket < p.ticket)) next.at other.to in
        absurd (omega (arith, before, next.low, its.from, less)))
        (λ (up : phase_at x ≤ phase_at y). up)
        (cases_lt (phase_at y) (phase_at x))

    climbs_from : (xs : List Drawn) → ((x : Drawn) → IsAmong x xs → IsAmong x turns) → Ascend xs → Climbs phase_at xs
    climbs_from [] inside ascend = tt
    climbs_from (x ∷ xs) inside ascend = (
      λ y there. phases_rise x y (inside x (inl refl)) (inside y (inr there)) (ascend.0 y (among_stands y xs there)),
      climbs_from xs (λ y there. inside y (inr there)) ascend.1,
    )
      where
        among_stands : (y : Drawn) (ys : List Drawn) → IsAmong y ys → Stands y ys
        among_stands y [] at = at
        among_stands y (z ∷ ys) (inl same) = inl same
        among_stands y (z ∷ ys) (inr at) = inr (among_stands y ys at)

    -- the calls of a CPU
    calls_of_cpu : (x y : Drawn) → IsAmong x turns → IsAmong y turns → y.entry.cpu ≡ x.entry.cpu → x.entry.ticket < y.entry.ticket → x.entry.call ≤ y.entry.call
    calls_of_cpu x y one two cpu less = ⊎_elim
        (λ (up : phase_at x < phase_at y). ⊎_elim
        (λ (back : y.entry.call < x.entry.call). absurd (omega (arith, up, fewer script.cuts y.entry.call x.entry.call (omega (arith, back)))))
        (λ (least : x.entry.call ≤ y.entry.call). least)
        (cases_lt y.entry.call x.entry.call))
        (λ (low : phase_at y ≤ phase_at x).
        let same : phase_at y ≡ phase_at x = omega (arith, low, phases_rise x y one two less) in
        let its : StrandAt (phase_at x) x.entry.cpu = strand_at (phase_at x) x.entry.cpu (phase_within script.cuts x.entry.call) (cpu_within script kept record_is x one) in
        strand_climbs its x y one two
        (of_strand script kept record_is its.strand x its.phase_is its.has)
        (of_strand script kept record_is its.strand y (its.phase_is ∙ sym same) (subst (λ (c : ℕ). has_cpu c its.strand.cpus ≡ true) (sym cpu) its.has))
        less)
        (cases_lt (phase_at x) (phase_at y))

    rises_from : (xs : List Drawn) → ((x : Drawn) → IsAmong x xs → IsAmong x turns) → Ascend xs → CallsRise xs
    rises_from [] inside ascend = tt
    rises_from (x ∷ xs) inside ascend = (
      λ y at cpu. calls_of_cpu x y (inside x (inl refl)) (inside y (inr (stands_among y xs at))) cpu (ascend.0 y at),
      rises_from xs (λ y there. inside y (inr there)) ascend.1,
    )

    pub calls_rise : CallsRise turns
    calls_rise = rises_from turns (λ x there. there) (ascend_of 0 turns (turn_count kept.histories) ordered_in)

    module _ (plain : is_lru script.shape.kind ≡ false) where
      -- each CPU's hand
      pub own_runs : (cpu : ℕ) → cpu < script.shape.cpus → OwnRuns cpu (record_is.spares 0 cpu) turns (record_is.spares (phase_count script.cuts) cpu)
      own_runs cpu within =
          let all : 0 + phase_count script.cuts ≡ phase_count script.cuts = omega arith in
          subst (λ (n : ℕ). OwnRuns cpu (record_is.spares 0 cpu) turns (record_is.spares n cpu)) all
          (by_classes phase_at cpu (λ p. record_is.spares p cpu) (phase_count script.cuts) 0 turns (climbs_from turns (λ x there. there) (ascend_of 0 turns (turn_count kept.histories) ordered_in))
          (λ x there. (omega arith, let few = phase_within script.cuts x.entry.call in omega (arith, few)))
          (λ q low high. strand_own (strand_at q cpu (omega (arith, high)) within) plain))

-- From each CPU's turns to all
pub hands_along : (cpus : ℕ) (turns : List Drawn) (hands last : ℕ → Hand) → ((x : Drawn) → IsAmong x turns → x.entry.cpu < cpus) → ((cpu : ℕ) → cpu < cpus → HandRuns (hands cpu) (map turn_of (own cpu turns)) (last cpu)) → HandsAlong hands turns
hands_along cpus [] hands last within runs = tt
hands_along cpus (x ∷ later) hands last within runs =
    let mine : HandRuns (hands x.entry.cpu) (map turn_of (x ∷ own x.entry.cpu later)) (last x.entry.cpu) =
    subst (λ (l : List Drawn). HandRuns (hands x.entry.cpu) (map turn_of l) (last x.entry.cpu))
    (cond-true (eqb x.entry.cpu x.entry.cpu) (x ∷ own x.entry.cpu later) (own x.entry.cpu later) (eq-eqb x.entry.cpu x.entry.cpu refl)) (runs x.entry.cpu (within x (inl refl))) in
    let next : Hand = hand_after (hands x.entry.cpu) x.entry.part in (
      mine.0,
      hands_along cpus later (put hands x.entry.cpu next) last (λ y there. within y (inr there)) (λ cpu few.
          by_test cpu x.entry.cpu (λ _. HandRuns (put hands x.entry.cpu next cpu) (map turn_of (own cpu later)) (last cpu))
          (λ same. subst (λ (c : ℕ). HandRuns (put hands x.entry.cpu next c) (map turn_of (own c later)) (last c)) (sym same)
          (subst (λ (h : Hand). HandRuns h (map turn_of (own x.entry.cpu later)) (last x.entry.cpu)) (sym (put_here hands x.entry.cpu next)) mine.1))
          (λ other.
          subst (λ (h : Hand). HandRuns h (map turn_of (own cpu later)) (last cpu)) (sym (put_else hands x.entry.cpu next cpu other))
          (subst (λ (l : List Drawn). HandRuns (hands cpu) (map turn_of l) (last cpu)) (cond-false (eqb x.entry.cpu cpu) (x ∷ own cpu later) (own cpu later) (ne_eqb x.entry.cpu cpu (λ is. other (sym is)))) (runs cpu few)))),
    )
