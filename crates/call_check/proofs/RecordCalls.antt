-- Each call of a record is right.
use Rattle.std.proofs.Common.{◌≡◌, ◌≢◌, ◌⊎◌, inl, inr, ℕ, zero, suc, ◌+◌, ◌<◌, ◌≤◌, Bool, true, false, List, length, map, Option, Some, refl, ap, sym, ◌∙◌, subst, arith}
use Rattle.std.specs.Prelude.{slice_get}
use Rattle.std.proofs.lemmas.Bool.{cases_eq, eq-eqb}
use Rattle.std.proofs.lemmas.Option.{same_Some}
use Rattle.map_types.specs.ElementLists.{put}
use Rattle.map_types.specs.declared.call.Call.{Call}
use Rattle.map_types.specs.declared.reply.Reply.{Reply}
use Rattle.map_script.specs.declared.script.Script.{Script}
use Rattle.map_script.specs.WellFormed.{IsWellFormed}
use Rattle.place_words.specs.declared.history.Strand.{Strand}
use Rattle.place_words.specs.Named.{entries_of, NameAll}
use Rattle.place_words.specs.Phases.{phase_of, phase_count, calls_before, of_phase}
use Rattle.place_words.specs.Traces.{IsTrace}
use Rattle.place_words.specs.Turns.{TurnAt}
use Rattle.place_words.specs.Walks.{spare_left}
use Rattle.map_report.specs.declared.record.RunRecord.{RunRecord}
use Rattle.map_report.specs.Record.{IsRecord, has_cpu}
use Rattle.map_report.specs.Turns.{spare_at}
use Rattle.record_shape.specs.WellShaped.{WellShaped}
use Rattle.record_shape.proofs.CallsOf.{entry_of_call, replies_long}
use Rattle.turn_order.specs.Ordered.{ordered}
use Rattle.turn_order.specs.OrderLaws.{turn_count}
use Rattle.turn_order.proofs.Members.{among_at}
use Rattle.turn_order.proofs.LockOrder.{in_history, its_lock}
use Rattle.call_check.proofs.PlacedTurns.{at_of}
use Rattle.call_check.specs.By.{IsTraceBy}
use Rattle.call_check.specs.RightCalls.{IsRightAt, IsRightCall, is_of_cpu, spare_first, spare_last, steps_of_call, turns_named}
use Rattle.call_check.proofs.BelowTicket.{drawn_of}
use Rattle.call_check.proofs.CallSpares.{OnOwnCpus, at_call, at_first, on_cpu, past_call}
use Rattle.call_check.proofs.CarriedSpares.{trace_from}
use Rattle.call_check.proofs.Concatenated.{Carried, MadeAt, carried_on, rises_apart, rises_lower}
use Rattle.call_check.proofs.KnownTurns.{HasStrands, StrandIs, a_lock, apart, ascend, low, real_cpu, strand_at, turns_by}
use Rattle.call_check.proofs.LastSpares.{last_are}
use Rattle.call_check.proofs.NamedTurns.{cpu_at, member_all, named_of, turns_are}
use Rattle.call_check.proofs.PhaseCalls.{InPhase, all_done, at_all, at_phase, its_phase, many, phase_at, something_at}
use Rattle.call_check.proofs.PhaseMoments.{CallsRise}
use Rattle.call_check.proofs.RisingCalls.{calls_rise}
use Rattle.call_check.proofs.SparesInOrder.{carries, put_at, put_beside, spare_by}

module _ (script : Script) (kept : RunRecord) (formed : IsWellFormed script) (well : WellShaped script kept) (is : IsRecord script kept) where
  abbrev start : ℕ → ℕ
  start p = calls_before script.cuts (length script.calls) p

  abbrev calls_in : ℕ → List Call
  calls_in p = of_phase script.cuts p script.calls

  abbrev spare : ℕ → ℕ → Option ℕ
  spare cpu number = spare_by script.shape kept.histories cpu number

  strands : HasStrands script kept
  strands = record { strand_of = is.strand_of; in_strand = is.in_strand; cpus_are = is.cpus_are; steps = is.steps }

  own_cpus : OnOwnCpus script kept
  own_cpus x there place call called number =
      let found = among_at x.entry (entries_of kept.histories x.lock) (in_history kept.histories is.tickets.each_once (apart script kept well) x there) in
      let of = entry_of_call script kept formed is x.lock found.0 x.entry found.1 (a_lock script kept well x.lock (its_lock kept.histories is.tickets.each_once (apart script kept well) x there)) in
      let same : of.n ≡ place = let own = of.number in omega (arith, own, number) in
      of.cpu ∙ ap (λ (c : Call). c.cpu) (same_Some of.call call (sym of.called ∙ (ap (slice_get script.calls) same ∙ called)))

  -- The spares along a strand

  module _ (n : ℕ) (strand : Strand) (at : slice_get kept.strands n ≡ Some strand) where
    abbrev IsCarried : Type 0
    IsCarried =
        Carried script.shape kept.histories strand.cpus (suc (start strand.phase)) (calls_in strand.phase) (of_phase script.cuts strand.phase kept.replies) (is.spares strand.phase) (is.spares (suc strand.phase))
        strand.steps

    pub carried : IsCarried
    carried =
        carried_on script.shape kept.histories strand.cpus (suc (start strand.phase)) (calls_in strand.phase) (of_phase script.cuts strand.phase kept.replies) (is.spares strand.phase) (is.spares (suc strand.phase))
        strand.steps (is.calls_are n strand at)

    -- the turns that a call names are all that there are of it
    all_turns : (place : ℕ) (call : Call) → slice_get script.calls place ≡ Some call → phase_of script.cuts (suc place) ≡ strand.phase → has_cpu call.cpu strand.cpus ≡ true
        → (turns : List TurnAt) → NameAll kept.histories call.cpu (suc place) (steps_of_call kept.histories (suc place) strand.steps) turns
        → turns ≡ map (at_of kept.histories) (drawn_of (suc place) (ordered kept.histories))
    all_turns place call called phase has turns names =
        turns_by script kept well is.tickets strands n strand at (suc place) call.cpu (omega arith) phase has (on_cpu script kept well is.tickets own_cpus place call called) turns names

    module _ (c : IsCarried) where
      -- one call more
      past : (m place : ℕ) (call : Call) → slice_get script.calls place ≡ Some call → phase_of script.cuts (suc place) ≡ strand.phase → suc place ≡ suc (start strand.phase) + m
          → slice_get (calls_in strand.phase) m ≡ Some call
          → ((cpu : ℕ) → has_cpu cpu strand.cpus ≡ true → c.now m cpu ≡ spare cpu (suc place)) → (cpu : ℕ) → has_cpu cpu strand.cpus ≡ true → c.now (suc m) cpu ≡ spare cpu (suc (suc place))
      past m place call called phase number there before cpu has = by (has_cpu call.cpu strand.cpus) refl
        where
          after_own : has_cpu call.cpu strand.cpus ≡ true → (reply : Reply) → MadeAt script.shape kept.histories strand.steps (c.now m) (c.now (suc m)) (suc place) call reply → (cpu ≡ call.cpu) ⊎ (cpu ≡ call.cpu → ⊥)
              → c.now (suc m) cpu ≡ spare cpu (suc (suc place))
          after_own on reply made (inl same) =
              ap (λ (f : ℕ → Option ℕ). f cpu) made.next_is
              ∙ (ap (put (c.now m) call.cpu (spare_left script.shape (c.now m call.cpu) made.turns)) same
              ∙ (put_at (c.now m) call.cpu (spare_left script.shape (c.now m call.cpu) made.turns)
              ∙ (ap (λ (s : Option ℕ). spare_left script.shape s made.turns) (before call.cpu on)
              ∙ (ap (spare_left script.shape (spare call.cpu (suc place))) (all_turns place call called phase on made.turns made.names)
              ∙ (sym (at_call script kept well is.tickets own_cpus place call called) ∙ ap (λ (p : ℕ). spare p (suc (suc place))) (sym same))))))
          after_own on reply made (inr other) =
              ap (λ (f : ℕ → Option ℕ). f cpu) made.next_is
              ∙ (put_beside (c.now m) call.cpu (spare_left script.shape (c.now m call.cpu) made.turns) cpu other
              ∙ (before cpu has ∙ sym (past_call script kept well is.tickets own_cpus place call called cpu other)))

          by : (b : Bool) → has_cpu call.cpu strand.cpus ≡ b → c.now (suc m) cpu ≡ spare cpu (suc (suc place))
          by true on = let made = c.made m (suc place) call number there on in after_own on made.0 made.2 (cases_eq cpu call.cpu)
          by false off =
              let other : cpu ≢ call.cpu = λ same. absurd (let no : true ≡ false = sym has ∙ (ap (λ (p : ℕ). has_cpu p strand.cpus) same ∙ off) in cc) in
              ap (λ (f : ℕ → Option ℕ). f cpu) (c.passed m call there off) ∙ (before cpu has ∙ sym (past_call script kept well is.tickets own_cpus place call called cpu other))

      pub along : ((cpu : ℕ) → has_cpu cpu strand.cpus ≡ true → is.spares strand.phase cpu ≡ spare cpu (suc (start strand.phase)))
          → (m : ℕ) → m ≤ length (calls_in strand.phase) → (cpu : ℕ) → has_cpu cpu strand.cpus ≡ true → c.now m cpu ≡ spare cpu (suc (start strand.phase + m))
      along begin zero few cpu has =
          let same : suc (start strand.phase) ≡ suc (start strand.phase + 0) = omega arith in ap (λ (f : ℕ → Option ℕ). f cpu) c.first ∙ (begin cpu has ∙ ap (spare cpu) same)
      along begin (suc m) few cpu has =
          let found = something_at (calls_in strand.phase) m (omega (arith, few)) in
          let more : suc (suc (start strand.phase + m)) ≡ suc (start strand.phase + suc m) = omega arith in
          past m (start strand.phase + m) found.0 (at_all script formed strand.phase script.calls refl m found.0 found.1) (phase_at script formed strand.phase m (omega (arith, few))) (omega arith) found.1
          (along begin m (omega (arith, few))) cpu has
          ∙ ap (spare cpu) more

  rise : CallsRise script.cuts kept.histories
  rise =
      calls_rise script kept formed well is.tickets strands
      (λ n strand at. rises_lower kept.histories 0 (suc (start strand.phase)) strand.steps (omega arith) (carried n strand at).rises)

  -- from phase to phase
  pub at_phases : (p : ℕ) → p ≤ phase_count script.cuts → (cpu : ℕ) → cpu < script.shape.cpus → is.spares p cpu ≡ spare cpu (suc (start p))
  at_phases zero few cpu real = is.first_spares cpu ∙ sym (at_first script kept well is.tickets own_cpus cpu)
  at_phases (suc p) few cpu real = by (strand_at script kept well is.tickets strands p cpu (omega (arith, few)) real) (λ c within. at_phases p (omega (arith, few)) c within)
    where
      by : StrandIs kept p cpu → ((c : ℕ) → c < script.shape.cpus → is.spares p c ≡ spare c (suc (start p))) → is.spares (suc p) cpu ≡ spare cpu (suc (start (suc p)))
      by its before =
          let q : ℕ = its.strand.phase in
          let c = carried its.place its.strand its.at in
          let last : suc (start q + length (calls_in q)) ≡ suc (start (suc q)) = let whole = many script formed q script.calls refl in omega (arith, whole) in
          subst (λ (r : ℕ). is.spares (suc r) cpu ≡ spare cpu (suc (start (suc r)))) its.phase_is
          (c.end cpu its.has
          ∙ (along its.place its.strand its.at c
          (λ other has. subst (λ (r : ℕ). is.spares r other ≡ spare other (suc (start r))) (sym its.phase_is) (before other (real_cpu script kept well is.tickets strands its.place its.strand its.at other has)))
          (length (calls_in q)) (omega arith) cpu its.has
          ∙ ap (spare cpu) last))

  -- A call

  module _ (place : ℕ) (call : Call) (reply : Reply) (strand : Strand) (n : ℕ) (called : slice_get script.calls place ≡ Some call) (answered : slice_get kept.replies place ≡ Some reply)
      (at : slice_get kept.strands n ≡ Some strand) (phase : strand.phase ≡ phase_of script.cuts (suc place)) (has : has_cpu call.cpu strand.cpus ≡ true) where
    abbrev its_turns : List TurnAt
    its_turns = map (at_of kept.histories) (drawn_of (suc place) (ordered kept.histories))

    by_turns : (turns : List TurnAt) → NameAll kept.histories call.cpu (suc place) (steps_of_call kept.histories (suc place) strand.steps) turns
        → IsTrace script.shape call.cpu (spare call.cpu (suc place)) call.verb turns reply
        → IsTraceBy script.shape call.cpu (spare_first script.cuts script.shape kept.histories call.cpu) call.verb (turns_named kept.histories (steps_of_call kept.histories (suc place) strand.steps)) reply
    by_turns turns names trace =
        let are : turns ≡ its_turns = all_turns n strand at place call called (sym phase) has turns names in
        subst (λ (l : List TurnAt). IsTraceBy script.shape call.cpu (spare_first script.cuts script.shape kept.histories call.cpu) call.verb l reply)
        (sym are ∙ sym (turns_are kept.histories (turn_count kept.histories) (ascend script kept well is.tickets strands) call.cpu (suc place) (steps_of_call kept.histories (suc place) strand.steps) turns names))
        (trace_from script.shape call.cpu (spare_first script.cuts script.shape kept.histories call.cpu) (spare call.cpu (suc place)) its_turns
        (carries script.shape kept.histories is.tickets.each_once (low script kept well) script.cuts rise (apart script kept well) is.tickets.in_histories call.cpu (suc place) (on_cpu script kept well is.tickets own_cpus place call called))
        call.verb reply (subst (λ (l : List TurnAt). IsTrace script.shape call.cpu (spare call.cpu (suc place)) call.verb l reply) are trace))

    right_by : (c : IsCarried n strand at) (m : ℕ) → place ≡ start strand.phase + m → suc place ≤ start (suc strand.phase) → IsRightCall script kept (suc place) call reply strand
    right_by c m is_there within = by (c.made m (suc place) call (omega (arith, is_there)) (at_phase script formed script.calls refl strand.phase place m call is_there within called) has)
      where
        its_phase_is : phase_of script.cuts (suc place) ≡ strand.phase
        its_phase_is = sym phase

        first_spares : (cpu : ℕ) → has_cpu cpu strand.cpus ≡ true → is.spares strand.phase cpu ≡ spare cpu (suc (start strand.phase))
        first_spares cpu on = at_phases strand.phase (let below = (is.cpus_are n strand at).0 in omega (arith, below)) cpu (real_cpu script kept well is.tickets strands n strand at cpu on)

        few : m ≤ length (calls_in strand.phase)
        few = let whole = many script formed strand.phase script.calls refl in omega (arith, whole, is_there, within)

        by : (answer : Reply) × (slice_get (of_phase script.cuts strand.phase kept.replies) m ≡ Some answer) × MadeAt script.shape kept.histories strand.steps (c.now m) (c.now (suc m)) (suc place) call answer
            → IsRightCall script kept (suc place) call reply strand
        by found =
            let made = found.2 in
            let there : start strand.phase + m ≡ place = sym is_there in
            let same : found.0 ≡ reply =
            same_Some found.0 reply (sym (at_all script formed strand.phase kept.replies (replies_long script kept formed is) m found.0 found.1) ∙ (ap (slice_get kept.replies) there ∙ answered)) in
            let number : suc (start strand.phase + m) ≡ suc place = ap suc there in
            let now : c.now m call.cpu ≡ spare call.cpu (suc place) = along n strand at c first_spares m few call.cpu has ∙ ap (spare call.cpu) number in
            record {
              its_cpu = member_all (is_of_cpu kept.histories call.cpu) (steps_of_call kept.histories (suc place) strand.steps)
                  (λ step inside. let of = named_of kept.histories call.cpu (suc place) (steps_of_call kept.histories (suc place) strand.steps) made.turns made.names step inside in
                  cpu_at kept.histories call.cpu step of.entry of.at ∙ eq-eqb of.entry.cpu call.cpu of.cpu_is);
              trace = by_turns made.turns made.names
                  (subst (λ (s : Option ℕ). IsTrace script.shape call.cpu s call.verb made.turns reply) now (subst (λ (r : Reply). IsTrace script.shape call.cpu (c.now m call.cpu) call.verb made.turns r) same made.trace));
              in_order = rises_apart kept.histories (suc (start strand.phase)) (suc place) strand.steps c.rises;
            }

  pub right_at : (place : ℕ) → place < length script.calls → IsRightAt script kept place
  right_at place less call reply strand n called answered at phase has =
      let its : InPhase script formed place = its_phase script formed place less in
      right_by place call reply strand n called answered at phase has (carried n strand at) its.m
      (its.place_is ∙ ap (λ (p : ℕ). start p + its.m) (sym phase)) (subst (λ (p : ℕ). suc place ≤ start (suc p)) (sym phase) its.within)

  -- and what its CPUs have at the end is what their last replacements left
  pub last_spares : (cpu : ℕ) → spare_last script.cuts script.shape kept.histories cpu ≡ spare_at kept.finals cpu
  last_spares =
      last_are script kept formed well is.tickets own_cpus rise
      (λ cpu real. ap (λ (k : ℕ). spare cpu (suc k)) (sym (all_done script formed)) ∙ (sym (at_phases (phase_count script.cuts) (omega arith) cpu real) ∙ is.last_spares cpu))
