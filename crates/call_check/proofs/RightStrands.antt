-- Where each call is right, and strands and tickets are, each strand is a concatenation of its calls.
use Rattle.std.proofs.Common.{◌≡◌, ◌≢◌, ◌⊎◌, inl, inr, ℕ, suc, ◌+◌, ◌-◌, ◌<◌, ◌≤◌, Bool, true, false, List, [], ◌∷◌, ◌++◌, length, map, Option, None, Some, refl, ap, sym, ◌∙◌, subst, arith}
use Rattle.std.specs.Prelude.{option_map, option_to_list, slice_get, unwrap_or}
use Rattle.std.proofs.lemmas.Bool.{cases_lt, eq-eqb, eqb-true}
use Rattle.std.proofs.lemmas.Option.{same_Some, slice_get_within}
use Rattle.map_types.specs.declared.attr.Shape.{Shape}
use Rattle.map_types.specs.declared.call.Call.{Call}
use Rattle.map_types.specs.declared.reply.Reply.{Reply}
use Rattle.map_script.specs.declared.script.Script.{Script}
use Rattle.map_script.specs.WellFormed.{IsWellFormed}
use Rattle.place_words.specs.declared.history.Entry.{Entry}
use Rattle.place_words.specs.declared.history.Strand.{Strand}
use Rattle.place_words.specs.declared.history.StrandStep.{StrandStep}
use Rattle.place_words.specs.Interleaving.{Drawn}
use Rattle.place_words.specs.Named.{entries_of, NameAll}
use Rattle.place_words.specs.Phases.{phase_of, calls_before, of_phase}
use Rattle.place_words.specs.Tickets.{AreTicketed}
use Rattle.place_words.specs.Traces.{IsTrace}
use Rattle.place_words.specs.Turns.{TurnAt}
use Rattle.place_words.specs.Walks.{spare_left}
use Rattle.map_report.specs.declared.record.RunRecord.{RunRecord}
use Rattle.map_report.specs.Record.{IsConcatenation, has_cpu}
use Rattle.map_report.proofs.CutLemmas.{is_behind, is_within}
use Rattle.record_shape.specs.ShapedParts.{RepliesFit}
use Rattle.record_shape.specs.WellShaped.{WellShaped}
use Rattle.record_flaws.specs.StrandFlaws.{AreStrandsRight, is_call_of, is_own_call, passes}
use Rattle.turn_order.specs.Ordered.{ordered}
use Rattle.turn_order.specs.OrderLaws.{turn_count}
use Rattle.turn_order.proofs.Members.{IsAmong, among_all, among_filter, among_flat, among_back, filter_among, flat_among}
use Rattle.turn_order.proofs.TicketOrder.{ordered_all}
use Rattle.call_check.proofs.PlacedTurns.{at_of}
use Rattle.call_check.proofs.StepTurns.{drawn_at, drawn_by}
use Rattle.call_check.proofs.Filtered.{keeps_none}
use Rattle.call_check.specs.By.{IsTraceBy}
use Rattle.call_check.specs.RightCalls.{IsRightAt, IsRightCall, call_named, is_of_call, is_of_cpu, named_by, spare_first, steps_of_call, turns_named}
use Rattle.call_check.proofs.BelowTicket.{drawn_of}
use Rattle.call_check.proofs.CallSpares.{OnOwnCpus, at_call, on_cpu, past_call}
use Rattle.call_check.proofs.CarriedSpares.{trace_to}
use Rattle.call_check.proofs.Concatenated.{Rises, rises_lower, rises_of}
use Rattle.call_check.proofs.Joined.{AreJoined, IsJoined, joins}
use Rattle.call_check.proofs.KnownTurns.{HasStrands, StrandIs, apart, ascend, fits, has_its, is_in_it, low, strand_at, turns_by}
use Rattle.call_check.proofs.NamedTurns.{all_member, call_at, cpu_at, names_of, step_of}
use Rattle.call_check.proofs.PhaseCalls.{at_all, many, number_phase, phase_at, rises, something_at}
use Rattle.call_check.proofs.PhaseMoments.{CallsRise}
use Rattle.call_check.proofs.RisingCalls.{calls_rise}
use Rattle.call_check.proofs.SparesInOrder.{carries, spare_by}

-- one reply for each call
pub as_many : (shape : Shape) (calls : List Call) (replies : List Reply) → RepliesFit shape calls replies → length replies ≡ length calls
as_many shape [] [] fit = refl
as_many shape [] (reply ∷ replies) fit = absurd fit
as_many shape (call ∷ calls) [] fit = absurd fit
as_many shape (call ∷ calls) (reply ∷ replies) fit = ap suc (as_many shape calls replies fit.1)

module _ (script : Script) (kept : RunRecord) (formed : IsWellFormed script) (well : WellShaped script kept) (are : AreStrandsRight script kept) (ticketed : AreTicketed kept.histories kept.strands)
    (right : (place : ℕ) → place < length script.calls → IsRightAt script kept place) where
  abbrev start : ℕ → ℕ
  start p = calls_before script.cuts (length script.calls) p

  abbrev calls_in : ℕ → List Call
  calls_in p = of_phase script.cuts p script.calls

  abbrev spare : ℕ → ℕ → Option ℕ
  spare cpu number = spare_by script.shape kept.histories cpu number

  pub strands_are : HasStrands script kept
  strands_are = record { strand_of = are.strand_of; in_strand = are.in_strand; cpus_are = are.cpus_are; steps = are.steps }

  pub replies_many : length kept.replies ≡ length script.calls
  replies_many = as_many script.shape script.calls kept.replies well.replies

  -- a call is right in the strand of its CPU
  right_in : (place : ℕ) (call : Call) (n : ℕ) (strand : Strand) → slice_get script.calls place ≡ Some call → slice_get kept.strands n ≡ Some strand → phase_of script.cuts (suc place) ≡ strand.phase
      → has_cpu call.cpu strand.cpus ≡ true → (reply : Reply) × (slice_get kept.replies place ≡ Some reply) × IsRightCall script kept (suc place) call reply strand
  right_in place call n strand called at phase has =
      let less : place < length script.calls = slice_get_within script.calls place call called in
      let found = something_at kept.replies place (omega (arith, less, replies_many)) in
      (found.0, found.1, right place less call found.0 strand n called found.1 at (sym phase) has)

  -- What the steps of a strand name

  record Named (strand : Strand) (step : StrandStep) : Type 0 where
    entry : Entry
    named_is : named_by kept.histories step ≡ Some entry
    there : IsAmong {A = Drawn} (record { lock = step.lock; entry = entry }) (ordered kept.histories)
    phase_is : phase_of script.cuts entry.call ≡ strand.phase
    has : has_cpu entry.cpu strand.cpus ≡ true

  some_entry : (test : Entry → Bool) (o : Option Entry) → passes test o ≡ true → (entry : Entry) × (o ≡ Some entry)
  some_entry test None is = absurd cc
  some_entry test (Some entry) is = (entry, refl)

  drawn_there : (step : StrandStep) (e : Entry) → named_by kept.histories step ≡ Some e → IsAmong {A = Drawn} (record { lock = step.lock; entry = e }) (option_to_list (drawn_at kept.histories step))
  drawn_there step e at =
      subst (λ (o : Option Entry). IsAmong {A = Drawn} (record { lock = step.lock; entry = e }) (option_to_list (option_map (λ (entry : Entry). record { lock = step.lock; entry = entry }) o))) (sym at) (inl refl)

  module _ (n : ℕ) (strand : Strand) (at : slice_get kept.strands n ≡ Some strand) where
    names_one : (step : StrandStep) → IsAmong step strand.steps → Named strand step
    names_one step inside =
        let found = some_entry (is_call_of script.calls strand.cpus) (slice_get (entries_of kept.histories step.lock) step.index)
        (all_member (is_own_call script kept strand) strand.steps (are.own_calls n strand at) step inside) in
        let its = is_in_it script kept well ticketed strands_are n strand at (record { lock = step.lock; entry = found.0 })
        (among_flat (λ (s : StrandStep). option_to_list (drawn_at kept.histories s)) step (record { lock = step.lock; entry = found.0 }) strand.steps inside (drawn_there step found.0 found.1)) in
        record { entry = found.0; named_is = found.1; there = its.0; phase_is = its.1; has = its.2 }

    -- each turn of the strand is named by a step
    named_one : (x : Drawn) → IsAmong x (drawn_by kept.histories strand.steps) → (step : StrandStep) × IsAmong step strand.steps × (named_by kept.histories step ≡ Some x.entry)
    named_one x there =
        let found = flat_among (λ (s : StrandStep). option_to_list (drawn_at kept.histories s)) x strand.steps there in
        (found.0, found.1, by found.0 (named_by kept.histories found.0) refl found.2)
      where
        by : (step : StrandStep) (o : Option Entry) → named_by kept.histories step ≡ o → IsAmong x (option_to_list (option_map (λ (entry : Entry). record { lock = step.lock; entry = entry }) o)) → named_by kept.histories step ≡ Some x.entry
        by step None at here = absurd here
        by step (Some e) at (inl same) = at ∙ ap (λ (w : Drawn). Some w.entry) same
        by step (Some e) at (inr none) = absurd none

  -- Each entry of a call is of the call's CPU: its strand has none but those of calls of its CPUs.
  pub own_cpus : OnOwnCpus script kept
  own_cpus x there place call called number =
      by (strand_at script kept well ticketed strands_are (phase_of script.cuts x.entry.call) x.entry.cpu (number_phase script formed x.entry.call) (fits script kept well x (ordered_all kept.histories x there)).cpu)
    where
      by : StrandIs kept (phase_of script.cuts x.entry.call) x.entry.cpu → x.entry.cpu ≡ call.cpu
      by its =
          let found = named_one its.place its.strand its.at x (has_its script kept well ticketed strands_are its.place its.strand its.at x there (sym its.phase_is) its.has) in
          let step : StrandStep = found.0 in
          let own : is_own_call script kept its.strand step ≡ true = all_member (is_own_call script kept its.strand) its.strand.steps (are.own_calls its.place its.strand its.at) step found.1 in
          let before : x.entry.call - 1 ≡ place = omega (arith, number) in
          let has : has_cpu call.cpu its.strand.cpus ≡ true =
          sym (ap (λ (o : Option Call). unwrap_or (option_map (λ (c : Call). has_cpu c.cpu its.strand.cpus) o) false) (ap (slice_get script.calls) before ∙ called))
          ∙ (sym (ap (passes (is_call_of script.calls its.strand.cpus)) found.2) ∙ own) in
          let here = (right_in place call its.place its.strand called its.at (sym (ap (phase_of script.cuts) number) ∙ sym its.phase_is) has).2 in
          let inside : IsAmong step (steps_of_call kept.histories (suc place) its.strand.steps) =
          among_filter (is_of_call kept.histories (suc place)) step its.strand.steps (eq-eqb (call_named kept.histories step) (suc place) (call_at kept.histories step x.entry found.2 ∙ number)) found.1 in
          eqb-true x.entry.cpu call.cpu
          (sym (cpu_at kept.histories call.cpu step x.entry found.2) ∙ all_member (is_of_cpu kept.histories call.cpu) (steps_of_call kept.histories (suc place) its.strand.steps) here.its_cpu step inside)

  -- A strand

  module _ (n : ℕ) (strand : Strand) (at : slice_get kept.strands n ≡ Some strand) where
    -- the number of the call of a step, as a place of the script
    record Called (step : StrandStep) : Type 0 where
      place : ℕ
      call : Call
      called : slice_get script.calls place ≡ Some call
      number : call_named kept.histories step ≡ suc place
      phase_is : phase_of script.cuts (suc place) ≡ strand.phase
      has : has_cpu call.cpu strand.cpus ≡ true

    called_by : (step : StrandStep) → IsAmong step strand.steps → Called step
    called_by step inside = by (names_one n strand at step inside)
      where
        by : Named strand step → Called step
        by names =
            let x : Drawn = record { lock = step.lock; entry = names.entry } in
            let fit = fits script kept well x (ordered_all kept.histories x names.there) in
            let some : 1 ≤ names.entry.call = fit.some_call in
            let few : names.entry.call ≤ length script.calls = fit.of_script in
            let place : ℕ = names.entry.call - 1 in
            let number : names.entry.call ≡ suc place = omega (arith, some) in
            let found = something_at script.calls place (omega (arith, few, number)) in
            record {
              place = place;
              call = found.0;
              called = found.1;
              number = call_at kept.histories step names.entry names.named_is ∙ number;
              phase_is = sym (ap (phase_of script.cuts) number) ∙ names.phase_is;
              has = sym (ap (λ (c : ℕ). has_cpu c strand.cpus) (own_cpus x names.there place found.0 found.1 number)) ∙ names.has;
            }

    in_order : (before later : List StrandStep) (step other : StrandStep) → strand.steps ≡ before ++ step ∷ later → IsAmong other later → call_named kept.histories step ≤ call_named kept.histories other
    in_order before later step other is there = by (cases_lt (call_named kept.histories other) (call_named kept.histories step))
        (called_by other (subst (λ (l : List StrandStep). IsAmong other l) (sym is) (among_back other before (step ∷ later) (inr there))))
      where
        by : (call_named kept.histories other < call_named kept.histories step) ⊎ (call_named kept.histories step ≤ call_named kept.histories other) → Called other → call_named kept.histories step ≤ call_named kept.histories other
        by (inr least) its = least
        by (inl below) its =
            let here = (right_in its.place its.call n strand its.called at its.phase_is its.has).2 in
            let number = its.number in
            absurd (among_all (λ (s : StrandStep). call_named kept.histories s ≢ suc its.place) other later (here.in_order before later step is (omega (arith, below, number))) there its.number)

    least_number : (step : StrandStep) → IsAmong step strand.steps → suc (start strand.phase) ≤ call_named kept.histories step
    least_number step inside =
        let its = called_by step inside in
        let behind : start (phase_of script.cuts (suc its.place)) < suc its.place = is_behind script.cuts (length script.calls) (rises script formed) (suc its.place) (omega arith) in
        let number = its.number in
        let same : start (phase_of script.cuts (suc its.place)) ≡ start strand.phase = ap start its.phase_is in
        omega (arith, behind, number, same)

    most_number : (step : StrandStep) → IsAmong step strand.steps → call_named kept.histories step ≤ start (suc strand.phase)
    most_number step inside =
        let its = called_by step inside in
        let less : its.place < length script.calls = slice_get_within script.calls its.place its.call its.called in
        let within : suc its.place ≤ start (suc (phase_of script.cuts (suc its.place))) = is_within script.cuts (length script.calls) (rises script formed) (suc its.place) (omega (arith, less)) in
        let number = its.number in
        let same : start (suc (phase_of script.cuts (suc its.place))) ≡ start (suc strand.phase) = ap (λ (p : ℕ). start (suc p)) its.phase_is in
        omega (arith, within, number, same)

    rising : Rises kept.histories (suc (start strand.phase)) strand.steps
    rising = rises_of kept.histories (suc (start strand.phase)) strand.steps least_number in_order

  -- so what its CPUs have before a turn goes by calls too
  pub rise : CallsRise script.cuts kept.histories
  rise =
      calls_rise script kept formed well ticketed strands_are
      (λ n strand at. rises_lower kept.histories 0 (suc (start strand.phase)) strand.steps (omega arith) (rising n strand at))

  -- Its calls

  module _ (n : ℕ) (strand : Strand) (at : slice_get kept.strands n ≡ Some strand) where
    pub joined_call : (place : ℕ) (call : Call) (reply : Reply) → slice_get script.calls place ≡ Some call → slice_get kept.replies place ≡ Some reply → phase_of script.cuts (suc place) ≡ strand.phase
        → has_cpu call.cpu strand.cpus ≡ true → IsJoined script.shape kept.histories spare (suc place) call reply (steps_of_call kept.histories (suc place) strand.steps)
    joined_call place call reply called answered phase has = by (right_in place call n strand called at phase has)
      where
        by : (answer : Reply) × (slice_get kept.replies place ≡ Some answer) × IsRightCall script kept (suc place) call answer strand
            → IsJoined script.shape kept.histories spare (suc place) call reply (steps_of_call kept.histories (suc place) strand.steps)
        by found =
            let steps : List StrandStep = steps_of_call kept.histories (suc place) strand.steps in
            let here = found.2 in
            let same : found.0 ≡ reply = same_Some found.0 reply (sym found.1 ∙ answered) in
            let names : NameAll kept.histories call.cpu (suc place) steps (turns_named kept.histories steps) =
            names_of kept.histories (turn_count kept.histories) (ascend script kept well ticketed strands_are) call.cpu (suc place) steps
            (λ step inside. step_of kept.histories call.cpu (suc place) (omega arith) step
            (eqb-true (call_named kept.histories step) (suc place) (filter_among (is_of_call kept.histories (suc place)) step strand.steps inside).1)
            (all_member (is_of_cpu kept.histories call.cpu) steps here.its_cpu step inside)) in
            let all : turns_named kept.histories steps ≡ map (at_of kept.histories) (drawn_of (suc place) (ordered kept.histories)) =
            turns_by script kept well ticketed strands_are n strand at (suc place) call.cpu (omega arith) phase has (on_cpu script kept well ticketed own_cpus place call called) (turns_named kept.histories steps) names in
            let by_spares : IsTraceBy script.shape call.cpu (spare_first script.cuts script.shape kept.histories call.cpu) call.verb (map (at_of kept.histories) (drawn_of (suc place) (ordered kept.histories))) reply =
            subst (λ (r : Reply). IsTraceBy script.shape call.cpu (spare_first script.cuts script.shape kept.histories call.cpu) call.verb (map (at_of kept.histories) (drawn_of (suc place) (ordered kept.histories))) r) same
            (subst (λ (l : List TurnAt). IsTraceBy script.shape call.cpu (spare_first script.cuts script.shape kept.histories call.cpu) call.verb l found.0) all here.trace) in
            record {
              turns = turns_named kept.histories steps;
              names = names;
              trace = subst (λ (l : List TurnAt). IsTrace script.shape call.cpu (spare call.cpu (suc place)) call.verb l reply) (sym all)
                  (trace_to script.shape call.cpu (spare_first script.cuts script.shape kept.histories call.cpu) (spare call.cpu (suc place)) (map (at_of kept.histories) (drawn_of (suc place) (ordered kept.histories)))
                  (carries script.shape kept.histories ticketed.each_once (low script kept well) script.cuts rise (apart script kept well) ticketed.in_histories call.cpu (suc place) (on_cpu script kept well ticketed own_cpus place call called))
                  call.verb reply by_spares);
              next = at_call script kept well ticketed own_cpus place call called ∙ ap (spare_left script.shape (spare call.cpu (suc place))) (sym all);
            }

    absent_call : (place : ℕ) (call : Call) → slice_get script.calls place ≡ Some call → has_cpu call.cpu strand.cpus ≡ false → steps_of_call kept.histories (suc place) strand.steps ≡ []
    absent_call place call called off =
        keeps_none (is_of_call kept.histories (suc place)) strand.steps
        (λ step inside. by step (called_by n strand at step inside) (is_of_call kept.histories (suc place) step) refl)
      where
        by : (step : StrandStep) → Called n strand at step → (b : Bool) → is_of_call kept.histories (suc place) step ≡ b → b ≡ false
        by step its false is = refl
        by step its true is =
            let same : its.place ≡ place = let number = its.number in let here = eqb-true (call_named kept.histories step) (suc place) is in omega (arith, number, here) in
            let one : its.call ≡ call = same_Some its.call call (sym its.called ∙ (ap (slice_get script.calls) same ∙ called)) in
            absurd (let no : true ≡ false = sym its.has ∙ (ap (λ (c : Call). has_cpu c.cpu strand.cpus) one ∙ off) in cc)

    are_joined : AreJoined script.shape kept.histories strand.cpus spare strand.steps (suc (start strand.phase)) (calls_in strand.phase) (of_phase script.cuts strand.phase kept.replies)
    are_joined = record {
      here = λ m number call reply is there answered has.
          let place_is : number ≡ suc (start strand.phase + m) = omega (arith, is) in
          subst (λ (k : ℕ). IsJoined script.shape kept.histories spare k call reply (steps_of_call kept.histories k strand.steps)) (sym place_is)
          (joined_call (start strand.phase + m) call reply (at_all script formed strand.phase script.calls refl m call there) (at_all script formed strand.phase kept.replies replies_many m reply answered)
          (phase_at script formed strand.phase m (slice_get_within (calls_in strand.phase) m call there)) has);
      stays = λ m number call is there cpu other.
          let place_is : number ≡ suc (start strand.phase + m) = omega (arith, is) in
          subst (λ (k : ℕ). spare cpu (suc k) ≡ spare cpu k) (sym place_is)
          (past_call script kept well ticketed own_cpus (start strand.phase + m) call (at_all script formed strand.phase script.calls refl m call there) cpu other);
      absent = λ m number call is there off.
          let place_is : number ≡ suc (start strand.phase + m) = omega (arith, is) in
          subst (λ (k : ℕ). steps_of_call kept.histories k strand.steps ≡ []) (sym place_is) (absent_call (start strand.phase + m) call (at_all script formed strand.phase script.calls refl m call there) off);
    }

    -- the spares with which a phase starts
    pub calls_are : IsConcatenation script.shape kept.histories strand.cpus (suc (start strand.phase)) (calls_in strand.phase) (of_phase script.cuts strand.phase kept.replies)
        (λ (cpu : ℕ). spare cpu (suc (start strand.phase))) (λ (cpu : ℕ). spare cpu (suc (start (suc strand.phase)))) strand.steps
    calls_are =
        let calls_many = many script formed strand.phase script.calls refl in
        let replies_as = many script formed strand.phase kept.replies replies_many in
        let end : suc (start strand.phase) + length (calls_in strand.phase) ≡ suc (start (suc strand.phase)) = omega (arith, calls_many) in
        joins script.shape kept.histories strand.cpus spare strand.steps (suc (start strand.phase)) (calls_in strand.phase) (of_phase script.cuts strand.phase kept.replies)
        (λ (cpu : ℕ). spare cpu (suc (start strand.phase))) (λ (cpu : ℕ). spare cpu (suc (start (suc strand.phase)))) strand.steps (omega (arith, calls_many, replies_as)) are_joined
        (record {
          rises = rising n strand at;
          few = λ step inside. let most = most_number n strand at step inside in omega (arith, most, end);
          theirs = λ k above. refl;
          now = λ cpu has. refl;
          end = λ cpu has. ap (spare cpu) (sym end);
        })
