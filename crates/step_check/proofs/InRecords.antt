-- The turns of a record, in the order of their tickets: each is of a lock of the map and may be made where it stands, and wherever the
-- turns of a call stand among those of others, they are a trace of it, all of one CPU.
use Rattle.std.proofs.Common.{◌≡◌, ℕ, suc, ◌+◌, ◌<◌, ◌≤◌, Bool, true, false, ◌||◌, cond, eqb, ltb, List, [], ◌∷◌, length, map, refl, ap, sym, ◌∙◌, subst, arith, inl, inr}
use Rattle.std.specs.Prelude.{filter, MatchOption, Option, Some, None, slice_get}
use Rattle.std.specs.List.{range_with_len}
use Rattle.std.proofs.lemmas.Bool.{eq-eqb, eqb-true, and_from}
use Rattle.std.proofs.lemmas.Option.{same_Some}
use Rattle.map_types.specs.declared.attr.Shape.{Shape}
use Rattle.map_types.specs.declared.call.Call.{Call}
use Rattle.map_types.specs.declared.kind.DomainId.{DomainId}
use Rattle.map_script.specs.declared.script.Script.{Script}
use Rattle.place_words.specs.declared.history.Entry.{Entry}
use Rattle.place_words.specs.declared.history.Strand.{Strand}
use Rattle.place_words.specs.Histories.{AllAllowed, opening_content}
use Rattle.place_words.specs.Interleaving.{Drawn, entry_of, drawn_on, interleaved, AreEnabled, CoreRun}
use Rattle.place_words.specs.Locks.{is_lock}
use Rattle.place_words.specs.OpeningState.{opening}
use Rattle.place_words.specs.Named.{entries_of}
use Rattle.place_words.specs.Phases.{phase_of, phase_count, calls_before, of_phase}
use Rattle.place_words.specs.Tickets.{AscendIn, ticket_at}
use Rattle.place_words.specs.Traces.{IsTrace}
use Rattle.place_words.specs.Turns.{TurnAt}
use Rattle.map_report.specs.declared.record.RunRecord.{RunRecord}
use Rattle.map_report.specs.Record.{IsRecord, has_cpu}
use Rattle.core_runs.proofs.RaceLinks.{AllowAlong, AreOnLocks, legal_along}
use Rattle.turn_order.specs.InCalls.{CallInOrder, AreInOrder, turns_of_call}
use Rattle.turn_order.specs.Ordered.{ordered}
use Rattle.turn_order.specs.OrderLaws.{turn_count}
use Rattle.turn_order.proofs.Members.{IsAmong, among_all, all_among, among_filter, place_among}
use Rattle.turn_order.proofs.LockOrder.{in_history, its_lock, entries_on, one_order}
use Rattle.turn_order.proofs.TicketOrder.{among_range, ordered_tickets, ordered_ascend}
use Rattle.step_check.proofs.PlacedTurns.{at_of, placed_turns}
use Rattle.step_check.proofs.StepTurns.{drawn_by}
use Rattle.step_check.proofs.StrandCalls.{HasCall, call_found, is_call, picks_less}
use Rattle.step_check.proofs.StrandOrder.{in_strand, strand_has, strand_is}
use Rattle.step_check.proofs.RecordLocks.{each_of, record_once, record_ascends, record_apart, record_lock, record_legal, record_ascend}

-- Along the histories

each_on : (shape : Shape) (turns : List Drawn) → ((x : Drawn) → IsAmong x turns → is_lock shape x.lock ≡ true) → AreOnLocks shape turns
each_on shape [] each = tt
each_on shape (x ∷ turns) each = (each x (inl refl), each_on shape turns (λ y there. each y (inr there)))

module _ (script : Script) (kept : RunRecord) (record_is : IsRecord script kept) where
  pub on_locks : AreOnLocks script.shape (ordered kept.histories)
  on_locks =
      each_on script.shape (ordered kept.histories)
      (λ x there. record_lock script kept record_is x.lock (its_lock kept.histories (record_once script kept record_is) (record_apart script kept record_is) x there))

  -- on each lock they are its history
  pub entries_are : (lock : DomainId) → map entry_of (drawn_on lock (ordered kept.histories)) ≡ entries_of kept.histories lock
  entries_are lock = entries_on kept.histories (record_once script kept record_is) (record_apart script kept record_is) (record_ascends script kept record_is) lock

  pub allow_along : AllowAlong script.shape (opening_content script.shape) (ordered kept.histories)
  allow_along =
      legal_along script.shape (ordered kept.histories) (opening_content script.shape) on_locks
      (λ lock is. subst (λ (l : List Entry). AllAllowed script.shape (opening_content script.shape lock) l) (sym (entries_are lock)) (record_legal script kept record_is lock))

  -- A run of the core has them in this order, and they are a run where its steps are enabled.
  pub run_is_ordered : (run : CoreRun script.shape kept.histories) → run.turns ≡ ordered kept.histories
  run_is_ordered run =
      one_order kept.histories (record_once script kept record_is) (record_apart script kept record_is) run.turns run.in_order
      (λ lock one. run.histories_are lock (record_lock script kept record_is lock one))

  pub run_enabled : CoreRun script.shape kept.histories → AreEnabled script.shape (opening script.shape) (interleaved script.shape (opening_content script.shape) [] (ordered kept.histories))
  run_enabled run = subst (λ (turns : List Drawn). AreEnabled script.shape (opening script.shape) (interleaved script.shape (opening_content script.shape) [] turns)) (run_is_ordered run) run.are_enabled

  pub run_of_ordered : AreEnabled script.shape (opening script.shape) (interleaved script.shape (opening_content script.shape) [] (ordered kept.histories)) → CoreRun script.shape kept.histories
  run_of_ordered enabled = record {
    turns = ordered kept.histories;
    in_order = ordered_tickets kept.histories (record_once script kept record_is);
    histories_are = λ lock is. entries_are lock;
    are_enabled = enabled;
  }

-- CPUs and phases

pub any_here : (cpu : ℕ) (cpus : List ℕ) → IsAmong cpu cpus → has_cpu cpu cpus ≡ true
any_here cpu [] there = absurd there
any_here cpu (c ∷ cpus) (inl same) = ap (λ (b : Bool). b || has_cpu cpu cpus) (eq-eqb c cpu same)
any_here cpu (c ∷ cpus) (inr later) = by (eqb c cpu) (any_here cpu cpus later)
  where
    by : (b : Bool) → has_cpu cpu cpus ≡ true → (b || has_cpu cpu cpus) ≡ true
    by true rest = refl
    by false rest = rest

-- a phase is one of the script's
few : (p : ℕ → Bool) (xs : List ℕ) → length (filter p xs) ≤ length xs
few p [] = omega arith
few p (x ∷ xs) = by (p x) (few p xs)
  where
    by : (b : Bool) → length (filter p xs) ≤ length xs → length (cond b (x ∷ filter p xs) (filter p xs)) ≤ suc (length xs)
    by true rest = omega arith
    by false rest = omega arith

pub phase_within : (cuts : List ℕ) (number : ℕ) → phase_of cuts number < phase_count cuts
phase_within cuts number = let less = few (λ cut. ltb cut number) cuts in omega arith

module _ (script : Script) (kept : RunRecord) (record_is : IsRecord script kept) where
  abbrev turns : List Drawn
  turns = ordered kept.histories

  abbrev phase_at : Drawn → ℕ
  phase_at x = phase_of script.cuts x.entry.call

  -- the strand of a turn, and its call there
  record InStrand (x : Drawn) : Type 0 where
    pub number : ℕ
    pub strand : Strand
    pub strand_is_there : slice_get kept.strands number ≡ Some strand
    pub phase_is : strand.phase ≡ phase_at x
    pub has : has_cpu x.entry.cpu strand.cpus ≡ true
    pub found : HasCall script.shape kept.histories (suc (calls_before script.cuts (length script.calls) strand.phase)) (of_phase script.cuts strand.phase script.calls) strand.steps x

  pub cpu_within : (x : Drawn) → IsAmong x turns → x.entry.cpu < script.shape.cpus
  cpu_within x there =
      among_all (λ (entry : Entry). entry.cpu < script.shape.cpus) x.entry (entries_of kept.histories x.lock)
      (each_of (λ (entry : Entry). entry.cpu < script.shape.cpus) kept.histories record_is.on_cpus x.lock)
      (in_history kept.histories (record_once script kept record_is) (record_apart script kept record_is) x there)

  some_strand : (phase : ℕ) (found : Option Strand) → MatchOption found ⊥ (λ (strand : Strand). strand.phase ≡ phase) → (strand : Strand) × (found ≡ Some strand) × (strand.phase ≡ phase)
  some_strand phase None is = absurd is
  some_strand phase (Some strand) is = (strand, refl, is)

  pub of_strand : (strand : Strand) (x : Drawn) → strand.phase ≡ phase_at x → has_cpu x.entry.cpu strand.cpus ≡ true → in_strand script.cuts strand.phase strand.cpus x.entry ≡ true
  of_strand strand x phase has = and_from _ _ (eq-eqb (phase_at x) strand.phase (sym phase)) has

  strand_of_turn : (x : Drawn) → IsAmong x turns → InStrand x
  strand_of_turn x there =
      let cpu = cpu_within x there in
      let number : ℕ = record_is.strand_of (phase_at x) x.entry.cpu in
      by number refl (some_strand (phase_at x) (slice_get kept.strands number) (record_is.in_strand (phase_at x) x.entry.cpu (phase_within script.cuts x.entry.call) cpu))
    where
      by : (number : ℕ) → record_is.strand_of (phase_at x) x.entry.cpu ≡ number → (strand : Strand) × (slice_get kept.strands number ≡ Some strand) × (strand.phase ≡ phase_at x) → InStrand x
      by number is some =
          let strand : Strand = some.0 in
          let its : has_cpu x.entry.cpu strand.cpus ≡ true =
          subst (λ (cpus : List ℕ). has_cpu x.entry.cpu cpus ≡ true) (sym (record_is.cpus_are number strand some.1).1)
          (any_here x.entry.cpu (filter (λ cpu. eqb (record_is.strand_of strand.phase cpu) number) (range_with_len 0 script.shape.cpus))
          (among_filter (λ cpu. eqb (record_is.strand_of strand.phase cpu) number) x.entry.cpu (range_with_len 0 script.shape.cpus)
          (eq-eqb (record_is.strand_of strand.phase x.entry.cpu) number (ap (λ (p : ℕ). record_is.strand_of p x.entry.cpu) some.2 ∙ is))
          (among_range x.entry.cpu 0 script.shape.cpus (omega arith) (let less = cpu_within x there in omega arith)))) in
          let inside : IsAmong x (drawn_by kept.histories strand.steps) =
          strand_has kept.histories (record_once script kept record_is) (record_apart script kept record_is) script.cuts strand.phase strand.cpus strand.steps
          (λ lock one. record_is.steps number strand some.1 lock (record_lock script kept record_is lock one)) x there (of_strand strand x some.2 its) in
          record {
            number = number;
            strand = strand;
            strand_is_there = some.1;
            phase_is = some.2;
            has = its;
            found = call_found script.shape kept.histories (turn_count kept.histories) (record_ascend script kept record_is) strand.cpus
                (suc (calls_before script.cuts (length script.calls) strand.phase)) (of_phase script.cuts strand.phase script.calls) (of_phase script.cuts strand.phase kept.replies)
                (record_is.spares strand.phase) (record_is.spares (suc strand.phase)) strand.steps (record_is.calls_are number strand some.1) x inside;
          }

  -- Turns with one call's number are of one CPU: the number names the call.
  one_call : (first : ℕ) (calls : List Call) (j k : ℕ) (one other : Call) → slice_get calls j ≡ Some one → slice_get calls k ≡ Some other → first + j ≡ first + k → one ≡ other
  one_call first calls j k one other at there same =
      let place : j ≡ k = omega arith in
      same_Some one other (sym at ∙ (ap (slice_get calls) place ∙ there))

  same_cpu : (x y : Drawn) (one : InStrand x) (other : InStrand y) → y.entry.call ≡ x.entry.call → y.entry.cpu ≡ one.found.call.cpu
  same_cpu x y one other same = by other.strand.phase (other.phase_is ∙ (ap (phase_of script.cuts) same ∙ sym one.phase_is)) other.found
    where
      by : (phase : ℕ) → phase ≡ one.strand.phase
          → HasCall script.shape kept.histories (suc (calls_before script.cuts (length script.calls) phase)) (of_phase script.cuts phase script.calls) other.strand.steps y → y.entry.cpu ≡ one.found.call.cpu
      by phase is found =
          let first : ℕ = suc (calls_before script.cuts (length script.calls) one.strand.phase) in
          let number : y.entry.call ≡ first + found.at = found.number_is ∙ ap (λ (p : ℕ). suc (calls_before script.cuts (length script.calls) p) + found.at) is in
          let at : slice_get (of_phase script.cuts one.strand.phase script.calls) found.at ≡ Some found.call = ap (λ (p : ℕ). slice_get (of_phase script.cuts p script.calls) found.at) (sym is) ∙ found.call_is in
          found.cpu_is ∙ ap (λ (c : Call). c.cpu) (one_call first (of_phase script.cuts one.strand.phase script.calls) found.at one.found.at found.call one.found.call at one.found.call_is (sym number ∙ (same ∙ one.found.number_is)))

  call_of_turn : (x : Drawn) → IsAmong x turns → InStrand x → CallInOrder script.shape turns x.entry.call
  call_of_turn x there one =
      let strand : Strand = one.strand in
      let its : (y : Drawn) → IsAmong y turns → y.entry.call ≡ x.entry.call → y.entry.cpu ≡ one.found.call.cpu = λ y inside same. same_cpu x y one (strand_of_turn y inside) same in
      let picks : (y : Drawn) → IsAmong y turns → is_call x.entry.call y ≡ true → in_strand script.cuts strand.phase strand.cpus y.entry ≡ true =
      λ y inside is.
      let same : y.entry.call ≡ x.entry.call = eqb-true y.entry.call x.entry.call is in
      of_strand strand y (one.phase_is ∙ sym (ap (phase_of script.cuts) same))
      (subst (λ (cpu : ℕ). has_cpu cpu strand.cpus ≡ true) (one.found.cpu_is ∙ sym (its y inside same)) one.has) in
      let by_strand : drawn_by kept.histories strand.steps ≡ filter (λ (drawn : Drawn). in_strand script.cuts strand.phase strand.cpus drawn.entry) turns =
      strand_is kept.histories (record_once script kept record_is) (record_apart script kept record_is) script.cuts strand.phase strand.cpus strand.steps
      (λ lock is. record_is.steps one.number strand one.strand_is_there lock (record_lock script kept record_is lock is))
      (among_all (λ (s : Strand). AscendIn 0 (map (ticket_at kept.histories) s.steps) (turn_count kept.histories)) strand kept.strands record_is.tickets.in_strands
      (place_among strand kept.strands one.number one.strand_is_there)) in
      let its_turns : filter (is_call x.entry.call) (drawn_by kept.histories strand.steps) ≡ filter (is_call x.entry.call) turns =
      ap (filter (is_call x.entry.call)) by_strand
      ∙ picks_less (is_call x.entry.call) (λ (drawn : Drawn). in_strand script.cuts strand.phase strand.cpus drawn.entry) turns picks in
      let in_place : turns_of_call x.entry.call turns ≡ map (at_of kept.histories) (filter (is_call x.entry.call) turns) =
      placed_turns kept.histories (turn_count kept.histories) x.entry.call [] turns (ordered_ascend kept.histories (record_once script kept record_is)) (entries_are script kept record_is) in
      record {
        cpu = one.found.call.cpu;
        verb = one.found.call.verb;
        spare = one.found.spare;
        reply = one.found.reply;
        all_its = all_among (λ (drawn : Drawn). drawn.entry.call ≡ x.entry.call → drawn.entry.cpu ≡ one.found.call.cpu) turns its;
        trace = subst (λ (l : List TurnAt). IsTrace script.shape one.found.call.cpu one.found.spare one.found.call.verb l one.found.reply)
            (ap (map (at_of kept.histories)) its_turns ∙ sym in_place) one.found.trace;
      }

  pub are_in_order : AreInOrder script.shape (ordered kept.histories)
  are_in_order = all_among (λ (drawn : Drawn). CallInOrder script.shape turns drawn.entry.call) turns (λ x there. call_of_turn x there (strand_of_turn x there))
