-- A run in serial order of a map of any kind, by one pass that has all CPUs: from the table's opening to its close it leaves the
-- record of the run by the logs of the locks, where each of its calls is determined by its trace.
use Rattle.std.proofs.Common.{◌≡◌, ℕ, zero, suc, ◌+◌, ◌<◌, false, cond, List, [], ◌∷◌, ◌++◌, length, map, take, get_or, Some, refl, ap, ◌∙◌, sym, subst, arith}
use Rattle.std.specs.Prelude.{All, IsTrue, filter, slice_get}
use Rattle.std.specs.List.{range_with_len}
use Rattle.std.proofs.lemmas.List.{length-take-le, append_assoc}
use Rattle.std.proofs.lemmas.List.Elements.{All-nil}
use Rattle.std.proofs.lemmas.Option.{slice_get_read}
use Rattle.map_types.specs.Creation.{IsShape}
use Rattle.map_types.specs.declared.attr.Shape.{Shape}
use Rattle.map_types.specs.declared.call.Call.{Call}
use Rattle.map_types.specs.declared.kind.DomainId.{DomainId}
use Rattle.map_types.specs.declared.reply.Reply.{Reply}
use Rattle.map_types.proofs.CreationLemmas.{bounds_of_shape}
use Rattle.map_types.proofs.RowLemmas.{by_test}
use Rattle.place_words.specs.declared.history.LockHistory.{LockHistory}
use Rattle.place_words.specs.declared.history.StrandStep.{StrandStep}
use Rattle.place_words.specs.Locks.{is_lock, lock_count, lock_named, lock_number}
use Rattle.place_words.specs.Logs.{State, new_state, does, after_one, run, finals_of}
use Rattle.place_words.specs.Turns.{Turn}
use Rattle.place_words.proofs.LockLemmas.{named_by_number, number_within}
use Rattle.place_words.proofs.ShrinkProbes.{append_empty}
use Rattle.place_table.specs.declared.view.Ended.{Ended}
use Rattle.place_table.specs.declared.view.Turned.{Turned}
use Rattle.place_table.specs.declared.view.View.{View}
use Rattle.place_table.specs.Calls.{Called, element_of}
use Rattle.place_table.specs.Closing.{ClosedView, IsClosed, has_lock, history_of, state_left}
use Rattle.place_table.specs.Known.{turn_at}
use Rattle.place_table.specs.Passes.{PassView, TableView, begun, spare_of, IsFirstPass, IsKeptOf}
use Rattle.place_table.specs.Rules.{turns_on}
use Rattle.place_table.specs.Views.{is_among, known_log, bit_seen, numbers_below, no_turns, no_bits, has_all, all_strands, current_strand, place_of, kept_step, next}
use Rattle.place_table.proofs.TakeToGive.{first_has}
use Rattle.place_table.proofs.Going.{goes_of_table, kept_on}
use Rattle.place_table.proofs.Opens.{among}
use Rattle.place_table.proofs.Worlds.{all_here}
use Rattle.map_report.specs.Record.{locks_of}
use Rattle.map_report.specs.Runs.{steps_of_turns, steps_of_calls}
use Rattle.run_records.specs.ByLogs.{IsOfMap, KnowsState, RunStart, HaveRunFrom, HaveRun}
use Rattle.run_records.proofs.CallsByLogs.{IsDetermined, knows_next, spares_next, reply_next, run_more, answers_more, steps_more}
use Rattle.run_records.proofs.Closing.{kept_all, made_of_all, length_indexes}
use Rattle.serial_laws.proofs.FinalsByLogs.{IsSameState, same_finals}
use Rattle.file_order.proofs.FileOrder.{take_next}
use Rattle.run_records.proofs.SerialRun.{element_is, spare_first}
use Rattle.serial_laws.proofs.TurnsMade.{EachTurn}
use Rattle.run_records.proofs.Whole.{none_lost, no_losses, strands_of, strands_are_told, told_of_one}

-- what a run of these calls has come to
abbrev pub come_to : Shape → List Call → State
come_to shape calls = run shape 1 calls (new_state shape)

abbrev pub come_from : Shape → RunStart → List Call → State
come_from shape from calls = run shape from.number calls from.state

-- Before the first call

nothing_known : (k n : ℕ) → k < n → known_log k (no_turns n) ≡ Some []
nothing_known k zero few = absurd (omega (arith, few))
nothing_known k (suc n) few = by_test n k (λ b. cond b (Some []) (known_log k (no_turns n)) ≡ Some []) (λ _. refl) (λ other. nothing_known k n (omega (arith, few, other)))

pub no_bit_set : (e n : ℕ) → e < n → bit_seen e (no_bits n) ≡ Some false
no_bit_set e zero real = absurd (omega (arith, real))
no_bit_set e (suc n) real = by_test n e (λ b. cond b (Some false) (bit_seen e (no_bits n)) ≡ Some false) (λ _. refl) (λ other. no_bit_set e n (omega (arith, real, other)))

pub first_by_logs : (t : TableView) (p : PassView) → IsFirstPass t p → HaveRun t [] p []
first_by_logs t p first =
    let view = first.view_is in
    let no_steps : p.view.steps ≡ [] = ap (λ (v : View). v.steps) view in
    record {
      of_table = (first.table_is, ap (λ (v : View). v.shape) view);
      all_cpus = λ cpu real. first_has t p cpu first real;
      in_no_call = first.in_no_call;
      ended = ap (λ (v : View). v.ended) view;
      kept = subst (λ (v : View). IsKeptOf t.shape v.steps [] v.kept) (sym view) refl;
      knows = λ none. record {
        knows = record {
          all = ap has_all view ∙ all_here t.shape.cpus (numbers_below t.shape.cpus) (λ c less. among c t.shape.cpus less);
          each = λ k below there. ap (λ (v : View). known_log k v.known) view ∙ nothing_known k (lock_count t.shape) below;
        };
        bits = λ e real. ap (λ (v : View). bit_seen e v.bits) view ∙ no_bit_set e t.shape.elements real;
        counted = ap next view;
        steps_are = ap (map (λ (step : Turned). kept_step t.shape step.lock (place_of step))) no_steps;
        real = subst (All (IsOfMap t.shape)) (sym no_steps) (All-nil (IsOfMap t.shape));
      };
      spares = λ none cpu. element_is (spare_of cpu p.spares) ∙ spare_first t p first cpu (spare_of cpu p.spares) refl;
      answered = λ none. refl;
    }

-- One call more

-- what holds of each turn of a call, whatever the run had come to, as far as the pass knew that
abbrev TellsEach : (State → Turn → Type 0) → (t : TableView) (call : Call) (number : ℕ) (p q : PassView) (reply : Reply) → Called t (begun p call.cpu number) q call.verb reply → Type 0
TellsEach Fact t call number p q reply called =
    (state : State) (strand : List StrandStep) → KnowsState t.shape state strand p.view → called.lost ≡ [] → EachTurn Fact t.shape call.cpu number (map (turn_at t.shape) called.steps) state

module _ (Fact : State → Turn → Type 0) (t : TableView) (from : RunStart) (calls : List Call) (n : ℕ) (call : Call) (p q : PassView) (reply : Reply) (replies : List Reply)
    (shape_is : IsShape t.shape) (determined : IsDetermined Fact t.shape call.cpu (from.number + length (take n calls)) (come_from t.shape from (take n calls)) call.verb)
    (ran : HaveRunFrom t from (take n calls) p replies) (called : Called t (begun p call.cpu (from.number + length (take n calls))) q call.verb reply)
    (each : TellsEach Fact t call (from.number + length (take n calls)) p q reply called) where
  abbrev before : List Call
  before = take n calls

  abbrev number : ℕ
  number = from.number + length before

  abbrev state_before : State
  state_before = come_from t.shape from before

  abbrev strand_before : List StrandStep
  strand_before = from.steps ++ steps_of_calls t.shape from.number before from.state

  none_before : q.view.lost ≡ [] → (called.lost ≡ []) × (p.view.lost ≡ [])
  none_before none = append_empty called.lost p.view.lost (sym called.leaves.made.goes.lost_is ∙ none)

  knows_then : (none : q.view.lost ≡ []) → KnowsState t.shape (after_one t.shape number call state_before) (strand_before ++ steps_of_turns t.shape call.cpu number (does t.shape call.cpu number state_before call.verb).turns state_before) q.view
  knows_then none =
      knows_next Fact t state_before strand_before p q call number reply shape_is determined (ran.knows (none_before none).1) (ran.spares (none_before none).1) called (none_before none).0
      (each state_before strand_before (ran.knows (none_before none).1) (none_before none).0)

  spares_then : (none : q.view.lost ≡ []) (cpu : ℕ) → element_of (spare_of cpu q.spares) ≡ (after_one t.shape number call state_before).spares cpu
  spares_then none cpu =
      spares_next Fact t state_before strand_before p q call number reply shape_is determined (ran.knows (none_before none).1) (ran.spares (none_before none).1) called (none_before none).0
      (each state_before strand_before (ran.knows (none_before none).1) (none_before none).0) cpu

  replied_then : (none : q.view.lost ≡ []) → reply ≡ (does t.shape call.cpu number state_before call.verb).reply
  replied_then none =
      reply_next Fact t state_before strand_before p q call number reply shape_is determined (ran.knows (none_before none).1) (ran.spares (none_before none).1) called (none_before none).0
      (each state_before strand_before (ran.knows (none_before none).1) (none_before none).0)

  more_by_logs : HaveRunFrom t from (before ++ call ∷ []) q (replies ++ reply ∷ [])
  more_by_logs = record {
    of_table = goes_of_table t (begun p call.cpu number) q called.steps called.lost called.leaves.made.goes ran.of_table;
    all_cpus = λ cpu real. ap (is_among cpu) called.leaves.made.goes.cpus ∙ ran.all_cpus cpu real;
    in_no_call = called.leaves.in_no_call;
    ended = called.leaves.made.goes.ended ∙ ran.ended;
    kept = subst (λ (made : List Turned). IsKeptOf t.shape made [] q.view.kept) (sym called.leaves.made.goes.steps)
        (kept_on t.shape p.view.steps called.steps [] p.view.kept q.view.kept ran.kept
        (subst (λ (shape : Shape). IsKeptOf shape called.steps p.view.kept q.view.kept) ran.of_table.1 called.leaves.made.goes.kept));
    knows = λ none. subst (λ (strand : List StrandStep). KnowsState t.shape (come_from t.shape from (before ++ call ∷ [])) strand q.view) (sym (ap (λ (steps : List StrandStep). from.steps ++ steps) (steps_more t.shape from.number before call from.state) ∙ sym (append_assoc from.steps (steps_of_calls t.shape from.number before from.state) (steps_of_turns t.shape call.cpu number (does t.shape call.cpu number state_before call.verb).turns state_before))))
        (subst (λ (state : State). KnowsState t.shape state (strand_before ++ steps_of_turns t.shape call.cpu number (does t.shape call.cpu number state_before call.verb).turns state_before) q.view)
        (sym (run_more t.shape from.number before call from.state)) (knows_then none));
    spares = λ none cpu. spares_then none cpu ∙ ap (λ (state : State). state.spares cpu) (sym (run_more t.shape from.number before call from.state));
    answered = λ none. (λ i. ran.answered (none_before none).1 i ++ replied_then none i ∷ []) ∙ sym (answers_more t.shape from.number before call from.state);
  }

-- where the call is determined by its trace, under what holds of each of its turns
pub next_by_logs : (Fact : State → Turn → Type 0) (t : TableView) (from : RunStart) (calls : List Call) (n : ℕ) (call : Call) (p q : PassView) (number : ℕ) (reply : Reply) (replies after : List Reply)
    → IsShape t.shape → ((k : ℕ) → IsDetermined Fact t.shape call.cpu k (come_from t.shape from (take n calls)) call.verb) → n < length calls → call ≡ get_or calls n call → number ≡ from.number + n
    → HaveRunFrom t from (take n calls) p replies → (called : Called t (begun p call.cpu number) q call.verb reply)
    → TellsEach Fact t call number p q reply called → after ≡ replies ++ reply ∷ [] → HaveRunFrom t from (take (n + 1) calls) q after
next_by_logs Fact t from calls n call p q number reply replies after shape_is determined within is count ran called each pushed =
    let at : slice_get calls n ≡ Some call = slice_get_read calls (length calls) n call refl within is in
    let long : length (take n calls) ≡ n = length-take-le n calls (omega (arith, within)) in
    let number_is : number ≡ from.number + length (take n calls) = omega (arith, count, long) in
    let next : suc n ≡ n + 1 = omega arith in
    let more = subst (λ (k : ℕ). (c : Called t (begun p call.cpu k) q call.verb reply) → TellsEach Fact t call k p q reply c → HaveRunFrom t from (take n calls ++ call ∷ []) q (replies ++ reply ∷ [])) (sym number_is)
    (λ c holds. more_by_logs Fact t from calls n call p q reply replies shape_is (determined (from.number + length (take n calls))) ran c holds) in
    subst (λ (k : ℕ). HaveRunFrom t from (take k calls) q after) next
    (subst (λ (made : List Call). HaveRunFrom t from made q after) (sym (take_next calls n call at))
    (subst (HaveRunFrom t from (take n calls ++ call ∷ []) q) (sym pushed) (more called each)))

-- At the end

-- the history of a lock
abbrev pub history_in : State → DomainId → LockHistory
history_in state lock = record { lock = lock; entries = state.logs lock }

named_histories : (shape : Shape) (state : State) (ks : List ℕ) → map (λ (k : ℕ). history_in state (lock_named shape k)) ks ≡ map (history_in state) (map (lock_named shape) ks)
named_histories shape state [] = refl
named_histories shape state (k ∷ ks) = ap (λ (histories : List LockHistory). history_in state (lock_named shape k) ∷ histories) (named_histories shape state ks)

module _ (t : TableView) (calls : List Call) (p : PassView) (closed : ClosedView) (replies : List Reply) (shape_is : IsShape t.shape)
    (ran : HaveRun t calls p replies) (ends : IsClosed t.shape p closed) (whole : closed.lost ≡ false) where
  abbrev state_end : State
  state_end = come_to t.shape calls

  pub knows_end : KnowsState t.shape state_end (steps_of_calls t.shape 1 calls (new_state t.shape)) p.view
  knows_end = ran.knows (no_losses t.shape p closed ends whole)

  log_at : (k : ℕ) → k < lock_count t.shape → IsTrue (has_lock t.shape k) → ends.log k ≡ state_end.logs (lock_named t.shape k)
  log_at k below there = ends.known k (state_end.logs (lock_named t.shape k)) (knows_end.knows.each k below there)

  log_of : (lock : DomainId) → IsTrue (is_lock t.shape lock) → ends.log (lock_number t.shape lock) ≡ state_end.logs lock
  log_of lock there =
      let named = named_by_number t.shape lock there in
      log_at (lock_number t.shape lock) (number_within t.shape lock there) (subst (λ (l : DomainId). IsTrue (is_lock t.shape l)) (sym named) there) ∙ ap state_end.logs named

  pub histories_end : closed.histories ≡ map (history_in state_end) (locks_of t.shape)
  histories_end =
      ends.left.histories_are
      ∙ made_of_all (has_lock t.shape) ends.lost (history_of t.shape ends.log) (λ (k : ℕ). history_in state_end (lock_named t.shape k)) 0 (lock_count t.shape)
      (λ k low high there.
      let below : k < lock_count t.shape = omega (arith, high) in
      (none_lost t.shape p closed ends whole k below there, λ i. record { lock = lock_named t.shape k; entries = log_at k below there i }))
      ∙ named_histories t.shape state_end (filter (has_lock t.shape) (range_with_len 0 (lock_count t.shape)))

  -- each turn is recorded
  pub kept_end : p.view.kept ≡ map (λ (step : Turned). kept_step t.shape step.lock (place_of step)) p.view.steps
  kept_end =
      let only : slice_get (all_strands p.view) 0 ≡ Some (current_strand p.view) = ap (λ (strands : List Ended). slice_get (strands ++ current_strand p.view ∷ []) 0) ran.ended in
      kept_all t.shape p.view.steps [] p.view.kept ran.kept knows_end.real
      (λ k below there.
      let same = ap length (ends.recorded 0 (current_strand p.view) only k below there (none_lost t.shape p closed ends whole k below there)) in
      let count = length_indexes (turns_on k p.view.steps) in
      omega (arith, same, count))

  pub steps_end : closed.strands ≡ strands_of t.shape (steps_of_calls t.shape 1 calls (new_state t.shape))
  steps_end =
      strands_are_told t.shape p closed ends whole (bounds_of_shape t.shape shape_is)
      ∙ told_of_one t.shape p.view ran.ended ran.all_cpus
      ∙ ap (strands_of t.shape) (kept_end ∙ knows_end.steps_are)

  same_end : IsSameState t.shape (state_left t.shape ends.log ends.core.bit p.spares) state_end
  same_end = record {
    logs = log_of;
    bits = λ e real. ends.bits e (state_end.bits e) (knows_end.bits e real);
    spares = λ cpu real. sym (element_is (spare_of cpu p.spares)) ∙ ran.spares (no_losses t.shape p closed ends whole) cpu;
  }

  pub finals_end : closed.finals ≡ finals_of t.shape state_end
  finals_end = ends.left.finals_are ∙ same_finals t.shape (state_left t.shape ends.log ends.core.bit p.spares) state_end same_end
