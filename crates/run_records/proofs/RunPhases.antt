-- A run in serial order, phase by phase: from the opening over each phase's start to the close.
use Rattle.std.proofs.Common.{◌≡◌, ℕ, suc, ◌+◌, ◌<◌, ◌≤◌, List, [], ◌∷◌, ◌++◌, length, map, take, Option, Some, None, inl, inr, ap, sym, ◌∙◌, subst, arith}
use Rattle.std.specs.Prelude.{All, filter}
use Rattle.std.specs.List.{range_with_len}
use Rattle.std.proofs.lemmas.List.{length-append, length-take-le, length-map}
use Rattle.std.proofs.lemmas.List.Elements.{All-take}
use Rattle.std.proofs.lemmas.List.FromFn.{map-range_with_len_more}
use Rattle.map_types.specs.Creation.{IsShape}
use Rattle.map_types.specs.declared.attr.Shape.{Shape}
use Rattle.map_types.specs.declared.call.Call.{Call}
use Rattle.map_types.specs.declared.reply.Reply.{Reply}
use Rattle.map_types.specs.Stored.{Stored}
use Rattle.place_words.specs.declared.history.StrandStep.{StrandStep}
use Rattle.place_words.specs.Locks.{lock_named}
use Rattle.place_words.specs.Logs.{State, new_state, run}
use Rattle.place_words.specs.Phases.{calls_before, of_phase}
use Rattle.place_words.proofs.AnyStart.{new_start}
use Rattle.place_table.specs.declared.view.Turned.{Turned}
use Rattle.place_table.specs.Calls.{element_of}
use Rattle.place_table.specs.Passes.{PassView, TableView, spare_of, IsFirstPass, IsKeptOf}
use Rattle.place_table.specs.Views.{is_among, known_log, has_all_below, kept_step, place_of}
use Rattle.map_script.specs.declared.script.Script.{Script}
use Rattle.map_report.specs.declared.record.PhaseStart.{PhaseStart}
use Rattle.map_report.specs.Runs.{steps_of_calls, state_before, start_of, strand_of_phase}
use Rattle.map_report.proofs.RunCuts.{take_more}
use Rattle.run_records.specs.declared.pieces.Piece.{Piece}
use Rattle.run_records.specs.ByLogs.{IsOfMap, KnowsState, RunStart, at_opening, HaveRunFrom, HaveRun}
use Rattle.run_records.specs.Phased.{HasGone, IsAsBefore, IsWhole, Started}
use Rattle.run_records.specs.SerialPhases.{piece_of, HaveRunPhases}
use Rattle.serial_laws.specs.Served.{IsServedCall}
use Rattle.run_records.proofs.RunByLogs.{first_by_logs}
use Rattle.run_records.proofs.RunOn.{GoesOnFrom}
use Rattle.serial_laws.proofs.ListPlaces.{same_filter}
use Rattle.run_records.proofs.BitsSeen.{no_call_still}
use Rattle.run_records.proofs.CallsByLogs.{steps_on}

-- At the start of a phase

module _ (t : TableView) (before after : PassView) (start : PhaseStart) (begins : Started t before after start) where
  abbrev stays : IsAsBefore before after
  stays = begins.stays

  pub knows_still : (state : State) (strand : List StrandStep) → KnowsState t.shape state strand before.view → KnowsState t.shape state strand after.view
  knows_still state strand knows = record {
    knows = record {
      all = (λ i. has_all_below (stays.shape i).cpus (stays.cpus i)) ∙ knows.knows.all;
      each = λ k below there. ap (known_log k) begins.known_is ∙ begins.learns.known k below ∙ ap Some (begins.learns.knew k (state.logs (lock_named t.shape k)) (knows.knows.each k below there));
    };
    bits = λ e real. begins.seen e real ∙ ap Some (begins.knew e (state.bits e) real (knows.bits e real));
    counted = (λ i. stays.reached i + stays.refused i) ∙ knows.counted;
    steps_are = ap (map (λ (step : Turned). kept_step t.shape step.lock (place_of step))) stays.steps ∙ knows.steps_are;
    real = subst (All (IsOfMap t.shape)) (sym stays.steps) knows.real;
  }

  pub run_still : (from : RunStart) (calls : List Call) (replies : List Reply) → HaveRunFrom t from calls before replies → HaveRunFrom t from calls after replies
  run_still from calls replies ran = record {
    of_table = (stays.table ∙ ran.of_table.0, stays.shape ∙ ran.of_table.1);
    all_cpus = λ cpu real. ap (is_among cpu) stays.cpus ∙ ran.all_cpus cpu real;
    in_no_call = no_call_still before after stays ran.in_no_call;
    ended = stays.ended ∙ ran.ended;
    kept = subst (λ (z : List Turned × List StrandStep). IsKeptOf t.shape z.0 [] z.1) (λ i. (sym stays.steps i, sym stays.kept i)) ran.kept;
    knows = λ none. knows_still (run t.shape from.number calls from.state) (from.steps ++ steps_of_calls t.shape from.number calls from.state) (ran.knows (sym stays.lost ∙ none));
    spares = λ none cpu. ap (λ (spares : List (Option Stored)). element_of (spare_of cpu spares)) stays.spares ∙ ran.spares (sym stays.lost ∙ none) cpu;
    answered = λ none. ran.answered (sym stays.lost ∙ none);
  }

  -- what is told of it is what a run had come to
  pub start_told : (state : State) (strand : List StrandStep) → KnowsState t.shape state strand before.view → before.view.refused ≡ 0 → start ≡ start_of t.shape state
  start_told state strand knows none =
      let counted : before.view.reached + before.view.refused ≡ state.next_ticket = knows.counted in
      let drawn : before.view.reached ≡ state.next_ticket = omega (arith, counted, none) in
      let marked : start.marked ≡ filter state.bits (range_with_len 0 t.shape.elements) =
      begins.marked_are ∙ same_filter begins.bits state.bits 0 t.shape.elements (λ e low high. let real : e < t.shape.elements = omega arith in begins.knew e (state.bits e) real (knows.bits e real)) in
      λ i. record { ticket = (begins.ticket_is ∙ drawn) i; marked = marked i }

-- One phase more

pub kept_span : (shape : Shape) (steps : List Turned) (before after : List StrandStep) → IsKeptOf shape steps before after → (length before ≤ length after) × (length after ≤ length before + length steps)
kept_span shape [] before after kept = let same = ap length kept in (omega arith, omega arith)
kept_span shape (step ∷ steps) before after (inl dropped) =
    let rest = kept_span shape steps before after dropped in
    (rest.0, let few = rest.1 in omega arith)
kept_span shape (step ∷ steps) before after (inr more) =
    let rest = kept_span shape steps (before ++ kept_step shape step.lock (place_of step) ∷ []) after more in
    let long = length-append before (kept_step shape step.lock (place_of step) ∷ []) in
    (let low = rest.0 in omega arith, let few = rest.1 in omega arith)

pub phases_first : (t : TableView) (script : Script) (p : PassView) (replies : List Reply) (starts : List PhaseStart) (pieces : List Piece) → IsFirstPass t p → replies ≡ [] → starts ≡ [] → pieces ≡ [] → HaveRunPhases t script 0 p replies starts pieces
phases_first t script p replies starts pieces first no_replies no_starts no_pieces = record {
  run = subst (HaveRun t [] p) (sym no_replies) (first_by_logs t p first);
  starts_are = λ _ _. no_starts;
  pieces_are = λ _ _. no_pieces;
}

pub run_whole : (t : TableView) (from : RunStart) (calls : List Call) (p : PassView) (replies : List Reply) → HaveRunFrom t from calls p replies → IsWhole t p
run_whole t from calls p replies ran = record { of_table = ran.of_table; all_cpus = ran.all_cpus; in_no_call = ran.in_no_call }

module _ (t : TableView) (script : Script) (p : ℕ) (a b c : PassView) (start : PhaseStart) (replies more : List Reply) (starts : List PhaseStart) (pieces : List Piece) (count : ℕ)
    (same : t.shape ≡ script.shape) (shape_is : IsShape t.shape) (served : All (IsServedCall t.shape) script.calls)
    (rises : calls_before script.cuts (length script.calls) p ≤ calls_before script.cuts (length script.calls) (suc p)) (within : calls_before script.cuts (length script.calls) (suc p) ≤ length script.calls)
    (ran : HaveRunPhases t script p a replies starts pieces) (begins : Started t a b start) (goes : GoesOnFrom t (calls_before script.cuts (length script.calls) p) (of_phase script.cuts p script.calls) b c more)
    (gone : HasGone t.shape b c) (counted : count + length b.view.kept ≡ length c.view.kept) where
  abbrev first : ℕ
  first = calls_before script.cuts (length script.calls) p

  abbrev done : List Call
  done = take first script.calls

  abbrev mine : List Call
  mine = of_phase script.cuts p script.calls

  done_long : length done ≡ first
  done_long = length-take-le first script.calls (omega (arith, rises, within))

  together : done ++ mine ≡ take (calls_before script.cuts (length script.calls) (suc p)) script.calls
  together = sym (take_more first (calls_before script.cuts (length script.calls) (suc p)) script.calls rises)

  begun_run : HaveRun t done b replies
  begun_run = run_still t a b start begins (at_opening t.shape) done replies ran.run

  ran_then : HaveRun t (done ++ mine) c (replies ++ more)
  ran_then =
      goes (at_opening t.shape) done replies (let number : 1 + length done ≡ suc first = omega (arith, done_long) in number) (new_start t.shape shape_is) (All-take (IsServedCall t.shape) first script.calls served) begun_run

  start_is : c.view.lost ≡ [] → c.view.refused ≡ 0 → start ≡ start_of script.shape (state_before script p)
  start_is none unrefused =
      let lost_before = sym begins.stays.lost ∙ gone.lost none in
      let low = gone.refused in
      let stayed = begins.stays.refused in
      start_told t a b start begins (run t.shape 1 done (new_state t.shape)) (steps_of_calls t.shape 1 done (new_state t.shape)) (ran.run.knows lost_before) (omega (arith, low, stayed, unrefused))
      ∙ ap (λ (s : Shape). start_of s (run s 1 done (new_state s))) same

  starts_then : c.view.lost ≡ [] → c.view.refused ≡ 0 → starts ++ start ∷ [] ≡ map (λ (q : ℕ). start_of script.shape (state_before script q)) (range_with_len 0 (p + 1))
  starts_then none unrefused =
      let lost_before = sym begins.stays.lost ∙ gone.lost none in
      let low = gone.refused in
      let stayed = begins.stays.refused in
      (λ i. ran.starts_are lost_before (omega (arith, low, stayed, unrefused)) i ++ start_is none unrefused i ∷ [])
      ∙ sym (map-range_with_len_more (λ (q : ℕ). start_of script.shape (state_before script q)) 0 p p (let here : 0 + p ≡ p = omega arith in here))

  -- the turns of the phase
  made_long : c.view.lost ≡ [] → length gone.made ≡ length (strand_of_phase script p).steps
  made_long none =
      let all : length (steps_of_calls t.shape 1 (done ++ mine) (new_state t.shape)) ≡ length c.view.steps =
      sym (ap length (ran_then.knows none).steps_are) ∙ length-map c.view.steps (λ (step : Turned). kept_step t.shape step.lock (place_of step)) in
      let before : length (steps_of_calls t.shape 1 done (new_state t.shape)) ≡ length b.view.steps =
      sym (ap length (begun_run.knows (gone.lost none)).steps_are) ∙ length-map b.view.steps (λ (step : Turned). kept_step t.shape step.lock (place_of step)) in
      let split = ap length (steps_on t.shape 1 done mine (new_state t.shape)) ∙ length-append (steps_of_calls t.shape 1 done (new_state t.shape)) (steps_of_calls t.shape (1 + length done) mine (run t.shape 1 done (new_state t.shape))) in
      let grown = ap length gone.steps ∙ length-append b.view.steps gone.made in
      let own : length gone.made ≡ length (steps_of_calls t.shape (1 + length done) mine (run t.shape 1 done (new_state t.shape))) = omega (arith, all, before, split, grown) in
      let number : 1 + length done ≡ suc first = omega (arith, done_long) in
      own ∙ (λ i. length (steps_of_calls (same i) (number i) mine (run (same i) 1 done (new_state (same i)))))

  pieces_then : c.view.lost ≡ [] → length c.view.kept ≡ length c.view.steps → pieces ++ (record { phase = p; cpu = None; count = count }) ∷ [] ≡ map (piece_of script) (range_with_len 0 (p + 1))
  pieces_then none full =
      let lost_before = sym begins.stays.lost ∙ gone.lost none in
      let span = kept_span t.shape gone.made b.view.kept c.view.kept gone.kept in
      let most = span.1 in
      let few = (kept_span t.shape a.view.steps [] a.view.kept ran.run.kept).1 in
      let grown = ap length gone.steps ∙ length-append b.view.steps gone.made in
      let same_kept = ap length begins.stays.kept in
      let same_steps = ap length begins.stays.steps in
      let few_is : length a.view.kept ≤ length a.view.steps = omega (arith, few) in
      let full_before : length a.view.kept ≡ length a.view.steps = omega (arith, most, few_is, grown, same_kept, same_steps, full) in
      let count_is : count ≡ length gone.made = omega (arith, most, few_is, grown, same_kept, same_steps, full, counted) in
      let piece : (record { phase = p; cpu = None; count = count }) ≡ piece_of script p = λ i. record { phase = p; cpu = None; count = (count_is ∙ made_long none) i } in
      (λ i. ran.pieces_are lost_before full_before i ++ piece i ∷ [])
      ∙ sym (map-range_with_len_more (piece_of script) 0 p p (let here : 0 + p ≡ p = omega arith in here))

  pub phases_then : HaveRunPhases t script (suc p) c (replies ++ more) (starts ++ start ∷ []) (pieces ++ (record { phase = p; cpu = None; count = count }) ∷ [])
  phases_then =
      let next : p + 1 ≡ suc p = omega arith in
      record {
        run = subst (λ (l : List Call). HaveRun t l c (replies ++ more)) together ran_then;
        starts_are = λ none unrefused. starts_then none unrefused ∙ ap (λ (k : ℕ). map (λ (q : ℕ). start_of script.shape (state_before script q)) (range_with_len 0 k)) next;
        pieces_are = λ none full. pieces_then none full ∙ ap (λ (k : ℕ). map (piece_of script) (range_with_len 0 k)) next;
      }
