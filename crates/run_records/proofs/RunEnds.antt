-- The end of a run in serial order: its one strand is cut where phases start, and what is kept is the run by the logs of the locks.
use Rattle.std.proofs.Common.{◌≡◌, ℕ, zero, suc, ◌+◌, ◌-◌, ◌<◌, ◌≤◌, Bool, true, false, not, cond, eqb, List, [], ◌∷◌, ◌++◌, length, map, take, drop, get_or, refl, ap, sym, ◌∙◌, subst, arith, append-nil}
use Rattle.std.specs.Prelude.{All, None, filter}
use Rattle.std.specs.List.{flat_map, range_with_len}
use Rattle.std.proofs.lemmas.Bool.{lt-ltb, le-ltb}
use Rattle.std.proofs.lemmas.List.{length-append, length-drop, length-map, length-take-le, take_at, take_all, drop_at}
use Rattle.std.proofs.lemmas.List.Concat.{flat_map-append, flat_map-cons}
use Rattle.std.proofs.lemmas.List.Elements.{All-nil, All-cons}
use Rattle.map_types.specs.Creation.{IsShape}
use Rattle.map_types.specs.declared.attr.Shape.{Shape}
use Rattle.map_types.specs.declared.call.Call.{Call}
use Rattle.map_types.specs.declared.reply.Reply.{Reply}
use Rattle.map_types.proofs.RowLemmas.{by_test}
use Rattle.map_script.specs.declared.script.Script.{Script}
use Rattle.map_script.specs.WellFormed.{AreCuts}
use Rattle.place_words.specs.declared.history.Strand.{Strand}
use Rattle.place_words.specs.declared.history.StrandStep.{StrandStep}
use Rattle.place_words.specs.Logs.{new_state, run, answers, finals_of}
use Rattle.place_words.specs.Phases.{calls_before, of_phase, phase_count}
use Rattle.place_words.proofs.ShrinkProbes.{append_empty}
use Rattle.place_table.specs.declared.view.Turned.{Turned}
use Rattle.place_table.specs.Closing.{ClosedView, IsClosed}
use Rattle.place_table.specs.Passes.{PassView, TableView}
use Rattle.place_table.specs.Views.{kept_step, place_of}
use Rattle.map_report.specs.declared.record.PhaseStart.{PhaseStart}
use Rattle.map_report.specs.declared.record.RunRecord.{RunRecord}
use Rattle.map_report.specs.Record.{Ascend, locks_of}
use Rattle.map_report.specs.Runs.{steps_of_calls, strand_of_phase, serial}
use Rattle.map_report.proofs.RunCuts.{take_more}
use Rattle.run_records.specs.declared.pieces.Piece.{Piece}
use Rattle.run_records.specs.ByLogs.{HaveRun}
use Rattle.run_records.specs.Copies.{IsCopyOf, IsCutOf, has_step, record_left}
use Rattle.run_records.specs.Phased.{HasGone, Started}
use Rattle.serial_laws.specs.Served.{IsServedCall}
use Rattle.run_records.specs.Parts.{behind_steps, cut_strands, first_steps}
use Rattle.run_records.specs.SerialPhases.{piece_of, HaveRunPhases}
use Rattle.run_records.proofs.RunByLogs.{come_to, history_in, histories_end, kept_end, steps_end, finals_end}
use Rattle.run_records.proofs.RunOn.{GoesOnFrom}
use Rattle.run_records.proofs.RunPhases.{phases_then}
use Rattle.run_records.proofs.Whole.{no_losses, strands_of}
use Rattle.serial_laws.proofs.ListPlaces.{next_below}
use Rattle.run_records.proofs.CallsByLogs.{steps_on}

-- Cuts

cut_within : (least all : ℕ) (cuts : List ℕ) (k : ℕ) → AreCuts least all cuts → least ≤ all → (least ≤ get_or cuts k all) × (get_or cuts k all ≤ all)
cut_within least all [] k are low = (low, omega arith)
cut_within least all (cut ∷ cuts) zero are low = (are.0, are.1)
cut_within least all (cut ∷ cuts) (suc k) are low =
    let rest = cut_within cut all cuts k are.2 are.1 in
    (let above = rest.0 in let first : least ≤ cut = are.0 in omega arith, rest.1)

cut_rises : (least all : ℕ) (cuts : List ℕ) (k : ℕ) → AreCuts least all cuts → get_or cuts k all ≤ get_or cuts (suc k) all
cut_rises least all [] k are = omega arith
cut_rises least all (cut ∷ cuts) zero are = (cut_within cut all cuts 0 are.2 are.1).0
cut_rises least all (cut ∷ cuts) (suc k) are = cut_rises cut all cuts k are.2

pub phase_rises : (cuts : List ℕ) (all p : ℕ) → AreCuts 0 all cuts → calls_before cuts all p ≤ calls_before cuts all (suc p)
phase_rises cuts all zero are = omega arith
phase_rises cuts all (suc p) are = cut_rises 0 all cuts p are

pub phase_within : (cuts : List ℕ) (all p : ℕ) → AreCuts 0 all cuts → calls_before cuts all p ≤ all
phase_within cuts all zero are = omega arith
phase_within cuts all (suc p) are = (cut_within 0 all cuts p are (omega arith)).1

pub past_cuts : (cuts : List ℕ) (all : ℕ) → calls_before cuts all (phase_count cuts) ≡ all
past_cuts [] all = refl
past_cuts (cut ∷ cuts) all = past_cuts cuts all

-- The strand is cut

left_steps : (shape : Shape) (xs ys : List StrandStep) → take (length xs) (first_steps (strands_of shape (xs ++ ys))) ≡ xs
left_steps shape [] ys = refl
left_steps shape (x ∷ xs) ys = ap (λ (l : List StrandStep). x ∷ l) (take_at xs ys (length xs) refl)

behind_left : (shape : Shape) (xs ys : List StrandStep) → behind_steps (length xs) (strands_of shape (xs ++ ys)) ≡ strands_of shape ys
behind_left shape [] [] = refl
behind_left shape [] (y ∷ ys) = ap (λ (b : Bool). cond b (strands_of shape (y ∷ ys)) []) (lt-ltb 0 (suc (length ys)) (omega arith))
behind_left shape (x ∷ xs) [] =
    let long = length-append xs [] in
    ap (λ (b : Bool). cond b (record { phase = 0; cpus = range_with_len 0 shape.cpus; steps = drop (length (x ∷ xs)) (x ∷ (xs ++ [])) } ∷ []) []) (le-ltb (length (x ∷ xs)) (length (x ∷ (xs ++ []))) (omega (arith, long)))
behind_left shape (x ∷ xs) (y ∷ ys) =
    let long = length-append xs (y ∷ ys) in
    ap (λ (b : Bool). cond b (record { phase = 0; cpus = range_with_len 0 shape.cpus; steps = drop (length (x ∷ xs)) (x ∷ (xs ++ y ∷ ys)) } ∷ []) []) (lt-ltb (length (x ∷ xs)) (length (x ∷ (xs ++ y ∷ ys))) (omega (arith, long)))
    ∙ ap (λ (l : List StrandStep). record { phase = 0; cpus = range_with_len 0 shape.cpus; steps = l } ∷ []) (drop_at xs (y ∷ ys) (length xs) refl)

abbrev steps_in : Strand → List StrandStep
steps_in strand = strand.steps

module _ (script : Script) where
  abbrev part_steps : ℕ → List StrandStep
  part_steps q = (strand_of_phase script q).steps

  abbrev all_steps : ℕ → ℕ → List StrandStep
  all_steps a n = flat_map part_steps (range_with_len a n)

  cut_all : (a n : ℕ) → cut_strands script.shape.cpus (map (piece_of script) (range_with_len a n)) (strands_of script.shape (all_steps a n)) ≡ map (strand_of_phase script) (range_with_len a n)
  cut_all a zero = refl
  cut_all a (suc n) =
      let xs : List StrandStep = part_steps a in
      let ys : List StrandStep = all_steps (a + 1) n in
      ap (λ (l : List StrandStep). cut_strands script.shape.cpus (map (piece_of script) (range_with_len a (suc n))) (strands_of script.shape l)) (flat_map-cons part_steps a (range_with_len (a + 1) n))
      ∙ (λ i. record { phase = a; cpus = range_with_len 0 script.shape.cpus; steps = left_steps script.shape xs ys i } ∷ cut_strands script.shape.cpus (map (piece_of script) (range_with_len (a + 1) n)) (behind_left script.shape xs ys i))
      ∙ ap (λ (l : List Strand). strand_of_phase script a ∷ l) (cut_all (a + 1) n)

  steps_all : AreCuts 0 (length script.calls) script.cuts → (n : ℕ) → all_steps 0 n ≡ steps_of_calls script.shape 1 (take (calls_before script.cuts (length script.calls) n) script.calls) (new_state script.shape)
  steps_all are zero = refl
  steps_all are (suc n) =
      let first : ℕ = calls_before script.cuts (length script.calls) n in
      let done : List Call = take first script.calls in
      let mine : List Call = of_phase script.cuts n script.calls in
      let long : length done ≡ first = length-take-le first script.calls (phase_within script.cuts (length script.calls) n are) in
      let number : 1 + length done ≡ suc first = omega (arith, long) in
      ap (flat_map part_steps) (next_below n)
      ∙ flat_map-append part_steps (range_with_len 0 n) (n ∷ [])
      ∙ (λ i. steps_all are n i ++ (flat_map-cons part_steps n [] ∙ append-nil (part_steps n)) i)
      ∙ ap (λ (k : ℕ). steps_of_calls script.shape 1 done (new_state script.shape) ++ steps_of_calls script.shape k mine (run script.shape 1 done (new_state script.shape))) (sym number)
      ∙ sym (steps_on script.shape 1 done mine (new_state script.shape))
      ∙ ap (λ (calls : List Call). steps_of_calls script.shape 1 calls (new_state script.shape))
      (sym (take_more first (calls_before script.cuts (length script.calls) (suc n)) script.calls (phase_rises script.cuts (length script.calls) n are)))

-- What is kept is a copy

steps_stay : (parts : List Strand) → flat_map steps_in (filter has_step parts) ≡ flat_map steps_in parts
steps_stay [] = refl
steps_stay (part ∷ parts) =
    by_test (length part.steps) 0 (λ b. flat_map steps_in (cond (not b) (part ∷ filter has_step parts) (filter has_step parts)) ≡ flat_map steps_in (part ∷ parts))
    (λ none. steps_stay parts ∙ sym (flat_map-cons steps_in part parts ∙ ap (λ (l : List StrandStep). l ++ flat_map steps_in parts) (no_steps part.steps none)))
    (λ some. flat_map-cons steps_in part (filter has_step parts) ∙ ap (λ (l : List StrandStep). part.steps ++ l) (steps_stay parts) ∙ sym (flat_map-cons steps_in part parts))
  where
    no_steps : (steps : List StrandStep) → length steps ≡ 0 → steps ≡ []
    no_steps [] none = refl
    no_steps (step ∷ steps) none = absurd (omega (arith, none))

none_have : (parts : List Strand) → flat_map steps_in parts ≡ [] → filter has_step parts ≡ []
none_have [] none = refl
none_have (part ∷ parts) none =
    let both = append_empty part.steps (flat_map steps_in parts) (sym (flat_map-cons steps_in part parts) ∙ none) in
    ap (λ (steps : List StrandStep). cond (not (eqb (length steps) 0)) (part ∷ filter has_step parts) (filter has_step parts)) both.0 ∙ none_have parts both.1

module _ (script : Script) where
  abbrev stepped : ℕ → ℕ → List Strand
  stepped a n = filter has_step (map (strand_of_phase script) (range_with_len a n))

  all_on : (a n : ℕ) → All (λ (part : Strand). part.cpus ≡ range_with_len 0 script.shape.cpus) (stepped a n)
  all_on a zero = All-nil (λ (part : Strand). part.cpus ≡ range_with_len 0 script.shape.cpus)
  all_on a (suc n) = by (has_step (strand_of_phase script a)) (all_on (a + 1) n)
    where
      by : (b : Bool) → All (λ (part : Strand). part.cpus ≡ range_with_len 0 script.shape.cpus) (stepped (a + 1) n) → All (λ (part : Strand). part.cpus ≡ range_with_len 0 script.shape.cpus) (cond b (strand_of_phase script a ∷ stepped (a + 1) n) (stepped (a + 1) n))
      by true rest = All-cons (λ (part : Strand). part.cpus ≡ range_with_len 0 script.shape.cpus) (strand_of_phase script a) (stepped (a + 1) n) refl rest
      by false rest = rest

  abbrev numbers : List Strand → List ℕ
  numbers parts = map (λ (part : Strand). part.phase) parts

  above : (low a n : ℕ) → low < a → All (λ (q : ℕ). low < q) (numbers (stepped a n))
  above low a zero less = All-nil (λ (q : ℕ). low < q)
  above low a (suc n) less = by (has_step (strand_of_phase script a)) (above low (a + 1) n (omega (arith, less)))
    where
      by : (b : Bool) → All (λ (q : ℕ). low < q) (numbers (stepped (a + 1) n)) → All (λ (q : ℕ). low < q) (numbers (cond b (strand_of_phase script a ∷ stepped (a + 1) n) (stepped (a + 1) n)))
      by true rest = All-cons (λ (q : ℕ). low < q) a (numbers (stepped (a + 1) n)) less rest
      by false rest = rest

  ascends : (a n : ℕ) → Ascend (numbers (stepped a n))
  ascends a zero = tt
  ascends a (suc n) = by (has_step (strand_of_phase script a)) (ascends (a + 1) n)
    where
      by : (b : Bool) → Ascend (numbers (stepped (a + 1) n)) → Ascend (numbers (cond b (strand_of_phase script a ∷ stepped (a + 1) n) (stepped (a + 1) n)))
      by true rest = (above a (a + 1) n (omega arith), rest)
      by false rest = rest

  parts_have : (a n : ℕ) → flat_map steps_in (map (strand_of_phase script) (range_with_len a n)) ≡ all_steps script a n
  parts_have a zero = refl
  parts_have a (suc n) =
      flat_map-cons steps_in (strand_of_phase script a) (map (strand_of_phase script) (range_with_len (a + 1) n))
      ∙ ap (λ (l : List StrandStep). part_steps script a ++ l) (parts_have (a + 1) n)
      ∙ sym (flat_map-cons (part_steps script) a (range_with_len (a + 1) n))

  cut_of : (n : ℕ) (steps : List StrandStep) → all_steps script 0 n ≡ steps → IsCutOf (stepped 0 n) (strands_of script.shape steps)
  cut_of n [] is = none_have (map (strand_of_phase script) (range_with_len 0 n)) (parts_have 0 n ∙ is)
  cut_of n (step ∷ steps) is =
      (stepped 0 n, [], sym (append-nil (stepped 0 n)), sym is ∙ sym (steps_stay (map (strand_of_phase script) (range_with_len 0 n)) ∙ parts_have 0 n), all_on 0 n, ascends 0 n, refl)

-- One phase more, as the code has it

pub in_order : (script : Script) (first next p : ℕ) → AreCuts 0 (length script.calls) script.cuts → first ≡ calls_before script.cuts (length script.calls) p → next ≡ calls_before script.cuts (length script.calls) (suc p) → (first ≤ next) × (next ≤ length script.calls)
in_order script first next p are first_is next_is =
    let rises = phase_rises script.cuts (length script.calls) p are in
    let within = phase_within script.cuts (length script.calls) (suc p) are in
    (subst (λ (z : ℕ × ℕ). z.0 ≤ z.1) (λ i. (sym first_is i, sym next_is i)) rises, subst (λ (k : ℕ). k ≤ length script.calls) (sym next_is) within)

pub few_more : (calls mine : List Call) (first next : ℕ) → first ≤ next → next ≤ length calls → mine ≡ take (next - first) (drop first calls) → length calls ≤ 200000 → first + length mine ≤ 200000
few_more calls mine first next order within is few =
    let left = length-drop first calls in
    let long = ap length is ∙ length-take-le (next - first) (drop first calls) (omega (arith, left, order, within)) in
    omega (arith, long, order, within, few)

pub phase_on : (t : TableView) (script : Script) (p m first next : ℕ) (a b c : PassView) (start : PhaseStart) (replies more all : List Reply) (starts starts_then : List PhaseStart) (pieces pieces_then : List Piece) (count : ℕ) (calls : List Call)
    → t.shape ≡ script.shape → IsShape script.shape → All (IsServedCall script.shape) script.calls → AreCuts 0 (length script.calls) script.cuts
    → first ≡ calls_before script.cuts (length script.calls) p → next ≡ calls_before script.cuts (length script.calls) (suc p) → calls ≡ take (next - first) (drop first script.calls) → m ≡ suc p
    → HaveRunPhases t script p a replies starts pieces → Started t a b start → GoesOnFrom t first calls b c more → HasGone t.shape b c → count + length b.view.kept ≡ length c.view.kept
    → all ≡ replies ++ more → starts_then ≡ starts ++ start ∷ [] → pieces_then ≡ pieces ++ (record { phase = p; cpu = None; count = count }) ∷ []
    → HaveRunPhases t script m c all starts_then pieces_then
phase_on t script p m first next a b c start replies more all starts starts_then pieces pieces_then count calls same shape_is served are first_is next_is calls_is m_is ran begins goes gone counted all_is starts_is pieces_is =
    let mine_is : calls ≡ of_phase script.cuts p script.calls = calls_is ∙ (λ i. take (next_is i - first_is i) (drop (first_is i) script.calls)) in
    let goes_here : GoesOnFrom t (calls_before script.cuts (length script.calls) p) (of_phase script.cuts p script.calls) b c more =
    subst (λ (z : ℕ × List Call). GoesOnFrom t z.0 z.1 b c more) (λ i. (first_is i, mine_is i)) goes in
    let more_run = phases_then t script p a b c start replies more starts pieces count same (subst IsShape (sym same) shape_is) (subst (λ (s : Shape). All (IsServedCall s) script.calls) (sym same) served)
    (phase_rises script.cuts (length script.calls) p are) (phase_within script.cuts (length script.calls) (suc p) are) ran begins goes_here gone counted in
    subst (λ (k : ℕ). HaveRunPhases t script k c all starts_then pieces_then) (sym m_is)
    (subst (λ (z : List Reply × List PhaseStart). HaveRunPhases t script (suc p) c z.0 z.1 pieces_then) (λ i. (sym all_is i, sym starts_is i))
    (subst (HaveRunPhases t script (suc p) c (replies ++ more) (starts ++ start ∷ [])) (sym pieces_is) more_run))

-- The close

module _ (script : Script) (t : TableView) (p : PassView) (closed : ClosedView) (replies : List Reply) (starts : List PhaseStart) (pieces : List Piece) (same : t.shape ≡ script.shape) (shape_is : IsShape t.shape)
    (are : AreCuts 0 (length script.calls) script.cuts) (ran : HaveRunPhases t script (phase_count script.cuts) p replies starts pieces) (ends : IsClosed t.shape p closed) (whole : closed.lost ≡ false) where
  all_run : HaveRun t script.calls p replies
  all_run =
      subst (λ (calls : List Call). HaveRun t calls p replies)
      (ap (λ (k : ℕ). take k script.calls) (past_cuts script.cuts (length script.calls)) ∙ take_all (length script.calls) script.calls (omega arith)) ran.run

  none : p.view.lost ≡ []
  none = no_losses t.shape p closed ends whole

  all_kept : length p.view.kept ≡ length p.view.steps
  all_kept =
      ap length (kept_end t script.calls p closed replies shape_is all_run ends whole)
      ∙ length-map p.view.steps (λ (step : Turned). kept_step t.shape step.lock (place_of step))

  strand_is : closed.strands ≡ strands_of script.shape (all_steps script 0 (phase_count script.cuts))
  strand_is =
      steps_end t script.calls p closed replies shape_is all_run ends whole
      ∙ (λ i. strands_of (same i) (steps_of_calls (same i) 1 script.calls (new_state (same i))))
      ∙ ap (strands_of script.shape)
      (sym (steps_all script are (phase_count script.cuts)
      ∙ ap (λ (calls : List Call). steps_of_calls script.shape 1 calls (new_state script.shape)) (ap (λ (k : ℕ). take k script.calls) (past_cuts script.cuts (length script.calls)) ∙ take_all (length script.calls) script.calls (omega arith))))

  strands_cut : cut_strands script.shape.cpus pieces closed.strands ≡ map (strand_of_phase script) (range_with_len 0 (phase_count script.cuts))
  strands_cut = (λ i. cut_strands script.shape.cpus (ran.pieces_are none all_kept i) (strand_is i)) ∙ cut_all script 0 (phase_count script.cuts)

  pub end_by_phases : record_left script.shape.cpus pieces replies starts closed ≡ serial script
  unfolding serial
  end_by_phases =
      λ i. record {
        replies = ((all_run.answered none) ∙ ap (λ (s : Shape). answers s 1 script.calls (new_state s)) same) i;
        histories = (histories_end t script.calls p closed replies shape_is all_run ends whole ∙ ap (λ (s : Shape). map (history_in (come_to s script.calls)) (locks_of s)) same) i;
        strands = strands_cut i;
        finals = (finals_end t script.calls p closed replies shape_is all_run ends whole ∙ ap (λ (s : Shape). finals_of s (come_to s script.calls)) same) i;
        phases = ran.starts_are none (ends.all_drawn whole) i;
      }

  pub copy_by_phases : (kept : RunRecord) (back : ClosedView) → kept ≡ record_left script.shape.cpus pieces replies starts closed → back ≡ closed → IsCopyOf kept back
  copy_by_phases kept back kept_is back_is =
      let copy : IsCopyOf (record_left script.shape.cpus pieces replies starts closed) closed = record {
        histories = refl;
        strands = subst (λ (z : List Strand × List Strand). IsCutOf (filter has_step z.0) z.1) (λ i. (sym strands_cut i, sym strand_is i))
            (cut_of script (phase_count script.cuts) (all_steps script 0 (phase_count script.cuts)) refl);
        finals = refl;
        whole = whole;
      } in
      subst (IsCopyOf kept) (sym back_is) (subst (λ (k : RunRecord). IsCopyOf k closed) (sym kept_is) copy)
