-- In a race each phase whose calls are all of one CPU is exact: what happens is determined by the state at its start.
use Rattle.std.proofs.Common.{◌≡◌, ◌≢◌, ◌⊎◌, ℕ, zero, suc, ◌+◌, ◌<◌, ◌≤◌, Bool, true, false, not, ◌&&◌, ◌||◌, cond, eqb, ltb, List, [], ◌∷◌, ◌++◌, length, map, Option, Some, None, refl, ap, sym, ◌∙◌, subst, arith, inl, inr}
use Rattle.std.specs.Prelude.{All, IsTrue, filter, slice_get, unwrap_or}
use Rattle.std.specs.List.{list_any, range_with_len}
use Rattle.std.proofs.lemmas.Bool.{cases_eq, cases_lt, eq-eqb, ne_eqb, lt-ltb, le-ltb}
use Rattle.std.proofs.lemmas.List.{append_cancel_left, append-nil}
use Rattle.std.proofs.lemmas.List.FromFn.{length-map-range_with_len}
use Rattle.std.proofs.lemmas.List.Elements.{All-take, All-drop, All-weaker}
use Rattle.std.proofs.lemmas.Option.{slice_get_past}
use Rattle.map_types.specs.Creation.{IsShape}
use Rattle.map_types.specs.declared.attr.Shape.{Shape}
use Rattle.map_types.specs.declared.call.Call.{Call}
use Rattle.map_types.specs.declared.kind.DomainId.{DomainId}
use Rattle.map_types.specs.declared.reply.Reply.{Reply}
use Rattle.map_script.specs.declared.script.Script.{Script}
use Rattle.place_words.specs.declared.history.Entry.{Entry}
use Rattle.place_words.specs.declared.history.LockHistory.{LockHistory}
use Rattle.place_words.specs.AtRest.{IsStart}
use Rattle.place_words.specs.Locks.{is_lock, is_same_lock, lock_named, lock_number, lock_count}
use Rattle.place_words.specs.Logs.{State, run}
use Rattle.place_words.specs.Named.{entries_of}
use Rattle.place_words.specs.Phases.{of_phase, drawn_before, drawn_between, state_at, added}
use Rattle.place_words.specs.Tickets.{AscendIn, tickets_of, all_entries}
use Rattle.place_words.proofs.AnyStart.{logs_from}
use Rattle.place_words.proofs.Cuts.{start_at}
use Rattle.place_words.proofs.LockLemmas.{named_by_number, number_within, one_lock}
use Rattle.place_table.specs.declared.view.Turned.{Turned}
use Rattle.place_table.specs.Calls.{element_of}
use Rattle.place_table.specs.Closing.{ClosedView, IsClosed, has_lock, history_of}
use Rattle.place_table.specs.Passes.{PassView, TableView, IsKeptOf, spare_of}
use Rattle.place_table.specs.Views.{bit_seen, known_log, place_of, kept_step, next}
use Rattle.place_table.proofs.MapLeft as map_left
use Rattle.place_table.proofs.Worlds.{all_here}
use Rattle.map_report.specs.declared.record.PhaseStart.{PhaseStart}
use Rattle.map_report.specs.Phases.{end_of, IsExact}
use Rattle.map_report.specs.Runs.{start_of}
use Rattle.run_records.specs.declared.pieces.Piece.{Piece}
use Rattle.run_records.specs.ByLogs.{IsOfMap, RunStart, HaveRunFrom}
use Rattle.run_records.specs.Copies.{record_left}
use Rattle.run_records.specs.Parts.{lone_cpu}
use Rattle.run_records.specs.Phased.{IsWhole}
use Rattle.run_records.specs.Races.{first_of, calls_of, HaveComeTo}
use Rattle.serial_laws.specs.Served.{IsServed, IsServedCall}
use Rattle.serial_laws.proofs.HistoryTurns.{by_bool}
use Rattle.run_records.proofs.Moments.{then_is}
use Rattle.run_records.proofs.PhaseParts.{Done, done_in, kept_now}
use Rattle.run_records.proofs.PhaseFacts.{IsPhase}
use Rattle.run_records.proofs.PhaseChain.{IsSound, starts_are}
use Rattle.run_records.proofs.PhaseMoments as moments
use Rattle.run_records.proofs.PhaseStart.{logs_then, legal_then, rests_then}
use Rattle.run_records.proofs.PhaseStates.{at_each, empty_handed, real_was, spare_there, spareless_was}
use Rattle.run_records.proofs.RaceHistories.{histories_are, entries_at}
use Rattle.run_records.proofs.RaceTickets.{counted}
use Rattle.run_records.proofs.Whole.{no_losses}
use Rattle.serial_laws.proofs.ListPlaces.{made_there, same_filter}
use Rattle.run_records.proofs.BitsSeen.{whole_still}

-- Marked elements tell the bits

marked_tells : (bits : ℕ → Bool) (e a n : ℕ) → a ≤ e → e < a + n → list_any (λ (x : ℕ). eqb x e) (filter bits (range_with_len a n)) ≡ bits e
marked_tells bits e a zero low high = absurd (omega (arith, low, high))
marked_tells bits e a (suc n) low high = by (cases_eq a e) (marked_tells bits e (a + 1) n) (none_below (a + 1) n)
  where
    rest : List ℕ
    rest = filter bits (range_with_len (a + 1) n)

    none_below : (b m : ℕ) → e < b → list_any (λ (x : ℕ). eqb x e) (filter bits (range_with_len b m)) ≡ false
    none_below b zero past = refl
    none_below b (suc m) past =
        let later = none_below (b + 1) m (omega (arith, past)) in
        by_bool (bits b) (λ c. list_any (λ (x : ℕ). eqb x e) (cond c (b ∷ filter bits (range_with_len (b + 1) m)) (filter bits (range_with_len (b + 1) m))) ≡ false)
        (λ _. ap (λ c. c || list_any (λ (x : ℕ). eqb x e) (filter bits (range_with_len (b + 1) m))) (ne_eqb b e (λ is. omega (arith, past, is))) ∙ later) (λ _. later)

    by : (a ≡ e) ⊎ (a ≢ e) → (a + 1 ≤ e → e < a + 1 + n → list_any (λ (x : ℕ). eqb x e) rest ≡ bits e) → (e < a + 1 → list_any (λ (x : ℕ). eqb x e) rest ≡ false)
        → list_any (λ (x : ℕ). eqb x e) (cond (bits a) (a ∷ rest) rest) ≡ bits e
    by (inl here) more none =
        by_bool (bits a) (λ c. bits a ≡ c → list_any (λ (x : ℕ). eqb x e) (cond c (a ∷ rest) rest) ≡ bits e)
        (λ _ is. ap (λ c. c || list_any (λ (x : ℕ). eqb x e) rest) (eq-eqb a e here) ∙ sym is ∙ ap bits here)
        (λ _ is. none (omega (arith, here)) ∙ sym is ∙ ap bits here) refl
    by (inr other) more none =
        let later = more (omega (arith, low, other)) (omega (arith, high)) in
        by_bool (bits a) (λ c. list_any (λ (x : ℕ). eqb x e) (cond c (a ∷ rest) rest) ≡ bits e)
        (λ _. ap (λ c. c || list_any (λ (x : ℕ). eqb x e) rest) (ne_eqb a e other) ∙ later) (λ _. later)

-- Entries between two tickets

none_before : (n from to : ℕ) (xs : List Entry) → n ≤ from → AscendIn from (tickets_of xs) to → drawn_before n xs ≡ []
none_before n from to [] past ascend = refl
none_before n from to (entry ∷ xs) past ascend =
    ap (λ c. cond c (entry ∷ drawn_before n xs) (drawn_before n xs)) (le-ltb entry.ticket n (omega (arith, past, ascend.0))) ∙ none_before n (suc entry.ticket) to xs (omega (arith, past, ascend.0)) ascend.1

between_all : (a b from to : ℕ) (xs : List Entry) → a ≤ from → AscendIn from (tickets_of xs) to → drawn_between a b xs ≡ drawn_before b xs
between_all a b from to [] past ascend = refl
between_all a b from to (entry ∷ xs) past ascend =
    let rest = between_all a b (suc entry.ticket) to xs (omega (arith, past, ascend.0)) ascend.1 in
    ap (λ c. cond (not c && ltb entry.ticket b) (entry ∷ drawn_between a b xs) (drawn_between a b xs)) (le-ltb entry.ticket a (omega (arith, past, ascend.0)))
    ∙ ap (λ (l : List Entry). cond (ltb entry.ticket b) (entry ∷ l) l) rest

pub before_parted : (a b from to : ℕ) (xs : List Entry) → a ≤ b → AscendIn from (tickets_of xs) to → drawn_before b xs ≡ drawn_before a xs ++ drawn_between a b xs
before_parted a b from to [] less ascend = refl
before_parted a b from to (entry ∷ xs) less ascend = elim (cases_lt entry.ticket a) [
  | inl below ↦
      let rest = before_parted a b (suc entry.ticket) to xs less ascend.1 in
      ap (λ c. cond c (entry ∷ drawn_before b xs) (drawn_before b xs)) (lt-ltb entry.ticket b (omega (arith, below, less)))
      ∙ ap (λ (l : List Entry). entry ∷ l) rest
      ∙ sym (ap (λ c. cond c (entry ∷ drawn_before a xs) (drawn_before a xs) ++ cond (not c && ltb entry.ticket b) (entry ∷ drawn_between a b xs) (drawn_between a b xs)) (lt-ltb entry.ticket a below))
  | inr past ↦
      sym (between_all a b entry.ticket to (entry ∷ xs) past (omega arith, ascend.1))
      ∙ ap (λ (l : List Entry). l ++ drawn_between a b (entry ∷ xs)) (sym (none_before a entry.ticket to (entry ∷ xs) past (omega arith, ascend.1)))
]

-- Histories of locks that the map doesn't have

module _ (shape : Shape) (log : ℕ → List Entry) (lock : DomainId) (gone : is_lock shape lock ≡ false) where
  none_told : (numbers : List ℕ) → entries_of (map (history_of shape log) (filter (has_lock shape) numbers)) lock ≡ []
  none_told [] = refl
  none_told (k ∷ numbers) =
      let rest = none_told numbers in
      let others : List ℕ = filter (has_lock shape) numbers in
      by_bool (has_lock shape k) (λ b. has_lock shape k ≡ b → entries_of (map (history_of shape log) (cond b (k ∷ others) others)) lock ≡ [])
      (λ _ has. by_bool (is_same_lock (lock_named shape k) lock) (λ b. is_same_lock (lock_named shape k) lock ≡ b → cond b (log k) (entries_of (map (history_of shape log) others) lock) ≡ [])
      (λ _ same. let named = one_lock (lock_named shape k) lock same in absurd (let there : true ≡ false = sym has ∙ (ap (is_lock shape) named ∙ gone) in cc))
      (λ _ _. rest) refl)
      (λ _ _. rest) refl

module _ (script : Script) (table : TableView) (created : IsShape script.shape) (is_served : IsServed script)
    (p : ℕ) (now : PassView) (replies : List Reply) (starts : List PhaseStart) (pieces : List Piece) (come : HaveComeTo (record { id = table.id; shape = script.shape }) script p now replies starts pieces)
    (closed : ClosedView) (ends : IsClosed script.shape now closed) (whole : closed.lost ≡ false) where
  abbrev pub t : TableView
  t = record { id = table.id; shape = script.shape }

  abbrev pub shape : Shape
  shape = script.shape

  abbrev pub did : ℕ → Done
  did = done_in t script p now replies starts pieces come

  pub some : 0 < shape.cpus
  some = let least = is_served.bounds.some_cpu in omega (arith, least)

  pub served : (q : ℕ) → All (λ (call : Call). call.cpu < shape.cpus) (calls_of script q)
  served q =
      All-weaker (IsServedCall shape) (λ (call : Call). call.cpu < shape.cpus) (λ call is. is.cpu) (calls_of script q)
      (All-take (IsServedCall shape) _ _ (All-drop (IsServedCall shape) _ script.calls is_served.calls))

  pub sound : IsSound now
  sound = record { lost = no_losses shape now closed ends whole; refused = ends.all_drawn whole }

  abbrev pub fact : (q : ℕ) → q < p → IsPhase t script q (did q)
  fact q less = moments.fact t script some served p now replies starts pieces come q less

  abbrev pub bound : ℕ → ℕ
  bound q = next (moments.pass_at t script some served p now replies starts pieces come q).view

  pub whole_was : (q : ℕ) → q < p → IsWhole t (did q).was
  whole_was q less = moments.whole_before t script some served p now replies starts pieces come q less

  pub whole_begun : (q : ℕ) → q < p → IsWhole t (did q).begun
  whole_begun q less = whole_still t (did q).was (did q).begun (did q).start (fact q less).started (whole_was q less)

  abbrev pub log_at : (q : ℕ) → q < p → ℕ → List Entry
  log_at q less = moments.log_at t script some served p now replies starts pieces come q less

  -- the entries of before a phase are the turns of its start
  pub then_at : (q : ℕ) (less : q < p) (k : ℕ) → drawn_before (bound q) (ends.log k) ≡ log_at q less k
  then_at q less k =
      then_is shape.cpus (λ r cpu. (did r).turns cpu) bound p (moments.rise t script some served p now replies starts pieces come) (λ r cpu low real. moments.windows t script some served p now replies starts pieces come r cpu low real) ends.log
      (moments.moment_end t script some served p now replies starts pieces come closed ends) q (omega (arith, less)) (log_at q less) (moments.moment_at t script some served p now replies starts pieces come q less) k

  -- and all are those of before the end
  pub then_end : (k : ℕ) → drawn_before (bound p) (ends.log k) ≡ ends.log k
  then_end k =
      then_is shape.cpus (λ r cpu. (did r).turns cpu) bound p (moments.rise t script some served p now replies starts pieces come) (λ r cpu low real. moments.windows t script some served p now replies starts pieces come r cpu low real) ends.log
      (moments.moment_end t script some served p now replies starts pieces come closed ends) p (omega arith) ends.log (moments.moment_end t script some served p now replies starts pieces come closed ends) k

  pub ticket_is : (q : ℕ) → q < p → (did q).start.ticket ≡ bound q
  ticket_is q less =
      let is = fact q less in
      let was = (Rattle.run_records.proofs.PhaseChain.sound_begun t script p now replies starts pieces come sound q less).1 in
      let none : (did q).was.view.reached ≡ next (did q).was.view = (let zero_refused = was.refused in omega (arith, zero_refused)) in
      is.started.ticket_is ∙ none ∙ ap (λ (v : PassView). next v.view) (sym (moments.at_start t script some served p now replies starts pieces come q less))

  -- The state at the start of a phase

  abbrev pub spares_at : ℕ → ℕ → Option ℕ
  spares_at q cpu = element_of (spare_of cpu (moments.pass_at t script some served p now replies starts pieces come q).spares)

  abbrev pub state_of : ℕ → State
  state_of q = state_at closed.histories (did q).start.ticket (did q).start.marked (spares_at q)

  pub spares_was : (q : ℕ) → q < p → (cpu : ℕ) → element_of (spare_of cpu (did q).was.spares) ≡ spares_at q cpu
  spares_was q less cpu = ap (λ (v : PassView). element_of (spare_of cpu v.spares)) (sym (moments.at_start t script some served p now replies starts pieces come q less))

  -- what a history tells of the start of a phase, by the lock's number and by the lock
  pub drawn_there : (q : ℕ) (less : q < p) (k : ℕ) → k < lock_count shape → IsTrue (is_lock shape (lock_named shape k)) → drawn_before (did q).start.ticket (entries_of closed.histories (lock_named shape k)) ≡ log_at q less k
  drawn_there q less k below there =
      (λ i. drawn_before (ticket_is q less i) (entries_at shape now closed ends whole k below there i)) ∙ then_at q less k

  drawn_is : (q : ℕ) (less : q < p) (lock : DomainId) → drawn_before (did q).start.ticket (entries_of closed.histories lock) ≡ logs_then shape (did q).was.view (fact q less).started.learned (fact q less).started.learns lock
  drawn_is q less lock =
      by_bool (is_lock shape lock) (λ b. is_lock shape lock ≡ b → drawn_before (did q).start.ticket (entries_of closed.histories lock) ≡ cond b ((fact q less).started.learns.log (lock_number shape lock)) [])
      (λ _ real.
      let named = named_by_number shape lock real in
      ap (λ (d : DomainId). drawn_before (did q).start.ticket (entries_of closed.histories d)) (sym named)
      ∙ drawn_there q less (lock_number shape lock) (number_within shape lock real) (ap (is_lock shape) named ∙ real))
      (λ _ gone. ap (drawn_before (did q).start.ticket) (ap (λ (l : List LockHistory). entries_of l lock) (histories_are shape now closed ends whole) ∙ none_told shape ends.log lock gone (range_with_len 0 (lock_count shape))))
      refl

  pub start_is : (q : ℕ) → q < p → IsStart shape (state_of q)
  start_is q less =
      let learns = (fact q less).started.learns in
      let v = whole_was q less in
      start_at shape closed.histories (did q).start.ticket (did q).start.marked (spares_at q) (logs_then shape (did q).was.view (fact q less).started.learned learns) (drawn_is q less)
      (legal_then shape (did q).was.view (fact q less).started.learned learns)
      (λ lru. rests_then shape (did q).was.view (fact q less).started.learned learns created v.in_no_call.holds_nothing lru (λ e c real. empty_handed t (did q).was v lru e c real))
      (λ lru cpu. sym (spares_was q less cpu) ∙ spareless_was t script some served p now replies starts pieces come sound q less lru v cpu)
      (λ hash cpu real. subst (λ (spare : Option ℕ). Rattle.std.specs.Prelude.IsSome spare) (spares_was q less cpu) (spare_there t (did q).was v hash cpu real))

  -- A phase whose calls are all of one CPU

  abbrev from_start : ℕ → RunStart
  from_start q = record {
    number = suc (first_of script q);
    state = state_of q;
    steps = map (λ (step : Turned). kept_step shape step.lock (place_of step)) (did q).begun.view.steps;
    ended = (did q).begun.view.ended;
  }

  begins : (q : ℕ) → q < p → HaveRunFrom t (from_start q) [] (did q).begun []
  begins q less =
      let is = fact q less in
      let stays = is.started.stays in
      let v = whole_begun q less in
      record {
        of_table = v.of_table;
        all_cpus = v.all_cpus;
        in_no_call = v.in_no_call;
        ended = refl;
        kept = subst (λ (z : List Turned × List _). IsKeptOf shape z.0 [] z.1) (λ i. (sym stays.steps i, sym stays.kept i)) (at_each t script some served (λ w. IsKeptOf shape w.view.steps [] w.view.kept) (λ n w rs ss ps has _. kept_now t script n w rs ss ps has) p now replies starts pieces come sound q less);
        knows = λ _. record {
          knows = record {
            all = all_here (did q).begun.view.shape.cpus (did q).begun.view.cpus (λ c below. v.all_cpus c (subst (λ (s : Shape). c < s.cpus) v.of_table.1 below));
            each = λ k below there. ap (known_log k) is.started.known_is ∙ is.started.learns.known k below ∙ ap Some (sym (drawn_there q less k below there));
          };
          bits = λ e real. is.started.seen e real ∙ ap Some (sym (ap (list_any (λ (x : ℕ). eqb x e)) is.started.marked_are ∙ marked_tells is.started.bits e 0 shape.elements (omega arith) (omega (arith, real))));
          counted = moments.bound_begun t script some served p now replies starts pieces come q less ∙ sym (ticket_is q less);
          steps_are = sym (append-nil (from_start q).steps);
          real = subst (All (IsOfMap shape)) (sym stays.steps) (real_was t script some served p now replies starts pieces come sound q less);
        };
        spares = λ _ cpu. ap (λ (spares : List _). element_of (spare_of cpu spares)) stays.spares ∙ spares_was q less cpu;
        answered = λ _. refl;
      }

  module _ (q cpu : ℕ) (less : q < p) (lone : lone_cpu (calls_of script q) ≡ Some cpu) where
    pub ran : HaveRunFrom t (from_start q) (calls_of script q) (did q).now (did q).told
    ran = let alone = (fact q less).alone cpu lone in alone.1.exact (from_start q) refl (start_is q less) (begins q less)

    pub lost_now : (did q).now.view.lost ≡ []
    lost_now = moments.lost_at t script some served p now replies starts pieces come sound q less

    abbrev pub end_state : State
    end_state = run shape (suc (first_of script q)) (calls_of script q) (state_of q)

    -- what is known at its end is so at the start of the next phase, or at the end of the race
    log_end : (k : ℕ) → k < lock_count shape → IsTrue (is_lock shape (lock_named shape k)) → drawn_before (bound (suc q)) (ends.log k) ≡ end_state.logs (lock_named shape k)
    log_end k below there = by (cases_lt (suc q) p)
      where
        knows : known_log k (did q).now.view.known ≡ Some (end_state.logs (lock_named shape k))
        knows = (ran.knows lost_now).knows.each k below there

        by : (suc q < p) ⊎ (p ≤ suc q) → drawn_before (bound (suc q)) (ends.log k) ≡ end_state.logs (lock_named shape k)
        by (inl more) =
            then_at (suc q) more k
            ∙ (fact (suc q) more).started.learns.knew k (end_state.logs (lock_named shape k)) (ap (λ (v : PassView). known_log k v.view.known) (Rattle.run_records.proofs.PhaseChain.chain t script p now replies starts pieces come q more) ∙ knows)
        by (inr last) =
            let is : suc q ≡ p = omega (arith, less, last) in
            let here : (did q).now ≡ now = sym (moments.at_end t script some served p now replies starts pieces come q less) ∙ ap (moments.pass_at t script some served p now replies starts pieces come) is ∙ moments.pass_last t script some served p now replies starts pieces come in
            ap (λ (r : ℕ). drawn_before (bound r) (ends.log k)) is ∙ then_end k ∙ ends.known k (end_state.logs (lock_named shape k)) (ap (λ (v : PassView). known_log k v.view.known) (sym here) ∙ knows)

    -- its bits too
    bits_end : (e : ℕ) → e < shape.elements → bit_seen e (did q).now.view.bits ≡ Some (end_state.bits e)
    bits_end = (ran.knows lost_now).bits

    abbrev end_start : PhaseStart
    end_start = start_of shape end_state

    pub left_end : end_of (record_left shape.cpus pieces replies starts closed) q ≡ end_start
    left_end = by (cases_lt (suc q) p)
      where
        ticket : end_state.next_ticket ≡ bound (suc q)
        ticket = sym (ran.knows lost_now).counted ∙ moments.bound_now t script some served p now replies starts pieces come q less

        by : (suc q < p) ⊎ (p ≤ suc q) → end_of (record_left shape.cpus pieces replies starts closed) q ≡ end_start
        by (inl more) =
            let next_start : PhaseStart = (did (suc q)).start in
            let is = (fact (suc q) more).started in
            let there : slice_get starts (suc q) ≡ Some next_start = ap (λ (l : List PhaseStart). slice_get l (suc q)) (starts_are t script p now replies starts pieces come) ∙ made_there (λ r. (did r).start) p (suc q) more in
            let marked : next_start.marked ≡ end_start.marked =
            is.marked_are ∙ same_filter is.bits end_state.bits 0 shape.elements
            (λ e low high. is.knew e (end_state.bits e) (omega (arith, high)) (ap (λ (v : PassView). bit_seen e v.view.bits) (Rattle.run_records.proofs.PhaseChain.chain t script p now replies starts pieces come q more) ∙ bits_end e (omega (arith, high)))) in
            let number : next_start.ticket ≡ end_state.next_ticket = ticket_is (suc q) more ∙ sym ticket in
            ap (λ (o : Option PhaseStart). unwrap_or o (record { ticket = length (all_entries closed.histories); marked = closed.finals.marked })) there
            ∙ (λ i. record { ticket = number i; marked = marked i })
        by (inr last) =
            let is : suc q ≡ p = omega (arith, less, last) in
            let here : (did q).now ≡ now = sym (moments.at_end t script some served p now replies starts pieces come q less) ∙ ap (moments.pass_at t script some served p now replies starts pieces come) is ∙ moments.pass_last t script some served p now replies starts pieces come in
            let long : length starts ≡ p = ap length (starts_are t script p now replies starts pieces come) ∙ length-map-range_with_len (λ r. (did r).start) 0 p in
            let gone : slice_get starts (suc q) ≡ None = slice_get_past starts (suc q) (omega (arith, long, last)) in
            let drawn : next now.view ≡ ends.drawn = (let none = sound.refused in let reached = ends.drawn_is in omega (arith, none, reached)) in
            let number : length (all_entries closed.histories) ≡ end_state.next_ticket =
            counted shape now closed ends whole ∙ sym drawn ∙ ap (λ (v : PassView). next v.view) (sym here) ∙ (ran.knows lost_now).counted in
            let marked : closed.finals.marked ≡ end_start.marked =
            map_left.marked_are ends.left ∙ same_filter ends.core.bit end_state.bits 0 shape.elements
            (λ e low high. ends.bits e (end_state.bits e) (ap (λ (v : PassView). bit_seen e v.view.bits) (sym here) ∙ bits_end e (omega (arith, high)))) in
            ap (λ (o : Option PhaseStart). unwrap_or o (record { ticket = length (all_entries closed.histories); marked = closed.finals.marked })) gone
            ∙ (λ i. record { ticket = number i; marked = marked i })

    -- so its entries are those that are drawn between its start and its end
    pub entries_are : (lock : DomainId) → IsTrue (is_lock shape lock)
        → added shape (suc (first_of script q)) (calls_of script q) (state_of q) lock ≡ drawn_between (did q).start.ticket (end_of (record_left shape.cpus pieces replies starts closed) q).ticket (entries_of closed.histories lock)
    entries_are lock real =
        let k : ℕ = lock_number shape lock in
        let named = named_by_number shape lock real in
        let below = number_within shape lock real in
        let there : IsTrue (is_lock shape (lock_named shape k)) = ap (is_lock shape) named ∙ real in
        let history : List Entry = entries_of closed.histories lock in
        let told : history ≡ ends.log k = ap (entries_of closed.histories) (sym named) ∙ entries_at shape now closed ends whole k below there in
        let ticket : (end_of (record_left shape.cpus pieces replies starts closed) q).ticket ≡ bound (suc q) =
        ap (λ (s : PhaseStart). s.ticket) left_end ∙ sym (ran.knows lost_now).counted ∙ moments.bound_now t script some served p now replies starts pieces come q less in
        let later : drawn_before (end_of (record_left shape.cpus pieces replies starts closed) q).ticket history ≡ end_state.logs lock =
        (λ i. drawn_before (ticket i) (told i)) ∙ log_end k below there ∙ ap end_state.logs named in
        let ascend : AscendIn 0 (tickets_of history) ends.drawn =
        subst (λ (l : List Entry). AscendIn 0 (tickets_of l) ends.drawn) (sym told) ((ends.ticketed whole).in_histories k below there) in
        let up : (did q).start.ticket ≤ (end_of (record_left shape.cpus pieces replies starts closed) q).ticket =
        (let rise = moments.rise t script some served p now replies starts pieces come q less in let first = ticket_is q less in omega (arith, rise, first, ticket)) in
        append_cancel_left (drawn_before (did q).start.ticket history) _ _
        (sym (logs_from shape (suc (first_of script q)) (calls_of script q) (state_of q) lock) ∙ sym later
        ∙ before_parted (did q).start.ticket (end_of (record_left shape.cpus pieces replies starts closed) q).ticket 0 ends.drawn history up ascend)

    abbrev pub is_exact : (did q).told ≡ of_phase script.cuts q replies → IsExact script (record_left shape.cpus pieces replies starts closed) spares_at q
    is_exact told = record {
      start = (did q).start;
      start_is = ap (λ (l : List PhaseStart). slice_get l q) (starts_are t script p now replies starts pieces come) ∙ made_there (λ r. (did r).start) p q less;
      entries = entries_are;
      replies = sym (ran.answered lost_now) ∙ told;
      ends = sym left_end;
    }
