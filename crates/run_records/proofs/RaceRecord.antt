-- What is kept of a race whose closed table lost no record is a record of its script, where its nests stand apart.
use Rattle.std.proofs.Common.{◌≡◌, ◌≢◌, ◌⊎◌, ℕ, zero, suc, ◌+◌, ◌<◌, ◌≤◌, true, false, eqb, List, [], length, map, Option, Some, None, refl, ap, sym, ◌∙◌, subst, arith, inl, inr}
use Rattle.std.specs.Prelude.{All, IsTrue, IsFalse, MatchBool, MatchOption, ⊤, filter, option_map, slice_get}
use Rattle.std.specs.List.{AllByRecursion, range_with_len}
use Rattle.std.proofs.lemmas.Bool.{cases_lt, eq-eqb, ne_eqb}
use Rattle.std.proofs.lemmas.List.Elements.{recursion_from_All, All-from_recursion, All-weaker, All-filter, All-take, All-drop}
use Rattle.std.proofs.lemmas.List.FromFn.{length-map-range_with_len}
use Rattle.std.proofs.lemmas.Option.{none-some, same_Some, slice_get_past, slice_get_within, slice_get-map}
use Rattle.map_types.specs.Creation.{IsShape}
use Rattle.map_types.specs.Kind.{is_lru}
use Rattle.map_types.specs.Stored.{Stored}
use Rattle.map_types.specs.declared.attr.Shape.{Shape}
use Rattle.map_types.specs.declared.call.Call.{Call}
use Rattle.map_types.specs.declared.kind.DomainId.{DomainId}
use Rattle.map_types.specs.declared.kind.MapKind.{MapKind}
use Rattle.map_types.specs.declared.kind.MapKind.TheVariants.{Hash, PercpuHash, LruHash, LruPercpuHash}
use Rattle.map_types.specs.declared.reply.Reply.{Reply}
use Rattle.map_script.specs.declared.script.Script.{Script}
use Rattle.map_script.specs.WellFormed.{AreCuts}
use Rattle.place_words.specs.declared.finals.Finals.{Finals}
use Rattle.place_words.specs.declared.history.Entry.{Entry}
use Rattle.place_words.specs.declared.history.LockHistory.{LockHistory}
use Rattle.place_words.specs.declared.history.Strand.{Strand}
use Rattle.place_words.specs.Histories.{content}
use Rattle.place_words.specs.Locks.{is_lock, lock_number}
use Rattle.place_words.specs.Phases.{phase_of, phase_count, calls_before, of_phase}
use Rattle.place_words.specs.Strands.{places_on}
use Rattle.place_words.specs.Tickets.{AscendIn, tickets_of, all_entries, ticket_at, AreTicketed}
use Rattle.place_words.proofs.Ascending.{ascend_from, ascend_to}
use Rattle.place_words.proofs.LockLemmas.{named_by_number, number_within}
use Rattle.owner_words.specs.Owners.{OwnersTold}
use Rattle.place_table.specs.declared.view.Turned.{Turned}
use Rattle.place_table.specs.declared.view.View.{View}
use Rattle.place_table.specs.Calls.{element_of}
use Rattle.place_table.specs.Closing.{ClosedView, IsClosed, all_locks, history_of, state_left}
use Rattle.place_table.specs.Passes.{PassView, TableView, IsKeptOf, spare_of}
use Rattle.place_table.specs.Rules.{indexes, turns_on, StandIn}
use Rattle.place_table.specs.Tickets.{turn_tickets}
use Rattle.place_table.specs.Views.{bit_seen, next}
use Rattle.turn_order.specs.Nests.{NestsApart}
use Rattle.map_report.specs.declared.record.PhaseStart.{PhaseStart}
use Rattle.map_report.specs.declared.record.RunRecord.{RunRecord}
use Rattle.map_report.specs.Phases.{HasExactPhases}
use Rattle.map_report.specs.Record.{Ascend, EachAnswered, HasElements, HasListedElements, HoldsElements, IsConcatenation, IsInItsPhase, IsRecord, StartsRise, Tells, entries_of, places_in}
use Rattle.map_report.specs.Serial.{opening}
use Rattle.map_report.specs.Turns.{spare_at}
use Rattle.map_report.proofs.CutLemmas.{Rise}
use Rattle.map_report.proofs.ExactPhases.{exact_gets}
use Rattle.map_report.proofs.LogContents.{tells}
use Rattle.run_records.specs.declared.pieces.Piece.{Piece}
use Rattle.run_records.specs.ByLogs.{IsOfMap}
use Rattle.run_records.specs.Copies.{IsCopyOf, record_left}
use Rattle.run_records.specs.Parts.{Part, cpus_of, cut_strands, lone_cpu}
use Rattle.run_records.specs.Phased.{IsWhole}
use Rattle.run_records.specs.Races.{first_of, calls_of, HaveComeTo, IsRaceRecord}
use Rattle.serial_laws.specs.Served.{IsServed, IsServedCall}
use Rattle.file_order.specs.Replies.{replies_of}
use Rattle.run_records.specs.Work.{AreCallsBy}
use Rattle.serial_laws.proofs.AnyRecord.{spares_of}
use Rattle.serial_laws.proofs.HistoryTurns.{by_bool}
use Rattle.run_records.proofs.Moments.{in_phase, places_are, places_alone, never_falls}
use Rattle.run_records.proofs.PartLemmas.{strand_of, strands_are, are_cut_of, stand}
use Rattle.run_records.proofs.PhaseChain.{first_is, pieces_are, replies_are, starts_are}
use Rattle.run_records.proofs.PhaseExact as exact
use Rattle.run_records.proofs.PhaseMoments as moments
use Rattle.run_records.proofs.PhaseParts.{Done, parts_of, parts_to, cut_to, whole_to}
use Rattle.run_records.proofs.PhaseReplies.{told_is, all_answered}
use Rattle.run_records.proofs.RaceCalls.{StandsThere, concatenation, concatenation_alone, each_call_answered}
use Rattle.run_records.proofs.RaceFinals.{filter_ascends, spares_by, spares_are, spare_is, nothing_in_hand, elements_left}
use Rattle.run_records.proofs.RaceHistories.{each_told, entries_told, histories_are, locks_are, are_legal, on_cpus, turns_stand}
use Rattle.run_records.proofs.RaceKept.{steps_of, places_of_steps}
use Rattle.run_records.proofs.RaceListed.{listed_left}
use Rattle.run_records.proofs.RaceParts.{named_by, cpu_in, place_of_strand, part_by, part_here, part_at, part_there, each_part, strands_told_to}
use Rattle.run_records.proofs.RaceTickets.{counted, each_once, in_histories, strand_ascends}
use Rattle.run_records.proofs.SerialRun.{element_is, spare_first}
use Rattle.serial_laws.proofs.ListPlaces.{all_pass, none_pass}
use Rattle.serial_laws.proofs.ListPlaces.{made_there, one_passes, all_standing, all_at, mapped_there}
use Rattle.run_records.proofs.LoneCalls.{lone_is, lone_some, lone_within}
use Rattle.run_records.proofs.RunByLogs.{no_bit_set}
use Rattle.serial_laws.proofs.TurnLocks.{range_below}
use Rattle.run_records.proofs.PhaseStates.{evicts_not, spareless_there}

module _ (script : Script) (table : TableView) (created : IsShape script.shape) (is_served : IsServed script) (cuts : Rise 0 script.cuts (length script.calls))
    (now : PassView) (replies : List Reply) (starts : List PhaseStart) (pieces : List Piece) (come : HaveComeTo (record { id = table.id; shape = script.shape }) script (phase_count script.cuts) now replies starts pieces)
    (closed : ClosedView) (ends : IsClosed script.shape now closed) (whole : closed.lost ≡ false) where
  abbrev pub t : TableView
  t = record { id = table.id; shape = script.shape }

  abbrev pub shape : Shape
  shape = script.shape

  abbrev pub p : ℕ
  p = phase_count script.cuts

  abbrev pub did : ℕ → Done
  did = exact.did script table created is_served p now replies starts pieces come closed ends whole

  abbrev left : RunRecord
  left = record_left shape.cpus pieces replies starts closed

  some : 0 < shape.cpus
  some = exact.some script table created is_served p now replies starts pieces come closed ends whole

  served : (q : ℕ) → All (λ (call : Call). call.cpu < shape.cpus) (calls_of script q)
  served q = exact.served script table created is_served p now replies starts pieces come closed ends whole q

  abbrev pub bound : ℕ → ℕ
  bound = exact.bound script table created is_served p now replies starts pieces come closed ends whole

  abbrev spares : ℕ → ℕ → Option ℕ
  spares = exact.spares_at script table created is_served p now replies starts pieces come closed ends whole

  all_cpus : IsWhole t now
  all_cpus = whole_to t script p now replies starts pieces come

  lost_at : (q : ℕ) → q < p → (did q).now.view.lost ≡ []
  lost_at q less = moments.lost_at t script (exact.some script table created is_served p now replies starts pieces come closed ends whole) (exact.served script table created is_served p now replies starts pieces come closed ends whole) p now replies starts pieces come (exact.sound script table created is_served p now replies starts pieces come closed ends whole) q less

  pub made : (q cpu : ℕ) → q < p → cpu < shape.cpus → All (λ (step : Turned). (step.entry.cpu ≡ cpu) × (phase_of script.cuts step.entry.call ≡ q)) ((did q).turns cpu)
  made q cpu less real = moments.made t script (exact.some script table created is_served p now replies starts pieces come closed ends whole) (exact.served script table created is_served p now replies starts pieces come closed ends whole) p now replies starts pieces come (exact.sound script table created is_served p now replies starts pieces come closed ends whole) cuts refl q cpu less real

  real_turns : (q cpu : ℕ) → q < p → cpu < shape.cpus → All (IsOfMap shape) ((did q).turns cpu)
  real_turns q cpu less real = moments.real_turns t script (exact.some script table created is_served p now replies starts pieces come closed ends whole) (exact.served script table created is_served p now replies starts pieces come closed ends whole) p now replies starts pieces come (exact.sound script table created is_served p now replies starts pieces come closed ends whole) q cpu less real

  lone_real : (q cpu : ℕ) → lone_cpu (calls_of script q) ≡ Some cpu → cpu < shape.cpus
  lone_real q cpu is = lone_within shape.cpus (calls_of script q) cpu (exact.some script table created is_served p now replies starts pieces come closed ends whole) (exact.served script table created is_served p now replies starts pieces come closed ends whole q) is

  spares_begun : (q : ℕ) → q < p → (cpu : ℕ) → element_of (spare_of cpu (did q).begun.spares) ≡ spares q cpu
  spares_begun q less cpu =
      ap (λ (s : List (Option Stored)). element_of (spare_of cpu s)) (exact.fact script table created is_served p now replies starts pieces come closed ends whole q less).started.stays.spares
      ∙ exact.spares_was script table created is_served p now replies starts pieces come closed ends whole q less cpu

  spares_now : (q : ℕ) → q < p → (cpu : ℕ) → element_of (spare_of cpu (did q).now.spares) ≡ spares (suc q) cpu
  spares_now q less cpu = ap (λ (v : PassView). element_of (spare_of cpu v.spares)) (sym (moments.at_end t script (exact.some script table created is_served p now replies starts pieces come closed ends whole) (exact.served script table created is_served p now replies starts pieces come closed ends whole) p now replies starts pieces come q less))

  pub calls_by : (q cpu : ℕ) → q < p → cpu < shape.cpus → AreCallsBy shape cpu (suc (first_of script q)) (calls_of script q) (spares q cpu) (spares (suc q) cpu) (replies_of cpu (calls_of script q) (did q).told) ((did q).turns cpu)
  calls_by q cpu less real =
      subst (λ (z : Option ℕ × Option ℕ). AreCallsBy shape cpu (suc (first_of script q)) (calls_of script q) z.0 z.1 (replies_of cpu (calls_of script q) (did q).told) ((did q).turns cpu))
      (λ i. (spares_begun q less cpu i, spares_now q less cpu i)) ((exact.fact script table created is_served p now replies starts pieces come closed ends whole q less).calls_are (lost_at q less) cpu real)

  told : (q : ℕ) → q < p → (did q).told ≡ of_phase script.cuts q replies
  told q less = told_is script cuts did p (λ r low. (exact.fact script table created is_served p now replies starts pieces come closed ends whole r low).counted) refl replies (replies_are t script p now replies starts pieces come) q less

  -- Spares

  spareless : shape.kind ≢ Hash → (cpu : ℕ) → cpu < shape.cpus → spare_of cpu now.spares ≡ None
  spareless other cpu real = spareless_there t now all_cpus other cpu real (spare_of cpu now.spares) refl

  first_spares : (cpu : ℕ) → spares 0 cpu ≡ spare_at (opening shape) cpu
  first_spares cpu =
      let first = first_is t script (length script.cuts) now replies starts pieces come in
      let opened = spares_of shape is_served.bounds shape.kind refl in
      sym (exact.spares_was script table created is_served p now replies starts pieces come closed ends whole 0 (omega arith) cpu)
      ∙ element_is (spare_of cpu (did 0).was.spares) ∙ spare_first t (did 0).was first cpu (spare_of cpu (did 0).was.spares) refl ∙ ap (λ (l : List ℕ). slice_get l cpu) (sym opened)

  last_spares : (cpu : ℕ) → spares p cpu ≡ spare_at closed.finals cpu
  last_spares cpu =
      ap (λ (v : PassView). element_of (spare_of cpu v.spares)) (moments.pass_last t script (exact.some script table created is_served p now replies starts pieces come closed ends whole) (exact.served script table created is_served p now replies starts pieces come closed ends whole) p now replies starts pieces come)
      ∙ element_is (spare_of cpu now.spares) ∙ sym (spare_is shape now closed ends all_cpus.of_table.1 all_cpus.all_cpus all_cpus.in_no_call spareless cpu)

  -- Strands

  abbrev pub parts : List Part
  parts = parts_to t script did p

  -- what holds of each CPU in each phase holds of each part
  by_cpu : (Q : Part → Type 0) → ((q cpu : ℕ) → q < p → cpu < shape.cpus → (c : Option ℕ) → (((c ≡ Some cpu) × (lone_cpu (calls_of script q) ≡ None)) ⊎ ((c ≡ None) × (lone_cpu (calls_of script q) ≡ Some cpu))) → Q (record { phase = q; cpu = c; turns = (did q).turns cpu; kept = (did q).kept cpu }))
      → AllByRecursion Q parts
  by_cpu Q holds = each_part t script did Q p (λ q less cpu real. by q less (lone_cpu (calls_of script q)) refl cpu real)
    where
      by : (q : ℕ) → q < p → (lone : Option ℕ) → lone_cpu (calls_of script q) ≡ lone → (cpu : ℕ) → (lone_cpu (calls_of script q) ≡ None → cpu < shape.cpus) → Q (part_by t script did q lone cpu)
      by q less None is cpu real = holds q cpu less (real is) (Some cpu) (inl (refl, is))
      by q less (Some c) is cpu real = holds q c less (lone_real q c is) None (inr (refl, is))

  parts_kept : All (λ (part : Part). IsKeptOf shape part.turns [] part.kept) parts
  parts_kept =
      All-from_recursion (λ (part : Part). IsKeptOf shape part.turns [] part.kept) parts
      (by_cpu (λ (part : Part). IsKeptOf shape part.turns [] part.kept) (λ q cpu less real c is. (exact.fact script table created is_served p now replies starts pieces come closed ends whole q less).kept cpu real))

  pub parts_real : All (λ (part : Part). All (IsOfMap shape) part.turns) parts
  parts_real = All-from_recursion (λ (part : Part). All (IsOfMap shape) part.turns) parts (by_cpu (λ (part : Part). All (IsOfMap shape) part.turns) (λ q cpu less real c is. real_turns q cpu less real))

  left_strands : left.strands ≡ map (strand_of shape) parts
  left_strands =
      ap (λ (l : List Piece). cut_strands shape.cpus l closed.strands) (pieces_are t script p now replies starts pieces come)
      ∙ strands_are shape now closed ends whole is_served.bounds parts (cut_to t script p now replies starts pieces come) parts_kept parts_real

  parts_stand : All (λ (part : Part). StandIn ends.log part.turns) parts
  parts_stand = stand shape now closed ends whole is_served.bounds parts (cut_to t script p now replies starts pieces come) parts_kept parts_real

  -- what holds of each part's strand holds of each strand that is kept
  each_strand : (Q : Strand → Type 0) → AllByRecursion (λ (part : Part). Q (strand_of shape part)) parts → (n : ℕ) (strand : Strand) → slice_get left.strands n ≡ Some strand → Q strand
  each_strand Q all n strand is =
      let at = mapped_there (strand_of shape) parts n strand (ap (λ (l : List Strand). slice_get l n) (sym left_strands) ∙ is) in
      subst Q at.2 (all_at (λ (part : Part). Q (strand_of shape part)) parts (All-from_recursion (λ (part : Part). Q (strand_of shape part)) parts all) n at.0 at.1)

  pub stands : (q cpu : ℕ) → q < p → cpu < shape.cpus → (c : Option ℕ) → (((c ≡ Some cpu) × (lone_cpu (calls_of script q) ≡ None)) ⊎ ((c ≡ None) × (lone_cpu (calls_of script q) ≡ Some cpu))) → AllByRecursion (StandsThere shape closed.histories) ((did q).turns cpu)
  stands q cpu less real c is =
      let at = part_there t script did p q cpu less real in
      let its : StandIn ends.log ((did q).turns cpu) =
      subst (λ (l : List Turned). StandIn ends.log l) (turns_there (lone_cpu (calls_of script q)) refl is)
      (all_at (λ (part : Part). StandIn ends.log part.turns) parts parts_stand (place_of_strand t script did q cpu) (part_by t script did q (lone_cpu (calls_of script q)) cpu) at) in
      turns_stand shape now closed ends whole ((did q).turns cpu) (recursion_from_All (IsOfMap shape) ((did q).turns cpu) (real_turns q cpu less real)) its
    where
      turns_there : (lone : Option ℕ) → lone_cpu (calls_of script q) ≡ lone → (((c ≡ Some cpu) × (lone_cpu (calls_of script q) ≡ None)) ⊎ ((c ≡ None) × (lone_cpu (calls_of script q) ≡ Some cpu))) → (part_by t script did q lone cpu).turns ≡ (did q).turns cpu
      turns_there None is one = refl
      turns_there (Some d) is (inl one) = absurd (none-some d (sym one.1 ∙ is))
      turns_there (Some d) is (inr one) = ap (did q).turns (same_Some d cpu (sym is ∙ one.1))

  -- Where each strand stands

  in_strand : (q cpu : ℕ) → q < p → cpu < shape.cpus → MatchOption (slice_get left.strands (place_of_strand t script did q cpu)) ⊥ (λ (strand : Strand). strand.phase ≡ q)
  in_strand q cpu less real =
      let at = slice_get-map (strand_of shape) parts (place_of_strand t script did q cpu) ∙ ap (option_map (strand_of shape)) (part_there t script did p q cpu less real) in
      subst (λ (o : Option Strand). MatchOption o ⊥ (λ (strand : Strand). strand.phase ≡ q)) (sym (ap (λ (l : List Strand). slice_get l (place_of_strand t script did q cpu)) left_strands ∙ at)) (phase_is (lone_cpu (calls_of script q)))
    where
      phase_is : (lone : Option ℕ) → (part_by t script did q lone cpu).phase ≡ q
      phase_is None = refl
      phase_is (Some c) = refl

  cpus_are : (n : ℕ) (strand : Strand) → slice_get left.strands n ≡ Some strand → (strand.phase < p) × (strand.cpus ≡ filter (λ cpu. eqb (place_of_strand t script did strand.phase cpu) n) (range_with_len 0 shape.cpus))
  cpus_are n strand is =
      let at = mapped_there (strand_of shape) parts n strand (ap (λ (l : List Strand). slice_get l n) (sym left_strands) ∙ is) in
      let its = part_at t script did p n at.0 at.1 in
      subst (λ (s : Strand). (s.phase < p) × (s.cpus ≡ filter (λ cpu. eqb (place_of_strand t script did s.phase cpu) n) (range_with_len 0 shape.cpus))) at.2
      (by its.0 its.1 its.2 its.3 (lone_cpu (calls_of script its.0)) refl at.0 its.4)
    where
      at_place : (q : ℕ) (lone : Option ℕ) → lone_cpu (calls_of script q) ≡ lone → (cpu : ℕ) → place_of_strand t script did q cpu ≡ length (parts_to t script did q) + cpu_in t script did lone cpu
      at_place q one same cpu = ap (λ (o : Option ℕ). length (parts_to t script did q) + cpu_in t script did o cpu) same

      by : (q j : ℕ) → q < p → n ≡ length (parts_to t script did q) + j → (lone : Option ℕ) → lone_cpu (calls_of script q) ≡ lone → (part : Part) → slice_get (parts_of t script q lone (did q)) j ≡ Some part
          → (part.phase < p) × (cpus_of shape.cpus part.cpu ≡ filter (λ cpu. eqb (place_of_strand t script did part.phase cpu) n) (range_with_len 0 shape.cpus))
      by q j less at None is_lone part here =
          let its = part_here t script did q None j part here in
          let real : j < shape.cpus = its.1 refl in
          subst (λ (s : Part). (s.phase < p) × (cpus_of shape.cpus s.cpu ≡ filter (λ cpu. eqb (place_of_strand t script did s.phase cpu) n) (range_with_len 0 shape.cpus))) its.0 (
            less,
            sym (one_passes (λ cpu. eqb (place_of_strand t script did q cpu) n) j 0 shape.cpus (omega arith) (omega (arith, real))
                (eq-eqb (place_of_strand t script did q j) n (at_place q None is_lone j ∙ sym at))
                (λ e other. ne_eqb (place_of_strand t script did q e) n (λ same. let here_e = at_place q None is_lone e in other (omega (arith, same, here_e, at))))),
          )
      by q j less at (Some c) is_lone part here =
          let its = part_here t script did q (Some c) j part here in
          let first : j ≡ 0 = its.2 c refl in
          subst (λ (s : Part). (s.phase < p) × (cpus_of shape.cpus s.cpu ≡ filter (λ cpu. eqb (place_of_strand t script did s.phase cpu) n) (range_with_len 0 shape.cpus))) its.0 (
            less,
            sym (all_pass (λ cpu. eqb (place_of_strand t script did q cpu) n) 0 shape.cpus
                (λ cpu low high. eq-eqb (place_of_strand t script did q cpu) n (let here_c = at_place q (Some c) is_lone cpu in omega (arith, here_c, at, first)))),
          )

  -- Its steps on each lock

  abbrev IsOne : ℕ → ℕ → Option ℕ → Type 0
  IsOne q cpu c = ((c ≡ Some cpu) × (lone_cpu (calls_of script q) ≡ None)) ⊎ ((c ≡ None) × (lone_cpu (calls_of script q) ≡ Some cpu))

  ascends_on : (lock : DomainId) → IsTrue (is_lock shape lock) → AscendIn 0 (tickets_of (ends.log (lock_number shape lock))) ends.drawn
  ascends_on lock real =
      let named = named_by_number shape lock real in
      (ends.ticketed whole).in_histories (lock_number shape lock) (number_within shape lock real) (ap (is_lock shape) named ∙ real)

  steps_on : (q cpu : ℕ) → q < p → cpu < shape.cpus → (c : Option ℕ) → IsOne q cpu c → (lock : DomainId) → IsTrue (is_lock shape lock)
      → places_on lock (steps_of shape ((did q).turns cpu)) ≡ places_in script.cuts q (cpus_of shape.cpus c) 0 (entries_of closed.histories lock)
  steps_on q cpu less real c is lock there =
      let k : ℕ = lock_number shape lock in
      ap (λ (d : DomainId). places_on d (steps_of shape ((did q).turns cpu))) (sym (named_by_number shape lock there))
      ∙ places_of_steps shape k ((did q).turns cpu) ∙ by c is
      ∙ ap (places_in script.cuts q (cpus_of shape.cpus c) 0) (sym (entries_told shape now closed ends whole lock there))
    where
      by : (c : Option ℕ) → IsOne q cpu c → indexes (turns_on (lock_number shape lock) ((did q).turns cpu)) ≡ places_in script.cuts q (cpus_of shape.cpus c) 0 (ends.log (lock_number shape lock))
      by c (inl one) =
          places_are shape.cpus (λ r cpu. (did r).turns cpu) bound p (moments.rise t script (exact.some script table created is_served p now replies starts pieces come closed ends whole) (exact.served script table created is_served p now replies starts pieces come closed ends whole) p now replies starts pieces come) (λ r cpu low real. moments.windows t script (exact.some script table created is_served p now replies starts pieces come closed ends whole) (exact.served script table created is_served p now replies starts pieces come closed ends whole) p now replies starts pieces come r cpu low real) ends.log (moments.moment_end t script (exact.some script table created is_served p now replies starts pieces come closed ends whole) (exact.served script table created is_served p now replies starts pieces come closed ends whole) p now replies starts pieces come closed ends) script.cuts made q cpu less real (lock_number shape lock) ends.drawn (ascends_on lock there)
          ∙ ap (λ (o : Option ℕ). places_in script.cuts q (cpus_of shape.cpus o) 0 (ends.log (lock_number shape lock))) (sym one.0)
      by c (inr one) =
          places_alone shape.cpus (λ r cpu. (did r).turns cpu) bound p (moments.rise t script (exact.some script table created is_served p now replies starts pieces come closed ends whole) (exact.served script table created is_served p now replies starts pieces come closed ends whole) p now replies starts pieces come) (λ r cpu low real. moments.windows t script (exact.some script table created is_served p now replies starts pieces come closed ends whole) (exact.served script table created is_served p now replies starts pieces come closed ends whole) p now replies starts pieces come r cpu low real) ends.log (moments.moment_end t script (exact.some script table created is_served p now replies starts pieces come closed ends whole) (exact.served script table created is_served p now replies starts pieces come closed ends whole) p now replies starts pieces come closed ends) script.cuts made q cpu less real (λ other below apart. (exact.fact script table created is_served p now replies starts pieces come closed ends whole q less).others cpu other one.1 apart) (lock_number shape lock) ends.drawn (ascends_on lock there)
          ∙ ap (λ (o : Option ℕ). places_in script.cuts q (cpus_of shape.cpus o) 0 (ends.log (lock_number shape lock))) (sym one.0)

  -- Its calls

  calls_there : (q cpu : ℕ) → q < p → cpu < shape.cpus → (c : Option ℕ) → IsOne q cpu c
      → IsConcatenation shape closed.histories (cpus_of shape.cpus c) (suc (calls_before script.cuts (length script.calls) q)) (of_phase script.cuts q script.calls) (of_phase script.cuts q replies) (spares q) (spares (suc q)) (steps_of shape ((did q).turns cpu))
  calls_there q cpu less real c is =
      subst (λ (l : List Reply). IsConcatenation shape closed.histories (cpus_of shape.cpus c) (suc (first_of script q)) (calls_of script q) l (spares q) (spares (suc q)) (steps_of shape ((did q).turns cpu))) (told q less)
      (by c is)
    where
      Its : Option ℕ → Type 0
      Its o = IsConcatenation shape closed.histories (cpus_of shape.cpus o) (suc (first_of script q)) (calls_of script q) (did q).told (spares q) (spares (suc q)) (steps_of shape ((did q).turns cpu))

      others_stay : (lone_cpu (calls_of script q) ≡ Some cpu) → (other : ℕ) → other < shape.cpus → other ≢ cpu → spares (suc q) other ≡ spares q other
      others_stay one other below apart =
          let worked = ((exact.fact script table created is_served p now replies starts pieces come closed ends whole q less).alone cpu one).1.worked in
          sym (spares_now q less other) ∙ ap element_of (worked.other_spares other apart) ∙ spares_begun q less other

      by : (o : Option ℕ) → IsOne q cpu o → Its o
      by o (inl one) =
          subst Its (sym one.0)
          (concatenation shape closed.histories cpu (calls_of script q) (did q).told (suc (first_of script q)) (spares q) (spares (suc q)) (spares q cpu) ((did q).turns cpu) (exact.fact script table created is_served p now replies starts pieces come closed ends whole q less).counted refl (stands q cpu less real o (inl one)) (calls_by q cpu less real))
      by o (inr one) =
          subst Its (sym one.0)
          (concatenation_alone shape closed.histories cpu real (calls_of script q) (did q).told (suc (first_of script q)) (spares q) (spares (suc q)) (spares q cpu) ((did q).turns cpu) (lone_is (calls_of script q) cpu one.1) (exact.fact script table created is_served p now replies starts pieces come closed ends whole q less).counted refl
          (others_stay one.1) (stands q cpu less real o (inr one)) (calls_by q cpu less real))

  -- Its tickets

  abbrev AscendsAlong : Strand → Type 0
  AscendsAlong strand = AscendIn 0 (map (ticket_at closed.histories) strand.steps) (length (all_entries closed.histories))

  bound_end : bound p ≡ ends.drawn
  bound_end =
      let last = moments.pass_last t script (exact.some script table created is_served p now replies starts pieces come closed ends whole) (exact.served script table created is_served p now replies starts pieces come closed ends whole) p now replies starts pieces come in
      let none = (exact.sound script table created is_served p now replies starts pieces come closed ends whole).refused in
      let reached = ends.drawn_is in
      ap (λ (v : PassView). next v.view) last ∙ omega (arith, none, reached)

  tickets_along : (q cpu : ℕ) → q < p → cpu < shape.cpus → (c : Option ℕ) → IsOne q cpu c → AscendIn 0 (map (ticket_at closed.histories) (steps_of shape ((did q).turns cpu))) (length (all_entries closed.histories))
  tickets_along q cpu less real c is =
      let up : bound (suc q) ≤ bound p = never_falls shape.cpus (λ r cpu. (did r).turns cpu) bound p (moments.rise t script (exact.some script table created is_served p now replies starts pieces come closed ends whole) (exact.served script table created is_served p now replies starts pieces come closed ends whole) p now replies starts pieces come) (λ r cpu low real. moments.windows t script (exact.some script table created is_served p now replies starts pieces come closed ends whole) (exact.served script table created is_served p now replies starts pieces come closed ends whole) p now replies starts pieces come r cpu low real) ends.log (moments.moment_end t script (exact.some script table created is_served p now replies starts pieces come closed ends whole) (exact.served script table created is_served p now replies starts pieces come closed ends whole) p now replies starts pieces come closed ends) (suc q) p (omega (arith, less)) (omega arith) in
      let end = bound_end in
      strand_ascends shape now closed ends whole ((did q).turns cpu) (stands q cpu less real c is)
      (ascend_from 0 (bound q) (turn_tickets ((did q).turns cpu)) ends.drawn (omega arith)
      (ascend_to (bound q) (turn_tickets ((did q).turns cpu)) (bound (suc q)) ends.drawn (omega (arith, up, end)) (moments.windows t script (exact.some script table created is_served p now replies starts pieces come closed ends whole) (exact.served script table created is_served p now replies starts pieces come closed ends whole) p now replies starts pieces come q cpu less real)))

  ticketed : AreTicketed left.histories left.strands
  ticketed = record {
    each_once = each_once shape now closed ends whole;
    in_histories = in_histories shape now closed ends whole;
    in_strands = All-from_recursion AscendsAlong left.strands
        (all_standing AscendsAlong left.strands (each_strand AscendsAlong (by_cpu (λ (part : Part). AscendsAlong (strand_of shape part)) tickets_along)));
  }

  -- Phases

  start_at_phase : (q : ℕ) → q < p → slice_get starts q ≡ Some (did q).start
  start_at_phase q less = ap (λ (l : List PhaseStart). slice_get l q) (starts_are t script p now replies starts pieces come) ∙ made_there (λ r. (did r).start) p q less

  starts_long : length starts ≡ p
  starts_long = ap length (starts_are t script p now replies starts pieces come) ∙ length-map-range_with_len (λ r. (did r).start) 0 p

  in_its_phase : (k place : ℕ) (entry : Entry) → slice_get (ends.log k) place ≡ Some entry → IsInItsPhase script.cuts starts entry
  in_its_phase k place entry at =
      let its = in_phase shape.cpus (λ r cpu. (did r).turns cpu) bound p (moments.rise t script (exact.some script table created is_served p now replies starts pieces come closed ends whole) (exact.served script table created is_served p now replies starts pieces come closed ends whole) p now replies starts pieces come) (λ r cpu low real. moments.windows t script (exact.some script table created is_served p now replies starts pieces come closed ends whole) (exact.served script table created is_served p now replies starts pieces come closed ends whole) p now replies starts pieces come r cpu low real) ends.log (moments.moment_end t script (exact.some script table created is_served p now replies starts pieces come closed ends whole) (exact.served script table created is_served p now replies starts pieces come closed ends whole) p now replies starts pieces come closed ends) script.cuts made k place entry at in
      let q : ℕ = phase_of script.cuts entry.call in
      let first = exact.ticket_is script table created is_served p now replies starts pieces come closed ends whole q its.0 in
      record {
        start = (did q).start;
        start_is = start_at_phase q its.0;
        from = (let least = its.2 in omega (arith, first, least));
        to = by (cases_lt (suc q) p) its.3;
      }
    where
      by : (suc (phase_of script.cuts entry.call) < p) ⊎ (p ≤ suc (phase_of script.cuts entry.call)) → entry.ticket < bound (suc (phase_of script.cuts entry.call)) → MatchOption (slice_get starts (suc (phase_of script.cuts entry.call))) ⊤ (λ (next : PhaseStart). entry.ticket < next.ticket)
      by (inl more) low =
          let later = exact.ticket_is script table created is_served p now replies starts pieces come closed ends whole (suc (phase_of script.cuts entry.call)) more in
          subst (λ (o : Option PhaseStart). MatchOption o ⊤ (λ (next : PhaseStart). entry.ticket < next.ticket)) (sym (start_at_phase (suc (phase_of script.cuts entry.call)) more)) (omega (arith, low, later))
      by (inr last) low =
          let long = starts_long in
          subst (λ (o : Option PhaseStart). MatchOption o ⊤ (λ (next : PhaseStart). entry.ticket < next.ticket)) (sym (slice_get_past starts (suc (phase_of script.cuts entry.call)) (omega (arith, long, last)))) tt

  all_in_phases : All (λ (history : LockHistory). All (IsInItsPhase script.cuts starts) history.entries) closed.histories
  all_in_phases =
      subst (All (λ (history : LockHistory). All (IsInItsPhase script.cuts starts) history.entries)) (sym (histories_are shape now closed ends whole))
      (All-from_recursion (λ (history : LockHistory). All (IsInItsPhase script.cuts starts) history.entries) (map (history_of shape ends.log) (all_locks shape))
      (each_told shape ends.log (λ (history : LockHistory). All (IsInItsPhase script.cuts starts) history.entries)
      (λ k. All-from_recursion (IsInItsPhase script.cuts starts) (ends.log k) (all_standing (IsInItsPhase script.cuts starts) (ends.log k) (in_its_phase k))) (all_locks shape)))

  first_start : slice_get starts 0 ≡ Some (record { ticket = 0; marked = [] })
  first_start =
      let less : 0 < p = omega arith in
      let is = (exact.fact script table created is_served p now replies starts pieces come closed ends whole 0 less).started in
      let first = (first_is t script (length script.cuts) now replies starts pieces come).view_is in
      let ticket : (did 0).start.ticket ≡ 0 = is.ticket_is ∙ ap (λ (v : View). v.reached) first in
      let marked : (did 0).start.marked ≡ [] =
      is.marked_are ∙ none_pass is.bits 0 shape.elements
      (λ e low high. is.knew e false (omega (arith, high)) (ap (λ (v : View). bit_seen e v.bits) first ∙ no_bit_set e shape.elements (omega (arith, high)))) in
      start_at_phase 0 less ∙ (λ i. Some (record { ticket = ticket i; marked = marked i }))

  abbrev IsMarked : PhaseStart → Type 0
  IsMarked start = All (λ (element : ℕ). element < shape.elements) start.marked × Ascend start.marked

  all_marked : All IsMarked starts
  all_marked =
      All-from_recursion IsMarked starts
      (all_standing IsMarked starts (λ q start at.
      let less : q < p = (let within = slice_get_within starts q start at in let long = starts_long in omega (arith, within, long)) in
      let is = (exact.fact script table created is_served p now replies starts pieces come closed ends whole q less).started in
      subst IsMarked (same_Some (did q).start start (sym (start_at_phase q less) ∙ at))
      (subst (λ (l : List ℕ). All (λ (element : ℕ). element < shape.elements) l × Ascend l) (sym is.marked_are) (
        All-filter is.bits (λ (e : ℕ). e < shape.elements) (range_with_len 0 shape.elements)
            (All-from_recursion (λ (e : ℕ). e < shape.elements) (range_with_len 0 shape.elements) (range_below shape.elements 0 shape.elements (omega arith))),
        filter_ascends is.bits 0 shape.elements,
      ))))

  -- The tickets of the starts

  starts_rise : StartsRise left
  starts_rise =
      subst (λ (l : List PhaseStart). AreCuts 0 (length (all_entries closed.histories)) (map (λ (start : PhaseStart). start.ticket) l)) (sym (starts_are t script p now replies starts pieces come))
      (go 0 p 0 (omega arith) (omega arith))
    where
      go : (a n least : ℕ) → a + n ≡ p → least ≤ bound a → AreCuts least (length (all_entries closed.histories)) (map (λ (start : PhaseStart). start.ticket) (map (λ q. (did q).start) (range_with_len a n)))
      go a zero least is low = tt
      go a (suc n) least is low =
          let less : a < p = omega (arith, is) in
          let here = exact.ticket_is script table created is_served p now replies starts pieces come closed ends whole a less in
          let up = moments.rise t script (exact.some script table created is_served p now replies starts pieces come closed ends whole) (exact.served script table created is_served p now replies starts pieces come closed ends whole) p now replies starts pieces come a less in
          let end = bound_end in
          let most : bound a ≤ bound p = never_falls shape.cpus (λ r cpu. (did r).turns cpu) bound p (moments.rise t script (exact.some script table created is_served p now replies starts pieces come closed ends whole) (exact.served script table created is_served p now replies starts pieces come closed ends whole) p now replies starts pieces come) (λ r cpu low real. moments.windows t script (exact.some script table created is_served p now replies starts pieces come closed ends whole) (exact.served script table created is_served p now replies starts pieces come closed ends whole) p now replies starts pieces come r cpu low real) ends.log (moments.moment_end t script (exact.some script table created is_served p now replies starts pieces come closed ends whole) (exact.served script table created is_served p now replies starts pieces come closed ends whole) p now replies starts pieces come closed ends) a p (omega (arith, less)) (omega arith) in
          let long = counted shape now closed ends whole in
          let next_is : suc a ≡ a + 1 = omega arith in (
            subst (λ (k : ℕ). least ≤ k) (sym here) low,
            subst (λ (z : ℕ × ℕ). z.0 ≤ z.1) (λ i. (sym here i, (end ∙ sym long) i)) most,
            go (a + 1) n (did a).start.ticket (omega (arith, is)) (subst (λ (z : ℕ × ℕ). z.0 ≤ bound z.1) (λ i. (sym here i, next_is i)) up),
          )

  -- Replies

  answered : EachAnswered shape script.calls replies
  answered =
      all_answered script cuts did p (λ r low. (exact.fact script table created is_served p now replies starts pieces come closed ends whole r low).counted) refl replies (replies_are t script p now replies starts pieces come)
      (λ q less.
      each_call_answered shape (calls_of script q) (did q).told (suc (first_of script q)) (spares (suc q)) (exact.fact script table created is_served p now replies starts pieces come closed ends whole q less).counted
      (recursion_from_All (IsServedCall shape) (calls_of script q) (All-take (IsServedCall shape) _ _ (All-drop (IsServedCall shape) _ script.calls is_served.calls)))
      (λ cpu real. (spares q cpu, (did q).turns cpu, calls_by q cpu less real)))

  -- What the map holds at the end

  contents_told : (lock : DomainId) → IsTrue (is_lock shape lock) → Tells closed.finals lock (content shape lock (entries_of closed.histories lock))
  contents_told lock real =
      subst (λ (z : Finals × List Entry). Tells z.0 lock (content shape lock z.1))
      (λ i. (sym ends.left.finals_are i, sym (entries_told shape now closed ends whole lock real) i))
      (tells shape (state_left shape ends.log ends.core.bit now.spares) lock real)

  no_spares_left : (kind : MapKind) → shape.kind ≡ kind → is_lru kind ≡ true → closed.finals.spares ≡ []
  no_spares_left Hash is lru = cc
  no_spares_left PercpuHash is lru = cc
  no_spares_left LruHash is lru = spares_are shape now closed ends all_cpus.of_table.1 all_cpus.all_cpus all_cpus.in_no_call spareless ∙ ap (spares_by shape now closed ends all_cpus.of_table.1 all_cpus.all_cpus all_cpus.in_no_call spareless) is
  no_spares_left LruPercpuHash is lru = spares_are shape now closed ends all_cpus.of_table.1 all_cpus.all_cpus all_cpus.in_no_call spareless ∙ ap (spares_by shape now closed ends all_cpus.of_table.1 all_cpus.all_cpus all_cpus.in_no_call spareless) is

  holds : HoldsElements shape closed.finals
  holds =
      by_bool (is_lru shape.kind) (λ b. MatchBool b (HasListedElements shape closed.finals) (HasElements shape closed.finals))
      (λ lru.
      listed_left shape now closed ends lru
      (nothing_in_hand shape now closed ends all_cpus.of_table.1 all_cpus.all_cpus all_cpus.in_no_call spareless (evicts_not shape.kind lru))
      (no_spares_left shape.kind refl lru))
      (λ plain. elements_left shape now closed ends all_cpus.of_table.1 all_cpus.all_cpus all_cpus.in_no_call spareless is_served.bounds plain)

  is_record : IsRecord script left
  is_record = record {
    locks = locks_are shape now closed ends whole;
    legal = are_legal shape now closed ends whole;
    on_cpus = on_cpus shape now closed ends whole (λ k place entry is. (in_phase shape.cpus (λ r cpu. (did r).turns cpu) bound p (moments.rise t script (exact.some script table created is_served p now replies starts pieces come closed ends whole) (exact.served script table created is_served p now replies starts pieces come closed ends whole) p now replies starts pieces come) (λ r cpu low real. moments.windows t script (exact.some script table created is_served p now replies starts pieces come closed ends whole) (exact.served script table created is_served p now replies starts pieces come closed ends whole) p now replies starts pieces come r cpu low real) ends.log (moments.moment_end t script (exact.some script table created is_served p now replies starts pieces come closed ends whole) (exact.served script table created is_served p now replies starts pieces come closed ends whole) p now replies starts pieces come closed ends) script.cuts made k place entry is).1);
    one_each = starts_long;
    first = first_start;
    in_phases = all_in_phases;
    strand_of = place_of_strand t script did;
    in_strand = in_strand;
    cpus_are = cpus_are;
    steps = each_strand (λ strand. (lock : DomainId) → IsTrue (is_lock shape lock) → places_on lock strand.steps ≡ places_in script.cuts strand.phase strand.cpus 0 (entries_of closed.histories lock))
        (by_cpu (λ part. (lock : DomainId) → IsTrue (is_lock shape lock) → places_on lock (strand_of shape part).steps ≡ places_in script.cuts part.phase (strand_of shape part).cpus 0 (entries_of closed.histories lock)) steps_on);
    spares = spares;
    first_spares = first_spares;
    last_spares = last_spares;
    calls_are = each_strand (λ strand. IsConcatenation shape closed.histories strand.cpus (suc (calls_before script.cuts (length script.calls) strand.phase)) (of_phase script.cuts strand.phase script.calls) (of_phase script.cuts strand.phase replies) (spares strand.phase) (spares (suc strand.phase)) strand.steps)
        (by_cpu (λ part. IsConcatenation shape closed.histories (strand_of shape part).cpus (suc (calls_before script.cuts (length script.calls) part.phase)) (of_phase script.cuts part.phase script.calls) (of_phase script.cuts part.phase replies) (spares part.phase) (spares (suc part.phase)) (strand_of shape part).steps) calls_there);
    replies = answered;
    contents = contents_told;
    finals = holds;
    marked = all_marked;
    tickets = ticketed;
  }

  exact_phases : HasExactPhases script left spares
  exact_phases q cpu less are =
      let lone = lone_some (calls_of script q) cpu are in
      let is = exact.is_exact script table created is_served p now replies starts pieces come closed ends whole q lone.0 less lone.1 (told q less) in (
        is,
        exact_gets script created (All-weaker (IsServedCall shape) (λ (call : Call). call.cpu < shape.cpus) (λ call one. one.cpu) script.calls is_served.calls) left spares q is (exact.start_is script table created is_served p now replies starts pieces come closed ends whole q less),
      )

  owners : IsTrue (is_lru shape.kind) → OwnersTold shape (entries_of closed.histories)
  owners evicts =
      let told = ends.owners evicts whole in
      record {
        owner = told.owner;
        first = told.first;
        told = λ lock place entry real at. told.told lock place entry real (at_log lock place entry real at);
        seen = λ lock place entry real at. told.seen lock place entry real (at_log lock place entry real at);
      }
    where
      at_log : (lock : DomainId) (place : ℕ) (entry : Entry) → IsTrue (is_lock shape lock) → slice_get (entries_of closed.histories lock) place ≡ Some entry → slice_get (ends.log (lock_number shape lock)) place ≡ Some entry
      at_log lock place entry real at = ap (λ (l : List Entry). slice_get l place) (sym (entries_told shape now closed ends whole lock real)) ∙ at

  pub is_race_record : NestsApart left.histories → IsRaceRecord script left
  unfolding is_record
  is_race_record nests = record {
    is_record = is_record;
    starts_rise = starts_rise;
    strand_each = ap (map named_by) left_strands ∙ strands_told_to t script did p;
    exact = exact_phases;
    nests = nests;
    owners = owners;
  }

  pub is_copy : IsCopyOf left closed
  is_copy = record {
    histories = refl;
    strands = subst (λ (l : List Strand). Rattle.run_records.specs.Copies.IsCutOf (filter Rattle.run_records.specs.Copies.has_step l) closed.strands) (sym left_strands)
        (are_cut_of shape now closed ends whole is_served.bounds parts (cut_to t script p now replies starts pieces come) parts_kept parts_real);
    finals = refl;
    whole = whole;
  }
