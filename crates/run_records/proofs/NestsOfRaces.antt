-- Of the record of a race whose closed table lost no record: its nests stand apart.
use Rattle.std.proofs.Common.{◌≡◌, ◌⊎◌, inl, inr, ℕ, zero, suc, ◌<◌, ◌≤◌, Bool, true, false, cond, not, List, [], ◌∷◌, ◌++◌, All, length, map, Option, Some, None, refl, ap, sym, ◌∙◌, subst, arith}
use Rattle.std.specs.Prelude.{IsTrue, MatchBool, filter, slice_get, ◌&&◌}
use Rattle.std.specs.List.{AllByRecursion, range_with_len}
use Rattle.std.proofs.lemmas.Bool.{and_parts, cases_eq, true≢false}
use Rattle.std.proofs.lemmas.List.Elements.{recursion_from_All}
use Rattle.std.proofs.lemmas.Option.{none-some, same_Some}
use Rattle.map_types.specs.Creation.{IsShape}
use Rattle.map_types.specs.Kind.{is_lru}
use Rattle.map_types.specs.declared.attr.Shape.{Shape}
use Rattle.map_types.specs.declared.call.Call.{Call}
use Rattle.map_types.specs.declared.kind.DomainId.{DomainId}
use Rattle.map_types.specs.declared.kind.DomainId.TheVariants.{Local, Global, CpuLru, Bucket, Freelist}
use Rattle.map_types.specs.declared.reply.Reply.{Reply}
use Rattle.map_types.proofs.RowLemmas.{by_test}
use Rattle.map_script.specs.declared.script.Script.{Script}
use Rattle.place_words.specs.declared.history.Entry.{Entry}
use Rattle.place_words.specs.declared.history.LockHistory.{LockHistory}
use Rattle.place_words.specs.Interleaving.{Drawn}
use Rattle.place_words.specs.Locks.{is_lock, lock_named, lock_count, rank_of}
use Rattle.place_words.specs.Named.{entries_of}
use Rattle.place_words.specs.Phases.{phase_of, phase_count}
use Rattle.place_words.specs.Tickets as by_entry
use Rattle.place_words.specs.Tickets.{AscendIn}
use Rattle.place_words.specs.Walks.{spare_left}
use Rattle.place_table.specs.declared.view.Turned.{Turned}
use Rattle.place_table.specs.Closing.{ClosedView, IsClosed, has_lock, all_locks, history_of}
use Rattle.place_table.specs.Known.{turn_at, IsBy}
use Rattle.place_table.specs.Nested.{AreNested}
use Rattle.place_table.specs.Passes.{PassView, TableView}
use Rattle.place_table.specs.Rules.{turns_on}
use Rattle.place_table.specs.Tickets.{turn_tickets}
use Rattle.place_table.specs.Views.{all_strands, place_of}
use Rattle.map_report.specs.declared.record.PhaseStart.{PhaseStart}
use Rattle.map_report.proofs.CutLemmas.{Rise}
use Rattle.serial_laws.specs.Served.{IsServed}
use Rattle.serial_laws.proofs.ListPlaces.{all_at, kept_stands, passing_kept}
use Rattle.serial_laws.proofs.TurnLocks.{range_below}
use Rattle.turn_order.specs.Ordered.{all_drawn, drawn_in}
use Rattle.turn_order.specs.OrderLaws.{AreDrawnOnce}
use Rattle.turn_order.proofs.LockOrder.{drawn_there}
use Rattle.turn_order.proofs.Members.{IsAmong, among_all, among_at, among_back, flat_among, filter_among, map_among}
use Rattle.run_records.specs.declared.pieces.Piece.{Piece}
use Rattle.run_records.specs.ByLogs.{IsOfMap}
use Rattle.run_records.specs.Copies.{record_left}
use Rattle.run_records.specs.Parts.{Part, has_turns, lone_cpu}
use Rattle.run_records.specs.Races.{calls_of, first_of, HaveComeTo}
use Rattle.run_records.specs.Work.{AreCallsBy, has_turn}
use Rattle.run_records.proofs.Moments.{IsMoment}
use Rattle.run_records.proofs.NestedStrands.{ticket_above}
use Rattle.turn_order.specs.Nests.{NestsApart}
use Rattle.run_records.proofs.NestsInOrder.{OfStrand, drawn_of, global_beside, apart_nests}
use Rattle.run_records.proofs.OwnCalls.{Begins}
use Rattle.run_records.proofs.PartLemmas.{turns_in, its_strand, no_turns}
use Rattle.run_records.proofs.PartRanks.{part_rank, legal_rank}
use Rattle.run_records.proofs.PhaseExact as exact
use Rattle.run_records.proofs.PhaseMoments as moments
use Rattle.run_records.proofs.PhaseParts.{Done, cut_to}
use Rattle.run_records.proofs.RaceCalls.{StandsThere}
use Rattle.run_records.proofs.RaceHistories.{histories_are, entries_at}
use Rattle.run_records.proofs.RaceParts.{place_of_strand, part_by, part_there}
use Rattle.run_records.proofs.RaceRecord as race
use Rattle.run_records.proofs.RaceTickets.{each_once}
use Rattle.run_records.proofs.Whole.{none_lost}

-- Lists

of_each : {X : Type 0} (P : X → Type 0) (x : X) (xs : List X) → AllByRecursion P xs → IsAmong x xs → P x
of_each P x [] all at = absurd at
of_each P x (y ∷ ys) all (inl same) = subst P same all.0
of_each P x (y ∷ ys) all (inr later) = of_each P x ys all.1 later

-- a turn of a lock, by its place
turn_there : (k : ℕ) (steps : List Turned) (j place : ℕ) (entry : Entry) → slice_get (turns_on k steps) j ≡ Some (place, entry) → (s : Turned) × IsAmong s steps × (s.lock ≡ k) × (s.entry ≡ entry)
turn_there k [] j place entry is = absurd (none-some (place, entry) is)
turn_there k (step ∷ steps) j place entry is =
    by_test step.lock k
    (λ b. slice_get (cond b ((place_of step, step.entry) ∷ turns_on k steps) (turns_on k steps)) j ≡ Some (place, entry) → (s : Turned) × IsAmong s (step ∷ steps) × (s.lock ≡ k) × (s.entry ≡ entry))
    (λ same. first j same (λ i found. turn_there k steps i place entry found)) (λ _ found. later (turn_there k steps j place entry found)) is
  where
    later : (s : Turned) × IsAmong s steps × (s.lock ≡ k) × (s.entry ≡ entry) → (s : Turned) × IsAmong s (step ∷ steps) × (s.lock ≡ k) × (s.entry ≡ entry)
    later it = (it.0, inr it.1, it.2, it.3)

    first : (i : ℕ) → step.lock ≡ k → ((m : ℕ) → slice_get (turns_on k steps) m ≡ Some (place, entry) → (s : Turned) × IsAmong s steps × (s.lock ≡ k) × (s.entry ≡ entry))
        → slice_get ((place_of step, step.entry) ∷ turns_on k steps) i ≡ Some (place, entry) → (s : Turned) × IsAmong s (step ∷ steps) × (s.lock ≡ k) × (s.entry ≡ entry)
    first zero same more found = (step, inl refl, same, ap (λ (x : ℕ × Entry). x.1) (same_Some (place_of step, step.entry) (place, entry) found))
    first (suc m) same more found = later (more m found)

-- Calls rise along the turns of a CPU

abbrev Rises : ℕ → List Turned → Type 0
Rises from [] = Unit {0}
Rises from (step ∷ steps) = (from ≤ step.entry.call) × Rises step.entry.call steps

rises_from : (low from : ℕ) (steps : List Turned) → low ≤ from → Rises from steps → Rises low steps
rises_from low from [] less rise = tt
rises_from low from (step ∷ steps) less rise = let first : from ≤ step.entry.call = rise.0 in (omega (arith, first, less), rise.1)

rises_on : (cpu number : ℕ) (mine rest : List Turned) → AllByRecursion (IsBy cpu number) mine → Rises (suc number) rest → Rises number (mine ++ rest)
rises_on cpu number [] rest by rise = rises_from number (suc number) rest (omega arith) rise
rises_on cpu number (step ∷ mine) rest by rise =
    let call : step.entry.call ≡ number = by.0.1 in
    (omega (arith, call), subst (λ (n : ℕ). Rises n (mine ++ rest)) (sym call) (rises_on cpu number mine rest by.1 rise))

calls_rise : (shape : Shape) (cpu number : ℕ) (calls : List Call) (spare last : Option ℕ) (replies : List Reply) (steps : List Turned) → AreCallsBy shape cpu number calls spare last replies steps → Rises number steps
calls_rise shape cpu number [] spare last replies steps are = subst (Rises number) (sym are.1) tt
calls_rise shape cpu number (call ∷ calls) spare last replies steps are =
    by_test call.cpu cpu
    (λ b. MatchBool b (Begins shape cpu number call calls spare last replies steps) (AreCallsBy shape cpu (suc number) calls spare last replies steps) → Rises number steps)
    (λ is first.
    subst (Rises number) (sym first.4)
    (rises_on call.cpu number first.0 first.1 (recursion_from_All (IsBy call.cpu number) first.0 first.6.by_call)
    (calls_rise shape cpu (suc number) calls (spare_left shape spare (map (turn_at shape) first.0)) last first.3 first.1 first.7)))
    (λ other others. rises_from number (suc number) steps (omega arith) (calls_rise shape cpu (suc number) calls spare last replies steps others))
    are

rises_above : (from : ℕ) (steps : List Turned) (z : Turned) → Rises from steps → IsAmong z steps → from ≤ z.entry.call
rises_above from [] z rise at = absurd at
rises_above from (step ∷ steps) z rise (inl same) = subst (λ (s : Turned). from ≤ s.entry.call) same rise.0
rises_above from (step ∷ steps) z rise (inr later) = let rest = rises_above step.entry.call steps z rise.1 later in let first : from ≤ step.entry.call = rise.0 in omega (arith, rest, first)

later_calls : (n from to : ℕ) (steps : List Turned) (a z : Turned) → Rises n steps → AscendIn from (turn_tickets steps) to → IsAmong a steps → IsAmong z steps → a.entry.ticket < z.entry.ticket → a.entry.call ≤ z.entry.call
later_calls n from to [] a z rise ascend at there less = absurd at
later_calls n from to (w ∷ steps) a z rise ascend (inl same) (inl it) less = absurd (let both : a.entry.ticket ≡ z.entry.ticket = ap (λ (s : Turned). s.entry.ticket) (sym same ∙ it) in omega (arith, both, less))
later_calls n from to (w ∷ steps) a z rise ascend (inl same) (inr later) less = subst (λ (s : Turned). s.entry.call ≤ z.entry.call) same (rises_above w.entry.call steps z rise.1 later)
later_calls n from to (w ∷ steps) a z rise ascend (inr further) (inl it) less =
    absurd (let both : w.entry.ticket ≡ z.entry.ticket = ap (λ (s : Turned). s.entry.ticket) it in let above = ticket_above (suc w.entry.ticket) to steps a ascend.1 further in omega (arith, both, less, above))
later_calls n from to (w ∷ steps) a z rise ascend (inr further) (inr later) less = later_calls w.entry.call (suc w.entry.ticket) to steps a z rise.1 ascend.1 further later less

-- The turns of a part

-- turns of a strand, behind which these others stand there
pub record NestThere (shape : Shape) (lost : ℕ → Bool) (turns : List Turned) : Type 0 where
  pub behind : List Turned
  pub nested : AreNested shape lost (turns ++ behind) []
  pub real : (z : Turned) → IsAmong z (turns ++ behind) → IsOfMap shape z

nested_behind : (shape : Shape) (lost : ℕ → Bool) (turns more : List Turned) → AreNested shape lost (turns ++ more) [] → AreNested shape lost more []
nested_behind shape lost [] more nested = nested
nested_behind shape lost (step ∷ turns) more nested = nested_behind shape lost turns more nested.1

nest_of_one : (shape : Shape) (lost : ℕ → Bool) (mine : List Part) → AreNested shape lost (turns_in mine) [] → ((z : Turned) → IsAmong z (turns_in mine) → IsOfMap shape z)
    → (i : ℕ) (part : Part) → slice_get mine i ≡ Some part → NestThere shape lost part.turns
nest_of_one shape lost [] nested real i part at = absurd (none-some part at)
nest_of_one shape lost (q ∷ mine) nested real zero part at =
    subst (λ (p : Part). NestThere shape lost p.turns) (same_Some q part at) (record { behind = turns_in mine; nested = nested; real = real })
nest_of_one shape lost (q ∷ mine) nested real (suc j) part at =
    nest_of_one shape lost mine (nested_behind shape lost q.turns (turns_in mine) nested) (λ z there. real z (among_back z q.turns (turns_in mine) there)) j part at

no_nest : (shape : Shape) (lost : ℕ → Bool) (turns : List Turned) → turns ≡ [] → NestThere shape lost turns
no_nest shape lost turns none = subst (NestThere shape lost) (sym none) (record { behind = []; nested = tt; real = λ z there. absurd there })

module _ (script : Script) (table : TableView) (created : IsShape script.shape) (is_served : IsServed script) (cuts : Rise 0 script.cuts (length script.calls))
    (now : PassView) (replies : List Reply) (starts : List PhaseStart) (pieces : List Piece) (come : HaveComeTo (record { id = table.id; shape = script.shape }) script (phase_count script.cuts) now replies starts pieces)
    (closed : ClosedView) (ends : IsClosed script.shape now closed) (whole : closed.lost ≡ false) where
  abbrev t : TableView
  t = record { id = table.id; shape = script.shape }

  abbrev shape : Shape
  shape = script.shape

  abbrev p : ℕ
  p = phase_count script.cuts

  abbrev did : ℕ → Done
  did = race.did script table created is_served cuts now replies starts pieces come closed ends whole

  abbrev turns_of : ℕ → ℕ → List Turned
  turns_of q cpu = (did q).turns cpu

  abbrev bound : ℕ → ℕ
  bound = race.bound script table created is_served cuts now replies starts pieces come closed ends whole

  abbrev parts : List Part
  parts = race.parts script table created is_served cuts now replies starts pieces come closed ends whole

  parts_real : (i : ℕ) (part : Part) → slice_get parts i ≡ Some part → All (IsOfMap shape) part.turns
  parts_real i part at = all_at (λ (q : Part). All (IsOfMap shape) q.turns) parts (race.parts_real script table created is_served cuts now replies starts pieces come closed ends whole) i part at

  part_nests : (i : ℕ) (part : Part) → slice_get parts i ≡ Some part → NestThere shape ends.lost part.turns
  part_nests i part at = by (has_turns part) refl
    where
      by : (b : Bool) → has_turns part ≡ b → NestThere shape ends.lost part.turns
      by false none = no_nest shape ends.lost part.turns (no_turns part.turns none)
      by true some =
          let passing = passing_kept has_turns parts i part at some in
          let its = its_strand shape (filter has_turns parts) (filter has_turn (all_strands now.view)) (cut_to t script p now replies starts pieces come) passing.0 part passing.1 in
          let strand = kept_stands has_turn (all_strands now.view) its.0 its.1 its.4 in
          nest_of_one shape ends.lost its.2 (subst (λ (l : List Turned). AreNested shape ends.lost l []) its.6 (ends.nested strand.0 its.1 strand.1))
          (λ z there.
          let of_part = flat_among (λ (q : Part). q.turns) z its.2 there in
          let place = among_at of_part.0 its.2 of_part.1 in
          let among = its.8 place.0 of_part.0 place.1 in
          let stood = kept_stands has_turns parts among.0 of_part.0 among.1 in
          among_all (IsOfMap shape) z of_part.0.turns (parts_real stood.0 of_part.0 stood.1) of_part.2)
          its.3 part its.5

  -- of the CPUs that make no calls of a phase there are no turns
  by_lone : (Q : List Turned → Type 0) (q cpu : ℕ) → q < p → Q [] → (lone : Option ℕ) → lone_cpu (calls_of script q) ≡ lone → ((lone ≡ None) ⊎ (lone ≡ Some cpu) → Q (turns_of q cpu)) → Q (turns_of q cpu)
  by_lone Q q cpu less empty None is holds = holds (inl refl)
  by_lone Q q cpu less empty (Some d) is holds =
      elim (cases_eq cpu d) [
        | inl same ↦ holds (inr (ap Some (sym same)))
        | inr other ↦ subst Q (sym ((exact.fact script table created is_served p now replies starts pieces come closed ends whole q less).others d cpu is other)) empty
      ]

  nests : (q cpu : ℕ) → q < p → cpu < shape.cpus → NestThere shape ends.lost (turns_of q cpu)
  nests q cpu less real =
      by_lone (NestThere shape ends.lost) q cpu less (no_nest shape ends.lost [] refl) (lone_cpu (calls_of script q)) refl
      (λ one. by (lone_cpu (calls_of script q)) one (part_nests (place_of_strand t script did q cpu) (part_by t script did q (lone_cpu (calls_of script q)) cpu) (part_there t script did p q cpu less real)))
    where
      by : (lone : Option ℕ) → (lone ≡ None) ⊎ (lone ≡ Some cpu) → NestThere shape ends.lost (part_by t script did q lone cpu).turns → NestThere shape ends.lost (turns_of q cpu)
      by None one nest = nest
      by (Some d) (inl none) nest = absurd (none-some d (sym none))
      by (Some d) (inr same) nest = subst (λ (c : ℕ). NestThere shape ends.lost (turns_of q c)) (same_Some d cpu same) nest

  stand_there : (q cpu : ℕ) → q < p → cpu < shape.cpus → AllByRecursion (StandsThere shape closed.histories) (turns_of q cpu)
  stand_there q cpu less real =
      by_lone (AllByRecursion (StandsThere shape closed.histories)) q cpu less tt (lone_cpu (calls_of script q)) refl
      (λ one. elim one [
        | inl none ↦ race.stands script table created is_served cuts now replies starts pieces come closed ends whole q cpu less real (Some cpu) (inl (refl, none))
        | inr lone ↦ race.stands script table created is_served cuts now replies starts pieces come closed ends whole q cpu less real None (inr (refl, lone))
      ])

  ascends : (q cpu : ℕ) → q < p → cpu < shape.cpus → AscendIn (bound q) (turn_tickets (turns_of q cpu)) (bound (suc q))
  ascends q cpu less real = moments.windows t script (exact.some script table created is_served p now replies starts pieces come closed ends whole) (exact.served script table created is_served p now replies starts pieces come closed ends whole) p now replies starts pieces come q cpu less real

  at_end : IsMoment shape.cpus turns_of p ends.log
  at_end = moments.moment_end t script (exact.some script table created is_served p now replies starts pieces come closed ends whole) (exact.served script table created is_served p now replies starts pieces come closed ends whole) p now replies starts pieces come closed ends

  made : (q cpu : ℕ) → q < p → cpu < shape.cpus → (z : Turned) → IsAmong z (turns_of q cpu) → (z.entry.cpu ≡ cpu) × (phase_of script.cuts z.entry.call ≡ q)
  made q cpu less real z at =
      among_all (λ (step : Turned). (step.entry.cpu ≡ cpu) × (phase_of script.cuts step.entry.call ≡ q)) z (turns_of q cpu)
      (race.made script table created is_served cuts now replies starts pieces come closed ends whole q cpu less real) at

  rise : (q cpu : ℕ) → q < p → cpu < shape.cpus → Rises (suc (first_of script q)) (turns_of q cpu)
  rise q cpu less real = calls_rise shape cpu (suc (first_of script q)) (calls_of script q) _ _ _ (turns_of q cpu) (race.calls_by script table created is_served cuts now replies starts pieces come closed ends whole q cpu less real)

  -- Each turn among all is an entry of a lock of the map.
  record Told (x : Drawn) : Type 0 where
    k : ℕ
    below : k < lock_count shape
    there : IsTrue (has_lock shape k)
    entry : Entry
    among : IsAmong entry (ends.log k)
    is : record { lock = lock_named shape k; entry = entry } ≡ x

  told_of : (x : Drawn) → IsAmong x (all_drawn closed.histories) → Told x
  told_of x at =
      let in_history = flat_among drawn_in x (map (history_of shape ends.log) (all_locks shape)) (subst (λ (l : List LockHistory). IsAmong x (all_drawn l)) (histories_are shape now closed ends whole) at) in
      let of_lock = map_among (history_of shape ends.log) in_history.0 (all_locks shape) in_history.1 in
      let here : IsAmong x (drawn_in (history_of shape ends.log of_lock.0)) = subst (λ (h : LockHistory). IsAmong x (drawn_in h)) (sym of_lock.2) in_history.2 in
      let own = map_among (λ (e : Entry). record { lock = lock_named shape of_lock.0; entry = e }) x (ends.log of_lock.0) here in
      let passes = filter_among (has_lock shape) of_lock.0 (range_with_len 0 (lock_count shape)) of_lock.1 in
      record {
        k = of_lock.0;
        below = of_each (λ (k : ℕ). k < lock_count shape) of_lock.0 (range_with_len 0 (lock_count shape)) (range_below (lock_count shape) 0 (lock_count shape) (omega arith)) passes.0;
        there = passes.1;
        entry = own.0;
        among = own.1;
        is = own.2;
      }

  -- and a turn of a CPU in a phase
  record Made (x : Drawn) : Type 0 where
    q : ℕ
    cpu : ℕ
    phase : q < p
    real : cpu < shape.cpus
    step : Turned
    there : IsAmong step (turns_of q cpu)
    is : drawn_of shape step ≡ x

  is_turn : (x : Drawn) (told : Told x) (step : Turned) → step.lock ≡ told.k → step.entry ≡ told.entry → drawn_of shape step ≡ x
  is_turn x told step lock entry = (λ i. record { lock = lock_named shape (lock i); entry = entry i }) ∙ told.is

  made_of : (x : Drawn) → IsAmong x (all_drawn closed.histories) → Made x
  made_of x at =
      let told = told_of x at in
      let place = among_at told.entry (ends.log told.k) told.among in
      let its = at_end.covered told.k place.0 told.entry place.1 in
      let turn = turn_there told.k (turns_of its.0 its.1) its.2 place.0 told.entry its.5 in
      record {
        q = its.0;
        cpu = its.1;
        phase = its.3;
        real = its.4;
        step = turn.0;
        there = turn.1;
        is = is_turn x told turn.0 turn.2 turn.3;
      }

  turn_told : (z : Turned) → StandsThere shape closed.histories z → IsAmong (drawn_of shape z) (all_drawn closed.histories)
  turn_told z stands =
      drawn_there closed.histories (drawn_of shape z) (subst (IsAmong z.entry) (sym stands.log_is) (among_back z.entry z.earlier (z.entry ∷ stands.later) (inl refl)))

  turn_of : (x y : Drawn) (a : Made x) → Made y → y.entry.cpu ≡ x.entry.cpu → y.entry.call ≡ x.entry.call → (z : Turned) × IsAmong z (turns_of a.q a.cpu) × (drawn_of shape z ≡ y)
  turn_of x y a b cpu call =
      let mine = made a.q a.cpu a.phase a.real a.step a.there in
      let its = made b.q b.cpu b.phase b.real b.step b.there in
      let same_cpu : b.cpu ≡ a.cpu = sym its.0 ∙ ap (λ (w : Drawn). w.entry.cpu) b.is ∙ cpu ∙ sym (ap (λ (w : Drawn). w.entry.cpu) a.is) ∙ mine.0 in
      let one_call : b.step.entry.call ≡ a.step.entry.call = ap (λ (w : Drawn). w.entry.call) b.is ∙ call ∙ sym (ap (λ (w : Drawn). w.entry.call) a.is) in
      let same_phase : b.q ≡ a.q = sym its.1 ∙ ap (phase_of script.cuts) one_call ∙ mine.1 in
      (b.step, subst (λ (z : ℕ × ℕ). IsAmong b.step (turns_of z.0 z.1)) (λ i. (same_phase i, same_cpu i)) b.there, b.is)

  one_strand : (x : Drawn) → Made x → OfStrand shape ends.lost closed.histories x
  one_strand x a =
      let mine = made a.q a.cpu a.phase a.real a.step a.there in
      let nest = nests a.q a.cpu a.phase a.real in
      let stands = stand_there a.q a.cpu a.phase a.real in
      let up = ascends a.q a.cpu a.phase a.real in
      let calls = rise a.q a.cpu a.phase a.real in
      record {
        turns = turns_of a.q a.cpu;
        behind = nest.behind;
        from = bound a.q;
        to = bound (suc a.q);
        nested = nest.nested;
        ascend = up;
        first = a.step;
        first_there = a.there;
        first_is = a.is;
        of_call = λ y at cpu call. turn_of x y a (made_of y at) cpu call;
        between = λ z t at there after early one_call.
            let of_z = made a.q a.cpu a.phase a.real z at in
            let low = later_calls (suc (first_of script a.q)) (bound a.q) (bound (suc a.q)) (turns_of a.q a.cpu) a.step z calls up a.there at after in
            let high = later_calls (suc (first_of script a.q)) (bound a.q) (bound (suc a.q)) (turns_of a.q a.cpu) z t calls up at there early in
            (of_z.0 ∙ sym mine.0, omega (arith, low, high, one_call));
        told = λ z at. turn_told z (of_each (StandsThere shape closed.histories) z (turns_of a.q a.cpu) stands at);
        real = λ z at. (nest.real z at).1;
        stands = λ z at. of_each (StandsThere shape closed.histories) z (turns_of a.q a.cpu) stands at;
        whole = λ z at. let is_of_map = nest.real z (front z (turns_of a.q a.cpu) nest.behind at) in none_lost shape now closed ends whole z.lock is_of_map.0 is_of_map.1;
      }
    where
      front : (z : Turned) (xs ys : List Turned) → IsAmong z xs → IsAmong z (xs ++ ys)
      front z [] ys at = absurd at
      front z (x ∷ xs) ys (inl same) = inl same
      front z (x ∷ xs) ys (inr later) = inr (front z xs ys later)

  strands : (x : Drawn) → IsAmong x (all_drawn closed.histories) → OfStrand shape ends.lost closed.histories x
  strands x at = one_strand x (made_of x at)

  rising : (x : Drawn) → IsAmong x (all_drawn closed.histories) → AscendIn 0 (by_entry.tickets_of (entries_of closed.histories x.lock)) ends.drawn
  rising x at =
      let told = told_of x at in
      subst (λ (l : DomainId). AscendIn 0 (by_entry.tickets_of (entries_of closed.histories l)) ends.drawn) (ap (λ (w : Drawn). w.lock) told.is)
      (subst (λ (l : List Entry). AscendIn 0 (by_entry.tickets_of l) ends.drawn) (sym (entries_at shape now closed ends whole told.k told.below told.there)) ((ends.ticketed whole).in_histories told.k told.below told.there))

  ranked : (x : Drawn) → IsAmong x (all_drawn closed.histories) → rank_of x.lock ≡ part_rank x.entry.part
  ranked x at =
      let told = told_of x at in
      subst (λ (w : Drawn). rank_of w.lock ≡ part_rank w.entry.part) told.is (legal_rank shape (lock_named shape told.k) (ends.log told.k) told.entry (ends.legal told.k) told.among)

  real_lock : (x : Drawn) → IsAmong x (all_drawn closed.histories) → IsTrue (is_lock shape x.lock)
  real_lock x at = let told = told_of x at in subst (λ (w : Drawn). IsTrue (is_lock shape w.lock)) told.is told.there

  once : AreDrawnOnce closed.histories
  once = each_once shape now closed ends whole

  -- A map has freelists or lists.
  evicts : (lock : DomainId) → IsTrue (is_lock shape lock) → rank_of lock ≤ 2 → is_lru shape.kind ≡ true
  evicts (Local cpu) is low = is_served.bounds.common_evicts (and_parts shape.common _ is).0
  evicts Global is low = is_served.bounds.common_evicts is
  evicts (CpuLru cpu) is low = (and_parts (is_lru shape.kind) (not shape.common) (and_parts (is_lru shape.kind && not shape.common) _ is).0).0
  evicts (Bucket bucket) is low = absurd (omega (arith, low))
  evicts (Freelist cpu) is low = absurd (omega (arith, low))

  evicts_not : (lock : DomainId) → IsTrue (is_lock shape lock) → rank_of lock ≡ 4 → is_lru shape.kind ≡ true → ⊥
  evicts_not (Local cpu) is four lru = absurd (omega (arith, four))
  evicts_not Global is four lru = absurd (omega (arith, four))
  evicts_not (CpuLru cpu) is four lru = absurd (omega (arith, four))
  evicts_not (Bucket bucket) is four lru = absurd (omega (arith, four))
  evicts_not (Freelist cpu) is four lru = true≢false (sym (and_parts (not (is_lru shape.kind)) _ is).0 ∙ ap not lru)

  mixed : (x y : Drawn) → IsAmong x (all_drawn closed.histories) → IsAmong y (all_drawn closed.histories) → rank_of x.lock ≡ 4 → rank_of y.lock ≤ 2 → ⊥
  mixed x y at there four low = evicts_not x.lock (real_lock x at) four (evicts y.lock (real_lock y there) low)

  shared : (x y : Drawn) → IsAmong x (all_drawn closed.histories) → IsAmong y (all_drawn closed.histories) → rank_of x.lock ≡ 1 → rank_of y.lock ≡ 2 → y.lock ≡ Global
  shared x y at there = global_beside shape x.lock y.lock (real_lock x at) (real_lock y there)

  pub apart : NestsApart closed.histories
  apart = apart_nests shape ends.lost closed.histories once ends.drawn rising ranked strands mixed shared

-- The nests of a race stand apart, where the closed table lost no record.
pub nests_of_races : (script : Script) (t : TableView) (now : PassView) (replies : List Reply) (starts : List PhaseStart) (pieces : List Piece) (closed : ClosedView) → t.shape ≡ script.shape → IsShape script.shape → IsServed script → Rise 0 script.cuts (length script.calls)
    → HaveComeTo t script (phase_count script.cuts) now replies starts pieces → IsClosed t.shape now closed → closed.lost ≡ false
    → NestsApart (record_left script.shape.cpus pieces replies starts closed).histories
nests_of_races script t now replies starts pieces closed same created served cuts come ends whole =
    let of_script : t ≡ record { id = t.id; shape = script.shape } = λ i. record { id = t.id; shape = same i } in
    let here = subst (λ (table : TableView). HaveComeTo table script (phase_count script.cuts) now replies starts pieces) of_script come in
    let left : IsClosed script.shape now closed = subst (λ (shape : Shape). IsClosed shape now closed) same ends in
    apart script t created served cuts now replies starts pieces here closed left whole
