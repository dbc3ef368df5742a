-- The turns of a strand are those of its CPUs in its phase, in the order of all.
use Rattle.std.proofs.Common.{◌≡◌, inl, inr, ℕ, zero, suc, ◌≤◌, Bool, true, false, ◌&&◌, cond, eqb, List, [], ◌∷◌, ◌++◌, length, map, refl, ap, sym, ◌∙◌, subst, arith, append_assoc}
use Rattle.std.specs.Prelude.{filter, Option, Some, None, slice_get, slice_index_or, option_to_list, option_map}
use Rattle.std.specs.List.{flat_map}
use Rattle.std.proofs.lemmas.Bool.{cond-true, cond-false}
use Rattle.std.proofs.lemmas.List.{length-append}
use Rattle.std.proofs.lemmas.Option.{none-some, same_Some}
use Rattle.map_types.specs.declared.kind.DomainId.{DomainId}
use Rattle.place_words.specs.declared.history.Entry.{Entry}
use Rattle.place_words.specs.declared.history.LockHistory.{LockHistory}
use Rattle.place_words.specs.declared.history.StrandStep.{StrandStep}
use Rattle.place_words.specs.Interleaving.{Drawn, tickets_of, drawn_on}
use Rattle.place_words.specs.Locks.{is_same_lock}
use Rattle.place_words.specs.Named.{entries_of}
use Rattle.place_words.specs.Phases.{phase_of}
use Rattle.place_words.specs.Strands.{places_on}
use Rattle.place_words.specs.Tickets as by_entry
use Rattle.place_words.specs.Tickets.{AscendIn, ticket_at}
use Rattle.place_words.proofs.Ascending.{ascend_from}
use Rattle.place_words.proofs.LockLemmas.{same_lock, one_lock}
use Rattle.map_report.specs.Record.{places_in, has_cpu}
use Rattle.turn_order.specs.Ordered.{ordered}
use Rattle.turn_order.specs.OrderLaws.{turn_count, AreDrawnOnce, AreApart, locks_in, is_one_of}
use Rattle.turn_order.proofs.Members.{IsAmong, among_filter, filter_among, flat_among, place_among}
use Rattle.turn_order.proofs.LockOrder.{drawn_as, entry_among, among_entry, in_history, in_order, one_there}
use Rattle.turn_order.proofs.Picked.{picked}
use Rattle.call_check.proofs.StepTurns.{drawn_at, drawn_by}

-- whether an entry is of one of these CPUs, for a call of a phase
abbrev pub in_strand : List ℕ → ℕ → List ℕ → Entry → Bool
in_strand cuts phase cpus entry = eqb (phase_of cuts entry.call) phase && has_cpu entry.cpu cpus

-- Places

abbrev at_places : List Entry → List ℕ → List Entry
at_places entries places = flat_map (λ place. option_to_list (slice_get entries place)) places

at_end : (before : List Entry) (x : Entry) (entries : List Entry) → slice_get (before ++ x ∷ entries) (length before) ≡ Some x
at_end [] x entries = refl
at_end (b ∷ before) x entries = at_end before x entries

-- the entries at the places in a history are those that the test picks
at_places_in : (cuts : List ℕ) (phase : ℕ) (cpus : List ℕ) (before entries : List Entry) → at_places (before ++ entries) (places_in cuts phase cpus (length before) entries) ≡ filter (in_strand cuts phase cpus) entries
at_places_in cuts phase cpus before [] = refl
at_places_in cuts phase cpus before (x ∷ entries) =
    let joined : (before ++ x ∷ []) ++ entries ≡ before ++ x ∷ entries = append_assoc before (x ∷ []) entries in
    let longer : length (before ++ x ∷ []) ≡ suc (length before) = omega (arith, length-append before (x ∷ [])) in
    by (in_strand cuts phase cpus x)
    (ap (λ (k : ℕ). at_places (before ++ x ∷ entries) (places_in cuts phase cpus k entries)) (sym longer)
    ∙ (ap (λ (l : List Entry). at_places l (places_in cuts phase cpus (length (before ++ x ∷ [])) entries)) (sym joined) ∙ at_places_in cuts phase cpus (before ++ x ∷ []) entries))
  where
    by : (b : Bool) → at_places (before ++ x ∷ entries) (places_in cuts phase cpus (suc (length before)) entries) ≡ filter (in_strand cuts phase cpus) entries
        → at_places (before ++ x ∷ entries) (cond b (length before ∷ places_in cuts phase cpus (suc (length before)) entries) (places_in cuts phase cpus (suc (length before)) entries))
        ≡ cond b (x ∷ filter (in_strand cuts phase cpus) entries) (filter (in_strand cuts phase cpus) entries)
    by true rest =
        ap (λ (o : Option Entry). option_to_list o ++ at_places (before ++ x ∷ entries) (places_in cuts phase cpus (suc (length before)) entries)) (at_end before x entries)
        ∙ ap (λ (l : List Entry). x ∷ l) rest
    by false rest = rest

module _ (histories : List LockHistory) where
  -- the turns of steps on a lock are the entries at their places
  on_places : (lock : DomainId) (steps : List StrandStep) → drawn_on lock (drawn_by histories steps) ≡ drawn_as lock (at_places (entries_of histories lock) (places_on lock steps))
  on_places lock [] = refl
  on_places lock (step ∷ steps) = by (is_same_lock step.lock lock) refl (slice_get (entries_of histories step.lock) step.index) refl (on_places lock steps)
    where
      moved : (o : Option Entry) → is_same_lock step.lock lock ≡ true → slice_get (entries_of histories step.lock) step.index ≡ o → slice_get (entries_of histories lock) step.index ≡ o
      moved o same at = sym (ap (λ (l : DomainId). slice_get (entries_of histories l) step.index) (one_lock step.lock lock same)) ∙ at

      by : (b : Bool) → is_same_lock step.lock lock ≡ b → (o : Option Entry) → slice_get (entries_of histories step.lock) step.index ≡ o
          → drawn_on lock (drawn_by histories steps) ≡ drawn_as lock (at_places (entries_of histories lock) (places_on lock steps))
          → drawn_on lock (option_to_list (option_map (λ (entry : Entry). record { lock = step.lock; entry = entry }) o) ++ drawn_by histories steps)
          ≡ drawn_as lock (at_places (entries_of histories lock) (cond b (step.index ∷ places_on lock steps) (places_on lock steps)))
      by true same None at rest = rest ∙ sym (ap (λ (o : Option Entry). drawn_as lock (option_to_list o ++ at_places (entries_of histories lock) (places_on lock steps))) (moved None same at))
      by true same (Some e) at rest =
          cond-true (is_same_lock step.lock lock) ((record { lock = step.lock; entry = e }) ∷ drawn_on lock (drawn_by histories steps)) (drawn_on lock (drawn_by histories steps)) same
          ∙ (ap (λ (l : DomainId). (record { lock = l; entry = e }) ∷ drawn_on lock (drawn_by histories steps)) (one_lock step.lock lock same)
          ∙ (ap (λ (l : List Drawn). (record { lock = lock; entry = e }) ∷ l) rest
          ∙ sym (ap (λ (o : Option Entry). drawn_as lock (option_to_list o ++ at_places (entries_of histories lock) (places_on lock steps))) (moved (Some e) same at))))
      by false other None at rest = rest
      by false other (Some e) at rest =
          cond-false (is_same_lock step.lock lock) ((record { lock = step.lock; entry = e }) ∷ drawn_on lock (drawn_by histories steps)) (drawn_on lock (drawn_by histories steps)) other ∙ rest

  -- what a step names is an entry of its lock's history
  drawn_inside : (steps : List StrandStep) (x : Drawn) → IsAmong x (drawn_by histories steps) → IsAmong x.entry (entries_of histories x.lock)
  drawn_inside steps x there =
      let found = flat_among (λ (step : StrandStep). option_to_list (drawn_at histories step)) x steps there in
      by found.0 (slice_get (entries_of histories found.0.lock) found.0.index) refl found.2
    where
      by : (step : StrandStep) (o : Option Entry) → slice_get (entries_of histories step.lock) step.index ≡ o → IsAmong x (option_to_list (option_map (λ (entry : Entry). record { lock = step.lock; entry = entry }) o)) → IsAmong x.entry (entries_of histories x.lock)
      by step None at here = absurd here
      by step (Some e) at (inl same) =
          subst (λ (w : Drawn). IsAmong w.entry (entries_of histories w.lock)) same (place_among e (entries_of histories step.lock) step.index at)
      by step (Some e) at (inr none) = absurd none

  -- the tickets of steps, where each step that names none has ticket 0
  ticket_found : (step : StrandStep) (e : Entry) → slice_get (entries_of histories step.lock) step.index ≡ Some e → ticket_at histories step ≡ e.ticket
  ticket_found step e at = read (entries_of histories step.lock) step.index at
    where
      read : (xs : List Entry) (i : ℕ) → slice_get xs i ≡ Some e → slice_index_or (by_entry.tickets_of xs) i 0 ≡ e.ticket
      read [] i at = absurd (none-some e at)
      read (x ∷ xs) zero at = ap (λ (w : Entry). w.ticket) (same_Some x e at)
      read (x ∷ xs) (suc i) at = read xs i at

  steps_ascend : (from : ℕ) (steps : List StrandStep) (to : ℕ) → AscendIn from (map (ticket_at histories) steps) to → AscendIn from (tickets_of (drawn_by histories steps)) to
  steps_ascend from [] to ascend = ascend
  steps_ascend from (step ∷ steps) to ascend = by (slice_get (entries_of histories step.lock) step.index) refl (steps_ascend (suc (ticket_at histories step)) steps to ascend.1)
    where
      by : (o : Option Entry) → slice_get (entries_of histories step.lock) step.index ≡ o → AscendIn (suc (ticket_at histories step)) (tickets_of (drawn_by histories steps)) to
          → AscendIn from (tickets_of (option_to_list (option_map (λ (entry : Entry). record { lock = step.lock; entry = entry }) o) ++ drawn_by histories steps)) to
      by None at rest = let first : from ≤ ticket_at histories step = ascend.0 in ascend_from from (suc (ticket_at histories step)) (tickets_of (drawn_by histories steps)) to (omega arith) rest
      by (Some e) at rest =
          let is : ticket_at histories step ≡ e.ticket = ticket_found step e at in
          (subst (λ (t : ℕ). from ≤ t) is ascend.0, subst (λ (t : ℕ). AscendIn (suc t) (tickets_of (drawn_by histories steps)) to) is rest)

  module _ (once : AreDrawnOnce histories) (apart : AreApart (locks_in histories)) (cuts : List ℕ) (phase : ℕ) (cpus : List ℕ) (steps : List StrandStep)
      (are : (lock : DomainId) → is_one_of (locks_in histories) lock ≡ true → places_on lock steps ≡ places_in cuts phase cpus 0 (entries_of histories lock)) where
    abbrev of_strand : Entry → Bool
    of_strand entry = in_strand cuts phase cpus entry

    on_lock : (lock : DomainId) → is_one_of (locks_in histories) lock ≡ true → drawn_on lock (drawn_by histories steps) ≡ drawn_as lock (filter of_strand (entries_of histories lock))
    on_lock lock is =
        on_places lock steps ∙ (ap (λ (places : List ℕ). drawn_as lock (at_places (entries_of histories lock) places)) (are lock is)
        ∙ ap (drawn_as lock) (at_places_in cuts phase cpus [] (entries_of histories lock)))

    -- a step names it exactly where the strand has it
    pub is_of_strand : (x : Drawn) → IsAmong x (drawn_by histories steps) → IsAmong x (ordered histories) × (of_strand x.entry ≡ true)
    is_of_strand x there =
        let inside = drawn_inside steps x there in
        let known = one_there histories x.lock x.entry inside in
        let here : IsAmong x (drawn_on x.lock (drawn_by histories steps)) = among_filter (λ (drawn : Drawn). is_same_lock drawn.lock x.lock) x (drawn_by histories steps) (same_lock x.lock) there in
        let entry = entry_among x.lock (filter of_strand (entries_of histories x.lock)) x (subst (λ (l : List Drawn). IsAmong x l) (on_lock x.lock known) here) in
        (in_order histories once apart x inside, (filter_among of_strand x.entry (entries_of histories x.lock) entry.1).1)

    pub strand_has : (x : Drawn) → IsAmong x (ordered histories) → of_strand x.entry ≡ true → IsAmong x (drawn_by histories steps)
    strand_has x there passes =
        let inside = in_history histories once apart x there in
        let known = one_there histories x.lock x.entry inside in
        let here = among_entry x.lock (filter of_strand (entries_of histories x.lock)) x refl (among_filter of_strand x.entry (entries_of histories x.lock) passes inside) in
        (filter_among (λ (drawn : Drawn). is_same_lock drawn.lock x.lock) x (drawn_by histories steps) (subst (λ (l : List Drawn). IsAmong x l) (sym (on_lock x.lock known)) here)).0

    pub strand_is : AscendIn 0 (map (ticket_at histories) steps) (turn_count histories) → drawn_by histories steps ≡ filter (λ (drawn : Drawn). of_strand drawn.entry) (ordered histories)
    strand_is ascend = picked histories once (λ (drawn : Drawn). of_strand drawn.entry) (drawn_by histories steps) (steps_ascend 0 steps (turn_count histories) ascend) is_of_strand strand_has
