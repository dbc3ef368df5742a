-- What is known of the turns of a record whose tickets and strands are right.
use Rattle.std.proofs.Common.{◌≡◌, inl, inr, ℕ, ◌<◌, Bool, true, false, cond, eqb, ◌||◌, List, [], ◌∷◌, length, map, Option, None, Some, refl, ap, sym, ◌∙◌, subst, arith}
use Rattle.std.specs.Prelude.{MatchOption, filter, slice_get}
use Rattle.std.specs.List.{range_with_len}
use Rattle.std.proofs.lemmas.Bool.{and_from, and_parts, eq-eqb, eqb-true}
use Rattle.map_types.specs.declared.kind.DomainId.{DomainId}
use Rattle.map_script.specs.declared.script.Script.{Script}
use Rattle.place_words.specs.declared.history.Entry.{Entry}
use Rattle.place_words.specs.declared.history.Strand.{Strand}
use Rattle.place_words.specs.Interleaving.{Drawn}
use Rattle.place_words.specs.Locks.{is_lock}
use Rattle.place_words.specs.Named.{entries_of, NameAll}
use Rattle.place_words.specs.Phases.{phase_of, phase_count}
use Rattle.place_words.specs.Strands.{places_on}
use Rattle.place_words.specs.Tickets as by_entry
use Rattle.place_words.specs.Tickets.{AreTicketed, AscendIn, ticket_at}
use Rattle.place_words.specs.Turns.{TurnAt}
use Rattle.map_report.specs.declared.record.RunRecord.{RunRecord}
use Rattle.map_report.specs.Record.{has_cpu, places_in}
use Rattle.record_shape.specs.Fits.{AllFit}
use Rattle.record_shape.specs.ShapedParts.{EntryFits}
use Rattle.record_shape.specs.WellShaped.{HistoryFits, WellShaped}
use Rattle.call_check.proofs.CpuLists.{in_range, passing_left}
use Rattle.turn_order.specs.Ordered.{all_drawn, drawn_in, ordered}
use Rattle.turn_order.specs.OrderLaws.{turn_count, AreApart, locks_in, is_one_of}
use Rattle.turn_order.proofs.Members.{IsAmong, among_all, among_filter, filter_among, flat_among, map_among, place_among}
use Rattle.turn_order.proofs.LockOrder.{entries_ascend}
use Rattle.call_check.proofs.PlacedTurns.{at_of}
use Rattle.call_check.proofs.RecordLocks.{locks_apart, lock_there}
use Rattle.call_check.proofs.StepTurns.{drawn_by, named}
use Rattle.call_check.proofs.Filtered.{picks_less}
use Rattle.call_check.proofs.StrandOrder.{in_strand, strand_has, strand_is}
use Rattle.call_check.specs.RightCalls.{steps_of_call, ticket_bound}
use Rattle.call_check.proofs.BelowTicket.{drawn_of, range_among}
use Rattle.call_check.proofs.NamedTurns.{drawn_of_call}

pub fit_member : {A : Type 0} (P : A → Type 0) (xs : List A) → AllFit P xs → (x : A) → IsAmong x xs → P x
fit_member P [] fit x there = absurd there
fit_member P (y ∷ xs) fit x (inl same) = subst P same fit.0
fit_member P (y ∷ xs) fit x (inr later) = fit_member P xs fit.1 x later

-- what a test leaves stands there
left_in : (test : ℕ → Bool) (cpu : ℕ) (xs : List ℕ) → has_cpu cpu (filter test xs) ≡ true → IsAmong cpu xs
left_in test cpu [] is = absurd cc
left_in test cpu (x ∷ xs) is = by (test x) is (left_in test cpu xs)
  where
    first : (b : Bool) → eqb x cpu ≡ b → (b || has_cpu cpu (filter test xs)) ≡ true → (has_cpu cpu (filter test xs) ≡ true → IsAmong cpu xs) → IsAmong cpu (x ∷ xs)
    first true same found rest = inl (eqb-true x cpu same)
    first false other found rest = inr (rest found)

    by : (b : Bool) → has_cpu cpu (cond b (x ∷ filter test xs) (filter test xs)) ≡ true → (has_cpu cpu (filter test xs) ≡ true → IsAmong cpu xs) → IsAmong cpu (x ∷ xs)
    by true found rest = first (eqb x cpu) refl found rest
    by false found rest = inr (rest found)

-- What a record says of its strands and their steps, without calls.
pub record HasStrands (script : Script) (kept : RunRecord) : Type 0 where
  pub strand_of : ℕ → ℕ → ℕ
  pub in_strand : (p cpu : ℕ) → p < phase_count script.cuts → cpu < script.shape.cpus → MatchOption (slice_get kept.strands (strand_of p cpu)) ⊥ (λ (strand : Strand). strand.phase ≡ p)
  pub cpus_are : (n : ℕ) (strand : Strand) → slice_get kept.strands n ≡ Some strand
      → (strand.phase < phase_count script.cuts) × (strand.cpus ≡ filter (λ cpu. eqb (strand_of strand.phase cpu) n) (range_with_len 0 script.shape.cpus))
  pub steps : (n : ℕ) (strand : Strand) → slice_get kept.strands n ≡ Some strand → (lock : DomainId) → is_lock script.shape lock ≡ true
      → places_on lock strand.steps ≡ places_in script.cuts strand.phase strand.cpus 0 (entries_of kept.histories lock)

-- the strand of a CPU in a phase
pub record StrandIs (kept : RunRecord) (phase cpu : ℕ) : Type 0 where
  pub place : ℕ
  pub strand : Strand
  pub at : slice_get kept.strands place ≡ Some strand
  pub phase_is : strand.phase ≡ phase
  pub has : has_cpu cpu strand.cpus ≡ true

module _ (script : Script) (kept : RunRecord) (well : WellShaped script kept) where
  pub apart : AreApart (locks_in kept.histories)
  apart = subst AreApart (sym well.locks) (locks_apart script.shape)

  pub a_lock : (lock : DomainId) → is_one_of (locks_in kept.histories) lock ≡ true → is_lock script.shape lock ≡ true
  a_lock lock one = lock_there script.shape lock (subst (λ (l : List DomainId). is_one_of l lock ≡ true) well.locks one)

  -- each entry is such as the script asks
  pub fits : (x : Drawn) → IsAmong x (all_drawn kept.histories) → EntryFits script.shape (length script.calls) x.lock x.entry
  fits x there =
      let found = flat_among drawn_in x kept.histories there in
      let its = map_among (λ (entry : Entry). record { lock = found.0.lock; entry = entry }) x found.0.entries found.2 in
      let history : HistoryFits script.shape (length script.calls) found.0 = fit_member (HistoryFits script.shape (length script.calls)) kept.histories well.histories found.0 found.1 in
      subst (λ (w : Drawn). EntryFits script.shape (length script.calls) w.lock w.entry) its.2
      (fit_member (EntryFits script.shape (length script.calls) found.0.lock) found.0.entries history.entries its.0 its.1)

  pub low : (x : Drawn) → IsAmong x (all_drawn kept.histories) → x.entry.ticket < ticket_bound
  unfolding ticket_bound
  low x there = (fits x there).ticket

module _ (script : Script) (kept : RunRecord) (well : WellShaped script kept) (ticketed : AreTicketed kept.histories kept.strands) (strands : HasStrands script kept) where
  pub ascend : (lock : DomainId) → AscendIn 0 (by_entry.tickets_of (entries_of kept.histories lock)) (turn_count kept.histories)
  ascend lock = entries_ascend kept.histories (turn_count kept.histories) ticketed.in_histories lock

  -- the strand of a CPU
  pub strand_at : (phase cpu : ℕ) → phase < phase_count script.cuts → cpu < script.shape.cpus → StrandIs kept phase cpu
  strand_at phase cpu below real = by (slice_get kept.strands (strands.strand_of phase cpu)) refl (strands.in_strand phase cpu below real)
    where
      by : (o : Option Strand) → slice_get kept.strands (strands.strand_of phase cpu) ≡ o → MatchOption o ⊥ (λ (strand : Strand). strand.phase ≡ phase) → StrandIs kept phase cpu
      by None at of_phase = absurd of_phase
      by (Some strand) at of_phase =
          let left : has_cpu cpu (filter (λ c. eqb (strands.strand_of strand.phase c) (strands.strand_of phase cpu)) (range_with_len 0 script.shape.cpus)) ≡ true =
          passing_left (λ c. eqb (strands.strand_of strand.phase c) (strands.strand_of phase cpu)) cpu (range_with_len 0 script.shape.cpus) (in_range cpu 0 script.shape.cpus (omega arith) (omega (arith, real)))
          (eq-eqb (strands.strand_of strand.phase cpu) (strands.strand_of phase cpu) (ap (λ (q : ℕ). strands.strand_of q cpu) of_phase)) in
          record {
            place = strands.strand_of phase cpu;
            strand = strand;
            at = at;
            phase_is = of_phase;
            has = subst (λ (cpus : List ℕ). has_cpu cpu cpus ≡ true) (sym (strands.cpus_are (strands.strand_of phase cpu) strand at).1) left;
          }

  -- a CPU of a strand is one of the map
  pub real_cpu : (n : ℕ) (strand : Strand) → slice_get kept.strands n ≡ Some strand → (cpu : ℕ) → has_cpu cpu strand.cpus ≡ true → cpu < script.shape.cpus
  real_cpu n strand at cpu has =
      let inside = range_among 0 script.shape.cpus cpu (left_in (λ c. eqb (strands.strand_of strand.phase c) n) cpu (range_with_len 0 script.shape.cpus) (subst (λ (cpus : List ℕ). has_cpu cpu cpus ≡ true) (strands.cpus_are n strand at).1 has)) in
      omega (arith, inside.1)

  -- Turns of a strand

  module _ (n : ℕ) (strand : Strand) (at : slice_get kept.strands n ≡ Some strand) where
    abbrev is_its : Drawn → Bool
    is_its drawn = in_strand script.cuts strand.phase strand.cpus drawn.entry

    its_steps : (lock : DomainId) → is_one_of (locks_in kept.histories) lock ≡ true → places_on lock strand.steps ≡ places_in script.cuts strand.phase strand.cpus 0 (entries_of kept.histories lock)
    its_steps lock one = strands.steps n strand at lock (a_lock script kept well lock one)

    pub all_its : drawn_by kept.histories strand.steps ≡ filter (λ (drawn : Drawn). in_strand script.cuts strand.phase strand.cpus drawn.entry) (ordered kept.histories)
    all_its =
        strand_is kept.histories ticketed.each_once (apart script kept well) script.cuts strand.phase strand.cpus strand.steps its_steps
        (among_all (λ (s : Strand). AscendIn 0 (map (ticket_at kept.histories) s.steps) (turn_count kept.histories)) strand kept.strands ticketed.in_strands (place_among strand kept.strands n at))

    pub has_its : (x : Drawn) → IsAmong x (ordered kept.histories) → phase_of script.cuts x.entry.call ≡ strand.phase → has_cpu x.entry.cpu strand.cpus ≡ true → IsAmong x (drawn_by kept.histories strand.steps)
    has_its x there phase has =
        strand_has kept.histories ticketed.each_once (apart script kept well) script.cuts strand.phase strand.cpus strand.steps its_steps x there
        (and_from _ _ (eq-eqb (phase_of script.cuts x.entry.call) strand.phase phase) has)

    pub is_in_it : (x : Drawn) → IsAmong x (drawn_by kept.histories strand.steps) → IsAmong x (ordered kept.histories) × (phase_of script.cuts x.entry.call ≡ strand.phase) × (has_cpu x.entry.cpu strand.cpus ≡ true)
    is_in_it x there =
        let found = filter_among (λ (drawn : Drawn). in_strand script.cuts strand.phase strand.cpus drawn.entry) x (ordered kept.histories) (subst (λ (l : List Drawn). IsAmong x l) all_its there) in
        let parts = and_parts (eqb (phase_of script.cuts x.entry.call) strand.phase) (has_cpu x.entry.cpu strand.cpus) found.1 in
        (found.0, eqb-true (phase_of script.cuts x.entry.call) strand.phase parts.0, parts.1)

    -- the turns of a call of one of its CPUs are those of the strand's steps with its number
    module _ (number cpu : ℕ) (some : 0 < number) (phase : phase_of script.cuts number ≡ strand.phase) (has : has_cpu cpu strand.cpus ≡ true)
        (on : (x : Drawn) → IsAmong x (drawn_of number (ordered kept.histories)) → x.entry.cpu ≡ cpu) where
      pub its_turns : drawn_by kept.histories (steps_of_call kept.histories number strand.steps) ≡ drawn_of number (ordered kept.histories)
      its_turns =
          drawn_of_call kept.histories number some strand.steps
          ∙ (ap (drawn_of number) all_its
          ∙ picks_less (λ (drawn : Drawn). eqb drawn.entry.call number) (λ (drawn : Drawn). in_strand script.cuts strand.phase strand.cpus drawn.entry) (ordered kept.histories)
          (λ x there is. and_from _ _ (eq-eqb (phase_of script.cuts x.entry.call) strand.phase (ap (phase_of script.cuts) (eqb-true x.entry.call number is) ∙ phase))
          (ap (λ (c : ℕ). has_cpu c strand.cpus) (on x (among_filter (λ (drawn : Drawn). eqb drawn.entry.call number) x (ordered kept.histories) is there)) ∙ has)))

      pub turns_by : (turns : List TurnAt) → NameAll kept.histories cpu number (steps_of_call kept.histories number strand.steps) turns → turns ≡ map (at_of kept.histories) (drawn_of number (ordered kept.histories))
      turns_by turns names =
          named kept.histories (turn_count kept.histories) ascend cpu number (steps_of_call kept.histories number strand.steps) turns names ∙ ap (map (at_of kept.histories)) its_turns
