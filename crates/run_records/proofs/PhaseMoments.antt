-- The turns of every lock at the start of each phase of a race, and at its end: those of the phases before. So at the end each
-- history's entries of before a phase are those of that moment.
use Rattle.std.proofs.Common.{◌≡◌, ◌≢◌, ◌⊎◌, ℕ, zero, suc, ◌+◌, ◌<◌, ◌≤◌, Bool, cond, eqb, List, [], ◌∷◌, length, Option, Some, None, refl, ap, sym, ◌∙◌, subst, arith, inl, inr}
use Rattle.std.specs.Prelude.{All, filter, slice_get}
use Rattle.std.proofs.lemmas.Bool.{eq-eqb, ne_eqb, cases_eq}
use Rattle.std.proofs.lemmas.Option.{none-some, same_Some}
use Rattle.map_types.specs.declared.attr.Shape.{Shape}
use Rattle.map_types.specs.declared.call.Call.{Call}
use Rattle.map_types.specs.declared.reply.Reply.{Reply}
use Rattle.map_script.specs.declared.script.Script.{Script}
use Rattle.place_words.specs.declared.history.Entry.{Entry}
use Rattle.place_words.specs.Phases.{phase_of}
use Rattle.place_words.specs.Tickets.{AscendIn}
use Rattle.place_table.specs.declared.view.Turned.{Turned}
use Rattle.place_table.specs.Calls.{element_of}
use Rattle.place_table.specs.Closing.{ClosedView, IsClosed}
use Rattle.place_table.specs.Passes.{PassView, TableView, spare_of}
use Rattle.place_table.specs.Rules.{turns_on}
use Rattle.place_table.specs.StrandTurns.{AreTurnsOf}
use Rattle.place_table.specs.Tickets.{turn_tickets}
use Rattle.place_table.specs.Views.{all_strands, next}
use Rattle.map_report.specs.declared.record.PhaseStart.{PhaseStart}
use Rattle.map_report.proofs.CutLemmas.{Rise}
use Rattle.run_records.specs.declared.pieces.Piece.{Piece}
use Rattle.run_records.specs.ByLogs.{IsOfMap}
use Rattle.run_records.specs.Parts.{Part, AreCut, has_turns, lone_cpu}
use Rattle.run_records.specs.Phased.{IsWhole}
use Rattle.run_records.specs.Races.{first_of, calls_of, HaveComeTo}
use Rattle.run_records.specs.Work.{has_turn}
use Rattle.run_records.proofs.Moments.{IsMoment, calls_in}
use Rattle.run_records.proofs.PartLemmas.{covered, there}
use Rattle.run_records.proofs.PhaseParts.{Done, done_in, done_last, done_before, parts_of, parts_to, same_parts, cut_to, whole_to, IsCutNow}
use Rattle.run_records.proofs.PhaseFacts.{IsPhase}
use Rattle.run_records.proofs.PhaseChain.{IsSound, facts, chain, sound_at, earlier_or_last, last_of}
use Rattle.run_records.proofs.RaceCalls.{calls_real}
use Rattle.serial_laws.proofs.ListPlaces.{made_at, made_there, in_either, in_first, in_second}
use Rattle.run_records.proofs.LoneCalls.{lone_within}

only_first : {A : Type 0} (x y : A) (i : ℕ) → slice_get (x ∷ []) i ≡ Some y → x ≡ y
only_first x y zero is = same_Some x y is
only_first x y (suc i) is = absurd (none-some y is)

module _ (t : TableView) (script : Script) (some : 0 < t.shape.cpus) (served : (q : ℕ) → All (λ (call : Call). call.cpu < t.shape.cpus) (calls_of script q)) where
  abbrev shape : Shape
  shape = t.shape

  abbrev its : (p : ℕ) (now : PassView) (replies : List Reply) (starts : List PhaseStart) (pieces : List Piece) → HaveComeTo t script p now replies starts pieces → ℕ → Done
  its p now replies starts pieces come = done_in t script p now replies starts pieces come

  -- Parts by phase and CPU

  pub record IsPartOf (did : ℕ → Done) (q : ℕ) (part : Part) : Type 0 where
    pub phase : ℕ
    pub cpu : ℕ
    pub low : phase < q
    pub real : cpu < shape.cpus
    pub turns_are : part.turns ≡ (did phase).turns cpu

  part_of_phase : (did : ℕ → Done) (p : ℕ) (lone : Option ℕ) → lone_cpu (calls_of script p) ≡ lone → (j : ℕ) (part : Part) → slice_get (parts_of t script p lone (did p)) j ≡ Some part → IsPartOf did (suc p) part
  part_of_phase did p None is j part at =
      let made = made_at (λ cpu. record { phase = p; cpu = Some cpu; turns = (did p).turns cpu; kept = (did p).kept cpu }) shape.cpus j part at in
      record { phase = p; cpu = j; low = omega arith; real = made.0; turns_are = ap (λ (q : Part). q.turns) made.1 }
  part_of_phase did p (Some c) is j part at =
      let one = only_first (record { phase = p; cpu = None; turns = (did p).turns c; kept = (did p).kept c }) part j at in
      record { phase = p; cpu = c; low = omega arith; real = lone_within shape.cpus (calls_of script p) c some (served p) is; turns_are = sym (ap (λ (q : Part). q.turns) one) }

  part_is : (did : ℕ → Done) (q i : ℕ) (part : Part) → slice_get (parts_to t script did q) i ≡ Some part → IsPartOf did q part
  unfolding parts_to
  part_is did zero i part at = absurd (none-some part at)
  part_is did (suc p) i part at =
      elim (in_either (parts_to t script did p) (parts_of t script p (lone_cpu (calls_of script p)) (did p)) i part at) [
        | inl before ↦ let was = part_is did p i part before in record { phase = was.phase; cpu = was.cpu; low = (let low = was.low in omega (arith, low)); real = was.real; turns_are = was.turns_are }
        | inr here ↦ part_of_phase did p (lone_cpu (calls_of script p)) refl here.0 part here.2
      ]

  -- the part that a turn of a CPU in a phase is of
  part_there_in : (did : ℕ → Done) (p : ℕ) (lone : Option ℕ) → lone_cpu (calls_of script p) ≡ lone → ((cpu other : ℕ) → lone_cpu (calls_of script p) ≡ Some cpu → other ≢ cpu → (did p).turns other ≡ [])
      → (cpu : ℕ) → cpu < shape.cpus → (k j : ℕ) (turn : ℕ × Entry) → slice_get (turns_on k ((did p).turns cpu)) j ≡ Some turn
      → (i : ℕ) × (part : Part) × (slice_get (parts_of t script p lone (did p)) i ≡ Some part) × (part.turns ≡ (did p).turns cpu)
  part_there_in did p None is others cpu real k j turn at = (
    cpu,
    record { phase = p; cpu = Some cpu; turns = (did p).turns cpu; kept = (did p).kept cpu },
    made_there (λ c. record { phase = p; cpu = Some c; turns = (did p).turns c; kept = (did p).kept c }) shape.cpus cpu real,
    refl,
  )
  part_there_in did p (Some c) is others cpu real k j turn at = by (cases_eq cpu c)
    where
      by : (cpu ≡ c) ⊎ (cpu ≢ c) → (i : ℕ) × (part : Part) × (slice_get (parts_of t script p (Some c) (did p)) i ≡ Some part) × (part.turns ≡ (did p).turns cpu)
      by (inl same) = (0, record { phase = p; cpu = None; turns = (did p).turns c; kept = (did p).kept c }, refl, ap (did p).turns (sym same))
      by (inr other) = absurd (none-some turn (ap (λ (l : List Turned). slice_get (turns_on k l) j) (sym (others c cpu is other)) ∙ at))

  part_there : (did : ℕ → Done) (q : ℕ) → ((r : ℕ) → r < q → (cpu other : ℕ) → lone_cpu (calls_of script r) ≡ Some cpu → other ≢ cpu → (did r).turns other ≡ [])
      → (r cpu : ℕ) → r < q → cpu < shape.cpus → (k j : ℕ) (turn : ℕ × Entry) → slice_get (turns_on k ((did r).turns cpu)) j ≡ Some turn
      → (i : ℕ) × (part : Part) × (slice_get (parts_to t script did q) i ≡ Some part) × (part.turns ≡ (did r).turns cpu)
  unfolding parts_to
  part_there did zero others r cpu low real k j turn at = absurd (omega (arith, low))
  part_there did (suc p) others r cpu low real k j turn at =
      elim (earlier_or_last r p low) [
        | inl before ↦
            let was = part_there did p (λ s less. others s (omega (arith, less))) r cpu before real k j turn at in
            (was.0, was.1, in_first (parts_to t script did p) (parts_of t script p (lone_cpu (calls_of script p)) (did p)) was.0 was.1 was.2, was.3)
        | inr same ↦
            let here = part_there_in did p (lone_cpu (calls_of script p)) refl (others p (omega arith)) cpu real k j turn (subst (λ (s : ℕ). slice_get (turns_on k ((did s).turns cpu)) j ≡ Some turn) same at) in
            let at : ℕ = length (parts_to t script did p) + here.0 in
            (at, here.1, in_second (parts_to t script did p) (parts_of t script p (lone_cpu (calls_of script p)) (did p)) at here.0 here.1 refl here.2, here.3 ∙ ap (λ (s : ℕ). (did s).turns cpu) (sym same))
      ]

  -- where the strands of a moment are cut into the parts of the phases before, the turns of the locks are those of these phases
  moment_of : (did : ℕ → Done) (q : ℕ) → ((r : ℕ) → r < q → (cpu other : ℕ) → lone_cpu (calls_of script r) ≡ Some cpu → other ≢ cpu → (did r).turns other ≡ [])
      → (v : PassView) → AreCut shape (filter has_turns (parts_to t script did q)) (filter has_turn (all_strands v.view)) → (log : ℕ → List Entry) → ((k : ℕ) → AreTurnsOf k (all_strands v.view) (log k))
      → IsMoment shape.cpus (λ r cpu. (did r).turns cpu) q log
  moment_of did q others v cut log turns = record {
    covered = λ k place entry is.
        let at = covered shape (parts_to t script did q) (all_strands v.view) cut k (log k) (turns k) place entry is in
        let its = part_is did q at.0 at.1 at.2 in
        (its.phase, its.cpu, at.3, its.low, its.real, ap (λ (l : List Turned). slice_get (turns_on k l) at.3) (sym its.turns_are) ∙ at.4);
    there = λ r cpu low real k j place entry is.
        let at = part_there did q others r cpu low real k j (place, entry) is in
        there shape (parts_to t script did q) (all_strands v.view) cut k (log k) (turns k) at.0 j place at.1 entry at.2 (ap (λ (l : List Turned). slice_get (turns_on k l) j) at.3 ∙ is);
  }

  -- At the start of each phase

  pub cut_before : (p : ℕ) (now : PassView) (replies : List Reply) (starts : List PhaseStart) (pieces : List Piece) (come : HaveComeTo t script p now replies starts pieces) (q : ℕ) → q < p
      → IsCutNow t script (parts_to t script (its p now replies starts pieces come) q) (its p now replies starts pieces come q).was
  cut_before zero now replies starts pieces come q less = absurd (omega (arith, less))
  cut_before (suc p) now replies starts pieces come q less = by (earlier_or_last q p less) (cut_before p come.0 come.2 come.4 come.6 come.8 q)
    where
      did : ℕ → Done
      did = its (suc p) now replies starts pieces come

      earlier : ℕ → Done
      earlier = its p come.0 come.2 come.4 come.6 come.8

      by : (q < p) ⊎ (q ≡ p) → (q < p → IsCutNow t script (parts_to t script earlier q) (earlier q).was) → IsCutNow t script (parts_to t script did q) (did q).was
      by (inl low) rest =
          subst (λ (z : List Part × PassView). IsCutNow t script z.0 z.1)
          (λ i. (same_parts t script q earlier did (λ r below. sym (done_before t script p now replies starts pieces come r (omega (arith, below, low)))) i, (sym (done_before t script p now replies starts pieces come q low) i).was))
          (rest low)
      by (inr same) rest =
          subst (λ (r : ℕ). IsCutNow t script (parts_to t script did r) (did r).was) (sym same)
          (subst (λ (z : List Part × PassView). IsCutNow t script z.0 z.1)
          (λ i. (same_parts t script p earlier did (λ r below. sym (done_before t script p now replies starts pieces come r below)) i, (sym (done_last t script p now replies starts pieces come) i).was))
          (cut_to t script p come.0 come.2 come.4 come.6 come.8))

  pub whole_before : (p : ℕ) (now : PassView) (replies : List Reply) (starts : List PhaseStart) (pieces : List Piece) (come : HaveComeTo t script p now replies starts pieces) (q : ℕ) → q < p
      → IsWhole t (its p now replies starts pieces come q).was
  whole_before zero now replies starts pieces come q less = absurd (omega (arith, less))
  whole_before (suc p) now replies starts pieces come q less = by (earlier_or_last q p less) (whole_before p come.0 come.2 come.4 come.6 come.8 q)
    where
      by : (q < p) ⊎ (q ≡ p) → (q < p → IsWhole t (its p come.0 come.2 come.4 come.6 come.8 q).was) → IsWhole t (its (suc p) now replies starts pieces come q).was
      by (inl low) rest = subst (λ (d : Done). IsWhole t d.was) (sym (done_before t script p now replies starts pieces come q low)) (rest low)
      by (inr same) rest =
          subst (λ (r : ℕ). IsWhole t (its (suc p) now replies starts pieces come r).was) (sym same)
          (subst (λ (d : Done). IsWhole t d.was) (sym (done_last t script p now replies starts pieces come)) (whole_to t script p come.0 come.2 come.4 come.6 come.8))

  module _ (p : ℕ) (now : PassView) (replies : List Reply) (starts : List PhaseStart) (pieces : List Piece) (come : HaveComeTo t script p now replies starts pieces) where
    abbrev pub did : ℕ → Done
    did = its p now replies starts pieces come

    abbrev pub turns : ℕ → ℕ → List Turned
    turns q cpu = (did q).turns cpu

    abbrev pub fact : (q : ℕ) → q < p → IsPhase t script q (did q)
    fact q less = facts t script p now replies starts pieces come q less

    others : (q : ℕ) → q ≤ p → (r : ℕ) → r < q → (cpu other : ℕ) → lone_cpu (calls_of script r) ≡ Some cpu → other ≢ cpu → (did r).turns other ≡ []
    others q low r less = (fact r (omega (arith, low, less))).others

    -- the turns of the locks at the start of a phase
    abbrev pub log_at : (q : ℕ) → q < p → ℕ → List Entry
    log_at q less = (fact q less).started.learns.log

    pub moment_at : (q : ℕ) (less : q < p) → IsMoment shape.cpus turns q (log_at q less)
    moment_at q less =
        moment_of did q (others q (omega (arith, less))) (did q).was (cut_before p now replies starts pieces come q less) (log_at q less)
        ((fact q less).started.learns.turns (whole_before p now replies starts pieces come q less).in_no_call.holds_nothing)

    -- and at the end
    pub moment_end : (closed : ClosedView) (ends : IsClosed shape now closed) → IsMoment shape.cpus turns p ends.log
    moment_end closed ends = moment_of did p (others p (omega arith)) now (cut_to t script p now replies starts pieces come) ends.log ends.turns

    -- The pass at the start of each phase, and at the end

    pub pass_at : ℕ → PassView
    pass_at q = cond (eqb q p) now (did q).was

    pub pass_last : pass_at p ≡ now
    unfolding pass_at
    pass_last = ap (λ (b : Bool). cond b now (did p).was) (eq-eqb p p refl)

    pub at_start : (q : ℕ) → q < p → pass_at q ≡ (did q).was
    unfolding pass_at
    at_start q less = ap (λ (b : Bool). cond b now (did q).was) (ne_eqb q p (λ is. omega (arith, less, is)))

    pub at_end : (q : ℕ) → q < p → pass_at (suc q) ≡ (did q).now
    unfolding pass_at
    at_end q less = by (cases_eq (suc q) p)
      where
        by : (suc q ≡ p) ⊎ (suc q ≢ p) → cond (eqb (suc q) p) now (did (suc q)).was ≡ (did q).now
        by (inl last) = ap (λ (b : Bool). cond b now (did (suc q)).was) (eq-eqb (suc q) p last) ∙ last_of t script q p now replies starts pieces come last
        by (inr other) = ap (λ (b : Bool). cond b now (did (suc q)).was) (ne_eqb (suc q) p other) ∙ chain t script p now replies starts pieces come q (omega (arith, less, other))

    abbrev pub bound : ℕ → ℕ
    bound q = next (pass_at q).view

    pub bound_begun : (q : ℕ) → q < p → next (did q).begun.view ≡ bound q
    bound_begun q less =
        let stays = (fact q less).started.stays in
        (λ i. stays.reached i + stays.refused i) ∙ ap (λ (v : PassView). next v.view) (sym (at_start q less))

    pub bound_now : (q : ℕ) → q < p → next (did q).now.view ≡ bound (suc q)
    bound_now q less = ap (λ (v : PassView). next v.view) (sym (at_end q less))

    pub rise : (q : ℕ) → q < p → bound q ≤ bound (suc q)
    rise q less = subst (λ (z : ℕ × ℕ). z.0 ≤ z.1) (λ i. (bound_begun q less i, bound_now q less i)) (fact q less).rise

    pub windows : (q cpu : ℕ) → q < p → cpu < shape.cpus → AscendIn (bound q) (turn_tickets (turns q cpu)) (bound (suc q))
    windows q cpu less real = subst (λ (z : ℕ × ℕ). AscendIn z.0 (turn_tickets (turns q cpu)) z.1) (λ i. (bound_begun q less i, bound_now q less i)) ((fact q less).windows cpu real)

    -- Whose turns they are, where no record of a lock was lost

    module _ (sound : IsSound now) where
      pub lost_at : (q : ℕ) → q < p → (did q).now.view.lost ≡ []
      lost_at q less = (sound_at t script p now replies starts pieces come sound q less).lost

      pub made : Rise 0 script.cuts (length script.calls) → shape ≡ script.shape → (q cpu : ℕ) → q < p → cpu < shape.cpus → All (λ (step : Turned). (step.entry.cpu ≡ cpu) × (phase_of script.cuts step.entry.call ≡ q)) (turns q cpu)
      made cuts same q cpu less real =
          calls_in script cuts q cpu _ _ _ (turns q cpu)
          (subst (λ (s : Shape). Rattle.run_records.specs.Work.AreCallsBy s cpu (suc (first_of script q)) (calls_of script q) (element_of (spare_of cpu (did q).begun.spares)) (element_of (spare_of cpu (did q).now.spares)) (Rattle.file_order.specs.Replies.replies_of cpu (calls_of script q) (did q).told) (turns q cpu)) same
          ((fact q less).calls_are (lost_at q less) cpu real))

      pub real_turns : (q cpu : ℕ) → q < p → cpu < shape.cpus → All (IsOfMap shape) (turns q cpu)
      real_turns q cpu less real =
          let is = fact q less in
          calls_real shape cpu (calls_of script q) (did q).told (suc (first_of script q)) (element_of (spare_of cpu (did q).begun.spares)) (element_of (spare_of cpu (did q).now.spares)) (turns q cpu) is.counted (is.calls_are (lost_at q less) cpu real)
