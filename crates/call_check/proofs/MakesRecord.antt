-- Where all parts of a record are right, and its tickets, it is a record of a run.
use Rattle.std.proofs.Common.{◌≡◌, inl, inr, ℕ, zero, suc, ◌<◌, Bool, true, false, eqb, ltb, List, [], ◌∷◌, length, map, Option, Some, refl, ap, sym, ◌∙◌, subst, arith}
use Rattle.std.specs.Prelude.{All, MatchBool, slice_get}
use Rattle.std.proofs.lemmas.Bool.{and_parts, ltb-true}
use Rattle.std.proofs.lemmas.List.Elements.{All-nil, All-cons}
use Rattle.std.proofs.lemmas.Option.{none-some, same_Some}
use Rattle.map_types.specs.declared.attr.Shape.{Shape}
use Rattle.map_types.specs.declared.call.Call.{Call}
use Rattle.map_types.specs.declared.reply.Reply.{Reply}
use Rattle.map_script.specs.declared.script.Script.{Script}
use Rattle.map_script.specs.WellFormed.{IsCallOn, IsWellFormed}
use Rattle.place_words.specs.declared.history.Entry.{Entry}
use Rattle.place_words.specs.declared.history.LockHistory.{LockHistory}
use Rattle.place_words.specs.Histories.{AllAllowed, Allows, Content, IsLegal, content_after}
use Rattle.place_words.specs.Interleaving.{Drawn, turn_of}
use Rattle.place_words.specs.Phases.{phase_of, phase_count, calls_before}
use Rattle.place_words.specs.Tickets.{AreTicketed}
use Rattle.place_words.specs.Turns.{Turn, TurnAt, turns_of}
use Rattle.map_report.specs.declared.record.PhaseStart.{PhaseStart}
use Rattle.map_report.specs.declared.record.RunRecord.{RunRecord}
use Rattle.map_report.specs.Record.{Ascend, EachAnswered, IsRecord, MayAnswer}
use Rattle.record_shape.specs.Fits.{ascends, ascends_above}
use Rattle.record_shape.specs.ShapedParts.{EntryFits, IsAnswerOf, RepliesFit, ReplyFits, StartFits, pair_side}
use Rattle.record_shape.specs.WellShaped.{HistoryFits, SoManyFit, WellShaped, only_start}
use Rattle.record_shape.proofs.ByPlaces.{all_at}
use Rattle.turn_order.specs.Ordered.{drawn_in, ordered}
use Rattle.turn_order.proofs.Members.{IsAmong, all_among, among_all, filter_among, flat_among, map_among}
use Rattle.turn_order.proofs.TicketOrder.{ordered_all}
use Rattle.call_check.proofs.PlacedTurns.{at_of}
use Rattle.call_check.specs.CallLaws.{ArePartsRight}
use Rattle.call_check.proofs.Answered.{AreAllowedThere, IsAllowed, may_answer}
use Rattle.call_check.proofs.BelowTicket.{drawn_of}
use Rattle.call_check.proofs.CallSpares.{OnOwnCpus, at_first, on_cpu}
use Rattle.call_check.proofs.KnownTurns.{StrandIs, fit_member, strand_at, turns_by}
use Rattle.call_check.proofs.LastSpares.{last_are, last_is}
use Rattle.call_check.proofs.PhaseCalls.{all_done, number_phase}
use Rattle.call_check.proofs.RightStrands.{calls_are, joined_call, own_cpus, replies_many, rise, strands_are}
use Rattle.call_check.proofs.SparesInOrder.{spare_by, turns_at}

-- an entry of a legal history was allowed
allowed_at : (shape : Shape) (content : Content) (entries : List Entry) → AllAllowed shape content entries → (e : Entry) → IsAmong e entries → (c : Content) × Allows shape e.cpu e.part c
unfolding AllAllowed
allowed_at shape content [] legal e there = absurd there
allowed_at shape content (entry ∷ entries) legal e (inl same) = (content, subst (λ (w : Entry). Allows shape w.cpu w.part content) same legal.0)
allowed_at shape content (entry ∷ entries) legal e (inr later) = allowed_at shape (content_after shape entry.cpu entry.part content) entries legal.1 e later

-- each reply, by its place
fit_reply : (shape : Shape) (calls : List Call) (replies : List Reply) → RepliesFit shape calls replies → (k : ℕ) (call : Call) (reply : Reply) → slice_get calls k ≡ Some call → slice_get replies k ≡ Some reply
    → ReplyFits shape (pair_side call.verb) (IsAnswerOf shape call.verb) reply
fit_reply shape [] replies fit k call reply at answered = absurd (none-some call at)
fit_reply shape (c ∷ calls) [] fit k call reply at answered = absurd fit
fit_reply shape (c ∷ calls) (r ∷ replies) fit zero call reply at answered =
    subst (λ (d : Call). ReplyFits shape (pair_side d.verb) (IsAnswerOf shape d.verb) reply) (same_Some c call at)
    (subst (λ (s : Reply). ReplyFits shape (pair_side c.verb) (IsAnswerOf shape c.verb) s) (same_Some r reply answered) fit.0)
fit_reply shape (c ∷ calls) (r ∷ replies) fit (suc k) call reply at answered = fit_reply shape calls replies fit.1 k call reply at answered

each_answered : (shape : Shape) (calls : List Call) (replies : List Reply) → length replies ≡ length calls
    → ((k : ℕ) (call : Call) (reply : Reply) → slice_get calls k ≡ Some call → slice_get replies k ≡ Some reply → MayAnswer shape call.verb reply) → EachAnswered shape calls replies
each_answered shape [] [] long each = tt
each_answered shape [] (reply ∷ replies) long each = absurd (omega (arith, long))
each_answered shape (call ∷ calls) [] long each = absurd (omega (arith, long))
each_answered shape (call ∷ calls) (reply ∷ replies) long each = (each 0 call reply refl refl, each_answered shape calls replies (omega (arith, long)) (λ k. each (suc k)))

-- numbers that ascend, by a test
ascend_above : (least : ℕ) (xs : List ℕ) → ascends_above least xs ≡ true → All (λ (y : ℕ). least < y) xs × Ascend xs
ascend_above least [] up = (All-nil (λ (y : ℕ). least < y), tt)
ascend_above least (x ∷ xs) up =
    let parts = and_parts (ltb least x) (ascends_above x xs) up in
    let first : least < x = ltb-true least x parts.0 in
    let rest = ascend_above x xs parts.1 in
    (all_among (λ (y : ℕ). least < y) (x ∷ xs) (λ y there. above first rest.0 y there), rest)
  where
    above : least < x → All (λ (z : ℕ). x < z) xs → (y : ℕ) → IsAmong y (x ∷ xs) → least < y
    above first rest y (inl same) = subst (λ (z : ℕ). least < z) same first
    above first rest y (inr later) = let more = among_all (λ (z : ℕ). x < z) y xs rest later in omega (arith, first, more)

ascend_of : (xs : List ℕ) → ascends xs ≡ true → Ascend xs
ascend_of [] up = tt
ascend_of (x ∷ xs) up = ascend_above x xs up

abbrev IsMarked : Shape → PhaseStart → Type 0
IsMarked shape start = All (λ (element : ℕ). element < shape.elements) start.marked × Ascend start.marked

marked_fit : (shape : Shape) (start : PhaseStart) → StartFits shape start → IsMarked shape start
marked_fit shape start fit =
    (all_among (λ (element : ℕ). element < shape.elements) start.marked (λ e there. fit_member (λ (element : ℕ). element < shape.elements) start.marked fit.marked.below e there), ascend_of start.marked fit.marked.ascending)

module _ (script : Script) (kept : RunRecord) (formed : IsWellFormed script) (well : WellShaped script kept) (parts : ArePartsRight script kept) (ticketed : AreTicketed kept.histories kept.strands) where
  abbrev start : ℕ → ℕ
  start p = calls_before script.cuts (length script.calls) p

  abbrev spare : ℕ → ℕ → Option ℕ
  spare cpu number = spare_by script.shape kept.histories cpu number

  marked_is : All (IsMarked script.shape) kept.phases
  marked_is = by (eqb script.version 2) well.phases
    where
      by : (b : Bool) → MatchBool b (SoManyFit (phase_count script.cuts) (StartFits script.shape) kept.phases) (kept.phases ≡ only_start ∷ []) → All (IsMarked script.shape) kept.phases
      by true fit = all_among (IsMarked script.shape) kept.phases (λ start there. marked_fit script.shape start (fit_member (StartFits script.shape) kept.phases fit.0 start there))
      by false is = subst (All (IsMarked script.shape)) (sym is) (All-cons (IsMarked script.shape) only_start [] (All-nil (λ (element : ℕ). element < script.shape.elements), tt) (All-nil (IsMarked script.shape)))

  on_cpus_is : All (λ (history : LockHistory). All (λ (entry : Entry). entry.cpu < script.shape.cpus) history.entries) kept.histories
  on_cpus_is =
      all_among (λ (history : LockHistory). All (λ (entry : Entry). entry.cpu < script.shape.cpus) history.entries) kept.histories
      (λ history there.
      let fit : HistoryFits script.shape (length script.calls) history = fit_member (HistoryFits script.shape (length script.calls)) kept.histories well.histories history there in
      all_among (λ (entry : Entry). entry.cpu < script.shape.cpus) history.entries (λ entry inside. (fit_member (EntryFits script.shape (length script.calls) history.lock) history.entries fit.entries entry inside).cpu))

  -- Replies

  turn_allowed : (x : Drawn) → IsAmong x (ordered kept.histories) → IsAllowed script.shape x.entry.cpu x.entry.part
  turn_allowed x there =
      let found = flat_among drawn_in x kept.histories (ordered_all kept.histories x there) in
      let its = map_among (λ (entry : Entry). record { lock = found.0.lock; entry = entry }) x found.0.entries found.2 in
      let legal : IsLegal script.shape found.0.lock found.0.entries = among_all (λ (history : LockHistory). IsLegal script.shape history.lock history.entries) found.0 kept.histories parts.histories found.1 in
      subst (λ (w : Drawn). IsAllowed script.shape w.entry.cpu w.entry.part) its.2 (allowed_at script.shape _ found.0.entries legal its.0 its.1)

  own : OnOwnCpus script kept
  own = own_cpus script kept formed well parts.strands ticketed parts.calls

  call_allowed : (place : ℕ) (call : Call) → slice_get script.calls place ≡ Some call → AreAllowedThere script.shape call.cpu (turns_of (map (at_of kept.histories) (drawn_of (suc place) (ordered kept.histories))))
  call_allowed place call called turn there =
      let found = map_among turn_of turn (drawn_of (suc place) (ordered kept.histories)) (subst (λ (l : List Turn). IsAmong turn l) (turns_at kept.histories (drawn_of (suc place) (ordered kept.histories))) there) in
      let inside = (filter_among (λ (drawn : Drawn). eqb drawn.entry.call (suc place)) found.0 (ordered kept.histories) found.1).0 in
      subst (λ (t : Turn). IsAllowed script.shape call.cpu t.part) found.2
      (subst (λ (cpu : ℕ). IsAllowed script.shape cpu found.0.entry.part) (on_cpu script kept well ticketed own place call called found.0 found.1) (turn_allowed found.0 inside))

  answer_at : (place : ℕ) (call : Call) (reply : Reply) → slice_get script.calls place ≡ Some call → slice_get kept.replies place ≡ Some reply → MayAnswer script.shape call.verb reply
  answer_at place call reply called answered =
      by (strand_at script kept well ticketed (strands_are script kept formed well parts.strands ticketed parts.calls) (phase_of script.cuts (suc place)) call.cpu (number_phase script formed (suc place))
      (all_at (IsCallOn script.shape) script.calls formed.calls place call called).cpu)
    where
      by : StrandIs kept (phase_of script.cuts (suc place)) call.cpu → MayAnswer script.shape call.verb reply
      by its =
          let made = joined_call script kept formed well parts.strands ticketed parts.calls its.place its.strand its.at place call reply called answered (sym its.phase_is) its.has in
          let all : made.turns ≡ map (at_of kept.histories) (drawn_of (suc place) (ordered kept.histories)) =
          turns_by script kept well ticketed (strands_are script kept formed well parts.strands ticketed parts.calls) its.place its.strand its.at (suc place) call.cpu (omega arith) (sym its.phase_is) its.has
          (on_cpu script kept well ticketed own place call called) made.turns made.names in
          may_answer script.shape call.cpu (spare call.cpu (suc place)) call.verb made.turns reply made.trace
          (subst (λ (l : List TurnAt). AreAllowedThere script.shape call.cpu (turns_of l)) (sym all) (call_allowed place call called))
          (fit_reply script.shape script.calls kept.replies well.replies place call reply called answered)

  pub makes_record : IsRecord script kept
  makes_record = record {
    locks = well.locks;
    legal = parts.histories;
    on_cpus = on_cpus_is;
    one_each = parts.phases.one_each;
    first = parts.phases.first;
    in_phases = parts.phases.in_phases;
    strand_of = parts.strands.strand_of;
    in_strand = parts.strands.in_strand;
    cpus_are = parts.strands.cpus_are;
    steps = parts.strands.steps;
    spares = λ p cpu. spare cpu (suc (start p));
    first_spares = λ cpu. at_first script kept well ticketed own cpu;
    last_spares = λ cpu.
        ap (λ (k : ℕ). spare cpu (suc k)) (all_done script formed)
        ∙ (sym (last_is script kept formed well ticketed own (rise script kept formed well parts.strands ticketed parts.calls) cpu)
        ∙ last_are script kept formed well ticketed own (rise script kept formed well parts.strands ticketed parts.calls) (λ c real. sym (last_is script kept formed well ticketed own (rise script kept formed well parts.strands ticketed parts.calls) c) ∙ parts.spares c real) cpu);
    calls_are = λ n strand at. calls_are script kept formed well parts.strands ticketed parts.calls n strand at;
    replies = each_answered script.shape script.calls kept.replies (replies_many script kept formed well parts.strands ticketed parts.calls) answer_at;
    contents = parts.contents;
    finals = parts.finals;
    marked = marked_is;
    tickets = ticketed;
  }
