-- Each call of a record is answered by the one map at its point.
use Rattle.std.proofs.Common.{◌≡◌, ℕ, zero, suc, ◌+◌, ◌-◌, ◌<◌, ◌≤◌, Bool, true, false, eqb, List, [], ◌∷◌, ◌++◌, length, drop, get_or, Option, None, Some, refl, ap, sym, ◌∙◌, subst, arith, inl, inr, ◌⊎◌, ⊎_elim, map}
use Rattle.std.specs.Prelude.{filter, slice_get, option_to_list, MatchBool, MatchOption}
use Rattle.std.specs.List.{range_with_len}
use Rattle.std.proofs.lemmas.Bool.{eq-eqb}
use Rattle.std.proofs.lemmas.Grind.{flat_map-append}
use Rattle.std.proofs.lemmas.Option.{none-some, same_Some, slice_get_within, get_or_from_slice_get}
use Rattle.map_types.specs.declared.attr.Shape.{Shape}
use Rattle.map_types.specs.declared.call.Call.{Call}
use Rattle.map_types.specs.declared.kind.DomainId.{DomainId}
use Rattle.map_types.specs.declared.call.Verb.{Verb}
use Rattle.map_types.specs.declared.call.Verb.TheVariants as verbs
use Rattle.map_types.specs.declared.reply.Reply.{Reply}
use Rattle.map_types.specs.ElementLists.{put}
use Rattle.map_script.specs.declared.script.Script.{Script}
use Rattle.map_report.specs.declared.record.RunRecord.{RunRecord}
use Rattle.map_report.specs.Record.{IsRecord, IsConcatenation, IsCallOf, EachAnswered, MayAnswer, has_cpu}
use Rattle.map_report.proofs.CutLemmas.{Rise, cuts_rise}
use Rattle.place_words.specs.Handing.{StopsAt}
use Rattle.place_words.specs.declared.history.LockHistory.{LockHistory}
use Rattle.place_words.specs.declared.history.Strand.{Strand}
use Rattle.place_words.specs.declared.history.StrandStep.{StrandStep}
use Rattle.place_words.specs.Interleaving.{Drawn, turn_of}
use Rattle.place_words.specs.Named.{NameAll, entries_of}
use Rattle.place_words.specs.Phases.{phase_of, phase_count, calls_before, of_phase}
use Rattle.place_words.specs.Tickets.{AscendIn, ticket_at, tickets_of}
use Rattle.place_words.specs.Traces.{IsTrace}
use Rattle.place_words.specs.Turns.{Turn, TurnAt, turns_of}
use Rattle.place_words.specs.Walks.{spare_left, updates_of, deletes_of}
use Rattle.turn_order.specs.Ordered.{ordered}
use Rattle.turn_order.specs.OrderLaws.{turn_count}
use Rattle.turn_order.proofs.Members.{IsAmong, among_front, among_back, among_filter, append_among, contains_among, map_among, among_all, place_among}
use Rattle.turn_order.proofs.InOrder.{ascend_filter}
use Rattle.turn_order.proofs.TicketOrder.{among_range, ordered_ascend}
use Rattle.record_shape.proofs.ByPlaces.{at_taken, at_dropped}
use Rattle.serial_laws.specs.Served.{SuitsItsMap}
use Rattle.step_check.proofs.InRecords.{any_here, cpu_within, of_strand, phase_within}
use Rattle.step_check.proofs.PlacedTurns.{at_of}
use Rattle.step_check.proofs.RecordLocks.{record_once, record_apart, record_lock, record_ascend}
use Rattle.step_check.proofs.StepTurns.{drawn_at, drawn_by, IsOf, named, named_of}
use Rattle.step_check.proofs.StrandCalls.{HasCall, call_found, is_call}
use Rattle.step_check.proofs.StrandOrder.{in_strand, is_of_strand, strand_has, strand_is}
use Rattle.one_map.specs.Answers.{CallIsAnswered, HasPoint, IsAnsweredOnce}
use Rattle.one_map.specs.CallTurns.{IsOfCall, IsTurnOf}
use Rattle.one_map.specs.Laws.{IsOneMap}
use Rattle.one_map.proofs.CallPlaces.{InPhase, its_phase, at_phase}
use Rattle.one_map.proofs.InRecord.{record_is_one_map}
use Rattle.one_map.proofs.Asides.{AreAside, HaveOne, aside_among, same_one, turn_among}
use Rattle.one_map.proofs.BatchPoints.{AreLeft, Rises, no_turn, rises_first, rises_later, rises_of, writes_answered}
use Rattle.one_map.proofs.KeyPoints.{IsMade, IsAnsweredBy, key_answered}
use Rattle.one_map.proofs.NextPoints.{next_answered}
use Rattle.one_map.proofs.VerbTurns.{each_such, trace_such}
use Rattle.one_map.proofs.WalkPoints.{read_told, handing_told}
use Rattle.one_map.proofs.WholeWalks.{read_whole, handing_whole}

-- One call of a strand

pub record CallThere (shape : Shape) (histories : List LockHistory) (number : ℕ) (call : Call) (reply : Reply) (steps : List StrandStep) : Type 0 where
  pub mine : List StrandStep
  pub its : List TurnAt
  pub spare : Option ℕ
  pub is_call : IsCallOf shape histories number call reply spare mine its
  pub inside : (x : Drawn) → IsAmong x (drawn_by histories mine) → IsAmong x (drawn_by histories steps)
  -- and these are all of the call
  pub every : (x : Drawn) → IsAmong x (drawn_by histories steps) → x.entry.call ≡ number → IsAmong x (drawn_by histories mine)
  pub rise : Rises (drawn_by histories steps) → Rises (drawn_by histories mine)

module _ (shape : Shape) (histories : List LockHistory) (n : ℕ) (ascend : (lock : DomainId) → AscendIn 0 (tickets_of (entries_of histories lock)) n) (cpus : List ℕ) where
  joined : (mine rest : List StrandStep) → drawn_by histories (mine ++ rest) ≡ drawn_by histories mine ++ drawn_by histories rest
  joined mine rest = flat_map-append (λ (step : StrandStep). option_to_list (drawn_at histories step)) mine rest

  in_part : (mine rest steps : List StrandStep) → steps ≡ mine ++ rest → (x : Drawn) → IsAmong x (drawn_by histories steps) → IsAmong x (drawn_by histories mine) ⊎ IsAmong x (drawn_by histories rest)
  in_part mine rest steps is x there =
      append_among x (drawn_by histories mine) (drawn_by histories rest) (subst (λ (l : List Drawn). IsAmong x l) (joined mine rest) (subst (λ (l : List StrandStep). IsAmong x (drawn_by histories l)) is there))

  parts_rise : (mine rest steps : List StrandStep) → steps ≡ mine ++ rest → Rises (drawn_by histories steps) → Rises (drawn_by histories mine ++ drawn_by histories rest)
  parts_rise mine rest steps is all = subst (λ (l : List Drawn). Rises l) (joined mine rest) (subst (λ (l : List StrandStep). Rises (drawn_by histories l)) is all)

  further : (mine rest steps : List StrandStep) → steps ≡ mine ++ rest → (number : ℕ) (call : Call) (reply : Reply) → ((x : Drawn) → IsAmong x (drawn_by histories mine) → x.entry.call ≡ number → ⊥)
      → CallThere shape histories number call reply rest → CallThere shape histories number call reply steps
  further mine rest steps is number call reply others found = record {
    mine = found.mine;
    its = found.its;
    spare = found.spare;
    is_call = found.is_call;
    inside = λ x there.
        subst (λ (l : List StrandStep). IsAmong x (drawn_by histories l)) (sym is)
        (subst (λ (l : List Drawn). IsAmong x l) (sym (joined mine rest)) (among_back x (drawn_by histories mine) (drawn_by histories rest) (found.inside x there)));
    every = λ x there same. ⊎_elim (λ (here : IsAmong x (drawn_by histories mine)). absurd (others x here same)) (λ (later : IsAmong x (drawn_by histories rest)). found.every x later same) (in_part mine rest steps is x there);
    rise = λ all. found.rise (rises_later (drawn_by histories mine) (drawn_by histories rest) (parts_rise mine rest steps is all));
  }

  pub call_there : (first : ℕ) (calls : List Call) (replies : List Reply) (spares last : ℕ → Option ℕ) (steps : List StrandStep) → IsConcatenation shape histories cpus first calls replies spares last steps
      → (j : ℕ) (call : Call) (reply : Reply) → slice_get calls j ≡ Some call → slice_get replies j ≡ Some reply → has_cpu call.cpu cpus ≡ true → CallThere shape histories (first + j) call reply steps
  call_there first [] replies spares last steps are j call reply at at_reply has = absurd (none-some call at)
  call_there first (c ∷ calls) [] spares last steps are j call reply at at_reply has = absurd are
  call_there first (c ∷ calls) (r ∷ replies) spares last steps are zero call reply at at_reply has =
      let one : c ≡ call = same_Some c call at in
      let same : r ≡ reply = same_Some r reply at_reply in
      let number : first ≡ first + 0 = omega arith in
      subst (λ (k : ℕ). CallThere shape histories k call reply steps) number
      (subst (λ (q : Call). CallThere shape histories first q reply steps) one
      (subst (λ (q : Reply). CallThere shape histories first c q steps) same
      (by (has_cpu c.cpu cpus) (subst (λ (q : Call). has_cpu q.cpu cpus ≡ true) (sym one) has) are)))
    where
      by : (b : Bool) → b ≡ true
          → MatchBool b
          ((mine : List StrandStep) × (rest : List StrandStep) × (turns : List TurnAt) × (steps ≡ mine ++ rest)
          × IsCallOf shape histories first c r (spares c.cpu) mine turns
          × IsConcatenation shape histories cpus (suc first) calls replies (put spares c.cpu (spare_left shape (spares c.cpu) turns)) last rest)
          (IsConcatenation shape histories cpus (suc first) calls replies spares last steps)
          → CallThere shape histories first c r steps
      by true is whole = record {
        mine = whole.0;
        its = whole.2;
        spare = spares c.cpu;
        is_call = whole.4;
        inside = λ x there.
            subst (λ (l : List StrandStep). IsAmong x (drawn_by histories l)) (sym whole.3)
            (subst (λ (l : List Drawn). IsAmong x l) (sym (joined whole.0 whole.1)) (among_front x (drawn_by histories whole.0) (drawn_by histories whole.1) there));
        every = λ x there same. ⊎_elim (λ (here : IsAmong x (drawn_by histories whole.0)). here)
            (λ (later : IsAmong x (drawn_by histories whole.1)).
            let has = call_found shape histories n ascend cpus (suc first) calls replies (put spares c.cpu (spare_left shape (spares c.cpu) whole.2)) last whole.1 whole.5 x later in
            absurd (omega (arith, has.number_is, same)))
            (in_part whole.0 whole.1 steps whole.3 x there);
        rise = λ all. rises_first (drawn_by histories whole.0) (drawn_by histories whole.1) (parts_rise whole.0 whole.1 steps whole.3 all);
      }
      by false is whole = absurd cc
  call_there first (c ∷ calls) (r ∷ replies) spares last steps are (suc j) call reply at at_reply has =
      let number : suc first + j ≡ first + suc j = omega arith in
      subst (λ (k : ℕ). CallThere shape histories k call reply steps) number
      (by (has_cpu c.cpu cpus) are (λ now rest more. call_there (suc first) calls replies now last rest more j call reply at at_reply has))
    where
      by : (b : Bool)
          → MatchBool b
          ((mine : List StrandStep) × (rest : List StrandStep) × (turns : List TurnAt) × (steps ≡ mine ++ rest)
          × IsCallOf shape histories first c r (spares c.cpu) mine turns
          × IsConcatenation shape histories cpus (suc first) calls replies (put spares c.cpu (spare_left shape (spares c.cpu) turns)) last rest)
          (IsConcatenation shape histories cpus (suc first) calls replies spares last steps)
          → ((now : ℕ → Option ℕ) (rest : List StrandStep) → IsConcatenation shape histories cpus (suc first) calls replies now last rest → CallThere shape histories (suc first + j) call reply rest)
          → CallThere shape histories (suc first + j) call reply steps
      by true whole found =
          further whole.0 whole.1 steps whole.3 (suc first + j) call reply
          (λ x here same. let of = named_of histories n ascend c.cpu first whole.0 whole.2 whole.4.names x here in absurd (omega (arith, of.call_is, same)))
          (found (put spares c.cpu (spare_left shape (spares c.cpu) whole.2)) whole.1 whole.5)
      by false whole found = found spares steps whole

-- Any call by its trace

either : (b : Bool) {P Q R S : Type 0} → MatchBool b P Q → (P → R) → (Q → S) → MatchBool b R S
either true may hit miss = hit may
either false may hit miss = miss may

abbrev Anywhere : Drawn → Type 0
Anywhere drawn = Unit {0}

pub call_answered : (shape : Shape) (histories : List LockHistory) (turns : List Drawn) (whole : IsOneMap shape turns) (number cpu : ℕ) (spare : Option ℕ) (verb : Verb) (its : List TurnAt) (reply : Reply) → IsTrace shape cpu spare verb its reply
    → MayAnswer shape verb reply → ((turn : Turn) → IsAmong turn (turns_of its) → IsMade turns number cpu turn)
    → ((verb : Verb) → IsAnsweredBy shape turns whole number cpu Anywhere verb reply (turns_of its) → IsAnsweredOnce shape turns number cpu verb reply)
    → (mine : List Drawn) → map (at_of histories) mine ≡ its → AreLeft shape histories turns whole number cpu 0 mine → CallIsAnswered shape turns number cpu verb reply
call_answered shape histories turns whole number cpu spare (verbs.Lookup side key) its reply trace may all once mine are left =
    once (verbs.Lookup side key) (key_answered shape turns whole number cpu Anywhere spare (verbs.Lookup side key) its reply trace (λ turn there. (all turn there, tt)))
call_answered shape histories turns whole number cpu spare (verbs.Update side flags key value) its reply trace may all once mine are left =
    once (verbs.Update side flags key value) (key_answered shape turns whole number cpu Anywhere spare (verbs.Update side flags key value) its reply trace (λ turn there. (all turn there, tt)))
call_answered shape histories turns whole number cpu spare (verbs.Delete key) its reply trace may all once mine are left =
    once (verbs.Delete key) (key_answered shape turns whole number cpu Anywhere spare (verbs.Delete key) its reply trace (λ turn there. (all turn there, tt)))
call_answered shape histories turns whole number cpu spare (verbs.Take key) its reply trace may all once mine are left =
    once (verbs.Take key) (key_answered shape turns whole number cpu Anywhere spare (verbs.Take key) its reply trace (λ turn there. (all turn there, tt)))
call_answered shape histories turns whole number cpu spare (verbs.Next key) its reply trace may all once mine are left = next_answered shape turns whole number cpu key (turns_of its) reply trace all
call_answered shape histories turns whole number cpu spare (verbs.BatchRead remove count start flags) its reply trace may all once mine are left = (may, read_told shape turns whole number cpu remove count start flags its reply trace all, read_whole shape turns whole number cpu remove count start flags its reply trace all)
call_answered shape histories turns whole number cpu spare (verbs.BatchUpdate flags pairs) its reply trace may all once mine are left =
    either (eqb flags 0) trace (λ writes. writes_answered shape histories turns whole number cpu spare (updates_of pairs) 0 its reply writes 0 mine are left) (λ refused. (refused.1, no_turn shape histories turns whole number cpu mine left (are ∙ refused.0)))
call_answered shape histories turns whole number cpu spare (verbs.BatchDelete flags keys) its reply trace may all once mine are left =
    either (eqb flags 0) trace (λ writes. writes_answered shape histories turns whole number cpu spare (deletes_of keys) 0 its reply writes 0 mine are left) (λ refused. (refused.1, no_turn shape histories turns whole number cpu mine left (are ∙ refused.0)))
call_answered shape histories turns whole number cpu spare (verbs.Each flags stop) its reply trace may all once mine are left = (may, handing_told shape turns whole number cpu (StopsAt stop) flags (turns_of its) reply trace all, handing_whole shape turns whole number cpu (StopsAt stop) flags (turns_of its) reply trace all)

replies_counted : (shape : Shape) (calls : List Call) (replies : List Reply) → EachAnswered shape calls replies → length replies ≡ length calls
replies_counted shape [] [] each = refl
replies_counted shape [] (reply ∷ replies) each = absurd each
replies_counted shape (call ∷ calls) [] each = absurd each
replies_counted shape (call ∷ calls) (reply ∷ replies) each = ap suc (replies_counted shape calls replies each.1)

-- a call's reply is one that its verb may have
may_answer : (shape : Shape) (calls : List Call) (replies : List Reply) → EachAnswered shape calls replies → (n : ℕ) (call : Call) (reply : Reply) → slice_get calls n ≡ Some call → slice_get replies n ≡ Some reply
    → MayAnswer shape call.verb reply
may_answer shape [] replies each n call reply at at_reply = absurd (none-some call at)
may_answer shape (c ∷ calls) [] each n call reply at at_reply = absurd each
may_answer shape (c ∷ calls) (r ∷ replies) each zero call reply at at_reply =
    subst (λ (q : Call). MayAnswer shape q.verb reply) (same_Some c call at) (subst (λ (q : Reply). MayAnswer shape c.verb q) (same_Some r reply at_reply) each.0)
may_answer shape (c ∷ calls) (r ∷ replies) each (suc n) call reply at at_reply = may_answer shape calls replies each.1 n call reply at at_reply

-- A call on one key, by all turns with its number

module _ (shape : Shape) (histories : List LockHistory) (turns : List Drawn) (whole : IsOneMap shape turns) (number cpu : ℕ) (mine : List Drawn) (every : (x : Drawn) → IsAmong x turns → x.entry.call ≡ number → IsAmong x mine) where
  answered_once : (verb : Verb) (reply : Reply) (its : List TurnAt) → its ≡ map (at_of histories) mine → IsAnsweredBy shape turns whole number cpu Anywhere verb reply (turns_of its) → IsAnsweredOnce shape turns number cpu verb reply
  answered_once verb reply its are (inl unseen) =
      inl (
        unseen.0,
        λ other there call_is.
            aside_among (turns_of (map (at_of histories) mine)) (subst (λ (l : List TurnAt). AreAside (turns_of l)) are unseen.1) (turn_of other)
            (turn_among histories other mine (every other (contains_among other turns there) call_is)),
      )
  answered_once verb reply its are (inr answered) =
      let point : HasPoint shape turns number cpu verb reply = answered.0.0 in
      let stands : IsAmong point.drawn turns = subst (λ (l : List Drawn). IsAmong point.drawn l) (sym point.turns_are) (among_back point.drawn point.before (point.drawn ∷ point.later) (inl refl)) in
      inr (
        point,
        λ other there call_is on.
            same_one histories mine (subst (λ (l : List TurnAt). HaveOne (turns_of l)) are answered.1) other point.drawn
            (every other (contains_among other turns there) call_is) (every point.drawn stands point.call_is) on point.on_keys,
      )

-- In a record

module _ (script : Script) (kept : RunRecord) (suits : SuitsItsMap script) (record_is : IsRecord script kept) where
  abbrev turns : List Drawn
  turns = ordered kept.histories

  made : (n : ℕ) (strand : Strand) → slice_get kept.strands n ≡ Some strand → (number cpu : ℕ) (mine : List StrandStep) (its : List TurnAt) → NameAll kept.histories cpu number mine its
      → ((x : Drawn) → IsAmong x (drawn_by kept.histories mine) → IsAmong x (drawn_by kept.histories strand.steps)) → (turn : Turn) → IsAmong turn (turns_of its) → IsMade turns number cpu turn
  made n strand at number cpu mine its names inside turn there =
      let one = map_among (λ (at : TurnAt). at.turn) turn its there in
      let are = named kept.histories (turn_count kept.histories) (record_ascend script kept record_is) cpu number mine its names in
      let drawn = map_among (at_of kept.histories) one.0 (drawn_by kept.histories mine) (subst (λ (l : List TurnAt). IsAmong one.0 l) are one.1) in
      let of : IsOf cpu number drawn.0 = named_of kept.histories (turn_count kept.histories) (record_ascend script kept record_is) cpu number mine its names drawn.0 drawn.1 in
      let stands = is_of_strand kept.histories (record_once script kept record_is) (record_apart script kept record_is) script.cuts strand.phase strand.cpus strand.steps
      (λ lock is. record_is.steps n strand at lock (record_lock script kept record_is lock is)) drawn.0 (inside drawn.0 drawn.1) in
      record {
        drawn = drawn.0;
        stands = stands.0;
        turn_is = ap (λ (t : TurnAt). t.turn) drawn.2 ∙ one.2;
        call_is = of.call_is;
        cpu_is = of.cpu_is;
      }

  some_strand : (phase : ℕ) (found : Option Strand) → MatchOption found ⊥ (λ (strand : Strand). strand.phase ≡ phase) → (strand : Strand) × (found ≡ Some strand) × (strand.phase ≡ phase)
  some_strand phase None is = absurd is
  some_strand phase (Some strand) is = (strand, refl, is)

  -- the strand of a phase and a CPU
  record StrandAt (p cpu : ℕ) : Type 0 where
    number : ℕ
    strand : Strand
    at : slice_get kept.strands number ≡ Some strand
    phase_is : strand.phase ≡ p
    has : has_cpu cpu strand.cpus ≡ true

  strand_at : (p cpu : ℕ) → p < phase_count script.cuts → cpu < script.shape.cpus → StrandAt p cpu
  strand_at p cpu few within =
      let number : ℕ = record_is.strand_of p cpu in
      let some = some_strand p (slice_get kept.strands number) (record_is.in_strand p cpu few within) in
      record {
        number = number;
        strand = some.0;
        at = some.1;
        phase_is = some.2;
        has = subst (λ (cpus : List ℕ). has_cpu cpu cpus ≡ true) (sym (record_is.cpus_are number some.0 some.1).1)
            (any_here cpu (filter (λ c. eqb (record_is.strand_of some.0.phase c) number) (range_with_len 0 script.shape.cpus))
            (among_filter (λ c. eqb (record_is.strand_of some.0.phase c) number) cpu (range_with_len 0 script.shape.cpus)
            (eq-eqb (record_is.strand_of some.0.phase cpu) number (ap (λ (q : ℕ). record_is.strand_of q cpu) some.2))
            (among_range cpu 0 script.shape.cpus (omega arith) (omega (arith, within)))));
      }

  in_strand_of : (p cpu : ℕ) (its : StrandAt p cpu) (x : Drawn) → IsAmong x turns → phase_of script.cuts x.entry.call ≡ p → x.entry.cpu ≡ cpu → IsAmong x (drawn_by kept.histories its.strand.steps)
  in_strand_of p cpu its x there phase cpu_is =
      strand_has kept.histories (record_once script kept record_is) (record_apart script kept record_is) script.cuts its.strand.phase its.strand.cpus its.strand.steps
      (λ lock one. record_is.steps its.number its.strand its.at lock (record_lock script kept record_is lock one)) x there
      (of_strand script kept record_is its.strand x (its.phase_is ∙ sym phase) (subst (λ (c : ℕ). has_cpu c its.strand.cpus ≡ true) (sym cpu_is) its.has))

  stands_of : (p cpu : ℕ) (its : StrandAt p cpu) (x : Drawn) → IsAmong x (drawn_by kept.histories its.strand.steps) → IsAmong x turns
  stands_of p cpu its x there =
      (is_of_strand kept.histories (record_once script kept record_is) (record_apart script kept record_is) script.cuts its.strand.phase its.strand.cpus its.strand.steps
      (λ lock one. record_is.steps its.number its.strand its.at lock (record_lock script kept record_is lock one)) x there).0

  strand_rises : (p cpu : ℕ) (its : StrandAt p cpu) → Rises (drawn_by kept.histories its.strand.steps)
  strand_rises p cpu its =
      subst (λ (l : List Drawn). Rises l)
      (sym (strand_is kept.histories (record_once script kept record_is) (record_apart script kept record_is) script.cuts its.strand.phase its.strand.cpus its.strand.steps
      (λ lock one. record_is.steps its.number its.strand its.at lock (record_lock script kept record_is lock one))
      (among_all (λ (s : Strand). AscendIn 0 (map (ticket_at kept.histories) s.steps) (turn_count kept.histories)) its.strand kept.strands record_is.tickets.in_strands (place_among its.strand kept.strands its.number its.at))))
      (rises_of 0 (filter (λ (x : Drawn). in_strand script.cuts its.strand.phase its.strand.cpus x.entry) turns) (turn_count kept.histories)
      (ascend_filter (λ (x : Drawn). in_strand script.cuts its.strand.phase its.strand.cpus x.entry) 0 turns (turn_count kept.histories) (ordered_ascend kept.histories (record_once script kept record_is))))

  cpu_in : (place : ℕ) (call : Call) → slice_get script.calls place ≡ Some call → call.cpu < script.shape.cpus
  cpu_in place call at =
      let within = slice_get_within script.calls place call at in
      let one : get_or script.calls place call ≡ call = get_or_from_slice_get script.calls place call call at in
      subst (λ (c : Call). c.cpu < script.shape.cpus) one (suits.calls place call within).cpu

  abbrev all : ℕ
  all = length script.calls

  rises : Rise 0 script.cuts all
  rises = cuts_rise 0 script.cuts all (omega arith) suits.phases.rise

  -- the turns with a call's number are of its CPU
  its_cpu : (n : ℕ) (call : Call) → slice_get script.calls n ≡ Some call → (x : Drawn) → IsAmong x turns → x.entry.call ≡ suc n → x.entry.cpu ≡ call.cpu
  its_cpu n call at_call x there same =
      let in_phase : InPhase script.cuts all rises n = its_phase script.cuts all rises n (slice_get_within script.calls n call at_call) in
      let other : StrandAt (phase_of script.cuts (suc n)) x.entry.cpu = strand_at (phase_of script.cuts (suc n)) x.entry.cpu in_phase.below (cpu_within script kept record_is x there) in
      by in_phase.m in_phase.place_is in_phase.within other (in_strand_of (phase_of script.cuts (suc n)) x.entry.cpu other x there (ap (phase_of script.cuts) same) refl)
    where
      by : (m : ℕ) → n ≡ calls_before script.cuts (length script.calls) (phase_of script.cuts (suc n)) + m → suc n ≤ calls_before script.cuts (length script.calls) (suc (phase_of script.cuts (suc n)))
          → (other : StrandAt (phase_of script.cuts (suc n)) x.entry.cpu) → IsAmong x (drawn_by kept.histories other.strand.steps) → x.entry.cpu ≡ call.cpu
      by m place within other inside =
          let its : List Call = of_phase script.cuts other.strand.phase script.calls in
          let has =
          call_found script.shape kept.histories (turn_count kept.histories) (record_ascend script kept record_is) other.strand.cpus (suc (calls_before script.cuts (length script.calls) other.strand.phase)) its
          (of_phase script.cuts other.strand.phase kept.replies) (record_is.spares other.strand.phase) (record_is.spares (suc other.strand.phase)) other.strand.steps (record_is.calls_are other.number other.strand other.at) x inside in
          let starts : calls_before script.cuts (length script.calls) other.strand.phase ≡ calls_before script.cuts (length script.calls) (phase_of script.cuts (suc n)) = ap (calls_before script.cuts (length script.calls)) other.phase_is in
          let at_is : has.at ≡ m = omega (arith, has.number_is, same, starts, place) in
          let call_at : slice_get its m ≡ Some call =
          ap (λ (q : ℕ). slice_get (of_phase script.cuts q script.calls) m) other.phase_is ∙ at_phase script.cuts all rises script.calls refl (phase_of script.cuts (suc n)) n m call place within at_call in
          has.cpu_is ∙ ap (λ (c : Call). c.cpu) (same_Some has.call call (sym has.call_is ∙ (ap (slice_get its) at_is ∙ call_at)))

  -- each turn is of a call
  pub each_of_call : (x : Drawn) → IsAmong x turns → IsOfCall script.calls x
  each_of_call x there = by (strand_at (phase_of script.cuts x.entry.call) x.entry.cpu (phase_within script.cuts x.entry.call) (cpu_within script kept record_is x there))
    where
      by : StrandAt (phase_of script.cuts x.entry.call) x.entry.cpu → IsOfCall script.calls x
      by its =
          let strand : Strand = its.strand in
          let first : ℕ = calls_before script.cuts (length script.calls) strand.phase in
          let has : HasCall script.shape kept.histories (suc first) (of_phase script.cuts strand.phase script.calls) strand.steps x =
          call_found script.shape kept.histories (turn_count kept.histories) (record_ascend script kept record_is) strand.cpus (suc first) (of_phase script.cuts strand.phase script.calls)
          (of_phase script.cuts strand.phase kept.replies) (record_is.spares strand.phase) (record_is.spares (suc strand.phase)) strand.steps (record_is.calls_are its.number strand its.at) x
          (in_strand_of (phase_of script.cuts x.entry.call) x.entry.cpu its x there refl refl) in
          record {
            place = first + has.at;
            call = has.call;
            call_is = sym (at_dropped first script.calls has.at)
                ∙ at_taken (calls_before script.cuts (length script.calls) (suc strand.phase) - first) (drop first script.calls) has.at has.call has.call_is;
            number_is = omega (arith, has.number_is);
            cpu_is = has.cpu_is;
            part_is = each_such (IsTurnOf has.call.verb) (turns_of (map (at_of kept.histories) (filter (is_call x.entry.call) (drawn_by kept.histories strand.steps))))
                (trace_such script.shape has.call.cpu has.spare has.call.verb (map (at_of kept.histories) (filter (is_call x.entry.call) (drawn_by kept.histories strand.steps))) has.reply has.trace)
                (turn_of x)
                (turn_among kept.histories x (filter (is_call x.entry.call) (drawn_by kept.histories strand.steps))
                (among_filter (is_call x.entry.call) x (drawn_by kept.histories strand.steps) (eq-eqb x.entry.call x.entry.call refl)
                (in_strand_of (phase_of script.cuts x.entry.call) x.entry.cpu its x there refl refl)));
          }

  pub each_answered : (n : ℕ) (call : Call) (reply : Reply) → slice_get script.calls n ≡ Some call → slice_get kept.replies n ≡ Some reply
      → CallIsAnswered script.shape turns (suc n) call.cpu call.verb reply
  each_answered n call reply at_call at_reply =
      let in_phase : InPhase script.cuts all rises n = its_phase script.cuts all rises n (slice_get_within script.calls n call at_call) in
      by (phase_of script.cuts (suc n)) refl in_phase.m in_phase.place_is in_phase.within (strand_at (phase_of script.cuts (suc n)) call.cpu in_phase.below (cpu_in n call at_call))
    where
      by : (p : ℕ) → phase_of script.cuts (suc n) ≡ p → (m : ℕ) → n ≡ calls_before script.cuts (length script.calls) p + m → suc n ≤ calls_before script.cuts (length script.calls) (suc p) → StrandAt p call.cpu
          → CallIsAnswered script.shape turns (suc n) call.cpu call.verb reply
      by p p_is m place within its =
          let strand : Strand = its.strand in
          let first : ℕ = suc (calls_before script.cuts (length script.calls) strand.phase) in
          let call_at : slice_get (of_phase script.cuts strand.phase script.calls) m ≡ Some call =
          ap (λ (q : ℕ). slice_get (of_phase script.cuts q script.calls) m) its.phase_is ∙ at_phase script.cuts all rises script.calls refl p n m call place within at_call in
          let reply_at : slice_get (of_phase script.cuts strand.phase kept.replies) m ≡ Some reply =
          ap (λ (q : ℕ). slice_get (of_phase script.cuts q kept.replies) m) its.phase_is
          ∙ at_phase script.cuts all rises kept.replies (replies_counted script.shape script.calls kept.replies record_is.replies) p n m reply place within at_reply in
          let found : CallThere script.shape kept.histories (first + m) call reply strand.steps =
          call_there script.shape kept.histories (turn_count kept.histories) (record_ascend script kept record_is) strand.cpus first (of_phase script.cuts strand.phase script.calls) (of_phase script.cuts strand.phase kept.replies)
          (record_is.spares strand.phase) (record_is.spares (suc strand.phase)) strand.steps (record_is.calls_are its.number strand its.at) m call reply call_at reply_at its.has in
          let starts : calls_before script.cuts (length script.calls) strand.phase ≡ calls_before script.cuts (length script.calls) p = ap (calls_before script.cuts (length script.calls)) its.phase_is in
          let same : first + m ≡ suc n = omega (arith, starts, place) in
          let mine : List Drawn = drawn_by kept.histories found.mine in
          let are : found.its ≡ map (at_of kept.histories) mine =
          named kept.histories (turn_count kept.histories) (record_ascend script kept record_is) call.cpu (first + m) found.mine found.its found.is_call.names in
          let every : (x : Drawn) → IsAmong x turns → x.entry.call ≡ first + m → IsAmong x mine =
          λ x there number. found.every x (in_strand_of p call.cpu its x there (ap (phase_of script.cuts) (number ∙ same) ∙ p_is) (its_cpu n call at_call x there (number ∙ same))) number in
          let of = named_of kept.histories (turn_count kept.histories) (record_ascend script kept record_is) call.cpu (first + m) found.mine found.its found.is_call.names in
          subst (λ (k : ℕ). CallIsAnswered script.shape turns k call.cpu call.verb reply) same
          (call_answered script.shape kept.histories turns (record_is_one_map script kept record_is) (first + m) call.cpu found.spare call.verb found.its reply found.is_call.trace
          (may_answer script.shape script.calls kept.replies record_is.replies n call reply at_call at_reply)
          (λ turn there. made its.number strand its.at (first + m) call.cpu found.mine found.its found.is_call.names found.inside turn there)
          (λ verb answered. answered_once script.shape kept.histories turns (record_is_one_map script kept record_is) (first + m) call.cpu mine every verb reply found.its are answered)
          mine (sym are)
          record {
            stand = λ x there. stands_of p call.cpu its x (found.inside x there);
            call_is = λ x there. (of x there).call_is;
            cpu_is = λ x there. (of x there).cpu_is;
            from = λ x there. omega arith;
            every = λ x there number on low. every x there number;
            rise = found.rise (strand_rises p call.cpu its);
          })
