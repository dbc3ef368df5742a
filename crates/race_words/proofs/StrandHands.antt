-- The turns of a strand of a map that doesn't evict: the numbers of their calls never fall, and those of each CPU use what it has in hand,
-- from its spare before the strand to that after it.
use Rattle.std.proofs.Common.{◌≡◌, inl, inr, ℕ, suc, ◌≤◌, Bool, true, false, eqb, List, [], ◌∷◌, ◌++◌, map, Option, None, refl, ap, sym, ◌∙◌, subst, arith}
use Rattle.std.specs.Prelude.{filter, option_to_list, MatchBool}
use Rattle.std.proofs.lemmas.Bool.{eq-eqb, ne_eqb}
use Rattle.std.proofs.lemmas.Grind.{flat_map-append}
use Rattle.std.proofs.lemmas.List.{map-append}
use Rattle.std.proofs.lemmas.List.Elements.{filter-append}
use Rattle.map_types.specs.declared.attr.Shape.{Shape}
use Rattle.map_types.specs.declared.call.Call.{Call}
use Rattle.map_types.specs.declared.kind.DomainId.{DomainId}
use Rattle.map_types.specs.declared.reply.Reply.{Reply}
use Rattle.map_types.specs.ElementLists.{put}
use Rattle.map_types.specs.Kind.{is_lru}
use Rattle.map_types.proofs.RowLemmas.{by_test}
use Rattle.place_words.specs.declared.history.LockHistory.{LockHistory}
use Rattle.place_words.specs.declared.history.StrandStep.{StrandStep}
use Rattle.place_words.specs.Interleaving.{Drawn, turn_of}
use Rattle.place_words.specs.Named.{entries_of}
use Rattle.place_words.specs.Tickets as by_entry
use Rattle.place_words.specs.Tickets.{AscendIn}
use Rattle.place_words.specs.Turns.{Turn, TurnAt, turns_of}
use Rattle.place_words.specs.Walks.{spare_left}
use Rattle.place_words.proofs.ElementLemmas.{put_here, put_else}
use Rattle.map_report.specs.Record.{IsConcatenation, IsCallOf, has_cpu}
use Rattle.turn_order.proofs.Members.{IsAmong}
use Rattle.step_check.proofs.PlacedTurns.{at_of}
use Rattle.step_check.proofs.StepTurns.{drawn_at, drawn_by, IsOf, named, named_of}
use Rattle.step_check.proofs.StrandCalls.{keeps_all, keeps_none}
use Rattle.race_words.proofs.Hands.{hand, HandRuns, hand_both, CallHands, trace_hands, left_is}

-- the turns of a CPU
abbrev pub is_own : ℕ → Drawn → Bool
is_own cpu x = eqb x.entry.cpu cpu

abbrev pub own : ℕ → List Drawn → List Drawn
own cpu turns = filter (is_own cpu) turns

abbrev pub OwnRuns : ℕ → Option ℕ → List Drawn → Option ℕ → Type 0
OwnRuns cpu spare turns last = HandRuns (hand spare None) (map turn_of (own cpu turns)) (hand last None)

pub own_both : (cpu : ℕ) (spare between last : Option ℕ) (xs ys : List Drawn) → OwnRuns cpu spare xs between → OwnRuns cpu between ys last → OwnRuns cpu spare (xs ++ ys) last
own_both cpu spare between last xs ys first second =
    subst (λ (l : List Turn). HandRuns (hand spare None) l (hand last None)) (sym (ap (map turn_of) (filter-append (is_own cpu) xs ys) ∙ map-append turn_of (own cpu xs) (own cpu ys)))
    (hand_both (hand spare None) (hand between None) (hand last None) (map turn_of (own cpu xs)) (map turn_of (own cpu ys)) first second)

-- the numbers of the calls of turns never fall
abbrev pub TurnsRise : ℕ → List Drawn → Type 0
TurnsRise from [] = Unit {0}
TurnsRise from (x ∷ xs) = (from ≤ x.entry.call) × TurnsRise x.entry.call xs

rise_lower : (low from : ℕ) (xs : List Drawn) → low ≤ from → TurnsRise from xs → TurnsRise low xs
rise_lower low from [] less rise = tt
rise_lower low from (x ∷ xs) less rise = let least : from ≤ x.entry.call = rise.0 in (omega (arith, least, less), rise.1)

rise_both : (first : ℕ) (xs ys : List Drawn) → ((x : Drawn) → IsAmong x xs → x.entry.call ≡ first) → TurnsRise (suc first) ys → TurnsRise first (xs ++ ys)
rise_both first [] ys of rise = rise_lower first (suc first) ys (omega arith) rise
rise_both first (x ∷ xs) ys of rise =
    let is : x.entry.call ≡ first = of x (inl refl) in
    (omega (arith, is), subst (λ (n : ℕ). TurnsRise n (xs ++ ys)) (sym is) (rise_both first xs ys (λ y there. of y (inr there)) rise))

joined : (histories : List LockHistory) (mine rest : List StrandStep) → drawn_by histories (mine ++ rest) ≡ drawn_by histories mine ++ drawn_by histories rest
joined histories mine rest = flat_map-append (λ (step : StrandStep). option_to_list (drawn_at histories step)) mine rest

module _ (shape : Shape) (histories : List LockHistory) (n : ℕ) (ascend : (lock : DomainId) → AscendIn 0 (by_entry.tickets_of (entries_of histories lock)) n) where
  pub strand_rises : (cpus : List ℕ) (first : ℕ) (calls : List Call) (replies : List Reply) (spares last : ℕ → Option ℕ) (steps : List StrandStep) → IsConcatenation shape histories cpus first calls replies spares last steps
      → TurnsRise first (drawn_by histories steps)
  strand_rises cpus first [] replies spares last steps are = subst (λ (l : List StrandStep). TurnsRise first (drawn_by histories l)) (sym are.0) tt
  strand_rises cpus first (call ∷ calls) [] spares last steps are = absurd are
  strand_rises cpus first (call ∷ calls) (reply ∷ replies) spares last steps are =
      by (has_cpu call.cpu cpus) are (λ now rest more. strand_rises cpus (suc first) calls replies now last rest more)
    where
      by : (b : Bool)
          → MatchBool b
          ((mine : List StrandStep) × (rest : List StrandStep) × (turns : List TurnAt) × (steps ≡ mine ++ rest)
          × IsCallOf shape histories first call reply (spares call.cpu) mine turns
          × IsConcatenation shape histories cpus (suc first) calls replies (put spares call.cpu (spare_left shape (spares call.cpu) turns)) last rest)
          (IsConcatenation shape histories cpus (suc first) calls replies spares last steps)
          → ((now : ℕ → Option ℕ) (rest : List StrandStep) → IsConcatenation shape histories cpus (suc first) calls replies now last rest → TurnsRise (suc first) (drawn_by histories rest))
          → TurnsRise first (drawn_by histories steps)
      by true whole found =
          let mine : List StrandStep = whole.0 in
          let rest : List StrandStep = whole.1 in
          let turns : List TurnAt = whole.2 in
          subst (λ (l : List Drawn). TurnsRise first l) (sym (ap (drawn_by histories) whole.3 ∙ joined histories mine rest))
          (rise_both first (drawn_by histories mine) (drawn_by histories rest) (λ x there. (named_of histories n ascend call.cpu first mine turns whole.4.names x there).call_is)
          (found (put spares call.cpu (spare_left shape (spares call.cpu) turns)) rest whole.5))
      by false whole found = rise_lower first (suc first) (drawn_by histories steps) (omega arith) (found spares steps whole)

module _ (shape : Shape) (plain : is_lru shape.kind ≡ false) (histories : List LockHistory) (n : ℕ) (ascend : (lock : DomainId) → AscendIn 0 (by_entry.tickets_of (entries_of histories lock)) n) where
  turns_at : (xs : List Drawn) → turns_of (map (at_of histories) xs) ≡ map turn_of xs
  turns_at [] = refl
  turns_at (x ∷ xs) = ap (λ (l : List Turn). turn_of x ∷ l) (turns_at xs)

  module _ (first : ℕ) (call : Call) (reply : Reply) (spares : ℕ → Option ℕ) (mine : List StrandStep) (turns : List TurnAt) (is_call : IsCallOf shape histories first call reply (spares call.cpu) mine turns) where
    of_call : (x : Drawn) → IsAmong x (drawn_by histories mine) → IsOf call.cpu first x
    of_call = named_of histories n ascend call.cpu first mine turns is_call.names

    its_hands : CallHands (spares call.cpu) (turns_of turns)
    its_hands = trace_hands shape plain call.cpu (spares call.cpu) call.verb turns reply is_call.trace

    turns_are : turns_of turns ≡ map turn_of (drawn_by histories mine)
    turns_are = ap turns_of (named histories n ascend call.cpu first mine turns is_call.names) ∙ turns_at (drawn_by histories mine)

    abbrev left : Option ℕ
    left = spare_left shape (spares call.cpu) turns

    call_runs : (cpu : ℕ) → OwnRuns cpu (spares cpu) (drawn_by histories mine) (put spares call.cpu left cpu)
    call_runs cpu = by_test cpu call.cpu (λ _. OwnRuns cpu (spares cpu) (drawn_by histories mine) (put spares call.cpu left cpu))
        (λ same.
        let all : own cpu (drawn_by histories mine) ≡ drawn_by histories mine = keeps_all (is_own cpu) (drawn_by histories mine) (λ x there. eq-eqb x.entry.cpu cpu ((of_call x there).cpu_is ∙ sym same)) in
        let last : put spares call.cpu left cpu ≡ its_hands.last = ap (put spares call.cpu left) same ∙ put_here spares call.cpu left ∙ left_is shape plain (spares call.cpu) turns its_hands in
        subst (λ (o : Option ℕ). OwnRuns cpu (spares cpu) (drawn_by histories mine) o) (sym last)
        (subst (λ (c : ℕ). HandRuns (hand (spares c) None) (map turn_of (own cpu (drawn_by histories mine))) (hand its_hands.last None)) (sym same)
        (subst (λ (l : List Turn). HandRuns (hand (spares call.cpu) None) l (hand its_hands.last None)) (turns_are ∙ ap (map turn_of) (sym all)) its_hands.runs)))
        (λ other.
        let nothing : own cpu (drawn_by histories mine) ≡ [] = keeps_none (is_own cpu) (drawn_by histories mine) (λ x there. ne_eqb x.entry.cpu cpu (λ is. other (sym is ∙ (of_call x there).cpu_is))) in
        subst (λ (l : List Drawn). HandRuns (hand (spares cpu) None) (map turn_of l) (hand (put spares call.cpu left cpu) None)) (sym nothing)
        (ap (λ (o : Option ℕ). hand o None) (sym (put_else spares call.cpu left cpu other))))

  pub strand_hands : (cpus : List ℕ) (first : ℕ) (calls : List Call) (replies : List Reply) (spares last : ℕ → Option ℕ) (steps : List StrandStep) → IsConcatenation shape histories cpus first calls replies spares last steps
      → (cpu : ℕ) → has_cpu cpu cpus ≡ true → OwnRuns cpu (spares cpu) (drawn_by histories steps) (last cpu)
  strand_hands cpus first [] replies spares last steps are cpu has =
      subst (λ (l : List StrandStep). OwnRuns cpu (spares cpu) (drawn_by histories l) (last cpu)) (sym are.0) (ap (λ (o : Option ℕ). hand o None) (sym (are.1 cpu has)))
  strand_hands cpus first (call ∷ calls) [] spares last steps are cpu has = absurd are
  strand_hands cpus first (call ∷ calls) (reply ∷ replies) spares last steps are cpu has =
      by (has_cpu call.cpu cpus) are (λ now rest more. strand_hands cpus (suc first) calls replies now last rest more cpu has)
    where
      by : (b : Bool)
          → MatchBool b
          ((mine : List StrandStep) × (rest : List StrandStep) × (turns : List TurnAt) × (steps ≡ mine ++ rest)
          × IsCallOf shape histories first call reply (spares call.cpu) mine turns
          × IsConcatenation shape histories cpus (suc first) calls replies (put spares call.cpu (spare_left shape (spares call.cpu) turns)) last rest)
          (IsConcatenation shape histories cpus (suc first) calls replies spares last steps)
          → ((now : ℕ → Option ℕ) (rest : List StrandStep) → IsConcatenation shape histories cpus (suc first) calls replies now last rest → OwnRuns cpu (now cpu) (drawn_by histories rest) (last cpu))
          → OwnRuns cpu (spares cpu) (drawn_by histories steps) (last cpu)
      by true whole found =
          let mine : List StrandStep = whole.0 in
          let rest : List StrandStep = whole.1 in
          let turns : List TurnAt = whole.2 in
          let now : ℕ → Option ℕ = put spares call.cpu (spare_left shape (spares call.cpu) turns) in
          subst (λ (l : List Drawn). OwnRuns cpu (spares cpu) l (last cpu)) (sym (ap (drawn_by histories) whole.3 ∙ joined histories mine rest))
          (own_both cpu (spares cpu) (now cpu) (last cpu) (drawn_by histories mine) (drawn_by histories rest) (call_runs first call reply spares mine turns whole.4 cpu) (found now rest whole.5))
      by false whole found = found spares steps whole
