-- Runs of a map that doesn't evict; and of a map of any kind, the tickets of a run's turns, and what they add to each lock's log.
use Rattle.std.proofs.Common.{◌≡◌, ℕ, zero, suc, ◌+◌, Bool, true, false, cond, List, [], ◌∷◌, ◌++◌, length, map, Some, refl, ap, ◌∙◌, sym, subst, arith}
use Rattle.std.specs.List.{range_with_len}
use Rattle.std.proofs.lemmas.List.{append_assoc, append-nil, map-append}
use Rattle.std.proofs.lemmas.List.Elements.{filter-append}
use Rattle.map_types.specs.declared.attr.Shape.{Shape}
use Rattle.map_types.specs.declared.call.Call.{Call}
use Rattle.map_types.specs.declared.kind.DomainId.{DomainId}
use Rattle.map_types.specs.Kind.{is_lru}
use Rattle.map_types.specs.Shape.{HasBounds}
use Rattle.map_types.specs.ElementLists.{put}
use Rattle.map_types.proofs.RowLemmas.{by_test}
use Rattle.place_words.specs.declared.history.Entry.{Entry}
use Rattle.place_words.specs.Histories.{Content}
use Rattle.place_words.specs.Locks.{is_same_lock}
use Rattle.place_words.specs.Logs.{State, lies_in, turned, all_turned, does, after_one, run}
use Rattle.place_words.specs.PlainTraces.{spare_after}
use Rattle.place_words.specs.SerialOrder.{AreDone}
use Rattle.place_words.specs.Turns.{Turn, after_turns}
use Rattle.place_words.proofs.AnyStart.{tickets_after}
use Rattle.place_words.proofs.PlacedContents.{lies_after_all}
use Rattle.place_words.proofs.PlacedLaws.{spares_after}
use Rattle.place_words.specs.Interleaving.{Drawn, tickets_of, entry_of, drawn_on, interleaved, AreEnabled}
use Rattle.core_runs.proofs.AllRuns.{AreServed, plain_call_goes}
use Rattle.core_runs.proofs.CallTurns.{drawn_calls, behind_call, allowed_of_legal, any_cpu, others_spares}
use Rattle.core_runs.proofs.Nests.{AreFrom, drawn, stamped}
use Rattle.core_runs.proofs.OwnNest.{weaker}
use Rattle.core_runs.proofs.PlainGoes.{AreSpares}
use Rattle.core_runs.proofs.PlainRuns.{core_lists}
use Rattle.core_runs.proofs.Tied.{IsTied}

module _ {shape : Shape} (bounds : HasBounds shape) (plain : is_lru shape.kind ≡ false) where
  same_spares : (cpu number : ℕ) (turns : List Turn) (state : State) (c x : ℕ) → (all_turned shape cpu number turns state).spares c ≡ Some x → put state.spares cpu (spare_after (state.spares cpu) turns) c ≡ Some x
  unfolding put
  same_spares cpu number turns state c x have =
      by_test c cpu (λ b. cond b (spare_after (state.spares cpu) turns) (state.spares c) ≡ Some x)
      (λ same. sym (spares_after shape cpu number turns state plain) ∙ ap (all_turned shape cpu number turns state).spares (sym same) ∙ have)
      (λ other. sym (others_spares shape cpu number turns state plain c other) ∙ have)

  -- as `evicting_all`
  pub plain_all : (calls : List Call) (number : ℕ) (state : State) (s : Rattle.place_words.specs.State.State) (more : List Drawn) → AreServed shape calls → AreDone shape number calls state
      → AreFrom (run shape number calls state).next_ticket more → IsTied shape 0 [] (core_lists (lies_in shape state)) (AreSpares state.spares) s
      → ((t : Rattle.place_words.specs.State.State) → IsTied shape 0 [] (core_lists (lies_in shape (run shape number calls state))) (AreSpares (run shape number calls state).spares) t → AreEnabled shape t (interleaved shape (lies_in shape (run shape number calls state)) [] more))
      → AreEnabled shape s (interleaved shape (lies_in shape state) [] (drawn_calls shape number calls state ++ more))
  plain_all [] number state s more served done from tied then = then s tied
  plain_all (call ∷ calls) number state s more served done from tied then =
      let turns : List Turn = (does shape call.cpu number state call.verb).turns in
      let allowed = allowed_of_legal shape call.cpu number turns state done.0.legal in
      let later : State = after_one shape number call state in
      let rest : List Drawn = drawn_calls shape (suc number) calls later in
      let lies : lies_in shape later ≡ after_turns shape call.cpu (lies_in shape state) turns = lies_after_all shape call.cpu number turns state in
      let goes = plain_call_goes bounds plain call.cpu served.0 number state.spares call.verb turns state (does shape call.cpu number state call.verb).reply done.0.trace allowed in
      subst (λ (l : List Drawn). AreEnabled shape s (interleaved shape (lies_in shape state) [] l)) (sym (append_assoc (stamped state.next_ticket call.cpu number turns) rest more))
      (goes.run s state.next_ticket number (rest ++ more) (any_cpu call.cpu tied) (behind_call shape number call calls state more from)
      (λ t held. subst (λ (contents : DomainId → Content). IsTied shape call.cpu [] (core_lists contents) (AreSpares later.spares) t → AreEnabled shape t (interleaved shape contents [] (rest ++ more))) lies
      (λ now. plain_all calls (suc number) later t more served.1 done.1 from (any_cpu 0 now) then)
      (weaker (λ c x have. same_spares call.cpu number turns state c x have) held)))

-- Tickets
range_both : (n a b : ℕ) → range_with_len n (a + b) ≡ range_with_len n a ++ range_with_len (n + a) b
range_both n zero b =
    let at : n ≡ n + 0 = omega arith in
    let none : 0 + b ≡ b = omega arith in
    ap (range_with_len n) none ∙ ap (λ (k : ℕ). range_with_len k b) at
range_both n (suc a) b =
    let at : n + 1 + a ≡ n + suc a = omega arith in
    let more : suc a + b ≡ suc (a + b) = omega arith in
    ap (range_with_len n) more ∙ ap (λ (l : List ℕ). n ∷ l) (range_both (n + 1) a b ∙ ap (λ (k : ℕ). range_with_len (n + 1) a ++ range_with_len k b) at)

stamped_tickets : (n cpu call : ℕ) (turns : List Turn) → tickets_of (stamped n cpu call turns) ≡ range_with_len n (length (stamped n cpu call turns))
stamped_tickets n cpu call [] = refl
stamped_tickets n cpu call (turn ∷ turns) =
    let at : suc n ≡ n + 1 = omega arith in
    ap (λ (l : List ℕ). n ∷ l) (stamped_tickets (suc n) cpu call turns ∙ ap (λ (k : ℕ). range_with_len k (length (stamped (suc n) cpu call turns))) at)

stamped_length : (n cpu call : ℕ) (turns : List Turn) → length (stamped n cpu call turns) ≡ length turns
stamped_length n cpu call [] = refl
stamped_length n cpu call (turn ∷ turns) = ap suc (stamped_length (suc n) cpu call turns)

drawn_length : (xs ys : List Drawn) → length (xs ++ ys) ≡ length xs + length ys
drawn_length [] ys = omega arith
drawn_length (x ∷ xs) ys = omega (arith, drawn_length xs ys)

pub calls_tickets : (shape : Shape) (number : ℕ) (calls : List Call) (state : State) → tickets_of (drawn_calls shape number calls state) ≡ range_with_len state.next_ticket (length (drawn_calls shape number calls state))
calls_tickets shape number [] state = refl
calls_tickets shape number (call ∷ calls) state =
    let n : ℕ = state.next_ticket in
    let turns : List Turn = (does shape call.cpu number state call.verb).turns in
    let later : State = after_one shape number call state in
    let one : List Drawn = stamped n call.cpu number turns in
    let rest : List Drawn = drawn_calls shape (suc number) calls later in
    map-append (λ (d : Drawn). d.entry.ticket) one rest
    ∙ ap (λ (l : List ℕ). l ++ tickets_of rest) (stamped_tickets n call.cpu number turns)
    ∙ ap (λ (l : List ℕ). range_with_len n (length one) ++ l) (calls_tickets shape (suc number) calls later ∙ ap (λ (k : ℕ). range_with_len k (length rest)) (tickets_after shape call.cpu number turns state ∙ ap (λ (k : ℕ). n + k) (sym (stamped_length n call.cpu number turns))))
    ∙ sym (range_both n (length one) (length rest)) ∙ ap (λ (k : ℕ). range_with_len n k) (sym (drawn_length one rest))

-- the next ticket counts the turns
pub calls_count : (shape : Shape) (number : ℕ) (calls : List Call) (state : State) → (run shape number calls state).next_ticket ≡ state.next_ticket + length (drawn_calls shape number calls state)
calls_count shape number [] state = omega arith
calls_count shape number (call ∷ calls) state =
    let turns : List Turn = (does shape call.cpu number state call.verb).turns in
    let later : State = after_one shape number call state in
    let one : List Drawn = stamped state.next_ticket call.cpu number turns in
    let rest : List Drawn = drawn_calls shape (suc number) calls later in
    let step = tickets_after shape call.cpu number turns state in
    let more = calls_count shape (suc number) calls later in
    let long = stamped_length state.next_ticket call.cpu number turns in
    let both = drawn_length one rest in
    omega (arith, step, more, long, both)

-- Logs
stamped_logs : (shape : Shape) (cpu number : ℕ) (lock : DomainId) (turns : List Turn) (state : State) → (all_turned shape cpu number turns state).logs lock ≡ state.logs lock ++ map entry_of (drawn_on lock (stamped state.next_ticket cpu number turns))
stamped_logs shape cpu number lock [] state = sym (append-nil (state.logs lock))
stamped_logs shape cpu number lock (turn ∷ turns) state = stamped_logs shape cpu number lock turns (turned shape cpu number turn state) ∙ by (is_same_lock turn.lock lock)
  where
    entry : Entry
    entry = record { ticket = state.next_ticket; cpu = cpu; call = number; part = turn.part }

    by : (b : Bool) → cond b (state.logs lock ++ entry ∷ []) (state.logs lock) ++ map entry_of (drawn_on lock (stamped (suc state.next_ticket) cpu number turns))
        ≡ state.logs lock ++ map entry_of (cond b (drawn state.next_ticket cpu number turn ∷ drawn_on lock (stamped (suc state.next_ticket) cpu number turns)) (drawn_on lock (stamped (suc state.next_ticket) cpu number turns)))
    by true = append_assoc (state.logs lock) (entry ∷ []) (map entry_of (drawn_on lock (stamped (suc state.next_ticket) cpu number turns)))
    by false = refl

-- Calls add to each log the entries of their turns, with their tickets.
pub calls_logs : (shape : Shape) (number : ℕ) (lock : DomainId) (calls : List Call) (state : State) → (run shape number calls state).logs lock ≡ state.logs lock ++ map entry_of (drawn_on lock (drawn_calls shape number calls state))
calls_logs shape number lock [] state = sym (append-nil (state.logs lock))
calls_logs shape number lock (call ∷ calls) state =
    let turns : List Turn = (does shape call.cpu number state call.verb).turns in
    let one : List Drawn = stamped state.next_ticket call.cpu number turns in
    let rest : List Drawn = drawn_calls shape (suc number) calls (after_one shape number call state) in
    calls_logs shape (suc number) lock calls (after_one shape number call state)
    ∙ ap (λ (l : List Entry). l ++ map entry_of (drawn_on lock rest)) (stamped_logs shape call.cpu number lock turns state)
    ∙ append_assoc (state.logs lock) (map entry_of (drawn_on lock one)) (map entry_of (drawn_on lock rest))
    ∙ ap (λ (l : List Entry). state.logs lock ++ l) (sym (ap (map entry_of) (filter-append (λ (d : Drawn). is_same_lock d.lock lock) one rest) ∙ map-append entry_of (drawn_on lock one) (drawn_on lock rest)))
