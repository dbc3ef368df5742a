-- In a run in serial order logs only grow at their end. Entries are of the CPUs that made the calls, and logs of turns that stand in
-- legal histories stay legal.
use Rattle.std.proofs.Common.{◌≡◌, ℕ, suc, ◌<◌, Bool, true, false, cond, List, [], ◌∷◌, ◌++◌, refl, ap, sym, ◌∙◌}
use Rattle.std.specs.Prelude.{All}
use Rattle.std.proofs.lemmas.List.{append-nil, append_assoc}
use Rattle.std.proofs.lemmas.List.Elements.{All-nil, All-cons, All-append, All-head, All-tail}
use Rattle.map_types.specs.declared.attr.Shape.{Shape}
use Rattle.map_types.specs.declared.call.Call.{Call}
use Rattle.map_types.specs.declared.kind.DomainId.{DomainId}
use Rattle.place_words.specs.declared.history.Entry.{Entry}
use Rattle.place_words.specs.Histories.{AllAllowed}
use Rattle.place_words.specs.Locks.{is_same_lock}
use Rattle.place_words.specs.Logs.{State, turned, all_turned, does, new_state, after_one, run, placed}
use Rattle.place_words.specs.SerialOrder.{AreDone}
use Rattle.place_words.specs.Turns.{Turn, AreLegalAt}
use Rattle.place_words.proofs.PlacedLaws.{AreLegal, turned_legal}

abbrev pub Grows : State → State → Type 0
Grows before after = (lock : DomainId) → (more : List Entry) × (after.logs lock ≡ before.logs lock ++ more)

pub grows_none : (state : State) → Grows state state
grows_none state lock = ([], sym (append-nil (state.logs lock)))

pub grows_both : (a b c : State) → Grows a b → Grows b c → Grows a c
grows_both a b c first second lock =
    let one = first lock in
    let two = second lock in
    (one.0 ++ two.0, two.1 ∙ ap (λ (entries : List Entry). entries ++ two.0) one.1 ∙ append_assoc (a.logs lock) one.0 two.0)

module _ (shape : Shape) where
  pub grows_turned : (cpu number : ℕ) (turn : Turn) (state : State) → Grows state (turned shape cpu number turn state)
  grows_turned cpu number turn state lock = by (is_same_lock turn.lock lock)
    where
      by : (b : Bool) → (more : List Entry) × (cond b (state.logs lock ++ (record { ticket = state.next_ticket; cpu = cpu; call = number; part = turn.part }) ∷ []) (state.logs lock) ≡ state.logs lock ++ more)
      by true = ((record { ticket = state.next_ticket; cpu = cpu; call = number; part = turn.part }) ∷ [], refl)
      by false = ([], sym (append-nil (state.logs lock)))

  pub grows_all : (cpu number : ℕ) (turns : List Turn) (state : State) → Grows state (all_turned shape cpu number turns state)
  grows_all cpu number [] state = grows_none state
  grows_all cpu number (turn ∷ turns) state =
      let next : State = turned shape cpu number turn state in
      grows_both state next (all_turned shape cpu number turns next) (grows_turned cpu number turn state) (grows_all cpu number turns next)

  pub grows_run : (number : ℕ) (calls : List Call) (state : State) → Grows state (run shape number calls state)
  grows_run number [] state = grows_none state
  grows_run number (call ∷ calls) state =
      let next : State = after_one shape number call state in
      grows_both state next (run shape (suc number) calls next) (grows_all call.cpu number (does shape call.cpu number state call.verb).turns state) (grows_run (suc number) calls next)

  -- entries of the map's CPUs
  abbrev pub AreOnCpus : State → Type 0
  AreOnCpus state = (lock : DomainId) → All (λ (entry : Entry). entry.cpu < shape.cpus) (state.logs lock)

  turned_on_cpus : (cpu number : ℕ) → cpu < shape.cpus → (turn : Turn) (state : State) → AreOnCpus state → AreOnCpus (turned shape cpu number turn state)
  turned_on_cpus cpu number within turn state on lock = by (is_same_lock turn.lock lock)
    where
      by : (b : Bool) → All (λ (entry : Entry). entry.cpu < shape.cpus) (cond b (state.logs lock ++ (record { ticket = state.next_ticket; cpu = cpu; call = number; part = turn.part }) ∷ []) (state.logs lock))
      by true = All-append (λ (entry : Entry). entry.cpu < shape.cpus) (state.logs lock) _ (on lock)
          (All-cons (λ (entry : Entry). entry.cpu < shape.cpus) (record { ticket = state.next_ticket; cpu = cpu; call = number; part = turn.part }) [] within (All-nil (λ (entry : Entry). entry.cpu < shape.cpus)))
      by false = on lock

  all_on_cpus : (cpu number : ℕ) → cpu < shape.cpus → (turns : List Turn) (state : State) → AreOnCpus state → AreOnCpus (all_turned shape cpu number turns state)
  all_on_cpus cpu number within [] state on = on
  all_on_cpus cpu number within (turn ∷ turns) state on = all_on_cpus cpu number within turns (turned shape cpu number turn state) (turned_on_cpus cpu number within turn state on)

  pub run_on_cpus : (number : ℕ) (calls : List Call) (state : State) → All (λ (call : Call). call.cpu < shape.cpus) calls → AreOnCpus state → AreOnCpus (run shape number calls state)
  run_on_cpus number [] state served on = on
  run_on_cpus number (call ∷ calls) state served on =
      run_on_cpus (suc number) calls (after_one shape number call state) (All-tail (λ (one : Call). one.cpu < shape.cpus) call calls served)
      (all_on_cpus call.cpu number (All-head (λ (one : Call). one.cpu < shape.cpus) call calls served) (does shape call.cpu number state call.verb).turns state on)

  -- legal logs
  legal_all : (cpu number : ℕ) (turns : List Turn) (state : State) → AreLegal shape state → AreLegalAt shape cpu (placed shape cpu number turns state) → AreLegal shape (all_turned shape cpu number turns state)
  legal_all cpu number [] state legal at_place = legal
  legal_all cpu number (turn ∷ turns) state legal at_place =
      legal_all cpu number turns (turned shape cpu number turn state) (turned_legal shape cpu number turn state legal at_place.0.1) at_place.1

  pub legal_run : (number : ℕ) (calls : List Call) (state : State) → AreDone shape number calls state → AreLegal shape state → AreLegal shape (run shape number calls state)
  legal_run number [] state done legal = legal
  legal_run number (call ∷ calls) state done legal =
      legal_run (suc number) calls (after_one shape number call state) done.1 (legal_all call.cpu number (does shape call.cpu number state call.verb).turns state legal done.0.legal)

  pub legal_first : AreLegal shape (new_state shape)
  unfolding AllAllowed
  legal_first lock = tt
