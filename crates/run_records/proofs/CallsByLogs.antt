-- One call more of a run in serial order, of a map of any kind: where the call is determined by its trace, what the pass knows
-- then, and the reply, are those of the run by the logs of the locks.
use Rattle.std.proofs.Common.{◌≡◌, ℕ, suc, ◌+◌, Bool, true, false, cond, List, [], ◌∷◌, ◌++◌, length, map, Option, Some, refl, ap, ◌∙◌, sym, subst, inl, inr, arith, append_assoc, append-nil}
use Rattle.std.specs.Prelude.{All, IsFalse}
use Rattle.std.proofs.lemmas.Bool.{both_ways}
use Rattle.std.proofs.lemmas.List.{map-append}
use Rattle.std.proofs.lemmas.List.Elements.{All-nil, All-cons, All-head, All-tail, All-append}
use Rattle.map_types.specs.Creation.{IsShape}
use Rattle.map_types.specs.declared.attr.Shape.{Shape}
use Rattle.map_types.specs.declared.call.Call.{Call}
use Rattle.map_types.specs.declared.call.Verb.{Verb}
use Rattle.map_types.specs.declared.reply.Reply.{Reply}
use Rattle.map_types.specs.Kind.{is_lru}
use Rattle.map_types.proofs.CreationLemmas.{bounds_of_shape}
use Rattle.map_types.proofs.RowLemmas.{by_test}
use Rattle.place_words.specs.declared.history.Entry.{Entry}
use Rattle.place_words.specs.declared.history.StrandStep.{StrandStep}
use Rattle.place_words.specs.Locks.{lock_named}
use Rattle.place_words.specs.Logs.{State, turned, all_turned, Does, does, after_one, run, answers}
use Rattle.place_words.specs.Traces.{IsTrace}
use Rattle.place_words.specs.Turns.{Turn, TurnAt, turns_of}
use Rattle.place_words.specs.Walks.{spare_left}
use Rattle.place_table.specs.declared.view.Turned.{Turned}
use Rattle.place_table.specs.Calls.{bits_of_turns, finds_moved_on, IsTold, AreTold, Called, element_of, spare_element}
use Rattle.place_table.specs.Known.{AreAllowedAt, BitTouch, Learns, KnowsAll, logs_after, turn_of, turn_at}
use Rattle.place_table.specs.Passes.{PassView, TableView, begun, spare_of, AreCounted}
use Rattle.place_table.specs.Views.{bit_seen, place_of, kept_step, next}
use Rattle.place_table.proofs.Going.{learns_all}
use Rattle.map_report.specs.Runs.{steps_of_turns, steps_of_calls}
use Rattle.run_records.specs.ByLogs.{IsOfMap, KnowsState}
use Rattle.serial_laws.proofs.BitsRead.{ReadsBits}
use Rattle.serial_laws.proofs.HistoryTurns.{by_bool}
use Rattle.serial_laws.proofs.KeyCalls.{IsAs}
use Rattle.run_records.proofs.MadeBy.{GoOnBy, made_by, touches_of}
use Rattle.run_records.proofs.PlainBits.{no_touches}
use Rattle.run_records.proofs.SharedFreesIs.{TellsShared}
use Rattle.serial_laws.proofs.SparesLeft.{own_spare, spares_elsewhere}
use Rattle.serial_laws.proofs.TurnsMade.{AreMade, EachTurn}

-- Turns as the call tells them

told_step : (shape : Shape) (step told : Turned) → IsTold shape [] step told → told ≡ step
told_step shape step told (inl same, tells) = same
told_step shape step told (inr could, tells) = absurd (both_ways false refl could.0)

told_same : (shape : Shape) (steps told : List Turned) → AreTold shape [] steps told → told ≡ steps
told_same shape [] [] are = refl
told_same shape [] (told ∷ others) are = absurd are
told_same shape (step ∷ steps) [] are = absurd are
told_same shape (step ∷ steps) (told ∷ others) are = (λ i. told_step shape step told are.0 i ∷ told_same shape steps others are.1 i)

-- where the record of no lock is lost, they are those that were made
pub told_made : (shape : Shape) (lost : List ℕ) (steps told : List Turned) → lost ≡ [] → AreTold shape lost steps told → told ≡ steps
told_made shape lost steps told none are = told_same shape steps told (subst (λ (l : List ℕ). AreTold shape l steps told) none are)

turns_of_steps : (shape : Shape) (steps : List Turned) → turns_of (map (turn_at shape) steps) ≡ map (turn_of shape) steps
turns_of_steps shape [] = refl
turns_of_steps shape (step ∷ steps) = ap (λ (turns : List Turn). turn_of shape step ∷ turns) (turns_of_steps shape steps)

pub all_real : (shape : Shape) (steps : List Turned) → AreAllowedAt shape steps → All (IsOfMap shape) steps
all_real shape [] allowed = All-nil (IsOfMap shape)
all_real shape (step ∷ steps) allowed = All-cons (IsOfMap shape) step steps (allowed.0.below, allowed.0.there) (all_real shape steps allowed.1)

-- what each turn reads and finds
each_pair : (shape : Shape) (cpu number : ℕ) (steps : List Turned) (state : State) → EachTurn (ReadsBits shape) shape cpu number (map (turn_at shape) steps) state
    → All (λ (turn : Turned). IsFalse (finds_moved_on turn.entry.part)) steps → EachTurn (TellsShared shape) shape cpu number (map (turn_at shape) steps) state
each_pair shape cpu number [] state read found = tt
each_pair shape cpu number (step ∷ steps) state read found =
    let stays : Turned → Type 0 = λ turn. IsFalse (finds_moved_on turn.entry.part) in
    ((read.0, All-head stays step steps found), each_pair shape cpu number steps (turned shape cpu number (turn_of shape step) state) read.1 (All-tail stays step steps found))

-- One call: what its turns were made from, and what they tell

module _ (t : TableView) (state : State) (strand : List StrandStep) (p q : PassView) (call : Call) (number : ℕ) (reply : Reply) (shape_is : IsShape t.shape)
    (knows : KnowsState t.shape state strand p.view) (called : Called t (begun p call.cpu number) q call.verb reply) (none : called.lost ≡ []) where
  told_is : called.told ≡ called.steps
  told_is = told_made t.shape called.lost called.steps called.told none called.told_are

  -- on a map that doesn't evict the turns tell no bits
  touches_are : bits_of_turns t.shape called.told ≡ touches_of t.shape call.cpu number called.steps
  touches_are =
      by_bool (is_lru t.shape.kind) (λ b. cond b (touches_of t.shape call.cpu number called.told) [] ≡ touches_of t.shape call.cpu number called.steps)
      (λ lru. ap (touches_of t.shape call.cpu number) told_is)
      (λ plain. sym (no_touches t.shape (bounds_of_shape t.shape shape_is) plain call.cpu number called.steps called.leaves.learns.allowed))

  learns : Learns t.shape p.view q.view called.steps (touches_of t.shape call.cpu number called.steps)
  learns = subst (λ (touches : List BitTouch). Learns t.shape p.view q.view called.steps touches) touches_are called.leaves.learns

  abbrev logs : ℕ → List Entry
  logs k = state.logs (lock_named t.shape k)

  abbrev known : ℕ → Option Bool
  known e = bit_seen e p.view.bits

  after_is : KnowsAll t.shape (logs_after logs called.steps) q.view
  after_is = (learns_all t.shape p.view q.view logs called.steps (touches_of t.shape call.cpu number called.steps) learns knows.knows).1

  goes : GoOnBy t.shape call.cpu number called.steps state logs known (next q.view)
  goes =
      made_by t.shape call.cpu number called.steps state logs known (next q.view) (subst (λ (n : ℕ). AreCounted n called.steps (next q.view)) knows.counted (called.leaves.made.goes.numbers.exact knows.knows.all)) (λ k. refl) knows.bits
      (learns_all t.shape p.view q.view logs called.steps (touches_of t.shape call.cpu number called.steps) learns knows.knows).0
      (λ e. (learns.bits knows.knows.all e).see_on) called.leaves.by_call

  -- Where CPUs share lists each turn tells the bits that it reads, and none finds moved on what it frees.
  pub tells_shared : t.shape.common ≡ true → EachTurn (TellsShared t.shape) t.shape call.cpu number (map (turn_at t.shape) called.steps) state
  tells_shared shared =
      each_pair t.shape call.cpu number called.steps state goes.read
      (subst (All (λ (turn : Turned). IsFalse (finds_moved_on turn.entry.part))) told_is (called.none_moved shared logs knows.knows))

-- The call is determined by its trace: where this holds of each turn, the turns and the reply are those of the run.
abbrev pub IsDetermined : (State → Turn → Type 0) → Shape → ℕ → ℕ → State → Verb → Type 0
IsDetermined Fact shape cpu number state verb =
    (turns : List TurnAt) (reply : Reply) → IsTrace shape cpu (state.spares cpu) verb turns reply → AreMade shape cpu number turns state → EachTurn Fact shape cpu number turns state
    → IsAs (does shape cpu number state verb) turns reply

module _ (Fact : State → Turn → Type 0) (t : TableView) (state : State) (strand : List StrandStep) (p q : PassView) (call : Call) (number : ℕ) (reply : Reply) (shape_is : IsShape t.shape)
    (determined : IsDetermined Fact t.shape call.cpu number state call.verb) (knows : KnowsState t.shape state strand p.view) (spares : (cpu : ℕ) → element_of (spare_of cpu p.spares) ≡ state.spares cpu)
    (called : Called t (begun p call.cpu number) q call.verb reply) (none : called.lost ≡ []) (each : EachTurn Fact t.shape call.cpu number (map (turn_at t.shape) called.steps) state) where
  abbrev did : Does
  did = does t.shape call.cpu number state call.verb

  abbrev made_from : GoOnBy t.shape call.cpu number called.steps state (logs t state strand p q call number reply shape_is knows called none) (known t state strand p q call number reply shape_is knows called none) (next q.view)
  made_from = goes t state strand p q call number reply shape_is knows called none

  abbrev learned : Learns t.shape p.view q.view called.steps (touches_of t.shape call.cpu number called.steps)
  learned = learns t state strand p q call number reply shape_is knows called none

  -- the turns as the call tells them are those that were made
  abbrev told_here : called.told ≡ called.steps
  told_here = told_is t state strand p q call number reply shape_is knows called none

  as_run : IsAs did (map (turn_at t.shape) called.steps) reply
  as_run =
      determined (map (turn_at t.shape) called.steps) reply
      (subst (λ (spare : Option ℕ). IsTrace t.shape call.cpu spare call.verb (map (turn_at t.shape) called.steps) reply) (spares call.cpu)
      (subst (λ (steps : List Turned). IsTrace t.shape call.cpu (spare_element (begun p call.cpu number)) call.verb (map (turn_at t.shape) steps) reply) told_here called.trace))
      made_from.made each

  turns_then : map (turn_of t.shape) called.steps ≡ did.turns
  turns_then = sym (turns_of_steps t.shape called.steps) ∙ as_run.turns_are

  strand_then : map (λ (step : Turned). kept_step t.shape step.lock (place_of step)) q.view.steps ≡ strand ++ steps_of_turns t.shape call.cpu number did.turns state
  strand_then =
      ap (map (λ (step : Turned). kept_step t.shape step.lock (place_of step))) called.leaves.made.goes.steps
      ∙ map-append (λ (step : Turned). kept_step t.shape step.lock (place_of step)) p.view.steps called.steps
      ∙ (λ i. knows.steps_are i ++ (made_from.steps_are ∙ ap (λ (turns : List Turn). steps_of_turns t.shape call.cpu number turns state) turns_then) i)

  -- what the pass knows then
  pub knows_next : KnowsState t.shape (after_one t.shape number call state) (strand ++ steps_of_turns t.shape call.cpu number did.turns state) q.view
  knows_next = record {
    knows = record {
      all = (after_is t state strand p q call number reply shape_is knows called none).all;
      each = λ k below there. (after_is t state strand p q call number reply shape_is knows called none).each k below there ∙ ap Some (made_from.logs_are k ∙ ap (λ (turns : List Turn). (all_turned t.shape call.cpu number turns state).logs (lock_named t.shape k)) turns_then);
    };
    bits = λ e real. (learned.bits knows.knows.all e).known_is ∙ made_from.bits_are e real ∙ ap (λ (turns : List Turn). Some ((all_turned t.shape call.cpu number turns state).bits e)) turns_then;
    counted = made_from.counted ∙ ap (λ (turns : List Turn). (all_turned t.shape call.cpu number turns state).next_ticket) turns_then;
    steps_are = strand_then;
    real = subst (All (IsOfMap t.shape)) (sym called.leaves.made.goes.steps)
        (All-append (IsOfMap t.shape) p.view.steps called.steps knows.real (all_real t.shape called.steps learned.allowed));
  }

  -- the spares that it keeps
  own_then : element_of (spare_of call.cpu q.spares) ≡ (after_one t.shape number call state).spares call.cpu
  own_then =
      ap (λ (cpu : ℕ). element_of (spare_of cpu q.spares)) (sym called.leaves.made.goes.cpu) ∙ called.spare
      ∙ (λ i. spare_left t.shape (spares call.cpu i) (map (turn_at t.shape) (told_here i)))
      ∙ sym (own_spare t.shape call.cpu number (map (turn_at t.shape) called.steps) state)
      ∙ ap (λ (turns : List Turn). (all_turned t.shape call.cpu number turns state).spares call.cpu) as_run.turns_are

  pub spares_next : (cpu : ℕ) → element_of (spare_of cpu q.spares) ≡ (after_one t.shape number call state).spares cpu
  spares_next cpu =
      by_test cpu call.cpu (λ _. element_of (spare_of cpu q.spares) ≡ (after_one t.shape number call state).spares cpu)
      (λ own. subst (λ (c : ℕ). element_of (spare_of c q.spares) ≡ (after_one t.shape number call state).spares c) (sym own) own_then)
      (λ other. ap element_of (called.leaves.other_spares cpu other) ∙ spares cpu ∙ sym (spares_elsewhere t.shape call.cpu number did.turns state cpu other))

  -- and the reply
  pub reply_next : reply ≡ did.reply
  reply_next = as_run.reply_is

-- The run with a call more

pub run_more : (shape : Shape) (number : ℕ) (calls : List Call) (call : Call) (state : State) → run shape number (calls ++ call ∷ []) state ≡ after_one shape (number + length calls) call (run shape number calls state)
run_more shape number [] call state = let same : number ≡ number + 0 = omega arith in ap (λ (n : ℕ). after_one shape n call state) same
run_more shape number (first ∷ calls) call state =
    let count : suc number + length calls ≡ number + suc (length calls) = omega arith in
    run_more shape (suc number) calls call (after_one shape number first state)
    ∙ ap (λ (n : ℕ). after_one shape n call (run shape (suc number) calls (after_one shape number first state))) count

pub answers_more : (shape : Shape) (number : ℕ) (calls : List Call) (call : Call) (state : State)
    → answers shape number (calls ++ call ∷ []) state ≡ answers shape number calls state ++ (does shape call.cpu (number + length calls) (run shape number calls state) call.verb).reply ∷ []
answers_more shape number [] call state = let same : number ≡ number + 0 = omega arith in ap (λ (n : ℕ). (does shape call.cpu n state call.verb).reply ∷ []) same
answers_more shape number (first ∷ calls) call state =
    let count : suc number + length calls ≡ number + suc (length calls) = omega arith in
    let next : State = after_one shape number first state in
    ap (λ (rest : List Reply). (does shape first.cpu number state first.verb).reply ∷ rest)
    (answers_more shape (suc number) calls call next ∙ ap (λ (n : ℕ). answers shape (suc number) calls next ++ (does shape call.cpu n (run shape (suc number) calls next) call.verb).reply ∷ []) count)

pub steps_on : (shape : Shape) (number : ℕ) (first second : List Call) (state : State)
    → steps_of_calls shape number (first ++ second) state ≡ steps_of_calls shape number first state ++ steps_of_calls shape (number + length first) second (run shape number first state)
steps_on shape number [] second state = let same : number ≡ number + 0 = omega arith in ap (λ (k : ℕ). steps_of_calls shape k second state) same
steps_on shape number (call ∷ first) second state =
    let count : suc number + length first ≡ number + suc (length first) = omega arith in
    let mine : List StrandStep = steps_of_turns shape call.cpu number (does shape call.cpu number state call.verb).turns state in
    let after : State = after_one shape number call state in
    ap (λ (rest : List StrandStep). mine ++ rest)
    (steps_on shape (suc number) first second after
    ∙ ap (λ (k : ℕ). steps_of_calls shape (suc number) first after ++ steps_of_calls shape k second (run shape (suc number) first after)) count)
    ∙ sym (append_assoc mine (steps_of_calls shape (suc number) first after) (steps_of_calls shape (number + suc (length first)) second (run shape (suc number) first after)))

abbrev steps_of : Shape → ℕ → Call → State → List StrandStep
steps_of shape number call state = steps_of_turns shape call.cpu number (does shape call.cpu number state call.verb).turns state

pub steps_more : (shape : Shape) (number : ℕ) (calls : List Call) (call : Call) (state : State)
    → steps_of_calls shape number (calls ++ call ∷ []) state ≡ steps_of_calls shape number calls state ++ steps_of shape (number + length calls) call (run shape number calls state)
steps_more shape number calls call state =
    steps_on shape number calls (call ∷ []) state
    ∙ ap (λ (rest : List StrandStep). steps_of_calls shape number calls state ++ rest) (append-nil (steps_of shape (number + length calls) call (run shape number calls state)))
