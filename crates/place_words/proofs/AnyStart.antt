-- The laws of a run in serial order, from any state in which no call is under way: each call does what the rules say, no reply is
-- ENOMEM, no probe finds its element in a CPU's hand, and the turns have the tickets from that state's on. A new map is such a
-- state, and so is each that a run leaves.
use Rattle.std.proofs.Common.{◌≡◌, ℕ, zero, suc, ◌+◌, ◌*◌, ◌/◌, ◌<◌, ◌≤◌, Bool, true, false, cond, eqb, ltb, List, [], ◌∷◌, ◌++◌, length, refl, ap, sym, ◌∙◌, subst, arith, inl, inr}
use Rattle.std.specs.Prelude.{All, Some, MatchOption}
use Rattle.std.proofs.Math.Nat.{mul-div_cancel, mul-div-le, mul-le-mul_right}
use Rattle.std.proofs.lemmas.Nat.{le-div}
use Rattle.std.proofs.lemmas.Bool.{cases_lt, lt-ltb, both_ways, MatchBool-at_true, MatchBool-at_false}
use Rattle.std.proofs.lemmas.List.{length-append, length-map, append-nil, append_assoc}
use Rattle.std.proofs.lemmas.List.Elements.{All-nil, All-cons, All-append, All-head, All-tail}
use Rattle.map_types.specs.Creation.{IsShape}
use Rattle.map_types.specs.declared.attr.Shape.{Shape}
use Rattle.map_types.specs.declared.call.Call.{Call}
use Rattle.map_types.specs.declared.kind.DomainId.{DomainId}
use Rattle.map_types.specs.declared.kind.DomainId.TheVariants.{Local, Global, CpuLru}
use Rattle.map_types.specs.declared.row.Row.{Row}
use Rattle.map_types.specs.ElementLists.{times, one}
use Rattle.map_types.specs.Kind.{is_lru}
use Rattle.map_types.specs.Listed.{elements_of}
use Rattle.map_types.proofs.CreationLemmas.{bounds_of_shape}
pub use Rattle.place_words.specs.AtRest.{IsStart}
use Rattle.place_words.specs.declared.history.Entry.{Entry}
use Rattle.place_words.specs.Histories.{Content}
use Rattle.place_words.specs.Locals.{LocalLists}
use Rattle.place_words.specs.Locks.{is_same_lock}
use Rattle.place_words.specs.Logs.{State, turned, all_turned, lies_in, locals_at, globals_at, own_at, new_state, does, after_one, run}
use Rattle.place_words.specs.Moves.{elements_of_set}
use Rattle.place_words.specs.Phases.{added_by, added, GetsFrom}
use Rattle.place_words.specs.SerialOrder.{AlwaysGets, AlwaysRemoves, FindsNoneHeld, HasEnough, IsOrderly, AreDone}
use Rattle.place_words.specs.Sets.{ListSet}
use Rattle.place_words.specs.Tickets.{tickets_of, AscendIn}
use Rattle.place_words.specs.Takings.{set_of}
use Rattle.place_words.specs.Turns.{Turn}
use Rattle.place_words.proofs.Ascending.{ascend_from, ascend_on, tickets_append}
use Rattle.place_words.proofs.AlwaysGets.{enough_of, plain_law}
use Rattle.place_words.proofs.AlwaysRemoved.{AreFine, IsFine, fine_law}
use Rattle.place_words.proofs.EachTurn.{does_right, verb_passes}
use Rattle.place_words.proofs.EvictingDone.{IsAtRest}
use Rattle.place_words.proofs.EvictingRuns.{IsReached, new_reached}
use Rattle.place_words.proofs.EvictingRuns as evicting
use Rattle.place_words.proofs.Giving.{never_enomem}
use Rattle.place_words.proofs.ListContents.{lies_locals, lies_globals, lies_own}
use Rattle.place_words.proofs.ListSums.{locks_below, list_locks, sum_over}
use Rattle.place_words.proofs.NeverEmpty.{set_count, local_count}
use Rattle.place_words.proofs.OrderlyRuns.{orderly_first}
use Rattle.place_words.proofs.OrderlyRuns as plain
use Rattle.place_words.proofs.OwnGets.{EachOwn, own_law}
use Rattle.place_words.proofs.Settled.{elements_on, IsFit}
use Rattle.place_words.proofs.SharedGets.{SomeShared, shared_law}

reached_start : (shape : Shape) (state : State) → is_lru shape.kind ≡ true → IsReached shape state → IsStart shape state
reached_start shape state lru reached = record {
  legal = reached.legal;
  rests = λ is. reached.rests;
  no_spares = λ is. reached.no_spares;
  spares = λ hash. absurd (both_ways (is_lru shape.kind) (ap is_lru hash) lru);
}

orderly_start : (shape : Shape) (state : State) → is_lru shape.kind ≡ false → IsOrderly shape state → IsStart shape state
orderly_start shape state plain orderly = record {
  legal = orderly.legal;
  rests = λ is. absurd (both_ways (is_lru shape.kind) plain is);
  no_spares = λ is. absurd (both_ways (is_lru shape.kind) plain is);
  spares = orderly.spares;
}

pub new_start : (shape : Shape) → IsShape shape → IsStart shape (new_state shape)
new_start shape created = by (is_lru shape.kind) refl
  where
    by : (lru : Bool) → is_lru shape.kind ≡ lru → IsStart shape (new_state shape)
    by true is = reached_start shape (new_state shape) is (new_reached shape (bounds_of_shape shape created) is)
    by false is = orderly_start shape (new_state shape) is (orderly_first shape created)

-- Every call does what the rules say, and leaves such a state

pub done_from : (shape : Shape) (number : ℕ) (calls : List Call) (state : State) → All (λ (call : Call). call.cpu < shape.cpus) calls → IsStart shape state
    → AreDone shape number calls state × IsStart shape (run shape number calls state)
done_from shape number calls state served start = by (is_lru shape.kind) refl
  where
    by : (lru : Bool) → is_lru shape.kind ≡ lru → AreDone shape number calls state × IsStart shape (run shape number calls state)
    by true is =
        let done = evicting.run_done shape is number calls state served (record { legal = start.legal; rests = start.rests is; no_spares = start.no_spares is }) in
        (done.0, reached_start shape (run shape number calls state) is done.1)
    by false is =
        let done = plain.run_done shape is number calls state served (record { legal = start.legal; spares = start.spares }) in
        (done.0, orderly_start shape (run shape number calls state) is done.1)

-- There is an element to take, since each is on a list

times_few : (e : ℕ) (xs : List ℕ) → times e xs ≤ length xs
times_few e [] = omega arith
times_few e (x ∷ xs) = by (eqb x e) (times_few e xs)
  where
    by : (b : Bool) → times e xs ≤ length xs → cond b (suc (times e xs)) (times e xs) ≤ suc (length xs)
    by true few = omega (arith, few)
    by false few = omega (arith, few)

set_some : (e : ℕ) (set : ListSet) → 1 ≤ times e (elements_of_set set) → 1 ≤ set_count set
set_some e set there =
    omega (
      arith,
      there,
      times_few e (elements_of_set set),
      length-append set.free (elements_of set.lists.active ++ elements_of set.lists.inactive),
      length-append (elements_of set.lists.active) (elements_of set.lists.inactive),
      length-map set.lists.active (λ (row : Row). row.element),
      length-map set.lists.inactive (λ (row : Row). row.element),
    )

local_some : (e : ℕ) (lists : LocalLists) → 1 ≤ times e (lists.free ++ elements_of lists.pending) → 1 ≤ local_count lists
local_some e lists there =
    omega (arith, there, times_few e (lists.free ++ elements_of lists.pending), length-append lists.free (elements_of lists.pending), length-map lists.pending (λ (row : Row). row.element))

-- where a sum over locks isn't zero, there is something under one of them
one_of : (f : Content → ℕ) (contents : DomainId → Content) (lock : ℕ → DomainId) (n : ℕ) → 1 ≤ sum_over f contents (locks_below lock n) → (c : ℕ) × (c < n) × (1 ≤ f (contents (lock c)))
one_of f contents lock zero some = absurd (omega (arith, some))
one_of f contents lock (suc n) some =
    elim (cases_lt 0 (f (contents (lock n)))) [
      | inl here ↦ (n, omega arith, omega (arith, here))
      | inr none ↦ let rest = one_of f contents lock n (omega (arith, some, none)) in (rest.0, omega (arith, rest.1), rest.2)
    ]

module _ (shape : Shape) (state : State) (rests : IsAtRest shape (lies_in shape state)) where
  -- where the CPUs share lists, one of those isn't empty
  shared_some : shape.common ≡ true → 1 ≤ shape.elements → SomeShared shape state
  shared_some common enough =
      let once : sum_over (elements_on 0) (lies_in shape state) (list_locks shape) ≡ one (ltb 0 shape.elements) = rests.once 0 in
      let some : one (ltb 0 shape.elements) ≡ 1 = ap one (lt-ltb 0 shape.elements (omega (arith, enough))) in
      let locks : list_locks shape ≡ Global ∷ locks_below Local shape.cpus = ap (λ (b : Bool). cond b (Global ∷ locks_below Local shape.cpus) (locks_below CpuLru shape.cpus)) common in
      let all : sum_over (elements_on 0) (lies_in shape state) (Global ∷ locks_below Local shape.cpus) ≡ 1 = sym (ap (sum_over (elements_on 0) (lies_in shape state)) locks) ∙ (once ∙ some) in
      elim (cases_lt 0 (elements_on 0 (lies_in shape state Global))) [
        | inl here ↦ inl (set_some 0 (globals_at shape state) (subst (λ (content : Content). 1 ≤ elements_on 0 content) (lies_globals shape state) (omega (arith, here))))
        | inr none ↦
            let other = one_of (elements_on 0) (lies_in shape state) Local shape.cpus (omega (arith, all, none)) in
            inr (other.0, other.1, local_some 0 (locals_at shape state other.0) (subst (λ (content : Content). 1 ≤ elements_on 0 content) (lies_locals shape state other.0) other.2))
      ]

  -- and where each has lists of its own, none of those is empty: its elements are on no other set
  own_some : shape.common ≡ false → shape.cpus ≤ shape.elements → EachOwn shape state
  own_some apart enough on within =
      let share : ℕ = shape.elements / shape.cpus in
      let whole : 1 ≤ share = le-div 1 shape.elements shape.cpus (omega (arith, within)) (omega (arith, enough)) in
      let e : ℕ = on * share in
      let below : e < shape.elements = below_all in
      let some : one (ltb e shape.elements) ≡ 1 = ap one (lt-ltb e shape.elements below) in
      let locks : list_locks shape ≡ locks_below CpuLru shape.cpus = ap (λ (b : Bool). cond b (Global ∷ locks_below Local shape.cpus) (locks_below CpuLru shape.cpus)) apart in
      let all : sum_over (elements_on e) (lies_in shape state) (locks_below CpuLru shape.cpus) ≡ 1 = sym (ap (sum_over (elements_on e) (lies_in shape state)) locks) ∙ (rests.once e ∙ some) in
      let found = one_of (elements_on e) (lies_in shape state) CpuLru shape.cpus (omega (arith, all)) in
      let here : 1 ≤ times e (elements_of_set (own_at shape state found.0)) = subst (λ (content : Content). 1 ≤ elements_on e content) (lies_own shape state found.0) found.2 in
      let fits : MatchOption (Some (own_at shape state found.0)) ⊥ (λ (set : ListSet). (x : ℕ) → 1 ≤ times x (elements_of_set set) → set_of shape x ≡ found.0) =
      subst (λ (content : Content). IsFit shape (CpuLru found.0) content) (lies_own shape state found.0) (rests.fit (CpuLru found.0)) in
      let is : found.0 ≡ on = sym (fits e here) ∙ mul-div_cancel on {n = share} (omega (arith, whole)) in
      subst (λ (c : ℕ). 1 ≤ set_count (own_at shape state c)) is (set_some e (own_at shape state found.0) here)
    where
      below_all : on * (shape.elements / shape.cpus) < shape.elements
      below_all =
          let one_more : on * (shape.elements / shape.cpus) + shape.elements / shape.cpus ≡ suc on * (shape.elements / shape.cpus) = omega arith in
          omega (arith, one_more, mul-le-mul_right {m = suc on} {n = shape.cpus} (shape.elements / shape.cpus) (omega (arith, within)), mul-div-le shape.elements shape.cpus, le-div 1 shape.elements shape.cpus (omega (arith, within)) (omega (arith, enough)))

-- No reply is ENOMEM

pub gets_from : (shape : Shape) → IsShape shape → (number : ℕ) (calls : List Call) (state : State) → All (λ (call : Call). call.cpu < shape.cpus) calls → IsStart shape state → GetsFrom shape number calls state
gets_from shape created number calls state served start = by (is_lru shape.kind) shape.common refl refl
  where
    enough : HasEnough shape
    enough = enough_of shape (bounds_of_shape shape created)

    by : (lru common : Bool) → is_lru shape.kind ≡ lru → shape.common ≡ common → GetsFrom shape number calls state
    by false common plain is = never_enomem shape (λ state. Unit {0}) (λ cpu number within. plain_law shape cpu number plain) number calls state served tt
    by true true lru common = never_enomem shape (SomeShared shape) (shared_law shape common) number calls state served
        (shared_some shape state (start.rests lru) common (MatchBool-at_true (1 ≤ shape.elements) (shape.cpus ≤ shape.elements) common (enough lru)))
    by true false lru apart = never_enomem shape (EachOwn shape) (own_law shape apart) number calls state served
        (own_some shape state (start.rests lru) apart (MatchBool-at_false (1 ≤ shape.elements) (shape.cpus ≤ shape.elements) apart (enough lru)))

-- What the calls add

logs_by : (shape : Shape) (cpu number : ℕ) (turns : List Turn) (state : State) (lock : DomainId) → (all_turned shape cpu number turns state).logs lock ≡ state.logs lock ++ added_by cpu number turns state.next_ticket lock
logs_by shape cpu number [] state lock = sym (append-nil (state.logs lock))
logs_by shape cpu number (turn ∷ turns) state lock = logs_by shape cpu number turns (turned shape cpu number turn state) lock ∙ by (is_same_lock turn.lock lock)
  where
    entry : Entry
    entry = record { ticket = state.next_ticket; cpu = cpu; call = number; part = turn.part }

    by : (b : Bool) → cond b (state.logs lock ++ entry ∷ []) (state.logs lock) ++ added_by cpu number turns (suc state.next_ticket) lock
        ≡ state.logs lock ++ cond b (entry ∷ added_by cpu number turns (suc state.next_ticket) lock) (added_by cpu number turns (suc state.next_ticket) lock)
    by true = append_assoc (state.logs lock) (entry ∷ []) (added_by cpu number turns (suc state.next_ticket) lock)
    by false = refl

pub logs_from : (shape : Shape) (number : ℕ) (calls : List Call) (state : State) (lock : DomainId) → (run shape number calls state).logs lock ≡ state.logs lock ++ added shape number calls state lock
logs_from shape number [] state lock = sym (append-nil (state.logs lock))
logs_from shape number (call ∷ calls) state lock =
    let turns : List Turn = (does shape call.cpu number state call.verb).turns in
    let later : State = after_one shape number call state in
    logs_from shape (suc number) calls later lock ∙ (ap (λ (entries : List Entry). entries ++ added shape (suc number) calls later lock) (logs_by shape call.cpu number turns state lock)
    ∙ append_assoc (state.logs lock) (added_by call.cpu number turns state.next_ticket lock) (added shape (suc number) calls later lock))

-- their tickets

pub tickets_after : (shape : Shape) (cpu number : ℕ) (turns : List Turn) (state : State) → (all_turned shape cpu number turns state).next_ticket ≡ state.next_ticket + length turns
tickets_after shape cpu number [] state = omega arith
tickets_after shape cpu number (turn ∷ turns) state = omega (arith, tickets_after shape cpu number turns (turned shape cpu number turn state))

ascend_by : (cpu number : ℕ) (turns : List Turn) (ticket : ℕ) (lock : DomainId) → AscendIn ticket (tickets_of (added_by cpu number turns ticket lock)) (ticket + length turns)
ascend_by cpu number [] ticket lock = omega arith
ascend_by cpu number (turn ∷ turns) ticket lock =
    let same : suc ticket + length turns ≡ ticket + suc (length turns) = omega arith in
    by (is_same_lock turn.lock lock) (subst (λ (to : ℕ). AscendIn (suc ticket) (tickets_of (added_by cpu number turns (suc ticket) lock)) to) same (ascend_by cpu number turns (suc ticket) lock))
  where
    by : (b : Bool) → AscendIn (suc ticket) (tickets_of (added_by cpu number turns (suc ticket) lock)) (ticket + suc (length turns)) → AscendIn ticket (tickets_of (cond b ((record { ticket = ticket; cpu = cpu; call = number; part = turn.part }) ∷ added_by cpu number turns (suc ticket) lock) (added_by cpu number turns (suc ticket) lock))) (ticket + suc (length turns))
    by true rest = (omega arith, rest)
    by false rest = ascend_from ticket (suc ticket) (tickets_of (added_by cpu number turns (suc ticket) lock)) (ticket + suc (length turns)) (omega arith) rest

-- what is added to each log has tickets from the state's next one on, in order
pub added_ascends : (shape : Shape) (number : ℕ) (calls : List Call) (state : State) (lock : DomainId) → AscendIn state.next_ticket (tickets_of (added shape number calls state lock)) (run shape number calls state).next_ticket
added_ascends shape number [] state lock = omega arith
added_ascends shape number (call ∷ calls) state lock =
    let turns : List Turn = (does shape call.cpu number state call.verb).turns in
    let later : State = after_one shape number call state in
    let here : List Entry = added_by call.cpu number turns state.next_ticket lock in
    let rest : List Entry = added shape (suc number) calls later lock in
    subst (λ (ts : List ℕ). AscendIn state.next_ticket ts (run shape (suc number) calls later).next_ticket) (sym (tickets_append here rest))
    (ascend_on state.next_ticket later.next_ticket (run shape (suc number) calls later).next_ticket (tickets_of here) (tickets_of rest)
    (subst (λ (to : ℕ). AscendIn state.next_ticket (tickets_of here) to) (sym (tickets_after shape call.cpu number turns state)) (ascend_by call.cpu number turns state.next_ticket lock))
    (added_ascends shape (suc number) calls later lock))

-- and no probe among it finds its element in a CPU's hand

abbrev IsFineEntry : Entry → Type 0
IsFineEntry entry = FindsNoneHeld entry.part

fine_by : (cpu number : ℕ) (turns : List Turn) (ticket : ℕ) (lock : DomainId) → AreFine turns → All (λ (entry : Entry). FindsNoneHeld entry.part) (added_by cpu number turns ticket lock)
fine_by cpu number [] ticket lock fine = All-nil IsFineEntry
fine_by cpu number (turn ∷ turns) ticket lock fine = by (is_same_lock turn.lock lock) (fine_by cpu number turns (suc ticket) lock (All-tail IsFine turn turns fine))
  where
    by : (b : Bool) → All (λ (entry : Entry). FindsNoneHeld entry.part) (added_by cpu number turns (suc ticket) lock) → All (λ (entry : Entry). FindsNoneHeld entry.part) (cond b ((record { ticket = ticket; cpu = cpu; call = number; part = turn.part }) ∷ added_by cpu number turns (suc ticket) lock) (added_by cpu number turns (suc ticket) lock))
    by true rest = All-cons IsFineEntry _ (added_by cpu number turns (suc ticket) lock) (All-head IsFine turn turns fine) rest
    by false rest = rest

pub fine_from : (shape : Shape) (number : ℕ) (calls : List Call) (state : State) (lock : DomainId) → All (λ (entry : Entry). FindsNoneHeld entry.part) (added shape number calls state lock)
fine_from shape number [] state lock = All-nil IsFineEntry
fine_from shape number (call ∷ calls) state lock =
    let turns : List Turn = (does shape call.cpu number state call.verb).turns in
    let later : State = after_one shape number call state in
    let did = does_right (fine_law shape call.cpu number) state tt call.verb (verb_passes call.verb) in
    All-append IsFineEntry (added_by call.cpu number turns state.next_ticket lock) (added shape (suc number) calls later lock)
    (fine_by call.cpu number turns state.next_ticket lock did.fits) (fine_from shape (suc number) calls later lock)

-- The start of a script is one such state.

pub created_always_gets : (shape : Shape) → IsShape shape → (calls : List Call) → All (λ (call : Call). call.cpu < shape.cpus) calls → AlwaysGets shape calls
created_always_gets shape created calls served = gets_from shape created 1 calls (new_state shape) served (new_start shape created)

pub always_removes : (shape : Shape) (calls : List Call) → AlwaysRemoves shape calls
always_removes shape calls lock = subst (All IsFineEntry) (sym (logs_from shape 1 calls (new_state shape) lock)) (fine_from shape 1 calls (new_state shape) lock)

pub every_run : (shape : Shape) → IsShape shape → (number : ℕ) (calls : List Call) → All (λ (call : Call). call.cpu < shape.cpus) calls
    → AreDone shape number calls (new_state shape) × IsOrderly shape (run shape number calls (new_state shape))
every_run shape created number calls served =
    let done = done_from shape number calls (new_state shape) served (new_start shape created) in
    (done.0, record { legal = done.1.legal; spares = done.1.spares })
