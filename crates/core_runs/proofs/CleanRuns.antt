-- Every run in serial order is a run of the core, from any state in which no call is under way: its calls do what the rules say, find
-- no element in a hand, and use only locks of the map. At the opening the spares are in the hands of their CPUs.
use Rattle.std.proofs.Common.{◌≡◌, ◌⊎◌, ℕ, zero, suc, ◌+◌, ◌<◌, ◌≤◌, Bool, true, false, cond, not, eqb, ltb, List, [], ◌∷◌, ◌++◌, length, Option, None, Some, refl, ap, ◌∙◌, sym, subst, arith, inl, inr}
use Rattle.std.specs.Prelude.{All, IsTrue, is_some, slice_get, position, unwrap_or}
use Rattle.std.specs.List.{position_or_len, range_with_len}
use Rattle.std.specs.Int.{IsPowerOfTwo}
use Rattle.std.proofs.lemmas.Bool.{true≢false, lt-ltb, ltb-true}
use Rattle.std.proofs.lemmas.List.{append-nil}
use Rattle.std.proofs.lemmas.List.Elements.{All-nil, All-cons, All-head, All-tail}
use Rattle.map_types.specs.Creation.{IsShape}
use Rattle.map_types.specs.declared.attr.Shape.{Shape}
use Rattle.map_types.specs.declared.call.Call.{Call}
use Rattle.map_types.specs.declared.kind.DomainId.{DomainId}
use Rattle.map_types.specs.declared.kind.DomainId.TheVariants.{CpuLru}
use Rattle.map_types.specs.declared.kind.MapKind.{MapKind}
use Rattle.map_types.specs.declared.kind.MapKind.TheVariants.{Hash, PercpuHash, LruHash, LruPercpuHash}
use Rattle.map_types.specs.ElementLists.{times, one}
use Rattle.map_types.specs.Kind.{is_lru}
use Rattle.map_types.specs.Shape.{HasBounds}
use Rattle.map_types.proofs.CreationLemmas.{bounds_of_shape}
use Rattle.map_types.proofs.RowLemmas.{by_test}
use Rattle.place_words.specs.declared.history.Entry.{Entry}
use Rattle.place_words.specs.declared.history.LockHistory.{LockHistory}
use Rattle.place_words.specs.declared.history.Part.TheVariants as parts
use Rattle.place_words.specs.declared.list_part.OwnPart.TheVariants as own
use Rattle.place_words.specs.declared.owner.Owner.TheVariants as owners
use Rattle.place_words.specs.Histories.{Allows, content, opening_content, replayed}
use Rattle.place_words.specs.Locks.{is_lock}
use Rattle.place_words.specs.Logs.{State, lies_in, turned, placed, does, after_one, run, new_state}
use Rattle.place_words.specs.Named.{entries_of}
use Rattle.place_words.specs.Openings.{first_spares, opening_owner, opening_spares, spare_owner}
use Rattle.place_words.specs.SerialOrder.{AreDone}
use Rattle.place_words.specs.Turns.{Turn, AreLegalAt, on_lock}
use Rattle.place_words.specs.Tickets.{all_entries}
use Rattle.place_words.proofs.AlwaysRemoved.{fine_law}
use Rattle.place_words.proofs.AnyStart.{IsStart, done_from, new_start}
use Rattle.place_words.proofs.EachTurn.{does_right, verb_passes}
use Rattle.place_words.proofs.OnLocks.{IsOurs, AreOurs, StealsWithin, HasNoOthers, never_pushed, turned_no_others, all_no_others, steals_stay, first_steals, ours_law}
use Rattle.place_words.proofs.PlainOpening.{spares_within}
use Rattle.place_words.specs.OpeningState.{opening}
use Rattle.place_words.specs.Interleaving.{Drawn, CoreRun, interleaved, AreEnabled}
use Rattle.core_runs.proofs.AllRuns.{AreServed, AreClean, evicting_all}
use Rattle.core_runs.proofs.CallTurns.{drawn_calls, opening_tied}
use Rattle.core_runs.proofs.Nests.{AreFrom}
use Rattle.core_runs.proofs.OwnCalls.{Nobody}
use Rattle.core_runs.proofs.OwnNest.{weaker}
use Rattle.core_runs.proofs.PlainGoes.{AreSpares}
use Rattle.core_runs.proofs.PlainRuns.{core_lists}
use Rattle.core_runs.proofs.SerialCore.{plain_all, calls_tickets, calls_count, calls_logs}
use Rattle.core_runs.proofs.SharedCalls.{AreOnLocks}
use Rattle.core_runs.proofs.Tied.{IsTied}

-- Locks

on_one : (shape : Shape) (cpu : ℕ) (turn : Turn) (state : State) → IsOurs shape turn → Allows shape cpu turn.part (lies_in shape state turn.lock) → HasNoOthers shape state → IsTrue (is_lock shape turn.lock)
on_one shape cpu turn state ours allowed none = by ours.1
  where
    pushed : (on e : ℕ) → turn ≡ on_lock (CpuLru on) (parts.Own (own.Push e)) → (b : Bool) → is_lock shape turn.lock ≡ b → b ≡ true
    pushed on e is true lock = refl
    pushed on e is false lock =
        let set : turn.lock ≡ CpuLru on = ap (λ (t : Turn). t.lock) is in
        let empty : state.logs (CpuLru on) ≡ [] = none (CpuLru on) (ap (is_lock shape) (sym set) ∙ lock) in
        absurd (never_pushed shape cpu on e (subst (λ (entries : List Entry). Allows shape cpu (parts.Own (own.Push e)) (content shape (CpuLru on) entries)) empty (subst (λ (t : Turn). Allows shape cpu t.part (lies_in shape state t.lock)) is allowed)))

    by : (is_lock shape turn.lock ≡ true) ⊎ ((on : ℕ) × (e : ℕ) × (turn ≡ on_lock (CpuLru on) (parts.Own (own.Push e)))) → IsTrue (is_lock shape turn.lock)
    by (inl is) = is
    by (inr (on, e, is)) = pushed on e is (is_lock shape turn.lock) refl

on_ours : (shape : Shape) (cpu number : ℕ) (turns : List Turn) (state : State) → AreOurs shape turns → AreLegalAt shape cpu (placed shape cpu number turns state) → HasNoOthers shape state → AreOnLocks shape turns
on_ours shape cpu number [] state ours legal none = All-nil (λ (t : Turn). IsTrue (is_lock shape t.lock))
on_ours shape cpu number (turn ∷ turns) state ours legal none =
    All-cons (λ (t : Turn). IsTrue (is_lock shape t.lock)) turn turns (on_one shape cpu turn state ours.0 legal.0.1 none)
    (on_ours shape cpu number turns (turned shape cpu number turn state) ours.1 legal.1 (turned_no_others shape cpu number turn state ours.0 legal.0.1 none))

all_clean : (shape : Shape) → IsPowerOfTwo shape.buckets → (calls : List Call) (number : ℕ) (state : State) → AreServed shape calls → AreDone shape number calls state → StealsWithin shape state → HasNoOthers shape state → AreClean shape number calls state
all_clean shape power [] number state served done steals none = tt
all_clean shape power (call ∷ calls) number state served done steals none =
    let turns : List Turn = (does shape call.cpu number state call.verb).turns in
    let fine = does_right (fine_law shape call.cpu number) state tt call.verb (verb_passes call.verb) in
    let right = does_right (ours_law shape power call.cpu number served.0) state steals call.verb (verb_passes call.verb) in (
      (fine.fits, on_ours shape call.cpu number turns state right.fits done.0.legal none),
      all_clean shape power calls (suc number) (after_one shape number call state) served.1 done.1 (steals_stay shape call.cpu number turns right.fits state steals)
          (all_no_others shape call.cpu number turns state right.fits done.0.legal none),
    )

all_served : (shape : Shape) (calls : List Call) → All (λ (call : Call). call.cpu < shape.cpus) calls → AreServed shape calls
all_served shape [] served = tt
all_served shape (call ∷ calls) served = (All-head (λ (c : Call). c.cpu < shape.cpus) call calls served, all_served shape calls (All-tail (λ (c : Call). c.cpu < shape.cpus) call calls served))

-- Spares

some_one : (x e : ℕ) → Some x ≡ Some e → x ≡ e
some_one x e is = ap (λ o. unwrap_or o e) is

there : (e : ℕ) (xs : List ℕ) (c : ℕ) → slice_get xs c ≡ Some e → 1 ≤ times e xs
there e [] c is = absurd (true≢false (sym (ap is_some is)))
there e (x ∷ xs) zero is = by_test x e (λ b. 1 ≤ cond b (suc (times e xs)) (times e xs)) (λ same. omega arith) (λ other. absurd (other (some_one x e is)))
there e (x ∷ xs) (suc c) is = by_test x e (λ b. 1 ≤ cond b (suc (times e xs)) (times e xs)) (λ same. omega arith) (λ other. there e xs c is)

-- the place of an element that stands once
stands : (e : ℕ) (xs : List ℕ) (c : ℕ) → slice_get xs c ≡ Some e → times e xs ≤ 1 → (position_or_len (λ x. eqb x e) xs ≡ c) × (c < length xs)
stands e [] c is few = absurd (true≢false (sym (ap is_some is)))
stands e (x ∷ xs) zero is few =
    by_test x e (λ b. (cond (not b) (1 + position_or_len (λ y. eqb y e) xs) 0 ≡ 0) × (0 < suc (length xs)))
    (λ same. (refl, omega arith))
    (λ other. absurd (other (some_one x e is)))
stands e (x ∷ xs) (suc c) is few =
    by_test x e (λ b. cond b (suc (times e xs)) (times e xs) ≤ 1 → (cond (not b) (1 + position_or_len (λ y. eqb y e) xs) 0 ≡ suc c) × (suc c < suc (length xs)))
    (λ same less. let one : 1 ≤ times e xs = there e xs c is in absurd (omega (arith, one, less)))
    (λ other less. let rest = stands e xs c is less in (omega (arith, rest.0), omega (arith, rest.1)))
    few

placed_at : (e : ℕ) (xs : List ℕ) (c : ℕ) → slice_get xs c ≡ Some e → times e xs ≤ 1 → spare_owner (position (λ x. eqb x e) xs) ≡ owners.Hand c
placed_at e xs c is few =
    let at = stands e xs c is few in
    by (ltb (position_or_len (λ x. eqb x e) xs) (length xs)) (lt-ltb _ _ (omega (arith, at.0, at.1))) at.0
  where
    by : (b : Bool) → b ≡ true → position_or_len (λ x. eqb x e) xs ≡ c → spare_owner (cond b (Some (position_or_len (λ x. eqb x e) xs)) None) ≡ owners.Hand c
    by true within at = ap owners.Hand at
    by false within at = absurd cc

one_few : (b : Bool) → one b ≤ 1
one_few true = omega arith
one_few false = omega arith

one_true : (b : Bool) → 1 ≤ one b → b ≡ true
one_true true some = refl
one_true false some = absurd (omega (arith, some))

known : (shape : Shape) → HasBounds shape → (kind : MapKind) (c e : ℕ) → slice_get (first_spares shape kind) c ≡ Some e → (ltb e shape.elements ≡ true) × (opening_owner shape kind e ≡ owners.Hand c)
unfolding opening_owner
known shape bounds Hash c e is =
    let within = spares_within shape bounds e in
    let few = one_few (ltb e shape.elements) in
    let some = there e (opening_spares shape) c is in
    (one_true (ltb e shape.elements) (omega (arith, within, some)), placed_at e (opening_spares shape) c is (omega (arith, within, few)))
known shape bounds PercpuHash c e is = absurd (true≢false (sym (ap is_some is)))
known shape bounds LruHash c e is = absurd (true≢false (sym (ap is_some is)))
known shape bounds LruPercpuHash c e is = absurd (true≢false (sym (ap is_some is)))

pub first_known : (shape : Shape) → HasBounds shape → (c e : ℕ) → slice_get (first_spares shape shape.kind) c ≡ Some e → (e < shape.elements) × ((opening shape).owner e ≡ owners.Hand c)
unfolding opening
first_known shape bounds c e is =
    let one = known shape bounds shape.kind c e is in
    (ltb-true e shape.elements one.0, ap (λ b. cond b (opening_owner shape shape.kind e) owners.Free) one.0 ∙ one.1)

-- Runs

-- The core between calls: no lock is held, its lists are what lies under the locks, and each spare is in the hand of its CPU.
abbrev pub IsBetween : Shape → State → Rattle.place_words.specs.State.State → Type 0
IsBetween shape state s = IsTied shape 0 [] (core_lists (lies_in shape state)) (AreSpares state.spares) s

-- From any state in which no call is under way the turns of calls in serial order are a run of the core, and whatever comes after them
-- runs from the states after them: so a run may be cut anywhere between calls, as at the start of a phase.
pub calls_go : (shape : Shape) → IsShape shape → (number : ℕ) (calls : List Call) (state : State) → All (λ (call : Call). call.cpu < shape.cpus) calls → IsStart shape state → StealsWithin shape state → HasNoOthers shape state
    → (s : Rattle.place_words.specs.State.State) (more : List Drawn) → IsBetween shape state s → AreFrom (run shape number calls state).next_ticket more
    → ((t : Rattle.place_words.specs.State.State) → IsBetween shape (run shape number calls state) t → AreEnabled shape t (interleaved shape (lies_in shape (run shape number calls state)) [] more))
    → AreEnabled shape s (interleaved shape (lies_in shape state) [] (drawn_calls shape number calls state ++ more))
calls_go shape created number calls state served start steals none s more between from then = by (is_lru shape.kind) refl
  where
    bounds : HasBounds shape
    bounds = bounds_of_shape shape created

    done : AreDone shape number calls state × IsStart shape (run shape number calls state)
    done = done_from shape number calls state served start

    each : AreServed shape calls
    each = all_served shape calls served

    -- on a map that evicts no CPU has a spare
    no_spare : (spares : ℕ → Option ℕ) → ((c : ℕ) → spares c ≡ None) → (c x : ℕ) → AreSpares spares c x → Nobody c x
    no_spare spares are c x have = absurd (true≢false (sym (ap is_some (sym (are c) ∙ have))))

    by : (lru : Bool) → is_lru shape.kind ≡ lru → AreEnabled shape s (interleaved shape (lies_in shape state) [] (drawn_calls shape number calls state ++ more))
    by true is =
        evicting_all bounds is calls number state s more each done.0 (all_clean shape bounds.buckets_power calls number state each done.0 steals none) from
        (weaker (λ c x nobody. absurd nobody) between)
        (λ t held. then t (weaker (no_spare (run shape number calls state).spares (done.1.no_spares is)) held))
    by false is = plain_all bounds is calls number state s more each done.0 from between then

pub serial_runs : (shape : Shape) → IsShape shape → (calls : List Call) → All (λ (call : Call). call.cpu < shape.cpus) calls → (histories : List LockHistory)
    → ((lock : DomainId) → IsTrue (is_lock shape lock) → entries_of histories lock ≡ (run shape 1 calls (new_state shape)).logs lock)
    → length (all_entries histories) ≡ (run shape 1 calls (new_state shape)).next_ticket → CoreRun shape histories
unfolding replayed interleaved AreEnabled
serial_runs shape created calls served histories are counted = record {
  turns = turns;
  in_order = calls_tickets shape 1 calls (new_state shape) ∙ ap (λ (n : ℕ). range_with_len 0 n) (let count = calls_count shape 1 calls (new_state shape) in omega (arith, count, counted));
  histories_are = λ lock is. sym (calls_logs shape 1 lock calls (new_state shape)) ∙ sym (are lock is);
  are_enabled = subst (λ (l : List Drawn). AreEnabled shape (opening shape) (interleaved shape (opening_content shape) [] l)) (append-nil turns)
      (calls_go shape created 1 calls (new_state shape) served (new_start shape created) (first_steals shape) (λ lock other. refl) (opening shape) [] opened tt (λ t held. tt));
}
  where
    turns : List Drawn
    turns = drawn_calls shape 1 calls (new_state shape)

    opened : IsBetween shape (new_state shape) (opening shape)
    opened = opening_tied shape (bounds_of_shape shape created) (first_known shape (bounds_of_shape shape created))
