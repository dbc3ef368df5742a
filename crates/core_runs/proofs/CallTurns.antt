-- The turns of the calls of a run in serial order, with their tickets, and the core at the opening of a map.
use Rattle.std.proofs.Common.{◌≡◌, ◌≢◌, ℕ, suc, ◌+◌, ◌<◌, ◌≤◌, Bool, true, false, cond, List, [], ◌∷◌, ◌++◌, length, Option, None, Some, refl, ap, ◌∙◌, subst, arith}
use Rattle.std.specs.Prelude.{MatchBool, slice_get}
use Rattle.std.proofs.lemmas.Bool.{cond-false}
use Rattle.map_types.specs.declared.attr.Shape.{Shape}
use Rattle.map_types.specs.declared.call.Call.{Call}
use Rattle.map_types.specs.declared.kind.DomainId.{DomainId}
use Rattle.map_types.specs.declared.kind.DomainId.TheVariants.{Local, Global, CpuLru, Bucket, Freelist}
use Rattle.map_types.specs.Kind.{is_lru}
use Rattle.map_types.specs.Shape.{HasBounds}
use Rattle.map_types.specs.ElementLists.{put}
use Rattle.map_types.proofs.RowLemmas.{by_test}
use Rattle.place_words.specs.Histories.{Content, opening_content, replayed}
use Rattle.place_words.specs.Locks.{is_lock, lock_named}
use Rattle.place_words.specs.Logs.{State, lies_in, turned, all_turned, placed, does, after_one, run, new_state}
use Rattle.place_words.specs.Openings.{first_spares, opening_free, opening_pushed}
use Rattle.place_words.specs.PlainTraces.{spare_after_part}
use Rattle.place_words.specs.Turns.{Turn, AreAllowed, AreLegalAt}
use Rattle.place_words.proofs.AnyStart.{tickets_after}
use Rattle.place_words.proofs.PlacedLaws.{lies_after}
use Rattle.place_words.specs.declared.step.Lists.{Lists}
use Rattle.place_words.specs.OpeningState.{opening, opening_lists}
use Rattle.place_words.proofs.OpeningLaws.{opening_placed}
use Rattle.place_words.specs.Interleaving.{Drawn, lists_in}
use Rattle.core_runs.proofs.Nests.{stamped, stamped_from, AreFrom, from_both, from_less}
use Rattle.core_runs.proofs.PlainGoes.{AreSpares}
use Rattle.core_runs.proofs.PlainRuns.{core_lists}
use Rattle.core_runs.proofs.Tied.{IsTied}

-- the turns of calls from a state on, which draw their tickets one after another
abbrev pub drawn_calls : Shape → ℕ → List Call → State → List Drawn
drawn_calls shape number [] state = []
drawn_calls shape number (call ∷ calls) state =
    stamped state.next_ticket call.cpu number (does shape call.cpu number state call.verb).turns
    ++ drawn_calls shape (suc number) calls (after_one shape number call state)

pub calls_from : (shape : Shape) (number : ℕ) (calls : List Call) (state : State) → AreFrom state.next_ticket (drawn_calls shape number calls state)
calls_from shape number [] state = tt
calls_from shape number (call ∷ calls) state =
    let turns : List Turn = (does shape call.cpu number state call.verb).turns in
    let later : State = after_one shape number call state in
    let rest : List Drawn = drawn_calls shape (suc number) calls later in
    let more = tickets_after shape call.cpu number turns state in
    from_both state.next_ticket (stamped state.next_ticket call.cpu number turns) rest (stamped_from state.next_ticket call.cpu number turns) (from_less state.next_ticket later.next_ticket rest (omega (arith, more)) (calls_from shape (suc number) calls later))

-- the ticket count never falls
pub tickets_grow : (shape : Shape) (number : ℕ) (calls : List Call) (state : State) → state.next_ticket ≤ (run shape number calls state).next_ticket
tickets_grow shape number [] state = omega arith
tickets_grow shape number (call ∷ calls) state =
    let more = tickets_after shape call.cpu number (does shape call.cpu number state call.verb).turns state in
    omega (arith, more, tickets_grow shape (suc number) calls (after_one shape number call state))

-- What stands behind a call's turns, where more stands behind the calls, has later tickets than these turns.
pub behind_call : (shape : Shape) (number : ℕ) (call : Call) (calls : List Call) (state : State) (more : List Drawn) → AreFrom (run shape number (call ∷ calls) state).next_ticket more
    → AreFrom (state.next_ticket + length (does shape call.cpu number state call.verb).turns) (drawn_calls shape (suc number) calls (after_one shape number call state) ++ more)
behind_call shape number call calls state more from =
    let later : State = after_one shape number call state in
    let rest : List Drawn = drawn_calls shape (suc number) calls later in
    subst (λ (n : ℕ). AreFrom n (rest ++ more)) (tickets_after shape call.cpu number (does shape call.cpu number state call.verb).turns state)
    (from_both later.next_ticket rest more (calls_from shape (suc number) calls later) (from_less later.next_ticket (run shape (suc number) calls later).next_ticket more (tickets_grow shape (suc number) calls later) from))

-- turns that stand in legal histories may be made at their places
pub allowed_of_legal : (shape : Shape) (cpu number : ℕ) (turns : List Turn) (state : State) → AreLegalAt shape cpu (placed shape cpu number turns state) → AreAllowed shape cpu (lies_in shape state) turns
allowed_of_legal shape cpu number [] state legal = tt
allowed_of_legal shape cpu number (turn ∷ turns) state legal =
    (legal.0.1, subst (λ (contents : DomainId → Content). AreAllowed shape cpu contents turns) (lies_after shape cpu number turn state) (allowed_of_legal shape cpu number turns (turned shape cpu number turn state) legal.1))

-- the spares of the other CPUs stay
pub others_spares : (shape : Shape) (cpu number : ℕ) (turns : List Turn) (state : State) → is_lru shape.kind ≡ false → (c : ℕ) → c ≢ cpu → (all_turned shape cpu number turns state).spares c ≡ state.spares c
unfolding put
others_spares shape cpu number [] state plain c other = refl
others_spares shape cpu number (turn ∷ turns) state plain c other =
    others_spares shape cpu number turns (turned shape cpu number turn state) plain c other
    ∙ ap (λ (f : ℕ → Option ℕ). f c) (cond-false (is_lru shape.kind) state.spares (put state.spares cpu (spare_after_part (state.spares cpu) turn.part)) plain)
    ∙ by_test c cpu (λ b. cond b (spare_after_part (state.spares cpu) turn.part) (state.spares c) ≡ state.spares c) (λ same. absurd (other same)) (λ _. refl)

-- where nobody holds a lock, no CPU does
pub any_cpu : {shape : Shape} {cpu : ℕ} (other : ℕ) {lists : DomainId → Lists} {Known : ℕ → ℕ → Type 0} {s : Rattle.place_words.specs.State.State} → IsTied shape cpu [] lists Known s → IsTied shape other [] lists Known s
any_cpu other tied = record { holders = tied.holders; lists_are = tied.lists_are; placed = tied.placed; known = tied.known }

-- The opening
none_free : (shape : Shape) (lock : DomainId) → opening_pushed shape lock ≡ [] → opening_free shape lock ≡ []
unfolding opening_free
none_free shape lock none = go (is_lock shape lock)
  where
    go : (b : Bool) → cond b (Rattle.std.specs.Prelude.filter (λ e. Rattle.place_words.specs.Openings.is_free (Rattle.place_words.specs.Openings.opening_owner shape shape.kind e)) (opening_pushed shape lock)) [] ≡ []
    go true = ap (Rattle.std.specs.Prelude.filter (λ e. Rattle.place_words.specs.Openings.is_free (Rattle.place_words.specs.Openings.opening_owner shape shape.kind e))) none
    go false = refl

pub opening_is : (shape : Shape) (lock : DomainId) → (record { free = opening_free shape lock; first = []; second = []; cursor = None }) ≡ lists_in (opening_content shape lock)
opening_is shape (Local cpu) = ap (λ (xs : List ℕ). record { free = xs; first = []; second = []; cursor = None }) (none_free shape (Local cpu) refl)
opening_is shape Global = refl
opening_is shape (CpuLru cpu) = refl
opening_is shape (Bucket bucket) = ap (λ (xs : List ℕ). record { free = xs; first = []; second = []; cursor = None }) (none_free shape (Bucket bucket) refl)
opening_is shape (Freelist cpu) = refl

pub opening_tied : (shape : Shape) → HasBounds shape → ((c e : ℕ) → slice_get (first_spares shape shape.kind) c ≡ Some e → (e < shape.elements) × ((opening shape).owner e ≡ Rattle.place_words.specs.declared.owner.Owner.TheVariants.Hand c))
    → IsTied shape 0 [] (core_lists (lies_in shape (new_state shape))) (AreSpares (new_state shape).spares) (opening shape)
unfolding opening opening_lists replayed
opening_tied shape bounds spares = record {
  holders = λ k. refl;
  lists_are = λ k. opening_is shape (lock_named shape k);
  placed = opening_placed shape bounds;
  known = spares;
}
