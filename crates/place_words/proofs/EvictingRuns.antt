-- A run of a map that evicts in serial order: every call does what the rules say, from every state that a run reaches.
use Rattle.std.proofs.Common.{◌≡◌, ℕ, suc, ◌<◌, Bool, true, false, List, [], ◌∷◌, refl, ap, ◌∙◌, sym, subst}
use Rattle.std.specs.Prelude.{All, Option, None, slice_get}
use Rattle.std.proofs.lemmas.Bool.{cond-true}
use Rattle.std.proofs.lemmas.List.Elements.{All-head, All-tail}
use Rattle.map_types.specs.declared.attr.Shape.{Shape}
use Rattle.map_types.specs.declared.call.Call.{Call}
use Rattle.map_types.specs.declared.call.Verb.{Verb}
use Rattle.map_types.specs.declared.kind.MapKind.{MapKind}
use Rattle.map_types.specs.declared.kind.MapKind.TheVariants.{Hash, PercpuHash, LruHash, LruPercpuHash}
use Rattle.map_types.specs.Kind.{is_lru}
use Rattle.map_types.specs.Shape.{HasBounds}
use Rattle.place_words.specs.Logs.{State, lies_in, turned, all_turned, new_state, does, after_one, run, IsDone}
use Rattle.place_words.specs.Openings.{first_spares}
use Rattle.place_words.specs.SerialOrder.{AreDone}
use Rattle.place_words.specs.Turns.{Turn}
use Rattle.place_words.proofs.BatchesDone.{call_kept}
use Rattle.place_words.proofs.EvictingDone.{IsAtRest}
use Rattle.place_words.proofs.OpeningSettled.{first_rests, first_legal}
use Rattle.place_words.proofs.OwnDone.{own_supplies}
use Rattle.place_words.proofs.PlacedContents.{lies_after_all}
use Rattle.place_words.proofs.PlacedLaws.{AreLegal, legally_allowed}
use Rattle.place_words.proofs.SharedDone.{shared_supplies}
use Rattle.place_words.proofs.Supplies.{Supplies}

-- each CPU of a map that evicts gives elements out and takes them back by the rules
pub supplies : (shape : Shape) (cpu : ℕ) → cpu < shape.cpus → Supplies shape cpu
supplies shape cpu within = by shape.common refl
  where
    by : (common : Bool) → shape.common ≡ common → Supplies shape cpu
    by true is = shared_supplies shape cpu is within
    by false is = own_supplies shape cpu is within

-- Between calls every history is legal and nothing is in hand, and there are no spares.
pub record IsReached (shape : Shape) (state : State) : Type 0 where
  pub legal : AreLegal shape state
  pub rests : IsAtRest shape (lies_in shape state)
  pub no_spares : (cpu : ℕ) → state.spares cpu ≡ None

spares_kept : (shape : Shape) (cpu number : ℕ) → is_lru shape.kind ≡ true → (turns : List Turn) (state : State) → (all_turned shape cpu number turns state).spares ≡ state.spares
spares_kept shape cpu number lru [] state = refl
spares_kept shape cpu number lru (turn ∷ turns) state = spares_kept shape cpu number lru turns (turned shape cpu number turn state) ∙ cond-true (is_lru shape.kind) _ _ lru

none_first : (shape : Shape) (kind : MapKind) (cpu : ℕ) → is_lru kind ≡ true → slice_get (first_spares shape kind) cpu ≡ None
none_first shape Hash cpu is = absurd cc
none_first shape PercpuHash cpu is = absurd cc
none_first shape LruHash cpu is = refl
none_first shape LruPercpuHash cpu is = refl

pub new_reached : (shape : Shape) → HasBounds shape → is_lru shape.kind ≡ true → IsReached shape (new_state shape)
new_reached shape bounds lru = record { legal = first_legal shape bounds lru; rests = first_rests shape bounds lru; no_spares = λ cpu. none_first shape shape.kind cpu lru }

module _ (shape : Shape) (lru : is_lru shape.kind ≡ true) where
  -- one call, of any kind
  pub call_done : (cpu number : ℕ) (verb : Verb) (state : State) → cpu < shape.cpus → IsReached shape state → IsDone shape cpu number verb state
  call_done cpu number verb state within reached =
      let kept = call_kept shape cpu number (supplies shape cpu within) lru state reached.rests (state.spares cpu) verb in
      record { trace = kept.trace; legal = (legally_allowed shape cpu number (does shape cpu number state verb).turns state reached.legal kept.allowed).at_place }

  pub call_reaches : (number : ℕ) (call : Call) (state : State) → call.cpu < shape.cpus → IsReached shape state → IsReached shape (after_one shape number call state)
  call_reaches number call state within reached =
      let turns : List Turn = (does shape call.cpu number state call.verb).turns in
      let kept = call_kept shape call.cpu number (supplies shape call.cpu within) lru state reached.rests (state.spares call.cpu) call.verb in
      record {
        legal = (legally_allowed shape call.cpu number turns state reached.legal kept.allowed).after;
        rests = subst (IsAtRest shape) (sym (lies_after_all shape call.cpu number turns state)) kept.settled;
        no_spares = λ cpu. ap (λ (spares : ℕ → Option ℕ). spares cpu) (spares_kept shape call.cpu number lru turns state) ∙ reached.no_spares cpu;
      }

  -- every call of a run, and the map after it
  pub run_done : (number : ℕ) (calls : List Call) (state : State) → All (λ (call : Call). call.cpu < shape.cpus) calls → IsReached shape state → AreDone shape number calls state × IsReached shape (run shape number calls state)
  run_done number [] state served reached = (tt, reached)
  run_done number (call ∷ calls) state served reached =
      let within = All-head (λ (c : Call). c.cpu < shape.cpus) call calls served in
      let rest = run_done (suc number) calls (after_one shape number call state) (All-tail (λ (c : Call). c.cpu < shape.cpus) call calls served) (call_reaches number call state within reached) in
      ((call_done call.cpu number call.verb state within reached, rest.0), rest.1)
