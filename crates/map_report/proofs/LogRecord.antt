-- What calls in serial order that do what the rules say are in a record: their turns are a strand of all CPUs, whatever the kind of
-- the map, and each CPU has its spare on.
use Rattle.std.proofs.Common.{◌≡◌, ◌≢◌, ℕ, suc, ◌<◌, Bool, true, false, cond, eqb, List, [], ◌∷◌, map, refl, ap, sym, ◌∙◌, subst, arith}
use Rattle.std.specs.Prelude.{Option, All, MatchBool}
use Rattle.std.specs.List.{range_with_len}
use Rattle.std.proofs.lemmas.Bool.{ne_eqb}
use Rattle.std.proofs.lemmas.List.Elements.{All-head, All-tail}
use Rattle.map_types.specs.declared.attr.Shape.{Shape}
use Rattle.map_types.specs.declared.call.Call.{Call}
use Rattle.map_types.specs.declared.kind.DomainId.{DomainId}
use Rattle.map_types.specs.ElementLists.{put}
use Rattle.map_types.specs.Kind.{is_lru}
use Rattle.map_types.proofs.RowLemmas.{by_test}
use Rattle.place_words.specs.declared.history.LockHistory.{LockHistory}
use Rattle.place_words.specs.Locks.{is_lock}
use Rattle.place_words.specs.Logs.{State, turned, all_turned, does, after_one, run, answers, placed}
use Rattle.place_words.specs.PlainTraces.{spare_after, spare_after_part}
use Rattle.place_words.specs.SerialOrder.{AreDone}
use Rattle.place_words.specs.Traces.{IsTrace}
use Rattle.place_words.specs.Turns.{Turn, turns_of}
use Rattle.place_words.specs.Walks.{spare_left}
use Rattle.place_words.proofs.PlacedLaws.{placed_turns, spares_after}
use Rattle.place_words.proofs.PlainLaws.{plain_spare}
use Rattle.map_report.specs.Runs.{steps_of_turns, steps_of_calls}
use Rattle.map_report.specs.Record.{IsConcatenation, has_cpu}
use Rattle.map_report.proofs.LogGrowth.{Grows, grows_both, grows_run}
use Rattle.map_report.proofs.LogNames.{histories, names_all}
use Rattle.map_report.proofs.LogSteps.{has_within, within_has}

chosen_first : (b : Bool) (A B : Type 0) → b ≡ true → A → MatchBool b A B
chosen_first true A B is it = it
chosen_first false A B is it = absurd cc

-- Spares: a call's turns leave other CPUs theirs, and on a map that evicts nobody has any

module _ (shape : Shape) (cpu number : ℕ) where
  other_spare : (turns : List Turn) (state : State) (c : ℕ) → c ≢ cpu → (all_turned shape cpu number turns state).spares c ≡ state.spares c
  unfolding put
  other_spare [] state c other = refl
  other_spare (turn ∷ turns) state c other = other_spare turns (turned shape cpu number turn state) c other ∙ by (is_lru shape.kind) (eqb c cpu) (ne_eqb c cpu other)
    where
      by : (lru same : Bool) → same ≡ false → (cond lru state.spares (λ j. cond (eqb j cpu) (spare_after_part (state.spares cpu) turn.part) (state.spares j))) c ≡ state.spares c
      by true same is = refl
      by false same is = ap (λ (b : Bool). cond b (spare_after_part (state.spares cpu) turn.part) (state.spares c)) (ne_eqb c cpu other)

  lru_spare : (turns : List Turn) (state : State) → is_lru shape.kind ≡ true → (all_turned shape cpu number turns state).spares cpu ≡ state.spares cpu
  lru_spare [] state lru = refl
  lru_spare (turn ∷ turns) state lru =
      lru_spare turns (turned shape cpu number turn state) lru ∙ ap (λ (b : Bool). (cond b state.spares (put state.spares cpu (spare_after_part (state.spares cpu) turn.part))) cpu) lru

  own_spare : (turns : List Turn) (state : State) → spare_left shape (state.spares cpu) (placed shape cpu number turns state) ≡ (all_turned shape cpu number turns state).spares cpu
  own_spare turns state = by (is_lru shape.kind) refl
    where
      by : (lru : Bool) → is_lru shape.kind ≡ lru → spare_left shape (state.spares cpu) (placed shape cpu number turns state) ≡ (all_turned shape cpu number turns state).spares cpu
      by true lru = ap (λ (b : Bool). cond b (state.spares cpu) (spare_after (state.spares cpu) (turns_of (placed shape cpu number turns state)))) lru ∙ sym (lru_spare turns state lru)
      by false plain = plain_spare shape (state.spares cpu) (placed shape cpu number turns state) plain ∙ ap (spare_after (state.spares cpu)) (placed_turns shape cpu number turns state) ∙ sym (spares_after shape cpu number turns state plain)

  next_spares : (turns : List Turn) (state : State) (spares : ℕ → Option ℕ) → cpu < shape.cpus → ((c : ℕ) → c < shape.cpus → spares c ≡ state.spares c)
      → (c : ℕ) → c < shape.cpus → put spares cpu (spare_left shape (spares cpu) (placed shape cpu number turns state)) c ≡ (all_turned shape cpu number turns state).spares c
  unfolding put
  next_spares turns state spares within same c below =
      by_test c cpu (λ b. cond b (spare_left shape (spares cpu) (placed shape cpu number turns state)) (spares c) ≡ (all_turned shape cpu number turns state).spares c)
      (λ is. ap (λ (spare : Option ℕ). spare_left shape spare (placed shape cpu number turns state)) (same cpu within) ∙ own_spare turns state ∙ ap (λ (n : ℕ). (all_turned shape cpu number turns state).spares n) (sym is))
      (λ other. same c below ∙ sym (other_spare turns state c other))

-- A strand of all CPUs

module _ (shape : Shape) (end : State) (ours : (lock : DomainId) → is_lock shape lock ≡ false → end.logs lock ≡ []) (last : ℕ → Option ℕ) where
  pub strand_is : (number : ℕ) (calls : List Call) (state : State) (spares : ℕ → Option ℕ) → All (λ (call : Call). call.cpu < shape.cpus) calls → AreDone shape number calls state
      → ((c : ℕ) → c < shape.cpus → spares c ≡ state.spares c) → Grows (run shape number calls state) end → ((c : ℕ) → c < shape.cpus → last c ≡ (run shape number calls state).spares c)
      → IsConcatenation shape (histories shape end ours) (range_with_len 0 shape.cpus) number calls (answers shape number calls state) spares last (steps_of_calls shape number calls state)
  strand_is number [] state spares served done same grows ends =
      (refl, λ c has. let below : c < shape.cpus = omega (arith, within_has c 0 shape.cpus has) in ends c below ∙ sym (same c below))
  strand_is number (call ∷ calls) state spares served done same grows ends =
      let cpu : ℕ = call.cpu in
      let turns : List Turn = (does shape cpu number state call.verb).turns in
      let next : State = after_one shape number call state in
      let within : cpu < shape.cpus = All-head (λ (one : Call). one.cpu < shape.cpus) call calls served in
      chosen_first (has_cpu cpu (range_with_len 0 shape.cpus)) _ _ (has_within cpu 0 shape.cpus (omega arith) (omega (arith, within))) (
        steps_of_turns shape cpu number turns state,
        steps_of_calls shape (suc number) calls next,
        placed shape cpu number turns state,
        refl,
        record {
          names = names_all shape end ours cpu number turns state (grows_both next (run shape (suc number) calls next) end (grows_run shape (suc number) calls next) grows);
          trace = subst (λ (spare : Option ℕ). IsTrace shape cpu spare call.verb (placed shape cpu number turns state) (does shape cpu number state call.verb).reply) (sym (same cpu within)) done.0.trace;
        },
        strand_is (suc number) calls next (put spares cpu (spare_left shape (spares cpu) (placed shape cpu number turns state))) (All-tail (λ (one : Call). one.cpu < shape.cpus) call calls served) done.1
            (next_spares shape cpu number turns state spares within same) grows ends,
      )

-- The histories

pub locks_told : (state : State) (locks : List DomainId) → map (λ (history : LockHistory). history.lock) (map (λ lock. record { lock = lock; entries = state.logs lock }) locks) ≡ locks
locks_told state [] = refl
locks_told state (lock ∷ locks) = ap (λ (l : List DomainId). lock ∷ l) (locks_told state locks)
