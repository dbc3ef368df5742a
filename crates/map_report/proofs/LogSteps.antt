-- The steps of a run in serial order on a lock are the places of its log, each once and in order.
use Rattle.std.proofs.Common.{◌≡◌, ℕ, zero, suc, ◌+◌, ◌<◌, ◌≤◌, Bool, true, false, cond, ◌||◌, List, [], ◌∷◌, ◌++◌, length, refl, ap, sym, ◌∙◌, arith}
use Rattle.std.specs.List.{range_with_len}
use Rattle.std.proofs.lemmas.Bool.{both_ways}
use Rattle.std.proofs.lemmas.List.{append-nil, append_assoc, length-append}
use Rattle.map_types.specs.declared.attr.Shape.{Shape}
use Rattle.map_types.specs.declared.call.Call.{Call}
use Rattle.map_types.specs.declared.kind.DomainId.{DomainId}
use Rattle.map_types.proofs.RowLemmas.{by_test}
use Rattle.place_words.specs.declared.history.Entry.{Entry}
use Rattle.place_words.specs.declared.history.StrandStep.{StrandStep}
use Rattle.place_words.specs.Locks.{is_same_lock}
use Rattle.place_words.specs.Logs.{State, turned, all_turned, does, after_one, run}
use Rattle.place_words.specs.Strands.{places_on}
use Rattle.place_words.specs.Turns.{Turn}
use Rattle.place_words.proofs.LockLemmas.{one_lock}
use Rattle.map_report.specs.Runs.{steps_of_turns, steps_of_calls}
use Rattle.map_report.specs.Record.{has_cpu}

-- the CPUs of a map

pub has_within : (cpu from n : ℕ) → from ≤ cpu → cpu < from + n → has_cpu cpu (range_with_len from n) ≡ true
has_within cpu from zero least most = absurd (omega (arith, least, most))
has_within cpu from (suc n) least most =
    by_test from cpu (λ b. (b || has_cpu cpu (range_with_len (from + 1) n)) ≡ true) (λ same. refl) (λ other. has_within cpu (from + 1) n (omega (arith, least, other)) (omega (arith, most)))

pub within_has : (cpu from n : ℕ) → has_cpu cpu (range_with_len from n) ≡ true → cpu < from + n
within_has cpu from zero has = absurd (both_ways false refl has)
within_has cpu from (suc n) has =
    by_test from cpu (λ b. (b || has_cpu cpu (range_with_len (from + 1) n)) ≡ true → cpu < from + suc n)
    (λ same now. omega (arith, same))
    (λ other now. omega (arith, within_has cpu (from + 1) n now))
    has

-- Places

places_on-append : (lock : DomainId) (xs ys : List StrandStep) → places_on lock (xs ++ ys) ≡ places_on lock xs ++ places_on lock ys
places_on-append lock [] ys = refl
places_on-append lock (step ∷ xs) ys = by (is_same_lock step.lock lock) (places_on-append lock xs ys)
  where
    by : (b : Bool) → places_on lock (xs ++ ys) ≡ places_on lock xs ++ places_on lock ys
        → cond b (step.index ∷ places_on lock (xs ++ ys)) (places_on lock (xs ++ ys)) ≡ cond b (step.index ∷ places_on lock xs) (places_on lock xs) ++ places_on lock ys
    by true rest = ap (λ (l : List ℕ). step.index ∷ l) rest
    by false rest = rest

range_more : (from n : ℕ) → range_with_len from n ++ (from + n) ∷ [] ≡ range_with_len from (suc n)
range_more from zero = let same : from + 0 ≡ from = omega arith in ap (λ (m : ℕ). m ∷ []) same
range_more from (suc n) =
    let same : from + suc n ≡ (from + 1) + n = omega arith in
    ap (λ (m : ℕ). from ∷ (range_with_len (from + 1) n ++ m ∷ [])) same ∙ ap (λ (l : List ℕ). from ∷ l) (range_more (from + 1) n)

-- the places of a lock's log
abbrev log_places : State → DomainId → List ℕ
log_places state lock = range_with_len 0 (length (state.logs lock))

module _ (shape : Shape) (lock : DomainId) where
  one_place : (cpu number : ℕ) (turn : Turn) (state : State) → log_places state lock ++ places_on lock ((record { lock = turn.lock; index = length (state.logs turn.lock) }) ∷ []) ≡ log_places (turned shape cpu number turn state) lock
  one_place cpu number turn state = by (is_same_lock turn.lock lock) refl
    where
      by : (b : Bool) → is_same_lock turn.lock lock ≡ b → log_places state lock ++ cond b (length (state.logs turn.lock) ∷ []) [] ≡ range_with_len 0 (length (cond b (state.logs lock ++ (record { ticket = state.next_ticket; cpu = cpu; call = number; part = turn.part }) ∷ []) (state.logs lock)))
      by true same =
          let place : length (state.logs turn.lock) ≡ 0 + length (state.logs lock) = omega (arith, ap (λ (l : DomainId). length (state.logs l)) (one_lock turn.lock lock same)) in
          let entry : Entry = record { ticket = state.next_ticket; cpu = cpu; call = number; part = turn.part } in
          let longer : suc (length (state.logs lock)) ≡ length (state.logs lock ++ entry ∷ []) = omega (arith, length-append (state.logs lock) (entry ∷ [])) in
          ap (λ (n : ℕ). log_places state lock ++ n ∷ []) place ∙ range_more 0 (length (state.logs lock)) ∙ ap (range_with_len 0) longer
      by false other = append-nil (log_places state lock)

  -- steps one after another
  joined : (a b c : List ℕ) (first second : List StrandStep) → a ++ places_on lock first ≡ b → b ++ places_on lock second ≡ c → a ++ places_on lock (first ++ second) ≡ c
  joined a b c first second one two =
      ap (λ (l : List ℕ). a ++ l) (places_on-append lock first second) ∙ sym (append_assoc a (places_on lock first) (places_on lock second)) ∙ ap (λ (l : List ℕ). l ++ places_on lock second) one ∙ two

  turns_places : (cpu number : ℕ) (turns : List Turn) (state : State) → log_places state lock ++ places_on lock (steps_of_turns shape cpu number turns state) ≡ log_places (all_turned shape cpu number turns state) lock
  turns_places cpu number [] state = append-nil (log_places state lock)
  turns_places cpu number (turn ∷ turns) state =
      joined _ _ _ ((record { lock = turn.lock; index = length (state.logs turn.lock) }) ∷ []) (steps_of_turns shape cpu number turns (turned shape cpu number turn state))
      (one_place cpu number turn state) (turns_places cpu number turns (turned shape cpu number turn state))

  pub calls_places : (number : ℕ) (calls : List Call) (state : State) → log_places state lock ++ places_on lock (steps_of_calls shape number calls state) ≡ log_places (run shape number calls state) lock
  calls_places number [] state = append-nil (log_places state lock)
  calls_places number (call ∷ calls) state =
      joined _ _ _ (steps_of_turns shape call.cpu number (does shape call.cpu number state call.verb).turns state) (steps_of_calls shape (suc number) calls (after_one shape number call state))
      (turns_places call.cpu number (does shape call.cpu number state call.verb).turns state) (calls_places (suc number) calls (after_one shape number call state))
