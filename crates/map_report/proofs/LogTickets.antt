-- Tickets of a run in serial order: the n-th turn, from 0, has ticket n.
use Rattle.std.proofs.Common.{◌≡◌, ℕ, zero, suc, ◌+◌, ◌<◌, ◌≤◌, Bool, true, false, cond, eqb, ltb, List, [], ◌∷◌, ◌++◌, length, map, refl, ap, sym, ◌∙◌, subst, arith, ⊎_elim}
use Rattle.std.specs.Prelude.{All, IsPermutation, filter, slice_index_or}
use Rattle.std.specs.List.{flat_map, range_with_len}
use Rattle.std.proofs.lemmas.Bool.{eq-eqb, ne_eqb, cases_Bool, cases_lt, lt-ltb, le-ltb}
use Rattle.std.proofs.lemmas.List.{append_assoc, map-append}
use Rattle.std.proofs.lemmas.List.Elements.{All-nil, All-cons, All-map}
use Rattle.std.proofs.lemmas.List.FromFn.{length-range_with_len}
use Rattle.std.proofs.lemmas.List.Sorted.{length_permutation}
use Rattle.map_types.specs.declared.attr.Shape.{Shape}
use Rattle.map_types.specs.declared.call.Call.{Call}
use Rattle.map_types.specs.declared.kind.DomainId.{DomainId}
use Rattle.map_types.specs.ElementLists.{one, times}
use Rattle.map_types.proofs.RowLemmas.{by_test, times_append}
use Rattle.place_words.specs.declared.history.Entry.{Entry}
use Rattle.place_words.specs.declared.history.LockHistory.{LockHistory}
use Rattle.place_words.specs.declared.history.Strand.{Strand}
use Rattle.place_words.specs.declared.history.StrandStep.{StrandStep}
use Rattle.place_words.specs.Locks.{is_lock, is_same_lock, lock_named, lock_number, lock_count}
use Rattle.place_words.specs.Logs.{State, turned, all_turned, does, after_one, run, new_state}
use Rattle.place_words.specs.Tickets.{AscendIn, tickets_of, all_entries, ticket_at, AreTicketed}
use Rattle.place_words.specs.Turns.{Turn}
use Rattle.place_words.proofs.Ascending.{ascend_to, ascend_on, ascend_more, tickets_more, tickets_append}
use Rattle.place_words.proofs.LockLemmas.{named_by_number, one_number, number_within, same_lock, other_lock}
use Rattle.place_words.proofs.Permutes.{counts_permute, numbers_count}
use Rattle.map_report.specs.Runs.{steps_of_turns, steps_of_calls}
use Rattle.map_report.specs.Record.{locks_of}
use Rattle.map_report.proofs.LogGrowth.{Grows, grows_none, grows_both, grows_all, grows_run}
use Rattle.map_report.proofs.LogNames.{histories, entries_are}

-- Locks by number

-- two numbers name one lock where they are one
pub same_number : (shape : Shape) (j k : ℕ) → is_same_lock (lock_named shape j) (lock_named shape k) ≡ eqb j k
same_number shape j k =
    by_test j k (λ b. is_same_lock (lock_named shape j) (lock_named shape k) ≡ b)
    (λ is. ap (λ (m : ℕ). is_same_lock (lock_named shape m) (lock_named shape k)) is ∙ same_lock (lock_named shape k))
    (λ other. other_lock (lock_named shape j) (lock_named shape k) (λ is. other (one_number shape j k is)))

-- how often a lock stands among these
named_among : DomainId → List DomainId → ℕ
named_among lock [] = 0
named_among lock (l ∷ locks) = one (is_same_lock lock l) + named_among lock locks

named_in_range : (shape : Shape) (k from n : ℕ) → is_lock shape (lock_named shape k) ≡ true
    → named_among (lock_named shape k) (map (lock_named shape) (filter (λ j. is_lock shape (lock_named shape j)) (range_with_len from n))) ≡ times k (range_with_len from n)
unfolding named_among
named_in_range shape k from zero is = refl
named_in_range shape k from (suc n) is =
    let rest = named_in_range shape k (from + 1) n is in
    by_test from k (λ b. named_among (lock_named shape k) (map (lock_named shape) (cond (is_lock shape (lock_named shape from)) (from ∷ others) others)) ≡ cond b (suc (times k (range_with_len (from + 1) n))) (times k (range_with_len (from + 1) n)))
    (λ same.
    let kept : is_lock shape (lock_named shape from) ≡ true = ap (λ (j : ℕ). is_lock shape (lock_named shape j)) same ∙ is in
    let here : one (is_same_lock (lock_named shape k) (lock_named shape from)) ≡ 1 = ap one (same_number shape k from ∙ eq-eqb k from (sym same)) in
    ap (λ (b : Bool). named_among (lock_named shape k) (map (lock_named shape) (cond b (from ∷ others) others))) kept ∙ omega (arith, here, rest))
    (λ other. ⊎_elim
    (λ (kept : is_lock shape (lock_named shape from) ≡ true).
    let here : one (is_same_lock (lock_named shape k) (lock_named shape from)) ≡ 0 = ap one (same_number shape k from ∙ ne_eqb k from (λ same. other (sym same))) in
    ap (λ (b : Bool). named_among (lock_named shape k) (map (lock_named shape) (cond b (from ∷ others) others))) kept ∙ omega (arith, here, rest))
    (λ (left_out : is_lock shape (lock_named shape from) ≡ false). ap (λ (b : Bool). named_among (lock_named shape k) (map (lock_named shape) (cond b (from ∷ others) others))) left_out ∙ rest)
    (cases_Bool (is_lock shape (lock_named shape from))))
  where
    others : List ℕ
    others = filter (λ j. is_lock shape (lock_named shape j)) (range_with_len (from + 1) n)

-- each lock of the map stands once among them
named_once : (shape : Shape) (lock : DomainId) → is_lock shape lock ≡ true → named_among lock (locks_of shape) ≡ 1
named_once shape lock is =
    let named = named_by_number shape lock is in
    let number : ℕ = lock_number shape lock in
    ap (λ (l : DomainId). named_among l (locks_of shape)) (sym named)
    ∙ (named_in_range shape number 0 (lock_count shape) (ap (is_lock shape) named ∙ is)
    ∙ (numbers_count number (lock_count shape) ∙ ap one (lt-ltb number (lock_count shape) (number_within shape lock is))))

-- All entries

module _ (shape : Shape) where
  abbrev entries_in : State → List DomainId → List Entry
  entries_in state locks = flat_map state.logs locks

  -- a turn adds its ticket
  one_more : (cpu number : ℕ) (turn : Turn) (state : State) (t : ℕ) (locks : List DomainId)
      → times t (tickets_of (entries_in (turned shape cpu number turn state) locks)) ≡ times t (tickets_of (entries_in state locks)) + cond (eqb state.next_ticket t) (named_among turn.lock locks) 0
  unfolding named_among
  one_more cpu number turn state t [] = by_test state.next_ticket t (λ b. 0 ≡ 0 + cond b 0 0) (λ _. refl) (λ _. refl)
  one_more cpu number turn state t (lock ∷ locks) =
      let rest = one_more cpu number turn state t locks in
      let after : List Entry = entries_in (turned shape cpu number turn state) locks in
      let before : List Entry = entries_in state locks in
      let entry : Entry = record { ticket = state.next_ticket; cpu = cpu; call = number; part = turn.part } in
      let was = ap (times t) (tickets_append (state.logs lock) before) ∙ times_append t (tickets_of (state.logs lock)) (tickets_of before) in
      ⊎_elim
      (λ (same : is_same_lock turn.lock lock ≡ true).
      let here : one (is_same_lock turn.lock lock) ≡ 1 = ap one same in
      let log = ap (λ (b : Bool). times t (tickets_of (cond b (state.logs lock ++ entry ∷ []) (state.logs lock) ++ after))) same in
      let now = ap (times t) (tickets_append (state.logs lock ++ entry ∷ []) after) ∙ times_append t (tickets_of (state.logs lock ++ entry ∷ [])) (tickets_of after) in
      let longer = ap (times t) (tickets_more (state.logs lock) entry) ∙ times_append t (tickets_of (state.logs lock)) (state.next_ticket ∷ []) in
      log ∙ (now ∙ by_test state.next_ticket t
      (λ b. times t (tickets_of (entries_in (turned shape cpu number turn state) locks)) ≡ times t (tickets_of before) + cond b (named_among turn.lock locks) 0 → times t (tickets_of (state.logs lock ++ entry ∷ [])) ≡ times t (tickets_of (state.logs lock)) + cond b 1 0
      → times t (tickets_of (state.logs lock ++ entry ∷ [])) + times t (tickets_of after) ≡ times t (tickets_of (state.logs lock ++ before)) + cond b (one (is_same_lock turn.lock lock) + named_among turn.lock locks) 0)
      (λ _ others its. omega (arith, was, here, others, its)) (λ _ others its. omega (arith, was, here, others, its)) rest longer))
      (λ (other : is_same_lock turn.lock lock ≡ false).
      let here : one (is_same_lock turn.lock lock) ≡ 0 = ap one other in
      let log = ap (λ (b : Bool). times t (tickets_of (cond b (state.logs lock ++ entry ∷ []) (state.logs lock) ++ after))) other in
      let now = ap (times t) (tickets_append (state.logs lock) after) ∙ times_append t (tickets_of (state.logs lock)) (tickets_of after) in
      log ∙ (now ∙ by_test state.next_ticket t
      (λ b. times t (tickets_of (entries_in (turned shape cpu number turn state) locks)) ≡ times t (tickets_of before) + cond b (named_among turn.lock locks) 0
      → times t (tickets_of (state.logs lock)) + times t (tickets_of after) ≡ times t (tickets_of (state.logs lock ++ before)) + cond b (one (is_same_lock turn.lock lock) + named_among turn.lock locks) 0)
      (λ _ others. omega (arith, was, here, others)) (λ _ others. omega (arith, was, here, others)) rest))
      (cases_Bool (is_same_lock turn.lock lock))

  -- The tickets so far: they ascend in each log, and are the numbers below the next one, each once.
  pub record AreDrawn (state : State) : Type 0 where
    pub ascend : (lock : DomainId) → AscendIn 0 (tickets_of (state.logs lock)) state.next_ticket
    pub each_once : (t : ℕ) → times t (tickets_of (entries_in state (locks_of shape))) ≡ one (ltb t state.next_ticket)

  none_in : (t : ℕ) (locks : List DomainId) → times t (tickets_of (flat_map (λ (lock : DomainId). []) locks)) ≡ 0
  none_in t [] = refl
  none_in t (lock ∷ locks) = none_in t locks

  drawn_first : AreDrawn (new_state shape)
  drawn_first = record {
    ascend = λ lock. omega arith;
    each_once = λ t. none_in t (locks_of shape) ∙ sym (ap one (le-ltb t 0 (omega arith)));
  }

  drawn_turned : (cpu number : ℕ) (turn : Turn) (state : State) → is_lock shape turn.lock ≡ true → AreDrawn state → AreDrawn (turned shape cpu number turn state)
  drawn_turned cpu number turn state there are = record {
    ascend = λ lock. ⊎_elim
        (λ (same : is_same_lock turn.lock lock ≡ true).
        subst (λ (b : Bool). AscendIn 0 (tickets_of (cond b (state.logs lock ++ entry ∷ []) (state.logs lock))) (suc state.next_ticket)) (sym same)
        (subst (λ (l : List ℕ). AscendIn 0 l (suc state.next_ticket)) (sym (tickets_more (state.logs lock) entry))
        (ascend_more 0 (tickets_of (state.logs lock)) state.next_ticket state.next_ticket (suc state.next_ticket) (omega arith) (omega arith) (are.ascend lock))))
        (λ (other : is_same_lock turn.lock lock ≡ false).
        subst (λ (b : Bool). AscendIn 0 (tickets_of (cond b (state.logs lock ++ entry ∷ []) (state.logs lock))) (suc state.next_ticket)) (sym other)
        (ascend_to 0 (tickets_of (state.logs lock)) state.next_ticket (suc state.next_ticket) (omega arith) (are.ascend lock)))
        (cases_Bool (is_same_lock turn.lock lock));
    each_once = λ t.
        let more = one_more cpu number turn state t (locks_of shape) in
        let its = named_once shape turn.lock there in
        more ∙ (ap (λ (n : ℕ). n + cond (eqb state.next_ticket t) (named_among turn.lock (locks_of shape)) 0) (are.each_once t)
        ∙ (ap (λ (n : ℕ). one (ltb t state.next_ticket) + cond (eqb state.next_ticket t) n 0) its ∙ next_below t state.next_ticket));
  }
    where
      entry : Entry
      entry = record { ticket = state.next_ticket; cpu = cpu; call = number; part = turn.part }

      next_below : (t n : ℕ) → one (ltb t n) + cond (eqb n t) 1 0 ≡ one (ltb t (suc n))
      next_below t n =
          by_test n t (λ b. one (ltb t n) + cond b 1 0 ≡ one (ltb t (suc n)))
          (λ same. let not_yet : one (ltb t n) ≡ 0 = ap one (le-ltb t n (omega (arith, same))) in let now : one (ltb t (suc n)) ≡ 1 = ap one (lt-ltb t (suc n) (omega (arith, same))) in omega arith)
          (λ other. ⊎_elim
          (λ (less : t < n). let was : one (ltb t n) ≡ 1 = ap one (lt-ltb t n less) in let now : one (ltb t (suc n)) ≡ 1 = ap one (lt-ltb t (suc n) (omega arith)) in omega arith)
          (λ (past : n ≤ t). let was : one (ltb t n) ≡ 0 = ap one (le-ltb t n past) in let now : one (ltb t (suc n)) ≡ 0 = ap one (le-ltb t (suc n) (omega (arith, other, past))) in omega arith)
          (cases_lt t n))

-- The turns of a run

-- the ticket at the end of a log that goes on
pub ticket_there : (before : List Entry) (entry : Entry) (more : List Entry) → slice_index_or (tickets_of (before ++ entry ∷ more)) (length before) 0 ≡ entry.ticket
ticket_there [] entry more = refl
ticket_there (x ∷ xs) entry more = ticket_there xs entry more

pub as_many : (entries : List Entry) → length (tickets_of entries) ≡ length entries
as_many [] = refl
as_many (x ∷ xs) = ap suc (as_many xs)

not_empty : (before : List Entry) (entry : Entry) (more : List Entry) → [] ≡ before ++ entry ∷ more → ⊥
not_empty [] entry more is = cc
not_empty (x ∷ xs) entry more is = cc

module _ (shape : Shape) (end : State) (ours : (lock : DomainId) → is_lock shape lock ≡ false → end.logs lock ≡ []) where
  module _ (cpu number : ℕ) (turn : Turn) (state : State) (grows : Grows (turned shape cpu number turn state) end) where
    abbrev entry : Entry
    entry = record { ticket = state.next_ticket; cpu = cpu; call = number; part = turn.part }

    log_is : end.logs turn.lock ≡ state.logs turn.lock ++ entry ∷ (grows turn.lock).0
    log_is =
        (grows turn.lock).1
        ∙ (ap (λ (b : Bool). cond b (state.logs turn.lock ++ entry ∷ []) (state.logs turn.lock) ++ (grows turn.lock).0) (same_lock turn.lock) ∙ append_assoc (state.logs turn.lock) (entry ∷ []) (grows turn.lock).0)

    -- its lock is one of the map
    on_lock : is_lock shape turn.lock ≡ true
    on_lock = ⊎_elim
        (λ (there : is_lock shape turn.lock ≡ true). there)
        (λ (none : is_lock shape turn.lock ≡ false). absurd (not_empty (state.logs turn.lock) entry (grows turn.lock).0 (sym (ours turn.lock none) ∙ log_is)))
        (cases_Bool (is_lock shape turn.lock))

    -- and its step names an entry with the next ticket
    step_ticket : ticket_at (histories shape end ours) (record { lock = turn.lock; index = length (state.logs turn.lock) }) ≡ state.next_ticket
    step_ticket =
        ap (λ (entries : List Entry). slice_index_or (tickets_of entries) (length (state.logs turn.lock)) 0) (entries_are shape end ours turn.lock ∙ log_is)
        ∙ ticket_there (state.logs turn.lock) entry (grows turn.lock).0

  abbrev tickets_at : List StrandStep → List ℕ
  tickets_at steps = map (ticket_at (histories shape end ours)) steps

  turns_ascend : (cpu number : ℕ) (turns : List Turn) (state : State) → Grows (all_turned shape cpu number turns state) end
      → AscendIn state.next_ticket (tickets_at (steps_of_turns shape cpu number turns state)) (all_turned shape cpu number turns state).next_ticket
  turns_ascend cpu number [] state grows = omega arith
  turns_ascend cpu number (turn ∷ turns) state grows =
      let next : State = turned shape cpu number turn state in
      let here = step_ticket cpu number turn state (grows_both next (all_turned shape cpu number turns next) end (grows_all shape cpu number turns next) grows) in (
        omega (arith, here),
        subst (λ (n : ℕ). AscendIn (suc n) (tickets_at (steps_of_turns shape cpu number turns next)) (all_turned shape cpu number turns next).next_ticket) (sym here) (turns_ascend cpu number turns next grows),
      )

  turns_drawn : (cpu number : ℕ) (turns : List Turn) (state : State) → Grows (all_turned shape cpu number turns state) end → AreDrawn shape state → AreDrawn shape (all_turned shape cpu number turns state)
  turns_drawn cpu number [] state grows are = are
  turns_drawn cpu number (turn ∷ turns) state grows are =
      let next : State = turned shape cpu number turn state in
      let there = on_lock cpu number turn state (grows_both next (all_turned shape cpu number turns next) end (grows_all shape cpu number turns next) grows) in
      turns_drawn cpu number turns next grows (drawn_turned shape cpu number turn state there are)

  pub calls_ascend : (number : ℕ) (calls : List Call) (state : State) → Grows (run shape number calls state) end
      → AscendIn state.next_ticket (tickets_at (steps_of_calls shape number calls state)) (run shape number calls state).next_ticket
  calls_ascend number [] state grows = omega arith
  calls_ascend number (call ∷ calls) state grows =
      let next : State = after_one shape number call state in
      let mine = steps_of_turns shape call.cpu number (does shape call.cpu number state call.verb).turns state in
      subst (λ (l : List ℕ). AscendIn state.next_ticket l (run shape (suc number) calls next).next_ticket) (sym (map-append (ticket_at (histories shape end ours)) mine (steps_of_calls shape (suc number) calls next)))
      (ascend_on state.next_ticket next.next_ticket (run shape (suc number) calls next).next_ticket (tickets_at mine) (tickets_at (steps_of_calls shape (suc number) calls next))
      (turns_ascend call.cpu number (does shape call.cpu number state call.verb).turns state (grows_both next (run shape (suc number) calls next) end (grows_run shape (suc number) calls next) grows))
      (calls_ascend (suc number) calls next grows))

  calls_drawn : (number : ℕ) (calls : List Call) (state : State) → Grows (run shape number calls state) end → AreDrawn shape state → AreDrawn shape (run shape number calls state)
  calls_drawn number [] state grows are = are
  calls_drawn number (call ∷ calls) state grows are =
      let next : State = after_one shape number call state in
      calls_drawn (suc number) calls next grows
      (turns_drawn call.cpu number (does shape call.cpu number state call.verb).turns state (grows_both next (run shape (suc number) calls next) end (grows_run shape (suc number) calls next) grows) are)

  entries_told : (locks : List DomainId) → all_entries (map (λ lock. record { lock = lock; entries = end.logs lock }) locks) ≡ entries_in shape end locks
  entries_told [] = refl
  entries_told (lock ∷ locks) = ap (λ (entries : List Entry). end.logs lock ++ entries) (entries_told locks)

pub all_of : (xs : List DomainId) (P : DomainId → Type 0) → ((lock : DomainId) → P lock) → All P xs
all_of [] P all = All-nil P
all_of (x ∷ xs) P all = All-cons P x xs (all x) (all_of xs P all)

-- the tickets of the whole run, where no lock but those of the map has a log
module _ (shape : Shape) (calls : List Call) (ours : (lock : DomainId) → is_lock shape lock ≡ false → (run shape 1 calls (new_state shape)).logs lock ≡ []) where
  abbrev end : State
  end = run shape 1 calls (new_state shape)

  abbrev told : List LockHistory
  told = histories shape end ours

  drawn : AreDrawn shape end
  drawn = calls_drawn shape end ours 1 calls (new_state shape) (grows_none end) (drawn_first shape)

  permuted : IsPermutation (range_with_len 0 end.next_ticket) (tickets_of (all_entries told))
  permuted =
      counts_permute (range_with_len 0 end.next_ticket) (tickets_of (all_entries told))
      (λ t. numbers_count t end.next_ticket ∙ (sym (drawn.each_once t) ∙ ap (λ (entries : List Entry). times t (tickets_of entries)) (sym (entries_told shape end ours (locks_of shape)))))

  pub entries_counted : length (all_entries (histories shape (run shape 1 calls (new_state shape)) ours)) ≡ (run shape 1 calls (new_state shape)).next_ticket
  entries_counted = omega (arith, as_many (all_entries told), length_permutation (range_with_len 0 end.next_ticket) (tickets_of (all_entries told)) permuted, length-range_with_len 0 end.next_ticket)

  pub tickets_by_logs : (strands : List Strand) → All (λ (one : Strand). AscendIn 0 (map (ticket_at told) one.steps) (length (all_entries told))) strands → AreTicketed told strands
  tickets_by_logs strands ascend =
      record {
        each_once = subst (λ (n : ℕ). IsPermutation (range_with_len 0 n) (tickets_of (all_entries told))) (sym entries_counted) permuted;
        in_histories = All-map (λ (history : LockHistory). AscendIn 0 (tickets_of history.entries) (length (all_entries told))) (λ lock. record { lock = lock; entries = end.logs lock }) (locks_of shape)
            (all_of (locks_of shape) (λ lock. AscendIn 0 (tickets_of (end.logs lock)) (length (all_entries told))) (λ lock. subst (λ (n : ℕ). AscendIn 0 (tickets_of (end.logs lock)) n) (sym entries_counted) (drawn.ascend lock)));
        in_strands = ascend;
      }
