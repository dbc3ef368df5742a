-- The tickets of a race whose closed table lost no record: the numbers below the number of entries, each once; they ascend in each
-- history and along each CPU's turns.
use Rattle.std.proofs.Common.{◌≡◌, ℕ, zero, suc, ◌+◌, ◌<◌, ◌≤◌, false, cond, List, [], ◌∷◌, ◌++◌, length, map, All, refl, ap, sym, ◌∙◌, subst, arith}
use Rattle.std.specs.Prelude.{IsTrue, IsPermutation, filter, slice_index_or}
use Rattle.std.specs.List.{AllByRecursion, flat_map, range_with_len}
use Rattle.std.proofs.lemmas.List.Elements.{All-from_recursion}
use Rattle.std.proofs.lemmas.List.FromFn.{length-range_with_len}
use Rattle.std.proofs.lemmas.List.Sorted.{length_permutation}
use Rattle.map_types.specs.declared.attr.Shape.{Shape}
use Rattle.map_types.specs.ElementLists.{times}
use Rattle.place_words.specs.declared.history.Entry.{Entry}
use Rattle.place_words.specs.declared.history.LockHistory.{LockHistory}
use Rattle.place_words.specs.Locks.{lock_named, lock_count}
use Rattle.place_words.specs.Tickets.{AscendIn, tickets_of, all_entries, ticket_at}
use Rattle.place_words.proofs.Permutes.{counts_permute, numbers_count}
use Rattle.place_table.specs.declared.view.Turned.{Turned}
use Rattle.place_table.specs.Closing.{ClosedView, IsClosed, HaveTickets, has_lock, all_locks, all_turns, history_of}
use Rattle.place_table.specs.Passes.{PassView}
use Rattle.place_table.specs.Tickets.{turn_tickets}
use Rattle.place_table.specs.Views.{all_strands}
use Rattle.map_report.proofs.LogTickets.{as_many, ticket_there}
use Rattle.serial_laws.proofs.HistoryTurns.{by_bool}
use Rattle.run_records.proofs.RaceCalls.{StandsThere}
use Rattle.run_records.proofs.RaceHistories.{histories_are}
use Rattle.run_records.proofs.RaceKept.{steps_of}

-- the entries of all histories are the turns of all locks
all_told : (shape : Shape) (log : ℕ → List Entry) (numbers : List ℕ) → all_entries (map (history_of shape log) numbers) ≡ flat_map log numbers
all_told shape log [] = refl
all_told shape log (k ∷ numbers) = ap (λ (entries : List Entry). log k ++ entries) (all_told shape log numbers)

-- what holds of the history of each lock that the map has
each_real : (shape : Shape) (log : ℕ → List Entry) (P : LockHistory → Type 0) → ((k : ℕ) → k < lock_count shape → IsTrue (has_lock shape k) → P (history_of shape log k))
    → (start count : ℕ) → start + count ≤ lock_count shape → AllByRecursion P (map (history_of shape log) (filter (has_lock shape) (range_with_len start count)))
each_real shape log P holds start zero within = tt
each_real shape log P holds start (suc count) within =
    let rest = each_real shape log P holds (start + 1) count (omega arith) in
    let others : List ℕ = filter (has_lock shape) (range_with_len (start + 1) count) in
    by_bool (has_lock shape start) (λ b. has_lock shape start ≡ b → AllByRecursion P (map (history_of shape log) (cond b (start ∷ others) others)))
    (λ _ there. (holds start (omega arith) there, rest)) (λ _ _. rest) refl

module _ (shape : Shape) (p : PassView) (closed : ClosedView) (ends : IsClosed shape p closed) (whole : closed.lost ≡ false) where
  have : HaveTickets shape ends.log (all_strands p.view) ends.drawn
  have = ends.ticketed whole

  entries_told : all_entries closed.histories ≡ all_turns shape ends.log
  entries_told = ap all_entries (histories_are shape p closed ends whole) ∙ all_told shape ends.log (all_locks shape)

  permuted : IsPermutation (range_with_len 0 ends.drawn) (tickets_of (all_entries closed.histories))
  permuted =
      counts_permute (range_with_len 0 ends.drawn) (tickets_of (all_entries closed.histories))
      (λ t. numbers_count t ends.drawn ∙ (sym (have.each_once t) ∙ ap (λ (entries : List Entry). times t (tickets_of entries)) (sym entries_told)))

  pub counted : length (all_entries closed.histories) ≡ ends.drawn
  counted = omega (arith, as_many (all_entries closed.histories), length_permutation (range_with_len 0 ends.drawn) (tickets_of (all_entries closed.histories)) permuted, length-range_with_len 0 ends.drawn)

  pub each_once : IsPermutation (range_with_len 0 (length (all_entries closed.histories))) (tickets_of (all_entries closed.histories))
  each_once = subst (λ (n : ℕ). IsPermutation (range_with_len 0 n) (tickets_of (all_entries closed.histories))) (sym counted) permuted

  pub in_histories : All (λ (history : LockHistory). AscendIn 0 (tickets_of history.entries) (length (all_entries closed.histories))) closed.histories
  in_histories =
      subst (All (λ (history : LockHistory). AscendIn 0 (tickets_of history.entries) (length (all_entries closed.histories)))) (sym (histories_are shape p closed ends whole))
      (All-from_recursion (λ (history : LockHistory). AscendIn 0 (tickets_of history.entries) (length (all_entries closed.histories))) (map (history_of shape ends.log) (all_locks shape))
      (each_real shape ends.log (λ (history : LockHistory). AscendIn 0 (tickets_of history.entries) (length (all_entries closed.histories)))
      (λ k below there. subst (λ (n : ℕ). AscendIn 0 (tickets_of (ends.log k)) n) (sym counted) (have.in_histories k below there)) 0 (lock_count shape) (omega arith)))

  -- the tickets of the entries that turns name are those of the turns
  named : (steps : List Turned) → AllByRecursion (StandsThere shape closed.histories) steps → map (ticket_at closed.histories) (steps_of shape steps) ≡ turn_tickets steps
  named [] stand = refl
  named (step ∷ steps) stand =
      let here : ticket_at closed.histories (record { lock = lock_named shape step.lock; index = length step.earlier }) ≡ step.entry.ticket =
      ap (λ (entries : List Entry). slice_index_or (tickets_of entries) (length step.earlier) 0) stand.0.log_is ∙ ticket_there step.earlier step.entry stand.0.later in
      λ i. here i ∷ named steps stand.1 i

  pub strand_ascends : (steps : List Turned) → AllByRecursion (StandsThere shape closed.histories) steps → AscendIn 0 (turn_tickets steps) ends.drawn
      → AscendIn 0 (map (ticket_at closed.histories) (steps_of shape steps)) (length (all_entries closed.histories))
  strand_ascends steps stand ascend = subst (λ (z : List ℕ × ℕ). AscendIn 0 z.0 z.1) (λ i. (sym (named steps stand) i, sym counted i)) ascend
