-- The histories that a closed table hands out where no record is lost: one for each lock of the map, with the turns of that lock.
use Rattle.std.proofs.Common.{◌≡◌, ℕ, zero, suc, ◌+◌, ◌<◌, ◌≤◌, true, false, cond, List, [], ◌∷◌, map, Some, All, refl, ap, sym, ◌∙◌, subst, arith}
use Rattle.std.specs.Prelude.{IsTrue, filter, slice_get, if◌then◌else◌}
use Rattle.std.specs.List.{AllByRecursion, range_with_len}
use Rattle.std.proofs.lemmas.List.Elements.{All-from_recursion}
use Rattle.map_types.specs.declared.attr.Shape.{Shape}
use Rattle.map_types.specs.declared.kind.DomainId.{DomainId}
use Rattle.map_types.proofs.RowLemmas.{by_test}
use Rattle.place_words.specs.declared.history.Entry.{Entry}
use Rattle.place_words.specs.declared.history.LockHistory.{LockHistory}
use Rattle.place_words.specs.Histories.{IsLegal}
use Rattle.place_words.specs.Locks.{is_lock, is_same_lock, lock_named, lock_number, lock_count}
use Rattle.place_words.proofs.LockLemmas.{named_by_number, number_within}
use Rattle.place_table.specs.declared.view.Turned.{Turned}
use Rattle.place_table.specs.Closing.{ClosedView, IsClosed, has_lock, all_locks, history_of}
use Rattle.place_table.specs.Passes.{PassView}
use Rattle.place_table.specs.Rules.{StandsIn, StandIn}
use Rattle.map_report.specs.Record.{entries_of, locks_of}
use Rattle.run_records.proofs.Closing.{made_of_all}
use Rattle.map_report.proofs.LogTickets.{same_number}
use Rattle.serial_laws.proofs.HistoryTurns.{by_bool}
use Rattle.run_records.proofs.RaceCalls.{StandsThere}
use Rattle.run_records.proofs.Whole.{none_lost}
use Rattle.run_records.specs.ByLogs.{IsOfMap}
use Rattle.serial_laws.proofs.ListPlaces.{all_standing}

-- The history of a lock among those of all locks

module _ (shape : Shape) (log : ℕ → List Entry) (number : ℕ) (there : is_lock shape (lock_named shape number) ≡ true) where
  entries_from : (start count : ℕ) → start ≤ number → number < start + count → entries_of (map (history_of shape log) (filter (has_lock shape) (range_with_len start count))) (lock_named shape number) ≡ log number
  entries_from start zero low high = absurd (omega arith)
  entries_from start (suc count) low high =
      let rest : List ℕ = filter (has_lock shape) (range_with_len (start + 1) count) in
      by_test start number (λ b. is_same_lock (lock_named shape start) (lock_named shape number) ≡ b → entries_of (map (history_of shape log) (cond (has_lock shape start) (start ∷ rest) rest)) (lock_named shape number) ≡ log number)
      (λ here is.
      ap (λ b. entries_of (map (history_of shape log) (cond b (start ∷ rest) rest)) (lock_named shape number)) (ap (has_lock shape) here ∙ there)
      ∙ ap (λ b. if b then log start else entries_of (map (history_of shape log) rest) (lock_named shape number)) is ∙ ap log here)
      (λ other is.
      let later = entries_from (start + 1) count (omega (arith, other)) (omega arith) in
      by_bool (has_lock shape start) (λ b. entries_of (map (history_of shape log) (cond b (start ∷ rest) rest)) (lock_named shape number) ≡ log number)
      (λ _. ap (λ b. if b then log start else entries_of (map (history_of shape log) rest) (lock_named shape number)) is ∙ later)
      (λ _. later))
      (same_number shape start number)

locks_told : (shape : Shape) (log : ℕ → List Entry) (numbers : List ℕ) → map (λ (history : LockHistory). history.lock) (map (history_of shape log) numbers) ≡ map (lock_named shape) numbers
locks_told shape log [] = refl
locks_told shape log (k ∷ numbers) = ap (λ locks. lock_named shape k ∷ locks) (locks_told shape log numbers)

pub each_told : (shape : Shape) (log : ℕ → List Entry) (P : LockHistory → Type 0) → ((k : ℕ) → P (history_of shape log k)) → (numbers : List ℕ) → AllByRecursion P (map (history_of shape log) numbers)
each_told shape log P holds [] = tt
each_told shape log P holds (k ∷ numbers) = (holds k, each_told shape log P holds numbers)

module _ (shape : Shape) (p : PassView) (closed : ClosedView) (ends : IsClosed shape p closed) (whole : closed.lost ≡ false) where
  pub histories_are : closed.histories ≡ map (history_of shape ends.log) (all_locks shape)
  histories_are =
      ends.left.histories_are
      ∙ made_of_all (has_lock shape) ends.lost (history_of shape ends.log) (history_of shape ends.log) 0 (lock_count shape)
      (λ k low high there. (none_lost shape p closed ends whole k (omega arith) there, refl))

  pub entries_at : (k : ℕ) → k < lock_count shape → IsTrue (has_lock shape k) → entries_of closed.histories (lock_named shape k) ≡ ends.log k
  entries_at k below there = ap (λ (l : List LockHistory). entries_of l (lock_named shape k)) histories_are ∙ entries_from shape ends.log k there 0 (lock_count shape) (omega arith) (omega arith)

  pub entries_told : (lock : DomainId) → IsTrue (is_lock shape lock) → entries_of closed.histories lock ≡ ends.log (lock_number shape lock)
  entries_told lock real =
      let named = named_by_number shape lock real in
      ap (entries_of closed.histories) (sym named) ∙ entries_at (lock_number shape lock) (number_within shape lock real) (ap (is_lock shape) named ∙ real)

  pub locks_are : map (λ (history : LockHistory). history.lock) closed.histories ≡ locks_of shape
  locks_are = ap (map (λ (history : LockHistory). history.lock)) histories_are ∙ locks_told shape ends.log (all_locks shape)

  pub are_legal : All (λ (history : LockHistory). IsLegal shape history.lock history.entries) closed.histories
  are_legal =
      subst (All (λ (history : LockHistory). IsLegal shape history.lock history.entries)) (sym histories_are)
      (All-from_recursion (λ (history : LockHistory). IsLegal shape history.lock history.entries) (map (history_of shape ends.log) (all_locks shape))
      (each_told shape ends.log (λ (history : LockHistory). IsLegal shape history.lock history.entries) ends.legal (all_locks shape)))

  pub on_cpus : ((k place : ℕ) (entry : Entry) → slice_get (ends.log k) place ≡ Some entry → entry.cpu < shape.cpus) → All (λ (history : LockHistory). All (λ (entry : Entry). entry.cpu < shape.cpus) history.entries) closed.histories
  on_cpus holds =
      subst (All (λ (history : LockHistory). All (λ (entry : Entry). entry.cpu < shape.cpus) history.entries)) (sym histories_are)
      (All-from_recursion (λ (history : LockHistory). All (λ (entry : Entry). entry.cpu < shape.cpus) history.entries) (map (history_of shape ends.log) (all_locks shape))
      (each_told shape ends.log (λ (history : LockHistory). All (λ (entry : Entry). entry.cpu < shape.cpus) history.entries)
      (λ k. All-from_recursion (λ (entry : Entry). entry.cpu < shape.cpus) (ends.log k) (all_standing (λ (entry : Entry). entry.cpu < shape.cpus) (ends.log k) (holds k))) (all_locks shape)))

  -- the turns of a strand stand in the histories, where each is on a lock of the map
  pub turns_stand : (steps : List Turned) → AllByRecursion (IsOfMap shape) steps → StandIn ends.log steps → AllByRecursion (StandsThere shape closed.histories) steps
  turns_stand [] real stand = tt
  turns_stand (step ∷ steps) real stand = (
    subst (λ (l : List Entry). StandsIn l step) (sym (entries_at step.lock real.0.0 real.0.1)) stand.0,
    turns_stand steps real.1 stand.1,
  )
