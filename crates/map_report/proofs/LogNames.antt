-- The steps of a run in serial order name its turns: each stands at the end of its lock's log at that moment, and so at that place
-- of the log at the end.
use Rattle.std.proofs.Common.{◌≡◌, ◌≢◌, ◌⊎◌, ℕ, zero, suc, ◌+◌, ◌<◌, ◌≤◌, Bool, true, false, cond, ◌||◌, List, [], ◌∷◌, ◌++◌, length, take, map, refl, ap, sym, ◌∙◌, arith, inl, inr}
use Rattle.std.specs.Prelude.{Some, filter, slice_get}
use Rattle.std.specs.List.{list_any, range_with_len}
use Rattle.std.proofs.lemmas.Bool.{cases_Bool, both_ways}
use Rattle.std.proofs.lemmas.List.{append_assoc}
use Rattle.map_types.specs.declared.attr.Shape.{Shape}
use Rattle.map_types.specs.declared.kind.DomainId.{DomainId}
use Rattle.place_words.specs.declared.history.Entry.{Entry}
use Rattle.place_words.specs.declared.history.LockHistory.{LockHistory}
use Rattle.place_words.specs.Locks.{is_lock, is_same_lock, lock_named, lock_number, lock_count}
use Rattle.place_words.specs.Logs.{State, turned, all_turned, placed}
use Rattle.place_words.specs.Named.{entries_of, Names, NameAll}
use Rattle.place_words.specs.Turns.{Turn}
use Rattle.place_words.proofs.LockLemmas.{named_by_number, number_within, same_lock, one_lock}
use Rattle.map_report.specs.Runs.{steps_of_turns}
use Rattle.map_report.specs.Record.{locks_of}
use Rattle.map_report.proofs.LogGrowth.{Grows, grows_all, grows_both}

-- Histories

choice : {X : Type 0} (b : Bool) (x y : X) → b ≡ true → cond b x y ≡ x
choice true x y is = refl
choice false x y is = absurd cc

found_log : (state : State) (locks : List DomainId) (lock : DomainId) → entries_of (map (λ l. record { lock = l; entries = state.logs l }) locks) lock ≡ cond (list_any (λ l. is_same_lock l lock) locks) (state.logs lock) []
found_log state [] lock = refl
found_log state (l ∷ locks) lock = by (is_same_lock l lock) refl (found_log state locks lock)
  where
    by : (b : Bool) → is_same_lock l lock ≡ b → entries_of (map (λ l. record { lock = l; entries = state.logs l }) locks) lock ≡ cond (list_any (λ l. is_same_lock l lock) locks) (state.logs lock) []
        → cond b (state.logs l) (entries_of (map (λ l. record { lock = l; entries = state.logs l }) locks) lock) ≡ cond (b || list_any (λ l. is_same_lock l lock) locks) (state.logs lock) []
    by true same rest = ap (state.logs) (one_lock l lock same)
    by false other rest = rest

-- a number in a range whose lock is one of the map
any_there : (keep : ℕ → Bool) (name : ℕ → DomainId) (lock : DomainId) (k from n : ℕ) → from ≤ k → k < from + n → keep k ≡ true → is_same_lock (name k) lock ≡ true
    → list_any (λ l. is_same_lock l lock) (map name (filter keep (range_with_len from n))) ≡ true
any_there keep name lock k from zero least most kept same = absurd (omega (arith, least, most))
any_there keep name lock k from (suc n) least most kept same = by (Rattle.std.proofs.lemmas.Bool.cases_eq from k) (any_there keep name lock k (from + 1) n)
  where
    here : from ≡ k → list_any (λ l. is_same_lock l lock) (map name (cond (keep from) (from ∷ filter keep (range_with_len (from + 1) n)) (filter keep (range_with_len (from + 1) n)))) ≡ true
    here is =
        let first : keep from ≡ true = ap keep is ∙ kept in
        let found : is_same_lock (name from) lock ≡ true = ap (λ (m : ℕ). is_same_lock (name m) lock) is ∙ same in
        ap (λ (xs : List ℕ). list_any (λ l. is_same_lock l lock) (map name xs)) (choice (keep from) (from ∷ filter keep (range_with_len (from + 1) n)) (filter keep (range_with_len (from + 1) n)) first)
        ∙ ap (λ (b : Bool). b || list_any (λ l. is_same_lock l lock) (map name (filter keep (range_with_len (from + 1) n)))) found

    later : (b : Bool) → list_any (λ l. is_same_lock l lock) (map name (filter keep (range_with_len (from + 1) n))) ≡ true → list_any (λ l. is_same_lock l lock) (map name (cond b (from ∷ filter keep (range_with_len (from + 1) n)) (filter keep (range_with_len (from + 1) n)))) ≡ true
    later true rest = either (is_same_lock (name from) lock) rest
      where
        either : (b : Bool) → list_any (λ l. is_same_lock l lock) (map name (filter keep (range_with_len (from + 1) n))) ≡ true → (b || list_any (λ l. is_same_lock l lock) (map name (filter keep (range_with_len (from + 1) n)))) ≡ true
        either true rest = refl
        either false rest = rest
    later false rest = rest

    by : (from ≡ k) ⊎ (from ≡ k → ⊥) → (from + 1 ≤ k → k < (from + 1) + n → keep k ≡ true → is_same_lock (name k) lock ≡ true → list_any (λ l. is_same_lock l lock) (map name (filter keep (range_with_len (from + 1) n))) ≡ true)
        → list_any (λ l. is_same_lock l lock) (map name (cond (keep from) (from ∷ filter keep (range_with_len (from + 1) n)) (filter keep (range_with_len (from + 1) n)))) ≡ true
    by (inl is) rest = here is
    by (inr other) rest = let apart : from ≢ k = other in later (keep from) (rest (omega (arith, least, apart)) (omega (arith, most)) kept same)

lock_there : (shape : Shape) (lock : DomainId) → is_lock shape lock ≡ true → list_any (λ l. is_same_lock l lock) (locks_of shape) ≡ true
lock_there shape lock is =
    let named : lock_named shape (lock_number shape lock) ≡ lock = named_by_number shape lock is in
    any_there (λ k. is_lock shape (lock_named shape k)) (lock_named shape) lock (lock_number shape lock) 0 (lock_count shape) (omega arith) (omega (arith, number_within shape lock is))
    (ap (is_lock shape) named ∙ is) (ap (λ (l : DomainId). is_same_lock l lock) named ∙ same_lock lock)

-- an entry at the end of a list that goes on
at_end : {A : Type 0} (xs : List A) (x : A) (more : List A) → slice_get (xs ++ x ∷ more) (length xs) ≡ Some x
at_end [] x more = refl
at_end (y ∷ xs) x more = at_end xs x more

all_before : {A : Type 0} (xs more : List A) → take (length xs) (xs ++ more) ≡ xs
all_before [] more = refl
all_before (x ∷ xs) more = ap (λ (l : List _). x ∷ l) (all_before xs more)

module _ (shape : Shape) (end : State) (ours : (lock : DomainId) → is_lock shape lock ≡ false → end.logs lock ≡ []) where
  abbrev pub histories : List LockHistory
  histories = map (λ lock. record { lock = lock; entries = end.logs lock }) (locks_of shape)

  -- the entries of a lock are its log
  pub entries_are : (lock : DomainId) → entries_of histories lock ≡ end.logs lock
  entries_are lock = found_log end (locks_of shape) lock ∙ by (is_lock shape lock) refl
    where
      by : (b : Bool) → is_lock shape lock ≡ b → cond (list_any (λ l. is_same_lock l lock) (locks_of shape)) (end.logs lock) [] ≡ end.logs lock
      by true is = choice (list_any (λ l. is_same_lock l lock) (locks_of shape)) (end.logs lock) [] (lock_there shape lock is)
      by false is = either (list_any (λ l. is_same_lock l lock) (locks_of shape)) (ours lock is)
        where
          either : (b : Bool) → end.logs lock ≡ [] → cond b (end.logs lock) [] ≡ end.logs lock
          either true none = refl
          either false none = sym none

  module _ (cpu number : ℕ) where
    step_names : (turn : Turn) (state : State) → Grows (turned shape cpu number turn state) end
        → Names histories cpu number (record { lock = turn.lock; index = length (state.logs turn.lock) }) (record { turn = turn; earlier = state.logs turn.lock })
    step_names turn state grows =
        let entry : Entry = record { ticket = state.next_ticket; cpu = cpu; call = number; part = turn.part } in
        let before : List Entry = state.logs turn.lock in
        let more : List Entry = (grows turn.lock).0 in
        let whole : entries_of histories turn.lock ≡ before ++ entry ∷ more =
        entries_are turn.lock ∙ (grows turn.lock).1
        ∙ ap (λ (entries : List Entry). entries ++ more) (choice (is_same_lock turn.lock turn.lock) (before ++ entry ∷ []) before (same_lock turn.lock)) ∙ append_assoc before (entry ∷ []) more in
        record {
          lock = refl;
          ticket = state.next_ticket;
          entry = ap (λ (entries : List Entry). slice_get entries (length before)) whole ∙ at_end before entry more;
          earlier = sym (ap (take (length before)) whole ∙ all_before before (entry ∷ more));
        }

    pub names_all : (turns : List Turn) (state : State) → Grows (all_turned shape cpu number turns state) end → NameAll histories cpu number (steps_of_turns shape cpu number turns state) (placed shape cpu number turns state)
    names_all [] state grows = tt
    names_all (turn ∷ turns) state grows =
        let next : State = turned shape cpu number turn state in
        (step_names turn state (grows_both next (all_turned shape cpu number turns next) end (grows_all shape cpu number turns next) grows), names_all turns next grows)
