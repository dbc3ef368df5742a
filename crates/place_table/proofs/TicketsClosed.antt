-- Where no lock is held and no record is lost, the tickets of the turns are the numbers below the ticket word, each once.
use Rattle.std.proofs.Common.{◌≡◌, ◌≢◌, ℕ, zero, suc, ◌<◌, cond, ltb, Bool, List, [], ◌∷◌, ◌++◌, sym, refl, ap, ◌∙◌, arith}
use Rattle.std.specs.Prelude.{IsTrue, nat_lt}
use Rattle.std.specs.List.{flat_map, range_with_len}
use Rattle.std.proofs.lemmas.Bool.{ltb-true, ltb-false}
use Rattle.map_types.specs.declared.attr.Shape.{Shape}
use Rattle.map_types.specs.ElementLists.{one, times, IsIn}
use Rattle.map_types.proofs.RowLemmas.{by_test, times_append}
use Rattle.place_words.specs.declared.history.Entry.{Entry}
use Rattle.place_words.specs.Locks.{lock_count}
use Rattle.place_words.proofs.Ascending.{tickets_append, none_past, one_there, found_in}
use Rattle.place_words.proofs.Permutes.{numbers_count}
use Rattle.place_words.proofs.OpeningLemmas.{times_filter}
use Rattle.place_table.specs.declared.view.View.{View}
use Rattle.place_words.specs.Tickets.{tickets_of}
use Rattle.place_table.specs.Tickets.{Stand, in_log, with_cpu, NoneLost, IsOut, IsAt, Tickets}
use Rattle.place_table.specs.Closing.{has_lock, all_locks, all_turns}
use Rattle.place_table.proofs.Worlds.{by_bool}

-- Over all locks

sum_none : (t : ℕ) (f : ℕ → List Entry) (ks : List ℕ) → ((k : ℕ) → IsIn k ks → times t (tickets_of (f k)) ≡ 0) → times t (tickets_of (flat_map f ks)) ≡ 0
sum_none t f [] none = refl
sum_none t f (k ∷ ks) none =
    let here = none k (by_test k k (λ b. 0 < cond b (suc (times k ks)) (times k ks)) (λ _. omega arith) (λ n. absurd (n refl))) in
    let rest = sum_none t f ks (λ j inside. none j (later j inside)) in
    ap (times t) (tickets_append (f k) (flat_map f ks)) ∙ (times_append t (tickets_of (f k)) (tickets_of (flat_map f ks)) ∙ omega arith)
  where
    later : (j : ℕ) → IsIn j ks → IsIn j (k ∷ ks)
    later j inside = by_test k j (λ b. 0 < cond b (suc (times j ks)) (times j ks)) (λ _. omega arith) (λ _. inside)

sum_one : (t at : ℕ) (f : ℕ → List Entry) (ks : List ℕ) → ((k : ℕ) → IsIn k ks → k ≢ at → times t (tickets_of (f k)) ≡ 0) → times t (tickets_of (f at)) ≡ 1 → times t (tickets_of (flat_map f ks)) ≡ times at ks
sum_one t at f [] none one = refl
sum_one t at f (k ∷ ks) none one =
    let rest = sum_one t at f ks (λ j inside other. none j (later j inside) other) one in
    let parts = ap (times t) (tickets_append (f k) (flat_map f ks)) ∙ times_append t (tickets_of (f k)) (tickets_of (flat_map f ks)) in
    by_test k at (λ b. times t (tickets_of (f k ++ flat_map f ks)) ≡ cond b (suc (times at ks)) (times at ks))
    (λ same. let here : times t (tickets_of (f k)) ≡ 1 = ap (λ (n : ℕ). times t (tickets_of (f n))) same ∙ one in parts ∙ omega arith)
    (λ other. let here = none k (by_test k k (λ b. 0 < cond b (suc (times k ks)) (times k ks)) (λ _. omega arith) (λ n. absurd (n refl))) other in parts ∙ omega arith)
  where
    later : (j : ℕ) → IsIn j ks → IsIn j (k ∷ ks)
    later j inside = by_test k j (λ b. 0 < cond b (suc (times j ks)) (times j ks)) (λ _. omega arith) (λ _. inside)

-- the locks of the map are those that it has, each once
lock_once : (shape : Shape) (k : ℕ) → k < lock_count shape → IsTrue (has_lock shape k) → times k (all_locks shape) ≡ 1
lock_once shape k below there =
    times_filter (has_lock shape) k (range_with_len 0 (lock_count shape)) ∙ (ap (λ (b : Bool). cond b (times k (range_with_len 0 (lock_count shape))) 0) there
    ∙ (numbers_count k (lock_count shape) ∙ by_bool (ltb k (lock_count shape)) (λ b. ltb k (lock_count shape) ≡ b → one b ≡ 1) (λ _ _. refl) (λ _ no. let past = ltb-false k (lock_count shape) no in absurd (omega (arith, past, below))) refl))

lock_real : (shape : Shape) (k : ℕ) → IsIn k (all_locks shape) → (k < lock_count shape) × IsTrue (has_lock shape k)
lock_real shape k inside =
    let counted = times_filter (has_lock shape) k (range_with_len 0 (lock_count shape)) in
    by_bool (has_lock shape k) (λ b. has_lock shape k ≡ b → times k (all_locks shape) ≡ cond b (times k (range_with_len 0 (lock_count shape))) 0 → (k < lock_count shape) × IsTrue (has_lock shape k))
    (λ _ yes is. (
      by_bool (ltb k (lock_count shape)) (λ b. ltb k (lock_count shape) ≡ b → k < lock_count shape) (λ _ less. ltb-true k (lock_count shape) less)
          (λ _ no. let none = numbers_count k (lock_count shape) ∙ ap one no in absurd (omega (arith, is, none, inside))) refl,
      yes,
    ))
    (λ _ _ is. absurd (omega (arith, is, inside))) refl counted

module _ (shape : Shape) (word : ℕ) (log : ℕ → List Entry) (lost : ℕ → Bool) (pass_of_cpu : ℕ → ℕ) (views : List View) (r : Tickets shape word log lost pass_of_cpu views) (none_lost : NoneLost shape lost) (none_out : (t c : ℕ) → IsOut pass_of_cpu views t c → ⊥) where
  other_log : {k place m at : ℕ} → in_log k place ≡ in_log m at → k ≡ m
  other_log {k} {place} {m} {at} e = cc

  drawn_once : (t : ℕ) → t < word → (x : Stand) → r.stand t ≡ x → IsAt shape log pass_of_cpu views t x → times t (tickets_of (all_turns shape log)) ≡ 1
  drawn_once t less (with_cpu c) stands out = absurd (none_out t c out)
  drawn_once t less (in_log k place) stands is =
      sum_one t k log (all_locks shape)
      (λ m inside other. by_zero (times t (tickets_of (log m))) (λ some_there.
      let real = lock_real shape m inside in
      let found = found_in t (log m) some_there in
      other (other_log (sym (r.stands m found.place found.entry (none_lost m real.0 real.1) found.at) ∙ (ap r.stand found.ticket_is ∙ stands)))))
      (one_there t 0 (log k) word place is.entry (r.ascend k (none_lost k is.below is.there)) is.at is.ticket_is)
      ∙ lock_once shape k is.below is.there
    where
      by_zero : (n : ℕ) → (0 < n → ⊥) → n ≡ 0
      by_zero zero none = refl
      by_zero (suc n) none = absurd (none (omega arith))

  pub each_once : (t : ℕ) → times t (tickets_of (all_turns shape log)) ≡ one (nat_lt t word)
  each_once t =
      by_bool (nat_lt t word) (λ b. nat_lt t word ≡ b → times t (tickets_of (all_turns shape log)) ≡ one b)
      (λ _ is. let less = ltb-true t word is in drawn_once t less (r.stand t) refl (r.filled none_lost t less))
      (λ _ no. sum_none t log (all_locks shape) (λ k inside. let real = lock_real shape k inside in none_past t 0 (tickets_of (log k)) word (r.ascend k (none_lost k real.0 real.1)) (ltb-false t word no)))
      refl
