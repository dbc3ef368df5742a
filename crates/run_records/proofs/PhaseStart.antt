-- What a pass that has all CPUs and is in no call knows once it has read the ticket word: the turns of every lock, which tell a state
-- from which a run may start.
use Rattle.std.proofs.Common.{◌≡◌, ℕ, ◌<◌, Bool, true, false, List, [], refl, sym, subst}
use Rattle.std.proofs.lemmas.Bool.{cond-true, cond-false}
use Rattle.map_types.specs.Creation.{IsShape}
use Rattle.map_types.specs.declared.attr.Shape.{Shape}
use Rattle.map_types.specs.declared.kind.DomainId.{DomainId}
use Rattle.map_types.specs.Kind.{is_lru}
use Rattle.map_types.proofs.CreationLemmas.{bounds_of_shape}
use Rattle.place_words.specs.declared.history.Entry.{Entry}
use Rattle.place_words.specs.AtRest.{IsAtRest}
use Rattle.place_words.specs.Histories.{AllAllowed, IsLegal, content}
use Rattle.place_words.specs.Locks.{is_lock, lock_number}
use Rattle.place_words.proofs.LockLemmas.{named_by_number}
use Rattle.place_table.specs.declared.view.View.{View}
use Rattle.place_table.specs.Idle.{LearnsAll, logs_of_locks}
use Rattle.place_table.specs.declared.view.Known.{Known}
use Rattle.place_table.specs.Views.{is_in_hand_of}
use Rattle.place_table.proofs.AtRest.{idle_rests}

module _ (shape : Shape) (v : View) (learned : List Known) (learns : LearnsAll shape v learned) where
  abbrev pub logs_then : DomainId → List Entry
  logs_then = logs_of_locks shape learns.log

  nothing_legal : (lock : DomainId) → IsLegal shape lock []
  unfolding AllAllowed
  nothing_legal lock = tt

  pub legal_then : (lock : DomainId) → IsLegal shape lock (logs_then lock)
  legal_then lock = by (is_lock shape lock) refl
    where
      by : (b : Bool) → is_lock shape lock ≡ b → IsLegal shape lock (logs_of_locks shape learns.log lock)
      by true is =
          subst (IsLegal shape lock) (sym (cond-true (is_lock shape lock) (learns.log (lock_number shape lock)) [] is))
          (subst (λ (l : DomainId). IsLegal shape l (learns.log (lock_number shape lock))) (named_by_number shape lock is) (learns.legal (lock_number shape lock)))
      by false is = subst (IsLegal shape lock) (sym (cond-false (is_lock shape lock) (learns.log (lock_number shape lock)) [] is)) (nothing_legal lock)

  -- on a map that evicts each element is in its place
  pub rests_then : IsShape shape → v.held ≡ [] → is_lru shape.kind ≡ true → ((e c : ℕ) → c < shape.cpus → is_in_hand_of e c v.hand ≡ false) → IsAtRest shape (λ lock. content shape lock (logs_then lock))
  rests_then created no_lock lru no_hand = idle_rests shape (bounds_of_shape shape created) lru logs_then (learns.idle lru no_lock no_hand)
