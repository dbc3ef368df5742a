-- By the rule a pass that has all CPUs, holds no lock and has nothing in hand finds the map at rest, as its histories tell it.
use Rattle.std.proofs.Common.{◌≡◌, ◌⊎◌, inl, inr, ℕ, ◌<◌, Bool, true, false, cond, List, [], refl, ap, sym, ◌∙◌, subst}
use Rattle.std.specs.Prelude.{Some}
use Rattle.std.proofs.lemmas.Bool.{cond-true, cond-false}
use Rattle.std.proofs.lemmas.Option.{none-some}
use lib.ListN.{get_elem?}
use mathlib.Core.Option.{some}
use Rattle.atomic_table.specs.Table.{State}
use Rattle.map_types.specs.declared.attr.Shape.{Shape}
use Rattle.map_types.specs.declared.kind.DomainId.{DomainId}
use Rattle.map_types.specs.declared.kind.DomainId.TheVariants.{Local, Global, CpuLru, Bucket, Freelist}
use Rattle.map_types.specs.Kind.{is_lru}
use Rattle.map_types.proofs.CreationLemmas.{bounds_of_shape}
use Rattle.place_words.specs.declared.history.Entry.{Entry}
use Rattle.place_words.specs.Histories.{AllAllowed, IsLegal, content}
use Rattle.place_words.specs.Locks.{is_lock, lock_number}
use Rattle.place_words.proofs.EvictingDone.{IsAtRest}
use Rattle.place_words.proofs.LockLemmas.{named_by_number, number_within}
use Rattle.place_words.specs.State.{is_bucket}
use Rattle.place_table.specs.declared.content.Behind.{Behind}
use Rattle.place_table.specs.declared.view.View.{View}
use Rattle.place_table.specs.Contents.{lists_of}
use Rattle.place_table.specs.Rules.{World, Rule, HasRow, IsFresh, IsBrought, entries}
use Rattle.place_table.specs.StoredHashes.{stored_in}
use Rattle.place_table.specs.Views.{is_among, is_in_hand_of}
use Rattle.place_table.specs.Idle.{IsListLock, IsIdle}
use Rattle.place_table.proofs.AtRest.{idle_rests}
use Rattle.place_table.proofs.Closes.{nobody}
use Rattle.place_table.proofs.Locks.{free_home}
use Rattle.place_table.proofs.Worlds.{own_hand}

-- the turns of each lock that the map has
abbrev pub logs_in : Shape → World → DomainId → List Entry
logs_in shape w lock = cond (is_lock shape lock) (entries (w.log (lock_number shape lock))) []

module _ (shape : Shape) (s : State Behind View) (r : Rule shape s) (pass : ℕ) (v : View) (at_pass : get_elem? s.views pass ≡ some v) (all : (c : ℕ) → c < shape.cpus → is_among c v.cpus ≡ true) (no_lock : v.held ≡ [])
    (no_hand : (e c : ℕ) → c < shape.cpus → is_in_hand_of e c v.hand ≡ false) (lru : is_lru shape.kind ≡ true) where
  log_is : (lock : DomainId) → is_lock shape lock ≡ true → logs_in shape r.world lock ≡ entries (r.world.log (lock_number shape lock))
  log_is lock is = cond-true (is_lock shape lock) _ _ is

  log_none : (lock : DomainId) → is_lock shape lock ≡ false → logs_in shape r.world lock ≡ []
  log_none lock is = cond-false (is_lock shape lock) _ _ is

  legal_none : (lock : DomainId) → IsLegal shape lock []
  unfolding AllAllowed
  legal_none lock = tt

  legal_there : (lock : DomainId) → IsLegal shape lock (logs_in shape r.world lock)
  legal_there lock = by (is_lock shape lock) refl
    where
      by : (b : Bool) → is_lock shape lock ≡ b → IsLegal shape lock (logs_in shape r.world lock)
      by true is = subst (IsLegal shape lock) (sym (log_is lock is)) (subst (λ (l : DomainId). IsLegal shape l (entries (r.world.log (lock_number shape lock)))) (named_by_number shape lock is) (r.legal (lock_number shape lock)))
      by false is = subst (IsLegal shape lock) (sym (log_none lock is)) (legal_none lock)

  not_bucket : (lock : DomainId) → IsListLock shape lock → is_bucket lock ≡ false
  not_bucket (Local cpu) is = refl
  not_bucket Global is = refl
  not_bucket (CpuLru cpu) is = refl
  not_bucket (Bucket bucket) is = absurd is
  not_bucket (Freelist cpu) is = absurd is

  there : (lock : DomainId) → IsListLock shape lock → is_lock shape lock ≡ true
  there (Local cpu) is = is
  there Global is = is
  there (CpuLru cpu) is = is
  there (Bucket bucket) is = absurd is
  there (Freelist cpu) is = absurd is

  pub rule_idle : IsIdle shape (logs_in shape r.world)
  rule_idle = record {
    legal = legal_there;
    others = log_none;
    core = r.world.core;
    placed = r.placed;
    lists_are = λ lock is.
        let k : ℕ = lock_number shape lock in
        let named = named_by_number shape lock is in
        let home = (free_home shape k (r.world.core.holder k) (entries (r.world.log k)) (r.world.core.lists k) (r.world.lost k) (get_elem? s.homes k) (nobody shape s r pass v at_pass all no_lock k) (r.homes k (number_within shape lock is) (ap (is_lock shape) named ∙ is))).1 in
        home ∙ (ap (λ (l : DomainId). lists_of (content shape l (entries (r.world.log k)))) named ∙ ap (λ (turns : List Entry). lists_of (content shape lock turns)) (sym (log_is lock is)));
    empty_handed = λ e c less. own_hand shape r.world pass v e c (r.knows pass v at_pass) (all c less) ∙ no_hand e c less;
    hash = r.world.hash;
    of_bucket = (r.hashes lru).in_bucket;
    stored = λ lock is e inside. stored_row lock is e ((r.hashes lru).have (lock_number shape lock) e (ap is_bucket (named_by_number shape lock (there lock is)) ∙ not_bucket lock is) inside);
  }
    where
      stored_row : (lock : DomainId) → IsListLock shape lock → (e : ℕ)
          → HasRow shape r.world.log r.world.hash (lock_number shape lock) e ⊎ (IsFresh r.world.core.holder r.world.core.owner (lock_number shape lock) e ⊎ IsBrought shape r.world.core.holder r.world.log r.world.hash (lock_number shape lock) e)
          → stored_in (content shape lock (logs_in shape r.world lock)) e ≡ Some (r.world.hash e)
      stored_row lock is e (inl row) =
          ap (λ (turns : List Entry). stored_in (content shape lock turns) e) (log_is lock (there lock is))
          ∙ (ap (λ (l : DomainId). stored_in (content shape l (entries (r.world.log (lock_number shape lock)))) e) (sym (named_by_number shape lock (there lock is))) ∙ row.stored)
      stored_row lock is e (inr (inl fresh)) = absurd (none-some fresh.cpu (sym (nobody shape s r pass v at_pass all no_lock (lock_number shape lock)) ∙ fresh.held))
      stored_row lock is e (inr (inr brought)) = absurd (none-some brought.cpu (sym (nobody shape s r pass v at_pass all no_lock (lock_number shape lock)) ∙ brought.held))

  -- and so it is at rest
  pub rule_rests : IsAtRest shape (λ lock. content shape lock (logs_in shape r.world lock))
  rule_rests = idle_rests shape (bounds_of_shape shape r.is_shape) lru (logs_in shape r.world) rule_idle
