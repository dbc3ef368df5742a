-- What a batch update answers, by its entries.
use Rattle.std.proofs.Common.{◌≡◌, ◌≢◌, ℕ, zero, suc, ◌+◌, ◌<◌, Bool, true, false, List, [], ◌∷◌, ◌++◌, length, map, take, sym, refl, ◌∙◌, subst, inl, arith, Option, None, Some}
use Rattle.std.specs.Prelude.{IsFalse, MatchBool, reverse, Result, Ok, Err}
use Rattle.std.proofs.Math.Seq.{take-suc}
use Rattle.std.proofs.lemmas.List.{take_all}
use Rattle.map_types.specs.declared.call.Verb.{Verb}
use Rattle.map_types.specs.declared.call.Verb.TheVariants.{BatchUpdate}
use Rattle.map_types.specs.declared.kind.Side.TheVariants.{Sys}
use Rattle.map_types.specs.declared.refusal.Errno.{Errno}
use Rattle.map_types.specs.declared.refusal.Errno.TheVariants as errnos
use Rattle.map_types.specs.declared.reply.Reply.{Reply}
use Rattle.map_types.specs.declared.reply.Reply.TheVariants.{Refused, Count}
use Rattle.map_types.specs.Kind.{is_lru}
use Rattle.map_types.specs.Pairs.{HaveSizes, pair_at}
use Rattle.place_table.specs.Calls.{CanCall, Called, spare_element}
use Rattle.place_table.specs.Passes.{PassView, TableView}
use Rattle.place_table.proofs.Worlds.{true_false}
use Rattle.map_batch.specs.declared.writes.BatchCount.{BatchCount}
use Rattle.map_batch.specs.declared.writes.WriteRefusal.{WriteRefusal}
use Rattle.map_batch.specs.declared.writes.WriteRefusal.TheVariants as writes
use Rattle.hash_ops.specs.Calls.{LosesAtMost}
use Rattle.map_batch.specs.Calls.{UpdateCall, update_call, verb_of, Updated, Updates, MayRefuse}
use Rattle.map_batch.specs.Writes.{AreSomeOf, BatchUpdated, UpdatesBatch, bucket_lock}
use Rattle.map_batch.proofs.Entries.{SoFar, Ends, so_far_none, those_before, all_done, one_more, stopped}
use Rattle.map_batch.proofs.Joined.{called_wrote, called_nothing, batch_refused}

-- What is lost, told only of a map that doesn't evict

parts_of : (b : Bool) {C : Type 0} (Loses : C → Type 0) → MatchBool b C ((c : C) × Loses c) → (c : C) × (b ≡ false → Loses c)
parts_of true Loses c = (c, λ is. absurd (true_false is))
parts_of false Loses both = (both.0, λ _. both.1)

again : (b : Bool) {C : Type 0} (Loses : C → Type 0) (c : C) → (b ≡ false → Loses c) → MatchBool b C ((x : C) × Loses x)
again true Loses c loses = c
again false Loses c loses = (c, loses refl)

evicting_only : (b : Bool) {F : Type 0} (C D : Type 0) → (F → C) → MatchBool b F ⊥ → MatchBool b C D
evicting_only true C D to is = to is
evicting_only false C D to is = absurd is

plain_only : (b : Bool) (C D : Type 0) → MatchBool b ⊥ D → MatchBool b C D
plain_only true C D is = absurd is
plain_only false C D is = is

-- nothing lost is no more than that
nothing_lost : (b : Bool) {C : Type 0} (lost : C → List ℕ) (lock : ℕ) → (c : C) × (lost c ≡ []) → MatchBool b C ((c : C) × LosesAtMost lock (lost c))
nothing_lost true lost lock whole = whole.0
nothing_lost false lost lock whole = (whole.0, inl whole.1)

-- Updates

module _ (t : TableView) (q r : PassView) (update : UpdateCall) where
  -- an update that was refused did what its turns tell
  refused_updated : (errno : Errno) → Updates t q r update (Err errno) → Updated t q r update (Refused errno)
  refused_updated errnos.Einval updates =
      nothing_lost (is_lru t.shape.kind) (λ (c : Called t q r (verb_of update) (Refused errnos.Einval)). c.lost) (bucket_lock t.shape (update.key, update.value)) updates.1
  refused_updated errnos.Enoent updates = updates
  refused_updated errnos.Eexist updates = updates
  refused_updated errnos.E2big updates = plain_only (is_lru t.shape.kind) _ _ updates
  refused_updated errnos.Enomem updates = evicting_only (is_lru t.shape.kind) _ _ (λ none. none.called) updates
  refused_updated errnos.Enospc updates = absurd updates

-- a pair's update, by the system call with BPF_ANY
abbrev pub pair_update : List ℕ × List ℕ → UpdateCall
pair_update pair = update_call Sys 0 pair.0 pair.1

abbrev pub update_of : List ℕ × List ℕ → Verb
update_of pair = verb_of (pair_update pair)

-- the pairs so far were updated
abbrev pub UpdatedSoFar : TableView → PassView → List (List ℕ × List ℕ) → PassView → ℕ → Type 0
UpdatedSoFar t p pairs q n = SoFar update_of (bucket_lock t.shape) (IsFalse (is_lru t.shape.kind)) t p pairs q n

pub updated_none : (t : TableView) (p : PassView) (pairs : List (List ℕ × List ℕ)) → CanCall t p → UpdatedSoFar t p pairs p 0
updated_none t p pairs can = so_far_none pairs can

pub key_sized : (key_size value_size : ℕ) (pairs : List (List ℕ × List ℕ)) (i : ℕ) → HaveSizes key_size value_size pairs → i < length pairs → length (pair_at pairs i).0 ≡ key_size
key_sized key_size value_size [] i sizes less = absurd (omega (arith, less))
key_sized key_size value_size (pair ∷ pairs) zero sizes less = sizes.0
key_sized key_size value_size (pair ∷ pairs) (suc i) sizes less = key_sized key_size value_size pairs i sizes.2 (omega arith)

pub value_sized : (key_size value_size : ℕ) (pairs : List (List ℕ × List ℕ)) (i : ℕ) → HaveSizes key_size value_size pairs → i < length pairs → length (pair_at pairs i).1 ≡ value_size
value_sized key_size value_size [] i sizes less = absurd (omega (arith, less))
value_sized key_size value_size (pair ∷ pairs) zero sizes less = sizes.1
value_sized key_size value_size (pair ∷ pairs) (suc i) sizes less = value_sized key_size value_size pairs i sizes.2 (omega arith)

module _ (t : TableView) (p : PassView) (pairs : List (List ℕ × List ℕ)) where
  -- what is told of the entries, as a batch of them
  as_batch : (q : PassView) (entries begun : List (List ℕ × List ℕ)) (stop : Option Errno) (n : ℕ) → Ends update_of (bucket_lock t.shape) (IsFalse (is_lru t.shape.kind)) t p pairs q entries begun (Count stop n)
      → BatchUpdated t p q 0 entries begun (Count stop n)
  as_batch q entries begun stop n ends =
      let locks : List ℕ = reverse (map (bucket_lock t.shape) begun) in
      let called = called_wrote (BatchUpdate 0 entries) (Count stop n) ends.0 ends.0.trace in
      again (is_lru t.shape.kind) (λ (c : Called t p q (BatchUpdate 0 entries) (Count stop n)). AreSomeOf locks c.lost) called.0 (λ plain. subst (AreSomeOf locks) (sym called.1) (ends.1 plain))

  module _ (q r : PassView) (n : ℕ) (key value : List ℕ) (so_far : UpdatedSoFar t p pairs q n) (less : n < length pairs) (key_is : key ≡ (pair_at pairs n).0) (value_is : value ≡ (pair_at pairs n).1) where
    next : take (suc n) pairs ≡ take n pairs ++ pair_at pairs n ∷ []
    next = take-suc pairs n ([], []) less

    of_pair : (result : Result (Unit {0}) Errno) → Updates t q r (update_call Sys 0 key value) result → Updates t q r (pair_update (pair_at pairs n)) result
    of_pair result = subst (λ (x : List ℕ × List ℕ). Updates t q r (pair_update x) result) (λ i. (key_is i, value_is i))

    updated_parts : {reply : Reply} → Updated t q r (pair_update (pair_at pairs n)) reply
        → (c : Called t q r (update_of (pair_at pairs n)) reply) × (IsFalse (is_lru t.shape.kind) → LosesAtMost (bucket_lock t.shape (pair_at pairs n)) c.lost)
    updated_parts {reply} = parts_of (is_lru t.shape.kind) (λ (c : Called t q r (update_of (pair_at pairs n)) reply). LosesAtMost (bucket_lock t.shape (pair_at pairs n)) c.lost)

    pub updated_more : (done : Unit {0}) → Updates t q r (update_call Sys 0 key value) (Ok done) → UpdatedSoFar t p pairs r (n + 1)
    updated_more done updates =
        let called = updated_parts (of_pair (Ok done) updates) in
        let more : suc n ≡ n + 1 = omega arith in
        subst (UpdatedSoFar t p pairs r) more (one_more pairs so_far (pair_at pairs n) next called.0 called.1 called.0.trace refl)

    pub updated_stopped : (errno : Errno) → Updates t q r (update_call Sys 0 key value) (Err errno) → MayRefuse t.shape.kind 0 errno → UpdatesBatch t p r 0 pairs (Ok record { done = n; stop = Some errno })
    updated_stopped errno updates may =
        let pair = pair_at pairs n in
        let called = updated_parts (refused_updated t q r (pair_update pair) errno (of_pair (Err errno) updates)) in (
          refl,
          as_batch r pairs (take (suc n) pairs) (Some errno) n (stopped pairs so_far pair next called.0 called.1 called.0.trace errno refl),
          record {
            within = less;
            between = q;
            entries = as_batch q (take n pairs) (take n pairs) None n (those_before pairs so_far);
            refused = of_pair (Err errno) updates;
            may = may;
          },
        )

  pub updated_all : (q : PassView) (n : ℕ) → UpdatedSoFar t p pairs q n → n ≡ length pairs → UpdatesBatch t p q 0 pairs (Ok record { done = n; stop = None })
  updated_all q n so_far all =
      let whole = take_all n pairs (omega (arith, all)) in
      let begun = whole ∙ sym (take_all (suc n) pairs (omega (arith, all))) in
      (refl, as_batch q pairs (take (suc n) pairs) None n (all_done pairs so_far (take (suc n) pairs) whole begun), all)

  -- by flags that are 0
  pub updates_by : (q : PassView) (flags : ℕ) (result : Result BatchCount WriteRefusal) → flags ≡ 0 → UpdatesBatch t p q 0 pairs result → UpdatesBatch t p q flags pairs result
  updates_by q flags result is = subst (λ (f : ℕ). UpdatesBatch t p q f pairs result) (sym is)

  pub updates_refused : (flags : ℕ) → CanCall t p → flags ≢ 0 → UpdatesBatch t p p flags pairs (Err writes.Einval)
  updates_refused flags can other =
      (other, refl, called_nothing (BatchUpdate flags pairs) (Refused errnos.Einval) can (batch_refused t.shape p.cpu (spare_element p) flags _ other))
