-- What a batch delete answers, by its entries.
use Rattle.std.proofs.Common.{◌≡◌, ◌≢◌, ℕ, suc, ◌+◌, ◌<◌, List, [], ◌∷◌, ◌++◌, length, take, get_or, sym, refl, ap, ◌∙◌, subst, arith, Option, None, Some}
use Rattle.std.specs.Prelude.{Result, Ok, Err}
use Rattle.std.proofs.Math.Seq.{take-suc}
use Rattle.std.proofs.lemmas.List.{take_all}
use Rattle.map_types.specs.declared.call.Verb.{Verb}
use Rattle.map_types.specs.declared.call.Verb.TheVariants.{Delete, BatchDelete}
use Rattle.map_types.specs.declared.refusal.Errno.{Errno}
use Rattle.map_types.specs.declared.refusal.Errno.TheVariants as errnos
use Rattle.map_types.specs.declared.reply.Reply.{Reply}
use Rattle.map_types.specs.declared.reply.Reply.TheVariants.{Done, Refused, Count}
use Rattle.place_table.specs.Calls.{CanCall, Called, spare_element}
use Rattle.place_table.specs.Passes.{PassView, TableView}
use Rattle.map_batch.specs.declared.writes.BatchCount.{BatchCount}
use Rattle.map_batch.specs.declared.writes.WriteRefusal.{WriteRefusal}
use Rattle.map_batch.specs.declared.writes.WriteRefusal.TheVariants as writes
use Rattle.map_batch.specs.Writes.{DeletesBatch}
use Rattle.map_batch.proofs.Entries.{SoFar, Ends, so_far_none, all_done, one_more, stopped}
use Rattle.map_batch.proofs.Joined.{called_wrote, called_nothing, batch_refused}

abbrev pub delete_of : List ℕ → Verb
delete_of key = Delete key

-- which locks are lost isn't told
abbrev pub no_lock : List ℕ → ℕ
no_lock key = 0

-- the keys so far were deleted
abbrev pub DeletedSoFar : TableView → PassView → List (List ℕ) → PassView → ℕ → Type 0
DeletedSoFar t p keys q n = SoFar delete_of no_lock ⊥ t p keys q n

pub deleted_none : (t : TableView) (p : PassView) (keys : List (List ℕ)) → CanCall t p → DeletedSoFar t p keys p 0
deleted_none t p keys can = so_far_none keys can

module _ (t : TableView) (p : PassView) (keys : List (List ℕ)) where
  as_deletes : (q : PassView) (entries begun : List (List ℕ)) (stop : Option Errno) (n : ℕ) → Ends delete_of no_lock ⊥ t p keys q entries begun (Count stop n) → Called t p q (BatchDelete 0 entries) (Count stop n)
  as_deletes q entries begun stop n ends = (called_wrote (BatchDelete 0 entries) (Count stop n) ends.0 ends.0.trace).0

  module _ (q r : PassView) (n i : ℕ) (key : List ℕ) (so_far : DeletedSoFar t p keys q n) (at : n ≡ i) (less : n < length keys) (is : key ≡ get_or keys i key) (bytes : List ℕ) (bytes_are : bytes ≡ key) where
    next : take (suc n) keys ≡ take n keys ++ key ∷ []
    next = take-suc keys n key less ∙ ap (λ (x : List ℕ). take n keys ++ x ∷ []) (ap (λ (k : ℕ). get_or keys k key) at ∙ sym is)

    of_key : (reply : Reply) → Called t q r (Delete bytes) reply → Called t q r (Delete key) reply
    of_key reply = subst (λ (k : List ℕ). Called t q r (Delete k) reply) bytes_are

    pub deleted_more : Called t q r (Delete bytes) Done → DeletedSoFar t p keys r (n + 1)
    deleted_more given =
        let called = of_key Done given in
        let more : suc n ≡ n + 1 = omega arith in
        subst (DeletedSoFar t p keys r) more (one_more keys so_far key next called (λ never. absurd never) called.trace refl)

    pub deleted_stopped : Called t q r (Delete bytes) (Refused errnos.Enoent) → DeletesBatch t p r 0 keys (Ok record { done = n; stop = Some errnos.Enoent })
    deleted_stopped given =
        let called = of_key (Refused errnos.Enoent) given in (
          refl,
          as_deletes r keys (take (suc n) keys) (Some errnos.Enoent) n (stopped keys so_far key next called (λ never. absurd never) called.trace errnos.Enoent refl),
          (refl, less),
        )

  pub deleted_all : (q : PassView) (n : ℕ) → DeletedSoFar t p keys q n → n ≡ length keys → DeletesBatch t p q 0 keys (Ok record { done = n; stop = None })
  deleted_all q n so_far all = (refl, as_deletes q keys (take n keys) None n (all_done keys so_far (take n keys) (take_all n keys (omega (arith, all))) refl), all)

  -- by flags that are 0
  pub deletes_by : (q : PassView) (flags : ℕ) (result : Result BatchCount WriteRefusal) → flags ≡ 0 → DeletesBatch t p q 0 keys result → DeletesBatch t p q flags keys result
  deletes_by q flags result is = subst (λ (f : ℕ). DeletesBatch t p q f keys result) (sym is)

  pub deletes_refused : (flags : ℕ) → CanCall t p → flags ≢ 0 → DeletesBatch t p p flags keys (Err writes.Einval)
  deletes_refused flags can other = (other, refl, called_nothing (BatchDelete flags keys) (Refused errnos.Einval) can (batch_refused t.shape p.cpu (spare_element p) flags _ other))
