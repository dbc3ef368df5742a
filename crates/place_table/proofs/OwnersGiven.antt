-- A lock is given back: what its part tells of owners, and which locks are still held.
use Rattle.std.proofs.Common.{◌≡◌, ◌⊎◌, inl, inr, ⊎_elim, ℕ, ◌<◌, ◌≤◌, Bool, true, false, List, [], ◌∷◌, sym, refl, ap, ◌∙◌, subst, arith, Option, Some, None}
use Rattle.std.specs.Prelude.{is_some, IsTrue, IsFalse, All, not, ◌&&◌, nat_lt}
use mathlib.Core.Option.{some}
use lib.ListN.{get_elem?}
use Rattle.atomic_table.specs.Table.{State}
use Rattle.key_hash.specs.Bucket.{bucket_number}
use Rattle.key_hash.proofs.Buckets.{bucket_number-lt}
use Rattle.std.proofs.lemmas.Bool.Decides.{nat_tests}
use Rattle.map_types.specs.declared.attr.Shape.{Shape}
use Rattle.map_types.specs.declared.kind.DomainId.{DomainId}
use Rattle.map_types.specs.declared.kind.DomainId.TheVariants.{Local, Global, CpuLru, Bucket, Freelist}
use Rattle.map_types.specs.Kind.{is_lru}
use Rattle.map_types.specs.ElementLists.{times, IsIn}
use Rattle.map_types.specs.Shape.{HasBounds}
use Rattle.map_types.proofs.CreationLemmas.{bounds_of_shape}
use Rattle.owner_words.specs.Owners.{owner_told}
use Rattle.place_words.specs.declared.bucket_part.BucketPart.TheVariants.{Evict}
use Rattle.place_words.specs.declared.bucket_part.Seen.TheVariants.{Held}
use Rattle.place_words.specs.declared.history.Entry.{Entry}
use Rattle.place_words.specs.declared.history.Part.{Part}
use Rattle.place_words.specs.declared.history.Part.TheVariants as parts
use Rattle.place_words.specs.declared.owner.Owner.{Owner}
use Rattle.place_words.specs.declared.owner.Owner.TheVariants as owners
use Rattle.place_words.specs.Histories.{content}
use Rattle.place_words.specs.Locks.{is_lock, lock_named, lock_number, rank_of}
use Rattle.place_words.specs.SerialOrder.{probes_in}
use Rattle.place_words.specs.State.{rows, is_bucket}
use Rattle.place_words.proofs.LockLemmas.{named_by_number, number_of_named}
use Rattle.place_table.specs.declared.content.Behind.{Behind}
use Rattle.place_table.specs.declared.view.View.{View}
use Rattle.place_table.specs.declared.view.Hold.{Hold}
use Rattle.place_table.specs.declared.view.Notes.{Notes}
use Rattle.place_table.specs.declared.view.OwnerSeen.{OwnerSeen}
use Rattle.place_table.specs.Owners.{changed_to, owner_left, first_of, change_in, is_held, IsBucketHere, AreGuarded, IsInHandHere, IsBucketLast, IsProtected, IsProbed, OwnersFit}
use Rattle.place_table.specs.Rules.{Rule, HasRow, IsFresh, IsBrought, hold, hold_of}
use Rattle.place_table.specs.StoredHashes.{stored_in}
use Rattle.place_table.specs.TurnNotes.{NotesFit, ProbeFits, WasReadInHand}
use Rattle.place_table.specs.Views.{is_among, hold_at, holds_below, notes_below, IsAboveAll, Ascends}
use Rattle.place_table.proofs.OwnersKept.{none_around}
use Rattle.place_table.proofs.OwnersOrder.{IsToldOf, left_some}
use Rattle.place_table.proofs.OwnersSeen.{owner_fits}
use Rattle.place_table.proofs.OwnerSteps.{cpu_here, home_here}
use Rattle.place_table.proofs.PlaceSteps.{held_there}
use Rattle.place_table.proofs.StoredHashes.{lies_on, in_all}
use Rattle.place_table.proofs.Worlds.{true_false, none_some, some_is, hold_of_mine, above_each, hold_at_first}
use Rattle.place_table.proofs.Locks.{elements_there}

-- Locks still held

rank_most : (shape : Shape) (lock : DomainId) → IsTrue (is_lru shape.kind) → IsTrue (is_lock shape lock) → rank_of lock ≤ 3
rank_most shape (Local c) lru is = omega arith
rank_most shape Global lru is = omega arith
rank_most shape (CpuLru c) lru is = omega arith
rank_most shape (Bucket b) lru is = omega arith
rank_most shape (Freelist c) lru is = true_false (sym is ∙ ap (λ (b : Bool). not b && nat_lt c shape.cpus) lru)

bucket_rank : (lock : DomainId) → IsTrue (is_bucket lock) → rank_of lock ≡ 3
bucket_rank (Local c) is = true_false (sym is)
bucket_rank Global is = true_false (sym is)
bucket_rank (CpuLru c) is = true_false (sym is)
bucket_rank (Bucket b) is = refl
bucket_rank (Freelist c) is = true_false (sym is)

-- On a map that evicts a bucket's lock is taken last: none is held below another lock.
pub no_bucket_below : (shape : Shape) (lock : DomainId) (below : List Hold) → HasBounds shape → IsTrue (is_lru shape.kind) → IsTrue (is_lock shape lock) → IsAboveAll shape (rank_of lock) below → (h : ℕ) → IsBucketHere shape below h → ⊥
no_bucket_below shape lock below bounds lru is above h here =
    let bucket : ℕ = bucket_number h shape.buckets in
    let within : bucket < shape.buckets = bucket_number-lt h shape.buckets bounds.buckets_power in
    let is_there : IsTrue (is_lock shape (Bucket bucket)) = grind (arith, nat_tests) in
    go (lock_number shape (Bucket bucket)) (named_by_number shape (Bucket bucket) is_there) (hold_at (lock_number shape (Bucket bucket)) below) refl here
  where
    go : (k : ℕ) → lock_named shape k ≡ Bucket (bucket_number h shape.buckets) → (x : Option Hold) → hold_at k below ≡ x → is_some x ≡ true → ⊥
    go k named None at some_there = true_false (sym some_there)
    go k named (Some x) at some_there =
        let low : rank_of (lock_named shape k) < rank_of lock = above_each shape (rank_of lock) below k x above at in
        let rank : rank_of (lock_named shape k) ≡ 3 = ap rank_of named in
        let most = rank_most shape lock lru is in
        omega (arith, low, rank, most)

pub none_last_below : (shape : Shape) (lock : DomainId) (below : List Hold) → IsTrue (is_lru shape.kind) → IsTrue (is_lock shape lock) → IsAboveAll shape (rank_of lock) below → IsBucketLast shape below → ⊥
none_last_below shape lock [] lru is above last = last
none_last_below shape lock (h ∷ hs) lru is above last =
    let low : rank_of (lock_named shape h.lock) < rank_of lock = above.0 in
    let rank = bucket_rank (lock_named shape h.lock) last in
    let most = rank_most shape lock lru is in
    omega (arith, low, rank, most)

-- What the part tells

-- A turn that leaves each owner as it was has changed none.
none_changed : (xs : List OwnerSeen) (e : ℕ) → ((owner : Owner) → owner_left xs e owner ≡ owner) → changed_to e xs ≡ None
none_changed xs e same = go (changed_to e xs) refl
  where
    not_both : (to : Owner) → to ≡ owners.Free → to ≡ owners.Hand 0 → ⊥
    not_both to free hand = let is : owners.Free ≡ owners.Hand 0 = sym free ∙ hand in cc

    go : (o : Option Owner) → changed_to e xs ≡ o → o ≡ None
    go None is = refl
    go (Some to) is = absurd (not_both to (sym (left_some xs e owners.Free to is) ∙ same owners.Free) (sym (left_some xs e (owners.Hand 0) to is) ∙ same (owners.Hand 0)))

none_told : (shape : Shape) (lock : DomainId) (cpu e holder : ℕ) (part : Part) (owner : Owner) → part ≡ parts.Bucket (Evict e (Held holder)) → owner_told shape lock cpu part e owner ≡ owner
none_told shape lock cpu e holder part owner is = ap (λ (p : Part). owner_told shape lock cpu p e owner) is

module _ (shape : Shape) (s : State Behind View) (r : Rule shape s) (pass : ℕ) (v : View) (at_pass : get_elem? s.views pass ≡ some v) (lru : IsTrue (is_lru shape.kind)) (h : Hold) (below : List Hold) (held_are : v.held ≡ h ∷ below) (n : Notes) (ns : List Notes) (notes_are : v.notes ≡ n ∷ ns) where
  -- an element that is listed here under the stored hash of the bucket is protected from others
  protected_there : (e : ℕ) → IsProbed shape v (lock_named shape h.lock) e → IsProtected shape r.world.core.owner r.world.core.home r.world.hash v e
  protected_there e it =
      let w = r.world in let kn = r.knows pass v at_pass in
      let k : ℕ = it.listed.lock in
      let at = held_there shape s r pass v at_pass k it.listed.hold it.listed.held in
      let listed : IsIn e (rows (w.core.lists k)) = subst (λ (z : Hold). IsIn e (rows z.now)) at.hold_is it.listed.listed in
      let is_hash : w.hash e ≡ it.hash → IsBucketHere shape v.held (w.hash e) = λ same.
      ap (λ (j : ℕ). is_held (lock_number shape (Bucket (bucket_number j shape.buckets))) v.held) same
      ∙ (ap (λ (d : DomainId). is_held (lock_number shape d) v.held) (sym it.lock_is) ∙ here_first) in record {
        last = subst (IsBucketLast shape) (sym held_are) (ap is_bucket it.lock_is);
        at_home = home_here shape s r pass v at_pass k it.listed.hold it.listed.held e lru ((elements_there shape s r k).rows_real e listed)
            (lies_on shape w.core.lists w.core.owner w.core.home r.placed.place r.placed.placed k e it.listed.no_bucket (in_all e (w.core.lists k) listed));
        kept = ⊎_elim
            (λ (had : HasRow shape w.log w.hash k e). inr (is_hash (it.only k (w.hash e) it.listed.hold it.listed.held (ap (λ (z : Hold). stored_in (content shape (lock_named shape k) z.log) e) at.hold_is ∙ had.stored))))
            (⊎_elim
            (λ (fresh : IsFresh w.core.holder w.core.owner k e).
            inl (subst (IsInHandHere v.cpus) (sym fresh.in_hand) (ap (λ (c : ℕ). is_among c v.cpus) (some_is (sym fresh.held ∙ at.holder_is)) ∙ cpu_here shape s r pass v at_pass k it.listed.hold it.listed.held)))
            (λ (brought : IsBrought shape w.core.holder w.log w.hash k e).
            let cpu_is : brought.cpu ≡ it.listed.hold.cpu = some_is (sym brought.held ∙ at.holder_is) in
            let from : ℕ = brought.from in
            let holds : hold_at from v.held ≡ Some (hold from it.listed.hold.cpu (w.log from) (w.core.lists from) (w.lost from)) =
            kn.held from ∙ (ap (λ (z : Option ℕ). hold_of pass w.pass_of_cpu from z (w.log from) (w.core.lists from) (w.lost from)) (brought.holds ∙ ap Some cpu_is) ∙ hold_of_mine w.pass_of_cpu pass from it.listed.hold.cpu (w.log from) (w.core.lists from) (w.lost from) at.mine) in
            inr (is_hash (it.only from (w.hash e) (hold from it.listed.hold.cpu (w.log from) (w.core.lists from) (w.lost from)) holds brought.row.stored))))
            ((r.hashes lru).have k e it.listed.no_bucket listed);
      }
    where
      here_first : is_held (lock_number shape (lock_named shape h.lock)) v.held ≡ true
      here_first = (λ i. is_held (number_of_named shape h.lock i) (held_are i)) ∙ ap is_some (hold_at_first h below)

  -- and was changed in no turn around
  none_around_there : (e : ℕ) → IsProbed shape v (lock_named shape h.lock) e → AreGuarded shape r.world.core.owner r.world.core.home r.world.hash v.cpus below ns → change_in e below ns ≡ None
  none_around_there e it are =
      let w = r.world in
      let at = held_there shape s r pass v at_pass it.listed.lock it.listed.hold it.listed.held in
      let real = (elements_there shape s r it.listed.lock).rows_real e (subst (λ (z : Hold). IsIn e (rows z.now)) at.hold_is it.listed.listed) in
      (λ i. change_in e (holds_below (sym held_are i)) (notes_below (sym notes_are i))) ∙
      none_around shape w.core.owner w.core.home w.hash v e (subst (λ (z : List Hold × List Notes). AreGuarded shape w.core.owner w.core.home w.hash v.cpus (holds_below z.0) (notes_below z.1)) (λ i. (sym held_are i, sym notes_are i)) are) it.around
      (λ free. let none : times e (rows it.listed.hold.now) ≡ 0 = (owner_fits shape s r pass v e at_pass real).listed free it.listed.lock it.listed.hold it.listed.held in let some_there : 0 < times e (rows it.listed.hold.now) = it.listed.listed in omega (arith, none, some_there))

  pub told_of_turn : (e : Entry) → NotesFit shape v h e.part n → OwnersFit shape v h e.cpu e.part n → AreGuarded shape r.world.core.owner r.world.core.home r.world.hash v.cpus below ns → IsToldOf shape r.world.core.owner r.world.core.home r.world.hash v h.lock e n
  told_of_turn e noted fits are = record {
    changes = fits.changes;
    probed = λ x holder part_is. let it = fits.probed x holder part_is in (
      subst (λ (p : Part). All (ProbeFits n.owners) (probes_in p)) part_is noted.held 0 (record { element = x; probed = Held holder }) (omega arith),
      (
        protected_there x it,
        (λ i. change_in x (held_are i) (notes_are i))
            ∙ (ap (λ (o : Option Owner). first_of o (change_in x below ns)) (none_changed n.changed x (λ owner. fits.changes x owner ∙ none_told shape (lock_named shape h.lock) e.cpu x holder e.part owner part_is)) ∙ none_around_there x it are),
      ),
    );
  }
