-- What the owner of an element can be, by what a pass knows.
use Rattle.std.proofs.Common.{◌≡◌, ℕ, ◌<◌, ⊎_elim, ltb, Bool, true, false, sym, refl, ap, ◌∙◌, subst, arith, Option, Some}
use Rattle.std.specs.Prelude.{◌&&◌, IsTrue}
use Rattle.std.proofs.lemmas.Bool.{and_right}
use Rattle.std.proofs.lemmas.Bool.Decides.{nat_tests}
use mathlib.Core.Option.{some}
use lib.ListN.{get_elem?}
use Rattle.atomic_table.specs.Table.{State}
use Rattle.map_types.specs.declared.attr.Shape.{Shape}
use Rattle.map_types.specs.declared.kind.DomainId.{DomainId}
use Rattle.map_types.specs.declared.kind.DomainId.TheVariants.{Bucket}
use Rattle.map_types.specs.Kind.{is_lru}
use Rattle.key_hash.specs.Bucket.{bucket_number}
use Rattle.place_words.specs.declared.owner.Owner.{Owner}
use Rattle.place_words.specs.declared.owner.Owner.TheVariants as owners
use Rattle.map_types.specs.ElementLists.{times, one, IsIn}
use Rattle.place_words.specs.Histories.{content}
use Rattle.place_words.specs.Locks.{is_lock, lock_named, lock_number}
use Rattle.place_words.specs.Openings.{is_free}
use Rattle.place_words.proofs.LockLemmas.{named_by_number}
use Rattle.place_words.specs.State.{rows}
use Rattle.place_words.specs.Places.{has_row, is_in_bucket, lies_at}
use Rattle.place_words.proofs.RowLemmas.{no_row_free}
use Rattle.place_table.specs.declared.content.Behind.{Behind}
use Rattle.place_table.specs.declared.view.View.{View}
use Rattle.place_table.specs.declared.view.Hold.{Hold}
use Rattle.place_table.specs.StoredHashes.{stored_in}
use Rattle.place_table.specs.Views.{hold_at}
use Rattle.place_table.specs.Rules.{Rule, HasRow, IsFresh, IsBrought, hold, hold_of}
use Rattle.place_table.specs.Plays.{OwnerFits}
use Rattle.place_table.proofs.Worlds.{some_is, hold_of_is, hold_of_mine, own_hand}

ltb_is : (a b : ℕ) → a < b → ltb a b ≡ true
ltb_is a b less = grind (arith, nat_tests)

row_in_bucket : (shape : Shape) (lock : DomainId) (bucket e : ℕ) (n : ℕ) (owner : Owner) (here : Bool) → lock ≡ Bucket bucket → e < shape.elements
    → n ≡ one (ltb e shape.elements && has_row (is_lru shape.kind) lock owner here) → n ≡ one (is_in_bucket bucket owner)
row_in_bucket shape lock bucket e n owner here is real same =
    same ∙ ((λ i. one (ltb_is e shape.elements real i && has_row (is_lru shape.kind) (is i) owner here)))

free_is : (e n : ℕ) (owner : Owner) (a here : Bool) → n ≡ one (a && (is_free owner && here)) → 0 < n → owner ≡ owners.Free
free_is e n owners.Free a here same some_there = refl
free_is e n (owners.Bucket b) a here same some_there = absurd (none_of a same)
  where
    none_of : (a : Bool) → n ≡ one (a && false) → ⊥
    none_of true same = let zero_is : n ≡ 0 = same in omega arith
    none_of false same = let zero_is : n ≡ 0 = same in omega arith
free_is e n (owners.Hand c) a here same some_there = absurd (none_of a same)
  where
    none_of : (a : Bool) → n ≡ one (a && false) → ⊥
    none_of true same = let zero_is : n ≡ 0 = same in omega arith
    none_of false same = let zero_is : n ≡ 0 = same in omega arith

pub owner_fits : (shape : Shape) (s : State Behind View) (r : Rule shape s) (pass : ℕ) (v : View) (e : ℕ) → get_elem? s.views pass ≡ some v → e < shape.elements → OwnerFits shape v e (r.world.core.owner e)
owner_fits shape s r pass v e at_pass real =
    let w = r.world in let kn = r.knows pass v at_pass in record {
      in_held_bucket = λ bucket hold there found.
          let k : ℕ = lock_number shape (Bucket bucket) in
          let is : IsTrue (is_lock shape (Bucket bucket)) = ltb_is bucket shape.buckets there in
          let at = hold_of_is w.pass_of_cpu pass k (w.core.holder k) (w.log k) (w.core.lists k) (w.lost k) hold (sym (kn.held k) ∙ found) in
          row_in_bucket shape (lock_named shape k) bucket e (times e (rows hold.now)) (w.core.owner e) _ (named_by_number shape (Bucket bucket) is) real
          (ap (λ (z : Hold). times e (rows z.now)) at.hold_is ∙ r.placed.placed.rows k e);
      on_held_free_list = λ k hold found inside.
          let at = hold_of_is w.pass_of_cpu pass k (w.core.holder k) (w.log k) (w.core.lists k) (w.lost k) hold (sym (kn.held k) ∙ found) in
          free_is e (times e hold.now.free) (w.core.owner e) _ _ (ap (λ (z : Hold). times e z.now.free) at.hold_is ∙ r.placed.placed.free k e) inside;
      listed = λ free k hold found.
          let at = hold_of_is w.pass_of_cpu pass k (w.core.holder k) (w.log k) (w.core.lists k) (w.lost k) hold (sym (kn.held k) ∙ found) in
          ap (λ (z : Hold). times e (rows z.now)) at.hold_is
          ∙ (r.placed.placed.rows k e ∙ (ap (λ (o : Owner). one (ltb e shape.elements && has_row (is_lru shape.kind) (lock_named shape k) o (lies_at k (r.placed.place e)))) free
          ∙ (ap (λ (b : Bool). one (ltb e shape.elements && b)) (no_row_free (is_lru shape.kind) (lock_named shape k) (lies_at k (r.placed.place e))) ∙ ap one (and_right (ltb e shape.elements) false refl))));
      in_own_hand = λ c has. own_hand shape w pass v e c kn has;
      of_hash = λ lru hash bucket here only in_bucket.
          let at = hold_of_is w.pass_of_cpu pass here.lock (w.core.holder here.lock) (w.log here.lock) (w.core.lists here.lock) (w.lost here.lock) here.hold (sym (kn.held here.lock) ∙ here.held) in
          let right = r.hashes lru in
          sym (right.in_bucket e bucket in_bucket) ∙ ap (λ (h : ℕ). bucket_number h shape.buckets)
          (⊎_elim
          (λ (had : HasRow shape w.log w.hash here.lock e). only here.lock (w.hash e) here.hold here.held (ap (λ (z : Hold). stored_in (content shape (lock_named shape here.lock) z.log) e) at.hold_is ∙ had.stored))
          (⊎_elim
          (λ (fresh : IsFresh w.core.holder w.core.owner here.lock e). absurd (not_both bucket fresh.cpu (sym in_bucket ∙ fresh.in_hand)))
          (λ (brought : IsBrought shape w.core.holder w.log w.hash here.lock e).
          let cpu_is : brought.cpu ≡ here.hold.cpu = some_is (sym brought.held ∙ at.holder_is) in
          let from : ℕ = brought.from in
          let holds : hold_at from v.held ≡ Some (hold from here.hold.cpu (w.log from) (w.core.lists from) (w.lost from)) =
          kn.held from ∙ (ap (λ (z : Option ℕ). hold_of pass w.pass_of_cpu from z (w.log from) (w.core.lists from) (w.lost from)) (brought.holds ∙ ap Some cpu_is) ∙ hold_of_mine w.pass_of_cpu pass from here.hold.cpu (w.log from) (w.core.lists from) (w.lost from) at.mine) in
          only from (w.hash e) (hold from here.hold.cpu (w.log from) (w.core.lists from) (w.lost from)) holds brought.row.stored))
          (right.have here.lock e here.no_bucket (subst (λ (z : Hold). IsIn e (rows z.now)) at.hold_is here.listed)));
    }
  where
    not_both : (b c : ℕ) → owners.Bucket b ≡ owners.Hand c → ⊥
    not_both b c is = cc
