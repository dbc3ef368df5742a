-- What a pass knows of stored hashes, as a lock is taken and as elements come to a hand or leave it.
use Rattle.std.proofs.Common.{◌≡◌, ℕ, ◌<◌, ◌⊎◌, inl, inr, ⊎_elim, cond, Bool, true, false, List, ◌∷◌, sym, refl, ap, ◌∙◌, subst, Option, Some, None}
use Rattle.std.specs.Prelude.{IsTrue, IsFalse}
use Rattle.map_types.specs.declared.attr.Shape.{Shape}
use Rattle.map_types.specs.declared.kind.DomainId.{DomainId}
use Rattle.map_types.specs.declared.kind.DomainId.TheVariants.{Local, Global, CpuLru, Bucket, Freelist}
use Rattle.map_types.specs.Kind.{is_lru}
use Rattle.place_words.specs.declared.home.Home.{Home}
use Rattle.place_words.specs.declared.home.Home.TheVariants as homes
use Rattle.place_words.specs.declared.owner.Owner.{Owner}
use Rattle.place_words.specs.declared.owner.Owner.TheVariants as owners
use Rattle.map_types.specs.ElementLists.{put}
use Rattle.map_types.proofs.RowLemmas.{by_test}
use Rattle.place_words.specs.Locks.{lock_named, lock_number}
use Rattle.place_words.specs.Openings.{is_free}
use Rattle.place_words.proofs.LockLemmas.{number_of_named}
use Rattle.place_words.specs.declared.step.Lists.{Lists}
use Rattle.place_words.specs.State.{is_bucket}
use Rattle.place_words.specs.Places.{PlacedAt, ElementPlace, under_lock, carried, home_of_place, MayLieUnder, MayLie}
use Rattle.place_words.proofs.ElementLemmas.{put_else}
use Rattle.place_table.specs.declared.view.View.{View}
use Rattle.place_table.specs.declared.view.Hold.{Hold}
use Rattle.place_table.specs.declared.view.InHand.{InHand}
use Rattle.place_table.specs.declared.view.HashIn.{HashIn}
use Rattle.place_table.specs.declared.view.Notes.{Notes}
use Rattle.place_table.specs.Views.{is_among, is_in_hand_of, kept_hashes, came_at, no_notes, with_now}
use Rattle.place_table.specs.Rules.{World, Tagged, PassKnows, HashesRight, IsFresh, HasRow, IsBrought, IsHashed, HasHash, HasCome}
use Rattle.place_table.proofs.Came.{came_other, came_now}
use Rattle.place_table.proofs.Readings.{listed_at_home}
use Rattle.place_table.proofs.StoredHashes.{kept_there}
use Rattle.place_table.proofs.Worlds.{none_some, hashed_stands}

same_home : (a b : DomainId) → homes.In a ≡ homes.In b → a ≡ b
same_home a b is = cc

module _ (shape : Shape) (lists : ℕ → Lists) (owner : ℕ → Owner) (home : ℕ → Home) (place : ℕ → ElementPlace) (p : PlacedAt shape lists owner home place) (lru : is_lru shape.kind ≡ true) (e : ℕ) (lock : DomainId) (real : e < shape.elements) (at : home e ≡ homes.In lock) where
  -- an element whose home is this lock lies there
  pub lies_home : (k : ℕ) → place e ≡ under_lock k → k ≡ lock_number shape lock
  lies_home k is =
      let named : lock_named shape k ≡ lock = same_home (lock_named shape k) lock (sym (ap (home_of_place shape) is ∙ ap (λ (b : Bool). cond b (homes.In (lock_named shape k)) homes.Unlisted) lru) ∙ (sym (p.homes e real) ∙ at)) in
      sym (number_of_named shape k) ∙ ap (lock_number shape) named

  -- and that is no bucket
  pub no_bucket_home : IsFalse (is_bucket (lock_named shape (lock_number shape lock)))
  no_bucket_home = go (place e) refl
    where
      no_hand : (c : ℕ) → homes.Hand c ≡ homes.In lock → ⊥
      no_hand c is = cc

      none : (l : DomainId) → MayLieUnder shape e l → IsFalse (is_bucket l)
      none (Local x) may = refl
      none Global may = refl
      none (CpuLru x) may = refl
      none (Bucket x) may = absurd may
      none (Freelist x) may = refl

      go : (x : ElementPlace) → place e ≡ x → IsFalse (is_bucket (lock_named shape (lock_number shape lock)))
      go (under_lock k) is = subst (λ (z : ℕ). IsFalse (is_bucket (lock_named shape z))) (lies_home k is) (none (lock_named shape k) (subst (MayLie shape e (owner e)) is (p.places e real)))
      go (carried c) is = absurd (no_hand c (sym (p.homes e real ∙ (ap (home_of_place shape) is ∙ ap (λ (b : Bool). cond b (homes.Hand c) homes.Unlisted) lru)) ∙ at))

module _ (shape : Shape) (holder : ℕ → Option ℕ) (lists : ℕ → Lists) (owner : ℕ → Owner) (home : ℕ → Home) (place : ℕ → ElementPlace) (p : PlacedAt shape lists owner home place) (log : ℕ → List Tagged) (hash : ℕ → ℕ) (right : HashesRight shape holder lists owner log hash) (lru : is_lru shape.kind ≡ true) (e : ℕ) (lock : DomainId) (real : e < shape.elements) (at : home e ≡ homes.In lock) (not_free : is_free (owner e) ≡ false) where
  -- an element of a bucket has a row under its lock, or is brought there
  pub row_of_bucket : (b : ℕ) → owner e ≡ owners.Bucket b → HasRow shape log hash (lock_number shape lock) e ⊎ IsBrought shape holder log hash (lock_number shape lock) e
  row_of_bucket b was =
      ⊎_elim
      (λ (had : HasRow shape log hash (lock_number shape lock) e). inl had)
      (⊎_elim
      (λ (fresh : IsFresh holder owner (lock_number shape lock) e). absurd (not_both b fresh.cpu (sym was ∙ fresh.in_hand)))
      (λ (brought : IsBrought shape holder log hash (lock_number shape lock) e). inr brought))
      (right.have (lock_number shape lock) e (no_bucket_home shape lists owner home place p lru e lock real at) (listed_at_home shape holder lists owner home place p log e lock real not_free at))
    where
      not_both : (b c : ℕ) → owners.Bucket b ≡ owners.Hand c → ⊥
      not_both b c is = cc

  -- a lock is taken
  pub hashed_taken : (k cpu : ℕ) → holder k ≡ None → (h : Hold) → h.lock ≡ k → (held : List Hold) (notes : List Notes) (hashes : List HashIn) (c : ℕ) → IsHashed shape holder log hash hashes (came_at (lock_number shape lock) held notes) (lock_number shape lock) e c
      → IsHashed shape (put holder k (Some cpu)) log hash hashes (came_at (lock_number shape lock) (h ∷ held) (no_notes ∷ notes)) (lock_number shape lock) e c
  hashed_taken k cpu free h at_k held notes hashes c is = by_test (lock_number shape lock) k (λ _. Now)
      (λ same. let none : holder m ≡ None = ap holder same ∙ free in record {
        from = ⊎_elim (λ (gave : HasHash true hashes e c). inl gave)
            (⊎_elim (λ (off : HasHash false hashes e c). inr (inl off)) (λ (come : HasCome holder (came_at m held notes) m e c). absurd (none_some (sym none ∙ come.held)))) is.from;
        row = λ _. ⊎_elim
            (λ (had : HasRow shape log hash m e). inl had)
            (⊎_elim
            (λ (fresh : IsFresh holder owner m e). absurd (none_some (sym none ∙ fresh.held)))
            (λ (brought : IsBrought shape holder log hash m e). absurd (none_some (sym none ∙ brought.held))))
            (right.have m e (no_bucket_home shape lists owner home place p lru e lock real at) (listed_at_home shape holder lists owner home place p log e lock real not_free at));
      })
      (λ other. hashed_stands shape holder (put holder k (Some cpu)) log log hash hash hashes hashes (came_at m held notes) (came_at m (h ∷ held) (no_notes ∷ notes)) m e c
      (λ i on. (put_else holder k (Some cpu) i (λ is_k. absurd (none_some (sym (ap holder is_k ∙ free) ∙ on))) ∙ on, refl))
      (λ on. sym (put_else holder k (Some cpu) m other) ∙ on) refl refl
      (λ inside. ap (is_among e) (came_other m h held (no_notes ∷ notes) (λ y. other (y ∙ at_k))) ∙ inside) is)
    where
      m : ℕ
      m = lock_number shape lock

      Now : Type 0
      Now = IsHashed shape (put holder k (Some cpu)) log hash hashes (came_at m (h ∷ held) (no_notes ∷ notes)) m e c

-- an element that was in a hand is still there, where other lists lie under a lock and more has come
pub hashed_kept : (shape : Shape) (w : World) (pass : ℕ) (v : View) → PassKnows shape w pass v → (k : ℕ) (now : Lists) (hand : List InHand) (notes : List Notes)
    → ((m x : ℕ) → is_among x (came_at m v.held v.notes) ≡ true → is_among x (came_at m v.held notes) ≡ true)
    → IsTrue (is_lru shape.kind) → (e c : ℕ) (lock : DomainId) → e < shape.elements → c < shape.cpus → is_in_hand_of e c v.hand ≡ true → is_in_hand_of e c hand ≡ true → w.core.home e ≡ homes.In lock
    → IsHashed shape w.core.holder w.log w.hash (kept_hashes hand v.hashes) (came_at (lock_number shape lock) (with_now k now v.held) notes) (lock_number shape lock) e c
hashed_kept shape w pass v kn k now hand notes more lru e c lock real within was there at =
    let m : ℕ = lock_number shape lock in
    hashed_stands shape w.core.holder w.core.holder w.log w.log w.hash w.hash v.hashes (kept_hashes hand v.hashes) (came_at m v.held v.notes) (came_at m (with_now k now v.held) notes) m e c
    (λ i on. (on, refl)) (λ on. on) refl (kept_there e c hand v.hashes there)
    (λ inside. ap (is_among e) (came_now k m now v.held notes) ∙ more m e inside) (kn.hashed lru e c lock real within was at)
