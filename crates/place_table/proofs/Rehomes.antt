-- Stored hashes, as an element goes home elsewhere.
use Rattle.std.proofs.Common.{◌≡◌, ◌≢◌, ℕ, ◌<◌, ◌⊎◌, inl, inr, ⊎_elim, cond, Bool, true, false, List, sym, refl, ap, ◌∙◌, subst, arith}
use Rattle.std.specs.Prelude.{◌&&◌, not, IsFalse, nat_lt}
use Rattle.std.proofs.lemmas.Bool.{and_parts}
use Rattle.map_types.specs.declared.attr.Shape.{Shape}
use Rattle.map_types.specs.declared.kind.DomainId.{DomainId}
use Rattle.map_types.specs.declared.kind.DomainId.TheVariants.{Local, Global, CpuLru, Bucket, Freelist}
use Rattle.map_types.specs.Kind.{is_lru}
use Rattle.place_words.specs.declared.home.Home.{Home}
use Rattle.place_words.specs.declared.home.Home.TheVariants as homes
use Rattle.place_words.specs.declared.owner.Owner.{Owner}
use Rattle.place_words.specs.declared.owner.Owner.TheVariants as owners
use Rattle.map_types.specs.ElementLists.{put, times, IsIn}
use Rattle.map_types.proofs.RowLemmas.{by_test}
use Rattle.place_words.specs.Locks.{lock_named, lock_number, rank_of}
use Rattle.place_words.specs.Openings.{is_free}
use Rattle.place_words.proofs.LockLemmas.{named_by_number, number_of_named}
use Rattle.place_words.specs.declared.step.Lists.{Lists}
use Rattle.place_words.specs.State as cores
use Rattle.place_words.specs.State.{rows, is_bucket}
use Rattle.place_words.specs.Places.{Placed, ElementPlace, under_lock, carried, lies_at, has_row, home_of_place, MayLieUnder, MayLie}
use Rattle.place_words.specs.Steps.{Holds, left_by, joined_by, MayLeave, MayEnter, IsFreeOrInHand, CanRehome, after_leaving, after_joining}
use Rattle.place_words.specs.Steps as steps
use Rattle.place_words.proofs.ElementLemmas.{at_put, put_here}
use Rattle.place_words.proofs.RowLemmas.{stands_where, rows_with_row_other, rows_without_row_other, no_row_free}
use Rattle.place_table.specs.Rules.{Tagged, HashesRight, HasRow, IsFresh, IsBrought}
use Rattle.place_table.proofs.StoredHashes.{in_all, lies_on}
use Rattle.place_table.proofs.Readings.{listed_at_home}
use Rattle.place_table.proofs.Worlds.{true_false, by_bool}

module _ (shape : Shape) (core : cores.State) (placed : Placed shape core) (log : ℕ → List Tagged) (hash : ℕ → ℕ) (right : HashesRight shape core.holder core.lists core.owner log hash) (lru : is_lru shape.kind ≡ true)
    (by e : ℕ) (to : Home) (can : CanRehome shape core by e to) (after : Placed shape (steps.rehomed shape core e to)) where
  -- other elements stay in their rows
  rows_left : (home : Home) (owner : Owner) (lists : ℕ → Lists) (m x : ℕ) → x ≢ e → times x (rows (after_leaving shape home owner e lists m)) ≡ times x (rows (lists m))
  rows_left homes.Unlisted owner lists m x other = refl
  rows_left (homes.In lock) owner lists m x other =
      at_put lists (lock_number shape lock) (left_by owner e (lists (lock_number shape lock))) (λ j l. times x (rows l) ≡ times x (rows (lists j))) m
      (by_bool (is_free owner) (λ b. times x (rows (cond b (steps.without_free e (lists (lock_number shape lock))) (steps.without_row e (lists (lock_number shape lock))))) ≡ times x (rows (lists (lock_number shape lock)))) (λ _. refl) (λ _. rows_without_row_other x e (lists (lock_number shape lock)) other))
      (λ _. refl)
  rows_left (homes.Hand c) owner lists m x other = refl

  rows_joined : (home : Home) (owner : Owner) (lists : ℕ → Lists) (m x : ℕ) → x ≢ e → times x (rows (after_joining shape home owner e lists m)) ≡ times x (rows (lists m))
  rows_joined homes.Unlisted owner lists m x other = refl
  rows_joined (homes.In lock) owner lists m x other =
      at_put lists (lock_number shape lock) (joined_by lock owner e (lists (lock_number shape lock))) (λ j l. times x (rows l) ≡ times x (rows (lists j))) m
      (by_bool (is_free owner) (λ b. times x (rows (cond b (steps.with_free e (lists (lock_number shape lock))) (steps.with_row lock e (lists (lock_number shape lock))))) ≡ times x (rows (lists (lock_number shape lock)))) (λ _. refl) (λ _. rows_with_row_other lock x e (lists (lock_number shape lock)) other))
      (λ _. refl)
  rows_joined (homes.Hand c) owner lists m x other = refl

  abbrev IsListed : ℕ → ℕ → Type 0
  IsListed m x = HasRow shape log hash m x ⊎ (IsFresh core.holder core.owner m x ⊎ IsBrought shape core.holder log hash m x)

  abbrev lists : ℕ → Lists
  lists = after_joining shape to (core.owner e) e (after_leaving shape (core.home e) (core.owner e) e core.lists)

  no_sets : (b : Bool) → b ≡ true → not b ≡ true → ⊥
  no_sets true is isnt = true_false (sym isnt)
  no_sets false is isnt = true_false (sym is)

  in_hand_of_it : core.owner e ≡ owners.Hand by → (lock : DomainId) → Holds shape core by lock → IsListed (lock_number shape lock) e
  in_hand_of_it in_hand lock holds = inr (inl record { cpu = by; held = holds.held; in_hand = in_hand })

  -- from the lists of a lock that the CPU holds to the global ones
  from_lock : (lock : DomainId) → core.home e ≡ homes.In lock → is_free (core.owner e) ≡ false → Holds shape core by Global → IsListed (lock_number shape Global) e
  from_lock lock at not_free holds =
      let k : ℕ = lock_number shape lock in let g : ℕ = lock_number shape Global in
      let from : Holds shape core by lock = subst (MayLeave shape core by) at can.from_there in
      let named : lock_named shape k ≡ lock = named_by_number shape lock from.is_lock in
      let is_global : lock_named shape g ≡ Global = named_by_number shape Global holds.is_lock in
      let listed = listed_at_home shape core.holder core.lists core.owner core.home placed.place placed.placed log e lock can.real not_free at in
      let may : MayLieUnder shape e lock = lies_under lock at in
      by_test k g (λ _. HasRow shape log hash g e ⊎ (IsFresh core.holder core.owner g e ⊎ IsBrought shape core.holder log hash g e))
      (λ same. subst (λ (z : ℕ). HasRow shape log hash z e ⊎ (IsFresh core.holder core.owner z e ⊎ IsBrought shape core.holder log hash z e)) same (right.have k e (ap is_bucket named ∙ no_bucket lock may) listed))
      (λ other.
      let low : rank_of (lock_named shape k) < rank_of (lock_named shape g) = subst (λ (z : DomainId × DomainId). rank_of z.0 < rank_of z.1) (λ i. (sym named i, sym is_global i)) (lower lock may other) in
      ⊎_elim
      (λ (had : HasRow shape log hash k e). inr (inr record { cpu = by; from = k; held = holds.held; holds = from.held; low = low; row = had }))
      (⊎_elim
      (λ (fresh : IsFresh core.holder core.owner k e). inr (inl record { cpu = fresh.cpu; held = holds.held ∙ (sym from.held ∙ fresh.held); in_hand = fresh.in_hand }))
      (λ (b : IsBrought shape core.holder log hash k e). inr (inr record { cpu = b.cpu; from = b.from; held = holds.held ∙ (sym from.held ∙ b.held); holds = b.holds; low = (let first = b.low in omega (arith, first, low)); row = b.row })))
      (right.have k e (ap is_bucket named ∙ no_bucket lock may) listed))
    where
      lies_under : (lock : DomainId) → core.home e ≡ homes.In lock → MayLieUnder shape e lock
      lies_under lock at = go (placed.place e) refl
        where
          is_home : home_of_place shape (placed.place e) ≡ homes.In lock
          is_home = sym (placed.placed.homes e can.real) ∙ at

          same_lock : (a b : DomainId) → homes.In a ≡ homes.In b → a ≡ b
          same_lock a b is = cc

          no_hand : (x : ℕ) → homes.Hand x ≡ homes.In lock → ⊥
          no_hand x is = cc

          go : (x : ElementPlace) → placed.place e ≡ x → MayLieUnder shape e lock
          go (under_lock k) is =
              let named : lock_named shape k ≡ lock = same_lock (lock_named shape k) lock (sym (ap (home_of_place shape) is ∙ ap (λ (b : Bool). cond b (homes.In (lock_named shape k)) homes.Unlisted) lru) ∙ is_home) in
              let may : MayLieUnder shape e (lock_named shape k) = subst (MayLie shape e (core.owner e)) is (placed.placed.places e can.real) in
              subst (MayLieUnder shape e) named may
          go (carried x) is = absurd (no_hand x (sym (ap (home_of_place shape) is ∙ ap (λ (b : Bool). cond b (homes.Hand x) homes.Unlisted) lru) ∙ is_home))

      no_bucket : (lock : DomainId) → MayLieUnder shape e lock → is_bucket lock ≡ false
      no_bucket (Local c) may = refl
      no_bucket Global may = refl
      no_bucket (CpuLru c) may = refl
      no_bucket (Bucket b) may = absurd may
      no_bucket (Freelist c) may = refl

      lower : (lock : DomainId) → MayLieUnder shape e lock → lock_number shape lock ≢ lock_number shape Global → rank_of lock < 2
      lower (Local c) may other = omega arith
      lower Global may other = absurd (other refl)
      lower (CpuLru c) may other = absurd (no_sets shape.common can.common (and_parts (is_lru shape.kind) (not shape.common) (and_parts (is_lru shape.kind && not shape.common) (nat_lt c shape.cpus) may.0).0).1)
      lower (Bucket b) may other = absurd may
      lower (Freelist c) may other = absurd (no_sets (is_lru shape.kind) lru (and_parts (not (is_lru shape.kind)) (nat_lt c shape.cpus) may).0)

  not_free_there : (m : ℕ) → IsIn e (rows (lists m)) → is_free (core.owner e) ≡ false
  not_free_there m inside = go (core.owner e) refl
    where
      row : has_row (is_lru shape.kind) (lock_named shape m) (core.owner e) (lies_at m (after.place e)) ≡ true
      row = (stands_where shape.elements e _ _ (after.placed.rows m e) inside).stands

      go : (o : Owner) → core.owner e ≡ o → is_free o ≡ false
      go owners.Free is = true_false (sym (sym (ap (λ (z : Owner). has_row (is_lru shape.kind) (lock_named shape m) z (lies_at m (after.place e))) is ∙ no_row_free (is_lru shape.kind) (lock_named shape m) (lies_at m (after.place e))) ∙ row))
      go (owners.Bucket b) is = refl
      go (owners.Hand c) is = refl

  -- it is on the lists of its new home
  home_there : (m : ℕ) → IsFalse (is_bucket (lock_named shape m)) → IsIn e (rows (lists m)) → to ≡ homes.In (lock_named shape m)
  home_there m nb inside =
      let at = lies_on shape lists core.owner (put core.home e to) after.place after.placed m e nb (in_all e (lists m) inside) in
      sym (put_here core.home e to) ∙ (after.placed.homes e can.real ∙ (ap (home_of_place shape) at ∙ ap (λ (b : Bool). cond b (homes.In (lock_named shape m)) homes.Unlisted) lru))

  -- what is listed now was listed there before, or is the element at its new home
  pub rows_come : (m x : ℕ) → IsFalse (is_bucket (lock_named shape m)) → IsIn x (rows (after_joining shape to (core.owner e) e (after_leaving shape (core.home e) (core.owner e) e core.lists) m))
      → IsIn x (rows (core.lists m)) ⊎ ((x ≡ e) × (to ≡ homes.In (lock_named shape m)) × (is_free (core.owner e) ≡ false))
  rows_come m x nb inside =
      by_test x e (λ _. IsIn x (rows (core.lists m)) ⊎ ((x ≡ e) × (to ≡ homes.In (lock_named shape m)) × (is_free (core.owner e) ≡ false)))
      (λ same. let there : IsIn e (rows (lists m)) = subst (λ (z : ℕ). IsIn z (rows (lists m))) same inside in inr (same, home_there m nb there, not_free_there m there))
      (λ other.
      let stays = rows_joined to (core.owner e) (after_leaving shape (core.home e) (core.owner e) e core.lists) m x other ∙ rows_left (core.home e) (core.owner e) core.lists m x other in
      inl (omega (arith, stays, inside)))

  pub hashes_rehomed : HashesRight shape core.holder (after_joining shape to (core.owner e) e (after_leaving shape (core.home e) (core.owner e) e core.lists)) core.owner log hash
  hashes_rehomed = record {
    in_bucket = right.in_bucket;
    have = λ m x nb inside. by_test x e (λ _. IsListed m x)
        (λ same. subst (λ (z : ℕ). IsListed m z) (sym same) (of_e m nb (subst (λ (z : ℕ). IsIn z (rows (lists m))) same inside)))
        (λ other.
        let stays = rows_joined to (core.owner e) (after_leaving shape (core.home e) (core.owner e) e core.lists) m x other ∙ rows_left (core.home e) (core.owner e) core.lists m x other in
        right.have m x nb (omega (arith, stays, inside)));
  }
    where
      number_is : (m : ℕ) (lock : DomainId) → homes.In lock ≡ homes.In (lock_named shape m) → lock_number shape lock ≡ m
      number_is m lock is = ap (lock_number shape) (same_lock lock (lock_named shape m) is) ∙ number_of_named shape m
        where
          same_lock : (a b : DomainId) → homes.In a ≡ homes.In b → a ≡ b
          same_lock a b is = cc

      of_e : (m : ℕ) → IsFalse (is_bucket (lock_named shape m)) → IsIn e (rows (lists m)) → IsListed m e
      of_e m nb inside = go to can.to_there (home_there m nb inside)
        where
          not_free : is_free (core.owner e) ≡ false
          not_free = not_free_there m inside

          in_hand : (o : Owner) → core.owner e ≡ o → IsFreeOrInHand by o → core.owner e ≡ owners.Hand by
          in_hand owners.Free is may = true_false (sym (sym not_free ∙ ap is_free is))
          in_hand (owners.Bucket b) is may = absurd may
          in_hand (owners.Hand c) is may = is ∙ ap owners.Hand may

          no_home : (c m : ℕ) → homes.Hand c ≡ homes.In (lock_named shape m) → ⊥
          no_home c m is = cc

          go : (t : Home) → MayEnter shape core by (core.owner e) t → t ≡ homes.In (lock_named shape m) → IsListed m e
          go homes.Unlisted may is = absurd may
          go (homes.In (Local d)) may is = subst (λ (z : ℕ). IsListed z e) (number_is m (Local d) is) (in_hand_of_it (in_hand (core.owner e) refl may.1) (Local d) may.0)
          go (homes.In Global) may is = subst (λ (z : ℕ). IsListed z e) (number_is m Global is) (go_on (core.home e) refl)
            where
              carrier : (c : ℕ) → core.home e ≡ homes.Hand c → core.owner e ≡ owners.Hand by
              carrier c at = of_place (placed.place e) refl
                where
                  is_home : home_of_place shape (placed.place e) ≡ homes.Hand c
                  is_home = sym (placed.placed.homes e can.real) ∙ at

                  no_lock : (l : DomainId) → homes.In l ≡ homes.Hand c → ⊥
                  no_lock l is = cc

                  same_home : (a b : ℕ) → homes.Hand a ≡ homes.Hand b → a ≡ b
                  same_home a b is = cc

                  of_place : (x : ElementPlace) → placed.place e ≡ x → core.owner e ≡ owners.Hand by
                  of_place (under_lock k) is = absurd (no_lock (lock_named shape k) (sym (ap (home_of_place shape) is ∙ ap (λ (b : Bool). cond b (homes.In (lock_named shape k)) homes.Unlisted) lru) ∙ is_home))
                  of_place (carried x) is =
                      let may_lie : MayLie shape e (core.owner e) (carried x) = subst (MayLie shape e (core.owner e)) is (placed.placed.places e can.real) in
                      let mine : c ≡ by = subst (MayLeave shape core by) at can.from_there in
                      may_lie.1 ∙ ap owners.Hand (same_home x c (sym (ap (home_of_place shape) is ∙ ap (λ (b : Bool). cond b (homes.Hand x) homes.Unlisted) lru) ∙ is_home) ∙ mine)

              go_on : (home : Home) → core.home e ≡ home → IsListed (lock_number shape Global) e
              go_on homes.Unlisted at = absurd (subst (MayLeave shape core by) at can.from_there)
              go_on (homes.In lock) at = from_lock lock at not_free may
              go_on (homes.Hand c) at = in_hand_of_it (carrier c at) Global may
          go (homes.In (CpuLru d)) may is = absurd may
          go (homes.In (Bucket b)) may is = absurd may
          go (homes.In (Freelist d)) may is = absurd may
          go (homes.Hand d) may is = absurd (no_home d m is)
