-- The opening of a map is placed and ranked.
use Rattle.std.proofs.Common.{◌≡◌, ◌≢◌, ℕ, zero, suc, ◌/◌, ◌%◌, ◌<◌, ◌≤◌, Bool, true, false, not, ◌&&◌, cond, eqb, ltb, List, [], ◌∷◌, length, take, Option, None, Some, refl, ap, ◌∙◌, sym, subst, ⊎_elim, inl, inr, ◌⊎◌, arith}
use Rattle.std.specs.Prelude.{filter, position, ⊤}
use Rattle.std.proofs.lemmas.Bool.{cases_Bool, cases_eq, cases_lt, and_parts, and_right, and_from, ltb-true, lt-ltb, le-ltb, eq-eqb, ne_eqb, not-true, not_from_false}
use Rattle.std.proofs.lemmas.List.Quantifiers.{position-Some}
use Rattle.std.specs.List.{range_with_len, flat_map}
use Rattle.map_types.specs.declared.attr.Shape.{Shape}
use Rattle.map_types.specs.declared.kind.MapKind.{MapKind}
use Rattle.map_types.specs.declared.kind.MapKind.TheVariants.{Hash, PercpuHash, LruHash, LruPercpuHash}
use Rattle.map_types.specs.declared.kind.DomainId.{DomainId}
use Rattle.map_types.specs.declared.kind.DomainId.TheVariants.{Local, Global, CpuLru, Bucket, Freelist}
use Rattle.map_types.specs.Kind.{is_lru}
use Rattle.map_types.specs.Shape.{HasBounds}
use Rattle.place_words.specs.declared.owner.Owner.{Owner}
use Rattle.place_words.specs.declared.owner.Owner.TheVariants as owners
use Rattle.place_words.specs.declared.home.Home.TheVariants as homes
use Rattle.place_words.specs.Locks.{is_lock, lock_number, lock_named}
use Rattle.place_words.proofs.LockLemmas.{named_by_number, number_of_named}
use Rattle.map_types.specs.ElementLists.{one, times}
use Rattle.place_words.specs.Openings.{is_free}
use Rattle.place_words.specs.State.{HasOnlyItsLists}
use Rattle.place_words.specs.Places.{ElementPlace, under_lock, lies_at, has_row, home_of_place, MayOwn, MayLie, MayLieUnder, Placed}
use Rattle.place_words.specs.Ranks.{Ranked}
use Rattle.place_words.specs.Openings.{opening_stack, opening_spares, spare_owner, opening_owner, opening_pushed, opening_free}
use Rattle.place_words.specs.OpeningState.{opening_home, opening, opening_lists}
use Rattle.place_words.proofs.OpeningLemmas.{pushed_in, pushed_out, times_filter, its_cpu, its_cpu_is, in_its_stack, in_no_other, its_quotient, in_none}
use Rattle.place_words.proofs.RowLemmas.{no_row_free}

-- Owners

-- free, or the spare of a CPU
abbrev IsFreeOrSpare : Owner → Type 0
IsFreeOrSpare owners.Free = ⊤
IsFreeOrSpare (owners.Bucket bucket) = ⊥
IsFreeOrSpare (owners.Hand cpu) = ⊤

free_or_spare : (found : Option ℕ) → IsFreeOrSpare (spare_owner found)
free_or_spare None = tt
free_or_spare (Some cpu) = tt

free_or_spare_at : (shape : Shape) (kind : MapKind) (e : ℕ) → IsFreeOrSpare (opening_owner shape kind e)
unfolding opening_owner
free_or_spare_at shape Hash e = free_or_spare (position (λ spare. eqb spare e) (opening_spares shape))
free_or_spare_at shape PercpuHash e = tt
free_or_spare_at shape LruHash e = tt
free_or_spare_at shape LruPercpuHash e = tt

pub spares_few : (n : ℕ) (xs : List ℕ) → length (take n xs) ≤ n
spares_few zero xs = omega arith
spares_few (suc n) [] = omega arith
spares_few (suc n) (x ∷ xs) = let few = spares_few n xs in omega arith

spare_exists : (shape : Shape) (e : ℕ) (found : Option ℕ) → position (λ spare. eqb spare e) (opening_spares shape) ≡ found → MayOwn shape (spare_owner found)
unfolding opening_spares
spare_exists shape e None is = tt
spare_exists shape e (Some cpu) is =
    let within = (position-Some (λ spare. eqb spare e) (opening_spares shape) cpu 0 is).0 in
    let few = spares_few shape.cpus (flat_map (opening_stack shape) (range_with_len 0 shape.cpus)) in
    omega (arith, within, few)

pub owner_exists : (shape : Shape) (kind : MapKind) (e : ℕ) → MayOwn shape (opening_owner shape kind e)
unfolding opening_owner
owner_exists shape Hash e = spare_exists shape e _ refl
owner_exists shape PercpuHash e = tt
owner_exists shape LruHash e = tt
owner_exists shape LruPercpuHash e = tt

free_where_lru : (shape : Shape) (kind : MapKind) (e : ℕ) → is_lru kind ≡ true → opening_owner shape kind e ≡ owners.Free
unfolding opening_owner
free_where_lru shape Hash e lru = absurd cc
free_where_lru shape PercpuHash e lru = absurd cc
free_where_lru shape LruHash e lru = refl
free_where_lru shape LruPercpuHash e lru = refl

no_row_plain : (lock : DomainId) (o : Owner) (here : Bool) → IsFreeOrSpare o → has_row false lock o here ≡ false
no_row_plain (Local cpu) o here is = refl
no_row_plain Global o here is = refl
no_row_plain (CpuLru cpu) o here is = refl
no_row_plain (Bucket bucket) owners.Free here is = refl
no_row_plain (Bucket bucket) (owners.Bucket b) here is = absurd is
no_row_plain (Bucket bucket) (owners.Hand cpu) here is = refl
no_row_plain (Freelist cpu) o here is = refl

-- no element has a row
no_row : (shape : Shape) (lock : DomainId) (e : ℕ) (here : Bool) → has_row (is_lru shape.kind) lock (opening_owner shape shape.kind e) here ≡ false
no_row shape lock e here =
    ⊎_elim
    (λ (lru : is_lru shape.kind ≡ true). ap (λ (o : Owner). has_row (is_lru shape.kind) lock o here) (free_where_lru shape shape.kind e lru) ∙ no_row_free (is_lru shape.kind) lock here)
    (λ (plain : is_lru shape.kind ≡ false). ap (λ lru. has_row lru lock (opening_owner shape shape.kind e) here) plain ∙ no_row_plain lock _ here (free_or_spare_at shape shape.kind e))
    (cases_Bool (is_lru shape.kind))

-- numbers past the last element count nowhere
gated : (real : Bool) (o past : Owner) (t : Owner → Bool) → one (real && t o) ≡ one (real && t (cond real o past))
gated true o past t = refl
gated false o past t = refl

-- a bucket is empty at first, and nothing is listed
fit_opening : (shape : Shape) (lock : DomainId) → HasOnlyItsLists lock record { free = opening_free shape lock; first = []; second = []; cursor = None }
unfolding opening_free
fit_opening shape (Local cpu) = refl
fit_opening shape Global = tt
fit_opening shape (CpuLru cpu) = tt
fit_opening shape (Bucket bucket) = (empty (is_lock shape (Bucket bucket)), refl)
  where
    empty : (b : Bool) → cond {A = List ℕ} b [] [] ≡ []
    empty true = refl
    empty false = refl
fit_opening shape (Freelist cpu) = (refl, refl)

-- Places

-- the lock under which an element is free at first
first_lock : Shape → ℕ → DomainId
first_lock shape cpu = cond shape.common Global (cond (is_lru shape.kind) (CpuLru cpu) (Freelist cpu))

first_common : (shape : Shape) (cpu : ℕ) → shape.common ≡ true → first_lock shape cpu ≡ Global
unfolding first_lock
first_common shape cpu common = rw common refl

first_set : (shape : Shape) (cpu : ℕ) → shape.common ≡ false → is_lru shape.kind ≡ true → first_lock shape cpu ≡ CpuLru cpu
unfolding first_lock
first_set shape cpu apart lru = rw (apart, lru) refl

first_plain : (shape : Shape) (cpu : ℕ) → shape.common ≡ false → is_lru shape.kind ≡ false → first_lock shape cpu ≡ Freelist cpu
unfolding first_lock
first_plain shape cpu apart plain = rw (apart, plain) refl

-- the three kinds of opening
by_kind : (shape : Shape) → HasBounds shape → (P : Type 0) → (shape.common ≡ true → is_lru shape.kind ≡ true → P) → (shape.common ≡ false → is_lru shape.kind ≡ true → P) → (shape.common ≡ false → is_lru shape.kind ≡ false → P) → P
by_kind shape bounds P common set plain =
    ⊎_elim
    (λ (shared : shape.common ≡ true). common shared (bounds.common_evicts shared))
    (λ (apart : shape.common ≡ false). ⊎_elim
    (λ (lru : is_lru shape.kind ≡ true). set apart lru)
    (λ (none : is_lru shape.kind ≡ false). plain apart none)
    (cases_Bool (is_lru shape.kind)))
    (cases_Bool shape.common)

module _ (shape : Shape) (bounds : HasBounds shape) where
  first_is_lock : (cpu : ℕ) → cpu < shape.cpus → is_lock shape (first_lock shape cpu) ≡ true
  first_is_lock cpu few =
      by_kind shape bounds (is_lock shape (first_lock shape cpu) ≡ true)
      (λ common lru. ap (is_lock shape) (first_common shape cpu common) ∙ common)
      (λ apart lru. ap (is_lock shape) (first_set shape cpu apart lru) ∙ and_from (is_lru shape.kind && not shape.common) (ltb cpu shape.cpus) (and_from (is_lru shape.kind) (not shape.common) lru (not_from_false shape.common apart)) (lt-ltb cpu shape.cpus few))
      (λ apart plain. ap (is_lock shape) (first_plain shape cpu apart plain) ∙ and_from (not (is_lru shape.kind)) (ltb cpu shape.cpus) (not_from_false (is_lru shape.kind) plain) (lt-ltb cpu shape.cpus few))

  module _ (e : ℕ) (real : e < shape.elements) where
    pushed_under_its : times e (opening_pushed shape (first_lock shape (its_cpu shape bounds e real))) ≡ 1
    pushed_under_its =
        by_kind shape bounds (times e (opening_pushed shape (first_lock shape (its_cpu shape bounds e real))) ≡ 1)
        (λ common lru. ap (λ (d : DomainId). times e (opening_pushed shape d)) (first_common shape _ common) ∙ pushed_in 0 shape.elements e (omega arith) (omega arith))
        (λ apart lru. ap (λ (d : DomainId). times e (opening_pushed shape d)) (first_set shape _ apart lru) ∙ in_its_stack shape bounds e real)
        (λ apart plain. ap (λ (d : DomainId). times e (opening_pushed shape d)) (first_plain shape _ apart plain) ∙ in_its_stack shape bounds e real)

    not_pushed_else : (lock : DomainId) → is_lock shape lock ≡ true → (lock ≡ first_lock shape (its_cpu shape bounds e real) → ⊥) → times e (opening_pushed shape lock) ≡ 0
    not_pushed_else (Local cpu) is other = refl
    not_pushed_else Global is other = absurd (other (sym (first_common shape _ is)))
    not_pushed_else (CpuLru cpu) is other =
        let parts = and_parts (is_lru shape.kind && not shape.common) (ltb cpu shape.cpus) is in
        let kinds = and_parts (is_lru shape.kind) (not shape.common) parts.0 in
        in_no_other shape bounds e real cpu (ltb-true cpu shape.cpus parts.1)
        (λ same. other (ap CpuLru same ∙ sym (first_set shape _ (not-true shape.common kinds.1) kinds.0)))
    not_pushed_else (Bucket bucket) is other = refl
    not_pushed_else (Freelist cpu) is other =
        let parts = and_parts (not (is_lru shape.kind)) (ltb cpu shape.cpus) is in
        let plain = not-true (is_lru shape.kind) parts.0 in
        in_no_other shape bounds e real cpu (ltb-true cpu shape.cpus parts.1)
        (λ same. other (ap Freelist same ∙ sym (first_plain shape _ (apart plain) plain)))
      where
        apart : is_lru shape.kind ≡ false → shape.common ≡ false
        apart plain =
            ⊎_elim
            (λ (common : shape.common ≡ true). let lru = bounds.common_evicts common in absurd cc)
            (λ (is : shape.common ≡ false). is)
            (cases_Bool shape.common)

  pushed_past : (e : ℕ) → shape.elements ≤ e → (lock : DomainId) → is_lock shape lock ≡ true → times e (opening_pushed shape lock) ≡ 0
  pushed_past e past (Local cpu) is = refl
  pushed_past e past Global is = pushed_out 0 shape.elements e (inr (omega arith))
  pushed_past e past (CpuLru cpu) is = in_none shape bounds e cpu past (ltb-true cpu shape.cpus (and_parts _ (ltb cpu shape.cpus) is).1)
  pushed_past e past (Bucket bucket) is = refl
  pushed_past e past (Freelist cpu) is = in_none shape bounds e cpu past (ltb-true cpu shape.cpus (and_parts _ (ltb cpu shape.cpus) is).1)

  -- where an element lies at first; past the last one it doesn't matter
  place_of : (e : ℕ) → (e < shape.elements) ⊎ (shape.elements ≤ e) → ElementPlace
  place_of e (inl real) = under_lock (lock_number shape (first_lock shape (its_cpu shape bounds e real)))
  place_of e (inr past) = under_lock 0

  opening_place : ℕ → ElementPlace
  opening_place e = place_of e (cases_lt e shape.elements)

  -- what stands in the opening free list of a lock
  free_counts : (k e : ℕ) (either : (e < shape.elements) ⊎ (shape.elements ≤ e)) → times e (opening_free shape (lock_named shape k)) ≡ one (ltb e shape.elements && (is_free (opening_owner shape shape.kind e) && lies_at k (place_of e either)))
  unfolding opening_free place_of
  free_counts k e (inr past) =
      ⊎_elim
      (λ (is : is_lock shape (lock_named shape k) ≡ true). ap (λ b. times e (cond b (filter (λ x. is_free (opening_owner shape shape.kind x)) (opening_pushed shape (lock_named shape k))) [])) is ∙ (times_filter (λ x. is_free (opening_owner shape shape.kind x)) e (opening_pushed shape (lock_named shape k)) ∙ (either_none (is_free (opening_owner shape shape.kind e)) (pushed_past e past (lock_named shape k) is) ∙ sym (ap (λ b. one (b && (is_free (opening_owner shape shape.kind e) && lies_at k (under_lock 0)))) (le-ltb e shape.elements past)))))
      (λ (is_not : is_lock shape (lock_named shape k) ≡ false). ap (λ b. times e (cond b (filter (λ x. is_free (opening_owner shape shape.kind x)) (opening_pushed shape (lock_named shape k))) [])) is_not ∙ sym (ap (λ b. one (b && (is_free (opening_owner shape shape.kind e) && lies_at k (under_lock 0)))) (le-ltb e shape.elements past)))
      (cases_Bool (is_lock shape (lock_named shape k)))
    where
      either_none : {n : ℕ} (b : Bool) → n ≡ 0 → cond b n 0 ≡ 0
      either_none true none = none
      either_none false none = refl
  free_counts k e (inl real) =
      ap (λ (n : ℕ). n) (go (cases_Bool (is_lock shape (lock_named shape k)))) ∙ sym (ap (λ b. one (b && (is_free (opening_owner shape shape.kind e) && lies_at k (under_lock (lock_number shape (first_lock shape (its_cpu shape bounds e real))))))) (lt-ltb e shape.elements real))
    where
      lock : DomainId
      lock = first_lock shape (its_cpu shape bounds e real)

      its_named : lock_named shape (lock_number shape (first_lock shape (its_cpu shape bounds e real))) ≡ first_lock shape (its_cpu shape bounds e real)
      its_named = named_by_number shape _ (first_is_lock (its_cpu shape bounds e real) (its_cpu_is shape bounds e real))

      at_most : (b : Bool) (n : ℕ) (t : Bool) → n ≡ one t → cond b n 0 ≡ one (b && t)
      at_most true n t is = is
      at_most false n t is = refl

      pushed_counts : is_lock shape (lock_named shape k) ≡ true → times e (opening_pushed shape (lock_named shape k)) ≡ one (eqb (lock_number shape (first_lock shape (its_cpu shape bounds e real))) k)
      pushed_counts is =
          ⊎_elim
          (λ (here : lock_number shape (first_lock shape (its_cpu shape bounds e real)) ≡ k). ap (λ (d : DomainId). times e (opening_pushed shape d)) (ap (lock_named shape) (sym here) ∙ its_named) ∙ (pushed_under_its e real ∙ ap one (sym (eq-eqb (lock_number shape (first_lock shape (its_cpu shape bounds e real))) k here))))
          (λ (other : lock_number shape (first_lock shape (its_cpu shape bounds e real)) ≡ k → ⊥). not_pushed_else e real (lock_named shape k) is (λ same. other (ap (lock_number shape) (sym same) ∙ number_of_named shape k)) ∙ ap one (sym (ne_eqb (lock_number shape (first_lock shape (its_cpu shape bounds e real))) k other)))
          (cases_eq (lock_number shape (first_lock shape (its_cpu shape bounds e real))) k)

      go : (is_lock shape (lock_named shape k) ≡ true) ⊎ (is_lock shape (lock_named shape k) ≡ false) → times e (cond (is_lock shape (lock_named shape k)) (filter (λ x. is_free (opening_owner shape shape.kind x)) (opening_pushed shape (lock_named shape k))) []) ≡ one (is_free (opening_owner shape shape.kind e) && eqb (lock_number shape (first_lock shape (its_cpu shape bounds e real))) k)
      go (inl is) = ap (λ b. times e (cond b (filter (λ x. is_free (opening_owner shape shape.kind x)) (opening_pushed shape (lock_named shape k))) [])) is ∙ (times_filter (λ x. is_free (opening_owner shape shape.kind x)) e (opening_pushed shape (lock_named shape k)) ∙ at_most (is_free (opening_owner shape shape.kind e)) (times e (opening_pushed shape (lock_named shape k))) (eqb (lock_number shape (first_lock shape (its_cpu shape bounds e real))) k) (pushed_counts is))
      go (inr is_not) =
          let other : lock_number shape (first_lock shape (its_cpu shape bounds e real)) ≢ k = λ (here : lock_number shape (first_lock shape (its_cpu shape bounds e real)) ≡ k). let is : is_lock shape (lock_named shape k) ≡ true = ap (is_lock shape) (ap (lock_named shape) (sym here) ∙ its_named) ∙ first_is_lock (its_cpu shape bounds e real) (its_cpu_is shape bounds e real) in cc in
          ap (λ b. times e (cond b (filter (λ x. is_free (opening_owner shape shape.kind x)) (opening_pushed shape (lock_named shape k))) [])) is_not ∙ sym (ap one (and_right (is_free (opening_owner shape shape.kind e)) (eqb (lock_number shape (first_lock shape (its_cpu shape bounds e real))) k) (ne_eqb (lock_number shape (first_lock shape (its_cpu shape bounds e real))) k other)))

  -- where each CPU has a list set, all have as many elements
  even_shares : shape.common ≡ false → is_lru shape.kind ≡ true → shape.elements % shape.cpus ≡ 0
  even_shares apart lru =
      let same : shape.elements ≡ shape.capacity = bounds.spares_of_others (λ hash. let plain : is_lru shape.kind ≡ false = ap is_lru hash in cc) in
      ap (λ (n : ℕ). n % shape.cpus) same ∙ bounds.equal_shares lru apart

  told_lru : (lock : DomainId) → is_lock shape lock ≡ true → is_lru shape.kind ≡ true → home_of_place shape (under_lock (lock_number shape lock)) ≡ homes.In lock
  told_lru lock is lru = ap (λ b. cond b (homes.In (lock_named shape (lock_number shape lock))) homes.Unlisted) lru ∙ ap homes.In (named_by_number shape lock is)

  home_counts : (e : ℕ) → e < shape.elements → (either : (e < shape.elements) ⊎ (shape.elements ≤ e)) → opening_home shape e ≡ home_of_place shape (place_of e either)
  unfolding place_of opening_home
  home_counts e real (inr past) = absurd (omega arith)
  home_counts e real (inl inside) =
      let cpu : ℕ = its_cpu shape bounds e inside in
      let lock = first_lock shape (its_cpu shape bounds e inside) in
      let is = first_is_lock (its_cpu shape bounds e inside) (its_cpu_is shape bounds e inside) in
      by_kind shape bounds (opening_home shape e ≡ home_of_place shape (under_lock (lock_number shape (first_lock shape (its_cpu shape bounds e inside)))))
      (λ common lru. ap (λ b. cond b (homes.In Global) (cond (is_lru shape.kind) (homes.In (CpuLru (e / (shape.elements / shape.cpus)))) homes.Unlisted)) common ∙ sym (told_lru lock is lru ∙ ap homes.In (first_common shape (its_cpu shape bounds e inside) common)))
      (λ apart lru. ap (λ b. cond b (homes.In Global) (cond (is_lru shape.kind) (homes.In (CpuLru (e / (shape.elements / shape.cpus)))) homes.Unlisted)) apart ∙ (ap (λ b. cond b (homes.In (CpuLru (e / (shape.elements / shape.cpus)))) homes.Unlisted) lru ∙ sym (told_lru lock is lru ∙ (ap homes.In (first_set shape (its_cpu shape bounds e inside) apart lru) ∙ ap homes.In (ap CpuLru (its_quotient shape bounds e inside (even_shares apart lru)))))))
      (λ apart plain. ap (λ b. cond b (homes.In Global) (cond (is_lru shape.kind) (homes.In (CpuLru (e / (shape.elements / shape.cpus)))) homes.Unlisted)) apart ∙ (ap (λ b. cond b (homes.In (CpuLru (e / (shape.elements / shape.cpus)))) homes.Unlisted) plain ∙ sym (ap (λ b. cond b (homes.In (lock_named shape (lock_number shape lock))) homes.Unlisted) plain)))

  lies_right : (e : ℕ) → e < shape.elements → (either : (e < shape.elements) ⊎ (shape.elements ≤ e)) → MayLie shape e (opening_owner shape shape.kind e) (place_of e either)
  unfolding place_of
  lies_right e real (inr past) = absurd (omega arith)
  lies_right e real (inl inside) =
      let is = first_is_lock (its_cpu shape bounds e inside) (its_cpu_is shape bounds e inside) in
      subst (MayLieUnder shape e) (sym (named_by_number shape _ is))
      (by_kind shape bounds (MayLieUnder shape e (first_lock shape (its_cpu shape bounds e inside)))
      (λ common lru. subst (MayLieUnder shape e) (sym (first_common shape _ common)) common)
      (λ apart lru. subst (MayLieUnder shape e) (sym (first_set shape _ apart lru)) (ap (is_lock shape) (sym (first_set shape _ apart lru)) ∙ is, its_quotient shape bounds e inside (even_shares apart lru)))
      (λ apart plain. subst (MayLieUnder shape e) (sym (first_plain shape _ apart plain)) (ap (is_lock shape) (sym (first_plain shape _ apart plain)) ∙ is)))

  pub opening_placed : Placed shape (opening shape)
  unfolding opening opening_place opening_lists
  opening_placed = record {
    place = opening_place;
    placed = record {
      free = λ k e. free_counts k e (cases_lt e shape.elements) ∙ gated (ltb e shape.elements) (opening_owner shape shape.kind e) owners.Free (λ o. is_free o && lies_at k (opening_place e));
      rows = λ k e. sym (ap one (and_right (ltb e shape.elements) (has_row (is_lru shape.kind) (lock_named shape k) (opening_owner shape shape.kind e) (lies_at k (opening_place e))) (no_row shape (lock_named shape k) e (lies_at k (opening_place e))))) ∙ gated (ltb e shape.elements) (opening_owner shape shape.kind e) owners.Free (λ o. has_row (is_lru shape.kind) (lock_named shape k) o (lies_at k (opening_place e)));
      owners = λ e real. subst (λ b. MayOwn shape (cond b (opening_owner shape shape.kind e) owners.Free)) (sym (lt-ltb e shape.elements real)) (owner_exists shape shape.kind e);
      places = λ e real. subst (λ b. MayLie shape e (cond b (opening_owner shape shape.kind e) owners.Free) (opening_place e)) (sym (lt-ltb e shape.elements real)) (lies_right e real (cases_lt e shape.elements));
      homes = λ e real. ap (λ b. cond b (opening_home shape e) homes.Unlisted) (lt-ltb e shape.elements real) ∙ home_counts e real (cases_lt e shape.elements);
      fit = λ k. fit_opening shape (lock_named shape k);
      cursors = λ k. tt;
    };
  }

pub opening_ranked : (shape : Shape) → Ranked shape (opening shape)
unfolding opening
opening_ranked shape = record { apart = λ cpu j k held. absurd cc; within = λ cpu k held. absurd cc }
