-- Where every probe names an element that lies in the bucket of its row, no probe can have found one held: each removed its
-- element.
use Rattle.std.proofs.Common.{◌≡◌, ◌⊎◌, ℕ, ◌+◌, ◌≤◌, Bool, true, false, cond, eqb, List, [], ◌∷◌, ◌++◌, refl, ap, ◌∙◌, sym, subst, inl, inr, arith}
use Rattle.std.specs.Prelude.{Option, None, Some, IsSome, count_by, option_map, option_to_list}
use Rattle.std.specs.List.{flat_map}
use Rattle.std.proofs.lemmas.Bool.{both_ways, eq-eqb}
use Rattle.std.proofs.lemmas.List.Sums.{sum_by-cons}
use Rattle.std.proofs.lemmas.Option.{none-some, same_Some}
use Rattle.map_types.specs.declared.attr.Shape.{Shape}
use Rattle.map_types.specs.declared.kind.DomainId.{DomainId}
use Rattle.map_types.specs.declared.kind.DomainId.TheVariants.{Bucket}
use Rattle.map_types.specs.declared.row.Row.{Row}
use Rattle.map_types.specs.ElementLists.{times, one}
use Rattle.map_types.specs.Stored.{Stored}
use Rattle.key_hash.specs.Bucket.{bucket_number}
use Rattle.place_words.specs.declared.bucket_part.BucketPart.TheVariants.{Evict}
use Rattle.place_words.specs.declared.bucket_part.Seen.{Seen}
use Rattle.place_words.specs.declared.bucket_part.Seen.TheVariants.{Removed, Held}
use Rattle.place_words.specs.declared.history.Part.TheVariants as parts
use Rattle.place_words.specs.declared.visits.Look.{Look}
use Rattle.place_words.specs.declared.visits.Try.{Try}
use Rattle.place_words.specs.Bodies.{numbers}
use Rattle.place_words.specs.Buckets.{AllowsInBucket}
use Rattle.place_words.specs.Histories.{Content, Allows}
use Rattle.place_words.specs.Locks.{is_same_lock}
use Rattle.place_words.specs.RowMoves.{rows_of}
use Rattle.place_words.specs.Shrinking.{is_removed, look_removed}
use Rattle.place_words.specs.Takings.{look_probes, walk_probes, stored_hash, evicts, Chase}
use Rattle.place_words.specs.Turns.{Turn, after_turn, after_turns, AreAllowed}
use Rattle.place_words.proofs.BucketLaws.{times_more}
use Rattle.place_words.proofs.ChaseDone.{names_of, AreRemoved, chasing, one_row, found_there, when_none, times_one, evicted}
use Rattle.place_words.proofs.RowCounts.{any}
use Rattle.place_words.proofs.Settled.{bodies_at, is_of, IsFit, one_bucket, bucket_turn_fit, turned_elsewhere}
use Rattle.serial_laws.proofs.LooksTold.{NoneHeld, none_held}

-- Turns one after another

pub allowed_parts : (shape : Shape) (cpu : ℕ) (contents : DomainId → Content) (first second : List Turn) → AreAllowed shape cpu contents (first ++ second)
    → AreAllowed shape cpu contents first × AreAllowed shape cpu (after_turns shape cpu contents first) second
allowed_parts shape cpu contents [] second allowed = (tt, allowed)
allowed_parts shape cpu contents (turn ∷ first) second allowed =
    let rest = allowed_parts shape cpu (after_turn shape cpu contents turn) first second allowed.1 in ((allowed.0, rest.0), rest.1)

-- The turns of probes

module _ (shape : Shape) (rows : List Row) where
  pub record BothChase (first second : List Try) (turns : List Turn) : Type 0 where
    pub one : List Turn
    pub two : List Turn
    pub turns_are : turns ≡ one ++ two
    pub first_chase : Chase shape rows first one
    pub second_chase : Chase shape rows second two

  pub chase_both : (first second : List Try) (turns : List Turn) → Chase shape rows (first ++ second) turns → BothChase first second turns
  chase_both [] second turns chase = record { one = []; two = turns; turns_are = refl; first_chase = tt; second_chase = chase }
  chase_both (probe ∷ first) second [] chase = absurd chase
  chase_both (probe ∷ first) second (turn ∷ turns) chase =
      let rest = chase_both first second turns chase.1 in
      record { one = turn ∷ rest.one; two = rest.two; turns_are = ap (λ (l : List Turn). turn ∷ l) rest.turns_are; first_chase = (chase.0, rest.first_chase); second_chase = rest.second_chase }

  pub chase_turns : (probes : List Try) (turns : List Turn) → Chase shape rows probes turns → turns ≡ chasing shape rows probes
  chase_turns [] [] chase = refl
  chase_turns [] (turn ∷ turns) chase = absurd chase
  chase_turns (probe ∷ probes) [] chase = absurd chase
  chase_turns (probe ∷ probes) (turn ∷ turns) chase =
      ap (λ (l : List Turn). turn ∷ l) (chase_turns probes turns chase.1) ∙ ap (λ (o : Option Turn). option_to_list o ++ chasing shape rows probes) (sym chase.0)

  -- each is of a bucket
  pub chased_lock : (probe : Try) (found : Option ℕ) (turn : Turn) → option_map (evicts shape probe) found ≡ Some turn → (hash : ℕ) × (evicts shape probe hash ≡ turn)
  chased_lock probe None turn is = absurd (none-some turn is)
  chased_lock probe (Some hash) turn is = (hash, same_Some _ _ is)

  pub chase_elsewhere : (cpu : ℕ) (probes : List Try) (turns : List Turn) (contents : DomainId → Content) (lock : DomainId) → ((bucket : ℕ) → is_same_lock (Bucket bucket) lock ≡ false) → Chase shape rows probes turns
      → after_turns shape cpu contents turns lock ≡ contents lock
  chase_elsewhere cpu [] [] contents lock apart chase = refl
  chase_elsewhere cpu [] (turn ∷ turns) contents lock apart chase = absurd chase
  chase_elsewhere cpu (probe ∷ probes) [] contents lock apart chase = absurd chase
  chase_elsewhere cpu (probe ∷ probes) (turn ∷ turns) contents lock apart chase =
      let found = chased_lock probe (stored_hash probe.element rows) turn chase.0 in
      chase_elsewhere cpu probes turns (after_turn shape cpu contents turn) lock apart chase.1
      ∙ turned_elsewhere shape cpu contents turn lock (subst (λ (t : Turn). is_same_lock t.lock lock ≡ false) found.1 (apart (bucket_number found.0 shape.buckets)))

-- Each probed element is listed, and lies in the bucket of its row.
pub record CanOnlyRemove (shape : Shape) (rows : List Row) (contents : DomainId → Content) (probes : List Try) : Type 0 where
  pub fits : (lock : DomainId) → IsFit shape lock (contents lock)
  pub few : (e : ℕ) → times e (names_of probes) ≤ rows_of e any rows
  pub there : (e bucket : ℕ) → 1 ≤ times e (names_of probes) → rows_of e (is_of shape bucket) rows ≤ times e (numbers (bodies_at contents bucket))

module _ (shape : Shape) (cpu : ℕ) (rows : List Row) (once : (e : ℕ) → rows_of e any rows ≤ 1) where
  not_held : (e holder : ℕ) (bodies : List Stored) → 1 ≤ times e (numbers bodies) → AllowsInBucket shape cpu (Evict e (Held holder)) bodies → ⊥
  unfolding AllowsInBucket
  not_held e holder bodies some may = both_ways false refl (subst IsSome may.0 (found_there e bodies some))

  removed_step : (contents : DomainId → Content) (x hash : ℕ) (seen : Seen) (probes : List Try) (turn : Turn) → CanOnlyRemove shape rows contents ((record { element = x; probed = seen }) ∷ probes)
      → ((of : ℕ → Bool) → rows_of x of rows ≡ one (of hash)) → evicts shape (record { element = x; probed = seen }) hash ≡ turn → Allows shape cpu turn.part (contents turn.lock)
      → (CanOnlyRemove shape rows (after_turn shape cpu contents turn) probes → AreRemoved probes) → AreRemoved ((record { element = x; probed = seen }) ∷ probes)
  removed_step contents x hash Removed probes turn can told is allowed rest =
      let home : ℕ = bucket_number hash shape.buckets in
      let named = λ (e : ℕ). times_more e x (names_of probes) in
      let here : rows_of x (is_of shape home) rows ≡ 1 = told (is_of shape home) ∙ ap one (eq-eqb home home refl) in
      let some : 1 ≤ times x (numbers (bodies_at contents home)) = omega (arith, here, can.there x home (omega (arith, named x, times_one x))) in
      let counts = evicted shape cpu rows contents x hash can.fits some in (
        refl,
        rest (subst (λ (t : Turn). CanOnlyRemove shape rows (after_turn shape cpu contents t) probes) is (record {
          fits = bucket_turn_fit shape cpu contents home (Evict x Removed) can.fits;
          few = λ e. omega (arith, named e, can.few e);
          there = λ e bucket among.
              let alone : times e (x ∷ []) ≡ 0 = omega (arith, among, named e, can.few e, once e) in
              omega (arith, counts e bucket, when_none (eqb home bucket) (times e (x ∷ [])) alone, can.there e bucket (omega (arith, among, named e)));
        })),
      )
  removed_step contents x hash (Held holder) probes turn can told is allowed rest =
      let home : ℕ = bucket_number hash shape.buckets in
      let here : rows_of x (is_of shape home) rows ≡ 1 = told (is_of shape home) ∙ ap one (eq-eqb home home refl) in
      let some : 1 ≤ times x (numbers (bodies_at contents home)) = omega (arith, here, can.there x home (omega (arith, times_more x x (names_of probes), times_one x))) in
      let there : Allows shape cpu (parts.Bucket (Evict x (Held holder))) (contents (Bucket home)) = subst (λ (t : Turn). Allows shape cpu t.part (contents t.lock)) (sym is) allowed in
      absurd (not_held x holder (bodies_at contents home) some (subst (Allows shape cpu (parts.Bucket (Evict x (Held holder)))) (one_bucket (contents (Bucket home)) (can.fits (Bucket home))) there))

  pub all_removed : (probes : List Try) (turns : List Turn) (contents : DomainId → Content) → CanOnlyRemove shape rows contents probes → Chase shape rows probes turns → AreAllowed shape cpu contents turns → AreRemoved probes
  all_removed [] turns contents can chase allowed = tt
  all_removed (probe ∷ probes) [] contents can chase allowed = absurd chase
  all_removed (probe ∷ probes) (turn ∷ turns) contents can chase allowed =
      let x : ℕ = probe.element in
      let row = one_row x rows (omega (arith, once x, can.few x, times_more x x (names_of probes), times_one x)) in
      removed_step contents x row.0 probe.probed probes turn can row.2 (same_Some _ _ (ap (option_map (evicts shape probe)) (sym row.1) ∙ chase.0)) allowed.0
      (λ later. all_removed probes turns (after_turn shape cpu contents turn) later chase.1 allowed.1)

-- The probes of a walk over looks and of the tries after it, which there are only where no look removed.

no_probe : (look : Look) (probed : Option Seen) → AreRemoved (look_probes (record look { probed = probed })) → look_removed (record look { probed = probed }) ≡ false → look_probes (record look { probed = probed }) ≡ []
no_probe look None are none = refl
no_probe look (Some seen) are none = absurd (both_ways (is_removed seen) none are.0)

none_counted : (b : Bool) (n : ℕ) → cond b 1 0 + n ≡ 0 → (b ≡ false) × (n ≡ 0)
none_counted true n none = absurd (omega (arith, none))
none_counted false n none = (refl, omega (arith, none))

no_probes : (looks : List Look) → NoneHeld looks → count_by look_removed looks ≡ 0 → flat_map look_probes looks ≡ []
no_probes [] are none = refl
no_probes (look ∷ looks) are none =
    let apart = none_counted (look_removed look) (count_by look_removed looks) (sym (sum_by-cons _ look looks) ∙ none) in
    ap (λ (l : List Try). l ++ flat_map look_probes looks) (no_probe look look.probed are.0 apart.0) ∙ no_probes looks are.1 apart.1

module _ (shape : Shape) (cpu : ℕ) (rows : List Row) (once : (e : ℕ) → rows_of e any rows ≤ 1) (contents : DomainId → Content) (looks : List Look) where
  pub walk_removed : (tries : List Try) (turns : List Turn) → CanOnlyRemove shape rows contents (flat_map look_probes looks) → CanOnlyRemove shape rows contents tries
      → (tries ≡ []) ⊎ (count_by look_removed looks ≡ 0) → Chase shape rows (walk_probes looks tries) turns → AreAllowed shape cpu contents turns → NoneHeld looks × AreRemoved tries
  walk_removed tries turns can_look can_try which chase allowed = (held, tried which)
    where
      both : BothChase shape rows (flat_map look_probes looks) tries turns
      both = chase_both shape rows (flat_map look_probes looks) tries turns chase

      allowed_both : AreAllowed shape cpu contents both.one × AreAllowed shape cpu (after_turns shape cpu contents both.one) both.two
      allowed_both = allowed_parts shape cpu contents both.one both.two (subst (AreAllowed shape cpu contents) both.turns_are allowed)

      held : NoneHeld looks
      held = none_held looks (all_removed shape cpu rows once (flat_map look_probes looks) both.one contents can_look both.first_chase allowed_both.0)

      no_turns : count_by look_removed looks ≡ 0 → both.one ≡ []
      no_turns none = chase_turns shape rows (flat_map look_probes looks) both.one both.first_chase ∙ ap (chasing shape rows) (no_probes looks held none)

      tried : (tries ≡ []) ⊎ (count_by look_removed looks ≡ 0) → AreRemoved tries
      tried (inl none) = subst AreRemoved (sym none) tt
      tried (inr none) = all_removed shape cpu rows once tries both.two contents can_try both.second_chase
          (subst (λ (turns : List Turn). AreAllowed shape cpu (after_turns shape cpu contents turns) both.two) (no_turns none) allowed_both.1)
