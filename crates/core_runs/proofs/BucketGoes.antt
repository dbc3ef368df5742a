-- Turns of buckets on a map that evicts are runs of the core: an element of the hand is put there, or some are taken out.
use Rattle.std.proofs.Common.{◌≡◌, ◌≢◌, ℕ, suc, ◌+◌, ◌<◌, ◌≤◌, true, false, cond, eqb, List, [], ◌∷◌, ◌++◌, map, Option, None, refl, ap, ◌∙◌, sym, subst, inl, inr, ⊎_elim, arith}
use Rattle.std.specs.Prelude.{IsTrue, IsFalse}
use Rattle.std.proofs.lemmas.Bool.{cond-false, ne_eqb, lt-ltb}
use Rattle.map_types.specs.declared.attr.Shape.{Shape}
use Rattle.map_types.specs.declared.kind.DomainId.{DomainId}
use Rattle.map_types.specs.declared.kind.DomainId.TheVariants.{Bucket}
use Rattle.map_types.specs.declared.kind.Side.{Side}
use Rattle.map_types.specs.Kind.{is_lru}
use Rattle.map_types.specs.Shape.{HasBounds}
use Rattle.map_types.specs.Stored.{Stored}
use Rattle.map_types.specs.ElementLists.{times, IsIn, without}
use Rattle.map_types.proofs.RowLemmas.{by_test}
use Rattle.place_words.specs.declared.bucket_part.BucketPart.{BucketPart}
use Rattle.place_words.specs.declared.bucket_part.BucketPart.TheVariants.{Update}
use Rattle.place_words.specs.declared.bucket_part.Put.TheVariants as puts
use Rattle.place_words.specs.declared.history.Part.TheVariants as parts
use Rattle.place_words.specs.declared.owner.Owner.TheVariants as owners
use Rattle.place_words.specs.Bodies.{present, without_key, numbers}
use Rattle.place_words.specs.Buckets.{AllowsInBucket, bucket_after}
use Rattle.place_words.specs.Histories.{Content, in_bucket, content_after, Allows}
use Rattle.place_words.specs.Locks.{is_lock}
use Rattle.place_words.specs.Turns.{Turn, on_lock, after_turn}
use Rattle.place_words.proofs.LockLemmas.{same_lock}
use Rattle.place_words.proofs.Settled.{turned_here}
use Rattle.place_words.proofs.Splits.{there}
use Rattle.place_words.specs.declared.step.Lists.{Lists}
use Rattle.place_words.specs.declared.step.Step.{Step}
use Rattle.place_words.specs.declared.step.Step.TheVariants as steps
use Rattle.place_words.specs.State.{State, rows, is_bucket}
use Rattle.place_words.specs.Steps.{with_row, without_row, IsLockHome}
use Rattle.place_words.proofs.ElementLemmas.{times_cons_same, times_cons_other}
use Rattle.place_words.specs.Interleaving.{Drawn, Event, does, is_inner, part_steps, seen_by, lists_in, takes, interleaved, AreEnabled}
use Rattle.core_runs.proofs.Evictions.{Hands}
use Rattle.core_runs.proofs.ListGoes.{in_hand_more}
use Rattle.core_runs.proofs.Nests.{from_less, drawn, turn_alone}
use Rattle.core_runs.proofs.PlainGoes.{Goes, numbers_without, present_in_numbers, bucket_once, bucket_owns, left_of, AreThere}
use Rattle.core_runs.proofs.PlainRuns.{core_lists, tied_alike, then_alike, on_bodies, bucket_lists}
use Rattle.core_runs.proofs.Rehomes.{row_lies_there}
use Rattle.core_runs.proofs.Tied.{IsTied, with_lists, held_first, lists_here, lists_else, take_tied, attach_tied, detach_tied, give_same}

-- the lock on whose lists an element is listed
pub record IsListed (shape : Shape) (contents : DomainId → Content) (e : ℕ) : Type 0 where
  pub lock : DomainId
  pub is : IsTrue (is_lock shape lock)
  pub list : IsFalse (is_bucket lock)
  pub inside : IsIn e (rows (lists_in (contents lock)))

-- one that is in hand no more
pub in_hand_less : (cpu e : ℕ) (hand : List ℕ) (Known : ℕ → ℕ → Type 0) (c x : ℕ) → times e hand ≡ 0 → ((c x : ℕ) → Known c x → x ≢ e) → Hands cpu hand Known c x → Hands cpu (e ∷ hand) Known c x × (x ≢ e)
in_hand_less cpu e hand Known c x gone away held =
    ⊎_elim
    (λ (mine : IsIn x hand × (c ≡ cpu)). (inl (by_test e x (λ b. 0 < cond b (suc (times x hand)) (times x hand)) (λ same. omega arith) (λ other. mine.0), mine.1), λ same. let some : 0 < times e hand = subst (λ (z : ℕ). 0 < times z hand) same mine.0 in omega (arith, gone, some)))
    (λ (known : Known c x). (inr known, away c x known))
    held

module _ {shape : Shape} (bounds : HasBounds shape) (lru : is_lru shape.kind ≡ true) {cpu : ℕ} (within : cpu < shape.cpus) where
  lock_home : {held : List DomainId} {Known : ℕ → ℕ → Type 0} {s : State} (contents : DomainId → Content) (e : ℕ) → IsTied shape cpu held (core_lists contents) Known s → IsListed shape contents e → IsLockHome (s.home e)
  lock_home contents e tied listed = subst IsLockHome (sym (row_lies_there bounds lru within tied listed.lock e listed.is listed.list listed.inside).home) tt

  -- The element that an update was offered is added.
  pub goes_offer_added : (contents : DomainId → Content) (Known : ℕ → ℕ → Type 0) (bucket : ℕ) (side : Side) (flags : ℕ) (key value : List ℕ) (offer : Option ℕ) (e : ℕ) (hand : List ℕ) → bucket < shape.buckets
      → Allows shape cpu (parts.Bucket (Update side flags key value offer (puts.Added e))) (contents (Bucket bucket)) → IsListed shape contents e → times e hand ≡ 0 → ((c x : ℕ) → Known c x → x ≢ e)
      → Goes shape cpu contents (Hands cpu (e ∷ hand) Known) (on_lock (Bucket bucket) (parts.Bucket (Update side flags key value offer (puts.Added e))) ∷ []) (Hands cpu hand Known)
  unfolding AreEnabled bucket_after
  goes_offer_added contents Known bucket side flags key value offer e hand less allowed listed gone away = record {
    run = λ s n call later tied from more.
        let part : BucketPart = Update side flags key value offer (puts.Added e) in
        let turn : Turn = on_lock (Bucket bucket) (parts.Bucket part) in
        let now : DomainId → Content = after_turn shape cpu contents turn in
        let is : is_lock shape (Bucket bucket) ≡ true = lt-ltb bucket shape.buckets less in
        let bodies = on_bodies (contents (Bucket bucket)) (AllowsInBucket shape cpu part) allowed in
        let took = take_tied bounds within tied (Bucket bucket) is tt in
        let first : Lists = with_row (Bucket bucket) e (lists_in (contents (Bucket bucket))) in
        let mine : Hands cpu (e ∷ hand) Known cpu e = inl (let here = times_cons_same e hand in omega (arith, here), refl) in
        let attached = attach_tied bounds within took.tied bucket e first (Hands cpu hand Known) is (held_first cpu [] (Bucket bucket)) mine (λ _. lock_home contents e tied listed) refl (λ c x held. in_hand_less cpu e hand Known c x gone away held) in
        let after : first ≡ lists_in (now (Bucket bucket)) =
        ap (λ (c : Content). with_row (Bucket bucket) e (lists_in c)) bodies.lies
        ∙ sym (ap lists_in (turned_here shape cpu contents turn (Bucket bucket) (same_lock (Bucket bucket)) ∙ ap (content_after shape cpu (parts.Bucket part)) bodies.lies)) in
        let gave = give_same bounds within (Bucket bucket) attached.tied (lists_in (now (Bucket bucket))) is tt (lists_here (Bucket bucket) first (core_lists contents) ∙ after) in
        subst (AreEnabled shape s) (sym (turn_alone shape contents (drawn n cpu call turn) later refl (from_less (suc n) (n + 1) later (omega arith) from))) (
          took.enabled,
          (
            attached.enabled,
            (
              gave.enabled,
              more _
                  (tied_alike (then_alike shape cpu contents turn (with_lists (Bucket bucket) first (core_lists contents)) (λ other apart. lists_else (Bucket bucket) other first (core_lists contents) apart)) gave.tied),
            ),
          ),
        );
  }

  -- It replaces another, which is in hand then.
  pub goes_offer_replaced : (contents : DomainId → Content) (Known : ℕ → ℕ → Type 0) (bucket : ℕ) (side : Side) (flags : ℕ) (key value : List ℕ) (offer : Option ℕ) (e old : ℕ) (hand : List ℕ) → bucket < shape.buckets
      → Allows shape cpu (parts.Bucket (Update side flags key value offer (puts.Replaced e old))) (contents (Bucket bucket)) → IsListed shape contents e → times e hand ≡ 0 → ((c x : ℕ) → Known c x → x ≢ e)
      → Goes shape cpu contents (Hands cpu (e ∷ hand) Known) (on_lock (Bucket bucket) (parts.Bucket (Update side flags key value offer (puts.Replaced e old))) ∷ []) (Hands cpu (old ∷ hand) Known)
  unfolding AreEnabled bucket_after AllowsInBucket
  goes_offer_replaced contents Known bucket side flags key value offer e old hand less allowed listed gone away = record {
    run = λ s n call later tied from more.
        let part : BucketPart = Update side flags key value offer (puts.Replaced e old) in
        let turn : Turn = on_lock (Bucket bucket) (parts.Bucket part) in
        let now : DomainId → Content = after_turn shape cpu contents turn in
        let is : is_lock shape (Bucket bucket) ≡ true = lt-ltb bucket shape.buckets less in
        let bodies = on_bodies (contents (Bucket bucket)) (AllowsInBucket shape cpu part) allowed in
        let found = there (present key bodies.bodies) _ bodies.fact in
        let body_is : found.it.element ≡ old = found.fact.0 in
        let lies : lists_in (contents (Bucket bucket)) ≡ lists_in (in_bucket bodies.bodies) = ap lists_in bodies.lies in
        let here : IsIn old (lists_in (contents (Bucket bucket))).first = subst (λ (l : Lists). IsIn old l.first) (sym lies) (subst (λ (x : ℕ). IsIn x (numbers bodies.bodies)) body_is (present_in_numbers key bodies.bodies found.it found.is)) in
        let owned : s.owner old ≡ owners.Bucket bucket = bucket_owns bounds within tied bucket old is here in
        let differ : (c x : ℕ) → Hands cpu (e ∷ hand) Known c x → x ≢ old = λ c x held same. (let owner : owners.Bucket bucket ≡ owners.Hand c = sym owned ∙ ap s.owner (sym same) ∙ (tied.known c x held).1 in absurd cc) in
        let once : times found.it.element (numbers bodies.bodies) ≤ 1 = subst (λ (l : Lists). times found.it.element l.first ≤ 1) lies (bucket_once bounds within tied bucket found.it.element is) in
        let took = take_tied bounds within tied (Bucket bucket) is tt in
        let first : Lists = with_row (Bucket bucket) e (lists_in (contents (Bucket bucket))) in
        let mine : Hands cpu (e ∷ hand) Known cpu e = inl (let self = times_cons_same e hand in omega (arith, self), refl) in
        let attached = attach_tied bounds within took.tied bucket e first (Hands cpu hand Known) is (held_first cpu [] (Bucket bucket)) mine (λ _. lock_home contents e tied listed) refl (λ c x held. in_hand_less cpu e hand Known c x gone away held) in
        let second : Lists = without_row old first in
        let now_first : with_lists (Bucket bucket) first (core_lists contents) (Bucket bucket) ≡ first = lists_here (Bucket bucket) first (core_lists contents) in
        let apart : e ≢ old = differ cpu e mine in
        let inside : IsIn old first.first = subst (λ (k : ℕ). 0 < k) (sym (times_cons_other old e (lists_in (contents (Bucket bucket))).first (λ same. apart (sym same)))) here in
        let detached = detach_tied bounds within attached.tied bucket old second (Hands cpu (old ∷ hand) Known) is (held_first cpu [] (Bucket bucket)) (subst (λ (l : Lists). IsIn old l.first) (sym now_first) inside) (ap (without_row old) now_first)
        (λ c x held. in_hand_more cpu old hand Known c x (λ d y known. differ d y (in_hand_less cpu e hand Known d y gone away known).0) held) in
        let numbers_are : without old (e ∷ numbers bodies.bodies) ≡ e ∷ numbers (without_key key bodies.bodies) =
        cond-false (eqb e old) (numbers bodies.bodies) (e ∷ without old (numbers bodies.bodies)) (ne_eqb e old apart)
        ∙ ap (λ (l : List ℕ). e ∷ l) (ap (λ (x : ℕ). without x (numbers bodies.bodies)) (sym body_is) ∙ numbers_without key bodies.bodies found.it found.is once) in
        let after : second ≡ lists_in (now (Bucket bucket)) =
        ap (λ (l : Lists). without_row old (with_row (Bucket bucket) e l)) lies ∙ ap bucket_lists numbers_are
        ∙ sym (ap lists_in (turned_here shape cpu contents turn (Bucket bucket) (same_lock (Bucket bucket)) ∙ ap (content_after shape cpu (parts.Bucket part)) bodies.lies)) in
        let gave = give_same bounds within (Bucket bucket) detached.tied (lists_in (now (Bucket bucket))) is tt (lists_here (Bucket bucket) second (with_lists (Bucket bucket) first (core_lists contents)) ∙ after) in
        subst (AreEnabled shape s) (sym (turn_alone shape contents (drawn n cpu call turn) later refl (from_less (suc n) (n + 1) later (omega arith) from))) (
          took.enabled,
          (
            attached.enabled,
            (
              detached.enabled,
              (
                gave.enabled,
                more _
                    (tied_alike (then_alike shape cpu contents turn (with_lists (Bucket bucket) second (with_lists (Bucket bucket) first (core_lists contents)))
                    (λ other away_there. lists_else (Bucket bucket) other second (with_lists (Bucket bucket) first (core_lists contents)) away_there ∙ lists_else (Bucket bucket) other first (core_lists contents) away_there)) gave.tied),
              ),
            ),
          ),
        );
  }

-- one after another into the hand
abbrev pub gathered : List ℕ → List ℕ → List ℕ
gathered [] hand = hand
gathered (e ∷ es) hand = gathered es (e ∷ hand)

module _ {shape : Shape} (bounds : HasBounds shape) {cpu : ℕ} (within : cpu < shape.cpus) {Known : ℕ → ℕ → Type 0} (bucket : ℕ) (is : is_lock shape (Bucket bucket) ≡ true) where
  detaching_runs : (es xs hand : List ℕ) {s : State} (lists : DomainId → Lists) (more : List Event) → IsTied shape cpu (Bucket bucket ∷ []) (with_lists (Bucket bucket) (bucket_lists xs) lists) (Hands cpu hand Known) s → AreThere es xs
      → ((t : State) → IsTied shape cpu (Bucket bucket ∷ []) (with_lists (Bucket bucket) (bucket_lists (left_of es xs)) lists) (Hands cpu (gathered es hand) Known) t → AreEnabled shape t more)
      → AreEnabled shape s (map does (map (λ e. steps.Detach cpu e bucket) es) ++ more)
  unfolding AreEnabled
  detaching_runs [] xs hand {s = s} lists more tied there_all rest = rest s tied
  detaching_runs (e ∷ es) xs hand {s = s} lists more tied there_all rest =
      let here : with_lists (Bucket bucket) (bucket_lists xs) lists (Bucket bucket) ≡ bucket_lists xs = lists_here (Bucket bucket) (bucket_lists xs) lists in
      let inside : IsIn e (with_lists (Bucket bucket) (bucket_lists xs) lists (Bucket bucket)).first = subst (λ (l : Lists). IsIn e l.first) (sym here) there_all.0 in
      let owned : s.owner e ≡ owners.Bucket bucket = bucket_owns bounds within tied bucket e is inside in
      let differ : (c x : ℕ) → Hands cpu hand Known c x → x ≢ e = λ c x held same. (let owner : owners.Bucket bucket ≡ owners.Hand c = sym owned ∙ ap s.owner (sym same) ∙ (tied.known c x held).1 in absurd cc) in
      let detached = detach_tied bounds within tied bucket e (bucket_lists (without e xs)) (Hands cpu (e ∷ hand) Known) is (held_first cpu [] (Bucket bucket)) inside (ap (without_row e) here) (λ c x held. in_hand_more cpu e hand Known c x differ held) in
      (detached.enabled, detaching_runs es (without e xs) (e ∷ hand) lists more (tied_alike (λ other. Rattle.core_runs.proofs.OwnNest.put_twice (Bucket bucket) (bucket_lists (without e xs)) (bucket_lists xs) lists other) detached.tied) there_all.1 rest)

  -- Elements are taken out of a bucket: they are in hand then, the last on top.
  pub goes_taking_out : (contents : DomainId → Content) (part : BucketPart) (es hand : List ℕ) (bodies : List Stored) → is_inner (parts.Bucket part) ≡ false
      → part_steps shape cpu (Bucket bucket) None (parts.Bucket part) ≡ map (λ e. steps.Detach cpu e bucket) es → seen_by (parts.Bucket part) ≡ []
      → contents (Bucket bucket) ≡ in_bucket bodies → AreThere es (numbers bodies) → numbers (bucket_after shape cpu part bodies) ≡ left_of es (numbers bodies)
      → Goes shape cpu contents (Hands cpu hand Known) (on_lock (Bucket bucket) (parts.Bucket part) ∷ []) (Hands cpu (gathered es hand) Known)
  unfolding AreEnabled
  goes_taking_out contents part es hand bodies outer steps_are blind lies there_all left = record {
    run = λ s n call later tied from more.
        let turn : Turn = on_lock (Bucket bucket) (parts.Bucket part) in
        let now : DomainId → Content = after_turn shape cpu contents turn in
        let x : Drawn = drawn n cpu call turn in
        let was : core_lists contents (Bucket bucket) ≡ bucket_lists (numbers bodies) = ap lists_in lies in
        let took = take_tied bounds within tied (Bucket bucket) is tt in
        let after : bucket_lists (left_of es (numbers bodies)) ≡ lists_in (now (Bucket bucket)) =
        ap bucket_lists (sym left) ∙ sym (ap lists_in (turned_here shape cpu contents turn (Bucket bucket) (same_lock (Bucket bucket)) ∙ ap (content_after shape cpu (parts.Bucket part)) lies)) in
        let gives : List Event = does (steps.Give cpu (Bucket bucket) (lists_in (now (Bucket bucket)))) ∷ interleaved shape now [] later in
        let all_steps : interleaved shape contents [] (x ∷ later) ≡ takes x ∷ map does (map (λ e. steps.Detach cpu e bucket) es) ++ gives =
        turn_alone shape contents x later outer (from_less (suc n) (n + 1) later (omega arith) from)
        ∙ ap (λ (l : List Step). takes x ∷ map does l ++ (seen_by (parts.Bucket part) ++ gives)) steps_are
        ∙ ap (λ (l : List Event). takes x ∷ map does (map (λ e. steps.Detach cpu e bucket) es) ++ (l ++ gives)) blind in
        subst (AreEnabled shape s) (sym all_steps) (
          took.enabled,
          detaching_runs es (numbers bodies) hand (core_lists contents) gives
              (tied_alike (λ other. sym (Rattle.core_runs.proofs.OwnNest.put_back (Bucket bucket) (bucket_lists (numbers bodies)) (core_lists contents) was other)) took.tied) there_all
              (λ t held.
              let gave = give_same bounds within (Bucket bucket) held (lists_in (now (Bucket bucket))) is tt (lists_here (Bucket bucket) (bucket_lists (left_of es (numbers bodies))) (core_lists contents) ∙ after) in (
                gave.enabled,
                more _
                    (tied_alike (then_alike shape cpu contents turn (with_lists (Bucket bucket) (bucket_lists (left_of es (numbers bodies))) (core_lists contents)) (λ other apart. lists_else (Bucket bucket) other (bucket_lists (left_of es (numbers bodies))) (core_lists contents) apart)) gave.tied),
              )),
        );
  }
