-- Evictions inside a list turn are runs of the core: each takes its element out of its bucket, into the CPU's hand.
use Rattle.std.proofs.Common.{◌≡◌, ◌≢◌, ◌⊎◌, ℕ, suc, ◌+◌, ◌<◌, ◌≤◌, true, cond, List, [], ◌∷◌, ◌++◌, length, map, Some, refl, ap, ◌∙◌, sym, subst, inl, inr, ⊎_elim, arith}
use Rattle.std.specs.List.{before_first, after_first}
use Rattle.std.proofs.lemmas.Bool.{cases_eq, eqb-true, lt-ltb}
use Rattle.std.proofs.lemmas.List.{map-append}
use Rattle.map_types.specs.declared.attr.Shape.{Shape}
use Rattle.map_types.specs.declared.kind.DomainId.{DomainId}
use Rattle.map_types.specs.declared.kind.DomainId.TheVariants.{Bucket}
use Rattle.map_types.specs.Shape.{HasBounds}
use Rattle.map_types.specs.Stored.{Stored}
use Rattle.map_types.specs.ElementLists.{one, IsIn, times, without}
use Rattle.map_types.proofs.RowLemmas.{by_test, times_append}
use Rattle.place_words.specs.declared.bucket_part.BucketPart.TheVariants.{Evict}
use Rattle.place_words.specs.declared.bucket_part.Seen.TheVariants.{Removed}
use Rattle.place_words.specs.declared.history.Part.TheVariants as parts
use Rattle.place_words.specs.declared.owner.Owner.TheVariants as owners
use Rattle.place_words.specs.Bodies.{has_number, body_of, without_element, numbers}
use Rattle.place_words.specs.Buckets.{AllowsInBucket, bucket_after}
use Rattle.place_words.specs.Histories.{Content, in_bucket}
use Rattle.place_words.specs.Locks.{is_lock}
use Rattle.place_words.specs.Turns.{Turn, on_lock, after_turn, after_turns, AreAllowed}
use Rattle.place_words.proofs.Splits.{some_there, find_splits, find_passes}
use Rattle.place_words.specs.declared.step.Lists.{Lists}
use Rattle.place_words.specs.State.{State}
use Rattle.place_words.specs.Steps.{without_row}
use Rattle.place_words.proofs.ElementLemmas.{times_cons_same, times_cons_other}
use Rattle.place_words.specs.Interleaving.{Drawn, lists_in, interleaved, AreEnabled}
use Rattle.core_runs.proofs.Nests.{stamped, AreBeside, Inside}
use Rattle.core_runs.proofs.PlainRuns.{core_lists, tied_alike, then_alike, on_bodies, bucket_lists, lists_turned}
use Rattle.core_runs.proofs.PlainGoes.{without_middle, bucket_once, bucket_owns}
use Rattle.core_runs.proofs.Tied.{IsTied, AreBelow, with_lists, held_first, lists_here, lists_else, take_tied, detach_tied, give_same}

-- these elements are in the CPU's hand besides what is known
abbrev pub Hands : ℕ → List ℕ → (ℕ → ℕ → Type 0) → ℕ → ℕ → Type 0
Hands cpu hand Known c x = (IsIn x hand × (c ≡ cpu)) ⊎ Known c x

-- elements, each with its bucket, and the turns that evict them
abbrev pub evicting : List (ℕ × ℕ) → List Turn
evicting es = map (λ (e : ℕ × ℕ). on_lock (Bucket e.1) (parts.Bucket (Evict e.0 Removed))) es

abbrev pub AreBuckets : Shape → List (ℕ × ℕ) → Type 0
AreBuckets shape [] = Unit {0}
AreBuckets shape (e ∷ es) = (e.1 < shape.buckets) × AreBuckets shape es

-- one after another at the head
abbrev pub onto : List (ℕ × ℕ) → List ℕ → List ℕ
onto [] hand = hand
onto (e ∷ es) hand = onto es (e.0 ∷ hand)

pub evicting_beside : (es : List (ℕ × ℕ)) → AreBeside 3 (evicting es)
evicting_beside [] = tt
evicting_beside (e ∷ es) = ((refl, refl), evicting_beside es)

-- what is evicted was in the bucket, and the rest stays
pub numbers_cut : (e : ℕ) (bodies : List Stored) (body : Stored) → body_of e bodies ≡ Some body
    → (numbers bodies ≡ numbers (before_first (has_number e) bodies) ++ e ∷ numbers (after_first (has_number e) bodies))
numbers_cut e bodies body found =
    let front : List Stored = before_first (has_number e) bodies in
    let back : List Stored = after_first (has_number e) bodies in
    let is : body.element ≡ e = eqb-true body.element e (find_passes (has_number e) bodies body found) in
    ap numbers (find_splits (has_number e) bodies body found) ∙ map-append (λ (b : Stored). b.element) front (body ∷ back) ∙ ap (λ (x : ℕ). numbers front ++ x ∷ numbers back) is

pub numbers_evicted : (e : ℕ) (bodies : List Stored) (body : Stored) → body_of e bodies ≡ Some body → times e (numbers bodies) ≤ 1 → without e (numbers bodies) ≡ numbers (without_element e bodies)
numbers_evicted e bodies body found once =
    let front : List Stored = before_first (has_number e) bodies in
    let back : List Stored = after_first (has_number e) bodies in
    let cut = numbers_cut e bodies body found in
    let twice : times e (numbers bodies) ≡ times e (numbers front) + times e (e ∷ numbers back) = ap (times e) cut ∙ times_append e (numbers front) (e ∷ numbers back) in
    ap (without e) cut ∙ without_middle e (numbers front) (numbers back) (omega (arith, once, twice, times_cons_same e (numbers back))) ∙ sym (map-append (λ (b : Stored). b.element) front back)

pub evicted_inside : (e : ℕ) (bodies : List Stored) (body : Stored) → body_of e bodies ≡ Some body → IsIn e (numbers bodies)
evicted_inside e bodies body found =
    let cut = numbers_cut e bodies body found in
    let front : List Stored = before_first (has_number e) bodies in
    let back : List Stored = after_first (has_number e) bodies in
    let twice : times e (numbers bodies) ≡ times e (numbers front) + times e (e ∷ numbers back) = ap (times e) cut ∙ times_append e (numbers front) (e ∷ numbers back) in
    omega (arith, twice, times_cons_same e (numbers back))

module _ {shape : Shape} (bounds : HasBounds shape) {cpu : ℕ} (within : cpu < shape.cpus) {Known : ℕ → ℕ → Type 0} (call : ℕ) {held : List DomainId} (low : AreBelow 3 held) (last : ℕ) (tail : List Drawn)
    {Begun : List ℕ → ℕ → Type 0} {around : List Drawn} {then : List ℕ → ℕ → List ℕ} (nested : Inside shape cpu call 3 last tail Begun around then) where
  pub evicting_runs : (es : List (ℕ × ℕ)) (hand : List ℕ) {s : State} (contents : DomainId → Content) → IsTied shape cpu held (core_lists contents) (Hands cpu hand Known) s
      → (begun : List ℕ) (n : ℕ) → last ≡ n + length es → Begun begun n
      → AreBuckets shape es → AreAllowed shape cpu contents (evicting es) → ((x : ℕ) → times x hand ≤ 1) → ((c x : ℕ) → Known c x → times x hand ≡ 0)
      → ((t : State) (began : List ℕ) → Begun began last → ((x : ℕ) → times x (onto es hand) ≤ 1) → ((c x : ℕ) → Known c x → times x (onto es hand) ≡ 0)
      → IsTied shape cpu held (core_lists (after_turns shape cpu contents (evicting es))) (Hands cpu (onto es hand) Known) t
      → AreEnabled shape t (interleaved shape (after_turns shape cpu contents (evicting es)) began tail))
      → AreEnabled shape s (interleaved shape contents begun (stamped n cpu call (evicting es) ++ tail))
  unfolding AreEnabled AllowsInBucket bucket_after
  evicting_runs [] hand {s = s} contents tied begun n is has there allowed once apart more =
      more s begun (subst (λ (k : ℕ). Begun begun k) (omega (arith, is)) has) once apart tied
  evicting_runs (one ∷ es) hand {s = s} contents tied begun n is has there allowed once apart more =
      let e : ℕ = one.0 in
      let bucket : ℕ = one.1 in
      let lock : DomainId = Bucket bucket in
      let here : Turn = on_lock lock (parts.Bucket (Evict e Removed)) in
      let now : DomainId → Content = after_turn shape cpu contents here in
      let is_there : is_lock shape lock ≡ true = lt-ltb bucket shape.buckets there.0 in
      let bodies = on_bodies (contents lock) (AllowsInBucket shape cpu (Evict e Removed)) allowed.0 in
      let found = some_there (body_of e bodies.bodies) bodies.fact in
      let lies : lists_in (contents lock) ≡ lists_in (in_bucket bodies.bodies) = ap lists_in bodies.lies in
      let inside : IsIn e (lists_in (contents lock)).first = subst (λ (l : Lists). IsIn e l.first) (sym lies) (evicted_inside e bodies.bodies found.it found.is) in
      let owned : s.owner e ≡ owners.Bucket bucket = bucket_owns bounds within tied bucket e is_there inside in
      let few : times e (numbers bodies.bodies) ≤ 1 = subst (λ (l : Lists). times e l.first ≤ 1) lies (bucket_once bounds within tied bucket e is_there) in
      let differ : (c x : ℕ) → Hands cpu hand Known c x → x ≢ e = λ c x held same. (let owner : owners.Bucket bucket ≡ owners.Hand c = sym owned ∙ ap s.owner (sym same) ∙ (tied.known c x held).1 in absurd cc) in
      let not_yet : times e hand ≡ 0 = ⊎_elim (λ (none : times e hand ≡ 0). none) (λ (some : times e hand ≡ 0 → ⊥). absurd (differ cpu e (inl (omega (arith, some), refl)) refl)) (cases_eq (times e hand) 0) in
      let took = take_tied bounds within tied lock is_there low in
      let left : Lists = without_row e (lists_in (contents lock)) in
      let detached = detach_tied bounds within took.tied bucket e left (Hands cpu (e ∷ hand) Known) is_there (held_first cpu held lock) inside refl
      (λ c x held. ⊎_elim
      (λ (mine : IsIn x (e ∷ hand) × (c ≡ cpu)). ((λ same. mine.1), (λ other. inl (subst (λ (k : ℕ). 0 < k) (times_cons_other x e hand other) mine.0, mine.1))))
      (λ (known : Known c x). ((λ same. absurd (differ c x (inr known) same)), (λ other. inr known)))
      held) in
      let after : left ≡ lists_in (now lock) =
      ◌∙◌ {b = bucket_lists (without e (numbers bodies.bodies))} (ap (without_row e) lies)
      (◌∙◌ {b = bucket_lists (numbers (without_element e bodies.bodies))} (ap bucket_lists (numbers_evicted e bodies.bodies found.it found.is few)) (sym (lists_turned shape cpu contents here (in_bucket bodies.bodies) bodies.lies))) in
      let gave = give_same bounds within lock detached.tied (lists_in (now lock)) is_there low (lists_here lock left (core_lists contents) ∙ after) in
      subst (AreEnabled shape s) (sym (nested.goes contents begun n here (evicting es) (omega (arith, is)) (evicting_beside es) refl refl has)) (
        took.enabled,
        (
          detached.enabled,
          (
            gave.enabled,
            evicting_runs es (e ∷ hand) now (tied_alike (then_alike shape cpu contents here (with_lists lock left (core_lists contents)) (λ other away. lists_else lock other left (core_lists contents) away)) gave.tied)
                (then begun n) (suc n) (omega (arith, is)) (nested.next begun n (omega (arith, is)) has) there.1 allowed.1
                (λ x. by_test e x (λ b. cond b (suc (times x hand)) (times x hand) ≤ 1) (λ same. let none : times x hand ≡ 0 = subst (λ (y : ℕ). times y hand ≡ 0) same not_yet in omega (arith, none)) (λ other. once x))
                (λ c x known. times_cons_other x e hand (differ c x (inr known)) ∙ apart c x known)
                more,
          ),
        ),
      )
