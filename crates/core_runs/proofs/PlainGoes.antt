-- The turns of calls of a map that doesn't evict are runs of the core, one call after another.
use Rattle.std.proofs.Common.{◌≡◌, ◌≢◌, ℕ, suc, ◌+◌, ◌<◌, ◌≤◌, Bool, true, false, ◌&&◌, cond, eqb, ltb, List, [], ◌∷◌, ◌++◌, length, map, Option, None, Some, refl, ap, ◌∙◌, sym, subst, ⊎_elim, arith}
use Rattle.std.specs.Prelude.{IsTrue}
use Rattle.std.specs.List.{before_first, after_first}
use Rattle.std.proofs.lemmas.Bool.{cases_Bool, cond-true, cond-false, eq-eqb, ne_eqb, lt-ltb, true≢false}
use Rattle.std.proofs.lemmas.List.{append_assoc, map-append}
use Rattle.map_types.specs.declared.attr.Shape.{Shape}
use Rattle.map_types.specs.declared.kind.DomainId.{DomainId}
use Rattle.map_types.specs.declared.kind.DomainId.TheVariants.{Bucket, Freelist}
use Rattle.map_types.specs.declared.kind.Side.{Side}
use Rattle.map_types.specs.Kind.{is_lru}
use Rattle.map_types.specs.Shape.{HasBounds}
use Rattle.map_types.specs.Stored.{Stored}
use Rattle.map_types.specs.ElementLists.{put, one, IsIn, times, without}
use Rattle.map_types.proofs.RowLemmas.{by_test, times_append}
use Rattle.place_words.specs.declared.bucket_part.BucketPart.{BucketPart}
use Rattle.place_words.specs.declared.bucket_part.BucketPart.TheVariants.{Update}
use Rattle.place_words.specs.declared.bucket_part.Put.TheVariants as puts
use Rattle.place_words.specs.declared.free_part.FreePart.TheVariants.{Pushed}
use Rattle.place_words.specs.declared.history.Part.TheVariants as parts
use Rattle.place_words.specs.declared.owner.Owner.TheVariants as owners
use Rattle.place_words.specs.Bodies.{has_key, present, without_key, numbers}
use Rattle.place_words.specs.Buckets.{AllowsInBucket, bucket_after}
use Rattle.place_words.specs.Freelists.{AllowsOnFreelist}
use Rattle.place_words.specs.Histories.{Content, in_bucket, on_freelist, content_after, Allows}
use Rattle.place_words.specs.Locks.{is_lock, lock_number, lock_named, is_same_lock}
use Rattle.place_words.specs.Turns.{Turn, on_lock, on_freelist_of, after_turn, after_turns, AreAllowed}
use Rattle.place_words.proofs.LockLemmas.{named_by_number, same_lock, one_lock}
use Rattle.place_words.proofs.PlacedContents.{after_both}
use Rattle.place_words.proofs.Settled.{turned_here, turned_elsewhere}
use Rattle.place_words.proofs.Splits.{there, find_splits}
use Rattle.place_words.specs.declared.step.Lists.{Lists}
use Rattle.place_words.specs.Places.{has_row, lies_at}
use Rattle.place_words.specs.State.{State, rows}
use Rattle.place_words.specs.Steps.{with_row, without_row, with_free}
use Rattle.place_words.proofs.ElementLemmas.{at_put}
use Rattle.place_words.proofs.RowLemmas.{stands_where, bucket_is}
use Rattle.place_words.specs.Interleaving.{Drawn, is_inner, part_steps, seen_by, lists_in, interleaved, AreEnabled}
use Rattle.core_runs.proofs.Nests.{stamped, stamped_from, AreFrom, from_both, from_less, AreBeside, turn_alone, drawn, nest, HasBegun, begun_next, nest_goes}
use Rattle.core_runs.proofs.PlainRuns.{core_lists, bucket_lists, lists_turned, tied_alike, then_alike, quiet_alone, on_stack, on_bodies, freelist_there, with_hand}
use Rattle.core_runs.proofs.Tied.{IsTied, with_lists, held_first, lists_here, lists_else, under, take_tied, attach_tied, detach_tied, settle_tied, give_same}

-- From each state whose lists are what lies under the locks, the turns of a CPU's call are a run, whatever comes after them runs
-- from the states after them.
pub record Goes (shape : Shape) (cpu : ℕ) (contents : DomainId → Content) (Known : ℕ → ℕ → Type 0) (turns : List Turn) (Later : ℕ → ℕ → Type 0) : Type 0 where
  pub run : (s : State) (n call : ℕ) (later : List Drawn) → IsTied shape cpu [] (core_lists contents) Known s → AreFrom (n + length turns) later
      → ((t : State) → IsTied shape cpu [] (core_lists (after_turns shape cpu contents turns)) Later t → AreEnabled shape t (interleaved shape (after_turns shape cpu contents turns) [] later))
      → AreEnabled shape s (interleaved shape contents [] (stamped n cpu call turns ++ later))

pub stamped_both : (n cpu call : ℕ) (xs ys : List Turn) → stamped n cpu call (xs ++ ys) ≡ stamped n cpu call xs ++ stamped (n + length xs) cpu call ys
stamped_both n cpu call [] ys = ap (λ (k : ℕ). stamped k cpu call ys) (omega arith)
stamped_both n cpu call (x ∷ xs) ys = ap (λ (l : List Drawn). drawn n cpu call x ∷ l) (stamped_both (suc n) cpu call xs ys ∙ ap (λ (k : ℕ). stamped (suc n) cpu call xs ++ stamped k cpu call ys) (omega arith))

pub length_both : (xs ys : List Turn) → length (xs ++ ys) ≡ length xs + length ys
length_both [] ys = omega arith
length_both (x ∷ xs) ys = omega (arith, length_both xs ys)

module _ {shape : Shape} {cpu : ℕ} where
  pub goes_none : (contents : DomainId → Content) (Known : ℕ → ℕ → Type 0) → Goes shape cpu contents Known [] Known
  goes_none contents Known = record { run = λ s n call later tied from more. more s tied }

  pub goes_both : (contents : DomainId → Content) (Known Between Later : ℕ → ℕ → Type 0) (xs ys : List Turn) → Goes shape cpu contents Known xs Between → Goes shape cpu (after_turns shape cpu contents xs) Between ys Later
      → Goes shape cpu contents Known (xs ++ ys) Later
  goes_both contents Known Between Later xs ys first second = record {
    run = λ s n call later tied from more.
        let then : after_turns shape cpu contents (xs ++ ys) ≡ after_turns shape cpu (after_turns shape cpu contents xs) ys = after_both shape cpu contents xs ys in
        let apart : stamped n cpu call (xs ++ ys) ++ later ≡ stamped n cpu call xs ++ (stamped (n + length xs) cpu call ys ++ later) =
        ap (λ (l : List Drawn). l ++ later) (stamped_both n cpu call xs ys) ∙ append_assoc (stamped n cpu call xs) (stamped (n + length xs) cpu call ys) later in
        let long = length_both xs ys in
        subst (λ (l : List Drawn). AreEnabled shape s (interleaved shape contents [] l)) (sym apart)
        (first.run s n call (stamped (n + length xs) cpu call ys ++ later) tied
        (from_both (n + length xs) (stamped (n + length xs) cpu call ys) later (stamped_from (n + length xs) cpu call ys) (from_less (n + length xs) (n + length (xs ++ ys)) later (omega (arith, long)) from))
        (λ t held. second.run t (n + length xs) call later held (from_less (n + length xs + length ys) (n + length (xs ++ ys)) later (omega (arith, long)) from)
        (subst (λ (c : DomainId → Content). (u : State) → IsTied shape cpu [] (core_lists c) Later u → AreEnabled shape u (interleaved shape c [] later)) then more)));
  }

  module _ (bounds : HasBounds shape) (within : cpu < shape.cpus) where
    -- a turn that moves no element
    pub goes_quiet : (contents : DomainId → Content) (Known : ℕ → ℕ → Type 0) (turn : Turn) → is_inner turn.part ≡ false → IsTrue (is_lock shape turn.lock)
        → part_steps shape cpu turn.lock None turn.part ≡ [] → seen_by turn.part ≡ [] → lists_in (contents turn.lock) ≡ lists_in (after_turn shape cpu contents turn turn.lock)
        → Goes shape cpu contents Known (turn ∷ []) Known
    goes_quiet contents Known turn outer is quiet blind same = record {
      run = λ s n call later tied from more. quiet_alone bounds within contents tied n call turn later outer is (from_less (suc n) (n + 1) later (omega arith) from) quiet blind same more;
    }

    -- one of a bucket that keeps its elements
    pub goes_keeping : (contents : DomainId → Content) (Known : ℕ → ℕ → Type 0) (bucket : ℕ) (part : BucketPart) → bucket < shape.buckets → is_inner (parts.Bucket part) ≡ false
        → part_steps shape cpu (Bucket bucket) None (parts.Bucket part) ≡ [] → seen_by (parts.Bucket part) ≡ [] → Allows shape cpu (parts.Bucket part) (contents (Bucket bucket))
        → ((bodies : List Stored) → AllowsInBucket shape cpu part bodies → numbers (bucket_after shape cpu part bodies) ≡ numbers bodies)
        → Goes shape cpu contents Known (on_lock (Bucket bucket) (parts.Bucket part) ∷ []) Known
    goes_keeping contents Known bucket part there outer quiet blind allowed keeps =
        let turn : Turn = on_lock (Bucket bucket) (parts.Bucket part) in
        let bodies = on_bodies (contents (Bucket bucket)) (AllowsInBucket shape cpu part) allowed in
        goes_quiet contents Known turn outer (lt-ltb bucket shape.buckets there) quiet blind
        (◌∙◌ {b = bucket_lists (numbers bodies.bodies)} (ap lists_in bodies.lies)
        (◌∙◌ {b = bucket_lists (numbers (bucket_after shape cpu part bodies.bodies))} (ap bucket_lists (sym (keeps bodies.bodies bodies.fact))) (sym (lists_turned shape cpu contents turn (in_bucket bodies.bodies) bodies.lies))))

-- Lists without an element that stands in them once

pub without_middle : (e : ℕ) (xs ys : List ℕ) → times e xs ≡ 0 → without e (xs ++ e ∷ ys) ≡ xs ++ ys
without_middle e [] ys none = cond-true (eqb e e) ys (e ∷ without e ys) (eq-eqb e e refl)
without_middle e (x ∷ xs) ys none =
    by_test x e (λ b. cond b (suc (times e xs)) (times e xs) ≡ 0 → cond b (xs ++ e ∷ ys) (x ∷ without e (xs ++ e ∷ ys)) ≡ x ∷ (xs ++ ys))
    (λ same some. absurd (omega (arith, some)))
    (λ other rest. ap (λ (l : List ℕ). x ∷ l) (without_middle e xs ys rest)) none

pub numbers_without : (key : List ℕ) (bodies : List Stored) (body : Stored) → present key bodies ≡ Some body → times body.element (numbers bodies) ≤ 1 → without body.element (numbers bodies) ≡ numbers (without_key key bodies)
numbers_without key bodies body found once =
    let front : List Stored = before_first (has_key key) bodies in
    let back : List Stored = after_first (has_key key) bodies in
    let cut : numbers bodies ≡ numbers front ++ body.element ∷ numbers back = ap numbers (find_splits (has_key key) bodies body found) ∙ map-append (λ (b : Stored). b.element) front (body ∷ back) in
    let twice : times body.element (numbers bodies) ≡ times body.element (numbers front) + times body.element (body.element ∷ numbers back) = ap (times body.element) cut ∙ times_append body.element (numbers front) (body.element ∷ numbers back) in
    let here : times body.element (body.element ∷ numbers back) ≡ suc (times body.element (numbers back)) = cond-true (eqb body.element body.element) _ _ (eq-eqb body.element body.element refl) in
    ap (without body.element) cut ∙ without_middle body.element (numbers front) (numbers back) (omega (arith, once, twice, here)) ∙ sym (map-append (λ (b : Stored). b.element) front back)

pub present_in_numbers : (key : List ℕ) (bodies : List Stored) (body : Stored) → present key bodies ≡ Some body → IsIn body.element (numbers bodies)
present_in_numbers key bodies body found =
    let front : List Stored = before_first (has_key key) bodies in
    let back : List Stored = after_first (has_key key) bodies in
    let cut : numbers bodies ≡ numbers front ++ body.element ∷ numbers back = ap numbers (find_splits (has_key key) bodies body found) ∙ map-append (λ (b : Stored). b.element) front (body ∷ back) in
    let twice : times body.element (numbers bodies) ≡ times body.element (numbers front) + times body.element (body.element ∷ numbers back) = ap (times body.element) cut ∙ times_append body.element (numbers front) (body.element ∷ numbers back) in
    let here : times body.element (body.element ∷ numbers back) ≡ suc (times body.element (numbers back)) = cond-true (eqb body.element body.element) _ _ (eq-eqb body.element body.element refl) in
    omega (arith, twice, here)

pub one_at_most : (b : Bool) → one b ≤ 1
one_at_most true = omega arith
one_at_most false = omega arith

module _ {shape : Shape} (bounds : HasBounds shape) {cpu : ℕ} (within : cpu < shape.cpus) {held : List DomainId} {lists : DomainId → Lists} {Known : ℕ → ℕ → Type 0} {s : State} (tied : IsTied shape cpu held lists Known s) where
  -- an element in a bucket stands there once, and the bucket owns it
  pub bucket_once : (bucket e : ℕ) → IsTrue (is_lock shape (Bucket bucket)) → times e (lists (Bucket bucket)).first ≤ 1
  bucket_once bucket e is =
      let at = under bounds within tied (Bucket bucket) is in
      let number : ℕ = lock_number shape (Bucket bucket) in
      let sum : times e (rows (s.lists number)) ≡ times e (s.lists number).first + times e (s.lists number).second = times_append e (s.lists number).first (s.lists number).second in
      let same : times e (s.lists number).first ≡ times e (lists (Bucket bucket)).first = ap (λ (l : Lists). times e l.first) at in
      omega (arith, sum, same, tied.placed.placed.rows number e, one_at_most (ltb e shape.elements && has_row (is_lru shape.kind) (lock_named shape number) (s.owner e) (lies_at number (tied.placed.place e))))

  pub bucket_owns : (bucket e : ℕ) → IsTrue (is_lock shape (Bucket bucket)) → IsIn e (lists (Bucket bucket)).first → s.owner e ≡ owners.Bucket bucket
  bucket_owns bucket e is inside =
      let at = under bounds within tied (Bucket bucket) is in
      let number : ℕ = lock_number shape (Bucket bucket) in
      let sum : times e (rows (s.lists number)) ≡ times e (s.lists number).first + times e (s.lists number).second = times_append e (s.lists number).first (s.lists number).second in
      let same : times e (s.lists number).first ≡ times e (lists (Bucket bucket)).first = ap (λ (l : Lists). times e l.first) at in
      let row = stands_where shape.elements e (times e (rows (s.lists number))) (has_row (is_lru shape.kind) (lock_named shape number) (s.owner e) (lies_at number (tied.placed.place e))) (tied.placed.placed.rows number e) (omega (arith, sum, same, inside)) in
      bucket_is bucket (s.owner e) (subst (λ (lock : DomainId). has_row (is_lru shape.kind) lock (s.owner e) (lies_at number (tied.placed.place e)) ≡ true) (named_by_number shape (Bucket bucket) is) row.stands)

-- each CPU's spare is in its hand
abbrev pub AreSpares : (ℕ → Option ℕ) → ℕ → ℕ → Type 0
AreSpares spares c x = spares c ≡ Some x

module _ {shape : Shape} (bounds : HasBounds shape) (plain : is_lru shape.kind ≡ false) {cpu : ℕ} (within : cpu < shape.cpus) where
  -- An update that replaces an element by the CPU's spare.
  pub goes_replacing : (contents : DomainId → Content) (spares : ℕ → Option ℕ) (bucket : ℕ) (side : Side) (flags : ℕ) (key value : List ℕ) (offer : Option ℕ) (new old : ℕ) → bucket < shape.buckets → spares cpu ≡ Some new
      → Allows shape cpu (parts.Bucket (Update side flags key value offer (puts.Replaced new old))) (contents (Bucket bucket))
      → Goes shape cpu contents (AreSpares spares) (on_lock (Bucket bucket) (parts.Bucket (Update side flags key value offer (puts.Replaced new old))) ∷ []) (AreSpares (put spares cpu (Some old)))
  unfolding AreEnabled bucket_after AllowsInBucket
  goes_replacing contents spares bucket side flags key value offer new old within_buckets mine allowed = record {
    run = λ s n call later tied from more.
        let part : BucketPart = Update side flags key value offer (puts.Replaced new old) in
        let turn : Turn = on_lock (Bucket bucket) (parts.Bucket part) in
        let now : DomainId → Content = after_turn shape cpu contents turn in
        let is : is_lock shape (Bucket bucket) ≡ true = lt-ltb bucket shape.buckets within_buckets in
        let bodies = on_bodies (contents (Bucket bucket)) (AllowsInBucket shape cpu part) allowed in
        let found = there (present key bodies.bodies) _ bodies.fact in
        let body_is : found.it.element ≡ old = found.fact.0 in
        let lies : lists_in (contents (Bucket bucket)) ≡ lists_in (in_bucket bodies.bodies) = ap lists_in bodies.lies in
        let here : IsIn old (lists_in (contents (Bucket bucket))).first = subst (λ (l : Lists). IsIn old l.first) (sym lies) (subst (λ (e : ℕ). IsIn e (numbers bodies.bodies)) body_is (present_in_numbers key bodies.bodies found.it found.is)) in
        let owned : s.owner old ≡ owners.Bucket bucket = bucket_owns bounds within tied bucket old is here in
        let differ : (c x : ℕ) → spares c ≡ Some x → x ≢ old = λ c x hand same. (let owner : owners.Bucket bucket ≡ owners.Hand c = sym owned ∙ ap s.owner (sym same) ∙ (tied.known c x hand).1 in absurd cc) in
        let once : times found.it.element (numbers bodies.bodies) ≤ 1 = subst (λ (l : Lists). times found.it.element l.first ≤ 1) lies (bucket_once bounds within tied bucket found.it.element is) in
        let took = take_tied bounds within tied (Bucket bucket) is tt in
        let first : Lists = with_row (Bucket bucket) new (lists_in (contents (Bucket bucket))) in
        let attached = attach_tied bounds within took.tied bucket new first (λ c x. (spares c ≡ Some x) × (x ≢ new)) is (held_first cpu [] (Bucket bucket)) mine (λ lru. absurd (true≢false (sym lru ∙ plain))) refl (λ c x hand. hand) in
        let second : Lists = without_row old first in
        let now_first : with_lists (Bucket bucket) first (core_lists contents) (Bucket bucket) ≡ first = lists_here (Bucket bucket) first (core_lists contents) in
        let apart : new ≢ old = differ cpu new mine in
        let inside : IsIn old first.first = subst (λ (k : ℕ). 0 < k) (sym (cond-false (eqb new old) (suc (times old (lists_in (contents (Bucket bucket))).first)) (times old (lists_in (contents (Bucket bucket))).first) (ne_eqb new old apart))) here in
        let detached = detach_tied bounds within attached.tied bucket old second (AreSpares (put spares cpu (Some old))) is (held_first cpu [] (Bucket bucket)) (subst (λ (l : Lists). IsIn old l.first) (sym now_first) inside) (ap (without_row old) now_first)
        (λ c x. at_put spares cpu (Some old) (λ i o. o ≡ Some x → (x ≡ old → i ≡ cpu) × (x ≢ old → (spares i ≡ Some x) × (x ≢ new))) c
        (λ is_old. ((λ same. refl), (λ no. absurd (no (sym (Rattle.std.proofs.lemmas.Option.same_Some old x is_old))))))
        (λ other hand. ((λ same. absurd (differ c x hand same)), (λ no. (hand, λ same. (let owner : owners.Hand cpu ≡ owners.Hand c = sym (tied.known cpu new mine).1 ∙ ap s.owner (sym same) ∙ (tied.known c x hand).1 in absurd (other cc))))))) in
        let numbers_are : without old (new ∷ numbers bodies.bodies) ≡ new ∷ numbers (without_key key bodies.bodies) =
        cond-false (eqb new old) (numbers bodies.bodies) (new ∷ without old (numbers bodies.bodies)) (ne_eqb new old apart)
        ∙ ap (λ (l : List ℕ). new ∷ l) (ap (λ (e : ℕ). without e (numbers bodies.bodies)) (sym body_is) ∙ numbers_without key bodies.bodies found.it found.is once) in
        let after : second ≡ lists_in (now (Bucket bucket)) =
        ◌∙◌ {b = bucket_lists (without old (new ∷ numbers bodies.bodies))} (ap (λ (l : Lists). without_row old (with_row (Bucket bucket) new l)) lies)
        (◌∙◌ {b = bucket_lists (new ∷ numbers (without_key key bodies.bodies))} (ap bucket_lists numbers_are)
        (sym (lists_turned shape cpu contents turn (in_bucket bodies.bodies) bodies.lies))) in
        let all : DomainId → Lists = with_lists (Bucket bucket) second (with_lists (Bucket bucket) first (core_lists contents)) in
        let gave = give_same bounds within (Bucket bucket) detached.tied (lists_in (now (Bucket bucket))) is tt (lists_here (Bucket bucket) second (with_lists (Bucket bucket) first (core_lists contents)) ∙ after) in
        subst (AreEnabled shape s) (sym (turn_alone shape contents (drawn n cpu call turn) later refl (from_less (suc n) (n + 1) later (omega arith) from))) (
          took.enabled,
          (
            attached.enabled,
            (
              detached.enabled,
              (
                gave.enabled,
                more _
                    (tied_alike (then_alike shape cpu contents turn all (λ other away. lists_else (Bucket bucket) other second (with_lists (Bucket bucket) first (core_lists contents)) away ∙ lists_else (Bucket bucket) other first (core_lists contents) away)) gave.tied),
              ),
            ),
          ),
        );
  }

-- Elements that a bucket's turn takes out are pushed inside it

abbrev pub pushing : ℕ → List ℕ → List Turn
pushing cpu es = map (λ e. on_freelist_of cpu (Pushed e)) es

-- a list without these, one after another, where each is in it
abbrev pub left_of : List ℕ → List ℕ → List ℕ
left_of [] xs = xs
left_of (e ∷ es) xs = left_of es (without e xs)

abbrev pub AreThere : List ℕ → List ℕ → Type 0
AreThere [] xs = Unit {0}
AreThere (e ∷ es) xs = IsIn e xs × AreThere es (without e xs)

pub pushing_beside : (cpu : ℕ) (es : List ℕ) → AreBeside 4 (pushing cpu es)
pushing_beside cpu [] = tt
pushing_beside cpu (e ∷ es) = ((refl, refl), pushing_beside cpu es)

module _ {shape : Shape} (bounds : HasBounds shape) (plain : is_lru shape.kind ≡ false) {cpu : ℕ} (within : cpu < shape.cpus) (call bucket : ℕ) (there_is : bucket < shape.buckets) (part : BucketPart)
    (outer : is_inner (parts.Bucket part) ≡ false) (last : ℕ) (later : List Drawn) where
  pub pushing_runs : {Known : ℕ → ℕ → Type 0} (es xs : List ℕ) {s : State} (contents : DomainId → Content) → IsTied shape cpu (Bucket bucket ∷ []) (with_lists (Bucket bucket) (bucket_lists xs) (core_lists contents)) Known s
      → (begun : List ℕ) (n : ℕ) → last ≡ n + length es → HasBegun shape cpu call (on_lock (Bucket bucket) (parts.Bucket part)) outer begun n last
      → AreThere es xs → AreAllowed shape cpu contents (pushing cpu es)
      → ((t : State) (began : List ℕ) → HasBegun shape cpu call (on_lock (Bucket bucket) (parts.Bucket part)) outer began last last
      → IsTied shape cpu (Bucket bucket ∷ []) (with_lists (Bucket bucket) (bucket_lists (left_of es xs)) (core_lists (after_turns shape cpu contents (pushing cpu es)))) Known t
      → AreEnabled shape t (interleaved shape (after_turns shape cpu contents (pushing cpu es)) began (drawn last cpu call (on_lock (Bucket bucket) (parts.Bucket part)) ∷ later)))
      → AreEnabled shape s (interleaved shape contents begun (nest shape cpu call (on_lock (Bucket bucket) (parts.Bucket part)) outer last n (pushing cpu es) later))
  unfolding AreEnabled
  pushing_runs [] xs {s = s} contents tied begun n is has all allowed more = more s begun (subst (λ (k : ℕ). HasBegun shape cpu call (on_lock (Bucket bucket) (parts.Bucket part)) outer begun k last) (omega (arith, is)) has) tied
  pushing_runs {Known = Known} (e ∷ es) xs {s = s} contents tied begun n is has all allowed more =
      let lock : DomainId = Freelist cpu in
      let at : DomainId = Bucket bucket in
      let turn : Turn = on_freelist_of cpu (Pushed e) in
      let now : DomainId → Content = after_turn shape cpu contents turn in
      let stack = on_stack (contents lock) (AllowsOnFreelist (Pushed e)) allowed.0 in
      let is_there : is_lock shape lock ≡ true = freelist_there shape plain cpu within in
      let is_bucket : is_lock shape at ≡ true = lt-ltb bucket shape.buckets there_is in
      let before : DomainId → Lists = with_lists at (bucket_lists xs) (core_lists contents) in
      let first : before at ≡ bucket_lists xs = lists_here at (bucket_lists xs) (core_lists contents) in
      let inside : IsIn e (before at).first = subst (λ (l : Lists). IsIn e l.first) (sym first) all.0 in
      let owned : s.owner e ≡ owners.Bucket bucket = bucket_owns bounds within tied bucket e is_bucket inside in
      let away : (c x : ℕ) → Known c x → x ≢ e = λ c x hand same. (let owner : owners.Bucket bucket ≡ owners.Hand c = sym owned ∙ ap s.owner (sym same) ∙ (tied.known c x hand).1 in absurd cc) in
      let took = take_tied bounds within tied lock is_there (omega arith, tt) in
      let detached = detach_tied bounds within took.tied bucket e (bucket_lists (without e xs)) (with_hand cpu e Known) is_bucket (held_second cpu) inside (ap (without_row e) first) (λ c x hand. hand) in
      let between : DomainId → Lists = with_lists at (bucket_lists (without e xs)) before in
      let free : between lock ≡ lists_in (on_freelist stack.stack) = lists_else at lock (bucket_lists (without e xs)) before (λ same. absurd cc) ∙ lists_else at lock (bucket_lists xs) (core_lists contents) (λ same. absurd cc) ∙ ap lists_in stack.lies in
      let settled = settle_tied bounds within detached.tied lock e (lists_in (on_freelist (e ∷ stack.stack))) Known is_there refl (held_first cpu (at ∷ []) lock) ((λ same. refl), (λ other. absurd (other refl))) (λ lru. absurd (true≢false (sym lru ∙ plain)))
      (ap (λ (l : Lists). with_free e (without_row e l)) free) (λ c x hand. (((λ same. absurd (away c x hand same)), (λ other. hand)), away c x hand)) in
      let after : lists_in (on_freelist (e ∷ stack.stack)) ≡ lists_in (now lock) = sym (ap lists_in (turned_here shape cpu contents turn lock (same_lock lock) ∙ ap (content_after shape cpu (parts.Free (Pushed e))) stack.lies)) in
      let gave = give_same bounds within lock settled.tied (lists_in (now lock)) is_there (omega arith, tt) (lists_here lock (lists_in (on_freelist (e ∷ stack.stack))) between ∙ after) in
      subst (AreEnabled shape s) (sym (nest_goes shape cpu call (on_lock (Bucket bucket) (parts.Bucket part)) outer contents begun last n 4 turn (pushing cpu es) later (omega (arith, is)) (pushing_beside cpu es) refl refl refl has)) (
        took.enabled,
        (
          detached.enabled,
          (
            settled.enabled,
            (
              gave.enabled,
              pushing_runs es (without e xs) now (tied_alike (λ other. alike other (lists_in (now lock)) (lists_in (on_freelist (e ∷ stack.stack))) (bucket_lists (without e xs)) (bucket_lists xs) (core_lists contents) (core_lists now)
                  refl (λ apart. ap lists_in (sym (turned_elsewhere shape cpu contents turn other apart)))) gave.tied)
                  (n ∷ last ∷ begun) (suc n) (omega (arith, is)) (begun_next shape cpu call (on_lock (Bucket bucket) (parts.Bucket part)) outer begun n last (omega (arith, is)) has) all.1 allowed.1 more,
            ),
          ),
        ),
      )
    where
      held_second : (cpu : ℕ) → Rattle.core_runs.proofs.Tied.holder_of cpu (Freelist cpu ∷ Bucket bucket ∷ []) (Bucket bucket) ≡ Some cpu
      held_second cpu = held_first cpu [] (Bucket bucket)

      alike : (other : DomainId) (a b c d : Lists) (was now : DomainId → Lists) → a ≡ now (Freelist cpu) → (is_same_lock (Freelist cpu) other ≡ false → was other ≡ now other)
          → with_lists (Freelist cpu) a (with_lists (Freelist cpu) b (with_lists (Bucket bucket) c (with_lists (Bucket bucket) d was))) other ≡ with_lists (Bucket bucket) c now other
      alike other a b c d was now here elsewhere =
          ⊎_elim
          (λ (same : is_same_lock (Freelist cpu) other ≡ true).
          subst (λ (l : DomainId). with_lists (Freelist cpu) a (with_lists (Freelist cpu) b (with_lists (Bucket bucket) c (with_lists (Bucket bucket) d was))) l ≡ with_lists (Bucket bucket) c now l) (one_lock (Freelist cpu) other same)
          (lists_here (Freelist cpu) a (with_lists (Freelist cpu) b (with_lists (Bucket bucket) c (with_lists (Bucket bucket) d was))) ∙ here))
          (λ (apart : is_same_lock (Freelist cpu) other ≡ false).
          cond-false (is_same_lock (Freelist cpu) other) a (with_lists (Freelist cpu) b (with_lists (Bucket bucket) c (with_lists (Bucket bucket) d was)) other) apart ∙ cond-false (is_same_lock (Freelist cpu) other) b (with_lists (Bucket bucket) c (with_lists (Bucket bucket) d was) other) apart
          ∙ by_bucket (is_same_lock (Bucket bucket) other) (elsewhere apart))
          (cases_Bool (is_same_lock (Freelist cpu) other))
        where
          by_bucket : (x : Bool) → was other ≡ now other → cond x c (cond x d (was other)) ≡ cond x c (now other)
          by_bucket true same = refl
          by_bucket false same = same
