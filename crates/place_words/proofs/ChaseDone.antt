-- The probes of an eviction in serial order: each finds its element in the bucket of its stored hash and takes it out, and
-- nothing else changes.
use Rattle.std.proofs.Common.{◌≡◌, ◌≢◌, ℕ, zero, suc, ◌+◌, ◌≤◌, Bool, true, false, cond, ◌&&◌, eqb, List, [], ◌∷◌, ◌++◌, map, refl, ap, ◌∙◌, sym, subst, ⊎_elim, arith}
use Rattle.std.specs.Prelude.{Option, Some, IsTrue, IsSome, find, option_map, option_to_list}
use Rattle.std.specs.List.{flat_map}
use Rattle.std.proofs.lemmas.Bool.{both_ways, cases_eq, eq-eqb}
use Rattle.map_types.specs.declared.attr.Shape.{Shape}
use Rattle.map_types.specs.declared.kind.DomainId.{DomainId}
use Rattle.map_types.specs.declared.kind.DomainId.TheVariants.{Bucket}
use Rattle.map_types.specs.declared.row.Row.{Row}
use Rattle.map_types.specs.ElementLists.{times, one}
use Rattle.map_types.specs.Stored.{Stored}
use Rattle.map_types.proofs.RowLemmas.{by_test}
use Rattle.key_hash.specs.Bucket.{bucket_number}
use Rattle.place_words.specs.declared.bucket_part.BucketPart.TheVariants.{Evict}
use Rattle.place_words.specs.declared.bucket_part.Seen.{Seen}
use Rattle.place_words.specs.declared.bucket_part.Seen.TheVariants.{Removed, Held}
use Rattle.place_words.specs.declared.history.Part.TheVariants as parts
use Rattle.place_words.specs.declared.visits.Try.{Try}
use Rattle.place_words.specs.Bodies.{numbers, body_of}
use Rattle.place_words.specs.Buckets.{AllowsInBucket, bucket_after}
use Rattle.place_words.specs.Histories.{Content, Allows}
use Rattle.place_words.specs.Locks.{is_same_lock}
use Rattle.place_words.specs.RowMoves.{rows_of}
use Rattle.place_words.specs.Shrinking.{is_removed}
use Rattle.place_words.specs.Takings.{stored_hash, evicts, Chase}
use Rattle.place_words.specs.Turns.{Turn, on_lock, after_turn, after_turns, AreAllowed}
use Rattle.place_words.proofs.BucketLaws.{bucket_counts, times_more}
use Rattle.place_words.proofs.ListSums.{list_locks, sum_over}
use Rattle.place_words.proofs.RowCounts.{any, rows_any, rows_least}
use Rattle.place_words.proofs.Settled.{bodies_at, is_of, IsFit, one_bucket, bucket_turn_fit, bodies_here, bodies_elsewhere, lists_stay, turned_elsewhere}

-- the elements of probes, and that each probe removed its element
abbrev pub names_of : List Try → List ℕ
names_of probes = map (λ (probe : Try). probe.element) probes

abbrev pub AreRemoved : List Try → Type 0
AreRemoved [] = Unit {0}
AreRemoved (probe ∷ probes) = IsTrue (is_removed probe.probed) × AreRemoved probes

-- the turns of probes, among these rows
abbrev pub chasing : Shape → List Row → List Try → List Turn
chasing shape rows probes = flat_map (λ (probe : Try). option_to_list (option_map (evicts shape probe) (stored_hash probe.element rows))) probes

-- the one row of an element tells its hash
abbrev pub Told : Option Row → ((ℕ → Bool) → ℕ) → Type 0
Told found count = (hash : ℕ) × (option_map (λ (row : Row). row.hash) found ≡ Some hash) × ((of : ℕ → Bool) → count of ≡ one (of hash))

pub one_row : (e : ℕ) (rows : List Row) → rows_of e any rows ≡ 1 → Told (find (λ (row : Row). eqb row.element e) rows) (λ of. rows_of e of rows)
one_row e [] is = absurd (omega (arith, is))
one_row e (row ∷ rows) is =
    let n : ℕ = rows_of e any rows in
    by_test row.element e (λ b. cond (b && true) (suc n) n ≡ 1 → Told (cond b (Some row) (find (λ (r : Row). eqb r.element e) rows)) (λ of. cond (b && of row.hash) (suc (rows_of e of rows)) (rows_of e of rows)))
    (λ same once. (row.hash, refl, λ of. here of (of row.hash) (omega (arith, once, rows_any e rows, rows_least e of rows))))
    (λ other once. one_row e rows once)
    is
  where
    here : (of : ℕ → Bool) (b : Bool) → rows_of e of rows ≡ 0 → cond b (suc (rows_of e of rows)) (rows_of e of rows) ≡ one b
    here of true none = omega (arith, none)
    here of false none = none

-- an element that lies in a bucket is found there
pub found_there : (e : ℕ) (bodies : List Stored) → 1 ≤ times e (numbers bodies) → IsSome (body_of e bodies)
found_there e [] some = absurd (omega (arith, some))
found_there e (body ∷ bodies) some =
    by_test body.element e (λ b. 1 ≤ cond b (suc (times e (numbers bodies))) (times e (numbers bodies)) → IsSome (cond b (Some body) (body_of e bodies)))
    (λ same is. refl)
    (λ other is. found_there e bodies is)
    some

pub when_none : (b : Bool) (n : ℕ) → n ≡ 0 → cond b n 0 ≡ 0
when_none true n none = none
when_none false n none = refl

when_one : (b : Bool) (n : ℕ) → n ≡ 1 → cond b n 0 ≡ one b
when_one true n is = is
when_one false n is = refl

-- one element in a list of one
pub times_one : (e : ℕ) → times e (e ∷ []) ≡ 1
times_one e = by_test e e (λ b. cond b 1 0 ≡ suc 0) (λ same. refl) (λ other. absurd (other refl))

pub times_other : (e x : ℕ) → x ≢ e → times e (x ∷ []) ≡ 0
times_other e x apart = by_test x e (λ b. cond b (suc zero) zero ≡ zero) (λ same. absurd (apart same)) (λ other. refl)

module _ (shape : Shape) (cpu : ℕ) (rows : List Row) where
  -- what turns of probes are, and what they leave
  pub record IsChasing (contents : DomainId → Content) (probes : List Try) (turns : List Turn) : Type 0 where
    pub allowed : AreAllowed shape cpu contents turns
    pub chase : Chase shape rows probes turns
    pub fit : (lock : DomainId) → IsFit shape lock (after_turns shape cpu contents turns lock)
    pub elsewhere : (lock : DomainId) → ((bucket : ℕ) → is_same_lock (Bucket bucket) lock ≡ false) → after_turns shape cpu contents turns lock ≡ contents lock
    pub lists : (f : Content → ℕ) → sum_over f (after_turns shape cpu contents turns) (list_locks shape) ≡ sum_over f contents (list_locks shape)
    pub kept : (e bucket : ℕ) → times e (names_of probes) ≡ 0 → times e (numbers (bodies_at (after_turns shape cpu contents turns) bucket)) ≡ times e (numbers (bodies_at contents bucket))
    pub gone : (e bucket : ℕ) → 1 ≤ times e (names_of probes)
        → times e (numbers (bodies_at (after_turns shape cpu contents turns) bucket)) + rows_of e (is_of shape bucket) rows ≡ times e (numbers (bodies_at contents bucket))

  -- the probed elements are listed there, and each lies in the bucket of its row
  pub record CanChase (contents : DomainId → Content) (probes : List Try) : Type 0 where
    pub fits : (lock : DomainId) → IsFit shape lock (contents lock)
    pub removed : AreRemoved probes
    pub few : (e : ℕ) → times e (names_of probes) ≤ rows_of e any rows
    pub there : (e bucket : ℕ) → 1 ≤ times e (names_of probes) → rows_of e (is_of shape bucket) rows ≤ times e (numbers (bodies_at contents bucket))

  module _ (contents : DomainId → Content) (x hash : ℕ) where
    abbrev turn : Turn
    turn = on_lock (Bucket (bucket_number hash shape.buckets)) (parts.Bucket (Evict x Removed))

    abbrev left : DomainId → Content
    left = after_turn shape cpu contents turn

    may_evict : 1 ≤ times x (numbers (bodies_at contents (bucket_number hash shape.buckets))) → AllowsInBucket shape cpu (Evict x Removed) (bodies_at contents (bucket_number hash shape.buckets))
    unfolding AllowsInBucket
    may_evict some = found_there x (bodies_at contents (bucket_number hash shape.buckets)) some

    pub evicted : ((lock : DomainId) → IsFit shape lock (contents lock)) → 1 ≤ times x (numbers (bodies_at contents (bucket_number hash shape.buckets))) → (e bucket : ℕ)
        → times e (numbers (bodies_at left bucket)) + cond (eqb (bucket_number hash shape.buckets) bucket) (times e (x ∷ [])) 0 ≡ times e (numbers (bodies_at contents bucket))
    evicted fits some e bucket =
        let home : ℕ = bucket_number hash shape.buckets in
        by_test home bucket (λ b. times e (numbers (bodies_at left bucket)) + cond b (times e (x ∷ [])) 0 ≡ times e (numbers (bodies_at contents bucket)))
        (λ same.
        let after : times e (numbers (bodies_at left bucket)) ≡ times e (numbers (bucket_after shape cpu (Evict x Removed) (bodies_at contents bucket))) =
        ap (λ (bodies : List Stored). times e (numbers bodies)) (bodies_here shape cpu contents home (Evict x Removed) (fits (Bucket home)) bucket same) in
        let counts = bucket_counts shape cpu (bodies_at contents bucket) e (Evict x Removed) (subst (λ b. AllowsInBucket shape cpu (Evict x Removed) (bodies_at contents b)) same (may_evict some)) in
        omega (arith, after, counts))
        (λ apart.
        let after : times e (numbers (bodies_at left bucket)) ≡ times e (numbers (bodies_at contents bucket)) =
        ap (λ (bodies : List Stored). times e (numbers bodies)) (bodies_elsewhere shape cpu contents home (Evict x Removed) bucket apart) in
        omega (arith, after))

    chase_one : (probes : List Try) → ((e : ℕ) → rows_of e any rows ≤ 1) → CanChase contents ((record { element = x; probed = Removed }) ∷ probes)
        → stored_hash x rows ≡ Some hash → ((of : ℕ → Bool) → rows_of x of rows ≡ one (of hash)) → (CanChase left probes → IsChasing left probes (chasing shape rows probes))
        → IsChasing contents ((record { element = x; probed = Removed }) ∷ probes) (turn ∷ chasing shape rows probes)
    chase_one probes once can is told rest =
        let home : ℕ = bucket_number hash shape.buckets in
        let named = λ (e : ℕ). times_more e x (names_of probes) in
        let here : rows_of x (is_of shape home) rows ≡ 1 = told (is_of shape home) ∙ ap one (eq-eqb home home refl) in
        let some : 1 ≤ times x (numbers (bodies_at contents home)) = omega (arith, here, can.there x home (omega (arith, named x, times_one x))) in
        let counts = evicted can.fits some in
        let later : IsChasing left probes (chasing shape rows probes) = rest (record {
          fits = bucket_turn_fit shape cpu contents home (Evict x Removed) can.fits;
          removed = can.removed.1;
          few = λ e. omega (arith, named e, can.few e);
          there = λ e bucket among.
              let alone : times e (x ∷ []) ≡ 0 = omega (arith, among, named e, can.few e, once e) in
              omega (arith, counts e bucket, when_none (eqb home bucket) (times e (x ∷ [])) alone, can.there e bucket (omega (arith, among, named e)));
        }) in
        record {
          allowed = (subst (Allows shape cpu (parts.Bucket (Evict x Removed))) (sym (one_bucket (contents (Bucket home)) (can.fits (Bucket home)))) (may_evict some), later.allowed);
          chase = (ap (option_map (evicts shape (record { element = x; probed = Removed }))) is, later.chase);
          fit = later.fit;
          elsewhere = λ lock apart. later.elsewhere lock apart ∙ turned_elsewhere shape cpu contents turn lock (apart home);
          lists = λ f. later.lists f ∙ lists_stay shape cpu contents home (Evict x Removed) f;
          kept = λ e bucket none.
              let alone : times e (x ∷ []) ≡ 0 = omega (arith, none, named e) in
              omega (arith, later.kept e bucket (omega (arith, none, named e)), counts e bucket, when_none (eqb home bucket) (times e (x ∷ [])) alone);
          gone = λ e bucket among. ⊎_elim
              (λ (same : x ≡ e).
              let one_here : times e (x ∷ []) ≡ 1 = subst (λ y. times y (x ∷ []) ≡ 1) same (times_one x) in
              let row_here : rows_of e (is_of shape bucket) rows ≡ one (eqb home bucket) = subst (λ y. rows_of y (is_of shape bucket) rows ≡ one (eqb home bucket)) same (told (is_of shape bucket)) in
              omega (arith, later.kept e bucket (omega (arith, named e, one_here, can.few e, once e)), counts e bucket, when_one (eqb home bucket) (times e (x ∷ [])) one_here, row_here))
              (λ (other : x ≡ e → ⊥).
              let alone : times e (x ∷ []) ≡ 0 = times_other e x other in
              omega (arith, later.gone e bucket (omega (arith, among, named e, alone)), counts e bucket, when_none (eqb home bucket) (times e (x ∷ [])) alone))
              (cases_eq x e);
        }

  chase_step : (contents : DomainId → Content) (x : ℕ) (seen : Seen) (probes : List Try) → ((e : ℕ) → rows_of e any rows ≤ 1) → CanChase contents ((record { element = x; probed = seen }) ∷ probes)
      → ((later : DomainId → Content) → CanChase later probes → IsChasing later probes (chasing shape rows probes))
      → IsChasing contents ((record { element = x; probed = seen }) ∷ probes) (chasing shape rows ((record { element = x; probed = seen }) ∷ probes))
  chase_step contents x Removed probes once can rest =
      let row = one_row x rows (omega (arith, once x, can.few x, times_more x x (names_of probes), times_one x)) in
      subst (λ (found : Option ℕ). IsChasing contents ((record { element = x; probed = Removed }) ∷ probes) (option_to_list (option_map (evicts shape (record { element = x; probed = Removed })) found) ++ chasing shape rows probes))
      (sym row.1)
      (chase_one contents x row.0 probes once can row.1 row.2 (rest (after_turn shape cpu contents (on_lock (Bucket (bucket_number row.0 shape.buckets)) (parts.Bucket (Evict x Removed))))))
  chase_step contents x (Held holder) probes once can rest = absurd (both_ways false refl can.removed.0)

  -- Each probed element is taken out of its bucket.
  pub chased : ((e : ℕ) → rows_of e any rows ≤ 1) → (probes : List Try) (contents : DomainId → Content) → CanChase contents probes → IsChasing contents probes (chasing shape rows probes)
  chased once [] contents can = record {
    allowed = tt;
    chase = tt;
    fit = can.fits;
    elsewhere = λ lock apart. refl;
    lists = λ f. refl;
    kept = λ e bucket none. refl;
    gone = λ e bucket among. absurd (omega (arith, among));
  }
  chased once (probe ∷ probes) contents can = chase_step contents probe.element probe.probed probes once can (λ later. chased once probes later)
