-- What holds of a map that evicts between the turns of calls in serial order: each element is on one list, free or listed, and
-- it is in a bucket exactly where it is listed with a hash of that bucket, but for those that a call has in hand.
use Rattle.std.proofs.Common.{◌≡◌, ◌≢◌, ℕ, ◌+◌, ◌≤◌, Bool, true, false, cond, eqb, List, [], refl, ap, ◌∙◌, sym, subst, arith}
use Rattle.std.proofs.lemmas.Bool.{cond-true, cond-false, ne_eqb}
use Rattle.std.specs.Prelude.{nat_lt, MatchOption}
use Rattle.map_types.specs.declared.attr.Shape.{Shape}
use Rattle.map_types.specs.declared.kind.DomainId.{DomainId}
use Rattle.map_types.specs.declared.kind.DomainId.TheVariants.{Local, Global, CpuLru, Bucket, Freelist}
use Rattle.map_types.specs.ElementLists.{times, one}
use Rattle.map_types.specs.Stored.{Stored}
use Rattle.map_types.proofs.RowLemmas.{by_test}
use Rattle.place_words.specs.declared.bucket_part.BucketPart.{BucketPart}
use Rattle.place_words.specs.declared.history.Part.TheVariants as parts
pub use Rattle.place_words.specs.AtRest.{bodies_in, bodies_at, is_of, elements_on, rows_on, on_lists, listed, held, IsFit, IsSettled}
use Rattle.place_words.specs.Bodies.{numbers}
use Rattle.place_words.specs.Buckets.{AllowsInBucket, bucket_after}
use Rattle.place_words.specs.Histories.{Content, content_after, in_bucket, on_freelist, in_locals, in_global, in_own, bucket_in}
use Rattle.place_words.specs.Locks.{is_same_lock}
use Rattle.place_words.specs.Moves.{brought_to_bucket, taken_from_bucket}
use Rattle.place_words.specs.Turns.{Turn, on_lock, after_turn}
use Rattle.place_words.proofs.BucketLaws.{bucket_counts}
use Rattle.place_words.proofs.LockLemmas.{same_lock}
use Rattle.place_words.proofs.ListSums.{list_locks, sum_over, sum_none, others_stay, no_bucket}

-- where nothing is in hand, it is from no bucket
pub settled_anywhere : {shape : Shape} {contents : DomainId → Content} {home : ℕ} (other : ℕ) → IsSettled shape contents home [] → IsSettled shape contents other []
settled_anywhere {shape = shape} {contents = contents} {home = home} other settled = record {
  fit = settled.fit;
  once = settled.once;
  placed = λ e bucket. none (eqb home bucket) (eqb other bucket) (times e (numbers (bodies_at contents bucket))) (listed shape contents e (is_of shape bucket)) (settled.placed e bucket);
}
  where
    none : (a b : Bool) (x y : ℕ) → x + cond a 0 0 ≡ y → x + cond b 0 0 ≡ y
    none true true x y is = is
    none true false x y is = is
    none false true x y is = is
    none false false x y is = is

-- each element is on one list at most
pub once_on : {shape : Shape} {contents : DomainId → Content} {home : ℕ} {hand : List ℕ} → IsSettled shape contents home hand → (e : ℕ) → on_lists shape contents e ≤ 1
once_on {shape = shape} settled e = omega (arith, settled.once e, most (nat_lt e shape.elements))
  where
    most : (b : Bool) → one b ≤ 1
    most true = omega arith
    most false = omega arith

-- What lies under the lock of a turn, and under the others

pub turned_here : (shape : Shape) (cpu : ℕ) (contents : DomainId → Content) (turn : Turn) (lock : DomainId) → is_same_lock turn.lock lock ≡ true → after_turn shape cpu contents turn lock ≡ content_after shape cpu turn.part (contents lock)
turned_here shape cpu contents turn lock is = cond-true (is_same_lock turn.lock lock) _ _ is

pub turned_elsewhere : (shape : Shape) (cpu : ℕ) (contents : DomainId → Content) (turn : Turn) (lock : DomainId) → is_same_lock turn.lock lock ≡ false → after_turn shape cpu contents turn lock ≡ contents lock
turned_elsewhere shape cpu contents turn lock is = cond-false (is_same_lock turn.lock lock) _ _ is

-- a bucket that lies there
pub one_bucket : (content : Content) → MatchOption (bucket_in content) ⊥ (λ (bodies : List Stored). Unit {0}) → content ≡ in_bucket (bodies_in content)
one_bucket (in_bucket bodies) is = refl
one_bucket (on_freelist stack) is = absurd is
one_bucket (in_locals lists) is = absurd is
one_bucket (in_global set) is = absurd is
one_bucket (in_own set) is = absurd is

-- A turn of a bucket

module _ (shape : Shape) (cpu : ℕ) (contents : DomainId → Content) (bucket : ℕ) (part : BucketPart) where
  abbrev now : DomainId → Content
  now = after_turn shape cpu contents (on_lock (Bucket bucket) (parts.Bucket part))

  bucket_fit : (other : ℕ) → IsFit shape (Bucket other) (contents (Bucket other)) → IsFit shape (Bucket other) (now (Bucket other))
  bucket_fit other fit = by (eqb bucket other) (contents (Bucket other)) fit
    where
      by : (b : Bool) (content : Content) → IsFit shape (Bucket other) content → IsFit shape (Bucket other) (cond b (content_after shape cpu (parts.Bucket part) content) content)
      by true (in_bucket bodies) is = tt
      by true (on_freelist stack) is = absurd is
      by true (in_locals lists) is = absurd is
      by true (in_global set) is = absurd is
      by true (in_own set) is = absurd is
      by false content is = is

  pub bucket_turn_fit : ((lock : DomainId) → IsFit shape lock (contents lock)) → (lock : DomainId) → IsFit shape lock (now lock)
  bucket_turn_fit fit (Local c) = fit (Local c)
  bucket_turn_fit fit Global = fit Global
  bucket_turn_fit fit (CpuLru c) = fit (CpuLru c)
  bucket_turn_fit fit (Bucket other) = bucket_fit other (fit (Bucket other))
  bucket_turn_fit fit (Freelist c) = fit (Freelist c)

  -- the lists stay
  pub lists_stay : (f : Content → ℕ) → sum_over f now (list_locks shape) ≡ sum_over f contents (list_locks shape)
  lists_stay f =
      sum_none f now (Bucket bucket) (list_locks shape) (no_bucket shape bucket)
      ∙ sym (others_stay f contents now (Bucket bucket) (λ other apart. sym (turned_elsewhere shape cpu contents (on_lock (Bucket bucket) (parts.Bucket part)) other apart)) (list_locks shape))
      ∙ sym (sum_none f contents (Bucket bucket) (list_locks shape) (no_bucket shape bucket))

  -- what lies in the buckets then
  pub bodies_here : IsFit shape (Bucket bucket) (contents (Bucket bucket)) → (other : ℕ) → bucket ≡ other → bodies_at now other ≡ bucket_after shape cpu part (bodies_at contents other)
  bodies_here fit other same =
      subst (λ b. bodies_at now b ≡ bucket_after shape cpu part (bodies_at contents b)) same
      (ap bodies_in (turned_here shape cpu contents (on_lock (Bucket bucket) (parts.Bucket part)) (Bucket bucket) (same_lock (Bucket bucket)))
      ∙ ap (λ (content : Content). bodies_in (content_after shape cpu (parts.Bucket part) content)) (one_bucket (contents (Bucket bucket)) fit))

  pub bodies_elsewhere : (other : ℕ) → bucket ≢ other → bodies_at now other ≡ bodies_at contents other
  bodies_elsewhere other apart = ap bodies_in (turned_elsewhere shape cpu contents (on_lock (Bucket bucket) (parts.Bucket part)) (Bucket other) (ne_eqb bucket other apart))

  -- What a call has in hand of a bucket's elements after its turn: what it had, with what it took, less what it brought.
  pub bucket_turned : (hand left : List ℕ) → IsSettled shape contents bucket hand → AllowsInBucket shape cpu part (bodies_at contents bucket)
      → ((e : ℕ) → times e (brought_to_bucket part) + times e left ≡ times e (taken_from_bucket part) + times e hand) → IsSettled shape now bucket left
  bucket_turned hand left settled may moved = record {
    fit = bucket_turn_fit settled.fit;
    once = λ e. lists_stay (elements_on e) ∙ settled.once e;
    placed = λ e other. at e other (bodies_here (settled.fit (Bucket bucket)) other) (bodies_elsewhere other) (settled.placed e other) ∙ sym (lists_stay (rows_on e (is_of shape other)));
  }
    where
      at : (e other : ℕ) → (bucket ≡ other → bodies_at now other ≡ bucket_after shape cpu part (bodies_at contents other)) → (bucket ≢ other → bodies_at now other ≡ bodies_at contents other)
          → times e (numbers (bodies_at contents other)) + held bucket hand e other ≡ listed shape contents e (is_of shape other)
          → times e (numbers (bodies_at now other)) + held bucket left e other ≡ listed shape contents e (is_of shape other)
      at e other here elsewhere was =
          by_test bucket other (λ b. times e (numbers (bodies_at contents other)) + cond b (times e hand) 0 ≡ listed shape contents e (is_of shape other) → times e (numbers (bodies_at now other)) + cond b (times e left) 0 ≡ listed shape contents e (is_of shape other))
          (λ same is.
          let after : times e (numbers (bodies_at now other)) ≡ times e (numbers (bucket_after shape cpu part (bodies_at contents other))) = ap (λ (bodies : List Stored). times e (numbers bodies)) (here same) in
          let counts = bucket_counts shape cpu (bodies_at contents other) e part (subst (λ b. AllowsInBucket shape cpu part (bodies_at contents b)) same may) in
          omega (arith, after, counts, moved e, is))
          (λ apart is.
          let after : times e (numbers (bodies_at now other)) ≡ times e (numbers (bodies_at contents other)) = ap (λ (bodies : List Stored). times e (numbers bodies)) (elsewhere apart) in
          omega (arith, after, is))
          was
