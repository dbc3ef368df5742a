-- Numbers in a row, as those of CPUs or of buckets, cut at one of them; and that each bucket has a lock.
use Rattle.std.proofs.Common.{◌≡◌, ℕ, zero, suc, ◌+◌, ◌-◌, ◌<◌, ◌≤◌, ◌∷◌, ◌++◌, ap, ◌∙◌, arith}
use Rattle.std.specs.Prelude.{IsTrue}
use Rattle.std.specs.List.{range_with_len}
use Rattle.std.proofs.lemmas.Bool.{lt-ltb}
use Rattle.map_types.specs.declared.attr.Shape.{Shape}
use Rattle.map_types.specs.declared.kind.DomainId.TheVariants.{Bucket}
use Rattle.place_words.specs.Locks.{is_lock}

pub range_split : (from m n : ℕ) → range_with_len from (m + n) ≡ range_with_len from m ++ range_with_len (from + m) n
range_split from zero n =
    let none : 0 + n ≡ n = omega arith in
    let start : from ≡ from + 0 = omega arith in
    ap (range_with_len from) none ∙ ap (λ k. range_with_len k n) start
range_split from (suc m) n =
    let count : suc m + n ≡ suc (m + n) = omega arith in
    let start : from + 1 + m ≡ from + suc m = omega arith in
    ap (range_with_len from) count ∙ (ap (λ l. from ∷ l) (range_split (from + 1) m n) ∙ ap (λ k. from ∷ (range_with_len (from + 1) m ++ range_with_len k n)) start)

-- those before a number, itself, and those after it
pub range_at : (from at to : ℕ) → from ≤ at → at < to → range_with_len from (to - from) ≡ range_with_len from (at - from) ++ at ∷ range_with_len (at + 1) (to - (at + 1))
range_at from at to after before =
    let count : to - from ≡ at - from + suc (to - (at + 1)) = omega arith in
    let start : from + (at - from) ≡ at = omega arith in
    ap (range_with_len from) count ∙ (range_split from (at - from) (suc (to - (at + 1))) ∙ ap (λ k. range_with_len from (at - from) ++ range_with_len k (suc (to - (at + 1)))) start)

pub bucket_there : (shape : Shape) (bucket : ℕ) → bucket < shape.buckets → IsTrue (is_lock shape (Bucket bucket))
bucket_there shape bucket there = lt-ltb bucket shape.buckets there
