-- What isn't a trace: a probe of another bucket, one that no turn answers, one whose answer is another, and a push of an
-- element that wasn't flushed. And what is none because of the kind.
use Rattle.std.proofs.Common.{◌≡◌, true, false, List, [], ◌∷◌, ◌++◌, refl, arith}
use Rattle.std.specs.Prelude.{Some}
use Rattle.map_types.specs.declared.kind.DomainId.TheVariants.{Bucket}
use Rattle.key_hash.specs.Bucket.{bucket_number}
use Rattle.place_words.specs.declared.bucket_part.BucketPart.TheVariants.{Evict}
use Rattle.place_words.specs.declared.bucket_part.Seen.TheVariants.{Removed, Held}
use Rattle.place_words.specs.declared.history.Entry.{Entry}
use Rattle.place_words.specs.declared.history.Part.TheVariants as parts
use Rattle.place_words.specs.declared.list_part.LocalPart.TheVariants as local
use Rattle.place_words.specs.declared.list_part.Stolen.TheVariants.{Free, Pending}
use Rattle.place_words.specs.Takings.{Chase, ends_flushed}
use Rattle.place_words.specs.Turns.{on_lock}
use Rattle.place_words.proofs.Worked.{entry, row, attempt, visit, lru_hash}

-- element 0 has the hash of key 03, which is of bucket 0
other_bucket : Chase (lru_hash 2 2 false) (row 0 3143674318 ∷ []) (attempt 0 (Held 1) ∷ []) (on_lock (Bucket 1) (parts.Bucket (Evict 0 (Held 1))) ∷ []) → ⊥
unfolding bucket_number
other_bucket chase = grind (arith, chase.0)

other_answer : Chase (lru_hash 2 2 false) (row 0 3143674318 ∷ []) (attempt 0 (Held 1) ∷ []) (on_lock (Bucket 0) (parts.Bucket (Evict 0 Removed)) ∷ []) → ⊥
unfolding bucket_number
other_answer chase = grind (arith, chase.0)

no_row : Chase (lru_hash 2 2 false) (row 1 3143674318 ∷ []) (attempt 0 (Held 1) ∷ []) (on_lock (Bucket 0) (parts.Bucket (Evict 0 (Held 1))) ∷ []) → ⊥
unfolding bucket_number
no_row chase = grind (arith, chase.0)

no_turn : Chase (lru_hash 2 2 false) (row 0 3143674318 ∷ []) (attempt 0 (Held 1) ∷ []) [] → ⊥
no_turn chase = chase

one_turn_more : Chase (lru_hash 2 2 false) (row 0 3143674318 ∷ []) [] (on_lock (Bucket 0) (parts.Bucket (Evict 0 (Held 1))) ∷ []) → ⊥
one_turn_more chase = chase

-- A refill flushes 0 and gets 1. Then 0 may be pushed as one that was flushed, and 1 may not, nor 0 once it is pending again or
-- was stolen from there. A theft from the free list changes nothing of that.
flushing : List Entry
flushing = entry 0 0 1 (parts.Local (local.Refill 7 (visit 0 false ∷ []) (1 ∷ []) (Some 1))) ∷ entry 1 1 2 (parts.Local (local.Push 0 false)) ∷ []

zero_flushed : ends_flushed 0 false flushing ≡ true
unfolding flushing
zero_flushed = refl

one_not_flushed : ends_flushed 1 false flushing ≡ false
unfolding flushing
one_not_flushed = refl

zero_again : ends_flushed 0 false (flushing ++ entry 2 0 3 (parts.Local (local.Add 8 0 0)) ∷ []) ≡ false
unfolding flushing
zero_again = refl

zero_stolen : ends_flushed 0 false (flushing ++ entry 2 1 3 (parts.Local (local.Steal (Pending 0) [] [])) ∷ []) ≡ false
unfolding flushing
zero_stolen = refl

zero_taken : ends_flushed 0 false (flushing ++ entry 2 1 3 (parts.Local (local.Steal (Free 0) [] [])) ∷ []) ≡ true
unfolding flushing
zero_taken = refl
