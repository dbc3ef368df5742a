-- How many elements are free, in buckets and in hands.
use Rattle.std.specs.Prelude.{ℕ, zero, suc, ◌+◌, Bool, true, false, length}
use Rattle.map_types.specs.declared.attr.Shape.{Shape}
use Rattle.map_types.specs.declared.kind.DomainId.TheVariants.{Bucket}
use Rattle.place_words.specs.declared.owner.Owner.{Owner}
use Rattle.place_words.specs.declared.owner.Owner.TheVariants as owners
use Rattle.place_words.specs.Locks.{lock_number, lock_count}
use Rattle.map_types.specs.ElementLists.{one}
use Rattle.place_words.specs.State.{State}

-- the sum of f over the numbers below n
abbrev pub sum_below : ℕ → (ℕ → ℕ) → ℕ
sum_below zero f = 0
sum_below (suc n) f = sum_below n f + f n

abbrev pub is_in_hand : Owner → Bool
is_in_hand owners.Free = false
is_in_hand (owners.Bucket bucket) = false
is_in_hand (owners.Hand cpu) = true

-- those on the free lists of all locks
abbrev pub free_total : Shape → State → ℕ
free_total shape s = sum_below (lock_count shape) (λ k. length (s.lists k).free)

-- those in all buckets
abbrev pub bucket_total : Shape → State → ℕ
bucket_total shape s = sum_below shape.buckets (λ bucket. length (s.lists (lock_number shape (Bucket bucket))).first)

-- those in the hands of all CPUs
abbrev pub hand_total : Shape → State → ℕ
hand_total shape s = sum_below shape.elements (λ e. one (is_in_hand (s.owner e)))
