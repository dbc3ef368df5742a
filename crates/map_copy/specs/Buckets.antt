-- Which buckets a copy reads, and so which it puts.
use Rattle.std.specs.Prelude.{◌≡◌, ℕ, ◌<◌, ◌≤◌, nat_lt, nat_le, Bool, ◌&&◌, IsTrue, All, List, count_by, Option, Some}
use Rattle.map_types.specs.declared.attr.Shape.{Shape}
use Rattle.map_copy.specs.Answers.{AreAnswered}
use Rattle.map_copy.specs.Copied.{Read, Step, Copies, first_read, has_stopped, next_in}
use Rattle.map_copy.specs.Plans.{IsCopied}

-- A page has the pairs of the buckets from its read's start up to the one at which the next read starts.
abbrev pub reads_bucket : ℕ → Step → Bool
reads_bucket bucket step = nat_le step.read.start bucket && nat_lt bucket (next_in step.page)

-- how many of these steps read a bucket
abbrev pub times_read : ℕ → List Step → ℕ
times_read bucket steps = count_by (reads_bucket bucket) steps

-- No bucket is read twice, while a copy goes on and when it has ended.
abbrev pub ReadsOnce : Type 0
ReadsOnce = (shape : Shape) (count bucket : ℕ) (steps : List Step) (next : Option Read)
    → Copies shape.elements (Some (first_read count)) steps next → AreAnswered shape steps
    → times_read bucket steps ≤ 1

-- Where no put stopped, each bucket was read once when the copy has ended.
abbrev pub ReadsEach : Type 0
ReadsEach = (shape : Shape) (count bucket : ℕ) (steps : List Step)
    → IsCopied count shape.elements steps → AreAnswered shape steps
    → All (λ (step : Step). ¬ (IsTrue (has_stopped step.put))) steps → bucket < shape.buckets
    → times_read bucket steps ≡ 1
