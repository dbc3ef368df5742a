-- What a copy may ask for, and how many reads it makes at most.
use Rattle.std.proofs.Common.{◌≡◌, ℕ, zero, suc, ◌+◌, ◌-◌, ◌*◌, ◌<◌, ◌≤◌, List, [], ◌∷◌, length, refl, subst, arith, inl, inr}
use Rattle.std.proofs.lemmas.Bool.{cases_lt}
use Rattle.std.proofs.lemmas.List.Elements.{All-head, All-tail}
use Rattle.std.specs.Prelude.{◌⊎◌, min, Bool, Option, None, Some, MatchOption}
use Rattle.map_types.specs.declared.attr.Shape.{Shape}
use Rattle.map_types.specs.Creation.{IsShape}
use Rattle.map_types.proofs.CreationLemmas.{bounds_of_shape}
use Rattle.map_copy.specs.Answers.{IsAnswered, AreAnswered}
use Rattle.map_copy.specs.Bounds.{MayAsk, AsksWithin, GoesOnBelow, HasFewReads}
use Rattle.map_copy.specs.Copied.{Read, Step, Copies, read_of, first_read, has_stopped, next_in, read_behind_step}
use Rattle.map_copy.proofs.StepLemmas.{LeadsTo, further, again, none_is_some, same_some, none_left, step_leads}

-- a count that is doubled so many times
abbrev pub doubled : ℕ → ℕ → ℕ
doubled zero count = count
doubled (suc n) count = doubled n (2 * count)

doubled_more : (n count : ℕ) → count ≤ doubled n count
doubled_more zero count = omega arith
doubled_more (suc n) count = let more = doubled_more n (2 * count) in omega arith

-- where doublings lead to all elements, they do so too from as many as there are elements
still_enough : (n count elements : ℕ) → elements ≤ doubled n count → elements ≤ doubled n (min count elements)
still_enough n count elements enough = by_order (cases_lt count elements) where
  by_order : (count < elements) ⊎ (elements ≤ count) → elements ≤ doubled n (min count elements)
  by_order (inl less) = let is : min count elements ≡ count = omega arith in rw is enough
  by_order (inr more) = let is : min count elements ≡ elements = omega arith in rw is (doubled_more n elements)

-- So many steps are within a bound; where another read is next, there is room for it too.
abbrev AreWithin : Option Read → ℕ → ℕ → Type 0
AreWithin next steps bound = MatchOption next (steps ≤ bound) (λ read. steps < bound)

one_more : (next : Option Read) (steps bound above : ℕ) → bound < above → AreWithin next steps bound → AreWithin next (suc steps) above
one_more None steps bound above room within = omega arith
one_more (Some read) steps bound above room within = omega arith

-- so many doublings lead to all elements, and a bucket is left to be read
record IsLeft (shape : Shape) (doublings : ℕ) (read : Read) : Type 0 where
  enough : shape.elements ≤ doubled doublings read.count
  bucket : read.start < shape.buckets

abbrev Bounded : Shape → Option Read → List Step → Type 0
Bounded shape next steps = (doublings : ℕ) (read : Read) → IsLeft shape doublings read
    → Copies shape.elements (Some read) steps next
    → AreWithin next (length steps) (doublings + (shape.buckets - read.start))

-- what a step leads to is within what is left
behind : (shape : Shape) (next : Option Read) (steps : List Step) → Bounded shape next steps
    → (doublings : ℕ) (read : Read) (at : ℕ) (stopped : Bool) (after : Option Read) → IsLeft shape doublings read
    → LeadsTo shape read at stopped after → Copies shape.elements after steps next
    → AreWithin next (suc (length steps)) (doublings + (shape.buckets - read.start))
behind shape next steps bounded doublings read at stopped None left leads copies =
    let none = none_left shape.elements steps next copies in
    let bucket = left.bucket in
    rw (none.0, none.1) (omega arith)
behind shape next steps bounded doublings read at stopped (Some after) left (further later within) copies =
    let bucket = left.bucket in
    one_more next (length steps) (doublings + (shape.buckets - at)) (doublings + (shape.buckets - read.start)) (omega arith)
    (bounded doublings (read_of read.count at) record { enough = left.enough; bucket = within } copies)
behind shape next steps bounded zero read at stopped (Some after) left (again least within few) copies =
    let enough = left.enough in absurd (omega arith)
behind shape next steps bounded (suc doublings) read at stopped (Some after) left (again least within few) copies =
    let bucket = left.bucket in
    one_more next (length steps) (doublings + (shape.buckets - at)) (suc doublings + (shape.buckets - read.start)) (omega arith)
    (bounded doublings (read_of (min (2 * read.count) shape.elements) at)
    record { enough = still_enough doublings (2 * read.count) shape.elements left.enough; bucket = within } copies)

bounded : (shape : Shape) (next : Option Read) (steps : List Step) → AreAnswered shape steps → Bounded shape next steps
bounded shape next [] answered doublings read left copies =
    let bucket = left.bucket in
    subst (λ (next : Option Read). AreWithin next 0 (doublings + (shape.buckets - read.start))) copies (omega arith)
bounded shape next (step ∷ steps) answered doublings read left copies =
    behind shape next steps (bounded shape next steps (All-tail (IsAnswered shape) step steps answered)) doublings read
    (next_in step.page) (has_stopped step.put) (read_behind_step shape.elements step) left
    (rw (same_some copies.0) (step_leads shape step (All-head (IsAnswered shape) step steps answered))) copies.2

-- seventeen doublings lead from one pair to more than any map has elements
seventeen : (shape : Shape) (count : ℕ) → IsShape shape → 1 ≤ count → IsLeft shape 17 (first_read count)
seventeen shape count is some =
    let bounds = bounds_of_shape shape is in
    let few = bounds.elements_bounded in
    let capacity = bounds.some_capacity in
    let buckets = bounds.capacity_in_buckets in
    record { enough = omega arith; bucket = omega arith }

pub goes_on_below : GoesOnBelow
goes_on_below shape count steps next is some copies answered =
    let below = bounded shape (Some next) steps answered 17 (first_read count) (seventeen shape count is some) copies in omega arith

pub has_few_reads : HasFewReads
has_few_reads shape count steps is some copies answered =
    let below = bounded shape None steps answered 17 (first_read count) (seventeen shape count is some) copies in omega arith

-- how many steps a copy has made, be there a next read or not
pub few_steps : (shape : Shape) (count : ℕ) (steps : List Step) (next : Option Read) → IsShape shape → 1 ≤ count
    → Copies shape.elements (Some (first_read count)) steps next → AreAnswered shape steps → length steps ≤ shape.buckets + 17
few_steps shape count steps None is some copies answered = has_few_reads shape count steps is some copies answered
few_steps shape count steps (Some next) is some copies answered =
    let below = goes_on_below shape count steps next is some copies answered in omega arith

-- what a step leads to may be asked where its read might
may_follow : (shape : Shape) (count : ℕ) (read : Read) (at : ℕ) (stopped : Bool) (after : Read) → MayAsk shape count read
    → LeadsTo shape read at stopped (Some after) → MayAsk shape count after
may_follow shape count read at stopped after may (further later within) = record { some = may.some; within = may.within; start = within }
may_follow shape count read at stopped after may (again least within few) =
    let some = may.some in record { some = omega arith; within = inr (omega arith); start = within }

asks_from : (shape : Shape) (count : ℕ) (next : Read) (steps : List Step) (from : Option Read) → AreAnswered shape steps
    → MatchOption from (Unit {0}) (MayAsk shape count) → Copies shape.elements from steps (Some next) → MayAsk shape count next
asks_from shape count next [] None answered may copies = absurd (none_is_some copies)
asks_from shape count next [] (Some read) answered may copies = rw (← (same_some copies)) may
asks_from shape count next (step ∷ steps) None answered may copies = absurd (none_is_some copies.0)
asks_from shape count next (step ∷ steps) (Some read) answered may copies =
    asks_from shape count next steps (read_behind_step shape.elements step) (All-tail (IsAnswered shape) step steps answered)
    (follow (read_behind_step shape.elements step) (step_leads shape step (All-head (IsAnswered shape) step steps answered))) copies.2 where
      follow : (after : Option Read) → LeadsTo shape step.read (next_in step.page) (has_stopped step.put) after
          → MatchOption after (Unit {0}) (MayAsk shape count)
      follow None leads = tt
      follow (Some after) leads =
          may_follow shape count step.read (next_in step.page) (has_stopped step.put) after (subst (MayAsk shape count) (same_some copies.0) may) leads

pub asks_within : AsksWithin
asks_within shape count steps next is some copies answered =
    let bounds = bounds_of_shape shape is in
    let capacity = bounds.some_capacity in
    let buckets = bounds.capacity_in_buckets in
    let first : MayAsk shape count (first_read count) = record { some = some; within = inl refl; start = omega arith } in
    asks_from shape count next steps (Some (first_read count)) answered first copies
