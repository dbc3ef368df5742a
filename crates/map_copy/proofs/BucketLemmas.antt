-- How often a copy reads a bucket.
use Rattle.std.proofs.Common.{◌≡◌, ℕ, ◌+◌, ◌<◌, ◌≤◌, List, [], ◌∷◌, refl, sym, subst, arith, inl, inr}
use Rattle.std.proofs.lemmas.Bool.{cases_lt, lt-ltb, le-ltb, le-leb, lt-leb}
use Rattle.std.proofs.lemmas.List.Elements.{All-head, All-tail}
use Rattle.std.proofs.lemmas.List.Sums.{sum_by-cons}
use Rattle.std.specs.Prelude.{◌⊎◌, nat_le, nat_lt, ◌&&◌, Bool, IsTrue, All, if◌then◌else◌, Option, None, Some}
use Rattle.map_types.specs.declared.attr.Shape.{Shape}
use Rattle.map_copy.specs.Answers.{IsAnswered, AreAnswered}
use Rattle.map_copy.specs.Copied.{Read, Step, Copies, first_read, has_stopped, next_in, read_behind_step}
use Rattle.map_copy.specs.Buckets.{reads_bucket, times_read, ReadsOnce, ReadsEach}
use Rattle.map_copy.proofs.StepLemmas.{LeadsTo, ended, all_read, further, again, none_is_some, same_some, none_left, step_leads}

-- one where a read reaches a bucket
abbrev reached : ℕ → ℕ → ℕ → ℕ
reached start bucket next = if nat_le start bucket && nat_lt bucket next then 1 else 0

data Reaches (start bucket next : ℕ) : Type 0 where
  within : reached start bucket next ≡ 1 → start ≤ bucket → bucket < next → Reaches start bucket next
  before : reached start bucket next ≡ 0 → bucket < start → Reaches start bucket next
  beyond : reached start bucket next ≡ 0 → next ≤ bucket → Reaches start bucket next

reaches : (start bucket next : ℕ) → Reaches start bucket next
reaches start bucket next = by_order (cases_lt bucket start) (cases_lt bucket next) where
  by_order : (bucket < start) ⊎ (start ≤ bucket) → (bucket < next) ⊎ (next ≤ bucket) → Reaches start bucket next
  by_order (inl less) next_order = before (rw (lt-leb start bucket less) refl) less
  by_order (inr more) (inl less) = within (rw (le-leb start bucket more, lt-ltb bucket next less) refl) more less
  by_order (inr more) (inr over) = beyond (rw (le-leb start bucket more, le-ltb bucket next over) refl) over

times_more : (bucket : ℕ) (step : Step) (steps : List Step)
    → times_read bucket (step ∷ steps) ≡ reached step.read.start bucket (next_in step.page) + times_read bucket steps
times_more bucket step steps = sum_by-cons (λ (step : Step). if reads_bucket bucket step then 1 else 0) step steps

-- no bucket before the start is read, and none is read twice
record IsOnce (bucket start times : ℕ) : Type 0 where
  none_before : bucket < start → times ≡ 0
  once : times ≤ 1

-- what the steps behind a read give, where it leads on, or where none follows
with_read : (start bucket next times : ℕ) → ((start ≤ next) × IsOnce bucket next times) ⊎ (times ≡ 0)
    → IsOnce bucket start (reached start bucket next + times)
with_read start bucket next times rest = by_reach rest (reaches start bucket next) where
  by_reach : ((start ≤ next) × IsOnce bucket next times) ⊎ (times ≡ 0) → Reaches start bucket next
      → IsOnce bucket start (reached start bucket next + times)
  by_reach (inl on) (within one least most) =
      let none = on.1.none_before most in record { none_before = λ below. omega arith; once = omega arith }
  by_reach (inl on) (before zero below) =
      let least = on.0 in let once = on.1.once in
      let below_next : bucket < next = omega arith in
      let none = on.1.none_before below_next in record { none_before = λ less. omega arith; once = omega arith }
  by_reach (inl on) (beyond zero over) =
      let least = on.0 in let once = on.1.once in record { none_before = λ below. absurd (omega arith); once = omega arith }
  by_reach (inr none) (within one least most) = record { none_before = λ below. omega arith; once = omega arith }
  by_reach (inr none) (before zero below) = record { none_before = λ less. omega arith; once = omega arith }
  by_reach (inr none) (beyond zero over) = record { none_before = λ below. omega arith; once = omega arith }

-- the steps behind one, by what it leads to
behind : (shape : Shape) (bucket : ℕ) (read : Read) (at : ℕ) (stopped : Bool) (after : Option Read) (steps : List Step) (next : Option Read)
    → ((read : Read) → Copies shape.elements (Some read) steps next → IsOnce bucket read.start (times_read bucket steps))
    → LeadsTo shape read at stopped after → Copies shape.elements after steps next
    → ((read.start ≤ at) × IsOnce bucket at (times_read bucket steps)) ⊎ (times_read bucket steps ≡ 0)
behind shape bucket read at stopped None steps next later leads copies = inr (rw (none_left shape.elements steps next copies).0 refl)
behind shape bucket read at stopped (Some after) steps next later (further more below) copies = inl (omega arith, later after copies)
behind shape bucket read at stopped (Some after) steps next later (again least below few) copies = inl (least, later after copies)

once_from : (shape : Shape) (bucket : ℕ) (steps : List Step) (next : Option Read) → AreAnswered shape steps
    → (read : Read) → Copies shape.elements (Some read) steps next → IsOnce bucket read.start (times_read bucket steps)
once_from shape bucket [] next answers read copies = record { none_before = λ below. refl; once = omega arith }
once_from shape bucket (step ∷ steps) next answers read copies =
    let answer = All-head (IsAnswered shape) step steps answers in
    let later = once_from shape bucket steps next (All-tail (IsAnswered shape) step steps answers) in
    let rest = behind shape bucket step.read (next_in step.page) (has_stopped step.put) (read_behind_step shape.elements step) steps next later
    (step_leads shape step answer) copies.2 in
    rw (times_more bucket step steps, same_some copies.0)
    (with_read step.read.start bucket (next_in step.page) (times_read bucket steps) rest)

pub reads_once : ReadsOnce
reads_once shape count bucket steps next copies answers = (once_from shape bucket steps next answers (first_read count) copies).once

-- the put of a step, where there is one, did not stop
abbrev whole : Step → Type 0
whole step = ¬ (IsTrue (has_stopped step.put))

-- a bucket that is reached, or is behind the next read's start, is read once
each_here : (start bucket next times : ℕ) → start ≤ bucket → (bucket < next → times ≡ 0) → (next ≤ bucket → times ≡ 1)
    → reached start bucket next + times ≡ 1
each_here start bucket next times least none once = by_reach (reaches start bucket next) where
  by_reach : Reaches start bucket next → reached start bucket next + times ≡ 1
  by_reach (within one above most) = let zero = none most in omega arith
  by_reach (before zero below) = absurd (omega arith)
  by_reach (beyond zero over) = let one = once over in omega arith

each_behind : (shape : Shape) (bucket : ℕ) (read : Read) (at : ℕ) (stopped : Bool) (after : Option Read) (steps : List Step)
    → ¬ (IsTrue stopped) → read.start ≤ bucket → bucket < shape.buckets
    → ((read : Read) → Copies shape.elements (Some read) steps None → IsOnce bucket read.start (times_read bucket steps))
    → ((read : Read) → Copies shape.elements (Some read) steps None → read.start ≤ bucket → times_read bucket steps ≡ 1)
    → LeadsTo shape read at stopped after → Copies shape.elements after steps None
    → reached read.start bucket at + times_read bucket steps ≡ 1
each_behind shape bucket read at stopped None steps going least most once each (ended stop) copies = absurd (going stop)
each_behind shape bucket read at stopped None steps going least most once each (all_read last) copies =
    let none : times_read bucket steps ≡ 0 = rw (none_left shape.elements steps None copies).0 refl in
    each_here read.start bucket at (times_read bucket steps) least (λ below. none) (λ over. absurd (omega arith))
each_behind shape bucket read at stopped (Some after) steps going least most once each (further more below) copies =
    each_here read.start bucket at (times_read bucket steps) least (λ below. (once after copies).none_before below)
    (λ over. each after copies over)
each_behind shape bucket read at stopped (Some after) steps going least most once each (again from below few) copies =
    each_here read.start bucket at (times_read bucket steps) least (λ below. (once after copies).none_before below)
    (λ over. each after copies over)

each_from : (shape : Shape) (bucket : ℕ) (steps : List Step) → AreAnswered shape steps → All whole steps → bucket < shape.buckets
    → (read : Read) → Copies shape.elements (Some read) steps None → read.start ≤ bucket → times_read bucket steps ≡ 1
each_from shape bucket [] answers going most read copies least = absurd (none_is_some (sym copies))
each_from shape bucket (step ∷ steps) answers going most read copies least =
    let same = same_some copies.0 in
    let answer = All-head (IsAnswered shape) step steps answers in
    let rest = All-tail (IsAnswered shape) step steps answers in
    rw (times_more bucket step steps)
    (each_behind shape bucket step.read (next_in step.page) (has_stopped step.put) (read_behind_step shape.elements step) steps
    (All-head whole step steps going) (subst (λ (r : Read). r.start ≤ bucket) same least) most
    (once_from shape bucket steps None rest) (each_from shape bucket steps rest (All-tail whole step steps going) most)
    (step_leads shape step answer) copies.2)

pub reads_each : ReadsEach
reads_each shape count bucket steps copied answers going most =
    each_from shape bucket steps answers going most (first_read count) copied (omega arith)
