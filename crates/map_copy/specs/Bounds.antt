-- What a copy may ask for, and how many reads it makes.
use Rattle.std.specs.Prelude.{◌≡◌, ◌⊎◌, ℕ, ◌+◌, ◌<◌, ◌≤◌, List, length, Some}
use Rattle.map_types.specs.declared.attr.Shape.{Shape}
use Rattle.map_types.specs.Creation.{IsShape}
use Rattle.map_copy.specs.Answers.{AreAnswered}
use Rattle.map_copy.specs.Copied.{Read, Step, Copies, first_read}
use Rattle.map_copy.specs.Plans.{IsCopied}

-- A read asks for some pairs: as many as the first one, or at most as many as the source has elements. It starts at a bucket that
-- there is.
pub record MayAsk (shape : Shape) (count : ℕ) (read : Read) : Type 0 where
  pub some : 1 ≤ read.count
  pub within : (read.count ≡ count) ⊎ (read.count ≤ shape.elements)
  pub start : read.start < shape.buckets

-- Each next read of a copy of a map is one that may be asked.
abbrev pub AsksWithin : Type 0
AsksWithin = (shape : Shape) (count : ℕ) (steps : List Step) (next : Read) → IsShape shape → 1 ≤ count
    → Copies shape.elements (Some (first_read count)) steps (Some next) → AreAnswered shape steps
    → MayAsk shape count next

-- The bound: at most as many reads as the source has buckets and 17 more, and fewer while a read is next. All reads but 17 at most
-- take a bucket each, and 17 doublings lead from one pair to more than any map has elements.
abbrev pub GoesOnBelow : Type 0
GoesOnBelow = (shape : Shape) (count : ℕ) (steps : List Step) (next : Read) → IsShape shape → 1 ≤ count
    → Copies shape.elements (Some (first_read count)) steps (Some next) → AreAnswered shape steps
    → length steps < shape.buckets + 17

abbrev pub HasFewReads : Type 0
HasFewReads = (shape : Shape) (count : ℕ) (steps : List Step) → IsShape shape → 1 ≤ count
    → IsCopied count shape.elements steps → AreAnswered shape steps
    → length steps ≤ shape.buckets + 17
