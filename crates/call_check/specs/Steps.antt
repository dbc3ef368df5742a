-- The steps of calls along the strands.
use Rattle.std.specs.Prelude.{◌≡◌, ℕ, ◌<◌, ◌≤◌, ◌==◌, ◌&&◌, ◌||◌, nat_lt, Bool, false, IsTrue, List, [], ◌∷◌, length, map, slice_get, slice_index_or, Some, if◌then◌else◌}
use Rattle.map_types.specs.Creation.{IsShape}
use Rattle.map_types.specs.declared.attr.Shape.{Shape}
use Rattle.place_words.specs.declared.history.LockHistory.{LockHistory}
use Rattle.place_words.specs.declared.history.Strand.{Strand}
use Rattle.place_words.specs.declared.history.StrandStep.{StrandStep}
use Rattle.map_report.specs.Record.{has_cpu, locks_of}
use Rattle.record_shape.specs.Fits.{AllFit}
use Rattle.record_shape.specs.ShapedParts.{StepFits}
use Rattle.record_shape.specs.WellShaped.{lock_of}
use Rattle.call_check.specs.StrandPlaces.{cell, places_of}
use Rattle.call_check.specs.RightCalls.{call_named}

-- the histories of the locks of a map
pub record Histories : Type 0 where
  pub shape : Shape
  pub all : List LockHistory

-- there is one for each lock, and by these places the lock of a number has its history
pub record HaveHistories (shape : Shape) (histories : List LockHistory) (places : List ℕ) : Type 0 where
  pub shaped : IsShape shape
  pub locks : map lock_of histories ≡ locks_of shape
  pub placed : places ≡ places_of shape

abbrev pub StepsFit : Shape → List StrandStep → Type 0
StepsFit shape steps = AllFit (StepFits shape) steps

-- the greater of two numbers
abbrev pub greater : ℕ → ℕ → ℕ
greater n m = if nat_lt n m then m else n

-- Whether a step of a call stands behind a step of a later one. `greatest` is the greatest call with a step before these.
abbrev pub is_late_from : List LockHistory → ℕ → ℕ → List StrandStep → Bool
is_late_from histories number greatest [] = false
is_late_from histories number greatest (step ∷ steps) =
    ((call_named histories step == number) && nat_lt number greatest)
    || is_late_from histories number (greater greatest (call_named histories step)) steps

abbrev pub is_late : List LockHistory → ℕ → Strand → Bool
is_late histories number strand = is_late_from histories number 0 strand.steps

-- each CPU of each strand leads to that strand
abbrev pub LeadToStrands : List Strand → List ℕ → Type 0
LeadToStrands strands table =
    (n : ℕ) (strand : Strand) → slice_get strands n ≡ Some strand → (cpu : ℕ) → IsTrue (has_cpu cpu strand.cpus)
    → slice_index_or table (cell strand.phase cpu) 0 ≡ n

-- A place behind which a strand has no step of a call below a number, and before which it has no other.
pub record IsBehind (histories : List LockHistory) (number : ℕ) (steps : List StrandStep) (cursor : ℕ) : Type 0 where
  pub within : cursor ≤ length steps
  pub before : (k : ℕ) (d : StrandStep) → k < cursor → call_named histories (slice_index_or steps k d) < number
  pub behind : (k : ℕ) (d : StrandStep) → cursor ≤ k → k < length steps → number ≤ call_named histories (slice_index_or steps k d)

pub record AreBehind (histories : List LockHistory) (number : ℕ) (strands : List Strand) (cursors : List ℕ) : Type 0 where
  pub each : length cursors ≡ length strands
  pub are : (n : ℕ) (strand : Strand) → slice_get strands n ≡ Some strand → IsBehind histories number strand.steps (slice_index_or cursors n 0)
