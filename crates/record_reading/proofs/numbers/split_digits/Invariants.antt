use Rattle.std.proofs.Common.{◌≡◌, ℕ, ◌<◌, ◌≤◌, ◌-◌, length, get_or, true}
use Rattle.std.specs.Char.{is_ascii_digit}
use Rattle.record_reading.proofs.numbers.split_digits.Given as goal

pub record CountedDigits (count : ℕ) (text : Rattle.std.proofs.Common.List ℕ) : Type 0 where
  pub within : count ≤ length text
  pub digits : (i : ℕ) → i < count → is_ascii_digit (get_or text i 0) ≡ true

abbrev pub invariant-loop-count : goal.invariant-loop-count
invariant-loop-count l = CountedDigits l.count l.text

abbrev pub decreases-loop-count : goal.decreases-loop-count
decreases-loop-count l = length l.text - l.count
