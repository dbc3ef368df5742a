use Rattle.std.proofs.Common.{◌≡◌, ◌<◌, ◌∙◌, sym, subst, arith, length, get_or, false}
use Rattle.std.specs.Char.{is_ascii_digit}
use Rattle.std.specs.Str.Parse.{AllDigits}
use Rattle.record_reading.specs.Readers.{digits_of}
use Rattle.record_reading.proofs.Laws.{digits_all}
use Rattle.record_reading.proofs.LeafLemmas.{digits_counted}
use Rattle.record_reading.proofs.numbers.split_digits.Goals as goal
use Rattle.record_reading.proofs.numbers.split_digits.Goals.{then-loop-count-test+else-is_ascii_digit, else-loop-count-test}

pub returns : goal.returns
returns c =
    let text = c.args.text.now in
    let count = c.loop-count.count in
    let ends : count < length text → is_ascii_digit (get_or text count 0) ≡ false =
    elim c.loop-count-test.branch as (λ _. count < length text → is_ascii_digit (get_or text count 0) ≡ false) [
      | then-loop-count-test+else-is_ascii_digit w ↦ λ less. grind (arith, w.is_ascii_digit.ensures, w.if-is_ascii_digit.false)
      | else-loop-count-test w ↦ λ less. absurd (omega arith)
    ] in
    let found = digits_counted count text c.loop-count.invariant.within c.loop-count.invariant.digits ends in
    let is : c.split_at.result.0.now ≡ digits_of text = c.split_at.ensures.front ∙ sym found.0 in
    record { digits = is; rest = c.split_at.ensures.back ∙ sym found.1; all = subst (AllDigits 10) (sym is) (digits_all text) }
