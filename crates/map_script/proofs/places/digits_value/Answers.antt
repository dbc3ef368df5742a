use Rattle.std.proofs.Common.{◌≡◌, ◌<◌, get_or, sym, ◌∙◌, arith}
use Rattle.std.specs.Char.{is_ascii_digit, digit_value}
use Rattle.std.proofs.lemmas.Bool.Decides.{nat_tests}
use Rattle.std.proofs.lemmas.Bool.{and_from}
use Rattle.std.proofs.lemmas.Grind.{pow_more}
use Rattle.std.proofs.lemmas.Int.Digits.{digits_value_more}
use Rattle.std.proofs.lemmas.List.Folds.{list_all_more}
use Rattle.map_script.proofs.places.digits_value.Goals as goal

pub loop-digit-preserved : goal.loop-digit-preserved
loop-digit-preserved c =
    let token = c.args.token.now in
    let digit : digit_value (get_or token c.loop-digit.digit-index 0) ≡ c.from.result = grind (arith, nat_tests) in
    let small : c.from.result < 10 = grind (arith, nat_tests) in (
      omega (arith, digits_value_more 10 token _ c.loop-digit-test.true, c.loop-digit.invariant.0),
      list_all_more is_ascii_digit token c.loop-digit.digit-index 0 c.loop-digit-test.true ∙ and_from _ _ c.loop-digit.invariant.1 (sym c.if-not-is_ascii_digit.ensures.value),
      omega (arith, pow_more 10 c.loop-digit.digit-index),
    )
