use Rattle.std.proofs.Common.{arith}
use Rattle.map_script.proofs.DigitLemmas.{value_added}
use Rattle.map_script.proofs.front.digit_values.Goals as goal

pub loop-i-preserved : goal.loop-i-preserved
loop-i-preserved c =
    let first = c.max-greatest.ensures in
    let long = c.loop-i.auto.values in
    let same = c.requires in
    let inside = c.loop-i-test.true in
    value_added c.args.digits.now c.loop-i.values c.loop-i.greatest c.max-greatest.result c.loop-i.i c.digit_value-value.result (omega arith) c.digit_value-value.ensures (omega arith) (omega arith) c.loop-i.invariant

pub returns-clause-values : goal.returns-clause-values
returns-clause-values c i inside =
    let ended = c.loop-i-test.false in
    (c.loop-i.invariant i (omega arith)).0

pub returns-clause-greatest : goal.returns-clause-greatest
returns-clause-greatest c i inside =
    let ended = c.loop-i-test.false in
    (c.loop-i.invariant i (omega arith)).1
