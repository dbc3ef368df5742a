use Rattle.std.proofs.Common.{◌≡◌, ◌*◌, ◌+◌, length, ◌∙◌, arith}
use Rattle.hex.proofs.HexLemmas.{decode_of-even}
use Rattle.hex.proofs.Pairs.{decode_done}
use Rattle.map_script.proofs.DigitLemmas.{two_more}
use Rattle.map_script.proofs.front.decode_digits.Goals as goal

pub loop-i-preserved : goal.loop-i-preserved
loop-i-preserved c =
    let values = c.digit_values.new.values in
    let long : length c.args.digits.now ≡ 2 * length c.args.bytes.now = c.requires.bytes in
    let room = c.loop-i.auto.bytes in
    let inside = c.loop-i-test.true in
    let small = c.if-digit_values-gt15.false in
    let is = c.digit_values.ensures.values in
    let least = c.digit_values.ensures.greatest in
    let first = least (2 * c.loop-i.i) (omega arith) in
    let second = least (2 * c.loop-i.i + 1) (omega arith) in
    two_more c.args.digits.now c.loop-i.bytes c.loop-i.i _ _ (omega arith) (omega arith) (is (2 * c.loop-i.i) (omega arith)) (is (2 * c.loop-i.i + 1) (omega arith))
    (omega arith) (omega arith) c.loop-i.invariant

pub returns : goal.returns
returns c all =
    let digits = c.args.digits.now in
    let bytes = c.loop-i.bytes in
    let long : length digits ≡ 2 * length c.args.bytes.now = c.requires.bytes in
    let room = c.loop-i.auto.bytes in
    let ended = c.loop-i-test.false in
    decode_of-even digits (omega arith)
    ∙ decode_done digits bytes c.loop-i.i (omega arith) (omega arith) c.loop-i.invariant
