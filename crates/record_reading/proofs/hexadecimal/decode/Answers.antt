use Rattle.std.proofs.Common.{◌≡◌, ◌*◌, length, ◌∙◌, arith}
use Rattle.std.proofs.lemmas.Bool.{ltb-true}
use Rattle.hex.proofs.HexLemmas.{decode_of-even}
use Rattle.hex.proofs.Pairs.{decode_done}
use Rattle.record_reading.proofs.DecodeLemmas.{pair_more, judged}
use Rattle.record_reading.proofs.hexadecimal.decode.Goals as goal

pub loop-i-preserved : goal.loop-i-preserved
loop-i-preserved c =
    let long : length c.args.digits.now ≡ 2 * length c.args.bytes.now = c.requires in
    let room = c.loop-i.auto.bytes in
    let inside = c.loop-i-test.true in
    let first = c.max.ensures in
    let second = c.max-worst.ensures in
    pair_more c.args.digits.now c.loop-i.bytes c.loop-i.i c.loop-i.worst c.lower_value-high.result c.lower_value-low.result c.max-worst.result (omega arith) (omega arith)
    c.lower_value-high.ensures c.lower_value-low.ensures (λ less. (grind arith, grind arith, grind arith)) (λ more worst high low. grind arith) c.loop-i.invariant

pub returns-clause-judged : goal.returns-clause-judged
returns-clause-judged c =
    let long : length c.args.digits.now ≡ 2 * length c.args.bytes.now = c.requires in
    let room = c.loop-i.auto.bytes in
    let ended = c.loop-i-test.false in
    judged c.loop-i.worst c.loop-i.i c.args.digits.now c.loop-i.bytes c.loop-i.invariant (omega arith)

pub returns-clause-decoded : goal.returns-clause-decoded
returns-clause-decoded c all =
    let digits = c.args.digits.now in
    let bytes = c.loop-i.bytes in
    let long : length digits ≡ 2 * length c.args.bytes.now = c.requires in
    let room = c.loop-i.auto.bytes in
    let ended = c.loop-i-test.false in
    decode_of-even digits (omega arith)
    ∙ decode_done digits bytes c.loop-i.i (omega arith) (omega arith) (c.loop-i.invariant.decoded (ltb-true c.loop-i.worst 16 all))
