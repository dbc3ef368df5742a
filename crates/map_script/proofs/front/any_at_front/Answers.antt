use Rattle.std.proofs.Common.{◌≡◌, ◌*◌, length, Ok, ◌∙◌, rules, arith}
use Rattle.hex.specs.Hex.{decode_of}
use Rattle.hex.proofs.HexLemmas.{decode_of-ok}
use Rattle.map_script.proofs.FrontLemmas.{decoded_token, taken_whole, parts_joined}
use Rattle.map_script.proofs.front.any_at_front.Goals as goal

pub returns : goal.returns
returns c =
    let size = c.args.size in
    let digits = c.in_ok-digits.digits.now in
    let bytes = c.decode_digits.new.bytes in
    let room = c.in_ok-bytes.bytes.items in
    let split = c.in_ok-digits.ensures.cases in
    let is : decode_of digits ≡ Ok bytes = c.decode_digits.ensures c.if-not-decode_digits.false in
    let sized : length digits ≡ 2 * size = split.3 in
    let twice : length digits ≡ 2 * length bytes = (decode_of-ok digits bytes is).2 in
    let made : c.in_ok-bytes.bytes.len ≡ size = search rules in
    let fits : length room ≡ c.in_ok-bytes.bytes.len = search rules in
    let same : c.in_ok-copy.copy ≡ c.as_slice.result.now = search rules in
    let whole : c.in_ok-copy.copy ≡ bytes = same ∙ (c.as_slice.ensures.value ∙ taken_whole c.in_ok-bytes.bytes.len bytes room (omega arith) fits) in
    rw whole (decoded_token size digits bytes c.in_ok-digits.rest.now c.args.text.now (omega arith) sized is (parts_joined (2 * size) c.args.text.now digits c.in_ok-digits.rest.now split.1 split.2))
