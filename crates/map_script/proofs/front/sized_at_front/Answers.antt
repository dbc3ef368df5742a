use Rattle.std.proofs.Common.{◌≡◌, ◌*◌, length, Ok, rules, arith}
use Rattle.hex.specs.Hex.{decode_of}
use Rattle.map_script.proofs.FrontLemmas.{decoded_token, parts_joined}
use Rattle.map_script.proofs.front.sized_at_front.Goals as goal

pub split_first_chunk-requires : goal.split_first_chunk-requires
split_first_chunk-requires g c = let twice = c.requires.twice in let small = c.requires.some.1 in omega arith

pub returns : goal.returns
returns g c =
    let size = g.row.BYTES in
    let digits = c.in_ok-digits.digits.now in
    let bytes = c.decode_sized.new.bytes in
    let split = c.in_ok-digits.ensures.cases in
    let is : decode_of digits ≡ Ok bytes = c.decode_sized.ensures c.if-not-decode_sized.false in
    let sized : length digits ≡ 2 * size = search rules in
    let whole : c.in_ok-copy.copy ≡ bytes = search rules in
    rw whole (decoded_token size digits bytes c.in_ok-digits.rest.now c.args.text.now c.requires.some.0 sized is (parts_joined g.row.DIGITS c.args.text.now digits c.in_ok-digits.rest.now split.0 split.1))
