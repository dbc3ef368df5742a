use Rattle.std.proofs.Common.{◌≡◌, ◌*◌, length, take, drop, Ok, true, sym, ap, ◌∙◌, rules, arith}
use Rattle.std.specs.List.{list_all}
use Rattle.hex.specs.Hex.{decode_of}
use Rattle.map_script.proofs.FrontLemmas.{taken_whole}
use Rattle.record_reading.specs.Readers.{is_lower_hex}
use Rattle.record_reading.proofs.HexLemmas.{bytes_found}
use Rattle.record_reading.proofs.hexadecimal.long_bytes.Goals as goal

pub returns : goal.returns
returns c =
    let size = c.args.size in
    let text = c.args.text.now in
    let digits = c.split_at.result.0.now in
    let found = c.decode.new.bytes in
    let room = c.in_ok-decoded.decoded.items in
    let long = c.if-text-size.false in
    let front : digits ≡ take (2 * size) text = c.split_at.ensures.front in
    let back : c.split_at.result.1.now ≡ drop (2 * size) text = c.split_at.ensures.back in
    let lower : list_all is_lower_hex digits ≡ true = sym c.decode.ensures.judged ∙ c.if-not-decode.false in
    let decodes : decode_of digits ≡ Ok found = c.decode.ensures.decoded c.if-not-decode.false in
    let twice = c.decode.ensures.room in
    let made : c.in_ok-decoded.decoded.len ≡ size = search rules in
    let fits : length room ≡ c.in_ok-decoded.decoded.len = search rules in
    let same : c.in_ok-from_slice.field-0 ≡ c.as_slice.result.now = search rules in
    let room_is : length found ≡ c.in_ok-decoded.decoded.len = search rules in
    let whole : c.in_ok-from_slice.field-0 ≡ found = same ∙ (c.as_slice.ensures.value ∙ taken_whole c.in_ok-decoded.decoded.len found room room_is fits) in
    rw (whole, back) (bytes_found size text found (omega arith) (ap (list_all is_lower_hex) (sym front) ∙ lower) (ap decode_of (sym front) ∙ decodes))
