use Rattle.std.proofs.Common.{◌≡◌, ◌+◌, ◌-◌, ◌∙◌, sym, ap, take, drop, arith, true, false}
use Rattle.std.specs.List.{list_all}
use Rattle.std.proofs.lemmas.List.{take_rest}
use Rattle.map_types.specs.ValueLen.{round8}
use Rattle.record_reading.proofs.PaddedLemmas.{is_zero, field_more, field_other}
use Rattle.record_reading.proofs.values.are_padded.Goals as goal

pub returns-then-not-are_zeros : goal.returns-then-not-are_zeros
returns-then-not-are_zeros c =
    let rest = c.loop-i.rest.now in
    let size = c.args.size in
    let left = c.args.parts - (c.loop-i.i + 1) in
    let inside = c.loop-i-test.true in
    let front : c.split_at.result.0.now ≡ take (round8 size) rest = c.split_at.ensures.front ∙ ap (λ n. take n rest) c.next_multiple_of-whole.ensures.value in
    let other : list_all is_zero (drop size (take (round8 size) rest)) ≡ false =
    sym (ap (λ f. list_all is_zero (drop size f)) front) ∙ ap (list_all is_zero) (sym (take_rest c.split_at.result.0.now size)) ∙ sym c.are_zeros.ensures ∙ c.if-not-are_zeros.true in
    sym (field_other c.args.parts (c.args.parts - c.loop-i.i) left size c.args.fields.now rest c.loop-i.invariant (omega arith) other)

pub loop-i-preserved : goal.loop-i-preserved
loop-i-preserved c =
    let rest = c.loop-i.rest.now in
    let size = c.args.size in
    let left = c.args.parts - (c.loop-i.i + 1) in
    let inside = c.loop-i-test.true in
    let front : c.split_at.result.0.now ≡ take (round8 size) rest = c.split_at.ensures.front ∙ ap (λ n. take n rest) c.next_multiple_of-whole.ensures.value in
    let back : c.split_at.result.1.now ≡ drop (round8 size) rest = c.split_at.ensures.back ∙ ap (λ n. drop n rest) c.next_multiple_of-whole.ensures.value in
    let all : list_all is_zero (drop size (take (round8 size) rest)) ≡ true =
    sym (ap (λ f. list_all is_zero (drop size f)) front) ∙ ap (list_all is_zero) (sym (take_rest c.split_at.result.0.now size)) ∙ sym c.are_zeros.ensures ∙ c.if-not-are_zeros.false in
    rw back (field_more c.args.parts (c.args.parts - c.loop-i.i) left size c.args.fields.now rest c.loop-i.invariant (omega arith) all)
