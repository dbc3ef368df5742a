use Rattle.std.proofs.Common.{rules, ◌≡◌, ◌+◌, ◌-◌, ◌*◌, ◌++◌, length, List, ℕ, Some, None, sym, ap, subst, ◌∙◌, arith}
use Rattle.std.specs.Prelude.{vec_len}
use Rattle.map_types.specs.Pairs.{HaveSizes}
use Rattle.record_reading.specs.ReplyReaders.{pair}
use Rattle.record_reading.proofs.PairsLemmas.{pairs_more, pairs_none, pairs_fill, pairs_done}
use Rattle.record_reading.proofs.pairs.pairs.Goals as goal

pub returns-in_default : goal.returns-in_default
returns-in_default c =
    let inside = c.loop-i-test.true in
    let none : pair c.args.shape.now c.args.side c.loop-i.rest.now ≡ None = search rules in
    pairs_none c.args.shape.now c.args.side c.args.count (c.args.count - c.loop-i.i) (c.args.count - (c.loop-i.i + 1)) c.args.text.now c.loop-i.rest.now c.loop-i.keys.items c.loop-i.values.items c.loop-i.invariant (omega arith) none

pub loop-i-preserved : goal.loop-i-preserved
loop-i-preserved c =
    let inside = c.loop-i-test.true in
    let read : pair c.args.shape.now c.args.side c.loop-i.rest.now ≡ Some ((c.in-Some.key, c.in-Some.value), c.in-Some.after.now) = search rules in
    let keys : c.extend_from_slice.new.self.items ≡ c.loop-i.keys.items ++ c.in-Some.key = c.in_ok-extend_from_slice.ensures.items ∙ ap (λ (k : List ℕ). c.loop-i.keys.items ++ k) c.as_slice.ensures in
    let values : c.extend_from_slice-in-loop-i.new.self.items ≡ c.loop-i.values.items ++ c.in-Some.value = c.in_ok-extend_from_slice-2.ensures.items ∙ ap (λ (k : List ℕ). c.loop-i.values.items ++ k) c.as_slice-in-loop-i.ensures in
    rw (keys, values)
    (pairs_more c.args.shape.now c.args.side c.args.count (c.args.count - c.loop-i.i) (c.args.count - (c.loop-i.i + 1)) c.args.text.now c.loop-i.rest.now c.loop-i.keys.items c.loop-i.values.items c.loop-i.invariant (omega arith) c.in-Some.key c.in-Some.value c.in-Some.after.now read)

pub of-found-requires-clause-keys_fill : goal.of-found-requires-clause-keys_fill
of-found-requires-clause-keys_fill c =
    let ended = c.loop-i-test.false in
    let long : length c.loop-i.keys.items ≡ vec_len c.loop-i.keys = search rules in
    sym long ∙ (pairs_fill c.args.shape.now c.args.side c.args.count (c.args.count - c.loop-i.i) c.args.text.now c.loop-i.rest.now c.loop-i.keys.items c.loop-i.values.items c.loop-i.invariant (omega arith)).0

pub of-found-requires-clause-values_fill : goal.of-found-requires-clause-values_fill
of-found-requires-clause-values_fill c =
    let ended = c.loop-i-test.false in
    let long : length c.loop-i.values.items ≡ vec_len c.loop-i.values = search rules in
    sym long ∙ (pairs_fill c.args.shape.now c.args.side c.args.count (c.args.count - c.loop-i.i) c.args.text.now c.loop-i.rest.now c.loop-i.keys.items c.loop-i.values.items c.loop-i.invariant (omega arith)).1
    ∙ ap (λ n. c.args.count * n) (sym c.value_len-value_size.ensures)

pub returns : goal.returns
returns c =
    let ended = c.loop-i-test.false in
    let shape = c.args.shape.now in
    pairs_done shape c.args.side c.args.count (c.args.count - c.loop-i.i) c.args.text.now c.loop-i.rest.now c.loop-i.keys.items c.loop-i.values.items c.loop-i.invariant (omega arith) c.of-found.result
    (λ pairs sizes. c.of-found.ensures.joined pairs (subst (λ n. HaveSizes shape.key_size n pairs) (sym c.value_len-value_size.ensures) sizes))
