use Rattle.std.proofs.Common.{◌≡◌, ◌++◌, rules, arith}
use Rattle.std.proofs.Math.Nat.{mul-le-mul_left}
use Rattle.map_types.proofs.CreationLemmas.{bounds_of_shape}
use Rattle.map_script.proofs.PairPlaces.{pairs_step}
use Rattle.map_script.proofs.verbs.pairs_to_end.Goals as goal

pub overflow_add-count : goal.overflow_add-count
overflow_add-count c =
    let bounds = bounds_of_shape c.args.shape.now c.requires in
    omega (arith, mul-le-mul_left c.loop-places.count bounds.some_key, c.loop-places.invariant.0, c.loop-places.keys.ok)

pub loop-places-preserved : goal.loop-places-preserved
loop-places-preserved c =
    let so_far = c.loop-places.invariant in
    let keys = c.loop-places.keys.items in
    let values = c.loop-places.values.items in
    let key = c.in_ok-key.key in
    let value = c.in_ok-value.value in
    let keys_are : c.extend_from_slice.new.self.items ≡ keys ++ key = search rules in
    let values_are : c.extend_from_slice-in-loop-places.new.self.items ≡ values ++ value = search rules in
    pairs_step c.args.shape.now c.loop-places.count keys values key value c.loop-places.places c.bytes.new.self c.bytes-in-loop-places.new.self
    c.value_len-value_size.ensures so_far.0 so_far.1 c.in_ok-key.ensures c.in_ok-value.ensures keys_are values_are so_far.2

pub loop-places-preserved-in_ok-extend_from_slice-2 : goal.loop-places-preserved-in_ok-extend_from_slice-2
loop-places-preserved-in_ok-extend_from_slice-2 c =
    let so_far = c.loop-places.invariant in
    let keys = c.loop-places.keys.items in
    let values = c.loop-places.values.items in
    let key = c.in_ok-key.key in
    let value = c.in_ok-value.value in
    let keys_are : c.extend_from_slice.new.self.items ≡ keys ++ key = search rules in
    let values_are : c.extend_from_slice-in-loop-places.new.self.items ≡ values ++ value = search rules in
    pairs_step c.args.shape.now c.loop-places.count keys values key value c.loop-places.places c.bytes.new.self c.bytes-in-loop-places.new.self
    c.value_len-value_size.ensures so_far.0 so_far.1 c.in_ok-key.ensures c.in_ok-value.ensures keys_are values_are so_far.2
