-- How large replies may be.
use Rattle.std.proofs.Common.{Bool, true, false, cond, ℕ, ◌+◌, ◌*◌, ◌≤◌, min, arith}
use Rattle.std.proofs.Math.Nat.{mul-le-mul_right, mul-le-mul_left}
use Rattle.map_types.specs.declared.attr.Shape.{Shape}
use Rattle.map_types.specs.declared.call.Verb.{Verb}
use Rattle.map_types.specs.declared.call.Verb.TheVariants.{Lookup, Update, Delete, Take, Next, BatchRead, BatchUpdate, BatchDelete, Each}
use Rattle.map_types.specs.declared.kind.Side.TheVariants.{Prog, Sys}
use Rattle.map_types.specs.Creation.{IsShape}
use Rattle.map_types.specs.Kind.{is_percpu}
use Rattle.map_types.specs.ValueLen.{round8, value_len_of}
use Rattle.map_types.proofs.CreationLemmas.{bounds_of_shape}
use Rattle.map_script.specs.Grammar.{reply_bytes}

-- the entries of a batch are no more than those of the map
pub batch_bounded : (shape : Shape) (count : ℕ) → IsShape shape → min count shape.elements * (shape.key_size + value_len_of shape Sys) ≤ 268435456
batch_bounded shape count accepted =
    let bounds = bounds_of_shape shape accepted in
    let few : min count shape.elements ≤ shape.elements = omega arith in
    omega (arith, mul-le-mul_right (shape.key_size + value_len_of shape Sys) few, bounds.pool_bounded)

-- a key and a value, which is one entry of the map
entry_bounded : (shape : Shape) → IsShape shape → shape.key_size + value_len_of shape Sys ≤ 268435456
entry_bounded shape accepted =
    let bounds = bounds_of_shape shape accepted in
    let some : 1 ≤ shape.elements = omega arith in
    omega (arith, mul-le-mul_right (shape.key_size + value_len_of shape Sys) some, bounds.pool_bounded)

-- a value of one CPU is no longer than one of the system side
value_below : (shape : Shape) → IsShape shape → shape.value_size ≤ value_len_of shape Sys
value_below shape accepted = by (is_percpu shape.kind)
  where
    by : (percpu : Bool) → shape.value_size ≤ cond percpu (shape.cpus * round8 shape.value_size) shape.value_size
    by true =
        let bounds = bounds_of_shape shape accepted in
        omega (arith, mul-le-mul_right {m = 1} {n = shape.cpus} (round8 shape.value_size) bounds.some_cpu)
    by false = omega arith

-- all elements with the values of one CPU
pub each_bounded : (shape : Shape) → IsShape shape → shape.elements * (shape.key_size + shape.value_size) ≤ 268435456
each_bounded shape accepted =
    let bounds = bounds_of_shape shape accepted in
    let one : shape.value_size ≤ value_len_of shape Sys = value_below shape accepted in
    let wider : shape.key_size + shape.value_size ≤ shape.key_size + value_len_of shape Sys = omega (arith, one) in
    omega (arith, mul-le-mul_left shape.elements wider, bounds.pool_bounded)

pub reply_bounded : (shape : Shape) (verb : Verb) → IsShape shape → reply_bytes shape verb ≤ 268435456
reply_bounded shape (Lookup Prog key) accepted = let bounds = bounds_of_shape shape accepted in omega arith
reply_bounded shape (Lookup Sys key) accepted = omega (arith, entry_bounded shape accepted)
reply_bounded shape (Update side flags key value) accepted = omega arith
reply_bounded shape (Delete key) accepted = omega arith
reply_bounded shape (Take key) accepted = omega (arith, entry_bounded shape accepted)
reply_bounded shape (Next key) accepted = let bounds = bounds_of_shape shape accepted in omega arith
reply_bounded shape (BatchRead remove count start flags) accepted = batch_bounded shape count accepted
reply_bounded shape (BatchUpdate flags pairs) accepted = omega arith
reply_bounded shape (BatchDelete flags keys) accepted = omega arith
reply_bounded shape (Each flags stop) accepted = each_bounded shape accepted
