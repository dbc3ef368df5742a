use Rattle.std.proofs.Common.{◌≡◌, ℕ, length, sym, ap, ◌∙◌, subst, arith}
use Rattle.map_types.specs.declared.kind.Side.TheVariants.{Sys}
use Rattle.map_types.specs.Pairs.{pair_at}
use Rattle.map_types.specs.ValueLen.{value_len_of}
use Rattle.map_batch.specs.Calls.{table_of}
use Rattle.map_batch.proofs.UpdatedEach.{updated_none, updated_more, updated_stopped, updated_all, key_sized, value_sized}
use Rattle.map_batch.proofs.writes.update_each.Goals as goal

pub loop-i-init : goal.loop-i-init
loop-i-init g c = record { count = omega arith; so_far = updated_none (table_of c.args.map.now) c.args.pass.now c.args.pairs.now c.requires.can }

pub update-requires-clause-key : goal.update-requires-clause-key
update-requires-clause-key g c κs within =
    let shape = (table_of c.args.map.now).shape in
    let same : c.key.result.now ≡ (pair_at c.args.pairs.now c.loop-i.i).0 = c.key.ensures in
    ap length same ∙ key_sized shape.key_size (value_len_of shape Sys) c.args.pairs.now c.loop-i.i c.requires.sizes (omega arith)

pub update-requires-clause-value : goal.update-requires-clause-value
update-requires-clause-value g c κs within =
    let shape = (table_of c.args.map.now).shape in
    let same : c.value.result.now ≡ (pair_at c.args.pairs.now c.loop-i.i).1 = c.value.ensures in
    ap length same ∙ value_sized shape.key_size (value_len_of shape Sys) c.args.pairs.now c.loop-i.i c.requires.sizes (omega arith)

pub returns-in-Err : goal.returns-in-Err
returns-in-Err g c =
    let at : c.loop-i.i ≡ c.loop-i.done = sym c.loop-i.invariant.count in
    let key_is : c.key.result.now ≡ (pair_at c.args.pairs.now c.loop-i.done).0 = subst (λ (i : ℕ). c.key.result.now ≡ (pair_at c.args.pairs.now i).0) at c.key.ensures in
    let value_is : c.value.result.now ≡ (pair_at c.args.pairs.now c.loop-i.done).1 = subst (λ (i : ℕ). c.value.result.now ≡ (pair_at c.args.pairs.now i).1) at c.value.ensures in
    updated_stopped (table_of c.args.map.now) c.args.pass.now c.args.pairs.now c.loop-i.pass c.update.new.pass c.loop-i.done c.key.result.now c.value.result.now c.loop-i.invariant.so_far (omega arith)
    key_is value_is c.in-Err.errno c.in-Err.ensures.updates c.in-Err.ensures.refuses

pub loop-i-preserved : goal.loop-i-preserved
loop-i-preserved g c =
    let at : c.loop-i.i ≡ c.loop-i.done = sym c.loop-i.invariant.count in
    let key_is : c.key.result.now ≡ (pair_at c.args.pairs.now c.loop-i.done).0 = subst (λ (i : ℕ). c.key.result.now ≡ (pair_at c.args.pairs.now i).0) at c.key.ensures in
    let value_is : c.value.result.now ≡ (pair_at c.args.pairs.now c.loop-i.done).1 = subst (λ (i : ℕ). c.value.result.now ≡ (pair_at c.args.pairs.now i).1) at c.value.ensures in
    record {
      count = omega arith;
      so_far = updated_more (table_of c.args.map.now) c.args.pass.now c.args.pairs.now c.loop-i.pass c.update.new.pass c.loop-i.done c.key.result.now c.value.result.now c.loop-i.invariant.so_far (omega arith)
          key_is value_is c.in-Ok.field-0 c.in-Ok.ensures.updates;
    }

pub returns : goal.returns
returns g c = updated_all (table_of c.args.map.now) c.args.pass.now c.args.pairs.now c.loop-i.pass c.loop-i.done c.loop-i.invariant.so_far (omega arith)
