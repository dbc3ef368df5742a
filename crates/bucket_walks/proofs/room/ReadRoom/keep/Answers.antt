use Rattle.std.proofs.Common.{length, ap, ◌∙◌, arith}
use Rattle.std.proofs.Math.Nat.{mul-le-mul_right}
use Rattle.bucket_walks.proofs.Gathered.{few_kept, keeps, kept_fill}
use Rattle.bucket_walks.proofs.room.ReadRoom.keep.Goals as goal

pub overflow_mul-count : goal.overflow_mul-count
overflow_mul-count c =
    let own = c.self.inside in
    let few = few_kept own c.self.view_is c.args.count c.requires in
    let less = mul-le-mul_right {m = c.args.count} {n = own.count} own.key_size few in
    omega (arith, less, c.self.invariant.1, c.self.ranges)

pub overflow_mul-count-2 : goal.overflow_mul-count-2
overflow_mul-count-2 c =
    let own = c.self.inside in
    let few = few_kept own c.self.view_is c.args.count c.requires in
    let less = mul-le-mul_right {m = c.args.count} {n = own.count} own.value_size few in
    omega (arith, less, c.self.invariant.2, c.self.ranges)

pub invariant_of-self : goal.invariant_of-self
invariant_of-self c =
    let own = c.self.inside in
    let few = few_kept own c.self.view_is c.args.count c.requires in (
      omega (arith, few, c.self.invariant.0),
      ap length c.truncate.ensures.items ∙ kept_fill c.args.count own.count own.key_size own.keys.items few c.self.invariant.1,
      ap length c.truncate-2.ensures.items ∙ kept_fill c.args.count own.count own.value_size own.values.items few c.self.invariant.2,
      c.self.invariant.3,
      omega (arith, c.self.invariant.4, c.truncate.ensures.capacity),
      omega (arith, c.self.invariant.5, c.truncate-2.ensures.capacity),
    )

pub returns : goal.returns
returns c = keeps c.self.inside c.self.view_is c.args.count c.truncate.new.self.items c.truncate-2.new.self.items c.requires c.truncate.ensures.items c.truncate-2.ensures.items
