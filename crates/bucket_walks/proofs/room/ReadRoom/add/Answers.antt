use Rattle.std.proofs.Common.{length, ap, ◌∙◌, arith}
use Rattle.std.proofs.lemmas.List.{with_items_is}
use Rattle.bucket_walks.proofs.Gathered.{key_fits, value_fits, pair_more, below, fill_more, key_sized, value_sized}
use Rattle.bucket_walks.proofs.room.ReadRoom.add.Goals as goal

pub copy_pair-requires-clause-key_room : goal.copy_pair-requires-clause-key_room
copy_pair-requires-clause-key_room c = key_fits c.self.inside c.self.view_is c.args.shape.now c.args.side c.requires.of_map _ c.requires.room c.self.invariant.1 c.self.invariant.4

pub copy_pair-requires-clause-value_room : goal.copy_pair-requires-clause-value_room
copy_pair-requires-clause-value_room c = value_fits c.self.inside c.self.view_is c.args.shape.now c.args.side c.requires.of_map _ c.requires.room c.self.invariant.2 c.self.invariant.5

pub overflow_add-self : goal.overflow_add-self
overflow_add-self c =
    let one = below c.self.inside c.self.view_is c.requires.room in
    omega (arith, one, c.self.ranges.1)

pub invariant_of-self : goal.invariant_of-self
invariant_of-self c =
    let one = below c.self.inside c.self.view_is c.requires.room in
    let long = c.copy_pair.auto.value ∙ c.deref_mut.ensures.len in
    let key = key_sized c.self.inside c.self.view_is c.args.shape.now c.args.side c.requires.of_map c.args.body.now c.requires.sized in
    let value = value_sized c.self.inside c.self.view_is c.args.shape.now c.args.side c.requires.of_map c.args.cpu c.args.body.now c.requires.sized c.requires.cpu in (
      omega (arith, one),
      fill_more c.self.inside.count c.self.inside.key_size c.self.inside.keys.items _ c.args.body.now.key c.self.invariant.1 c.copy_pair.ensures.keys key,
      fill_more c.self.inside.count c.self.inside.value_size c.self.inside.values.items _ _ c.self.invariant.2 c.copy_pair.ensures.values value,
      ap length (with_items_is c.self.inside.value c.copy_pair.new.value long) ∙ (c.copy_pair.ensures.value ∙ (ap length c.deref_mut.ensures.value ∙ c.self.invariant.3)),
      omega (arith, c.self.invariant.4, c.copy_pair.ensures.key_room),
      omega (arith, c.self.invariant.5, c.copy_pair.ensures.value_room),
    )

pub returns : goal.returns
returns c =
    let key = key_sized c.self.inside c.self.view_is c.args.shape.now c.args.side c.requires.of_map c.args.body.now c.requires.sized in
    let value = value_sized c.self.inside c.self.view_is c.args.shape.now c.args.side c.requires.of_map c.args.cpu c.args.body.now c.requires.sized c.requires.cpu in
    pair_more c.self.inside c.self.view_is c.args.body.now.key _ c.copy_pair.new.keys.items c.copy_pair.new.values.items c.self.invariant.1 c.self.invariant.2 key value c.copy_pair.ensures.keys c.copy_pair.ensures.values
