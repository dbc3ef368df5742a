use Rattle.std.proofs.Common.{refl}
use Rattle.map_types.specs.declared.kind.DomainId.TheVariants.{Bucket}
use Rattle.place_table.proofs.FirstSlots.{bucket_first}
use Rattle.place_table.proofs.create.bucket_slot.Goals as goal

pub returns : goal.returns
returns c = λ shape bucket within.
    bucket_first shape bucket c.empty.result c.slot_with.result within c.slot_with.ensures.content c.empty.ensures (c.slot_with.ensures.kept (Bucket bucket) (refl, refl))
