-- What a list stands for, whoever else has its elements.
use Rattle.std.specs.Prelude.{List}
use Rattle.std.specs.Arc.{arc_value}
use Rattle.map_types.specs.declared.list.Items.{Items}
use Rattle.map_types.specs.declared.list.Items.TheVariants.{Own, Shared}

abbrev pub items_of : {T : Type 0} → Items T → List T
items_of (Own items) = items.items
items_of (Shared items) = (arc_value items).items
