-- Where the rotation cursor of a list set stands.
use Rattle.std.specs.Prelude.{IfSome}
use Rattle.map_types.specs.ElementLists.{IsIn}
use Rattle.map_types.specs.Listed.{elements_of}
use Rattle.place_words.specs.Histories.{Content, global_in, own_in}
use Rattle.place_words.specs.Sets.{ListSet}

-- on an inactive element, or at the mark
abbrev pub IsCursorWithin : ListSet → Type 0
IsCursorWithin set = IfSome set.lists.cursor (λ e. IsIn e (elements_of set.lists.inactive))

-- what lies under a lock has its cursor there, where it is a list set
abbrev pub HasCursorWithin : Content → Type 0
HasCursorWithin content = IfSome (global_in content) IsCursorWithin × IfSome (own_in content) IsCursorWithin
