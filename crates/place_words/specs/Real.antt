-- What lies under a lock after any number of its turns is real: elements of the map, each once at most.
use Rattle.std.specs.Prelude.{◌≡◌, ℕ, ◌≤◌, ◌++◌, List, nat_lt}
use Rattle.map_types.specs.declared.attr.Shape.{Shape}
use Rattle.map_types.specs.declared.kind.DomainId.{DomainId}
use Rattle.map_types.specs.ElementLists.{one, times}
use Rattle.place_words.specs.declared.history.Entry.{Entry}
use Rattle.place_words.specs.Histories.{Content, content}
use Rattle.place_words.specs.Moves.{elements_in}

-- each element of the map stands there once at most, and nothing else does
abbrev pub IsReal : Shape → Content → Type 0
IsReal shape here = (e : ℕ) → times e (elements_in here) ≤ one (nat_lt e shape.elements)

-- so it does under a lock after any number of its turns
abbrev pub IsAlwaysReal : Shape → DomainId → List Entry → Type 0
IsAlwaysReal shape lock turns = (before after : List Entry) → turns ≡ before ++ after → IsReal shape (content shape lock before)
