-- The turns of a freelist's lock. A freelist is a stack of free elements, top first. The rules are those of the kernel's
-- `__pcpu_freelist_push` and `__pcpu_freelist_pop`.
use Rattle.std.specs.Prelude.{◌≡◌, ℕ, List, [], ◌∷◌}
use Rattle.place_words.specs.declared.free_part.FreePart.{FreePart}
use Rattle.place_words.specs.declared.free_part.FreePart.TheVariants.{Pushed, Popped, FoundEmpty}
use Rattle.map_types.specs.ElementLists.{IsHead}

-- where a turn may be this part: a pop takes what is on top, and only an empty stack is found empty
abbrev pub AllowsOnFreelist : FreePart → List ℕ → Type 0
AllowsOnFreelist (Pushed e) stack = Unit {0}
AllowsOnFreelist (Popped e) stack = IsHead e stack
AllowsOnFreelist FoundEmpty stack = stack ≡ []

abbrev pub without_top : List ℕ → List ℕ
without_top [] = []
without_top (top ∷ stack) = stack

-- the stack after a part that was allowed there
abbrev pub freelist_after : FreePart → List ℕ → List ℕ
freelist_after (Pushed e) stack = e ∷ stack
freelist_after (Popped e) stack = without_top stack
freelist_after FoundEmpty stack = stack
