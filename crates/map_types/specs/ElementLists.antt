-- Lists of elements, head first, and functions of numbers.
use Rattle.std.specs.Prelude.{◌≡◌, ℕ, suc, Bool, true, false, ◌==◌, ◌<◌, List, [], ◌∷◌, Option, None, Some, if◌then◌else◌}

-- the function that gives x at i, and what f gives elsewhere
unfoldable pub put : {A : Type 0} → (ℕ → A) → ℕ → A → ℕ → A
put f i x j = if j == i then x else f j

abbrev pub one : Bool → ℕ
one true = 1
one false = 0

-- how often an element stands in a list
abbrev pub times : ℕ → List ℕ → ℕ
times e [] = 0
times e (x ∷ xs) = if x == e then suc (times e xs) else times e xs

abbrev pub IsIn : ℕ → List ℕ → Type 0
IsIn e xs = 0 < times e xs

abbrev pub IsHead : ℕ → List ℕ → Type 0
IsHead e [] = ⊥
IsHead e (x ∷ xs) = x ≡ e

-- the list without the element where it stands first
abbrev pub without : ℕ → List ℕ → List ℕ
without e [] = []
without e (x ∷ xs) = if x == e then xs else x ∷ without e xs

-- the element before e, where `last` stands before the list
abbrev pub before_from : Option ℕ → ℕ → List ℕ → Option ℕ
before_from last e [] = None
before_from last e (x ∷ xs) = if x == e then last else before_from (Some x) e xs

-- the neighbour of e towards the head, none where e is the head
abbrev pub neighbour : ℕ → List ℕ → Option ℕ
neighbour e xs = before_from None e xs
