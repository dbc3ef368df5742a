-- Lists of elements, each with its key and its values, as a bucket has them, head first.
use Rattle.std.specs.Prelude.{ℕ, ◌==◌, Bool, List, [], ◌∷◌, ◌++◌, Option, None, Some, map, find, bytes_eq, IsFalse}
use Rattle.std.specs.List.{list_any, before_first, after_first}
use Rattle.map_types.specs.Stored.{Stored}

abbrev pub has_key : List ℕ → Stored → Bool
has_key key body = bytes_eq body.key key

abbrev pub has_number : ℕ → Stored → Bool
has_number element body = body.element == element

-- no key stands twice
abbrev pub HasDistinctKeys : List Stored → Type 0
HasDistinctKeys [] = Unit {0}
HasDistinctKeys (body ∷ bodies) = IsFalse (list_any (has_key body.key) bodies) × HasDistinctKeys bodies

-- the element that holds the key, and the list without it
abbrev pub present : List ℕ → List Stored → Option Stored
present key bodies = find (has_key key) bodies

abbrev pub without_key : List ℕ → List Stored → List Stored
without_key key bodies = before_first (has_key key) bodies ++ after_first (has_key key) bodies

-- the body of an element, and the list without it
abbrev pub body_of : ℕ → List Stored → Option Stored
body_of element bodies = find (has_number element) bodies

abbrev pub without_element : ℕ → List Stored → List Stored
without_element element bodies =
    before_first (has_number element) bodies ++ after_first (has_number element) bodies

-- the key at the head, none where the list is empty
abbrev pub first_key : List Stored → Option (List ℕ)
first_key [] = None
first_key (body ∷ bodies) = Some body.key

-- the key after this one, none where it is the last or isn't there
abbrev pub next_key : List ℕ → List Stored → Option (List ℕ)
next_key key bodies = first_key (after_first (has_key key) bodies)

-- the numbers of the elements
abbrev pub numbers : List Stored → List ℕ
numbers bodies = map (λ (body : Stored). body.element) bodies
