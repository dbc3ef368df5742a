-- What is judged of the pushes of list sets.
use Rattle.std.specs.Prelude.{◌≡◌, ◌+◌, ◌≤◌, ℕ, Bool, true, false, length}
use Rattle.place_words.specs.Bodies.{numbers}
use Rattle.place_words.specs.Sets.{ListSet, is_listed, pushed_free}
use Rattle.lru_lists.specs.Sets.{SetView, IsSet, listed}

-- a set as parts tell it
abbrev pub set_of : SetView → ListSet
set_of set = record { lists = listed set; free = numbers set.free.bodies }

-- the free list has room for all elements
abbrev pub HasFreeRoom : SetView → Type 0
HasFreeRoom set = set.elements ≤ length set.free.bodies + set.free.spare

-- A push is lawful exactly where its element is listed, and the set is then as after it.
pub record PushJudged (e : ℕ) (before after : SetView) (lawful : Bool) : Type 0 where
  pub allowed : lawful ≡ true → is_listed e (listed before) ≡ true
  pub set : lawful ≡ true → set_of after ≡ pushed_free e (set_of before)
  pub room : lawful ≡ true → HasFreeRoom after
  pub bound : lawful ≡ true → after.elements ≡ before.elements
  pub whole : lawful ≡ true → IsSet after
  pub refused : lawful ≡ false → is_listed e (listed before) ≡ false
