-- Where the elements of a map stand in what it holds.
use Rattle.std.specs.Prelude.{◌≡◌, ℕ, ◌<◌, nat_lt, IsTrue, All, List, ◌++◌}
use Rattle.std.specs.List.{concat, flat_map}
use Rattle.map_types.specs.declared.attr.Shape.{Shape}
use Rattle.map_types.specs.ElementLists.{one, times}
use Rattle.map_types.specs.Kind.{is_lru}
use Rattle.place_words.specs.declared.finals.Finals.{Finals}
use Rattle.place_words.specs.declared.finals.LocalFinal.{LocalFinal}
use Rattle.place_words.specs.declared.finals.SetFinal.{SetFinal}
use Rattle.place_words.specs.Bodies.{numbers}

-- the elements in buckets; those that are free, on freelists or in the lists of a map that evicts; and all that are in these lists
abbrev pub in_buckets : Finals → List ℕ
in_buckets finals = flat_map numbers finals.buckets

abbrev pub all_free : Finals → List ℕ
all_free finals =
    concat finals.freelists ++ (flat_map (λ (set : SetFinal). set.free) finals.sets ++ flat_map (λ (local : LocalFinal). local.free) finals.locals)

abbrev pub on_lists : Finals → List ℕ
on_lists finals =
    flat_map (λ (set : SetFinal). set.free ++ (set.active ++ set.inactive)) finals.sets ++ flat_map (λ (local : LocalFinal). local.free ++ local.pending) finals.locals

-- each element of the map stands in the list once, and nothing else does
abbrev pub HasEachOnce : Shape → List ℕ → Type 0
HasEachOnce shape list = (e : ℕ) → times e list ≡ one (nat_lt e shape.elements)

-- Each element stands in one place, in a bucket, free or as a spare, and stands there once. On a map that evicts it is on one list
-- too, free, pending, active or inactive, and stands there once. What is marked are elements of the map.
pub record HoldsEachOnce (shape : Shape) (finals : Finals) : Type 0 where
  pub in_one_place : HasEachOnce shape (in_buckets finals ++ (all_free finals ++ finals.spares))
  pub on_one_list : IsTrue (is_lru shape.kind) → HasEachOnce shape (on_lists finals)
  pub marked : All (λ (e : ℕ). e < shape.elements) finals.marked
