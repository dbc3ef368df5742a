-- Each call as a step of histories, and the room of the free list.
use Rattle.std.proofs.Common.{◌≡◌, ℕ, ◌+◌, ◌≤◌, List, [], ◌∷◌, length, drop, Some, refl, ap, sym, arith}
use Rattle.std.specs.Prelude.{slice_get}
use Rattle.std.proofs.lemmas.Option.{same_Some}
use Rattle.map_types.specs.ElementLists.{IsHead}
use Rattle.map_types.specs.Stored.{Stored}
use Rattle.map_types.specs.declared.row.Row.{Row}
use Rattle.percpu_values.specs.BodyList.{BodyList, pushed, popped}
use Rattle.place_words.specs.Bodies.{numbers}
use Rattle.place_words.specs.Locals.{new_locals, made_pending, not_pending}
use Rattle.local_lists.specs.LocalLists.{LocalView, local_told, empty_local, with_pending_row, without_pending}

pub told_empty : (elements cpu : ℕ) → local_told (empty_local elements cpu) ≡ new_locals cpu
told_empty elements cpu = refl

pub told_with_row : (row : Row) (lists : LocalView) → local_told (with_pending_row row lists) ≡ made_pending row.hash row.element (local_told lists)
told_with_row row lists = refl

pub told_without : (e : ℕ) (lists : LocalView) → local_told (without_pending e lists) ≡ not_pending e (local_told lists)
told_without e lists = refl

-- the head of free is taken

pub top_is_head : (bodies : List Stored) (body : Stored) → Some body ≡ slice_get bodies 0 → IsHead body.element (numbers bodies)
top_is_head [] body top = absurd cc
top_is_head (first ∷ bodies) body top = ap (λ (b : Stored). b.element) (sym (same_Some body first top))

pub popped_numbers : (free : BodyList) → numbers (popped free).bodies ≡ drop 1 (numbers free.bodies)
popped_numbers free = by free.bodies
  where
    by : (bodies : List Stored) → numbers (popped (record free { bodies = bodies })).bodies ≡ drop 1 (numbers bodies)
    by [] = refl
    by (body ∷ bodies) = refl

-- how many bodies can be free stays

pub popped_room : (free : BodyList) → length (popped free).bodies + (popped free).spare ≡ length free.bodies + free.spare
popped_room free = by free.bodies
  where
    by : (bodies : List Stored) → length (popped (record free { bodies = bodies })).bodies + (popped (record free { bodies = bodies })).spare ≡ length bodies + free.spare
    by [] = refl
    by (body ∷ bodies) = omega arith

pub pushed_room : (body : Stored) (free : BodyList) → 1 ≤ free.spare → length (pushed body free).bodies + (pushed body free).spare ≡ length free.bodies + free.spare
pushed_room body free room = omega arith
