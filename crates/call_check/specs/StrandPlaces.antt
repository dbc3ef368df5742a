-- Where things stand in the tables by which calls are judged.
use Rattle.std.specs.Prelude.{ℕ, ◌+◌, ◌*◌, List, filter, length, map}
use Rattle.std.specs.List.{range_with_len}
use Rattle.map_types.specs.declared.attr.Shape.{Shape}
use Rattle.place_words.specs.Locks.{is_lock, lock_count, lock_named}

-- A map has 16 CPUs at most. This is the place of a CPU in a phase.
abbrev pub cell : ℕ → ℕ → ℕ
cell phase cpu = phase * 16 + cpu

-- among the histories that of the lock with a number stands behind those of the locks with lesser numbers
abbrev pub place_of : Shape → ℕ → ℕ
place_of shape number = length (filter (λ k. is_lock shape (lock_named shape k)) (range_with_len 0 number))

abbrev pub places_of : Shape → List ℕ
places_of shape = map (place_of shape) (range_with_len 0 (lock_count shape))
