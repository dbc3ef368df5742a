-- The words of a table: where they stand, and what they are at first.
use Rattle.std.specs.Prelude.{ℕ, ◌+◌, ◌*◌, ◌^◌, List, ◌++◌, map, replicate, Option, None, Some}
use Rattle.std.specs.List.{range_with_len}
use Rattle.map_types.specs.declared.attr.Shape.{Shape}
use Rattle.place_words.specs.Codes.{owner_code, home_code}
use Rattle.place_words.specs.Locks.{lock_count}
use Rattle.place_words.specs.Openings.{opening_owner}
use Rattle.place_words.specs.OpeningState.{opening_home}

-- First those of the locks, then the owners of the elements, their homes, and their bits, and last the one that tickets are drawn
-- from.
abbrev pub word_count : Shape → ℕ
word_count shape = lock_count shape + 3 * shape.elements + 1

abbrev pub owner_word : Shape → ℕ → ℕ
owner_word shape e = lock_count shape + e

abbrev pub home_word : Shape → ℕ → ℕ
home_word shape e = lock_count shape + shape.elements + e

abbrev pub bit_word : Shape → ℕ → ℕ
bit_word shape e = lock_count shape + 2 * shape.elements + e

abbrev pub ticket_word : Shape → ℕ
ticket_word shape = lock_count shape + 3 * shape.elements

-- where the ticket word was read as less than this, a ticket may be drawn
abbrev pub ticket_bound : ℕ
ticket_bound = 2 ^ 63

-- 0 is not held, 1 and the CPU is held by it
abbrev pub lock_code : Option ℕ → ℕ
lock_code None = 0
lock_code (Some cpu) = 1 + cpu

-- the owners of all elements, as codes
abbrev pub opening_codes : Shape → List ℕ
opening_codes shape =
    map owner_code (map (opening_owner shape shape.kind) (range_with_len 0 shape.elements))

-- and their homes
abbrev pub opening_home_codes : Shape → List ℕ
opening_home_codes shape =
    map home_code (map (opening_home shape) (range_with_len 0 shape.elements))

-- Nobody holds a lock, each element has its first owner and its first home, no bit is set, and no ticket was drawn.
unfoldable pub opening_words : Shape → List ℕ
opening_words shape =
    ((replicate (lock_count shape) 0 ++ opening_codes shape) ++ opening_home_codes shape) ++ replicate (shape.elements + 1) 0
