-- What a token says.
use Rattle.std.specs.Prelude.{ℕ, ◌&&◌, Bool, List, length, nat_le, Option, Some, None, if◌then◌else◌}
use Rattle.std.specs.Char.{is_ascii_digit}
use Rattle.std.specs.List.{list_all}
use Rattle.std.specs.Str.Parse.{digits_value}

-- 1 to 10 decimal digits
abbrev pub is_numeral : List ℕ → Bool
is_numeral token = nat_le 1 (length token) && nat_le (length token) 10 && list_all is_ascii_digit token

-- the number that a token writes, of at most 32 bits
abbrev pub number_of : List ℕ → Option ℕ
number_of token =
    if is_numeral token && nat_le (digits_value 10 token) 4294967295 then Some (digits_value 10 token) else None
