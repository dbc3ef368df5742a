use Rattle.std.proofs.Common.{◌≡◌, ◌^◌, ◌<◌, true, take}
use Rattle.std.specs.List.{list_all}
use Rattle.std.specs.Char.{is_ascii_digit}
use Rattle.std.specs.Str.Parse.{digits_value}
use Rattle.map_script.proofs.places.digits_value.Given as goal

-- the digits so far, and what they are worth
abbrev pub invariant-loop-digit : goal.invariant-loop-digit
invariant-loop-digit l =
    (l.value ≡ digits_value 10 (take l.digit-index l.token)) × (list_all is_ascii_digit (take l.digit-index l.token) ≡ true) × (l.value < 10 ^ l.digit-index)
