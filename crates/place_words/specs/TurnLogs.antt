-- Which turns of buckets stand in the logs of strands, and which are read at places.
use Rattle.std.specs.Prelude.{ℕ, List, map, take, drop, slice_get, unwrap_or, option_map, Vec}
use Rattle.std.specs.Global.{Global}
use Rattle.place_words.specs.declared.history.Entry.{Entry}
use Rattle.place_words.specs.declared.free_part.FreePart.TheVariants.{FoundEmpty}
use Rattle.place_words.specs.declared.history.Part.TheVariants as parts
use Rattle.place_words.specs.declared.turn_logs.LoggedTurn.{LoggedTurn}
use Rattle.place_words.specs.declared.turn_logs.TurnLogs.{TurnLogs}
use Rattle.place_words.specs.declared.turn_logs.TurnPlace.{TurnPlace}

-- the turn that a log has
abbrev pub turn_logged : LoggedTurn → Entry
turn_logged turn = record { ticket = turn.ticket; cpu = turn.cpu; call = turn.call; part = parts.Bucket turn.part }

-- what is read where no turn stands
abbrev pub no_turn : Entry
no_turn = record { ticket = 0; cpu = 0; call = 0; part = parts.Free FoundEmpty }

-- the turn at a place of a log, and at a place of some logs
abbrev pub turn_in : List LoggedTurn → ℕ → Entry
turn_in turns place = unwrap_or (option_map turn_logged (slice_get turns place)) no_turn

abbrev pub turn_at : List (Vec LoggedTurn Global) → TurnPlace → Entry
turn_at logs place = unwrap_or (option_map (λ turns. turn_in turns.items place.turn) (slice_get logs place.log)) no_turn

-- the turns at so many places from the first on, or at the fewer that are there
abbrev pub turns_at : TurnLogs → ℕ → ℕ → List Entry
turns_at logs first count = map (turn_at logs.logs.items) (take count (drop first logs.places.items))
