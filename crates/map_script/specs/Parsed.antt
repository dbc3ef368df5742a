-- What a function that parses a line returns, against what the definition of the line gives. Where memory ran out nothing is said.
use Rattle.std.specs.Prelude.{◌≡◌, ℕ, Result, Ok, Err}
use Rattle.map_script.specs.declared.refusal.Cause.{Cause}
use Rattle.map_script.specs.declared.refusal.ScriptRefusal.{ScriptRefusal}
use Rattle.map_script.specs.declared.refusal.ScriptRefusal.TheVariants as refusals
use Rattle.map_script.specs.declared.line_error.LineError.{LineError}
use Rattle.map_script.specs.declared.line_error.LineError.TheVariants.{Fault, NoMemory}
use Rattle.map_script.specs.Places.{Tokens}

-- what was returned, with the tokens that are then left, is what a parser gives of the tokens
abbrev pub IsParsedWithRest : {A : Type 0} → Result A Cause → Tokens → Result (A × Tokens) Cause → Type 0
IsParsedWithRest (Ok found) rest place = place ≡ Ok (found, rest)
IsParsedWithRest (Err cause) rest place = place ≡ Err cause

-- what was returned, seen by view, is what the line is read as
abbrev pub IsParsedAs : {A B : Type 0} → (A → B) → Result A LineError → Result B Cause → Type 0
IsParsedAs view (Ok found) read = read ≡ Ok (view found)
IsParsedAs view (Err (Fault cause)) read = read ≡ Err cause
IsParsedAs view (Err NoMemory) read = Unit {0}

-- what was returned for the line with this number
abbrev pub with_number : {A : Type 0} → ℕ → Result A LineError → Result A ScriptRefusal
with_number number (Ok found) = Ok found
with_number number (Err (Fault cause)) = Err (refusals.Fault number cause)
with_number number (Err NoMemory) = Err refusals.NoMemory
