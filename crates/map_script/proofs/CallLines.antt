-- A call line that is read is within the limits.
use Rattle.std.proofs.Common.{◌≡◌, ℕ, ◌+◌, ◌≤◌, true, cond, nat_le, nat_lt, Ok, Err, sym, ap, ◌∙◌, arith}
use Rattle.std.proofs.lemmas.Bool.Decides.{nat_tests}
use Rattle.map_types.specs.declared.attr.Shape.{Shape}
use Rattle.map_types.specs.declared.call.Call.{Call}
use Rattle.map_script.specs.declared.refusal.Cause.TheVariants.{Calls, Room}
use Rattle.map_script.specs.Grammar.{call_line, reply_bytes}
use Rattle.map_script.specs.Places.{Tokens}
use Rattle.map_script.specs.Reading.{call_within}
use Rattle.map_script.proofs.PlaceLemmas.{step_found, chosen}

-- a call that is within the limits
pub record IsWithin (version : ℕ) (shape : Shape) (count room : ℕ) (tokens : Tokens) (call : Call) : Type 0 where
  pub read : call_line version shape tokens ≡ Ok call
  pub counted : count + 1 ≤ 200000
  pub replied : room + reply_bytes shape call.verb ≤ 67108864

pub within_has : (version : ℕ) (shape : Shape) (count room : ℕ) (tokens : Tokens) (call : Call) → call_within version shape count room tokens ≡ Ok call → IsWithin version shape count room tokens call
within_has version shape count room tokens call found =
    let made = step_found (call_line version shape tokens) (λ call. cond (nat_lt count 200000) (cond (nat_le (room + reply_bytes shape call.verb) 67108864) (Ok call) (Err Room)) (Err Calls)) call found in
    let counted = chosen (nat_lt count 200000) (cond (nat_le (room + reply_bytes shape made.0.verb) 67108864) (Ok made.0) (Err Room)) Calls call made.2 in
    let replied = chosen (nat_le (room + reply_bytes shape made.0.verb) 67108864) (Ok made.0) Room call counted.1 in
    let same : made.0 ≡ call = cc (replied.1) in
    let test : nat_le (room + reply_bytes shape call.verb) 67108864 ≡ true = ap (λ (call : Call). nat_le (room + reply_bytes shape call.verb) 67108864) (sym same) ∙ replied.0 in
    let few = counted.0 in
    record {
      read = made.1 ∙ ap Ok same;
      counted = grind (arith, nat_tests);
      replied = grind (arith, nat_tests);
    }
