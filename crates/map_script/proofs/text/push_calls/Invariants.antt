use Rattle.std.proofs.Common.{◌≡◌, ◌++◌, drop}
use Rattle.std.specs.List.{flat_map}
use Rattle.map_script.specs.Canonical.{call_text}
use Rattle.map_script.proofs.text.push_calls.Given as goal

-- the text so far and the calls that are left are all the calls
abbrev pub invariant-loop-call : goal.invariant-loop-call
invariant-loop-call l =
    l.text.items ++ flat_map call_text (drop l.call-index l.calls) ≡ l.initial.text.items ++ flat_map call_text l.calls
